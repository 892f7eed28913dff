-- The writes of a commit, one by one. What is carried: every open place has its source (`Sourced`), and no open place names a gather on the stack.
use Rattle.std.specs.Prelude.{◌≡◌, ◌⊎◌, Bool, false, ℕ, zero, suc, ◌+◌, ◌^◌, ◌<◌}
use Rattle.std.proofs.Math.Path.{refl, sym, ap, subst}
use Rattle.std.proofs.Common.{◌∙◌, inl, inr, arith, ltb→lt}
use Rattle.std.proofs.Math.Bool.{true, true≢false}
use Rattle.std.proofs.Math.Option.{none, some, some-injective}
use Rattle.std.proofs.Math.Decide.{ℕ_discrete}
use Rattle.std.proofs.Math.Dec.{T}
use Rattle.asyncio.specs.declared.Value.{Value}
use Rattle.std.specs.Prelude.{Some}
use Rattle.asyncio.specs.declared.Awaiter.{Awaiter}
use Rattle.asyncio.specs.declared.GatherState.{GatherState}
use Rattle.asyncio.specs.declared.Object.{Object}
use Rattle.asyncio.specs.declared.Place.{Place}
use Rattle.asyncio.specs.declared.Task.{Task}
use Rattle.asyncio.specs.declared.Header.{Header}
use Rattle.asyncio.specs.Limits.{object_limit, place_limit, task_limit}
use Rattle.asyncio.specs.Numbers.{heap_id}
use Rattle.asyncio.specs.Ranges.{ObjectFits, ValueFits}
use Rattle.asyncio.specs.States.{pick, is_nobody, is_live}
use Rattle.asyncio.specs.Kinds.{kind, is_coroutine, is_committed}
use Rattle.asyncio.specs.Parts.{awaiter_of}
use Rattle.queue.specs.Queue.{entries, push_back}
use Rattle.machine.specs.Store.{Store, View, view, task, object, place, header, put_object, put_place}
use Rattle.machine.specs.Scheduler.{AwaitedGather, PendingExternal, as_awaited, as_pending, bit, spawn_as}
use Rattle.machine.specs.Commit.{open_place, fill_place}
use Rattle.machine.specs.Sound.{awaiter_in_range, task_in_range, is_slot}
use Rattle.machine_laws.specs.Views.{Sized, update}
use Rattle.machine_laws.specs.Facts.{Open, SoundBut, Nothing}
use Rattle.machine_laws.specs.TestLaws.{holds, both_left, both_right, implies_use}
use Rattle.machine_laws.specs.StoreLaws.{update_same, update_other, header_put-object, object_put-object, object_put-other, place_put-place, place_put-other, place-fits}
use Rattle.machine_laws.specs.DeliveryLaws.{absurd_some}
use Rattle.machine_theorems.specs.Bounds.Bits.{bit-set-other, none-set}
use Rattle.machine_theorems.specs.Soundness.Deliver.{task_slot, awaiter_is}
use Rattle.machine_theorems.specs.Soundness.SpawnTask.{one_more, spawned_row, spawn_view, awaiter_below}
use Rattle.machine_theorems.specs.Soundness.Memory.{Memory}
use Rattle.machine_theorems.specs.Soundness.Fill.{awaits_on}
use Rattle.machine_theorems.specs.Soundness.CommitSteps.{wider}
use Rattle.machine_theorems.specs.Soundness.CommitItems.{spawn_store_view}
use Rattle.machine_sessions.specs.Stall.NoStall.{Source, by_external, by_gather, by_nobody, by_task, Roots, root, above, Sourced}
use Rattle.machine_sessions.specs.Stall.SourcedPlan.{SourcedBut, OnWay, but_of, all_of}
use Rattle.machine_sessions.specs.Stall.SourcedClimb.{settle_sourced, apart}
use Rattle.machine_sessions.specs.Stall.SourcedEvents.{takes_sourced}

-- In the midst of a commit, whose stack is Q. (None of G is a gather; a place that names one of G has its source, nobody.)
pub record Lit (G : ℕ → Type 0) (Q : ℕ → Type 0) (s : Store) : Type 0 where
  pub sourced : Sourced G s
  pub unnamed : (q p : ℕ) (w : AwaitedGather) → Q q → p < (header s).made → as_awaited (object s p) ≡ some w → Open (place s) w q → G q

-- with fewer on the stack
pub lit_fewer : {G : ℕ → Type 0} {Q R : ℕ → Type 0} {s : Store} → ((q : ℕ) → R q → Q q) → Lit G Q s → Lit G R s
lit_fewer f k = record { sourced = k.sourced; unnamed = λ q p w r l e op. k.unnamed q p w (f q r) l e op }

slot_gather : Awaiter → ℕ
slot_gather Awaiter.Nobody = 0
slot_gather (Awaiter.Task t) = 0
slot_gather (Awaiter.GatherSlot a b) = a.0

pub slot_gather_same : (g x p o : ℕ) → Awaiter.GatherSlot (heap_id g) (heap_id x) ≡ Awaiter.GatherSlot (heap_id p) (heap_id o) → g ≡ p
slot_gather_same g x p o q = unfold slot_gather in (ap slot_gather q)

-- ---- what soundness says of sources and roots

-- the coroutine of a live task with a slot is one
coroutine-at : (hd : Header) (os : ℕ → Object) (t : ℕ) (r : Task) (g x : ℕ) → T (task_in_range hd os t r) → T (is_live r.state) → r.awaiter ≡ Awaiter.GatherSlot (heap_id g) (heap_id x)
    → T (is_coroutine (kind (os r.coroutine.0)))
unfolding task_in_range
coroutine-at hd os zero r g x k lv a =
    absurd (subst (λ (y : Awaiter). T (is_nobody y)) a (both_left (is_nobody r.awaiter) _ (both_right _ _ k)))
coroutine-at hd os (suc t) r g x k lv a =
    let z = implies_use (is_live r.state) _ lv k in
    both_right _ _ (both_right (awaiter_in_range hd r.awaiter) _ (both_right (is_slot r.awaiter) _ z))

-- the gather of a slot is made
slot_made : (hd : Header) (a : Awaiter) (g x : ℕ) → T (awaiter_in_range hd a) → a ≡ Awaiter.GatherSlot (heap_id g) (heap_id x) → g < hd.made
unfolding awaiter_in_range
slot_made hd a g x k e = ltb→lt g hd.made (subst (λ (b : Awaiter). T (awaiter_in_range hd b)) e k)

module _ (s : Store) (n : ℕ) (P Q : ℕ → Type 0) (b : SoundBut n P Q (view s)) where
  -- a gather not committed yet is nobody's source
  pub pending_source : {G : ℕ → Type 0} (p o f m : ℕ) → object s o ≡ Object.GatherFuture f m GatherState.Pending → Source G s p o → G o
  unfolding view as_pending as_awaited kind
  pending_source p o f m e (by_external x q a) = absurd_some (sym (ap as_pending e) ∙ q)
  pending_source p o f m e (by_gather x q a) = absurd_some (sym (ap as_awaited e) ∙ q)
  pending_source p o f m e (by_nobody j) = j
  pending_source p o f m e (by_task t l lv a) =
      let own : o ≡ (task s t).coroutine.0 = (b.task_slots t l (holds _ lv) p o a).own in
      let co : T (is_coroutine (kind (object s (task s t).coroutine.0))) = coroutine-at (header s) (object s) t (task s t) p o (b.tasks t l) (holds _ lv) a in
      absurd (subst (λ (y : Object). T (is_coroutine (kind y))) e (subst (λ (j : ℕ). T (is_coroutine (kind (object s j)))) (sym own) co))

  -- the gather above a made one is made
  pub parent_made : (p q x : ℕ) (w : AwaitedGather) → p < (header s).made → as_awaited (object s p) ≡ some w → w.awaiter ≡ Awaiter.GatherSlot (heap_id q) (heap_id x) → q < (header s).made
  unfolding view
  parent_made p q x w l e a = slot_made (header s) (awaiter_of (object s p)) q x (b.awaiters p l) (awaiter_is (object s p) w e ∙ a)

  -- the task at the top was spawned
  pub roots_spawned : {g t : ℕ} → g < (header s).made → Roots s g t → t < (header s).next
  unfolding view
  roots_spawned l (root g t w e a) = awaiter_below (header s) (awaiter_of (object s g)) t (b.awaiters g l) (awaiter_is (object s g) w e ∙ a)
  roots_spawned l (above g t p x w e a r) = roots_spawned (parent_made g p x w l e a) r

-- ---- a gather not committed yet is opened: nobody named it, and no slot is in it

module _ (G : ℕ → Type 0) (s : Store) (Q R : ℕ → Type 0) (n o f c : ℕ) (a : Awaiter) (z : Sized s) (low : o < object_limit) (fits : ObjectFits (Object.GatherFuture f c (GatherState.Awaited a 0)))
    (was : object s o ≡ Object.GatherFuture f c GatherState.Pending) (b : SoundBut n Nothing Q (view s))
    (slots : (p : ℕ) (w : AwaitedGather) → p < (header s).made → as_awaited (object s p) ≡ some w → (x : ℕ) → w.awaiter ≡ Awaiter.GatherSlot (heap_id o) (heap_id x) → ⊥)
    (stack : (q : ℕ) → R q → (q ≡ o) ⊎ Q q) where
  y0 : Object
  y0 = Object.GatherFuture f c (GatherState.Awaited a 0)

  u0 : Store
  u0 = put_object s o y0

  -- it has no open place
  closed : (w : AwaitedGather) (x : ℕ) → as_awaited (object u0 o) ≡ some w → Open (place s) w x → ⊥
  unfolding u0 y0
  closed w x e op =
      let same : record { first = f; count = c; awaiter = a; open_places = 0 } ≡ w =
      some-injective (record { first = f; count = c; awaiter = a; open_places = 0 }) w (sym (ap as_awaited (object_put-object s o y0 z low fits) ∙ (unfold as_awaited in refl)) ∙ e) in
      true≢false (sym op.is_open ∙ (ap (λ (v : AwaitedGather). bit v.open_places op.at) (sym same) ∙ none-set op.at))

  other : (p : ℕ) (w : AwaitedGather) → (p ≡ o → ⊥) → as_awaited (object u0 p) ≡ some w → as_awaited (object s p) ≡ some w
  unfolding u0 y0
  other p w ne e = sym (ap as_awaited (object_put-other s o p y0 ne)) ∙ e

  made_as : (p : ℕ) → p < (header u0).made → p < (header s).made
  unfolding u0
  made_as p l = subst (λ (h : Header). p < h.made) (header_put-object s o y0) l

  places-as : (w : AwaitedGather) (x : ℕ) → Open (place u0) w x → Open (place s) w x
  unfolding u0
  places-as w x op = record { at = op.at; under = op.under; is_open = op.is_open; names = unfold place put_object in op.names }

  still : (p x : ℕ) → Source G s p x → Source G u0 p x
  unfolding u0 y0
  still p x k = by (ℕ_discrete x o) k
    where
      by : Dec (x ≡ o) → Source G s p x → Source G (put_object s o y0) p x
      by (yes d) k = by_nobody (subst G (sym d) (pending_source s n Nothing Q b p o f c was (subst (λ (j : ℕ). Source G s p j) d k)))
      by (no ne) (by_external y e q) = by_external y (ap as_pending (object_put-other s o x y0 ne) ∙ e) q
      by (no ne) (by_gather y e q) = by_gather y (ap as_awaited (object_put-other s o x y0 ne) ∙ e) q
      by (no ne) (by_nobody j) = by_nobody j
      by (no ne) (by_task t l lv q) = by_task t (subst (λ (h : Header). t < h.next) (sym (header_put-object s o y0)) l) (unfold task put_object in lv) (unfold task put_object in q)

  roots-was : {p t : ℕ} → p < (header s).made → (p ≡ o → ⊥) → Roots u0 p t → Roots s p t
  roots-was l ne (root p t w e q) = root p t w (other p w ne e) q
  roots-was l ne (above p t g x w e q r) =
      let was-e : as_awaited (object s p) ≡ some w = other p w ne e in
      above p t g x w was-e q (roots-was (parent_made s n Nothing Q b p g x w l was-e q)
      (λ d. slots p w l was-e x (q ∙ ap (λ (j : ℕ). Awaiter.GatherSlot (heap_id j) (heap_id x)) d)) r)

  -- no live task has a slot in it
  no_task : (t g x : ℕ) → t < (header s).next → is_live (task s t).state ≡ true → (task s t).awaiter ≡ Awaiter.GatherSlot (heap_id g) (heap_id x) → (g < (header s).made) × (g ≡ o → ⊥)
  unfolding view
  no_task t g x l lv q =
      let sl = b.task_slots t l (holds _ lv) g x q in
      (sl.made, λ d. unfold kind in (subst (λ (y : Object). T (is_committed (kind y))) was (subst (λ (j : ℕ). T (is_committed (kind (object s j)))) d sl.committed)))

  pub open_sourced : Lit G Q s → Lit G R (put_object s o (Object.GatherFuture f c (GatherState.Awaited a 0)))
  unfolding u0 y0
  open_sourced k =
      record {
        sourced = record {
          sources = λ p x w l e op. at p x w l e op (ℕ_discrete p o);
          rising = λ v g x t l lv q r.
              let l1 : v < (header s).next = subst (λ (h : Header). v < h.next) (header_put-object s o y0) l in
              let lv1 : is_live (task s v).state ≡ true = unfold task put_object in lv in
              let q1 : (task s v).awaiter ≡ Awaiter.GatherSlot (heap_id g) (heap_id x) = unfold task put_object in q in
              let m = no_task v g x l1 lv1 q1 in
              k.sourced.rising v g x t l1 lv1 q1 (roots-was m.0 m.1 r);
        };
        unnamed = λ q p w r l e op. none-names q p w r l e op (ℕ_discrete p o);
      }
    where
      at : (p x : ℕ) (w : AwaitedGather) → p < (header u0).made → as_awaited (object u0 p) ≡ some w → Open (place u0) w x → Dec (p ≡ o) → Source G u0 p x
      at p x w l e op (yes d) = absurd (closed w x (subst (λ (j : ℕ). as_awaited (object u0 j) ≡ some w) d e) (places-as w x op))
      at p x w l e op (no ne) = still p x (k.sourced.sources p x w (made_as p l) (other p w ne e) (places-as w x op))

      none-names : (q p : ℕ) (w : AwaitedGather) → R q → p < (header u0).made → as_awaited (object u0 p) ≡ some w → Open (place u0) w q → Dec (p ≡ o) → G q
      none-names q p w r l e op (yes d) = absurd (closed w q (subst (λ (j : ℕ). as_awaited (object u0 j) ≡ some w) d e) (places-as w q op))
      none-names q p w r l e op (no ne) = by (stack q r)
        where
          by : (q ≡ o) ⊎ Q q → G q
          by (inl d) =
              subst G (sym d) (pending_source s n Nothing Q b p o f c was (subst (λ (j : ℕ). Source G s p j) d
              (k.sourced.sources p q w (made_as p l) (other p w ne e) (places-as w q op))))
          by (inr m) = k.unnamed q p w m (made_as p l) (other p w ne e) (places-as w q op)

-- ---- a place is filled

pub fill_sourced : {G : ℕ → Type 0} (Q : ℕ → Type 0) (s : Store) (w : AwaitedGather) (i : ℕ) (v : Value) → Sized s → w.first + i < place_limit → ValueFits v → Lit G Q s → Lit G Q (fill_place s w i v)
unfolding fill_place
fill_sourced {G} Q s w i v z low fits k =
    record {
      sourced = record {
        sources = λ g o x l e op. still g o (k.sourced.sources g o x (made_as g l) (object_as g x e) (was x o op));
        rising = λ t g x r l lv a q. k.sourced.rising t g x r (next_as t l) (live_as t lv) (awaits_as t g x a) (roots-was q);
      };
      unnamed = λ q p x r l e op. k.unnamed q p x r (made_as p l) (object_as p x e) (was x q op);
    }
  where
    row : Place
    row = record { item = (place s (w.first + i)).item; result = Some v }

    u : Store
    u = put_place s (w.first + i) row

    made_as : (g : ℕ) → g < (header u).made → g < (header s).made
    made_as g l = unfold header put_place in l

    object_as : (g : ℕ) (x : AwaitedGather) → as_awaited (object u g) ≡ some x → as_awaited (object s g) ≡ some x
    object_as g x e = unfold object put_place in e

    next_as : (t : ℕ) → t < (header u).next → t < (header s).next
    next_as t l = unfold header put_place in l

    live_as : (t : ℕ) → is_live (task u t).state ≡ true → is_live (task s t).state ≡ true
    live_as t lv = unfold task put_place in lv

    awaits_as : (t g x : ℕ) → (task u t).awaiter ≡ Awaiter.GatherSlot (heap_id g) (heap_id x) → (task s t).awaiter ≡ Awaiter.GatherSlot (heap_id g) (heap_id x)
    awaits_as t g x a = unfold task put_place in a

    item : (p : ℕ) → (place u p).item.0 ≡ (place s p).item.0
    item p = by (ℕ_discrete p (w.first + i))
      where
        by : Dec (p ≡ w.first + i) → (place u p).item.0 ≡ (place s p).item.0
        by (yes q) =
            subst (λ (m : ℕ). (place u m).item.0 ≡ (place s m).item.0) (sym q)
            (ap (λ (y : Place). y.item.0) (place_put-place s (w.first + i) row z low (record { item_fits = (place-fits s (w.first + i)).item_fits; result_fits = fits })))
        by (no ne) = ap (λ (y : Place). y.item.0) (place_put-other s (w.first + i) p row ne)

    was : (x : AwaitedGather) (o : ℕ) → Open (place u) x o → Open (place s) x o
    was x o op = record { at = op.at; under = op.under; is_open = op.is_open; names = sym (item (x.first + op.at)) ∙ op.names }

    still : (g o : ℕ) → Source G s g o → Source G u g o
    still g o (by_external p e a) = by_external p (unfold object put_place in e) a
    still g o (by_gather p e a) = by_gather p (unfold object put_place in e) a
    still g o (by_nobody j) = by_nobody j
    still g o (by_task t l lv a) = by_task t (unfold header put_place in l) (unfold task put_place in lv) (unfold task put_place in a)

    roots-was : {g t : ℕ} → Roots u g t → Roots s g t
    roots-was (root g t x e a) = root g t x (unfold object put_place in e) a
    roots-was (above g t p j x e a r) = above g t p j x (unfold object put_place in e) a (roots-was r)

-- ---- a gather leaves the stack, completed or failed: no open place names it

pub leave_sourced : {G : ℕ → Type 0} (Q R : ℕ → Type 0) (s : Store) (g : ℕ) (w : AwaitedGather) (y : Object) → Sized s → g < object_limit → ObjectFits y → as_awaited (object s g) ≡ some w → as_awaited y ≡ none → Q g
    → ((q : ℕ) → R q → Q q) → Lit G Q s → Lit G R (put_object s g y)
leave_sourced {G} Q R s g w y z low fits was settled on fewer k =
    record {
      sourced = all_of u (record { sources = λ p o v l e op n. by p o v l e op (ℕ_discrete o g); rising = c.rising });
      unnamed = λ q p v r l e op. k.unnamed q p v (fewer q r) (made_as p l) (before p v e) (places-as v q op);
    }
  where
    u : Store
    u = put_object s g y

    c : SourcedBut G (OnWay w.awaiter g) u
    c = settle_sourced _ (λ p o. ⊥) s g w y z low fits was settled (λ p o d. absurd d) (but_of s k.sourced)

    made_as : (p : ℕ) → p < (header u).made → p < (header s).made
    made_as p l = subst (λ (h : Header). p < h.made) (header_put-object s g y) l

    before : (p : ℕ) (v : AwaitedGather) → as_awaited (object u p) ≡ some v → as_awaited (object s p) ≡ some v
    before p v e = by (ℕ_discrete p g)
      where
        by : Dec (p ≡ g) → as_awaited (object s p) ≡ some v
        by (yes q) = absurd_some (sym settled ∙ (sym (ap as_awaited (object_put-object s g y z low fits)) ∙ subst (λ (m : ℕ). as_awaited (object u m) ≡ some v) q e))
        by (no ne) = sym (ap as_awaited (object_put-other s g p y ne)) ∙ e

    places-as : (v : AwaitedGather) (x : ℕ) → Open (place u) v x → Open (place s) v x
    places-as v x op = record { at = op.at; under = op.under; is_open = op.is_open; names = unfold place put_object in op.names }

    named : (p o : ℕ) (v : AwaitedGather) → p < (header u).made → as_awaited (object u p) ≡ some v → Open (place u) v o → o ≡ g → G g
    named p o v l e op d = k.unnamed g p v on (made_as p l) (before p v e) (subst (λ (j : ℕ). Open (place s) v j) d (places-as v o op))

    by : (p o : ℕ) (v : AwaitedGather) → p < (header u).made → as_awaited (object u p) ≡ some v → Open (place u) v o → Dec (o ≡ g) → Source G u p o
    by p o v l e op (yes d) = by_nobody (subst G (sym d) (named p o v l e op d))
    by p o v l e op (no ne) = c.sources p o v l e op (λ d. ne d.1)

-- ---- a gather on the stack opens a place, whose source is there

module _ (G : ℕ → Type 0) (Q : ℕ → Type 0) (s : Store) (g : ℕ) (w v : AwaitedGather) (y : Object) (z : Sized s) (made : g < (header s).made) (low : g < object_limit) (fits : ObjectFits y)
    (was : as_awaited (object s g) ≡ some w) (now : as_awaited y ≡ some v) (same_awaiter : v.awaiter ≡ w.awaiter)
    (more : (q : ℕ) → Open (place s) v q → Open (place s) w q ⊎ (Source G s g q × (Q q → G q))) where
  row_now : as_awaited (object (put_object s g y) g) ≡ some v
  row_now = ap as_awaited (object_put-object s g y z low fits) ∙ now

  pub wider_sourced : Lit G Q s → Lit G Q (put_object s g y)
  wider_sourced k =
      record {
        sourced = record {
          sources = λ p q x l e op. by p q x (made_as p l) e (places-as x q op) (ℕ_discrete p g);
          rising = λ n p x t l lv a r. k.sourced.rising n p x t (subst (λ (h : Header). n < h.next) (header_put-object s g y) l) (unfold task put_object in lv) (unfold task put_object in a) (roots-was r);
        };
        unnamed = λ q p x r l e op. un q p x r (made_as p l) e (places-as x q op) (ℕ_discrete p g);
      }
    where
      u : Store
      u = put_object s g y

      made_as : (p : ℕ) → p < (header u).made → p < (header s).made
      made_as p l = subst (λ (h : Header). p < h.made) (header_put-object s g y) l

      places-as : (x : AwaitedGather) (q : ℕ) → Open (place u) x q → Open (place s) x q
      places-as x q op = record { at = op.at; under = op.under; is_open = op.is_open; names = unfold place put_object in op.names }

      same : (p : ℕ) (x : AwaitedGather) → p ≡ g → as_awaited (object u p) ≡ some x → v ≡ x
      same p x d e = some-injective v x (sym row_now ∙ subst (λ (m : ℕ). as_awaited (object u m) ≡ some x) d e)

      still : (p q : ℕ) → Source G s p q → Source G u p q
      still p q (by_external x e a) = by_external x (ap as_pending (object_put-other s g q y (λ d. apart (object s g) x w (subst (λ (m : ℕ). as_pending (object s m) ≡ some x) d e) was)) ∙ e) a
      still p q (by_gather x e a) = at (ℕ_discrete q g)
        where
          at : Dec (q ≡ g) → Source G u p q
          at (yes d) =
              let same : w ≡ x = some-injective w x (sym was ∙ subst (λ (m : ℕ). as_awaited (object s m) ≡ some x) d e) in
              by_gather v (subst (λ (m : ℕ). as_awaited (object u m) ≡ some v) (sym d) row_now) (same_awaiter ∙ (ap (λ (j : AwaitedGather). j.awaiter) same ∙ a))
          at (no ne) = by_gather x (ap as_awaited (object_put-other s g q y ne) ∙ e) a
      still p q (by_nobody j) = by_nobody j
      still p q (by_task t l lv a) = by_task t (subst (λ (h : Header). t < h.next) (sym (header_put-object s g y)) l) (unfold task put_object in lv) (unfold task put_object in a)

      by : (p q : ℕ) (x : AwaitedGather) → p < (header s).made → as_awaited (object u p) ≡ some x → Open (place s) x q → Dec (p ≡ g) → Source G u p q
      by p q x l e op (yes d) = still p q (subst (λ (j : ℕ). Source G s j q) (sym d) (on (more q (subst (λ (j : AwaitedGather). Open (place s) j q) (sym (same p x d e)) op))))
        where
          on : Open (place s) w q ⊎ (Source G s g q × (Q q → G q)) → Source G s g q
          on (inl o) = k.sourced.sources g q w made was o
          on (inr c) = c.0
      by p q x l e op (no ne) = still p q (k.sourced.sources p q x l (sym (ap as_awaited (object_put-other s g p y ne)) ∙ e) op)

      un : (q p : ℕ) (x : AwaitedGather) → Q q → p < (header s).made → as_awaited (object u p) ≡ some x → Open (place s) x q → Dec (p ≡ g) → G q
      un q p x r l e op (yes d) = on (more q (subst (λ (j : AwaitedGather). Open (place s) j q) (sym (same p x d e)) op))
        where
          on : Open (place s) w q ⊎ (Source G s g q × (Q q → G q)) → G q
          on (inl o) = k.unnamed q g w r made was o
          on (inr c) = c.1 r
      un q p x r l e op (no ne) = k.unnamed q p x r l (sym (ap as_awaited (object_put-other s g p y ne)) ∙ e) op

      roots-was : {p t : ℕ} → Roots u p t → Roots s p t
      roots-was (root p t x e a) = at (ℕ_discrete p g)
        where
          at : Dec (p ≡ g) → Roots s p t
          at (yes d) = root p t w (subst (λ (m : ℕ). as_awaited (object s m) ≡ some w) (sym d) was) (sym same_awaiter ∙ (ap (λ (j : AwaitedGather). j.awaiter) (same p x d e) ∙ a))
          at (no ne) = root p t x (sym (ap as_awaited (object_put-other s g p y ne)) ∙ e) a
      roots-was (above p t q j x e a r) = at (ℕ_discrete p g) (roots-was r)
        where
          at : Dec (p ≡ g) → Roots s q t → Roots s p t
          at (yes d) b = above p t q j w (subst (λ (m : ℕ). as_awaited (object s m) ≡ some w) (sym d) was) (sym same_awaiter ∙ (ap (λ (i : AwaitedGather). i.awaiter) (same p x d e) ∙ a)) b
          at (no ne) b = above p t q j x (sym (ap as_awaited (object_put-other s g p y ne)) ∙ e) a b

-- a bit of the wider word is one that was, or the new one
wider-was : (w : AwaitedGather) (i j : ℕ) → bit (wider w i) j ≡ true → (j ≡ i → ⊥) → bit w.open_places j ≡ true
unfolding wider
wider-was w i j e ne = by (bit w.open_places i) refl e
  where
    by : (b : Bool) → bit w.open_places i ≡ b → bit (pick b w.open_places (w.open_places + 2 ^ i)) j ≡ true → bit w.open_places j ≡ true
    by true q e = e
    by false q e = sym (bit-set-other i w.open_places j q ne) ∙ e

pub place_sourced : {G : ℕ → Type 0} (Q : ℕ → Type 0) (s : Store) (g : ℕ) (w : AwaitedGather) (i o : ℕ) → Sized s → g < (header s).made → g < object_limit → ObjectFits (awaits_on w (wider w i)) → as_awaited (object s g) ≡ some w
    → (place s (w.first + i)).item.0 ≡ o → Source G s g o → (Q o → G o) → Lit G Q s → Lit G Q (open_place s g w i)
unfolding open_place wider
place_sourced {G} Q s g w i o z made low fits was names src off k =
    wider_sourced _ Q s g w v (awaits_on w (wider w i)) z made low fits was (unfold as_awaited in refl) refl (λ q op. by q op (ℕ_discrete op.at i)) k
  where
    v : AwaitedGather
    v = record { first = w.first; count = w.count; awaiter = w.awaiter; open_places = wider w i }

    by : (q : ℕ) (op : Open (place s) v q) → Dec (op.at ≡ i) → Open (place s) w q ⊎ (Source G s g q × (Q q → G q))
    by q op (yes d) =
        let e : o ≡ q = sym names ∙ (ap (λ (j : ℕ). (place s (w.first + j)).item.0) (sym d) ∙ op.names) in
        inr (subst (λ (j : ℕ). Source G s g j) e src, subst (λ (j : ℕ). Q j → G j) e off)
    by q op (no ne) = inl (record { at = op.at; under = op.under; is_open = wider-was w i op.at op.is_open ne; names = op.names })

-- ---- a pending external without awaiter takes one

pub takes-lit : {G : ℕ → Type 0} (Q : ℕ → Type 0) (s : Store) (o : ℕ) (p : PendingExternal) (x : Object) → Sized s → o < object_limit → ObjectFits x → as_pending (object s o) ≡ some p → p.awaiter ≡ Awaiter.Nobody → as_awaited x ≡ none
    → Lit G Q s → Lit G Q (put_object s o x)
takes-lit Q s o p x z low fits was free xa k =
    record {
      sourced = takes_sourced s o p x z low fits was free xa k.sourced;
      unnamed = λ q g w r l e op. k.unnamed q g w r (subst (λ (h : Header). g < h.made) (header_put-object s o x) l) (before g w e (ℕ_discrete g o))
          (record { at = op.at; under = op.under; is_open = op.is_open; names = unfold place put_object in op.names });
    }
  where
    before : (g : ℕ) (w : AwaitedGather) → as_awaited (object (put_object s o x) g) ≡ some w → Dec (g ≡ o) → as_awaited (object s g) ≡ some w
    before g w e (yes q) = absurd_some (sym xa ∙ (sym (ap as_awaited (object_put-object s o x z low fits)) ∙ subst (λ (m : ℕ). as_awaited (object (put_object s o x) m) ≡ some w) q e))
    before g w e (no ne) = sym (ap as_awaited (object_put-other s o g x ne)) ∙ e

-- ---- a task is spawned: its number is above those of all that wait

module _ (G : ℕ → Type 0) (s : Store) (Q : ℕ → Type 0) (n c g : ℕ) (mem : Memory s) (room : (header s).next < task_limit) (low-c : c < object_limit) (low-g : g < object_limit) (made : g < (header s).made)
    (b : SoundBut n Nothing Q (view s)) where
  abbrev s2 : Store
  s2 = spawn_as s (header s).next c g

  there : view s2 ≡ spawn_view (view s) c g (entries (push_back s.queue (header s).next))
  there = spawn_store_view s c g mem room low-c low-g

  pub spawn-header : header (spawn_as s (header s).next c g) ≡ one_more (header s)
  unfolding view spawn_view
  spawn-header = ap (λ (v : View). v.header) there

  spawn-task : (u : ℕ) → task s2 u ≡ update (task s) (header s).next (spawned_row c g) u
  unfolding view spawn_view
  spawn-task u = ap (λ (v : View). v.tasks u) there

  pub spawn-object : (o : ℕ) → object (spawn_as s (header s).next c g) o ≡ object s o
  unfolding view spawn_view
  spawn-object o = ap (λ (v : View). v.objects o) there

  pub spawn-place : (p : ℕ) → place (spawn_as s (header s).next c g) p ≡ place s p
  unfolding view spawn_view
  spawn-place p = ap (λ (v : View). v.places p) there

  old-task : (u : ℕ) → (u ≡ (header s).next → ⊥) → task s2 u ≡ task s u
  old-task u ne = spawn-task u ∙ update_other (task s) (header s).next (spawned_row c g) u ne

  new-task : task s2 (header s).next ≡ spawned_row c g
  new-task = spawn-task (header s).next ∙ update_same (task s) (header s).next (spawned_row c g)

  spawn-open : (w : AwaitedGather) (x : ℕ) → Open (place s2) w x → Open (place s) w x
  spawn-open w x op = record { at = op.at; under = op.under; is_open = op.is_open; names = sym (ap (λ (p : Place). p.item.0) (spawn-place (w.first + op.at))) ∙ op.names }

  spawn-roots : {p t : ℕ} → Roots s2 p t → Roots s p t
  spawn-roots (root p t w e a) = root p t w (sym (ap as_awaited (spawn-object p)) ∙ e) a
  spawn-roots (above p t q x w e a r) = above p t q x w (sym (ap as_awaited (spawn-object p)) ∙ e) a (spawn-roots r)

  -- it will deliver
  pub spawn_source : Source G (spawn_as s (header s).next c g) g c
  spawn_source =
      by_task (header s).next (subst (λ (h : Header). (header s).next < h.next) (sym spawn-header) (omega arith)) (ap (λ (r : Task). is_live r.state) new-task ∙ refl)
      (ap (λ (r : Task). r.awaiter) new-task)

  pub spawn_sourced : Lit G Q s → Lit G Q (spawn_as s (header s).next c g)
  spawn_sourced k =
      record {
        sourced = record {
          sources = λ p x w l e op. still p x (k.sourced.sources p x w (made_as p l) (sym (ap as_awaited (spawn-object p)) ∙ e) (spawn-open w x op));
          rising = λ u p x t l lv a r. above-all u p x t (subst (λ (h : Header). u < h.next) spawn-header l) lv a (spawn-roots r) (ℕ_discrete u (header s).next);
        };
        unnamed = λ q p w r l e op. k.unnamed q p w r (made_as p l) (sym (ap as_awaited (spawn-object p)) ∙ e) (spawn-open w q op);
      }
    where
      made_as : (p : ℕ) → p < (header s2).made → p < (header s).made
      made_as p l = subst (λ (h : Header). p < h.made) spawn-header l

      still : (p x : ℕ) → Source G s p x → Source G s2 p x
      still p x (by_external y e a) = by_external y (ap as_pending (spawn-object x) ∙ e) a
      still p x (by_gather y e a) = by_gather y (ap as_awaited (spawn-object x) ∙ e) a
      still p x (by_nobody j) = by_nobody j
      still p x (by_task t l lv a) =
          let same : task s2 t ≡ task s t = old-task t (λ d. omega arith) in
          by_task t (subst (λ (h : Header). t < h.next) (sym spawn-header) (omega arith)) (ap (λ (r : Task). is_live r.state) same ∙ lv) (ap (λ (r : Task). r.awaiter) same ∙ a)

      above-all : (u p x t : ℕ) → u < (header s).next + 1 → is_live (task s2 u).state ≡ true → (task s2 u).awaiter ≡ Awaiter.GatherSlot (heap_id p) (heap_id x) → Roots s p t → Dec (u ≡ (header s).next) → t < u
      above-all u p x t l lv a r (yes d) =
          let own : (spawned_row c g).awaiter ≡ Awaiter.GatherSlot (heap_id p) (heap_id x) =
          sym (ap (λ (y : Task). y.awaiter) new-task) ∙ subst (λ (m : ℕ). (task s2 m).awaiter ≡ Awaiter.GatherSlot (heap_id p) (heap_id x)) d a in
          let same : g ≡ p = slot_gather_same g c p x own in
          subst (λ (m : ℕ). t < m) (sym d) (roots_spawned s n Nothing Q b made (subst (λ (m : ℕ). Roots s m t) (sym same) r))
      above-all u p x t l lv a r (no ne) =
          let same : task s2 u ≡ task s u = old-task u ne in
          k.sourced.rising u p x t (omega arith) (sym (ap (λ (y : Task). is_live y.state) same) ∙ lv) (sym (ap (λ (y : Task). y.awaiter) same) ∙ a) r
