-- `Sourced` through a value on its way up.
use Rattle.std.specs.Prelude.{◌≡◌, Bool, true, ◌&&◌, List, T, eqb, length}
use Rattle.std.proofs.Math.Path.{refl, sym, ap}
use Rattle.std.proofs.Common.{subst, ◌∙◌, true≢false, not-suc-le-zero, arith, eq-eqb, eqb-true}
use Rattle.std.proofs.Math.Bool.{false}
use Rattle.std.proofs.Math.Option.{Option, none, some, some-injective}
use Prim.Native.Nat.{ℕ, zero, suc, ◌+◌, ◌≤◌, ◌<◌}
use Rattle.std.proofs.Math.Decide.{ℕ_discrete}
use Rattle.asyncio.specs.declared.HeapId.{HeapId}
use Rattle.asyncio.specs.declared.Value.{Value}
use Rattle.asyncio.specs.declared.TaskState.{TaskState}
use Rattle.asyncio.specs.declared.Task.{Task}
use Rattle.asyncio.specs.declared.TaskId.{TaskId}
use Rattle.asyncio.specs.declared.Place.{Place}
use Rattle.asyncio.specs.declared.Awaiter.{Awaiter}
use Rattle.asyncio.specs.declared.GatherState.{GatherState}
use Rattle.asyncio.specs.declared.Object.{Object}
use Rattle.asyncio.specs.declared.Header.{Header}
use Rattle.asyncio.specs.Limits.{object_limit, task_limit, place_limit, places_length, u32_limit}
use Rattle.asyncio.specs.Numbers.{heap_id, task_id}
use Rattle.asyncio.specs.Ranges.{ObjectFits, ValueFits, StateFits}
use Rattle.asyncio.specs.States.{pick, is_live}
use Rattle.rows.specs.Tables.{place_at}
use Rattle.machine.specs.Store.{Store, view, task, object, place, header, put_object, put_places}
use Rattle.machine.specs.Scheduler.{AwaitedGather, PendingExternal, as_awaited, as_pending, bit}
use Rattle.machine.specs.Sound.{value_known}
use Rattle.machine.specs.Delivery.{Delivery, nobody_woken, deliver_to_task, Filled, fill_from, Settled, resolve_left, resolve_awaited, resolve_child, climb, send_value, deliver_awaiter_success}
use Rattle.machine_laws.specs.Views.{Sized}
use Rattle.machine_laws.specs.Statements.{SameLive}
use Rattle.machine_laws.specs.Facts.{Open, Slotted, Nothing}
use Rattle.machine_laws.specs.StoreLaws.{header-fits, header_put-object, object_put-object, object_put-other, sized-put_places}
use Rattle.machine_laws.specs.DeliveryLaws.{absurd_some, awaited-object, awaited-fits, length-fill_from, success_climbs, success_same}
use Rattle.machine_laws.specs.MakingLaws.{value-fits}
use Rattle.machine_theorems.specs.Soundness.Stores.{SoundDuring}
use Rattle.machine_theorems.specs.Soundness.Deliver.{Detached, Sends, delivery_ends, task_slot}
use Rattle.machine_theorems.specs.Soundness.Fill.{DeliveringValue, value-sends, all_filled}
use Rattle.machine_theorems.specs.Soundness.FillLaws.{hit, Stays, Fills, fill_stays, fill_fills, fill_less}
use Rattle.machine_sessions.specs.Stall.NoStall.{Source, by_external, by_gather, by_nobody, by_task, Roots, root, above, Sourced}
use Rattle.machine_sessions.specs.Stall.SourcedPlan.{SourcedBut, OnWay, but_of, all_of, but_same}
use Rattle.machine_sessions.specs.Stall.SourcedClimb.{settle_sourced, to_task_sourced, no_way, nobody_no, task_no, task_low, apart}

-- places that name the same
places_sourced : {G : ℕ → Type 0} {X : ℕ → ℕ → Type 0} (s : Store) (ps : List ℕ) → ((p : ℕ) → (place_at ps p).item ≡ (place s p).item) → SourcedBut G X s → SourcedBut G X (put_places s ps)
unfolding put_places place object task header
places_sourced {G} s ps same k =
    record {
      sources = λ g o w l e op n. still g o (k.sources g o w l e (record { at = op.at; under = op.under; is_open = op.is_open; names = sym (ap (λ (i : HeapId). i.0) (same (w.first + op.at))) ∙ op.names }) n);
      rising = λ v g x t l lv a r. k.rising v g x t l lv a (roots-was r);
    }
  where
    still : (g o : ℕ) → Source G s g o → Source G (put_places s ps) g o
    still g o (by_external p e a) = by_external p e a
    still g o (by_gather w e a) = by_gather w e a
    still g o (by_nobody j) = by_nobody j
    still g o (by_task t l lv a) = by_task t l lv a

    roots-was : {g t : ℕ} → Roots (put_places s ps) g t → Roots s g t
    roots-was (root g t w e a) = root g t w e a
    roots-was (above g t p x w e a r) = above g t p x w e a (roots-was r)

-- ---- a gather that waits on, with fewer places open: those left open name others than o

module _ (G : ℕ → Type 0) (o : ℕ) (s : Store) (g : ℕ) (w v : AwaitedGather) (y : Object) (z : Sized s) (low : g < object_limit) (fits : ObjectFits y) (was : as_awaited (object s g) ≡ some w) (now : as_awaited y ≡ some v)
    (same_awaiter : v.awaiter ≡ w.awaiter) (fewer : (p : ℕ) → Open (place s) v p → Open (place s) w p × (p ≡ o → ⊥)) where
  row_now : as_awaited (object (put_object s g y) g) ≡ some v
  row_now = ap as_awaited (object_put-object s g y z low fits) ∙ now

  pub waits_sourced : SourcedBut G (λ p q. (p ≡ g) × (q ≡ o)) s → Sourced G (put_object s g y)
  waits_sourced k =
      record {
        sources = λ p q x l e op. by p q x (subst (λ (h : Header). p < h.made) (header_put-object s g y) l) e (record { at = op.at; under = op.under; is_open = op.is_open; names = unfold place put_object in op.names }) (ℕ_discrete p g);
        rising = λ n p x t l lv a r. k.rising n p x t (subst (λ (h : Header). n < h.next) (header_put-object s g y) l) (unfold task put_object in lv) (unfold task put_object in a) (roots-was r);
      }
    where
      u : Store
      u = put_object s g y

      still : (p q : ℕ) → Source G s p q → Source G u p q
      still p q (by_external x e a) = by_external x (ap as_pending (object_put-other s g q y (λ d. apart (object s g) x w (subst (λ (m : ℕ). as_pending (object s m) ≡ some x) d e) was)) ∙ e) a
      still p q (by_gather x e a) = at (ℕ_discrete q g)
        where
          at : Dec (q ≡ g) → Source G u p q
          at (yes d) =
              let same : w ≡ x = some-injective w x (sym was ∙ subst (λ (m : ℕ). as_awaited (object s m) ≡ some x) d e) in
              by_gather v (subst (λ (m : ℕ). as_awaited (object u m) ≡ some v) (sym d) row_now) (same_awaiter ∙ (ap (λ (j : AwaitedGather). j.awaiter) same ∙ a))
          at (no ne) = by_gather x (ap as_awaited (object_put-other s g q y ne) ∙ e) a
      still p q (by_nobody j) = by_nobody j
      still p q (by_task t l lv a) = by_task t (subst (λ (h : Header). t < h.next) (sym (header_put-object s g y)) l) (unfold task put_object in lv) (unfold task put_object in a)

      by : (p q : ℕ) (x : AwaitedGather) → p < (header s).made → as_awaited (object u p) ≡ some x → Open (place s) x q → Dec (p ≡ g) → Source G u p q
      by p q x l e op (yes d) =
          let same : v ≡ x = some-injective v x (sym row_now ∙ subst (λ (m : ℕ). as_awaited (object u m) ≡ some x) d e) in
          let f = fewer q (subst (λ (j : AwaitedGather). Open (place s) j q) (sym same) op) in
          still p q (k.sources p q w l (subst (λ (m : ℕ). as_awaited (object s m) ≡ some w) (sym d) was) f.0 (λ n. f.1 n.1))
      by p q x l e op (no ne) = still p q (k.sources p q x l (sym (ap as_awaited (object_put-other s g p y ne)) ∙ e) op (λ n. ne n.0))

      roots-was : {p t : ℕ} → Roots u p t → Roots s p t
      roots-was (root p t x e a) = at (ℕ_discrete p g)
        where
          at : Dec (p ≡ g) → Roots s p t
          at (yes d) =
              let same : v ≡ x = some-injective v x (sym row_now ∙ subst (λ (m : ℕ). as_awaited (object u m) ≡ some x) d e) in
              root p t w (subst (λ (m : ℕ). as_awaited (object s m) ≡ some w) (sym d) was) (sym same_awaiter ∙ (ap (λ (j : AwaitedGather). j.awaiter) same ∙ a))
          at (no ne) = root p t x (sym (ap as_awaited (object_put-other s g p y ne)) ∙ e) a
      roots-was (above p t q j x e a r) = at (ℕ_discrete p g) (roots-was r)
        where
          at : Dec (p ≡ g) → Roots s q t → Roots s p t
          at (yes d) b =
              let same : v ≡ x = some-injective v x (sym row_now ∙ subst (λ (m : ℕ). as_awaited (object u m) ≡ some x) d e) in
              above p t q j w (subst (λ (m : ℕ). as_awaited (object s m) ≡ some w) (sym d) was) (sym same_awaiter ∙ (ap (λ (i : AwaitedGather). i.awaiter) same ∙ a)) b
          at (no ne) b = above p t q j x (sym (ap as_awaited (object_put-other s g p y ne)) ∙ e) a b

-- ---- a value

pub weaken : {G : ℕ → Type 0} {X Y : ℕ → ℕ → Type 0} (s : Store) → ((p q : ℕ) → X p q → Y p q) → SourcedBut G X s → SourcedBut G Y s
weaken s f k = record { sources = λ g o w l e op n. k.sources g o w l e op (λ x. n (f g o x)); rising = k.rising }

slot_gather : Awaiter → ℕ
slot_gather Awaiter.Nobody = 0
slot_gather (Awaiter.Task t) = 0
slot_gather (Awaiter.GatherSlot a b) = a.0

same_slot : (g x p o : ℕ) → Awaiter.GatherSlot (heap_id g) (heap_id x) ≡ Awaiter.GatherSlot (heap_id p) (heap_id o) → p ≡ g
same_slot g x p o q = unfold slot_gather in (sym (ap slot_gather q))

to_lives : (s : Store) (t : TaskId) (v : Value) (m : ℕ) → is_live (task (deliver_awaiter_success s (Awaiter.Task t) v).store m).state ≡ is_live (task s m).state
    → is_live (task (deliver_to_task s t.0 (TaskState.Woken v)).store m).state ≡ is_live (task s m).state
unfolding deliver_awaiter_success send_value
to_lives s t v m h = h

to_all : {G : ℕ → Type 0} (s : Store) (t : TaskId) (v : Value) → SourcedBut G (λ g p. ⊥) (deliver_to_task s t.0 (TaskState.Woken v)).store → Sourced G (deliver_awaiter_success s (Awaiter.Task t) v).store
unfolding deliver_awaiter_success send_value
to_all s t v c = all_of _ c

nobody_all : {G : ℕ → Type 0} (s : Store) (v : Value) → Sourced G s → Sourced G (deliver_awaiter_success s Awaiter.Nobody v).store
unfolding deliver_awaiter_success send_value nobody_woken
nobody_all s v k = k

stays_all : {G : ℕ → Type 0} (s : Store) (g x : HeapId) (v : Value) (u : Store) → resolve_child s g.0 x.0 v ≡ record { store = u; onward = none } → Sourced G u → Sourced G (deliver_awaiter_success s (Awaiter.GatherSlot g x) v).store
unfolding deliver_awaiter_success send_value
stays_all s g x v u e k = rw e (unfold climb nobody_woken in k)

-- a place that is open after the filling was open before, and names another than the source
left_open : (s : Store) (w : AwaitedGather) (x : ℕ) (v : Value) (j : ℕ) → Sized s → w.first + w.count ≤ place_limit → ValueFits v → j < w.count
    → bit (fill_from s.places w.open_places w.first x v 0 w.count).open_places j ≡ true
    → (bit w.open_places j ≡ true) × ((place_at s.places (w.first + j)).item.0 ≡ x → ⊥)
left_open s w x v j z r f l e = by (hit s.places w.open_places w.first x j) refl
  where
    F : Filled
    F = fill_from s.places w.open_places w.first x v 0 w.count

    both_true : (a b : Bool) → (a && b) ≡ false → a ≡ true → b ≡ false
    both_true true b q p = q
    both_true false b q p = absurd (true≢false (sym p))

    by : (b : Bool) → hit s.places w.open_places w.first x j ≡ b → (bit w.open_places j ≡ true) × ((place_at s.places (w.first + j)).item.0 ≡ x → ⊥)
    by true h = absurd (true≢false (sym e ∙ (fill_fills w.count s.places w.open_places w.first x v 0 j z.places_sized (omega arith) f (omega arith) (omega arith) h).closed))
    by false h =
        let st : Stays s.places w.open_places w.first j F = fill_stays w.count s.places w.open_places w.first x v 0 j (λ m n. true≢false (sym n ∙ h)) in
        let b : bit w.open_places j ≡ true = sym st.same_bit ∙ e in
        (b, λ q. true≢false (sym (eq-eqb _ x q) ∙ both_true (bit w.open_places j) _ h b))

module _ (G : ℕ → Type 0) (r : ℕ → Bool) (D : ℕ → Type 0) (hd : Header) where
  success-slot : (n : ℕ) (s : Store) (o g x : ℕ) (v : Value) → object_limit ≤ suc n + o → DeliveringValue r D hd o v s (Awaiter.GatherSlot (heap_id g) (heap_id x)) → SourcedBut G (OnWay (Awaiter.GatherSlot (heap_id g) (heap_id x)) o) s
      → ((s : Store) (o : ℕ) (a : Awaiter) (v : Value) → object_limit ≤ n + o → DeliveringValue r D hd o v s a → SourcedBut G (OnWay a o) s → Sourced G (deliver_awaiter_success s a v).store)
      → Sourced G (deliver_awaiter_success s (Awaiter.GatherSlot (heap_id g) (heap_id x)) v).store
  unfolding view
  success-slot n s o g x v f i c go = by (as_awaited (object s g)) refl
    where
      z : Sized s
      z = i.during.kept.memory.sized

      h : SoundDuring Nothing r D hd s
      h = delivery_ends s (λ u q. task_slot (sym q)) i.during

      sl : Slotted (header s).made (object s) (place s) o g x
      sl = i.detached.slot g x refl

      sent : Sends r D hd (DeliveringValue r D hd g (Value.List (heap_id g))) o g (resolve_child s g x v)
      sent = value-sends r D hd s o g x v i

      low : g < object_limit
      low = omega (arith, sl.made, i.during.kept.but.fits.made_fits)

      vf : ValueFits v
      vf = value-fits (header s).made (object s) v i.during.kept.but.fits.made_fits i.known

      by : (w : Option AwaitedGather) → as_awaited (object s g) ≡ w → Sourced G (deliver_awaiter_success s (Awaiter.GatherSlot (heap_id g) (heap_id x)) v).store
      by none q =
          stays_all s (heap_id g) (heap_id x) v s (unfold resolve_child in (ap (resolve_awaited s g x v) q ∙ (unfold resolve_awaited in refl)))
          (all_of s (record { sources = λ p y w l d op m. c.sources p y w l d op (λ e. absurd_some (sym (subst (λ (t : ℕ). as_awaited (object s t) ≡ none) (sym (same_slot g x p o e.0)) q) ∙ d)); rising = c.rising }))
      by (some w) q = left (eqb F.open_places 0) refl
        where
          F : Filled
          F = fill_from s.places w.open_places w.first x v 0 w.count

          md : Store
          md = put_places s F.places

          zmd : Sized md
          zmd = sized-put_places s F.places (length-fill_from w.count s.places w.open_places w.first x v 0 ∙ z.places_sized) z

          was : as_awaited (object md g) ≡ some w
          was = unfold object put_places in (unfold object in q)

          kmd : SourcedBut G (OnWay (Awaiter.GatherSlot (heap_id g) (heap_id x)) o) md
          kmd = places_sourced s F.places (all_filled s g x v w h sl.made q i.known).item c

          shape : ObjectFits (Object.GatherFuture w.first w.count (GatherState.Awaited w.awaiter w.open_places))
          shape = awaited-fits s g w q

          is-now : (b : Bool) → eqb F.open_places 0 ≡ b → resolve_child s g x v ≡ resolve_left b md g w F.open_places
          is-now b e = unfold resolve_child in (ap (resolve_awaited s g x v) q ∙ (unfold resolve_awaited in (ap (λ (t : Bool). resolve_left t md g w F.open_places) e)))

          left : (b : Bool) → eqb F.open_places 0 ≡ b → Sourced G (deliver_awaiter_success s (Awaiter.GatherSlot (heap_id g) (heap_id x)) v).store
          left true e =
              let y : Object = Object.GatherFuture w.first w.count GatherState.Completed in
              let rc : resolve_child s g x v ≡ record { store = put_object md g y; onward = some w.awaiter } = is-now true e ∙ (unfold resolve_left in refl) in
              let a : (resolve_child s g x v).onward ≡ some w.awaiter = ap (λ (t : Settled). t.onward) rc in
              let k1 : SourcedBut G (OnWay w.awaiter g) (put_object md g y) =
              settle_sourced _ (OnWay (Awaiter.GatherSlot (heap_id g) (heap_id x)) o) md g w y zmd low (shape.0, tt) was (unfold as_awaited in refl) (λ p m d. same_slot g x p o d.0) kmd in
              rw (success_climbs s (heap_id g) (heap_id x) v w.awaiter z low a)
              (go (resolve_child s g x v).store g w.awaiter (Value.List (heap_id g)) (omega (arith, sent.up w.awaiter a)) (sent.delivers_on w.awaiter a)
              (subst (SourcedBut G (OnWay w.awaiter g)) (sym (ap (λ (t : Settled). t.store) rc)) k1))
          left false e =
              let y : Object = Object.GatherFuture w.first w.count (GatherState.Awaited w.awaiter F.open_places) in
              let w2 : AwaitedGather = record { first = w.first; count = w.count; awaiter = w.awaiter; open_places = F.open_places } in
              let less : F.open_places ≤ w.open_places = fill_less w.count s.places w.open_places w.first x v 0 in
              stays_all s (heap_id g) (heap_id x) v (put_object md g y) (is-now false e ∙ (unfold resolve_left in refl))
              (waits_sourced _ o md g w w2 y zmd low (shape.0, (shape.1.0, omega (arith, less, shape.1.1))) was (unfold as_awaited in refl) refl fewer (weaken md (λ p m d. (same_slot g x p o d.0, d.1)) kmd))
            where
              fewer : (p : ℕ) → Open (place md) (record { first = w.first; count = w.count; awaiter = w.awaiter; open_places = F.open_places }) p → Open (place md) w p × (p ≡ o → ⊥)
              fewer p op =
                  let l = left_open s w x v op.at z shape.0.within vf op.under op.is_open in (
                    record { at = op.at; under = op.under; is_open = l.0; names = op.names },
                    λ d. l.1 (item-was op.at ∙ (op.names ∙ (d ∙ sym sl.own))),
                  )
                where
                  item-was : (j : ℕ) → (place_at s.places (w.first + j)).item.0 ≡ (place md (w.first + j)).item.0
                  item-was j = sym (ap (λ (t : HeapId). t.0) (unfold place put_places in ((all_filled s g x v w h sl.made q i.known).item (w.first + j)) ∙ (unfold place in refl)))

  success-climb : (n : ℕ) (s : Store) (o : ℕ) (a : Awaiter) (v : Value) → object_limit ≤ n + o → DeliveringValue r D hd o v s a → SourcedBut G (OnWay a o) s → Sourced G (deliver_awaiter_success s a v).store
  unfolding view
  success-climb zero s o a v f i c = absurd (not-suc-le-zero {n = 0} (omega (arith, f, i.detached.made, i.during.kept.but.fits.made_fits)))
  success-climb (suc n) s o Awaiter.Nobody v f i c = nobody_all s v (all_of s (no_way s o Awaiter.Nobody (λ g q. nobody_no g o q) c))
  success-climb (suc n) s o (Awaiter.Task t) v f i c =
      let fits : t.0 < task_limit = omega (arith, task_low s t i.detached.range, i.during.kept.but.fits.next_fits) in
      let same : SameLive s (deliver_awaiter_success s (Awaiter.Task t) v).store = success_same s (Awaiter.Task t) v i.during.kept.memory.sized fits in
      to_all s t v (to_task_sourced s t.0 (TaskState.Woken v) i.during.kept.memory.sized fits (value-fits (header s).made (object s) v i.during.kept.but.fits.made_fits i.known)
      (λ m. to_lives s t v m (same.lives m)) (no_way s o (Awaiter.Task t) (λ g q. task_no t g o q) c))
  success-climb (suc n) s o (Awaiter.GatherSlot g x) v f i c = success-slot n s o g.0 x.0 v f i c (λ y p b w j m d. success-climb n y p b w j m d)

  -- A value of object o goes to its awaiter.
  pub success_sourced : (s : Store) (o : ℕ) (a : Awaiter) (v : Value) → DeliveringValue r D hd o v s a → SourcedBut G (OnWay a o) s → Sourced G (deliver_awaiter_success s a v).store
  success_sourced s o a v i c = success-climb object_limit s o a v (omega arith) i c
