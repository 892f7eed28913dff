-- One object is written: which clauses the new row must meet, and then the view is sound again, but for what is named.
-- One lemma for every write of an object: settled, awaited, opened, completed, failed, started.
use Rattle.std.specs.Prelude.{◌≡◌, refl, ◌⊎◌, ℕ, zero, suc, ◌+◌, ◌≤◌, ◌<◌}
use Rattle.std.proofs.Math.Path.{ap, sym, subst}
use Rattle.std.proofs.Common.{◌∙◌, inl, inr, le_refl, not-suc-le-zero}
use Rattle.std.proofs.Math.Option.{some}
use native.Mathlib.Omega.{arith}
use Rattle.std.proofs.Math.Decide.{ℕ_discrete}
use Rattle.std.proofs.Math.Dec.{T}
use Rattle.asyncio.specs.declared.Task.{Task}
use Rattle.asyncio.specs.declared.Awaiter.{Awaiter}
use Rattle.asyncio.specs.declared.Object.{Object}
use Rattle.asyncio.specs.declared.Header.{Header}
use Rattle.asyncio.specs.Numbers.{heap_id, task_id}
use Rattle.asyncio.specs.States.{is_live}
use Rattle.asyncio.specs.Kinds.{kind, is_coroutine, is_completed, is_committed}
use Rattle.asyncio.specs.Parts.{awaiter_of, count_of}
use Rattle.machine.specs.Tests.{sum_below}
use Rattle.machine.specs.Store.{View}
use Rattle.machine.specs.Scheduler.{AwaitedGather, PendingExternal, as_awaited, as_pending, blocked_on}
use Rattle.machine.specs.Sound.{places_below, awaiter_in_range, object_in_range, committed_places, items_below}
use Rattle.machine.specs.Sound.{object_values, object_filled}
use Rattle.machine_laws.specs.Views.{update, with_object}
use Rattle.machine_laws.specs.Facts.{Open, Slotted, AwaitedBy, SoundBut}
use Rattle.machine_laws.specs.TestLaws.{sum_same}
use Rattle.machine_laws.specs.ValueLaws.{option_stays, object-stays, state_stays}
use Rattle.machine_laws.specs.MakingLaws.{task_more}
use Rattle.machine_laws.specs.StoreLaws.{update_same, update_other, update_case}

-- ---- sums with one row written

module _ (f : Object → ℕ) (os : ℕ → Object) (i : ℕ) (x : Object) where
  pub sum_before : (m : ℕ) → m ≤ i → sum_below m (λ o. f (update os i x o)) ≡ sum_below m (λ o. f (os o))
  sum_before m l = sum_same m _ _ (λ j k. ap f (update_other os i x j (λ e. omega arith)))

  sum_step : (n : ℕ) → (i < n → sum_below n (λ o. f (update os i x o)) + f (os i) ≡ sum_below n (λ o. f (os o)) + f x) → i < suc n → Dec (i ≡ n)
      → sum_below (suc n) (λ o. f (update os i x o)) + f (os i) ≡ sum_below (suc n) (λ o. f (os o)) + f x
  unfolding sum_below
  sum_step n h l (yes e) =
      let a : sum_below n (λ o. f (update os i x o)) ≡ sum_below n (λ o. f (os o)) = sum_before n (omega arith) in
      let b : f (update os i x n) ≡ f x = subst (λ (m : ℕ). f (update os i x m) ≡ f x) e (ap f (update_same os i x)) in
      let c : f (os i) ≡ f (os n) = ap (λ (m : ℕ). f (os m)) e in
      omega arith
  sum_step n h l (no d) =
      let b : f (update os i x n) ≡ f (os n) = ap f (update_other os i x n (λ e. d (sym e))) in
      omega (arith, h (omega arith))

  pub sum_update : (n : ℕ) → i < n → sum_below n (λ o. f (update os i x o)) + f (os i) ≡ sum_below n (λ o. f (os o)) + f x
  sum_update zero h = absurd (not-suc-le-zero h)
  sum_update (suc n) h = sum_step n (λ l. sum_update n l) h (ℕ_discrete i n)

-- ---- one object

-- z holds a slot of gather g: an object, not in the midst of its commit, or the coroutine of a live task
pub data Held (Q : ℕ → Type 0) (v : View) (g : ℕ) : ℕ → Type 0 where
  by_object : (z : ℕ) → z < v.header.made → (Q z → ⊥) → awaiter_of (v.objects z) ≡ Awaiter.GatherSlot (heap_id g) (heap_id z) → Held Q v g z
  by_task : (t : ℕ) → t < v.header.next → T (is_live (v.tasks t).state)
      → (v.tasks t).awaiter ≡ Awaiter.GatherSlot (heap_id g) (heap_id (v.tasks t).coroutine.0) → Held Q v g (v.tasks t).coroutine.0

-- what each clause asks of object x in the place of object o: k, P and Q are excepted before (see SoundBut), l, P' and Q' after
pub record Fits (k l : ℕ) (P Q P' Q' : ℕ → Type 0) (v : View) (o : ℕ) (x : Object) : Type 0 where
  pub made : o < v.header.made
  pub count : count_of x ≡ count_of (v.objects o)
  pub room : committed_places (v.objects o) + l ≤ committed_places x + k
  pub coroutine : T (is_coroutine (kind (v.objects o))) → T (is_coroutine (kind x))
  pub completed : T (is_completed (kind (v.objects o))) → T (is_completed (kind x))
  pub committed : T (is_committed (kind (v.objects o))) → T (is_committed (kind x))
  pub range : (p : ℕ) → T (object_in_range v.header p (v.objects o)) → T (object_in_range v.header p x)
  pub awaiter : T (awaiter_in_range v.header (awaiter_of (v.objects o))) → T (awaiter_in_range v.header (awaiter_of x))
  pub lower : T (items_below v.places o (v.objects o)) → T (items_below v.places o x)
  pub known : T (object_values v.header.made v.objects (v.objects o)) → T (object_values v.header.made v.objects x)
  pub call : (a : PendingExternal) → as_pending x ≡ some a → (b : PendingExternal) × (as_pending (v.objects o) ≡ some b) × (a.call.0 ≡ b.call.0)
  pub awaits : (t : ℕ) → t < v.header.next → (P' t → ⊥) → blocked_on (v.tasks t).state ≡ some o
      → awaiter_of (v.objects o) ≡ Awaiter.Task (task_id t) → awaiter_of x ≡ Awaiter.Task (task_id t)
  pub awaited : (Q' o → ⊥) → (t : ℕ) → awaiter_of x ≡ Awaiter.Task (task_id t) → T (is_live (v.tasks t).state) → blocked_on (v.tasks t).state ≡ some o
  pub filled : (Q' o → ⊥) → T (object_filled v.places x)
  pub slot : (Q' o → ⊥) → (g y : ℕ) → awaiter_of x ≡ Awaiter.GatherSlot (heap_id g) (heap_id y)
      → Slotted v.header.made (update v.objects o x) v.places o g y
  pub opens : (w : AwaitedGather) → as_awaited x ≡ some w → (z : ℕ) → Held Q v o z → Slotted v.header.made v.objects v.places z o z
      → Open v.places w z
  pub excepted : (t b : ℕ) → t < v.header.next → (P' t → ⊥) → blocked_on (v.tasks t).state ≡ some b
      → (P t → ⊥) ⊎ ((b ≡ o) × (awaiter_of x ≡ Awaiter.Task (task_id t)))
  pub in_commit : (p : ℕ) → (p ≡ o → ⊥) → (Q' p → ⊥) → Q p → ⊥

module _ (k l : ℕ) (P Q P' Q' : ℕ → Type 0) (v : View) (o : ℕ) (x : Object) (ft : Fits k l P Q P' Q' v o x) where
  abbrev new : ℕ → Object
  new = update v.objects o x

  case : (F : ℕ → Object → Type 0) (p : ℕ) → F o x → ((p ≡ o → ⊥) → F p (v.objects p)) → F p (new p)
  case F p a b = update_case v.objects o x (F p) p (λ q. subst (λ (m : ℕ). F m x) (sym q) a) b

  more : (F : Object → Type 0) → (F (v.objects o) → F x) → (p : ℕ) → F (v.objects p) → F (new p)
  more F f p h = update_case v.objects o x F p (λ q. f (subst (λ (m : ℕ). F (v.objects m)) q h)) (λ d. h)

  same-below : (p : ℕ) → places_below new p ≡ places_below v.objects p
  unfolding places_below
  same-below p = sum_same p _ _ (λ i z. update_case v.objects o x (λ (y : Object). count_of y ≡ count_of (v.objects i)) i
      (λ q. subst (λ (m : ℕ). count_of x ≡ count_of (v.objects m)) (sym q) ft.count) (λ d. refl))

  -- a holder of a slot of gather g still holds one
  pub slotted : (z g y : ℕ) → (y ≡ z → Held Q v g z) → Slotted v.header.made v.objects v.places z g y → Slotted v.header.made new v.places z g y
  slotted z g y held h =
      record {
        own = h.own;
        made = h.made;
        committed = more (λ (y : Object). T (is_committed (kind y))) ft.committed g h.committed;
        opens = go (ℕ_discrete g o);
      }
    where
      go : Dec (g ≡ o) → (w : AwaitedGather) → as_awaited (new g) ≡ some w → Open v.places w z
      go (no d) w e = h.opens w (ap as_awaited (sym (update_other v.objects o x g d)) ∙ e)
      go (yes q) w e =
          ft.opens w (ap as_awaited (sym (update_same v.objects o x)) ∙ (ap (λ (m : ℕ). as_awaited (new m)) (sym q) ∙ e)) z
          (subst (λ (m : ℕ). Held Q v m z) q (held h.own))
          (record {
            own = refl;
            made = ft.made;
            committed = subst (λ (m : ℕ). T (is_committed (kind (v.objects m)))) q h.committed;
            opens = λ u f. h.opens u (ap (λ (m : ℕ). as_awaited (v.objects m)) q ∙ f);
          })

  old-call : (r : ℕ) (a : PendingExternal) → as_pending (new r) ≡ some a
      → (b : PendingExternal) × (as_pending (v.objects r) ≡ some b) × (a.call.0 ≡ b.call.0)
  old-call r a =
      case (λ r y. as_pending y ≡ some a → (b : PendingExternal) × (as_pending (v.objects r) ≡ some b) × (a.call.0 ≡ b.call.0)) r
      (λ z. ft.call a z) (λ d z. (a, z, refl))

  pub object_keeps : SoundBut k P Q v → SoundBut l P' Q' (with_object v o x)
  unfolding with_object
  object_keeps h =
      record {
        fits = h.fits;
        main = h.main;
        all_used = h.all_used ∙ sym (same-below v.header.made);
        objects = λ p z. rw (same-below p)
            (more (λ (y : Object). T (object_in_range v.header (places_below v.objects p) y)) (ft.range (places_below v.objects p)) p (h.objects p z));
        awaiters = λ p z. more (λ (y : Object). T (awaiter_in_range v.header (awaiter_of y))) ft.awaiter p (h.awaiters p z);
        tasks = λ t z. task_more v.header v.header (le_refl _) (le_refl _) v.objects new (λ o l. more (λ (y : Object). T (is_coroutine (kind y))) ft.coroutine o) t (v.tasks t) (h.tasks t z);
        spawned = omega (arith, h.spawned, ft.room, sum_update committed_places v.objects o x v.header.made ft.made);
        items = λ g z. case (λ g y. T (items_below v.places g y)) g (ft.lower (h.items o ft.made)) (λ d. h.items g z);
        object_lists = λ p z. object-stays v.header.made v.header.made (le_refl _) v.objects new (λ o l. more-completed o) (new p)
            (more (λ (y : Object). T (object_values v.header.made v.objects y)) ft.known p (h.object_lists p z));
        task_lists = λ t z. state_stays v.header.made v.header.made (le_refl _) v.objects new (λ o l. more-completed o) (v.tasks t).state (h.task_lists t z);
        place_lists = λ p z. option_stays v.header.made v.header.made (le_refl _) v.objects new (λ o l. more-completed o) (v.places p).result (h.place_lists p z);
        entries = h.entries;
        calls = λ n p q y z a b e f c.
            let i = old-call p a e in
            let j = old-call q b f in
            h.calls n p q y z i.0 j.0 i.1 j.1 (sym i.2 ∙ (c ∙ j.2));
        task_of = h.task_of;
        awaits = λ t z d b e. awaits-new t b z d e (ft.excepted t b z d e);
        awaited = λ p z n t.
            case (λ p y. (Q' p → ⊥) → awaiter_of y ≡ Awaiter.Task (task_id t) → T (is_live (v.tasks t).state) → blocked_on (v.tasks t).state ≡ some p) p
            (λ m e. ft.awaited m t e) (λ d m e. h.awaited p z (ft.in_commit p d m) t e) n;
        filled = λ p z. case (λ p y. (Q' p → ⊥) → T (object_filled v.places y)) p ft.filled (λ d m. h.filled p z (ft.in_commit p d m));
        object_slots = λ p z n g y.
            case (λ p r. (Q' p → ⊥) → awaiter_of r ≡ Awaiter.GatherSlot (heap_id g) (heap_id y) → Slotted v.header.made new v.places p g y) p
            (λ m e. ft.slot m g y e)
            (λ d m e. slotted p g y (λ q. by_object p z (ft.in_commit p d m) (e ∙ ap (λ (i : ℕ). Awaiter.GatherSlot (heap_id g) (heap_id i)) q))
            (h.object_slots p z (ft.in_commit p d m) g y e)) n;
        task_slots = λ t z a g y e.
            slotted (v.tasks t).coroutine.0 g y (λ q. by_task t z a (e ∙ ap (λ (i : ℕ). Awaiter.GatherSlot (heap_id g) (heap_id i)) q)) (h.task_slots t z a g y e);
      }
    where
      more-completed : (p : ℕ) → T (is_completed (kind (v.objects p))) → T (is_completed (kind (new p)))
      more-completed = more (λ (y : Object). T (is_completed (kind y))) ft.completed

      awaits-new : (t b : ℕ) → t < v.header.next → (P' t → ⊥) → blocked_on (v.tasks t).state ≡ some b
          → (P t → ⊥) ⊎ ((b ≡ o) × (awaiter_of x ≡ Awaiter.Task (task_id t))) → AwaitedBy v.header.made new t b
      awaits-new t b z d e (inl f) =
          let old : AwaitedBy v.header.made v.objects t b = h.awaits t z f b e in
          record {
            made = old.made;
            awaiter = update_case v.objects o x (λ (y : Object). awaiter_of y ≡ Awaiter.Task (task_id t)) b
                (λ q. ft.awaits t z d (subst (λ (m : ℕ). blocked_on (v.tasks t).state ≡ some m) q e)
                (subst (λ (m : ℕ). awaiter_of (v.objects m) ≡ Awaiter.Task (task_id t)) q old.awaiter)) (λ n. old.awaiter);
          }
      awaits-new t b z d e (inr q) =
          record {
            made = subst (λ (m : ℕ). m < v.header.made) (sym q.0) ft.made;
            awaiter = subst (λ (m : ℕ). awaiter_of (new m) ≡ Awaiter.Task (task_id t)) (sym q.0) (ap awaiter_of (update_same v.objects o x) ∙ q.1);
          }
