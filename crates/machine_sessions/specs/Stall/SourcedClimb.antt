-- `Sourced` through an error on its way up.
use Rattle.std.specs.Prelude.{◌≡◌, Bool, true, T}
use Rattle.std.proofs.Math.Path.{refl, ap, subst}
use Rattle.std.proofs.Common.{sym, ◌∙◌, true≢false, not-suc-le-zero, arith, ltb→lt}
use Rattle.std.proofs.Math.Bool.{false}
use Rattle.std.proofs.Math.Option.{Option, none, some, some-injective}
use Prim.Native.Nat.{ℕ, zero, suc, ◌+◌, ◌≤◌, ◌<◌}
use Rattle.std.proofs.Math.Decide.{ℕ_discrete}
use Rattle.asyncio.specs.declared.Value.{Value}
use Rattle.asyncio.specs.declared.Error.{Error}
use Rattle.asyncio.specs.declared.TaskState.{TaskState}
use Rattle.asyncio.specs.declared.Task.{Task}
use Rattle.asyncio.specs.declared.TaskId.{TaskId}
use Rattle.asyncio.specs.declared.Awaiter.{Awaiter}
use Rattle.asyncio.specs.declared.GatherState.{GatherState}
use Rattle.asyncio.specs.declared.Object.{Object}
use Rattle.asyncio.specs.declared.Header.{Header}
use Rattle.asyncio.specs.Limits.{object_limit, task_limit}
use Rattle.asyncio.specs.Numbers.{heap_id, task_id}
use Rattle.asyncio.specs.Ranges.{ObjectFits, ErrorFits, AwaiterFits, TaskFits, StateFits}
use Rattle.asyncio.specs.States.{pick, is_live, is_blocked}
use Rattle.machine.specs.Store.{Store, view, task, object, place, header, put_object, put_task, put_queue, add_log, restate, set_state, reached}
use Rattle.machine.specs.Scheduler.{AwaitedGather, PendingExternal, as_awaited, as_pending, make_ready, push_ready}
use Rattle.machine.specs.Delivery.{Delivery, nobody_woken, deliver_to_task, Settled, fail_awaited, fail_gather, climb, send_error, deliver_awaiter_failure}
use Rattle.machine.specs.Sound.{awaiter_in_range}
use Rattle.machine_laws.specs.Views.{Sized}
use Rattle.machine_laws.specs.Statements.{SameLive}
use Rattle.machine_laws.specs.Facts.{Open, Slotted, Nothing}
use Rattle.machine_laws.specs.StoreLaws.{header-fits, header_put-object, object_put-object, object_put-other, task_put-task, task_put-other, task-fits}
use Rattle.machine_laws.specs.DeliveryLaws.{absurd_some, awaited-object, awaited-fits, failure_climbs, failure_same}
use Rattle.machine_theorems.specs.Soundness.Stores.{SoundDuring}
use Rattle.machine_theorems.specs.Soundness.Deliver.{Detached, Sends, DeliveringError, error-sends}
use Rattle.machine_laws.specs.DeliveryLaws.{pending-object}
use Rattle.machine_sessions.specs.Stall.NoStall.{Source, by_external, by_gather, by_nobody, by_task, Roots, root, above, Sourced}
use Rattle.machine_sessions.specs.Stall.SourcedPlan.{SourcedBut, OnWay, but_of, all_of, but_same}

-- a pending external is no awaited gather
pub apart : {A : Type 0} (x : Object) (p : PendingExternal) (w : AwaitedGather) → as_pending x ≡ some p → as_awaited x ≡ some w → A
unfolding as_awaited
apart x p w e q = absurd_some (sym (ap as_awaited (pending-object x p e)) ∙ q)

-- ---- a gather settles: only its own place, in the gather above, is on its way then

module _ (G : ℕ → Type 0) (X : ℕ → ℕ → Type 0) (s : Store) (g : ℕ) (w : AwaitedGather) (y : Object) (z : Sized s) (low : g < object_limit) (fits : ObjectFits y) (was : as_awaited (object s g) ≡ some w)
    (settled : as_awaited y ≡ none) (only : (p o : ℕ) → X p o → p ≡ g) where
  abbrev pub u : Store
  u = put_object s g y

  -- an awaited gather is another one, and was so before
  before : (p : ℕ) (v : AwaitedGather) → as_awaited (object u p) ≡ some v → (p ≡ g → ⊥) × (as_awaited (object s p) ≡ some v)
  before p v e = by (ℕ_discrete p g)
    where
      by : Dec (p ≡ g) → (p ≡ g → ⊥) × (as_awaited (object s p) ≡ some v)
      by (yes q) = absurd_some (sym settled ∙ (sym (ap as_awaited (object_put-object s g y z low fits)) ∙ subst (λ (m : ℕ). as_awaited (object u m) ≡ some v) q e))
      by (no ne) = (ne, sym (ap as_awaited (object_put-other s g p y ne)) ∙ e)

  roots-before : {p t : ℕ} → Roots u p t → Roots s p t
  roots-before (root p t v e a) = root p t v (before p v e).1 a
  roots-before (above p t q x v e a r) = above p t q x v (before p v e).1 a (roots-before r)

  pub settle_sourced : SourcedBut G X s → SourcedBut G (OnWay w.awaiter g) u
  settle_sourced k =
      record {
        sources = λ p o v l e op n.
            let b = before p v e in
            still p o n (k.sources p o v (subst (λ (h : Header). p < h.made) (header_put-object s g y) l) b.1
            (record { at = op.at; under = op.under; is_open = op.is_open; names = unfold place put_object in op.names }) (λ x. b.0 (only p o x)));
        rising = λ v p x t l lv a r.
            k.rising v p x t (subst (λ (h : Header). v < h.next) (header_put-object s g y) l) (unfold task put_object in lv) (unfold task put_object in a) (roots-before r);
      }
    where
      still : (p o : ℕ) → (OnWay w.awaiter g p o → ⊥) → Source G s p o → Source G u p o
      still p o n (by_external q e a) = by_external q (ap as_pending (object_put-other s g o y (λ d. apart (object s g) q w (subst (λ (m : ℕ). as_pending (object s m) ≡ some q) d e) was)) ∙ e) a
      still p o n (by_gather v e a) = by (ℕ_discrete o g)
        where
          by : Dec (o ≡ g) → Source G u p o
          by (yes d) =
              let same : w ≡ v = some-injective w v (sym was ∙ subst (λ (m : ℕ). as_awaited (object s m) ≡ some v) d e) in
              absurd (n (ap (λ (x : AwaitedGather). x.awaiter) same ∙ (a ∙ ap (λ (m : ℕ). Awaiter.GatherSlot (heap_id p) (heap_id m)) d), d))
          by (no ne) = by_gather v (ap as_awaited (object_put-other s g o y ne) ∙ e) a
      still p o n (by_nobody j) = by_nobody j
      still p o n (by_task t l lv a) = by_task t (subst (λ (h : Header). t < h.next) (sym (header_put-object s g y)) l) (unfold task put_object in lv) (unfold task put_object in a)

-- ---- to a task: it lives and awaits as before

pub awaiter_kept : (s : Store) (t v : ℕ) (x : TaskState) → Sized s → t < task_limit → StateFits x → (task (set_state s t x) v).awaiter ≡ (task s v).awaiter
unfolding set_state restate
awaiter_kept s t v x z l f = by (ℕ_discrete v t)
  where
    r : Task
    r = record { state = x; awaiter = (task s t).awaiter; coroutine = (task s t).coroutine }

    fits : TaskFits r
    fits = record { state_fits = f; awaiter_fits = (task-fits s t).awaiter_fits; coroutine_fits = (task-fits s t).coroutine_fits }

    by : Dec (v ≡ t) → (task (put_task s t r) v).awaiter ≡ (task s v).awaiter
    by (yes q) = subst (λ (m : ℕ). (task (put_task s t r) m).awaiter ≡ (task s m).awaiter) (sym q) (ap (λ (y : Task). y.awaiter) (task_put-task s t r z l fits))
    by (no ne) = ap (λ (y : Task). y.awaiter) (task_put-other s t v r ne)

pub to_task_sourced : {G : ℕ → Type 0} {X : ℕ → ℕ → Type 0} (s : Store) (t : ℕ) (x : TaskState) → Sized s → t < task_limit → StateFits x → ((v : ℕ) → is_live (task (deliver_to_task s t x).store v).state ≡ is_live (task s v).state)
    → SourcedBut G X s → SourcedBut G X (deliver_to_task s t x).store
unfolding deliver_to_task nobody_woken
to_task_sourced {G} {X} s t x z l f lives k = by (is_blocked (task s t).state) lives
  where
    by : (b : Bool) → ((v : ℕ) → is_live (task (pick b (record { store = add_log (make_ready s t x) (reached t); woken = some t }) (nobody_woken s)).store v).state ≡ is_live (task s v).state)
        → SourcedBut G X (pick b (record { store = add_log (make_ready s t x) (reached t); woken = some t }) (nobody_woken s)).store
    by true lv =
        but_same _ s (add_log (make_ready s t x) (reached t)) (λ o. unfold object add_log make_ready push_ready put_queue set_state put_task in refl) lv (λ v. awaits v)
        (λ p. unfold place add_log make_ready push_ready put_queue set_state put_task in refl) (unfold header add_log make_ready push_ready put_queue set_state put_task in refl)
        (unfold header add_log make_ready push_ready put_queue set_state put_task in refl) k
      where
        awaits : (v : ℕ) → (task (add_log (make_ready s t x) (reached t)) v).awaiter ≡ (task s v).awaiter
        awaits v = rows v ∙ awaiter_kept s t v x z l f
          where
            rows : (v : ℕ) → (task (add_log (make_ready s t x) (reached t)) v).awaiter ≡ (task (set_state s t x) v).awaiter
            rows v = unfold add_log make_ready push_ready put_queue task in refl
    by false lv = k

-- ---- an error

pub nobody_no : (g o : ℕ) → Awaiter.Nobody ≡ Awaiter.GatherSlot (heap_id g) (heap_id o) → ⊥
nobody_no g o q = let v : ◌≡◌ {A = ℕ} 0 1 = cc in omega arith

pub task_no : (t : TaskId) (g o : ℕ) → Awaiter.Task t ≡ Awaiter.GatherSlot (heap_id g) (heap_id o) → ⊥
task_no t g o q = let v : ◌≡◌ {A = ℕ} 0 1 = cc in omega arith

-- nothing is on its way to a place
pub no_way : {G : ℕ → Type 0} (s : Store) (o : ℕ) (a : Awaiter) → ((g : ℕ) → a ≡ Awaiter.GatherSlot (heap_id g) (heap_id o) → ⊥) → SourcedBut G (OnWay a o) s → SourcedBut G (λ g p. ⊥) s
no_way s o a ne c = record { sources = λ g p w l y op n. c.sources g p w l y op (λ d. ne g d.0); rising = c.rising }

pub task_low : (s : Store) (t : TaskId) → T (awaiter_in_range (header s) (Awaiter.Task t)) → t.0 < (header s).next
unfolding awaiter_in_range
task_low s t h = ltb→lt t.0 (header s).next h

to_lives : (s : Store) (t : TaskId) (e : Error) (v : ℕ) → is_live (task (deliver_awaiter_failure s (Awaiter.Task t) e).store v).state ≡ is_live (task s v).state
    → is_live (task (deliver_to_task s t.0 (TaskState.Raised e)).store v).state ≡ is_live (task s v).state
unfolding deliver_awaiter_failure send_error
to_lives s t e v h = h

to_all : {G : ℕ → Type 0} (s : Store) (t : TaskId) (e : Error) → SourcedBut G (λ g p. ⊥) (deliver_to_task s t.0 (TaskState.Raised e)).store → Sourced G (deliver_awaiter_failure s (Awaiter.Task t) e).store
unfolding deliver_awaiter_failure send_error
to_all s t e c = all_of _ c

-- an error in a gather that is not awaited, and in one that is
pub fail_off : (s : Store) (g : ℕ) (e : Error) → as_awaited (object s g) ≡ none → fail_gather s g e ≡ record { store = s; onward = none }
fail_off s g e q = unfold fail_gather in (ap (fail_awaited s g e) q ∙ (unfold fail_awaited in refl))

pub fail-on : (s : Store) (g : ℕ) (e : Error) (w : AwaitedGather) → as_awaited (object s g) ≡ some w
    → fail_gather s g e ≡ record { store = put_object s g (Object.GatherFuture w.first w.count (GatherState.Failed e)); onward = some w.awaiter }
fail-on s g e w q = unfold fail_gather in (ap (fail_awaited s g e) q ∙ (unfold fail_awaited in refl))

module _ (G : ℕ → Type 0) (r : ℕ → Bool) (D : ℕ → Type 0) (hd : Header) (e : Error) (k : ErrorFits e) where
  -- what an error leaves: everything has its source
  failure-slot : (n : ℕ) (s : Store) (o g x : ℕ) → object_limit ≤ suc n + o → DeliveringError r D hd o s (Awaiter.GatherSlot (heap_id g) (heap_id x)) → SourcedBut G (OnWay (Awaiter.GatherSlot (heap_id g) (heap_id x)) o) s
      → ((s : Store) (o : ℕ) (a : Awaiter) → object_limit ≤ n + o → DeliveringError r D hd o s a → SourcedBut G (OnWay a o) s → Sourced G (deliver_awaiter_failure s a e).store)
      → Sourced G (deliver_awaiter_failure s (Awaiter.GatherSlot (heap_id g) (heap_id x)) e).store
  unfolding view
  failure-slot n s o g x f i c go = by (as_awaited (object s g)) refl
    where
      sent : Sends r D hd (DeliveringError r D hd g) o g (fail_gather s g e)
      sent = error-sends r D hd e k s o g x i

      low : g < object_limit
      low = omega (arith, (i.detached.slot g x refl).made, i.during.kept.but.fits.made_fits)

      slot_same : (p : ℕ) → Awaiter.GatherSlot (heap_id g) (heap_id x) ≡ Awaiter.GatherSlot (heap_id p) (heap_id o) → p ≡ g
      slot_same p q = sym (ap slot_of q)
        where
          slot_of : Awaiter → ℕ
          slot_of Awaiter.Nobody = 0
          slot_of (Awaiter.Task t) = 0
          slot_of (Awaiter.GatherSlot a b) = a.0

      by : (w : Option AwaitedGather) → as_awaited (object s g) ≡ w → Sourced G (deliver_awaiter_failure s (Awaiter.GatherSlot (heap_id g) (heap_id x)) e).store
      by none q = unfold deliver_awaiter_failure send_error in (rw (fail_off s g e q) (unfold climb nobody_woken in (all_of s (record { sources = λ p v w l y op n. c.sources p v w l y op (λ d. absurd_some (sym (subst (λ (m : ℕ). as_awaited (object s m) ≡ none) (sym (slot_same p d.0)) q) ∙ y)); rising = c.rising }))))
      by (some w) q =
          let y : Object = Object.GatherFuture w.first w.count (GatherState.Failed e) in
          let z : Sized s = i.during.kept.memory.sized in
          let a : (fail_gather s g e).onward ≡ some w.awaiter = ap (λ (t : Settled). t.onward) (fail-on s g e w q) in
          let st : (fail_gather s g e).store ≡ put_object s g y = ap (λ (t : Settled). t.store) (fail-on s g e w q) in
          let k1 : SourcedBut G (OnWay w.awaiter g) (put_object s g y) =
          settle_sourced _ (OnWay (Awaiter.GatherSlot (heap_id g) (heap_id x)) o) s g w y z low ((awaited-fits s g w q).0, k) q (unfold as_awaited in refl) (λ p v d. slot_same p d.0) c in
          rw (failure_climbs s (heap_id g) (heap_id x) e w.awaiter z low a)
          (go (fail_gather s g e).store g w.awaiter (omega (arith, sent.up w.awaiter a)) (sent.delivers_on w.awaiter a) (subst (SourcedBut G (OnWay w.awaiter g)) (sym st) k1))

  failure-climb : (n : ℕ) (s : Store) (o : ℕ) (a : Awaiter) → object_limit ≤ n + o → DeliveringError r D hd o s a → SourcedBut G (OnWay a o) s → Sourced G (deliver_awaiter_failure s a e).store
  unfolding view
  failure-climb zero s o a f i c = absurd (not-suc-le-zero {n = 0} (omega (arith, f, i.detached.made, i.during.kept.but.fits.made_fits)))
  failure-climb (suc n) s o Awaiter.Nobody f i c = unfold deliver_awaiter_failure send_error nobody_woken in (all_of s (no_way s o Awaiter.Nobody (λ g q. nobody_no g o q) c))
  failure-climb (suc n) s o (Awaiter.Task t) f i c =
      let fits : t.0 < task_limit = omega (arith, task_low s t i.detached.range, i.during.kept.but.fits.next_fits) in
      let same : SameLive s (deliver_awaiter_failure s (Awaiter.Task t) e).store = failure_same s (Awaiter.Task t) e i.during.kept.memory.sized fits in
      to_all s t e (to_task_sourced s t.0 (TaskState.Raised e) i.during.kept.memory.sized fits k (λ v. to_lives s t e v (same.lives v)) (no_way s o (Awaiter.Task t) (λ g q. task_no t g o q) c))
  failure-climb (suc n) s o (Awaiter.GatherSlot g x) f i c = failure-slot n s o g.0 x.0 f i c (λ y p b j m d. failure-climb n y p b j m d)

  -- An error of object o goes to its awaiter.
  pub failure_sourced : (s : Store) (o : ℕ) (a : Awaiter) → DeliveringError r D hd o s a → SourcedBut G (OnWay a o) s → Sourced G (deliver_awaiter_failure s a e).store
  failure_sourced s o a i c = failure-climb object_limit s o a (omega arith) i c
