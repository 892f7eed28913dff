-- `Sourced` through the cycle: a failed start ends its gather before its task goes.
use Rattle.std.specs.Prelude.{◌≡◌, Bool, T, eqb}
use Rattle.std.proofs.Math.Path.{refl, sym, ap, subst}
use Rattle.std.proofs.Common.{◌∙◌, not-suc-le-zero, arith}
use Rattle.std.proofs.Math.Bool.{true, false, true≢false}
use mathlib.Core.List.{List}
use Rattle.std.proofs.Math.Option.{Option, none, some, some-injective}
use Prim.Native.Nat.{ℕ, zero, suc, ◌+◌, ◌≤◌, ◌<◌}
use Rattle.std.proofs.Math.Decide.{ℕ_discrete}
use Rattle.asyncio.specs.declared.Value.{Value}
use Rattle.asyncio.specs.declared.Error.{Error}
use Rattle.asyncio.specs.declared.TaskState.{TaskState}
use Rattle.asyncio.specs.declared.Task.{Task}
use Rattle.asyncio.specs.declared.Awaiter.{Awaiter}
use Rattle.asyncio.specs.declared.CoroutineState.{CoroutineState}
use Rattle.asyncio.specs.declared.GatherState.{GatherState}
use Rattle.asyncio.specs.declared.Object.{Object}
use Rattle.asyncio.specs.declared.Moment.{Moment}
use Rattle.asyncio.specs.declared.Header.{Header}
use Rattle.asyncio.specs.Limits.{object_limit, task_limit, u32_limit}
use Rattle.asyncio.specs.Numbers.{heap_id, task_id}
use Rattle.asyncio.specs.Ranges.{ErrorFits, AwaiterFits, HeaderFits, MomentFits, StateFits, ObjectFits}
use Rattle.asyncio.specs.States.{pick, is_live, is_blocked}
use Rattle.machine.specs.Store.{Store, LogEntry, view, task, object, place, header, put_object, put_task, put_queue, put_header, add_log, restate, set_state, set_moment, absent, reached, exited}
use Rattle.machine.specs.Scheduler.{AwaitedGather, PendingExternal, as_awaited, as_pending, make_ready, push_ready, remove_from_ready_queue, remove_task, live_count}
use Rattle.machine.specs.Delivery.{Delivery, nobody_woken, deliver_to_task, Settled, fail_awaited, fail_gather, climb, awaited_count, send_error, climb_error, deliver_awaiter_failure}
use Rattle.machine.specs.Events.{How, start, value, raises, Switched, run, yield, new_function, resume_next, resume_after_task_exit, handle_task_failure, start_by, start_task, activate_state, activate_within, activate}
use Rattle.machine_laws.specs.Views.{Sized}
use Rattle.machine_laws.specs.Facts.{Open, Slotted, Nothing}
use Rattle.machine_laws.specs.StoreLaws.{object_put-object, header-fits, header_put-header, header_put-object, object_put-other, object_put-header, live-put_task, task_put-other, task-fits, object-fits, sized-put_object, sized-set_state}
use Rattle.machine_laws.specs.DeliveryLaws.{absurd_some, awaited-fits}
use Rattle.machine_theorems.specs.Soundness.Stores.{idle, SoundDuring}
use Rattle.machine_theorems.specs.Soundness.Deliver.{DeliveryEnds, failure_keeps}
use Rattle.machine_theorems.specs.Soundness.Cycle.{task_delivering, remove_keeps, next-by, exit_by}
use Rattle.machine_theorems.specs.Panics.NoPanicLaws.{Activated, starts, goes_on, raises_it, ready_activated, main_started}
use Rattle.machine_theorems.specs.Panics.NoPanicWoken.{failure_activated}
use Rattle.machine_sessions.specs.Stall.NoStall.{Source, by_external, by_gather, by_nobody, by_task, Roots, root, above, Sourced}
use Rattle.machine_sessions.specs.Stall.SourcedPlan.{SourcedBut, OnWay, but_of, all_of, but_same}
use Rattle.machine_sessions.specs.Stall.SourcedClimb.{failure_sourced, awaiter_kept}
use Rattle.machine_sessions.specs.Waits.Calls.{moment_row}
use Rattle.machine_sessions.specs.Stall.Effects.{WokenBy, Effect, nobody, wakes, failure_effect}
use Rattle.queue.specs.declared.ReadyQueue.{ReadyQueue}
use Rattle.rows.specs.Tables.{task_at, task_put}
use Rattle.rows.specs.TableLaws.{task_at-other}

-- ---- a gather that is not awaited does not come to be awaited by an error

module _ (g : ℕ) where
  abbrev Off : Store → Type 0
  Off s = as_awaited (object s g) ≡ none

  off-fail : (s : Store) (p : ℕ) (e : Error) → Off s → Off (fail_gather s p e).store
  unfolding fail_gather
  off-fail s p e k = by (as_awaited (object s p)) refl
    where
      by : (w : Option AwaitedGather) → as_awaited (object s p) ≡ w → Off (fail_awaited s p e w).store
      by none q = unfold fail_awaited in k
      by (some w) q =
          unfold fail_awaited in (ap as_awaited (object_put-other s p g _ (λ d. absurd_some (sym k ∙ subst (λ (m : ℕ). as_awaited (object s m) ≡ some w) (sym d) q))) ∙ k)

  off-task : (s : Store) (t : ℕ) (x : TaskState) → Off s → Off (deliver_to_task s t x).store
  unfolding deliver_to_task nobody_woken
  off-task s t x k = by (is_blocked (task s t).state)
    where
      by : (b : Bool) → Off (pick b (record { store = add_log (make_ready s t x) (reached t); woken = some t }) (nobody_woken s)).store
      by true = unfold object add_log make_ready push_ready put_queue set_state put_task in (unfold object in k)
      by false = k

  off-send : (go : Store → Awaiter → Error → Delivery) → ((s : Store) (a : Awaiter) (e : Error) → Off s → Off (go s a e).store) → (s : Store) (a : Awaiter) (e : Error) → Off s → Off (send_error go s a e).store
  unfolding send_error nobody_woken
  off-send go h s Awaiter.Nobody e k = k
  off-send go h s (Awaiter.Task t) e k = off-task s t.0 (TaskState.Raised e) k
  off-send go h s (Awaiter.GatherSlot p x) e k = by (fail_gather s p.0 e).onward (off-fail s p.0 e k)
    where
      by : (a : Option Awaiter) → Off (fail_gather s p.0 e).store → Off (climb (λ y b. go y b e) (fail_gather s p.0 e).store a).store
      by none j = unfold climb nobody_woken in j
      by (some b) j = unfold climb in (h _ b e j)

  off-climb : (n : ℕ) (s : Store) (a : Awaiter) (e : Error) → Off s → Off (climb_error n s a e).store
  unfolding climb_error nobody_woken
  off-climb zero s a e k = k
  off-climb (suc n) s a e k = off-send (λ y b f. climb_error n y b f) (λ y b f. off-climb n y b f) s a e k

  -- after the error of its own place it is awaited no more
  pub failure_settles : (s : Store) (x : ℕ) (e : Error) → Sized s → g < object_limit → ErrorFits e → as_awaited (object (deliver_awaiter_failure s (Awaiter.GatherSlot (heap_id g) (heap_id x)) e).store g) ≡ none
  unfolding deliver_awaiter_failure send_error
  failure_settles s x e z l f = by (fail_gather s g e).onward (first (as_awaited (object s g)) refl)
    where
      first : (w : Option AwaitedGather) → as_awaited (object s g) ≡ w → Off (fail_gather s g e).store
      first none q = off-fail s g e q
      first (some w) q = unfold fail_gather in (ap (λ (y : Option AwaitedGather). as_awaited (object (fail_awaited s g e y).store g)) q ∙ failed w q)
        where
          failed : (w : AwaitedGather) → as_awaited (object s g) ≡ some w → as_awaited (object (fail_awaited s g e (some w)).store g) ≡ none
          failed w q = unfold fail_awaited in (ap as_awaited (object_put-object s g (Object.GatherFuture w.first w.count (GatherState.Failed e)) z l ((awaited-fits s g w q).0, f)) ∙ (unfold as_awaited in refl))

      by : (a : Option Awaiter) → Off (fail_gather s g e).store → Off (climb (λ y b. climb_error (awaited_count s) y b e) (fail_gather s g e).store a).store
      by none j = unfold climb nobody_woken in j
      by (some b) j = unfold climb in (off-climb (awaited_count s) _ b e j)

-- ---- a task goes: what it was the source of lies in X

pub removed_but : {G : ℕ → Type 0} {X : ℕ → ℕ → Type 0} (s : Store) (t : ℕ) (y : LogEntry) → Sized s → t < task_limit
    → ((g o : ℕ) (w : AwaitedGather) → as_awaited (object s g) ≡ some w → (task s t).awaiter ≡ Awaiter.GatherSlot (heap_id g) (heap_id o) → X g o) → Sourced G s → SourcedBut G X (add_log (remove_task s t) y)
removed_but {G} {X} s t y z low none-there k =
    record {
      sources = λ g o w l e op n. still g o w n (was g w e) (k.sources g o w (unfold header add_log remove_task remove_from_ready_queue put_queue put_task in l) (was g w e)
          (record { at = op.at; under = op.under; is_open = op.is_open; names = unfold place add_log remove_task remove_from_ready_queue put_queue put_task in op.names }));
      rising = λ v g x r l lv a q. up v g x r l lv a q (ℕ_discrete v t);
    }
  where
    u : Store
    u = add_log (remove_task s t) y

    rows : (v : ℕ) → task u v ≡ task (put_task s t absent) v
    rows v = unfold add_log remove_task remove_from_ready_queue put_queue task in refl

    was : (g : ℕ) (w : AwaitedGather) → as_awaited (object u g) ≡ some w → as_awaited (object s g) ≡ some w
    was g w e = unfold object in (unfold object add_log remove_task remove_from_ready_queue put_queue put_task in e)

    other : (v : ℕ) → (v ≡ t → ⊥) → task u v ≡ task s v
    other v ne = rows v ∙ task_put-other s t v absent ne

    dead : is_live (task u t).state ≡ false
    dead = ap (λ (r : Task). is_live r.state) (rows t) ∙ (live-put_task s t absent z low ∙ (unfold absent in refl))

    still : (g o : ℕ) (w : AwaitedGather) → (X g o → ⊥) → as_awaited (object s g) ≡ some w → Source G s g o → Source G u g o
    still g o w n e (by_external p q a) = by_external p (unfold object add_log remove_task remove_from_ready_queue put_queue put_task in (unfold object in q)) a
    still g o w n e (by_gather v q a) = by_gather v (unfold object add_log remove_task remove_from_ready_queue put_queue put_task in (unfold object in q)) a
    still g o w n e (by_nobody j) = by_nobody j
    still g o w n e (by_task v l lv a) = by (ℕ_discrete v t)
      where
        by : Dec (v ≡ t) → Source G u g o
        by (yes q) = absurd (n (none-there g o w e (subst (λ (m : ℕ). (task s m).awaiter ≡ Awaiter.GatherSlot (heap_id g) (heap_id o)) q a)))
        by (no ne) = by_task v (unfold header add_log remove_task remove_from_ready_queue put_queue put_task in l) (ap (λ (r : Task). is_live r.state) (other v ne) ∙ lv) (ap (λ (r : Task). r.awaiter) (other v ne) ∙ a)

    roots-was : {g r : ℕ} → Roots u g r → Roots s g r
    roots-was (root g r w e a) = root g r w (was g w e) a
    roots-was (above g r p x w e a q) = above g r p x w (was g w e) a (roots-was q)

    up : (v g x r : ℕ) → v < (header u).next → is_live (task u v).state ≡ true → (task u v).awaiter ≡ Awaiter.GatherSlot (heap_id g) (heap_id x) → Roots u g r → Dec (v ≡ t) → r < v
    up v g x r l lv a q (yes d) = absurd (true≢false (sym lv ∙ subst (λ (m : ℕ). is_live (task u m).state ≡ false) (sym d) dead))
    up v g x r l lv a q (no ne) =
        k.rising v g x r (unfold header add_log remove_task remove_from_ready_queue put_queue put_task in l) (sym (ap (λ (w : Task). is_live w.state) (other v ne)) ∙ lv)
        (sym (ap (λ (w : Task). w.awaiter) (other v ne)) ∙ a) (roots-was q)

pub removed_sourced : {G : ℕ → Type 0} (s : Store) (t : ℕ) (y : LogEntry) → Sized s → t < task_limit
    → ((g o : ℕ) (w : AwaitedGather) → as_awaited (object s g) ≡ some w → (task s t).awaiter ≡ Awaiter.GatherSlot (heap_id g) (heap_id o) → ⊥) → Sourced G s → Sourced G (add_log (remove_task s t) y)
removed_sourced s t y z low none-there k = all_of _ (removed_but s t y z low none-there k)

-- ---- a row that is neither a pending external nor an awaited gather, before and after

pub plain_sourced : {G : ℕ → Type 0} (s : Store) (o : ℕ) (x : Object) → Sized s → o < object_limit → ObjectFits x → as_pending (object s o) ≡ none → as_awaited (object s o) ≡ none → as_awaited x ≡ none → Sourced G s → Sourced G (put_object s o x)
plain_sourced {G} s o x z low fits np na xa k =
    record {
      sources = λ g p w l e op. still g p (k.sources g p w (subst (λ (h : Header). g < h.made) (header_put-object s o x) l) (was g w e)
          (record { at = op.at; under = op.under; is_open = op.is_open; names = unfold place put_object in op.names }));
      rising = λ v g y t l lv a r. k.rising v g y t (subst (λ (h : Header). v < h.next) (header_put-object s o x) l) (unfold task put_object in lv) (unfold task put_object in a) (roots-was r);
    }
  where
    u : Store
    u = put_object s o x

    was : (g : ℕ) (w : AwaitedGather) → as_awaited (object u g) ≡ some w → as_awaited (object s g) ≡ some w
    was g w e = by (ℕ_discrete g o)
      where
        by : Dec (g ≡ o) → as_awaited (object s g) ≡ some w
        by (yes q) = absurd_some (sym xa ∙ (sym (ap as_awaited (object_put-object s o x z low fits)) ∙ subst (λ (m : ℕ). as_awaited (object u m) ≡ some w) q e))
        by (no ne) = sym (ap as_awaited (object_put-other s o g x ne)) ∙ e

    still : (g p : ℕ) → Source G s g p → Source G u g p
    still g p (by_external q e a) = by_external q (ap as_pending (object_put-other s o p x (λ d. absurd_some (sym np ∙ subst (λ (m : ℕ). as_pending (object s m) ≡ some q) d e))) ∙ e) a
    still g p (by_gather v e a) = by_gather v (ap as_awaited (object_put-other s o p x (λ d. absurd_some (sym na ∙ subst (λ (m : ℕ). as_awaited (object s m) ≡ some v) d e))) ∙ e) a
    still g p (by_nobody j) = by_nobody j
    still g p (by_task t l lv a) = by_task t (subst (λ (h : Header). t < h.next) (sym (header_put-object s o x)) l) (unfold task put_object in lv) (unfold task put_object in a)

    roots-was : {g t : ℕ} → Roots u g t → Roots s g t
    roots-was (root g t w e a) = root g t w (was g w e) a
    roots-was (above g t p y w e a q) = above g t p y w (was g w e) a (roots-was q)

-- ---- the cycle

moment_sourced : {G : ℕ → Type 0} (s : Store) (m : Moment) → Sized s → MomentFits m → Sourced G s → Sourced G (set_moment s m)
moment_sourced s m z f k =
    all_of _ (but_same _ s (set_moment s m) (λ o. moment_row s m o) (λ t. unfold task set_moment put_header in refl) (λ t. unfold task set_moment put_header in refl) (λ p. unfold place set_moment put_header in refl)
    head.0 head.1 (but_of s k))
  where
    head : ((header (set_moment s m)).made ≡ (header s).made) × ((header (set_moment s m)).next ≡ (header s).next)
    head =
        let h : HeaderFits (header s) = header-fits s in
        let e : header (set_moment s m) ≡ record { made = (header s).made; used = (header s).used; calls = (header s).calls; next = (header s).next; moment = m } =
        unfold set_moment in (header_put-header s _ z (record { made_fits = h.made_fits; used_fits = h.used_fits; calls_fit = h.calls_fit; next_fits = h.next_fits; moment_fits = f })) in
        (ap (λ (y : Header). y.made) e, ap (λ (y : Header). y.next) e)

pub queue_sourced : {G : ℕ → Type 0} (s : Store) (q : ReadyQueue) → Sourced G s → Sourced G (put_queue s q)
queue_sourced s q k =
    all_of _ (but_same _ s (put_queue s q) (λ o. unfold object put_queue in refl) (λ t. unfold task put_queue in refl) (λ t. unfold task put_queue in refl) (λ p. unfold place put_queue in refl)
    (unfold header put_queue in refl) (unfold header put_queue in refl) (but_of s k))

state_lives : (s : Store) (t v : ℕ) (x : TaskState) → Sized s → t < task_limit → is_live x ≡ is_live (task s t).state → is_live (task (set_state s t x) v).state ≡ is_live (task s v).state
unfolding set_state restate
state_lives s t v x z l e = by (ℕ_discrete v t)
  where
    r : Task
    r = record { state = x; awaiter = (task s t).awaiter; coroutine = (task s t).coroutine }

    by : Dec (v ≡ t) → is_live (task (put_task s t r) v).state ≡ is_live (task s v).state
    by (yes q) = subst (λ (m : ℕ). is_live (task (put_task s t r) m).state ≡ is_live (task s m).state) (sym q) (live-put_task s t r z l ∙ e)
    by (no ne) = ap (λ (y : Task). is_live y.state) (task_put-other s t v r ne)

pub state_sourced : {G : ℕ → Type 0} (s : Store) (t : ℕ) (x : TaskState) → Sized s → t < task_limit → StateFits x → is_live x ≡ is_live (task s t).state → Sourced G s → Sourced G (set_state s t x)
state_sourced s t x z l f e k =
    all_of _ (but_same _ s (set_state s t x) (λ o. unfold object set_state put_task in refl) (λ v. state_lives s t v x z l e) (λ v. awaiter_kept s t v x z l f) (λ p. unfold place set_state put_task in refl)
    (unfold header set_state put_task in refl) (unfold header set_state put_task in refl) (but_of s k))

run_sourced : {G : ℕ → Type 0} (s : Store) (t : ℕ) (h : How) → Sized s → t < task_limit → is_live (task s t).state ≡ true → Sourced G s → Sourced G (run s t h).store
unfolding run
run_sourced s t h z l e k = moment_sourced (set_state s t TaskState.Running) (Moment.Running (task_id t)) (sized-set_state s t TaskState.Running z) l (state_sourced s t TaskState.Running z l tt (sym e) k)

yield_sourced : {G : ℕ → Type 0} (s : Store) → Sized s → Sourced G s → Sourced G (yield s).store
unfolding yield
yield_sourced s z k = moment_sourced s Moment.Waiting z tt k

new-plain : (x : Object) (f : ℕ) → new_function x ≡ some f → (as_pending x ≡ none) × (as_awaited x ≡ none)
unfolding new_function as_pending as_awaited
new-plain Object.Unmade f e = absurd_some e
new-plain (Object.Coroutine g CoroutineState.New) f e = (refl, refl)
new-plain (Object.Coroutine g CoroutineState.Running) f e = absurd_some e
new-plain (Object.Coroutine g CoroutineState.Completed) f e = absurd_some e
new-plain (Object.ExternalFuture c x) f e = absurd_some e
new-plain (Object.GatherFuture g n x) f e = absurd_some e

new_low : (x : Object) (f : ℕ) → new_function x ≡ some f → ObjectFits x → f < u32_limit
unfolding new_function
new_low Object.Unmade f e h = absurd_some e
new_low (Object.Coroutine g CoroutineState.New) f e h = subst (λ (m : ℕ). m < u32_limit) (some-injective g f e) h
new_low (Object.Coroutine g CoroutineState.Running) f e h = absurd_some e
new_low (Object.Coroutine g CoroutineState.Completed) f e h = absurd_some e
new_low (Object.ExternalFuture c x) f e h = absurd_some e
new_low (Object.GatherFuture g n x) f e h = absurd_some e

module _ (G : ℕ → Type 0) (D : ℕ → Type 0) (hd : Header) where
  room_of : {P : ℕ → Type 0} {r : ℕ → Bool} (s : Store) (t : ℕ) → t < hd.next → SoundDuring P r D hd s → t < task_limit
  unfolding view
  room_of s t l h = omega (arith, subst (λ (y : Header). t < y.next) (sym h.head) l, h.kept.but.fits.next_fits)

  pub Keeps : (Store → ℕ → Switched) → Type 0
  Keeps act = (s : Store) (t : ℕ) → t < hd.next → Activated (task s t).state → SoundDuring Nothing idle D hd s → Sourced G s → Sourced G (act s t).store

  module _ (act : Store → ℕ → Switched) (go : Keeps act) where
    pub next_sourced : (s : Store) → SoundDuring Nothing idle D hd s → Sourced G s → Sourced G (resume_next act s).store
    unfolding Keeps put_queue task
    next_sourced s h k =
        next-by D hd (λ x y. Sourced G x.store) act act s h (yield_sourced s h.kept.memory.sized k)
        (λ q u l off r m. go (put_queue s q) u l (ready_activated _ r) m (queue_sourced s q k))

    pub exit_sourced : (d : Delivery) → DeliveryEnds idle D hd d → ((u : ℕ) → d.woken ≡ some u → Activated (task (remove_from_ready_queue d.store u) u).state) → Sourced G d.store
        → Sourced G (resume_after_task_exit act d).store
    unfolding Keeps remove_from_ready_queue put_queue task
    exit_sourced d h active k =
        exit_by D hd (λ x y. Sourced G x.store) act act d h (yield_sourced d.store h.during.kept.memory.sized k)
        (λ q u l off r m. go (put_queue d.store q) u l (ready_activated _ r) m (queue_sourced d.store q k))
        (λ q u e l off m. go (put_queue d.store q) u l (active u e) m (queue_sourced d.store q k))

    pub fails_sourced : (s : Store) (t : ℕ) (e : Error) (r : ℕ → Bool) → ErrorFits e → suc t < hd.next → T (is_live (task s (suc t)).state) → is_blocked (task s (suc t)).state ≡ false
        → ((u : ℕ) → (u ≡ suc t → ⊥) → r u ≡ false) → SoundDuring Nothing r D hd s → Sourced G s → Sourced G (handle_task_failure act s (suc t) e).store
    unfolding handle_task_failure
    fails_sourced s t e r f l live free still h k =
        let a : Awaiter = (task s (suc t)).awaiter in
        let z : Sized s = h.kept.memory.sized in
        let d : Delivery = deliver_awaiter_failure s a e in
        let delivers_on = task_delivering s t h l live in
        let sent : DeliveryEnds r D hd d = failure_keeps r D hd e f s (task s (suc t)).coroutine.0 a delivers_on in
        let k1 : Sourced G d.store = failure_sourced _ r D hd e f s (task s (suc t)).coroutine.0 a delivers_on (but_of s k) in
        exit_sourced _ (record {
          during = remove_keeps d.store (suc t) sent.during (subst (λ (y : Header). suc t < y.next) (sym sent.during.head) l) (exited (suc t)) idle refl still;
          woken = sent.woken;
        }) (failure_activated s (suc t) e z f free)
        (removed_sourced d.store (suc t) (exited (suc t)) sent.during.kept.memory.sized (room_of s (suc t) l h)
        (λ g o w q b.
        let sl : a ≡ Awaiter.GatherSlot (heap_id g) (heap_id o) = sym (same_awaiter s a e z (failure_effect s a e z (task-fits s (suc t)).awaiter_fits)) ∙ b in
        absurd_some (sym (gone s g o e z f a sl (task-fits s (suc t)).awaiter_fits) ∙ q)) k1)
      where
        same_awaiter : (s0 : Store) (a : Awaiter) (e : Error) → Sized s0 → Effect s (deliver_awaiter_failure s a e) → (task (deliver_awaiter_failure s a e).store (suc t)).awaiter ≡ (task s (suc t)).awaiter
        same_awaiter s0 a e z (nobody x w) = unfold task in (ap (λ (l : List ℕ). (task_at l (suc t)).awaiter) x.tasks)
        same_awaiter s0 a e z (wakes v y x w) =
            unfold task in (ap (λ (l : List ℕ). (task_at l (suc t)).awaiter) x.tasks ∙ ap (λ (r : Task). r.awaiter) (other_row v y (λ q. true≢false (sym x.was_blocked ∙ (unfold task in (ap (λ (m : ℕ). is_blocked (task_at s.tasks m).state) (sym q) ∙ free-at))))))
          where
            free-at : is_blocked (task_at s.tasks (suc t)).state ≡ false
            free-at = unfold task in free

            other_row : (v : ℕ) (y : TaskState) → (suc t ≡ v → ⊥) → task_at (task_put s.tasks v (restate (task_at s.tasks v) y)) (suc t) ≡ task_at s.tasks (suc t)
            other_row v y ne = task_at-other s.tasks v (suc t) _ ne

        gone : (s : Store) (g o : ℕ) (e : Error) → Sized s → ErrorFits e → (a : Awaiter) → a ≡ Awaiter.GatherSlot (heap_id g) (heap_id o) → AwaiterFits a → as_awaited (object (deliver_awaiter_failure s a e).store g) ≡ none
        gone s g o e z f a q af =
            subst (λ (b : Awaiter). as_awaited (object (deliver_awaiter_failure s b e).store g) ≡ none) (sym q) (failure_settles g s o e z (subst AwaiterFits q af).0 f)

    start-sourced : (s : Store) (t : ℕ) → suc t < hd.next → (task s (suc t)).state ≡ TaskState.Unstarted → SoundDuring Nothing idle D hd s → Sourced G s → Sourced G (start_task act s (suc t)).store
    unfolding start_task
    start-sourced s t l fr h k = by (new_function (object s o)) refl
      where
        o : ℕ
        o = (task s (suc t)).coroutine.0

        z : Sized s
        z = h.kept.memory.sized

        live-row : (x : Object) → is_live (task (put_object s o x) (suc t)).state ≡ true
        live-row x = same x ∙ ap is_live fr
          where
            same : (x : Object) → is_live (task (put_object s o x) (suc t)).state ≡ is_live (task s (suc t)).state
            same x = unfold task put_object in refl

        by : (n : Option ℕ) → new_function (object s o) ≡ n → Sourced G (start_by act s (suc t) o n).store
        by none e = unfold start_by in (fails_sourced s t Error.CoroutineReuse idle tt l (rw fr tt) (rw fr) (λ u d. refl) h k)
        by (some f) e =
            let x : Object = Object.Coroutine f CoroutineState.Running in
            let p = new-plain (object s o) f e in
            let k1 : Sourced G (put_object s o x) = plain_sourced s o x z (task-fits s (suc t)).coroutine_fits (new_low (object s o) f e (object-fits s o)) p.0 p.1 (unfold as_awaited in refl) k in
            let k2 : Sourced G (run (put_object s o x) (suc t) (start o f)).store = run_sourced (put_object s o x) (suc t) (start o f) (sized-put_object s o x z) (room_of s (suc t) l h) (live-row x) k1 in
            unfold start_by in k2

    state-kept3 : (s : Store) (t : ℕ) (x : TaskState) → t < hd.next → (task s t).state ≡ x → Activated x → SoundDuring Nothing idle D hd s → Sourced G s → Sourced G (activate_state act s t x).store
    unfolding activate_state view
    state-kept3 s zero _ l e starts h k = absurd (main_started h.kept.but e)
    state-kept3 s (suc t) _ l e starts h k = start-sourced s t l e h k
    state-kept3 s t _ l e (goes_on v) h k = run_sourced s t (value v) h.kept.memory.sized (room_of s t l h) (ap is_live e) k
    state-kept3 s t _ l e (raises_it v) h k = run_sourced s t (raises v) h.kept.memory.sized (room_of s t l h) (ap is_live e) k

  within-sourced : (n : ℕ) → Keeps (activate_within n)
  unfolding activate_within Keeps
  within-sourced zero s t l a h k = yield_sourced s h.kept.memory.sized k
  within-sourced (suc n) s t l a h k = state-kept3 (λ x u. activate_within n x u) (within-sourced n) s t (task s t).state l refl a h k

  pub activate_sourced : Keeps activate
  unfolding activate Keeps
  activate_sourced s t l a h k = within-sourced (live_count s) s t l a h k
