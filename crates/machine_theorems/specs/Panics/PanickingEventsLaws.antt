-- The cycle, await and the end of a task reach no panic in a session: whatever a panic does, with the panics they are the machine's.
use Rattle.std.specs.Prelude.{◌≡◌, Bool, false}
use Rattle.std.proofs.Math.Path.{refl, ap, subst}
use Rattle.std.proofs.Common.{sym, ◌∙◌, not-suc-le-zero, arith}
use Rattle.std.proofs.Math.Bool.{true}
use Rattle.std.proofs.Math.Option.{some}
use Prim.Native.Nat.{ℕ, zero, suc, ◌<◌}
use Rattle.std.proofs.Math.Dec.{T}
use Rattle.asyncio.specs.declared.CallId.{CallId}
use Rattle.asyncio.specs.declared.Value.{Value}
use Rattle.asyncio.specs.declared.Error.{Error}
use Rattle.asyncio.specs.declared.Awaiter.{Awaiter}
use Rattle.asyncio.specs.declared.TaskState.{TaskState}
use Rattle.asyncio.specs.declared.CoroutineState.{CoroutineState}
use Rattle.asyncio.specs.declared.ExternalFutureState.{ExternalFutureState}
use Rattle.asyncio.specs.declared.GatherState.{GatherState}
use Rattle.asyncio.specs.declared.Object.{Object}
use Rattle.asyncio.specs.declared.Header.{Header}
use Rattle.asyncio.specs.declared.Moment.{Moment}
use Rattle.asyncio.specs.Limits.{task_limit}
use Rattle.asyncio.specs.Ranges.{AwaiterFits, ValueFits, ErrorFits}
use Rattle.asyncio.specs.Numbers.{heap_id, task_id}
use Rattle.asyncio.specs.States.{is_live, is_running, is_blocked}
use Rattle.asyncio.specs.Kinds.{kind, is_completed}
use Rattle.queue.specs.Queue.{entries, occurrences}
use Rattle.machine.specs.Store.{Store, view, task, object, header, put_object, put_queue, set_state, add_log, blocked, exited}
use Rattle.machine.specs.Scheduler.{as_pending, remove_from_ready_queue, remove_task, live_count}
use Rattle.machine.specs.Delivery.{Delivery, deliver_awaiter_success, deliver_awaiter_failure}
use Rattle.machine.specs.Commit.{Poll, ready, raised, pending, Committed, await_pending, await_external, commit_gather_tree}
use Rattle.machine.specs.Events.{Switched, new_function, resume_next, resume_after_task_exit, handle_task_failure, start_by, start_task, activate_state, activate_within, activate}
use Rattle.machine.specs.Events.{go_on, await_external_future, await_gather, await_object, exec_get_awaitable, completed, handle_task_completion}
use Rattle.machine.specs.Sound.{value_known, runs_now}
use Rattle.machine_laws.specs.Views.{Sized}
use Rattle.machine_laws.specs.Facts.{Nothing}
use Rattle.machine_laws.specs.TestLaws.{is_true}
use Rattle.machine_laws.specs.StoreLaws.{task-fits, header-fits}
use Rattle.machine_laws.specs.CycleLaws.{live-falls, failure_falls}
use Rattle.machine_laws.specs.MakingLaws.{value-fits}
use Rattle.machine_theorems.specs.Soundness.Stores.{idle, SoundDuring, SoundStore, during_of}
use Rattle.machine_theorems.specs.Soundness.Deliver.{DeliveryEnds, DeliveringError, failure_keeps}
use Rattle.machine_theorems.specs.Soundness.Fill.{DeliveringValue}
use Rattle.machine_theorems.specs.Soundness.Cycle.{task_delivering, remove_keeps, next-by, exit_by}
use Rattle.machine_theorems.specs.Soundness.Exits.{runner_low, runner-runs, runner-live, others_commits_none, completion_delivering, completion_delivery_ends, only_changes_of}
use Rattle.machine_theorems.specs.Soundness.Await.{wait_external}
use Rattle.machine_theorems.specs.Soundness.AwaitGather.{EndOk, waits-runs, waits_blocks, commit_keeps}
use Rattle.machine_theorems.specs.Panics.NoPanicLaws.{Activated, starts, goes_on, raises_it, ready_activated, main_started, IsCoroutine, task-coroutine}
use Rattle.machine_theorems.specs.Panics.NoPanicWoken.{success_activated, failure_activated}
use Rattle.machine_theorems.specs.Panics.Panic.{Panics}
use Rattle.machine_theorems.specs.Panics.PanickingDelivery.{success_or_panic}
use Rattle.machine_theorems.specs.Panics.PanickingDeliveryLaws.{success_safe, failure_safe}
use Rattle.machine_theorems.specs.Panics.PanickingCommitLaws.{commit_safe}
use Rattle.machine_theorems.specs.Panics.PanickingEvents.{fails_or_panic, start_or_panic, task_or_panic, state_or_panic, within_or_panic, activate_or_panic}
use Rattle.machine_theorems.specs.Panics.PanickingEvents.{go_on_or_panic, await_external_or_panic, await_gather_or_panic, await_object_or_panic, await_or_panic, completed_or_panic, completes_or_panic}

-- a task that is to be started or to run on lives
activated_live : (x : TaskState) → Activated x → is_live x ≡ true
activated_live _ starts = refl
activated_live _ (goes_on v) = refl
activated_live _ (raises_it e) = refl

module _ (panic : Panics) (D : ℕ → Type 0) (hd : Header) where
  task_low : {r : ℕ → Bool} (s : Store) (t : ℕ) → t < hd.next → SoundDuring Nothing r D hd s → t < task_limit
  task_low s t low h = omega (arith, subst (λ (y : Header). t < y.next) (sym h.head) low, (header-fits s).next_fits)

  -- two ways to activate do the same with a task that is to be started or to run on, in the midst of an event
  -- where C holds of the number of live tasks
  pub Same : (ℕ → Type 0) → (Store → ℕ → Switched) → (Store → ℕ → Switched) → Type 0
  Same C act other =
      (s : Store) (t : ℕ) → C (live_count s) → t < hd.next → occurrences (entries s.queue) t ≡ 0 → Activated (task s t).state → SoundDuring Nothing idle D hd s → act s t ≡ other s t

  module _ (C : ℕ → Type 0) (act other : Store → ℕ → Switched) (go : Same C act other) where
    -- the next ready task
    pub next-same : (s : Store) → C (live_count s) → SoundDuring Nothing idle D hd s → resume_next act s ≡ resume_next other s
    unfolding Same put_queue task live_count
    next-same s c h =
        next-by D hd (λ x y. x ≡ y) act other s h refl (λ q u low off r m. go (put_queue s q) u c low off (ready_activated _ r) m)

    -- after an exit: the task that it woke, or the next one
    pub exit_same : (d : Delivery) → C (live_count d.store) → DeliveryEnds idle D hd d → ((u : ℕ) → d.woken ≡ some u → Activated (task (remove_from_ready_queue d.store u) u).state)
        → resume_after_task_exit act d ≡ resume_after_task_exit other d
    unfolding Same remove_from_ready_queue put_queue task live_count
    exit_same d c h active =
        exit_by D hd (λ x y. x ≡ y) act other d h refl (λ q u low off r m. go (put_queue d.store q) u c low off (ready_activated _ r) m)
        (λ q u e low off m. go (put_queue d.store q) u c low off (active u e) m)

    -- a live spawned task that is not blocked fails
    pub failure_same : (s : Store) (t : ℕ) (e : Error) (r : ℕ → Bool) → ErrorFits e → suc t < hd.next → T (is_live (task s (suc t)).state)
        → is_blocked (task s (suc t)).state ≡ false → ((u : ℕ) → (u ≡ suc t → ⊥) → r u ≡ false)
        → ((n : ℕ) → live_count s ≡ suc n → C n) → SoundDuring Nothing r D hd s
        → fails_or_panic panic act s (suc t) e ≡ handle_task_failure other s (suc t) e
    unfolding handle_task_failure fails_or_panic
    failure_same s t e r k low l free still less h =
        let room : suc t < task_limit = task_low s (suc t) low h in
        let up : DeliveringError r D hd (task s (suc t)).coroutine.0 s (task s (suc t)).awaiter = task_delivering s t h low l in
        let sent : DeliveryEnds r D hd (deliver_awaiter_failure s (task s (suc t)).awaiter e) =
        failure_keeps r D hd e k s (task s (suc t)).coroutine.0 (task s (suc t)).awaiter up in
        rw (is_true (is_live (task s (suc t)).state) l, failure_safe panic r D hd e k s (task s (suc t)).coroutine.0 (task s (suc t)).awaiter up)
        (exit_same _ (less _ (failure_falls s (suc t) e h.kept.memory.sized room (is_true (is_live (task s (suc t)).state) l))) (record {
          during = remove_keeps (deliver_awaiter_failure s (task s (suc t)).awaiter e).store (suc t) sent.during
              (subst (λ (y : Header). suc t < y.next) (sym sent.during.head) low) (exited (suc t)) idle refl still;
          woken = sent.woken;
        }) (failure_activated s (suc t) e h.kept.memory.sized k free))

    start-same : (s : Store) (t : ℕ) → suc t < hd.next → (task s (suc t)).state ≡ TaskState.Unstarted → ((n : ℕ) → live_count s ≡ suc n → C n) → SoundDuring Nothing idle D hd s
        → task_or_panic panic act s (suc t) ≡ start_task other s (suc t)
    unfolding start_task task_or_panic view
    start-same s t low fr less h =
        subst (λ (y : Object). start_or_panic panic act s (suc t) c y ≡ start_by other s (suc t) c (new_function y)) (sym is_one.is) (coroutine is_one.function is_one.state)
      where
        c : ℕ
        c = (task s (suc t)).coroutine.0

        low-s : suc t < (header s).next
        low-s = subst (λ (y : Header). suc t < y.next) (sym h.head) low

        is_one : IsCoroutine (view s) c
        is_one = task-coroutine h.kept.but t low-s (rw fr tt)

        fails : fails_or_panic panic act s (suc t) Error.CoroutineReuse ≡ handle_task_failure other s (suc t) Error.CoroutineReuse
        fails = failure_same s t Error.CoroutineReuse idle tt low (rw fr tt) (rw fr) (λ u d. refl) less h

        coroutine : (f : ℕ) (y : CoroutineState) → start_or_panic panic act s (suc t) c (Object.Coroutine f y) ≡ start_by other s (suc t) c (new_function (Object.Coroutine f y))
        coroutine f CoroutineState.New = unfold start_by new_function start_or_panic in refl
        coroutine f CoroutineState.Running = unfold start_by new_function start_or_panic in fails
        coroutine f CoroutineState.Completed = unfold start_by new_function start_or_panic in fails

    state_same : (s : Store) (t : ℕ) (x : TaskState) → t < hd.next → (task s t).state ≡ x → Activated x → ((n : ℕ) → live_count s ≡ suc n → C n)
        → SoundDuring Nothing idle D hd s → state_or_panic panic act s t x ≡ activate_state other s t x
    unfolding activate_state state_or_panic view
    state_same s zero _ low e starts less h = absurd (main_started h.kept.but e)
    state_same s (suc t) _ low e starts less h = start-same s t low e less h
    state_same s t _ low e (goes_on v) less h = refl
    state_same s t _ low e (raises_it v) less h = refl

  -- with as much fuel as there are live tasks, of which the one activated is one
  within_same : (k : ℕ) → Same (λ n. n ≡ k) (within_or_panic panic k) (activate_within k)
  unfolding activate_within within_or_panic Same
  within_same zero s t c low off a h =
      absurd (not-suc-le-zero {n = 0} (omega (arith, c, live-falls s t h.kept.memory.sized (task_low s t low h) (activated_live _ a))))
  within_same (suc k) s t c low off a h =
      state_same (λ n. n ≡ k) (λ x u. within_or_panic panic k x u) (λ x u. activate_within k x u) (within_same k) s t (task s t).state low refl a (λ n q. omega (arith, c, q)) h

  -- A task that is to be started or to run on is activated without a panic, and so is whoever comes after it.
  pub activate-same : Same (λ n. Unit {0}) (activate_or_panic panic) activate
  unfolding activate activate_or_panic Same
  activate-same s t c low off a h = within_same (live_count s) s t refl low off a h

  -- No panic is reached where no task runs and the next one is to go on.
  pub next_safe : (s : Store) → SoundDuring Nothing idle D hd s → resume_next (activate_or_panic panic) s ≡ resume_next activate s
  next_safe s h = next-same (λ n. Unit {0}) (activate_or_panic panic) activate activate-same s tt h

  -- Nor where the value of a task that has completed was delivered.
  pub success_ends : (s : Store) (a : Awaiter) (v : Value) → Sized s → AwaiterFits a → ValueFits v → DeliveryEnds idle D hd (deliver_awaiter_success s a v)
      → resume_after_task_exit (activate_or_panic panic) (deliver_awaiter_success s a v) ≡ resume_after_task_exit activate (deliver_awaiter_success s a v)
  success_ends s a v z f k h = exit_same (λ n. Unit {0}) (activate_or_panic panic) activate activate-same (deliver_awaiter_success s a v) tt h (success_activated s a v z f k)

  -- Nor where a running task blocks.
  pub blocks_safe : (t o n : ℕ) (s : Store) → (task s t).state ≡ TaskState.Running → SoundDuring Nothing idle D hd (add_log (set_state s t (TaskState.Blocked (heap_id o))) (blocked t))
      → go_on_or_panic panic t o n s pending ≡ go_on t o n s pending
  unfolding go_on_or_panic go_on
  blocks_safe t o n s run h =
      let runs : is_running (task s t).state ≡ true = ap is_running run in
      rw runs (ap (λ (x : Switched). record { store = x.store; control = x.control; steps = n }) (next_safe _ h))

-- ---- events

module _ (panic : Panics) (s : Store) (h : SoundStore s) where
  abbrev D0 : ℕ → Type 0
  D0 o = T (is_completed (kind (object s o)))

  -- The event `resume` reaches no panic.
  pub resume_safe : (header s).moment ≡ Moment.Waiting → resume_next (activate_or_panic panic) s ≡ resume_next activate s
  resume_safe m = next_safe panic D0 (header s) s (only_changes_of s h m)

  -- The event `fail`, of a spawned task, reaches no panic.
  pub fail_safe : (t : ℕ) (e : Error) → (header s).moment ≡ Moment.Running (task_id (suc t)) → ErrorFits e
      → fails_or_panic panic (activate_or_panic panic) s (suc t) e ≡ handle_task_failure activate s (suc t) e
  fail_safe t e m k =
      failure_same panic D0 (header s) (λ n. Unit {0}) (activate_or_panic panic) activate (activate-same panic D0 (header s)) s t e (runs_now (header s).moment) k
      (runner_low s (suc t) h m) (runner-live s (suc t) h m) (ap is_blocked (runner-runs s (suc t) h m)) (others_commits_none s (suc t) h m) (λ n q. tt) (during_of s h)

  -- The event `complete`, of a spawned task, reaches no panic.
  pub complete_safe : (t : ℕ) (v : Value) → (header s).moment ≡ Moment.Running (task_id (suc t)) → T (value_known (header s).made (object s) v)
      → completes_or_panic panic s (suc t) v ≡ handle_task_completion s (suc t) v
  unfolding completes_or_panic handle_task_completion view
  complete_safe t v m k =
      rw (is_true (is_live (task s (suc t)).state) live)
      (sends ∙ (ap (resume_after_task_exit (activate_or_panic panic)) (success_safe panic idle D0 (header s) left c a v delivers_on)
      ∙ success_ends panic D0 (header s) left a v delivers_on.during.kept.memory.sized (task-fits s (suc t)).awaiter_fits
      (value-fits (header s).made (object s) v h.facts.but.fits.made_fits k) (completion_delivery_ends s t v h m k)))
    where
      c : ℕ
      c = (task s (suc t)).coroutine.0

      a : Awaiter
      a = (task s (suc t)).awaiter

      left : Store
      left = add_log (remove_task (put_object s c (completed (object s c))) (suc t)) (exited (suc t))

      live : T (is_live (task s (suc t)).state)
      live = runner-live s (suc t) h m

      delivers_on : DeliveringValue idle D0 (header s) c v left a
      delivers_on = completion_delivering s t v h m k

      is_one : IsCoroutine (view s) c
      is_one = task-coroutine h.facts.but t (runner_low s (suc t) h m) live

      sends : completed_or_panic panic s (suc t) v (object s c) ≡ resume_after_task_exit (activate_or_panic panic) (success_or_panic panic left a v)
      sends =
          subst (λ (y : Object). completed_or_panic panic s (suc t) v y
          ≡ resume_after_task_exit (activate_or_panic panic) (success_or_panic panic (add_log (remove_task (put_object s c (completed y)) (suc t)) (exited (suc t))) a v))
          (sym is_one.is) (unfold completed_or_panic completed in refl)

-- The event `await` reaches no panic.
module _ (panic : Panics) (s : Store) (t : ℕ) (h : SoundStore s) (m : (header s).moment ≡ Moment.Running (task_id t)) where
  await-external-safe : (o : ℕ) (c : CallId) (x : ExternalFutureState) → o < (header s).made → object s o ≡ Object.ExternalFuture c x
      → await_external_or_panic panic s t o c x ≡ await_external_future s t o c x
  unfolding await_external_or_panic await_external_future await_external await_pending
  await-external-safe o c (ExternalFutureState.Pending Awaiter.Nobody r) l e =
      blocks_safe panic (λ p. T (is_completed (kind (object s p)))) (header s) t o 0 _ (unfold task put_object in (runner-runs s t h m))
      (wait_external s t h m o (record { call = c; awaiter = Awaiter.Nobody; stored = r }) l (ap as_pending e ∙ (unfold as_pending in refl)) refl)
  await-external-safe o c (ExternalFutureState.Pending (Awaiter.Task u) r) l e = unfold go_on_or_panic go_on in refl
  await-external-safe o c (ExternalFutureState.Pending (Awaiter.GatherSlot g y) r) l e = unfold go_on_or_panic go_on in refl
  await-external-safe o c (ExternalFutureState.Resolved v) l e = unfold go_on_or_panic go_on in refl
  await-external-safe o c (ExternalFutureState.Failed v) l e = unfold go_on_or_panic go_on in refl

  go-on-safe : (o n : ℕ) (x : Store) (p : Poll) → EndOk o t x p → go_on_or_panic panic t o n x p ≡ go_on t o n x p
  go-on-safe o n x (ready v) a = unfold go_on_or_panic go_on in refl
  go-on-safe o n x (raised e) a = unfold go_on_or_panic go_on in refl
  go-on-safe o n x pending a = blocks_safe panic Nothing (header x) t o n x (waits-runs o t x a) (waits_blocks o t x a)

  await-gather-safe : (o f n : ℕ) (x : GatherState) → o < (header s).made → object s o ≡ Object.GatherFuture f n x → await_gather_or_panic panic s t o x ≡ await_gather s t o x
  unfolding await_gather_or_panic await_gather
  await-gather-safe o f n GatherState.Pending l e =
      ap (λ (r : Committed). go_on_or_panic panic t o r.steps r.store r.poll) (commit_safe panic s t h m o f n l e)
      ∙ go-on-safe o _ (commit_gather_tree s o (Awaiter.Task (task_id t))).store (commit_gather_tree s o (Awaiter.Task (task_id t))).poll (commit_keeps s t h m o f n l e)
  await-gather-safe o f n (GatherState.Awaited a k) l e = refl
  await-gather-safe o f n GatherState.Completed l e = refl
  await-gather-safe o f n (GatherState.Failed x) l e = refl

  pub await_safe : (o : ℕ) → o < (header s).made → await_or_panic panic s t o ≡ exec_get_awaitable s t o
  unfolding await_or_panic exec_get_awaitable await_object_or_panic await_object
  await_safe o l = by (object s o) refl
    where
      by : (x : Object) → object s o ≡ x → await_object_or_panic panic s t o x ≡ await_object s t o x
      by Object.Unmade e = refl
      by (Object.Coroutine f x) e = refl
      by (Object.ExternalFuture c x) e = await-external-safe o c x l e
      by (Object.GatherFuture f n x) e = await-gather-safe o f n x l e
