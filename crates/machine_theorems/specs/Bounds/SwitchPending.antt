-- A switch to another task opens no gather: as many are pending after it as before. So the steps of an await can be read off the stores
-- before and after the whole await, also where the task blocks and another runs.
use Rattle.std.specs.Prelude.{◌≡◌, false, ℕ, zero, suc, ◌-◌, ◌*◌, ◌<◌, eqb}
use Rattle.std.proofs.Math.Path.{refl}
use Rattle.std.proofs.Common.{sym, ap, ◌∙◌}
use Rattle.std.proofs.Math.Option.{Option, none, some}
use Rattle.std.proofs.Math.Decide.{ℕ_discrete}
use Rattle.asyncio.specs.declared.Error.{Error}
use Rattle.asyncio.specs.declared.Awaiter.{Awaiter}
use Rattle.asyncio.specs.declared.TaskState.{TaskState}
use Rattle.asyncio.specs.declared.CoroutineState.{CoroutineState}
use Rattle.asyncio.specs.declared.GatherState.{GatherState}
use Rattle.asyncio.specs.declared.Object.{Object}
use Rattle.asyncio.specs.declared.Moment.{Moment}
use Rattle.asyncio.specs.Numbers.{heap_id, task_id}
use Rattle.asyncio.specs.States.{is_blocked}
use Rattle.asyncio.specs.Kinds.{kind, is_pending_gather}
use Rattle.asyncio.specs.Limits.{task_limit, object_limit}
use Rattle.asyncio.specs.Ranges.{AwaiterFits}
use Rattle.asyncio.specs.RangeLaws.{pick_has}
use Rattle.rows.specs.Tables.{object_at}
use Rattle.queue.specs.Queue.{pop_front, front_of}
use Rattle.queue.proofs.QueueLaws.{front_of-fits}
use Rattle.machine.specs.Store.{Store, task, object, put_task, put_object, put_queue, set_state, set_moment, add_log, reached, blocked, exited}
use Rattle.machine.specs.Scheduler.{AwaitedGather, as_awaited, make_ready, push_ready, remove_task, remove_from_ready_queue}
use Rattle.machine.specs.Delivery.{Delivery, nobody_woken, deliver_to_task, fail_awaited, fail_gather, climb, awaited_count, send_error, climb_error, deliver_awaiter_failure}
use Rattle.machine.specs.Commit.{Poll, ready, raised, pending, pending_in, pending_count, commit_gather_tree}
use Rattle.machine.specs.Events.{Switched, How, start, value, raises, run, yield, new_function, resume_next, resume_after_task_exit, handle_task_failure, start_by, start_task, activate_state, activate_within, activate}
use Rattle.machine.specs.Events.{stays, go_on, await_gather, await_object, exec_get_awaitable}
use Rattle.machine_laws.specs.Views.{Sized}
use Rattle.machine_laws.specs.Statements.{SameLive}
use Rattle.machine_laws.specs.CountLaws.{count_same, pending-counted}
use Rattle.machine_laws.specs.StoreLaws.{task-fits, kind-put_object, object_put-other, object_put-header, sized-put_queue, sized-set_state, sized-add_log}
use Rattle.machine_laws.specs.DeliveryLaws.{absurd_some, awaited-object, fail_sent, failure_same}
use Rattle.machine_laws.specs.WokenLaws.{WokenFits, failure_woken}
use Rattle.machine_laws.specs.SizedLaws.{sized_commit}
use Rattle.machine_theorems.specs.Bounds.Counts.{opened_between, settled_between, StepsBetween}
use Rattle.machine_theorems.specs.Bounds.FuelLaws.{sized_gone}
use Rattle.machine_theorems.specs.Bounds.AwaitSteps.{await_steps_seen}

-- as many gathers are pending
pub record SamePending (s u : Store) : Type 0 where
  pub same : pending_count u ≡ pending_count s

abbrev PendingBy : Store → Switched → Type 0
PendingBy s x = SamePending s x.store

pending-then : {s u x : Store} → SamePending s u → SamePending u x → SamePending s x
pending-then k l = record { same = l.same ∙ k.same }

kinds_pending : (s u : Store) → ((o : ℕ) → is_pending_gather (kind (object u o)) ≡ is_pending_gather (kind (object s o))) → SamePending s u
unfolding pending_count object
kinds_pending s u h =
    record {
      same = pending-counted u.objects
          ∙ (count_same (λ o. is_pending_gather (kind (object_at u.objects o))) (λ o. is_pending_gather (kind (object_at s.objects o))) object_limit (λ o l. h o)
          ∙ sym (pending-counted s.objects));
    }

words_pending : (s u : Store) → u.objects ≡ s.objects → SamePending s u
unfolding pending_count
words_pending s u e = record { same = ap pending_in e }

put_pending : (s : Store) (g : ℕ) (r : Object) → Sized s → g < object_limit → is_pending_gather (kind (object s g)) ≡ false → is_pending_gather (kind r) ≡ false → SamePending s (put_object s g r)
put_pending s g r z l a b = kinds_pending s (put_object s g r) (λ o. by o (ℕ_discrete o g))
  where
    by : (o : ℕ) → Dec (o ≡ g) → is_pending_gather (kind (object (put_object s g r) o)) ≡ is_pending_gather (kind (object s o))
    by o (yes q) = rw (q, kind-put_object s g r z l) (b ∙ sym a)
    by o (no ne) = rw (object_put-other s g o r ne)

moment_pending : (s : Store) (m : Moment) → SamePending s (set_moment s m)
unfolding set_moment
moment_pending s m = kinds_pending s _ (λ o. ap (λ (x : Object). is_pending_gather (kind x)) (object_put-header s _ o))

-- ---- a delivery

ready-pending : (s : Store) (t : ℕ) (x : TaskState) → SamePending s (add_log (make_ready s t x) (reached t))
unfolding add_log make_ready push_ready put_queue set_state put_task pending_count
ready-pending s t x = record { same = refl }

task-pending : (s : Store) (t : ℕ) (x : TaskState) → SamePending s (deliver_to_task s t x).store
unfolding deliver_to_task nobody_woken
task-pending s t x =
    pick_has (λ (d : Delivery). SamePending s d.store) (is_blocked (task s t).state)
    (ready-pending s t x) (words_pending s s refl)

awaited_no : (x : Object) (w : AwaitedGather) → as_awaited x ≡ some w → is_pending_gather (kind x) ≡ false
unfolding kind
awaited_no x w e = rw (awaited-object x w e)

fail_pending : (s : Store) (g : ℕ) (x : Error) → Sized s → g < object_limit → SamePending s (fail_gather s g x).store
unfolding fail_gather fail_awaited kind
fail_pending s g x z l = by (as_awaited (object s g)) refl
  where
    by : (w : Option AwaitedGather) → as_awaited (object s g) ≡ w → SamePending s (fail_awaited s g x w).store
    by none e = words_pending s s refl
    by (some w) e = put_pending s g (Object.GatherFuture w.first w.count (GatherState.Failed x)) z l (awaited_no (object s g) w e) refl

climb-pending : (go : Store → Awaiter → Delivery) (s u : Store) (a : Option Awaiter) → SamePending s u → ((b : Awaiter) → a ≡ some b → SamePending u (go u b).store)
    → SamePending s (climb go u a).store
unfolding climb nobody_woken
climb-pending go s u none e h = e
climb-pending go s u (some b) e h = pending-then e (h b refl)

send-pending : (go : Store → Awaiter → Error → Delivery) → ((s : Store) (a : Awaiter) (x : Error) → Sized s → AwaiterFits a → SamePending s (go s a x).store)
    → (s : Store) (a : Awaiter) (x : Error) → Sized s → AwaiterFits a → SamePending s (send_error go s a x).store
unfolding send_error nobody_woken
send-pending go h s Awaiter.Nobody x z f = words_pending s s refl
send-pending go h s (Awaiter.Task t) x z f = task-pending s t.0 (TaskState.Raised x)
send-pending go h s (Awaiter.GatherSlot g source) x z f =
    let r = fail_sent s g.0 x z f.0 in
    climb-pending (λ y a. go y a x) s _ _ (fail_pending s g.0 x z f.0) (λ b p. h _ b x r.same.sized (r.fits b p))

climb_error-pending : (k : ℕ) (s : Store) (a : Awaiter) (x : Error) → Sized s → AwaiterFits a → SamePending s (climb_error k s a x).store
unfolding climb_error nobody_woken
climb_error-pending zero s a x z f = words_pending s s refl
climb_error-pending (suc k) s a x z f = send-pending (λ y b w. climb_error k y b w) (λ y b w. climb_error-pending k y b w) s a x z f

failure_pending : (s : Store) (a : Awaiter) (x : Error) → Sized s → AwaiterFits a → SamePending s (deliver_awaiter_failure s a x).store
unfolding deliver_awaiter_failure
failure_pending s a x z f = send-pending (λ y b w. climb_error (awaited_count s) y b w) (λ y b w. climb_error-pending (awaited_count s) y b w) s a x z f

-- ---- a switch

yield-pending : (s : Store) → SamePending s (yield s).store
unfolding yield
yield-pending s = moment_pending s Moment.Waiting

run-pending : (s : Store) (t : ℕ) (h : How) → SamePending s (run s t h).store
unfolding run
run-pending s t h =
    pending-then (words_pending s (set_state s t TaskState.Running) (unfold set_state put_task in refl)) (moment_pending (set_state s t TaskState.Running) (Moment.Running (task_id t)))

new_no : (x : Object) (f : ℕ) → new_function x ≡ some f → is_pending_gather (kind x) ≡ false
unfolding new_function kind
new_no Object.Unmade f e = absurd_some e
new_no (Object.Coroutine g CoroutineState.New) f e = refl
new_no (Object.Coroutine g CoroutineState.Running) f e = absurd_some e
new_no (Object.Coroutine g CoroutineState.Completed) f e = absurd_some e
new_no (Object.ExternalFuture c x) f e = absurd_some e
new_no (Object.GatherFuture g n x) f e = absurd_some e

coroutine_no : (f : ℕ) → is_pending_gather (kind (Object.Coroutine f CoroutineState.Running)) ≡ false
unfolding kind
coroutine_no f = refl

module _ (go : Store → ℕ → Switched) (h : (s : Store) (t : ℕ) → Sized s → t < task_limit → SamePending s (go s t).store) where
  pub next-pending : (s : Store) → Sized s → SamePending s (resume_next go s).store
  unfolding resume_next
  next-pending s z =
      pick_has (λ (x : Switched). SamePending s x.store) (eqb s.queue.len 0) (yield-pending s)
      (pending-then (words_pending s (put_queue s (pop_front s.queue)) (unfold put_queue in refl))
      (h (put_queue s (pop_front s.queue)) (front_of s.queue).0 (sized-put_queue s _ z) (front_of-fits s.queue)))

  exit-pending : (d : Delivery) → Sized d.store → WokenFits d → SamePending d.store (resume_after_task_exit go d).store
  unfolding resume_after_task_exit
  exit-pending d z m = by d.woken refl
    where
      by : (w : Option ℕ) → d.woken ≡ w → PendingBy d.store (elim w [ none ↦ resume_next go d.store | some t ↦ go (remove_from_ready_queue d.store t) t ])
      by none e = next-pending d.store z
      by (some t) e =
          let sized : Sized (remove_from_ready_queue d.store t) = unfold remove_from_ready_queue in sized-put_queue d.store _ z in
          pending-then (words_pending d.store (remove_from_ready_queue d.store t) (unfold remove_from_ready_queue put_queue in refl))
          (h (remove_from_ready_queue d.store t) t sized (m.fits t e))

  failed-pending : (s : Store) (t : ℕ) (x : Error) → Sized s → SamePending s (handle_task_failure go s t x).store
  unfolding handle_task_failure
  failed-pending s t x z =
      let a : Awaiter = (task s t).awaiter in
      let u : Store = (deliver_awaiter_failure s a x).store in
      let m : SameLive s u = failure_same s a x z (task-fits s t).awaiter_fits in
      let w : WokenFits (deliver_awaiter_failure s a x) = failure_woken s a x z (task-fits s t).awaiter_fits in
      let gone : (add_log (remove_task u t) (exited t)).objects ≡ u.objects = unfold add_log remove_task remove_from_ready_queue put_queue put_task in refl in
      pending-then (failure_pending s a x z (task-fits s t).awaiter_fits)
      (pending-then (words_pending u (add_log (remove_task u t) (exited t)) gone) (exit-pending _ (sized_gone u t m.sized) (record { fits = w.fits })))

  start-pending : (s : Store) (t c : ℕ) (f : Option ℕ) → new_function (object s c) ≡ f → Sized s → c < object_limit → SamePending s (start_by go s t c f).store
  unfolding start_by
  start-pending s t c none e z l = failed-pending s t Error.CoroutineReuse z
  start-pending s t c (some f) e z l =
      pending-then (put_pending s c (Object.Coroutine f CoroutineState.Running) z l (new_no (object s c) f e) (coroutine_no f)) (run-pending _ t (start c f))

  state-pending : (s : Store) (t : ℕ) (x : TaskState) → Sized s → SamePending s (activate_state go s t x).store
  unfolding activate_state start_task
  state-pending s t TaskState.Absent z = yield-pending s
  state-pending s t TaskState.Unstarted z =
      start-pending s t (task s t).coroutine.0 (new_function (object s (task s t).coroutine.0)) refl z (task-fits s t).coroutine_fits
  state-pending s t TaskState.Running z = yield-pending s
  state-pending s t (TaskState.Woken v) z = run-pending s t (value v)
  state-pending s t (TaskState.Raised x) z = run-pending s t (raises x)
  state-pending s t (TaskState.Blocked o) z = yield-pending s

within_pending : (k : ℕ) (s : Store) (t : ℕ) → Sized s → t < task_limit → SamePending s (activate_within k s t).store
unfolding activate_within
within_pending zero s t z l = yield-pending s
within_pending (suc k) s t z l = state-pending (λ x u. activate_within k x u) (λ x u y m. within_pending k x u y m) s t (task s t).state z

-- As many gathers are pending after a switch as before.
pub activate-pending : (s : Store) (t : ℕ) → Sized s → t < task_limit → SamePending s (activate s t).store
unfolding activate
activate-pending s t z l = within_pending _ s t z l

-- ---- the whole await

-- a task that blocks, and another that runs
block_pending : (s : Store) (t o : ℕ) → Sized s → SamePending s (resume_next activate (add_log (set_state s t (TaskState.Blocked (heap_id o))) (blocked t))).store
block_pending s t o z =
    let u : Store = add_log (set_state s t (TaskState.Blocked (heap_id o))) (blocked t) in
    let same : u.objects ≡ s.objects = unfold add_log set_state put_task in refl in
    pending-then (words_pending s u same) (next-pending activate activate-pending u (sized-add_log _ (blocked t) (sized-set_state s t (TaskState.Blocked (heap_id o)) z)))

go_on-seen : (t o n m : ℕ) (s u : Store) (x : Poll) → Sized u → StepsBetween s u n x → StepsBetween s (go_on t o m u x).store n x
unfolding go_on stays StepsBetween opened_between settled_between
go_on-seen t o n m s u (ready v) z h = h
go_on-seen t o n m s u (raised e) z h = h
go_on-seen t o n m s u pending z h = h ∙ ap (λ (q : ℕ). 2 * (pending_count s - q) - 1) (sym (block_pending u t o z).same)

await-goes_on : (s : Store) (t o f n : ℕ) → object s o ≡ Object.GatherFuture f n GatherState.Pending
    → (exec_get_awaitable s t o).store
    ≡ (go_on t o (commit_gather_tree s o (Awaiter.Task (task_id t))).steps (commit_gather_tree s o (Awaiter.Task (task_id t))).store
    (commit_gather_tree s o (Awaiter.Task (task_id t))).poll).store
unfolding exec_get_awaitable await_object await_gather
await-goes_on s t o f n e = ap (λ (x : Object). (await_object s t o x).store) e

-- The steps that an await of a pending gather carries, with n and k read off the stores before and after the whole await.
pub await_steps_between : (s : Store) (t o f n : ℕ) → Sized s → o < object_limit → object s o ≡ Object.GatherFuture f n GatherState.Pending
    → StepsBetween s (exec_get_awaitable s t o).store (exec_get_awaitable s t o).steps (commit_gather_tree s o (Awaiter.Task (task_id t))).poll
await_steps_between s t o f n z l e =
    let a : Awaiter = Awaiter.Task (task_id t) in
    rw (await-goes_on s t o f n e)
    (go_on-seen t o (exec_get_awaitable s t o).steps (commit_gather_tree s o a).steps s (commit_gather_tree s o a).store (commit_gather_tree s o a).poll (sized_commit s o a l z)
    (await_steps_seen s t o f n z l e))
