-- The ways through activate_task, start_task, handle_task_failure, resume_after_task_exit and switch_or_yield, in the shape of what the
-- code knows there, and how many tasks live on each of them.
use Rattle.std.specs.Prelude.{◌≡◌, refl, ℕ, suc, ◌<◌, length, get_or, None, Some}
use Rattle.std.proofs.Common.{sym, ◌∙◌, mod-lt, arith, eq-eqb, ne_eqb}
use Rattle.std.proofs.Math.Path.{ap}
use mathlib.Core.List.{List, [], ◌∷◌}
use Rattle.std.proofs.Math.Option.{Option, none, some}
use Rattle.asyncio.specs.Limits.{task_limit, tasks_length, objects_length, places_length}
use Rattle.asyncio.specs.Ranges.{AwaiterFits}
use Rattle.asyncio.specs.declared.HeapId.{HeapId}
use Rattle.asyncio.specs.declared.TaskId.{TaskId}
use Rattle.asyncio.specs.declared.Error.{Error}
use Rattle.asyncio.specs.declared.Value.{Value}
use Rattle.asyncio.specs.declared.Awaiter.{Awaiter}
use Rattle.asyncio.specs.declared.TaskState.{TaskState}
use Rattle.asyncio.specs.declared.CoroutineState.{CoroutineState}
use Rattle.asyncio.specs.declared.Object.{Object}
use Rattle.rows.specs.Tables.{task_at, task_put, object_at, object_put}
use Rattle.rows.specs.TableLaws.{task_at-fits}
use Rattle.queue.specs.declared.ReadyQueue.{ReadyQueue}
use Rattle.queue.specs.Queue.{front_of, pop_front, remove}
use Rattle.scheduler.specs.Search.{FoundTask}
use Rattle.exec_fill.specs.Delivered.{number, delivered}
use Rattle.exec_deliver.specs.ClimbLaws.{some-places, some_places_long}
use Rattle.machine.specs.Store.{Store, LogEntry, exited, store_of, task, put_task, object, put_object, put_queue, add_log, absent, set_moment, set_state, put_header}
use Rattle.machine.specs.Scheduler.{live_in, live_count, remove_task, remove_from_ready_queue}
use Rattle.machine.specs.Delivery.{Delivery, deliver_awaiter_failure}
use Rattle.machine.specs.Events.{Switched, How, start, run, yield, new_function, start_by, start_task, handle_task_failure, resume_after_task_exit, resume_next, activate_state, activate}
use Rattle.machine_laws.specs.Views.{Sized}
use Rattle.machine_laws.specs.Statements.{SameLive}
use Rattle.machine_laws.specs.DeliveryLaws.{failure_same, live_in-same}
use Rattle.machine_laws.specs.CycleLaws.{live-falls}
use Rattle.machine_laws.specs.WokenLaws.{failure_woken, activate-by, removed-same}
use Rattle.exec_switch.specs.Control.{switched_of, function_of, FoundFits}
use Rattle.exec_switch.specs.LogLaws.{same_switch}
use Rattle.exec_switch.specs.declared.control.Control.{Control}
use Rattle.exec_switch.specs.Control.{NewFunction}

-- the number at a queue's front is a task's
pub front_fits : (q : ReadyQueue) → (front_of q).0 < task_limit
unfolding front_of
front_fits q = mod-lt (get_or q.ids 0 0) (omega arith)

-- a task is run, or the host has control: nothing is logged
module _ (s : Store) {ts os ps : List ℕ} {q : ReadyQueue} (c : Control) where
  run-logs : (t : ℕ) (h : How) → switched_of (store_of ts os ps q s.log) c ≡ run s t h
      → switched_of (store_of ts os ps q (run s t h).store.log) c ≡ run s t h
  unfolding run set_moment set_state put_header put_task
  run-logs t h r = r

  yield-logs : switched_of (store_of ts os ps q s.log) c ≡ yield s → switched_of (store_of ts os ps q (yield s).store.log) c ≡ yield s
  unfolding yield set_moment put_header
  yield-logs r = r

module _ (ts os ps : List ℕ) (q : ReadyQueue) (l : List LogEntry) where
  abbrev here : Store
  here = store_of ts os ps q l

  -- ---- activate_task

  module _ (t : ℕ) (z : length ts ≡ tasks_length) (y : length os ≡ objects_length) (w : length ps ≡ places_length) (h : t < task_limit)
      {x : TaskState} (e : x ≡ (task_at ts t).state) (a : TaskState) (f : x ≡ a) where
    by_state : activate here t ≡ activate_state activate here t a
    unfolding task
    by_state =
        activate-by here t (record { tasks_sized = z; objects_sized = y; places_sized = w }) h
        ∙ ap (λ (s : TaskState). activate_state activate here t s) (sym e ∙ f)

    pub activate_yields : activate_state activate here t a ≡ yield here → {os' : List ℕ} {q' : ReadyQueue} (c : Control)
        → switched_of (store_of ts os' ps q' l) c ≡ yield here → switched_of (store_of ts os' ps q' (activate here t).store.log) c ≡ activate here t
    activate_yields g c r = same_switch (by_state ∙ g) c (yield-logs here c r)

    -- a task that is neither unstarted nor ready
    pub activate-others : (a ≡ TaskState.Unstarted → ⊥) → ((v : Value) → a ≡ TaskState.Woken v → ⊥) → ((x : Error) → a ≡ TaskState.Raised x → ⊥)
        → activate_state activate here t a ≡ yield here
    unfolding activate_state
    activate-others u v r = others a u v r
      where
        others : (x : TaskState) → (x ≡ TaskState.Unstarted → ⊥) → ((v : Value) → x ≡ TaskState.Woken v → ⊥) → ((e : Error) → x ≡ TaskState.Raised e → ⊥)
            → activate_state activate here t x ≡ yield here
        others TaskState.Absent u v r = refl
        others TaskState.Unstarted u v r = absurd (u refl)
        others TaskState.Running u v r = refl
        others (TaskState.Woken x) u v r = absurd (v x refl)
        others (TaskState.Raised x) u v r = absurd (r x refl)
        others (TaskState.Blocked o) u v r = refl

    pub activate-runs : (k : How) → activate_state activate here t a ≡ run here t k → {ts' os' : List ℕ} {q' : ReadyQueue} (c : Control)
        → switched_of (store_of ts' os' ps q' l) c ≡ run here t k → switched_of (store_of ts' os' ps q' (activate here t).store.log) c ≡ activate here t
    activate-runs k g c r = same_switch (by_state ∙ g) c (run-logs here c t k r)

    pub activate-starts : activate_state activate here t a ≡ start_task activate here t → {ts' os' : List ℕ} {q' : ReadyQueue} (c : Control)
        → switched_of (store_of ts' os' ps q' (start_task activate here t).store.log) c ≡ start_task activate here t
        → switched_of (store_of ts' os' ps q' (activate here t).store.log) c ≡ activate here t
    activate-starts g c r = same_switch (by_state ∙ g) c r

  -- ---- start_task

  module _ (t : ℕ) {k : HeapId} (e : k ≡ (task_at ts t).coroutine) {f : NewFunction} (g : f ≡ function_of (new_function (object_at os k.0))) where
    function-none : (o : Option ℕ) → function_of o ≡ None → o ≡ none
    function-none none i = refl
    function-none (some n) i = let v : ◌≡◌ {A = ℕ} 0 1 = cc in absurd (omega arith)

    function-some : (o : Option ℕ) (n : ℕ) → function_of o ≡ Some n → o ≡ some n
    function-some none n i = let v : ◌≡◌ {A = ℕ} 0 1 = cc in absurd (omega arith)
    function-some (some m) n i = let v : m ≡ n = cc in ap some v

    pub start-fails : f ≡ None → {ts' os' : List ℕ} {q' : ReadyQueue} (c : Control)
        → switched_of (store_of ts' os' ps q' (handle_task_failure activate here t Error.CoroutineReuse).store.log) c ≡ handle_task_failure activate here t Error.CoroutineReuse
        → switched_of (store_of ts' os' ps q' (start_task activate here t).store.log) c ≡ start_task activate here t
    start-fails i c r = same_switch fails c r
      where
        fails : start_task activate here t ≡ handle_task_failure activate here t Error.CoroutineReuse
        fails = unfold start_task start_by task object in (rw (← e, function-none (new_function (object_at os k.0)) (sym g ∙ i)))

    pub start-runs : (n : ℕ) → f ≡ Some n → {us : List ℕ} → us ≡ object_put os k.0 (Object.Coroutine n CoroutineState.Running)
        → {ts' os' : List ℕ} {q' : ReadyQueue} (c : Control)
        → switched_of (store_of ts' os' ps q' l) c ≡ run (store_of ts us ps q l) t (start k.0 n)
        → switched_of (store_of ts' os' ps q' (start_task activate here t).store.log) c ≡ start_task activate here t
    start-runs n i {us} p c r = same_switch starts c (run-logs (store_of ts us ps q l) c t (start k.0 n) r)
      where
        starts : start_task activate here t ≡ run (store_of ts us ps q l) t (start k.0 n)
        starts = unfold start_task start_by task object put_object in (rw (← e, function-some (new_function (object_at os k.0)) n (sym g ∙ i), p))

  -- ---- resume_after_task_exit

  pub exit_next : (m : FoundTask) → m ≡ None → {ts' os' : List ℕ} {q' : ReadyQueue} (c : Control)
      → switched_of (store_of ts' os' ps q' (resume_next activate here).store.log) c ≡ resume_next activate here
      → switched_of (store_of ts' os' ps q' (resume_after_task_exit activate (delivered here m)).store.log) c ≡ resume_after_task_exit activate (delivered here m)
  unfolding resume_after_task_exit
  exit_next m e c r = rw e r

  pub exit_wakes : (m : FoundTask) (t : TaskId) → m ≡ Some t → {p : ReadyQueue} → p ≡ remove q t.0 → {ts' os' : List ℕ} {q' : ReadyQueue} (c : Control)
      → switched_of (store_of ts' os' ps q' (activate (store_of ts os ps p l) t.0).store.log) c ≡ activate (store_of ts os ps p l) t.0
      → switched_of (store_of ts' os' ps q' (resume_after_task_exit activate (delivered here m)).store.log) c ≡ resume_after_task_exit activate (delivered here m)
  unfolding resume_after_task_exit remove_from_ready_queue put_queue
  exit_wakes m t e g c r = rw (e, ← g) r

  -- ---- switch_or_yield

  pub switch_yields : q.len ≡ 0 → {os' : List ℕ} {q' : ReadyQueue} (c : Control) → switched_of (store_of ts os' ps q' l) c ≡ yield here
      → switched_of (store_of ts os' ps q' (resume_next activate here).store.log) c ≡ resume_next activate here
  switch_yields e c r = same_switch waits c (yield-logs here c r)
    where
      waits : resume_next activate here ≡ yield here
      waits = unfold resume_next in (rw (eq-eqb q.len 0 e))

  pub switch_goes : (q.len ≡ 0 → ⊥) → {t : TaskId} → t ≡ front_of q → {p : ReadyQueue} → p ≡ pop_front q → {ts' os' : List ℕ} {q' : ReadyQueue} (c : Control)
      → switched_of (store_of ts' os' ps q' (activate (store_of ts os ps p l) t.0).store.log) c ≡ activate (store_of ts os ps p l) t.0
      → switched_of (store_of ts' os' ps q' (resume_next activate here).store.log) c ≡ resume_next activate here
  switch_goes n {t} i {p} g c r = same_switch goes c r
    where
      goes : resume_next activate here ≡ activate (store_of ts os ps p l) t.0
      goes = unfold resume_next put_queue in (rw (ne_eqb q.len 0 n, i, g))

  -- ---- handle_task_failure

  module _ (t : ℕ) (x : Error) {a : Awaiter} (e : a ≡ (task_at ts t).awaiter) {ts₁ os₁ : List ℕ} {q₁ : ReadyQueue} (m : FoundTask)
      (d : delivered (store_of ts₁ os₁ ps q₁ (deliver_awaiter_failure here a x).store.log) m ≡ deliver_awaiter_failure here a x)
      {ts₂ : List ℕ} {q₂ : ReadyQueue} (r : (us rs : List ℕ) (k : List LogEntry) → store_of ts₂ us rs q₂ k ≡ remove_task (store_of ts₁ us rs q₁ k) t) where
    abbrev left_log : List LogEntry
    left_log = (deliver_awaiter_failure here a x).store.log

    -- the exit that the failure comes to
    after-exit : Switched
    after-exit = resume_after_task_exit activate (delivered (store_of ts₂ os₁ ps q₂ (exited t ∷ left_log)) m)

    exits : Delivery → Switched
    exits f = resume_after_task_exit activate (record { store = add_log (remove_task f.store t) (exited t); woken = f.woken })

    leaves : exits (delivered (store_of ts₁ os₁ ps q₁ left_log) m) ≡ after-exit
    leaves =
        unfold exits after-exit add_log in
        (ap (λ (s : Store). resume_after_task_exit activate (record { store = record { tasks = s.tasks; objects = s.objects; places = s.places; queue = s.queue; log = exited t ∷ s.log }; woken = number m }))
        (sym (r os₁ ps left_log)))

    fails : handle_task_failure activate here t x ≡ after-exit
    fails =
        let begins : handle_task_failure activate here t x ≡ exits (deliver_awaiter_failure here a x) = unfold handle_task_failure exits task in (rw (← e)) in
        begins ∙ ap exits (sym d) ∙ leaves

    pub failure_exits : {ts' os' : List ℕ} {q' : ReadyQueue} (c : Control)
        → switched_of (store_of ts' os' ps q' (resume_after_task_exit activate (delivered (store_of ts₂ os₁ ps q₂ (exited t ∷ (deliver_awaiter_failure here a x).store.log)) m)).store.log) c
        ≡ resume_after_task_exit activate (delivered (store_of ts₂ os₁ ps q₂ (exited t ∷ (deliver_awaiter_failure here a x).store.log)) m)
        → switched_of (store_of ts' os' ps q' (handle_task_failure activate here t x).store.log) c ≡ handle_task_failure activate here t x
    failure_exits c u = same_switch fails c (unfold after-exit in u)

-- ---- how many tasks live

-- an unstarted task that goes: one live task less
pub start_falls : (ts : List ℕ) (t : ℕ) → length ts ≡ tasks_length → t < task_limit → {x : TaskState} → x ≡ (task_at ts t).state → x ≡ TaskState.Unstarted
    → (os : List ℕ) (q : ReadyQueue) → length os ≡ objects_length → live_in ts ≡ suc (live_in (task_put ts t absent))
unfolding live_count put_task task
start_falls ts t z h e f os q y =
    live-falls (store_of ts os some-places q []) t (record { tasks_sized = z; objects_sized = y; places_sized = some_places_long }) h (rw (← e, f))

-- the words of the tasks when a task has failed: as many live as if it had just gone
module _ (ts os : List ℕ) (q : ReadyQueue) (t : ℕ) (x : Error) (z : length ts ≡ tasks_length) (y : length os ≡ objects_length) (h : t < task_limit)
    {a : Awaiter} (e : a ≡ (task_at ts t).awaiter) {ts₁ os₁ : List ℕ} {q₁ : ReadyQueue} (m : FoundTask)
    (d : delivered (store_of ts₁ os₁ some-places q₁ (deliver_awaiter_failure (store_of ts os some-places q []) a x).store.log) m ≡ deliver_awaiter_failure (store_of ts os some-places q []) a x) where
  sized : Sized (store_of ts os some-places q [])
  sized = record { tasks_sized = z; objects_sized = y; places_sized = some_places_long }

  awaiter_fits : AwaiterFits a
  awaiter_fits = rw e (task_at-fits ts t).awaiter_fits

  same : SameLive (store_of ts os some-places q []) (store_of ts₁ os₁ some-places q₁ (deliver_awaiter_failure (store_of ts os some-places q []) a x).store.log)
  same = rw (ap (λ (k : Delivery). k.store) d) (failure_same (store_of ts os some-places q []) a x sized awaiter_fits)

  pub failure_falls : {ts₂ : List ℕ} {q₂ : ReadyQueue} → ((us rs : List ℕ) (k : List LogEntry) → store_of ts₂ us rs q₂ k ≡ remove_task (store_of ts₁ us rs q₁ k) t)
      → live_in ts₂ ≡ live_in (task_put ts t absent)
  unfolding remove_task remove_from_ready_queue put_queue put_task task
  failure_falls {ts₂} r =
      ap (λ (s : Store). live_in s.tasks) (r [] [] [])
      ∙ live_in-same (task_put ts t absent) (remove_task (store_of ts₁ [] [] q₁ []) t).tasks (λ v. removed-same (store_of ts os some-places q []) _ t sized h same v)

  pub failure_found : FoundFits m
  failure_found = by m (failure_woken (store_of ts os some-places q []) a x sized awaiter_fits).fits (ap (λ (k : Delivery). k.woken) d)
    where
      by : (n : FoundTask) → ((u : ℕ) → (deliver_awaiter_failure (store_of ts os some-places q []) a x).woken ≡ some u → u < task_limit)
          → number n ≡ (deliver_awaiter_failure (store_of ts os some-places q []) a x).woken → FoundFits n
      by (Some u) k g = k u.0 (sym g)
      by None k g = tt
