-- The ways through handle_task_completion, complete, fail and resume_with_resolved_futures, in the shape of what the code knows there.
use Rattle.std.specs.Prelude.{◌≡◌, Bool, true, false, List, [], ◌∷◌, ℕ, ◌<◌, length, None, Some}
use Rattle.std.proofs.Math.Path.{refl}
use Rattle.std.proofs.Common.{sym, ap, ◌∙◌, arith, eq-eqb, ne_eqb}
use Rattle.std.proofs.Math.Option.{some}
use Rattle.asyncio.specs.Limits.{task_limit, tasks_length, objects_length, places_length}
use Rattle.asyncio.specs.Ranges.{AwaiterFits}
use Rattle.asyncio.specs.declared.Value.{Value}
use Rattle.asyncio.specs.declared.Error.{Error}
use Rattle.asyncio.specs.declared.Task.{Task}
use Rattle.asyncio.specs.States.{is_main}
use Rattle.asyncio.specs.declared.TaskId.{TaskId}
use Rattle.asyncio.specs.declared.Awaiter.{Awaiter}
use Rattle.rows.specs.Tables.{task_at, object_at, object_put}
use Rattle.queue.specs.declared.ReadyQueue.{ReadyQueue}
use Rattle.scheduler.specs.Search.{FoundTask}
use Rattle.exec_fill.specs.Delivered.{number, delivered}
use Rattle.machine.specs.Store.{Store, LogEntry, exited, store_of, task, object, put_object, add_log}
use Rattle.machine.specs.Scheduler.{pending_calls_in, pending_call_ids, remove_task, cleanup}
use Rattle.machine.specs.Delivery.{Delivery, deliver_awaiter_success}
use Rattle.machine.specs.Events.{Switched, waits, completed, resume_after_task_exit, resume_next, activate, handle_task_failure, handle_task_completion}
use Rattle.machine.specs.Machine as machine
use Rattle.machine.specs.Machine.{Step, is_empty, switched, end_main, task_completes, task_fails, repeat_wait, resume_with_resolved_futures}
use Rattle.machine_laws.specs.WokenLaws.{success_woken}
use Rattle.exec_switch.specs.Control.{switched_of, FoundFits}
use Rattle.exec_switch.specs.LogLaws.{same_switch, same_step}
use Rattle.exec_switch.specs.Answer.{stepped_of}
use Rattle.exec_switch.specs.declared.control.Control.{Control}
use Rattle.exec_switch.specs.declared.answer.Answer.{Answer}

-- the task that a delivery woke is in range
pub success_found : (ts os ps : List ℕ) (q : ReadyQueue) (l : List LogEntry) (a : Awaiter) (v : Value) → length ts ≡ tasks_length → length os ≡ objects_length → length ps ≡ places_length
    → AwaiterFits a → {s : Store} (m : FoundTask) → delivered s m ≡ deliver_awaiter_success (store_of ts os ps q l) a v → FoundFits m
success_found ts os ps q l a v z y w f m d =
    by m (success_woken (store_of ts os ps q l) a v (record { tasks_sized = z; objects_sized = y; places_sized = w }) f).fits (ap (λ (k : Delivery). k.woken) d)
  where
    by : (n : FoundTask) → ((u : ℕ) → (deliver_awaiter_success (store_of ts os ps q l) a v).woken ≡ some u → u < task_limit)
        → number n ≡ (deliver_awaiter_success (store_of ts os ps q l) a v).woken → FoundFits n
    by (Some u) k g = k u.0 (sym g)
    by None k g = tt

module _ (ts os ps : List ℕ) (q : ReadyQueue) (l : List LogEntry) where
  abbrev here : Store
  here = store_of ts os ps q l

  -- ---- handle_task_completion

  module _ (t : ℕ) (v : Value) {r : Task} (e : r ≡ task_at ts t) {os₁ : List ℕ} (o : os₁ ≡ object_put os r.coroutine.0 (completed (object_at os r.coroutine.0)))
      {ts₁ : List ℕ} {q₁ : ReadyQueue} (g : (us rs : List ℕ) (k : List LogEntry) → store_of ts₁ us rs q₁ k ≡ remove_task (store_of ts us rs q k) t)
      {ts₂ os₂ ps₂ : List ℕ} {q₂ : ReadyQueue} (m : FoundTask)
      (d : delivered (store_of ts₂ os₂ ps₂ q₂ (deliver_awaiter_success (store_of ts₁ os₁ ps q₁ (exited t ∷ l)) r.awaiter v).store.log) m
      ≡ deliver_awaiter_success (store_of ts₁ os₁ ps q₁ (exited t ∷ l)) r.awaiter v) where
    gives : Store → Switched
    gives s = resume_after_task_exit activate (deliver_awaiter_success (add_log s (exited t)) r.awaiter v)

    begins : handle_task_completion here t v ≡ gives (remove_task (store_of ts os₁ ps q l) t)
    unfolding handle_task_completion gives task object put_object
    begins = rw (← e, ← o)

    leaves : gives (store_of ts₁ os₁ ps q₁ l) ≡ resume_after_task_exit activate (deliver_awaiter_success (store_of ts₁ os₁ ps q₁ (exited t ∷ l)) r.awaiter v)
    unfolding gives add_log
    leaves = refl

    pub completes : {ts' os' : List ℕ} {q' : ReadyQueue} (c : Control)
        → switched_of (store_of ts' os' ps₂ q' (resume_after_task_exit activate (delivered (store_of ts₂ os₂ ps₂ q₂ (deliver_awaiter_success (store_of ts₁ os₁ ps q₁ (exited t ∷ l)) r.awaiter v).store.log) m)).store.log) c
        ≡ resume_after_task_exit activate (delivered (store_of ts₂ os₂ ps₂ q₂ (deliver_awaiter_success (store_of ts₁ os₁ ps q₁ (exited t ∷ l)) r.awaiter v).store.log) m)
        → switched_of (store_of ts' os' ps₂ q' (handle_task_completion here t v).store.log) c ≡ handle_task_completion here t v
    completes c u = same_switch (begins ∙ ap gives (sym (g os₁ ps l)) ∙ leaves ∙ ap (λ (k : Delivery). resume_after_task_exit activate k) (sym d)) c u

-- ---- answers

-- a switch is an answer
switch_answers : (x : Switched) {ts os ps : List ℕ} {q : ReadyQueue} (c : Control) → switched_of (store_of ts os ps q x.store.log) c ≡ x
    → stepped_of (store_of ts os ps q (switched x).store.log) (Answer.Switched c) ≡ switched x
unfolding switched
switch_answers x c r = ap (λ (y : Switched). record { store = y.store; answer = machine.Answer.control y.control }) r

-- main ends the session
end_answers : (s : Store) {ts os ps : List ℕ} {q : ReadyQueue} → store_of ts os ps q (cleanup s).log ≡ cleanup s → (a : Answer) (b : machine.Answer)
    → ((us : List ℕ) → (stepped_of (store_of ts us ps q (cleanup s).log) a).answer ≡ b)
    → stepped_of (store_of ts os ps q (end_main s b).store.log) a ≡ end_main s b
unfolding end_main
end_answers s {ts} {os} {ps} {q} r a b f = rw (f os) (ap (λ (x : Store). record { store = x; answer = b }) r)

module _ (ts os ps : List ℕ) (q : ReadyQueue) (l : List LogEntry) (t : TaskId) {b : Bool} (m : b ≡ is_main t) where
  abbrev start : Store
  start = store_of ts os ps q l

  module _ (v : Value) where
    pub complete_main : b ≡ true → {ts' os' : List ℕ} {q' : ReadyQueue} → store_of ts' os' ps q' (cleanup start).log ≡ cleanup start
        → stepped_of (store_of ts' os' ps q' (task_completes start t.0 v).store.log) (Answer.Finished v) ≡ task_completes start t.0 v
    complete_main e r =
        let k : task_completes start t.0 v ≡ end_main start (machine.Answer.finished v) = unfold task_completes in (rw (sym m ∙ e)) in
        same_step k (Answer.Finished v) (end_answers start r (Answer.Finished v) (machine.Answer.finished v) (λ us. refl))

    pub complete-spawned : b ≡ false → {ts' os' ps' : List ℕ} {q' : ReadyQueue} (c : Control)
        → switched_of (store_of ts' os' ps' q' (handle_task_completion start t.0 v).store.log) c ≡ handle_task_completion start t.0 v
        → stepped_of (store_of ts' os' ps' q' (task_completes start t.0 v).store.log) (Answer.Switched c) ≡ task_completes start t.0 v
    complete-spawned n c r =
        let k : task_completes start t.0 v ≡ switched (handle_task_completion start t.0 v) = unfold task_completes in (rw (sym m ∙ n)) in
        same_step k (Answer.Switched c) (switch_answers (handle_task_completion start t.0 v) c r)

  module _ (x : Error) where
    pub fail_main : b ≡ true → {ts' os' : List ℕ} {q' : ReadyQueue} → store_of ts' os' ps q' (cleanup start).log ≡ cleanup start
        → stepped_of (store_of ts' os' ps q' (task_fails start t.0 x).store.log) (Answer.FinishedError x) ≡ task_fails start t.0 x
    fail_main e r =
        let k : task_fails start t.0 x ≡ end_main start (machine.Answer.finished_error x) = unfold task_fails in (rw (sym m ∙ e)) in
        same_step k (Answer.FinishedError x) (end_answers start r (Answer.FinishedError x) (machine.Answer.finished_error x) (λ us. refl))

    pub fail-spawned : b ≡ false → {ts' os' ps' : List ℕ} {q' : ReadyQueue} (c : Control)
        → switched_of (store_of ts' os' ps' q' (handle_task_failure activate start t.0 x).store.log) c ≡ handle_task_failure activate start t.0 x
        → stepped_of (store_of ts' os' ps' q' (task_fails start t.0 x).store.log) (Answer.Switched c) ≡ task_fails start t.0 x
    fail-spawned n c r =
        let k : task_fails start t.0 x ≡ switched (handle_task_failure activate start t.0 x) = unfold task_fails in (rw (sym m ∙ n)) in
        same_step k (Answer.Switched c) (switch_answers (handle_task_failure activate start t.0 x) c r)

-- ---- resume

repeat_stalls : (cs : List ℕ) → is_empty cs ≡ true → repeat_wait cs ≡ machine.Answer.stalled
unfolding is_empty repeat_wait
repeat_stalls [] e = refl
repeat_stalls (c ∷ cs) e = let z : ◌≡◌ {A = ℕ} 0 1 = cc in absurd (omega arith)

repeat_waits : (cs : List ℕ) → is_empty cs ≡ false → repeat_wait cs ≡ machine.Answer.control (waits cs)
unfolding is_empty repeat_wait
repeat_waits [] e = let z : ◌≡◌ {A = ℕ} 0 1 = cc in absurd (omega arith)
repeat_waits (c ∷ cs) e = refl

module _ (ts os ps : List ℕ) (q : ReadyQueue) (l : List LogEntry) where
  module _ (e : q.len ≡ 0) {b : Bool} (n : b ≡ is_empty (pending_calls_in os)) where
    pub resume_stalls : b ≡ true → stepped_of (store_of ts os ps q (resume_with_resolved_futures (store_of ts os ps q l)).store.log) Answer.Stalled ≡ resume_with_resolved_futures (store_of ts os ps q l)
    unfolding resume_with_resolved_futures pending_call_ids
    resume_stalls k = rw (eq-eqb q.len 0 e, repeat_stalls (pending_calls_in os) (sym n ∙ k))

    pub resume-waits : b ≡ false → stepped_of (store_of ts os ps q (resume_with_resolved_futures (store_of ts os ps q l)).store.log) (Answer.Switched Control.Waits) ≡ resume_with_resolved_futures (store_of ts os ps q l)
    unfolding resume_with_resolved_futures pending_call_ids
    resume-waits k = rw (eq-eqb q.len 0 e, repeat_waits (pending_calls_in os) (sym n ∙ k))

  pub resume-goes : (q.len ≡ 0 → ⊥) → {ts' os' : List ℕ} {q' : ReadyQueue} (c : Control)
      → switched_of (store_of ts' os' ps q' (resume_next activate (store_of ts os ps q l)).store.log) c ≡ resume_next activate (store_of ts os ps q l)
      → stepped_of (store_of ts' os' ps q' (resume_with_resolved_futures (store_of ts os ps q l)).store.log) (Answer.Switched c) ≡ resume_with_resolved_futures (store_of ts os ps q l)
  resume-goes n c r =
      let k : resume_with_resolved_futures (store_of ts os ps q l) ≡ switched (resume_next activate (store_of ts os ps q l)) = unfold resume_with_resolved_futures in (rw (ne_eqb q.len 0 n)) in
      same_step k (Answer.Switched c) (switch_answers (resume_next activate (store_of ts os ps q l)) c r)
