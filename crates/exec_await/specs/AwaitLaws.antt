-- The ways through an await, in the shape of what the code knows there.
use Rattle.std.specs.Prelude.{◌≡◌, ℕ}
use Rattle.std.proofs.Math.Path.{refl}
use Rattle.std.proofs.Common.{sym, ap, ◌∙◌}
use mathlib.Core.List.{List, ◌∷◌}
use Rattle.asyncio.specs.declared.CallId.{CallId}
use Rattle.asyncio.specs.declared.HeapId.{HeapId}
use Rattle.asyncio.specs.declared.TaskId.{TaskId}
use Rattle.asyncio.specs.declared.Value.{Value}
use Rattle.asyncio.specs.declared.Error.{Error}
use Rattle.asyncio.specs.declared.Awaiter.{Awaiter}
use Rattle.asyncio.specs.declared.TaskState.{TaskState}
use Rattle.asyncio.specs.declared.CoroutineState.{CoroutineState}
use Rattle.asyncio.specs.declared.ExternalFutureState.{ExternalFutureState}
use Rattle.asyncio.specs.declared.GatherState.{GatherState}
use Rattle.asyncio.specs.declared.Object.{Object}
use Rattle.rows.specs.Tables.{task_at, task_put, object_at, object_put}
use Rattle.queue.specs.declared.ReadyQueue.{ReadyQueue}
use Rattle.machine.specs.Store.{Store, LogEntry, blocked, store_of, task, put_task, object, put_object, restate, set_state, add_log}
use Rattle.machine.specs.Scheduler.{pending_call_ids}
use Rattle.machine.specs.Commit.{Polled, gives, await_external, commit_gather_tree}
use Rattle.machine.specs.Events as machine
use Rattle.machine.specs.Events.{Switched, Awaited, raises, resume_next, activate, stays, go_on, await_coroutine, await_external_future, await_gather, await_object, exec_get_awaitable}
use Rattle.exec_poll.specs.Polls.{poll_of}
use Rattle.exec_commit.specs.Frames.{CommitResult, commit_result, result_of}
use Rattle.exec_poll.specs.declared.item.Poll.{Poll}
use Rattle.exec_switch.specs.Control.{switched_of, awaited_of}
use Rattle.exec_switch.specs.LogLaws.{same-await}
use Rattle.exec_switch.specs.declared.control.Control.{Control}

module _ (ts os ps : List ℕ) (q : ReadyQueue) (l : List LogEntry) (t : TaskId) (o : HeapId) where
  abbrev here : Store
  here = store_of ts os ps q l

  -- ---- go_on

  module _ (n : ℕ) (p : Poll) where
    -- a value or an error: the task goes on at once
    pub goes-ready : (v : Value) → p ≡ Poll.Ready v → (c : Control) (m : ℕ) → awaited_of here c m ≡ stays here t.0 (machine.value v) n
        → awaited_of (store_of ts os ps q (go_on t.0 o.0 n here (poll_of p)).store.log) c m ≡ go_on t.0 o.0 n here (poll_of p)
    unfolding go_on stays
    goes-ready v e c m r = rw e r

    pub goes-raised : (x : Error) → p ≡ Poll.Raised x → (c : Control) (m : ℕ) → awaited_of here c m ≡ stays here t.0 (raises x) n
        → awaited_of (store_of ts os ps q (go_on t.0 o.0 n here (poll_of p)).store.log) c m ≡ go_on t.0 o.0 n here (poll_of p)
    unfolding go_on stays
    goes-raised x e c m r = rw e r

    pub goes-blocked : p ≡ Poll.Pending → {us : List ℕ} → us ≡ task_put ts t.0 (restate (task_at ts t.0) (TaskState.Blocked o)) → {ts' os' : List ℕ} {q' : ReadyQueue} (c : Control)
        → switched_of (store_of ts' os' ps q' (resume_next activate (store_of us os ps q (blocked t.0 ∷ l))).store.log) c ≡ resume_next activate (store_of us os ps q (blocked t.0 ∷ l))
        → awaited_of (store_of ts' os' ps q' (go_on t.0 o.0 n here (poll_of p)).store.log) c n ≡ go_on t.0 o.0 n here (poll_of p)
    goes-blocked e {us} u c r = same-await blocks c n (ap (λ (y : Switched). switches y) r)
      where
        switches : Switched → Awaited
        switches y = record { store = y.store; control = y.control; steps = n }

        blocks : go_on t.0 o.0 n here (poll_of p) ≡ record { store = (resume_next activate (store_of us os ps q (blocked t.0 ∷ l))).store; control = (resume_next activate (store_of us os ps q (blocked t.0 ∷ l))).control; steps = n }
        blocks = unfold go_on add_log set_state put_task task in (rw (e, u))

  -- ---- await_coroutine

  module _ (f : ℕ) where
    pub coroutine-runs : (s : CoroutineState) → s ≡ CoroutineState.New → {us : List ℕ} → us ≡ object_put os o.0 (Object.Coroutine f CoroutineState.Running)
        → (c : Control) (n : ℕ) → awaited_of (store_of ts us ps q l) c n ≡ stays (store_of ts us ps q l) t.0 (machine.inline o.0) 0
        → awaited_of (store_of ts us ps q l) c n ≡ await_coroutine here t.0 o.0 f s
    unfolding await_coroutine put_object
    coroutine-runs s e {us} u c n r = rw (e, ← u) r

    -- one that is not new is not awaited
    pub coroutine-refused : (s : CoroutineState) → (s ≡ CoroutineState.New → ⊥) → (c : Control) (n : ℕ) → awaited_of here c n ≡ stays here t.0 (raises Error.CoroutineReuse) 0
        → awaited_of here c n ≡ await_coroutine here t.0 o.0 f s
    unfolding await_coroutine
    coroutine-refused CoroutineState.New h c n r = absurd (h refl)
    coroutine-refused CoroutineState.Running h c n r = r
    coroutine-refused CoroutineState.Completed h c n r = r

    coroutine-logs : (s : CoroutineState) → (await_coroutine here t.0 o.0 f s).store.log ≡ l
    unfolding await_coroutine stays put_object
    coroutine-logs CoroutineState.New = refl
    coroutine-logs CoroutineState.Running = refl
    coroutine-logs CoroutineState.Completed = refl

  -- ---- await_external_future

  pub external_goes : (c : CallId) (x : ExternalFutureState) {us : List ℕ} (p : Poll) → gives (store_of ts us ps q l) (poll_of p) ≡ await_external here o.0 c x (Awaiter.Task t)
      → {ts' os' : List ℕ} {q' : ReadyQueue} (k : Control) (n : ℕ)
      → awaited_of (store_of ts' os' ps q' (go_on t.0 o.0 0 (store_of ts us ps q l) (poll_of p)).store.log) k n ≡ go_on t.0 o.0 0 (store_of ts us ps q l) (poll_of p)
      → awaited_of (store_of ts' os' ps q' (await_external_future here t.0 o.0 c x).store.log) k n ≡ await_external_future here t.0 o.0 c x
  external_goes c x {us} p g k n r = same-await goes k n r
    where
      goes : await_external_future here t.0 o.0 c x ≡ go_on t.0 o.0 0 (store_of ts us ps q l) (poll_of p)
      goes = unfold await_external_future in (ap (λ (y : Polled). go_on t.0 o.0 0 y.store y.poll) (sym g))

  -- ---- await_gather_future

  pub gather_commits : (s : GatherState) → s ≡ GatherState.Pending → {ts₁ os₁ ps₁ : List ℕ} {q₁ : ReadyQueue} (p : Poll) (m : ℕ)
      → commit_result (store_of ts₁ os₁ ps₁ q₁ (commit_gather_tree here o.0 (Awaiter.Task t)).store.log) (poll_of p) m ≡ result_of (commit_gather_tree here o.0 (Awaiter.Task t))
      → {ts' os' : List ℕ} {q' : ReadyQueue} (k : Control) (n : ℕ)
      → awaited_of (store_of ts' os' ps₁ q' (go_on t.0 o.0 m (store_of ts₁ os₁ ps₁ q₁ (commit_gather_tree here o.0 (Awaiter.Task t)).store.log) (poll_of p)).store.log) k n
      ≡ go_on t.0 o.0 m (store_of ts₁ os₁ ps₁ q₁ (commit_gather_tree here o.0 (Awaiter.Task t)).store.log) (poll_of p)
      → awaited_of (store_of ts' os' ps₁ q' (await_gather here t.0 o.0 s).store.log) k n ≡ await_gather here t.0 o.0 s
  gather_commits s e {ts₁} {os₁} {ps₁} {q₁} p m h k n r = same-await (begins ∙ goes) k n r
    where
      begins : await_gather here t.0 o.0 s ≡ go_on t.0 o.0 (commit_gather_tree here o.0 (Awaiter.Task t)).steps (commit_gather_tree here o.0 (Awaiter.Task t)).store (commit_gather_tree here o.0 (Awaiter.Task t)).poll
      begins = unfold await_gather in (rw e)

      goes : go_on t.0 o.0 (commit_gather_tree here o.0 (Awaiter.Task t)).steps (commit_gather_tree here o.0 (Awaiter.Task t)).store (commit_gather_tree here o.0 (Awaiter.Task t)).poll
          ≡ go_on t.0 o.0 m (store_of ts₁ os₁ ps₁ q₁ (commit_gather_tree here o.0 (Awaiter.Task t)).store.log) (poll_of p)
      goes = ap (λ (y : CommitResult). go_on t.0 o.0 y.steps y.store y.poll) (sym h)

  -- a gather that is not pending: the task goes on at once
  pub gather-stays : (s y : GatherState) → s ≡ y → (h : machine.How) → await_gather here t.0 o.0 y ≡ stays here t.0 h 0 → {q' : ReadyQueue} (k : Control) (n : ℕ)
      → awaited_of (store_of ts os ps q' l) k n ≡ stays here t.0 h 0
      → awaited_of (store_of ts os ps q' (await_gather here t.0 o.0 s).store.log) k n ≡ await_gather here t.0 o.0 s
  gather-stays s y e h g k n r =
      let w : await_gather here t.0 o.0 s ≡ stays here t.0 h 0 = rw e g in
      same-await w k n (unfold stays in r)

  -- ---- exec_get_awaitable

  module _ {x : Object} (e : x ≡ object_at os o.0) where
    pub awaits_unmade : x ≡ Object.Unmade
        → awaited_of (store_of ts os ps q (exec_get_awaitable here t.0 o.0).store.log) Control.Waits 0 ≡ exec_get_awaitable here t.0 o.0
    unfolding exec_get_awaitable await_object object pending_call_ids
    awaits_unmade f = rw (← e, f)

    pub awaits_coroutine : (f : ℕ) (s : CoroutineState) → x ≡ Object.Coroutine f s → {os' : List ℕ} {q' : ReadyQueue} (c : Control) (n : ℕ)
        → awaited_of (store_of ts os' ps q' l) c n ≡ await_coroutine here t.0 o.0 f s
        → awaited_of (store_of ts os' ps q' (exec_get_awaitable here t.0 o.0).store.log) c n ≡ exec_get_awaitable here t.0 o.0
    awaits_coroutine f s i {os'} {q'} c n r =
        let k : exec_get_awaitable here t.0 o.0 ≡ await_coroutine here t.0 o.0 f s = unfold exec_get_awaitable await_object object in (rw (← e, i)) in
        same-await k c n (ap (λ (m : List LogEntry). awaited_of (store_of ts os' ps q' m) c n) (coroutine-logs f s) ∙ r)

    pub awaits_external : (y : CallId) (s : ExternalFutureState) → x ≡ Object.ExternalFuture y s → {ts' os' : List ℕ} {q' : ReadyQueue} (c : Control) (n : ℕ)
        → awaited_of (store_of ts' os' ps q' (await_external_future here t.0 o.0 y s).store.log) c n ≡ await_external_future here t.0 o.0 y s
        → awaited_of (store_of ts' os' ps q' (exec_get_awaitable here t.0 o.0).store.log) c n ≡ exec_get_awaitable here t.0 o.0
    awaits_external y s i c n r =
        let k : exec_get_awaitable here t.0 o.0 ≡ await_external_future here t.0 o.0 y s = unfold exec_get_awaitable await_object object in (rw (← e, i)) in
        same-await k c n r

    pub awaits_gather : (f m : ℕ) (s : GatherState) → x ≡ Object.GatherFuture f m s → {ts' os' ps' : List ℕ} {q' : ReadyQueue} (c : Control) (n : ℕ)
        → awaited_of (store_of ts' os' ps' q' (await_gather here t.0 o.0 s).store.log) c n ≡ await_gather here t.0 o.0 s
        → awaited_of (store_of ts' os' ps' q' (exec_get_awaitable here t.0 o.0).store.log) c n ≡ exec_get_awaitable here t.0 o.0
    awaits_gather f m s i c n r =
        let k : exec_get_awaitable here t.0 o.0 ≡ await_gather here t.0 o.0 s = unfold exec_get_awaitable await_object object in (rw (← e, i)) in
        same-await k c n r
