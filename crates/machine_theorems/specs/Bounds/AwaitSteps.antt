-- The steps that an await's answer carries: 0 without a commit, those of the commit where a pending gather is awaited.
use Rattle.std.specs.Prelude.{◌≡◌, refl, ℕ, suc, ◌-◌, ◌*◌, ◌≤◌, ◌<◌}
use Rattle.std.proofs.Common.{ap, ◌∙◌, arith}
use Rattle.asyncio.specs.declared.CallId.{CallId}
use Rattle.asyncio.specs.declared.Awaiter.{Awaiter}
use Rattle.asyncio.specs.declared.CoroutineState.{CoroutineState}
use Rattle.asyncio.specs.declared.ExternalFutureState.{ExternalFutureState}
use Rattle.asyncio.specs.declared.GatherState.{GatherState}
use Rattle.asyncio.specs.declared.Object.{Object}
use Rattle.asyncio.specs.declared.Kind.{Kind}
use Rattle.asyncio.specs.Numbers.{task_id}
use Rattle.asyncio.specs.Kinds.{kind}
use Rattle.asyncio.specs.Limits.{object_limit}
use Rattle.machine.specs.Store.{Store, object}
use Rattle.machine.specs.Commit.{Poll, ready, raised, pending, await_external, pending_count, commit_gather_tree}
use Rattle.machine.specs.Events.{Awaited, stays, go_on, await_coroutine, await_external_future, await_gather, await_object, exec_get_awaitable}
use Rattle.machine_laws.specs.Views.{Sized}
use Rattle.machine_theorems.specs.Bounds.Counts.{StepsBetween}
use Rattle.machine_theorems.specs.Bounds.BoundLaws.{commit_bound, commit_steps_seen}

go_on_steps : (t o n : ℕ) (s : Store) (x : Poll) → (go_on t o n s x).steps ≡ n
unfolding go_on stays
go_on_steps t o n s (ready v) = refl
go_on_steps t o n s (raised e) = refl
go_on_steps t o n s pending = refl

coroutine_steps : (s : Store) (t o f : ℕ) (x : CoroutineState) → (await_coroutine s t o f x).steps ≡ 0
unfolding await_coroutine stays
coroutine_steps s t o f CoroutineState.New = refl
coroutine_steps s t o f CoroutineState.Running = refl
coroutine_steps s t o f CoroutineState.Completed = refl

external_steps : (s : Store) (t o : ℕ) (c : CallId) (x : ExternalFutureState) → (await_external_future s t o c x).steps ≡ 0
unfolding await_external_future
external_steps s t o c x =
    go_on_steps t o 0 (await_external s o c x (Awaiter.Task (task_id t))).store (await_external s o c x (Awaiter.Task (task_id t))).poll

gather_steps : (s : Store) (t o f n : ℕ) (x : GatherState) → (kind (Object.GatherFuture f n x) ≡ Kind.PendingGather → ⊥) → (await_gather s t o x).steps ≡ 0
unfolding await_gather stays kind
gather_steps s t o f n GatherState.Pending h = absurd (h refl)
gather_steps s t o f n (GatherState.Awaited a m) h = refl
gather_steps s t o f n GatherState.Completed h = refl
gather_steps s t o f n (GatherState.Failed e) h = refl

object_steps : (s : Store) (t o : ℕ) (x : Object) → (kind x ≡ Kind.PendingGather → ⊥) → (await_object s t o x).steps ≡ 0
unfolding await_object
object_steps s t o Object.Unmade h = refl
object_steps s t o (Object.Coroutine f x) h = coroutine_steps s t o f x
object_steps s t o (Object.ExternalFuture c x) h = external_steps s t o c x
object_steps s t o (Object.GatherFuture f n x) h = gather_steps s t o f n x h

-- Document 01, module 4: "0 without a commit", which is an await of anything but a pending gather.
pub await_steps_none : (s : Store) (t o : ℕ) → (kind (object s o) ≡ Kind.PendingGather → ⊥) → (exec_get_awaitable s t o).steps ≡ 0
unfolding exec_get_awaitable
await_steps_none s t o h = object_steps s t o (object s o) h

-- An await of a pending gather carries the steps of its commit.
pub await_steps_commit : (s : Store) (t o f n : ℕ) → object s o ≡ Object.GatherFuture f n GatherState.Pending
    → (exec_get_awaitable s t o).steps ≡ (commit_gather_tree s o (Awaiter.Task (task_id t))).steps
unfolding exec_get_awaitable await_object await_gather
await_steps_commit s t o f n e =
    ap (λ (x : Object). (await_object s t o x).steps) e
    ∙ go_on_steps t o (commit_gather_tree s o (Awaiter.Task (task_id t))).steps (commit_gather_tree s o (Awaiter.Task (task_id t))).store
    (commit_gather_tree s o (Awaiter.Task (task_id t))).poll

pending-kind : (f n : ℕ) → kind (Object.GatherFuture f n GatherState.Pending) ≡ Kind.PendingGather
unfolding kind
pending-kind f n = refl

-- "2 × n − 1 on success with n gathers opened; n + k on an error with k of them settled": the steps that the answer carries, with n and k
-- read off the store before the await and the one that the commit leaves.
pub await_steps_seen : (s : Store) (t o f n : ℕ) → Sized s → o < object_limit → object s o ≡ Object.GatherFuture f n GatherState.Pending
    → StepsBetween s (commit_gather_tree s o (Awaiter.Task (task_id t))).store (exec_get_awaitable s t o).steps (commit_gather_tree s o (Awaiter.Task (task_id t))).poll
await_steps_seen s t o f n z l e =
    rw (await_steps_commit s t o f n e) (commit_steps_seen s o (Awaiter.Task (task_id t)) z l (ap kind e ∙ pending-kind f n))

-- Whatever is awaited, the answer carries at most 2 p - 1 steps, with p gathers pending before (0 with none).
pub await_bound : (s : Store) (t o : ℕ) → Sized s → o < object_limit → (exec_get_awaitable s t o).steps ≤ 2 * pending_count s - 1
await_bound s t o z l = by (object s o) refl
  where
    none-by : (exec_get_awaitable s t o).steps ≡ 0 → (exec_get_awaitable s t o).steps ≤ 2 * pending_count s - 1
    none-by e = omega arith

    at : (x : Object) → object s o ≡ x → (await_object s t o x).steps ≡ 0 → (exec_get_awaitable s t o).steps ≡ 0
    at x e q = unfold exec_get_awaitable in (ap (λ (y : Object). (await_object s t o y).steps) e ∙ q)

    gather-by : (f n : ℕ) (x : GatherState) → object s o ≡ Object.GatherFuture f n x → (exec_get_awaitable s t o).steps ≤ 2 * pending_count s - 1
    gather-by f n GatherState.Pending e =
        let same : (exec_get_awaitable s t o).steps ≡ (commit_gather_tree s o (Awaiter.Task (task_id t))).steps = await_steps_commit s t o f n e in
        let most : suc (commit_gather_tree s o (Awaiter.Task (task_id t))).steps ≤ 2 * pending_count s =
        commit_bound s o (Awaiter.Task (task_id t)) z l (ap kind e ∙ pending-kind f n) in
        omega arith
    gather-by f n (GatherState.Awaited a m) e = none-by (at (Object.GatherFuture f n (GatherState.Awaited a m)) e (unfold await_object await_gather stays in refl))
    gather-by f n GatherState.Completed e = none-by (at (Object.GatherFuture f n GatherState.Completed) e (unfold await_object await_gather stays in refl))
    gather-by f n (GatherState.Failed x) e = none-by (at (Object.GatherFuture f n (GatherState.Failed x)) e (unfold await_object await_gather stays in refl))

    by : (x : Object) → object s o ≡ x → (exec_get_awaitable s t o).steps ≤ 2 * pending_count s - 1
    by Object.Unmade e = none-by (at Object.Unmade e (unfold await_object in refl))
    by (Object.Coroutine f x) e = none-by (at (Object.Coroutine f x) e (unfold await_object in coroutine_steps s t o f x))
    by (Object.ExternalFuture c x) e = none-by (at (Object.ExternalFuture c x) e (unfold await_object in external_steps s t o c x))
    by (Object.GatherFuture f n x) e = gather-by f n x e
