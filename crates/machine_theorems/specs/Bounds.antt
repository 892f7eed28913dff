-- Bounds and fuel ("run without end"): the theorems to read stand below; what each file proves, its first line says.
pub mod Bits
pub mod Counts
pub mod BoundLaws
pub mod FuelLaws
pub mod LoopLaws
pub mod TurnLaws
pub mod ChainLaws
pub mod CancelTurns
pub mod AwaitSteps
pub mod SwitchPending
use Rattle.std.specs.Prelude.{◌≡◌, true, ℕ, suc, ◌+◌, ◌-◌, ◌*◌, ◌≤◌, ◌<◌}
use Rattle.asyncio.specs.declared.Awaiter.{Awaiter}
use Rattle.asyncio.specs.declared.Kind.{Kind}
use Rattle.asyncio.specs.declared.GatherState.{GatherState}
use Rattle.asyncio.specs.declared.Object.{Object}
use Rattle.asyncio.specs.Kinds.{kind}
use Rattle.asyncio.specs.Limits.{task_limit, object_limit}
use Rattle.asyncio.specs.Numbers.{task_id}
use Rattle.asyncio.specs.States.{is_live}
use Rattle.machine.specs.Store.{Store, task, object}
use Rattle.machine.specs.Scheduler.{live_count}
use Rattle.machine.specs.Commit.{pending_count, commit_gather_tree}
use Rattle.machine.specs.Events.{activate, exec_get_awaitable}
use Rattle.machine_laws.specs.Views.{Sized}
use Rattle.machine_theorems.specs.Bounds.Counts.{StepsBetween, exits_in}
use Rattle.machine_theorems.specs.Bounds.BoundLaws.{commit_bound}
use Rattle.machine_theorems.specs.Bounds.ChainLaws.{activate_bound}
use Rattle.machine_theorems.specs.Bounds.CancelTurns.{Ends, begun, cancel_terminates}
use Rattle.machine_theorems.specs.Bounds.SwitchPending.{await_steps_between}

-- A commit takes at most 2 p - 1 steps, where p gathers were pending.
pub commits_end : (s : Store) (g : ℕ) (a : Awaiter) → Sized s → g < object_limit → kind (object s g) ≡ Kind.PendingGather
    → suc (commit_gather_tree s g a).steps ≤ 2 * pending_count s
commits_end s g a z l e = commit_bound s g a z l e

-- An await's steps are document 01's 2 n - 1 or n + k, with n and k read off the stores before and after.
pub awaits_count_steps : (s : Store) (t o f n : ℕ) → Sized s → o < object_limit → object s o ≡ Object.GatherFuture f n GatherState.Pending
    → StepsBetween s (exec_get_awaitable s t o).store (exec_get_awaitable s t o).steps (commit_gather_tree s o (Awaiter.Task (task_id t))).poll
awaits_count_steps s t o f n z l e = await_steps_between s t o f n z l e

-- A chain of failed starts is at most as long as tasks live.
pub starts_end : (s : Store) (t : ℕ) → Sized s → t < task_limit → exits_in (activate s t).store.log ≤ exits_in s.log + live_count s
starts_end s t z l = activate_bound s t z l

-- The walk of a cancel ends.
pub cancels_end : (s : Store) (t : ℕ) (z : Sized s) (l : t < task_limit) (e : is_live (task s t).state ≡ true) → Ends (begun s t z l e)
cancels_end s t z l e = cancel_terminates s t z l e
