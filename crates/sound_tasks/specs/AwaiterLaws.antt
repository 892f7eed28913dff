-- Clauses 8 and 10: what is read of an awaiter is in range; a blocked task by the state that was read.
use Rattle.std.specs.Prelude.{◌≡◌, refl, Bool, true, false, List, ℕ, ltb}
use Rattle.std.proofs.Math.Option.{none}
use Rattle.asyncio.specs.Parts.{awaiter_of}
use Rattle.asyncio.specs.States.{is_live}
use Rattle.asyncio.specs.Ranges.{AwaiterFits, ObjectFits}
use Rattle.asyncio.specs.declared.Awaiter.{Awaiter}
use Rattle.asyncio.specs.declared.ExternalFutureState.{ExternalFutureState}
use Rattle.asyncio.specs.declared.GatherState.{GatherState}
use Rattle.asyncio.specs.declared.HeapId.{HeapId}
use Rattle.asyncio.specs.declared.Object.{Object}
use Rattle.asyncio.specs.declared.Task.{Task}
use Rattle.asyncio.specs.declared.TaskId.{TaskId}
use Rattle.asyncio.specs.declared.TaskState.{TaskState}
use Rattle.rows.specs.Tables.{task_at, object_at}
use Rattle.rows.specs.TableLaws.{task_at-fits, object_at-fits}
use Rattle.machine.specs.Scheduler.{blocked_on}
use Rattle.machine.specs.Tests.{◌and◌, implies}
use Rattle.machine.specs.Sound.{is_task, blocked_at, blocked_awaits, awaiter_blocked}

awaiter_in : (x : Object) → ObjectFits x → AwaiterFits (awaiter_of x)
unfolding awaiter_of
awaiter_in Object.Unmade f = tt
awaiter_in (Object.Coroutine n s) f = tt
awaiter_in (Object.ExternalFuture c (ExternalFutureState.Pending w x)) f = f.1.0
awaiter_in (Object.ExternalFuture c (ExternalFutureState.Resolved v)) f = tt
awaiter_in (Object.ExternalFuture c (ExternalFutureState.Failed e)) f = tt
awaiter_in (Object.GatherFuture i n GatherState.Pending) f = tt
awaiter_in (Object.GatherFuture i n (GatherState.Awaited w m)) f = f.1.0
awaiter_in (Object.GatherFuture i n GatherState.Completed) f = tt
awaiter_in (Object.GatherFuture i n (GatherState.Failed e)) f = tt

-- of object o
pub awaiter_fits : (os : List ℕ) (o : ℕ) {w : Awaiter} → w ≡ awaiter_of (object_at os o) → AwaiterFits w
awaiter_fits os o e = rw e (awaiter_in (object_at os o) (object_at-fits os o))

-- of task t
pub task_awaiter_fits : (ts : List ℕ) (t : ℕ) {w : Awaiter} → w ≡ (task_at ts t).awaiter → AwaiterFits w
task_awaiter_fits ts t e = rw e (task_at-fits ts t).awaiter_fits

-- a state that is not blocked waits for nothing
pub waits_none : (s : TaskState) → ((o : HeapId) → s ≡ TaskState.Blocked o → ⊥) → blocked_on s ≡ none
unfolding blocked_on
waits_none TaskState.Absent n = refl
waits_none TaskState.Unstarted n = refl
waits_none TaskState.Running n = refl
waits_none (TaskState.Woken v) n = refl
waits_none (TaskState.Raised e) n = refl
waits_none (TaskState.Blocked o) n = absurd (n o refl)

-- task t in a state that was read: blocked on o, and not blocked
module _ (made : ℕ) (os : ℕ → Object) (t : ℕ) {s x : TaskState} (e : s ≡ x) where
  pub awaits_at : {o : HeapId} {r : Bool} → s ≡ TaskState.Blocked o → r ≡ ltb o.0 made and is_task t (awaiter_of (os o.0)) → r ≡ blocked_awaits made os t (blocked_on x)
  unfolding blocked_awaits blocked_on
  awaits_at b h = rw (← e, b) h

  pub awaits_none : ((o : HeapId) → s ≡ TaskState.Blocked o → ⊥) → true ≡ blocked_awaits made os t (blocked_on x)
  unfolding blocked_awaits
  awaits_none n = rw (← e, waits_none s n)

-- a state that is neither absent nor blocked is alive, and waits for nothing
pub idles : (s : TaskState) (o : ℕ) → (s ≡ TaskState.Absent → ⊥) → ((b : HeapId) → s ≡ TaskState.Blocked b → ⊥) → false ≡ implies (is_live s) (blocked_at (blocked_on s) o)
unfolding implies blocked_at blocked_on
idles TaskState.Absent o a n = absurd (a refl)
idles TaskState.Unstarted o a n = refl
idles TaskState.Running o a n = refl
idles (TaskState.Woken v) o a n = refl
idles (TaskState.Raised e) o a n = refl
idles (TaskState.Blocked b) o a n = absurd (n b refl)

-- an awaiter that is no task
pub no_task : (ts : ℕ → Task) (o : ℕ) (w : Awaiter) → ((t : TaskId) → w ≡ Awaiter.Task t → ⊥) → true ≡ awaiter_blocked ts o w
unfolding awaiter_blocked
no_task ts o Awaiter.Nobody n = refl
no_task ts o (Awaiter.Task t) n = absurd (n t refl)
no_task ts o (Awaiter.GatherSlot g x) n = refl
