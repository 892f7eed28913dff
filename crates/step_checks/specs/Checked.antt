-- An event of a store that is sound: the checks from 3 on, and then what the event does.
use Rattle.std.specs.Prelude.{ℕ, Result, Ok, Err}
use Rattle.asyncio.specs.declared.Moment.{Moment}
use Rattle.asyncio.specs.declared.TaskId.{TaskId}
use Rattle.machine.specs.Store.{Store}
use Rattle.machine.specs.Machine.{Event, Step, first_refusal, refusals, decide}
use Rattle.exec_switch.specs.declared.answer.Refusal.{Refusal}

-- refused by the first check that it meets, or done
unfoldable pub checked : Store → Event → Step
checked s e = decide (first_refusal (refusals s e)) s e

-- who runs, for an event of running: none after the end, nor while the host has control
abbrev pub turn_of : Moment → Result TaskId Refusal
turn_of (Moment.Running t) = Ok t
turn_of Moment.Waiting = Err Refusal.WrongMoment
turn_of Moment.Ended = Err Refusal.SessionEnded

-- may an event of waiting come: not after the end, nor while a task runs
abbrev pub wait_of : Moment → Result (Unit {0}) Refusal
wait_of (Moment.Running t) = Err Refusal.WrongMoment
wait_of Moment.Waiting = Ok tt
wait_of Moment.Ended = Err Refusal.SessionEnded
