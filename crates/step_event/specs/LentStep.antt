-- The contract of an event on lent memory.
use Rattle.std.specs.Prelude.{ℕ, List}
use Rattle.queue.specs.declared.ReadyQueue.{ReadyQueue}
use Rattle.machine.specs.Machine as machine
use Rattle.machine.specs.Lent.{lent_step}
use Rattle.contract.specs.Contract.{Slice, Does}
use Rattle.step_checks.specs.Lent.{lent_of}
use Rattle.step_event.specs.declared.Answered.{Answered}

-- The call is the event e on lent memory: its answer with document 01's numbers and the count of a wait's calls, the slices, the queue and the list of
-- calls are those of `lent_step`, refused or not.
abbrev pub LentStep : Slice → Slice → Slice → Slice → ReadyQueue → machine.Event → Answered → Type 0
LentStep tasks objects places calls queue e r =
    Does
    (λ x. x.store.log)
    tasks
    objects
    places
    queue
    r.queue
    (λ s. lent_of s calls.exit.now r.answer r.calls)
    (λ s. lent_step s calls.entry.now e)
