-- An event, as the code takes it.
use Rattle.std.specs.Prelude.{ℕ, List}
use Rattle.machine.specs.Machine as machine
use Rattle.exec_futures.specs.Results.{results_in}
use Rattle.step_event.specs.declared.Event.{Event}

-- with the items of a gather and the bytes of results
abbrev pub event_of : List ℕ → List ℕ → Event → machine.Event
event_of items bytes (Event.Coroutine f) = machine.Event.coroutine f
event_of items bytes Event.Call = machine.Event.call
event_of items bytes (Event.Pending c r) = machine.Event.pending c r
event_of items bytes (Event.Settled v) = machine.Event.settled v
event_of items bytes Event.Gather = machine.Event.gather items
event_of items bytes (Event.Await o) = machine.Event.await o
event_of items bytes (Event.Complete v) = machine.Event.complete v
event_of items bytes (Event.Fail n) = machine.Event.fail n
event_of items bytes Event.Results = machine.Event.results (results_in bytes)
event_of items bytes Event.Resume = machine.Event.resume
event_of items bytes (Event.Cancel t) = machine.Event.cancel t
