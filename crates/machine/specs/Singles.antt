-- A batch of results is taken result by result, in its order: an accepted batch is cut into batches of one result, an empty one into none. Document 01: "P11 f1
-- then f2 fail: the waiter gets f1's error only"; of a refused one (10) "nothing applied", so that it stays as it was sent. Demand 2 reads off the pieces in which
-- order things arrive, and off nothing else: the session goes on with the batch, whose tasks stand in the queue in task order (document 02, No. 7: P10 becomes
-- "task 1 runs first", and "Which error a gather keeps still follows the batch").
use Rattle.std.specs.Prelude.{ℕ, List, [], ◌∷◌}
use Rattle.std.proofs.Math.Option.{Option, none, some}
use Rattle.asyncio.specs.States.{pick}
use Rattle.machine.specs.Store.{Store}
use Rattle.machine.specs.Events.{Result}
use Rattle.machine.specs.Machine.{Event, Answer}
use Rattle.machine.specs.History.{tells}
use Rattle.machine.specs.Sessions.{Sent, lent_any}

-- the results of a batch
unfoldable pub batch_of : Event → Option (List Result)
batch_of (Event.coroutine f) = none
batch_of Event.call = none
batch_of (Event.pending c r) = none
batch_of (Event.settled v) = none
batch_of (Event.gather os) = none
batch_of (Event.await o) = none
batch_of (Event.complete v) = none
batch_of (Event.fail n) = none
batch_of (Event.results rs) = some rs
batch_of Event.resume = none
batch_of (Event.cancel t) = none
batch_of (Event.show o) = none
batch_of Event.eager = none

-- of one that the answer accepts
unfoldable pub accepted_batch : Answer → Event → Option (List Result)
accepted_batch a e = pick (tells a).accepts (batch_of e) none

-- each result in a batch of its own, the first first, with the same list lent
unfoldable pub each_alone : List Result → List ℕ → List Sent
each_alone [] l = []
each_alone (r ∷ rs) l = record { event = Event.results (r ∷ []); list = l } ∷ each_alone rs l

-- an event that is no accepted batch stays
unfoldable pub cut_by : Sent → Option (List Result) → List Sent
cut_by e none = e ∷ []
cut_by e (some rs) = each_alone rs e.list

-- an event sent to the store s
unfoldable pub cut : Store → Sent → List Sent
cut s e = cut_by e (accepted_batch (lent_any s e).answer e.event)
