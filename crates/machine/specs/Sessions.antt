-- Sessions (document 01, "Demand 3"): an accepted beginning, then events, each with any list lent for the calls of a wait, short ones included; reads may
-- stand between. What a session leaves: the store and the queue as the last event returned them, and its history, the last entry first.
use Rattle.std.specs.Prelude.{ℕ, ◌<◌, Bool, true, false, List, [], ◌∷◌}
use Rattle.asyncio.specs.States.{pick}
use Rattle.asyncio.specs.Limits.{u32_limit}
use Rattle.machine.specs.Store.{Store, LogEntry, fresh}
use Rattle.machine.specs.Machine.{Event, Answer, Step}
use Rattle.machine.specs.Lent.{Lent, lent_as, lent_step, lent_read}
use Rattle.machine.specs.History.{Entry, tells}

-- An event as it is sent: with the list that is lent for the calls of a wait.
pub record Sent : Type 0 where
  pub event : Event
  pub list : List ℕ

-- reads take no list
unfoldable pub is_read : Event → Bool
is_read (Event.coroutine f) = false
is_read Event.call = false
is_read (Event.pending c r) = false
is_read (Event.settled v) = false
is_read (Event.gather os) = false
is_read (Event.await o) = false
is_read (Event.complete v) = false
is_read (Event.fail n) = false
is_read (Event.results rs) = false
is_read Event.resume = false
is_read (Event.cancel t) = false
is_read (Event.show o) = true
is_read Event.eager = true

-- a read leaves the list
unfoldable pub read_lent : List ℕ → Step → Lent
read_lent l x = lent_as x.store l x.answer

-- one event: the entry of the library that is called
unfoldable pub lent_any : Store → Sent → Lent
lent_any s x = pick (is_read x.event) (read_lent x.list (lent_read s x.event)) (lent_step s x.list x.event)

-- what happened, by the answer: a refused event makes nothing happen. (Refusal 1 leaves the store as it was, with what happened at the event before.)
unfoldable pub happened_by : Bool → List LogEntry → List LogEntry
happened_by true l = l
happened_by false l = []

-- the entry of an event
unfoldable pub entry_of : Event → Answer → Store → Entry
entry_of e a s = record { event = e; answer = a; happened = happened_by (tells a).accepts s.log }

-- A session so far.
pub record Session : Type 0 where
  pub store : Store
  pub history : List Entry

-- what an accepted beginning leaves (`lent_begin`)
unfoldable pub begun : Session
begun = record { store = fresh; history = [] }

-- one event more
unfoldable pub send : Session → Sent → Session
send x e = let r : Lent = lent_any x.store e in record { store = r.store; history = entry_of e.event r.answer r.store ∷ x.history }

-- a list of events
unfoldable pub send_all : Session → List Sent → Session
send_all x [] = x
send_all x (e ∷ es) = send_all (send x e) es

-- from the beginning
unfoldable pub session : List Sent → Session
session es = send_all begun es

-- the numbers that an event stores whole are of 32 bits, as the code's types give
unfoldable pub InRange : Event → Type 0
InRange (Event.coroutine f) = f < u32_limit
InRange Event.call = Unit {0}
InRange (Event.pending c r) = Unit {0}
InRange (Event.settled v) = Unit {0}
InRange (Event.gather os) = Unit {0}
InRange (Event.await o) = Unit {0}
InRange (Event.complete v) = Unit {0}
InRange (Event.fail n) = n < u32_limit
InRange (Event.results rs) = Unit {0}
InRange Event.resume = Unit {0}
InRange (Event.cancel t) = Unit {0}
InRange (Event.show o) = Unit {0}
InRange Event.eager = Unit {0}

-- those of every event
unfoldable pub AllSentInRange : List Sent → Type 0
AllSentInRange [] = Unit {0}
AllSentInRange (e ∷ es) = InRange e.event × AllSentInRange es
