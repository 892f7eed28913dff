-- Demand 3, as one claim about a session: its history (events, answers, what happened), its ready queue, and what `show` answers after it. The store
-- is used for these two only: the queue that was last returned, and the answers of reads.
use Rattle.std.specs.Prelude.{ℕ, ◌<◌, ◌≡◌, Bool, true, false, not, ◌&&◌, List, [], ◌∷◌, map}
use Rattle.std.proofs.Math.Option.{Option, none, some}
use Rattle.asyncio.specs.declared.Value.{Value}
use Rattle.queue.specs.Queue.{entries, Distinct}
use Rattle.machine.specs.Tests.{is_in}
use Rattle.machine.specs.Store.{Store}
use Rattle.machine.specs.Events.{Control, runs, waits}
use Rattle.machine.specs.Machine.{Event, Answer, Shown, step}
use Rattle.machine.specs.History.{Entry, tells, lives, stays_blocked, unanswered, outcome, value_of, items, cancelled}
use Rattle.machine.specs.Sessions.{Sent, session, AllSentInRange}

-- ---- (i) the queue: distinct tasks, live and not blocked

pub record QueueRight (h : List Entry) (q : List ℕ) : Type 0 where
  pub distinct : Distinct q
  pub live : (t : ℕ) → is_in t q ≡ true → lives h t ≡ true
  pub unblocked : (t : ℕ) → is_in t q ≡ true → stays_blocked h t ≡ false

-- ---- (ii) the places of gathers

-- what a read of object o answers
unfoldable pub read : Store → ℕ → Answer
read s o = (step s (Event.show o)).answer

-- what an answer shows
unfoldable pub shown_by : Answer → Shown
shown_by (Answer.made o) = Shown.nothing
shown_by (Answer.called n) = Shown.nothing
shown_by (Answer.control c) = Shown.nothing
shown_by (Answer.awaited c n) = Shown.nothing
shown_by Answer.done = Shown.nothing
shown_by (Answer.cancelled n) = Shown.nothing
shown_by Answer.stalled = Shown.nothing
shown_by (Answer.finished v) = Shown.nothing
shown_by (Answer.finished_error e) = Shown.nothing
shown_by (Answer.shows x) = x
shown_by (Answer.is_eager b) = Shown.nothing
shown_by (Answer.refused n) = Shown.nothing

-- what show gives of object o
unfoldable pub look : Store → ℕ → Shown
look s o = shown_by (read s o)

-- what object o has delivered: the value that it has come to
unfoldable pub delivered : List Entry → Store → ℕ → Option Value
delivered h s o = value_of (outcome h (look s) o)

-- no place is open
unfoldable pub none_open : List (Option Value) → Bool
none_open [] = true
none_open (none ∷ vs) = false
none_open (some v ∷ vs) = none_open vs

-- The places that show gives of gather g: one for each item that was named at its making, in each what that item has delivered, open where it has
-- delivered nothing. A gather is shown as completed where every item has delivered, and as awaited where one has not.
pub record PlacesRight (h : List Entry) (s : Store) (g : ℕ) : Type 0 where
  pub completed : (vs : List (Option Value)) → read s g ≡ Answer.shows (Shown.a_gather_completed vs) → (vs ≡ map (delivered h s) (items h g)) × (none_open vs ≡ true)
  pub awaited : (vs : List (Option Value)) → read s g ≡ Answer.shows (Shown.a_gather_awaited vs) → (vs ≡ map (delivered h s) (items h g)) × (none_open vs ≡ false)

-- ---- (iii) waits

-- every number of the list is above c
unfoldable pub Above : ℕ → List ℕ → Type 0
Above c [] = Unit {0}
Above c (d ∷ ds) = (c < d) × Above c ds

-- each number is followed by greater ones only
unfoldable pub Rising : List ℕ → Type 0
Rising [] = Unit {0}
Rising (c ∷ cs) = Above c cs × Rising cs

-- a wait names exactly the calls that are unanswered then, each once
pub record WaitRight (h : List Entry) (cs : List ℕ) : Type 0 where
  pub rising : Rising cs
  pub exact : (c : ℕ) → is_in c cs ≡ unanswered h c

-- by who has control
unfoldable pub ControlRight : List Entry → Option Control → Type 0
ControlRight h none = Unit {0}
ControlRight h (some (runs t x)) = Unit {0}
ControlRight h (some (waits cs)) = WaitRight h cs

-- each wait given on the way
unfoldable pub WaitsRight : List Entry → Type 0
WaitsRight [] = Unit {0}
WaitsRight (x ∷ h) = ControlRight (x ∷ h) (tells x.answer).control × WaitsRight h

-- ---- (iv) no stall

-- a wait for no call
unfoldable pub empty_wait : Option Control → Bool
empty_wait none = false
empty_wait (some (runs t x)) = false
empty_wait (some (waits [])) = true
empty_wait (some (waits (c ∷ cs))) = false

-- stalled
unfoldable pub is_stalled : Answer → Bool
is_stalled (Answer.made o) = false
is_stalled (Answer.called n) = false
is_stalled (Answer.control c) = false
is_stalled (Answer.awaited c n) = false
is_stalled Answer.done = false
is_stalled (Answer.cancelled n) = false
is_stalled Answer.stalled = true
is_stalled (Answer.finished v) = false
is_stalled (Answer.finished_error e) = false
is_stalled (Answer.shows x) = false
is_stalled (Answer.is_eager b) = false
is_stalled (Answer.refused n) = false

-- no wait is for no call, and no answer is stalled
unfoldable pub goes_on : List Entry → Bool
goes_on [] = true
goes_on (x ∷ h) = not (empty_wait (tells x.answer).control) && not (is_stalled x.answer) && goes_on h

-- ---- the claim

-- Demand 3 of a session. (No answer is a 2, so that what is said of answers is not said of refusals: nobody but the library writes the store.)
pub record Demand3 (h : List Entry) (s : Store) : Type 0 where
  pub sound : (e : Event) → (step s e).answer ≡ Answer.refused 2 → ⊥
  pub queue : QueueRight h (entries s.queue)
  pub places : (g : ℕ) → PlacesRight h s g
  pub waits_right : WaitsRight h
  pub no_stall : cancelled h ≡ false → goes_on h ≡ true

-- For every list of events, refused ones included, with any call lists.
abbrev pub DemandThree : Type 0
DemandThree = (es : List Sent) → AllSentInRange es → Demand3 (session es).history (session es).store
