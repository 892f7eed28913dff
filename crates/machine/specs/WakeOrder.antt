-- Document 02, No. 7: "Tasks woken by one results event go to the queue's back by task number, lowest first", as a claim about sessions. Who is woken is
-- said by demand 3's word blocked, read off the history: blocked before the event, and not after it.
use Rattle.std.specs.Prelude.{ℕ, zero, suc, ◌+◌, ◌≡◌, Bool, true, not, ◌&&◌, List, [], ◌∷◌, ◌++◌}
use Rattle.asyncio.specs.States.{pick}
use Rattle.asyncio.specs.Limits.{task_limit}
use Rattle.queue.specs.Queue.{entries}
use Rattle.machine.specs.Events.{Result}
use Rattle.machine.specs.Machine.{Event}
use Rattle.machine.specs.History.{Entry, stays_blocked, tells}
use Rattle.machine.specs.Sessions.{Sent, Session, lent_any, send, session, AllSentInRange}

-- those of the k numbers from i on that pass a test, lowest first
unfoldable pub those_from : (ℕ → Bool) → ℕ → ℕ → List ℕ
those_from p i zero = []
those_from p i (suc k) = pick (p i) (i ∷ those_from p (i + 1) k) (those_from p (i + 1) k)

-- the tasks that pass a test, lowest first; main is 0
abbrev pub those : (ℕ → Bool) → List ℕ
those p = those_from p 0 task_limit

-- task t was blocked after the history h, and is not after the history k
unfoldable pub was_woken : List Entry → List Entry → ℕ → Bool
was_woken h k t = stays_blocked h t && not (stays_blocked k t)

-- An accepted batch of results, sent to session x: in the queue stand those who stood there, in their order, and behind them the tasks that it woke, lowest
-- first; and nobody else.
abbrev pub WakesInOrder : Session → List Result → List ℕ → Type 0
WakesInOrder x rs l =
    let e : Sent = record { event = Event.results rs; list = l } in
    (tells (lent_any x.store e).answer).accepts ≡ true
    → entries (send x e).store.queue ≡ entries x.store.queue ++ those (was_woken x.history (send x e).history)

-- After every list of events, refused ones included; with any list lent for the calls of a wait.
abbrev pub WakeOrder : Type 0
WakeOrder = (es : List Sent) → AllSentInRange es → (rs : List Result) (l : List ℕ) → WakesInOrder (session es) rs l
