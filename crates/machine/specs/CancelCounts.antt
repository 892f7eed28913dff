-- Document 02, No. 8: "each cancel line to end with the number of removed tasks that had been ready", as a claim about a session's history, in demand 3's words
-- live and blocked and with no word of the queue. (The machine's count is the other sentence of the request, the queue's length before minus its length after.)
use Rattle.std.specs.Prelude.{ℕ, ◌≡◌, Bool, true, not, ◌&&◌, List, [], ◌∷◌}
use Rattle.asyncio.specs.Limits.{task_limit}
use Rattle.machine.specs.Tests.{count}
use Rattle.machine.specs.Machine.{Answer}
use Rattle.machine.specs.History.{Entry, lives, stays_blocked, says, tells}
use Rattle.machine.specs.Sessions.{Sent, session, AllSentInRange}

-- task t is ready after a history in which no task runs: it is live, and not blocked
unfoldable pub had_been_ready : List Entry → ℕ → Bool
had_been_ready h t = lives h t && not (stays_blocked h t)

-- how many tasks that had been ready live no more one entry later
unfoldable pub ready_removed : List Entry → Entry → ℕ
ready_removed h x = count (λ t. had_been_ready h t && not (lives (x ∷ h) t)) task_limit

-- an accepted cancel is answered with that number
unfoldable pub CountRight : List Entry → Entry → Type 0
CountRight h x = (says x.event).cancels ≡ true → (tells x.answer).accepts ≡ true → x.answer ≡ Answer.cancelled (ready_removed h x)

-- each one of a history
unfoldable pub CountsRight : List Entry → Type 0
CountsRight [] = Unit {0}
CountsRight (x ∷ h) = CountRight h x × CountsRight h

-- For every list of events, refused ones included, with any call lists.
abbrev pub CancelCounts : Type 0
CancelCounts = (es : List Sent) → AllSentInRange es → CountsRight (session es).history
