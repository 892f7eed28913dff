-- The worked example of document 01 and cases of its rules, as a table: each row is a session from the beginning, an event and its answer to
-- a line. (CasesHold proves the whole table; the crate `machine_cases` has the rest of P1 to P12 and further ones.)
use Rattle.std.specs.Prelude.{ℕ, Bool, true, false, ◌&&◌, List, [], ◌∷◌, map, replicate}
use Rattle.std.proofs.Math.Option.{Option, none, some}
use Rattle.asyncio.specs.declared.Value.{Value}
use Rattle.asyncio.specs.declared.Error.{Error}
use Rattle.std.specs.Prelude.{None}
use Rattle.asyncio.specs.declared.CoroutineState.{CoroutineState}
use Rattle.asyncio.specs.Numbers.{heap_id}
use Rattle.rows.specs.Canonical.{same_words}
use Rattle.queue.specs.Queue.{entries}
use Rattle.machine.specs.Store.{Store, fresh}
use Rattle.machine.specs.Events.{Result, runs, waits, start, value, raises, inline}
use Rattle.machine.specs.Machine.{Event, Answer, Shown, step, after, answers}

infix 90 ◌⇒◌
-- an event, and what it is answered
pub data Turn : Type 0 where
  ◌⇒◌ : Event → Answer → Turn

-- the event of a turn
unfoldable pub turn_event : Turn → Event
turn_event (e ⇒ a) = e

-- the answer of a turn
unfoldable pub turn_answer : Turn → Answer
turn_answer (e ⇒ a) = a

-- A session with its answers; or a session, and an event that is answered so and changes nothing.
pub data Case : Type 0 where
  answered : List Turn → Case
  unchanged : List Turn → Turn → Case

-- The answers, and whether the store was kept.
pub record Seen : Type 0 where
  pub answers : List Answer
  pub kept : Bool

-- are the two stores the same?
unfoldable pub same_store : Store → Store → Bool
same_store s u =
    same_words s.tasks u.tasks && same_words s.objects u.objects && same_words s.places u.places && same_words (entries s.queue) (entries u.queue)

-- what the machine does
unfoldable pub seen : Case → Seen
seen (answered ts) = record { answers = answers fresh (map turn_event ts); kept = true }
seen (unchanged ts t) =
    let s : Store = after fresh (map turn_event ts) in
    record { answers = (step s (turn_event t)).answer ∷ []; kept = same_store (step s (turn_event t)).store s }

-- what the row says
unfoldable pub expected : Case → Seen
expected (answered ts) = record { answers = map turn_answer ts; kept = true }
expected (unchanged ts t) = record { answers = turn_answer t ∷ []; kept = true }

-- ---- short names for the rows

-- a plain value
abbrev pub plain : ℕ → Value
plain n = Value.Plain n

-- the list of gather g
abbrev pub list : ℕ → Value
list g = Value.List (heap_id g)

-- a call, its kind, a tag and a number
abbrev pub result : ℕ → ℕ → ℕ → ℕ → Result
result c k t n = record { call = c; kind = k; tag = t; number = n }

-- call c returns n
abbrev pub return : ℕ → ℕ → Result
return c n = result c 0 0 n

-- call c fails with host n
abbrev pub error : ℕ → ℕ → Result
error c n = result c 1 0 n

-- call c is made pending without a stored result
abbrev pub pending : ℕ → Event
pending c = Event.pending c None

-- ---- the rows

-- the table
unfoldable pub cases : List Case
cases =
    -- the worked example of the driver
    answered (
    Event.coroutine 7 ⇒ Answer.made 0 ∷
    Event.call ⇒ Answer.called 0 ∷
    pending 0 ⇒ Answer.made 1 ∷
    Event.gather (0 ∷ 1 ∷ 0 ∷ []) ⇒ Answer.made 2 ∷
    Event.await 2 ⇒ Answer.awaited (runs 1 (start 0 7)) 1 ∷
    Event.complete (plain 40) ⇒ Answer.control (waits (0 ∷ [])) ∷
    Event.results (return 0 5 ∷ []) ⇒ Answer.done ∷
    Event.resume ⇒ Answer.control (runs 0 (value (list 2))) ∷
    Event.show 2 ⇒ Answer.shows (Shown.a_gather_completed (some (plain 40) ∷ some (plain 5) ∷ some (plain 40) ∷ [])) ∷
    Event.complete (plain 9) ⇒ Answer.finished (plain 9) ∷
    []) ∷
    -- P2 gather(c, c): one task; when it has ended nothing is ready
    answered (
    Event.coroutine 7 ⇒ Answer.made 0 ∷
    Event.gather (0 ∷ 0 ∷ []) ⇒ Answer.made 1 ∷
    Event.await 1 ⇒ Answer.awaited (runs 1 (start 0 7)) 1 ∷
    Event.complete (plain 3) ⇒ Answer.control (runs 0 (value (list 1))) ∷
    Event.show 1 ⇒ Answer.shows (Shown.a_gather_completed (some (plain 3) ∷ some (plain 3) ∷ [])) ∷
    Event.call ⇒ Answer.called 0 ∷
    pending 0 ⇒ Answer.made 2 ∷
    Event.await 2 ⇒ Answer.awaited (waits (0 ∷ [])) 0 ∷
    []) ∷
    -- P3 gather(gather(), f), f pending: waits, steps 3
    answered (
    Event.gather [] ⇒ Answer.made 0 ∷
    Event.call ⇒ Answer.called 0 ∷
    pending 0 ⇒ Answer.made 1 ∷
    Event.gather (0 ∷ 1 ∷ []) ⇒ Answer.made 2 ∷
    Event.await 2 ⇒ Answer.awaited (waits (0 ∷ [])) 3 ∷
    Event.show 2 ⇒ Answer.shows (Shown.a_gather_awaited (some (list 0) ∷ none ∷ [])) ∷
    []) ∷
    -- 5 before 10 in one batch; and no number is cut: list 2^32 + 1 is not list 1, call 2^16 is not call 0 (nor is it handed out here)
    answered (
    Event.call ⇒ Answer.called 0 ∷
    pending 0 ⇒ Answer.made 0 ∷
    Event.gather [] ⇒ Answer.made 1 ∷
    Event.results (result 0 9 0 0 ∷ result 0 0 1 1 ∷ []) ⇒ Answer.refused 5 ∷
    Event.results (result 0 9 0 0 ∷ []) ⇒ Answer.refused 10 ∷
    Event.results (result 0 5 1 1 ∷ []) ⇒ Answer.refused 10 ∷
    Event.results (result 0 1 0 4294967296 ∷ []) ⇒ Answer.refused 10 ∷
    Event.await 1 ⇒ Answer.awaited (runs 0 (value (list 1))) 1 ∷
    Event.results (result 0 0 1 4294967297 ∷ []) ⇒ Answer.refused 5 ∷
    Event.results (return 65536 5 ∷ []) ⇒ Answer.done ∷
    Event.show 0 ⇒ Answer.shows Shown.an_external_pending ∷
    Event.results (result 0 0 1 1 ∷ []) ⇒ Answer.done ∷
    Event.show 0 ⇒ Answer.shows (Shown.an_external_resolved (list 1)) ∷
    []) ∷
    -- "new" is not "not spawned": a coroutine run inline has no task and is not new, so that the commit fails at it and the item behind it is
    -- not started; one whose task is queued is new (P5)
    answered (
    Event.coroutine 7 ⇒ Answer.made 0 ∷
    Event.await 0 ⇒ Answer.awaited (runs 0 (inline 0)) 0 ∷
    Event.coroutine 8 ⇒ Answer.made 1 ∷
    Event.gather (0 ∷ 1 ∷ []) ⇒ Answer.made 2 ∷
    Event.await 2 ⇒ Answer.awaited (runs 0 (raises Error.CoroutineReuse)) 1 ∷
    Event.show 2 ⇒ Answer.shows (Shown.a_gather_failed Error.CoroutineReuse) ∷
    Event.await 0 ⇒ Answer.awaited (runs 0 (raises Error.CoroutineReuse)) 0 ∷
    Event.call ⇒ Answer.called 0 ∷
    pending 0 ⇒ Answer.made 3 ∷
    Event.await 3 ⇒ Answer.awaited (waits (0 ∷ [])) 0 ∷
    []) ∷
    -- an error in a nested gather fails both
    answered (
    Event.call ⇒ Answer.called 0 ∷
    pending 0 ⇒ Answer.made 0 ∷
    Event.results (error 0 3 ∷ []) ⇒ Answer.done ∷
    Event.gather (0 ∷ []) ⇒ Answer.made 1 ∷
    Event.gather (1 ∷ []) ⇒ Answer.made 2 ∷
    Event.await 2 ⇒ Answer.awaited (runs 0 (raises (Error.Host 3))) 2 ∷
    Event.show 1 ⇒ Answer.shows (Shown.a_gather_failed (Error.Host 3)) ∷
    Event.show 2 ⇒ Answer.shows (Shown.a_gather_failed (Error.Host 3)) ∷
    []) ∷
    -- cancel goes through a nested gather: task 1 goes, and task 2 with it
    answered (
    Event.coroutine 10 ⇒ Answer.made 0 ∷
    Event.coroutine 11 ⇒ Answer.made 1 ∷
    Event.gather (1 ∷ []) ⇒ Answer.made 2 ∷
    Event.gather (2 ∷ []) ⇒ Answer.made 3 ∷
    Event.gather (0 ∷ []) ⇒ Answer.made 4 ∷
    Event.await 4 ⇒ Answer.awaited (runs 1 (start 0 10)) 1 ∷
    Event.await 3 ⇒ Answer.awaited (runs 2 (start 1 11)) 3 ∷
    Event.call ⇒ Answer.called 0 ∷
    pending 0 ⇒ Answer.made 5 ∷
    Event.await 5 ⇒ Answer.awaited (waits (0 ∷ [])) 0 ∷
    Event.cancel 1 ⇒ Answer.cancelled 0 ∷
    Event.cancel 2 ⇒ Answer.refused 5 ∷
    []) ∷
    []
