-- The words of demands 2 and 3: live, blocked, unanswered, items, outcomes. They are read off a session's history, its events, answers and what
-- happened (modules 2 to 5 write it into the log), and never off the store. A history has its last entry first.
use Rattle.std.specs.Prelude.{ℕ, zero, suc, Bool, true, false, not, ◌&&◌, ◌||◌, List, [], ◌∷◌, eqb}
use Rattle.std.proofs.Math.Option.{Option, none, some}
use Rattle.asyncio.specs.declared.Value.{Value}
use Rattle.asyncio.specs.declared.Error.{Error}
use Rattle.asyncio.specs.Options.{OptionValue}
use Rattle.std.specs.Prelude.{None, Some}
use Rattle.asyncio.specs.States.{pick}
use Rattle.asyncio.specs.declared.HeapId.{HeapId}
use Rattle.asyncio.specs.Numbers.{heap_id}
use Rattle.asyncio.specs.Layout.{to_value, to_error}
use Rattle.machine.specs.Store.{Store, LogEntry, spawned, blocked, reached, exited, removed}
use Rattle.machine.specs.Events.{How, start, value, raises, inline, Control, runs, waits, Result}
use Rattle.machine.specs.Machine.{Event, Answer, Shown}
use Rattle.machine.specs.Gather.{Outcome, returned, raised}

-- An event of a session, its answer, and what happened, the last first.
pub record Entry : Type 0 where
  pub event : Event
  pub answer : Answer
  pub happened : List LogEntry

-- Live: main at first, a spawned task from its spawning until its exit or removal.

-- is task t live after these log entries, b telling whether it was before?
unfoldable pub lives_by : Bool → List LogEntry → ℕ → Bool
lives_by b [] t = b
lives_by b (spawned u c ∷ hs) t = eqb u t || lives_by b hs t
lives_by b (blocked u ∷ hs) t = lives_by b hs t
lives_by b (reached u ∷ hs) t = lives_by b hs t
lives_by b (exited u ∷ hs) t = not (eqb u t) && lives_by b hs t
lives_by b (removed u ∷ hs) t = not (eqb u t) && lives_by b hs t

-- is task t live after a history?
unfoldable pub lives : List Entry → ℕ → Bool
lives [] t = eqb t 0
lives (x ∷ h) t = lives_by (lives h t) x.happened t

-- Blocked: left waiting by an await until a value or error reaches it.

-- is task t blocked after these log entries?
unfoldable pub blocked_by : Bool → List LogEntry → ℕ → Bool
blocked_by b [] t = b
blocked_by b (spawned u c ∷ hs) t = blocked_by b hs t
blocked_by b (blocked u ∷ hs) t = eqb u t || blocked_by b hs t
blocked_by b (reached u ∷ hs) t = not (eqb u t) && blocked_by b hs t
blocked_by b (exited u ∷ hs) t = blocked_by b hs t
blocked_by b (removed u ∷ hs) t = blocked_by b hs t

-- is task t blocked after a history?
unfoldable pub stays_blocked : List Entry → ℕ → Bool
stays_blocked [] t = false
stays_blocked (x ∷ h) t = blocked_by (stays_blocked h t) x.happened t

-- From here on, events and answers alone.

-- what an event says: the results in it, the call that it makes pending, the object that it awaits, the value that it completes with, the number that
-- it fails with, its items, a cancel
pub record Says : Type 0 where
  pub results : List Result
  pub pends : Option ℕ
  pub awaits : Option ℕ
  pub completes : Option Value
  pub fails : Option ℕ
  pub items : List ℕ
  pub cancels : Bool

-- an event that says none of these
unfoldable pub nothing_said : Says
nothing_said = record { results = []; pends = none; awaits = none; completes = none; fails = none; items = []; cancels = false }

-- what each event says
unfoldable pub says : Event → Says
says (Event.coroutine f) = nothing_said
says Event.call = nothing_said
says (Event.pending c r) = record { results = []; pends = some c; awaits = none; completes = none; fails = none; items = []; cancels = false }
says (Event.settled v) = nothing_said
says (Event.gather os) = record { results = []; pends = none; awaits = none; completes = none; fails = none; items = os; cancels = false }
says (Event.await o) = record { results = []; pends = none; awaits = some o; completes = none; fails = none; items = []; cancels = false }
says (Event.complete v) = record { results = []; pends = none; awaits = none; completes = some v; fails = none; items = []; cancels = false }
says (Event.fail n) = record { results = []; pends = none; awaits = none; completes = none; fails = some n; items = []; cancels = false }
says (Event.results rs) = record { results = rs; pends = none; awaits = none; completes = none; fails = none; items = []; cancels = false }
says Event.resume = nothing_said
says (Event.cancel t) = record { results = []; pends = none; awaits = none; completes = none; fails = none; items = []; cancels = true }
says (Event.show o) = nothing_said
says Event.eager = nothing_said

-- what an answer says: the object made, who has control; a refusal says nothing
pub record Tells : Type 0 where
  pub accepts : Bool
  pub makes : Option ℕ
  pub control : Option Control

-- accepted, and no more
unfoldable pub done_only : Tells
done_only = record { accepts = true; makes = none; control = none }

-- what each answer says
unfoldable pub tells : Answer → Tells
tells (Answer.made o) = record { accepts = true; makes = some o; control = none }
tells (Answer.called n) = done_only
tells (Answer.control c) = record { accepts = true; makes = none; control = some c }
tells (Answer.awaited c n) = record { accepts = true; makes = none; control = some c }
tells Answer.done = done_only
tells (Answer.cancelled n) = done_only
tells Answer.stalled = done_only
tells (Answer.finished v) = done_only
tells (Answer.finished_error e) = done_only
tells (Answer.shows x) = done_only
tells (Answer.is_eager b) = done_only
tells (Answer.refused n) = record { accepts = false; makes = none; control = none }

-- what an accepted event says
unfoldable pub said : Entry → Says
said x = elim (tells x.answer).accepts [ true ↦ says x.event | false ↦ nothing_said ]

-- is it c?
unfoldable pub is_at : Option ℕ → ℕ → Bool
is_at none c = false
is_at (some b) c = eqb b c

-- the first result for a call that is not of kind 2
unfoldable pub reply_in : List Result → ℕ → Option Result
reply_in [] c = none
reply_in (r ∷ rs) c = elim (eqb r.call c && not (eqb r.kind 2)) [ true ↦ some r | false ↦ reply_in rs c ]

-- Unanswered: made pending, with no result of kind 0, 1, 3 or 4 for it since.
unfoldable pub unanswered : List Entry → ℕ → Bool
unanswered [] c = false
unanswered (x ∷ h) c =
    elim (is_at (said x).pends c) [
      | true ↦ true
      | false ↦ elim (reply_in (said x).results c) [ none ↦ unanswered h c | some r ↦ false ]
    ]

-- the entries since object o was made, and the event that made it
pub record Making : Type 0 where
  pub event : Event
  pub since : List Entry

-- one entry later
unfoldable pub later : Entry → Option Making → Option Making
later x none = none
later x (some m) = some (record { event = m.event; since = x ∷ m.since })

-- the making of object o
unfoldable pub making : List Entry → ℕ → Option Making
making [] o = none
making (x ∷ h) o = elim (is_at (tells x.answer).makes o) [ true ↦ some (record { event = x.event; since = [] }) | false ↦ later x (making h o) ]

-- the first result for call c that is not of kind 2
unfoldable pub first_reply : List Entry → ℕ → Option Result
first_reply [] c = none
first_reply (x ∷ h) c = elim (first_reply h c) [ some r ↦ some r | none ↦ reply_in (said x).results c ]

-- the running task and its coroutine, by the answers
unfoldable pub runner_by : Option Control → Option ℕ → Option ℕ
runner_by none r = r
runner_by (some (runs t h)) r = some t
runner_by (some (waits cs)) r = none

-- the running task
unfoldable pub running : List Entry → Option ℕ
running [] = some 0
running (x ∷ h) = runner_by (tells x.answer).control (running h)

-- the coroutine of task t after an answer
unfoldable pub started_by : Option Control → ℕ → Option ℕ → Option ℕ
started_by none t r = r
started_by (some (runs u (start c f))) t r = elim (eqb u t) [ true ↦ some c | false ↦ r ]
started_by (some (runs u (value v))) t r = r
started_by (some (runs u (raises e))) t r = r
started_by (some (runs u (inline c))) t r = r
started_by (some (waits cs)) t r = r

-- the coroutine that task t started
unfoldable pub coroutine_of : List Entry → ℕ → Option ℕ
coroutine_of [] t = none
coroutine_of (x ∷ h) t = started_by (tells x.answer).control t (coroutine_of h t)

-- the coroutine of the running task
unfoldable pub running_coroutine : List Entry → Option ℕ
running_coroutine h = elim (running h) [ none ↦ none | some t ↦ coroutine_of h t ]

-- the value completed while coroutine c's task ran
unfoldable pub completed_value : List Entry → ℕ → Option Value
completed_value [] c = none
completed_value (x ∷ h) c =
    elim (is_at (running_coroutine h) c) [
      | true ↦ elim (said x).completes [ none ↦ completed_value h c | some v ↦ some v ]
      | false ↦ completed_value h c
    ]

-- the coroutine that a task was spawned for, b before these log entries
unfoldable pub spawned_by : Option ℕ → List LogEntry → ℕ → Option ℕ
spawned_by b [] t = b
spawned_by b (spawned u c ∷ hs) t = elim (eqb u t) [ true ↦ some c | false ↦ spawned_by b hs t ]
spawned_by b (blocked u ∷ hs) t = spawned_by b hs t
spawned_by b (reached u ∷ hs) t = spawned_by b hs t
spawned_by b (exited u ∷ hs) t = spawned_by b hs t
spawned_by b (removed u ∷ hs) t = spawned_by b hs t

-- the coroutine that task t was spawned for
unfoldable pub spawned_for : List Entry → ℕ → Option ℕ
spawned_for [] t = none
spawned_for (x ∷ h) t = spawned_by (spawned_for h t) x.happened t

-- is there none?
unfoldable pub is_none : Option ℕ → Bool
is_none none = true
is_none (some n) = false

-- by the log entries, did a task that was spawned for c (by f) and had started none (by g) exit?
unfoldable pub exits_unstarted : (ℕ → Option ℕ) → (ℕ → Option ℕ) → List LogEntry → ℕ → Bool
exits_unstarted f g [] c = false
exits_unstarted f g (spawned u d ∷ hs) c = exits_unstarted f g hs c
exits_unstarted f g (blocked u ∷ hs) c = exits_unstarted f g hs c
exits_unstarted f g (reached u ∷ hs) c = exits_unstarted f g hs c
exits_unstarted f g (exited u ∷ hs) c = (is_at (f u) c && is_none (g u)) || exits_unstarted f g hs c
exits_unstarted f g (removed u ∷ hs) c = exits_unstarted f g hs c

-- The error that coroutine c's task ended with: script n if the task failed with n while it ran, coroutine-reuse if it failed at its first run.
unfoldable pub failed_error : List Entry → ℕ → Option Error
failed_error [] c = none
failed_error (x ∷ h) c =
    elim (exits_unstarted (spawned_for (x ∷ h)) (coroutine_of (x ∷ h)) x.happened c) [
      | true ↦ some Error.CoroutineReuse
      | false ↦ elim (is_at (running_coroutine h) c) [
        | true ↦ elim (said x).fails [ none ↦ failed_error h c | some n ↦ some (Error.Script n) ]
        | false ↦ failed_error h c
      ]
    ]

-- ---- Outcomes: what an object has come to, a value or an error. What it has delivered (document 01, "Demand 3") is the value.

-- a coroutine: the value completed while its task ran, or the error that its task ended with
unfoldable pub coroutine_outcome : Option Value → Option Error → Option (Outcome Value Error)
coroutine_outcome (some v) e = some (returned v)
coroutine_outcome none (some e) = some (raised e)
coroutine_outcome none none = none

-- the error of a result that is of kind 1, 3 or 4
unfoldable pub reply_error : Result → Error
reply_error r = pick (eqb r.kind 1) (to_error 0 r.number) (pick (eqb r.kind 3) Error.NotFound Error.ModuleFile)

-- the stored value or, without one, the result's. (Document 01's words: the machine's own `value_or` is not used here.)
unfoldable pub stored_or : OptionValue → Value → Value
stored_or None v = v
stored_or (Some x) v = x

-- a pending external, by the first result not of kind 2
unfoldable pub reply_outcome : OptionValue → Option Result → Option (Outcome Value Error)
reply_outcome stored none = none
reply_outcome stored (some r) =
    some (pick (eqb r.kind 0) (returned (stored_or stored (to_value r.tag r.number))) (raised (reply_error r)))

-- a gather, by what is shown of it: its list once it is completed, its error once it has failed
unfoldable pub shown_outcome : ℕ → Shown → Option (Outcome Value Error)
shown_outcome g (Shown.a_coroutine x f) = none
shown_outcome g Shown.an_external_pending = none
shown_outcome g (Shown.an_external_resolved v) = none
shown_outcome g (Shown.an_external_failed e) = none
shown_outcome g Shown.a_gather_pending = none
shown_outcome g (Shown.a_gather_awaited vs) = none
shown_outcome g (Shown.a_gather_completed vs) = some (returned (Value.List (heap_id g)))
shown_outcome g (Shown.a_gather_failed e) = some (raised e)
shown_outcome g Shown.nothing = none

-- an object made by the event, so many entries ago; `look` is what show gives of an object now
unfoldable pub outcome_by : List Entry → (ℕ → Shown) → ℕ → Event → List Entry → Option (Outcome Value Error)
outcome_by h look o (Event.coroutine f) since = coroutine_outcome (completed_value h o) (failed_error h o)
outcome_by h look o Event.call since = none
outcome_by h look o (Event.pending c r) since = reply_outcome r (first_reply since c)
outcome_by h look o (Event.settled v) since = some (returned v)
outcome_by h look o (Event.gather os) since = shown_outcome o (look o)
outcome_by h look o (Event.await p) since = none
outcome_by h look o (Event.complete v) since = none
outcome_by h look o (Event.fail n) since = none
outcome_by h look o (Event.results rs) since = none
outcome_by h look o Event.resume since = none
outcome_by h look o (Event.cancel t) since = none
outcome_by h look o (Event.show p) since = none
outcome_by h look o Event.eager since = none

-- what object o has come to, by a history and by what show gives now
unfoldable pub outcome : List Entry → (ℕ → Shown) → ℕ → Option (Outcome Value Error)
outcome h look o = elim (making h o) [ none ↦ none | some m ↦ outcome_by h look o m.event m.since ]

-- the value of an outcome: what the object has delivered
unfoldable pub value_of : Option (Outcome Value Error) → Option Value
value_of none = none
value_of (some (returned v)) = some v
value_of (some (raised e)) = none

-- the error of an outcome
unfoldable pub error_of : Option (Outcome Value Error) → Option Error
error_of none = none
error_of (some (returned v)) = none
error_of (some (raised e)) = some e

-- the items of a gather, at its making
unfoldable pub items : List Entry → ℕ → List ℕ
items h o = elim (making h o) [ none ↦ [] | some m ↦ (says m.event).items ]

-- was an await of object o accepted?
unfoldable pub awaited_before : List Entry → ℕ → Bool
awaited_before [] o = false
awaited_before (x ∷ h) o = is_at (said x).awaits o || awaited_before h o

-- was a cancel accepted?
unfoldable pub cancelled : List Entry → Bool
cancelled [] = false
cancelled (x ∷ h) = (said x).cancels || cancelled h
