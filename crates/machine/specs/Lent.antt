-- An event on lent memory: refusal 1, and the list of calls that a wait writes.
use Rattle.std.specs.Prelude.{ℕ, zero, suc, Bool, true, false, ◌&&◌, List, [], ◌∷◌, ◌++◌, length, drop, eqb, leb}
use Rattle.asyncio.specs.States.{pick}
use Rattle.asyncio.specs.Limits.{object_limit, tasks_length, objects_length, places_length}
use Rattle.machine.specs.Store.{Store, fresh}
use Rattle.machine.specs.Events.{Control, runs, waits}
use Rattle.machine.specs.Machine.{Event, Answer, Step, step}
use Rattle.machine.specs.Answers.{Numbers, answer_numbers}

-- The store and the call list after an event; the answer, document 01's numbers for it, and how many calls a wait has (0: it is none).
pub record Lent : Type 0 where
  pub store : Store
  pub list : List ℕ
  pub answer : Answer
  pub numbers : Numbers
  pub count : ℕ

-- What a read answers, and document 01's numbers for it.
pub record Read : Type 0 where
  pub answer : Answer
  pub numbers : Numbers

-- the slices have their lengths
unfoldable pub slices_right : Store → Bool
slices_right s = eqb (length s.tasks) tasks_length && eqb (length s.objects) objects_length && eqb (length s.places) places_length

-- and the list of calls has room for every wait
unfoldable pub lengths_right : Store → List ℕ → Bool
lengths_right s l = slices_right s && leb object_limit (length l)

-- the calls at the list's front; the words behind them as they were
unfoldable pub write_calls : List ℕ → List ℕ → List ℕ
write_calls cs l = cs ++ drop (length cs) l

-- the calls of a wait
unfoldable pub control_calls : Control → List ℕ
control_calls (runs t h) = []
control_calls (waits cs) = cs

-- by the answer: none unless it is a wait
unfoldable pub answer_calls : Answer → List ℕ
answer_calls (Answer.made o) = []
answer_calls (Answer.called n) = []
answer_calls (Answer.control c) = control_calls c
answer_calls (Answer.awaited c n) = control_calls c
answer_calls Answer.done = []
answer_calls (Answer.cancelled n) = []
answer_calls Answer.stalled = []
answer_calls (Answer.finished v) = []
answer_calls (Answer.finished_error e) = []
answer_calls (Answer.shows x) = []
answer_calls (Answer.is_eager b) = []
answer_calls (Answer.refused n) = []

-- a wait writes the list; any other answer keeps it
unfoldable pub written : Answer → List ℕ → List ℕ
written a l = write_calls (answer_calls a) l

-- an answer as a caller gets it
abbrev pub lent_as : Store → List ℕ → Answer → Lent
lent_as s l a = record { store = s; list = l; answer = a; numbers = answer_numbers a; count = length (answer_calls a) }

-- an answer as a reader gets it
abbrev pub read_as : Answer → Read
read_as a = record { answer = a; numbers = answer_numbers a }

-- an event: all unchanged where a length is wrong; else the machine's step, and its wait written
unfoldable pub lent_by : Bool → Store → List ℕ → Event → Lent
lent_by false s l e = lent_as s l (Answer.refused 1)
lent_by true s l e = let x : Step = step s e in lent_as x.store (written x.answer l) x.answer

-- An event on lent memory.
unfoldable pub lent_step : Store → List ℕ → Event → Lent
lent_step s l e = lent_by (lengths_right s l) s l e

-- Reads take no list.
unfoldable pub lent_read : Store → Event → Step
lent_read s e = pick (slices_right s) (step s e) (record { store = s; answer = Answer.refused 1 })

-- Beginning meets only 1 and overwrites the rest.
unfoldable pub lent_begin : Store → Step
lent_begin s = pick (slices_right s) (record { store = fresh; answer = Answer.done }) (record { store = s; answer = Answer.refused 1 })
