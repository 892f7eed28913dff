-- What document 01 calls each answer: its number in the table of refusals (0: accepted), its word, and its values in the order of the
-- driver's line. The entries' contracts equate them too (`Lent`, `Read`).
use Rattle.std.specs.Prelude.{ℕ, Bool, true, false, List, [], ◌∷◌, ◌++◌, length}
use Rattle.std.proofs.Math.Option.{Option, none, some}
use Rattle.asyncio.specs.declared.Value.{Value}
use Rattle.asyncio.specs.declared.Error.{Error}
use Rattle.asyncio.specs.declared.CoroutineState.{CoroutineState}
use Rattle.asyncio.specs.declared.words.Words2.{Words2}
use Rattle.asyncio.specs.Layout.{value_numbers, error_words}
use Rattle.machine.specs.Events.{How, start, value, raises, inline, Control, runs, waits}
use Rattle.machine.specs.Machine.{Answer, Shown}

-- The words in the order of document 01: 1 made, 2 call, 3 runs, 4 waits, 5 done, 6 stalled, 7 finished, 8 eager, 9 refused, 10 shows.
pub record Numbers : Type 0 where
  pub refusal : ℕ
  pub word : ℕ
  pub values : List ℕ

-- an answer of an accepted event: its word and its values
abbrev pub says : ℕ → List ℕ → Numbers
says w vs = record { refusal = 0; word = w; values = vs }

-- an error: its place in the list of errors, and its number, 0 where it has none
unfoldable pub error_numbers : Error → List ℕ
error_numbers e = (error_words e).0 ∷ (error_words e).1 ∷ []

-- 0 start with coroutine and function, 1 value, 2 raised with error, 3 inline with coroutine
unfoldable pub how_numbers : How → List ℕ
how_numbers (start c f) = 0 ∷ c ∷ f ∷ []
how_numbers (value v) = 1 ∷ value_numbers v
how_numbers (raises e) = 2 ∷ error_numbers e
how_numbers (inline c) = 3 ∷ c ∷ []

-- runs: the task and how; waits: the count and the calls
unfoldable pub control_numbers : Control → List ℕ → Numbers
control_numbers (runs t h) rest = says 3 (t ∷ (how_numbers h ++ rest))
control_numbers (waits cs) rest = says 4 (length cs ∷ (cs ++ rest))

-- a place: 0 open, 1 and its value
unfoldable pub place_numbers : Option Value → List ℕ
place_numbers none = 0 ∷ []
place_numbers (some v) = 1 ∷ value_numbers v

-- places one after the other
unfoldable pub places_numbers : List (Option Value) → List ℕ
places_numbers [] = []
places_numbers (x ∷ xs) = place_numbers x ++ places_numbers xs

-- a coroutine's state: 0 new, 1 running, 2 completed
unfoldable pub coroutine_number : CoroutineState → ℕ
coroutine_number CoroutineState.New = 0
coroutine_number CoroutineState.Running = 1
coroutine_number CoroutineState.Completed = 2

-- the sort: 0 coroutine, 1 external, 2 gather; its state; then what document 01 lists
unfoldable pub shown_numbers : Shown → List ℕ
shown_numbers (Shown.a_coroutine x f) = 0 ∷ coroutine_number x ∷ f ∷ []
shown_numbers Shown.an_external_pending = 1 ∷ 0 ∷ []
shown_numbers (Shown.an_external_resolved v) = 1 ∷ 1 ∷ value_numbers v
shown_numbers (Shown.an_external_failed e) = 1 ∷ 2 ∷ error_numbers e
shown_numbers Shown.a_gather_pending = 2 ∷ 0 ∷ []
shown_numbers (Shown.a_gather_awaited ps) = 2 ∷ 1 ∷ length ps ∷ places_numbers ps
shown_numbers (Shown.a_gather_completed ps) = 2 ∷ 2 ∷ length ps ∷ places_numbers ps
shown_numbers (Shown.a_gather_failed e) = 2 ∷ 3 ∷ error_numbers e
shown_numbers Shown.nothing = []

-- 1 yes, 0 no
unfoldable pub yes_no : Bool → ℕ
yes_no true = 1
yes_no false = 0

-- finished: 0 and the value, or 1 and the error; an accepted await's values end with its steps
unfoldable pub answer_numbers : Answer → Numbers
answer_numbers (Answer.made o) = says 1 (o ∷ [])
answer_numbers (Answer.called n) = says 2 (n ∷ [])
answer_numbers (Answer.control c) = control_numbers c []
answer_numbers (Answer.awaited c n) = control_numbers c (n ∷ [])
answer_numbers Answer.done = says 5 []
answer_numbers (Answer.cancelled n) = says 5 (n ∷ [])
answer_numbers Answer.stalled = says 6 []
answer_numbers (Answer.finished v) = says 7 (0 ∷ value_numbers v)
answer_numbers (Answer.finished_error e) = says 7 (1 ∷ error_numbers e)
answer_numbers (Answer.is_eager b) = says 8 (yes_no b ∷ [])
answer_numbers (Answer.refused n) = record { refusal = n; word = 9; values = n ∷ [] }
answer_numbers (Answer.shows x) = says 10 (shown_numbers x)
