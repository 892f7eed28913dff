-- The numbers of an answer that cross to another language by value: document 01's (machine/specs/Answers.antt), but for what has no fixed length. The calls
-- of a wait stand in the list; the places of a gather are read one by one.
use Rattle.std.specs.Prelude.{ℕ, zero, suc, List, [], ◌∷◌, ◌++◌, length, take, replicate}
use Rattle.std.proofs.Math.Option.{Option}
use Rattle.asyncio.specs.declared.Value.{Value}
use Rattle.machine.specs.Events.{Control, runs, waits}
use Rattle.machine.specs.Machine.{Answer, Shown}
use Rattle.machine.specs.Answers as answers
use Rattle.machine.specs.Answers.{answer_numbers, place_numbers}
use Rattle.boundary_numbers.specs.declared.Numbers.{Numbers}

-- how many values there is room for
abbrev pub room : ℕ
room = 6

-- the values that an answer has by itself: of a wait the count of its calls, and its steps
unfoldable pub control_values : Control → List ℕ → List ℕ → List ℕ
control_values (runs t h) all steps = all
control_values (waits cs) all steps = length cs ∷ steps

-- of a gather the count of its places
unfoldable pub shown_values : Shown → List ℕ → List ℕ
shown_values (Shown.a_coroutine x f) all = all
shown_values Shown.an_external_pending all = all
shown_values (Shown.an_external_resolved v) all = all
shown_values (Shown.an_external_failed e) all = all
shown_values Shown.a_gather_pending all = all
shown_values (Shown.a_gather_awaited ps) all = 2 ∷ 1 ∷ length ps ∷ []
shown_values (Shown.a_gather_completed ps) all = 2 ∷ 2 ∷ length ps ∷ []
shown_values (Shown.a_gather_failed e) all = all
shown_values Shown.nothing all = all

-- of any other answer all that document 01 lists
unfoldable pub own_values : Answer → List ℕ → List ℕ
own_values (Answer.made o) all = all
own_values (Answer.called n) all = all
own_values (Answer.control c) all = control_values c all []
own_values (Answer.awaited c n) all = control_values c all (n ∷ [])
own_values Answer.done all = all
own_values (Answer.cancelled n) all = all
own_values Answer.stalled all = all
own_values (Answer.finished v) all = all
own_values (Answer.finished_error e) all = all
own_values (Answer.shows x) all = shown_values x all
own_values (Answer.is_eager b) all = all
own_values (Answer.refused n) all = all

-- numbers as they cross: the values, counted, and 0 behind them
unfoldable pub numbers_with : answers.Numbers → List ℕ → Numbers
numbers_with x vs = record { refusal = x.refusal; word = x.word; count = length vs; values = take room (vs ++ replicate room 0) }

-- an answer
unfoldable pub numbers_as : Answer → Numbers
numbers_as a = numbers_with (answer_numbers a) (own_values a (answer_numbers a).values)

-- ---- one place of a gather

-- the places that a read of an object shows
unfoldable pub places_shown : Shown → List (Option Value)
places_shown (Shown.a_coroutine x f) = []
places_shown Shown.an_external_pending = []
places_shown (Shown.an_external_resolved v) = []
places_shown (Shown.an_external_failed e) = []
places_shown Shown.a_gather_pending = []
places_shown (Shown.a_gather_awaited ps) = ps
places_shown (Shown.a_gather_completed ps) = ps
places_shown (Shown.a_gather_failed e) = []
places_shown Shown.nothing = []

-- open, or a value: the numbers that a place has among those of a show
unfoldable pub slot_said : Option Value → Numbers
slot_said x = numbers_with (answers.says 10 []) (place_numbers x)

-- place i of those shown; 5 where there is none
unfoldable pub place_said : List (Option Value) → ℕ → Numbers
place_said [] i = numbers_as (Answer.refused 5)
place_said (x ∷ xs) zero = slot_said x
place_said (x ∷ xs) (suc i) = place_said xs i

-- place i of what a read answers: its refusal, or the place
unfoldable pub place_as : Answer → ℕ → Numbers
place_as (Answer.made o) i = numbers_as (Answer.made o)
place_as (Answer.called n) i = numbers_as (Answer.called n)
place_as (Answer.control c) i = numbers_as (Answer.control c)
place_as (Answer.awaited c n) i = numbers_as (Answer.awaited c n)
place_as Answer.done i = numbers_as Answer.done
place_as (Answer.cancelled n) i = numbers_as (Answer.cancelled n)
place_as Answer.stalled i = numbers_as Answer.stalled
place_as (Answer.finished v) i = numbers_as (Answer.finished v)
place_as (Answer.finished_error e) i = numbers_as (Answer.finished_error e)
place_as (Answer.shows x) i = place_said (places_shown x) i
place_as (Answer.is_eager b) i = numbers_as (Answer.is_eager b)
place_as (Answer.refused n) i = numbers_as (Answer.refused n)
