-- The numbers as the code's small functions give them, by the code's own cases. `NumbersLaws` says that they are those of `Numbers`.
use Rattle.std.specs.Prelude.{ℕ, ◌+◌, List, [], ◌∷◌, ◌++◌, length, drop, set}
use Rattle.asyncio.specs.Layout.{value_words, error_words}
use Rattle.machine.specs.Answers.{yes_no, coroutine_number}
use Rattle.exec_switch.specs.Refusal.{refusal_number}
use Rattle.exec_switch.specs.declared.control.How.{How}
use Rattle.exec_switch.specs.declared.control.Control.{Control}
use Rattle.exec_switch.specs.declared.answer.Answer.{Answer}
use Rattle.exec_switch.specs.declared.answer.Refusal.{Refusal}
use Rattle.step_read.specs.declared.Shown.{Shown}
use Rattle.boundary_numbers.specs.declared.Numbers.{Numbers}

-- an accepted event's word, and its values, counted, with 0 behind them
abbrev pub said : ℕ → List ℕ → Numbers
said w vs = record { refusal = 0; word = w; count = length vs; values = vs ++ drop (length vs) (0 ∷ 0 ∷ 0 ∷ 0 ∷ 0 ∷ 0 ∷ []) }

-- one value more
abbrev pub and_value : Numbers → ℕ → Numbers
and_value x v = record { refusal = x.refusal; word = x.word; count = x.count + 1; values = set x.values x.count v }

-- a refusal
abbrev pub refused_as : Refusal → Numbers
refused_as r = record { refusal = refusal_number r; word = 9; count = 1; values = refusal_number r ∷ 0 ∷ 0 ∷ 0 ∷ 0 ∷ 0 ∷ [] }

-- a task that goes on
abbrev pub how_said : ℕ → How → Numbers
how_said t (How.Start c f) = said 3 (t ∷ 0 ∷ c.0 ∷ f ∷ [])
how_said t (How.Value v) = said 3 (t ∷ 1 ∷ (value_words v).0 ∷ (value_words v).1 ∷ [])
how_said t (How.Raised e) = said 3 (t ∷ 2 ∷ (error_words e).0 ∷ (error_words e).1 ∷ [])
how_said t (How.Inline c) = said 3 (t ∷ 3 ∷ c.0 ∷ [])

-- who has control; m calls are pending
abbrev pub control_said : Control → ℕ → Numbers
control_said (Control.Runs t h) m = how_said t.0 h
control_said Control.Waits m = said 4 (m ∷ [])

-- an answer
abbrev pub answer_said : Answer → ℕ → Numbers
answer_said (Answer.Made o) m = said 1 (o.0 ∷ [])
answer_said (Answer.Called n) m = said 2 (n.0 ∷ [])
answer_said (Answer.Switched c) m = control_said c m
answer_said (Answer.Awaited c n) m = and_value (control_said c m) n
answer_said Answer.Done m = said 5 []
answer_said (Answer.Cancelled n) m = said 5 (n ∷ [])
answer_said Answer.Stalled m = said 6 []
answer_said (Answer.Finished v) m = said 7 (0 ∷ (value_words v).0 ∷ (value_words v).1 ∷ [])
answer_said (Answer.FinishedError e) m = said 7 (1 ∷ (error_words e).0 ∷ (error_words e).1 ∷ [])
answer_said (Answer.Eager b) m = said 8 (yes_no b ∷ [])
answer_said (Answer.Refused r) m = refused_as r

-- what an object shows
abbrev pub shown_said : Shown → Numbers
shown_said (Shown.Coroutine x f) = said 10 (0 ∷ coroutine_number x ∷ f ∷ [])
shown_said Shown.ExternalPending = said 10 (1 ∷ 0 ∷ [])
shown_said (Shown.ExternalResolved v) = said 10 (1 ∷ 1 ∷ (value_words v).0 ∷ (value_words v).1 ∷ [])
shown_said (Shown.ExternalFailed e) = said 10 (1 ∷ 2 ∷ (error_words e).0 ∷ (error_words e).1 ∷ [])
shown_said Shown.GatherPending = said 10 (2 ∷ 0 ∷ [])
shown_said (Shown.GatherAwaited i n m) = said 10 (2 ∷ 1 ∷ n ∷ [])
shown_said (Shown.GatherCompleted i n) = said 10 (2 ∷ 2 ∷ n ∷ [])
shown_said (Shown.GatherFailed e) = said 10 (2 ∷ 3 ∷ (error_words e).0 ∷ (error_words e).1 ∷ [])
shown_said Shown.Nothing = said 10 []
