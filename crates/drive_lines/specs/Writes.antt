-- What the writers of an answer and of its line say. A wait's calls are handed over; with n of them a line has at most 123 + 21 n bytes.
use Rattle.std.specs.Prelude.{List, ℕ, ◌+◌, ◌*◌, length}
use denote.Triple.Both.{Both}
use denote.MutBor.{MutBor}
use Rattle.exec_switch.specs.Answer.{answer_with}
use Rattle.exec_switch.specs.declared.answer.Answer.{Answer}
use Rattle.drive_text.specs.declared.Writer.{Writer}
use Rattle.drive_text.specs.Writing.{Puts}
use Rattle.drive_lines.specs.Lines.{answer_text, line}

-- a lent writer
abbrev pub LentWriter : Type 0
LentWriter = Both (MutBor Writer) (MutBor Writer)

-- the answer's word and fields
abbrev pub PutsAnswer : LentWriter → List ℕ → Answer → Type 0
PutsAnswer out calls a = Puts (102 + 21 * length calls) out (answer_text (answer_with calls a))

-- the whole line
abbrev pub PutsLine : LentWriter → ℕ → List ℕ → Answer → Type 0
PutsLine out number calls a = Puts (123 + 21 * length calls) out (line number (answer_with calls a))
