-- The kinds of records, by their byte.
use Rattle.std.specs.Prelude.{◌≡◌, ℕ, ◌<◌, Result, MatchResult}
use Rattle.drive_reader.specs.declared.kind.Kind.{Kind}
use Rattle.drive_reader.specs.declared.NoRecord.{NoRecord}

-- the byte that stands for a kind
abbrev pub kind_number : Kind → ℕ
kind_number Kind.Coroutine = 1
kind_number Kind.Call = 2
kind_number Kind.Pending = 3
kind_number Kind.Settled = 4
kind_number Kind.Gather = 5
kind_number Kind.Await = 6
kind_number Kind.Complete = 7
kind_number Kind.Fail = 8
kind_number Kind.Results = 9
kind_number Kind.Resume = 10
kind_number Kind.Cancel = 11
kind_number Kind.Show = 12
kind_number Kind.Eager = 13

-- The result is the kind of a byte, or an error where no kind has it: 0, and what is above 13.
abbrev pub Decodes : ℕ → Result Kind NoRecord → Type 0
Decodes byte r = MatchResult r (λ kind. kind_number kind ≡ byte) (λ e. 0 < byte → 13 < byte)
