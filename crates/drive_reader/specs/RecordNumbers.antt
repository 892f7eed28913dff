-- What document 01 calls each answer of the reader: its number in the table of refusals (0: none), and of a record its kind and what stands
-- in it, in the record's order.
use Rattle.std.specs.Prelude.{None, Some, Ok, Err}
use Rattle.std.specs.Prelude.{◌≡◌, ℕ, List, [], ◌∷◌}
use Rattle.std.proofs.Common.{ap}
use Rattle.asyncio.specs.Layout.{value_numbers}
use Rattle.drive_reader.specs.declared.Record.{Record}
use Rattle.drive_reader.specs.Parsed.{Parsed}
use Rattle.drive_reader.specs.Format.{parse}

-- refusal 11: "wrong mark, unknown kind, short record, flag or, outside results, tag above 1"
unfoldable pub parse_refusal : Parsed → ℕ
parse_refusal (Ok p) = 0
parse_refusal (Err e) = 11

unfoldable pub record_kind : Record → ℕ
record_kind (Record.Coroutine f) = 1
record_kind Record.Call = 2
record_kind (Record.Pending c x) = 3
record_kind (Record.Settled v) = 4
record_kind (Record.Gather first count) = 5
record_kind (Record.Await o) = 6
record_kind (Record.Complete v) = 7
record_kind (Record.Fail n) = 8
record_kind (Record.Results first count) = 9
record_kind Record.Resume = 10
record_kind (Record.Cancel t) = 11
record_kind (Record.Show o) = 12
record_kind Record.Eager = 13

-- of a gather and of results: the count, and the place of the first item or result
unfoldable pub record_numbers : Record → List ℕ
record_numbers (Record.Coroutine f) = f ∷ []
record_numbers Record.Call = []
record_numbers (Record.Pending c None) = c ∷ 0 ∷ []
record_numbers (Record.Pending c (Some v)) = c ∷ 1 ∷ value_numbers v
record_numbers (Record.Settled v) = value_numbers v
record_numbers (Record.Gather first count) = count ∷ first ∷ []
record_numbers (Record.Await o) = o ∷ []
record_numbers (Record.Complete v) = value_numbers v
record_numbers (Record.Fail n) = n ∷ []
record_numbers (Record.Results first count) = count ∷ first ∷ []
record_numbers Record.Resume = []
record_numbers (Record.Cancel t) = t ∷ []
record_numbers (Record.Show o) = o ∷ []
record_numbers Record.Eager = []

-- What the reader answers, and document 01's numbers for it.
pub record ParsedAs : Type 0 where
  pub parsed : Parsed
  pub refusal : ℕ
  pub kind : ℕ
  pub values : List ℕ

-- by what was read: of a record its kind and its values
unfoldable pub parsed_kind : Parsed → ℕ
parsed_kind (Ok None) = 0
parsed_kind (Ok (Some f)) = record_kind f.what
parsed_kind (Err e) = 0

unfoldable pub parsed_values : Parsed → List ℕ
parsed_values (Ok None) = []
parsed_values (Ok (Some f)) = record_numbers f.what
parsed_values (Err e) = []

-- an answer of the reader as its caller gets it
abbrev pub parsed_as : Parsed → ParsedAs
parsed_as p = record { parsed = p; refusal = parse_refusal p; kind = parsed_kind p; values = parsed_values p }

-- The call reads the record at a place of lent bytes: its answer, with document 01's numbers, is that of `parse`.
abbrev pub Parses : List ℕ → ℕ → Parsed → Type 0
Parses src at r = parsed_as r ≡ parsed_as (parse src at)

-- so it is what `parse` reads
pub parsed_is : {p q : Parsed} → parsed_as p ≡ parsed_as q → p ≡ q
parsed_is e = ap (λ (x : ParsedAs). x.parsed) e
