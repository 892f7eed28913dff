-- What the reader answers: a record and the place behind it, the end of the bytes, or that no record stands there.
use Rattle.std.specs.Prelude.{ℕ, Option, None, Some, Result, Ok, Err}
use Rattle.drive_reader.specs.declared.Record.{Record}
use Rattle.drive_reader.specs.declared.Found.{Found}
use Rattle.drive_reader.specs.declared.NoRecord.{NoRecord}

abbrev pub Parsed : Type 0
Parsed = Result (Option Found) NoRecord

-- no byte is left
abbrev pub at_end : Parsed
at_end = Ok None

-- no record of document 01 (its refusal 11)
abbrev pub no_record : Parsed
no_record = Err (record {})

-- a record, and the place behind it
abbrev pub a_record : Record → ℕ → Parsed
a_record r next = Ok (Some (record { what = r; next = next }))
