-- Values that are no record.
use Rattle.std.specs.Prelude.{◌≡◌, refl, Option, None, Some, Ok, Err, IsErr}
use Rattle.drive_reader.specs.declared.Record.{Record}
use Rattle.drive_reader.specs.Parsed.{Parsed, no_record}

-- what is no record is none
pub none_else : {o : Option Record} → ((r : Record) → o ≡ Some r → ⊥) → o ≡ None
none_else {o = None} h = refl
none_else {o = Some r} h = absurd (h r refl)

-- an error has one value
pub err_is : {p : Parsed} → IsErr p → p ≡ no_record
err_is {p = Ok f} h = cc
err_is {p = Err e} h = refl
