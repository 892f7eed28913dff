-- Document 01's driver: the whole input to the whole output.
use Rattle.std.specs.Prelude.{ℕ, zero, suc, ◌+◌, ◌-◌, List, [], ◌++◌, length, replicate}
use Rattle.asyncio.specs.Limits.{object_limit}
use Rattle.asyncio.specs.States.{pick}
use Rattle.machine.specs.Store.{Store, fresh}
use Rattle.drive_answer.specs.Driver.{Drives, drive_one}

-- At most k records from a place on, and their lines; none where the driver stops, at the end of the input and after an 11.
unfoldable pub drive_from : ℕ → Store → List ℕ → List ℕ → ℕ → ℕ → List ℕ
drive_from zero s l src from number = []
drive_from (suc k) s l src from number =
    let x : Drives = drive_one s l src from number in
    x.text ++ pick x.going (drive_from k x.store x.list src x.next (number + 1)) []

-- All records from a place on: no more than there are bytes, and the end (`drives_on`: the number of records allowed never stops it).
unfoldable pub drive_rest : Store → List ℕ → List ℕ → ℕ → ℕ → List ℕ
drive_rest s l src from number = drive_from (suc (length src - from)) s l src from number

-- A fresh session, a call list of the least length that every wait has room in, and the records from number 1 on.
unfoldable pub drive : List ℕ → List ℕ
drive src = drive_rest fresh (replicate object_limit 0) src 0 1

-- The same, its next place counted from k bytes further in front. (A program that holds a part of the input counts from the part's start.)
unfoldable pub moved : ℕ → Drives → Drives
moved k x = record { store = x.store; list = x.list; text = x.text; next = k + x.next; going = x.going }
