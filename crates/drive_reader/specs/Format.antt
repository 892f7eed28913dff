-- The records of document 01's driver, as bytes (its section "The driver"). Numbers are little-endian.
use Rattle.std.specs.Prelude.{Option, None, Some}
use Rattle.std.specs.Prelude.{ℕ, ◌+◌, ◌-◌, ◌*◌, min, List, eqb, leb, ltb, length}
use Rattle.asyncio.specs.Numbers.{heap_id}
use Rattle.asyncio.specs.States.{pick}
use Rattle.asyncio.specs.declared.Value.{Value}
use Rattle.asyncio.specs.Options.{OptionValue}
use Rattle.endian.specs.Endian.{le1, le2, le4, le8}
use Rattle.drive_reader.specs.declared.Record.{Record}
use Rattle.drive_reader.specs.Parsed.{Parsed, at_end, no_record, a_record}

-- the mark hex C3 59 as a number of two bytes: hex 59C3
abbrev pub mark : ℕ
mark = 22979

-- how many bytes there are from a place on
abbrev pub left : List ℕ → ℕ → ℕ
left s at = length s - at

-- ---- values: a tag byte, 0 plain or 1 list, and 8 bytes

-- The list of a number of 8 bytes. An object's number is stored in 16 bits, and nothing is cut to its stored width: a number that does not
-- fit is read as 65,535. There are 256 objects, so that no gather has this number either.
abbrev pub list_value : ℕ → Value
list_value n = Value.List (heap_id (min n 65535))

-- the value at a place; none if its tag is above 1
unfoldable pub value_at : List ℕ → ℕ → OptionValue
value_at s at =
    pick (eqb (le1 s at) 0) (Some (Value.Plain (le8 s (at + 1))))
    (pick (eqb (le1 s at) 1) (Some (list_value (le8 s (at + 1)))) None)

-- the record that a value makes; none without a value
abbrev pub with_value : (Value → Record) → OptionValue → Option Record
with_value f None = None
with_value f (Some v) = Some (f v)

-- ---- records: the mark in bytes 0 and 1, the kind in byte 2, and what the kind has from byte 3 on

-- How many bytes a record of a kind has, the mark and the kind byte included; 0 for a kind that there is not. n is byte 3: in a gather
-- and in results it is the count.
unfoldable pub size : ℕ → ℕ → ℕ
size kind n =
    pick (eqb kind 1) (3 + 4)
    (pick (eqb kind 2) 3
    (pick (eqb kind 3) (3 + 4 + 1 + 9)
    (pick (eqb kind 4) (3 + 9)
    (pick (eqb kind 5) (3 + 1 + n * 2)
    (pick (eqb kind 6) (3 + 2)
    (pick (eqb kind 7) (3 + 9)
    (pick (eqb kind 8) (3 + 4)
    (pick (eqb kind 9) (3 + 1 + n * (4 + 1 + 9))
    (pick (eqb kind 10) 3
    (pick (eqb kind 11) (3 + 2)
    (pick (eqb kind 12) (3 + 2)
    (pick (eqb kind 13) 3 0))))))))))))

-- pending: the call; at flag 0 no stored value, and the value's bytes are not looked at; at flag 1 the value; no other flag
unfoldable pub pending_at : List ℕ → ℕ → Option Record
pending_at s at =
    let call = le4 s (at + 3) in
    let flag = le1 s (at + 7) in
    pick (eqb flag 0) (Some (Record.Pending call None))
    (pick (eqb flag 1) (with_value (λ (v : Value). Record.Pending call (Some v)) (value_at s (at + 8))) None)

-- What a record of a kind says, if all its bytes are there; none for a kind that there is not, a flag or a tag above 1. What a result
-- holds is not looked at.
unfoldable pub contents : List ℕ → ℕ → ℕ → Option Record
contents s at kind =
    pick (eqb kind 1) (Some (Record.Coroutine (le4 s (at + 3))))
    (pick (eqb kind 2) (Some Record.Call)
    (pick (eqb kind 3) (pending_at s at)
    (pick (eqb kind 4) (with_value Record.Settled (value_at s (at + 3)))
    (pick (eqb kind 5) (Some (Record.Gather (at + 4) (le1 s (at + 3))))
    (pick (eqb kind 6) (Some (Record.Await (le2 s (at + 3))))
    (pick (eqb kind 7) (with_value Record.Complete (value_at s (at + 3)))
    (pick (eqb kind 8) (Some (Record.Fail (le4 s (at + 3))))
    (pick (eqb kind 9) (Some (Record.Results (at + 4) (le1 s (at + 3))))
    (pick (eqb kind 10) (Some Record.Resume)
    (pick (eqb kind 11) (Some (Record.Cancel (le2 s (at + 3))))
    (pick (eqb kind 12) (Some (Record.Show (le2 s (at + 3))))
    (pick (eqb kind 13) (Some Record.Eager) None))))))))))))

-- a record and the place behind it; refused without a record
abbrev pub found : Option Record → ℕ → Parsed
found None next = no_record
found (Some r) next = a_record r next

-- the record of a kind: refused unless all its bytes are there
unfoldable pub parse_kind : List ℕ → ℕ → ℕ → Parsed
parse_kind s at kind =
    let n = size kind (le1 s (at + 3)) in
    pick (leb n (left s at)) (found (contents s at kind) (at + n)) no_record

-- The record at a place: the end if no byte is left; refused without mark and kind byte, or with another mark.
unfoldable pub parse : List ℕ → ℕ → Parsed
parse s at =
    pick (eqb (left s at) 0) at_end
    (pick (ltb (left s at) 3) no_record
    (pick (eqb (le2 s at) mark) (parse_kind s at (le1 s (at + 2))) no_record))
