-- A part of the input, held at a time: how much of it is enough, and its places.
use Rattle.std.specs.Prelude.{None, Some, Ok, Err}
use Rattle.std.specs.Prelude.{ℕ, ◌+◌}
use Rattle.drive_reader.specs.declared.Record.{Record}
use Rattle.drive_reader.specs.Parsed.{Parsed, at_end, no_record, a_record}

-- the most bytes that a record has: results, 255 of them
abbrev pub record_limit : ℕ
record_limit = 3574

-- a record whose places are counted from k bytes further in front
unfoldable pub move_record : ℕ → Record → Record
move_record k (Record.Coroutine f) = Record.Coroutine f
move_record k Record.Call = Record.Call
move_record k (Record.Pending c x) = Record.Pending c x
move_record k (Record.Settled v) = Record.Settled v
move_record k (Record.Gather first count) = Record.Gather (k + first) count
move_record k (Record.Await o) = Record.Await o
move_record k (Record.Complete v) = Record.Complete v
move_record k (Record.Fail n) = Record.Fail n
move_record k (Record.Results first count) = Record.Results (k + first) count
move_record k Record.Resume = Record.Resume
move_record k (Record.Cancel t) = Record.Cancel t
move_record k (Record.Show o) = Record.Show o
move_record k Record.Eager = Record.Eager

-- the same of an answer
unfoldable pub move : ℕ → Parsed → Parsed
move k (Ok None) = at_end
move k (Ok (Some f)) = a_record (move_record k f.what) (k + f.next)
move k (Err e) = no_record
