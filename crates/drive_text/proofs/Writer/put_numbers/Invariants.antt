use Rattle.std.specs.Prelude.{take, ◌*◌}
use Rattle.drive_text.specs.Writing.{PutsBetween}
use Rattle.drive_text.specs.Text.{fields}
use Rattle.drive_text.proofs.Writer.put_numbers.Given as goal

abbrev pub invariant-loop-n : goal.invariant-loop-n
invariant-loop-n l = PutsBetween (21 * l.n-index) l.initial.self l.self (fields (take l.n-index l.numbers))
