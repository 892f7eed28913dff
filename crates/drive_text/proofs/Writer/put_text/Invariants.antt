use Rattle.std.specs.Prelude.{take}
use Rattle.drive_text.specs.Writing.{PutsBetween}
use Rattle.drive_text.proofs.Writer.put_text.Given as goal

abbrev pub invariant-loop-b : goal.invariant-loop-b
invariant-loop-b l = PutsBetween l.b-index l.initial.self (record { out = l.self.out; at = l.at }) (take l.b-index l.text)
