use Rattle.std.specs.Prelude.{◌*◌}
use Rattle.drive_text.specs.Writing.{PutsBetween}
use Rattle.test_print.specs.Printing.{entry_text, rows_text}
use Rattle.test_print.proofs.put_entries.Given as goal

abbrev pub invariant-loop-t : goal.invariant-loop-t
invariant-loop-t l = PutsBetween (21 * l.t-index) l.initial.out l.out (rows_text (entry_text l.queue) l.t-index)
