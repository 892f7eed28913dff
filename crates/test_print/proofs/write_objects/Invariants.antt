use Rattle.std.specs.Prelude.{◌*◌}
use Rattle.drive_text.specs.Writing.{PutsBetween}
use Rattle.test_print.specs.Printing.{object_text, rows_text}
use Rattle.test_print.proofs.write_objects.Given as goal

abbrev pub invariant-loop-o : goal.invariant-loop-o
invariant-loop-o l = PutsBetween (175 * l.o) l.initial.out l.out (rows_text (object_text l.objects) l.o)
