use Rattle.std.specs.Prelude.{◌*◌}
use Rattle.drive_text.specs.Writing.{PutsBetween}
use Rattle.test_print.specs.Printing.{task_text, rows_text}
use Rattle.test_print.proofs.write_tasks.Given as goal

abbrev pub invariant-loop-t : goal.invariant-loop-t
invariant-loop-t l = PutsBetween (173 * l.t) l.initial.out l.out (rows_text (task_text l.tasks) l.t)
