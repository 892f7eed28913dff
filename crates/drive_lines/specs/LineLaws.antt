-- The ways through the writers of lines, in the shape of what the code knows there.
use Rattle.std.specs.Prelude.{List, ◌++◌, ℕ, ◌+◌, ◌*◌, length}
use Rattle.machine.specs.Events.{waits}
use Rattle.machine.specs.Machine as machine
use Rattle.drive_text.specs.Out.{Out, Wrote}
use Rattle.drive_text.specs.OutLaws.{then}
use Rattle.drive_text.specs.Text.{word, newline, decimal, field, fields}
use Rattle.drive_lines.specs.Lines.{control_text, answer_text, line}

pub wait_wrote : (cs : List ℕ) {x y z : Out} → Wrote 27 x y (word "waits" ++ field (length cs)) → Wrote (21 * length cs) y z (fields cs)
    → Wrote (27 + 21 * length cs) x z (control_text (waits cs))
unfolding control_text
wait_wrote cs v w = then v w

pub line_wrote : {k : ℕ} {x y z u : Out} (n : ℕ) (a : machine.Answer) → Wrote 20 x y (decimal n) → Wrote k y z (answer_text a) → Wrote 1 z u newline
    → Wrote (20 + (k + 1)) x u (line n a)
unfolding line
line_wrote n a v w e = then v (then w e)
