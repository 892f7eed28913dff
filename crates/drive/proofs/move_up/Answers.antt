use Rattle.std.proofs.Common.{arith}
use Rattle.drive_window.specs.InputLaws.{move-one}
use Rattle.drive.proofs.move_up.Goals as goal

pub loop-i-preserved : goal.loop-i-preserved
loop-i-preserved c = move-one c.args.src.now c.loop-i.src c.args.from c.loop-i.i (omega arith) c.loop-i.invariant
