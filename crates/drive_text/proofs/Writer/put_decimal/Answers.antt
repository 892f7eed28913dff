use Rattle.std.specs.Prelude.{refl}
use Rattle.std.proofs.Common.{arith}
use Rattle.drive_text.specs.TextLaws.{written_none, written_one, written_all}
use Rattle.drive_text.specs.WriteLaws.{number_text}
use Rattle.drive_text.specs.WritingLaws.{puts_by}
use Rattle.drive_text.proofs.Writer.put_decimal.Goals as goal

pub loop-rest-init : goal.loop-rest-init
loop-rest-init c = written_none c.args.n (omega arith) refl

pub loop-rest-preserved : goal.loop-rest-preserved
loop-rest-preserved c = written_one c.loop-rest-test.true (omega arith) c.loop-rest.invariant

pub returns : goal.returns
returns c = puts_by (number_text c.args.n (written_all c.loop-rest-test.false c.loop-rest.invariant)) c.put_text.ensures
