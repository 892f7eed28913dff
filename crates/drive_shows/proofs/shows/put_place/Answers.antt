use Rattle.std.proofs.Common.{arith, eq-eqb, ne_eqb}
use Rattle.machine.specs.Machine.{slot_value}
use Rattle.drive_text.specs.WritingLaws.{puts_at_most}
use Rattle.drive_lines.specs.Lines.{place_text}
use Rattle.drive_shows.proofs.shows.put_place.Goals as goal

pub returns-then-rest-eq0 : goal.returns-then-rest-eq0
returns-then-rest-eq0 c = rw (eq-eqb _ 0 c.if-rest-eq0.true, ← c.result_at.ensures) c.put_result.ensures

pub returns : goal.returns
unfolding slot_value place_text
returns c = rw (ne_eqb _ 0 c.if-rest-eq0.false) (puts_at_most (omega arith) c.put_text.ensures)
