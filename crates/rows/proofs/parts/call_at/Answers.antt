use Rattle.rows.specs.PartLaws.{call_at}
use Rattle.rows.proofs.parts.call_at.Goals as goal

pub returns-then-is_external : goal.returns-then-is_external
returns-then-is_external c = rw (call_at c.args.objects.now c.args.o.0, ← c.object_start-at.ensures, ← c.to_kind.ensures, ← c.is_external.ensures, c.if-is_external.true, c.from_word.ensures)

pub returns : goal.returns
returns c = rw (call_at c.args.objects.now c.args.o.0, ← c.object_start-at.ensures, ← c.to_kind.ensures, ← c.is_external.ensures, c.if-is_external.false, c.new.ensures)
