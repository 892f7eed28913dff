use Rattle.rows.specs.PartLaws.{open_at}
use Rattle.rows.proofs.parts.open_at.Goals as goal

pub returns-then-is_awaited : goal.returns-then-is_awaited
returns-then-is_awaited c = rw (open_at c.args.objects.now c.args.o.0, ← c.object_start-at.ensures, ← c.to_kind.ensures, ← c.is_awaited.ensures, c.if-is_awaited.true, c.to_u32.ensures)

pub returns : goal.returns
returns c = rw (open_at c.args.objects.now c.args.o.0, ← c.object_start-at.ensures, ← c.to_kind.ensures, ← c.is_awaited.ensures, c.if-is_awaited.false)
