use Rattle.rows.specs.PartLaws.{count_at}
use Rattle.rows.proofs.parts.count_at.Goals as goal

pub returns-then-is_gather : goal.returns-then-is_gather
returns-then-is_gather c = rw (count_at c.args.objects.now c.args.o.0, ← c.object_start-at.ensures, ← c.to_kind.ensures, ← c.is_gather.ensures, c.if-is_gather.true, c.to_count.ensures, c.to_first.ensures)

pub returns : goal.returns
returns c = rw (count_at c.args.objects.now c.args.o.0, ← c.object_start-at.ensures, ← c.to_kind.ensures, ← c.is_gather.ensures, c.if-is_gather.false)
