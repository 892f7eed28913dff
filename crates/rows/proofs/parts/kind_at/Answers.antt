use Rattle.rows.specs.PartLaws.{kind_at}
use Rattle.rows.proofs.parts.kind_at.Goals as goal

pub returns : goal.returns
returns c = rw (kind_at c.args.objects.now c.args.o.0, c.to_kind.ensures, c.object_start.ensures)
