use Rattle.rows.specs.PartLaws.{awaiter_at}
use Rattle.rows.proofs.parts.awaiter_at.Goals as goal

pub returns-then-has_awaiter : goal.returns-then-has_awaiter
returns-then-has_awaiter c = rw (awaiter_at c.args.objects.now c.args.o.0, ← c.object_start-at.ensures, ← c.to_kind.ensures, ← c.has_awaiter.ensures, c.if-has_awaiter.true, c.to_awaiter.ensures)

pub returns : goal.returns
returns c = rw (awaiter_at c.args.objects.now c.args.o.0, ← c.object_start-at.ensures, ← c.to_kind.ensures, ← c.has_awaiter.ensures, c.if-has_awaiter.false)
