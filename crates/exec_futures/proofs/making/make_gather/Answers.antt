use mathlib.Core.Path.{refl}
use Rattle.exec_futures.specs.MakingLaws.{gathers}
use Rattle.exec_futures.proofs.making.make_gather.Goals as goal

pub returns : goal.returns
returns c = (
  c.add_object.ensures.0,
  λ ts q l. gathers ts c.args.objects.now c.args.places.now q l c.load_header-first.ensures c.args.items.now refl (c.put_items.ensures ts c.args.objects.now q l) (c.add_object.ensures.1 ts _ q l),
)
