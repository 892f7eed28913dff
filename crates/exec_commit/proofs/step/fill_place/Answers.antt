use Rattle.exec_commit.specs.StepLaws.{place-filled}
use Rattle.exec_commit.proofs.step.fill_place.Goals as goal

pub returns : goal.returns
returns c = λ ts os q l. place-filled ts os c.args.places.now q l c.args.w c.args.i c.args.value c.item_at-item.ensures c.store_place.ensures
