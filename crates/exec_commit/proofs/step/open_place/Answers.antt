use Rattle.exec_commit.specs.StepLaws.{place_opened}
use Rattle.exec_commit.proofs.step.open_place.Goals as goal

pub returns : goal.returns
returns c = λ ts ps q l. place_opened ts c.args.objects.now ps q l c.args.w c.args.i c.args.g.0 c.requires.1 c.put_gather.ensures
