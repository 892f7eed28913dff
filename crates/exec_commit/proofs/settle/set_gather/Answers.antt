use Rattle.exec_commit.specs.SettleLaws.{gather-set}
use Rattle.exec_commit.proofs.settle.set_gather.Goals as goal

pub returns : goal.returns
returns c = λ ts ps q l. gather-set ts c.args.objects.now ps q l c.args.g.0 c.args.state c.load_object.ensures c.with_state-changed.ensures c.store_object.ensures
