use Rattle.exec_switch.specs.ControlLaws.{yields}
use Rattle.exec_switch.proofs.control.yield_control.Goals as goal

pub returns : goal.returns
returns c = λ ts ps q l. yields ts c.args.objects.now ps q l c.told-objects c.set_moment.ensures
