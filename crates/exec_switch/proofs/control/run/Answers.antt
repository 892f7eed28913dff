use Rattle.exec_switch.specs.ControlLaws.{runs_now}
use Rattle.exec_switch.proofs.control.run.Goals as goal

pub returns : goal.returns
returns c = λ ps q l. runs_now c.args.tasks.now c.args.objects.now ps q l c.args.t c.args.how c.set_state.ensures c.set_moment.ensures
