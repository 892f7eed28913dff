use Rattle.exec_fill.specs.StepLaws.{fail-idle, fails}
use Rattle.exec_fill.proofs.gather.fail.Goals as goal

pub returns-in_err-w : goal.returns-in_err-w
returns-in_err-w c = λ ts ps q l. rw c.from_residual.ensures (fail-idle ts c.args.objects.now ps q l c.args.g.0 c.as_awaited.ensures c.args.error c.in_err-w.was)

pub returns : goal.returns
returns c = λ ts ps q l. fails ts c.args.objects.now ps q l c.args.g.0 c.as_awaited.ensures c.args.error _ c.in_ok-w.was c.put_gather.ensures
