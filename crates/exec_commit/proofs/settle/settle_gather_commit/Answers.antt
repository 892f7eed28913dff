use Rattle.exec_commit.specs.SettleLaws.{settle_none, settle_done, settle_waits}
use Rattle.exec_commit.proofs.NoGather.{not_some}
use Rattle.exec_commit.proofs.settle.settle_gather_commit.Goals as goal

pub returns-in_default : goal.returns-in_default
returns-in_default c = λ ts ps q l. settle_none ts c.args.objects.now ps q l c.args.g.0 c.as_awaited.result c.as_awaited.ensures (not_some _ c.in_default.not-Some)

pub returns-then-w-ne0 : goal.returns-then-w-ne0
returns-then-w-ne0 c = λ ts ps q l. settle_waits ts c.args.objects.now ps q l c.args.g.0 c.as_awaited.result c.as_awaited.ensures _ c.in-Some.is c.if-w-ne0.true

pub returns : goal.returns
returns c = λ ts ps q l. settle_done ts c.args.objects.now ps q l c.args.g.0 c.as_awaited.result c.as_awaited.ensures _ c.in-Some.is c.if-w-ne0.false (c.set_gather.ensures ts ps q l)
