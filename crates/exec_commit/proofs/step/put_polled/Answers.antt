use Rattle.exec_commit.specs.Steps.{stopped, stepped}
use Rattle.exec_commit.specs.StepLaws.{put-ready, put-raised, put_pending}
use Rattle.exec_commit.proofs.step.put_polled.Goals as goal

pub returns-in-Ready : goal.returns-in-Ready
unfolding stepped
returns-in-Ready c = λ ts q l go. put-ready ts c.args.objects.now c.args.places.now q l c.args.w c.args.i c.args.g.0 go _ c.in-Ready.is (c.fill_place.ensures ts c.args.objects.now q l)

pub returns-in-Raised : goal.returns-in-Raised
unfolding stepped stopped
returns-in-Raised c = λ ts q l go. put-raised ts c.args.objects.now c.args.places.now q l c.args.w c.args.i c.args.g.0 go _ c.in-Raised.is

pub returns-in-Pending : goal.returns-in-Pending
unfolding stepped
returns-in-Pending c = λ ts q l go. put_pending ts c.args.objects.now c.args.places.now q l c.args.w c.args.i c.args.g.0 go c.in-Pending.is (c.open_place.ensures ts c.args.places.now q l)
