use Rattle.records_session.proofs.RecordsLaws.{begins}
use Rattle.records_session.proofs.begin.Goals as goal

pub returns : goal.returns
returns c = begins (record { tasks = c.args.tasks.now; objects = c.args.objects.now; places = c.args.places.now; queue = c.args.queue }) c.begin-begun.result.answered.answer c.begin-begun.ensures.0 c.save.ensures
