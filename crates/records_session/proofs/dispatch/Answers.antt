use Rattle.step_event.specs.EventOf.{event_of}
use Rattle.records_session.proofs.RecordsLaws.{stepped}
use Rattle.records_session.proofs.dispatch.Goals as goal

pub returns : goal.returns
returns c = stepped (record { tasks = c.args.tasks.now; objects = c.args.objects.now; places = c.args.places.now; queue = c.args.queue }) c.args.calls.now (event_of c.args.items.now c.args.results.now c.args.event) c.dispatch-worked.result.answered.answer c.rows_in_use.ensures.0 c.load-words.ensures c.dispatch-worked.ensures.0 c.save.ensures
