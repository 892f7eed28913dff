use Rattle.machine.specs.Machine.{Event}
use Rattle.records_session.proofs.RecordsLaws.{reads}
use Rattle.records_session.proofs.show.Goals as goal

pub returns : goal.returns
returns c = reads (record { tasks = c.args.tasks.now; objects = c.args.objects.now; places = c.args.places.now; queue = c.args.queue }) (Event.show c.args.o) c.rows_in_use.ensures.0 c.load-words.ensures c.show.ensures
