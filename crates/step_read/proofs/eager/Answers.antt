use mathlib.Core.Path.{◌∙◌}
use Rattle.machine.specs.Store.{store_of}
use Rattle.machine.specs.Machine.{Event}
use Rattle.step_read.specs.ReadLaws.{read_done, eager_passes, eager-gives}
use Rattle.step_read.proofs.eager.Goals as goal

pub returns : goal.returns
returns c = λ ts ps l. eager-gives (store_of ts c.args.objects.now ps c.args.queue.now l) (c.can_await_eagerly.ensures ts ps l) ∙ read_done (store_of ts c.args.objects.now ps c.args.queue.now l) Event.eager (eager_passes _)
