use mathlib.Core.Path.{refl}
use Rattle.machine.specs.Sound.{is_ended}
use Rattle.scheduler.specs.EndLaws.{eager_asks, eager-ended, eager-not}
use Rattle.scheduler.proofs.Cases.{not_ended}
use Rattle.scheduler.proofs.cleanup.can_await_eagerly.Goals as goal

pub returns-then-queue-ne0 : goal.returns-then-queue-ne0
returns-then-queue-ne0 c = λ ts ps l. eager-not ts c.args.objects.now ps c.args.queue.now l c.if-queue-ne0.true

pub returns-in-Ended : goal.returns-in-Ended
unfolding is_ended
returns-in-Ended c = λ ts ps l. eager-ended ts c.args.objects.now ps c.args.queue.now l c.load_header.ensures _ c.in-Ended.is refl c.if-queue-ne0.false

pub returns-in_default : goal.returns-in_default
returns-in_default c = λ ts ps l. eager_asks ts c.args.objects.now ps c.args.queue.now l c.load_header.ensures _ refl (not_ended _ c.in_default.not-Ended) c.if-queue-ne0.false c.no_call_pending.ensures
