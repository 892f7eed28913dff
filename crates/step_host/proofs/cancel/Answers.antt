use mathlib.Core.Path.{refl}
use mathlib.Core.List.{[]}
use native.Mathlib.Omega.{arith}
use Rattle.machine.specs.Machine.{refusals}
use Rattle.step_checks.specs.StepLaws.{handed_on, host_has, no_wait_logs, cancel_dead, cancel_main, cancel-goes, cancel_not_longer, cancel_lost_fits, live-fits}
use Rattle.step_host.proofs.cancel.Goals as goal

pub returns-in_err-waiting : goal.returns-in_err-waiting
unfolding refusals
returns-in_err-waiting c = λ l. rw (handed_on _ _ c.from_residual.ensures.1) (no_wait_logs c.args.tasks.now c.args.objects.now c.args.places.now c.args.queue.now l c.waiting.ensures _ _ refl _ c.in_err-waiting.was)

pub returns-then-not_live : goal.returns-then-not_live
returns-then-not_live c = λ l. cancel_dead c.args.tasks.now c.args.objects.now c.args.places.now c.args.queue.now l refl c.args.t (host_has c.args.tasks.now c.args.objects.now c.args.places.now c.args.queue.now l c.waiting.ensures c.in_ok-waiting.was) (c.not_live.ensures c.args.places.now c.args.queue.now l) c.if-not_live.true

pub returns-then-t-eq0 : goal.returns-then-t-eq0
returns-then-t-eq0 c = λ l. cancel_main c.args.tasks.now c.args.objects.now c.args.places.now c.args.queue.now l refl c.args.t (host_has c.args.tasks.now c.args.objects.now c.args.places.now c.args.queue.now l c.waiting.ensures c.in_ok-waiting.was) (c.not_live.ensures c.args.places.now c.args.queue.now l) c.if-not_live.false c.if-t-eq0.true

pub cancel_task-requires : goal.cancel_task-requires
cancel_task-requires c = rw c.new.ensures (live-fits c.args.tasks.now c.args.objects.now c.args.places.now c.args.queue.now [] c.args.t (c.not_live.ensures c.args.places.now c.args.queue.now []) c.if-not_live.false)

pub overflow_sub-result : goal.overflow_sub-result
overflow_sub-result c = let a = c.args in cancel_not_longer a.tasks.now a.objects.now a.places.now a.queue.now [] a.t (rw c.new.ensures at (c.cancel_task.ensures []))

pub overflow_cast-result : goal.overflow_cast-result
overflow_cast-result c = let a = c.args in omega (arith, cancel_lost_fits a.tasks.now a.objects.now a.places.now a.queue.now [] a.t (rw c.new.ensures at (c.cancel_task.ensures [])))

pub returns : goal.returns
returns c = λ l. cancel-goes c.args.tasks.now c.args.objects.now c.args.places.now c.args.queue.now l refl c.args.t (host_has c.args.tasks.now c.args.objects.now c.args.places.now c.args.queue.now l c.waiting.ensures c.in_ok-waiting.was) (c.not_live.ensures c.args.places.now c.args.queue.now l) c.if-not_live.false c.if-t-eq0.false (rw c.new.ensures at (c.cancel_task.ensures l)) refl
