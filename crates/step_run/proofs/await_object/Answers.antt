use mathlib.Core.Path.{refl}
use native.Mathlib.Omega.{arith}
use Rattle.rows.specs.TableLaws.{header_read}
use Rattle.machine.specs.Machine.{refusals}
use Rattle.step_checks.specs.StepLaws.{handed_on, no_turn_logs, runner-fits, await-unmade, await-goes}
use Rattle.step_run.proofs.await_object.Goals as goal

pub returns-in_err-t : goal.returns-in_err-t
unfolding refusals
returns-in_err-t c = λ l. rw (handed_on _ _ c.from_residual.ensures.1) (no_turn_logs c.args.tasks.now c.args.objects.now c.args.places.now c.args.queue.now l c.running.ensures _ _ refl _ c.in_err-t.was)

pub returns-then-header-o : goal.returns-then-header-o
returns-then-header-o c = λ l. await-unmade c.args.tasks.now c.args.objects.now c.args.places.now c.args.queue.now l c.running.ensures _ c.in_ok-t.was c.args.o c.load_header-header.ensures c.if-header-o.true

pub exec_get_awaitable-a-requires : goal.exec_get_awaitable-a-requires
exec_get_awaitable-a-requires c = (runner-fits c.args.objects.now c.running.ensures _ c.in_ok-t.was, rw c.new.ensures (omega (arith, c.if-header-o.false, (header_read _ c.load_header-header.ensures).made_fits)))

pub returns : goal.returns
returns c = λ l. await-goes c.args.tasks.now c.args.objects.now c.args.places.now c.args.queue.now l c.running.ensures _ c.in_ok-t.was c.args.o c.load_header-header.ensures c.if-header-o.false c.exec_get_awaitable-a.result.control c.exec_get_awaitable-a.result.steps (rw c.new.ensures at (c.exec_get_awaitable-a.ensures l))
