use mathlib.Core.Path.{refl}
use Rattle.rows.specs.TableLaws.{header_read}
use Rattle.machine.specs.Machine.{refusals}
use Rattle.step_checks.specs.StepLaws.{handed_on, no_turn_logs, runner-fits, complete_unknown, complete-goes}
use Rattle.step_run.proofs.complete.Goals as goal

pub returns-in_err-t : goal.returns-in_err-t
unfolding refusals
returns-in_err-t c = λ l. rw (handed_on _ _ c.from_residual.ensures.1) (no_turn_logs c.args.tasks.now c.args.objects.now c.args.places.now c.args.queue.now l c.running.ensures _ _ refl _ c.in_err-t.was)

pub value_known-requires : goal.value_known-requires
value_known-requires c = (header_read _ c.load_header-header.ensures).made_fits

pub returns-then-not-value_known : goal.returns-then-not-value_known
returns-then-not-value_known c = λ l. complete_unknown c.args.tasks.now c.args.objects.now c.args.places.now c.args.queue.now l c.running.ensures _ c.in_ok-t.was c.args.value c.load_header-header.ensures c.value_known.ensures c.if-not-value_known.true

pub complete-requires : goal.complete-requires
complete-requires c = runner-fits c.args.objects.now c.running.ensures _ c.in_ok-t.was

pub returns : goal.returns
returns c = λ l. complete-goes c.args.tasks.now c.args.objects.now c.args.places.now c.args.queue.now l c.running.ensures _ c.in_ok-t.was c.args.value c.load_header-header.ensures c.value_known.ensures c.if-not-value_known.false c.complete.result (c.complete.ensures l)
