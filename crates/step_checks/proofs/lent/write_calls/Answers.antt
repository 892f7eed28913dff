use mathlib.Core.Path.{sym, ◌∙◌}
use Rattle.step_checks.specs.LentLaws.{wait_written, none_written}
use Rattle.step_checks.proofs.lent.write_calls.Goals as goal

pub returns-then-is_wait : goal.returns-then-is_wait
returns-then-is_wait c = let w = wait_written c.args.objects.now c.args.answer (sym c.is_wait.ensures ∙ c.if-is_wait.true) c.args.calls.now in (c.pending_call_ids.ensures.0 ∙ sym w.0, c.pending_call_ids.ensures.1 ∙ sym w.1)

pub returns-else-is_wait : goal.returns-else-is_wait
returns-else-is_wait c = let w = none_written c.args.objects.now c.args.answer (sym c.is_wait.ensures ∙ c.if-is_wait.false) c.args.calls.now in (sym w.0, sym w.1)
