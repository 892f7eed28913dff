use mathlib.Core.Path.{sym, ◌∙◌}
use Rattle.sound_tasks.specs.CallLaws.{call-pending, call-none}
use Rattle.sound_tasks.proofs.calls.pending_call.Goals as goal

pub returns-then-is_pending_external : goal.returns-then-is_pending_external
returns-then-is_pending_external c = call-pending _ _ c.kind_at.ensures (sym c.is_pending_external.ensures ∙ c.if-is_pending_external.true) c.call_at.ensures

pub returns-else-is_pending_external : goal.returns-else-is_pending_external
returns-else-is_pending_external c = call-none _ _ c.kind_at.ensures (sym c.is_pending_external.ensures ∙ c.if-is_pending_external.false)
