use mathlib.Core.Path.{sym, ◌∙◌}
use Rattle.sound_rows.specs.NumberLaws.{live-apart, live_ranged}
use Rattle.sound_rows.proofs.numbers.task_in_range.Goals as goal

pub returns-then-slot_in_range : goal.returns-then-slot_in_range
returns-then-slot_in_range c = live_ranged _ _ _ _ c.state_at-state.ensures (sym c.is_main.ensures ∙ c.if-is_main.false) (sym c.is_live.ensures ∙ c.if-not-is_live.false) c.task_awaiter_at-awaiter.ensures (sym c.if-slot_in_range.true ∙ c.slot_in_range.ensures) c.coroutine_at-coroutine.ensures c.coroutine_made.ensures

pub returns-else-slot_in_range : goal.returns-else-slot_in_range
returns-else-slot_in_range c = c.if-slot_in_range.false ∙ live-apart _ _ _ _ c.state_at-state.ensures (sym c.is_main.ensures ∙ c.if-is_main.false) (sym c.is_live.ensures ∙ c.if-not-is_live.false) c.task_awaiter_at-awaiter.ensures (sym c.if-slot_in_range.false ∙ c.slot_in_range.ensures)
