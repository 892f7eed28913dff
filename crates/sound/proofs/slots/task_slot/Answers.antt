use mathlib.Core.Path.{sym, ap, ◌∙◌}
use mathlib.Core.Bool.{not}
use Rattle.sound_tasks.specs.AwaiterLaws.{task_awaiter_fits}
use Rattle.sound.specs.SlotLaws.{slot_dead, slot_live}
use Rattle.sound.proofs.slots.task_slot.Goals as goal

pub slot_open-requires : goal.slot_open-requires
slot_open-requires c = task_awaiter_fits _ _ c.task_awaiter_at.ensures

pub returns-then-not-is_live : goal.returns-then-not-is_live
returns-then-not-is_live c = ap not c.if-not-is_live.true ∙ slot_dead _ _ _ _ c.state_at.ensures (sym c.is_live.ensures ∙ c.if-not-is_live.true)

pub returns-else-not-is_live : goal.returns-else-not-is_live
returns-else-not-is_live c = slot_live _ _ _ _ c.state_at.ensures (sym c.is_live.ensures ∙ c.if-not-is_live.false) c.coroutine_at.ensures c.task_awaiter_at.ensures c.slot_open.ensures
