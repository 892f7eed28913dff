use Rattle.sound_tasks.specs.AwaiterLaws.{awaiter_fits}
use Rattle.sound.proofs.slots.object_slot.Goals as goal

pub slot_open-requires : goal.slot_open-requires
slot_open-requires c = awaiter_fits _ _ c.awaiter_at.ensures

pub returns : goal.returns
returns c = rw (← c.awaiter_at.ensures) c.slot_open.ensures
