use Rattle.drive_window.specs.InputLaws.{read_behind}
use Rattle.drive.proofs.refill.Goals as goal

pub returns : goal.returns
returns c = read_behind _ _ c.read_full-got.new.buf _ _ _ _ c.requires.from_le_filled c.requires.filled_in_bounds c.move_up.ensures c.read_full-got.ensures
