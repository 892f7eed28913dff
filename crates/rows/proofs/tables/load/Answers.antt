use mathlib.Core.Path.{◌∙◌}
use Rattle.rows.proofs.RangeRows.{range-row}
use Rattle.rows.proofs.tables.load.Goals as goal

pub returns : goal.returns
returns g c = c.copy_from_slice.ensures.after ∙ range-row c.args.w.now c.args.at g.row.N c.requires
