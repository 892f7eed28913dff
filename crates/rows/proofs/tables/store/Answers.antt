use Rattle.rows.proofs.RangeRows.{range-put}
use Rattle.rows.proofs.tables.store.Goals as goal

pub returns : goal.returns
returns c = rw (c.copy_from_slice.ensures.after) (range-put c.args.w.now c.args.at c.args.row.now c.requires)
