use native.Mathlib.Nat.{add-zero}
use Rattle.rows.specs.Tables.{task_at}
use Rattle.rows.proofs.parts.state_at.Goals as goal

pub returns : goal.returns
unfolding task_at
returns c = rw (c.to_state.ensures, add-zero)
