-- What the laws of proofs/UnusedRows.antt state.
use Rattle.std.specs.Prelude.{◌≡◌, get_or}
use Prim.Native.Nat.{ℕ, ◌*◌, ◌≤◌}
use Rattle.asyncio.specs.Limits.{task_width}
use Rattle.machine.specs.Store.{Store, header}
use Rattle.machine_laws.specs.Views.{Sized}

-- The words from the next task's row on are 0, and the next number is at least m.
pub record Unused (m : ℕ) (s : Store) : Type 0 where
  pub sized : Sized s
  pub least : m ≤ (header s).next
  pub clear : (i : ℕ) → (header s).next * task_width ≤ i → get_or s.tasks i 0 ≡ 0
