-- What the laws of proofs/WidthLaws.antt state.
use Rattle.std.specs.Prelude.{ℕ, ◌≤◌}
use Rattle.machine.specs.Store.{Store, header}
use Rattle.machine.specs.Sound.{sound}
use Rattle.machine_theorems.specs.Soundness.Stores.{SoundStore}

-- memory of its lengths, sound, with at most n calls handed out
pub record SoundAt (n : ℕ) (s : Store) : Type 0 where
  pub store : SoundStore s
  pub within : (header s).calls ≤ n
