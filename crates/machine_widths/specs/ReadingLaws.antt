-- What the laws of proofs/ReadingLaws.antt state.
use Rattle.std.specs.Prelude.{◌≡◌}
use Prim.Native.Nat.{ℕ, ◌<◌}
use Rattle.machine.specs.Store.{Store, object, header}
use Rattle.machine_widths.specs.Readings.{header_by, object_by}

-- every row in use is read alike
pub record ReadAlike (k n : ℕ) (s : Store) : Type 0 where
  pub header_same : header_by n s ≡ header s
  pub objects_same : (o : ℕ) → o < (header s).made → object_by k s o ≡ object s o
