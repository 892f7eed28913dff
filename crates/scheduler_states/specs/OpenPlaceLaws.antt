-- How a loop meets `open_from`: here, one further, at the end; and how it begins.
use Rattle.std.specs.Prelude.{◌≡◌, true, false, eqb}
use Prim.Native.Nat.{ℕ, suc, ◌+◌, ◌-◌, ◌/◌, ◌%◌, ◌^◌, ◌≤◌, ◌<◌}
use native.Mathlib.Omega.{arith}
use Rattle.std.proofs.Common.{eq-eqb, ne_eqb}
use Rattle.asyncio.specs.declared.HeapId.{HeapId}
use Rattle.asyncio.specs.declared.Place.{Place}
use Rattle.machine.specs.Scheduler.{AwaitedGather}
use Rattle.machine.specs.Commit.{open_from}
use Rattle.scheduler_states.specs.OpenPlaces.{open_here}

-- ---- a place

module _ (ps : ℕ → Place) (m p i o : ℕ) where
  pub place_shut : m / 2 ^ i % 2 ≡ 0 → false ≡ open_here ps m p i o
  place_shut e = rw (eq-eqb (m / 2 ^ i % 2) 0 e)

  pub place-named : {h : HeapId} → (m / 2 ^ i % 2 ≡ 0 → ⊥) → h ≡ (ps p).item → eqb h.0 o ≡ open_here ps m p i o
  place-named b e = rw (ne_eqb (m / 2 ^ i % 2) 0 b, ← e)

-- ---- the search

module _ (ps : ℕ → Place) (w : AwaitedGather) (o i n : ℕ) where
  pub open_found : i < n → true ≡ open_here ps w.open_places (w.first + i) i o → true ≡ open_from ps w o i (n - i)
  unfolding open_from
  open_found h e = let k : n - i ≡ suc (n - (i + 1)) = omega arith in rw (k, ← e)

  pub open_turn : i < n → false ≡ open_here ps w.open_places (w.first + i) i o → open_from ps w o (i + 1) (n - (i + 1)) ≡ open_from ps w o i (n - i)
  unfolding open_from
  open_turn h e = let k : n - i ≡ suc (n - (i + 1)) = omega arith in rw (k, ← e)

  pub open_end : n ≤ i → false ≡ open_from ps w o i (n - i)
  unfolding open_from
  open_end h = let k : n - i ≡ 0 = omega arith in rw k

pub open_begins : (ps : ℕ → Place) (w : AwaitedGather) (o n : ℕ) → open_from ps w o 0 (n - 0) ≡ open_from ps w o 0 n
open_begins ps w o n = let k : n - 0 ≡ n = omega arith in rw k
