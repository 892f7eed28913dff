-- What the laws of proofs/RemovalLaws.antt state.
use Rattle.std.specs.Prelude.{◌≡◌, ℕ, ◌+◌, take, drop, None, Some}
use mathlib.Core.List.{List, ◌∷◌, ◌++◌}
use Rattle.queue.specs.Queue.{Position}
use Rattle.queue.specs.Queue.{occurrences}

-- What the entries l and r before and after the removal of t have to do with the position that is told: t stood there and nowhere before, and the others
-- are left in their former order; or t stood nowhere, and all are left.
unfoldable pub Removal : ℕ → List ℕ → Position → List ℕ → Type 0
Removal t l (Some i) r = (l ≡ take i l ++ (t ∷ drop (i + 1) l)) × (occurrences (take i l) t ≡ 0) × (r ≡ take i l ++ drop (i + 1) l)
Removal t l None r = (occurrences l t ≡ 0) × (r ≡ l)
