-- Where a search may begin: numbers passed over, several at a time.
use Rattle.std.specs.Prelude.{◌≡◌, Bool, true, false, List, ℕ, zero, suc, ◌+◌, ◌≤◌, ◌<◌}
use Rattle.asyncio.specs.Limits.{object_limit}
use Rattle.asyncio.specs.States.{pick}
use Rattle.asyncio.specs.declared.HeapId.{HeapId}
use Rattle.asyncio.specs.Kinds.{kind, is_pending_external}
use Rattle.rows.specs.Tables.{object_at}

-- object o is a pending external
abbrev pub is_pending : List ℕ → ℕ → Bool
is_pending os o = is_pending_external (kind (object_at os o))

-- one of the k numbers from o on has p
unfoldable pub any_of : (ℕ → Bool) → ℕ → ℕ → Bool
any_of p o zero = false
any_of p o (suc k) = pick (p o) true (any_of p (o + 1) k)

-- A search for p below n may begin at r: none before it has p.
pub record BeginsAt (p : ℕ → Bool) (n r : ℕ) : Type 0 where
  pub within : r ≤ n
  pub none_before : (i : ℕ) → i < r → p i ≡ false

-- ---- a test that is passed in, by what its calls need and answer

-- it may be called on each object
abbrev pub CallableOnObjects : (HeapId → Type 0) → Type 0
CallableOnObjects pre = (h : HeapId) → h.0 < object_limit → pre h

-- and answers p there
abbrev pub TestsObjects : (HeapId → Bool → Type 0) → (ℕ → Bool) → Type 0
TestsObjects post p = (h : HeapId) (r : Bool) → h.0 < object_limit → post h r → r ≡ p h.0
