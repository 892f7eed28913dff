-- Laws of the items of a gather: how a loop meets them, and how many they are.
use Rattle.std.specs.Prelude.{◌≡◌, refl, List, [], ◌∷◌, ◌++◌, ℕ, zero, suc, ◌+◌, ◌*◌, ◌<◌, ◌≤◌, min, length, get_or, take, drop, set}
use Rattle.std.proofs.Common.{ap, add-one, arith, drop-cons}
use Rattle.std.proofs.lemmas.List.{set_at}
use Rattle.std.proofs.Math.Seq.{append_snoc, take-append_seam}
use Rattle.endian.specs.Endian.{le1, le2}
use Rattle.drive_reader.specs.Items.{items_at, items_copied}

-- there are as many as were asked for
pub items-length : (s : List ℕ) (at k : ℕ) → length (items_at s at k) ≡ k
unfolding items_at
items-length s at zero = refl
items-length s at (suc k) = ap suc (items-length s (at + 2) k)

-- the low byte and the high byte of number i
pub item_of_bytes : (s : List ℕ) (first i : ℕ) {low high : ℕ} → low ≡ le1 s (first + i * 2) → high ≡ le1 s (first + (i * 2 + 1)) → low + high * 256 ≡ le2 s (first + i * 2)
item_of_bytes s first i l h = let e : first + (i * 2 + 1) ≡ first + i * 2 + 1 = omega arith in rw (l, h, e)

-- one more: number i comes behind the first i
pub items-next : (s : List ℕ) (at i : ℕ) → items_at s at (suc i) ≡ items_at s at i ++ (le2 s (at + i * 2) ∷ [])
unfolding items_at
items-next s at zero = let e : at + 0 * 2 ≡ at = omega arith in rw e
items-next s at (suc i) =
    let e : at + 2 + i * 2 ≡ at + suc i * 2 = omega arith in
    ap (λ (xs : List ℕ). le2 s at ∷ xs) (rw e at (items-next s (at + 2) i))

-- a turn of the loop: number i is stored behind the first i, in front of what was there
pub store_item : (s : List ℕ) (first i : ℕ) (old : List ℕ) {items : List ℕ} {x : ℕ} → i < length old → items ≡ items_at s first i ++ drop i old
    → x ≡ le2 s (first + i * 2) → set items i x ≡ items_at s first (i + 1) ++ drop (i + 1) old
store_item s first i old h e q =
    rw (e, q, drop-cons old i 0 h, add-one i, items-next s first i, append_snoc (items_at s first i) (le2 s (first + i * 2)) (drop (suc i) old))
    (set_at (items_at s first i) (get_or old i 0) (drop (suc i) old) (le2 s (first + i * 2)) i (items-length s first i))

-- where there is room for all, they are what stands at the front after a copy
pub items_taken : (s : List ℕ) (at k : ℕ) (old : List ℕ) → k ≤ length old → take k (items_copied s at k old) ≡ items_at s at k
items_taken s at k old h =
    let m : min k (length old) ≡ k = omega arith in
    rw m (rw (items-length s at k) at (take-append_seam (items_at s at k) (drop k old)))
