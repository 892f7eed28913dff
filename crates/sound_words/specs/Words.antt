-- Canonical rows, as the code compares them: two rows of the same width are the same when each word is.
use Rattle.std.specs.Prelude.{◌≡◌, refl, Bool, true, false, List, [], ◌∷◌, ℕ, eqb, ◌&&◌}
use Rattle.std.proofs.Common.{◌∙◌}
use lib.Pointwise.{pointwise}
use Rattle.asyncio.specs.States.{pick}
use Rattle.asyncio.specs.Layout.{header_words, to_header}
use Rattle.asyncio.specs.declared.Header.{Header}
use Rattle.rows.specs.Rows.{row_from}
use Rattle.rows.specs.Canonical.{same_words, header_canonical}

-- word by word, as `==` compares two arrays
pub same_pointwise : (a b : List ℕ) → pointwise eqb a b ≡ same_words a b
unfolding same_words
same_pointwise [] [] = refl
same_pointwise [] (y ∷ ys) = refl
same_pointwise (x ∷ xs) [] = refl
same_pointwise (x ∷ xs) (y ∷ ys) = rw (same_pointwise xs ys) (by (eqb x y) (same_words xs ys))
  where
    by : (t u : Bool) → t && u ≡ pick t u false
    by true u = refl
    by false u = refl

-- ---- a row that was read, and the words of what it was read as

module _ {row words : List ℕ} {r : Bool} (h : r ≡ same_words words row) where
  pub same_header : (os : List ℕ) {x : Header} → row ≡ row_from os 0 0 8 → x ≡ to_header row → words ≡ header_words x → r ≡ header_canonical os
  unfolding header_canonical
  same_header os l e q = h ∙ rw (q, e, l)
