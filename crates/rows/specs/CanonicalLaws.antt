-- What was put and fits is canonical, and a row apart stays as it was: once for every type.
use Rattle.std.specs.Prelude.{◌≡◌, refl, Bool, true, false, ◌⊎◌, List, [], ◌∷◌, ℕ, ◌+◌, ◌≤◌, T, eqb, length}
use Rattle.std.proofs.Common.{ap, eqb-true, eq-eqb}
use Rattle.asyncio.specs.States.{pick}
use Rattle.rows.specs.Rows.{Codec, put_at}
use Rattle.rows.specs.RowLaws.{row-put_at, read-put, row-put-apart}
use Rattle.rows.specs.Canonical.{same_words, canonical_at}

-- equal words pass the test, and words that pass it are equal
pub same_words-refl : (w : List ℕ) → same_words w w ≡ true
unfolding same_words
same_words-refl [] = refl
same_words-refl (x ∷ xs) = rw (eq-eqb x x refl, same_words-refl xs)

pub words_same : (xs ys : List ℕ) → T (same_words xs ys) → xs ≡ ys
unfolding same_words
words_same [] [] h = refl
words_same [] (y ∷ ys) h = absurd h
words_same (x ∷ xs) [] h = absurd h
words_same (x ∷ xs) (y ∷ ys) h = by (eqb x y) refl h (λ k. words_same xs ys k)
  where
    by : (b : Bool) → eqb x y ≡ b → T (pick b (same_words xs ys) false) → (T (same_words xs ys) → xs ≡ ys) → x ∷ xs ≡ y ∷ ys
    by true e k more = rw (eqb-true x y e, more k)
    by false e k more = absurd k

module _ {R : Type 0} (C : Codec R) where
  pub canonical_put : (w : List ℕ) (b : ℕ) (r : R) → C.Fits r → b + C.width ≤ length w → canonical_at C (put_at C w b r) b ≡ true
  canonical_put w b r f h = rw (read-put C w b r f h, row-put_at C w b r h) (same_words-refl (C.words r))

  pub canonical_apart : (w : List ℕ) (b b' : ℕ) (r : R) → (b + C.width ≤ b') ⊎ (b' + C.width ≤ b) → canonical_at C (put_at C w b r) b' ≡ canonical_at C w b'
  canonical_apart w b b' r h = ap (λ (x : List ℕ). same_words (C.words (C.reads x)) x) (row-put-apart C w b b' C.width r h)
