-- Rows of words in a list: `row_from w b j k` is the k words of w from b + j on, and `put_from w b j vs` is w with vs from b + j on.
-- On numerals, and on lists that are written out, both compute to the reads and the stores that straight-line code makes.
use Rattle.std.specs.Prelude.{◌≡◌, List, [], ◌∷◌, ℕ, zero, suc, ◌+◌, Bool, length, get_or, set}
use Rattle.asyncio.specs.States.{pick}

abbrev pub row_from : List ℕ → ℕ → ℕ → ℕ → List ℕ
row_from w b j zero = []
row_from w b j (suc k) = get_or w (b + j) 0 ∷ row_from w b (suc j) k

abbrev pub put_from : List ℕ → ℕ → ℕ → List ℕ → List ℕ
put_from w b j [] = w
put_from w b j (v ∷ vs) = put_from (set w (b + j) v) b (suc j) vs

-- `go` of the first k words of w and of the rest; a word past the end is 0
abbrev pub split_row : {A : Type 0} → ℕ → (List ℕ → List ℕ) → List ℕ → (List ℕ → List ℕ → A) → A
split_row zero f w go = go (f []) w
split_row (suc k) f [] go = split_row k (λ r. f (0 ∷ r)) [] go
split_row (suc k) f (x ∷ w) go = split_row k (λ r. f (x ∷ r)) w go

-- A type that is laid out in `width` words: what each row of words is read as, the words of each value, and which values fit their
-- words. What fits is read back as it was, and whatever is read fits.
pub record Codec (R : Type 0) : Type 1 where
  pub width : ℕ
  pub reads : List ℕ → R
  pub words : R → List ℕ
  pub Fits : R → Type 0
  pub wide : (r : R) → length (words r) ≡ width
  pub back : (r : R) → Fits r → reads (words r) ≡ r
  pub in_range : (w : List ℕ) → Fits (reads w)

module _ {R : Type 0} (C : Codec R) where
  -- what stands at b
  abbrev pub read_at : List ℕ → ℕ → R
  read_at w b = C.reads (row_from w b 0 C.width)

  -- the words with r put at b
  abbrev pub put_at : List ℕ → ℕ → R → List ℕ
  put_at w b r = put_from w b 0 (C.words r)

  -- how many of the first n rows pass: one walk through the words, so that it computes quickly (RowLaws: split_row-is)
  abbrev pub count_rows : (R → Bool) → ℕ → List ℕ → ℕ
  count_rows p zero w = 0
  count_rows p (suc n) w = split_row C.width (λ r. r) w (λ r v. pick (p (C.reads r)) (suc (count_rows p n v)) (count_rows p n v))
