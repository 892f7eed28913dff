-- The laws of rows, once for every width and every type: what was put is read back, rows apart stay, lengths are kept, and whatever is
-- read is in range.
use Rattle.std.specs.Prelude.{◌≡◌, refl, ◌⊎◌, List, [], ◌∷◌, ℕ, zero, suc, ◌+◌, ◌≤◌, ◌<◌, length, get_or, set, drop}
use Rattle.std.proofs.Common.{ap, ◌∙◌, ⊎_elim, add-suc, suc-add, add-zero, zero-add, arith, length-set, get_or-set_same, get_or-set_other}
use Rattle.rows.specs.Rows.{row_from, put_from, split_row, Codec, read_at, put_at}

pub length-put_from : (w : List ℕ) (b j : ℕ) (vs : List ℕ) → length (put_from w b j vs) ≡ length w
length-put_from w b j [] = refl
length-put_from w b j (v ∷ vs) = length-put_from (set w (b + j) v) b (suc j) vs ∙ length-set w (b + j) v

-- a word below the row, and a word past it, are as they were
pub below-put_from : (w : List ℕ) (b j i : ℕ) (vs : List ℕ) → i < b + j → get_or (put_from w b j vs) i 0 ≡ get_or w i 0
below-put_from w b j i [] h = refl
below-put_from w b j i (v ∷ vs) h =
    below-put_from (set w (b + j) v) b (suc j) i vs (omega arith)
    ∙ get_or-set_other w (b + j) i v 0 (λ e. omega arith)

pub past_put_from : (w : List ℕ) (b j i : ℕ) (vs : List ℕ) → b + j + length vs ≤ i → get_or (put_from w b j vs) i 0 ≡ get_or w i 0
past_put_from w b j i [] h = refl
past_put_from w b j i (v ∷ vs) h =
    past_put_from (set w (b + j) v) b (suc j) i vs (omega arith)
    ∙ get_or-set_other w (b + j) i v 0 (λ e. omega arith)

-- what was put is there
pub row-put_from : (w : List ℕ) (b j : ℕ) (vs : List ℕ) → b + j + length vs ≤ length w → row_from (put_from w b j vs) b j (length vs) ≡ vs
row-put_from w b j [] h = refl
row-put_from w b j (v ∷ vs) h =
    let w' = set w (b + j) v in
    let here : get_or (put_from w' b (suc j) vs) (b + j) 0 ≡ v =
    below-put_from w' b (suc j) (b + j) vs (omega arith) ∙ get_or-set_same w (b + j) v 0 (omega arith) in
    let rest : row_from (put_from w' b (suc j) vs) b (suc j) (length vs) ≡ vs =
    row-put_from w' b (suc j) vs (rw length-set (omega arith)) in
    rw (here, rest)

-- two lists with the same words there have the same row
row_same : (w w' : List ℕ) (b j k : ℕ) → ((i : ℕ) → b + j ≤ i → i < b + j + k → get_or w' i 0 ≡ get_or w i 0) → row_from w' b j k ≡ row_from w b j k
row_same w w' b j zero h = refl
row_same w w' b j (suc k) h =
    let here : get_or w' (b + j) 0 ≡ get_or w (b + j) 0 = h (b + j) (omega arith) (omega arith) in
    let rest : row_from w' b (suc j) k ≡ row_from w b (suc j) k = row_same w w' b (suc j) k (λ i p q. h i (omega arith) (omega arith)) in
    rw (here, rest)

-- a row that lies apart from the one that was put is as it was
pub row_apart : (w : List ℕ) (b b' k : ℕ) (vs : List ℕ) → (b + length vs ≤ b') ⊎ (b' + k ≤ b) → row_from (put_from w b 0 vs) b' 0 k ≡ row_from w b' 0 k
row_apart w b b' k vs h =
    row_same w (put_from w b 0 vs) b' 0 k
    (λ i p q. ⊎_elim (λ l. past_put_from w b 0 i vs (omega arith)) (λ l. below-put_from w b 0 i vs (omega arith)) h)

-- the row of a whole list is the list
row_tail : (p vs : List ℕ) (j : ℕ) → ((i : ℕ) → get_or p (0 + (j + i)) 0 ≡ get_or vs i 0) → row_from p 0 j (length vs) ≡ vs
row_tail p [] j h = refl
row_tail p (v ∷ vs) j h =
    let here : get_or p (0 + j) 0 ≡ v = rw add-zero at (h 0) in
    let rest : row_from p 0 (suc j) (length vs) ≡ vs = row_tail p vs (suc j) (λ i. rw (suc-add, ← add-suc) (h (suc i))) in
    rw (here, rest)

row_listed : (k : ℕ) (vs : List ℕ) → length vs ≡ k → row_from vs 0 0 k ≡ vs
row_listed k vs e = rw (← e) (row_tail vs vs 0 (λ i. rw (zero-add, zero-add)))

-- what straight-line code leaves that stores the elements of an array in turn
pub put_listed : (k : ℕ) (w : List ℕ) (b : ℕ) (vs : List ℕ) → length vs ≡ k → put_from w b 0 (row_from vs 0 0 k) ≡ put_from w b 0 vs
put_listed k w b vs e = ap (put_from w b 0) (row_listed k vs e)

-- ---- rows in turn

row-shift : (x : ℕ) (w : List ℕ) (j k : ℕ) → row_from (x ∷ w) 0 (suc j) k ≡ row_from w 0 j k
row-shift x w j zero = refl
row-shift x w j (suc k) = rw (zero-add (suc j), zero-add j, row-shift x w (suc j) k)

row-empty : (j k : ℕ) → row_from [] 0 (suc j) k ≡ row_from [] 0 j k
row-empty j zero = refl
row-empty j (suc k) = ap (λ (r : List ℕ). 0 ∷ r) (row-empty (suc j) k)

drop-empty : (k : ℕ) → drop {A = ℕ} k [] ≡ []
drop-empty zero = refl
drop-empty (suc k) = refl

-- the first k words are a row, and the rest is what is left
pub split_row-is : {A : Type 0} (k : ℕ) (f : List ℕ → List ℕ) (w : List ℕ) (go : List ℕ → List ℕ → A)
    → split_row k f w go ≡ go (f (row_from w 0 0 k)) (drop k w)
split_row-is zero f w go = refl
split_row-is (suc k) f [] go =
    split_row-is k (λ r. f (0 ∷ r)) [] go ∙ rw (row-empty 0 k, drop-empty k)
split_row-is (suc k) f (x ∷ w) go =
    split_row-is k (λ r. f (x ∷ r)) w go ∙ rw (row-shift x w 0 k)

get_d_drop : (w : List ℕ) (b i : ℕ) → get_or (drop b w) i 0 ≡ get_or w (b + i) 0
get_d_drop w zero i = rw (zero-add i)
get_d_drop [] (suc b) i = refl
get_d_drop (x ∷ w) (suc b) i = get_d_drop w b i ∙ rw (suc-add b i)

row-drop-from : (w : List ℕ) (b j k : ℕ) → row_from (drop b w) 0 j k ≡ row_from w b j k
row-drop-from w b j zero = refl
row-drop-from w b j (suc k) = rw (zero-add j, get_d_drop w b j, row-drop-from w b (suc j) k)

-- the row at b is the first of what is left behind b words
pub row_drop : (w : List ℕ) (b k : ℕ) → row_from (drop b w) 0 0 k ≡ row_from w b 0 k
row_drop w b k = row-drop-from w b 0 k

pub drop-drop : (a b : ℕ) (w : List ℕ) → drop a (drop b w) ≡ drop (b + a) w
drop-drop a zero w = rw (zero-add a)
drop-drop a (suc b) [] = drop-empty a ∙ rw (suc-add b a)
drop-drop a (suc b) (x ∷ w) = drop-drop a b w ∙ rw (suc-add b a)

module _ {R : Type 0} (C : Codec R) where
  pub length-put_at : (w : List ℕ) (b : ℕ) (r : R) → length (put_at C w b r) ≡ length w
  length-put_at w b r = length-put_from w b 0 (C.words r)

  -- the words of what was put stand there
  pub row-put_at : (w : List ℕ) (b : ℕ) (r : R) → b + C.width ≤ length w → row_from (put_at C w b r) b 0 C.width ≡ C.words r
  row-put_at w b r h = rw (← C.wide r) (row-put_from w b 0 (C.words r) (rw (C.wide r, add-zero) h))

  -- what was put and fits is read back
  pub read-put : (w : List ℕ) (b : ℕ) (r : R) → C.Fits r → b + C.width ≤ length w → read_at C (put_at C w b r) b ≡ r
  read-put w b r f h = ap C.reads (row-put_at w b r h) ∙ C.back r f

  -- a row apart is as it was, of this type or another
  pub row-put-apart : (w : List ℕ) (b b' k : ℕ) (r : R) → (b + C.width ≤ b') ⊎ (b' + k ≤ b) → row_from (put_at C w b r) b' 0 k ≡ row_from w b' 0 k
  row-put-apart w b b' k r h = row_apart w b b' k (C.words r) (rw (C.wide r) h)

  -- whatever is read is in range
  pub read_fits : (w : List ℕ) (b : ℕ) → C.Fits (read_at C w b)
  read_fits w b = C.in_range (row_from w b 0 C.width)
