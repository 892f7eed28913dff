-- Rows as ranges: what a slice's range reads and writes is a row.
use Rattle.std.specs.Prelude.{◌≡◌, refl, List, [], ◌∷◌, ◌++◌, ℕ, zero, suc, ◌+◌, ◌-◌, ◌≤◌, length, get_or, take, drop, set}
use Rattle.std.proofs.Common.{sym, ap, ◌∙◌, arith, append_assoc, take-suc-set, drop-cons, add-zero}
use Rattle.std.proofs.lemmas.List.{drop-set-lt, take-append-drop}
use Rattle.std.proofs.Math.ListN.{length-set}
use Rattle.rows.specs.Rows.{row_from, put_from}
use Rattle.rows.specs.RowLaws.{drop-drop}

row_from-take : (k : ℕ) (w : List ℕ) (b j : ℕ) → b + j + k ≤ length w → row_from w b j k ≡ take k (drop (b + j) w)
row_from-take zero w b j h = refl
row_from-take (suc k) w b j h =
    let e : b + suc j ≡ suc (b + j) = omega arith in
    rw (drop-cons w (b + j) 0 (omega arith)) (ap (λ (r : List ℕ). get_or w (b + j) 0 ∷ r) (rw e at (row_from-take k w b (suc j) (omega arith))))

-- what is read: k words from b on
pub range-row : (w : List ℕ) (b k : ℕ) → b + k ≤ length w → take (b + k - b) (drop b w) ≡ row_from w b 0 k
range-row w b k h =
    let e : b + k - b ≡ k = omega arith in
    rw e (sym (rw add-zero at (row_from-take k w b 0 (omega arith))))

put_from-range : (vs : List ℕ) (w : List ℕ) (b j : ℕ) → b + j + length vs ≤ length w
    → put_from w b j vs ≡ take (b + j) w ++ (vs ++ drop (b + j + length vs) w)
put_from-range [] w b j h = rw add-zero (sym (take-append-drop (b + j) w))
put_from-range (v ∷ vs) w b j h =
    let u : List ℕ = set w (b + j) v in
    let e : b + suc j ≡ suc (b + j) = omega arith in
    let f : b + suc j + length vs ≡ b + j + suc (length vs) = omega arith in
    let long : length u ≡ length w = length-set w (b + j) v in
    let rest = put_from-range vs u b (suc j) (omega arith) in
    rest ∙ rw (f, e, take-suc-set w (b + j) v (omega arith), drop-set-lt (b + j + suc (length vs)) w (b + j) v (omega arith)) (append_assoc (take (b + j) w) (v ∷ []) (vs ++ drop (b + j + suc (length vs)) w))

-- what is written: the words of vs from b on
pub range-put : (w : List ℕ) (b : ℕ) (vs : List ℕ) → b + length vs ≤ length w
    → take b w ++ (vs ++ drop (b + length vs - b) (drop b w)) ≡ put_from w b 0 vs
range-put w b vs h =
    let e : b + length vs - b ≡ length vs = omega arith in
    rw (e, drop-drop (length vs) b w) (sym (rw add-zero at (put_from-range vs w b 0 (omega arith))))
