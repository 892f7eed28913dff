-- The buffer of the input: bytes that are moved to the front, and bytes that are read behind them.
use Rattle.std.specs.Prelude.{◌≡◌, refl, List, [], ◌++◌, ℕ, ◌+◌, ◌-◌, ◌≤◌, ◌<◌, length, take, drop, set, get_or}
use Rattle.std.proofs.Common.{sym, ap, ◌∙◌, append-nil, add-one, arith, length-drop, length-append, get_or-drop, take-add, drop_at, length-take-le}
use Rattle.std.proofs.Math.Seq.{slice, paste, paste-suc, take-append-add}
use Rattle.std.proofs.lemmas.List.Edits.{take-paste, drop-paste, length-paste}
use Rattle.std.proofs.lemmas.List.{take-append-le}
use Rattle.drive_reader.specs.Windows.{record_limit}
use Rattle.drive_window.specs.Input.{Refilled, Readied}

-- One byte more is moved: it is still where it was, for the bytes before it have gone to places before them.
pub move-one : (before src : List ℕ) (from i : ℕ) → from + i < length before → src ≡ paste before 0 (drop from before) i
    → set src i (get_or src (from + i) 0) ≡ paste before 0 (drop from before) (i + 1)
move-one before src from i h e =
    let rest : List ℕ = drop from before in
    let n : length rest ≡ length before - from = length-drop from before in
    let z : 0 + i ≡ i = omega arith in
    let behind : drop i src ≡ drop i before =
    ap (drop i) e ∙ ap (λ (k : ℕ). drop k (paste before 0 rest i)) (sym z) ∙ drop-paste before 0 rest i (omega arith) (omega (arith, n, h)) ∙ ap (λ (k : ℕ). drop k before) z in
    let turn : from + i ≡ i + from = omega arith in
    let byte : get_or src (from + i) 0 ≡ get_or rest i 0 =
    ap (λ (k : ℕ). get_or src k 0) turn ∙ sym (get_or-drop i src from 0) ∙ ap (λ (l : List ℕ). get_or l from 0) behind ∙ get_or-drop i before from 0
    ∙ ap (λ (k : ℕ). get_or before k 0) (sym turn) ∙ sym (get_or-drop from before i 0) in
    ap (set src i) byte ∙ ap (λ (l : List ℕ). set l i (get_or rest i 0)) e ∙ ap (λ (k : ℕ). set (paste before 0 rest i) k (get_or rest i 0)) (sym z)
    ∙ paste-suc before 0 rest i 0 (omega (arith, h)) (omega (arith, n, h)) ∙ ap (paste before 0 rest) (sym (add-one i))

-- what stands between two places: up to the second and from the first on, or from the first on and so many
slice-counted : (src : List ℕ) (from filled : ℕ) → from ≤ filled → filled ≤ length src → slice from filled src ≡ take (filled - from) (drop from src)
slice-counted src from filled a b =
    let n : filled ≡ from + (filled - from) = omega (arith, a) in
    ap (λ (k : ℕ). drop from (take k src)) n ∙ ap (drop from) (take-add from (filled - from) src)
    ∙ drop_at (take from src) (take (filled - from) (drop from src)) from (length-take-le from src (omega (arith, a, b)))

-- The unread bytes were moved to the front, and then bytes were read behind them.
module _ (before moved new tail : List ℕ) (from filled got : ℕ) (a : from ≤ filled) (b : filled ≤ length before)
    (e : moved ≡ paste before 0 (drop from before) (filled - from)) (g : got ≤ length new) where
  abbrev rest : ℕ
  rest = filled - from

  fits : rest ≤ length (drop from before)
  fits = let n : length (drop from before) ≡ length before - from = length-drop from before in omega (arith, n, a, b)

  front : take rest moved ≡ slice from filled before
  front =
      let z : 0 + rest ≡ rest = omega arith in
      ap (take rest) e ∙ ap (λ (k : ℕ). take k (paste before 0 (drop from before) rest)) (sym z)
      ∙ take-paste before 0 (drop from before) rest (omega arith) fits ∙ sym (slice-counted before from filled a b)

  pub read_behind : Refilled before (take rest moved ++ (new ++ tail)) from filled 0 (rest + got)
  read_behind =
      let m : length moved ≡ length before = ap length e ∙ length-paste before 0 (drop from before) rest (omega (arith, a, b)) fits in
      let p : length (take rest moved) ≡ rest = length-take-le rest moved (omega (arith, m, a, b)) in
      let q : length (take rest moved ++ (new ++ tail)) ≡ length (take rest moved) + length (new ++ tail) = length-append (take rest moved) (new ++ tail) in
      let n : length (new ++ tail) ≡ length new + length tail = length-append new tail in
      record {
        more = take got new;
        unread_is =
            ap (λ (k : ℕ). take (k + got) (take rest moved ++ (new ++ tail))) (sym p) ∙ take-append-add (take rest moved) (new ++ tail) got
            ∙ ap (λ (l : List ℕ). take rest moved ++ l) (take-append-le got new tail g) ∙ ap (λ (l : List ℕ). l ++ take got new) front;
        in_order = omega arith;
        within = omega (arith, q, p, n, g);
        whole = λ x y. omega (arith, x, y);
      }

-- The buffer stays as it is.
pub read-nothing : (src : List ℕ) (from filled : ℕ) → from ≤ filled → filled ≤ length src → (length src ≤ filled → record_limit ≤ filled - from) → Readied src src from filled from filled
read-nothing src from filled a b w = record {
  refilled = record { more = []; unread_is = sym (append-nil _); in_order = a; within = b; whole = λ x y. w y };
  ended = λ h. (refl, h);
}
