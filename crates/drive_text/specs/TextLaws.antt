-- Numbers in decimal: the equation of their digits, how many there are, the array that the code makes of them, and that they read back as the number.
use Rattle.std.specs.Prelude.{◌≡◌, refl, List, [], ◌∷◌, ◌++◌, ℕ, zero, suc, ◌+◌, ◌-◌, ◌*◌, ◌/◌, ◌%◌, ◌^◌, ◌≤◌, ◌<◌, ltb, length, get_or, take, drop, set}
use Rattle.std.proofs.Common.{sym, ap, ◌∙◌, add-one, append_assoc, append-nil, div-lt_iff_lt-mul, pow-suc, length-append, length-drop, length-set, take_all, lt-ltb, le-ltb, ltb-true, ltb-false}
use native.Mathlib.Omega.{arith}
use Rattle.std.proofs.Math.ListN.{get_or-append}
use Rattle.std.proofs.lemmas.Grind.{drop-set_at}
use Rattle.std.proofs.lemmas.List.{drop_all}
use Rattle.drive_text.specs.OutLaws.{by_test}
use Rattle.drive_text.specs.Text.{digits, decimal}

tenth : (k n : ℕ) → n < 10 ^ suc k → n / 10 < 10 ^ k
tenth k n h = let w : n < 10 ^ k * 10 = rw (← pow-suc 10 k) h in (div-lt_iff_lt-mul {k = 10} (omega arith)).1 w

digits_small : (k n : ℕ) → n < 10 → digits (suc k) n ≡ (48 + n) ∷ []
unfolding digits
digits_small k n h = rw (lt-ltb n 10 h)

digits_large : (k n : ℕ) → 10 ≤ n → digits (suc k) n ≡ digits k (n / 10) ++ ((48 + n % 10) ∷ [])
unfolding digits
digits_large k n h = rw (le-ltb n 10 h)

-- a number below 10 ^ k needs no more than k digits
digits_enough : (k n : ℕ) → n < 10 ^ suc k → digits (suc (suc k)) n ≡ digits (suc k) n
digits_enough zero n h = digits_small 1 n (omega arith) ∙ sym (digits_small 0 n (omega arith))
digits_enough (suc k) n h =
    by_test (digits (suc (suc (suc k))) n ≡ digits (suc (suc k)) n) (ltb n 10)
    (λ t. digits_small (suc (suc k)) n (ltb-true n 10 t) ∙ sym (digits_small (suc k) n (ltb-true n 10 t)))
    (λ t. digits_large (suc (suc k)) n (ltb-false n 10 t)
    ∙ ap (λ (ds : List ℕ). ds ++ ((48 + n % 10) ∷ [])) (digits_enough k (n / 10) (tenth (suc k) n h))
    ∙ sym (digits_large (suc k) n (ltb-false n 10 t)))

-- one digit
pub decimal_small : (n : ℕ) → n < 10 → decimal n ≡ (48 + n) ∷ []
unfolding decimal
decimal_small n h = digits_small 19 n h

-- the digits of its tenth, and its last digit
pub decimal_large : (n : ℕ) → 10 ≤ n → n < 10 ^ 20 → decimal n ≡ decimal (n / 10) ++ ((48 + n % 10) ∷ [])
unfolding decimal
decimal_large n h g = digits_large 19 n h ∙ ap (λ (ds : List ℕ). ds ++ ((48 + n % 10) ∷ [])) (sym (digits_enough 18 (n / 10) (tenth 19 n g)))

digits-few : (k n : ℕ) → length (digits k n) ≤ k
digits-few zero n = unfold digits in omega arith
digits-few (suc k) n =
    by_test (length (digits (suc k) n) ≤ suc k) (ltb n 10)
    (λ t. rw (digits_small k n (ltb-true n 10 t)) (omega arith))
    (λ t. rw (digits_large k n (ltb-false n 10 t), length-append (digits k (n / 10)) ((48 + n % 10) ∷ [])) (omega (arith, digits-few k (n / 10))))

pub decimal-short : (n : ℕ) → length (decimal n) ≤ 20
unfolding decimal
decimal-short n = digits-few 20 n

-- ---- written into an array of 20, the last digit first

-- Behind the place i stand the last digits of n; those of rest are not written yet, and have room at i and in front of it.
pub record WrittenBehind (n rest i : ℕ) (ds : List ℕ) : Type 0 where
  pub whole : decimal rest ++ drop (suc i) ds ≡ decimal n
  pub room : rest < 10 ^ suc i
  pub place : i < 20
  pub size : length ds ≡ 20

pub written_none : (n : ℕ) {ds : List ℕ} → n < 10 ^ 20 → length ds ≡ 20 → WrittenBehind n n 19 ds
written_none n {ds} h l = record {
  whole = rw (drop_all 20 ds (omega (arith, l))) (append-nil (decimal n));
  room = h;
  place = omega arith;
  size = l;
}

-- one digit more
pub written_one : {n r i : ℕ} {ds : List ℕ} → 10 ≤ r → r < 10 ^ 20 → WrittenBehind n r i ds → WrittenBehind n (r / 10) (i - 1) (set ds i (48 + r % 10))
written_one {n} {r} {i = zero} {ds} t h w = let u : r < 10 = w.room in absurd (omega (arith, u))
written_one {n} {r} {i = suc j} {ds} t h w =
    let l : suc j < length ds = omega (arith, w.place, w.size) in
    let p : suc (suc j - 1) ≡ suc j = omega arith in
    let e : decimal r ≡ decimal (r / 10) ++ ((48 + r % 10) ∷ []) = decimal_large r t h in
    record {
      whole = rw (p, drop-set_at ds (suc j) (suc j) (48 + r % 10) refl l, add-one (suc j))
          (sym (append_assoc (decimal (r / 10)) ((48 + r % 10) ∷ []) (drop (suc (suc j)) ds)) ∙ ap (λ (xs : List ℕ). xs ++ drop (suc (suc j)) ds) (sym e) ∙ w.whole);
      room = rw p (tenth (suc j) r w.room);
      place = omega (arith, w.place);
      size = length-set ds (suc j) (48 + r % 10) ∙ w.size;
    }

-- the first digit: from its place on the array holds the number
pub written_all : {n r i : ℕ} {ds : List ℕ} → r < 10 → WrittenBehind n r i ds → take (20 - i) (drop i (set ds i (48 + r))) ≡ decimal n
written_all {n} {r} {i} {ds} t w =
    let xs : List ℕ = set ds i (48 + r) in
    let s : length (drop i xs) ≤ 20 - i = omega (arith, length-drop i xs, length-set ds i (48 + r), w.size) in
    let l : i < length ds = omega (arith, w.place, w.size) in
    rw (take_all (20 - i) (drop i xs) s, drop-set_at ds i i (48 + r) refl l, add-one i) (ap (λ (ys : List ℕ). ys ++ drop (suc i) ds) (sym (decimal_small r t)) ∙ w.whole)

-- ---- no zero in front

digits-some : (k n : ℕ) → 0 < length (digits (suc k) n)
digits-some k n =
    by_test (0 < length (digits (suc k) n)) (ltb n 10)
    (λ t. rw (digits_small k n (ltb-true n 10 t)) (omega arith))
    (λ t. rw (digits_large k n (ltb-false n 10 t), length-append (digits k (n / 10)) ((48 + n % 10) ∷ [])) (omega arith))

digits_front : (k n : ℕ) → 0 < n → n < 10 ^ suc k → 48 < get_or (digits (suc k) n) 0 0
digits_front zero n p h = rw (digits_small 0 n (omega arith)) (omega arith)
digits_front (suc k) n p h =
    by_test (48 < get_or (digits (suc (suc k)) n) 0 0) (ltb n 10)
    (λ t. rw (digits_small (suc k) n (ltb-true n 10 t)) (omega arith))
    (λ t. let l : 10 ≤ n = ltb-false n 10 t in
    rw (digits_large (suc k) n l, get_or-append (digits (suc k) (n / 10)) ((48 + n % 10) ∷ []) 0 0 (digits-some k (n / 10)))
    (digits_front k (n / 10) (omega arith) (tenth (suc k) n h)))

-- the first digit of a number above 0 is not 0
pub decimal_front : (n : ℕ) → 0 < n → n < 10 ^ 20 → 48 < get_or (decimal n) 0 0
unfolding decimal
decimal_front n p h = digits_front 19 n p h

-- ---- read back

-- the number that digits are read as, behind digits that were read as a
unfoldable pub read_on : ℕ → List ℕ → ℕ
read_on a [] = a
read_on a (d ∷ ds) = read_on (a * 10 + (d - 48)) ds

read_more : (a : ℕ) (ds : List ℕ) (d : ℕ) → read_on a (ds ++ (d ∷ [])) ≡ read_on a ds * 10 + (d - 48)
unfolding read_on
read_more a [] d = refl
read_more a (e ∷ ds) d = read_more (a * 10 + (e - 48)) ds d

digits-read : (k n : ℕ) → n < 10 ^ suc k → read_on 0 (digits (suc k) n) ≡ n
digits-read zero n h = unfold read_on in rw (digits_small 0 n (omega arith)) (omega arith)
digits-read (suc k) n h =
    by_test (read_on 0 (digits (suc (suc k)) n) ≡ n) (ltb n 10)
    (λ t. unfold read_on in rw (digits_small (suc k) n (ltb-true n 10 t)) (omega arith))
    (λ t. rw (digits_large (suc k) n (ltb-false n 10 t), read_more 0 (digits (suc k) (n / 10)) (48 + n % 10), digits-read k (n / 10) (tenth (suc k) n h)) (omega arith))

-- a number's digits are read as that number
pub decimal_reads : (n : ℕ) → n < 10 ^ 20 → read_on 0 (decimal n) ≡ n
unfolding decimal
decimal_reads n h = digits-read 19 n h
