-- Bits of an open word: one bit cleared or set, and the others as they were; a word with no bit set is 0.
use Rattle.std.specs.Prelude.{◌≡◌, refl, Bool, true, false, not, ℕ, zero, suc, ◌+◌, ◌-◌, ◌*◌, ◌/◌, ◌%◌, ◌^◌, ◌<◌, eqb}
use Rattle.std.proofs.Common.{ap, sym, ◌∙◌, not-suc-le-zero, arith, eqb-true, eq-eqb, ne_eqb}
use Rattle.std.proofs.Math.Nat.{div-div-eq-div-mul, pow-succ'}
use Rattle.std.proofs.Math.Decide.{ℕ_discrete}
use Rattle.std.proofs.lemmas.Bool.{eqb-false}
use Rattle.machine.specs.Scheduler.{bit}
use Rattle.machine_laws.specs.TestLaws.{is_true, not-not}
use Rattle.machine_laws.specs.BitLaws.{bit_le}

-- ---- a bit as a number

not-true : (b : Bool) → not b ≡ true → b ≡ false
not-true true e = sym e
not-true false e = refl

set_odd : (m i : ℕ) → bit m i ≡ true → m / 2 ^ i % 2 ≡ 0 → ⊥
set_odd m i e = eqb-false (m / 2 ^ i % 2) 0 (not-true (eqb (m / 2 ^ i % 2) 0) e)

clear_even : (m i : ℕ) → bit m i ≡ false → m / 2 ^ i % 2 ≡ 0
clear_even m i e = eqb-true (m / 2 ^ i % 2) 0 (is_true _ (not-not (eqb (m / 2 ^ i % 2) 0) e))

half : (m j : ℕ) → m / 2 ^ suc j ≡ m / 2 / 2 ^ j
half m j = rw (pow-succ' 2 j) (sym (div-div-eq-div-mul m 2 (2 ^ j)))

bit-suc : (m j : ℕ) → bit m (suc j) ≡ bit (m / 2) j
bit-suc m j = ap (λ (n : ℕ). not (eqb (n % 2) 0)) (half m j)

bit-zero : (m n : ℕ) → m % 2 ≡ n % 2 → bit m 0 ≡ bit n 0
bit-zero m n e = let q : m / 2 ^ 0 % 2 ≡ n / 2 ^ 0 % 2 = omega arith in ap (λ (k : ℕ). not (eqb k 0)) q

odd_low : (m : ℕ) → bit m 0 ≡ true → m % 2 ≡ 1
odd_low m e = omega (arith, set_odd m 0 e)

even_low : (m : ℕ) → bit m 0 ≡ false → m % 2 ≡ 0
even_low m e = omega (arith, clear_even m 0 e)

-- ---- bit i is cleared

pub bit_clear : (i m j : ℕ) → bit m i ≡ true → (j ≡ i → ⊥) → bit (m - 2 ^ i) j ≡ bit m j
bit_clear zero m zero e ne = absurd (ne refl)
bit_clear zero m (suc j) e ne =
    let q : (m - 2 ^ 0) / 2 ≡ m / 2 = omega (arith, odd_low m e) in
    bit-suc (m - 2 ^ 0) j ∙ ap (λ (n : ℕ). bit n j) q ∙ sym (bit-suc m j)
bit_clear (suc i) m zero e ne =
    let d : 2 ^ suc i ≡ 2 * 2 ^ i = pow-succ' 2 i in
    bit-zero (m - 2 ^ suc i) m (omega (arith, bit_le m (suc i) (set_odd m (suc i) e)))
bit_clear (suc i) m (suc j) e ne =
    let d : 2 ^ suc i ≡ 2 * 2 ^ i = pow-succ' 2 i in
    let q : (m - 2 ^ suc i) / 2 ≡ m / 2 - 2 ^ i = omega arith in
    bit-suc (m - 2 ^ suc i) j ∙ ap (λ (n : ℕ). bit n j) q ∙ bit_clear i (m / 2) j (sym (bit-suc m i) ∙ e) (λ p. ne (ap suc p)) ∙ sym (bit-suc m j)

pub cleared : (i m : ℕ) → bit m i ≡ true → bit (m - 2 ^ i) i ≡ false
cleared zero m e = ap not (eq-eqb ((m - 2 ^ 0) / 2 ^ 0 % 2) 0 (omega (arith, odd_low m e)))
cleared (suc i) m e =
    let d : 2 ^ suc i ≡ 2 * 2 ^ i = pow-succ' 2 i in
    let q : (m - 2 ^ suc i) / 2 ≡ m / 2 - 2 ^ i = omega arith in
    bit-suc (m - 2 ^ suc i) i ∙ ap (λ (n : ℕ). bit n i) q ∙ cleared i (m / 2) (sym (bit-suc m i) ∙ e)

-- ---- bit i is set

pub bit-set-other : (i m j : ℕ) → bit m i ≡ false → (j ≡ i → ⊥) → bit (m + 2 ^ i) j ≡ bit m j
bit-set-other zero m zero e ne = absurd (ne refl)
bit-set-other zero m (suc j) e ne =
    let q : (m + 2 ^ 0) / 2 ≡ m / 2 = omega (arith, even_low m e) in
    bit-suc (m + 2 ^ 0) j ∙ ap (λ (n : ℕ). bit n j) q ∙ sym (bit-suc m j)
bit-set-other (suc i) m zero e ne = let d : 2 ^ suc i ≡ 2 * 2 ^ i = pow-succ' 2 i in bit-zero (m + 2 ^ suc i) m (omega arith)
bit-set-other (suc i) m (suc j) e ne =
    let d : 2 ^ suc i ≡ 2 * 2 ^ i = pow-succ' 2 i in
    let q : (m + 2 ^ suc i) / 2 ≡ m / 2 + 2 ^ i = omega arith in
    bit-suc (m + 2 ^ suc i) j ∙ ap (λ (n : ℕ). bit n j) q ∙ bit-set-other i (m / 2) j (sym (bit-suc m i) ∙ e) (λ p. ne (ap suc p)) ∙ sym (bit-suc m j)

pub bit-set-same : (i m : ℕ) → bit m i ≡ false → bit (m + 2 ^ i) i ≡ true
bit-set-same zero m e = ap not (ne_eqb ((m + 2 ^ 0) / 2 ^ 0 % 2) 0 (λ q. omega (arith, even_low m e)))
bit-set-same (suc i) m e =
    let d : 2 ^ suc i ≡ 2 * 2 ^ i = pow-succ' 2 i in
    let q : (m + 2 ^ suc i) / 2 ≡ m / 2 + 2 ^ i = omega arith in
    bit-suc (m + 2 ^ suc i) i ∙ ap (λ (n : ℕ). bit n i) q ∙ bit-set-same i (m / 2) (sym (bit-suc m i) ∙ e)

-- a word of n bits is one still
pub bit_set_small : (i n m : ℕ) → i < n → m < 2 ^ n → bit m i ≡ false → m + 2 ^ i < 2 ^ n
bit_set_small i zero m l s e = absurd (not-suc-le-zero l)
bit_set_small zero (suc n) m l s e = let d : 2 ^ suc n ≡ 2 * 2 ^ n = pow-succ' 2 n in omega (arith, even_low m e)
bit_set_small (suc i) (suc n) m l s e =
    let d : 2 ^ suc n ≡ 2 * 2 ^ n = pow-succ' 2 n in
    let d2 : 2 ^ suc i ≡ 2 * 2 ^ i = pow-succ' 2 i in
    omega (arith, bit_set_small i n (m / 2) (omega arith) (omega arith) (sym (bit-suc m i) ∙ e))

-- ---- a word of n bits

-- a bit below n that is set
pub record SetBelow (n m : ℕ) : Type 0 where
  pub at : ℕ
  pub under : at < n
  pub is_set : bit m at ≡ true

-- a word of n bits that is not 0 has one set
pub has_set : (n m : ℕ) → m < 2 ^ n → (m ≡ 0 → ⊥) → SetBelow n m
has_set zero m l ne = absurd (ne (omega (arith, l)))
has_set (suc n) m l ne = by (ℕ_discrete (m % 2) 0) (λ k ze. has_set n (m / 2) k ze)
  where
    higher : SetBelow n (m / 2) → SetBelow (suc n) m
    higher h = record { at = suc h.at; under = omega (arith, h.under); is_set = bit-suc m h.at ∙ h.is_set }

    by : Dec (m % 2 ≡ 0) → (m / 2 < 2 ^ n → (m / 2 ≡ 0 → ⊥) → SetBelow n (m / 2)) → SetBelow (suc n) m
    by (no odd) go = record { at = 0; under = omega arith; is_set = ap not (ne_eqb (m / 2 ^ 0 % 2) 0 (λ q. odd (omega arith))) }
    by (yes even) go = higher (go (omega (arith, l, pow-succ' 2 n)) (λ q. ne (omega (arith, q, even))))

-- 0 has none
pub none-set : (i : ℕ) → bit 0 i ≡ false
none-set zero = ap not (eq-eqb (0 / 2 ^ 0 % 2) 0 (omega arith))
none-set (suc i) = bit-suc 0 i ∙ none-set i
