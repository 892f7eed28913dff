-- The ways through the writers of bytes, texts and numbers, in the shape of what the code knows there.
use Rattle.std.specs.Prelude.{◌≡◌, refl, List, [], ◌∷◌, ◌++◌, ℕ, ◌+◌, ◌*◌, ◌/◌, ◌%◌, ◌^◌, ◌≤◌, ◌<◌, length, get_or, take, set}
use Rattle.std.proofs.Common.{sym, ap, ◌∙◌, append_assoc, append-nil, add-one, arith, take-suc, take_all}
use Rattle.drive_text.specs.Out.{Out, out_of, Wrote}
use Rattle.drive_text.specs.OutLaws.{emits_in, emits_out, wrote_none, then, at_most}
use Rattle.drive_text.specs.Text.{decimal, field, fields}
use Rattle.drive_text.specs.TextLaws.{decimal_small, decimal_large, decimal-short}

-- ---- a byte

pub byte_in : {bs : List ℕ} {i : ℕ} (b : ℕ) → i < length bs → Wrote 1 (out_of bs i) (out_of (set bs i b) (i + 1)) (b ∷ [])
byte_in {bs} {i} b h = record { emitted = emits_in bs i b h; short = omega arith }

pub byte_out : {bs : List ℕ} {i : ℕ} (b : ℕ) → length bs ≤ i → Wrote 1 (out_of bs i) (out_of bs i) (b ∷ [])
byte_out {bs} {i} b h = record { emitted = emits_out bs i b h; short = omega arith }

-- ---- a text

pub text_turn : (bs : List ℕ) (i : ℕ) {x y z : Out} → i < length bs → Wrote i x y (take i bs) → Wrote 1 y z (get_or bs i 0 ∷ []) → Wrote (i + 1) x z (take (i + 1) bs)
text_turn bs i h v w = rw (add-one i, take-suc bs i 0 h, ← add-one i) (then v w)

pub text_end : (bs : List ℕ) (i : ℕ) {x y : Out} → i ≤ length bs → length bs ≤ i → Wrote i x y (take i bs) → Wrote (length bs) x y bs
text_end bs i h g w = at_most h (rw (take_all i bs g) at w)

-- ---- a number: its digits one after the other (the code makes them in an array first, TextLaws), and a number after a space

pub one_digit : (n : ℕ) {x y : Out} → n < 10 → Wrote 1 x y ((48 + n) ∷ []) → Wrote 20 x y (decimal n)
one_digit n h w = rw (decimal_small n h) (at_most (omega arith) w)

pub more_digits : (n : ℕ) {x y z : Out} → 10 ≤ n → n < 2 ^ 64 → Wrote 20 x y (decimal (n / 10)) → Wrote 1 y z ((48 + n % 10) ∷ []) → Wrote 20 x z (decimal n)
more_digits n {x} {y} {z} h g v w =
    let e : Wrote 21 x z (decimal n) = rw (decimal_large n h (omega arith)) (then v w) in
    record { emitted = e.emitted; short = decimal-short n }

-- by one text
pub number_text : (n : ℕ) {t : List ℕ} {x y : Out} → t ≡ decimal n → Wrote (length t) x y t → Wrote 20 x y (decimal n)
number_text n {t} {x} {y} e w =
    let d : Wrote (length (decimal n)) x y (decimal n) = rw e at w in
    at_most (decimal-short n) d

pub spaced : (n : ℕ) {x y z : Out} → Wrote 1 x y (32 ∷ []) → Wrote 20 y z (decimal n) → Wrote 21 x z (field n)
unfolding field
spaced n v w = then v w

-- ---- numbers

pub fields_append : (xs ys : List ℕ) → fields (xs ++ ys) ≡ fields xs ++ fields ys
unfolding fields
fields_append [] ys = refl
fields_append (x ∷ xs) ys = ap (λ (t : List ℕ). field x ++ t) (fields_append xs ys) ∙ sym (append_assoc (field x) (fields xs) (fields ys))

pub numbers_none : (x : Out) → Wrote (21 * 0) x x (fields [])
unfolding fields
numbers_none x = wrote_none x

pub numbers_turn : (ns : List ℕ) (i : ℕ) {x y z : Out} → i < length ns → Wrote (21 * i) x y (fields (take i ns)) → Wrote 21 y z (field (get_or ns i 0))
    → Wrote (21 * (i + 1)) x z (fields (take (i + 1) ns))
unfolding fields
numbers_turn ns i {x} {y} {z} h v w =
    let t : take (i + 1) ns ≡ take i ns ++ (get_or ns i 0 ∷ []) = rw (add-one i) (take-suc ns i 0 h) in
    let e : fields (take (i + 1) ns) ≡ fields (take i ns) ++ field (get_or ns i 0) =
    ap fields t ∙ fields_append (take i ns) (get_or ns i 0 ∷ []) ∙ ap (λ (s : List ℕ). fields (take i ns) ++ s) (append-nil (field (get_or ns i 0))) in
    rw e (at_most (omega arith) (then v w))

pub numbers_end : (ns : List ℕ) (i : ℕ) {x y : Out} → i ≤ length ns → length ns ≤ i → Wrote (21 * i) x y (fields (take i ns)) → Wrote (21 * length ns) x y (fields ns)
numbers_end ns i h g w = at_most (omega arith) (rw (take_all i ns g) at w)
