-- The places of a gather, written one after the other.
use Rattle.std.specs.Prelude.{◌≡◌, refl, not, List, [], ◌∷◌, ◌++◌, ℕ, zero, suc, ◌+◌, ◌*◌, ◌/◌, ◌%◌, ◌^◌, eqb}
use Rattle.std.proofs.Common.{sym, ap, ◌∙◌, append_assoc, append-nil, add-one, pow-suc, arith}
use Rattle.std.proofs.Math.Option.{Option}
use Rattle.std.proofs.Math.Nat.{div-div-eq-div-mul}
use Rattle.asyncio.specs.declared.Value.{Value}
use Rattle.rows.specs.Tables.{place_at}
use Rattle.machine.specs.Scheduler.{bit}
use Rattle.machine.specs.Machine.{slot_value}
use Rattle.step_read.specs.Reads.{places_from}
use Rattle.drive_text.specs.Out.{Out, Wrote}
use Rattle.drive_text.specs.OutLaws.{wrote_none, then, at_most}
use Rattle.drive_lines.specs.Lines.{place_text, places_text}

-- place i of the gather that starts at f, with open word m
abbrev place_shown : List ℕ → ℕ → ℕ → ℕ → Option Value
place_shown ps f m i = slot_value (bit m i) (place_at ps (f + i)).result

-- one place more
places_more : (ps : List ℕ) (f m n i : ℕ) → places_from ps f m i (suc n) ≡ places_from ps f m i n ++ (place_shown ps f m (i + n) ∷ [])
unfolding places_from
places_more ps f m zero i = let e : i ≡ i + 0 = omega arith in ap (λ (j : ℕ). place_shown ps f m j ∷ []) e
places_more ps f m (suc n) i =
    let e : (i + 1) + n ≡ i + suc n = omega arith in
    ap (λ (xs : List (Option Value)). place_shown ps f m i ∷ xs)
    (places_more ps f m n (i + 1) ∙ ap (λ (j : ℕ). places_from ps f m (i + 1) n ++ (place_shown ps f m j ∷ [])) e)

places_append : (xs ys : List (Option Value)) → places_text (xs ++ ys) ≡ places_text xs ++ places_text ys
unfolding places_text
places_append [] ys = refl
places_append (x ∷ xs) ys = ap (λ (t : List ℕ). place_text x ++ t) (places_append xs ys) ∙ sym (append_assoc (place_text x) (places_text xs) (places_text ys))

pub places-none : (ps : List ℕ) (f m : ℕ) (x : Out) → Wrote (27 * 0) x x (places_text (places_from ps f m 0 0))
unfolding places_from places_text
places-none ps f m x = wrote_none x

pub places_turn : (ps : List ℕ) (f m i : ℕ) {r : ℕ} {x y z : Out} → r ≡ m / 2 ^ i → Wrote (27 * i) x y (places_text (places_from ps f m 0 i))
    → Wrote 27 y z (place_text (slot_value (not (eqb (r % 2) 0)) (place_at ps (f + i)).result)) → Wrote (27 * (i + 1)) x z (places_text (places_from ps f m 0 (i + 1)))
unfolding places_text
places_turn ps f m i {r} {x} {y} {z} e v w =
    let o : 0 + i ≡ i = omega arith in
    let t : places_from ps f m 0 (i + 1) ≡ places_from ps f m 0 i ++ (place_shown ps f m i ∷ []) =
    ap (λ (k : ℕ). places_from ps f m 0 k) (add-one i) ∙ places_more ps f m i 0 ∙ ap (λ (k : ℕ). places_from ps f m 0 i ++ (place_shown ps f m k ∷ [])) o in
    let s : places_text (places_from ps f m 0 (i + 1)) ≡ places_text (places_from ps f m 0 i) ++ place_text (place_shown ps f m i) =
    ap places_text t ∙ places_append (places_from ps f m 0 i) (place_shown ps f m i ∷ [])
    ∙ ap (λ (l : List ℕ). places_text (places_from ps f m 0 i) ++ l) (append-nil (place_text (place_shown ps f m i))) in
    let u : Wrote 27 y z (place_text (place_shown ps f m i)) = rw e at w in
    rw s (at_most (omega arith) (then v u))

-- the open word without one bit more
pub halved : (m i : ℕ) {r : ℕ} → r ≡ m / 2 ^ i → r / 2 ≡ m / 2 ^ (i + 1)
halved m i e = rw (e, add-one i, pow-suc 2 i) (div-div-eq-div-mul m (2 ^ i) 2)

pub whole : (m : ℕ) → m ≡ m / 2 ^ 0
whole m = omega arith

pub places_end : (ps : List ℕ) (f m : ℕ) {i n : ℕ} {x y : Out} → i ≡ n → Wrote (27 * i) x y (places_text (places_from ps f m 0 i)) → Wrote (27 * n) x y (places_text (places_from ps f m 0 n))
places_end ps f m e w = rw e at w
