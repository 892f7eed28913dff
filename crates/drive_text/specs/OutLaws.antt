-- Laws of writing: bytes in sequence, and what the buffer holds where they fit.
use Rattle.std.specs.Prelude.{◌≡◌, refl, Bool, true, false, List, [], ◌∷◌, ◌++◌, ℕ, suc, ◌+◌, ◌≤◌, ◌<◌, ltb, length, take, drop, set}
use Rattle.std.proofs.Common.{sym, ap, ◌∙◌, add-one, arith, length-append, length-set, lt-ltb, le-ltb, ltb-true, ltb-false}
use Rattle.std.proofs.lemmas.List.Edits.{sets, sets-eq}
use Rattle.drive_text.specs.Out.{Out, out_of, emit1, emit, Wrote}

-- ---- one byte

pub emits_in : (bs : List ℕ) (i b : ℕ) → i < length bs → out_of (set bs i b) (i + 1) ≡ emit (out_of bs i) (b ∷ [])
unfolding emit1 emit
emits_in bs i b h = rw (lt-ltb i (length bs) h)

pub emits_out : (bs : List ℕ) (i b : ℕ) → length bs ≤ i → out_of bs i ≡ emit (out_of bs i) (b ∷ [])
unfolding emit1 emit
emits_out bs i b h = rw (le-ltb i (length bs) h)

-- ---- one text after the other

pub emit_append : (o : Out) (xs ys : List ℕ) → emit o (xs ++ ys) ≡ emit (emit o xs) ys
unfolding emit
emit_append o [] ys = refl
emit_append o (x ∷ xs) ys = emit_append (emit1 o x) xs ys

pub wrote_none : (x : Out) → Wrote 0 x x []
unfolding emit
wrote_none x = record { emitted = refl; short = omega arith }

pub then : {j k : ℕ} {x y z : Out} {a b : List ℕ} → Wrote j x y a → Wrote k y z b → Wrote (j + k) x z (a ++ b)
then {j} {k} {x} {y} {z} {a} {b} v w = record {
  emitted = w.emitted ∙ ap (λ (o : Out). emit o b) v.emitted ∙ sym (emit_append x a b);
  short = rw (length-append a b) (omega (arith, v.short, w.short));
}

pub at_most : {j k : ℕ} {x y : Out} {a : List ℕ} → j ≤ k → Wrote j x y a → Wrote k x y a
at_most h w = record { emitted = w.emitted; short = omega (arith, w.short) }

-- ---- what a caller has

-- by a test, with what it tells
pub by_test : (A : Type 0) (t : Bool) → (t ≡ true → A) → (t ≡ false → A) → A
by_test A true p q = p refl
by_test A false p q = q refl

emit-full : (bs : List ℕ) (i : ℕ) (xs : List ℕ) → length bs ≤ i → emit (out_of bs i) xs ≡ out_of bs i
unfolding emit
emit-full bs i [] h = refl
emit-full bs i (x ∷ xs) h = let e : emit1 (out_of bs i) x ≡ out_of bs i = unfold emit1 in rw (le-ltb i (length bs) h) in rw e (emit-full bs i xs h)

emit-one : (bs : List ℕ) (i b : ℕ) → i < length bs → emit1 (out_of bs i) b ≡ out_of (set bs i b) (suc i)
unfolding emit1
emit-one bs i b h = rw (lt-ltb i (length bs) h, add-one)

-- the buffer keeps its length
pub emit-length : (bs : List ℕ) (i : ℕ) (xs : List ℕ) → length (emit (out_of bs i) xs).bytes ≡ length bs
unfolding emit
emit-length bs i [] = refl
emit-length bs i (x ∷ xs) =
    by_test (length (emit (emit1 (out_of bs i) x) xs).bytes ≡ length bs) (ltb i (length bs))
    (λ h. rw (emit-one bs i x (ltb-true i (length bs) h)) (emit-length (set bs i x) (suc i) xs ∙ length-set bs i x))
    (λ h. ap (λ (o : Out). length o.bytes) (emit-full bs i (x ∷ xs) (ltb-false i (length bs) h)))

emit-sets : (bs : List ℕ) (i : ℕ) (xs : List ℕ) → i + length xs ≤ length bs → emit (out_of bs i) xs ≡ out_of (sets bs i xs) (i + length xs)
unfolding emit
emit-sets bs i [] h = let e : i ≡ i + 0 = omega arith in ap (λ (k : ℕ). out_of bs k) e
emit-sets bs i (x ∷ xs) h =
    let e : suc i + length xs ≡ i + suc (length xs) = omega arith in
    let l : suc i + length xs ≤ length (set bs i x) = rw (length-set bs i x) (omega arith) in
    rw (emit-one bs i x (omega arith)) (emit-sets (set bs i x) (suc i) xs l ∙ ap (λ (k : ℕ). out_of (sets (set bs i x) (suc i) xs) k) e)

-- where the bytes fit, they stand in the buffer from the place on, all else is as before, and the place is behind them
pub emit_exact : (bs : List ℕ) (i : ℕ) (xs : List ℕ) → i + length xs ≤ length bs
    → emit (out_of bs i) xs ≡ out_of (take i bs ++ xs ++ drop (i + length xs) bs) (i + length xs)
emit_exact bs i xs h = emit-sets bs i xs h ∙ ap (λ (l : List ℕ). out_of l (i + length xs)) (sets-eq xs bs i h)

-- they did fit where the place is not the buffer's end
pub emit_fitted : (bs : List ℕ) (i : ℕ) (xs : List ℕ) → (emit (out_of bs i) xs).at < length bs → i + length xs ≤ length bs
unfolding emit
emit_fitted bs i [] h = omega arith
emit_fitted bs i (x ∷ xs) h =
    by_test (i + suc (length xs) ≤ length bs) (ltb i (length bs))
    (λ t. let l : length (set bs i x) ≡ length bs = length-set bs i x in
    let g : (emit (out_of (set bs i x) (suc i)) xs).at < length (set bs i x) = rw (l, ← emit-one bs i x (ltb-true i (length bs) t)) h in
    omega (arith, emit_fitted (set bs i x) (suc i) xs g))
    (λ t. let e : (emit (out_of bs i) (x ∷ xs)).at ≡ i = ap (λ (o : Out). o.at) (emit-full bs i (x ∷ xs) (ltb-false i (length bs) t)) in
    let u : length bs ≤ i = ltb-false i (length bs) t in
    let v : i < length bs = rw e at h in
    omega arith)

-- a function that wrote at most k bytes where k had room
pub wrote_exact : {k : ℕ} {bs cs : List ℕ} {i j : ℕ} {xs : List ℕ} → Wrote k (out_of bs i) (out_of cs j) xs → i + k ≤ length bs
    → out_of cs j ≡ out_of (take i bs ++ xs ++ drop (i + length xs) bs) (i + length xs)
wrote_exact {k} {bs} {cs} {i} {j} {xs} w h = w.emitted ∙ emit_exact bs i xs (omega (arith, w.short))
