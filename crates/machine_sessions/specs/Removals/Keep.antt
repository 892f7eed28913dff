-- A list without those that fail a test, the others in their former order; how long it is, and how many were left out.
use Rattle.std.specs.Prelude.{◌≡◌, refl, Bool, true, false, not, ◌&&◌, ◌||◌, List, [], ◌∷◌, ℕ, zero, suc, ◌+◌, ◌≤◌, ◌<◌, eqb, length}
use Rattle.std.proofs.Common.{sym, ap, ◌∙◌, zero-add, arith, eq-eqb, ne_eqb}
use Rattle.std.proofs.Math.Decide.{ℕ_discrete}
use Rattle.asyncio.specs.States.{pick}
use Rattle.queue.specs.Queue.{retain, one_if_same, occurrences, Distinct}
use Rattle.machine.specs.Tests.{count, is_in}
use Rattle.machine_laws.specs.CountLaws.{count_same, count-drop}

-- those that pass p, in their order
unfoldable pub keep : (ℕ → Bool) → List ℕ → List ℕ
keep p [] = []
keep p (x ∷ xs) = pick (p x) (x ∷ keep p xs) (keep p xs)

-- ---- two tests

-- the head of a list stands in it, and what stands behind it does too
head_stands : (x : ℕ) (xs : List ℕ) → 1 ≤ occurrences (x ∷ xs) x
unfolding occurrences
head_stands x xs = rw (eq-eqb x x refl) (omega arith)

tail_stands : (x : ℕ) (xs : List ℕ) (t : ℕ) → 1 ≤ occurrences xs t → 1 ≤ occurrences (x ∷ xs) t
unfolding occurrences
tail_stands x xs t h = omega (arith, h)

-- all of the list pass
pub keep_all : (p : ℕ → Bool) (l : List ℕ) → ((t : ℕ) → 1 ≤ occurrences l t → p t ≡ true) → keep p l ≡ l
unfolding keep
keep_all p [] h = refl
keep_all p (x ∷ xs) h = rw (h x (head_stands x xs), keep_all p xs (λ t o. h t (tail_stands x xs t o)))

-- none of it does
pub keep-none : (p : ℕ → Bool) (l : List ℕ) → ((t : ℕ) → 1 ≤ occurrences l t → p t ≡ false) → keep p l ≡ []
unfolding keep
keep-none p [] h = refl
keep-none p (x ∷ xs) h = rw (h x (head_stands x xs), keep-none p xs (λ t o. h t (tail_stands x xs t o)))

-- the same of it
pub keep_same : (p q : ℕ → Bool) (l : List ℕ) → ((t : ℕ) → 1 ≤ occurrences l t → p t ≡ q t) → keep p l ≡ keep q l
unfolding keep
keep_same p q [] h = refl
keep_same p q (x ∷ xs) h = rw (h x (head_stands x xs), keep_same p q xs (λ t o. h t (tail_stands x xs t o)))

-- q is p, but that t fails: t is taken out
pub keep_less : (p q : ℕ → Bool) (t : ℕ) (l : List ℕ) → q t ≡ false → ((v : ℕ) → (v ≡ t → ⊥) → q v ≡ p v) → keep q l ≡ retain (keep p l) t
unfolding keep retain
keep_less p q t [] fails same = refl
keep_less p q t (x ∷ xs) fails same = by (ℕ_discrete x t) (keep_less p q t xs fails same)
  where
    out : (b : Bool) (l : List ℕ) → eqb x t ≡ true → retain l t ≡ retain (pick b (x ∷ l) l) t
    out true l e = rw e
    out false l e = refl

    in-it : (b : Bool) (l m : List ℕ) → eqb x t ≡ false → m ≡ retain l t → pick b (x ∷ m) m ≡ retain (pick b (x ∷ l) l) t
    in-it true l m e h = rw (e, h)
    in-it false l m e h = h

    by : Dec (x ≡ t) → keep q xs ≡ retain (keep p xs) t → pick (q x) (x ∷ keep q xs) (keep q xs) ≡ retain (pick (p x) (x ∷ keep p xs) (keep p xs)) t
    by (yes e) h = rw (ap q e ∙ fails) (h ∙ out (p x) (keep p xs) (eq-eqb x t e))
    by (no ne) h = rw (same x ne) (in-it (p x) (keep p xs) (keep q xs) (ne_eqb x t ne) h)

-- ---- what stands there

pub keep-occurrences : (p : ℕ → Bool) (l : List ℕ) (t : ℕ) → occurrences (keep p l) t ≡ pick (p t) (occurrences l t) 0
unfolding keep occurrences
keep-occurrences p [] t = by (p t)
  where
    by : (b : Bool) → ◌≡◌ {A = ℕ} 0 (pick b 0 0)
    by true = refl
    by false = refl
keep-occurrences p (x ∷ xs) t = by (ℕ_discrete x t) (keep-occurrences p xs t)
  where
    other : (b : Bool) (m : ℕ) (l : List ℕ) → occurrences l t ≡ m → eqb x t ≡ false → occurrences (pick b (x ∷ l) l) t ≡ m
    other true m l h e = rw (e, zero-add) h
    other false m l h e = h

    here : (b : Bool) (l : List ℕ) → occurrences l t ≡ pick b (occurrences xs t) 0 → eqb x t ≡ true → occurrences (pick b (x ∷ l) l) t ≡ pick b (1 + occurrences xs t) 0
    here true l h e = rw (e, h)
    here false l h e = h

    by : Dec (x ≡ t) → occurrences (keep p xs) t ≡ pick (p t) (occurrences xs t) 0
        → occurrences (pick (p x) (x ∷ keep p xs) (keep p xs)) t ≡ pick (p t) (one_if_same x t + occurrences xs t) 0
    by (yes e) h = rw (ap p e, eq-eqb x t e) (here (p t) (keep p xs) h (eq-eqb x t e))
    by (no ne) h = rw (ne_eqb x t ne, zero-add) (other (p x) (pick (p t) (occurrences xs t) 0) (keep p xs) h (ne_eqb x t ne))

pub keep_distinct : (p : ℕ → Bool) (l : List ℕ) → Distinct l → Distinct (keep p l)
unfolding keep Distinct
keep_distinct p [] d = tt
keep_distinct p (x ∷ xs) d = by (p x) refl (keep_distinct p xs d.1)
  where
    none : (b : Bool) → pick b (occurrences xs x) 0 ≡ 0
    none true = d.0
    none false = refl

    by : (b : Bool) → p x ≡ b → Distinct (keep p xs) → Distinct (pick b (x ∷ keep p xs) (keep p xs))
    by true e h = (keep-occurrences p xs x ∙ none (p x), h)
    by false e h = h

-- ---- lengths

-- those that pass, and those that fail
pub keep_lengths : (p : ℕ → Bool) (l : List ℕ) → length l ≡ length (keep p l) + length (keep (λ t. not (p t)) l)
unfolding keep
keep_lengths p [] = refl
keep_lengths p (x ∷ xs) = by (p x) (keep_lengths p xs)
  where
    by : (b : Bool) → length xs ≡ length (keep p xs) + length (keep (λ t. not (p t)) xs)
        → suc (length xs) ≡ length (pick b (x ∷ keep p xs) (keep p xs)) + length (pick (not b) (x ∷ keep (λ t. not (p t)) xs) (keep (λ t. not (p t)) xs))
    by true h = omega (arith, h)
    by false h = omega (arith, h)

not_in : (l : List ℕ) (t : ℕ) → occurrences l t ≡ 0 → is_in t l ≡ false
unfolding occurrences is_in
not_in [] t h = refl
not_in (x ∷ xs) t h = by (eqb x t) h (not_in xs t)
  where
    by : (b : Bool) → pick b 1 0 + occurrences xs t ≡ 0 → (occurrences xs t ≡ 0 → is_in t xs ≡ false) → (b || is_in t xs) ≡ false
    by true g f = absurd (omega arith)
    by false g f = f (omega arith)

pub is_there : (l : List ℕ) (t : ℕ) → 1 ≤ occurrences l t → is_in t l ≡ true
unfolding occurrences is_in
is_there [] t h = absurd (omega arith)
is_there (x ∷ xs) t h = by (eqb x t) h (is_there xs t)
  where
    by : (b : Bool) → 1 ≤ pick b 1 0 + occurrences xs t → (1 ≤ occurrences xs t → is_in t xs ≡ true) → (b || is_in t xs) ≡ true
    by true g f = refl
    by false g f = f (omega arith)

-- of distinct numbers below n those that pass, counted by the numbers
pub keep-count : (p : ℕ → Bool) (n : ℕ) (l : List ℕ) → Distinct l → ((t : ℕ) → 1 ≤ occurrences l t → t < n) → length (keep p l) ≡ count (λ t. is_in t l && p t) n
unfolding keep Distinct is_in
keep-count p n [] d low = sym (none_below 0 n)
  where
    none_below : (i k : ℕ) → Rattle.machine.specs.Tests.count_from (λ t. false && p t) i k ≡ 0
    none_below i zero = refl
    none_below i (suc k) = none_below (suc i) k
keep-count p n (x ∷ xs) d low = by (p x) refl (keep-count p n xs d.1 (λ t o. low t (tail_stands x xs t o)))
  where
    f : ℕ → Bool
    f t = (eqb x t || is_in t xs) && p t

    g : ℕ → Bool
    g t = is_in t xs && p t

    other : (t : ℕ) → (t ≡ x → ⊥) → g t ≡ f t
    other t ne = rw (ne_eqb x t (λ e. ne (sym e)))

    behind : g x ≡ false
    behind = rw (not_in xs x d.0)

    same : p x ≡ false → (t : ℕ) → t < n → g t ≡ f t
    same e t l = at (ℕ_discrete t x)
      where
        no-and : (b : Bool) → b && false ≡ false
        no-and true = refl
        no-and false = refl

        at : Dec (t ≡ x) → g t ≡ f t
        at (yes q) = rw (q, behind, e) (sym (no-and (eqb x x || is_in x xs)))
        at (no ne) = other t ne

    by : (b : Bool) → p x ≡ b → length (keep p xs) ≡ count g n → length (pick b (x ∷ keep p xs) (keep p xs)) ≡ count f n
    by true e h = ap suc h ∙ sym (count-drop f g n x (low x (head_stands x xs)) (rw (eq-eqb x x refl, e)) behind other)
    by false e h = h ∙ count_same g f n (same e)
