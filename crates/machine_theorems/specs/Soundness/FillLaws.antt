-- What one value does to the open word and the places of its gather (`fill_from`): an open place that names the source is closed and has
-- the value; every other place stays, open or not.
use Rattle.std.specs.Prelude.{◌≡◌, refl, Bool, true, false, ◌&&◌, List, ℕ, zero, suc, ◌+◌, ◌-◌, ◌^◌, ◌≤◌, ◌<◌, eqb, length}
use Rattle.std.proofs.Common.{sym, ap, ◌∙◌, not-suc-le-zero, arith}
use Rattle.std.proofs.Math.Decide.{ℕ_discrete}
use Rattle.asyncio.specs.declared.Value.{Value}
use Rattle.std.specs.Prelude.{Some}
use Rattle.asyncio.specs.declared.Place.{Place}
use Rattle.asyncio.specs.States.{pick}
use Rattle.asyncio.specs.Ranges.{ValueFits}
use Rattle.asyncio.specs.Limits.{places_length, place_limit}
use Rattle.rows.specs.Tables.{place_at, place_put}
use Rattle.rows.specs.TableLaws.{place_at_put, place_at-other, place_at-fits}
use Rattle.machine.specs.Scheduler.{bit}
use Rattle.machine.specs.Delivery.{Filled, filled, fill_one, fill_from}
use Rattle.machine_laws.specs.TestLaws.{and-true}
use Rattle.machine_laws.specs.DeliveryLaws.{length-fill_from}
use Rattle.machine_theorems.specs.Bounds.Bits.{bit_clear, cleared}

-- place p with the value
abbrev pub with_value : List ℕ → ℕ → Value → Place
with_value ps p v = record { item = (place_at ps p).item; result = Some v }

-- place i is open and names the source
abbrev pub hit : List ℕ → ℕ → ℕ → ℕ → ℕ → Bool
hit ps m first source i = bit m i && eqb (place_at ps (first + i)).item.0 source

-- place j is as it was
pub record Stays (ps : List ℕ) (m first j : ℕ) (f : Filled) : Type 0 where
  pub same_place : place_at f.places (first + j) ≡ place_at ps (first + j)
  pub same_bit : bit f.open_places j ≡ bit m j

-- place j is closed, with the value
pub record Fills (ps : List ℕ) (m first j : ℕ) (v : Value) (f : Filled) : Type 0 where
  pub value : place_at f.places (first + j) ≡ with_value ps (first + j) v
  pub closed : bit f.open_places j ≡ false

-- ---- one place

by-hit : {A : Type 0} (a b : Bool) (x y : A) → pick a (pick b x y) y ≡ pick (a && b) x y
by-hit true b x y = refl
by-hit false b x y = refl

one-by-hit : (ps : List ℕ) (m first i source : ℕ) (v : Value)
    → fill_one ps m (first + i) i source v
    ≡ pick (hit ps m first source i) (filled (place_put ps (first + i) (with_value ps (first + i) v)) (m - 2 ^ i)) (filled ps m)
unfolding fill_one
one-by-hit ps m first i source v = by-hit (bit m i) (eqb (place_at ps (first + i)).item.0 source) _ _

one_fills : (ps : List ℕ) (m first i source : ℕ) (v : Value) → length ps ≡ places_length → first + i < place_limit → ValueFits v
    → hit ps m first source i ≡ true → Fills ps m first i v (fill_one ps m (first + i) i source v)
one_fills ps m first i source v z l k h = rw (one-by-hit ps m first i source v, h) (record {
  value = place_at_put ps (first + i) (with_value ps (first + i) v)
      (record { item_fits = (place_at-fits ps (first + i)).item_fits; result_fits = k }) (omega (arith, z, l));
  closed = cleared i m (and-true _ _ h).0;
})

one_misses : (ps : List ℕ) (m first i source : ℕ) (v : Value) → hit ps m first source i ≡ false
    → fill_one ps m (first + i) i source v ≡ filled ps m
one_misses ps m first i source v h = rw (one-by-hit ps m first i source v, h)

one-stays : (ps : List ℕ) (m first i source j : ℕ) (v : Value) → (j ≡ i → hit ps m first source j ≡ true → ⊥)
    → Stays ps m first j (fill_one ps m (first + i) i source v)
one-stays ps m first i source j v ne = by (hit ps m first source i) refl
  where
    apart : hit ps m first source i ≡ true → j ≡ i → ⊥
    apart h q = ne q (ap (hit ps m first source) q ∙ h)

    by : (b : Bool) → hit ps m first source i ≡ b → Stays ps m first j (fill_one ps m (first + i) i source v)
    by true h = rw (one-by-hit ps m first i source v, h) (record {
      same_place = place_at-other ps (first + i) (first + j) _ (λ q. apart h (omega (arith, q)));
      same_bit = bit_clear i m j (and-true _ _ h).0 (apart h);
    })
    by false h = rw (one_misses ps m first i source v h) (record { same_place = refl; same_bit = refl })

one_less : (ps : List ℕ) (m first i source : ℕ) (v : Value) → (fill_one ps m (first + i) i source v).open_places ≤ m
one_less ps m first i source v = by (hit ps m first source i) refl
  where
    by : (b : Bool) → hit ps m first source i ≡ b → (fill_one ps m (first + i) i source v).open_places ≤ m
    by true h = rw (one-by-hit ps m first i source v, h) (omega arith)
    by false h = rw (one_misses ps m first i source v h) (omega arith)

one-length : (ps : List ℕ) (m first i source : ℕ) (v : Value) → length (fill_one ps m (first + i) i source v).places ≡ length ps
unfolding fill_from
one-length ps m first i source v = length-fill_from 1 ps m first source v i

-- ---- the k places from i on

stays_then : (ps : List ℕ) (m first j : ℕ) (f h : Filled) → Stays ps m first j f → Stays f.places f.open_places first j h → Stays ps m first j h
stays_then ps m first j f h a b = record { same_place = b.same_place ∙ a.same_place; same_bit = b.same_bit ∙ a.same_bit }

same-hit : (ps : List ℕ) (m first source j : ℕ) (f : Filled) → Stays ps m first j f
    → hit f.places f.open_places first source j ≡ hit ps m first source j
same-hit ps m first source j f a = rw (a.same_bit, a.same_place)

-- a place before i, and one that is closed or names another, stays
pub fill_stays : (k : ℕ) (ps : List ℕ) (m first source : ℕ) (v : Value) (i j : ℕ) → (i ≤ j → hit ps m first source j ≡ true → ⊥)
    → Stays ps m first j (fill_from ps m first source v i k)
unfolding fill_from
fill_stays zero ps m first source v i j ne = record { same_place = refl; same_bit = refl }
fill_stays (suc k) ps m first source v i j ne =
    let f : Filled = fill_one ps m (first + i) i source v in
    let a : Stays ps m first j f = one-stays ps m first i source j v (λ q. ne (omega (arith, q))) in
    stays_then ps m first j f _ a
    (fill_stays k f.places f.open_places first source v (i + 1) j (λ l h. ne (omega (arith, l)) (sym (same-hit ps m first source j f a) ∙ h)))

-- an open place that names the source is filled
pub fill_fills : (k : ℕ) (ps : List ℕ) (m first source : ℕ) (v : Value) (i j : ℕ) → length ps ≡ places_length → first + i + k ≤ place_limit → ValueFits v
    → i ≤ j → j < i + k → hit ps m first source j ≡ true → Fills ps m first j v (fill_from ps m first source v i k)
unfolding fill_from
fill_fills zero ps m first source v i j z r fv lo hi h = absurd (not-suc-le-zero {n = 0} (omega (arith, lo, hi)))
fill_fills (suc k) ps m first source v i j z r fv lo hi h =
    by (ℕ_discrete j i) (λ w l. fill_fills k f.places f.open_places first source v (i + 1) j (one-length ps m first i source v ∙ z) (omega (arith, r)) fv l (omega (arith, hi)) w)
  where
    f : Filled
    f = fill_one ps m (first + i) i source v

    last : Filled
    last = fill_from f.places f.open_places first source v (i + 1) k

    here : j ≡ i → Fills ps m first j v last
    here q =
        let a : Fills ps m first i v f = one_fills ps m first i source v z (omega (arith, r)) fv (ap (hit ps m first source) (sym q) ∙ h) in
        let b : Stays f.places f.open_places first i last = fill_stays k f.places f.open_places first source v (i + 1) i (λ l. absurd (not-suc-le-zero {n = 0} (omega (arith, l)))) in
        rw q (record { value = b.same_place ∙ a.value; closed = b.same_bit ∙ a.closed })

    by : Dec (j ≡ i) → (hit f.places f.open_places first source j ≡ true → i + 1 ≤ j → Fills f.places f.open_places first j v last) → Fills ps m first j v last
    by (yes q) go = here q
    by (no ne) go =
        let a : Stays ps m first j f = one-stays ps m first i source j v (λ q. absurd (ne q)) in
        let b : Fills f.places f.open_places first j v last = go (same-hit ps m first source j f a ∙ h) (omega (arith, lo, ne)) in
        record { value = b.value ∙ ap (λ (p : Place). record { item = p.item; result = Some v }) a.same_place; closed = b.closed }

-- no bit is set that was not
pub fill_less : (k : ℕ) (ps : List ℕ) (m first source : ℕ) (v : Value) (i : ℕ) → (fill_from ps m first source v i k).open_places ≤ m
unfolding fill_from
fill_less zero ps m first source v i = omega arith
fill_less (suc k) ps m first source v i =
    let f : Filled = fill_one ps m (first + i) i source v in
    omega (arith, one_less ps m first i source v, fill_less k f.places f.open_places first source v (i + 1))
