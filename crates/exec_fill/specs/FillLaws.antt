-- How the loop of fill_places meets `fill_from`, and the ways through fill_one.
use Rattle.std.specs.Prelude.{◌≡◌, refl, Bool, true, false, not, List, ℕ, suc, ◌+◌, ◌-◌, ◌/◌, ◌%◌, ◌^◌, ◌≤◌, ◌<◌, ◌&&◌, eqb, Some}
use Rattle.std.proofs.Common.{sym, ap, ◌∙◌, arith, true≢false, eqb-true, eq-eqb}
use Rattle.asyncio.specs.Numbers.{heap_id}
use Rattle.asyncio.specs.States.{pick}
use Rattle.asyncio.specs.declared.HeapId.{HeapId}
use Rattle.asyncio.specs.declared.Value.{Value}
use Rattle.rows.specs.Tables.{place_at, place_put}
use Rattle.machine.specs.Scheduler.{bit}
use Rattle.machine.specs.Delivery.{Filled, filled, fill_one, fill_from}
use Rattle.machine_laws.specs.BitLaws.{bit_le}
use Rattle.machine_laws.specs.TestLaws.{and-true}
use Rattle.scheduler_states.specs.OpenPlaces.{open_here}

-- where not both hold, the second is taken
not_both : (a b : Bool) (x y : Filled) → (a && b) ≡ false → y ≡ pick a (pick b x y) y
not_both true true x y e = absurd (true≢false e)
not_both true false x y e = refl
not_both false b x y e = refl

module _ (ps : List ℕ) (m p i : ℕ) (source : HeapId) (v : Value) {b : Bool} (e : b ≡ open_here (place_at ps) m p i source.0) where
  -- the place is not open, or names another object
  pub fill_other : b ≡ false → filled ps m ≡ fill_one ps m p i source.0 v
  unfolding fill_one
  fill_other f = not_both (bit m i) (eqb (place_at ps p).item.0 source.0) _ _ (sym e ∙ f)

  module _ (f : b ≡ true) where
    both : (bit m i ≡ true) × (eqb (place_at ps p).item.0 source.0 ≡ true)
    both = and-true (bit m i) (eqb (place_at ps p).item.0 source.0) (sym e ∙ f)

    pub bit_within : 2 ^ i ≤ m
    bit_within = bit_le m i (λ z. true≢false (sym both.0 ∙ ap not (eq-eqb (m / 2 ^ i % 2) 0 z)))

    pub fill_here : {qs : List ℕ} → qs ≡ place_put ps p (record { item = source; result = Some v }) → {k : ℕ} → k ≡ m - 2 ^ i
        → filled qs k ≡ fill_one ps m p i source.0 v
    unfolding fill_one
    fill_here q r =
        let s : (place_at ps p).item ≡ source = ap heap_id (eqb-true (place_at ps p).item.0 source.0 both.1) in
        rw (both.0, both.1, s, q, r)

pub fill_turn : (ps : List ℕ) (m : ℕ) {qs : List ℕ} {k : ℕ} (first source : ℕ) (v : Value) (i n : ℕ) → i < n
    → filled qs k ≡ fill_one ps m (first + i) i source v
    → fill_from qs k first source v (i + 1) (n - (i + 1)) ≡ fill_from ps m first source v i (n - i)
unfolding fill_from
fill_turn ps m first source v i n h q =
    let e : n - i ≡ suc (n - (i + 1)) = omega arith in
    rw e (ap (λ (f : Filled). fill_from f.places f.open_places first source v (i + 1) (n - (i + 1))) q)

pub fill_end : (ps : List ℕ) (m first source : ℕ) (v : Value) (i n : ℕ) → n ≤ i → filled ps m ≡ fill_from ps m first source v i (n - i)
unfolding fill_from
fill_end ps m first source v i n h = let e : n - i ≡ 0 = omega arith in rw e

pub fill_begin : (ps : List ℕ) (m first source : ℕ) (v : Value) (n : ℕ) → fill_from ps m first source v 0 (n - 0) ≡ fill_from ps m first source v 0 n
fill_begin ps m first source v n = let e : n - 0 ≡ n = omega arith in rw e
