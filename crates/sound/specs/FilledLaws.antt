-- Clause 9: a gather's places by the object's kind, a law for each way through.
use Rattle.std.specs.Prelude.{◌≡◌, refl, Bool, true, false, not, ◌||◌, List, ℕ, eqb}
use Rattle.std.proofs.Common.{◌∙◌}
use Rattle.std.specs.Prelude.{None, Some}
use Rattle.std.specs.Option.{is_some}
use borrow.Author.Tests.{eq-eqb, ne_eqb}
use Rattle.asyncio.specs.States.{pick}
use Rattle.asyncio.specs.Kinds.{kind, each_object, is_awaited, is_completed}
use Rattle.asyncio.specs.Parts.{first_of, count_of, open_of}
use Rattle.asyncio.specs.declared.Kind.{Kind}
use Rattle.asyncio.specs.declared.Object.{Object}
use Rattle.asyncio.specs.Options.{OptionValue}
use Rattle.asyncio.specs.declared.Place.{Place}
use Rattle.rows.specs.Tables.{object_at, place_at}
use Rattle.machine.specs.Tests.{◌and◌}
use Rattle.machine.specs.Scheduler.{bit}
use Rattle.machine.specs.Sound.{is_filled, rest_filled, gather_filled, object_filled}

-- ---- a place

-- as Rust's Option has it
filled_told : (x : OptionValue) → is_some x ≡ is_filled x
unfolding is_filled
filled_told None = refl
filled_told (Some v) = refl

module _ (ps : List ℕ) (p m k : ℕ) where
  pub place_shut : {x : OptionValue} {r : Bool} → bit m k ≡ false → x ≡ (place_at ps p).result → r ≡ is_some x → r ≡ (bit m k || is_filled (place_at ps p).result)
  place_shut {x} e f h = rw (e, ← f) (h ∙ filled_told x)

-- ---- an object

filled-by : (ps : ℕ → Place) (x : Object) → object_filled ps x
    ≡ pick (is_awaited (kind x)) (not (eqb (open_of x) 0) and rest_filled ps (first_of x) (count_of x) (open_of x)) (pick (is_completed (kind x)) (rest_filled ps (first_of x) (count_of x) 0) true)
unfolding object_filled gather_filled kind open_of first_of count_of
filled-by ps x =
    each_object (λ (x : Object). object_filled ps x ≡ pick (is_awaited (kind x)) (not (eqb (open_of x) 0) and rest_filled ps (first_of x) (count_of x) (open_of x)) (pick (is_completed (kind x)) (rest_filled ps (first_of x) (count_of x) 0) true))
    refl (λ f. refl) (λ f. refl) (λ f. refl) (λ c w x. refl) (λ c v. refl) (λ c e. refl) (λ i n. refl) (λ i n w m. refl) (λ i n. refl)
    (λ i n e. refl) x

module _ (ps : ℕ → Place) (os : List ℕ) (o : ℕ) {k : Kind} (e : k ≡ kind (object_at os o)) where
  pub filled-other : is_awaited k ≡ false → is_completed k ≡ false → true ≡ object_filled ps (object_at os o)
  filled-other t u = rw (filled-by ps (object_at os o), ← e, t, u)

  module _ {i n : ℕ} {r : Bool} (f : i ≡ first_of (object_at os o)) (c : n ≡ count_of (object_at os o)) where
    pub filled-completed : is_awaited k ≡ false → is_completed k ≡ true → r ≡ rest_filled ps i n 0 → r ≡ object_filled ps (object_at os o)
    filled-completed t u h = rw (filled-by ps (object_at os o), ← e, t, u, ← f, ← c) h

    pub filled-awaited : {m : ℕ} → is_awaited k ≡ true → m ≡ open_of (object_at os o) → (m ≡ 0 → ⊥) → r ≡ rest_filled ps i n m → r ≡ object_filled ps (object_at os o)
    unfolding ◌and◌
    filled-awaited {m} t d z h = rw (filled-by ps (object_at os o), ← e, t, ← f, ← c, ← d, ne_eqb m 0 z) h

  pub filled_shut : {m : ℕ} → is_awaited k ≡ true → m ≡ open_of (object_at os o) → m ≡ 0 → false ≡ object_filled ps (object_at os o)
  unfolding ◌and◌
  filled_shut {m} t d z = rw (filled-by ps (object_at os o), ← e, t, ← d, eq-eqb m 0 z)
