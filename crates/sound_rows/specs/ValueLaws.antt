-- Clauses 3 and 4: the items of an object by its places, and the values of an object by its row's words.
use Rattle.std.specs.Prelude.{◌≡◌, refl, Bool, true, List, ℕ, ◌+◌, ltb, get_or}
use Rattle.std.proofs.Common.{◌∙◌}
use Rattle.asyncio.specs.Layout.{to_value, to_option, to_kind, row_object, to_object}
use Rattle.asyncio.specs.Parts.{first_of, count_of}
use Rattle.asyncio.specs.declared.Kind.{Kind}
use Rattle.asyncio.specs.declared.Object.{Object}
use Rattle.asyncio.specs.Options.{OptionValue}
use Rattle.asyncio.specs.declared.Place.{Place}
use Rattle.asyncio.specs.declared.Value.{Value}
use Rattle.rows.specs.Rows.{row_from}
use Rattle.rows.specs.Tables.{object_at, object_start}
use Rattle.machine.specs.Tests.{all_below}
use Rattle.machine.specs.Sound.{items_below, value_known, option_known, object_values}
use Rattle.sound_words.specs.Loops.{all_none}

-- ---- 3. items

items-by : (ps : ℕ → Place) (g : ℕ) (x : Object) → all_below (count_of x) (λ k. ltb (ps (first_of x + k)).item.0 g) ≡ items_below ps g x
unfolding items_below first_of count_of
items-by ps g Object.Unmade = all_none _
items-by ps g (Object.Coroutine f s) = all_none _
items-by ps g (Object.ExternalFuture c s) = all_none _
items-by ps g (Object.GatherFuture i n s) = refl

pub items-read : (os : List ℕ) (ps : ℕ → Place) (g : ℕ) {i n : ℕ} {r : Bool} → i ≡ first_of (object_at os g) → n ≡ count_of (object_at os g)
    → r ≡ all_below n (λ k. ltb (ps (i + k)).item.0 g) → r ≡ items_below ps g (object_at os g)
items-read os ps g e f h = h ∙ rw (e, f) (items-by ps g (object_at os g))

-- ---- 4. values

-- an object that is neither a pending external nor a resolved one holds none
other-kind : (made : ℕ) (os : ℕ → Object) (w : List ℕ) (k : Kind) → (k ≡ Kind.PendingExternal → ⊥) → (k ≡ Kind.ResolvedExternal → ⊥)
    → true ≡ object_values made os (row_object k w)
unfolding object_values
other-kind made os w Kind.Unmade p q = refl
other-kind made os w Kind.NewCoroutine p q = refl
other-kind made os w Kind.RunningCoroutine p q = refl
other-kind made os w Kind.CompletedCoroutine p q = refl
other-kind made os w Kind.PendingExternal p q = absurd (p refl)
other-kind made os w Kind.ResolvedExternal p q = absurd (q refl)
other-kind made os w Kind.FailedExternal p q = refl
other-kind made os w Kind.PendingGather p q = refl
other-kind made os w Kind.AwaitedGather p q = refl
other-kind made os w Kind.CompletedGather p q = refl
other-kind made os w Kind.FailedGather p q = refl

-- by the words of its row
module _ (made : ℕ) (os : List ℕ) (o : ℕ) {row : List ℕ} (e : row ≡ row_from os (object_start o) 0 8) where
  read-from : object_at os o ≡ to_object row
  unfolding object_at
  read-from = rw e

  pub values-pending : {x : OptionValue} {r : Bool} → to_kind (get_or row 0 0) ≡ Kind.PendingExternal → x ≡ to_option (get_or row 5 0) (get_or row 6 0) → r ≡ option_known made (object_at os) x
      → r ≡ object_values made (object_at os) (object_at os o)
  unfolding object_values
  values-pending k q h = rw (read-from, k) (h ∙ rw q)

  pub values_resolved : {v : Value} {r : Bool} → to_kind (get_or row 0 0) ≡ Kind.ResolvedExternal → v ≡ to_value (get_or row 5 0) (get_or row 6 0) → r ≡ value_known made (object_at os) v
      → r ≡ object_values made (object_at os) (object_at os o)
  unfolding object_values
  values_resolved k q h = rw (read-from, k) (h ∙ rw q)

  pub values-none : (to_kind (get_or row 0 0) ≡ Kind.PendingExternal → ⊥) → (to_kind (get_or row 0 0) ≡ Kind.ResolvedExternal → ⊥)
      → true ≡ object_values made (object_at os) (object_at os o)
  values-none p q = rw read-from (other-kind made (object_at os) row (to_kind (get_or row 0 0)) p q)
