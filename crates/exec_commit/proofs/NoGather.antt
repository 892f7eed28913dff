-- What a `let .. else` leaves: case by case.
use Rattle.std.specs.Prelude.{◌≡◌, ℕ, None, Some}
use Rattle.std.specs.Prelude as rust
use Rattle.std.proofs.Common.{refl}
use Rattle.asyncio.specs.declared.GatherState.{GatherState}
use Rattle.asyncio.specs.declared.Object.{Object}
use Rattle.machine.specs.Commit.{with_state}

-- what is not some value is none
pub not_some : {A : Type 0} (x : rust.Option A) → ((a : A) → x ≡ Some a → ⊥) → x ≡ None
not_some None h = refl
not_some (Some a) h = absurd (h a refl)

-- an object that is no gather has no state to change
pub no_gather : (o : Object) (y : GatherState) → ((i n : ℕ) (s : GatherState) → o ≡ Object.GatherFuture i n s → ⊥) → o ≡ with_state o y
unfolding with_state
no_gather Object.Unmade y h = refl
no_gather (Object.Coroutine f x) y h = refl
no_gather (Object.ExternalFuture c x) y h = refl
no_gather (Object.GatherFuture i n s) y h = absurd (h i n s refl)
