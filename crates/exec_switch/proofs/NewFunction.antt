-- Which objects have a function to start: case by case.
use Rattle.std.specs.Prelude.{◌≡◌, ℕ}
use Rattle.std.proofs.Common.{refl}
use Rattle.std.proofs.Math.Option.{none}
use Rattle.asyncio.specs.declared.CoroutineState.{CoroutineState}
use Rattle.asyncio.specs.declared.Object.{Object}
use Rattle.machine.specs.Events.{new_function}

-- what is no coroutine has no function to start, and no coroutine that is not new has one
pub no_new_function : (x : Object) → ((f : ℕ) (s : CoroutineState) → x ≡ Object.Coroutine f s → ⊥) → new_function x ≡ none
unfolding new_function
no_new_function Object.Unmade h = refl
no_new_function (Object.Coroutine f s) h = absurd (h f s refl)
no_new_function (Object.ExternalFuture c s) h = refl
no_new_function (Object.GatherFuture i n s) h = refl

pub no_function_unless_new : (f : ℕ) (s : CoroutineState) → (s ≡ CoroutineState.New → ⊥) → new_function (Object.Coroutine f s) ≡ none
unfolding new_function
no_function_unless_new f CoroutineState.New h = absurd (h refl)
no_function_unless_new f CoroutineState.Running h = refl
no_function_unless_new f CoroutineState.Completed h = refl
