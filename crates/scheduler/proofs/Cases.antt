-- Case by case: a moment that is not the end, and what `is_some` says of what was found.
use Rattle.std.specs.Prelude.{◌≡◌, ℕ, true, false, None, Some, is_some}
use Rattle.std.proofs.Common.{refl, arith}
use Rattle.asyncio.specs.declared.Moment.{Moment}
use Rattle.asyncio.specs.declared.TaskId.{TaskId}
use Rattle.machine.specs.Sound.{is_ended}
use Rattle.scheduler.specs.Search.{FoundTask}

pub not_ended : (x : Moment) → (x ≡ Moment.Ended → ⊥) → is_ended x ≡ false
unfolding is_ended
not_ended (Moment.Running t) h = refl
not_ended Moment.Waiting h = refl
not_ended Moment.Ended h = absurd (h refl)

pub is_found : (d : FoundTask) → is_some d ≡ true → (n : TaskId) × (d ≡ Some n)
is_found None e = let z : ◌≡◌ {A = ℕ} 0 1 = cc in absurd (omega arith)
is_found (Some n) e = (n, refl)

pub is_not_found : (d : FoundTask) → is_some d ≡ false → d ≡ None
is_not_found None e = refl
is_not_found (Some n) e = let z : ◌≡◌ {A = ℕ} 0 1 = cc in absurd (omega arith)
