-- Case by case: a state that is no wait, and the bit of a place.
use Rattle.std.specs.Prelude.{◌≡◌, Bool, true, false, ℕ, not, None, Some, Option}
use Rattle.std.proofs.Common.{refl, eqb-true, eqb}
use Prim.Native.Nat.{◌/◌, ◌%◌, ◌^◌}
use native.Mathlib.Omega.{arith}
use Rattle.asyncio.specs.declared.HeapId.{HeapId}
use Rattle.asyncio.specs.declared.TaskState.{TaskState}
use Rattle.machine.specs.Scheduler.{bit, blocked_on}
use Rattle.scheduler.specs.Search.{found_object}

pub not_blocked : (x : TaskState) → ((o : HeapId) → x ≡ TaskState.Blocked o → ⊥) → None ≡ found_object (blocked_on x)
unfolding blocked_on
not_blocked TaskState.Absent h = refl
not_blocked TaskState.Unstarted h = refl
not_blocked TaskState.Running h = refl
not_blocked (TaskState.Woken v) h = refl
not_blocked (TaskState.Raised e) h = refl
not_blocked (TaskState.Blocked o) h = absurd (h o refl)

pub not_some : {A : Type 0} (o : Option A) → ((a : A) → o ≡ Some a → ⊥) → o ≡ None
not_some None h = refl
not_some (Some a) h = absurd (h a refl)

pub bit_clear : (m i : ℕ) → bit m i ≡ false → m / 2 ^ i % 2 ≡ 0
bit_clear m i e = by (eqb (m / 2 ^ i % 2) 0) refl e
  where
    by : (b : Bool) → eqb (m / 2 ^ i % 2) 0 ≡ b → not b ≡ false → m / 2 ^ i % 2 ≡ 0
    by true q e = eqb-true (m / 2 ^ i % 2) 0 q
    by false q e = let z : ◌≡◌ {A = ℕ} 0 1 = cc in absurd (omega arith)

pub bit_set : (m i : ℕ) → bit m i ≡ true → m / 2 ^ i % 2 ≡ 0 → ⊥
bit_set m i e z = by (rw z at e)
  where
    by : false ≡ true → ⊥
    by q = let z : ◌≡◌ {A = ℕ} 0 1 = cc in absurd (omega arith)
