-- How a loop meets `first_from`: here, one further, at the end; and how the two searches begin.
use Rattle.std.specs.Prelude.{◌≡◌, refl, Bool, true, List, None, Some}
use Rattle.std.proofs.Common.{ap}
use Rattle.std.proofs.Math.Bool.{false}
use Rattle.std.proofs.Math.Option.{Option, none, some}
use Prim.Native.Nat.{ℕ, suc, ◌+◌, ◌-◌, ◌≤◌, ◌<◌}
use native.Mathlib.Omega.{arith}
use Rattle.asyncio.specs.declared.Header.{Header}
use Rattle.rows.specs.Tables.{task_at, header_at}
use Rattle.asyncio.specs.Numbers.{task_id, heap_id}
use Rattle.asyncio.specs.declared.TaskId.{TaskId}
use Rattle.asyncio.specs.declared.HeapId.{HeapId}
use Rattle.scheduler.specs.Search.{found_task, found_object}
use Rattle.machine.specs.Scheduler.{first_from, is_task_of, task_of_in, is_call, pending_external_in}

-- j is the number that the code tested, i as a number of its type
module _ (p : ℕ → Bool) (i n : ℕ) {j : ℕ} where
  pub first_here : i < n → j ≡ i → true ≡ p j → first_from p i (n - i) ≡ some i
  unfolding first_from
  first_here h e q = let k : n - i ≡ suc (n - (i + 1)) = omega arith in rw (k, ← e, ← q)

  pub first_turn : i < n → j ≡ i → false ≡ p j → first_from p (i + 1) (n - (i + 1)) ≡ first_from p i (n - i)
  unfolding first_from
  first_turn h e q = let k : n - i ≡ suc (n - (i + 1)) = omega arith in let q' : false ≡ p i = rw e at q in rw (k, ← q')

module _ (p : ℕ → Bool) (i n : ℕ) where
  pub first_end : n ≤ i → first_from p i (n - i) ≡ none
  unfolding first_from
  first_end h = let e : n - i ≡ 0 = omega arith in rw e

pub task_of-begins : (ts : List ℕ) (n c : ℕ) → first_from (λ t. is_task_of c (task_at ts t)) 1 (n - 1) ≡ task_of_in ts n c
unfolding task_of_in
task_of-begins ts n c = refl

pub pending-begins : (os : List ℕ) (call : ℕ) {h : Header} → h ≡ header_at os → first_from (is_call os call) 0 (h.made - 0) ≡ pending_external_in os call
unfolding pending_external_in
pending-begins os call {h} e = let k : h.made - 0 ≡ h.made = omega arith in rw (k, e)

-- what the code found is what the search gave
pub task-found : (o : Option ℕ) (t : TaskId) → found_task o ≡ Some t → o ≡ some t.0
task-found none t e = let z : ◌≡◌ {A = ℕ} 0 1 = cc in absurd (omega arith)
task-found (some m) t e = let z : task_id m ≡ t = cc in ap (λ (x : TaskId). some x.0) z

pub no_task : (o : Option ℕ) → found_task o ≡ None → o ≡ none
no_task none e = refl
no_task (some m) e = let z : ◌≡◌ {A = ℕ} 0 1 = cc in absurd (omega arith)

pub object-found : (o : Option ℕ) (h : HeapId) → found_object o ≡ Some h → o ≡ some h.0
object-found none h e = let z : ◌≡◌ {A = ℕ} 0 1 = cc in absurd (omega arith)
object-found (some m) h e = let z : heap_id m ≡ h = cc in ap (λ (x : HeapId). some x.0) z

pub no_object : (o : Option ℕ) → found_object o ≡ None → o ≡ none
no_object none e = refl
no_object (some m) e = let z : ◌≡◌ {A = ℕ} 0 1 = cc in absurd (omega arith)
