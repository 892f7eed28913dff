-- The table of the coroutines' tasks: how find_tasks fills it, and the ways through live_task_of.
use Rattle.std.specs.Prelude.{◌≡◌, refl, Bool, true, false, List, eqb, length, get_or, set, replicate, None, Some}
use Rattle.std.proofs.Common.{sym, ap, ◌∙◌, mod-eq_of_lt, get_or-set_same, get_or-set_other, ne_eqb, eqb-true}
use Rattle.std.proofs.Math.Option.{Option, none, some}
use Prim.Native.Nat.{ℕ, zero, suc, ◌+◌, ◌-◌, ◌%◌, ◌≤◌, ◌<◌, min}
use native.Mathlib.Omega.{arith}
use Rattle.std.proofs.lemmas.Bool.{eqb-false}
use Rattle.asyncio.specs.Limits.{task_limit, object_limit}
use Rattle.asyncio.specs.States.{pick, is_live, is_main}
use Rattle.asyncio.specs.Numbers.{to_task_id}
use Rattle.asyncio.specs.RangeLaws.{pick_has}
use Rattle.asyncio.specs.declared.TaskId.{TaskId}
use Rattle.asyncio.specs.declared.Task.{Task}
use Rattle.asyncio.specs.declared.TaskState.{TaskState}
use Rattle.rows.specs.Tables.{task_at}
use Rattle.rows.specs.TableLaws.{task_at-fits}
use Rattle.machine.specs.Scheduler.{first_from, is_task_of, task_of_in, still_live}
use Rattle.scheduler.specs.Search.{found_task}
use Rattle.scheduler.specs.SearchLaws.{task-found}
use Rattle.scheduler_cancel.specs.Cancel.{named, tasks_of_in, put_task_of}
use Rattle.scheduler.specs.Search.{FoundTask}

named-task : (t : ℕ) → 0 < t → t < task_limit → named t ≡ some t
unfolding named
named-task t h l = rw (mod-eq_of_lt l, ne_eqb t 0 (omega arith))

-- what the table says after task t was noted, whose row is r
noted : (ds : List ℕ) (t : ℕ) (r : Task) (b : Bool) → length ds ≡ object_limit → r.coroutine.0 < object_limit → 0 < t → t < task_limit → (c : ℕ)
    → named (get_or (pick b (set ds r.coroutine.0 t) ds) c 0) ≡ pick (pick b (eqb r.coroutine.0 c) false) (some t) (named (get_or ds c 0))
noted ds t r false m k h l c = refl
noted ds t r true m k h l c = by (eqb r.coroutine.0 c) refl
  where
    by : (b : Bool) → eqb r.coroutine.0 c ≡ b → named (get_or (set ds r.coroutine.0 t) c 0) ≡ pick b (some t) (named (get_or ds c 0))
    by true e = rw (← eqb-true r.coroutine.0 c e, get_or-set_same ds r.coroutine.0 t 0 (omega arith)) (named-task t h l)
    by false e = rw (get_or-set_other ds r.coroutine.0 c t 0 (λ q. eqb-false r.coroutine.0 c e (sym q)))

module _ (ts : List ℕ) (n : ℕ) where
  -- the tasks of coroutines among the tasks from t on, below n
  pub tasks_of_turn : (ds : List ℕ) (u t : ℕ) → t ≡ u + 1 → t ≤ n → 0 < u → n ≤ task_limit → length ds ≡ object_limit
      → {j : ℕ} {es : List ℕ} → j ≡ u → es ≡ put_task_of ts j ds
      → ((c : ℕ) → tasks_of_in ds c ≡ first_from (λ v. is_task_of c (task_at ts v)) t (n - t))
      → (c : ℕ) → tasks_of_in es c ≡ first_from (λ v. is_task_of c (task_at ts v)) u (n - u)
  unfolding tasks_of_in put_task_of first_from is_task_of
  tasks_of_turn ds u t e h p z m i q f c =
      let k : n - u ≡ suc (n - (u + 1)) = omega arith in
      rw (k, q, i, ← e, ← f c) (noted ds u (task_at ts u) (is_live (task_at ts u).state) m (task_at-fits ts u).coroutine_fits p (omega arith) c)

  zeros : (k c : ℕ) → ◌≡◌ {A = ℕ} (get_or (replicate k 0) c 0) 0
  zeros zero c = refl
  zeros (suc k) zero = refl
  zeros (suc k) (suc c) = zeros k c

  pub tasks_of_begin : (c : ℕ) → tasks_of_in (replicate object_limit 0) c ≡ first_from (λ v. is_task_of c (task_at ts v)) n (n - n)
  unfolding tasks_of_in named first_from
  tasks_of_begin c = let k : n - n ≡ 0 = omega arith in rw (k, zeros object_limit c)

  pub tasks_of_end : (ds : List ℕ) (t : ℕ) → t ≤ 1 → t ≤ n → min n 1 ≤ t
      → ((c : ℕ) → tasks_of_in ds c ≡ first_from (λ v. is_task_of c (task_at ts v)) t (n - t)) → (c : ℕ) → tasks_of_in ds c ≡ task_of_in ts n c
  unfolding task_of_in first_from
  tasks_of_end ds zero h l m f c = let a : n ≡ 0 = omega arith in f c ∙ rw a
  tasks_of_end ds (suc t) h l m f c = let a : t ≡ 0 = omega arith in f c ∙ rw a

-- the table's task, as live_task_of finds it
module _ (ts ds : List ℕ) (o : ℕ) {u : TaskId} (e : u ≡ to_task_id (get_or ds o 0)) {b : Bool} (f : b ≡ is_main u) where
  number : get_or ds o 0 % task_limit ≡ u.0
  number = sym (ap (λ (x : TaskId). x.0) e)

  pub task_of-none : b ≡ true → None ≡ found_task (still_live ts (tasks_of_in ds o))
  unfolding tasks_of_in named still_live
  task_of-none t = rw (number, ← f, t)

  module _ (n : b ≡ false) {x : TaskState} (g : x ≡ (task_at ts u.0).state) {y : Bool} (h : y ≡ is_live x) where
    pub task_of-lives : y ≡ true → Some u ≡ found_task (still_live ts (tasks_of_in ds o))
    unfolding tasks_of_in named still_live
    task_of-lives t = rw (number, ← f, n, ← g, ← h, t)

    pub task_of-gone : y ≡ false → None ≡ found_task (still_live ts (tasks_of_in ds o))
    unfolding tasks_of_in named still_live
    task_of-gone t = rw (number, ← f, n, ← g, ← h, t)

-- a task's number, if there is one
abbrev NumberFits : Option ℕ → Type 0
NumberFits none = Unit {0}
NumberFits (some t) = t < task_limit

pub task_of-fits : (ts ds : List ℕ) (o : ℕ) {d : FoundTask} (t : TaskId) → d ≡ found_task (still_live ts (tasks_of_in ds o)) → d ≡ Some t → t.0 < task_limit
unfolding tasks_of_in
task_of-fits ts ds o t e f = rw (task-found (still_live ts (tasks_of_in ds o)) t (sym e ∙ f)) at (lives (tasks_of_in ds o) (names (get_or ds o 0)))
  where
    names : (n : ℕ) → NumberFits (named n)
    names n = unfold named in (pick_has NumberFits (eqb (to_task_id n).0 0) tt (omega arith))

    lives : (x : Option ℕ) → NumberFits x → NumberFits (still_live ts x)
    lives none h = unfold still_live in tt
    lives (some u) h = unfold still_live in (pick_has NumberFits (is_live (task_at ts u).state) h tt)
