-- Clause 7: one task against a table of the coroutines that live tasks drive: a law for each way through a turn.
use Rattle.std.specs.Prelude.{◌≡◌, refl, Bool, true, false, not, List, ℕ, ◌+◌, eqb, get_or, set}
use Rattle.std.proofs.Common.{sym}
use borrow.Author.Tests.{eq-eqb, ne_eqb}
use Rattle.asyncio.specs.Limits.{object_limit}
use Rattle.asyncio.specs.States.{is_live}
use Rattle.asyncio.specs.declared.HeapId.{HeapId}
use Rattle.asyncio.specs.declared.TaskState.{TaskState}
use Rattle.rows.specs.Tables.{task_at}
use Rattle.rows.specs.TableLaws.{coroutine_fits}
use Rattle.machine.specs.Scheduler.{is_task_of}
use Rattle.machine.specs.Tests.{◌and◌, implies}
use Rattle.machine.specs.Sound.{is_task_of_at, sole_task}
use Rattle.sound_words.specs.Loops.{and-false}
use Rattle.sound_tasks.specs.Marks.{Marks, marks_turn, marks_skip}

-- task t drives coroutine c
abbrev pub driven : List ℕ → ℕ → ℕ → Bool
driven ts t c = is_task_of_at (task_at ts) c t

module _ (ts : List ℕ) (t : ℕ) where
  -- a row that drives nothing
  idle : ((c : ℕ) → driven ts t c ≡ false) → true ≡ sole_task (task_at ts) t
  unfolding sole_task implies
  idle h = rw (h (task_at ts t).coroutine.0)

  main-is-task-of : t ≡ 0 → (c : ℕ) → driven ts t c ≡ false
  unfolding is_task_of_at ◌and◌
  main-is-task-of z c = rw (eq-eqb t 0 z)

  dead-is-task-of : {s : TaskState} → s ≡ (task_at ts t).state → is_live s ≡ false → (c : ℕ) → driven ts t c ≡ false
  unfolding is_task_of_at is_task_of
  dead-is-task-of e r c = rw (← e, r) (and-false (not (eqb t 0)))

  live-is-task-of : {s : TaskState} {c : HeapId} → (t ≡ 0 → ⊥) → s ≡ (task_at ts t).state → is_live s ≡ true → c ≡ (task_at ts t).coroutine
      → (k : ℕ) → driven ts t k ≡ eqb c.0 k
  unfolding is_task_of_at is_task_of ◌and◌
  live-is-task-of z e r f k = rw (ne_eqb t 0 z, ← e, r, ← f)

module _ (ts : List ℕ) (seen : List Bool) (t : ℕ) (m : Marks seen object_limit t (driven ts)) where
  pub task_of_main : t ≡ 0 → true ≡ sole_task (task_at ts) t
  task_of_main z = idle ts t (main-is-task-of ts t z)

  pub marks_main : t ≡ 0 → Marks seen object_limit (t + 1) (driven ts)
  marks_main z = marks_skip object_limit (driven ts) seen t m (main-is-task-of ts t z)

  module _ {s : TaskState} (e : s ≡ (task_at ts t).state) where
    pub task_of_dead : is_live s ≡ false → true ≡ sole_task (task_at ts) t
    task_of_dead r = idle ts t (dead-is-task-of ts t e r)

    pub marks_dead : is_live s ≡ false → Marks seen object_limit (t + 1) (driven ts)
    marks_dead r = marks_skip object_limit (driven ts) seen t m (dead-is-task-of ts t e r)

    module _ (z : t ≡ 0 → ⊥) (r : is_live s ≡ true) {c : HeapId} (f : c ≡ (task_at ts t).coroutine) where
      sole-by : sole_task (task_at ts) t ≡ not (get_or seen c.0 false)
      unfolding sole_task implies
      sole-by =
          rw (← f, live-is-task-of ts t z e r f c.0, eq-eqb c.0 c.0 refl) (sym (m.marked c.0 (coroutine_fits ts t f)))

      pub task_of_second : get_or seen c.0 false ≡ true → false ≡ sole_task (task_at ts) t
      task_of_second ne = rw (sole-by, ne)

      pub task_of_first : get_or seen c.0 false ≡ false → true ≡ sole_task (task_at ts) t
      task_of_first q = rw (sole-by, q)

      pub marks_live : Marks (set seen c.0 true) object_limit (t + 1) (driven ts)
      marks_live = marks_turn object_limit (driven ts) seen t m c.0 (coroutine_fits ts t f) (live-is-task-of ts t z e r f)
