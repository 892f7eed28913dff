-- Clause 5: the entries of the queue by its places, and one entry against a table of the tasks seen: a law for each way through a turn.
use Rattle.std.specs.Prelude.{◌≡◌, Bool, true, false, not, List, ℕ, ◌+◌, ◌≤◌, ◌<◌, eqb, get_or, set}
use Rattle.std.proofs.Common.{sym, arith}
use borrow.Author.Tests.{lt-ltb, le-ltb}
use Rattle.asyncio.specs.Limits.{task_limit}
use Rattle.asyncio.specs.States.{is_ready}
use Rattle.asyncio.specs.declared.TaskState.{TaskState}
use Rattle.rows.specs.Tables.{task_at}
use Rattle.machine.specs.Tests.{◌and◌, all_below}
use Rattle.machine.specs.Sound.{entry_ready}
use Rattle.sound_words.specs.Loops.{and-false}
use Rattle.sound_tasks.specs.Marks.{Marks, marks_turn}

-- entry j is task k
abbrev pub entry_is : List ℕ → ℕ → ℕ → Bool
entry_is q j k = eqb (get_or q j 0) k

module _ (next : ℕ) (ts q : List ℕ) (seen : List Bool) (i : ℕ) {t : ℕ} (e : t ≡ get_or q i 0) where
  pub entry_out : next ≤ t → false ≡ entry_ready next (task_at ts) q i
  unfolding entry_ready ◌and◌
  entry_out h = rw (← e, le-ltb t next h)

  module _ (h : t < next) (b : next ≤ task_limit) (m : Marks seen task_limit i (entry_is q)) where
    fresh : not (get_or seen t false) ≡ all_below i (λ j. not (entry_is q j t))
    fresh = m.marked t (omega arith)

    pub entry_seen : get_or seen t false ≡ true → false ≡ entry_ready next (task_at ts) q i
    unfolding entry_ready ◌and◌
    entry_seen ne = rw (← e, lt-ltb t next h, ← fresh, ne) (sym (and-false (is_ready (task_at ts t).state)))

    module _ {s : TaskState} (f : s ≡ (task_at ts t).state) where
      pub entry-idle : is_ready s ≡ false → false ≡ entry_ready next (task_at ts) q i
      unfolding entry_ready ◌and◌
      entry-idle r = rw (← e, lt-ltb t next h, ← f, r)

      pub entry-good : get_or seen t false ≡ false → is_ready s ≡ true → true ≡ entry_ready next (task_at ts) q i
      unfolding entry_ready ◌and◌
      entry-good z r = rw (← e, lt-ltb t next h, ← f, r, ← fresh, z)

    pub entry_marks : Marks (set seen t true) task_limit (i + 1) (entry_is q)
    entry_marks = marks_turn task_limit (entry_is q) seen i m t (omega arith) (λ k. rw e)
