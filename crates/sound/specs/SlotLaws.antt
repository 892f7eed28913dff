-- Clause 10: a gather by its kind, and a live task.
use Rattle.std.specs.Prelude.{◌≡◌, refl, Bool, true, false, List, ℕ}
use Rattle.asyncio.specs.States.{pick, is_live}
use Rattle.asyncio.specs.Kinds.{kind, each_object, is_awaited, is_committed}
use Rattle.asyncio.specs.Parts.{first_of, count_of, awaiter_of, open_of}
use Rattle.asyncio.specs.declared.Awaiter.{Awaiter}
use Rattle.asyncio.specs.declared.HeapId.{HeapId}
use Rattle.asyncio.specs.declared.Kind.{Kind}
use Rattle.asyncio.specs.declared.Object.{Object}
use Rattle.asyncio.specs.declared.Place.{Place}
use Rattle.asyncio.specs.declared.TaskState.{TaskState}
use Rattle.asyncio.specs.declared.Task.{Task}
use Rattle.rows.specs.Tables.{task_at, object_at}
use Rattle.machine.specs.Tests.{◌and◌, implies}
use Rattle.machine.specs.Scheduler.{as_awaited}
use Rattle.machine.specs.Commit.{open_from}
use Rattle.machine.specs.Sound.{source_open, slot_open}
use Rattle.scheduler_states.specs.Awaited.{awaited_gather}

-- gather g was committed and, if it is awaited, has object o open
abbrev pub gather_holds : (ℕ → Object) → (ℕ → Place) → ℕ → ℕ → Bool
gather_holds os ps g o = is_committed (kind (os g)) and source_open ps (as_awaited (os g)) o

-- the awaiter of task t, if it lives, for its coroutine
abbrev pub task_slot_open : (ℕ → Object) → (ℕ → Task) → (ℕ → Place) → ℕ → Bool
task_slot_open os ts ps t = implies (is_live (ts t).state) (slot_open os ps (ts t).coroutine.0 (ts t).awaiter)

-- ---- a gather by its kind

holds_by : (ps : ℕ → Place) (x : Object) (o : ℕ) → is_committed (kind x) and source_open ps (as_awaited x) o
    ≡ pick (is_awaited (kind x)) (open_from ps (awaited_gather (first_of x) (count_of x) (awaiter_of x) (open_of x)) o 0 (count_of x)) (is_committed (kind x))
unfolding ◌and◌ source_open as_awaited kind first_of count_of awaiter_of open_of
holds_by ps x o =
    each_object (λ (x : Object). is_committed (kind x) and source_open ps (as_awaited x) o ≡ pick (is_awaited (kind x)) (open_from ps (awaited_gather (first_of x) (count_of x) (awaiter_of x) (open_of x)) o 0 (count_of x)) (is_committed (kind x)))
    refl (λ f. refl) (λ f. refl) (λ f. refl) (λ c w x. refl) (λ c v. refl) (λ c e. refl) (λ i n. refl)
    (λ i n w m. refl) (λ i n. refl) (λ i n e. refl) x

module _ (ps : ℕ → Place) (os : List ℕ) (g o : ℕ) {k : Kind} {r : Bool} (e : k ≡ kind (object_at os g)) where
  pub holds_settled : is_awaited k ≡ false → r ≡ is_committed k → r ≡ is_committed (kind (object_at os g)) and source_open ps (as_awaited (object_at os g)) o
  holds_settled t h = rw (holds_by ps (object_at os g) o, ← e, t) h

  pub holds_awaited : {i n m : ℕ} → is_awaited k ≡ true → i ≡ first_of (object_at os g) → n ≡ count_of (object_at os g) → m ≡ open_of (object_at os g)
      → ((a : Awaiter) → r ≡ open_from ps (awaited_gather i n a m) o 0 n) → r ≡ is_committed (kind (object_at os g)) and source_open ps (as_awaited (object_at os g)) o
  holds_awaited t f c d h = rw (holds_by ps (object_at os g) o, ← e, t, ← f, ← c, ← d) (h (awaiter_of (object_at os g)))

-- ---- a live task

module _ (os : ℕ → Object) (ps : ℕ → Place) (ts : List ℕ) (t : ℕ) {s : TaskState} (e : s ≡ (task_at ts t).state) where
  pub slot_dead : is_live s ≡ false → true ≡ implies (is_live (task_at ts t).state) (slot_open os ps (task_at ts t).coroutine.0 (task_at ts t).awaiter)
  unfolding implies
  slot_dead u = rw (← e, u)

  pub slot_live : {c : HeapId} {w : Awaiter} {r : Bool} → is_live s ≡ true → c ≡ (task_at ts t).coroutine → w ≡ (task_at ts t).awaiter → r ≡ slot_open os ps c.0 w
      → r ≡ implies (is_live (task_at ts t).state) (slot_open os ps (task_at ts t).coroutine.0 (task_at ts t).awaiter)
  unfolding implies
  slot_live u f v h = rw (← e, u, ← f, ← v) h
