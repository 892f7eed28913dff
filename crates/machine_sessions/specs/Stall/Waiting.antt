-- What a session has until it ends, cancels or not, and that it gives: the items of open places have come to nothing.
use Rattle.std.specs.Prelude.{◌≡◌, refl, true, false, List, ℕ, zero, suc, ◌+◌, ◌<◌, T}
use Rattle.std.proofs.Common.{sym, subst, ◌∙◌}
use Rattle.std.proofs.Math.Path.{ap}
use Rattle.std.proofs.Math.Bool.{true≢false}
use Rattle.std.proofs.Math.Option.{Option, none, some}
use Rattle.asyncio.specs.declared.Value.{Value}
use Rattle.asyncio.specs.declared.Error.{Error}
use Rattle.asyncio.specs.declared.Awaiter.{Awaiter}
use Rattle.asyncio.specs.declared.Object.{Object}
use Rattle.asyncio.specs.Numbers.{heap_id}
use Rattle.asyncio.specs.States.{is_live, is_nobody}
use Rattle.machine.specs.Store.{Store, view, task, object, place, header}
use Rattle.machine.specs.Scheduler.{AwaitedGather, as_awaited, bit}
use Rattle.machine.specs.Sound.{task_in_range}
use Rattle.machine.specs.Gather.{Outcome}
use Rattle.machine.specs.History.{Entry, spawned_for, cancelled}
use Rattle.machine_laws.specs.Facts.{Nothing}
use Rattle.machine_laws.specs.TestLaws.{both_left, both_right, holds}
use Rattle.machine_laws.specs.DeliveryLaws.{awaited-object, pending-object}
use Rattle.machine_theorems.specs.Soundness.Stores.{SoundStore}
use Rattle.machine_sessions.specs.Stall.Standing.{Stands}
use Rattle.machine_sessions.specs.Stall.NoStall.{Source, by_external, by_gather, by_nobody, by_task, Sourced}
use Rattle.machine_sessions.specs.Places.PlacesHold.{row_outcome}
use Rattle.machine_sessions.specs.Stall.TaskLog.{exits, any_coroutine, Tasks}
use Rattle.machine_sessions.specs.Stall.Outcomes.{outcome_of}
use Rattle.machine_sessions.specs.Stall.WaitingTasks.{AllStarted}

-- task v has gone, without an exit
pub record Gone (h : List Entry) (s : Store) (v : ℕ) : Type 0 where
  pub low : v < (header s).next
  pub dead : is_live (task s v).state ≡ false
  pub unexited : exits h v ≡ false

-- the task that was spawned for o was cancelled
pub record Lost (h : List Entry) (s : Store) (o : ℕ) : Type 0 where
  pub after_cancel : cancelled h ≡ true
  pub its_task : ℕ
  pub spawned : spawned_for h its_task ≡ some o
  pub gone : Gone h s its_task

-- until the end
pub record Alive (h : List Entry) (s : Store) : Type 0 where
  -- main lives, and a ready task stands in the queue
  pub stands : Stands Nothing s
  -- in waiting every live task has started
  pub all_started : AllStarted s
  -- for whom each task was spawned, and who has exited
  pub tasks : Tasks (spawned_for h) Nothing Nothing (spawned_for h) (exits h) s
  -- an open place has a source, or its item's task was cancelled
  pub sourced : Sourced (Lost h s) s
  -- what a coroutine has come to, it has by the exit of its task
  pub came : (c : ℕ) (r : Outcome Value Error) → outcome_of h c ≡ some r → (v : ℕ) × (spawned_for h v ≡ some c) × (exits h v ≡ true)

-- the items of open places have come to nothing
abbrev pub ItemsWait : List Entry → Store → Type 0
ItemsWait h s = (g : ℕ) (v : AwaitedGather) → g < (header s).made → as_awaited (object s g) ≡ some v → (a : ℕ) → a < v.count → bit v.open_places a ≡ true
    → row_outcome (outcome_of h) (place s (v.first + a)).item.0 (object s (place s (v.first + a)).item.0) ≡ none

coroutine-row : (C : ℕ → Option (Outcome Value Error)) (o : ℕ) (x : Object) → any_coroutine x ≡ true → row_outcome C o x ≡ C o
unfolding row_outcome any_coroutine
coroutine-row C o Object.Unmade e = absurd (true≢false (sym e))
coroutine-row C o (Object.Coroutine f x) e = refl
coroutine-row C o (Object.ExternalFuture c x) e = absurd (true≢false (sym e))
coroutine-row C o (Object.GatherFuture f n x) e = absurd (true≢false (sym e))

-- a task with a slot is not main
slot_spawned : (s : Store) (t g o : ℕ) → SoundStore s → t < (header s).next → (task s t).awaiter ≡ Awaiter.GatherSlot (heap_id g) (heap_id o) → (m : ℕ) × (t ≡ suc m)
unfolding view task_in_range
slot_spawned s zero g o w l e = absurd (subst (λ (y : Awaiter). T (is_nobody y)) e (both_left (is_nobody (task s 0).awaiter) _ (both_right _ _ (w.facts.but.tasks 0 l))))
slot_spawned s (suc t) g o w l e = (t, refl)

module _ (h : List Entry) (s : Store) (w : SoundStore s) (k : Alive h s) where
  -- nobody for whom it was spawned has exited: it has come to nothing
  nothing_yet : (v c : ℕ) → spawned_for h v ≡ some c → (exits h v ≡ true → ⊥) → row_outcome (outcome_of h) c (object s c) ≡ none
  nothing_yet v c e n = coroutine-row (outcome_of h) c (object s c) (k.tasks.coroutines v c e) ∙ by (outcome_of h c) refl
    where
      by : (r : Option (Outcome Value Error)) → outcome_of h c ≡ r → r ≡ none
      by none q = refl
      by (some r) q = let y = k.came c r q in absurd (n (subst (λ (m : ℕ). exits h m ≡ true) (k.tasks.alone y.0 v c y.1 e) y.2))

  -- a live task with a slot was spawned for the coroutine that it brings there
  pub slot_task : (t g o : ℕ) → t < (header s).next → is_live (task s t).state ≡ true → (task s t).awaiter ≡ Awaiter.GatherSlot (heap_id g) (heap_id o) → spawned_for h t ≡ some o
  slot_task t g o l lv a = by (slot_spawned s t g o w l a)
    where
      own : o ≡ (task s t).coroutine.0
      own = unfold view in (w.facts.but.task_slots t l (holds _ lv) g o a).own

      by : (m : ℕ) × (t ≡ suc m) → spawned_for h t ≡ some o
      by x =
          subst (λ (m : ℕ). spawned_for h m ≡ some (task s m).coroutine.0) (sym x.1) (k.tasks.rows x.0 (subst (λ (m : ℕ). m < (header s).next) x.1 l) (subst (λ (m : ℕ). is_live (task s m).state ≡ true) x.1 lv))
          ∙ ap (λ (m : ℕ). some m) (sym own)

  source-none : (g o : ℕ) → Source (Lost h s) s g o → row_outcome (outcome_of h) o (object s o) ≡ none
  source-none g o (by_external p e a) = ap (row_outcome (outcome_of h) o) (pending-object (object s o) p e) ∙ (unfold row_outcome in refl)
  source-none g o (by_gather v e a) = ap (row_outcome (outcome_of h) o) (awaited-object (object s o) v e) ∙ (unfold row_outcome in refl)
  source-none g o (by_nobody j) = nothing_yet j.its_task o j.spawned (λ q. true≢false (sym q ∙ j.gone.unexited))
  source-none g o (by_task t l lv a) = nothing_yet t o (slot_task t g o l lv a) (λ q. true≢false (sym lv ∙ (k.tasks.ended t q).1))

  pub alive-items : ItemsWait h s
  alive-items g v l e a b c = source-none g _ (k.sourced.sources g _ v l e (record { at = a; under = b; is_open = c; names = refl }))
