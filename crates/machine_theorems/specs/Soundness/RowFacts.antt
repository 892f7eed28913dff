-- Small facts of stores that several theorems use: which states are of live tasks, counts stay where items are put, lengths stay where tasks are removed, an awaited gather has an open place.
use Rattle.std.specs.Prelude.{◌≡◌, refl, Bool, true, false, List, [], ◌∷◌, ℕ, zero, suc, ◌+◌, ◌<◌, ◌^◌, T, eqb, ltb}
use Rattle.std.proofs.Common.{sym, subst, true≢false, ltb→lt}
use Rattle.std.proofs.Math.Option.{some}
use Rattle.std.specs.Prelude.{None}
use Rattle.asyncio.specs.declared.TaskState.{TaskState}
use Rattle.asyncio.specs.declared.GatherState.{GatherState}
use Rattle.asyncio.specs.declared.Object.{Object}
use Rattle.asyncio.specs.Numbers.{heap_id}
use Rattle.asyncio.specs.States.{pick, is_live, is_ready, is_blocked, is_unstarted}
use Rattle.machine.specs.Store.{Store, view, task, object, header, put_task, put_place, add_log, place, absent, removed}
use Rattle.machine.specs.Scheduler.{remove_from, AwaitedGather, as_awaited}
use Rattle.machine.specs.Events.{put_items}
use Rattle.machine_laws.specs.Views.{Sized}
use Rattle.machine_laws.specs.Facts.{Nothing, SoundBut}
use Rattle.machine_laws.specs.StoreLaws.{sized-add_log, sized-put_task}
use Rattle.std.proofs.lemmas.Bool.{eqb-false}
use Rattle.machine.specs.Sound.{object_in_range, open_in_range, object_filled, gather_filled, places_below}
use Rattle.machine_laws.specs.TestLaws.{both_left, both_right, is_false}
use Rattle.machine_laws.specs.DeliveryLaws.{awaited-object}

-- ---- states of live tasks

pub ready-live : (x : TaskState) → is_ready x ≡ true → is_live x ≡ true
ready-live TaskState.Absent e = absurd (true≢false (sym e))
ready-live TaskState.Unstarted e = refl
ready-live TaskState.Running e = refl
ready-live (TaskState.Woken v) e = refl
ready-live (TaskState.Raised x) e = refl
ready-live (TaskState.Blocked o) e = refl

pub blocked-live : (x : TaskState) → is_blocked x ≡ true → is_live x ≡ true
blocked-live TaskState.Absent e = absurd (true≢false (sym e))
blocked-live TaskState.Unstarted e = refl
blocked-live TaskState.Running e = refl
blocked-live (TaskState.Woken v) e = refl
blocked-live (TaskState.Raised x) e = refl
blocked-live (TaskState.Blocked o) e = refl

pub unstarted-live : (x : TaskState) → is_unstarted x ≡ true → is_live x ≡ true
unstarted-live TaskState.Absent e = absurd (true≢false (sym e))
unstarted-live TaskState.Unstarted e = refl
unstarted-live TaskState.Running e = refl
unstarted-live (TaskState.Woken v) e = refl
unstarted-live (TaskState.Raised x) e = refl
unstarted-live (TaskState.Blocked o) e = refl

-- ---- what is written when a gather is made, and when the session ends

pub items-header : (os : List ℕ) (s : Store) (p : ℕ) → header (put_items s p os) ≡ header s
unfolding put_items header put_place
items-header [] s p = refl
items-header (o ∷ os) s p = items-header os (put_place s p (record { item = heap_id o; result = None })) (p + 1)

pub remove-sized : (k : ℕ) (s : Store) (t : ℕ) → Sized s → Sized (remove_from s t k)
unfolding remove_from
remove-sized zero s t z = z
remove-sized (suc k) s t z = remove-sized k _ (t + 1) (by (is_live (task s t).state))
  where
    by : (b : Bool) → Sized (pick b (add_log (put_task s t absent) (removed t)) s)
    by true = sized-add_log _ (removed t) (sized-put_task s t absent z)
    by false = z

-- ---- the open places of an awaited gather of a sound store

pub sound-some_open : (s : Store) (g : ℕ) (w : AwaitedGather) → SoundBut 0 Nothing Nothing (view s) → g < (header s).made → as_awaited (object s g) ≡ some w → w.open_places ≡ 0 → ⊥
unfolding view object_filled gather_filled
sound-some_open s g w h l e =
    let k : T (object_filled (place s) (Object.GatherFuture w.first w.count (GatherState.Awaited w.awaiter w.open_places))) =
    subst (λ (r : Object). T (object_filled (place s) r)) (awaited-object (object s g) w e) (h.filled g l (λ z. z)) in
    eqb-false w.open_places 0 (is_false (eqb w.open_places 0) (both_left _ _ k))

pub sound_no_other : (s : Store) (g : ℕ) (w : AwaitedGather) → SoundBut 0 Nothing Nothing (view s) → g < (header s).made → as_awaited (object s g) ≡ some w → w.open_places < 2 ^ w.count
unfolding view object_in_range open_in_range
sound_no_other s g w h l e =
    let k : T (object_in_range (header s) (places_below (object s) g) (Object.GatherFuture w.first w.count (GatherState.Awaited w.awaiter w.open_places))) =
    subst (λ (r : Object). T (object_in_range (header s) (places_below (object s) g) r)) (awaited-object (object s g) w e) (h.objects g l) in
    ltb→lt w.open_places (2 ^ w.count) (both_right _ _ k)
