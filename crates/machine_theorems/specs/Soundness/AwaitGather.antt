-- The commit of a gather and of the gathers nested in it, the await of a gather, and so the event `await`.
use Rattle.std.specs.Prelude.{◌≡◌, Bool, true, not, ℕ, zero, suc, ◌+◌, ◌-◌, ◌≤◌, ◌<◌, eqb}
use Rattle.std.proofs.Math.Path.{refl, ap, subst}
use Rattle.std.proofs.Common.{sym, ◌∙◌, inl, inr, not-suc-le-zero, arith, lt→ltb}
use Rattle.std.proofs.Math.Bool.{false}
use mathlib.Core.List.{List, [], ◌∷◌}
use Rattle.std.proofs.Math.Option.{Option}
use Rattle.std.proofs.Math.Dec.{T}
use borrow.Author.Tests.{eqb-true, eq-eqb, ne_eqb}
use Rattle.asyncio.specs.declared.Value.{Value}
use Rattle.asyncio.specs.declared.Error.{Error}
use Rattle.asyncio.specs.declared.Task.{Task}
use Rattle.asyncio.specs.declared.Awaiter.{Awaiter}
use Rattle.asyncio.specs.declared.GatherState.{GatherState}
use Rattle.asyncio.specs.declared.Object.{Object}
use Rattle.asyncio.specs.declared.Place.{Place}
use Rattle.asyncio.specs.Limits.{object_limit}
use Rattle.asyncio.specs.Ranges.{ObjectFits}
use Rattle.asyncio.specs.Numbers.{heap_id, task_id}
use Rattle.asyncio.specs.States.{pick}
use Rattle.machine.specs.Store.{Store, View, view, task, object, place, header, put_object, add_log}
use Rattle.machine.specs.Scheduler.{AwaitedGather, as_awaited}
use Rattle.machine.specs.Commit.{Poll, ready, raised, pending, gives}
use Rattle.machine.specs.Commit.{Stop, at_end, at_nested, at_error, Frame, step_gather_commit, with_state, set_gather}
use Rattle.machine.specs.Commit.{open_gather_commit, settle_as, settle_gather_commit, unwind, Committed, turn, commit_loop}
use Rattle.machine.specs.Sound.{awaiter_in_range, object_in_range, rest_filled, gather_filled, object_filled}
use Rattle.machine_laws.specs.Views.{with_object}
use Rattle.machine_laws.specs.Facts.{SoundBut, Nothing}
use Rattle.machine_laws.specs.TestLaws.{both}
use Rattle.machine_laws.specs.StoreLaws.{update_same, object-fits, header-fits}
use Rattle.machine_laws.specs.StoreLaws.{view-put_object}
use Rattle.machine_laws.specs.DeliveryLaws.{awaited-object}
use Rattle.machine_theorems.specs.Soundness.PutObject.{Fits}
use Rattle.machine_theorems.specs.Soundness.PutTask.{Closes}
use Rattle.machine_theorems.specs.Soundness.Deliver.{awaiter_is, Done}
use Rattle.machine_theorems.specs.Soundness.Fill.{completed-done}
use Rattle.machine_theorems.specs.Soundness.Memory.{Memory, memory_object}
use Rattle.machine_theorems.specs.Soundness.CommitSteps.{park}
use Rattle.machine_theorems.specs.Soundness.CommitInv.{OnTop, Stacked, bottom, Inv, lessen, nest_step, After, settle_memory, settle_top}
use Rattle.asyncio.specs.declared.TaskState.{TaskState}
use Rattle.asyncio.specs.declared.Moment.{Moment}
use Rattle.machine.specs.Store.{set_state, blocked}
use Rattle.machine.specs.Commit.{commit_gather_tree}
use Rattle.machine.specs.Events.{activate, stays, go_on, await_gather, await_object, exec_get_awaitable}
use Rattle.machine.specs.Sound.{is_ended, runs_now, runner_in_range, places_below}
use Rattle.machine_theorems.specs.Soundness.Stores.{idle, SoundDuring, SoundStore}
use Rattle.machine_theorems.specs.Soundness.Cycle.{next_keeps, activate_keeps}
use Rattle.machine_theorems.specs.Soundness.Exits.{is_run_state, runner_low}
use Rattle.machine_theorems.specs.Soundness.Await.{block_keeps, await_external_keeps, await_coroutine_keeps}
use Rattle.machine_theorems.specs.Soundness.CommitInv.{open_fits}
use Rattle.machine_theorems.specs.Soundness.PutObject.{object_keeps}
use Rattle.machine_theorems.specs.Soundness.CommitLoop.{Ends, unwind_keeps, rest-done, Commits, settle_next}
use Rattle.machine_theorems.specs.Soundness.CommitItems.{AtNested, AtError, StopOk, inv_count, items_keep}

-- ---- the end of a commit: an answer for the task that awaits, or it is to block

pub record BlocksOn (root t : ℕ) (s : Store) : Type 0 where
  pub ends : Ends t 0 (λ p. p ≡ root) s
  pub made : root < (header s).made
  pub closes : Closes (view s) t root

abbrev pub EndOk : ℕ → ℕ → Store → Poll → Type 0
EndOk root t s (ready v) = Ends t 0 Nothing s
EndOk root t s (raised e) = Ends t 0 Nothing s
EndOk root t s pending = BlocksOn root t s

after_of : (root t k : ℕ) (Q : ℕ → Type 0) (v : View) (g i : ℕ) (fs : List Frame) → Inv root t k Q v g i fs → After t 0 Q v
after_of root t k Q v g i fs h = record { but = lessen (omega arith) h.but; runs = h.runs; low = h.low; moment = h.moment }

-- the root, with all its places done
root_keeps : (root t : ℕ) (s : Store) (g i : ℕ) → Memory s → (h : Inv root t 0 (OnTop g []) (view s) g i []) → i ≡ h.w.count
    → EndOk root t (settle_gather_commit s g).store (settle_gather_commit s g).poll
unfolding settle_gather_commit view
root_keeps root t s g i mem h end =
    subst (λ (o : Option AwaitedGather). EndOk root t (settle_as s g o).store (settle_as s g o).poll) (sym h.opened.awaited) (unfold settle_as in (by (eqb h.w.open_places 0) refl))
  where
    w : AwaitedGather
    w = h.w

    bottoms : {n : ℕ} {os : ℕ → Object} {ps : ℕ → Place} {a : Awaiter} {k : ℕ} → Stacked n os ps root t g a [] k → (g ≡ root) × (a ≡ Awaiter.Task (task_id t))
    bottoms (bottom e q) = (e, q)

    low : (g ≡ root) × (w.awaiter ≡ Awaiter.Task (task_id t))
    low = bottoms h.stack

    rest_of : T (rest_filled (place s) w.first w.count w.open_places)
    rest_of = rest-done (place s) (header s).made (object s) g i w end h.opened

    not_on : (y : ℕ) → (y ≡ root → ⊥) → OnTop g [] y → ⊥
    not_on y n (inl e) = n (e ∙ low.0)
    not_on y n (inr e) = e

    closed : eqb w.open_places 0 ≡ false → Closes (view s) t g
    closed q =
        record {
          awaiter = awaiter_is (object s g) w h.opened.awaited ∙ low.1;
          filled = subst (λ (y : Object). T (object_filled (place s) y)) (sym (awaited-object (object s g) w h.opened.awaited))
              (unfold object_filled gather_filled in (both _ _ (subst (λ (b : Bool). T (not b)) (sym q) tt) rest_of));
        }

    by : (b : Bool) → eqb w.open_places 0 ≡ b
        → EndOk root t (pick b (gives (set_gather s g GatherState.Completed) (ready (Value.List (heap_id g)))) (gives s pending)).store
        (pick b (gives (set_gather s g GatherState.Completed) (ready (Value.List (heap_id g)))) (gives s pending)).poll
    by true q =
        let d : Done (place s) w.first w.count GatherState.Completed =
        completed-done (place s) w.first w.count (subst (λ (m : ℕ). T (rest_filled (place s) w.first w.count m)) (eqb-true w.open_places 0 q) rest_of) in
        record {
          memory = settle_memory s root t 0 h.k g w [] GatherState.Completed d tt mem h.opened.made h.opened.awaited;
          after = settle_top s root t 0 h.k g w [] GatherState.Completed d tt mem h.opened.made h.opened.awaited h.stack (after_of root t 0 (OnTop g []) (view s) g i [] h);
        }
    by false q =
        let a : After t 0 (OnTop g []) (view s) = after_of root t 0 (OnTop g []) (view s) g i [] h in
        record {
          ends = record { memory = mem; after = record { but = park (λ y n. inl (not_on y n)) a.but; runs = a.runs; low = a.low; moment = a.moment } };
          made = subst (λ (m : ℕ). m < (header s).made) low.0 h.opened.made;
          closes = subst (Closes (view s) t) low.0 (closed q);
        }

-- ---- the turns

abbrev pub LoopOk : ℕ → ℕ → (Store → Frame → List Frame → ℕ → ℕ → ℕ → Committed) → Type 0
LoopOk root t loop = (s : Store) (f : Frame) (fs : List Frame) (n j k : ℕ) → Commits root t f.gather f.next fs s
    → EndOk root t (loop s f fs n j k).store (loop s f fs n j k).poll

error_keeps : (root t : ℕ) (f : Frame) (fs : List Frame) (s : Store) (e : Error) → AtError root t f.gather fs s e → Ends t 0 Nothing (unwind s (f ∷ fs) e)
unfolding view
error_keeps root t f fs s e h =
    unwind_keeps fs s root t 0 h.inv.k f.gather f.next h.inv.w e h.fits h.inv.opened.made h.inv.opened.awaited h.inv.stack
    (record { memory = h.memory; after = after_of root t 0 (OnTop f.gather fs) (view s) f.gather h.i fs h.inv })

-- a gather that is not committed yet is opened in a store
pub opened_in : (s : Store) (o f n : ℕ) (a : Awaiter) → Memory s → o < (header s).made → object s o ≡ Object.GatherFuture f n GatherState.Pending
    → ObjectFits (Object.GatherFuture f n (GatherState.Awaited a 0))
    → Memory (open_gather_commit s o a) × (view (open_gather_commit s o a) ≡ with_object (view s) o (Object.GatherFuture f n (GatherState.Awaited a 0)))
unfolding open_gather_commit set_gather with_state
opened_in s o f n a mem l q fit =
    let x : Object = Object.GatherFuture f n (GatherState.Awaited a 0) in
    let same : with_state (object s o) (GatherState.Awaited a 0) ≡ x = ap (λ (y : Object). with_state y (GatherState.Awaited a 0)) q in (
      subst (λ (y : Object). Memory (put_object s o y)) (sym same) (memory_object s o x l fit mem),
      ap (λ (y : Object). view (put_object s o y)) same ∙ view-put_object s o x mem.sized (omega (arith, l, (header-fits s).made_fits)) fit,
    )

-- so a nested gather is, and the commit goes on with it
pub nested_commits : (root t : ℕ) (f : Frame) (fs : List Frame) (s : Store) (i o : ℕ) → AtNested root t f.gather fs s i o
    → Commits root t o 0 (record { gather = f.gather; next = i } ∷ fs) (open_gather_commit s o (Awaiter.GatherSlot (heap_id f.gather) (heap_id o)))
unfolding view
nested_commits root t f fs s i o h =
    let low : f.gather < (header s).made = h.inv.opened.made in
    let low-o : o < (header s).made = omega (arith, h.lower) in
    let old : ObjectFits (Object.GatherFuture h.first h.count GatherState.Pending) = subst ObjectFits h.is_new (object-fits s o) in
    let most : (header s).made ≤ object_limit = (header-fits s).made_fits in
    let r = opened_in s o h.first h.count (Awaiter.GatherSlot (heap_id f.gather) (heap_id o)) h.memory low-o h.is_new
    (old.0, ((omega arith, omega arith), omega arith)) in
    record {
      memory = r.0;
      inv = subst (λ (v : View). Inv root t 0 (OnTop o (record { gather = f.gather; next = i } ∷ fs)) v o 0 (record { gather = f.gather; next = i } ∷ fs)) (sym r.1)
          (nest_step root t (view s) f.gather i fs h.inv h.less o h.first h.count h.lower h.is_new h.names);
    }

turn_keeps : (root t : ℕ) (loop : Store → Frame → List Frame → ℕ → ℕ → ℕ → Committed) → LoopOk root t loop → (f : Frame) (fs : List Frame) (n j k : ℕ) (x : Stop)
    → StopOk root t f.gather fs x → EndOk root t (turn loop f fs n j k x).store (turn loop f fs n j k x).poll
unfolding turn view
turn_keeps root t loop go f fs n j k (at_nested s i o) h =
    go _ (record { gather = o; next = 0 }) (record { gather = f.gather; next = i } ∷ fs) _ _ _ (nested_commits root t f fs s i o h)
turn_keeps root t loop go f fs n j k (at_error s e) h = error_keeps root t f fs s e h
turn_keeps root t loop go f [] n j k (at_end s) h = root_keeps root t s f.gather h.i h.memory h.inv h.end
turn_keeps root t loop go f (p ∷ ps) n j k (at_end s) h =
    go _ (record { gather = p.gather; next = p.next + 1 }) ps _ _ _ (settle_next root t s f.gather h.i p ps h.memory h.inv h.end)

-- the items of the frame on top
pub frame-stops : (root t : ℕ) (s : Store) (f : Frame) (fs : List Frame) → Commits root t f.gather f.next fs s → StopOk root t f.gather fs (step_gather_commit s f)
unfolding step_gather_commit
frame-stops root t s f fs h =
    items_keep _ root t f.gather f.next fs s h.memory h.inv
    (omega (arith, h.inv.opened.under, inv_count root t f.next f.gather 0 (OnTop f.gather fs) fs s h.inv))

pub loop_keeps : (fuel root t : ℕ) → LoopOk root t (commit_loop fuel)
unfolding commit_loop turn
loop_keeps zero root t s f fs n j k h = error_keeps root t f fs s Error.GatherReuse (record { i = f.next; memory = h.memory; inv = h.inv; fits = tt })
loop_keeps (suc fuel) root t s f fs n j k h =
    turn_keeps root t (λ x g gs m i h. commit_loop fuel x g gs m i h) (loop_keeps fuel root t) f fs n j k (step_gather_commit s f) (frame-stops root t s f fs h)

-- ---- the awaiting task blocks

module _ (o t : ℕ) (x : Store) (a : BlocksOn o t x) where
  af : After t 0 (λ p. p ≡ o) (view x)
  af = a.ends.after

  low : t < (header x).next
  unfolding view
  low = af.low

  -- it runs
  pub waits-runs : (task x t).state ≡ TaskState.Running
  unfolding view runs_now
  waits-runs = is_run_state (task x t).state (af.runs t low ∙ eq-eqb t t refl)

  pub waits_blocks : SoundDuring Nothing idle Nothing (header x) (add_log (set_state x t (TaskState.Blocked (heap_id o))) (blocked t))
  unfolding runs_now
  waits_blocks =
      block_keeps x t o (runs_now (Moment.Running (task_id t))) low waits-runs a.made a.closes
      (record { memory = a.ends.memory; but = af.but }) (λ u d. ne_eqb t u (λ q. d (sym q))) af.runs
      (λ p d. absurd d) refl

-- ---- the event `await`

module _ (s : Store) (t : ℕ) (h : SoundStore s) (m : (header s).moment ≡ Moment.Running (task_id t)) where
  memory : Memory s
  memory = h.memory

  -- the gather that the running task awaits is opened
  pub commit_begins : (g f n : ℕ) → g < (header s).made → object s g ≡ Object.GatherFuture f n GatherState.Pending
      → Commits g t g 0 [] (open_gather_commit s g (Awaiter.Task (task_id t)))
  unfolding view with_object awaiter_in_range
  commit_begins g f n l q = record { memory = r.0; inv = subst (λ (v : View). Inv g t 0 (OnTop g []) v g 0 []) (sym r.1) start }
    where
      x : Object
      x = Object.GatherFuture f n (GatherState.Awaited (Awaiter.Task (task_id t)) 0)

      low : t < (header s).next
      low = runner_low s t h m

      old : ObjectFits (Object.GatherFuture f n GatherState.Pending)
      old = subst ObjectFits q (object-fits s g)

      r : Memory (open_gather_commit s g (Awaiter.Task (task_id t))) × (view (open_gather_commit s g (Awaiter.Task (task_id t))) ≡ with_object (view s) g x)
      r = opened_in s g f n (Awaiter.Task (task_id t)) memory l q (old.0, (omega (arith, low, (header-fits s).next_fits), omega arith))

      fits : Fits 0 ((n - 0) + 0) Nothing Nothing Nothing (OnTop g []) (view s) g x
      fits = open_fits 0 Nothing (OnTop g []) (view s) g f n (Awaiter.Task (task_id t)) l q (lt→ltb t (header s).next low) (inl refl) (λ p n z. z)

      kept : SoundBut ((n - 0) + 0) Nothing (OnTop g []) (with_object (view s) g x)
      kept = object_keeps 0 ((n - 0) + 0) Nothing Nothing Nothing (OnTop g []) (view s) g x fits h.facts.but

      start : Inv g t 0 (OnTop g []) (with_object (view s) g x) g 0 []
      start =
          record {
            w = record { first = f; count = n; awaiter = Awaiter.Task (task_id t); open_places = 0 };
            k = 0;
            opened = record {
              made = l;
              awaited = ap as_awaited (update_same (object s) g x) ∙ (unfold as_awaited in refl);
              under = omega arith;
              before = λ j z. absurd (not-suc-le-zero z);
            };
            stack = bottom refl refl;
            but = lessen {k = (n - 0) + 0} (omega arith) kept;
            runs = λ u z. h.facts.runs u z ∙ ap (λ (y : Moment). runs_now y u) m;
            low = low;
            moment = m;
          }

  pub commit_keeps : (g f n : ℕ) → g < (header s).made → object s g ≡ Object.GatherFuture f n GatherState.Pending
      → EndOk g t (commit_gather_tree s g (Awaiter.Task (task_id t))).store (commit_gather_tree s g (Awaiter.Task (task_id t))).poll
  unfolding commit_gather_tree
  commit_keeps g f n l q = loop_keeps _ g t (open_gather_commit s g (Awaiter.Task (task_id t))) (record { gather = g; next = 0 }) [] 0 1 0 (commit_begins g f n l q)

  ends-sound-store : (x : Store) → Ends t 0 Nothing x → SoundStore x
  unfolding view runner_in_range
  ends-sound-store x a =
      record {
        memory = a.memory;
        facts = record {
          but = a.after.but;
          runner = subst (λ (y : Moment). T (runner_in_range (header x).next y)) (sym a.after.moment) (lt→ltb t (header x).next a.after.low);
          runs = λ u z. a.after.runs u z ∙ ap (λ (y : Moment). runs_now y u) (sym a.after.moment);
        };
      }

  -- the awaiting task goes on, or blocks
  go-on-keeps : (o n : ℕ) (x : Store) (p : Poll) → EndOk o t x p → SoundStore (go_on t o n x p).store
  unfolding go_on stays view
  go-on-keeps o n x (ready v) a = ends-sound-store x a
  go-on-keeps o n x (raised e) a = ends-sound-store x a
  go-on-keeps o n x pending a = next_keeps Nothing (header x) on activate (activate_keeps Nothing (header x) on) _ (waits_blocks o t x a)
    where
      on : is_ended (header x).moment ≡ false
      on = ap is_ended a.ends.after.moment ∙ (unfold is_ended in refl)

  -- of a gather
  await-gather-keeps : (o f n : ℕ) (x : GatherState) → o < (header s).made → object s o ≡ Object.GatherFuture f n x → SoundStore (await_gather s t o x).store
  unfolding await_gather stays
  await-gather-keeps o f n GatherState.Pending l e =
      go-on-keeps o _ (commit_gather_tree s o (Awaiter.Task (task_id t))).store (commit_gather_tree s o (Awaiter.Task (task_id t))).poll (commit_keeps o f n l e)
  await-gather-keeps o f n (GatherState.Awaited a k) l e = h
  await-gather-keeps o f n GatherState.Completed l e = h
  await-gather-keeps o f n (GatherState.Failed x) l e = h

  made-is : (o : ℕ) → o < (header s).made → object s o ≡ Object.Unmade → ⊥
  unfolding view object_in_range
  made-is o l e = subst (λ (y : Object). T (object_in_range (header s) (places_below (object s) o) y)) e (h.facts.but.objects o l)

  -- of whichever object
  pub await_keeps : (o : ℕ) → o < (header s).made → SoundStore (exec_get_awaitable s t o).store
  unfolding exec_get_awaitable await_object
  await_keeps o l = by (object s o) refl
    where
      by : (x : Object) → object s o ≡ x → SoundStore (await_object s t o x).store
      by Object.Unmade e = absurd (made-is o l e)
      by (Object.Coroutine f x) e = await_coroutine_keeps s t h m o f x l e
      by (Object.ExternalFuture c x) e = await_external_keeps s t h m o c x l e
      by (Object.GatherFuture f n x) e = await-gather-keeps o f n x l e
