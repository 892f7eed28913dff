-- The commit of a gather that a running task awaits reaches no panic: whatever a panic does, the commit with the panics is the machine's.
use Rattle.std.specs.Prelude.{◌≡◌, Bool, true, false, T, eqb, length}
use Rattle.std.proofs.Math.Path.{refl, ap, subst}
use Rattle.std.proofs.Common.{sym, ◌∙◌, not-suc-le-zero}
use mathlib.Core.List.{List, [], ◌∷◌}
use Rattle.std.proofs.Math.Option.{Option, none, some}
use Prim.Native.Nat.{ℕ, zero, suc, ◌+◌, ◌-◌, ◌*◌, ◌<◌}
use native.Mathlib.Omega.{arith}
use borrow.Author.Tests.{eqb-true, lt-ltb}
use Rattle.asyncio.specs.declared.Value.{Value}
use Rattle.asyncio.specs.declared.Error.{Error}
use Rattle.asyncio.specs.declared.Awaiter.{Awaiter}
use Rattle.asyncio.specs.declared.CoroutineState.{CoroutineState}
use Rattle.asyncio.specs.declared.GatherState.{GatherState}
use Rattle.asyncio.specs.declared.Object.{Object}
use Rattle.asyncio.specs.declared.Moment.{Moment}
use Rattle.asyncio.specs.Limits.{task_limit, object_limit}
use Rattle.asyncio.specs.Ranges.{ErrorFits}
use Rattle.asyncio.specs.Numbers.{heap_id, task_id}
use Rattle.asyncio.specs.States.{pick}
use Rattle.asyncio.specs.Parts.{count_of}
use Rattle.machine.specs.Store.{Store, view, object, place, header}
use Rattle.machine.specs.Scheduler.{AwaitedGather, as_awaited, task_of, spawn_unless, spawn}
use Rattle.machine.specs.Commit.{Poll, ready, raised, pending, Polled, gives, Item, polled, nested, polled_spawn, item_coroutine, item_object, open_from, item}
use Rattle.machine.specs.Commit.{Stop, at_end, at_nested, at_error, put_polled, put_item, step_item, step_items, Frame, step_gather_commit, with_state, set_gather, open_gather_commit}
use Rattle.machine.specs.Commit.{settle_as, settle_gather_commit, resume_in, resume_as, resume_after_child, unwind, Committed, turn, commit_loop, pending_count, commit_gather_tree}
use Rattle.machine.specs.Sound.{rest_filled}
use Rattle.machine_laws.specs.TestLaws.{is_true}
use Rattle.machine_laws.specs.StoreLaws.{header-fits}
use Rattle.machine_laws.specs.DeliveryLaws.{awaited-object, awaited-fits}
use Rattle.machine_laws.specs.CommitLaws.{StopKeeps, step_kinds, nested_fuel, settled_fuel}
use Rattle.machine_theorems.specs.Soundness.Stores.{SoundStore}
use Rattle.machine_theorems.specs.Soundness.Deliver.{failed-done}
use Rattle.machine_theorems.specs.Soundness.Memory.{Memory}
use Rattle.machine_theorems.specs.Soundness.CommitInv.{OnTop, Stacked, above, Inv, settle_memory}
use Rattle.machine_theorems.specs.Soundness.CommitLoop.{stacked_set, rest-done, Commits, settle_next}
use Rattle.machine_theorems.specs.Soundness.CommitItems.{StopOk, Goes, PollOk, ItemOk, goes-length, one_keeps}
use Rattle.machine_theorems.specs.Soundness.AwaitGather.{nested_commits, frame-stops, commit_begins}
use Rattle.machine_theorems.specs.Panics.NoPanicLaws.{top_gather, spawn-left, spawn-room}
use Rattle.machine_theorems.specs.Panics.NoPanicPlaces.{Resumable, resumable, stepped_awaitable}
use Rattle.machine_theorems.specs.Panics.Panic.{Panics}
use Rattle.machine_theorems.specs.Panics.PanickingCommit.{spawn_or_panic, coroutine_or_panic, object_or_panic, item_or_panic, put_polled_or_panic, put_item_or_panic, step_item_or_panic, items_or_panic, frame_or_panic}
use Rattle.machine_theorems.specs.Panics.PanickingCommit.{set_or_panic, open_or_panic, settle_as_or_panic, settle_or_panic, resume_in_or_panic, resume_as_or_panic, resume_child_or_panic, unwind_or_panic}
use Rattle.machine_theorems.specs.Panics.PanickingCommit.{turn_or_panic, loop_or_panic, commit_or_panic}

module _ (panic : Panics) where
  -- ---- one item

  module _ (root t g : ℕ) (fs : List Frame) (i : ℕ) (s : Store) (h : Inv root t 0 (OnTop g fs) (view s) g i fs) (less : i < h.w.count) where
    abbrev w : AwaitedGather
    w = h.w

    abbrev o : ℕ
    o = (place s (w.first + i)).item.0

    spawn-same : spawn_or_panic panic s o g (task_of s o) ≡ polled_spawn s (spawn s o g)
    spawn-same = by (task_of s o) refl
      where
        by : (d : Option ℕ) → task_of s o ≡ d → spawn_or_panic panic s o g d ≡ polled_spawn s (spawn s o g)
        by (some u) e = unfold spawn_or_panic spawn in (rw e (unfold spawn_unless polled_spawn in refl))
        by none e = unfold spawn_or_panic polled_spawn in (rw (lt-ltb (header s).next task_limit (spawn-left s h less), spawn-room s h less o e))

    object-same : (x : Object) → object s o ≡ x → object_or_panic panic s g o x ≡ item_object s g o x
    unfolding object_or_panic item_object coroutine_or_panic item_coroutine
    object-same Object.Unmade e = absurd (stepped_awaitable h less (unfold view in e))
    object-same (Object.Coroutine f CoroutineState.New) e = ap polled spawn-same
    object-same (Object.Coroutine f CoroutineState.Running) e = refl
    object-same (Object.Coroutine f CoroutineState.Completed) e = refl
    object-same (Object.ExternalFuture c x) e = refl
    object-same (Object.GatherFuture f n x) e = refl

    item-same : item_or_panic panic s g w o ≡ item s g w o
    unfolding item_or_panic item
    item-same = ap (λ (x : Item). pick (open_from (place s) w o 0 w.count) (polled (gives s pending)) x) (object-same (object s o) refl)

    put_same : (go other : Store → Stop) → ((y : Store) → Goes root t g fs i w.count y → go y ≡ other y) → (x : Item) → ItemOk root t g fs w i o s x
        → put_item_or_panic panic g w i o s x go ≡ put_item g w i o s x other
    unfolding put_item_or_panic put_item
    put_same go other f nested k = refl
    put_same go other f (polled r) k = by r.poll k
      where
        by : (p : Poll) → PollOk root t g fs w i r.store p → put_polled_or_panic panic g w i r.store p go ≡ put_polled g w i r.store p other
        by (ready v) k = unfold put_polled_or_panic put_polled in (rw (lt-ltb i w.count less) (f _ k))
        by (raised e) k = unfold put_polled_or_panic put_polled in refl
        by pending k = unfold put_polled_or_panic put_polled in (f _ k)

  -- ---- the items of one gather

  items-same : (n : ℕ) (root t g i : ℕ) (fs : List Frame) (s : Store) → Memory s → (h : Inv root t 0 (OnTop g fs) (view s) g i fs) → i + n ≡ h.w.count
      → items_or_panic panic n s g i ≡ step_items n s g i
  unfolding items_or_panic step_items view
  items-same zero root t g i fs s mem h e = refl
  items-same (suc n) root t g i fs s mem h e =
      by (as_awaited (object s g)) h.opened.awaited (λ y k. items-same n root t g (i + 1) fs y k.memory k.inv (goes-length root t g i fs h.w.count n y e k))
    where
      less : i < h.w.count
      less = omega arith

      by : (u : Option AwaitedGather) → u ≡ some h.w
          → ((y : Store) → Goes root t g fs i h.w.count y → items_or_panic panic n y g (i + 1) ≡ step_items n y g (i + 1))
          → step_item_or_panic panic g i s u (λ x. items_or_panic panic n x g (i + 1)) ≡ step_item g i s u (λ x. step_items n x g (i + 1))
      by u q f = unfold step_item_or_panic step_item in (rw (q, lt-ltb i h.w.count less, item-same root t g fs i s h less)
          (put_same root t g fs i s h less (λ x. items_or_panic panic n x g (i + 1)) (λ x. step_items n x g (i + 1)) f _ (one_keeps root t g fs i s mem h less)))

  -- the items of the frame on top
  frame_same : (root t : ℕ) (s : Store) (f : Frame) (fs : List Frame) → Commits root t f.gather f.next fs s
      → frame_or_panic panic s f (object s f.gather) ≡ step_gather_commit s f
  unfolding step_gather_commit view
  frame_same root t s f fs h =
      let w : AwaitedGather = h.inv.w in
      let is_one : object s f.gather ≡ Object.GatherFuture w.first w.count (GatherState.Awaited w.awaiter w.open_places) = top_gather h.inv in
      subst (λ (x : Object). frame_or_panic panic s f x ≡ step_items (count_of x - f.next) s f.gather f.next) (sym is_one)
      (unfold frame_or_panic count_of in (items-same (h.inv.w.count - f.next) root t f.gather f.next fs s h.memory h.inv (omega (arith, h.inv.opened.under))))

  -- ---- opening, settling and unwinding

  -- a gather's state is set
  set_same : (s : Store) (g f n : ℕ) (x y : GatherState) → object s g ≡ Object.GatherFuture f n x → set_or_panic panic s g y (object s g) ≡ set_gather s g y
  unfolding set_gather
  set_same s g f n x y e = rw e (unfold set_or_panic with_state in refl)

  open_same : (s : Store) (g f n : ℕ) (a : Awaiter) → object s g ≡ Object.GatherFuture f n GatherState.Pending → open_or_panic panic s g a ≡ open_gather_commit s g a
  unfolding open_or_panic open_gather_commit
  open_same s g f n a e = set_same s g f n GatherState.Pending (GatherState.Awaited a 0) e

  awaited-set-same : (s : Store) (g : ℕ) (w : AwaitedGather) (y : GatherState) → as_awaited (object s g) ≡ some w → set_or_panic panic s g y (object s g) ≡ set_gather s g y
  awaited-set-same s g w y e = set_same s g w.first w.count (GatherState.Awaited w.awaiter w.open_places) y (awaited-object (object s g) w e)

  unwind-same : (fs : List Frame) (s : Store) (root t j g i : ℕ) (w : AwaitedGather) (e : Error) → ErrorFits e → Memory s → g < (header s).made → as_awaited (object s g) ≡ some w
      → Stacked (header s).made (object s) (place s) root t g w.awaiter fs j
      → unwind_or_panic panic s (record { gather = g; next = i } ∷ fs) e ≡ unwind s (record { gather = g; next = i } ∷ fs) e
  unfolding unwind_or_panic unwind
  unwind-same [] s root t j g i w e ok m l q st = awaited-set-same s g w (GatherState.Failed e) q
  unwind-same (f ∷ fs) s root t j g i w e ok m l q st =
      ap (λ (x : Store). unwind_or_panic panic x (f ∷ fs) e) (awaited-set-same s g w (GatherState.Failed e) q)
      ∙ by (stacked_set s g w (GatherState.Failed e) m l q ((awaited-fits s g w q).0, ok) st)
      (λ j' w' l' q' st'. unwind-same fs (set_gather s g (GatherState.Failed e)) root t j' f.gather f.next w' e ok
      (settle_memory s root t 0 j g w (f ∷ fs) (GatherState.Failed e) (failed-done (place s) w.first w.count e) ok m l q) l' q' st')
    where
      s1 : Store
      s1 = set_gather s g (GatherState.Failed e)

      by : {a : Awaiter} {m : ℕ} → Stacked (header s1).made (object s1) (place s1) root t g a (f ∷ fs) m
          → ((j' : ℕ) (w' : AwaitedGather) → f.gather < (header s1).made → as_awaited (object s1 f.gather) ≡ some w'
          → Stacked (header s1).made (object s1) (place s1) root t f.gather w'.awaiter fs j' → unwind_or_panic panic s1 (f ∷ fs) e ≡ unwind s1 (f ∷ fs) e)
          → unwind_or_panic panic s1 (f ∷ fs) e ≡ unwind s1 (f ∷ fs) e
      by (above w' j' op lt nm lo aw rm rest) go = go j' w' op.made op.awaited rest

  -- the gather on top, with all its places done
  settle-same : (root t : ℕ) (s : Store) (g i : ℕ) (fs : List Frame) (h : Inv root t 0 (OnTop g fs) (view s) g i fs) → i ≡ h.w.count
      → settle_or_panic panic s g ≡ settle_gather_commit s g
  unfolding settle_or_panic settle_gather_commit view
  settle-same root t s g i fs h end = by (as_awaited (object s g)) h.opened.awaited
    where
      w : AwaitedGather
      w = h.w

      rest : T (rest_filled (place s) w.first w.count w.open_places)
      rest = rest-done (place s) (header s).made (object s) g i w end h.opened

      done : (b : Bool) → eqb w.open_places 0 ≡ b
          → pick b (pick (rest_filled (place s) w.first w.count 0) (gives (set_or_panic panic s g GatherState.Completed (object s g)) (ready (Value.List (heap_id g)))) (panic.polled s)) (gives s pending)
          ≡ pick b (gives (set_gather s g GatherState.Completed) (ready (Value.List (heap_id g)))) (gives s pending)
      done true q =
          let full : rest_filled (place s) w.first w.count 0 ≡ true =
          is_true _ (subst (λ (m : ℕ). T (rest_filled (place s) w.first w.count m)) (eqb-true w.open_places 0 q) rest) in
          rw full (ap (λ (x : Store). gives x (ready (Value.List (heap_id g)))) (awaited-set-same s g w GatherState.Completed h.opened.awaited))
      done false q = refl

      by : (u : Option AwaitedGather) → u ≡ some w → settle_as_or_panic panic s g u ≡ settle_as s g u
      by u q = rw q (unfold settle_as_or_panic settle_as in (done (eqb w.open_places 0) refl))

  -- the frame below it resumes
  settled-resumable : (root t : ℕ) (s : Store) (g i : ℕ) (p : Frame) (ps : List Frame) → Memory s → Inv root t 0 (OnTop g (p ∷ ps)) (view s) g i (p ∷ ps)
      → Resumable (object (settle_gather_commit s g).store) p
  unfolding settle_gather_commit view
  settled-resumable root t s g i p ps m h = by (as_awaited (object s g)) h.opened.awaited
    where
      w : AwaitedGather
      w = h.w

      done : (b : Bool) → Resumable (object (pick b (gives (set_gather s g GatherState.Completed) (ready (Value.List (heap_id g)))) (gives s pending)).store) p
      done true = resumable (stacked_set s g w GatherState.Completed m h.opened.made h.opened.awaited ((awaited-fits s g w h.opened.awaited).0, tt) h.stack)
      done false = resumable h.stack

      by : (u : Option AwaitedGather) → u ≡ some w → Resumable (object (settle_as s g u).store) p
      by u q = rw q (unfold settle_as in (done (eqb w.open_places 0)))

  resume-same : (f : Frame) (r : Polled) → Resumable (object r.store) f → resume_child_or_panic panic f r ≡ resume_after_child f r
  unfolding resume_child_or_panic resume_after_child
  resume-same f r h = rw h.awaited (unfold resume_as_or_panic resume_as in (by r.poll))
    where
      by : (p : Poll) → resume_in_or_panic panic r.store f h.gather p ≡ resume_in r.store f h.gather p
      by (ready v) = unfold resume_in_or_panic resume_in in (rw (lt-ltb f.next h.gather.count h.slot))
      by (raised e) = unfold resume_in_or_panic resume_in in refl
      by pending = unfold resume_in_or_panic resume_in in refl

  -- ---- the commit

  -- two loops do the same in the midst of a commit, with fuel for the pending gathers (two turns each) and the frames
  SameLoop : ℕ → ℕ → ℕ → (Store → Frame → List Frame → ℕ → ℕ → ℕ → Committed) → (Store → Frame → List Frame → ℕ → ℕ → ℕ → Committed) → Type 0
  SameLoop fuel root t loop other =
      (s : Store) (f : Frame) (fs : List Frame) (n j k : ℕ) → fuel ≡ suc (2 * pending_count s + length fs) → Commits root t f.gather f.next fs s
      → loop s f fs n j k ≡ other s f fs n j k

  -- the gather of a frame
  top-low : (root t g i : ℕ) (fs : List Frame) (s : Store) → Commits root t g i fs s → g < object_limit
  unfolding view
  top-low root t g i fs s h = omega (arith, h.inv.opened.made, (header-fits s).made_fits)

  error_same : (root t : ℕ) (f : Frame) (fs : List Frame) (s : Store) (i : ℕ) (e : Error) → ErrorFits e → Memory s → Inv root t 0 (OnTop f.gather fs) (view s) f.gather i fs
      → unwind_or_panic panic s (f ∷ fs) e ≡ unwind s (f ∷ fs) e
  unfolding view
  error_same root t f fs s i e ok m h = unwind-same fs s root t h.k f.gather f.next h.w e ok m h.opened.made h.opened.awaited h.stack

  turn-same : (fuel root t : ℕ) (loop other : Store → Frame → List Frame → ℕ → ℕ → ℕ → Committed) → SameLoop fuel root t loop other
      → (u : Store) (f : Frame) (fs : List Frame) (n j k : ℕ) (x : Stop) → fuel ≡ 2 * pending_count u + length fs → f.gather < object_limit → StopKeeps u x
      → StopOk root t f.gather fs x → turn_or_panic panic loop f fs n j k x ≡ turn other f fs n j k x
  unfolding turn_or_panic turn SameLoop
  turn-same fuel root t loop other go u f fs n j k (at_nested s i o) e l q h =
      ap (λ (x : Store). loop x (record { gather = o; next = 0 }) (record { gather = f.gather; next = i } ∷ fs) (suc n) (suc j) k)
      (open_same s o h.first h.count (Awaiter.GatherSlot (heap_id f.gather) (heap_id o)) h.is_new)
      ∙ go _ (record { gather = o; next = 0 }) (record { gather = f.gather; next = i } ∷ fs) (suc n) (suc j) k (e ∙ nested_fuel u s f fs i o q) (nested_commits root t f fs s i o h)
  turn-same fuel root t loop other go u f fs n j k (at_error s x) e l q h =
      ap (λ (y : Store). record { store = y; poll = raised x; steps = suc n; opened = j; settled = k }) (error_same root t f fs s h.i x h.fits h.memory h.inv)
  turn-same fuel root t loop other go u f [] n j k (at_end s) e l q h =
      ap (λ (r : Polled). record { store = r.store; poll = r.poll; steps = suc n; opened = j; settled = suc k }) (settle-same root t s f.gather h.i [] h.inv h.end)
  turn-same fuel root t loop other go u f (p ∷ ps) n j k (at_end s) e l q h =
      let next : Commits root t p.gather (p.next + 1) ps (resume_after_child p (settle_gather_commit s f.gather)) =
      settle_next root t s f.gather h.i p ps h.memory h.inv h.end in
      ap (λ (r : Polled). loop (resume_child_or_panic panic p r) (record { gather = p.gather; next = p.next + 1 }) ps (suc n) j (suc k))
      (settle-same root t s f.gather h.i (p ∷ ps) h.inv h.end)
      ∙ (ap (λ (x : Store). loop x (record { gather = p.gather; next = p.next + 1 }) ps (suc n) j (suc k))
      (resume-same p (settle_gather_commit s f.gather) (settled-resumable root t s f.gather h.i p ps h.memory h.inv))
      ∙ go _ (record { gather = p.gather; next = p.next + 1 }) ps (suc n) j (suc k)
      (e ∙ settled_fuel u s f p ps q l (top-low root t p.gather (p.next + 1) ps _ next)) next)

  loop-same : (fuel root t : ℕ) → SameLoop fuel root t (loop_or_panic panic fuel) (commit_loop fuel)
  unfolding loop_or_panic commit_loop SameLoop turn_or_panic turn
  loop-same zero root t s f fs n j k e h = absurd (not-suc-le-zero {n = 0} (omega (arith, e)))
  loop-same (suc fuel) root t s f fs n j k e h =
      let low : f.gather < object_limit = top-low root t f.gather f.next fs s h in
      ap (turn_or_panic panic (λ x g gs m i h. loop_or_panic panic fuel x g gs m i h) f fs n j k) (frame_same root t s f fs h)
      ∙ turn-same fuel root t (λ x g gs m i h. loop_or_panic panic fuel x g gs m i h) (λ x g gs m i h. commit_loop fuel x g gs m i h) (loop-same fuel root t) s f fs n j k
      (step_gather_commit s f) (omega (arith, e)) low (step_kinds s f h.memory.sized low) (frame-stops root t s f fs h)

  -- The commit of a gather that the running task awaits reaches no panic.
  pub commit_safe : (s : Store) (t : ℕ) (h : SoundStore s) → (header s).moment ≡ Moment.Running (task_id t) → (g f n : ℕ) → g < (header s).made
      → object s g ≡ Object.GatherFuture f n GatherState.Pending → commit_or_panic panic s g (Awaiter.Task (task_id t)) ≡ commit_gather_tree s g (Awaiter.Task (task_id t))
  unfolding commit_or_panic commit_gather_tree SameLoop
  commit_safe s t h m g f n l q =
      ap (λ (x : Store). loop_or_panic panic (2 * pending_count x + 1) x (record { gather = g; next = 0 }) [] 0 1 0)
      (open_same s g f n (Awaiter.Task (task_id t)) q)
      ∙ loop-same _ g t (open_gather_commit s g (Awaiter.Task (task_id t))) (record { gather = g; next = 0 }) [] 0 1 0 (omega arith) (commit_begins s t h m g f n l q)
