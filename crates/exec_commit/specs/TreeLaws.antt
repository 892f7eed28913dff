-- The turns of a commit, in the shape of what the code knows there: how it goes on, that the pending gathers and the frames become
-- fewer, and that the places of the frames stay in range.
use Rattle.std.specs.Prelude.{◌≡◌, refl, List, [], ◌∷◌, length}
use Rattle.std.proofs.Math.Path.{sym, ap}
use Rattle.std.proofs.Common.{◌∙◌}
use Prim.Native.Nat.{ℕ, suc, ◌+◌, ◌*◌, ◌≤◌, ◌<◌}
use native.Mathlib.Omega.{arith}
use Rattle.asyncio.specs.Limits.{object_limit, item_limit, tasks_length, objects_length, places_length}
use Rattle.asyncio.specs.Numbers.{heap_id}
use Rattle.asyncio.specs.Kinds.{kind}
use Rattle.asyncio.specs.Parts.{count_of}
use Rattle.asyncio.specs.declared.Kind.{Kind}
use Rattle.asyncio.specs.declared.HeapId.{HeapId}
use Rattle.asyncio.specs.declared.Error.{Error}
use Rattle.asyncio.specs.declared.Awaiter.{Awaiter}
use Rattle.asyncio.specs.declared.GatherState.{GatherState}
use Rattle.rows.specs.Tables.{object_at}
use Rattle.rows.specs.TableLaws.{places_fit}
use Rattle.queue.specs.declared.ReadyQueue.{ReadyQueue}
use Rattle.machine.specs.Store.{Store, LogEntry, store_of, object}
use Rattle.machine.specs.Commit.{Poll, Frame, raised, Polled, gives, step_gather_commit, open_gather_commit, settle_gather_commit, resume_after_child, unwind, Committed, turn, pending_in, pending_count, commit_gather_tree}
use Rattle.machine_laws.specs.Views.{Sized}
use Rattle.machine_laws.specs.Statements.{SameKinds, Placed, StopBelow, commit_rest}
use Rattle.machine_laws.specs.CommitLaws.{same_kinds_then, same-pending_count, StopKeeps, step_kinds, step-below, set_counts, settle_kinds, resume_kinds, open_falls, placed_same, pending-most, commit_begins, commit_turns}
use Rattle.exec_commit.specs.Steps.{stopped, stop_log, frame}
use Rattle.exec_commit.specs.Frames.{GathersFit, commit_result, result_of, GoesOn}
use Rattle.exec_commit.specs.declared.step.Stop.{Stop}

-- ---- the frames that wait

-- their gathers are objects' numbers
pub gathers_fit : (s : Store) (fs : List Frame) → Placed s fs → GathersFit fs
unfolding Placed GathersFit
gathers_fit s [] z = tt
gathers_fit s (f ∷ fs) z = (z.0, gathers_fit s fs z.2)

-- ---- how a commit begins

pub tree_begins : (ts os ps : List ℕ) (q : ReadyQueue) (g : ℕ) {fs : List Frame} → fs ≡ []
    → GoesOn (λ l. commit_rest (store_of ts os ps q l) (frame g 0) [] 0 1 0) ts os ps q (frame g 0) fs 0
tree_begins ts os ps q g e = record { log = λ l. l; opened = 1; settled = 0; goes_on = λ l. rw e }

pub no_frame_placed : (s : Store) {fs : List Frame} → fs ≡ [] → Placed s fs
unfolding Placed
no_frame_placed s e = rw e tt

pub begins_low : (os : List ℕ) {fs : List Frame} → fs ≡ [] → length fs + pending_in os ≤ object_limit
begins_low os e = rw e (omega (arith, pending-most os))

pub begins-few : (os : List ℕ) {fs : List Frame} → fs ≡ [] → 0 + (2 * pending_in os + length fs) ≤ 512
begins-few os e = rw e (omega (arith, pending-most os))

-- the commit of the root is that of its first frame
pub tree_result : (ts os ps : List ℕ) (q : ReadyQueue) (g : ℕ) (a : Awaiter) (l : List LogEntry) {os' : List ℕ}
    → store_of ts os' ps q l ≡ open_gather_commit (store_of ts os ps q l) g a → (us vs rs : List ℕ) (r : ReadyQueue) (p : Poll) (n : ℕ)
    → commit_result (store_of us vs rs r (commit_rest (store_of ts os' ps q l) (frame g 0) [] 0 1 0).store.log) p n ≡ result_of (commit_rest (store_of ts os' ps q l) (frame g 0) [] 0 1 0)
    → commit_result (store_of us vs rs r (commit_gather_tree (store_of ts os ps q l) g a).store.log) p n ≡ result_of (commit_gather_tree (store_of ts os ps q l) g a)
tree_result ts os ps q g a l {os'} e us vs rs r p n h =
    let k : commit_rest (store_of ts os' ps q l) (frame g 0) [] 0 1 0 ≡ commit_gather_tree (store_of ts os ps q l) g a =
    ap (λ (s : Store). commit_rest s (frame g 0) [] 0 1 0) e ∙ sym (commit_begins (store_of ts os ps q l) g a) in
    rw k at h

-- ---- a turn

module _ (ts os ps : List ℕ) (q : ReadyQueue) (g i : ℕ) (a : length ts ≡ tasks_length) (b : length os ≡ objects_length) (c : length ps ≡ places_length) (h : g < object_limit)
    (us vs rs : List ℕ) (r : ReadyQueue) (x : Stop)
    (s : (l : List LogEntry) → stopped (store_of us vs rs r (stop_log (step_gather_commit (store_of ts os ps q l) (frame g i)))) x ≡ step_gather_commit (store_of ts os ps q l) (frame g i)) where
  abbrev log_at : List LogEntry → List LogEntry
  log_at l = stop_log (step_gather_commit (store_of ts os ps q l) (frame g i))

  sized : (l : List LogEntry) → Sized (store_of ts os ps q l)
  sized l = record { tasks_sized = a; objects_sized = b; places_sized = c }

  keeps : StopKeeps (store_of ts os ps q []) (stopped (store_of us vs rs r (log_at [])) x)
  keeps = rw (s []) (step_kinds (store_of ts os ps q []) (frame g i) (sized []) h)

  stops-below : StopBelow (count_of (object (store_of ts os ps q []) g)) (stopped (store_of us vs rs r (log_at [])) x)
  stops-below = rw (s []) (step-below (store_of ts os ps q []) (frame g i))

  -- where no item is left
  end_same : x ≡ Stop.End → SameKinds (store_of ts os ps q []) (store_of us vs rs r (log_at []))
  unfolding StopKeeps stopped
  end_same e = rw e at keeps

  -- at a nested gather
  module _ (at : ℕ) (o : HeapId) (e : x ≡ Stop.Nested at o) where
    nested-keeps : SameKinds (store_of ts os ps q []) (store_of us vs rs r (log_at [])) × (o.0 < object_limit)
        × (kind (object (store_of us vs rs r (log_at [])) o.0) ≡ Kind.PendingGather)
    unfolding StopKeeps stopped
    nested-keeps = rw e at keeps

    pub nested_range : o.0 < object_limit
    nested_range = nested-keeps.1

    nested-at : at < count_of (object (store_of ts os ps q []) g)
    unfolding StopBelow stopped
    nested-at = rw e at stops-below

    -- there is a pending gather
    pub nested-room : 0 < pending_in os
    unfolding pending_count
    nested-room =
        let k = nested-keeps in
        let u : Store = store_of us vs rs r (log_at []) in
        let m : pending_in vs ≡ pending_in os = same-pending_count (store_of ts os ps q []) u k.0 in
        let n : pending_in vs ≡ suc (pending_in (open_gather_commit u o.0 Awaiter.Nobody).objects) = open_falls u o.0 Awaiter.Nobody k.0.sized k.1 k.2 in
        omega arith

    module _ (vs' : List ℕ) (y : Awaiter)
        (p : store_of us vs' rs r (log_at []) ≡ open_gather_commit (store_of us vs rs r (log_at [])) o.0 y) where
      -- one pending gather less
      pub nested-falls : pending_in os ≡ suc (pending_in vs')
      unfolding pending_count
      nested-falls =
          let k = nested-keeps in
          sym (same-pending_count (store_of ts os ps q []) (store_of us vs rs r (log_at [])) k.0)
          ∙ open_falls (store_of us vs rs r (log_at [])) o.0 y k.0.sized k.1 k.2
          ∙ ap (λ (u : Store). suc (pending_in u.objects)) (sym p)

      nested-counts : (n : ℕ) → count_of (object (store_of us vs' rs r (log_at [])) n) ≡ count_of (object (store_of ts os ps q []) n)
      unfolding open_gather_commit
      nested-counts n =
          let k = nested-keeps in
          ap (λ (u : Store). count_of (object u n)) p ∙ set_counts (store_of us vs rs r (log_at [])) o.0 k.0.sized k.1 (GatherState.Awaited y 0) n ∙ k.0.counts n

      -- the frames' places are in range, with the new frame's
      pub nested_placed : (fs : List Frame) → Placed (store_of ts os ps q []) fs → {gs : List Frame} → gs ≡ frame g at ∷ fs → Placed (store_of us vs' rs r []) gs
      unfolding Placed object
      nested_placed fs z e =
          let k : count_of (object_at vs' g) ≡ count_of (object_at os g) = nested-counts g in
          rw e (h, rw k nested-at, unfold Placed in placed_same (store_of ts os ps q []) (store_of us vs' rs r []) fs nested-counts z)

  -- the innermost gather was settled
  module _ (e : x ≡ Stop.End) (vs₁ : List ℕ) (p : Poll) (f : (l : List LogEntry) → gives (store_of us vs₁ rs r l) p ≡ settle_gather_commit (store_of us vs rs r l) g) where
    settled_same : SameKinds (store_of ts os ps q []) (store_of us vs₁ rs r (log_at []))
    settled_same =
        let k : SameKinds (store_of us vs rs r (log_at [])) (settle_gather_commit (store_of us vs rs r (log_at [])) g).store =
        settle_kinds (store_of us vs rs r (log_at [])) g (end_same e).sized h in
        let m : SameKinds (store_of us vs rs r (log_at [])) (store_of us vs₁ rs r (log_at [])) = rw (← f (log_at [])) at k in
        same_kinds_then (end_same e) m

    module _ (fs gs : List Frame) (y next : ℕ) (m : fs ≡ frame y next ∷ gs) (z : Placed (store_of ts os ps q []) fs) where
      -- the gather below, and the place of it in which the settled one is nested
      pub parent_range : y < object_limit
      unfolding Placed
      parent_range = (rw m at z).0

      pub child_range : next < count_of (object_at vs₁ y)
      unfolding Placed object
      child_range = rw (settled_same.counts y) (rw m at z).1

      pub child_few : next < item_limit
      child_few = omega (arith, child_range, (places_fit vs₁ y refl refl).at_most)

      module _ (vs₂ rs₂ : List ℕ)
          (t : (l : List LogEntry) → store_of us vs₂ rs₂ r l ≡ resume_after_child (frame y next) (gives (store_of us vs₁ rs r l) p)) where
        popped-same : SameKinds (store_of ts os ps q []) (store_of us vs₂ rs₂ r (log_at []))
        popped-same =
            let k : SameKinds (store_of us vs₁ rs r (log_at [])) (resume_after_child (frame y next) (gives (store_of us vs₁ rs r (log_at [])) p)) =
            resume_kinds (frame y next) (gives (store_of us vs₁ rs r (log_at [])) p) settled_same.sized parent_range in
            same_kinds_then settled_same (rw (← t (log_at [])) at k)

        -- as many pending gathers
        pub popped_pending : pending_in vs₂ ≡ pending_in os
        unfolding pending_count
        popped_pending = same-pending_count (store_of ts os ps q []) (store_of us vs₂ rs₂ r (log_at [])) popped-same

        pub popped_placed : Placed (store_of us vs₂ rs₂ r []) gs
        unfolding Placed object
        popped_placed = unfold Placed in placed_same (store_of ts os ps q []) (store_of us vs₂ rs₂ r []) gs popped-same.counts (rw m at z).2

  -- ---- how the commit goes on

  module _ (M : List LogEntry → Committed) (fs : List Frame) (n : ℕ) (z : Placed (store_of ts os ps q []) fs) (w : GoesOn M ts os ps q (frame g i) fs n) where
    abbrev log_now : List LogEntry → List LogEntry
    log_now l = log_at (w.log l)

    turns : (l : List LogEntry) → turn commit_rest (frame g i) fs n w.opened w.settled (stopped (store_of us vs rs r (log_now l)) x) ≡ M l
    unfolding object
    turns l =
        ap (λ y. turn commit_rest (frame g i) fs n w.opened w.settled y) (s (w.log l))
        ∙ sym (commit_turns (store_of ts os ps q (w.log l)) (frame g i) fs n w.opened w.settled (sized (w.log l)) h
        (placed_same (store_of ts os ps q []) (store_of ts os ps q (w.log l)) fs (λ o. refl) z))
        ∙ w.goes_on l

    -- a nested gather is opened
    pub tree_nested : (at : ℕ) (o : HeapId) → x ≡ Stop.Nested at o → {gs : List Frame} → gs ≡ frame g at ∷ fs → (vs' : List ℕ)
        → ((l : List LogEntry) → store_of us vs' rs r l ≡ open_gather_commit (store_of us vs rs r l) o.0 (Awaiter.GatherSlot (heap_id g) o))
        → GoesOn M us vs' rs r (frame o.0 0) gs (n + 1)
    unfolding turn stopped
    tree_nested at o e k vs' p = record {
      log = log_now;
      opened = suc w.opened;
      settled = w.settled;
      goes_on = λ l.
          let f : n + 1 ≡ suc n = omega arith in
          rw (f, k, p (log_now l)) (rw e at (turns l));
    }

    -- the root was settled
    pub tree_root : x ≡ Stop.End → fs ≡ [] → (vs₁ : List ℕ) (p : Poll) → ((l : List LogEntry) → gives (store_of us vs₁ rs r l) p ≡ settle_gather_commit (store_of us vs rs r l) g)
        → (l : List LogEntry) → commit_result (store_of us vs₁ rs r (M l).store.log) p (n + 1) ≡ result_of (M l)
    unfolding turn stopped
    tree_root e m vs₁ p f l =
        let k : n + 1 ≡ suc n = omega arith in
        let t : record { store = store_of us vs₁ rs r (log_now l); poll = p; steps = suc n; opened = w.opened; settled = suc w.settled } ≡ M l =
        ap (λ (y : Polled). record { store = y.store; poll = y.poll; steps = suc n; opened = w.opened; settled = suc w.settled }) (f (log_now l)) ∙ (rw (e, m) at (turns l)) in
        rw (k, ← t)

    -- a nested one was
    pub tree_popped : x ≡ Stop.End → (y next : ℕ) (gs : List Frame) → fs ≡ frame y next ∷ gs → (vs₁ : List ℕ) (p : Poll) → ((l : List LogEntry) → gives (store_of us vs₁ rs r l) p ≡ settle_gather_commit (store_of us vs rs r l) g)
        → (vs₂ rs₂ : List ℕ) → ((l : List LogEntry) → store_of us vs₂ rs₂ r l ≡ resume_after_child (frame y next) (gives (store_of us vs₁ rs r l) p))
        → GoesOn M us vs₂ rs₂ r (frame y (next + 1)) gs (n + 1)
    unfolding turn stopped
    tree_popped e y next gs m vs₁ p f vs₂ rs₂ t = record {
      log = log_now;
      opened = w.opened;
      settled = suc w.settled;
      goes_on = λ l.
          let k : n + 1 ≡ suc n = omega arith in
          rw (k, t (log_now l), f (log_now l)) (rw (e, m) at (turns l));
    }

    -- the commit fails
    pub tree_raised : (y : Error) → x ≡ Stop.Raised y → (vs₁ : List ℕ)
        → ((l : List LogEntry) → store_of us vs₁ rs r l ≡ unwind (store_of us vs rs r l) (frame g i ∷ fs) y)
        → (l : List LogEntry) → commit_result (store_of us vs₁ rs r (M l).store.log) (raised y) (n + 1) ≡ result_of (M l)
    unfolding turn stopped
    tree_raised y e vs₁ p l =
        let k : n + 1 ≡ suc n = omega arith in
        let t : record { store = store_of us vs₁ rs r (log_now l); poll = raised y; steps = suc n; opened = w.opened; settled = w.settled } ≡ M l =
        ap (λ (u : Store). record { store = u; poll = raised y; steps = suc n; opened = w.opened; settled = w.settled }) (p (log_now l)) ∙ (rw e at (turns l)) in
        rw (k, ← t)
