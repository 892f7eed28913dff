-- What an accepted await does to every gather; and so each accepted event.
use Rattle.std.specs.Prelude.{◌≡◌, ◌⊎◌, Bool, true, false, ◌||◌, eqb, leb}
use Rattle.std.proofs.Math.Path.{refl, ap, subst}
use Rattle.std.proofs.Common.{sym, ◌∙◌, true≢false, arith, ltb-true, ltb-false, ne_eqb}
use Rattle.std.proofs.Math.Logic.{inl, inr}
use Rattle.std.proofs.Math.Bool.{not}
use mathlib.Core.List.{List, [], ◌∷◌}
use Rattle.std.proofs.Math.Option.{Option, none, some, some-injective}
use Prim.Native.Nat.{ℕ, zero, suc, ◌+◌, ◌≤◌, ◌<◌}
use Rattle.std.proofs.Math.Nat.{not-suc-le-zero}
use Rattle.std.proofs.Math.Decide.{ℕ_discrete}
use Rattle.std.proofs.Math.Dec.{T, ltb}
use Rattle.std.proofs.Math.ListN.{length}
use Rattle.asyncio.specs.declared.CallId.{CallId}
use Rattle.asyncio.specs.declared.HeapId.{HeapId}
use Rattle.asyncio.specs.declared.Value.{Value}
use Rattle.asyncio.specs.declared.Error.{Error}
use Rattle.asyncio.specs.Options.{OptionValue}
use Rattle.asyncio.specs.declared.TaskState.{TaskState}
use Rattle.asyncio.specs.declared.Task.{Task}
use Rattle.asyncio.specs.declared.Awaiter.{Awaiter}
use Rattle.asyncio.specs.declared.CoroutineState.{CoroutineState}
use Rattle.asyncio.specs.declared.ExternalFutureState.{ExternalFutureState}
use Rattle.asyncio.specs.declared.GatherState.{GatherState}
use Rattle.asyncio.specs.declared.Object.{Object}
use Rattle.asyncio.specs.declared.Moment.{Moment}
use Rattle.asyncio.specs.declared.Header.{Header}
use Rattle.asyncio.specs.Limits.{object_limit, task_limit, place_limit, item_limit}
use Rattle.asyncio.specs.Numbers.{heap_id, task_id}
use Rattle.asyncio.specs.Ranges.{ObjectFits, TaskFits, ErrorFits}
use Rattle.asyncio.specs.Kinds.{kind, is_committed, is_completed}
use Rattle.asyncio.specs.Parts.{awaiter_of, first_of, count_of}
use Rattle.asyncio.specs.States.{pick, is_live, is_unstarted, is_blocked}
use Rattle.machine.specs.Store.{Store, view, task, object, place, header, put_task, put_object, add_log, restate, set_state, blocked}
use Rattle.machine.specs.Scheduler.{AwaitedGather, PendingExternal, as_awaited, as_pending, live}
use Rattle.machine.specs.Commit.{Poll, ready, raised, pending, await_pending, await_external, Committed, commit_gather_tree}
use Rattle.machine.specs.Events.{How, start, value, raises, inline, Control, runs, Switched, Awaited, Result, activate, resume_next, stays, go_on, await_coroutine, await_external_future, await_gather, await_object, exec_get_awaitable}
use Rattle.machine.specs.Machine.{Event, Answer, Step, answer_await, task_completes, task_fails, runner, end_main, switched, refusals, refusal, full, no_number, unmade, any_of, accept, in_running, in_waiting, in_both}
use Rattle.machine.specs.Sound.{is_ended, value_known, option_known, object_in_range, places_below}
use Rattle.machine.specs.History.{nothing_said, says, tells, is_none, done_only, spawned_by}
use Rattle.machine.specs.Honest.{exits_in}
use Rattle.machine.specs.Sessions.{InRange}
use Rattle.machine_laws.specs.Views.{Sized}
use Rattle.machine_laws.specs.Facts.{SoundBut, Slotted, Nothing}
use Rattle.machine_laws.specs.StoreLaws.{header-fits, header_put-object, object_put-object, object_put-other, object-fits, task-fits, task_put-task, task_put-other, sized-set_state, sized-add_log, sized-put_object}
use Rattle.machine_laws.specs.DeliveryLaws.{absurd_some, awaited-object}
use Rattle.machine_laws.specs.SoundLaws.{pass, running-rest, refusal-rest, has_number, not_full}
use Rattle.machine_laws.specs.TestLaws.{or_left, or_right, holds}
use Rattle.machine_theorems.specs.Soundness.RowFacts.{unstarted-live}
use Rattle.machine_theorems.specs.Soundness.Stores.{idle, SoundDuring, SoundStore}
use Rattle.machine_theorems.specs.Soundness.Deliver.{awaiter_is}
use Rattle.machine_theorems.specs.Soundness.Exits.{runner_low, runner-runs, runner-live}
use Rattle.machine_theorems.specs.Soundness.Await.{wait_external}
use Rattle.machine_theorems.specs.Soundness.AwaitGather.{EndOk, waits_blocks, commit_keeps}
use Rattle.machine_theorems.specs.Soundness.Preserved.{running, waiting, await-made, complete-known, results_apply}
use Rattle.machine_sessions.specs.Gather.Failing.{RowMoves, CommitMoves, ClimbMoves, FailedRow, AwaitedState, IsUnmade, row_same, climb-same, climb-failed, climb-awaited, climb-pending, commit_then, commit_moves, commit_awaited, commit_was, commit_failed, commit_takes, failed-awaited}
use Rattle.machine_sessions.specs.Gather.FailingRows.{ItemAt, Raised, ExitAs, before, TaskAs, Because, Failing}
use Rattle.machine_sessions.specs.Gather.FailingCycle.{LeftAs, resume-left}
use Rattle.machine_sessions.specs.Gather.FailingStated.{Brings, reuse, RunnerFails, RunnerEnds, FailedBy, CommitFailed, ItemSlot, Took, Opens, TookTask, TaskFrom, lived, is_new, EventFails}
use Rattle.machine_sessions.specs.Gather.FailingEvents.{results-fails, failure_fails, completion_fails, resume-fails, cancel-fails, end_fails}
use Rattle.machine_sessions.specs.Gather.FailingMakes.{coroutine-fails, pending-fails, call-fails, settled-fails, gather-fails, read-fails}
use Rattle.machine_sessions.specs.Gather.FailingCommitSteps.{Committing, committing_begins, committing_row, Taking, taking_begins, taking_row, Opening, opening_begins, opening_row}
use Rattle.machine_sessions.specs.Gather.FailingCommit.{Unwound, EndFails, commit_fails}

-- an await says so
await_commits : (o : ℕ) → is_none (says (Event.await o)).awaits ≡ false
unfolding says is_none
await_commits o = refl

await-says : (o : ℕ) → (says (Event.await o)).awaits ≡ some o
unfolding says
await-says o = refl

-- a coroutine is no pending external
not-pending : {A : Type 0} (f : ℕ) (r : PendingExternal) → as_pending (Object.Coroutine f CoroutineState.Running) ≡ some r → A
unfolding as_pending
not-pending f r q = absurd_some q

-- nor an awaited gather
not-awaited : {A : Type 0} (f : ℕ) (v : AwaitedGather) → as_awaited (Object.Coroutine f CoroutineState.Running) ≡ some v → A
unfolding as_awaited
not-awaited f v q = absurd_some q

-- ---- the same task runs on

same_unwound : (s : Store) → Unwound s s
same_unwound s =
    record {
      moves = λ o. row_same (object s o);
      awaited = λ g f n y w p q. failed-awaited (object s g) f n y w q p;
      pending = λ g f n h k y p q. absurd (subst FailedRow (sym q ∙ p) tt);
      grows = omega arith;
      tasks = λ t l. refl;
      exits = λ t. refl;
      spawned = λ t b l. refl;
      for_it = λ t b a l. absurd (not-suc-le-zero {n = 0} (omega arith));
      slot = λ t a l. absurd (not-suc-le-zero {n = 0} (omega arith));
      takes = taking_begins s;
      opens = opening_begins s (λ p. ⊥);
    }

-- a commit without an error
pub commits_unwound : (s u : Store) → Committing s u → Taking s u → Opening s (λ p. ⊥) u → Unwound s u
commits_unwound s u k t op =
    record {
      moves = λ o. commit_moves (object s o) (object u o) (k.moves o);
      awaited = λ g f n y w p q. failed-awaited (object s g) f n y w (commit_failed (object s g) (object u g) f n y (k.moves g) q) p;
      pending = λ g f n h j y p q. absurd (subst FailedRow (sym (commit_failed (object s g) (object u g) h j y (k.moves g) q) ∙ p) tt);
      grows = k.grows;
      tasks = k.tasks;
      exits = k.exits;
      spawned = k.spawned;
      for_it = k.for_it;
      slot = k.slot;
      takes = t;
      opens = op;
    }

old_or_new : (n t : ℕ) → (t < n) ⊎ (n ≤ t)
old_or_new n t = by (ltb t n) refl
  where
    by : (b : Bool) → ltb t n ≡ b → (t < n) ⊎ (n ≤ t)
    by true e = inl (ltb-true t n e)
    by false e = inr (ltb-false t n e)

-- no coroutine is started
abbrev NoStart : How → Type 0
NoStart (start c f) = ⊥
NoStart (value v) = Unit {0}
NoStart (raises e) = Unit {0}
NoStart (inline c) = Unit {0}

module _ (o : ℕ) (s : Store) (w : SoundStore s) (t : ℕ) (m : (header s).moment ≡ Moment.Running (task_id t)) where
  abbrev ev : Event
  ev = Event.await o

  stays-fails : (u : Store) (h : How) (n : ℕ) → NoStart h → Unwound s u → EventFails ev s (answer_await (stays u t h n))
  unfolding answer_await stays tells
  stays-fails u h n ns k =
      record {
        moves = λ p l. k.moves p;
        awaited = λ g f c y v l p q. absurd (k.awaited g f c y v p q);
        pending = λ g f c i j y l p q. k.pending g f c i j y p q;
        committing = λ g f c i j y l p q. await_commits o;
        takes = λ p r e. inl (k.takes p r e);
        opens = λ p v e. inl (k.opens p v (λ z. z) e);
        grows = k.grows;
        tasks = λ v l e. from v l e (old_or_new (header s).next v);
        unstarted = λ v l e. by v e (old_or_new (header s).next v);
        exits = λ v e. before (sym (k.exits v) ∙ e);
        spawned = k.spawned;
        low = λ v i e. omega (arith, runner_low s t w m, k.grows, same-task t v h i e);
        started = λ v i e. subst (λ (j : ℕ). is_unstarted (task u j).state ≡ false) (same-task t v h i e) on;
        alive = λ v i e. subst (λ (j : ℕ). is_live (task u j).state ≡ true) (same-task t v h i e) lives;
        starts = λ v c f e. absurd (subst NoStart (same-how t v h (start c f) e) ns);
      }
    where
      same-task : (t v : ℕ) (h i : How) → some (runs t h) ≡ some (runs v i) → t ≡ v
      same-task t v h i e = cc

      same-how : (t v : ℕ) (h i : How) → some (runs t h) ≡ some (runs v i) → h ≡ i
      same-how t v h i e = cc

      lives : is_live (task u t).state ≡ true
      lives = ap (λ (r : Task). is_live r.state) (k.tasks t (runner_low s t w m)) ∙ ap is_live (runner-runs s t w m)

      on : is_unstarted (task u t).state ≡ false
      on = ap (λ (r : Task). is_unstarted r.state) (k.tasks t (runner_low s t w m)) ∙ ap is_unstarted (runner-runs s t w m)

      from : (v : ℕ) → v < (header u).next → is_live (task u v).state ≡ true → (v < (header s).next) ⊎ ((header s).next ≤ v) → TaskFrom s u v
      from v l e (inl a) = lived a (sym (ap (λ (r : Task). is_live r.state) (k.tasks v a)) ∙ e) (ap (λ (r : Task). r.coroutine.0) (k.tasks v a)) (ap (λ (r : Task). r.awaiter) (k.tasks v a))
      from v l e (inr a) = is_new a (λ b. k.for_it v b a l) (k.slot v a l)

      by : (v : ℕ) → is_unstarted (task u v).state ≡ true → (v < (header s).next) ⊎ ((header s).next ≤ v) → ((header s).next ≤ v) ⊎ (is_unstarted (task s v).state ≡ true)
      by v e (inl l) = inr (sym (ap (λ (r : Task). is_unstarted r.state) (k.tasks v l)) ∙ e)
      by v e (inr l) = inl l

  -- ---- it blocks, and another runs

  -- gathers that were pending
  abbrev Young : ℕ → Type 0
  Young p = (f : ℕ) × (n : ℕ) × (object s p ≡ Object.GatherFuture f n GatherState.Pending)

  -- a slot is in none of them, in s
  slot-old : {a p x : ℕ} → Slotted (header s).made (object s) (place s) a p x → Young p → ⊥
  slot-old {a} {p} {x} sl y = old y.0 y.1 (subst (λ (z : Object). T (is_committed (kind z))) y.2 sl.committed)
    where
      old : (f n : ℕ) → T (is_committed (kind (Object.GatherFuture f n GatherState.Pending))) → ⊥
      old f n k = unfold kind in k

  module _ (x : Store) (z : Sized x) (c : Committing s x) (tk : (p : ℕ) (r : PendingExternal) → as_pending (object x p) ≡ some r → Took s p r.awaiter ⊎ TookTask ev p r.awaiter)
      (ok : (p : ℕ) (v : AwaitedGather) → as_awaited (object x p) ≡ some v → Opens s p v.awaiter ⊎ TookTask ev p v.awaiter) (low-o : o < object_limit) (D : ℕ → Type 0) (hd : Header) (same_next : hd.next ≡ (header x).next)
      (h : SoundDuring Nothing idle D hd (add_log (set_state x t (TaskState.Blocked (heap_id o))) (blocked t))) where
    abbrev b : Store
    b = add_log (set_state x t (TaskState.Blocked (heap_id o))) (blocked t)

    rows : (p : ℕ) → object b p ≡ object x p
    rows p = unfold object add_log set_state put_task in refl

    head : header b ≡ header x
    head = unfold header add_log set_state put_task in refl

    t-low : t < (header s).next
    t-low = runner_low s t w m

    abbrev r : Task
    r = restate (task x t) (TaskState.Blocked (heap_id o))

    other : (v : ℕ) → (v ≡ t → ⊥) → task b v ≡ task x v
    other v ne = same ∙ task_put-other x t v r ne
      where
        same : task b v ≡ task (put_task x t r) v
        same = unfold task add_log set_state in refl

    here : task b t ≡ r
    here = same ∙ task_put-task x t r z (omega (arith, t-low, (header-fits s).next_fits)) fits
      where
        same : task b t ≡ task (put_task x t r) t
        same = unfold task add_log set_state in refl

        fits : TaskFits r
        fits = unfold restate in (record { state_fits = low-o; awaiter_fits = (task-fits x t).awaiter_fits; coroutine_fits = (task-fits x t).coroutine_fits })

    r-state : r.state ≡ TaskState.Blocked (heap_id o)
    r-state = unfold restate in refl

    r-awaiter : r.awaiter ≡ (task x t).awaiter
    r-awaiter = unfold restate in refl

    older : (v : ℕ) → v < (header s).next → v < (header b).next → is_unstarted (task b v).state ≡ true → task b v ≡ task s v
    older v l n e = by (ℕ_discrete v t)
      where
        by : Dec (v ≡ t) → task b v ≡ task s v
        by (yes d) = absurd (true≢false (sym (subst (λ (j : ℕ). is_unstarted (task b j).state ≡ true) d e) ∙ (ap (λ (y : Task). is_unstarted y.state) here ∙ ap is_unstarted r-state)))
        by (no ne) = other v ne ∙ c.tasks v l

    awaiter_same : (v : ℕ) → v < (header s).next → (task b v).awaiter ≡ (task s v).awaiter
    awaiter_same v l = by (ℕ_discrete v t)
      where
        by : Dec (v ≡ t) → (task b v).awaiter ≡ (task s v).awaiter
        by (yes d) = subst (λ (j : ℕ). (task b j).awaiter ≡ (task s j).awaiter) (sym d) (ap (λ (y : Task). y.awaiter) here ∙ (r-awaiter ∙ ap (λ (y : Task). y.awaiter) (c.tasks t t-low)))
        by (no ne) = ap (λ (y : Task). y.awaiter) (other v ne ∙ c.tasks v l)

    live-was : (v : ℕ) → v < (header s).next → is_live (task b v).state ≡ true → is_live (task s v).state ≡ true
    live-was v l e = by (ℕ_discrete v t)
      where
        by : Dec (v ≡ t) → is_live (task s v).state ≡ true
        by (yes d) = subst (λ (j : ℕ). is_live (task s j).state ≡ true) (sym d) (ap is_live (runner-runs s t w m))
        by (no ne) = sym (ap (λ (y : Task). is_live y.state) (other v ne ∙ c.tasks v l)) ∙ e

    apart : (v p y : ℕ) → v < (header s).next → v < (header b).next → is_live (task b v).state ≡ true → (task b v).awaiter ≡ Awaiter.GatherSlot (heap_id p) (heap_id y) → Young p → ⊥
    unfolding view
    apart v p y l n lv e yo = slot-old (w.facts.but.task_slots v l (holds (is_live (task s v).state) (live-was v l lv)) p y (sym (awaiter_same v l) ∙ e)) yo

    up : (g p y : ℕ) (v : AwaitedGather) → g < (header b).made → as_awaited (object b g) ≡ some v → v.awaiter ≡ Awaiter.GatherSlot (heap_id p) (heap_id y) → Young p → Young g
    unfolding view
    up g p y v l e a yo = by (commit_was (object s g) (object x g) v (c.moves g) (sym (ap as_awaited (rows g)) ∙ e))
      where
        low : g < (header s).made
        low = subst (λ (j : ℕ). g < j) (ap (λ (i : Header). i.made) head ∙ c.made) l

        by : (as_awaited (object s g) ≡ some v) ⊎ Young g → Young g
        by (inl q) = absurd (slot-old (w.facts.but.object_slots g low (λ i. i) p y (awaiter_is (object s g) v q ∙ a)) yo)
        by (inr q) = q

    begins : Failing s b Young (Brings ev) (RunnerEnds ev s) (RunnerFails ev s) (Unit {0}) b
    unfolding exits_in spawned_by
    begins =
        record {
          sized = h.kept.memory.sized;
          next = refl;
          moves = λ p. climb-same (object b p);
          tasks = λ v l e. record { live = e; awaiter = refl; coroutine = refl; unstarted = λ d. d };
          because = λ g f n y i p q. failed-awaited (object b g) f n y i q p;
          exits = λ v e. before (sym (c.exits v) ∙ (unfold add_log set_state put_task in e));
          fresh = λ i v l n. let y = c.fresh v l (subst (λ (j : Header). v < j.next) head n) in (y.0, row_of v l ∙ y.1);
          spawned = λ v i. refl;
        }
      where
        row_of : (v : ℕ) → (header s).next ≤ v → object b (task b v).coroutine.0 ≡ object x (task x v).coroutine.0
        row_of v l = ap (λ (y : Task). object b y.coroutine.0) (other v (λ d. not-suc-le-zero {n = 0} (omega (arith, l, d, t-low)))) ∙ rows (task x v).coroutine.0

    await-reuse : Brings ev Error.CoroutineReuse
    unfolding says nothing_said
    await-reuse = reuse refl

    left : LeftAs (Failing s b Young (Brings ev) (RunnerEnds ev s) (RunnerFails ev s) ⊥) (resume_next activate b)
    left =
        resume-left s b Young (Brings ev) (RunnerEnds ev s) (RunnerFails ev s) Nothing h.kept.but up older apart await-reuse D hd (same_next ∙ ap (λ (i : Header). i.next) (sym head)) b h begins

    blocks-fails : (n : ℕ) → EventFails ev s (answer_await (record { store = (resume_next activate b).store; control = (resume_next activate b).control; steps = n }))
    unfolding answer_await tells
    blocks-fails n =
        record {
          moves = λ p l. commit_then (object s p) (object b p) (object u p) (moved p) (k.moves p);
          awaited = λ g f a y v l p q. why g f a y v p q;
          pending = λ g f a i j y l p q. never g f a i j y p q;
          committing = λ g f a i j y l p q. await_commits o;
          takes = λ p r e. tk p r (sym (ap as_pending (rows p)) ∙ climb-pending (object b p) (object u p) r (k.moves p) e);
          opens = λ p v e.
              let r = climb-awaited (object b p) (object u p) v (k.moves p) e in
              subst (λ (i : Awaiter). Opens s p i ⊎ TookTask ev p i) r.awaiter (ok p r.was (sym (ap as_awaited (rows p)) ∙ r.awaited));
          grows = subst (λ (j : ℕ). (header s).next ≤ j) (sym (k.next ∙ ap (λ (i : Header). i.next) head)) c.grows;
          tasks = λ v l e. from v e (subst (λ (j : ℕ). v < j) k.next l) (old_or_new (header s).next v);
          unstarted = λ v l e. by v e (subst (λ (j : ℕ). v < j) k.next l) (old_or_new (header s).next v);
          exits = k.exits;
          spawned = λ v i l. k.spawned v i ∙ (same_log v i ∙ c.spawned v i l);
          low = λ v i e. left.low v i (some-injective _ _ e);
          started = λ v i e. left.started v i (some-injective _ _ e);
          alive = λ v i e. left.alive v i (some-injective _ _ e);
          starts = λ v i f e. left.used v i f (some-injective _ _ e);
        }
      where
        u : Store
        u = (resume_next activate b).store

        k : Failing s b Young (Brings ev) (RunnerEnds ev s) (RunnerFails ev s) ⊥ u
        k = left.failing

        moved : (p : ℕ) → CommitMoves (object s p) (object b p)
        moved p = subst (CommitMoves (object s p)) (sym (rows p)) (c.moves p)

        row-same-as : (g : ℕ) (v : AwaitedGather) → as_awaited (object s g) ≡ some v → object b g ≡ object s g
        row-same-as g v p = commit_awaited (object s g) (object b g) v (moved g) p

        items : (p : ℕ) → (place b p).item.0 ≡ (place s p).item.0
        items p = same ∙ c.items p
          where
            same : (place b p).item.0 ≡ (place x p).item.0
            same = unfold place add_log set_state put_task in refl

        why : (g f a : ℕ) (y : Error) (v : AwaitedGather) → as_awaited (object s g) ≡ some v → object u g ≡ Object.GatherFuture f a (GatherState.Failed y) → FailedBy ev s u g y
        why g f a y v p q =
            let e : object b g ≡ object s g = row-same-as g v p in
            let r = k.because g f a y v (ap as_awaited e ∙ p) q in
            record {
              error = r.error;
              item = r.item;
              among = record {
                at = r.among.at;
                under = subst (λ (j : Object). r.among.at < count_of j) e r.among.under;
                names = sym (items (first_of (object s g) + r.among.at)) ∙ subst (λ (j : Object). (place b (first_of j + r.among.at)).item.0 ≡ r.item) e r.among.names;
              };
              raised = r.raised;
            }

        never : (g f a i j : ℕ) (y : Error) → object s g ≡ Object.GatherFuture f a GatherState.Pending → object u g ≡ Object.GatherFuture i j (GatherState.Failed y) → CommitFailed s u g y
        never g f a i j y p q = at (climb-failed (object b g) (object u g) i j y (k.moves g) q)
          where
            at : (object b g ≡ Object.GatherFuture i j (GatherState.Failed y)) ⊎ ((v : AwaitedGather) × (as_awaited (object b g) ≡ some v)) → CommitFailed s u g y
            at (inl d) = absurd (subst FailedRow (sym (commit_failed (object s g) (object b g) i j y (moved g) d) ∙ p) tt)
            at (inr v) = absurd ((k.because g i j y v.0 v.1 q).old (f, a, p))

        same_log : (v : ℕ) (i : Option ℕ) → spawned_by i b.log v ≡ spawned_by i x.log v
        same_log v i = unfold spawned_by add_log set_state put_task in refl

        coroutine-as : (v : ℕ) → (task b v).coroutine.0 ≡ (task x v).coroutine.0
        coroutine-as v = at (ℕ_discrete v t)
          where
            at : Dec (v ≡ t) → (task b v).coroutine.0 ≡ (task x v).coroutine.0
            at (yes d) = subst (λ (j : ℕ). (task b j).coroutine.0 ≡ (task x j).coroutine.0) (sym d) (ap (λ (y : Task). y.coroutine.0) here ∙ (unfold restate in refl))
            at (no ne) = ap (λ (y : Task). y.coroutine.0) (other v ne)

        new-awaiter : (v : ℕ) → (header s).next ≤ v → (task b v).awaiter ≡ (task x v).awaiter
        new-awaiter v l = ap (λ (y : Task). y.awaiter) (other v (λ d. not-suc-le-zero {n = 0} (omega (arith, l, d, t-low))))

        from : (v : ℕ) → is_live (task u v).state ≡ true → v < (header b).next → (v < (header s).next) ⊎ ((header s).next ≤ v) → TaskFrom s u v
        from v e n (inl l) =
            let y = k.tasks v n e in
            lived l (live-was v l y.live) (ap (λ (i : HeapId). i.0) y.coroutine ∙ (coroutine-as v ∙ ap (λ (i : Task). i.coroutine.0) (c.tasks v l))) (y.awaiter ∙ awaiter_same v l)
        from v e n (inr l) =
            let y = k.tasks v n e in
            is_new l (λ i. k.spawned v i ∙ (same_log v i ∙ (c.for_it v i l (subst (λ (j : Header). v < j.next) head n) ∙ ap (λ (j : ℕ). some j) (sym (ap (λ (i : HeapId). i.0) y.coroutine ∙ coroutine-as v)))))
            (subst (λ (i : Awaiter). ItemSlot s (task u v).coroutine.0 i) (sym (y.awaiter ∙ new-awaiter v l))
            (subst (λ (j : ℕ). ItemSlot s j (task x v).awaiter) (sym (ap (λ (i : HeapId). i.0) y.coroutine ∙ coroutine-as v)) (c.slot v l (subst (λ (j : Header). v < j.next) head n))))

        by : (v : ℕ) → is_unstarted (task u v).state ≡ true → v < (header b).next → (v < (header s).next) ⊎ ((header s).next ≤ v) → ((header s).next ≤ v) ⊎ (is_unstarted (task s v).state ≡ true)
        by v e n (inl l) =
            let q : is_unstarted (task b v).state ≡ true = (k.tasks v n (unstarted-live (task u v).state e)).unstarted e in
            inr (sym (ap (λ (y : Task). is_unstarted y.state) (older v l n q)) ∙ q)
        by v e n (inr l) = inl l

  -- ---- by what is awaited

  module _ (made : o < (header s).made) where
    low-o : o < object_limit
    low-o = omega (arith, made, (header-fits s).made_fits)

    unmade-not : object s o ≡ Object.Unmade → ⊥
    unfolding view object_in_range
    unmade-not e = subst (λ (y : Object). T (object_in_range (header s) (places_below (object s) o) y)) e (w.facts.but.objects o made)

    inline-unwound : (f : ℕ) → object s o ≡ Object.Coroutine f CoroutineState.New → Unwound s (put_object s o (Object.Coroutine f CoroutineState.Running))
    inline-unwound f e =
        record {
          moves = λ p. moved p (ℕ_discrete p o);
          awaited = λ g a n y v p q. no-new g a n y q (λ d. failed-awaited (object s g) a n y v d p);
          pending = λ g a n i j y p q. no-new g i j y q (λ d. absurd (subst FailedRow (sym d ∙ p) tt));
          grows = subst (λ (h : Header). (header s).next ≤ h.next) (sym (header_put-object s o y0)) (omega arith);
          tasks = λ v l. unfold task put_object in refl;
          exits = λ v. unfold put_object in refl;
          spawned = λ v b l. unfold put_object in refl;
          for_it = λ v b a l. absurd (not-suc-le-zero {n = 0} (omega (arith, a, subst (λ (h : Header). v < h.next) (header_put-object s o y0) l)));
          slot = λ v a l. absurd (not-suc-le-zero {n = 0} (omega (arith, a, subst (λ (h : Header). v < h.next) (header_put-object s o y0) l)));
          takes = taking_row s s o y0 w.memory.sized low-o (subst ObjectFits e (object-fits s o)) (λ r q. not-pending f r q) (taking_begins s);
          opens = opening_row s (λ p. ⊥) (λ p. ⊥) s o y0 w.memory.sized low-o (subst ObjectFits e (object-fits s o)) (λ v n q. not-awaited f v q) (λ p d n. n) (opening_begins s (λ p. ⊥));
        }
      where
        y0 : Object
        y0 = Object.Coroutine f CoroutineState.Running

        u : Store
        u = put_object s o y0

        now : object u o ≡ y0
        now = object_put-object s o y0 w.memory.sized low-o (subst ObjectFits e (object-fits s o))

        moved : (p : ℕ) → Dec (p ≡ o) → RowMoves (object s p) (object u p)
        moved p (yes d) = subst (λ (j : ℕ). RowMoves (object s j) (object u j)) (sym d) (subst (λ (a : Object). RowMoves a (object u o)) (sym e) (subst (RowMoves (Object.Coroutine f CoroutineState.New)) (sym now) (refl, tt)))
        moved p (no ne) = subst (RowMoves (object s p)) (sym (object_put-other s o p y0 ne)) (row_same (object s p))

        no-new : {A : Type 0} (g a n : ℕ) (y : Error) → object u g ≡ Object.GatherFuture a n (GatherState.Failed y) → (object s g ≡ Object.GatherFuture a n (GatherState.Failed y) → A) → A
        no-new {A} g a n y q go = by (ℕ_discrete g o)
          where
            by : Dec (g ≡ o) → A
            by (yes d) = absurd (subst FailedRow (sym (subst (λ (j : ℕ). object u j ≡ Object.GatherFuture a n (GatherState.Failed y)) d q) ∙ now) tt)
            by (no ne) = go (sym (object_put-other s o g y0 ne) ∙ q)

    abbrev Fails : Awaited → Type 0
    Fails x = EventFails ev s (answer_await x)

    coroutine-awaited : (f : ℕ) (x : CoroutineState) → object s o ≡ Object.Coroutine f x → Fails (await_coroutine s t o f x)
    unfolding await_coroutine
    coroutine-awaited f CoroutineState.New e = stays-fails _ (inline o) 0 tt (inline-unwound f e)
    coroutine-awaited f CoroutineState.Running e = stays-fails s (raises Error.CoroutineReuse) 0 tt (same_unwound s)
    coroutine-awaited f CoroutineState.Completed e = stays-fails s (raises Error.CoroutineReuse) 0 tt (same_unwound s)

    external-awaited : (c : CallId) (x : ExternalFutureState) → object s o ≡ Object.ExternalFuture c x → Fails (await_external_future s t o c x)
    unfolding await_external_future await_external await_pending go_on
    external-awaited c (ExternalFutureState.Pending Awaiter.Nobody r) e =
        blocks-fails (put_object s o y) (sized-put_object s o y w.memory.sized) commits (λ p q d. took p q d (ℕ_discrete p o)) (λ p v d. opened p v d (ℕ_discrete p o)) low-o (λ p. T (is_completed (kind (object s p)))) (header s) (ap (λ (h : Header). h.next) (sym (header_put-object s o y)))
        (wait_external s t w m o (record { call = c; awaiter = Awaiter.Nobody; stored = r }) made (ap as_pending e ∙ (unfold as_pending in refl)) refl) 0
      where
        y : Object
        y = Object.ExternalFuture c (ExternalFutureState.Pending (Awaiter.Task (task_id t)) r)

        fits : ObjectFits y
        fits =
            let old : ObjectFits (Object.ExternalFuture c (ExternalFutureState.Pending Awaiter.Nobody r)) = subst ObjectFits e (object-fits s o) in
            (old.0, (omega (arith, runner_low s t w m, (header-fits s).next_fits), old.1.1))

        no-coroutine : (c : CallId) (r : OptionValue) (f : ℕ) → Object.ExternalFuture c (ExternalFutureState.Pending Awaiter.Nobody r) ≡ Object.Coroutine f CoroutineState.New → ⊥
        no-coroutine c r f q = let z : ◌≡◌ {A = ℕ} 0 1 = cc in not-suc-le-zero {n = 0} (omega arith)

        not-open : as_awaited y ≡ none
        not-open = unfold as_awaited in refl

        opened : (p : ℕ) (v : AwaitedGather) → as_awaited (object (put_object s o y) p) ≡ some v → Dec (p ≡ o) → Opens s p v.awaiter ⊎ TookTask ev p v.awaiter
        opened p v d (yes j) =
            absurd_some (sym (ap as_awaited (object_put-object s o y w.memory.sized low-o fits) ∙ not-open) ∙ subst (λ (n : ℕ). as_awaited (object (put_object s o y) n) ≡ some v) j d)
        opened p v d (no ne) = inl (inl (v, sym (ap as_awaited (object_put-other s o p y ne)) ∙ d, refl))

        pending-is : some (record { call = c; awaiter = Awaiter.Task (task_id t); stored = r }) ≡ as_pending y
        pending-is = unfold as_pending in refl

        took : (p : ℕ) (q : PendingExternal) → as_pending (object (put_object s o y) p) ≡ some q → Dec (p ≡ o) → Took s p q.awaiter ⊎ TookTask ev p q.awaiter
        took p q d (yes j) = inr (subst (λ (z : PendingExternal). TookTask ev p z.awaiter) (some-injective _ q (pending-is ∙ (sym (ap as_pending (object_put-object s o y w.memory.sized low-o fits)) ∙ subst (λ (n : ℕ). as_pending (object (put_object s o y) n) ≡ some q) j d))) (await-says o ∙ ap (λ (n : ℕ). some n) (sym j)))
        took p q d (no ne) = inl (inl (q, sym (ap as_pending (object_put-other s o p y ne)) ∙ d, refl))

        commits : Committing s (put_object s o y)
        commits =
            committing_row s s o y w.memory.sized low-o fits
            (commit_takes (object s o) c r (Awaiter.Task (task_id t)) (subst (CommitMoves (object s o)) e ((committing_begins s).moves o))) (λ f q. no-coroutine c r f (sym e ∙ q)) (committing_begins s)
    external-awaited c (ExternalFutureState.Pending (Awaiter.Task v) r) e = stays-fails s (raises Error.FutureReuse) 0 tt (same_unwound s)
    external-awaited c (ExternalFutureState.Pending (Awaiter.GatherSlot g v) r) e = stays-fails s (raises Error.FutureReuse) 0 tt (same_unwound s)
    external-awaited c (ExternalFutureState.Resolved v) e = stays-fails s (value v) 0 tt (same_unwound s)
    external-awaited c (ExternalFutureState.Failed v) e = stays-fails s (raises v) 0 tt (same_unwound s)

    gather-awaited : (f n : ℕ) (x : GatherState) → object s o ≡ Object.GatherFuture f n x → Fails (await_gather s t o x)
    unfolding await_gather
    gather-awaited f n GatherState.Pending e = by (commit_gather_tree s o (Awaiter.Task (task_id t))) (commit_keeps s t w m o f n made e) (commit_fails s t o f n w m made e)
      where
        opened : (u : Store) → Opening s (λ p. p ≡ o) u → ((v : AwaitedGather) → as_awaited (object u o) ≡ some v → v.awaiter ≡ Awaiter.Task (task_id t)) → (p : ℕ) (v : AwaitedGather)
            → as_awaited (object u p) ≡ some v → Dec (p ≡ o) → Opens s p v.awaiter ⊎ TookTask ev p v.awaiter
        opened u q z p v e (yes d) =
            inr (subst (TookTask ev p) (sym (z v (subst (λ (n : ℕ). as_awaited (object u n) ≡ some v) d e))) (await-says o ∙ ap (λ (n : ℕ). some n) (sym d)))
        opened u q z p v e (no ne) = inl (q p v ne e)

        by : (c : Committed) → EndOk o t c.store c.poll → EndFails s o t c.store c.poll → Fails (go_on t o c.steps c.store c.poll)
        by c h k = at c.poll h k
          where
            at : (p : Poll) → EndOk o t c.store p → EndFails s o t c.store p → Fails (go_on t o c.steps c.store p)
            at (ready v) h k = unfold go_on in (stays-fails c.store (value v) c.steps tt (commits_unwound s c.store k.0 k.1 k.2))
            at (raised v) h k = unfold go_on in (stays-fails c.store (raises v) c.steps tt k)
            at pending h k = unfold go_on in (blocks-fails c.store h.ends.memory.sized k.0 (λ p r e. inl (k.1 p r e)) (λ p v e. opened c.store k.2 k.3 p v e (ℕ_discrete p o)) low-o Nothing (header c.store) refl (waits_blocks o t c.store h) c.steps)
    gather-awaited f n (GatherState.Awaited a k) e = stays-fails s (raises Error.GatherReuse) 0 tt (same_unwound s)
    gather-awaited f n GatherState.Completed e = stays-fails s (value (Value.List (heap_id o))) 0 tt (same_unwound s)
    gather-awaited f n (GatherState.Failed x) e = stays-fails s (raises x) 0 tt (same_unwound s)

    pub await-fails : EventFails ev s (answer_await (exec_get_awaitable s t o))
    unfolding exec_get_awaitable await_object
    await-fails = by (object s o) refl
      where
        by : (x : Object) → object s o ≡ x → Fails (await_object s t o x)
        by Object.Unmade e = absurd (unmade-not e)
        by (Object.Coroutine f x) e = coroutine-awaited f x e
        by (Object.ExternalFuture c x) e = external-awaited c x e
        by (Object.GatherFuture f n x) e = gather-awaited f n x e

-- ---- each event

module _ (s : Store) (w : SoundStore s) where
  completes-fails : (t : ℕ) (v : Value) → (header s).moment ≡ Moment.Running (task_id t) → T (value_known (header s).made (object s) v) → EventFails (Event.complete v) s (task_completes s t v)
  unfolding task_completes tells done_only
  completes-fails zero v m k = end_fails (Event.complete v) s (Answer.finished v) w refl
  completes-fails (suc t) v m k = rw (ne_eqb (suc t) 0 (λ e. not-suc-le-zero {n = 0} (omega arith))) (completion_fails s w t v m k)

  fails-fails : (t n : ℕ) → (header s).moment ≡ Moment.Running (task_id t) → ErrorFits (Error.Script n) → EventFails (Event.fail n) s (task_fails s t (Error.Script n))
  unfolding task_fails tells done_only
  fails-fails zero n m k = end_fails (Event.fail n) s (Answer.finished_error (Error.Script n)) w refl
  fails-fails (suc t) n m k = rw (ne_eqb (suc t) 0 (λ e. not-suc-le-zero {n = 0} (omega arith))) (failure_fails s w t n m k)

  -- What an accepted event does to every gather.
  pub accept-fails : (e : Event) → InRange e → refusal s e ≡ 0 → EventFails e s (accept s e)
  unfolding refusals InRange in_both
  accept-fails (Event.coroutine f) i r = coroutine-fails s f w.memory.sized (not_full s (pass 6 (full s) [] (running-rest s _ (refusal-rest s (Event.coroutine f) r))).0)
  accept-fails Event.call i r = call-fails s w.memory.sized (has_number s (pass 7 (no_number s) [] (running-rest s _ (refusal-rest s Event.call r))).0)
  accept-fails (Event.pending c x) i r =
      let q = running-rest s _ (refusal-rest s (Event.pending c x) r) in
      let five = pass 4 (leb (header s).calls c || not (option_known (header s).made (object s) x)) _ q in
      pending-fails s c x w.memory.sized (not_full s (pass 6 (full s) [] (pass 5 _ _ five.1).1).0)
  accept-fails (Event.settled v) i r =
      let five = pass 4 (not (value_known (header s).made (object s) v)) _ (running-rest s _ (refusal-rest s (Event.settled v) r)) in
      let seven = pass 6 (full s) _ five.1 in
      settled-fails s w.memory.sized (has_number s (pass 7 (no_number s) [] seven.1).0) v (not_full s seven.0)
  accept-fails (Event.gather os) i r =
      let five = pass 4 (any_of (unmade s) os) _ (running-rest s _ (refusal-rest s (Event.gather os) r)) in
      let q = (pass 6 (full s || ltb item_limit (length os) || ltb place_limit ((header s).used + length os)) [] five.1).0 in
      let q1 = or_left (full s || ltb item_limit (length os)) (ltb place_limit ((header s).used + length os)) q in
      gather-fails s os w.memory.sized (not_full s (or_left (full s) (ltb item_limit (length os)) q1))
      (ltb-false place_limit ((header s).used + length os) (or_right (full s || ltb item_limit (length os)) (ltb place_limit ((header s).used + length os)) q))
  accept-fails (Event.await o) i r =
      let q = refusal-rest s (Event.await o) r in
      unfold accept in (await-fails o s w (runner (header s).moment) (running s w _ q) (await-made s w o q))
  accept-fails (Event.complete v) i r =
      let q = refusal-rest s (Event.complete v) r in
      unfold accept in (completes-fails (runner (header s).moment) v (running s w _ q) (complete-known s w v q))
  accept-fails (Event.fail n) i r = unfold accept in (fails-fails (runner (header s).moment) n (running s w _ (refusal-rest s (Event.fail n) r)) i)
  accept-fails (Event.results rs) i r = unfold accept in (results-fails rs s w (results_apply s w rs (refusal-rest s (Event.results rs) r)))
  accept-fails Event.resume i r = unfold accept in (resume-fails s w (waiting s w [] (refusal-rest s Event.resume r)).0)
  accept-fails (Event.cancel t) i r = unfold accept in (cancel-fails s t w)
  accept-fails (Event.show o) i r = unfold accept in (read-fails (Event.show o) s _ (unfold tells done_only in refl))
  accept-fails Event.eager i r = unfold accept in (read-fails Event.eager s _ (unfold tells done_only in refl))
