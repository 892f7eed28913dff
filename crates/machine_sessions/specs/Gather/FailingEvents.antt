-- What each accepted event but an await does to every gather.
use Rattle.std.specs.Prelude.{◌≡◌, Bool, ◌&&◌, ◌||◌, ◌⊎◌, T, length, get_or}
use Rattle.std.proofs.Math.Path.{refl, subst}
use Rattle.std.proofs.Common.{sym, ap, ◌∙◌, true≢false, inl, inr, not-suc-le-zero, arith, eqb-true, ne_eqb}
use Rattle.std.proofs.Math.Bool.{true, false, not}
use mathlib.Core.List.{List, [], ◌∷◌}
use Rattle.std.proofs.Math.Option.{Option, none, some, some-injective}
use Prim.Native.Nat.{ℕ, zero, suc, ◌+◌, ◌≤◌, ◌<◌}
use Rattle.std.proofs.Math.Decide.{ℕ_discrete}
use Rattle.std.proofs.Math.Dec.{eqb}
use Rattle.asyncio.specs.declared.CallId.{CallId}
use Rattle.asyncio.specs.declared.HeapId.{HeapId}
use Rattle.asyncio.specs.declared.Value.{Value}
use Rattle.asyncio.specs.declared.Error.{Error}
use Rattle.asyncio.specs.declared.TaskState.{TaskState}
use Rattle.asyncio.specs.declared.Task.{Task}
use Rattle.asyncio.specs.declared.Awaiter.{Awaiter}
use Rattle.asyncio.specs.declared.CoroutineState.{CoroutineState}
use Rattle.asyncio.specs.declared.ExternalFutureState.{ExternalFutureState}
use Rattle.asyncio.specs.declared.GatherState.{GatherState}
use Rattle.asyncio.specs.declared.Object.{Object}
use Rattle.asyncio.specs.declared.Moment.{Moment}
use Rattle.asyncio.specs.declared.Header.{Header}
use Rattle.asyncio.specs.Limits.{object_limit, task_limit, call_limit, place_limit}
use Rattle.asyncio.specs.Numbers.{heap_id, task_id}
use Rattle.asyncio.specs.Ranges.{ErrorFits, ValueFits, ObjectFits, HeaderFits}
use Rattle.asyncio.specs.RangeLaws.{pick_has}
use Rattle.asyncio.specs.Layout.{to_value, to_error}
use Rattle.asyncio.specs.Kinds.{kind, is_completed}
use Rattle.asyncio.specs.Parts.{awaiter_of}
use Rattle.asyncio.specs.States.{pick, is_live, is_unstarted, is_blocked}
use Rattle.queue.specs.Queue.{empty_queue}
use Rattle.machine.specs.Store.{Store, LogEntry, view, task, object, place, header, put_object, put_queue, put_header, put_place, add_log, add_object, set_calls, set_moment, removed, exited}
use Rattle.machine.specs.Scheduler.{AwaitedGather, PendingExternal, as_awaited, as_pending, is_some, bit, pending_external, pending_call_ids, remove_task, cancel_one, live}
use Rattle.machine.specs.Scheduler.{Walk, reach_if, reach, remove_blocked, visit_by, visit, visit_place, visit_open, walk_gather, walk_next, walk, walk_from, cancel_task, remove_from, cleanup}
use Rattle.machine.specs.Delivery.{value_or, deliver_awaiter_success, resolve_pending, fail_pending, settle_pending, settle_found, resolve_future, fail_future}
use Rattle.machine.specs.Events.{How, start, Control, runs, waits, Switched, Result, activate, resume_next, handle_task_failure, completed, handle_task_completion, apply_result, apply_future_results, put_items, make_coroutine, make_pending, make_settled, make_gather, wake_in_order}
use Rattle.machine.specs.Machine.{Event, Answer, Step, switched, end_main, task_completes, task_fails, repeat_wait, resume_with_resolved_futures, answer_cancel}
use Rattle.machine.specs.Sound.{value_known, runs_now}
use Rattle.machine.specs.History.{says, nothing_said, tells, done_only, spawned_by, reply_error}
use Rattle.machine.specs.Honest.{exits_in}
use Rattle.machine_laws.specs.Views.{Sized}
use Rattle.machine_laws.specs.Facts.{SoundBut, Nothing}
use Rattle.machine_laws.specs.StoreLaws.{header-fits, header_put-header, header_put-object, object_put-header, object_put-other, object_put-object, task-fits, object-fits}
use Rattle.machine_laws.specs.DeliveryLaws.{absurd_some, pending-object}
use Rattle.machine_laws.specs.MakingLaws.{value-fits}
use Rattle.machine_theorems.specs.Soundness.Stores.{idle, SoundDuring, SoundStore, during_of}
use Rattle.machine_theorems.specs.Soundness.Fill.{DeliveringValue}
use Rattle.machine_theorems.specs.Soundness.Exits.{runner_low, runner-runs, runner-live, others_commits_none, completion_delivering, completion_delivery_ends, only_changes_of}
use Rattle.machine_theorems.specs.Soundness.Cycle.{spawned_of, coroutine-is}
use Rattle.machine_theorems.specs.Soundness.RowFacts.{unstarted-live}
use Rattle.machine_theorems.specs.Soundness.Results.{resolve_delivering, MayApply, AllApply, host_fits, result_keeps}
use Rattle.machine_theorems.specs.Panics.NoPanicWoken.{success_activated}
use Rattle.machine_sessions.specs.Gather.Failing.{ClimbMoves, RowMoves, FailedRow, climb-same, climb_moves, climb-awaited, climb-pending, climb-failed, failed-awaited, row_same}
use Rattle.machine_sessions.specs.Gather.FailingRows.{ItemAt, Raised, by_external, by_task, ExitAs, before, as_runner, TaskAs, Because, Failing, row_failing, queue_failing, moment_failing, goes_failing, ends_failing, exit_failing, failing_over}
use Rattle.machine_sessions.specs.Gather.FailingClimb.{Up, slotted_up, success_failing, failure_failing}
use Rattle.machine_sessions.specs.Gather.FailingCycle.{LeftAs, task_up, failed-left, exit_left, activate-left, resume-left}
use Rattle.machine_sessions.specs.Gather.FailingStated.{ResultIn, Brings, reuse, script, answer, RunnerFails, RunnerEnds, completes, fails, FailedBy, CommitFailed, Took, Opens, lived, EventFails}

-- ---- a row that is pending has not failed, and does not in deliveries

pending-awaited : {A : Type 0} (x : Object) (f n : ℕ) (w : AwaitedGather) → x ≡ Object.GatherFuture f n GatherState.Pending → as_awaited x ≡ some w → A
unfolding as_awaited
pending-awaited x f n w q p = absurd_some (sym (ap as_awaited q) ∙ p)

pub pending_climbs : {A : Type 0} (x y : Object) (f n h k : ℕ) (e : Error) → ClimbMoves x y → x ≡ Object.GatherFuture f n GatherState.Pending → y ≡ Object.GatherFuture h k (GatherState.Failed e) → A
pending_climbs {A} x y f n h k e p q r = by (climb-failed x y h k e p r)
  where
    by : (x ≡ Object.GatherFuture h k (GatherState.Failed e)) ⊎ ((w : AwaitedGather) × (as_awaited x ≡ some w)) → A
    by (inl d) = absurd (subst FailedRow (sym d ∙ q) tt)
    by (inr w) = pending-awaited x f n w.0 q w.1

-- before anything is done, whatever errors the event brings
pub begins_with : (s : Store) (B : Error → Type 0) (X : ℕ → Type 0) (R : ℕ → Error → Type 0) → Sized s → Failing s s (λ g. ⊥) B X R Unit s
begins_with s B X R z =
    record {
      sized = z;
      next = refl;
      moves = λ o. climb-same (object s o);
      tasks = λ t l b. record { live = b; awaiter = refl; coroutine = refl; unstarted = λ d. d };
      because = λ g f n x w p q. failed-awaited (object s g) f n x w q p;
      exits = λ t b. before b;
      fresh = λ i t a b. absurd (not-suc-le-zero {n = 0} (omega arith));
      spawned = λ t b. refl;
    }

module _ (e : Event) (s : Store) where
  abbrev K : Type 0 → Store → Type 0
  K Fr u = Failing s s (λ g. ⊥) (Brings e) (RunnerEnds e s) (RunnerFails e s) Fr u

  -- before anything is done
  pub begins : Sized s → K Unit s
  begins z = begins_with s (Brings e) (RunnerEnds e s) (RunnerFails e s) z

  -- no task is spawned
  anew : (Fr Gr : Type 0) (u : Store) → K Fr u → K Gr u
  anew Fr Gr u k =
      record {
        sized = k.sized;
        next = k.next;
        moves = k.moves;
        tasks = k.tasks;
        because = k.because;
        exits = k.exits;
        fresh = λ i t a b. absurd (not-suc-le-zero {n = 0} (omega arith));
        spawned = k.spawned;
      }

  -- what has been done
  pub ends : (Fr : Type 0) (x : Step) → K Fr x.store → ((t : ℕ) (h : How) → (tells x.answer).control ≡ some (runs t h) → t < (header x.store).next)
      → ((t : ℕ) (h : How) → (tells x.answer).control ≡ some (runs t h) → is_unstarted (task x.store t).state ≡ false)
      → ((t : ℕ) (h : How) → (tells x.answer).control ≡ some (runs t h) → is_live (task x.store t).state ≡ true)
      → ((t c f : ℕ) → (tells x.answer).control ≡ some (runs t (start c f)) → object x.store c ≡ Object.Coroutine f CoroutineState.Running) → EventFails e s x
  ends Fr x k a b al c =
      record {
        moves = λ o l. climb_moves (object s o) (object x.store o) (k.moves o);
        awaited = λ g f n y w l p q. let r = k.because g f n y w p q in record { error = r.error; item = r.item; among = r.among; raised = r.raised };
        pending = λ g f n h j y l p q. pending_climbs (object s g) (object x.store g) f n h j y (k.moves g) p q;
        committing = λ g f n h j y l p q. pending_climbs (object s g) (object x.store g) f n h j y (k.moves g) p q;
        takes = λ o r p. inl (inl (r, climb-pending (object s o) (object x.store o) r (k.moves o) p, refl));
        opens = λ o v p. let r = climb-awaited (object s o) (object x.store o) v (k.moves o) p in inl (inl (r.was, r.awaited, r.awaiter));
        grows = omega (arith, k.next);
        tasks = λ t l d. let y = k.tasks t (omega (arith, l, k.next)) d in lived (omega (arith, l, k.next)) y.live (ap (λ (i : HeapId). i.0) y.coroutine) y.awaiter;
        unstarted = λ t l d. inr ((k.tasks t (omega (arith, l, k.next)) (unstarted-live (task x.store t).state d)).unstarted d);
        exits = k.exits;
        spawned = λ t d l. k.spawned t d;
        low = a;
        started = b;
        alive = al;
        starts = c;
      }

  -- by a switch
  pub switch_ends : (x : Switched) → LeftAs (K ⊥) x → EventFails e s (switched x)
  unfolding switched tells
  switch_ends x l =
      ends ⊥ (record { store = x.store; answer = Answer.control x.control }) l.failing (λ t h p. l.low t h (same-control _ _ p)) (λ t h p. l.started t h (same-control _ _ p)) (λ t h p. l.alive t h (same-control _ _ p)) (λ t c f p. l.used t c f (same-control _ _ p))
    where
      same-control : (a b : Control) → some a ≡ some b → a ≡ b
      same-control a b p = some-injective a b p

  -- where nobody is given control
  pub quiet_ends : (Fr : Type 0) (x : Step) → (tells x.answer).control ≡ none → K Fr x.store → EventFails e s x
  quiet_ends Fr x n k = ends Fr x k (λ t h p. absurd_some (sym n ∙ p)) (λ t h p. absurd_some (sym n ∙ p)) (λ t h p. absurd_some (sym n ∙ p)) (λ t c f p. absurd_some (sym n ∙ p))

  -- rows that are made, tasks and log as they were
  pub same_ends : (x : Step) → (tells x.answer).control ≡ none → ((o : ℕ) → o < (header s).made → object x.store o ≡ object s o) → ((t : ℕ) → task x.store t ≡ task s t)
      → (header x.store).next ≡ (header s).next → x.store.log ≡ s.log → ((o : ℕ) (r : PendingExternal) → as_pending (object x.store o) ≡ some r → Took s o r.awaiter)
      → ((o : ℕ) (v : AwaitedGather) → as_awaited (object x.store o) ≡ some v → Opens s o v.awaiter) → EventFails e s x
  same_ends x c os ts n lg tk op =
      record {
        moves = λ o l. subst (RowMoves (object s o)) (sym (os o l)) (row_same (object s o));
        awaited = λ g f k y w l p q. failed-awaited (object s g) f k y w (sym (os g l) ∙ q) p;
        pending = λ g f k h j y l p q. absurd (subst FailedRow (sym (sym (os g l) ∙ q) ∙ p) tt);
        committing = λ g f k h j y l p q. absurd (subst FailedRow (sym (sym (os g l) ∙ q) ∙ p) tt);
        takes = λ o r p. inl (tk o r p);
        opens = λ o v p. inl (op o v p);
        grows = omega (arith, n);
        tasks = λ t l d. lived (omega (arith, l, n)) (sym (ap (λ (r : Task). is_live r.state) (ts t)) ∙ d) (ap (λ (r : Task). r.coroutine.0) (ts t)) (ap (λ (r : Task). r.awaiter) (ts t));
        unstarted = λ t l d. inr (sym (ap (λ (r : Task). is_unstarted r.state) (ts t)) ∙ d);
        exits = λ t d. before (subst (λ (y : List LogEntry). exits_in y t ≡ true) lg d);
        spawned = λ t b l. ap (λ (y : List LogEntry). spawned_by b y t) lg;
        low = λ t h p. absurd_some (sym c ∙ p);
        started = λ t h p. absurd_some (sym c ∙ p);
        alive = λ t h p. absurd_some (sym c ∙ p);
        starts = λ t i f p. absurd_some (sym c ∙ p);
      }

-- ---- results

pub pending_awaiter : (x : Object) (p : PendingExternal) → as_pending x ≡ some p → awaiter_of x ≡ p.awaiter
unfolding awaiter_of
pending_awaiter x p e = ap awaiter_of (pending-object x p e)

pending-coroutine : {A : Type 0} (x : Object) (p : PendingExternal) (f : ℕ) (y : CoroutineState) → as_pending x ≡ some p → x ≡ Object.Coroutine f y → A
unfolding as_pending
pending-coroutine x p f y e q = absurd_some (sym (ap as_pending q) ∙ e)

module _ (ev : Event) (s : Store) (w : SoundStore s) where
  abbrev J : Store → Type 0
  J u = K ev s (Unit {0}) u

  abbrev Goes : ℕ → Awaiter → Type 0
  Goes o a = Up s s (λ g. ⊥) (Brings ev) (RunnerEnds ev s) o a

  -- what a pending external settles with goes up to gathers that it is an item of
  external-up : (o : ℕ) (a : Awaiter) → o < (header s).made → awaiter_of (object s o) ≡ a → Goes o a
  unfolding view
  external-up o Awaiter.Nobody l e = tt
  external-up o (Awaiter.Task t) l e = tt
  external-up o (Awaiter.GatherSlot p x) l e = slotted_up s s (λ g. ⊥) (Brings ev) (RunnerEnds ev s) o p.0 x.0 (w.facts.but.object_slots o l (λ z. z) p.0 x.0 e) (λ v d y. y)

  module _ {r : ℕ → Bool} {D : ℕ → Type 0} (u : Store) (h : SoundDuring Nothing r D (header s) u) (k : J u) where
    found : (c : ℕ) (f : ℕ → PendingExternal → Store) → ((o : ℕ) (p : PendingExternal) → o < (header u).made → as_pending (object u o) ≡ some p → J (f o p)) → J (settle_found u (pending_external u c) f)
    found c f g = by (pending_external u c) refl
      where
        at : (o : ℕ) → o < (header u).made → (p : Option PendingExternal) → as_pending (object u o) ≡ p → J (settle_pending u p (f o))
        at o l none e = unfold settle_pending in k
        at o l (some p) e = unfold settle_pending in (g o p l e)

        by : (o : Option ℕ) → pending_external u c ≡ o → J (settle_found u o f)
        by none e = unfold settle_found in k
        by (some o) e = unfold settle_found in (at o (Rattle.machine_theorems.specs.Soundness.Results.low u h c o e) (as_pending (object u o)) refl)

    call_fits : (o : ℕ) (p : PendingExternal) → as_pending (object u o) ≡ some p → ObjectFits (Object.ExternalFuture p.call (ExternalFutureState.Pending p.awaiter p.stored))
    call_fits o p e = subst ObjectFits (pending-object (object u o) p e) (object-fits u o)

    made_as : (o : ℕ) → o < (header u).made → o < (header s).made
    made_as o l = subst (λ (y : Header). o < y.made) h.head l

    low-as : (o : ℕ) → o < (header u).made → o < object_limit
    low-as o l = omega (arith, l, (header-fits u).made_fits)

    -- the row of a pending external is written
    settles : (o : ℕ) (p : PendingExternal) (y : ExternalFutureState) → o < (header u).made → as_pending (object u o) ≡ some p → ObjectFits (Object.ExternalFuture p.call y)
        → ClimbMoves (Object.ExternalFuture p.call (ExternalFutureState.Pending p.awaiter p.stored)) (Object.ExternalFuture p.call y) → J (put_object u o (Object.ExternalFuture p.call y))
    settles o p y l e f c =
        row_failing s s (λ g. ⊥) (Brings ev) (RunnerEnds ev s) (RunnerFails ev s) (Unit {0}) u o _ (low-as o l) f (subst (λ (x : Object). ClimbMoves x (Object.ExternalFuture p.call y)) (sym (pending-object (object u o) p e)) c)
        (λ a b d v q i. absurd (subst FailedRow (sym i) tt)) (λ i a q. pending-coroutine (object u o) p a CoroutineState.New e q) k

    delivers_on : (o : ℕ) (p : PendingExternal) → o < (header u).made → as_pending (object u o) ≡ some p → Goes o p.awaiter
    delivers_on o p l e = external-up o p.awaiter (made_as o l) (pending_awaiter (object s o) p (climb-pending (object s o) (object u o) p (k.moves o) e))

    resolves : (c : ℕ) (v : Value) → T (value_known (header u).made (object u) v) → J (resolve_future u c v)
    unfolding resolve_future resolve_pending view
    resolves c v g =
        found c _ (λ o p l e.
        let i = resolve_delivering u h v g o p l e in
        let fv : ValueFits (value_or p.stored v) = value-fits _ _ _ i.during.kept.but.fits.made_fits i.known in
        success_failing s s (λ g. ⊥) (Brings ev) (RunnerEnds ev s) Nothing w.facts.but (λ a b d x l q z y. y) (RunnerFails ev s) (Unit {0}) _ p.awaiter (value_or p.stored v) (call_fits o p e).1.0 fv
        (settles o p (ExternalFutureState.Resolved (value_or p.stored v)) l e ((call_fits o p e).0, fv) (refl, tt)))

    breaks : (c : ℕ) (x : Error) → ErrorFits x → Brings ev x → J (fail_future u c x)
    unfolding fail_future fail_pending view
    breaks c x f b =
        found c _ (λ o p l e.
        let fit : ObjectFits (Object.ExternalFuture p.call (ExternalFutureState.Failed x)) = ((call_fits o p e).0, f) in
        failure_failing s s (λ g. ⊥) (Brings ev) (RunnerEnds ev s) Nothing w.facts.but (λ a b d x l q z y. y) (RunnerFails ev s) (Unit {0}) x f b _ o p.awaiter (call_fits o p e).1.0 (delivers_on o p l e)
        (by_external p.call (object_put-object u o _ k.sized (low-as o l) fit))
        (settles o p (ExternalFutureState.Failed x) l e fit (refl, tt)))

    one : (rs : List Result) (x : Result) → ev ≡ Event.results rs → ResultIn x rs → MayApply (header s).made D x → J (apply_result u x)
    unfolding apply_result
    one rs x q i m = by (eqb x.kind 0) refl (eqb x.kind 1) refl (eqb x.kind 2) refl (eqb x.kind 3) refl
      where
        brings : (y : Error) → eqb x.kind 0 ≡ false → eqb x.kind 2 ≡ false → reply_error x ≡ y → Brings ev y
        brings y a b c = subst (Brings ev) c (answer rs x q i a b)

        by : (a : Bool) → eqb x.kind 0 ≡ a → (b : Bool) → eqb x.kind 1 ≡ b → (c : Bool) → eqb x.kind 2 ≡ c → (d : Bool) → eqb x.kind 3 ≡ d
            → J (pick a (resolve_future u x.call (to_value x.tag x.number))
            (pick b (fail_future u x.call (to_error 0 x.number)) (pick c u (pick d (fail_future u x.call Error.NotFound) (fail_future u x.call Error.ModuleFile)))))
        by true e b eb c ec d ed =
            resolves x.call (to_value x.tag x.number)
            (subst (λ (y : Header). T (value_known y.made (object u) (to_value x.tag x.number))) (sym h.head) (m (eqb-true x.kind 0 e) (object u) h.done))
        by false e true eb c ec d ed = breaks x.call (to_error 0 x.number) (host_fits x.number) (brings _ e (not_two (eqb-true x.kind 1 eb)) (unfold reply_error in (rw eb)))
          where
            not_two : x.kind ≡ 1 → eqb x.kind 2 ≡ false
            not_two z = rw z
        by false e false eb true ec d ed = k
        by false e false eb false ec true ed = breaks x.call Error.NotFound tt (brings _ e ec (unfold reply_error in (rw (eb, ed))))
        by false e false eb false ec false ed = breaks x.call Error.ModuleFile tt (brings _ e ec (unfold reply_error in (rw (eb, ed))))

  all : {r : ℕ → Bool} {D : ℕ → Type 0} (rs xs : List Result) (u : Store) → ev ≡ Event.results rs → ((x : Result) → ResultIn x xs → ResultIn x rs) → AllApply (header s).made D xs → SoundDuring Nothing r D (header s) u → J u
      → J (apply_future_results u xs)
  unfolding apply_future_results AllApply ResultIn
  all rs [] u q i a h k = k
  all rs (x ∷ xs) u q i a h k = all rs xs (apply_result u x) q (λ y z. i y (inr z)) a.1 (result_keeps u x a.0 h) (one u h k rs x q (i x (inl refl)) a.0)

pub results-fails : (rs : List Result) (s : Store) → SoundStore s → AllApply (header s).made (λ o. T (is_completed (kind (object s o)))) rs
    → EventFails (Event.results rs) s (record { store = wake_in_order s (apply_future_results s rs); answer = Answer.done })
unfolding tells done_only wake_in_order
results-fails rs s w a =
    quiet_ends (Event.results rs) s (Unit {0}) (record { store = wake_in_order s (apply_future_results s rs); answer = Answer.done }) refl
    (queue_failing s _ _ _ _ _ (Unit {0}) (apply_future_results s rs) _ (all (Event.results rs) s w rs rs s refl (λ x z. z) a (during_of s w) (begins (Event.results rs) s w.memory.sized)))

-- ---- events that may start tasks bring coroutine-reuse

fail-reuse : (n : ℕ) → Brings (Event.fail n) Error.CoroutineReuse
unfolding says nothing_said
fail-reuse n = reuse refl

complete-reuse : (v : Value) → Brings (Event.complete v) Error.CoroutineReuse
unfolding says nothing_said
complete-reuse v = reuse refl

resume-reuse : Brings Event.resume Error.CoroutineReuse
unfolding says nothing_said
resume-reuse = reuse refl

-- ---- the end of the running task

module _ (ev : Event) (s : Store) (w : SoundStore s) where
  -- no gather is committed in the event
  never : (g p x : ℕ) (v : AwaitedGather) → g < (header s).made → as_awaited (object s g) ≡ some v → v.awaiter ≡ Awaiter.GatherSlot (heap_id p) (heap_id x) → ⊥ → ⊥
  never g p x v l e a y = y

  rows_same : (t : ℕ) → t < (header s).next → t < (header s).next → is_unstarted (task s t).state ≡ true → task s t ≡ task s t
  rows_same t a b c = refl

  never-slot : (t p x : ℕ) → t < (header s).next → t < (header s).next → is_live (task s t).state ≡ true → (task s t).awaiter ≡ Awaiter.GatherSlot (heap_id p) (heap_id x) → ⊥ → ⊥
  never-slot t p x a b c d y = y

  pub runner_up : (t : ℕ) → (header s).moment ≡ Moment.Running (task_id t) → Up s s (λ g. ⊥) (Brings ev) (RunnerEnds ev s) (task s t).coroutine.0 (task s t).awaiter
  runner_up t m =
      task_up s s (λ g. ⊥) (λ y. Unit {0}) (RunnerEnds ev s) (RunnerFails ev s) Nothing w.facts.but never rows_same never-slot tt t (task s t).awaiter (runner_low s t w m) (runner_low s t w m) (ap is_live (runner-runs s t w m)) refl

pub failure_fails : (s : Store) → SoundStore s → (t n : ℕ) → (header s).moment ≡ Moment.Running (task_id (suc t)) → ErrorFits (Error.Script n) → EventFails (Event.fail n) s (switched (handle_task_failure activate s (suc t) (Error.Script n)))
failure_fails s w t n m f =
    switch_ends (Event.fail n) s (handle_task_failure activate s (suc t) (Error.Script n))
    (failed-left s s (λ g. ⊥) (Brings (Event.fail n)) (RunnerEnds (Event.fail n) s) R Nothing w.facts.but (never (Event.fail n) s w) (rows_same (Event.fail n) s w) (never-slot (Event.fail n) s w) (fail-reuse n)
    (λ o. T (is_completed (kind (object s o)))) (header s) refl activate
    (activate-left s s (λ g. ⊥) (Brings (Event.fail n)) (RunnerEnds (Event.fail n) s) R Nothing w.facts.but (never (Event.fail n) s w) (rows_same (Event.fail n) s w) (never-slot (Event.fail n) s w) (fail-reuse n)
    (λ o. T (is_completed (kind (object s o)))) (header s) refl)
    R s t (Error.Script n) (runs_now (header s).moment) f (script n refl) (runner_low s (suc t) w m) (runner-live s (suc t) w m) (ap is_blocked (runner-runs s (suc t) w m)) (others_commits_none s (suc t) w m) (during_of s w)
    (runner_up (Event.fail n) s w (suc t) m) (record { runner = t; number = n; fails = refl; runs_it = m; coroutine = refl; error = refl }) (as_runner (fails n t refl refl m)) (λ o d r. by_task r)
    (begins (Event.fail n) s w.memory.sized))
  where
    R : ℕ → Error → Type 0
    R = RunnerFails (Event.fail n) s

-- completion
completed-is : (f : ℕ) (y : CoroutineState) → completed (Object.Coroutine f y) ≡ Object.Coroutine f CoroutineState.Completed
completed-is f y = unfold completed in refl

completes_climbs : (f : ℕ) (y : CoroutineState) → ClimbMoves (Object.Coroutine f y) (Object.Coroutine f CoroutineState.Completed)
completes_climbs f CoroutineState.New = (refl, tt)
completes_climbs f CoroutineState.Running = (refl, tt)
completes_climbs f CoroutineState.Completed = (refl, refl)

pub completion_fails : (s : Store) → SoundStore s → (t : ℕ) (v : Value) → (header s).moment ≡ Moment.Running (task_id (suc t)) → T (value_known (header s).made (object s) v) → EventFails (Event.complete v) s (switched (handle_task_completion s (suc t) v))
unfolding handle_task_completion view
completion_fails s w t v m kn =
    switch_ends ev s _
    (exit_left s s (λ g. ⊥) (Brings ev) (RunnerEnds ev s) R Nothing w.facts.but (never ev s w) (rows_same ev s w) (never-slot ev s w) (complete-reuse v) D (header s) refl activate
    (activate-left s s (λ g. ⊥) (Brings ev) (RunnerEnds ev s) R Nothing w.facts.but (never ev s w) (rows_same ev s w) (never-slot ev s w) (complete-reuse v) D (header s) refl)
    (deliver_awaiter_success left a v) (completion_delivery_ends s t v w m kn) (success_activated left a v k2.sized (task-fits s (suc t)).awaiter_fits fv)
    (success_failing s s (λ g. ⊥) (Brings ev) (RunnerEnds ev s) Nothing w.facts.but (never ev s w) R (Unit {0}) left a v (task-fits s (suc t)).awaiter_fits fv k2))
  where
    ev : Event
    ev = Event.complete v

    R : ℕ → Error → Type 0
    R = RunnerFails (Event.complete v) s

    D : ℕ → Type 0
    D o = T (is_completed (kind (object s o)))

    o : ℕ
    o = (task s (suc t)).coroutine.0

    a : Awaiter
    a = (task s (suc t)).awaiter

    done : Store
    done = put_object s o (completed (object s o))

    left : Store
    left = add_log (remove_task done (suc t)) (exited (suc t))

    fv : ValueFits v
    fv = value-fits (header s).made (object s) v w.facts.but.fits.made_fits kn

    k1 : K (Event.complete v) s (Unit {0}) done
    k1 = by (coroutine-is (object s o) (spawned_of t w.facts.but (runner_low s (suc t) w m) (runner-live s (suc t) w m)).coroutine)
      where
        by : (f : ℕ) × (y : CoroutineState) × (object s o ≡ Object.Coroutine f y) → K (Event.complete v) s (Unit {0}) done
        by x =
            let q : completed (object s o) ≡ Object.Coroutine x.0 CoroutineState.Completed = ap completed x.2 ∙ completed-is x.0 x.1 in
            subst (λ (y : Object). K (Event.complete v) s (Unit {0}) (put_object s o y)) (sym q) (anew (Event.complete v) s ⊥ (Unit {0}) _
            (row_failing s s (λ g. ⊥) (Brings (Event.complete v)) (RunnerEnds (Event.complete v) s) (RunnerFails (Event.complete v) s) ⊥ s o _ (task-fits s (suc t)).coroutine_fits (subst ObjectFits x.2 (object-fits s o))
            (subst (λ (y : Object). ClimbMoves y (Object.Coroutine x.0 CoroutineState.Completed)) (sym x.2) (completes_climbs x.0 x.1))
            (λ g n e u p i. absurd (subst FailedRow (sym i) tt)) (λ z. absurd z) (anew (Event.complete v) s (Unit {0}) ⊥ s (begins (Event.complete v) s w.memory.sized))))

    k2 : K (Event.complete v) s (Unit {0}) left
    k2 = exit_failing s s (λ g. ⊥) (Brings (Event.complete v)) (RunnerEnds (Event.complete v) s) (RunnerFails (Event.complete v) s) (Unit {0}) done (suc t) (as_runner (completes v t refl refl m)) k1

-- ---- resume

pub resume-fails : (s : Store) → SoundStore s → (header s).moment ≡ Moment.Waiting → EventFails Event.resume s (resume_with_resolved_futures s)
unfolding resume_with_resolved_futures
resume-fails s w m =
    pick_has (EventFails Event.resume s) (eqb s.queue.len 0) (repeats (pending_call_ids s))
    (switch_ends Event.resume s (resume_next activate s)
    (resume-left s s (λ g. ⊥) (Brings Event.resume) (RunnerEnds Event.resume s) (RunnerFails Event.resume s) Nothing w.facts.but (never Event.resume s w) (rows_same Event.resume s w) (never-slot Event.resume s w) resume-reuse
    (λ o. T (is_completed (kind (object s o)))) (header s) refl s (only_changes_of s w m) (begins Event.resume s w.memory.sized)))
  where
    not-runs : {A : Type 0} (t : ℕ) (h : How) (cs : List ℕ) → some (waits cs) ≡ some (runs t h) → A
    not-runs t h cs e = let z : ◌≡◌ {A = ℕ} 0 1 = cc in absurd (omega arith)

    repeats : (cs : List ℕ) → EventFails Event.resume s (record { store = s; answer = repeat_wait cs })
    repeats [] = unfold repeat_wait in (quiet_ends Event.resume s (Unit {0}) (record { store = s; answer = Answer.stalled }) (unfold tells done_only in refl) (begins Event.resume s w.memory.sized))
    repeats (c ∷ cs) = unfold repeat_wait in
        (ends Event.resume s (Unit {0}) (record { store = s; answer = Answer.control (waits (c ∷ cs)) }) (begins Event.resume s w.memory.sized) (λ t h e. not-runs t h (c ∷ cs) (unfold tells in e))
        (λ t h e. not-runs t h (c ∷ cs) (unfold tells in e)) (λ t h e. not-runs t h (c ∷ cs) (unfold tells in e)) (λ t d f e. not-runs t (start d f) (c ∷ cs) (unfold tells in e)))

-- ---- cancel and the end

module _ (ev : Event) (s : Store) where
  abbrev L : Store → Type 0
  L u = K ev s (Unit {0}) u

  abbrev WalkKept : Walk → Type 0
  WalkKept v = L v.store

  goes : (u : Store) (t : ℕ) → L u → L (add_log (remove_task u t) (removed t))
  goes u t k = goes_failing s s (λ g. ⊥) (Brings ev) (RunnerEnds ev s) (RunnerFails ev s) (Unit {0}) u t k

  reach-kept : (v : Walk) (g : ℕ) → WalkKept v → WalkKept (reach v g)
  unfolding reach
  reach-kept v g k = by (is_some (as_awaited (object v.store g)) && not (get_or v.marks g false))
    where
      by : (b : Bool) → WalkKept (reach_if v g b)
      by true = unfold reach_if in k
      by false = unfold reach_if in k

  removes : (v : Walk) (t : ℕ) (b : Option ℕ) → WalkKept v → WalkKept (remove_blocked v t b)
  unfolding remove_blocked cancel_one
  removes v t none k = goes v.store t k
  removes v t (some b) k = reach-kept _ b (goes v.store t k)

  visits : (v : Walk) (o : ℕ) (d : Option ℕ) → WalkKept v → WalkKept (visit_by v o d)
  unfolding visit_by
  visits v o none k = reach-kept v o k
  visits v o (some t) k = removes v t _ k

  visits-open : (m : ℕ) (v : Walk) (a : AwaitedGather) (j : ℕ) → WalkKept v → WalkKept (visit_open v a j m)
  unfolding visit_open visit_place visit
  visits-open zero v a j k = k
  visits-open (suc m) v a j k = visits-open m _ a (j + 1) (pick_has WalkKept (bit a.open_places j) (visits v _ _ k) k)

  walk-gather-kept : (v : Walk) (a : Option AwaitedGather) → WalkKept v → WalkKept (walk_gather v a)
  unfolding walk_gather
  walk-gather-kept v none k = k
  walk-gather-kept v (some a) k = visits-open a.count v a 0 k

  walk-next-kept : (go : Walk → Store) → ((v : Walk) → WalkKept v → L (go v)) → (v : Walk) (gs : List ℕ) → WalkKept v → L (walk_next go v gs)
  unfolding walk_next
  walk-next-kept go h v [] k = k
  walk-next-kept go h v (g ∷ gs) k = h _ (walk-gather-kept _ _ k)

  walk_kept : (m : ℕ) (v : Walk) → WalkKept v → L (walk m v)
  unfolding walk
  walk_kept zero v k = k
  walk_kept (suc m) v k = walk-next-kept (λ x. walk m x) (λ x y. walk_kept m x y) v v.stack k

  cancels : (t : ℕ) → L s → L (cancel_task s t)
  unfolding cancel_task walk_from
  cancels t k = walk_kept object_limit _ (removes _ t _ k)

  remove-from-kept : (m : ℕ) (u : Store) (t : ℕ) → L u → L (remove_from u t m)
  unfolding remove_from
  remove-from-kept zero u t k = k
  remove-from-kept (suc m) u t k =
      remove-from-kept m _ (t + 1) (pick_has L (is_live (task u t).state) (ends_failing s s (λ g. ⊥) (Brings ev) (RunnerEnds ev s) (RunnerFails ev s) (Unit {0}) u t k) k)

  cleans : L s → L (cleanup s)
  unfolding cleanup
  cleans k =
      moment_failing s s (λ g. ⊥) (Brings ev) (RunnerEnds ev s) (RunnerFails ev s) (Unit {0}) _ Moment.Ended tt
      (queue_failing s s (λ g. ⊥) (Brings ev) (RunnerEnds ev s) (RunnerFails ev s) (Unit {0}) _ empty_queue (remove-from-kept (header s).next s 0 k))

pub cancel-fails : (s : Store) (t : ℕ) → SoundStore s → EventFails (Event.cancel t) s (answer_cancel s (cancel_task s t))
unfolding tells done_only
cancel-fails s t w = quiet_ends (Event.cancel t) s (Unit {0}) (answer_cancel s (cancel_task s t)) refl (cancels (Event.cancel t) s t (begins (Event.cancel t) s w.memory.sized))

pub end_fails : (ev : Event) (s : Store) (a : Answer) → SoundStore s → (tells a).control ≡ none → EventFails ev s (end_main s a)
unfolding end_main
end_fails ev s a w c = quiet_ends ev s (Unit {0}) (record { store = cleanup s; answer = a }) c (cleans ev s (begins ev s w.memory.sized))
