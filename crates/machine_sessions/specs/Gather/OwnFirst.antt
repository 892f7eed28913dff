-- A task's failure goes up before any other task runs: a gather that fails with coroutine-reuse in a `fail` event was reached by nothing of the failing task's
-- own error.
use Rattle.std.specs.Prelude.{◌≡◌, Bool, true, ◌⊎◌, T}
use Rattle.std.proofs.Math.Path.{refl, ap}
use Rattle.std.proofs.Common.{sym, subst, ◌∙◌, inl, inr, arith, ne_eqb}
use Rattle.std.proofs.Math.Bool.{false}
use Rattle.std.proofs.Math.Option.{Option, none, some, some-injective}
use Prim.Native.Nat.{ℕ, zero, suc, ◌+◌, ◌≤◌, ◌<◌}
use Rattle.std.proofs.Math.Nat.{not-suc-le-zero}
use Rattle.std.proofs.Math.Decide.{ℕ_discrete}
use Rattle.asyncio.specs.declared.Error.{Error}
use Rattle.asyncio.specs.declared.Awaiter.{Awaiter}
use Rattle.asyncio.specs.declared.TaskState.{TaskState}
use Rattle.asyncio.specs.declared.GatherState.{GatherState}
use Rattle.asyncio.specs.declared.Object.{Object}
use Rattle.asyncio.specs.declared.Moment.{Moment}
use Rattle.asyncio.specs.declared.Header.{Header}
use Rattle.asyncio.specs.Limits.{object_limit}
use Rattle.asyncio.specs.Numbers.{heap_id, task_id}
use Rattle.asyncio.specs.Ranges.{ErrorFits, AwaiterFits}
use Rattle.asyncio.specs.Kinds.{kind, is_completed}
use Rattle.asyncio.specs.States.{pick, is_blocked}
use Rattle.machine.specs.Store.{Store, view, task, object, header, put_object, put_task, put_queue, add_log, set_state, reached, exited}
use Rattle.machine.specs.Scheduler.{AwaitedGather, as_awaited, make_ready, push_ready, remove_from_ready_queue, remove_task, cleanup}
use Rattle.machine.specs.Delivery.{nobody_woken, deliver_to_task, Settled, fail_gather, climb, send_error, deliver_awaiter_failure}
use Rattle.machine.specs.Events.{handle_task_failure, activate}
use Rattle.machine.specs.Machine.{Event, Answer, switched, end_main, task_fails, accept, refusal, refusals, runner}
use Rattle.machine.specs.Sound.{runs_now}
use Rattle.machine.specs.Sessions.{InRange}
use Rattle.machine_laws.specs.Views.{Sized}
use Rattle.machine_laws.specs.Facts.{Nothing}
use Rattle.machine_laws.specs.StoreLaws.{object_put-other, task-fits}
use Rattle.machine_laws.specs.DeliveryLaws.{absurd_some, awaited-fits, failure_climbs}
use Rattle.machine_laws.specs.SoundLaws.{refusal-rest}
use Rattle.machine_theorems.specs.Soundness.Stores.{idle, SoundDuring, SoundStore, during_of}
use Rattle.machine_theorems.specs.Soundness.Deliver.{Sends, DeliveringError, error-sends, DeliveryEnds, failure_keeps}
use Rattle.machine_theorems.specs.Soundness.Cycle.{task_delivering, remove_keeps}
use Rattle.machine_theorems.specs.Soundness.Exits.{runner_low, runner-runs, runner-live, others_commits_none}
use Rattle.machine_theorems.specs.Soundness.Preserved.{running}
use Rattle.machine_theorems.specs.Panics.NoPanicWoken.{failure_activated}
use Rattle.machine_sessions.specs.Stall.SourcedClimb.{fail_off, fail-on}
use Rattle.machine_sessions.specs.Stall.SourcedCycle.{failure_settles}
use Rattle.machine_sessions.specs.Stall.WaitingEvents.{Cleaned, cleanup_cleans}
use Rattle.machine_sessions.specs.Gather.Failing.{climb-failed, failed-awaited}
use Rattle.machine_sessions.specs.Gather.FailingRows.{by_task, Failing}
use Rattle.machine_sessions.specs.Gather.FailingClimb.{failure_failing}
use Rattle.machine_sessions.specs.Gather.FailingCycle.{LeftAs, exit_left, activate-left}
use Rattle.machine_sessions.specs.Gather.FailingEvents.{begins_with, runner_up}

-- ---- an error goes all the way up

-- a gather of s that an error has settled in u has settled the gather that it is in
abbrev Rises : Store → Store → Type 0
Rises s u = (o g x : ℕ) (v : AwaitedGather) → as_awaited (object s o) ≡ some v → v.awaiter ≡ Awaiter.GatherSlot (heap_id g) (heap_id x) → as_awaited (object u o) ≡ none → as_awaited (object u g) ≡ none

-- rows as they were
same_rises : (s u : Store) → ((o : ℕ) → object u o ≡ object s o) → Rises s u
same_rises s u r o g x v e a n = absurd_some (sym n ∙ (ap as_awaited (r o) ∙ e))

-- no gather is served
to_task_rises : (s : Store) (t : ℕ) (x : TaskState) → Rises s (deliver_to_task s t x).store
unfolding deliver_to_task nobody_woken
to_task_rises s t x = by (is_blocked (task s t).state)
  where
    by : (b : Bool) → Rises s (pick b (record { store = add_log (make_ready s t x) (reached t); woken = some t }) (nobody_woken s)).store
    by true = same_rises s _ (λ o. unfold object add_log make_ready push_ready put_queue set_state put_task in refl)
    by false = same_rises s s (λ o. refl)

module _ (r : ℕ → Bool) (D : ℕ → Type 0) (hd : Header) (e : Error) (k : ErrorFits e) where
  -- into gather g, and on from there
  rises-slot : (n : ℕ) (s : Store) (q g x : ℕ) → object_limit ≤ suc n + q → DeliveringError r D hd q s (Awaiter.GatherSlot (heap_id g) (heap_id x))
      → ((s : Store) (q : ℕ) (a : Awaiter) → object_limit ≤ n + q → DeliveringError r D hd q s a → Rises s (deliver_awaiter_failure s a e).store) → Rises s (deliver_awaiter_failure s (Awaiter.GatherSlot (heap_id g) (heap_id x)) e).store
  unfolding view
  rises-slot n s q g x f i go = by (as_awaited (object s g)) refl
    where
      sent : Sends r D hd (DeliveringError r D hd g) q g (fail_gather s g e)
      sent = error-sends r D hd e k s q g x i

      low : g < object_limit
      low = omega (arith, (i.detached.slot g x refl).made, i.during.kept.but.fits.made_fits)

      z : Sized s
      z = i.during.kept.memory.sized

      by : (w : Option AwaitedGather) → as_awaited (object s g) ≡ w → Rises s (deliver_awaiter_failure s (Awaiter.GatherSlot (heap_id g) (heap_id x)) e).store
      by none d = unfold deliver_awaiter_failure send_error in (rw (fail_off s g e d) (unfold climb nobody_woken in (same_rises s s (λ o. refl))))
      by (some w) d = rw (failure_climbs s (heap_id g) (heap_id x) e w.awaiter z low onward) at
        where
          onward : (fail_gather s g e).onward ≡ some w.awaiter
          onward = ap (λ (t : Settled). t.onward) (fail-on s g e w d)

          y : Store
          y = (fail_gather s g e).store

          is-put : y ≡ put_object s g (Object.GatherFuture w.first w.count (GatherState.Failed e))
          is-put = ap (λ (t : Settled). t.store) (fail-on s g e w d)

          next : DeliveringError r D hd g y w.awaiter
          next = sent.delivers_on w.awaiter onward

          at : Rises s (deliver_awaiter_failure y w.awaiter e).store
          at o p j v a b c = of (ℕ_discrete o g)
            where
              of : Dec (o ≡ g) → as_awaited (object (deliver_awaiter_failure y w.awaiter e).store p) ≡ none
              of (yes h) =
                  let same : w ≡ v = some-injective w v (sym d ∙ subst (λ (m : ℕ). as_awaited (object s m) ≡ some v) h a) in
                  let to : w.awaiter ≡ Awaiter.GatherSlot (heap_id p) (heap_id j) = ap (λ (t : AwaitedGather). t.awaiter) same ∙ b in
                  subst (λ (t : Awaiter). as_awaited (object (deliver_awaiter_failure y t e).store p) ≡ none) (sym to)
                  (failure_settles p y j e next.during.kept.memory.sized (subst AwaiterFits to (awaited-fits s g w d).1.0).0 k)
              of (no ne) =
                  go y g w.awaiter (omega (arith, f, sent.up w.awaiter onward)) next o p j v
                  (ap (λ (t : Store). as_awaited (object t o)) is-put ∙ (ap as_awaited (object_put-other s g o _ ne) ∙ a)) b c

  rises-climb : (n : ℕ) (s : Store) (q : ℕ) (a : Awaiter) → object_limit ≤ n + q → DeliveringError r D hd q s a → Rises s (deliver_awaiter_failure s a e).store
  unfolding view
  rises-climb zero s q a f i = absurd (not-suc-le-zero {n = 0} (omega (arith, f, i.detached.made, i.during.kept.but.fits.made_fits)))
  rises-climb (suc n) s q Awaiter.Nobody f i = unfold deliver_awaiter_failure send_error nobody_woken in (same_rises s s (λ o. refl))
  rises-climb (suc n) s q (Awaiter.Task t) f i = unfold deliver_awaiter_failure send_error in (to_task_rises s t.0 (TaskState.Raised e))
  rises-climb (suc n) s q (Awaiter.GatherSlot g x) f i = rises-slot n s q g.0 x.0 f i (λ y p b j m. rises-climb n y p b j m)

  -- An error of object q goes to its awaiter.
  failure-rises : (s : Store) (q : ℕ) (a : Awaiter) → DeliveringError r D hd q s a → Rises s (deliver_awaiter_failure s a e).store
  failure-rises s q a i = rises-climb object_limit s q a (omega arith) i

-- ---- a failure of the running task

-- Gather g has failed with coroutine-reuse in a failure: the failing task is not one of its own, and no gather in it has failed with another error.
pub record LateFails (s u : Store) (g : ℕ) : Type 0 where
  pub runner : ℕ
  pub runs : (header s).moment ≡ Moment.Running (task_id (suc runner))
  pub apart : (x : ℕ) → (task s (suc runner)).awaiter ≡ Awaiter.GatherSlot (heap_id g) (heap_id x) → ⊥
  pub items : (o x f n : ℕ) (v : AwaitedGather) (z : Error) → as_awaited (object s o) ≡ some v → v.awaiter ≡ Awaiter.GatherSlot (heap_id g) (heap_id x)
      → object u o ≡ Object.GatherFuture f n (GatherState.Failed z) → z ≡ Error.CoroutineReuse

module _ (s : Store) (w : SoundStore s) (t n : ℕ) (m : (header s).moment ≡ Moment.Running (task_id (suc t))) (f : ErrorFits (Error.Script n)) where
  abbrev Done : ℕ → Type 0
  Done o = T (is_completed (kind (object s o)))

  abbrev e : Error
  e = Error.Script n

  abbrev a : Awaiter
  a = (task s (suc t)).awaiter

  -- the error has gone up; the task is gone; others have run
  abbrev during : Store
  during = (deliver_awaiter_failure s (task s (suc t)).awaiter (Error.Script n)).store

  abbrev left : Store
  left = add_log (remove_task during (suc t)) (exited (suc t))

  abbrev end : Store
  end = (handle_task_failure activate s (suc t) (Error.Script n)).store

  z : Sized s
  z = w.memory.sized

  rising : DeliveringError (runs_now (header s).moment) Done (header s) (task s (suc t)).coroutine.0 s a
  rising = task_delivering s t (during_of s w) (runner_low s (suc t) w m) (runner-live s (suc t) w m)

  sent : DeliveryEnds (runs_now (header s).moment) Done (header s) (deliver_awaiter_failure s a e)
  sent = failure_keeps (runs_now (header s).moment) Done (header s) e f s (task s (suc t)).coroutine.0 a rising

  gone : SoundDuring Nothing idle Done (header s) left
  gone =
      remove_keeps during (suc t) sent.during (subst (λ (y : Header). suc t < y.next) (sym sent.during.head) (runner_low s (suc t) w m)) (exited (suc t)) idle refl (others_commits_none s (suc t) w m)

  -- up to there only the task's own error fails gathers
  own : Failing s s (λ g. ⊥) (λ y. y ≡ e) (λ v. ⊥) (λ o y. Unit {0}) Unit during
  own =
      failure_failing s s (λ g. ⊥) (λ y. y ≡ e) (λ v. ⊥) Nothing w.facts.but (λ g p x v l d b y. y) (λ o y. Unit {0}) (Unit {0}) e f refl s (task s (suc t)).coroutine.0 a (task-fits s (suc t)).awaiter_fits
      (runner_up (Event.fail n) s w (suc t) m) (by_task tt) (begins_with s (λ y. y ≡ e) (λ v. ⊥) (λ o y. Unit {0}) z)

  -- behind it only coroutine-reuse
  others : LeftAs (Failing left left (λ g. ⊥) (λ y. y ≡ Error.CoroutineReuse) (λ v. ⊥) (λ o y. ⊥) ⊥) (handle_task_failure activate s (suc t) e)
  unfolding handle_task_failure
  others =
      exit_left left left (λ g. ⊥) B (λ v. ⊥) (λ o y. ⊥) Nothing gone.kept.but (λ g p x v l d b y. y) (λ v l j d. refl) (λ v p x l j d b y. y) refl Done (header s) next activate
      (activate-left left left (λ g. ⊥) B (λ v. ⊥) (λ o y. ⊥) Nothing gone.kept.but (λ g p x v l d b y. y) (λ v l j d. refl) (λ v p x l j d b y. y) refl Done (header s) next)
      _ (record { during = gone; woken = sent.woken }) (failure_activated s (suc t) e z f (ap is_blocked (runner-runs s (suc t) w m)))
      (begins_with left B (λ v. ⊥) (λ o y. ⊥) gone.kept.memory.sized)
    where
      B : Error → Type 0
      B y = y ≡ Error.CoroutineReuse

      next : (header s).next ≡ (header left).next
      next = ap (λ (y : Header). y.next) (sym gone.head)

  -- the task goes, its gathers stay
  same_row : (o : ℕ) → object left o ≡ object during o
  same_row o = unfold object add_log remove_task remove_from_ready_queue put_queue put_task in refl

  not_own : {A : Type 0} → Error.CoroutineReuse ≡ Error.Script n → A
  not_own q = let y : ◌≡◌ {A = ℕ} 0 1 = cc in absurd (not-suc-le-zero {n = 0} (omega (arith, y)))

  failed-off : (x : Object) (i j : ℕ) (y : Error) → x ≡ Object.GatherFuture i j (GatherState.Failed y) → as_awaited x ≡ none
  failed-off x i j y q = ap as_awaited q ∙ (unfold as_awaited in refl)

  module _ (g i j : ℕ) (v : AwaitedGather) (p : as_awaited (object s g) ≡ some v) (q : object end g ≡ Object.GatherFuture i j (GatherState.Failed Error.CoroutineReuse)) where
    -- it was still awaited when the error had gone up
    still : as_awaited (object during g) ≡ none → ⊥
    still d = by (climb-failed (object left g) (object end g) i j Error.CoroutineReuse (others.failing.moves g) q)
      where
        by : (object left g ≡ Object.GatherFuture i j (GatherState.Failed Error.CoroutineReuse)) ⊎ ((u : AwaitedGather) × (as_awaited (object left g) ≡ some u)) → ⊥
        by (inl h) = not_own (own.because g i j Error.CoroutineReuse v p (sym (same_row g) ∙ h)).error
        by (inr h) = absurd_some (sym d ∙ (ap as_awaited (sym (same_row g)) ∙ h.1))

    failure-late : LateFails s end g
    failure-late = record { runner = t; runs = m; apart = apart; items = items }
      where
        apart : (x : ℕ) → (task s (suc t)).awaiter ≡ Awaiter.GatherSlot (heap_id g) (heap_id x) → ⊥
        apart x b = still (subst (λ (y : Awaiter). as_awaited (object (deliver_awaiter_failure s y e).store g) ≡ none) (sym b) (failure_settles g s x e z (subst AwaiterFits b (task-fits s (suc t)).awaiter_fits).0 f))

        items : (o x c d : ℕ) (u : AwaitedGather) (y : Error) → as_awaited (object s o) ≡ some u → u.awaiter ≡ Awaiter.GatherSlot (heap_id g) (heap_id x) → object end o ≡ Object.GatherFuture c d (GatherState.Failed y)
            → y ≡ Error.CoroutineReuse
        items o x c d u y k b h = by (climb-failed (object left o) (object end o) c d y (others.failing.moves o) h)
          where
            by : (object left o ≡ Object.GatherFuture c d (GatherState.Failed y)) ⊎ ((u : AwaitedGather) × (as_awaited (object left o) ≡ some u)) → y ≡ Error.CoroutineReuse
            by (inl l) =
                absurd (still (failure-rises (runs_now (header s).moment) Done (header s) e f s (task s (suc t)).coroutine.0 a rising o g x u k b (failed-off (object during o) c d y (sym (same_row o) ∙ l))))
            by (inr l) = (others.failing.because o c d y l.0 l.1 h).error

-- ---- an accepted failure

-- main's failure fails no gather
end_late : (s u : Store) (g i j : ℕ) (v : AwaitedGather) → Cleaned s u → as_awaited (object s g) ≡ some v → object u g ≡ Object.GatherFuture i j (GatherState.Failed Error.CoroutineReuse) → LateFails s u g
end_late s u g i j v c p q = failed-awaited (object s g) i j Error.CoroutineReuse v (sym (c.rows g) ∙ q) p

-- a spawned task's failure
spawned-fails : (s : Store) (t : ℕ) (e : Error) → (task_fails s (suc t) e).store ≡ (handle_task_failure activate s (suc t) e).store
spawned-fails s t e =
    unfold task_fails in (ap (λ (b : Bool). (pick b (end_main s (Answer.finished_error e)) (switched (handle_task_failure activate s (suc t) e))).store) (ne_eqb (suc t) 0 (λ q. not-suc-le-zero {n = 0} (omega (arith, q)))) ∙ (unfold switched in refl))

pub accept-late : (s : Store) (n : ℕ) → SoundStore s → InRange (Event.fail n) → refusal s (Event.fail n) ≡ 0 → (g i j : ℕ) (v : AwaitedGather) → as_awaited (object s g) ≡ some v
    → object (accept s (Event.fail n)).store g ≡ Object.GatherFuture i j (GatherState.Failed Error.CoroutineReuse) → LateFails s (accept s (Event.fail n)).store g
unfolding accept InRange refusals
accept-late s n w f r g i j v p q = by (runner (header s).moment) (running s w _ (refusal-rest s (Event.fail n) r)) q
  where
    Late : Store → Type 0
    Late u = object u g ≡ Object.GatherFuture i j (GatherState.Failed Error.CoroutineReuse) → LateFails s u g

    main-fails : (task_fails s 0 (Error.Script n)).store ≡ cleanup s
    main-fails = unfold task_fails end_main in refl

    by : (t : ℕ) → (header s).moment ≡ Moment.Running (task_id t) → Late (task_fails s t (Error.Script n)).store
    by zero m = subst Late (sym main-fails) (λ h. end_late s (cleanup s) g i j v (cleanup_cleans s w.memory.sized) p h)
    by (suc t) m = subst Late (sym (spawned-fails s t (Error.Script n))) (λ h. failure-late s w t n m f g i j v p h)
