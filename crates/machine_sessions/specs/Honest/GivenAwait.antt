-- `Given` through an await of the running task t: it goes on with what has come of the object, or with a reuse error, or it blocks and another has control.
use Rattle.std.specs.Prelude.{◌≡◌, ◌⊎◌, true, ℕ, ◌≤◌, ◌<◌}
use Rattle.std.proofs.Math.Path.{refl, ap}
use Rattle.std.proofs.Common.{sym, subst, ◌∙◌, inl, inr, not-suc-le-zero, arith}
use Rattle.std.proofs.Math.Option.{Option, none, some, some-injective}
use Rattle.std.proofs.Math.Decide.{ℕ_discrete}
use Rattle.asyncio.specs.declared.CallId.{CallId}
use Rattle.asyncio.specs.declared.Value.{Value}
use Rattle.asyncio.specs.declared.Error.{Error}
use Rattle.asyncio.specs.declared.TaskState.{TaskState}
use Rattle.asyncio.specs.declared.Task.{Task}
use Rattle.asyncio.specs.declared.Awaiter.{Awaiter}
use Rattle.asyncio.specs.declared.CoroutineState.{CoroutineState}
use Rattle.asyncio.specs.declared.ExternalFutureState.{ExternalFutureState}
use Rattle.asyncio.specs.declared.GatherState.{GatherState}
use Rattle.asyncio.specs.declared.Object.{Object}
use Rattle.asyncio.specs.Limits.{object_limit, task_limit}
use Rattle.asyncio.specs.Numbers.{heap_id, task_id}
use Rattle.asyncio.specs.Ranges.{TaskFits}
use Rattle.asyncio.specs.States.{is_live}
use Rattle.machine.specs.Store.{Store, task, object, header, put_object, add_log, restate, set_state, blocked}
use Rattle.machine.specs.Scheduler.{blocked_on}
use Rattle.machine.specs.Commit.{Poll, ready, raised, pending, await_pending, await_external, commit_gather_tree}
use Rattle.machine.specs.Events.{How, start, value, raises, inline, runs, Switched, Awaited, resume_next, activate, stays, go_on, await_coroutine, await_external_future, await_gather, await_object, exec_get_awaitable}
use Rattle.machine.specs.Honest.{is_reuse}
use Rattle.machine_laws.specs.StoreLaws.{task-fits, header_put-object, task_put-task}
use Rattle.machine_laws.specs.DeliveryLaws.{absurd_some}
use Rattle.machine_laws.specs.Walk.{commit_kept}
use Rattle.machine_sessions.specs.Waits.Calls.{read_back}
use Rattle.machine_sessions.specs.Places.TellingAwait.{Row, row_commits}
use Rattle.machine_sessions.specs.Honest.Given.{Fate, loose, held, ret, err, holder, fate, fate_back, Awaits, held-is, not-held, StateIs, Given, NoneBut, NoneYet}
use Rattle.machine_sessions.specs.Honest.Given.{loose_unwaited, unwaited_given, state_given, log-given}
use Rattle.machine_sessions.specs.Honest.GivenCycle.{none_yet, Left, resume-left}
use Rattle.machine_sessions.specs.Honest.GivenCommit.{Takes, Ended, commit_given}

-- ---- another await is the last one of task t

pub rewait : (W U : ℕ → Option ℕ) {Z : ℕ → ℕ → Type 0} (t : ℕ) (u : Store) → ((v : ℕ) → (v ≡ t → ⊥) → U v ≡ W v) → ((o : ℕ) → U t ≡ some o → Awaits t (fate o (object u o))) → ((header u).next ≤ t → U t ≡ none)
    → Given W NoneBut Z u → Given U (λ v. v ≡ t) Z u
rewait W U t u e a b k =
    record {
      sized = k.sized;
      fates = λ v o q. fates-by v o q (ℕ_discrete v t);
      states = λ v l n. subst (λ (w : Option ℕ). StateIs w (λ o. fate o (object u o)) v (task u v).state) (sym (e v n)) (k.states v l (λ z. z));
      holders = k.holders;
      low = k.low;
      unborn = λ v l. unborn-by v l (ℕ_discrete v t);
      slots = k.slots;
    }
  where
    fates-by : (v o : ℕ) → U v ≡ some o → Dec (v ≡ t) → Awaits v (fate o (object u o))
    fates-by v o q (yes d) = subst (λ (m : ℕ). Awaits m (fate o (object u o))) (sym d) (a o (subst (λ (m : ℕ). U m ≡ some o) d q))
    fates-by v o q (no ne) = k.fates v o (sym (e v ne) ∙ q)

    unborn-by : (v : ℕ) → (header u).next ≤ v → Dec (v ≡ t) → U v ≡ none
    unborn-by v l (yes d) = subst (λ (m : ℕ). U m ≡ none) (sym d) (b (subst (λ (m : ℕ). (header u).next ≤ m) d l))
    unborn-by v l (no ne) = e v ne ∙ k.unborn v l

-- task t, too, is as it should
pub given_with : (U : ℕ → Option ℕ) {Z : ℕ → ℕ → Type 0} (t : ℕ) (u : Store) → StateIs (U t) (λ o. fate o (object u o)) t (task u t).state → Given U (λ v. v ≡ t) Z u → Given U NoneBut Z u
given_with U t u y k =
    record {
      sized = k.sized;
      fates = k.fates;
      states = λ v l n. states-by v l (ℕ_discrete v t);
      holders = k.holders;
      low = k.low;
      unborn = k.unborn;
      slots = k.slots;
    }
  where
    states-by : (v : ℕ) → v < task_limit → Dec (v ≡ t) → StateIs (U v) (λ o. fate o (object u o)) v (task u v).state
    states-by v l (yes d) = subst (λ (m : ℕ). StateIs (U m) (λ o. fate o (object u o)) m (task u m).state) (sym d) y
    states-by v l (no ne) = k.states v l ne

-- a running task waits for nothing
pub given-free : (W U : ℕ → Option ℕ) (t : ℕ) (u : Store) → ((v : ℕ) → (v ≡ t → ⊥) → U v ≡ W v) → U t ≡ none → (task u t).state ≡ TaskState.Running → Given W NoneBut NoneYet u → Given U NoneBut NoneYet u
given-free W U t u e n r k =
    given_with U t u (subst (StateIs (U t) (λ o. fate o (object u o)) t) (sym r) (λ o q. absurd_some (sym n ∙ q))) (rewait W U t u e (λ o q. absurd_some (sym n ∙ q)) (λ l. n) k)

-- what the task that goes on is told
abbrev pub StayTells : Fate → How → Type 0
StayTells z (start c f) = ⊥
StayTells z (value v) = z ≡ ret v
StayTells z (raises e) = (z ≡ err e) ⊎ (is_reuse e ≡ true)
StayTells z (inline c) = Unit {0}

-- ---- task t awaits object o; U is W with that

module _ (W U : ℕ → Option ℕ) (t o : ℕ) (here : U t ≡ some o) (other : (v : ℕ) → (v ≡ t → ⊥) → U v ≡ W v) (low : o < object_limit) (tlow : t < task_limit) where
  abbrev K : Store → Type 0
  K u = Given W NoneBut NoneYet u

  pub data AwaitGiven (x : Awaited) : Type 0 where
    stayed : (h : How) → K x.store → (task x.store t).state ≡ TaskState.Running → StayTells (fate o (object x.store o)) h → x.control ≡ runs t h → AwaitGiven x
    switches : (y : Switched) → Left U y → x.store ≡ y.store → x.control ≡ y.control → AwaitGiven x

  -- it blocks
  blocks-given : (u : Store) → t < (header u).next → (task u t).state ≡ TaskState.Running → Given W NoneBut (Takes t o) u → fate o (object u o) ≡ held t
      → Given U NoneBut NoneYet (add_log (set_state u t (TaskState.Blocked (heap_id o))) (blocked t))
  blocks-given u b r k h = log-given U _ (blocked t) (record {
    sized = k2.sized;
    fates = k2.fates;
    states = k2.states;
    holders = λ p v e l. holders-by p v (k2.holders p v e l);
    low = k2.low;
    unborn = k2.unborn;
    slots = k2.slots;
  })
    where
      x : TaskState
      x = TaskState.Blocked (heap_id o)

      k1 : Given U (λ v. v ≡ t) (Takes t o) u
      k1 =
          rewait W U t u other (λ p q. subst (λ (m : ℕ). Awaits t (fate m (object u m))) (some-injective o p (sym here ∙ q)) (subst (Awaits t) (sym h) refl)) (λ l. absurd (not-suc-le-zero {n = 0} (omega (arith, b, l)))) k

      was-takes : (p : ℕ) → (blocked_on (task u t).state ≡ some p) ⊎ Takes t o p t → Takes t o p t
      was-takes p (inl q) = absurd_some (sym (ap blocked_on r ∙ (unfold blocked_on in refl)) ∙ q)
      was-takes p (inr q) = q

      k2 : Given U NoneBut (Takes t o) (set_state u t x)
      k2 = state_given U NoneBut u t x tlow low (λ n. (here, h)) (λ p e l. inr (was-takes p (k.holders p t e (ap is_live r)))) (λ v ne n e. ne e) k1

      row : (task (set_state u t x) t).state ≡ x
      row = unfold set_state in (ap (λ (y : Task). y.state) (task_put-task u t (restate (task u t) x) k.sized tlow fits) ∙ stated)
        where
          stated : (restate (task u t) x).state ≡ x
          stated = unfold restate in refl

          fits : TaskFits (restate (task u t) x)
          fits = unfold restate in (record { state_fits = low; awaiter_fits = (task-fits u t).awaiter_fits; coroutine_fits = (task-fits u t).coroutine_fits })

      holders-by : (p v : ℕ) → (blocked_on (task (set_state u t x) v).state ≡ some p) ⊎ Takes t o p v → (blocked_on (task (set_state u t x) v).state ≡ some p) ⊎ ⊥
      holders-by p v (inl q) = inl q
      holders-by p v (inr q) =
          inl (subst (λ (m : ℕ). blocked_on (task (set_state u t x) m).state ≡ some p) (sym q.1) (ap blocked_on row ∙ (blocked-here ∙ ap (λ (m : ℕ). some m) (sym q.0))))
        where
          blocked-here : blocked_on (TaskState.Blocked (heap_id o)) ≡ some o
          blocked-here = unfold blocked_on in refl

  record Runs (u : Store) : Type 0 where
    next : t < (header u).next
    state : (task u t).state ≡ TaskState.Running

  go-on-given : (m : ℕ) (u : Store) (p : Poll) → Runs u → Ended W t o u p → AwaitGiven (go_on t o m u p)
  unfolding go_on stays
  go-on-given m u (ready v) r k = stayed (value v) k.0 r.state k.1 refl
  go-on-given m u (raised e) r k = stayed (raises e) k.0 r.state (inl k.1) refl
  go-on-given m u pending r k =
      switches (resume_next activate (add_log (set_state u t (TaskState.Blocked (heap_id o))) (blocked t))) (resume-left U _ (blocks-given u r.next r.state k.0 k.1)) refl refl

  module _ (s : Store) (next : t < (header s).next) (runs_now : (task s t).state ≡ TaskState.Running) (k : K s) where
    same_runs : Runs s
    same_runs = record { next = next; state = runs_now }

    put-runs : (x : Object) → Runs (put_object s o x)
    put-runs x =
        record {
          next = subst (λ h. t < h.next) (sym (header_put-object s o x)) next;
          state = unfold task put_object in (unfold task in runs_now);
        }

    -- an external
    external-given : (c : CallId) (x : ExternalFutureState) → object s o ≡ Object.ExternalFuture c x → AwaitGiven (await_external_future s t o c x)
    unfolding await_external_future await_external await_pending is_reuse go_on stays
    external-given c (ExternalFutureState.Pending Awaiter.Nobody r) e = go-on-given 0 (put_object s o y) pending (put-runs y) (takes, now)
      where
        y : Object
        y = Object.ExternalFuture c (ExternalFutureState.Pending (Awaiter.Task (task_id t)) r)

        loose_now : fate o (object s o) ≡ loose
        loose_now = ap (fate o) e ∙ (unfold fate holder in refl)

        held-now : fate o y ≡ held t
        held-now = unfold fate holder in refl

        now : fate o (object (put_object s o y) o) ≡ held t
        now = ap (fate o) (read_back s o y k.sized low) ∙ (fate_back o y tlow ∙ held-now)

        wider : Given W NoneBut (Takes t o) s
        wider =
            record {
              sized = k.sized;
              fates = k.fates;
              states = k.states;
              holders = λ p u q v. inl (none_yet (k.holders p u q v));
              low = k.low;
              unborn = k.unborn;
              slots = k.slots;
            }

        takes : Given W NoneBut (Takes t o) (put_object s o y)
        takes = unwaited_given W s o y low tlow (loose_unwaited W s o loose_now k) (λ u q. let d : u ≡ t = held-is u t (sym q ∙ held-now) in inr ((refl, d), subst (λ (m : ℕ). m < (header s).next) (sym d) next)) wider
    external-given c (ExternalFutureState.Pending (Awaiter.Task u) r) e = stayed (raises Error.FutureReuse) k runs_now (inr refl) refl
    external-given c (ExternalFutureState.Pending (Awaiter.GatherSlot g u) r) e = stayed (raises Error.FutureReuse) k runs_now (inr refl) refl
    external-given c (ExternalFutureState.Resolved v) e = go-on-given 0 s (ready v) same_runs (k, ap (fate o) e ∙ (unfold fate in refl))
    external-given c (ExternalFutureState.Failed v) e = go-on-given 0 s (raised v) same_runs (k, ap (fate o) e ∙ (unfold fate in refl))

    -- the task's row stays in a commit
    commit-runs : (a : Awaiter) → Runs (commit_gather_tree s o a).store
    commit-runs a =
        let y : Row t (task s t) (header s).moment (commit_gather_tree s o a).store = commit_kept (Row t (task s t) (header s).moment) (row_commits t (task s t) (header s).moment) s o a low (record { sized = k.sized; low = next; row = refl; moment = refl }) in
        record { next = y.low; state = ap (λ (r : Task). r.state) y.row ∙ runs_now }

    await-by : (x : Object) → object s o ≡ x → (x ≡ Object.Unmade → ⊥) → AwaitGiven (await_object s t o x)
    unfolding await_object await_coroutine await_gather stays is_reuse
    await-by Object.Unmade e m = absurd (m refl)
    await-by (Object.Coroutine f CoroutineState.New) e m =
        stayed (inline o)
        (unwaited_given W s o (Object.Coroutine f CoroutineState.Running) low tt (loose_unwaited W s o (ap (fate o) e ∙ (unfold fate in refl)) k) (λ v q. not-held v (fate o (Object.Coroutine f CoroutineState.Running)) (unfold fate in tt) q) k) (put-runs _).state tt refl
    await-by (Object.Coroutine f CoroutineState.Running) e m = stayed (raises Error.CoroutineReuse) k runs_now (inr refl) refl
    await-by (Object.Coroutine f CoroutineState.Completed) e m = stayed (raises Error.CoroutineReuse) k runs_now (inr refl) refl
    await-by (Object.ExternalFuture c x) e m = external-given c x e
    await-by (Object.GatherFuture f n GatherState.Pending) e m =
        go-on-given _ _ _ (commit-runs _) (commit_given W t o low (loose_unwaited W s o (ap (fate o) e ∙ (unfold fate in refl)) k) s f n e next tlow k)
    await-by (Object.GatherFuture f n (GatherState.Awaited a j)) e m = stayed (raises Error.GatherReuse) k runs_now (inr refl) refl
    await-by (Object.GatherFuture f n GatherState.Completed) e m = stayed (value (Value.List (heap_id o))) k runs_now (ap (fate o) e ∙ (unfold fate in refl)) refl
    await-by (Object.GatherFuture f n (GatherState.Failed x)) e m = stayed (raises x) k runs_now (inl (ap (fate o) e ∙ (unfold fate in refl))) refl

    -- the running task awaits an object that is made
    pub await-given : (object s o ≡ Object.Unmade → ⊥) → AwaitGiven (exec_get_awaitable s t o)
    unfolding exec_get_awaitable
    await-given m = await-by (object s o) refl m
