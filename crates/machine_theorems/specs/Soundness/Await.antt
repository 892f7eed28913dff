-- The running task awaits a coroutine or an external; and it blocks.
use Rattle.std.specs.Prelude.{◌≡◌, ◌⊎◌, Bool, false, ℕ, ◌+◌, ◌≤◌, ◌<◌}
use Rattle.std.proofs.Math.Path.{refl, ap, subst}
use Rattle.std.proofs.Common.{sym, ◌∙◌, inl, inr, le_refl, arith, lt→ltb}
use Rattle.std.proofs.Math.Option.{none, some, some-injective}
use Rattle.std.proofs.Math.Decide.{ℕ_discrete}
use Rattle.std.proofs.Math.Dec.{T}
use Rattle.asyncio.specs.declared.CallId.{CallId}
use Rattle.asyncio.specs.declared.Task.{Task}
use Rattle.asyncio.specs.declared.TaskState.{TaskState}
use Rattle.asyncio.specs.declared.Awaiter.{Awaiter}
use Rattle.asyncio.specs.declared.CoroutineState.{CoroutineState}
use Rattle.asyncio.specs.declared.ExternalFutureState.{ExternalFutureState}
use Rattle.asyncio.specs.declared.Object.{Object}
use Rattle.asyncio.specs.declared.Header.{Header}
use Rattle.asyncio.specs.declared.Moment.{Moment}
use Rattle.asyncio.specs.Limits.{task_limit}
use Rattle.asyncio.specs.Ranges.{ObjectFits}
use Rattle.asyncio.specs.Numbers.{heap_id, task_id}
use Rattle.asyncio.specs.States.{is_live, is_running}
use Rattle.asyncio.specs.Kinds.{kind, is_coroutine, is_completed, is_committed}
use Rattle.asyncio.specs.Parts.{awaiter_of, count_of}
use Rattle.queue.specs.Queue.{entries}
use Rattle.machine.specs.Store.{Store, View, view, task, object, header, put_task, put_object, put_queue, add_log, set_state, restate, blocked}
use Rattle.machine.specs.Scheduler.{PendingExternal, as_awaited, as_pending, blocked_on}
use Rattle.machine.specs.Commit.{await_pending, await_external}
use Rattle.machine.specs.Events.{activate, stays, go_on, await_coroutine, await_external_future}
use Rattle.machine.specs.Sound.{awaiter_in_range, object_in_range, committed_places, items_below, object_values, state_values, object_filled, runs_now}
use Rattle.machine_laws.specs.Views.{update, with_object}
use Rattle.machine_laws.specs.Facts.{Slotted, Nothing}
use Rattle.machine_laws.specs.StoreLaws.{update_case, task-fits, object-fits, object_put-object, header_put-object, view-put_object}
use Rattle.machine_laws.specs.DeliveryLaws.{absurd_some, pending-object}
use Rattle.machine_laws.specs.MakingLaws.{nobody-task}
use Rattle.machine_theorems.specs.Soundness.ReadyTasks.{not-queued, queued-same}
use Rattle.machine_theorems.specs.Soundness.PutObject.{Fits}
use Rattle.machine_theorems.specs.Soundness.PutTask.{with_task_queue, Closes, TaskWrite}
use Rattle.machine_theorems.specs.Soundness.Stores.{Kept, Runs, idle, SoundDuring, SoundStore, object-kept, task-kept, view_task_queue, add_log-during, object-during, during_of, sound_store_during}
use Rattle.machine_theorems.specs.Soundness.Deliver.{restated_in_range, restated_fits}
use Rattle.machine_theorems.specs.Soundness.Cycle.{coroutine_fits, next_keeps, activate_keeps}
use Rattle.machine_theorems.specs.Soundness.Exits.{runner_low, runner-runs, others_commits_none, commits_none_on}

-- ---- the awaiting task blocks

-- task t, running, blocks on o, whose awaiter it is
module _ (s : Store) (t o : ℕ) (r : ℕ → Bool) (low : t < (header s).next) (run : (task s t).state ≡ TaskState.Running) (made : o < (header s).made) (c : Closes (view s) t o)
    (h : Kept 0 Nothing (λ p. p ≡ o) s) where
  abbrev row : Task
  row = restate (task s t) (TaskState.Blocked (heap_id o))

  was-live : T (is_live (task s t).state)
  was-live = rw run tt

  was_free : blocked_on (task s t).state ≡ none
  unfolding blocked_on
  was_free = ap blocked_on run

  block-fits : TaskWrite Nothing (λ p. p ≡ o) Nothing Nothing (view s) t row (entries s.queue)
  unfolding state_values blocked_on view restate
  block-fits =
      record {
        alive = λ z. was-live;
        awaiter = λ z. refl;
        coroutine = λ z. refl;
        range = λ z. restated_in_range (header s) (object s) t (task s t) (TaskState.Blocked (heap_id o)) was-live refl z;
        known = tt;
        queue = λ z. queued-same t row z (header s).next (le_refl _) (not-queued t (rw run) z);
        awaits = λ d p e.
            let q : o ≡ p = some-injective o p e in
            record {
              made = subst (λ (m : ℕ). m < (header s).made) q made;
              awaiter = subst (λ (m : ℕ). awaiter_of (object s m) ≡ Awaiter.Task (task_id t)) q c.awaiter;
            };
        awaited = λ l p z n e. at p z e (ℕ_discrete p o);
        in_commit = λ p n. closed p (ℕ_discrete p o);
        excepted = λ u d n z. z;
      }
    where
      at : (p : ℕ) → p < (header s).made → awaiter_of (object s p) ≡ Awaiter.Task (task_id t) → Dec (p ≡ o) → some o ≡ some p
      at p z e (yes q) = ap some (sym q)
      at p z e (no d) = absurd_some (sym was_free ∙ h.but.awaited p z d t e was-live)

      closed : (p : ℕ) → Dec (p ≡ o) → ((p ≡ o → ⊥) ⊎ Closes (view s) t p)
      closed p (yes q) = inr (subst (Closes (view s) t) (sym q) c)
      closed p (no d) = inl d

  pub block_keeps : {D : ℕ → Type 0} {hd : Header} → ((u : ℕ) → (u ≡ t → ⊥) → r u ≡ false) → Runs r (view s) → ((p : ℕ) → D p → T (is_completed (kind (object s p))))
      → header s ≡ hd → SoundDuring Nothing idle D hd (add_log (set_state s t (TaskState.Blocked (heap_id o))) (blocked t))
  unfolding set_state put_task put_queue
  block_keeps {D} {hd} still rn dn head = add_log-during (put_task s t row) during (blocked t)
    where
      room : t < task_limit
      room = unfold view in (omega (arith, low, h.but.fits.next_fits))

      now : Runs idle (with_task_queue (view s) t row (entries s.queue))
      now u l = unfold with_task_queue view restate in
          (update_case (task s) t row (λ (y : Task). is_running y.state ≡ false) u (λ q. refl) (λ d. rn u l ∙ still u d))

      during : SoundDuring Nothing idle D hd (put_queue (put_task s t row) s.queue)
      during =
          record {
            kept = task-kept s h t row s.queue low (restated_fits (task s t) (TaskState.Blocked (heap_id o)) (task-fits s t) (unfold view in (omega (arith, made, h.but.fits.made_fits))))
                h.memory.words_right.queue_short h.memory.ids block-fits;
            runs = subst (Runs idle) (sym (view_task_queue s h t row s.queue room (restated_fits (task s t) (TaskState.Blocked (heap_id o)) (task-fits s t) (unfold view in (omega (arith, made, h.but.fits.made_fits)))))) now;
            done = λ p d. unfold object put_task in (dn p d);
            head = unfold header put_task in head;
          }

-- ---- a pending external takes an awaiter

pub takes-fits : (k : ℕ) (Q Q' : ℕ → Type 0) (v : View) (o : ℕ) (p : PendingExternal) (a : Awaiter) → o < v.header.made → as_pending (v.objects o) ≡ some p
    → p.awaiter ≡ Awaiter.Nobody → T (awaiter_in_range v.header a)
    → ((Q' o → ⊥) → (t : ℕ) → a ≡ Awaiter.Task (task_id t) → T (is_live (v.tasks t).state) → blocked_on (v.tasks t).state ≡ some o)
    → ((Q' o → ⊥) → (g y : ℕ) → a ≡ Awaiter.GatherSlot (heap_id g) (heap_id y)
    → Slotted v.header.made (update v.objects o (Object.ExternalFuture p.call (ExternalFutureState.Pending a p.stored))) v.places o g y)
    → ((q : ℕ) → (q ≡ o → ⊥) → (Q' q → ⊥) → Q q → ⊥)
    → Fits k k Nothing Q Nothing Q' v o (Object.ExternalFuture p.call (ExternalFutureState.Pending a p.stored))
unfolding count_of committed_places kind items_below object_filled as_awaited as_pending object_in_range object_values awaiter_of
takes-fits k Q Q' v o p a l e free range awaited slot commit =
    let q = pending-object (v.objects o) p e in
    record {
      made = l;
      count = sym (ap count_of q);
      room = subst (λ (z : Object). committed_places z + k ≤ 0 + k) (sym q) (omega arith);
      coroutine = λ t. subst (λ (y : Object). T (is_coroutine (kind y))) q t;
      completed = λ t. subst (λ (y : Object). T (is_completed (kind y))) q t;
      committed = λ t. subst (λ (y : Object). T (is_committed (kind y))) q t;
      range = λ n t. subst (λ (y : Object). T (object_in_range v.header n y)) q t;
      awaiter = λ t. range;
      lower = λ t. tt;
      known = λ t. subst (λ (y : Object). T (object_values v.header.made v.objects y)) q t;
      call = λ b f. (p, e, ap (λ (u : PendingExternal). u.call.0) (sym (some-injective _ b f)));
      awaits = λ t z d b f. absurd (nobody-task (sym (ap awaiter_of q ∙ free) ∙ f));
      awaited = awaited;
      filled = λ n. tt;
      slot = slot;
      opens = λ w f. absurd_some f;
      excepted = λ t b z d f. inl (λ z. z);
      in_commit = commit;
    }

-- ---- the event `await`, of an external and of a coroutine

module _ (s : Store) (t : ℕ) (h : SoundStore s) (m : (header s).moment ≡ Moment.Running (task_id t)) where
  -- the running task waits for a pending external
  module _ (o : ℕ) (p : PendingExternal) (l : o < (header s).made) (e : as_pending (object s o) ≡ some p) (free : p.awaiter ≡ Awaiter.Nobody) where
    abbrev x : Object
    x = Object.ExternalFuture p.call (ExternalFutureState.Pending (Awaiter.Task (task_id t)) p.stored)

    fit : ObjectFits x
    unfolding view
    fit =
        let old : ObjectFits (Object.ExternalFuture p.call (ExternalFutureState.Pending p.awaiter p.stored)) = subst ObjectFits (pending-object (object s o) p e) (object-fits s o) in
        (old.0, (omega (arith, runner_low s t h m, h.facts.but.fits.next_fits), old.1.1))

    fits : Fits 0 0 Nothing Nothing Nothing (λ q. q ≡ o) (view s) o x
    unfolding view awaiter_in_range
    fits =
        takes-fits 0 Nothing (λ q. q ≡ o) (view s) o p (Awaiter.Task (task_id t)) l e free (lt→ltb t (header s).next (runner_low s t h m))
        (λ n. absurd (n refl)) (λ n. absurd (n refl)) (λ q d n z. z)

    abbrev next : Store
    next = put_object s o x

    kept : Kept 0 Nothing (λ q. q ≡ o) next
    kept = object-kept s (during_of s h).kept o x fit fits

    there : view next ≡ with_object (view s) o x
    unfolding view
    there = view-put_object s o x h.memory.sized (omega (arith, l, h.facts.but.fits.made_fits)) fit

    head : header next ≡ header s
    head = header_put-object s o x

    row-o : object next o ≡ x
    unfolding view
    row-o = object_put-object s o x h.memory.sized (omega (arith, l, h.facts.but.fits.made_fits)) fit

    closes : Closes (view next) t o
    unfolding view
    closes =
        record {
          awaiter = subst (λ (y : Object). awaiter_of y ≡ Awaiter.Task (task_id t)) (sym row-o) (unfold awaiter_of in refl);
          filled = subst (λ (y : Object). T (object_filled (view next).places y)) (sym row-o) (unfold object_filled in tt);
        }

    pub wait_external : SoundDuring Nothing idle (λ o. T (is_completed (kind (object s o)))) (header s) (add_log (set_state next t (TaskState.Blocked (heap_id o))) (blocked t))
    unfolding with_object view task put_object
    wait_external =
        block_keeps next t o (runs_now (header s).moment) (subst (λ (y : Header). t < y.next) (sym head) (runner_low s t h m)) (runner-runs s t h m)
        (subst (λ (y : Header). o < y.made) (sym head) l) closes kept (others_commits_none s t h m)
        (subst (Runs (runs_now (header s).moment)) (sym there) (during_of s h).runs)
        (λ q d. subst (λ (v : View). T (is_completed (kind (v.objects q)))) (sym there)
        (update_case (object s) o x (λ (y : Object). T (is_completed (kind y))) q (λ z. fits.completed (subst (λ (j : ℕ). T (is_completed (kind (object s j)))) z d)) (λ z. d)))
        head

  pub await_external_keeps : (o : ℕ) (c : CallId) (x : ExternalFutureState) → o < (header s).made → object s o ≡ Object.ExternalFuture c x
      → SoundStore (await_external_future s t o c x).store
  unfolding await_external_future go_on stays await_external await_pending as_pending
  await_external_keeps o c (ExternalFutureState.Pending Awaiter.Nobody r) l e =
      next_keeps (λ o. T (is_completed (kind (object s o)))) (header s) (commits_none_on s t h m) activate (activate_keeps _ (header s) (commits_none_on s t h m)) _
      (wait_external o (record { call = c; awaiter = Awaiter.Nobody; stored = r }) l (ap as_pending e) refl)
  await_external_keeps o c (ExternalFutureState.Pending (Awaiter.Task u) r) l e = h
  await_external_keeps o c (ExternalFutureState.Pending (Awaiter.GatherSlot g y) r) l e = h
  await_external_keeps o c (ExternalFutureState.Resolved v) l e = h
  await_external_keeps o c (ExternalFutureState.Failed v) l e = h

  pub await_coroutine_keeps : (o f : ℕ) (x : CoroutineState) → o < (header s).made → object s o ≡ Object.Coroutine f x → SoundStore (await_coroutine s t o f x).store
  unfolding await_coroutine stays view
  await_coroutine_keeps o f CoroutineState.New l e =
      sound_store_during (put_object s o (Object.Coroutine f CoroutineState.Running)) h.facts.runner
      (object-during s (during_of s h) o (Object.Coroutine f CoroutineState.Running) (subst ObjectFits e (object-fits s o))
      (coroutine_fits (view s) o f CoroutineState.New CoroutineState.Running l e))
  await_coroutine_keeps o f CoroutineState.Running l e = h
  await_coroutine_keeps o f CoroutineState.Completed l e = h
