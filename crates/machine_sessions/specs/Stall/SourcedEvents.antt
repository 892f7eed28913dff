-- `Sourced` through each event but cancel, until the end; of a commit it is asked.
use Rattle.std.specs.Prelude.{◌≡◌, Bool, ◌||◌, List, [], ◌∷◌, ltb, length}
use Rattle.std.proofs.Math.Path.{refl, ap}
use Rattle.std.proofs.Common.{sym, subst, ◌∙◌, true≢false, not-suc-le-zero, arith, eqb-true, ne_eqb, leb-false, ltb-false}
use Rattle.std.proofs.Math.Bool.{true, false}
use Rattle.std.proofs.Math.Option.{Option, none, some, some-injective}
use Prim.Native.Nat.{ℕ, zero, suc, ◌+◌, ◌≤◌, ◌<◌}
use Rattle.std.proofs.Math.Decide.{ℕ_discrete}
use Rattle.std.proofs.Math.Dec.{T, eqb}
use Rattle.asyncio.specs.declared.CallId.{CallId}
use Rattle.asyncio.specs.declared.Value.{Value}
use Rattle.asyncio.specs.declared.Error.{Error}
use Rattle.asyncio.specs.declared.TaskState.{TaskState}
use Rattle.asyncio.specs.declared.Task.{Task}
use Rattle.asyncio.specs.declared.Awaiter.{Awaiter}
use Rattle.asyncio.specs.declared.CoroutineState.{CoroutineState}
use Rattle.asyncio.specs.declared.ExternalFutureState.{ExternalFutureState}
use Rattle.asyncio.specs.declared.GatherState.{GatherState}
use Rattle.asyncio.specs.declared.Object.{Object}
use Rattle.asyncio.specs.declared.Moment.{Moment}
use Rattle.asyncio.specs.declared.Header.{Header}
use Rattle.asyncio.specs.Limits.{object_limit, task_limit}
use Rattle.asyncio.specs.Numbers.{heap_id, task_id}
use Rattle.asyncio.specs.Ranges.{ObjectFits, ErrorFits, AwaiterFits}
use Rattle.asyncio.specs.Layout.{to_value, to_error}
use Rattle.asyncio.specs.States.{pick, is_live, is_blocked}
use Rattle.asyncio.specs.Kinds.{kind, is_completed}
use Rattle.machine.specs.Store.{Store, LogEntry, view, task, object, place, header, put_object, put_task, put_queue, add_log, set_state, exited, blocked, absent}
use Rattle.machine.specs.Scheduler.{AwaitedGather, PendingExternal, as_awaited, as_pending, pending_external, remove_from_ready_queue, remove_task}
use Rattle.machine.specs.Delivery.{Delivery, value_or, resolve_pending, fail_pending, settle_pending, settle_found, resolve_future, fail_future, deliver_awaiter_success, deliver_awaiter_failure}
use Rattle.machine.specs.Events.{Result, activate, completed, handle_task_completion, handle_task_failure, apply_result, apply_future_results}
use Rattle.machine.specs.Sound.{value_known, runs_now}
use Rattle.machine_laws.specs.Views.{Sized}
use Rattle.machine_laws.specs.Facts.{Open, Slotted, Nothing}
use Rattle.machine_laws.specs.StoreLaws.{header-fits, header_put-object, object_put-object, object_put-other, object-fits, task-fits, task_put-other, live-put_task, sized-put_object}
use Rattle.machine_laws.specs.DeliveryLaws.{absurd_some}
use Rattle.machine_laws.specs.MakingLaws.{value-fits}
use Rattle.machine_theorems.specs.Soundness.Stores.{idle, SoundDuring, SoundStore, during_of}
use Rattle.machine_theorems.specs.Soundness.Fill.{DeliveringValue}
use Rattle.machine_theorems.specs.Soundness.Exits.{runner_low, runner-runs, runner-live, others_commits_none, completion_delivering, completion_delivery_ends}
use Rattle.machine_theorems.specs.Soundness.Cycle.{spawned_of, coroutine-is}
use Rattle.machine_theorems.specs.Soundness.Results.{low, resolve_delivering, fail_delivering, MayApply, AllApply, host_fits, result_keeps}
use Rattle.machine_laws.specs.DeliveryLaws.{pending-object}
use Rattle.machine_theorems.specs.Panics.NoPanicWoken.{success_activated}
use Rattle.machine_sessions.specs.Stall.NoStall.{Source, by_external, by_gather, by_nobody, by_task, Roots, root, above, Sourced, sourced_like}
use Rattle.machine_sessions.specs.Stall.SourcedPlan.{SourcedBut, OnWay, but_of, all_of, but_same}
use Rattle.machine_sessions.specs.Stall.SourcedClimb.{failure_sourced, apart}
use Rattle.machine_sessions.specs.Stall.SourcedFill.{success_sourced}
use Rattle.machine_sessions.specs.Stall.SourcedCycle.{removed_but, plain_sourced, state_sourced, exit_sourced, fails_sourced, activate_sourced}

-- ---- an external settles: its own place is on its way

pub external_sourced : {G : ℕ → Type 0} (s : Store) (o : ℕ) (p : PendingExternal) (x : Object) → Sized s → o < object_limit → ObjectFits x → as_pending (object s o) ≡ some p → as_awaited x ≡ none → Sourced G s
    → SourcedBut G (OnWay p.awaiter o) (put_object s o x)
external_sourced {G} s o p x z low fits was xa k =
    record {
      sources = λ g q w l e op n. still g q n (k.sources g q w (subst (λ (h : Header). g < h.made) (header_put-object s o x) l) (before g w e)
          (record { at = op.at; under = op.under; is_open = op.is_open; names = unfold place put_object in op.names }));
      rising = λ v g y t l lv a r. k.rising v g y t (subst (λ (h : Header). v < h.next) (header_put-object s o x) l) (unfold task put_object in lv) (unfold task put_object in a) (roots-was r);
    }
  where
    u : Store
    u = put_object s o x

    before : (g : ℕ) (w : AwaitedGather) → as_awaited (object u g) ≡ some w → as_awaited (object s g) ≡ some w
    before g w e = by (ℕ_discrete g o)
      where
        by : Dec (g ≡ o) → as_awaited (object s g) ≡ some w
        by (yes q) = absurd_some (sym xa ∙ (sym (ap as_awaited (object_put-object s o x z low fits)) ∙ subst (λ (m : ℕ). as_awaited (object u m) ≡ some w) q e))
        by (no ne) = sym (ap as_awaited (object_put-other s o g x ne)) ∙ e

    roots-was : {g t : ℕ} → Roots u g t → Roots s g t
    roots-was (root g t w e a) = root g t w (before g w e) a
    roots-was (above g t j y w e a q) = above g t j y w (before g w e) a (roots-was q)

    still : (g q : ℕ) → (OnWay p.awaiter o g q → ⊥) → Source G s g q → Source G u g q
    still g q n (by_external y e a) = by (ℕ_discrete q o)
      where
        by : Dec (q ≡ o) → Source G u g q
        by (yes d) =
            let same : p ≡ y = some-injective p y (sym was ∙ subst (λ (m : ℕ). as_pending (object s m) ≡ some y) d e) in
            absurd (n (ap (λ (j : PendingExternal). j.awaiter) same ∙ (a ∙ ap (λ (m : ℕ). Awaiter.GatherSlot (heap_id g) (heap_id m)) d), d))
        by (no ne) = by_external y (ap as_pending (object_put-other s o q x ne) ∙ e) a
    still g q n (by_gather v e a) = by_gather v (ap as_awaited (object_put-other s o q x (λ d. apart (object s o) p v was (subst (λ (m : ℕ). as_awaited (object s m) ≡ some v) d e))) ∙ e) a
    still g q n (by_nobody j) = by_nobody j
    still g q n (by_task t l lv a) = by_task t (subst (λ (h : Header). t < h.next) (sym (header_put-object s o x)) l) (unfold task put_object in lv) (unfold task put_object in a)

-- ---- results

module _ (G : ℕ → Type 0) {r : ℕ → Bool} {D : ℕ → Type 0} {hd : Header} (s : Store) (h : SoundDuring Nothing r D hd s) (k : Sourced G s) where
  found-sourced : (c : ℕ) (f : ℕ → PendingExternal → Store) → ((o : ℕ) (p : PendingExternal) → o < (header s).made → as_pending (object s o) ≡ some p → Sourced G (f o p)) → Sourced G (settle_found s (pending_external s c) f)
  found-sourced c f g = by (pending_external s c) refl
    where
      at : (o : ℕ) → o < (header s).made → (p : Option PendingExternal) → as_pending (object s o) ≡ p → Sourced G (settle_pending s p (f o))
      at o l none e = unfold settle_pending in k
      at o l (some p) e = unfold settle_pending in (g o p l e)

      by : (o : Option ℕ) → pending_external s c ≡ o → Sourced G (settle_found s o f)
      by none e = unfold settle_found in k
      by (some o) e = unfold settle_found in (at o (low s h c o e) (as_pending (object s o)) refl)

  call_fits : (o : ℕ) (p : PendingExternal) → as_pending (object s o) ≡ some p → ObjectFits (Object.ExternalFuture p.call (ExternalFutureState.Pending p.awaiter p.stored))
  call_fits o p e = subst ObjectFits (pending-object (object s o) p e) (object-fits s o)

  resolve-sourced : (c : ℕ) (v : Value) → T (value_known (header s).made (object s) v) → Sourced G (resolve_future s c v)
  unfolding resolve_future resolve_pending view
  resolve-sourced c v g =
      found-sourced c _ (λ o p l e.
      let i = resolve_delivering s h v g o p l e in
      let m : o < object_limit = omega (arith, l, (header-fits s).made_fits) in
      success_sourced _ r D hd _ o p.awaiter (value_or p.stored v) i
      (external_sourced s o p _ h.kept.memory.sized m ((call_fits o p e).0, value-fits _ _ _ i.during.kept.but.fits.made_fits i.known) e (unfold as_awaited in refl) k))

  fail-future-sourced : (c : ℕ) (x : Error) → ErrorFits x → Sourced G (fail_future s c x)
  unfolding fail_future fail_pending
  fail-future-sourced c x f =
      found-sourced c _ (λ o p l e.
      let i = fail_delivering s h x f o p l e in
      let m : o < object_limit = omega (arith, l, (header-fits s).made_fits) in
      failure_sourced _ r D hd x f _ o p.awaiter i (external_sourced s o p _ h.kept.memory.sized m ((call_fits o p e).0, f) e (unfold as_awaited in refl) k))

  result-sourced : (x : Result) → MayApply hd.made D x → Sourced G (apply_result s x)
  unfolding apply_result
  result-sourced x m = by (eqb x.kind 0) refl (eqb x.kind 1) (eqb x.kind 2) (eqb x.kind 3)
    where
      by : (a : Bool) → eqb x.kind 0 ≡ a → (b c d : Bool) → Sourced G (pick a (resolve_future s x.call (to_value x.tag x.number))
          (pick b (fail_future s x.call (to_error 0 x.number)) (pick c s (pick d (fail_future s x.call Error.NotFound) (fail_future s x.call Error.ModuleFile)))))
      by true e b c d =
          resolve-sourced x.call (to_value x.tag x.number)
          (subst (λ (y : Header). T (value_known y.made (object s) (to_value x.tag x.number))) (sym h.head) (m (eqb-true x.kind 0 e) (object s) h.done))
      by false e true c d = fail-future-sourced x.call (to_error 0 x.number) (host_fits x.number)
      by false e false true d = k
      by false e false false true = fail-future-sourced x.call Error.NotFound tt
      by false e false false false = fail-future-sourced x.call Error.ModuleFile tt

pub results_sourced : {G : ℕ → Type 0} {r : ℕ → Bool} {D : ℕ → Type 0} {hd : Header} (xs : List Result) (s : Store) → AllApply hd.made D xs → SoundDuring Nothing r D hd s → Sourced G s → Sourced G (apply_future_results s xs)
unfolding apply_future_results AllApply
results_sourced [] s a h k = k
results_sourced (x ∷ xs) s a h k = results_sourced xs (apply_result s x) a.1 (result_keeps s x a.0 h) (result-sourced _ s h k x a.0)

-- ---- a failure of the running task

module _ (G : ℕ → Type 0) (s : Store) (h : SoundStore s) (k : Sourced G s) where
  pub failed_sourced : (t : ℕ) (e : Error) → (header s).moment ≡ Moment.Running (task_id (suc t)) → ErrorFits e → Sourced G (handle_task_failure activate s (suc t) e).store
  failed_sourced t e m f =
      fails_sourced _ (λ o. T (is_completed (kind (object s o)))) (header s) activate (activate_sourced _ (λ o. T (is_completed (kind (object s o)))) (header s)) s t e (runs_now (header s).moment) f
      (runner_low s (suc t) h m) (runner-live s (suc t) h m) (ap is_blocked (runner-runs s (suc t) h m)) (others_commits_none s (suc t) h m) (during_of s h) k

  -- ---- a completion

  pub complete_sourced : (t : ℕ) (v : Value) → (header s).moment ≡ Moment.Running (task_id (suc t)) → T (value_known (header s).made (object s) v) → Sourced G (handle_task_completion s (suc t) v).store
  unfolding handle_task_completion view
  complete_sourced t v m kn =
      exit_sourced _ D0 (header s) activate (activate_sourced _ D0 (header s)) (deliver_awaiter_success left a v) (completion_delivery_ends s t v h m kn)
      (success_activated left a v delivers_on.during.kept.memory.sized (task-fits s (suc t)).awaiter_fits (value-fits (header s).made (object s) v h.facts.but.fits.made_fits kn))
      (success_sourced _ idle D0 (header s) left o a v delivers_on but)
    where
      D0 : ℕ → Type 0
      D0 o = T (is_completed (kind (object s o)))

      o : ℕ
      o = (task s (suc t)).coroutine.0

      a : Awaiter
      a = (task s (suc t)).awaiter

      done : Store
      done = put_object s o (completed (object s o))

      left : Store
      left = add_log (remove_task done (suc t)) (exited (suc t))

      delivers_on : DeliveringValue idle D0 (header s) o v left a
      delivers_on = completion_delivering s t v h m kn

      live : T (is_live (task s (suc t)).state)
      live = runner-live s (suc t) h m

      done-sourced : Sourced G done
      done-sourced = by (coroutine-is (object s o) (spawned_of t h.facts.but (runner_low s (suc t) h m) live).coroutine)
        where
          by : (f : ℕ) × (y : CoroutineState) × (object s o ≡ Object.Coroutine f y) → Sourced G done
          by x =
              let e : object s o ≡ Object.Coroutine x.0 x.1 = x.2 in
              plain_sourced s o (completed (object s o)) h.memory.sized (task-fits s (suc t)).coroutine_fits
              (subst ObjectFits (sym (ap completed e ∙ is-done x.0 x.1)) (subst ObjectFits e (object-fits s o))) (ap as_pending e ∙ (unfold as_pending in refl)) (ap as_awaited e ∙ (unfold as_awaited in refl))
              (ap (λ (j : Object). as_awaited (completed j)) e ∙ none-awaited x.0 x.1) k
            where
              is-done : (f : ℕ) (y : CoroutineState) → completed (Object.Coroutine f y) ≡ Object.Coroutine f CoroutineState.Completed
              is-done f y = unfold completed in refl

              none-awaited : (f : ℕ) (y : CoroutineState) → as_awaited (completed (Object.Coroutine f y)) ≡ none
              none-awaited f y = unfold completed as_awaited in refl

      but : SourcedBut G (OnWay a o) left
      but =
          removed_but done (suc t) (exited (suc t)) (sized-put_object s o _ h.memory.sized) (omega (arith, runner_low s (suc t) h m, (header-fits s).next_fits))
          (λ g p w e b. own g p (unfold task put_object in b)) done-sourced
        where
          own : (g p : ℕ) → (task s (suc t)).awaiter ≡ Awaiter.GatherSlot (heap_id g) (heap_id p) → OnWay a o g p
          own g p b =
              let q : p ≡ o = (h.facts.but.task_slots (suc t) (runner_low s (suc t) h m) live g p b).own in
              (b ∙ ap (λ (j : ℕ). Awaiter.GatherSlot (heap_id g) (heap_id j)) q, q)

-- ---- an external takes an awaiter; a task blocks

pub takes_sourced : {G : ℕ → Type 0} (s : Store) (o : ℕ) (p : PendingExternal) (x : Object) → Sized s → o < object_limit → ObjectFits x → as_pending (object s o) ≡ some p → p.awaiter ≡ Awaiter.Nobody → as_awaited x ≡ none → Sourced G s
    → Sourced G (put_object s o x)
takes_sourced s o p x z low fits was free xa k =
    let b = external_sourced s o p x z low fits was xa k in
    all_of _ (record { sources = λ g q w l e op n. b.sources g q w l e op (λ d. not-nobody g o (sym free ∙ d.0)); rising = b.rising })
  where
    not-nobody : (g o : ℕ) → Awaiter.Nobody ≡ Awaiter.GatherSlot (heap_id g) (heap_id o) → ⊥
    not-nobody g o q = let v : ◌≡◌ {A = ℕ} 0 1 = cc in omega arith

pub blocks_sourced : {G : ℕ → Type 0} (s : Store) (t o : ℕ) → Sized s → t < task_limit → o < object_limit → is_live (task s t).state ≡ true → Sourced G s → Sourced G (add_log (set_state s t (TaskState.Blocked (heap_id o))) (blocked t))
blocks_sourced {G} s t o z l m e k =
    let j : Sourced G (set_state s t (TaskState.Blocked (heap_id o))) = state_sourced s t (TaskState.Blocked (heap_id o)) z l m (sym e) k in
    sourced_like _ (set_state s t (TaskState.Blocked (heap_id o))) _ (λ p. unfold object add_log in refl) (λ v. unfold task add_log in refl) (λ p. unfold place add_log in refl) (unfold header add_log in refl) j
