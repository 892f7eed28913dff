-- Each event keeps what has happened and the tasks' rows alike.
use Rattle.std.specs.Prelude.{◌≡◌, Bool, false, ◌||◌, T, eqb, leb}
use Rattle.std.proofs.Math.Path.{refl}
use Rattle.std.proofs.Common.{sym, ap, subst, ◌∙◌, arith, ltb-false}
use Rattle.std.proofs.Math.Bool.{true}
use mathlib.Core.List.{List, [], ◌∷◌}
use Prim.Native.Nat.{ℕ, zero, suc, ◌+◌, ◌≤◌, ◌<◌}
use Rattle.std.proofs.Math.Nat.{not-suc-le-zero}
use Rattle.std.proofs.Math.Dec.{ltb}
use Rattle.std.proofs.Math.ListN.{length}
use Rattle.std.proofs.Math.Option.{some}
use Rattle.asyncio.specs.declared.Value.{Value}
use Rattle.asyncio.specs.declared.Error.{Error}
use Rattle.std.specs.Prelude.{None}
use Rattle.asyncio.specs.declared.TaskState.{TaskState}
use Rattle.asyncio.specs.declared.Task.{Task}
use Rattle.asyncio.specs.declared.Awaiter.{Awaiter}
use Rattle.asyncio.specs.declared.Object.{Object}
use Rattle.asyncio.specs.declared.Header.{Header}
use Rattle.asyncio.specs.declared.Moment.{Moment}
use Rattle.asyncio.specs.Limits.{object_limit, item_limit, place_limit, call_limit, task_limit}
use Rattle.asyncio.specs.Numbers.{heap_id, task_id}
use Rattle.asyncio.specs.Ranges.{HeaderFits}
use Rattle.asyncio.specs.RangeLaws.{pick_has}
use Rattle.asyncio.specs.States.{pick, is_live}
use Rattle.machine.specs.Store.{Store, view, task, object, header, put_task, put_header, put_object, put_place, set_calls, add_object, add_log, spawned, exited}
use Rattle.machine.specs.Scheduler.{live, pending_call_ids, remove_task, spawn_as}
use Rattle.machine.specs.Delivery.{deliver_awaiter_success}
use Rattle.machine.specs.Events.{exec_get_awaitable, Switched, activate, resume_next, resume_after_task_exit, completed, handle_task_completion, handle_task_failure, make_coroutine, make_pending, make_settled, put_items, make_gather}
use Rattle.machine.specs.Machine.{Event, Step, switched, answer_await, end_main, task_completes, task_fails, runner, repeat_wait, resume_with_resolved_futures, refusals, refusal, full, no_number, accept}
use Rattle.machine_laws.specs.Views.{Sized}
use Rattle.machine_laws.specs.StoreLaws.{header-fits, header_put-header, header_put-object, task-fits, sized-put_object, sized-put_place, sized-put_header, sized-set_calls, sized-add_object}
use Rattle.machine_laws.specs.MakingLaws.{items-sized}
use Rattle.machine_laws.specs.SoundLaws.{pass, running-rest, refusal-rest, has_number, not_full}
use Rattle.machine_laws.specs.TestLaws.{or_left, or_right}
use Rattle.machine_theorems.specs.Soundness.Stores.{SoundStore}
use Rattle.machine_theorems.specs.Soundness.Exits.{runner_low, runner-live}
use Rattle.machine_theorems.specs.Soundness.Preserved.{running, await-made}
use Rattle.machine_theorems.specs.Soundness.RowFacts.{items-header}
use Rattle.machine_laws.specs.Walk.{Commits, Closed, await-kept, fail-kept, completion_kept, resume-kept, cancel-kept, cleanup-kept, results-kept}
use Rattle.machine_sessions.specs.Queue.Tracked.{Tracked, like, live_like, live-is, live_low, live-other, place-live, spawn-row, spawn-next, row_tracked, exits_tracked, blocks_tracked, tracked_commits, tracked_closed}

pub items-tasks : (os : List ℕ) (s : Store) (p t : ℕ) → task (put_items s p os) t ≡ task s t
unfolding put_items task put_place
items-tasks [] s p t = refl
items-tasks (o ∷ os) s p t = items-tasks os (put_place s p (record { item = heap_id o; result = None })) (p + 1) t

pub items-log : (os : List ℕ) (s : Store) (p : ℕ) → (put_items s p os).log ≡ s.log
unfolding put_items put_place
items-log [] s p = refl
items-log (o ∷ os) s p = items-log os (put_place s p (record { item = heap_id o; result = None })) (p + 1)

true-is : (b : Bool) → T b → b ≡ true
true-is true h = refl
true-is false h = absurd h

module _ (l b : ℕ → Bool) where
  -- an object is made
  add-tracked : (s : Store) (r : Object) (n : ℕ) → (header s).made < object_limit → (header s).used + n ≤ place_limit → Tracked l b s → Tracked l b (add_object s r n)
  unfolding add_object
  add-tracked s r n m u k =
      like l b s _ (sized-put_object _ _ r (sized-put_header s i k.sized)) (unfold put_object put_header in refl)
      (ap (λ (h : Header). h.next) (header_put-object (put_header s i) (header s).made r ∙ header_put-header s i k.sized fits)) (λ t. unfold task put_object put_header in refl) k
    where
      i : Header
      i = record { made = (header s).made + 1; used = (header s).used + n; calls = (header s).calls; next = (header s).next; moment = (header s).moment }

      fits : HeaderFits i
      fits = let f : HeaderFits (header s) = header-fits s in record { made_fits = omega arith; used_fits = u; calls_fit = f.calls_fit; next_fits = f.next_fits; moment_fits = f.moment_fits }

  -- a call is handed out
  module _ (s : Store) (k : Tracked l b s) (c : (header s).calls < call_limit) where
    one_more : Header
    one_more = record { made = (header s).made; used = (header s).used; calls = (header s).calls + 1; next = (header s).next; moment = (header s).moment }

    more : header (set_calls s ((header s).calls + 1)) ≡ one_more
    unfolding set_calls one_more
    more =
        let f : HeaderFits (header s) = header-fits s in
        header_put-header s _ k.sized (record { made_fits = f.made_fits; used_fits = f.used_fits; calls_fit = omega arith; next_fits = f.next_fits; moment_fits = f.moment_fits })

    calls-tracked : Tracked l b (set_calls s ((header s).calls + 1))
    unfolding one_more
    calls-tracked =
        like l b s _ (sized-set_calls s _ k.sized) (unfold set_calls put_header in refl) (ap (λ (h : Header). h.next) more) (λ t. unfold task set_calls put_header in refl) k

    settled-tracked : (v : Value) → (header s).made < object_limit → Tracked l b (make_settled s v)
    unfolding make_settled one_more
    settled-tracked v m =
        add-tracked (set_calls s ((header s).calls + 1)) _ 0 (subst (λ (y : Header). y.made < object_limit) (sym more) m)
        (subst (λ (y : Header). y.used + 0 ≤ place_limit) (sym more) (omega (arith, (header-fits s).used_fits))) calls-tracked

  gather-tracked : (s : Store) (os : List ℕ) → (header s).made < object_limit → (header s).used + length os ≤ place_limit → Tracked l b s → Tracked l b (make_gather s os)
  unfolding make_gather
  gather-tracked s os m u k =
      let hd : header (put_items s (header s).used os) ≡ header s = items-header os s (header s).used in
      add-tracked (put_items s (header s).used os) _ (length os) (subst (λ (y : Header). y.made < object_limit) (sym hd) m) (subst (λ (y : Header). y.used + length os ≤ place_limit) (sym hd) u)
      (like l b s _ (items-sized os s (header s).used k.sized) (items-log os s (header s).used) (ap (λ (h : Header). h.next) hd) (items-tasks os s (header s).used) k)

  -- ---- the running task

  -- it lives until it blocks
  Lives : ℕ → Store → Type 0
  Lives t s = Tracked l b s × (live s t ≡ true)

  lives_commits : (t : ℕ) → Commits (Lives t)
  unfolding Lives
  lives_commits t =
      record {
        row = λ s o x low y k. (row_tracked l b s o x k.0, live_like s (put_object s o x) t (ap (λ (h : Header). h.next) (header_put-object s o x)) (unfold task put_object in refl) ∙ k.1);
        value_put = λ s p v k. ((tracked_commits l b).value_put s p v k.0, place-live s p _ t ∙ k.1);
        spawns = λ s c g low k. ((tracked_commits l b).spawns s c g low k.0, stays s c g low k.0.sized k.1);
      }
    where
      stays : (s : Store) (c g : ℕ) → (header s).next < task_limit → Sized s → live s t ≡ true → live (spawn_as s (header s).next c g) t ≡ true
      stays s c g low z e =
          let ne : t ≡ (header s).next → ⊥ = λ q. not-suc-le-zero {n = 0} (omega (arith, (live_low s t e).0)) in
          live-other s (spawn_as s (header s).next c g) t (header s).next (spawn-next s (header s).next c g z low) refl ne
          (ap (λ (r : Task). is_live r.state) (spawn-row s (header s).next c g t ne)) ∙ e

  await-tracked : (s : Store) (t o : ℕ) → o < object_limit → live s t ≡ true → Tracked l b s → Tracked l b (exec_get_awaitable s t o).store
  unfolding Lives
  await-tracked s t o low e k = await-kept (Lives t) (Tracked l b) (lives_commits t) (tracked_closed l b) (λ u j. j.0) t o low (λ u j. blocks_tracked l b u t o j.1 j.0) s (k, e)

  -- ---- the end of a task

  complete-tracked : (s : Store) (t : ℕ) (v : Value) → Tracked l b s → Tracked l b (handle_task_completion s t v).store
  unfolding handle_task_completion
  complete-tracked s t v k =
      completion_kept (Tracked l b) (tracked_closed l b) _ (task s t).awaiter v (task-fits s t).awaiter_fits
      (exits_tracked l b _ t (row_tracked l b s (task s t).coroutine.0 (completed (object s (task s t).coroutine.0)) k))

  completes-tracked : (s : Store) (t : ℕ) (v : Value) → Tracked l b s → Tracked l b (task_completes s t v).store
  unfolding task_completes end_main switched
  completes-tracked s t v k =
      pick_has (λ (x : Step). Tracked l b x.store) (eqb t 0) (cleanup-kept (Tracked l b) (tracked_closed l b) s k) (complete-tracked s t v k)

  fails-tracked : (s : Store) (t : ℕ) (e : Error) → Tracked l b s → Tracked l b (task_fails s t e).store
  unfolding task_fails end_main switched
  fails-tracked s t e k =
      pick_has (λ (x : Step). Tracked l b x.store) (eqb t 0) (cleanup-kept (Tracked l b) (tracked_closed l b) s k) (fail-kept (Tracked l b) (tracked_closed l b) s t e k)

  resume-tracked : (s : Store) → Tracked l b s → Tracked l b (resume_with_resolved_futures s).store
  unfolding resume_with_resolved_futures switched
  resume-tracked s k = pick_has (λ (x : Step). Tracked l b x.store) (eqb s.queue.len 0) k (resume-kept (Tracked l b) (tracked_closed l b) s k)

  -- ---- each event

  -- no more places are used
  same_places : (s : Store) → (header s).used + 0 ≤ place_limit
  same_places s = omega (arith, (header-fits s).used_fits)

  pub accept_tracked : (s : Store) → SoundStore s → (e : Event) → refusal s e ≡ 0 → Tracked l b s → Tracked l b (accept s e).store
  unfolding accept refusals answer_await make_coroutine make_pending view
  accept_tracked s h (Event.coroutine f) r k =
      add-tracked s _ 0 (not_full s (pass 6 (full s) [] (running-rest s _ (refusal-rest s (Event.coroutine f) r))).0) (same_places s) k
  accept_tracked s h Event.call r k = calls-tracked s k (has_number s (pass 7 (no_number s) [] (running-rest s _ (refusal-rest s Event.call r))).0)
  accept_tracked s h (Event.pending d x) r k =
      add-tracked s _ 0 (not_full s (pass 6 (full s) [] (pass 5 _ _ (pass 4 _ _ (running-rest s _ (refusal-rest s (Event.pending d x) r))).1).1).0) (same_places s) k
  accept_tracked s h (Event.settled v) r k =
      let q = pass 6 (full s) _ (pass 4 _ _ (running-rest s _ (refusal-rest s (Event.settled v) r))).1 in
      settled-tracked s k (has_number s (pass 7 (no_number s) [] q.1).0) v (not_full s q.0)
  accept_tracked s h (Event.gather os) r k =
      let q = (pass 6 (full s || ltb item_limit (length os) || ltb place_limit ((header s).used + length os)) [] (pass 4 _ _ (running-rest s _ (refusal-rest s (Event.gather os) r))).1).0 in
      gather-tracked s os (not_full s (or_left (full s) (ltb item_limit (length os)) (or_left (full s || ltb item_limit (length os)) (ltb place_limit ((header s).used + length os)) q)))
      (ltb-false place_limit ((header s).used + length os) (or_right (full s || ltb item_limit (length os)) (ltb place_limit ((header s).used + length os)) q)) k
  accept_tracked s h (Event.await o) r k =
      let q = refusal-rest s (Event.await o) r in
      let m = running s h _ q in
      let t : ℕ = runner (header s).moment in
      let low : o < object_limit = omega (arith, await-made s h o q, (header-fits s).made_fits) in
      await-tracked s t o low (live-is s t (runner_low s t h m) (true-is (is_live (task s t).state) (runner-live s t h m))) k
  accept_tracked s h (Event.complete v) r k = completes-tracked s _ v k
  accept_tracked s h (Event.fail n) r k = fails-tracked s _ (Error.Script n) k
  accept_tracked s h (Event.results rs) r k = results-kept (Tracked l b) (tracked_closed l b) (λ u o p y low e j. row_tracked l b u o _ j) rs s k
  accept_tracked s h Event.resume r k = resume-tracked s k
  accept_tracked s h (Event.cancel t) r k = cancel-kept (Tracked l b) (tracked_closed l b) s t k
  accept_tracked s h (Event.show o) r k = k
  accept_tracked s h Event.eager r k = k
