-- In waiting every live task has started its coroutine: through every event but cancel.
use Rattle.std.specs.Prelude.{◌≡◌, Bool, true, ◌||◌, eqb}
use Rattle.std.proofs.Math.Path.{refl, ap}
use Rattle.std.proofs.Common.{sym, subst, ◌∙◌, true≢false, arith, ne_eqb, ltb-false}
use Rattle.std.proofs.Math.Bool.{false}
use mathlib.Core.List.{List, []}
use Prim.Native.Nat.{ℕ, zero, suc, ◌+◌, ◌≤◌, ◌<◌}
use Rattle.std.proofs.Math.Nat.{not-suc-le-zero}
use Rattle.std.proofs.Math.Decide.{ℕ_discrete}
use Rattle.std.proofs.Math.Dec.{T, ltb}
use Rattle.std.proofs.Math.ListN.{length}
use Rattle.asyncio.specs.declared.Value.{Value}
use Rattle.asyncio.specs.declared.Error.{Error}
use Rattle.asyncio.specs.declared.TaskState.{TaskState}
use Rattle.asyncio.specs.declared.Task.{Task}
use Rattle.asyncio.specs.declared.Object.{Object}
use Rattle.asyncio.specs.declared.Moment.{Moment}
use Rattle.asyncio.specs.declared.Header.{Header}
use Rattle.asyncio.specs.Limits.{object_limit, task_limit, item_limit, place_limit, call_limit, u32_limit}
use Rattle.asyncio.specs.Numbers.{task_id}
use Rattle.asyncio.specs.Ranges.{HeaderFits}
use Rattle.asyncio.specs.RangeLaws.{pick_has}
use Rattle.asyncio.specs.States.{is_ready, is_unstarted}
use Rattle.asyncio.specs.Kinds.{kind, is_completed}
use Rattle.queue.specs.Queue.{entries, occurrences}
use Rattle.machine.specs.Store.{Store, task, object, header, put_task, put_object, put_places, put_header, put_queue, add_log, restate, set_state, set_calls, add_object, reached}
use Rattle.machine.specs.Scheduler.{make_ready, push_ready}
use Rattle.machine.specs.Events.{Switched, Result, put_items, apply_future_results, make_coroutine, make_pending, make_settled, make_gather, wake_in_order}
use Rattle.machine.specs.Machine.{Event, Step, switched, answer_await, end_main, task_completes, task_fails, runner, resume_with_resolved_futures, refusals, refusal, full, no_number, accept}
use Rattle.machine.specs.Sound.{is_ended, value_known}
use Rattle.machine.specs.History.{says, nothing_said}
use Rattle.machine.specs.Sessions.{InRange}
use Rattle.machine_laws.specs.Views.{Sized}
use Rattle.machine_laws.specs.Facts.{Nothing}
use Rattle.machine_laws.specs.StoreLaws.{header-fits, header_put-header, header_put-object, task_put-other, sized-put_object, sized-put_places, sized-put_queue, sized-add_log, sized-set_state, sized-set_calls}
use Rattle.machine_laws.specs.MakingLaws.{items-sized}
use Rattle.machine_laws.specs.SoundLaws.{pass, running-rest, refusal-rest, has_number, not_full}
use Rattle.machine_laws.specs.TestLaws.{or_left, or_right}
use Rattle.machine_laws.specs.Walk.{Delivers, batch-kept}
use Rattle.machine_theorems.specs.Soundness.Stores.{SoundStore, during_of}
use Rattle.machine_theorems.specs.Soundness.Exits.{only_changes_of}
use Rattle.machine_theorems.specs.Soundness.Results.{results-keep}
use Rattle.machine_theorems.specs.Soundness.Preserved.{running, waiting, await-made, complete-known, results_apply}
use Rattle.machine_theorems.specs.Soundness.RowFacts.{items-header}
use Rattle.machine_sessions.specs.Places.Told.{unstarted_back}
use Rattle.machine_sessions.specs.Stall.Standing.{Stands, Right, not-waiting, resume-right}
use Rattle.machine_sessions.specs.Stall.StandingEvents.{complete-right, failed-right}
use Rattle.machine_sessions.specs.Stall.StandingAwait.{await-right, ends}

abbrev pub AllStarted : Store → Type 0
AllStarted s = (header s).moment ≡ Moment.Waiting → (t : ℕ) → t < (header s).next → is_unstarted (task s t).state ≡ false

unstarted-ready : (x : TaskState) → is_unstarted x ≡ true → is_ready x ≡ true
unstarted-ready TaskState.Absent e = absurd (true≢false (sym e))
unstarted-ready TaskState.Unstarted e = refl
unstarted-ready TaskState.Running e = absurd (true≢false (sym e))
unstarted-ready (TaskState.Woken v) e = refl
unstarted-ready (TaskState.Raised x) e = refl
unstarted-ready (TaskState.Blocked o) e = absurd (true≢false (sym e))

-- where nothing is ready, everything that lives has started
idle-started : (u : Store) → Stands Nothing u → ((header u).moment ≡ Moment.Waiting → entries u.queue ≡ []) → AllStarted u
unfolding occurrences
idle-started u st idle m t l = by (is_unstarted (task u t).state) refl
  where
    by : (b : Bool) → is_unstarted (task u t).state ≡ b → b ≡ false
    by true e = absurd (not-suc-le-zero {n = 0} (subst (λ (q : List ℕ). 1 ≤ occurrences q t) (idle m) (st.stands t l (unstarted-ready (task u t).state e) (λ z. z))))
    by false e = refl

right-started : (x : Switched) → Right x → AllStarted x.store
right-started x k = idle-started x.store k.stood k.idle

-- ---- a delivery starts nobody

record AsStarted (s u : Store) : Type 0 where
  sized : Sized u
  as_before : (t : ℕ) → is_unstarted (task s t).state ≡ false → is_unstarted (task u t).state ≡ false

as_started_delivers : (s : Store) → Delivers (AsStarted s)
as_started_delivers s =
    record {
      sized = λ u k. k.sized;
      row = λ u o x l y k. record { sized = sized-put_object u o x k.sized; as_before = λ t e. unfold task put_object in (unfold task in (k.as_before t e)) };
      values_put = λ u ps e k. record { sized = sized-put_places u ps e k.sized; as_before = λ t q. unfold task put_places in (unfold task in (k.as_before t q)) };
      wakes = λ u v x l b r n k.
          record {
            sized = unfold make_ready push_ready in (sized-add_log _ (reached v) (sized-put_queue _ _ (sized-set_state u v x k.sized)));
            as_before = λ t e. woken u v x l n k.sized t (k.as_before t e) (ℕ_discrete t v);
          };
    }
  where
    woken : (u : Store) (v : ℕ) (x : TaskState) → v < task_limit → is_unstarted x ≡ false → Sized u → (t : ℕ) → is_unstarted (task u t).state ≡ false → Dec (t ≡ v) → is_unstarted (task (add_log (make_ready u v x) (reached v)) t).state ≡ false
    woken u v x l n z t e d = same ∙ by d
      where
        w : Task
        w = restate (task u v) x

        is-w : is_unstarted w.state ≡ false
        is-w = unfold restate in n

        same : is_unstarted (task (add_log (make_ready u v x) (reached v)) t).state ≡ is_unstarted (task (put_task u v w) t).state
        same = unfold add_log make_ready push_ready put_queue set_state task in refl

        by : Dec (t ≡ v) → is_unstarted (task (put_task u v w) t).state ≡ false
        by (yes d) = subst (λ (m : ℕ). is_unstarted (task (put_task u v w) m).state ≡ false) (sym d) (unstarted_back u v w z l ∙ is-w)
        by (no ne) = ap (λ (y : Task). is_unstarted y.state) (task_put-other u v t w ne) ∙ e

-- ---- a task runs: not waiting

running-started : (u : Store) (t : ℕ) → (header u).moment ≡ Moment.Running (task_id t) → AllStarted u
running-started u t m q = not-waiting t (sym m ∙ q)

ended-started : (u : Store) → is_ended (header u).moment ≡ true → AllStarted u
ended-started u e q = absurd (true≢false (sym e ∙ (ap is_ended q ∙ (unfold is_ended in refl))))

add_moment : (s : Store) (r : Object) (n : ℕ) → Sized s → (header s).made < object_limit → (header s).used + n ≤ place_limit → (header (add_object s r n)).moment ≡ (header s).moment
unfolding add_object
add_moment s r n z m u =
    let f : HeaderFits (header s) = header-fits s in
    ap (λ (h : Header). h.moment) (header_put-object (put_header s i) (header s).made r
    ∙ header_put-header s i z (record { made_fits = omega arith; used_fits = u; calls_fit = f.calls_fit; next_fits = f.next_fits; moment_fits = f.moment_fits }))
  where
    i : Header
    i = record { made = (header s).made + 1; used = (header s).used + n; calls = (header s).calls; next = (header s).next; moment = (header s).moment }

calls_head : (s : Store) → Sized s → (header s).calls < call_limit
    → header (set_calls s ((header s).calls + 1)) ≡ record { made = (header s).made; used = (header s).used; calls = (header s).calls + 1; next = (header s).next; moment = (header s).moment }
unfolding set_calls
calls_head s z c =
    let f : HeaderFits (header s) = header-fits s in
    header_put-header s _ z (record { made_fits = f.made_fits; used_fits = f.used_fits; calls_fit = omega arith; next_fits = f.next_fits; moment_fits = f.moment_fits })

module _ (s : Store) (h : SoundStore s) (st : Stands Nothing s) (k : AllStarted s) where
  z : Sized s
  z = h.memory.sized

  same_places : (header s).used + 0 ≤ place_limit
  same_places = omega (arith, (header-fits s).used_fits)

  settled-moment : (v : Value) → (header s).calls < call_limit → (header s).made < object_limit → (header (make_settled s v)).moment ≡ (header s).moment
  unfolding make_settled
  settled-moment v c m =
      let hd = calls_head s z c in
      add_moment (set_calls s ((header s).calls + 1)) _ 0 (sized-set_calls s _ z) (subst (λ (y : Header). y.made < object_limit) (sym hd) m) (subst (λ (y : Header). y.used + 0 ≤ place_limit) (sym hd) same_places)
      ∙ ap (λ (y : Header). y.moment) hd

  gather-moment : (os : List ℕ) → (header s).made < object_limit → (header s).used + length os ≤ place_limit → (header (make_gather s os)).moment ≡ (header s).moment
  unfolding make_gather
  gather-moment os m u =
      let hd : header (put_items s (header s).used os) ≡ header s = items-header os s (header s).used in
      add_moment (put_items s (header s).used os) _ (length os) (items-sized os s (header s).used z) (subst (λ (y : Header). y.made < object_limit) (sym hd) m) (subst (λ (y : Header). y.used + length os ≤ place_limit) (sym hd) u)
      ∙ ap (λ (y : Header). y.moment) hd

  complete-started : (t : ℕ) (v : Value) → (header s).moment ≡ Moment.Running (task_id t) → T (value_known (header s).made (object s) v) → AllStarted (task_completes s t v).store
  unfolding task_completes end_main switched
  complete-started zero v m kn = ended-started _ (ends s h st)
  complete-started (suc t) v m kn = rw (ne_eqb (suc t) 0 (λ e. not-suc-le-zero {n = 0} (omega arith))) (right-started _ (complete-right s h st t v m kn))

  fail-started : (t n : ℕ) → (header s).moment ≡ Moment.Running (task_id t) → n < u32_limit → AllStarted (task_fails s t (Error.Script n)).store
  unfolding task_fails end_main switched
  fail-started zero n m f = ended-started _ (ends s h st)
  fail-started (suc t) n m f = rw (ne_eqb (suc t) 0 (λ e. not-suc-le-zero {n = 0} (omega arith))) (right-started _ (failed-right s h st t (Error.Script n) m f))

  resume-started : (header s).moment ≡ Moment.Waiting → AllStarted (resume_with_resolved_futures s).store
  unfolding resume_with_resolved_futures switched
  resume-started m = pick_has (λ (x : Step). AllStarted x.store) (eqb s.queue.len 0) k (right-started _ (resume-right (λ o. T (is_completed (kind (object s o)))) (header s) s (only_changes_of s h m) st))

  results-started : (rs : List Result) → refusal s (Event.results rs) ≡ 0 → AllStarted (wake_in_order s (apply_future_results s rs))
  unfolding wake_in_order put_queue header task
  results-started rs r m t l =
      let a = results_apply s h rs (refusal-rest s (Event.results rs) r) in
      let hd : header (apply_future_results s rs) ≡ header s = (results-keep rs s a (during_of s h)).head in
      (batch-kept (AsStarted s) (as_started_delivers s) (λ u o p y low pe j. record { sized = sized-put_object u o _ j.sized; as_before = λ v e. unfold task put_object in (unfold task in (j.as_before v e)) })
      rs s (record { sized = z; as_before = λ v e. e })).as_before t (k (ap (λ (y : Header). y.moment) (sym hd) ∙ m) t (subst (λ (y : Header). t < y.next) hd l))

  -- Every event but cancel.
  pub accept-started : (e : Event) → InRange e → (says e).cancels ≡ false → refusal s e ≡ 0 → AllStarted (accept s e).store
  unfolding accept refusals make_coroutine make_pending InRange says nothing_said answer_await
  accept-started (Event.coroutine f) i n r =
      let q = refusal-rest s (Event.coroutine f) r in
      running-started _ (runner (header s).moment) (add_moment s _ 0 z (not_full s (pass 6 (full s) [] (running-rest s _ q)).0) same_places ∙ running s h _ q)
  accept-started Event.call i n r =
      let q = refusal-rest s Event.call r in
      running-started _ (runner (header s).moment) (ap (λ (y : Header). y.moment) (calls_head s z (has_number s (pass 7 (no_number s) [] (running-rest s _ q)).0)) ∙ running s h _ q)
  accept-started (Event.pending d x) i n r =
      let q = refusal-rest s (Event.pending d x) r in
      running-started _ (runner (header s).moment) (add_moment s _ 0 z (not_full s (pass 6 (full s) [] (pass 5 _ _ (pass 4 _ _ (running-rest s _ q)).1).1).0) same_places ∙ running s h _ q)
  accept-started (Event.settled v) i n r =
      let q = refusal-rest s (Event.settled v) r in
      let p = pass 6 (full s) _ (pass 4 _ _ (running-rest s _ q)).1 in
      running-started _ (runner (header s).moment) (settled-moment v (has_number s (pass 7 (no_number s) [] p.1).0) (not_full s p.0) ∙ running s h _ q)
  accept-started (Event.gather os) i n r =
      let q = refusal-rest s (Event.gather os) r in
      let p = (pass 6 (full s || ltb item_limit (length os) || ltb place_limit ((header s).used + length os)) [] (pass 4 _ _ (running-rest s _ q)).1).0 in
      running-started _ (runner (header s).moment) (gather-moment os (not_full s (or_left (full s) (ltb item_limit (length os)) (or_left (full s || ltb item_limit (length os)) (ltb place_limit ((header s).used + length os)) p)))
      (ltb-false place_limit ((header s).used + length os) (or_right (full s || ltb item_limit (length os)) (ltb place_limit ((header s).used + length os)) p)) ∙ running s h _ q)
  accept-started (Event.await o) i n r = let q = refusal-rest s (Event.await o) r in right-started _ (await-right s h st (runner (header s).moment) (running s h _ q) o (await-made s h o q))
  accept-started (Event.complete v) i n r = let q = refusal-rest s (Event.complete v) r in complete-started (runner (header s).moment) v (running s h _ q) (complete-known s h v q)
  accept-started (Event.fail m) i n r = fail-started (runner (header s).moment) m (running s h _ (refusal-rest s (Event.fail m) r)) i
  accept-started (Event.results rs) i n r = results-started rs r
  accept-started Event.resume i n r = resume-started (waiting s h [] (refusal-rest s Event.resume r)).0
  accept-started (Event.cancel t) i n r = absurd (true≢false n)
  accept-started (Event.show o) i n r = k
  accept-started Event.eager i n r = k
