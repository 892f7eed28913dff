-- Rows and history agree in every session.
use Rattle.std.specs.Prelude.{◌≡◌, Bool, ◌||◌, ℕ, zero, suc, ◌+◌, ◌≤◌, ◌<◌, T, eqb, leb, get_or, replicate}
use Rattle.std.proofs.Math.Path.{refl, ap}
use Rattle.std.proofs.Common.{sym, subst, ◌∙◌, true≢false, not-suc-le-zero, arith}
use Rattle.std.proofs.Math.Bool.{true, false, not}
use mathlib.Core.List.{List, [], ◌∷◌}
use Rattle.std.proofs.Math.Option.{Option, none, some}
use Rattle.std.proofs.Math.Decide.{ℕ_discrete}
use Rattle.std.proofs.Math.Dec.{ltb}
use Rattle.std.proofs.Math.ListN.{length}
use borrow.Author.Tests.{eqb-true, leb-false, ltb-false}
use Rattle.asyncio.specs.declared.TaskId.{TaskId}
use Rattle.asyncio.specs.declared.Value.{Value}
use Rattle.asyncio.specs.declared.Error.{Error}
use Rattle.std.specs.Prelude.{None}
use Rattle.asyncio.specs.declared.TaskState.{TaskState}
use Rattle.asyncio.specs.declared.Task.{Task}
use Rattle.asyncio.specs.declared.Awaiter.{Awaiter}
use Rattle.asyncio.specs.declared.Object.{Object}
use Rattle.asyncio.specs.declared.Place.{Place}
use Rattle.asyncio.specs.declared.Moment.{Moment}
use Rattle.asyncio.specs.declared.Header.{Header}
use Rattle.asyncio.specs.Limits.{item_limit, place_limit, objects_length, places_length}
use Rattle.asyncio.specs.Numbers.{heap_id, task_id}
use Rattle.asyncio.specs.Layout.{to_object, to_place}
use Rattle.asyncio.specs.Parts.{awaiter_of}
use Rattle.asyncio.specs.States.{is_live, is_unstarted}
use Rattle.rows.specs.Rows.{row_from}
use Rattle.rows.specs.Tables.{object_at, place_at, object_start, place_start}
use Rattle.machine.specs.Store.{Store, view, task, object, place, header, forget, fresh, empty, put_task, put_header}
use Rattle.machine.specs.Scheduler.{live, cancel_task}
use Rattle.machine.specs.Events.{Result, exec_get_awaitable}
use Rattle.machine.specs.Machine.{Event, Answer, Step, answer_await, runner, refusals, refusal, full, no_number, accept, step, in_running, in_waiting, in_both, any_of, unmade}
use Rattle.machine.specs.Sound.{is_ended, value_known, option_known}
use Rattle.machine.specs.History.{Entry, says, nothing_said, tells, done_only, making, running, coroutine_of, completed_value}
use Rattle.machine.specs.Computes.{computes}
use Rattle.machine_laws.specs.Views.{Sized}
use Rattle.machine_laws.specs.Statements.{AllBelow}
use Rattle.machine_laws.specs.StoreLaws.{header-fits, object_put-header, sized-forget}
use Rattle.machine_laws.specs.DeliveryLaws.{absurd_some}
use Rattle.machine_laws.specs.MachineLaws.{accepted-step, refused-step}
use Rattle.machine_laws.specs.SoundLaws.{pass, running-rest, refusal-rest, refusal-forget, has_number, not_full}
use Rattle.machine_laws.specs.TestLaws.{or_left, or_right}
use Rattle.machine_theorems.specs.Soundness.Stores.{SoundStore}
use Rattle.machine_theorems.specs.Soundness.Preserved.{waiting, await-made, complete-known, results_apply}
use Rattle.machine.specs.Sessions.{InRange}
use Rattle.machine_theorems.specs.Soundness.Sessions.{forget_sound_store, step_sound_store, fresh_sound_store}
use Rattle.machine.specs.Sessions.{Sent, lent_any, entry_of, Session, begun, send, send_all, session}
use Rattle.machine.specs.Sessions.{AllSentInRange}
use Rattle.machine_sessions.specs.Queue.Tracked.{live_low}
use Rattle.machine_sessions.specs.Queue.Following.{Sends, stepped, short, sends, Following, send_following, session_follows}
use Rattle.machine_sessions.specs.Places.Told.{Frozen, co, frozen, EndsTask, Holds, Told, told_like}
use Rattle.machine_sessions.specs.Places.Agrees.{MadeRight, Agrees}
use Rattle.machine_sessions.specs.Places.AgreesEvents.{StepAgrees, only_changes_step, refused_agrees, forget_agrees, await-moved, fail_agrees, resume_agrees, cancel_agrees, call_agrees, read_agrees}
use Rattle.machine_sessions.specs.Places.AgreesComplete.{complete_agrees}
use Rattle.machine_sessions.specs.Places.AgreesResults.{results_agree}
use Rattle.machine_sessions.specs.Places.AgreesMakes.{coroutine_agrees, pending_agrees, settled_agrees, gather_agrees}

-- ---- each event

module _ (h : List Entry) (s : Store) (w : SoundStore s) (k : Agrees h s) where
  not-not : (b : Bool) → not b ≡ false → T b
  not-not true e = tt
  not-not false e = absurd (true≢false e)

  all_made : (os : List ℕ) → any_of (unmade s) os ≡ false → AllBelow (header s).made os
  unfolding any_of unmade AllBelow
  all_made [] e = tt
  all_made (o ∷ os) e = (leb-false (header s).made o (or_left (leb (header s).made o) _ e), all_made os (or_right (leb (header s).made o) (any_of (unmade s) os) e))

  pub accept_agrees : (e : Event) → refusal s e ≡ 0 → StepAgrees h e (accept s e)
  unfolding refusals in_both
  accept_agrees (Event.coroutine f) r = coroutine_agrees s w h k f (not_full s (pass 6 (full s) [] (running-rest s _ (refusal-rest s (Event.coroutine f) r))).0)
  accept_agrees Event.call r = call_agrees h s w k (has_number s (pass 7 (no_number s) [] (running-rest s _ (refusal-rest s Event.call r))).0)
  accept_agrees (Event.pending c x) r =
      let q = running-rest s _ (refusal-rest s (Event.pending c x) r) in
      let five = pass 4 (leb (header s).calls c || not (option_known (header s).made (object s) x)) _ q in
      let low : c < (header s).calls = leb-false (header s).calls c (or_left (leb (header s).calls c) _ five.0) in
      pending_agrees s w h k c x (not_full s (pass 6 (full s) [] (pass 5 _ _ five.1).1).0) (omega (arith, low, (header-fits s).calls_fit))
      (not-not (option_known (header s).made (object s) x) (or_right (leb (header s).calls c) (not (option_known (header s).made (object s) x)) five.0))
  accept_agrees (Event.settled v) r =
      let five = pass 4 (not (value_known (header s).made (object s) v)) _ (running-rest s _ (refusal-rest s (Event.settled v) r)) in
      let seven = pass 6 (full s) _ five.1 in
      settled_agrees s w h k v (not_full s seven.0) (has_number s (pass 7 (no_number s) [] seven.1).0) (not-not (value_known (header s).made (object s) v) five.0)
  accept_agrees (Event.gather os) r =
      let five = pass 4 (any_of (unmade s) os) _ (running-rest s _ (refusal-rest s (Event.gather os) r)) in
      let q = (pass 6 (full s || ltb item_limit (length os) || ltb place_limit ((header s).used + length os)) [] five.1).0 in
      let q1 = or_left (full s || ltb item_limit (length os)) (ltb place_limit ((header s).used + length os)) q in
      gather_agrees s w h k os (not_full s (or_left (full s) (ltb item_limit (length os)) q1))
      (ltb-false place_limit ((header s).used + length os) (or_right (full s || ltb item_limit (length os)) (ltb place_limit ((header s).used + length os)) q))
      (ltb-false item_limit (length os) (or_right (full s) (ltb item_limit (length os)) q1)) (all_made os five.0)
  accept_agrees (Event.await o) r =
      let q = refusal-rest s (Event.await o) r in
      unfold accept answer_await in
      (only_changes_step h s (Event.await o) (answer_await (exec_get_awaitable s (runner (header s).moment) o)) k (unfold tells answer_await in refl) (unfold says nothing_said in refl) (unfold says nothing_said in refl) (unfold tells answer_await in refl)
      (unfold tells answer_await in (await-moved h s w k (runner (header s).moment) o (Rattle.machine_theorems.specs.Soundness.Preserved.running s w _ q) (await-made s w o q))))
  accept_agrees (Event.complete v) r =
      let q = refusal-rest s (Event.complete v) r in
      unfold accept in (complete_agrees h s w k (runner (header s).moment) v (Rattle.machine_theorems.specs.Soundness.Preserved.running s w _ q) (complete-known s w v q))
  accept_agrees (Event.fail n) r = unfold accept in (fail_agrees h s w k (Event.fail n) (runner (header s).moment) (Error.Script n) (unfold says nothing_said in refl) (unfold says nothing_said in refl))
  accept_agrees (Event.results rs) r =
      let q = refusal-rest s (Event.results rs) r in results_agree h s w k rs (results_apply s w rs q) (pass 2 (is_ended (header s).moment) _ q).0
  accept_agrees Event.resume r = unfold accept in (resume_agrees h s w k (waiting s w [] (refusal-rest s Event.resume r)).0)
  accept_agrees (Event.cancel t) r =
      let q = waiting s w _ (refusal-rest s (Event.cancel t) r) in
      cancel_agrees h s w k t q.0 (live_low s t (lives (live s t) (pass 4 (not (live s t)) _ q.1).0)).0
    where
      lives : (b : Bool) → not b ≡ false → b ≡ true
      lives true e = refl
      lives false e = absurd (true≢false e)
  accept_agrees (Event.show o) r =
      unfold accept in (read_agrees h s w k (Event.show o) _ (unfold tells done_only in refl) (unfold tells done_only in refl) (unfold tells done_only in refl) (unfold says nothing_said in refl) (unfold says nothing_said in refl))
  accept_agrees Event.eager r =
      unfold accept in (read_agrees h s w k Event.eager _ (unfold tells done_only in refl) (unfold tells done_only in refl) (unfold tells done_only in refl) (unfold says nothing_said in refl) (unfold says nothing_said in refl))

-- ---- sessions

forget-head : (s : Store) → header (forget s) ≡ header s
unfolding forget header
forget-head s = refl

pub step_agrees : (h : List Entry) (s : Store) (e : Event) → SoundStore s → Agrees h s → StepAgrees h e (step s e)
step_agrees h s e w k = by (ℕ_discrete (refusal s e) 0)
  where
    by : Dec (refusal s e ≡ 0) → StepAgrees h e (step s e)
    by (yes r) = subst (StepAgrees h e) (sym (accepted-step s e r)) (accept_agrees h (forget s) (forget_sound_store s w) (forget_agrees h s k) e (refusal-forget s e ∙ r))
    by (no ne) = subst (StepAgrees h e) (sym (refused-step s e (refusal s e) refl ne)) (refused_agrees h (forget s) (forget s) e (refusal s e) (forget_agrees h s k) (forget_agrees h s k).told refl)

pub send_agrees : (x : Session) (e : Sent) → InRange e.event → Following x → Agrees x.history x.store → Agrees (send x e).history (send x e).store
unfolding send
send_agrees x e i f k = by (sends s e f.whole.memory.sized)
  where
    s : Store
    s = x.store

    h : List Entry
    h = x.history

    by : Sends s e → Agrees (entry_of e.event (lent_any s e).answer (lent_any s e).store ∷ h) (lent_any s e).store
    by (stepped p q) =
        subst (λ (a : Answer). Agrees (entry_of e.event a (lent_any s e).store ∷ h) (lent_any s e).store) (sym q)
        (subst (λ (u : Store). Agrees (entry_of e.event (step s e.event).answer u ∷ h) u) (sym p) (step_agrees h s e.event f.whole k))
    by (short p q) =
        subst (λ (a : Answer). Agrees (entry_of e.event a (lent_any s e).store ∷ h) (lent_any s e).store) (sym q)
        (subst (λ (u : Store). Agrees (entry_of e.event (Answer.refused 1) u ∷ h) u) (sym p) (refused_agrees h s s e.event 1 k k.told refl))

pub sessions_agree : (es : List Sent) (x : Session) → AllSentInRange es → Following x → Agrees x.history x.store → Agrees (send_all x es).history (send_all x es).store
unfolding send_all AllSentInRange
sessions_agree [] x i f k = k
sessions_agree (e ∷ es) x i f k = sessions_agree es (send x e) i.1 (send_following x e i.0 f) (send_agrees x e i.0 f k)

-- ---- the beginning

zeros : (n k : ℕ) → ◌≡◌ {A = ℕ} (get_or (replicate {A = ℕ} n 0) k 0) 0
zeros zero k = refl
zeros (suc n) zero = refl
zeros (suc n) (suc k) = zeros n k

pub row-zeros : (n b j m : ℕ) → row_from (replicate {A = ℕ} n 0) b j m ≡ replicate {A = ℕ} m 0
row-zeros n b j zero = refl
row-zeros n b j (suc m) = rw (zeros n (b + j), row-zeros n b (suc j) m)

pub fresh-object : (o : ℕ) → object fresh o ≡ Object.Unmade
fresh-object o = by-header ∙ zero_row
  where
    by-header : object fresh o ≡ object empty o
    by-header = unfold fresh in (task-same (put_header empty _) _ ∙ object_put-header empty _ o)
      where
        task-same : (s : Store) (r : Task) → object (put_task s 0 r) o ≡ object s o
        task-same s r = unfold object put_task in refl

    zero_row : object empty o ≡ Object.Unmade
    zero_row = unfold object empty object_at in (ap to_object (row-zeros objects_length (object_start o) 0 8))

fresh-place : (p : ℕ) → (place fresh p).result ≡ None
fresh-place p = unfold place fresh put_task put_header empty place_at in (ap (λ (w : List ℕ). (to_place w).result) (row-zeros places_length (place_start p) 0 4))

fresh-head : ((header fresh).made ≡ 0) × ((header fresh).next ≡ 1) × ((header fresh).moment ≡ Moment.Running (task_id 0))
unfolding computes
fresh-head = (refl, refl, refl)

fresh_main : is_unstarted (task fresh 0).state ≡ false
unfolding computes
fresh_main = refl

fresh_agrees : Agrees [] fresh
unfolding completed_value coroutine_of running making
fresh_agrees =
    record {
      told = record {
        sized = fresh_sound_store.memory.sized;
        made = refl;
        begun = omega (arith, fresh-head.1);
        rows = λ o. refl;
        items = λ p. refl;
        holds = λ p. subst (Holds (λ o. frozen (object fresh o)) (completed_value []) (place fresh p).item.0) (sym (fresh-place p)) tt;
        own = λ o. subst (λ (x : Object). EndsTask o (awaiter_of x)) (sym (fresh-object o)) (unfold awaiter_of in tt);
        tasks = λ t l lv. absurd (not-suc-le-zero {n = 0} (omega (arith, l, fresh-head.1)));
        main = fresh_main;
      };
      done = λ c v e. absurd_some e;
      runner = λ t e. ap (λ (n : ℕ). some n) (same-run t (sym fresh-head.2 ∙ e));
      main = refl;
      behind = λ o l. ap frozen (fresh-object o) ∙ (unfold frozen in refl);
      makes = λ o. unfold MadeRight in (omega (arith, fresh-head.0));
    }
  where
    same-run : (t : TaskId) → Moment.Running (task_id 0) ≡ Moment.Running t → 0 ≡ t.0
    same-run t e = cc

-- Every session from its beginning.
pub session_agrees : (es : List Sent) → AllSentInRange es → Agrees (session es).history (session es).store
unfolding session begun AllSentInRange send_all
session_agrees es i = sessions_agree es begun i (session_follows [] tt) fresh_agrees
