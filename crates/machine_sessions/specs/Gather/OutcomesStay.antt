-- What has come of an object stays, in every session: a value or an error is its last word.
use Rattle.std.specs.Prelude.{◌≡◌, ◌⊎◌, Bool, not, ◌&&◌, ◌||◌, T, eqb, ltb, leb, length}
use Rattle.std.proofs.Math.Path.{refl, ap, ap₂}
use Rattle.std.proofs.Common.{sym, subst, ◌∙◌, inl, inr, not-suc-le-zero, arith, ltb→lt, eq-eqb, ne_eqb, eqb-true, ltb-true, ltb-false, leb-false}
use Rattle.std.proofs.Math.Bool.{true, false, true≢false}
use mathlib.Core.List.{List, [], ◌∷◌, ◌++◌}
use Rattle.std.proofs.Math.Option.{Option, none, some, some-injective}
use Prim.Native.Nat.{ℕ, zero, suc, ◌+◌, ◌≤◌, ◌<◌}
use Rattle.std.proofs.Math.Decide.{ℕ_discrete}
use Rattle.asyncio.specs.declared.Value.{Value}
use Rattle.asyncio.specs.declared.Error.{Error}
use Rattle.asyncio.specs.declared.TaskState.{TaskState}
use Rattle.asyncio.specs.declared.Task.{Task}
use Rattle.asyncio.specs.declared.CoroutineState.{CoroutineState}
use Rattle.asyncio.specs.declared.ExternalFutureState.{ExternalFutureState}
use Rattle.asyncio.specs.declared.GatherState.{GatherState}
use Rattle.asyncio.specs.declared.Object.{Object}
use Rattle.asyncio.specs.declared.Moment.{Moment}
use Rattle.asyncio.specs.declared.Header.{Header}
use Rattle.asyncio.specs.Numbers.{task_id}
use Rattle.asyncio.specs.Layout.{to_value}
use Rattle.asyncio.specs.RangeLaws.{pick_has}
use Rattle.asyncio.specs.Parts.{first_of, count_of}
use Rattle.asyncio.specs.States.{pick, is_live, is_unstarted}
use Rattle.machine.specs.Store.{LogEntry, Store, view, task, object, place, header, forget, fresh}
use Rattle.machine.specs.Scheduler.{AwaitedGather, as_awaited, bit, pending_call_ids}
use Rattle.machine.specs.Delivery.{value_or}
use Rattle.machine.specs.Events.{How, Control, Switched, Result, activate, handle_task_completion, handle_task_failure, resume_next}
use Rattle.machine.specs.Machine.{Event, Answer, Step, Shown, switched, answer_await, end_main, task_completes, task_fails, repeat_wait, resume_with_resolved_futures, runner, unmade, first_refusal, refusals, refusal, slot_value, show_places, shown, accept, step}
use Rattle.machine.specs.Sound.{items_below, object_in_range, places_below}
use Rattle.machine.specs.Tests.{is_in}
use Rattle.machine.specs.Gather.{Outcome, returned, raised}
use Rattle.machine.specs.Computes.{computes}
use Rattle.machine.specs.History.{Entry, Making, Says, says, said, nothing_said, tells, is_none, done_only, spawned_by, spawned_for, started_by, coroutine_of, running_coroutine, exits_unstarted, is_at, later, making, items, outcome_by, outcome, error_of, coroutine_outcome, completed_value, failed_error, first_reply, reply_error}
use Rattle.machine.specs.Sessions.{Sent, Session, InRange, AllSentInRange, lent_any, happened_by, entry_of, begun, send, send_all, session}
use Rattle.machine.specs.DemandThree.{read, shown_by, look}
use Rattle.machine_laws.specs.TestLaws.{below}
use Rattle.machine_laws.specs.DeliveryLaws.{absurd_some, awaited-object}
use Rattle.machine_laws.specs.MachineLaws.{accepted-step, refused-step}
use Rattle.machine_laws.specs.SoundLaws.{pass, refusal-rest, refusal-forget}
use Rattle.machine_theorems.specs.Soundness.Stores.{SoundStore}
use Rattle.machine_theorems.specs.Soundness.Sessions.{forget_sound_store, step_sound_store}
use Rattle.machine_sessions.specs.Queue.Following.{Sends, stepped, short, sends, Following, accept_accepts, send_following, session_follows}
use Rattle.machine_sessions.specs.Places.Told.{Frozen, co, pends, gave, broke, many, frozen}
use Rattle.machine_sessions.specs.Places.Agrees.{reply_row, ItemsAt, Makes, MadeRight, Agrees}
use Rattle.machine_sessions.specs.Places.AgreesEvents.{refused_agrees, forget_agrees}
use Rattle.machine_sessions.specs.Places.AgreesSessions.{accept_agrees, send_agrees, session_agrees}
use Rattle.machine_sessions.specs.Places.PlacesHold.{row_outcome, outcome-row, shows-made}
use Rattle.machine_sessions.specs.Gather.Failing.{RowMoves, CoroutineMoves}
use Rattle.machine_sessions.specs.Gather.FailingRows.{ItemAt, Raised}
use Rattle.machine_sessions.specs.Gather.FailingStated.{Brings, FailedBy, item_at, CommitFailed, EventFails}
use Rattle.machine_sessions.specs.Gather.FailingAwait.{accept-fails}
use Rattle.machine_sessions.specs.Gather.FailingHistory.{Knows, UsedRow, step-knows, raised-outcome}
use Rattle.machine_theorems.specs.Soundness.Exits.{runner_low, runner-runs}
use Rattle.machine.specs.Sound.{is_ended}
use Rattle.machine.specs.Machine.{runner, first_refusal, in_running}
use Rattle.machine.specs.Honest.{exits_in}
use Rattle.machine_theorems.specs.Soundness.Preserved.{running}
use Rattle.machine_sessions.specs.Places.AgreesComplete.{runs-coroutine}
use Rattle.machine_sessions.specs.Stall.TaskLog.{exits}
use Rattle.machine_sessions.specs.Gather.Failing.{RowMoves}
use Rattle.machine_sessions.specs.Gather.FailingRows.{FirstRun}
use Rattle.machine_sessions.specs.Gather.FailingHistory.{runner-coroutine, exit_first, said-is, happened_is, some-is_at}
use Rattle.machine_sessions.specs.Stall.GoesOn.{Reads, ended_reads}
use Rattle.machine_sessions.specs.Stall.Outcomes.{outcome_of}
use Rattle.machine_sessions.specs.Stall.Waiting.{Alive}
use Rattle.machine_sessions.specs.Gather.FailingSessions.{fl, agreed, made_still, look_now, outcome_now, items_now}

-- ---- rows

row_stays : (C D : ℕ → Option (Outcome Value Error)) (o : ℕ) (x y : Object) (z : Outcome Value Error) → ((r : Outcome Value Error) → C o ≡ some r → D o ≡ some r) → RowMoves x y → row_outcome C o x ≡ some z → row_outcome D o y ≡ some z
unfolding row_outcome
row_stays C D o Object.Unmade y z k m e = absurd_some e
row_stays C D o (Object.Coroutine f x) Object.Unmade z k m e = absurd m
row_stays C D o (Object.Coroutine f x) (Object.Coroutine g y) z k m e = k z e
row_stays C D o (Object.Coroutine f x) (Object.ExternalFuture c y) z k m e = absurd m
row_stays C D o (Object.Coroutine f x) (Object.GatherFuture h n y) z k m e = absurd m
row_stays C D o (Object.ExternalFuture c x) Object.Unmade z k m e = absurd m
row_stays C D o (Object.ExternalFuture c x) (Object.Coroutine g y) z k m e = absurd m
row_stays C D o (Object.ExternalFuture c x) (Object.GatherFuture h n y) z k m e = absurd m
row_stays C D o (Object.ExternalFuture c (ExternalFutureState.Pending a r)) (Object.ExternalFuture d y) z k m e = absurd_some e
row_stays C D o (Object.ExternalFuture c (ExternalFutureState.Resolved v)) (Object.ExternalFuture d y) z k m e = subst (λ (w : ExternalFutureState). row_outcome D o (Object.ExternalFuture d w) ≡ some z) (sym m.1) e
row_stays C D o (Object.ExternalFuture c (ExternalFutureState.Failed x)) (Object.ExternalFuture d y) z k m e = subst (λ (w : ExternalFutureState). row_outcome D o (Object.ExternalFuture d w) ≡ some z) (sym m.1) e
row_stays C D o (Object.GatherFuture f n x) Object.Unmade z k m e = absurd m
row_stays C D o (Object.GatherFuture f n x) (Object.Coroutine g y) z k m e = absurd m
row_stays C D o (Object.GatherFuture f n x) (Object.ExternalFuture c y) z k m e = absurd m
row_stays C D o (Object.GatherFuture f n GatherState.Pending) (Object.GatherFuture h j y) z k m e = absurd_some e
row_stays C D o (Object.GatherFuture f n (GatherState.Awaited a b)) (Object.GatherFuture h j y) z k m e = absurd_some e
row_stays C D o (Object.GatherFuture f n GatherState.Completed) (Object.GatherFuture h j y) z k m e = subst (λ (w : GatherState). row_outcome D o (Object.GatherFuture h j w) ≡ some z) (sym m.2) e
row_stays C D o (Object.GatherFuture f n (GatherState.Failed x)) (Object.GatherFuture h j y) z k m e = subst (λ (w : GatherState). row_outcome D o (Object.GatherFuture h j w) ≡ some z) (sym m.2) e

-- what is not made has come to nothing
pub unmade-none : (h : List Entry) (s : Store) → Agrees h s → (look : ℕ → Shown) (o : ℕ) → (header s).made ≤ o → outcome h look o ≡ none
unfolding outcome MadeRight
unmade-none h s a look o l = by (making h o) (a.makes o)
  where
    by : (m : Option Making) → MadeRight m (header s).made o (frozen (object s o)) (λ p. (place s p).item.0) → ◌≡◌ {A = Option (Outcome Value Error)} (elim m [ none ↦ none | some y ↦ outcome_by h look o y.event y.since ]) none
    by none k = refl
    by (some m) k = absurd (not-suc-le-zero {n = 0} (omega (arith, l, k.0)))

-- ---- coroutines, through an accepted event

module _ (h : List Entry) (s : Store) (w : SoundStore s) (a : Agrees h s) (k : Knows h s) (blank : s.log ≡ []) (e : Event) (i : InRange e) (rf : refusal s e ≡ 0) (w' : SoundStore (accept s e).store) (al : is_ended (header s).moment ≡ false → Alive h s) where
  abbrev u : Store
  u = (accept s e).store

  abbrev y : Entry
  y = entry_of e (accept s e).answer (accept s e).store

  -- a live task's coroutine has come to nothing
  live-none : (t c : ℕ) (z : Outcome Value Error) → is_ended (header s).moment ≡ false → suc t < (header s).next → is_live (task s (suc t)).state ≡ true → (task s (suc t)).coroutine.0 ≡ c → outcome_of h c ≡ some z → ⊥
  live-none t c z on l lv q e =
      let r = al on in
      let v = r.came c z e in
      let same : v.0 ≡ suc t = r.tasks.alone v.0 (suc t) c v.1 (k.spawned t l lv ∙ ap (λ (n : ℕ). some n) q) in
      true≢false (sym lv ∙ (r.tasks.ended (suc t) (subst (λ (n : ℕ). exits h n ≡ true) same v.2)).1)

  -- the running task's
  runner-none : (t c : ℕ) (z : Outcome Value Error) → (header s).moment ≡ Moment.Running (task_id t) → running_coroutine h ≡ some c → outcome_of h c ≡ some z → ⊥
  unfolding is_ended
  runner-none zero c z m q g = absurd_some (sym (runs-coroutine h 0 (a.runner (task_id 0) m) ∙ a.main) ∙ q)
  runner-none (suc t) c z m q g =
      live-none t c z (ap is_ended m) (runner_low s (suc t) w m) (ap is_live (runner-runs s (suc t) w m))
      (some-injective _ c (sym (runner-coroutine h s w a k blank e (accept s e) (fl h s w a k blank e i rf w') (accept_accepts s e) rf t m) ∙ (sym (runs-coroutine h (suc t) (a.runner (task_id (suc t)) m)) ∙ q))) g

  -- one that exits without having started
  first-none : (c : ℕ) (z : Outcome Value Error) → outcome_of h c ≡ some z → exits_unstarted (spawned_for (y ∷ h)) (coroutine_of (y ∷ h)) y.happened c ≡ true → ⊥
  unfolding exits_in
  first-none c z g q = by (exit_first h s w a k blank e (accept s e) (fl h s w a k blank e i rf w') (accept_accepts s e) rf c q) (is_ended (header s).moment) refl
    where
      by : (t : ℕ) × FirstRun s u (suc t) × ((task s (suc t)).coroutine.0 ≡ c) → (b : Bool) → is_ended (header s).moment ≡ b → ⊥
      by x false on = live-none x.0 c z on x.1.low (ap is_live x.1.was) x.2 g
      by x true on =
          let r : Reads s (accept s e) = ended_reads s e rf on in
          true≢false (sym x.1.logged ∙ (ap (λ (v : Store). exits_in v.log (suc x.0)) r.same_store ∙ ap (λ (l : List LogEntry). exits_in l (suc x.0)) blank))

  -- who completes or fails runs
  completes-runs : (v : Value) → (says e).completes ≡ some v → (header s).moment ≡ Moment.Running (task_id (runner (header s).moment))
  unfolding says nothing_said refusals
  completes-runs v q = by e q (refusal-rest s e rf)
    where
      by : (f : Event) → (says f).completes ≡ some v → first_refusal (refusals s f) ≡ 0 → (header s).moment ≡ Moment.Running (task_id (runner (header s).moment))
      by (Event.coroutine n) q r = absurd_some q
      by Event.call q r = absurd_some q
      by (Event.pending c x) q r = absurd_some q
      by (Event.settled x) q r = absurd_some q
      by (Event.gather os) q r = absurd_some q
      by (Event.await o) q r = absurd_some q
      by (Event.complete x) q r = running s w _ r
      by (Event.fail n) q r = absurd_some q
      by (Event.results rs) q r = absurd_some q
      by Event.resume q r = absurd_some q
      by (Event.cancel t) q r = absurd_some q
      by (Event.show o) q r = absurd_some q
      by Event.eager q r = absurd_some q

  fails_runs : (n : ℕ) → (says e).fails ≡ some n → (header s).moment ≡ Moment.Running (task_id (runner (header s).moment))
  unfolding says nothing_said refusals
  fails_runs n q = by e q (refusal-rest s e rf)
    where
      by : (f : Event) → (says f).fails ≡ some n → first_refusal (refusals s f) ≡ 0 → (header s).moment ≡ Moment.Running (task_id (runner (header s).moment))
      by (Event.coroutine n) q r = absurd_some q
      by Event.call q r = absurd_some q
      by (Event.pending c x) q r = absurd_some q
      by (Event.settled x) q r = absurd_some q
      by (Event.gather os) q r = absurd_some q
      by (Event.await o) q r = absurd_some q
      by (Event.complete x) q r = absurd_some q
      by (Event.fail m) q r = running s w _ r
      by (Event.results rs) q r = absurd_some q
      by Event.resume q r = absurd_some q
      by (Event.cancel t) q r = absurd_some q
      by (Event.show o) q r = absurd_some q
      by Event.eager q r = absurd_some q

  said-now : said y ≡ says e
  said-now = said-is h s w a k blank e (accept s e) (fl h s w a k blank e i rf w') (accept_accepts s e) rf

  there : (b : Option ℕ) (c : ℕ) → is_at b c ≡ true → b ≡ some c
  unfolding is_at
  there none c q = absurd (true≢false (sym q))
  there (some b) c q = ap (λ (n : ℕ). some n) (eqb-true b c q)

  value_stays : (c : ℕ) (z : Outcome Value Error) → outcome_of h c ≡ some z → completed_value (y ∷ h) c ≡ completed_value h c
  unfolding completed_value
  value_stays c z q = by (is_at (running_coroutine h) c) refl (said y).completes refl
    where
      by : (b : Bool) → is_at (running_coroutine h) c ≡ b → (v : Option Value) → (said y).completes ≡ v → completed_value (y ∷ h) c ≡ completed_value h c
      by true p none n = ap₂ (λ (b : Bool) (v : Option Value). elim b [ true ↦ elim v [ none ↦ completed_value h c | some x ↦ some x ] | false ↦ completed_value h c ]) p n
      by true p (some v) n = absurd (runner-none _ c z (completes-runs v (ap (λ (x : Says). x.completes) (sym said-now) ∙ n)) (there (running_coroutine h) c p) q)
      by false p v n = ap (λ (b : Bool). elim b [ true ↦ elim (said y).completes [ none ↦ completed_value h c | some x ↦ some x ] | false ↦ completed_value h c ]) p

  error-stays : (c : ℕ) (z : Outcome Value Error) → outcome_of h c ≡ some z → failed_error (y ∷ h) c ≡ failed_error h c
  unfolding failed_error
  error-stays c z q = by (exits_unstarted (spawned_for (y ∷ h)) (coroutine_of (y ∷ h)) y.happened c) refl (is_at (running_coroutine h) c) refl (said y).fails refl
    where
      at : exits_unstarted (spawned_for (y ∷ h)) (coroutine_of (y ∷ h)) y.happened c ≡ false
          → failed_error (y ∷ h) c ≡ elim (is_at (running_coroutine h) c) [ true ↦ elim (said y).fails [ none ↦ failed_error h c | some m ↦ some (Error.Script m) ] | false ↦ failed_error h c ]
      at g =
          ap (λ (d : Bool). elim d [ true ↦ some Error.CoroutineReuse | false ↦ elim (is_at (running_coroutine h) c) [ true ↦ elim (said y).fails [ none ↦ failed_error h c | some m ↦ some (Error.Script m) ] | false ↦ failed_error h c ] ]) g

      by : (d : Bool) → exits_unstarted (spawned_for (y ∷ h)) (coroutine_of (y ∷ h)) y.happened c ≡ d → (b : Bool) → is_at (running_coroutine h) c ≡ b → (v : Option ℕ) → (said y).fails ≡ v → failed_error (y ∷ h) c ≡ failed_error h c
      by true g b p v n = absurd (first-none c z q g)
      by false g true p none n = at g ∙ ap₂ (λ (b : Bool) (v : Option ℕ). elim b [ true ↦ elim v [ none ↦ failed_error h c | some m ↦ some (Error.Script m) ] | false ↦ failed_error h c ]) p n
      by false g true p (some v) n = absurd (runner-none _ c z (fails_runs v (ap (λ (x : Says). x.fails) (sym said-now) ∙ n)) (there (running_coroutine h) c p) q)
      by false g false p v n = at g ∙ ap (λ (b : Bool). elim b [ true ↦ elim (said y).fails [ none ↦ failed_error h c | some m ↦ some (Error.Script m) ] | false ↦ failed_error h c ]) p

  -- What has come of an object stays.
  pub accepted-stays : (o : ℕ) (z : Outcome Value Error) → outcome h (look s) o ≡ some z → outcome (y ∷ h) (look u) o ≡ some z
  accepted-stays o z q = by (ltb o (header s).made) refl
    where
      by : (b : Bool) → ltb o (header s).made ≡ b → outcome (y ∷ h) (look u) o ≡ some z
      by true p =
          let l : o < (header s).made = ltb-true o (header s).made p in
          outcome_now h s w a k blank e i rf w' o l
          ∙ row_stays (outcome_of h) (outcome_of (y ∷ h)) o (object s o) (object u o) z (λ r g. ap₂ coroutine_outcome (value_stays o r g) (error-stays o r g) ∙ g) ((fl h s w a k blank e i rf w').moves o l) (sym (outcome-row h s w a o l) ∙ q)
      by false p = absurd_some (sym (unmade-none h s a (look s) o (ltb-false o (header s).made p)) ∙ q)
