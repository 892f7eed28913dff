-- What one event of a session does to what has come of objects and to the items of gathers: `came-stays`, `items_stay`; a gather that is made does not fail, and
-- a refused event changes nothing that is shown.
use Rattle.std.proofs.Math.Path.{◌≡◌, refl, ap, ap₂, subst, fun_ext}
use Rattle.std.proofs.Common.{sym, ◌∙◌, inl, inr, true≢false, not-suc-le-zero, arith, ltb→lt, eq-eqb, ne_eqb, eqb-true, ltb-true, ltb-false, leb-false}
use Rattle.std.specs.Prelude.{◌⊎◌, Bool, not, ◌&&◌, ◌||◌, T, eqb, ltb, leb, length}
use Rattle.std.proofs.Math.Bool.{true, false}
use mathlib.Core.List.{List, [], ◌∷◌, ◌++◌}
use Rattle.std.proofs.Math.Option.{Option, none, some, some-injective}
use Prim.Native.Nat.{ℕ, zero, suc, ◌+◌, ◌≤◌, ◌<◌}
use Rattle.std.proofs.Math.Decide.{ℕ_discrete}
use Rattle.asyncio.specs.declared.Value.{Value}
use Rattle.asyncio.specs.declared.Error.{Error}
use Rattle.asyncio.specs.declared.TaskState.{TaskState}
use Rattle.asyncio.specs.declared.Task.{Task}
use Rattle.asyncio.specs.declared.CoroutineState.{CoroutineState}
use Rattle.asyncio.specs.declared.ExternalFutureState.{ExternalFutureState}
use Rattle.asyncio.specs.declared.GatherState.{GatherState}
use Rattle.asyncio.specs.declared.Object.{Object}
use Rattle.asyncio.specs.declared.Moment.{Moment}
use Rattle.asyncio.specs.declared.Header.{Header}
use Rattle.asyncio.specs.Numbers.{task_id}
use Rattle.asyncio.specs.Layout.{to_value, to_object, object_words}
use Rattle.asyncio.specs.RangeLaws.{pick_has}
use Rattle.asyncio.specs.Parts.{first_of, count_of}
use Rattle.asyncio.specs.States.{pick, is_live, is_unstarted}
use Rattle.machine.specs.Store.{Store, view, task, object, place, header, forget, fresh, LogEntry, add_object, put_header}
use Rattle.machine.specs.Scheduler.{AwaitedGather, as_awaited, bit, pending_call_ids}
use Rattle.machine.specs.Delivery.{value_or}
use Rattle.machine.specs.Events.{How, Control, Switched, Result, activate, handle_task_completion, handle_task_failure, resume_next, make_gather, put_items}
use Rattle.machine.specs.Machine.{Event, Answer, Step, Shown, switched, answer_await, end_main, task_completes, task_fails, repeat_wait, resume_with_resolved_futures, runner, unmade, first_refusal, refusals, refusal, slot_value, show_places, shown, accept, step}
use Rattle.machine.specs.Sound.{items_below, object_in_range, places_below}
use Rattle.machine.specs.Tests.{is_in}
use Rattle.machine.specs.Gather.{Outcome, returned, raised}
use Rattle.machine.specs.Computes.{computes}
use Rattle.machine.specs.History.{Entry, Making, Says, says, said, nothing_said, tells, is_none, done_only, spawned_by, spawned_for, started_by, coroutine_of, running_coroutine, exits_unstarted, is_at, later, making, items, outcome, error_of, coroutine_outcome, completed_value, failed_error, first_reply, reply_error}
use Rattle.machine.specs.Sessions.{Sent, Session, InRange, AllSentInRange, lent_any, happened_by, entry_of, begun, send, send_all, session}
use Rattle.machine.specs.DemandThree.{read, shown_by, look}
use Rattle.machine_laws.specs.TestLaws.{below}
use Rattle.machine_laws.specs.DeliveryLaws.{absurd_some, awaited-object}
use Rattle.machine_laws.specs.MachineLaws.{accepted-step, refused-step}
use Rattle.machine_laws.specs.SoundLaws.{pass, refusal-rest, refusal-forget}
use Rattle.machine_theorems.specs.Soundness.Stores.{SoundStore}
use Rattle.machine_theorems.specs.Soundness.Sessions.{forget_sound_store, step_sound_store}
use Rattle.machine_sessions.specs.Queue.Following.{Sends, stepped, short, sends, Following, accept_accepts, send_following, session_follows}
use Rattle.machine_sessions.specs.Places.Told.{Frozen, co, pends, gave, broke, many, frozen}
use Rattle.machine_sessions.specs.Places.Agrees.{reply_row, ItemsAt, Makes, MadeRight, Agrees}
use Rattle.machine_sessions.specs.Places.AgreesEvents.{refused_agrees, forget_agrees}
use Rattle.machine_sessions.specs.Places.AgreesSessions.{accept_agrees, send_agrees, session_agrees}
use Rattle.machine_sessions.specs.Places.PlacesHold.{row_outcome, outcome-row, shows-made}
use Rattle.machine_sessions.specs.Gather.Failing.{RowMoves, CoroutineMoves}
use Rattle.machine_sessions.specs.Gather.FailingRows.{ItemAt, Raised}
use Rattle.machine_sessions.specs.Gather.FailingStated.{Brings, FailedBy, item_at, CommitFailed, EventFails}
use Rattle.machine_sessions.specs.Gather.FailingAwait.{accept-fails}
use Rattle.machine_sessions.specs.Gather.FailingHistory.{Knows, UsedRow, step-knows, raised-outcome}
use Rattle.machine_laws.specs.MakingLaws.{items-sized}
use Rattle.machine_laws.specs.StoreLaws.{header-fits, sized-put_header}
use Rattle.machine_laws.specs.Views.{Sized}
use Rattle.asyncio.specs.Limits.{object_limit}
use Rattle.machine_theorems.specs.Soundness.RowFacts.{items-header}
use Rattle.machine_sessions.specs.Waits.Calls.{read_back}
use Rattle.machine.specs.Sound.{is_ended}
use Rattle.machine.specs.DemandTwo.{came}
use Rattle.machine_sessions.specs.Stall.Outcomes.{outcome_of}
use Rattle.machine_sessions.specs.Stall.Waiting.{Alive}
use Rattle.machine_sessions.specs.Stall.WaitingSessions.{forget-alive, session-waits}
use Rattle.machine_sessions.specs.Gather.OutcomesStay.{unmade-none, accepted-stays}
use Rattle.machine_sessions.specs.Gather.FailingSessions.{agreed, made-apart, accept_makes, MakesAt, items-later, making-later, forget-knows, look-forget, session-knows, look-row, row-failed, IsMany, reply_not_many, IsFailed}

-- ---- an event that is refused

refused-said : (e : Event) (n : ℕ) (u : Store) → said (entry_of e (Answer.refused n) u) ≡ nothing_said
unfolding said tells entry_of
refused-said e n u = refl

refused_happened : (e : Event) (n : ℕ) (u : Store) → (entry_of e (Answer.refused n) u).happened ≡ []
unfolding entry_of happened_by tells
refused_happened e n u = refl

module _ (h : List Entry) (e : Event) (n : ℕ) (u : Store) where
  abbrev y : Entry
  y = entry_of e (Answer.refused n) u

  refused-value : (c : ℕ) → completed_value (y ∷ h) c ≡ completed_value h c
  unfolding completed_value nothing_said
  refused-value c = ap (λ (v : Option Value). elim (is_at (running_coroutine h) c) [ true ↦ elim v [ none ↦ completed_value h c | some x ↦ some x ] | false ↦ completed_value h c ]) (ap (λ (z : Says). z.completes) (refused-said e n u)) ∙ by (is_at (running_coroutine h) c)
    where
      by : (b : Bool) → ◌≡◌ {A = Option Value} (elim b [ true ↦ completed_value h c | false ↦ completed_value h c ]) (completed_value h c)
      by true = refl
      by false = refl

  refused-error : (c : ℕ) → failed_error (y ∷ h) c ≡ failed_error h c
  unfolding failed_error nothing_said exits_unstarted
  refused-error c =
      ap₂ (λ (l : List LogEntry) (v : Option ℕ). elim (exits_unstarted (spawned_for (y ∷ h)) (coroutine_of (y ∷ h)) l c) [ true ↦ some Error.CoroutineReuse | false ↦ elim (is_at (running_coroutine h) c) [ true ↦ elim v [ none ↦ failed_error h c | some m ↦ some (Error.Script m) ] | false ↦ failed_error h c ] ])
      (refused_happened e n u) (ap (λ (z : Says). z.fails) (refused-said e n u)) ∙ by (is_at (running_coroutine h) c)
    where
      by : (b : Bool) → ◌≡◌ {A = Option Error} (elim b [ true ↦ failed_error h c | false ↦ failed_error h c ]) (failed_error h c)
      by true = refl
      by false = refl

  refused-coroutine : (c : ℕ) → outcome_of (y ∷ h) c ≡ outcome_of h c
  refused-coroutine c = ap₂ coroutine_outcome (refused-value c) (refused-error c)

-- ---- an event of a session: what it leaves, for the answer a and the store u that it gives

module _ (h : List Entry) (s : Store) (w : SoundStore s) (ag : Agrees h s) (k : Knows h s) (al : is_ended (header s).moment ≡ false → Alive h s) (e : Event) where
  abbrev at_end : Answer → Store → Entry
  at_end a u = entry_of e a u

  pub record Stays (a : Answer) (u : Store) : Type 0 where
    pub outcomes : (o : ℕ) (z : Outcome Value Error) → outcome h (look s) o ≡ some z → outcome (at_end a u ∷ h) (look u) o ≡ some z
    pub same-items : (g : ℕ) → g < (header s).made → items (at_end a u ∷ h) g ≡ items h g
    pub not-failed : (g : ℕ) (r : Error) → look s g ≡ Shown.nothing → look u g ≡ Shown.a_gather_failed r → ⊥
    pub refused-same : (tells a).accepts ≡ false → (g : ℕ) → look u g ≡ look s g

  -- refused: rows as they were
  refused-stays : (n : ℕ) (u : Store) → SoundStore u → Agrees (at_end (Answer.refused n) u ∷ h) u → ((o : ℕ) → object u o ≡ object s o) → (header u).made ≡ (header s).made → ((o : ℕ) → look u o ≡ look s o) → Stays (Answer.refused n) u
  refused-stays n u wu au os hd lk =
      record {
        outcomes = λ o z q. by o z q (ltb o (header s).made) refl;
        same-items = λ g l. items-later (at_end (Answer.refused n) u) h g (none-at g);
        not-failed = λ g r p q. not-nothing (sym (sym p ∙ (sym (lk g) ∙ q)));
        refused-same = λ n g. lk g;
      }
    where
      none-at : (g : ℕ) → is_at (tells (at_end (Answer.refused n) u).answer).makes g ≡ false
      none-at g = unfold is_at tells entry_of in refl

      not-nothing : {r : Error} → Shown.a_gather_failed r ≡ Shown.nothing → ⊥
      not-nothing q = subst IsFailed q tt

      same : (c o : ℕ) → row_outcome (outcome_of (at_end (Answer.refused n) u ∷ h)) o (object u o) ≡ row_outcome (outcome_of h) o (object s o)
      same c o = ap₂ (λ (f : ℕ → Option (Outcome Value Error)) (x : Object). row_outcome f o x) (fun_ext (refused-coroutine h e n u)) (os o)

      by : (o : ℕ) (z : Outcome Value Error) → outcome h (look s) o ≡ some z → (b : Bool) → ltb o (header s).made ≡ b → outcome (at_end (Answer.refused n) u ∷ h) (look u) o ≡ some z
      by o z q true l =
          let low : o < (header s).made = ltb-true o (header s).made l in
          outcome-row (at_end (Answer.refused n) u ∷ h) u wu au o (subst (λ (m : ℕ). o < m) (sym hd) low) ∙ (same 0 o ∙ (sym (outcome-row h s w ag o low) ∙ q))
      by o z q false l = absurd_some (sym (unmade-none h s ag (look s) o (ltb-false o (header s).made l)) ∙ q)

-- ---- an accepted event

abbrev Something : Shown → Type 0
Something (Shown.a_coroutine x f) = Unit {0}
Something Shown.an_external_pending = Unit {0}
Something (Shown.an_external_resolved v) = Unit {0}
Something (Shown.an_external_failed e) = Unit {0}
Something Shown.a_gather_pending = Unit {0}
Something (Shown.a_gather_awaited vs) = Unit {0}
Something (Shown.a_gather_completed vs) = Unit {0}
Something (Shown.a_gather_failed e) = Unit {0}
Something Shown.nothing = ⊥

-- the row of an object that is made
new_row : (s : Store) (r : Object) (n : ℕ) → Sized s → (header s).made < object_limit → object (add_object s r n) (header s).made ≡ to_object (object_words r)
unfolding add_object
new_row s r n z m = read_back (put_header s _) (header s).made r (sized-put_header s _ z) m

-- a gather that is made is pending
made-pending : (s u : Store) (os : List ℕ) → Sized s → (header s).made < object_limit → shown u (object (make_gather s os) (header s).made) ≡ Shown.a_gather_pending
unfolding make_gather shown
made-pending s u os z m =
    let hd : header (put_items s (header s).used os) ≡ header s = items-header os s (header s).used in
    ap (shown u) (subst (λ (n : ℕ). object (make_gather s os) n ≡ to_object (object_words (Object.GatherFuture (header s).used (length os) GatherState.Pending))) (ap (λ (x : Header). x.made) hd)
    (new_row (put_items s (header s).used os) (Object.GatherFuture (header s).used (length os) GatherState.Pending) (length os) (items-sized os s (header s).used z) (subst (λ (x : Header). x.made < object_limit) (sym hd) m)))

module _ (h : List Entry) (s : Store) (w : SoundStore s) (ag : Agrees h s) (k : Knows h s) (blank : s.log ≡ []) (al : is_ended (header s).moment ≡ false → Alive h s) (e : Event) (i : InRange e) (rf : refusal s e ≡ 0)
    (w' : SoundStore (accept s e).store) where
  abbrev u : Store
  u = (accept s e).store

  abbrev z : Entry
  z = entry_of e (accept s e).answer (accept s e).store

  ay : Agrees (z ∷ h) u
  ay = agreed h s w ag k blank e i rf w'

  unmade-making : (g : ℕ) → (header s).made ≤ g → making h g ≡ none
  unfolding MadeRight
  unmade-making g l = by (making h g) (ag.makes g)
    where
      by : (m : Option Making) → MadeRight m (header s).made g (frozen (object s g)) (λ p. (place s p).item.0) → m ≡ none
      by none q = refl
      by (some m) q = absurd (not-suc-le-zero {n = 0} (omega (arith, l, q.0)))

  -- a row that has failed is a gather's
  failed-many : (g f n : ℕ) (r : Error) → object u g ≡ Object.GatherFuture f n (GatherState.Failed r) → IsMany (frozen (object u g))
  unfolding frozen
  failed-many g f n r q = subst (λ (x : Object). IsMany (frozen x)) (sym q) tt

  -- what is made by the event has not failed
  fresh-gather : (g : ℕ) (r : Error) (f n : ℕ) → (header s).made ≤ g → g < (header u).made → object u g ≡ Object.GatherFuture f n (GatherState.Failed r) → ⊥
  unfolding entry_of MadeRight is_at later making Makes
  fresh-gather g r f n l m q = by (is_at (tells (accept s e).answer).makes g) refl
    where
      none_made : is_at (tells (accept s e).answer).makes g ≡ false → making (z ∷ h) g ≡ none
      none_made p = making-later z h g p ∙ ap (later z) (unmade-making g l)

      now-made : is_at (tells (accept s e).answer).makes g ≡ true → making (z ∷ h) g ≡ some (record { event = e; since = [] })
      now-made p = (ap (λ (b : Bool). elim b [ true ↦ some (record { event = e; since = [] }) | false ↦ later z (making h g) ]) p)

      Right : Option Making → Type 0
      Right m = MadeRight m (header u).made g (frozen (object u g)) (λ p. (place u p).item.0)

      by : (b : Bool) → is_at (tells (accept s e).answer).makes g ≡ b → ⊥
      by false p = let y : Right none = subst Right (none_made p) (ay.makes g) in not-suc-le-zero {n = 0} (omega (arith, m, y))
      by true p = let y : Right (some (record { event = e; since = [] })) = subst Right (now-made p) (ay.makes g) in of e refl y.1
        where
          many_is : IsMany (frozen (object u g))
          many_is = failed-many g f n r q

          at-made : g ≡ (header s).made
          at-made = where-made (tells (accept s e).answer).makes (accept_makes s e) p
            where
              where-made : (o : Option ℕ) → MakesAt (header s).made o → is_at o g ≡ true → g ≡ (header s).made
              where-made none c d = absurd (true≢false (sym d))
              where-made (some o) c d = sym (eqb-true o g d) ∙ c

          of : (v : Event) → e ≡ v → Makes v [] (frozen (object u g)) (λ p. (place u p).item.0) → ⊥
          of (Event.coroutine c) d y = subst IsMany y.1 many_is
          of Event.call d y = y
          of (Event.pending c x) d y = reply_not_many c x (first_reply [] c) (subst IsMany y many_is)
          of (Event.settled x) d y = subst IsMany y many_is
          of (Event.gather os) d y =
              subst IsFailed (sym (sym (pend os d) ∙ (ap (shown u) q ∙ shown-failed f n))) tt
            where
              shown-failed : (f n : ℕ) → shown u (Object.GatherFuture f n (GatherState.Failed r)) ≡ Shown.a_gather_failed r
              shown-failed f n = unfold shown in refl

              pend : (os : List ℕ) → e ≡ Event.gather os → shown u (object u g) ≡ Shown.a_gather_pending
              pend os d =
                  subst (λ (c : ℕ). shown u (object u c) ≡ Shown.a_gather_pending) (sym at-made)
                  (subst (λ (c : Event). shown u (object (accept s c).store (header s).made) ≡ Shown.a_gather_pending) (sym d)
                  (unfold accept in (made-pending s u os w.memory.sized (omega (arith, at-made, m, (header-fits u).made_fits)))))
          of (Event.await o) d y = y
          of (Event.complete x) d y = y
          of (Event.fail c) d y = y
          of (Event.results rs) d y = y
          of Event.resume d y = y
          of (Event.cancel c) d y = y
          of (Event.show o) d y = y
          of Event.eager d y = y

  accepted-failed : (g : ℕ) (r : Error) → look s g ≡ Shown.nothing → look u g ≡ Shown.a_gather_failed r → ⊥
  unfolding view object_in_range shown
  accepted-failed g r p q = by (look-row s g w) (look-row u g w')
    where
      nothing-row : (x : Object) → shown s x ≡ Shown.nothing → x ≡ Object.Unmade
      nothing-row Object.Unmade d = refl
      nothing-row (Object.Coroutine f x) d = absurd (subst Something d tt)
      nothing-row (Object.ExternalFuture c (ExternalFutureState.Pending a x)) d = absurd (subst Something d tt)
      nothing-row (Object.ExternalFuture c (ExternalFutureState.Resolved v)) d = absurd (subst Something d tt)
      nothing-row (Object.ExternalFuture c (ExternalFutureState.Failed x)) d = absurd (subst Something d tt)
      nothing-row (Object.GatherFuture f n GatherState.Pending) d = absurd (subst Something d tt)
      nothing-row (Object.GatherFuture f n (GatherState.Awaited a x)) d = absurd (subst Something d tt)
      nothing-row (Object.GatherFuture f n GatherState.Completed) d = absurd (subst Something d tt)
      nothing-row (Object.GatherFuture f n (GatherState.Failed x)) d = absurd (subst Something d tt)

      made_row : g < (header s).made → object s g ≡ Object.Unmade → ⊥
      made_row l d = subst (λ (x : Object). T (object_in_range (header s) (places_below (object s) g) x)) d (w.facts.but.objects g l)

      by : ((g < (header s).made) × (look s g ≡ shown s (object s g))) ⊎ (((header s).made ≤ g) × (look s g ≡ Shown.nothing))
          → ((g < (header u).made) × (look u g ≡ shown u (object u g))) ⊎ (((header u).made ≤ g) × (look u g ≡ Shown.nothing)) → ⊥
      by (inl a) b = made_row a.0 (nothing-row (object s g) (sym a.1 ∙ p))
      by (inr a) (inr b) = subst IsFailed (sym q ∙ b.1) tt
      by (inr a) (inl b) = let x = row-failed u (object u g) r (sym b.1 ∙ q) in fresh-gather g r x.0 x.1 a.0 b.0 x.2

  -- What an accepted event leaves.
  pub accepted : Stays h s w ag k al e (accept s e).answer u
  accepted =
      record {
        outcomes = accepted-stays h s w ag k blank e i rf w' al;
        same-items = λ g l. unfold entry_of in (items-later z h g (made-apart (header s).made g (tells (accept s e).answer).makes (accept_makes s e) l));
        not-failed = accepted-failed;
        refused-same = λ n g. absurd (true≢false (sym (accept_accepts s e) ∙ n));
      }

-- ---- sessions

module _ (h : List Entry) (s : Store) (w : SoundStore s) (ag : Agrees h s) (k : Knows h s) (al : is_ended (header s).moment ≡ false → Alive h s) (e : Event) (i : InRange e) where
  abbrev zs : Store
  zs = forget s

  same-look : look zs ≡ look s
  same-look = fun_ext (λ g. look-forget s g)

  step_stays : Agrees (entry_of e (step s e).answer (step s e).store ∷ h) (step s e).store → Stays h s w ag k al e (step s e).answer (step s e).store
  unfolding forget header
  step_stays ay = by (ℕ_discrete (refusal s e) 0) ay
    where
      Left : Step → Type 0
      Left x = Agrees (entry_of e x.answer x.store ∷ h) x.store → Stays h s w ag k al e x.answer x.store

      by : Dec (refusal s e ≡ 0) → Left (step s e)
      by (yes r) = subst Left (sym (accepted-step s e r)) (λ a. record { outcomes = λ o z q. x.outcomes o z (ap (λ (f : ℕ → Shown). outcome h f o) same-look ∙ q); same-items = x.same-items; not-failed = λ g z p q. x.not-failed g z (ap (λ (f : ℕ → Shown). f g) same-look ∙ p) q; refused-same = λ n g. x.refused-same n g ∙ ap (λ (f : ℕ → Shown). f g) same-look })
        where
          rz : refusal zs e ≡ 0
          rz = refusal-forget s e ∙ r

          sound : SoundStore (accept zs e).store
          sound = subst (λ (x : Step). SoundStore x.store) (accepted-step s e r) (step_sound_store s w e i)

          x : Stays h zs (forget_sound_store s w) (forget_agrees h s ag) (forget-knows h s k) (λ on. forget-alive h s (al on)) e (accept zs e).answer (accept zs e).store
          x = accepted h zs (forget_sound_store s w) (forget_agrees h s ag) (forget-knows h s k) refl (λ on. forget-alive h s (al on)) e i rz sound
      by (no ne) = subst Left (sym (refused-step s e (refusal s e) refl ne)) (λ a. refused-stays h s w ag k al e (refusal s e) zs (forget_sound_store s w) a (λ o. unfold object forget in refl) (unfold header forget in refl) (λ o. ap (λ (f : ℕ → Shown). f o) same-look))

-- What one more event leaves.
pub session-stays : (es : List Sent) (e : Sent) → (j : AllSentInRange es) → InRange e.event
    → Stays (session es).history (session es).store (session_follows es j).whole (session_agrees es j) (session-knows es j) (session-waits es j).alive e.event (lent_any (session es).store e).answer (lent_any (session es).store e).store
session-stays es e j i = by (sends s e (session_follows es j).whole.memory.sized)
  where
    s : Store
    s = (session es).store

    h : List Entry
    h = (session es).history

    L : Answer → Store → Type 0
    L a u = Stays h s (session_follows es j).whole (session_agrees es j) (session-knows es j) (session-waits es j).alive e.event a u

    agrees : Agrees (entry_of e.event (lent_any s e).answer (lent_any s e).store ∷ h) (lent_any s e).store
    agrees = unfold send in (send_agrees (session es) e i (session_follows es j) (session_agrees es j))

    by : Sends s e → L (lent_any s e).answer (lent_any s e).store
    by (stepped p q) =
        subst (λ (a : Answer). L a (lent_any s e).store) (sym q) (subst (λ (u : Store). L (step s e.event).answer u) (sym p)
        (step_stays h s (session_follows es j).whole (session_agrees es j) (session-knows es j) (session-waits es j).alive e.event i
        (subst (λ (u : Store). Agrees (entry_of e.event (step s e.event).answer u ∷ h) u) p (subst (λ (a : Answer). Agrees (entry_of e.event a (lent_any s e).store ∷ h) (lent_any s e).store) q agrees))))
    by (short p q) =
        subst (λ (a : Answer). L a (lent_any s e).store) (sym q) (subst (λ (u : Store). L (Answer.refused 1) u) (sym p)
        (refused-stays h s (session_follows es j).whole (session_agrees es j) (session-knows es j) (session-waits es j).alive e.event 1 s (session_follows es j).whole
        (subst (λ (u : Store). Agrees (entry_of e.event (Answer.refused 1) u ∷ h) u) p (subst (λ (a : Answer). Agrees (entry_of e.event a (lent_any s e).store ∷ h) (lent_any s e).store) q agrees)) (λ o. refl) refl (λ o. refl)))
