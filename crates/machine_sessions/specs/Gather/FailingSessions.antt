-- What one more event of a session does to every gather, in the words of show and of outcomes.
use Rattle.std.proofs.Math.Path.{◌≡◌, refl, ap, sym, subst}
use Rattle.std.proofs.Common.{◌∙◌, true≢false, not-suc-le-zero}
use Rattle.std.specs.Prelude.{◌⊎◌, Bool, not, ◌&&◌, ◌||◌, ltb, leb}
use Rattle.std.proofs.Math.Logic.{inl, inr}
use Rattle.std.proofs.Math.Bool.{true, false}
use mathlib.Core.List.{List, [], ◌∷◌, ◌++◌}
use Rattle.std.proofs.Math.Option.{Option, none, some, some-injective}
use Prim.Native.Nat.{ℕ, zero, suc, ◌+◌, ◌≤◌, ◌<◌}
use native.Mathlib.Omega.{arith}
use Rattle.std.proofs.Math.Decide.{ℕ_discrete}
use Rattle.std.proofs.Math.Dec.{T, eqb, ltb→lt}
use Rattle.std.proofs.Math.ListN.{length}
use borrow.Author.Tests.{eq-eqb, ne_eqb, eqb-true, ltb-true, ltb-false, leb-false}
use Rattle.asyncio.specs.declared.Value.{Value}
use Rattle.asyncio.specs.declared.Error.{Error}
use Rattle.asyncio.specs.declared.TaskState.{TaskState}
use Rattle.asyncio.specs.declared.Task.{Task}
use Rattle.asyncio.specs.declared.CoroutineState.{CoroutineState}
use Rattle.asyncio.specs.declared.ExternalFutureState.{ExternalFutureState}
use Rattle.asyncio.specs.declared.GatherState.{GatherState}
use Rattle.asyncio.specs.declared.Object.{Object}
use Rattle.asyncio.specs.declared.Moment.{Moment}
use Rattle.asyncio.specs.declared.Header.{Header}
use Rattle.asyncio.specs.Options.{OptionValue}
use Rattle.asyncio.specs.Numbers.{task_id}
use Rattle.asyncio.specs.Layout.{to_value}
use Rattle.asyncio.specs.RangeLaws.{pick_has}
use Rattle.asyncio.specs.Parts.{first_of, count_of}
use Rattle.asyncio.specs.States.{pick, is_live, is_unstarted}
use Rattle.machine.specs.Store.{Store, view, task, object, place, header, forget, fresh}
use Rattle.machine.specs.Scheduler.{AwaitedGather, as_awaited, bit, pending_call_ids}
use Rattle.machine.specs.Delivery.{value_or}
use Rattle.machine.specs.Events.{How, Control, Switched, Result, activate, handle_task_completion, handle_task_failure, resume_next}
use Rattle.machine.specs.Machine.{Event, Answer, Step, Shown, switched, answer_await, end_main, task_completes, task_fails, repeat_wait, resume_with_resolved_futures, runner, unmade, first_refusal, refusals, refusal, slot_value, shown, accept, step}
use Rattle.machine.specs.Sound.{is_ended, items_below, object_in_range, places_below}
use Rattle.machine.specs.Tests.{is_in}
use Rattle.machine.specs.Gather.{Outcome, returned, raised}
use Rattle.machine.specs.Computes.{computes}
use Rattle.machine.specs.History.{Entry, Making, says, said, nothing_said, tells, is_none, done_only, spawned_by, spawned_for, started_by, coroutine_of, running_coroutine, exits_unstarted, is_at, later, making, items, outcome, error_of, coroutine_outcome, completed_value, failed_error, first_reply, reply_error}
use Rattle.machine.specs.Sessions.{Sent, Session, InRange, AllSentInRange, lent_any, happened_by, entry_of, begun, send, send_all, session}
use Rattle.machine.specs.DemandThree.{read, shown_by, look}
use Rattle.machine_laws.specs.TestLaws.{below}
use Rattle.machine_laws.specs.DeliveryLaws.{absurd_some, awaited-object}
use Rattle.machine_laws.specs.MachineLaws.{accepted-step, refused-step}
use Rattle.machine_laws.specs.SoundLaws.{pass, refusal-rest, refusal-forget, step-forget}
use Rattle.machine_theorems.specs.Soundness.Stores.{SoundStore}
use Rattle.machine_theorems.specs.Soundness.Sessions.{forget_sound_store, step_sound_store}
use Rattle.machine_sessions.specs.Queue.Following.{Sends, stepped, short, sends, Following, accept_accepts, send_following, session_follows}
use Rattle.machine_sessions.specs.Places.Told.{Frozen, co, pends, gave, broke, many, frozen}
use Rattle.machine_sessions.specs.Places.Agrees.{reply_row, ItemsAt, Makes, MadeRight, Agrees}
use Rattle.machine_sessions.specs.Places.AgreesEvents.{refused_agrees, forget_agrees}
use Rattle.machine_sessions.specs.Places.AgreesSessions.{accept_agrees, send_agrees, session_agrees}
use Rattle.machine_sessions.specs.Places.PlacesHold.{row_outcome, outcome-row, shows-made}
use Rattle.machine_sessions.specs.Gather.Failing.{RowMoves, CoroutineMoves}
use Rattle.machine_sessions.specs.Gather.FailingRows.{ItemAt, Raised}
use Rattle.machine_sessions.specs.Gather.FailingStated.{Brings, FailedBy, Passed, Reuses, PollRaises, broken, failed, reuses, item_at, CommitFailed, EventFails}
use Rattle.machine_sessions.specs.Gather.FailingAwait.{accept-fails}
use Rattle.machine_sessions.specs.Gather.FailingHistory.{Knows, UsedRow, step-knows, raised-outcome}

-- ---- the statement

-- an external; a gather; one that is committed; one that is completed
abbrev pub ShowsExternal : Shown → Type 0
ShowsExternal (Shown.a_coroutine x f) = ⊥
ShowsExternal Shown.an_external_pending = Unit {0}
ShowsExternal (Shown.an_external_resolved v) = Unit {0}
ShowsExternal (Shown.an_external_failed e) = Unit {0}
ShowsExternal Shown.a_gather_pending = ⊥
ShowsExternal (Shown.a_gather_awaited vs) = ⊥
ShowsExternal (Shown.a_gather_completed vs) = ⊥
ShowsExternal (Shown.a_gather_failed e) = ⊥
ShowsExternal Shown.nothing = ⊥

abbrev pub ShowsCommitted : Shown → Type 0
ShowsCommitted (Shown.a_coroutine x f) = ⊥
ShowsCommitted Shown.an_external_pending = ⊥
ShowsCommitted (Shown.an_external_resolved v) = ⊥
ShowsCommitted (Shown.an_external_failed e) = ⊥
ShowsCommitted Shown.a_gather_pending = ⊥
ShowsCommitted (Shown.a_gather_awaited vs) = Unit {0}
ShowsCommitted (Shown.a_gather_completed vs) = Unit {0}
ShowsCommitted (Shown.a_gather_failed e) = Unit {0}
ShowsCommitted Shown.nothing = ⊥

abbrev pub ShowsCoroutine : ℕ → CoroutineState → Shown → Type 0
ShowsCoroutine f x (Shown.a_coroutine y g) = (g ≡ f) × CoroutineMoves x y
ShowsCoroutine f x Shown.an_external_pending = ⊥
ShowsCoroutine f x (Shown.an_external_resolved v) = ⊥
ShowsCoroutine f x (Shown.an_external_failed e) = ⊥
ShowsCoroutine f x Shown.a_gather_pending = ⊥
ShowsCoroutine f x (Shown.a_gather_awaited vs) = ⊥
ShowsCoroutine f x (Shown.a_gather_completed vs) = ⊥
ShowsCoroutine f x (Shown.a_gather_failed e) = ⊥
ShowsCoroutine f x Shown.nothing = ⊥

-- What is shown of an object goes one way only, and what is settled stays. (Of a completed gather the list is what its items have delivered: demand 3.)
abbrev pub ShownMoves : Shown → Shown → Type 0
ShownMoves (Shown.a_coroutine x f) y = ShowsCoroutine f x y
ShownMoves Shown.an_external_pending y = ShowsExternal y
ShownMoves (Shown.an_external_resolved v) y = y ≡ Shown.an_external_resolved v
ShownMoves (Shown.an_external_failed e) y = y ≡ Shown.an_external_failed e
ShownMoves Shown.a_gather_pending y = (y ≡ Shown.a_gather_pending) ⊎ ShowsCommitted y
ShownMoves (Shown.a_gather_awaited vs) y = ShowsCommitted y
ShownMoves (Shown.a_gather_completed vs) y = (us : List (Option Value)) × (y ≡ Shown.a_gather_completed us)
ShownMoves (Shown.a_gather_failed e) y = y ≡ Shown.a_gather_failed e
ShownMoves Shown.nothing y = Unit {0}

-- an item of gather g has come to r, which is an error that the event brings
pub record FailedItem (e : Event) (h : List Entry) (shows : ℕ → Shown) (g : ℕ) (r : Error) : Type 0 where
  pub item : ℕ
  pub among : is_in item (items h g) ≡ true
  pub raised_it : outcome h shows item ≡ some (raised r)
  pub error : Brings e r

-- An item of gather g raises r, none to its left is the same object, and none has raised; u is the store that the event left.
pub record FirstFailed (h : List Entry) (u : Store) (g : ℕ) (r : Error) : Type 0 where
  pub left : List ℕ
  pub item : ℕ
  pub right : List ℕ
  pub split : items h g ≡ left ++ (item ∷ right)
  pub made : item < (header u).made
  pub raises : (outcome h (look u) item ≡ some (raised r)) ⊎ Reuses u g item (object u item) r
  pub unraised : (o : ℕ) → is_in o left ≡ true → error_of (outcome h (look u) o) ≡ none
  pub first : is_in item left ≡ true → ⊥
  pub on : is_ended (header u).moment ≡ false

-- What an event does to gather g: `was` is what show gave of it before, h the history after the event, u the store then.
pub record GatherFails (e : Event) (was : Shown) (h : List Entry) (u : Store) (g : ℕ) : Type 0 where
  pub moves : ShownMoves was (look u g)
  pub awaited : (vs : List (Option Value)) (r : Error) → was ≡ Shown.a_gather_awaited vs → look u g ≡ Shown.a_gather_failed r → FailedItem e h (look u) g r
  pub pending : (r : Error) → was ≡ Shown.a_gather_pending → look u g ≡ Shown.a_gather_failed r → FirstFailed h u g r
  -- only an await commits
  pub committing : (r : Error) → was ≡ Shown.a_gather_pending → look u g ≡ Shown.a_gather_failed r → is_none (says e).awaits ≡ false

-- ---- what is shown, by rows

moved-shown : (s u : Store) (x y : Object) → RowMoves x y → ShownMoves (shown s x) (shown u y)
unfolding shown
moved-shown s u Object.Unmade y p = tt
moved-shown s u (Object.Coroutine f x) Object.Unmade p = absurd p
moved-shown s u (Object.Coroutine f x) (Object.Coroutine g y) p = p
moved-shown s u (Object.Coroutine f x) (Object.ExternalFuture c y) p = absurd p
moved-shown s u (Object.Coroutine f x) (Object.GatherFuture g n y) p = absurd p
moved-shown s u (Object.ExternalFuture c (ExternalFutureState.Pending a r)) Object.Unmade p = absurd p
moved-shown s u (Object.ExternalFuture c (ExternalFutureState.Pending a r)) (Object.Coroutine g y) p = absurd p
moved-shown s u (Object.ExternalFuture c (ExternalFutureState.Pending a r)) (Object.ExternalFuture d (ExternalFutureState.Pending b q)) p = tt
moved-shown s u (Object.ExternalFuture c (ExternalFutureState.Pending a r)) (Object.ExternalFuture d (ExternalFutureState.Resolved v)) p = tt
moved-shown s u (Object.ExternalFuture c (ExternalFutureState.Pending a r)) (Object.ExternalFuture d (ExternalFutureState.Failed e)) p = tt
moved-shown s u (Object.ExternalFuture c (ExternalFutureState.Pending a r)) (Object.GatherFuture g n y) p = absurd p
moved-shown s u (Object.ExternalFuture c (ExternalFutureState.Resolved v)) Object.Unmade p = absurd p
moved-shown s u (Object.ExternalFuture c (ExternalFutureState.Resolved v)) (Object.Coroutine g y) p = absurd p
moved-shown s u (Object.ExternalFuture c (ExternalFutureState.Resolved v)) (Object.ExternalFuture d y) p = ap (λ (z : ExternalFutureState). shown u (Object.ExternalFuture d z)) p.1
moved-shown s u (Object.ExternalFuture c (ExternalFutureState.Resolved v)) (Object.GatherFuture g n y) p = absurd p
moved-shown s u (Object.ExternalFuture c (ExternalFutureState.Failed e)) Object.Unmade p = absurd p
moved-shown s u (Object.ExternalFuture c (ExternalFutureState.Failed e)) (Object.Coroutine g y) p = absurd p
moved-shown s u (Object.ExternalFuture c (ExternalFutureState.Failed e)) (Object.ExternalFuture d y) p = ap (λ (z : ExternalFutureState). shown u (Object.ExternalFuture d z)) p.1
moved-shown s u (Object.ExternalFuture c (ExternalFutureState.Failed e)) (Object.GatherFuture g n y) p = absurd p
moved-shown s u (Object.GatherFuture f n x) Object.Unmade p = absurd p
moved-shown s u (Object.GatherFuture f n x) (Object.Coroutine g y) p = absurd p
moved-shown s u (Object.GatherFuture f n x) (Object.ExternalFuture d y) p = absurd p
moved-shown s u (Object.GatherFuture f n GatherState.Pending) (Object.GatherFuture g m GatherState.Pending) p = inl refl
moved-shown s u (Object.GatherFuture f n GatherState.Pending) (Object.GatherFuture g m (GatherState.Awaited a k)) p = inr tt
moved-shown s u (Object.GatherFuture f n GatherState.Pending) (Object.GatherFuture g m GatherState.Completed) p = inr tt
moved-shown s u (Object.GatherFuture f n GatherState.Pending) (Object.GatherFuture g m (GatherState.Failed e)) p = inr tt
moved-shown s u (Object.GatherFuture f n (GatherState.Awaited a j)) (Object.GatherFuture g m GatherState.Pending) p = absurd p.2
moved-shown s u (Object.GatherFuture f n (GatherState.Awaited a j)) (Object.GatherFuture g m (GatherState.Awaited b k)) p = tt
moved-shown s u (Object.GatherFuture f n (GatherState.Awaited a j)) (Object.GatherFuture g m GatherState.Completed) p = tt
moved-shown s u (Object.GatherFuture f n (GatherState.Awaited a j)) (Object.GatherFuture g m (GatherState.Failed e)) p = tt
moved-shown s u (Object.GatherFuture f n GatherState.Completed) (Object.GatherFuture g m y) p = (_, ap (λ (z : GatherState). shown u (Object.GatherFuture g m z)) p.2)
moved-shown s u (Object.GatherFuture f n (GatherState.Failed e)) (Object.GatherFuture g m y) p = ap (λ (z : GatherState). shown u (Object.GatherFuture g m z)) p.2

-- by what is shown
abbrev pub IsAwaited : Shown → Type 0
IsAwaited (Shown.a_coroutine x f) = ⊥
IsAwaited Shown.an_external_pending = ⊥
IsAwaited (Shown.an_external_resolved v) = ⊥
IsAwaited (Shown.an_external_failed e) = ⊥
IsAwaited Shown.a_gather_pending = ⊥
IsAwaited (Shown.a_gather_awaited vs) = Unit {0}
IsAwaited (Shown.a_gather_completed vs) = ⊥
IsAwaited (Shown.a_gather_failed e) = ⊥
IsAwaited Shown.nothing = ⊥

abbrev pub IsPending : Shown → Type 0
IsPending (Shown.a_coroutine x f) = ⊥
IsPending Shown.an_external_pending = ⊥
IsPending (Shown.an_external_resolved v) = ⊥
IsPending (Shown.an_external_failed e) = ⊥
IsPending Shown.a_gather_pending = Unit {0}
IsPending (Shown.a_gather_awaited vs) = ⊥
IsPending (Shown.a_gather_completed vs) = ⊥
IsPending (Shown.a_gather_failed e) = ⊥
IsPending Shown.nothing = ⊥

abbrev pub IsFailed : Shown → Type 0
IsFailed (Shown.a_coroutine x f) = ⊥
IsFailed Shown.an_external_pending = ⊥
IsFailed (Shown.an_external_resolved v) = ⊥
IsFailed (Shown.an_external_failed e) = ⊥
IsFailed Shown.a_gather_pending = ⊥
IsFailed (Shown.a_gather_awaited vs) = ⊥
IsFailed (Shown.a_gather_completed vs) = ⊥
IsFailed (Shown.a_gather_failed e) = Unit {0}
IsFailed Shown.nothing = ⊥

pub row-awaited : (s : Store) (x : Object) → IsAwaited (shown s x) → (w : AwaitedGather) × (as_awaited x ≡ some w)
unfolding shown as_awaited
row-awaited s Object.Unmade k = absurd k
row-awaited s (Object.Coroutine f x) k = absurd k
row-awaited s (Object.ExternalFuture c (ExternalFutureState.Pending a r)) k = absurd k
row-awaited s (Object.ExternalFuture c (ExternalFutureState.Resolved v)) k = absurd k
row-awaited s (Object.ExternalFuture c (ExternalFutureState.Failed e)) k = absurd k
row-awaited s (Object.GatherFuture f n GatherState.Pending) k = absurd k
row-awaited s (Object.GatherFuture f n (GatherState.Awaited a m)) k = (record { first = f; count = n; awaiter = a; open_places = m }, refl)
row-awaited s (Object.GatherFuture f n GatherState.Completed) k = absurd k
row-awaited s (Object.GatherFuture f n (GatherState.Failed e)) k = absurd k

pub row-pending : (s : Store) (x : Object) → IsPending (shown s x) → (f : ℕ) × (n : ℕ) × (x ≡ Object.GatherFuture f n GatherState.Pending)
unfolding shown
row-pending s Object.Unmade k = absurd k
row-pending s (Object.Coroutine f x) k = absurd k
row-pending s (Object.ExternalFuture c (ExternalFutureState.Pending a r)) k = absurd k
row-pending s (Object.ExternalFuture c (ExternalFutureState.Resolved v)) k = absurd k
row-pending s (Object.ExternalFuture c (ExternalFutureState.Failed e)) k = absurd k
row-pending s (Object.GatherFuture f n GatherState.Pending) k = (f, n, refl)
row-pending s (Object.GatherFuture f n (GatherState.Awaited a m)) k = absurd k
row-pending s (Object.GatherFuture f n GatherState.Completed) k = absurd k
row-pending s (Object.GatherFuture f n (GatherState.Failed e)) k = absurd k

pub row-failed : (s : Store) (x : Object) (r : Error) → shown s x ≡ Shown.a_gather_failed r → (f : ℕ) × (n : ℕ) × (x ≡ Object.GatherFuture f n (GatherState.Failed r))
unfolding shown
row-failed s Object.Unmade r k = absurd (subst IsFailed (sym k) tt)
row-failed s (Object.Coroutine f x) r k = absurd (subst IsFailed (sym k) tt)
row-failed s (Object.ExternalFuture c (ExternalFutureState.Pending a q)) r k = absurd (subst IsFailed (sym k) tt)
row-failed s (Object.ExternalFuture c (ExternalFutureState.Resolved v)) r k = absurd (subst IsFailed (sym k) tt)
row-failed s (Object.ExternalFuture c (ExternalFutureState.Failed e)) r k = absurd (subst IsFailed (sym k) tt)
row-failed s (Object.GatherFuture f n GatherState.Pending) r k = absurd (subst IsFailed (sym k) tt)
row-failed s (Object.GatherFuture f n (GatherState.Awaited a m)) r k = absurd (subst IsFailed (sym k) tt)
row-failed s (Object.GatherFuture f n GatherState.Completed) r k = absurd (subst IsFailed (sym k) tt)
row-failed s (Object.GatherFuture f n (GatherState.Failed e)) r k = (f, n, let q : e ≡ r = cc in ap (λ (z : Error). Object.GatherFuture f n (GatherState.Failed z)) q)

-- what show gives: of an object that is made its row, of another nothing
pub look-row : (s : Store) (o : ℕ) → SoundStore s → ((o < (header s).made) × (look s o ≡ shown s (object s o))) ⊎ (((header s).made ≤ o) × (look s o ≡ Shown.nothing))
unfolding look shown_by
look-row s o w = by (ltb o (header s).made) refl
  where
    passes : (header s).made ≤ o → refusal s (Event.show o) ≡ 0 → ⊥
    passes l r = high (refusal-rest s (Event.show o) r)
      where
        high : first_refusal (refusals s (Event.show o)) ≡ 0 → ⊥
        high q = not-suc-le-zero {n = 0} (omega (arith, l, leb-false (header s).made o (unfold refusals unmade in (pass 4 (leb (header s).made o) [] q).0)))

    refused : (header s).made ≤ o → look s o ≡ Shown.nothing
    refused l = unfold look read shown_by in (ap (λ (x : Step). shown_by x.answer) (refused-step s (Event.show o) (refusal s (Event.show o)) refl (passes l)))

    by : (b : Bool) → ltb o (header s).made ≡ b → ((o < (header s).made) × (look s o ≡ shown s (object s o))) ⊎ (((header s).made ≤ o) × (look s o ≡ Shown.nothing))
    by true e = let l : o < (header s).made = ltb-true o (header s).made e in inl (l, unfold look in (ap shown_by (shows-made s o w l)))
    by false e = let l : (header s).made ≤ o = ltb-false o (header s).made e in inr (l, refused l)

-- ---- the items of a gather

abbrev pub IsMany : Frozen → Type 0
IsMany Frozen.unmade = ⊥
IsMany (co b) = ⊥
IsMany (pends c r) = ⊥
IsMany (gave v) = ⊥
IsMany (broke e) = ⊥
IsMany (many f n) = Unit {0}

pub reply_not_many : (c : ℕ) (r : OptionValue) (x : Option Result) → IsMany (reply_row c r x) → ⊥
unfolding reply_row
reply_not_many c r none k = k
reply_not_many c r (some x) k = by (eqb x.kind 0) k
  where
    by : (b : Bool) → IsMany (pick b (gave (value_or r (to_value x.tag x.number))) (broke (reply_error x))) → ⊥
    by true i = i
    by false i = i

module _ (h : List Entry) (s : Store) (k : Agrees h s) where
  list-by : (g f n : ℕ) → frozen (object s g) ≡ many f n → (e : Event) (since : List Entry) → Makes e since (frozen (object s g)) (λ p. (place s p).item.0) → (n ≡ length (says e).items) × ItemsAt (λ p. (place s p).item.0) f (says e).items
  unfolding Makes says
  list-by g f n q (Event.coroutine a) since y = absurd (subst IsMany (sym q ∙ y.1) tt)
  list-by g f n q Event.call since y = absurd y
  list-by g f n q (Event.pending c r) since y = absurd (reply_not_many c r (first_reply since c) (subst IsMany (sym q ∙ y) tt))
  list-by g f n q (Event.settled v) since y = absurd (subst IsMany (sym q ∙ y) tt)
  list-by g f n q (Event.gather os) since y =
      let p : ◌≡◌ {A = Frozen} (many f n) (many y.0 (length os)) = sym q ∙ y.1 in
      let a : f ≡ y.0 = cc in
      let b : n ≡ length os = cc in
      (b, subst (λ (m : ℕ). ItemsAt (λ p. (place s p).item.0) m os) (sym a) y.2)
  list-by g f n q (Event.await p) since y = absurd y
  list-by g f n q (Event.complete v) since y = absurd y
  list-by g f n q (Event.fail m) since y = absurd y
  list-by g f n q (Event.results rs) since y = absurd y
  list-by g f n q Event.resume since y = absurd y
  list-by g f n q (Event.cancel t) since y = absurd y
  list-by g f n q (Event.show p) since y = absurd y
  list-by g f n q Event.eager since y = absurd y

  -- as they were named at its making
  pub gather-list : (g f n : ℕ) → g < (header s).made → frozen (object s g) ≡ many f n → (n ≡ length (items h g)) × ItemsAt (λ p. (place s p).item.0) f (items h g)
  unfolding items MadeRight
  gather-list g f n l q = by (making h g) (k.makes g)
    where
      by : (m : Option Making) → MadeRight m (header s).made g (frozen (object s g)) (λ p. (place s p).item.0)
          → (n ≡ length {A = ℕ} (elim m as (λ (z : Option Making). List ℕ) [ none ↦ [] | some y ↦ (says y.event).items ])) × ItemsAt (λ p. (place s p).item.0) f (elim m as (λ (z : Option Making). List ℕ) [ none ↦ [] | some y ↦ (says y.event).items ])
      by none y = absurd (not-suc-le-zero {n = 0} (omega (arith, l, y)))
      by (some m) y = list-by g f n q m.event m.since y.1

-- the items to the left of place a, its own, and those to its right
record Split (i : ℕ → ℕ) (f : ℕ) (os : List ℕ) (a : ℕ) : Type 0 where
  left : List ℕ
  right : List ℕ
  whole : os ≡ left ++ (i (f + a) ∷ right)
  named : (o : ℕ) → is_in o left ≡ true → (j : ℕ) × (j < a) × (i (f + j) ≡ o)

split_at : (i : ℕ → ℕ) (f : ℕ) (os : List ℕ) (a : ℕ) → ItemsAt i f os → a < length os → Split i f os a
unfolding ItemsAt is_in
split_at i f [] a it l = absurd (not-suc-le-zero l)
split_at i f (o ∷ os) zero it l = record { left = []; right = os; whole = ap (λ (j : ℕ). j ∷ os) (sym it.0 ∙ ap i (plus f)); named = λ p q. absurd (true≢false (sym q)) }
  where
    plus : (f : ℕ) → f ≡ f + 0
    plus f = omega arith
split_at i f (o ∷ os) (suc a) it l = by (split_at i (f + 1) os a it.1 (omega (arith, l)))
  where
    next : (f j : ℕ) → f + 1 + j ≡ f + suc j
    next f j = omega arith

    plus : (f : ℕ) → f + 0 ≡ f
    plus f = omega arith

    by : Split i (f + 1) os a → Split i f (o ∷ os) (suc a)
    by r =
        record {
          left = o ∷ r.left;
          right = r.right;
          whole = ap (λ (l : List ℕ). o ∷ l) (r.whole ∙ ap (λ (j : ℕ). r.left ++ (i j ∷ r.right)) (next f a));
          named = λ p q. at p (eqb o p) refl (unfold is_in in q);
        }
      where
        at : (p : ℕ) (b : Bool) → eqb o p ≡ b → (b || is_in p r.left) ≡ true → (j : ℕ) × (j < suc a) × (i (f + j) ≡ p)
        at p true d q = (0, omega arith, ap i (plus f) ∙ (it.0 ∙ eqb-true o p d))
        at p false d q = let y = r.named p q in (suc y.0, omega (arith, y.1), ap i (sym (next f y.0)) ∙ y.2)

-- the item in place a is one of them
pub item_in : (i : ℕ → ℕ) (f : ℕ) (os : List ℕ) (a : ℕ) → ItemsAt i f os → a < length os → is_in (i (f + a)) os ≡ true
unfolding ItemsAt is_in
item_in i f [] a it l = absurd (not-suc-le-zero l)
item_in i f (o ∷ os) zero it l = ap (λ (b : Bool). b || is_in (i (f + 0)) os) (eq-eqb o (i (f + 0)) (sym it.0 ∙ ap i (plus f)))
  where
    plus : (f : ℕ) → f ≡ f + 0
    plus f = omega arith
item_in i f (o ∷ os) (suc a) it l = or_true (eqb o (i (f + suc a))) (is_in (i (f + suc a)) os) (subst (λ (j : ℕ). is_in (i j) os ≡ true) (next f a) (item_in i (f + 1) os a it.1 (omega (arith, l))))
  where
    next : (f j : ℕ) → f + 1 + j ≡ f + suc j
    next f j = omega arith

    or_true : (a b : Bool) → b ≡ true → (a || b) ≡ true
    or_true true b e = refl
    or_true false b e = e

-- ---- the items stay

pub making-later : (x : Entry) (h : List Entry) (g : ℕ) → is_at (tells x.answer).makes g ≡ false → making (x ∷ h) g ≡ later x (making h g)
unfolding making
making-later x h g e = ap (λ (b : Bool). elim b [ true ↦ some (record { event = x.event; since = [] }) | false ↦ later x (making h g) ]) e

listed : Option Making → List ℕ
listed none = []
listed (some m) = (says m.event).items

items-listed : (h : List Entry) (g : ℕ) → items h g ≡ listed (making h g)
unfolding items listed
items-listed h g = by (making h g)
  where
    by : (m : Option Making) → ◌≡◌ {A = List ℕ} (elim m [ none ↦ [] | some y ↦ (says y.event).items ]) (listed m)
    by none = unfold listed in refl
    by (some m) = unfold listed in refl

listed-later : (x : Entry) (m : Option Making) → listed (later x m) ≡ listed m
unfolding listed later
listed-later x none = refl
listed-later x (some m) = refl

pub items-later : (x : Entry) (h : List Entry) (g : ℕ) → is_at (tells x.answer).makes g ≡ false → items (x ∷ h) g ≡ items h g
items-later x h g e = items-listed (x ∷ h) g ∙ (ap listed (making-later x h g e) ∙ (listed-later x (making h g) ∙ sym (items-listed h g)))

-- an accepted event makes the next object, if any
abbrev pub MakesAt : ℕ → Option ℕ → Type 0
MakesAt n none = Unit {0}
MakesAt n (some o) = o ≡ n

pub accept_makes : (s : Store) (e : Event) → MakesAt (header s).made (tells (accept s e).answer).makes
unfolding accept tells done_only answer_await task_completes task_fails end_main switched resume_with_resolved_futures
accept_makes s (Event.coroutine f) = refl
accept_makes s Event.call = tt
accept_makes s (Event.pending c r) = refl
accept_makes s (Event.settled v) = refl
accept_makes s (Event.gather os) = refl
accept_makes s (Event.await o) = tt
accept_makes s (Event.complete v) = pick_has (λ (x : Step). MakesAt (header s).made (tells x.answer).makes) (eqb (runner (header s).moment) 0) tt tt
accept_makes s (Event.fail n) = pick_has (λ (x : Step). MakesAt (header s).made (tells x.answer).makes) (eqb (runner (header s).moment) 0) tt tt
accept_makes s (Event.results rs) = tt
accept_makes s Event.resume = pick_has (λ (x : Step). MakesAt (header s).made (tells x.answer).makes) (eqb s.queue.len 0) (by (pending_call_ids s)) tt
  where
    by : (cs : List ℕ) → MakesAt (header s).made (tells (repeat_wait cs)).makes
    by [] = unfold repeat_wait tells done_only in tt
    by (c ∷ cs) = unfold repeat_wait tells in tt
accept_makes s (Event.cancel t) = tt
accept_makes s (Event.show o) = tt
accept_makes s Event.eager = tt

pub made-apart : (n g : ℕ) (m : Option ℕ) → MakesAt n m → g < n → is_at m g ≡ false
unfolding is_at
made-apart n g none k l = refl
made-apart n g (some o) k l = ne_eqb o g (λ d. not-suc-le-zero {n = 0} (omega (arith, d, k, l)))

-- ---- an accepted event

abbrev IsUnmade : Frozen → Type 0
IsUnmade Frozen.unmade = Unit {0}
IsUnmade (co b) = ⊥
IsUnmade (pends c r) = ⊥
IsUnmade (gave v) = ⊥
IsUnmade (broke e) = ⊥
IsUnmade (many f n) = ⊥

moved_made : (x y : Object) → RowMoves x y → (x ≡ Object.Unmade → ⊥) → frozen y ≡ Frozen.unmade → ⊥
unfolding frozen
moved_made x Object.Unmade p n e = by x p n
  where
    by : (x : Object) → RowMoves x Object.Unmade → (x ≡ Object.Unmade → ⊥) → ⊥
    by Object.Unmade q m = m refl
    by (Object.Coroutine f z) q m = q
    by (Object.ExternalFuture c z) q m = q
    by (Object.GatherFuture f k z) q m = q
moved_made x (Object.Coroutine f CoroutineState.New) p n e = subst IsUnmade (sym e) tt
moved_made x (Object.Coroutine f CoroutineState.Running) p n e = subst IsUnmade (sym e) tt
moved_made x (Object.Coroutine f CoroutineState.Completed) p n e = subst IsUnmade (sym e) tt
moved_made x (Object.ExternalFuture c (ExternalFutureState.Pending a r)) p n e = subst IsUnmade (sym e) tt
moved_made x (Object.ExternalFuture c (ExternalFutureState.Resolved v)) p n e = subst IsUnmade (sym e) tt
moved_made x (Object.ExternalFuture c (ExternalFutureState.Failed v)) p n e = subst IsUnmade (sym e) tt
moved_made x (Object.GatherFuture f m z) p n e = subst IsUnmade (sym e) tt

-- a gather's row
frozen-gather : (f n : ℕ) (x : GatherState) → frozen (Object.GatherFuture f n x) ≡ many f n
frozen-gather f n x = unfold frozen in refl

pub awaited-many : (x : Object) (v : AwaitedGather) → as_awaited x ≡ some v → frozen x ≡ many (first_of x) (count_of x)
unfolding frozen first_of count_of
awaited-many x v e = ap frozen (awaited-object x v e) ∙ ap (λ (y : Object). many (first_of y) (count_of y)) (sym (awaited-object x v e))

pending-many : (x : Object) (f n : ℕ) → x ≡ Object.GatherFuture f n GatherState.Pending → frozen x ≡ many (first_of x) (count_of x)
unfolding frozen first_of count_of
pending-many x f n e = ap frozen e ∙ ap (λ (y : Object). many (first_of y) (count_of y)) (sym e)

module _ (h : List Entry) (s : Store) (w : SoundStore s) (a : Agrees h s) (k : Knows h s) (blank : s.log ≡ []) (e : Event) (i : InRange e) (rf : refusal s e ≡ 0) (w' : SoundStore (accept s e).store) where
  abbrev u : Store
  u = (accept s e).store

  abbrev y : Entry
  y = entry_of e (accept s e).answer (accept s e).store

  pub fl : EventFails e s (accept s e)
  fl = accept-fails s w e i rf

  pub agreed : Agrees (y ∷ h) u
  agreed = accept_agrees h s w a e rf

  pub known : Knows (y ∷ h) u
  known = step-knows h s w a k blank e (accept s e) fl (accept_accepts s e) rf

  -- what is made stays made
  pub made_still : (o : ℕ) → o < (header s).made → o < (header u).made
  unfolding view object_in_range
  made_still o l = by (ltb o (header u).made) refl
    where
      was : object s o ≡ Object.Unmade → ⊥
      was q = subst (λ (x : Object). T (object_in_range (header s) (places_below (object s) o) x)) q (w.facts.but.objects o l)

      by : (b : Bool) → ltb o (header u).made ≡ b → o < (header u).made
      by true q = ltb-true o (header u).made q
      by false q = absurd (moved_made (object s o) (object u o) (fl.moves o l) was (agreed.behind o (ltb-false o (header u).made q)))

  pub look_now : (o : ℕ) → o < (header s).made → look u o ≡ shown u (object u o)
  look_now o l = by (look-row u o w')
    where
      by : ((o < (header u).made) × (look u o ≡ shown u (object u o))) ⊎ (((header u).made ≤ o) × (look u o ≡ Shown.nothing)) → look u o ≡ shown u (object u o)
      by (inl q) = q.1
      by (inr q) = absurd (not-suc-le-zero {n = 0} (omega (arith, q.0, made_still o l)))

  abbrev C : ℕ → Option (Outcome Value Error)
  C o = coroutine_outcome (completed_value (y ∷ h) o) (failed_error (y ∷ h) o)

  pub outcome_now : (o : ℕ) → o < (header s).made → outcome (y ∷ h) (look u) o ≡ row_outcome C o (object u o)
  outcome_now o l = outcome-row (y ∷ h) u w' agreed o (made_still o l)

  pub items_now : (g : ℕ) → g < (header s).made → items (y ∷ h) g ≡ items h g
  unfolding entry_of
  items_now g l = items-later y h g (made-apart (header s).made g (tells (accept s e).answer).makes (accept_makes s e) l)

  -- the items of a gather are lower
  item_low : (g j f n : ℕ) (z : GatherState) → g < (header s).made → object s g ≡ Object.GatherFuture f n z → j < count_of (object s g) → item_at s g j < (header s).made
  unfolding view items_below first_of count_of
  item_low g j f n z l q b =
      let low : T (items_below (place s) g (Object.GatherFuture f n z)) = subst (λ (x : Object). T (items_below (place s) g x)) q (w.facts.but.items g l) in
      let less : (place s (f + j)).item.0 < g = ltb→lt _ g (below n _ low j (subst (λ (m : ℕ). j < m) (ap count_of q) b)) in
      omega (arith, l, subst (λ (m : ℕ). (place s (m + j)).item.0 < g) (sym (ap first_of q)) less)

  -- ---- a gather that was awaited

  was-awaited : (g f n : ℕ) (r : Error) (v : AwaitedGather) → g < (header s).made → as_awaited (object s g) ≡ some v → object u g ≡ Object.GatherFuture f n (GatherState.Failed r) → FailedItem e (y ∷ h) (look u) g r
  was-awaited g f n r v l p q =
      let b : FailedBy e s u g r = fl.awaited g f n r v l p q in
      let m = gather-list h s a g (first_of (object s g)) (count_of (object s g)) l (awaited-many (object s g) v p) in
      let low : b.item < (header s).made =
      subst (λ (j : ℕ). j < (header s).made) b.among.names (item_low g b.among.at v.first v.count (GatherState.Awaited v.awaiter v.open_places) l (awaited-object (object s g) v p) b.among.under) in
      record {
        item = b.item;
        among = ap (is_in b.item) (items_now g l)
            ∙ subst (λ (j : ℕ). is_in j (items h g) ≡ true) b.among.names (item_in (λ j. (place s j).item.0) (first_of (object s g)) (items h g) b.among.at m.1 (subst (λ (j : ℕ). b.among.at < j) m.0 b.among.under));
        raised_it = outcome_now b.item low ∙ raised-outcome h s w a k blank e (accept s e) fl (accept_accepts s e) rf b.item r b.raised;
        error = b.error;
      }

  -- ---- a gather that was pending

  -- what has been passed has not raised
  passed-unraised : (o : ℕ) (x : Object) → object u o ≡ x → Passed x → error_of (row_outcome C o x) ≡ none
  unfolding row_outcome error_of
  passed-unraised o Object.Unmade q p = absurd p
  passed-unraised o (Object.Coroutine f CoroutineState.New) q p = by (failed_error (y ∷ h) o) refl
    where
      by : (z : Option Error) → failed_error (y ∷ h) o ≡ z → error_of (coroutine_outcome (completed_value (y ∷ h) o) z) ≡ none
      by none d = none-error (completed_value (y ∷ h) o)
        where
          none-error : (v : Option Value) → error_of (coroutine_outcome v none) ≡ none
          none-error none = unfold coroutine_outcome error_of in refl
          none-error (some v) = unfold coroutine_outcome error_of in refl
      by (some z) d = absurd (subst UsedRow q (known.failed o z d))
  passed-unraised o (Object.Coroutine f CoroutineState.Running) q p = absurd p
  passed-unraised o (Object.Coroutine f CoroutineState.Completed) q p = absurd p
  passed-unraised o (Object.ExternalFuture c (ExternalFutureState.Pending b r)) q p = refl
  passed-unraised o (Object.ExternalFuture c (ExternalFutureState.Resolved v)) q p = refl
  passed-unraised o (Object.ExternalFuture c (ExternalFutureState.Failed v)) q p = absurd p
  passed-unraised o (Object.GatherFuture f n GatherState.Pending) q p = absurd p
  passed-unraised o (Object.GatherFuture f n (GatherState.Awaited b m)) q p = refl
  passed-unraised o (Object.GatherFuture f n GatherState.Completed) q p = refl
  passed-unraised o (Object.GatherFuture f n (GatherState.Failed v)) q p = absurd p

  -- what raises has come to the error, or is in use
  raises-came : (g o : ℕ) (x : Object) (r : Error) → PollRaises u g o x r → (row_outcome C o x ≡ some (raised r)) ⊎ Reuses u g o x r
  unfolding row_outcome
  raises-came g o _ _ (broken c r) = inl refl
  raises-came g o _ _ (failed f n r) = inl refl
  raises-came g o x r (reuses _ _ k) = inr k

  was-pending : (g f n j m : ℕ) (r : Error) → g < (header s).made → object s g ≡ Object.GatherFuture f n GatherState.Pending → object u g ≡ Object.GatherFuture j m (GatherState.Failed r) → FirstFailed (y ∷ h) u g r
  was-pending g f n j m r l p q =
      record {
        left = sp.left;
        item = it;
        right = sp.right;
        split = items_now g l ∙ sp.whole;
        made = made_still it (low b.at b.under);
        raises = raising (raises-came g it (object u it) r b.raises);
        unraised = λ o z. let t = sp.named o z in subst (λ (v : ℕ). error_of (outcome (y ∷ h) (look u) v) ≡ none) t.2 (unraised-at t.0 t.1);
        first = λ z. let t = sp.named it z in b.first t.0 t.1 t.2;
        on = b.on;
      }
    where
      b : CommitFailed s u g r
      b = fl.pending g f n j m r l p q

      it : ℕ
      it = item_at s g b.at

      list : (count_of (object s g) ≡ length (items h g)) × ItemsAt (λ v. (place s v).item.0) (first_of (object s g)) (items h g)
      list = gather-list h s a g (first_of (object s g)) (count_of (object s g)) l (pending-many (object s g) f n p)

      sp : Split (λ v. (place s v).item.0) (first_of (object s g)) (items h g) b.at
      sp = split_at (λ v. (place s v).item.0) (first_of (object s g)) (items h g) b.at list.1 (subst (λ (v : ℕ). b.at < v) list.0 b.under)

      low : (v : ℕ) → v < count_of (object s g) → item_at s g v < (header s).made
      low v c = item_low g v f n GatherState.Pending l p c

      raising : (row_outcome C it (object u it) ≡ some (raised r)) ⊎ Reuses u g it (object u it) r → (outcome (y ∷ h) (look u) it ≡ some (raised r)) ⊎ Reuses u g it (object u it) r
      raising (inl z) = inl (outcome_now it (low b.at b.under) ∙ z)
      raising (inr z) = inr z

      unraised-at : (v : ℕ) → v < b.at → error_of (outcome (y ∷ h) (look u) (item_at s g v)) ≡ none
      unraised-at v c = ap error_of (outcome_now (item_at s g v) (low v (omega (arith, c, b.under)))) ∙ passed-unraised (item_at s g v) (object u (item_at s g v)) refl (b.left v c)

  -- ---- every gather

  pub accepted-gather : (g : ℕ) → GatherFails e (look s g) (y ∷ h) u g
  accepted-gather g = by (look-row s g w)
    where
      by : ((g < (header s).made) × (look s g ≡ shown s (object s g))) ⊎ (((header s).made ≤ g) × (look s g ≡ Shown.nothing)) → GatherFails e (look s g) (y ∷ h) u g
      by (inl z) =
          record {
            moves = subst (λ (v : Shown). ShownMoves v (look u g)) (sym z.1) (subst (ShownMoves (shown s (object s g))) (sym (look_now g z.0)) (moved-shown s u (object s g) (object u g) (fl.moves g z.0)));
            awaited = λ vs r p q.
                let v = row-awaited s (object s g) (subst IsAwaited (sym (sym z.1 ∙ p)) tt) in
                let o = row-failed u (object u g) r (sym (look_now g z.0) ∙ q) in
                was-awaited g o.0 o.1 r v.0 z.0 v.1 o.2;
            pending = λ r p q.
                let v = row-pending s (object s g) (subst IsPending (sym (sym z.1 ∙ p)) tt) in
                let o = row-failed u (object u g) r (sym (look_now g z.0) ∙ q) in
                was-pending g v.0 v.1 o.0 o.1 r z.0 v.2 o.2;
            committing = λ r p q.
                let v = row-pending s (object s g) (subst IsPending (sym (sym z.1 ∙ p)) tt) in
                let o = row-failed u (object u g) r (sym (look_now g z.0) ∙ q) in
                fl.committing g v.0 v.1 o.0 o.1 r z.0 v.2 o.2;
          }
      by (inr z) =
          record {
            moves = subst (λ (v : Shown). ShownMoves v (look u g)) (sym z.1) tt;
            awaited = λ vs r p q. absurd (subst IsAwaited (sym p ∙ z.1) tt);
            pending = λ r p q. absurd (subst IsPending (sym p ∙ z.1) tt);
            committing = λ r p q. absurd (subst IsPending (sym p ∙ z.1) tt);
          }

-- ---- a refused event

refused_words : (h : List Entry) (e : Event) (n : ℕ) (u : Store) (t : ℕ) → (spawned_for (entry_of e (Answer.refused n) u ∷ h) t ≡ spawned_for h t) × (coroutine_of (entry_of e (Answer.refused n) u ∷ h) t ≡ coroutine_of h t)
unfolding spawned_for spawned_by coroutine_of started_by entry_of happened_by tells
refused_words h e n u t = (refl, refl)

refused-error : (h : List Entry) (e : Event) (n : ℕ) (u : Store) (c : ℕ) → failed_error (entry_of e (Answer.refused n) u ∷ h) c ≡ failed_error h c
unfolding failed_error exits_unstarted entry_of happened_by tells said nothing_said
refused-error h e n u c = by (is_at (running_coroutine h) c)
  where
    by : (b : Bool) → ◌≡◌ {A = Option Error} (elim b [ true ↦ failed_error h c | false ↦ failed_error h c ]) (failed_error h c)
    by true = refl
    by false = refl

refused-knows : (h : List Entry) (s u : Store) (e : Event) (n : ℕ) → header u ≡ header s → ((t : ℕ) → task u t ≡ task s t) → ((o : ℕ) → object u o ≡ object s o) → Knows h s → Knows (entry_of e (Answer.refused n) u ∷ h) u
refused-knows h s u e n hd ts os k =
    record {
      spawned = λ t l v. (refused_words h e n u (suc t)).0
          ∙ (k.spawned t (subst (λ (y : Header). suc t < y.next) hd l) (sym (ap (λ (r : Task). is_live r.state) (ts (suc t))) ∙ v) ∙ ap (λ (r : Task). some r.coroutine.0) (sym (ts (suc t))));
      unstarted = λ t l v. (refused_words h e n u t).1 ∙ k.unstarted t (subst (λ (y : Header). t < y.next) hd l) (sym (ap (λ (r : Task). is_unstarted r.state) (ts t)) ∙ v);
      unborn = λ t l. (refused_words h e n u t).1 ∙ k.unborn t (subst (λ (y : Header). y.next ≤ t) hd l);
      used = λ t c q. subst UsedRow (sym (os c)) (k.used t c (sym (refused_words h e n u t).1 ∙ q));
      failed = λ c r q. subst UsedRow (sym (os c)) (k.failed c r (sym (refused-error h e n u c) ∙ q));
    }

pub forget-knows : (h : List Entry) (s : Store) → Knows h s → Knows h (forget s)
unfolding forget task object header
forget-knows h s k = record { spawned = k.spawned; unstarted = k.unstarted; unborn = k.unborn; used = k.used; failed = k.failed }

-- what is shown twice goes no way
shown-same : (x : Shown) → ShownMoves x x
shown-same (Shown.a_coroutine x f) = (refl, stays x)
  where
    stays : (z : CoroutineState) → CoroutineMoves z z
    stays CoroutineState.New = tt
    stays CoroutineState.Running = tt
    stays CoroutineState.Completed = refl
shown-same Shown.an_external_pending = tt
shown-same (Shown.an_external_resolved v) = refl
shown-same (Shown.an_external_failed e) = refl
shown-same Shown.a_gather_pending = inl refl
shown-same (Shown.a_gather_awaited vs) = tt
shown-same (Shown.a_gather_completed vs) = (vs, refl)
shown-same (Shown.a_gather_failed e) = refl
shown-same Shown.nothing = tt

-- where nothing is shown otherwise, nothing has failed
same-gather : (e : Event) (was : Shown) (h : List Entry) (u : Store) (g : ℕ) → look u g ≡ was → GatherFails e was h u g
same-gather e was h u g q =
    record {
      moves = subst (ShownMoves was) (sym q) (shown-same was);
      awaited = λ vs r p z. absurd (subst IsAwaited (sym p ∙ (sym q ∙ z)) tt);
      pending = λ r p z. absurd (subst IsPending (sym p ∙ (sym q ∙ z)) tt);
      committing = λ r p z. absurd (subst IsPending (sym p ∙ (sym q ∙ z)) tt);
    }

-- the log is not shown
pub look-forget : (s : Store) (g : ℕ) → look (forget s) g ≡ look s g
unfolding look read
look-forget s g = ap (λ (x : Step). shown_by x.answer) (step-forget s (Event.show g))

-- ---- one step

record StepFails (h : List Entry) (s : Store) (e : Event) (x : Step) : Type 0 where
  knows : Knows (entry_of e x.answer x.store ∷ h) x.store
  gathers : (g : ℕ) → GatherFails e (look s g) (entry_of e x.answer x.store ∷ h) x.store g

step-fails : (h : List Entry) (s : Store) (e : Event) → SoundStore s → Agrees h s → Knows h s → InRange e → StepFails h s e (step s e)
step-fails h s e w a k i = by (ℕ_discrete (refusal s e) 0)
  where
    z : Store
    z = forget s

    wz : SoundStore z
    wz = forget_sound_store s w

    blank : z.log ≡ []
    blank = unfold forget in refl

    by : Dec (refusal s e ≡ 0) → StepFails h s e (step s e)
    by (yes r) =
        subst (StepFails h s e) (sym (accepted-step s e r))
        (record {
          knows = step-knows h z wz (forget_agrees h s a) (forget-knows h s k) blank e (accept z e) (accept-fails z wz e i rz) (accept_accepts z e) rz;
          gathers = λ g. subst (λ (v : Shown). GatherFails e v (entry_of e (accept z e).answer (accept z e).store ∷ h) (accept z e).store g) (look-forget s g)
              (accepted-gather h z wz (forget_agrees h s a) (forget-knows h s k) blank e i rz sound g);
        })
      where
        rz : refusal z e ≡ 0
        rz = refusal-forget s e ∙ r

        sound : SoundStore (accept z e).store
        sound = subst (λ (x : Step). SoundStore x.store) (accepted-step s e r) (step_sound_store s w e i)
    by (no ne) =
        subst (StepFails h s e) (sym (refused-step s e (refusal s e) refl ne))
        (record {
          knows = refused-knows h s z e (refusal s e) (unfold header forget in refl) (λ t. unfold task forget in refl) (λ o. unfold object forget in refl) k;
          gathers = λ g. same-gather e (look s g) _ z g (look-forget s g);
        })

-- ---- sessions

pub send-fails : (x : Session) (e : Sent) → InRange e.event → Following x → Agrees x.history x.store → Knows x.history x.store
    → Knows (send x e).history (send x e).store × ((g : ℕ) → GatherFails e.event (look x.store g) (send x e).history (send x e).store g)
unfolding send
send-fails x e i f a k = by (sends s e f.whole.memory.sized)
  where
    s : Store
    s = x.store

    h : List Entry
    h = x.history

    by : Sends s e → Knows (entry_of e.event (lent_any s e).answer (lent_any s e).store ∷ h) (lent_any s e).store
        × ((g : ℕ) → GatherFails e.event (look s g) (entry_of e.event (lent_any s e).answer (lent_any s e).store ∷ h) (lent_any s e).store g)
    by (stepped p q) =
        subst (λ (c : Answer). Knows (entry_of e.event c (lent_any s e).store ∷ h) (lent_any s e).store × ((g : ℕ) → GatherFails e.event (look s g) (entry_of e.event c (lent_any s e).store ∷ h) (lent_any s e).store g)) (sym q)
        (subst (λ (u : Store). Knows (entry_of e.event (step s e.event).answer u ∷ h) u × ((g : ℕ) → GatherFails e.event (look s g) (entry_of e.event (step s e.event).answer u ∷ h) u g)) (sym p)
        (let r = step-fails h s e.event f.whole a k i in (r.knows, r.gathers)))
    by (short p q) =
        subst (λ (c : Answer). Knows (entry_of e.event c (lent_any s e).store ∷ h) (lent_any s e).store × ((g : ℕ) → GatherFails e.event (look s g) (entry_of e.event c (lent_any s e).store ∷ h) (lent_any s e).store g)) (sym q)
        (subst (λ (u : Store). Knows (entry_of e.event (Answer.refused 1) u ∷ h) u × ((g : ℕ) → GatherFails e.event (look s g) (entry_of e.event (Answer.refused 1) u ∷ h) u g)) (sym p)
        (refused-knows h s s e.event 1 refl (λ t. refl) (λ o. refl) k, λ g. same-gather e.event (look s g) _ s g refl))

begun-knows : Knows [] fresh
unfolding computes coroutine_of failed_error
begun-knows =
    record {
      spawned = λ t l v. absurd (not-suc-le-zero {n = 0} (omega (arith, l)));
      unstarted = λ t l v. refl;
      unborn = λ t l. refl;
      used = λ t c q. absurd_some q;
      failed = λ c r q. absurd_some q;
    }

-- what is known after every session
all_know : (es : List Sent) (x : Session) → AllSentInRange es → Following x → Agrees x.history x.store → Knows x.history x.store → Knows (send_all x es).history (send_all x es).store
unfolding send_all AllSentInRange
all_know [] x i f a k = k
all_know (e ∷ es) x i f a k = all_know es (send x e) i.1 (send_following x e i.0 f) (send_agrees x e i.0 f a) (send-fails x e i.0 f a k).0

pub session-knows : (es : List Sent) → AllSentInRange es → Knows (session es).history (session es).store
unfolding session begun AllSentInRange send_all
session-knows es i = all_know es begun i (session_follows [] tt) (session_agrees [] tt) begun-knows

-- One more event, in any session: what it does to every gather.
pub session-fails : (es : List Sent) (e : Sent) → AllSentInRange es → InRange e.event → (g : ℕ)
    → GatherFails e.event (look (session es).store g) (send (session es) e).history (send (session es) e).store g
session-fails es e i j g = (send-fails (session es) e j (session_follows es i) (session_agrees es i) (session-knows es i)).1 g
