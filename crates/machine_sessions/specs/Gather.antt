-- Demand 2 over whole sessions holds: `demand_two`.
pub mod Arrivals
pub mod GatherSteps
pub mod Failing
pub mod FailingRows
pub mod FailingClimb
pub mod FailingCycle
pub mod FailingStated
pub mod FailingEvents
pub mod FailingMakes
pub mod FailingCommitSteps
pub mod FailingCommitItems
pub mod FailingCommit
pub mod FailingAwait
pub mod OwnFirst
pub mod FailingHistory
pub mod FailingSessions
pub mod Users
pub mod OutcomesStay
pub mod GatherEvents
pub mod LateLast
pub mod LogApart
pub mod RowsOnly
pub mod Batches
pub mod CutOutcomes
pub mod CutGathers
use Rattle.std.specs.Prelude.{◌≡◌, ◌⊎◌, Bool, not, ◌&&◌, List, [], ◌∷◌, ◌++◌, map, ltb, get_or}
use Rattle.std.proofs.Math.Path.{refl, subst}
use Rattle.std.proofs.Common.{ap, sym, ◌∙◌, inr, true≢false, not-suc-le-zero, arith, ltb-true, ltb-false}
use Rattle.std.proofs.Math.Logic.{inl}
use Rattle.std.proofs.Math.Bool.{true, false}
use Rattle.std.proofs.Math.Option.{Option, none, some, some-injective}
use Prim.Native.Nat.{ℕ, zero, suc, ◌+◌, ◌≤◌, ◌<◌}
use Rattle.std.proofs.Math.Dec.{eqb}
use Rattle.std.proofs.Math.ListN.{length}
use Rattle.asyncio.specs.declared.Value.{Value}
use Rattle.asyncio.specs.declared.Error.{Error}
use Rattle.asyncio.specs.declared.GatherState.{GatherState}
use Rattle.asyncio.specs.declared.Object.{Object}
use Rattle.asyncio.specs.Options.{OptionValue}
use Rattle.asyncio.specs.Numbers.{heap_id}
use Rattle.asyncio.specs.Layout.{to_value, to_error}
use Rattle.asyncio.specs.States.{pick}
use Rattle.machine.specs.Store.{Store, object, header, fresh}
use Rattle.machine.specs.Events.{Result}
use Rattle.machine.specs.Machine.{Event, Answer, Shown, shown}
use Rattle.machine.specs.Tests.{is_in}
use Rattle.machine.specs.Gather.{Outcome, returned, raised, gather}
use Rattle.machine.specs.History.{Entry, Making, says, said, nothing_said, tells, is_none, spawned_for, coroutine_of, running_coroutine, exits_unstarted, is_at, later, making, items, outcome, error_of, coroutine_outcome, completed_value, failed_error, first_reply, reply_error, Says, reply_in, reply_outcome, stored_or, shown_outcome, outcome_by}
use Rattle.machine.specs.Sessions.{Sent, Session, InRange, AllSentInRange, lent_any, entry_of, begun, send, send_all, session}
use Rattle.machine.specs.DemandThree.{read, shown_by, look}
use Rattle.machine_laws.specs.DeliveryLaws.{absurd_some}
use Rattle.machine_sessions.specs.Queue.Following.{session_follows}
use Rattle.machine_sessions.specs.Waits.{said-accepted}
use Rattle.machine_sessions.specs.Places.Agrees.{MadeRight}
use Rattle.machine_sessions.specs.Places.AgreesSessions.{session_agrees}
use Rattle.machine_sessions.specs.Places.PlacesHold.{row_outcome, outcome-row}
use Rattle.machine_sessions.specs.Gather.FailingStated.{Brings, Reuses, ResultIn, reuse, script, answer}
use Rattle.machine_sessions.specs.Gather.FailingHistory.{UsedRow, used-made}
use Rattle.machine_sessions.specs.Stall.Outcomes.{outcome_of, is_there}
use Rattle.machine.specs.DemandThree.{read, shown_by, delivered, none_open}
use Rattle.machine.specs.DemandTwo.{came, committed, is_late, InUse, ReuseAt, DemandTwo}
use Rattle.machine_sessions.specs.DemandThree.{demand_three}
use Rattle.machine_sessions.specs.Stall.WaitingSessions.{awaited_items_no_error}
use Rattle.machine_sessions.specs.Gather.Arrivals.{head_in, tail_in}
use Rattle.machine_sessions.specs.Gather.GatherSteps.{Delivered, NoneRaised, FailsLater, FailsAtCommit, GatherStep, Which, w_awaited, w_completed, w_failed, which, in_range_snoc, session_snoc, gather-right}
use Rattle.machine_sessions.specs.Gather.GatherEvents.{session-stays}
use Rattle.machine_sessions.specs.Gather.LateLast.{InPlace, item-place, item-committed, item-not-runner, item-late}
use Rattle.machine_sessions.specs.Gather.LogApart.{lent_entry}
use Rattle.machine_sessions.specs.Gather.Batches.{batch, few-said}
use Rattle.machine_sessions.specs.Gather.Users.{sent_in_use}
use Rattle.machine_sessions.specs.Gather.CutGathers.{cut_so_far}
use Rattle.machine_sessions.specs.Gather.FailingSessions.{ShownMoves, ShowsCommitted, FailedItem, FirstFailed, GatherFails, session-fails, making-later, look-row, row-failed, IsFailed, session-knows}

-- ---- what show answers

committed-read : (a : Answer) (l : Shown) → shown_by a ≡ l → committed l ≡ true → a ≡ Answer.shows l
unfolding shown_by committed
committed-read (Answer.made o) l e c = absurd (true≢false (sym c ∙ ap committed (sym e)))
committed-read (Answer.called n) l e c = absurd (true≢false (sym c ∙ ap committed (sym e)))
committed-read (Answer.control x) l e c = absurd (true≢false (sym c ∙ ap committed (sym e)))
committed-read (Answer.awaited x n) l e c = absurd (true≢false (sym c ∙ ap committed (sym e)))
committed-read Answer.done l e c = absurd (true≢false (sym c ∙ ap committed (sym e)))
committed-read (Answer.cancelled n) l e c = absurd (true≢false (sym c ∙ ap committed (sym e)))
committed-read Answer.stalled l e c = absurd (true≢false (sym c ∙ ap committed (sym e)))
committed-read (Answer.finished v) l e c = absurd (true≢false (sym c ∙ ap committed (sym e)))
committed-read (Answer.finished_error x) l e c = absurd (true≢false (sym c ∙ ap committed (sym e)))
committed-read (Answer.shows x) l e c = ap Answer.shows e
committed-read (Answer.is_eager b) l e c = absurd (true≢false (sym c ∙ ap committed (sym e)))
committed-read (Answer.refused n) l e c = absurd (true≢false (sym c ∙ ap committed (sym e)))

look-read : (s : Store) (g : ℕ) (l : Shown) → look s g ≡ l → committed l ≡ true → read s g ≡ Answer.shows l
unfolding look
look-read s g l e c = committed-read (read s g) l e c

-- ---- what stands after a session

abbrev StateRight : Session → ℕ → Type 0
StateRight x g =
    ((vs : List (Option Value)) → look x.store g ≡ Shown.a_gather_completed vs → Delivered x g vs × (none_open vs ≡ true))
    × ((vs : List (Option Value)) → look x.store g ≡ Shown.a_gather_awaited vs → Delivered x g vs × (none_open vs ≡ false) × NoneRaised x g)

state_right : (es : List Sent) → AllSentInRange es → (g : ℕ) → StateRight (session es) g
state_right es i g = (done, waits)
  where
    s : Store
    s = (session es).store

    h : List Entry
    h = (session es).history

    came-is : (o : ℕ) → came (session es) o ≡ outcome h (look s) o
    came-is o = unfold came in refl

    as-came : (vs : List (Option Value)) → vs ≡ map (delivered h s) (items h g) → Delivered (session es) g vs
    as-came vs e = unfold came in (unfold delivered in e)

    done : (vs : List (Option Value)) → look s g ≡ Shown.a_gather_completed vs → Delivered (session es) g vs × (none_open vs ≡ true)
    done vs e = let k = ((demand_three es i).places g).completed vs (look-read s g _ e (unfold committed in refl)) in (as-came vs k.0, k.1)

    quiet : (vs : List (Option Value)) → look s g ≡ Shown.a_gather_awaited vs → NoneRaised (session es) g
    quiet vs e o z =
        let a : InPlace s g o = item-place h s (session_follows es i).whole (session_agrees es i) g o vs e z in
        ap error_of (came-is o) ∙ subst (λ (n : ℕ). error_of (outcome h (look s) n) ≡ none) a.names (awaited_items_no_error es i g a.row a.made a.awaited a.at a.under)

    waits : (vs : List (Option Value)) → look s g ≡ Shown.a_gather_awaited vs → Delivered (session es) g vs × (none_open vs ≡ false) × NoneRaised (session es) g
    waits vs e = let k = ((demand_three es i).places g).awaited vs (look-read s g _ e (unfold committed in refl)) in (as-came vs k.0, k.1, quiet vs e)

-- ---- which errors an event brings to objects

abbrev Out : Type 0
Out = Outcome Value Error

raised-same : (a b : Error) → ◌≡◌ {A = Out} (raised a) (raised b) → a ≡ b
raised-same a b p = cc

-- a result of a list, by its reply
replied : (rs : List Result) (c : ℕ) (r : Result) → reply_in rs c ≡ some r → ResultIn r rs × (eqb r.kind 2 ≡ false)
unfolding reply_in ResultIn
replied [] c r q = absurd_some q
replied (x ∷ rs) c r q = by (eqb x.call c) (eqb x.kind 2) refl q (λ p. replied rs c r p)
  where
    by : (a b : Bool) → eqb x.kind 2 ≡ b → elim (a && not b) [ true ↦ some x | false ↦ reply_in rs c ] ≡ some r → (reply_in rs c ≡ some r → ResultIn r rs × (eqb r.kind 2 ≡ false)) → ((r ≡ x) ⊎ ResultIn r rs) × (eqb r.kind 2 ≡ false)
    by true false p d go = let e : x ≡ r = some-injective x r d in (inl (sym e), subst (λ (y : Result). eqb y.kind 2 ≡ false) e p)
    by true true p d go = let k = go d in (inr k.0, k.1)
    by false true p d go = let k = go d in (inr k.0, k.1)
    by false false p d go = let k = go d in (inr k.0, k.1)

-- an event with results
results_are : (e : Event) (r : Result) → ResultIn r (says e).results → (rs : List Result) × (e ≡ Event.results rs) × ResultIn r rs
unfolding says nothing_said ResultIn
results_are (Event.coroutine f) r k = absurd k
results_are Event.call r k = absurd k
results_are (Event.pending c x) r k = absurd k
results_are (Event.settled v) r k = absurd k
results_are (Event.gather os) r k = absurd k
results_are (Event.await o) r k = absurd k
results_are (Event.complete v) r k = absurd k
results_are (Event.fail n) r k = absurd k
results_are (Event.results rs) r k = (rs, refl, k)
results_are Event.resume r k = absurd k
results_are (Event.cancel t) r k = absurd k
results_are (Event.show o) r k = absurd k
results_are Event.eager r k = absurd k

-- an event that fails
fails-is : (e : Event) (n : ℕ) → (says e).fails ≡ some n → e ≡ Event.fail n
unfolding says nothing_said
fails-is (Event.coroutine f) n k = absurd_some k
fails-is Event.call n k = absurd_some k
fails-is (Event.pending c x) n k = absurd_some k
fails-is (Event.settled v) n k = absurd_some k
fails-is (Event.gather os) n k = absurd_some k
fails-is (Event.await o) n k = absurd_some k
fails-is (Event.complete v) n k = absurd_some k
fails-is (Event.fail m) n k = ap Event.fail (some-injective m n k)
fails-is (Event.results rs) n k = absurd_some k
fails-is Event.resume n k = absurd_some k
fails-is (Event.cancel t) n k = absurd_some k
fails-is (Event.show o) n k = absurd_some k
fails-is Event.eager n k = absurd_some k

says-fails : (n : ℕ) → (says (Event.fail n)).fails ≡ some n
unfolding says
says-fails n = refl

-- what is said is what the event says, or nothing
said_or : (x : Entry) → (said x ≡ says x.event) ⊎ (said x ≡ nothing_said)
unfolding said
said_or x = by (tells x.answer).accepts
  where
    by : (b : Bool) → (◌≡◌ {A = Says} (elim b [ true ↦ says x.event | false ↦ nothing_said ]) (says x.event)) ⊎ (◌≡◌ {A = Says} (elim b [ true ↦ says x.event | false ↦ nothing_said ]) nothing_said)
    by true = inl refl
    by false = inr refl

no_reply : (c : ℕ) → reply_in nothing_said.results c ≡ none
unfolding nothing_said reply_in
no_reply c = refl

no_fails : nothing_said.fails ≡ none
unfolding nothing_said
no_fails = refl

no_outcome : (r : OptionValue) → reply_outcome r none ≡ none
unfolding reply_outcome
no_outcome r = refl

-- a coroutine's error: coroutine-reuse, that of its running task's failure, or an earlier one
coroutine-error : (x : Entry) (h : List Entry) (c : ℕ) (z : Error) → failed_error (x ∷ h) c ≡ some z
    → (z ≡ Error.CoroutineReuse) ⊎ (((n : ℕ) × (running_coroutine h ≡ some c) × (x.event ≡ Event.fail n) × (z ≡ Error.Script n)) ⊎ (failed_error h c ≡ some z))
unfolding failed_error
coroutine-error x h c z q = by (exits_unstarted (spawned_for (x ∷ h)) (coroutine_of (x ∷ h)) x.happened c) (is_at (running_coroutine h) c) refl (said x).fails refl q
  where
    Why : Type 0
    Why = (z ≡ Error.CoroutineReuse) ⊎ (((n : ℕ) × (running_coroutine h ≡ some c) × (x.event ≡ Event.fail n) × (z ≡ Error.Script n)) ⊎ (failed_error h c ≡ some z))

    fails-now : (n : ℕ) → (said x).fails ≡ some n → x.event ≡ Event.fail n
    fails-now n k = of (said_or x)
      where
        of : (said x ≡ says x.event) ⊎ (said x ≡ nothing_said) → x.event ≡ Event.fail n
        of (inl d) = fails-is x.event n (ap (λ (y : Says). y.fails) (sym d) ∙ k)
        of (inr d) = absurd_some (sym (ap (λ (y : Says). y.fails) d ∙ no_fails) ∙ k)

    by : (a b : Bool) → is_at (running_coroutine h) c ≡ b → (v : Option ℕ) → (said x).fails ≡ v
        → elim a [ true ↦ some Error.CoroutineReuse | false ↦ elim b [ true ↦ elim v [ none ↦ failed_error h c | some n ↦ some (Error.Script n) ] | false ↦ failed_error h c ] ] ≡ some z → Why
    by true b r v k d = inl (sym (some-injective Error.CoroutineReuse z d))
    by false true r none k d = inr (inr d)
    by false true r (some n) k d = inr (inl (n, is_there (running_coroutine h) c r, fails-now n k, sym (some-injective (Error.Script n) z d)))
    by false false r v k d = inr (inr d)

-- an external's, in an event that is no failure
reply_brings : (x : Entry) (since : List Entry) (c : ℕ) (r : OptionValue) (z : Error) → reply_outcome r (first_reply since c) ≡ none → reply_outcome r (first_reply (x ∷ since) c) ≡ some (raised z)
    → Brings x.event z × ((says x.event).fails ≡ none)
unfolding first_reply
reply_brings x since c r z a b = by (first_reply since c) a b
  where
    brings : (y : Result) → reply_in (said x).results c ≡ some y → reply_outcome r (some y) ≡ some (raised z) → Brings x.event z × ((says x.event).fails ≡ none)
    brings y k d = of (said_or x)
      where
        not-zero : (eqb y.kind 0 ≡ false) × (reply_error y ≡ z)
        not-zero = kinds (eqb y.kind 0) refl (unfold reply_outcome in d)
          where
            kinds : (b : Bool) → eqb y.kind 0 ≡ b → some (pick b (returned (stored_or r (to_value y.tag y.number))) (raised (reply_error y))) ≡ some (raised z) → (eqb y.kind 0 ≡ false) × (reply_error y ≡ z)
            kinds true e j = absurd (not-raised (some-injective _ _ j))
              where
                not-raised : {v : Value} → returned v ≡ raised z → ⊥
                not-raised w = subst IsReturned w tt
                  where
                    IsReturned : Outcome Value Error → Type 0
                    IsReturned (returned v) = Unit {0}
                    IsReturned (raised e) = ⊥
            kinds false e j = (e, raised-same (reply_error y) z (some-injective _ _ j))

        of : (said x ≡ says x.event) ⊎ (said x ≡ nothing_said) → Brings x.event z × ((says x.event).fails ≡ none)
        of (inl d) =
            let k2 = replied (says x.event).results c y (ap (λ (u : Says). reply_in u.results c) (sym d) ∙ k) in
            let k3 = results_are x.event y k2.0 in
            (subst (Brings x.event) not-zero.1 (answer k3.0 y k3.1 k3.2 not-zero.0 k2.1), ap (λ (e : Event). (says e).fails) k3.1 ∙ (unfold says nothing_said in refl))
        of (inr d) = absurd_some (sym (ap (λ (u : Says). reply_in u.results c) d ∙ no_reply c) ∙ k)

    by : (v : Option Result) → reply_outcome r v ≡ none → reply_outcome r (elim v [ some y ↦ some y | none ↦ reply_in (said x).results c ]) ≡ some (raised z) → Brings x.event z × ((says x.event).fails ≡ none)
    by (some y) p d = absurd_some (sym p ∙ d)
    by none p d = found (reply_in (said x).results c) refl d
      where
        found : (v : Option Result) → reply_in (said x).results c ≡ v → reply_outcome r v ≡ some (raised z) → Brings x.event z × ((says x.event).fails ≡ none)
        found none k j = absurd_some (sym (no_outcome r) ∙ j)
        found (some y) k j = brings y k j

-- ---- rows that have come to something

used-row : (C : ℕ → Option (Outcome Value Error)) (o : ℕ) (x : Object) → UsedRow x → row_outcome C o x ≡ C o
unfolding row_outcome
used-row C o Object.Unmade k = absurd k
used-row C o (Object.Coroutine f x) k = refl
used-row C o (Object.ExternalFuture c x) k = absurd k
used-row C o (Object.GatherFuture f n x) k = absurd k

had_error : (v : Option Value) (e : Error) → coroutine_outcome v (some e) ≡ none → ⊥
unfolding coroutine_outcome
had_error none e q = absurd_some (sym q)
had_error (some v) e q = absurd_some (sym q)

only_error : (v : Option Value) (e : Option Error) (z : Error) → coroutine_outcome v e ≡ some (raised z) → e ≡ some z
unfolding coroutine_outcome
only_error none none z q = absurd_some q
only_error none (some e) z q = ap (λ (x : Error). some x) (raised-same e z (some-injective _ _ q))
only_error (some v) e z q = absurd (not-raised v z (some-injective _ _ q))
  where
    IsReturned : Outcome Value Error → Type 0
    IsReturned (returned w) = Unit {0}
    IsReturned (raised x) = ⊥

    not-raised : (v : Value) (z : Error) → ◌≡◌ {A = Out} (returned v) (raised z) → ⊥
    not-raised v z w = subst IsReturned w tt

shown-raised : (o : ℕ) (l : Shown) (z : Error) → shown_outcome o l ≡ some (raised z) → l ≡ Shown.a_gather_failed z
unfolding shown_outcome
shown-raised o (Shown.a_coroutine x f) z q = absurd_some q
shown-raised o Shown.an_external_pending z q = absurd_some q
shown-raised o (Shown.an_external_resolved v) z q = absurd_some q
shown-raised o (Shown.an_external_failed e) z q = absurd_some q
shown-raised o Shown.a_gather_pending z q = absurd_some q
shown-raised o (Shown.a_gather_awaited vs) z q = absurd_some q
shown-raised o (Shown.a_gather_completed vs) z q = absurd (not-raised (Value.List (heap_id o)) z (some-injective _ _ q))
  where
    IsReturned : Outcome Value Error → Type 0
    IsReturned (returned w) = Unit {0}
    IsReturned (raised x) = ⊥

    not-raised : (v : Value) (z : Error) → ◌≡◌ {A = Out} (returned v) (raised z) → ⊥
    not-raised v z w = subst IsReturned w tt
shown-raised o (Shown.a_gather_failed e) z q = ap Shown.a_gather_failed (raised-same e z (some-injective _ _ q))
shown-raised o Shown.nothing z q = absurd_some q

failed-row-raises : (C : ℕ → Option (Outcome Value Error)) (o f n : ℕ) (r : Error) → row_outcome C o (Object.GatherFuture f n (GatherState.Failed r)) ≡ some (raised r)
unfolding row_outcome
failed-row-raises C o f n r = refl

-- ---- items by their places

named-at : (l : List ℕ) (x : ℕ) (r : List ℕ) → get_or (l ++ (x ∷ r)) (length l) 0 ≡ x
named-at [] x r = refl
named-at (a ∷ l) x r = named-at l x r

left-short : (l : List ℕ) (x : ℕ) (r : List ℕ) → length l < length (l ++ (x ∷ r))
left-short [] x r = omega arith
left-short (a ∷ l) x r = omega (arith, left-short l x r)

left-named : (l r : List ℕ) (b : ℕ) → b < length l → is_in (get_or (l ++ r) b 0) l ≡ true
left-named [] r b q = absurd (not-suc-le-zero {n = 0} (omega (arith, q)))
left-named (a ∷ l) r zero q = head_in a l
left-named (a ∷ l) r (suc b) q = tail_in (get_or (l ++ r) b 0) a l (left-named l r b (omega (arith, q)))

-- ---- one event

late_is : (e : Error) → is_late (raised e) ≡ true → e ≡ Error.CoroutineReuse
unfolding is_late
late_is (Error.Host n) q = absurd (true≢false (sym q))
late_is (Error.Script n) q = absurd (true≢false (sym q))
late_is Error.CoroutineReuse q = refl
late_is Error.FutureReuse q = absurd (true≢false (sym q))
late_is Error.GatherReuse q = absurd (true≢false (sym q))
late_is Error.NotFound q = absurd (true≢false (sym q))
late_is Error.ModuleFile q = absurd (true≢false (sym q))

-- an event's own error is one
one-result : (rs : List Result) (a b : Result) → length rs ≤ 1 → ResultIn a rs → ResultIn b rs → a ≡ b
unfolding ResultIn
one-result [] a b l p q = absurd p
one-result (x ∷ []) a b l (inl p) (inl q) = p ∙ sym q
one-result (x ∷ []) a b l (inl p) (inr q) = absurd q
one-result (x ∷ []) a b l (inr p) q = absurd p
one-result (x ∷ (y ∷ rs)) a b l p q = absurd (not-suc-le-zero {n = 0} (omega (arith, l)))

own_same : (v : Event) (e z : Error) → length (says v).results ≤ 1 → Brings v e → Brings v z → is_late (raised e) ≡ false → is_late (raised z) ≡ false → z ≡ e
unfolding says nothing_said is_late
own_same v e z l (reuse n) b p q = absurd (true≢false p)
own_same v e z l (script n d) (reuse a) p q = absurd (true≢false q)
own_same v e z l (script n d) (script m c) p q = ap Error.Script (some-injective m n (ap (λ (x : Event). (says x).fails) (sym c ∙ d)))
own_same v e z l (script n d) (answer rs r c i j k) p q = absurd_some (ap (λ (x : Event). (says x).fails) (sym c ∙ d))
own_same v e z l (answer rs r c i j k) (reuse a) p q = absurd (true≢false q)
own_same v e z l (answer rs r c i j k) (script m d) p q = absurd_some (ap (λ (x : Event). (says x).fails) (sym c ∙ d))
own_same v e z l (answer rs r c i j k) (answer ts t d x y w) p q =
    ap reply_error (one-result rs t r (subst (λ (u : Event). length (says u).results ≤ 1) c l) (subst (ResultIn t) (ap (λ (u : Event). (says u).results) (sym d ∙ c)) x) i)

-- a reply is not late
reply_early : (r : Result) → is_late (raised (reply_error r)) ≡ false
unfolding reply_error is_late
reply_early r = by (eqb r.kind 1) (eqb r.kind 3)
  where
    by : (a b : Bool) → is_late (raised (pick a (to_error 0 r.number) (pick b Error.NotFound Error.ModuleFile))) ≡ false
    by true b = refl
    by false true = refl
    by false false = refl

-- an event that brings late and other errors is a failure
late-and-early : (v : Event) (e z : Error) → Brings v e → Brings v z → is_late (raised e) ≡ true → is_late (raised z) ≡ false → (n : ℕ) × (v ≡ Event.fail n)
unfolding says nothing_said ResultIn is_late
late-and-early v e z a (reuse n) p q = absurd (true≢false q)
late-and-early v e z a (script n d) p q = (n, d)
late-and-early v e z (reuse n) (answer rs r d i j k) p q = let o : rs ≡ [] = ap (λ (x : Event). (says x).results) (sym d) ∙ n in absurd (subst (ResultIn r) o i)
late-and-early v e z (script m c) (answer rs r d i j k) p q = absurd (true≢false (sym p))
late-and-early v e z (answer ts t c x y w) (answer rs r d i j k) p q = absurd (true≢false (sym p ∙ reply_early t))

module _ (ps : List Sent) (s : Sent) (j : AllSentInRange ps) (i : InRange s.event) where
  abbrev x : Session
  x = session ps

  abbrev y : Session
  y = send (session ps) s

  abbrev h : List Entry
  h = (session ps).history

  abbrev X : Entry
  X = entry_of s.event (lent_any (session ps).store s).answer (lent_any (session ps).store s).store

  -- why an object has come to an error in the event: its task failed at its first run, or ran and failed; a reply; it is a gather, which was awaited or not
  data NewError (o : ℕ) (z : Error) : Type 0 where
    at-first-run : z ≡ Error.CoroutineReuse → NewError o z
    of-runner : (n : ℕ) → running_coroutine (session ps).history ≡ some o → s.event ≡ Event.fail n → z ≡ Error.Script n → NewError o z
    by-reply : Brings s.event z → (says s.event).fails ≡ none → NewError o z
    of-awaited : (us : List (Option Value)) → look (session ps).store o ≡ Shown.a_gather_awaited us → look (send (session ps) s).store o ≡ Shown.a_gather_failed z → Brings s.event z → NewError o z
    of-pending : look (session ps).store o ≡ Shown.a_gather_pending → NewError o z

  new-error : (o : ℕ) (z : Error) → came x o ≡ none → came y o ≡ some (raised z) → NewError o z
  unfolding came send outcome outcome_by entry_of first_reply error_of later making
  new-error o z a b = by (making (X ∷ h) o) refl b
    where
      L : ℕ → Shown
      L = look (send (session ps) s).store

      -- made before the event, or in it
      before : (m : Making) → making (X ∷ h) o ≡ some m → (m.since ≡ []) ⊎ ((k : Making) × (making h o ≡ some k) × (m.event ≡ k.event) × (m.since ≡ X ∷ k.since))
      before m q = at (is_at (tells X.answer).makes o) refl
        where
          here : (k : Option Making) → later X k ≡ some m → (k2 : Making) × (k ≡ some k2) × (m.event ≡ k2.event) × (m.since ≡ X ∷ k2.since)
          here none d = absurd_some d
          here (some k) d = let e : record { event = k.event; since = X ∷ k.since } ≡ m = some-injective _ m d in (k, refl, ap (λ (w : Making). w.event) (sym e), ap (λ (w : Making). w.since) (sym e))

          at : (c : Bool) → is_at (tells X.answer).makes o ≡ c → (m.since ≡ []) ⊎ ((k : Making) × (making h o ≡ some k) × (m.event ≡ k.event) × (m.since ≡ X ∷ k.since))
          at true d = inl (ap (λ (w : Making). w.since) (sym (some-injective _ m (sym (now d) ∙ q))))
            where
              now : is_at (tells X.answer).makes o ≡ true → making (X ∷ h) o ≡ some (record { event = X.event; since = [] })
              now d = (ap (λ (b : Bool). elim b [ true ↦ some (record { event = X.event; since = [] }) | false ↦ later X (making h o) ]) d)
          at false d = inr (here (making h o) (sym (making-later X h o d) ∙ q))

      was-none : (k : Making) → making h o ≡ some k → outcome_by h (look (session ps).store) o k.event k.since ≡ none
      was-none k q = sym (ap was-by q) ∙ a
        where
          was-by : Option Making → Option Out
          was-by w = elim w [ none ↦ none | some m ↦ outcome_by h (look (session ps).store) o m.event m.since ]

      by : (m : Option Making) → making (X ∷ h) o ≡ m → ◌≡◌ {A = Option Out} (elim m [ none ↦ none | some k ↦ outcome_by (X ∷ h) L o k.event k.since ]) (some (raised z)) → NewError o z
      by none q d = absurd_some d
      by (some m) q d = of m.event refl d
        where
          ss : Store
          ss = (session ps).store

          low_or : (o < (header ss).made) ⊎ ((header ss).made ≤ o)
          low_or = at (ltb o (header ss).made) refl
            where
              at : (c : Bool) → ltb o (header ss).made ≡ c → (o < (header ss).made) ⊎ ((header ss).made ≤ o)
              at true e = inl (ltb-true o (header ss).made e)
              at false e = inr (ltb-false o (header ss).made e)

          row-none : o < (header ss).made → row_outcome (outcome_of h) o (object ss o) ≡ none
          row-none l = sym (outcome-row h ss (session_follows ps j).whole (session_agrees ps j) o l) ∙ a

          -- it had no error before
          no_old : failed_error h o ≡ some z → ⊥
          no_old e = at low_or
            where
              used : UsedRow (object ss o)
              used = (session-knows ps j).failed o z e

              at : (o < (header ss).made) ⊎ ((header ss).made ≤ o) → ⊥
              at (inl l) = had_error (completed_value h o) z (ap (coroutine_outcome (completed_value h o)) (sym e) ∙ (sym (used-row (outcome_of h) o (object ss o) used) ∙ row-none l))
              at (inr l) = used-made (object ss o) used ((session_agrees ps j).behind o l)

          -- a gather
          shown-failed : L o ≡ Shown.a_gather_failed z → NewError o z
          shown-failed e = at (look ss o) refl (session-fails ps s j i o).moves
            where
              not-moved : {l : Shown} → Shown.a_gather_failed z ≡ l → (IsFailed l → ⊥) → ⊥
              not-moved w n = n (subst IsFailed w tt)

              at : (l : Shown) → look ss o ≡ l → ShownMoves (look ss o) (L o) → NewError o z
              at (Shown.a_coroutine c f) w k = absurd (subst (ShownMoves (Shown.a_coroutine c f)) e (subst (λ (v : Shown). ShownMoves v (L o)) w k))
              at Shown.an_external_pending w k = absurd (subst (ShownMoves Shown.an_external_pending) e (subst (λ (v : Shown). ShownMoves v (L o)) w k))
              at (Shown.an_external_resolved v) w k = absurd (not-moved (subst (ShownMoves (Shown.an_external_resolved v)) e (subst (λ (u : Shown). ShownMoves u (L o)) w k)) (λ x. x))
              at (Shown.an_external_failed r) w k = absurd (not-moved (subst (ShownMoves (Shown.an_external_failed r)) e (subst (λ (u : Shown). ShownMoves u (L o)) w k)) (λ x. x))
              at Shown.a_gather_pending w k = of-pending w
              at (Shown.a_gather_awaited vs) w k = of-awaited vs w e ((session-fails ps s j i o).awaited vs z w e).error
              at (Shown.a_gather_completed vs) w k = let p = subst (λ (u : Shown). ShownMoves u (L o)) w k in absurd (not-moved (sym e ∙ p.1) (λ x. x))
              at (Shown.a_gather_failed r) w k = absurd (failed_before (look-row ss o (session_follows ps j).whole))
                where
                  failed_before : ((o < (header ss).made) × (look ss o ≡ shown ss (object ss o))) ⊎ (((header ss).made ≤ o) × (look ss o ≡ Shown.nothing)) → ⊥
                  failed_before (inl b) =
                      let v = row-failed ss (object ss o) r (sym b.1 ∙ w) in
                      absurd_some (sym (row-none b.0) ∙ (ap (row_outcome (outcome_of h) o) v.2 ∙ failed-row-raises (outcome_of h) o v.0 v.1 r))
                  failed_before (inr b) = subst IsFailed (sym w ∙ b.1) tt
              at Shown.nothing w k = absurd ((session-stays ps s j i).not-failed o z w e)

          of : (v : Event) → m.event ≡ v → outcome_by (X ∷ h) L o v m.since ≡ some (raised z) → NewError o z
          of (Event.coroutine f) e c = cases (coroutine-error X h o z (only_error _ _ z c))
            where
              cases : (z ≡ Error.CoroutineReuse) ⊎ (((n : ℕ) × (running_coroutine h ≡ some o) × (X.event ≡ Event.fail n) × (z ≡ Error.Script n)) ⊎ (failed_error h o ≡ some z)) → NewError o z
              cases (inl k) = at-first-run k
              cases (inr (inl k)) = of-runner k.0 k.1 k.2 k.3
              cases (inr (inr k)) = absurd (no_old k)
          of Event.call e c = absurd_some c
          of (Event.pending n r) e c = cases (before m q)
            where
              Reply : List Entry → Type 0
              Reply l = reply_outcome r (first_reply l n) ≡ some (raised z)

              cases : (m.since ≡ []) ⊎ ((k : Making) × (making h o ≡ some k) × (m.event ≡ k.event) × (m.since ≡ X ∷ k.since)) → NewError o z
              cases (inl d) = absurd_some (sym (no_outcome r) ∙ subst Reply d c)
              cases (inr k) =
                  let d = reply_brings X k.0.since n r z (subst (λ (v : Event). outcome_by h (look ss) o v k.0.since ≡ none) (sym k.2 ∙ e) (was-none k.0 k.1)) (subst Reply k.3 c) in
                  by-reply d.0 d.1
          of (Event.settled v) e c = absurd_some (ap error_of c)
          of (Event.gather os) e c = shown-failed (shown-raised o (L o) z c)
          of (Event.await p) e c = absurd_some c
          of (Event.complete v) e c = absurd_some c
          of (Event.fail n) e c = absurd_some c
          of (Event.results rs) e c = absurd_some c
          of Event.resume e c = absurd_some c
          of (Event.cancel t) e c = absurd_some c
          of (Event.show p) e c = absurd_some c
          of Event.eager e c = absurd_some c

  -- what is said, and what is shown after a refusal
  said-says : (tells X.answer).accepts ≡ true → said X ≡ says s.event
  unfolding entry_of
  said-says a = said-accepted s.event (lent_any (session ps).store s).answer (lent_any (session ps).store s).store a

  unchanged : (tells X.answer).accepts ≡ false → (g : ℕ) → look y.store g ≡ look x.store g
  unfolding entry_of send
  unchanged a g = (session-stays ps s j i).refused-same a g

  -- ---- gather g

  module _ (g : ℕ) (few : length (said X).results ≤ 1) where
    abbrev fs : GatherFails s.event (look (session ps).store g) (send (session ps) s).history (send (session ps) s).store g
    fs = session-fails ps s j i g

    made_low : committed (look x.store g) ≡ true → g < (header x.store).made
    made_low c = by (look-row x.store g (session_follows ps j).whole)
      where
        by : ((g < (header x.store).made) × (look x.store g ≡ shown x.store (object x.store g))) ⊎ (((header x.store).made ≤ g) × (look x.store g ≡ Shown.nothing)) → g < (header x.store).made
        by (inl b) = b.0
        by (inr b) = absurd (true≢false (sym c ∙ (ap committed b.1 ∙ nothing-not)))
          where
            nothing-not : committed Shown.nothing ≡ false
            nothing-not = unfold committed in refl

    stays-now : (o : ℕ) (z : Out) → came x o ≡ some z → came y o ≡ some z
    unfolding came send
    stays-now o z q = (session-stays ps s j i).outcomes o z q

    same-items : committed (look x.store g) ≡ true → items y.history g ≡ items x.history g
    unfolding send
    same-items c = (session-stays ps s j i).same-items g (made_low c)

    after-right : StateRight y g
    after-right = subst (λ (z : Session). StateRight z g) (session_snoc ps s) (state_right (ps ++ (s ∷ [])) (in_range_snoc ps s j i) g)

    moved : (l : Shown) → look x.store g ≡ l → ShownMoves l (look y.store g)
    moved l e = subst (λ (v : Shown). ShownMoves v (look y.store g)) e fs.moves

    committed-on : (l : Shown) → ShowsCommitted l → committed l ≡ true
    unfolding committed
    committed-on (Shown.a_coroutine c f) k = absurd k
    committed-on Shown.an_external_pending k = absurd k
    committed-on (Shown.an_external_resolved v) k = absurd k
    committed-on (Shown.an_external_failed e) k = absurd k
    committed-on Shown.a_gather_pending k = absurd k
    committed-on (Shown.a_gather_awaited vs) k = refl
    committed-on (Shown.a_gather_completed vs) k = refl
    committed-on (Shown.a_gather_failed e) k = refl
    committed-on Shown.nothing k = absurd k

    stays_committed : committed (look x.store g) ≡ true → committed (look y.store g) ≡ true
    stays_committed c = by (which (look x.store g) c)
      where
        by : Which (look x.store g) → committed (look y.store g) ≡ true
        by (w_awaited vs q) = committed-on (look y.store g) (moved (Shown.a_gather_awaited vs) q)
        by (w_completed vs q) = let k = moved (Shown.a_gather_completed vs) q in ap committed k.1 ∙ committed-on (Shown.a_gather_completed k.0) tt
        by (w_failed e q) = ap committed (moved (Shown.a_gather_failed e) q) ∙ committed-on (Shown.a_gather_failed e) tt

    -- an item that had not raised, and has
    was-none : (o : ℕ) (e : Error) → error_of (came x o) ≡ none → came y o ≡ some (raised e) → came x o ≡ none
    was-none o e n q = by (came x o) refl n
      where
        by : (v : Option Out) → came x o ≡ v → error_of v ≡ none → v ≡ none
        by none d m = refl
        by (some (raised z)) d m = absurd_some (sym m ∙ error-some z)
          where
            error-some : (z : Error) → error_of (some (raised z)) ≡ some z
            error-some z = unfold error_of in refl
        by (some (returned v)) d m = absurd_some (error-none v ∙ (ap error_of (sym (stays-now o (returned v) d) ∙ q) ∙ error-some e))
          where
            error-none : (v : Value) → none ≡ error_of (some (returned v))
            error-none v = unfold error_of in refl

            error-some : (z : Error) → error_of (some (raised z)) ≡ some z
            error-some z = unfold error_of in refl

    -- g was awaited and fails with e, and its item o comes to an error z that is not late
    module _ (e : Error) (vs : List (Option Value)) (p : look x.store g ≡ Shown.a_gather_awaited vs) (q : look y.store g ≡ Shown.a_gather_failed e) (o : ℕ) (z : Error)
        (n : is_in o (items y.history g) ≡ true) (a : came x o ≡ none) (m : is_late (raised z) ≡ false) where
      brought : Brings s.event e
      brought = (fs.awaited vs e p q).error

      named : is_in o (items (session ps).history g) ≡ true
      named = subst (λ (os : List ℕ). is_in o os ≡ true) (same-items (ap committed p ∙ (unfold committed in refl))) n

      -- the event is accepted, for it changes what is shown
      few-in : (b : Bool) → (tells X.answer).accepts ≡ b → length (says s.event).results ≤ 1
      few-in true k = subst (λ (v : Says). length v.results ≤ 1) (said-says k) few
      few-in false k = absurd (subst IsFailed (sym q ∙ (unchanged k g ∙ p)) tt)

      few-results : length (says s.event).results ≤ 1
      few-results = few-in (tells X.answer).accepts refl

      nothing : outcome (session ps).history (look (session ps).store) o ≡ none
      nothing = unfold came in a

      not_late : {A : Type 0} → z ≡ Error.CoroutineReuse → A
      not_late d = absurd (true≢false (sym reuse-late ∙ (ap (λ (v : Error). is_late (raised v)) (sym d) ∙ m)))
        where
          reuse-late : is_late (raised Error.CoroutineReuse) ≡ true
          reuse-late = unfold is_late in refl

      -- then e is not late
      none-early : NewError o z → is_late (raised e) ≡ true → ⊥
      none-early (at-first-run d) l = not_late d
      none-early (of-runner k r d w) l = item-not-runner ps s j i g o vs e p q named nothing k d (late_is e l) r
      none-early (by-reply d w) l = let k = late-and-early s.event e z brought d l m in absurd_some (sym w ∙ (ap (λ (v : Event). (says v).fails) k.1 ∙ says-fails k.0))
      none-early (of-awaited us r d w) l = let k = late-and-early s.event e z brought w l m in not_late (item-late ps s j i g o vs e p q named nothing k.0 k.1 (late_is e l) us z r d)
      none-early (of-pending d) l = item-committed ps s j i g o vs e p q named nothing d

      -- and z is e
      early-same : NewError o z → is_late (raised e) ≡ false → z ≡ e
      early-same (at-first-run d) l = not_late d
      early-same (of-runner k r d w) l = own_same s.event e z few-results brought (subst (Brings s.event) (sym w) (script k d)) l m
      early-same (by-reply d w) l = own_same s.event e z few-results brought d l m
      early-same (of-awaited us r d w) l = own_same s.event e z few-results brought w l m
      early-same (of-pending d) l = absurd (item-committed ps s j i g o vs e p q named nothing d)

    fails-behind : (e : Error) (vs : List (Option Value)) → look x.store g ≡ Shown.a_gather_awaited vs → look y.store g ≡ Shown.a_gather_failed e → FailsLater x y g e
    fails-behind e vs p q =
        record {
          item = f.item;
          named = f.among;
          fresh = was-none f.item e (quiet f.item (subst (λ (os : List ℕ). is_in f.item os ≡ true) (same-items c) f.among)) raises;
          raises = raises;
          others = λ o z n a b. by o z n a b (is_late (raised e)) refl (is_late (raised z)) refl;
        }
      where
        f : FailedItem s.event y.history (look y.store) g e
        f = fs.awaited vs e p q

        c : committed (look x.store g) ≡ true
        c = ap committed p ∙ (unfold committed in refl)

        quiet : NoneRaised x g
        quiet = ((state_right ps j g).1 vs p).2

        raises : came y f.item ≡ some (raised e)
        raises = unfold came in f.raised_it

        by : (o : ℕ) (z : Error) → is_in o (items y.history g) ≡ true → came x o ≡ none → came y o ≡ some (raised z) → (l : Bool) → is_late (raised e) ≡ l → (m : Bool) → is_late (raised z) ≡ m
            → (z ≡ e) ⊎ ((is_late (raised z) ≡ true) × (is_late (raised e) ≡ false))
        by o z n a b true l true m = inl (late_is z m ∙ sym (late_is e l))
        by o z n a b true l false m = absurd (none-early e vs p q o z n a m (new-error o z a b) l)
        by o z n a b false l true m = inr (m, l)
        by o z n a b false l false m = inl (early-same e vs p q o z n a m (new-error o z a b) l)

    fails_later : (e : Error) → committed (look x.store g) ≡ true → look y.store g ≡ Shown.a_gather_failed e → (look x.store g ≡ Shown.a_gather_failed e) ⊎ FailsLater x y g e
    fails_later e c q = by (which (look x.store g) c)
      where
        same-error : (a b : Error) → Shown.a_gather_failed a ≡ Shown.a_gather_failed b → a ≡ b
        same-error a b d = cc

        by : Which (look x.store g) → (look x.store g ≡ Shown.a_gather_failed e) ⊎ FailsLater x y g e
        by (w_awaited vs p) = inr (fails-behind e vs p q)
        by (w_completed vs p) = let k = moved (Shown.a_gather_completed vs) p in absurd (subst IsFailed (sym q ∙ k.1) tt)
        by (w_failed r p) = inl (p ∙ ap Shown.a_gather_failed (same-error r e (sym (moved (Shown.a_gather_failed r) p) ∙ q)))

    -- a gather that fails at its commit was pending
    pub pending-before : (e : Error) → committed (look x.store g) ≡ false → look y.store g ≡ Shown.a_gather_failed e → look x.store g ≡ Shown.a_gather_pending
    pending-before e c q = by (look x.store g) refl
      where
        not-moved : {l : Shown} → Shown.a_gather_failed e ≡ l → (IsFailed l → ⊥) → ⊥
        not-moved w n = n (subst IsFailed w tt)

        by : (l : Shown) → look x.store g ≡ l → look x.store g ≡ Shown.a_gather_pending
        by (Shown.a_coroutine k f) w = absurd (subst (ShownMoves (Shown.a_coroutine k f)) q (moved _ w))
        by Shown.an_external_pending w = absurd (subst (ShownMoves Shown.an_external_pending) q (moved _ w))
        by (Shown.an_external_resolved v) w = absurd (not-moved (subst (ShownMoves (Shown.an_external_resolved v)) q (moved _ w)) (λ z. z))
        by (Shown.an_external_failed r) w = absurd (not-moved (subst (ShownMoves (Shown.an_external_failed r)) q (moved _ w)) (λ z. z))
        by Shown.a_gather_pending w = w
        by (Shown.a_gather_awaited vs) w = absurd (true≢false (sym (committed-on (Shown.a_gather_awaited vs) tt) ∙ (ap committed (sym w) ∙ c)))
        by (Shown.a_gather_completed vs) w = absurd (true≢false (sym (committed-on (Shown.a_gather_completed vs) tt) ∙ (ap committed (sym w) ∙ c)))
        by (Shown.a_gather_failed r) w = absurd (true≢false (sym (committed-on (Shown.a_gather_failed r) tt) ∙ (ap committed (sym w) ∙ c)))
        by Shown.nothing w = absurd ((session-stays ps s j i).not-failed g e w (unfold send in q))

    fails_at_commit : (e : Error) → committed (look x.store g) ≡ false → look y.store g ≡ Shown.a_gather_failed e → ReuseAt y g e ⊎ FailsAtCommit y g e
    fails_at_commit e c q = at-commit (fs.pending e (pending-before e c q) q)
      where
        at-commit : FirstFailed y.history y.store g e → ReuseAt y g e ⊎ FailsAtCommit y g e
        at-commit f = of f.raises
          where
            it : get_or (items y.history g) (length f.left) 0 ≡ f.item
            it = ap (λ (os : List ℕ). get_or os (length f.left) 0) f.split ∙ named-at f.left f.item f.right

            low : length f.left < length (items y.history g)
            low = subst (λ (os : List ℕ). length f.left < length os) (sym f.split) (left-short f.left f.item f.right)

            quiet : (b : ℕ) → b < length f.left → error_of (came y (get_or (items y.history g) b 0)) ≡ none
            quiet b l =
                subst (λ (os : List ℕ). error_of (came y (get_or os b 0)) ≡ none) (sym f.split)
                (unfold came in (f.unraised (get_or (f.left ++ (f.item ∷ f.right)) b 0) (left-named f.left (f.item ∷ f.right) b l)))

            apart : (b : ℕ) → b < length f.left → get_or (items y.history g) b 0 ≡ get_or (items y.history g) (length f.left) 0 → ⊥
            apart b l d =
                f.first (subst (λ (o : ℕ). is_in o f.left ≡ true) (ap (λ (os : List ℕ). get_or os b 0) (sym f.split) ∙ (d ∙ it)) (left-named f.left (f.item ∷ f.right) b l))

            used : Reuses y.store g f.item (object y.store f.item) e → InUse y g (get_or (items y.history g) (length f.left) 0) (look y.store (get_or (items y.history g) (length f.left) 0)) e
            used k = subst (λ (o : ℕ). InUse y g o (look y.store o) e) (sym it) (sent_in_use ps s j i g f.item e f.on f.made k)

            of : (outcome y.history (look y.store) f.item ≡ some (raised e)) ⊎ Reuses y.store g f.item (object y.store f.item) e → ReuseAt y g e ⊎ FailsAtCommit y g e
            of (inl k) = inr (record { at = length f.left; within = low; raises = ap (came y) it ∙ (unfold came in k); left = quiet })
            of (inr k) = inl (record { at = length f.left; within = low; left = quiet; first = apart; in_use = used k })

    pub gather-step : GatherStep x y g
    gather-step =
        record {
          stays = stays-now;
          items_stay = same-items;
          stays_committed = stays_committed;
          stays_failed = λ e q. moved (Shown.a_gather_failed e) q;
          completed = after-right.0;
          awaited = after-right.1;
          fails_later = fails_later;
          fails_at_commit = fails_at_commit;
        }

-- a fresh session has no gather
fresh-not : (g : ℕ) → committed (look begun.store g) ≡ false
unfolding making MadeRight session send_all committed AllSentInRange begun
fresh-not g = by (look-row begun.store g (session_follows [] tt).whole) ((session_agrees [] tt).makes g)
  where
    by : ((g < (header begun.store).made) × (look begun.store g ≡ shown begun.store (object begun.store g))) ⊎ (((header begun.store).made ≤ g) × (look begun.store g ≡ Shown.nothing))
        → (header begun.store).made ≤ g → committed (look begun.store g) ≡ false
    by (inl b) l = absurd (not-suc-le-zero {n = 0} (omega (arith, b.0, l)))
    by (inr b) l = ap committed b.1

-- ---- every list of events

-- no result commits a gather
result_commits_none : (ps : List Sent) (r : Result) (l : List ℕ) (g : ℕ) (e : Error) → AllSentInRange ps → committed (look (session ps).store g) ≡ false
    → look (send (session ps) (batch (r ∷ []) l)).store g ≡ Shown.a_gather_failed e → ⊥
unfolding InRange entry_of says is_none
result_commits_none ps r l g e j c q =
    true≢false ((session-fails ps (batch (r ∷ []) l) j tt g).committing e
    (pending-before ps (batch (r ∷ []) l) j tt g (few-said (lent_entry (session ps).store (batch (r ∷ []) l)) (λ a. omega arith)) e c q) q)

-- For every list of events, and every gather that was committed.
pub demand_two : DemandTwo
demand_two es i g c =
    gather-right g (λ ps s a b d. gather-step ps s a b g d) (λ ps e. cut_so_far g (λ qs r l z j. result_commits_none qs r l g z j) ps e) (fresh-not g) es i c
