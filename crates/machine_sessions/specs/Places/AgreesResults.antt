-- Rows and history agree after a batch of results: an external that was pending has what the first reply to its call says.
use Rattle.std.specs.Prelude.{◌≡◌, Bool, ◌&&◌, length}
use Rattle.std.proofs.Math.Path.{refl, sym, ap, subst}
use Rattle.std.proofs.Common.{ap₂, ◌∙◌, arith}
use Rattle.std.proofs.Math.Bool.{true, false, not, true≢false}
use mathlib.Core.List.{List, [], ◌∷◌}
use Rattle.std.proofs.Math.Option.{Option, none, some, some-injective}
use Prim.Native.Nat.{ℕ, zero, suc, ◌+◌, ◌≤◌, ◌<◌}
use Rattle.std.proofs.Math.Nat.{not-suc-le-zero}
use Rattle.std.proofs.Math.Decide.{ℕ_discrete}
use Rattle.std.proofs.Math.Dec.{T, eqb}
use borrow.Author.Tests.{eq-eqb, ne_eqb, eqb-true}
use Rattle.asyncio.specs.declared.TaskId.{TaskId}
use Rattle.asyncio.specs.declared.CallId.{CallId}
use Rattle.asyncio.specs.declared.Value.{Value}
use Rattle.asyncio.specs.declared.Error.{Error}
use Rattle.asyncio.specs.Options.{OptionValue}
use Rattle.std.specs.Prelude.{None, Some}
use Rattle.asyncio.specs.declared.Awaiter.{Awaiter}
use Rattle.asyncio.specs.declared.CoroutineState.{CoroutineState}
use Rattle.asyncio.specs.declared.ExternalFutureState.{ExternalFutureState}
use Rattle.asyncio.specs.declared.Object.{Object}
use Rattle.asyncio.specs.declared.Place.{Place}
use Rattle.asyncio.specs.declared.Task.{Task}
use Rattle.asyncio.specs.declared.Moment.{Moment}
use Rattle.asyncio.specs.declared.Header.{Header}
use Rattle.asyncio.specs.Limits.{object_limit, task_limit}
use Rattle.asyncio.specs.Ranges.{ObjectFits, ErrorFits, AwaiterFits, ValueFits}
use Rattle.asyncio.specs.RangeLaws.{object_back}
use Rattle.asyncio.specs.Layout.{object_words, to_object, to_value, to_error}
use Rattle.asyncio.specs.Parts.{awaiter_of}
use Rattle.asyncio.specs.Kinds.{kind, is_completed}
use Rattle.asyncio.specs.States.{pick, is_live, is_unstarted}
use Rattle.rows.specs.Tables.{header_at}
use Rattle.machine.specs.Store.{Store, view, task, object, place, header, put_object, put_queue}
use Rattle.machine.specs.Scheduler.{PendingExternal, as_pending, pending_external, pending_external_in, is_call}
use Rattle.machine.specs.Delivery.{value_or, resolve_pending, fail_pending, settle_pending, settle_found, resolve_future, fail_future, deliver_awaiter_success, deliver_awaiter_failure}
use Rattle.machine.specs.Events.{Control, Result, apply_result, apply_future_results, wake_in_order}
use Rattle.machine.specs.Machine.{Event, Answer, Step, accept}
use Rattle.machine.specs.Sound.{value_known, is_ended}
use Rattle.machine.specs.History.{Entry, Making, Says, says, said, tells, done_only, is_at, reply_in, first_reply, reply_error, later, making, runner_by, running, started_by, coroutine_of, completed_value}
use Rattle.machine_laws.specs.Views.{Sized}
use Rattle.machine_laws.specs.Facts.{Nothing}
use Rattle.machine_laws.specs.StoreLaws.{header-fits, header_put-object, object_put-other, object-fits, sized-put_object}
use Rattle.machine_laws.specs.DeliveryLaws.{absurd_some}
use Rattle.machine_laws.specs.MakingLaws.{value-fits}
use Rattle.machine_theorems.specs.Soundness.Stores.{SoundDuring, SoundStore, during_of}
use Rattle.machine_theorems.specs.Soundness.Results.{resolve_delivering, MayApply, AllApply, host_fits, result_keeps, results-keep, ordered-keep}
use Rattle.machine_laws.specs.DeliveryLaws.{pending-object}
use Rattle.machine.specs.Sessions.{entry_of}
use Rattle.machine_sessions.specs.Waits.{said-accepted}
use Rattle.machine_sessions.specs.Waits.Calls.{pending_call, read_back}
use Rattle.machine_sessions.specs.Waits.CallEvents.{is_call-at, none_first, call-pending, pending_has, found-call}
use Rattle.machine_sessions.specs.Places.Told.{Frozen, unmade, co, pends, gave, broke, many, frozen, told, queue_told, EndsTask, own_back, TaskTold, Holds, Told, Gives}
use Rattle.machine_sessions.specs.Places.Telling.{success_tells, failure_tells, gives_own, GivesTo}
use Rattle.machine_sessions.specs.Places.ToldEnds.{told_as, told_now}
use Rattle.machine_sessions.specs.Places.Agrees.{items_like, reply_row, Makes, MadeRight, Agrees, reply_then, none_made, no_value}
use Rattle.machine_sessions.specs.Places.AgreesEvents.{StepAgrees}

-- ---- what replies leave of a row

unfoldable pub answer_row : List Result → Frozen → Frozen
answer_row xs unmade = unmade
answer_row xs (co b) = co b
answer_row xs (pends c r) = reply_row c r (reply_in xs c)
answer_row xs (gave v) = gave v
answer_row xs (broke e) = broke e
answer_row xs (many f n) = many f n

abbrev NotPends : Frozen → Type 0
NotPends unmade = Unit {0}
NotPends (co b) = Unit {0}
NotPends (pends c r) = ⊥
NotPends (gave v) = Unit {0}
NotPends (broke e) = Unit {0}
NotPends (many f n) = Unit {0}

reply_one : (x : Result) (xs : List Result) (c : ℕ) → reply_in (x ∷ xs) c ≡ elim (eqb x.call c && not (eqb x.kind 2)) [ true ↦ some x | false ↦ reply_in xs c ]
unfolding reply_in
reply_one x xs c = refl

-- a reply is the last word
settled-stays : (xs : List Result) (c : ℕ) (r : OptionValue) (x : Result) → answer_row xs (reply_row c r (some x)) ≡ reply_row c r (some x)
unfolding reply_row answer_row
settled-stays xs c r x = by (eqb x.kind 0)
  where
    by : (b : Bool) → answer_row xs (pick b (gave (value_or r (to_value x.tag x.number))) (broke (reply_error x))) ≡ pick b (gave (value_or r (to_value x.tag x.number))) (broke (reply_error x))
    by true = refl
    by false = refl

answer-then : (x : Result) (xs : List Result) (y : Frozen) → answer_row xs (answer_row (x ∷ []) y) ≡ answer_row (x ∷ xs) y
unfolding answer_row
answer-then x xs unmade = refl
answer-then x xs (co b) = refl
answer-then x xs (gave v) = refl
answer-then x xs (broke e) = refl
answer-then x xs (many f n) = refl
answer-then x xs (pends c r) = ap (λ (y : Option Result). answer_row xs (reply_row c r y)) (reply_one x [] c) ∙ (by (eqb x.call c && not (eqb x.kind 2)) ∙ ap (reply_row c r) (sym (reply_one x xs c)))
  where
    by : (b : Bool) → answer_row xs (reply_row c r (elim b [ true ↦ some x | false ↦ reply_in [] c ])) ≡ reply_row c r (elim b [ true ↦ some x | false ↦ reply_in xs c ])
    by true = settled-stays xs c r x
    by false = unfold reply_in reply_row answer_row in refl

-- rows of other calls
answer-apart : (x : Result) (y : Frozen) → ((c : ℕ) (r : OptionValue) → y ≡ pends c r → (eqb x.call c && not (eqb x.kind 2)) ≡ false) → answer_row (x ∷ []) y ≡ y
unfolding answer_row
answer-apart x unmade h = refl
answer-apart x (co b) h = refl
answer-apart x (gave v) h = refl
answer-apart x (broke e) h = refl
answer-apart x (many f n) h = refl
answer-apart x (pends c r) h =
    ap (reply_row c r) (reply_one x [] c ∙ ap (λ (b : Bool). elim b [ true ↦ some x | false ↦ reply_in [] c ]) (h c r refl)) ∙ (unfold reply_in reply_row in refl)

-- the row of its own call
answer_own : (x : Result) (c : ℕ) (r : OptionValue) → x.call ≡ c → eqb x.kind 2 ≡ false → answer_row (x ∷ []) (pends c r) ≡ reply_row c r (some x)
unfolding answer_row
answer_own x c r e k =
    ap (reply_row c r) (reply_one x [] c ∙ ap₂ (λ (a b : Bool). elim (a && not b) [ true ↦ some x | false ↦ reply_in [] c ]) (eq-eqb x.call c e) k)

pends-call : (x : Object) (c : ℕ) (r : OptionValue) → frozen x ≡ pends c r → pending_call x ≡ some c
unfolding frozen pending_call
pends-call Object.Unmade c r e = absurd (subst NotPends e tt)
pends-call (Object.Coroutine f CoroutineState.New) c r e = absurd (subst NotPends e tt)
pends-call (Object.Coroutine f CoroutineState.Running) c r e = absurd (subst NotPends e tt)
pends-call (Object.Coroutine f CoroutineState.Completed) c r e = absurd (subst NotPends e tt)
pends-call (Object.ExternalFuture d (ExternalFutureState.Pending a y)) c r e = let z : d.0 ≡ c = cc in ap (λ (n : ℕ). some n) z
pends-call (Object.ExternalFuture d (ExternalFutureState.Resolved v)) c r e = absurd (subst NotPends e tt)
pends-call (Object.ExternalFuture d (ExternalFutureState.Failed v)) c r e = absurd (subst NotPends e tt)
pends-call (Object.GatherFuture f n y) c r e = absurd (subst NotPends e tt)

-- ---- one result

module _ (n : ℕ) (i : ℕ → ℕ) (D : ℕ → Option Value) (S : ℕ → Option ℕ) where
  pub record Answered (xs : List Result) (q : ℕ → Frozen) (u : Store) : Type 0 where
    pub told : Told (λ o. frozen (object u o)) n i D S u
    pub rows : (o : ℕ) → o < n → frozen (object u o) ≡ answer_row xs (q o)
    pub kept : (o : ℕ) → NotPends (q o) → frozen (object u o) ≡ q o

  abbrev K : Store → Type 0
  K u = Told (λ o. frozen (object u o)) n i D S u

  -- a pending external settles
  module _ (s : Store) (k : K s) (o : ℕ) (p : PendingExternal) (low : o < object_limit) (e : as_pending (object s o) ≡ some p) (y : Object) (z : Frozen)
      (back : frozen (to_object (object_words y)) ≡ z) (free : awaiter_of y ≡ Awaiter.Nobody) where
    abbrev u : Store
    u = put_object s o y

    was : frozen (object s o) ≡ pends p.call.0 p.stored
    unfolding frozen
    was = ap frozen (pending-object (object s o) p e)

    now : frozen (object u o) ≡ z
    now = ap frozen (read_back s o y k.sized low) ∙ back

    other : (j : ℕ) → (j ≡ o → ⊥) → frozen (object u j) ≡ frozen (object s j)
    other j ne = ap frozen (object_put-other s o j y ne)

    abbrev Q : ℕ → Frozen
    Q j = frozen (object u j)

    here-holds : (x : OptionValue) → Holds (λ j. frozen (object s j)) D o x → Holds Q D o x
    unfolding told
    here-holds None h = tt
    here-holds (Some v) h = absurd_some (sym (ap (told D o) was) ∙ h)

    other-holds : (j : ℕ) → (j ≡ o → ⊥) → (x : OptionValue) → Holds (λ j. frozen (object s j)) D j x → Holds Q D j x
    other-holds j ne None h = tt
    other-holds j ne (Some v) h = ap (told D j) (other j ne) ∙ h

    settled : Told Q n i D S u
    settled =
        record {
          sized = sized-put_object s o y k.sized;
          made = ap (λ (h : Header). h.made) (header_put-object s o y) ∙ k.made;
          begun = subst (λ (h : Header). 1 ≤ h.next) (sym (header_put-object s o y)) k.begun;
          rows = λ j. refl;
          items = λ x. unfold place put_object in (unfold place in (k.items x));
          holds = λ x. unfold place put_object in (unfold place in (by x (ℕ_discrete (i x) o)));
          own = λ j. own-by j (ℕ_discrete j o);
          tasks = λ t b m. unfold task put_object in (unfold task in (k.tasks t (subst (λ (h : Header). suc t < h.next) (header_put-object s o y) b) (unfold task put_object in m)));
          main = unfold task put_object in (unfold task in k.main);
        }
      where
        by : (x : ℕ) → Dec (i x ≡ o) → Holds Q D (i x) (place s x).result
        by x (yes d) = subst (λ (j : ℕ). Holds Q D j (place s x).result) (sym d) (here-holds (place s x).result (subst (λ (j : ℕ). Holds (λ j. frozen (object s j)) D j (place s x).result) d (k.holds x)))
        by x (no ne) = other-holds (i x) ne (place s x).result (k.holds x)

        own-by : (j : ℕ) → Dec (j ≡ o) → EndsTask j (awaiter_of (object u j))
        own-by j (yes d) =
            subst (λ (m : ℕ). EndsTask m (awaiter_of (object u m))) (sym d) (subst (λ (x : Object). EndsTask o (awaiter_of x)) (sym (read_back s o y k.sized low)) (own-free (subst (EndsTask o) (sym free) tt)))
          where
            own-free : EndsTask o (awaiter_of y) → EndsTask o (awaiter_of (to_object (object_words y)))
            own-free m = own_back o y low m
        own-by j (no ne) = subst (λ (x : Object). EndsTask j (awaiter_of x)) (sym (object_put-other s o j y ne)) (k.own j)

    awaiter_own : EndsTask o p.awaiter
    unfolding awaiter_of
    awaiter_own = subst (λ (x : Object). EndsTask o (awaiter_of x)) (pending-object (object s o) p e) (k.own o)

    awaiter-low : AwaiterFits p.awaiter
    awaiter-low = (subst ObjectFits (pending-object (object s o) p e) (object-fits s o)).1.0

    -- then it is delivered
    delivered : (x : Result) (v : Store) → x.call ≡ p.call.0 → eqb x.kind 2 ≡ false → reply_row p.call.0 p.stored (some x) ≡ z
        → ((j : ℕ) → j < n → (j ≡ o → ⊥) → pending_call (object s j) ≡ some x.call → ⊥) → Told Q n i D S v → Answered (x ∷ []) (λ j. frozen (object s j)) v
    delivered x v ec ek ez alone t =
        record {
          told = told_as Q _ n n i i D D S S v t.rows refl (λ j. refl) (λ j. refl) (λ j. refl) t;
          rows = λ j l. t.rows j ∙ row j l (ℕ_discrete j o);
          kept = λ j h. t.rows j ∙ keep j h (ℕ_discrete j o);
        }
      where
        row : (j : ℕ) → j < n → Dec (j ≡ o) → Q j ≡ answer_row (x ∷ []) (frozen (object s j))
        row j l (yes d) = subst (λ (m : ℕ). Q m ≡ answer_row (x ∷ []) (frozen (object s m))) (sym d) (now ∙ (sym ez ∙ (sym (answer_own x p.call.0 p.stored ec ek) ∙ ap (answer_row (x ∷ [])) (sym was))))
        row j l (no ne) = other j ne ∙ sym (answer-apart x (frozen (object s j)) (λ c r h. apart c r h))
          where
            apart : (c : ℕ) (r : OptionValue) → frozen (object s j) ≡ pends c r → (eqb x.call c && not (eqb x.kind 2)) ≡ false
            apart c r h = ap (λ (b : Bool). b && not (eqb x.kind 2)) (ne_eqb x.call c (λ d. alone j l ne (pends-call (object s j) c r h ∙ ap (λ (m : ℕ). some m) (sym d))))

        keep : (j : ℕ) → NotPends (frozen (object s j)) → Dec (j ≡ o) → Q j ≡ frozen (object s j)
        keep j h (yes d) = absurd (subst NotPends was (subst (λ (m : ℕ). NotPends (frozen (object s m))) d h))
        keep j h (no ne) = other j ne

  -- ---- the batch

  module _ {r : ℕ → Bool} {G : ℕ → Type 0} {hd : Header} (s : Store) (h : SoundDuring Nothing r G hd s) (on : is_ended hd.moment ≡ false) (k : K s) where
    not-ended : is_ended (header s).moment ≡ false
    not-ended = subst (λ (y : Header). is_ended y.moment ≡ false) (sym h.head) on

    none-there : (c : ℕ) → pending_external s c ≡ none → (j : ℕ) → j < (header s).made → pending_call (object s j) ≡ some c → ⊥
    unfolding pending_external pending_external_in is_at header
    none-there c e j l p =
        true≢false (sym (eq-eqb c c refl) ∙ (sym (ap (λ (y : Option ℕ). is_at y c) p) ∙ (sym (is_call-at s c j) ∙ none_first (is_call s.objects c) (header_at s.objects).made 0 e j (omega arith) (omega arith))))

    -- nothing changes
    ignored : (x : Result) → ((j : ℕ) → j < n → (c : ℕ) (y : OptionValue) → frozen (object s j) ≡ pends c y → (eqb x.call c && not (eqb x.kind 2)) ≡ false) → Answered (x ∷ []) (λ j. frozen (object s j)) s
    ignored x f = record { told = k; rows = λ j l. sym (answer-apart x (frozen (object s j)) (f j l)); kept = λ j m. refl }

    found : (x : Result) (f : ℕ → PendingExternal → Store) → eqb x.kind 2 ≡ false
        → ((o : ℕ) (p : PendingExternal) → o < (header s).made → as_pending (object s o) ≡ some p → x.call ≡ p.call.0 → ((j : ℕ) → j < n → (j ≡ o → ⊥) → pending_call (object s j) ≡ some x.call → ⊥) → Answered (x ∷ []) (λ j. frozen (object s j)) (f o p))
        → Answered (x ∷ []) (λ j. frozen (object s j)) (settle_found s (pending_external s x.call) f)
    unfolding view settle_found settle_pending
    found x f ek g = by (pending_external s x.call) refl
      where
        low : (j : ℕ) → j < n → j < (header s).made
        low j b = subst (λ (a : ℕ). j < a) (sym k.made) b

        alone : (o : ℕ) (p : PendingExternal) → o < (header s).made → as_pending (object s o) ≡ some p → x.call ≡ p.call.0 → (j : ℕ) → j < n → (j ≡ o → ⊥) → pending_call (object s j) ≡ some x.call → ⊥
        alone o p l m same j b ne d = let y = call-pending (object s j) x.call d in ne (h.kept.but.calls not-ended j o (low j b) l y.0 p y.1 m (y.2 ∙ same))

        at : (o : ℕ) → o < (header s).made → pending_call (object s o) ≡ some x.call → (p : Option PendingExternal) → as_pending (object s o) ≡ p → Answered (x ∷ []) (λ j. frozen (object s j)) (settle_pending s p (f o))
        at o l e none m = let y = call-pending (object s o) x.call e in absurd_some (sym m ∙ y.1)
        at o l e (some p) m =
            let same : x.call ≡ p.call.0 = some-injective x.call p.call.0 (sym e ∙ pending_has (object s o) p m) in g o p l m same (alone o p l m same)

        missing : pending_external s x.call ≡ none → (j : ℕ) → j < n → (c : ℕ) (y : OptionValue) → frozen (object s j) ≡ pends c y → (eqb x.call c && not (eqb x.kind 2)) ≡ false
        missing e j l c y p =
            ap (λ (b : Bool). b && not (eqb x.kind 2)) (ne_eqb x.call c (λ d. none-there x.call e j (low j l) (pends-call (object s j) c y p ∙ ap (λ (m : ℕ). some m) (sym d))))

        by : (o : Option ℕ) → pending_external s x.call ≡ o → Answered (x ∷ []) (λ j. frozen (object s j)) (settle_found s o f)
        by none e = ignored x (missing e)
        by (some o) e = let y = found-call s x.call o e in at o y.0 y.1 (as_pending (object s o)) refl

    call_fits : (o : ℕ) (p : PendingExternal) → as_pending (object s o) ≡ some p → ObjectFits (Object.ExternalFuture p.call (ExternalFutureState.Pending p.awaiter p.stored))
    call_fits o p e = subst ObjectFits (pending-object (object s o) p e) (object-fits s o)

    object-low : (o : ℕ) → o < (header s).made → o < object_limit
    object-low o l = omega (arith, l, (header-fits s).made_fits)

    resolved : (x : Result) → eqb x.kind 0 ≡ true → eqb x.kind 2 ≡ false → T (value_known (header s).made (object s) (to_value x.tag x.number)) → Answered (x ∷ []) (λ j. frozen (object s j)) (resolve_future s x.call (to_value x.tag x.number))
    unfolding resolve_future resolve_pending view
    resolved x e0 e2 kn =
        found x _ e2 (λ o p l e ec alone.
        let v : Value = value_or p.stored (to_value x.tag x.number) in
        let y : Object = Object.ExternalFuture p.call (ExternalFutureState.Resolved v) in
        let i0 = resolve_delivering s h (to_value x.tag x.number) kn o p l e in
        let vf : ValueFits v = value-fits _ _ _ i0.during.kept.but.fits.made_fits i0.known in
        let bk : frozen (to_object (object_words y)) ≡ gave v = ap frozen (object_back y ((call_fits o p e).0, vf)) ∙ frozen-gave p.call v in
        let k1 = settled s k o p (object-low o l) e y (gave v) bk (free-resolved p.call v) in
        let own0 : EndsTask o p.awaiter = awaiter_own s k o p (object-low o l) e y (gave v) bk (free-resolved p.call v) in
        let nw : frozen (object (put_object s o y) o) ≡ gave v = now s k o p (object-low o l) e y (gave v) bk (free-resolved p.call v) in
        let af : AwaiterFits p.awaiter = awaiter-low s k o p (object-low o l) e y (gave v) bk (free-resolved p.call v) in
        delivered s k o p (object-low o l) e y (gave v) bk (free-resolved p.call v) x _ ec e2 (reply-gave p.call.0 p.stored x e0) alone
        (success_tells _ n i D S (put_object s o y) p.awaiter v af (gives_own _ n i D S o p.awaiter v own0 (record { tells = gave-told o _ v nw; fits = vf })) k1))
      where
        frozen-gave : (c : CallId) (v : Value) → frozen (Object.ExternalFuture c (ExternalFutureState.Resolved v)) ≡ gave v
        frozen-gave c v = unfold frozen in refl

        free-resolved : (c : CallId) (v : Value) → awaiter_of (Object.ExternalFuture c (ExternalFutureState.Resolved v)) ≡ Awaiter.Nobody
        free-resolved c v = unfold awaiter_of in refl

        reply-gave : (c : ℕ) (y : OptionValue) (x : Result) → eqb x.kind 0 ≡ true → reply_row c y (some x) ≡ gave (value_or y (to_value x.tag x.number))
        reply-gave c y x e = unfold reply_row in (ap (λ (b : Bool). pick b (gave (value_or y (to_value x.tag x.number))) (broke (reply_error x))) e)

        gave-told : (o : ℕ) (z : Frozen) (v : Value) → z ≡ gave v → told D o z ≡ some v
        gave-told o z v e = ap (told D o) e ∙ told-gave o v
          where
            told-gave : (o : ℕ) (v : Value) → told D o (gave v) ≡ some v
            told-gave o v = unfold told in refl

    failed : (x : Result) (z : Error) → reply_error x ≡ z → eqb x.kind 0 ≡ false → eqb x.kind 2 ≡ false → ErrorFits z → Answered (x ∷ []) (λ j. frozen (object s j)) (fail_future s x.call z)
    unfolding fail_future fail_pending
    failed x z ez e0 e2 f =
        found x _ e2 (λ o p l e ec alone.
        let y : Object = Object.ExternalFuture p.call (ExternalFutureState.Failed z) in
        let bk : frozen (to_object (object_words y)) ≡ broke z = ap frozen (object_back y ((call_fits o p e).0, f)) ∙ frozen-broke p.call z in
        delivered s k o p (object-low o l) e y (broke z) bk (free-failed p.call z) x _ ec e2 (reply-broke p.call.0 p.stored x e0 ∙ ap broke ez) alone
        (failure_tells _ n i D S (put_object s o y) p.awaiter z (awaiter-low s k o p (object-low o l) e y (broke z) bk (free-failed p.call z)) (settled s k o p (object-low o l) e y (broke z) bk (free-failed p.call z))))
      where
        frozen-broke : (c : CallId) (v : Error) → frozen (Object.ExternalFuture c (ExternalFutureState.Failed v)) ≡ broke v
        frozen-broke c v = unfold frozen in refl

        free-failed : (c : CallId) (v : Error) → awaiter_of (Object.ExternalFuture c (ExternalFutureState.Failed v)) ≡ Awaiter.Nobody
        free-failed c v = unfold awaiter_of in refl

        reply-broke : (c : ℕ) (y : OptionValue) (x : Result) → eqb x.kind 0 ≡ false → reply_row c y (some x) ≡ broke (reply_error x)
        reply-broke c y x e = unfold reply_row in (ap (λ (b : Bool). pick b (gave (value_or y (to_value x.tag x.number))) (broke (reply_error x))) e)

    result-tells : (x : Result) → MayApply hd.made G x → Answered (x ∷ []) (λ j. frozen (object s j)) (apply_result s x)
    unfolding apply_result reply_error
    result-tells x m = by (eqb x.kind 0) refl (eqb x.kind 1) refl (eqb x.kind 2) refl (eqb x.kind 3) refl
      where
        by : (a : Bool) → eqb x.kind 0 ≡ a → (b : Bool) → eqb x.kind 1 ≡ b → (c : Bool) → eqb x.kind 2 ≡ c → (d : Bool) → eqb x.kind 3 ≡ d → Answered (x ∷ []) (λ j. frozen (object s j)) (pick a (resolve_future s x.call (to_value x.tag x.number))
            (pick b (fail_future s x.call (to_error 0 x.number)) (pick c s (pick d (fail_future s x.call Error.NotFound) (fail_future s x.call Error.ModuleFile)))))
        by true e b f c g d i =
            resolved x e (ne_eqb x.kind 2 (λ y. not-suc-le-zero {n = 0} (omega (arith, eqb-true x.kind 0 e))))
            (subst (λ (y : Header). T (value_known y.made (object s) (to_value x.tag x.number))) (sym h.head) (m (eqb-true x.kind 0 e) (object s) h.done))
        by false e true f c g d i = failed x (to_error 0 x.number) (ap (λ (b : Bool). pick b (to_error 0 x.number) (pick (eqb x.kind 3) Error.NotFound Error.ModuleFile)) f) e (ne_eqb x.kind 2 (λ y. not-suc-le-zero {n = 0} (omega (arith, eqb-true x.kind 1 f)))) (host_fits x.number)
        by false e false f true g d i = ignored x (λ j l c y p. ap (λ (b : Bool). eqb x.call c && not b) g ∙ and_no (eqb x.call c))
          where
            and_no : (b : Bool) → (b && false) ≡ false
            and_no true = refl
            and_no false = refl
        by false e false f false g true i = failed x Error.NotFound (ap (λ (b : Bool). pick b (to_error 0 x.number) (pick (eqb x.kind 3) Error.NotFound Error.ModuleFile)) f ∙ ap (λ (b : Bool). pick b Error.NotFound Error.ModuleFile) i) e g tt
        by false e false f false g false i = failed x Error.ModuleFile (ap (λ (b : Bool). pick b (to_error 0 x.number) (pick (eqb x.kind 3) Error.NotFound Error.ModuleFile)) f ∙ ap (λ (b : Bool). pick b Error.NotFound Error.ModuleFile) i) e g tt

  pub results_tell : {r : ℕ → Bool} {G : ℕ → Type 0} {hd : Header} (xs : List Result) (s : Store) → AllApply hd.made G xs → SoundDuring Nothing r G hd s → is_ended hd.moment ≡ false → K s
      → Answered xs (λ j. frozen (object s j)) (apply_future_results s xs)
  unfolding apply_future_results AllApply
  results_tell [] s a h on k = record { told = k; rows = λ j l. sym (none_said (frozen (object s j))); kept = λ j m. refl }
    where
      none_said : (y : Frozen) → answer_row [] y ≡ y
      none_said unmade = unfold answer_row in refl
      none_said (co b) = unfold answer_row in refl
      none_said (pends c r) = unfold answer_row reply_in reply_row in refl
      none_said (gave v) = unfold answer_row in refl
      none_said (broke e) = unfold answer_row in refl
      none_said (many f m) = unfold answer_row in refl
  results_tell (x ∷ xs) s a h on k =
      let y : Answered (x ∷ []) (λ j. frozen (object s j)) (apply_result s x) = result-tells s h on k x a.0 in
      let z : Answered xs (λ j. frozen (object (apply_result s x) j)) (apply_future_results (apply_result s x) xs) = results_tell xs (apply_result s x) a.1 (result_keeps s x a.0 h) on y.told in
      record {
        told = z.told;
        rows = λ j l. z.rows j l ∙ (ap (answer_row xs) (y.rows j l) ∙ answer-then x xs (frozen (object s j)));
        kept = λ j m. z.kept j (subst NotPends (sym (y.kept j m)) m) ∙ y.kept j m;
      }

-- whom the results woke in task order
answered-ordered : (n : ℕ) (i : ℕ → ℕ) (D : ℕ → Option Value) (S : ℕ → Option ℕ) (xs : List Result) (q : ℕ → Frozen) (s u : Store) → Answered n i D S xs q u → Answered n i D S xs q (wake_in_order s u)
unfolding wake_in_order object put_queue
answered-ordered n i D S xs q s u y = record { told = queue_told _ n i D S u _ y.told; rows = y.rows; kept = y.kept }

-- ---- the event

makes_replied : (x : Entry) (e : Event) (since : List Entry) (rs : List Result) (y z : Frozen) (i j : ℕ → ℕ) → (said x).results ≡ rs → z ≡ answer_row rs y → ((p : ℕ) → j p ≡ i p) → Makes e since y i → Makes e (x ∷ since) z j
unfolding Makes answer_row
makes_replied x (Event.coroutine f) since rs y z i j r e d k = (k.0, e ∙ ap (answer_row rs) k.1)
makes_replied x Event.call since rs y z i j r e d k = k
makes_replied x (Event.pending c v) since rs y z i j r e d k =
    e ∙ (ap (answer_row rs) k ∙ (by (first_reply since c) ∙ ap (reply_row c v) (sym (reply_then x since c ∙ ap (λ (l : List Result). elim (first_reply since c) [ some a ↦ some a | none ↦ reply_in l c ]) r))))
  where
    by : (y : Option Result) → answer_row rs (reply_row c v y) ≡ reply_row c v (elim y [ some a ↦ some a | none ↦ reply_in rs c ])
    by none = unfold reply_row answer_row in refl
    by (some a) = settled-stays rs c v a
makes_replied x (Event.settled v) since rs y z i j r e d k = e ∙ ap (answer_row rs) k
makes_replied x (Event.gather os) since rs y z i j r e d k = (k.0, e ∙ ap (answer_row rs) k.1, items_like i j k.0 os d k.2)
makes_replied x (Event.await o) since rs y z i j r e d k = k
makes_replied x (Event.complete v) since rs y z i j r e d k = k
makes_replied x (Event.fail n) since rs y z i j r e d k = k
makes_replied x (Event.results l) since rs y z i j r e d k = k
makes_replied x Event.resume since rs y z i j r e d k = k
makes_replied x (Event.cancel t) since rs y z i j r e d k = k
makes_replied x (Event.show o) since rs y z i j r e d k = k
makes_replied x Event.eager since rs y z i j r e d k = k

made_replied : (x : Entry) (m : Option Making) (n l o : ℕ) (rs : List Result) (y z : Frozen) (i j : ℕ → ℕ) → (said x).results ≡ rs → l ≡ n → (o < n → z ≡ answer_row rs y) → ((p : ℕ) → j p ≡ i p) → MadeRight m n o y i → MadeRight (later x m) l o z j
unfolding MadeRight later
made_replied x none n l o rs y z i j r a e d k = subst (λ (b : ℕ). b ≤ o) (sym a) k
made_replied x (some m) n l o rs y z i j r a e d k = (subst (λ (b : ℕ). o < b) (sym a) k.0, makes_replied x m.event m.since rs y z i j r (e k.0) d k.1)

pub results_agree : (h : List Entry) (s : Store) → SoundStore s → Agrees h s → (rs : List Result) → AllApply (header s).made (λ o. T (is_completed (kind (object s o)))) rs → is_ended (header s).moment ≡ false
    → StepAgrees h (Event.results rs) (accept s (Event.results rs))
unfolding accept entry_of coroutine_of running tells done_only started_by runner_by
results_agree h s w k rs apply on =
    record {
      told = told_now _ _ _ (completed_value h) (completed_value (x ∷ h)) (coroutine_of h) (coroutine_of (x ∷ h)) u (λ c. no_value x h c (ap (λ (z : Says). z.completes) said-it ∙ (unfold says in refl))) (λ t. refl) y.told;
      done = λ c v e. let d : frozen (object s c) ≡ co true = k.done c v (sym (no_value x h c (ap (λ (z : Says). z.completes) said-it ∙ (unfold says in refl))) ∙ e) in y.kept c (subst NotPends (sym d) tt) ∙ d;
      runner = λ t e. k.runner t (ap (λ (z : Header). z.moment) (sym head) ∙ e);
      main = k.main;
      behind = λ o l. let d : frozen (object s o) ≡ unmade = k.behind o (subst (λ (a : ℕ). a ≤ o) y.told.made l) in y.kept o (subst NotPends (sym d) tt) ∙ d;
      makes = λ o. subst (λ (z : Option Making). MadeRight z (header u).made o (frozen (object u o)) (λ p. (place u p).item.0)) (sym (none_made x h o refl)) (made_replied x (making h o) (header s).made (header u).made o rs (frozen (object s o)) (frozen (object u o)) (λ p. (place s p).item.0) (λ p. (place u p).item.0)
          (ap (λ (z : Says). z.results) said-it ∙ (unfold says in refl)) y.told.made (y.rows o) y.told.items (k.makes o));
    }
  where
    b : Store
    b = apply_future_results s rs

    u : Store
    u = wake_in_order s b

    x : Entry
    x = entry_of (Event.results rs) Answer.done u

    said-it : said x ≡ says (Event.results rs)
    said-it = said-accepted (Event.results rs) Answer.done u (unfold tells done_only in refl)

    y : Answered (header s).made (λ p. (place s p).item.0) (completed_value h) (coroutine_of h) rs (λ j. frozen (object s j)) u
    y =
        answered-ordered (header s).made (λ p. (place s p).item.0) (completed_value h) (coroutine_of h) rs (λ j. frozen (object s j)) s b
        (results_tell (header s).made (λ p. (place s p).item.0) (completed_value h) (coroutine_of h) rs s apply (during_of s w) on k.told)

    head : header u ≡ header s
    head = (ordered-keep s b (results-keep rs s apply (during_of s w))).head
