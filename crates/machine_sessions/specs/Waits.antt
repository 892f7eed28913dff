-- In every session a wait names exactly the calls that are unanswered then, each once and ascending.
pub mod Calls
pub mod CallEvents
use Rattle.std.specs.Prelude.{◌≡◌, Bool, true, not, ◌&&◌, ◌||◌, List, [], ◌∷◌, ℕ, zero, suc, ◌+◌, ◌≤◌, ◌<◌, eqb, leb}
use Rattle.std.proofs.Math.Path.{refl}
use Rattle.std.proofs.Common.{sym, ap, subst, ◌∙◌, true≢false, not-suc-le-zero, arith, leb-true, leb-false, eqb-true, eq-eqb, ne_eqb}
use Rattle.std.proofs.Math.Bool.{false}
use Rattle.std.proofs.Math.Option.{Option, none, some, some-injective}
use Rattle.std.proofs.Math.Decide.{ℕ_discrete}
use Rattle.std.proofs.lemmas.Bool.{eqb-false}
use Rattle.asyncio.specs.declared.Value.{Value}
use Rattle.asyncio.specs.declared.Error.{Error}
use Rattle.asyncio.specs.declared.CoroutineState.{CoroutineState}
use Rattle.asyncio.specs.declared.ExternalFutureState.{ExternalFutureState}
use Rattle.asyncio.specs.declared.GatherState.{GatherState}
use Rattle.asyncio.specs.declared.Object.{Object}
use Rattle.asyncio.specs.States.{pick}
use Rattle.asyncio.specs.Kinds.{kind, is_pending_external}
use Rattle.asyncio.specs.Parts.{call_of}
use Rattle.rows.specs.Tables.{object_at, header_at}
use Rattle.machine.specs.Tests.{is_in}
use Rattle.machine.specs.Store.{Store, object, header, forget, fresh}
use Rattle.machine.specs.Scheduler.{insert, calls_below, pending_calls_in, pending_call_ids}
use Rattle.machine.specs.Events.{Control, runs, waits, Result}
use Rattle.machine.specs.Machine.{Event, Answer, Step, refusal, accept, step}
use Rattle.machine.specs.History.{Entry, Says, says, nothing_said, said, Tells, tells, done_only, is_at, reply_in, unanswered}
use Rattle.machine.specs.Computes.{computes}
use Rattle.machine_laws.specs.Views.{Sized}
use Rattle.machine_laws.specs.Statements.{SaysCalls, AnswerSays}
use Rattle.machine_laws.specs.DeliveryLaws.{absurd_some}
use Rattle.machine_laws.specs.MachineLaws.{accepted-step, refused-step}
use Rattle.machine_laws.specs.SoundLaws.{refusal-forget}
use Rattle.machine_laws.specs.SizedLaws.{step-says}
use Rattle.machine_theorems.specs.Soundness.Stores.{SoundStore}
use Rattle.machine_theorems.specs.Soundness.Sessions.{forget_sound_store}
use Rattle.machine.specs.Sessions.{Sent, lent_any, entry_of, Session, begun, send, send_all, session, AllSentInRange}
use Rattle.machine.specs.DemandThree.{Above, Rising, WaitRight, ControlRight, WaitsRight}
use Rattle.machine_sessions.specs.Queue.Following.{accept_accepts, Sends, stepped, short, sends, Following, send_following, session_follows}
use Rattle.machine_sessions.specs.Waits.Calls.{pending_call, called, pends, pending_calls_are, in_insert, in_calls}
use Rattle.machine_sessions.specs.Waits.CallEvents.{answered, called-none, at_some, later_pends, RowsDistinct, ControlDistinct, WaitDistinct, accept-pends, accept_distinct}

-- ---- the list rises

above-insert : (c d : ℕ) (l : List ℕ) → c < d → Above c l → Above c (insert d l)
unfolding insert Above
above-insert c d [] m a = (m, tt)
above-insert c d (e ∷ es) m a = by (leb d e) (above-insert c e es a.0 a.1) (above-insert c d es m a.1)
  where
    by : (b : Bool) → Above c (insert e es) → Above c (insert d es) → Above c (pick b (d ∷ insert e es) (e ∷ insert d es))
    by true x y = unfold Above in (m, x)
    by false x y = unfold Above in (a.0, y)

above_more : (c d : ℕ) (l : List ℕ) → c < d → Above d l → Above c l
unfolding Above
above_more c d [] m a = tt
above_more c d (e ∷ es) m a = (omega (arith, a.0), above_more c d es m a.1)

above_not_in : (c : ℕ) (l : List ℕ) → Above c l → is_in c l ≡ false
unfolding Above is_in
above_not_in c [] a = refl
above_not_in c (e ∷ es) a = rw (ne_eqb e c (λ q. not-suc-le-zero {n = 0} (omega (arith, a.0)))) (above_not_in c es a.1)

insert_delivering : (d : ℕ) (l : List ℕ) → is_in d l ≡ false → Rising l → Rising (insert d l)
unfolding insert Rising is_in Above
insert_delivering d [] n r = (tt, tt)
insert_delivering d (e ∷ es) n r = by (leb d e) refl (insert_delivering e es (above_not_in e es r.0) r.1) (λ q. insert_delivering d es q r.1) (parts (eqb e d) refl)
  where
    parts : (b : Bool) → eqb e d ≡ b → (e ≡ d → ⊥) × (is_in d es ≡ false)
    parts true q = absurd (true≢false (subst (λ (b : Bool). (b || is_in d es) ≡ false) q n))
    parts false q = (eqb-false e d q, subst (λ (b : Bool). (b || is_in d es) ≡ false) q n)

    by : (b : Bool) → leb d e ≡ b → Rising (insert e es) → (is_in d es ≡ false → Rising (insert d es)) → (e ≡ d → ⊥) × (is_in d es ≡ false) → Rising (pick b (d ∷ insert e es) (e ∷ insert d es))
    by true q x y p =
        let m : d < e = omega (arith, leb-true d e q, p.0) in unfold Rising in (above-insert d e es m (above_more d e es m r.0), x)
    by false q x y p = unfold Rising in (above-insert e d es (leb-false d e q) r.0, y p.1)

with_delivering : (x : Object) (l : List ℕ) → ((c : ℕ) → pending_call x ≡ some c → is_in c l ≡ false) → Rising l → Rising (pick (is_pending_external (kind x)) (insert (call_of x).0 l) l)
unfolding kind call_of pending_call
with_delivering Object.Unmade l n r = r
with_delivering (Object.Coroutine f CoroutineState.New) l n r = r
with_delivering (Object.Coroutine f CoroutineState.Running) l n r = r
with_delivering (Object.Coroutine f CoroutineState.Completed) l n r = r
with_delivering (Object.ExternalFuture d (ExternalFutureState.Pending a x)) l n r = insert_delivering d.0 l (n d.0 refl) r
with_delivering (Object.ExternalFuture d (ExternalFutureState.Resolved v)) l n r = r
with_delivering (Object.ExternalFuture d (ExternalFutureState.Failed e)) l n r = r
with_delivering (Object.GatherFuture f m GatherState.Pending) l n r = r
with_delivering (Object.GatherFuture f m (GatherState.Awaited a k)) l n r = r
with_delivering (Object.GatherFuture f m GatherState.Completed) l n r = r
with_delivering (Object.GatherFuture f m (GatherState.Failed e)) l n r = r

calls_rise : (os : List ℕ) (n : ℕ)
    → ((o q c : ℕ) → o < n → q < n → pending_call (object_at os o) ≡ some c → pending_call (object_at os q) ≡ some c → o ≡ q) → Rising (calls_below os n)
unfolding calls_below Rising
calls_rise os zero d = tt
calls_rise os (suc n) d =
    with_delivering (object_at os n) (calls_below os n) (λ c e. in_calls os c n ∙ called-none _ n c (λ o l. other o l c e (is_at (pending_call (object_at os o)) c) refl))
    (calls_rise os n (λ o q c l m. d o q c (omega arith) (omega arith)))
  where
    other : (o : ℕ) → o < n → (c : ℕ) → pending_call (object_at os n) ≡ some c → (b : Bool) → is_at (pending_call (object_at os o)) c ≡ b → is_at (pending_call (object_at os o)) c ≡ false
    other o l c e true q = let z : o ≡ n = d o n c (omega arith) (omega arith) (at_some _ c q) e in absurd (not-suc-le-zero {n = 0} (omega arith))
    other o l c e false q = q

pub pending_rise : (s : Store) → RowsDistinct s → Rising (pending_call_ids s)
unfolding pending_call_ids pending_calls_in object header
pending_rise s d = calls_rise s.objects (header_at s.objects).made d

-- ---- what every session has

pub record Answering (h : List Entry) (s : Store) : Type 0 where
  pub unanswered_are : (c : ℕ) → unanswered h c ≡ pends s c
  pub waits_are : WaitsRight h

forget-pends : (s : Store) (c : ℕ) → pends (forget s) c ≡ pends s c
unfolding pends forget object header
forget-pends s c = refl

-- the word unanswered, one entry later
unanswered-step : (x : Entry) (h : List Entry) (c : ℕ) → unanswered (x ∷ h) c ≡ later_pends (said x) (unanswered h c) c
unfolding unanswered later_pends
unanswered-step x h c = by (is_at (said x).pends c) (reply_in (said x).results c)
  where
    by : (b : Bool) (o : Option Result)
        → ◌≡◌ {A = Bool} (elim b [ true ↦ true | false ↦ elim o [ none ↦ unanswered h c | some r ↦ false ] ]) (elim b [ true ↦ true | false ↦ answered o (unanswered h c) ])
    by true o = refl
    by false none = unfold answered in refl
    by false (some r) = unfold answered in refl

said_if : Bool → Event → Says
said_if b e = elim b [ true ↦ says e | false ↦ nothing_said ]

said-is : (e : Event) (a : Answer) (s : Store) → said (entry_of e a s) ≡ said_if (tells a).accepts e
unfolding said entry_of said_if
said-is e a s = refl

pub said-accepted : (e : Event) (a : Answer) (s : Store) → (tells a).accepts ≡ true → said (entry_of e a s) ≡ says e
unfolding said_if
said-accepted e a s q = said-is e a s ∙ ap (λ (b : Bool). said_if b e) q

pub said-refused : (e : Event) (a : Answer) (s : Store) → (tells a).accepts ≡ false → said (entry_of e a s) ≡ nothing_said
unfolding said_if
said-refused e a s q = said-is e a s ∙ ap (λ (b : Bool). said_if b e) q

nothing-later : (b : Bool) (c : ℕ) → later_pends nothing_said b c ≡ b
unfolding later_pends nothing_said is_at reply_in answered
nothing-later b c = refl

accepted-then : (h : List Entry) (e : Event) (a : Answer) (s : Store) (c : ℕ) → (tells a).accepts ≡ true → unanswered (entry_of e a s ∷ h) c ≡ later_pends (says e) (unanswered h c) c
accepted-then h e a s c q = unanswered-step (entry_of e a s) h c ∙ ap (λ (y : Says). later_pends y (unanswered h c) c) (said-accepted e a s q)

refused-then : (h : List Entry) (e : Event) (a : Answer) (s : Store) (c : ℕ) → (tells a).accepts ≡ false → unanswered (entry_of e a s ∷ h) c ≡ unanswered h c
refused-then h e a s c q = unanswered-step (entry_of e a s) h c ∙ (ap (λ (y : Says). later_pends y (unanswered h c) c) (said-refused e a s q) ∙ nothing-later (unanswered h c) c)

-- the wait of an answer
control-right : (h : List Entry) (s : Store) (x : Option Control) → ControlDistinct x s → ((c : Control) → x ≡ some c → SaysCalls s c) → ((c : ℕ) → unanswered h c ≡ pends s c) → ControlRight h x
unfolding ControlRight SaysCalls
control-right h s none d t u = tt
control-right h s (some (runs t y)) d f u = tt
control-right h s (some (waits cs)) d f u =
    let e : cs ≡ pending_call_ids s = f (waits cs) refl in
    record { rising = subst Rising (sym e) (pending_rise s d); exact = λ c. subst (λ (l : List ℕ). is_in c l ≡ unanswered h c) (sym e) (pending_calls_are s c ∙ sym (u c)) }

pub says-control : (s : Store) (a : Answer) → AnswerSays s a → (c : Control) → (tells a).control ≡ some c → SaysCalls s c
unfolding tells AnswerSays done_only
says-control s (Answer.made o) k c e = absurd_some e
says-control s (Answer.called n) k c e = absurd_some e
says-control s (Answer.control x) k c e = subst (SaysCalls s) (some-injective x c e) k
says-control s (Answer.awaited x n) k c e = subst (SaysCalls s) (some-injective x c e) k
says-control s Answer.done k c e = absurd_some e
says-control s (Answer.cancelled n) k c e = absurd_some e
says-control s Answer.stalled k c e = absurd_some e
says-control s (Answer.finished v) k c e = absurd_some e
says-control s (Answer.finished_error x) k c e = absurd_some e
says-control s (Answer.shows x) k c e = absurd_some e
says-control s (Answer.is_eager b) k c e = absurd_some e
says-control s (Answer.refused n) k c e = absurd_some e

refused-control : (n : ℕ) → (tells (Answer.refused n)).control ≡ none
unfolding tells
refused-control n = refl

refused_accepts : (n : ℕ) → (tells (Answer.refused n)).accepts ≡ false
unfolding tells
refused_accepts n = refl

abbrev StepAnswering : List Entry → Event → Step → Type 0
StepAnswering h e x = Answering (entry_of e x.answer x.store ∷ h) x.store

only_changes_entry : (h : List Entry) (e : Event) (n : ℕ) (u : Store) → ((c : ℕ) → unanswered h c ≡ pends u c) → WaitsRight h → Answering (entry_of e (Answer.refused n) u ∷ h) u
unfolding WaitsRight ControlRight entry_of tells
only_changes_entry h e n u k w = record { unanswered_are = λ c. refused-then h e (Answer.refused n) u c (refused_accepts n) ∙ k c; waits_are = (tt, w) }

step_answering : (h : List Entry) (s : Store) (e : Event) → SoundStore s → Answering h s → StepAnswering h e (step s e)
step_answering h s e w k = by (ℕ_discrete (refusal s e) 0)
  where
    accepted : (r : refusal s e ≡ 0) (x : Step) → x ≡ accept (forget s) e → AnswerSays x.store x.answer → StepAnswering h e x
    accepted r x q says-it =
        record { unanswered_are = now; waits_are = both }
      where
        f : Store
        f = forget s

        r1 : refusal f e ≡ 0
        r1 = refusal-forget s e ∙ r

        accepts : (tells x.answer).accepts ≡ true
        accepts = subst (λ (y : Step). (tells y.answer).accepts ≡ true) (sym q) (accept_accepts f e)

        distinct : WaitDistinct x
        distinct = subst WaitDistinct (sym q) (accept_distinct f (forget_sound_store s w) e r1)

        now : (c : ℕ) → unanswered (entry_of e x.answer x.store ∷ h) c ≡ pends x.store c
        now c =
            accepted-then h e x.answer x.store c accepts
            ∙ (ap (λ (b : Bool). later_pends (says e) b c) (k.unanswered_are c ∙ sym (forget-pends s c)) ∙ sym (ap (λ (y : Step). pends y.store c) q ∙ accept-pends f (forget_sound_store s w) e r1 c))

        both : WaitsRight (entry_of e x.answer x.store ∷ h)
        both = unfold WaitsRight entry_of in (control-right (entry_of e x.answer x.store ∷ h) x.store (tells x.answer).control distinct (says-control x.store x.answer says-it) now, k.waits_are)

    by : Dec (refusal s e ≡ 0) → StepAnswering h e (step s e)
    by (yes r) = accepted r (step s e) (accepted-step s e r) (step-says s e w.memory.sized)
    by (no ne) = subst (StepAnswering h e) (sym (refused-step s e (refusal s e) refl ne)) (only_changes_entry h e (refusal s e) (forget s) (λ c. k.unanswered_are c ∙ sym (forget-pends s c)) k.waits_are)

pub send_answering : (x : Session) (e : Sent) → Following x → Answering x.history x.store → Answering (send x e).history (send x e).store
unfolding send
send_answering x e f k = by (sends s e f.whole.memory.sized)
  where
    s : Store
    s = x.store

    h : List Entry
    h = x.history

    by : Sends s e → Answering (entry_of e.event (lent_any s e).answer (lent_any s e).store ∷ h) (lent_any s e).store
    by (stepped p q) =
        subst (λ (a : Answer). Answering (entry_of e.event a (lent_any s e).store ∷ h) (lent_any s e).store) (sym q)
        (subst (λ (u : Store). Answering (entry_of e.event (step s e.event).answer u ∷ h) u) (sym p) (step_answering h s e.event f.whole k))
    by (short p q) =
        subst (λ (a : Answer). Answering (entry_of e.event a (lent_any s e).store ∷ h) (lent_any s e).store) (sym q)
        (subst (λ (u : Store). Answering (entry_of e.event (Answer.refused 1) u ∷ h) u) (sym p) (only_changes_entry h e.event 1 s k.unanswered_are k.waits_are))

pub sessions_answer : (es : List Sent) (x : Session) → AllSentInRange es → Following x → Answering x.history x.store → Answering (send_all x es).history (send_all x es).store
unfolding send_all AllSentInRange
sessions_answer [] x i f k = k
sessions_answer (e ∷ es) x i f k = sessions_answer es (send x e) i.1 (send_following x e i.0 f) (send_answering x e f k)

fresh-made : (header fresh).made ≡ 0
unfolding computes
fresh-made = refl

fresh-none : (c : ℕ) → unanswered [] c ≡ pends fresh c
unfolding unanswered pends called
fresh-none c = sym (ap (λ (n : ℕ). called (λ o. pending_call (object fresh o)) n c) fresh-made)

fresh-answers : Answering [] fresh
unfolding WaitsRight
fresh-answers = record { unanswered_are = fresh-none; waits_are = tt }

-- Every session from its beginning.
pub session-answers : (es : List Sent) → AllSentInRange es → Answering (session es).history (session es).store
unfolding session begun AllSentInRange send_all
session-answers es i = sessions_answer es begun i (session_follows [] tt) fresh-answers
