-- (iv) of one event: where no cancel has touched what drives the places, an answer is no empty wait and no stall.
use Rattle.std.specs.Prelude.{◌≡◌, Bool, true, false, ◌||◌, eqb}
use Rattle.std.proofs.Math.Path.{refl, ap}
use Rattle.std.proofs.Common.{sym, subst, ◌∙◌, true≢false, not-suc-le-zero, arith, eq-eqb}
use mathlib.Core.List.{List, [], ◌∷◌}
use Rattle.std.proofs.Math.Option.{Option, none, some}
use Prim.Native.Nat.{ℕ, zero, suc, ◌<◌}
use Rattle.std.proofs.Math.Decide.{ℕ_discrete}
use Rattle.asyncio.specs.declared.Error.{Error}
use Rattle.asyncio.specs.States.{pick}
use Rattle.asyncio.specs.RangeLaws.{pick_has}
use Rattle.machine.specs.Tests.{is_in}
use Rattle.machine.specs.Store.{Store, object, header}
use Rattle.machine.specs.Scheduler.{pending_call_ids, cleanup}
use Rattle.machine.specs.Events.{Control, runs, waits, activate, handle_task_completion, handle_task_failure}
use Rattle.machine.specs.Machine.{Event, Answer, Step, switched, answer_await, end_main, task_completes, task_fails, runner, repeat_wait, resume_with_resolved_futures, refusal, refusals, in_running, in_waiting, in_both, accept}
use Rattle.machine.specs.Sound.{is_ended}
use Rattle.machine.specs.History.{Entry, Says, said, tells, done_only, is_at, cancelled}
use Rattle.machine_laws.specs.Facts.{Nothing}
use Rattle.machine_laws.specs.Statements.{SaysCalls, AnswerSays}
use Rattle.machine_laws.specs.SoundLaws.{pass, refusal-rest}
use Rattle.machine_theorems.specs.Soundness.Stores.{SoundStore}
use Rattle.machine.specs.Sessions.{entry_of, session}
use Rattle.machine.specs.DemandThree.{empty_wait, is_stalled, goes_on}
use Rattle.machine_sessions.specs.Waits.Calls.{pending_call, called, pends, pending_calls_are}
use Rattle.machine_sessions.specs.Waits.{says-control}
use Rattle.machine_sessions.specs.Stall.Standing.{Stands}
use Rattle.machine_sessions.specs.Stall.StandingEvents.{MainEnds, OnlyChanges, StepRight}
use Rattle.machine_sessions.specs.Stall.NoStall.{Driven, Sourced, Call, some-call}
use Rattle.machine_laws.specs.DeliveryLaws.{pending-object}

-- ---- a pending call is in the list

called-found : (p : ℕ → Option ℕ) (n c o : ℕ) → o < n → p o ≡ some c → called p n c ≡ true
unfolding called is_at
called-found p zero c o l e = absurd (not-suc-le-zero {n = 0} (omega (arith, l)))
called-found p (suc n) c o l e = by (ℕ_discrete o n) (λ m. called-found p n c o m e)
  where
    or_true : (b : Bool) → (b || true) ≡ true
    or_true true = refl
    or_true false = refl

    by : Dec (o ≡ n) → (o < n → called p n c ≡ true) → (is_at (p n) c || called p n c) ≡ true
    by (yes q) f = ap (λ (x : Option ℕ). is_at x c || called p n c) (sym (ap p q) ∙ e) ∙ (unfold is_at in (rw (eq-eqb c c refl)))
    by (no ne) f = ap (λ (b : Bool). is_at (p n) c || b) (f (omega arith)) ∙ or_true (is_at (p n) c)

some-pending : (s : Store) → Call s → pending_call_ids s ≡ [] → ⊥
some-pending s k e = true≢false (sym there ∙ (sym (pending_calls_are s c) ∙ (ap (is_in c) e ∙ (unfold is_in in refl))))
  where
    c : ℕ
    c = k.external.call.0

    row : pending_call (object s k.object_is) ≡ some c
    row = ap pending_call (pending-object (object s k.object_is) k.external k.pending) ∙ (unfold pending_call in refl)

    there : pends s c ≡ true
    there = unfold pends in (called-found (λ o. pending_call (object s o)) (header s).made c k.object_is k.made row)

-- ---- stalled: there is no pending call

abbrev Unstalled : Step → Type 0
Unstalled x = is_stalled x.answer ≡ true → pending_call_ids x.store ≡ []

repeat_stalls : (s : Store) (cs : List ℕ) → pending_call_ids s ≡ cs → is_stalled (repeat_wait cs) ≡ true → pending_call_ids s ≡ []
unfolding repeat_wait is_stalled
repeat_stalls s [] e q = e
repeat_stalls s (c ∷ cs) e q = absurd (true≢false (sym q))

stalled-none : (s : Store) (e : Event) → Unstalled (accept s e)
unfolding accept is_stalled answer_await task_completes task_fails end_main switched resume_with_resolved_futures
stalled-none s (Event.coroutine f) q = absurd (true≢false (sym q))
stalled-none s Event.call q = absurd (true≢false (sym q))
stalled-none s (Event.pending c r) q = absurd (true≢false (sym q))
stalled-none s (Event.settled v) q = absurd (true≢false (sym q))
stalled-none s (Event.gather os) q = absurd (true≢false (sym q))
stalled-none s (Event.await o) q = absurd (true≢false (sym q))
stalled-none s (Event.complete v) q = pick_has Unstalled (eqb (runner (header s).moment) 0) (λ x. absurd (true≢false (sym x))) (λ x. absurd (true≢false (sym x))) q
stalled-none s (Event.fail n) q = pick_has Unstalled (eqb (runner (header s).moment) 0) (λ x. absurd (true≢false (sym x))) (λ x. absurd (true≢false (sym x))) q
stalled-none s (Event.results rs) q = absurd (true≢false (sym q))
stalled-none s Event.resume q = pick_has Unstalled (eqb s.queue.len 0) (λ x. repeat_stalls s (pending_call_ids s) refl x) (λ x. absurd (true≢false (sym x))) q
stalled-none s (Event.cancel t) q = absurd (true≢false (sym q))
stalled-none s (Event.show o) q = absurd (true≢false (sym q))
stalled-none s Event.eager q = absurd (true≢false (sym q))

-- ---- after the end only reads are accepted

pub record Reads (s : Store) (x : Step) : Type 0 where
  pub same_store : x.store ≡ s
  pub no_control : (tells x.answer).control ≡ none
  pub no_stall : is_stalled x.answer ≡ false

pub ended_reads : (s : Store) (e : Event) → refusal s e ≡ 0 → is_ended (header s).moment ≡ true → Reads s (accept s e)
unfolding refusals in_running in_waiting in_both accept tells done_only is_stalled
ended_reads s (Event.coroutine f) r d = absurd (true≢false (sym d ∙ (pass 2 (is_ended (header s).moment) _ (refusal-rest s (Event.coroutine f) r)).0))
ended_reads s Event.call r d = absurd (true≢false (sym d ∙ (pass 2 (is_ended (header s).moment) _ (refusal-rest s Event.call r)).0))
ended_reads s (Event.pending c x) r d = absurd (true≢false (sym d ∙ (pass 2 (is_ended (header s).moment) _ (refusal-rest s (Event.pending c x) r)).0))
ended_reads s (Event.settled v) r d = absurd (true≢false (sym d ∙ (pass 2 (is_ended (header s).moment) _ (refusal-rest s (Event.settled v) r)).0))
ended_reads s (Event.gather os) r d = absurd (true≢false (sym d ∙ (pass 2 (is_ended (header s).moment) _ (refusal-rest s (Event.gather os) r)).0))
ended_reads s (Event.await o) r d = absurd (true≢false (sym d ∙ (pass 2 (is_ended (header s).moment) _ (refusal-rest s (Event.await o) r)).0))
ended_reads s (Event.complete v) r d = absurd (true≢false (sym d ∙ (pass 2 (is_ended (header s).moment) _ (refusal-rest s (Event.complete v) r)).0))
ended_reads s (Event.fail n) r d = absurd (true≢false (sym d ∙ (pass 2 (is_ended (header s).moment) _ (refusal-rest s (Event.fail n) r)).0))
ended_reads s (Event.results rs) r d = absurd (true≢false (sym d ∙ (pass 2 (is_ended (header s).moment) _ (refusal-rest s (Event.results rs) r)).0))
ended_reads s Event.resume r d = absurd (true≢false (sym d ∙ (pass 2 (is_ended (header s).moment) _ (refusal-rest s Event.resume r)).0))
ended_reads s (Event.cancel t) r d = absurd (true≢false (sym d ∙ (pass 2 (is_ended (header s).moment) _ (refusal-rest s (Event.cancel t) r)).0))
ended_reads s (Event.show o) r d = record { same_store = refl; no_control = refl; no_stall = refl }
ended_reads s Event.eager r d = record { same_store = refl; no_control = refl; no_stall = refl }

-- ---- one event

driven_of : (s : Store) → Stands Nothing s → Sourced Nothing s → Driven s
driven_of s st k = record { main = st.main; queued = λ t l r. st.stands t l r (λ z. z); sources = k.sources; rising = k.rising }

-- what no cancel has touched has a call that is pending, where nothing is ready
module _ (u : Store) (w : SoundStore u) (st : Stands Nothing u) (k : Sourced Nothing u) where
  some-call-then : OnlyChanges u → Call u
  some-call-then q = some-call u w (driven_of u st k) q.0 q.1

  control-goes : (c : Option Control) → ((cs : List ℕ) → c ≡ some (waits cs) → OnlyChanges u) → ((x : Control) → c ≡ some x → SaysCalls u x) → empty_wait c ≡ false
  unfolding empty_wait SaysCalls
  control-goes none q s = refl
  control-goes (some (runs t x)) q s = refl
  control-goes (some (waits [])) q s = absurd (some-pending u (some-call-then (q [] refl)) (sym (s (waits []) refl)))
  control-goes (some (waits (c ∷ cs))) q s = refl

-- an answer is no empty wait and no stall
pub accept-goes : (s : Store) (e : Event) → SoundStore (accept s e).store → Stands Nothing (accept s e).store → Sourced Nothing (accept s e).store → StepRight (MainEnds s e) (accept s e)
    → AnswerSays (accept s e).store (accept s e).answer → (empty_wait (tells (accept s e).answer).control ≡ false) × (is_stalled (accept s e).answer ≡ false)
accept-goes s e w st k r says-it = (control-goes u w st k (tells (accept s e).answer).control r.waits_idle (says-control u (accept s e).answer says-it), stall-by (is_stalled (accept s e).answer) refl r.stalls_idle)
  where
    u : Store
    u = (accept s e).store

    stall-by : (b : Bool) → is_stalled (accept s e).answer ≡ b → (is_stalled (accept s e).answer ≡ true → OnlyChanges u) → b ≡ false
    stall-by true q f = absurd (some-pending u (some-call-then u w st k (f q)) (stalled-none s e q))
    stall-by false q f = refl

-- ---- main's end

-- it is no wait and no stall, and the session has ended
pub record Finished (s : Store) (x : Step) : Type 0 where
  pub store_is : x.store ≡ cleanup s
  pub no_control : (tells x.answer).control ≡ none
  pub no_stall : is_stalled x.answer ≡ false

pub main_finishes : (s : Store) (e : Event) → MainEnds s e → Finished s (accept s e)
unfolding MainEnds accept task_completes task_fails
main_finishes s (Event.coroutine f) m = absurd m
main_finishes s Event.call m = absurd m
main_finishes s (Event.pending c r) m = absurd m
main_finishes s (Event.settled v) m = absurd m
main_finishes s (Event.gather os) m = absurd m
main_finishes s (Event.await o) m = absurd m
main_finishes s (Event.complete v) m =
    subst (λ (b : Bool). Finished s (pick b (end_main s (Answer.finished v)) (switched (handle_task_completion s (runner (header s).moment) v)))) (sym (eq-eqb (runner (header s).moment) 0 m))
    (record { store_is = unfold end_main in refl; no_control = unfold end_main tells done_only in refl; no_stall = unfold end_main is_stalled in refl })
main_finishes s (Event.fail n) m =
    subst (λ (b : Bool). Finished s (pick b (end_main s (Answer.finished_error (Error.Script n))) (switched (handle_task_failure activate s (runner (header s).moment) (Error.Script n))))) (sym (eq-eqb (runner (header s).moment) 0 m))
    (record { store_is = unfold end_main in refl; no_control = unfold end_main tells done_only in refl; no_stall = unfold end_main is_stalled in refl })
main_finishes s (Event.results rs) m = absurd m
main_finishes s Event.resume m = absurd m
main_finishes s (Event.cancel t) m = absurd m
main_finishes s (Event.show o) m = absurd m
main_finishes s Event.eager m = absurd m

-- ---- one entry later

pub or_none : (a b : Bool) → (a || b) ≡ false → (a ≡ false) × (b ≡ false)
or_none true b e = absurd (true≢false e)
or_none false b e = (refl, e)

pub cancelled-then : (x : Entry) (h : List Entry) (y : Says) → said x ≡ y → cancelled (x ∷ h) ≡ (y.cancels || cancelled h)
unfolding cancelled
cancelled-then x h y e = ap (λ (z : Says). z.cancels || cancelled h) e

pub goes_then : (e : Event) (a : Answer) (s : Store) (h : List Entry) → empty_wait (tells a).control ≡ false → is_stalled a ≡ false → goes_on h ≡ true → goes_on (entry_of e a s ∷ h) ≡ true
unfolding goes_on entry_of
goes_then e a s h p q r = rw (p, q, r)
