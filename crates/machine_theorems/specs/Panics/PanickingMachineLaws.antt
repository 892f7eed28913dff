-- No panic of the Rust that docs/PANICS.md lists is reached: whatever a panic does, a step of the machine with the panics in it is the machine's
-- step, on every store of the right lengths, and so are sessions.
use Rattle.std.specs.Prelude.{◌≡◌, Bool, T, length}
use Rattle.std.proofs.Math.Path.{refl, ap}
use Rattle.std.proofs.Common.{sym, ◌∙◌, true≢false, arith}
use Rattle.std.proofs.Math.Bool.{true, false}
use mathlib.Core.List.{List, [], ◌∷◌}
use Prim.Native.Nat.{ℕ, zero, suc, ◌<◌}
use Rattle.std.proofs.Math.Dec.{eqb}
use borrow.Author.Tests.{eqb-true, eqb-false, ne_eqb}
use Rattle.asyncio.specs.declared.Value.{Value}
use Rattle.asyncio.specs.declared.Error.{Error}
use Rattle.asyncio.specs.Options.{OptionValue}
use Rattle.asyncio.specs.declared.Moment.{Moment}
use Rattle.asyncio.specs.Limits.{task_limit, u32_limit}
use Rattle.asyncio.specs.Numbers.{task_id}
use Rattle.asyncio.specs.States.{pick}
use Rattle.machine.specs.Store.{Store, object, header, forget, fresh}
use Rattle.machine.specs.Scheduler.{is_some, pending_call_ids}
use Rattle.machine.specs.Events.{Switched, Result, wake_in_order, exec_get_awaitable, make_pending}
use Rattle.machine.specs.Machine.{Event, Answer, made, done, refused, Step, is_run, in_running, runner, refusal, refusals, first_refusal, switched, answer_await}
use Rattle.machine.specs.Machine.{task_completes, task_fails, repeat_wait, resume_with_resolved_futures, accept, decide, step, after, answers}
use Rattle.machine.specs.Sound.{value_known}
use Rattle.machine_laws.specs.Views.{Sized}
use Rattle.machine_laws.specs.MachineLaws.{refused-step}
use Rattle.machine_laws.specs.SizedLaws.{step-sized}
use Rattle.machine_laws.specs.SoundLaws.{refusal-sound, refusal-rest, refusal-forget}
use Rattle.machine_theorems.specs.Soundness.Stores.{SoundStore, sound-store_of, during_of}
use Rattle.machine_theorems.specs.Soundness.Preserved.{running, waiting, await-made, complete-known, results_apply}
use Rattle.machine.specs.Sessions.{InRange}
use Rattle.machine_theorems.specs.Soundness.Sessions.{forget_sound_store, step_sound_store, AllInRange, fresh_sound_store}
use Rattle.machine_theorems.specs.Panics.NoPanicLaws.{registered_once}
use Rattle.machine_theorems.specs.Panics.Panic.{Panics}
use Rattle.machine_theorems.specs.Panics.PanickingDeliveryLaws.{results_safe}
use Rattle.machine_theorems.specs.Panics.PanickingEventsLaws.{resume_safe, fail_safe, complete_safe, await_safe}
use Rattle.machine_theorems.specs.Panics.PanickingMachine.{current_or_panic, task_completes_or_panic, task_fails_or_panic, resume_or_panic, pending_made_or_panic}
use Rattle.machine_theorems.specs.Panics.PanickingMachine.{accept_or_panic, decide_or_panic, step_or_panic, after_or_panic, answers_or_panic}

module _ (panic : Panics) where
  -- ---- an event that no refusal meets

  module _ (s : Store) (h : SoundStore s) where
    current-same : (y : Moment) (f : ℕ → Step) → is_run y ≡ true → current_or_panic panic s y f ≡ f (runner y)
    unfolding current_or_panic runner is_run
    current-same (Moment.Running t) f e = refl
    current-same Moment.Waiting f e = absurd (true≢false (sym e))
    current-same Moment.Ended f e = absurd (true≢false (sym e))

    -- an event of running: it does the same, for the task that runs
    runs_same : (rs : List (ℕ × Bool)) → first_refusal (in_running s rs) ≡ 0 → (f g : ℕ → Step)
        → ((t : ℕ) → (header s).moment ≡ Moment.Running (task_id t) → f t ≡ g t) → current_or_panic panic s (header s).moment f ≡ g (runner (header s).moment)
    unfolding is_run
    runs_same rs r f g same =
        let m : (header s).moment ≡ Moment.Running (task_id (runner (header s).moment)) = running s h rs r in
        current-same (header s).moment f (ap is_run m) ∙ same (runner (header s).moment) m

    completes-same : (t : ℕ) (v : Value) → (header s).moment ≡ Moment.Running (task_id t) → T (value_known (header s).made (object s) v)
        → task_completes_or_panic panic s t v ≡ task_completes s t v
    unfolding task_completes_or_panic task_completes
    completes-same zero v m k = refl
    completes-same (suc t) v m k = rw (ne_eqb (suc t) 0 (λ e. omega arith)) (ap switched (complete_safe panic s h t v m k))

    fails-same : (t n : ℕ) → (header s).moment ≡ Moment.Running (task_id t) → n < u32_limit → task_fails_or_panic panic s t (Error.Script n) ≡ task_fails s t (Error.Script n)
    unfolding task_fails_or_panic task_fails
    fails-same zero n m k = refl
    fails-same (suc t) n m k = rw (ne_eqb (suc t) 0 (λ e. omega arith)) (ap switched (fail_safe panic s h t (Error.Script n) m k))

    resume-same : (header s).moment ≡ Moment.Waiting → resume_or_panic panic s ≡ resume_with_resolved_futures s
    unfolding resume_or_panic resume_with_resolved_futures
    resume-same m =
        ap (λ (x : Switched). pick (eqb s.queue.len 0) (record { store = s; answer = repeat_wait (pending_call_ids s) }) (switched x)) (resume_safe panic s h m)

    pending_same : (c : ℕ) (x : OptionValue) → refusal s (Event.pending c x) ≡ 0 → pending_made_or_panic panic s c x ≡ record { store = make_pending s c x; answer = made (header s).made }
    unfolding pending_made_or_panic is_some
    pending_same c x r = rw (registered_once s c x r)

    results_same : (rs : List Result) → first_refusal (refusals s (Event.results rs)) ≡ 0 → accept_or_panic panic s (Event.results rs) ≡ accept s (Event.results rs)
    unfolding accept_or_panic accept
    results_same rs r = ap (λ (x : Store). record { store = wake_in_order s x; answer = done }) (results_safe panic rs s (results_apply s h rs r) (during_of s h))

    accept-safe : (e : Event) → InRange e → refusal s e ≡ 0 → accept_or_panic panic s e ≡ accept s e
    unfolding accept_or_panic accept InRange refusals
    accept-safe (Event.coroutine f) i r = refl
    accept-safe Event.call i r = refl
    accept-safe (Event.pending c x) i r = pending_same c x r
    accept-safe (Event.settled v) i r = refl
    accept-safe (Event.gather os) i r = refl
    accept-safe (Event.await o) i r =
        let q = refusal-rest s (Event.await o) r in
        runs_same _ q _ (λ t. answer_await (exec_get_awaitable s t o)) (λ t m. ap answer_await (await_safe panic s t h m o (await-made s h o q)))
    accept-safe (Event.complete v) i r =
        let q = refusal-rest s (Event.complete v) r in runs_same _ q _ (λ t. task_completes s t v) (λ t m. completes-same t v m (complete-known s h v q))
    accept-safe (Event.fail n) i r = runs_same _ (refusal-rest s (Event.fail n) r) _ (λ t. task_fails s t (Error.Script n)) (λ t m. fails-same t n m i)
    accept-safe (Event.results rs) i r = results_same rs (refusal-rest s (Event.results rs) r)
    accept-safe Event.resume i r = resume-same (waiting s h [] (refusal-rest s Event.resume r)).0
    accept-safe (Event.cancel t) i r = refl
    accept-safe (Event.show o) i r = refl
    accept-safe Event.eager i r = refl

  -- ---- one step

  -- No panic is reached by an event, on any store of the right lengths: one that is not sound is refused.
  pub step_safe : (s : Store) (e : Event) → Sized s → length s.queue.ids ≡ task_limit → InRange e → step_or_panic panic s e ≡ step s e
  unfolding step_or_panic step decide_or_panic decide
  step_safe s e z ids i = by (eqb (refusal s e) 0) refl
    where
      by : (b : Bool) → eqb (refusal s e) 0 ≡ b
          → pick b (accept_or_panic panic (forget s) e) (record { store = forget s; answer = refused (refusal s e) })
          ≡ pick b (accept (forget s) e) (record { store = forget s; answer = refused (refusal s e) })
      by true q =
          let r : refusal s e ≡ 0 = eqb-true (refusal s e) 0 q in
          accept-safe (forget s) (forget_sound_store s (sound-store_of s z ids (refusal-sound s e r))) e i (refusal-forget s e ∙ r)
      by false q = refl

  -- ---- sessions

  -- the queue's array keeps its length
  step-ids : (s : Store) (e : Event) → Sized s → length s.queue.ids ≡ task_limit → InRange e → length (step s e).store.queue.ids ≡ task_limit
  step-ids s e z ids i = by (eqb (refusal s e) 0) refl
    where
      by : (b : Bool) → eqb (refusal s e) 0 ≡ b → length (step s e).store.queue.ids ≡ task_limit
      by true q = (step_sound_store s (sound-store_of s z ids (refusal-sound s e (eqb-true (refusal s e) 0 q))) e i).memory.ids
      by false q = rw (refused-step s e (refusal s e) refl (eqb-false (refusal s e) 0 q)) (unfold forget in ids)

  after-safe : (es : List Event) (s : Store) → Sized s → length s.queue.ids ≡ task_limit → AllInRange es → after_or_panic panic s es ≡ after s es
  unfolding after_or_panic after AllInRange
  after-safe [] s z ids i = refl
  after-safe (e ∷ es) s z ids i =
      ap (λ (x : Step). after_or_panic panic x.store es) (step_safe s e z ids i.0)
      ∙ after-safe es (step s e).store (step-sized s e z) (step-ids s e z ids i.0) i.1

  answers-safe : (es : List Event) (s : Store) → Sized s → length s.queue.ids ≡ task_limit → AllInRange es → answers_or_panic panic s es ≡ answers s es
  unfolding answers_or_panic answers AllInRange
  answers-safe [] s z ids i = refl
  answers-safe (e ∷ es) s z ids i =
      ap (λ (x : Step). x.answer ∷ answers_or_panic panic x.store es) (step_safe s e z ids i.0)
      ∙ ap (λ (xs : List Answer). (step s e).answer ∷ xs) (answers-safe es (step s e).store (step-sized s e z) (step-ids s e z ids i.0) i.1)

  -- No panic is reached by any events from a fresh session on: the store and the answers are the machine's.
  pub session_safe : (es : List Event) → AllInRange es → (after_or_panic panic fresh es ≡ after fresh es) × (answers_or_panic panic fresh es ≡ answers fresh es)
  session_safe es i = (after-safe es fresh fresh_sound_store.memory.sized fresh_sound_store.memory.ids i, answers-safe es fresh fresh_sound_store.memory.sized fresh_sound_store.memory.ids i)
