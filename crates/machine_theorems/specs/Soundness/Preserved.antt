-- Each event that no refusal meets leaves a sound store sound.
use Rattle.std.specs.Prelude.{◌≡◌, refl, true, false, not, ◌||◌, ◌&&◌, T, eqb, ltb, leb, length}
use Rattle.std.proofs.Common.{sym, subst, true≢false, mod-eq_of_lt, arith, ltb→lt}
use Rattle.std.proofs.Math.Bool.{Bool}
use mathlib.Core.List.{List, [], ◌∷◌}
use Prim.Native.Nat.{ℕ, zero, suc, ◌%◌, ◌≤◌, ◌<◌}
use borrow.Author.Tests.{leb-false, ltb-true, ltb-false, eqb-false, eq-eqb, ne_eqb}
use Rattle.asyncio.specs.declared.Value.{Value}
use Rattle.asyncio.specs.declared.Error.{Error}
use Rattle.asyncio.specs.declared.Moment.{Moment}
use Rattle.asyncio.specs.Limits.{object_limit, u32_limit, result_limit}
use Rattle.asyncio.specs.Numbers.{task_id, to_heap_id}
use Rattle.asyncio.specs.States.{pick, is_live}
use Rattle.asyncio.specs.Kinds.{kind, is_completed}
use Rattle.machine.specs.Tests.{◌and◌}
use Rattle.machine.specs.Store.{Store, view, task, object, header}
use Rattle.machine.specs.Scheduler.{live}
use Rattle.machine.specs.Events.{Result, apply_future_results, wake_in_order}
use Rattle.machine.specs.Machine.{Event, is_run, in_running, in_waiting, in_both, unmade, any_of, result_unknown, bad_result, refusals, first_refusal}
use Rattle.machine.specs.Machine.{switched, answer_await, end_main, task_completes, task_fails, runner, accept}
use Rattle.machine.specs.Sound.{is_ended, value_known}
use Rattle.machine_laws.specs.TestLaws.{not-not, both, both_left, both_right, or_left, or_right}
use Rattle.machine_laws.specs.StoreLaws.{header-fits}
use Rattle.machine_laws.specs.SoundLaws.{pass, running-rest}
use Rattle.machine_theorems.specs.Soundness.Stores.{SoundStore, during_of, sound_store_during}
use Rattle.machine_theorems.specs.Soundness.Results.{MayApply, AllApply, results-keep, ordered-keep}
use Rattle.machine_theorems.specs.Soundness.Exits.{completion_keeps, fail_keeps, end_keeps, cancel_keeps, resume_keeps}
use Rattle.machine_theorems.specs.Soundness.AwaitGather.{await_keeps}
use Rattle.machine.specs.Sessions.{InRange}

-- ---- what the table of refusals lets through

-- a running task
run_is : (m : Moment) → is_run m ≡ true → m ≡ Moment.Running (task_id (runner m))
unfolding is_run runner
run_is (Moment.Running t) e = refl
run_is Moment.Waiting e = absurd (true≢false (sym e))
run_is Moment.Ended e = absurd (true≢false (sym e))

-- none
wait_is : (m : Moment) → is_ended m ≡ false → is_run m ≡ false → m ≡ Moment.Waiting
unfolding is_run is_ended
wait_is (Moment.Running t) e f = absurd (true≢false f)
wait_is Moment.Waiting e f = refl
wait_is Moment.Ended e f = absurd (true≢false e)

is-not-false : (b : Bool) → not b ≡ false → b ≡ true
is-not-false true e = refl
is-not-false false e = sym e

and-false : (a b c : Bool) → (a && b && not c) ≡ false → a ≡ true → b ≡ true → T c
and-false a b c e p q = not-not c (rw (p, q) at e)

live_below : (s : Store) (t : ℕ) → live s t ≡ true → t < (header s).next
unfolding live
live_below s t e = by (ltb t (header s).next) refl e
  where
    by : (b : Bool) → ltb t (header s).next ≡ b → pick b (is_live (task s t).state) false ≡ true → t < (header s).next
    by true q z = ltb-true t (header s).next q
    by false q z = absurd (true≢false (sym z))

-- results
may_apply : (s : Store) (x : Result) → result_unknown s x ≡ false → bad_result x ≡ false → MayApply (header s).made (λ o. T (is_completed (kind (object s o)))) x
unfolding result_unknown bad_result value_known
may_apply s x u b k os f = by (eqb x.tag 0) refl
  where
    tag_small : x.tag ≤ 1
    tag_small = ltb-false 1 x.tag (or_right (ltb 4 x.kind) (ltb 1 x.tag) (or_left (ltb 4 x.kind || ltb 1 x.tag) (eqb x.kind 1 && leb u32_limit x.number) b))

    by : (c : Bool) → eqb x.tag 0 ≡ c → T (value_known (header s).made os (pick c (Value.Plain x.number) (Value.List (to_heap_id x.number))))
    by true e = tt
    by false e =
        let one : eqb x.tag 1 ≡ true = eq-eqb x.tag 1 (omega (arith, tag_small, eqb-false x.tag 0 e)) in
        let known : T (ltb x.number (header s).made and is_completed (kind (object s x.number))) =
        and-false (eqb x.kind 0) (eqb x.tag 1) (ltb x.number (header s).made and is_completed (kind (object s x.number))) u (eq-eqb x.kind 0 k) one in
        let low : x.number < object_limit = omega (arith, ltb→lt x.number (header s).made (both_left _ _ known), (header-fits s).made_fits) in
        let same : x.number % object_limit ≡ x.number = mod-eq_of_lt low in
        subst (λ (n : ℕ). T (ltb n (header s).made and is_completed (kind (os n)))) (sym same)
        (both _ _ (both_left _ _ known) (f x.number (both_right (ltb x.number (header s).made) _ known)))

all_apply : (s : Store) (xs : List Result) → any_of (result_unknown s) xs ≡ false → any_of bad_result xs ≡ false
    → AllApply (header s).made (λ o. T (is_completed (kind (object s o)))) xs
unfolding any_of AllApply
all_apply s [] u b = tt
all_apply s (x ∷ xs) u b = (
  may_apply s x (or_left (result_unknown s x) _ u) (or_left (bad_result x) _ b),
  all_apply s xs (or_right (result_unknown s x) (any_of (result_unknown s) xs) u) (or_right (bad_result x) (any_of bad_result xs) b),
)

-- ---- each event

module _ (s : Store) (h : SoundStore s) where
  completes : (t : ℕ) (v : Value) → (header s).moment ≡ Moment.Running (task_id t) → T (value_known (header s).made (object s) v) → SoundStore (task_completes s t v).store
  unfolding task_completes end_main switched
  completes zero v m k = end_keeps s h
  completes (suc t) v m k = rw (ne_eqb (suc t) 0 (λ e. omega arith)) (completion_keeps s t v h m k)

  fails : (t n : ℕ) → (header s).moment ≡ Moment.Running (task_id t) → n < u32_limit → SoundStore (task_fails s t (Error.Script n)).store
  unfolding task_fails end_main switched
  fails zero n m k = end_keeps s h
  fails (suc t) n m k = rw (ne_eqb (suc t) 0 (λ e. omega arith)) (fail_keeps s t (Error.Script n) h m k)

  pub running : (rs : List (ℕ × Bool)) → first_refusal (in_running s rs) ≡ 0 → (header s).moment ≡ Moment.Running (task_id (runner (header s).moment))
  unfolding in_running
  running rs e =
      run_is (header s).moment (is-not-false (is_run (header s).moment) (pass 3 (not (is_run (header s).moment)) rs (pass 2 (is_ended (header s).moment) _ e).1).0)

  pub waiting : (rs : List (ℕ × Bool)) → first_refusal (in_waiting s rs) ≡ 0 → ((header s).moment ≡ Moment.Waiting) × (first_refusal rs ≡ 0)
  unfolding in_waiting
  waiting rs e =
      let c = pass 2 (is_ended (header s).moment) _ e in
      let d = pass 3 (is_run (header s).moment) rs c.1 in
      (wait_is (header s).moment c.0 d.0, d.1)

  -- what is awaited is made
  pub await-made : (o : ℕ) → first_refusal (refusals s (Event.await o)) ≡ 0 → o < (header s).made
  unfolding refusals unmade
  await-made o r = leb-false (header s).made o (pass 4 (unmade s o) [] (running-rest s _ r)).0

  -- a value that is returned may be handed on
  pub complete-known : (v : Value) → first_refusal (refusals s (Event.complete v)) ≡ 0 → T (value_known (header s).made (object s) v)
  unfolding refusals
  complete-known v r = let known : Bool = value_known (header s).made (object s) v in not-not known (pass 4 (not known) [] (running-rest s _ r)).0

  -- so may those of the host's results
  pub results_apply : (rs : List Result) → first_refusal (refusals s (Event.results rs)) ≡ 0 → AllApply (header s).made (λ o. T (is_completed (kind (object s o)))) rs
  unfolding refusals in_both
  results_apply rs r =
      let c = pass 2 (is_ended (header s).moment) _ r in
      let d = pass 4 (any_of (result_unknown s) rs) _ c.1 in
      let f = pass 9 (ltb result_limit (length rs) || any_of bad_result rs) [] d.1 in
      all_apply s rs d.0 (or_right (ltb result_limit (length rs)) (any_of bad_result rs) f.0)

  results-sound-store : (xs : List Result) → AllApply (header s).made (λ o. T (is_completed (kind (object s o)))) xs → SoundStore (wake_in_order s (apply_future_results s xs))
  unfolding view
  results-sound-store xs a =
      sound_store_during (wake_in_order s (apply_future_results s xs)) h.facts.runner (ordered-keep s (apply_future_results s xs) (results-keep xs s a (during_of s h)))

-- an event that does not make
unfoldable pub Acting : Event → Type 0
Acting (Event.coroutine f) = ⊥
Acting Event.call = ⊥
Acting (Event.pending c r) = ⊥
Acting (Event.settled v) = ⊥
Acting (Event.gather os) = ⊥
Acting (Event.await o) = Unit {0}
Acting (Event.complete v) = Unit {0}
Acting (Event.fail n) = n < u32_limit
Acting (Event.results rs) = Unit {0}
Acting Event.resume = Unit {0}
Acting (Event.cancel t) = Unit {0}
Acting (Event.show o) = Unit {0}
Acting Event.eager = Unit {0}

pub accept_keeps : (s : Store) (e : Event) → SoundStore s → Acting e → first_refusal (refusals s e) ≡ 0 → SoundStore (accept s e).store
unfolding Acting accept refusals answer_await
accept_keeps s (Event.coroutine f) h a r = absurd a
accept_keeps s Event.call h a r = absurd a
accept_keeps s (Event.pending c x) h a r = absurd a
accept_keeps s (Event.settled v) h a r = absurd a
accept_keeps s (Event.gather os) h a r = absurd a
accept_keeps s (Event.await o) h a r = await_keeps s (runner (header s).moment) h (running s h _ r) o (await-made s h o r)
accept_keeps s (Event.complete v) h a r = completes s h (runner (header s).moment) v (running s h _ r) (complete-known s h v r)
accept_keeps s (Event.fail n) h a r = fails s h (runner (header s).moment) n (running s h _ r) a
accept_keeps s (Event.results rs) h a r = results-sound-store s h rs (results_apply s h rs r)
accept_keeps s Event.resume h a r = resume_keeps s h (waiting s h [] r).0
accept_keeps s (Event.cancel t) h a r =
    let c = waiting s h _ r in
    cancel_keeps s t h c.0 (live_below s t (is-not-false (live s t) (pass 4 (not (live s t)) _ c.1).0))
accept_keeps s (Event.show o) h a r = h
accept_keeps s Event.eager h a r = h
