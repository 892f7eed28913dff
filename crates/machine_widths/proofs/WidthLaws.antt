-- More call numbers change nothing before the first refusal 8, event by event: once, for any two limits.
use Rattle.std.specs.Prelude.{◌≡◌, Bool, not, ◌&&◌, ◌⊎◌, ℕ, ◌≤◌, ◌<◌, T, leb}
use Rattle.std.proofs.Math.Path.{refl, subst}
use Rattle.std.proofs.Common.{sym, ap, ◌∙◌, true≢false, arith}
use Rattle.std.proofs.Math.Bool.{true, false}
use mathlib.Core.List.{List, [], ◌∷◌}
use Rattle.std.proofs.Math.Logic.{inl, inr}
use Rattle.std.proofs.Math.Decide.{ℕ_discrete}
use Rattle.std.proofs.Math.Dec.{eqb}
use borrow.Author.Tests.{leb-true, leb-false, eqb-true, eq-eqb, ne_eqb, le-leb, lt-leb}
use Rattle.asyncio.specs.Limits.{call_limit}
use Rattle.asyncio.specs.States.{pick}
use Rattle.machine.specs.Store.{Store, header, forget}
use Rattle.machine.specs.Sound.{sound}
use Rattle.machine.specs.Sessions.{InRange}
use Rattle.machine.specs.Machine.{Event, Answer, Step, in_running, in_waiting, in_both, no_number, refusals, first_refusal, refusal, accept, decide, step}
use Rattle.machine_laws.specs.TestLaws.{and-true, both, both_left, both_right, is_true}
use Rattle.machine_laws.specs.StoreLaws.{sized-forget, header-fits}
use Rattle.machine_laws.specs.SoundLaws.{pass, refusal-rest, refusal-forget}
use Rattle.machine_laws.specs.WalkEvents.{HandsOut}
use Rattle.machine_theorems.specs.Soundness.Stores.{SoundStore, sound_store_sound}
use Rattle.machine_theorems.specs.Soundness.Sessions.{forget_sound_store, step_sound_store}
use Rattle.machine_widths.specs.Widths.{sound_at, check_at, checks_at, refusal_at, step_at}
use Rattle.machine_widths.proofs.CallCount.{calls_stay, calls_next}
use Rattle.machine_widths.specs.WidthLaws.{SoundAt}

-- two tests that hold together
pub same_test : (a b : Bool) → (T a → T b) → (T b → T a) → a ≡ b
same_test true true f g = refl
same_test true false f g = absurd (f tt)
same_test false true f g = absurd (g tt)
same_test false false f g = refl

-- ---- soundness

pub sound_at_of : (n : ℕ) (s : Store) → T (sound s) → (header s).calls ≤ n → T (sound_at n s)
unfolding sound_at
sound_at_of n s h l = both _ _ h (rw (le-leb (header s).calls n l) tt)

pub sound_of_at : (n : ℕ) (s : Store) → T (sound_at n s) → T (sound s) × ((header s).calls ≤ n)
unfolding sound_at
sound_of_at n s h = (both_left _ _ h, leb-true (header s).calls n (is_true _ (both_right (sound s) _ h)))

-- Every sound state of a limit is one of any greater limit.
pub sound-wider : (n m : ℕ) → n ≤ m → (s : Store) → T (sound_at n s) → T (sound_at m s)
sound-wider n m l s h = let k = sound_of_at n s h in sound_at_of m s k.0 (omega (arith, k.1, l))

-- ---- the table

-- the first of two tables' checks: the same, or 8
choose : (x : ℕ) (a b : Bool) (p q : ℕ) → (pick a x p ≡ 8 → ⊥) → (a ≡ true → (x ≡ 8) ⊎ (b ≡ true)) → (a ≡ false → b ≡ false)
    → ((p ≡ 8 → ⊥) → q ≡ p) → pick b x q ≡ pick a x p
choose x true b p q f up down on = by (up refl)
  where
    by : (x ≡ 8) ⊎ (b ≡ true) → pick b x q ≡ x
    by (inl e) = absurd (f e)
    by (inr e) = rw e
choose x false b p q f up down on = rw (down refl) (on f)

module _ (n m : ℕ) (l : n ≤ m) (s : Store) where
  wider_up : (c : ℕ × Bool) → (check_at n s c).1 ≡ true → (c.0 ≡ 8) ⊎ ((check_at m s c).1 ≡ true)
  unfolding check_at
  wider_up c e = by (eqb c.0 8) refl e
    where
      by : (b : Bool) → eqb c.0 8 ≡ b → pick b (leb n (header s).calls) c.1 ≡ true → (c.0 ≡ 8) ⊎ (pick b (leb m (header s).calls) c.1 ≡ true)
      by true q z = inl (eqb-true c.0 8 q)
      by false q z = inr z

  wider-down : (c : ℕ × Bool) → (check_at n s c).1 ≡ false → (check_at m s c).1 ≡ false
  unfolding check_at
  wider-down c e = by (eqb c.0 8) e
    where
      by : (b : Bool) → pick b (leb n (header s).calls) c.1 ≡ false → pick b (leb m (header s).calls) c.1 ≡ false
      by true z = let k : (header s).calls < n = leb-false n (header s).calls z in lt-leb m (header s).calls (omega (arith, k, l))
      by false z = z

  -- the checks with more numbers meet an event as those with fewer do, but for 8
  wider : (cs : List (ℕ × Bool)) → (first_refusal (checks_at n s cs) ≡ 8 → ⊥) → first_refusal (checks_at m s cs) ≡ first_refusal (checks_at n s cs)
  unfolding checks_at check_at first_refusal
  wider [] f = refl
  wider (c ∷ cs) f = choose c.0 (check_at n s c).1 (check_at m s c).1 _ _ f (wider_up c) (wider-down c) (λ g. wider cs g)

-- ---- one event

refusal_of : (n : ℕ) (s : Store) (e : Event) → T (sound_at n s) → refusal_at n s e ≡ first_refusal (checks_at n s (refusals s e))
unfolding refusal_at first_refusal
refusal_of n s e h = rw (is_true (sound_at n s) h)

refusal-wider : (n m : ℕ) → n ≤ m → (s : Store) (e : Event) → T (sound_at n s) → (refusal_at n s e ≡ 8 → ⊥) → refusal_at m s e ≡ refusal_at n s e
refusal-wider n m l s e h f =
    refusal_of m s e (sound-wider n m l s h) ∙ wider n m l s (refusals s e) (λ q. f (refusal_of n s e h ∙ q)) ∙ sym (refusal_of n s e h)

-- An event that is not refused with 8 does the same with more numbers.
pub step-wider : (n m : ℕ) → n ≤ m → (s : Store) (e : Event) → T (sound_at n s) → (refusal_at n s e ≡ 8 → ⊥) → step_at m s e ≡ step_at n s e
unfolding step_at
step-wider n m l s e h f = ap (λ (r : ℕ). decide r (forget s) e) (refusal-wider n m l s e h f)

-- ---- the machine is the one with `call_limit` numbers

table_limit : (s : Store) (e : Event) → checks_at call_limit s (refusals s e) ≡ refusals s e
unfolding checks_at check_at refusals in_running in_waiting in_both no_number
table_limit s (Event.coroutine f) = refl
table_limit s Event.call = refl
table_limit s (Event.pending c r) = refl
table_limit s (Event.settled v) = refl
table_limit s (Event.gather os) = refl
table_limit s (Event.await o) = refl
table_limit s (Event.complete v) = refl
table_limit s (Event.fail n) = refl
table_limit s (Event.results rs) = refl
table_limit s Event.resume = refl
table_limit s (Event.cancel t) = refl
table_limit s (Event.show o) = refl
table_limit s Event.eager = refl

pub sound_limit : (s : Store) → sound_at call_limit s ≡ sound s
sound_limit s = same_test _ _ (λ h. (sound_of_at call_limit s h).0) (λ h. sound_at_of call_limit s h (header-fits s).calls_fit)

pub refusal_limit : (s : Store) (e : Event) → refusal_at call_limit s e ≡ refusal s e
unfolding refusal_at refusal
refusal_limit s e = rw (sound_limit s, table_limit s e)

pub step_limit : (s : Store) (e : Event) → step_at call_limit s e ≡ step s e
unfolding step_at step
step_limit s e = ap (λ (r : ℕ). decide r (forget s) e) (refusal_limit s e)

-- ---- an event keeps the soundness of its limit

-- 8 is asked of a call and of a settled external, last
last_check : (n : ℕ) (s : Store) (e : Event) → HandsOut e → first_refusal (checks_at n s (refusals s e)) ≡ 0 → (header s).calls < n
unfolding HandsOut checks_at check_at refusals in_running
last_check n s Event.call o r = leb-false n (header s).calls (pass 7 _ [] (pass 3 _ _ (pass 2 _ _ r).1).1).0
last_check n s (Event.settled v) o r = leb-false n (header s).calls (pass 7 _ [] (pass 6 _ _ (pass 4 _ _ (pass 3 _ _ (pass 2 _ _ r).1).1).1).1).0
last_check n s (Event.coroutine f) o r = absurd o
last_check n s (Event.pending c x) o r = absurd o
last_check n s (Event.gather os) o r = absurd o
last_check n s (Event.await x) o r = absurd o
last_check n s (Event.complete v) o r = absurd o
last_check n s (Event.fail x) o r = absurd o
last_check n s (Event.results rs) o r = absurd o
last_check n s Event.resume o r = absurd o
last_check n s (Event.cancel t) o r = absurd o
last_check n s (Event.show x) o r = absurd o
last_check n s Event.eager o r = absurd o

-- an event hands out a number, or none
hands_out : (e : Event) → HandsOut e ⊎ (HandsOut e → ⊥)
unfolding HandsOut
hands_out Event.call = inl tt
hands_out (Event.settled v) = inl tt
hands_out (Event.coroutine f) = inr (λ o. o)
hands_out (Event.pending c x) = inr (λ o. o)
hands_out (Event.gather os) = inr (λ o. o)
hands_out (Event.await x) = inr (λ o. o)
hands_out (Event.complete v) = inr (λ o. o)
hands_out (Event.fail x) = inr (λ o. o)
hands_out (Event.results rs) = inr (λ o. o)
hands_out Event.resume = inr (λ o. o)
hands_out (Event.cancel t) = inr (λ o. o)
hands_out (Event.show x) = inr (λ o. o)
hands_out Event.eager = inr (λ o. o)

module _ (n : ℕ) (l : n ≤ call_limit) (s : Store) (h : SoundAt n s) where
  pub sound-here : T (sound_at n s)
  sound-here = sound_at_of n s (sound_store_sound s h.store) h.within

  -- the event in the machine itself
  same_step : (e : Event) → (refusal_at n s e ≡ 8 → ⊥) → step s e ≡ step_at n s e
  same_step e f = sym (step_limit s e) ∙ step-wider n call_limit l s e sound-here f

  same_count : (header (forget s)).calls ≡ (header s).calls
  same_count = unfold header forget in refl

  -- an event that is accepted leaves at most n calls handed out
  accepted-within : (e : Event) → refusal_at n s e ≡ 0 → (header (accept (forget s) e).store).calls ≤ n
  accepted-within e r = by (hands_out e)
    where
      by : HandsOut e ⊎ (HandsOut e → ⊥) → (header (accept (forget s) e).store).calls ≤ n
      by (inl o) =
          let k : (header s).calls < n = last_check n s e o (sym (refusal_of n s e sound-here) ∙ r) in
          omega (arith, calls_next (forget s) e o (sized-forget s h.store.memory.sized) (omega (arith, same_count, k, l)), same_count, k)
      by (inr o) =
          let q : refusal s e ≡ 0 = sym (refusal_limit s e) ∙ refusal-wider n call_limit l s e sound-here (λ z. omega (arith, z, r)) ∙ r in
          omega (arith, calls_stay (forget s) e o (refusal-rest (forget s) e (refusal-forget s e ∙ q)) (sized-forget s h.store.memory.sized), same_count, h.within)

  step-within : (e : Event) → (header (step_at n s e).store).calls ≤ n
  unfolding step_at decide
  step-within e = by (ℕ_discrete (refusal_at n s e) 0)
    where
      by : Dec (refusal_at n s e ≡ 0)
          → (header (pick (eqb (refusal_at n s e) 0) (accept (forget s) e) (record { store = forget s; answer = Answer.refused (refusal_at n s e) })).store).calls ≤ n
      by (yes r) = rw (eq-eqb (refusal_at n s e) 0 r) (accepted-within e r)
      by (no r) = rw (ne_eqb (refusal_at n s e) 0 r) (omega (arith, same_count, h.within))

  step-store : (e : Event) → InRange e → SoundStore (step_at n s e).store
  step-store e i = by (ℕ_discrete (refusal_at n s e) 8)
    where
      by : Dec (refusal_at n s e ≡ 8) → SoundStore (step_at n s e).store
      by (yes r) = unfold step_at decide in (rw r (forget_sound_store s h.store))
      by (no r) = subst (λ (x : Step). SoundStore x.store) (same_step e r) (step_sound_store s h.store e i)

  -- An event, refused or not, leaves a sound store sound, with at most n calls handed out.
  pub step-sound_at : (e : Event) → InRange e → SoundAt n (step_at n s e).store
  step-sound_at e i = record { store = step-store e i; within = step-within e }

-- ---- where 8 meets an event, more numbers let it through

-- 8 is the last of the checks, if it is one of them
unfoldable last_is_8 : List (ℕ × Bool) → Bool
last_is_8 [] = true
last_is_8 (c ∷ []) = true
last_is_8 (c ∷ d ∷ cs) = not (eqb c.0 8) && last_is_8 (d ∷ cs)

table_last : (s : Store) (e : Event) → last_is_8 (refusals s e) ≡ true
unfolding last_is_8 refusals in_running in_waiting in_both
table_last s (Event.coroutine f) = refl
table_last s Event.call = refl
table_last s (Event.pending c r) = refl
table_last s (Event.settled v) = refl
table_last s (Event.gather os) = refl
table_last s (Event.await o) = refl
table_last s (Event.complete v) = refl
table_last s (Event.fail n) = refl
table_last s (Event.results rs) = refl
table_last s Event.resume = refl
table_last s (Event.cancel t) = refl
table_last s (Event.show o) = refl
table_last s Event.eager = refl

zero_not_8 : {n : ℕ} → n ≡ 0 → n ≡ 8 → ⊥
zero_not_8 z e = omega (arith, z, e)

module _ (n m : ℕ) (l : n < m) (s : Store) (h : (header s).calls ≤ n) where
  met : (c : ℕ × Bool) → c.0 ≡ 8 → (check_at n s c).1 ≡ true → ((header s).calls ≡ n) × ((check_at m s c).1 ≡ false)
  unfolding check_at
  met c e t =
      let k : n ≤ (header s).calls = leb-true n (header s).calls (rw (eq-eqb c.0 8 e) at t) in
      (omega (arith, k, h), rw (eq-eqb c.0 8 e) (lt-leb m (header s).calls (omega (arith, h, l))))

  through : (cs : List (ℕ × Bool)) → last_is_8 cs ≡ true → first_refusal (checks_at n s cs) ≡ 8
      → ((header s).calls ≡ n) × (first_refusal (checks_at m s cs) ≡ 0)
  unfolding checks_at check_at first_refusal last_is_8
  through [] q r = absurd (zero_not_8 refl r)
  through (c ∷ []) q r = by (check_at n s c).1 refl r
    where
      by : (b : Bool) → (check_at n s c).1 ≡ b → pick b c.0 0 ≡ 8 → ((header s).calls ≡ n) × (pick (check_at m s c).1 c.0 0 ≡ 0)
      by true t e = let k = met c e t in (k.0, rw k.1)
      by false t e = absurd (zero_not_8 refl e)
  through (c ∷ d ∷ cs) q r = by (check_at n s c).1 refl r (λ e. through (d ∷ cs) k.1 e)
    where
      k : (not (eqb c.0 8) ≡ true) × (last_is_8 (d ∷ cs) ≡ true)
      k = and-true _ _ q

      rest : ℕ → ℕ
      rest i = first_refusal (checks_at i s (d ∷ cs))

      by : (b : Bool) → (check_at n s c).1 ≡ b → pick b c.0 (rest n) ≡ 8 → (rest n ≡ 8 → ((header s).calls ≡ n) × (rest m ≡ 0))
          → ((header s).calls ≡ n) × (pick (check_at m s c).1 c.0 (rest m) ≡ 0)
      by true t e go = absurd (true≢false (sym k.0 ∙ ap not (eq-eqb c.0 8 e)))
      by false t e go = let g = go e in (g.0, rw (wider-down n m (omega (arith, l)) s c t) g.1)

-- Where 8 meets an event, all numbers are handed out, and with more of them nothing meets it.
pub let_through : (n m : ℕ) → n < m → (s : Store) (e : Event) → T (sound_at n s) → refusal_at n s e ≡ 8 → ((header s).calls ≡ n) × (refusal_at m s e ≡ 0)
let_through n m l s e h r =
    let k = through n m l s (sound_of_at n s h).1 (refusals s e) (table_last s e) (sym (refusal_of n s e h) ∙ r) in
    (k.0, refusal_of m s e (sound-wider n m (omega (arith, l)) s h) ∙ k.1)
