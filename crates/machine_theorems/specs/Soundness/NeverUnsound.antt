-- From a fresh session refusal 2 is never given.
use Rattle.std.specs.Prelude.{◌≡◌, refl, Bool, true, false, List, [], ◌∷◌, ℕ, T}
use Rattle.std.proofs.Common.{arith}
use Rattle.asyncio.specs.RangeLaws.{pick_has}
use Rattle.machine.specs.Store.{Store, fresh}
use Rattle.machine.specs.Sound.{sound}
use Rattle.machine.specs.Machine.{Event, in_running, in_waiting, in_both, refusals, first_refusal, refusal, after}
use Rattle.machine_theorems.specs.Soundness.Sessions.{AllInRange, session-sound}

-- a number that is not 2
abbrev Other : ℕ → Type 0
Other n = n ≡ 2 → ⊥

-- no check of the list has the number 2
unfoldable OtherChecks : List (ℕ × Bool) → Type 0
OtherChecks [] = Unit {0}
OtherChecks (r ∷ rs) = Other r.0 × OtherChecks rs

first_other : (rs : List (ℕ × Bool)) → OtherChecks rs → Other (first_refusal rs)
unfolding first_refusal OtherChecks
first_other [] h = λ e. omega (arith, e)
first_other (r ∷ rs) h = pick_has Other r.1 h.0 (first_other rs h.1)

-- the table's checks from 3 on
others : (s : Store) (e : Event) → OtherChecks (refusals s e)
unfolding refusals in_running in_waiting in_both OtherChecks
others s (Event.coroutine f) = (λ e. omega (arith, e), (λ e. omega (arith, e), (λ e. omega (arith, e), tt)))
others s Event.call = (λ e. omega (arith, e), (λ e. omega (arith, e), (λ e. omega (arith, e), tt)))
others s (Event.pending c r) = (λ e. omega (arith, e), (λ e. omega (arith, e), (λ e. omega (arith, e), (λ e. omega (arith, e), (λ e. omega (arith, e), tt)))))
others s (Event.settled v) = (λ e. omega (arith, e), (λ e. omega (arith, e), (λ e. omega (arith, e), (λ e. omega (arith, e), (λ e. omega (arith, e), tt)))))
others s (Event.gather os) = (λ e. omega (arith, e), (λ e. omega (arith, e), (λ e. omega (arith, e), (λ e. omega (arith, e), tt))))
others s (Event.await o) = (λ e. omega (arith, e), (λ e. omega (arith, e), (λ e. omega (arith, e), tt)))
others s (Event.complete v) = (λ e. omega (arith, e), (λ e. omega (arith, e), (λ e. omega (arith, e), tt)))
others s (Event.fail n) = (λ e. omega (arith, e), (λ e. omega (arith, e), tt))
others s (Event.results rs) = (λ e. omega (arith, e), (λ e. omega (arith, e), (λ e. omega (arith, e), tt)))
others s Event.resume = (λ e. omega (arith, e), (λ e. omega (arith, e), tt))
others s (Event.cancel t) = (λ e. omega (arith, e), (λ e. omega (arith, e), (λ e. omega (arith, e), (λ e. omega (arith, e), tt))))
others s (Event.show o) = (λ e. omega (arith, e), tt)
others s Event.eager = tt

-- a sound store is not refused with 2
pub not_two : (s : Store) (e : Event) → (b : Bool) → b ≡ sound s → T b → Other (refusal s e)
unfolding refusal first_refusal
not_two s e true h t = rw (← h) (first_other (refusals s e) (others s e))
not_two s e false h t = elim t [ ]

-- Corollary of `session-sound`: whatever came before, from a fresh session on, no event is refused because the store is not sound.
pub never_unsound : (es : List Event) (e : Event) → AllInRange es → refusal (after fresh es) e ≡ 2 → ⊥
never_unsound es e i = not_two (after fresh es) e (sound (after fresh es)) refl (session-sound es i)
