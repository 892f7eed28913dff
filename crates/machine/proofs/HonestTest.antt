-- What stands after a session (StateHonest) as a test that computes, as DemandThreeTest is for demand 3: a session that does not pass refutes it.
use Rattle.std.specs.Prelude.{ℕ, zero, suc, ◌≡◌, refl, Bool, true, false, not, ◌&&◌, ◌||◌, List, eqb}
use Rattle.std.proofs.Common.{sym, ap, ◌∙◌, eqb-true}
use Rattle.machine.specs.Store.{Store}
use Rattle.machine.specs.Machine.{Event, Answer, step}
use Rattle.machine.specs.History.{Entry, lives, stays_blocked}
use Rattle.machine.specs.Sessions.{Session}
use Rattle.machine.specs.DemandThree.{look}
use Rattle.machine.proofs.DemandThreeTest.{same_bit, bits_same, and_both}
use Rattle.machine.specs.Honest.{last_await, left_waiting, waits_at, StateHonest}

-- is it a 5?
unfoldable pub is_five : Answer → Bool
is_five (Answer.made o) = false
is_five (Answer.called n) = false
is_five (Answer.control c) = false
is_five (Answer.awaited c n) = false
is_five Answer.done = false
is_five (Answer.cancelled n) = false
is_five Answer.stalled = false
is_five (Answer.finished v) = false
is_five (Answer.finished_error e) = false
is_five (Answer.shows x) = false
is_five (Answer.is_eager b) = false
is_five (Answer.refused n) = eqb n 5

-- a live task is blocked as its last await and show say, and its cancel is no 5
unfoldable pub live_test : List Entry → Store → ℕ → Bool
live_test h s t = same_bit (stays_blocked h t) (left_waiting h t && waits_at (look s) (last_await h t)) && not (is_five (step s (Event.cancel t)).answer)

-- of the tasks below n
unfoldable pub state_test : ℕ → List Entry → Store → Bool
state_test zero h s = true
state_test (suc t) h s = (not (lives h t) || live_test h s t) && state_test t h s

not_five : (a : Answer) → (a ≡ Answer.refused 5 → ⊥) → not (is_five a) ≡ true
unfolding is_five
not_five (Answer.made o) k = refl
not_five (Answer.called n) k = refl
not_five (Answer.control c) k = refl
not_five (Answer.awaited c n) k = refl
not_five Answer.done k = refl
not_five (Answer.cancelled n) k = refl
not_five Answer.stalled k = refl
not_five (Answer.finished v) k = refl
not_five (Answer.finished_error e) k = refl
not_five (Answer.shows x) k = refl
not_five (Answer.is_eager b) k = refl
not_five (Answer.refused n) k = by (eqb n 5) refl
  where
    by : (b : Bool) → eqb n 5 ≡ b → not b ≡ true
    by true q = absurd (k (ap (λ (m : ℕ). Answer.refused m) (eqb-true n 5 q)))
    by false q = refl

if_live : (l b : Bool) → (l ≡ true → b ≡ true) → (not l || b) ≡ true
if_live true b k = k refl
if_live false b k = refl

-- The claim gives the test.
pub state_tested : (n : ℕ) (h : List Entry) (s : Store) → StateHonest h s → state_test n h s ≡ true
unfolding state_test live_test
state_tested zero h s k = refl
state_tested (suc t) h s k =
    and_both _ _ (if_live (lives h t) _ (λ l. and_both _ _ (bits_same _ _ (k.blocked_is t l)) (not_five (step s (Event.cancel t)).answer (k.alive t l))))
    (state_tested t h s k)
