-- `(0..n).all(..)`: a closure that answers a test of a number, called at all numbers below n, answers the test of them all.
use Rattle.std.specs.Prelude.{◌≡◌, Bool, true, ◌&&◌}
use Rattle.std.proofs.Math.Path.{refl, sym, ap, ◌∙◌}
use Rattle.std.proofs.Math.Bool.{false}
use Prim.Native.Nat.{ℕ, zero, suc, ◌+◌}
use Rattle.std.proofs.Common.{arith}
use native.Mathlib.Nat.{sub-zero}
use denote.Param.Members.{Mut}
use Rattle.std.specs.Fn.{Called}
use Rattle.std.specs.Iterator.{ChecksAll}
use Rattle.std.specs.List.{list_all, range_with_len}
use Rattle.std.proofs.iter.Yields.{nat_range_steps}
use Rattle.std.proofs.lemmas.Iterator.{YieldsList-from_range}
use Rattle.std.proofs.lemmas.Iterator.Search.{all_from_yields_List}
use Rattle.machine.specs.Tests.{◌and◌, all_below}
use Rattle.sound_words.specs.Loops.{all_first}

as_and : (x y : Bool) → x and y ≡ x && y
unfolding ◌and◌
as_and true y = refl
as_and false y = refl

-- p at the numbers from a on is q at those from 0 on
all_listed : (p q : ℕ → Bool) (n a : ℕ) → ((i : ℕ) → p (a + i) ≡ q i) → list_all p (range_with_len a n) ≡ all_below n q
unfolding all_below
all_listed p q zero a h = refl
all_listed p q (suc n) a h =
    let first : p a ≡ q 0 = ap p (omega arith) ∙ h 0 in
    let rest : list_all p (range_with_len (a + 1) n) ≡ all_below n (λ i. q (suc i)) =
    all_listed p (λ i. q (suc i)) n (a + 1) (λ i. ap p (omega arith) ∙ h (suc i)) in
    rw (first, rest) (sym (all_first q n ∙ as_and (q 0) (all_below n (λ i. q (suc i)))))

-- a closure that answers p of each number, called at all numbers below n
pub all_called : {F : Type 0} {g : Mut F (ℕ × Unit {0}) Bool} (p : ℕ → Bool) {n : ℕ} {s u : _} {f : F} {r : Bool}
    → ChecksAll nat_range_steps g s f r u
    → s ≡ record { start = 0; end = n }
    → ((x : ℕ) (b : Bool) (q : F) → Called g f (x, tt) b q → (q ≡ f) × (b ≡ p x))
    → r ≡ all_below n p
all_called p {n} {s} {u} {f} {r} ran e each = all_from_yields_List p u f r ran (YieldsList-from_range 0 n n e (sub-zero n)) each ∙ all_listed p p n 0 (λ i. ap p (omega arith))
