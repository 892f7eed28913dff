-- Which bytes name a kind of result: 0 to 4.
use Rattle.std.specs.Prelude.{◌≡◌, refl, Bool, true, false, ℕ, zero, suc, ◌≤◌, ◌<◌, is_some}
use Rattle.std.proofs.Common.{sym, ◌∙◌, arith, ne_eqb, true≢false}
use Rattle.exec_futures.specs.Results.{kind_of}

kind-above : (n : ℕ) → 4 < n → is_some (kind_of n) ≡ false
kind-above n l = rw (ne_eqb n 0 (λ z. omega arith), ne_eqb n 1 (λ z. omega arith), ne_eqb n 2 (λ z. omega arith), ne_eqb n 3 (λ z. omega arith), ne_eqb n 4 (λ z. omega arith)) refl

pub kind-none : (n : ℕ) → is_some (kind_of n) ≡ false → 4 < n
kind-none zero e = absurd (true≢false e)
kind-none (suc zero) e = absurd (true≢false e)
kind-none (suc (suc zero)) e = absurd (true≢false e)
kind-none (suc (suc (suc zero))) e = absurd (true≢false e)
kind-none (suc (suc (suc (suc zero)))) e = absurd (true≢false e)
kind-none (suc (suc (suc (suc (suc n))))) e = omega arith

pub kind-some : (n : ℕ) → is_some (kind_of n) ≡ true → n ≤ 4
kind-some zero e = omega arith
kind-some (suc zero) e = omega arith
kind-some (suc (suc zero)) e = omega arith
kind-some (suc (suc (suc zero))) e = omega arith
kind-some (suc (suc (suc (suc zero)))) e = omega arith
kind-some (suc (suc (suc (suc (suc n))))) e = absurd (true≢false (sym e ∙ kind-above (suc (suc (suc (suc (suc n))))) (omega arith)))
