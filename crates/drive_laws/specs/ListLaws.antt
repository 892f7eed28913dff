-- A list whose number no object has is refused, whichever number that is. The reader reads a number that 16 bits do not hold as 65,535
-- (`list_value`): to the machine this makes no difference.
use Rattle.std.specs.Prelude.{◌≡◌, refl, Bool, true, false, not, ◌||◌, List, [], ◌∷◌, ℕ, ◌≤◌, ◌<◌, min, leb, ltb}
use Rattle.std.proofs.Common.{sym, ◌∙◌, arith, le-ltb, ltb-true, ltb-false}
use Rattle.asyncio.specs.Numbers.{heap_id}
use Rattle.asyncio.specs.States.{pick}
use Rattle.asyncio.specs.declared.Value.{Value}
use Rattle.std.specs.Prelude.{Some}
use Rattle.asyncio.specs.declared.Object.{Object}
use Rattle.machine.specs.Tests.{◌and◌}
use Rattle.machine.specs.Store.{Store, object, header}
use Rattle.machine.specs.Scheduler.{is_some, pending_external}
use Rattle.machine.specs.Sound.{sound, is_ended, value_known, option_known}
use Rattle.machine.specs.Machine.{Event, is_run, in_running, full, no_number, refusals, first_refusal, refusal, step}
use Rattle.drive_reader.specs.Format.{list_value}
use Rattle.machine_laws.specs.StoreLaws.{header-fits}
use Rattle.machine_laws.specs.MachineLaws.{refused-step}

-- the list of a number
abbrev list : ℕ → Value
list n = Value.List (heap_id n)

-- a list of an object that is not made is not known
pub list_unknown : (made : ℕ) (os : ℕ → Object) (n : ℕ) → made ≤ n → value_known made os (Value.List (heap_id n)) ≡ false
unfolding value_known ◌and◌
list_unknown made os n h = rw (le-ltb n made h)

-- an event of running whose check 5 is met is refused
meets_five : (s : Store) (rest : List (ℕ × Bool)) → first_refusal ((2, not (sound s)) ∷ in_running s ((5, true) ∷ rest)) ≡ 0 → ⊥
unfolding first_refusal in_running
meets_five s rest = by (not (sound s)) (is_ended (header s).moment) (not (is_run (header s).moment))
  where
    by : (a b c : Bool) → pick {A = ℕ} a 2 (pick {A = ℕ} b 3 (pick {A = ℕ} c 4 5)) ≡ 0 → ⊥
    by true b c e = omega (arith, e)
    by false true c e = omega (arith, e)
    by false false true e = omega (arith, e)
    by false false false e = omega (arith, e)

-- two events that meet the same checks, 5 among them, are answered the same
same-refusal : (s : Store) (e e' : Event) (rest : List (ℕ × Bool))
    → refusal s e ≡ first_refusal ((2, not (sound s)) ∷ in_running s ((5, true) ∷ rest))
    → refusal s e' ≡ first_refusal ((2, not (sound s)) ∷ in_running s ((5, true) ∷ rest)) → step s e ≡ step s e'
same-refusal s e e' rest p q = refused-step s e _ p (meets_five s rest) ∙ sym (refused-step s e' _ q (meets_five s rest))

or_true : (b : Bool) → (b || true) ≡ true
or_true true = refl
or_true false = refl

module _ (s : Store) (n : ℕ) (h : (header s).made ≤ n) where
  settled-refused : refusal s (Event.settled (list n)) ≡ first_refusal ((2, not (sound s)) ∷ in_running s ((5, true) ∷ (7, full s) ∷ (8, no_number s) ∷ []))
  unfolding refusal refusals
  settled-refused = rw (list_unknown (header s).made (object s) n h)

  complete-refused : refusal s (Event.complete (list n)) ≡ first_refusal ((2, not (sound s)) ∷ in_running s ((5, true) ∷ []))
  unfolding refusal refusals
  complete-refused = rw (list_unknown (header s).made (object s) n h)

  pending-refused : (c : ℕ) → refusal s (Event.pending c (Some (list n))) ≡ first_refusal ((2, not (sound s)) ∷ in_running s ((5, true) ∷ (6, is_some (pending_external s c)) ∷ (7, full s) ∷ []))
  unfolding refusal refusals option_known
  pending-refused c = rw (list_unknown (header s).made (object s) n h, or_true (leb (header s).calls c))

-- what holds of a number as it is, and of 65,535 where 16 bits do not hold it
cut_has : (P : ℕ → Type 0) (n : ℕ) → P n → (65535 < n → P 65535) → P (min n 65535)
cut_has P n small large = by (ltb 65535 n) refl
  where
    by : (b : Bool) → ltb 65535 n ≡ b → P (min n 65535)
    by true e = let l : 65535 < n = ltb-true 65535 n e in let m : min n 65535 ≡ 65535 = omega (arith, l) in rw m (large l)
    by false e = let l : n ≤ 65535 = ltb-false 65535 n e in let m : min n 65535 ≡ n = omega (arith, l) in rw m small

-- The list that is read is answered as the list of the number that stands there: in settled, complete and pending.
module _ (s : Store) (n : ℕ) where
  pub cut-settled : step s (Event.settled (list_value n)) ≡ step s (Event.settled (Value.List (heap_id n)))
  cut-settled =
      cut_has (λ m. step s (Event.settled (list m)) ≡ step s (Event.settled (list n))) n refl
      (λ l. same-refusal s (Event.settled (list 65535)) (Event.settled (list n)) _ (settled-refused s 65535 (omega (arith, (header-fits s).made_fits))) (settled-refused s n (omega (arith, l, (header-fits s).made_fits))))

  pub cut-complete : step s (Event.complete (list_value n)) ≡ step s (Event.complete (Value.List (heap_id n)))
  cut-complete =
      cut_has (λ m. step s (Event.complete (list m)) ≡ step s (Event.complete (list n))) n refl
      (λ l. same-refusal s (Event.complete (list 65535)) (Event.complete (list n)) _ (complete-refused s 65535 (omega (arith, (header-fits s).made_fits))) (complete-refused s n (omega (arith, l, (header-fits s).made_fits))))

  pub cut-pending : (c : ℕ) → step s (Event.pending c (Some (list_value n))) ≡ step s (Event.pending c (Some (Value.List (heap_id n))))
  cut-pending c =
      cut_has (λ m. step s (Event.pending c (Some (list m))) ≡ step s (Event.pending c (Some (list n)))) n refl
      (λ l. same-refusal s (Event.pending c (Some (list 65535))) (Event.pending c (Some (list n))) _ (pending-refused s 65535 (omega (arith, (header-fits s).made_fits)) c) (pending-refused s n (omega (arith, l, (header-fits s).made_fits)) c))
