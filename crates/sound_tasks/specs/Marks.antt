-- A table of marks in the place of an inner loop: place k is false as long as no row below i hits k.
use Rattle.std.specs.Prelude.{◌≡◌, Bool, List, ℕ, ◌+◌, ◌<◌, set, replicate}
use Rattle.std.proofs.Math.Path.{refl, sym}
use Rattle.std.proofs.Common.{ap, ◌∙◌, add-one, arith, get_or-set_same}
use Rattle.std.proofs.Math.Bool.{true, false, not}
use Rattle.std.proofs.Math.Dec.{eqb}
use Rattle.std.proofs.Math.ListN.{length, get_or, length-set}
use Rattle.std.proofs.lemmas.List.{get_or-replicate, length-replicate}
use Rattle.std.proofs.Math.Seq.{get_or-set_other}
use borrow.Author.Tests.{eqb-true, eqb-false}
use Rattle.machine.specs.Tests.{◌and◌, all_below}
use Rattle.sound_words.specs.Loops.{and-false, and_unit}

-- The table after the rows below i: the test of row i against those before it, read off at k.
pub record Marks (seen : List Bool) (size i : ℕ) (hits : ℕ → ℕ → Bool) : Type 0 where
  pub long : length seen ≡ size
  pub marked : (k : ℕ) → k < size → not (get_or seen k false) ≡ all_below i (λ j. not (hits j k))

-- no place marked
pub marks_none : (size : ℕ) (hits : ℕ → ℕ → Bool) → Marks (replicate size false) size 0 hits
unfolding all_below
marks_none size hits = record { long = length-replicate size false; marked = λ k b. ap not (get_or-replicate size k false false b) }

module _ (size : ℕ) (hits : ℕ → ℕ → Bool) (seen : List Bool) (i : ℕ) (h : Marks seen size i hits) where
  -- row i hits m and nothing else
  pub marks_turn : (m : ℕ) → m < size → ((k : ℕ) → hits i k ≡ eqb m k) → Marks (set seen m true) size (i + 1) hits
  unfolding all_below ◌and◌
  marks_turn m b e = record { long = length-set seen m true ∙ h.long; marked = λ k l. at k l (eqb m k) refl }
    where
      at : (k : ℕ) → k < size → (t : Bool) → eqb m k ≡ t → not (get_or (set seen m true) k false) ≡ all_below (i + 1) (λ j. not (hits j k))
      at k l true q =
          let same : m ≡ k = eqb-true m k q in
          let lh : length seen ≡ size = h.long in
          let here : get_or (set seen m true) k false ≡ true = rw (← same) (get_or-set_same seen m true false (omega arith)) in
          rw (add-one, e k, q, here) (sym (and-false (all_below i (λ j. not (hits j k)))))
      at k l false q =
          rw (add-one, e k, q, get_or-set_other seen m k true false (λ s. eqb-false m k q (sym s)), h.marked k l) (sym (and_unit (all_below i (λ j. not (hits j k)))))

  -- row i hits nothing
  pub marks_skip : ((k : ℕ) → hits i k ≡ false) → Marks seen size (i + 1) hits
  unfolding all_below ◌and◌
  marks_skip e =
      record { long = h.long; marked = λ k l. rw (add-one, e k) (h.marked k l ∙ sym (and_unit (all_below i (λ j. not (hits j k))))) }
