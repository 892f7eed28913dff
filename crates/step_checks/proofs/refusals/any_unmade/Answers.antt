use Rattle.std.specs.Prelude.{◌≡◌, refl, Bool, List, [], ◌∷◌}
use Rattle.std.specs.List.{list_any}
use Rattle.std.proofs.Common.{ap, ◌∙◌, leb, ◌||◌, rules, tests}
use Rattle.std.proofs.lemmas.Iterator.{YieldsList-from_slice}
use Rattle.std.proofs.lemmas.Iterator.Search.{any_from_yields_List}
use Rattle.machine.specs.Machine.{any_of}
use Rattle.step_checks.proofs.refusals.any_unmade.Goals as goal

any_of-is : {X : Type 0} (test : X → Bool) (xs : List X) → list_any test xs ≡ any_of test xs
unfolding any_of
any_of-is test [] = refl
any_of-is test (x ∷ xs) = ap (λ b. test x || b) (any_of-is test xs)

pub returns : goal.returns
returns c =
    let made = leb c.args.made in
    any_from_yields_List made _ _ _ c.any.ensures.ran (YieldsList-from_slice c.args.items.now cc) (λ x b q k. search (rules, tests)) ∙ any_of-is made c.args.items.now
