-- Document 01's cases P1 to P12, its worked example and others: one table, and one theorem over its rows. Each part was computed once.
use Rattle.std.specs.Prelude.{◌≡◌, refl, ℕ, List, [], ◌∷◌, ◌++◌, map, get_or}
use Rattle.std.proofs.Common.{sym, ap, ◌∙◌}
use Rattle.machine.specs.Cases.{Case, Seen, turn_event, turn_answer, same_store, seen, expected, cases}
use Rattle.machine.proofs.CasesHold.{no_row, rows_hold}
use Rattle.machine.proofs.CasesHold as machine
use Rattle.machine.specs.Computes.{computes}
use Rattle.machine_cases.specs.MoreCases.{more_cases}

more_rows : map seen more_cases ≡ map expected more_cases
unfolding computes more_cases seen expected same_store turn_event turn_answer
more_rows = refl

-- The table: the machine's own rows (the worked example, P2, P3), then P1, P4 to P12, and others.
unfoldable pub all_cases : List Case
all_cases = cases ++ more_cases

map_append : (f : Case → Seen) (xs ys : List Case) → map f (xs ++ ys) ≡ map f xs ++ map f ys
map_append f [] ys = refl
map_append f (x ∷ xs) ys = ap (λ (zs : List Seen). f x ∷ zs) (map_append f xs ys)

all_rows : map seen all_cases ≡ map expected all_cases
unfolding all_cases
all_rows =
    let both : map seen cases ++ map seen more_cases ≡ map expected cases ++ map expected more_cases = rw (machine.all_rows, more_rows) in
    map_append seen cases more_cases ∙ both ∙ sym (map_append expected cases more_cases)

-- Every row: what the machine answers is what the row says.
pub all_cases_hold : (k : ℕ) → seen (get_or all_cases k no_row) ≡ expected (get_or all_cases k no_row)
all_cases_hold k = rows_hold all_cases all_rows k
