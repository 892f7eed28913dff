use mathlib.Core.Path.{sym, ◌∙◌}
use borrow.Author.Tests.{ne_eqb}
use Rattle.sound_rows.specs.NumberLaws.{count_fits, external_ranged, other_ranged, gather-apart, gather_ranged}
use Rattle.sound_rows.proofs.numbers.object_in_range.Goals as goal

pub returns-then-is_external : goal.returns-then-is_external
returns-then-is_external c = external_ranged _ _ _ _ c.kind_at-kind.ensures (sym c.is_external.ensures ∙ c.if-is_external.true) c.call_at.ensures c.word.ensures

pub open_in_range-requires : goal.open_in_range-requires
open_in_range-requires c = count_fits _ _ c.count_at.ensures

pub returns-then-first_at-p : goal.returns-then-first_at-p
returns-then-first_at-p c = gather_ranged _ _ _ _ c.kind_at-kind.ensures (sym c.is_external.ensures ∙ c.if-is_external.false) (sym c.is_gather.ensures ∙ c.if-is_gather.true) c.first_at.ensures c.if-first_at-p.true c.count_at.ensures c.open_at.ensures c.open_in_range.ensures

pub returns-else-first_at-p : goal.returns-else-first_at-p
returns-else-first_at-p c = ne_eqb _ _ c.if-first_at-p.false ∙ gather-apart _ _ _ _ c.kind_at-kind.ensures (sym c.is_external.ensures ∙ c.if-is_external.false) (sym c.is_gather.ensures ∙ c.if-is_gather.true) c.first_at.ensures c.if-first_at-p.false

pub returns-else-is_gather : goal.returns-else-is_gather
returns-else-is_gather c = other_ranged _ _ _ _ c.kind_at-kind.ensures (sym c.is_external.ensures ∙ c.if-is_external.false) (sym c.is_gather.ensures ∙ c.if-is_gather.false) c.is_coroutine.ensures
