use mathlib.Core.Path.{sym, ◌∙◌}
use Rattle.rows.specs.TableLaws.{places_fit}
use Rattle.sound.specs.SlotLaws.{holds_settled, holds_awaited}
use Rattle.sound.proofs.slots.gather_holds.Goals as goal

pub is_open-requires : goal.is_open-requires
is_open-requires c = places_fit c.args.objects.now c.args.g.0 c.first_at-first.ensures c.count_at-count.ensures

pub returns-then-is_awaited : goal.returns-then-is_awaited
returns-then-is_awaited c = holds_awaited _ _ _ _ c.kind_at-kind.ensures (sym c.is_awaited.ensures ∙ c.if-is_awaited.true) c.first_at-first.ensures c.count_at-count.ensures c.open_at-open_places.ensures c.is_open.ensures

pub returns-else-is_awaited : goal.returns-else-is_awaited
returns-else-is_awaited c = holds_settled _ _ _ _ c.kind_at-kind.ensures (sym c.is_awaited.ensures ∙ c.if-is_awaited.false) c.is_committed.ensures
