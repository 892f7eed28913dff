use Rattle.std.proofs.Common.{sym, ◌∙◌}
use Rattle.sound_rows.specs.ValueLaws.{values-pending, values_resolved, values-none}
use Rattle.sound_rows.proofs.values.object_values.Goals as goal

pub returns-in-PendingExternal : goal.returns-in-PendingExternal
returns-in-PendingExternal c = values-pending _ _ _ c.object_row-row.ensures (sym c.to_kind.ensures ∙ c.in-PendingExternal.is) c.to_option.ensures c.option_known.ensures

pub returns-in-ResolvedExternal : goal.returns-in-ResolvedExternal
returns-in-ResolvedExternal c = values_resolved _ _ _ c.object_row-row.ensures (sym c.to_kind.ensures ∙ c.in-ResolvedExternal.is) c.to_value.ensures c.value_known.ensures

pub returns-in_default : goal.returns-in_default
returns-in_default c = values-none _ _ _ c.object_row-row.ensures
    (λ e. c.in_default.not-PendingExternal (c.to_kind.ensures ∙ e)) (λ e. c.in_default.not-ResolvedExternal (c.to_kind.ensures ∙ e))
