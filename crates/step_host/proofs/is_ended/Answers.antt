use Rattle.std.specs.Prelude.{◌≡◌, refl, false}
use Rattle.std.proofs.Common.{ap, ◌∙◌}
use Rattle.asyncio.specs.declared.Moment.{Moment}
use Rattle.asyncio.specs.declared.Header.{Header}
use Rattle.machine.specs.Sound.{is_ended}
use Rattle.step_host.proofs.is_ended.Goals as goal

pub returns-in-Ended : goal.returns-in-Ended
unfolding is_ended
returns-in-Ended c = rw (← c.load_header.ensures, c.in-Ended.is)

not_ended : (m : Moment) → (m ≡ Moment.Ended → ⊥) → false ≡ is_ended m
unfolding is_ended
not_ended (Moment.Running t) n = refl
not_ended Moment.Waiting n = refl
not_ended Moment.Ended n = absurd (n refl)

pub returns-in_default : goal.returns-in_default
returns-in_default c = not_ended _ (λ e. c.in_default.not-Ended (ap (λ (h : Header). h.moment) c.load_header.ensures ∙ e))
