use Rattle.std.proofs.Common.{arith}
use Rattle.std.proofs.Common.{◌∙◌}
use Rattle.sound_words.specs.PartLaws.{row-unmade, row-coroutine, row-pending, row_resolved, row-failed, row-resting, row-awaited, row-broken, row_unknown}
use Rattle.sound_words.proofs.groups.is_object.Goals as goal

pub returns-in-0 : goal.returns-in-0
returns-in-0 c = c.is_unmade.ensures ∙ row-unmade _ (omega arith) c.in-0.is

pub returns-in-4 : goal.returns-in-4
returns-in-4 c = c.is_pending.ensures ∙ row-pending _ (omega arith) c.in-4.is

pub returns-in-5 : goal.returns-in-5
returns-in-5 c = c.is_resolved.ensures ∙ row_resolved _ (omega arith) c.in-5.is

pub returns-in-6 : goal.returns-in-6
returns-in-6 c = c.is_failed.ensures ∙ row-failed _ (omega arith) c.in-6.is

pub returns-in-7 : goal.returns-in-7
returns-in-7 c = c.is_resting.ensures ∙ row-resting _ (omega arith) c.in-7.is

pub returns-in-8 : goal.returns-in-8
returns-in-8 c = c.is_awaited.ensures ∙ row-awaited _ (omega arith) c.in-8.is

pub returns-in-10 : goal.returns-in-10
returns-in-10 c = c.is_broken.ensures ∙ row-broken _ (omega arith) c.in-10.is

pub returns-in-1-to-3 : goal.returns-in-1-to-3
returns-in-1-to-3 c = c.is_coroutine.ensures ∙ row-coroutine _ (omega arith) (omega arith) (omega arith)

pub returns-in_default : goal.returns-in_default
returns-in_default c = row_unknown c.args.w (omega arith) (grind arith)
