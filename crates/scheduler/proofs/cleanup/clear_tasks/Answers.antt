use mathlib.Core.Path.{ap, ◌∙◌}
use native.Mathlib.Omega.{arith}
use Rattle.asyncio.specs.declared.TaskId.{TaskId}
use Rattle.scheduler.specs.Ends.{clear_one}
use Rattle.scheduler.specs.EndLaws.{clear_turn, clear_end, clear_begin}
use Rattle.scheduler.proofs.cleanup.clear_tasks.Goals as goal

pub loop-t-init : goal.loop-t-init
loop-t-init c = clear_begin _ _

pub clear_one-requires : goal.clear_one-requires
clear_one-requires c = omega (arith, ap (λ (u : TaskId). u.0) c.new.ensures)

pub loop-t-preserved : goal.loop-t-preserved
loop-t-preserved c = clear_turn _ c.loop-t.t c.args.next c.loop-t-test.true (c.clear_one.ensures ∙ ap (λ (u : TaskId). clear_one c.loop-t.tasks u.0) c.new.ensures) ∙ c.loop-t.invariant

pub returns : goal.returns
returns c = clear_end _ c.loop-t.t c.args.next c.loop-t-test.false ∙ c.loop-t.invariant
