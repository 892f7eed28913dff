use mathlib.Core.Path.{◌≡◌, ◌∙◌}
use native.Mathlib.Omega.{arith}
use Rattle.exec_futures.specs.ResultLaws.{queued_in_order, applied_begin, applied_turn, applied_end}
use Rattle.exec_futures.proofs.results.apply_future_results.Goals as goal
use Rattle.exec_futures.proofs.results.apply_future_results.Goals.{in-Some, in_default}

pub loop-i-init : goal.loop-i-init
loop-i-init c = applied_begin _ _ _ _ _

pub loop-i-preserved : goal.loop-i-preserved
loop-i-preserved c =
    let l = c.loop-i in
    let r = c.apply_result in
    let e : c.match-apply_result.queue ≡ queued_in_order l.queue r.result c.args.queue.now.len = elim c.match-apply_result.branch [
      | in-Some w ↦ rw w.in-Some.is (w.queue-is ∙ w.push_in_order.ensures)
      | in_default w ↦ rw w.in_default.is w.queue-is
    ] in
    applied_turn c.args.results.now c.args.tasks.now c.args.objects.now c.args.places.now c.args.queue.now l.i l.invariant r.result c.at-result.ensures (λ q k. r.ensures q k) e

pub returns : goal.returns
returns c = applied_end c.args.results.now c.args.tasks.now c.args.objects.now c.args.places.now c.args.queue.now c.loop-i.i (omega arith) c.loop-i.invariant
