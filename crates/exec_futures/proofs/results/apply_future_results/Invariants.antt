use Rattle.exec_futures.specs.ResultLaws.{Applied}
use Rattle.exec_futures.proofs.results.apply_future_results.Given as goal

abbrev pub invariant-loop-i : goal.invariant-loop-i
invariant-loop-i l = Applied l.results l.initial.tasks l.initial.objects l.initial.places l.initial.queue l.i l.tasks l.objects l.places l.queue
