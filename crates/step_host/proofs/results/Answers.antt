use Rattle.step_checks.specs.StepLaws.{results-ended, results_unknown, results-many, results_bad, results-done}
use Rattle.step_host.proofs.results.Goals as goal
use Rattle.step_host.proofs.results.Goals.{then-results-gt-RESULTS-via-then-results-gt-RESULTS, then-results-gt-RESULTS-via-else-results-gt-RESULTS+then-any_bad}

pub returns-then-is_ended : goal.returns-then-is_ended
returns-then-is_ended c = λ l. results-ended c.args.tasks.now c.args.objects.now c.args.places.now c.args.queue.now l c.args.results.now c.is_ended.ensures c.if-is_ended.true

pub returns-then-any_unknown : goal.returns-then-any_unknown
returns-then-any_unknown c = λ l. results_unknown c.args.tasks.now c.args.objects.now c.args.places.now c.args.queue.now l c.args.results.now c.is_ended.ensures c.if-is_ended.false (c.any_unknown.ensures c.args.tasks.now c.args.places.now c.args.queue.now l) c.if-any_unknown.true

pub returns-then-results-gt-RESULTS : goal.returns-then-results-gt-RESULTS
returns-then-results-gt-RESULTS c = λ l. elim c.then-results-gt-RESULTS.branch [
  | then-results-gt-RESULTS-via-then-results-gt-RESULTS w ↦ results-many c.args.tasks.now c.args.objects.now c.args.places.now c.args.queue.now l c.args.results.now c.is_ended.ensures c.if-is_ended.false (c.any_unknown.ensures c.args.tasks.now c.args.places.now c.args.queue.now l) c.if-any_unknown.false w.if-results-gt-RESULTS.true
  | then-results-gt-RESULTS-via-else-results-gt-RESULTS+then-any_bad w ↦ results_bad c.args.tasks.now c.args.objects.now c.args.places.now c.args.queue.now l c.args.results.now c.is_ended.ensures c.if-is_ended.false (c.any_unknown.ensures c.args.tasks.now c.args.places.now c.args.queue.now l) c.if-any_unknown.false w.if-results-gt-RESULTS.false w.any_bad.ensures w.if-any_bad.true
]

pub returns : goal.returns
returns c = λ l. results-done c.args.tasks.now c.args.objects.now c.args.places.now c.args.queue.now l c.args.results.now c.is_ended.ensures c.if-is_ended.false (c.any_unknown.ensures c.args.tasks.now c.args.places.now c.args.queue.now l) c.if-any_unknown.false c.if-results-gt-RESULTS.false c.any_bad.ensures c.if-any_bad.false (c.apply_future_results.ensures l)
