use Rattle.std.proofs.Common.{ap, arith}
use mathlib.Core.List.{[]}
use Rattle.machine.specs.Machine.{Step}
use Rattle.machine.specs.Answers.{Numbers}
use Rattle.records_words.proofs.OnWordsLaws.{begin_refused, begin_done}
use Rattle.records_words.proofs.begin.Goals as goal

pub returns-then-records-ne-TASKS : goal.returns-then-records-ne-TASKS
returns-then-records-ne-TASKS c = (begin_refused c.args.records c.args.words.now c.args.objects.now c.args.places.now c.args.queue c.if-records-ne-TASKS.true, omega arith, omega arith)

pub returns : goal.returns
returns c = (
  begin_done c.args.records c.args.words.now c.args.objects.now c.args.places.now c.args.queue c.begin-answered.result.answer c.if-records-ne-TASKS.false (ap (λ (x : Step × Numbers). x.0) (c.begin-answered.ensures [])) c.rows_after-rows.ensures.0,
  omega (arith, c.rows_after-rows.ensures.1, c.if-records-ne-TASKS.false),
  omega (arith, c.rows_after-rows.ensures.1),
)
