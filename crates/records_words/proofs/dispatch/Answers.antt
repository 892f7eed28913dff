use Rattle.std.proofs.Common.{◌∙◌, ap, arith, ℕ}
use mathlib.Core.List.{[]}
use Rattle.asyncio.specs.States.{pick}
use Rattle.step_event.specs.EventOf.{event_of}
use Rattle.records_words.specs.RowsInUse.{refuses}
use Rattle.records_words.proofs.OnWordsLaws.{step-refused, step-done}
use Rattle.records_words.proofs.dispatch.Goals as goal

pub returns-then-records-ne-TASKS : goal.returns-then-records-ne-TASKS
returns-then-records-ne-TASKS c = (step-refused c.args.records c.args.words.now c.args.objects.now c.args.places.now c.args.queue c.args.calls.now (event_of c.args.items.now c.args.results.now c.args.event) c.if-records-ne-TASKS.true, omega arith, omega arith)

pub returns : goal.returns
returns c =
    let a = c.dispatch-answered.result.answer in
    let rows = c.rows_after-rows.ensures.0 ∙ ap (λ (n : ℕ). pick (refuses a) 0 n) c.next_in.ensures.0 in (
      step-done c.args.records c.args.words.now c.args.objects.now c.args.places.now c.args.queue c.args.calls.now (event_of c.args.items.now c.args.results.now c.args.event) a c.if-records-ne-TASKS.false (c.dispatch-answered.ensures []) rows,
      omega (arith, c.rows_after-rows.ensures.1, c.next_in.ensures.1, c.if-records-ne-TASKS.false),
      omega (arith, c.rows_after-rows.ensures.1, c.next_in.ensures.1),
    )
