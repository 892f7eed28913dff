use Rattle.exec_ends.specs.EndLaws.{complete_main, complete-spawned}
use Rattle.exec_ends.proofs.complete.Goals as goal

pub returns-then-is_main : goal.returns-then-is_main
returns-then-is_main c = λ l.
    complete_main c.args.tasks.now c.args.objects.now c.args.places.now c.args.queue.now l c.args.t c.is_main.ensures c.args.value c.if-is_main.true (c.cleanup.ensures c.args.places.now c.args.queue.now l)

pub returns : goal.returns
returns c = λ l.
    complete-spawned c.args.tasks.now c.args.objects.now c.args.places.now c.args.queue.now l c.args.t c.is_main.ensures c.args.value c.if-is_main.false c.handle_task_completion.result (c.handle_task_completion.ensures l)
