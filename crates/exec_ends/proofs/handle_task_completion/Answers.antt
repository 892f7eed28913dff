use mathlib.Core.List.{[], ◌∷◌}
use Rattle.rows.specs.TableLaws.{task_at-fits}
use Rattle.machine.specs.Store.{exited}
use Rattle.exec_ends.specs.EndLaws.{completes, success_found}
use Rattle.exec_ends.proofs.handle_task_completion.Goals as goal

pub complete_coroutine-requires : goal.complete_coroutine-requires
complete_coroutine-requires c = rw c.load_task-task.ensures (task_at-fits c.args.tasks.now c.args.t.0).coroutine_fits

pub deliver_awaiter_success-woken-requires : goal.deliver_awaiter_success-woken-requires
deliver_awaiter_success-woken-requires c = rw c.load_task-task.ensures (task_at-fits c.args.tasks.now c.args.t.0).awaiter_fits

pub resume_after_task_exit-requires : goal.resume_after_task_exit-requires
resume_after_task_exit-requires c =
    success_found _ _ _ _ [] _ c.args.value c.remove_task.array_long c.complete_coroutine.array_long c.told-places
    (rw c.load_task-task.ensures (task_at-fits c.args.tasks.now c.args.t.0).awaiter_fits) c.deliver_awaiter_success-woken.result
    (c.deliver_awaiter_success-woken.ensures c.args.queue.now [])

pub returns : goal.returns
returns c = λ l.
    completes c.args.tasks.now c.args.objects.now c.args.places.now c.args.queue.now l c.args.t.0 c.args.value c.load_task-task.ensures c.complete_coroutine.ensures
    c.remove_task.ensures.0 c.deliver_awaiter_success-woken.result
    (rw (← c.queue_woken.ensures) at (c.deliver_awaiter_success-woken.ensures c.remove_task.new.queue (exited c.args.t.0 ∷ l)))
    c.resume_after_task_exit.result (c.resume_after_task_exit.ensures _ _ c.deliver_awaiter_success-woken.array_long3)
