use Rattle.std.proofs.Common.{refl, [], arith}
use Rattle.rows.specs.TableLaws.{task_at-fits}
use Rattle.exec_deliver.specs.ClimbLaws.{some-places, some_places_long}
use Rattle.machine.specs.Events as machine
use Rattle.exec_switch.specs.CycleLaws.{front_fits, activate_yields, activate-others, activate-runs, activate-starts, start-fails, start-runs, exit_next, exit_wakes, switch_yields, switch_goes, failure_exits, start_falls, failure_falls, failure_found}
use Rattle.exec_switch.proofs.cycle.+activate_task_handle_task_failure_resume_after_task_exit_start_task_switch_or_yield.Goals as goal

-- ---- activate_task

pub activate_task-start_task-requires : goal.activate_task-start_task-requires
activate_task-start_task-requires t c = (
  omega (
    arith,
    c.decreases,
    start_falls c.args.tasks.now c.args.t.0 c.told-tasks c.requires c.state_at.ensures c.in-Unstarted.is c.args.objects.now c.args.queue.now c.told-objects,
  ),
  c.requires,
)

pub activate_task-returns-in-Unstarted : goal.activate_task-returns-in-Unstarted
unfolding machine.activate_state
activate_task-returns-in-Unstarted t c = λ ps l w.
    activate-starts c.args.tasks.now c.args.objects.now ps c.args.queue.now l c.args.t.0 c.told-tasks c.told-objects w c.requires
    c.state_at.ensures _ c.in-Unstarted.is refl c.start_task.result (c.start_task.ensures ps l w)

pub activate_task-returns-in-Woken : goal.activate_task-returns-in-Woken
unfolding machine.activate_state
activate_task-returns-in-Woken t c = λ ps l w.
    activate-runs c.args.tasks.now c.args.objects.now ps c.args.queue.now l c.args.t.0 c.told-tasks c.told-objects w c.requires
    c.state_at.ensures _ c.in-Woken.is (machine.value c.in-Woken.v) refl c.run.result (c.run.ensures ps c.args.queue.now l)

pub activate_task-returns-in-Raised : goal.activate_task-returns-in-Raised
unfolding machine.activate_state
activate_task-returns-in-Raised t c = λ ps l w.
    activate-runs c.args.tasks.now c.args.objects.now ps c.args.queue.now l c.args.t.0 c.told-tasks c.told-objects w c.requires
    c.state_at.ensures _ c.in-Raised.is (machine.raises c.in-Raised.e) refl c.run-in-Raised.result (c.run-in-Raised.ensures ps c.args.queue.now l)

pub activate_task-returns-in_default : goal.activate_task-returns-in_default
activate_task-returns-in_default t c = λ ps l w.
    activate_yields c.args.tasks.now c.args.objects.now ps c.args.queue.now l c.args.t.0 c.told-tasks c.told-objects w c.requires
    c.state_at.ensures _ refl
    (activate-others c.args.tasks.now c.args.objects.now ps c.args.queue.now l c.args.t.0 c.told-tasks c.told-objects w c.requires
    c.state_at.ensures _ refl c.in_default.not-Unstarted c.in_default.not-Woken c.in_default.not-Raised)
    c.yield_control.result (c.yield_control.ensures c.args.tasks.now ps c.args.queue.now l)

-- ---- handle_task_failure

pub handle_task_failure-deliver_awaiter_failure-woken-requires : goal.handle_task_failure-deliver_awaiter_failure-woken-requires
handle_task_failure-deliver_awaiter_failure-woken-requires t c = rw c.task_awaiter_at-awaiter.ensures (task_at-fits c.args.tasks.now c.args.t.0).awaiter_fits

pub handle_task_failure-resume_after_task_exit-requires : goal.handle_task_failure-resume_after_task_exit-requires
handle_task_failure-resume_after_task_exit-requires t c = (
  omega (
    arith,
    c.decreases,
    failure_falls c.args.tasks.now c.args.objects.now c.args.queue.now c.args.t.0 c.args.error c.told-tasks c.told-objects c.requires
        c.task_awaiter_at-awaiter.ensures c.deliver_awaiter_failure-woken.result
        (c.deliver_awaiter_failure-woken.ensures c.args.queue.now some-places [] some_places_long)
        (λ us rs k. rw c.queue_woken.ensures at (c.remove_task.ensures.0 us rs k)),
  ),
  failure_found c.args.tasks.now c.args.objects.now c.args.queue.now c.args.t.0 c.args.error c.told-tasks c.told-objects c.requires
      c.task_awaiter_at-awaiter.ensures c.deliver_awaiter_failure-woken.result
      (c.deliver_awaiter_failure-woken.ensures c.args.queue.now some-places [] some_places_long),
)

pub handle_task_failure-returns : goal.handle_task_failure-returns
handle_task_failure-returns t c = λ ps l w.
    failure_exits c.args.tasks.now c.args.objects.now ps c.args.queue.now l c.args.t.0 c.args.error c.task_awaiter_at-awaiter.ensures
    c.deliver_awaiter_failure-woken.result (c.deliver_awaiter_failure-woken.ensures c.args.queue.now ps l w)
    (λ us rs k. rw c.queue_woken.ensures at (c.remove_task.ensures.0 us rs k)) c.resume_after_task_exit.result (c.resume_after_task_exit.ensures ps _ w)

-- ---- resume_after_task_exit

pub resume_after_task_exit-returns-in_default : goal.resume_after_task_exit-returns-in_default
resume_after_task_exit-returns-in_default t c = λ ps l w.
    exit_next c.args.tasks.now c.args.objects.now ps c.args.queue.now l _ c.in_default.is c.switch_or_yield.result (c.switch_or_yield.ensures ps l w)

pub resume_after_task_exit-returns : goal.resume_after_task_exit-returns
resume_after_task_exit-returns t c = λ ps l w.
    exit_wakes c.args.tasks.now c.args.objects.now ps c.args.queue.now l _ c.in-Some.t c.in-Some.is c.remove.ensures.0 c.activate_task.result
    (c.activate_task.ensures ps l w)

-- ---- start_task

pub start_task-new_function-requires : goal.start_task-new_function-requires
start_task-new_function-requires t c = rw c.coroutine_at-coroutine.ensures (task_at-fits c.args.tasks.now c.args.t.0).coroutine_fits

pub start_task-store_object-requires : goal.start_task-store_object-requires
start_task-store_object-requires t c = rw c.coroutine_at-coroutine.ensures (task_at-fits c.args.tasks.now c.args.t.0).coroutine_fits

pub start_task-returns-in_default : goal.start_task-returns-in_default
start_task-returns-in_default t c = λ ps l w.
    start-fails c.args.tasks.now c.args.objects.now ps c.args.queue.now l c.args.t.0 c.coroutine_at-coroutine.ensures c.new_function.ensures c.in_default.is
    c.handle_task_failure.result (c.handle_task_failure.ensures ps l w)

pub start_task-returns : goal.start_task-returns
start_task-returns t c = λ ps l w.
    start-runs c.args.tasks.now c.args.objects.now ps c.args.queue.now l c.args.t.0 c.coroutine_at-coroutine.ensures c.new_function.ensures
    c.in-Some.function c.in-Some.is c.store_object.ensures c.run.result (c.run.ensures ps c.args.queue.now l)

-- ---- switch_or_yield

pub switch_or_yield-returns-then-queue-eq0 : goal.switch_or_yield-returns-then-queue-eq0
switch_or_yield-returns-then-queue-eq0 t c = λ ps l w.
    switch_yields c.args.tasks.now c.args.objects.now ps c.args.queue.now l c.if-queue-eq0.true c.yield_control.result
    (c.yield_control.ensures c.args.tasks.now ps c.args.queue.now l)

pub switch_or_yield-activate_task-requires : goal.switch_or_yield-activate_task-requires
switch_or_yield-activate_task-requires t c = (omega (arith, c.decreases), rw c.front-t.ensures (front_fits c.args.queue.now))

pub switch_or_yield-returns : goal.switch_or_yield-returns
switch_or_yield-returns t c = λ ps l w.
    switch_goes c.args.tasks.now c.args.objects.now ps c.args.queue.now l c.if-queue-eq0.false c.front-t.ensures c.pop_front.ensures
    c.activate_task.result (c.activate_task.ensures ps l w)
