use Rattle.std.proofs.Common.{◌+◌, ◌*◌}
use Rattle.rows.specs.Tables.{task_put}
use Rattle.machine.specs.Store.{absent}
use Rattle.machine.specs.Scheduler.{live_in}
use Rattle.exec_switch.proofs.cycle.+activate_task_handle_task_failure_resume_after_task_exit_start_task_switch_or_yield.Given as goal

abbrev pub decreases-activate_task : goal.decreases-activate_task
decreases-activate_task l = live_in l.tasks.now * 5 + 2

abbrev pub decreases-handle_task_failure : goal.decreases-handle_task_failure
decreases-handle_task_failure l = live_in (task_put l.tasks.now l.t.0 absent) * 5 + 5

abbrev pub decreases-resume_after_task_exit : goal.decreases-resume_after_task_exit
decreases-resume_after_task_exit l = live_in l.tasks.now * 5 + 4

abbrev pub decreases-start_task : goal.decreases-start_task
decreases-start_task l = live_in (task_put l.tasks.now l.t.0 absent) * 5 + 6

abbrev pub decreases-switch_or_yield : goal.decreases-switch_or_yield
decreases-switch_or_yield l = live_in l.tasks.now * 5 + 3
