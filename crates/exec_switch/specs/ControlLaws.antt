-- A switch to a task or to the host, in the shape of what the code knows there.
use Rattle.std.specs.Prelude.{◌≡◌, refl, List, ℕ, length, replicate}
use Rattle.asyncio.specs.Limits.{tasks_length, objects_length}
use Rattle.asyncio.specs.declared.TaskId.{TaskId}
use Rattle.asyncio.specs.declared.TaskState.{TaskState}
use Rattle.asyncio.specs.declared.Moment.{Moment}
use Rattle.rows.specs.Tables.{task_at, task_put}
use Rattle.queue.specs.declared.ReadyQueue.{ReadyQueue}
use Rattle.machine.specs.Store.{LogEntry, store_of, task, put_task, header, put_header, restate, set_state, set_moment}
use Rattle.machine.specs.Scheduler.{pending_calls_in, pending_call_ids}
use Rattle.machine.specs.Events.{run, yield}
use Rattle.machine_laws.specs.SizedLaws.{waiting_calls}
use Rattle.exec_deliver.specs.ClimbLaws.{some-places, some_places_long}
use Rattle.exec_switch.specs.Control.{moment_put, how_of, switched_of}
use Rattle.exec_switch.specs.declared.control.How.{How}
use Rattle.exec_switch.specs.declared.control.Control.{Control}

pub some-tasks : List ℕ
some-tasks = replicate tasks_length 0

pub some_tasks_long : length some-tasks ≡ tasks_length
unfolding some-tasks
some_tasks_long = refl

-- another moment leaves the pending calls
waiting-same : (os : List ℕ) (q : ReadyQueue) (l : List LogEntry) → length os ≡ objects_length → pending_calls_in (moment_put os Moment.Waiting) ≡ pending_calls_in os
unfolding pending_call_ids set_moment put_header header moment_put
waiting-same os q l y =
    waiting_calls (store_of some-tasks os some-places q l) (record { tasks_sized = some_tasks_long; objects_sized = y; places_sized = some_places_long })

module _ (ts os ps : List ℕ) (q : ReadyQueue) (l : List LogEntry) where
  pub runs_now : (t : TaskId) (h : How) {ts' os' : List ℕ} → ts' ≡ task_put ts t.0 (restate (task_at ts t.0) TaskState.Running) → os' ≡ moment_put os (Moment.Running t)
      → switched_of (store_of ts' os' ps q l) (Control.Runs t h) ≡ run (store_of ts os ps q l) t.0 (how_of h)
  unfolding run set_state set_moment put_task put_header task header moment_put
  runs_now t h a b = rw (a, b)

  pub yields : length os ≡ objects_length → {os' : List ℕ} → os' ≡ moment_put os Moment.Waiting → switched_of (store_of ts os' ps q l) Control.Waits ≡ yield (store_of ts os ps q l)
  unfolding yield set_moment put_header header pending_call_ids
  yields y b = rw (b, waiting-same os q l y) (unfold moment_put in refl)
