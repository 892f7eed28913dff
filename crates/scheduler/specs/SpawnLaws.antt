-- The ways through spawn: the coroutine has a live task, no number is left, or a task is spawned.
use Rattle.std.specs.Prelude.{◌≡◌, true, false, List, ℕ, ◌≤◌, ◌<◌, None, Some}
use Rattle.std.proofs.Common.{sym, ◌∙◌}
use Rattle.std.proofs.Math.Option.{none, some}
use borrow.Author.Tests.{lt-ltb, le-ltb}
use Rattle.asyncio.specs.Limits.{task_limit}
use Rattle.asyncio.specs.declared.TaskId.{TaskId}
use Rattle.asyncio.specs.declared.Header.{Header}
use Rattle.rows.specs.Tables.{header_at}
use Rattle.queue.specs.declared.ReadyQueue.{ReadyQueue}
use Rattle.machine.specs.Store.{header}
use Rattle.machine.specs.Scheduler.{task_of_in, task_of, spawn, spawn_unless}
use Rattle.scheduler.specs.Search.{found_task}
use Rattle.scheduler.specs.SearchLaws.{task-found, no_task}
use Rattle.scheduler.specs.Spawn.{SpawnsAs, Spawns, done, not_done}
use Rattle.scheduler.specs.Search.{FoundTask}

module _ (ts os : List ℕ) (q : ReadyQueue) (c g : ℕ) {h : Header} {d : FoundTask} (e : h ≡ header_at os) (f : d ≡ found_task (task_of_in ts h.next c)) where
  pub spawn_taken : (n : TaskId) → d ≡ Some n → Spawns ts os q c g ts os q false
  unfolding spawn spawn_unless task_of header
  spawn_taken n t =
      let k : task_of_in ts (header_at os).next c ≡ some n.0 = rw e at (task-found (task_of_in ts h.next c) n (sym f ∙ t)) in
      not_done (λ ps l. rw k)

  free : d ≡ None → task_of_in ts (header_at os).next c ≡ none
  free t = rw e at (no_task (task_of_in ts h.next c) (sym f ∙ t))

  pub spawn-full : d ≡ None → task_limit ≤ h.next → Spawns ts os q c g ts os q false
  unfolding spawn spawn_unless task_of header
  spawn-full t l =
      let k : task_limit ≤ (header_at os).next = rw e at l in
      not_done (λ ps x. rw (free t, le-ltb (header_at os).next task_limit k))

  pub spawn-done : d ≡ None → h.next < task_limit → {ts' os' : List ℕ} {q' : ReadyQueue} → SpawnsAs ts os q h c g ts' os' q'
      → Spawns ts os q c g ts' os' q' true
  unfolding spawn spawn_unless task_of header
  spawn-done t l {ts'} {os'} {q'} r =
      let k : (header_at os).next < task_limit = rw e at l in
      done {ts' = ts'} {os' = os'} {q' = q'} (λ ps x. rw (free t, lt-ltb (header_at os).next task_limit k, ← e, r.spawns (sym e) ps x))
