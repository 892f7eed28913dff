-- How many entries the ready queue loses when a task is cancelled: of every store, a damaged one too, the queue is not longer afterwards, and at most 513 shorter.
use Rattle.std.specs.Prelude.{◌≡◌, refl, Bool, true, false, ℕ, ◌+◌, ◌-◌, ◌≤◌, ◌<◌, ltb}
use Rattle.std.proofs.Common.{arith, lt-ltb, ltb-true, ltb-false}
use Rattle.asyncio.specs.Limits.{task_limit}
use Rattle.queue.specs.declared.ReadyQueue.{ReadyQueue}
use Rattle.queue.specs.Queue.{remove, stood_at, position_from, removed_count}
use Rattle.queue.proofs.RemovalLaws.{removed-length}
use Rattle.machine.specs.Store.{Store, put_task, put_queue, add_log, removed}
use Rattle.machine.specs.Scheduler.{remove_from_ready_queue, remove_task, cancel_task}
use Rattle.machine_laws.specs.Walk.{walked-kept}

-- a queue whose length is n or less, and still n where n is more than an array holds
record Shorter (n : ℕ) (s : Store) : Type 0 where
  most : s.queue.len ≤ n
  stays : task_limit < n → s.queue.len ≡ n

-- what is no queue loses nothing
none-removed : (q : ReadyQueue) (t : ℕ) → task_limit < q.len → removed_count (stood_at q t) ≡ 0
unfolding stood_at position_from removed_count
none-removed q t h = rw (lt-ltb task_limit q.len h)

-- one task goes
one-goes : (n : ℕ) (s : Store) (t : ℕ) → Shorter n s → Shorter n (add_log (remove_task s t) (removed t))
unfolding remove_task remove_from_ready_queue put_task put_queue add_log
one-goes n s t k =
    let q : ReadyQueue = s.queue in
    let falls : q.len ≡ (remove q t).len + removed_count (stood_at q t) = removed-length q t in
    record {
      most = omega (arith, falls, k.most);
      stays = λ h. (let same : q.len ≡ n = k.stays h in let none : removed_count (stood_at q t) ≡ 0 = none-removed q t (omega (arith, same, h)) in omega (arith, falls, none, same));
    }

-- a task is cancelled
cancel-falls : (s : Store) (t : ℕ) → Shorter s.queue.len (cancel_task s t)
cancel-falls s t =
    let n : ℕ = s.queue.len in
    walked-kept (Shorter n) (record { goes = λ u v l m k. one-goes n u v k }) s t (one-goes n s t (record { most = omega arith; stays = λ h. refl }))

-- no entry comes
pub cancel_shortens : (s : Store) (t : ℕ) → (cancel_task s t).queue.len ≤ s.queue.len
cancel_shortens s t = (cancel-falls s t).most

-- at most as many go as an array holds
pub cancel_loses_few : (s : Store) (t : ℕ) → s.queue.len - (cancel_task s t).queue.len ≤ task_limit
cancel_loses_few s t = by (ltb task_limit s.queue.len) refl
  where
    by : (b : Bool) → ltb task_limit s.queue.len ≡ b → s.queue.len - (cancel_task s t).queue.len ≤ task_limit
    by true e = omega (arith, (cancel-falls s t).stays (ltb-true task_limit s.queue.len e))
    by false e = omega (arith, ltb-false task_limit s.queue.len e)
