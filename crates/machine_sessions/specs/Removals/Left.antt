-- What stands in the ready queue while tasks are removed one by one: those that are still live, in their former order.
use Rattle.std.specs.Prelude.{◌≡◌, true, false, ℕ, ◌+◌, ◌*◌, ◌≤◌, ◌<◌, get_or}
use Rattle.std.proofs.Math.Path.{refl, sym, ap, subst}
use Rattle.std.proofs.Common.{◌∙◌, true≢false, arith}
use mathlib.Core.List.{List}
use Rattle.std.proofs.Math.Decide.{dec_lt}
use Rattle.std.proofs.Math.ListN.{length, get_or-eq_default}
use Rattle.asyncio.specs.declared.Task.{Task}
use Rattle.asyncio.specs.Limits.{task_limit}
use Rattle.asyncio.specs.States.{is_live, is_ready}
use Rattle.rows.specs.Tables.{task_at}
use Rattle.queue.specs.Queue.{entries, retain, Distinct, remove, stood_at}
use Rattle.queue.proofs.QueueLaws.{remove-len, remove-length}
use Rattle.queue.proofs.RemovalLaws.{removal, removal_retains}
use Rattle.machine.specs.Store.{Store, view, task, header, put_task, put_queue, add_log, absent, removed}
use Rattle.machine.specs.Scheduler.{remove_from_ready_queue, remove_task, cancel_one}
use Rattle.machine_laws.specs.Views.{Sized}
use Rattle.machine_laws.specs.TestLaws.{is_true}
use Rattle.machine_laws.specs.StoreLaws.{live-put_task, task_put-other, sized-put_task, sized-put_queue, sized-add_log}
use Rattle.machine_theorems.specs.Soundness.RowFacts.{ready-live}
use Rattle.machine_theorems.specs.Soundness.ReadyTasks.{Queued, to_queued}
use Rattle.machine_theorems.specs.Soundness.Stores.{SoundStore}
use Rattle.machine_sessions.specs.Removals.Keep.{keep, keep_all, keep_less, keep_distinct}

-- of the queue of s there stand in that of u those that are live, in their order, and nobody else
pub record QueueLeft (s u : Store) : Type 0 where
  pub sized : Sized u
  pub ids : length u.queue.ids ≡ task_limit
  pub len : u.queue.len ≤ task_limit
  pub order : entries u.queue ≡ keep (λ t. is_live (task u t).state) (entries s.queue)

-- behind the table there is no live task
pub live_in_table : (s : Store) (t : ℕ) → Sized s → is_live (task s t).state ≡ true → t < task_limit
unfolding task task_at
live_in_table s t z e = by (dec_lt t task_limit)
  where
    by : Dec (t < task_limit) → t < task_limit
    by (yes l) = l
    by (no nl) =
        let word : get_or s.tasks (t * 8 + 0) 0 ≡ 0 = get_or-eq_default s.tasks 0 (omega (arith, z.tasks_sized, nl)) in
        absurd (true≢false (sym e ∙ (rw word)))

-- ---- one task is removed

module _ (u : Store) (t : ℕ) where
  removed-rows : (v : ℕ) → task (cancel_one u t) v ≡ task (put_task u t absent) v
  removed-rows v = unfold cancel_one add_log remove_task remove_from_ready_queue put_queue task in refl

  -- the others are as they were
  pub removed-other : (v : ℕ) → (v ≡ t → ⊥) → task (cancel_one u t) v ≡ task u v
  removed-other v ne = removed-rows v ∙ task_put-other u t v absent ne

  -- it lives no more
  pub removed_dead : Sized u → is_live (task u t).state ≡ true → is_live (task (cancel_one u t) t).state ≡ false
  removed_dead z lv = ap (λ (r : Task). is_live r.state) (removed-rows t) ∙ (live-put_task u t absent z (live_in_table u t z lv) ∙ (unfold absent in refl))

-- what stands in the queue of a sound store
pub sound_queue : (s : Store) → SoundStore s → Queued (header s).next (task s) (entries s.queue)
unfolding view
sound_queue s w = to_queued (header s).next (task s) (entries s.queue) w.facts.but.entries

module _ (s : Store) (w : SoundStore s) where
  pub same_left : QueueLeft s s
  same_left =
      let q = sound_queue s w in
      record {
        sized = w.memory.sized;
        ids = w.memory.ids;
        len = w.memory.words_right.queue_short;
        order = sym (keep_all _ (entries s.queue) (λ v o. ready-live (task s v).state (is_true (is_ready (task s v).state) (q.ready v o).1)));
      }

  pub one_left : (u : Store) (t : ℕ) → is_live (task u t).state ≡ true → QueueLeft s u → QueueLeft s (cancel_one u t)
  one_left u t lv k =
      record {
        sized = unfold cancel_one remove_task remove_from_ready_queue in (sized-add_log _ (removed t) (sized-put_queue _ _ (sized-put_task u t absent k.sized)));
        ids = ap (λ q. length q.ids) queue-is ∙ (remove-length u.queue t ∙ k.ids);
        len = subst (λ q. q.len ≤ task_limit) (sym queue-is) (remove-len u.queue t k.len);
        order =
            ap entries queue-is
            ∙ removal_retains t (entries u.queue) (stood_at u.queue t) _ (subst Distinct (sym k.order) (keep_distinct _ (entries s.queue) (sound_queue s w).distinct))
            (removal u.queue t k.ids k.len)
            ∙ ap (λ (l : List ℕ). retain l t) k.order
            ∙ sym (keep_less (λ v. is_live (task u v).state) (λ v. is_live (task (cancel_one u t) v).state) t (entries s.queue) (removed_dead u t k.sized lv)
            (λ v ne. ap (λ (r : Task). is_live r.state) (removed-other u t v ne)));
      }
    where
      queue-is : (cancel_one u t).queue ≡ remove u.queue t
      queue-is = unfold cancel_one add_log remove_task remove_from_ready_queue put_queue put_task in refl
