-- The session's end (document 02, No. 8): `cleanup` hands back an empty queue at once, and that is what is left where every live task is removed one by one, each
-- out of the queue too, in the order of their numbers. (The Rust cancels one after the other in no fixed order, each with the tasks below it.)
use Rattle.std.specs.Prelude.{◌≡◌, Bool, ◌&&◌, ltb}
use Rattle.std.proofs.Math.Path.{refl, sym, ap}
use Rattle.std.proofs.Common.{subst, ◌∙◌, not-suc-le-zero, arith}
use Rattle.std.proofs.Math.Bool.{true, false, not}
use mathlib.Core.List.{List, []}
use Prim.Native.Nat.{ℕ, zero, suc, ◌+◌, ◌-◌, ◌<◌}
use Rattle.std.proofs.Math.Decide.{ℕ_discrete, dec_lt}
use Rattle.std.proofs.Math.ListN.{length}
use borrow.Author.Tests.{le-ltb}
use Rattle.asyncio.specs.declared.Task.{Task}
use Rattle.asyncio.specs.declared.Moment.{Moment}
use Rattle.asyncio.specs.Limits.{task_limit}
use Rattle.asyncio.specs.States.{pick, is_live}
use Rattle.rows.specs.Tables.{task_at, header_at}
use Rattle.queue.specs.Queue.{entries, empty_queue}
use Rattle.queue.proofs.QueueLaws.{length-entries, entries-empty}
use Rattle.machine.specs.Tests.{count, is_in}
use Rattle.machine.specs.Store.{Store, task, header, put_task, put_queue, put_header, set_moment, add_log, absent, removed}
use Rattle.machine.specs.Scheduler.{live, remove_from_ready_queue, remove_task, cancel_one, remove_from, cleanup}
use Rattle.machine.specs.Machine.{entries_lost}
use Rattle.machine_laws.specs.Views.{Sized}
use Rattle.machine_laws.specs.CountLaws.{count_same}
use Rattle.machine_laws.specs.StoreLaws.{header-fits}
use Rattle.machine_theorems.specs.Soundness.Stores.{SoundStore}
use Rattle.machine_sessions.specs.Queue.Tracked.{moment_next}
use Rattle.machine_sessions.specs.Queue.Following.{stands_there}
use Rattle.machine_sessions.specs.Removals.Keep.{keep_all, keep-none, keep-count}
use Rattle.machine_sessions.specs.Removals.Left.{QueueLeft, removed-other, removed_dead, sound_queue, same_left, one_left}
use Rattle.machine_sessions.specs.Removals.Cancels.{is_queued, removed_between, queued-live}

-- ---- the claim

-- the live tasks among the k from t on are removed, each out of the queue too
unfoldable pub remove_each : Store → ℕ → ℕ → Store
remove_each s t zero = s
remove_each s t (suc k) = remove_each (pick (is_live (task s t).state) (cancel_one s t) s) (t + 1) k

-- all of them
abbrev pub removed_each : Store → Store
removed_each s = remove_each s 0 (header s).next

-- Nobody lives, and nobody stands in the queue. Removed one by one the same tasks go in the same order, and the queue has the same entries. As many entries are
-- lost as removed tasks stood in the queue.
pub record CleanupLeaves (s : Store) : Type 0 where
  pub nobody : (v : ℕ) → live (cleanup s) v ≡ false
  pub none : entries (cleanup s).queue ≡ []
  pub tasks : (removed_each s).tasks ≡ (cleanup s).tasks
  pub log : (removed_each s).log ≡ (cleanup s).log
  pub order : entries (removed_each s).queue ≡ entries (cleanup s).queue
  pub lost : entries_lost s (cleanup s) ≡ count (λ v. is_queued s v && removed_between s (cleanup s) v) task_limit

-- ---- one by one

-- the queue is of no matter to who goes
same_tasks : (k : ℕ) (s u : Store) (t : ℕ) → u.tasks ≡ s.tasks → u.log ≡ s.log → ((remove_each u t k).tasks ≡ (remove_from s t k).tasks) × ((remove_each u t k).log ≡ (remove_from s t k).log)
unfolding remove_each remove_from
same_tasks zero s u t e l = (e, l)
same_tasks (suc k) s u t e l = by (is_live (task s t).state) (unfold task in (ap (λ (ts : List ℕ). is_live (task_at ts t).state) e)) (λ x y. same_tasks k x y (t + 1))
  where
    by : (b : Bool) → is_live (task u t).state ≡ b → ((x y : Store) → y.tasks ≡ x.tasks → y.log ≡ x.log → ((remove_each y (t + 1) k).tasks ≡ (remove_from x (t + 1) k).tasks) × ((remove_each y (t + 1) k).log ≡ (remove_from x (t + 1) k).log))
        → ((remove_each (pick (is_live (task u t).state) (cancel_one u t) u) (t + 1) k).tasks ≡ (remove_from (pick b (add_log (put_task s t absent) (removed t)) s) (t + 1) k).tasks)
        × ((remove_each (pick (is_live (task u t).state) (cancel_one u t) u) (t + 1) k).log ≡ (remove_from (pick b (add_log (put_task s t absent) (removed t)) s) (t + 1) k).log)
    by true q go =
        rw q (go (add_log (put_task s t absent) (removed t)) (cancel_one u t)
        (unfold cancel_one add_log remove_task remove_from_ready_queue put_queue put_task in (rw e))
        (unfold cancel_one add_log remove_task remove_from_ready_queue put_queue put_task in (rw l)))
    by false q go = rw q (go s u e l)

-- objects and places stay
same_rest : (k : ℕ) (s : Store) (t : ℕ) → ((remove_from s t k).objects ≡ s.objects) × ((remove_from s t k).places ≡ s.places)
unfolding remove_from
same_rest zero s t = (refl, refl)
same_rest (suc k) s t = by (is_live (task s t).state) (λ x. same_rest k x (t + 1))
  where
    by : (b : Bool) → ((x : Store) → ((remove_from x (t + 1) k).objects ≡ x.objects) × ((remove_from x (t + 1) k).places ≡ x.places))
        → ((remove_from (pick b (add_log (put_task s t absent) (removed t)) s) (t + 1) k).objects ≡ s.objects) × ((remove_from (pick b (add_log (put_task s t absent) (removed t)) s) (t + 1) k).places ≡ s.places)
    by true go = let r = go (add_log (put_task s t absent) (removed t)) in (unfold add_log put_task in r.0, unfold add_log put_task in r.1)
    by false go = go s

-- nobody below n lives
abbrev DeadBelow : ℕ → Store → Type 0
DeadBelow n u = (v : ℕ) → v < n → is_live (task u v).state ≡ false

module _ (s : Store) (w : SoundStore s) where
  each_left : (k : ℕ) (u : Store) (t : ℕ) → QueueLeft s u → DeadBelow t u → QueueLeft s (remove_each u t k) × DeadBelow (t + k) (remove_each u t k)
  unfolding remove_each
  each_left zero u t q d = (q, λ v l. d v (omega arith))
  each_left (suc k) u t q d = by (is_live (task u t).state) refl (λ x a b. each_left k x (t + 1) a b)
    where
      more : (x : Store) → DeadBelow (t + 1 + k) x → DeadBelow (t + suc k) x
      more x f v l = f v (omega arith)

      gone : is_live (task u t).state ≡ true → DeadBelow (t + 1) (cancel_one u t)
      gone e v l = at (ℕ_discrete v t)
        where
          at : Dec (v ≡ t) → is_live (task (cancel_one u t) v).state ≡ false
          at (yes y) = subst (λ (m : ℕ). is_live (task (cancel_one u t) m).state ≡ false) (sym y) (removed_dead u t q.sized e)
          at (no ne) = ap (λ (r : Task). is_live r.state) (removed-other u t v ne) ∙ d v (omega arith)

      stays : is_live (task u t).state ≡ false → DeadBelow (t + 1) u
      stays e v l = at (ℕ_discrete v t)
        where
          at : Dec (v ≡ t) → is_live (task u v).state ≡ false
          at (yes y) = subst (λ (m : ℕ). is_live (task u m).state ≡ false) (sym y) e
          at (no ne) = d v (omega arith)

      by : (b : Bool) → is_live (task u t).state ≡ b → ((x : Store) → QueueLeft s x → DeadBelow (t + 1) x → QueueLeft s (remove_each x (t + 1) k) × DeadBelow (t + 1 + k) (remove_each x (t + 1) k))
          → QueueLeft s (remove_each (pick b (cancel_one u t) u) (t + 1) k) × DeadBelow (t + suc k) (remove_each (pick b (cancel_one u t) u) (t + 1) k)
      by true e go = let r = go (cancel_one u t) (one_left s w u t e q) (gone e) in (r.0, more _ r.1)
      by false e go = let r = go u q (stays e) in (r.0, more _ r.1)

  all_left : QueueLeft s (removed_each s) × DeadBelow (0 + (header s).next) (removed_each s)
  all_left = each_left (header s).next s 0 (same_left s w) (λ v l. absurd (not-suc-le-zero {n = 0} (omega (arith, l))))

  dead : DeadBelow (header s).next (removed_each s)
  dead v l = all_left.1 v (omega arith)

  -- no entry is left
  none_left : entries (removed_each s).queue ≡ []
  none_left = all_left.0.order ∙ keep-none _ (entries s.queue) (λ v o. dead v ((sound_queue s w).ready v o).0)

  same : ((removed_each s).tasks ≡ (remove_from s 0 (header s).next).tasks) × ((removed_each s).log ≡ (remove_from s 0 (header s).next).log)
  same = same_tasks (header s).next s s 0 refl refl

  tasks-are : (removed_each s).tasks ≡ (cleanup s).tasks
  tasks-are = unfold cleanup set_moment put_header put_queue in same.0

  queue-is : (cleanup s).queue ≡ empty_queue
  queue-is = unfold cleanup set_moment put_header put_queue in refl

  -- nobody lives
  next_is : (header (cleanup s)).next ≡ (header s).next
  unfolding header
  next_is = unfold cleanup in (moment_next u Moment.Ended sized tt ∙ ap (λ (os : List ℕ). (header_at os).next) rest.0)
    where
      u : Store
      u = put_queue (remove_from s 0 (header s).next) empty_queue

      rest : (u.objects ≡ s.objects) × (u.places ≡ s.places)
      rest = unfold put_queue in (same_rest (header s).next s 0)

      sized : Sized u
      sized =
          record {
            tasks_sized = unfold put_queue in (ap length (sym same.0) ∙ all_left.0.sized.tasks_sized);
            objects_sized = ap length rest.0 ∙ w.memory.sized.objects_sized;
            places_sized = ap length rest.1 ∙ w.memory.sized.places_sized;
          }

  ended : (v : ℕ) → live (cleanup s) v ≡ false
  ended v = by (dec_lt v (header s).next)
    where
      row : v < (header s).next → is_live (task (cleanup s) v).state ≡ false
      row l = unfold task in (subst (λ (ts : List ℕ). is_live (task_at ts v).state ≡ false) tasks-are (unfold task in (dead v l)))

      inside : (b : Bool) → v < (header s).next → pick b (is_live (task (cleanup s) v).state) false ≡ false
      inside true l = row l
      inside false l = refl

      by : Dec (v < (header s).next) → live (cleanup s) v ≡ false
      by (yes l) = unfold live in (inside (ltb v (header (cleanup s)).next) l)
      by (no nl) = unfold live in (rw (next_is, le-ltb v (header s).next (omega (arith, nl))))

  all-lost : entries_lost s (cleanup s) ≡ s.queue.len
  unfolding entries_lost empty_queue
  all-lost = rw queue-is (omega arith)

  counted : entries_lost s (cleanup s) ≡ count (λ v. is_queued s v && removed_between s (cleanup s) v) task_limit
  unfolding is_queued removed_between
  counted =
      all-lost
      ∙ sym (length-entries s.queue w.memory.ids w.memory.words_right.queue_short)
      ∙ ap length (sym (keep_all (λ v. true) (entries s.queue) (λ v o. refl)))
      ∙ keep-count (λ v. true) task_limit (entries s.queue) (sound_queue s w).distinct (λ v o. omega (arith, ((sound_queue s w).ready v o).0, (header-fits s).next_fits))
      ∙ count_same _ _ task_limit (λ v l. by v (is_in v (entries s.queue)) refl)
    where
      by : (v : ℕ) (b : Bool) → is_in v (entries s.queue) ≡ b → (b && true) ≡ (b && (live s v && not (live (cleanup s) v)))
      by v true e = let o = stands_there (entries s.queue) v e in rw (queued-live s w v o, ended v)
      by v false e = refl

-- Of every sound store, a lent one too.
pub cleanup-count : (s : Store) → SoundStore s → CleanupLeaves s
cleanup-count s w =
    record {
      nobody = ended s w;
      none = ap entries (queue-is s w) ∙ entries-empty;
      tasks = tasks-are s w;
      log = unfold cleanup set_moment put_header put_queue in (same s w).1;
      order = none_left s w ∙ sym (ap entries (queue-is s w) ∙ entries-empty);
      lost = counted s w;
    }
