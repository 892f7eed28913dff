-- In waiting no task is unstarted; and a ready task stands in the queue, after a cancel too.
use Rattle.std.specs.Prelude.{◌≡◌, false, List, [], ℕ, ◌≤◌, ◌<◌, length}
use Rattle.std.proofs.Math.Path.{refl, ap}
use Rattle.std.proofs.Common.{sym, subst, ◌∙◌, not-suc-le-zero, arith}
use Rattle.std.proofs.Math.Decide.{ℕ_discrete}
use Rattle.asyncio.specs.declared.TaskState.{TaskState}
use Rattle.asyncio.specs.declared.Task.{Task}
use Rattle.asyncio.specs.declared.Header.{Header}
use Rattle.asyncio.specs.declared.Moment.{Moment}
use Rattle.asyncio.specs.Limits.{task_limit}
use Rattle.asyncio.specs.States.{is_ready, is_unstarted}
use Rattle.queue.specs.declared.ReadyQueue.{ReadyQueue}
use Rattle.queue.specs.Queue.{entries, occurrences, remove}
use Rattle.queue.proofs.QueueLaws.{remove-len, remove-length}
use Rattle.machine.specs.Store.{Store, LogEntry, task, header, put_task, put_places, put_queue, add_log, restate, reached, removed, absent}
use Rattle.machine.specs.Scheduler.{make_ready, remove_from_ready_queue, remove_task}
use Rattle.machine.specs.Events.{Result, apply_future_results, wake_in_order}
use Rattle.machine_laws.specs.Views.{Sized}
use Rattle.machine_laws.specs.Facts.{Nothing}
use Rattle.machine_laws.specs.StoreLaws.{header-fits, header_put-object, task_put-other, sized-put_object, sized-put_places, sized-put_task, sized-put_queue, sized-add_log, sized-set_state}
use Rattle.machine_sessions.specs.Stall.Standing.{Stands, removed_stands}
use Rattle.machine_sessions.specs.Places.Told.{unstarted_back}
use Rattle.machine_sessions.specs.Honest.HonestWalk.{Delivers, IsSpawned, results-walk, row-task, places-task, wakes-task}
use Rattle.machine_sessions.specs.Honest.HonestLog.{gone_task, gone_header, wakes-header}

-- no task is unstarted
abbrev pub NoFresh : Store → Type 0
NoFresh s = (t : ℕ) → t < (header s).next → is_unstarted (task s t).state ≡ false

-- what a session has until it ends
pub record Idle (s : Store) : Type 0 where
  pub stood : Stands Nothing s
  pub begun : (header s).moment ≡ Moment.Waiting → NoFresh s

-- nothing ready: every task has started
pub empty-begun : (s : Store) → Stands Nothing s → entries s.queue ≡ [] → NoFresh s
unfolding occurrences
empty-begun s st e t l = by (task s t).state refl
  where
    none-there : 1 ≤ occurrences (entries s.queue) t → ⊥
    none-there o = not-suc-le-zero {n = 0} (subst (λ (q : List ℕ). 1 ≤ occurrences q t) e o)

    by : (x : TaskState) → (task s t).state ≡ x → is_unstarted x ≡ false
    by TaskState.Absent q = refl
    by TaskState.Unstarted q = absurd (none-there (st.stands t l (ap is_ready q) (λ z. z)))
    by TaskState.Running q = refl
    by (TaskState.Woken v) q = refl
    by (TaskState.Raised v) q = refl
    by (TaskState.Blocked o) q = refl

-- ---- deliveries

-- the same header; in waiting, no task unstarted
pub record Begun (hd : Header) (u : Store) : Type 0 where
  pub sized : Sized u
  pub head : header u ≡ hd
  pub started : hd.moment ≡ Moment.Waiting → (t : ℕ) → t < hd.next → is_unstarted (task u t).state ≡ false

pub begun_delivers : (hd : Header) → hd.next ≤ task_limit → Delivers (Begun hd) (λ a. Unit {0})
begun_delivers hd f =
    record {
      sized = λ s k. k.sized;
      row = λ s g w y l e go k. record { sized = sized-put_object s g _ k.sized; head = header_put-object s g _ ∙ k.head; started = λ m t b. ap (λ (r : Task). is_unstarted r.state) (row-task s g _ t) ∙ k.started m t b };
      values_put = λ s ps e k. record { sized = sized-put_places s ps e k.sized; head = same_head s ps ∙ k.head; started = λ m t b. ap (λ (r : Task). is_unstarted r.state) (places-task s ps t) ∙ k.started m t b };
      wakes = λ s t y l a b r n k.
          record {
            sized = sized-add_log _ (reached t.0) (sized-ready s t.0 y k.sized);
            head = wakes-header s t.0 y ∙ k.head;
            started = λ m v b. ap (λ (x : Task). is_unstarted x.state) (wakes-task s t.0 y v) ∙ wakes-by s t.0 y l n k.sized v (k.started m v b) (ℕ_discrete v t.0);
          };
      onward = λ s g x w e a k. tt;
    }
  where
    same_head : (s : Store) (ps : List ℕ) → header (put_places s ps) ≡ header s
    same_head s ps = unfold header put_places in refl

    sized-ready : (s : Store) (t : ℕ) (y : TaskState) → Sized s → Sized (make_ready s t y)
    sized-ready s t y z = unfold make_ready Rattle.machine.specs.Scheduler.push_ready in (sized-put_queue _ _ (sized-set_state s t y z))

    wakes-by : (s : Store) (t : ℕ) (y : TaskState) → t < task_limit → is_unstarted y ≡ false → Sized s → (v : ℕ) → is_unstarted (task s v).state ≡ false → Dec (v ≡ t) → is_unstarted (task (put_task s t (restate (task s t) y)) v).state ≡ false
    wakes-by s t y l n z v e (yes q) = subst (λ (m : ℕ). is_unstarted (task (put_task s t (restate (task s t) y)) m).state ≡ false) (sym q) (unstarted_back s t _ z l ∙ (unfold restate in n))
    wakes-by s t y l n z v e (no ne) = ap (λ (x : Task). is_unstarted x.state) (task_put-other s t v _ ne) ∙ e

ordered-begun : {hd : Header} (s u : Store) → Begun hd u → Begun hd (wake_in_order s u)
unfolding wake_in_order
ordered-begun s u k = record { sized = sized-put_queue u _ k.sized; head = unfold header put_queue in (unfold header in k.head); started = unfold task put_queue in (unfold task in k.started) }

pub results-begun : (s : Store) (rs : List Result) → Sized s → ((header s).moment ≡ Moment.Waiting → NoFresh s) → Begun (header s) (wake_in_order s (apply_future_results s rs))
results-begun s rs z k = ordered-begun s _ (results-walk (Begun (header s)) (λ a. Unit {0}) (begun_delivers (header s) (header-fits s).next_fits) (λ a. tt)
    (λ u o p y l e j. record { sized = sized-put_object u o _ j.sized; head = header_put-object u o _ ∙ j.head; started = λ m t b. ap (λ (r : Task). is_unstarted r.state) (row-task u o _ t) ∙ j.started m t b })
    rs s (record { sized = z; head = refl; started = k }))

-- ---- cancel

pub record Cancels (hd : Header) (u : Store) : Type 0 where
  pub begun : Begun hd u
  pub ids : length u.queue.ids ≡ task_limit
  pub len : u.queue.len ≤ task_limit
  pub stood : Stands Nothing u

gone_queue : (s : Store) (t : ℕ) (x : LogEntry) → (add_log (remove_task s t) x).queue ≡ remove s.queue t
unfolding add_log remove_task remove_from_ready_queue put_queue put_task
gone_queue s t x = refl

gone_sized : (s : Store) (t : ℕ) (x : LogEntry) → Sized s → Sized (add_log (remove_task s t) x)
unfolding remove_task remove_from_ready_queue
gone_sized s t x z = sized-add_log _ x (sized-put_queue _ _ (sized-put_task s t absent z))

pub goes_cancels : (hd : Header) (s : Store) (t : ℕ) → IsSpawned t → Cancels hd s → Cancels hd (add_log (remove_task s t) (removed t))
goes_cancels hd s t l k =
    record {
      begun = record {
        sized = gone_sized s t (removed t) k.begun.sized;
        head = gone_header s t (removed t) ∙ k.begun.head;
        started = λ m v b. ap (λ (r : Task). is_unstarted r.state) (gone_task s t (removed t) v) ∙ by v (k.begun.started m v b) (ℕ_discrete v t);
      };
      ids = ap (λ (q : ReadyQueue). length q.ids) (gone_queue s t (removed t)) ∙ (remove-length s.queue t ∙ k.ids);
      len = subst (λ (q : ReadyQueue). q.len ≤ task_limit) (sym (gone_queue s t (removed t))) (remove-len s.queue t k.len);
      stood = removed_stands s t (removed t) k.begun.sized k.ids k.len l.1 (λ q. not-suc-le-zero {n = 0} (omega (arith, l.0)))
          (record { main = k.stood.main; stands = λ v b r n. k.stood.stands v b r (λ z. z) });
    }
  where
    by : (v : ℕ) → is_unstarted (task s v).state ≡ false → Dec (v ≡ t) → is_unstarted (task (put_task s t absent) v).state ≡ false
    by v e (yes q) = subst (λ (m : ℕ). is_unstarted (task (put_task s t absent) m).state ≡ false) (sym q) (unstarted_back s t absent k.begun.sized l.1 ∙ (unfold absent in refl))
    by v e (no ne) = ap (λ (x : Task). is_unstarted x.state) (task_put-other s t v absent ne) ∙ e
