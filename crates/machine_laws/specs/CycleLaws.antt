-- Fuel that is an exact count: activating a task, and cancel's walk, with no fuel in the equation.
use Rattle.std.proofs.Math.Path.{◌≡◌, refl, ap}
use Rattle.std.proofs.Common.{sym, ◌∙◌, arith, get_or-set_same, get_or-set_other}
use Rattle.std.specs.Prelude.{Bool, ◌&&◌, List, [], ◌∷◌, ℕ, zero, suc, ◌+◌, ◌<◌, length, set, replicate}
use Rattle.std.proofs.Math.Bool.{true, false, not}
use Rattle.std.proofs.Math.Option.{Option, none, some, some-injective}
use Rattle.std.proofs.Math.ListN.{get_or, length-set}
use Rattle.std.proofs.lemmas.List.{length-replicate}
use Rattle.asyncio.specs.declared.Error.{Error}
use Rattle.asyncio.specs.declared.TaskState.{TaskState}
use Rattle.asyncio.specs.declared.Task.{Task}
use Rattle.asyncio.specs.States.{is_live}
use Rattle.asyncio.specs.Limits.{task_limit, object_limit}
use Rattle.asyncio.specs.Ranges.{StateFits}
use Rattle.asyncio.specs.RangeLaws.{pick_has}
use Rattle.rows.specs.Tables.{task_at}
use Rattle.queue.specs.Queue.{pop_front, front_of}
use Rattle.machine_laws.specs.CountLaws.{count-drop, live-counted, one_less}
use Rattle.machine.specs.Tests.{count}
use Rattle.machine.specs.Store.{Store, task, put_task, object, put_queue, add_log, exited, absent}
use Rattle.machine.specs.Scheduler.{AwaitedGather, as_awaited, is_some, blocked_on, bit, live_in, live_count, remove_task, remove_from_ready_queue, cancel_one}
use Rattle.machine.specs.Scheduler.{Walk, reach_if, reach, remove_blocked, visit_by, visit, visit_place, visit_open, walk_gather, walk_next, walk, walk_from, cancel_task}
use Rattle.machine.specs.Delivery.{Delivery, deliver_awaiter_failure}
use Rattle.machine.specs.Events.{Switched, resume_next, resume_after_task_exit, handle_task_failure, start_by, start_task, activate_state, activate_within, activate}
use Rattle.machine_laws.specs.Views.{Sized}
use Rattle.machine_laws.specs.Statements.{SameLive, unmarked, walk_rest}
use Rattle.machine_laws.specs.StoreLaws.{live-put_task, task_put-other, task-fits, place-fits}
use Rattle.machine_laws.specs.DeliveryLaws.{absurd_some, failure_same, same-live_count}

-- ---- activating a task

live_in-falls : (ts us : List ℕ) (t : ℕ) → t < task_limit → is_live (task_at ts t).state ≡ true → is_live (task_at us t).state ≡ false
    → ((u : ℕ) → (u ≡ t → ⊥) → is_live (task_at us u).state ≡ is_live (task_at ts u).state) → live_in ts ≡ suc (live_in us)
live_in-falls ts us t l e q h =
    one_less (live_in ts) (count (λ u. is_live (task_at ts u).state) task_limit) (count (λ u. is_live (task_at us u).state) task_limit) (live_in us) (live-counted ts)
    (count-drop (λ u. is_live (task_at ts u).state) (λ u. is_live (task_at us u).state) task_limit t l e q h) (live-counted us)

-- a live task that goes: one live task less
pub live-falls : (s : Store) (t : ℕ) → Sized s → t < task_limit → is_live (task s t).state ≡ true → live_count s ≡ suc (live_count (put_task s t absent))
unfolding live_count task absent
live-falls s t z l e =
    live_in-falls s.tasks (put_task s t absent).tasks t l e (live-put_task s t absent z l)
    (λ u ne. ap (λ (r : Task). is_live r.state) (task_put-other s t u absent ne))

-- a live task is removed from a store with the same live tasks: one less
removed-falls : (s u : Store) (t : ℕ) → t < task_limit → is_live (task s t).state ≡ true → SameLive s u → live_count s ≡ suc (live_count (add_log (remove_task u t) (exited t)))
removed-falls s u t l e m =
    let fall : live_count u ≡ suc (live_count (put_task u t absent)) = live-falls u t m.sized l (m.lives t ∙ e) in
    let left : live_count (add_log (remove_task u t) (exited t)) ≡ live_count (put_task u t absent) =
    unfold live_count add_log remove_task remove_from_ready_queue put_queue in refl in
    omega (arith, same-live_count s u m)

-- a live task that fails: one live task less
pub failure_falls : (s : Store) (t : ℕ) (x : Error) → Sized s → t < task_limit → is_live (task s t).state ≡ true
    → live_count s ≡ suc (live_count (add_log (remove_task (deliver_awaiter_failure s (task s t).awaiter x).store t) (exited t)))
failure_falls s t x z l e =
    let a = (task s t).awaiter in removed-falls s (deliver_awaiter_failure s a x).store t l e (failure_same s a x z (task-fits s t).awaiter_fits)

-- two calls that close the cycle, and agree where k tasks live
module _ (k : ℕ) (go come : Store → ℕ → Switched) (h : (s : Store) (t : ℕ) → live_count s ≡ k → go s t ≡ come s t) where
  same_next : (s : Store) → live_count s ≡ k → resume_next go s ≡ resume_next come s
  unfolding resume_next live_count put_queue
  same_next s e = rw (h (put_queue s (pop_front s.queue)) (front_of s.queue).0 e)

  same-exit : (d : Delivery) → live_count d.store ≡ k → resume_after_task_exit go d ≡ resume_after_task_exit come d
  unfolding resume_after_task_exit remove_from_ready_queue live_count put_queue
  same-exit d e = by d.woken
    where
      by : (w : Option ℕ) → ◌≡◌ {A = Switched} (elim w [ none ↦ resume_next go d.store | some t ↦ go (remove_from_ready_queue d.store t) t ])
          (elim w [ none ↦ resume_next come d.store | some t ↦ come (remove_from_ready_queue d.store t) t ])
      by none = same_next d.store e
      by (some t) = h _ t e

  module _ (s : Store) (t : ℕ) (z : Sized s) (l : t < task_limit) (e : is_live (task s t).state ≡ true) (q : live_count s ≡ suc k) where
    same-failure : (x : Error) → handle_task_failure go s t x ≡ handle_task_failure come s t x
    unfolding handle_task_failure
    same-failure x = same-exit _ (omega (arith, failure_falls s t x z l e))

    same_start : (c : ℕ) (f : Option ℕ) → start_by go s t c f ≡ start_by come s t c f
    unfolding start_by
    same_start c none = same-failure Error.CoroutineReuse
    same_start c (some f) = refl

    same-state : (x : TaskState) → activate_state go s t x ≡ activate_state come s t x
    unfolding activate_state start_task
    same-state TaskState.Absent = refl
    same-state TaskState.Unstarted = same_start _ _
    same-state TaskState.Running = refl
    same-state (TaskState.Woken v) = refl
    same-state (TaskState.Raised x) = refl
    same-state (TaskState.Blocked o) = refl

-- A live task is activated by its state; a failed start goes on with activating another, where one live task less is left.
pub activate_once : (s : Store) (t : ℕ) → Sized s → t < task_limit → is_live (task s t).state ≡ true
    → activate s t ≡ activate_state activate s t (task s t).state
unfolding activate activate_within
activate_once s t z l e =
    let k : ℕ = live_count (put_task s t absent) in
    let q : live_count s ≡ suc k = live-falls s t z l e in
    rw q (same-state k (λ x u. activate_within k x u) activate (λ x u m. by x u k m) s t z l e q (task s t).state)
  where
    by : (x : Store) (u n : ℕ) → live_count x ≡ n → activate_within n x u ≡ activate x u
    by x u n m = unfold activate in ap (λ (j : ℕ). activate_within j x u) (sym m)

-- ---- cancel's walk

-- the marks have their places, and what was marked since w stands on the stack
pub record CountsKept (w x : Walk) : Type 0 where
  pub marked : length x.marks ≡ object_limit
  pub pays : unmarked x.marks + length x.stack ≡ unmarked w.marks + length w.stack

counts_kept_then : {w x y : Walk} → CountsKept w x → CountsKept x y → CountsKept w y
counts_kept_then k l = record { marked = l.marked; pays = l.pays ∙ k.pays }

pub mark-falls : (ms : List Bool) (g : ℕ) → length ms ≡ object_limit → g < object_limit → get_or ms g false ≡ false → unmarked ms ≡ suc (unmarked (set ms g true))
unfolding unmarked
mark-falls ms g m l e =
    count-drop (λ o. not (get_or ms o false)) (λ o. not (get_or (set ms g true) o false)) object_limit g l (rw e)
    (rw (get_or-set_same ms g true false (omega arith))) (λ i ne. rw (get_or-set_other ms g i true false ne))

module _ (w : Walk) (m : length w.marks ≡ object_limit) where
  pub reach_counts_kept : (g : ℕ) → g < object_limit → CountsKept w (reach w g)
  unfolding reach reach_if
  reach_counts_kept g l = by (is_some (as_awaited (object w.store g))) (get_or w.marks g false) refl
    where
      by : (a b : Bool) → get_or w.marks g false ≡ b → CountsKept w (reach_if w g (a && not b))
      by true true e = record { marked = m; pays = refl }
      by true false e = record { marked = length-set w.marks g true ∙ m; pays = omega (arith, mark-falls w.marks g m l e) }
      by false b e = record { marked = m; pays = refl }

pub blocked-fits : (x : TaskState) → StateFits x → (o : ℕ) → blocked_on x ≡ some o → o < object_limit
unfolding blocked_on
blocked-fits TaskState.Absent f o e = absurd_some e
blocked-fits TaskState.Unstarted f o e = absurd_some e
blocked-fits TaskState.Running f o e = absurd_some e
blocked-fits (TaskState.Woken v) f o e = absurd_some e
blocked-fits (TaskState.Raised x) f o e = absurd_some e
blocked-fits (TaskState.Blocked b) f o e = rw (← some-injective b.0 o e) f

remove_counts_kept : (w : Walk) → length w.marks ≡ object_limit → (t : ℕ) (b : Option ℕ) → ((o : ℕ) → b ≡ some o → o < object_limit) → CountsKept w (remove_blocked w t b)
unfolding remove_blocked
remove_counts_kept w m t none l = record { marked = m; pays = refl }
remove_counts_kept w m t (some o) l =
    let k = reach_counts_kept (record { store = cancel_one w.store t; tasks_of = w.tasks_of; marks = w.marks; stack = w.stack }) m o (l o refl) in
    record { marked = k.marked; pays = k.pays }

-- a task that goes with what it is blocked on
pub blocked_counts_kept : (w : Walk) → length w.marks ≡ object_limit → (t : ℕ) → CountsKept w (remove_blocked w t (blocked_on (task w.store t).state))
blocked_counts_kept w m t = remove_counts_kept w m t _ (blocked-fits (task w.store t).state (task-fits w.store t).state_fits)

visit_counts_kept : (w : Walk) → length w.marks ≡ object_limit → (o : ℕ) → o < object_limit → (d : Option ℕ) → CountsKept w (visit_by w o d)
unfolding visit_by
visit_counts_kept w m o l none = reach_counts_kept w m o l
visit_counts_kept w m o l (some t) = blocked_counts_kept w m t

pub place_counts_kept : (w : Walk) → length w.marks ≡ object_limit → (p i open_places : ℕ) → CountsKept w (visit_place w p i open_places)
unfolding visit_place visit
place_counts_kept w m p i n =
    pick_has (CountsKept w) (bit n i) (visit_counts_kept w m _ (place-fits w.store p).item_fits _) (record { marked = m; pays = refl })

open_counts_kept : (k : ℕ) (w : Walk) → length w.marks ≡ object_limit → (a : AwaitedGather) (i : ℕ) → CountsKept w (visit_open w a i k)
unfolding visit_open
open_counts_kept zero w m a i = record { marked = m; pays = refl }
open_counts_kept (suc k) w m a i =
    let x = place_counts_kept w m (a.first + i) i a.open_places in
    counts_kept_then x (open_counts_kept k _ x.marked a (i + 1))

pub gather_counts_kept : (w : Walk) → length w.marks ≡ object_limit → (a : Option AwaitedGather) → CountsKept w (walk_gather w a)
unfolding walk_gather
gather_counts_kept w m none = record { marked = m; pays = refl }
gather_counts_kept w m (some a) = open_counts_kept a.count w m a 0

walk_none : (k : ℕ) (w : Walk) → w.stack ≡ [] → walk k w ≡ w.store
unfolding walk walk_next
walk_none zero w e = refl
walk_none (suc k) w e = rw e

-- The gather on top of the stack is walked; then the walk goes on.
pub walk_once : (w : Walk) → length w.marks ≡ object_limit → walk_rest w ≡ walk_next walk_rest w w.stack
unfolding walk_rest walk_next walk
walk_once w m = by w.stack refl
  where
    by : (gs : List ℕ) → w.stack ≡ gs → walk (unmarked w.marks + length w.stack) w ≡ walk_next walk_rest w w.stack
    by [] e = walk_none (unmarked w.marks + length w.stack) w e ∙ rw e
    by (g ∷ gs) e =
        let x : Walk = walk_gather (record { store = w.store; tasks_of = w.tasks_of; marks = w.marks; stack = gs }) (as_awaited (object w.store g)) in
        let k = gather_counts_kept (record { store = w.store; tasks_of = w.tasks_of; marks = w.marks; stack = gs }) m (as_awaited (object w.store g)) in
        let fuel : unmarked w.marks + suc (length gs) ≡ suc (unmarked x.marks + length x.stack) = omega (arith, k.pays) in
        rw (e, fuel)

-- nothing is marked yet
pub all_unmarked : unmarked (replicate object_limit false) + 0 ≡ object_limit
unfolding unmarked
all_unmarked = refl

-- cancel's fuel, one for each object, is that count
pub cancel_walks : (s : Store) (t : ℕ)
    → cancel_task s t ≡ walk_rest (remove_blocked (walk_from s) t (blocked_on (task s t).state))
unfolding cancel_task walk_rest walk_from
cancel_walks s t = let k = blocked_counts_kept (walk_from s) (length-replicate {A = Bool} object_limit false) t in rw (k.pays ∙ all_unmarked)
