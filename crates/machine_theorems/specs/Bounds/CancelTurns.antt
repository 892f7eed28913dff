-- Cancel's walk: each turn is of an awaited gather that was not reached before, each task that goes lived; so there are at most as many
-- turns as awaited gathers, and at most as many removals as live tasks.
use Rattle.std.specs.Prelude.{◌≡◌, Bool, not, ◌&&◌, List, [], ◌∷◌, get_or, set, replicate}
use Rattle.std.proofs.Math.Path.{refl, ap}
use Rattle.std.proofs.Common.{sym, ◌∙◌, arith, get_or-set_same, get_or-set_other}
use Rattle.std.proofs.Math.Bool.{true, false, and-true}
use Rattle.std.proofs.Math.Option.{Option, none, some, some-injective}
use Prim.Native.Nat.{ℕ, zero, suc, ◌+◌, ◌-◌, ◌≤◌, ◌<◌}
use Rattle.std.proofs.Math.ListN.{length, length-set}
use Rattle.std.proofs.lemmas.List.{length-replicate}
use Rattle.asyncio.specs.declared.Object.{Object}
use Rattle.asyncio.specs.States.{pick, is_live}
use Rattle.asyncio.specs.Kinds.{kind, each_object, is_awaited}
use Rattle.asyncio.specs.Limits.{task_limit, object_limit}
use Rattle.asyncio.specs.RangeLaws.{pick_has}
use Rattle.rows.specs.Tables.{task_at, object_at}
use Rattle.machine.specs.Store.{Store, task, object, place, header, put_task, put_queue, add_log, removed, absent}
use Rattle.machine.specs.Scheduler.{AwaitedGather, as_awaited, is_some, blocked_on, bit, is_task_of, task_of_in, task_of, live_count, remove_task, remove_from_ready_queue, cancel_one}
use Rattle.machine.specs.Scheduler.{Walk, reach_if, reach, remove_blocked, still_live, visit_by, visit, visit_place, visit_open, walk_gather, walk_next, walk_from, cancel_task}
use Rattle.machine.specs.Delivery.{awaited_in, awaited_count}
use Rattle.machine_laws.specs.Views.{Sized}
use Rattle.machine_laws.specs.Statements.{walk_rest}
use Rattle.machine_laws.specs.CountLaws.{count_same, count-drop, awaited-counted}
use Rattle.machine_laws.specs.StoreLaws.{task-fits, place-fits, header-fits, sized-put_task, sized-put_queue, sized-add_log}
use Rattle.machine_laws.specs.DeliveryLaws.{absurd_some, first_below}
use Rattle.machine_laws.specs.CycleLaws.{live-falls, blocked-fits, walk_once, cancel_walks}
use Rattle.machine_theorems.specs.Bounds.Counts.{removals_in, Walks, walks_here, walks_on, unreached}

-- ---- a walk that can go on

-- the lengths, and tasks of coroutines that are task numbers
pub record WalkInvariant (w : Walk) : Type 0 where
  pub sized : Sized w.store
  pub marked : length w.marks ≡ object_limit
  pub tasks_of_fit : (o t : ℕ) → w.tasks_of o ≡ some t → t < task_limit

-- what was reached since w stands on the stack, and each task that went since w lived
pub record WalkKept (w x : Walk) : Type 0 where
  pub invariant : WalkInvariant x
  pub gathers : unreached x + length x.stack ≡ unreached w + length w.stack
  pub tasks : removals_in x.store.log + live_count x.store ≡ removals_in w.store.log + live_count w.store

walk_kept_here : (w : Walk) → WalkInvariant w → WalkKept w w
walk_kept_here w f = record { invariant = f; gathers = refl; tasks = refl }

walk-kept-then : {w x y : Walk} → WalkKept w x → WalkKept x y → WalkKept w y
walk-kept-then k l = record { invariant = l.invariant; gathers = l.gathers ∙ k.gathers; tasks = l.tasks ∙ k.tasks }

-- ---- a gather is reached

awaited-kind : (x : Object) → is_awaited (kind x) ≡ is_some (as_awaited x)
unfolding as_awaited is_some kind
awaited-kind x =
    each_object (λ (x : Object). is_awaited (kind x) ≡ is_some (as_awaited x))
    refl (λ f. refl) (λ f. refl) (λ f. refl) (λ c a x. refl) (λ c v. refl) (λ c x. refl) (λ f n. refl) (λ f n a m. refl) (λ f n. refl)
    (λ f n x. refl) x

reach-falls : (w : Walk) (g : ℕ) → length w.marks ≡ object_limit → g < object_limit → is_some (as_awaited (object w.store g)) ≡ true → get_or w.marks g false ≡ false
    → unreached w ≡ suc (unreached (reach_if w g true))
unfolding unreached reach_if object
reach-falls w g m l a e =
    let k : is_awaited (kind (object_at w.store.objects g)) ≡ true = awaited-kind (object_at w.store.objects g) ∙ a in
    count-drop (λ o. is_awaited (kind (object_at w.store.objects o)) && not (get_or w.marks o false))
    (λ o. is_awaited (kind (object_at w.store.objects o)) && not (get_or (set w.marks g true) o false)) object_limit g l
    (rw (k, e)) (rw (k, get_or-set_same w.marks g true false (omega arith))) (λ i ne. rw (get_or-set_other w.marks g i true false ne))

reach-walk-kept : (w : Walk) (g : ℕ) → WalkInvariant w → g < object_limit → WalkKept w (reach w g)
unfolding reach
reach-walk-kept w g f l = by (is_some (as_awaited (object w.store g))) (get_or w.marks g false) refl refl
  where
    by : (a b : Bool) → is_some (as_awaited (object w.store g)) ≡ a → get_or w.marks g false ≡ b → WalkKept w (reach_if w g (a && not b))
    by true true p e = unfold reach_if in walk_kept_here w f
    by true false p e = record {
      invariant = unfold reach_if in record { sized = f.sized; marked = length-set w.marks g true ∙ f.marked; tasks_of_fit = f.tasks_of_fit };
      gathers = let fall : unreached w ≡ suc (unreached (reach_if w g true)) = reach-falls w g f.marked l p e in
          let stack : length (reach_if w g true).stack ≡ suc (length w.stack) = unfold reach_if in refl in
          omega arith;
      tasks = unfold reach_if in refl;
    }
    by false b p e = unfold reach_if in walk_kept_here w f

-- ---- a task goes

abbrev without : Walk → ℕ → Walk
without w t = record { store = cancel_one w.store t; tasks_of = w.tasks_of; marks = w.marks; stack = w.stack }

sized-cancel_one : (s : Store) (t : ℕ) → Sized s → Sized (cancel_one s t)
unfolding cancel_one remove_task remove_from_ready_queue
sized-cancel_one s t z = sized-add_log _ (removed t) (sized-put_queue _ _ (sized-put_task s t absent z))

task-walk-kept : (w : Walk) (t : ℕ) → WalkInvariant w → t < task_limit → is_live (task w.store t).state ≡ true → WalkKept w (without w t)
task-walk-kept w t f l e =
    let s : Store = w.store in
    let fall : live_count s ≡ suc (live_count (put_task s t absent)) = live-falls s t f.sized l e in
    let left : live_count (cancel_one s t) ≡ live_count (put_task s t absent) = unfold live_count cancel_one add_log remove_task remove_from_ready_queue put_queue in refl in
    let more : removals_in (cancel_one s t).log ≡ suc (removals_in s.log) = unfold removals_in cancel_one add_log remove_task remove_from_ready_queue put_queue put_task in refl in
    let same : unreached (without w t) ≡ unreached w = unfold unreached cancel_one add_log remove_task remove_from_ready_queue put_queue put_task in refl in
    record {
      invariant = record { sized = sized-cancel_one s t f.sized; marked = f.marked; tasks_of_fit = f.tasks_of_fit };
      gathers = ap (λ (n : ℕ). n + length w.stack) same;
      tasks = omega arith;
    }

remove-walk-kept : (w : Walk) (t : ℕ) (b : Option ℕ) → WalkInvariant w → t < task_limit → is_live (task w.store t).state ≡ true → ((o : ℕ) → b ≡ some o → o < object_limit)
    → WalkKept w (remove_blocked w t b)
unfolding remove_blocked
remove-walk-kept w t none f l e h = task-walk-kept w t f l e
remove-walk-kept w t (some o) f l e h = let k = task-walk-kept w t f l e in walk-kept-then k (reach-walk-kept (without w t) o k.invariant (h o refl))

-- a live task that goes with what it is blocked on
pub blocked-walk-kept : (w : Walk) (t : ℕ) → WalkInvariant w → t < task_limit → is_live (task w.store t).state ≡ true → WalkKept w (remove_blocked w t (blocked_on (task w.store t).state))
blocked-walk-kept w t f l e = remove-walk-kept w t _ f l e (blocked-fits (task w.store t).state (task-fits w.store t).state_fits)

-- ---- the items of a gather

-- a task that still lives
record StillLive (s : Store) (d : Option ℕ) (t : ℕ) : Type 0 where
  same : d ≡ some t
  alive : is_live (task s t).state ≡ true

still_of : (s : Store) (d : Option ℕ) (t : ℕ) → still_live s.tasks d ≡ some t → StillLive s d t
unfolding still_live task
still_of s none t e = absurd_some e
still_of s (some u) t e = by (is_live (task_at s.tasks u).state) refl e
  where
    by : (b : Bool) → is_live (task_at s.tasks u).state ≡ b → ◌≡◌ {A = Option ℕ} (pick b (some u) none) (some t) → StillLive s (some u) t
    by true q p =
        let same : u ≡ t = some-injective u t p in
        record { same = p; alive = ap (λ (v : ℕ). is_live (task_at s.tasks v).state) (sym same) ∙ q }
    by false q p = absurd_some p

visit_by-walk-kept : (w : Walk) (o : ℕ) (d : Option ℕ) → WalkInvariant w → o < object_limit → ((t : ℕ) → d ≡ some t → (t < task_limit) × (is_live (task w.store t).state ≡ true))
    → WalkKept w (visit_by w o d)
unfolding visit_by
visit_by-walk-kept w o none f l h = reach-walk-kept w o f l
visit_by-walk-kept w o (some t) f l h = blocked-walk-kept w t f (h t refl).0 (h t refl).1

visit-walk-kept : (w : Walk) (o : ℕ) → WalkInvariant w → o < object_limit → WalkKept w (visit w o)
unfolding visit
visit-walk-kept w o f l =
    visit_by-walk-kept w o (still_live w.store.tasks (w.tasks_of o)) f l (λ t e. let k = still_of w.store (w.tasks_of o) t e in (f.tasks_of_fit o t k.same, k.alive))

place-walk-kept : (w : Walk) (p i open_places : ℕ) → WalkInvariant w → WalkKept w (visit_place w p i open_places)
unfolding visit_place
place-walk-kept w p i n f = pick_has (WalkKept w) (bit n i) (visit-walk-kept w (place w.store p).item.0 f (place-fits w.store p).item_fits) (walk_kept_here w f)

open_walk_kept : (k : ℕ) (w : Walk) (a : AwaitedGather) (i : ℕ) → WalkInvariant w → WalkKept w (visit_open w a i k)
unfolding visit_open
open_walk_kept zero w a i f = walk_kept_here w f
open_walk_kept (suc k) w a i f =
    let x = place-walk-kept w (a.first + i) i a.open_places f in
    walk-kept-then x (open_walk_kept k _ a (i + 1) x.invariant)

gather-walk-kept : (w : Walk) (a : Option AwaitedGather) → WalkInvariant w → WalkKept w (walk_gather w a)
unfolding walk_gather
gather-walk-kept w none f = walk_kept_here w f
gather-walk-kept w (some a) f = open_walk_kept a.count w a 0 f

-- ---- turns

-- n turns: as many gathers less to reach or to walk; and each task that went lived
pub record Turned (w : Walk) (n : ℕ) (x : Walk) : Type 0 where
  pub invariant : WalkInvariant x
  pub gathers : n + (unreached x + length x.stack) ≡ unreached w + length w.stack
  pub tasks : removals_in x.store.log + live_count x.store ≡ removals_in w.store.log + live_count w.store

pub walks_turned : (w : Walk) (n : ℕ) (x : Walk) → WalkInvariant w → Walks w n x → Turned w n x
walks_turned w₀ n₀ x₀ f (walks_here w) = record { invariant = f; gathers = omega arith; tasks = refl }
walks_turned w₀ n₀ x₀ f (walks_on w g gs n x e p) =
    let v : Walk = record { store = w.store; tasks_of = w.tasks_of; marks = w.marks; stack = gs } in
    let k = gather-walk-kept v (as_awaited (object w.store g)) (record { sized = f.sized; marked = f.marked; tasks_of_fit = f.tasks_of_fit }) in
    let r = walks_turned (walk_gather v (as_awaited (object w.store g))) n x k.invariant p in
    let same : unreached v ≡ unreached w = unfold unreached in refl in
    let stack : length w.stack ≡ suc (length gs) = ap length e in
    record { invariant = r.invariant; gathers = omega (arith, r.gathers, k.gathers, same, stack); tasks = r.tasks ∙ k.tasks }

-- the walk from the later turn on is the rest of the walk
walks_rest : (w : Walk) (n : ℕ) (x : Walk) → WalkInvariant w → Walks w n x → walk_rest w ≡ walk_rest x
walks_rest w₀ n₀ x₀ f (walks_here w) = refl
walks_rest w₀ n₀ x₀ f (walks_on w g gs n x e p) =
    let v : Walk = record { store = w.store; tasks_of = w.tasks_of; marks = w.marks; stack = gs } in
    let k = gather-walk-kept v (as_awaited (object w.store g)) (record { sized = f.sized; marked = f.marked; tasks_of_fit = f.tasks_of_fit }) in
    let here : walk_next walk_rest w (g ∷ gs) ≡ walk_rest (walk_gather v (as_awaited (object w.store g))) = unfold walk_next in refl in
    walk_once w f.marked ∙ ap (walk_next walk_rest w) e ∙ here ∙ walks_rest (walk_gather v (as_awaited (object w.store g))) n x k.invariant p

-- ---- from the beginning of a cancel

task_of-below : (s : Store) (o t : ℕ) → task_of s o ≡ some t → t < task_limit
unfolding task_of task_of_in
task_of-below s o t e =
    let below : t < 1 + ((header s).next - 1) = first_below (λ u. is_task_of o (task_at s.tasks u)) ((header s).next - 1) 1 t e in
    omega (arith, below, (header-fits s).next_fits)

unmarked_here : (n o : ℕ) → get_or (replicate n false) o false ≡ false
unmarked_here zero o = refl
unmarked_here (suc n) zero = refl
unmarked_here (suc n) (suc o) = unmarked_here n o

start-unreached : (s : Store) → unreached (walk_from s) ≡ awaited_count s
unfolding unreached walk_from awaited_count
start-unreached s =
    count_same (λ o. is_awaited (kind (object_at s.objects o)) && not (get_or (replicate object_limit false) o false)) (λ o. is_awaited (kind (object_at s.objects o))) object_limit
    (λ i l. rw (unmarked_here object_limit i) (and-true (is_awaited (kind (object_at s.objects i)))))
    ∙ sym (awaited-counted s.objects)

start_invariant : (s : Store) → Sized s → WalkInvariant (walk_from s)
unfolding walk_from
start_invariant s z = record { sized = z; marked = length-replicate {A = Bool} object_limit false; tasks_of_fit = task_of-below s }

-- The walk of a cancel of the live task t, as it stands when t has gone.
module _ (s : Store) (t : ℕ) (z : Sized s) (l : t < task_limit) (e : is_live (task s t).state ≡ true) where
  abbrev pub begun : Walk
  begun = remove_blocked (walk_from s) t (blocked_on (task s t).state)

  begun-walk-kept : WalkKept (walk_from s) begun
  unfolding walk_from
  begun-walk-kept = blocked-walk-kept (walk_from s) t (start_invariant s z) l e

  start-empty : length (walk_from s).stack ≡ 0
  unfolding walk_from
  start-empty = refl

  start-log : removals_in (walk_from s).store.log + live_count (walk_from s).store ≡ removals_in s.log + live_count s
  unfolding walk_from
  start-log = refl

  -- Each turn is of an awaited gather: those walked, those on the stack and those not reached are the awaited gathers.
  pub cancel-turns : (n : ℕ) (x : Walk) → Walks begun n x → n + (unreached x + length x.stack) ≡ awaited_count s
  cancel-turns n x p = omega (arith, (walks_turned begun n x begun-walk-kept.invariant p).gathers, begun-walk-kept.gathers, start-empty, start-unreached s)

  -- Each task that goes lived: as many removals more as live tasks less.
  pub cancel_removes : (n : ℕ) (x : Walk) → Walks begun n x → removals_in x.store.log + live_count x.store ≡ removals_in s.log + live_count s
  cancel_removes n x p = (walks_turned begun n x begun-walk-kept.invariant p).tasks ∙ begun-walk-kept.tasks ∙ start-log

  -- Cancel takes at most as many turns and removals as there are awaited gathers and live tasks.
  pub cancel_bound : (n : ℕ) (x : Walk) → Walks begun n x → n + removals_in x.store.log ≤ removals_in s.log + (awaited_count s + live_count s)
  cancel_bound n x p = omega (arith, cancel-turns n x p, cancel_removes n x p)

  -- Where the stack is empty the walk has ended, with the store that cancel leaves.
  pub cancel-ends : (n : ℕ) (x : Walk) → Walks begun n x → x.stack ≡ [] → cancel_task s t ≡ x.store
  cancel-ends n x p q =
      let k = walks_turned begun n x begun-walk-kept.invariant p in
      let over : walk_next walk_rest x [] ≡ x.store = unfold walk_next in refl in
      cancel_walks s t ∙ walks_rest begun n x begun-walk-kept.invariant p ∙ walk_once x k.invariant.marked ∙ ap (walk_next walk_rest x) q ∙ over

-- ---- it ends

-- a walk that comes to an empty stack, after some turns
pub record Ends (w : Walk) : Type 0 where
  pub turns : ℕ
  pub last : Walk
  pub walks : Walks w turns last
  pub empty : last.stack ≡ []

walk_ends : (k : ℕ) (w : Walk) → WalkInvariant w → unreached w + length w.stack ≤ k → Ends w
walk_ends zero w f p = by w.stack refl
  where
    by : (gs : List ℕ) → w.stack ≡ gs → Ends w
    by [] e = record { turns = 0; last = w; walks = walks_here w; empty = e }
    by (g ∷ gs) e = let stack : length w.stack ≡ suc (length gs) = ap length e in absurd (omega arith)
walk_ends (suc k) w f p = by w.stack refl (λ x g q. walk_ends k x g q)
  where
    by : (gs : List ℕ) → w.stack ≡ gs → ((x : Walk) → WalkInvariant x → unreached x + length x.stack ≤ k → Ends x) → Ends w
    by [] e h = record { turns = 0; last = w; walks = walks_here w; empty = e }
    by (g ∷ gs) e h =
        let v : Walk = record { store = w.store; tasks_of = w.tasks_of; marks = w.marks; stack = gs } in
        let r = gather-walk-kept v (as_awaited (object w.store g)) (record { sized = f.sized; marked = f.marked; tasks_of_fit = f.tasks_of_fit }) in
        let same : unreached v ≡ unreached w = unfold unreached in refl in
        let stack : length w.stack ≡ suc (length gs) = ap length e in
        let x = h (walk_gather v (as_awaited (object w.store g))) r.invariant (omega (arith, r.gathers, same, stack, p)) in
        record { turns = suc x.turns; last = x.last; walks = walks_on w g gs x.turns x.last e x.walks; empty = x.empty }

module _ (s : Store) (t : ℕ) (z : Sized s) (l : t < task_limit) (e : is_live (task s t).state ≡ true) where
  -- The walk of a cancel ends; by `cancel-ends` with the store that cancel leaves, and by `cancel_bound` within the awaited gathers and the live tasks.
  pub cancel_terminates : Ends (begun s t z l e)
  cancel_terminates = walk_ends (unreached (begun s t z l e) + length (begun s t z l e).stack) (begun s t z l e) (begun-walk-kept s t z l e).invariant (omega arith)

  -- A whole cancel: as many removals more as live tasks less.
  pub cancel_spent : removals_in (cancel_task s t).log + live_count (cancel_task s t) ≡ removals_in s.log + live_count s
  cancel_spent =
      let x = cancel_terminates in
      rw (cancel-ends s t z l e x.turns x.last x.walks x.empty) (cancel_removes s t z l e x.turns x.last x.walks)
