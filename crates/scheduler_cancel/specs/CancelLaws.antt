-- The ways through the functions of cancel, in the shape of what the code knows there.
use Rattle.std.specs.Prelude.{◌≡◌, Bool, length, get_or, set, None, Some}
use Rattle.std.proofs.Math.Path.{refl, sym, ap, fun_ext}
use Rattle.std.proofs.Common.{◌∙◌, get_or-set_same, get_or-set_other, eq-eqb, ne_eqb}
use Rattle.std.proofs.Math.Bool.{true, false}
use mathlib.Core.List.{List, [], ◌∷◌}
use Rattle.std.proofs.Math.Option.{Option, none, some}
use Prim.Native.Nat.{ℕ, zero, suc, ◌+◌, ◌-◌, ◌/◌, ◌%◌, ◌^◌, ◌≤◌, ◌<◌}
use Rattle.std.proofs.Math.Nat.{mod-eq_of_lt}
use native.Mathlib.Omega.{arith}
use Rattle.std.proofs.Math.ListN.{replicate}
use Rattle.std.proofs.lemmas.List.{length-replicate}
use Rattle.asyncio.specs.Limits.{object_limit}
use Rattle.asyncio.specs.States.{pick}
use Rattle.asyncio.specs.Kinds.{kind, is_awaited}
use Rattle.asyncio.specs.Parts.{first_of, count_of, awaiter_of, open_of}
use Rattle.asyncio.specs.Numbers.{to_heap_id}
use Rattle.asyncio.specs.declared.HeapId.{HeapId}
use Rattle.asyncio.specs.declared.TaskId.{TaskId}
use Rattle.asyncio.specs.declared.Awaiter.{Awaiter}
use Rattle.asyncio.specs.declared.CoroutineState.{CoroutineState}
use Rattle.asyncio.specs.declared.ExternalFutureState.{ExternalFutureState}
use Rattle.asyncio.specs.declared.GatherState.{GatherState}
use Rattle.asyncio.specs.declared.Object.{Object}
use Rattle.asyncio.specs.declared.Kind.{Kind}
use Rattle.asyncio.specs.declared.Header.{Header}
use Rattle.asyncio.specs.declared.TaskState.{TaskState}
use Rattle.rows.specs.Tables.{task_at, object_at, place_at, header_at}
use Rattle.rows.specs.TableLaws.{task_at-fits, place_at-fits}
use Rattle.queue.specs.declared.ReadyQueue.{ReadyQueue}
use Rattle.machine.specs.Store.{Store, LogEntry, removed, store_of, task, object, place, header, add_log}
use Rattle.machine.specs.Scheduler.{AwaitedGather, as_awaited, is_some, blocked_on, task_of_in, task_of, remove_task, cancel_one}
use Rattle.machine.specs.Scheduler.{Walk, reach_if, reach, remove_blocked, still_live, visit_by, visit, visit_place, visit_open, walk_gather, walk_next, walk_from, cancel_task}
use Rattle.machine_laws.specs.Statements.{unmarked, walk_rest}
use Rattle.machine_laws.specs.CycleLaws.{CountsKept, mark-falls, blocked-fits, blocked_counts_kept, place_counts_kept, gather_counts_kept, walk_once, all_unmarked, cancel_walks}
use Rattle.scheduler.specs.Search.{found_task, found_object}
use Rattle.scheduler.specs.SearchLaws.{task-found, no_task, object-found, no_object}
use Rattle.scheduler_cancel.specs.Cancel.{tasks_of_in, below, Walked, walked, walk_of, Shows, awaited_places}
use Rattle.scheduler.specs.Search.{FoundTask}
use Rattle.scheduler.specs.Search.{FoundObject}

-- ---- the stack

below-same : (gs : List ℕ) (d v j : ℕ) → j ≤ d → below (set gs d v) j ≡ below gs j
unfolding below
below-same gs d v zero h = refl
below-same gs d v (suc j) h = rw (get_or-set_other gs d j v 0 (λ e. absurd (omega arith)), below-same gs d v j (omega arith))

below_push : (gs : List ℕ) (d g : ℕ) → d < length gs → g < object_limit → below (set gs d g) (d + 1) ≡ g ∷ below gs d
below_push gs d g h l = let e : d + 1 ≡ suc d = omega arith in rw e (pushed gs d g h l)
  where
    pushed : (gs : List ℕ) (d g : ℕ) → d < length gs → g < object_limit → below (set gs d g) (suc d) ≡ g ∷ below gs d
    pushed gs d g h l = unfold below in rw (get_or-set_same gs d g 0 h, mod-eq_of_lt l, below-same gs d g d (omega arith))

below_depth : (gs : List ℕ) (d : ℕ) → length (below gs d) ≡ d
unfolding below
below_depth gs zero = refl
below_depth gs (suc d) = ap suc (below_depth gs d)

below_top : (gs : List ℕ) (d : ℕ) → 0 < d → below gs d ≡ (to_heap_id (get_or gs (d - 1) 0)).0 ∷ below gs (d - 1)
unfolding below
below_top gs zero h = absurd (omega arith)
below_top gs (suc d) h = let e : suc d - 1 ≡ d = omega arith in rw e

-- ---- an awaited gather by its kind and its parts

awaited-by : (x : Object) → as_awaited x ≡ pick (is_awaited (kind x)) (some (awaited_places (first_of x) (count_of x) (awaiter_of x) (open_of x))) none
unfolding as_awaited kind first_of count_of awaiter_of open_of
awaited-by Object.Unmade = refl
awaited-by (Object.Coroutine f CoroutineState.New) = refl
awaited-by (Object.Coroutine f CoroutineState.Running) = refl
awaited-by (Object.Coroutine f CoroutineState.Completed) = refl
awaited-by (Object.ExternalFuture c (ExternalFutureState.Pending a r)) = refl
awaited-by (Object.ExternalFuture c (ExternalFutureState.Resolved v)) = refl
awaited-by (Object.ExternalFuture c (ExternalFutureState.Failed e)) = refl
awaited-by (Object.GatherFuture f n GatherState.Pending) = refl
awaited-by (Object.GatherFuture f n (GatherState.Awaited a m)) = refl
awaited-by (Object.GatherFuture f n GatherState.Completed) = refl
awaited-by (Object.GatherFuture f n (GatherState.Failed e)) = refl

-- ---- what the code has is the walk that it started from, taken one step on

pub shows-by : (ds ts os ps : List ℕ) (w : Walked) (l : List LogEntry) (ms : List Bool) (gs : List ℕ) {x : Walk} → walk_of ds ts os ps w l ms gs ≡ x → Shows ds ts os ps w ms gs x
shows-by ds ts os ps w l ms gs e = record { shows = rw (← e) }

-- what is not marked and what is on the stack: together as many as before
pub room-kept : (ds ts os ps : List ℕ) (at : Walked) (l : List LogEntry) (ms : List Bool) (gs : List ℕ) {us hs : List ℕ} {r : Walked} {ns : List Bool} (x : Walk)
    → CountsKept (walk_of ds ts os ps at l ms gs) x → Shows ds us os ps r ns hs x → unmarked ns + r.depth ≡ unmarked ms + at.depth
room-kept ds ts os ps at l ms gs {hs = hs} {r = r} {ns = ns} x p s =
    let a : ns ≡ x.marks = ap (λ (w : Walk). w.marks) s.shows in
    let b : below hs r.depth ≡ x.stack = ap (λ (w : Walk). w.stack) s.shows in
    let c : unmarked ns + length (below hs r.depth) ≡ unmarked ms + length (below gs at.depth) = rw (a, b) p.pays in
    rw (below_depth hs r.depth, below_depth gs at.depth) at c

-- a gather that is not marked has a place on the stack
pub room-left : (ms : List Bool) (d g : ℕ) → length ms ≡ object_limit → unmarked ms + d ≤ object_limit → g < object_limit → get_or ms g false ≡ false → d < object_limit
room-left ms d g m h l e = omega (arith, mark-falls ms g m l e)

-- ---- reach

module _ (ds ts os ps : List ℕ) (q : ReadyQueue) (d : ℕ) (l : List LogEntry) (ms : List Bool) (gs : List ℕ) (g : ℕ)
    {k : Kind} (e : k ≡ kind (object_at os g)) {b : Bool} (f : b ≡ is_awaited k) where
  reached : is_some (as_awaited (object_at os g)) ≡ b
  unfolding is_some
  reached = by (is_awaited (kind (object_at os g))) _ (awaited-by (object_at os g)) ∙ sym (f ∙ ap (λ (x : Kind). is_awaited x) e)
    where
      by : (c : Bool) (a : AwaitedGather) → as_awaited (object_at os g) ≡ pick c (some a) none → is_some (as_awaited (object_at os g)) ≡ c
      by true a h = rw h
      by false a h = rw h

  pub reach-other : b ≡ false → walk_of ds ts os ps (walked q d) l ms gs ≡ reach (walk_of ds ts os ps (walked q d) l ms gs) g
  unfolding reach reach_if object
  reach-other t = rw (reached, t)

  pub reach-marked : b ≡ true → get_or ms g false ≡ true → walk_of ds ts os ps (walked q d) l ms gs ≡ reach (walk_of ds ts os ps (walked q d) l ms gs) g
  unfolding reach reach_if object
  reach-marked t h = rw (reached, t, h)

  pub reach-new : b ≡ true → get_or ms g false ≡ false → d < length gs → g < object_limit → {v : ℕ} → v ≡ g
      → walk_of ds ts os ps (walked q (d + 1)) l (set ms g true) (set gs d v) ≡ reach (walk_of ds ts os ps (walked q d) l ms gs) g
  unfolding reach reach_if object
  reach-new t h r z v = rw (reached, t, h, v, below_push gs d g r z)

-- ---- remove_blocked

-- what a task is blocked on is in range
pub blocked-object : (ts : List ℕ) (t : ℕ) {x : TaskState} {b : FoundObject} (o : HeapId) → x ≡ (task_at ts t).state → b ≡ found_object (blocked_on x) → b ≡ Some o
    → o.0 < object_limit
blocked-object ts t {x} o e f g =
    blocked-fits (task_at ts t).state (task_at-fits ts t).state_fits o.0 (rw e at (object-found (blocked_on x) o (sym f ∙ g)))

module _ (ds ts os ps : List ℕ) (at : Walked) (l : List LogEntry) (ms : List Bool) (gs : List ℕ) (t : ℕ)
    {x : TaskState} {b : FoundObject} (e : x ≡ (task_at ts t).state) (f : b ≡ found_object (blocked_on x)) {us : List ℕ} {r : ReadyQueue}
    (h : store_of us os ps r l ≡ remove_task (store_of ts os ps at.queue l) t) where
  pub removes_only : b ≡ None → Shows ds us os ps (walked r at.depth) ms gs (remove_blocked (walk_of ds ts os ps at l ms gs) t (blocked_on (task_at ts t).state))
  unfolding remove_blocked cancel_one add_log
  removes_only g = let k : blocked_on (task_at ts t).state ≡ none = rw e at (no_object (blocked_on x) (sym f ∙ g)) in rw (k, ← h) (record { shows = refl })

  pub removes_blocked : (o : HeapId) → b ≡ Some o → {d : ℕ} {ns : List Bool} {hs : List ℕ}
      → walk_of ds us os ps (walked r d) (removed t ∷ l) ns hs ≡ reach (walk_of ds us os ps (walked r at.depth) (removed t ∷ l) ms gs) o.0
      → Shows ds us os ps (walked r d) ns hs (remove_blocked (walk_of ds ts os ps at l ms gs) t (blocked_on (task_at ts t).state))
  unfolding remove_blocked cancel_one add_log
  removes_blocked o g {d} {ns} {hs} p =
      let k : blocked_on (task_at ts t).state ≡ some o.0 = rw e at (object-found (blocked_on x) o (sym f ∙ g)) in
      rw (k, ← h) (shows-by ds us os ps (walked r d) (removed t ∷ l) ns hs p)

-- ---- visit, visit_place, visit_open

pub item_fits : (ps : List ℕ) (p : ℕ) {h : HeapId} → h ≡ (place_at ps p).item → h.0 < object_limit
item_fits ps p e = rw e (place_at-fits ps p).item_fits

module _ (ds ts os ps : List ℕ) (at : Walked) (l : List LogEntry) (ms : List Bool) (gs : List ℕ) where
  module _ (o : ℕ) {d : FoundTask} (e : d ≡ found_task (still_live ts (tasks_of_in ds o))) where
    pub visit-driven : (t : TaskId) → d ≡ Some t → {us hs : List ℕ} {r : Walked} {ns : List Bool}
        → Shows ds us os ps r ns hs (remove_blocked (walk_of ds ts os ps at l ms gs) t.0 (blocked_on (task_at ts t.0).state))
        → Shows ds us os ps r ns hs (visit (walk_of ds ts os ps at l ms gs) o)
    unfolding visit visit_by task
    visit-driven t f s = rw (task-found (still_live ts (tasks_of_in ds o)) t (sym e ∙ f)) s

    pub visit-nested : d ≡ None → {n : ℕ} {ns : List Bool} {hs : List ℕ}
        → walk_of ds ts os ps (walked at.queue n) l ns hs ≡ reach (walk_of ds ts os ps at l ms gs) o
        → Shows ds ts os ps (walked at.queue n) ns hs (visit (walk_of ds ts os ps at l ms gs) o)
    unfolding visit visit_by
    visit-nested f {n} {ns} {hs} h = rw (no_task (still_live ts (tasks_of_in ds o)) (sym e ∙ f)) (shows-by ds ts os ps (walked at.queue n) l ns hs h)

  module _ (p i m : ℕ) where
    pub place_shut : m / 2 ^ i % 2 ≡ 0 → Shows ds ts os ps at ms gs (visit_place (walk_of ds ts os ps at l ms gs) p i m)
    unfolding visit_place
    place_shut e = rw (eq-eqb (m / 2 ^ i % 2) 0 e) (record { shows = refl })

    pub place_open : (m / 2 ^ i % 2 ≡ 0 → ⊥) → {h : HeapId} → h ≡ (place_at ps p).item → {us hs : List ℕ} {r : Walked} {ns : List Bool}
        → Shows ds us os ps r ns hs (visit (walk_of ds ts os ps at l ms gs) h.0) → Shows ds us os ps r ns hs (visit_place (walk_of ds ts os ps at l ms gs) p i m)
    unfolding visit_place place
    place_open b e s = rw (ne_eqb (m / 2 ^ i % 2) 0 b, ← e) s

-- with some log, f gives x
pub record Logged {A : Type 0} (f : List LogEntry → A) (x : A) : Type 0 where
  pub log : List LogEntry
  pub gives : f log ≡ x

module _ (ds ts os ps : List ℕ) (at : Walked) (ms : List Bool) (gs : List ℕ) (a : AwaitedGather) (i n : ℕ) {x : Walk} where
  pub open_turn : i < n → {us hs : List ℕ} {r : Walked} {ns : List Bool}
      → ((l : List LogEntry) → Shows ds us os ps r ns hs (visit_place (walk_of ds ts os ps at l ms gs) (a.first + i) i a.open_places))
      → Logged (λ l. visit_open (walk_of ds ts os ps at l ms gs) a i (n - i)) x → Logged (λ l. visit_open (walk_of ds us os ps r l ns hs) a (i + 1) (n - (i + 1))) x
  unfolding visit_open
  open_turn h s g =
      let k : n - i ≡ suc (n - (i + 1)) = omega arith in
      record { log = _; gives = ap (λ (w : Walk). visit_open w a (i + 1) (n - (i + 1))) (s g.log).shows ∙ (rw k at g.gives) }

  pub open_end : n ≤ i → Logged (λ l. visit_open (walk_of ds ts os ps at l ms gs) a i (n - i)) x → Shows ds ts os ps at ms gs x
  unfolding visit_open
  open_end h g = let k : n - i ≡ 0 = omega arith in shows-by ds ts os ps at g.log ms gs (rw k at g.gives)

-- as many places are left
pub open_room : (ds ts os ps : List ℕ) (at : Walked) (l : List LogEntry) (ms : List Bool) (gs : List ℕ) (p i m : ℕ) → length ms ≡ object_limit
    → {us hs : List ℕ} {r : Walked} {ns : List Bool} → Shows ds us os ps r ns hs (visit_place (walk_of ds ts os ps at l ms gs) p i m)
    → unmarked ns + r.depth ≡ unmarked ms + at.depth
open_room ds ts os ps at l ms gs p i m z s = room-kept ds ts os ps at l ms gs _ (place_counts_kept (walk_of ds ts os ps at l ms gs) z p i m) s

pub open_begin : (w : Walk) (a : AwaitedGather) (n : ℕ) → visit_open w a 0 (n - 0) ≡ visit_open w a 0 n
open_begin w a n = let k : n - 0 ≡ n = omega arith in rw k

-- ---- walk_gather

module _ (ds ts os ps : List ℕ) (at : Walked) (l : List LogEntry) (ms : List Bool) (gs : List ℕ) (g : ℕ)
    {k : Kind} (e : k ≡ kind (object_at os g)) {b : Bool} (f : b ≡ is_awaited k) where
  pub walks_not : b ≡ false → Shows ds ts os ps at ms gs (walk_gather (walk_of ds ts os ps at l ms gs) (as_awaited (object_at os g)))
  unfolding walk_gather
  walks_not t = rw (awaited-by (object_at os g), ← e, ← f, t) (record { shows = refl })

  pub walks : b ≡ true → {i n m : ℕ} → i ≡ first_of (object_at os g) → n ≡ count_of (object_at os g) → m ≡ open_of (object_at os g)
      → {us hs : List ℕ} {r : Walked} {ns : List Bool}
      → ((a : Awaiter) → Shows ds us os ps r ns hs (visit_open (walk_of ds ts os ps at l ms gs) (awaited_places i n a m) 0 n))
      → Shows ds us os ps r ns hs (walk_gather (walk_of ds ts os ps at l ms gs) (as_awaited (object_at os g)))
  unfolding walk_gather
  walks t p q r s = rw (awaited-by (object_at os g), ← e, ← f, t, ← p, ← q, ← r) (s (awaiter_of (object_at os g)))

-- ---- cancel_task

pub logged_then : {A : Type 0} {f : List LogEntry → A} {x y : A} → Logged f x → x ≡ y → Logged f y
logged_then g e = record { log = g.log; gives = g.gives ∙ e }

-- the stack is empty and nothing is marked: there is a place for each object
pub cancel-room : (ds ts os ps : List ℕ) (q : ReadyQueue) (l : List LogEntry) (zs : List ℕ) (t : ℕ) {us hs : List ℕ} {r : Walked} {ns : List Bool}
    → Shows ds us os ps r ns hs (remove_blocked (walk_of ds ts os ps (walked q 0) l (replicate object_limit false) zs) t (blocked_on (task_at ts t).state))
    → unmarked ns + r.depth ≡ object_limit
unfolding task
cancel-room ds ts os ps q l zs t s =
    let w : Walk = walk_of ds ts os ps (walked q 0) l (replicate object_limit false) zs in
    room-kept ds ts os ps (walked q 0) l (replicate object_limit false) zs (remove_blocked w t (blocked_on (task_at ts t).state))
    (blocked_counts_kept w (length-replicate {A = Bool} object_limit false) t) s
    ∙ all_unmarked

-- the walk begins as the machine's does
pub cancel-begins : (ds ts os ps zs : List ℕ) (q : ReadyQueue) (l : List LogEntry) (t : ℕ) {h : Header} → h ≡ header_at os
    → ((c : ℕ) → tasks_of_in ds c ≡ task_of_in ts h.next c) → {us hs : List ℕ} {r : Walked} {ns : List Bool}
    → Shows ds us os ps r ns hs (remove_blocked (walk_of ds ts os ps (walked q 0) l (replicate object_limit false) zs) t (blocked_on (task_at ts t).state))
    → Logged (λ m. walk_rest (walk_of ds us os ps r m ns hs)) (cancel_task (store_of ts os ps q l) t)
cancel-begins ds ts os ps zs q l t {h} e d s =
    record { log = _; gives = ap (λ (w : Walk). walk_rest w) s.shows ∙ ap (λ (w : Walk). walk_rest (remove_blocked w t (blocked_on (task_at ts t).state))) begins ∙ sym (walks-so) }
  where
    same : (c : ℕ) → tasks_of_in ds c ≡ task_of (store_of ts os ps q l) c
    same c = unfold task_of header in (rw (← e) (d c))

    begins : walk_of ds ts os ps (walked q 0) l (replicate object_limit false) zs ≡ walk_from (store_of ts os ps q l)
    begins =
        unfold walk_from below in
        (ap (λ (f : ℕ → Option ℕ). record { store = store_of ts os ps q l; tasks_of = f; marks = replicate object_limit false; stack = [] }) (fun_ext same))

    walks-so : cancel_task (store_of ts os ps q l) t ≡ walk_rest (remove_blocked (walk_from (store_of ts os ps q l)) t (blocked_on (task_at ts t).state))
    walks-so = unfold task in (cancel_walks (store_of ts os ps q l) t)

module _ (ds ts os ps : List ℕ) (q : ReadyQueue) (d : ℕ) (ms : List Bool) (gs : List ℕ) (m : length ms ≡ object_limit) where
  -- the gather on top of the stack is walked
  pub cancel-turn : {x : Store} → 0 < d → {g : HeapId} → g ≡ to_heap_id (get_or gs (d - 1) 0) → {us hs : List ℕ} {r : Walked} {ns : List Bool}
      → ((l : List LogEntry) → Shows ds us os ps r ns hs (walk_gather (walk_of ds ts os ps (walked q (d - 1)) l ms gs) (as_awaited (object_at os g.0))))
      → Logged (λ l. walk_rest (walk_of ds ts os ps (walked q d) l ms gs)) x → Logged (λ l. walk_rest (walk_of ds us os ps r l ns hs)) x
  cancel-turn h {g} e s p =
      record { log = _; gives = ap (λ (w : Walk). walk_rest w) (s p.log).shows ∙ sym (once p.log) ∙ p.gives }
    where
      once : (l : List LogEntry)
          → walk_rest (walk_of ds ts os ps (walked q d) l ms gs)
          ≡ walk_rest (walk_gather (walk_of ds ts os ps (walked q (d - 1)) l ms gs) (as_awaited (object_at os g.0)))
      once l =
          walk_once (walk_of ds ts os ps (walked q d) l ms gs) m
          ∙ ap (λ (c : List ℕ). walk_next walk_rest (walk_of ds ts os ps (walked q d) l ms gs) c) (below_top gs d h)
          ∙ (unfold walk_next object in (rw (← ap (λ (c : HeapId). c.0) e)))

  stops : d ≡ 0 → (l : List LogEntry) → walk_next walk_rest (walk_of ds ts os ps (walked q d) l ms gs) (below gs d) ≡ store_of ts os ps q l
  unfolding walk_next below
  stops z l = rw z

  -- none is left
  pub cancel-end : {x : Store} → d ≤ 0 → Logged (λ l. walk_rest (walk_of ds ts os ps (walked q d) l ms gs)) x → store_of ts os ps q x.log ≡ x
  cancel-end {x} h p = by (sym (walk_once (walk_of ds ts os ps (walked q d) p.log ms gs) m ∙ stops (omega arith) p.log) ∙ p.gives)
    where
      by : {l : List LogEntry} → store_of ts os ps q l ≡ x → store_of ts os ps q x.log ≡ x
      by k = rw (← k)

-- each turn takes one gather off the stack, for good
pub cancel-falls : (ds ts os ps : List ℕ) (q : ReadyQueue) (d : ℕ) (l : List LogEntry) (ms : List Bool) (gs : List ℕ) (g : ℕ) → length ms ≡ object_limit
    → 0 < d → {us hs : List ℕ} {r : Walked} {ns : List Bool}
    → Shows ds us os ps r ns hs (walk_gather (walk_of ds ts os ps (walked q (d - 1)) l ms gs) (as_awaited (object_at os g)))
    → suc (unmarked ns + r.depth) ≡ unmarked ms + d
cancel-falls ds ts os ps q d l ms gs g m h s =
    omega (arith, room-kept ds ts os ps (walked q (d - 1)) l ms gs _ (gather_counts_kept (walk_of ds ts os ps (walked q (d - 1)) l ms gs) m (as_awaited (object_at os g))) s)
