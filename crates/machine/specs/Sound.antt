-- When a store is sound: document 01's paragraph "A store is sound when", clause by clause in its order, as a test that computes.
-- Each clause takes the tables that it reads. Only rows in use are looked at: tasks below the next number, objects made, places used.
use Rattle.std.specs.Prelude.{ℕ, zero, suc, ◌+◌, ◌-◌, ◌/◌, ◌%◌, ◌^◌, Bool, true, false, not, ◌||◌, List, eqb, ltb, leb, length, get_or}
use Rattle.std.specs.Bool.{beq}
use Rattle.std.proofs.Math.Option.{Option, none, some}
use Rattle.asyncio.specs.declared.HeapId.{HeapId}
use Rattle.asyncio.specs.declared.CallId.{CallId}
use Rattle.asyncio.specs.declared.TaskId.{TaskId}
use Rattle.asyncio.specs.declared.Value.{Value}
use Rattle.asyncio.specs.Options.{OptionValue}
use Rattle.std.specs.Prelude.{None, Some}
use Rattle.asyncio.specs.declared.TaskState.{TaskState}
use Rattle.asyncio.specs.declared.Awaiter.{Awaiter}
use Rattle.asyncio.specs.declared.ExternalFutureState.{ExternalFutureState}
use Rattle.asyncio.specs.declared.GatherState.{GatherState}
use Rattle.asyncio.specs.declared.Object.{Object}
use Rattle.asyncio.specs.declared.Task.{Task}
use Rattle.asyncio.specs.declared.Place.{Place}
use Rattle.asyncio.specs.declared.Header.{Header}
use Rattle.asyncio.specs.declared.Moment.{Moment}
use Rattle.asyncio.specs.Limits.{task_limit}
use Rattle.asyncio.specs.States.{pick, is_nobody, is_live, is_unstarted, is_ready, is_running}
use Rattle.asyncio.specs.Kinds.{kind, is_coroutine, is_completed, is_committed}
use Rattle.asyncio.specs.Parts.{awaiter_of, count_of}
use Rattle.rows.specs.Canonical.{task_canonical, object_canonical, place_canonical, header_canonical}
use Rattle.machine.specs.Tests.{◌and◌, implies, all_below, sum_below}
use Rattle.machine.specs.Store.{Store, View, view, header}
use Rattle.machine.specs.Scheduler.{blocked_on, as_pending, as_awaited, AwaitedGather, PendingExternal, bit, is_task_of}
use Rattle.machine.specs.Commit.{open_from}

-- ---- 1. Numbers and counts lie in range. X1 to X5 are the conditions of decision 21 (docs/DECISIONS.md).

-- each row in use is canonical, and the queue's count is within its places
unfoldable pub words_in_range : Store → Bool
words_in_range s =
    header_canonical s.objects and
    all_below (header s).next (λ t. task_canonical s.tasks t) and
    all_below (header s).made (λ o. object_canonical s.objects o) and
    all_below (header s).used (λ p. place_canonical s.places p) and
    leb s.queue.len task_limit

-- the places of the gathers below n
unfoldable pub places_below : (ℕ → Object) → ℕ → ℕ
places_below os n = sum_below n (λ o. count_of (os o))

-- main's row is in use, and the places used are those of the gathers
unfoldable pub counts_in_range : Header → (ℕ → Object) → Bool
counts_in_range h os = leb 1 h.next and eqb h.used (places_below os h.made)

-- X5: a task named as an awaiter, even a dead one, is below the next number; a gather is made
unfoldable pub awaiter_in_range : Header → Awaiter → Bool
awaiter_in_range h Awaiter.Nobody = true
awaiter_in_range h (Awaiter.Task t) = ltb t.0 h.next
awaiter_in_range h (Awaiter.GatherSlot g o) = ltb g.0 h.made

-- a gather of n places has no open bit at or above n
unfoldable pub open_in_range : ℕ → GatherState → Bool
open_in_range n GatherState.Pending = true
open_in_range n (GatherState.Awaited w m) = ltb m (2 ^ n)
open_in_range n GatherState.Completed = true
open_in_range n (GatherState.Failed e) = true

-- an object is made; its call was handed out; a gather's places start at p, where those of the gathers before it end
unfoldable pub object_in_range : Header → ℕ → Object → Bool
object_in_range h p Object.Unmade = false
object_in_range h p (Object.Coroutine f x) = true
object_in_range h p (Object.ExternalFuture c x) = ltb c.0 h.calls
object_in_range h p (Object.GatherFuture i n x) = eqb i p and open_in_range n x

-- a slot of a gather
unfoldable pub is_slot : Awaiter → Bool
is_slot Awaiter.Nobody = false
is_slot (Awaiter.Task t) = false
is_slot (Awaiter.GatherSlot g o) = true

-- Main is never unstarted (X1), and has no awaiter and no coroutine (X3). A live spawned task has a slot for its awaiter, and names a
-- coroutine (X2). A row at or past the next number is no task (X4).
unfoldable pub task_in_range : Header → (ℕ → Object) → ℕ → Task → Bool
task_in_range h os zero x = not (is_unstarted x.state) and is_nobody x.awaiter and eqb x.coroutine.0 0
task_in_range h os (suc t) x =
    implies (is_live x.state)
    (is_slot x.awaiter and awaiter_in_range h x.awaiter and ltb x.coroutine.0 h.made and is_coroutine (kind (os x.coroutine.0)))

-- counts, objects, awaiters and tasks
unfoldable pub numbers_in_range : Header → (ℕ → Object) → (ℕ → Task) → Bool
numbers_in_range h os ts =
    counts_in_range h os and
    all_below h.made (λ o. object_in_range h (places_below os o) (os o)) and
    all_below h.made (λ o. awaiter_in_range h (awaiter_of (os o))) and
    all_below h.next (λ t. task_in_range h os t (ts t))

-- ---- 2. No more tasks were spawned than committed gathers have places.

-- the places of a committed gather
unfoldable pub committed_places : Object → ℕ
committed_places x = pick (is_committed (kind x)) (count_of x) 0

-- spawned: the tasks below the next number but main
unfoldable pub spawned_in_range : Header → (ℕ → Object) → Bool
spawned_in_range h os = leb (h.next - 1) (sum_below h.made (λ o. committed_places (os o)))

-- ---- 3. Items are lower than their gather.

-- the items of object g, if it is a gather
unfoldable pub items_below : (ℕ → Place) → ℕ → Object → Bool
items_below ps g Object.Unmade = true
items_below ps g (Object.Coroutine f x) = true
items_below ps g (Object.ExternalFuture c x) = true
items_below ps g (Object.GatherFuture i n x) = all_below n (λ k. ltb (ps (i + k)).item.0 g)

-- of every gather
unfoldable pub items_lower : ℕ → (ℕ → Object) → (ℕ → Place) → Bool
items_lower made os ps = all_below made (λ g. items_below ps g (os g))

-- ---- 4. List values name completed gathers.

-- a value that may be handed on: plain, or the list of a completed gather among the objects made
unfoldable pub value_known : ℕ → (ℕ → Object) → Value → Bool
value_known made os (Value.Plain n) = true
value_known made os (Value.List g) = ltb g.0 made and is_completed (kind (os g.0))

-- a value or none
unfoldable pub option_known : ℕ → (ℕ → Object) → OptionValue → Bool
option_known made os None = true
option_known made os (Some v) = value_known made os v

-- the value or stored result that an object holds
unfoldable pub object_values : ℕ → (ℕ → Object) → Object → Bool
object_values made os Object.Unmade = true
object_values made os (Object.Coroutine f x) = true
object_values made os (Object.ExternalFuture c (ExternalFutureState.Pending w x)) = option_known made os x
object_values made os (Object.ExternalFuture c (ExternalFutureState.Resolved v)) = value_known made os v
object_values made os (Object.ExternalFuture c (ExternalFutureState.Failed e)) = true
object_values made os (Object.GatherFuture i n x) = true

-- the value delivered to a task
unfoldable pub state_values : ℕ → (ℕ → Object) → TaskState → Bool
state_values made os TaskState.Absent = true
state_values made os TaskState.Unstarted = true
state_values made os TaskState.Running = true
state_values made os (TaskState.Woken v) = value_known made os v
state_values made os (TaskState.Raised e) = true
state_values made os (TaskState.Blocked o) = true

-- of objects, tasks and places
unfoldable pub lists_completed : Header → (ℕ → Object) → (ℕ → Task) → (ℕ → Place) → Bool
lists_completed h os ts ps =
    all_below h.made (λ o. object_values h.made os (os o)) and
    all_below h.next (λ t. state_values h.made os (ts t).state) and
    all_below h.used (λ p. option_known h.made os (ps p).result)

-- ---- 5. Queue entries are distinct, live, unblocked and none is running.

-- entry i: a task below the next number, ready, and no entry before it is the same
unfoldable pub entry_ready : ℕ → (ℕ → Task) → List ℕ → ℕ → Bool
entry_ready next ts q i =
    ltb (get_or q i 0) next and is_ready (ts (get_or q i 0)).state and all_below i (λ j. not (eqb (get_or q j 0) (get_or q i 0)))

-- of every entry
unfoldable pub queue_ready : ℕ → (ℕ → Task) → List ℕ → Bool
queue_ready next ts q = all_below (length q) (entry_ready next ts q)

-- ---- 6. In a session not ended, pending calls and pending externals match one to one.

-- the session has ended
unfoldable pub is_ended : Moment → Bool
is_ended (Moment.Running t) = false
is_ended Moment.Waiting = false
is_ended Moment.Ended = true

-- pending externals of one call
unfoldable pub same_call : Option PendingExternal → Option PendingExternal → Bool
same_call none q = false
same_call (some p) none = false
same_call (some p) (some q) = eqb p.call.0 q.call.0

-- no pending external before o has o's call
unfoldable pub call_new : (ℕ → Object) → ℕ → Bool
call_new os o = all_below o (λ p. not (same_call (as_pending (os o)) (as_pending (os p))))

-- Pending calls are the calls of the pending externals, so this says that no two have one call.
unfoldable pub calls_distinct : Header → (ℕ → Object) → Bool
calls_distinct h os = is_ended h.moment || all_below h.made (call_new os)

-- ---- 7. A coroutine has at most one live task.

-- row t is a live spawned task of coroutine c
unfoldable pub is_task_of_at : (ℕ → Task) → ℕ → ℕ → Bool
is_task_of_at ts c t = not (eqb t 0) and is_task_of c (ts t)

-- no task before t is of t's coroutine
unfoldable pub sole_task : (ℕ → Task) → ℕ → Bool
sole_task ts t = implies (is_task_of_at ts (ts t).coroutine.0 t) (all_below t (λ u. not (is_task_of_at ts (ts t).coroutine.0 u)))

-- of every task
unfoldable pub one_task : ℕ → (ℕ → Task) → Bool
one_task next ts = all_below next (sole_task ts)

-- ---- 8. A blocked task is the awaiter of what it waits on, and a live awaiter task is blocked there.

-- the awaiter is task t
unfoldable pub is_task : ℕ → Awaiter → Bool
is_task t Awaiter.Nobody = false
is_task t (Awaiter.Task u) = eqb u.0 t
is_task t (Awaiter.GatherSlot g o) = false

-- task t, blocked on o or on nothing, is the awaiter of o
unfoldable pub blocked_awaits : ℕ → (ℕ → Object) → ℕ → Option ℕ → Bool
blocked_awaits made os t none = true
blocked_awaits made os t (some o) = ltb o made and is_task t (awaiter_of (os o))

-- blocked on o
unfoldable pub blocked_at : Option ℕ → ℕ → Bool
blocked_at none o = false
blocked_at (some b) o = eqb b o

-- the awaiter of object o, if it is a live task, is blocked on o
unfoldable pub awaiter_blocked : (ℕ → Task) → ℕ → Awaiter → Bool
awaiter_blocked ts o Awaiter.Nobody = true
awaiter_blocked ts o (Awaiter.Task t) = implies (is_live (ts t.0).state) (blocked_at (blocked_on (ts t.0).state) o)
awaiter_blocked ts o (Awaiter.GatherSlot g x) = true

-- both ways
unfoldable pub blocked_match : Header → (ℕ → Object) → (ℕ → Task) → Bool
blocked_match h os ts =
    all_below h.next (λ t. blocked_awaits h.made os t (blocked_on (ts t).state)) and
    all_below h.made (λ o. awaiter_blocked ts o (awaiter_of (os o)))

-- ---- 9. An awaited gather has an open place and the rest filled, a completed one has all filled.

-- a value is there
unfoldable pub is_filled : OptionValue → Bool
is_filled None = false
is_filled (Some v) = true

-- the places not open are filled
unfoldable pub rest_filled : (ℕ → Place) → ℕ → ℕ → ℕ → Bool
rest_filled ps i n m = all_below n (λ k. bit m k || is_filled (ps (i + k)).result)

-- by the gather's state
unfoldable pub gather_filled : (ℕ → Place) → ℕ → ℕ → GatherState → Bool
gather_filled ps i n GatherState.Pending = true
gather_filled ps i n (GatherState.Awaited w m) = not (eqb m 0) and rest_filled ps i n m
gather_filled ps i n GatherState.Completed = rest_filled ps i n 0
gather_filled ps i n (GatherState.Failed e) = true

-- only gathers have places
unfoldable pub object_filled : (ℕ → Place) → Object → Bool
object_filled ps Object.Unmade = true
object_filled ps (Object.Coroutine f x) = true
object_filled ps (Object.ExternalFuture c x) = true
object_filled ps (Object.GatherFuture i n x) = gather_filled ps i n x

-- of every gather
unfoldable pub places_filled : ℕ → (ℕ → Object) → (ℕ → Place) → Bool
places_filled made os ps = all_below made (λ g. object_filled ps (os g))

-- ---- 10. A slot awaiter's source is its holder's own object, and its gather was committed and, if still awaited, has that source open.

-- an awaited gather has an open place that names o
unfoldable pub source_open : (ℕ → Place) → Option AwaitedGather → ℕ → Bool
source_open ps none o = true
source_open ps (some w) o = open_from ps w o 0 w.count

-- the awaiter of the holder of object o
unfoldable pub slot_open : (ℕ → Object) → (ℕ → Place) → ℕ → Awaiter → Bool
slot_open os ps o Awaiter.Nobody = true
slot_open os ps o (Awaiter.Task t) = true
slot_open os ps o (Awaiter.GatherSlot g x) = eqb x.0 o and is_committed (kind (os g.0)) and source_open ps (as_awaited (os g.0)) o

-- of objects, and of live tasks for their coroutines
unfoldable pub slots_open : Header → (ℕ → Object) → (ℕ → Task) → (ℕ → Place) → Bool
slots_open h os ts ps =
    all_below h.made (λ o. slot_open os ps o (awaiter_of (os o))) and
    all_below h.next (λ t. implies (is_live (ts t).state) (slot_open os ps (ts t).coroutine.0 (ts t).awaiter))

-- ---- 11. In running one live unblocked task runs, in waiting none.

-- is u the running task?
unfoldable pub runs_now : Moment → ℕ → Bool
runs_now (Moment.Running t) u = eqb t.0 u
runs_now Moment.Waiting u = false
runs_now Moment.Ended u = false

-- the running task is below the next number
unfoldable pub runner_in_range : ℕ → Moment → Bool
runner_in_range next (Moment.Running t) = ltb t.0 next
runner_in_range next Moment.Waiting = true
runner_in_range next Moment.Ended = true

-- the tasks whose state is running: the one of the moment
unfoldable pub one_runs : Header → (ℕ → Task) → Bool
one_runs h ts =
    runner_in_range h.next h.moment and
    all_below h.next (λ t. beq (is_running (ts t).state) (runs_now h.moment t))

-- ---- all of it

-- what a store says is sound
unfoldable pub sound_view : View → Bool
sound_view v =
    numbers_in_range v.header v.objects v.tasks and
    spawned_in_range v.header v.objects and
    items_lower v.header.made v.objects v.places and
    lists_completed v.header v.objects v.tasks v.places and
    queue_ready v.header.next v.tasks v.queue and
    calls_distinct v.header v.objects and
    one_task v.header.next v.tasks and
    blocked_match v.header v.objects v.tasks and
    places_filled v.header.made v.objects v.places and
    slots_open v.header v.objects v.tasks v.places and
    one_runs v.header v.tasks

-- A store is sound.
unfoldable pub sound : Store → Bool
sound s = words_in_range s and sound_view (view s)
