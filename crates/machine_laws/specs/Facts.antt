-- Soundness of a view as facts, clause by clause (Sound has them as tests), and what may be excepted in the midst of an event.
use Rattle.std.specs.Prelude.{◌≡◌, true, false, ℕ, suc, ◌+◌, ◌≤◌, ◌<◌, T, length}
use Rattle.std.proofs.Math.Option.{some}
use Rattle.asyncio.specs.declared.Awaiter.{Awaiter}
use Rattle.std.specs.Prelude.{None}
use Rattle.asyncio.specs.declared.Object.{Object}
use Rattle.asyncio.specs.declared.Place.{Place}
use Rattle.asyncio.specs.Numbers.{heap_id, task_id}
use Rattle.asyncio.specs.States.{is_live, is_running}
use Rattle.asyncio.specs.Kinds.{kind, is_committed}
use Rattle.asyncio.specs.Parts.{awaiter_of, count_of}
use Rattle.asyncio.specs.Limits.{task_limit}
use Rattle.asyncio.specs.Ranges.{HeaderFits}
use Rattle.machine.specs.Tests.{sum_below}
use Rattle.rows.specs.Canonical.{task_canonical, object_canonical, place_canonical, header_canonical}
use Rattle.machine.specs.Store.{Store, View}
use Rattle.machine.specs.Scheduler.{AwaitedGather, PendingExternal, as_awaited, as_pending, blocked_on, bit}
use Rattle.machine_laws.specs.Views.{update}
use Rattle.machine.specs.Sound.{places_below, awaiter_in_range, object_in_range, task_in_range, committed_places, items_below, object_values, state_values, option_known}
use Rattle.machine.specs.Sound.{entry_ready, is_ended, is_task_of_at, object_filled, runs_now, runner_in_range}

-- an open place of the gather names o
pub record Open (ps : ℕ → Place) (w : AwaitedGather) (o : ℕ) : Type 0 where
  pub at : ℕ
  pub under : at < w.count
  pub is_open : bit w.open_places at ≡ true
  pub names : (ps (w.first + at)).item.0 ≡ o

-- the awaiter "slot of gather g, source x" of a holder whose own object is o; n objects are made
pub record Slotted (n : ℕ) (os : ℕ → Object) (ps : ℕ → Place) (o g x : ℕ) : Type 0 where
  pub own : x ≡ o
  pub made : g < n
  pub committed : T (is_committed (kind (os g)))
  pub opens : (w : AwaitedGather) → as_awaited (os g) ≡ some w → Open ps w o

-- o is made, and task t is its awaiter
pub record AwaitedBy (n : ℕ) (os : ℕ → Object) (t o : ℕ) : Type 0 where
  pub made : o < n
  pub awaiter : awaiter_of (os o) ≡ Awaiter.Task (task_id t)

-- Sound, but: k more tasks may yet be spawned for places committed; a task of P may be blocked on what it is not the awaiter of; an
-- object of Q, a gather in the midst of its commit, may have an awaiter that is not blocked on it, places neither open nor filled, and
-- a slot that is not open. Who runs is said apart.
pub record SoundBut (k : ℕ) (P Q : ℕ → Type 0) (v : View) : Type 0 where
  -- clause 1: numbers and counts lie in range
  pub fits : HeaderFits v.header
  pub main : 1 ≤ v.header.next
  pub all_used : v.header.used ≡ places_below v.objects v.header.made
  pub objects : (o : ℕ) → o < v.header.made → T (object_in_range v.header (places_below v.objects o) (v.objects o))
  pub awaiters : (o : ℕ) → o < v.header.made → T (awaiter_in_range v.header (awaiter_of (v.objects o)))
  pub tasks : (t : ℕ) → t < v.header.next → T (task_in_range v.header v.objects t (v.tasks t))
  -- 2: no more tasks were spawned than committed gathers have places
  pub spawned : v.header.next + k ≤ suc (sum_below v.header.made (λ o. committed_places (v.objects o)))
  -- 3: items are lower than their gather
  pub items : (g : ℕ) → g < v.header.made → T (items_below v.places g (v.objects g))
  -- 4: list values name completed gathers
  pub object_lists : (o : ℕ) → o < v.header.made → T (object_values v.header.made v.objects (v.objects o))
  pub task_lists : (t : ℕ) → t < v.header.next → T (state_values v.header.made v.objects (v.tasks t).state)
  pub place_lists : (p : ℕ) → p < v.header.used → T (option_known v.header.made v.objects (v.places p).result)
  -- 5: queue entries are distinct, live, unblocked and none is running
  pub entries : (i : ℕ) → i < length v.queue → T (entry_ready v.header.next v.tasks v.queue i)
  -- 6: in a session not ended, pending calls and pending externals match one to one
  pub calls : is_ended v.header.moment ≡ false → (o p : ℕ) → o < v.header.made → p < v.header.made → (a b : PendingExternal)
      → as_pending (v.objects o) ≡ some a → as_pending (v.objects p) ≡ some b → a.call.0 ≡ b.call.0 → o ≡ p
  -- 7: a coroutine has at most one live task
  pub task_of : (c t u : ℕ) → t < v.header.next → u < v.header.next → T (is_task_of_at v.tasks c t) → T (is_task_of_at v.tasks c u) → t ≡ u
  -- 8: a blocked task is the awaiter of what it waits on, and a live awaiter task is blocked there
  pub awaits : (t : ℕ) → t < v.header.next → (P t → ⊥) → (o : ℕ) → blocked_on (v.tasks t).state ≡ some o
      → AwaitedBy v.header.made v.objects t o
  pub awaited : (o : ℕ) → o < v.header.made → (Q o → ⊥) → (t : ℕ) → awaiter_of (v.objects o) ≡ Awaiter.Task (task_id t)
      → T (is_live (v.tasks t).state) → blocked_on (v.tasks t).state ≡ some o
  -- 9: an awaited gather has an open place and the rest filled, a completed one has all filled
  pub filled : (g : ℕ) → g < v.header.made → (Q g → ⊥) → T (object_filled v.places (v.objects g))
  -- 10: a slot awaiter's source is its holder's own object, and its gather was committed and, if still awaited, has that source open
  pub object_slots : (o : ℕ) → o < v.header.made → (Q o → ⊥) → (g x : ℕ) → awaiter_of (v.objects o) ≡ Awaiter.GatherSlot (heap_id g) (heap_id x)
      → Slotted v.header.made v.objects v.places o g x
  pub task_slots : (t : ℕ) → t < v.header.next → T (is_live (v.tasks t).state) → (g x : ℕ)
      → (v.tasks t).awaiter ≡ Awaiter.GatherSlot (heap_id g) (heap_id x)
      → Slotted v.header.made v.objects v.places (v.tasks t).coroutine.0 g x

-- nothing is excepted
abbrev pub Nothing : ℕ → Type 0
Nothing i = ⊥

-- the whole paragraph
pub record SoundFacts (v : View) : Type 0 where
  pub but : SoundBut 0 Nothing Nothing v
  -- clause 11: in running one live unblocked task runs, in waiting none
  pub runner : T (runner_in_range v.header.next v.header.moment)
  pub runs : (t : ℕ) → t < v.header.next → is_running (v.tasks t).state ≡ runs_now v.header.moment t

-- ---- an object is made

-- x is made, with n places; the places are ps from now on, and c calls were handed out
unfoldable pub add : View → Object → ℕ → (ℕ → Place) → ℕ → View
add v x n ps c =
    record {
      tasks = v.tasks;
      objects = update v.objects v.header.made x;
      places = ps;
      header = record { made = v.header.made + 1; used = v.header.used + n; calls = c; next = v.header.next; moment = v.header.moment };
      queue = v.queue;
    }

-- what each clause asks of an object that is made: it has n empty places behind those used, no awaiter, and no call that is pending
pub record AddFits (v : View) (x : Object) (n : ℕ) (ps : ℕ → Place) (c : ℕ) : Type 0 where
  pub room : HeaderFits (add v x n ps c).header
  pub calls : v.header.calls ≤ c
  pub count : count_of x ≡ n
  pub fresh : is_committed (kind x) ≡ false
  pub range : T (object_in_range (add v x n ps c).header v.header.used x)
  pub lower : T (items_below ps v.header.made x)
  pub known : T (object_values v.header.made v.objects x)
  pub call : is_ended v.header.moment ≡ false → (a : PendingExternal) → as_pending x ≡ some a → (p : ℕ) → p < v.header.made
      → (b : PendingExternal) → as_pending (v.objects p) ≡ some b → a.call.0 ≡ b.call.0 → ⊥
  pub free : awaiter_of x ≡ Awaiter.Nobody
  pub filled : T (object_filled ps x)
  pub old_places : (p : ℕ) → p < v.header.used → ps p ≡ v.places p
  pub new_places : (p : ℕ) → v.header.used ≤ p → p < v.header.used + n → (ps p).result ≡ None

-- ---- the words, which no view shows

-- the rows in use (next tasks, made objects, used places) are canonical, and the queue's count is within its places
pub record WordsInRange (next made used : ℕ) (s : Store) : Type 0 where
  pub header_right : T (header_canonical s.objects)
  pub tasks_right : (t : ℕ) → t < next → T (task_canonical s.tasks t)
  pub objects_right : (o : ℕ) → o < made → T (object_canonical s.objects o)
  pub places_right : (p : ℕ) → p < used → T (place_canonical s.places p)
  pub queue_short : s.queue.len ≤ task_limit
