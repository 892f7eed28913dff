-- What one accepted event does to every gather: rows move one way only; a gather that was awaited fails because an item has raised the error, which is one
-- that the event brings; one that was pending fails in its own commit, at the first item that raises.
use Rattle.std.specs.Prelude.{◌≡◌, Bool, true, false, List, [], ◌∷◌, ◌⊎◌, ℕ, suc, ◌+◌, ◌≤◌, ◌<◌, eqb}
use Rattle.std.proofs.Math.Option.{Option, some}
use Rattle.asyncio.specs.declared.CallId.{CallId}
use Rattle.asyncio.specs.declared.Error.{Error}
use Rattle.asyncio.specs.declared.Value.{Value}
use Rattle.asyncio.specs.Options.{OptionValue}
use Rattle.asyncio.specs.declared.Awaiter.{Awaiter}
use Rattle.asyncio.specs.declared.CoroutineState.{CoroutineState}
use Rattle.asyncio.specs.declared.ExternalFutureState.{ExternalFutureState}
use Rattle.asyncio.specs.declared.GatherState.{GatherState}
use Rattle.asyncio.specs.declared.Object.{Object}
use Rattle.asyncio.specs.declared.Moment.{Moment}
use Rattle.asyncio.specs.Numbers.{task_id}
use Rattle.asyncio.specs.Parts.{first_of, count_of}
use Rattle.asyncio.specs.States.{is_live, is_unstarted}
use Rattle.machine.specs.Store.{Store, task, object, place, header}
use Rattle.machine.specs.Scheduler.{AwaitedGather, PendingExternal, as_awaited, as_pending}
use Rattle.machine.specs.Events.{How, start, Control, runs, Result}
use Rattle.machine.specs.Machine.{Event, Answer, Step}
use Rattle.machine.specs.History.{says, tells, is_none, spawned_by, reply_error}
use Rattle.machine.specs.Sound.{is_ended}
use Rattle.machine.specs.Honest.{exits_in}
use Rattle.machine_sessions.specs.Gather.Failing.{RowMoves}
use Rattle.machine_sessions.specs.Gather.FailingRows.{ItemAt, Raised, ExitAs}

-- ---- the errors that an event brings

-- a result of the batch
unfoldable pub ResultIn : Result → List Result → Type 0
ResultIn r [] = ⊥
ResultIn r (x ∷ xs) = (r ≡ x) ⊎ ResultIn r xs

-- coroutine-reuse, at a first run, which no results bring; that of a failure; those of the results that are of kind 1, 3 or 4
pub data Brings (e : Event) : Error → Type 0 where
  reuse : (says e).results ≡ [] → Brings e Error.CoroutineReuse
  script : (n : ℕ) → e ≡ Event.fail n → Brings e (Error.Script n)
  answer : (rs : List Result) (r : Result) → e ≡ Event.results rs → ResultIn r rs → eqb r.kind 0 ≡ false → eqb r.kind 2 ≡ false → Brings e (reply_error r)

-- the running task's coroutine o ends with x in a failure
pub record RunnerFails (e : Event) (s : Store) (o : ℕ) (x : Error) : Type 0 where
  pub runner : ℕ
  pub number : ℕ
  pub fails : e ≡ Event.fail number
  pub runs_it : (header s).moment ≡ Moment.Running (task_id (suc runner))
  pub coroutine : (task s (suc runner)).coroutine.0 ≡ o
  pub error : x ≡ Error.Script number

-- the running task t, which is not main, completes or fails
pub data RunnerEnds (e : Event) (s : Store) (t : ℕ) : Type 0 where
  completes : (v : Value) (r : ℕ) → e ≡ Event.complete v → t ≡ suc r → (header s).moment ≡ Moment.Running (task_id t) → RunnerEnds e s t
  fails : (n r : ℕ) → e ≡ Event.fail n → t ≡ suc r → (header s).moment ≡ Moment.Running (task_id t) → RunnerEnds e s t

-- ---- a gather that was awaited

pub record FailedBy (e : Event) (s u : Store) (g : ℕ) (x : Error) : Type 0 where
  pub error : Brings e x
  pub item : ℕ
  pub among : ItemAt s g item
  pub raised : Raised s (RunnerFails e s) u item x

-- ---- a gather that was pending

-- the object named in place j of gather g
abbrev pub item_at : Store → ℕ → ℕ → ℕ
item_at s g j = (place s (first_of (object s g) + j)).item.0

-- the awaiter is somebody, and no slot of gather g
abbrev pub Other : ℕ → Awaiter → Type 0
Other g Awaiter.Nobody = ⊥
Other g (Awaiter.Task t) = Unit {0}
Other g (Awaiter.GatherSlot f x) = f.0 ≡ g → ⊥

-- the awaiter is no slot of gather g
abbrev pub NoSlot : ℕ → Awaiter → Type 0
NoSlot g Awaiter.Nobody = Unit {0}
NoSlot g (Awaiter.Task t) = Unit {0}
NoSlot g (Awaiter.GatherSlot f x) = f.0 ≡ g → ⊥

-- a live spawned task of coroutine o, whose result goes to another gather than g
pub record TaskFor (u : Store) (g o : ℕ) : Type 0 where
  pub who : ℕ
  pub low : suc who < (header u).next
  pub live : is_live (task u (suc who)).state ≡ true
  pub coroutine : (task u (suc who)).coroutine.0 ≡ o
  pub awaiter : Other g (task u (suc who)).awaiter

-- coroutine o is in use: it is not new, or has such a task
abbrev pub Busy : Store → ℕ → ℕ → CoroutineState → Type 0
Busy u g o CoroutineState.New = TaskFor u g o
Busy u g o CoroutineState.Running = Unit {0}
Busy u g o CoroutineState.Completed = Unit {0}

-- object o, so in u, is in use when gather g polls it, and raises the error
pub data Reuses (u : Store) (g o : ℕ) : Object → Error → Type 0 where
  coroutine_reused : (f : ℕ) (x : CoroutineState) → Busy u g o x → Reuses u g o (Object.Coroutine f x) Error.CoroutineReuse
  future_reused : (c : CallId) (a : Awaiter) (r : OptionValue) → Other g a → Reuses u g o (Object.ExternalFuture c (ExternalFutureState.Pending a r)) Error.FutureReuse
  gather_reused : (f n : ℕ) (a : Awaiter) (m : ℕ) → NoSlot g a → Reuses u g o (Object.GatherFuture f n (GatherState.Awaited a m)) Error.GatherReuse

-- it raises the error: it has failed with it, or is in use
pub data PollRaises (u : Store) (g o : ℕ) : Object → Error → Type 0 where
  broken : (c : CallId) (e : Error) → PollRaises u g o (Object.ExternalFuture c (ExternalFutureState.Failed e)) e
  failed : (f n : ℕ) (e : Error) → PollRaises u g o (Object.GatherFuture f n (GatherState.Failed e)) e
  reuses : (x : Object) (e : Error) → Reuses u g o x e → PollRaises u g o x e

-- such an object did not raise: a new coroutine, an external that has not failed, a gather that is awaited or completed
abbrev pub Passed : Object → Type 0
Passed Object.Unmade = ⊥
Passed (Object.Coroutine f CoroutineState.New) = Unit {0}
Passed (Object.Coroutine f CoroutineState.Running) = ⊥
Passed (Object.Coroutine f CoroutineState.Completed) = ⊥
Passed (Object.ExternalFuture c (ExternalFutureState.Pending a r)) = Unit {0}
Passed (Object.ExternalFuture c (ExternalFutureState.Resolved v)) = Unit {0}
Passed (Object.ExternalFuture c (ExternalFutureState.Failed e)) = ⊥
Passed (Object.GatherFuture f n GatherState.Pending) = ⊥
Passed (Object.GatherFuture f n (GatherState.Awaited a m)) = Unit {0}
Passed (Object.GatherFuture f n GatherState.Completed) = Unit {0}
Passed (Object.GatherFuture f n (GatherState.Failed e)) = ⊥

-- such an object has given a value: a resolved external, a completed gather
abbrev pub Settled : Object → Type 0
Settled Object.Unmade = ⊥
Settled (Object.Coroutine f x) = ⊥
Settled (Object.ExternalFuture c (ExternalFutureState.Pending a r)) = ⊥
Settled (Object.ExternalFuture c (ExternalFutureState.Resolved v)) = Unit {0}
Settled (Object.ExternalFuture c (ExternalFutureState.Failed e)) = ⊥
Settled (Object.GatherFuture f n GatherState.Pending) = ⊥
Settled (Object.GatherFuture f n (GatherState.Awaited a m)) = ⊥
Settled (Object.GatherFuture f n GatherState.Completed) = Unit {0}
Settled (Object.GatherFuture f n (GatherState.Failed e)) = ⊥

-- the item in place `at`, which no place to its left names, raises x, and none to its left has raised
pub record CommitFailed (s u : Store) (g : ℕ) (x : Error) : Type 0 where
  pub at : ℕ
  pub under : at < count_of (object s g)
  pub raises : PollRaises u g (item_at s g at) (object u (item_at s g at)) x
  pub left : (j : ℕ) → j < at → Passed (object u (item_at s g j))
  pub first : (j : ℕ) → j < at → item_at s g j ≡ item_at s g at → ⊥
  -- the session goes on
  pub on : is_ended (header u).moment ≡ false

-- ---- who came to be an awaiter

-- the awaiter is a slot of a gather that has object o among its items (or nobody)
abbrev pub ItemSlot : Store → ℕ → Awaiter → Type 0
ItemSlot s o Awaiter.Nobody = Unit {0}
ItemSlot s o (Awaiter.Task t) = ⊥
ItemSlot s o (Awaiter.GatherSlot f x) = ItemAt s f.0 o

-- external o was pending with this awaiter
abbrev pub HadAwaiter : Store → ℕ → Awaiter → Type 0
HadAwaiter s o a = (p : PendingExternal) × (as_pending (object s o) ≡ some p) × (p.awaiter ≡ a)

-- it had it, or is an item of the gather whose slot that is
abbrev pub Took : Store → ℕ → Awaiter → Type 0
Took s o a = HadAwaiter s o a ⊎ ItemSlot s o a

-- gather o was awaited, by this awaiter
abbrev pub HadOpen : Store → ℕ → Awaiter → Type 0
HadOpen s o a = (v : AwaitedGather) × (as_awaited (object s o) ≡ some v) × (v.awaiter ≡ a)

-- the awaiter is a slot of a gather that has object o among its items
abbrev pub SlotIn : Store → ℕ → Awaiter → Type 0
SlotIn s o Awaiter.Nobody = ⊥
SlotIn s o (Awaiter.Task t) = ⊥
SlotIn s o (Awaiter.GatherSlot f x) = ItemAt s f.0 o

-- it was, or it is an item of the gather whose slot that is
abbrev pub Opens : Store → ℕ → Awaiter → Type 0
Opens s o a = HadOpen s o a ⊎ SlotIn s o a

-- the awaiter is a task, and the event awaits object o
abbrev pub TookTask : Event → ℕ → Awaiter → Type 0
TookTask e o Awaiter.Nobody = ⊥
TookTask e o (Awaiter.Task t) = (says e).awaits ≡ some o
TookTask e o (Awaiter.GatherSlot f x) = ⊥

-- ---- the event

-- a task that lives after the event lived before it, with the same coroutine and awaiter; or the event has spawned it, for its coroutine, an item of its gather
pub data TaskFrom (s u : Store) (t : ℕ) : Type 0 where
  lived : t < (header s).next → is_live (task s t).state ≡ true → (task u t).coroutine.0 ≡ (task s t).coroutine.0 → (task u t).awaiter ≡ (task s t).awaiter → TaskFrom s u t
  is_new : (header s).next ≤ t → ((b : Option ℕ) → spawned_by b u.log t ≡ some (task u t).coroutine.0) → ItemSlot s (task u t).coroutine.0 (task u t).awaiter → TaskFrom s u t

pub record EventFails (e : Event) (s : Store) (x : Step) : Type 0 where
  pub moves : (o : ℕ) → o < (header s).made → RowMoves (object s o) (object x.store o)
  pub awaited : (g f n : ℕ) (y : Error) (w : AwaitedGather) → g < (header s).made → as_awaited (object s g) ≡ some w → object x.store g ≡ Object.GatherFuture f n (GatherState.Failed y)
      → FailedBy e s x.store g y
  pub pending : (g f n h k : ℕ) (y : Error) → g < (header s).made → object s g ≡ Object.GatherFuture f n GatherState.Pending → object x.store g ≡ Object.GatherFuture h k (GatherState.Failed y)
      → CommitFailed s x.store g y
  -- only an await commits
  pub committing : (g f n h k : ℕ) (y : Error) → g < (header s).made → object s g ≡ Object.GatherFuture f n GatherState.Pending → object x.store g ≡ Object.GatherFuture h k (GatherState.Failed y)
      → is_none (says e).awaits ≡ false
  -- a pending external took its awaiter from a gather that has it among its items, or the event awaits it; or it had it
  pub takes : (o : ℕ) (r : PendingExternal) → as_pending (object x.store o) ≡ some r → Took s o r.awaiter ⊎ TookTask e o r.awaiter
  -- an awaited gather likewise
  pub opens : (o : ℕ) (v : AwaitedGather) → as_awaited (object x.store o) ≡ some v → Opens s o v.awaiter ⊎ TookTask e o v.awaiter
  -- who is unstarted was, or is new; a task exits that ends with the event, or that was unstarted; who is spawned is new
  pub grows : (header s).next ≤ (header x.store).next
  pub tasks : (t : ℕ) → t < (header x.store).next → is_live (task x.store t).state ≡ true → TaskFrom s x.store t
  pub unstarted : (t : ℕ) → t < (header x.store).next → is_unstarted (task x.store t).state ≡ true → ((header s).next ≤ t) ⊎ (is_unstarted (task s t).state ≡ true)
  pub exits : (t : ℕ) → exits_in x.store.log t ≡ true → ExitAs s (RunnerEnds e s) x.store t
  pub spawned : (t : ℕ) (b : Option ℕ) → t < (header s).next → spawned_by b x.store.log t ≡ spawned_by b s.log t
  -- who has control lives and has started
  pub low : (t : ℕ) (h : How) → (tells x.answer).control ≡ some (runs t h) → t < (header x.store).next
  pub started : (t : ℕ) (h : How) → (tells x.answer).control ≡ some (runs t h) → is_unstarted (task x.store t).state ≡ false
  pub alive : (t : ℕ) (h : How) → (tells x.answer).control ≡ some (runs t h) → is_live (task x.store t).state ≡ true
  pub starts : (t c f : ℕ) → (tells x.answer).control ≡ some (runs t (start c f)) → object x.store c ≡ Object.Coroutine f CoroutineState.Running
