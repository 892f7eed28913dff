-- cancel's walk as the code has it: a table of the coroutines' tasks, marks, and a stack of gathers with its depth.
use Rattle.std.specs.Prelude.{◌≡◌, Bool, List, [], ◌∷◌, ℕ, zero, suc, ◌+◌, ◌≤◌, eqb, get_or, set}
use Rattle.std.proofs.Math.Option.{Option, none, some}
use denote.Triple.Both.{Both}
use denote.MutBor.{MutBor}
use Rattle.asyncio.specs.Limits.{object_limit}
use Rattle.asyncio.specs.States.{pick, is_live}
use Rattle.asyncio.specs.Numbers.{to_task_id, to_heap_id}
use Rattle.asyncio.specs.declared.Awaiter.{Awaiter}
use Rattle.rows.specs.Tables.{task_at}
use Rattle.queue.specs.declared.ReadyQueue.{ReadyQueue}
use Rattle.machine.specs.Store.{LogEntry, store_of}
use Rattle.machine.specs.Scheduler.{AwaitedGather, Walk}
use Rattle.machine_laws.specs.Statements.{unmarked}
use Rattle.contract.specs.Contract.{Slice, LentQueue, kept}
use Rattle.scheduler_cancel.specs.declared.cancel.Walk as code

-- ---- the table of the coroutines' tasks: one word for each object

-- the task that a word names: main drives nothing, so that its number says that there is none
unfoldable pub named : ℕ → Option ℕ
named n = pick (eqb (to_task_id n).0 0) none (some (to_task_id n).0)

-- the task of each object, by the table
unfoldable pub tasks_of_in : List ℕ → ℕ → Option ℕ
tasks_of_in ds c = named (get_or ds c 0)

-- task t noted at its coroutine, if it lives
unfoldable pub put_task_of : List ℕ → ℕ → List ℕ → List ℕ
put_task_of ts t ds = pick (is_live (task_at ts t).state) (set ds (task_at ts t).coroutine.0 t) ds

-- ---- the walk

-- the gathers on a stack of that depth, the top first
unfoldable pub below : List ℕ → ℕ → List ℕ
below gs zero = []
below gs (suc d) = (to_heap_id (get_or gs d 0)).0 ∷ below gs d

-- the queue, and how many gathers are on the stack
pub record Walked : Type 0 where
  pub queue : ReadyQueue
  pub depth : ℕ

abbrev pub walked : ReadyQueue → ℕ → Walked
walked q d = record { queue = q; depth = d }

-- the walk with the table ds over the lent slices, with marks ms and stack gs
abbrev pub walk_of : List ℕ → List ℕ → List ℕ → List ℕ → Walked → List LogEntry → List Bool → List ℕ → Walk
walk_of ds ts os ps w l ms gs =
    record { store = store_of ts os ps w.queue l; tasks_of = λ c. tasks_of_in ds c; marks = ms; stack = below gs w.depth }

-- what the code has is the walk x; the log is x's own
pub record Shows (ds ts os ps : List ℕ) (w : Walked) (ms : List Bool) (gs : List ℕ) (x : Walk) : Type 0 where
  pub shows : walk_of ds ts os ps w x.store.log ms gs ≡ x

-- an awaited gather of the n places from i on
abbrev pub awaited_places : ℕ → ℕ → Awaiter → ℕ → AwaitedGather
awaited_places i n a m = record { first = i; count = n; awaiter = a; open_places = m }

-- ---- what a call of the walk asks, and what it does

-- a stack of that depth has room for every gather that is not marked
abbrev pub HasRoom : List Bool → ℕ → Type 0
HasRoom marks depth = unmarked marks + depth ≤ object_limit

-- a walk that the call may change, in an `ensures`
abbrev pub LentWalk : Type 0
LentWalk = Both (MutBor code.Walk) (MutBor code.Walk)

-- the call leaves the table as it is
abbrev pub KeepsTable : LentWalk → Type 0
KeepsTable walk = walk.exit.now.table ≡ walk.entry.now.table

-- The call does what f does of the walk before it, with the log l.
abbrev pub WalksAt : List LogEntry → LentWalk → Slice → Slice → Slice → LentQueue → (Walk → Walk) → Type 0
WalksAt l walk tasks objects places queue f =
    Shows walk.entry.now.table tasks.exit.now objects.entry.now places.entry.now (walked queue.exit.now walk.exit.now.depth) walk.exit.now.marks walk.exit.now.stack
    (f (walk_of walk.entry.now.table tasks.entry.now objects.entry.now places.entry.now (walked queue.entry.now walk.entry.now.depth) l walk.entry.now.marks walk.entry.now.stack))

-- with every log
abbrev pub Walks : LentWalk → Slice → Slice → Slice → LentQueue → (Walk → Walk) → Type 0
Walks walk tasks objects places queue f = (l : List LogEntry) → WalksAt l walk tasks objects places queue f

-- and whatever the places are
abbrev pub WalksKeepingPlaces : LentWalk → Slice → Slice → LentQueue → (Walk → Walk) → Type 0
WalksKeepingPlaces walk tasks objects queue f =
    (ps : List ℕ) (l : List LogEntry) → WalksAt l walk tasks objects (kept ps) queue f

-- The same of a call that takes neither tasks nor queue: it logs nothing.
abbrev pub Reaches : LentWalk → Slice → (Walk → Walk) → Type 0
Reaches walk objects f =
    (ts ps : List ℕ) (q : ReadyQueue) (l : List LogEntry) →
    walk_of walk.entry.now.table ts objects.entry.now ps (walked q walk.exit.now.depth) l walk.exit.now.marks walk.exit.now.stack
    ≡ f (walk_of walk.entry.now.table ts objects.entry.now ps (walked q walk.entry.now.depth) l walk.entry.now.marks walk.entry.now.stack)
