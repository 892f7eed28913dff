-- The store of a session, and its rows. Everything above reads and writes it through these names.
use Rattle.std.specs.Prelude.{ℕ, zero, suc, ◌+◌, List, [], ◌∷◌, replicate}
use Rattle.asyncio.specs.Limits.{tasks_length, objects_length, places_length}
use Rattle.asyncio.specs.declared.TaskState.{TaskState}
use Rattle.asyncio.specs.declared.Awaiter.{Awaiter}
use Rattle.asyncio.specs.declared.Task.{Task}
use Rattle.asyncio.specs.declared.Object.{Object}
use Rattle.asyncio.specs.declared.Place.{Place}
use Rattle.asyncio.specs.declared.Moment.{Moment}
use Rattle.asyncio.specs.declared.Header.{Header}
use Rattle.asyncio.specs.Numbers.{heap_id, task_id}
use Rattle.rows.specs.Tables.{task_at, task_put, object_at, object_put, place_at, place_put, header_at, header_put}
use Rattle.queue.specs.declared.ReadyQueue.{ReadyQueue}
use Rattle.queue.specs.Queue.{empty_queue, entries}

-- What an event makes happen, in order. It is written and never read: only statements on sessions speak of it.
pub data LogEntry : Type 0 where
  spawned : ℕ → ℕ → LogEntry
  blocked : ℕ → LogEntry
  reached : ℕ → LogEntry
  exited : ℕ → LogEntry
  removed : ℕ → LogEntry

-- The three lent slices of words, the ready queue, and what has happened, the last first.
pub record Store : Type 0 where
  pub tasks : List ℕ
  pub objects : List ℕ
  pub places : List ℕ
  pub queue : ReadyQueue
  pub log : List LogEntry

-- the store of lent slices and a queue, with what has happened so far
abbrev pub store_of : List ℕ → List ℕ → List ℕ → ReadyQueue → List LogEntry → Store
store_of ts os ps q l = record { tasks = ts; objects = os; places = ps; queue = q; log = l }

-- ---- a row, and the store with a row put there

-- task t
unfoldable pub task : Store → ℕ → Task
task s t = task_at s.tasks t

-- task t put there
unfoldable pub put_task : Store → ℕ → Task → Store
put_task s t r = record { tasks = task_put s.tasks t r; objects = s.objects; places = s.places; queue = s.queue; log = s.log }

-- the counts and the moment
unfoldable pub header : Store → Header
header s = header_at s.objects

-- the header put there
unfoldable pub put_header : Store → Header → Store
put_header s h = record { tasks = s.tasks; objects = header_put s.objects h; places = s.places; queue = s.queue; log = s.log }

-- object o
unfoldable pub object : Store → ℕ → Object
object s o = object_at s.objects o

-- object o put there
unfoldable pub put_object : Store → ℕ → Object → Store
put_object s o r = record { tasks = s.tasks; objects = object_put s.objects o r; places = s.places; queue = s.queue; log = s.log }

-- place p
unfoldable pub place : Store → ℕ → Place
place s p = place_at s.places p

-- place p put there
unfoldable pub put_place : Store → ℕ → Place → Store
put_place s p r = record { tasks = s.tasks; objects = s.objects; places = place_put s.places p r; queue = s.queue; log = s.log }

-- ---- other fields

-- all the places' words
unfoldable pub put_places : Store → List ℕ → Store
put_places s ps = record { tasks = s.tasks; objects = s.objects; places = ps; queue = s.queue; log = s.log }

-- the queue
unfoldable pub put_queue : Store → ReadyQueue → Store
put_queue s q = record { tasks = s.tasks; objects = s.objects; places = s.places; queue = q; log = s.log }

-- one more log entry
unfoldable pub add_log : Store → LogEntry → Store
add_log s h = record { tasks = s.tasks; objects = s.objects; places = s.places; queue = s.queue; log = h ∷ s.log }

-- no log entry yet
unfoldable pub forget : Store → Store
forget s = record { tasks = s.tasks; objects = s.objects; places = s.places; queue = s.queue; log = [] }

-- ---- one field of a row changed

-- a task in another state
unfoldable pub restate : Task → TaskState → Task
restate r x = record { state = x; awaiter = r.awaiter; coroutine = r.coroutine }

-- a task's state
unfoldable pub set_state : Store → ℕ → TaskState → Store
set_state s t x = put_task s t (restate (task s t) x)

-- the moment
unfoldable pub set_moment : Store → Moment → Store
set_moment s m =
    let h : Header = header s in
    put_header s (record { made = h.made; used = h.used; calls = h.calls; next = h.next; moment = m })

-- the next task's number
unfoldable pub set_next : Store → ℕ → Store
set_next s n =
    let h : Header = header s in
    put_header s (record { made = h.made; used = h.used; calls = h.calls; next = n; moment = h.moment })

-- the calls handed out
unfoldable pub set_calls : Store → ℕ → Store
set_calls s n =
    let h : Header = header s in
    put_header s (record { made = h.made; used = h.used; calls = n; next = h.next; moment = h.moment })

-- an object added at the end, and n places given to it
unfoldable pub add_object : Store → Object → ℕ → Store
add_object s r n =
    let h : Header = header s in
    put_object (put_header s (record { made = h.made + 1; used = h.used + n; calls = h.calls; next = h.next; moment = h.moment }))
    h.made r

-- ---- a fresh session: main runs, nothing else exists

-- no task: never spawned, ended or removed
unfoldable pub absent : Task
absent = record { state = TaskState.Absent; awaiter = Awaiter.Nobody; coroutine = heap_id 0 }

-- all words 0, the queue empty
unfoldable pub empty : Store
empty = record { tasks = replicate tasks_length 0; objects = replicate objects_length 0; places = replicate places_length 0; queue = empty_queue; log = [] }

-- main runs
unfoldable pub fresh : Store
fresh =
    put_task (put_header empty (record { made = 0; used = 0; calls = 0; next = 1; moment = Moment.Running (task_id 0) }))
    0 (record { state = TaskState.Running; awaiter = Awaiter.Nobody; coroutine = heap_id 0 })

-- ---- what a store says, with no word of how it stands in memory: soundness and the theorems speak of views

-- A store as its tables: soundness and the theorems speak of views.
pub record View : Type 0 where
  pub tasks : ℕ → Task
  pub objects : ℕ → Object
  pub places : ℕ → Place
  pub header : Header
  pub queue : List ℕ

-- the view of a store
unfoldable pub view : Store → View
view s = record { tasks = λ t. task s t; objects = λ o. object s o; places = λ p. place s p; header = header s; queue = entries s.queue }
