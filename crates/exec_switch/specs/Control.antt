-- Who has control, as the code answers it.
use Rattle.std.specs.Prelude.{ℕ, ◌<◌, List, None, Some}
use Rattle.std.proofs.Math.Option.{Option, none, some}
use Rattle.std.specs.Prelude as rust
use Rattle.asyncio.specs.Limits.{task_limit}
use Rattle.asyncio.specs.declared.Moment.{Moment}
use Rattle.asyncio.specs.declared.Header.{Header}
use Rattle.rows.specs.Tables.{header_at, header_put}
use Rattle.queue.specs.declared.ReadyQueue.{ReadyQueue}
use Rattle.machine.specs.Store.{Store, LogEntry}
use Rattle.machine.specs.Scheduler.{pending_calls_in}
use Rattle.machine.specs.Events as machine
use Rattle.contract.specs.Contract.{Slice, kept, DoesKeepingPlaces, DoesKeepingLogAt, DoesOfObjects, LentQueue}
use Rattle.scheduler.specs.Search.{FoundTask}
use Rattle.exec_switch.specs.declared.control.How.{How}
use Rattle.exec_switch.specs.declared.control.Control.{Control}

-- the objects' words with another moment
unfoldable pub moment_put : List ℕ → Moment → List ℕ
moment_put os m =
    let h : Header = header_at os in
    header_put os (record { made = h.made; used = h.used; calls = h.calls; next = h.next; moment = m })

-- how a task goes on
abbrev pub how_of : How → machine.How
how_of (How.Start c f) = machine.start c.0 f
how_of (How.Value v) = machine.value v
how_of (How.Raised e) = machine.raises e
how_of (How.Inline c) = machine.inline c.0

-- who has control: a wait with these calls
abbrev pub control_with : List ℕ → Control → machine.Control
control_with cs (Control.Runs t h) = machine.runs t.0 (how_of h)
control_with cs Control.Waits = machine.waits cs

-- a wait's calls are those pending in the store
abbrev pub control_of : List ℕ → Control → machine.Control
control_of os c = control_with (pending_calls_in os) c

-- a store, and who has control
abbrev pub switched_of : Store → Control → machine.Switched
switched_of s c = record { store = s; control = control_of s.objects c }

-- a store, who has control, and the commit steps
abbrev pub awaited_of : Store → Control → ℕ → machine.Awaited
awaited_of s c n = record { store = s; control = control_of s.objects c; steps = n }

-- the function of a new coroutine, or none
abbrev pub NewFunction : Type 0
NewFunction = rust.Option ℕ

-- the function of a new coroutine
abbrev pub function_of : Option ℕ → NewFunction
function_of none = None
function_of (some f) = Some f

-- a task that was found has a number in range
abbrev pub FoundFits : FoundTask → Type 0
FoundFits (Some t) = t.0 < task_limit
FoundFits None = Unit {0}

-- ---- what a call does

-- The call gives control to whom f gives it, with a lent queue, and does not take the places.
abbrev pub SwitchesKeepingPlaces : Slice → Slice → LentQueue → (Store → machine.Switched) → Control → Type 0
SwitchesKeepingPlaces tasks objects queue f r =
    DoesKeepingPlaces (λ x. x.store.log) tasks objects queue.entry.now queue.exit.now (λ s. switched_of s r) f

-- The same of a call that takes no queue, and logs nothing.
abbrev pub SwitchesKeepingLog : Slice → Slice → (Store → machine.Switched) → Control → Type 0
SwitchesKeepingLog tasks objects f r =
    (ps : List ℕ) (q : ReadyQueue) (l : List LogEntry) → DoesKeepingLogAt l tasks objects (kept ps) q q (λ s. switched_of s r) f

-- and does not take the tasks either
abbrev pub SwitchesOfObjects : Slice → (Store → machine.Switched) → Control → Type 0
SwitchesOfObjects objects f r = DoesOfObjects objects (λ s. switched_of s r) f
