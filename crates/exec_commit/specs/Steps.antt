-- Where a walk through a gather's items stands, as the machine has it.
use Rattle.std.specs.Prelude.{◌≡◌, ℕ, ◌-◌, List, None, Some}
use Rattle.std.specs.Prelude as rust
use Rattle.queue.specs.declared.ReadyQueue.{ReadyQueue}
use Rattle.machine.specs.Store.{Store, LogEntry, store_of, object}
use Rattle.machine.specs.Scheduler.{as_awaited}
use Rattle.machine.specs.Commit.{at_end, at_nested, at_error, step_item, step_items, Frame}
use Rattle.machine.specs.Commit as machine
use Rattle.contract.specs.Contract.{Slice, kept, before, after, Does, LentQueue}
use Rattle.exec_commit.specs.declared.step.Stop.{Stop}

-- where a walk stops after an item, if it does
abbrev pub ItemStop : Type 0
ItemStop = rust.Option Stop

-- how a walk goes on with a store
abbrev pub Goes : Type 0
Goes = Store → machine.Stop

-- where a walk stopped
unfoldable pub stopped : Store → Stop → machine.Stop
stopped s Stop.End = at_end s
stopped s (Stop.Nested i o) = at_nested s i o.0
stopped s (Stop.Raised e) = at_error s e

-- after an item: `go` on with the store, or stopped there
unfoldable pub stepped : Store → ItemStop → Goes → machine.Stop
stepped s None go = go s
stepped s (Some x) go = stopped s x

-- the machine's item in place i of gather g, then `go` on
abbrev pub step_at : Store → ℕ → ℕ → Goes → machine.Stop
step_at s g i go = step_item g i s (as_awaited (object s g)) go

-- what has happened where a walk stopped
abbrev pub stop_log : machine.Stop → List LogEntry
stop_log (at_end s) = s.log
stop_log (at_nested s i o) = s.log
stop_log (at_error s e) = s.log

-- a walk that began as M goes on from place i of gather g, which has n places: for what had happened then there is what has happened now
pub record WalksOn (M : List LogEntry → machine.Stop) (ts os ps : List ℕ) (q : ReadyQueue) (g i n : ℕ) : Type 0 where
  pub log : List LogEntry → List LogEntry
  pub walks_on : (l : List LogEntry) → step_items (n - i) (store_of ts os ps q (log l)) g i ≡ M l

-- a gather, and its place that is stepped next
abbrev pub frame : ℕ → ℕ → Frame
frame g i = record { gather = g; next = i }

-- ---- what a call does

-- The call puts what an item gave, as f does, however the walk goes on.
abbrev pub StepsPlace : Slice → Slice → (Store → Goes → machine.Stop) → ItemStop → Type 0
StepsPlace objects places f r =
    (ts : List ℕ) (q : ReadyQueue) (l : List LogEntry) (go : Goes) →
    stepped (after (kept ts) objects places q l) r go ≡ f (before (kept ts) objects places q l) go

-- The call steps an item, as f does, with a lent queue. What has happened does not hang on how the walk goes on.
abbrev pub StepsTo : Slice → Slice → Slice → LentQueue → (Store → Goes → machine.Stop) → ItemStop → Type 0
StepsTo tasks objects places queue f r =
    (l : List LogEntry) (go : Goes) →
    stepped (after tasks objects places queue.exit.now (stop_log (f (before tasks objects places queue.entry.now l) at_end))) r go
    ≡ f (before tasks objects places queue.entry.now l) go

-- The call walks through the items of a gather and stops, as f does.
abbrev pub StopsAt : Slice → Slice → Slice → LentQueue → (Store → machine.Stop) → Stop → Type 0
StopsAt tasks objects places queue f r = Does stop_log tasks objects places queue.entry.now queue.exit.now (λ s. stopped s r) f
