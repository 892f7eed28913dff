-- What a call of delivery does: it gives the task that it woke, whom the caller puts at the queue's back.
use Rattle.std.specs.Prelude.{ℕ, List, None, Some}
use Rattle.queue.specs.Queue.{push_back}
use Rattle.queue.specs.declared.ReadyQueue.{ReadyQueue}
use Rattle.scheduler.specs.Search.{FoundTask}
use Rattle.machine.specs.Store.{Store, LogEntry}
use Rattle.machine.specs.Delivery.{Delivery}
use Rattle.contract.specs.Contract.{Slice, kept, DoesAt, Does, DoesKeepingPlaces, Changes, ChangesKeepingPlaces}
use Rattle.exec_fill.specs.Delivered.{delivered}

-- a queue with the task that was woken at its back
abbrev pub queued : ReadyQueue → FoundTask → ReadyQueue
queued q (Some t) = push_back q t.0
queued q None = q

-- The call delivers, as f does, whatever the queue is: it woke r.
abbrev pub Delivers : Slice → Slice → Slice → (Store → Delivery) → FoundTask → Type 0
Delivers tasks objects places f r =
    (q : ReadyQueue) → Does (λ x. x.store.log) tasks objects places q (queued q r) (λ s. delivered s r) f

-- The same of a call that does not take the places.
abbrev pub DeliversKeepingPlaces : Slice → Slice → (Store → Delivery) → FoundTask → Type 0
DeliversKeepingPlaces tasks objects f r =
    (q : ReadyQueue) → DoesKeepingPlaces (λ x. x.store.log) tasks objects q (queued q r) (λ s. delivered s r) f

-- The same of a call that takes the tasks alone.
abbrev pub DeliversOfTasks : Slice → (Store → Delivery) → FoundTask → Type 0
DeliversOfTasks tasks f r =
    (q : ReadyQueue) (os ps : List ℕ) (l : List LogEntry) →
    DoesAt l (λ x. x.store.log) tasks (kept os) (kept ps) q (queued q r) (λ s. delivered s r) f

-- The same where the machine gives a store alone.
abbrev pub Wakes : Slice → Slice → Slice → (Store → Store) → FoundTask → Type 0
Wakes tasks objects places f r = (q : ReadyQueue) → Changes tasks objects places q (queued q r) f

-- and does not take the places
abbrev pub WakesKeepingPlaces : Slice → Slice → (Store → Store) → FoundTask → Type 0
WakesKeepingPlaces tasks objects f r = (q : ReadyQueue) → ChangesKeepingPlaces tasks objects q (queued q r) f
