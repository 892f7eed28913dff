-- What a contract says of lent memory, once for every function: what the call leaves and returns is what a definition of the machine gives.
-- All of it is `abbrev`: a contract in a form is the same statement as the equation written out.
use Rattle.std.specs.Prelude.{◌≡◌, List, ℕ, length}
use Rattle.std.proofs.Common.{sym, subst}
use denote.Triple.Both.{Both}
use denote.MutBor.{MutBor}
use Rattle.asyncio.specs.Limits.{tasks_length, objects_length, places_length}
use Rattle.queue.specs.declared.ReadyQueue.{ReadyQueue}
use Rattle.machine.specs.Store.{Store, LogEntry, store_of}

-- ---- a lent slice

-- its words, in a `requires` or where the call only reads them
abbrev pub Words : Type 0
Words = List ℕ

-- one that the call may change, in an `ensures`: `.entry` before the call, `.exit` after it
abbrev pub Slice : Type 0
Slice = Both (MutBor Words) (MutBor Words)

-- one that the call only reads or does not take, and so leaves
abbrev pub kept : {A : Type 0} → A → Both (MutBor A) (MutBor A)
kept {A} ws = let x : MutBor A = record { ref_ptr = (0, 0); ghost_name = 0; now = ws } in record { entry = x; exit = x }

-- ---- a lent queue, which the call may change, in an `ensures`

abbrev pub LentQueue : Type 0
LentQueue = Both (MutBor ReadyQueue) (MutBor ReadyQueue)

-- a number that the call may change
abbrev pub Count : Type 0
Count = Both (MutBor ℕ) (MutBor ℕ)

-- ---- what a call asks: the slices have document 01's lengths

-- the tasks, as a call asks it of them alone
abbrev pub TasksLength : Words → Type 0
TasksLength tasks = length tasks ≡ tasks_length

-- the objects
abbrev pub ObjectsLength : Words → Type 0
ObjectsLength objects = length objects ≡ objects_length

-- the places
abbrev pub PlacesLength : Words → Type 0
PlacesLength places = length places ≡ places_length

-- tasks and objects
abbrev pub Lengths₂ : Words → Words → Type 0
Lengths₂ tasks objects = TasksLength tasks × ObjectsLength objects

-- all three
abbrev pub Lengths : Words → Words → Words → Type 0
Lengths tasks objects places = TasksLength tasks × ObjectsLength objects × PlacesLength places

-- and what else it asks
abbrev pub TasksLengthAnd : Words → Type 0 → Type 0
TasksLengthAnd tasks more = TasksLength tasks × more

abbrev pub ObjectsLengthAnd : Words → Type 0 → Type 0
ObjectsLengthAnd objects more = ObjectsLength objects × more

abbrev pub PlacesLengthAnd : Words → Type 0 → Type 0
PlacesLengthAnd places more = PlacesLength places × more

abbrev pub Lengths₂And : Words → Words → Type 0 → Type 0
Lengths₂And tasks objects more = TasksLength tasks × ObjectsLength objects × more

abbrev pub LengthsAnd : Words → Words → Words → Type 0 → Type 0
LengthsAnd tasks objects places more = TasksLength tasks × ObjectsLength objects × PlacesLength places × more

-- and what two things else (a product is flat, so that each has its own place)
abbrev pub Lengths₂And₂ : Words → Words → Type 0 → Type 0 → Type 0
Lengths₂And₂ tasks objects more also = TasksLength tasks × ObjectsLength objects × more × also

abbrev pub LengthsAnd₂ : Words → Words → Words → Type 0 → Type 0 → Type 0
LengthsAnd₂ tasks objects places more also = TasksLength tasks × ObjectsLength objects × PlacesLength places × more × also

-- ---- what a call does

-- the store before the call; the log l is no part of the memory
abbrev pub before : Slice → Slice → Slice → ReadyQueue → List LogEntry → Store
before tasks objects places queue l = store_of tasks.entry.now objects.entry.now places.entry.now queue l

-- the store after the call
abbrev pub after : Slice → Slice → Slice → ReadyQueue → List LogEntry → Store
after tasks objects places queue l = store_of tasks.exit.now objects.exit.now places.exit.now queue l

-- The call does what f does of the store before it, with the log l: `result` makes the machine's result of the store after it, whose log is f's own.
abbrev pub DoesAt : {X : Type 0} → List LogEntry → (X → List LogEntry) → Slice → Slice → Slice → ReadyQueue → ReadyQueue → (Store → X) → (Store → X) → Type 0
DoesAt l log tasks objects places queue left result f =
    result (after tasks objects places left (log (f (before tasks objects places queue l)))) ≡ f (before tasks objects places queue l)

-- with every log
abbrev pub Does : {X : Type 0} → (X → List LogEntry) → Slice → Slice → Slice → ReadyQueue → ReadyQueue → (Store → X) → (Store → X) → Type 0
Does log tasks objects places queue left result f = (l : List LogEntry) → DoesAt l log tasks objects places queue left result f

-- and whatever the places are, which the call does not take
abbrev pub DoesKeepingPlaces : {X : Type 0} → (X → List LogEntry) → Slice → Slice → ReadyQueue → ReadyQueue → (Store → X) → (Store → X) → Type 0
DoesKeepingPlaces log tasks objects queue left result f =
    (ps : List ℕ) (l : List LogEntry) → length ps ≡ places_length → DoesAt l log tasks objects (kept ps) queue left result f

-- without the places, and whatever they are
abbrev pub DoesOfTasksAndObjects : {X : Type 0} → (X → List LogEntry) → Slice → Slice → ReadyQueue → ReadyQueue → (Store → X) → (Store → X) → Type 0
DoesOfTasksAndObjects log tasks objects queue left result f =
    (ps : List ℕ) (l : List LogEntry) → DoesAt l log tasks objects (kept ps) queue left result f

-- where the machine gives a store alone
abbrev pub Changes : Slice → Slice → Slice → ReadyQueue → ReadyQueue → (Store → Store) → Type 0
Changes tasks objects places queue left f = Does (λ s. s.log) tasks objects places queue left (λ s. s) f

abbrev pub ChangesKeepingPlaces : Slice → Slice → ReadyQueue → ReadyQueue → (Store → Store) → Type 0
ChangesKeepingPlaces tasks objects queue left f = DoesKeepingPlaces (λ s. s.log) tasks objects queue left (λ s. s) f

-- ---- what a call does that logs nothing, and takes some of the slices: the rest of the store, whatever it is, stays

-- The call does what f does of the store before it, and the log l stays: `result` makes the machine's result of the store after it.
abbrev pub DoesKeepingLogAt : {X : Type 0} → List LogEntry → Slice → Slice → Slice → ReadyQueue → ReadyQueue → (Store → X) → (Store → X) → Type 0
DoesKeepingLogAt l tasks objects places queue left result f = result (after tasks objects places left l) ≡ f (before tasks objects places queue l)

-- of the objects alone
abbrev pub DoesOfObjects : {X : Type 0} → Slice → (Store → X) → (Store → X) → Type 0
DoesOfObjects objects result f =
    (ts ps : List ℕ) (q : ReadyQueue) (l : List LogEntry) → DoesKeepingLogAt l (kept ts) objects (kept ps) q q result f

-- of the objects and the places
abbrev pub DoesOfObjectsAndPlaces : {X : Type 0} → Slice → Slice → (Store → X) → (Store → X) → Type 0
DoesOfObjectsAndPlaces objects places result f =
    (ts : List ℕ) (q : ReadyQueue) (l : List LogEntry) → DoesKeepingLogAt l (kept ts) objects places q q result f

-- where the machine gives a store alone
abbrev pub ChangesObjects : Slice → (Store → Store) → Type 0
ChangesObjects objects f = DoesOfObjects objects (λ s. s) f

abbrev pub ChangesObjectsAndPlaces : Slice → Slice → (Store → Store) → Type 0
ChangesObjectsAndPlaces objects places f = DoesOfObjectsAndPlaces objects places (λ s. s) f

abbrev pub ChangesPlaces : Slice → (Store → Store) → Type 0
ChangesPlaces places f =
    (ts os : List ℕ) (q : ReadyQueue) (l : List LogEntry) → DoesKeepingLogAt l (kept ts) (kept os) places q q (λ s. s) f

-- of the tasks and the queue
abbrev pub ChangesTasks : Slice → ReadyQueue → ReadyQueue → (Store → Store) → Type 0
ChangesTasks tasks queue left f =
    (os ps : List ℕ) (l : List LogEntry) → DoesKeepingLogAt l tasks (kept os) (kept ps) queue left (λ s. s) f

-- ---- what a call reads: r is what f reads of the store, whatever the rest of it is

-- of the objects
abbrev pub ReadsObjects : {X : Type 0} → Words → (Store → X) → X → Type 0
ReadsObjects objects f r = (ts ps : List ℕ) (q : ReadyQueue) (l : List LogEntry) → r ≡ f (store_of ts objects ps q l)

-- of the objects and the queue
abbrev pub ReadsObjectsAndQueue : {X : Type 0} → Words → ReadyQueue → (Store → X) → X → Type 0
ReadsObjectsAndQueue objects queue f r = (ts ps : List ℕ) (l : List LogEntry) → r ≡ f (store_of ts objects ps queue l)

-- ---- what holds of every log

-- what is built with its own log equals y; so it equals x, where x is y
pub same_log : {X : Type 0} {x y : X} (log : X → List LogEntry) (result : List LogEntry → X) → x ≡ y → result (log y) ≡ y → result (log x) ≡ x
same_log log result e r = subst (λ z. result (log z) ≡ z) (sym e) r

-- of a store
pub same_store : {x y : Store} → x ≡ y → {ts os ps : List ℕ} {q : ReadyQueue} → store_of ts os ps q y.log ≡ y → store_of ts os ps q x.log ≡ x
same_store e {ts} {os} {ps} {q} r = same_log (λ s. s.log) (λ l. store_of ts os ps q l) e r
