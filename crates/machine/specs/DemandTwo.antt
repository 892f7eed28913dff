-- Demand 2 over whole sessions: what show gives of a gather is the documentation's `gather` (Gather.antt) of its items and of what these came to, in the order
-- of the session. Items and outcomes are read off the history and the answers of show (History: items, outcome); nothing here speaks of the store's rows.
-- An accepted batch of results is taken result by result, in its order (Singles.antt): that is the order in which its items arrive. The session goes on as it was
-- sent.
use Rattle.std.specs.Prelude.{ℕ, ◌<◌, ◌≡◌, Bool, true, false, List, [], ◌∷◌, ◌++◌, ◌⊎◌, length, get_or}
use Rattle.std.proofs.Math.Option.{Option, none, some}
use Rattle.asyncio.specs.declared.Value.{Value}
use Rattle.asyncio.specs.declared.Error.{Error}
use Rattle.asyncio.specs.declared.CoroutineState.{CoroutineState}
use Rattle.machine.specs.Tests.{is_in}
use Rattle.machine.specs.Machine.{Shown}
use Rattle.machine.specs.Gather.{Outcome, returned, raised, Arrival, Gathered, waiting, listed, propagated, gather}
use Rattle.machine.specs.History.{outcome, error_of, items, lives, spawned_for, awaited_before}
use Rattle.machine.specs.Sessions.{Sent, Session, begun, send, session, AllSentInRange}
use Rattle.machine.specs.Singles.{cut}
use Rattle.machine.specs.DemandThree.{look}
use Rattle.machine.specs.Honest.{named}

-- what object o has come to after a session
unfoldable pub came : Session → ℕ → Option (Outcome Value Error)
came x o = outcome x.history (look x.store) o

-- is it a gather that was committed?
unfoldable pub committed : Shown → Bool
committed (Shown.a_coroutine x f) = false
committed Shown.an_external_pending = false
committed (Shown.an_external_resolved v) = false
committed (Shown.an_external_failed e) = false
committed Shown.a_gather_pending = false
committed (Shown.a_gather_awaited vs) = true
committed (Shown.a_gather_completed vs) = true
committed (Shown.a_gather_failed e) = true
committed Shown.nothing = false

-- the values of places
unfoldable pub values : List (Option Value) → List Value
values [] = []
values (none ∷ vs) = values vs
values (some v ∷ vs) = v ∷ values vs

-- what is shown of a committed gather, as the documentation's waiting task sees it: nothing yet, the list, or an exception
unfoldable pub seen : Shown → Gathered Value Error
seen (Shown.a_coroutine x f) = waiting
seen Shown.an_external_pending = waiting
seen (Shown.an_external_resolved v) = waiting
seen (Shown.an_external_failed e) = waiting
seen Shown.a_gather_pending = waiting
seen (Shown.a_gather_awaited vs) = waiting
seen (Shown.a_gather_completed vs) = listed (values vs)
seen (Shown.a_gather_failed e) = propagated e
seen Shown.nothing = waiting

-- ---- the arrivals at a gather

-- an item that has come to something now, and had not before
unfoldable pub arrives : Option (Outcome Value Error) → Option (Outcome Value Error) → ℕ → List (Arrival Value Error) → List (Arrival Value Error)
arrives none none o xs = xs
arrives none (some y) o xs = record { awaitable = o; outcome = y } ∷ xs
arrives (some z) y o xs = xs

-- of these items, from left to right
unfoldable pub arrivals_of : (ℕ → Option (Outcome Value Error)) → (ℕ → Option (Outcome Value Error)) → List ℕ → List (Arrival Value Error)
arrivals_of was now [] = []
arrivals_of was now (o ∷ os) = arrives (was o) (now o) o (arrivals_of was now os)

-- does it raise coroutine-reuse?
unfoldable pub is_late : Outcome Value Error → Bool
is_late (returned v) = false
is_late (raised (Error.Host n)) = false
is_late (raised (Error.Script n)) = false
is_late (raised Error.CoroutineReuse) = true
is_late (raised Error.FutureReuse) = false
is_late (raised Error.GatherReuse) = false
is_late (raised Error.NotFound) = false
is_late (raised Error.ModuleFile) = false

-- those that do not
unfoldable pub early : List (Arrival Value Error) → List (Arrival Value Error)
early [] = []
early (x ∷ xs) = elim (is_late x.outcome) [ true ↦ early xs | false ↦ x ∷ early xs ]

-- those that do
unfoldable pub late : List (Arrival Value Error) → List (Arrival Value Error)
late [] = []
late (x ∷ xs) = elim (is_late x.outcome) [ true ↦ x ∷ late xs | false ↦ late xs ]

-- In one event the late ones come behind. Document 01, module 5: "A task's end hands control to the waiter it woke, ahead of the queue"; so the error that a
-- task ends with has gone up (module 3: "failure marks each awaited gather failed and climbs") before another one "whose coroutine is no longer new when it
-- first runs fails with coroutine-reuse".
unfoldable pub in_turn : List (Arrival Value Error) → List (Arrival Value Error)
in_turn xs = early xs ++ late xs

-- In one event, which leads from session x to session y: at its own commit all items that are done arrive, from left to right (items are stepped left to
-- right); later those that come to something in the event.
unfoldable pub arrivals_by : Bool → Bool → Session → Session → List ℕ → List (Arrival Value Error)
arrivals_by true b x y os = in_turn (arrivals_of (came x) (came y) os)
arrivals_by false true x y os = arrivals_of (λ o. none) (came y) os
arrivals_by false false x y os = []

-- at gather g
unfoldable pub arrivals_in : Session → Session → ℕ → List (Arrival Value Error)
arrivals_in x y g = arrivals_by (committed (look x.store g)) (committed (look y.store g)) x y (items y.history g)

-- in these events, sent one after the other, the first to session x
unfoldable pub arrivals_along : Session → List Sent → ℕ → List (Arrival Value Error)
arrivals_along x [] g = []
arrivals_along x (e ∷ es) g = let y : Session = send x e in arrivals_in x y g ++ arrivals_along y es g

-- In the order of the session: those of an accepted batch result by result, as if they were sent so; the next event comes behind the batch as it was sent.
unfoldable pub arrivals_from : Session → List Sent → ℕ → List (Arrival Value Error)
arrivals_from x [] g = []
arrivals_from x (e ∷ es) g = arrivals_along x (cut x.store e) g ++ arrivals_from (send x e) es g

-- ---- the claim

-- another gather than g, which was committed, has object o among its items
pub record Elsewhere (y : Session) (g o : ℕ) : Type 0 where
  pub user : ℕ
  pub other : user ≡ g → ⊥
  pub was_committed : committed (look y.store user) ≡ true
  pub among : is_in o (items y.history user) ≡ true

-- Who uses item o of gather g, by what is shown of it, and the error for that: an answer has started the coroutine, or it has a live task, and another gather has
-- it; a task has awaited the pending external, or the awaited gather, or another gather has it.
pub data InUse (y : Session) (g o : ℕ) : Shown → Error → Type 0 where
  is_running : (f : ℕ) → named y.history o ≡ true → InUse y g o (Shown.a_coroutine CoroutineState.Running f) Error.CoroutineReuse
  is_completed : (f : ℕ) → named y.history o ≡ true → InUse y g o (Shown.a_coroutine CoroutineState.Completed f) Error.CoroutineReuse
  has_task : (f t : ℕ) → lives y.history t ≡ true → spawned_for y.history t ≡ some o → Elsewhere y g o
      → InUse y g o (Shown.a_coroutine CoroutineState.New f) Error.CoroutineReuse
  is_pending : (awaited_before y.history o ≡ true) ⊎ Elsewhere y g o → InUse y g o Shown.an_external_pending Error.FutureReuse
  is_awaited : (vs : List (Option Value)) → (awaited_before y.history o ≡ true) ⊎ Elsewhere y g o → InUse y g o (Shown.a_gather_awaited vs) Error.GatherReuse

-- The exception (document 01, module 4): a commit that meets an item in use fails with the reuse error of that item. The items left of it have raised nothing,
-- and are other objects ("An item already open gets another place").
pub record ReuseAt (y : Session) (g : ℕ) (e : Error) : Type 0 where
  pub at : ℕ
  pub within : at < length (items y.history g)
  pub left : (b : ℕ) → b < at → error_of (came y (get_or (items y.history g) b 0)) ≡ none
  pub first : (b : ℕ) → b < at → get_or (items y.history g) b 0 ≡ get_or (items y.history g) at 0 → ⊥
  pub in_use : InUse y g (get_or (items y.history g) at 0) (look y.store (get_or (items y.history g) at 0)) e

-- a gather that failed so, some events ago, in its own commit
pub record Reused (es : List Sent) (g : ℕ) (e : Error) : Type 0 where
  pub before : List Sent
  pub commit : Sent
  pub after : List Sent
  pub parts : es ≡ before ++ (commit ∷ after)
  pub uncommitted : committed (look (session before).store g) ≡ false
  pub failed : look (send (session before) commit).store g ≡ Shown.a_gather_failed e
  pub reuse : ReuseAt (send (session before) commit) g e

-- What show gives of gather g after the events es.
abbrev pub GatherRight : List Sent → ℕ → Type 0
GatherRight es g =
    (seen (look (session es).store g) ≡ gather (items (session es).history g) (arrivals_from begun es g))
    ⊎ ((e : Error) × (look (session es).store g ≡ Shown.a_gather_failed e) × Reused es g e)

-- For every list of events, with any batches, refused ones included, and every gather that was committed.
abbrev pub DemandTwo : Type 0
DemandTwo = (es : List Sent) → AllSentInRange es → (g : ℕ) → committed (look (session es).store g) ≡ true → GatherRight es g
