-- What happened is what events and answers say. The words live and blocked (History) are folded from the log that modules 2 to 5 write; here each log entry
-- is pinned by the events and answers of the session, so that a machine cannot write what suits it. One record for the last entry of a session, one for
-- what stands after it; both hold of every list of events.
use Rattle.std.specs.Prelude.{ℕ, suc, ◌+◌, ◌≡◌, Bool, true, false, not, ◌&&◌, ◌||◌, List, [], ◌∷◌, ◌⊎◌, eqb}
use Rattle.std.proofs.Math.Option.{Option, none, some}
use Rattle.asyncio.specs.declared.Value.{Value}
use Rattle.asyncio.specs.declared.Error.{Error}
use Rattle.machine.specs.Tests.{is_in}
use Rattle.machine.specs.Store.{Store, LogEntry, spawned, blocked, reached, exited, removed}
use Rattle.machine.specs.Events.{How, start, value, raises, inline, Control, runs, waits}
use Rattle.machine.specs.Machine.{Event, Answer, Shown, step}
use Rattle.machine.specs.Gather.{Outcome, returned, raised}
use Rattle.machine.specs.History.{Entry, Making, Says, said, says, tells, is_at, is_none, items, making, lives_by, lives, blocked_by, stays_blocked, spawned_by, spawned_for, running, coroutine_of, outcome}
use Rattle.machine.specs.Sessions.{Sent, Session, entry_of, send, session, InRange, AllSentInRange, lent_any}
use Rattle.machine.specs.DemandThree.{look}

-- ---- words

-- is there a value?
unfoldable pub has_value : Option Value → Bool
has_value none = false
has_value (some v) = true

-- does the event complete or fail the running task?
unfoldable pub ends_task : Says → Bool
ends_task x = has_value x.completes || not (is_none x.fails)

-- is it task t that has control?
unfoldable pub runs_task : Option Control → ℕ → Bool
runs_task none t = false
runs_task (some (runs u h)) t = eqb u t
runs_task (some (waits cs)) t = false

-- does the answer start coroutine c, or run it inline?
unfoldable pub names_by : Option Control → ℕ → Bool
names_by none c = false
names_by (some (runs u (start d f))) c = eqb d c
names_by (some (runs u (value v))) c = false
names_by (some (runs u (raises e))) c = false
names_by (some (runs u (inline d))) c = eqb d c
names_by (some (waits cs)) c = false

-- did an answer start coroutine c, or run it inline? If not, it is new.
unfoldable pub named : List Entry → ℕ → Bool
named [] c = false
named (x ∷ h) c = names_by (tells x.answer).control c || named h c

-- is it the making of a coroutine of function f?
unfoldable pub MakesCoroutine : Option Making → ℕ → Type 0
MakesCoroutine none f = ⊥
MakesCoroutine (some m) f = m.event ≡ Event.coroutine f

-- object c stands below object o: it is an item of o, or stands below an item of o
pub data Below (h : List Entry) : ℕ → ℕ → Type 0 where
  item : (o c : ℕ) → is_in c (items h o) ≡ true → Below h o c
  deeper : (o p c : ℕ) → is_in p (items h o) ≡ true → Below h p c → Below h o c

-- how many tasks were spawned, by these log entries
unfoldable pub spawns_in : List LogEntry → ℕ
spawns_in [] = 0
spawns_in (spawned t c ∷ hs) = suc (spawns_in hs)
spawns_in (blocked t ∷ hs) = spawns_in hs
spawns_in (reached t ∷ hs) = spawns_in hs
spawns_in (exited t ∷ hs) = spawns_in hs
spawns_in (removed t ∷ hs) = spawns_in hs

-- by a history
unfoldable pub spawns : List Entry → ℕ
spawns [] = 0
spawns (x ∷ h) = spawns_in x.happened + spawns h

-- is there an entry `blocked t`? `exited t`? `removed t`?
unfoldable pub blocks_in : List LogEntry → ℕ → Bool
blocks_in [] t = false
blocks_in (spawned u c ∷ hs) t = blocks_in hs t
blocks_in (blocked u ∷ hs) t = eqb u t || blocks_in hs t
blocks_in (reached u ∷ hs) t = blocks_in hs t
blocks_in (exited u ∷ hs) t = blocks_in hs t
blocks_in (removed u ∷ hs) t = blocks_in hs t

unfoldable pub exits_in : List LogEntry → ℕ → Bool
exits_in [] t = false
exits_in (spawned u c ∷ hs) t = exits_in hs t
exits_in (blocked u ∷ hs) t = exits_in hs t
exits_in (reached u ∷ hs) t = exits_in hs t
exits_in (exited u ∷ hs) t = eqb u t || exits_in hs t
exits_in (removed u ∷ hs) t = exits_in hs t

unfoldable pub removes_in : List LogEntry → ℕ → Bool
removes_in [] t = false
removes_in (spawned u c ∷ hs) t = removes_in hs t
removes_in (blocked u ∷ hs) t = removes_in hs t
removes_in (reached u ∷ hs) t = removes_in hs t
removes_in (exited u ∷ hs) t = removes_in hs t
removes_in (removed u ∷ hs) t = eqb u t || removes_in hs t

-- the object of task t's last accepted await
unfoldable pub last_await : List Entry → ℕ → Option ℕ
last_await [] t = none
last_await (x ∷ h) t =
    elim (is_at (running h) t) [
      | true ↦ elim (said x).awaits [ none ↦ last_await h t | some o ↦ some o ]
      | false ↦ last_await h t
    ]

-- was task t left waiting by that await: did its answer give control to somebody else?
unfoldable pub left_waiting : List Entry → ℕ → Bool
left_waiting [] t = false
left_waiting (x ∷ h) t =
    elim (is_at (running h) t) [
      | true ↦ elim (said x).awaits [ none ↦ left_waiting h t | some o ↦ not (runs_task (tells x.answer).control t) ]
      | false ↦ left_waiting h t
    ]

-- is the object one that nothing has come of yet, though somebody may wait for it?
unfoldable pub shows_waiting : Shown → Bool
shows_waiting (Shown.a_coroutine x f) = false
shows_waiting Shown.an_external_pending = true
shows_waiting (Shown.an_external_resolved v) = false
shows_waiting (Shown.an_external_failed e) = false
shows_waiting Shown.a_gather_pending = false
shows_waiting (Shown.a_gather_awaited vs) = true
shows_waiting (Shown.a_gather_completed vs) = false
shows_waiting (Shown.a_gather_failed e) = false
shows_waiting Shown.nothing = false

-- of the object, if there is one
unfoldable pub waits_at : (ℕ → Shown) → Option ℕ → Bool
waits_at look none = false
waits_at look (some o) = shows_waiting (look o)

-- the errors of document 01 that an await or a commit raises by itself
unfoldable pub is_reuse : Error → Bool
is_reuse (Error.Host n) = false
is_reuse (Error.Script n) = false
is_reuse Error.CoroutineReuse = true
is_reuse Error.FutureReuse = true
is_reuse Error.GatherReuse = true
is_reuse Error.NotFound = false
is_reuse Error.ModuleFile = false

-- ---- the log of one event: x is its entry, h the history before it; hs are the log entries before the one that is spoken of

-- a task is spawned only by an await, for a new coroutine below the awaited object, which no task was spawned for before; tasks are numbered from 1 on
pub record SpawnHonest (h : List Entry) (x : Entry) (hs : List LogEntry) (t c : ℕ) : Type 0 where
  pub awaited : ℕ
  pub awaits : (said x).awaits ≡ some awaited
  pub below : Below h awaited c
  pub function : ℕ
  pub coroutine : MakesCoroutine (making h c) function
  pub new : named h c ≡ false
  pub first : (u : ℕ) → spawned_by (spawned_for h u) hs u ≡ some c → ⊥
  pub number : t ≡ suc (spawns_in hs + spawns h)

-- the running task blocks at an await that does not give control back to it
pub record BlockHonest (h : List Entry) (x : Entry) (t : ℕ) : Type 0 where
  pub awaits : is_none (said x).awaits ≡ false
  pub runner : running h ≡ some t
  pub leaves : runs_task (tells x.answer).control t ≡ false

-- a task that is reached is live and blocked then
pub record ReachHonest (h : List Entry) (hs : List LogEntry) (t : ℕ) : Type 0 where
  pub live : lives_by (lives h t) hs t ≡ true
  pub blocked : blocked_by (stays_blocked h t) hs t ≡ true

-- why a task exits: it ran and completed or failed; or its coroutine was started or run inline before its own first run
pub data ExitReason (h : List Entry) (x : Entry) (hs : List LogEntry) (t : ℕ) : Type 0 where
  ended : running h ≡ some t → ends_task (said x) ≡ true → ExitReason h x hs t
  reused : (c : ℕ) → spawned_by (spawned_for h t) hs t ≡ some c → coroutine_of h t ≡ none → named h c ≡ true → ExitReason h x hs t

-- a task that exits is not main, is live and not blocked
pub record ExitHonest (h : List Entry) (x : Entry) (hs : List LogEntry) (t : ℕ) : Type 0 where
  pub spawned : eqb t 0 ≡ false
  pub live : lives_by (lives h t) hs t ≡ true
  pub unblocked : blocked_by (stays_blocked h t) hs t ≡ false
  pub why : ExitReason h x hs t

-- only a cancel and main's end remove tasks: the others run on
abbrev pub RemoveHonest : List Entry → Entry → Type 0
RemoveHonest h x = ((said x).cancels ≡ true) ⊎ ((running h ≡ some 0) × (ends_task (said x) ≡ true))

-- each log entry
unfoldable pub LogHonest : List Entry → Entry → List LogEntry → Type 0
LogHonest h x [] = Unit {0}
LogHonest h x (spawned t c ∷ hs) = SpawnHonest h x hs t c × LogHonest h x hs
LogHonest h x (blocked t ∷ hs) = BlockHonest h x t × LogHonest h x hs
LogHonest h x (reached t ∷ hs) = ReachHonest h hs t × LogHonest h x hs
LogHonest h x (exited t ∷ hs) = ExitHonest h x hs t × LogHonest h x hs
LogHonest h x (removed t ∷ hs) = RemoveHonest h x × LogHonest h x hs

-- ---- who has control

-- what is handed to task t by its answer. What it awaited last has come to just that; only its own await may raise a reuse error for an object that has
-- come to something else, or to nothing.
unfoldable pub ToldHonest : List Entry → Entry → (ℕ → Shown) → ℕ → How → Type 0
ToldHonest h x look t (start c f) = (spawned_for (x ∷ h) t ≡ some c) × (coroutine_of h t ≡ none) × (named h c ≡ false) × MakesCoroutine (making h c) f
ToldHonest h x look t (value v) = (o : ℕ) × (last_await (x ∷ h) t ≡ some o) × (outcome (x ∷ h) look o ≡ some (returned v))
ToldHonest h x look t (raises e) =
    (o : ℕ) × (last_await (x ∷ h) t ≡ some o) × ((outcome (x ∷ h) look o ≡ some (raised e)) ⊎ (((said x).awaits ≡ some o) × (running h ≡ some t) × (is_reuse e ≡ true)))
ToldHonest h x look t (inline c) = ((said x).awaits ≡ some c) × (running h ≡ some t) × (named h c ≡ false)

-- a task that has control is live and not blocked
unfoldable pub ControlHonest : List Entry → Entry → (ℕ → Shown) → Option Control → Type 0
ControlHonest h x look none = Unit {0}
ControlHonest h x look (some (runs t a)) = (lives (x ∷ h) t ≡ true) × (stays_blocked (x ∷ h) t ≡ false) × ToldHonest h x look t a
ControlHonest h x look (some (waits cs)) = Unit {0}

-- ---- the last entry of a session; look is what show gives after it

pub record EntryHonest (h : List Entry) (x : Entry) (look : ℕ → Shown) : Type 0 where
  pub log : LogHonest h x x.happened
  -- what must happen, does
  pub blocks : (t : ℕ) → is_none (said x).awaits ≡ false → running h ≡ some t → runs_task (tells x.answer).control t ≡ false → blocks_in x.happened t ≡ true
  pub exits : (t : ℕ) → running h ≡ some (suc t) → ends_task (said x) ≡ true → exits_in x.happened (suc t) ≡ true
  pub ends : (t : ℕ) → running h ≡ some 0 → ends_task (said x) ≡ true → lives (x ∷ h) t ≡ false
  pub removes : (t : ℕ) → x.event ≡ Event.cancel t → (tells x.answer).accepts ≡ true → removes_in x.happened t ≡ true
  pub control : ControlHonest h x look (tells x.answer).control
  -- a resume starts no task: in waiting every live one has started
  pub resumes : (t c f : ℕ) → x.event ≡ Event.resume → (tells x.answer).control ≡ some (runs t (start c f)) → ⊥

-- ---- what stands after a session

-- Blocked, by events and answers alone: a live task is blocked exactly when its last await left it waiting, and show gives what it awaited as a pending
-- external or an awaited gather. In waiting, cancel of a task is refused with 5 exactly when it is not live.
pub record StateHonest (h : List Entry) (s : Store) : Type 0 where
  pub blocked_is : (t : ℕ) → lives h t ≡ true → stays_blocked h t ≡ (left_waiting h t && waits_at (look s) (last_await h t))
  pub dead : (t : ℕ) → lives h t ≡ false → (step s (Event.cancel t)).answer ≡ Answer.refused 5 ⊎ ((step s (Event.cancel t)).answer ≡ Answer.refused 3) ⊎ ((step s (Event.cancel t)).answer ≡ Answer.refused 4)
  pub alive : (t : ℕ) → lives h t ≡ true → (step s (Event.cancel t)).answer ≡ Answer.refused 5 → ⊥

-- For every list of events and one more, refused ones included, with any call lists.
abbrev pub HonestSessions : Type 0
HonestSessions =
    (es : List Sent) (e : Sent) → AllSentInRange es → InRange e.event
    → EntryHonest (session es).history (entry_of e.event (lent_any (session es).store e).answer (lent_any (session es).store e).store) (look (send (session es) e).store)
    × StateHonest (session es).history (session es).store
