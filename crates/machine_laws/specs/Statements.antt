-- Words that only laws use.
use Rattle.std.specs.Prelude.{◌≡◌, Bool, true, false, not, List, [], ◌∷◌, ℕ, suc, ◌+◌, ◌*◌, ◌≤◌, ◌<◌, length, get_or}
use Rattle.asyncio.specs.States.{is_live}
use Rattle.asyncio.specs.declared.Kind.{Kind}
use Rattle.asyncio.specs.Kinds.{kind}
use Rattle.asyncio.specs.Parts.{count_of}
use Rattle.asyncio.specs.Limits.{object_limit, u32_limit}
use Rattle.rows.specs.Tables.{object_at}
use Rattle.queue.specs.Queue.{Ascending}
use Rattle.machine.specs.Tests.{count}
use Rattle.machine.specs.Store.{Store, task, object, header}
use Rattle.machine.specs.Scheduler.{pending_call_ids, Walk, walk}
use Rattle.machine.specs.Commit.{Poll, ready, raised, pending, Stop, at_end, at_nested, at_error, Frame, Committed, commit_loop, pending_count}
use Rattle.machine.specs.Events.{Control, runs, waits}
use Rattle.machine.specs.Machine.{Event, Answer}
use Rattle.machine_laws.specs.Views.{Sized}

-- nothing but what has happened differs
pub record SameWords (s u : Store) : Type 0 where
  pub same_tasks : u.tasks ≡ s.tasks
  pub same_objects : u.objects ≡ s.objects
  pub same_places : u.places ≡ s.places
  pub same_queue : u.queue ≡ s.queue

-- the same tasks live, and the header is as it was
pub record SameLive (s u : Store) : Type 0 where
  pub sized : Sized u
  pub same_header : header u ≡ header s
  pub lives : (t : ℕ) → is_live (task u t).state ≡ is_live (task s t).state

-- a kind, with no word of whether an awaited gather has completed
abbrev pub phase : Kind → Kind
phase Kind.Unmade = Kind.Unmade
phase Kind.NewCoroutine = Kind.NewCoroutine
phase Kind.RunningCoroutine = Kind.RunningCoroutine
phase Kind.CompletedCoroutine = Kind.CompletedCoroutine
phase Kind.PendingExternal = Kind.PendingExternal
phase Kind.ResolvedExternal = Kind.ResolvedExternal
phase Kind.FailedExternal = Kind.FailedExternal
phase Kind.PendingGather = Kind.PendingGather
phase Kind.AwaitedGather = Kind.AwaitedGather
phase Kind.CompletedGather = Kind.AwaitedGather
phase Kind.FailedGather = Kind.FailedGather

-- every object is of the kind that it was, but awaited gathers may have completed; a gather has as many places
pub record SameKinds (s u : Store) : Type 0 where
  pub sized : Sized u
  pub kinds : (o : ℕ) → phase (kind (object u o)) ≡ phase (kind (object s o))
  pub counts : (o : ℕ) → count_of (object u o) ≡ count_of (object s o)

abbrev pub is_failed_gather : Kind → Bool
is_failed_gather Kind.Unmade = false
is_failed_gather Kind.NewCoroutine = false
is_failed_gather Kind.RunningCoroutine = false
is_failed_gather Kind.CompletedCoroutine = false
is_failed_gather Kind.PendingExternal = false
is_failed_gather Kind.ResolvedExternal = false
is_failed_gather Kind.FailedExternal = false
is_failed_gather Kind.PendingGather = false
is_failed_gather Kind.AwaitedGather = false
is_failed_gather Kind.CompletedGather = false
is_failed_gather Kind.FailedGather = true

-- how many objects are of a kind that passes
unfoldable pub kinds_in : (Kind → Bool) → List ℕ → ℕ
kinds_in p os = count (λ o. p (kind (object_at os o))) object_limit

-- how many gathers have failed
unfoldable pub failed_count : Store → ℕ
failed_count s = kinds_in is_failed_gather s.objects

-- the commit steps with n gathers opened and k of them settled, by what the await sees: 2 n - 1 on success, n + k on an error
unfoldable pub StepFormula : ℕ → ℕ → ℕ → Poll → Type 0
StepFormula steps n k (ready v) = suc steps ≡ 2 * n
StepFormula steps n k pending = suc steps ≡ 2 * n
StepFormula steps n k (raised e) = steps ≡ n + k

-- the formula for the counters of a commit
unfoldable pub StepsRight : Committed → Type 0
StepsRight r = StepFormula r.steps r.opened r.settled r.poll

-- failed gathers before and after a commit with n gathers opened and k of them settled: on an error those not settled have failed
unfoldable pub FailFormula : ℕ → ℕ → ℕ → ℕ → Poll → Type 0
FailFormula before after n k (ready v) = after ≡ before
FailFormula before after n k pending = after ≡ before
FailFormula before after n k (raised e) = after + k ≡ before + n

-- the steps of a commit from its two stores alone: p, b gathers pending and failed before, q, c after
unfoldable pub SeenFormula : ℕ → ℕ → ℕ → ℕ → ℕ → Poll → Type 0
SeenFormula steps p b q c (ready v) = suc steps + 2 * q ≡ 2 * p
SeenFormula steps p b q c pending = suc steps + 2 * q ≡ 2 * p
SeenFormula steps p b q c (raised e) = steps + (2 * q + c) ≡ 2 * p + b

-- no frame is of gather g
unfoldable pub NoFrame : ℕ → List Frame → Type 0
NoFrame g [] = Unit {0}
NoFrame g (f ∷ fs) = (f.gather ≡ g → ⊥) × NoFrame g fs

-- the frames' gathers are awaited, and no two are the same
unfoldable pub Opened : Store → List Frame → Type 0
Opened s [] = Unit {0}
Opened s (f ∷ fs) =
    (f.gather < object_limit) × (phase (kind (object s f.gather)) ≡ Kind.AwaitedGather) × NoFrame f.gather fs × Opened s fs

-- each frame's gather is an object's number, and its next place is one of the gather's
unfoldable pub Placed : Store → List Frame → Type 0
Placed s [] = Unit {0}
Placed s (f ∷ fs) = (f.gather < object_limit) × (f.next < count_of (object s f.gather)) × Placed s fs

-- a walk that stops at a nested gather stops below place n
unfoldable pub StopBelow : ℕ → Stop → Type 0
StopBelow n (at_end s) = Unit {0}
StopBelow n (at_nested s i o) = i < n
StopBelow n (at_error s e) = Unit {0}

-- the commit from a frame on: its fuel is an exact count
unfoldable pub commit_rest : Store → Frame → List Frame → ℕ → ℕ → ℕ → Committed
commit_rest s f fs n j k = commit_loop (2 * pending_count s + suc (length fs)) s f fs n j k

-- how many gathers a walk has not marked yet
unfoldable pub unmarked : List Bool → ℕ
unmarked ms = count (λ g. not (get_or ms g false)) object_limit

-- the walk from here on: its fuel is an exact count
unfoldable pub walk_rest : Walk → Store
walk_rest w = walk (unmarked w.marks + length w.stack) w

-- every number of the list is below n
unfoldable pub AllBelow : ℕ → List ℕ → Type 0
AllBelow n [] = Unit {0}
AllBelow n (c ∷ cs) = (c < n) × AllBelow n cs

-- a list of calls as a wait has it
pub record CallList (cs : List ℕ) : Type 0 where
  pub few : length cs ≤ object_limit
  pub ascending : Ascending cs

-- a wait's calls are the pending calls of the store that is left
unfoldable pub SaysCalls : Store → Control → Type 0
SaysCalls s (runs t h) = Unit {0}
SaysCalls s (waits cs) = cs ≡ pending_call_ids s

-- what an event leaves: the lengths, and the calls of its wait
pub record Left (s : Store) (c : Control) : Type 0 where
  pub sized : Sized s
  pub says : SaysCalls s c

-- the calls that an answer tells are those pending in the store that is left
unfoldable pub AnswerSays : Store → Answer → Type 0
AnswerSays s (Answer.made o) = Unit {0}
AnswerSays s (Answer.called n) = Unit {0}
AnswerSays s (Answer.control c) = SaysCalls s c
AnswerSays s (Answer.awaited c n) = SaysCalls s c
AnswerSays s Answer.done = Unit {0}
AnswerSays s (Answer.cancelled n) = Unit {0}
AnswerSays s Answer.stalled = Unit {0}
AnswerSays s (Answer.finished v) = Unit {0}
AnswerSays s (Answer.finished_error e) = Unit {0}
AnswerSays s (Answer.shows x) = Unit {0}
AnswerSays s (Answer.is_eager b) = Unit {0}
AnswerSays s (Answer.refused n) = Unit {0}

-- the events that make, with arguments in the range of their types
unfoldable pub Making : Event → Type 0
Making (Event.coroutine f) = f < u32_limit
Making Event.call = Unit {0}
Making (Event.pending c r) = Unit {0}
Making (Event.settled v) = Unit {0}
Making (Event.gather os) = Unit {0}
Making (Event.await o) = ⊥
Making (Event.complete v) = ⊥
Making (Event.fail n) = ⊥
Making (Event.results rs) = ⊥
Making Event.resume = ⊥
Making (Event.cancel t) = ⊥
Making (Event.show o) = ⊥
Making Event.eager = ⊥
