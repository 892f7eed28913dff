-- The frames of a commit that wait, and what a commit gives.
use Rattle.std.specs.Prelude.{◌≡◌, List, [], ◌∷◌, ℕ, ◌<◌}
use Rattle.asyncio.specs.Limits.{object_limit}
use Rattle.asyncio.specs.declared.Error.{Error}
use Rattle.queue.specs.declared.ReadyQueue.{ReadyQueue}
use Rattle.machine.specs.Store.{Store, LogEntry, store_of}
use Rattle.machine.specs.Commit.{Poll, Frame, unwind}
use Rattle.machine.specs.Commit as machine
use Rattle.machine_laws.specs.Statements.{commit_rest}
use Rattle.contract.specs.Contract.{Slice, Does, LentQueue}
use Rattle.exec_poll.specs.Polls.{poll_of}
use Rattle.exec_commit.specs.Steps.{frame}
use Rattle.exec_commit.specs.declared.tree.Committed.{Committed}

-- their gathers are numbers of objects
unfoldable pub GathersFit : List Frame → Type 0
GathersFit [] = Unit {0}
GathersFit (f ∷ fs) = (f.gather < object_limit) × GathersFit fs

-- What a commit gives: the store after it, what the await sees, and the number of commit steps. (The machine counts the gathers
-- opened and settled too: no code does.)
pub record CommitResult : Type 0 where
  pub store : Store
  pub poll : Poll
  pub steps : ℕ

-- the three
abbrev pub commit_result : Store → Poll → ℕ → CommitResult
commit_result s p n = record { store = s; poll = p; steps = n }

-- what the machine's commit gives
abbrev pub result_of : machine.Committed → CommitResult
result_of r = record { store = r.store; poll = r.poll; steps = r.steps }

-- a commit that began as M goes on from frame f, with the frames fs below it, after n steps: for what had happened then there is what
-- has happened now, and there are the two counts that no code has
pub record GoesOn (M : List LogEntry → machine.Committed) (ts os ps : List ℕ) (q : ReadyQueue) (f : Frame) (fs : List Frame) (n : ℕ) : Type 0 where
  pub log : List LogEntry → List LogEntry
  pub opened : ℕ
  pub settled : ℕ
  pub goes_on : (l : List LogEntry) → commit_rest (store_of ts os ps q (log l)) f fs n opened settled ≡ M l

-- ---- what a call does

-- The call marks gather g and the gathers below it failed, whatever place of g is stepped next.
abbrev pub Unwinds : Slice → ℕ → List Frame → Error → Type 0
Unwinds objects g fs error =
    (ts ps : List ℕ) (n : ℕ) (q : ReadyQueue) (l : List LogEntry) →
    store_of ts objects.exit.now ps q l ≡ unwind (store_of ts objects.entry.now ps q l) (frame g n ∷ fs) error

-- The call commits, as f does, with a lent queue.
abbrev pub Commits : Slice → Slice → Slice → LentQueue → (Store → machine.Committed) → Committed → Type 0
Commits tasks objects places queue f r =
    Does (λ x. x.store.log) tasks objects places queue.entry.now queue.exit.now
    (λ s. commit_result s (poll_of r.poll) r.steps) (λ s. result_of (f s))
