-- The contract of a window.
use Rattle.std.specs.Prelude.{◌≡◌, Bool, List, [], ℕ, ◌≤◌, length, take}
use Rattle.asyncio.specs.Limits.{object_limit}
use Rattle.queue.specs.declared.ReadyQueue.{ReadyQueue}
use Rattle.machine.specs.Store.{LogEntry, store_of}
use Rattle.machine_theorems.specs.Soundness.Stores.{SoundStore}
use Rattle.contract.specs.Contract.{Words, Slice, before}
use Rattle.drive_window.specs.Window.{DrivesWindow, drive_window}
use Rattle.drive_window.specs.declared.Window.{Window}

-- The memory of a session, and a list with room for every wait.
abbrev pub SoundSession : Words → Words → Words → Words → ReadyQueue → Type 0
SoundSession tasks objects places calls queue = SoundStore (store_of tasks objects places queue []) × (object_limit ≤ length calls)

-- What the code has is w: the three slices and the queue are w's store (the log, which the code has not, is w's own), then the call list, the place and the
-- number of the next record, whether the driver goes on; and at the buffer's front stand w's lines, whole.
pub record DroveWindow (ts os ps cs out : List ℕ) (r : Window) (w : DrivesWindow) : Type 0 where
  pub store_is : store_of ts os ps r.queue w.store.log ≡ w.store
  pub list_is : cs ≡ w.list
  pub next_is : r.next ≡ w.next
  pub number_is : r.number ≡ w.number
  pub going_is : r.going ≡ w.going
  pub text_is : take r.at out ≡ w.text
  pub at_is : r.at ≡ length w.text

-- The call takes a window, with every log before it; it leaves a session's memory.
abbrev pub DrivesOneWindow : Slice → Slice → Slice → Slice → ReadyQueue → Words → ℕ → Bool → Slice → ℕ → Window → Type 0
DrivesOneWindow tasks objects places calls queue src from ended out number r =
    ((l : List LogEntry)
    → DroveWindow tasks.exit.now objects.exit.now places.exit.now calls.exit.now out.exit.now r
    (drive_window ended (length out.entry.now) (before tasks objects places queue l) calls.entry.now src from number))
    × SoundStore (store_of tasks.exit.now objects.exit.now places.exit.now r.queue [])
