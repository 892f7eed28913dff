-- The program's loop, turn by turn: each takes a window of the buffer, whose lines are written, and then more is read.
use Rattle.std.specs.Prelude.{◌≡◌, true, List, [], ◌++◌, ℕ, ◌≤◌, ltb, length, take, replicate}
use Rattle.asyncio.specs.Limits.{object_limit}
use Rattle.queue.specs.declared.ReadyQueue.{ReadyQueue}
use Rattle.machine.specs.Store.{Store, LogEntry, store_of, fresh}
use Rattle.drive_window.specs.Window.{DrivesWindow, drive_window}
use Rattle.drive_window.specs.WindowLaws.{Bytes}
use Rattle.drive_window.specs.Input.{Refilled, Readied}

-- Before a turn: the store and the call list, the buffer, of which the bytes from `from` up to `filled` are unread, and the number of the next record.
pub record Turn : Type 0 where
  pub store : Store
  pub list : List ℕ
  pub number : ℕ
  pub buffer : List ℕ
  pub from : ℕ
  pub filled : ℕ
  pub in_order : from ≤ filled
  pub within : filled ≤ length buffer
  pub bytes : Bytes buffer

-- its window: the input has ended where the buffer is not full
abbrev pub window_of : ℕ → Turn → DrivesWindow
window_of size t = drive_window (ltb t.filled (length t.buffer)) size t.store t.list (take t.filled t.buffer) t.from t.number

-- the turn after a reading
abbrev pub turn_of : Store → List ℕ → ℕ → {before after : List ℕ} {from filled from' filled' : ℕ} → Refilled before after from filled from' filled' → Bytes after → Turn
turn_of s l number {after = after} {from' = from} {filled' = filled} r b = record {
  store = s;
  list = l;
  number = number;
  buffer = after;
  from = from;
  filled = filled;
  in_order = r.in_order;
  within = r.within;
  bytes = b;
}

-- A session comes to this turn, with an output buffer of `size` bytes: these bytes were read so far, and these were handed out to be written.
pub data Reached (size : ℕ) : Turn → List ℕ → List ℕ → Type 0 where
  begins : (empty buffer : List ℕ) (from filled : ℕ) (r : Refilled empty buffer 0 0 from filled) (b : Bytes buffer)
      → Reached size (turn_of fresh (replicate object_limit 0) 1 r b) r.more []
  goes : (t : Turn) (read wrote after : List ℕ) (from' filled' : ℕ) → Reached size t read wrote → (window_of size t).going ≡ true
      → (r : Readied t.buffer after (window_of size t).next t.filled from' filled') (b : Bytes after)
      → Reached size (turn_of (window_of size t).store (window_of size t).list (window_of size t).number r.refilled b) (read ++ r.refilled.more)
      (wrote ++ (window_of size t).text)

-- The code's memory is that of such a turn (the log, which the code has not, is some log).
pub record Stands (size : ℕ) (ts os ps cs src : List ℕ) (q : ReadyQueue) (from filled number : ℕ) : Type 0 where
  pub log : List LogEntry
  pub read : List ℕ
  pub wrote : List ℕ
  pub in_order : from ≤ filled
  pub within : filled ≤ length src
  pub bytes : Bytes src
  pub reached : Reached size (record {
    store = store_of ts os ps q log;
    list = cs;
    number = number;
    buffer = src;
    from = from;
    filled = filled;
    in_order = in_order;
    within = within;
    bytes = bytes;
  }) read wrote
