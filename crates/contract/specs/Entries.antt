-- What an entry and the calls below it say: which memory a call without checks asks for, and what a read answers.
use Rattle.std.specs.Prelude.{◌≡◌, true, List, []}
use Rattle.queue.specs.declared.ReadyQueue.{ReadyQueue}
use Rattle.machine.specs.Store.{Store, LogEntry, store_of}
use Rattle.machine.specs.Sound.{sound}
use Rattle.machine.specs.Machine.{Event, Answer}
use Rattle.machine.specs.Lent.{slices_right, lengths_right, lent_read, read_as}
use Rattle.contract.specs.Contract.{Words}

-- The memory of a session, which a call without checks asks for: the lengths are right, the list of calls has room, and the store is sound.
abbrev pub SoundMemory : Words → Words → Words → Words → ReadyQueue → Type 0
SoundMemory tasks objects places calls queue =
    (lengths_right (store_of tasks objects places queue []) calls ≡ true)
    × (sound (store_of tasks objects places queue []) ≡ true)

-- and what else it asks
abbrev pub SoundMemoryAnd : Words → Words → Words → Words → ReadyQueue → Type 0 → Type 0
SoundMemoryAnd tasks objects places calls queue more =
    (lengths_right (store_of tasks objects places queue []) calls ≡ true)
    × (sound (store_of tasks objects places queue []) ≡ true)
    × more

-- The same for a read, which takes no list.
abbrev pub SoundSlices : Words → Words → Words → ReadyQueue → Type 0
SoundSlices tasks objects places queue =
    (slices_right (store_of tasks objects places queue []) ≡ true) × (sound (store_of tasks objects places queue []) ≡ true)

-- The call is a read e of lent memory: its answer, with document 01's numbers, is that of `lent_read`.
abbrev pub LentRead : Words → Words → Words → ReadyQueue → Event → Answer → Type 0
LentRead tasks objects places queue e a = (l : List LogEntry) → read_as a ≡ read_as (lent_read (store_of tasks objects places queue l) e).answer
