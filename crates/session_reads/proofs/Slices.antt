-- The store of the arrays is the store of the slices.
use Rattle.std.specs.Prelude.{◌≡◌, List, ℕ, Bool}
use Rattle.queue.specs.declared.ReadyQueue.{ReadyQueue}
use Rattle.machine.specs.Store.{LogEntry, store_of}
use Rattle.machine.specs.Sound.{sound}

pub of_slices : {ts os ps us vs ws : List ℕ} (q : ReadyQueue) (l : List LogEntry) {b : Bool} → us ≡ ts → vs ≡ os → ws ≡ ps → b ≡ sound (store_of us vs ws q l) → b ≡ sound (store_of ts os ps q l)
of_slices q l i j k r = rw (← i, ← j, ← k) r
