use Prim.Native.Nat.{ℕ, ◌+◌}
use mathlib.Core.Path.{◌≡◌}
use mathlib.Core.List.{List}
use lib.ListN.{drop}
use Rattle.queue.specs.declared.ReadyQueue.{ReadyQueue}
use Rattle.machine.specs.Store.{LogEntry, store_of}
use Rattle.machine.specs.Events.{put_items}
use Rattle.exec_futures.proofs.making.put_items.Given as goal

abbrev pub invariant-loop-i : goal.invariant-loop-i
invariant-loop-i l = (ts os : List ℕ) (q : ReadyQueue) (k : List LogEntry) → put_items (store_of ts os l.places q k) (l.first + l.i) (drop l.i l.items) ≡ put_items (store_of ts os l.initial.places q k) l.first l.items
