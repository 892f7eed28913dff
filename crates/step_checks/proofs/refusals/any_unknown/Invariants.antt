use Prim.Native.Nat.{ℕ, ◌-◌, ◌*◌, ◌/◌}
use lib.ListN.{length}
use mathlib.Core.Path.{◌≡◌}
use mathlib.Core.List.{List}
use Rattle.queue.specs.declared.ReadyQueue.{ReadyQueue}
use Rattle.machine.specs.Store.{LogEntry, store_of}
use Rattle.machine.specs.Machine.{any_of, result_unknown}
use Rattle.exec_futures.specs.Results.{results_from, results_in}
use Rattle.step_checks.proofs.refusals.any_unknown.Given as goal

abbrev pub invariant-loop-i : goal.invariant-loop-i
invariant-loop-i loop =
    (ts ps : List ℕ) (q : ReadyQueue) (l : List LogEntry)
    → any_of (result_unknown (store_of ts loop.objects ps q l)) (results_from loop.results (loop.i * 14) (length loop.results / 14 - loop.i)) ≡ any_of (result_unknown (store_of ts loop.objects ps q l)) (results_in loop.results)
