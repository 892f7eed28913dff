use mathlib.Core.Path.{◌≡◌}
use mathlib.Core.List.{List}
use Prim.Native.Nat.{◌≤◌, ◌+◌}
use lib.ListN.{length}
use Rattle.asyncio.specs.Limits.{object_limit}
use Rattle.machine.specs.Store.{LogEntry}
use Rattle.machine_laws.specs.Statements.{unmarked, walk_rest}
use Rattle.scheduler_cancel.specs.Cancel.{walked, walk_of}
use Rattle.scheduler_cancel.specs.CancelLaws.{Logged}
use Rattle.scheduler_cancel.proofs.cancel.cancel_task.Given as goal

abbrev pub invariant-loop-walk : goal.invariant-loop-walk
invariant-loop-walk l = record {
  keeps : l.walk.table ≡ l.initial.walk.table;
  walks : (l₁ : List LogEntry) → Logged
      (λ m. walk_rest (walk_of l.initial.walk.table l.tasks l.objects l.places (walked l.queue l.walk.depth) m l.walk.marks l.walk.stack))
      (walk_rest (walk_of l.initial.walk.table l.initial.tasks l.objects l.places (walked l.initial.queue l.initial.walk.depth) l₁ l.initial.walk.marks l.initial.walk.stack));
  long : length l.walk.marks ≡ object_limit;
  room : unmarked l.walk.marks + l.walk.depth ≤ object_limit;
}

abbrev pub decreases-loop-walk : goal.decreases-loop-walk
decreases-loop-walk l = unmarked l.walk.marks + l.walk.depth
