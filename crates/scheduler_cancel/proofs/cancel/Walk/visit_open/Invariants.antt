use mathlib.Core.Path.{◌≡◌}
use mathlib.Core.List.{List}
use Prim.Native.Nat.{◌≤◌, ◌-◌, ◌+◌}
use lib.ListN.{length}
use Rattle.asyncio.specs.Limits.{object_limit}
use Rattle.machine.specs.Store.{LogEntry}
use Rattle.machine.specs.Scheduler.{visit_open}
use Rattle.machine_laws.specs.Statements.{unmarked}
use Rattle.scheduler_states.specs.Awaited.{awaited_gather_of}
use Rattle.scheduler_cancel.specs.Cancel.{walked, walk_of}
use Rattle.scheduler_cancel.specs.CancelLaws.{Logged}
use Rattle.scheduler_cancel.proofs.cancel.Walk.visit_open.Given as goal

abbrev pub invariant-loop-i : goal.invariant-loop-i
invariant-loop-i l = record {
  keeps : l.self.table ≡ l.initial.self.table;
  walks : (l₁ : List LogEntry) → Logged
      (λ m. visit_open (walk_of l.initial.self.table l.tasks l.objects l.places (walked l.queue l.self.depth) m l.self.marks l.self.stack) (awaited_gather_of l.gather) l.i (l.gather.count - l.i))
      (visit_open (walk_of l.initial.self.table l.initial.tasks l.objects l.places (walked l.initial.queue l.initial.self.depth) l₁ l.initial.self.marks l.initial.self.stack) (awaited_gather_of l.gather) 0 l.gather.count);
  long : length l.self.marks ≡ object_limit;
  room : unmarked l.self.marks + l.self.depth ≤ object_limit;
}
