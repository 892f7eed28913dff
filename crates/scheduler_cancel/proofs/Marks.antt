-- The marks keep their length over each step of the walk.
use Rattle.std.specs.Prelude.{◌≡◌, Bool, List, ℕ, length}
use Rattle.std.proofs.Common.{ap, ◌∙◌}
use Rattle.asyncio.specs.Limits.{object_limit}
use Rattle.machine.specs.Scheduler.{Walk}
use Rattle.machine_laws.specs.CycleLaws.{CountsKept}
use Rattle.scheduler_cancel.specs.Cancel.{Walked, Shows}

pub marks_kept : {ds ts os ps gs : List ℕ} {r : Walked} {ms : List Bool} {w x : Walk} → Shows ds ts os ps r ms gs x → CountsKept w x → length ms ≡ object_limit
marks_kept s p = ap (λ (w : Walk). length w.marks) s.shows ∙ p.marked
