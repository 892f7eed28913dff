-- What a search found, as the code answers it: a number, or nothing.
use Rattle.std.specs.Prelude.{ℕ, None, Some}
use Rattle.std.proofs.Math.Option.{Option, none, some}
use Rattle.std.specs.Prelude as rust
use Rattle.asyncio.specs.declared.TaskId.{TaskId}
use Rattle.asyncio.specs.declared.HeapId.{HeapId}
use Rattle.asyncio.specs.Numbers.{task_id, heap_id}

-- what a search for a task answers, and one for an object: Rust's Option, where the machine's searches answer with mathlib's
abbrev pub FoundTask : Type 0
FoundTask = rust.Option TaskId

abbrev pub FoundObject : Type 0
FoundObject = rust.Option HeapId

-- of a task
abbrev pub found_task : Option ℕ → FoundTask
found_task none = None
found_task (some n) = Some (task_id n)

-- of an object
abbrev pub found_object : Option ℕ → FoundObject
found_object none = None
found_object (some n) = Some (heap_id n)
