-- The numbers of calls, tasks and objects, and what any word is read as: a number in its range.
use Rattle.std.specs.Prelude.{ℕ, ◌+◌, ◌-◌, ◌%◌, min}
use Rattle.asyncio.specs.Limits.{task_limit, object_limit, place_limit, item_limit, u32_limit}
use Rattle.asyncio.specs.declared.CallId.{CallId}
use Rattle.asyncio.specs.declared.TaskId.{TaskId}
use Rattle.asyncio.specs.declared.HeapId.{HeapId}

abbrev pub call_id : ℕ → CallId
call_id n = record { 0 = n }

abbrev pub task_id : ℕ → TaskId
task_id n = record { 0 = n }

abbrev pub heap_id : ℕ → HeapId
heap_id n = record { 0 = n }

abbrev pub to_call_id : ℕ → CallId
to_call_id n = call_id (n % u32_limit)

abbrev pub to_task_id : ℕ → TaskId
to_task_id n = task_id (n % task_limit)

abbrev pub to_heap_id : ℕ → HeapId
to_heap_id n = heap_id (n % object_limit)

abbrev pub to_u32 : ℕ → ℕ
to_u32 n = n % u32_limit

-- the first place of a gather (512 where it has none and all are used), and how many it has: at most 32, within the 512
abbrev pub to_first : ℕ → ℕ
to_first n = n % (place_limit + 1)

abbrev pub to_count : ℕ → ℕ → ℕ
to_count first n = min (n % (item_limit + 1)) (place_limit - first)
