-- How many numbers there are of each sort, and how wide the rows are. Document 01: "513 task records", "a 257th object, over 32 items,
-- or over 512 item places in all", "over 64 results". Document 02, No. 1: "The last number handed out is 4,294,967,294."
use Rattle.std.specs.Prelude.{ℕ, ◌*◌, ◌+◌}

abbrev pub task_limit : ℕ
task_limit = 513

abbrev pub object_limit : ℕ
object_limit = 256

abbrev pub place_limit : ℕ
place_limit = 512

-- places of one gather
abbrev pub item_limit : ℕ
item_limit = 32

-- call numbers that are handed out: one less than 32 bits have, so that their count has 32 bits too
abbrev pub call_limit : ℕ
call_limit = 4294967295

-- errors of document 01's list
abbrev pub error_limit : ℕ
error_limit = 7

-- results of one batch
abbrev pub result_limit : ℕ
result_limit = 64

-- numbers of 32 bits: functions, calls, error numbers, the open places of a gather
abbrev pub u32_limit : ℕ
u32_limit = 4294967296

-- words of a row
abbrev pub task_width : ℕ
task_width = 8

abbrev pub object_width : ℕ
object_width = 8

abbrev pub place_width : ℕ
place_width = 4

-- words of each lent slice: the objects' rows stand behind one row for the header
abbrev pub tasks_length : ℕ
tasks_length = task_limit * task_width

abbrev pub objects_length : ℕ
objects_length = object_width + object_limit * object_width

abbrev pub places_length : ℕ
places_length = place_limit * place_width
