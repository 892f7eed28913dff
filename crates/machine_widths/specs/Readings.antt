-- A store as it is read with call numbers of another width: a call has k values, so that an external's is its word modulo k; at most n of them are handed out,
-- so that their count is its word modulo n + 1. With `u32_limit` and `call_limit` it is the reading of docs/LAYOUT.md (`object_now`, `header_now`); the old width had
-- 65,536 values, all of them numbers.
use Rattle.std.specs.Prelude.{ℕ, ◌+◌, ◌%◌, Bool, List, leb, get_or}
use Rattle.asyncio.specs.Limits.{task_limit, object_width}
use Rattle.asyncio.specs.declared.CallId.{CallId}
use Rattle.asyncio.specs.declared.Object.{Object}
use Rattle.asyncio.specs.declared.Header.{Header}
use Rattle.asyncio.specs.Numbers.{call_id}
use Rattle.asyncio.specs.Layout.{object_words, to_object, header_words, to_header}
use Rattle.rows.specs.Rows.{row_from}
use Rattle.rows.specs.Tables.{object_start}
use Rattle.rows.specs.Canonical.{same_words, task_canonical, place_canonical}
use Rattle.queue.specs.Queue.{entries}
use Rattle.machine.specs.Tests.{◌and◌, all_below}
use Rattle.machine.specs.Store.{Store, View, task, place}
use Rattle.machine.specs.Sound.{sound_view}
use Rattle.machine_widths.specs.Widths.{old_limit}

-- the words of the header, and of object o
abbrev pub words_of_header : Store → List ℕ
words_of_header s = row_from s.objects 0 0 object_width

abbrev pub words_of_object : Store → ℕ → List ℕ
words_of_object s o = row_from s.objects (object_start o) 0 object_width

-- an external of another call; any other object as it is
unfoldable pub with_call : Object → CallId → Object
with_call Object.Unmade c = Object.Unmade
with_call (Object.Coroutine f x) c = Object.Coroutine f x
with_call (Object.ExternalFuture b x) c = Object.ExternalFuture c x
with_call (Object.GatherFuture f n x) c = Object.GatherFuture f n x

-- what eight words are read as: the call is word 4
unfoldable pub to_object_by : ℕ → List ℕ → Object
to_object_by k w = with_call (to_object w) (call_id (get_or w 4 0 % k))

-- the count is word 2
unfoldable pub to_header_by : ℕ → List ℕ → Header
to_header_by n w = record {
  made = (to_header w).made;
  used = (to_header w).used;
  calls = get_or w 2 0 % (n + 1);
  next = (to_header w).next;
  moment = (to_header w).moment;
}

-- the header, and object o
unfoldable pub header_by : ℕ → Store → Header
header_by n s = to_header_by n (words_of_header s)

unfoldable pub object_by : ℕ → Store → ℕ → Object
object_by k s o = to_object_by k (words_of_object s o)

-- each row in use is canonical, and the queue's count is within its places
unfoldable pub words_in_range_by : ℕ → ℕ → Store → Bool
words_in_range_by k n s =
    same_words (header_words (header_by n s)) (words_of_header s) and
    all_below (header_by n s).next (λ t. task_canonical s.tasks t) and
    all_below (header_by n s).made (λ o. same_words (object_words (object_by k s o)) (words_of_object s o)) and
    all_below (header_by n s).used (λ p. place_canonical s.places p) and
    leb s.queue.len task_limit

-- what the store says
unfoldable pub view_by : ℕ → ℕ → Store → View
view_by k n s =
    record { tasks = λ t. task s t; objects = λ o. object_by k s o; places = λ p. place s p; header = header_by n s; queue = entries s.queue }

-- A store is sound as it is read so.
unfoldable pub sound_by : ℕ → ℕ → Store → Bool
sound_by k n s = words_in_range_by k n s and sound_view (view_by k n s)

-- as the old width read it
abbrev pub old_sound : Store → Bool
old_sound s = sound_by old_limit old_limit s
