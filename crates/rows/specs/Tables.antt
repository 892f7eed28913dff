-- The tables of the store: what stands at a row, and the words with a row put there. Everything above uses these and their laws
-- (TableLaws), and never a word.
use Rattle.std.specs.Prelude.{refl, List, ℕ, ◌+◌, ◌*◌, Bool, drop}
use Rattle.asyncio.specs.Limits.{task_width, object_width, place_width, object_limit}
use Rattle.asyncio.specs.Layout.{object_words, to_object, task_words, to_task, place_words, to_place, header_words, to_header}
use Rattle.asyncio.specs.Ranges.{ObjectFits, TaskFits, PlaceFits, HeaderFits}
use Rattle.asyncio.specs.RangeLaws.{object_back, task_back, place_back, header_back, object_wide, to_object-fits, to_task-fits, to_place-fits, to_header-fits}
use Rattle.rows.specs.Rows.{Codec, read_at, put_at, count_rows}
use Rattle.asyncio.specs.declared.Object.{Object}
use Rattle.asyncio.specs.declared.Task.{Task}
use Rattle.asyncio.specs.declared.Place.{Place}
use Rattle.asyncio.specs.declared.Header.{Header}

abbrev pub task_codec : Codec Task
task_codec = record { width = task_width; reads = to_task; words = task_words; Fits = TaskFits; wide = λ r. refl; back = task_back; in_range = to_task-fits }

abbrev pub object_codec : Codec Object
object_codec = record { width = object_width; reads = to_object; words = object_words; Fits = ObjectFits; wide = object_wide; back = object_back; in_range = to_object-fits }

abbrev pub place_codec : Codec Place
place_codec = record { width = place_width; reads = to_place; words = place_words; Fits = PlaceFits; wide = λ r. refl; back = place_back; in_range = to_place-fits }

abbrev pub header_codec : Codec Header
header_codec = record { width = object_width; reads = to_header; words = header_words; Fits = HeaderFits; wide = λ r. refl; back = header_back; in_range = to_header-fits }

-- where each row starts: the objects' rows stand behind the header's
abbrev pub task_start : ℕ → ℕ
task_start t = t * task_width

abbrev pub object_start : ℕ → ℕ
object_start o = o * object_width + object_width

abbrev pub place_start : ℕ → ℕ
place_start p = p * place_width

-- task t
unfoldable pub task_at : List ℕ → ℕ → Task
task_at w t = read_at task_codec w (task_start t)

unfoldable pub task_put : List ℕ → ℕ → Task → List ℕ
task_put w t r = put_at task_codec w (task_start t) r

-- object o
unfoldable pub object_at : List ℕ → ℕ → Object
object_at w o = read_at object_codec w (object_start o)

unfoldable pub object_put : List ℕ → ℕ → Object → List ℕ
object_put w o r = put_at object_codec w (object_start o) r

-- place p
unfoldable pub place_at : List ℕ → ℕ → Place
place_at w p = read_at place_codec w (place_start p)

unfoldable pub place_put : List ℕ → ℕ → Place → List ℕ
place_put w p r = put_at place_codec w (place_start p) r

-- the header
unfoldable pub header_at : List ℕ → Header
header_at w = read_at header_codec w 0

unfoldable pub header_put : List ℕ → Header → List ℕ
header_put w h = put_at header_codec w 0 h

-- how many objects' rows pass; the header's stands before them
abbrev pub count_objects : (Object → Bool) → List ℕ → ℕ
count_objects p w = count_rows object_codec p object_limit (drop object_width w)
