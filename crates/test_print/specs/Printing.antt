-- What `test_stores` prints of a store: a line for each row and for the queue.
use Rattle.std.specs.Prelude.{List, [], ◌++◌, ℕ, zero, suc, ◌+◌, ◌*◌, ltb, get_or, length}
use Prim.Native.String.{String}
use denote.Triple.Both.{Both}
use denote.MutBor.{MutBor}
use Rattle.asyncio.specs.Layout.{object_words, task_words}
use Rattle.asyncio.specs.Limits.{task_limit, object_limit}
use Rattle.asyncio.specs.States.{pick}
use Rattle.rows.specs.Tables.{object_at, task_at, header_at}
use Rattle.queue.specs.declared.ReadyQueue.{ReadyQueue}
use Rattle.drive_text.specs.declared.Writer.{Writer}
use Rattle.drive_text.specs.Writing.{Puts}
use Rattle.drive_text.specs.Text.{bytes_of, newline, field, fields}

-- a line: a name, and numbers each after a space
abbrev pub row_text : String → List ℕ → List ℕ
row_text name words = bytes_of name ++ (fields words ++ newline)

-- task t
unfoldable pub task_text : List ℕ → ℕ → List ℕ
task_text ts t = row_text "task" (task_words (task_at ts t))

-- object o
unfoldable pub object_text : List ℕ → ℕ → List ℕ
object_text os o = row_text "object" (object_words (object_at os o))

-- the rows below n one after the other
unfoldable pub rows_text : (ℕ → List ℕ) → ℕ → List ℕ
rows_text text zero = []
rows_text text (suc n) = rows_text text n ++ text n

-- the queue: its numbers, front first; a count above 513 is no queue
abbrev pub entry_text : ReadyQueue → ℕ → List ℕ
entry_text q i = field (get_or q.ids i 0)

unfoldable pub queue_text : ReadyQueue → List ℕ
queue_text q = pick (ltb task_limit q.len) [] (bytes_of "ready" ++ (rows_text (entry_text q) q.len ++ newline))

-- the tasks and objects in use, and the queue
unfoldable pub store_text : List ℕ → List ℕ → ReadyQueue → List ℕ
store_text ts os q = rows_text (task_text ts) (header_at os).next ++ (rows_text (object_text os) (header_at os).made ++ queue_text q)

-- A store's text has at most so many bytes: a task's line 173, an object's 175, the queue's 10,779.
abbrev pub store_limit : ℕ
store_limit = 173 * task_limit + (175 * object_limit + 10779)

-- The call writes a line: a name, and numbers each after a space.
abbrev pub PutsRow : Both (MutBor Writer) (MutBor Writer) → List ℕ → List ℕ → Type 0
PutsRow out name words =
    Puts (length name + (21 * length words + 1)) out (name ++ (fields words ++ newline))
