-- Document 01's lines ("The driver"): the record's number, the answer's word and its fields, each after a space, and a newline.
use Rattle.std.specs.Prelude.{Bool, true, false, List, [], ◌∷◌, ◌++◌, ℕ, ◌+◌, length}
use Rattle.std.proofs.Math.Option.{Option, none, some}
use Rattle.asyncio.specs.declared.Value.{Value}
use Rattle.asyncio.specs.declared.Error.{Error}
use Rattle.asyncio.specs.declared.CoroutineState.{CoroutineState}
use Rattle.machine.specs.Events.{How, start, value, raises, inline, Control, runs, waits}
use Rattle.machine.specs.Machine.{Answer, Shown}
use Rattle.drive_text.specs.Text.{word, newline, decimal, field, fields}

-- a value: plain and its number, or the list of a gather
unfoldable pub value_text : Value → List ℕ
value_text (Value.Plain n) = word "plain" ++ field n
value_text (Value.List g) = word "list" ++ field g.0

-- "An error prints as its name, host and script followed by n"
unfoldable pub error_text : Error → List ℕ
error_text (Error.Host n) = word "host" ++ field n
error_text (Error.Script n) = word "script" ++ field n
error_text Error.CoroutineReuse = word "coroutine-reuse"
error_text Error.FutureReuse = word "future-reuse"
error_text Error.GatherReuse = word "gather-reuse"
error_text Error.NotFound = word "not-found"
error_text Error.ModuleFile = word "module-file"

-- "start with coroutine and function, value, raised with error, or inline with coroutine"
unfoldable pub how_text : How → List ℕ
how_text (start c f) = word "start" ++ (field c ++ field f)
how_text (value v) = word "value" ++ value_text v
how_text (raises e) = word "raised" ++ error_text e
how_text (inline c) = word "inline" ++ field c

-- "Runs: task, then .. Waits: count, calls"
unfoldable pub control_text : Control → List ℕ
control_text (runs t h) = word "runs" ++ (field t ++ how_text h)
control_text (waits cs) = word "waits" ++ (field (length cs) ++ fields cs)

-- a coroutine's state
unfoldable pub state_text : CoroutineState → List ℕ
state_text CoroutineState.New = word "new"
state_text CoroutineState.Running = word "running"
state_text CoroutineState.Completed = word "completed"

-- "each place, "open" or a value"
unfoldable pub place_text : Option Value → List ℕ
place_text none = word "open"
place_text (some v) = value_text v

-- places one after the other
unfoldable pub places_text : List (Option Value) → List ℕ
places_text [] = []
places_text (x ∷ xs) = place_text x ++ places_text xs

-- "sort, state, then a coroutine's function, an external's value or error, a failed gather's error, an awaited or completed gather's place
-- count and each place". `nothing` is what an object that is not made would show: the library refuses that with 5 and never shows it.
unfoldable pub shown_text : Shown → List ℕ
shown_text (Shown.a_coroutine x f) = word "coroutine" ++ (state_text x ++ field f)
shown_text Shown.an_external_pending = word "external" ++ word "pending"
shown_text (Shown.an_external_resolved v) = word "external" ++ (word "resolved" ++ value_text v)
shown_text (Shown.an_external_failed e) = word "external" ++ (word "failed" ++ error_text e)
shown_text Shown.a_gather_pending = word "gather" ++ word "pending"
shown_text (Shown.a_gather_awaited ps) = word "gather" ++ (word "awaited" ++ (field (length ps) ++ places_text ps))
shown_text (Shown.a_gather_completed ps) = word "gather" ++ (word "completed" ++ (field (length ps) ++ places_text ps))
shown_text (Shown.a_gather_failed e) = word "gather" ++ (word "failed" ++ error_text e)
shown_text Shown.nothing = word "nothing"

-- "Eager: yes or no"
unfoldable pub yes_no : Bool → List ℕ
yes_no true = word "yes"
yes_no false = word "no"

-- the answer's word and its fields; "An accepted await's line ends with steps"
unfoldable pub answer_text : Answer → List ℕ
answer_text (Answer.made o) = word "made" ++ field o
answer_text (Answer.called n) = word "call" ++ field n
answer_text (Answer.control c) = control_text c
answer_text (Answer.awaited c n) = control_text c ++ (word "steps" ++ field n)
answer_text Answer.done = word "done"
answer_text (Answer.cancelled n) = word "done" ++ field n
answer_text Answer.stalled = word "stalled"
answer_text (Answer.finished v) = word "finished" ++ value_text v
answer_text (Answer.finished_error e) = word "finished" ++ (word "error" ++ error_text e)
answer_text (Answer.is_eager b) = word "eager" ++ yes_no b
answer_text (Answer.refused n) = word "refused" ++ field n
answer_text (Answer.shows x) = word "shows" ++ shown_text x

-- The line of record n.
unfoldable pub line : ℕ → Answer → List ℕ
line n a = decimal n ++ (answer_text a ++ newline)

-- The lines of answers one after the other, numbered on from n.
unfoldable pub output : ℕ → List Answer → List ℕ
output n [] = []
output n (a ∷ answers) = line n a ++ output (n + 1) answers

-- A line that the code here writes has at most so many bytes: 256 calls of 20 digits, each after a space, are 5,376, and a read shows at
-- most 32 places. A caller keeps so much room.
abbrev pub line_limit : ℕ
line_limit = 8192
