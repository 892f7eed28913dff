-- The words of each type (docs/LAYOUT.md), and what any words are read as. Every list of words has a reading, and every number that is
-- read is in its range. A word that means nothing is 0.
use Rattle.std.specs.Prelude.{List, [], ◌∷◌, ℕ, ◌+◌, ◌-◌, ◌%◌, eqb, get_or}
use Rattle.asyncio.specs.Limits.{task_limit, object_limit, place_limit, call_limit}
use Rattle.asyncio.specs.Numbers.{to_call_id, to_task_id, to_heap_id, to_u32, to_first, to_count}
use Rattle.asyncio.specs.States.{pick}
use Rattle.asyncio.specs.declared.CallId.{CallId}
use Rattle.asyncio.specs.declared.Value.{Value}
use Rattle.asyncio.specs.Options.{OptionValue}
use Rattle.std.specs.Prelude.{None, Some}
use Rattle.asyncio.specs.declared.Error.{Error}
use Rattle.asyncio.specs.declared.Awaiter.{Awaiter}
use Rattle.asyncio.specs.declared.CoroutineState.{CoroutineState}
use Rattle.asyncio.specs.declared.ExternalFutureState.{ExternalFutureState}
use Rattle.asyncio.specs.declared.GatherState.{GatherState}
use Rattle.asyncio.specs.declared.Object.{Object}
use Rattle.asyncio.specs.declared.Kind.{Kind}
use Rattle.asyncio.specs.declared.Place.{Place}
use Rattle.asyncio.specs.declared.TaskState.{TaskState}
use Rattle.asyncio.specs.declared.Task.{Task}
use Rattle.asyncio.specs.declared.Moment.{Moment}
use Rattle.asyncio.specs.declared.Header.{Header}
use Rattle.asyncio.specs.declared.words.Words2.{Words2}
use Rattle.asyncio.specs.declared.words.Words3.{Words3}

abbrev pub words2 : ℕ → ℕ → Words2
words2 a b = record { 0 = a; 1 = b }

abbrev pub words3 : ℕ → ℕ → ℕ → Words3
words3 a b c = record { 0 = a; 1 = b; 2 = c }

-- a value: 0 plain, 1 list; its number
abbrev pub value_words : Value → Words2
value_words (Value.Plain n) = words2 0 n
value_words (Value.List h) = words2 1 h.0

-- the two in a list, as document 01's numbers
unfoldable pub value_numbers : Value → List ℕ
value_numbers v = (value_words v).0 ∷ (value_words v).1 ∷ []

abbrev pub to_value : ℕ → ℕ → Value
to_value tag n = pick (eqb tag 0) (Value.Plain n) (Value.List (to_heap_id n))

-- a value or none: 0 none; one more than the value's tag, its number
abbrev pub option_words : OptionValue → Words2
option_words None = words2 0 0
option_words (Some v) = words2 ((value_words v).0 + 1) (value_words v).1

abbrev pub to_option : ℕ → ℕ → OptionValue
to_option tag n = pick (eqb tag 0) None (Some (to_value (tag - 1) n))

-- an error: its place in document 01's list, from 0; its number, 0 where it has none
abbrev pub error_words : Error → Words2
error_words (Error.Host n) = words2 0 n
error_words (Error.Script n) = words2 1 n
error_words Error.CoroutineReuse = words2 2 0
error_words Error.FutureReuse = words2 3 0
error_words Error.GatherReuse = words2 4 0
error_words Error.NotFound = words2 5 0
error_words Error.ModuleFile = words2 6 0

abbrev pub to_error : ℕ → ℕ → Error
to_error tag n =
    pick (eqb tag 0) (Error.Host (to_u32 n))
    (pick (eqb tag 1) (Error.Script (to_u32 n))
    (pick (eqb tag 2) Error.CoroutineReuse
    (pick (eqb tag 3) Error.FutureReuse
    (pick (eqb tag 4) Error.GatherReuse
    (pick (eqb tag 5) Error.NotFound Error.ModuleFile)))))

-- an awaiter: 0 nobody; 1 task, its number; 2 slot, its gather and its source
abbrev pub awaiter_words : Awaiter → Words3
awaiter_words Awaiter.Nobody = words3 0 0 0
awaiter_words (Awaiter.Task t) = words3 1 t.0 0
awaiter_words (Awaiter.GatherSlot g o) = words3 2 g.0 o.0

abbrev pub to_awaiter : ℕ → ℕ → ℕ → Awaiter
to_awaiter tag a b =
    pick (eqb tag 0) Awaiter.Nobody
    (pick (eqb tag 1) (Awaiter.Task (to_task_id a)) (Awaiter.GatherSlot (to_heap_id a) (to_heap_id b)))

-- an object's kind: word 0 of its row
abbrev pub kind_word : Kind → ℕ
kind_word Kind.Unmade = 0
kind_word Kind.NewCoroutine = 1
kind_word Kind.RunningCoroutine = 2
kind_word Kind.CompletedCoroutine = 3
kind_word Kind.PendingExternal = 4
kind_word Kind.ResolvedExternal = 5
kind_word Kind.FailedExternal = 6
kind_word Kind.PendingGather = 7
kind_word Kind.AwaitedGather = 8
kind_word Kind.CompletedGather = 9
kind_word Kind.FailedGather = 10

abbrev pub to_kind : ℕ → Kind
to_kind n =
    pick (eqb n 0) Kind.Unmade
    (pick (eqb n 1) Kind.NewCoroutine
    (pick (eqb n 2) Kind.RunningCoroutine
    (pick (eqb n 3) Kind.CompletedCoroutine
    (pick (eqb n 4) Kind.PendingExternal
    (pick (eqb n 5) Kind.ResolvedExternal
    (pick (eqb n 6) Kind.FailedExternal
    (pick (eqb n 7) Kind.PendingGather
    (pick (eqb n 8) Kind.AwaitedGather
    (pick (eqb n 9) Kind.CompletedGather Kind.FailedGather)))))))))

-- an object's row: its kind; its awaiter in words 1 to 3; in word 4 a coroutine's function, an external's call, a gather's first place;
-- then an external's stored result, value or error, or a gather's count and its open places or its error
abbrev pub object_row : Kind → Words3 → ℕ → ℕ → ℕ → ℕ → List ℕ
object_row k w a b c d = kind_word k ∷ w.0 ∷ w.1 ∷ w.2 ∷ a ∷ b ∷ c ∷ d ∷ []

abbrev pub coroutine_words : ℕ → CoroutineState → List ℕ
coroutine_words f CoroutineState.New = object_row Kind.NewCoroutine (words3 0 0 0) f 0 0 0
coroutine_words f CoroutineState.Running = object_row Kind.RunningCoroutine (words3 0 0 0) f 0 0 0
coroutine_words f CoroutineState.Completed = object_row Kind.CompletedCoroutine (words3 0 0 0) f 0 0 0

abbrev pub external_words : CallId → ExternalFutureState → List ℕ
external_words c (ExternalFutureState.Pending w x) = object_row Kind.PendingExternal (awaiter_words w) c.0 (option_words x).0 (option_words x).1 0
external_words c (ExternalFutureState.Resolved v) = object_row Kind.ResolvedExternal (words3 0 0 0) c.0 (value_words v).0 (value_words v).1 0
external_words c (ExternalFutureState.Failed e) = object_row Kind.FailedExternal (words3 0 0 0) c.0 (error_words e).0 (error_words e).1 0

abbrev pub gather_words : ℕ → ℕ → GatherState → List ℕ
gather_words i n GatherState.Pending = object_row Kind.PendingGather (words3 0 0 0) i n 0 0
gather_words i n (GatherState.Awaited w m) = object_row Kind.AwaitedGather (awaiter_words w) i n m 0
gather_words i n GatherState.Completed = object_row Kind.CompletedGather (words3 0 0 0) i n 0 0
gather_words i n (GatherState.Failed e) = object_row Kind.FailedGather (words3 0 0 0) i n (error_words e).0 (error_words e).1

abbrev pub object_words : Object → List ℕ
object_words Object.Unmade = object_row Kind.Unmade (words3 0 0 0) 0 0 0 0
object_words (Object.Coroutine f s) = coroutine_words f s
object_words (Object.ExternalFuture c s) = external_words c s
object_words (Object.GatherFuture i n s) = gather_words i n s

-- the awaiter of a row, of an object or of a task
abbrev pub row_awaiter : List ℕ → Awaiter
row_awaiter w = to_awaiter (get_or w 1 0) (get_or w 2 0) (get_or w 3 0)

-- a coroutine, an external or a gather in a given state, the rest read from its row
abbrev pub row_coroutine : List ℕ → CoroutineState → Object
row_coroutine w s = Object.Coroutine (to_u32 (get_or w 4 0)) s

abbrev pub row_external : List ℕ → ExternalFutureState → Object
row_external w s = Object.ExternalFuture (to_call_id (get_or w 4 0)) s

abbrev pub row_gather : List ℕ → GatherState → Object
row_gather w s = Object.GatherFuture (to_first (get_or w 4 0)) (to_count (to_first (get_or w 4 0)) (get_or w 5 0)) s

abbrev pub row_object : Kind → List ℕ → Object
row_object Kind.Unmade w = Object.Unmade
row_object Kind.NewCoroutine w = row_coroutine w CoroutineState.New
row_object Kind.RunningCoroutine w = row_coroutine w CoroutineState.Running
row_object Kind.CompletedCoroutine w = row_coroutine w CoroutineState.Completed
row_object Kind.PendingExternal w = row_external w (ExternalFutureState.Pending (row_awaiter w) (to_option (get_or w 5 0) (get_or w 6 0)))
row_object Kind.ResolvedExternal w = row_external w (ExternalFutureState.Resolved (to_value (get_or w 5 0) (get_or w 6 0)))
row_object Kind.FailedExternal w = row_external w (ExternalFutureState.Failed (to_error (get_or w 5 0) (get_or w 6 0)))
row_object Kind.PendingGather w = row_gather w GatherState.Pending
row_object Kind.AwaitedGather w = row_gather w (GatherState.Awaited (row_awaiter w) (to_u32 (get_or w 6 0)))
row_object Kind.CompletedGather w = row_gather w GatherState.Completed
row_object Kind.FailedGather w = row_gather w (GatherState.Failed (to_error (get_or w 6 0) (get_or w 7 0)))

abbrev pub to_object : List ℕ → Object
to_object w = row_object (to_kind (get_or w 0 0)) w

-- a task's state: 0 absent, 1 unstarted, 2 running; 3 woken, its value; 4 raised, its error; 5 blocked, its object
abbrev pub state_words : TaskState → Words3
state_words TaskState.Absent = words3 0 0 0
state_words TaskState.Unstarted = words3 1 0 0
state_words TaskState.Running = words3 2 0 0
state_words (TaskState.Woken v) = words3 3 (value_words v).0 (value_words v).1
state_words (TaskState.Raised e) = words3 4 (error_words e).0 (error_words e).1
state_words (TaskState.Blocked h) = words3 5 h.0 0

abbrev pub to_state : ℕ → ℕ → ℕ → TaskState
to_state tag a b =
    pick (eqb tag 0) TaskState.Absent
    (pick (eqb tag 1) TaskState.Unstarted
    (pick (eqb tag 2) TaskState.Running
    (pick (eqb tag 3) (TaskState.Woken (to_value a b))
    (pick (eqb tag 4) (TaskState.Raised (to_error a b)) (TaskState.Blocked (to_heap_id a))))))

-- a task's row: its state, its awaiter in words 1 to 3 as an object's, its coroutine, what its state holds, 0
abbrev pub task_words : Task → List ℕ
task_words t =
    let s = state_words t.state in
    let w = awaiter_words t.awaiter in
    s.0 ∷ w.0 ∷ w.1 ∷ w.2 ∷ t.coroutine.0 ∷ s.1 ∷ s.2 ∷ 0 ∷ []

abbrev pub to_task : List ℕ → Task
to_task w = record {
  state = to_state (get_or w 0 0) (get_or w 5 0) (get_or w 6 0);
  awaiter = row_awaiter w;
  coroutine = to_heap_id (get_or w 4 0);
}

-- a place's row: its item, its result in two words, 0
abbrev pub place_words : Place → List ℕ
place_words p = let x = option_words p.result in p.item.0 ∷ x.0 ∷ x.1 ∷ 0 ∷ []

abbrev pub to_place : List ℕ → Place
to_place w = record { item = to_heap_id (get_or w 0 0); result = to_option (get_or w 1 0) (get_or w 2 0) }

-- the moment: 0 running, the task; 1 waiting; 2 ended
abbrev pub moment_words : Moment → Words2
moment_words (Moment.Running t) = words2 0 t.0
moment_words Moment.Waiting = words2 1 0
moment_words Moment.Ended = words2 2 0

abbrev pub to_moment : ℕ → ℕ → Moment
to_moment tag t = pick (eqb tag 0) (Moment.Running (to_task_id t)) (pick (eqb tag 1) Moment.Waiting Moment.Ended)

-- the header's row: objects made, places used, calls handed out, the next task, the moment in two words, 0 0
abbrev pub header_words : Header → List ℕ
header_words h =
    let m = moment_words h.moment in
    h.made ∷ h.used ∷ h.calls ∷ h.next ∷ m.0 ∷ m.1 ∷ 0 ∷ 0 ∷ []

abbrev pub to_header : List ℕ → Header
to_header w = record {
  made = get_or w 0 0 % (object_limit + 1);
  used = get_or w 1 0 % (place_limit + 1);
  calls = get_or w 2 0 % (call_limit + 1);
  next = get_or w 3 0 % (task_limit + 1);
  moment = to_moment (get_or w 4 0) (get_or w 5 0);
}
