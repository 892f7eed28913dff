-- Document 01's cases P1 and P4 to P12, and others that these miss, as a table like the machine's `Cases`, which has P2 and P3.
use Rattle.std.specs.Prelude.{List, [], ◌∷◌, true, false, replicate}
use Rattle.std.proofs.Math.Option.{none, some}
use Rattle.asyncio.specs.declared.Error.{Error}
use Rattle.std.specs.Prelude.{Some}
use Rattle.asyncio.specs.declared.CoroutineState.{CoroutineState}
use Rattle.machine.specs.Events.{runs, waits, start, value, raises, inline}
use Rattle.machine.specs.Machine.{Event, Answer, Shown}
use Rattle.machine.specs.Cases.{Turn, ◌⇒◌, Case, answered, unchanged, plain, list, result, return, error, pending}

-- the table
unfoldable pub more_cases : List Case
more_cases =
    -- P1 empty gather: list, steps 1
    answered (
    Event.gather [] ⇒ Answer.made 0 ∷
    Event.await 0 ⇒ Answer.awaited (runs 0 (value (list 0))) 1 ∷
    Event.show 0 ⇒ Answer.shows (Shown.a_gather_completed []) ∷
    []) ∷
    -- P4 gather(c, f), f failed: raised, steps 1, c's task ready
    answered (
    Event.coroutine 7 ⇒ Answer.made 0 ∷
    Event.call ⇒ Answer.called 0 ∷
    pending 0 ⇒ Answer.made 1 ∷
    Event.results (error 0 3 ∷ []) ⇒ Answer.done ∷
    Event.gather (0 ∷ 1 ∷ []) ⇒ Answer.made 2 ∷
    Event.await 2 ⇒ Answer.awaited (runs 0 (raises (Error.Host 3))) 1 ∷
    Event.call ⇒ Answer.called 1 ∷
    pending 1 ⇒ Answer.made 3 ∷
    Event.await 3 ⇒ Answer.awaited (runs 1 (start 0 7)) 0 ∷
    []) ∷
    -- P5 after P4, await c runs inline; it awaits a pending call; c's task dies; waits with that call
    answered (
    Event.coroutine 7 ⇒ Answer.made 0 ∷
    Event.call ⇒ Answer.called 0 ∷
    pending 0 ⇒ Answer.made 1 ∷
    Event.results (error 0 3 ∷ []) ⇒ Answer.done ∷
    Event.gather (0 ∷ 1 ∷ []) ⇒ Answer.made 2 ∷
    Event.await 2 ⇒ Answer.awaited (runs 0 (raises (Error.Host 3))) 1 ∷
    Event.await 0 ⇒ Answer.awaited (runs 0 (inline 0)) 0 ∷
    Event.call ⇒ Answer.called 1 ∷
    pending 1 ⇒ Answer.made 3 ∷
    Event.await 3 ⇒ Answer.awaited (waits (1 ∷ [])) 0 ∷
    Event.cancel 1 ⇒ Answer.refused 5 ∷
    Event.show 0 ⇒ Answer.shows (Shown.a_coroutine CoroutineState.Running 7) ∷
    []) ∷
    -- P6 a gather naming c of P2 while its task lives: coroutine-reuse. c runs; the gather of P2 stays awaited, and fails with its child
    answered (
    Event.coroutine 3 ⇒ Answer.made 0 ∷
    Event.gather (0 ∷ 0 ∷ []) ⇒ Answer.made 1 ∷
    Event.await 1 ⇒ Answer.awaited (runs 1 (start 0 3)) 1 ∷
    Event.gather (0 ∷ []) ⇒ Answer.made 2 ∷
    Event.await 2 ⇒ Answer.awaited (runs 1 (raises Error.CoroutineReuse)) 1 ∷
    Event.show 2 ⇒ Answer.shows (Shown.a_gather_failed Error.CoroutineReuse) ∷
    Event.show 1 ⇒ Answer.shows (Shown.a_gather_awaited (none ∷ none ∷ [])) ∷
    Event.fail 9 ⇒ Answer.control (runs 0 (raises (Error.Script 9))) ∷
    Event.show 1 ⇒ Answer.shows (Shown.a_gather_failed (Error.Script 9)) ∷
    Event.show 0 ⇒ Answer.shows (Shown.a_coroutine CoroutineState.Running 3) ∷
    []) ∷
    -- the same while c is new and its task only ready; the gather then replays its stored error
    answered (
    Event.coroutine 8 ⇒ Answer.made 0 ∷
    Event.coroutine 7 ⇒ Answer.made 1 ∷
    Event.gather (1 ∷ 1 ∷ []) ⇒ Answer.made 2 ∷
    Event.gather (0 ∷ 2 ∷ []) ⇒ Answer.made 3 ∷
    Event.gather (1 ∷ []) ⇒ Answer.made 4 ∷
    Event.await 3 ⇒ Answer.awaited (runs 1 (start 0 8)) 3 ∷
    Event.await 4 ⇒ Answer.awaited (runs 1 (raises Error.CoroutineReuse)) 1 ∷
    Event.fail 6 ⇒ Answer.control (runs 0 (raises (Error.Script 6))) ∷
    Event.await 4 ⇒ Answer.awaited (runs 0 (raises Error.CoroutineReuse)) 0 ∷
    []) ∷
    -- P7 a child awaits its own gather: gather-reuse
    answered (
    Event.coroutine 7 ⇒ Answer.made 0 ∷
    Event.gather (0 ∷ []) ⇒ Answer.made 1 ∷
    Event.await 1 ⇒ Answer.awaited (runs 1 (start 0 7)) 1 ∷
    Event.await 1 ⇒ Answer.awaited (runs 1 (raises Error.GatherReuse)) 0 ∷
    []) ∷
    -- P8 stored 8, host 5: 8
    answered (
    Event.call ⇒ Answer.called 0 ∷
    Event.pending 0 (Some (plain 8)) ⇒ Answer.made 0 ∷
    Event.await 0 ⇒ Answer.awaited (waits (0 ∷ [])) 0 ∷
    Event.results (return 0 5 ∷ []) ⇒ Answer.done ∷
    Event.resume ⇒ Answer.control (runs 0 (value (plain 8))) ∷
    []) ∷
    -- P9 unknown call: no change
    unchanged
    (Event.call ⇒ Answer.called 0 ∷ pending 0 ⇒ Answer.made 0 ∷ Event.await 0 ⇒ Answer.awaited (waits (0 ∷ [])) 0 ∷ [])
    (Event.results (return 7 5 ∷ []) ⇒ Answer.done) ∷
    -- P10 a batch waking task 2, then 1: task 1 runs first (document 02, No. 7)
    answered (
    Event.coroutine 10 ⇒ Answer.made 0 ∷
    Event.coroutine 11 ⇒ Answer.made 1 ∷
    Event.call ⇒ Answer.called 0 ∷
    Event.call ⇒ Answer.called 1 ∷
    pending 0 ⇒ Answer.made 2 ∷
    pending 1 ⇒ Answer.made 3 ∷
    Event.gather (0 ∷ 1 ∷ []) ⇒ Answer.made 4 ∷
    Event.await 4 ⇒ Answer.awaited (runs 1 (start 0 10)) 1 ∷
    Event.await 2 ⇒ Answer.awaited (runs 2 (start 1 11)) 0 ∷
    Event.await 3 ⇒ Answer.awaited (waits (0 ∷ 1 ∷ [])) 0 ∷
    Event.results (return 1 5 ∷ return 0 6 ∷ []) ⇒ Answer.done ∷
    Event.resume ⇒ Answer.control (runs 1 (value (plain 6))) ∷
    Event.complete (plain 1) ⇒ Answer.control (runs 2 (value (plain 5))) ∷
    Event.complete (plain 2) ⇒ Answer.control (runs 0 (value (list 4))) ∷
    []) ∷
    -- one batch completes task 2's gather, then fails task 1's, which keeps the first error of the batch: task 1 runs first
    answered (
    Event.coroutine 10 ⇒ Answer.made 0 ∷
    Event.coroutine 11 ⇒ Answer.made 1 ∷
    Event.call ⇒ Answer.called 0 ∷
    Event.call ⇒ Answer.called 1 ∷
    Event.call ⇒ Answer.called 2 ∷
    pending 0 ⇒ Answer.made 2 ∷
    pending 1 ⇒ Answer.made 3 ∷
    pending 2 ⇒ Answer.made 4 ∷
    Event.gather (0 ∷ 1 ∷ []) ⇒ Answer.made 5 ∷
    Event.gather (2 ∷ 3 ∷ []) ⇒ Answer.made 6 ∷
    Event.gather (4 ∷ []) ⇒ Answer.made 7 ∷
    Event.await 5 ⇒ Answer.awaited (runs 1 (start 0 10)) 1 ∷
    Event.await 6 ⇒ Answer.awaited (runs 2 (start 1 11)) 1 ∷
    Event.await 7 ⇒ Answer.awaited (waits (0 ∷ 1 ∷ 2 ∷ [])) 1 ∷
    Event.results (return 2 5 ∷ error 1 12 ∷ error 0 11 ∷ []) ⇒ Answer.done ∷
    Event.resume ⇒ Answer.control (runs 1 (raises (Error.Host 12))) ∷
    Event.complete (plain 1) ⇒ Answer.control (runs 2 (value (list 7))) ∷
    []) ∷
    -- P11 f1 then f2 fail: the waiter gets f1's error only
    answered (
    Event.call ⇒ Answer.called 0 ∷
    Event.call ⇒ Answer.called 1 ∷
    pending 0 ⇒ Answer.made 0 ∷
    pending 1 ⇒ Answer.made 1 ∷
    Event.gather (0 ∷ 1 ∷ []) ⇒ Answer.made 2 ∷
    Event.await 2 ⇒ Answer.awaited (waits (0 ∷ 1 ∷ [])) 1 ∷
    Event.results (error 0 3 ∷ error 1 4 ∷ []) ⇒ Answer.done ∷
    Event.resume ⇒ Answer.control (runs 0 (raises (Error.Host 3))) ∷
    Event.show 2 ⇒ Answer.shows (Shown.a_gather_failed (Error.Host 3)) ∷
    Event.call ⇒ Answer.called 2 ∷
    pending 2 ⇒ Answer.made 3 ∷
    Event.await 3 ⇒ Answer.awaited (waits (2 ∷ [])) 0 ∷
    []) ∷
    -- P12 cancelling a task blocked on a gather removes its children, queued ones too
    answered (
    Event.coroutine 10 ⇒ Answer.made 0 ∷
    Event.coroutine 11 ⇒ Answer.made 1 ∷
    Event.coroutine 12 ⇒ Answer.made 2 ∷
    Event.call ⇒ Answer.called 0 ∷
    Event.call ⇒ Answer.called 1 ∷
    Event.call ⇒ Answer.called 2 ∷
    pending 0 ⇒ Answer.made 3 ∷
    pending 1 ⇒ Answer.made 4 ∷
    pending 2 ⇒ Answer.made 5 ∷
    Event.gather (1 ∷ 2 ∷ []) ⇒ Answer.made 6 ∷
    Event.gather (0 ∷ 3 ∷ []) ⇒ Answer.made 7 ∷
    Event.await 7 ⇒ Answer.awaited (runs 1 (start 0 10)) 1 ∷
    Event.await 6 ⇒ Answer.awaited (runs 2 (start 1 11)) 1 ∷
    Event.await 4 ⇒ Answer.awaited (runs 3 (start 2 12)) 0 ∷
    Event.await 5 ⇒ Answer.awaited (waits (0 ∷ 1 ∷ 2 ∷ [])) 0 ∷
    Event.results (return 1 9 ∷ []) ⇒ Answer.done ∷
    Event.cancel 1 ⇒ Answer.cancelled 1 ∷
    Event.resume ⇒ Answer.control (waits (0 ∷ 2 ∷ [])) ∷
    Event.cancel 2 ⇒ Answer.refused 5 ∷
    Event.cancel 3 ⇒ Answer.refused 5 ∷
    Event.cancel 0 ⇒ Answer.refused 9 ∷
    []) ∷
    -- a gather names a gather completed before and one that completes in this commit, then a failed item: those two stay completed;
    -- with no failed item the completed one is a value; an error in a nested gather fails both
    answered (
    Event.gather [] ⇒ Answer.made 0 ∷
    Event.await 0 ⇒ Answer.awaited (runs 0 (value (list 0))) 1 ∷
    Event.gather [] ⇒ Answer.made 1 ∷
    Event.call ⇒ Answer.called 0 ∷
    pending 0 ⇒ Answer.made 2 ∷
    Event.results (error 0 3 ∷ []) ⇒ Answer.done ∷
    Event.gather (0 ∷ 1 ∷ 2 ∷ []) ⇒ Answer.made 3 ∷
    Event.await 3 ⇒ Answer.awaited (runs 0 (raises (Error.Host 3))) 3 ∷
    Event.show 0 ⇒ Answer.shows (Shown.a_gather_completed []) ∷
    Event.show 1 ⇒ Answer.shows (Shown.a_gather_completed []) ∷
    Event.show 3 ⇒ Answer.shows (Shown.a_gather_failed (Error.Host 3)) ∷
    Event.await 3 ⇒ Answer.awaited (runs 0 (raises (Error.Host 3))) 0 ∷
    Event.settled (plain 6) ⇒ Answer.made 4 ∷
    Event.gather (0 ∷ 4 ∷ []) ⇒ Answer.made 5 ∷
    Event.await 5 ⇒ Answer.awaited (runs 0 (value (list 5))) 1 ∷
    Event.show 5 ⇒ Answer.shows (Shown.a_gather_completed (some (list 0) ∷ some (plain 6) ∷ [])) ∷
    Event.gather (2 ∷ []) ⇒ Answer.made 6 ∷
    Event.gather (6 ∷ []) ⇒ Answer.made 7 ∷
    Event.await 7 ⇒ Answer.awaited (runs 0 (raises (Error.Host 3))) 2 ∷
    Event.show 6 ⇒ Answer.shows (Shown.a_gather_failed (Error.Host 3)) ∷
    Event.show 7 ⇒ Answer.shows (Shown.a_gather_failed (Error.Host 3)) ∷
    []) ∷
    -- a nested gather named twice: opened once, and both places get its list
    answered (
    Event.coroutine 7 ⇒ Answer.made 0 ∷
    Event.gather (0 ∷ []) ⇒ Answer.made 1 ∷
    Event.gather (1 ∷ 1 ∷ []) ⇒ Answer.made 2 ∷
    Event.await 2 ⇒ Answer.awaited (runs 1 (start 0 7)) 3 ∷
    Event.show 2 ⇒ Answer.shows (Shown.a_gather_awaited (none ∷ none ∷ [])) ∷
    Event.complete (plain 4) ⇒ Answer.control (runs 0 (value (list 2))) ∷
    Event.show 1 ⇒ Answer.shows (Shown.a_gather_completed (some (plain 4) ∷ [])) ∷
    Event.show 2 ⇒ Answer.shows (Shown.a_gather_completed (some (list 1) ∷ some (list 1) ∷ [])) ∷
    []) ∷
    -- an await of task 1 that answers for task 0: task 2, next in the queue, fails at its first run, and that wakes main
    answered (
    Event.coroutine 10 ⇒ Answer.made 0 ∷
    Event.coroutine 11 ⇒ Answer.made 1 ∷
    Event.call ⇒ Answer.called 0 ∷
    pending 0 ⇒ Answer.made 2 ∷
    Event.gather (0 ∷ 1 ∷ []) ⇒ Answer.made 3 ∷
    Event.await 3 ⇒ Answer.awaited (runs 1 (start 0 10)) 1 ∷
    Event.await 1 ⇒ Answer.awaited (runs 1 (inline 1)) 0 ∷
    Event.await 2 ⇒ Answer.awaited (runs 0 (raises Error.CoroutineReuse)) 0 ∷
    Event.show 3 ⇒ Answer.shows (Shown.a_gather_failed Error.CoroutineReuse) ∷
    Event.results (return 0 6 ∷ []) ⇒ Answer.done ∷
    Event.fail 1 ⇒ Answer.finished_error (Error.Script 1) ∷
    []) ∷
    -- a chain of failed starts: three tasks die in one await, and nothing is left to run
    answered (
    Event.coroutine 10 ⇒ Answer.made 0 ∷
    Event.coroutine 11 ⇒ Answer.made 1 ∷
    Event.coroutine 12 ⇒ Answer.made 2 ∷
    Event.call ⇒ Answer.called 0 ∷
    pending 0 ⇒ Answer.made 3 ∷
    Event.results (error 0 3 ∷ []) ⇒ Answer.done ∷
    Event.gather (0 ∷ 1 ∷ 2 ∷ 3 ∷ []) ⇒ Answer.made 4 ∷
    Event.await 4 ⇒ Answer.awaited (runs 0 (raises (Error.Host 3))) 1 ∷
    Event.await 0 ⇒ Answer.awaited (runs 0 (inline 0)) 0 ∷
    Event.await 1 ⇒ Answer.awaited (runs 0 (inline 1)) 0 ∷
    Event.await 2 ⇒ Answer.awaited (runs 0 (inline 2)) 0 ∷
    Event.call ⇒ Answer.called 1 ∷
    pending 1 ⇒ Answer.made 5 ∷
    Event.await 5 ⇒ Answer.awaited (waits (1 ∷ [])) 0 ∷
    Event.cancel 1 ⇒ Answer.refused 5 ∷
    Event.cancel 2 ⇒ Answer.refused 5 ∷
    Event.cancel 3 ⇒ Answer.refused 5 ∷
    Event.resume ⇒ Answer.control (waits (1 ∷ [])) ∷
    []) ∷
    -- cancel through a nested gather and through a child blocked on its own gather: tasks 1, 2 and 3 go; the gathers stay awaited;
    -- then nothing can go on
    answered (
    Event.coroutine 10 ⇒ Answer.made 0 ∷
    Event.coroutine 11 ⇒ Answer.made 1 ∷
    Event.coroutine 12 ⇒ Answer.made 2 ∷
    Event.call ⇒ Answer.called 0 ∷
    pending 0 ⇒ Answer.made 3 ∷
    Event.gather (2 ∷ []) ⇒ Answer.made 4 ∷
    Event.gather (1 ∷ 1 ∷ []) ⇒ Answer.made 5 ∷
    Event.gather (5 ∷ 5 ∷ []) ⇒ Answer.made 6 ∷
    Event.gather (0 ∷ []) ⇒ Answer.made 7 ∷
    Event.await 7 ⇒ Answer.awaited (runs 1 (start 0 10)) 1 ∷
    Event.await 6 ⇒ Answer.awaited (runs 2 (start 1 11)) 3 ∷
    Event.await 4 ⇒ Answer.awaited (runs 3 (start 2 12)) 1 ∷
    Event.await 3 ⇒ Answer.awaited (waits (0 ∷ [])) 0 ∷
    Event.cancel 1 ⇒ Answer.cancelled 0 ∷
    Event.cancel 2 ⇒ Answer.refused 5 ∷
    Event.cancel 3 ⇒ Answer.refused 5 ∷
    Event.show 5 ⇒ Answer.shows (Shown.a_gather_awaited (none ∷ none ∷ [])) ∷
    Event.resume ⇒ Answer.control (waits (0 ∷ [])) ∷
    Event.results (return 0 7 ∷ []) ⇒ Answer.done ∷
    Event.resume ⇒ Answer.stalled ∷
    []) ∷
    -- main, whose gather has failed, ends while task 1 stands in the queue: nobody is left there (eager is yes)
    answered (
    Event.coroutine 10 ⇒ Answer.made 0 ∷
    Event.call ⇒ Answer.called 0 ∷
    Event.call ⇒ Answer.called 1 ∷
    pending 0 ⇒ Answer.made 1 ∷
    pending 1 ⇒ Answer.made 2 ∷
    Event.gather (0 ∷ 2 ∷ []) ⇒ Answer.made 3 ∷
    Event.await 3 ⇒ Answer.awaited (runs 1 (start 0 10)) 1 ∷
    Event.await 1 ⇒ Answer.awaited (waits (0 ∷ 1 ∷ [])) 0 ∷
    Event.results (error 1 9 ∷ return 0 5 ∷ []) ⇒ Answer.done ∷
    Event.resume ⇒ Answer.control (runs 0 (raises (Error.Host 9))) ∷
    Event.eager ⇒ Answer.is_eager false ∷
    Event.complete (plain 1) ⇒ Answer.finished (plain 1) ∷
    Event.eager ⇒ Answer.is_eager true ∷
    []) ∷
    -- a wait with no call: the cancelled task 2 leaves its place open, task 1 ends, and nothing is ready or pending; resume is stalled
    answered (
    Event.coroutine 10 ⇒ Answer.made 0 ∷
    Event.coroutine 11 ⇒ Answer.made 1 ∷
    Event.call ⇒ Answer.called 0 ∷
    Event.call ⇒ Answer.called 1 ∷
    pending 0 ⇒ Answer.made 2 ∷
    pending 1 ⇒ Answer.made 3 ∷
    Event.gather (0 ∷ 1 ∷ []) ⇒ Answer.made 4 ∷
    Event.await 4 ⇒ Answer.awaited (runs 1 (start 0 10)) 1 ∷
    Event.await 2 ⇒ Answer.awaited (runs 2 (start 1 11)) 0 ∷
    Event.await 3 ⇒ Answer.awaited (waits (0 ∷ 1 ∷ [])) 0 ∷
    Event.cancel 2 ⇒ Answer.cancelled 0 ∷
    Event.results (return 0 5 ∷ return 1 6 ∷ []) ⇒ Answer.done ∷
    Event.resume ⇒ Answer.control (runs 1 (value (plain 5))) ∷
    Event.complete (plain 1) ⇒ Answer.control (waits []) ∷
    Event.resume ⇒ Answer.stalled ∷
    Event.show 4 ⇒ Answer.shows (Shown.a_gather_awaited (some (plain 1) ∷ none ∷ [])) ∷
    Event.eager ⇒ Answer.is_eager true ∷
    []) ∷
    -- moments and refusals; an answered call may be made pending again; after the end reads go on
    answered (
    Event.resume ⇒ Answer.refused 4 ∷
    Event.cancel 0 ⇒ Answer.refused 4 ∷
    Event.show 0 ⇒ Answer.refused 5 ∷
    Event.await 0 ⇒ Answer.refused 5 ∷
    pending 0 ⇒ Answer.refused 5 ∷
    Event.call ⇒ Answer.called 0 ∷
    pending 0 ⇒ Answer.made 0 ∷
    pending 0 ⇒ Answer.refused 6 ∷
    Event.eager ⇒ Answer.is_eager false ∷
    Event.results (return 0 5 ∷ []) ⇒ Answer.done ∷
    pending 0 ⇒ Answer.made 1 ∷
    Event.gather (replicate 33 0) ⇒ Answer.refused 7 ∷
    Event.gather (0 ∷ 2 ∷ []) ⇒ Answer.refused 5 ∷
    Event.complete (list 0) ⇒ Answer.refused 5 ∷
    Event.settled (list 0) ⇒ Answer.refused 5 ∷
    Event.pending 0 (Some (list 0)) ⇒ Answer.refused 5 ∷
    Event.settled (plain 1) ⇒ Answer.made 2 ∷
    Event.call ⇒ Answer.called 2 ∷
    Event.gather (replicate 32 2) ⇒ Answer.made 3 ∷
    Event.fail 3 ⇒ Answer.finished_error (Error.Script 3) ∷
    Event.coroutine 7 ⇒ Answer.refused 3 ∷
    Event.await 0 ⇒ Answer.refused 3 ∷
    Event.results [] ⇒ Answer.refused 3 ∷
    Event.resume ⇒ Answer.refused 3 ∷
    Event.cancel 0 ⇒ Answer.refused 3 ∷
    Event.show 2 ⇒ Answer.shows (Shown.an_external_resolved (plain 1)) ∷
    Event.show 1 ⇒ Answer.shows Shown.an_external_pending ∷
    Event.eager ⇒ Answer.is_eager true ∷
    []) ∷
    []
