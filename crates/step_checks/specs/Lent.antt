-- An event on lent memory, as the code answers it.
use Rattle.std.specs.Prelude.{◌≡◌, ℕ, Bool, true, false, ◌&&◌, List, eqb, length}
use Rattle.asyncio.specs.Limits.{tasks_length, objects_length, places_length}
use Rattle.machine.specs.Store.{Store}
use Rattle.machine.specs.Machine as machine
use Rattle.machine.specs.Answers.{answer_numbers}
use Rattle.machine.specs.Lent.{Lent, answer_calls, written}
use Rattle.contract.specs.Contract.{Words, Slice}
use Rattle.exec_switch.specs.Answer.{answer_of}
use Rattle.exec_switch.specs.declared.control.Control.{Control}
use Rattle.exec_switch.specs.declared.answer.Answer.{Answer}

-- the lengths of the three slices
abbrev pub are_slices : ℕ → ℕ → ℕ → Bool
are_slices ts os ps = eqb ts tasks_length && eqb os objects_length && eqb ps places_length

-- of lent ones
abbrev pub slices_fit : Words → Words → Words → Bool
slices_fit tasks objects places = are_slices (length tasks) (length objects) (length places)

-- the host has control
abbrev pub host_waits : Control → Bool
host_waits (Control.Runs t h) = false
host_waits Control.Waits = true

-- is it a wait?
abbrev pub is_wait : Answer → Bool
is_wait (Answer.Made o) = false
is_wait (Answer.Called n) = false
is_wait (Answer.Switched c) = host_waits c
is_wait (Answer.Awaited c n) = host_waits c
is_wait Answer.Done = false
is_wait (Answer.Cancelled n) = false
is_wait Answer.Stalled = false
is_wait (Answer.Finished v) = false
is_wait (Answer.FinishedError e) = false
is_wait (Answer.Eager b) = false
is_wait (Answer.Refused n) = false

-- a store, the list of calls, the answer, and how many calls a wait wrote
abbrev pub lent_of : Store → List ℕ → Answer → ℕ → Lent
lent_of s cs a n =
    let x : machine.Answer = answer_of s.objects a in
    record { store = s; list = cs; answer = x; numbers = answer_numbers x; count = n }

-- The call writes the calls of a wait at the list's front, as document 01 has it, and returns how many there are.
abbrev pub WritesWait : Words → Slice → Answer → ℕ → Type 0
WritesWait objects calls answer r =
    let x : machine.Answer = answer_of objects answer in
    (calls.exit.now ≡ written x calls.entry.now) × (r ≡ length (answer_calls x))
