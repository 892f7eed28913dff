-- The answers, as the code gives them.
use Rattle.std.specs.Prelude.{ℕ, List, Result, Ok, Err}
use Rattle.machine.specs.Store.{Store}
use Rattle.machine.specs.Scheduler.{pending_calls_in}
use Rattle.machine.specs.Machine as machine
use Rattle.contract.specs.Contract.{Slice, LentQueue, Does, DoesKeepingPlaces, DoesOfObjects, DoesOfObjectsAndPlaces}
use Rattle.exec_switch.specs.Control.{control_with}
use Rattle.exec_switch.specs.Refusal.{refusal_number}
use Rattle.exec_switch.specs.declared.answer.Answer.{Answer}
use Rattle.exec_switch.specs.declared.answer.Refusal.{Refusal}

-- the answer: a wait with these calls
abbrev pub answer_with : List ℕ → Answer → machine.Answer
answer_with cs (Answer.Made o) = machine.Answer.made o.0
answer_with cs (Answer.Called n) = machine.Answer.called n.0
answer_with cs (Answer.Switched c) = machine.Answer.control (control_with cs c)
answer_with cs (Answer.Awaited c n) = machine.Answer.awaited (control_with cs c) n
answer_with cs Answer.Done = machine.Answer.done
answer_with cs (Answer.Cancelled n) = machine.Answer.cancelled n
answer_with cs Answer.Stalled = machine.Answer.stalled
answer_with cs (Answer.Finished v) = machine.Answer.finished v
answer_with cs (Answer.FinishedError e) = machine.Answer.finished_error e
answer_with cs (Answer.Eager b) = machine.Answer.is_eager b
answer_with cs (Answer.Refused r) = machine.Answer.refused (refusal_number r)

-- a wait's calls are those pending in the store
abbrev pub answer_of : List ℕ → Answer → machine.Answer
answer_of os a = answer_with (pending_calls_in os) a

-- what an event with refusals answers: the answer, or the refusal
abbrev pub answer_or : Result Answer Refusal → Answer
answer_or (Ok a) = a
answer_or (Err r) = Answer.Refused r

-- a store, and the answer
abbrev pub stepped_of : Store → Answer → machine.Step
stepped_of s a = record { store = s; answer = answer_of s.objects a }

-- The call leaves and answers what f does.
abbrev pub Answers : Slice → Slice → Slice → LentQueue → (Store → machine.Step) → Answer → Type 0
Answers tasks objects places queue f r = Does (λ x. x.store.log) tasks objects places queue.entry.now queue.exit.now (λ s. stepped_of s r) f

-- The same of a call that does not take the places.
abbrev pub AnswersKeepingPlaces : Slice → Slice → LentQueue → (Store → machine.Step) → Answer → Type 0
AnswersKeepingPlaces tasks objects queue f r = DoesKeepingPlaces (λ x. x.store.log) tasks objects queue.entry.now queue.exit.now (λ s. stepped_of s r) f

-- The same of a call that takes the objects alone, and logs nothing: with every queue.
abbrev pub AnswersOfObjects : Slice → (Store → machine.Step) → Answer → Type 0
AnswersOfObjects objects f r = DoesOfObjects objects (λ s. stepped_of s r) f

-- and of one that takes the places, too
abbrev pub AnswersOfObjectsAndPlaces : Slice → Slice → (Store → machine.Step) → Answer → Type 0
AnswersOfObjectsAndPlaces objects places f r = DoesOfObjectsAndPlaces objects places (λ s. stepped_of s r) f
