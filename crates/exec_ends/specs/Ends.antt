-- What the end of a task does.
use Rattle.machine.specs.Store.{Store}
use Rattle.machine.specs.Events as machine
use Rattle.contract.specs.Contract.{Slice, Does, LentQueue}
use Rattle.exec_switch.specs.Control.{switched_of}
use Rattle.exec_switch.specs.declared.control.Control.{Control}

-- The call gives control to whom f gives it, with a lent queue.
abbrev pub Switches : Slice → Slice → Slice → LentQueue → (Store → machine.Switched) → Control → Type 0
Switches tasks objects places queue f r = Does (λ x. x.store.log) tasks objects places queue.entry.now queue.exit.now (λ s. switched_of s r) f
