use mathlib.Core.List.{◌∷◌}
use Rattle.machine.specs.Store.{store_of, blocked}
use Rattle.exec_await.specs.AwaitLaws.{goes-ready, goes-raised, goes-blocked}
use Rattle.exec_await.proofs.go_on.Goals as goal

pub returns-in-Ready : goal.returns-in-Ready
returns-in-Ready c = λ ps l w.
    goes-ready c.args.tasks.now c.args.objects.now ps c.args.queue.now l c.args.t c.args.o c.args.steps _ _ c.in-Ready.is c.stay.result.control c.stay.result.steps (c.stay.ensures (store_of c.args.tasks.now c.args.objects.now ps c.args.queue.now l))

pub returns-in-Raised : goal.returns-in-Raised
returns-in-Raised c = λ ps l w.
    goes-raised c.args.tasks.now c.args.objects.now ps c.args.queue.now l c.args.t c.args.o c.args.steps _ _ c.in-Raised.is c.stay-in-Raised.result.control c.stay-in-Raised.result.steps (c.stay-in-Raised.ensures (store_of c.args.tasks.now c.args.objects.now ps c.args.queue.now l))

pub returns-in-Pending : goal.returns-in-Pending
returns-in-Pending c = λ ps l w.
    goes-blocked c.args.tasks.now c.args.objects.now ps c.args.queue.now l c.args.t c.args.o c.args.steps _ c.in-Pending.is c.block_current_on.ensures c.switch_or_yield-control.result (c.switch_or_yield-control.ensures ps (blocked c.args.t.0 ∷ l) w)
