use mathlib.Core.Path.{refl}
use Rattle.machine.specs.Store.{store_of}
use Rattle.machine.specs.Events.{await_gather}
use Rattle.exec_await.specs.AwaitLaws.{gather_commits, gather-stays}
use Rattle.exec_await.proofs.await_gather_future.Goals as goal

pub returns-in-Pending : goal.returns-in-Pending
returns-in-Pending c = λ l.
    gather_commits c.args.tasks.now c.args.objects.now c.args.places.now c.args.queue.now l c.args.t c.args.o _ c.in-Pending.is c.commit_gather_tree-committed.result.poll c.commit_gather_tree-committed.result.steps
    (c.commit_gather_tree-committed.ensures l) c.go_on.result.control c.go_on.result.steps (c.go_on.ensures _ _ c.commit_gather_tree-committed.array_long3)

pub returns-in-Awaited : goal.returns-in-Awaited
unfolding await_gather
returns-in-Awaited c = λ l.
    gather-stays c.args.tasks.now c.args.objects.now c.args.places.now c.args.queue.now l c.args.t c.args.o _ _ c.in-Awaited.is _ refl
    c.stay.result.control c.stay.result.steps (c.stay.ensures (store_of c.args.tasks.now c.args.objects.now c.args.places.now c.args.queue.now l))

pub returns-in-Completed : goal.returns-in-Completed
unfolding await_gather
returns-in-Completed c = λ l.
    gather-stays c.args.tasks.now c.args.objects.now c.args.places.now c.args.queue.now l c.args.t c.args.o _ _ c.in-Completed.is _ refl
    c.stay-in-Completed.result.control c.stay-in-Completed.result.steps (c.stay-in-Completed.ensures (store_of c.args.tasks.now c.args.objects.now c.args.places.now c.args.queue.now l))

pub returns-in-Failed : goal.returns-in-Failed
unfolding await_gather
returns-in-Failed c = λ l.
    gather-stays c.args.tasks.now c.args.objects.now c.args.places.now c.args.queue.now l c.args.t c.args.o _ _ c.in-Failed.is _ refl
    c.stay-in-Failed.result.control c.stay-in-Failed.result.steps (c.stay-in-Failed.ensures (store_of c.args.tasks.now c.args.objects.now c.args.places.now c.args.queue.now l))
