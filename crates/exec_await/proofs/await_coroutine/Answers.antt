use Rattle.machine.specs.Store.{store_of}
use Rattle.exec_await.specs.AwaitLaws.{coroutine-runs, coroutine-refused}
use Rattle.exec_await.proofs.await_coroutine.Goals as goal

pub returns-in-New : goal.returns-in-New
returns-in-New c = λ ts ps q l.
    coroutine-runs ts c.args.objects.now ps q l c.args.t c.args.o c.args.function _ c.in-New.is c.store_object.ensures c.stay.result.control c.stay.result.steps (c.stay.ensures (store_of ts _ ps q l))

pub returns-in_default : goal.returns-in_default
returns-in_default c = λ ts ps q l.
    coroutine-refused ts c.args.objects.now ps q l c.args.t c.args.o c.args.function c.args.state c.in_default.not-New c.stay-in_default.result.control c.stay-in_default.result.steps (c.stay-in_default.ensures (store_of ts c.args.objects.now ps q l))
