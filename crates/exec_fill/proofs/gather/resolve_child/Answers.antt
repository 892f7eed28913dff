use Rattle.scheduler_states.specs.AwaitedLaws.{awaited_range}
use Rattle.exec_fill.specs.StepLaws.{resolve_idle, resolve_completes, resolve_waits}
use Rattle.exec_fill.proofs.gather.resolve_child.Goals as goal

pub returns-in_err-w : goal.returns-in_err-w
returns-in_err-w c = λ ts q l.
    rw c.from_residual.ensures (resolve_idle ts c.args.objects.now c.args.places.now q l c.args.g.0 c.as_awaited.ensures c.args.source.0 c.args.value c.in_err-w.was)

pub fill_places-open_places-requires : goal.fill_places-open_places-requires
fill_places-open_places-requires c = awaited_range _ _ _ _ c.as_awaited.ensures c.in_ok-w.was

pub returns-then-open_places-eq0 : goal.returns-then-open_places-eq0
returns-then-open_places-eq0 c = λ ts q l.
    resolve_completes ts c.args.objects.now c.args.places.now q l c.args.g.0 c.as_awaited.ensures c.args.source.0 c.args.value _ c.in_ok-w.was
    c.fill_places-open_places.ensures c.if-open_places-eq0.true c.put_gather.ensures

pub returns : goal.returns
returns c = λ ts q l.
    resolve_waits ts c.args.objects.now c.args.places.now q l c.args.g.0 c.as_awaited.ensures c.args.source.0 c.args.value _ c.in_ok-w.was
    c.fill_places-open_places.ensures c.if-open_places-eq0.false c.put_gather-2.ensures
