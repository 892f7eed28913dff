use native.Mathlib.Omega.{arith}
use Rattle.scheduler_states.specs.AwaitedLaws.{awaited_range}
use Rattle.exec_commit.specs.StepLaws.{place_range, item_range, step-none, step-nested, step-polled}
use Rattle.exec_commit.proofs.NoGather.{not_some}
use Rattle.exec_commit.proofs.step.step_item.Goals as goal

pub returns-in_default : goal.returns-in_default
returns-in_default c = λ l go. step-none c.args.tasks.now c.args.objects.now c.args.places.now c.args.queue.now l c.args.g.0 c.args.i c.as_awaited.result c.as_awaited.ensures (not_some _ c.in_default.not-Some) go

pub overflow_add-w : goal.overflow_add-w
overflow_add-w c = omega (arith, (place_range _ _ c.as_awaited.result _ _ c.as_awaited.ensures c.in-Some.is c.requires.1).in_places)

pub item_at-o-requires : goal.item_at-o-requires
item_at-o-requires c = (place_range _ _ c.as_awaited.result _ _ c.as_awaited.ensures c.in-Some.is c.requires.1).in_places

pub item-requires : goal.item-requires
item-requires c = (awaited_range _ _ c.as_awaited.result _ c.as_awaited.ensures c.in-Some.is, item_range _ _ c.item_at-o.ensures)

pub returns-in_default-item : goal.returns-in_default-item
returns-in_default-item c = λ l go. step-nested c.args.tasks.now c.args.objects.now c.args.places.now c.args.queue.now l c.args.g.0 c.args.i c.as_awaited.result c.as_awaited.ensures _ c.in-Some.is c.item_at-o.ensures c.item.result (c.item.ensures l) (not_some _ c.in_default-item.not-Some) go

pub put_polled-requires : goal.put_polled-requires
put_polled-requires c =
    let r = place_range _ _ c.as_awaited.result _ _ c.as_awaited.ensures c.in-Some.is c.requires.1 in
    (c.requires.0, r.in_items, r.in_places)

pub returns : goal.returns
returns c = λ l go. step-polled c.args.tasks.now c.args.objects.now c.args.places.now c.args.queue.now l c.args.g.0 c.args.i c.as_awaited.result c.as_awaited.ensures _ c.in-Some.is c.item_at-o.ensures c.item.result (c.item.ensures l) _ c.in-Some-item.is _ _ c.put_polled.result (λ k. c.put_polled.ensures _ _ k) go
