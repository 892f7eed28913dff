use Rattle.std.specs.Prelude.{length}
use Rattle.std.proofs.Common.{ap}
use Rattle.step_checks.specs.LentLaws.{slices_have}
use Rattle.session_begin.specs.Begin.{with_numbers}
use Rattle.session_begin.specs.BeginLaws.{begin_refused, begins}
use Rattle.session_begin.proofs.begin.Goals as goal

pub returns-then-not-slices_right : goal.returns-then-not-slices_right
returns-then-not-slices_right c = λ l. ap with_numbers (begin_refused c.args.tasks.now c.args.objects.now c.args.places.now c.args.queue l c.slices_right.ensures c.if-not-slices_right.true)

pub returns : goal.returns
returns c = λ l.
    let h = slices_have (length c.args.tasks.now) (length c.args.objects.now) (length c.args.places.now) c.slices_right.ensures c.if-not-slices_right.false in
    ap with_numbers
    (begins c.args.tasks.now c.args.objects.now c.args.places.now c.args.queue l c.slices_right.ensures c.if-not-slices_right.false h.0 h.1 h.2
    (rw h.0) (rw h.1) (rw h.2) c.store_main.ensures.0 c.store_main.ensures.1 c.new.ensures)
