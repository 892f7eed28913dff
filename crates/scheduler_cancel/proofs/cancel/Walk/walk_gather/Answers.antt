use mathlib.Core.Path.{◌≡◌, refl, sym}
use Rattle.std.specs.Prelude.{None}
use Rattle.std.proofs.Math.Option.{none, some}
use Rattle.rows.specs.Tables.{object_at}
use Rattle.machine.specs.Scheduler.{as_awaited, walk_gather}
use Rattle.scheduler_states.specs.Awaited.{awaited_gather_of}
use Rattle.scheduler_states.specs.AwaitedLaws.{awaited_range}
use Rattle.scheduler_cancel.proofs.Cases.{not_some}
use Rattle.scheduler_cancel.proofs.cancel.Walk.walk_gather.Goals as goal

pub visit_open-requires : goal.visit_open-requires
visit_open-requires c = (c.requires.0, awaited_range c.args.objects.now c.args.g.0 _ _ c.as_awaited.ensures c.in-Some.is)

pub returns-in-Some-clause-walks : goal.returns-in-Some-clause-walks
unfolding walk_gather
returns-in-Some-clause-walks c =
    let found : as_awaited (object_at c.args.objects.now c.args.g.0) ≡ some (awaited_gather_of c.in-Some.gather) = sym (rw c.in-Some.is at c.as_awaited.ensures) in
    rw found c.visit_open.ensures.walks

pub returns-in_default-clause-walks : goal.returns-in_default-clause-walks
unfolding walk_gather
returns-in_default-clause-walks c =
    let absent : c.as_awaited.result ≡ None = not_some _ c.in_default.not-Some in
    let found : as_awaited (object_at c.args.objects.now c.args.g.0) ≡ none = sym (rw absent at c.as_awaited.ensures) in
    rw found (λ l. record { shows = refl })
