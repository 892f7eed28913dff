use mathlib.Core.Path.{refl, ◌∙◌}
use mathlib.Core.List.{[]}
use Prim.Native.Nat.{◌+◌}
use native.Mathlib.Omega.{arith}
use Rattle.scheduler_states.specs.Awaited.{awaited_gather_of}
use Rattle.scheduler_cancel.specs.Cancel.{walked}
use Rattle.scheduler_cancel.specs.CancelLaws.{open_begin, open_turn, open_end, open_room}
use Rattle.machine_laws.specs.CycleLaws.{place_counts_kept}
use Rattle.scheduler_cancel.proofs.Marks.{marks_kept}
use Rattle.scheduler_cancel.proofs.cancel.Walk.visit_open.Goals as goal

pub loop-i-init : goal.loop-i-init
loop-i-init c = record { keeps = refl; walks = λ l. record { log = l; gives = open_begin _ _ _ }; long = omega arith; room = c.requires.0 }

pub visit_place-requires : goal.visit_place-requires
visit_place-requires c = (c.loop-i.invariant.room, omega (arith, c.requires.1.within), omega (arith, c.requires.1.at_most))

pub loop-i-preserved : goal.loop-i-preserved
loop-i-preserved c =
    let i = c.loop-i in
    let walks = rw i.invariant.keeps at c.visit_place.ensures.walks in
    record {
      keeps = c.visit_place.ensures.keeps ∙ i.invariant.keeps;
      walks = λ l. open_turn c.args.self.now.table i.tasks c.args.objects.now c.args.places.now (walked i.queue i.self.depth) i.self.marks i.self.stack (awaited_gather_of c.args.gather) i.i c.args.gather.count c.loop-i-test.true (λ m. walks m) (i.invariant.walks l);
      long = marks_kept (walks []) (place_counts_kept _ i.invariant.long _ _ _);
      room = omega (arith, open_room c.args.self.now.table i.tasks c.args.objects.now c.args.places.now (walked i.queue i.self.depth) [] i.self.marks i.self.stack (c.args.gather.first + i.i) i.i c.args.gather.open_places i.invariant.long (walks []), i.invariant.room);
    }

pub returns-clause-walks : goal.returns-clause-walks
returns-clause-walks c = λ l. let i = c.loop-i in open_end c.args.self.now.table i.tasks c.args.objects.now c.args.places.now (walked i.queue i.self.depth) i.self.marks i.self.stack (awaited_gather_of c.args.gather) i.i c.args.gather.count c.loop-i-test.false (i.invariant.walks l)
