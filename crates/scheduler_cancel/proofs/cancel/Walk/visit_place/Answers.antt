use mathlib.Core.Path.{sym, ◌∙◌}
use Rattle.scheduler_cancel.specs.Cancel.{walked}
use Rattle.scheduler_cancel.specs.CancelLaws.{item_fits, place_shut, place_open}
use Rattle.scheduler_cancel.proofs.Cases.{bit_clear, bit_set}
use Rattle.scheduler_cancel.proofs.cancel.Walk.visit_place.Goals as goal

pub visit-requires : goal.visit-requires
visit-requires c = (c.requires.0, item_fits c.args.places.now c.args.p c.item_at-o.ensures)

pub returns-then-is_bit_open-clause-walks : goal.returns-then-is_bit_open-clause-walks
returns-then-is_bit_open-clause-walks c = λ l. place_open c.args.self.now.table c.args.tasks.now c.args.objects.now c.args.places.now (walked c.args.queue.now c.args.self.now.depth) l c.args.self.now.marks c.args.self.now.stack c.args.p c.args.i c.args.open_places (bit_set c.args.open_places c.args.i (sym c.is_bit_open.ensures ∙ c.if-is_bit_open.true)) c.item_at-o.ensures (c.visit.ensures.walks c.args.places.now l)

pub returns-else-is_bit_open-clause-walks : goal.returns-else-is_bit_open-clause-walks
returns-else-is_bit_open-clause-walks c = λ l. place_shut c.args.self.now.table c.args.tasks.now c.args.objects.now c.args.places.now (walked c.args.queue.now c.args.self.now.depth) l c.args.self.now.marks c.args.self.now.stack c.args.p c.args.i c.args.open_places (bit_clear c.args.open_places c.args.i (sym c.is_bit_open.ensures ∙ c.if-is_bit_open.false))
