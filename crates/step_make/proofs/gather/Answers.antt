use mathlib.Core.Path.{refl}
use Rattle.rows.specs.TableLaws.{header_read}
use Rattle.machine.specs.Machine.{refusals}
use Rattle.step_checks.specs.StepLaws.{handed_on, no_turn, gather-unmade, gather-full, gather-made, gather-room}
use Rattle.step_make.proofs.gather.Goals as goal

pub returns-in_err-running : goal.returns-in_err-running
unfolding refusals
returns-in_err-running c = λ ts q l. rw (handed_on _ _ c.from_residual.ensures.1) (no_turn ts c.args.objects.now c.args.places.now q l c.running.ensures _ _ refl _ c.in_err-running.was)

pub returns-then-any_unmade : goal.returns-then-any_unmade
returns-then-any_unmade c = λ ts q l. gather-unmade ts c.args.objects.now c.args.places.now q l c.running.ensures _ c.in_ok-running.was c.args.items.now c.load_header-header.ensures c.any_unmade.ensures c.if-any_unmade.true

pub too_many-requires : goal.too_many-requires
too_many-requires c = (header_read _ c.load_header-header.ensures).used_fits

pub returns-then-too_many : goal.returns-then-too_many
returns-then-too_many c = λ ts q l. gather-full ts c.args.objects.now c.args.places.now q l c.running.ensures _ c.in_ok-running.was c.args.items.now c.load_header-header.ensures c.any_unmade.ensures c.if-any_unmade.false c.too_many.ensures c.if-too_many.true

pub make_gather-o-requires : goal.make_gather-o-requires
make_gather-o-requires c = let r = gather-room c.args.objects.now c.args.items.now c.load_header-header.ensures c.too_many.ensures c.if-too_many.false in (r.0, r.1, r.2)

pub returns : goal.returns
returns c = λ ts q l. gather-made ts c.args.objects.now c.args.places.now q l c.running.ensures _ c.in_ok-running.was c.args.items.now c.load_header-header.ensures c.any_unmade.ensures c.if-any_unmade.false c.too_many.ensures c.if-too_many.false c.make_gather-o.ensures.0 (c.make_gather-o.ensures.1 ts q l)
