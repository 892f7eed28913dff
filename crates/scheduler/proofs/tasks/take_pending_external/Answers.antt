use Rattle.std.specs.Prelude.{Some}
use Rattle.scheduler.specs.SkipLaws.{first_begins}
use mathlib.Core.Path.{sym, ap, ◌∙◌}
use native.Mathlib.Omega.{arith}
use Rattle.asyncio.specs.declared.HeapId.{HeapId}
use Rattle.machine.specs.Scheduler.{is_call}
use Rattle.scheduler.specs.Search.{found_object}
use Rattle.scheduler.specs.SearchLaws.{first_here, first_turn, first_end, pending-begins}
use Rattle.rows.specs.TableLaws.{header_read}
use Rattle.scheduler.proofs.tasks.take_pending_external.Goals as goal

pub skip_other_calls-o-requires : goal.skip_other_calls-o-requires
skip_other_calls-o-requires c = omega (arith, (header_read _ c.load_header-made.ensures).made_fits)

pub loop-o-init : goal.loop-o-init
loop-o-init c = first_begins (is_call c.args.objects.now c.args.call) c.load_header-made.result.made c.skip_other_calls-o.result c.skip_other_calls-o.ensures ∙ pending-begins _ _ c.load_header-made.ensures

pub is_call-requires : goal.is_call-requires
is_call-requires c = omega (arith, (header_read _ c.load_header-made.ensures).made_fits, ap (λ (h : HeapId). h.0) c.new-id.ensures)

pub returns-then-is_call : goal.returns-then-is_call
returns-then-is_call c = ap Some c.new-id.ensures ∙ ap found_object (sym (first_here (is_call c.args.objects.now c.args.call) c.loop-o.o c.load_header-made.result.made c.loop-o-test.true (ap (λ (h : HeapId). h.0) c.new-id.ensures) (sym c.if-is_call.true ∙ c.is_call.ensures)) ∙ c.loop-o.invariant)

pub loop-o-preserved : goal.loop-o-preserved
loop-o-preserved c = first_turn (is_call c.args.objects.now c.args.call) c.loop-o.o c.load_header-made.result.made c.loop-o-test.true (ap (λ (h : HeapId). h.0) c.new-id.ensures) (sym c.if-is_call.false ∙ c.is_call.ensures) ∙ c.loop-o.invariant

pub returns : goal.returns
returns c = ap found_object (sym (first_end (is_call c.args.objects.now c.args.call) c.loop-o.o c.load_header-made.result.made c.loop-o-test.false) ∙ c.loop-o.invariant)
