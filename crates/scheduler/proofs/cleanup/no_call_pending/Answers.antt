use mathlib.Core.Path.{refl, ap}
use native.Mathlib.Omega.{arith}
use Rattle.asyncio.specs.declared.HeapId.{HeapId}
use Rattle.rows.specs.TableLaws.{header_read}
use Rattle.scheduler.specs.EndLaws.{calls_none, pending-here, pending-turn, pending-none}
use Rattle.scheduler.proofs.cleanup.no_call_pending.Goals as goal

pub skip_not_pending-o-requires : goal.skip_not_pending-o-requires
skip_not_pending-o-requires c = omega (arith, (header_read _ c.load_header-made.ensures).made_fits)

pub loop-o-init : goal.loop-o-init
loop-o-init c = calls_none c.args.objects.now c.load_header-made.result.made c.skip_not_pending-o.result c.skip_not_pending-o.ensures

pub is_pending-requires : goal.is_pending-requires
is_pending-requires c = omega (arith, (header_read _ c.load_header-made.ensures).made_fits, ap (λ (h : HeapId). h.0) c.new.ensures)

pub returns-then-is_pending : goal.returns-then-is_pending
returns-then-is_pending c = pending-here c.args.objects.now c.loop-o.o (ap (λ (h : HeapId). h.0) c.new.ensures) refl c.is_pending.ensures c.load_header-made.ensures c.loop-o-test.true c.if-is_pending.true

pub loop-o-preserved : goal.loop-o-preserved
loop-o-preserved c = pending-turn c.args.objects.now c.loop-o.o (ap (λ (h : HeapId). h.0) c.new.ensures) refl c.is_pending.ensures c.if-is_pending.false c.loop-o.invariant

pub returns : goal.returns
returns c = pending-none c.args.objects.now c.loop-o.o c.load_header-made.ensures (omega (arith, c.skip_not_pending-o.ensures.within)) c.loop-o.invariant
