use Rattle.std.specs.Prelude.{◌≡◌, refl, Bool, true, false, None, Some, is_some}
use Rattle.std.proofs.Common.{sym, ◌∙◌, true≢false}
use Rattle.asyncio.specs.declared.HeapId.{HeapId}
use Rattle.scheduler.specs.Search.{FoundObject}
use Rattle.rows.specs.TableLaws.{header_read}
use Rattle.machine.specs.Machine.{refusals}
use Rattle.step_checks.specs.StepLaws.{handed_on, no_turn, pending_unheard, pending_unknown, pending_again, pending-full, pending-made}
use Rattle.step_make.proofs.pending.Goals as goal
use Rattle.step_make.proofs.pending.Goals.{then-header-call-via-then-header-call, then-header-call-via-else-header-call+then-not-option_known}

pub returns-in_err-running : goal.returns-in_err-running
unfolding refusals
returns-in_err-running c = λ ts ps q l. rw (handed_on _ _ c.from_residual.ensures.1) (no_turn ts c.args.objects.now ps q l c.running.ensures _ _ refl _ c.in_err-running.was)

pub option_known-requires : goal.option_known-requires
option_known-requires c = (header_read _ c.load_header-header.ensures).made_fits

pub returns-then-header-call : goal.returns-then-header-call
returns-then-header-call c = λ ts ps q l. elim c.then-header-call.branch [
  | then-header-call-via-then-header-call w ↦ pending_unheard ts c.args.objects.now ps q l c.running.ensures _ c.in_ok-running.was c.args.call c.args.stored c.load_header-header.ensures w.if-header-call.true
  | then-header-call-via-else-header-call+then-not-option_known w ↦ pending_unknown ts c.args.objects.now ps q l c.running.ensures _ c.in_ok-running.was c.args.call c.args.stored c.load_header-header.ensures w.if-header-call.false w.option_known.ensures w.if-not-option_known.true
]

some_there : (d : FoundObject) {b : Bool} → b ≡ is_some d → b ≡ true → (n : HeapId) × (d ≡ Some n)
some_there None e i = absurd (true≢false (sym i ∙ e))
some_there (Some n) e i = (n, refl)

none_there : (d : FoundObject) {b : Bool} → b ≡ is_some d → b ≡ false → d ≡ None
none_there None e i = refl
none_there (Some n) e i = absurd (true≢false (sym e ∙ i))

pub returns-then-is_some : goal.returns-then-is_some
returns-then-is_some c = λ ts ps q l.
    let found = some_there _ c.is_some.ensures c.if-is_some.true in
    pending_again ts c.args.objects.now ps q l c.running.ensures _ c.in_ok-running.was c.args.call c.args.stored c.load_header-header.ensures c.if-header-call.false c.option_known.ensures c.if-not-option_known.false c.take_pending_external.ensures found.0 found.1

pub returns-then-is_full : goal.returns-then-is_full
returns-then-is_full c = λ ts ps q l. pending-full ts c.args.objects.now ps q l c.running.ensures _ c.in_ok-running.was c.args.call c.args.stored c.load_header-header.ensures c.if-header-call.false c.option_known.ensures c.if-not-option_known.false c.take_pending_external.ensures (none_there _ c.is_some.ensures c.if-is_some.false) c.is_full.ensures c.if-is_full.true

pub returns : goal.returns
returns c = λ ts ps q l. pending-made ts c.args.objects.now ps q l c.running.ensures _ c.in_ok-running.was c.args.call c.args.stored c.load_header-header.ensures c.if-header-call.false c.option_known.ensures c.if-not-option_known.false c.take_pending_external.ensures (none_there _ c.is_some.ensures c.if-is_some.false) c.is_full.ensures c.if-is_full.false c.push_pending_future-o.ensures.0 (rw c.new.ensures at (c.push_pending_future-o.ensures.1 ts ps q l))
