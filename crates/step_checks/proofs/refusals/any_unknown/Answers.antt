use mathlib.Core.Path.{refl, sym, ap, ◌∙◌}
use native.Mathlib.Omega.{arith}
use Rattle.asyncio.specs.declared.Header.{Header}
use Rattle.rows.specs.TableLaws.{header_read}
use Rattle.machine.specs.Store.{store_of}
use Rattle.machine.specs.Machine.{result_unknown}
use Rattle.step_checks.specs.TestLaws.{some-here, some_turn, some_end, some_begin}
use Rattle.step_checks.proofs.refusals.any_unknown.Goals as goal

pub loop-i-init : goal.loop-i-init
loop-i-init c = λ ts ps q l. some_begin _ _ _ refl

pub result_unknown-requires : goal.result_unknown-requires
result_unknown-requires c = ((header_read _ c.load_header-header.ensures).made_fits, sym (ap (λ (h : Header). h.made) c.load_header-header.ensures))

pub returns-then-result_unknown : goal.returns-then-result_unknown
returns-then-result_unknown c = λ ts ps q l. sym (some-here (result_unknown (store_of ts c.args.objects.now ps q l)) c.args.results.now c.loop-i.i _ (omega arith) (sym c.if-result_unknown.true ∙ c.result_unknown.ensures ts ps q l ∙ ap (result_unknown (store_of ts c.args.objects.now ps q l)) c.at.ensures)) ∙ c.loop-i.invariant ts ps q l

pub loop-i-preserved : goal.loop-i-preserved
loop-i-preserved c = λ ts ps q l. some_turn (result_unknown (store_of ts c.args.objects.now ps q l)) c.args.results.now c.loop-i.i _ (omega arith) (sym c.if-result_unknown.false ∙ c.result_unknown.ensures ts ps q l ∙ ap (result_unknown (store_of ts c.args.objects.now ps q l)) c.at.ensures) ∙ c.loop-i.invariant ts ps q l

pub returns : goal.returns
returns c = λ ts ps q l. sym (some_end (result_unknown (store_of ts c.args.objects.now ps q l)) c.args.results.now c.loop-i.i _ (omega arith)) ∙ c.loop-i.invariant ts ps q l
