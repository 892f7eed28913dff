use Rattle.rows.specs.TableLaws.{header_read}
use mathlib.Core.Path.{ap, ◌∙◌}
use native.Mathlib.Omega.{arith}
use Rattle.asyncio.specs.declared.HeapId.{HeapId}
use Rattle.asyncio.specs.declared.Header.{Header}
use Rattle.exec_futures.specs.MakingLaws.{added}
use Rattle.exec_futures.proofs.making.add_object.Goals as goal

pub overflow_add-header-2 : goal.overflow_add-header-2
overflow_add-header-2 c = omega (arith, (header_read _ c.load_header-header.ensures).used_fits)

pub returns : goal.returns
returns c = (
  ap (λ (o : HeapId). o.0) c.new-o.ensures ∙ ap (λ (h : Header). h.made) c.load_header-header.ensures,
  λ ts ps q l. added ts c.args.objects.now ps q l c.load_header-header.ensures c.args.x c.args.n (ap (λ (o : HeapId). o.0) c.new-o.ensures) c.store_header.ensures c.store_object.ensures,
)
