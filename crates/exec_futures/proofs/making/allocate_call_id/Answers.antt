use mathlib.Core.Path.{ap, ◌∙◌}
use Rattle.asyncio.specs.declared.Header.{Header}
use Rattle.asyncio.specs.declared.CallId.{CallId}
use Rattle.exec_futures.specs.MakingLaws.{allocated}
use Rattle.exec_futures.proofs.making.allocate_call_id.Goals as goal

pub returns : goal.returns
returns c = (
  ap (λ (x : CallId). x.0) c.new.ensures ∙ ap (λ (h : Header). h.calls) c.load_header-header.ensures,
  λ ts ps q l. allocated ts c.args.objects.now ps q l c.load_header-header.ensures c.store_header.ensures c.new.ensures,
)
