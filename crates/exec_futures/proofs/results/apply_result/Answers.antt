use mathlib.Core.Path.{◌≡◌}
use Rattle.machine.specs.Store.{Store, store_of}
use Rattle.machine.specs.Delivery.{fail_future}
use Rattle.exec_futures.specs.Results.{result_of}
use Rattle.exec_futures.specs.ResultLaws.{applied_as, applies_value, applies_nothing, applies_error}
use Rattle.exec_futures.proofs.results.apply_result.Goals as goal
use Rattle.exec_futures.proofs.results.apply_result.Goals.{in-Error, in-NotFound, in-ModuleFile}

pub returns-in-Return : goal.returns-in-Return
returns-in-Return c = λ q l.
    applies_value c.args.tasks.now c.args.objects.now c.args.places.now q l (result_of c.args.r) c.from_byte.ensures c.unwrap_or.ensures c.in-Return.is c.to_value.ensures (c.resolve_future.ensures q l)

pub returns-in-StillFuture : goal.returns-in-StillFuture
returns-in-StillFuture c = λ q l.
    applies_nothing c.args.tasks.now c.args.objects.now c.args.places.now q l (result_of c.args.r) c.from_byte.ensures c.unwrap_or.ensures c.in-StillFuture.is

pub returns : goal.returns
unfolding applied_as
returns c = λ q l.
    let here : Store = store_of c.args.tasks.now c.args.objects.now c.args.places.now q l in
    let fails : applied_as here (result_of c.args.r) c.unwrap_or.result ≡ fail_future here c.args.r.call c.match-unwrap_or.error =
    elim c.match-unwrap_or.branch [
      | in-Error w ↦ rw (w.in-Error.is, w.error-is, w.to_u32.ensures)
      | in-NotFound w ↦ rw (w.in-NotFound.is, w.error-is)
      | in-ModuleFile w ↦ rw (w.in-ModuleFile.is, w.error-is)
    ] in
    applies_error c.args.tasks.now c.args.objects.now c.args.places.now q l (result_of c.args.r) c.from_byte.ensures c.unwrap_or.ensures c.match-unwrap_or.error fails
    (c.fail_future.ensures q c.args.places.now l c.told-places)
