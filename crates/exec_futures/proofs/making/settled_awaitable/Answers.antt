use mathlib.Core.Path.{◌∙◌}
use native.Mathlib.Omega.{arith}
use Rattle.exec_futures.specs.MakingLaws.{allocated_made, settles}
use Rattle.exec_futures.proofs.making.settled_awaitable.Goals as goal

pub add_object-requires : goal.add_object-requires
add_object-requires c = (
  rw (allocated_made c.args.objects.now c.told-objects c.allocate_call_id-call.result (rw c.allocate_call_id-call.ensures.0 c.requires.1) c.allocate_call_id-call.ensures.1) c.requires.0,
  omega arith,
)

pub returns : goal.returns
returns c = (
  c.add_object.ensures.0 ∙ allocated_made c.args.objects.now c.told-objects c.allocate_call_id-call.result (rw c.allocate_call_id-call.ensures.0 c.requires.1) c.allocate_call_id-call.ensures.1,
  λ ts ps q l.
      settles c.args.objects.now c.told-objects c.allocate_call_id-call.result (rw c.allocate_call_id-call.ensures.0 c.requires.1) c.allocate_call_id-call.ensures.1 c.allocate_call_id-call.ensures.0
      c.args.value ts ps q l (c.add_object.ensures.1 ts ps q l),
)
