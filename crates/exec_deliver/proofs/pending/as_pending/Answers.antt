use Rattle.exec_deliver.proofs.NotPending.{no_external, external_settled}
use Rattle.exec_deliver.proofs.pending.as_pending.Goals as goal

pub returns-in_default : goal.returns-in_default
returns-in_default c = no_external _ c.load_object.ensures c.in_default.not-ExternalFuture

pub returns-in_default-state : goal.returns-in_default-state
returns-in_default-state c = external_settled c.load_object.ensures _ _ c.in-ExternalFuture.is c.in_default-state.not-Pending
