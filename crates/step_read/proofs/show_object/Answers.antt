use Rattle.step_read.proofs.show_object.Goals as goal

pub returns-in-ExternalFuture : goal.returns-in-ExternalFuture
returns-in-ExternalFuture c = λ s. rw c.in-ExternalFuture.is (c.show_external.ensures s _)
