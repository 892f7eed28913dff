-- A lent store on which the two descriptions of a cancel's count differ (document 02, No. 8; docs/DECISIONS.md 116).
use Rattle.std.specs.Prelude.{◌≡◌, refl, true, [], ◌∷◌}
use Rattle.queue.specs.Queue.{empty_queue}
use Rattle.machine.specs.Store.{Store, put_queue}
use Rattle.machine.specs.Sound.{sound}
use Rattle.machine.specs.Machine.{Event, step}
use Rattle.machine.specs.Sessions.{session}
use Rattle.machine.proofs.DemandThreeCases.{e, res, computes3}
use Rattle.machine.proofs.CancelCountsTest.{is_count, branch, then}

-- task 2 is ready and stands nowhere: the store is sound, and its cancel counts nobody. (No session gets there.)
abbrev unqueued : Store
unqueued = put_queue (session (then branch (e (Event.results (res 0 0 9 ∷ [])) ∷ []))).store empty_queue

pub unqueued_uncounted : (sound unqueued ≡ true) × (is_count 0 (step unqueued (Event.cancel 2)).answer ≡ true)
unfolding computes3 is_count
unqueued_uncounted = (refl, refl)
