-- Demand 2's exception (`Reused`) holds of sessions: a coroutine, and a call, in two gathers.
use Rattle.std.specs.Prelude.{ℕ, refl, List, [], ◌∷◌, ◌++◌}
use Rattle.std.proofs.Common.{not-suc-le-zero, arith, inr}
use Rattle.asyncio.specs.declared.Error.{Error}
use Rattle.machine.specs.Machine.{Event}
use Rattle.machine.specs.Tests.{is_in}
use Rattle.machine.specs.Sessions.{Sent}
use Rattle.machine.specs.DemandTwo.{has_task, is_pending, Reused}
use Rattle.machine.proofs.DemandThreeCases.{e, pend}
use Rattle.machine.proofs.DemandTwoCases.{computes2}

-- gather 3 of coroutines 0 and 1 and of call 0 (objects 0, 1, 2), awaited; the task of coroutine 0 makes another gather of one of them
abbrev in_two_gathers : ℕ → List Sent
in_two_gathers o =
    e (Event.coroutine 7) ∷ e (Event.coroutine 8) ∷ e Event.call ∷ e (pend 0) ∷ e (Event.gather (0 ∷ 1 ∷ 2 ∷ [])) ∷ e (Event.await 3) ∷ e (Event.gather (o ∷ [])) ∷ []

-- and awaits it: coroutine 1 is new, and its task 2 lives
pub coroutine_in_use : Reused (in_two_gathers 1 ++ (e (Event.await 4) ∷ [])) 4 Error.CoroutineReuse
unfolding computes2 is_in
coroutine_in_use =
    record {
      before = in_two_gathers 1;
      commit = e (Event.await 4);
      after = [];
      parts = refl;
      uncommitted = refl;
      failed = refl;
      reuse = record {
        at = 0;
        within = omega arith;
        left = λ b l. absurd (not-suc-le-zero l);
        first = λ b l. absurd (not-suc-le-zero l);
        in_use = has_task 8 2 refl refl (record { user = 3; other = λ q. not-suc-le-zero {n = 0} (omega (arith, q)); was_committed = refl; among = refl });
      };
    }

-- call 0 is pending, and gather 3 has it
pub external_in_use : Reused (in_two_gathers 2 ++ (e (Event.await 4) ∷ [])) 4 Error.FutureReuse
unfolding computes2 is_in
external_in_use =
    record {
      before = in_two_gathers 2;
      commit = e (Event.await 4);
      after = [];
      parts = refl;
      uncommitted = refl;
      failed = refl;
      reuse = record {
        at = 0;
        within = omega arith;
        left = λ b l. absurd (not-suc-le-zero l);
        first = λ b l. absurd (not-suc-le-zero l);
        in_use = is_pending (inr (record { user = 3; other = λ q. not-suc-le-zero {n = 0} (omega (arith, q)); was_committed = refl; among = refl }));
      };
    }
