-- Demand 3 holds.
use Rattle.std.specs.Prelude.{◌≡◌, Bool, true, false, List, ℕ, T}
use Rattle.std.proofs.Math.Path.{refl}
use Rattle.std.proofs.Common.{sym, ap, ◌∙◌, true≢false}
use Rattle.std.proofs.Math.Decide.{ℕ_discrete}
use Rattle.machine.specs.Store.{Store, forget}
use Rattle.machine.specs.Sound.{sound}
use Rattle.machine.specs.Machine.{Event, Answer, Step, refusal, step}
use Rattle.machine.specs.Sessions.{Sent, session, AllSentInRange}
use Rattle.machine.specs.DemandThree.{Demand3, DemandThree}
use Rattle.machine_laws.specs.MachineLaws.{refused-step, accepted-step}
use Rattle.machine_theorems.specs.Soundness.Stores.{SoundStore, sound_store_sound}
use Rattle.machine_theorems.specs.Soundness.NeverUnsound.{not_two}
use Rattle.machine_sessions.specs.Places.AgreesSessions.{session_agrees}
use Rattle.machine_sessions.specs.Queue.Following.{queue_right, session_follows, accept_accepts}
use Rattle.machine.specs.History.{Entry, tells}
use Rattle.machine_sessions.specs.Places.Agrees.{Agrees}
use Rattle.machine_sessions.specs.Places.PlacesHold.{completed-right, awaited-right, nothing-gives}
use Rattle.machine_sessions.specs.Waits.{session-answers}
use Rattle.machine_sessions.specs.Stall.WaitingSessions.{waiting-items, session-goes}

-- a sound store refuses nothing with 2
never_two : (s : Store) → SoundStore s → (e : Event) → (step s e).answer ≡ Answer.refused 2 → ⊥
never_two s w e a = by (ℕ_discrete (refusal s e) 0)
  where
    refused-is : (m n : ℕ) → Answer.refused m ≡ Answer.refused n → m ≡ n
    refused-is m n d = cc

    by : Dec (refusal s e ≡ 0) → ⊥
    by (yes r) = true≢false (sym (accept_accepts (forget s) e) ∙ ap (λ (y : Answer). (tells y).accepts) (sym (ap (λ (y : Step). y.answer) (accepted-step s e r)) ∙ a) ∙ refused-tells 2)
      where
        refused-tells : (n : ℕ) → (tells (Answer.refused n)).accepts ≡ false
        refused-tells n = unfold tells in refl
    by (no ne) = not_two s e (sound s) refl (sound_store_sound s w) (refused-is _ _ (sym (ap (λ (y : Step). y.answer) (refused-step s e (refusal s e) refl ne)) ∙ a))

-- For every list of events, refused ones included, with any call lists.
pub demand_three : DemandThree
demand_three es i =
    record {
      sound = never_two (session es).store (session_follows es i).whole;
      queue = queue_right (session es) (session_follows es i);
      places = λ g. record { completed = completed-right h s w k g; awaited = awaited-right h s w k g (λ v l e a b c. nothing-gives h s w k _ (waiting-items es i g v l e a b c)) };
      waits_right = (session-answers es i).waits_are;
      no_stall = session-goes es i;
    }
  where
    s : Store
    s = (session es).store

    h : List Entry
    h = (session es).history

    w : SoundStore s
    w = (session_follows es i).whole

    k : Agrees h s
    k = session_agrees es i
