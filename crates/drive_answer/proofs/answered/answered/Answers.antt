use Rattle.std.specs.Prelude.{refl, []}
use Rattle.std.proofs.Common.{arith}
use Rattle.step_event.specs.SoundStepLaws.{right_slices}
use Rattle.drive_answer.specs.Driver.{asked}
use Rattle.drive_answer.specs.DriveLaws.{AsksEvent, asks_drove}
use Rattle.drive_answer.proofs.answered.answered.Goals as goal
use Rattle.drive_answer.proofs.answered.answered.Goals.{in-Coroutine, in-Call, in-Pending, in-Settled, in-Await, in-Complete, in-Fail, in-Results, in-Resume, in-Cancel}

pub returns-in-Gather : goal.returns-in-Gather
unfolding asked
returns-in-Gather c = (λ l. rw c.in-Gather.is (c.gather_line.ensures l), rw c.in-Gather.is tt)

pub show_line-requires : goal.show_line-requires
show_line-requires c = (right_slices c.args.tasks.now c.args.objects.now c.args.places.now c.args.queue c.args.calls.now c.requires.0 [], c.requires.1)

pub returns-in-Show : goal.returns-in-Show
unfolding asked
returns-in-Show c = (λ l. rw c.in-Show.is (c.show_line.ensures _ l), rw c.in-Show.is tt)

pub eager_line-requires : goal.eager_line-requires
eager_line-requires c = (right_slices c.args.tasks.now c.args.objects.now c.args.places.now c.args.queue c.args.calls.now c.requires.0 [], c.requires.1)

pub returns-in-Eager : goal.returns-in-Eager
unfolding asked
returns-in-Eager c = (λ l. rw c.in-Eager.is (c.eager_line.ensures l), rw c.in-Eager.is tt)

pub returns : goal.returns
unfolding asked
returns c =
    let a : AsksEvent c.args.src.now c.args.what c.match-what.asks = elim c.match-what.branch [
      | in-Coroutine w ↦ rw (w.in-Coroutine.is, w.asks-is, w.event_alone-asks.ensures) (record { is_event = refl; inside = omega arith; fits = omega arith })
      | in-Call w ↦ rw (w.in-Call.is, w.asks-is, w.event_alone-asks-in-Call.ensures) (record { is_event = refl; inside = omega arith; fits = tt })
      | in-Pending w ↦ rw (w.in-Pending.is, w.asks-is, w.event_alone-asks-in-Pending.ensures) (record { is_event = refl; inside = omega arith; fits = tt })
      | in-Settled w ↦ rw (w.in-Settled.is, w.asks-is, w.event_alone-asks-in-Settled.ensures) (record { is_event = refl; inside = omega arith; fits = tt })
      | in-Await w ↦ rw (w.in-Await.is, w.asks-is, w.event_alone-asks-in-Await.ensures) (record { is_event = refl; inside = omega arith; fits = tt })
      | in-Complete w ↦ rw (w.in-Complete.is, w.asks-is, w.event_alone-asks-in-Complete.ensures) (record { is_event = refl; inside = omega arith; fits = tt })
      | in-Fail w ↦ rw (w.in-Fail.is, w.asks-is, w.event_alone-asks-in-Fail.ensures) (record { is_event = refl; inside = omega arith; fits = omega arith })
      | in-Results w ↦ let i = rw w.in-Results.is at c.requires.2 in rw (w.in-Results.is, w.asks-is) (record { is_event = refl; inside = i; fits = tt })
      | in-Resume w ↦ rw (w.in-Resume.is, w.asks-is, w.event_alone-asks-in-Resume.ensures) (record { is_event = refl; inside = omega arith; fits = tt })
      | in-Cancel w ↦ rw (w.in-Cancel.is, w.asks-is, w.event_alone-asks-in-Cancel.ensures) (record { is_event = refl; inside = omega arith; fits = tt })
    ] in
    (λ l. asks_drove c.args.src.now _ _ _ _ a (c.event_line.ensures l), a.fits)
