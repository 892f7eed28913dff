use Rattle.std.specs.Prelude.{[]}
use mathlib.Core.Path.{refl, ap, subst}
use lib.ListN.{length}
use Rattle.queue.specs.Queue.{empty_queue}
use Rattle.machine.specs.Machine.{Step}
use Rattle.machine.specs.Answers.{Numbers}
use Rattle.step_checks.specs.LentLaws.{lengths_have}
use Rattle.drive_text.specs.Out.{out_of}
use Rattle.drive_session.specs.Session.{DroveAll}
use Rattle.drive_session.specs.LeftLaws.{session-begins, session-is, session-refused}
use Rattle.drive_session.proofs.drive_session.Goals as goal

pub drive_records-requires : goal.drive_records-requires
drive_records-requires c = (session-begins c.args.tasks.now c.args.objects.now c.args.places.now c.args.calls.now [] c.new.result [] c.lengths_right.ensures c.if-lengths_right.true c.begin-begun.result.answer (ap (λ (x : Step × Numbers). x.0) (c.begin-begun.ensures [])), (lengths_have (length c.args.tasks.now) (length c.args.objects.now) (length c.args.places.now) (length c.args.calls.now) c.lengths_right.ensures c.if-lengths_right.true).3)

pub returns-then-lengths_right : goal.returns-then-lengths_right
returns-then-lengths_right c = λ l. subst (DroveAll _ _ _ _ _ _ _) (session-is c.args.tasks.now c.args.objects.now c.args.places.now c.args.calls.now c.args.src.now empty_queue l c.lengths_right.ensures c.if-lengths_right.true) c.drive_records.ensures

pub returns : goal.returns
returns c = λ l. session-refused c.args.tasks.now c.args.objects.now c.args.places.now c.args.calls.now c.args.src.now empty_queue l c.lengths_right.ensures c.if-lengths_right.false _ (out_of c.args.out.now 0) c.new-2.ensures refl refl refl
