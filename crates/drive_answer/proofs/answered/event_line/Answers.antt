use Rattle.std.specs.Prelude.{[]}
use Rattle.std.proofs.Common.{sym, rules}
use Rattle.std.proofs.Math.Seq.{length-take-le}
use Rattle.drive_answer.specs.DriveLaws.{event_drove, count_within}
use Rattle.drive_answer.proofs.answered.event_line.Goals as goal

pub slice_bounds-write_line-end : goal.slice_bounds-write_line-end
slice_bounds-write_line-end c = count_within _ _ _ (c.step-stepped.ensures []) c.requires.0

pub slice_bounds-write_line-end-2 : goal.slice_bounds-write_line-end-2
slice_bounds-write_line-end-2 c = sym (length-take-le _ _ (count_within _ _ _ (c.step-stepped.ensures []) c.requires.0))

pub returns : goal.returns
returns c = λ l. event_drove _ _ _ c.args.next c.args.number c.step-stepped.result.answer c.step-stepped.result.calls (c.step-stepped.ensures l) (search rules)
