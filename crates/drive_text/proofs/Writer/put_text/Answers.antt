use Rattle.std.specs.Prelude.{refl}
use Rattle.drive_text.specs.OutLaws.{wrote_none}
use Rattle.drive_text.specs.WriteLaws.{text_turn, byte_in, byte_out}
use Rattle.drive_text.specs.WritingLaws.{puts, puts_by_two}
use Rattle.drive_text.proofs.Writer.put_text.Goals as goal
use Rattle.drive_text.proofs.Writer.put_text.Goals.{then-at-self, else-at-self}

pub loop-b-init : goal.loop-b-init
loop-b-init c = puts (wrote_none _)

pub loop-b-preserved : goal.loop-b-preserved
loop-b-preserved c = elim c.if-at-self.branch [
  | then-at-self w ↦
      rw (w.self-is, w.at-is) (puts_by_two (text_turn _ c.loop-b.b-index c.loop-b-test.true) c.loop-b.invariant (record { same_buffer = refl; wrote = byte_in _ w.if-at-self.true }))
  | else-at-self w ↦
      rw (w.self-is, w.at-is) (puts_by_two (text_turn _ c.loop-b.b-index c.loop-b-test.true) c.loop-b.invariant (record { same_buffer = refl; wrote = byte_out _ w.if-at-self.false }))
]
