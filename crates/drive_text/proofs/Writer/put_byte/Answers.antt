use Rattle.std.specs.Prelude.{refl}
use Rattle.drive_text.specs.WriteLaws.{byte_in, byte_out}
use Rattle.drive_text.proofs.Writer.put_byte.Goals as goal

pub returns-then-self : goal.returns-then-self
returns-then-self c = record { same_buffer = refl; wrote = byte_in _ c.if-self.true }

pub returns-else-self : goal.returns-else-self
returns-else-self c = record { same_buffer = refl; wrote = byte_out _ c.if-self.false }
