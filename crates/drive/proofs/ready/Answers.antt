use Rattle.std.proofs.Common.{arith}
use Rattle.drive_window.specs.InputLaws.{read-nothing}
use Rattle.drive.proofs.ready.Goals as goal
use Rattle.drive.proofs.ready.Goals.{else-filled-src-via-then-filled-src+else-filled-from-lt-RECORD_BYTES, else-filled-src-via-else-filled-src}

pub returns : goal.returns
returns c = elim c.else-filled-src.branch [
  | else-filled-src-via-then-filled-src+else-filled-from-lt-RECORD_BYTES w ↦
      read-nothing _ _ _ c.requires.from_le_filled c.requires.filled_in_bounds (λ y. w.if-filled-from-lt-RECORD_BYTES.false)
  | else-filled-src-via-else-filled-src w ↦ read-nothing _ _ _ c.requires.from_le_filled c.requires.filled_in_bounds (λ y. absurd (omega (arith, w.if-filled-src.false)))
]
