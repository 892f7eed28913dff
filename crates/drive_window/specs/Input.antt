-- The driver's buffer of the input: the bytes that are read and not used, and what reading more leaves of them.
use Rattle.std.specs.Prelude.{◌≡◌, List, [], ◌++◌, ℕ, ◌-◌, ◌≤◌, ◌<◌, length}
use Rattle.std.proofs.Math.Seq.{slice}
use Rattle.drive_reader.specs.Windows.{record_limit}

-- The unread bytes are those from `from` up to `filled`. More was read: behind what was unread stand the bytes `more`; and of a buffer that is full, and as long
-- as a record can be, so many are unread.
pub record Refilled (before after : List ℕ) (from filled from' filled' : ℕ) : Type 0 where
  pub more : List ℕ
  pub unread_is : slice from' filled' after ≡ slice from filled before ++ more
  pub in_order : from' ≤ filled'
  pub within : filled' ≤ length after
  pub whole : record_limit ≤ length after → length after ≤ filled' → record_limit ≤ filled' - from'

-- The same, and a buffer that is not full gets no more, and is not full then: the input has ended.
pub record Readied (before after : List ℕ) (from filled from' filled' : ℕ) : Type 0 where
  pub refilled : Refilled before after from filled from' filled'
  pub ended : filled < length before → (refilled.more ≡ []) × (filled' < length after)
