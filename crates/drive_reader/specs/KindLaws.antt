-- What a kind byte says of the record: the kind's, or none.
use Rattle.std.specs.Prelude.{◌≡◌, refl, ℕ, ◌+◌, ◌-◌, ◌<◌, ◌≤◌, List, None, leb, length}
use Rattle.std.proofs.Common.{arith}
use borrow.Author.Tests.{ne_eqb}
use Rattle.asyncio.specs.RangeLaws.{pick_has}
use Rattle.endian.specs.Endian.{le1}
use Rattle.drive_reader.specs.Parsed.{Parsed, no_record}
use Rattle.drive_reader.specs.Format.{size, contents, parse_kind}

-- a byte that no kind has is the byte of no record
pub no_kind-contents : (s : List ℕ) (at byte : ℕ) → (0 < byte → 13 < byte) → contents s at byte ≡ None
unfolding contents
no_kind-contents s at byte h =
    let other : (k : ℕ) → 0 < k → k ≤ 13 → byte ≡ k → ⊥ = λ k p q e. omega (arith, h, e, p, q) in
    rw (
      ne_eqb byte 1 (other 1 (omega arith) (omega arith)),
      ne_eqb byte 2 (other 2 (omega arith) (omega arith)),
      ne_eqb byte 3 (other 3 (omega arith) (omega arith)),
      ne_eqb byte 4 (other 4 (omega arith) (omega arith)),
      ne_eqb byte 5 (other 5 (omega arith) (omega arith)),
      ne_eqb byte 6 (other 6 (omega arith) (omega arith)),
      ne_eqb byte 7 (other 7 (omega arith) (omega arith)),
      ne_eqb byte 8 (other 8 (omega arith) (omega arith)),
      ne_eqb byte 9 (other 9 (omega arith) (omega arith)),
      ne_eqb byte 10 (other 10 (omega arith) (omega arith)),
      ne_eqb byte 11 (other 11 (omega arith) (omega arith)),
      ne_eqb byte 12 (other 12 (omega arith) (omega arith)),
      ne_eqb byte 13 (other 13 (omega arith) (omega arith)),
    )

pub reads_no_record : (s : List ℕ) (at byte : ℕ) → (0 < byte → 13 < byte) → no_record ≡ parse_kind s at byte
unfolding parse_kind
reads_no_record s at byte h =
    let P : Parsed → Type 0 = λ p. no_record ≡ p in
    rw (no_kind-contents s at byte h) (pick_has P (leb (size byte (le1 s (at + 3))) (length s - at)) refl refl)
