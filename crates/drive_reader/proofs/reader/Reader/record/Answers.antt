use Rattle.std.specs.Prelude.{◌≡◌, refl, ◌+◌, None, Some}
use Rattle.std.proofs.Common.{sym, ◌∙◌}
use Rattle.endian.specs.Endian.{le1}
use Rattle.drive_reader.specs.Format.{size, contents}
use Rattle.drive_reader.specs.Kinds.{kind_number}
use Rattle.drive_reader.specs.FormatLaws.{reads_end, reads_no_kind, reads_no_mark, reads_marked, reads_whole, reads_short}
use Rattle.drive_reader.specs.KindLaws.{reads_no_record}
use Rattle.drive_reader.proofs.NoRecords.{none_else, err_is}
use Rattle.drive_reader.proofs.reader.Reader.record.Goals as goal
use Rattle.drive_reader.proofs.reader.Reader.record.Goals.{then-left-lt3-via-then-left-lt3, then-left-lt3-via-else-left-lt3+then-u16_at-ne-MARK}

pub returns-then-left-eq0 : goal.returns-then-left-eq0
returns-then-left-eq0 c = reads_end _ c.args.self.at c.left-left.ensures c.if-left-eq0.true

pub returns-then-left-lt3 : goal.returns-then-left-lt3
returns-then-left-lt3 c = elim c.then-left-lt3.branch [
  | then-left-lt3-via-then-left-lt3 w ↦ reads_no_kind _ c.args.self.at c.left-left.ensures c.if-left-eq0.false w.if-left-lt3.true
  | then-left-lt3-via-else-left-lt3+then-u16_at-ne-MARK w ↦
      reads_no_mark _ c.args.self.at c.left-left.ensures c.if-left-eq0.false w.if-left-lt3.false w.u16_at.ensures.0 w.if-u16_at-ne-MARK.true
]

pub returns-in_err-kind : goal.returns-in_err-kind
returns-in_err-kind c =
    reads_marked _ c.args.self.at c.left-left.ensures c.if-left-eq0.false c.if-left-lt3.false c.u16_at.ensures.0 c.if-u16_at-ne-MARK.false refl
    (err_is c.from_residual.ensures.0 ∙ reads_no_record _ c.args.self.at _ (rw c.in_err-kind.was at c.try_from.ensures))

pub returns-then-size-left : goal.returns-then-size-left
returns-then-size-left c =
    let k : kind_number c.in_ok-kind.kind ≡ le1 c.args.self.src.now (c.args.self.at + 2) = rw c.in_ok-kind.was at c.try_from.ensures in
    let n : c.size-size.result ≡ size (le1 c.args.self.src.now (c.args.self.at + 2)) (le1 c.args.self.src.now (c.args.self.at + 3)) = cc in
    reads_marked _ c.args.self.at c.left-left.ensures c.if-left-eq0.false c.if-left-lt3.false c.u16_at.ensures.0 c.if-u16_at-ne-MARK.false refl
    (reads_short _ c.args.self.at _ n c.left-left.ensures c.if-size-left.true)

pub returns-in_default : goal.returns-in_default
returns-in_default c =
    let k : kind_number c.in_ok-kind.kind ≡ le1 c.args.self.src.now (c.args.self.at + 2) = rw c.in_ok-kind.was at c.try_from.ensures in
    let n : c.size-size.result ≡ size (le1 c.args.self.src.now (c.args.self.at + 2)) (le1 c.args.self.src.now (c.args.self.at + 3)) = cc in
    let o : contents c.args.self.src.now c.args.self.at (le1 c.args.self.src.now (c.args.self.at + 2)) ≡ None = rw (k, none_else c.in_default.not-Some) at (sym c.contents.ensures) in
    reads_marked _ c.args.self.at c.left-left.ensures c.if-left-eq0.false c.if-left-lt3.false c.u16_at.ensures.0 c.if-u16_at-ne-MARK.false refl
    (reads_whole _ c.args.self.at _ n c.left-left.ensures c.if-size-left.false (rw o))

pub returns : goal.returns
returns c =
    let k : kind_number c.in_ok-kind.kind ≡ le1 c.args.self.src.now (c.args.self.at + 2) = rw c.in_ok-kind.was at c.try_from.ensures in
    let n : c.size-size.result ≡ size (le1 c.args.self.src.now (c.args.self.at + 2)) (le1 c.args.self.src.now (c.args.self.at + 3)) = cc in
    let o : contents c.args.self.src.now c.args.self.at (le1 c.args.self.src.now (c.args.self.at + 2)) ≡ Some c.in-Some.what = cc in
    reads_marked _ c.args.self.at c.left-left.ensures c.if-left-eq0.false c.if-left-lt3.false c.u16_at.ensures.0 c.if-u16_at-ne-MARK.false refl
    (reads_whole _ c.args.self.at _ n c.left-left.ensures c.if-size-left.false (rw o refl))
