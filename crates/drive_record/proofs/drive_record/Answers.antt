use Rattle.std.specs.Prelude.{◌≡◌}
use Rattle.std.proofs.Common.{sym, ◌∙◌, rules}
use Rattle.drive_reader.specs.Parsed.{at_end, no_record, a_record}
use Rattle.drive_reader.specs.Format.{parse}
use Rattle.drive_reader.specs.RecordNumbers.{parsed_is}
use Rattle.drive_answer.specs.DriveLaws.{same_drives, asks_inside, end_drove, none_drove, record_drives}
use Rattle.drive_record.proofs.drive_record.Goals as goal

pub answered-requires : goal.answered-requires
answered-requires c =
    let e : parse c.args.src.now c.args.from ≡ a_record c.in-Ok-Some.field-0-0.what c.in-Ok-Some.field-0-0.next = cc (parsed_is c.parse_record.ensures) in
    (c.requires.0, c.requires.1, asks_inside c.args.src.now c.args.from _ e)

pub returns-in-Ok-None : goal.returns-in-Ok-None
returns-in-Ok-None c =
    let e : parse c.args.src.now c.args.from ≡ at_end = cc (parsed_is c.parse_record.ensures) in
    (λ l. end_drove _ _ _ _ l _ c.args.src.now c.args.from c.args.number e, rw e tt)

pub returns-in-Ok-Some : goal.returns-in-Ok-Some
returns-in-Ok-Some c =
    let e : parse c.args.src.now c.args.from ≡ a_record c.in-Ok-Some.field-0-0.what c.in-Ok-Some.field-0-0.next = cc (parsed_is c.parse_record.ensures) in
    (λ l. same_drives (record_drives _ _ c.args.src.now c.args.from c.args.number e) (c.answered.ensures.0 l), rw e c.answered.ensures.1)

pub returns-in-Err : goal.returns-in-Err
returns-in-Err c =
    let e : parse c.args.src.now c.args.from ≡ no_record = sym (parsed_is c.parse_record.ensures) ∙ c.in-Err.is in
    (λ l. none_drove _ _ _ _ l _ c.args.src.now c.args.from c.args.number e (search rules), rw e tt)
