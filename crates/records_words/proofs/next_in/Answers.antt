use Rattle.std.proofs.Common.{◌∙◌, sym, ap, arith}
use borrow.Author.Tests.{eq-eqb, ne_eqb}
use Rattle.rows.specs.TableLaws.{header_read}
use Rattle.rows.specs.Tables.{header_at}
use Rattle.asyncio.specs.Limits.{objects_length}
use Rattle.records_words.specs.RowsInUse.{next_in}
use Rattle.records_words.proofs.next_in.Goals as goal

pub returns-in-Some : goal.returns-in-Some
unfolding next_in
returns-in-Some c =
    let e = c.load_header.ensures ∙ ap header_at c.in-Some.ensures.cases.same in
    (rw (eq-eqb _ objects_length c.in-Some.ensures.cases.long, sym e), (header_read _ e).next_fits)

pub returns-in-None : goal.returns-in-None
unfolding next_in
returns-in-None c = (rw (ne_eqb _ objects_length c.in-None.ensures.cases), omega arith)
