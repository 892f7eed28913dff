use Rattle.rows.specs.TableLaws.{header_read}
use Rattle.drive_text.specs.WritingLaws.{puts_by_three}
use Rattle.test_print.specs.PrintingLaws.{store_wrote}
use Rattle.test_print.proofs.write_store.Goals as goal

pub write_tasks-requires : goal.write_tasks-requires
write_tasks-requires c = (header_read _ c.load_header-header.ensures).next_fits

pub write_objects-requires : goal.write_objects-requires
write_objects-requires c = (header_read _ c.load_header-header.ensures).made_fits

pub returns : goal.returns
returns c = puts_by_three (store_wrote _ _ _ c.load_header-header.ensures) c.write_tasks.ensures c.write_objects.ensures c.write_queue.ensures
