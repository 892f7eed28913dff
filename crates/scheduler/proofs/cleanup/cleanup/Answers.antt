use Rattle.rows.specs.TableLaws.{header_read}
use Rattle.scheduler.specs.EndLaws.{cleans}
use Rattle.scheduler.proofs.cleanup.cleanup.Goals as goal

pub clear_tasks-requires : goal.clear_tasks-requires
clear_tasks-requires c = (header_read _ c.load_header-header.ensures).next_fits

pub returns : goal.returns
returns c = λ ps q l. cleans c.args.tasks.now c.args.objects.now ps q l c.load_header-header.ensures c.clear_tasks.ensures c.store_header.ensures c.new.ensures
