use Rattle.std.proofs.Common.{◌∙◌, arith}
use Rattle.rows.specs.TableLaws.{header_read}
use Rattle.machine.specs.Store.{store_of}
use Rattle.machine.specs.Machine.{Event}
use Rattle.step_read.specs.ReadLaws.{read_done, show-unmade, show-made, show-gives}
use Rattle.step_read.proofs.show.Goals as goal

pub returns-then-load_header-o : goal.returns-then-load_header-o
returns-then-load_header-o c = λ ts ps q l. show-unmade ts c.args.objects.now ps q l c.args.o c.load_header.ensures c.if-load_header-o.true

pub load_object-requires : goal.load_object-requires
load_object-requires c = rw c.new.ensures (omega (arith, c.if-load_header-o.false, (header_read _ c.load_header.ensures).made_fits))

pub returns : goal.returns
returns c = λ ts ps q l. show-gives ts c.args.objects.now ps q l c.args.o (rw c.new.ensures at c.load_object.ensures) (c.show_object.ensures (store_of ts c.args.objects.now ps q l)) ∙ read_done (store_of ts c.args.objects.now ps q l) (Event.show c.args.o) (show-made ts c.args.objects.now ps q l c.args.o c.load_header.ensures c.if-load_header-o.false)
