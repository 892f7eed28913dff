use mathlib.Core.List.{[]}
use Rattle.machine.specs.Machine as machine
use Rattle.machine.specs.Store.{store_of}
use Rattle.records_words.proofs.OnWordsLaws.{read-refused, read_done}
use Rattle.records_words.proofs.eager.Goals as goal

pub returns : goal.returns
returns c = read_done c.args.records (store_of c.args.words.now c.args.objects.now c.args.places.now c.args.queue []) machine.Event.eager c.if-records-ne-TASKS.false (c.eager.ensures [])

pub returns-then-records-ne-TASKS : goal.returns-then-records-ne-TASKS
returns-then-records-ne-TASKS c = read-refused c.args.records (store_of c.args.words.now c.args.objects.now c.args.places.now c.args.queue []) machine.Event.eager c.if-records-ne-TASKS.true
