use native.Mathlib.Omega.{arith}
use Rattle.rows.specs.TableLaws.{header_read}
use Rattle.queue.specs.Queue.{entries}
use Rattle.sound_words.specs.Loops.{both}
use Rattle.sound.specs.Clauses.{sound_by, sound_long}
use Rattle.sound.proofs.is_sound.Goals as goal

pub returns-then-queue-gt-TASKS : goal.returns-then-queue-gt-TASKS
returns-then-queue-gt-TASKS c = λ l. sound_long _ _ _ _ l c.if-queue-gt-TASKS.true

pub rows_canonical-requires : goal.rows_canonical-requires
rows_canonical-requires c = header_read _ c.load_header-header.ensures

pub tables_sound-requires : goal.tables_sound-requires
tables_sound-requires c = header_read _ c.load_header-header.ensures

pub tasks_sound-requires : goal.tasks_sound-requires
tasks_sound-requires c = (header_read _ c.load_header-header.ensures, c.if-queue-gt-TASKS.false)

pub gathers_sound-requires : goal.gathers_sound-requires
gathers_sound-requires c = header_read _ c.load_header-header.ensures

pub returns-then-tasks_sound : goal.returns-then-tasks_sound
unfolding entries
returns-then-tasks_sound c = λ l. grind (arith, both, sound_by c.args.tasks.now c.args.objects.now c.args.places.now c.args.queue.now l)

pub returns-else-tasks_sound : goal.returns-else-tasks_sound
unfolding entries
returns-else-tasks_sound c = λ l. grind (arith, both, sound_by c.args.tasks.now c.args.objects.now c.args.places.now c.args.queue.now l)
