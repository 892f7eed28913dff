use mathlib.Core.Path.{sym, ◌∙◌}
use Rattle.rows.specs.TableLaws.{header_read}
use Rattle.scheduler.specs.SpawnLaws.{spawn_taken, spawn-full, spawn-done}
use Rattle.scheduler.proofs.Cases.{is_found, is_not_found}
use Rattle.scheduler.proofs.spawn.spawn.Goals as goal
use Rattle.scheduler.proofs.spawn.spawn.Goals.{then-is_some-via-then-is_some, then-is_some-via-else-is_some+then-header-ge-LIMIT}

pub task_of-requires : goal.task_of-requires
task_of-requires c = (header_read _ c.load_header-header.ensures).next_fits

pub returns-then-is_some : goal.returns-then-is_some
returns-then-is_some c = elim c.then-is_some.branch [
  | then-is_some-via-then-is_some w ↦ let there = is_found c.task_of.result (sym c.is_some.ensures ∙ w.if-is_some.true) in spawn_taken c.args.tasks.now c.args.objects.now c.args.queue.now c.args.c.0 c.args.g.0 c.load_header-header.ensures c.task_of.ensures there.0 there.1
  | then-is_some-via-else-is_some+then-header-ge-LIMIT w ↦ spawn-full c.args.tasks.now c.args.objects.now c.args.queue.now c.args.c.0 c.args.g.0 c.load_header-header.ensures c.task_of.ensures (is_not_found c.task_of.result (sym c.is_some.ensures ∙ w.if-is_some.false)) w.if-header-ge-LIMIT.true
]

pub returns : goal.returns
returns c = spawn-done c.args.tasks.now c.args.objects.now c.args.queue.now c.args.c.0 c.args.g.0 c.load_header-header.ensures c.task_of.ensures (is_not_found c.task_of.result (sym c.is_some.ensures ∙ c.if-is_some.false)) c.if-header-ge-LIMIT.false c.spawn_as.ensures
