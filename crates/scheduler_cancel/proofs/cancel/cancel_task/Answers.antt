use mathlib.Core.Path.{refl, ◌∙◌}
use mathlib.Core.List.{[]}
use Prim.Native.Nat.{zero}
use native.Mathlib.Omega.{arith}
use lib.ListN.{replicate}
use Rattle.asyncio.specs.Limits.{object_limit}
use Rattle.machine_laws.specs.CycleLaws.{all_unmarked, blocked_counts_kept, gather_counts_kept}
use Rattle.rows.specs.TableLaws.{header_read}
use Rattle.machine.specs.Store.{task}
use Rattle.scheduler_cancel.proofs.Marks.{marks_kept}
use Rattle.scheduler_cancel.specs.CancelLaws.{logged_then, cancel-room, cancel-begins, cancel-turn, cancel-falls, cancel-end}
use Rattle.scheduler_cancel.proofs.cancel.cancel_task.Goals as goal

pub find_tasks-requires : goal.find_tasks-requires
find_tasks-requires c = (header_read _ c.load_header-header.ensures).next_fits

pub remove_blocked-requires : goal.remove_blocked-requires
remove_blocked-requires c = (omega (arith, all_unmarked), c.requires)

pub loop-walk-init : goal.loop-walk-init
unfolding task
loop-walk-init c = record {
  keeps = refl;
  walks = λ l. record { log = l; gives = refl };
  long = marks_kept (c.remove_blocked.ensures.walks c.args.places.now []) (blocked_counts_kept _ refl c.args.t.0);
  room = omega (arith, cancel-room c.find_tasks.result c.args.tasks.now c.args.objects.now c.args.places.now c.args.queue.now [] (replicate object_limit zero) c.args.t.0 (c.remove_blocked.ensures.walks c.args.places.now []));
}

pub loop-walk-smaller : goal.loop-walk-smaller
loop-walk-smaller c = let w = c.loop-walk in omega (arith, cancel-falls w.walk.table w.tasks c.args.objects.now c.args.places.now w.queue w.walk.depth [] w.walk.marks w.walk.stack c.from_word-g.result.0 w.invariant.long c.loop-walk-test.true (c.walk_gather.ensures.walks []))

pub loop-walk-preserved : goal.loop-walk-preserved
loop-walk-preserved c =
    let w = c.loop-walk in
    let walks = rw w.invariant.keeps at c.walk_gather.ensures.walks in
    record {
      keeps = c.walk_gather.ensures.keeps ∙ w.invariant.keeps;
      walks = λ l. cancel-turn c.remove_blocked.new.self.table w.tasks c.args.objects.now c.args.places.now w.queue w.walk.depth w.walk.marks w.walk.stack w.invariant.long c.loop-walk-test.true c.from_word-g.ensures (λ m. walks m) (w.invariant.walks l);
      long = marks_kept (walks []) (gather_counts_kept _ w.invariant.long _);
      room = omega (arith, w.invariant.room, cancel-falls c.remove_blocked.new.self.table w.tasks c.args.objects.now c.args.places.now w.queue w.walk.depth [] w.walk.marks w.walk.stack c.from_word-g.result.0 w.invariant.long c.loop-walk-test.true (walks []));
    }

pub returns : goal.returns
returns c = λ l.
    let w = c.loop-walk in
    let b = cancel-begins c.find_tasks.result c.args.tasks.now c.args.objects.now c.args.places.now (replicate object_limit zero) c.args.queue.now l c.args.t.0 c.load_header-header.ensures c.find_tasks.ensures (c.remove_blocked.ensures.walks c.args.places.now l) in
    let walks = rw c.remove_blocked.ensures.keeps at (w.invariant.walks b.log) in
    cancel-end c.find_tasks.result w.tasks c.args.objects.now c.args.places.now w.queue w.walk.depth w.walk.marks w.walk.stack w.invariant.long c.loop-walk-test.false (logged_then walks b.gives)
