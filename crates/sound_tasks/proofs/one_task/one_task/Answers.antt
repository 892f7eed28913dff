use mathlib.Core.Path.{sym, refl, ◌∙◌}
use native.Mathlib.Omega.{arith}
use Rattle.asyncio.specs.Limits.{object_limit}
use Rattle.rows.specs.TableLaws.{coroutine_fits}
use Rattle.machine.specs.Sound.{one_task}
use Rattle.sound_words.specs.Loops.{all_none, all_turn, all_fails, all_end_from_one}
use Rattle.sound_tasks.specs.Marks.{marks_none}
use Rattle.sound_tasks.specs.OneTaskLaws.{driven, task_of_main, marks_main, task_of_dead, marks_dead, task_of_second, task_of_first, marks_live}
use Rattle.sound_tasks.proofs.one_task.one_task.Goals as goal
use Rattle.sound_tasks.proofs.one_task.one_task.Goals.{then-is_live+else-seen-k, else-is_live}

pub loop-t-init : goal.loop-t-init
loop-t-init c = let ts = c.args.tasks.now in (
  all_turn _ 0 (task_of_main ts _ 0 (marks_none object_limit (driven ts)) refl) (all_none _),
  marks_main ts _ 0 (marks_none object_limit (driven ts)) refl,
)

pub bounds-seen-k : goal.bounds-seen-k
bounds-seen-k c = omega (arith, coroutine_fits _ _ c.coroutine_at-k.ensures, c.loop-t.invariant.1.long)

pub returns-then-seen-k : goal.returns-then-seen-k
unfolding one_task
returns-then-seen-k c = all_fails _ c.loop-t.t _ c.loop-t-test.true (task_of_second _ c.loop-t.seen _ c.loop-t.invariant.1 c.state_at.ensures (λ e. omega arith) (sym c.is_live.ensures ∙ c.if-is_live.true) c.coroutine_at-k.ensures c.if-seen-k.true)

pub bounds-seen-k-then-is_live : goal.bounds-seen-k-then-is_live
bounds-seen-k-then-is_live c = omega (arith, coroutine_fits _ _ c.coroutine_at-k.ensures, c.loop-t.invariant.1.long)

pub loop-t-preserved : goal.loop-t-preserved
loop-t-preserved c = let l = c.loop-t in elim c.if-is_live.branch [
  | then-is_live+else-seen-k w ↦
      let r = sym c.is_live.ensures ∙ w.if-is_live.true in
      rw w.seen-is (
        all_turn _ l.t (task_of_first _ l.seen _ l.invariant.1 c.state_at.ensures (λ e. omega arith) r w.coroutine_at-k.ensures w.if-seen-k.false) l.invariant.0,
        marks_live _ l.seen _ l.invariant.1 c.state_at.ensures (λ e. omega arith) r w.coroutine_at-k.ensures,
      )
  | else-is_live w ↦
      let r = sym c.is_live.ensures ∙ w.if-is_live.false in
      rw w.seen-is (all_turn _ l.t (task_of_dead _ l.seen _ l.invariant.1 c.state_at.ensures r) l.invariant.0, marks_dead _ l.seen _ l.invariant.1 c.state_at.ensures r)
]

pub returns : goal.returns
unfolding one_task
returns c = all_end_from_one _ c.loop-t.t c.args.next c.loop-t-test.false c.loop-t.auto.t-end c.loop-t.invariant.0
