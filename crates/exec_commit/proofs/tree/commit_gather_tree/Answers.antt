use native.Mathlib.Omega.{arith}
use Rattle.exec_commit.specs.TreeLaws.{tree_begins, no_frame_placed, begins_low, begins-few, tree_result, nested_range, nested-room, nested-falls, nested_placed, gathers_fit, parent_range, child_range, child_few, popped_pending, popped_placed, tree_nested, tree_root, tree_popped, tree_raised}
use Rattle.exec_commit.proofs.StackLaws.{popped, nothing_popped, length-pushed}
use Rattle.exec_commit.proofs.tree.commit_gather_tree.Goals as goal

pub loop-at-init : goal.loop-at-init
loop-at-init c =
    let e = c.new-waiting.ensures in
    (tree_begins _ _ _ _ _ e, no_frame_placed _ e, c.told-tasks, omega arith, c.told-places, c.requires, begins_low _ e, begins-few _ e)

pub push-requires : goal.push-requires
push-requires c = omega (arith, c.loop-at.invariant.6, nested-room _ _ _ _ _ _ c.loop-at.invariant.2 c.loop-at.invariant.3 c.loop-at.invariant.4 c.loop-at.invariant.5 _ _ _ _ _ c.step_gather_commit-stop.ensures _ _ c.in-Nested.is)

pub open_gather_commit-requires-in-Nested : goal.open_gather_commit-requires-in-Nested
open_gather_commit-requires-in-Nested c = nested_range _ _ _ _ _ _ c.loop-at.invariant.2 c.loop-at.invariant.3 c.loop-at.invariant.4 c.loop-at.invariant.5 _ _ _ _ _ c.step_gather_commit-stop.ensures _ _ c.in-Nested.is

pub loop-at-smaller-in-Nested : goal.loop-at-smaller-in-Nested
loop-at-smaller-in-Nested c = omega (arith, length-pushed c.push.ensures, nested-falls _ _ _ _ _ _ c.loop-at.invariant.2 c.loop-at.invariant.3 c.loop-at.invariant.4 c.loop-at.invariant.5 _ _ _ _ _ c.step_gather_commit-stop.ensures _ _ c.in-Nested.is _ _ (c.open_gather_commit-in-Nested.ensures _ _ _ _))

pub loop-at-preserved-in-Nested : goal.loop-at-preserved-in-Nested
loop-at-preserved-in-Nested c = (
  tree_nested _ _ _ _ _ _ c.loop-at.invariant.2 c.loop-at.invariant.3 c.loop-at.invariant.4 c.loop-at.invariant.5 _ _ _ _ _ c.step_gather_commit-stop.ensures _ _ c.loop-at.steps c.loop-at.invariant.1 c.loop-at.invariant.0 _ _ c.in-Nested.is c.push.ensures _ (λ l. c.open_gather_commit-in-Nested.ensures _ _ _ l),
  nested_placed _ _ _ _ _ _ c.loop-at.invariant.2 c.loop-at.invariant.3 c.loop-at.invariant.4 c.loop-at.invariant.5 _ _ _ _ _ c.step_gather_commit-stop.ensures _ _ c.in-Nested.is _ _ (c.open_gather_commit-in-Nested.ensures _ _ _ _) _ c.loop-at.invariant.1 c.push.ensures,
  omega arith,
  omega arith,
  omega arith,
  nested_range _ _ _ _ _ _ c.loop-at.invariant.2 c.loop-at.invariant.3 c.loop-at.invariant.4 c.loop-at.invariant.5 _ _ _ _ _ c.step_gather_commit-stop.ensures _ _ c.in-Nested.is,
  omega (arith, c.loop-at.invariant.6, length-pushed c.push.ensures, nested-falls _ _ _ _ _ _ c.loop-at.invariant.2 c.loop-at.invariant.3 c.loop-at.invariant.4 c.loop-at.invariant.5 _ _ _ _ _ c.step_gather_commit-stop.ensures _ _ c.in-Nested.is _ _ (c.open_gather_commit-in-Nested.ensures _ _ _ _)),
  omega (arith, c.loop-at.invariant.7, length-pushed c.push.ensures, nested-falls _ _ _ _ _ _ c.loop-at.invariant.2 c.loop-at.invariant.3 c.loop-at.invariant.4 c.loop-at.invariant.5 _ _ _ _ _ c.step_gather_commit-stop.ensures _ _ c.in-Nested.is _ _ (c.open_gather_commit-in-Nested.ensures _ _ _ _)),
)

pub returns-in_default : goal.returns-in_default
returns-in_default c = λ l. tree_result c.args.tasks.now c.args.objects.now c.args.places.now c.args.queue.now c.args.root.0 c.args.awaiter l (c.open_gather_commit.ensures _ _ _ l) _ _ _ _ _ _ (tree_root _ _ _ _ _ _ c.loop-at.invariant.2 c.loop-at.invariant.3 c.loop-at.invariant.4 c.loop-at.invariant.5 _ _ _ _ _ c.step_gather_commit-stop.ensures _ _ c.loop-at.steps c.loop-at.invariant.1 c.loop-at.invariant.0 c.in-End.is (nothing_popped _ _ _ c.pop.ensures c.in_default.not-Some) _ _ (λ l. c.settle_gather_commit-poll.ensures _ _ _ l) l)

pub resume_after_child-requires : goal.resume_after_child-requires
resume_after_child-requires c = (parent_range _ _ _ _ _ _ c.loop-at.invariant.2 c.loop-at.invariant.3 c.loop-at.invariant.4 c.loop-at.invariant.5 _ _ _ _ _ c.step_gather_commit-stop.ensures c.in-End.is _ _ (λ l. c.settle_gather_commit-poll.ensures _ _ _ l) _ _ _ _ (popped c.pop.ensures c.in-Some.is) c.loop-at.invariant.1, child_range _ _ _ _ _ _ c.loop-at.invariant.2 c.loop-at.invariant.3 c.loop-at.invariant.4 c.loop-at.invariant.5 _ _ _ _ _ c.step_gather_commit-stop.ensures c.in-End.is _ _ (λ l. c.settle_gather_commit-poll.ensures _ _ _ l) _ _ _ _ (popped c.pop.ensures c.in-Some.is) c.loop-at.invariant.1)

pub overflow_add-top : goal.overflow_add-top
overflow_add-top c = omega (arith, child_few _ _ _ _ _ _ c.loop-at.invariant.2 c.loop-at.invariant.3 c.loop-at.invariant.4 c.loop-at.invariant.5 _ _ _ _ _ c.step_gather_commit-stop.ensures c.in-End.is _ _ (λ l. c.settle_gather_commit-poll.ensures _ _ _ l) _ _ _ _ (popped c.pop.ensures c.in-Some.is) c.loop-at.invariant.1)

pub loop-at-smaller : goal.loop-at-smaller
loop-at-smaller c = omega (arith, length-pushed (popped c.pop.ensures c.in-Some.is), popped_pending _ _ _ _ _ _ c.loop-at.invariant.2 c.loop-at.invariant.3 c.loop-at.invariant.4 c.loop-at.invariant.5 _ _ _ _ _ c.step_gather_commit-stop.ensures c.in-End.is _ _ (λ l. c.settle_gather_commit-poll.ensures _ _ _ l) _ _ _ _ (popped c.pop.ensures c.in-Some.is) c.loop-at.invariant.1 _ _ (λ l. c.resume_after_child.ensures _ _ l))

pub loop-at-preserved : goal.loop-at-preserved
loop-at-preserved c = (
  tree_popped _ _ _ _ _ _ c.loop-at.invariant.2 c.loop-at.invariant.3 c.loop-at.invariant.4 c.loop-at.invariant.5 _ _ _ _ _ c.step_gather_commit-stop.ensures _ _ c.loop-at.steps c.loop-at.invariant.1 c.loop-at.invariant.0 c.in-End.is _ _ _ (popped c.pop.ensures c.in-Some.is) _ _ (λ l. c.settle_gather_commit-poll.ensures _ _ _ l) _ _ (λ l. c.resume_after_child.ensures _ _ l),
  popped_placed _ _ _ _ _ _ c.loop-at.invariant.2 c.loop-at.invariant.3 c.loop-at.invariant.4 c.loop-at.invariant.5 _ _ _ _ _ c.step_gather_commit-stop.ensures c.in-End.is _ _ (λ l. c.settle_gather_commit-poll.ensures _ _ _ l) _ _ _ _ (popped c.pop.ensures c.in-Some.is) c.loop-at.invariant.1 _ _ (λ l. c.resume_after_child.ensures _ _ l),
  omega arith,
  omega arith,
  omega arith,
  parent_range _ _ _ _ _ _ c.loop-at.invariant.2 c.loop-at.invariant.3 c.loop-at.invariant.4 c.loop-at.invariant.5 _ _ _ _ _ c.step_gather_commit-stop.ensures c.in-End.is _ _ (λ l. c.settle_gather_commit-poll.ensures _ _ _ l) _ _ _ _ (popped c.pop.ensures c.in-Some.is) c.loop-at.invariant.1,
  omega (arith, c.loop-at.invariant.6, length-pushed (popped c.pop.ensures c.in-Some.is), popped_pending _ _ _ _ _ _ c.loop-at.invariant.2 c.loop-at.invariant.3 c.loop-at.invariant.4 c.loop-at.invariant.5 _ _ _ _ _ c.step_gather_commit-stop.ensures c.in-End.is _ _ (λ l. c.settle_gather_commit-poll.ensures _ _ _ l) _ _ _ _ (popped c.pop.ensures c.in-Some.is) c.loop-at.invariant.1 _ _ (λ l. c.resume_after_child.ensures _ _ l)),
  omega (arith, c.loop-at.invariant.7, length-pushed (popped c.pop.ensures c.in-Some.is), popped_pending _ _ _ _ _ _ c.loop-at.invariant.2 c.loop-at.invariant.3 c.loop-at.invariant.4 c.loop-at.invariant.5 _ _ _ _ _ c.step_gather_commit-stop.ensures c.in-End.is _ _ (λ l. c.settle_gather_commit-poll.ensures _ _ _ l) _ _ _ _ (popped c.pop.ensures c.in-Some.is) c.loop-at.invariant.1 _ _ (λ l. c.resume_after_child.ensures _ _ l)),
)

pub unwind_gather_commits-requires : goal.unwind_gather_commits-requires
unwind_gather_commits-requires c = (c.loop-at.invariant.5, omega (arith, c.loop-at.invariant.6), gathers_fit _ _ c.loop-at.invariant.1)

pub returns-in-Raised : goal.returns-in-Raised
returns-in-Raised c = λ l. tree_result c.args.tasks.now c.args.objects.now c.args.places.now c.args.queue.now c.args.root.0 c.args.awaiter l (c.open_gather_commit.ensures _ _ _ l) _ _ _ _ _ _ (tree_raised _ _ _ _ _ _ c.loop-at.invariant.2 c.loop-at.invariant.3 c.loop-at.invariant.4 c.loop-at.invariant.5 _ _ _ _ _ c.step_gather_commit-stop.ensures _ _ c.loop-at.steps c.loop-at.invariant.1 c.loop-at.invariant.0 _ c.in-Raised.is _ (λ l. c.unwind_gather_commits.ensures _ _ c.loop-at.top.next _ l) l)
