use mathlib.Core.Path.{refl, sym, ◌∙◌}
use native.Mathlib.Omega.{arith}
use Rattle.sound_words.specs.Loops.{all_none, all_turn, all_fails, all_end}
use Rattle.sound_tasks.specs.CallLaws.{highest_none, highest_turn, call_none, call_high, call_looked, number_told, number_none}
use Rattle.sound_tasks.proofs.calls.calls_new.Goals as goal
use Rattle.sound_tasks.proofs.calls.calls_new.Goals.{in-Some+then-free-word, in-Some+else-free-word+else-not-others_differ, in_default}

pub loop-o-init : goal.loop-o-init
loop-o-init c = (all_none _, highest_none _ _)

pub loop-o-preserved : goal.loop-o-preserved
loop-o-preserved c = let os = c.args.objects.now in let o = c.loop-o.o in elim c.match-pending_call.branch [
  | in-Some+then-free-word w ↦
      let n = number_told os o c.pending_call.ensures w.in-Some.is in
      rw w.free-is (all_turn _ o (call_high os o c.loop-o.free n (omega arith) c.loop-o.invariant.1) c.loop-o.invariant.0, highest_turn os o c.loop-o.free _ (omega arith) (omega (arith, n)) c.loop-o.invariant.1)
  | in-Some+else-free-word+else-not-others_differ w ↦
      let n = number_told os o c.pending_call.ensures w.in-Some.is in
      rw w.free-is (all_turn _ o (sym w.if-not-others_differ.false ∙ call_looked os o n (λ e. omega arith) w.others_differ.ensures) c.loop-o.invariant.0, highest_turn os o c.loop-o.free _ (omega arith) (omega (arith, n)) c.loop-o.invariant.1)
  | in_default w ↦
      let n = number_none os o c.pending_call.ensures w.in_default.is in
      rw w.free-is (all_turn _ o (call_none os o n refl) c.loop-o.invariant.0, highest_turn os o c.loop-o.free _ (omega arith) (omega (arith, n)) c.loop-o.invariant.1)
]

pub returns-then-not-others_differ : goal.returns-then-not-others_differ
returns-then-not-others_differ c = all_fails _ c.loop-o.o _ c.loop-o-test.true (sym c.if-not-others_differ.true ∙ call_looked _ _ (number_told _ _ c.pending_call.ensures c.in-Some.is) (λ e. omega arith) c.others_differ.ensures)

pub returns : goal.returns
returns c = all_end _ c.loop-o.o _ (omega arith) c.loop-o-test.false c.loop-o.invariant.0
