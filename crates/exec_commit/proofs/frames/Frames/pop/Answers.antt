use native.Mathlib.Omega.{arith}
use Prim.Native.Nat.{◌-◌}
use Rattle.exec_commit.specs.Stack.{Pops}
use Rattle.exec_commit.proofs.StackLaws.{length-below, below_empty, below_pop}
use Rattle.exec_commit.proofs.frames.Frames.pop.Goals as goal

pub returns-then-self-eq0 : goal.returns-then-self-eq0
unfolding Pops
returns-then-self-eq0 c = let e = below_empty c.args.self.now.frames c.if-self-eq0.true in (e, e)

pub offset_bounds-self-self : goal.offset_bounds-self-self
offset_bounds-self-self c = let s = c.args.self.now in omega (arith, c.requires, length-below s.frames s.depth)

pub bounds-self-self : goal.bounds-self-self
bounds-self-self c = let s = c.args.self.now in omega (arith, c.requires, length-below s.frames s.depth)

pub returns : goal.returns
unfolding Pops
returns c = let s = c.args.self.now in below_pop s.frames s.depth (s.depth - 1) (omega (arith, c.if-self-eq0.false))
