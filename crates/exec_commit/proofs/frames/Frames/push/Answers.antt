use native.Mathlib.Omega.{arith}
use Rattle.exec_commit.proofs.StackLaws.{length-below, below_push}
use Rattle.exec_commit.proofs.frames.Frames.push.Goals as goal

pub offset_bounds-self-self : goal.offset_bounds-self-self
offset_bounds-self-self c = let s = c.args.self.now in omega (arith, c.requires, length-below s.frames s.depth)

pub bounds-self-self : goal.bounds-self-self
bounds-self-self c = let s = c.args.self.now in omega (arith, c.requires, length-below s.frames s.depth)

pub overflow_add-self : goal.overflow_add-self
overflow_add-self c = let s = c.args.self.now in omega (arith, c.requires, length-below s.frames s.depth)

pub returns : goal.returns
returns c = let s = c.args.self.now in below_push s.frames s.depth c.args.frame (omega (arith, c.requires, length-below s.frames s.depth))
