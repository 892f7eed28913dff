use mathlib.Core.Path.{◌≡◌, refl, ap, ◌∙◌}
use Prim.Native.Nat.{suc, ◌+◌, ◌-◌}
use native.Mathlib.Omega.{arith}
use Rattle.asyncio.specs.declared.HeapId.{HeapId}
use Rattle.scheduler.specs.Skips.{any_of}
use Rattle.scheduler.specs.SkipLaws.{any_here, any_next}
use Rattle.scheduler.proofs.skip.any_of.Goals as goal

pub loop-i-init : goal.loop-i-init
loop-i-init g c = λ p t. let k : c.args.o + 0 ≡ c.args.o = omega arith in let m : g.row.N - 0 ≡ g.row.N = omega arith in rw (k, m)

pub returns-then-test : goal.returns-then-test
returns-then-test g c = λ p t.
    let i = c.loop-i.i in
    let k : g.row.N - i ≡ suc (g.row.N - (i + 1)) = omega arith in
    let answers = t c.new.result c.test.result (omega (arith, c.requires.0, ap (λ (h : HeapId). h.0) c.new.ensures)) c.test.ensures in
    any_here p (c.args.o + i) (g.row.N - (i + 1)) c.new.ensures answers c.if-test.true ∙ (rw k at (c.loop-i.invariant p t))

pub loop-i-preserved : goal.loop-i-preserved
loop-i-preserved g c = λ p t.
    let i = c.loop-i.i in
    let k : g.row.N - i ≡ suc (g.row.N - (i + 1)) = omega arith in
    let answers = t c.new.result c.test.result (omega (arith, c.requires.0, ap (λ (h : HeapId). h.0) c.new.ensures)) c.test.ensures in
    any_next p (c.args.o + i) (g.row.N - (i + 1)) c.new.ensures answers (c.args.o + (i + 1)) (omega arith) c.if-test.false refl ∙ (rw k at (c.loop-i.invariant p t))

pub returns : goal.returns
unfolding any_of
returns g c = λ p t.
    let z : g.row.N - c.loop-i.i ≡ 0 = omega arith in
    rw z at (c.loop-i.invariant p t)
