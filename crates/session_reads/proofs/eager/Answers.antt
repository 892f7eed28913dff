use Rattle.std.specs.Prelude.{◌≡◌, List, [], ℕ, Bool}
use Rattle.std.proofs.Common.{sym, ap, ◌∙◌, Bor}
use Rattle.machine.specs.Machine.{Event}
use Rattle.machine.specs.Lent.{slices_right, read_as}
use Rattle.step_checks.specs.LentLaws.{array-words}
use Rattle.step_read.specs.ReadLaws.{read_length, read_unsound, read-sound}
use Rattle.session_reads.proofs.Slices.{of_slices}
use Rattle.session_reads.proofs.eager.Goals as goal

pub returns-then-not-slices_right : goal.returns-then-not-slices_right
returns-then-not-slices_right c = λ l. ap read_as (read_length c.args.tasks.now c.args.objects.now c.args.places.now c.args.queue l Event.eager c.slices_right.ensures c.if-not-slices_right.true)

pub returns-then-not-is_sound : goal.returns-then-not-is_sound
returns-then-not-is_sound c = λ l.
    let now = λ (x : Bor (List ℕ)). x.now in
    let is_sound = of_slices c.args.queue l (array-words now _ _ c.unwrap.ensures c.as_array-2.ensures.cases) (array-words now _ _ c.unwrap-rows.ensures c.as_array.ensures.cases) (array-words now _ _ c.unwrap-2.ensures c.as_array-3.ensures.cases) (c.is_sound.ensures l) in
    ap read_as (read_unsound c.args.tasks.now c.args.objects.now c.args.places.now c.args.queue l Event.eager c.slices_right.ensures c.if-not-slices_right.false is_sound c.if-not-is_sound.true)

pub returns : goal.returns
unfolding slices_right
returns c = λ l.
    let now = λ (x : Bor (List ℕ)). x.now in
    let rows = array-words now _ _ c.unwrap-rows.ensures c.as_array.ensures.cases in
    let is_sound = of_slices c.args.queue l (array-words now _ _ c.unwrap.ensures c.as_array-2.ensures.cases) rows (array-words now _ _ c.unwrap-2.ensures c.as_array-3.ensures.cases) (c.is_sound.ensures l) in
    ap read_as (read-sound c.args.tasks.now c.args.objects.now c.args.places.now c.args.queue l Event.eager c.slices_right.ensures c.if-not-slices_right.false is_sound c.if-not-is_sound.false (rw rows at (c.eager.ensures c.args.tasks.now c.args.places.now [])))
