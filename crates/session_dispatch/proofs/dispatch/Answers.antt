use Rattle.std.specs.Prelude.{◌≡◌, List, [], ℕ, Bool}
use Rattle.std.proofs.Common.{sym, ◌∙◌, Bor}
use Rattle.queue.specs.declared.ReadyQueue.{ReadyQueue}
use Rattle.machine.specs.Store.{LogEntry, store_of}
use Rattle.machine.specs.Sound.{sound}
use Rattle.machine.specs.Lent.{lengths_right, slices_right}
use Rattle.step_checks.specs.LentLaws.{array-words, wrong_length, not_sound}
use Rattle.session_dispatch.proofs.dispatch.Goals as goal

-- the store of the arrays is the store of the slices
of_slices : {ts os ps us vs ws : List ℕ} (q : ReadyQueue) (l : List LogEntry) {b : Bool} → us ≡ ts → vs ≡ os → ws ≡ ps → b ≡ sound (store_of us vs ws q l) → b ≡ sound (store_of ts os ps q l)
of_slices q l i j k r = rw (← i, ← j, ← k) r

pub returns-then-not-lengths_right : goal.returns-then-not-lengths_right
returns-then-not-lengths_right c = λ l. wrong_length c.args.tasks.now c.args.objects.now c.args.places.now c.args.queue c.args.calls.now l _ c.lengths_right.ensures c.if-not-lengths_right.true

pub returns-then-not-is_sound : goal.returns-then-not-is_sound
returns-then-not-is_sound c = λ l.
    let now = λ (x : Bor (List ℕ)). x.now in
    let is_sound = of_slices c.args.queue l (array-words now _ _ c.unwrap.ensures c.as_array.ensures.cases) (array-words now _ _ c.unwrap-2.ensures c.as_array-2.ensures.cases) (array-words now _ _ c.unwrap-3.ensures c.as_array-3.ensures.cases) (c.is_sound.ensures l) in
    not_sound c.args.tasks.now c.args.objects.now c.args.places.now c.args.queue c.args.calls.now l _ c.lengths_right.ensures c.if-not-lengths_right.false is_sound c.if-not-is_sound.true

pub step-requires : goal.step-requires
unfolding lengths_right slices_right
step-requires c =
    let now = λ (x : Bor (List ℕ)). x.now in
    let is_sound = of_slices c.args.queue [] (array-words now _ _ c.unwrap.ensures c.as_array.ensures.cases) (array-words now _ _ c.unwrap-2.ensures c.as_array-2.ensures.cases) (array-words now _ _ c.unwrap-3.ensures c.as_array-3.ensures.cases) (c.is_sound.ensures []) in
    (sym c.lengths_right.ensures ∙ c.if-not-lengths_right.false, sym is_sound ∙ c.if-not-is_sound.false)
