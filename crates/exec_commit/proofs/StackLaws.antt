-- How a stack's array gives its frames, and what a frame that is taken off says of them.
use Rattle.std.specs.Prelude.{◌≡◌, List, [], ◌∷◌, ℕ, zero, suc, get_or, set, length, None, Some}
use Rattle.std.specs.Prelude as rust
use Rattle.std.proofs.Common.{refl, ap, arith, ◌+◌, ◌≤◌, ◌<◌, get_or-set_same, get_or-set_other}
use Rattle.machine.specs.Commit as machine
use Rattle.exec_commit.specs.Stack.{no_frame, frame_of, below, Pops}
use Rattle.exec_commit.specs.declared.frames.Frame.{Frame}

pub length-below : (fs : List Frame) (d : ℕ) → length (below fs d) ≡ d
unfolding below
length-below fs zero = refl
length-below fs (suc d) = ap suc (length-below fs d)

below-set : (fs : List Frame) (d n : ℕ) (f : Frame) → d ≤ n → below (set fs n f) d ≡ below fs d
unfolding below
below-set fs zero n f h = refl
below-set fs (suc d) n f h =
    let a : get_or (set fs n f) d no_frame ≡ get_or fs d no_frame = get_or-set_other fs n d f no_frame (λ e. omega arith) in
    rw (a, below-set fs d n f (omega arith))

pub below_push : (fs : List Frame) (d : ℕ) (f : Frame) → d < length fs → below (set fs d f) (d + 1) ≡ frame_of f ∷ below fs d
unfolding below
below_push fs d f p =
    let e : d + 1 ≡ suc d = omega arith in
    rw (e, get_or-set_same fs d f no_frame p, below-set fs d d f (omega arith))

pub below_empty : (fs : List Frame) {d : ℕ} → d ≡ 0 → below fs d ≡ []
unfolding below
below_empty fs e = rw e

pub below_pop : (fs : List Frame) (d k : ℕ) → d ≡ suc k → below fs d ≡ frame_of (get_or fs k no_frame) ∷ below fs k
unfolding below
below_pop fs d k e = rw e

-- ---- a frame was taken off

pub popped : {old new : List machine.Frame} {r : rust.Option Frame} {f : Frame} → Pops r old new → r ≡ Some f → old ≡ frame_of f ∷ new
unfolding Pops
popped h e = rw e at h

pub nothing_popped : (r : rust.Option Frame) (old new : List machine.Frame) → Pops r old new → ((f : Frame) → r ≡ Some f → ⊥) → old ≡ []
unfolding Pops
nothing_popped None old new h n = h.0
nothing_popped (Some f) old new h n = absurd (n f refl)

pub length-pushed : {fs gs : List machine.Frame} {f : machine.Frame} → gs ≡ f ∷ fs → length gs ≡ length fs + 1
length-pushed e = rw e (omega arith)
