-- What the laws of proofs/Sessions.antt state.
use Rattle.std.specs.Prelude.{◌≡◌, List, ℕ}
use Rattle.machine.specs.Store.{Store}
use Rattle.machine.specs.Machine.{Event, answers}
use Rattle.machine_widths.specs.Widths.{after_at, answers_at}

-- the same answers and the same store
abbrev pub Same : ℕ → ℕ → Store → List Event → Type 0
Same n m s es = (answers_at m s es ≡ answers_at n s es) × (after_at m s es ≡ after_at n s es)
