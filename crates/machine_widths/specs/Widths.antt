-- The machine with n call numbers, 0 to n - 1 (document 02, No. 1): a store is sound where no more are handed out, and where all are, refusal 8 meets what
-- would take one more.
-- With `call_limit` numbers it is the machine itself (`answers_limit`, `after_limit`), with 65,536 that of the old width.
use Rattle.std.specs.Prelude.{◌≡◌, ℕ, Bool, not, List, [], ◌∷◌, eqb, leb}
use Rattle.asyncio.specs.States.{pick}
use Rattle.machine.specs.Tests.{◌and◌}
use Rattle.machine.specs.Store.{Store, header, forget}
use Rattle.machine.specs.Sound.{sound}
use Rattle.machine.specs.Machine.{Event, Answer, Step, refusals, first_refusal, decide}

-- the call numbers of the old width: those of 16 bits
abbrev pub old_limit : ℕ
old_limit = 65536

-- sound, with at most n calls handed out
unfoldable pub sound_at : ℕ → Store → Bool
sound_at n s = sound s and leb (header s).calls n

-- a check of the machine's table: 8 asks whether the numbers below n are all handed out, every other asks what it asks there
unfoldable pub check_at : ℕ → Store → ℕ × Bool → ℕ × Bool
check_at n s c = (c.0, pick (eqb c.0 8) (leb n (header s).calls) c.1)

-- the table
unfoldable pub checks_at : ℕ → Store → List (ℕ × Bool) → List (ℕ × Bool)
checks_at n s [] = []
checks_at n s (c ∷ cs) = check_at n s c ∷ checks_at n s cs

-- the number of the first check that meets the event, 0 if none does
unfoldable pub refusal_at : ℕ → Store → Event → ℕ
refusal_at n s e = first_refusal ((2, not (sound_at n s)) ∷ checks_at n s (refusals s e))

-- One event: refused, or done.
unfoldable pub step_at : ℕ → Store → Event → Step
step_at n s e = decide (refusal_at n s e) (forget s) e

-- the store after a list of events
unfoldable pub after_at : ℕ → Store → List Event → Store
after_at n s [] = s
after_at n s (e ∷ es) = after_at n (step_at n s e).store es

-- the answers to a list of events
unfoldable pub answers_at : ℕ → Store → List Event → List Answer
answers_at n s [] = []
answers_at n s (e ∷ es) = (step_at n s e).answer ∷ answers_at n (step_at n s e).store es

-- the events before the first that is refused with 8
unfoldable pub before_8 : ℕ → Store → List Event → List Event
before_8 n s [] = []
before_8 n s (e ∷ es) = pick (eqb (refusal_at n s e) 8) [] (e ∷ before_8 n (step_at n s e).store es)

-- no answer is refusal 8
unfoldable pub Without8 : List Answer → Type 0
Without8 [] = Unit {0}
Without8 (a ∷ rest) = (a ≡ Answer.refused 8 → ⊥) × Without8 rest
