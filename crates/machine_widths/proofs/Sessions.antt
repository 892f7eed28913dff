-- More call numbers change nothing before the first refusal 8, over lists of events.
use Rattle.std.specs.Prelude.{◌≡◌, refl, List, [], ◌∷◌, ℕ, ◌≤◌, eqb}
use Rattle.std.proofs.Common.{ap, ◌∙◌, eq-eqb, ne_eqb}
use Rattle.std.proofs.Math.Decide.{ℕ_discrete}
use Rattle.asyncio.specs.Limits.{call_limit}
use Rattle.asyncio.specs.States.{pick}
use Rattle.machine.specs.Store.{Store}
use Rattle.machine.specs.Machine.{Event, Answer, Step, decide, step, after, answers}
use Rattle.machine_theorems.specs.Soundness.Sessions.{AllInRange}
use Rattle.machine_widths.specs.Widths.{refusal_at, step_at, after_at, answers_at, before_8, Without8}
use Rattle.machine_widths.specs.WidthLaws.{SoundAt}
use Rattle.machine_widths.proofs.WidthLaws.{sound-here, step-wider, step_limit, step-sound_at}
use Rattle.machine_widths.specs.Sessions.{Same}

pub same-before_8 : (n m : ℕ) → n ≤ m → n ≤ call_limit → (es : List Event) (s : Store) → AllInRange es → SoundAt n s → Same n m s (before_8 n s es)
unfolding before_8 AllInRange answers_at after_at
same-before_8 n m l u [] s i h = (refl, refl)
same-before_8 n m l u (e ∷ es) s i h = by (ℕ_discrete (refusal_at n s e) 8) (λ w. same-before_8 n m l u es (step_at n s e).store i.1 w)
  where
    rest : List Event
    rest = before_8 n (step_at n s e).store es

    by : Dec (refusal_at n s e ≡ 8) → (SoundAt n (step_at n s e).store → Same n m (step_at n s e).store rest)
        → Same n m s (pick (eqb (refusal_at n s e) 8) [] (e ∷ rest))
    by (yes r) go = rw (eq-eqb (refusal_at n s e) 8 r) (refl, refl)
    by (no r) go =
        let a : step_at m s e ≡ step_at n s e = step-wider n m l s e (sound-here n u s h) r in
        let g = go (step-sound_at n u s h e i.0) in
        rw (ne_eqb (refusal_at n s e) 8 r) (
          ap (λ (x : Step). x.answer ∷ answers_at m x.store rest) a ∙ ap (λ (xs : List Answer). (step_at n s e).answer ∷ xs) g.0,
          ap (λ (x : Step). after_at m x.store rest) a ∙ g.1,
        )

-- Where no answer is refusal 8, these are all events.
pub all_before_8 : (n : ℕ) (es : List Event) (s : Store) → Without8 (answers_at n s es) → before_8 n s es ≡ es
unfolding before_8 answers_at Without8 step_at decide
all_before_8 n [] s w = refl
all_before_8 n (e ∷ es) s w = by (ℕ_discrete (refusal_at n s e) 8) (all_before_8 n es (step_at n s e).store w.1)
  where
    by : Dec (refusal_at n s e ≡ 8) → before_8 n (step_at n s e).store es ≡ es → pick (eqb (refusal_at n s e) 8) [] (e ∷ before_8 n (step_at n s e).store es) ≡ e ∷ es
    by (yes r) more = absurd (w.0 (rw r))
    by (no r) more = rw (ne_eqb (refusal_at n s e) 8 r, more)

-- Every state of a session is sound, with at most n calls handed out.
pub session-sound_at : (n : ℕ) → n ≤ call_limit → (es : List Event) (s : Store) → AllInRange es → SoundAt n s → SoundAt n (after_at n s es)
unfolding after_at AllInRange
session-sound_at n u [] s i h = h
session-sound_at n u (e ∷ es) s i h = session-sound_at n u es (step_at n s e).store i.1 (step-sound_at n u s h e i.0)

-- ---- with `call_limit` numbers it is the machine itself

pub after_limit : (es : List Event) (s : Store) → after_at call_limit s es ≡ after s es
unfolding after_at after
after_limit [] s = refl
after_limit (e ∷ es) s = ap (λ (x : Step). after_at call_limit x.store es) (step_limit s e) ∙ after_limit es (step s e).store

pub answers_limit : (es : List Event) (s : Store) → answers_at call_limit s es ≡ answers s es
unfolding answers_at answers
answers_limit [] s = refl
answers_limit (e ∷ es) s =
    ap (λ (x : Step). x.answer ∷ answers_at call_limit x.store es) (step_limit s e) ∙ ap (λ (xs : List Answer). (step s e).answer ∷ xs) (answers_limit es (step s e).store)
