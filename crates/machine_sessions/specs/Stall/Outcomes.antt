-- A coroutine comes to something, a value or an error, only by the exit of a task that was spawned for it.
use Rattle.std.specs.Prelude.{◌≡◌, Bool, ◌&&◌, ◌||◌, List, [], ◌∷◌, ℕ, eqb}
use Rattle.std.proofs.Math.Path.{refl}
use Rattle.std.proofs.Common.{sym, ap, ap₂, ◌∙◌, true≢false, eq-eqb, eqb-true}
use Rattle.std.proofs.Math.Bool.{true, false}
use Rattle.std.proofs.Math.Option.{Option, none, some}
use Rattle.asyncio.specs.declared.Value.{Value}
use Rattle.asyncio.specs.declared.Error.{Error}
use Rattle.machine.specs.Store.{LogEntry, spawned, blocked, reached, exited, removed}
use Rattle.machine.specs.Gather.{Outcome, returned, raised}
use Rattle.machine.specs.History.{Entry, said, is_at, running_coroutine, completed_value, spawned_for, coroutine_of, is_none, exits_unstarted, failed_error, coroutine_outcome}
use Rattle.machine_laws.specs.DeliveryLaws.{absurd_some}
use Rattle.machine_sessions.specs.Stall.TaskLog.{exits_by}

-- what coroutine c has come to
abbrev pub outcome_of : List Entry → ℕ → Option (Outcome Value Error)
outcome_of h c = coroutine_outcome (completed_value h c) (failed_error h c)

pub is_there : (b : Option ℕ) (c : ℕ) → is_at b c ≡ true → b ≡ some c
unfolding is_at
is_there none c e = absurd (true≢false (sym e))
is_there (some b) c e = ap (λ (n : ℕ). some n) (eqb-true b c e)

or_by : (a b : Bool) → (a || b) ≡ true → (A : Type 0) → (a ≡ true → A) → (b ≡ true → A) → A
or_by true b e A f g = f refl
or_by false b e A f g = g e

and_first : (a b : Bool) → (a && b) ≡ true → a ≡ true
and_first true b e = refl
and_first false b e = absurd (true≢false (sym e))

or_true : (a : Bool) → (a || true) ≡ true
or_true true = refl
or_true false = refl

-- a failed first run is an exit
pub unstarted-exits : (f g : ℕ → Option ℕ) (x : ℕ → Bool) (l : List LogEntry) (c : ℕ) → exits_unstarted f g l c ≡ true → (v : ℕ) × (f v ≡ some c) × (exits_by (x v) l v ≡ true)
unfolding exits_unstarted exits_by
unstarted-exits f g x [] c e = absurd (true≢false (sym e))
unstarted-exits f g x (spawned u d ∷ hs) c e = unstarted-exits f g x hs c e
unstarted-exits f g x (blocked u ∷ hs) c e = unstarted-exits f g x hs c e
unstarted-exits f g x (reached u ∷ hs) c e = unstarted-exits f g x hs c e
unstarted-exits f g x (removed u ∷ hs) c e = unstarted-exits f g x hs c e
unstarted-exits f g x (exited u ∷ hs) c e =
    or_by (is_at (f u) c && is_none (g u)) (exits_unstarted f g hs c) e _
    (λ q. (u, is_there (f u) c (and_first (is_at (f u) c) (is_none (g u)) q), ap (λ (b : Bool). b || exits_by (x u) hs u) (eq-eqb u u refl)))
    (λ q. let y = unstarted-exits f g x hs c q in (y.0, y.1, ap (λ (b : Bool). eqb u y.0 || b) y.2 ∙ or_true (eqb u y.0)))

-- who has exited stays so
pub exits-on : (l : List LogEntry) (v : ℕ) → exits_by true l v ≡ true
unfolding exits_by
exits-on [] v = refl
exits-on (spawned u d ∷ hs) v = exits-on hs v
exits-on (blocked u ∷ hs) v = exits-on hs v
exits-on (reached u ∷ hs) v = exits-on hs v
exits-on (removed u ∷ hs) v = exits-on hs v
exits-on (exited u ∷ hs) v = ap (λ (b : Bool). eqb u v || b) (exits-on hs v) ∙ or_true (eqb u v)

-- what a coroutine has come to one entry later: what it had; or its task ran and the entry ends it; or its task failed at its first run
pub data Came (x : Entry) (h : List Entry) (c : ℕ) : Type 0 where
  was : (r : Outcome Value Error) → outcome_of h c ≡ some r → Came x h c
  completed : (v : Value) → running_coroutine h ≡ some c → (said x).completes ≡ some v → Came x h c
  failed : (n : ℕ) → running_coroutine h ≡ some c → (said x).fails ≡ some n → Came x h c
  unstarted : exits_unstarted (spawned_for (x ∷ h)) (coroutine_of (x ∷ h)) x.happened c ≡ true → Came x h c

module _ (x : Entry) (h : List Entry) (c : ℕ) where
  had-value : (v : Value) → completed_value h c ≡ some v → Came x h c
  had-value v e = was (returned v) (ap (λ (y : Option Value). coroutine_outcome y (failed_error h c)) e ∙ (unfold coroutine_outcome in refl))

  had_error : (e : Error) → failed_error h c ≡ some e → Came x h c
  had_error e q = by (completed_value h c) refl
    where
      by : (y : Option Value) → completed_value h c ≡ y → Came x h c
      by none n = was (raised e) (ap₂ coroutine_outcome n q ∙ (unfold coroutine_outcome in refl))
      by (some v) n = had-value v n

  by_value : (v : Value) → completed_value (x ∷ h) c ≡ some v → Came x h c
  unfolding completed_value
  by_value v e = by (is_at (running_coroutine h) c) refl (said x).completes refl e
    where
      by : (b : Bool) → is_at (running_coroutine h) c ≡ b → (y : Option Value) → (said x).completes ≡ y → elim b [ true ↦ elim y [ none ↦ completed_value h c | some w ↦ some w ] | false ↦ completed_value h c ] ≡ some v → Came x h c
      by true a none n q = had-value v q
      by true a (some w) n q = completed w (is_there (running_coroutine h) c a) n
      by false a y n q = had-value v q

  by-error : (e : Error) → failed_error (x ∷ h) c ≡ some e → Came x h c
  unfolding failed_error
  by-error e d = by (exits_unstarted (spawned_for (x ∷ h)) (coroutine_of (x ∷ h)) x.happened c) refl (is_at (running_coroutine h) c) refl (said x).fails refl d
    where
      by : (k : Bool) → exits_unstarted (spawned_for (x ∷ h)) (coroutine_of (x ∷ h)) x.happened c ≡ k → (b : Bool) → is_at (running_coroutine h) c ≡ b → (y : Option ℕ) → (said x).fails ≡ y
          → elim k [ true ↦ some Error.CoroutineReuse | false ↦ elim b [ true ↦ elim y [ none ↦ failed_error h c | some n ↦ some (Error.Script n) ] | false ↦ failed_error h c ] ] ≡ some e → Came x h c
      by true m b a y n q = unstarted m
      by false m true a none n q = had_error e q
      by false m true a (some w) n q = failed w (is_there (running_coroutine h) c a) n
      by false m false a y n q = had_error e q

  pub came : (r : Outcome Value Error) → outcome_of (x ∷ h) c ≡ some r → Came x h c
  unfolding coroutine_outcome
  came r e = by (completed_value (x ∷ h) c) refl (failed_error (x ∷ h) c) refl e
    where
      by : (y : Option Value) → completed_value (x ∷ h) c ≡ y → (z : Option Error) → failed_error (x ∷ h) c ≡ z → coroutine_outcome y z ≡ some r → Came x h c
      by (some v) p z q d = by_value v p
      by none p (some v) q d = by-error v q
      by none p none q d = absurd_some d
