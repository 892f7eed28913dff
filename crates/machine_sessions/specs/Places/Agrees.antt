-- Rows and history agree: who runs, which coroutine each task has started, what each coroutine has delivered, how each object was made and what has
-- come of it; and every filled place holds what its item has delivered.
use Rattle.std.proofs.Math.Path.{◌≡◌, refl}
use Rattle.std.proofs.Common.{sym, ap, ap₂, subst, ◌∙◌, true≢false, not-suc-le-zero, arith, eq-eqb, ne_eqb, eqb-true}
use Rattle.std.specs.Prelude.{Bool, true, false, List, [], ◌∷◌, ℕ, zero, suc, ◌+◌, ◌≤◌, ◌<◌, T, eqb, length}
use Rattle.std.proofs.Math.Option.{Option, none, some, some-injective}
use Rattle.std.proofs.Math.Decide.{ℕ_discrete}
use Rattle.asyncio.specs.declared.TaskId.{TaskId}
use Rattle.asyncio.specs.declared.Value.{Value}
use Rattle.asyncio.specs.declared.Error.{Error}
use Rattle.asyncio.specs.Options.{OptionValue}
use Rattle.asyncio.specs.declared.Object.{Object}
use Rattle.asyncio.specs.declared.Place.{Place}
use Rattle.asyncio.specs.declared.Moment.{Moment}
use Rattle.asyncio.specs.declared.Header.{Header}
use Rattle.asyncio.specs.Layout.{to_value}
use Rattle.asyncio.specs.States.{pick}
use Rattle.machine.specs.Store.{Store, task, object, place, header, forget}
use Rattle.machine.specs.Delivery.{value_or}
use Rattle.machine.specs.Events.{Control, Result}
use Rattle.machine.specs.Machine.{Event, Answer, Step}
use Rattle.machine.specs.History.{Entry, Making, Says, says, nothing_said, said, tells, is_at, reply_in, first_reply, reply_error, later, making, runner_by, running, started_by, coroutine_of, running_coroutine, completed_value}
use Rattle.machine_sessions.specs.Places.Told.{Frozen, unmade, co, pends, gave, broke, many, frozen, told, Holds, Told, told_like}
use Rattle.machine_sessions.specs.Places.ToldEnds.{told_as, told_now, Left, ended-left}

-- ---- how an object was made, and what has come of it

-- what a reply leaves of a pending external
unfoldable pub reply_row : ℕ → OptionValue → Option Result → Frozen
reply_row c r none = pends c r
reply_row c r (some x) = pick (eqb x.kind 0) (gave (value_or r (to_value x.tag x.number))) (broke (reply_error x))

-- the items from place f on
unfoldable pub ItemsAt : (ℕ → ℕ) → ℕ → List ℕ → Type 0
ItemsAt i f [] = Unit {0}
ItemsAt i f (o ∷ os) = (i f ≡ o) × ItemsAt i (f + 1) os

-- an object made by the event, so many entries ago
unfoldable pub Makes : Event → List Entry → Frozen → (ℕ → ℕ) → Type 0
Makes (Event.coroutine f) since x i = (b : Bool) × (x ≡ co b)
Makes Event.call since x i = ⊥
Makes (Event.pending c r) since x i = x ≡ reply_row c r (first_reply since c)
Makes (Event.settled v) since x i = x ≡ gave v
Makes (Event.gather os) since x i = (f : ℕ) × (x ≡ many f (length os)) × ItemsAt i f os
Makes (Event.await o) since x i = ⊥
Makes (Event.complete v) since x i = ⊥
Makes (Event.fail n) since x i = ⊥
Makes (Event.results rs) since x i = ⊥
Makes Event.resume since x i = ⊥
Makes (Event.cancel t) since x i = ⊥
Makes (Event.show o) since x i = ⊥
Makes Event.eager since x i = ⊥

unfoldable pub MadeRight : Option Making → ℕ → ℕ → Frozen → (ℕ → ℕ) → Type 0
MadeRight none n o x i = n ≤ o
MadeRight (some m) n o x i = (o < n) × Makes m.event m.since x i

pub record Agrees (h : List Entry) (s : Store) : Type 0 where
  pub told : Told (λ o. frozen (object s o)) (header s).made (λ p. (place s p).item.0) (completed_value h) (coroutine_of h) s
  pub done : (c : ℕ) (v : Value) → completed_value h c ≡ some v → frozen (object s c) ≡ co true
  pub runner : (t : TaskId) → (header s).moment ≡ Moment.Running t → running h ≡ some t.0
  pub main : coroutine_of h 0 ≡ none
  -- nothing stands behind what is made
  pub behind : (o : ℕ) → (header s).made ≤ o → frozen (object s o) ≡ unmade
  pub makes : (o : ℕ) → MadeRight (making h o) (header s).made o (frozen (object s o)) (λ p. (place s p).item.0)

-- ---- one entry later

pub items_like : (i j : ℕ → ℕ) (f : ℕ) (os : List ℕ) → ((p : ℕ) → j p ≡ i p) → ItemsAt i f os → ItemsAt j f os
unfolding ItemsAt
items_like i j f [] e k = tt
items_like i j f (o ∷ os) e k = (e f ∙ k.0, items_like i j (f + 1) os e k.1)

reply_by : Option Result → Option Result → Option Result
reply_by x y = elim x [ some r ↦ some r | none ↦ y ]

pub reply_then : (x : Entry) (h : List Entry) (c : ℕ) → first_reply (x ∷ h) c ≡ elim (first_reply h c) [ some r ↦ some r | none ↦ reply_in (said x).results c ]
unfolding first_reply
reply_then x h c = refl

pub reply_none : (x : Entry) (h : List Entry) (c : ℕ) → (said x).results ≡ [] → first_reply (x ∷ h) c ≡ first_reply h c
reply_none x h c e = reply_then x h c ∙ (ap (λ (rs : List Result). elim (first_reply h c) [ some r ↦ some r | none ↦ reply_in rs c ]) e ∙ (unfold reply_in in (by (first_reply h c))))
  where
    by : (y : Option Result) → ◌≡◌ {A = Option Result} (elim y [ some r ↦ some r | none ↦ none ]) y
    by none = refl
    by (some r) = refl

-- an object stays as it was made
makes_later : (x : Entry) (e : Event) (since : List Entry) (y z : Frozen) (i j : ℕ → ℕ) → (said x).results ≡ [] → z ≡ y → ((p : ℕ) → j p ≡ i p) → Makes e since y i → Makes e (x ∷ since) z j
unfolding Makes
makes_later x (Event.coroutine f) since y z i j r e d k = (k.0, e ∙ k.1)
makes_later x Event.call since y z i j r e d k = k
makes_later x (Event.pending c v) since y z i j r e d k = e ∙ (k ∙ ap (reply_row c v) (sym (reply_none x since c r)))
makes_later x (Event.settled v) since y z i j r e d k = e ∙ k
makes_later x (Event.gather os) since y z i j r e d k = (k.0, e ∙ k.1, items_like i j k.0 os d k.2)
makes_later x (Event.await o) since y z i j r e d k = k
makes_later x (Event.complete v) since y z i j r e d k = k
makes_later x (Event.fail n) since y z i j r e d k = k
makes_later x (Event.results rs) since y z i j r e d k = k
makes_later x Event.resume since y z i j r e d k = k
makes_later x (Event.cancel t) since y z i j r e d k = k
makes_later x (Event.show o) since y z i j r e d k = k
makes_later x Event.eager since y z i j r e d k = k

pub made-later : (x : Entry) (m : Option Making) (n l o : ℕ) (y z : Frozen) (i j : ℕ → ℕ) → (said x).results ≡ [] → l ≡ n → z ≡ y → ((p : ℕ) → j p ≡ i p) → MadeRight m n o y i → MadeRight (later x m) l o z j
unfolding MadeRight later
made-later x none n l o y z i j r a e d k = subst (λ (b : ℕ). b ≤ o) (sym a) k
made-later x (some m) n l o y z i j r a e d k = (subst (λ (b : ℕ). o < b) (sym a) k.0, makes_later x m.event m.since y z i j r e d k.1)

-- no object is made
pub none_made : (x : Entry) (h : List Entry) (o : ℕ) → (tells x.answer).makes ≡ none → making (x ∷ h) o ≡ later x (making h o)
unfolding making is_at
none_made x h o e = ap (λ (y : Option ℕ). elim (is_at y o) [ true ↦ some (record { event = x.event; since = [] }) | false ↦ later x (making h o) ]) e

-- no value is completed
pub no_value : (x : Entry) (h : List Entry) (c : ℕ) → (said x).completes ≡ none → completed_value (x ∷ h) c ≡ completed_value h c
unfolding completed_value
no_value x h c e =
    ap (λ (y : Option Value). elim (is_at (running_coroutine h) c) [ true ↦ elim y [ none ↦ completed_value h c | some v ↦ some v ] | false ↦ completed_value h c ]) e ∙ by (is_at (running_coroutine h) c)
  where
    by : (b : Bool) → ◌≡◌ {A = Option Value} (elim b [ true ↦ completed_value h c | false ↦ completed_value h c ]) (completed_value h c)
    by true = refl
    by false = refl

-- what a step leaves: rows as they were but for awaiters, states and tasks; who has control
pub record Moved (h : List Entry) (s : Store) (c : Option Control) (u : Store) : Type 0 where
  pub told : Told (λ o. frozen (object s o)) (header s).made (λ p. (place s p).item.0) (completed_value h) (λ t. started_by c t (coroutine_of h t)) u
  pub runner : (t : TaskId) → (header u).moment ≡ Moment.Running t → runner_by c (running h) ≡ some t.0
  pub main : started_by c 0 (coroutine_of h 0) ≡ none

pub only_changes_agrees : (x : Entry) (h : List Entry) (s u : Store) → Agrees h s → (said x).results ≡ [] → ((c : ℕ) → completed_value (x ∷ h) c ≡ completed_value h c) → (tells x.answer).makes ≡ none
    → Moved h s (tells x.answer).control u → Agrees (x ∷ h) u
unfolding coroutine_of running
only_changes_agrees x h s u k r v m y =
    record {
      told = told_now _ _ _ _ (completed_value (x ∷ h)) _ _ u v (λ t. refl) y.told;
      done = λ c w e. y.told.rows c ∙ k.done c w (sym (v c) ∙ e);
      runner = λ t e. y.runner t e;
      main = y.main;
      behind = λ o l. y.told.rows o ∙ k.behind o (subst (λ (a : ℕ). a ≤ o) y.told.made l);
      makes = λ o. subst (λ (z : Option Making). MadeRight z (header u).made o (frozen (object u o)) (λ p. (place u p).item.0)) (sym (none_made x h o m))
          (made-later x (making h o) (header s).made (header u).made o _ _ _ _ r y.told.made (y.told.rows o) y.told.items (k.makes o));
    }

-- nobody else has control, and no task has started
pub commits_none_moved : (h : List Entry) (s u : Store) → Agrees h s → Told (λ o. frozen (object s o)) (header s).made (λ p. (place s p).item.0) (completed_value h) (coroutine_of h) u
    → ((t : TaskId) → (header u).moment ≡ Moment.Running t → (header s).moment ≡ Moment.Running t) → Moved h s none u
unfolding started_by runner_by
commits_none_moved h s u k y m = record { told = y; runner = λ t e. k.runner t (m t e); main = k.main }

-- a switch
pub left-moved : (h : List Entry) (s u : Store) (c : Control) → Agrees h s → Left (λ o. frozen (object s o)) (header s).made (λ p. (place s p).item.0) (completed_value h) (coroutine_of h) u c → Moved h s (some c) u
left-moved h s u c k y = record { told = y.told; runner = λ t e. y.runner (running h) t e; main = y.main k.main }
