-- Clause 6: pending calls as numbers, one more than the call and 0 for none; and the highest so far, above which a call is new.
use Rattle.std.specs.Prelude.{◌≡◌, refl, Bool, true, false, List, ℕ, ◌+◌, ◌≤◌, ◌<◌, eqb}
use Rattle.std.proofs.Math.Path.{sym}
use Rattle.std.proofs.Common.{ap, ◌∙◌, ⊎_elim, eq-or-lt_of_le, arith, eq-eqb, ne_eqb, eqb-true}
use Rattle.std.proofs.Math.Bool.{not}
use Rattle.std.proofs.Math.Option.{Option, none, some}
use Rattle.std.specs.Prelude.{None, Some}
use Rattle.std.specs.Prelude as rust
use Rattle.std.proofs.lemmas.Bool.{eqb-false}
use Rattle.asyncio.specs.States.{pick}
use Rattle.asyncio.specs.Kinds.{kind, each_object, is_pending_external}
use Rattle.asyncio.specs.Parts.{call_of}
use Rattle.asyncio.specs.declared.CallId.{CallId}
use Rattle.asyncio.specs.declared.Header.{Header}
use Rattle.asyncio.specs.declared.Kind.{Kind}
use Rattle.asyncio.specs.declared.Moment.{Moment}
use Rattle.asyncio.specs.declared.Object.{Object}
use Rattle.rows.specs.Tables.{object_at}
use Rattle.machine.specs.Tests.{all_below}
use Rattle.machine.specs.Scheduler.{as_pending, PendingExternal}
use Rattle.machine.specs.Sound.{same_call, call_new, calls_distinct, is_ended}
use Rattle.sound_words.specs.Loops.{all_of, all_same}

-- one more than the call, 0 for none
unfoldable pub number_of : Option PendingExternal → ℕ
number_of none = 0
number_of (some p) = p.call.0 + 1

-- of object o
unfoldable pub call_number : List ℕ → ℕ → ℕ
call_number os o = number_of (as_pending (object_at os o))

-- the call of object o, if it is a pending external
unfoldable pub call_of_pending : Option PendingExternal → rust.Option CallId
call_of_pending none = None
call_of_pending (some p) = Some p.call

unfoldable pub pending_call : List ℕ → ℕ → rust.Option CallId
pending_call os o = call_of_pending (as_pending (object_at os o))

-- object p has another call than c
unfoldable pub other_call : List ℕ → ℕ → ℕ → Bool
other_call os c p = not (eqb (call_number os p) c)

-- ---- by kind

pending_by : (x : Object) → call_of_pending (as_pending x) ≡ pick (is_pending_external (kind x)) (Some (call_of x)) None
unfolding call_of_pending as_pending kind call_of
pending_by x =
    each_object (λ (x : Object). call_of_pending (as_pending x) ≡ pick (is_pending_external (kind x)) (Some (call_of x)) None)
    refl (λ f. refl) (λ f. refl) (λ f. refl) (λ c w x. refl) (λ c v. refl) (λ c e. refl) (λ i n. refl) (λ i n w m. refl) (λ i n. refl)
    (λ i n e. refl) x

module _ (os : List ℕ) (o : ℕ) {k : Kind} (e : k ≡ kind (object_at os o)) where
  pub call-pending : {c : CallId} → is_pending_external k ≡ true → c ≡ call_of (object_at os o) → Some c ≡ pending_call os o
  unfolding pending_call
  call-pending t q = rw (pending_by (object_at os o), ← e, t, ← q)

  pub call-none : is_pending_external k ≡ false → None ≡ pending_call os o
  unfolding pending_call
  call-none t = rw (pending_by (object_at os o), ← e, t)

-- the number of a call that was read
told : (p : Option PendingExternal) {c : CallId} → call_of_pending p ≡ Some c → c.0 + 1 ≡ number_of p
unfolding call_of_pending number_of
told none e = cc
told (some p) {c} e = let h : p.call ≡ c = cc in rw h

told_none : (p : Option PendingExternal) → call_of_pending p ≡ None → 0 ≡ number_of p
unfolding call_of_pending number_of
told_none none e = refl
told_none (some p) e = cc

pub number_told : (os : List ℕ) (o : ℕ) {c : CallId} {x : rust.Option CallId} → x ≡ pending_call os o → x ≡ Some c → c.0 + 1 ≡ call_number os o
unfolding pending_call call_number
number_told os o e h = told (as_pending (object_at os o)) (sym e ∙ h)

pub number_none : (os : List ℕ) (o : ℕ) {x : rust.Option CallId} → x ≡ pending_call os o → x ≡ None → 0 ≡ call_number os o
unfolding pending_call call_number
number_none os o e h = told_none (as_pending (object_at os o)) (sym e ∙ h)

-- a number that was read, against another call's
module _ (os : List ℕ) (o : ℕ) (c : CallId) {x : rust.Option CallId} (e : x ≡ pending_call os o) where
  pub other_none : x ≡ None → true ≡ other_call os (c.0 + 1) o
  unfolding other_call
  other_none h = rw (← number_none os o e h, ne_eqb 0 (c.0 + 1) (λ q. omega arith))

  pub other_told : {d : CallId} {b : Bool} → x ≡ Some d → b ≡ not (eqb d.0 c.0) → b ≡ other_call os (c.0 + 1) o
  unfolding other_call
  other_told {d} h q = q ∙ ap not (by (eqb d.0 c.0) refl) ∙ rw (number_told os o e h)
    where
      by : (t : Bool) → eqb d.0 c.0 ≡ t → t ≡ eqb (d.0 + 1) (c.0 + 1)
      by true h = sym (eq-eqb _ _ (ap (λ (n : ℕ). n + 1) (eqb-true d.0 c.0 h)))
      by false h = sym (ne_eqb _ _ (λ (s : d.0 + 1 ≡ c.0 + 1). eqb-false d.0 c.0 h (omega arith)))

-- ---- the same call

-- numbers that differ: not the same call
differ : (p q : Option PendingExternal) → (number_of p ≡ 0 → ⊥) → eqb (number_of q) (number_of p) ≡ same_call p q
unfolding number_of same_call
differ none q z = absurd (z refl)
differ (some p) none z = ne_eqb 0 (p.call.0 + 1) (λ (e : 0 ≡ p.call.0 + 1). omega arith)
differ (some p) (some q) z = by (eqb p.call.0 q.call.0) refl
  where
    by : (b : Bool) → eqb p.call.0 q.call.0 ≡ b → eqb (q.call.0 + 1) (p.call.0 + 1) ≡ b
    by true h = eq-eqb _ _ (ap (λ (n : ℕ). n + 1) (sym (eqb-true p.call.0 q.call.0 h)))
    by false h = ne_eqb _ _ (λ (s : q.call.0 + 1 ≡ p.call.0 + 1). eqb-false p.call.0 q.call.0 h (omega arith))

none-same : (p q : Option PendingExternal) → number_of p ≡ 0 → same_call p q ≡ false
unfolding number_of same_call
none-same none q z = refl
none-same (some p) q z = absurd (omega arith)

module _ (os : List ℕ) (o : ℕ) {c : ℕ} (e : c ≡ call_number os o) where
  pub call_none : c ≡ 0 → true ≡ call_new (object_at os) o
  unfolding call_new call_number
  call_none z = sym (all_of _ o (λ p l. rw (none-same (as_pending (object_at os o)) (as_pending (object_at os p)) (sym e ∙ z))))

  pub call_looked : {r : Bool} → (c ≡ 0 → ⊥) → r ≡ all_below o (other_call os c) → r ≡ call_new (object_at os) o
  unfolding call_new call_number other_call
  call_looked z q =
      q ∙ all_same _ _ o (λ p l. rw (e) (ap not (differ (as_pending (object_at os o)) (as_pending (object_at os p)) (λ y. z (e ∙ y)))))

-- ---- the highest so far

-- `top` is at least each number below i
pub record Highest (os : List ℕ) (i top : ℕ) : Type 0 where
  pub over : (j : ℕ) → j < i → call_number os j ≤ top

pub highest_none : (os : List ℕ) (top : ℕ) → Highest os 0 top
highest_none os top = record { over = λ j l. absurd (omega arith) }

pub highest_turn : (os : List ℕ) (i top top' : ℕ) → top ≤ top' → call_number os i ≤ top' → Highest os i top → Highest os (i + 1) top'
highest_turn os i top top' a b h =
    record { over = λ j l. ⊎_elim (λ (e : j ≡ i). rw e b) (λ (l' : j < i). let k : call_number os j ≤ top = h.over j l' in omega arith) (eq-or-lt_of_le (omega arith)) }

-- a number above the highest is new
pub call_high : (os : List ℕ) (i top : ℕ) {c : ℕ} → c ≡ call_number os i → top < c → Highest os i top → true ≡ call_new (object_at os) i
unfolding other_call
call_high os i top {c} e l h = call_looked os i e (λ z. omega arith) (sym (all_of _ i (λ j b. apart j (h.over j b))))
  where
    apart : (j : ℕ) → call_number os j ≤ top → other_call os c j ≡ true
    apart j k = rw (ne_eqb (call_number os j) c (λ q. omega arith))

-- ---- the session's moment

going : (m : Moment) → (m ≡ Moment.Ended → ⊥) → is_ended m ≡ false
unfolding is_ended
going (Moment.Running t) n = refl
going Moment.Waiting n = refl
going Moment.Ended n = absurd (n refl)

module _ (h : Header) (os : ℕ → Object) where
  pub distinct_ended : h.moment ≡ Moment.Ended → true ≡ calls_distinct h os
  unfolding calls_distinct is_ended
  distinct_ended e = rw e

  pub distinct_going : {r : Bool} → (h.moment ≡ Moment.Ended → ⊥) → r ≡ all_below h.made (call_new os) → r ≡ calls_distinct h os
  unfolding calls_distinct
  distinct_going n q = rw (going h.moment n) q
