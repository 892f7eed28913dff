-- Clauses 1 and 2: what the code reads of an object or a task says what the definition asks, a law for each way through.
use Rattle.std.specs.Prelude.{◌≡◌, refl, Bool, true, false, not, List, eqb, ltb, leb}
use Rattle.std.proofs.Common.{sym, ◌∙◌, pow_pos}
use Prim.Native.Nat.{ℕ, suc, ◌+◌, ◌-◌, ◌^◌, ◌≤◌}
use native.Mathlib.Omega.{arith}
use borrow.Author.Tests.{eq-eqb, ne_eqb, eqb-false, lt-ltb, le-leb, lt-leb, leb-true, leb-false}
use Rattle.asyncio.specs.Limits.{item_limit}
use Rattle.asyncio.specs.States.{pick, is_nobody, is_live, is_unstarted}
use Rattle.asyncio.specs.Kinds.{kind, each_object, is_coroutine, is_external, is_gather, is_committed}
use Rattle.asyncio.specs.Parts.{awaiter_of, call_of, first_of, count_of, open_of}
use Rattle.asyncio.specs.declared.Awaiter.{Awaiter}
use Rattle.asyncio.specs.declared.CallId.{CallId}
use Rattle.asyncio.specs.declared.Header.{Header}
use Rattle.asyncio.specs.declared.HeapId.{HeapId}
use Rattle.asyncio.specs.declared.Kind.{Kind}
use Rattle.asyncio.specs.declared.Object.{Object}
use Rattle.asyncio.specs.declared.Task.{Task}
use Rattle.asyncio.specs.declared.TaskState.{TaskState}
use Rattle.rows.specs.Tables.{task_at, object_at}
use Rattle.machine.specs.Tests.{◌and◌, implies, all_below, sum_below}
use Rattle.machine.specs.Sound.{awaiter_in_range, is_slot, open_in_range, object_in_range, task_in_range, counts_in_range, places_below, numbers_in_range, committed_places, spawned_in_range}
use Rattle.rows.specs.TableLaws.{places_fit}
use Rattle.sound_words.specs.Loops.{and_assoc, all_and, pass, stop, sum_none, sum_turn}
use Rattle.sound_rows.specs.Numbers.{object_ranged, objects_ranged}

-- a gather has at most 32 places
pub count_fits : (os : List ℕ) (o : ℕ) {n : ℕ} → n ≡ count_of (object_at os o) → n ≤ item_limit
count_fits os o e = (places_fit os o refl e).at_most

-- ---- an object by its kind

no_open : (n : ℕ) → ltb 0 (2 ^ n) ≡ true
no_open n = lt-ltb 0 (2 ^ n) (pow_pos n)

pub object_by-kind : (h : Header) (p : ℕ) (x : Object) → object_in_range h p x
    ≡ pick (is_external (kind x)) (ltb (call_of x).0 h.calls) (pick (is_gather (kind x)) (eqb (first_of x) p and ltb (open_of x) (2 ^ count_of x)) (is_coroutine (kind x)))
unfolding object_in_range open_in_range kind call_of first_of open_of count_of
object_by-kind h p x =
    each_object (λ (x : Object). object_in_range h p x ≡ pick (is_external (kind x)) (ltb (call_of x).0 h.calls) (pick (is_gather (kind x)) (eqb (first_of x) p and ltb (open_of x) (2 ^ count_of x)) (is_coroutine (kind x))))
    refl (λ f. refl) (λ f. refl) (λ f. refl) (λ c w x. refl) (λ c v. refl) (λ c e. refl) (λ i n. rw (no_open n)) (λ i n w m. refl)
    (λ i n. rw (no_open n)) (λ i n e. rw (no_open n)) x

module _ (os : List ℕ) (o : ℕ) (h : Header) (p : ℕ) {k : Kind} (e : k ≡ kind (object_at os o)) where
  pub external_ranged : {c : CallId} {n : ℕ} → is_external k ≡ true → c ≡ call_of (object_at os o) → n ≡ c.0
      → ltb n h.calls ≡ object_in_range h p (object_at os o)
  external_ranged t q w = rw (object_by-kind h p (object_at os o), ← e, t, ← q, w)

  module _ (t : is_external k ≡ false) where
    pub other_ranged : {r : Bool} → is_gather k ≡ false → r ≡ is_coroutine k → r ≡ object_in_range h p (object_at os o)
    other_ranged u q = rw (object_by-kind h p (object_at os o), ← e, t, u) q

    module _ (u : is_gather k ≡ true) {i : ℕ} (f : i ≡ first_of (object_at os o)) where
      pub gather-apart : (i ≡ p → ⊥) → false ≡ object_in_range h p (object_at os o)
      unfolding ◌and◌
      gather-apart ne = rw (object_by-kind h p (object_at os o), ← e, t, u, ← f, ne_eqb i p ne)

      pub gather_ranged : {n m : ℕ} {r : Bool} → i ≡ p → n ≡ count_of (object_at os o) → m ≡ open_of (object_at os o) → r ≡ ltb m (2 ^ n)
          → r ≡ object_in_range h p (object_at os o)
      unfolding ◌and◌
      gather_ranged q c d v = rw (object_by-kind h p (object_at os o), ← e, t, u, ← f, eq-eqb i p q, ← c, ← d) v

-- ---- the running sum of places

module _ (h : Header) (os : List ℕ) (o p : ℕ) (s : p ≡ places_below (object_at os) o) where
  pub row_passes : {w : Awaiter} {r : Bool} → true ≡ object_in_range h p (object_at os o) → w ≡ awaiter_of (object_at os o) → r ≡ awaiter_in_range h w
      → r ≡ object_ranged h (object_at os) o
  unfolding object_ranged
  row_passes e q f = rw (← s, ← q) (pass e f)

  pub row-stops : false ≡ object_in_range h p (object_at os o) → false ≡ object_ranged h (object_at os) o
  unfolding object_ranged
  row-stops e = rw (← s) (stop (awaiter_in_range h (awaiter_of (object_at os o))) e)

  pub places_turn : {n : ℕ} → n ≡ count_of (object_at os o) → p + n ≡ places_below (object_at os) (o + 1)
  unfolding places_below
  places_turn q = sum_turn (λ i. count_of (object_at os i)) o s q

pub places-none : (os : List ℕ) → 0 ≡ places_below (object_at os) 0
unfolding places_below
places-none os = sum_none (λ i. count_of (object_at os i))

module _ (h : Header) (os : ℕ → Object) where
  pub objects-fail : false ≡ all_below h.made (object_ranged h os) → false ≡ objects_ranged h os
  unfolding objects_ranged
  objects-fail e = stop (eqb h.used (places_below os h.made)) e

  pub objects-end : {p : ℕ} → true ≡ all_below h.made (object_ranged h os) → p ≡ places_below os h.made → eqb h.used p ≡ objects_ranged h os
  unfolding objects_ranged
  objects-end e s = rw (← s) (pass e refl)

-- ---- a task

module _ (h : Header) (os : ℕ → Object) (t : ℕ) (x : Task) where
  pub main_by : t ≡ 0 → task_in_range h os t x ≡ not (is_unstarted x.state) and is_nobody x.awaiter and eqb x.coroutine.0 0
  unfolding task_in_range
  main_by e = rw e

  pub spawned_by : (t ≡ 0 → ⊥) → task_in_range h os t x
      ≡ implies (is_live x.state) (is_slot x.awaiter and awaiter_in_range h x.awaiter and ltb x.coroutine.0 h.made and is_coroutine (kind (os x.coroutine.0)))
  unfolding task_in_range
  spawned_by ne = let e : t ≡ suc (t - 1) = omega arith in rw e

module _ (h : Header) (os : ℕ → Object) (ts : List ℕ) (t : ℕ) {s : TaskState} (e : s ≡ (task_at ts t).state) where
  module _ (z : eqb t 0 ≡ false) (u : is_live s ≡ true) {w : Awaiter} (f : w ≡ (task_at ts t).awaiter) where
    pub live-apart : false ≡ is_slot w and awaiter_in_range h w → false ≡ task_in_range h os t (task_at ts t)
    unfolding implies
    live-apart v =
        rw (spawned_by h os t (task_at ts t) (eqb-false t 0 z), ← e, u, ← f)
        (stop _ v ∙ and_assoc (is_slot w) (awaiter_in_range h w) (ltb (task_at ts t).coroutine.0 h.made and is_coroutine (kind (os (task_at ts t).coroutine.0))))

    pub live_ranged : {c : HeapId} {r : Bool} → true ≡ is_slot w and awaiter_in_range h w → c ≡ (task_at ts t).coroutine
        → r ≡ ltb c.0 h.made and is_coroutine (kind (os c.0)) → r ≡ task_in_range h os t (task_at ts t)
    unfolding implies
    live_ranged {c} v g q =
        rw (spawned_by h os t (task_at ts t) (eqb-false t 0 z), ← e, u, ← f, ← g)
        (pass v q ∙ and_assoc (is_slot w) (awaiter_in_range h w) (ltb c.0 h.made and is_coroutine (kind (os c.0))))

-- ---- the whole of clause 1

regroup : (a b c d e : Bool) → (a and b) and c and d and e ≡ a and ((c and d) and b) and e
unfolding ◌and◌
regroup false b c d e = refl
regroup true true true true e = refl
regroup true true true false e = refl
regroup true true false d e = refl
regroup true false true true e = refl
regroup true false true false e = refl
regroup true false false d e = refl

module _ (h : Header) (os : ℕ → Object) (ts : ℕ → Task) where
  pub numbers_by : numbers_in_range h os ts ≡ leb 1 h.next and objects_ranged h os and all_below h.next (λ t. task_in_range h os t (ts t))
  unfolding numbers_in_range counts_in_range objects_ranged object_ranged
  numbers_by =
      rw (all_and (λ o. object_in_range h (places_below os o) (os o)) (λ o. awaiter_in_range h (awaiter_of (os o))) h.made)
      (regroup (leb 1 h.next) (eqb h.used (places_below os h.made)) (all_below h.made (λ o. object_in_range h (places_below os o) (os o)))
      (all_below h.made (λ o. awaiter_in_range h (awaiter_of (os o)))) (all_below h.next (λ t. task_in_range h os t (ts t))))

-- ---- 2. the places of committed gathers

module _ (os : List ℕ) (o s : ℕ) {k : Kind} (q : s ≡ sum_below o (λ i. committed_places (object_at os i))) (e : k ≡ kind (object_at os o)) where
  pub committed-turn : {n : ℕ} → is_committed k ≡ true → n ≡ count_of (object_at os o) → s + n ≡ sum_below (o + 1) (λ i. committed_places (object_at os i))
  unfolding committed_places
  committed-turn {n} t c = sum_turn (λ i. committed_places (object_at os i)) o q by
    where
      by : n ≡ committed_places (object_at os o)
      by = rw (← e, t) c

  pub committed_skip : is_committed k ≡ false → s ≡ sum_below (o + 1) (λ i. committed_places (object_at os i))
  unfolding committed_places
  committed_skip t = let z : s + 0 ≡ sum_below (o + 1) (λ i. committed_places (object_at os i)) = sum_turn (λ i. committed_places (object_at os i)) o q by in omega arith
    where
      by : 0 ≡ committed_places (object_at os o)
      by = rw (← e, t)

less_by : (n s : ℕ) (b : Bool) → leb n (s + 1) ≡ b → b ≡ leb (n - 1) s
less_by n s true e = sym (le-leb (n - 1) s (omega (arith, leb-true n (s + 1) e)))
less_by n s false e = sym (lt-leb (n - 1) s (omega (arith, leb-false n (s + 1) e)))

pub spawned_fit : (h : Header) (os : ℕ → Object) {s : ℕ} → s ≡ sum_below h.made (λ o. committed_places (os o)) → leb h.next (s + 1) ≡ spawned_in_range h os
unfolding spawned_in_range
spawned_fit h os {s} e = rw (← e) (less_by h.next s (leb h.next (s + 1)) refl)
