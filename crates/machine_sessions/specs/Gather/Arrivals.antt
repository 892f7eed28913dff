-- Lists of arrivals and the documentation's `gather`: what is waiting, listed and raised first, by what the items have come to.
use Rattle.std.specs.Prelude.{ℕ, zero, suc, ◌+◌, ◌<◌, ◌≤◌, ◌≡◌, ◌&&◌, ◌||◌, ◌⊎◌, eqb, length, get_or}
use Rattle.std.proofs.Math.Path.{refl, sym, ap, subst}
use Rattle.std.proofs.Common.{ap₂, ◌∙◌, true≢false, inl, not-suc-le-zero, arith, eqb-true, eq-eqb}
use Rattle.std.proofs.Math.Bool.{Bool, true, false, not}
use mathlib.Core.List.{List, [], ◌∷◌, ◌++◌, map}
use Rattle.std.proofs.Math.Option.{Option, none, some, some-injective}
use Rattle.std.proofs.Math.Logic.{inr}
use Rattle.machine_laws.specs.DeliveryLaws.{absurd_some}
use Rattle.asyncio.specs.declared.Value.{Value}
use Rattle.asyncio.specs.declared.Error.{Error}
use Rattle.machine.specs.Tests.{is_in}
use Rattle.machine.specs.Gather.{Outcome, returned, raised, Arrival, Gathered, waiting, listed, propagated, outcome_of, first_raised, put_first, in_order, gather}
use Rattle.machine.specs.History.{value_of, error_of}
use Rattle.machine.specs.DemandThree.{none_open}
use Rattle.machine.specs.DemandTwo.{values, arrives, arrivals_of, is_late, early, late, in_turn}

abbrev pub Came : Type 0
Came = Option (Outcome Value Error)

abbrev pub Arrivals : Type 0
Arrivals = List (Arrival Value Error)

-- ---- booleans

pub head_in : (t : ℕ) (ts : List ℕ) → is_in t (t ∷ ts) ≡ true
unfolding is_in
head_in t ts = ap (λ (b : Bool). b || is_in t ts) (eq-eqb t t refl)

pub tail_in : (u t : ℕ) (ts : List ℕ) → is_in u ts ≡ true → is_in u (t ∷ ts) ≡ true
unfolding is_in
tail_in u t ts e = by (eqb t u)
  where
    by : (b : Bool) → (b || is_in u ts) ≡ true
    by true = refl
    by false = e

pub in_cons : (u t : ℕ) (ts : List ℕ) → is_in u (t ∷ ts) ≡ true → (t ≡ u) ⊎ (is_in u ts ≡ true)
unfolding is_in
in_cons u t ts e = by (eqb t u) refl e
  where
    by : (b : Bool) → eqb t u ≡ b → (b || is_in u ts) ≡ true → (t ≡ u) ⊎ (is_in u ts ≡ true)
    by true q z = inl (eqb-true t u q)
    by false q z = inr z

-- ---- arrivals that raise nothing

abbrev pub Returned : Outcome Value Error → Type 0
Returned (returned v) = Unit {0}
Returned (raised e) = ⊥

unfoldable pub AllReturned : Arrivals → Type 0
AllReturned [] = Unit {0}
AllReturned (x ∷ xs) = Returned x.outcome × AllReturned xs

returned-step : (os seen : List ℕ) (x : Arrival Value Error) (xs : Arrivals) → Returned x.outcome → ((sn : List ℕ) → first_raised os sn xs ≡ none) → first_raised os seen (x ∷ xs) ≡ none
unfolding first_raised
returned-step os seen x xs r k = by (is_in x.awaitable os && not (is_in x.awaitable seen)) x.outcome r
  where
    by : (b : Bool) (y : Outcome Value Error) → Returned y
        → ◌≡◌ {A = Option Error} (elim b [ true ↦ elim y [ returned v ↦ first_raised os (x.awaitable ∷ seen) xs | raised e ↦ some e ] | false ↦ first_raised os seen xs ]) none
    by true (returned v) r = k (x.awaitable ∷ seen)
    by true (raised e) r = absurd r
    by false y r = k seen

pub none_raised : (os : List ℕ) (xs : Arrivals) → AllReturned xs → (seen : List ℕ) → first_raised os seen xs ≡ none
unfolding AllReturned
none_raised os [] k seen = unfold first_raised in refl
none_raised os (x ∷ xs) k seen = returned-step os seen x xs k.0 (none_raised os xs k.1)

pub all-returned-++ : (xs ys : Arrivals) → AllReturned xs → AllReturned ys → AllReturned (xs ++ ys)
unfolding AllReturned
all-returned-++ [] ys a b = b
all-returned-++ (x ∷ xs) ys a b = (a.0, all-returned-++ xs ys a.1 b)

-- ---- what has come of an item, by the arrivals

unfoldable pub or_then : {A : Type 0} → Option A → Option A → Option A
or_then none y = y
or_then (some x) y = some x

pub outcome-++ : (xs ys : Arrivals) (o : ℕ) → outcome_of (xs ++ ys) o ≡ or_then (outcome_of xs o) (outcome_of ys o)
outcome-++ [] ys o = unfold outcome_of or_then in refl
outcome-++ (x ∷ xs) ys o = by (eqb x.awaitable o) refl (outcome-++ xs ys o)
  where
    cons : (zs : Arrivals) (b : Bool) → eqb x.awaitable o ≡ b → outcome_of (x ∷ zs) o ≡ elim b [ true ↦ some x.outcome | false ↦ outcome_of zs o ]
    cons zs b q = unfold outcome_of in (ap (λ (c : Bool). elim c [ true ↦ some x.outcome | false ↦ outcome_of zs o ]) q)

    by : (b : Bool) → eqb x.awaitable o ≡ b → outcome_of (xs ++ ys) o ≡ or_then (outcome_of xs o) (outcome_of ys o) → outcome_of (x ∷ (xs ++ ys)) o ≡ or_then (outcome_of (x ∷ xs) o) (outcome_of ys o)
    by true q k = cons (xs ++ ys) true q ∙ sym (ap (λ (y : Came). or_then y (outcome_of ys o)) (cons xs true q) ∙ (unfold or_then in refl))
    by false q k = cons (xs ++ ys) false q ∙ (k ∙ sym (ap (λ (y : Came). or_then y (outcome_of ys o)) (cons xs false q)))

-- what is new
unfoldable pub new_of : Came → Came → Came
new_of none y = y
new_of (some z) y = none

module _ (was now : ℕ → Came) where
  cons_of : (o : ℕ) (os : List ℕ) → arrivals_of was now (o ∷ os) ≡ arrives (was o) (now o) o (arrivals_of was now os)
  cons_of o os = unfold arrivals_of in refl

  arrives-other : (x y : Came) (o p : ℕ) (zs : Arrivals) → eqb o p ≡ false → outcome_of (arrives x y o zs) p ≡ outcome_of zs p
  unfolding arrives outcome_of
  arrives-other none none o p zs q = refl
  arrives-other none (some y) o p zs q = ap (λ (c : Bool). elim c [ true ↦ some y | false ↦ outcome_of zs p ]) q
  arrives-other (some x) y o p zs q = refl

  -- nothing is new of p
  none-new : (p : ℕ) → new_of (was p) (now p) ≡ none → (os : List ℕ) → outcome_of (arrivals_of was now os) p ≡ none
  unfolding arrives new_of
  none-new p e [] = unfold arrivals_of outcome_of in refl
  none-new p e (o ∷ os) = ap (λ (zs : Arrivals). outcome_of zs p) (cons_of o os) ∙ by (eqb o p) refl (none-new p e os)
    where
      here : (x y : Came) (zs : Arrivals) → new_of x y ≡ none → outcome_of zs p ≡ none → outcome_of (arrives x y o zs) p ≡ none
      here none none zs q k = k
      here none (some y) zs q k = absurd_some (sym q)
      here (some x) y zs q k = k

      by : (b : Bool) → eqb o p ≡ b → outcome_of (arrivals_of was now os) p ≡ none → outcome_of (arrives (was o) (now o) o (arrivals_of was now os)) p ≡ none
      by true q k = here (was o) (now o) (arrivals_of was now os) (subst (λ (m : ℕ). new_of (was m) (now m) ≡ none) (sym (eqb-true o p q)) e) k
      by false q k = arrives-other (was o) (now o) o p (arrivals_of was now os) q ∙ k

  -- of an item, what is new of it
  pub outcome-new : (p : ℕ) (os : List ℕ) → is_in p os ≡ true → outcome_of (arrivals_of was now os) p ≡ new_of (was p) (now p)
  unfolding arrives new_of outcome_of is_in
  outcome-new p [] i = absurd (true≢false (sym i))
  outcome-new p (o ∷ os) i = ap (λ (zs : Arrivals). outcome_of zs p) (cons_of o os) ∙ by (eqb o p) refl (λ j. outcome-new p os j)
    where
      here : (x y : Came) → was o ≡ x → now o ≡ y → o ≡ p → outcome_of (arrives x y o (arrivals_of was now os)) p ≡ new_of x y
      here none none f g q = none-new p (ap₂ new_of (ap was (sym q) ∙ f) (ap now (sym q) ∙ g)) os
      here none (some y) f g q = ap (λ (c : Bool). elim c [ true ↦ some y | false ↦ outcome_of (arrivals_of was now os) p ]) (eq-eqb o p q)
      here (some x) y f g q = none-new p (ap₂ new_of (ap was (sym q) ∙ f) (ap now (sym q) ∙ g)) os

      by : (b : Bool) → eqb o p ≡ b → (is_in p os ≡ true → outcome_of (arrivals_of was now os) p ≡ new_of (was p) (now p)) → outcome_of (arrives (was o) (now o) o (arrivals_of was now os)) p ≡ new_of (was p) (now p)
      by true q k = here (was o) (now o) refl refl (eqb-true o p q) ∙ ap (λ (m : ℕ). new_of (was m) (now m)) (eqb-true o p q)
      by false q k = arrives-other (was o) (now o) o p (arrivals_of was now os) q ∙ k (other (in_cons p o os i))
        where
          other : (o ≡ p) ⊎ (is_in p os ≡ true) → is_in p os ≡ true
          other (inl z) = absurd (true≢false (sym (eq-eqb o p z) ∙ q))
          other (inr z) = z

  -- items that have raised nothing return
  pub new-returned : (os : List ℕ) → ((o : ℕ) → is_in o os ≡ true → error_of (now o) ≡ none) → AllReturned (arrivals_of was now os)
  unfolding AllReturned arrives error_of
  new-returned [] k = unfold arrivals_of in tt
  new-returned (o ∷ os) k = subst AllReturned (sym (cons_of o os)) (here (was o) (now o) (k o (head_in o os)) (new-returned os (λ p i. k p (tail_in p o os i))))
    where
      here : (x y : Came) → error_of y ≡ none → AllReturned (arrivals_of was now os) → AllReturned (arrives x y o (arrivals_of was now os))
      here none none e r = r
      here none (some (returned v)) e r = (tt, r)
      here none (some (raised z)) e r = absurd_some (sym e)
      here (some x) y e r = r

-- ---- late ones

early_cons : (x : Arrival Value Error) (xs : Arrivals) (l : Bool) → is_late x.outcome ≡ l → early (x ∷ xs) ≡ elim l [ true ↦ early xs | false ↦ x ∷ early xs ]
early_cons x xs l q = unfold early in (ap (λ (c : Bool). elim c [ true ↦ early xs | false ↦ x ∷ early xs ]) q)

late_cons : (x : Arrival Value Error) (xs : Arrivals) (l : Bool) → is_late x.outcome ≡ l → late (x ∷ xs) ≡ elim l [ true ↦ x ∷ late xs | false ↦ late xs ]
late_cons x xs l q = unfold late in (ap (λ (c : Bool). elim c [ true ↦ x ∷ late xs | false ↦ late xs ]) q)

not_late : (y : Outcome Value Error) → Returned y → is_late y ≡ false
unfolding is_late
not_late (returned v) r = refl
not_late (raised e) r = absurd r

-- where nothing raises nobody is late
pub early_all : (xs : Arrivals) → AllReturned xs → early xs ≡ xs
unfolding AllReturned
early_all [] k = unfold early in refl
early_all (x ∷ xs) k = early_cons x xs false (not_late x.outcome k.0) ∙ ap (λ (zs : Arrivals). x ∷ zs) (early_all xs k.1)

pub late-none : (xs : Arrivals) → AllReturned xs → late xs ≡ []
unfolding AllReturned
late-none [] k = unfold late in refl
late-none (x ∷ xs) k = late_cons x xs false (not_late x.outcome k.0) ∙ late-none xs k.1

++-nil : (xs : Arrivals) → xs ++ [] ≡ xs
++-nil [] = refl
++-nil (x ∷ xs) = ap (λ (zs : Arrivals). x ∷ zs) (++-nil xs)

pub in_turn_all : (xs : Arrivals) → AllReturned xs → in_turn xs ≡ xs
unfolding in_turn
in_turn_all xs k = ap₂ (λ (a b : Arrivals). a ++ b) (early_all xs k) (late-none xs k) ∙ ++-nil xs

-- ---- what an arrival satisfies

unfoldable pub All : (Arrival Value Error → Type 0) → Arrivals → Type 0
All P [] = Unit {0}
All P (x ∷ xs) = P x × All P xs

pub all-++ : (P : Arrival Value Error → Type 0) (xs ys : Arrivals) → All P xs → All P ys → All P (xs ++ ys)
unfolding All
all-++ P [] ys a b = b
all-++ P (x ∷ xs) ys a b = (a.0, all-++ P xs ys a.1 b)

pub all_early : (P : Arrival Value Error → Type 0) (xs : Arrivals) → All P xs → All P (early xs)
unfolding All
all_early P [] a = unfold early in a
all_early P (x ∷ xs) a = by (is_late x.outcome) refl (all_early P xs a.1)
  where
    by : (l : Bool) → is_late x.outcome ≡ l → All P (early xs) → All P (early (x ∷ xs))
    by true q k = subst (All P) (sym (early_cons x xs true q)) k
    by false q k = subst (All P) (sym (early_cons x xs false q)) (a.0, k)

pub all_late : (P : Arrival Value Error → Type 0) (xs : Arrivals) → All P xs → All P (late xs)
unfolding All
all_late P [] a = unfold late in a
all_late P (x ∷ xs) a = by (is_late x.outcome) refl (all_late P xs a.1)
  where
    by : (l : Bool) → is_late x.outcome ≡ l → All P (late xs) → All P (late (x ∷ xs))
    by true q k = subst (All P) (sym (late_cons x xs true q)) (a.0, k)
    by false q k = subst (All P) (sym (late_cons x xs false q)) k

-- some arrival raises
unfoldable pub Raises : Error → Arrivals → Type 0
Raises e [] = ⊥
Raises e (x ∷ xs) = (x.outcome ≡ raised e) ⊎ Raises e xs

pub raises-left : (e : Error) (xs ys : Arrivals) → Raises e xs → Raises e (xs ++ ys)
unfolding Raises
raises-left e [] ys r = absurd r
raises-left e (x ∷ xs) ys (inl q) = inl q
raises-left e (x ∷ xs) ys (inr r) = inr (raises-left e xs ys r)

pub raises-right : (e : Error) (xs ys : Arrivals) → Raises e ys → Raises e (xs ++ ys)
unfolding Raises
raises-right e [] ys r = r
raises-right e (x ∷ xs) ys r = inr (raises-right e xs ys r)

raises-early : (e : Error) (xs : Arrivals) → is_late (raised e) ≡ false → Raises e xs → Raises e (early xs)
unfolding Raises
raises-early e [] q r = absurd r
raises-early e (x ∷ xs) q r = by (is_late x.outcome) refl r (λ w. raises-early e xs q w)
  where
    by : (l : Bool) → is_late x.outcome ≡ l → (x.outcome ≡ raised e) ⊎ Raises e xs → (Raises e xs → Raises e (early xs)) → Raises e (early (x ∷ xs))
    by true z (inl w) k = absurd (true≢false (sym z ∙ (ap is_late w ∙ q)))
    by true z (inr w) k = subst (Raises e) (sym (early_cons x xs true z)) (k w)
    by false z (inl w) k = subst (Raises e) (sym (early_cons x xs false z)) (inl w)
    by false z (inr w) k = subst (Raises e) (sym (early_cons x xs false z)) (inr (k w))

raises-late : (e : Error) (xs : Arrivals) → is_late (raised e) ≡ true → Raises e xs → Raises e (late xs)
unfolding Raises
raises-late e [] q r = absurd r
raises-late e (x ∷ xs) q r = by (is_late x.outcome) refl r (λ w. raises-late e xs q w)
  where
    by : (l : Bool) → is_late x.outcome ≡ l → (x.outcome ≡ raised e) ⊎ Raises e xs → (Raises e xs → Raises e (late xs)) → Raises e (late (x ∷ xs))
    by true z (inl w) k = subst (Raises e) (sym (late_cons x xs true z)) (inl w)
    by true z (inr w) k = subst (Raises e) (sym (late_cons x xs true z)) (inr (k w))
    by false z (inl w) k = absurd (true≢false (sym (ap is_late w ∙ q) ∙ z))
    by false z (inr w) k = subst (Raises e) (sym (late_cons x xs false z)) (k w)

-- ---- the first that is raised

error-is : (z : Error) → error_of (some (raised z)) ≡ some z
unfolding error_of
error-is z = refl

module _ (now : ℕ → Came) (os : List ℕ) where
  -- an arrival of an item, with what has come of it, which is e if it is an error
  pub record ArrivesWith (e : Error) (x : Arrival Value Error) : Type 0 where
    pub item : is_in x.awaitable os ≡ true
    pub own : now x.awaitable ≡ some x.outcome
    pub only : (z : Error) → x.outcome ≡ raised z → z ≡ e

  -- those that were seen have raised nothing
  unfoldable pub Quiet : List ℕ → Type 0
  Quiet seen = (o : ℕ) → is_in o seen ≡ true → error_of (now o) ≡ none

  quiet-more : (o : ℕ) (v : Value) (seen : List ℕ) → now o ≡ some (returned v) → Quiet seen → Quiet (o ∷ seen)
  unfolding Quiet
  quiet-more o v seen q k p i = by (in_cons p o seen i)
    where
      by : (o ≡ p) ⊎ (is_in p seen ≡ true) → error_of (now p) ≡ none
      by (inl z) = ap error_of (ap now (sym z) ∙ q) ∙ (unfold error_of in refl)
      by (inr z) = k p z

  pub first_is : (e : Error) (xs : Arrivals) (seen : List ℕ) → Quiet seen → All (ArrivesWith e) xs → Raises e xs → first_raised os seen xs ≡ some e
  unfolding All Raises Quiet
  first_is e [] seen k a r = absurd r
  first_is e (x ∷ xs) seen k a r = by x.outcome refl r (λ sn l w. first_is e xs sn l a.1 w)
    where
      cond : Bool
      cond = is_in x.awaitable os && not (is_in x.awaitable seen)

      at : (y : Outcome Value Error) → x.outcome ≡ y → (b : Bool) → cond ≡ b → first_raised os seen (x ∷ xs)
          ≡ elim b [ true ↦ elim y [ returned v ↦ first_raised os (x.awaitable ∷ seen) xs | raised z ↦ some z ] | false ↦ first_raised os seen xs ]
      at y q b c =
          unfold first_raised in (ap₂ (λ (d : Bool) (w : Outcome Value Error). elim d [ true ↦ elim w [ returned v ↦ first_raised os (x.awaitable ∷ seen) xs | raised z ↦ some z ] | false ↦ first_raised os seen xs ]) c q)

      unseen : (z : Error) → x.outcome ≡ raised z → is_in x.awaitable seen ≡ false
      unseen z q = no (is_in x.awaitable seen) refl
        where
          no : (b : Bool) → is_in x.awaitable seen ≡ b → b ≡ false
          no true i = absurd_some (sym (k x.awaitable i) ∙ (ap error_of (a.0.own ∙ ap (λ (w : Outcome Value Error). some w) q) ∙ error-is z))
          no false i = refl

      by : (y : Outcome Value Error) → x.outcome ≡ y → (x.outcome ≡ raised e) ⊎ Raises e xs → ((sn : List ℕ) → Quiet sn → Raises e xs → first_raised os sn xs ≡ some e) → first_raised os seen (x ∷ xs) ≡ some e
      by (raised z) q w go =
          at (raised z) q true (ap₂ (λ (c d : Bool). c && not d) a.0.item (unseen z q)) ∙ ap (λ (m : Error). some m) (a.0.only z q)
      by (returned v) q (inl w) go = absurd (subst Returned (sym q ∙ w) tt)
      by (returned v) q (inr w) go = branch cond refl
        where
          branch : (b : Bool) → cond ≡ b → first_raised os seen (x ∷ xs) ≡ some e
          branch true c = at (returned v) q true c ∙ go (x.awaitable ∷ seen) (quiet-more x.awaitable v seen (a.0.own ∙ ap (λ (w : Outcome Value Error). some w) q) k) w
          branch false c = at (returned v) q false c ∙ go seen k w

  -- behind arrivals that raise nothing
  pub first_behind : (e : Error) (xs ys : Arrivals) (seen : List ℕ) → AllReturned xs → Quiet seen → All (λ x. now x.awaitable ≡ some x.outcome) xs → ((sn : List ℕ) → Quiet sn → first_raised os sn ys ≡ some e)
      → first_raised os seen (xs ++ ys) ≡ some e
  unfolding All AllReturned
  first_behind e [] ys seen r k a go = go seen k
  first_behind e (x ∷ xs) ys seen r k a go = by x.outcome refl r.0 (λ sn l. first_behind e xs ys sn r.1 l a.1 go)
    where
      cond : Bool
      cond = is_in x.awaitable os && not (is_in x.awaitable seen)

      at : (y : Outcome Value Error) → x.outcome ≡ y → (b : Bool) → cond ≡ b → first_raised os seen (x ∷ (xs ++ ys))
          ≡ elim b [ true ↦ elim y [ returned v ↦ first_raised os (x.awaitable ∷ seen) (xs ++ ys) | raised z ↦ some z ] | false ↦ first_raised os seen (xs ++ ys) ]
      at y q b c =
          unfold first_raised in (ap₂ (λ (d : Bool) (w : Outcome Value Error). elim d [ true ↦ elim w [ returned v ↦ first_raised os (x.awaitable ∷ seen) (xs ++ ys) | raised z ↦ some z ] | false ↦ first_raised os seen (xs ++ ys) ]) c q)

      by : (y : Outcome Value Error) → x.outcome ≡ y → Returned x.outcome → ((sn : List ℕ) → Quiet sn → first_raised os sn (xs ++ ys) ≡ some e) → first_raised os seen (x ∷ (xs ++ ys)) ≡ some e
      by (raised z) q w more = absurd (subst Returned q w)
      by (returned v) q w more = branch cond refl
        where
          branch : (b : Bool) → cond ≡ b → first_raised os seen (x ∷ (xs ++ ys)) ≡ some e
          branch true c = at (returned v) q true c ∙ more (x.awaitable ∷ seen) (quiet-more x.awaitable v seen (a.0 ∙ ap (λ (w : Outcome Value Error). some w) q) k)
          branch false c = at (returned v) q false c ∙ more seen k

-- what is raised first is not changed by what comes behind
pub first_stays : (os : List ℕ) (e : Error) (xs ys : Arrivals) (seen : List ℕ) → first_raised os seen xs ≡ some e → first_raised os seen (xs ++ ys) ≡ some e
first_stays os e [] ys seen q = absurd_some (sym nothing-raised ∙ q)
  where
    nothing-raised : first_raised {A = Value} {X = Error} os seen [] ≡ none
    nothing-raised = unfold first_raised in refl
first_stays os e (x ∷ xs) ys seen q = by (is_in x.awaitable os && not (is_in x.awaitable seen)) x.outcome refl refl (λ sn r. first_stays os e xs ys sn r)
  where
    cons : (zs : Arrivals) (b : Bool) (y : Outcome Value Error) → (is_in x.awaitable os && not (is_in x.awaitable seen)) ≡ b → x.outcome ≡ y → first_raised os seen (x ∷ zs)
        ≡ elim b [ true ↦ elim y [ returned v ↦ first_raised os (x.awaitable ∷ seen) zs | raised z ↦ some z ] | false ↦ first_raised os seen zs ]
    cons zs b y c w =
        unfold first_raised in (ap₂ (λ (d : Bool) (u : Outcome Value Error). elim d [ true ↦ elim u [ returned v ↦ first_raised os (x.awaitable ∷ seen) zs | raised z ↦ some z ] | false ↦ first_raised os seen zs ]) c w)

    by : (b : Bool) (y : Outcome Value Error) → (is_in x.awaitable os && not (is_in x.awaitable seen)) ≡ b → x.outcome ≡ y
        → ((sn : List ℕ) → first_raised os sn xs ≡ some e → first_raised os sn (xs ++ ys) ≡ some e) → first_raised os seen (x ∷ (xs ++ ys)) ≡ some e
    by true (returned v) c w go = cons (xs ++ ys) true (returned v) c w ∙ go (x.awaitable ∷ seen) (sym (cons xs true (returned v) c w) ∙ q)
    by true (raised z) c w go = cons (xs ++ ys) true (raised z) c w ∙ (sym (cons xs true (raised z) c w) ∙ q)
    by false y c w go = cons (xs ++ ys) false y c w ∙ go seen (sym (cons xs false y c w) ∙ q)

-- ---- in one event, late ones behind the others

module _ (now : ℕ → Came) (os : List ℕ) where
  -- an arrival of an item, with what has come of it: an error is e, or is late where e is not
  pub record Turn (e : Error) (x : Arrival Value Error) : Type 0 where
    pub item : is_in x.awaitable os ≡ true
    pub own : now x.awaitable ≡ some x.outcome
    pub only : (z : Error) → x.outcome ≡ raised z → (z ≡ e) ⊎ ((is_late (raised z) ≡ true) × (is_late (raised e) ≡ false))

  all-arrive-with : (e : Error) → is_late (raised e) ≡ true → (xs : Arrivals) → All (Turn e) xs → All (ArrivesWith now os e) xs
  unfolding All
  all-arrive-with e l [] a = tt
  all-arrive-with e l (x ∷ xs) a = (record { item = a.0.item; own = a.0.own; only = λ z q. by z (a.0.only z q) }, all-arrive-with e l xs a.1)
    where
      by : (z : Error) → (z ≡ e) ⊎ ((is_late (raised z) ≡ true) × (is_late (raised e) ≡ false)) → z ≡ e
      by z (inl w) = w
      by z (inr w) = absurd (true≢false (sym l ∙ w.1))

  early-arrive-with : (e : Error) (xs : Arrivals) → All (Turn e) xs → All (ArrivesWith now os e) (early xs)
  unfolding All
  early-arrive-with e [] a = unfold early in tt
  early-arrive-with e (x ∷ xs) a = by (is_late x.outcome) refl (early-arrive-with e xs a.1)
    where
      here : is_late x.outcome ≡ false → ArrivesWith now os e x
      here l = record { item = a.0.item; own = a.0.own; only = λ z q. one z q (a.0.only z q) }
        where
          one : (z : Error) → x.outcome ≡ raised z → (z ≡ e) ⊎ ((is_late (raised z) ≡ true) × (is_late (raised e) ≡ false)) → z ≡ e
          one z q (inl w) = w
          one z q (inr w) = absurd (true≢false (sym w.0 ∙ (sym (ap is_late q) ∙ l)))

      by : (l : Bool) → is_late x.outcome ≡ l → All (ArrivesWith now os e) (early xs) → All (ArrivesWith now os e) (early (x ∷ xs))
      by true q k = subst (All (ArrivesWith now os e)) (sym (early_cons x xs true q)) k
      by false q k = subst (All (ArrivesWith now os e)) (sym (early_cons x xs false q)) (here q, k)

  pub first_in_turn : (e : Error) (xs : Arrivals) (seen : List ℕ) → Quiet now os seen → All (Turn e) xs → Raises e xs → first_raised os seen (in_turn xs) ≡ some e
  unfolding in_turn
  first_in_turn e xs seen k a r = by (is_late (raised e)) refl
    where
      by : (l : Bool) → is_late (raised e) ≡ l → first_raised os seen (early xs ++ late xs) ≡ some e
      by true q =
          first_is now os e (early xs ++ late xs) seen k
          (all-++ (ArrivesWith now os e) (early xs) (late xs) (all_early (ArrivesWith now os e) xs (all-arrive-with e q xs a)) (all_late (ArrivesWith now os e) xs (all-arrive-with e q xs a)))
          (raises-right e (early xs) (late xs) (raises-late e xs q r))
      by false q = first_stays os e (early xs) (late xs) seen (first_is now os e (early xs) seen k (early-arrive-with e xs a) (raises-early e xs q r))

-- ---- the arrivals of items

module _ (was now : ℕ → Came) where
  pub all_own : (P : Arrival Value Error → Type 0) (os : List ℕ) → ((o : ℕ) (y : Outcome Value Error) → is_in o os ≡ true → was o ≡ none → now o ≡ some y → P (record { awaitable = o; outcome = y })) → All P (arrivals_of was now os)
  unfolding All arrives
  all_own P [] k = unfold arrivals_of in tt
  all_own P (o ∷ os) k = subst (All P) (sym (cons_of was now o os)) (here (was o) (now o) refl refl (all_own P os (λ p y i. k p y (tail_in p o os i))))
    where
      here : (x y : Came) → was o ≡ x → now o ≡ y → All P (arrivals_of was now os) → All P (arrives x y o (arrivals_of was now os))
      here none none f g r = r
      here none (some y) f g r = (k o y (head_in o os) f g, r)
      here (some x) y f g r = r

  pub raises_own : (e : Error) (p : ℕ) (os : List ℕ) → is_in p os ≡ true → was p ≡ none → now p ≡ some (raised e) → Raises e (arrivals_of was now os)
  unfolding Raises arrives is_in
  raises_own e p [] i f g = absurd (true≢false (sym i))
  raises_own e p (o ∷ os) i f g = subst (Raises e) (sym (cons_of was now o os)) (by (in_cons p o os i) (λ j. raises_own e p os j f g))
    where
      more : (x y : Came) (zs : Arrivals) → Raises e zs → Raises e (arrives x y o zs)
      more none none zs r = r
      more none (some y) zs r = inr r
      more (some x) y zs r = r

      here : (x y : Came) → x ≡ none → y ≡ some (raised e) → Raises e (arrives x y o (arrivals_of was now os))
      here none none q w = absurd_some w
      here none (some y) q w = inl (some-injective y (raised e) w)
      here (some x) y q w = absurd_some (sym q)

      by : (o ≡ p) ⊎ (is_in p os ≡ true) → (is_in p os ≡ true → Raises e (arrivals_of was now os)) → Raises e (arrives (was o) (now o) o (arrivals_of was now os))
      by (inl z) go = here (was o) (now o) (ap was z ∙ f) (ap now z ∙ g)
      by (inr z) go = more (was o) (now o) (arrivals_of was now os) (go z)

-- ---- at a commit: from left to right

-- the item at place a raises e, those left of it nothing
pub first_from-left : (now : ℕ → Came) (all : List ℕ) (e : Error) (os seen : List ℕ) (a : ℕ) → ((o : ℕ) → is_in o os ≡ true → is_in o all ≡ true) → Quiet now all seen → a < length os → now (get_or os a 0) ≡ some (raised e)
    → ((b : ℕ) → b < a → error_of (now (get_or os b 0)) ≡ none) → first_raised all seen (arrivals_of (λ o. none) now os) ≡ some e
unfolding arrives first_raised
first_from-left now all e [] seen a sub k l q left = absurd (not-suc-le-zero {n = 0} (omega (arith, l)))
first_from-left now all e (o ∷ os) seen zero sub k l q left =
    ap (λ (zs : Arrivals). first_raised all seen zs) (cons_of (λ o. none) now o os)
    ∙ (ap (λ (y : Came). first_raised all seen (arrives none y o (arrivals_of (λ o. none) now os))) q
    ∙ first-is-head)
  where
    unseen : (b : Bool) → is_in o seen ≡ b → b ≡ false
    unseen true i = absurd_some (sym (at_seen i) ∙ (ap error_of q ∙ error-is e))
      where
        at_seen : is_in o seen ≡ true → error_of (now o) ≡ none
        at_seen i = unfold Quiet in (k o i)
    unseen false i = refl

    first-is-head : first_raised all seen (arrives none (some (raised e)) o (arrivals_of (λ o. none) now os)) ≡ some e
    first-is-head =
        unfold arrives first_raised in (ap (λ (b : Bool). elim b [ true ↦ some e | false ↦ first_raised all seen (arrivals_of (λ o. none) now os) ])
        (ap₂ (λ (c d : Bool). c && not d) (sub o (head_in o os)) (unseen (is_in o seen) refl)))
first_from-left now all e (o ∷ os) seen (suc a) sub k l q left =
    ap (λ (zs : Arrivals). first_raised all seen zs) (cons_of (λ o. none) now o os)
    ∙ by (now o) refl (left 0 (omega arith)) (λ sn s. first_from-left now all e os sn a (λ p i. sub p (tail_in p o os i)) s (omega (arith, l)) q (λ b c. left (suc b) (omega (arith, c))))
  where
    Next : Type 0
    Next = (sn : List ℕ) → Quiet now all sn → first_raised all sn (arrivals_of (λ o. none) now os) ≡ some e

    by : (y : Came) → now o ≡ y → error_of (now o) ≡ none → Next → first_raised all seen (arrives none y o (arrivals_of (λ o. none) now os)) ≡ some e
    by none w n go = go seen k
    by (some (raised z)) w n go = absurd_some (sym n ∙ (ap error_of w ∙ error-is z))
    by (some (returned v)) w n go = branch (is_in o all && not (is_in o seen))
      where
        branch : (b : Bool) → ◌≡◌ {A = Option Error} (elim b [ true ↦ first_raised all (o ∷ seen) (arrivals_of (λ o. none) now os) | false ↦ first_raised all seen (arrivals_of (λ o. none) now os) ]) (some e)
        branch true = go (o ∷ seen) (quiet-more now all o v seen w k)
        branch false = go seen k

-- ---- in order

-- the values of the items, where no item has raised
module _ (xs : Arrivals) (c : ℕ → Came) where
  in-cons-order : (o : ℕ) (os : List ℕ) → in_order xs (o ∷ os) ≡ put_first (outcome_of xs o) (in_order xs os)
  in-cons-order o os = unfold in_order in refl

  -- every item has returned: their values
  pub listed_all : (os : List ℕ) → ((o : ℕ) → is_in o os ≡ true → outcome_of xs o ≡ c o) → none_open (map (λ o. value_of (c o)) os) ≡ true
      → in_order xs os ≡ listed (values (map (λ o. value_of (c o)) os))
  listed_all [] k e = unfold in_order values in refl
  listed_all (o ∷ os) k e = in-cons-order o os ∙ (ap (λ (y : Came). put_first y (in_order xs os)) (k o (head_in o os)) ∙ by (c o) e (λ q. listed_all os (λ p i. k p (tail_in p o os i)) q))
    where
      Rest : Type 0
      Rest = none_open (map (λ o. value_of (c o)) os) ≡ true → in_order xs os ≡ listed (values (map (λ o. value_of (c o)) os))

      by : (y : Came) → none_open (value_of y ∷ map (λ o. value_of (c o)) os) ≡ true → Rest → put_first y (in_order xs os) ≡ listed (values (value_of y ∷ map (λ o. value_of (c o)) os))
      by none q go = absurd (true≢false (sym q ∙ (unfold none_open value_of in refl)))
      by (some (raised z)) q go = absurd (true≢false (sym q ∙ (unfold none_open value_of in refl)))
      by (some (returned v)) q go = ap (put_first (some (returned v))) (go (unfold none_open value_of in q)) ∙ (unfold put_first values value_of in refl)

  -- one has not: waiting
  pub waiting-one : (os : List ℕ) → ((o : ℕ) → is_in o os ≡ true → outcome_of xs o ≡ c o) → ((o : ℕ) → is_in o os ≡ true → error_of (c o) ≡ none) → none_open (map (λ o. value_of (c o)) os) ≡ false
      → in_order xs os ≡ waiting
  waiting-one [] k n e = absurd (true≢false (unfold none_open in e))
  waiting-one (o ∷ os) k n e = in-cons-order o os ∙ (ap (λ (y : Came). put_first y (in_order xs os)) (k o (head_in o os)) ∙ by (c o) e (n o (head_in o os)) (λ q. waiting-one os (λ p i. k p (tail_in p o os i)) (λ p i. n p (tail_in p o os i)) q))
    where
      Rest : Type 0
      Rest = none_open (map (λ o. value_of (c o)) os) ≡ false → in_order xs os ≡ waiting

      by : (y : Came) → none_open (value_of y ∷ map (λ o. value_of (c o)) os) ≡ false → error_of y ≡ none → Rest → put_first y (in_order xs os) ≡ waiting
      by none q m go = unfold put_first in refl
      by (some (raised z)) q m go = absurd_some (sym m ∙ error-is z)
      by (some (returned v)) q m go = ap (put_first (some (returned v))) (go (unfold none_open value_of in q)) ∙ (unfold put_first in refl)
