-- (ii) of a store whose rows and history agree: what `show` gives of a completed gather is, place by place, what its items have delivered; of an awaited
-- one too, if the items of its open places have delivered nothing.
use Rattle.std.proofs.Math.Path.{◌≡◌, refl, sym, ap, ap₂, subst}
use Rattle.std.proofs.Common.{◌∙◌, true≢false, not-suc-le-zero}
use Rattle.std.specs.Prelude.{Bool, not, ◌&&◌, ◌||◌, eqb, leb, ltb}
use Rattle.std.proofs.Math.Bool.{true, false}
use mathlib.Core.List.{List, [], ◌∷◌, map}
use Rattle.std.proofs.Math.Option.{Option, none, some, some-injective}
use Prim.Native.Nat.{ℕ, zero, suc, ◌+◌, ◌≤◌, ◌<◌}
use native.Mathlib.Omega.{arith}
use Rattle.std.proofs.Math.Decide.{ℕ_discrete}
use Rattle.std.proofs.Math.Dec.{T, ltb→lt}
use Rattle.std.proofs.Math.ListN.{length}
use borrow.Author.Tests.{eq-eqb, ne_eqb, eqb-true, leb-false, lt-leb}
use Rattle.asyncio.specs.declared.Value.{Value}
use Rattle.asyncio.specs.declared.Error.{Error}
use Rattle.asyncio.specs.Options.{OptionValue}
use Rattle.std.specs.Prelude.{None, Some}
use Rattle.asyncio.specs.declared.CoroutineState.{CoroutineState}
use Rattle.asyncio.specs.declared.ExternalFutureState.{ExternalFutureState}
use Rattle.asyncio.specs.declared.GatherState.{GatherState}
use Rattle.asyncio.specs.declared.Object.{Object}
use Rattle.asyncio.specs.declared.Place.{Place}
use Rattle.asyncio.specs.Numbers.{heap_id}
use Rattle.asyncio.specs.Layout.{to_value}
use Rattle.asyncio.specs.Kinds.{kind, is_completed}
use Rattle.asyncio.specs.States.{pick}
use Rattle.machine.specs.Store.{Store, view, object, place, header, forget}
use Rattle.machine.specs.Scheduler.{AwaitedGather, as_awaited, bit}
use Rattle.machine.specs.Delivery.{value_or}
use Rattle.machine.specs.Events.{Result}
use Rattle.machine.specs.Machine.{Event, Answer, Shown, Step, unmade, first_refusal, refusals, refusal, slot_value, show_places, shown, accept, step}
use Rattle.machine.specs.Sound.{sound, items_below, value_known, option_known, is_filled, rest_filled, gather_filled, object_filled}
use Rattle.machine.specs.Tests.{◌and◌}
use Rattle.machine.specs.Gather.{Outcome, returned, raised}
use Rattle.machine.specs.History.{Entry, Making, says, first_reply, reply_error, stored_or, coroutine_outcome, reply_outcome, shown_outcome, outcome_by, outcome, value_of, error_of, making, items, completed_value, failed_error}
use Rattle.machine_laws.specs.Facts.{Nothing}
use Rattle.machine_laws.specs.TestLaws.{below, both_left, both_right}
use Rattle.machine_laws.specs.MachineLaws.{accepted-step, refused-step}
use Rattle.machine_laws.specs.SoundLaws.{pass, refusal-rest}
use Rattle.machine_laws.specs.DeliveryLaws.{absurd_some, awaited-object}
use Rattle.machine_theorems.specs.Bounds.Bits.{SetBelow, has_set, none-set}
use Rattle.machine_theorems.specs.Soundness.RowFacts.{sound-some_open, sound_no_other}
use Rattle.machine_theorems.specs.Panics.NoPanicLaws.{place-used}
use Rattle.machine_theorems.specs.Soundness.Stores.{SoundStore, sound_store_sound}
use Rattle.machine.specs.DemandThree.{read, shown_by, look, delivered, none_open}
use Rattle.machine_sessions.specs.Places.Told.{Frozen, co, pends, gave, broke, many, frozen, told, Holds}
use Rattle.machine_sessions.specs.Places.Agrees.{reply_row, ItemsAt, Makes, MadeRight, Agrees}

-- ---- a read of an object that is made

-- what is shown of an object hangs on the results in the places alone
module _ (s u : Store) (same : (p : ℕ) → (place u p).result ≡ (place s p).result) where
  places-like : (f m j c : ℕ) → show_places u f m j c ≡ show_places s f m j c
  unfolding show_places
  places-like f m j zero = refl
  places-like f m j (suc c) = ap₂ (λ (x : Option Value) (y : List (Option Value)). x ∷ y) (ap (slot_value (bit m j)) (same (f + j))) (places-like f m (j + 1) c)

  pub shown_like : (x : Object) → shown u x ≡ shown s x
  unfolding shown
  shown_like Object.Unmade = refl
  shown_like (Object.Coroutine f x) = refl
  shown_like (Object.ExternalFuture c (ExternalFutureState.Pending a r)) = refl
  shown_like (Object.ExternalFuture c (ExternalFutureState.Resolved v)) = refl
  shown_like (Object.ExternalFuture c (ExternalFutureState.Failed e)) = refl
  shown_like (Object.GatherFuture f n GatherState.Pending) = refl
  shown_like (Object.GatherFuture f n (GatherState.Awaited a m)) = ap Shown.a_gather_awaited (places-like f m 0 n)
  shown_like (Object.GatherFuture f n GatherState.Completed) = ap Shown.a_gather_completed (places-like f 0 0 n)
  shown_like (Object.GatherFuture f n (GatherState.Failed e)) = refl

shown-forget : (s : Store) (x : Object) → shown (forget s) x ≡ shown s x
shown-forget s x = shown_like s (forget s) (λ p. unfold place forget in refl) x

accept-shows : (s : Store) (o : ℕ) → (accept (forget s) (Event.show o)).answer ≡ Answer.shows (shown s (object s o))
unfolding accept
accept-shows s o = ap Answer.shows (ap (shown (forget s)) same ∙ shown-forget s (object s o))
  where
    same : object (forget s) o ≡ object s o
    same = unfold object forget in refl

read-accepted : (s : Store) (o : ℕ) → refusal s (Event.show o) ≡ 0 → read s o ≡ Answer.shows (shown s (object s o))
unfolding read
read-accepted s o r = ap (λ (x : Step). x.answer) (accepted-step s (Event.show o) r) ∙ accept-shows s o

not-true : (b : Bool) → T b → not b ≡ false
not-true true t = refl
not-true false t = absurd t

pub shows-made : (s : Store) (o : ℕ) → SoundStore s → o < (header s).made → read s o ≡ Answer.shows (shown s (object s o))
shows-made s o w l = read-accepted s o passes
  where
    passes : refusal s (Event.show o) ≡ 0
    passes = unfold refusal first_refusal refusals unmade in (rw (not-true (sound s) (sound_store_sound s w), lt-leb (header s).made o l))

is-shown : Answer → Bool
is-shown (Answer.made o) = false
is-shown (Answer.called n) = false
is-shown (Answer.control c) = false
is-shown (Answer.awaited c n) = false
is-shown Answer.done = false
is-shown (Answer.cancelled n) = false
is-shown Answer.stalled = false
is-shown (Answer.finished v) = false
is-shown (Answer.finished_error e) = false
is-shown (Answer.shows x) = true
is-shown (Answer.is_eager b) = false
is-shown (Answer.refused n) = false

-- what is shown is made
pub shown-made : (s : Store) (o : ℕ) (x : Shown) → read s o ≡ Answer.shows x → (o < (header s).made) × (shown s (object s o) ≡ x)
unfolding read is-shown
shown-made s o x e = by (ℕ_discrete (refusal s (Event.show o)) 0)
  where
    shows-is : (a b : Shown) → Answer.shows a ≡ Answer.shows b → a ≡ b
    shows-is a b d = cc

    low : refusal s (Event.show o) ≡ 0 → o < (header s).made
    low r = unmade-low (refusal-rest s (Event.show o) r)
      where
        unmade-low : first_refusal (refusals s (Event.show o)) ≡ 0 → o < (header s).made
        unmade-low q = leb-false (header s).made o (unfold refusals unmade in (pass 4 (leb (header s).made o) [] q).0)

    by : Dec (refusal s (Event.show o) ≡ 0) → (o < (header s).made) × (shown s (object s o) ≡ x)
    by (yes r) = (low r, shows-is _ _ (sym (unfold read in (read-accepted s o r)) ∙ e))
    by (no ne) = absurd (true≢false (sym (ap is-shown (sym (ap (λ (y : Step). y.answer) (refused-step s (Event.show o) (refusal s (Event.show o)) refl ne)) ∙ e)) ∙ refl))

-- ---- what an object has come to, by its row

-- C has the outcomes of coroutines
unfoldable pub row_outcome : (ℕ → Option (Outcome Value Error)) → ℕ → Object → Option (Outcome Value Error)
row_outcome C o Object.Unmade = none
row_outcome C o (Object.Coroutine f x) = C o
row_outcome C o (Object.ExternalFuture c (ExternalFutureState.Pending a r)) = none
row_outcome C o (Object.ExternalFuture c (ExternalFutureState.Resolved v)) = some (returned v)
row_outcome C o (Object.ExternalFuture c (ExternalFutureState.Failed e)) = some (raised e)
row_outcome C o (Object.GatherFuture f n GatherState.Pending) = none
row_outcome C o (Object.GatherFuture f n (GatherState.Awaited a m)) = none
row_outcome C o (Object.GatherFuture f n GatherState.Completed) = some (returned (Value.List (heap_id o)))
row_outcome C o (Object.GatherFuture f n (GatherState.Failed e)) = some (raised e)

-- the value of it
unfoldable pub row_gives : (ℕ → Option Value) → ℕ → Object → Option Value
row_gives D o Object.Unmade = none
row_gives D o (Object.Coroutine f x) = D o
row_gives D o (Object.ExternalFuture c (ExternalFutureState.Pending a r)) = none
row_gives D o (Object.ExternalFuture c (ExternalFutureState.Resolved v)) = some v
row_gives D o (Object.ExternalFuture c (ExternalFutureState.Failed e)) = none
row_gives D o (Object.GatherFuture f n GatherState.Pending) = none
row_gives D o (Object.GatherFuture f n (GatherState.Awaited a m)) = none
row_gives D o (Object.GatherFuture f n GatherState.Completed) = some (Value.List (heap_id o))
row_gives D o (Object.GatherFuture f n (GatherState.Failed e)) = none

row-value : (C : ℕ → Option (Outcome Value Error)) (D : ℕ → Option Value) (o : ℕ) (x : Object) → value_of (C o) ≡ D o → value_of (row_outcome C o x) ≡ row_gives D o x
unfolding row_outcome row_gives value_of
row-value C D o Object.Unmade e = refl
row-value C D o (Object.Coroutine f x) e = e
row-value C D o (Object.ExternalFuture c (ExternalFutureState.Pending a r)) e = refl
row-value C D o (Object.ExternalFuture c (ExternalFutureState.Resolved v)) e = refl
row-value C D o (Object.ExternalFuture c (ExternalFutureState.Failed x)) e = refl
row-value C D o (Object.GatherFuture f n GatherState.Pending) e = refl
row-value C D o (Object.GatherFuture f n (GatherState.Awaited a m)) e = refl
row-value C D o (Object.GatherFuture f n GatherState.Completed) e = refl
row-value C D o (Object.GatherFuture f n (GatherState.Failed x)) e = refl

-- what is shown of a gather is its row's
shown-row : (C : ℕ → Option (Outcome Value Error)) (s : Store) (o f n : ℕ) (x : GatherState) → shown_outcome o (shown s (Object.GatherFuture f n x)) ≡ row_outcome C o (Object.GatherFuture f n x)
unfolding shown shown_outcome row_outcome
shown-row C s o f n GatherState.Pending = refl
shown-row C s o f n (GatherState.Awaited a m) = refl
shown-row C s o f n GatherState.Completed = refl
shown-row C s o f n (GatherState.Failed e) = refl

-- by what is frozen: all but gathers
abbrev NotMany : Frozen → Type 0
NotMany Frozen.unmade = Unit {0}
NotMany (co b) = Unit {0}
NotMany (pends c r) = Unit {0}
NotMany (gave v) = Unit {0}
NotMany (broke e) = Unit {0}
NotMany (many f n) = ⊥

-- by what is frozen: all but gathers
unfoldable frozen_outcome : (ℕ → Option (Outcome Value Error)) → ℕ → Frozen → Option (Outcome Value Error)
frozen_outcome C o Frozen.unmade = none
frozen_outcome C o (co b) = C o
frozen_outcome C o (pends c r) = none
frozen_outcome C o (gave v) = some (returned v)
frozen_outcome C o (broke e) = some (raised e)
frozen_outcome C o (many f n) = none

plain-outcome : (C : ℕ → Option (Outcome Value Error)) (o : ℕ) (x : Object) → NotMany (frozen x) → row_outcome C o x ≡ frozen_outcome C o (frozen x)
unfolding row_outcome frozen_outcome frozen
plain-outcome C o Object.Unmade m = refl
plain-outcome C o (Object.Coroutine f CoroutineState.New) m = refl
plain-outcome C o (Object.Coroutine f CoroutineState.Running) m = refl
plain-outcome C o (Object.Coroutine f CoroutineState.Completed) m = refl
plain-outcome C o (Object.ExternalFuture c (ExternalFutureState.Pending a r)) m = refl
plain-outcome C o (Object.ExternalFuture c (ExternalFutureState.Resolved v)) m = refl
plain-outcome C o (Object.ExternalFuture c (ExternalFutureState.Failed e)) m = refl
plain-outcome C o (Object.GatherFuture f n x) m = absurd m

many-outcome : (C : ℕ → Option (Outcome Value Error)) (s : Store) (o f n : ℕ) (x : Object) → frozen x ≡ many f n → shown_outcome o (shown s x) ≡ row_outcome C o x
unfolding frozen
many-outcome C s o f n Object.Unmade e = absurd (subst NotMany e tt)
many-outcome C s o f n (Object.Coroutine g CoroutineState.New) e = absurd (subst NotMany e tt)
many-outcome C s o f n (Object.Coroutine g CoroutineState.Running) e = absurd (subst NotMany e tt)
many-outcome C s o f n (Object.Coroutine g CoroutineState.Completed) e = absurd (subst NotMany e tt)
many-outcome C s o f n (Object.ExternalFuture c (ExternalFutureState.Pending a r)) e = absurd (subst NotMany e tt)
many-outcome C s o f n (Object.ExternalFuture c (ExternalFutureState.Resolved v)) e = absurd (subst NotMany e tt)
many-outcome C s o f n (Object.ExternalFuture c (ExternalFutureState.Failed v)) e = absurd (subst NotMany e tt)
many-outcome C s o f n (Object.GatherFuture g m x) e = shown-row C s o g m x

plain-gives : (D : ℕ → Option Value) (o : ℕ) (x : Object) → NotMany (frozen x) → row_gives D o x ≡ told D o (frozen x)
unfolding row_gives told frozen
plain-gives D o Object.Unmade m = refl
plain-gives D o (Object.Coroutine f CoroutineState.New) m = refl
plain-gives D o (Object.Coroutine f CoroutineState.Running) m = refl
plain-gives D o (Object.Coroutine f CoroutineState.Completed) m = refl
plain-gives D o (Object.ExternalFuture c (ExternalFutureState.Pending a r)) m = refl
plain-gives D o (Object.ExternalFuture c (ExternalFutureState.Resolved v)) m = refl
plain-gives D o (Object.ExternalFuture c (ExternalFutureState.Failed e)) m = refl
plain-gives D o (Object.GatherFuture f n x) m = absurd m

-- the reply of a pending external
stored_same : (r : OptionValue) (v : Value) → stored_or r v ≡ value_or r v
unfolding stored_or value_or
stored_same None v = refl
stored_same (Some x) v = refl

reply_frozen : (C : ℕ → Option (Outcome Value Error)) (o c : ℕ) (r : OptionValue) (x : Option Result) → reply_outcome r x ≡ frozen_outcome C o (reply_row c r x)
unfolding reply_outcome frozen_outcome reply_row
reply_frozen C o c r none = refl
reply_frozen C o c r (some x) = by (eqb x.kind 0)
  where
    by : (b : Bool) → some (pick b (returned (stored_or r (to_value x.tag x.number))) (raised (reply_error x))) ≡ frozen_outcome C o (pick b (gave (value_or r (to_value x.tag x.number))) (broke (reply_error x)))
    by true = unfold frozen_outcome in (ap (λ (v : Value). some (returned v)) (stored_same r (to_value x.tag x.number)))
    by false = unfold frozen_outcome in refl

reply_plain : (c : ℕ) (r : OptionValue) (x : Option Result) → NotMany (reply_row c r x)
unfolding reply_row
reply_plain c r none = tt
reply_plain c r (some x) = by (eqb x.kind 0)
  where
    by : (b : Bool) → NotMany (pick b (gave (value_or r (to_value x.tag x.number))) (broke (reply_error x)))
    by true = tt
    by false = tt

module _ (h : List Entry) (s : Store) (w : SoundStore s) (k : Agrees h s) where
  abbrev D : ℕ → Option Value
  D = completed_value h

  abbrev C : ℕ → Option (Outcome Value Error)
  C o = coroutine_outcome (completed_value h o) (failed_error h o)

  -- by the making
  plain_row : (o : ℕ) (y : Frozen) → frozen (object s o) ≡ y → NotMany y → frozen_outcome C o y ≡ row_outcome C o (object s o)
  plain_row o y e m = sym (plain-outcome C o (object s o) (subst NotMany (sym e) m) ∙ ap (frozen_outcome C o) e)

  look-made : (o : ℕ) → o < (header s).made → look s o ≡ shown s (object s o)
  unfolding look shown_by
  look-made o l = ap shown_by (shows-made s o w l)

  event-outcome : (o : ℕ) → o < (header s).made → (e : Event) (since : List Entry) → Makes e since (frozen (object s o)) (λ p. (place s p).item.0)
      → outcome_by h (look s) o e since ≡ row_outcome C o (object s o)
  unfolding Makes outcome_by frozen_outcome
  event-outcome o l (Event.coroutine f) since y = plain_row o (co y.0) y.1 tt
  event-outcome o l Event.call since y = absurd y
  event-outcome o l (Event.pending c r) since y = reply_frozen C o c r (first_reply since c) ∙ plain_row o (reply_row c r (first_reply since c)) y (reply_plain c r (first_reply since c))
  event-outcome o l (Event.settled v) since y = plain_row o (gave v) y tt
  event-outcome o l (Event.gather os) since y = ap (shown_outcome o) (look-made o l) ∙ many-outcome C s o y.0 (length os) (object s o) y.1
  event-outcome o l (Event.await p) since y = absurd y
  event-outcome o l (Event.complete v) since y = absurd y
  event-outcome o l (Event.fail n) since y = absurd y
  event-outcome o l (Event.results rs) since y = absurd y
  event-outcome o l Event.resume since y = absurd y
  event-outcome o l (Event.cancel t) since y = absurd y
  event-outcome o l (Event.show p) since y = absurd y
  event-outcome o l Event.eager since y = absurd y

  outcome-made : (o : ℕ) → o < (header s).made → (m : Option Making) → MadeRight m (header s).made o (frozen (object s o)) (λ p. (place s p).item.0)
      → elim m [ none ↦ none | some y ↦ outcome_by h (look s) o y.event y.since ] ≡ row_outcome C o (object s o)
  unfolding MadeRight
  outcome-made o l none y = absurd (not-suc-le-zero {n = 0} (omega (arith, l, y)))
  outcome-made o l (some m) y = event-outcome o l m.event m.since y.1

  -- What an object has come to by the history is what its row says.
  pub outcome-row : (o : ℕ) → o < (header s).made → outcome h (look s) o ≡ row_outcome C o (object s o)
  unfolding outcome
  outcome-row o l = outcome-made o l (making h o) (k.makes o)

  coroutine-value : (o : ℕ) → value_of (C o) ≡ D o
  coroutine-value o = by (completed_value h o) (failed_error h o)
    where
      by : (v : Option Value) (e : Option Error) → value_of (coroutine_outcome v e) ≡ v
      by (some v) e = unfold coroutine_outcome value_of in refl
      by none (some e) = unfold coroutine_outcome value_of in refl
      by none none = unfold coroutine_outcome value_of in refl

  -- and so of what it has delivered
  pub delivered-row : (o : ℕ) → o < (header s).made → delivered h s o ≡ row_gives D o (object s o)
  unfolding delivered
  delivered-row o l = ap value_of (outcome-row o l) ∙ row-value C D o (object s o) (coroutine-value o)

  -- ---- a gather's places

  -- its items, as they were named at its making
  gather-by : (g f n : ℕ) → frozen (object s g) ≡ many f n → (e : Event) (since : List Entry) → Makes e since (frozen (object s g)) (λ p. (place s p).item.0) → (n ≡ length (says e).items) × ItemsAt (λ p. (place s p).item.0) f (says e).items
  unfolding Makes says
  gather-by g f n q (Event.coroutine a) since y = absurd (subst NotMany (sym y.1 ∙ q) tt)
  gather-by g f n q Event.call since y = absurd y
  gather-by g f n q (Event.pending c r) since y = absurd (subst NotMany (sym y ∙ q) (reply_plain c r (first_reply since c)))
  gather-by g f n q (Event.settled v) since y = absurd (subst NotMany (sym y ∙ q) tt)
  gather-by g f n q (Event.gather os) since y =
      let p : ◌≡◌ {A = Frozen} (many f n) (many y.0 (length os)) = sym q ∙ y.1 in
      let a : f ≡ y.0 = cc in
      let b : n ≡ length os = cc in
      (b, subst (λ (m : ℕ). ItemsAt (λ p. (place s p).item.0) m os) (sym a) y.2)
  gather-by g f n q (Event.await p) since y = absurd y
  gather-by g f n q (Event.complete v) since y = absurd y
  gather-by g f n q (Event.fail m) since y = absurd y
  gather-by g f n q (Event.results rs) since y = absurd y
  gather-by g f n q Event.resume since y = absurd y
  gather-by g f n q (Event.cancel t) since y = absurd y
  gather-by g f n q (Event.show p) since y = absurd y
  gather-by g f n q Event.eager since y = absurd y

  gather-items : (g f n : ℕ) → g < (header s).made → frozen (object s g) ≡ many f n → (n ≡ length (items h g)) × ItemsAt (λ p. (place s p).item.0) f (items h g)
  unfolding items MadeRight
  gather-items g f n l q = by (making h g) (k.makes g)
    where
      by : (m : Option Making) → MadeRight m (header s).made g (frozen (object s g)) (λ p. (place s p).item.0)
          → (n ≡ length {A = ℕ} (elim m as (λ (z : Option Making). List ℕ) [ none ↦ [] | some y ↦ (says y.event).items ])) × ItemsAt (λ p. (place s p).item.0) f (elim m as (λ (z : Option Making). List ℕ) [ none ↦ [] | some y ↦ (says y.event).items ])
      by none y = absurd (not-suc-le-zero {n = 0} (omega (arith, l, y)))
      by (some m) y = gather-by g f n q m.event m.since y.1

  -- place by place
  list_right : (d : ℕ → Option Value) (f m : ℕ) (os : List ℕ) (j : ℕ) → ItemsAt (λ p. (place s p).item.0) (f + j) os
      → ((a : ℕ) → j ≤ a → a < j + length os → slot_value (bit m a) (place s (f + a)).result ≡ d (place s (f + a)).item.0) → show_places s f m j (length os) ≡ map d os
  unfolding show_places ItemsAt
  list_right d f m [] j it e = refl
  list_right d f m (o ∷ os) j it e =
      ap₂ (λ (x : Option Value) (y : List (Option Value)). x ∷ y) (e j (omega arith) (omega arith) ∙ ap d it.0)
      (list_right d f m os (j + 1) (subst (λ (p : ℕ). ItemsAt (λ x. (place s x).item.0) p os) (next f j) it.1) (λ a b c. e a (omega (arith, b)) (omega (arith, c))))
    where
      next : (f j : ℕ) → f + j + 1 ≡ f + (j + 1)
      next f j = omega arith

  -- every place is closed
  all_closed : (f m j c : ℕ) → ((a : ℕ) → j ≤ a → a < j + c → (v : Value) × (slot_value (bit m a) (place s (f + a)).result ≡ some v)) → none_open (show_places s f m j c) ≡ true
  unfolding show_places none_open
  all_closed f m j zero e = refl
  all_closed f m j (suc c) e =
      let y = e j (omega arith) (omega arith) in
      ap (λ (x : Option Value). none_open (x ∷ show_places s f m (j + 1) c)) y.1 ∙ all_closed f m (j + 1) c (λ a b l. e a (omega (arith, b)) (omega (arith, l)))

  -- one is open
  one-open : (f m c j a : ℕ) → j ≤ a → a < j + c → bit m a ≡ true → none_open (show_places s f m j c) ≡ false
  unfolding show_places none_open slot_value
  one-open f m zero j a lo hi e = absurd (not-suc-le-zero {n = 0} (omega arith))
  one-open f m (suc c) j a lo hi e = by (ℕ_discrete a j) (slot_value (bit m j) (place s (f + j)).result) refl (λ l. one-open f m c (j + 1) a l (omega arith) e)
    where
      by : Dec (a ≡ j) → (x : Option Value) → slot_value (bit m j) (place s (f + j)).result ≡ x → (j + 1 ≤ a → none_open (show_places s f m (j + 1) c) ≡ false) → none_open (x ∷ show_places s f m (j + 1) c) ≡ false
      by d none q go = refl
      by (yes d) (some v) q go = absurd_some (sym (ap (λ (b : Bool). slot_value b (place s (f + j)).result) (subst (λ (p : ℕ). bit m p ≡ true) d e)) ∙ q)
      by (no ne) (some v) q go = go (omega (arith, lo, ne))

  -- a closed place of a gather holds what its item's row gives
  pub item_low : (g f n : ℕ) (x : GatherState) → g < (header s).made → object s g ≡ Object.GatherFuture f n x → (a : ℕ) → a < n → (place s (f + a)).item.0 < (header s).made
  unfolding view items_below
  item_low g f n x l e a b =
      let y : T (items_below (place s) g (Object.GatherFuture f n x)) = subst (λ (z : Object). T (items_below (place s) g z)) e (w.facts.but.items g l) in
      omega (arith, ltb→lt (place s (f + a)).item.0 g (below n _ y a b), l)

  -- a value that is known is given
  known-gives : (o : ℕ) (v : Value) → told D o (frozen (object s o)) ≡ some v → T (value_known (header s).made (object s) v) → row_gives D o (object s o) ≡ some v
  known-gives o v e kn = by (object s o) refl
    where
      plain : (y : Object) → object s o ≡ y → NotMany (frozen y) → row_gives D o y ≡ some v
      plain y q m = plain-gives D o y m ∙ subst (λ (z : Object). told D o (frozen z) ≡ some v) q e

      list-known : (f n : ℕ) (y : GatherState) → object s o ≡ Object.GatherFuture f n y → row_gives D o (Object.GatherFuture f n y) ≡ some v
      list-known f n y q = state y q (is-done y q) ∙ value-is
        where
          value-is : ◌≡◌ {A = Option Value} (some (Value.List (heap_id o))) (some v)
          value-is = told-list f n ∙ subst (λ (z : Object). told D o (frozen z) ≡ some v) q e
            where
              told-list : (f n : ℕ) → some (Value.List (heap_id o)) ≡ told D o (frozen (Object.GatherFuture f n y))
              told-list f n = unfold told frozen in refl

          is-done : (y : GatherState) → object s o ≡ Object.GatherFuture f n y → T (is_completed (kind (Object.GatherFuture f n y)))
          is-done y q = subst (λ (z : Object). T (is_completed (kind z))) q (list_done (subst (λ (z : Value). T (value_known (header s).made (object s) z)) (sym (some-injective (Value.List (heap_id o)) v value-is)) kn))
            where
              list_done : T (value_known (header s).made (object s) (Value.List (heap_id o))) → T (is_completed (kind (object s o)))
              list_done z = known-done (unfold value_known in z)
                where
                  known-done : T (ltb o (header s).made and is_completed (kind (object s o))) → T (is_completed (kind (object s o)))
                  known-done x = both_right (ltb o (header s).made) _ x

          state : (y : GatherState) → object s o ≡ Object.GatherFuture f n y → T (is_completed (kind (Object.GatherFuture f n y))) → row_gives D o (Object.GatherFuture f n y) ≡ some (Value.List (heap_id o))
          state GatherState.Pending q t = absurd (unfold kind in t)
          state (GatherState.Awaited a m) q t = absurd (unfold kind in t)
          state GatherState.Completed q t = unfold row_gives in refl
          state (GatherState.Failed x) q t = absurd (unfold kind in t)

      by : (y : Object) → object s o ≡ y → row_gives D o y ≡ some v
      by Object.Unmade q = plain _ q (unfold frozen in tt)
      by (Object.Coroutine f CoroutineState.New) q = plain _ q (unfold frozen in tt)
      by (Object.Coroutine f CoroutineState.Running) q = plain _ q (unfold frozen in tt)
      by (Object.Coroutine f CoroutineState.Completed) q = plain _ q (unfold frozen in tt)
      by (Object.ExternalFuture c (ExternalFutureState.Pending a r)) q = plain _ q (unfold frozen in tt)
      by (Object.ExternalFuture c (ExternalFutureState.Resolved x)) q = plain _ q (unfold frozen in tt)
      by (Object.ExternalFuture c (ExternalFutureState.Failed x)) q = plain _ q (unfold frozen in tt)
      by (Object.GatherFuture f n y) q = list-known f n y q

  filled-right : (p : ℕ) → p < (header s).used → T (is_filled (place s p).result) → (v : Value) × ((place s p).result ≡ Some v) × (row_gives D (place s p).item.0 (object s (place s p).item.0) ≡ some v)
  unfolding view
  filled-right p l t = by (place s p).result refl t
    where
      by : (x : OptionValue) → (place s p).result ≡ x → T (is_filled x) → (v : Value) × ((place s p).result ≡ Some v) × (row_gives D (place s p).item.0 (object s (place s p).item.0) ≡ some v)
      by None e z = absurd (unfold-filled z)
        where
          unfold-filled : T (is_filled None) → ⊥
          unfold-filled y = unfold is_filled in y
      by (Some v) e z = (
        v,
        e,
        known-gives (place s p).item.0 v (subst (Holds (λ o. frozen (object s o)) D (place s p).item.0) e (k.told.holds p))
            (known_some v (subst (λ (x : OptionValue). T (option_known (header s).made (object s) x)) e (w.facts.but.place_lists p l))),
      )
        where
          known_some : (v : Value) → T (option_known (header s).made (object s) (Some v)) → T (value_known (header s).made (object s) v)
          known_some v y = unfold option_known in y

  -- ---- the claim of one gather

  abbrev pub gives_now : ℕ → Option Value
  gives_now o = row_gives D o (object s o)

  -- open places name what has delivered nothing
  abbrev pub OpenNone : ℕ → AwaitedGather → Type 0
  OpenNone g v = (a : ℕ) → a < v.count → bit v.open_places a ≡ true → gives_now (place s (v.first + a)).item.0 ≡ none

  slot-filled : (b : Bool) (x : OptionValue) (v : Value) → b ≡ false → x ≡ Some v → slot_value b x ≡ some v
  unfolding slot_value
  slot-filled b x v p q = ap₂ slot_value p q

  slot_open : (b : Bool) (x : OptionValue) → b ≡ true → slot_value b x ≡ none
  unfolding slot_value
  slot_open b x p = ap (λ (y : Bool). slot_value y x) p

  map_same : (d e : ℕ → Option Value) (f : ℕ) (os : List ℕ) → ((a : ℕ) → a < length os → d (place s (f + a)).item.0 ≡ e (place s (f + a)).item.0) → ItemsAt (λ p. (place s p).item.0) f os → map d os ≡ map e os
  unfolding ItemsAt
  map_same d e f [] q it = refl
  map_same d e f (o ∷ os) q it =
      ap₂ (λ (x : Option Value) (y : List (Option Value)). x ∷ y)
      (sym (ap d it.0) ∙ (subst (λ (p : ℕ). d (place s p).item.0 ≡ e (place s p).item.0) (plus f) (q 0 (omega arith)) ∙ ap e it.0))
      (map_same d e (f + 1) os (λ a l. subst (λ (p : ℕ). d (place s p).item.0 ≡ e (place s p).item.0) (step f a) (q (suc a) (omega (arith, l)))) it.1)
    where
      plus : (f : ℕ) → f + 0 ≡ f
      plus f = omega arith

      step : (f a : ℕ) → f + suc a ≡ f + 1 + a
      step f a = omega arith

  shown-right : (g f n m : ℕ) (x : GatherState) → g < (header s).made → object s g ≡ Object.GatherFuture f n x
      → ((a : ℕ) → a < n → slot_value (bit m a) (place s (f + a)).result ≡ gives_now (place s (f + a)).item.0) → show_places s f m 0 n ≡ map (delivered h s) (items h g)
  shown-right g f n m x l e each =
      let it = gather-items g f n l (ap frozen e ∙ frozen-many f n x) in
      ap (show_places s f m 0) it.0
      ∙ (list_right gives_now f m (items h g) 0 (subst (λ (p : ℕ). ItemsAt (λ x. (place s x).item.0) p (items h g)) (sym (plus f)) it.1) (λ a b c. each a (omega (arith, c, it.0)))
      ∙ sym (map_same (delivered h s) gives_now f (items h g) (λ a b. delivered-row (place s (f + a)).item.0 (item_low g f n x l e a (omega (arith, b, it.0)))) it.1))
    where
      frozen-many : (f n : ℕ) (x : GatherState) → frozen (Object.GatherFuture f n x) ≡ many f n
      frozen-many f n x = unfold frozen in refl

      plus : (f : ℕ) → f + 0 ≡ f
      plus f = omega arith

  -- the places that are not open are filled
  closed_filled : (g f n m : ℕ) (x : GatherState) → g < (header s).made → object s g ≡ Object.GatherFuture f n x → T (rest_filled (place s) f n m) → (a : ℕ) → a < n → bit m a ≡ false
      → (v : Value) × ((place s (f + a)).result ≡ Some v) × (gives_now (place s (f + a)).item.0 ≡ some v)
  unfolding view rest_filled
  closed_filled g f n m x l e t a b c =
      filled-right (f + a) (place-used w.facts.but g f n x l e a b) (or-false (bit m a) (is_filled (place s (f + a)).result) c (below n (λ k. bit m k || is_filled (place s (f + k)).result) t a b))
    where
      or-false : (p r : Bool) → p ≡ false → T (p || r) → T r
      or-false true r q y = absurd (true≢false q)
      or-false false r q y = y

  gather-fill : (g : ℕ) (y : Object) → g < (header s).made → object s g ≡ y → T (object_filled (place s) y)
  unfolding view
  gather-fill g y l e = subst (λ (z : Object). T (object_filled (place s) z)) e (w.facts.but.filled g l (λ z. z))

  completed-at : (g f n : ℕ) → g < (header s).made → object s g ≡ Object.GatherFuture f n GatherState.Completed → (show_places s f 0 0 n ≡ map (delivered h s) (items h g)) × (none_open (show_places s f 0 0 n) ≡ true)
  completed-at g f n l e = (
    shown-right g f n 0 GatherState.Completed l e (λ a b. let y = closed a b in slot-filled (bit 0 a) (place s (f + a)).result y.0 (none-set a) y.1 ∙ sym y.2),
    all_closed f 0 0 n (λ a b c. let y = closed a (omega (arith, c)) in (y.0, slot-filled (bit 0 a) (place s (f + a)).result y.0 (none-set a) y.1)),
  )
    where
      full : T (rest_filled (place s) f n 0)
      full = open_up (gather-fill g (Object.GatherFuture f n GatherState.Completed) l e)
        where
          open_up : T (object_filled (place s) (Object.GatherFuture f n GatherState.Completed)) → T (rest_filled (place s) f n 0)
          open_up z = unfold object_filled gather_filled in z

      closed : (a : ℕ) → a < n → (v : Value) × ((place s (f + a)).result ≡ Some v) × (gives_now (place s (f + a)).item.0 ≡ some v)
      closed a b = closed_filled g f n 0 GatherState.Completed l e full a b (none-set a)

  -- a closed place of an awaited gather has what its item has delivered
  awaited-closed : (g : ℕ) (v : AwaitedGather) → g < (header s).made → as_awaited (object s g) ≡ some v → (a : ℕ) → a < v.count → bit v.open_places a ≡ false
      → (x : Value) × ((place s (v.first + a)).result ≡ Some x) × (gives_now (place s (v.first + a)).item.0 ≡ some x)
  awaited-closed g v l e a b c = closed_filled g v.first v.count v.open_places (GatherState.Awaited v.awaiter v.open_places) l row full a b c
    where
      row : object s g ≡ Object.GatherFuture v.first v.count (GatherState.Awaited v.awaiter v.open_places)
      row = awaited-object (object s g) v e

      full : T (rest_filled (place s) v.first v.count v.open_places)
      full = open_up (gather-fill g (Object.GatherFuture v.first v.count (GatherState.Awaited v.awaiter v.open_places)) l row)
        where
          open_up : T (object_filled (place s) (Object.GatherFuture v.first v.count (GatherState.Awaited v.awaiter v.open_places))) → T (rest_filled (place s) v.first v.count v.open_places)
          open_up z = second (unfold object_filled gather_filled in z)
            where
              second : T (not (eqb v.open_places 0) and rest_filled (place s) v.first v.count v.open_places) → T (rest_filled (place s) v.first v.count v.open_places)
              second z = both_right (not (eqb v.open_places 0)) _ z

  awaited-at : (g : ℕ) (v : AwaitedGather) → g < (header s).made → as_awaited (object s g) ≡ some v → OpenNone g v
      → (show_places s v.first v.open_places 0 v.count ≡ map (delivered h s) (items h g)) × (none_open (show_places s v.first v.open_places 0 v.count) ≡ false)
  awaited-at g v l e none-there = (
    shown-right g v.first v.count v.open_places (GatherState.Awaited v.awaiter v.open_places) l row (λ a b. each a b (bit v.open_places a) refl),
    (let y = has_set v.count v.open_places (sound_no_other s g v w.facts.but l e) (sound-some_open s g v w.facts.but l e) in
        one-open v.first v.open_places v.count 0 y.at (omega arith) (omega (arith, y.under)) y.is_set),
  )
    where
      row : object s g ≡ Object.GatherFuture v.first v.count (GatherState.Awaited v.awaiter v.open_places)
      row = awaited-object (object s g) v e

      each : (a : ℕ) → a < v.count → (b : Bool) → bit v.open_places a ≡ b → slot_value (bit v.open_places a) (place s (v.first + a)).result ≡ gives_now (place s (v.first + a)).item.0
      each a b true c = slot_open (bit v.open_places a) (place s (v.first + a)).result c ∙ sym (none-there a b c)
      each a b false c =
          let y = awaited-closed g v l e a b c in
          slot-filled (bit v.open_places a) (place s (v.first + a)).result y.0 c y.1 ∙ sym y.2

  -- ---- what is shown

  abbrev IsCompleted : List (Option Value) → Object → Type 0
  IsCompleted vs x = (f : ℕ) × (n : ℕ) × (x ≡ Object.GatherFuture f n GatherState.Completed) × (show_places s f 0 0 n ≡ vs)

  shows-completed : Shown → Bool
  shows-completed (Shown.a_coroutine x f) = false
  shows-completed Shown.an_external_pending = false
  shows-completed (Shown.an_external_resolved v) = false
  shows-completed (Shown.an_external_failed e) = false
  shows-completed Shown.a_gather_pending = false
  shows-completed (Shown.a_gather_awaited vs) = false
  shows-completed (Shown.a_gather_completed vs) = true
  shows-completed (Shown.a_gather_failed e) = false
  shows-completed Shown.nothing = false

  completed-shown : (vs : List (Option Value)) (x : Object) → shown s x ≡ Shown.a_gather_completed vs → IsCompleted vs x
  unfolding shown shows-completed
  completed-shown vs Object.Unmade e = absurd (true≢false (sym (ap shows-completed e)))
  completed-shown vs (Object.Coroutine f x) e = absurd (true≢false (sym (ap shows-completed e)))
  completed-shown vs (Object.ExternalFuture c (ExternalFutureState.Pending a r)) e = absurd (true≢false (sym (ap shows-completed e)))
  completed-shown vs (Object.ExternalFuture c (ExternalFutureState.Resolved v)) e = absurd (true≢false (sym (ap shows-completed e)))
  completed-shown vs (Object.ExternalFuture c (ExternalFutureState.Failed v)) e = absurd (true≢false (sym (ap shows-completed e)))
  completed-shown vs (Object.GatherFuture f n GatherState.Pending) e = absurd (true≢false (sym (ap shows-completed e)))
  completed-shown vs (Object.GatherFuture f n (GatherState.Awaited a m)) e = absurd (true≢false (sym (ap shows-completed e)))
  completed-shown vs (Object.GatherFuture f n GatherState.Completed) e = (f, n, refl, let q : show_places s f 0 0 n ≡ vs = cc in q)
  completed-shown vs (Object.GatherFuture f n (GatherState.Failed v)) e = absurd (true≢false (sym (ap shows-completed e)))

  as-open : Shown → Bool
  as-open (Shown.a_coroutine x f) = false
  as-open Shown.an_external_pending = false
  as-open (Shown.an_external_resolved v) = false
  as-open (Shown.an_external_failed e) = false
  as-open Shown.a_gather_pending = false
  as-open (Shown.a_gather_awaited vs) = true
  as-open (Shown.a_gather_completed vs) = false
  as-open (Shown.a_gather_failed e) = false
  as-open Shown.nothing = false

  abbrev IsAwaited : List (Option Value) → Object → Type 0
  IsAwaited vs x = (v : AwaitedGather) × (as_awaited x ≡ some v) × (show_places s v.first v.open_places 0 v.count ≡ vs)

  awaited-shown : (vs : List (Option Value)) (x : Object) → shown s x ≡ Shown.a_gather_awaited vs → IsAwaited vs x
  unfolding shown as-open as_awaited
  awaited-shown vs Object.Unmade e = absurd (true≢false (sym (ap as-open e)))
  awaited-shown vs (Object.Coroutine f x) e = absurd (true≢false (sym (ap as-open e)))
  awaited-shown vs (Object.ExternalFuture c (ExternalFutureState.Pending a r)) e = absurd (true≢false (sym (ap as-open e)))
  awaited-shown vs (Object.ExternalFuture c (ExternalFutureState.Resolved v)) e = absurd (true≢false (sym (ap as-open e)))
  awaited-shown vs (Object.ExternalFuture c (ExternalFutureState.Failed v)) e = absurd (true≢false (sym (ap as-open e)))
  awaited-shown vs (Object.GatherFuture f n GatherState.Pending) e = absurd (true≢false (sym (ap as-open e)))
  awaited-shown vs (Object.GatherFuture f n (GatherState.Awaited a m)) e = (record { first = f; count = n; awaiter = a; open_places = m }, refl, let q : show_places s f m 0 n ≡ vs = cc in q)
  awaited-shown vs (Object.GatherFuture f n GatherState.Completed) e = absurd (true≢false (sym (ap as-open e)))
  awaited-shown vs (Object.GatherFuture f n (GatherState.Failed v)) e = absurd (true≢false (sym (ap as-open e)))

  -- The completed half: no more is asked.
  pub completed-right : (g : ℕ) (vs : List (Option Value)) → read s g ≡ Answer.shows (Shown.a_gather_completed vs) → (vs ≡ map (delivered h s) (items h g)) × (none_open vs ≡ true)
  completed-right g vs e =
      let m = shown-made s g _ e in
      let y = completed-shown vs (object s g) m.1 in
      subst (λ (us : List (Option Value)). (us ≡ map (delivered h s) (items h g)) × (none_open us ≡ true)) y.3 (completed-at g y.0 y.1 m.0 y.2)

  -- The awaited half, if the items of open places have delivered nothing.
  pub awaited-right : (g : ℕ) → ((v : AwaitedGather) → g < (header s).made → as_awaited (object s g) ≡ some v → OpenNone g v) → (vs : List (Option Value)) → read s g ≡ Answer.shows (Shown.a_gather_awaited vs)
      → (vs ≡ map (delivered h s) (items h g)) × (none_open vs ≡ false)
  awaited-right g o vs e =
      let m = shown-made s g _ e in
      let y = awaited-shown vs (object s g) m.1 in
      subst (λ (us : List (Option Value)). (us ≡ map (delivered h s) (items h g)) × (none_open us ≡ false)) y.2 (awaited-at g y.0 m.0 y.1 (o y.0 m.0 y.1))

  -- ---- items that have come to nothing, or to a value

  -- what has come to nothing gives nothing
  pub nothing-gives : (o : ℕ) → row_outcome C o (object s o) ≡ none → gives_now o ≡ none
  nothing-gives o e = sym (row-value C D o (object s o) (coroutine-value o)) ∙ (ap value_of e ∙ (unfold value_of in refl))

  -- what gives a value has not raised
  given-no-error : (o : ℕ) (x : Value) → gives_now o ≡ some x → error_of (row_outcome C o (object s o)) ≡ none
  unfolding value_of error_of
  given-no-error o x e = by (row_outcome C o (object s o)) (row-value C D o (object s o) (coroutine-value o) ∙ e)
    where
      by : (r : Option (Outcome Value Error)) → value_of r ≡ some x → error_of r ≡ none
      by none q = absurd_some q
      by (some (returned v)) q = refl
      by (some (raised v)) q = absurd_some q

  -- No item of an awaited gather has raised, if the items of its open places have come to nothing.
  pub items_no_error : (g : ℕ) (v : AwaitedGather) → g < (header s).made → as_awaited (object s g) ≡ some v
      → ((a : ℕ) → a < v.count → bit v.open_places a ≡ true → row_outcome C (place s (v.first + a)).item.0 (object s (place s (v.first + a)).item.0) ≡ none)
      → (a : ℕ) → a < v.count → error_of (outcome h (look s) (place s (v.first + a)).item.0) ≡ none
  items_no_error g v l e f a b =
      ap error_of (outcome-row (place s (v.first + a)).item.0 (item_low g v.first v.count (GatherState.Awaited v.awaiter v.open_places) l (awaited-object (object s g) v e) a b)) ∙ by (bit v.open_places a) refl
    where
      by : (x : Bool) → bit v.open_places a ≡ x → error_of (row_outcome C (place s (v.first + a)).item.0 (object s (place s (v.first + a)).item.0)) ≡ none
      by true c = ap error_of (f a b c) ∙ (unfold error_of in refl)
      by false c = let y = awaited-closed g v l e a b c in given-no-error _ y.0 y.2

  -- An item that has come to nothing stands in an open place.
  pub nothing_open : (g : ℕ) (v : AwaitedGather) → g < (header s).made → as_awaited (object s g) ≡ some v → (a : ℕ) → a < v.count → outcome h (look s) (place s (v.first + a)).item.0 ≡ none
      → bit v.open_places a ≡ true
  nothing_open g v l e a b q = by (bit v.open_places a) refl
    where
      by : (x : Bool) → bit v.open_places a ≡ x → x ≡ true
      by true c = refl
      by false c =
          let low = item_low g v.first v.count (GatherState.Awaited v.awaiter v.open_places) l (awaited-object (object s g) v e) a b in
          absurd_some (sym (nothing-gives _ (sym (outcome-row _ low) ∙ q)) ∙ (awaited-closed g v l e a b c).2)
