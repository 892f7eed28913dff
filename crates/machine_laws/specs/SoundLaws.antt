-- An event that makes leaves a sound store sound, from the table of refusals: clauses of the view (MakingLaws) and words (WordLaws).
use Rattle.std.specs.Prelude.{◌≡◌, refl, Bool, true, false, not, ◌||◌, List, [], ◌∷◌, ℕ, zero, suc, ◌+◌, ◌≤◌, ◌<◌, T, eqb, ltb, leb}
use Rattle.std.proofs.Common.{ap, sym, subst, ◌∙◌, true≢false, not-suc-le-zero, add-zero, leb-false, ltb-false}
use Rattle.std.proofs.Math.Option.{Option, none, some, some-injective}
use native.Mathlib.Omega.{arith}
use Rattle.std.proofs.Math.Decide.{ℕ_discrete}
use Rattle.std.proofs.Math.ListN.{length}
use Rattle.std.proofs.lemmas.Bool.{eqb-false}
use Rattle.asyncio.specs.States.{pick}
use Rattle.asyncio.specs.declared.Value.{Value}
use Rattle.asyncio.specs.Options.{OptionValue}
use Rattle.asyncio.specs.declared.Object.{Object}
use Rattle.asyncio.specs.declared.ExternalFutureState.{ExternalFutureState}
use Rattle.asyncio.specs.declared.CallId.{CallId}
use Rattle.asyncio.specs.Kinds.{kind, is_pending_external}
use Rattle.asyncio.specs.Parts.{call_of}
use Rattle.rows.specs.Tables.{object_at, header_at}
use Rattle.asyncio.specs.declared.Header.{Header}
use Rattle.asyncio.specs.Limits.{object_limit, place_limit, item_limit, call_limit, u32_limit}
use Rattle.asyncio.specs.Ranges.{ObjectFits, HeaderFits}
use Rattle.machine.specs.Store.{Store, View, view, task, object, place, header, put_header, put_place, add_object, set_calls, forget}
use Rattle.machine.specs.Scheduler.{PendingExternal, as_pending, is_some, first_from, is_call, live, pending_external_in, pending_external}
use Rattle.machine.specs.Sound.{sound, words_in_range, is_ended, value_known, option_known}
use Rattle.machine.specs.Events.{make_coroutine, make_pending, make_settled, put_items, make_gather}
use Rattle.machine_laws.specs.Views.{Sized, with_places}
use Rattle.machine_laws.specs.Statements.{AllBelow, Making}
use Rattle.machine_laws.specs.Facts.{SoundFacts, WordsInRange}
use Rattle.machine_laws.specs.TestLaws.{is_true, not-not, both, both_left, both_right, or_left, or_right}
use Rattle.machine_laws.specs.StoreLaws.{sized-forget, sized-put_header, sized-put_place, header_put-header, header_put-object, header-fits}
use Rattle.machine_laws.specs.MachineLaws.{accepted-step, refused-step, show-step, eager-step}
use Rattle.machine_laws.specs.FactLaws.{to_facts, to_test}
use Rattle.machine_laws.specs.WordLaws.{words_facts, words_test, words_put_object, words_put_place, words_put_header}
use Rattle.machine_laws.specs.MakingLaws.{called_at, added_to, added_fits, blank, next_calls, next-header, next-sized, items-view, items-sized, value-fits, option_fits}
use Rattle.machine_laws.specs.MakingLaws.{call_keeps, coroutine_keeps, pending_keeps, settled_keeps, gather_keeps}
use Rattle.machine.specs.Machine.{Event, is_run, any_of, first_refusal, accept, decide, step, in_running, in_waiting, in_both, unmade, result_unknown, full, no_number, refusals, refusal}

-- ---- the words, when an object is added

module _ (s : Store) (x : Object) (n : ℕ) (z : Sized s) (l : (header s).made < object_limit) (r : (header s).used + n ≤ place_limit) (f : ObjectFits x) where
  header-add : header (add_object s x n) ≡ added_to (header s) n
  unfolding add_object
  header-add = header_put-object (put_header s (added_to (header s) n)) (header s).made x ∙ header_put-header s (added_to (header s) n) z (added_fits s n l r)

  -- the places that it is given are canonical already
  add_words : WordsInRange (header s).next (header s).made ((header s).used + n) s → T (words_in_range (add_object s x n))
  add_words k = words_test (add_object s x n) (subst (λ (h : Header). WordsInRange h.next h.made h.used (add_object s x n)) (sym header-add) added)
    where
      added : WordsInRange (header s).next ((header s).made + 1) ((header s).used + n) (add_object s x n)
      added = unfold add_object in
          (words_put_object _ _ _ (put_header s (added_to (header s) n)) (sized-put_header s (added_to (header s) n) z)
          (words_put_header _ _ _ s z k (added_to (header s) n) (added_fits s n l r)) ((header s).made + 1) (header s).made x l f (λ p m ne. omega arith))

-- the places of the items
items_words : (os : List ℕ) (s : Store) (p next made : ℕ) → Sized s → p + length os ≤ place_limit → AllBelow object_limit os → WordsInRange next made p s
    → WordsInRange next made (p + length os) (put_items s p os)
unfolding put_items AllBelow
items_words [] s p next made z r a k = rw add-zero k
items_words (o ∷ os) s p next made z r a k =
    let e : p + 1 + length os ≡ p + suc (length os) = omega arith in
    subst (λ (n : ℕ). WordsInRange next made n (put_items (put_place s p (blank o)) (p + 1) os)) e
    (items_words os (put_place s p (blank o)) (p + 1) next made (sized-put_place s p (blank o) z) (omega arith) a.1
    (words_put_place next made p s z k (p + 1) p (blank o) (omega arith) (record { item_fits = a.0; result_fits = tt }) (λ q m ne. omega arith)))

all_below_more : (m n : ℕ) (os : List ℕ) → m ≤ n → AllBelow m os → AllBelow n os
unfolding AllBelow
all_below_more m n [] l a = tt
all_below_more m n (o ∷ os) l a = (omega (arith, a.0), all_below_more m n os l a.1)

-- ---- each event that makes

sound-from : (u : Store) → T (words_in_range u) → SoundFacts (view u) → T (sound u)
unfolding sound
sound-from u w f = both _ _ w (to_test (view u) f)

pub sound_facts : (s : Store) → T (sound s) → SoundFacts (view s)
unfolding sound view
sound_facts s h = to_facts (view s) (header-fits s) (both_right (words_in_range s) _ h)

module _ (s : Store) (z : Sized s) (h : T (sound s)) where
  facts : SoundFacts (view s)
  facts = sound_facts s h

  words : WordsInRange (header s).next (header s).made (header s).used s
  unfolding sound
  words = words_facts s (both_left _ _ h)

  words-none : WordsInRange (header s).next (header s).made ((header s).used + 0) s
  words-none = let e : (header s).used ≡ (header s).used + 0 = omega arith in subst (λ (u : ℕ). WordsInRange (header s).next (header s).made u s) e words

  no_room : (header s).used + 0 ≤ place_limit
  no_room = omega (arith, (header-fits s).used_fits)

  call-words : (header s).calls < call_limit → T (words_in_range (next_calls s z))
  unfolding next_calls set_calls
  call-words k =
      let f : HeaderFits (header s) = header-fits s in
      words_test (next_calls s z) (subst (λ (y : Header). WordsInRange y.next y.made y.used (next_calls s z)) (sym (next-header s z k))
      (words_put_header _ _ _ s z words _ (record {
        made_fits = f.made_fits;
        used_fits = f.used_fits;
        calls_fit = omega arith;
        next_fits = f.next_fits;
        moment_fits = f.moment_fits;
      })))

  call-sound : (header s).calls < call_limit → T (sound (set_calls s ((header s).calls + 1)))
  unfolding next_calls
  call-sound k = sound-from (set_calls s ((header s).calls + 1)) (call-words k) (call_keeps s z facts k)

  module _ (l : (header s).made < object_limit) where
    coroutine-sound : (f : ℕ) → f < u32_limit → T (sound (make_coroutine s f))
    coroutine-sound f k =
        sound-from (make_coroutine s f) (unfold make_coroutine in add_words s _ 0 z l no_room k words-none) (coroutine_keeps s z facts l f k)

    pending-sound : (c : ℕ) → c < (header s).calls → (r : OptionValue) → T (option_known (header s).made (object s) r)
        → ((p : ℕ) → p < (header s).made → (b : PendingExternal) → as_pending (object s p) ≡ some b → c ≡ b.call.0 → ⊥) → T (sound (make_pending s c r))
    pending-sound c k r t new =
        sound-from (make_pending s c r) (unfold make_pending in
        add_words s _ 0 z l no_room (omega (arith, (header-fits s).calls_fit), (tt, option_fits _ (object s) r (omega arith) t)) words-none)
        (pending_keeps s z facts l c k r t new)

    settled-sound : (header s).calls < call_limit → (v : Value) → T (value_known (header s).made (object s) v) → T (sound (make_settled s v))
    settled-sound k v t = sound-from (make_settled s v) settled-words (settled_keeps s z facts l k v t)
      where
        u : Store
        u = next_calls s z

        e : header u ≡ called_at (header s) ((header s).calls + 1) (header s).moment
        e = next-header s z k

        words_right : WordsInRange (header u).next (header u).made ((header u).used + 0) u
        words_right =
            let q : (header u).used ≡ (header u).used + 0 = omega arith in
            subst (λ (n : ℕ). WordsInRange (header u).next (header u).made n u) q (words_facts u (call-words k))

        settled-words : T (words_in_range (make_settled s v))
        settled-words = unfold make_settled next_calls in
            (add_words u _ 0 (next-sized s z) (subst (λ (y : Header). y.made < object_limit) (sym e) l) (omega (arith, (header-fits u).used_fits))
            (omega arith, value-fits _ (object s) v (omega arith) t) words_right)

    gather-sound : (os : List ℕ) → length os ≤ item_limit → (header s).used + length os ≤ place_limit → AllBelow (header s).made os → T (sound (make_gather s os))
    gather-sound os few r low = sound-from (make_gather s os) gather_words (gather_keeps s os z facts l few r low)
      where
        u : Store
        u = put_items s (header s).used os

        e : header u ≡ header s
        e = unfold view with_places in (ap (λ (v : View). v.header) (items-view os s (header s).used))

        words_right : WordsInRange (header s).next (header s).made ((header s).used + length os) u
        words_right = items_words os s (header s).used (header s).next (header s).made z r (all_below_more _ object_limit os (omega arith) low) words

        gather_words : T (words_in_range (make_gather s os))
        gather_words = unfold make_gather in
            (add_words u _ (length os) (items-sized os s (header s).used z) (subst (λ (y : Header). y.made < object_limit) (sym e) l)
            (subst (λ (y : Header). y.used + length os ≤ place_limit) (sym e) r) (record { within = r; at_most = few }, tt)
            (subst (λ (y : Header). WordsInRange y.next y.made (y.used + length os) u) (sym e) words_right))

-- what has happened meets no check
pub refusals-forget : (s : Store) (e : Event) → refusals (forget s) e ≡ refusals s e
unfolding refusals in_running in_waiting in_both unmade full no_number result_unknown live pending_external pending_external_in task object header forget
refusals-forget s (Event.coroutine f) = refl
refusals-forget s Event.call = refl
refusals-forget s (Event.pending c r) = refl
refusals-forget s (Event.settled v) = refl
refusals-forget s (Event.gather os) = refl
refusals-forget s (Event.await o) = refl
refusals-forget s (Event.complete v) = refl
refusals-forget s (Event.fail n) = refl
refusals-forget s (Event.results rs) = refl
refusals-forget s Event.resume = refl
refusals-forget s (Event.cancel t) = refl
refusals-forget s (Event.show o) = refl
refusals-forget s Event.eager = refl

pub sound-forget : (s : Store) → sound (forget s) ≡ sound s
unfolding sound words_in_range view task object place header forget
sound-forget s = refl

pub refusal-forget : (s : Store) (e : Event) → refusal (forget s) e ≡ refusal s e
unfolding refusal
refusal-forget s e = rw (refusals-forget s e, sound-forget s)

-- An event sees nothing of the log.
pub step-forget : (s : Store) (e : Event) → step (forget s) e ≡ step s e
unfolding step forget
step-forget s e = ap (λ (n : ℕ). decide n (forget s) e) (refusal-forget s e)

-- ---- what leaves the store as it was leaves it sound

pub refused-sound : (s : Store) (e : Event) (n : ℕ) → refusal s e ≡ n → (n ≡ 0 → ⊥) → sound (step s e).store ≡ sound s
refused-sound s e n h ne = rw (refused-step s e n h ne) (sound-forget s)

pub show-sound : (s : Store) (o : ℕ) → sound (step s (Event.show o)).store ≡ sound s
show-sound s o = rw (show-step s o) (sound-forget s)

pub eager-sound : (s : Store) → sound (step s Event.eager).store ≡ sound s
eager-sound s = rw (eager-step s) (sound-forget s)

-- ---- what the table of refusals lets through

-- the first check is not met, nor are the others
pub pass : (n : ℕ) (b : Bool) (rs : List (ℕ × Bool)) → first_refusal ((suc n, b) ∷ rs) ≡ 0 → (b ≡ false) × (first_refusal rs ≡ 0)
unfolding first_refusal
pass n true rs e = absurd (not-suc-le-zero {n = 0} (omega arith))
pass n false rs e = (refl, e)

pub refusal-sound : (s : Store) (e : Event) → refusal s e ≡ 0 → T (sound s)
unfolding refusal
refusal-sound s e h = not-not (sound s) (pass 1 (not (sound s)) (refusals s e) h).0

pub refusal-rest : (s : Store) (e : Event) → refusal s e ≡ 0 → first_refusal (refusals s e) ≡ 0
unfolding refusal
refusal-rest s e h = (pass 1 (not (sound s)) (refusals s e) h).1

pub running-rest : (s : Store) (rs : List (ℕ × Bool)) → first_refusal (in_running s rs) ≡ 0 → first_refusal rs ≡ 0
unfolding in_running
running-rest s rs h = (pass 3 (not (is_run (header s).moment)) rs (pass 2 (is_ended (header s).moment) _ h).1).1

pub not_full : (s : Store) → full s ≡ false → (header s).made < object_limit
unfolding full
not_full s e = leb-false 256 (header s).made e

pub has_number : (s : Store) → no_number s ≡ false → (header s).calls < call_limit
unfolding no_number
has_number s e = leb-false call_limit (header s).calls e

all_made : (s : Store) (os : List ℕ) → any_of (unmade s) os ≡ false → AllBelow (header s).made os
unfolding any_of unmade AllBelow
all_made s [] e = tt
all_made s (o ∷ os) e = (leb-false (header s).made o (or_left (leb (header s).made o) _ e), all_made s os (or_right (leb (header s).made o) (any_of (unmade s) os) e))

none_found : (p : ℕ → Bool) (k i : ℕ) → is_some (first_from p i k) ≡ false → (j : ℕ) → i ≤ j → j < i + k → p j ≡ false
unfolding first_from is_some
none_found p zero i e j l m = absurd (not-suc-le-zero {n = 0} (omega arith))
none_found p (suc k) i e j l m = by (p i) refl e (λ q. none_found p k (i + 1) q j)
  where
    by : (b : Bool) → p i ≡ b → is_some (pick b (some i) (first_from p (i + 1) k)) ≡ false
        → (is_some (first_from p (i + 1) k) ≡ false → i + 1 ≤ j → j < i + 1 + k → p j ≡ false) → p j ≡ false
    by true q e f = absurd (true≢false e)
    by false q e f = at (ℕ_discrete j i)
      where
        at : Dec (j ≡ i) → p j ≡ false
        at (yes d) = ap p d ∙ q
        at (no d) = f e (omega arith) (omega arith)

absurd_pending : {A : Type 0} {b : PendingExternal} → ◌≡◌ {A = Option PendingExternal} none (some b) → A
absurd_pending e = let z : ◌≡◌ {A = ℕ} 0 1 = cc in absurd (omega arith)

-- a pending external, by its kind and its call
pending_parts : (x : Object) (b : PendingExternal) → as_pending x ≡ some b → (is_pending_external (kind x) ≡ true) × ((call_of x).0 ≡ b.call.0)
unfolding as_pending kind call_of
pending_parts Object.Unmade b e = absurd_pending e
pending_parts (Object.Coroutine f x) b e = absurd_pending e
pending_parts (Object.ExternalFuture c (ExternalFutureState.Pending a r)) b e =
    (refl, ap (λ (p : PendingExternal). p.call.0) (some-injective (record { call = c; awaiter = a; stored = r }) b e))
pending_parts (Object.ExternalFuture c (ExternalFutureState.Resolved v)) b e = absurd_pending e
pending_parts (Object.ExternalFuture c (ExternalFutureState.Failed x)) b e = absurd_pending e
pending_parts (Object.GatherFuture i n x) b e = absurd_pending e

-- no pending external has the call
not-pending : (s : Store) (c : ℕ) → is_some (pending_external s c) ≡ false → (p : ℕ) → p < (header s).made → (b : PendingExternal)
    → as_pending (object s p) ≡ some b → c ≡ b.call.0 → ⊥
unfolding pending_external pending_external_in is_call object header
not-pending s c e p l b f q =
    let k = pending_parts (object_at s.objects p) b f in
    let h : is_call s.objects c p ≡ false = none_found (is_call s.objects c) (header_at s.objects).made 0 e p (omega arith) (omega arith) in
    let g : eqb (call_of (object_at s.objects p)).0 c ≡ false = rw k.0 at h in
    eqb-false (call_of (object_at s.objects p)).0 c g (k.1 ∙ sym q)

-- ---- the theorem

accepted-sound : (s : Store) (e : Event) → Sized s → Making e → refusal s e ≡ 0 → T (sound (accept s e).store)
unfolding Making accept refusals
accepted-sound s (Event.coroutine f) z m h =
    let c = running-rest s _ (refusal-rest s (Event.coroutine f) h) in
    coroutine-sound s z (refusal-sound s (Event.coroutine f) h) (not_full s (pass 6 (full s) [] c).0) f m
accepted-sound s Event.call z m h =
    let c = running-rest s _ (refusal-rest s Event.call h) in
    call-sound s z (refusal-sound s Event.call h) (has_number s (pass 7 (no_number s) [] c).0)
accepted-sound s (Event.pending n r) z m h =
    let known : Bool = option_known (header s).made (object s) r in
    let c = pass 4 (leb (header s).calls n || not known) _ (running-rest s _ (refusal-rest s (Event.pending n r) h)) in
    let d = pass 5 (is_some (pending_external s n)) _ c.1 in
    pending-sound s z (refusal-sound s (Event.pending n r) h) (not_full s (pass 6 (full s) [] d.1).0)
    n (leb-false (header s).calls n (or_left (leb (header s).calls n) (not known) c.0)) r
    (not-not known (or_right (leb (header s).calls n) (not known) c.0)) (not-pending s n d.0)
accepted-sound s (Event.settled v) z m h =
    let known : Bool = value_known (header s).made (object s) v in
    let c = pass 4 (not known) _ (running-rest s _ (refusal-rest s (Event.settled v) h)) in
    let d = pass 6 (full s) _ c.1 in
    settled-sound s z (refusal-sound s (Event.settled v) h) (not_full s d.0) (has_number s (pass 7 (no_number s) [] d.1).0) v (not-not known c.0)
accepted-sound s (Event.gather os) z m h =
    let c = pass 4 (any_of (unmade s) os) _ (running-rest s _ (refusal-rest s (Event.gather os) h)) in
    let many : Bool = ltb 32 (length os) in
    let over : Bool = ltb 512 ((header s).used + length os) in
    let d = (pass 6 (full s || many || over) [] c.1).0 in
    gather-sound s z (refusal-sound s (Event.gather os) h) (not_full s (or_left (full s) many (or_left (full s || many) over d)))
    os (ltb-false 32 (length os) (or_right (full s) many (or_left (full s || many) over d)))
    (ltb-false 512 ((header s).used + length os) (or_right (full s || many) over d)) (all_made s os c.0)
accepted-sound s (Event.await o) z m h = absurd m
accepted-sound s (Event.complete v) z m h = absurd m
accepted-sound s (Event.fail n) z m h = absurd m
accepted-sound s (Event.results rs) z m h = absurd m
accepted-sound s Event.resume z m h = absurd m
accepted-sound s (Event.cancel t) z m h = absurd m
accepted-sound s (Event.show o) z m h = absurd m
accepted-sound s Event.eager z m h = absurd m

-- An event that makes and that no refusal meets leaves a sound store sound.
pub making-sound : (s : Store) (e : Event) → Sized s → Making e → refusal s e ≡ 0 → sound (step s e).store ≡ true
making-sound s e z m h =
    rw (accepted-step s e h) (is_true _ (accepted-sound (forget s) e (sized-forget s z) m (refusal-forget s e ∙ h)))
