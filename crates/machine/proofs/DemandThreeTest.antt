-- Demand 3 as a test that computes: `demand3_tested` says that a session of which the claim holds passes it. A session that does not pass refutes the claim:
-- so an edit of the machine that makes one of the sessions of DemandThreeCases fail is refused because demand 3 is false of that machine.
use Rattle.std.specs.Prelude.{ℕ, zero, suc, ◌≡◌, refl, Bool, true, false, not, ◌&&◌, ◌||◌, List, [], ◌∷◌, map, eqb}
use Rattle.std.proofs.Common.{sym, ap, ◌∙◌, subst, eqb-true, eq-eqb}
use Rattle.std.proofs.Math.Option.{Option, none, some}
use Rattle.asyncio.specs.declared.Value.{Value}
use Rattle.queue.specs.Queue.{entries, occurrences, Distinct}
use Rattle.machine.specs.Tests.{is_in}
use Rattle.machine.specs.Store.{Store}
use Rattle.machine.specs.Events.{Control, runs, waits}
use Rattle.machine.specs.Machine.{Event, Answer, Shown, step}
use Rattle.machine.specs.History.{Entry, tells, lives, stays_blocked, unanswered, items, cancelled}
use Rattle.machine.specs.Sessions.{Sent, Session, session, AllSentInRange}
use Rattle.machine.specs.DemandThree.{read, delivered, none_open, QueueRight, PlacesRight, WaitRight, ControlRight, WaitsRight, goes_on, Demand3, DemandThree}

-- the same bit
unfoldable pub same_bit : Bool → Bool → Bool
same_bit true b = b
same_bit false b = not b

-- the same value
unfoldable pub same_value : Value → Value → Bool
same_value (Value.Plain m) (Value.Plain n) = eqb m n
same_value (Value.Plain m) (Value.List g) = false
same_value (Value.List g) (Value.Plain n) = false
same_value (Value.List g) (Value.List h) = eqb g.0 h.0

-- the same place
unfoldable pub same_place : Option Value → Option Value → Bool
same_place none none = true
same_place none (some v) = false
same_place (some v) none = false
same_place (some v) (some w) = same_value v w

-- the same places
unfoldable pub same_places : List (Option Value) → List (Option Value) → Bool
same_places [] [] = true
same_places [] (w ∷ ws) = false
same_places (v ∷ vs) [] = false
same_places (v ∷ vs) (w ∷ ws) = same_place v w && same_places vs ws

-- (i) each entry of the queue lives and is not blocked, and stands there once
unfoldable pub queue_test : List Entry → List ℕ → Bool
queue_test h [] = true
queue_test h (t ∷ ts) = lives h t && not (stays_blocked h t) && eqb (occurrences ts t) 0 && queue_test h ts

-- (ii) the places that are shown are what the items delivered
unfoldable pub shown_test : List (Option Value) → Shown → Bool
shown_test ds (Shown.a_coroutine x f) = true
shown_test ds Shown.an_external_pending = true
shown_test ds (Shown.an_external_resolved v) = true
shown_test ds (Shown.an_external_failed e) = true
shown_test ds Shown.a_gather_pending = true
shown_test ds (Shown.a_gather_awaited vs) = same_places vs ds && not (none_open vs)
shown_test ds (Shown.a_gather_completed vs) = same_places vs ds && none_open vs
shown_test ds (Shown.a_gather_failed e) = true
shown_test ds Shown.nothing = true

unfoldable pub answer_test : List (Option Value) → Answer → Bool
answer_test ds (Answer.made o) = true
answer_test ds (Answer.called n) = true
answer_test ds (Answer.control c) = true
answer_test ds (Answer.awaited c n) = true
answer_test ds Answer.done = true
answer_test ds (Answer.cancelled n) = true
answer_test ds Answer.stalled = true
answer_test ds (Answer.finished v) = true
answer_test ds (Answer.finished_error e) = true
answer_test ds (Answer.shows x) = shown_test ds x
answer_test ds (Answer.is_eager b) = true
answer_test ds (Answer.refused n) = not (eqb n 2)

-- of the objects below n
unfoldable pub places_test : ℕ → List Entry → Store → Bool
places_test zero h s = true
places_test (suc g) h s = answer_test (map (delivered h s) (items h g)) (read s g) && places_test g h s

-- (iii) a wait names the unanswered calls below n, and no others
unfoldable pub calls_test : ℕ → List Entry → List ℕ → Bool
calls_test zero h cs = true
calls_test (suc c) h cs = same_bit (is_in c cs) (unanswered h c) && calls_test c h cs

unfoldable pub control_test : ℕ → List Entry → Option Control → Bool
control_test n h none = true
control_test n h (some (runs t x)) = true
control_test n h (some (waits cs)) = calls_test n h cs

unfoldable pub waits_test : ℕ → List Entry → Bool
waits_test n [] = true
waits_test n (x ∷ h) = control_test n (x ∷ h) (tells x.answer).control && waits_test n h

-- (i) to (iv), of the objects and calls below n
unfoldable pub demand3_test : ℕ → Session → Bool
demand3_test n x =
    queue_test x.history (entries x.store.queue) && places_test n x.history x.store && waits_test n x.history
    && (cancelled x.history || goes_on x.history)

-- ---- a session of which the claim holds passes

pub and_both : (a b : Bool) → a ≡ true → b ≡ true → (a && b) ≡ true
and_both true b e f = f
and_both false b e f = e

or_left : (a b : Bool) → a ≡ true → (a || b) ≡ true
or_left true b e = refl
or_left false b e = absurd-bool e
  where
    absurd-bool : false ≡ true → (false || b) ≡ true
    absurd-bool q = ap (λ (c : Bool). c || b) q

or_right : (a b : Bool) → b ≡ true → (a || b) ≡ true
or_right true b e = refl
or_right false b e = e

pub bits_same : (a b : Bool) → a ≡ b → same_bit a b ≡ true
unfolding same_bit
bits_same true b e = sym e
bits_same false b e = ap not (sym e)

value_same : (v : Value) → same_value v v ≡ true
unfolding same_value
value_same (Value.Plain n) = eq-eqb n n refl
value_same (Value.List g) = eq-eqb g.0 g.0 refl

places_same : (vs : List (Option Value)) → same_places vs vs ≡ true
unfolding same_places same_place
places_same [] = refl
places_same (none ∷ vs) = places_same vs
places_same (some v ∷ vs) = and_both (same_value v v) (same_places vs vs) (value_same v) (places_same vs)

head_in : (t : ℕ) (ts : List ℕ) → is_in t (t ∷ ts) ≡ true
unfolding is_in
head_in t ts = or_left (eqb t t) (is_in t ts) (eq-eqb t t refl)

tail_in : (u t : ℕ) (ts : List ℕ) → is_in u ts ≡ true → is_in u (t ∷ ts) ≡ true
unfolding is_in
tail_in u t ts e = or_right (eqb t u) (is_in u ts) e

queue_tested : (h : List Entry) (q : List ℕ) → QueueRight h q → queue_test h q ≡ true
unfolding queue_test Distinct
queue_tested h [] k = refl
queue_tested h (t ∷ ts) k =
    and_both _ _ (and_both _ _ (and_both _ _ (k.live t (head_in t ts)) (ap not (k.unblocked t (head_in t ts)))) (eq-eqb (occurrences ts t) 0 k.distinct.0))
    (queue_tested h ts (record { distinct = k.distinct.1; live = λ u e. k.live u (tail_in u t ts e); unblocked = λ u e. k.unblocked u (tail_in u t ts e) }))

answer_tested : (h : List Entry) (s : Store) (g : ℕ) (a : Answer) → read s g ≡ a → PlacesRight h s g → ((step s (Event.show g)).answer ≡ Answer.refused 2 → ⊥) → answer_test (map (delivered h s) (items h g)) a ≡ true
unfolding answer_test shown_test read
answer_tested h s g (Answer.made o) e k n2 = refl
answer_tested h s g (Answer.called n) e k n2 = refl
answer_tested h s g (Answer.control c) e k n2 = refl
answer_tested h s g (Answer.awaited c n) e k n2 = refl
answer_tested h s g Answer.done e k n2 = refl
answer_tested h s g (Answer.cancelled n) e k n2 = refl
answer_tested h s g Answer.stalled e k n2 = refl
answer_tested h s g (Answer.finished v) e k n2 = refl
answer_tested h s g (Answer.finished_error x) e k n2 = refl
answer_tested h s g (Answer.shows (Shown.a_coroutine x f)) e k n2 = refl
answer_tested h s g (Answer.shows Shown.an_external_pending) e k n2 = refl
answer_tested h s g (Answer.shows (Shown.an_external_resolved v)) e k n2 = refl
answer_tested h s g (Answer.shows (Shown.an_external_failed x)) e k n2 = refl
answer_tested h s g (Answer.shows Shown.a_gather_pending) e k n2 = refl
answer_tested h s g (Answer.shows (Shown.a_gather_awaited vs)) e k n2 =
    let y = k.awaited vs e in
    and_both _ _ (subst (λ (ds : List (Option Value)). same_places vs ds ≡ true) y.0 (places_same vs)) (ap not y.1)
answer_tested h s g (Answer.shows (Shown.a_gather_completed vs)) e k n2 =
    let y = k.completed vs e in
    and_both _ _ (subst (λ (ds : List (Option Value)). same_places vs ds ≡ true) y.0 (places_same vs)) y.1
answer_tested h s g (Answer.shows (Shown.a_gather_failed x)) e k n2 = refl
answer_tested h s g (Answer.shows Shown.nothing) e k n2 = refl
answer_tested h s g (Answer.is_eager b) e k n2 = refl
answer_tested h s g (Answer.refused n) e k n2 = by (eqb n 2) refl
  where
    by : (b : Bool) → eqb n 2 ≡ b → not b ≡ true
    by true q = absurd (n2 (e ∙ ap (λ (m : ℕ). Answer.refused m) (eqb-true n 2 q)))
    by false q = refl

places_tested : (n : ℕ) (h : List Entry) (s : Store) → ((e : Event) → (step s e).answer ≡ Answer.refused 2 → ⊥) → ((g : ℕ) → PlacesRight h s g) → places_test n h s ≡ true
unfolding places_test
places_tested zero h s u k = refl
places_tested (suc g) h s u k = and_both _ _ (answer_tested h s g (read s g) refl (k g) (u (Event.show g))) (places_tested g h s u k)

calls_tested : (n : ℕ) (h : List Entry) (cs : List ℕ) → WaitRight h cs → calls_test n h cs ≡ true
unfolding calls_test
calls_tested zero h cs k = refl
calls_tested (suc c) h cs k = and_both _ _ (bits_same _ _ (k.exact c)) (calls_tested c h cs k)

control_tested : (n : ℕ) (h : List Entry) (c : Option Control) → ControlRight h c → control_test n h c ≡ true
unfolding control_test ControlRight
control_tested n h none k = refl
control_tested n h (some (runs t x)) k = refl
control_tested n h (some (waits cs)) k = calls_tested n h cs k

waits_tested : (n : ℕ) (h : List Entry) → WaitsRight h → waits_test n h ≡ true
unfolding waits_test WaitsRight
waits_tested n [] k = refl
waits_tested n (x ∷ h) k = and_both _ _ (control_tested n (x ∷ h) (tells x.answer).control k.0) (waits_tested n h k.1)

goes_tested : (c g : Bool) → (c ≡ false → g ≡ true) → (c || g) ≡ true
goes_tested true g k = refl
goes_tested false g k = k refl

-- The claim gives the test.
pub demand3_tested : (n : ℕ) (x : Session) → Demand3 x.history x.store → demand3_test n x ≡ true
unfolding demand3_test
demand3_tested n x k =
    and_both _ _
    (and_both _ _ (and_both _ _ (queue_tested x.history (entries x.store.queue) k.queue) (places_tested n x.history x.store k.sound k.places))
    (waits_tested n x.history k.waits_right))
    (goes_tested (cancelled x.history) (goes_on x.history) k.no_stall)
