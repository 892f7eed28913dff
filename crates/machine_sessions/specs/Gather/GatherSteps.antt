-- Demand 2 over sessions, from what one event does to a gather (`GatherStep`): what show gives of a committed gather is the documentation's gather of the
-- arrivals so far, event by event; an accepted batch is taken result by result, and then as it was sent.
use Rattle.std.specs.Prelude.{ℕ, ◌<◌, ◌≤◌, ◌≡◌, Bool, ◌⊎◌, length, get_or}
use Rattle.std.proofs.Math.Path.{refl, ap}
use Rattle.std.proofs.Common.{sym, ap₂, subst, ◌∙◌, inl, inr}
use Rattle.std.proofs.Math.Bool.{true, false, true≢false}
use mathlib.Core.List.{List, [], ◌∷◌, ◌++◌, map, append_assoc, append-nil}
use Rattle.std.proofs.Math.Option.{Option, none, some}
use Rattle.asyncio.specs.declared.Value.{Value}
use Rattle.asyncio.specs.declared.Error.{Error}
use Rattle.machine.specs.Tests.{is_in}
use Rattle.machine.specs.Machine.{Shown}
use Rattle.machine.specs.Gather.{Outcome, returned, raised, Gathered, waiting, listed, propagated, outcome_of, first_raised, in_order, gather}
use Rattle.machine.specs.History.{said, value_of, error_of, items}
use Rattle.machine.specs.Sessions.{Sent, Session, begun, send, send_all, session, InRange, AllSentInRange}
use Rattle.machine.specs.Singles.{cut}
use Rattle.machine.specs.DemandThree.{look, none_open}
use Rattle.machine.specs.DemandTwo.{came, committed, values, seen, arrivals_of, is_late, in_turn, arrivals_by, arrivals_in, arrivals_along, arrivals_from, ReuseAt, Reused, GatherRight}
use Rattle.machine_sessions.specs.Gather.LogApart.{lent_entry}
use Rattle.machine_sessions.specs.Gather.Batches.{SingleFrom, cut_range, cut-single}
use Rattle.machine_sessions.specs.Gather.Arrivals.{in_cons, Came, Arrivals, AllReturned, none_raised, all-returned-++, or_then, outcome-++, new_of, outcome-new, new-returned, in_turn_all, All, all-++, Quiet, first_behind, first_stays, Turn, first_in_turn, all_own, raises_own, first_from-left, listed_all, waiting-one}

-- ---- what one event does to gather g

-- the places of a gather that is shown so are what its items have delivered
abbrev pub Delivered : Session → ℕ → List (Option Value) → Type 0
Delivered y g vs = vs ≡ map (λ o. value_of (came y o)) (items y.history g)

-- no item has raised
abbrev pub NoneRaised : Session → ℕ → Type 0
NoneRaised y g = (o : ℕ) → is_in o (items y.history g) ≡ true → error_of (came y o) ≡ none

-- why it fails: an item has come to its error; what other items have come to in the event is that error too, or is late where it is not
pub record FailsLater (x y : Session) (g : ℕ) (e : Error) : Type 0 where
  pub item : ℕ
  pub named : is_in item (items y.history g) ≡ true
  pub fresh : came x item ≡ none
  pub raises : came y item ≡ some (raised e)
  pub others : (o : ℕ) (z : Error) → is_in o (items y.history g) ≡ true → came x o ≡ none → came y o ≡ some (raised z) → (z ≡ e) ⊎ ((is_late (raised z) ≡ true) × (is_late (raised e) ≡ false))

-- at its commit: the first item from the left that has raised
pub record FailsAtCommit (y : Session) (g : ℕ) (e : Error) : Type 0 where
  pub at : ℕ
  pub within : at < length (items y.history g)
  pub raises : came y (get_or (items y.history g) at 0) ≡ some (raised e)
  pub left : (b : ℕ) → b < at → error_of (came y (get_or (items y.history g) b 0)) ≡ none

pub record GatherStep (x y : Session) (g : ℕ) : Type 0 where
  -- what has come of an object stays
  pub stays : (o : ℕ) (z : Outcome Value Error) → came x o ≡ some z → came y o ≡ some z
  -- of a gather that was committed: its items stay, it stays committed; settled ones stay
  pub items_stay : committed (look x.store g) ≡ true → items y.history g ≡ items x.history g
  pub stays_committed : committed (look x.store g) ≡ true → committed (look y.store g) ≡ true
  pub stays_failed : (e : Error) → look x.store g ≡ Shown.a_gather_failed e → look y.store g ≡ Shown.a_gather_failed e
  -- what is shown afterwards
  pub completed : (vs : List (Option Value)) → look y.store g ≡ Shown.a_gather_completed vs → Delivered y g vs × (none_open vs ≡ true)
  pub awaited : (vs : List (Option Value)) → look y.store g ≡ Shown.a_gather_awaited vs → Delivered y g vs × (none_open vs ≡ false) × NoneRaised y g
  -- why it fails
  pub fails_later : (e : Error) → committed (look x.store g) ≡ true → look y.store g ≡ Shown.a_gather_failed e → (look x.store g ≡ Shown.a_gather_failed e) ⊎ FailsLater x y g e
  pub fails_at_commit : (e : Error) → committed (look x.store g) ≡ false → look y.store g ≡ Shown.a_gather_failed e → ReuseAt y g e ⊎ FailsAtCommit y g e

-- ---- what holds after some events

-- the arrivals so far: nothing has raised, and they say what has come of the items
pub record Quietly (x : Session) (g : ℕ) (xs : Arrivals) : Type 0 where
  pub all_returned : AllReturned xs
  pub own : All (λ a. came x a.awaitable ≡ some a.outcome) xs
  pub known : (o : ℕ) → is_in o (items x.history g) ≡ true → outcome_of xs o ≡ came x o
  pub none_raised : NoneRaised x g

pub data SoFar (ps : List Sent) (x : Session) (g : ℕ) (xs : Arrivals) : Type 0 where
  uncommitted : committed (look x.store g) ≡ false → xs ≡ [] → SoFar ps x g xs
  is_awaited : (vs : List (Option Value)) → look x.store g ≡ Shown.a_gather_awaited vs → Delivered x g vs → none_open vs ≡ false → Quietly x g xs → SoFar ps x g xs
  is_completed : (vs : List (Option Value)) → look x.store g ≡ Shown.a_gather_completed vs → Delivered x g vs → none_open vs ≡ true → Quietly x g xs → SoFar ps x g xs
  is_failed : (e : Error) → look x.store g ≡ Shown.a_gather_failed e → (first_raised (items x.history g) [] xs ≡ some e) ⊎ Reused ps g e → SoFar ps x g xs

-- which of the three a committed gather is
pub data Which (l : Shown) : Type 0 where
  w_awaited : (vs : List (Option Value)) → l ≡ Shown.a_gather_awaited vs → Which l
  w_completed : (vs : List (Option Value)) → l ≡ Shown.a_gather_completed vs → Which l
  w_failed : (e : Error) → l ≡ Shown.a_gather_failed e → Which l

pub which : (l : Shown) → committed l ≡ true → Which l
unfolding committed
which (Shown.a_coroutine x f) e = absurd (true≢false (sym e))
which Shown.an_external_pending e = absurd (true≢false (sym e))
which (Shown.an_external_resolved v) e = absurd (true≢false (sym e))
which (Shown.an_external_failed z) e = absurd (true≢false (sym e))
which Shown.a_gather_pending e = absurd (true≢false (sym e))
which (Shown.a_gather_awaited vs) e = w_awaited vs refl
which (Shown.a_gather_completed vs) e = w_completed vs refl
which (Shown.a_gather_failed z) e = w_failed z refl
which Shown.nothing e = absurd (true≢false (sym e))

-- is it shown as anything but failed?
not-failed : Shown → Bool
not-failed (Shown.a_coroutine x f) = true
not-failed Shown.an_external_pending = true
not-failed (Shown.an_external_resolved v) = true
not-failed (Shown.an_external_failed e) = true
not-failed Shown.a_gather_pending = true
not-failed (Shown.a_gather_awaited vs) = true
not-failed (Shown.a_gather_completed vs) = true
not-failed (Shown.a_gather_failed e) = false
not-failed Shown.nothing = true

-- every value there, so nothing raised
split_open : (y : Came) (vs : List (Option Value)) → none_open (value_of y ∷ vs) ≡ true → (error_of y ≡ none) × (none_open vs ≡ true)
unfolding none_open value_of error_of
split_open none vs e = absurd (true≢false (sym e))
split_open (some (raised z)) vs e = absurd (true≢false (sym e))
split_open (some (returned v)) vs e = (refl, e)

values_quiet : (c : ℕ → Came) (os : List ℕ) → none_open (map (λ o. value_of (c o)) os) ≡ true → (o : ℕ) → is_in o os ≡ true → error_of (c o) ≡ none
unfolding is_in
values_quiet c [] e o i = absurd (true≢false (sym i))
values_quiet c (p ∷ os) e o i = by (in_cons o p os i) (λ j. values_quiet c os (split_open (c p) _ e).1 o j)
  where
    by : (p ≡ o) ⊎ (is_in o os ≡ true) → (is_in o os ≡ true → error_of (c o) ≡ none) → error_of (c o) ≡ none
    by (inl q) go = subst (λ (m : ℕ). error_of (c m) ≡ none) q (split_open (c p) _ e).0
    by (inr j) go = go j

-- ---- lists of events

pub send-all-++ : (x : Session) (es fs : List Sent) → send_all x (es ++ fs) ≡ send_all (send_all x es) fs
unfolding send_all
send-all-++ x [] fs = refl
send-all-++ x (e ∷ es) fs = send-all-++ (send x e) es fs

-- a gather that failed in its own commit, one event later
pub reused-later : (ps : List Sent) (s : Sent) (g : ℕ) (e : Error) → Reused ps g e → Reused (ps ++ (s ∷ [])) g e
reused-later ps s g e r =
    record {
      before = r.before;
      commit = r.commit;
      after = r.after ++ (s ∷ []);
      parts = ap (λ (zs : List Sent). zs ++ (s ∷ [])) r.parts ∙ append_assoc r.before (r.commit ∷ r.after) (s ∷ []);
      uncommitted = r.uncommitted;
      failed = r.failed;
      reuse = r.reuse;
    }

-- ---- one event

module _ (ps : List Sent) (s : Sent) (g : ℕ) where
  abbrev x : Session
  x = session ps

  abbrev y : Session
  y = send (session ps) s

  abbrev os : List ℕ
  os = items y.history g

  abbrev Next : Arrivals → Type 0
  Next xs = SoFar (ps ++ (s ∷ [])) y g (xs ++ arrivals_in x y g)

  module _ (k : GatherStep x y g) where
    -- the arrivals of one event, by whether the gather is committed before and after it
    at-step : (a b : Bool) → committed (look x.store g) ≡ a → committed (look y.store g) ≡ b → arrivals_in x y g ≡ arrivals_by a b x y os
    at-step a b p q = unfold arrivals_in in (ap₂ (λ (c d : Bool). arrivals_by c d x y os) p q)

    in_commit : committed (look x.store g) ≡ false → committed (look y.store g) ≡ true → arrivals_in x y g ≡ arrivals_of (λ o. none) (came y) os
    unfolding arrivals_by
    in_commit c d = at-step false true c d

    behind-commit : committed (look x.store g) ≡ true → committed (look y.store g) ≡ true → arrivals_in x y g ≡ in_turn (arrivals_of (came x) (came y) os)
    unfolding arrivals_by
    behind-commit c d = at-step true true c d

    before-commit : committed (look x.store g) ≡ false → committed (look y.store g) ≡ false → arrivals_in x y g ≡ []
    unfolding arrivals_by
    before-commit c d = at-step false false c d

    own-later : (xs : Arrivals) → All (λ a. came x a.awaitable ≡ some a.outcome) xs → All (λ a. came y a.awaitable ≡ some a.outcome) xs
    unfolding All
    own-later [] a = tt
    own-later (z ∷ xs) a = (k.stays z.awaitable z.outcome a.0, own-later xs a.1)

    own_new : (was : ℕ → Came) → All (λ a. came y a.awaitable ≡ some a.outcome) (arrivals_of was (came y) os)
    own_new was = all_own was (came y) (λ a. came y a.awaitable ≡ some a.outcome) os (λ o z i f q. q)

    -- ---- it is committed in this event

    new_items : NoneRaised y g → Quietly y g (arrivals_of (λ o. none) (came y) os)
    new_items n =
        record {
          all_returned = new-returned (λ o. none) (came y) os n;
          own = own_new (λ o. none);
          known = λ o i. outcome-new (λ o. none) (came y) o os i ∙ (unfold new_of in refl);
          none_raised = n;
        }

    committed-now : committed (look x.store g) ≡ false → (xs : Arrivals) → xs ≡ [] → committed (look y.store g) ≡ true → Next xs
    committed-now c xs e d =
        subst (λ (zs : Arrivals). SoFar (ps ++ (s ∷ [])) y g (zs ++ arrivals_in x y g)) (sym e)
        (subst (SoFar (ps ++ (s ∷ [])) y g) (sym (in_commit c d)) (by (which (look y.store g) d)))
      where
        by : Which (look y.store g) → SoFar (ps ++ (s ∷ [])) y g (arrivals_of (λ o. none) (came y) os)
        by (w_awaited vs q) = let w = k.awaited vs q in is_awaited vs q w.0 w.1 (new_items w.2)
        by (w_completed vs q) = let w = k.completed vs q in is_completed vs q w.0 w.1 (new_items (values_quiet (came y) os (subst (λ (us : List (Option Value)). none_open us ≡ true) w.0 w.1)))
        by (w_failed z q) = is_failed z q (why (k.fails_at_commit z c q))
          where
            why : ReuseAt y g z ⊎ FailsAtCommit y g z → (first_raised os [] (arrivals_of (λ o. none) (came y) os) ≡ some z) ⊎ Reused (ps ++ (s ∷ [])) g z
            why (inl r) = inr (record { before = ps; commit = s; after = []; parts = refl; uncommitted = c; failed = q; reuse = r })
            why (inr r) = inl (first_from-left (came y) os z os [] r.at (λ o i. i) nobody r.within r.raises r.left)
              where
                nobody : Quiet (came y) os []
                nobody = unfold Quiet is_in in (λ o i. absurd (true≢false (sym i)))

    -- ---- it was committed before, and nothing had raised

    module _ (c : committed (look x.store g) ≡ true) (xs : Arrivals) (was : Quietly x g xs) where
      abbrev new : Arrivals
      new = arrivals_of (came x) (came y) os

      same-items : os ≡ items x.history g
      same-items = k.items_stay c

      known-then : (o : ℕ) → is_in o os ≡ true → outcome_of xs o ≡ came x o
      known-then o i = was.known o (subst (λ (zs : List ℕ). is_in o zs ≡ true) same-items i)

      known-now : (o : ℕ) → is_in o os ≡ true → outcome_of (xs ++ new) o ≡ came y o
      known-now o i = outcome-++ xs new o ∙ (ap₂ or_then (known-then o i) (outcome-new (came x) (came y) o os i) ∙ by (came x o) refl)
        where
          by : (z : Came) → came x o ≡ z → or_then z (new_of z (came y o)) ≡ came y o
          by none q = unfold or_then new_of in refl
          by (some z) q = unfold or_then in (sym (k.stays o z q))

      quiet-now : NoneRaised y g → Quietly y g (xs ++ in_turn new)
      quiet-now n =
          let r : AllReturned new = new-returned (came x) (came y) os n in
          subst (λ (zs : Arrivals). Quietly y g (xs ++ zs)) (sym (in_turn_all new r))
          (record {
            all_returned = all-returned-++ xs new was.all_returned r;
            own = all-++ _ xs new (own-later xs was.own) (own_new (came x));
            known = known-now;
            none_raised = n;
          })

      nobody : Quiet (came y) os []
      nobody = unfold Quiet is_in in (λ o i. absurd (true≢false (sym i)))

      fails-now : (e : Error) → FailsLater x y g e → first_raised os [] (xs ++ in_turn new) ≡ some e
      fails-now e f =
          first_behind (came y) os e xs (in_turn new) [] was.all_returned nobody (own-later xs was.own)
          (λ sn q. first_in_turn (came y) os e new sn q
          (all_own (came x) (came y) (Turn (came y) os e) os (λ o z i a b. record { item = i; own = b; only = λ w d. f.others o w i a (b ∙ ap (λ (u : Outcome Value Error). some u) d) }))
          (raises_own (came x) (came y) e f.item os f.named f.fresh f.raises))

      go_on : ((e : Error) → look x.store g ≡ Shown.a_gather_failed e → ⊥) → Next xs
      go_on not-failed =
          let d : committed (look y.store g) ≡ true = k.stays_committed c in
          subst (λ (zs : Arrivals). SoFar (ps ++ (s ∷ [])) y g (xs ++ zs)) (sym (behind-commit c d)) (by (which (look y.store g) d))
        where
          by : Which (look y.store g) → SoFar (ps ++ (s ∷ [])) y g (xs ++ in_turn new)
          by (w_awaited vs q) = let w = k.awaited vs q in is_awaited vs q w.0 w.1 (quiet-now w.2)
          by (w_completed vs q) = let w = k.completed vs q in is_completed vs q w.0 w.1 (quiet-now (values_quiet (came y) os (subst (λ (us : List (Option Value)). none_open us ≡ true) w.0 w.1)))
          by (w_failed e q) = is_failed e q (inl (why (k.fails_later e c q)))
            where
              why : (look x.store g ≡ Shown.a_gather_failed e) ⊎ FailsLater x y g e → first_raised os [] (xs ++ in_turn new) ≡ some e
              why (inl w) = absurd (not-failed e w)
              why (inr w) = fails-now e w

    pub next_so_far : (xs : Arrivals) → SoFar ps x g xs → Next xs
    unfolding not-failed
    next_so_far xs (uncommitted c e) = by (committed (look y.store g)) refl
      where
        by : (b : Bool) → committed (look y.store g) ≡ b → Next xs
        by true d = committed-now c xs e d
        by false d = uncommitted d (ap₂ (λ (a b : Arrivals). a ++ b) e (before-commit c d))
    next_so_far xs (is_awaited vs q d o w) = go_on (ap committed q ∙ (unfold committed in refl)) xs w (λ e z. true≢false (ap not-failed (sym q ∙ z)))
    next_so_far xs (is_completed vs q d o w) = go_on (ap committed q ∙ (unfold committed in refl)) xs w (λ e z. true≢false (ap not-failed (sym q ∙ z)))
    next_so_far xs (is_failed e q w) = is_failed e (k.stays_failed e q) (by w)
      where
        c : committed (look x.store g) ≡ true
        c = ap committed q ∙ (unfold committed in refl)

        by : (first_raised (items x.history g) [] xs ≡ some e) ⊎ Reused ps g e → (first_raised os [] (xs ++ arrivals_in x y g) ≡ some e) ⊎ Reused (ps ++ (s ∷ [])) g e
        by (inl z) = inl (first_stays os e xs (arrivals_in x y g) [] (subst (λ (zs : List ℕ). first_raised zs [] xs ≡ some e) (sym (k.items_stay c)) z))
        by (inr z) = inr (reused-later ps s g e z)

-- ---- all events

pub in_range_append : (ps es : List Sent) → AllSentInRange ps → AllSentInRange es → AllSentInRange (ps ++ es)
unfolding AllSentInRange
in_range_append [] es a b = b
in_range_append (p ∷ ps) es a b = (a.0, in_range_append ps es a.1 b)

pub in_range_snoc : (ps : List Sent) (s : Sent) → AllSentInRange ps → InRange s.event → AllSentInRange (ps ++ (s ∷ []))
in_range_snoc ps s a b = in_range_append ps (s ∷ []) a (unfold AllSentInRange in (b, tt))

pub session_append : (ps es : List Sent) → session (ps ++ es) ≡ send_all (session ps) es
unfolding session
session_append ps es = send-all-++ begun ps es

pub session_snoc : (ps : List Sent) (s : Sent) → session (ps ++ (s ∷ [])) ≡ send (session ps) s
unfolding send_all
session_snoc ps s = session_append ps (s ∷ [])

module _ (g : ℕ) where
  at_end : (ps : List Sent) (x : Session) (xs : Arrivals) → SoFar ps x g xs → SoFar (ps ++ []) x g (xs ++ [])
  at_end ps x xs k = subst (λ (zs : List Sent). SoFar zs x g (xs ++ [])) (sym (append-nil ps)) (subst (SoFar ps x g) (sym (append-nil xs)) k)

  -- from behind event e on
  then-on : (ps : List Sent) (e : Sent) (es : List Sent) (x : Session) (xs new more : Arrivals) → SoFar ((ps ++ (e ∷ [])) ++ es) x g ((xs ++ new) ++ more) → SoFar (ps ++ (e ∷ es)) x g (xs ++ (new ++ more))
  then-on ps e es x xs new more k = subst (λ (zs : List Sent). SoFar zs x g (xs ++ (new ++ more))) (append_assoc ps (e ∷ []) es) (subst (SoFar ((ps ++ (e ∷ [])) ++ es) x g) (append_assoc xs new more) k)

-- what one event does that says one result at most; and what the pieces of an event leave, the event leaves
module _ (g : ℕ) (steps : (ps : List Sent) (s : Sent) → AllSentInRange ps → InRange s.event → length (said (lent_entry (session ps).store s)).results ≤ 1 → GatherStep (session ps) (send (session ps) s) g)
    (whole : (ps : List Sent) (e : Sent) → AllSentInRange ps → InRange e.event → (xs : Arrivals) → SoFar (ps ++ cut (session ps).store e) (send_all (session ps) (cut (session ps).store e)) g xs
    → SoFar (ps ++ (e ∷ [])) (send (session ps) e) g xs) where
  -- events that say one result at most
  run_along : (ps es : List Sent) (xs : Arrivals) → AllSentInRange ps → AllSentInRange es → SingleFrom (session ps) es → SoFar ps (session ps) g xs → SoFar (ps ++ es) (send_all (session ps) es) g (xs ++ arrivals_along (session ps) es g)
  unfolding AllSentInRange SingleFrom send_all arrivals_along
  run_along ps [] xs a b w k = at_end g ps (session ps) xs k
  run_along ps (e ∷ es) xs a b w k =
      let y : Session = send (session ps) e in
      let new : Arrivals = arrivals_in (session ps) y g in
      let p : session (ps ++ (e ∷ [])) ≡ y = session_snoc ps e in
      then-on g ps e es (send_all y es) xs new (arrivals_along y es g) (subst (λ (z : Session). SoFar ((ps ++ (e ∷ [])) ++ es) (send_all z es) g ((xs ++ new) ++ arrivals_along z es g)) p
      (run_along (ps ++ (e ∷ [])) es (xs ++ new) (in_range_snoc ps e a b.0) b.1 (subst (λ (z : Session). SingleFrom z es) (sym p) w.1)
      (subst (λ (z : Session). SoFar (ps ++ (e ∷ [])) z g (xs ++ new)) (sym p) (next_so_far ps e g (steps ps e a b.0 w.0) xs k))))

  -- any events
  run-so-far : (ps es : List Sent) (xs : Arrivals) → AllSentInRange ps → AllSentInRange es → SoFar ps (session ps) g xs → SoFar (ps ++ es) (send_all (session ps) es) g (xs ++ arrivals_from (session ps) es g)
  unfolding AllSentInRange send_all arrivals_from
  run-so-far ps [] xs a b k = at_end g ps (session ps) xs k
  run-so-far ps (e ∷ es) xs a b k =
      let x : Session = session ps in
      let new : Arrivals = arrivals_along x (cut x.store e) g in
      let p : session (ps ++ (e ∷ [])) ≡ send x e = session_snoc ps e in
      then-on g ps e es (send_all (send x e) es) xs new (arrivals_from (send x e) es g) (subst (λ (z : Session). SoFar ((ps ++ (e ∷ [])) ++ es) (send_all z es) g ((xs ++ new) ++ arrivals_from z es g)) p
      (run-so-far (ps ++ (e ∷ [])) es (xs ++ new) (in_range_snoc ps e a b.0) b.1
      (subst (λ (z : Session). SoFar (ps ++ (e ∷ [])) z g (xs ++ new)) (sym p)
      (whole ps e a b.0 (xs ++ new) (run_along ps (cut x.store e) xs a (cut_range x.store e b.0) (cut-single x e) k)))))

  abbrev Gathers : List Sent → Gathered Value Error → Type 0
  Gathers es z = z ≡ gather (items (session es).history g) (arrivals_from begun es g)

  seen-awaited : (vs : List (Option Value)) → seen (Shown.a_gather_awaited vs) ≡ waiting
  seen-awaited vs = unfold seen in refl

  seen-completed : (vs : List (Option Value)) → seen (Shown.a_gather_completed vs) ≡ listed (values vs)
  seen-completed vs = unfold seen in refl

  seen-failed : (e : Error) → seen (Shown.a_gather_failed e) ≡ propagated e
  seen-failed e = unfold seen in refl

  -- by what is raised first
  gathered : (ls : List ℕ) (xs : Arrivals) (z : Option Error) → first_raised ls [] xs ≡ z → gather ls xs ≡ elim z [ none ↦ in_order xs ls | some e ↦ propagated e ]
  gathered ls xs z q = unfold gather in (ap (λ (w : Option Error). elim w [ none ↦ in_order xs ls | some e ↦ propagated e ]) q)

  -- What show gives of the gather after the events.
  right_by : (es : List Sent) → SoFar es (session es) g (arrivals_from begun es g) → committed (look (session es).store g) ≡ true → GatherRight es g
  right_by es (uncommitted c e) d = absurd (true≢false (sym d ∙ c))
  right_by es (is_awaited vs q d o w) c =
      let r : Gathers es waiting = sym (gathered _ _ none (none_raised _ _ w.all_returned []) ∙ waiting-one _ (came (session es)) _ w.known w.none_raised (subst (λ (us : List (Option Value)). none_open us ≡ false) d o)) in
      inl (ap seen q ∙ (seen-awaited vs ∙ r))
  right_by es (is_completed vs q d o w) c =
      let r : Gathers es (listed (values (map (λ n. value_of (came (session es) n)) (items (session es).history g)))) =
      sym (gathered _ _ none (none_raised _ _ w.all_returned []) ∙ listed_all _ (came (session es)) _ w.known (subst (λ (us : List (Option Value)). none_open us ≡ true) d o)) in
      inl (ap seen q ∙ (seen-completed vs ∙ (ap (λ (us : List (Option Value)). listed (values us)) d ∙ r)))
  right_by es (is_failed e q (inl w)) c = inl (ap seen q ∙ (seen-failed e ∙ sym (gathered _ _ (some e) w)))
  right_by es (is_failed e q (inr w)) c = inr (e, q, w)

  pub gather-right : committed (look begun.store g) ≡ false → (es : List Sent) → AllSentInRange es → committed (look (session es).store g) ≡ true → GatherRight es g
  unfolding session send_all AllSentInRange
  gather-right u es a c = right_by es (run-so-far [] es [] tt a (uncommitted u refl)) c
