-- A committed gather after an accepted batch and after its results one by one: its items (`same-items`), and that it failed in its own commit before
-- (`cut-reused`). So what holds of it and its arrivals after the one holds after the other (`cut_so_far`).
use Rattle.std.specs.Prelude.{◌≡◌, ◌⊎◌, true, false, List, [], ◌∷◌, ◌++◌, map, ℕ, ◌+◌, ◌≤◌, ◌<◌, length}
use Rattle.std.proofs.Math.Path.{refl, sym, fun_ext}
use Rattle.std.proofs.Common.{ap, ap₂, subst, ◌∙◌, inl, inr, true≢false, not-suc-le-zero, arith}
use Rattle.std.proofs.Math.Option.{Option, none, some}
use Rattle.asyncio.specs.declared.Value.{Value}
use Rattle.asyncio.specs.declared.Error.{Error}
use Rattle.asyncio.specs.declared.ExternalFutureState.{ExternalFutureState}
use Rattle.asyncio.specs.declared.Object.{Object}
use Rattle.asyncio.specs.Parts.{first_of, count_of}
use Rattle.machine.specs.Store.{Store, object, place, header}
use Rattle.machine.specs.Events.{Result}
use Rattle.machine.specs.Machine.{Event, Shown, shown}
use Rattle.machine.specs.Gather.{Outcome, Arrival, first_raised}
use Rattle.machine.specs.Tests.{is_in}
use Rattle.machine.specs.History.{items, tells, value_of, error_of}
use Rattle.machine.specs.Sessions.{Sent, Session, InRange, AllSentInRange, lent_any, send, send_all, session}
use Rattle.machine.specs.Singles.{accepted_batch, each_alone, cut_by, cut}
use Rattle.machine.specs.DemandThree.{look}
use Rattle.machine.specs.DemandTwo.{came, committed, Reused}
use Rattle.machine_sessions.specs.Queue.Following.{session_follows}
use Rattle.machine_sessions.specs.Places.Told.{many, frozen}
use Rattle.machine_sessions.specs.Places.Agrees.{ItemsAt}
use Rattle.machine_sessions.specs.Places.AgreesSessions.{session_agrees}
use Rattle.machine_sessions.specs.Gather.FailingSessions.{look-row, gather-list}
use Rattle.machine_sessions.specs.Gather.Arrivals.{Arrivals, All}
use Rattle.machine_sessions.specs.Gather.GatherSteps.{Delivered, Quietly, SoFar, uncommitted, is_awaited, is_completed, is_failed, reused-later, in_range_append, session_append}
use Rattle.machine_sessions.specs.Gather.RowsOnly.{rows_of}
use Rattle.machine_sessions.specs.Gather.Batches.{batch, accepted_batch-is, alone_in_range}
use Rattle.machine_sessions.specs.Gather.CutOutcomes.{Alike, batch-alike, same-look, same-came}

-- ---- its items

-- the lists that stand in the same places are the same
same-list : (i : ℕ → ℕ) (f : ℕ) (os ps : List ℕ) → length os ≡ length ps → ItemsAt i f os → ItemsAt i f ps → os ≡ ps
unfolding ItemsAt
same-list i f [] [] l a b = refl
same-list i f [] (p ∷ ps) l a b = absurd (not-suc-le-zero {n = 0} (omega (arith, l)))
same-list i f (o ∷ os) [] l a b = absurd (not-suc-le-zero {n = 0} (omega (arith, l)))
same-list i f (o ∷ os) (p ∷ ps) l a b = rw (sym a.0 ∙ b.0, same-list i (f + 1) os ps (omega (arith, l)) a.1 b.1)

-- the items of a committed gather stand in its places
abbrev Listed : Store → ℕ → List ℕ → Type 0
Listed s g os = (count_of (object s g) ≡ length os) × ItemsAt (λ p. (place s p).item.0) (first_of (object s g)) os

committed-many : (s : Store) (x : Object) → committed (shown s x) ≡ true → frozen x ≡ many (first_of x) (count_of x)
unfolding committed shown frozen first_of count_of
committed-many s Object.Unmade c = absurd (true≢false (sym c))
committed-many s (Object.Coroutine f x) c = absurd (true≢false (sym c))
committed-many s (Object.ExternalFuture n (ExternalFutureState.Pending a r)) c = absurd (true≢false (sym c))
committed-many s (Object.ExternalFuture n (ExternalFutureState.Resolved v)) c = absurd (true≢false (sym c))
committed-many s (Object.ExternalFuture n (ExternalFutureState.Failed e)) c = absurd (true≢false (sym c))
committed-many s (Object.GatherFuture f n x) c = refl

items-listed : (es : List Sent) → AllSentInRange es → (g : ℕ) → committed (look (session es).store g) ≡ true → Listed (session es).store g (items (session es).history g)
items-listed es i g c = by (look-row s g (session_follows es i).whole)
  where
    s : Store
    s = (session es).store

    by : ((g < (header s).made) × (look s g ≡ shown s (object s g))) ⊎ (((header s).made ≤ g) × (look s g ≡ Shown.nothing)) → Listed s g (items (session es).history g)
    by (inl b) = gather-list (session es).history s (session_agrees es i) g (first_of (object s g)) (count_of (object s g)) b.0 (committed-many s (object s g) (ap committed (sym b.1) ∙ c))
    by (inr b) = absurd (true≢false (sym c ∙ (ap committed b.1 ∙ (unfold committed in refl))))

listed-rows : (s u : Store) (g : ℕ) (os : List ℕ) → rows_of s ≡ rows_of u → Listed s g os → Listed u g os
unfolding object place
listed-rows s u g os q k = subst (λ (z : Store). Listed z g os) q k

-- The items are the same.
pub same-items : (fs es : List Sent) (j : AllSentInRange fs) (i : AllSentInRange es) → Alike (session fs) (session es) → (g : ℕ) → committed (look (session es).store g) ≡ true
    → items (session fs).history g ≡ items (session es).history g
same-items fs es j i k g c =
    let a = listed-rows (session fs).store (session es).store g (items (session fs).history g) k.rows (items-listed fs j g (ap committed (same-look fs es j i k g) ∙ c)) in
    let b = items-listed es i g c in
    same-list (λ p. (place (session es).store p).item.0) (first_of (object (session es).store g)) (items (session fs).history g) (items (session es).history g) (sym a.0 ∙ b.0) a.1 b.1

-- ---- the events before a batch, and its results

head-same : (x y : Sent) (xs ys : List Sent) → x ∷ xs ≡ y ∷ ys → x ≡ y
head-same x y xs ys q = cc

tail_same : (x y : Sent) (xs ys : List Sent) → x ∷ xs ≡ y ∷ ys → xs ≡ ys
tail_same x y xs ys q = cc

nil_not : (bs : List Sent) (c : Sent) (after : List Sent) → [] ≡ bs ++ (c ∷ after) → ⊥
nil_not [] c after q = not-suc-le-zero {n = 0} (omega (arith, ap length q))
nil_not (b ∷ bs) c after q = not-suc-le-zero {n = 0} (omega (arith, ap length q))

-- in the first list, or behind it
append_split : (xs rest before after : List Sent) (c : Sent) → xs ++ rest ≡ before ++ (c ∷ after)
    → ((zs : List Sent) × (xs ≡ before ++ (c ∷ zs))) ⊎ ((bs : List Sent) × (before ≡ xs ++ bs) × (rest ≡ bs ++ (c ∷ after)))
append_split [] rest before after c q = inr (before, refl, q)
append_split (x ∷ xs) rest [] after c q = inl (xs, ap (λ (z : Sent). z ∷ xs) (head-same x c _ _ q))
append_split (x ∷ xs) rest (b ∷ bs) after c q = by (append_split xs rest bs after c (tail_same x b _ _ q))
  where
    same : x ≡ b
    same = head-same x b _ _ q

    by : ((zs : List Sent) × (xs ≡ bs ++ (c ∷ zs))) ⊎ ((ds : List Sent) × (bs ≡ xs ++ ds) × (rest ≡ ds ++ (c ∷ after)))
        → ((zs : List Sent) × (x ∷ xs ≡ (b ∷ bs) ++ (c ∷ zs))) ⊎ ((ds : List Sent) × (b ∷ bs ≡ (x ∷ xs) ++ ds) × (rest ≡ ds ++ (c ∷ after)))
    by (inl k) = inl (k.0, ap₂ (λ (z : Sent) (zs : List Sent). z ∷ zs) same k.1)
    by (inr k) = inr (k.0, ap₂ (λ (z : Sent) (zs : List Sent). z ∷ zs) (sym same) k.1, k.2)

-- a single result
abbrev IsSingle : Sent → Type 0
IsSingle c = (r : Result) × (l : List ℕ) × (c ≡ batch (r ∷ []) l)

alone-is : (rs : List Result) (l : List ℕ) (before : List Sent) (c : Sent) (zs : List Sent) → each_alone rs l ≡ before ++ (c ∷ zs) → IsSingle c
unfolding each_alone
alone-is [] l before c zs q = absurd (nil_not before c zs q)
alone-is (r ∷ rs) l [] c zs q = (r, l, sym (head-same _ c _ _ q))
alone-is (r ∷ rs) l (b ∷ bs) c zs q = alone-is rs l bs c zs (tail_same _ b _ _ q)

range_left : (es fs : List Sent) → AllSentInRange (es ++ fs) → AllSentInRange es
unfolding AllSentInRange
range_left [] fs i = tt
range_left (e ∷ es) fs i = (i.0, range_left es fs i.1)

-- ---- a gather that failed in its own commit

module _ (g : ℕ) (no_result : (ps : List Sent) (r : Result) (l : List ℕ) (e : Error) → AllSentInRange ps → committed (look (session ps).store g) ≡ false
    → look (send (session ps) (batch (r ∷ []) l)).store g ≡ Shown.a_gather_failed e → ⊥) where
  -- It failed so before the batch: no single result commits a gather.
  cut-reused : (ps : List Sent) (rs : List Result) (l : List ℕ) (e : Error) (s : Sent) → AllSentInRange ps → Reused (ps ++ each_alone rs l) g e → Reused (ps ++ (s ∷ [])) g e
  cut-reused ps rs l e s i r = by (append_split ps (each_alone rs l) r.before r.after r.commit r.parts)
    where
      by : ((zs : List Sent) × (ps ≡ r.before ++ (r.commit ∷ zs))) ⊎ ((bs : List Sent) × (r.before ≡ ps ++ bs) × (each_alone rs l ≡ bs ++ (r.commit ∷ r.after))) → Reused (ps ++ (s ∷ [])) g e
      by (inl k) = reused-later ps s g e (record { before = r.before; commit = r.commit; after = k.0; parts = k.1; uncommitted = r.uncommitted; failed = r.failed; reuse = r.reuse })
      by (inr k) =
          let one = alone-is rs l k.0 r.commit r.after k.2 in
          absurd (no_result r.before one.0 one.1 e (range_left r.before (r.commit ∷ r.after) (subst AllSentInRange r.parts (in_range_append ps (each_alone rs l) i (alone_in_range rs l)))) r.uncommitted
          (subst (λ (c : Sent). look (send (session r.before) c).store g ≡ Shown.a_gather_failed e) one.2 r.failed))

  -- ---- what holds of a gather and its arrivals

  module _ (fs es : List Sent) (j : AllSentInRange fs) (i : AllSentInRange es) (k : Alike (session fs) (session es)) where
    abbrev y : Session
    y = session fs

    abbrev x : Session
    x = session es

    came-is : came y ≡ came x
    came-is = fun_ext (same-came fs es j i k)

    alike-delivered : committed (look x.store g) ≡ true → (vs : List (Option Value)) → Delivered y g vs → Delivered x g vs
    alike-delivered c vs d = d ∙ ap₂ (λ (f : ℕ → Option (Outcome Value Error)) (os : List ℕ). map (λ o. value_of (f o)) os) came-is (same-items fs es j i k g c)

    alike-quietly : committed (look x.store g) ≡ true → (xs : Arrivals) → Quietly y g xs → Quietly x g xs
    alike-quietly c xs w =
        record {
          all_returned = w.all_returned;
          own = subst (λ (f : ℕ → Option (Outcome Value Error)). All (λ (a : Arrival Value Error). f a.awaitable ≡ some a.outcome) xs) came-is w.own;
          known = λ o n. w.known o (subst (λ (os : List ℕ). is_in o os ≡ true) (sym same) n) ∙ ap (λ (f : ℕ → Option (Outcome Value Error)). f o) came-is;
          none_raised = λ o n. ap (λ (f : ℕ → Option (Outcome Value Error)). error_of (f o)) (sym came-is) ∙ w.none_raised o (subst (λ (os : List ℕ). is_in o os ≡ true) (sym same) n);
        }
      where
        same : items y.history g ≡ items x.history g
        same = same-items fs es j i k g c

    alike-so-far : (xs : Arrivals) → ((e : Error) → Reused fs g e → Reused es g e) → SoFar fs y g xs → SoFar es x g xs
    unfolding committed
    alike-so-far xs r (uncommitted c e) = uncommitted (ap committed (sym (same-look fs es j i k g)) ∙ c) e
    alike-so-far xs r (is_awaited vs q d o w) =
        let p : look x.store g ≡ Shown.a_gather_awaited vs = sym (same-look fs es j i k g) ∙ q in is_awaited vs p (alike-delivered (ap committed p) vs d) o (alike-quietly (ap committed p) xs w)
    alike-so-far xs r (is_completed vs q d o w) =
        let p : look x.store g ≡ Shown.a_gather_completed vs = sym (same-look fs es j i k g) ∙ q in is_completed vs p (alike-delivered (ap committed p) vs d) o (alike-quietly (ap committed p) xs w)
    alike-so-far xs r (is_failed e q w) = is_failed e p (by w)
      where
        p : look x.store g ≡ Shown.a_gather_failed e
        p = sym (same-look fs es j i k g) ∙ q

        by : (first_raised (items y.history g) [] xs ≡ some e) ⊎ Reused fs g e → (first_raised (items x.history g) [] xs ≡ some e) ⊎ Reused es g e
        by (inl z) = inl (subst (λ (os : List ℕ). first_raised os [] xs ≡ some e) (same-items fs es j i k g (ap committed p)) z)
        by (inr z) = inr (r e z)

  -- From the pieces of an event to the event.
  pub cut_so_far : (ps : List Sent) (e : Sent) → AllSentInRange ps → InRange e.event → (xs : Arrivals) → SoFar (ps ++ cut (session ps).store e) (send_all (session ps) (cut (session ps).store e)) g xs
      → SoFar (ps ++ (e ∷ [])) (send (session ps) e) g xs
  unfolding cut cut_by send_all
  cut_so_far ps e i a xs w = by (accepted_batch (lent_any (session ps).store e).answer e.event) refl w
    where
      x0 : Session
      x0 = session ps

      Pieces : List Sent → Type 0
      Pieces fs = SoFar (ps ++ fs) (send_all x0 fs) g xs

      goes : (rs : List Result) (l : List ℕ) → (tells (lent_any x0.store (batch rs l)).answer).accepts ≡ true → Pieces (each_alone rs l) → SoFar (ps ++ (batch rs l ∷ [])) (send x0 (batch rs l)) g xs
      goes rs l b z =
          let fs : List Sent = ps ++ each_alone rs l in
          let es : List Sent = ps ++ (batch rs l ∷ []) in
          let p : session fs ≡ send_all x0 (each_alone rs l) = session_append ps (each_alone rs l) in
          let q : session es ≡ send x0 (batch rs l) = session_append ps (batch rs l ∷ []) in
          let k : Alike (session fs) (session es) = subst (λ (v : Session). Alike v (session es)) (sym p) (subst (Alike (send_all x0 (each_alone rs l))) (sym q) (batch-alike x0 rs l (session_follows ps i).whole b)) in
          subst (λ (v : Session). SoFar es v g xs) q
          (alike-so-far fs es (in_range_append ps (each_alone rs l) i (alone_in_range rs l)) (in_range_append ps (batch rs l ∷ []) i (unfold AllSentInRange InRange in (tt, tt))) k xs
          (λ o r. cut-reused ps rs l o (batch rs l) i r) (subst (λ (v : Session). SoFar fs v g xs) (sym p) z))

      by : (b : Option (List Result)) → accepted_batch (lent_any x0.store e).answer e.event ≡ b → Pieces (cut_by e b) → SoFar (ps ++ (e ∷ [])) (send x0 e) g xs
      by none q z = z
      by (some rs) q z =
          let p = accepted_batch-is (lent_any x0.store e).answer e.event rs q in
          let sent : e ≡ batch rs e.list = ap (λ (v : Event). record { event = v; list = e.list }) p.1 in
          subst (λ (v : Sent). SoFar (ps ++ (v ∷ [])) (send x0 v) g xs) (sym sent)
          (goes rs e.list (subst (λ (v : Sent). (tells (lent_any x0.store v).answer).accepts ≡ true) sent p.0) z)
