-- Rows and history agree after an object is made.
use Rattle.std.specs.Prelude.{◌≡◌, ◌⊎◌, Bool, not, ◌||◌, ℕ, zero, suc, ◌+◌, ◌≤◌, ◌<◌, T, eqb, ltb, leb}
use Rattle.std.proofs.Math.Path.{refl, ap, subst}
use Rattle.std.proofs.Common.{sym, ap₂, ◌∙◌, inr, true≢false, arith, eq-eqb, ne_eqb, eqb-true, leb-false, ltb-false}
use Rattle.std.proofs.Math.Logic.{inl}
use Rattle.std.proofs.Math.Bool.{true, false}
use mathlib.Core.List.{List, [], ◌∷◌}
use Rattle.std.proofs.Math.Option.{Option, none, some, some-injective}
use Rattle.std.proofs.Math.Nat.{not-suc-le-zero}
use Rattle.std.proofs.Math.Decide.{ℕ_discrete, dec_lt}
use Rattle.std.proofs.Math.ListN.{length}
use Rattle.asyncio.specs.declared.TaskId.{TaskId}
use Rattle.asyncio.specs.declared.CallId.{CallId}
use Rattle.asyncio.specs.declared.Value.{Value}
use Rattle.asyncio.specs.Options.{OptionValue}
use Rattle.std.specs.Prelude.{None, Some}
use Rattle.asyncio.specs.declared.Awaiter.{Awaiter}
use Rattle.asyncio.specs.declared.CoroutineState.{CoroutineState}
use Rattle.asyncio.specs.declared.ExternalFutureState.{ExternalFutureState}
use Rattle.asyncio.specs.declared.GatherState.{GatherState}
use Rattle.asyncio.specs.declared.Object.{Object}
use Rattle.asyncio.specs.declared.Place.{Place}
use Rattle.asyncio.specs.declared.Task.{Task}
use Rattle.asyncio.specs.declared.Moment.{Moment}
use Rattle.asyncio.specs.declared.Header.{Header}
use Rattle.asyncio.specs.Limits.{object_limit, task_limit, item_limit, place_limit, call_limit}
use Rattle.asyncio.specs.Numbers.{heap_id, call_id}
use Rattle.asyncio.specs.Ranges.{ObjectFits, HeaderFits, PlacesFit}
use Rattle.asyncio.specs.RangeLaws.{object_back}
use Rattle.asyncio.specs.Layout.{object_words, to_object}
use Rattle.asyncio.specs.Parts.{awaiter_of}
use Rattle.asyncio.specs.States.{pick, is_live, is_unstarted}
use Rattle.machine.specs.Store.{Store, view, task, object, place, header, put_object, put_header, put_place, set_calls, add_object}
use Rattle.machine.specs.Events.{Result, make_coroutine, make_pending, make_settled, put_items, make_gather}
use Rattle.machine.specs.Machine.{Event, Answer, Step, accept}
use Rattle.machine.specs.Sound.{value_known, option_known}
use Rattle.machine.specs.History.{Entry, Making, Says, says, nothing_said, said, tells, done_only, is_at, reply_in, first_reply, later, making, runner_by, running, started_by, coroutine_of, completed_value}
use Rattle.machine_laws.specs.Views.{Sized}
use Rattle.machine_laws.specs.Statements.{AllBelow}
use Rattle.machine_laws.specs.StoreLaws.{header-fits, header_put-header, header_put-object, object_put-other, object_put-header, place_put-place, place_put-other, sized-put_object, sized-put_header, sized-put_place, sized-set_calls, sized-add_object}
use Rattle.machine_laws.specs.DeliveryLaws.{absurd_some}
use Rattle.machine_laws.specs.MakingLaws.{value-fits, option_fits, items-sized}
use Rattle.machine_theorems.specs.Soundness.Stores.{SoundStore}
use Rattle.machine_theorems.specs.Panics.NoPanicLaws.{place-used}
use Rattle.machine_theorems.specs.Soundness.RowFacts.{items-header}
use Rattle.machine.specs.Sessions.{entry_of}
use Rattle.machine_sessions.specs.Waits.{said-accepted}
use Rattle.machine_sessions.specs.Waits.Calls.{read_back}
use Rattle.machine_sessions.specs.Places.Told.{Frozen, unmade, co, pends, gave, broke, many, frozen, told, EndsTask, own_back, TaskTold, Holds, Told}
use Rattle.machine_sessions.specs.Places.ToldEnds.{told_same, told_as, told_now}
use Rattle.machine_sessions.specs.Places.Agrees.{items_like, reply_row, ItemsAt, Makes, MadeRight, Agrees, reply_none, no_value}
use Rattle.machine_sessions.specs.Places.AgreesEvents.{StepAgrees}

abbrev IsCo : Frozen → Type 0
IsCo unmade = ⊥
IsCo (co b) = Unit {0}
IsCo (pends c r) = ⊥
IsCo (gave v) = ⊥
IsCo (broke e) = ⊥
IsCo (many f n) = ⊥

abbrev NotMany : Frozen → Type 0
NotMany unmade = Unit {0}
NotMany (co b) = Unit {0}
NotMany (pends c r) = Unit {0}
NotMany (gave v) = Unit {0}
NotMany (broke e) = Unit {0}
NotMany (many f n) = ⊥

-- ---- what is made stays what it is, with its places

items_kept : (i j : ℕ → ℕ) (f used : ℕ) (os : List ℕ) → ((p : ℕ) → p < used → j p ≡ i p) → ((m : ℕ) → m < length os → f + m < used) → ItemsAt i f os → ItemsAt j f os
unfolding ItemsAt
items_kept i j f used [] e l k = tt
items_kept i j f used (o ∷ os) e l k =
    (e f (omega (arith, l 0 (omega arith))) ∙ k.0, items_kept i j (f + 1) used os e (λ m b. omega (arith, l (suc m) (omega (arith, b)))) k.1)

makes_kept : (x : Entry) (e : Event) (since : List Entry) (y z : Frozen) (i j : ℕ → ℕ) (used : ℕ) → (said x).results ≡ [] → z ≡ y → ((p : ℕ) → p < used → j p ≡ i p)
    → ((f m a : ℕ) → y ≡ many f m → a < m → f + a < used) → Makes e since y i → Makes e (x ∷ since) z j
unfolding Makes
makes_kept x (Event.coroutine f) since y z i j used r e d u k = (k.0, e ∙ k.1)
makes_kept x Event.call since y z i j used r e d u k = k
makes_kept x (Event.pending c v) since y z i j used r e d u k = e ∙ (k ∙ ap (reply_row c v) (sym (reply_none x since c r)))
makes_kept x (Event.settled v) since y z i j used r e d u k = e ∙ k
makes_kept x (Event.gather os) since y z i j used r e d u k = (k.0, e ∙ k.1, items_kept i j k.0 used os d (λ m b. u k.0 (length os) m k.1 b) k.2)
makes_kept x (Event.await o) since y z i j used r e d u k = k
makes_kept x (Event.complete v) since y z i j used r e d u k = k
makes_kept x (Event.fail n) since y z i j used r e d u k = k
makes_kept x (Event.results rs) since y z i j used r e d u k = k
makes_kept x Event.resume since y z i j used r e d u k = k
makes_kept x (Event.cancel t) since y z i j used r e d u k = k
makes_kept x (Event.show o) since y z i j used r e d u k = k
makes_kept x Event.eager since y z i j used r e d u k = k

made_kept : (x : Entry) (m : Option Making) (n o : ℕ) (y z : Frozen) (i j : ℕ → ℕ) (used : ℕ) → (o ≡ n → ⊥) → (said x).results ≡ [] → z ≡ y → ((p : ℕ) → p < used → j p ≡ i p)
    → (o < n → (f m a : ℕ) → y ≡ many f m → a < m → f + a < used) → MadeRight m n o y i → MadeRight (later x m) (suc n) o z j
unfolding MadeRight later
made_kept x none n o y z i j used ne r e d u k = omega (arith, k, ne)
made_kept x (some m) n o y z i j used ne r e d u k = (omega (arith, k.0), makes_kept x m.event m.since y z i j used r e d (u k.0) k.1)

many-object : (x : Object) (f m : ℕ) → frozen x ≡ many f m → (y : GatherState) × (x ≡ Object.GatherFuture f m y)
unfolding frozen
many-object Object.Unmade f m e = absurd (subst NotMany e tt)
many-object (Object.Coroutine g CoroutineState.New) f m e = absurd (subst NotMany e tt)
many-object (Object.Coroutine g CoroutineState.Running) f m e = absurd (subst NotMany e tt)
many-object (Object.Coroutine g CoroutineState.Completed) f m e = absurd (subst NotMany e tt)
many-object (Object.ExternalFuture c (ExternalFutureState.Pending a r)) f m e = absurd (subst NotMany e tt)
many-object (Object.ExternalFuture c (ExternalFutureState.Resolved v)) f m e = absurd (subst NotMany e tt)
many-object (Object.ExternalFuture c (ExternalFutureState.Failed v)) f m e = absurd (subst NotMany e tt)
many-object (Object.GatherFuture g n y) f m e = (y, let q : ◌≡◌ {A = Frozen} (many g n) (many f m) = e in cc)

-- ---- an object is made

-- what making leaves: one row more, places behind those used
pub record Made (s u : Store) (z : Frozen) : Type 0 where
  pub sized : Sized u
  pub made : (header u).made ≡ suc (header s).made
  pub next : (header u).next ≡ (header s).next
  pub moment : (header u).moment ≡ (header s).moment
  pub row : frozen (object u (header s).made) ≡ z
  pub own : EndsTask (header s).made (awaiter_of (object u (header s).made))
  pub other : (o : ℕ) → (o ≡ (header s).made → ⊥) → object u o ≡ object s o
  pub tasks : (t : ℕ) → task u t ≡ task s t
  pub old : (p : ℕ) → p < (header s).used → place u p ≡ place s p
  pub new : (p : ℕ) → (header s).used ≤ p → (place u p ≡ place s p) ⊎ ((place u p).result ≡ None)

module _ (h : List Entry) (s : Store) (w : SoundStore s) (k : Agrees h s) (e : Event) (u : Store) (z : Frozen) (a : Made s u z) (r : (says e).results ≡ []) (c : (says e).completes ≡ none)
    (new : Makes e [] z (λ p. (place u p).item.0)) where
  n : ℕ
  n = (header s).made

  abbrev x : Entry
  x = entry_of e (Answer.made (header s).made) u

  said-it : said x ≡ says e
  said-it = said-accepted e (Answer.made (header s).made) u (unfold tells in refl)

  values : (o : ℕ) → completed_value (x ∷ h) o ≡ completed_value h o
  values o = no_value x h o (ap (λ (y : Says). y.completes) said-it ∙ c)

  -- nothing names it yet
  was : frozen (object s (header s).made) ≡ unmade
  was = k.behind (header s).made (omega arith)

  abbrev Q : ℕ → Frozen
  Q o = frozen (object u o)

  D : ℕ → Option Value
  D = completed_value h

  holds_by : (o : ℕ) (v : OptionValue) → Dec (o ≡ (header s).made) → Holds (λ o. frozen (object s o)) (completed_value h) o v → Holds Q (completed_value h) o v
  unfolding told
  holds_by o None d y = tt
  holds_by o (Some v) (yes d) y = absurd_some (sym (ap (λ (m : ℕ). told (completed_value h) m (frozen (object s m))) d ∙ ap (told (completed_value h) (header s).made) was) ∙ y)
  holds_by o (Some v) (no ne) y = ap (λ (b : Object). told (completed_value h) o (frozen b)) (a.other o ne) ∙ y

  holds_at : (p : ℕ) → Holds Q (completed_value h) (place u p).item.0 (place u p).result
  holds_at p = by (dec_lt p (header s).used)
    where
      same : place u p ≡ place s p → Holds Q (completed_value h) (place u p).item.0 (place u p).result
      same q = subst (λ (y : Place). Holds Q (completed_value h) y.item.0 y.result) (sym q) (holds_by (place s p).item.0 (place s p).result (ℕ_discrete (place s p).item.0 (header s).made) (k.told.holds p))

      late : (place u p ≡ place s p) ⊎ ((place u p).result ≡ None) → Holds Q (completed_value h) (place u p).item.0 (place u p).result
      late (inl q) = same q
      late (inr q) = subst (Holds Q (completed_value h) (place u p).item.0) (sym q) tt

      by : Dec (p < (header s).used) → Holds Q (completed_value h) (place u p).item.0 (place u p).result
      by (yes l) = same (a.old p l)
      by (no nl) = late (a.new p (omega arith))

  told-made : Told Q (header u).made (λ p. (place u p).item.0) (completed_value h) (coroutine_of h) u
  told-made =
      record {
        sized = a.sized;
        made = refl;
        begun = subst (λ (m : ℕ). 1 ≤ m) (sym a.next) k.told.begun;
        rows = λ o. refl;
        items = λ p. refl;
        holds = holds_at;
        own = λ o. own-by o (ℕ_discrete o (header s).made);
        tasks = λ t b l. subst (TaskTold (completed_value h) (coroutine_of h) (suc t)) (sym (a.tasks (suc t))) (k.told.tasks t (subst (λ (m : ℕ). suc t < m) a.next b) (sym (ap (λ (y : Task). is_live y.state) (a.tasks (suc t))) ∙ l));
        main = ap (λ (y : Task). is_unstarted y.state) (a.tasks 0) ∙ k.told.main;
      }
    where
      own-by : (o : ℕ) → Dec (o ≡ (header s).made) → EndsTask o (awaiter_of (object u o))
      own-by o (yes d) = subst (λ (m : ℕ). EndsTask m (awaiter_of (object u m))) (sym d) a.own
      own-by o (no ne) = subst (λ (y : Object). EndsTask o (awaiter_of y)) (sym (a.other o ne)) (k.told.own o)

  in-used : (o : ℕ) → o < (header s).made → (f m b : ℕ) → frozen (object s o) ≡ many f m → b < m → f + b < (header s).used
  unfolding view
  in-used o l f m b q lb = let y = many-object (object s o) f m q in place-used w.facts.but o f m y.0 l y.1 b lb

  making-is : (o : ℕ) → Dec (o ≡ (header s).made) → MadeRight (making (x ∷ h) o) (header u).made o (frozen (object u o)) (λ p. (place u p).item.0)
  unfolding making tells is_at entry_of
  making-is o (yes d) =
      subst (λ (m : Option Making). MadeRight m (header u).made o (frozen (object u o)) (λ p. (place u p).item.0))
      (sym (ap (λ (b : Bool). elim b [ true ↦ some (record { event = e; since = [] }) | false ↦ later x (making h o) ]) (eq-eqb (header s).made o (sym d))))
      (unfold MadeRight in (subst (λ (m : ℕ). o < m) (sym a.made) (omega (arith, d)), subst (λ (y : Frozen). Makes e [] y (λ p. (place u p).item.0)) (sym (ap (λ (m : ℕ). frozen (object u m)) d ∙ a.row)) new))
  making-is o (no ne) =
      subst (λ (m : Option Making). MadeRight m (header u).made o (frozen (object u o)) (λ p. (place u p).item.0))
      (sym (ap (λ (b : Bool). elim b [ true ↦ some (record { event = e; since = [] }) | false ↦ later x (making h o) ]) (ne_eqb (header s).made o (λ d. ne (sym d)))))
      (subst (λ (m : ℕ). MadeRight (later x (making h o)) m o (frozen (object u o)) (λ p. (place u p).item.0)) (sym a.made)
      (made_kept x (making h o) (header s).made o (frozen (object s o)) (frozen (object u o)) (λ p. (place s p).item.0) (λ p. (place u p).item.0) (header s).used ne
      (ap (λ (y : Says). y.results) said-it ∙ r) (ap frozen (a.other o ne)) (λ p l. ap (λ (y : Place). y.item.0) (a.old p l)) (in-used o) (k.makes o)))

  pub made_agrees : Agrees (x ∷ h) u
  unfolding coroutine_of running tells started_by runner_by entry_of
  made_agrees =
      record {
        told = told_now _ _ _ (completed_value h) (completed_value (x ∷ h)) (coroutine_of h) (coroutine_of (x ∷ h)) u values (λ t. refl) told-made;
        done = λ o v q. let d : frozen (object s o) ≡ co true = k.done o v (sym (values o) ∙ q) in ap frozen (a.other o (λ y. absurd-made (sym d ∙ (ap (λ (m : ℕ). frozen (object s m)) y ∙ was)))) ∙ d;
        runner = λ t q. k.runner t (sym a.moment ∙ q);
        main = k.main;
        behind = λ o l. ap frozen (a.other o (λ d. not-suc-le-zero {n = 0} (omega (arith, subst (λ (m : ℕ). m ≤ o) a.made l, d)))) ∙ k.behind o (omega (arith, subst (λ (m : ℕ). m ≤ o) a.made l));
        makes = λ o. making-is o (ℕ_discrete o (header s).made);
      }
    where
      absurd-made : co true ≡ unmade → ⊥
      absurd-made q = subst IsCo q tt

-- ---- the items of a gather

items-objects : (os : List ℕ) (s : Store) (p q : ℕ) → object (put_items s p os) q ≡ object s q
unfolding put_items object put_place
items-objects [] s p q = refl
items-objects (o ∷ os) s p q = items-objects os (put_place s p (record { item = heap_id o; result = None })) (p + 1) q

items-tasks : (os : List ℕ) (s : Store) (p t : ℕ) → task (put_items s p os) t ≡ task s t
unfolding put_items task put_place
items-tasks [] s p t = refl
items-tasks (o ∷ os) s p t = items-tasks os (put_place s p (record { item = heap_id o; result = None })) (p + 1) t

items-before : (os : List ℕ) (s : Store) (p q : ℕ) → q < p → place (put_items s p os) q ≡ place s q
unfolding put_items
items-before [] s p q l = refl
items-before (o ∷ os) s p q l = items-before os (put_place s p _) (p + 1) q (omega arith) ∙ place_put-other s p q _ (λ e. not-suc-le-zero {n = 0} (omega (arith, l)))

-- a place that is written holds nothing
items-new : (os : List ℕ) (s : Store) (p q n : ℕ) → Sized s → p + length os ≤ place_limit → n ≤ object_limit → AllBelow n os → (place (put_items s p os) q ≡ place s q) ⊎ ((place (put_items s p os) q).result ≡ None)
unfolding put_items AllBelow
items-new [] s p q n z l b k = inl refl
items-new (o ∷ os) s p q n z l b k = by (ℕ_discrete q p) (items-new os (put_place s p new) (p + 1) q n (sized-put_place s p new z) (omega (arith, l)) b k.1)
  where
    new : Place
    new = record { item = heap_id o; result = None }

    by : Dec (q ≡ p) → (place (put_items (put_place s p new) (p + 1) os) q ≡ place (put_place s p new) q) ⊎ ((place (put_items (put_place s p new) (p + 1) os) q).result ≡ None)
        → (place (put_items (put_place s p new) (p + 1) os) q ≡ place s q) ⊎ ((place (put_items (put_place s p new) (p + 1) os) q).result ≡ None)
    by d (inr e) = inr e
    by (no ne) (inl e) = inl (e ∙ place_put-other s p q new ne)
    by (yes d) (inl e) =
        inr (ap (λ (y : Place). y.result) (e ∙ (ap (place (put_place s p new)) d ∙ place_put-place s p new z (omega (arith, l)) (record { item_fits = omega (arith, k.0); result_fits = tt }))))

-- the items stand there
items_there : (os : List ℕ) (s : Store) (p n : ℕ) → Sized s → p + length os ≤ place_limit → n ≤ object_limit → AllBelow n os → ItemsAt (λ q. (place (put_items s p os) q).item.0) p os
unfolding put_items ItemsAt AllBelow
items_there [] s p n z l b k = tt
items_there (o ∷ os) s p n z l b k = (
  ap (λ (y : Place). y.item.0) (items-before os (put_place s p new) (p + 1) p (omega arith) ∙ place_put-place s p new z (omega (arith, l)) (record { item_fits = omega (arith, k.0); result_fits = tt })),
  items_there os (put_place s p new) (p + 1) n (sized-put_place s p new z) (omega (arith, l)) b k.1,
)
  where
    new : Place
    new = record { item = heap_id o; result = None }

-- ---- each making

module _ (s : Store) (w : SoundStore s) where
  z : Sized s
  z = w.memory.sized

  -- an object is added to a store that differs from s in calls and places
  added-made : (s1 : Store) (r : Object) (m : ℕ) (y : Frozen) → Sized s1 → (header s1).made ≡ (header s).made → (header s1).next ≡ (header s).next → (header s1).moment ≡ (header s).moment → (header s).made < object_limit
      → (header s1).used + m ≤ place_limit → ((o : ℕ) → object s1 o ≡ object s o) → ((t : ℕ) → task s1 t ≡ task s t) → ((p : ℕ) → p < (header s).used → place s1 p ≡ place s p)
      → ((p : ℕ) → (header s).used ≤ p → (place s1 p ≡ place s p) ⊎ ((place s1 p).result ≡ None)) → frozen (to_object (object_words r)) ≡ y → EndsTask (header s).made (awaiter_of r) → Made s (add_object s1 r m) y
  added-made s1 r m y z1 em en eo low room rows tasks old new back own =
      record {
        sized = sized-add_object s1 r m z1;
        made = ap (λ (h : Header). h.made) head ∙ (omega (arith, em));
        next = ap (λ (h : Header). h.next) head ∙ en;
        moment = ap (λ (h : Header). h.moment) head ∙ eo;
        row = ap frozen row ∙ back;
        own = subst (λ (x : Object). EndsTask (header s).made (awaiter_of x)) (sym row) (own_back (header s).made r low own);
        other = λ o ne. other o ne ∙ rows o;
        tasks = λ t. same-task t ∙ tasks t;
        old = λ p l. same_place p ∙ old p l;
        new = λ p l. late p (new p l);
      }
    where
      i : Header
      i = record { made = (header s1).made + 1; used = (header s1).used + m; calls = (header s1).calls; next = (header s1).next; moment = (header s1).moment }

      u : Store
      u = add_object s1 r m

      head : header u ≡ i
      head =
          let f : HeaderFits (header s1) = header-fits s1 in
          unfold add_object in (header_put-object (put_header s1 i) (header s1).made r
          ∙ header_put-header s1 i z1 (record { made_fits = omega (arith, em, low); used_fits = room; calls_fit = f.calls_fit; next_fits = f.next_fits; moment_fits = f.moment_fits }))

      row : object u (header s).made ≡ to_object (object_words r)
      row = subst (λ (o : ℕ). object u o ≡ to_object (object_words r)) em (unfold add_object in (read_back (put_header s1 i) (header s1).made r (sized-put_header s1 i z1) (omega (arith, em, low))))

      other : (o : ℕ) → (o ≡ (header s).made → ⊥) → object u o ≡ object s1 o
      other o ne = unfold add_object in (object_put-other (put_header s1 i) (header s1).made o r (λ d. ne (d ∙ em)) ∙ object_put-header s1 i o)

      same-task : (t : ℕ) → task u t ≡ task s1 t
      same-task t = unfold add_object task put_object put_header in refl

      same_place : (p : ℕ) → place u p ≡ place s1 p
      same_place p = unfold add_object place put_object put_header in refl

      late : (p : ℕ) → (place s1 p ≡ place s p) ⊎ ((place s1 p).result ≡ None) → (place u p ≡ place s p) ⊎ ((place u p).result ≡ None)
      late p (inl q) = inl (same_place p ∙ q)
      late p (inr q) = inr (ap (λ (y : Place). y.result) (same_place p) ∙ q)

  plain-made : (r : Object) (y : Frozen) → (header s).made < object_limit → frozen (to_object (object_words r)) ≡ y → EndsTask (header s).made (awaiter_of r) → Made s (add_object s r 0) y
  plain-made r y low back own =
      added-made s r 0 y z refl refl refl low (omega (arith, (header-fits s).used_fits)) (λ o. refl) (λ t. refl) (λ p l. refl) (λ p l. inl refl) back own

  module _ (h : List Entry) (k : Agrees h s) where
    pub coroutine_agrees : (f : ℕ) → (header s).made < object_limit → StepAgrees h (Event.coroutine f) (accept s (Event.coroutine f))
    unfolding accept make_coroutine
    coroutine_agrees f low =
        made_agrees h s w k (Event.coroutine f) _ (co false) (plain-made (Object.Coroutine f CoroutineState.New) (co false) low (unfold frozen in refl) (unfold awaiter_of in tt)) (unfold says nothing_said in refl) (unfold says nothing_said in refl)
        (unfold Makes in (false, refl))

    pub pending_agrees : (c : ℕ) (r : OptionValue) → (header s).made < object_limit → c < call_limit → T (option_known (header s).made (object s) r) → StepAgrees h (Event.pending c r) (accept s (Event.pending c r))
    unfolding accept make_pending
    pending_agrees c r low cl kn =
        made_agrees h s w k (Event.pending c r) _ (pends c r)
        (plain-made (Object.ExternalFuture (call_id c) (ExternalFutureState.Pending Awaiter.Nobody r)) (pends c r) low
        (ap frozen (object_back (Object.ExternalFuture (call_id c) (ExternalFutureState.Pending Awaiter.Nobody r)) (omega (arith, cl), (tt, option_fits (header s).made (object s) r (header-fits s).made_fits kn))) ∙ is-pends c r) (unfold awaiter_of in tt))
        (unfold says in refl) (unfold says in refl) (unfold Makes first_reply reply_row in refl)
      where
        is-pends : (c : ℕ) (r : OptionValue) → frozen (Object.ExternalFuture (call_id c) (ExternalFutureState.Pending Awaiter.Nobody r)) ≡ pends c r
        is-pends c r = unfold frozen in refl

    pub settled_agrees : (v : Value) → (header s).made < object_limit → (header s).calls < call_limit → T (value_known (header s).made (object s) v) → StepAgrees h (Event.settled v) (accept s (Event.settled v))
    unfolding accept make_settled
    settled_agrees v low cl kn =
        made_agrees h s w k (Event.settled v) _ (gave v)
        (added-made s1 y 0 (gave v) (sized-set_calls s _ z) (ap (λ (h : Header). h.made) head) (ap (λ (h : Header). h.next) head) (ap (λ (h : Header). h.moment) head) low
        (subst (λ (h : Header). h.used + 0 ≤ place_limit) (sym head) (omega (arith, (header-fits s).used_fits))) rows (λ t. unfold task set_calls put_header in refl) (λ p l. places p) (λ p l. inl (places p))
        (ap frozen (object_back y (omega (arith, cl), value-fits (header s).made (object s) v (header-fits s).made_fits kn)) ∙ is-gave (call_id (header s).calls)) (unfold awaiter_of in tt))
        (unfold says nothing_said in refl) (unfold says nothing_said in refl) (unfold Makes in refl)
      where
        s1 : Store
        s1 = set_calls s ((header s).calls + 1)

        y : Object
        y = Object.ExternalFuture (call_id (header s).calls) (ExternalFutureState.Resolved v)

        is-gave : (c : CallId) → frozen (Object.ExternalFuture c (ExternalFutureState.Resolved v)) ≡ gave v
        is-gave c = unfold frozen in refl

        rows : (o : ℕ) → object s1 o ≡ object s o
        rows o = unfold set_calls in (object_put-header s _ o)

        places : (p : ℕ) → place s1 p ≡ place s p
        places p = unfold place set_calls put_header in refl

        head : header s1 ≡ record { made = (header s).made; used = (header s).used; calls = (header s).calls + 1; next = (header s).next; moment = (header s).moment }
        head =
            let f : HeaderFits (header s) = header-fits s in
            unfold set_calls in (header_put-header s _ z (record { made_fits = f.made_fits; used_fits = f.used_fits; calls_fit = omega arith; next_fits = f.next_fits; moment_fits = f.moment_fits }))

    -- the items of a gather
    pub gather_agrees : (os : List ℕ) → (header s).made < object_limit → (header s).used + length os ≤ place_limit → length os ≤ item_limit → AllBelow (header s).made os → StepAgrees h (Event.gather os) (accept s (Event.gather os))
    unfolding accept make_gather
    gather_agrees os low room few made =
        made_agrees h s w k (Event.gather os) _ (many (header s).used (length os))
        (added-made s1 y (length os) (many (header s).used (length os)) (items-sized os s (header s).used z) (ap (λ (h : Header). h.made) head) (ap (λ (h : Header). h.next) head) (ap (λ (h : Header). h.moment) head) low
        (subst (λ (h : Header). h.used + length os ≤ place_limit) (sym head) room) (λ o. items-objects os s (header s).used o) (λ t. items-tasks os s (header s).used t) (λ p l. items-before os s (header s).used p l)
        (λ p l. items-new os s (header s).used p (header s).made z room (header-fits s).made_fits made)
        (ap frozen (object_back y (record { within = room; at_most = few }, tt)) ∙ is-many (header s).used (length os)) (unfold awaiter_of in tt))
        (unfold says in refl) (unfold says in refl)
        (unfold Makes in ((header s).used, refl, items_like _ _ (header s).used os (λ p. ap (λ (x : Place). x.item.0) (same_place p)) (items_there os s (header s).used (header s).made z room (header-fits s).made_fits made)))
      where
        s1 : Store
        s1 = put_items s (header s).used os

        y : Object
        y = Object.GatherFuture (header s).used (length os) GatherState.Pending

        head : header s1 ≡ header s
        head = items-header os s (header s).used

        is-many : (f m : ℕ) → frozen (Object.GatherFuture f m GatherState.Pending) ≡ many f m
        is-many f m = unfold frozen in refl

        same_place : (p : ℕ) → place (add_object s1 y (length os)) p ≡ place s1 p
        same_place p = unfold add_object place put_object put_header in refl
