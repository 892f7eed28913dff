-- What the events that make an object, and the one that hands out a call number, leave: tasks as they were, and one new coroutine more, or none.
use Rattle.std.specs.Prelude.{◌≡◌, refl, Bool, true, false, ◌||◌, List, [], ◌∷◌, ℕ, suc, ◌+◌, ◌≤◌, ◌<◌}
use Rattle.std.proofs.Common.{sym, ◌∙◌, true≢false, arith, eq-eqb, ne_eqb}
use Rattle.std.proofs.Math.Path.{ap, subst}
use Rattle.std.proofs.Math.Option.{Option, none, some}
use Rattle.std.proofs.Math.Decide.{ℕ_discrete}
use Rattle.std.proofs.Math.ListN.{length}
use Rattle.asyncio.specs.declared.Value.{Value}
use Rattle.asyncio.specs.Options.{OptionValue}
use Rattle.std.specs.Prelude.{None}
use Rattle.asyncio.specs.declared.Awaiter.{Awaiter}
use Rattle.asyncio.specs.declared.Task.{Task}
use Rattle.asyncio.specs.declared.CoroutineState.{CoroutineState}
use Rattle.asyncio.specs.declared.ExternalFutureState.{ExternalFutureState}
use Rattle.asyncio.specs.declared.GatherState.{GatherState}
use Rattle.asyncio.specs.declared.Object.{Object}
use Rattle.asyncio.specs.declared.Header.{Header}
use Rattle.asyncio.specs.Limits.{object_limit, place_limit, call_limit, u32_limit}
use Rattle.asyncio.specs.Numbers.{call_id, heap_id}
use Rattle.asyncio.specs.Ranges.{HeaderFits}
use Rattle.asyncio.specs.RangeLaws.{object_back}
use Rattle.asyncio.specs.Layout.{object_words, to_object}
use Rattle.asyncio.specs.States.{is_live, is_unstarted}
use Rattle.machine.specs.Store.{Store, task, object, header, put_header, put_object, put_place, set_calls, add_object}
use Rattle.machine.specs.Events.{Control, make_coroutine, make_pending, make_settled, put_items, make_gather}
use Rattle.machine.specs.Machine.{Event}
use Rattle.machine.specs.History.{Entry, Making, tells, is_at, later, making, spawned_for, started_by, coroutine_of}
use Rattle.machine.specs.Honest.{names_by, named, MakesCoroutine, spawns}
use Rattle.machine_laws.specs.Views.{Sized}
use Rattle.machine_laws.specs.StoreLaws.{header-fits, header_put-header, header_put-object, object_put-other, object_put-header, sized-put_object, sized-put_header, sized-set_calls}
use Rattle.machine_laws.specs.MakingLaws.{items-sized}
use Rattle.machine_theorems.specs.Soundness.RowFacts.{items-header}
use Rattle.machine_sessions.specs.Waits.Calls.{read_back}
use Rattle.machine_sessions.specs.Queue.Tracked.{live_like}
use Rattle.machine_sessions.specs.Queue.TrackedEvents.{items-tasks, items-log}
use Rattle.machine_sessions.specs.Places.Told.{Frozen, frozen}
use Rattle.machine_sessions.specs.Places.Agrees.{Agrees, none_made}
use Rattle.machine_sessions.specs.Honest.Spawned.{Shape, shape, is_used, is_co, external_shape, TaskFrom, Spawned, SameSpawns, same-spawns, spawned_as}
use Rattle.machine_sessions.specs.Honest.HonestLog.{LogRight}
use Rattle.machine_sessions.specs.Honest.HonestEnds.{ControlLeft, Left, Leaves, none-plain, makes_later, spawns-later}
use Rattle.machine_sessions.specs.Honest.HonestEvents.{Held}

-- tasks, the log, the next number and the moment as they were; so are the objects, but for object a
pub record Adds (s u : Store) (a : ℕ) : Type 0 where
  pub sized : Sized u
  pub others : (o : ℕ) → (o ≡ a → ⊥) → object u o ≡ object s o
  pub same_tasks : (t : ℕ) → task u t ≡ task s t
  pub same_log : u.log ≡ s.log
  pub same_next : (header u).next ≡ (header s).next
  pub same_moment : (header u).moment ≡ (header s).moment

abbrev IsUnmade : Frozen → Type 0
IsUnmade Frozen.unmade = Unit {0}
IsUnmade (Frozen.co b) = ⊥
IsUnmade (Frozen.pends c r) = ⊥
IsUnmade (Frozen.gave v) = ⊥
IsUnmade (Frozen.broke e) = ⊥
IsUnmade (Frozen.many f n) = ⊥

-- ---- each event

-- an object is added to a store with the same header
added : (s : Store) (r : Object) (n : ℕ) → Sized s → (header s).made < object_limit → (header s).used + n ≤ place_limit → Adds s (add_object s r n) (header s).made
unfolding add_object
added s r n z m l =
    record {
      sized = sized-put_object _ _ r (sized-put_header s i z);
      others = λ o ne. object_put-other (put_header s i) (header s).made o r ne ∙ object_put-header s i o;
      same_tasks = λ t. unfold task put_object put_header in refl;
      same_log = unfold put_object put_header in refl;
      same_next = ap (λ (h : Header). h.next) head;
      same_moment = ap (λ (h : Header). h.moment) head;
    }
  where
    i : Header
    i = record { made = (header s).made + 1; used = (header s).used + n; calls = (header s).calls; next = (header s).next; moment = (header s).moment }

    fits : HeaderFits i
    fits = let f : HeaderFits (header s) = header-fits s in record { made_fits = omega arith; used_fits = l; calls_fit = f.calls_fit; next_fits = f.next_fits; moment_fits = f.moment_fits }

    head : header (put_object (put_header s i) (header s).made r) ≡ i
    head = header_put-object (put_header s i) (header s).made r ∙ header_put-header s i z fits

-- what is read back there
added_row : (s : Store) (r : Object) (n : ℕ) → Sized s → (header s).made < object_limit → object (add_object s r n) (header s).made ≡ to_object (object_words r)
unfolding add_object
added_row s r n z m = read_back _ (header s).made r (sized-put_header s _ z) m

adds_then : (s v u : Store) (a b : ℕ) → a ≡ b → Adds v u a → ((o : ℕ) → object v o ≡ object s o) → ((t : ℕ) → task v t ≡ task s t) → v.log ≡ s.log → (header v).next ≡ (header s).next → (header v).moment ≡ (header s).moment → Adds s u b
adds_then s v u a b e k os ts l n m =
    record {
      sized = k.sized;
      others = λ o ne. k.others o (λ q. ne (q ∙ e)) ∙ os o;
      same_tasks = λ t. k.same_tasks t ∙ ts t;
      same_log = k.same_log ∙ l;
      same_next = k.same_next ∙ n;
      same_moment = k.same_moment ∙ m;
    }

items-object : (os : List ℕ) (s : Store) (p o : ℕ) → object (put_items s p os) o ≡ object s o
unfolding put_items object put_place
items-object [] s p o = refl
items-object (x ∷ xs) s p o = items-object xs (put_place s p (record { item = heap_id x; result = None })) (p + 1) o

module _ (s : Store) (z : Sized s) where
  -- a call is handed out
  module _ (c : (header s).calls < call_limit) where
    abbrev one_more : Header
    one_more = record { made = (header s).made; used = (header s).used; calls = (header s).calls + 1; next = (header s).next; moment = (header s).moment }

    more : header (set_calls s ((header s).calls + 1)) ≡ one_more
    unfolding set_calls
    more =
        let f : HeaderFits (header s) = header-fits s in
        header_put-header s _ z (record { made_fits = f.made_fits; used_fits = f.used_fits; calls_fit = omega arith; next_fits = f.next_fits; moment_fits = f.moment_fits })

    pub calls_object : (o : ℕ) → object (set_calls s ((header s).calls + 1)) o ≡ object s o
    unfolding set_calls
    calls_object o = object_put-header s _ o

    pub call_adds : (a : ℕ) → Adds s (set_calls s ((header s).calls + 1)) a
    call_adds a =
        record {
          sized = sized-set_calls s _ z;
          others = λ o ne. calls_object o;
          same_tasks = λ t. unfold task set_calls put_header in refl;
          same_log = unfold set_calls put_header in refl;
          same_next = ap (λ (h : Header). h.next) more;
          same_moment = ap (λ (h : Header). h.moment) more;
        }

    pub settled_adds : (v : Value) → (header s).made < object_limit → Adds s (make_settled s v) (header s).made
    unfolding make_settled
    settled_adds v m =
        adds_then s (set_calls s ((header s).calls + 1)) _ _ (header s).made (ap (λ (h : Header). h.made) more)
        (added (set_calls s ((header s).calls + 1)) _ 0 (sized-set_calls s _ z) (subst (λ (h : Header). h.made < object_limit) (sym more) m)
        (subst (λ (h : Header). h.used + 0 ≤ place_limit) (sym more) (omega (arith, (header-fits s).used_fits))))
        calls_object (λ t. unfold task set_calls put_header in refl) (unfold set_calls put_header in refl) (ap (λ (h : Header). h.next) more) (ap (λ (h : Header). h.moment) more)

    pub settled-shape : (v : Value) → (header s).made < object_limit → shape (object (make_settled s v) (header s).made) ≡ Shape.other
    unfolding make_settled
    settled-shape v m =
        ap (λ (n : ℕ). shape (object (make_settled s v) n)) (sym (ap (λ (h : Header). h.made) more))
        ∙ (ap shape (added_row (set_calls s ((header s).calls + 1)) _ 0 (sized-set_calls s _ z) (subst (λ (h : Header). h.made < object_limit) (sym more) m)) ∙ external_shape (call_id (header s).calls) (ExternalFutureState.Resolved v))

  pub coroutine_adds : (f : ℕ) → (header s).made < object_limit → Adds s (make_coroutine s f) (header s).made
  unfolding make_coroutine
  coroutine_adds f m = added s _ 0 z m (omega (arith, (header-fits s).used_fits))

  pub coroutine-shape : (f : ℕ) → f < u32_limit → (header s).made < object_limit → shape (object (make_coroutine s f) (header s).made) ≡ Shape.new f
  unfolding make_coroutine shape
  coroutine-shape f l m = ap shape (added_row s (Object.Coroutine f CoroutineState.New) 0 z m ∙ object_back (Object.Coroutine f CoroutineState.New) l)

  pub pending_adds : (c : ℕ) (r : OptionValue) → (header s).made < object_limit → Adds s (make_pending s c r) (header s).made
  unfolding make_pending
  pending_adds c r m = added s _ 0 z m (omega (arith, (header-fits s).used_fits))

  pub pending-shape : (c : ℕ) (r : OptionValue) → (header s).made < object_limit → shape (object (make_pending s c r) (header s).made) ≡ Shape.other
  unfolding make_pending
  pending-shape c r m = ap shape (added_row s _ 0 z m) ∙ external_shape (call_id c) (ExternalFutureState.Pending Awaiter.Nobody r)

  module _ (os : List ℕ) (m : (header s).made < object_limit) (l : (header s).used + length os ≤ place_limit) where
    abbrev v : Store
    v = put_items s (header s).used os

    hd : header v ≡ header s
    hd = items-header os s (header s).used

    zv : Sized v
    zv = items-sized os s (header s).used z

    pub gather_adds : Adds s (make_gather s os) (header s).made
    unfolding make_gather
    gather_adds =
        adds_then s v _ _ (header s).made (ap (λ (h : Header). h.made) hd)
        (added v _ (length os) zv (subst (λ (h : Header). h.made < object_limit) (sym hd) m) (subst (λ (h : Header). h.used + length os ≤ place_limit) (sym hd) l))
        (λ o. items-object os s (header s).used o) (items-tasks os s (header s).used) (items-log os s (header s).used) (ap (λ (h : Header). h.next) hd) (ap (λ (h : Header). h.moment) hd)

    gather-row : object (make_gather s os) (header s).made ≡ to_object (object_words (Object.GatherFuture (header s).used (length os) GatherState.Pending))
    unfolding make_gather
    gather-row =
        ap (λ (n : ℕ). object (make_gather s os) n) (sym (ap (λ (h : Header). h.made) hd))
        ∙ added_row v (Object.GatherFuture (header s).used (length os) GatherState.Pending) (length os) zv (subst (λ (h : Header). h.made < object_limit) (sym hd) m)

    pub gather-used : is_co (shape (object (make_gather s os) (header s).made)) ≡ false
    unfolding shape
    gather-used = ap (λ (y : Object). is_co (shape y)) gather-row

-- ---- what it leaves

-- an object that is made is new, or no coroutine
pub co-used : (y : Shape) → is_co y ≡ false → is_used y ≡ false
co-used Shape.other e = refl
co-used (Shape.new f) e = refl
co-used (Shape.used f) e = e
co-used (Shape.many f n) e = refl

frozen-shape : (y : Object) → frozen y ≡ Frozen.unmade → shape y ≡ Shape.other
unfolding frozen shape
frozen-shape Object.Unmade e = refl
frozen-shape (Object.Coroutine g CoroutineState.New) e = absurd (subst IsUnmade (sym e) tt)
frozen-shape (Object.Coroutine g CoroutineState.Running) e = absurd (subst IsUnmade (sym e) tt)
frozen-shape (Object.Coroutine g CoroutineState.Completed) e = absurd (subst IsUnmade (sym e) tt)
frozen-shape (Object.ExternalFuture c x) e = refl
frozen-shape (Object.GatherFuture g m x) e = absurd (subst IsUnmade (sym e) tt)

making_here : (x : Entry) (h : List Entry) (a : ℕ) → (tells x.answer).makes ≡ some a → making (x ∷ h) a ≡ some (record { event = x.event; since = [] })
unfolding making is_at
making_here x h a e =
    ap (λ (y : Option ℕ). elim (is_at y a) [ true ↦ some (record { event = x.event; since = [] }) | false ↦ later x (making h a) ]) e
    ∙ ap (λ (b : Bool). elim b [ true ↦ some (record { event = x.event; since = [] }) | false ↦ later x (making h a) ]) (eq-eqb a a refl)

making_there : (x : Entry) (h : List Entry) (a o : ℕ) → (tells x.answer).makes ≡ some a → (o ≡ a → ⊥) → making (x ∷ h) o ≡ later x (making h o)
unfolding making is_at
making_there x h a o e ne =
    ap (λ (y : Option ℕ). elim (is_at y o) [ true ↦ some (record { event = x.event; since = [] }) | false ↦ later x (making h o) ]) e
    ∙ ap (λ (b : Bool). elim b [ true ↦ some (record { event = x.event; since = [] }) | false ↦ later x (making h o) ]) (ne_eqb a o (λ q. ne (sym q)))

module _ (h : List Entry) (s : Store) (k : Held h s) (ag : Agrees h s) where
  abbrev N : ℕ → Shape
  N o = shape (object s o)

  abbrev a : ℕ
  a = (header s).made

  was-none : N a ≡ Shape.other
  was-none = frozen-shape (object s a) (ag.behind a (omega arith))

  module _ (u : Store) (e : Adds s u a) where
    abbrev M : ℕ → Shape
    M o = shape (object u o)

    there : (o : ℕ) → (o ≡ a → ⊥) → M o ≡ N o
    there o ne = ap shape (e.others o ne)

    -- a coroutine that is there is another
    apart : (c : ℕ) → is_co (N c) ≡ true → c ≡ a → ⊥
    apart c y q = true≢false (sym y ∙ (ap (λ (m : ℕ). is_co (N m)) q ∙ ap is_co was-none))

    stays : (c : ℕ) → is_co (N c) ≡ true → M c ≡ N c
    stays c y = there c (apart c y)

    made-spawns : Spawned (spawned_for h) (coroutine_of h) (spawns h) M u
    made-spawns =
        record {
          sized = e.sized;
          rows = λ o. refl;
          next = e.same_next ∙ (j.next ∙ ap (λ (m : ℕ). suc (m + spawns h)) (sym sp.counted));
          unused = λ t l b. ap (λ (r : Task). is_live r.state) (e.same_tasks t) ∙ j.unused t l (subst (λ (m : ℕ). m ≤ t) e.same_next b);
          unborn = λ t b. j.unborn t (subst (λ (m : ℕ). m ≤ t) e.same_next b);
          main = ap (λ (r : Task). is_unstarted r.state) (e.same_tasks 0) ∙ j.main;
          not_main = sp.for_it 0 ∙ j.not_main;
          tasks = λ t b l.
              let y : TaskFrom (spawned_for h) (coroutine_of h) N s.log (suc t) (task s (suc t)) = j.tasks t (subst (λ (m : ℕ). suc t < m) e.same_next b) (sym (ap (λ (r : Task). is_live r.state) (e.same_tasks (suc t))) ∙ l) in
              subst (TaskFrom (spawned_for h) (coroutine_of h) M u.log (suc t)) (sym (e.same_tasks (suc t)))
              (record {
                origin = sp.for_it (suc t) ∙ y.origin;
                fresh = y.fresh;
                begun = λ q. ap is_used (stays _ y.coroutine) ∙ y.begun q;
                coroutine = ap is_co (stays _ y.coroutine) ∙ y.coroutine;
              });
          known = λ t c q. let y : is_co (N c) ≡ true = j.known t c (sym (sp.for_it t) ∙ q) in ap is_co (stays c y) ∙ y;
          first = λ t c f q y.
              let z : is_co (N c) ≡ true = j.known t c (sym (sp.for_it t) ∙ q) in
              live_like s u t e.same_next (ap (λ (r : Task). is_live r.state) (e.same_tasks t)) ∙ j.first t c f (sym (sp.for_it t) ∙ q) (sym (stays c z) ∙ y);
        }
      where
        j : Spawned (spawned_for h) (coroutine_of h) (spawns h) N s
        j = k.spawns_are

        sp : SameSpawns (spawned_for h) s u
        sp = same-spawns (spawned_for h) s u e.same_log

    -- an event that makes object a
    pub makes_left : (x : Entry) → x.happened ≡ u.log → (tells x.answer).control ≡ none → (tells x.answer).makes ≡ some a → is_used (M a) ≡ false → ((f : ℕ) → M a ≡ Shape.new f → x.event ≡ Event.coroutine f) → Left h x u
    makes_left x hp ct mk us nw =
        record {
          spawns_are = spawns-later h x u none M hp ct (spawned_as (spawned_for h) (spawned_for h) (coroutine_of h) (λ t. started_by none t (coroutine_of h t)) (spawns h) (spawns h) M M u (λ t. refl) (λ t. none-plain.begins t (coroutine_of h t)) refl (λ o. refl) made-spawns);
          origins = record { named_is = λ o. named-then o ∙ named_by o (ℕ_discrete o a); made_by = λ o f q. made_by o f q (ℕ_discrete o a) };
          log_right = subst (LogRight h x) (sym (e.same_log ∙ k.empty_log)) (unfold LogRight in tt);
          control_left = subst (ControlLeft h x u.log) (sym ct) (unfold ControlLeft in tt);
        }
      where
        named-then : (o : ℕ) → named (x ∷ h) o ≡ named h o
        named-then o = unfold named in (ap (λ (y : Option Control). names_by y o || named h o) ct ∙ (unfold names_by in refl))

        named_by : (o : ℕ) → Dec (o ≡ a) → named h o ≡ is_used (M o)
        named_by o (yes q) = k.origins.named_is o ∙ (ap (λ (m : ℕ). is_used (N m)) q ∙ (ap is_used was-none ∙ sym (subst (λ (m : ℕ). is_used (M m) ≡ false) (sym q) us)))
        named_by o (no ne) = k.origins.named_is o ∙ ap is_used (sym (there o ne))

        made_by : (o f : ℕ) → M o ≡ Shape.new f → Dec (o ≡ a) → MakesCoroutine (making (x ∷ h) o) f
        made_by o f y (yes q) =
            subst (λ (m : ℕ). MakesCoroutine (making (x ∷ h) m) f) (sym q)
            (subst (λ (m : Option Making). MakesCoroutine m f) (sym (making_here x h a mk)) (unfold MakesCoroutine in (nw f (subst (λ (m : ℕ). M m ≡ Shape.new f) q y))))
        made_by o f y (no ne) =
            subst (λ (m : Option Making). MakesCoroutine m f) (sym (making_there x h a o mk ne)) (makes_later x (making h o) f (k.origins.made_by o f (sym (there o ne) ∙ y)))

    -- an event that makes nothing
    pub adds_left : (x : Entry) → Leaves x none u → ((o : ℕ) → object u o ≡ object s o) → Left h x u
    adds_left x l same =
        record {
          spawns_are = spawns-later h x u none M l.happens l.controls (spawned_as (spawned_for h) (spawned_for h) (coroutine_of h) (λ t. started_by none t (coroutine_of h t)) (spawns h) (spawns h) M M u (λ t. refl) (λ t. none-plain.begins t (coroutine_of h t)) refl (λ o. refl) made-spawns);
          origins = record {
            named_is = λ o. named-then o ∙ (k.origins.named_is o ∙ ap (λ (y : Object). is_used (shape y)) (sym (same o)));
            made_by = λ o f q. subst (λ (m : Option Making). MakesCoroutine m f) (sym (none_made x h o l.makes_none)) (makes_later x (making h o) f (k.origins.made_by o f (sym (ap shape (same o)) ∙ q)));
          };
          log_right = subst (LogRight h x) (sym (e.same_log ∙ k.empty_log)) (unfold LogRight in tt);
          control_left = subst (ControlLeft h x u.log) (sym l.controls) (unfold ControlLeft in tt);
        }
      where
        named-then : (o : ℕ) → named (x ∷ h) o ≡ named h o
        named-then o = unfold named in (ap (λ (y : Option Control). names_by y o || named h o) l.controls ∙ (unfold names_by in refl))
