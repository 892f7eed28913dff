-- The events that make (call, coroutine, pending, settled, gather) leave a sound store sound.
use Rattle.std.specs.Prelude.{◌≡◌, refl, false, not, ◌||◌, List, [], ◌∷◌, eqb, ltb}
use Rattle.std.proofs.Math.Path.{ap, sym, subst}
use Rattle.std.proofs.Common.{◌∙◌, not-suc-le-zero, arith, eqb→eq, ltb→lt}
use Rattle.std.proofs.Math.Option.{some, some-injective}
use Prim.Native.Nat.{ℕ, zero, suc, ◌+◌, ◌≤◌, ◌<◌}
use Rattle.std.proofs.Math.Nat.{le_refl}
use Rattle.std.proofs.Math.Decide.{ℕ_discrete, dec_lt}
use Rattle.std.proofs.Math.Dec.{T, eqb_refl, lt→ltb}
use Rattle.std.proofs.Math.ListN.{length}
use Rattle.asyncio.specs.declared.TaskId.{TaskId}
use Rattle.asyncio.specs.declared.HeapId.{HeapId}
use Rattle.asyncio.specs.declared.Value.{Value}
use Rattle.asyncio.specs.Options.{OptionValue}
use Rattle.std.specs.Prelude.{None, Some}
use Rattle.asyncio.specs.declared.Task.{Task}
use Rattle.asyncio.specs.declared.Awaiter.{Awaiter}
use Rattle.asyncio.specs.declared.CoroutineState.{CoroutineState}
use Rattle.asyncio.specs.declared.ExternalFutureState.{ExternalFutureState}
use Rattle.asyncio.specs.declared.GatherState.{GatherState}
use Rattle.asyncio.specs.declared.Object.{Object}
use Rattle.asyncio.specs.declared.Place.{Place}
use Rattle.asyncio.specs.declared.Moment.{Moment}
use Rattle.asyncio.specs.declared.Header.{Header}
use Rattle.asyncio.specs.Numbers.{heap_id, task_id, call_id}
use Rattle.asyncio.specs.States.{is_live}
use Rattle.asyncio.specs.Kinds.{kind, is_coroutine, is_completed, is_committed}
use Rattle.asyncio.specs.Parts.{awaiter_of, count_of}
use Rattle.asyncio.specs.Limits.{object_limit, place_limit, item_limit, call_limit, u32_limit}
use Rattle.asyncio.specs.Ranges.{HeaderFits, MomentFits, ObjectFits, OptionFits, ValueFits}
use Rattle.machine.specs.Tests.{◌and◌, sum_below}
use Rattle.machine.specs.Store.{Store, View, view, task, object, place, header, put_place, put_header, add_object, set_calls}
use Rattle.machine.specs.Scheduler.{AwaitedGather, PendingExternal, as_awaited, as_pending, blocked_on, bit}
use Rattle.machine.specs.Sound.{places_below, awaiter_in_range, open_in_range, object_in_range, is_slot, task_in_range, committed_places, items_below}
use Rattle.machine.specs.Sound.{value_known, option_known, object_values, is_ended, is_filled, rest_filled, gather_filled, object_filled}
use Rattle.machine.specs.Events.{make_coroutine, make_pending, make_settled, put_items, make_gather}
use Rattle.machine_laws.specs.ValueLaws.{option_stays, object-stays, state_stays}
use Rattle.machine_laws.specs.Views.{Sized, update, with_object, with_places, with_header}
use Rattle.machine_laws.specs.Statements.{AllBelow}
use Rattle.machine_laws.specs.Facts.{Open, Slotted, AwaitedBy, SoundBut, Nothing, SoundFacts, add, AddFits}
use Rattle.machine_laws.specs.TestLaws.{both, both_left, both_right, implies-map, below, from-below, ltb_more, sum_same, sum_last, sum_more}
use Rattle.machine_laws.specs.StoreLaws.{update_same, update_other, update_case, view-put_object, view-put_header, sized-put_header, sized-put_place, sized-set_calls, header_put-header, object_put-header, place_put-place, place_put-other, header-fits}
use Rattle.machine_laws.specs.DeliveryLaws.{absurd_some, awaited-object}

-- ---- a header with higher counts

awaiter_more : (h i : Header) → h.next ≤ i.next → h.made ≤ i.made → (a : Awaiter) → T (awaiter_in_range h a) → T (awaiter_in_range i a)
unfolding awaiter_in_range
awaiter_more h i n m Awaiter.Nobody t = t
awaiter_more h i n m (Awaiter.Task u) t = ltb_more u.0 h.next i.next n t
awaiter_more h i n m (Awaiter.GatherSlot g o) t = ltb_more g.0 h.made i.made m t

object_more : (h i : Header) → h.calls ≤ i.calls → (p : ℕ) (x : Object) → T (object_in_range h p x) → T (object_in_range i p x)
unfolding object_in_range
object_more h i l p Object.Unmade t = t
object_more h i l p (Object.Coroutine f x) t = t
object_more h i l p (Object.ExternalFuture c x) t = ltb_more c.0 h.calls i.calls l t
object_more h i l p (Object.GatherFuture f n x) t = t

-- a made object that is a coroutine is one still
pub task_more : (h i : Header) → h.next ≤ i.next → h.made ≤ i.made → (os ps : ℕ → Object)
    → ((o : ℕ) → o < h.made → T (is_coroutine (kind (os o))) → T (is_coroutine (kind (ps o))))
    → (t : ℕ) (y : Task) → T (task_in_range h os t y) → T (task_in_range i ps t y)
unfolding task_in_range
task_more h i n m os ps k zero y t = t
task_more h i n m os ps k (suc u) y t = implies-map (is_live y.state) _ _ more t
  where
    c : ℕ
    c = y.coroutine.0

    more : T (is_slot y.awaiter and awaiter_in_range h y.awaiter and ltb c h.made and is_coroutine (kind (os c)))
        → T (is_slot y.awaiter and awaiter_in_range i y.awaiter and ltb c i.made and is_coroutine (kind (ps c)))
    more z =
        let z2 = both_right (is_slot y.awaiter) _ z in
        let z3 = both_right (awaiter_in_range h y.awaiter) _ z2 in
        both _ _ (both_left _ _ z) (both _ _ (awaiter_more h i n m y.awaiter (both_left _ _ z2))
        (both _ _ (ltb_more c h.made i.made m (both_left _ _ z3)) (k c (ltb→lt c h.made (both_left _ _ z3)) (both_right (ltb c h.made) _ z3))))

-- ---- the count of calls grows, the moment changes

-- c calls were handed out, and the moment is m
abbrev pub called_at : Header → ℕ → Moment → Header
called_at h c m = record { made = h.made; used = h.used; calls = c; next = h.next; moment = m }

pub header_keeps : (k : ℕ) (P Q : ℕ → Type 0) (v : View) (c : ℕ) (m : Moment) → v.header.calls ≤ c → c ≤ call_limit → MomentFits m
    → (is_ended m ≡ false → is_ended v.header.moment ≡ false) → SoundBut k P Q v → SoundBut k P Q (with_header v (called_at v.header c m))
unfolding with_header
header_keeps k P Q v c m l b f e h =
    let i : Header = called_at v.header c m in
    record {
      fits = record { made_fits = h.fits.made_fits; used_fits = h.fits.used_fits; calls_fit = b; next_fits = h.fits.next_fits; moment_fits = f };
      main = h.main;
      all_used = h.all_used;
      objects = λ o z. object_more v.header i l _ (v.objects o) (h.objects o z);
      awaiters = λ o z. awaiter_more v.header i (le_refl _) (le_refl _) (awaiter_of (v.objects o)) (h.awaiters o z);
      tasks = λ t z. task_more v.header i (le_refl _) (le_refl _) v.objects v.objects (λ o y d. d) t (v.tasks t) (h.tasks t z);
      spawned = h.spawned;
      items = h.items;
      object_lists = h.object_lists;
      task_lists = h.task_lists;
      place_lists = h.place_lists;
      entries = h.entries;
      calls = λ on. h.calls (e on);
      task_of = h.task_of;
      awaits = h.awaits;
      awaited = h.awaited;
      filled = h.filled;
      object_slots = h.object_slots;
      task_slots = h.task_slots;
    }

-- ---- rows that stay where their places do

-- a gather's places are among the first u
within : ℕ → Object → Type 0
within u Object.Unmade = Unit {0}
within u (Object.Coroutine f y) = Unit {0}
within u (Object.ExternalFuture c y) = Unit {0}
within u (Object.GatherFuture f n y) = f + n ≤ u

within_range : (u : ℕ) (h : Header) (p : ℕ) (x : Object) → p + count_of x ≤ u → T (object_in_range h p x) → within u x
unfolding within object_in_range count_of
within_range u h p Object.Unmade l t = tt
within_range u h p (Object.Coroutine f y) l t = tt
within_range u h p (Object.ExternalFuture c y) l t = tt
within_range u h p (Object.GatherFuture f n y) l t = let e : f ≡ p = eqb→eq f p (both_left (eqb f p) _ t) in omega arith

module _ (u : ℕ) (ps qs : ℕ → Place) (same : (p : ℕ) → p < u → qs p ≡ ps p) where
  lower-stays : (g : ℕ) (x : Object) → within u x → T (items_below ps g x) → T (items_below qs g x)
  unfolding within items_below
  lower-stays g Object.Unmade l h = h
  lower-stays g (Object.Coroutine f y) l h = h
  lower-stays g (Object.ExternalFuture c y) l h = h
  lower-stays g (Object.GatherFuture f n y) l h =
      from-below n _ (λ i z. subst (λ (y : Place). T (ltb y.item.0 g)) (sym (same (f + i) (omega arith))) (below n _ h i z))

  rest-stays : (f n m : ℕ) → f + n ≤ u → T (rest_filled ps f n m) → T (rest_filled qs f n m)
  unfolding rest_filled
  rest-stays f n m l h =
      from-below n _ (λ i z. subst (λ (y : Place). T (bit m i || is_filled y.result)) (sym (same (f + i) (omega arith))) (below n _ h i z))

  gather-stays : (f n : ℕ) (y : GatherState) → f + n ≤ u → T (gather_filled ps f n y) → T (gather_filled qs f n y)
  unfolding gather_filled
  gather-stays f n GatherState.Pending l h = h
  gather-stays f n (GatherState.Awaited a m) l h = both _ _ (both_left _ _ h) (rest-stays f n m l (both_right (not (eqb m 0)) _ h))
  gather-stays f n GatherState.Completed l h = rest-stays f n 0 l h
  gather-stays f n (GatherState.Failed e) l h = h

  filled-stays : (x : Object) → within u x → T (object_filled ps x) → T (object_filled qs x)
  unfolding within object_filled
  filled-stays Object.Unmade l h = h
  filled-stays (Object.Coroutine f y) l h = h
  filled-stays (Object.ExternalFuture c y) l h = h
  filled-stays (Object.GatherFuture f n y) l h = gather-stays f n y l h

  open_stays : (x : Object) (w : AwaitedGather) (o : ℕ) → as_awaited x ≡ some w → within u x → Open ps w o → Open qs w o
  unfolding within
  open_stays x w o e l h =
      let fit : w.first + w.count ≤ u = subst (within u) (awaited-object x w e) l in
      record {
        at = h.at;
        under = h.under;
        is_open = h.is_open;
        names = ap (λ (y : Place). y.item.0) (same (w.first + h.at) (omega (arith, h.under))) ∙ h.names;
      }

-- ---- an object is made

pub nobody-task : {t : TaskId} → Awaiter.Nobody ≡ Awaiter.Task t → ⊥
nobody-task e = let z : ◌≡◌ {A = ℕ} 0 1 = cc in omega arith

pub nobody_slot : {g x : HeapId} → Awaiter.Nobody ≡ Awaiter.GatherSlot g x → ⊥
nobody_slot e = let z : ◌≡◌ {A = ℕ} 0 1 = cc in omega arith

module _ (v : View) (x : Object) (n : ℕ) (ps : ℕ → Place) (c : ℕ) (ft : AddFits v x n ps c) (h : SoundBut 0 Nothing Nothing v) where
  abbrev top : ℕ
  top = v.header.made

  abbrev new : ℕ → Object
  new = update v.objects top x

  old : (p : ℕ) → p < top → new p ≡ v.objects p
  old p l = update_other v.objects top x p (λ e. omega arith)

  -- what holds of the new object and of the old ones
  each : (F : ℕ → Object → Type 0) (p : ℕ) → p < top + 1 → F top x → (p < top → F p (v.objects p)) → F p (new p)
  each F p l a b = update_case v.objects top x (F p) p (λ q. subst (λ (m : ℕ). F m x) (sym q) a) (λ ne. b (omega arith))

  sums : (f : Object → ℕ) (p : ℕ) → p ≤ top → sum_below p (λ o. f (new o)) ≡ sum_below p (λ o. f (v.objects o))
  sums f p l = sum_same p _ _ (λ i m. ap f (old i (omega arith)))

  sums-all : (f : Object → ℕ) → sum_below (top + 1) (λ o. f (new o)) ≡ sum_below top (λ o. f (v.objects o)) + f x
  sums-all f =
      let b : sum_below top (λ o. f (new o)) ≡ sum_below top (λ o. f (v.objects o)) = sums f top (le_refl _) in
      let d : f (new top) ≡ f x = ap f (update_same v.objects top x) in
      omega (arith, sum_last (λ o. f (new o)) top)

  in-used : (p : ℕ) → p < top → within v.header.used (v.objects p)
  unfolding places_below
  in-used p l =
      let more : sum_below (p + 1) (λ o. count_of (v.objects o)) ≤ sum_below top (λ o. count_of (v.objects o)) = sum_more _ (p + 1) top (omega arith) in
      let all : v.header.used ≡ sum_below top (λ o. count_of (v.objects o)) = h.all_used in
      within_range v.header.used v.header (places_below v.objects p) (v.objects p)
      (omega (arith, sum_last (λ o. count_of (v.objects o)) p)) (h.objects p l)

  completed-add : (o : ℕ) → o < top → T (is_completed (kind (v.objects o))) → T (is_completed (kind (new o)))
  completed-add o l t = subst (λ (y : Object). T (is_completed (kind y))) (sym (old o l)) t

  object-add : (y : Object) → T (object_values top v.objects y) → T (object_values (top + 1) new y)
  object-add y t = object-stays top (top + 1) (omega arith) v.objects new completed-add y t

  slotted-add : (o g y : ℕ) → Slotted top v.objects v.places o g y → Slotted (top + 1) new ps o g y
  slotted-add o g y sl =
      record {
        own = sl.own;
        made = omega (arith, sl.made);
        committed = subst (λ (z : Object). T (is_committed (kind z))) (sym (old g sl.made)) sl.committed;
        opens = λ w e.
            let f : as_awaited (v.objects g) ≡ some w = ap as_awaited (sym (old g sl.made)) ∙ e in
            open_stays v.header.used v.places ps ft.old_places (v.objects g) w o f (in-used g sl.made) (sl.opens w f);
      }

  place-add : (p : ℕ) → p < v.header.used + n → T (option_known (top + 1) new (ps p).result)
  place-add p z = by (dec_lt p v.header.used)
    where
      by : Dec (p < v.header.used) → T (option_known (top + 1) new (ps p).result)
      by (yes l) =
          option_stays top (top + 1) (omega arith) v.objects new completed-add (ps p).result (subst (λ (y : Place). T (option_known top v.objects y.result)) (sym (ft.old_places p l)) (h.place_lists p l))
      by (no l) = subst (λ (y : OptionValue). T (option_known (top + 1) new y)) (sym (ft.new_places p (omega arith) z)) (unfold option_known in tt)

  calls-add : is_ended v.header.moment ≡ false → (o p : ℕ) → o < top + 1 → p < top + 1 → (a b : PendingExternal)
      → as_pending (new o) ≡ some a → as_pending (new p) ≡ some b → a.call.0 ≡ b.call.0 → o ≡ p
  calls-add on o p y z a b =
      each (λ o r. as_pending r ≡ some a → as_pending (new p) ≡ some b → a.call.0 ≡ b.call.0 → o ≡ p) o y
      (λ e. each (λ p r. as_pending r ≡ some b → a.call.0 ≡ b.call.0 → top ≡ p) p z (λ f q. refl) (λ l f q. absurd (ft.call on a e p l b f q)))
      (λ l e. each (λ p r. as_pending r ≡ some b → a.call.0 ≡ b.call.0 → o ≡ p) p z
      (λ f q. absurd (ft.call on b f o l a e (sym q))) (λ m f q. h.calls on o p l m a b e f q))

  committed-none : committed_places x ≡ 0
  unfolding committed_places
  committed-none = rw ft.fresh

  pub add_keeps : SoundBut 0 Nothing Nothing (add v x n ps c)
  unfolding add places_below
  add_keeps =
      let i : Header = (add v x n ps c).header in
      record {
        fits = ft.room;
        main = h.main;
        all_used =
            let a : v.header.used ≡ sum_below top (λ o. count_of (v.objects o)) = h.all_used in
            omega (arith, sums-all count_of, ft.count);
        objects = λ p z. each (λ p y. T (object_in_range i (places_below new p) y)) p z
            (subst (λ (m : ℕ). T (object_in_range i m x)) (h.all_used ∙ sym (sums count_of top (le_refl _))) ft.range)
            (λ l. subst (λ (m : ℕ). T (object_in_range i m (v.objects p))) (sym (sums count_of p (omega arith)))
            (object_more v.header i ft.calls _ (v.objects p) (h.objects p l)));
        awaiters = λ p z. each (λ p y. T (awaiter_in_range i (awaiter_of y))) p z
            (subst (λ (a : Awaiter). T (awaiter_in_range i a)) (sym ft.free) (unfold awaiter_in_range in tt))
            (λ l. awaiter_more v.header i (le_refl _) (omega arith) (awaiter_of (v.objects p)) (h.awaiters p l));
        tasks = λ t z. task_more v.header i (le_refl _) (omega arith) v.objects new
            (λ o l k. subst (λ (y : Object). T (is_coroutine (kind y))) (sym (old o l)) k) t (v.tasks t) (h.tasks t z);
        spawned = omega (arith, sums-all committed_places, h.spawned, committed-none);
        items = λ p z. each (λ p y. T (items_below ps p y)) p z ft.lower
            (λ l. lower-stays v.header.used v.places ps ft.old_places p (v.objects p) (in-used p l) (h.items p l));
        object_lists = λ p z. each (λ p y. T (object_values (top + 1) new y)) p z (object-add x ft.known) (λ l. object-add (v.objects p) (h.object_lists p l));
        task_lists = λ t z. state_stays top (top + 1) (omega arith) v.objects new completed-add (v.tasks t).state (h.task_lists t z);
        place_lists = place-add;
        entries = h.entries;
        calls = calls-add;
        task_of = h.task_of;
        awaits = λ t l d o e.
            let aw : AwaitedBy top v.objects t o = h.awaits t l d o e in
            record { made = omega (arith, aw.made); awaiter = ap awaiter_of (old o aw.made) ∙ aw.awaiter };
        awaited = λ p z d t. each (λ p y. awaiter_of y ≡ Awaiter.Task (task_id t) → T (is_live (v.tasks t).state) → blocked_on (v.tasks t).state ≡ some p) p z
            (λ e. absurd (nobody-task (sym ft.free ∙ e))) (λ l. h.awaited p l d t);
        filled = λ p z d. each (λ p y. T (object_filled ps y)) p z ft.filled
            (λ l. filled-stays v.header.used v.places ps ft.old_places (v.objects p) (in-used p l) (h.filled p l d));
        object_slots = λ p z d g y. each (λ p r. awaiter_of r ≡ Awaiter.GatherSlot (heap_id g) (heap_id y) → Slotted (top + 1) new ps p g y) p z
            (λ e. absurd (nobody_slot (sym ft.free ∙ e))) (λ l e. slotted-add p g y (h.object_slots p l d g y e));
        task_slots = λ t l a g y e. slotted-add (v.tasks t).coroutine.0 g y (h.task_slots t l a g y e);
      }

-- ---- the event `call`

pub call_keeps : (s : Store) → Sized s → SoundFacts (view s) → (header s).calls < call_limit → SoundFacts (view (set_calls s ((header s).calls + 1)))
unfolding set_calls view with_header
call_keeps s z h l =
    subst SoundFacts (sym (view-put_header s (called_at (header s) ((header s).calls + 1) (header s).moment) z k.fits))
    (record { but = k; runner = h.runner; runs = h.runs })
  where
    k : SoundBut 0 Nothing Nothing (with_header (view s) (called_at (header s) ((header s).calls + 1) (header s).moment))
    k = unfold view in
        (header_keeps 0 Nothing Nothing (view s) ((header s).calls + 1) (header s).moment (omega arith) (omega arith) h.but.fits.moment_fits (λ e. e) h.but)

-- ---- an object is added to the store

-- the header with one object more, and n places
abbrev pub added_to : Header → ℕ → Header
added_to h n = record { made = h.made + 1; used = h.used + n; calls = h.calls; next = h.next; moment = h.moment }

pub added_fits : (s : Store) (n : ℕ) → (header s).made < object_limit → (header s).used + n ≤ place_limit → HeaderFits (added_to (header s) n)
added_fits s n l r =
    let f : HeaderFits (header s) = header-fits s in
    record { made_fits = omega arith; used_fits = r; calls_fit = f.calls_fit; next_fits = f.next_fits; moment_fits = f.moment_fits }

pub view-add : (s : Store) (x : Object) (n : ℕ) → Sized s → (header s).made < object_limit → (header s).used + n ≤ place_limit → ObjectFits x
    → view (add_object s x n) ≡ add (view s) x n (place s) (header s).calls
unfolding add_object view add with_object with_header
view-add s x n z l r f =
    let i : Header = added_to (header s) n in
    view-put_object (put_header s i) (header s).made x (sized-put_header s i z) l f
    ∙ ap (λ (v : View). with_object v (header s).made x) (view-put_header s i z (added_fits s n l r))

-- a value that may be handed on is in range
pub value-fits : (n : ℕ) (os : ℕ → Object) (v : Value) → n ≤ object_limit → T (value_known n os v) → ValueFits v
unfolding value_known
value-fits n os (Value.Plain k) l t = tt
value-fits n os (Value.List g) l t = omega (arith, ltb→lt g.0 n (both_left _ _ t))

pub option_fits : (n : ℕ) (os : ℕ → Object) (r : OptionValue) → n ≤ object_limit → T (option_known n os r) → OptionFits r
unfolding option_known
option_fits n os None l t = tt
option_fits n os (Some v) l t = value-fits n os v l t

module _ (s : Store) (z : Sized s) (h : SoundFacts (view s)) (l : (header s).made < object_limit) where
  add-sound : (x : Object) (n : ℕ) → ObjectFits x → (header s).used + n ≤ place_limit → AddFits (view s) x n (place s) (header s).calls
      → SoundFacts (view (add_object s x n))
  add-sound x n f r ft =
      subst SoundFacts (sym (view-add s x n z l r f)) (unfold add view in
      (record { but = add_keeps (view s) x n (place s) (header s).calls ft h.but; runner = h.runner; runs = h.runs }))

  no-places : (header s).used + 0 ≤ place_limit
  no-places = omega (arith, (header-fits s).used_fits)

  -- ---- the event `coroutine`

  coroutine_fits : (f : ℕ) → AddFits (view s) (Object.Coroutine f CoroutineState.New) 0 (place s) (header s).calls
  unfolding view add kind count_of object_in_range items_below object_values as_pending awaiter_of object_filled
  coroutine_fits f = record {
    room = added_fits s 0 l no-places;
    calls = le_refl _;
    count = refl;
    fresh = refl;
    range = tt;
    lower = tt;
    known = tt;
    call = λ on a e. absurd_some e;
    free = refl;
    filled = tt;
    old_places = λ p y. refl;
    new_places = λ p y k. absurd (not-suc-le-zero {n = 0} (omega arith));
  }

  pub coroutine_keeps : (f : ℕ) → f < u32_limit → SoundFacts (view (make_coroutine s f))
  unfolding make_coroutine
  coroutine_keeps f k = add-sound (Object.Coroutine f CoroutineState.New) 0 k no-places (coroutine_fits f)

  -- ---- the events `pending` and `settled`: an external with no awaiter, of a call that was handed out

  module _ (c : ℕ) (k : c < (header s).calls) where
    c-fits : c < u32_limit
    c-fits = omega (arith, (header-fits s).calls_fit)

    pending-fits : (r : OptionValue) → T (option_known (header s).made (object s) r)
        → ((p : ℕ) → p < (header s).made → (b : PendingExternal) → as_pending (object s p) ≡ some b → c ≡ b.call.0 → ⊥)
        → AddFits (view s) (Object.ExternalFuture (call_id c) (ExternalFutureState.Pending Awaiter.Nobody r)) 0 (place s) (header s).calls
    unfolding view add kind count_of object_in_range items_below object_values as_pending awaiter_of object_filled
    pending-fits r t new = record {
      room = added_fits s 0 l no-places;
      calls = le_refl _;
      count = refl;
      fresh = refl;
      range = lt→ltb c (header s).calls k;
      lower = tt;
      known = t;
      call = λ on a e p m b f q. new p m b f (ap (λ (u : PendingExternal). u.call.0) (some-injective _ a e) ∙ q);
      free = refl;
      filled = tt;
      old_places = λ p y. refl;
      new_places = λ p y j. absurd (not-suc-le-zero {n = 0} (omega arith));
    }

    resolved-fits : (v : Value) → T (value_known (header s).made (object s) v)
        → AddFits (view s) (Object.ExternalFuture (call_id c) (ExternalFutureState.Resolved v)) 0 (place s) (header s).calls
    unfolding view add kind count_of object_in_range items_below object_values as_pending awaiter_of object_filled
    resolved-fits v t = record {
      room = added_fits s 0 l no-places;
      calls = le_refl _;
      count = refl;
      fresh = refl;
      range = lt→ltb c (header s).calls k;
      lower = tt;
      known = t;
      call = λ on a e. absurd_some e;
      free = refl;
      filled = tt;
      old_places = λ p y. refl;
      new_places = λ p y j. absurd (not-suc-le-zero {n = 0} (omega arith));
    }

    resolved-sound : (v : Value) → T (value_known (header s).made (object s) v)
        → SoundFacts (view (add_object s (Object.ExternalFuture (call_id c) (ExternalFutureState.Resolved v)) 0))
    resolved-sound v t = add-sound _ 0 (c-fits, value-fits _ (object s) v (omega arith) t) no-places (resolved-fits v t)

    pub pending_keeps : (r : OptionValue) → T (option_known (header s).made (object s) r)
        → ((p : ℕ) → p < (header s).made → (b : PendingExternal) → as_pending (object s p) ≡ some b → c ≡ b.call.0 → ⊥)
        → SoundFacts (view (make_pending s c r))
    unfolding make_pending
    pending_keeps r t new = add-sound _ 0 (c-fits, (tt, option_fits _ (object s) r (omega arith) t)) no-places (pending-fits r t new)

module _ (s : Store) (z : Sized s) where
  -- the store with one call more
  unfoldable pub next_calls : Store
  next_calls = set_calls s ((header s).calls + 1)

  pub next-header : (header s).calls < call_limit → header next_calls ≡ called_at (header s) ((header s).calls + 1) (header s).moment
  unfolding next_calls set_calls
  next-header k =
      let f : HeaderFits (header s) = header-fits s in
      header_put-header s _ z (record { made_fits = f.made_fits; used_fits = f.used_fits; calls_fit = omega arith; next_fits = f.next_fits; moment_fits = f.moment_fits })

  next-objects : ◌≡◌ {A = ℕ → Object} (object next_calls) (object s)
  unfolding next_calls set_calls
  next-objects = λ i o. object_put-header s (called_at (header s) ((header s).calls + 1) (header s).moment) o i

  pub next-sized : Sized next_calls
  unfolding next_calls
  next-sized = sized-set_calls s ((header s).calls + 1) z

  pub settled_keeps : SoundFacts (view s) → (header s).made < object_limit → (header s).calls < call_limit → (v : Value)
      → T (value_known (header s).made (object s) v) → SoundFacts (view (make_settled s v))
  unfolding make_settled next_calls
  settled_keeps h l k v t =
      let e = next-header k in
      resolved-sound next_calls next-sized (call_keeps s z h k) (subst (λ (y : Header). y.made < object_limit) (sym e) l)
      (header s).calls (subst (λ (y : Header). (header s).calls < y.calls) (sym e) (omega arith)) v
      (subst (λ (y : Header). T (value_known y.made (object next_calls) v)) (sym e)
      (subst (λ (os : ℕ → Object). T (value_known (header s).made os v)) (sym next-objects) t))

-- ---- the event `gather`

-- a place that names o, with no result yet
abbrev pub blank : ℕ → Place
blank o = record { item = heap_id o; result = None }

pub items-view : (os : List ℕ) (s : Store) (p : ℕ) → view (put_items s p os) ≡ with_places (view s) (place (put_items s p os))
unfolding put_items with_places view put_place task object header
items-view [] s p = refl
items-view (o ∷ os) s p = items-view os (put_place s p (blank o)) (p + 1)

pub items-sized : (os : List ℕ) (s : Store) (p : ℕ) → Sized s → Sized (put_items s p os)
unfolding put_items
items-sized [] s p z = z
items-sized (o ∷ os) s p z = items-sized os (put_place s p (blank o)) (p + 1) (sized-put_place s p (blank o) z)

items-before : (os : List ℕ) (s : Store) (p q : ℕ) → q < p → place (put_items s p os) q ≡ place s q
unfolding put_items
items-before [] s p q l = refl
items-before (o ∷ os) s p q l =
    items-before os (put_place s p (blank o)) (p + 1) q (omega arith) ∙ place_put-other s p q (blank o) (λ e. omega arith)

-- a place that names an object below n, with no result yet
record Fresh (n : ℕ) (r : Place) : Type 0 where
  empty : r.result ≡ None
  lower : r.item.0 < n

items_there : (os : List ℕ) (s : Store) (p q n : ℕ) → Sized s → n ≤ object_limit → AllBelow n os → p ≤ q → q < p + length os → p + length os ≤ place_limit
    → Fresh n (place (put_items s p os) q)
unfolding put_items AllBelow
items_there [] s p q n z m a l r i = absurd (not-suc-le-zero {n = 0} (omega arith))
items_there (o ∷ os) s p q n z m a l r i =
    by (ℕ_discrete q p) (λ ne. items_there os (put_place s p (blank o)) (p + 1) q n (sized-put_place s p (blank o) z) m a.1 (omega arith) (omega arith) (omega arith))
  where
    there : q ≡ p → place (put_items (put_place s p (blank o)) (p + 1) os) q ≡ blank o
    there e =
        items-before os (put_place s p (blank o)) (p + 1) q (omega arith)
        ∙ (rw e (place_put-place s p (blank o) z (omega arith) (record { item_fits = omega (arith, a.0); result_fits = tt })))

    by : Dec (q ≡ p) → ((q ≡ p → ⊥) → Fresh n (place (put_items (put_place s p (blank o)) (p + 1) os) q))
        → Fresh n (place (put_items (put_place s p (blank o)) (p + 1) os) q)
    by (yes e) f = subst (Fresh n) (sym (there e)) (record { empty = refl; lower = a.0 })
    by (no ne) f = f ne

module _ (s : Store) (os : List ℕ) (z : Sized s) (h : SoundFacts (view s)) (l : (header s).made < object_limit) (few : length os ≤ item_limit) (r : (header s).used + length os ≤ place_limit) (low : AllBelow (header s).made os) where
  filled_in : Store
  filled_in = put_items s (header s).used os

  abbrev gathered : Object
  gathered = Object.GatherFuture (header s).used (length os) GatherState.Pending

  same_header : header filled_in ≡ header s
  unfolding filled_in view with_places
  same_header = ap (λ (v : View). v.header) (items-view os s (header s).used)

  there : (p : ℕ) → (header s).used ≤ p → p < (header s).used + length os → Fresh (header s).made (place filled_in p)
  unfolding filled_in
  there p a b = items_there os s (header s).used p (header s).made z (omega arith) low a b r

  gather-fits : AddFits (view s) gathered (length os) (place filled_in) (header s).calls
  unfolding view add kind count_of object_in_range open_in_range items_below object_values as_pending awaiter_of object_filled gather_filled filled_in
  gather-fits = record {
    room = added_fits s (length os) l r;
    calls = le_refl _;
    count = refl;
    fresh = refl;
    range = both _ _ (eqb_refl (header s).used) tt;
    lower = from-below (length os) _ (λ i k. lt→ltb _ (header s).made (there ((header s).used + i) (omega arith) (omega arith)).lower);
    known = tt;
    call = λ on a e. absurd_some e;
    free = refl;
    filled = tt;
    old_places = λ p y. items-before os s (header s).used p y;
    new_places = λ p y k. (there p y k).empty;
  }

  gather-view : view (add_object filled_in gathered (length os)) ≡ add (view s) gathered (length os) (place filled_in) (header s).calls
  unfolding filled_in add with_places view
  gather-view =
      let e : header filled_in ≡ header s = same_header in
      view-add filled_in gathered (length os) (items-sized os s (header s).used z) (subst (λ (y : Header). y.made < object_limit) (sym e) l)
      (subst (λ (y : Header). y.used + length os ≤ place_limit) (sym e) r) (record { within = r; at_most = few }, tt)
      ∙ ap (λ (v : View). add v gathered (length os) (place filled_in) v.header.calls) (items-view os s (header s).used)

  pub gather_keeps : SoundFacts (view (make_gather s os))
  unfolding make_gather filled_in
  gather_keeps =
      subst SoundFacts (sym gather-view) (unfold add view in
      (record { but = add_keeps (view s) gathered (length os) (place filled_in) (header s).calls gather-fits h.but; runner = h.runner; runs = h.runs }))
