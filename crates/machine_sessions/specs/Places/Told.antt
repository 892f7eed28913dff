-- What the rows tell. `frozen` is what of an object's row no commit, delivery or switch changes; `told` is what an object has delivered by that, with the
-- values of coroutines handed in. `Told`: every filled place holds what its item has delivered.
use Rattle.std.specs.Prelude.{◌≡◌, Bool, not, ◌&&◌, List, [], ◌∷◌, eqb, length}
use Rattle.std.proofs.Math.Path.{refl, sym, ap, subst}
use Rattle.std.proofs.Common.{ap₂, ◌∙◌, true≢false, mod-eq_of_lt, not-suc-le-zero, arith, eqb-true}
use Rattle.std.proofs.Math.Bool.{true, false}
use Rattle.std.proofs.Math.Option.{Option, none, some, some-injective}
use Prim.Native.Nat.{ℕ, zero, suc, ◌+◌, ◌-◌, ◌%◌, ◌^◌, ◌≤◌, ◌<◌}
use Rattle.std.proofs.Math.Decide.{ℕ_discrete}
use Rattle.asyncio.specs.declared.HeapId.{HeapId}
use Rattle.asyncio.specs.declared.CallId.{CallId}
use Rattle.asyncio.specs.declared.Value.{Value}
use Rattle.asyncio.specs.declared.Error.{Error}
use Rattle.asyncio.specs.Options.{OptionValue}
use Rattle.std.specs.Prelude.{None, Some}
use Rattle.asyncio.specs.declared.Awaiter.{Awaiter}
use Rattle.asyncio.specs.declared.TaskState.{TaskState}
use Rattle.asyncio.specs.declared.Task.{Task}
use Rattle.asyncio.specs.declared.CoroutineState.{CoroutineState}
use Rattle.asyncio.specs.declared.ExternalFutureState.{ExternalFutureState}
use Rattle.asyncio.specs.declared.GatherState.{GatherState}
use Rattle.asyncio.specs.declared.Object.{Object}
use Rattle.asyncio.specs.declared.Place.{Place}
use Rattle.asyncio.specs.declared.Header.{Header}
use Rattle.asyncio.specs.declared.Moment.{Moment}
use Rattle.asyncio.specs.Limits.{object_limit, task_limit, place_limit, places_length, tasks_length, objects_length}
use Rattle.asyncio.specs.Numbers.{heap_id, task_id}
use Rattle.asyncio.specs.Ranges.{ObjectFits, PlacesFit, ValueFits, MomentFits, HeaderFits}
use Rattle.asyncio.specs.RangeLaws.{object_back}
use Rattle.asyncio.specs.Layout.{object_words, to_object, task_words, to_task, state_words, to_state, awaiter_words, to_awaiter}
use Rattle.asyncio.specs.States.{pick, is_live, is_ready, is_blocked, is_unstarted}
use Rattle.asyncio.specs.Parts.{awaiter_of}
use Rattle.rows.specs.Tables.{object_at, place_at, place_put, task_at, task_put, task_codec, task_start, header_at}
use Rattle.rows.specs.RowLaws.{row-put_at}
use Rattle.rows.specs.TableLaws.{place_at_put, place_at-other, place_at-fits, length-place_put}
use Rattle.queue.specs.declared.ReadyQueue.{ReadyQueue}
use Rattle.machine.specs.Store.{Store, LogEntry, task, object, place, header, put_task, put_header, put_object, put_place, put_places, put_queue, add_log, restate, set_state, set_moment, set_next, absent, spawned, blocked, reached, exited, removed}
use Rattle.machine.specs.Scheduler.{AwaitedGather, as_awaited, bit, make_ready, push_ready, remove_from_ready_queue, remove_task, spawn_as}
use Rattle.machine.specs.Delivery.{Filled, filled, fill_one, fill_from}
use Rattle.machine_laws.specs.Views.{Sized}
use Rattle.machine_laws.specs.StoreLaws.{object-fits, place-fits, task-fits, header-fits, header_put-header, header_put-object, object_put-other, object_put-header, task_put-other, live-put_task, place_put-place, place_put-other}
use Rattle.machine_laws.specs.StoreLaws.{sized-put_task, sized-put_object, sized-put_place, sized-put_header, sized-put_places, sized-put_queue, sized-add_log, sized-set_state, sized-set_moment, sized-set_next}
use Rattle.machine_laws.specs.DeliveryLaws.{absurd_some, awaited-object, length-fill_from}
use Rattle.machine_laws.specs.Walk.{Turns, same, takes, starts, turns}
use Rattle.machine_theorems.specs.Soundness.RowFacts.{blocked-live}
use Rattle.machine_sessions.specs.Waits.Calls.{read_back, moment_row}
use Rattle.machine_sessions.specs.Queue.Tracked.{spawn-row}

-- ---- the frozen part of a row

pub data Frozen : Type 0 where
  unmade : Frozen
  -- a coroutine, completed or not
  co : Bool → Frozen
  -- a pending external of a call, with its stored result
  pends : ℕ → OptionValue → Frozen
  gave : Value → Frozen
  broke : Error → Frozen
  -- a gather: its first place and how many
  many : ℕ → ℕ → Frozen

unfoldable pub frozen : Object → Frozen
frozen Object.Unmade = unmade
frozen (Object.Coroutine f CoroutineState.New) = co false
frozen (Object.Coroutine f CoroutineState.Running) = co false
frozen (Object.Coroutine f CoroutineState.Completed) = co true
frozen (Object.ExternalFuture c (ExternalFutureState.Pending a r)) = pends c.0 r
frozen (Object.ExternalFuture c (ExternalFutureState.Resolved v)) = gave v
frozen (Object.ExternalFuture c (ExternalFutureState.Failed e)) = broke e
frozen (Object.GatherFuture f n x) = many f n

-- what object o has delivered; a gather its list, if anything
unfoldable pub told : (ℕ → Option Value) → ℕ → Frozen → Option Value
told D o unmade = none
told D o (co b) = D o
told D o (pends c r) = none
told D o (gave v) = some v
told D o (broke e) = none
told D o (many f n) = some (Value.List (heap_id o))

unfoldable pub first_place : Frozen → ℕ
first_place unmade = 0
first_place (co b) = 0
first_place (pends c r) = 0
first_place (gave v) = 0
first_place (broke e) = 0
first_place (many f n) = f

unfoldable pub place_count : Frozen → ℕ
place_count unmade = 0
place_count (co b) = 0
place_count (pends c r) = 0
place_count (gave v) = 0
place_count (broke e) = 0
place_count (many f n) = n

-- a slot's source is the object o
abbrev pub EndsTask : ℕ → Awaiter → Type 0
EndsTask o Awaiter.Nobody = Unit {0}
EndsTask o (Awaiter.Task t) = Unit {0}
EndsTask o (Awaiter.GatherSlot g x) = x.0 ≡ o

-- ---- reading back

gather_back : (f n : ℕ) (y : GatherState) → PlacesFit f n → frozen (to_object (object_words (Object.GatherFuture f n y))) ≡ many f n
unfolding frozen
gather_back f n GatherState.Pending k = ap frozen (object_back (Object.GatherFuture f n GatherState.Completed) (k, tt))
gather_back f n (GatherState.Awaited a m) k = ap frozen (object_back (Object.GatherFuture f n GatherState.Completed) (k, tt))
gather_back f n GatherState.Completed k = ap frozen (object_back (Object.GatherFuture f n GatherState.Completed) (k, tt))
gather_back f n (GatherState.Failed e) k = ap frozen (object_back (Object.GatherFuture f n GatherState.Completed) (k, tt))

-- a row that turns is read back with what is frozen
pub turn_frozen : (x y : Object) → Turns x y → ObjectFits x → frozen (to_object (object_words y)) ≡ frozen x
turn_frozen x y (same z) f = ap frozen (object_back z f)
turn_frozen x y (takes c r a) f = unfold frozen in (ap frozen (object_back (Object.ExternalFuture c (ExternalFutureState.Pending Awaiter.Nobody r)) f))
turn_frozen x y (starts f) g = unfold frozen in refl
turn_frozen x y (turns f n a b) g = gather_back f n b g.0 ∙ (unfold frozen in refl)

awaiter_own : (o : ℕ) (a : Awaiter) → o < object_limit → EndsTask o a → EndsTask o (to_awaiter (awaiter_words a).0 (awaiter_words a).1 (awaiter_words a).2)
awaiter_own o Awaiter.Nobody l k = tt
awaiter_own o (Awaiter.Task t) l k = tt
awaiter_own o (Awaiter.GatherSlot g x) l k = ap (λ (n : ℕ). n % object_limit) k ∙ mod-eq_of_lt l

-- and its awaiter is its own
pub own_back : (o : ℕ) (y : Object) → o < object_limit → EndsTask o (awaiter_of y) → EndsTask o (awaiter_of (to_object (object_words y)))
unfolding awaiter_of
own_back o Object.Unmade l k = tt
own_back o (Object.Coroutine f CoroutineState.New) l k = tt
own_back o (Object.Coroutine f CoroutineState.Running) l k = tt
own_back o (Object.Coroutine f CoroutineState.Completed) l k = tt
own_back o (Object.ExternalFuture c (ExternalFutureState.Pending a r)) l k = awaiter_own o a l k
own_back o (Object.ExternalFuture c (ExternalFutureState.Resolved v)) l k = tt
own_back o (Object.ExternalFuture c (ExternalFutureState.Failed e)) l k = tt
own_back o (Object.GatherFuture f n GatherState.Pending) l k = tt
own_back o (Object.GatherFuture f n (GatherState.Awaited a m)) l k = awaiter_own o a l k
own_back o (Object.GatherFuture f n GatherState.Completed) l k = tt
own_back o (Object.GatherFuture f n (GatherState.Failed e)) l k = tt

-- a task's row
unstarted_words : (x : TaskState) → is_unstarted (to_state (state_words x).0 (state_words x).1 (state_words x).2) ≡ is_unstarted x
unstarted_words TaskState.Absent = refl
unstarted_words TaskState.Unstarted = refl
unstarted_words TaskState.Running = refl
unstarted_words (TaskState.Woken v) = refl
unstarted_words (TaskState.Raised e) = refl
unstarted_words (TaskState.Blocked o) = refl

pub task_back : (s : Store) (t : ℕ) (r : Task) → Sized s → t < task_limit → task (put_task s t r) t ≡ to_task (task_words r)
unfolding task put_task task_at task_put
task_back s t r z l = ap to_task (row-put_at task_codec s.tasks (task_start t) r (omega (arith, z.tasks_sized)))

pub unstarted_back : (s : Store) (t : ℕ) (r : Task) → Sized s → t < task_limit → is_unstarted (task (put_task s t r) t).state ≡ is_unstarted r.state
unstarted_back s t r z l = ap (λ (y : Task). is_unstarted y.state) (task_back s t r z l) ∙ unstarted_words r.state

pub coroutine_back : (s : Store) (t : ℕ) (r : Task) → Sized s → t < task_limit → r.coroutine.0 < object_limit → (task (put_task s t r) t).coroutine.0 ≡ r.coroutine.0
coroutine_back s t r z l f = ap (λ (y : Task). y.coroutine.0) (task_back s t r z l) ∙ mod-eq_of_lt f

task_own_back : (s : Store) (t : ℕ) (r : Task) (c : ℕ) → Sized s → t < task_limit → c < object_limit → EndsTask c r.awaiter → EndsTask c (task (put_task s t r) t).awaiter
task_own_back s t r c z l m k = subst (λ (y : Task). EndsTask c y.awaiter) (sym (task_back s t r z l)) (awaiter_own c r.awaiter m k)

-- ---- what every store in the midst of an event has: q the frozen rows, n the objects made, i the items; D the values of coroutines, S which coroutine
-- each task has started

pub record TaskTold (D : ℕ → Option Value) (S : ℕ → Option ℕ) (t : ℕ) (r : Task) : Type 0 where
  pub undelivered : D r.coroutine.0 ≡ none
  pub started : is_unstarted r.state ≡ false → S t ≡ some r.coroutine.0
  pub own : EndsTask r.coroutine.0 r.awaiter

-- a place's value is its item's
abbrev pub Holds : (ℕ → Frozen) → (ℕ → Option Value) → ℕ → OptionValue → Type 0
Holds q D o None = Unit {0}
Holds q D o (Some v) = told D o (q o) ≡ some v

pub record Told (q : ℕ → Frozen) (n : ℕ) (i : ℕ → ℕ) (D : ℕ → Option Value) (S : ℕ → Option ℕ) (u : Store) : Type 0 where
  pub sized : Sized u
  pub made : (header u).made ≡ n
  pub begun : 1 ≤ (header u).next
  pub rows : (o : ℕ) → frozen (object u o) ≡ q o
  pub items : (p : ℕ) → (place u p).item.0 ≡ i p
  pub holds : (p : ℕ) → Holds q D (i p) (place u p).result
  pub own : (o : ℕ) → EndsTask o (awaiter_of (object u o))
  pub tasks : (t : ℕ) → suc t < (header u).next → is_live (task u (suc t)).state ≡ true → TaskTold D S (suc t) (task u (suc t))
  pub main : is_unstarted (task u 0).state ≡ false

-- the value of an object, and it fits
pub record Gives (q : ℕ → Frozen) (D : ℕ → Option Value) (o : ℕ) (v : Value) : Type 0 where
  pub tells : told D o (q o) ≡ some v
  pub fits : ValueFits v

-- ---- each write

task-same : (s : Store) (t : ℕ) (r : Task) (o : ℕ) → object (put_task s t r) o ≡ object s o
unfolding put_task object
task-same s t r o = refl

module _ (q : ℕ → Frozen) (n : ℕ) (i : ℕ → ℕ) (D : ℕ → Option Value) (S : ℕ → Option ℕ) where
  abbrev K : Store → Type 0
  K u = Told q n i D S u

  -- the words as they were but for queue and log
  pub told_like : (s u : Store) → Sized u → (header u).made ≡ (header s).made → (header u).next ≡ (header s).next → ((o : ℕ) → object u o ≡ object s o) → ((p : ℕ) → place u p ≡ place s p) → ((t : ℕ) → task u t ≡ task s t) → K s → K u
  told_like s u z m nx os ps ts k =
      record {
        sized = z;
        made = m ∙ k.made;
        begun = subst (λ (m : ℕ). 1 ≤ m) (sym nx) k.begun;
        rows = λ o. ap frozen (os o) ∙ k.rows o;
        items = λ p. ap (λ (x : Place). x.item.0) (ps p) ∙ k.items p;
        holds = λ p. subst (λ (x : Place). Holds q D (i p) x.result) (sym (ps p)) (k.holds p);
        own = λ o. subst (λ (x : Object). EndsTask o (awaiter_of x)) (sym (os o)) (k.own o);
        tasks = λ t b l. subst (TaskTold D S (suc t)) (sym (ts (suc t))) (k.tasks t (subst (λ (m : ℕ). suc t < m) nx b) (sym (ap (λ (r : Task). is_live r.state) (ts (suc t))) ∙ l));
        main = ap (λ (r : Task). is_unstarted r.state) (ts 0) ∙ k.main;
      }

  -- an object's row is written
  pub row_told : (s : Store) (o : ℕ) (x : Object) → o < object_limit → frozen (to_object (object_words x)) ≡ q o → EndsTask o (awaiter_of x) → K s → K (put_object s o x)
  row_told s o x l e w k =
      record {
        sized = sized-put_object s o x k.sized;
        made = ap (λ (h : Header). h.made) (header_put-object s o x) ∙ k.made;
        begun = subst (λ (h : Header). 1 ≤ h.next) (sym (header_put-object s o x)) k.begun;
        rows = λ p. by p (ℕ_discrete p o);
        items = λ p. unfold place put_object in (unfold place in (k.items p));
        holds = λ p. unfold place put_object in (unfold place in (k.holds p));
        own = λ p. own-by p (ℕ_discrete p o);
        tasks = λ t b m. unfold task put_object in (unfold task in (k.tasks t (subst (λ (h : Header). suc t < h.next) (header_put-object s o x) b) (unfold task put_object in m)));
        main = unfold task put_object in (unfold task in k.main);
      }
    where
      by : (p : ℕ) → Dec (p ≡ o) → frozen (object (put_object s o x) p) ≡ q p
      by p (yes d) = subst (λ (m : ℕ). frozen (object (put_object s o x) m) ≡ q m) (sym d) (ap frozen (read_back s o x k.sized l) ∙ e)
      by p (no ne) = ap frozen (object_put-other s o p x ne) ∙ k.rows p

      own-by : (p : ℕ) → Dec (p ≡ o) → EndsTask p (awaiter_of (object (put_object s o x) p))
      own-by p (yes d) = subst (λ (m : ℕ). EndsTask m (awaiter_of (object (put_object s o x) m))) (sym d) (subst (λ (y : Object). EndsTask o (awaiter_of y)) (sym (read_back s o x k.sized l)) (own_back o x l w))
      own-by p (no ne) = subst (λ (y : Object). EndsTask p (awaiter_of y)) (sym (object_put-other s o p x ne)) (k.own p)

  pub turns-told : (s : Store) (o : ℕ) (x : Object) → o < object_limit → Turns (object s o) x → EndsTask o (awaiter_of x) → K s → K (put_object s o x)
  turns-told s o x l t w k = row_told s o x l (turn_frozen (object s o) x t (object-fits s o) ∙ k.rows o) w k

  -- the places
  pub places-told : (s : Store) (ps : List ℕ) → length ps ≡ places_length → ((p : ℕ) → (place_at ps p).item.0 ≡ i p) → ((p : ℕ) → Holds q D (i p) (place_at ps p).result) → K s → K (put_places s ps)
  unfolding put_places place object task header
  places-told s ps z it ho k = record { sized = sized-put_places s ps z k.sized; made = k.made; begun = k.begun; rows = k.rows; items = it; holds = ho; own = k.own; tasks = k.tasks; main = k.main }

  -- one place of the words
  one_told : (ps : List ℕ) (p : ℕ) (v : Value) → length ps ≡ places_length → p < place_limit → Gives q D (place_at ps p).item.0 v → ((r : ℕ) → (place_at ps r).item.0 ≡ i r) → ((r : ℕ) → Holds q D (i r) (place_at ps r).result)
      → (r : ℕ) → ((place_at (place_put ps p (record { item = (place_at ps p).item; result = Some v })) r).item.0 ≡ i r)
      × Holds q D (i r) (place_at (place_put ps p (record { item = (place_at ps p).item; result = Some v })) r).result
  one_told ps p v z l g it ho r = by (ℕ_discrete r p)
    where
      y : Place
      y = record { item = (place_at ps p).item; result = Some v }

      now : place_at (place_put ps p y) p ≡ y
      now = place_at_put ps p y (record { item_fits = (place_at-fits ps p).item_fits; result_fits = g.fits }) (omega (arith, z, l))

      by : Dec (r ≡ p) → ((place_at (place_put ps p y) r).item.0 ≡ i r) × Holds q D (i r) (place_at (place_put ps p y) r).result
      by (yes d) =
          subst (λ (m : ℕ). ((place_at (place_put ps p y) m).item.0 ≡ i m) × Holds q D (i m) (place_at (place_put ps p y) m).result) (sym d)
          (ap (λ (x : Place). x.item.0) now ∙ it p, subst (λ (x : Place). Holds q D (i p) x.result) (sym now) (subst (λ (m : ℕ). told D m (q m) ≡ some v) (it p) g.tells))
      by (no ne) =
          let e : place_at (place_put ps p y) r ≡ place_at ps r = place_at-other ps p r y ne in
          (ap (λ (x : Place). x.item.0) e ∙ it r, subst (λ (x : Place). Holds q D (i r) x.result) (sym e) (ho r))

  pub value-told : (s : Store) (p : ℕ) (v : Value) → p < place_limit → Gives q D (place s p).item.0 v → K s → K (put_place s p (record { item = (place s p).item; result = Some v }))
  unfolding put_place place object task header
  value-told s p v l g k =
      let y = one_told s.places p v k.sized.places_sized l g k.items k.holds in
      record {
        sized = unfold put_place in (sized-put_place s p _ k.sized);
        made = k.made;
        begun = k.begun;
        rows = k.rows;
        items = λ r. (y r).0;
        holds = λ r. (y r).1;
        own = k.own;
        tasks = k.tasks;
        main = k.main;
      }

  -- a filling
  fill-told : (m : ℕ) (ps : List ℕ) (w f x : ℕ) (v : Value) (j : ℕ) → length ps ≡ places_length → f + j + m ≤ place_limit → Gives q D x v → ((r : ℕ) → (place_at ps r).item.0 ≡ i r) → ((r : ℕ) → Holds q D (i r) (place_at ps r).result)
      → (r : ℕ) → ((place_at (fill_from ps w f x v j m).places r).item.0 ≡ i r) × Holds q D (i r) (place_at (fill_from ps w f x v j m).places r).result
  unfolding fill_from
  fill-told zero ps w f x v j z l g it ho r = (it r, ho r)
  fill-told (suc m) ps w f x v j z l g it ho r =
      let a : (y : ℕ) → ((place_at (fill_one ps w (f + j) j x v).places y).item.0 ≡ i y) × Holds q D (i y) (place_at (fill_one ps w (f + j) j x v).places y).result =
      λ y. unfold fill_one in (one (bit w j) (eqb (place_at ps (f + j)).item.0 x) refl y) in
      fill-told m (fill_one ps w (f + j) j x v).places (fill_one ps w (f + j) j x v).open_places f x v (j + 1) (unfold fill_from in (length-fill_from 1 ps w f x v j) ∙ z) (omega (arith, l)) g (λ y. (a y).0) (λ y. (a y).1) r
    where
      put : Filled
      put = filled (place_put ps (f + j) (record { item = (place_at ps (f + j)).item; result = Some v })) (w - 2 ^ j)

      one : (b c : Bool) → eqb (place_at ps (f + j)).item.0 x ≡ c → (y : ℕ)
          → ((place_at (pick b (pick c put (filled ps w)) (filled ps w)).places y).item.0 ≡ i y) × Holds q D (i y) (place_at (pick b (pick c put (filled ps w)) (filled ps w)).places y).result
      one true true e y =
          one_told ps (f + j) v z (omega (arith, l)) (subst (λ (o : ℕ). Gives q D o v) (sym (eqb-true _ x e)) g) it ho y
      one true false e y = (it y, ho y)
      one false c e y = (it y, ho y)

  pub fills_told : (s : Store) (w f x m : ℕ) (v : Value) → f + m ≤ place_limit → Gives q D x v → K s → K (put_places s (fill_from s.places w f x v 0 m).places)
  fills_told s w f x m v l g k =
      let a = fill-told m s.places w f x v 0 k.sized.places_sized (omega (arith, l)) g (unfold place in k.items) (unfold place in k.holds) in
      places-told s _ (length-fill_from m s.places w f x v 0 ∙ k.sized.places_sized) (λ r. (a r).0) (λ r. (a r).1) k

  -- ---- tasks

  -- as it is read back
  task-row-back : (s : Store) (t : ℕ) (r : Task) → Sized s → t < task_limit → r.coroutine.0 < object_limit → TaskTold D S t r → TaskTold D S t (task (put_task s t r) t)
  task-row-back s t r z b c y =
      let ce : (task (put_task s t r) t).coroutine.0 ≡ r.coroutine.0 = coroutine_back s t r z b c in
      record {
        undelivered = ap D ce ∙ y.undelivered;
        started = λ e. y.started (sym (unstarted_back s t r z b) ∙ e) ∙ ap (λ (m : ℕ). some m) (sym ce);
        own = subst (λ (m : ℕ). EndsTask m (task (put_task s t r) t).awaiter) (sym ce) (task_own_back s t r r.coroutine.0 z b c y.own);
      }

  -- a task's row is written
  pub task-told : (s : Store) (t : ℕ) (r : Task) → (t ≡ 0 → is_unstarted r.state ≡ false) → r.coroutine.0 < object_limit → (t < (header s).next → is_live r.state ≡ true → (m : ℕ) → t ≡ suc m → TaskTold D S t r) → K s → K (put_task s t r)
  task-told s t r zero-started c new k =
      record {
        sized = sized-put_task s t r k.sized;
        made = unfold header put_task in (unfold header in k.made);
        begun = unfold header put_task in (unfold header in k.begun);
        rows = λ o. unfold object put_task in (unfold object in (k.rows o));
        items = λ p. unfold place put_task in (unfold place in (k.items p));
        holds = λ p. unfold place put_task in (unfold place in (k.holds p));
        own = λ o. unfold object put_task in (unfold object in (k.own o));
        tasks = λ v b l. by v (unfold header put_task in b) l (ℕ_discrete (suc v) t);
        main = main-by (ℕ_discrete 0 t);
      }
    where
      by : (v : ℕ) → suc v < (header s).next → is_live (task (put_task s t r) (suc v)).state ≡ true → Dec (suc v ≡ t) → TaskTold D S (suc v) (task (put_task s t r) (suc v))
      by v b l (yes d) =
          let b0 : t < (header s).next = subst (λ (m : ℕ). m < (header s).next) d b in
          let b1 : t < task_limit = omega (arith, b0, (header-fits s).next_fits) in
          let l1 : is_live r.state ≡ true = sym (live-put_task s t r k.sized b1) ∙ subst (λ (m : ℕ). is_live (task (put_task s t r) m).state ≡ true) d l in
          subst (λ (m : ℕ). TaskTold D S m (task (put_task s t r) m)) (sym d) (task-row-back s t r k.sized b1 c (new b0 l1 v (sym d)))
      by v b l (no ne) =
          subst (TaskTold D S (suc v)) (sym (task_put-other s t (suc v) r ne)) (k.tasks v b (sym (ap (λ (y : Task). is_live y.state) (task_put-other s t (suc v) r ne)) ∙ l))

      main-by : Dec (0 ≡ t) → is_unstarted (task (put_task s t r) 0).state ≡ false
      main-by (yes d) =
          subst (λ (m : ℕ). is_unstarted (task (put_task s t r) m).state ≡ false) (sym d) (unstarted_back s t r k.sized (subst (λ (m : ℕ). m < task_limit) d (omega arith)) ∙ zero-started (sym d))
      main-by (no ne) = ap (λ (y : Task). is_unstarted y.state) (task_put-other s t 0 r ne) ∙ k.main

  pub queue_told : (s : Store) (p : ReadyQueue) → K s → K (put_queue s p)
  queue_told s p k =
      told_like s (put_queue s p) (sized-put_queue s p k.sized) (unfold header put_queue in refl) (unfold header put_queue in refl) (λ o. unfold object put_queue in refl) (λ r. unfold place put_queue in refl) (λ t. unfold task put_queue in refl) k

  pub add_log-told : (s : Store) (x : LogEntry) → K s → K (add_log s x)
  add_log-told s x k =
      told_like s (add_log s x) (sized-add_log s x k.sized) (unfold header add_log in refl) (unfold header add_log in refl) (λ o. unfold object add_log in refl) (λ r. unfold place add_log in refl) (λ t. unfold task add_log in refl) k

  pub header-told : (s : Store) (h : Header) → HeaderFits h → h.made ≡ (header s).made → h.next ≡ (header s).next → K s → K (put_header s h)
  header-told s h f e nx k =
      told_like s (put_header s h) (sized-put_header s h k.sized) (ap (λ (y : Header). y.made) (header_put-header s h k.sized f) ∙ e) (ap (λ (y : Header). y.next) (header_put-header s h k.sized f) ∙ nx) (λ o. object_put-header s h o) (λ r. unfold place put_header in refl)
      (λ t. unfold task put_header in refl) k

  pub moved_told : (s : Store) (m : Moment) → MomentFits m → K s → K (set_moment s m)
  unfolding set_moment
  moved_told s m f k = let g : HeaderFits (header s) = header-fits s in header-told s _ (record { made_fits = g.made_fits; used_fits = g.used_fits; calls_fit = g.calls_fit; next_fits = g.next_fits; moment_fits = f }) refl refl k

  -- one task more
  next-told : (s : Store) → (header s).next + 1 ≤ task_limit → ((m : ℕ) → (header s).next ≡ suc m → is_live (task s (header s).next).state ≡ true → TaskTold D S (header s).next (task s (header s).next)) → K s → K (set_next s ((header s).next + 1))
  next-told s f new k =
      record {
        sized = sized-set_next s _ k.sized;
        made = ap (λ (h : Header). h.made) head ∙ k.made;
        begun = subst (λ (h : Header). 1 ≤ h.next) (sym head) (omega arith);
        rows = λ o. ap frozen (rows_same o) ∙ k.rows o;
        items = λ p. unfold place set_next put_header in (unfold place in (k.items p));
        holds = λ p. unfold place set_next put_header in (unfold place in (k.holds p));
        own = λ o. subst (λ (x : Object). EndsTask o (awaiter_of x)) (sym (rows_same o)) (k.own o);
        tasks = λ v b l. subst (TaskTold D S (suc v)) (sym (tasks-same (suc v))) (by v (subst (λ (h : Header). suc v < h.next) head b) (sym (ap (λ (r : Task). is_live r.state) (tasks-same (suc v))) ∙ l) (ℕ_discrete (header s).next (suc v)));
        main = ap (λ (r : Task). is_unstarted r.state) (tasks-same 0) ∙ k.main;
      }
    where
      head : header (set_next s ((header s).next + 1)) ≡ record { made = (header s).made; used = (header s).used; calls = (header s).calls; next = (header s).next + 1; moment = (header s).moment }
      head =
          let g : HeaderFits (header s) = header-fits s in
          unfold set_next in (header_put-header s _ k.sized (record { made_fits = g.made_fits; used_fits = g.used_fits; calls_fit = g.calls_fit; next_fits = f; moment_fits = g.moment_fits }))

      rows_same : (o : ℕ) → object (set_next s ((header s).next + 1)) o ≡ object s o
      rows_same o = unfold set_next in (object_put-header s _ o)

      tasks-same : (t : ℕ) → task (set_next s ((header s).next + 1)) t ≡ task s t
      tasks-same t = unfold task set_next put_header in refl

      by : (v : ℕ) → suc v < (header s).next + 1 → is_live (task s (suc v)).state ≡ true → Dec ((header s).next ≡ suc v) → TaskTold D S (suc v) (task s (suc v))
      by v b l (yes d) = subst (λ (m : ℕ). TaskTold D S m (task s m)) d (new v d (subst (λ (m : ℕ). is_live (task s m).state ≡ true) (sym d) l))
      by v b l (no ne) = k.tasks v (omega (arith, b, ne)) l

  absent-told : (s : Store) (t : ℕ) → K s → K (put_task s t absent)
  absent-told s t k = task-told s t absent (λ e. unfold absent in refl) (unfold absent in (omega arith)) (λ b l. absurd (true≢false (sym l ∙ (unfold absent in refl)))) k

  pub gone-told : (s : Store) (t : ℕ) (x : LogEntry) → K s → K (add_log (remove_task s t) x)
  unfolding remove_task remove_from_ready_queue
  gone-told s t x k = add_log-told _ x (queue_told _ _ (absent-told s t k))

  pub ends-told : (s : Store) (t : ℕ) (x : LogEntry) → K s → K (add_log (put_task s t absent) x)
  ends-told s t x k = add_log-told _ x (absent-told s t k)

  -- a task that has started goes into another state that is not unstarted
  pub state_told : (s : Store) (t : ℕ) (x : TaskState) → is_unstarted x ≡ false → (t < (header s).next → (m : ℕ) → t ≡ suc m → TaskTold D S t (task s t)) → is_unstarted (task s t).state ≡ false → K s → K (set_state s t x)
  unfolding set_state restate
  state_told s t x e y u k =
      task-told s t _ (λ d. e) (task-fits s t).coroutine_fits (λ b l m d. let z : TaskTold D S t (task s t) = y b m d in record { undelivered = z.undelivered; started = λ n. z.started u; own = z.own }) k

  -- one that is woken
  pub wakes-told : (s : Store) (t : ℕ) (x : TaskState) → is_blocked (task s t).state ≡ true → is_unstarted x ≡ false → K s → K (add_log (make_ready s t x) (reached t))
  unfolding make_ready push_ready
  wakes-told s t x e u k = add_log-told _ (reached t) (queue_told _ _ (state_told s t x u (λ b m d. told_now b m d) (blocked-started (task s t).state e) k))
    where
      blocked-started : (y : TaskState) → is_blocked y ≡ true → is_unstarted y ≡ false
      blocked-started TaskState.Absent h = refl
      blocked-started TaskState.Unstarted h = absurd (true≢false (sym h))
      blocked-started TaskState.Running h = refl
      blocked-started (TaskState.Woken v) h = refl
      blocked-started (TaskState.Raised v) h = refl
      blocked-started (TaskState.Blocked o) h = refl

      told_now : t < (header s).next → (m : ℕ) → t ≡ suc m → TaskTold D S t (task s t)
      told_now b m d =
          subst (λ (y : ℕ). TaskTold D S y (task s y)) (sym d)
          (k.tasks m (subst (λ (y : ℕ). y < (header s).next) d b) (subst (λ (y : ℕ). is_live (task s y).state ≡ true) d (blocked-live (task s t).state e)))

  -- a task is spawned for a coroutine that has not delivered
  pub spawns-told : (s : Store) (c g : ℕ) → (header s).next < task_limit → c < object_limit → D c ≡ none → K s → K (spawn_as s (header s).next c g)
  unfolding spawn_as push_ready
  spawns-told s c g l m e k = add_log-told _ (spawned (header s).next c) (queue_told _ _ more)
    where
      r : Task
      r = record { state = TaskState.Unstarted; awaiter = Awaiter.GatherSlot (heap_id g) (heap_id c); coroutine = heap_id c }

      new : TaskTold D S (header s).next r
      new = record { undelivered = e; started = λ u. absurd (true≢false u); own = refl }

      u : Store
      u = put_task s (header s).next r

      same_next : (header u).next ≡ (header s).next
      same_next = unfold header put_task in refl

      k1 : K u
      k1 = task-told s (header s).next r (λ d. absurd (not-suc-le-zero {n = 0} (omega (arith, k.begun, d)))) m (λ b lv x d. new) k

      more : K (set_next u ((header s).next + 1))
      more =
          subst (λ (x : ℕ). K (set_next u (x + 1))) same_next
          (next-told u (omega (arith, l, same_next)) (λ x d lv. subst (λ (y : ℕ). TaskTold D S y (task u y)) (sym same_next) (task-row-back s (header s).next r k.sized l m new)) k1)
