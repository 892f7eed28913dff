-- One task is written, and the queue: a task is woken, blocked, run, or removed. It lives with the awaiter and the coroutine that it
-- had, or does not live. And the places are written: items stay, what is filled stays filled. And what is excepted changes.
use Rattle.std.specs.Prelude.{◌≡◌, refl, ◌⊎◌, Bool, true, false, not, ◌||◌, List, ℕ, ◌+◌, ◌≤◌, ◌<◌, eqb, ltb}
use Rattle.std.proofs.Math.Path.{ap, subst}
use Rattle.std.proofs.Common.{sym, ◌∙◌, inl, inr, not-suc-le-zero, arith, eqb→eq}
use Rattle.std.proofs.Math.Option.{some}
use Rattle.std.proofs.Math.Dec.{T, eqb_refl}
use Rattle.asyncio.specs.declared.HeapId.{HeapId}
use Rattle.asyncio.specs.declared.TaskId.{TaskId}
use Rattle.asyncio.specs.declared.Task.{Task}
use Rattle.asyncio.specs.declared.Awaiter.{Awaiter}
use Rattle.asyncio.specs.declared.GatherState.{GatherState}
use Rattle.asyncio.specs.declared.Object.{Object}
use Rattle.asyncio.specs.declared.Place.{Place}
use Rattle.asyncio.specs.Numbers.{heap_id, task_id}
use Rattle.asyncio.specs.States.{pick, is_live}
use Rattle.asyncio.specs.Parts.{awaiter_of}
use Rattle.machine.specs.Store.{View}
use Rattle.machine.specs.Scheduler.{AwaitedGather, blocked_on, bit, is_task_of}
use Rattle.machine.specs.Sound.{task_in_range, items_below, state_values, option_known, is_task_of_at, is_filled, rest_filled, gather_filled, object_filled}
use Rattle.machine_laws.specs.Views.{update, with_places, with_queue}
use Rattle.machine_laws.specs.Facts.{Open, Slotted, AwaitedBy, SoundBut}
use Rattle.machine_laws.specs.TestLaws.{both, both_left, both_right, below, from-below}
use Rattle.machine_laws.specs.StoreLaws.{update_case}
use Rattle.machine_theorems.specs.Soundness.ReadyTasks.{Queued, to_queued, from-queued}

-- ---- a live task that drives a coroutine

pub is_task_of_parts : (c : ℕ) (r : Task) → T (is_task_of c r) → T (is_live r.state) × (r.coroutine.0 ≡ c)
unfolding is_task_of
is_task_of_parts c r t = by (is_live r.state) t
  where
    by : (b : Bool) → T (pick b (eqb r.coroutine.0 c) false) → T b × (r.coroutine.0 ≡ c)
    by true t = (tt, eqb→eq r.coroutine.0 c t)
    by false t = absurd t

pub is_task_of_give : (c : ℕ) (r : Task) → T (is_live r.state) → r.coroutine.0 ≡ c → T (is_task_of c r)
unfolding is_task_of
is_task_of_give c r l e = by (is_live r.state) l
  where
    by : (b : Bool) → T b → T (pick b (eqb r.coroutine.0 c) false)
    by true l = subst (λ (m : ℕ). T (eqb r.coroutine.0 m)) e (eqb_refl r.coroutine.0)
    by false l = l

-- ---- one task, and the queue

-- task t is r, and the entries of the queue are q
unfoldable pub with_task_queue : View → ℕ → Task → List ℕ → View
with_task_queue v t r q = record { tasks = update v.tasks t r; objects = v.objects; places = v.places; header = v.header; queue = q }

-- object p, whose awaiter is task t, is in order but for t not being blocked on it
pub record Closes (v : View) (t p : ℕ) : Type 0 where
  pub awaiter : awaiter_of (v.objects p) ≡ Awaiter.Task (task_id t)
  pub filled : T (object_filled v.places (v.objects p))

-- what each clause asks of task r in the place of task t, and of the queue q: P and Q are excepted before (see SoundBut), P' and Q' after
pub record TaskWrite (P Q P' Q' : ℕ → Type 0) (v : View) (t : ℕ) (r : Task) (q : List ℕ) : Type 0 where
  pub alive : T (is_live r.state) → T (is_live (v.tasks t).state)
  pub awaiter : T (is_live r.state) → r.awaiter ≡ (v.tasks t).awaiter
  pub coroutine : T (is_live r.state) → r.coroutine ≡ (v.tasks t).coroutine
  pub range : T (task_in_range v.header v.objects t (v.tasks t)) → T (task_in_range v.header v.objects t r)
  pub known : T (state_values v.header.made v.objects r.state)
  pub queue : Queued v.header.next v.tasks v.queue → Queued v.header.next (update v.tasks t r) q
  pub awaits : (P' t → ⊥) → (o : ℕ) → blocked_on r.state ≡ some o → AwaitedBy v.header.made v.objects t o
  pub awaited : T (is_live r.state) → (o : ℕ) → o < v.header.made → (Q' o → ⊥) → awaiter_of (v.objects o) ≡ Awaiter.Task (task_id t)
      → blocked_on r.state ≡ some o
  pub in_commit : (p : ℕ) → (Q' p → ⊥) → (Q p → ⊥) ⊎ Closes v t p
  pub excepted : (u : ℕ) → (u ≡ t → ⊥) → (P' u → ⊥) → P u → ⊥

module _ (k : ℕ) (P Q P' Q' : ℕ → Type 0) (v : View) (t : ℕ) (r : Task) (q : List ℕ) (ft : TaskWrite P Q P' Q' v t r q) where
  abbrev new : ℕ → Task
  new = update v.tasks t r

  case : (F : ℕ → Task → Type 0) (u : ℕ) → F t r → ((u ≡ t → ⊥) → F u (v.tasks u)) → F u (new u)
  case F u a b = update_case v.tasks t r (F u) u (λ e. subst (λ (m : ℕ). F m r) (sym e) a) b

  -- a task that lives now lived before, with its awaiter and its coroutine
  lived : (u : ℕ) → T (is_live (new u).state) → T (is_live (v.tasks u).state)
  lived u = case (λ u y. T (is_live y.state) → T (is_live (v.tasks u).state)) u ft.alive (λ d z. z)

  awaiter_same : (u : ℕ) → T (is_live (new u).state) → (new u).awaiter ≡ (v.tasks u).awaiter
  awaiter_same u = case (λ u y. T (is_live y.state) → y.awaiter ≡ (v.tasks u).awaiter) u ft.awaiter (λ d z. refl)

  coroutine_same : (u : ℕ) → T (is_live (new u).state) → (new u).coroutine.0 ≡ (v.tasks u).coroutine.0
  coroutine_same u =
      case (λ u y. T (is_live y.state) → y.coroutine.0 ≡ (v.tasks u).coroutine.0) u (λ l. ap (λ (c : HeapId). c.0) (ft.coroutine l)) (λ d z. refl)

  drove : (c u : ℕ) → T (is_task_of_at new c u) → T (is_task_of_at v.tasks c u)
  unfolding is_task_of_at
  drove c u d =
      let i = is_task_of_parts c (new u) (both_right (not (eqb u 0)) _ d) in
      both _ _ (both_left _ _ d) (is_task_of_give c (v.tasks u) (lived u i.0) (sym (coroutine_same u i.0) ∙ i.1))

  pub task_keeps : SoundBut k P Q v → SoundBut k P' Q' (with_task_queue v t r q)
  unfolding with_task_queue
  task_keeps h =
      record {
        fits = h.fits;
        main = h.main;
        all_used = h.all_used;
        objects = h.objects;
        awaiters = h.awaiters;
        tasks = λ u z. update_case v.tasks t r (λ (y : Task). T (task_in_range v.header v.objects u y)) u
            (λ e. subst (λ (m : ℕ). T (task_in_range v.header v.objects m r)) (sym e)
            (ft.range (subst (λ (m : ℕ). T (task_in_range v.header v.objects m (v.tasks m))) e (h.tasks u z))))
            (λ d. h.tasks u z);
        spawned = h.spawned;
        items = h.items;
        object_lists = h.object_lists;
        task_lists = λ u z. update_case v.tasks t r (λ (y : Task). T (state_values v.header.made v.objects y.state)) u (λ e. ft.known) (λ d. h.task_lists u z);
        place_lists = h.place_lists;
        entries = from-queued v.header.next new q (ft.queue (to_queued v.header.next v.tasks v.queue h.entries));
        calls = h.calls;
        task_of = λ c u w a b d e. h.task_of c u w a b (drove c u d) (drove c w e);
        awaits = λ u z d o. case (λ u y. u < v.header.next → (P' u → ⊥) → blocked_on y.state ≡ some o → AwaitedBy v.header.made v.objects u o) u
            (λ l n e. ft.awaits n o e) (λ n l m e. h.awaits u l (ft.excepted u n m) o e) z d;
        awaited = λ o z n u e. case (λ u y. awaiter_of (v.objects o) ≡ Awaiter.Task (task_id u) → T (is_live y.state) → blocked_on y.state ≡ some o) u
            (λ f a. ft.awaited a o z n f) (λ d f a. awaited-other o z u d f a (ft.in_commit o n)) e;
        filled = λ p z n. filled-new p z (ft.in_commit p n);
        object_slots = λ o z n g y e. slot-new o z g y e (ft.in_commit o n);
        task_slots = λ u z a g y e.
            subst (λ (c : ℕ). Slotted v.header.made v.objects v.places c g y) (sym (coroutine_same u a))
            (h.task_slots u z (lived u a) g y (sym (awaiter_same u a) ∙ e));
      }
    where
      awaited-other : (o : ℕ) → o < v.header.made → (u : ℕ) → (u ≡ t → ⊥) → awaiter_of (v.objects o) ≡ Awaiter.Task (task_id u)
          → T (is_live (v.tasks u).state) → (Q o → ⊥) ⊎ Closes v t o → blocked_on (v.tasks u).state ≡ some o
      awaited-other o z u d e a (inl n) = h.awaited o z n u e a
      awaited-other o z u d e a (inr c) = absurd (d (let same : task_id u ≡ task_id t = cc c.awaiter in ap (λ (y : TaskId). y.0) same))

      filled-new : (p : ℕ) → p < v.header.made → (Q p → ⊥) ⊎ Closes v t p → T (object_filled v.places (v.objects p))
      filled-new p z (inl n) = h.filled p z n
      filled-new p z (inr c) = c.filled

      slot-new : (o : ℕ) → o < v.header.made → (g y : ℕ) → awaiter_of (v.objects o) ≡ Awaiter.GatherSlot (heap_id g) (heap_id y)
          → (Q o → ⊥) ⊎ Closes v t o → Slotted v.header.made v.objects v.places o g y
      slot-new o z g y e (inl n) = h.object_slots o z n g y e
      slot-new o z g y e (inr c) = absurd (let no_slot : ◌≡◌ {A = ℕ} 0 1 = cc c.awaiter in not-suc-le-zero {n = 0} (omega arith))

-- ---- what is excepted changes, and the queue

-- fewer tasks may yet be spawned; a task is let off P where it is not blocked, an object is let off Q where it is in order
pub but_keeps : {k l : ℕ} {P Q P' Q' : ℕ → Type 0} {v : View} → l ≤ k
    → ((t o : ℕ) → t < v.header.next → (P' t → ⊥) → blocked_on (v.tasks t).state ≡ some o → P t → ⊥)
    → ((p : ℕ) → p < v.header.made → (Q' p → ⊥) → Q p → ⊥) → SoundBut k P Q v → SoundBut l P' Q' v
but_keeps {v = v} less f g h = record {
  fits = h.fits;
  main = h.main;
  all_used = h.all_used;
  objects = h.objects;
  awaiters = h.awaiters;
  tasks = h.tasks;
  spawned = omega (arith, h.spawned);
  items = h.items;
  object_lists = h.object_lists;
  task_lists = h.task_lists;
  place_lists = h.place_lists;
  entries = h.entries;
  calls = h.calls;
  task_of = h.task_of;
  awaits = λ t l d o e. h.awaits t l (f t o l d e) o e;
  awaited = λ o l d. h.awaited o l (g o l d);
  filled = λ p l d. h.filled p l (g p l d);
  object_slots = λ o l d. h.object_slots o l (g o l d);
  task_slots = h.task_slots;
}

-- other entries
pub queue_keeps : {k : ℕ} {P Q : ℕ → Type 0} {v : View} (q : List ℕ)
    → (Queued v.header.next v.tasks v.queue → Queued v.header.next v.tasks q) → SoundBut k P Q v → SoundBut k P Q (with_queue v q)
unfolding with_queue
queue_keeps {v = v} q f h = record {
  fits = h.fits;
  main = h.main;
  all_used = h.all_used;
  objects = h.objects;
  awaiters = h.awaiters;
  tasks = h.tasks;
  spawned = h.spawned;
  items = h.items;
  object_lists = h.object_lists;
  task_lists = h.task_lists;
  place_lists = h.place_lists;
  entries = from-queued v.header.next v.tasks q (f (to_queued v.header.next v.tasks v.queue h.entries));
  calls = h.calls;
  task_of = h.task_of;
  awaits = h.awaits;
  awaited = h.awaited;
  filled = h.filled;
  object_slots = h.object_slots;
  task_slots = h.task_slots;
}

-- ---- the places

-- nothing but results is written; a place that was filled is filled, and what is in it may be there
pub record PlacesWrite (v : View) (ps : ℕ → Place) : Type 0 where
  pub item : (p : ℕ) → (ps p).item ≡ (v.places p).item
  pub filled : (p : ℕ) → T (is_filled (v.places p).result) → T (is_filled (ps p).result)
  pub known : (p : ℕ) → T (option_known v.header.made v.objects (v.places p).result) → T (option_known v.header.made v.objects (ps p).result)

module _ (v : View) (ps : ℕ → Place) (ft : PlacesWrite v ps) where
  pub lower-same : (g : ℕ) (x : Object) → T (items_below v.places g x) → T (items_below ps g x)
  unfolding items_below
  lower-same g Object.Unmade h = h
  lower-same g (Object.Coroutine f x) h = h
  lower-same g (Object.ExternalFuture c x) h = h
  lower-same g (Object.GatherFuture f n x) h =
      from-below n _ (λ i z. subst (λ (y : HeapId). T (ltb y.0 g)) (sym (ft.item (f + i))) (below n _ h i z))

  or-more : (a b c : Bool) → (T b → T c) → T (a || b) → T (a || c)
  or-more true b c f t = t
  or-more false b c f t = f t

  pub rest_more : (f n m : ℕ) → T (rest_filled v.places f n m) → T (rest_filled ps f n m)
  unfolding rest_filled
  rest_more f n m h = from-below n _ (λ i z. or-more (bit m i) _ _ (ft.filled (f + i)) (below n _ h i z))

  gather-more : (f n : ℕ) (x : GatherState) → T (gather_filled v.places f n x) → T (gather_filled ps f n x)
  unfolding gather_filled
  gather-more f n GatherState.Pending h = h
  gather-more f n (GatherState.Awaited a m) h = both _ _ (both_left _ _ h) (rest_more f n m (both_right (not (eqb m 0)) _ h))
  gather-more f n GatherState.Completed h = rest_more f n 0 h
  gather-more f n (GatherState.Failed e) h = h

  pub filled_more : (x : Object) → T (object_filled v.places x) → T (object_filled ps x)
  unfolding object_filled
  filled_more Object.Unmade h = h
  filled_more (Object.Coroutine f x) h = h
  filled_more (Object.ExternalFuture c x) h = h
  filled_more (Object.GatherFuture f n x) h = gather-more f n x h

  pub open_same : (w : AwaitedGather) (z : ℕ) → Open v.places w z → Open ps w z
  open_same w z h =
      record { at = h.at; under = h.under; is_open = h.is_open; names = ap (λ (y : HeapId). y.0) (ft.item (w.first + h.at)) ∙ h.names }

  slotted-same : (z g y : ℕ) → Slotted v.header.made v.objects v.places z g y → Slotted v.header.made v.objects ps z g y
  slotted-same z g y h = record { own = h.own; made = h.made; committed = h.committed; opens = λ w e. open_same w z (h.opens w e) }

  pub places-keep : {k : ℕ} {P Q : ℕ → Type 0} → SoundBut k P Q v → SoundBut k P Q (with_places v ps)
  unfolding with_places
  places-keep h =
      record {
        fits = h.fits;
        main = h.main;
        all_used = h.all_used;
        objects = h.objects;
        awaiters = h.awaiters;
        tasks = h.tasks;
        spawned = h.spawned;
        items = λ g z. lower-same g (v.objects g) (h.items g z);
        object_lists = h.object_lists;
        task_lists = h.task_lists;
        place_lists = λ p z. ft.known p (h.place_lists p z);
        entries = h.entries;
        calls = h.calls;
        task_of = h.task_of;
        awaits = h.awaits;
        awaited = h.awaited;
        filled = λ g z n. filled_more (v.objects g) (h.filled g z n);
        object_slots = λ o z n g y e. slotted-same o g y (h.object_slots o z n g y e);
        task_slots = λ t z a g y e. slotted-same (v.tasks t).coroutine.0 g y (h.task_slots t z a g y e);
      }
