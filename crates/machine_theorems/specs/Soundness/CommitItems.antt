-- The items of a gather on the commit's stack, one after the other.
use Rattle.std.specs.Prelude.{◌≡◌, Bool, not, eqb, ltb}
use Rattle.std.proofs.Math.Path.{refl, ap, subst}
use Rattle.std.proofs.Common.{sym, ◌∙◌, inl, not-suc-le-zero, le_refl, arith, lt→ltb, eqb-true, ltb-true}
use Rattle.std.proofs.Math.Bool.{true, false}
use mathlib.Core.List.{List}
use Rattle.std.proofs.Math.Option.{Option, none, some, some-injective}
use Prim.Native.Nat.{ℕ, zero, suc, ◌+◌, ◌-◌, ◌≤◌, ◌<◌}
use Rattle.std.proofs.Math.Decide.{ℕ_discrete}
use Rattle.std.proofs.Math.Dec.{T, ltb→lt}
use Rattle.asyncio.specs.declared.HeapId.{HeapId}
use Rattle.asyncio.specs.declared.Value.{Value}
use Rattle.asyncio.specs.declared.Error.{Error}
use Rattle.asyncio.specs.declared.Task.{Task}
use Rattle.asyncio.specs.declared.Awaiter.{Awaiter}
use Rattle.asyncio.specs.declared.CoroutineState.{CoroutineState}
use Rattle.asyncio.specs.declared.ExternalFutureState.{ExternalFutureState}
use Rattle.asyncio.specs.declared.GatherState.{GatherState}
use Rattle.asyncio.specs.declared.Object.{Object}
use Rattle.asyncio.specs.declared.Header.{Header}
use Rattle.asyncio.specs.Limits.{task_limit, object_limit}
use Rattle.asyncio.specs.Ranges.{ObjectFits, TaskFits, ErrorFits, HeaderFits}
use Rattle.asyncio.specs.Numbers.{heap_id}
use Rattle.asyncio.specs.States.{pick}
use Rattle.asyncio.specs.Kinds.{kind, is_coroutine, is_completed, is_committed}
use Rattle.asyncio.specs.Parts.{count_of}
use Rattle.queue.specs.Queue.{entries, push_back}
use Rattle.queue.proofs.QueueLaws.{push_back-len, push_back-length}
use Rattle.machine.specs.Store.{Store, View, view, task, object, place, header, put_task, put_object, put_place, put_header, put_queue, add_log, set_next, spawned}
use Rattle.machine.specs.Scheduler.{AwaitedGather, PendingExternal, as_awaited, as_pending, is_task_of, first_from, task_of_in, task_of, push_ready, spawn_as, spawn_unless, spawn}
use Rattle.machine.specs.Commit.{Poll, ready, raised, pending, gives, await_pending, await_external, Item, polled, nested, polled_spawn, item_coroutine, item_gather, item_object, open_from, item}
use Rattle.machine.specs.Commit.{open_place, fill_place, Stop, at_end, at_nested, at_error, put_polled, put_item, step_item, step_items, Frame}
use Rattle.machine.specs.Sound.{awaiter_in_range, items_below, value_known, object_values, is_task_of_at}
use Rattle.machine_laws.specs.Views.{Sized, update, with_task, with_object, with_header}
use Rattle.machine_laws.specs.Facts.{Open, Slotted, Nothing, WordsInRange}
use Rattle.machine_laws.specs.TestLaws.{both, both_left, both_right, below}
use Rattle.machine_laws.specs.StoreLaws.{update_same, update_other, sized-put_task, sized-put_header, sized-put_queue, object-fits, header-fits, header_put-object, object_put-object}
use Rattle.machine_laws.specs.StoreLaws.{view-put_task, view-put_object, view-put_header}
use Rattle.machine_laws.specs.WordLaws.{words_put_task, words_put_header, words_put_queue, words_add_log}
use Rattle.machine_laws.specs.SizedLaws.{sized-spawn_as}
use Rattle.machine_laws.specs.DeliveryLaws.{absurd_some, awaited-object, pending-object}
use Rattle.machine_theorems.specs.Soundness.ReadyTasks.{none-queued, queued-back}
use Rattle.machine_theorems.specs.Soundness.PutObject.{Fits}
use Rattle.machine_theorems.specs.Soundness.SpawnTask.{one_more, spawned_row, spawn_view}
use Rattle.machine_theorems.specs.Soundness.Deliver.{task_slot}
use Rattle.machine_theorems.specs.Soundness.Fill.{open_small, elsewhere, awaits_on}
use Rattle.machine_theorems.specs.Soundness.Await.{takes-fits}
use Rattle.machine_theorems.specs.Soundness.Memory.{Memory, memory_object}
use Rattle.machine_theorems.specs.Soundness.CommitSteps.{wider, wider_small, wider-opens}
use Rattle.machine_theorems.specs.Soundness.CommitInv.{OnTop, Inv, relax, open_step, lower-step, spawn-step}
use Rattle.rows.specs.Tables.{task_at}
use Rattle.machine_theorems.specs.Soundness.CommitLoop.{awaits_fits, fill_commits}

-- ---- where a walk through the items stops

pub record AtEnd (root t g : ℕ) (fs : List Frame) (s : Store) : Type 0 where
  pub i : ℕ
  pub memory : Memory s
  pub inv : Inv root t 0 (OnTop g fs) (view s) g i fs
  pub end : i ≡ inv.w.count

pub record AtNested (root t g : ℕ) (fs : List Frame) (s : Store) (i o : ℕ) : Type 0 where
  pub memory : Memory s
  pub inv : Inv root t 0 (OnTop g fs) (view s) g i fs
  pub less : i < inv.w.count
  pub first : ℕ
  pub count : ℕ
  pub is_new : object s o ≡ Object.GatherFuture first count GatherState.Pending
  pub names : (place s (inv.w.first + i)).item.0 ≡ o
  pub lower : o < g

pub record AtError (root t g : ℕ) (fs : List Frame) (s : Store) (e : Error) : Type 0 where
  pub i : ℕ
  pub memory : Memory s
  pub inv : Inv root t 0 (OnTop g fs) (view s) g i fs
  pub fits : ErrorFits e

abbrev pub StopOk : ℕ → ℕ → ℕ → List Frame → Stop → Type 0
StopOk root t g fs (at_end s) = AtEnd root t g fs s
StopOk root t g fs (at_nested s i o) = AtNested root t g fs s i o
StopOk root t g fs (at_error s e) = AtError root t g fs s e

pub inv_count : (root t i g e : ℕ) (Q : ℕ → Type 0) (fs : List Frame) (s : Store) (h : Inv root t e Q (view s) g i fs) → count_of (object s g) ≡ h.w.count
unfolding view count_of
inv_count root t i g e Q fs s h = ap count_of (awaited-object (object s g) h.w h.opened.awaited)

-- ---- two objects are written, in either order

update_comm : (f : ℕ → Object) (a b : ℕ) (x y : Object) → (a ≡ b → ⊥) → (p : ℕ) → update (update f a x) b y p ≡ update (update f b y) a x p
unfolding update
update_comm f a b x y d p = by (eqb a p) refl (eqb b p) refl
  where
    by : (c : Bool) → eqb a p ≡ c → (e : Bool) → eqb b p ≡ e → pick e y (pick c x (f p)) ≡ pick c x (pick e y (f p))
    by true q true r = absurd (d (eqb-true a p q ∙ sym (eqb-true b p r)))
    by true q false r = refl
    by false q true r = refl
    by false q false r = refl

with_objects_comm : (v : View) (a b : ℕ) (x y : Object) → (a ≡ b → ⊥) → with_object (with_object v a x) b y ≡ with_object (with_object v b y) a x
unfolding with_object
with_objects_comm v a b x y d = λ j. record { tasks = v.tasks; objects = λ p. update_comm v.objects a b x y d p j; places = v.places; header = v.header; queue = v.queue }

-- ---- a task is spawned, in a store

none_first : (p : ℕ → Bool) (k i : ℕ) → first_from p i k ≡ none → (j : ℕ) → i ≤ j → j < i + k → p j ≡ false
unfolding first_from
none_first p zero i e j l m = absurd (not-suc-le-zero {n = 0} (omega arith))
none_first p (suc k) i e j l m = by (p i) refl e (λ q. none_first p k (i + 1) q j)
  where
    by : (b : Bool) → p i ≡ b → pick b (some i) (first_from p (i + 1) k) ≡ none
        → (first_from p (i + 1) k ≡ none → i + 1 ≤ j → j < i + 1 + k → p j ≡ false) → p j ≡ false
    by true q e f = absurd_some (sym e)
    by false q e f = at (ℕ_discrete j i)
      where
        at : Dec (j ≡ i) → p j ≡ false
        at (yes d) = ap p d ∙ q
        at (no d) = f e (omega arith) (omega arith)

no_task_of : (s : Store) (c : ℕ) → task_of s c ≡ none → (v : ℕ) → v < (header s).next → T (is_task_of_at (task s) c v) → ⊥
unfolding is_task_of_at task_of task_of_in task
no_task_of s c e zero l d = both_left (not (eqb 0 0)) _ d
no_task_of s c e (suc v) l d =
    subst T (none_first (λ t. is_task_of c (task_at s.tasks t)) ((header s).next - 1) 1 e (suc v) (omega arith) (omega arith)) (both_right (not (eqb (suc v) 0)) _ d)

module _ (s : Store) (c g : ℕ) (mem : Memory s) (room : (header s).next < task_limit) (low-c : c < object_limit) (low-g : g < object_limit) where
  abbrev t0 : ℕ
  t0 = (header s).next

  row_fits : TaskFits (spawned_row c g)
  row_fits = record { state_fits = tt; awaiter_fits = (low-g, low-c); coroutine_fits = low-c }

  more-fits : HeaderFits (one_more (header s))
  more-fits =
      let f : HeaderFits (header s) = header-fits s in
      record { made_fits = f.made_fits; used_fits = f.used_fits; calls_fit = f.calls_fit; next_fits = omega arith; moment_fits = f.moment_fits }

  u : Store
  u = put_task s t0 (spawned_row c g)

  u-sized : Sized u
  unfolding u
  u-sized = sized-put_task s t0 (spawned_row c g) mem.sized

  x : Store
  x = put_header u (one_more (header s))

  pub spawn_store_view : view (spawn_as s t0 c g) ≡ spawn_view (view s) c g (entries (push_back s.queue t0))
  unfolding spawn_as add_log push_ready put_queue set_next view spawn_view with_header with_task task object place header put_task put_header u
  spawn_store_view =
      ap (λ (w : View). record { tasks = w.tasks; objects = w.objects; places = w.places; header = w.header; queue = entries (push_back s.queue t0) })
      (view-put_header u (one_more (header s)) u-sized more-fits ∙ ap (λ (v : View). with_header v (one_more (header s))) (view-put_task s t0 (spawned_row c g) mem.sized room row_fits))

  header-then : header (spawn_as s t0 c g) ≡ one_more (header s)
  unfolding view spawn_view
  header-then = ap (λ (v : View). v.header) spawn_store_view

  words : WordsInRange (t0 + 1) (header s).made (header s).used (spawn_as s t0 c g)
  unfolding spawn_as add_log push_ready put_queue set_next header put_task put_header u x
  words =
      words_add_log (t0 + 1) (header s).made (header s).used (put_queue x (push_back s.queue t0)) (sized-put_queue x (push_back s.queue t0) (sized-put_header u (one_more (header s)) u-sized))
      (words_put_queue (t0 + 1) (header s).made (header s).used x (sized-put_header u (one_more (header s)) u-sized)
      (words_put_header (t0 + 1) (header s).made (header s).used u u-sized
      (words_put_task _ _ _ s mem.sized mem.words_right (t0 + 1) t0 (spawned_row c g) room row_fits (λ j m ne. omega arith))
      (one_more (header s)) more-fits)
      (push_back s.queue t0) (push_back-len s.queue t0 mem.words_right.queue_short)) (spawned t0 c)

  pub spawn_memory : Memory (spawn_as s t0 c g)
  spawn_memory =
      record {
        sized = sized-spawn_as s t0 c g mem.sized;
        ids = unfold spawn_as add_log push_ready put_queue set_next put_header put_task in (push_back-length s.queue t0 ∙ mem.ids);
        words_right = subst (λ (y : Header). WordsInRange y.next y.made y.used (spawn_as s t0 c g)) (sym header-then) words;
      }

-- ---- one item of the gather on top

-- place i of gather g, which has n, is done: the walk goes on from there
pub record Goes (root t g : ℕ) (fs : List Frame) (i n : ℕ) (s : Store) : Type 0 where
  pub memory : Memory s
  pub inv : Inv root t 0 (OnTop g fs) (view s) g (i + 1) fs
  pub count : count_of (object s g) ≡ n

-- what the item in place i gave, in store x
abbrev pub PollOk : ℕ → ℕ → ℕ → List Frame → AwaitedGather → ℕ → Store → Poll → Type 0
PollOk root t g fs w i x (ready v) = Goes root t g fs i w.count (fill_place x w i v)
PollOk root t g fs w i x (raised e) = AtError root t g fs x e
PollOk root t g fs w i x pending = Goes root t g fs i w.count (open_place x g w i)

-- what the item o in place i is
abbrev pub ItemOk : ℕ → ℕ → ℕ → List Frame → AwaitedGather → ℕ → ℕ → Store → Item → Type 0
ItemOk root t g fs w i o s nested = AtNested root t g fs s i o
ItemOk root t g fs w i o s (polled r) = PollOk root t g fs w i r.store r.poll

-- one item less is left
pub goes-length : (root t g i : ℕ) (fs : List Frame) (c n : ℕ) (x : Store) → i + suc n ≡ c → (k : Goes root t g fs i c x) → i + 1 + n ≡ k.inv.w.count
goes-length root t g i fs c n x e k = omega (arith, k.count, inv_count root t (i + 1) g 0 (OnTop g fs) fs x k.inv)

-- so the walk stops where it is said to, if it does from the next place on
put_ok : (root t g : ℕ) (fs : List Frame) (w : AwaitedGather) (i o : ℕ) (s : Store) (go : Store → Stop)
    → ((y : Store) → Goes root t g fs i w.count y → StopOk root t g fs (go y)) → (x : Item) → ItemOk root t g fs w i o s x → StopOk root t g fs (put_item g w i o s x go)
unfolding put_item put_polled
put_ok root t g fs w i o s go f nested k = k
put_ok root t g fs w i o s go f (polled r) k = by r.poll k
  where
    by : (p : Poll) → PollOk root t g fs w i r.store p → StopOk root t g fs (put_polled g w i r.store p go)
    by (ready v) k = f _ k
    by (raised e) k = k
    by pending k = f _ k

module _ (root t g : ℕ) (fs : List Frame) (i : ℕ) (s : Store) (mem : Memory s) (h : Inv root t 0 (OnTop g fs) (view s) g i fs) (less : i < h.w.count) where
  abbrev w : AwaitedGather
  w = h.w

  abbrev o : ℕ
  o = (place s (w.first + i)).item.0

  abbrev Ok : Item → Type 0
  Ok x = ItemOk root t g fs w i o s x

  top : as_awaited (object s g) ≡ some w
  unfolding view
  top = h.opened.awaited

  made : g < (header s).made
  unfolding view
  made = h.opened.made

  lower : o < g
  unfolding view items_below
  lower =
      let low : T (items_below (place s) g (Object.GatherFuture w.first w.count (GatherState.Awaited w.awaiter w.open_places))) =
      subst (λ (y : Object). T (items_below (place s) g y)) (awaited-object (object s g) w top) (h.but.items g made) in
      ltb→lt _ g (below w.count _ low i less)

  low-g : g < object_limit
  low-g = omega (arith, made, (header-fits s).made_fits)

  err : (e : Error) → ErrorFits e → Ok (polled (gives s (raised e)))
  err e k = record { i = i; memory = mem; inv = h; fits = k }

  abbrev y1 : Object
  y1 = awaits_on w (wider w i)

  y1-fits : ObjectFits y1
  unfolding view
  y1-fits = awaits_fits s g w top (wider w i) (wider_small w i less (open_small g w h.but made top))

  -- place i is open in a store whose view is known
  opens_in : (x : Store) (v : View) → Memory x → g < (header x).made → view x ≡ v → Inv root t 0 (OnTop g fs) (with_object v g y1) g (i + 1) fs
      → Goes root t g fs i w.count (open_place x g w i)
  unfolding open_place wider
  opens_in x v m l e inv =
      record { memory = memory_object x g y1 l y1-fits m; inv = subst (λ (z : View). Inv root t 0 (OnTop g fs) z g (i + 1) fs) (sym there) inv; count = count-there }
    where
      there : view (put_object x g y1) ≡ with_object v g y1
      there = view-put_object x g y1 m.sized low-g y1-fits ∙ ap (λ (z : View). with_object z g y1) e

      count-there : count_of (object (put_object x g y1) g) ≡ w.count
      count-there = ap count_of (object_put-object x g y1 m.sized low-g y1-fits) ∙ (unfold count_of in refl)

  opened_view : Inv root t 1 (OnTop g fs) (with_object (view s) g y1) g (i + 1) fs
  opened_view = open_step root t (OnTop g fs) (view s) g i fs (inl refl) h less

  -- it waits for nothing new: another place of an item that is open
  again : Ok (polled (gives s pending))
  again = opens_in s (view s) mem made refl (relax root t (OnTop g fs) _ g (i + 1) fs opened_view)

  fills : (x : Value) → T (value_known (header s).made (object s) x) → Ok (polled (gives s (ready x)))
  unfolding fill_place object put_place
  fills x k =
      let r = fill_commits root t (OnTop g fs) s g i fs mem h less x k in
      record { memory = r.0; inv = r.1; count = inv_count root t i g 0 (OnTop g fs) fs s h }

  known-value : (x : Object) → object s o ≡ x → T (object_values (header s).made (object s) x)
  unfolding view
  known-value x e = subst (λ (y : Object). T (object_values (header s).made (object s) y)) e (h.but.object_lists o (omega (arith, lower, made)))

  abbrev v1 : View
  v1 = with_object (view s) g y1

  v1-awaited : as_awaited (v1.objects g) ≡ some (record { first = w.first; count = w.count; awaiter = w.awaiter; open_places = wider w i })
  unfolding with_object as_awaited view
  v1-awaited = ap as_awaited (update_same (object s) g y1)

  v1-committed : T (is_committed (kind (v1.objects g)))
  unfolding with_object kind view
  v1-committed = subst (λ (y : Object). T (is_committed (kind y))) (sym (update_same (object s) g y1)) tt

  v1-other : (p : ℕ) → p < g → v1.objects p ≡ object s p
  unfolding with_object view
  v1-other p l = update_other (object s) g y1 p (λ e. omega arith)

  -- the slot of gather g that names o, once place i is open
  slot_of : Slotted v1.header.made v1.objects v1.places o g o
  unfolding with_object view
  slot_of =
      record {
        own = refl;
        made = made;
        committed = v1-committed;
        opens = λ u f. subst (λ (y : AwaitedGather). Open (place s) y o) (some-injective _ u (sym v1-awaited ∙ f)) (record { at = i; under = less; is_open = wider-opens w i; names = refl });
      }

  -- a pending external without awaiter takes the slot
  takes : (p : PendingExternal) → as_pending (object s o) ≡ some p → p.awaiter ≡ Awaiter.Nobody
      → Ok (polled (gives (put_object s o (Object.ExternalFuture p.call (ExternalFutureState.Pending (Awaiter.GatherSlot (heap_id g) (heap_id o)) p.stored))) pending))
  takes p e free =
      opens_in s2 (with_object (view s) o x) (memory_object s o x (omega (arith, lower, made)) fit mem) (subst (λ (y : Header). g < y.made) (sym (header_put-object s o x)) made) there
      (subst (λ (v : View). Inv root t 0 (OnTop g fs) v g (i + 1) fs) (with_objects_comm (view s) g o y1 x (λ q. apart (sym q)))
      (relax root t (OnTop g fs) _ g (i + 1) fs (lower-step root t (OnTop g fs) v1 g (i + 1) fs opened_view o x lower fits)))
    where
      x : Object
      x = Object.ExternalFuture p.call (ExternalFutureState.Pending (Awaiter.GatherSlot (heap_id g) (heap_id o)) p.stored)

      s2 : Store
      s2 = put_object s o x

      apart : o ≡ g → ⊥
      apart q = let l : o < g = lower in omega arith

      fit : ObjectFits x
      fit =
          let old : ObjectFits (Object.ExternalFuture p.call (ExternalFutureState.Pending p.awaiter p.stored)) = subst ObjectFits (pending-object (object s o) p e) (object-fits s o) in
          (old.0, ((low-g, omega (arith, lower, low-g)), old.1.1))

      there : view s2 ≡ with_object (view s) o x
      there = view-put_object s o x mem.sized (omega (arith, lower, low-g)) fit

      slot_same : (f y : ℕ) → Awaiter.GatherSlot (heap_id g) (heap_id o) ≡ Awaiter.GatherSlot (heap_id f) (heap_id y)
          → Slotted v1.header.made (update v1.objects o x) v1.places o f y
      slot_same f y q =
          let a : heap_id g ≡ heap_id f = cc in
          let b : heap_id o ≡ heap_id y = cc in
          subst (λ (z : HeapId). Slotted v1.header.made (update v1.objects o x) v1.places o f z.0) b
          (subst (λ (z : HeapId). Slotted v1.header.made (update v1.objects o x) v1.places o z.0 o) a
          (elsewhere v1.header.made v1.objects v1.places o x o g o (λ q. apart (sym q)) slot_of))

      fits : (k : ℕ) → Fits k k Nothing (OnTop g fs) Nothing (OnTop g fs) v1 o x
      fits k =
          takes-fits k (OnTop g fs) (OnTop g fs) v1 o p (Awaiter.GatherSlot (heap_id g) (heap_id o)) (unfold with_object view in (omega (arith, lower, made))) (ap as_pending (v1-other o lower) ∙ e) free
          (unfold awaiter_in_range with_object view in (lt→ltb g (header s).made made)) (λ n u q. absurd (task_slot (sym q))) (λ n f y q. slot_same f y q) (λ q d n z. n z)

  -- a task is spawned for a new coroutine
  spawns : (f : ℕ) → object s o ≡ Object.Coroutine f CoroutineState.New → Ok (polled (item_coroutine s g o CoroutineState.New))
  unfolding item_coroutine spawn view
  spawns f q = by (task_of s o) refl
    where
      q1 : List ℕ
      q1 = entries (push_back s.queue (header s).next)

      spawned-ok : task_of s o ≡ none → (header s).next < task_limit → Ok (polled (polled_spawn s (some (spawn_as s (header s).next o g))))
      spawned-ok e room = unfold polled_spawn in
          (opens_in s2 (spawn_view (view s) o g q1) (spawn_memory s o g mem room low-o low-g) (subst (λ (y : View). g < y.header.made) (sym there) (unfold spawn_view view in made)) there
          (unfold spawn_view with_object in stepped))
        where
          low-o : o < object_limit
          low-o = omega (arith, lower, low-g)

          s2 : Store
          s2 = spawn_as s (header s).next o g

          there : view s2 ≡ spawn_view (view s) o g q1
          there = spawn_store_view s o g mem room low-o low-g

          co : T (is_coroutine (kind (v1.objects o)))
          co = subst (λ (y : Object). T (is_coroutine (kind y))) (sym (v1-other o lower ∙ q)) (unfold kind in tt)

          stepped : Inv root t 0 (OnTop g fs) (spawn_view v1 o g q1) g (i + 1) fs
          stepped =
              spawn-step root t (OnTop g fs) v1 g (i + 1) fs opened_view o co (unfold with_object view in (omega (arith, lower, made))) (unfold with_object view in (no_task_of s o e))
              (unfold with_object view in room) slot_of q1
              (unfold with_object view in (λ z. queued-back s.queue mem.ids (header s).next (spawned_row o g) ((header s).next + 1) (omega arith)
              (none-queued (header s).next (le_refl _) z) (omega arith) tt z))

      room-or : task_of s o ≡ none → (b : Bool) → ltb (header s).next task_limit ≡ b → Ok (polled (polled_spawn s (pick b (some (spawn_as s (header s).next o g)) none)))
      room-or e true z = spawned-ok e (ltb-true (header s).next task_limit z)
      room-or e false z = unfold polled_spawn in (err Error.CoroutineReuse tt)

      by : (d : Option ℕ) → task_of s o ≡ d → Ok (polled (polled_spawn s (spawn_unless s o g d)))
      by (some v) e = unfold spawn_unless polled_spawn in (err Error.CoroutineReuse tt)
      by none e = unfold spawn_unless in (room-or e (ltb (header s).next task_limit) refl)

  -- every item
  item-keeps : (x : Object) → object s o ≡ x → Ok (item_object s g o x)
  unfolding item_object item_gather await_external await_pending item_coroutine
  item-keeps Object.Unmade e = again
  item-keeps (Object.Coroutine f CoroutineState.New) e = spawns f e
  item-keeps (Object.Coroutine f CoroutineState.Running) e = err Error.CoroutineReuse tt
  item-keeps (Object.Coroutine f CoroutineState.Completed) e = err Error.CoroutineReuse tt
  item-keeps (Object.ExternalFuture c (ExternalFutureState.Pending Awaiter.Nobody r)) e =
      takes (record { call = c; awaiter = Awaiter.Nobody; stored = r }) (ap as_pending e ∙ (unfold as_pending in refl)) refl
  item-keeps (Object.ExternalFuture c (ExternalFutureState.Pending (Awaiter.Task u) r)) e = err Error.FutureReuse tt
  item-keeps (Object.ExternalFuture c (ExternalFutureState.Pending (Awaiter.GatherSlot f y) r)) e = err Error.FutureReuse tt
  item-keeps (Object.ExternalFuture c (ExternalFutureState.Resolved x)) e = fills x (unfold object_values in (known-value (Object.ExternalFuture c (ExternalFutureState.Resolved x)) e))
  item-keeps (Object.ExternalFuture c (ExternalFutureState.Failed x)) e = err x (subst ObjectFits e (object-fits s o)).1
  item-keeps (Object.GatherFuture f m GatherState.Pending) e =
      record { memory = mem; inv = h; less = less; first = f; count = m; is_new = e; names = refl; lower = lower }
  item-keeps (Object.GatherFuture f m (GatherState.Awaited a k)) e = err Error.GatherReuse tt
  item-keeps (Object.GatherFuture f m GatherState.Completed) e =
      fills (Value.List (heap_id o)) (unfold value_known in (both _ _ (lt→ltb o (header s).made (omega (arith, lower, made))) (subst (λ (y : Object). T (is_completed (kind y))) (sym e) (unfold kind in tt))))
  item-keeps (Object.GatherFuture f m (GatherState.Failed x)) e = err x (subst ObjectFits e (object-fits s o)).1

  pub one_keeps : Ok (item s g w o)
  unfolding item
  one_keeps = by (open_from (place s) w o 0 w.count)
    where
      by : (b : Bool) → Ok (pick b (polled (gives s pending)) (item_object s g o (object s o)))
      by true = again
      by false = item-keeps (object s o) refl

-- The walk through the items.
pub items_keep : (n : ℕ) (root t g i : ℕ) (fs : List Frame) (s : Store) → Memory s → (h : Inv root t 0 (OnTop g fs) (view s) g i fs) → i + n ≡ h.w.count
    → StopOk root t g fs (step_items n s g i)
unfolding step_items step_item view
items_keep zero root t g i fs s mem h e = record { i = i; memory = mem; inv = h; end = omega arith }
items_keep (suc n) root t g i fs s mem h e =
    subst (λ (o : Option AwaitedGather). StopOk root t g fs (step_item g i s o (λ x. step_items n x g (i + 1)))) (sym h.opened.awaited)
    (put_ok root t g fs h.w i (place s (h.w.first + i)).item.0 s (λ x. step_items n x g (i + 1))
    (λ x k. items_keep n root t g (i + 1) fs x k.memory k.inv (goes-length root t g i fs h.w.count n x e k)) _ (one_keeps root t g fs i s mem h (omega arith)))
