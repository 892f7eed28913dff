-- A task is spawned.
use Rattle.std.specs.Prelude.{◌≡◌, refl, not, List, eqb, ltb}
use Rattle.std.proofs.Math.Path.{sym, subst}
use Rattle.std.proofs.Common.{◌∙◌, not-suc-le-zero, arith, ltb→lt, lt→ltb}
use Rattle.std.proofs.Math.Option.{some}
use Prim.Native.Nat.{ℕ, zero, suc, ◌+◌, ◌<◌}
use Rattle.std.proofs.Math.Decide.{ℕ_discrete}
use Rattle.std.proofs.Math.Dec.{T}
use Rattle.asyncio.specs.declared.HeapId.{HeapId}
use Rattle.asyncio.specs.declared.TaskState.{TaskState}
use Rattle.asyncio.specs.declared.Task.{Task}
use Rattle.asyncio.specs.declared.Awaiter.{Awaiter}
use Rattle.asyncio.specs.declared.Object.{Object}
use Rattle.asyncio.specs.declared.Header.{Header}
use Rattle.asyncio.specs.Limits.{task_limit}
use Rattle.asyncio.specs.Numbers.{heap_id, task_id}
use Rattle.asyncio.specs.States.{is_live}
use Rattle.asyncio.specs.Kinds.{kind, is_coroutine}
use Rattle.asyncio.specs.Parts.{awaiter_of}
use Rattle.machine.specs.Tests.{◌and◌, implies}
use Rattle.machine.specs.Store.{View}
use Rattle.machine.specs.Scheduler.{blocked_on, is_task_of}
use Rattle.machine.specs.Sound.{awaiter_in_range, object_in_range, is_slot, task_in_range, state_values, is_task_of_at}
use Rattle.machine_laws.specs.Views.{update}
use Rattle.machine_laws.specs.Facts.{Slotted, AwaitedBy, SoundBut, Nothing}
use Rattle.machine_laws.specs.TestLaws.{both, both_left, both_right, implies-map, ltb_more}
use Rattle.machine_laws.specs.StoreLaws.{update_case}
use Rattle.machine_laws.specs.DeliveryLaws.{absurd_some}
use Rattle.machine_theorems.specs.Soundness.ReadyTasks.{Queued, to_queued, from-queued}
use Rattle.machine_theorems.specs.Soundness.PutTask.{is_task_of_parts}

-- the header with one task more
abbrev pub one_more : Header → Header
one_more h = record { made = h.made; used = h.used; calls = h.calls; next = h.next + 1; moment = h.moment }

-- the row of a task that is spawned for coroutine c, with its slot in gather g
abbrev pub spawned_row : ℕ → ℕ → Task
spawned_row c g = record { state = TaskState.Unstarted; awaiter = Awaiter.GatherSlot (heap_id g) (heap_id c); coroutine = heap_id c }

-- such a task is spawned; the entries of the queue are q then
unfoldable pub spawn_view : View → ℕ → ℕ → List ℕ → View
spawn_view v c g q =
    record { tasks = update v.tasks v.header.next (spawned_row c g); objects = v.objects; places = v.places; header = one_more v.header; queue = q }

-- ---- clauses that the next number is in

awaiter_one_more : (h : Header) (a : Awaiter) → T (awaiter_in_range h a) → T (awaiter_in_range (one_more h) a)
unfolding awaiter_in_range
awaiter_one_more h Awaiter.Nobody t = t
awaiter_one_more h (Awaiter.Task u) t = ltb_more u.0 h.next (h.next + 1) (omega arith) t
awaiter_one_more h (Awaiter.GatherSlot g o) t = t

object-one_more : (h : Header) (p : ℕ) (x : Object) → T (object_in_range h p x) → T (object_in_range (one_more h) p x)
unfolding object_in_range
object-one_more h p Object.Unmade t = t
object-one_more h p (Object.Coroutine f x) t = t
object-one_more h p (Object.ExternalFuture c x) t = t
object-one_more h p (Object.GatherFuture i n x) t = t

task-one_more : (h : Header) (os : ℕ → Object) (t : ℕ) (y : Task) → T (task_in_range h os t y) → T (task_in_range (one_more h) os t y)
unfolding task_in_range
task-one_more h os zero y t = t
task-one_more h os (suc u) y t = implies-map (is_live y.state) _ _ more t
  where
    more : T (is_slot y.awaiter and awaiter_in_range h y.awaiter and ltb y.coroutine.0 h.made and is_coroutine (kind (os y.coroutine.0)))
        → T (is_slot y.awaiter and awaiter_in_range (one_more h) y.awaiter and ltb y.coroutine.0 h.made and is_coroutine (kind (os y.coroutine.0)))
    more z =
        let z2 = both_right (is_slot y.awaiter) _ z in
        both _ _ (both_left _ _ z) (both _ _ (awaiter_one_more h y.awaiter (both_left _ _ z2)) (both_right (awaiter_in_range h y.awaiter) _ z2))

-- an object's awaiter, if it is a task, is below the next number
pub awaiter_below : (h : Header) (a : Awaiter) (t : ℕ) → T (awaiter_in_range h a) → a ≡ Awaiter.Task (task_id t) → t < h.next
unfolding awaiter_in_range
awaiter_below h a t k e = ltb→lt t h.next (subst (λ (b : Awaiter). T (awaiter_in_range h b)) e k)

module _ (k : ℕ) (Q : ℕ → Type 0) (v : View) (c g : ℕ) (h : SoundBut (suc k) Nothing Q v) (co : T (is_coroutine (kind (v.objects c)))) (low : c < v.header.made)
    (free : (u : ℕ) → u < v.header.next → T (is_task_of_at v.tasks c u) → ⊥) (room : v.header.next < task_limit)
    (slot : Slotted v.header.made v.objects v.places c g c) where
  abbrev n : ℕ
  n = v.header.next

  abbrev row : Task
  row = spawned_row c g

  abbrev new : ℕ → Task
  new = update v.tasks n row

  case : (F : ℕ → Task → Type 0) (u : ℕ) → F n row → ((u ≡ n → ⊥) → F u (v.tasks u)) → F u (new u)
  case F u a b = update_case v.tasks n row (F u) u (λ e. subst (λ (m : ℕ). F m row) (sym e) a) b

  row-in-range : (m : ℕ) → n ≡ m → T (task_in_range (one_more v.header) v.objects n row)
  unfolding task_in_range is_slot awaiter_in_range implies
  row-in-range zero e = absurd (not-suc-le-zero {n = 0} (omega (arith, h.main)))
  row-in-range (suc m) e =
      subst (λ (j : ℕ). T (task_in_range (one_more v.header) v.objects j row)) (sym e)
      (both _ _ tt (both _ _ (lt→ltb g v.header.made slot.made) (both _ _ (lt→ltb c v.header.made low) co)))

  -- a task below the next number drives what it did, and the new one drives c
  drove : (d u : ℕ) → T (is_task_of_at new d u) → (u ≡ n → d ≡ c) × ((u ≡ n → ⊥) → T (is_task_of_at v.tasks d u))
  unfolding is_task_of_at
  drove d u =
      case (λ i y. T (not (eqb i 0) and is_task_of d y) → (i ≡ n → d ≡ c) × ((i ≡ n → ⊥) → T (not (eqb i 0) and is_task_of d (v.tasks i)))) u
      (λ z. (λ e. sym (is_task_of_parts d row (both_right (not (eqb n 0)) _ z)).1, λ ne. absurd (ne refl)))
      (λ ne z. (λ e. absurd (ne e), λ m. z))

  pub spawn_keeps : (q : List ℕ) → (Queued n v.tasks v.queue → Queued (n + 1) new q) → SoundBut k Nothing Q (spawn_view v c g q)
  unfolding spawn_view
  spawn_keeps q queue =
      record {
        fits = record {
          made_fits = h.fits.made_fits;
          used_fits = h.fits.used_fits;
          calls_fit = h.fits.calls_fit;
          next_fits = omega arith;
          moment_fits = h.fits.moment_fits;
        };
        main = omega arith;
        all_used = h.all_used;
        objects = λ o z. object-one_more v.header _ (v.objects o) (h.objects o z);
        awaiters = λ o z. awaiter_one_more v.header (awaiter_of (v.objects o)) (h.awaiters o z);
        tasks = λ t z. case (λ t y. t < n + 1 → T (task_in_range (one_more v.header) v.objects t y)) t (λ y. row-in-range n refl)
            (λ d y. task-one_more v.header v.objects t (v.tasks t) (h.tasks t (omega arith))) z;
        spawned = omega (arith, h.spawned);
        items = h.items;
        object_lists = h.object_lists;
        task_lists = λ t z. case (λ t y. t < n + 1 → T (state_values v.header.made v.objects y.state)) t (λ y. unfold state_values in tt)
            (λ d y. h.task_lists t (omega arith)) z;
        place_lists = h.place_lists;
        entries = from-queued (n + 1) new q (queue (to_queued n v.tasks v.queue h.entries));
        calls = h.calls;
        task_of = task-of-new;
        awaits = λ t z d o. case (λ t y. t < n + 1 → blocked_on y.state ≡ some o → AwaitedBy v.header.made v.objects t o) t
            (λ l e. unfold blocked_on in (absurd_some e)) (λ m l e. h.awaits t (omega arith) d o e) z;
        awaited = λ o z m t. case (λ t y. awaiter_of (v.objects o) ≡ Awaiter.Task (task_id t) → T (is_live y.state) → blocked_on y.state ≡ some o) t
            (λ e. absurd (not-suc-le-zero {n = 0} (omega (arith, awaiter_below v.header _ n (h.awaiters o z) e)))) (λ d e. h.awaited o z m t e);
        filled = h.filled;
        object_slots = h.object_slots;
        task_slots = λ t z. case (λ t y. t < n + 1 → T (is_live y.state) → (f x : ℕ) → y.awaiter ≡ Awaiter.GatherSlot (heap_id f) (heap_id x)
            → Slotted v.header.made v.objects v.places y.coroutine.0 f x) t
            (λ l a f x e. slot_is f x e) (λ d l a. h.task_slots t (omega arith) a) z;
      }
    where
      task-of-new : (d t u : ℕ) → t < n + 1 → u < n + 1 → T (is_task_of_at new d t) → T (is_task_of_at new d u) → t ≡ u
      task-of-new d t u l m x y = by (dec t) (dec u)
        where
          dec : (i : ℕ) → Dec (i ≡ n)
          dec i = ℕ_discrete i n

          by : Dec (t ≡ n) → Dec (u ≡ n) → t ≡ u
          by (yes e) (yes f) = e ∙ sym f
          by (yes e) (no f) = absurd (free u (omega arith) (subst (λ (j : ℕ). T (is_task_of_at v.tasks j u)) ((drove d t x).0 e) ((drove d u y).1 f)))
          by (no e) (yes f) = absurd (free t (omega arith) (subst (λ (j : ℕ). T (is_task_of_at v.tasks j t)) ((drove d u y).0 f) ((drove d t x).1 e)))
          by (no e) (no f) = h.task_of d t u (omega arith) (omega arith) ((drove d t x).1 e) ((drove d u y).1 f)

      slot_is : (f x : ℕ) → Awaiter.GatherSlot (heap_id g) (heap_id c) ≡ Awaiter.GatherSlot (heap_id f) (heap_id x)
          → Slotted v.header.made v.objects v.places c f x
      slot_is f x e =
          let p : heap_id g ≡ heap_id f = cc in
          let q : heap_id c ≡ heap_id x = cc in
          subst (λ (y : HeapId). Slotted v.header.made v.objects v.places c f y.0) q
          (subst (λ (y : HeapId). Slotted v.header.made v.objects v.places c y.0 c) p slot)
