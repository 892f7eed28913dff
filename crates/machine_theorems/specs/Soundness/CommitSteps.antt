-- The commit, step by step: what each write of a gather on the stack keeps.
use Rattle.std.specs.Prelude.{◌≡◌, refl, ◌⊎◌, Bool, true, false, ◌||◌, ℕ, ◌+◌, ◌^◌, ◌≤◌, ◌<◌, T, eqb}
use Rattle.std.proofs.Common.{ap, sym, subst, ◌∙◌, inl, inr, arith}
use Rattle.std.proofs.Math.Option.{some}
use Rattle.std.proofs.Math.Decide.{ℕ_discrete}
use Rattle.asyncio.specs.declared.Awaiter.{Awaiter}
use Rattle.asyncio.specs.declared.GatherState.{GatherState}
use Rattle.asyncio.specs.declared.Object.{Object}
use Rattle.asyncio.specs.declared.Place.{Place}
use Rattle.asyncio.specs.Numbers.{heap_id, task_id}
use Rattle.asyncio.specs.States.{pick, is_live}
use Rattle.asyncio.specs.Kinds.{kind, is_coroutine, is_completed, is_committed}
use Rattle.asyncio.specs.Parts.{awaiter_of, count_of}
use Rattle.machine.specs.Store.{View, header}
use Rattle.machine.specs.Scheduler.{AwaitedGather, as_awaited, as_pending, blocked_on, bit}
use Rattle.machine.specs.Sound.{awaiter_in_range, open_in_range, object_in_range, committed_places, items_below, object_values, is_filled, gather_filled, object_filled}
use Rattle.machine_laws.specs.Facts.{Open, Slotted, SoundBut, Nothing}
use Rattle.machine_laws.specs.TestLaws.{holds, both, both_left}
use Rattle.machine_laws.specs.DeliveryLaws.{absurd_some, awaited-object}
use Rattle.machine_laws.specs.MakingLaws.{nobody-task, nobody_slot}
use Rattle.machine_theorems.specs.Bounds.Bits.{bit-set-other, bit-set-same, bit_set_small}
use Rattle.machine_theorems.specs.Soundness.PutObject.{Fits}
use Rattle.machine_theorems.specs.Soundness.Deliver.{awaiter_is}

-- ---- the open word with one place more

unfoldable pub wider : AwaitedGather → ℕ → ℕ
wider w i = pick (bit w.open_places i) w.open_places (w.open_places + 2 ^ i)

pub wider_small : (w : AwaitedGather) (i : ℕ) → i < w.count → w.open_places < 2 ^ w.count → wider w i < 2 ^ w.count
unfolding wider
wider_small w i l s = by (bit w.open_places i) refl
  where
    by : (b : Bool) → bit w.open_places i ≡ b → pick b w.open_places (w.open_places + 2 ^ i) < 2 ^ w.count
    by true e = s
    by false e = bit_set_small i w.count w.open_places l s e

pub wider-opens : (w : AwaitedGather) (i : ℕ) → bit (wider w i) i ≡ true
unfolding wider
wider-opens w i = by (bit w.open_places i) refl
  where
    by : (b : Bool) → bit w.open_places i ≡ b → bit (pick b w.open_places (w.open_places + 2 ^ i)) i ≡ true
    by true e = e
    by false e = bit-set-same i w.open_places e

pub wider_keeps : (w : AwaitedGather) (i j : ℕ) → bit w.open_places j ≡ true → bit (wider w i) j ≡ true
unfolding wider
wider_keeps w i j o = by (bit w.open_places i) refl (ℕ_discrete j i)
  where
    by : (b : Bool) → bit w.open_places i ≡ b → Dec (j ≡ i) → bit (pick b w.open_places (w.open_places + 2 ^ i)) j ≡ true
    by true e d = o
    by false e (yes q) = subst (λ (n : ℕ). bit (w.open_places + 2 ^ i) n ≡ true) (sym q) (bit-set-same i w.open_places e)
    by false e (no d) = bit-set-other i w.open_places j e d ∙ o

-- ---- a gather leaves the stack as it is

-- object p is in order, as an awaited gather with a slot for its awaiter
pub record Parked (v : View) (p : ℕ) : Type 0 where
  pub awaited : (t : ℕ) → awaiter_of (v.objects p) ≡ Awaiter.Task (task_id t) → ⊥
  pub filled : T (object_filled v.places (v.objects p))
  pub slot : (g x : ℕ) → awaiter_of (v.objects p) ≡ Awaiter.GatherSlot (heap_id g) (heap_id x) → Slotted v.header.made v.objects v.places p g x

pub park : {k : ℕ} {P Q Q' : ℕ → Type 0} {v : View} → ((p : ℕ) → (Q' p → ⊥) → (Q p → ⊥) ⊎ Parked v p) → SoundBut k P Q v → SoundBut k P Q' v
park {Q = Q} {v = v} f h =
    record {
      fits = h.fits;
      main = h.main;
      all_used = h.all_used;
      objects = h.objects;
      awaiters = h.awaiters;
      tasks = h.tasks;
      spawned = h.spawned;
      items = h.items;
      object_lists = h.object_lists;
      task_lists = h.task_lists;
      place_lists = h.place_lists;
      entries = h.entries;
      calls = h.calls;
      task_of = h.task_of;
      awaits = h.awaits;
      awaited = λ o z n t e l. a o z t e l (f o n);
      filled = λ g z n. b g z (f g n);
      object_slots = λ o z n g x e. c o z g x e (f o n);
      task_slots = h.task_slots;
    }
  where
    a : (o : ℕ) → o < v.header.made → (t : ℕ) → awaiter_of (v.objects o) ≡ Awaiter.Task (task_id t) → T (is_live (v.tasks t).state) → (Q o → ⊥) ⊎ Parked v o
        → blocked_on (v.tasks t).state ≡ some o
    a o z t e l (inl n) = h.awaited o z n t e l
    a o z t e l (inr p) = absurd (p.awaited t e)

    b : (g : ℕ) → g < v.header.made → (Q g → ⊥) ⊎ Parked v g → T (object_filled v.places (v.objects g))
    b g z (inl n) = h.filled g z n
    b g z (inr p) = p.filled

    c : (o : ℕ) → o < v.header.made → (g x : ℕ) → awaiter_of (v.objects o) ≡ Awaiter.GatherSlot (heap_id g) (heap_id x) → (Q o → ⊥) ⊎ Parked v o
        → Slotted v.header.made v.objects v.places o g x
    c o z g x e (inl n) = h.object_slots o z n g x e
    c o z g x e (inr p) = p.slot g x e

-- ---- a gather on the stack

-- gather g is awaited as w says, and its places below i are open or filled
pub record Opened (n : ℕ) (os : ℕ → Object) (ps : ℕ → Place) (g i : ℕ) (w : AwaitedGather) : Type 0 where
  pub made : g < n
  pub awaited : as_awaited (os g) ≡ some w
  pub under : i ≤ w.count
  pub before : (j : ℕ) → j < i → T (bit w.open_places j || is_filled (ps (w.first + j)).result)

-- It is written: any state of it, as long as it was committed and the holders' places are open. Its awaiter is dropped only if no task
-- is blocked on it.
pub stack_fits : (k l : ℕ) (Q Q' : ℕ → Type 0) (v : View) (g : ℕ) (w : AwaitedGather) (y : GatherState) → g < v.header.made → as_awaited (v.objects g) ≡ some w → l ≤ k
    → is_committed (kind (Object.GatherFuture w.first w.count y)) ≡ true → T (open_in_range w.count y)
    → (T (awaiter_in_range v.header w.awaiter) → T (awaiter_in_range v.header (awaiter_of (Object.GatherFuture w.first w.count y))))
    → ((t : ℕ) → t < v.header.next → blocked_on (v.tasks t).state ≡ some g → awaiter_of (v.objects g) ≡ Awaiter.Task (task_id t)
    → awaiter_of (Object.GatherFuture w.first w.count y) ≡ Awaiter.Task (task_id t))
    → ((Q' g → ⊥) → (awaiter_of (Object.GatherFuture w.first w.count y) ≡ Awaiter.Nobody) × T (gather_filled v.places w.first w.count y))
    → ((u : AwaitedGather) → as_awaited (Object.GatherFuture w.first w.count y) ≡ some u → (z : ℕ) → Open v.places w z → Open v.places u z)
    → ((p : ℕ) → (p ≡ g → ⊥) → (Q' p → ⊥) → Q p → ⊥)
    → Fits k l Nothing Q Nothing Q' v g (Object.GatherFuture w.first w.count y)
unfolding count_of committed_places kind items_below object_filled as_pending object_in_range object_values
stack_fits k l Q Q' v g w y made e less cmt range aw-range aw closed opens commit =
    let q = awaited-object (v.objects g) w e in
    record {
      made = made;
      count = sym (ap count_of q);
      room = subst (λ (z : Object). committed_places z + l ≤ pick (is_committed (kind (Object.GatherFuture w.first w.count y))) w.count 0 + k) (sym q) (rw cmt (omega arith));
      coroutine = λ t. absurd (subst (λ (y : Object). T (is_coroutine (kind y))) q t);
      completed = λ t. absurd (subst (λ (y : Object). T (is_completed (kind y))) q t);
      committed = λ t. holds _ cmt;
      range = λ p t. both _ _ (both_left (eqb w.first p) _ (subst (λ (y : Object). T (object_in_range v.header p y)) q t)) range;
      awaiter = λ t. aw-range (subst (λ (a : Awaiter). T (awaiter_in_range v.header a)) (awaiter_is (v.objects g) w e) t);
      lower = λ t. subst (λ (y : Object). T (items_below v.places g y)) q t;
      known = λ t. tt;
      call = λ a f. absurd_some f;
      awaits = λ t z d b f. aw t z b f;
      awaited = λ n t f. absurd (nobody-task (sym (closed n).0 ∙ f));
      filled = λ n. (closed n).1;
      slot = λ n f z a. absurd (nobody_slot (sym (closed n).0 ∙ a));
      opens = λ u f z held sl. opens u f z (sl.opens w e);
      excepted = λ t b z d f. inl (λ z. z);
      in_commit = commit;
    }
