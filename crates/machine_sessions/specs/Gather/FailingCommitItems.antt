-- The walk through the items of a gather on the commit's stack: it stops at the first one that raises.
use Rattle.std.specs.Prelude.{◌≡◌, ◌⊎◌, Bool, List, [], ◌∷◌, eqb}
use Rattle.std.proofs.Math.Path.{refl, subst}
use Rattle.std.proofs.Common.{ap, sym, ◌∙◌, inl, inr, true≢false, arith, eqb-true, lt-ltb}
use Rattle.std.proofs.Math.Bool.{true, false}
use Rattle.std.proofs.Math.Option.{Option, none, some, some-injective}
use Prim.Native.Nat.{ℕ, zero, suc, ◌+◌, ◌-◌, ◌≤◌, ◌<◌}
use Rattle.std.proofs.Math.Nat.{not-suc-le-zero}
use Rattle.std.proofs.Math.Dec.{T, ltb→lt}
use Rattle.asyncio.specs.declared.CallId.{CallId}
use Rattle.asyncio.specs.declared.Error.{Error}
use Rattle.asyncio.specs.Options.{OptionValue}
use Rattle.asyncio.specs.Parts.{awaiter_of, first_of, count_of}
use Rattle.asyncio.specs.declared.Value.{Value}
use Rattle.asyncio.specs.declared.Awaiter.{Awaiter}
use Rattle.asyncio.specs.declared.CoroutineState.{CoroutineState}
use Rattle.asyncio.specs.declared.ExternalFutureState.{ExternalFutureState}
use Rattle.asyncio.specs.declared.GatherState.{GatherState}
use Rattle.asyncio.specs.declared.Object.{Object}
use Rattle.asyncio.specs.declared.Place.{Place}
use Rattle.asyncio.specs.declared.Header.{Header}
use Rattle.asyncio.specs.Limits.{object_limit, place_limit, task_limit}
use Rattle.asyncio.specs.Ranges.{ObjectFits, ValueFits}
use Rattle.asyncio.specs.Numbers.{heap_id}
use Rattle.asyncio.specs.States.{pick, is_live}
use Rattle.rows.specs.Tables.{task_at}
use Rattle.machine.specs.Store.{Store, view, task, object, place, header, put_object}
use Rattle.machine.specs.Scheduler.{AwaitedGather, PendingExternal, as_awaited, as_pending, bit, is_task_of, task_of, task_of_in, spawn_as, spawn_unless, spawn}
use Rattle.machine.specs.Commit.{Poll, ready, raised, pending, gives, await_pending, await_external, Item, polled, nested, polled_spawn, item_coroutine, item_gather, item_object, open_from, item}
use Rattle.machine.specs.Commit.{open_place, fill_place, Stop, at_end, at_nested, at_error, put_polled, put_item, step_item, step_items, Frame}
use Rattle.machine.specs.Sound.{places_below, items_below, object_in_range, is_slot}
use Rattle.machine_laws.specs.Facts.{Open, Slotted}
use Rattle.machine_laws.specs.FactLaws.{open_found, open_test}
use Rattle.machine_laws.specs.TestLaws.{holds, is_true, below}
use Rattle.machine_laws.specs.Walk.{task_of-spawned}
use Rattle.machine_laws.specs.StoreLaws.{sized-put_object, header_put-object, object_put-object, object_put-other, object-fits, place-fits, header-fits}
use Rattle.machine_laws.specs.SizedLaws.{sized-spawn_as}
use Rattle.machine_laws.specs.DeliveryLaws.{absurd_some, awaited-object, first_below}
use Rattle.machine_theorems.specs.Soundness.Fill.{gather_within, open_small, awaits_on}
use Rattle.machine_theorems.specs.Soundness.Memory.{Memory}
use Rattle.machine_theorems.specs.Soundness.CommitSteps.{wider, wider_small}
use Rattle.machine_theorems.specs.Soundness.CommitInv.{OnStack, OnTop, Stacked, bottom, above, Inv}
use Rattle.machine_theorems.specs.Soundness.CommitLoop.{awaits_fits}
use Rattle.machine_theorems.specs.Soundness.CommitItems.{Goes, PollOk, ItemOk, goes-length, one_keeps}
use Rattle.machine_laws.specs.DeliveryLaws.{pending-object}
use Rattle.machine_theorems.specs.Soundness.Cycle.{spawned_of}
use Rattle.machine_theorems.specs.Panics.NoPanicLaws.{spawn-left}
use Rattle.machine_sessions.specs.Waits.CallEvents.{first_holds}
use Rattle.machine_sessions.specs.Gather.FailingRows.{ItemAt}
use Rattle.machine_sessions.specs.Gather.Failing.{CommitMoves, commit_places, commit_takes}
use Rattle.machine_sessions.specs.Gather.FailingStated.{Passed, Settled, Other, NoSlot, TaskFor, coroutine_reused, future_reused, gather_reused, PollRaises, broken, failed, reuses, item_at, Took}
use Rattle.machine_sessions.specs.Gather.FailingCommitSteps.{Committing, committing_spawn, spawn-rows, Calm, Level, Levels, Going, going_same, going_opens, going_fills, going_lower}

-- ---- the stack

-- the gathers on it are not lower than the top
pub stack_high : {n : ℕ} {os : ℕ → Object} {ps : ℕ → Place} {root t g : ℕ} {a : Awaiter} {fs : List Frame} {k : ℕ} → Stacked n os ps root t g a fs k → (q : ℕ) → OnTop g fs q → g ≤ q
stack_high (bottom d a) q (inl z) = omega arith
stack_high (bottom d a) q (inr z) = absurd z
stack_high (above v j op lt nm lo aw rm rest) q (inl z) = omega arith
stack_high (above v j op lt nm lo aw rm rest) q (inr z) = omega (arith, lo, stack_high rest q z)

-- those below it are higher
pub stack_above : {n : ℕ} {os : ℕ → Object} {ps : ℕ → Place} {root t g : ℕ} {a : Awaiter} {fs : List Frame} {k : ℕ} → Stacked n os ps root t g a fs k → (q : ℕ) → OnStack fs q → g < q
stack_above (bottom d a) q z = absurd z
stack_above (above v j op lt nm lo aw rm rest) q z = omega (arith, lo, stack_high rest q z)

-- a task of a coroutine lives
live_of : (u : Store) (o t : ℕ) → is_task_of o (task_at u.tasks t) ≡ true → (is_live (task u t).state ≡ true) × ((task u t).coroutine.0 ≡ o)
unfolding is_task_of task
live_of u o t e = by (is_live (task_at u.tasks t).state) refl e
  where
    by : (b : Bool) → is_live (task_at u.tasks t).state ≡ b → pick b (eqb (task_at u.tasks t).coroutine.0 o) false ≡ true
        → (is_live (task_at u.tasks t).state ≡ true) × ((task_at u.tasks t).coroutine.0 ≡ o)
    by true q z = (q, eqb-true (task_at u.tasks t).coroutine.0 o z)
    by false q z = absurd (true≢false (sym z))

-- ---- where the walk stops

module _ (s : Store) where
  -- at an error: the item in place i raises it
  pub record AtRaise (u : Store) (g : ℕ) (fs : List Frame) (e : Error) : Type 0 where
    pub i : ℕ
    pub going : Going s u g i fs
    pub under : i < count_of (object s g)
    pub raises : PollRaises u g (item_at s g i) (object u (item_at s g i)) e
    pub first : (j : ℕ) → j < i → item_at s g j ≡ item_at s g i → ⊥
    pub off : OnTop g fs (item_at s g i) → ⊥

  -- at the end
  pub record AtDone (u : Store) (g : ℕ) (fs : List Frame) : Type 0 where
    pub i : ℕ
    pub going : Going s u g i fs

  abbrev pub StopFails : ℕ → List Frame → Stop → Type 0
  StopFails g fs (at_end u) = AtDone u g fs
  StopFails g fs (at_nested u i o) = Going s u g i fs
  StopFails g fs (at_error u e) = AtRaise u g fs e

  module _ (root t g : ℕ) (fs : List Frame) (i : ℕ) (u : Store) (mem : Memory u) (h : Inv root t 0 (OnTop g fs) (view u) g i fs) (less : i < h.w.count) (k : Going s u g i fs) where
    abbrev w : AwaitedGather
    w = h.w

    abbrev o : ℕ
    o = (place u (w.first + i)).item.0

    -- what the item in place i gave, put into it
    abbrev PollFails : Store → Poll → Type 0
    PollFails x (ready v) = Going s (fill_place x w i v) g (i + 1) fs
    PollFails x (raised e) = AtRaise x g fs e
    PollFails x pending = Going s (open_place x g w i) g (i + 1) fs

    abbrev ItemFails : Item → Type 0
    ItemFails nested = Unit {0}
    ItemFails (polled r) = PollFails r.store r.poll

    top : as_awaited (object u g) ≡ some w
    unfolding view
    top = h.opened.awaited

    made : g < (header u).made
    unfolding view
    made = h.opened.made

    low-g : g < object_limit
    low-g = omega (arith, made, (header-fits u).made_fits)

    low-o : o < object_limit
    low-o = (place-fits u (w.first + i)).item_fits

    lower : o < g
    unfolding view items_below
    lower =
        let low : T (items_below (place u) g (Object.GatherFuture w.first w.count (GatherState.Awaited w.awaiter w.open_places))) =
        subst (λ (y : Object). T (items_below (place u) g y)) (awaited-object (object u g) w top) (h.but.items g made) in
        ltb→lt _ g (below w.count _ low i less)

    wide_fits : ObjectFits (awaits_on w (wider w i))
    unfolding view
    wide_fits = awaits_fits u g w top (wider w i) (wider_small w i less (open_small g w h.but made top))

    low-place : w.first + i < place_limit
    unfolding view
    low-place = omega (arith, gather_within g w h.but made top, less, h.but.fits.used_fits)

    -- no item is on the stack
    off-stack : OnTop g fs o → ⊥
    unfolding view
    off-stack q = not-suc-le-zero {n = 0} (omega (arith, lower, stack_high h.stack o q))

    apart : (p : ℕ) → OnStack fs p → p ≡ g → ⊥
    unfolding view
    apart p q d = not-suc-le-zero {n = 0} (omega (arith, d, stack_above h.stack p q))

    -- places and items are as before the commit
    spot : (first_of (object s g) ≡ w.first) × (count_of (object s g) ≡ w.count)
    spot = commit_places (object s g) w.first w.count (GatherState.Awaited w.awaiter w.open_places) (subst (CommitMoves (object s g)) (awaited-object (object u g) w top) (k.commits.moves g))

    item-is : (j : ℕ) → (place u (w.first + j)).item.0 ≡ item_at s g j
    item-is j = k.commits.items (w.first + j) ∙ ap (λ (n : ℕ). (place s (n + j)).item.0) (sym spot.0)

    calm : Passed (object u o) → Calm s (OnTop g fs) u (item_at s g i)
    calm p = subst (Calm s (OnTop g fs) u) (item-is i) (record { passed = p; off = off-stack })

    -- the item stands in place i
    stands : ItemAt s g o
    stands = record { at = i; under = subst (λ (n : ℕ). i < n) (sym spot.1) less; names = sym (item-is i) }

    -- another place of an item that is open
    again : Open (place u) w o → ItemFails (polled (gives u pending))
    again op =
        going_opens s u g i fs w mem.sized low-g wide_fits top apart
        (subst (Calm s (OnTop g fs) u) (sym (item-is op.at) ∙ (op.names ∙ item-is i)) (k.top.left op.at ((k.top.marks w top).0 op.at op.is_open))) k

    fills : (v : Value) (x : Object) → object u o ≡ x → ValueFits v → Passed x → Settled x → ItemFails (polled (gives u (ready v)))
    fills v x e f p z =
        going_fills s u g i fs w v mem.sized low-place f (calm (subst Passed (sym e) p)) (subst (λ (j : ℕ). Settled (object u j)) (item-is i) (subst Settled (sym e) z)) k

    -- a pending external without awaiter takes the slot
    takes : (c : CallId) (r : OptionValue) → object u o ≡ Object.ExternalFuture c (ExternalFutureState.Pending Awaiter.Nobody r)
        → ItemFails (polled (gives (put_object u o (Object.ExternalFuture c (ExternalFutureState.Pending (Awaiter.GatherSlot (heap_id g) (heap_id o)) r))) pending))
    takes c r e =
        going_opens s u2 g i fs w (sized-put_object u o x mem.sized) low-g wide_fits (ap as_awaited (object_put-other u o g x (λ d. not-suc-le-zero {n = 0} (omega (arith, lower, d)))) ∙ top) apart
        (subst (Calm s (OnTop g fs) u2) (item-is i) (record { passed = subst Passed (sym (object_put-object u o x mem.sized low-o fit)) tt; off = off-stack }))
        (going_lower s u g i fs o x mem.sized low-o fit (commit_takes (object s o) c r (Awaiter.GatherSlot (heap_id g) (heap_id o)) (subst (CommitMoves (object s o)) e (k.commits.moves o)))
        (λ f q. no-coroutine c r f (sym e ∙ q)) off-stack tt (λ z. subst Settled e z) slotted (unfold as_awaited in refl) k)
      where
        x : Object
        x = Object.ExternalFuture c (ExternalFutureState.Pending (Awaiter.GatherSlot (heap_id g) (heap_id o)) r)

        u2 : Store
        u2 = put_object u o x

        slotted : (p : PendingExternal) → as_pending x ≡ some p → Took s o p.awaiter
        slotted p q = subst (λ (y : PendingExternal). Took s o y.awaiter) (some-injective _ p (pending-is ∙ q)) (inr stands)
          where
            pending-is : some (record { call = c; awaiter = Awaiter.GatherSlot (heap_id g) (heap_id o); stored = r }) ≡ as_pending x
            pending-is = unfold as_pending in refl

        no-coroutine : (c : CallId) (r : OptionValue) (f : ℕ) → Object.ExternalFuture c (ExternalFutureState.Pending Awaiter.Nobody r) ≡ Object.Coroutine f CoroutineState.New → ⊥
        no-coroutine c r f q = let z : ◌≡◌ {A = ℕ} 0 1 = cc in not-suc-le-zero {n = 0} (omega arith)

        fit : ObjectFits x
        fit =
            let old : ObjectFits (Object.ExternalFuture c (ExternalFutureState.Pending Awaiter.Nobody r)) = subst ObjectFits e (object-fits u o) in
            (old.0, ((low-g, low-o), old.1.1))

    -- every item is made
    no-unmade : object u o ≡ Object.Unmade → ⊥
    unfolding view object_in_range
    no-unmade e = subst (λ (y : Object). T (object_in_range (header u) (places_below (object u) o) y)) e (h.but.objects o (omega (arith, lower, made)))

    -- ---- an item that no open place names
    module _ (shut : open_from (place u) w o 0 w.count ≡ false) where
      not-open : Open (place u) w o → ⊥
      not-open op = true≢false (sym (is_true _ (open_test (place u) w o w.count 0 op (omega arith) (omega (arith, op.under)))) ∙ shut)

      -- no place to the left names it, if it has given no value
      first-named : (Settled (object u o) → ⊥) → (j : ℕ) → j < i → item_at s g j ≡ item_at s g i → ⊥
      first-named un j l d = by ((k.top.marks w top).1 j l)
        where
          by : (bit w.open_places j ≡ true) ⊎ Settled (object u (item_at s g j)) → ⊥
          by (inl b) = not-open (record { at = j; under = omega (arith, l, less); is_open = b; names = item-is j ∙ (d ∙ sym (item-is i)) })
          by (inr z) = un (subst (λ (n : ℕ). Settled (object u n)) (d ∙ sym (item-is i)) z)

      -- it raises
      raising : (e : Error) (x : Object) → object u o ≡ x → PollRaises u g o x e → (Settled x → ⊥) → ItemFails (polled (gives u (raised e)))
      raising e x q p un =
          record {
            i = i;
            going = k;
            under = subst (λ (n : ℕ). i < n) (sym spot.1) less;
            raises = subst (λ (j : ℕ). PollRaises u g j (object u j) e) (item-is i) (subst (λ (y : Object). PollRaises u g o y e) (sym q) p);
            first = first-named (λ z. un (subst Settled q z));
            off = subst (λ (j : ℕ). OnTop g fs j → ⊥) (item-is i) off-stack;
          }

      -- a slot is of another gather
      slot-other : (c f y : ℕ) → c ≡ o → Slotted (header u).made (object u) (place u) c f y → f ≡ g → ⊥
      slot-other c f y e sl d = not-open (subst (λ (j : ℕ). Open (place u) w j) e (sl.opens w (ap (λ (j : ℕ). as_awaited (object u j)) d ∙ top)))

      -- the live task of the coroutine
      its_task : (t : ℕ) → task_of u o ≡ some t → TaskFor u g o
      unfolding view is_slot
      its_task zero e = absurd (not-suc-le-zero (task_of-spawned u o zero e))
      its_task (suc t) e =
          record {
            who = t;
            low = low-t;
            live = is.0;
            coroutine = is.1;
            awaiter = by (task u (suc t)).awaiter refl (spawned_of t h.but low-t (holds _ is.0)).slot;
          }
        where
          low-t : suc t < (header u).next
          low-t = unfold task_of task_of_in in (omega (arith, first_below (λ v. is_task_of o (task_at u.tasks v)) ((header u).next - 1) 1 (suc t) (unfold task_of task_of_in in e), h.but.main))

          is : (is_live (task u (suc t)).state ≡ true) × ((task u (suc t)).coroutine.0 ≡ o)
          is = live_of u o (suc t) (first_holds (λ v. is_task_of o (task_at u.tasks v)) ((header u).next - 1) 1 (suc t) (unfold task_of task_of_in in e))

          by : (a : Awaiter) → (task u (suc t)).awaiter ≡ a → T (is_slot (task u (suc t)).awaiter) → Other g (task u (suc t)).awaiter
          by Awaiter.Nobody q z = absurd (subst (λ (a : Awaiter). T (is_slot a)) q z)
          by (Awaiter.Task v) q z = subst (Other g) (sym q) tt
          by (Awaiter.GatherSlot f y) q z = subst (Other g) (sym q) (slot-other (task u (suc t)).coroutine.0 f.0 y.0 is.1 (h.but.task_slots (suc t) low-t (holds _ is.0) f.0 y.0 q))

      -- a task is spawned for a new coroutine that has none
      spawns : (f : ℕ) → object u o ≡ Object.Coroutine f CoroutineState.New → ItemFails (polled (polled_spawn u (spawn u o g)))
      unfolding spawn
      spawns f e = by (task_of u o) refl
        where
          spawned-fails : (header u).next < task_limit → ItemFails (polled (polled_spawn u (some (spawn_as u (header u).next o g))))
          spawned-fails room = unfold polled_spawn in
              (going_opens s v g i fs w (sized-spawn_as u (header u).next o g mem.sized) low-g wide_fits (ap as_awaited (spawn-rows s u (header u).next o g g) ∙ top) apart
              (subst (Calm s (OnTop g fs) v) (item-is i) (record { passed = subst Passed (sym (spawn-rows s u (header u).next o g o ∙ e)) tt; off = off-stack }))
              (going_same s u v g i fs (committing_spawn s u o g f mem.sized room low-o low-g e stands k.commits) (λ p. spawn-rows s u (header u).next o g p) k))
            where
              v : Store
              v = spawn_as u (header u).next o g

          by : (d : Option ℕ) → task_of u o ≡ d → ItemFails (polled (polled_spawn u (spawn_unless u o g d)))
          by (some v) q = unfold spawn_unless polled_spawn in (raising Error.CoroutineReuse _ e (reuses _ _ (coroutine_reused f CoroutineState.New (its_task v q))) (λ z. z))
          by none q =
              let room : (header u).next < task_limit = spawn-left u h less in
              unfold spawn_unless in (rw (lt-ltb (header u).next task_limit room) (spawned-fails room))

      -- a pending external that has an awaiter
      taken : (c : CallId) (a : Awaiter) (r : OptionValue) → object u o ≡ Object.ExternalFuture c (ExternalFutureState.Pending a r) → Other g a → ItemFails (polled (gives u (raised Error.FutureReuse)))
      taken c a r e d = raising Error.FutureReuse _ e (reuses _ _ (future_reused c a r d)) (λ z. z)

      -- an awaited gather's awaiter is no slot of this one
      parent : {f m j : ℕ} (a : Awaiter) → object u o ≡ Object.GatherFuture f m (GatherState.Awaited a j) → NoSlot g a
      unfolding view
      parent Awaiter.Nobody e = tt
      parent (Awaiter.Task v) e = tt
      parent (Awaiter.GatherSlot f y) e = slot-other o f.0 y.0 refl (h.but.object_slots o (omega (arith, lower, made)) off-stack f.0 y.0 (ap awaiter_of e ∙ (unfold awaiter_of in refl)))

      -- every item
      item-fails : (x : Object) → object u o ≡ x → ItemFails (item_object u g o x)
      unfolding item_object item_gather await_external await_pending item_coroutine view
      item-fails Object.Unmade e = absurd (no-unmade e)
      item-fails (Object.Coroutine f CoroutineState.New) e = spawns f e
      item-fails (Object.Coroutine f CoroutineState.Running) e = raising Error.CoroutineReuse _ e (reuses _ _ (coroutine_reused f CoroutineState.Running tt)) (λ z. z)
      item-fails (Object.Coroutine f CoroutineState.Completed) e = raising Error.CoroutineReuse _ e (reuses _ _ (coroutine_reused f CoroutineState.Completed tt)) (λ z. z)
      item-fails (Object.ExternalFuture c (ExternalFutureState.Pending Awaiter.Nobody r)) e = takes c r e
      item-fails (Object.ExternalFuture c (ExternalFutureState.Pending (Awaiter.Task v) r)) e = taken c (Awaiter.Task v) r e tt
      item-fails (Object.ExternalFuture c (ExternalFutureState.Pending (Awaiter.GatherSlot f y) r)) e =
          taken c (Awaiter.GatherSlot f y) r e (slot-other o f.0 y.0 refl (h.but.object_slots o (omega (arith, lower, made)) off-stack f.0 y.0 (ap awaiter_of e ∙ (unfold awaiter_of in refl))))
      item-fails (Object.ExternalFuture c (ExternalFutureState.Resolved x)) e = fills x _ e (subst ObjectFits e (object-fits u o)).1 tt tt
      item-fails (Object.ExternalFuture c (ExternalFutureState.Failed x)) e = raising x _ e (broken c x) (λ z. z)
      item-fails (Object.GatherFuture f m GatherState.Pending) e = tt
      item-fails (Object.GatherFuture f m (GatherState.Awaited a j)) e = raising Error.GatherReuse _ e (reuses _ _ (gather_reused f m a j (parent a e))) (λ z. z)
      item-fails (Object.GatherFuture f m GatherState.Completed) e = fills (Value.List (heap_id o)) _ e low-o tt tt
      item-fails (Object.GatherFuture f m (GatherState.Failed x)) e = raising x _ e (failed f m x) (λ z. z)

    one-fails : ItemFails (item u g w o)
    unfolding item
    one-fails = by (open_from (place u) w o 0 w.count) refl
      where
        by : (b : Bool) → open_from (place u) w o 0 w.count ≡ b → ItemFails (pick b (polled (gives u pending)) (item_object u g o (object u o)))
        by true e = again (open_found (place u) w o w.count 0 (omega arith) (holds _ e))
        by false e = item-fails e (object u o) refl

    put-fails : (go : Store → Stop) → ((y : Store) → Goes root t g fs i w.count y → Going s y g (i + 1) fs → StopFails g fs (go y)) → (x : Item) → ItemOk root t g fs w i o u x → ItemFails x
        → StopFails g fs (put_item g w i o u x go)
    unfolding put_item put_polled
    put-fails go f nested ok l = k
    put-fails go f (polled r) ok l = by r.poll ok l
      where
        by : (p : Poll) → PollOk root t g fs w i r.store p → PollFails r.store p → StopFails g fs (put_polled g w i r.store p go)
        by (ready v) ok l = f _ ok l
        by (raised e) ok l = l
        by pending ok l = f _ ok l

    pub step-fails : (go : Store → Stop) → ((y : Store) → Goes root t g fs i w.count y → Going s y g (i + 1) fs → StopFails g fs (go y)) → StopFails g fs (put_item g w i o u (item u g w o) go)
    step-fails go f = put-fails go f (item u g w o) (one_keeps root t g fs i u mem h less) one-fails

  -- The walk through the items.
  pub items-fails : (n : ℕ) (root t g i : ℕ) (fs : List Frame) (u : Store) → Memory u → (h : Inv root t 0 (OnTop g fs) (view u) g i fs) → i + n ≡ h.w.count → Going s u g i fs
      → StopFails g fs (step_items n u g i)
  unfolding step_items step_item view
  items-fails zero root t g i fs u mem h e k = record { i = i; going = k }
  items-fails (suc n) root t g i fs u mem h e k =
      subst (λ (o : Option AwaitedGather). StopFails g fs (step_item g i u o (λ x. step_items n x g (i + 1)))) (sym h.opened.awaited)
      (step-fails root t g fs i u mem h (omega arith) k (λ x. step_items n x g (i + 1))
      (λ y c l. items-fails n root t g (i + 1) fs y c.memory c.inv (goes-length root t g i fs h.w.count n y e c) l))
