-- No panic of the Rust is reached (docs/PANICS.md): one law for each expect, panic and assertion that soundness excludes. They are stated over
-- what holds in the midst of an event (`SoundBut`, `Kept`, `Inv`), so that they hold where the Rust has that line.
use Rattle.std.specs.Prelude.{◌≡◌, refl, Bool, true, false, not, ◌||◌, List, [], ◌∷◌, eqb, ltb, length}
use Rattle.std.proofs.Math.Path.{ap, subst}
use Rattle.std.proofs.Common.{sym, ◌∙◌, inl, inr, le_refl, arith, eqb-true, eq-eqb, lt-ltb}
use Rattle.std.proofs.Math.Option.{Option, none, some, some-injective}
use Prim.Native.Nat.{ℕ, zero, suc, ◌+◌, ◌-◌, ◌≤◌, ◌<◌}
use Rattle.std.proofs.Math.Dec.{T, ltb→lt, eqb→eq}
use Rattle.std.proofs.Math.ListN.{get_or}
use Rattle.std.proofs.lemmas.Bool.{eqb-false}
use Rattle.asyncio.specs.declared.TaskId.{TaskId}
use Rattle.asyncio.specs.declared.Value.{Value}
use Rattle.asyncio.specs.declared.Error.{Error}
use Rattle.asyncio.specs.declared.Awaiter.{Awaiter}
use Rattle.asyncio.specs.Options.{OptionValue}
use Rattle.asyncio.specs.declared.TaskState.{TaskState}
use Rattle.asyncio.specs.declared.CoroutineState.{CoroutineState}
use Rattle.asyncio.specs.declared.ExternalFutureState.{ExternalFutureState}
use Rattle.asyncio.specs.declared.GatherState.{GatherState}
use Rattle.asyncio.specs.declared.Object.{Object}
use Rattle.asyncio.specs.declared.Place.{Place}
use Rattle.asyncio.specs.declared.Header.{Header}
use Rattle.asyncio.specs.declared.Moment.{Moment}
use Rattle.asyncio.specs.Limits.{task_limit}
use Rattle.asyncio.specs.Numbers.{heap_id, task_id}
use Rattle.asyncio.specs.States.{pick, is_live, is_unstarted, is_ready}
use Rattle.asyncio.specs.Kinds.{kind, is_committed, is_pending_external}
use Rattle.asyncio.specs.Parts.{awaiter_of, call_of, count_of}
use Rattle.queue.specs.Queue.{entries, front_of}
use Rattle.queue.proofs.QueueLaws.{length-entries, front_entry}
use Rattle.machine.specs.Tests.{sum_below}
use Rattle.machine.specs.Store.{Store, View, view, task, object, header}
use Rattle.machine.specs.Scheduler.{AwaitedGather, PendingExternal, as_awaited, as_pending, bit, is_some, first_from, is_call, pending_external_in, pending_external}
use Rattle.machine.specs.Scheduler.{task_of, spawn_as, spawn_unless, spawn}
use Rattle.machine.specs.Delivery.{fill_from}
use Rattle.machine.specs.Commit.{Frame}
use Rattle.rows.specs.Tables.{place_at}
use Rattle.machine.specs.Machine.{Event, is_run, in_running, refusals, refusal}
use Rattle.machine.specs.Events.{new_function}
use Rattle.machine.specs.Sound.{places_below, object_in_range, task_in_range, committed_places, items_below, entry_ready, is_ended, value_known, is_filled, rest_filled, gather_filled, object_filled, runs_now}
use Rattle.machine_laws.specs.Views.{update}
use Rattle.machine_laws.specs.Facts.{Open, Slotted, SoundBut, Nothing}
use Rattle.machine_laws.specs.TestLaws.{both_left, both_right, below, or_use, sum_last, sum_more}
use Rattle.machine_laws.specs.SoundLaws.{pass}
use Rattle.machine_laws.specs.DeliveryLaws.{absurd_some, awaited-object, first_below}
use Rattle.machine_theorems.specs.Soundness.Stores.{Kept, Runs, SoundDuring, SoundStore}
use Rattle.machine_theorems.specs.Soundness.Deliver.{Detached}
use Rattle.machine_theorems.specs.Bounds.Bits.{none-set}
use Rattle.machine_theorems.specs.Soundness.Fill.{all_filled}
use Rattle.machine_theorems.specs.Soundness.Cycle.{Spawned, spawned_of, coroutine-is}
use Rattle.machine_theorems.specs.Soundness.Exits.{is_run_state, runner_low, runner-runs}
use Rattle.machine_theorems.specs.Soundness.CommitInv.{OnStack, Stacked, bottom, above, stacked_object, Inv}
use Rattle.machine_theorems.specs.Soundness.CommitLoop.{rest-done}

-- ---- who is activated

-- the states that `activate_state` starts or runs; of a task in any other state the host gets control, where the Rust panics
pub data Activated : TaskState → Type 0 where
  starts : Activated TaskState.Unstarted
  goes_on : (v : Value) → Activated (TaskState.Woken v)
  raises_it : (e : Error) → Activated (TaskState.Raised e)

-- scheduler.rs:197, 312: a ready task is live and unblocked, and it is started or runs on
pub ready_activated : (x : TaskState) → T (is_ready x) → Activated x
ready_activated TaskState.Absent h = absurd h
ready_activated TaskState.Unstarted h = starts
ready_activated TaskState.Running h = absurd h
ready_activated (TaskState.Woken v) h = goes_on v
ready_activated (TaskState.Raised e) h = raises_it e
ready_activated (TaskState.Blocked o) h = absurd h

module _ {k : ℕ} {P Q : ℕ → Type 0} {v : View} (h : SoundBut k P Q v) where
  -- scheduler.rs:197, 312: so is every entry of the queue, which is a task in use
  pub entry_activated : (i : ℕ) → i < length v.queue → (get_or v.queue i 0 < v.header.next) × Activated (v.tasks (get_or v.queue i 0)).state
  unfolding entry_ready
  entry_activated i l =
      let e = h.entries i l in
      let t : ℕ = get_or v.queue i 0 in
      (ltb→lt t v.header.next (both_left _ _ e), ready_activated (v.tasks t).state (both_left _ _ (both_right (ltb t v.header.next) _ e)))

  -- async_exec.rs:476, 627 (X1): main is never unstarted
  pub main_started : (v.tasks 0).state ≡ TaskState.Unstarted → ⊥
  unfolding task_in_range
  main_started e = subst (λ (y : TaskState). T (not (is_unstarted y))) e (both_left _ _ (h.tasks 0 h.main))

  -- async_exec.rs:476, 627: so a task that is started is a spawned one
  pub started-spawned : (t : ℕ) → (v.tasks t).state ≡ TaskState.Unstarted → (u : ℕ) × (t ≡ suc u)
  started-spawned zero e = absurd (main_started e)
  started-spawned (suc u) e = (u, refl)

-- scheduler.rs:197, 312: the task that `resume_next` takes from the queue's front
pub front_activated : {k : ℕ} {P Q : ℕ → Type 0} (s : Store) → Kept k P Q s → eqb s.queue.len 0 ≡ false
    → ((front_of s.queue).0 < (header s).next) × Activated (task s (front_of s.queue).0).state
unfolding view
front_activated s h ne = by (entries s.queue) refl
  where
    len : s.queue.len ≤ task_limit
    len = h.memory.words_right.queue_short

    by : (us : List ℕ) → entries s.queue ≡ us → ((front_of s.queue).0 < (header s).next) × Activated (task s (front_of s.queue).0).state
    by [] e = absurd (eqb-false s.queue.len 0 ne (sym (length-entries s.queue h.memory.ids len) ∙ ap length e))
    by (u ∷ us) e =
        let first = entry_activated h.but 0 (subst (λ (q : List ℕ). 0 < length q) (sym e) (omega arith)) in
        let here : get_or (entries s.queue) 0 0 ≡ u = ap (λ (q : List ℕ). get_or q 0 0) e in
        let low : u < (header s).next = subst (λ (t : ℕ). t < (header s).next) here first.0 in
        let front : front_of s.queue ≡ task_id u = front_entry s.queue u us e (omega (arith, low, h.but.fits.next_fits)) in
        subst (λ (t : TaskId). (t.0 < (header s).next) × Activated (task s t.0).state) (sym front)
        (low, subst (λ (t : ℕ). Activated (task s t).state) here first.1)

-- ---- the running task

-- scheduler.rs:236, async_exec.rs:60, 426, 475: where task t runs, at the beginning of an event and in its midst (`SoundDuring`, `Inv`, `After`), its state
-- is Running: it is live, and blocked on nothing
pub current_runs : (t : ℕ) (v : View) → t < v.header.next → Runs (runs_now (Moment.Running (task_id t))) v → (v.tasks t).state ≡ TaskState.Running
unfolding runs_now
current_runs t v l r = is_run_state (v.tasks t).state (r t l ∙ eq-eqb t t refl)

-- the running task of a sound store in the moment running
pub record Current (s : Store) : Type 0 where
  pub number : ℕ
  pub moment : (header s).moment ≡ Moment.Running (task_id number)
  pub in_use : number < (header s).next
  pub state : (task s number).state ≡ TaskState.Running

-- async_exec.rs:60, 426, 475: an event of running (refusal 4) has a current task
pub current_task : (s : Store) → SoundStore s → is_run (header s).moment ≡ true → Current s
unfolding is_run
current_task s h e = by (header s).moment refl
  where
    by : (m : Moment) → (header s).moment ≡ m → Current s
    by (Moment.Running t) q = record { number = t.0; moment = q; in_use = runner_low s t.0 h q; state = runner-runs s t.0 h q }
    by Moment.Waiting q = absurd (subst T (sym e ∙ ap is_run q) tt)
    by Moment.Ended q = absurd (subst T (sym e ∙ ap is_run q) tt)

-- ---- the coroutine of a spawned task

-- object o is a coroutine among those made
pub record IsCoroutine (v : View) (o : ℕ) : Type 0 where
  pub made : o < v.header.made
  pub function : ℕ
  pub state : CoroutineState
  pub is : v.objects o ≡ Object.Coroutine function state

module _ {k : ℕ} {P Q : ℕ → Type 0} {v : View} (h : SoundBut k P Q v) where
  -- async_exec.rs:432, 436, 613, 638 (X2): a live spawned task names a coroutine
  pub task-coroutine : (t : ℕ) → suc t < v.header.next → T (is_live (v.tasks (suc t)).state) → IsCoroutine v (v.tasks (suc t)).coroutine.0
  task-coroutine t l a =
      let sp : Spawned v (suc t) = spawned_of t h l a in
      let i = coroutine-is (v.objects (v.tasks (suc t)).coroutine.0) sp.coroutine in
      record { made = sp.made; function = i.0; state = i.1; is = i.2 }

  -- async_exec.rs:627, 638: a start that fails does so only because the coroutine is not new any more
  pub start-fails : (t : ℕ) → suc t < v.header.next → (a : T (is_live (v.tasks (suc t)).state))
      → new_function (v.objects (v.tasks (suc t)).coroutine.0) ≡ none → (c : IsCoroutine v (v.tasks (suc t)).coroutine.0) × (c.state ≡ CoroutineState.New → ⊥)
  unfolding new_function
  start-fails t l a e =
      let c : IsCoroutine v (v.tasks (suc t)).coroutine.0 = task-coroutine t l a in
      (c, λ q. absurd_some (sym e ∙ (ap new_function c.is ∙ ap (λ (y : CoroutineState). new_function (Object.Coroutine c.function y)) q)))

  -- ---- items

  -- async_exec.rs:278: what is made is one of the three sorts
  pub made_awaitable : (o : ℕ) → o < v.header.made → v.objects o ≡ Object.Unmade → ⊥
  unfolding object_in_range
  made_awaitable o l e = subst (λ (y : Object). T (object_in_range v.header (places_below v.objects o) y)) e (h.objects o l)

  -- async_exec.rs:231, 278: an item is lower than its gather
  pub item-lower : (g f n : ℕ) (x : GatherState) → g < v.header.made → v.objects g ≡ Object.GatherFuture f n x → (i : ℕ) → i < n → (v.places (f + i)).item.0 < g
  unfolding items_below
  item-lower g f n x l e i m = ltb→lt _ g (below n _ (subst (λ (y : Object). T (items_below v.places g y)) e (h.items g l)) i m)

  -- async_exec.rs:278: so it is made, and `item_object` never meets an object that is not
  pub item_awaitable : (g f n : ℕ) (x : GatherState) → g < v.header.made → v.objects g ≡ Object.GatherFuture f n x → (i : ℕ) → i < n
      → v.objects (v.places (f + i)).item.0 ≡ Object.Unmade → ⊥
  item_awaitable g f n x l e i m = made_awaitable (v.places (f + i)).item.0 (omega (arith, item-lower g f n x l e i m))

  -- async_exec.rs:231, 282, 984, 1099: a place of a gather is one of those used
  pub place-used : (g f n : ℕ) (x : GatherState) → g < v.header.made → v.objects g ≡ Object.GatherFuture f n x → (i : ℕ) → i < n → f + i < v.header.used
  unfolding object_in_range places_below
  place-used g f n x l e i m =
      let first : f ≡ sum_below g (λ o. count_of (v.objects o)) =
      eqb→eq f _ (both_left (eqb f _) _ (subst (λ (y : Object). T (object_in_range v.header (places_below v.objects g) y)) e (h.objects g l))) in
      let mine : count_of (v.objects g) ≡ n = ap count_of e ∙ (unfold count_of in refl) in
      let more : sum_below (g + 1) (λ o. count_of (v.objects o)) ≤ sum_below v.header.made (λ o. count_of (v.objects o)) = sum_more _ (g + 1) v.header.made (omega arith) in
      let all : v.header.used ≡ sum_below v.header.made (λ o. count_of (v.objects o)) = h.all_used in
      omega (arith, sum_last (λ o. count_of (v.objects o)) g)

  -- ---- results

  -- async_exec.rs:308, 1127: the places of an awaited gather that are not open are filled
  pub closed_filled : (g : ℕ) (w : AwaitedGather) → g < v.header.made → (Q g → ⊥) → as_awaited (v.objects g) ≡ some w
      → (i : ℕ) → i < w.count → bit w.open_places i ≡ false → T (is_filled (v.places (w.first + i)).result)
  unfolding object_filled gather_filled rest_filled
  closed_filled g w l n e i m c =
      or_use (bit w.open_places i) _ c
      (below w.count (λ j. bit w.open_places j || is_filled (v.places (w.first + j)).result)
      (both_right (not (eqb w.open_places 0)) _ (subst (λ (y : Object). T (object_filled v.places y)) (awaited-object (v.objects g) w e) (h.filled g l n))) i m)

-- where no place is open, every place is filled
all_of_rest : (ps : ℕ → Place) (f n m : ℕ) → m ≡ 0 → T (rest_filled ps f n m) → (i : ℕ) → i < n → T (is_filled (ps (f + i)).result)
unfolding rest_filled
all_of_rest ps f n m z t i l = or_use (bit m i) _ (ap (λ (k : ℕ). bit k i) z ∙ none-set i) (below n (λ j. bit m j || is_filled (ps (f + j)).result) t i l)

-- async_exec.rs:308, 1127: all places of a completed gather are filled
pub completed-filled : {k : ℕ} {P Q : ℕ → Type 0} {v : View} → SoundBut k P Q v → (g f n : ℕ) → g < v.header.made → (Q g → ⊥)
    → v.objects g ≡ Object.GatherFuture f n GatherState.Completed → (i : ℕ) → i < n → T (is_filled (v.places (f + i)).result)
unfolding object_filled gather_filled
completed-filled {v = v} h g f n l c e =
    all_of_rest v.places f n 0 refl (subst (λ (y : Object). T (object_filled v.places y)) e (h.filled g l c))

-- async_exec.rs:308: a gather whose items are all stepped, with none open, has all its places filled
pub committed-filled : {root t e : ℕ} {Q : ℕ → Type 0} {v : View} {g i : ℕ} {fs : List Frame} (h : Inv root t e Q v g i fs) → i ≡ h.w.count → h.w.open_places ≡ 0
    → (j : ℕ) → j < h.w.count → T (is_filled (v.places (h.w.first + j)).result)
committed-filled {v = v} {g = g} {i = i} h e z =
    all_of_rest v.places h.w.first h.w.count h.w.open_places z (rest-done v.places v.header.made v.objects g i h.w e h.opened)

-- async_exec.rs:1127: a gather that a value leaves with no place open has all its places filled
pub delivered-filled : {r : ℕ → Bool} {D : ℕ → Type 0} {hd : Header} (s : Store) (g x : ℕ) (v : Value) (w : AwaitedGather) → SoundDuring Nothing r D hd s → g < (header s).made
    → as_awaited (object s g) ≡ some w → T (value_known (header s).made (object s) v)
    → (fill_from s.places w.open_places w.first x v 0 w.count).open_places ≡ 0
    → (i : ℕ) → i < w.count → T (is_filled (place_at (fill_from s.places w.open_places w.first x v 0 w.count).places (w.first + i)).result)
delivered-filled s g x v w h l e k z = all_of_rest _ w.first w.count _ z (all_filled s g x v w h l e k).rest

-- ---- the gathers of a commit

-- async_exec.rs:202, 225, 301: the frame on top is of an awaited gather
pub top_gather : {root t e : ℕ} {Q : ℕ → Type 0} {v : View} {g i : ℕ} {fs : List Frame} (h : Inv root t e Q v g i fs)
    → v.objects g ≡ Object.GatherFuture h.w.first h.w.count (GatherState.Awaited h.w.awaiter h.w.open_places)
top_gather {v = v} {g = g} h = awaited-object (v.objects g) h.w h.opened.awaited

-- async_exec.rs:202, 225, 301, 334: and so is every frame below it
pub frame-gather : {n : ℕ} {os : ℕ → Object} {ps : ℕ → Place} {root t g : ℕ} {a : Awaiter} {fs : List Frame} {k : ℕ} → Stacked n os ps root t g a fs k
    → (p : ℕ) → OnStack fs p → (p < n) × (w : AwaitedGather) × (as_awaited (os p) ≡ some w)
frame-gather (bottom e q) p z = absurd z
frame-gather {n = n} {os = os} (above w j op lt nm lo aw rm rest) p (inl e) =
    subst (λ (o : ℕ). (o < n) × (u : AwaitedGather) × (as_awaited (os o) ≡ some u)) (sym e) (op.made, w, op.awaited)
frame-gather (above w j op lt nm lo aw rm rest) p (inr z) = frame-gather rest p z

-- async_exec.rs:334: when the gather on top was settled or failed, whatever it is then, the frames below it are of awaited gathers still
pub unwound_gather : {n : ℕ} {os : ℕ → Object} {ps : ℕ → Place} {root t g : ℕ} {a : Awaiter} {fs : List Frame} {k : ℕ} (r : Object) → Stacked n os ps root t g a fs k
    → (p : ℕ) → OnStack fs p → (p < n) × (w : AwaitedGather) × (as_awaited (update os g r p) ≡ some w)
unwound_gather {g = g} r h = frame-gather (stacked_object g r (le_refl _) h)

-- ---- slots

-- object g is a gather that was committed
pub record IsCommitted (os : ℕ → Object) (g : ℕ) : Type 0 where
  pub first : ℕ
  pub count : ℕ
  pub state : GatherState
  pub is : os g ≡ Object.GatherFuture first count state
  pub begun : state ≡ GatherState.Pending → ⊥

committed-is : (os : ℕ → Object) (g : ℕ) (x : Object) → os g ≡ x → T (is_committed (kind x)) → IsCommitted os g
unfolding kind
committed-is os g Object.Unmade e h = absurd h
committed-is os g (Object.Coroutine f CoroutineState.New) e h = absurd h
committed-is os g (Object.Coroutine f CoroutineState.Running) e h = absurd h
committed-is os g (Object.Coroutine f CoroutineState.Completed) e h = absurd h
committed-is os g (Object.ExternalFuture c (ExternalFutureState.Pending a r)) e h = absurd h
committed-is os g (Object.ExternalFuture c (ExternalFutureState.Resolved v)) e h = absurd h
committed-is os g (Object.ExternalFuture c (ExternalFutureState.Failed x)) e h = absurd h
committed-is os g (Object.GatherFuture f n GatherState.Pending) e h = absurd h
committed-is os g (Object.GatherFuture f n (GatherState.Awaited a m)) e h =
    record { first = f; count = n; state = GatherState.Awaited a m; is = e; begun = λ q. let z : ◌≡◌ {A = ℕ} 0 1 = cc in omega arith }
committed-is os g (Object.GatherFuture f n GatherState.Completed) e h =
    record { first = f; count = n; state = GatherState.Completed; is = e; begun = λ q. let z : ◌≡◌ {A = ℕ} 0 1 = cc in omega arith }
committed-is os g (Object.GatherFuture f n (GatherState.Failed x)) e h =
    record { first = f; count = n; state = GatherState.Failed x; is = e; begun = λ q. let z : ◌≡◌ {A = ℕ} 0 1 = cc in omega arith }

-- async_exec.rs:763, 784, 1074: the gather of a slot is a gather that was committed
pub slot_gather : {n : ℕ} {os : ℕ → Object} {ps : ℕ → Place} {o g x : ℕ} → Slotted n os ps o g x → (g < n) × IsCommitted os g
slot_gather {os = os} {g = g} h = (h.made, committed-is os g (os g) refl h.committed)

-- async_exec.rs:1084: and if it is still awaited, an open place of it names the slot's source
pub slot_registered : {n : ℕ} {os : ℕ → Object} {ps : ℕ → Place} {o g x : ℕ} → Slotted n os ps o g x → (w : AwaitedGather) → as_awaited (os g) ≡ some w → Open ps w x
slot_registered {ps = ps} h w e = subst (Open ps w) (sym h.own) (h.opens w e)

module _ {k : ℕ} {P Q : ℕ → Type 0} {v : View} (h : SoundBut k P Q v) where
  -- async_exec.rs:763, 784, 1074, 1084: of the slot of a pending external or an awaited gather
  pub object_slotted : (o : ℕ) → o < v.header.made → (Q o → ⊥) → (g x : ℕ) → awaiter_of (v.objects o) ≡ Awaiter.GatherSlot (heap_id g) (heap_id x)
      → Slotted v.header.made v.objects v.places o g x
  object_slotted = h.object_slots

  -- and of a live task
  pub task_slotted : (t : ℕ) → t < v.header.next → T (is_live (v.tasks t).state) → (g x : ℕ) → (v.tasks t).awaiter ≡ Awaiter.GatherSlot (heap_id g) (heap_id x)
      → Slotted v.header.made v.objects v.places (v.tasks t).coroutine.0 g x
  task_slotted = h.task_slots

-- and of what is on its way up the gathers, when its object has it no more
pub detached_slotted : {v : View} {o : ℕ} {a : Awaiter} → Detached v o a → (g x : ℕ) → a ≡ Awaiter.GatherSlot (heap_id g) (heap_id x)
    → Slotted v.header.made v.objects v.places o g x
detached_slotted h = h.slot

-- ---- pending calls

first_holds : (p : ℕ → Bool) (k i o : ℕ) → first_from p i k ≡ some o → p o ≡ true
unfolding first_from
first_holds p zero i o e = absurd_some e
first_holds p (suc k) i o e = by (p i) refl e (λ q. first_holds p k (i + 1) o q)
  where
    by : (b : Bool) → p i ≡ b → pick b (some i) (first_from p (i + 1) k) ≡ some o → (first_from p (i + 1) k ≡ some o → p o ≡ true) → p o ≡ true
    by true z q f = ap p (sym (some-injective i o q)) ∙ z
    by false z q f = f q

-- a pending external of the call
pub record PendingOf (s : Store) (call o : ℕ) : Type 0 where
  pub made : o < (header s).made
  pub external : PendingExternal
  pub is : as_pending (object s o) ≡ some external
  pub of_call : external.call.0 ≡ call

pending_of : (s : Store) (call o : ℕ) (x : Object) → object s o ≡ x → o < (header s).made → pick (is_pending_external (kind x)) (eqb (call_of x).0 call) false ≡ true
    → PendingOf s call o
unfolding kind call_of as_pending
pending_of s call o Object.Unmade q l e = absurd (subst T (sym e) tt)
pending_of s call o (Object.Coroutine f CoroutineState.New) q l e = absurd (subst T (sym e) tt)
pending_of s call o (Object.Coroutine f CoroutineState.Running) q l e = absurd (subst T (sym e) tt)
pending_of s call o (Object.Coroutine f CoroutineState.Completed) q l e = absurd (subst T (sym e) tt)
pending_of s call o (Object.ExternalFuture c (ExternalFutureState.Pending a r)) q l e =
    record { made = l; external = record { call = c; awaiter = a; stored = r }; is = ap as_pending q; of_call = eqb-true c.0 call e }
pending_of s call o (Object.ExternalFuture c (ExternalFutureState.Resolved v)) q l e = absurd (subst T (sym e) tt)
pending_of s call o (Object.ExternalFuture c (ExternalFutureState.Failed x)) q l e = absurd (subst T (sym e) tt)
pending_of s call o (Object.GatherFuture f n GatherState.Pending) q l e = absurd (subst T (sym e) tt)
pending_of s call o (Object.GatherFuture f n (GatherState.Awaited a m)) q l e = absurd (subst T (sym e) tt)
pending_of s call o (Object.GatherFuture f n GatherState.Completed) q l e = absurd (subst T (sym e) tt)
pending_of s call o (Object.GatherFuture f n (GatherState.Failed x)) q l e = absurd (subst T (sym e) tt)

-- async_exec.rs:703, 721, 811, 819: what is found for a call, in any store, is a pending external of it, so `settle_pending` settles it
pub found-pending : (s : Store) (call o : ℕ) → pending_external s call ≡ some o → PendingOf s call o
unfolding pending_external pending_external_in is_call header object
found-pending s call o e =
    pending_of s call o (object s o) refl (omega (arith, first_below _ (header s).made 0 o e)) (first_holds (is_call s.objects call) (header s).made 0 o e)

-- async_exec.rs:703, 811: and in a session not ended it is the only one
pub found-alone : {k : ℕ} {P Q : ℕ → Type 0} (s : Store) → SoundBut k P Q (view s) → is_ended (header s).moment ≡ false → (call o p : ℕ)
    → PendingOf s call o → PendingOf s call p → o ≡ p
unfolding view
found-alone s h n call o p a b = h.calls n o p a.made b.made a.external b.external a.is b.is (a.of_call ∙ sym b.of_call)

-- scheduler.rs:217: an external is made pending only for a call that is not (refusal 6)
pub registered_once : (s : Store) (call : ℕ) (r : OptionValue) → refusal s (Event.pending call r) ≡ 0 → pending_external s call ≡ none
unfolding refusal refusals in_running is_some
registered_once s call r e = by (pending_external s call) (pass 5 (is_some (pending_external s call)) _ (pass 4 _ _ (pass 3 _ _ (pass 2 _ _ (pass 1 _ _ e).1).1).1).1).0
  where
    by : (o : Option ℕ) → is_some o ≡ false → o ≡ none
    by none q = refl
    by (some o) q = absurd (subst T q tt)

-- ---- numbers of tasks

committed_less : (x : Object) → committed_places x ≤ count_of x
unfolding committed_places
committed_less x = by (is_committed (kind x))
  where
    by : (b : Bool) → pick b (count_of x) 0 ≤ count_of x
    by true = le_refl _
    by false = omega arith

sum_less : (n : ℕ) (f g : ℕ → ℕ) → ((i : ℕ) → f i ≤ g i) → sum_below n f ≤ sum_below n g
unfolding sum_below
sum_less zero f g h = le_refl _
sum_less (suc n) f g h = omega (arith, sum_less n f g h, h n)

-- while a place that was committed may still have its task spawned, a number is left
pub number-left : {k : ℕ} {P Q : ℕ → Type 0} {v : View} → SoundBut (suc k) P Q v → v.header.next < task_limit
unfolding places_below
number-left {v = v} h =
    let less : sum_below v.header.made (λ o. committed_places (v.objects o)) ≤ sum_below v.header.made (λ o. count_of (v.objects o)) =
    sum_less v.header.made _ _ (λ o. committed_less (v.objects o)) in
    let all : v.header.used ≡ sum_below v.header.made (λ o. count_of (v.objects o)) = h.all_used in
    omega (arith, h.spawned, h.fits.used_fits)

-- in the midst of a commit: the test of the limit, before a task is spawned for the next item, never fails
pub spawn-left : {root t g i : ℕ} {Q : ℕ → Type 0} {fs : List Frame} (s : Store) (h : Inv root t 0 Q (view s) g i fs) → i < h.w.count → (header s).next < task_limit
unfolding view
spawn-left {i = i} {Q = Q} s h l =
    let more : 0 + ((h.w.count - i) + h.k) ≡ suc ((h.w.count - (i + 1)) + h.k) = omega arith in
    number-left (subst (λ (m : ℕ). SoundBut m Nothing Q (view s)) more h.but)

-- so `spawn` spawns, unless a live task drives the coroutine
pub spawn-room : {root t g i : ℕ} {Q : ℕ → Type 0} {fs : List Frame} (s : Store) (h : Inv root t 0 Q (view s) g i fs) → i < h.w.count
    → (c : ℕ) → task_of s c ≡ none → spawn s c g ≡ some (spawn_as s (header s).next c g)
unfolding spawn spawn_unless
spawn-room s h l c e = rw (e, lt-ltb (header s).next task_limit (spawn-left s h l))
