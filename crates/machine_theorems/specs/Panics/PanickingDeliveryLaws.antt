-- Delivery in a session reaches no panic: whatever a panic does, delivery with the panics is the machine's.
use Rattle.std.specs.Prelude.{◌≡◌, eqb}
use Rattle.std.proofs.Math.Path.{refl, ap}
use Rattle.std.proofs.Common.{sym, subst, ◌∙◌, not-suc-le-zero, arith, eqb-true, lt-ltb}
use Rattle.std.proofs.Math.Bool.{Bool, true, false}
use mathlib.Core.List.{List, [], ◌∷◌}
use Rattle.std.proofs.Math.Option.{Option, none, some}
use Prim.Native.Nat.{ℕ, zero, suc, ◌+◌, ◌≤◌, ◌<◌}
use Rattle.std.proofs.Math.Dec.{T}
use Rattle.asyncio.specs.declared.Value.{Value}
use Rattle.asyncio.specs.declared.Error.{Error}
use Rattle.asyncio.specs.declared.Awaiter.{Awaiter}
use Rattle.asyncio.specs.declared.TaskState.{TaskState}
use Rattle.asyncio.specs.declared.CoroutineState.{CoroutineState}
use Rattle.asyncio.specs.declared.ExternalFutureState.{ExternalFutureState}
use Rattle.asyncio.specs.declared.GatherState.{GatherState}
use Rattle.asyncio.specs.declared.Object.{Object}
use Rattle.asyncio.specs.declared.Header.{Header}
use Rattle.asyncio.specs.Ranges.{ErrorFits}
use Rattle.asyncio.specs.Limits.{object_limit}
use Rattle.asyncio.specs.Numbers.{heap_id}
use Rattle.asyncio.specs.Layout.{to_value, to_error}
use Rattle.asyncio.specs.States.{pick, is_blocked}
use Rattle.asyncio.specs.Kinds.{kind, is_committed}
use Rattle.machine.specs.Store.{Store, view, task, object, place, header, put_places, add_log, reached}
use Rattle.machine.specs.Scheduler.{AwaitedGather, PendingExternal, as_awaited, as_pending, make_ready, pending_external}
use Rattle.machine.specs.Delivery.{Delivery, nobody_woken, deliver_to_task, Filled, fill_one, fill_from, Settled, resolve_left, resolve_awaited, resolve_child, fail_awaited, fail_gather, climb, awaited_count}
use Rattle.machine.specs.Delivery.{send_value, climb_value, deliver_awaiter_success, send_error, climb_error, deliver_awaiter_failure}
use Rattle.machine.specs.Delivery.{value_or, resolve_pending, fail_pending, settle_pending, settle_found, resolve_future, fail_future}
use Rattle.machine.specs.Events.{Result, apply_result, apply_future_results}
use Rattle.machine.specs.Commit.{open_from}
use Rattle.machine.specs.Sound.{value_known, rest_filled}
use Rattle.machine_laws.specs.Facts.{Open, Slotted, Nothing}
use Rattle.machine_laws.specs.FactLaws.{open_test}
use Rattle.machine_laws.specs.TestLaws.{is_true}
use Rattle.machine_laws.specs.StoreLaws.{header-fits}
use Rattle.machine_laws.specs.DeliveryLaws.{Sent, resolve_sent, fail_sent}
use Rattle.machine_theorems.specs.Soundness.Stores.{SoundDuring}
use Rattle.machine_theorems.specs.Soundness.Deliver.{Detached, task_slot, delivery_ends, Sends, DeliveringError, error-sends}
use Rattle.machine_theorems.specs.Soundness.Fill.{all_filled, DeliveringValue, value-sends}
use Rattle.machine_theorems.specs.Soundness.Results.{resolve_delivering, fail_delivering, MayApply, AllApply, host_fits, result_keeps}
use Rattle.machine_theorems.specs.Panics.NoPanicLaws.{slot_registered, PendingOf, found-pending}
use Rattle.machine_theorems.specs.Panics.Panic.{Panics}
use Rattle.machine_theorems.specs.Panics.PanickingDelivery.{ready_or_panic, to_task_or_panic, fill_one_or_panic, fill_or_panic, left_or_panic, awaited_or_panic, child_or_panic, gather_or_panic}
use Rattle.machine_theorems.specs.Panics.PanickingDelivery.{value_or_panic, climb_value_or_panic, success_or_panic, error_or_panic, climb_error_or_panic, failure_or_panic}
use Rattle.machine_theorems.specs.Panics.PanickingDelivery.{resolve_or_panic, fail_or_panic, pending_or_panic, found_or_panic, resolve_future_or_panic, fail_future_or_panic, result_or_panic, results_or_panic}

module _ (panic : Panics) where
  -- ---- to a task

  -- a task is made ready only where it was just found blocked, in any store
  to-task-same : (s : Store) (t : ℕ) (x : TaskState) → to_task_or_panic panic s t x ≡ deliver_to_task s t x
  unfolding to_task_or_panic deliver_to_task
  to-task-same s t x = by (is_blocked (task s t).state) refl
    where
      d : Delivery
      d = record { store = add_log (make_ready s t x) (reached t); woken = some t }

      by : (b : Bool) → is_blocked (task s t).state ≡ b → pick b (ready_or_panic panic s t x) (nobody_woken s) ≡ pick b d (nobody_woken s)
      by true e = unfold ready_or_panic in (rw e)
      by false e = refl

  -- ---- into a gather

  -- places of a gather
  fill-one-same : (ps : List ℕ) (m p i n source : ℕ) (v : Value) → i < n → fill_one_or_panic panic ps m p i n source v ≡ fill_one ps m p i source v
  unfolding fill_one_or_panic fill_one
  fill-one-same ps m p i n source v l = rw (lt-ltb i n l)

  fill-same : (k : ℕ) (ps : List ℕ) (m first n source : ℕ) (v : Value) (i : ℕ) → i + k ≤ n → fill_or_panic panic ps m first n source v i k ≡ fill_from ps m first source v i k
  unfolding fill_or_panic fill_from
  fill-same zero ps m first n source v i l = refl
  fill-same (suc k) ps m first n source v i l =
      ap (λ (f : Filled). fill_or_panic panic f.places f.open_places first n source v (i + 1) k) (fill-one-same ps m (first + i) i n source v (omega arith))
      ∙ fill-same k _ _ first n source v (i + 1) (omega arith)

  -- a value of an awaited gather's child that is registered with it
  module _ {r : ℕ → Bool} {D : ℕ → Type 0} {hd : Header} (s : Store) (g x : ℕ) (v : Value) (w : AwaitedGather) (h : SoundDuring Nothing r D hd s)
      (l : g < (header s).made) (e : as_awaited (object s g) ≡ some w) (k : T (value_known (header s).made (object s) v)) (op : Open (place s) w x) where
    abbrev f : Filled
    f = fill_from s.places w.open_places w.first x v 0 w.count

    left-same : (b : Bool) → eqb f.open_places 0 ≡ b
        → left_or_panic panic b (put_places s f.places) g w f.open_places ≡ resolve_left b (put_places s f.places) g w f.open_places
    unfolding left_or_panic resolve_left
    left-same true q = rw full
      where
        rest : T (rest_filled (place (put_places s f.places)) w.first w.count f.open_places)
        rest = unfold place put_places in (all_filled s g x v w h l e k).rest

        full : rest_filled (place (put_places s f.places)) w.first w.count 0 ≡ true
        full = is_true _ (subst (λ (m : ℕ). T (rest_filled (place (put_places s f.places)) w.first w.count m)) (eqb-true f.open_places 0 q) rest)
    left-same false q = refl

    awaited_same : awaited_or_panic panic s g x v w ≡ resolve_awaited s g x v (some w)
    unfolding awaited_or_panic resolve_awaited
    awaited_same =
        let found : open_from (place s) w x 0 w.count ≡ true = is_true _ (open_test (place s) w x w.count 0 op (omega arith) (omega (arith, op.under))) in
        rw (found, fill-same w.count s.places w.open_places w.first w.count x v 0 (omega arith)) (left-same (eqb f.open_places 0) refl)

  -- the value goes into the gather of its slot
  child-same : (r : ℕ → Bool) (D : ℕ → Type 0) (hd : Header) (s : Store) (o g x : ℕ) (v : Value) → DeliveringValue r D hd o v s (Awaiter.GatherSlot (heap_id g) (heap_id x))
      → child_or_panic panic s g x v (object s g) ≡ resolve_child s g x v
  unfolding resolve_child view
  child-same r D hd s o g x v i = by (object s g) refl
    where
      h : SoundDuring Nothing r D hd s
      h = delivery_ends s (λ u z. task_slot (sym z)) i.during

      sl : Slotted (header s).made (object s) (place s) o g x
      sl = i.detached.slot g x refl

      never : (y : Object) → object s g ≡ y → (T (is_committed (kind y)) → ⊥) → child_or_panic panic s g x v y ≡ resolve_awaited s g x v (as_awaited y)
      never y e n = absurd (n (subst (λ (z : Object). T (is_committed (kind z))) e sl.committed))

      waits : (w : AwaitedGather) → as_awaited (object s g) ≡ some w → awaited_or_panic panic s g x v w ≡ resolve_awaited s g x v (some w)
      waits w e = awaited_same s g x v w h sl.made e i.known (slot_registered sl w e)

      by : (y : Object) → object s g ≡ y → child_or_panic panic s g x v y ≡ resolve_awaited s g x v (as_awaited y)
      by Object.Unmade e = never Object.Unmade e (unfold kind in (λ z. z))
      by (Object.Coroutine f CoroutineState.New) e = never _ e (unfold kind in (λ z. z))
      by (Object.Coroutine f CoroutineState.Running) e = never _ e (unfold kind in (λ z. z))
      by (Object.Coroutine f CoroutineState.Completed) e = never _ e (unfold kind in (λ z. z))
      by (Object.ExternalFuture c (ExternalFutureState.Pending a y)) e = never _ e (unfold kind in (λ z. z))
      by (Object.ExternalFuture c (ExternalFutureState.Resolved y)) e = never _ e (unfold kind in (λ z. z))
      by (Object.ExternalFuture c (ExternalFutureState.Failed y)) e = never _ e (unfold kind in (λ z. z))
      by (Object.GatherFuture f n GatherState.Pending) e = never _ e (unfold kind in (λ z. z))
      by (Object.GatherFuture f n (GatherState.Awaited a m)) e = unfold child_or_panic as_awaited in (waits _ (ap as_awaited e ∙ (unfold as_awaited in refl)))
      by (Object.GatherFuture f n GatherState.Completed) e = unfold child_or_panic resolve_awaited as_awaited in refl
      by (Object.GatherFuture f n (GatherState.Failed y)) e = unfold child_or_panic resolve_awaited as_awaited in refl

  -- an error fails it
  gather-same : (r : ℕ → Bool) (D : ℕ → Type 0) (hd : Header) (s : Store) (o g x : ℕ) (e : Error) → DeliveringError r D hd o s (Awaiter.GatherSlot (heap_id g) (heap_id x))
      → gather_or_panic panic s g e (object s g) ≡ fail_gather s g e
  unfolding fail_gather view
  gather-same r D hd s o g x v i = by (object s g) refl
    where
      never : (y : Object) → object s g ≡ y → (T (is_committed (kind y)) → ⊥) → gather_or_panic panic s g v y ≡ fail_awaited s g v (as_awaited y)
      never y e n = absurd (n (subst (λ (z : Object). T (is_committed (kind z))) e (i.detached.slot g x refl).committed))

      by : (y : Object) → object s g ≡ y → gather_or_panic panic s g v y ≡ fail_awaited s g v (as_awaited y)
      by Object.Unmade e = never Object.Unmade e (unfold kind in (λ z. z))
      by (Object.Coroutine f CoroutineState.New) e = never _ e (unfold kind in (λ z. z))
      by (Object.Coroutine f CoroutineState.Running) e = never _ e (unfold kind in (λ z. z))
      by (Object.Coroutine f CoroutineState.Completed) e = never _ e (unfold kind in (λ z. z))
      by (Object.ExternalFuture c (ExternalFutureState.Pending a y)) e = never _ e (unfold kind in (λ z. z))
      by (Object.ExternalFuture c (ExternalFutureState.Resolved y)) e = never _ e (unfold kind in (λ z. z))
      by (Object.ExternalFuture c (ExternalFutureState.Failed y)) e = never _ e (unfold kind in (λ z. z))
      by (Object.GatherFuture f n GatherState.Pending) e = unfold gather_or_panic fail_awaited as_awaited in refl
      by (Object.GatherFuture f n (GatherState.Awaited a m)) e = unfold gather_or_panic fail_awaited as_awaited in refl
      by (Object.GatherFuture f n GatherState.Completed) e = unfold gather_or_panic fail_awaited as_awaited in refl
      by (Object.GatherFuture f n (GatherState.Failed y)) e = unfold gather_or_panic fail_awaited as_awaited in refl

  -- ---- up the gathers

  module _ (r : ℕ → Bool) (D : ℕ → Type 0) (hd : Header) where
    -- the gather of a slot that something is on its way to
    slot-low : (s : Store) (o g x : ℕ) → Detached (view s) o (Awaiter.GatherSlot (heap_id g) (heap_id x)) → g < object_limit
    unfolding view
    slot-low s o g x f = omega (arith, (f.slot g x refl).made, (header-fits s).made_fits)

    -- where two ways to go on do the same with what is sent on, so do two climbs
    climb-same : (R : Store → Awaiter → Type 0) (o g : ℕ) (go other : Store → Awaiter → Delivery) (y : Settled) → Sends r D hd R o g y
        → ((a : Awaiter) → y.onward ≡ some a → R y.store a → go y.store a ≡ other y.store a)
        → climb go y.store y.onward ≡ climb other y.store y.onward
    climb-same R o g go other y k same = by y.onward refl
      where
        by : (b : Option Awaiter) → y.onward ≡ b → climb go y.store b ≡ climb other y.store b
        by none e = unfold climb in refl
        by (some a) e = unfold climb in (same a e (k.delivers_on a e))

    -- two ways to go on do the same with one awaited gather less than m
    value_same : (m : ℕ) (go other : Store → Awaiter → Value → Delivery)
        → ((s : Store) (o : ℕ) (a : Awaiter) (v : Value) → m ≡ suc (awaited_count s) → DeliveringValue r D hd o v s a → go s a v ≡ other s a v)
        → (s : Store) (o : ℕ) (a : Awaiter) (v : Value) → m ≡ awaited_count s → DeliveringValue r D hd o v s a → value_or_panic panic go s a v ≡ send_value other s a v
    unfolding value_or_panic send_value
    value_same m go other same s o Awaiter.Nobody v q i = refl
    value_same m go other same s o (Awaiter.Task t) v q i = to-task-same s t.0 (TaskState.Woken v)
    value_same m go other same s o (Awaiter.GatherSlot g x) v q i =
        let sent : Sent s (resolve_child s g.0 x.0 v) = resolve_sent s g.0 x.0 v i.during.kept.memory.sized (slot-low s o g.0 x.0 i.detached) in
        ap (λ (y : Settled). climb (λ z a. go z a (Value.List g)) y.store y.onward) (child-same r D hd s o g.0 x.0 v i)
        ∙ climb-same (DeliveringValue r D hd g.0 (Value.List g)) o g.0 (λ z a. go z a (Value.List g)) (λ z a. other z a (Value.List g)) (resolve_child s g.0 x.0 v)
        (value-sends r D hd s o g.0 x.0 v i) (λ a p k. same _ g.0 a (Value.List g) (q ∙ sent.falls a p) k)

    climb_value-same : (n : ℕ) (s : Store) (o : ℕ) (a : Awaiter) (v : Value) → n ≡ suc (awaited_count s) → DeliveringValue r D hd o v s a
        → climb_value_or_panic panic n s a v ≡ climb_value n s a v
    unfolding climb_value_or_panic climb_value
    climb_value-same zero s o a v q i = absurd (not-suc-le-zero {n = 0} (omega arith))
    climb_value-same (suc n) s o a v q i =
        value_same n (λ x b w. climb_value_or_panic panic n x b w) (λ x b w. climb_value n x b w) (λ x p b w c j. climb_value-same n x p b w c j) s o a v (omega arith) i

    -- A value of object o reaches its awaiter without a panic.
    pub success_safe : (s : Store) (o : ℕ) (a : Awaiter) (v : Value) → DeliveringValue r D hd o v s a → success_or_panic panic s a v ≡ deliver_awaiter_success s a v
    unfolding success_or_panic deliver_awaiter_success
    success_safe s o a v i =
        value_same (awaited_count s) (λ x b w. climb_value_or_panic panic (awaited_count s) x b w) (λ x b w. climb_value (awaited_count s) x b w)
        (λ x p b w c j. climb_value-same (awaited_count s) x p b w c j) s o a v refl i

    module _ (e : Error) (k : ErrorFits e) where
      error_same : (m : ℕ) (go other : Store → Awaiter → Error → Delivery)
          → ((s : Store) (o : ℕ) (a : Awaiter) → m ≡ suc (awaited_count s) → DeliveringError r D hd o s a → go s a e ≡ other s a e)
          → (s : Store) (o : ℕ) (a : Awaiter) → m ≡ awaited_count s → DeliveringError r D hd o s a → error_or_panic panic go s a e ≡ send_error other s a e
      unfolding error_or_panic send_error
      error_same m go other same s o Awaiter.Nobody q i = refl
      error_same m go other same s o (Awaiter.Task t) q i = to-task-same s t.0 (TaskState.Raised e)
      error_same m go other same s o (Awaiter.GatherSlot g x) q i =
          let sent : Sent s (fail_gather s g.0 e) = fail_sent s g.0 e i.during.kept.memory.sized (slot-low s o g.0 x.0 i.detached) in
          ap (λ (y : Settled). climb (λ z a. go z a e) y.store y.onward) (gather-same r D hd s o g.0 x.0 e i)
          ∙ climb-same (DeliveringError r D hd g.0) o g.0 (λ z a. go z a e) (λ z a. other z a e) (fail_gather s g.0 e)
          (error-sends r D hd e k s o g.0 x.0 i) (λ a p j. same _ g.0 a (q ∙ sent.falls a p) j)

      climb_error-same : (n : ℕ) (s : Store) (o : ℕ) (a : Awaiter) → n ≡ suc (awaited_count s) → DeliveringError r D hd o s a
          → climb_error_or_panic panic n s a e ≡ climb_error n s a e
      unfolding climb_error_or_panic climb_error
      climb_error-same zero s o a q i = absurd (not-suc-le-zero {n = 0} (omega arith))
      climb_error-same (suc n) s o a q i =
          error_same n (λ x b f. climb_error_or_panic panic n x b f) (λ x b f. climb_error n x b f) (λ x p b c j. climb_error-same n x p b c j) s o a (omega arith) i

      -- And so does an error.
      pub failure_safe : (s : Store) (o : ℕ) (a : Awaiter) → DeliveringError r D hd o s a → failure_or_panic panic s a e ≡ deliver_awaiter_failure s a e
      unfolding failure_or_panic deliver_awaiter_failure
      failure_safe s o a i =
          error_same (awaited_count s) (λ x b f. climb_error_or_panic panic (awaited_count s) x b f) (λ x b f. climb_error (awaited_count s) x b f)
          (λ x p b c j. climb_error-same (awaited_count s) x p b c j) s o a refl i

  -- ---- from an external

  module _ {r : ℕ → Bool} {D : ℕ → Type 0} {hd : Header} (s : Store) (h : SoundDuring Nothing r D hd s) where
    -- what is found for a call is a pending external, in any store
    found-same : (call : ℕ) (go other : ℕ → PendingExternal → Store)
        → ((o : ℕ) (p : PendingExternal) → o < (header s).made → as_pending (object s o) ≡ some p → go o p ≡ other o p)
        → found_or_panic panic s (pending_external s call) go ≡ settle_found s (pending_external s call) other
    found-same call go other same = by (pending_external s call) refl
      where
        by : (c : Option ℕ) → pending_external s call ≡ c → found_or_panic panic s c go ≡ settle_found s c other
        by none e = unfold found_or_panic settle_found in refl
        by (some o) e =
            let i : PendingOf s call o = found-pending s call o e in
            unfold found_or_panic settle_found pending_or_panic settle_pending in (rw i.is (same o i.external i.made i.is))

    resolve-future-safe : (call : ℕ) (v : Value) → T (value_known (header s).made (object s) v) → resolve_future_or_panic panic s call v ≡ resolve_future s call v
    unfolding resolve_future_or_panic resolve_future resolve_or_panic resolve_pending
    resolve-future-safe call v k =
        found-same call _ _ (λ o p l e. ap (λ (d : Delivery). d.store) (success_safe r D hd _ o p.awaiter (value_or p.stored v) (resolve_delivering s h v k o p l e)))

    fail-future-safe : (call : ℕ) (x : Error) → ErrorFits x → fail_future_or_panic panic s call x ≡ fail_future s call x
    unfolding fail_future_or_panic fail_future fail_or_panic fail_pending
    fail-future-safe call x k = found-same call _ _ (λ o p l e. ap (λ (d : Delivery). d.store) (failure_safe r D hd x k _ o p.awaiter (fail_delivering s h x k o p l e)))

    result-safe : (x : Result) → MayApply hd.made D x → result_or_panic panic s x ≡ apply_result s x
    unfolding result_or_panic apply_result
    result-safe x m = by (eqb x.kind 0) refl (eqb x.kind 1) (eqb x.kind 2) (eqb x.kind 3)
      where
        with : (Store → ℕ → Value → Store) → (Store → ℕ → Error → Store) → Bool → Bool → Bool → Bool → Store
        with f g a b c d =
            pick a (f s x.call (to_value x.tag x.number))
            (pick b (g s x.call (to_error 0 x.number)) (pick c s (pick d (g s x.call Error.NotFound) (g s x.call Error.ModuleFile))))

        by : (a : Bool) → eqb x.kind 0 ≡ a → (b c d : Bool)
            → with (resolve_future_or_panic panic) (fail_future_or_panic panic) a b c d ≡ with resolve_future fail_future a b c d
        by true e b c d =
            resolve-future-safe x.call (to_value x.tag x.number)
            (subst (λ (y : Header). T (value_known y.made (object s) (to_value x.tag x.number))) (sym h.head) (m (eqb-true x.kind 0 e) (object s) h.done))
        by false e true c d = fail-future-safe x.call (to_error 0 x.number) (host_fits x.number)
        by false e false true d = refl
        by false e false false true = fail-future-safe x.call Error.NotFound tt
        by false e false false false = fail-future-safe x.call Error.ModuleFile tt

  -- The event `results` reaches no panic.
  pub results_safe : {r : ℕ → Bool} {D : ℕ → Type 0} {hd : Header} (xs : List Result) (s : Store) → AllApply hd.made D xs → SoundDuring Nothing r D hd s
      → results_or_panic panic s xs ≡ apply_future_results s xs
  unfolding results_or_panic apply_future_results AllApply
  results_safe [] s a h = refl
  results_safe (x ∷ xs) s a h = ap (λ (y : Store). results_or_panic panic y xs) (result-safe s h x a.0) ∙ results_safe xs (apply_result s x) a.1 (result_keeps s x a.0 h)
