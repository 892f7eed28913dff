-- `Given` through what events write themselves: an object is made, a call number is handed out, results settle externals, a task completes or fails.
use Rattle.std.specs.Prelude.{◌≡◌, eqb}
use Rattle.std.proofs.Math.Path.{refl}
use Rattle.std.proofs.Common.{sym, ap, subst, ◌∙◌, arith}
use mathlib.Core.List.{List, [], ◌∷◌}
use Rattle.std.proofs.Math.Option.{Option, none, some}
use Prim.Native.Nat.{ℕ, ◌+◌, ◌%◌, ◌≤◌, ◌<◌}
use Rattle.std.proofs.Math.ListN.{length}
use Rattle.asyncio.specs.declared.CallId.{CallId}
use Rattle.asyncio.specs.declared.Value.{Value}
use Rattle.asyncio.specs.declared.Error.{Error}
use Rattle.asyncio.specs.Options.{OptionValue}
use Rattle.std.specs.Prelude.{None, Some}
use Rattle.asyncio.specs.declared.Awaiter.{Awaiter}
use Rattle.asyncio.specs.declared.CoroutineState.{CoroutineState}
use Rattle.asyncio.specs.declared.ExternalFutureState.{ExternalFutureState}
use Rattle.asyncio.specs.declared.GatherState.{GatherState}
use Rattle.asyncio.specs.declared.Object.{Object}
use Rattle.asyncio.specs.declared.Header.{Header}
use Rattle.asyncio.specs.Limits.{object_limit, task_limit, place_limit, call_limit}
use Rattle.asyncio.specs.Numbers.{heap_id, call_id}
use Rattle.asyncio.specs.Ranges.{AwaiterFits, ValueFits, OptionFits, ErrorFits, ObjectFits, HeaderFits}
use Rattle.asyncio.specs.RangeLaws.{pick_has}
use Rattle.asyncio.specs.Layout.{to_value}
use Rattle.machine.specs.Store.{Store, task, object, header, put_header, put_place, set_calls, add_object, exited}
use Rattle.machine.specs.Scheduler.{PendingExternal, as_pending, pending_external}
use Rattle.machine.specs.Delivery.{value_or, resolve_pending, fail_pending, settle_pending, settle_found, resolve_future, fail_future}
use Rattle.machine.specs.Events.{Result, apply_result, apply_future_results, completed, handle_task_completion, make_coroutine, make_pending, make_settled, put_items, make_gather}
use Rattle.machine_laws.specs.StoreLaws.{task-fits, object-fits, header-fits, header_put-header, object_put-header}
use Rattle.machine_laws.specs.DeliveryLaws.{pending-object}
use Rattle.machine_theorems.specs.Soundness.Results.{host_fits}
use Rattle.machine_theorems.specs.Soundness.RowFacts.{items-header}
use Rattle.machine_sessions.specs.Waits.CallEvents.{found-call}
use Rattle.machine_sessions.specs.Honest.Given.{loose, ret, err, holder, fate, FateFits, Unheld, not-held, Given, NoneBut, NoneYet}
use Rattle.machine_sessions.specs.Honest.Given.{loose_unwaited, unwaited_given, same-given, place-given, header-given, gone-given}
use Rattle.machine_sessions.specs.Honest.GivenCycle.{Left, settles_given, success_given, failure_given, completion_left}
use Rattle.machine_sessions.specs.Honest.GivenCommit.{row_reads}

-- ---- rows

done-fate : (o : ℕ) (x : Object) → fate o (completed x) ≡ fate o x
unfolding completed fate
done-fate o Object.Unmade = refl
done-fate o (Object.Coroutine f x) = refl
done-fate o (Object.ExternalFuture c x) = refl
done-fate o (Object.GatherFuture f n x) = refl

done_reads : (x : Object) → FateFits x → FateFits (completed x)
unfolding completed
done_reads Object.Unmade f = f
done_reads (Object.Coroutine g x) f = tt
done_reads (Object.ExternalFuture c x) f = f
done_reads (Object.GatherFuture g n x) f = f

pending-fate : (o : ℕ) (x : Object) (p : PendingExternal) → as_pending x ≡ some p → fate o x ≡ holder p.awaiter
unfolding fate
pending-fate o x p e = ap (fate o) (pending-object x p e)

to_value-fits : (tag n : ℕ) → ValueFits (to_value tag n)
to_value-fits tag n = pick_has ValueFits (eqb tag 0) tt (low n)
  where
    low : (n : ℕ) → n % object_limit < object_limit
    low n = omega arith

or_fits : (x : OptionValue) (v : Value) → OptionFits x → ValueFits v → ValueFits (value_or x v)
unfolding value_or
or_fits None v f g = g
or_fits (Some y) v f g = f

module _ (W : ℕ → Option ℕ) where
  abbrev K : Store → Type 0
  K u = Given W NoneBut NoneYet u

  -- ---- making

  pub add-given : (s : Store) (x : Object) (n : ℕ) → (header s).made < object_limit → (header s).used + n ≤ place_limit → FateFits x → Unheld (fate (header s).made x) → fate (header s).made (object s (header s).made) ≡ loose → K s → K (add_object s x n)
  unfolding add_object
  add-given s x n l room f y e k =
      unwaited_given W (put_header s i) (header s).made x l f (loose_unwaited W (put_header s i) (header s).made (ap (fate (header s).made) (object_put-header s i (header s).made) ∙ e) k1) (λ t q. not-held t (fate (header s).made x) y q) k1
    where
      i : Header
      i = record { made = (header s).made + 1; used = (header s).used + n; calls = (header s).calls; next = (header s).next; moment = (header s).moment }

      k1 : K (put_header s i)
      k1 =
          let g : HeaderFits (header s) = header-fits s in
          header-given W s i (record { made_fits = omega (arith, l); used_fits = room; calls_fit = g.calls_fit; next_fits = g.next_fits; moment_fits = g.moment_fits }) refl k

  module _ (s : Store) (k : K s) where
    no-places : (header s).used + 0 ≤ place_limit
    no-places = omega (arith, (header-fits s).used_fits)

    pub calls_given : (header s).calls < call_limit → K (set_calls s ((header s).calls + 1))
    unfolding set_calls
    calls_given l =
        let g : HeaderFits (header s) = header-fits s in
        header-given W s _ (record { made_fits = g.made_fits; used_fits = g.used_fits; calls_fit = omega (arith, l); next_fits = g.next_fits; moment_fits = g.moment_fits }) refl k

    module _ (l : (header s).made < object_limit) (e : fate (header s).made (object s (header s).made) ≡ loose) where
      pub coroutine-given : (f : ℕ) → K (make_coroutine s f)
      unfolding make_coroutine
      coroutine-given f = add-given s (Object.Coroutine f CoroutineState.New) 0 l no-places tt (unfold fate in tt) e k

      pub pending-given : (c : ℕ) (r : OptionValue) → K (make_pending s c r)
      unfolding make_pending
      pending-given c r = add-given s (Object.ExternalFuture (call_id c) (ExternalFutureState.Pending Awaiter.Nobody r)) 0 l no-places tt (unfold fate holder in tt) e k

      pub settled-given : (v : Value) → (header s).calls < call_limit → ValueFits v → K (make_settled s v)
      unfolding make_settled
      settled-given v c f =
          add-given u (Object.ExternalFuture (call_id (header s).calls) (ExternalFutureState.Resolved v)) 0 (subst (λ (h : Header). h.made < object_limit) (sym head) l) (subst (λ (h : Header). h.used + 0 ≤ place_limit) (sym head) no-places) f (unfold fate in tt)
          (subst (λ (m : ℕ). fate m (object u m) ≡ loose) (sym (ap (λ (h : Header). h.made) head)) (ap (fate (header s).made) (rows (header s).made) ∙ e)) (calls_given c)
        where
          u : Store
          u = set_calls s ((header s).calls + 1)

          i : Header
          i = record { made = (header s).made; used = (header s).used; calls = (header s).calls + 1; next = (header s).next; moment = (header s).moment }

          head : header u ≡ i
          head =
              let g : HeaderFits (header s) = header-fits s in
              unfold set_calls in (header_put-header s i k.sized (record { made_fits = g.made_fits; used_fits = g.used_fits; calls_fit = omega (arith, c); next_fits = g.next_fits; moment_fits = g.moment_fits }))

          rows : (o : ℕ) → object u o ≡ object s o
          rows o = unfold set_calls in (object_put-header s i o)

  items-given : (os : List ℕ) (s : Store) (p : ℕ) → K s → K (put_items s p os)
  unfolding put_items
  items-given [] s p k = k
  items-given (o ∷ os) s p k = items-given os _ (p + 1) (place-given W s p _ k)

  items-rows : (os : List ℕ) (s : Store) (p q : ℕ) → object (put_items s p os) q ≡ object s q
  unfolding put_items object put_place
  items-rows [] s p q = refl
  items-rows (o ∷ os) s p q = items-rows os (put_place s p (record { item = heap_id o; result = None })) (p + 1) q

  pub gather-given : (s : Store) (os : List ℕ) → (header s).made < object_limit → (header s).used + length os ≤ place_limit → fate (header s).made (object s (header s).made) ≡ loose → K s → K (make_gather s os)
  unfolding make_gather
  gather-given s os l room e k =
      let u : Store = put_items s (header s).used os in
      let head : header u ≡ header s = items-header os s (header s).used in
      add-given u (Object.GatherFuture (header s).used (length os) GatherState.Pending) (length os) (subst (λ (h : Header). h.made < object_limit) (sym head) l) (subst (λ (h : Header). h.used + length os ≤ place_limit) (sym head) room) tt (unfold fate in tt)
      (subst (λ (m : ℕ). fate m (object u m) ≡ loose) (sym (ap (λ (h : Header). h.made) head)) (ap (fate (header s).made) (items-rows os s (header s).used (header s).made) ∙ e)) (items-given os s (header s).used k)

  -- ---- results

  found-given : (s : Store) (c : ℕ) (f : ℕ → PendingExternal → Store) → ((o : ℕ) (p : PendingExternal) → o < object_limit → as_pending (object s o) ≡ some p → K (f o p)) → K s → K (settle_found s (pending_external s c) f)
  unfolding settle_found
  found-given s c f h k = by (pending_external s c) refl
    where
      row : (o : ℕ) → o < object_limit → (p : Option PendingExternal) → as_pending (object s o) ≡ p → K (settle_pending s p (f o))
      row o l none e = unfold settle_pending in k
      row o l (some p) e = unfold settle_pending in (h o p l e)

      by : (o : Option ℕ) → pending_external s c ≡ o → K (settle_found s o f)
      by none e = unfold settle_found in k
      by (some o) e = unfold settle_found in (row o (omega (arith, (found-call s c o e).0, (header-fits s).made_fits)) (as_pending (object s o)) refl)

  row_fits : (s : Store) (o : ℕ) (p : PendingExternal) → as_pending (object s o) ≡ some p → AwaiterFits p.awaiter × OptionFits p.stored
  row_fits s o p e = (subst ObjectFits (pending-object (object s o) p e) (object-fits s o)).1

  resolve-given : (s : Store) (c : ℕ) (v : Value) → ValueFits v → K s → K (resolve_future s c v)
  unfolding resolve_future resolve_pending
  resolve-given s c v f k =
      found-given s c _ (λ o p l e.
      let x : Value = value_or p.stored v in
      let xf : ValueFits x = or_fits p.stored v (row_fits s o p e).1 f in
      let y = settles_given W s o (Object.ExternalFuture p.call (ExternalFutureState.Resolved x)) p.awaiter (ret x) l xf (resolved-fate o p.call x) tt (pending-fate o (object s o) p e) k in
      success_given W _ p.awaiter x (row_fits s o p e).0 xf y.0 y.1) k
    where
      resolved-fate : (o : ℕ) (c : CallId) (x : Value) → fate o (Object.ExternalFuture c (ExternalFutureState.Resolved x)) ≡ ret x
      resolved-fate o c x = unfold fate in refl

  fail-given : (s : Store) (c : ℕ) (x : Error) → ErrorFits x → K s → K (fail_future s c x)
  unfolding fail_future fail_pending
  fail-given s c x f k =
      found-given s c _ (λ o p l e.
      let y = settles_given W s o (Object.ExternalFuture p.call (ExternalFutureState.Failed x)) p.awaiter (err x) l f (failed-fate o p.call) tt (pending-fate o (object s o) p e) k in
      failure_given W _ p.awaiter x (row_fits s o p e).0 f y.0 y.1) k
    where
      failed-fate : (o : ℕ) (c : CallId) → fate o (Object.ExternalFuture c (ExternalFutureState.Failed x)) ≡ err x
      failed-fate o c = unfold fate in refl

  result-given : (s : Store) (r : Result) → K s → K (apply_result s r)
  unfolding apply_result
  result-given s r k =
      pick_has K (eqb r.kind 0) (resolve-given s r.call _ (to_value-fits r.tag r.number) k) (pick_has K (eqb r.kind 1) (fail-given s r.call _ (host_fits r.number) k)
      (pick_has K (eqb r.kind 2) k (pick_has K (eqb r.kind 3) (fail-given s r.call Error.NotFound tt k) (fail-given s r.call Error.ModuleFile tt k))))

  -- a batch of results
  pub results-given : (rs : List Result) (s : Store) → K s → K (apply_future_results s rs)
  unfolding apply_future_results
  results-given [] s k = k
  results-given (r ∷ rs) s k = results-given rs (apply_result s r) (result-given s r k)

  -- ---- a task completes

  pub complete-left : (s : Store) (t : ℕ) (v : Value) → t < task_limit → ValueFits v → K s → Left W (handle_task_completion s t v)
  unfolding handle_task_completion
  complete-left s t v l f k =
      let c : ℕ = (task s t).coroutine.0 in
      completion_left W _ (task s t).awaiter v (task-fits s t).awaiter_fits f (k.slots t l)
      (gone-given W _ t (exited t) (same-given W s c (completed (object s c)) (task-fits s t).coroutine_fits (done_reads (object s c) (row_reads (object s c) (object-fits s c))) (done-fate c (object s c)) k))
