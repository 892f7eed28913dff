-- Which calls are pending after each event.
use Rattle.std.specs.Prelude.{◌≡◌, Bool, ◌&&◌, ◌||◌, T, leb}
use Rattle.std.proofs.Math.Path.{refl, sym, ap, ap₂, subst}
use Rattle.std.proofs.Common.{◌∙◌, true≢false, mod-eq_of_lt}
use Rattle.std.proofs.Math.Bool.{true, false, not}
use mathlib.Core.List.{List, [], ◌∷◌}
use Rattle.std.proofs.Math.Option.{Option, none, some, some-injective}
use Prim.Native.Nat.{ℕ, zero, suc, ◌+◌, ◌%◌, ◌≤◌, ◌<◌}
use Rattle.std.proofs.Math.Nat.{not-suc-le-zero}
use native.Mathlib.Omega.{arith}
use Rattle.std.proofs.Math.Decide.{ℕ_discrete}
use Rattle.std.proofs.Math.Dec.{eqb, ltb}
use Rattle.std.proofs.Math.ListN.{length}
use borrow.Author.Tests.{leb-false, ltb-false, eqb-true, eqb-false, eq-eqb, ne_eqb}
use Rattle.asyncio.specs.declared.CallId.{CallId}
use Rattle.asyncio.specs.declared.Value.{Value}
use Rattle.asyncio.specs.declared.Error.{Error}
use Rattle.asyncio.specs.Options.{OptionValue}
use Rattle.std.specs.Prelude.{None}
use Rattle.asyncio.specs.declared.Awaiter.{Awaiter}
use Rattle.asyncio.specs.declared.TaskState.{TaskState}
use Rattle.asyncio.specs.declared.Task.{Task}
use Rattle.asyncio.specs.declared.CoroutineState.{CoroutineState}
use Rattle.asyncio.specs.declared.ExternalFutureState.{ExternalFutureState}
use Rattle.asyncio.specs.declared.GatherState.{GatherState}
use Rattle.asyncio.specs.declared.Object.{Object}
use Rattle.asyncio.specs.declared.Header.{Header}
use Rattle.asyncio.specs.Limits.{object_limit, item_limit, place_limit, call_limit, task_limit}
use Rattle.asyncio.specs.Numbers.{heap_id, call_id}
use Rattle.asyncio.specs.Ranges.{ObjectFits, HeaderFits, AwaiterFits}
use Rattle.asyncio.specs.RangeLaws.{object_back, pick_has}
use Rattle.asyncio.specs.Layout.{object_words, to_object, to_value, to_error}
use Rattle.asyncio.specs.States.{pick, is_live}
use Rattle.asyncio.specs.Kinds.{kind, is_pending_external}
use Rattle.asyncio.specs.Parts.{call_of}
use Rattle.rows.specs.Tables.{object_at, header_at}
use Rattle.machine.specs.Store.{Store, view, task, object, header, put_task, put_header, put_object, put_place, put_queue, set_calls, set_state, add_object, add_log, blocked, exited}
use Rattle.machine.specs.Scheduler.{PendingExternal, as_pending, first_from, is_call, pending_external, pending_external_in, pending_call_ids, remove_task, remove_from_ready_queue}
use Rattle.machine.specs.Delivery.{value_or, resolve_pending, fail_pending, settle_pending, settle_found, resolve_future, fail_future, deliver_awaiter_success, deliver_awaiter_failure}
use Rattle.machine.specs.Events.{Control, exec_get_awaitable, Result, Switched, activate, resume_next, completed, handle_task_completion, handle_task_failure, apply_result, apply_future_results, make_coroutine, make_pending, make_settled, put_items, make_gather, wake_in_order}
use Rattle.machine.specs.Machine.{Event, Step, switched, answer_await, end_main, task_completes, task_fails, runner, repeat_wait, resume_with_resolved_futures, refusals, refusal, full, no_number, accept, in_both, in_running, in_waiting}
use Rattle.machine.specs.Sound.{is_ended}
use Rattle.machine.specs.History.{is_at, reply_in, Says, says, nothing_said, tells, done_only}
use Rattle.machine_laws.specs.Views.{Sized}
use Rattle.machine_laws.specs.Facts.{Nothing}
use Rattle.machine_laws.specs.StoreLaws.{object-fits, task-fits, header-fits, header_put-header, header_put-object, object_put-other, object_put-header, sized-put_object, sized-put_header, sized-put_queue, sized-put_task, sized-set_state, sized-add_log, sized-set_calls}
use Rattle.machine_laws.specs.DeliveryLaws.{absurd_some}
use Rattle.machine_laws.specs.MakingLaws.{items-sized}
use Rattle.machine_laws.specs.SoundLaws.{pass, running-rest, refusal-rest, has_number, not_full}
use Rattle.machine_laws.specs.TestLaws.{or_left, or_right}
use Rattle.machine_theorems.specs.Soundness.Stores.{SoundStore, SoundDuring, during_of}
use Rattle.machine_theorems.specs.Soundness.Preserved.{running, await-made, results_apply}
use Rattle.machine_theorems.specs.Soundness.Results.{MayApply, AllApply, result_keeps}
use Rattle.machine_laws.specs.DeliveryLaws.{pending-object, first_below}
use Rattle.machine_theorems.specs.Soundness.RowFacts.{items-header}
use Rattle.machine_laws.specs.Walk.{Commits, Closed, success_kept, failure_kept, await-kept, fail-kept, completion_kept, resume-kept, cancel-kept, cleanup-kept}
use Rattle.machine_sessions.specs.Waits.Calls.{pending_call, called, pends, called_same, Pended, pended_now, pended_pends, read_back, row_pended, tasks_pended, pended_commits, pended_closed}

-- ---- lists of calls

called_agree : (p q : ℕ → Option ℕ) (n c : ℕ) → ((o : ℕ) → o < n → is_at (p o) c ≡ is_at (q o) c) → called p n c ≡ called q n c
unfolding called
called_agree p q zero c h = refl
called_agree p q (suc n) c h = ap₂ (λ (x z : Bool). x || z) (h n (omega arith)) (called_agree p q n c (λ o l. h o (omega arith)))

pub called-none : (p : ℕ → Option ℕ) (n c : ℕ) → ((o : ℕ) → o < n → is_at (p o) c ≡ false) → called p n c ≡ false
unfolding called
called-none p zero c h = refl
called-none p (suc n) c h = rw (h n (omega arith)) (called-none p n c (λ o l. h o (omega arith)))

pub at_some : (x : Option ℕ) (c : ℕ) → is_at x c ≡ true → x ≡ some c
unfolding is_at
at_some none c e = absurd (true≢false (sym e))
at_some (some b) c e = ap (λ (n : ℕ). some n) (eqb-true b c e)

-- ---- an object is made

module _ (s : Store) (r : Object) (n : ℕ) (z : Sized s) (m : (header s).made < object_limit) (u : (header s).used + n ≤ place_limit) where
  added : Header
  added = record { made = (header s).made + 1; used = (header s).used + n; calls = (header s).calls; next = (header s).next; moment = (header s).moment }

  added_fits : HeaderFits added
  unfolding added
  added_fits = let f : HeaderFits (header s) = header-fits s in record { made_fits = omega arith; used_fits = u; calls_fit = f.calls_fit; next_fits = f.next_fits; moment_fits = f.moment_fits }

  add-made : (header (add_object s r n)).made ≡ suc (header s).made
  unfolding add_object added
  add-made = ap (λ (h : Header). h.made) (header_put-object (put_header s added) (header s).made r ∙ header_put-header s added z added_fits) ∙ omega arith

  add_row : object (add_object s r n) (header s).made ≡ to_object (object_words r)
  unfolding add_object added
  add_row = read_back (put_header s added) (header s).made r (sized-put_header s added z) m

  add-other : (o : ℕ) → (o ≡ (header s).made → ⊥) → object (add_object s r n) o ≡ object s o
  unfolding add_object added
  add-other o ne = object_put-other (put_header s added) (header s).made o r ne ∙ object_put-header s added o

  pub add-pends : (c : ℕ) → pends (add_object s r n) c ≡ (is_at (pending_call (to_object (object_words r))) c || pends s c)
  unfolding pends called
  add-pends c =
      ap (λ (k : ℕ). called (λ o. pending_call (object (add_object s r n) o)) k c) add-made
      ∙ ap₂ (λ (x : Object) (b : Bool). is_at (pending_call x) c || b) add_row
      (called_same (λ o. pending_call (object (add_object s r n) o)) (λ o. pending_call (object s o)) (header s).made c
      (λ o l. ap pending_call (add-other o (λ q. not-suc-le-zero {n = 0} (omega (arith, l))))))

-- objects and the count as they were
pub same-pends : (s u : Store) (c : ℕ) → (header u).made ≡ (header s).made → ((o : ℕ) → object u o ≡ object s o) → pends u c ≡ pends s c
unfolding pends
same-pends s u c m r = ap (λ (n : ℕ). called (λ o. pending_call (object u o)) n c) m ∙ called_same _ _ (header s).made c (λ o l. ap pending_call (r o))

-- ---- a coroutine is completed

completed_calls : (x : Object) → ObjectFits x → pending_call (to_object (object_words (completed x))) ≡ pending_call x
unfolding completed pending_call
completed_calls Object.Unmade f = refl
completed_calls (Object.Coroutine g y) f = refl
completed_calls (Object.ExternalFuture c y) f = ap pending_call (object_back (Object.ExternalFuture c y) f)
completed_calls (Object.GatherFuture i n y) f = ap pending_call (object_back (Object.GatherFuture i n y) f)

-- ---- a call is answered

-- object o has call c
pub is_call-at : (s : Store) (c o : ℕ) → is_call s.objects c o ≡ is_at (pending_call (object s o)) c
unfolding is_call object
is_call-at s c o = by (object_at s.objects o)
  where
    by : (x : Object) → pick (is_pending_external (kind x)) (eqb (call_of x).0 c) false ≡ is_at (pending_call x) c
    by Object.Unmade = unfold kind pending_call is_at in refl
    by (Object.Coroutine f CoroutineState.New) = unfold kind pending_call is_at in refl
    by (Object.Coroutine f CoroutineState.Running) = unfold kind pending_call is_at in refl
    by (Object.Coroutine f CoroutineState.Completed) = unfold kind pending_call is_at in refl
    by (Object.ExternalFuture d (ExternalFutureState.Pending a r)) = unfold kind pending_call is_at call_of in refl
    by (Object.ExternalFuture d (ExternalFutureState.Resolved v)) = unfold kind pending_call is_at in refl
    by (Object.ExternalFuture d (ExternalFutureState.Failed e)) = unfold kind pending_call is_at in refl
    by (Object.GatherFuture f n GatherState.Pending) = unfold kind pending_call is_at in refl
    by (Object.GatherFuture f n (GatherState.Awaited a m)) = unfold kind pending_call is_at in refl
    by (Object.GatherFuture f n GatherState.Completed) = unfold kind pending_call is_at in refl
    by (Object.GatherFuture f n (GatherState.Failed e)) = unfold kind pending_call is_at in refl

pub none_first : (p : ℕ → Bool) (k i : ℕ) → first_from p i k ≡ none → (j : ℕ) → i ≤ j → j < i + k → p j ≡ false
unfolding first_from
none_first p zero i e j a b = absurd (not-suc-le-zero {n = 0} (omega arith))
none_first p (suc k) i e j a b = by (p i) refl e (λ q x y. none_first p k (i + 1) q j x y) (ℕ_discrete j i)
  where
    by : (c : Bool) → p i ≡ c → pick c (some i) (first_from p (i + 1) k) ≡ none → (first_from p (i + 1) k ≡ none → i + 1 ≤ j → j < i + 1 + k → p j ≡ false) → Dec (j ≡ i) → p j ≡ false
    by true q z f d = absurd_some (sym z)
    by false q z f (yes d) = subst (λ (m : ℕ). p m ≡ false) (sym d) q
    by false q z f (no ne) = f z (omega arith) (omega arith)

pub first_holds : (p : ℕ → Bool) (k i o : ℕ) → first_from p i k ≡ some o → p o ≡ true
unfolding first_from
first_holds p zero i o e = absurd_some e
first_holds p (suc k) i o e = by (p i) refl e (λ q. first_holds p k (i + 1) o q)
  where
    by : (c : Bool) → p i ≡ c → pick c (some i) (first_from p (i + 1) k) ≡ some o → (first_from p (i + 1) k ≡ some o → p o ≡ true) → p o ≡ true
    by true q z f = subst (λ (m : ℕ). p m ≡ true) (some-injective i o z) q
    by false q z f = f z

pub pending_has : (x : Object) (p : PendingExternal) → as_pending x ≡ some p → pending_call x ≡ some p.call.0
unfolding pending_call
pending_has x p e = rw (pending-object x p e)

pub call-pending : (x : Object) (c : ℕ) → pending_call x ≡ some c → (p : PendingExternal) × (as_pending x ≡ some p) × (p.call.0 ≡ c)
unfolding pending_call as_pending
call-pending Object.Unmade c e = absurd_some e
call-pending (Object.Coroutine f x) c e = absurd_some e
call-pending (Object.ExternalFuture d (ExternalFutureState.Pending a r)) c e = (record { call = d; awaiter = a; stored = r }, refl, some-injective d.0 c e)
call-pending (Object.ExternalFuture d (ExternalFutureState.Resolved v)) c e = absurd_some e
call-pending (Object.ExternalFuture d (ExternalFutureState.Failed x)) c e = absurd_some e
call-pending (Object.GatherFuture f n x) c e = absurd_some e

-- an external that settles, and the delivery that follows it: its call is pending no more, the others are
module _ (s : Store) (z : Sized s) (o : ℕ) (x : Object) (c : ℕ) (low : o < object_limit) (has : pending_call (object s o) ≡ some c) (gone : pending_call (to_object (object_words x)) ≡ none)
    (alone : (q : ℕ) → q < (header s).made → pending_call (object s q) ≡ some c → q ≡ o) where
  settled-pends : (d : ℕ) → pends (put_object s o x) d ≡ pick (eqb c d) false (pends s d)
  unfolding pends is_at
  settled-pends d = ap (λ (n : ℕ). called (λ q. pending_call (object (put_object s o x) q)) n d) (ap (λ (h : Header). h.made) (header_put-object s o x)) ∙ by (ℕ_discrete c d)
    where
      row : (q : ℕ) → Dec (q ≡ o) → (c ≡ d → ⊥) → is_at (pending_call (object (put_object s o x) q)) d ≡ is_at (pending_call (object s q)) d
      row q (yes e) ne =
          subst (λ (m : ℕ). is_at (pending_call (object (put_object s o x) m)) d ≡ is_at (pending_call (object s m)) d) (sym e)
          (ap (λ (y : Option ℕ). is_at y d) (ap pending_call (read_back s o x z low) ∙ gone) ∙ sym (ap (λ (y : Option ℕ). is_at y d) has ∙ ne_eqb c d ne))
      row q (no e) ne = ap (λ (y : Object). is_at (pending_call y) d) (object_put-other s o q x e)

      none_left : (q : ℕ) → q < (header s).made → Dec (q ≡ o) → is_at (pending_call (object (put_object s o x) q)) c ≡ false
      none_left q l (yes e) =
          subst (λ (m : ℕ). is_at (pending_call (object (put_object s o x) m)) c ≡ false) (sym e) (ap (λ (y : Option ℕ). is_at y c) (ap pending_call (read_back s o x z low) ∙ gone))
      none_left q l (no e) = ap (λ (y : Object). is_at (pending_call y) c) (object_put-other s o q x e) ∙ other (is_at (pending_call (object s q)) c) refl
        where
          other : (b : Bool) → is_at (pending_call (object s q)) c ≡ b → b ≡ false
          other true y = absurd (e (alone q l (at_some (pending_call (object s q)) c y)))
          other false y = refl

      by : Dec (c ≡ d) → called (λ q. pending_call (object (put_object s o x) q)) (header s).made d ≡ pick (eqb c d) false (called (λ q. pending_call (object s q)) (header s).made d)
      by (yes e) =
          rw (eq-eqb c d e) (subst (λ (m : ℕ). called (λ q. pending_call (object (put_object s o x) q)) (header s).made m ≡ false) e
          (called-none _ (header s).made c (λ q l. none_left q l (ℕ_discrete q o))))
      by (no ne) = rw (ne_eqb c d ne) (called_agree _ _ (header s).made d (λ q l. row q (ℕ_discrete q o) ne))

-- a call that is not pending
not-pending : (s : Store) (c : ℕ) → pending_external s c ≡ none → pends s c ≡ false
unfolding pending_external pending_external_in pends header
not-pending s c e =
    called-none _ (header_at s.objects).made c (λ o l. sym (is_call-at s c o) ∙ none_first (is_call s.objects c) (header_at s.objects).made 0 e o (omega arith) (omega arith))

ignored : (s : Store) (c d : ℕ) → pends s c ≡ false → pends s d ≡ pick (eqb c d) false (pends s d)
ignored s c d e = by (ℕ_discrete c d)
  where
    by : Dec (c ≡ d) → pends s d ≡ pick (eqb c d) false (pends s d)
    by (yes q) = rw (eq-eqb c d q) (subst (λ (m : ℕ). pends s m ≡ false) q e)
    by (no ne) = rw (ne_eqb c d ne)

pub found-call : (s : Store) (c o : ℕ) → pending_external s c ≡ some o → (o < (header s).made) × (pending_call (object s o) ≡ some c)
unfolding pending_external pending_external_in header
found-call s c o e = (
  omega (arith, first_below (is_call s.objects c) (header_at s.objects).made 0 o e),
  at_some (pending_call (object s o)) c (sym (is_call-at s c o) ∙ first_holds (is_call s.objects c) (header_at s.objects).made 0 o e),
)

module _ {r : ℕ → Bool} {D : ℕ → Type 0} {hd : Header} (s : Store) (h : SoundDuring Nothing r D hd s) (on : is_ended (header s).moment ≡ false) where
  z : Sized s
  z = h.kept.memory.sized

  -- the pending external of a call, and what is done with it
  found-pends : (c : ℕ) (f : ℕ → PendingExternal → Store)
      → ((o : ℕ) (p : PendingExternal) → as_pending (object s o) ≡ some p → o < object_limit → p.call.0 ≡ c → ((q : ℕ) → q < (header s).made → pending_call (object s q) ≡ some c → q ≡ o)
      → (d : ℕ) → pends (f o p) d ≡ pick (eqb c d) false (pends s d)) → (d : ℕ) → pends (settle_found s (pending_external s c) f) d ≡ pick (eqb c d) false (pends s d)
  unfolding view
  found-pends c f g d = by (pending_external s c) refl
    where
      row : (o : ℕ) → o < (header s).made → pending_call (object s o) ≡ some c → (p : Option PendingExternal) → as_pending (object s o) ≡ p
          → pends (settle_pending s p (f o)) d ≡ pick (eqb c d) false (pends s d)
      row o l e none q = let y = call-pending (object s o) c e in absurd_some (sym q ∙ y.1)
      row o l e (some p) q =
          unfold settle_pending in (g o p q (omega (arith, l, (header-fits s).made_fits)) (some-injective p.call.0 c (sym (pending_has (object s o) p q) ∙ e))
          (λ m k j. let y = call-pending (object s m) c j in h.kept.but.calls on m o k l y.0 p y.1 q (y.2 ∙ sym (some-injective p.call.0 c (sym (pending_has (object s o) p q) ∙ e)))) d)

      by : (o : Option ℕ) → pending_external s c ≡ o → pends (settle_found s o f) d ≡ pick (eqb c d) false (pends s d)
      by none e = unfold settle_found in (ignored s c d (not-pending s c e))
      by (some o) e = let y = found-call s c o e in unfold settle_found in (row o y.0 y.1 (as_pending (object s o)) refl)

  awaiter-low : (o : ℕ) (p : PendingExternal) → as_pending (object s o) ≡ some p → AwaiterFits p.awaiter
  awaiter-low o p e = (rw (pending-object (object s o) p e) at (object-fits s o)).1.0

  settled-none : (c : CallId) (v : Value) → pending_call (to_object (object_words (Object.ExternalFuture c (ExternalFutureState.Resolved v)))) ≡ none
  unfolding pending_call
  settled-none c v = refl

  failed-none : (c : CallId) (e : Error) → pending_call (to_object (object_words (Object.ExternalFuture c (ExternalFutureState.Failed e)))) ≡ none
  unfolding pending_call
  failed-none c e = refl

  resolve-pends : (c : ℕ) (v : Value) (d : ℕ) → pends (resolve_future s c v) d ≡ pick (eqb c d) false (pends s d)
  unfolding resolve_future resolve_pending
  resolve-pends c v =
      found-pends c _ (λ o p e l q alone d.
      let x : Object = Object.ExternalFuture p.call (ExternalFutureState.Resolved (value_or p.stored v)) in
      let u : Store = put_object s o x in
      let zu : Sized u = sized-put_object s o x z in
      pended_pends u _ d (success_kept _ (pended_closed _ (header u).made) u p.awaiter (value_or p.stored v) (awaiter-low o p e) (pended_now u zu))
      ∙ settled-pends s z o x c l (pending_has (object s o) p e ∙ ap (λ (n : ℕ). some n) q) (settled-none p.call (value_or p.stored v)) alone d)

  fail-pends : (c : ℕ) (x : Error) (d : ℕ) → pends (fail_future s c x) d ≡ pick (eqb c d) false (pends s d)
  unfolding fail_future fail_pending
  fail-pends c x =
      found-pends c _ (λ o p e l q alone d.
      let y : Object = Object.ExternalFuture p.call (ExternalFutureState.Failed x) in
      let u : Store = put_object s o y in
      let zu : Sized u = sized-put_object s o y z in
      pended_pends u _ d (failure_kept _ (pended_closed _ (header u).made) u p.awaiter x (awaiter-low o p e) (pended_now u zu))
      ∙ settled-pends s z o y c l (pending_has (object s o) p e ∙ ap (λ (n : ℕ). some n) q) (failed-none p.call x) alone d)

  -- one result: kind 2 says nothing, any other answers its call
  result-pends : (x : Result) (d : ℕ) → pends (apply_result s x) d ≡ pick (eqb x.call d && not (eqb x.kind 2)) false (pends s d)
  unfolding apply_result
  result-pends x d = by (eqb x.kind 0) refl (eqb x.kind 1) refl (eqb x.kind 2) refl (eqb x.kind 3)
    where
      answers : (k : eqb x.kind 2 ≡ false) (u : Store) → pends u d ≡ pick (eqb x.call d) false (pends s d) → pends u d ≡ pick (eqb x.call d && not (eqb x.kind 2)) false (pends s d)
      answers k u e = e ∙ rw k (ap (λ (b : Bool). pick b false (pends s d)) (sym (and_yes (eqb x.call d))))
        where
          and_yes : (b : Bool) → (b && true) ≡ b
          and_yes true = refl
          and_yes false = refl

      nothing : eqb x.kind 2 ≡ true → pends s d ≡ pick (eqb x.call d && not (eqb x.kind 2)) false (pends s d)
      nothing k = rw k (ap (λ (b : Bool). pick b false (pends s d)) (sym (and_no (eqb x.call d))))
        where
          and_no : (b : Bool) → (b && false) ≡ false
          and_no true = refl
          and_no false = refl

      by : (a : Bool) → eqb x.kind 0 ≡ a → (b : Bool) → eqb x.kind 1 ≡ b → (c : Bool) → eqb x.kind 2 ≡ c → (e : Bool)
          → pends (pick a (resolve_future s x.call (to_value x.tag x.number)) (pick b (fail_future s x.call (to_error 0 x.number))
          (pick c s (pick e (fail_future s x.call Error.NotFound) (fail_future s x.call Error.ModuleFile))))) d
          ≡ pick (eqb x.call d && not (eqb x.kind 2)) false (pends s d)
      by true p b q c k e = answers (ne_eqb x.kind 2 (λ y. not-suc-le-zero {n = 0} (omega (arith, eqb-true x.kind 0 p)))) _ (resolve-pends x.call _ d)
      by false p true q c k e = answers (ne_eqb x.kind 2 (λ y. not-suc-le-zero {n = 0} (omega (arith, eqb-true x.kind 1 q)))) _ (fail-pends x.call _ d)
      by false p false q true k e = nothing k
      by false p false q false k true = answers k _ (fail-pends x.call Error.NotFound d)
      by false p false q false k false = answers k _ (fail-pends x.call Error.ModuleFile d)

-- does one of the results answer the call?
unfoldable pub answered : Option Result → Bool → Bool
answered none b = b
answered (some r) b = false

pub results-pend : {r : ℕ → Bool} {D : ℕ → Type 0} {hd : Header} (xs : List Result) (s : Store) → AllApply hd.made D xs → SoundDuring Nothing r D hd s → is_ended hd.moment ≡ false
    → (d : ℕ) → pends (apply_future_results s xs) d ≡ answered (reply_in xs d) (pends s d)
unfolding apply_future_results AllApply reply_in answered
results-pend [] s a h on d = refl
results-pend (x ∷ xs) s a h on d =
    results-pend xs (apply_result s x) a.1 (result_keeps s x a.0 h) on d
    ∙ (ap (answered (reply_in xs d)) (result-pends s h (subst (λ (y : Header). is_ended y.moment ≡ false) (sym h.head) on) x d) ∙ by (eqb x.call d && not (eqb x.kind 2)) (reply_in xs d))
  where
    by : (b : Bool) (o : Option Result) → answered o (pick b false (pends s d)) ≡ answered (elim b [ true ↦ some x | false ↦ o ]) (pends s d)
    by true none = unfold answered in refl
    by true (some y) = unfold answered in refl
    by false o = refl

-- ---- each event

items-rows : (os : List ℕ) (s : Store) (p q : ℕ) → object (put_items s p os) q ≡ object s q
unfolding put_items object put_place
items-rows [] s p q = refl
items-rows (o ∷ os) s p q = items-rows os (put_place s p (record { item = heap_id o; result = None })) (p + 1) q

-- the calls pending after an event, by what it says
unfoldable pub later_pends : Says → Bool → ℕ → Bool
later_pends x b c = elim (is_at x.pends c) [ true ↦ true | false ↦ answered (reply_in x.results c) b ]

pending-made : (d : ℕ) (x : OptionValue) → d < call_limit → pending_call (to_object (object_words (Object.ExternalFuture (call_id d) (ExternalFutureState.Pending Awaiter.Nobody x)))) ≡ some d
unfolding pending_call
pending-made d x l = ap (λ (n : ℕ). some n) (mod-eq_of_lt (omega (arith, l)))

or_elim : (a b : Bool) → (a || b) ≡ elim a [ true ↦ true | false ↦ b ]
or_elim true b = refl
or_elim false b = refl

-- no two pending externals have one call
abbrev pub RowsDistinct : Store → Type 0
RowsDistinct s = (o q c : ℕ) → o < (header s).made → q < (header s).made → pending_call (object s o) ≡ some c → pending_call (object s q) ≡ some c → o ≡ q

-- where the answer tells who has control
abbrev pub ControlDistinct : Option Control → Store → Type 0
ControlDistinct none s = Unit {0}
ControlDistinct (some c) s = RowsDistinct s

abbrev pub WaitDistinct : Step → Type 0
WaitDistinct x = ControlDistinct (tells x.answer).control x.store

distinct_wait : (x : Step) → RowsDistinct x.store → WaitDistinct x
distinct_wait x d = by (tells x.answer).control
  where
    by : (c : Option Control) → ControlDistinct c x.store
    by none = tt
    by (some c) = d

module _ (s : Store) (h : SoundStore s) where
  sz : Sized s
  sz = h.memory.sized

  same_places : (header s).used + 0 ≤ place_limit
  same_places = omega (arith, (header-fits s).used_fits)

  -- K of the walk: each object has the call that it had
  abbrev K : Store → Type 0
  K u = Pended (λ o. pending_call (object s o)) (header s).made u

  walked : (u : Store) (c : ℕ) → K u → pends u c ≡ pends s c
  walked u c k = pended_pends s u c k

  kept : Closed K
  kept = pended_closed (λ o. pending_call (object s o)) (header s).made

  start : K s
  start = pended_now s sz

  -- calls
  module _ (l : (header s).calls < call_limit) where
    one_more : Header
    one_more = record { made = (header s).made; used = (header s).used; calls = (header s).calls + 1; next = (header s).next; moment = (header s).moment }

    more : header (set_calls s ((header s).calls + 1)) ≡ one_more
    unfolding set_calls one_more
    more =
        let f : HeaderFits (header s) = header-fits s in
        header_put-header s _ sz (record { made_fits = f.made_fits; used_fits = f.used_fits; calls_fit = omega arith; next_fits = f.next_fits; moment_fits = f.moment_fits })

    more-row : (o : ℕ) → object (set_calls s ((header s).calls + 1)) o ≡ object s o
    unfolding set_calls
    more-row o = object_put-header s _ o

    call-pends : (c : ℕ) → pends (set_calls s ((header s).calls + 1)) c ≡ pends s c
    unfolding one_more
    call-pends c = same-pends s _ c (ap (λ (y : Header). y.made) more) more-row

    settled-pends-none : (v : Value) → (header s).made < object_limit → (c : ℕ) → pends (make_settled s v) c ≡ pends s c
    unfolding make_settled one_more is_at pending_call
    settled-pends-none v m c =
        add-pends (set_calls s ((header s).calls + 1)) _ 0 (sized-set_calls s _ sz) (subst (λ (y : Header). y.made < object_limit) (sym more) m)
        (subst (λ (y : Header). y.used + 0 ≤ place_limit) (sym more) same_places) c ∙ call-pends c

  gather-pends : (os : List ℕ) → (header s).made < object_limit → (header s).used + length os ≤ place_limit → (c : ℕ) → pends (make_gather s os) c ≡ pends s c
  unfolding make_gather is_at pending_call
  gather-pends os m u c =
      let hd : header (put_items s (header s).used os) ≡ header s = items-header os s (header s).used in
      add-pends (put_items s (header s).used os) _ (length os) (items-sized os s (header s).used sz) (subst (λ (y : Header). y.made < object_limit) (sym hd) m)
      (subst (λ (y : Header). y.used + length os ≤ place_limit) (sym hd) u) c
      ∙ same-pends s _ c (ap (λ (y : Header). y.made) hd) (items-rows os s (header s).used)

  complete-k : (t : ℕ) (v : Value) → K (task_completes s t v).store
  unfolding task_completes end_main switched
  complete-k t v = pick_has (λ (x : Step). K x.store) (eqb t 0) (cleanup-kept K kept s start) spawned-ends
    where
      o : ℕ
      o = (task s t).coroutine.0

      spawned-ends : K (handle_task_completion s t v).store
      spawned-ends =
          unfold handle_task_completion in (completion_kept K kept _ (task s t).awaiter v (task-fits s t).awaiter_fits
          (kept.exits (put_object s o (completed (object s o))) t (row_pended _ _ s o (completed (object s o)) (task-fits s t).coroutine_fits (completed_calls (object s o) (object-fits s o)) start)))

  fail-k : (t : ℕ) (e : Error) → K (task_fails s t e).store
  unfolding task_fails end_main switched
  fail-k t e = pick_has (λ (x : Step). K x.store) (eqb t 0) (cleanup-kept K kept s start) (fail-kept K kept s t e start)

  resume-k : K (resume_with_resolved_futures s).store
  unfolding resume_with_resolved_futures switched
  resume-k = pick_has (λ (x : Step). K x.store) (eqb s.queue.len 0) start (resume-kept K kept s start)

  await-k : (t o : ℕ) → o < object_limit → K (exec_get_awaitable s t o).store
  await-k t o l =
      await-kept K K (pended_commits _ (header s).made) kept (λ u k. k) t o l
      (λ u k. tasks_pended _ (header s).made u _ (sized-add_log _ (blocked t) (sized-set_state u t _ k.sized)) (blocks-words u t o) k) s start
    where
      blocks-words : (u : Store) (t o : ℕ) → (add_log (set_state u t (TaskState.Blocked (heap_id o))) (blocked t)).objects ≡ u.objects
      blocks-words u t o = unfold add_log set_state put_task in refl

  -- ---- what an event says of calls, and what it leaves

  await_low : (o : ℕ) → refusal s (Event.await o) ≡ 0 → o < object_limit
  await_low o r = omega (arith, await-made s h o (refusal-rest s (Event.await o) r), (header-fits s).made_fits)

  pub accept-pends : (e : Event) → refusal s e ≡ 0 → (c : ℕ) → pends (accept s e).store c ≡ later_pends (says e) (pends s c) c
  unfolding accept refusals answer_await make_coroutine make_pending says nothing_said later_pends is_at reply_in view answered in_both
  accept-pends (Event.coroutine f) r c =
      add-pends s _ 0 sz (not_full s (pass 6 (full s) [] (running-rest s _ (refusal-rest s (Event.coroutine f) r))).0) same_places c ∙ (unfold pending_call in refl)
  accept-pends Event.call r c = call-pends (has_number s (pass 7 (no_number s) [] (running-rest s _ (refusal-rest s Event.call r))).0) c
  accept-pends (Event.pending d x) r c =
      let q = running-rest s _ (refusal-rest s (Event.pending d x) r) in
      let low : d < (header s).calls = leb-false (header s).calls d (or_left (leb (header s).calls d) _ (pass 4 _ _ q).0) in
      add-pends s _ 0 sz (not_full s (pass 6 (full s) [] (pass 5 _ _ (pass 4 _ _ q).1).1).0) same_places c
      ∙ (ap (λ (y : Option ℕ). is_at y c || pends s c) (pending-made d x (omega (arith, low, (header-fits s).calls_fit))) ∙ or_elim (eqb d c) (pends s c))
  accept-pends (Event.settled v) r c =
      let q = pass 6 (full s) _ (pass 4 _ _ (running-rest s _ (refusal-rest s (Event.settled v) r))).1 in
      settled-pends-none (has_number s (pass 7 (no_number s) [] q.1).0) v (not_full s q.0) c
  accept-pends (Event.gather os) r c =
      let q = (pass 6 (full s || ltb item_limit (length os) || ltb place_limit ((header s).used + length os)) [] (pass 4 _ _ (running-rest s _ (refusal-rest s (Event.gather os) r))).1).0 in
      gather-pends os (not_full s (or_left (full s) (ltb item_limit (length os)) (or_left (full s || ltb item_limit (length os)) (ltb place_limit ((header s).used + length os)) q)))
      (ltb-false place_limit ((header s).used + length os) (or_right (full s || ltb item_limit (length os)) (ltb place_limit ((header s).used + length os)) q)) c
  accept-pends (Event.await o) r c = walked _ c (await-k (runner (header s).moment) o (await_low o r))
  accept-pends (Event.complete v) r c = walked _ c (complete-k (runner (header s).moment) v)
  accept-pends (Event.fail n) r c = walked _ c (fail-k (runner (header s).moment) (Error.Script n))
  accept-pends (Event.results rs) r c =
      let q = refusal-rest s (Event.results rs) r in
      same-pends (apply_future_results s rs) (wake_in_order s (apply_future_results s rs)) c (unfold wake_in_order put_queue header in refl) (λ o. unfold wake_in_order put_queue object in refl)
      ∙ results-pend rs s (results_apply s h rs q) (during_of s h) (pass 2 (is_ended (header s).moment) _ q).0 c
  accept-pends Event.resume r c = walked _ c resume-k
  accept-pends (Event.cancel t) r c = walked _ c (cancel-kept K kept s t start)
  accept-pends (Event.show o) r c = refl
  accept-pends Event.eager r c = refl

  -- ---- the calls of a wait rise

  -- the session has not ended: no two pending externals have one call
  distinct-rows : is_ended (header s).moment ≡ false → RowsDistinct s
  unfolding view
  distinct-rows on o q c l m a b =
      let x = call-pending (object s o) c a in
      let y = call-pending (object s q) c b in
      h.facts.but.calls on o q l m x.0 y.0 x.1 y.1 (x.2 ∙ sym y.2)

  kept-distinct : (u : Store) → RowsDistinct s → K u → RowsDistinct u
  kept-distinct u d k o q c l m a b =
      d o q c (subst (λ (n : ℕ). o < n) k.made l) (subst (λ (n : ℕ). q < n) k.made m) (sym (k.rows o) ∙ a) (sym (k.rows q) ∙ b)

  pub accept_distinct : (e : Event) → refusal s e ≡ 0 → WaitDistinct (accept s e)
  unfolding accept refusals answer_await tells done_only in_running in_waiting
  accept_distinct (Event.coroutine f) r = tt
  accept_distinct Event.call r = tt
  accept_distinct (Event.pending d x) r = tt
  accept_distinct (Event.settled v) r = tt
  accept_distinct (Event.gather os) r = tt
  accept_distinct (Event.await o) r =
      kept-distinct _ (distinct-rows (pass 2 (is_ended (header s).moment) _ (refusal-rest s (Event.await o) r)).0) (await-k (runner (header s).moment) o (await_low o r))
  accept_distinct (Event.complete v) r =
      distinct_wait (task_completes s (runner (header s).moment) v)
      (kept-distinct _ (distinct-rows (pass 2 (is_ended (header s).moment) _ (refusal-rest s (Event.complete v) r)).0) (complete-k (runner (header s).moment) v))
  accept_distinct (Event.fail n) r =
      distinct_wait (task_fails s (runner (header s).moment) (Error.Script n))
      (kept-distinct _ (distinct-rows (pass 2 (is_ended (header s).moment) _ (refusal-rest s (Event.fail n) r)).0) (fail-k (runner (header s).moment) (Error.Script n)))
  accept_distinct (Event.results rs) r = tt
  accept_distinct Event.resume r =
      distinct_wait (resume_with_resolved_futures s) (kept-distinct _ (distinct-rows (pass 2 (is_ended (header s).moment) _ (refusal-rest s Event.resume r)).0) resume-k)
  accept_distinct (Event.cancel t) r = tt
  accept_distinct (Event.show o) r = tt
  accept_distinct Event.eager r = tt
