-- Results read no queue and no log, and write theirs behind what stands there: with another queue, and on top of what has happened, they do to tasks, objects and
-- places what they do without, and the same happens (`results-onto`).
use Rattle.std.specs.Prelude.{◌≡◌, eqb}
use Rattle.std.proofs.Math.Path.{refl, ap}
use Rattle.std.proofs.Common.{◌∙◌}
use Rattle.std.proofs.Math.Bool.{Bool, true, false}
use mathlib.Core.List.{List, [], ◌∷◌, ◌++◌}
use Rattle.std.proofs.Math.Option.{Option, none, some}
use Prim.Native.Nat.{ℕ, zero, suc}
use Rattle.asyncio.specs.declared.Value.{Value}
use Rattle.asyncio.specs.declared.Error.{Error}
use Rattle.asyncio.specs.declared.Awaiter.{Awaiter}
use Rattle.asyncio.specs.declared.TaskState.{TaskState}
use Rattle.asyncio.specs.Layout.{to_value, to_error}
use Rattle.asyncio.specs.States.{pick, is_blocked}
use Rattle.queue.specs.declared.ReadyQueue.{ReadyQueue}
use Rattle.queue.specs.Queue.{empty_queue}
use Rattle.machine.specs.Store.{Store, LogEntry, task, object, put_task, put_object, put_places, put_queue, add_log, set_state, reached}
use Rattle.machine.specs.Scheduler.{AwaitedGather, PendingExternal, as_awaited, as_pending, push_ready, make_ready, pending_external}
use Rattle.machine.specs.Delivery.{Delivery, nobody_woken, deliver_to_task, Settled, resolve_left, resolve_awaited, resolve_child, fail_awaited, fail_gather, climb, awaited_count}
use Rattle.machine.specs.Delivery.{send_value, climb_value, deliver_awaiter_success, send_error, climb_error, deliver_awaiter_failure}
use Rattle.machine.specs.Delivery.{value_or, resolve_pending, fail_pending, settle_pending, settle_found, resolve_future, fail_future}
use Rattle.machine.specs.Events.{Result, apply_result, apply_future_results}

-- a store's tasks, objects and places, with nothing in the queue and nothing that has happened
abbrev pub rows_of : Store → Store
rows_of s = record { tasks = s.tasks; objects = s.objects; places = s.places; queue = empty_queue; log = [] }

-- the store with the queue q, and what happened in it on top of l
abbrev pub onto : ReadyQueue → List LogEntry → Store → Store
onto q l s = record { tasks = s.tasks; objects = s.objects; places = s.places; queue = q; log = s.log ++ l }

module _ (l : List LogEntry) where
  -- u is s with some queue, and on top of l
  abbrev Onto : Store → Store → Type 0
  Onto u s = (q : ReadyQueue) × (u ≡ onto q l s)

  abbrev onto_settled : ReadyQueue → Settled → Settled
  onto_settled q r = record { store = onto q l r.store; onward = r.onward }

  -- the same of deliveries, which have woken the same task
  abbrev OntoDelivery : Delivery → Delivery → Type 0
  OntoDelivery e d = (q : ReadyQueue) × (e ≡ record { store = onto q l d.store; woken = d.woken })

  -- ---- a task, a gather

  task-onto : (q : ReadyQueue) (s : Store) (t : ℕ) (x : TaskState) → OntoDelivery (deliver_to_task (onto q l s) t x) (deliver_to_task s t x)
  unfolding deliver_to_task nobody_woken make_ready push_ready set_state put_task put_queue add_log task
  task-onto q s t x = by (is_blocked (task s t).state)
    where
      by : (b : Bool) → OntoDelivery (pick b (record { store = add_log (make_ready (onto q l s) t x) (reached t); woken = some t }) (nobody_woken (onto q l s)))
          (pick b (record { store = add_log (make_ready s t x) (reached t); woken = some t }) (nobody_woken s))
      by true = ((make_ready (onto q l s) t x).queue, refl)
      by false = (q, refl)

  child-onto : (q : ReadyQueue) (s : Store) (g source : ℕ) (v : Value) → resolve_child (onto q l s) g source v ≡ onto_settled q (resolve_child s g source v)
  unfolding resolve_child object
  child-onto q s g source v = by (as_awaited (object s g))
    where
      left_by : (u : Store) (b : Bool) (w : AwaitedGather) (m : ℕ) → resolve_left b (onto q l u) g w m ≡ onto_settled q (resolve_left b u g w m)
      left_by u true w m = unfold resolve_left put_object in refl
      left_by u false w m = unfold resolve_left put_object in refl

      by : (a : Option AwaitedGather) → resolve_awaited (onto q l s) g source v a ≡ onto_settled q (resolve_awaited s g source v a)
      by none = unfold resolve_awaited in refl
      by (some w) = unfold resolve_awaited put_places in (left_by _ _ w _)

  fails-onto : (q : ReadyQueue) (s : Store) (g : ℕ) (e : Error) → fail_gather (onto q l s) g e ≡ onto_settled q (fail_gather s g e)
  unfolding fail_gather object
  fails-onto q s g e = by (as_awaited (object s g))
    where
      by : (a : Option AwaitedGather) → fail_awaited (onto q l s) g e a ≡ onto_settled q (fail_awaited s g e a)
      by none = unfold fail_awaited in refl
      by (some w) = unfold fail_awaited put_object in refl

  -- ---- up the gathers

  climb-onto : (go : Store → Awaiter → Delivery) → ((q : ReadyQueue) (x : Store) (a : Awaiter) → OntoDelivery (go (onto q l x) a) (go x a)) → (q : ReadyQueue) (s : Store) (a : Option Awaiter)
      → OntoDelivery (climb go (onto q l s) a) (climb go s a)
  unfolding climb nobody_woken
  climb-onto go h q s none = (q, refl)
  climb-onto go h q s (some a) = h q s a

  send-value-onto : (go : Store → Awaiter → Value → Delivery) → ((q : ReadyQueue) (x : Store) (a : Awaiter) (v : Value) → OntoDelivery (go (onto q l x) a v) (go x a v))
      → (q : ReadyQueue) (s : Store) (a : Awaiter) (v : Value) → OntoDelivery (send_value go (onto q l s) a v) (send_value go s a v)
  unfolding send_value nobody_woken
  send-value-onto go h q s Awaiter.Nobody v = (q, refl)
  send-value-onto go h q s (Awaiter.Task t) v = task-onto q s t.0 (TaskState.Woken v)
  send-value-onto go h q s (Awaiter.GatherSlot g source) v =
      let r : Settled = resolve_child s g.0 source.0 v in
      let k = climb-onto (λ x a. go x a (Value.List g)) (λ p x a. h p x a (Value.List g)) q r.store r.onward in
      (k.0, ap (λ (z : Settled). climb (λ x a. go x a (Value.List g)) z.store z.onward) (child-onto q s g.0 source.0 v) ∙ k.1)

  climb-value-onto : (k : ℕ) (q : ReadyQueue) (s : Store) (a : Awaiter) (v : Value) → OntoDelivery (climb_value k (onto q l s) a v) (climb_value k s a v)
  unfolding climb_value nobody_woken
  climb-value-onto zero q s a v = (q, refl)
  climb-value-onto (suc k) q s a v = send-value-onto (λ x b w. climb_value k x b w) (λ p x b w. climb-value-onto k p x b w) q s a v

  success-onto : (q : ReadyQueue) (s : Store) (a : Awaiter) (v : Value) → Onto (deliver_awaiter_success (onto q l s) a v).store (deliver_awaiter_success s a v).store
  unfolding deliver_awaiter_success awaited_count
  success-onto q s a v = let k = send-value-onto (λ x b w. climb_value (awaited_count s) x b w) (λ p x b w. climb-value-onto (awaited_count s) p x b w) q s a v in (k.0, ap (λ (d : Delivery). d.store) k.1)

  send-error-onto : (go : Store → Awaiter → Error → Delivery) → ((q : ReadyQueue) (x : Store) (a : Awaiter) (e : Error) → OntoDelivery (go (onto q l x) a e) (go x a e))
      → (q : ReadyQueue) (s : Store) (a : Awaiter) (e : Error) → OntoDelivery (send_error go (onto q l s) a e) (send_error go s a e)
  unfolding send_error nobody_woken
  send-error-onto go h q s Awaiter.Nobody e = (q, refl)
  send-error-onto go h q s (Awaiter.Task t) e = task-onto q s t.0 (TaskState.Raised e)
  send-error-onto go h q s (Awaiter.GatherSlot g source) e =
      let r : Settled = fail_gather s g.0 e in
      let k = climb-onto (λ x a. go x a e) (λ p x a. h p x a e) q r.store r.onward in
      (k.0, ap (λ (z : Settled). climb (λ x a. go x a e) z.store z.onward) (fails-onto q s g.0 e) ∙ k.1)

  climb-error-onto : (k : ℕ) (q : ReadyQueue) (s : Store) (a : Awaiter) (e : Error) → OntoDelivery (climb_error k (onto q l s) a e) (climb_error k s a e)
  unfolding climb_error nobody_woken
  climb-error-onto zero q s a e = (q, refl)
  climb-error-onto (suc k) q s a e = send-error-onto (λ x b f. climb_error k x b f) (λ p x b f. climb-error-onto k p x b f) q s a e

  failure-onto : (q : ReadyQueue) (s : Store) (a : Awaiter) (e : Error) → Onto (deliver_awaiter_failure (onto q l s) a e).store (deliver_awaiter_failure s a e).store
  unfolding deliver_awaiter_failure awaited_count
  failure-onto q s a e = let k = send-error-onto (λ x b f. climb_error (awaited_count s) x b f) (λ p x b f. climb-error-onto (awaited_count s) p x b f) q s a e in (k.0, ap (λ (d : Delivery). d.store) k.1)

  -- ---- from an external

  found-onto : (q : ReadyQueue) (s : Store) (c : Option ℕ) (f g : ℕ → PendingExternal → Store) → ((o : ℕ) (p : PendingExternal) → Onto (f o p) (g o p))
      → Onto (settle_found (onto q l s) c f) (settle_found s c g)
  unfolding settle_found
  found-onto q s none f g h = (q, refl)
  found-onto q s (some o) f g h = unfold object in (by (as_pending (object s o)))
    where
      by : (p : Option PendingExternal) → Onto (settle_pending (onto q l s) p (f o)) (settle_pending s p (g o))
      by none = unfold settle_pending in (q, refl)
      by (some p) = unfold settle_pending in (h o p)

  resolve-onto : (q : ReadyQueue) (s : Store) (call : ℕ) (v : Value) → Onto (resolve_future (onto q l s) call v) (resolve_future s call v)
  unfolding resolve_future pending_external resolve_pending put_object
  resolve-onto q s call v = found-onto q s (pending_external s call) _ _ (λ o p. success-onto q _ p.awaiter (value_or p.stored v))

  fail-onto : (q : ReadyQueue) (s : Store) (call : ℕ) (e : Error) → Onto (fail_future (onto q l s) call e) (fail_future s call e)
  unfolding fail_future pending_external fail_pending put_object
  fail-onto q s call e = found-onto q s (pending_external s call) _ _ (λ o p. failure-onto q _ p.awaiter e)

  result-onto : (q : ReadyQueue) (s : Store) (r : Result) → Onto (apply_result (onto q l s) r) (apply_result s r)
  unfolding apply_result
  result-onto q s r = by (eqb r.kind 0) (eqb r.kind 1) (eqb r.kind 2) (eqb r.kind 3)
    where
      results : Store → Bool → Bool → Bool → Bool → Store
      results u a b c d =
          pick a (resolve_future u r.call (to_value r.tag r.number)) (pick b (fail_future u r.call (to_error 0 r.number))
          (pick c u (pick d (fail_future u r.call Error.NotFound) (fail_future u r.call Error.ModuleFile))))

      by : (a b c d : Bool) → Onto (results (onto q l s) a b c d) (results s a b c d)
      by true b c d = resolve-onto q s r.call _
      by false true c d = fail-onto q s r.call _
      by false false true d = (q, refl)
      by false false false true = fail-onto q s r.call _
      by false false false false = fail-onto q s r.call _

  -- A batch of results.
  pub results-onto : (rs : List Result) (q : ReadyQueue) (s : Store) → (p : ReadyQueue) × (apply_future_results (onto q l s) rs ≡ onto p l (apply_future_results s rs))
  unfolding apply_future_results
  results-onto [] q s = (q, refl)
  results-onto (r ∷ rs) q s =
      let a = result-onto q s r in
      let b = results-onto rs a.0 (apply_result s r) in
      (b.0, ap (λ (u : Store). apply_future_results u rs) a.1 ∙ b.1)
