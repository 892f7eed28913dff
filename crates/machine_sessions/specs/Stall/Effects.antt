-- What a delivery does to the tasks, the queue and the log: nothing, or one blocked task is reached and becomes ready at the queue's back.
use Rattle.std.specs.Prelude.{◌≡◌, Bool, true, List, ◌∷◌, ℕ, zero, suc, ◌<◌, eqb}
use Rattle.std.proofs.Math.Path.{refl}
use Rattle.std.proofs.Common.{sym, ap, subst, ◌∙◌}
use Rattle.std.proofs.Math.Bool.{false}
use Rattle.std.proofs.Math.Option.{Option, none, some}
use Rattle.asyncio.specs.declared.Value.{Value}
use Rattle.asyncio.specs.declared.Error.{Error}
use Rattle.asyncio.specs.declared.TaskState.{TaskState}
use Rattle.asyncio.specs.declared.Awaiter.{Awaiter}
use Rattle.asyncio.specs.declared.Header.{Header}
use Rattle.asyncio.specs.Ranges.{AwaiterFits}
use Rattle.asyncio.specs.Limits.{object_limit, task_limit}
use Rattle.asyncio.specs.States.{pick, is_ready, is_blocked, is_unstarted}
use Rattle.rows.specs.Tables.{task_at, task_put}
use Rattle.queue.specs.Queue.{push_back}
use Rattle.machine.specs.Store.{Store, LogEntry, task, object, header, put_object, put_places, add_log, restate, set_state, put_task, put_queue, reached}
use Rattle.machine.specs.Scheduler.{AwaitedGather, as_awaited, make_ready, push_ready}
use Rattle.machine.specs.Delivery.{Delivery, nobody_woken, deliver_to_task, Filled, fill_from, Settled, resolve_left, resolve_awaited, resolve_child, fail_awaited, fail_gather}
use Rattle.machine.specs.Delivery.{climb, awaited_count, send_value, climb_value, deliver_awaiter_success, send_error, climb_error, deliver_awaiter_failure}
use Rattle.machine_laws.specs.Views.{Sized}
use Rattle.machine_laws.specs.StoreLaws.{header_put-object}
use Rattle.machine_laws.specs.DeliveryLaws.{resolve_sent, fail_sent}

-- tasks, queue, counts and log as they were
pub record SameTasks (s u : Store) : Type 0 where
  pub tasks : u.tasks ≡ s.tasks
  pub queue : u.queue ≡ s.queue
  pub head : header u ≡ header s
  pub log : u.log ≡ s.log

-- task t is woken with x
pub record WokenBy (s u : Store) (t : ℕ) (x : TaskState) : Type 0 where
  pub low : t < task_limit
  pub was_blocked : is_blocked (task_at s.tasks t).state ≡ true
  pub is_woken : is_ready x ≡ true
  pub has_begun : is_unstarted x ≡ false
  pub tasks : u.tasks ≡ task_put s.tasks t (restate (task_at s.tasks t) x)
  pub queue : u.queue ≡ push_back s.queue t
  pub head : header u ≡ header s
  pub log : u.log ≡ reached t ∷ s.log

pub data Effect (s : Store) (d : Delivery) : Type 0 where
  nobody : SameTasks s d.store → d.woken ≡ none → Effect s d
  wakes : (t : ℕ) (x : TaskState) → WokenBy s d.store t x → d.woken ≡ some t → Effect s d

same_refl : (s : Store) → SameTasks s s
same_refl s = record { tasks = refl; queue = refl; head = refl; log = refl }

-- an effect after what leaves tasks and queue
effect_from : (s u : Store) (d : Delivery) → SameTasks s u → Effect u d → Effect s d
effect_from s u d k (nobody e w) = nobody (record { tasks = e.tasks ∙ k.tasks; queue = e.queue ∙ k.queue; head = e.head ∙ k.head; log = e.log ∙ k.log }) w
effect_from s u d k (wakes t x e w) =
    wakes t x (record {
      low = e.low;
      was_blocked = subst (λ (l : List ℕ). is_blocked (task_at l t).state ≡ true) k.tasks e.was_blocked;
      is_woken = e.is_woken;
      has_begun = e.has_begun;
      tasks = e.tasks ∙ ap (λ (l : List ℕ). task_put l t (restate (task_at l t) x)) k.tasks;
      queue = e.queue ∙ ap (λ q. push_back q t) k.queue;
      head = e.head ∙ k.head;
      log = e.log ∙ ap (λ (l : List LogEntry). reached t ∷ l) k.log;
    }) w

to_task_effect : (s : Store) (t : ℕ) (x : TaskState) → t < task_limit → is_ready x ≡ true → is_unstarted x ≡ false → Effect s (deliver_to_task s t x)
unfolding deliver_to_task nobody_woken task
to_task_effect s t x l r n = by (is_blocked (task s t).state) refl
  where
    by : (b : Bool) → is_blocked (task s t).state ≡ b → Effect s (pick b (record { store = add_log (make_ready s t x) (reached t); woken = some t }) (nobody_woken s))
    by true q =
        wakes t x (record {
          low = l;
          was_blocked = unfold task in q;
          is_woken = r;
          has_begun = n;
          tasks = unfold add_log make_ready push_ready put_queue set_state put_task task in refl;
          queue = unfold add_log make_ready push_ready put_queue set_state put_task in refl;
          head = unfold add_log make_ready push_ready put_queue set_state put_task header in refl;
          log = unfold add_log make_ready push_ready put_queue set_state put_task in refl;
        }) refl
    by false q = nobody (same_refl s) (unfold nobody_woken in refl)

row_same : (s : Store) (ps : List ℕ) (g : ℕ) (x : Rattle.asyncio.specs.declared.Object.Object) → SameTasks s (put_object (put_places s ps) g x)
row_same s ps g x =
    record { tasks = unfold put_object put_places in refl; queue = unfold put_object put_places in refl; head = header_put-object (put_places s ps) g x ∙ (unfold header put_places in refl); log = unfold put_object put_places in refl }

resolve_same : (s : Store) (g x : ℕ) (v : Value) → SameTasks s (resolve_child s g x v).store
unfolding resolve_child
resolve_same s g x v = by (as_awaited (object s g))
  where
    left : (b : Bool) (w : AwaitedGather) (ps : List ℕ) (m : ℕ) → SameTasks s (resolve_left b (put_places s ps) g w m).store
    left true w ps m = unfold resolve_left in (row_same s ps g _)
    left false w ps m = unfold resolve_left in (row_same s ps g _)

    by : (w : Option AwaitedGather) → SameTasks s (resolve_awaited s g x v w).store
    by none = unfold resolve_awaited in (same_refl s)
    by (some w) = unfold resolve_awaited in (left (eqb (fill_from s.places w.open_places w.first x v 0 w.count).open_places 0) w _ _)

fail-same : (s : Store) (g : ℕ) (e : Error) → SameTasks s (fail_gather s g e).store
unfolding fail_gather
fail-same s g e = by (as_awaited (object s g))
  where
    by : (w : Option AwaitedGather) → SameTasks s (fail_awaited s g e w).store
    by none = unfold fail_awaited in (same_refl s)
    by (some w) = unfold fail_awaited in (record { tasks = unfold put_object in refl; queue = unfold put_object in refl; head = header_put-object s g _; log = unfold put_object in refl })

climb_effect : (go : Store → Awaiter → Delivery) (u : Store) (a : Option Awaiter) → ((b : Awaiter) → a ≡ some b → Effect u (go u b)) → Effect u (climb go u a)
unfolding climb nobody_woken
climb_effect go u none h = nobody (same_refl u) refl
climb_effect go u (some b) h = h b refl

module _ (go : Store → Awaiter → Value → Delivery) (h : (s : Store) (a : Awaiter) (v : Value) → Sized s → AwaiterFits a → Effect s (go s a v)) where
  send-value-effect : (s : Store) (a : Awaiter) (v : Value) → Sized s → AwaiterFits a → Effect s (send_value go s a v)
  unfolding send_value nobody_woken
  send-value-effect s Awaiter.Nobody v z f = nobody (same_refl s) refl
  send-value-effect s (Awaiter.Task t) v z f = to_task_effect s t.0 (TaskState.Woken v) f refl refl
  send-value-effect s (Awaiter.GatherSlot g x) v z f =
      let r = resolve_sent s g.0 x.0 v z f.0 in
      effect_from s _ _ (resolve_same s g.0 x.0 v) (climb_effect (λ y a. go y a (Value.List g)) _ _ (λ b e. h _ b (Value.List g) r.same.sized (r.fits b e)))

climb_value_effect : (k : ℕ) (s : Store) (a : Awaiter) (v : Value) → Sized s → AwaiterFits a → Effect s (climb_value k s a v)
unfolding climb_value nobody_woken
climb_value_effect zero s a v z f = nobody (same_refl s) refl
climb_value_effect (suc k) s a v z f = send-value-effect (λ y b w. climb_value k y b w) (λ y b w. climb_value_effect k y b w) s a v z f

pub success_effect : (s : Store) (a : Awaiter) (v : Value) → Sized s → AwaiterFits a → Effect s (deliver_awaiter_success s a v)
unfolding deliver_awaiter_success
success_effect s a v z f = send-value-effect (λ y b w. climb_value (awaited_count s) y b w) (λ y b w. climb_value_effect (awaited_count s) y b w) s a v z f

module _ (go : Store → Awaiter → Error → Delivery) (h : (s : Store) (a : Awaiter) (e : Error) → Sized s → AwaiterFits a → Effect s (go s a e)) where
  send-error-effect : (s : Store) (a : Awaiter) (e : Error) → Sized s → AwaiterFits a → Effect s (send_error go s a e)
  unfolding send_error nobody_woken
  send-error-effect s Awaiter.Nobody e z f = nobody (same_refl s) refl
  send-error-effect s (Awaiter.Task t) e z f = to_task_effect s t.0 (TaskState.Raised e) f refl refl
  send-error-effect s (Awaiter.GatherSlot g x) e z f =
      let r = fail_sent s g.0 e z f.0 in
      effect_from s _ _ (fail-same s g.0 e) (climb_effect (λ y a. go y a e) _ _ (λ b p. h _ b e r.same.sized (r.fits b p)))

climb_error_effect : (k : ℕ) (s : Store) (a : Awaiter) (e : Error) → Sized s → AwaiterFits a → Effect s (climb_error k s a e)
unfolding climb_error nobody_woken
climb_error_effect zero s a e z f = nobody (same_refl s) refl
climb_error_effect (suc k) s a e z f = send-error-effect (λ y b w. climb_error k y b w) (λ y b w. climb_error_effect k y b w) s a e z f

pub failure_effect : (s : Store) (a : Awaiter) (e : Error) → Sized s → AwaiterFits a → Effect s (deliver_awaiter_failure s a e)
unfolding deliver_awaiter_failure
failure_effect s a e z f = send-error-effect (λ y b w. climb_error (awaited_count s) y b w) (λ y b w. climb_error_effect (awaited_count s) y b w) s a e z f
