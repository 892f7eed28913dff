-- Laws of delivery. The others run on: a delivery removes no task and adds none. What goes on from a gather is a delivery of its own:
-- no fuel stands in the equation, since one awaited gather less pays for it.
use Rattle.std.specs.Prelude.{◌≡◌, refl, Bool, true, false, List, ℕ, zero, suc, ◌+◌, ◌<◌, eqb, length}
use Rattle.std.proofs.Common.{sym, ap, ◌∙◌, arith}
use Rattle.std.proofs.Math.Option.{Option, none, some, some-injective}
use Rattle.std.proofs.Math.Decide.{ℕ_discrete}
use Rattle.asyncio.specs.declared.HeapId.{HeapId}
use Rattle.asyncio.specs.declared.Value.{Value}
use Rattle.asyncio.specs.declared.Error.{Error}
use Rattle.asyncio.specs.declared.TaskState.{TaskState}
use Rattle.asyncio.specs.declared.Task.{Task}
use Rattle.asyncio.specs.declared.Awaiter.{Awaiter}
use Rattle.asyncio.specs.declared.ExternalFutureState.{ExternalFutureState}
use Rattle.asyncio.specs.declared.GatherState.{GatherState}
use Rattle.asyncio.specs.declared.Object.{Object}
use Rattle.asyncio.specs.States.{pick, is_live, is_blocked}
use Rattle.asyncio.specs.Kinds.{kind, is_awaited}
use Rattle.asyncio.specs.Limits.{object_limit, task_limit, objects_length, places_length}
use Rattle.asyncio.specs.Ranges.{ObjectFits, AwaiterFits}
use Rattle.asyncio.specs.RangeLaws.{pick_has}
use Rattle.rows.specs.Tables.{task_at, object_at, object_put, place_at}
use Rattle.rows.specs.TableLaws.{object_at-other, length-place_put}
use Rattle.machine_laws.specs.CountLaws.{count_same, count-drop, live-counted, awaited-counted, one_less}
use Rattle.machine.specs.Tests.{count}
use Rattle.machine.specs.Store.{Store, task, put_task, object, put_object, put_places, header, restate, set_state, add_log, put_queue, reached}
use Rattle.machine.specs.Scheduler.{AwaitedGather, PendingExternal, as_awaited, as_pending, first_from, bit, live, live_in, live_count, make_ready, push_ready}
use Rattle.machine.specs.Delivery.{Delivery, nobody_woken, deliver_to_task, Filled, fill_one, fill_from}
use Rattle.machine.specs.Delivery.{Settled, resolve_left, resolve_awaited, resolve_child, fail_awaited, fail_gather, climb, awaited_in, awaited_count}
use Rattle.machine.specs.Delivery.{send_value, climb_value, deliver_awaiter_success, send_error, climb_error, deliver_awaiter_failure}
use Rattle.machine_laws.specs.Views.{Sized}
use Rattle.machine_laws.specs.Statements.{SameLive}
use Rattle.machine_laws.specs.StoreLaws.{sized-put_object, sized-put_places, sized-put_queue, sized-add_log, sized-set_state}
use Rattle.machine_laws.specs.StoreLaws.{object-fits, kind_at_put, live-put_task, task_put-other, header_put-object}

same_store : (s : Store) → Sized s → SameLive s s
same_store s z = record { sized = z; same_header = refl; lives = λ t. refl }

then_same : {s u x : Store} → SameLive s u → SameLive u x → SameLive s x
then_same k l = record { sized = l.sized; same_header = l.same_header ∙ k.same_header; lives = λ t. l.lives t ∙ k.lives t }

-- ---- to a task

blocked-live : (x : TaskState) → is_blocked x ≡ true → is_live x ≡ true
blocked-live TaskState.Absent e = e
blocked-live TaskState.Unstarted e = refl
blocked-live TaskState.Running e = refl
blocked-live (TaskState.Woken v) e = refl
blocked-live (TaskState.Raised x) e = refl
blocked-live (TaskState.Blocked o) e = refl

state_put : (s : Store) (t u : ℕ) (x : TaskState) → Sized s → t < task_limit → is_live x ≡ is_live (task s t).state
    → is_live (task (set_state s t x) u).state ≡ is_live (task s u).state
unfolding set_state restate
state_put s t u x z l e = by (ℕ_discrete u t)
  where
    r : Task
    r = record { state = x; awaiter = (task s t).awaiter; coroutine = (task s t).coroutine }

    by : Dec (u ≡ t) → is_live (task (put_task s t r) u).state ≡ is_live (task s u).state
    by (yes q) = rw (q, live-put_task s t r z l) e
    by (no ne) = rw (task_put-other s t u r ne)

woken-same : (s : Store) (t : ℕ) (x : TaskState) → Sized s → t < task_limit → is_live x ≡ is_live (task s t).state → SameLive s (add_log (make_ready s t x) (reached t))
unfolding make_ready push_ready add_log put_queue set_state put_task header task
woken-same s t x z l e = record {
  sized = sized-add_log _ (reached t) (sized-put_queue _ _ (sized-set_state s t x z));
  same_header = refl;
  lives = λ u. state_put s t u x z l e;
}

task-same : (s : Store) (t : ℕ) (x : TaskState) → Sized s → t < task_limit → is_live x ≡ true → SameLive s (deliver_to_task s t x).store
unfolding deliver_to_task nobody_woken
task-same s t x z l e = by (is_blocked (task s t).state) refl
  where
    by : (b : Bool) → is_blocked (task s t).state ≡ b
        → SameLive s (pick b (record { store = add_log (make_ready s t x) (reached t); woken = some t }) (nobody_woken s)).store
    by true q = woken-same s t x z l (e ∙ sym (blocked-live (task s t).state q))
    by false q = same_store s z

-- ---- into a gather

pub absurd_some : {B A : Type 0} {a : B} → ◌≡◌ {A = Option B} none (some a) → A
absurd_some e = let z : ◌≡◌ {A = ℕ} 0 1 = cc in absurd (omega arith)

-- the object that reads as an awaited gather
pub awaited-object : (x : Object) (w : AwaitedGather) → as_awaited x ≡ some w
    → x ≡ Object.GatherFuture w.first w.count (GatherState.Awaited w.awaiter w.open_places)
unfolding as_awaited
awaited-object Object.Unmade w e = absurd_some e
awaited-object (Object.Coroutine f x) w e = absurd_some e
awaited-object (Object.ExternalFuture c x) w e = absurd_some e
awaited-object (Object.GatherFuture f n GatherState.Pending) w e = absurd_some e
awaited-object (Object.GatherFuture f n (GatherState.Awaited a m)) w e =
    ap (λ (y : AwaitedGather). Object.GatherFuture y.first y.count (GatherState.Awaited y.awaiter y.open_places)) (some-injective _ w e)
awaited-object (Object.GatherFuture f n GatherState.Completed) w e = absurd_some e
awaited-object (Object.GatherFuture f n (GatherState.Failed x)) w e = absurd_some e

-- the object that reads as a pending external
pub pending-object : (x : Object) (p : PendingExternal) → as_pending x ≡ some p → x ≡ Object.ExternalFuture p.call (ExternalFutureState.Pending p.awaiter p.stored)
unfolding as_pending
pending-object Object.Unmade p e = absurd_some e
pending-object (Object.Coroutine f y) p e = absurd_some e
pending-object (Object.ExternalFuture c (ExternalFutureState.Pending a r)) p e =
    ap (λ (u : PendingExternal). Object.ExternalFuture u.call (ExternalFutureState.Pending u.awaiter u.stored)) (some-injective _ p e)
pending-object (Object.ExternalFuture c (ExternalFutureState.Resolved y)) p e = absurd_some e
pending-object (Object.ExternalFuture c (ExternalFutureState.Failed y)) p e = absurd_some e
pending-object (Object.GatherFuture f n y) p e = absurd_some e

-- what is found is one of the numbers that were looked at
pub first_below : (p : ℕ → Bool) (k i o : ℕ) → first_from p i k ≡ some o → o < i + k
unfolding first_from
first_below p zero i o e = absurd_some e
first_below p (suc k) i o e = by (p i) e (λ q. first_below p k (i + 1) o q)
  where
    by : (b : Bool) → pick b (some i) (first_from p (i + 1) k) ≡ some o → (first_from p (i + 1) k ≡ some o → o < i + 1 + k) → o < i + suc k
    by true q f = let z : i ≡ o = some-injective i o q in omega arith
    by false q f = omega (arith, f q)

-- its parts are in range
pub awaited-fits : (s : Store) (g : ℕ) (w : AwaitedGather) → as_awaited (object s g) ≡ some w
    → ObjectFits (Object.GatherFuture w.first w.count (GatherState.Awaited w.awaiter w.open_places))
awaited-fits s g w e = rw (awaited-object (object s g) w e) at (object-fits s g)

-- an awaited gather gets a state that is not awaited: one awaited gather less
awaited_in-falls : (os : List ℕ) (g : ℕ) (r : Object) → length os ≡ objects_length → g < object_limit → is_awaited (kind (object_at os g)) ≡ true
    → is_awaited (kind r) ≡ false → awaited_in os ≡ suc (awaited_in (object_put os g r))
awaited_in-falls os g r z l e q =
    one_less (awaited_in os) (count before object_limit) (count behind object_limit) (awaited_in (object_put os g r)) (awaited-counted os)
    (count-drop before behind object_limit g l e (rw (kind_at_put os g r z l) q) (λ i ne. rw (object_at-other os g i r ne)))
    (awaited-counted (object_put os g r))
  where
    before : ℕ → Bool
    before o = is_awaited (kind (object_at os o))

    behind : ℕ → Bool
    behind o = is_awaited (kind (object_at (object_put os g r) o))

-- also where the places have changed
awaited-falls : (s : Store) (ps : List ℕ) (g : ℕ) (w : AwaitedGather) (r : Object) → Sized s → g < object_limit → as_awaited (object s g) ≡ some w
    → is_awaited (kind r) ≡ false → awaited_count s ≡ suc (awaited_count (put_object (put_places s ps) g r))
unfolding awaited_count object put_object put_places kind
awaited-falls s ps g w r z l e q = awaited_in-falls s.objects g r z.objects_sized l (rw (awaited-object (object s g) w e)) q

-- what a gather sends on, if anything: it is in range, and one awaited gather less is left
pub record Sent (s : Store) (r : Settled) : Type 0 where
  pub same : SameLive s r.store
  pub fits : (a : Awaiter) → r.onward ≡ some a → AwaiterFits a
  pub falls : (a : Awaiter) → r.onward ≡ some a → awaited_count s ≡ suc (awaited_count r.store)

nothing_sent : (s u : Store) → SameLive s u → Sent s (record { store = u; onward = none })
nothing_sent s u k = record { same = k; fits = λ a e. absurd_some e; falls = λ a e. absurd_some e }

object-same : (s : Store) (ps : List ℕ) (g : ℕ) (r : Object) → Sized s → length ps ≡ places_length → SameLive s (put_object (put_places s ps) g r)
unfolding put_places put_object header task
object-same s ps g r z e = record {
  sized = sized-put_object (put_places s ps) g r (sized-put_places s ps e z);
  same_header = header_put-object (put_places s ps) g r;
  lives = λ t. refl;
}

length-fill_one : (ps : List ℕ) (m p i source : ℕ) (v : Value) → length (fill_one ps m p i source v).places ≡ length ps
unfolding fill_one
length-fill_one ps m p i source v =
    pick_has (λ (f : Filled). length f.places ≡ length ps) (bit m i)
    (pick_has (λ (f : Filled). length f.places ≡ length ps) (eqb (place_at ps p).item.0 source) (length-place_put ps p _) refl) refl

pub length-fill_from : (k : ℕ) (ps : List ℕ) (m first source : ℕ) (v : Value) (i : ℕ) → length (fill_from ps m first source v i k).places ≡ length ps
unfolding fill_from
length-fill_from zero ps m first source v i = refl
length-fill_from (suc k) ps m first source v i =
    let f : Filled = fill_one ps m (first + i) i source v in
    length-fill_from k f.places f.open_places first source v (i + 1) ∙ length-fill_one ps m (first + i) i source v

left_sent : (b : Bool) (s : Store) (ps : List ℕ) (g : ℕ) (w : AwaitedGather) (m : ℕ) → Sized s → length ps ≡ places_length → g < object_limit
    → as_awaited (object s g) ≡ some w → Sent s (resolve_left b (put_places s ps) g w m)
unfolding resolve_left kind
left_sent true s ps g w m z e l q = record {
  same = object-same s ps g _ z e;
  fits = λ a p. rw (← some-injective w.awaiter a p) (awaited-fits s g w q).1.0;
  falls = λ a p. awaited-falls s ps g w (Object.GatherFuture w.first w.count GatherState.Completed) z l q refl;
}
left_sent false s ps g w m z e l q = nothing_sent s _ (object-same s ps g _ z e)

pub resolve_sent : (s : Store) (g source : ℕ) (v : Value) → Sized s → g < object_limit → Sent s (resolve_child s g source v)
unfolding resolve_child resolve_awaited
resolve_sent s g source v z l = by (as_awaited (object s g)) refl
  where
    by : (w : Option AwaitedGather) → as_awaited (object s g) ≡ w → Sent s (resolve_awaited s g source v w)
    by none q = nothing_sent s s (same_store s z)
    by (some w) q =
        let f : Filled = fill_from s.places w.open_places w.first source v 0 w.count in
        left_sent (eqb f.open_places 0) s f.places g w f.open_places z
        (length-fill_from w.count s.places w.open_places w.first source v 0 ∙ z.places_sized) l q

pub fail_sent : (s : Store) (g : ℕ) (x : Error) → Sized s → g < object_limit → Sent s (fail_gather s g x)
unfolding fail_gather fail_awaited kind put_places
fail_sent s g x z l = by (as_awaited (object s g)) refl
  where
    by : (w : Option AwaitedGather) → as_awaited (object s g) ≡ w → Sent s (fail_awaited s g x w)
    by none q = nothing_sent s s (same_store s z)
    by (some w) q = record {
      same = object-same s s.places g _ z z.places_sized;
      fits = λ a p. rw (← some-injective w.awaiter a p) (awaited-fits s g w q).1.0;
      falls = λ a p. awaited-falls s s.places g w (Object.GatherFuture w.first w.count (GatherState.Failed x)) z l q refl;
    }

-- ---- what goes on from a gather is a delivery of its own

-- of the gather's list, to the gather's awaiter
pub success_climbs : (s : Store) (g source : HeapId) (v : Value) (a : Awaiter) → Sized s → g.0 < object_limit
    → (resolve_child s g.0 source.0 v).onward ≡ some a
    → deliver_awaiter_success s (Awaiter.GatherSlot g source) v ≡ deliver_awaiter_success (resolve_child s g.0 source.0 v).store a (Value.List g)
unfolding deliver_awaiter_success send_value climb climb_value
success_climbs s g source v a z l e = rw (e, (resolve_sent s g.0 source.0 v z l).falls a e)

-- of the same error, to the gather's awaiter
pub failure_climbs : (s : Store) (g source : HeapId) (x : Error) (a : Awaiter) → Sized s → g.0 < object_limit
    → (fail_gather s g.0 x).onward ≡ some a
    → deliver_awaiter_failure s (Awaiter.GatherSlot g source) x ≡ deliver_awaiter_failure (fail_gather s g.0 x).store a x
unfolding deliver_awaiter_failure send_error climb climb_error
failure_climbs s g source x a z l e = rw (e, (fail_sent s g.0 x z l).falls a e)

-- ---- the others run on

climb-same : (go : Store → Awaiter → Delivery) (s u : Store) (a : Option Awaiter) → SameLive s u
    → ((b : Awaiter) → a ≡ some b → SameLive u (go u b).store) → SameLive s (climb go u a).store
unfolding climb nobody_woken
climb-same go s u none k h = k
climb-same go s u (some b) k h = then_same k (h b refl)

send_value-same : (go : Store → Awaiter → Value → Delivery)
    → ((s : Store) (a : Awaiter) (v : Value) → Sized s → AwaiterFits a → SameLive s (go s a v).store)
    → (s : Store) (a : Awaiter) (v : Value) → Sized s → AwaiterFits a → SameLive s (send_value go s a v).store
unfolding send_value nobody_woken
send_value-same go h s Awaiter.Nobody v z f = same_store s z
send_value-same go h s (Awaiter.Task t) v z f = task-same s t.0 (TaskState.Woken v) z f refl
send_value-same go h s (Awaiter.GatherSlot g source) v z f =
    let r = resolve_sent s g.0 source.0 v z f.0 in
    climb-same (λ y a. go y a (Value.List g)) s _ _ r.same (λ b e. h _ b (Value.List g) r.same.sized (r.fits b e))

climb_value-same : (k : ℕ) (s : Store) (a : Awaiter) (v : Value) → Sized s → AwaiterFits a → SameLive s (climb_value k s a v).store
unfolding climb_value nobody_woken
climb_value-same zero s a v z f = same_store s z
climb_value-same (suc k) s a v z f = send_value-same (λ y b w. climb_value k y b w) (λ y b w. climb_value-same k y b w) s a v z f

pub success_same : (s : Store) (a : Awaiter) (v : Value) → Sized s → AwaiterFits a → SameLive s (deliver_awaiter_success s a v).store
unfolding deliver_awaiter_success
success_same s a v z f =
    send_value-same (λ y b w. climb_value (awaited_count s) y b w) (λ y b w. climb_value-same (awaited_count s) y b w) s a v z f

send_error-same : (go : Store → Awaiter → Error → Delivery)
    → ((s : Store) (a : Awaiter) (e : Error) → Sized s → AwaiterFits a → SameLive s (go s a e).store)
    → (s : Store) (a : Awaiter) (e : Error) → Sized s → AwaiterFits a → SameLive s (send_error go s a e).store
unfolding send_error nobody_woken
send_error-same go h s Awaiter.Nobody e z f = same_store s z
send_error-same go h s (Awaiter.Task t) e z f = task-same s t.0 (TaskState.Raised e) z f refl
send_error-same go h s (Awaiter.GatherSlot g source) e z f =
    let r = fail_sent s g.0 e z f.0 in
    climb-same (λ y a. go y a e) s _ _ r.same (λ b p. h _ b e r.same.sized (r.fits b p))

climb_error-same : (k : ℕ) (s : Store) (a : Awaiter) (e : Error) → Sized s → AwaiterFits a → SameLive s (climb_error k s a e).store
unfolding climb_error nobody_woken
climb_error-same zero s a e z f = same_store s z
climb_error-same (suc k) s a e z f = send_error-same (λ y b w. climb_error k y b w) (λ y b w. climb_error-same k y b w) s a e z f

pub failure_same : (s : Store) (a : Awaiter) (e : Error) → Sized s → AwaiterFits a → SameLive s (deliver_awaiter_failure s a e).store
unfolding deliver_awaiter_failure
failure_same s a e z f =
    send_error-same (λ y b w. climb_error (awaited_count s) y b w) (λ y b w. climb_error-same (awaited_count s) y b w) s a e z f

-- what `live` and `live_count` say is the same
pub same_live : (s u : Store) (t : ℕ) → SameLive s u → live u t ≡ live s t
unfolding live
same_live s u t k = rw (k.same_header, k.lives t)

-- as many live where each task lives as it did
pub live_in-same : (ts us : List ℕ) → ((t : ℕ) → is_live (task_at us t).state ≡ is_live (task_at ts t).state) → live_in us ≡ live_in ts
live_in-same ts us h =
    live-counted us ∙ (count_same (λ t. is_live (task_at us t).state) (λ t. is_live (task_at ts t).state) task_limit (λ t l. h t) ∙ sym (live-counted ts))

pub same-live_count : (s u : Store) → SameLive s u → live_count u ≡ live_count s
unfolding live_count task
same-live_count s u k = live_in-same s.tasks u.tasks k.lives

pub success_runs_on : (s : Store) (a : Awaiter) (v : Value) (t : ℕ) → Sized s → AwaiterFits a
    → live s t ≡ true → live (deliver_awaiter_success s a v).store t ≡ true
success_runs_on s a v t z f h = same_live s _ t (success_same s a v z f) ∙ h

-- Document 01: "the rule that the others run on".
pub failure_runs_on : (s : Store) (a : Awaiter) (e : Error) (t : ℕ) → Sized s → AwaiterFits a
    → live s t ≡ true → live (deliver_awaiter_failure s a e).store t ≡ true
failure_runs_on s a e t z f h = same_live s _ t (failure_same s a e z f) ∙ h
