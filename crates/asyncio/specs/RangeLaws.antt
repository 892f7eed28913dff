-- What fits its words is read back as it was, and whatever is read fits, type by type.
use Rattle.std.specs.Prelude.{◌≡◌, refl, Bool, true, false, List, ℕ, ◌+◌, ◌-◌, ◌≤◌, ◌<◌, ◌%◌, eqb, length, get_or}
use Rattle.std.proofs.Common.{ap, mod-eq_of_lt, add-sub_cancel, arith, ne_eqb}
use Rattle.asyncio.specs.Limits.{task_limit, object_limit, place_limit, call_limit, error_limit, u32_limit}
use Rattle.asyncio.specs.Numbers.{to_call_id, to_task_id, to_heap_id, to_u32, to_first, to_count}
use Rattle.asyncio.specs.States.{pick}
use Rattle.asyncio.specs.Kinds.{each_object}
use Rattle.asyncio.specs.Layout.{value_words, to_value, option_words, to_option, error_words, to_error, awaiter_words, to_awaiter, to_kind, object_words, row_awaiter, row_object, to_object}
use Rattle.asyncio.specs.Layout.{state_words, to_state, task_words, to_task, place_words, to_place, moment_words, to_moment, header_words, to_header}
use Rattle.asyncio.specs.Ranges.{ValueFits, OptionFits, ErrorFits, AwaiterFits, PlacesFit, ObjectFits, PlaceFits, StateFits, TaskFits, MomentFits, HeaderFits}
use Rattle.asyncio.specs.declared.Value.{Value}
use Rattle.asyncio.specs.Options.{OptionValue}
use Rattle.std.specs.Prelude.{None, Some}
use Rattle.asyncio.specs.declared.Error.{Error}
use Rattle.asyncio.specs.declared.Awaiter.{Awaiter}
use Rattle.asyncio.specs.declared.CoroutineState.{CoroutineState}
use Rattle.asyncio.specs.declared.ExternalFutureState.{ExternalFutureState}
use Rattle.asyncio.specs.declared.GatherState.{GatherState}
use Rattle.asyncio.specs.declared.Object.{Object}
use Rattle.asyncio.specs.declared.Kind.{Kind}
use Rattle.asyncio.specs.declared.Place.{Place}
use Rattle.asyncio.specs.declared.TaskState.{TaskState}
use Rattle.asyncio.specs.declared.Task.{Task}
use Rattle.asyncio.specs.declared.Moment.{Moment}
use Rattle.asyncio.specs.declared.Header.{Header}
use Rattle.asyncio.specs.declared.words.Words2.{Words2}

-- ---- what fits is read back as it was

value_back : (v : Value) → ValueFits v → to_value (value_words v).0 (value_words v).1 ≡ v
value_back (Value.Plain n) p = refl
value_back (Value.List h) p = rw (mod-eq_of_lt p)

-- a value's tag is 0 or 1
pub value_tag : (v : Value) → (value_words v).0 < 2
value_tag (Value.Plain n) = omega arith
value_tag (Value.List h) = omega arith

pub tag_of : {w : Words2} (v : Value) → w ≡ value_words v → w.0 < 2
tag_of {w} v e = rw e (value_tag v)

option_back : (x : OptionValue) → OptionFits x → to_option (option_words x).0 (option_words x).1 ≡ x
option_back None p = refl
option_back (Some v) p =
    rw (ne_eqb ((value_words v).0 + 1) 0 (λ q. omega arith), add-sub_cancel (value_words v).0 1) (ap Some (value_back v p))

-- an error's word is its place in the list
pub error-place : (e : Error) → (error_words e).0 < error_limit
error-place (Error.Host n) = omega arith
error-place (Error.Script n) = omega arith
error-place Error.CoroutineReuse = omega arith
error-place Error.FutureReuse = omega arith
error-place Error.GatherReuse = omega arith
error-place Error.NotFound = omega arith
error-place Error.ModuleFile = omega arith

error_back : (e : Error) → ErrorFits e → to_error (error_words e).0 (error_words e).1 ≡ e
error_back (Error.Host n) p = rw (mod-eq_of_lt p)
error_back (Error.Script n) p = rw (mod-eq_of_lt p)
error_back Error.CoroutineReuse p = refl
error_back Error.FutureReuse p = refl
error_back Error.GatherReuse p = refl
error_back Error.NotFound p = refl
error_back Error.ModuleFile p = refl

awaiter_back : (w : Awaiter) → AwaiterFits w → to_awaiter (awaiter_words w).0 (awaiter_words w).1 (awaiter_words w).2 ≡ w
awaiter_back Awaiter.Nobody p = refl
awaiter_back (Awaiter.Task t) p = rw (mod-eq_of_lt p)
awaiter_back (Awaiter.GatherSlot g o) p = rw (mod-eq_of_lt p.0, mod-eq_of_lt p.1)

first_back : (i n : ℕ) → PlacesFit i n → to_first i ≡ i
first_back i n f = omega (arith, f.within)

count_back : (i n : ℕ) → PlacesFit i n → to_count i n ≡ n
count_back i n f = omega (arith, f.within, f.at_most)

pub object_back : (o : Object) → ObjectFits o → to_object (object_words o) ≡ o
object_back Object.Unmade f = refl
object_back (Object.Coroutine g CoroutineState.New) f = rw (mod-eq_of_lt f)
object_back (Object.Coroutine g CoroutineState.Running) f = rw (mod-eq_of_lt f)
object_back (Object.Coroutine g CoroutineState.Completed) f = rw (mod-eq_of_lt f)
object_back (Object.ExternalFuture c (ExternalFutureState.Pending w x)) f = rw (mod-eq_of_lt f.0, awaiter_back w f.1.0, option_back x f.1.1)
object_back (Object.ExternalFuture c (ExternalFutureState.Resolved v)) f = rw (mod-eq_of_lt f.0, value_back v f.1)
object_back (Object.ExternalFuture c (ExternalFutureState.Failed e)) f = rw (mod-eq_of_lt f.0, error_back e f.1)
object_back (Object.GatherFuture i n GatherState.Pending) f = rw (first_back i n f.0, count_back i n f.0)
object_back (Object.GatherFuture i n (GatherState.Awaited w m)) f =
    rw (first_back i n f.0, count_back i n f.0, awaiter_back w f.1.0, mod-eq_of_lt f.1.1)
object_back (Object.GatherFuture i n GatherState.Completed) f = rw (first_back i n f.0, count_back i n f.0)
object_back (Object.GatherFuture i n (GatherState.Failed e)) f = rw (first_back i n f.0, count_back i n f.0, error_back e f.1)

state_back : (s : TaskState) → StateFits s → to_state (state_words s).0 (state_words s).1 (state_words s).2 ≡ s
state_back TaskState.Absent p = refl
state_back TaskState.Unstarted p = refl
state_back TaskState.Running p = refl
state_back (TaskState.Woken v) p = ap TaskState.Woken (value_back v p)
state_back (TaskState.Raised e) p = ap TaskState.Raised (error_back e p)
state_back (TaskState.Blocked h) p = rw (mod-eq_of_lt p)

pub task_back : (t : Task) → TaskFits t → to_task (task_words t) ≡ t
task_back t p = rw (state_back t.state p.state_fits, awaiter_back t.awaiter p.awaiter_fits, mod-eq_of_lt p.coroutine_fits)

pub place_back : (p : Place) → PlaceFits p → to_place (place_words p) ≡ p
place_back p f = rw (option_back p.result f.result_fits, mod-eq_of_lt f.item_fits)

moment_back : (m : Moment) → MomentFits m → to_moment (moment_words m).0 (moment_words m).1 ≡ m
moment_back (Moment.Running t) f = rw (mod-eq_of_lt f)
moment_back Moment.Waiting f = refl
moment_back Moment.Ended f = refl

-- a count up to its limit is read back
up_to : (n : ℕ) {k : ℕ} → k ≤ n → k % (n + 1) ≡ k
up_to n h = mod-eq_of_lt (omega arith)

pub header_back : (h : Header) → HeaderFits h → to_header (header_words h) ≡ h
header_back h f =
    rw (up_to object_limit f.made_fits, up_to place_limit f.used_fits, up_to call_limit f.calls_fit, up_to task_limit f.next_fits, moment_back h.moment f.moment_fits)

pub object_wide : (o : Object) → length (object_words o) ≡ 8
object_wide =
    each_object (λ o. length (object_words o) ≡ 8) refl (λ f. refl) (λ f. refl) (λ f. refl)
    (λ c w x. refl) (λ c v. refl) (λ c e. refl) (λ i n. refl) (λ i n w m. refl) (λ i n. refl) (λ i n e. refl)

-- ---- whatever is read fits

call_fits : (n : ℕ) → (to_call_id n).0 < u32_limit
call_fits n = omega arith

task-fits : (n : ℕ) → (to_task_id n).0 < task_limit
task-fits n = omega arith

heap_fits : (n : ℕ) → (to_heap_id n).0 < object_limit
heap_fits n = omega arith

u32-fits : (n : ℕ) → to_u32 n < u32_limit
u32-fits n = omega arith

places_fit : (i n : ℕ) → PlacesFit (to_first i) (to_count (to_first i) n)
places_fit i n = record { within = omega arith; at_most = omega arith }

-- what holds of both holds of the one that is picked
pub pick_has : {A : Type 0} (P : A → Type 0) (b : Bool) {x y : A} → P x → P y → P (pick b x y)
pick_has P true p q = p
pick_has P false p q = q

value-fits : (tag n : ℕ) → ValueFits (to_value tag n)
value-fits tag n = pick_has ValueFits (eqb tag 0) tt (heap_fits n)

option_fits : (tag n : ℕ) → OptionFits (to_option tag n)
option_fits tag n = pick_has OptionFits (eqb tag 0) tt (value-fits (tag - 1) n)

error-fits : (tag n : ℕ) → ErrorFits (to_error tag n)
error-fits tag n =
    pick_has ErrorFits (eqb tag 0) (u32-fits n) (pick_has ErrorFits (eqb tag 1) (u32-fits n) (pick_has ErrorFits (eqb tag 2) tt
    (pick_has ErrorFits (eqb tag 3) tt (pick_has ErrorFits (eqb tag 4) tt (pick_has ErrorFits (eqb tag 5) tt tt)))))

pub to_awaiter-fits : (tag a b : ℕ) → AwaiterFits (to_awaiter tag a b)
to_awaiter-fits tag a b = pick_has AwaiterFits (eqb tag 0) tt (pick_has AwaiterFits (eqb tag 1) (task-fits a) (heap_fits a, heap_fits b))

row_awaiter-fits : (w : List ℕ) → AwaiterFits (row_awaiter w)
row_awaiter-fits w = to_awaiter-fits (get_or w 1 0) (get_or w 2 0) (get_or w 3 0)

row_object-fits : (k : Kind) (w : List ℕ) → ObjectFits (row_object k w)
row_object-fits Kind.Unmade w = tt
row_object-fits Kind.NewCoroutine w = u32-fits (get_or w 4 0)
row_object-fits Kind.RunningCoroutine w = u32-fits (get_or w 4 0)
row_object-fits Kind.CompletedCoroutine w = u32-fits (get_or w 4 0)
row_object-fits Kind.PendingExternal w = (call_fits (get_or w 4 0), (row_awaiter-fits w, option_fits (get_or w 5 0) (get_or w 6 0)))
row_object-fits Kind.ResolvedExternal w = (call_fits (get_or w 4 0), value-fits (get_or w 5 0) (get_or w 6 0))
row_object-fits Kind.FailedExternal w = (call_fits (get_or w 4 0), error-fits (get_or w 5 0) (get_or w 6 0))
row_object-fits Kind.PendingGather w = (places_fit (get_or w 4 0) (get_or w 5 0), tt)
row_object-fits Kind.AwaitedGather w = (places_fit (get_or w 4 0) (get_or w 5 0), (row_awaiter-fits w, u32-fits (get_or w 6 0)))
row_object-fits Kind.CompletedGather w = (places_fit (get_or w 4 0) (get_or w 5 0), tt)
row_object-fits Kind.FailedGather w = (places_fit (get_or w 4 0) (get_or w 5 0), error-fits (get_or w 6 0) (get_or w 7 0))

pub to_object-fits : (w : List ℕ) → ObjectFits (to_object w)
to_object-fits w = row_object-fits (to_kind (get_or w 0 0)) w

state_fits : (tag a b : ℕ) → StateFits (to_state tag a b)
state_fits tag a b =
    pick_has StateFits (eqb tag 0) tt (pick_has StateFits (eqb tag 1) tt (pick_has StateFits (eqb tag 2) tt
    (pick_has StateFits (eqb tag 3) (value-fits a b) (pick_has StateFits (eqb tag 4) (error-fits a b) (heap_fits a)))))

pub to_task-fits : (w : List ℕ) → TaskFits (to_task w)
to_task-fits w = record {
  state_fits = state_fits (get_or w 0 0) (get_or w 5 0) (get_or w 6 0);
  awaiter_fits = row_awaiter-fits w;
  coroutine_fits = heap_fits (get_or w 4 0);
}

pub to_place-fits : (w : List ℕ) → PlaceFits (to_place w)
to_place-fits w = record { item_fits = heap_fits (get_or w 0 0); result_fits = option_fits (get_or w 1 0) (get_or w 2 0) }

moment_fits : (tag t : ℕ) → MomentFits (to_moment tag t)
moment_fits tag t = pick_has MomentFits (eqb tag 0) (task-fits t) (pick_has MomentFits (eqb tag 1) tt tt)

pub to_header-fits : (w : List ℕ) → HeaderFits (to_header w)
to_header-fits w = record {
  made_fits = omega arith;
  used_fits = omega arith;
  calls_fit = omega arith;
  next_fits = omega arith;
  moment_fits = moment_fits (get_or w 4 0) (get_or w 5 0);
}
