-- Laws of the commit. Its steps are 2 n - 1 on success and n + k on an error, for the counters that it carries; n is the number of
-- gathers that were pending before and are not after, and n - k have failed: so the steps can be read off the two stores.
use Rattle.std.specs.Prelude.{◌≡◌, Bool, true, eqb, ltb, length}
use Rattle.std.proofs.Math.Path.{refl, sym, ap}
use Rattle.std.proofs.Common.{subst, ◌∙◌, true≢false, arith}
use Rattle.std.proofs.Math.Bool.{false}
use mathlib.Core.List.{List, [], ◌∷◌}
use Rattle.std.proofs.Math.Option.{Option, none, some}
use Prim.Native.Nat.{ℕ, zero, suc, ◌+◌, ◌-◌, ◌*◌, ◌≤◌, ◌<◌}
use Rattle.std.proofs.Math.Decide.{ℕ_discrete}
use borrow.Author.Tests.{ltb-true, ltb-false}
use Rattle.asyncio.specs.declared.CallId.{CallId}
use Rattle.asyncio.specs.declared.Value.{Value}
use Rattle.asyncio.specs.declared.Error.{Error}
use Rattle.asyncio.specs.declared.Awaiter.{Awaiter}
use Rattle.asyncio.specs.declared.CoroutineState.{CoroutineState}
use Rattle.asyncio.specs.declared.ExternalFutureState.{ExternalFutureState}
use Rattle.asyncio.specs.declared.GatherState.{GatherState}
use Rattle.asyncio.specs.declared.Object.{Object}
use Rattle.asyncio.specs.declared.Kind.{Kind}
use Rattle.asyncio.specs.declared.Place.{Place}
use Rattle.asyncio.specs.States.{pick}
use Rattle.asyncio.specs.Numbers.{heap_id}
use Rattle.asyncio.specs.Kinds.{kind, each_kind, is_gather, is_pending_gather}
use Rattle.asyncio.specs.Limits.{task_limit, object_limit}
use Rattle.asyncio.specs.Parts.{count_of}
use Rattle.asyncio.specs.Ranges.{ObjectFits, PlacesFit}
use Rattle.asyncio.specs.RangeLaws.{pick_has}
use Rattle.rows.specs.Tables.{object_at}
use Rattle.machine_laws.specs.CountLaws.{count_same, count-drop, count_most, pending-counted}
use Rattle.machine.specs.Store.{Store, object, put_object, place, put_place, header, put_task, set_next, put_queue, add_log, spawned}
use Rattle.machine.specs.Scheduler.{AwaitedGather, as_awaited, spawn, spawn_unless, spawn_as, task_of, push_ready}
use Rattle.machine.specs.Commit.{Poll, ready, raised, pending, Polled, gives, await_pending, await_external, Item, polled, nested, polled_spawn, item_coroutine, item_gather, item_object, open_from, item}
use Rattle.machine.specs.Commit.{open_place, fill_place, Stop, at_end, at_nested, at_error, put_polled, put_item, step_item, step_items, Frame, step_gather_commit}
use Rattle.machine.specs.Commit.{with_state, set_gather, open_gather_commit, settle_as, settle_gather_commit, resume_in, resume_as, resume_after_child, unwind}
use Rattle.machine.specs.Commit.{Committed, turn, commit_loop, pending_in, pending_count, commit_gather_tree}
use Rattle.machine_laws.specs.Views.{Sized}
use Rattle.machine_laws.specs.Statements.{phase, SameKinds, is_failed_gather, kinds_in, failed_count, StepFormula, StepsRight, FailFormula, SeenFormula, NoFrame, Opened, Placed, StopBelow, commit_rest}
use Rattle.machine_laws.specs.StoreLaws.{sized-put_object, sized-put_place, sized-put_task, sized-set_next, sized-put_queue, sized-add_log, kind-put_object, object_put-other, object_put-header, object-fits, place-fits, PlacesOf, count-put_object}
use Rattle.machine_laws.specs.DeliveryLaws.{awaited-object, awaited-fits}

-- ---- the step formulas

-- a gather is settled with a value or waits, never with an error
settle_steps : (s : Store) (g steps n k : ℕ) → suc steps ≡ 2 * n → StepFormula steps n k (settle_gather_commit s g).poll
unfolding StepFormula settle_gather_commit settle_as
settle_steps s g steps n k e = by (as_awaited (object s g))
  where
    by : (w : Option AwaitedGather) → StepFormula steps n k (settle_as s g w).poll
    by none = e
    by (some w) = pick_has (λ (r : Polled). StepFormula steps n k r.poll) (eqb w.open_places 0) e e

-- In a loop with n steps, j gathers opened and k settled, each frame is of a gather opened and not settled.
turn_steps : (loop : Store → Frame → List Frame → ℕ → ℕ → ℕ → Committed)
    → ((s : Store) (f : Frame) (fs : List Frame) (n j k : ℕ) → suc n ≡ j + k → j ≡ k + suc (length fs) → StepsRight (loop s f fs n j k))
    → (f : Frame) (fs : List Frame) (n j k : ℕ) (x : Stop) → suc n ≡ j + k → j ≡ k + suc (length fs) → StepsRight (turn loop f fs n j k x)
unfolding turn StepsRight StepFormula
turn_steps loop h f fs n j k (at_nested s i o) e d = unfold StepsRight in (h _ _ _ (suc n) (suc j) k (omega arith) (omega arith))
turn_steps loop h f fs n j k (at_error s x) e d = e
turn_steps loop h f [] n j k (at_end s) e d = settle_steps s f.gather (suc n) j (suc k) (omega arith)
turn_steps loop h f (p ∷ ps) n j k (at_end s) e d = unfold StepsRight in (h _ _ _ (suc n) j (suc k) (omega arith) (omega arith))

loop_steps : (fuel : ℕ) (s : Store) (f : Frame) (fs : List Frame) (n j k : ℕ) → suc n ≡ j + k → j ≡ k + suc (length fs)
    → StepsRight (commit_loop fuel s f fs n j k)
unfolding commit_loop StepsRight turn StepFormula
loop_steps zero s f fs n j k e d = e
loop_steps (suc fuel) s f fs n j k e d =
    turn_steps (λ x g gs m i h. commit_loop fuel x g gs m i h) (λ x g gs m i h p q. loop_steps fuel x g gs m i h p q) f fs n j k (step_gather_commit s f) e d

-- Document 01, module 4: the steps of every commit.
pub commit_steps : (s : Store) (g : ℕ) (a : Awaiter) → StepsRight (commit_gather_tree s g a)
unfolding commit_gather_tree
commit_steps s g a =
    let x : Store = open_gather_commit s g a in
    loop_steps (2 * pending_count x + 1) x (record { gather = g; next = 0 }) [] 0 1 0 refl refl

-- ---- what keeps the kinds

pub same_kinds_refl : (s : Store) → Sized s → SameKinds s s
same_kinds_refl s z = record { sized = z; kinds = λ o. refl; counts = λ o. refl }

pub same_kinds_then : {s u x : Store} → SameKinds s u → SameKinds u x → SameKinds s x
same_kinds_then k l = record { sized = l.sized; kinds = λ o. l.kinds o ∙ k.kinds o; counts = λ o. l.counts o ∙ k.counts o }

-- a test that awaited and completed gathers pass alike
phase_test : (p : Kind → Bool) → p Kind.AwaitedGather ≡ p Kind.CompletedGather → (k : Kind) → p (phase k) ≡ p k
phase_test p e k = each_kind (λ (k : Kind). p (phase k) ≡ p k) refl refl refl refl refl refl refl refl refl e refl k

kinds_in-same : (p : Kind → Bool) (os us : List ℕ) → ((o : ℕ) → p (kind (object_at us o)) ≡ p (kind (object_at os o))) → kinds_in p us ≡ kinds_in p os
unfolding kinds_in
kinds_in-same p os us h = count_same (λ o. p (kind (object_at us o))) (λ o. p (kind (object_at os o))) object_limit (λ o l. h o)

-- one object fails a test that it passed
kinds_in_fall : (p : Kind → Bool) (os us : List ℕ) (g : ℕ) → g < object_limit → p (kind (object_at os g)) ≡ true → p (kind (object_at us g)) ≡ false
    → ((o : ℕ) → (o ≡ g → ⊥) → p (kind (object_at us o)) ≡ p (kind (object_at os o))) → kinds_in p os ≡ suc (kinds_in p us)
unfolding kinds_in
kinds_in_fall p os us g l e q h = count-drop (λ o. p (kind (object_at os o))) (λ o. p (kind (object_at us o))) object_limit g l e q h

pending_kinds : (s : Store) → pending_count s ≡ kinds_in is_pending_gather s.objects
unfolding pending_count kinds_in
pending_kinds s = pending-counted s.objects

same-kinds_in : (p : Kind → Bool) → p Kind.AwaitedGather ≡ p Kind.CompletedGather → (s u : Store) → SameKinds s u → kinds_in p u.objects ≡ kinds_in p s.objects
unfolding object
same-kinds_in p e s u k =
    kinds_in-same p s.objects u.objects (λ o. sym (phase_test p e (kind (object u o))) ∙ ap p (k.kinds o) ∙ phase_test p e (kind (object s o)))

pub same-pending_count : (s u : Store) → SameKinds s u → pending_count u ≡ pending_count s
same-pending_count s u k = rw (pending_kinds u, pending_kinds s) (same-kinds_in is_pending_gather refl s u k)

pub same-failed_count : (s u : Store) → SameKinds s u → failed_count u ≡ failed_count s
unfolding failed_count
same-failed_count s u k = same-kinds_in is_failed_gather refl s u k

-- an object is put of the kind that the old one is, with as many places
pub put_object_kinds : (s : Store) (o : ℕ) (r : Object) → Sized s → o < object_limit → phase (kind r) ≡ phase (kind (object s o))
    → PlacesOf r → count_of r ≡ count_of (object s o) → SameKinds s (put_object s o r)
put_object_kinds s o r z l e f c = record { sized = sized-put_object s o r z; kinds = λ p. by p (ℕ_discrete p o); counts = λ p. count_by p (ℕ_discrete p o) }
  where
    count_by : (p : ℕ) → Dec (p ≡ o) → count_of (object (put_object s o r) p) ≡ count_of (object s p)
    count_by p (yes q) = rw (q, count-put_object s o r z l f) c
    count_by p (no ne) = rw (object_put-other s o p r ne)

    by : (p : ℕ) → Dec (p ≡ o) → phase (kind (object (put_object s o r) p)) ≡ phase (kind (object s p))
    by p (yes q) = rw (q, kind-put_object s o r z l) e
    by p (no ne) = rw (object_put-other s o p r ne)

put_place_kinds : (s : Store) (p : ℕ) (r : Place) → Sized s → SameKinds s (put_place s p r)
unfolding put_place object
put_place_kinds s p r z = record { sized = sized-put_place s p r z; kinds = λ o. refl; counts = λ o. refl }

awaited-phase : (x : Object) (w : AwaitedGather) → as_awaited x ≡ some w → phase (kind x) ≡ Kind.AwaitedGather
unfolding kind
awaited-phase x w e = rw (awaited-object x w e)

-- ---- one item

object-set_next : (s : Store) (n o : ℕ) → object (set_next s n) o ≡ object s o
unfolding set_next
object-set_next s n o = object_put-header s _ o

spawn_as_kinds : (s : Store) (t c g : ℕ) → Sized s → SameKinds s (spawn_as s t c g)
unfolding spawn_as push_ready add_log put_queue put_task object
spawn_as_kinds s t c g z = record {
  sized = sized-add_log _ (spawned t c) (sized-put_queue _ _ (sized-set_next _ (t + 1) (sized-put_task s t _ z)));
  kinds = λ o. ap (λ (x : Object). phase (kind x)) (object-set_next (put_task s t _) (t + 1) o);
  counts = λ o. ap count_of (object-set_next (put_task s t _) (t + 1) o);
}

-- where a spawn gives a store, the kinds are the same there
SpawnKeeps : Store → Option Store → Type 0
SpawnKeeps s none = Unit {0}
SpawnKeeps s (some u) = SameKinds s u

spawn_kinds : (s : Store) (c g : ℕ) → Sized s → SpawnKeeps s (spawn s c g)
unfolding spawn spawn_unless SpawnKeeps
spawn_kinds s c g z = by (task_of s c)
  where
    by : (d : Option ℕ) → SpawnKeeps s (spawn_unless s c g d)
    by (some t) = tt
    by none = pick_has (SpawnKeeps s) (ltb (header s).next task_limit) (spawn_as_kinds s (header s).next c g z) tt

-- what is polled keeps the kinds; what is nested is a pending gather
ItemKeeps : Store → ℕ → Item → Type 0
ItemKeeps s o (polled r) = SameKinds s r.store
ItemKeeps s o nested = kind (object s o) ≡ Kind.PendingGather

abbrev PolledKeeps : Store → Polled → Type 0
PolledKeeps s r = SameKinds s r.store

coroutine_kinds : (s : Store) (g o : ℕ) (x : CoroutineState) → Sized s → SameKinds s (item_coroutine s g o x).store
unfolding item_coroutine polled_spawn SpawnKeeps
coroutine_kinds s g o CoroutineState.New z = by (spawn s o g) (spawn_kinds s o g z)
  where
    by : (x : Option Store) → SpawnKeeps s x → PolledKeeps s (polled_spawn s x)
    by none k = same_kinds_refl s z
    by (some u) k = k
coroutine_kinds s g o CoroutineState.Running z = same_kinds_refl s z
coroutine_kinds s g o CoroutineState.Completed z = same_kinds_refl s z

pub await_external_kinds : (s : Store) (o : ℕ) (c : CallId) (x : ExternalFutureState) (a : Awaiter) → Sized s → o < object_limit
    → object s o ≡ Object.ExternalFuture c x → SameKinds s (await_external s o c x a).store
unfolding await_external await_pending kind count_of
await_external_kinds s o c (ExternalFutureState.Pending Awaiter.Nobody r) a z l e = put_object_kinds s o _ z l (rw e) tt (rw e)
await_external_kinds s o c (ExternalFutureState.Pending (Awaiter.Task t) r) a z l e = same_kinds_refl s z
await_external_kinds s o c (ExternalFutureState.Pending (Awaiter.GatherSlot g y) r) a z l e = same_kinds_refl s z
await_external_kinds s o c (ExternalFutureState.Resolved v) a z l e = same_kinds_refl s z
await_external_kinds s o c (ExternalFutureState.Failed x) a z l e = same_kinds_refl s z

item_gather_kinds : (s : Store) (o f n : ℕ) (x : GatherState) → Sized s → object s o ≡ Object.GatherFuture f n x → ItemKeeps s o (item_gather s o x)
unfolding item_gather ItemKeeps kind
item_gather_kinds s o f n GatherState.Pending z e = rw e
item_gather_kinds s o f n (GatherState.Awaited a m) z e = same_kinds_refl s z
item_gather_kinds s o f n GatherState.Completed z e = same_kinds_refl s z
item_gather_kinds s o f n (GatherState.Failed x) z e = same_kinds_refl s z

item_object_kinds : (s : Store) (g o : ℕ) (x : Object) → Sized s → o < object_limit → object s o ≡ x → ItemKeeps s o (item_object s g o x)
unfolding item_object ItemKeeps
item_object_kinds s g o Object.Unmade z l e = same_kinds_refl s z
item_object_kinds s g o (Object.Coroutine f x) z l e = coroutine_kinds s g o x z
item_object_kinds s g o (Object.ExternalFuture c x) z l e = await_external_kinds s o c x _ z l e
item_object_kinds s g o (Object.GatherFuture f n x) z l e = unfold ItemKeeps in item_gather_kinds s o f n x z e

item_kinds : (s : Store) (g : ℕ) (w : AwaitedGather) (o : ℕ) → Sized s → o < object_limit → ItemKeeps s o (item s g w o)
unfolding item ItemKeeps
item_kinds s g w o z l =
    pick_has (ItemKeeps s o) (open_from (place s) w o 0 w.count) (same_kinds_refl s z) (unfold ItemKeeps in item_object_kinds s g o (object s o) z l refl)

-- ---- the items of one gather

open_place_kinds : (s : Store) (g : ℕ) (w : AwaitedGather) (i : ℕ) → Sized s → g < object_limit → phase (kind (object s g)) ≡ Kind.AwaitedGather
    → PlacesFit w.first w.count → w.count ≡ count_of (object s g) → SameKinds s (open_place s g w i)
unfolding open_place kind count_of
open_place_kinds s g w i z l e f c = put_object_kinds s g _ z l (sym e) f c

fill_place_kinds : (s : Store) (w : AwaitedGather) (i : ℕ) (v : Value) → Sized s → SameKinds s (fill_place s w i v)
unfolding fill_place
fill_place_kinds s w i v z = put_place_kinds s _ _ z

-- where a walk stops the kinds are the same; the nested item is a pending gather
unfoldable pub StopKeeps : Store → Stop → Type 0
StopKeeps s (at_end u) = SameKinds s u
StopKeeps s (at_nested u i o) = SameKinds s u × (o < object_limit) × (kind (object u o) ≡ Kind.PendingGather)
StopKeeps s (at_error u e) = SameKinds s u

stop-then : {s u : Store} (x : Stop) → SameKinds s u → StopKeeps u x → StopKeeps s x
unfolding StopKeeps
stop-then (at_end v) k h = same_kinds_then k h
stop-then (at_nested v i o) k h = (same_kinds_then k h.0, h.1, h.2)
stop-then (at_error v e) k h = same_kinds_then k h

module _ (g : ℕ) (l : g < object_limit) (w : AwaitedGather) (m : PlacesFit w.first w.count) (i o : ℕ) (go : Store → Stop) (h : (u : Store) → Sized u → StopKeeps u (go u)) where
  put-polled-kinds : (s : Store) (p : Poll) → Sized s → phase (kind (object s g)) ≡ Kind.AwaitedGather → w.count ≡ count_of (object s g)
      → StopKeeps s (put_polled g w i s p go)
  unfolding put_polled StopKeeps
  put-polled-kinds s (ready v) z e c =
      let k = fill_place_kinds s w i v z in unfold StopKeeps in stop-then (go (fill_place s w i v)) k (h _ k.sized)
  put-polled-kinds s (raised x) z e c = same_kinds_refl s z
  put-polled-kinds s pending z e c =
      let k = open_place_kinds s g w i z l e m c in unfold StopKeeps in stop-then (go (open_place s g w i)) k (h _ k.sized)

  put-item-kinds : (s : Store) (x : Item) → Sized s → o < object_limit → phase (kind (object s g)) ≡ Kind.AwaitedGather → w.count ≡ count_of (object s g)
      → ItemKeeps s o x → StopKeeps s (put_item g w i o s x go)
  unfolding put_item StopKeeps ItemKeeps
  put-item-kinds s nested z n e c k = (same_kinds_refl s z, n, k)
  put-item-kinds s (polled r) z n e c k =
      unfold StopKeeps in stop-then (put_polled g w i r.store r.poll go) k
      (put-polled-kinds r.store r.poll k.sized (k.kinds g ∙ e) (c ∙ sym (k.counts g)))

pub awaited_count : (x : Object) (w : AwaitedGather) → as_awaited x ≡ some w → w.count ≡ count_of x
unfolding count_of
awaited_count x w e = rw (awaited-object x w e)

-- one item, then on; h: what goes on keeps the kinds
pub step_item_kinds : (g i : ℕ) (s : Store) (go : Store → Stop) → Sized s → g < object_limit → ((u : Store) → Sized u → StopKeeps u (go u))
    → StopKeeps s (step_item g i s (as_awaited (object s g)) go)
unfolding step_item StopKeeps
step_item_kinds g i s go z l h = by (as_awaited (object s g)) refl
  where
    by : (a : Option AwaitedGather) → as_awaited (object s g) ≡ a → StopKeeps s (step_item g i s a go)
    by none e = same_kinds_refl s z
    by (some w) e =
        let o : ℕ = (place s (w.first + i)).item.0 in
        let m : o < object_limit = (place-fits s (w.first + i)).item_fits in
        put-item-kinds g l w (awaited-fits s g w e).0 i o go h s (item s g w o) z m (awaited-phase (object s g) w e) (awaited_count (object s g) w e) (item_kinds s g w o z m)

step_items_kinds : (k : ℕ) (s : Store) (g i : ℕ) → Sized s → g < object_limit → StopKeeps s (step_items k s g i)
unfolding step_items StopKeeps
step_items_kinds zero s g i z l = same_kinds_refl s z
step_items_kinds (suc k) s g i z l =
    unfold StopKeeps in step_item_kinds g i s (λ x. step_items k x g (i + 1)) z l (λ u y. step_items_kinds k u g (i + 1) y l)

-- ---- opening, settling and unwinding

-- a gather gets a state
with_state-kind : (x : Object) (y : GatherState) (k : Kind) → is_gather (kind x) ≡ true → ((f n : ℕ) → kind (Object.GatherFuture f n y) ≡ k) → kind (with_state x y) ≡ k
unfolding with_state kind
with_state-kind Object.Unmade y k e h = absurd (true≢false (sym e))
with_state-kind (Object.Coroutine f CoroutineState.New) y k e h = absurd (true≢false (sym e))
with_state-kind (Object.Coroutine f CoroutineState.Running) y k e h = absurd (true≢false (sym e))
with_state-kind (Object.Coroutine f CoroutineState.Completed) y k e h = absurd (true≢false (sym e))
with_state-kind (Object.ExternalFuture c (ExternalFutureState.Pending a x)) y k e h = absurd (true≢false (sym e))
with_state-kind (Object.ExternalFuture c (ExternalFutureState.Resolved v)) y k e h = absurd (true≢false (sym e))
with_state-kind (Object.ExternalFuture c (ExternalFutureState.Failed x)) y k e h = absurd (true≢false (sym e))
with_state-kind (Object.GatherFuture f n x) y k e h = h f n

with_state-count : (x : Object) (y : GatherState) → count_of (with_state x y) ≡ count_of x
unfolding with_state count_of
with_state-count Object.Unmade y = refl
with_state-count (Object.Coroutine f x) y = refl
with_state-count (Object.ExternalFuture c x) y = refl
with_state-count (Object.GatherFuture f n x) y = refl

with_state-places : (x : Object) (y : GatherState) → ObjectFits x → PlacesOf (with_state x y)
unfolding with_state
with_state-places Object.Unmade y f = tt
with_state-places (Object.Coroutine g x) y f = tt
with_state-places (Object.ExternalFuture c x) y f = tt
with_state-places (Object.GatherFuture i n x) y f = f.0

phase-gather : (k : Kind) → phase k ≡ Kind.AwaitedGather → is_gather k ≡ true
phase-gather k e = sym (phase_test is_gather refl k) ∙ ap is_gather e

module _ (s : Store) (g : ℕ) (z : Sized s) (l : g < object_limit) where
  -- an object gets a gather's state, if it is a gather: every gather has as many places
  pub set_counts : (y : GatherState) (o : ℕ) → count_of (object (set_gather s g y) o) ≡ count_of (object s o)
  unfolding set_gather
  set_counts y o = by (ℕ_discrete o g)
    where
      by : Dec (o ≡ g) → count_of (object (put_object s g (with_state (object s g) y)) o) ≡ count_of (object s o)
      by (yes q) = rw (q, count-put_object s g _ z l (with_state-places (object s g) y (object-fits s g))) (with_state-count (object s g) y)
      by (no ne) = ap count_of (object_put-other s g o _ ne)

  pub settle_kinds : SameKinds s (settle_gather_commit s g).store
  unfolding settle_gather_commit settle_as set_gather kind
  settle_kinds = by (as_awaited (object s g)) refl
    where
      by : (a : Option AwaitedGather) → as_awaited (object s g) ≡ a → PolledKeeps s (settle_as s g a)
      by none e = same_kinds_refl s z
      by (some w) e =
          let p : phase (kind (object s g)) ≡ Kind.AwaitedGather = awaited-phase (object s g) w e in
          let q : kind (with_state (object s g) GatherState.Completed) ≡ Kind.CompletedGather =
          with_state-kind (object s g) GatherState.Completed Kind.CompletedGather (phase-gather (kind (object s g)) p) (λ f n. refl) in
          pick_has (PolledKeeps s) (eqb w.open_places 0) (put_object_kinds s g _ z l (ap phase q ∙ sym p) (with_state-places (object s g) _ (object-fits s g)) (with_state-count (object s g) _)) (same_kinds_refl s z)

pub resume_kinds : (f : Frame) (r : Polled) → Sized r.store → f.gather < object_limit → SameKinds r.store (resume_after_child f r)
unfolding resume_after_child resume_as resume_in
resume_kinds f r z l = by (as_awaited (object r.store f.gather)) refl
  where
    poll-by : (w : AwaitedGather) (p : Poll) → as_awaited (object r.store f.gather) ≡ some w → SameKinds r.store (resume_in r.store f w p)
    poll-by w (ready v) e = fill_place_kinds r.store w f.next v z
    poll-by w (raised x) e = same_kinds_refl r.store z
    poll-by w pending e = open_place_kinds r.store f.gather w f.next z l (awaited-phase (object r.store f.gather) w e)
        (awaited-fits r.store f.gather w e).0 (awaited_count (object r.store f.gather) w e)

    by : (a : Option AwaitedGather) → as_awaited (object r.store f.gather) ≡ a
        → SameKinds r.store (resume_as f r a)
    by none e = same_kinds_refl r.store z
    by (some w) e = poll-by w r.poll e

-- a gather gets a state of kind k, and nothing else changes
module _ (s : Store) (g : ℕ) (y : GatherState) (k : Kind) (z : Sized s) (l : g < object_limit) (e : is_gather (kind (object s g)) ≡ true) (h : (f n : ℕ) → kind (Object.GatherFuture f n y) ≡ k) where
  set-sized : Sized (set_gather s g y)
  unfolding set_gather
  set-sized = sized-put_object s g _ z

  set_here : kind (object (set_gather s g y) g) ≡ k
  unfolding set_gather
  set_here = kind-put_object s g _ z l ∙ with_state-kind (object s g) y k e h

  set_other : (o : ℕ) → (o ≡ g → ⊥) → kind (object (set_gather s g y) o) ≡ kind (object s o)
  unfolding set_gather
  set_other o ne = ap kind (object_put-other s g o _ ne)

  -- it passes a test neither before nor after
  set_same : (p : Kind → Bool) → p (kind (object s g)) ≡ false → p k ≡ false → kinds_in p (set_gather s g y).objects ≡ kinds_in p s.objects
  unfolding object
  set_same p a b = kinds_in-same p s.objects (set_gather s g y).objects (λ o. by o (ℕ_discrete o g))
    where
      by : (o : ℕ) → Dec (o ≡ g) → p (kind (object (set_gather s g y) o)) ≡ p (kind (object s o))
      by o (yes q) = rw (q, set_here) (b ∙ sym a)
      by o (no ne) = ap p (set_other o ne)

  set-falls : (p : Kind → Bool) → p (kind (object s g)) ≡ true → p k ≡ false → kinds_in p s.objects ≡ suc (kinds_in p (set_gather s g y).objects)
  unfolding object
  set-falls p a b = kinds_in_fall p s.objects (set_gather s g y).objects g l a (ap p set_here ∙ b) (λ o ne. ap p (set_other o ne))

  set-grows : (p : Kind → Bool) → p (kind (object s g)) ≡ false → p k ≡ true → kinds_in p (set_gather s g y).objects ≡ suc (kinds_in p s.objects)
  unfolding object
  set-grows p a b = kinds_in_fall p (set_gather s g y).objects s.objects g l (ap p set_here ∙ b) a (λ o ne. sym (ap p (set_other o ne)))

-- the frames are as they were where their gathers are
opened_kept : (s u : Store) (fs : List Frame) (g : ℕ) → NoFrame g fs
    → ((o : ℕ) → (o ≡ g → ⊥) → phase (kind (object u o)) ≡ phase (kind (object s o))) → Opened s fs → Opened u fs
unfolding Opened NoFrame
opened_kept s u [] g n h k = tt
opened_kept s u (f ∷ fs) g n h k = (k.0, h f.gather n.0 ∙ k.1, k.2, opened_kept s u fs g n.1 h k.3)

opened_same : (s u : Store) (fs : List Frame) → SameKinds s u → Opened s fs → Opened u fs
unfolding Opened
opened_same s u [] k h = tt
opened_same s u (f ∷ fs) k h = (h.0, k.kinds f.gather ∙ h.1, h.2, opened_same s u fs k h.3)

-- a pending gather is of no frame
pending-apart : (s : Store) (g : ℕ) (fs : List Frame) → kind (object s g) ≡ Kind.PendingGather → Opened s fs → NoFrame g fs
unfolding Opened NoFrame
pending-apart s g [] e h = tt
pending-apart s g (f ∷ fs) e h = (λ q. apart f.gather q h.1, pending-apart s g fs e h.3)
  where
    apart : (o : ℕ) → o ≡ g → phase (kind (object s o)) ≡ Kind.AwaitedGather → ⊥
    apart o q p =
        let a : Kind.PendingGather ≡ Kind.AwaitedGather = sym (ap phase (ap (λ (i : ℕ). kind (object s i)) q ∙ e)) ∙ p in
        let z : ◌≡◌ {A = ℕ} 0 1 = cc in omega arith

record Unwound (s u : Store) (n : ℕ) : Type 0 where
  pending_same : pending_count u ≡ pending_count s
  failed_more : failed_count u ≡ failed_count s + n

awaited-not : (p : Kind → Bool) → p Kind.AwaitedGather ≡ p Kind.CompletedGather → (k : Kind) → phase k ≡ Kind.AwaitedGather → p k ≡ p Kind.AwaitedGather
awaited-not p e k q = sym (phase_test p e k) ∙ ap p q

unwind_counts : (s : Store) (fs : List Frame) (x : Error) → Sized s → Opened s fs → Unwound s (unwind s fs x) (length fs)
unfolding unwind Opened kind failed_count
unwind_counts s [] x z h = record { pending_same = refl; failed_more = omega arith }
unwind_counts s (f ∷ fs) x z h =
    let g : ℕ = f.gather in
    let y : GatherState = GatherState.Failed x in
    let u : Store = set_gather s g y in
    let e : is_gather (kind (object s g)) ≡ true = phase-gather (kind (object s g)) h.1 in
    let kept : Opened u fs = opened_kept s u fs g h.2 (λ o ne. ap phase (set_other s g y Kind.FailedGather z h.0 e (λ a b. refl) o ne)) h.3 in
    let r : Unwound u (unwind u fs x) (length fs) = unwind_counts u fs x (set-sized s g y Kind.FailedGather z h.0 e (λ a b. refl)) kept in
    let same : kinds_in is_pending_gather u.objects ≡ kinds_in is_pending_gather s.objects =
    set_same s g y Kind.FailedGather z h.0 e (λ a b. refl) is_pending_gather (awaited-not is_pending_gather refl (kind (object s g)) h.1) refl in
    let more : kinds_in is_failed_gather u.objects ≡ suc (kinds_in is_failed_gather s.objects) =
    set-grows s g y Kind.FailedGather z h.0 e (λ a b. refl) is_failed_gather (awaited-not is_failed_gather refl (kind (object s g)) h.1) refl in
    record { pending_same = r.pending_same ∙ (pending_kinds u ∙ same ∙ sym (pending_kinds s)); failed_more = omega (arith, r.failed_more) }

module _ (s : Store) (g : ℕ) (a : Awaiter) (z : Sized s) (l : g < object_limit) (e : kind (object s g) ≡ Kind.PendingGather) where
  abbrev opens : Store
  opens = open_gather_commit s g a

  gathers : is_gather (kind (object s g)) ≡ true
  gathers = ap is_gather e

  pub open_sized : Sized opens
  unfolding open_gather_commit kind
  open_sized = set-sized s g (GatherState.Awaited a 0) Kind.AwaitedGather z l gathers (λ f n. refl)

  -- a pending gather that is opened: one pending gather less, and no other failed
  pub open_falls : pending_count s ≡ suc (pending_count opens)
  unfolding open_gather_commit kind
  open_falls = rw (pending_kinds s, pending_kinds opens) (set-falls s g (GatherState.Awaited a 0) Kind.AwaitedGather z l gathers (λ f n. refl) is_pending_gather (ap is_pending_gather e) refl)

  open-failed : failed_count opens ≡ failed_count s
  unfolding open_gather_commit kind failed_count
  open-failed = set_same s g (GatherState.Awaited a 0) Kind.AwaitedGather z l gathers (λ f n. refl) is_failed_gather (ap is_failed_gather e) refl

  opened-here : phase (kind (object opens g)) ≡ Kind.AwaitedGather
  unfolding open_gather_commit kind
  opened-here = ap phase (set_here s g (GatherState.Awaited a 0) Kind.AwaitedGather z l gathers (λ f n. refl))

  open_kept : (fs : List Frame) → Opened s fs → Opened opens fs
  unfolding open_gather_commit kind
  open_kept fs h =
      opened_kept s opens fs g (pending-apart s g fs e h) (λ o ne. ap phase (set_other s g (GatherState.Awaited a 0) Kind.AwaitedGather z l gathers (λ f n. refl) o ne)) h

-- ---- the commit

-- from a store with j gathers opened so far
record Counts (s : Store) (j : ℕ) (r : Committed) : Type 0 where
  opens : pending_count s + j ≡ pending_count r.store + r.opened
  fails : FailFormula (failed_count s) (failed_count r.store) r.opened r.settled r.poll

-- a gather is settled with a value or waits
abbrev SettleFails : ℕ → ℕ → ℕ → Polled → Type 0
SettleFails b n k r = failed_count r.store ≡ b → FailFormula b (failed_count r.store) n k r.poll

settle_fails : (s : Store) (g b n k : ℕ) → SettleFails b n k (settle_gather_commit s g)
unfolding FailFormula settle_gather_commit settle_as
settle_fails s g b n k = by (as_awaited (object s g))
  where
    by : (a : Option AwaitedGather) → SettleFails b n k (settle_as s g a)
    by none = λ e. e
    by (some w) = pick_has (SettleFails b n k) (eqb w.open_places 0) (λ e. e) (λ e. e)

abbrev LoopCounts : (Store → Frame → List Frame → ℕ → ℕ → ℕ → Committed) → Type 0
LoopCounts loop =
    (s : Store) (f : Frame) (fs : List Frame) (n j k : ℕ) → j ≡ k + suc (length fs) → Sized s → Opened s (f ∷ fs) → Counts s j (loop s f fs n j k)

module _ (loop : Store → Frame → List Frame → ℕ → ℕ → ℕ → Committed) (h : LoopCounts loop) where
  turn-counts : (s : Store) (f : Frame) (fs : List Frame) (n j k : ℕ) (x : Stop) → j ≡ k + suc (length fs) → StopKeeps s x → Opened s (f ∷ fs)
      → Counts s j (turn loop f fs n j k x)
  unfolding turn StopKeeps Opened NoFrame FailFormula
  turn-counts s f fs n j k (at_nested u i o) d q e =
      let a : Awaiter = Awaiter.GatherSlot (heap_id f.gather) (heap_id o) in
      let z : Sized u = q.0.sized in
      let x : Store = open_gather_commit u o a in
      let same : pending_count u ≡ pending_count s = same-pending_count s u q.0 in
      let fall : pending_count u ≡ suc (pending_count x) = open_falls u o a z q.1 q.2 in
      let fail : failed_count x ≡ failed_count s = open-failed u o a z q.1 q.2 ∙ same-failed_count s u q.0 in
      let was : Opened u (f ∷ fs) = opened_same s u (f ∷ fs) q.0 e in
      let kept : Opened x (f ∷ fs) = open_kept u o a z q.1 q.2 (f ∷ fs) was in
      let r = h x (record { gather = o; next = 0 }) (record { gather = f.gather; next = i } ∷ fs) (suc n) (suc j) k (omega arith) (open_sized u o a z q.1 q.2)
      (q.1, opened-here u o a z q.1 q.2, pending-apart u o (f ∷ fs) q.2 was, kept) in
      record { opens = omega (arith, r.opens); fails = rw fail at r.fails }
  turn-counts s f fs n j k (at_error u x) d q e =
      let w : Unwound u (unwind u (f ∷ fs) x) (suc (length fs)) = unwind_counts u (f ∷ fs) x q.sized (opened_same s u (f ∷ fs) q e) in
      let same : pending_count u ≡ pending_count s = same-pending_count s u q in
      let fail : failed_count u ≡ failed_count s = same-failed_count s u q in
      record { opens = omega (arith, w.pending_same); fails = omega (arith, w.failed_more) }
  turn-counts s f [] n j k (at_end u) d q e =
      let w : SameKinds s (settle_gather_commit u f.gather).store = same_kinds_then q (settle_kinds u f.gather q.sized e.0) in
      let same : pending_count (settle_gather_commit u f.gather).store ≡ pending_count s = same-pending_count s _ w in
      record { opens = omega arith; fails = settle_fails u f.gather (failed_count s) j (suc k) (same-failed_count s _ w) }
  turn-counts s f (p ∷ ps) n j k (at_end u) d q e =
      let r : Polled = settle_gather_commit u f.gather in
      let x : Store = resume_after_child p r in
      let w : SameKinds u r.store = settle_kinds u f.gather q.sized e.0 in
      let v : SameKinds s x = same_kinds_then q (same_kinds_then w (resume_kinds p r w.sized e.3.0)) in
      let same : pending_count x ≡ pending_count s = same-pending_count s x v in
      let fail : failed_count x ≡ failed_count s = same-failed_count s x v in
      let c = h x (record { gather = p.gather; next = p.next + 1 }) ps (suc n) j (suc k) (omega arith) v.sized (opened_same s x (p ∷ ps) v e.3) in
      record { opens = omega (arith, c.opens); fails = rw fail at c.fails }

pub step_kinds : (s : Store) (f : Frame) → Sized s → f.gather < object_limit → StopKeeps s (step_gather_commit s f)
unfolding step_gather_commit
step_kinds s f z l = step_items_kinds (count_of (object s f.gather) - f.next) s f.gather f.next z l

idle_counts : (s : Store) (n j k : ℕ) → Counts s j (record { store = s; poll = pending; steps = n; opened = j; settled = k })
unfolding FailFormula
idle_counts s n j k = record { opens = refl; fails = refl }

loop_counts : (fuel : ℕ) → LoopCounts (commit_loop fuel)
unfolding commit_loop
loop_counts zero s f fs n j k d z e =
    turn-counts (λ x g gs m i h. record { store = x; poll = pending; steps = m; opened = i; settled = h })
    (λ x g gs m i h c y b. idle_counts x m i h) s f fs n j k (at_error s Error.GatherReuse) d (unfold StopKeeps in same_kinds_refl s z) e
loop_counts (suc fuel) s f fs n j k d z e =
    turn-counts (λ x g gs m i h. commit_loop fuel x g gs m i h) (λ x g gs m i h c y b. loop_counts fuel x g gs m i h c y b) s f fs n j k
    (step_gather_commit s f) d (step_kinds s f z (unfold Opened in e.0)) e

seen_by : (steps p b q c n k : ℕ) (x : Poll) → StepFormula steps n k x → FailFormula b c n k x → p ≡ q + n → SeenFormula steps p b q c x
unfolding StepFormula FailFormula SeenFormula
seen_by steps p b q c n k (ready v) e f h = omega arith
seen_by steps p b q c n k pending e f h = omega arith
seen_by steps p b q c n k (raised x) e f h = omega arith

module _ (s : Store) (g : ℕ) (a : Awaiter) (z : Sized s) (l : g < object_limit) (e : kind (object s g) ≡ Kind.PendingGather) where
  tree-counts : Counts (open_gather_commit s g a) 1 (commit_gather_tree s g a)
  unfolding commit_gather_tree
  tree-counts =
      let x : Store = open_gather_commit s g a in
      loop_counts (2 * pending_count x + 1) x (record { gather = g; next = 0 }) [] 0 1 0 refl (open_sized s g a z l e)
      (unfold Opened NoFrame in (l, opened-here s g a z l e, tt, tt))

  -- Document 01, module 4, "with n gathers opened": n is the number of gathers that were pending before and are not after.
  pub commit_opens : pending_count s ≡ pending_count (commit_gather_tree s g a).store + (commit_gather_tree s g a).opened
  commit_opens = omega (arith, open_falls s g a z l e, tree-counts.opens)

  -- "with k of them settled": on an error the other n - k have failed, and no other gather has.
  pub commit_fails : FailFormula (failed_count s) (failed_count (commit_gather_tree s g a).store)
      (commit_gather_tree s g a).opened (commit_gather_tree s g a).settled (commit_gather_tree s g a).poll
  commit_fails = rw (← open-failed s g a z l e) tree-counts.fails

  -- the steps of a commit, with no counter
  pub commit_seen : SeenFormula (commit_gather_tree s g a).steps (pending_count s) (failed_count s)
      (pending_count (commit_gather_tree s g a).store) (failed_count (commit_gather_tree s g a).store) (commit_gather_tree s g a).poll
  unfolding StepsRight
  commit_seen = seen_by _ _ _ _ _ _ _ (commit_gather_tree s g a).poll (commit_steps s g a) commit_fails commit_opens

-- ---- the fuel is an exact count: no commit runs out of it

-- a nested gather is opened: one pending gather less, one frame more
pub nested_fuel : (s u : Store) (f : Frame) (fs : List Frame) (i o : ℕ) → StopKeeps s (at_nested u i o)
    → 2 * pending_count s + length fs ≡ suc (2 * pending_count (open_gather_commit u o (Awaiter.GatherSlot (heap_id f.gather) (heap_id o))) + suc (length fs))
unfolding StopKeeps
nested_fuel s u f fs i o q =
    let a : Awaiter = Awaiter.GatherSlot (heap_id f.gather) (heap_id o) in
    let same : pending_count u ≡ pending_count s = same-pending_count s u q.0 in
    let fall : pending_count u ≡ suc (pending_count (open_gather_commit u o a)) = open_falls u o a q.0.sized q.1 q.2 in
    omega arith

-- a gather is settled and the one below resumes: the pending gathers are the same, one frame less
pub settled_fuel : (s u : Store) (f p : Frame) (ps : List Frame) → StopKeeps s (at_end u) → f.gather < object_limit → p.gather < object_limit
    → 2 * pending_count s + length (p ∷ ps) ≡ suc (2 * pending_count (resume_after_child p (settle_gather_commit u f.gather)) + length ps)
unfolding StopKeeps
settled_fuel s u f p ps q l m =
    let r : Polled = settle_gather_commit u f.gather in
    let x : Store = resume_after_child p r in
    let w : SameKinds u r.store = settle_kinds u f.gather q.sized l in
    let same : pending_count x ≡ pending_count s = same-pending_count s x (same_kinds_then q (same_kinds_then w (resume_kinds p r w.sized m))) in
    omega arith

turn_counts_kept : (s : Store) (f : Frame) (fs : List Frame) (n j k : ℕ) (x : Stop) → StopKeeps s x → f.gather < object_limit → Placed s fs
    → turn (λ x g gs m i h. commit_loop (2 * pending_count s + length fs) x g gs m i h) f fs n j k x ≡ turn commit_rest f fs n j k x
unfolding turn commit_rest Placed
turn_counts_kept s f fs n j k (at_nested u i o) q l e =
    let x : Store = open_gather_commit u o (Awaiter.GatherSlot (heap_id f.gather) (heap_id o)) in
    let fuel : 2 * pending_count s + length fs ≡ 2 * pending_count x + suc (suc (length fs)) = omega (arith, nested_fuel s u f fs i o q) in
    rw fuel
turn_counts_kept s f fs n j k (at_error u x) q l e = refl
turn_counts_kept s f [] n j k (at_end u) q l e = refl
turn_counts_kept s f (p ∷ ps) n j k (at_end u) q l e =
    let x : Store = resume_after_child p (settle_gather_commit u f.gather) in
    let fuel : 2 * pending_count s + length (p ∷ ps) ≡ 2 * pending_count x + suc (length ps) = omega (arith, settled_fuel s u f p ps q l e.0) in
    rw fuel

-- the commit of a gather is that of its first frame
pub commit_begins : (s : Store) (g : ℕ) (a : Awaiter)
    → commit_gather_tree s g a ≡ commit_rest (open_gather_commit s g a) (record { gather = g; next = 0 }) [] 0 1 0
unfolding commit_gather_tree commit_rest
commit_begins s g a = refl

-- a turn, then the commit from the next frame on
pub commit_turns : (s : Store) (f : Frame) (fs : List Frame) (n j k : ℕ) → Sized s → f.gather < object_limit → Placed s fs
    → commit_rest s f fs n j k ≡ turn commit_rest f fs n j k (step_gather_commit s f)
unfolding commit_rest commit_loop
commit_turns s f fs n j k z l e =
    let fuel : 2 * pending_count s + suc (length fs) ≡ suc (2 * pending_count s + length fs) = omega arith in
    rw fuel (turn_counts_kept s f fs n j k (step_gather_commit s f) (step_kinds s f z l) l e)

-- ---- frames and places

pub pending-most : (os : List ℕ) → pending_in os ≤ object_limit
pending-most os = subst (λ (n : ℕ). n ≤ object_limit) (sym (pending-counted os)) (count_most (λ o. is_pending_gather (kind (object_at os o))) object_limit)

-- the frames' places are as they were where the gathers have as many
pub placed_same : (s u : Store) (fs : List Frame) → ((o : ℕ) → count_of (object u o) ≡ count_of (object s o)) → Placed s fs → Placed u fs
unfolding Placed
placed_same s u [] h k = tt
placed_same s u (f ∷ fs) h k = (k.0, rw (h f.gather) k.1, placed_same s u fs h k.2)

module _ (g i n : ℕ) (l : i < n) (go : Store → Stop) (h : (u : Store) → StopBelow n (go u)) where
  put-polled-below : (w : AwaitedGather) (s : Store) (p : Poll) → StopBelow n (put_polled g w i s p go)
  unfolding put_polled StopBelow
  put-polled-below w s (ready v) = unfold StopBelow in h (fill_place s w i v)
  put-polled-below w s (raised e) = tt
  put-polled-below w s pending = unfold StopBelow in h (open_place s g w i)

  put-item-below : (w : AwaitedGather) (o : ℕ) (s : Store) (x : Item) → StopBelow n (put_item g w i o s x go)
  unfolding put_item StopBelow
  put-item-below w o s nested = l
  put-item-below w o s (polled r) = unfold StopBelow in put-polled-below w r.store r.poll

  step-item-below : (s : Store) (a : Option AwaitedGather) → StopBelow n (step_item g i s a go)
  unfolding step_item StopBelow
  step-item-below s none = tt
  step-item-below s (some w) = unfold StopBelow in put-item-below w (place s (w.first + i)).item.0 s (item s g w (place s (w.first + i)).item.0)

step_items-below : (k : ℕ) (s : Store) (g i n : ℕ) → i + k ≤ n → StopBelow n (step_items k s g i)
unfolding step_items StopBelow
step_items-below zero s g i n e = tt
step_items-below (suc k) s g i n e =
    unfold StopBelow in step-item-below g i n (omega arith) (λ x. step_items k x g (i + 1)) (λ u. step_items-below k u g (i + 1) n (omega arith)) s (as_awaited (object s g))

no_items_below : (k : ℕ) (s : Store) (g i n : ℕ) → k ≡ 0 → StopBelow n (step_items k s g i)
unfolding step_items StopBelow
no_items_below zero s g i n e = tt
no_items_below (suc k) s g i n e = absurd (omega arith)

-- the walk stops at one of the gather's places
pub step-below : (s : Store) (f : Frame) → StopBelow (count_of (object s f.gather)) (step_gather_commit s f)
unfolding step_gather_commit StopBelow
step-below s f = by (ltb f.next (count_of (object s f.gather))) refl
  where
    by : (b : Bool) → ltb f.next (count_of (object s f.gather)) ≡ b
        → StopBelow (count_of (object s f.gather)) (step_items (count_of (object s f.gather) - f.next) s f.gather f.next)
    by true e =
        let l : f.next < count_of (object s f.gather) = ltb-true f.next (count_of (object s f.gather)) e in
        unfold StopBelow in step_items-below (count_of (object s f.gather) - f.next) s f.gather f.next (count_of (object s f.gather)) (omega arith)
    by false e =
        let l : count_of (object s f.gather) ≤ f.next = ltb-false f.next (count_of (object s f.gather)) e in
        unfold StopBelow in no_items_below (count_of (object s f.gather) - f.next) s f.gather f.next (count_of (object s f.gather)) (omega arith)
