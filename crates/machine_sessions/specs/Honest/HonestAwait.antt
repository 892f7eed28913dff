-- What an await leaves: the tasks that it spawns are for new coroutines below the awaited object, and the task that it blocks has not control afterwards.
use Rattle.std.specs.Prelude.{◌≡◌, Bool, true, false, ◌||◌, ◌⊎◌, eqb, leb, length}
use Rattle.std.proofs.Math.Path.{refl, sym, ap, subst}
use Rattle.std.proofs.Common.{◌∙◌, inl, not-suc-le-zero, arith}
use Rattle.std.proofs.Math.Bool.{not, true≢false}
use mathlib.Core.List.{List, [], ◌∷◌}
use Rattle.std.proofs.Math.Option.{Option, none, some, some-injective}
use Rattle.std.proofs.Math.Logic.{inr}
use Prim.Native.Nat.{ℕ, zero, suc, ◌+◌, ◌-◌, ◌≤◌, ◌<◌}
use Rattle.std.proofs.Math.Nat.{mod-eq_of_lt}
use Rattle.std.proofs.Math.Decide.{ℕ_discrete}
use Rattle.std.proofs.Math.Dec.{T}
use borrow.Author.Tests.{eq-eqb, ne_eqb, leb-true, leb-false}
use Rattle.asyncio.specs.declared.CallId.{CallId}
use Rattle.asyncio.specs.declared.Value.{Value}
use Rattle.asyncio.specs.Options.{OptionValue}
use Rattle.std.specs.Prelude.{Some}
use Rattle.asyncio.specs.declared.Awaiter.{Awaiter}
use Rattle.asyncio.specs.declared.TaskState.{TaskState}
use Rattle.asyncio.specs.declared.Task.{Task}
use Rattle.asyncio.specs.declared.CoroutineState.{CoroutineState}
use Rattle.asyncio.specs.declared.ExternalFutureState.{ExternalFutureState}
use Rattle.asyncio.specs.declared.GatherState.{GatherState}
use Rattle.asyncio.specs.declared.Object.{Object}
use Rattle.asyncio.specs.declared.Place.{Place}
use Rattle.asyncio.specs.declared.Header.{Header}
use Rattle.asyncio.specs.declared.Moment.{Moment}
use Rattle.asyncio.specs.Limits.{object_limit, task_limit, place_limit}
use Rattle.asyncio.specs.Numbers.{heap_id, task_id}
use Rattle.asyncio.specs.Ranges.{ObjectFits}
use Rattle.asyncio.specs.RangeLaws.{object_back}
use Rattle.machine_laws.specs.Walk.{Turns, takes}
use Rattle.asyncio.specs.Layout.{to_value, object_words, to_object, to_place}
use Rattle.asyncio.specs.Kinds.{kind, is_pending_gather, is_committed}
use Rattle.asyncio.specs.Parts.{awaiter_of, count_of}
use Rattle.asyncio.specs.States.{pick, is_nobody, is_live, is_ready, is_blocked, is_unstarted}
use Rattle.rows.specs.Tables.{place_at, place_put, place_codec, place_start, task_at}
use Rattle.rows.specs.RowLaws.{row-put_at}
use Rattle.machine.specs.Tests.{is_in}
use Rattle.machine.specs.Store.{Store, LogEntry, blocked, reached, exited, view, task, object, place, header, put_task, put_object, put_place, put_places, put_queue, add_log, restate, set_state}
use Rattle.machine.specs.Scheduler.{AwaitedGather, as_awaited, live, is_task_of, task_of, task_of_in, make_ready, spawn_as}
use Rattle.machine.specs.Commit.{with_state, set_gather, fill_place}
use Rattle.machine.specs.Events.{How, value, raises, inline, Control, runs, waits, Switched, Awaited, stays, exec_get_awaitable, Result}
use Rattle.machine.specs.Machine.{Event}
use Rattle.machine.specs.Sound.{object_in_range, places_below, is_slot, task_in_range}
use Rattle.machine.specs.History.{Entry, Making, says, said, is_none, items, making, lives, stays_blocked, spawned_by, spawned_for, running, coroutine_of, first_reply, reply_error}
use Rattle.machine.specs.Delivery.{value_or}
use Rattle.machine.specs.Honest.{Below, item, deeper, spawns, blocks_in, runs_task, SpawnHonest}
use Rattle.machine_laws.specs.Views.{Sized}
use Rattle.machine_laws.specs.StoreLaws.{object-fits, place-fits, header-fits, header_put-object, place_put-other, task_put-other, sized-put_place, sized-set_state, sized-add_log}
use Rattle.machine_laws.specs.DeliveryLaws.{absurd_some, awaited-object, awaited-fits}
use Rattle.machine_laws.specs.TestLaws.{both_left, both_right}
use Rattle.machine_theorems.specs.Soundness.Stores.{SoundStore}
use Rattle.machine_theorems.specs.Soundness.Cycle.{spawned_of}
use Rattle.machine_theorems.specs.Soundness.Exits.{runner_low, runner-runs}
use Rattle.machine_theorems.specs.Soundness.RowFacts.{blocked-live}
use Rattle.machine_sessions.specs.Queue.Tracked.{live_low, blocks_tracked, tracked_commits}
use Rattle.machine_sessions.specs.Waits.CallEvents.{none_first}
use Rattle.machine_sessions.specs.Places.Told.{Frozen, frozen}
use Rattle.machine_sessions.specs.Places.Agrees.{ItemsAt, reply_row, Makes, MadeRight, Agrees}
use Rattle.machine_sessions.specs.Places.TellingAwait.{Row, row_commits}
use Rattle.machine_sessions.specs.Places.Telling.{awaited-turns, state_turns}
use Rattle.machine_sessions.specs.Places.Told.{task_back}
use Rattle.machine_sessions.specs.Honest.Spawned.{Shape, shape, is_used, gather-shape, live_below, same-spawns, spawned_like, state_spawned, spawn-spawned, spawn-log, spawn-object}
use Rattle.machine_sessions.specs.Honest.HonestWalk.{waits_on, Delivers, Switching, Ends, waited, started, woke, raised_it, row-task, wakes-object, wakes-task}
use Rattle.machine_sessions.specs.Honest.HonestLog.{LogRight, Logged, blocked-spawns, row_logged, gather_logged, external_logged, wakes_logged, reuse, logged_delivers, logged_switching, gone_task, gone_object, is_live_now}
use Rattle.machine_sessions.specs.Honest.HonestCommit.{Committing, AwaitEnds, given, refused, inlined, switches, await-walk}
use Rattle.machine_sessions.specs.Honest.HonestEnds.{Left, Leaves, value-plain, raises-plain, StartTold, logged_left, control-plain, inline-left, ends-left}
use Rattle.machine_sessions.specs.Honest.HonestEvents.{Grows, with_delivers, with_switching, ends-map, ends-log, ends-waits, Held, begins_logged}
use Rattle.machine_sessions.specs.Honest.HonestApart.{Away, KidOf, Apart, onward_away, kid_away, apart_like, goes-apart, free-apart, external_apart, closes_apart, state_apart, gone-apart, spawn-apart}

-- ---- items

pub below_more : (h : List Entry) (a b c : ℕ) → Below h a b → is_in c (items h b) ≡ true → Below h a c
below_more h a b c (item _ _ p) q = deeper a b c p (item b c q)
below_more h a b c (deeper _ d _ p k) q = deeper a d c p (below_more h d b c k q)

in_items : (i : ℕ → ℕ) (f : ℕ) (os : List ℕ) → ItemsAt i f os → (j : ℕ) → j < length os → is_in (i (f + j)) os ≡ true
unfolding ItemsAt is_in
in_items i f [] k j l = absurd (not-suc-le-zero {n = 0} (omega (arith, l)))
in_items i f (o ∷ os) k zero l = ap (λ (b : Bool). b || is_in (i (f + 0)) os) (eq-eqb o (i (f + 0)) (sym k.0 ∙ ap i (omega arith)))
in_items i f (o ∷ os) k (suc j) l =
    ap (λ (b : Bool). eqb o (i (f + suc j)) || b) (ap (λ (m : ℕ). is_in (i m) os) (omega arith) ∙ in_items i (f + 1) os k.1 j (omega (arith, l))) ∙ or_true (eqb o (i (f + suc j)))
  where
    or_true : (b : Bool) → (b || true) ≡ true
    or_true true = refl
    or_true false = refl

abbrev IsMany : Frozen → Type 0
IsMany Frozen.unmade = ⊥
IsMany (Frozen.co b) = ⊥
IsMany (Frozen.pends c r) = ⊥
IsMany (Frozen.gave v) = ⊥
IsMany (Frozen.broke e) = ⊥
IsMany (Frozen.many f n) = Unit {0}

abbrev IsGather : Shape → Type 0
IsGather Shape.other = ⊥
IsGather (Shape.new f) = ⊥
IsGather (Shape.used f) = ⊥
IsGather (Shape.many f n) = Unit {0}

reply_not_many : (c : ℕ) (r : OptionValue) (y : Option Result) → IsMany (reply_row c r y) → ⊥
unfolding reply_row
reply_not_many c r none k = k
reply_not_many c r (some y) k = by (eqb y.kind 0) (Frozen.gave (value_or r (to_value y.tag y.number))) (Frozen.broke (reply_error y)) k (λ z. z) (λ z. z)
  where
    by : (b : Bool) (p q : Frozen) → IsMany (pick b p q) → (IsMany p → ⊥) → (IsMany q → ⊥) → ⊥
    by true p q z f g = f z
    by false p q z f g = g z

many_is : (a b c d : ℕ) → Frozen.many a b ≡ Frozen.many c d → (a ≡ c) × (b ≡ d)
many_is a b c d e = (cc, cc)

says-items : (os : List ℕ) → (says (Event.gather os)).items ≡ os
unfolding says
says-items os = refl

-- the items of a gather that was made
makes_items : (e : Event) (since : List Entry) (i : ℕ → ℕ) (f n j : ℕ) → j < n → Makes e since (Frozen.many f n) i → is_in (i (f + j)) (says e).items ≡ true
unfolding Makes
makes_items (Event.coroutine g) since i f n j l k = absurd (subst IsMany k.1 tt)
makes_items Event.call since i f n j l k = absurd k
makes_items (Event.pending c r) since i f n j l k = absurd (reply_not_many c r (first_reply since c) (subst IsMany k tt))
makes_items (Event.settled v) since i f n j l k = absurd (subst IsMany k tt)
makes_items (Event.gather os) since i f n j l k =
    ap (is_in (i (f + j))) (says-items os) ∙ (ap (λ (m : ℕ). is_in (i (m + j)) os) (many_is f n k.0 (length os) k.1).0 ∙ in_items i k.0 os k.2 j (omega (arith, l, (many_is f n k.0 (length os) k.1).1)))
makes_items (Event.await o) since i f n j l k = absurd k
makes_items (Event.complete v) since i f n j l k = absurd k
makes_items (Event.fail m) since i f n j l k = absurd k
makes_items (Event.results rs) since i f n j l k = absurd k
makes_items Event.resume since i f n j l k = absurd k
makes_items (Event.cancel t) since i f n j l k = absurd k
makes_items (Event.show o) since i f n j l k = absurd k
makes_items Event.eager since i f n j l k = absurd k

gather-frozen : (f n : ℕ) (x : GatherState) → frozen (Object.GatherFuture f n x) ≡ Frozen.many f n
unfolding frozen
gather-frozen f n x = refl

shape-frozen : (y : Object) (f n : ℕ) → shape y ≡ Shape.many f n → frozen y ≡ Frozen.many f n
unfolding shape frozen
shape-frozen Object.Unmade f n e = absurd (subst IsGather (sym e) tt)
shape-frozen (Object.Coroutine g CoroutineState.New) f n e = absurd (subst IsGather (sym e) tt)
shape-frozen (Object.Coroutine g CoroutineState.Running) f n e = absurd (subst IsGather (sym e) tt)
shape-frozen (Object.Coroutine g CoroutineState.Completed) f n e = absurd (subst IsGather (sym e) tt)
shape-frozen (Object.ExternalFuture c x) f n e = absurd (subst IsGather (sym e) tt)
shape-frozen (Object.GatherFuture g m x) f n e = cc

made-right : (m : Making) (n o : ℕ) (y : Frozen) (i : ℕ → ℕ) → MadeRight (some m) n o y i → Makes m.event m.since y i
unfolding MadeRight
made-right m n o y i k = k.1

pub gather-items : (h : List Entry) (s : Store) → Agrees h s → (g f n j : ℕ) → shape (object s g) ≡ Shape.many f n → j < n → is_in (place s (f + j)).item.0 (items h g) ≡ true
unfolding items
gather-items h s k g f n j e l = by (making h g) (k.makes g)
  where
    row : frozen (object s g) ≡ Frozen.many f n
    row = shape-frozen (object s g) f n e

    by : (m : Option Making) → MadeRight m (header s).made g (frozen (object s g)) (λ p. (place s p).item.0) → is_in (place s (f + j)).item.0 (elim m [ none ↦ [] | some m ↦ (says m.event).items ]) ≡ true
    by none y = absurd (subst IsMany (sym row ∙ k.behind g (unfold MadeRight in y)) tt)
    by (some m) y = makes_items m.event m.since (λ p. (place s p).item.0) f n j l (subst (λ (z : Frozen). Makes m.event m.since z (λ p. (place s p).item.0)) row (made-right m (header s).made g (frozen (object s g)) (λ p. (place s p).item.0) y))

-- how many places a gather has
abbrev places_of : Shape → ℕ
places_of Shape.other = 0
places_of (Shape.new f) = 0
places_of (Shape.used f) = 0
places_of (Shape.many f n) = n

count-shape : (y : Object) → count_of y ≡ places_of (shape y)
unfolding count_of shape
count-shape Object.Unmade = refl
count-shape (Object.Coroutine g CoroutineState.New) = refl
count-shape (Object.Coroutine g CoroutineState.Running) = refl
count-shape (Object.Coroutine g CoroutineState.Completed) = refl
count-shape (Object.ExternalFuture c x) = refl
count-shape (Object.GatherFuture g m x) = refl

-- ---- the store as it is before

pending-not-committed : (y : Object) → is_pending_gather (kind y) ≡ true → T (is_committed (kind y)) → ⊥
unfolding kind
pending-not-committed Object.Unmade e k = true≢false (sym e)
pending-not-committed (Object.Coroutine f CoroutineState.New) e k = true≢false (sym e)
pending-not-committed (Object.Coroutine f CoroutineState.Running) e k = true≢false (sym e)
pending-not-committed (Object.Coroutine f CoroutineState.Completed) e k = true≢false (sym e)
pending-not-committed (Object.ExternalFuture c (ExternalFutureState.Pending a r)) e k = true≢false (sym e)
pending-not-committed (Object.ExternalFuture c (ExternalFutureState.Resolved v)) e k = true≢false (sym e)
pending-not-committed (Object.ExternalFuture c (ExternalFutureState.Failed x)) e k = true≢false (sym e)
pending-not-committed (Object.GatherFuture f n GatherState.Pending) e k = k
pending-not-committed (Object.GatherFuture f n (GatherState.Awaited a m)) e k = true≢false (sym e)
pending-not-committed (Object.GatherFuture f n GatherState.Completed) e k = true≢false (sym e)
pending-not-committed (Object.GatherFuture f n (GatherState.Failed x)) e k = true≢false (sym e)

-- a coroutine that has no task
drives : (u : Store) (c v : ℕ) → is_live (task u v).state ≡ true → (task u v).coroutine.0 ≡ c → is_task_of c (task u v) ≡ true
unfolding is_task_of
drives u c v lv q = rw (lv, eq-eqb (task u v).coroutine.0 c q)

none_drives : (u : Store) (c : ℕ) → task_of u c ≡ none → (v : ℕ) → 1 ≤ v → v < (header u).next → is_task_of c (task u v) ≡ false
unfolding task_of task_of_in task
none_drives u c n v a b = none_first (λ z. is_task_of c (task_at u.tasks z)) ((header u).next - 1) 1 n v a (omega (arith, a, b))

main_nobody : (hd : Header) (os : ℕ → Object) (r : Task) → T (task_in_range hd os 0 r) → T (is_nobody r.awaiter)
unfolding task_in_range
main_nobody hd os r y = both_left (is_nobody r.awaiter) _ (both_right (not (is_unstarted r.state)) _ y)

module _ (h : List Entry) (s : Store) (w : SoundStore s) (k : Held h s) (ag : Agrees h s) (t : ℕ) (m : (header s).moment ≡ Moment.Running (task_id t)) where
  abbrev N : ℕ → Shape
  N o = shape (object s o)

  -- the gathers that are pending
  abbrev F : ℕ → Bool
  F g = is_pending_gather (kind (object s g))

  runs_now : (task s t).state ≡ TaskState.Running
  runs_now = runner-runs s t w m

  low : t < task_limit
  low = omega (arith, runner_low s t w m, (header-fits s).next_fits)

  -- an awaited gather is made
  awaited-made : (g : ℕ) (v : AwaitedGather) → as_awaited (object s g) ≡ some v → g < (header s).made
  awaited-made g v e = by (leb (header s).made g) refl
    where
      none-there : frozen (object s g) ≡ Frozen.unmade → ⊥
      none-there q = subst IsMany (sym (ap frozen (awaited-object (object s g) v e) ∙ gather-frozen v.first v.count (GatherState.Awaited v.awaiter v.open_places)) ∙ q) tt

      by : (b : Bool) → leb (header s).made g ≡ b → g < (header s).made
      by true q = absurd (none-there (ag.behind g (leb-true (header s).made g q)))
      by false q = leb-false (header s).made g q

  awaited-by : (g : ℕ) (v : AwaitedGather) → as_awaited (object s g) ≡ some v → awaiter_of (object s g) ≡ v.awaiter
  unfolding awaiter_of
  awaited-by g v e = ap awaiter_of (awaited-object (object s g) v e)

  apart-now : Apart t F N s
  unfolding view
  apart-now =
      record {
        pends = λ g e. e;
        tops = λ g v e q. absurd (not-blocked g v e q);
        ups = λ g v p x e q f. absurd (pending-not-committed (object s p.0) f (w.facts.but.object_slots g (awaited-made g v e) (λ z. z) p.0 x.0 (awaited-by g v e ∙ q)).committed);
        kids = λ v b e. kid v b e;
      }
    where
      not-blocked : (g : ℕ) (v : AwaitedGather) → as_awaited (object s g) ≡ some v → v.awaiter ≡ Awaiter.Task (task_id t) → ⊥
      not-blocked g v e q =
          let z = w.facts.but.awaited g (awaited-made g v e) (λ z. z) t (awaited-by g v e ∙ q) (subst T (sym (ap is_live runs_now)) tt) in
          absurd_some (sym (ap Rattle.machine.specs.Scheduler.blocked_on runs_now ∙ (unfold Rattle.machine.specs.Scheduler.blocked_on in refl)) ∙ z)

      below : (v : ℕ) → v < task_limit → is_live (task s v).state ≡ true → v < (header s).next
      below v b e = live_below (spawned_for h) (coroutine_of h) (spawns h) N s v b e k.spawns_are

      kid-by : (v : ℕ) → suc v < (header s).next → is_live (task s (suc v)).state ≡ true → (a : Awaiter) → (task s (suc v)).awaiter ≡ a → T (is_slot a) → KidOf F a (N (task s (suc v)).coroutine.0)
      kid-by v b e Awaiter.Nobody q y = tt
      kid-by v b e (Awaiter.Task u) q y = (unfold is_slot in y)
      kid-by v b e (Awaiter.GatherSlot p x) q y = λ f.
          absurd (pending-not-committed (object s p.0) f (w.facts.but.task_slots (suc v) b (subst T (sym e) tt) p.0 x.0 q).committed)

      main-kid : (a : Awaiter) → T (is_nobody a) → KidOf F a (N (task s 0).coroutine.0)
      main-kid Awaiter.Nobody y = tt
      main-kid (Awaiter.Task u) y = absurd y
      main-kid (Awaiter.GatherSlot p x) y = absurd y

      kid : (v : ℕ) → v < task_limit → is_live (task s v).state ≡ true → KidOf F (task s v).awaiter (N (task s v).coroutine.0)
      kid zero b e = main-kid (task s 0).awaiter (main_nobody (header s) (object s) (task s 0) (w.facts.but.tasks 0 (below 0 b e)))
      kid (suc v) b e = kid-by v (below (suc v) b e) e (task s (suc v)).awaiter refl (spawned_of v w.facts.but (below (suc v) b e) (subst T (sym e) tt)).slot

  -- ---- the commit

  module _ (x : Entry) (o : ℕ) (rn : running h ≡ some t) (aw : (said x).awaits ≡ some o) where
    abbrev L : Store → Type 0
    L u = Logged h x N u

    -- until t blocks
    record J (u : Store) : Type 0 where
      logged : L u
      row : Row t (task s t) (Moment.Running (task_id t)) u
      items_stay : (p : ℕ) → (place u p).item.0 ≡ (place s p).item.0
      apart : Apart t F N u
      quiet : blocks_in u.log t ≡ false

    abbrev P : ℕ → Type 0
    P g = (g ≡ o) ⊎ Below h o g

    abbrev Q : ℕ → Type 0
    Q c = Below h o c

    -- a gather that is awaited has its places as at its making
    its_shape : (u : Store) (g : ℕ) (v : AwaitedGather) → as_awaited (object u g) ≡ some v → J u → N g ≡ Shape.many v.first v.count
    unfolding shape
    its_shape u g v e j = sym (j.logged.spawns_are.rows g) ∙ ap shape (awaited-object (object u g) v e)

    downs : (u : Store) (g i : ℕ) (v : AwaitedGather) → as_awaited (object u g) ≡ some v → i < places_of (N g) → P g → J u → Q (place u (v.first + i)).item.0
    downs u g i v e l p j = subst Q (sym (j.items_stay (v.first + i))) (by p)
      where
        there : is_in (place s (v.first + i)).item.0 (items h g) ≡ true
        there = gather-items h s ag g v.first v.count i (its_shape u g v e j) (omega (arith, l, ap places_of (its_shape u g v e j)))

        by : P g → Q (place s (v.first + i)).item.0
        by (inl q) = item o _ (subst (λ (n : ℕ). is_in (place s (v.first + i)).item.0 (items h n) ≡ true) q there)
        by (inr b) = below_more h o g _ b there

    -- an object's row
    object-kept : (u : Store) (g : ℕ) (y : Object) → Turns (object u g) y → g < object_limit → L (put_object u g y) → Apart t F N (put_object u g y) → J u → J (put_object u g y)
    object-kept u g y tn l lg ap j =
        record {
          logged = lg;
          row = (row_commits t (task s t) (Moment.Running (task_id t))).row u g y l tn j.row;
          items_stay = λ p. unfold place put_object in (unfold place in (j.items_stay p));
          apart = ap;
          quiet = unfold put_object in j.quiet;
        }

    sized_of : (u : Store) → J u → Sized u
    sized_of u j = j.logged.tracked.sized

    -- a gather's state
    state-logged : (u : Store) (g : ℕ) (y : GatherState) → g < object_limit → J u → L (put_object u g (with_state (object u g) y))
    state-logged u g y l j = row_logged h x N u g _ l (by (object u g) refl) j.logged
      where
        by : (z : Object) → object u g ≡ z → shape (to_object (object_words (with_state z y))) ≡ N g
        by Object.Unmade e = unfold with_state in (ap shape (object_back Object.Unmade tt) ∙ (sym (ap shape e) ∙ j.logged.spawns_are.rows g))
        by (Object.Coroutine f c) e = unfold with_state in (ap shape (object_back _ (subst ObjectFits e (object-fits u g))) ∙ (sym (ap shape e) ∙ j.logged.spawns_are.rows g))
        by (Object.ExternalFuture c z) e = unfold with_state in (ap shape (object_back _ (subst ObjectFits e (object-fits u g))) ∙ (sym (ap shape e) ∙ j.logged.spawns_are.rows g))
        by (Object.GatherFuture f n z) e = unfold with_state in (gather-shape f n y (subst ObjectFits e (object-fits u g)).0 ∙ (sym (ap shape e ∙ gather-is f n z) ∙ j.logged.spawns_are.rows g))
          where
            gather-is : (f n : ℕ) (z : GatherState) → shape (Object.GatherFuture f n z) ≡ Shape.many f n
            gather-is f n z = unfold shape in refl

    -- a place is filled
    item_back : (u : Store) (p : ℕ) (r : Place) → Sized u → p < place_limit → r.item.0 < object_limit → (place (put_place u p r) p).item.0 ≡ r.item.0
    unfolding place put_place place_at place_put
    item_back u p r z l f = ap (λ (y : List ℕ). (to_place y).item.0) (row-put_at place_codec u.places (place_start p) r (omega (arith, z.places_sized, l))) ∙ mod-eq_of_lt f

    fills-kept : (u : Store) (g i : ℕ) (v : AwaitedGather) (a : Value) → as_awaited (object u g) ≡ some v → i < places_of (N g) → J u → J (fill_place u v i a)
    unfolding fill_place
    fills-kept u g i v a e l j =
        record {
          logged = record {
            tracked = (tracked_commits (lives h) (stays_blocked h)).value_put u p a j.logged.tracked;
            spawns_are =
                spawned_like (spawned_for h) (coroutine_of h) (spawns h) N u (put_place u p r) (sized-put_place u p r (sized_of u j)) (same-spawns (spawned_for h) u _ (unfold put_place in refl)) (unfold header put_place in refl)
                (λ y. unfold object put_place in (unfold object in (j.logged.spawns_are.rows y))) (λ y. unfold task put_place in refl) j.logged.spawns_are;
            log_right = unfold put_place in j.logged.log_right;
          };
          row = (row_commits t (task s t) (Moment.Running (task_id t))).value_put u p a j.row;
          items_stay = λ y. by y (ℕ_discrete y p);
          apart = apart_like t F N u (put_place u p r) (λ y. unfold object put_place in refl) (λ y. unfold task put_place in refl) j.apart;
          quiet = unfold put_place in j.quiet;
        }
      where
        p : ℕ
        p = v.first + i

        r : Place
        r = record { item = (place u (v.first + i)).item; result = Some a }

        room : p < place_limit
        room = omega (arith, (awaited-fits u g v e).0.within, l, ap places_of (its_shape u g v e j))

        by : (y : ℕ) → Dec (y ≡ p) → (place (put_place u p r) y).item.0 ≡ (place s y).item.0
        by y (yes q) = subst (λ (n : ℕ). (place (put_place u p r) n).item.0 ≡ (place s n).item.0) (sym q) (item_back u p r (sized_of u j) room (place-fits u p).item_fits ∙ j.items_stay p)
        by y (no ne) = ap (λ (z : Place). z.item.0) (place_put-other u p y r ne) ∙ j.items_stay y

    -- a task is spawned: nobody was spawned for its coroutine before
    spawn-honest : (u : Store) (c f : ℕ) → object u c ≡ Object.Coroutine f CoroutineState.New → task_of u c ≡ none → Q c → J u → SpawnHonest h x u.log (header u).next c
    unfolding shape
    spawn-honest u c f e n q j =
        record {
          awaited = o;
          awaits = aw;
          below = q;
          function = f;
          coroutine = k.origins.made_by c f is_new;
          new = k.origins.named_is c ∙ ap is_used is_new;
          first = λ v y. nobody v y;
          number = j.logged.spawns_are.next;
        }
      where
        is_new : N c ≡ Shape.new f
        is_new = sym (j.logged.spawns_are.rows c) ∙ ap shape e

        nobody : (v : ℕ) → spawned_by (spawned_for h v) u.log v ≡ some c → ⊥
        nobody zero y = absurd_some (sym j.logged.spawns_are.not_main ∙ y)
        nobody (suc v) y =
            let lv : live u (suc v) ≡ true = j.logged.spawns_are.first (suc v) c f y is_new in
            let b = live_low u (suc v) lv in
            let its : (task u (suc v)).coroutine.0 ≡ c = some-injective _ c (sym (j.logged.spawns_are.tasks v b.0 b.1).origin ∙ y) in
            true≢false (sym (drives u c (suc v) b.1 its) ∙ none_drives u c n (suc v) (omega arith) b.0)

    spawns-kept : (u : Store) (c g f : ℕ) → (header u).next < task_limit → c < object_limit → object u c ≡ Object.Coroutine f CoroutineState.New → task_of u c ≡ none → Q c → J u → J (spawn_as u (header u).next c g)
    unfolding shape
    spawns-kept u c g f l lc e n q j =
        record {
          logged = record {
            tracked = (tracked_commits (lives h) (stays_blocked h)).spawns u c g l j.logged.tracked;
            spawns_are = spawn-spawned (spawned_for h) (coroutine_of h) (spawns h) N u c g f l lc is_new j.logged.spawns_are;
            log_right = subst (LogRight h x) (sym (spawn-log u (header u).next c g)) (unfold LogRight in (spawn-honest u c f e n q j, j.logged.log_right));
          };
          row = (row_commits t (task s t) (Moment.Running (task_id t))).spawns u c g l j.row;
          items_stay = λ p. same_place p ∙ j.items_stay p;
          apart = spawn-apart t F N u c g f (sized_of u j) l lc is_new (λ y. spawn-object u (header u).next c g y) j.apart;
          quiet = ap (λ (y : List LogEntry). blocks_in y t) (spawn-log u (header u).next c g) ∙ (unfold blocks_in in j.quiet);
        }
      where
        is_new : N c ≡ Shape.new f
        is_new = sym (j.logged.spawns_are.rows c) ∙ ap shape e

        same_place : (p : ℕ) → (place (spawn_as u (header u).next c g) p).item.0 ≡ (place u p).item.0
        same_place p = unfold spawn_as Rattle.machine.specs.Scheduler.push_ready add_log put_queue Rattle.machine.specs.Store.set_next Rattle.machine.specs.Store.put_header put_task place in refl

    pending-free : (u : Store) (g f n : ℕ) → object u g ≡ Object.GatherFuture f n GatherState.Pending → J u → F g ≡ true
    unfolding kind
    pending-free u g f n e j = j.apart.pends g (ap (λ (y : Object). is_pending_gather (kind y)) e)

    committing : Committing J P Q (λ g. places_of (N g))
    unfolding set_gather
    committing =
        record {
          counts = λ u g j. count-shape (object u g) ∙ ap places_of (j.logged.spawns_are.rows g);
          down = downs;
          nest = λ c q. inr q;
          takes = λ u y c r a l e j.
              object-kept u y _ (subst (λ (z : Object). Turns z (Object.ExternalFuture c (ExternalFutureState.Pending a r))) (sym e) (takes c r a)) l
              (external_logged h x N u y _ c l (sym (j.logged.spawns_are.rows y) ∙ ap-shape u y c _ e) j.logged) (external_apart t F N u y c _ (sized_of u j) l j.apart) j;
          spawns = spawns-kept;
          fills = fills-kept;
          widens = λ u g n v l e j.
              object-kept u g _ (awaited-turns (object u g) v (GatherState.Awaited v.awaiter n) e) l (gather_logged h x N u g v _ l e j.logged) (goes-apart t F N u g v _ (sized_of u j) l e (waits_on n) j.apart) j;
          opens = λ u g f n a l e j. object-kept u g _ (state_turns (object u g) (GatherState.Awaited a 0)) l (state-logged u g (GatherState.Awaited a 0) l j) (free-apart t F N u g _ (sized_of u j) l (pending-free u g f n e j) j.apart) j;
          closes = λ u g y l c j. object-kept u g _ (state_turns (object u g) y) l (state-logged u g y l j) (closes_apart t F N u g y (sized_of u j) l c j.apart) j;
        }
      where
        ap-shape : (u : Store) (y : ℕ) (c : CallId) (z : ExternalFutureState) → object u y ≡ Object.ExternalFuture c z → shape (object u y) ≡ Shape.other
        ap-shape u y c z e = unfold shape in (ap shape e)

    -- ---- from where t blocks on

    -- t is blocked still
    record K (u : Store) : Type 0 where
      logged : L u
      apart : Apart t F N u
      stuck : is_blocked (task u t).state ≡ true

    abbrev G : List LogEntry → Type 0
    G l = blocks_in l t ≡ true

    blocks-grow : Grows G
    unfolding blocks_in
    blocks-grow = record { by_reached = λ l v e. e; by_exited = λ l v e. e }

    wakes-kept : (u : Store) (v : ℕ) (y : TaskState) → v < task_limit → (v ≡ t → ⊥) → is_blocked (task u v).state ≡ true → is_ready y ≡ true → is_unstarted y ≡ false → K u → K (add_log (make_ready u v y) (reached v))
    wakes-kept u v y l ne b r n j =
        record {
          logged = wakes_logged h x N u v y l b r n j.logged;
          apart = state_apart t F N u _ v y j.logged.tracked.sized l (blocked-live (task u v).state b) (λ z. wakes-object u v y z) (λ z. wakes-task u v y z) j.apart;
          stuck = ap (λ (z : Task). is_blocked z.state) (wakes-task u v y t ∙ task_put-other u v t _ (λ q. ne (sym q))) ∙ j.stuck;
        }

    kept-delivers : Delivers K (Away t F)
    kept-delivers =
        record {
          sized = λ u j. j.logged.tracked.sized;
          row = λ u g v y l e go j.
              record {
                logged = gather_logged h x N u g v y l e j.logged;
                apart = goes-apart t F N u g v y j.logged.tracked.sized l e go j.apart;
                stuck = ap (λ (z : Task). is_blocked z.state) (row-task u g _ t) ∙ j.stuck;
              };
          values_put = λ u ps e j.
              record {
                logged = (logged_delivers h x N).values_put u ps e j.logged;
                apart = apart_like t F N u (put_places u ps) (λ y. unfold object put_places in refl) (λ y. unfold task put_places in refl) j.apart;
                stuck = unfold task put_places in (unfold task in j.stuck);
              };
          wakes = λ u v y l a b r n j. wakes-kept u v.0 y l a b r n j;
          onward = λ u g y v e a j. onward_away t F N u g y v e a j.apart;
        }

    kept-switching : Switching K (Away t F)
    kept-switching =
        record {
          queued = λ u q j.
              record {
                logged = (logged_switching h x N k.origins).queued u q j.logged;
                apart = apart_like t F N u (put_queue u q) (λ y. unfold object put_queue in refl) (λ y. unfold task put_queue in refl) j.apart;
                stuck = unfold task put_queue in (unfold task in j.stuck);
              };
          sent_to = λ u v l e n j. kid_away t F N (task u v).awaiter (N (task u v).coroutine.0) (reuse h x N k.origins u v l e n j.logged).1 (j.apart.kids v l (ap is_live e));
          exits = λ u v l e n j.
              record {
                logged = (logged_switching h x N k.origins).exits u v l e n j.logged;
                apart = gone-apart t F N u _ v j.logged.tracked.sized (λ y. gone_object u v (exited v) y) (λ y. gone_task u v (exited v) y) j.apart;
                stuck = ap (λ (z : Task). is_blocked z.state) (gone_task u v (exited v) t ∙ task_put-other u v t _ (λ q. true≢false (sym j.stuck ∙ (ap (λ (p : ℕ). is_blocked (task u p).state) q ∙ ap is_blocked e)))) ∙ j.stuck;
              };
        }

    -- t, running, as it is until it blocks
    row_of : (u : Store) → J u → (task u t).state ≡ TaskState.Running
    row_of u j = ap (λ (r : Task). r.state) j.row.row ∙ runs_now

    live_of : (u : Store) → J u → live u t ≡ true
    live_of u j = is_live_now h x N u t low (ap is_live (row_of u j)) j.logged

    abbrev After : Store → Type 0
    After u = K u × G u.log

    blocks-kept : (u : Store) → J u → After (add_log (set_state u t (TaskState.Blocked (heap_id o))) (blocked t))
    blocks-kept u j = (record { logged = lg; apart = state_apart t F N u b t y (sized_of u j) low (ap is_live (row_of u j)) same_object same-task j.apart; stuck = is_stuck }, ap (λ (l : List LogEntry). blocks_in l t) log_is ∙ now)
      where
        y : TaskState
        y = TaskState.Blocked (heap_id o)

        b : Store
        b = add_log (set_state u t y) (blocked t)

        log_is : b.log ≡ blocked t ∷ u.log
        log_is = unfold add_log set_state put_task in refl

        now : blocks_in (blocked t ∷ u.log) t ≡ true
        now = unfold blocks_in in (ap (λ (c : Bool). c || blocks_in u.log t) (eq-eqb t t refl))

        same_object : (p : ℕ) → object b p ≡ object u p
        same_object p = unfold add_log set_state put_task object in refl

        same-task : (v : ℕ) → task b v ≡ task (put_task u t (restate (task u t) y)) v
        same-task v = unfold add_log set_state task in refl

        is_stuck : is_blocked (task b t).state ≡ true
        is_stuck = ap (λ (r : Task). is_blocked r.state) (same-task t ∙ task_back u t (restate (task u t) y) (sized_of u j) low) ∙ (unfold restate in refl)

        awaits-it : is_none (said x).awaits ≡ false
        awaits-it = ap is_none aw ∙ (unfold is_none in refl)

        lg : L b
        lg =
            record {
              tracked = blocks_tracked (lives h) (stays_blocked h) u t o (live_of u j) j.logged.tracked;
              spawns_are =
                  state_spawned (spawned_for h) (coroutine_of h) (spawns h) N u t y b low (ap is_live (row_of u j)) (ap is_unstarted (row_of u j)) refl refl (sized-add_log _ (blocked t) (sized-set_state u t y (sized_of u j)))
                  (blocked-spawns (spawned_for h) u b t log_is) (unfold add_log set_state put_task header in refl) same_object same-task j.logged.spawns_are;
              log_right = subst (LogRight h x) (sym log_is) (unfold LogRight in ((awaits-it, rn), j.logged.log_right));
            }

    at_first : J s
    at_first =
        record {
          logged = begins_logged h s w k x;
          row = record { sized = w.memory.sized; low = runner_low s t w m; row = refl; moment = m };
          items_stay = λ p. refl;
          apart = apart-now;
          quiet = ap (λ (l : List LogEntry). blocks_in l t) k.empty_log ∙ (unfold blocks_in in refl);
        }

    -- ---- how the await ends

    module _ (made : o < (header s).made) where
      abbrev y : Awaited
      y = exec_get_awaitable s t o

      is_made : object s o ≡ Object.Unmade → ⊥
      unfolding view object_in_range
      is_made e = subst (λ (z : Object). T (object_in_range (header s) (places_below (object s) o) z)) e (w.facts.but.objects o made)

      o-low : o < object_limit
      o-low = omega (arith, made, (header-fits s).made_fits)

      ends : AwaitEnds J After t o y
      ends =
          await-walk J After (Away t F) P Q (λ g. places_of (N g)) committing (with_delivers K (Away t F) G blocks-grow kept-delivers) (with_switching K (Away t F) G blocks-grow kept-switching) t o o-low (inl refl)
          blocks-kept s is_made at_first

      abbrev LeftBy : Awaited → Type 0
      LeftBy z = Leaves x (some z.control) z.store → Left h x z.store

      left_by : (z : Awaited) → AwaitEnds J After t o z → LeftBy z
      left_by z (given u v n j e) = subst LeftBy (sym e) (by)
        where
          by : LeftBy (stays u t (value v) n)
          by = unfold stays in (λ l. logged_left h x N k.origins u _ l (value-plain t v) (control-plain h x N k.origins u t (value v) (live_of u j) (ap is_blocked (row_of u j)) (unfold StartTold in tt) j.logged) j.logged)
      left_by z (refused u v n j e) = subst LeftBy (sym e) (by)
        where
          by : LeftBy (stays u t (raises v) n)
          by = unfold stays in (λ l. logged_left h x N k.origins u _ l (raises-plain t v) (control-plain h x N k.origins u t (raises v) (live_of u j) (ap is_blocked (row_of u j)) (unfold StartTold in tt) j.logged) j.logged)
      left_by z (inlined u f j r e) = subst LeftBy (sym e) (by)
        where
          by : LeftBy (stays (put_object u o (Object.Coroutine f CoroutineState.Running)) t (inline o) 0)
          by = unfold stays in (λ l. inline-left h x N k.origins u o f o-low r j.logged t l (live_of u j) (ap is_blocked (row_of u j)) aw rn)
      left_by z (switches q en st ct) = λ l.
          subst (Left h x) (sym st) (ends-left h x N k.origins q (ends-map After L (λ u j. j.0.logged) q en)
          (record { happens = l.happens ∙ ap (λ (u : Store). u.log) st; controls = l.controls ∙ ap (λ (c : Control). some c) ct; makes_none = l.makes_none }))

      pub await-left : LeftBy y
      await-left l = left_by y ends l

      -- t blocks exactly where it has not control afterwards
      abbrev BlocksBy : Awaited → Type 0
      BlocksBy z = blocks_in z.store.log t ≡ not (runs_task (some z.control) t)

      abbrev SwitchBlocks : Switched → Type 0
      SwitchBlocks q = runs_task (some q.control) t ≡ false

      not_t : (u : Store) (v : ℕ) (a : How) → is_blocked (task u v).state ≡ false → After u → runs_task (some (runs v a)) t ≡ false
      unfolding runs_task
      not_t u v a b j = ne_eqb v t (λ q. true≢false (sym j.0.stuck ∙ subst (λ (p : ℕ). is_blocked (task u p).state ≡ false) q b))

      leaves_by : (q : Switched) → Ends After q → SwitchBlocks q
      leaves_by q (waited u j e) = subst SwitchBlocks (sym e) (unfold Rattle.machine.specs.Events.yield runs_task in refl)
      leaves_by q (started u v f l j st n e) = subst SwitchBlocks (sym e) (unfold Rattle.machine.specs.Events.run in (not_t u v _ (ap is_blocked st) j))
      leaves_by q (woke u v a l j st e) = subst SwitchBlocks (sym e) (unfold Rattle.machine.specs.Events.run in (not_t u v _ (ap is_blocked st) j))
      leaves_by q (raised_it u v a l j st e) = subst SwitchBlocks (sym e) (unfold Rattle.machine.specs.Events.run in (not_t u v _ (ap is_blocked st) j))

      t-runs : (a : How) → not (runs_task (some (runs t a)) t) ≡ false
      t-runs a = unfold runs_task in (ap not (eq-eqb t t refl))

      blocks-by : (z : Awaited) → AwaitEnds J After t o z → BlocksBy z
      blocks-by z (given u v n j e) = subst BlocksBy (sym e) (unfold stays in (j.quiet ∙ sym (t-runs (value v))))
      blocks-by z (refused u v n j e) = subst BlocksBy (sym e) (unfold stays in (j.quiet ∙ sym (t-runs (raises v))))
      blocks-by z (inlined u f j r e) = subst BlocksBy (sym e) (unfold stays put_object in (j.quiet ∙ sym (t-runs (inline o))))
      blocks-by z (switches q en st ct) =
          ap (λ (u : Store). blocks_in u.log t) st ∙ (ends-log After G (λ u j. j.1) q en ∙ sym (ap (λ (c : Control). not (runs_task (some c) t)) ct ∙ ap not (leaves_by q en)))

      pub await_blocks : BlocksBy y
      await_blocks = blocks-by y ends

      -- in waiting, the answer is a wait
      abbrev WaitsBy : Awaited → Type 0
      WaitsBy z = (header z.store).moment ≡ Moment.Waiting → (cs : List ℕ) × (z.control ≡ waits cs)

      not-waiting : {A : Type 0} (u : Store) → (header u).moment ≡ Moment.Running (task_id t) → (header u).moment ≡ Moment.Waiting → A
      not-waiting u e q = let c : ◌≡◌ {A = ℕ} 0 1 = cc in absurd (omega arith)

      waits_by : (z : Awaited) → AwaitEnds J After t o z → WaitsBy z
      waits_by z (given u v n j e) = subst WaitsBy (sym e) (unfold stays in (λ q. not-waiting u j.row.moment q))
      waits_by z (refused u v n j e) = subst WaitsBy (sym e) (unfold stays in (λ q. not-waiting u j.row.moment q))
      waits_by z (inlined u f j r e) =
          subst WaitsBy (sym e) (unfold stays in (λ q. not-waiting u j.row.moment (sym (ap (λ (c : Header). c.moment) (header_put-object u o (Object.Coroutine f CoroutineState.Running))) ∙ q)))
      waits_by z (switches q en st ct) = λ mo.
          let c = ends-waits After (λ u j. j.0.logged.tracked.sized) q en (sym (ap (λ (u : Store). (header u).moment) st) ∙ mo) in (c.0, ct ∙ c.1)

      pub await-waits : WaitsBy y
      await-waits = waits_by y ends
