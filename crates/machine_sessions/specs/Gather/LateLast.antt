-- A gather that fails with coroutine-reuse in an event: none of its items has come to another error in it.
use Rattle.std.specs.Prelude.{◌≡◌, Bool, true, false, List, [], ◌∷◌, ◌⊎◌, ℕ, suc, ◌+◌, ◌≤◌, ◌<◌, length}
use Rattle.std.proofs.Math.Path.{refl}
use Rattle.std.proofs.Common.{sym, ap, subst, ◌∙◌, true≢false, inl, inr, arith}
use Rattle.std.proofs.Math.Option.{Option, none, some}
use Rattle.std.proofs.Math.Decide.{ℕ_discrete}
use Rattle.asyncio.specs.declared.Value.{Value}
use Rattle.asyncio.specs.declared.Error.{Error}
use Rattle.asyncio.specs.declared.Awaiter.{Awaiter}
use Rattle.asyncio.specs.declared.GatherState.{GatherState}
use Rattle.asyncio.specs.declared.Object.{Object}
use Rattle.asyncio.specs.Numbers.{heap_id}
use Rattle.asyncio.specs.Parts.{first_of, count_of}
use Rattle.asyncio.specs.States.{is_live}
use Rattle.machine.specs.Store.{Store, task, object, place, header, forget}
use Rattle.machine.specs.Scheduler.{AwaitedGather, PendingExternal, as_awaited, as_pending}
use Rattle.machine.specs.Machine.{Event, Step, Shown, shown, refusal, accept, step}
use Rattle.machine.specs.Sound.{is_ended}
use Rattle.machine.specs.Tests.{is_in}
use Rattle.machine.specs.History.{Entry, spawned_for, running_coroutine, items, outcome}
use Rattle.machine.specs.Sessions.{Sent, InRange, AllSentInRange, lent_any, send, session}
use Rattle.machine.specs.DemandThree.{look}
use Rattle.machine_laws.specs.DeliveryLaws.{absurd_some, awaited-object, pending-object}
use Rattle.machine_laws.specs.MachineLaws.{accepted-step, refused-step}
use Rattle.machine_laws.specs.SoundLaws.{refusal-forget}
use Rattle.machine_theorems.specs.Soundness.Stores.{SoundStore}
use Rattle.machine_theorems.specs.Soundness.Sessions.{forget_sound_store}
use Rattle.machine_theorems.specs.Soundness.Exits.{runner-runs}
use Rattle.machine_sessions.specs.Queue.Following.{Sends, stepped, short, sends, send_following, session_follows}
use Rattle.machine_sessions.specs.Places.Agrees.{ItemsAt, Agrees}
use Rattle.machine_sessions.specs.Places.AgreesEvents.{forget_agrees}
use Rattle.machine_sessions.specs.Places.AgreesSessions.{session_agrees}
use Rattle.machine_sessions.specs.Places.PlacesHold.{nothing_open}
use Rattle.machine_sessions.specs.Stall.NoStall.{Source, by_external, by_gather, by_nobody, by_task}
use Rattle.machine_sessions.specs.Stall.SourcedClimb.{apart}
use Rattle.machine_sessions.specs.Stall.TaskLog.{any_coroutine}
use Rattle.machine_sessions.specs.Stall.GoesOn.{ended_reads}
use Rattle.machine_sessions.specs.Stall.Waiting.{Lost, Alive, slot_task}
use Rattle.machine_sessions.specs.Stall.WaitingEvents.{ran}
use Rattle.machine_sessions.specs.Stall.WaitingSessions.{forget-alive, session-waits}
use Rattle.machine_sessions.specs.Gather.Arrivals.{in_cons}
use Rattle.machine_sessions.specs.Gather.Failing.{failed-awaited}
use Rattle.machine_sessions.specs.Gather.FailingSessions.{look-row, row-awaited, row-pending, row-failed, gather-list, awaited-many, IsAwaited, IsPending, IsFailed}
use Rattle.machine_sessions.specs.Gather.OwnFirst.{LateFails, accept-late}

-- ---- rows, by what is shown

awaited-row : (s : Store) (g : ℕ) (vs : List (Option Value)) → SoundStore s → look s g ≡ Shown.a_gather_awaited vs → (g < (header s).made) × ((v : AwaitedGather) × (as_awaited (object s g) ≡ some v))
awaited-row s g vs w e = by (look-row s g w)
  where
    by : ((g < (header s).made) × (look s g ≡ shown s (object s g))) ⊎ (((header s).made ≤ g) × (look s g ≡ Shown.nothing)) → (g < (header s).made) × ((v : AwaitedGather) × (as_awaited (object s g) ≡ some v))
    by (inl b) = (b.0, row-awaited s (object s g) (subst IsAwaited (sym (sym b.1 ∙ e)) tt))
    by (inr b) = absurd (subst IsAwaited (sym e ∙ b.1) tt)

pending-row : (s : Store) (g : ℕ) → SoundStore s → look s g ≡ Shown.a_gather_pending → (f : ℕ) × (n : ℕ) × (object s g ≡ Object.GatherFuture f n GatherState.Pending)
pending-row s g w e = by (look-row s g w)
  where
    by : ((g < (header s).made) × (look s g ≡ shown s (object s g))) ⊎ (((header s).made ≤ g) × (look s g ≡ Shown.nothing)) → (f : ℕ) × (n : ℕ) × (object s g ≡ Object.GatherFuture f n GatherState.Pending)
    by (inl b) = row-pending s (object s g) (subst IsPending (sym (sym b.1 ∙ e)) tt)
    by (inr b) = absurd (subst IsPending (sym e ∙ b.1) tt)

failed_row : (s : Store) (g : ℕ) (r : Error) → SoundStore s → look s g ≡ Shown.a_gather_failed r → (f : ℕ) × (n : ℕ) × (object s g ≡ Object.GatherFuture f n (GatherState.Failed r))
failed_row s g r w e = by (look-row s g w)
  where
    by : ((g < (header s).made) × (look s g ≡ shown s (object s g))) ⊎ (((header s).made ≤ g) × (look s g ≡ Shown.nothing)) → (f : ℕ) × (n : ℕ) × (object s g ≡ Object.GatherFuture f n (GatherState.Failed r))
    by (inl b) = row-failed s (object s g) r (sym b.1 ∙ e)
    by (inr b) = absurd (subst IsFailed (sym e ∙ b.1) tt)

-- ---- an item's place

-- a named item stands in a place
in_places : (i : ℕ → ℕ) (f : ℕ) (os : List ℕ) (o : ℕ) → ItemsAt i f os → is_in o os ≡ true → (a : ℕ) × (a < length os) × (i (f + a) ≡ o)
unfolding ItemsAt is_in
in_places i f [] o k e = absurd (true≢false (sym e))
in_places i f (p ∷ os) o k e = by (in_cons o p os e) (λ j. in_places i (f + 1) os o k.1 j)
  where
    Found : ℕ → List ℕ → Type 0
    Found c ps = (a : ℕ) × (a < length ps) × (i (c + a) ≡ o)

    by : (p ≡ o) ⊎ (is_in o os ≡ true) → (is_in o os ≡ true → Found (f + 1) os) → Found f (p ∷ os)
    by (inl q) go = (0, omega arith, subst (λ (c : ℕ). i c ≡ o) (zero_more f) (k.0 ∙ q))
      where
        zero_more : (f : ℕ) → f ≡ f + 0
        zero_more f = omega arith
    by (inr j) go = let x = go j in (suc x.0, omega (arith, x.1), subst (λ (c : ℕ). i c ≡ o) (one_more f x.0) x.2)
      where
        one_more : (f a : ℕ) → f + 1 + a ≡ f + suc a
        one_more f a = omega arith

-- gather g is awaited, and its place `at` names o
pub record InPlace (s : Store) (g o : ℕ) : Type 0 where
  pub row : AwaitedGather
  pub made : g < (header s).made
  pub awaited : as_awaited (object s g) ≡ some row
  pub at : ℕ
  pub under : at < row.count
  pub names : (place s (row.first + at)).item.0 ≡ o

pub item-place : (h : List Entry) (s : Store) → SoundStore s → Agrees h s → (g o : ℕ) (vs : List (Option Value)) → look s g ≡ Shown.a_gather_awaited vs → is_in o (items h g) ≡ true → InPlace s g o
item-place h s w ag g o vs e z =
    let b = awaited-row s g vs w e in
    let v : AwaitedGather = b.1.0 in
    let row : object s g ≡ Object.GatherFuture v.first v.count (GatherState.Awaited v.awaiter v.open_places) = awaited-object (object s g) v b.1.1 in
    let m = gather-list h s ag g (first_of (object s g)) (count_of (object s g)) b.0 (awaited-many (object s g) v b.1.1) in
    let a = in_places (λ p. (place s p).item.0) (first_of (object s g)) (items h g) o m.1 z in
    record {
      row = v;
      made = b.0;
      awaited = b.1.1;
      at = a.0;
      under = subst (λ (n : ℕ). a.0 < n) (sym m.0 ∙ count-is row) a.1;
      names = ap (λ (f : ℕ). (place s (f + a.0)).item.0) (sym (first_is row)) ∙ a.2;
    }
  where
    count-is : {x : Object} {f n : ℕ} {y : GatherState} → x ≡ Object.GatherFuture f n y → count_of x ≡ n
    count-is q = ap count_of q ∙ (unfold count_of in refl)

    first_is : {x : Object} {f n : ℕ} {y : GatherState} → x ≡ Object.GatherFuture f n y → first_of x ≡ f
    first_is q = ap first_of q ∙ (unfold first_of in refl)

-- ---- what an open place waits for

module _ (h : List Entry) (s : Store) (w : SoundStore s) (ag : Agrees h s) (clean : s.log ≡ []) (k : Alive h s) (g o : ℕ) where
  -- for a coroutine, whose task brings it there while it lives; for an external; for a gather
  data Waits : Type 0 where
    for-task : (t : ℕ) → spawned_for h t ≡ some o → (is_live (task s t).state ≡ true → (task s t).awaiter ≡ Awaiter.GatherSlot (heap_id g) (heap_id o)) → Waits
    for-external : (p : PendingExternal) → as_pending (object s o) ≡ some p → Waits
    for-gather : (v : AwaitedGather) → as_awaited (object s o) ≡ some v → v.awaiter ≡ Awaiter.GatherSlot (heap_id g) (heap_id o) → Waits

  waits_for : Source (Lost h s) s g o → Waits
  waits_for (by_external p e a) = for-external p e
  waits_for (by_gather v e a) = for-gather v e a
  waits_for (by_nobody y) = for-task y.its_task y.spawned (λ lv. absurd (true≢false (sym lv ∙ y.gone.dead)))
  waits_for (by_task t l lv a) = for-task t (slot_task h s w k t g o l lv a) (λ z. a)

  -- a task's object is a coroutine
  no-external : {A : Type 0} (t : ℕ) (p : PendingExternal) → spawned_for h t ≡ some o → as_pending (object s o) ≡ some p → A
  no-external t p e q = absurd (true≢false (sym (k.tasks.coroutines t o e) ∙ (ap any_coroutine (pending-object (object s o) p q) ∙ (unfold any_coroutine in refl))))

  no-gather : {A : Type 0} (t f n : ℕ) (x : GatherState) → spawned_for h t ≡ some o → object s o ≡ Object.GatherFuture f n x → A
  no-gather t f n x e q = absurd (true≢false (sym (k.tasks.coroutines t o e) ∙ (ap any_coroutine q ∙ (unfold any_coroutine in refl))))

  -- for no gather that is pending
  not-pending : Waits → (f n : ℕ) → object s o ≡ Object.GatherFuture f n GatherState.Pending → ⊥
  unfolding as_pending as_awaited
  not-pending (for-task t e a) f n q = no-gather t f n GatherState.Pending e q
  not-pending (for-external p e) f n q = absurd_some (sym (ap as_pending q) ∙ e)
  not-pending (for-gather v e a) f n q = absurd_some (sym (ap as_awaited q) ∙ e)

  module _ (u : Store) (l : LateFails s u g) where
    -- not for the coroutine of the task that fails
    not-runner : running_coroutine h ≡ some o → Waits → ⊥
    not-runner q = by
      where
        its : spawned_for h (suc l.runner) ≡ some o
        its = ran h s w ag clean k (suc l.runner) o l.runs q

        by : Waits → ⊥
        by (for-task t e a) =
            let same : t ≡ suc l.runner = k.tasks.alone t (suc l.runner) o e its in
            l.apart o (subst (λ (v : ℕ). is_live (task s v).state ≡ true → (task s v).awaiter ≡ Awaiter.GatherSlot (heap_id g) (heap_id o)) same a (ap is_live (runner-runs s (suc l.runner) w l.runs)))
        by (for-external p e) = no-external (suc l.runner) p its e
        by (for-gather v e a) = no-gather (suc l.runner) _ _ _ its (awaited-object (object s o) v e)

    -- a gather that it waits for fails so too
    late-too : (f n : ℕ) (v : AwaitedGather) (z : Error) → as_awaited (object s o) ≡ some v → object u o ≡ Object.GatherFuture f n (GatherState.Failed z) → Waits → z ≡ Error.CoroutineReuse
    late-too f n v z e q (for-task t d a) = no-gather t _ _ _ d (awaited-object (object s o) v e)
    late-too f n v z e q (for-external p d) = apart (object s o) p v d e
    late-too f n v z e q (for-gather y d a) = l.items o o f n y z d a q

-- ---- an event of a session

-- what an event has done: nothing, or it was accepted
data Did (s : Store) (e : Event) (u : Store) : Type 0 where
  nothing_done : ((o : ℕ) → object u o ≡ object s o) → Did s e u
  accepted : refusal (forget s) e ≡ 0 → u ≡ (accept (forget s) e).store → Did s e u

did : (s : Store) (e : Sent) → Sends s e → Did s e.event (lent_any s e).store
did s e (short p q) = nothing_done (λ o. ap (λ (u : Store). object u o) p)
did s e (stepped p q) = subst (Did s e.event) (sym p) (by (ℕ_discrete (refusal s e.event) 0))
  where
    by : Dec (refusal s e.event ≡ 0) → Did s e.event (step s e.event).store
    by (yes r) = accepted (refusal-forget s e.event ∙ r) (ap (λ (x : Step). x.store) (accepted-step s e.event r))
    by (no ne) = nothing_done (λ o. ap (λ (x : Step). object x.store o) (refused-step s e.event (refusal s e.event) refl ne) ∙ (unfold object forget in refl))

module _ (ps : List Sent) (e : Sent) (j : AllSentInRange ps) (i : InRange e.event) (g o : ℕ) (vs : List (Option Value)) (r : Error) (p : look (session ps).store g ≡ Shown.a_gather_awaited vs)
    (q : look (send (session ps) e).store g ≡ Shown.a_gather_failed r) (named : is_in o (items (session ps).history g) ≡ true) (nothing : outcome (session ps).history (look (session ps).store) o ≡ none) where
  abbrev s : Store
  s = (session ps).store

  abbrev h : List Entry
  h = (session ps).history

  -- the store that the event meets, and the one that it leaves
  abbrev b : Store
  b = forget (session ps).store

  abbrev u : Store
  u = (send (session ps) e).store

  w : SoundStore s
  w = (session_follows ps j).whole

  wu : SoundStore u
  wu = (send_following (session ps) e i (session_follows ps j)).whole

  wb : SoundStore b
  wb = forget_sound_store s w

  ag : Agrees h b
  ag = forget_agrees h s (session_agrees ps j)

  blank : b.log ≡ []
  blank = unfold forget in refl

  same_row : (c : ℕ) → object b c ≡ object s c
  same_row c = unfold object forget in refl

  it : InPlace s g o
  it = item-place h s w (session_agrees ps j) g o vs p named

  fails : (f : ℕ) × (n : ℕ) × (object u g ≡ Object.GatherFuture f n (GatherState.Failed r))
  fails = failed_row u g r wu q

  -- the gather's row has changed, so the event was accepted, before the end
  moved : {A : Type 0} → object u g ≡ object s g → A
  moved d = failed-awaited (object s g) fails.0 fails.1 r it.row (sym d ∙ fails.2) it.awaited

  taken : (refusal b e.event ≡ 0) × (u ≡ (accept b e.event).store)
  taken = by (subst (Did s e.event) sent (did s e (sends s e w.memory.sized)))
    where
      sent : (lent_any s e).store ≡ u
      sent = unfold send in refl

      by : Did s e.event u → (refusal b e.event ≡ 0) × (u ≡ (accept b e.event).store)
      by (nothing_done d) = moved (d g)
      by (accepted a d) = (a, d)

  alive : Alive h b
  alive = by (is_ended (header s).moment) refl
    where
      same_end : is_ended (header b).moment ≡ is_ended (header s).moment
      same_end = unfold header forget in refl

      by : (d : Bool) → is_ended (header s).moment ≡ d → Alive h b
      by false d = forget-alive h s ((session-waits ps j).alive d)
      by true d = moved (ap (λ (y : Store). object y g) (taken.1 ∙ (ended_reads b e.event taken.0 (same_end ∙ d)).same_store) ∙ same_row g)

  waits : Waits h b wb ag blank alive g o
  waits =
      waits_for h b wb ag blank alive g o (alive.sourced.sources g o it.row (unfold header forget in it.made) (ap as_awaited (same_row g) ∙ it.awaited)
      (record {
        at = it.at;
        under = it.under;
        is_open = nothing_open h s w (session_agrees ps j) g it.row it.made it.awaited it.at it.under (ap (outcome h (look s)) it.names ∙ nothing);
        names = unfold place forget in it.names;
      }))

  -- It was no pending gather.
  pub item-committed : look s o ≡ Shown.a_gather_pending → ⊥
  item-committed d = let x = pending-row s o w d in not-pending h b wb ag blank alive g o waits x.0 x.1 (same_row o ∙ x.2)

  module _ (n : ℕ) (ev : e.event ≡ Event.fail n) (late : r ≡ Error.CoroutineReuse) where
    fails-late : LateFails b u g
    fails-late =
        subst (λ (y : Store). LateFails b y g) (sym left)
        (accept-late b n wb (subst InRange ev i) (subst (λ (y : Event). refusal b y ≡ 0) ev taken.0) g fails.0 fails.1 it.row (ap as_awaited (same_row g) ∙ it.awaited)
        (ap (λ (y : Store). object y g) (sym left) ∙ (fails.2 ∙ ap (λ (y : Error). Object.GatherFuture fails.0 fails.1 (GatherState.Failed y)) late)))
      where
        left : u ≡ (accept b (Event.fail n)).store
        left = taken.1 ∙ ap (λ (y : Event). (accept b y).store) ev

    -- It is not the coroutine of the task that fails.
    pub item-not-runner : running_coroutine h ≡ some o → ⊥
    item-not-runner d = not-runner h b wb ag blank alive g o u fails-late d waits

    -- If it is a gather that fails, it fails with coroutine-reuse.
    pub item-late : (us : List (Option Value)) (y : Error) → look s o ≡ Shown.a_gather_awaited us → look u o ≡ Shown.a_gather_failed y → y ≡ Error.CoroutineReuse
    item-late us y c d =
        let x = awaited-row s o us w c in
        let v = failed_row u o y wu d in
        late-too h b wb ag blank alive g o u fails-late v.0 v.1 x.1.0 y (ap as_awaited (same_row o) ∙ x.1.1) v.2 waits
