-- Who uses what a commit found in use: the awaiters of pending externals, of awaited gathers and of live tasks are known by the history (`session_uses`), so an
-- item that is reused is in use by somebody, in the words of demand 2 (`reused_in_use`).
use Rattle.std.specs.Prelude.{◌≡◌, ◌⊎◌, Bool, true, false, ◌||◌, List, [], ◌∷◌, ◌++◌, T, ltb}
use Rattle.std.proofs.Math.Path.{refl, ap}
use Rattle.std.proofs.Common.{sym, subst, ◌∙◌, inl, inr, not-suc-le-zero, arith, ltb-true, ltb-false}
use Rattle.std.proofs.Math.Option.{some}
use Prim.Native.Nat.{ℕ, suc, ◌+◌, ◌≤◌, ◌<◌}
use Rattle.std.proofs.Math.Decide.{ℕ_discrete}
use Rattle.asyncio.specs.declared.HeapId.{HeapId}
use Rattle.asyncio.specs.declared.TaskId.{TaskId}
use Rattle.asyncio.specs.declared.CallId.{CallId}
use Rattle.asyncio.specs.Options.{OptionValue}
use Rattle.asyncio.specs.declared.Error.{Error}
use Rattle.asyncio.specs.declared.Task.{Task}
use Rattle.asyncio.specs.declared.Awaiter.{Awaiter}
use Rattle.asyncio.specs.declared.CoroutineState.{CoroutineState}
use Rattle.asyncio.specs.declared.ExternalFutureState.{ExternalFutureState}
use Rattle.asyncio.specs.declared.GatherState.{GatherState}
use Rattle.asyncio.specs.declared.Object.{Object}
use Rattle.asyncio.specs.declared.Header.{Header}
use Rattle.asyncio.specs.Kinds.{kind, is_committed}
use Rattle.asyncio.specs.Parts.{awaiter_of, first_of, count_of}
use Rattle.asyncio.specs.States.{is_live}
use Rattle.machine.specs.Store.{Store, view, task, object, place, header, forget, fresh}
use Rattle.machine.specs.Scheduler.{AwaitedGather, PendingExternal, as_awaited, as_pending, live}
use Rattle.machine.specs.Machine.{Event, Answer, Step, Shown, shown, refusal, accept, step}
use Rattle.machine.specs.Tests.{is_in}
use Rattle.machine.specs.Sound.{is_ended, is_slot}
use Rattle.machine.specs.Honest.{named}
use Rattle.machine.specs.Computes.{computes}
use Rattle.machine.specs.History.{Entry, Says, said, tells, is_at, items, lives, lives_by, awaited_before}
use Rattle.machine.specs.Sessions.{Sent, Session, InRange, AllSentInRange, lent_any, entry_of, begun, send, send_all, session}
use Rattle.machine.specs.DemandThree.{look}
use Rattle.machine.specs.DemandTwo.{committed, Elsewhere, InUse, is_running, is_completed, has_task, is_pending, is_awaited}
use Rattle.machine_laws.specs.Facts.{Slotted}
use Rattle.machine_laws.specs.TestLaws.{holds}
use Rattle.machine_laws.specs.DeliveryLaws.{absurd_some}
use Rattle.machine_laws.specs.MachineLaws.{accepted-step, refused-step}
use Rattle.machine_laws.specs.SoundLaws.{refusal-forget}
use Rattle.machine_theorems.specs.Soundness.Stores.{SoundStore}
use Rattle.machine_theorems.specs.Soundness.Cycle.{spawned_of}
use Rattle.machine_theorems.specs.Soundness.Sessions.{forget_sound_store, step_sound_store}
use Rattle.machine_sessions.specs.Queue.Tracked.{live-is}
use Rattle.machine_sessions.specs.Queue.Following.{Sends, stepped, short, sends, Following, accept_accepts, send_following, session_follows}
use Rattle.machine_sessions.specs.Waits.{said-accepted}
use Rattle.machine_sessions.specs.Places.Told.{many, frozen}
use Rattle.machine_sessions.specs.Places.Agrees.{Agrees}
use Rattle.machine_sessions.specs.Places.AgreesEvents.{forget_agrees}
use Rattle.machine_sessions.specs.Places.AgreesSessions.{fresh-object, send_agrees, session_agrees}
use Rattle.machine_sessions.specs.Honest.Spawned.{shape, is_used}
use Rattle.machine_sessions.specs.Honest.HonestEntries.{session_honest}
use Rattle.machine_sessions.specs.Gather.FailingRows.{ItemAt}
use Rattle.machine_sessions.specs.Gather.FailingStated.{Other, NoSlot, TaskFor, Reuses, coroutine_reused, future_reused, gather_reused, ItemSlot, Took, SlotIn, Opens, TookTask, TaskFrom, lived, is_new, EventFails}
use Rattle.machine_sessions.specs.Gather.FailingHistory.{Knows, some-is_at}
use Rattle.machine_sessions.specs.Gather.FailingAwait.{accept-fails}
use Rattle.machine_sessions.specs.Gather.FailingSessions.{IsMany, gather-list, item_in, items-later, items_now, made_still, forget-knows, look-row, send-fails, session-knows}
use Rattle.machine_sessions.specs.Gather.GatherSteps.{in_range_snoc, session_snoc}

-- ---- what is known of awaiters

-- of the awaiter of object o, n objects being made: a task has awaited it; a gather that is made has it among its items
abbrev Known : List Entry → ℕ → ℕ → Awaiter → Type 0
Known h n o Awaiter.Nobody = Unit {0}
Known h n o (Awaiter.Task t) = awaited_before h o ≡ true
Known h n o (Awaiter.GatherSlot f x) = (f.0 < n) × (is_in o (items h f.0) ≡ true)

-- and it is somebody
abbrev Somebody : Awaiter → Type 0
Somebody Awaiter.Nobody = ⊥
Somebody (Awaiter.Task t) = Unit {0}
Somebody (Awaiter.GatherSlot f x) = Unit {0}

-- of the awaiters of pending externals, of awaited gathers, and of live spawned tasks for their coroutines
pub record Uses (h : List Entry) (s : Store) : Type 0 where
  pub externals : (o : ℕ) (r : PendingExternal) → as_pending (object s o) ≡ some r → Known h (header s).made o r.awaiter
  pub gathers : (o : ℕ) (v : AwaitedGather) → as_awaited (object s o) ≡ some v → Somebody v.awaiter × Known h (header s).made o v.awaiter
  pub tasks : (t : ℕ) → suc t < (header s).next → is_live (task s (suc t)).state ≡ true → Known h (header s).made (task s (suc t)).coroutine.0 (task s (suc t)).awaiter

-- ---- the words one entry later

or_second : (a b : Bool) → b ≡ true → (a || b) ≡ true
or_second true b e = refl
or_second false b e = e

awaited-later : (x : Entry) (h : List Entry) (o : ℕ) → awaited_before h o ≡ true → awaited_before (x ∷ h) o ≡ true
unfolding awaited_before
awaited-later x h o e = or_second (is_at (said x).awaits o) (awaited_before h o) e

awaited_now : (x : Entry) (h : List Entry) (o : ℕ) → (said x).awaits ≡ some o → awaited_before (x ∷ h) o ≡ true
unfolding awaited_before
awaited_now x h o e = ap (λ (b : Bool). b || awaited_before h o) (some-is_at (said x).awaits o e)

-- ---- a gather that has an item is made

counted-many : (x : Object) (n : ℕ) → n < count_of x → frozen x ≡ many (first_of x) (count_of x)
unfolding count_of first_of frozen
counted-many Object.Unmade n l = absurd (not-suc-le-zero l)
counted-many (Object.Coroutine f x) n l = absurd (not-suc-le-zero l)
counted-many (Object.ExternalFuture c x) n l = absurd (not-suc-le-zero l)
counted-many (Object.GatherFuture f m x) n l = refl

-- and its history tells it
item-told : (h : List Entry) (s : Store) → Agrees h s → (g o : ℕ) → ItemAt s g o → (g < (header s).made) × (is_in o (items h g) ≡ true)
item-told h s a g o k = (low (ltb g (header s).made) refl, listed)
  where
    is-many : frozen (object s g) ≡ many (first_of (object s g)) (count_of (object s g))
    is-many = counted-many (object s g) k.at k.under

    low : (b : Bool) → ltb g (header s).made ≡ b → g < (header s).made
    low true q = ltb-true g (header s).made q
    low false q = absurd (subst IsMany (sym is-many ∙ a.behind g (ltb-false g (header s).made q)) tt)

    listed : is_in o (items h g) ≡ true
    listed =
        let m = gather-list h s a g (first_of (object s g)) (count_of (object s g)) (low (ltb g (header s).made) refl) is-many in
        subst (λ (j : ℕ). is_in j (items h g) ≡ true) k.names (item_in (λ j. (place s j).item.0) (first_of (object s g)) (items h g) k.at m.1 (subst (λ (j : ℕ). k.at < j) m.0 k.under))

-- ---- an accepted event

module _ (h : List Entry) (s : Store) (w : SoundStore s) (a : Agrees h s) (k : Knows h s) (blank : s.log ≡ []) (e : Event) (i : InRange e) (rf : refusal s e ≡ 0) (w' : SoundStore (accept s e).store) (us : Uses h s)
    (fl : EventFails e s (accept s e)) where
  abbrev u : Store
  u = (accept s e).store

  abbrev y : Entry
  y = entry_of e (accept s e).answer (accept s e).store

  known-later : (o : ℕ) (b : Awaiter) → Known h (header s).made o b → Known (y ∷ h) (header u).made o b
  known-later o Awaiter.Nobody q = tt
  known-later o (Awaiter.Task t) q = awaited-later y h o q
  known-later o (Awaiter.GatherSlot f x) q = (made_still h s w a k blank e i rf w' f.0 q.0, ap (is_in o) (items_now h s w a k blank e i rf w' f.0 q.0) ∙ q.1)

  known_slot : (o : ℕ) (b : Awaiter) → ItemSlot s o b → Known (y ∷ h) (header u).made o b
  known_slot o Awaiter.Nobody q = tt
  known_slot o (Awaiter.Task t) q = absurd q
  known_slot o (Awaiter.GatherSlot f x) q = known-later o (Awaiter.GatherSlot f x) (item-told h s a f.0 o q)

  known-task : (o : ℕ) (b : Awaiter) → TookTask e o b → Known (y ∷ h) (header u).made o b
  known-task o Awaiter.Nobody q = tt
  known-task o (Awaiter.Task t) q = awaited_now y h o (ap (λ (z : Says). z.awaits) (said-accepted e (accept s e).answer (accept s e).store (accept_accepts s e)) ∙ q)
  known-task o (Awaiter.GatherSlot f x) q = absurd q

  accepted-uses : Uses (y ∷ h) u
  accepted-uses =
      record {
        externals = λ o r q. took o r.awaiter (fl.takes o r q);
        gathers = λ o v q. opened o v.awaiter (fl.opens o v q);
        tasks = λ t l q. from t (fl.tasks (suc t) l q);
      }
    where
      took : (o : ℕ) (b : Awaiter) → Took s o b ⊎ TookTask e o b → Known (y ∷ h) (header u).made o b
      took o b (inl (inl q)) = known-later o b (subst (Known h (header s).made o) q.2 (us.externals o q.0 q.1))
      took o b (inl (inr q)) = known_slot o b q
      took o b (inr q) = known-task o b q

      slot-somebody : (o : ℕ) (b : Awaiter) → SlotIn s o b → Somebody b × Known (y ∷ h) (header u).made o b
      slot-somebody o Awaiter.Nobody q = absurd q
      slot-somebody o (Awaiter.Task t) q = absurd q
      slot-somebody o (Awaiter.GatherSlot f z) q = (tt, known_slot o (Awaiter.GatherSlot f z) q)

      task-somebody : (o : ℕ) (b : Awaiter) → TookTask e o b → Somebody b × Known (y ∷ h) (header u).made o b
      task-somebody o Awaiter.Nobody q = absurd q
      task-somebody o (Awaiter.Task t) q = (tt, known-task o (Awaiter.Task t) q)
      task-somebody o (Awaiter.GatherSlot f z) q = absurd q

      opened : (o : ℕ) (b : Awaiter) → Opens s o b ⊎ TookTask e o b → Somebody b × Known (y ∷ h) (header u).made o b
      opened o b (inl (inl q)) =
          let z = us.gathers o q.0 q.1 in
          (subst Somebody q.2 z.0, known-later o b (subst (Known h (header s).made o) q.2 z.1))
      opened o b (inl (inr q)) = slot-somebody o b q
      opened o b (inr q) = task-somebody o b q

      from : (t : ℕ) → TaskFrom s u (suc t) → Known (y ∷ h) (header u).made (task u (suc t)).coroutine.0 (task u (suc t)).awaiter
      from t (lived l q c b) =
          subst (λ (j : ℕ). Known (y ∷ h) (header u).made j (task u (suc t)).awaiter) (sym c)
          (subst (Known (y ∷ h) (header u).made (task s (suc t)).coroutine.0) (sym b) (known-later (task s (suc t)).coroutine.0 (task s (suc t)).awaiter (us.tasks t l q)))
      from t (is_new l q b) = known_slot (task u (suc t)).coroutine.0 (task u (suc t)).awaiter b

-- ---- a refused one

refused_awaits : (h : List Entry) (e : Event) (n : ℕ) (u : Store) (o : ℕ) → is_at (tells (entry_of e (Answer.refused n) u).answer).makes o ≡ false
unfolding entry_of tells is_at
refused_awaits h e n u o = refl

refused-known : (h : List Entry) (s u : Store) (e : Event) (n : ℕ) → header u ≡ header s → (o : ℕ) (b : Awaiter) → Known h (header s).made o b → Known (entry_of e (Answer.refused n) u ∷ h) (header u).made o b
refused-known h s u e n hd o Awaiter.Nobody q = tt
refused-known h s u e n hd o (Awaiter.Task t) q = awaited-later (entry_of e (Answer.refused n) u) h o q
refused-known h s u e n hd o (Awaiter.GatherSlot f x) q =
    (subst (λ (z : Header). f.0 < z.made) (sym hd) q.0, ap (is_in o) (items-later (entry_of e (Answer.refused n) u) h f.0 (refused_awaits h e n u f.0)) ∙ q.1)

refused_uses : (h : List Entry) (s u : Store) (e : Event) (n : ℕ) → header u ≡ header s → ((t : ℕ) → task u t ≡ task s t) → ((o : ℕ) → object u o ≡ object s o) → Uses h s → Uses (entry_of e (Answer.refused n) u ∷ h) u
refused_uses h s u e n hd ts os k =
    record {
      externals = λ o r q. refused-known h s u e n hd o r.awaiter (k.externals o r (sym (ap as_pending (os o)) ∙ q));
      gathers = λ o v q.
          let z = k.gathers o v (sym (ap as_awaited (os o)) ∙ q) in
          (z.0, refused-known h s u e n hd o v.awaiter z.1);
      tasks = λ t l q.
          subst (λ (r : Task). Known (entry_of e (Answer.refused n) u ∷ h) (header u).made r.coroutine.0 r.awaiter) (sym (ts (suc t)))
          (refused-known h s u e n hd (task s (suc t)).coroutine.0 (task s (suc t)).awaiter
          (k.tasks t (subst (λ (z : Header). suc t < z.next) hd l) (sym (ap (λ (r : Task). is_live r.state) (ts (suc t))) ∙ q)));
    }

forget_uses : (h : List Entry) (s : Store) → Uses h s → Uses h (forget s)
unfolding forget task object header
forget_uses h s k = record { externals = k.externals; gathers = k.gathers; tasks = k.tasks }

-- ---- sessions

abbrev StepUses : List Entry → Event → Answer → Store → Type 0
StepUses h e a u = Uses (entry_of e a u ∷ h) u

step_uses : (h : List Entry) (s : Store) (e : Event) → SoundStore s → Agrees h s → Knows h s → InRange e → Uses h s → StepUses h e (step s e).answer (step s e).store
step_uses h s e w a k i us = by (ℕ_discrete (refusal s e) 0)
  where
    z : Store
    z = forget s

    blank : z.log ≡ []
    blank = unfold forget in refl

    by : Dec (refusal s e ≡ 0) → StepUses h e (step s e).answer (step s e).store
    by (yes r) =
        subst (λ (x : Step). StepUses h e x.answer x.store) (sym (accepted-step s e r))
        (accepted-uses h z (forget_sound_store s w) (forget_agrees h s a) (forget-knows h s k) blank e i rz sound (forget_uses h s us) (accept-fails z (forget_sound_store s w) e i rz))
      where
        rz : refusal z e ≡ 0
        rz = refusal-forget s e ∙ r

        sound : SoundStore (accept z e).store
        sound = subst (λ (x : Step). SoundStore x.store) (accepted-step s e r) (step_sound_store s w e i)
    by (no ne) =
        subst (λ (x : Step). StepUses h e x.answer x.store) (sym (refused-step s e (refusal s e) refl ne))
        (refused_uses h s z e (refusal s e) (unfold header forget in refl) (λ t. unfold task forget in refl) (λ o. unfold object forget in refl) us)

send_uses : (x : Session) (e : Sent) → InRange e.event → Following x → Agrees x.history x.store → Knows x.history x.store → Uses x.history x.store → Uses (send x e).history (send x e).store
unfolding send
send_uses x e i f a k us = by (sends s e f.whole.memory.sized)
  where
    s : Store
    s = x.store

    h : List Entry
    h = x.history

    by : Sends s e → StepUses h e.event (lent_any s e).answer (lent_any s e).store
    by (stepped p q) =
        subst (λ (c : Answer). StepUses h e.event c (lent_any s e).store) (sym q)
        (subst (StepUses h e.event (step s e.event).answer) (sym p) (step_uses h s e.event f.whole a k i us))
    by (short p q) =
        subst (λ (c : Answer). StepUses h e.event c (lent_any s e).store) (sym q)
        (subst (StepUses h e.event (Answer.refused 1)) (sym p) (refused_uses h s s e.event 1 refl (λ t. refl) (λ o. refl) us))

all_use : (es : List Sent) (x : Session) → AllSentInRange es → Following x → Agrees x.history x.store → Knows x.history x.store → Uses x.history x.store → Uses (send_all x es).history (send_all x es).store
unfolding send_all AllSentInRange
all_use [] x i f a k us = us
all_use (e ∷ es) x i f a k us =
    all_use es (send x e) i.1 (send_following x e i.0 f) (send_agrees x e i.0 f a) (send-fails x e i.0 f a k).0 (send_uses x e i.0 f a k us)

-- nothing is awaited at first
begun_uses : Uses [] fresh
unfolding computes as_pending as_awaited
begun_uses =
    record {
      externals = λ o r q. absurd_some (sym (ap as_pending (fresh-object o)) ∙ q);
      gathers = λ o v q. absurd_some (sym (ap as_awaited (fresh-object o)) ∙ q);
      tasks = λ t l q. absurd (not-suc-le-zero {n = 0} (omega (arith, l)));
    }

-- what is known of awaiters after every session
session_uses : (es : List Sent) → AllSentInRange es → Uses (session es).history (session es).store
unfolding session begun AllSentInRange send_all
session_uses es i = all_use es begun i (session_follows [] tt) (session_agrees [] tt) (session-knows [] tt) begun_uses

-- ---- who uses it

-- a live spawned task's awaiter is no task
not-task : (s : Store) (t : ℕ) (v : TaskId) → SoundStore s → suc t < (header s).next → is_live (task s (suc t)).state ≡ true → (task s (suc t)).awaiter ≡ Awaiter.Task v → ⊥
unfolding view is_slot
not-task s t v w l e q = subst (λ (b : Awaiter). T (is_slot b)) q (spawned_of t w.facts.but l (holds _ e)).slot

-- a coroutine that has started
abbrev started : CoroutineState → Bool
started CoroutineState.New = false
started CoroutineState.Running = true
started CoroutineState.Completed = true

shape-started : (f : ℕ) (z : CoroutineState) → is_used (shape (Object.Coroutine f z)) ≡ started z
unfolding shape
shape-started f CoroutineState.New = refl
shape-started f CoroutineState.Running = refl
shape-started f CoroutineState.Completed = refl

-- a pending external; an awaited gather
pending-is : (c : CallId) (b : Awaiter) (v : OptionValue) → as_pending (Object.ExternalFuture c (ExternalFutureState.Pending b v)) ≡ some (record { call = c; awaiter = b; stored = v })
unfolding as_pending
pending-is c b v = refl

open_is : (f n : ℕ) (b : Awaiter) (m : ℕ) → as_awaited (Object.GatherFuture f n (GatherState.Awaited b m)) ≡ some (record { first = f; count = n; awaiter = b; open_places = m })
unfolding as_awaited
open_is f n b m = refl

-- their awaiters
external_awaiter : (c : CallId) (b : Awaiter) (v : OptionValue) → awaiter_of (Object.ExternalFuture c (ExternalFutureState.Pending b v)) ≡ b
unfolding awaiter_of
external_awaiter c b v = refl

gather_awaiter : (f n : ℕ) (b : Awaiter) (m : ℕ) → awaiter_of (Object.GatherFuture f n (GatherState.Awaited b m)) ≡ b
unfolding awaiter_of
gather_awaiter f n b m = refl

-- the slot that an object's awaiter is
slotted : (s : Store) → SoundStore s → (o : ℕ) → o < (header s).made → (f y : HeapId) → awaiter_of (object s o) ≡ Awaiter.GatherSlot f y → Slotted (header s).made (object s) (place s) o f.0 y.0
unfolding view
slotted s w o l f y q = w.facts.but.object_slots o l (λ i. i) f.0 y.0 q

committed-shown : (s : Store) (x : Object) → T (is_committed (kind x)) → committed (shown s x) ≡ true
unfolding committed shown kind
committed-shown s Object.Unmade k = absurd k
committed-shown s (Object.Coroutine f CoroutineState.New) k = absurd k
committed-shown s (Object.Coroutine f CoroutineState.Running) k = absurd k
committed-shown s (Object.Coroutine f CoroutineState.Completed) k = absurd k
committed-shown s (Object.ExternalFuture c (ExternalFutureState.Pending a v)) k = absurd k
committed-shown s (Object.ExternalFuture c (ExternalFutureState.Resolved v)) k = absurd k
committed-shown s (Object.ExternalFuture c (ExternalFutureState.Failed v)) k = absurd k
committed-shown s (Object.GatherFuture f n GatherState.Pending) k = absurd k
committed-shown s (Object.GatherFuture f n (GatherState.Awaited a m)) k = refl
committed-shown s (Object.GatherFuture f n GatherState.Completed) k = refl
committed-shown s (Object.GatherFuture f n (GatherState.Failed e)) k = refl

-- the history tells who lives
pub lives-live : (es : List Sent) → AllSentInRange es → (t : ℕ) → lives (session es).history t ≡ live (session es).store t
unfolding forget lives_by live header task
lives-live es i t = (session_follows es i).tracked.alive t

module _ (es : List Sent) (i : AllSentInRange es) (g : ℕ) where
  abbrev x : Session
  x = session es

  w : SoundStore x.store
  w = (session_follows es i).whole

  us : Uses x.history x.store
  us = session_uses es i

  -- what is shown of an object that is made
  look_is : (o : ℕ) → o < (header x.store).made → look x.store o ≡ shown x.store (object x.store o)
  look_is o l = by (look-row x.store o w)
    where
      by : ((o < (header x.store).made) × (look x.store o ≡ shown x.store (object x.store o))) ⊎ (((header x.store).made ≤ o) × (look x.store o ≡ Shown.nothing)) → look x.store o ≡ shown x.store (object x.store o)
      by (inl q) = q.1
      by (inr q) = absurd (not-suc-le-zero {n = 0} (omega (arith, q.0, l)))

  -- a slot of another gather
  elsewhere : (o c : ℕ) (f y : HeapId) → (f.0 ≡ g → ⊥) → Slotted (header x.store).made (object x.store) (place x.store) c f.0 y.0 → Known x.history (header x.store).made o (Awaiter.GatherSlot f y) → Elsewhere x g o
  elsewhere o c f y ne sl k =
      record { user = f.0; other = ne; was_committed = ap committed (look_is f.0 k.0) ∙ committed-shown x.store (object x.store f.0) sl.committed; among = k.1 }

  -- a live task lives by the history
  lives-told : (t : ℕ) → t < (header x.store).next → is_live (task x.store t).state ≡ true → lives x.history t ≡ true
  lives-told t l e = lives-live es i t ∙ live-is x.store t l e

  -- a live task that another gather has spawned
  tasked : (o f : ℕ) → TaskFor x.store g o → InUse x g o (Shown.a_coroutine CoroutineState.New f) Error.CoroutineReuse
  unfolding view
  tasked o f k =
      has_task f t (lives-told t k.low k.live) ((session-knows es i).spawned k.who k.low k.live ∙ ap (λ (j : ℕ). some j) k.coroutine)
      (by (task x.store t).awaiter refl k.awaiter (subst (λ (j : ℕ). Known x.history (header x.store).made j (task x.store t).awaiter) k.coroutine (us.tasks k.who k.low k.live)))
    where
      t : ℕ
      t = suc k.who

      by : (b : Awaiter) → (task x.store t).awaiter ≡ b → Other g (task x.store t).awaiter → Known x.history (header x.store).made o (task x.store t).awaiter → Elsewhere x g o
      by Awaiter.Nobody q d n = absurd (subst (Other g) q d)
      by (Awaiter.Task v) q d n = absurd (not-task x.store k.who v w k.low k.live q)
      by (Awaiter.GatherSlot f p) q d n =
          elsewhere o (task x.store t).coroutine.0 f p (subst (Other g) q d) (w.facts.but.task_slots t k.low (holds _ k.live) f.0 p.0 q) (subst (Known x.history (header x.store).made o) q n)

  -- An item that is reused is in use.
  pub reused_in_use : (o : ℕ) (r : Error) → is_ended (header x.store).moment ≡ false → o < (header x.store).made → Reuses x.store g o (object x.store o) r → InUse x g o (look x.store o) r
  reused_in_use o r on l k = subst (λ (v : Shown). InUse x g o v r) (sym (look_is o l)) (by (object x.store o) r refl k)
    where
      named-used : is_used (shape (object x.store o)) ≡ true → named x.history o ≡ true
      named-used e = ((session_honest es i).kept on).origins.named_is o ∙ e

      named_by : {f : ℕ} (z : CoroutineState) → object x.store o ≡ Object.Coroutine f z → started z ≡ true → named x.history o ≡ true
      named_by {f} z q e = named-used (ap (λ (p : Object). is_used (shape p)) q ∙ (shape-started f z ∙ e))

      taken : (b : Awaiter) → awaiter_of (object x.store o) ≡ b → Somebody b → NoSlot g b → Known x.history (header x.store).made o b → (awaited_before x.history o ≡ true) ⊎ Elsewhere x g o
      taken Awaiter.Nobody q z d n = absurd z
      taken (Awaiter.Task t) q z d n = inl n
      taken (Awaiter.GatherSlot f p) q z d n = inr (elsewhere o o f p d (slotted x.store w o l f p q) n)

      somebody : (b : Awaiter) → Other g b → Somebody b × NoSlot g b
      somebody Awaiter.Nobody d = absurd d
      somebody (Awaiter.Task t) d = (tt, tt)
      somebody (Awaiter.GatherSlot f p) d = (tt, d)

      external-used : (c : CallId) (b : Awaiter) (v : OptionValue) → object x.store o ≡ Object.ExternalFuture c (ExternalFutureState.Pending b v) → Other g b → (awaited_before x.history o ≡ true) ⊎ Elsewhere x g o
      external-used c b v q d =
          taken b (ap awaiter_of q ∙ external_awaiter c b v) (somebody b d).0 (somebody b d).1 (us.externals o (record { call = c; awaiter = b; stored = v }) (ap as_pending q ∙ pending-is c b v))

      gather-used : (f n : ℕ) (b : Awaiter) (m : ℕ) → object x.store o ≡ Object.GatherFuture f n (GatherState.Awaited b m) → NoSlot g b → (awaited_before x.history o ≡ true) ⊎ Elsewhere x g o
      gather-used f n b m q d =
          let z : Somebody b × Known x.history (header x.store).made o b = us.gathers o (record { first = f; count = n; awaiter = b; open_places = m }) (ap as_awaited q ∙ open_is f n b m) in
          taken b (ap awaiter_of q ∙ gather_awaiter f n b m) z.0 d z.1

      by : (z : Object) (e : Error) → object x.store o ≡ z → Reuses x.store g o z e → InUse x g o (shown x.store z) e
      by _ _ q (coroutine_reused f CoroutineState.New d) = unfold shown in (tasked o f d)
      by _ _ q (coroutine_reused f CoroutineState.Running d) = unfold shown in (is_running f (named_by CoroutineState.Running q refl))
      by _ _ q (coroutine_reused f CoroutineState.Completed d) = unfold shown in (is_completed f (named_by CoroutineState.Completed q refl))
      by _ _ q (future_reused c b v d) = unfold shown in (is_pending (external-used c b v q d))
      by _ _ q (gather_reused f n b m d) = unfold shown in (is_awaited _ (gather-used f n b m q d))

-- So it is after one more event.
pub sent_in_use : (es : List Sent) (e : Sent) → AllSentInRange es → InRange e.event → (g o : ℕ) (r : Error) → is_ended (header (send (session es) e).store).moment ≡ false → o < (header (send (session es) e).store).made
    → Reuses (send (session es) e).store g o (object (send (session es) e).store o) r → InUse (send (session es) e) g o (look (send (session es) e).store o) r
sent_in_use es e i j g o r =
    subst (λ (y : Session). is_ended (header y.store).moment ≡ false → o < (header y.store).made → Reuses y.store g o (object y.store o) r → InUse y g o (look y.store o) r) (session_snoc es e)
    (reused_in_use (es ++ (e ∷ [])) (in_range_snoc es e i j) g o r)
