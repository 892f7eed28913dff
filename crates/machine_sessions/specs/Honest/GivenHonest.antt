-- Two parts of `Honest`, for every session: who is blocked (`session-blocked`), and what a task is told that has control by a value or an error (`told-value`, `told-raises`).
use Rattle.std.specs.Prelude.{◌≡◌, ◌⊎◌, Bool, ◌&&◌, List, ◌∷◌, ℕ, ◌<◌}
use Rattle.std.proofs.Math.Path.{refl, ap, ap₂}
use Rattle.std.proofs.Common.{sym, subst, ◌∙◌, true≢false, arith}
use Rattle.std.proofs.Math.Logic.{inl, inr}
use Rattle.std.proofs.Math.Bool.{true, false}
use Rattle.std.proofs.Math.Option.{Option, none, some, some-injective}
use Rattle.std.proofs.Math.Decide.{dec_lt}
use Rattle.asyncio.specs.declared.Value.{Value}
use Rattle.asyncio.specs.declared.Error.{Error}
use Rattle.asyncio.specs.declared.TaskState.{TaskState}
use Rattle.asyncio.specs.declared.ExternalFutureState.{ExternalFutureState}
use Rattle.asyncio.specs.declared.GatherState.{GatherState}
use Rattle.asyncio.specs.declared.Object.{Object}
use Rattle.asyncio.specs.declared.Awaiter.{Awaiter}
use Rattle.asyncio.specs.Numbers.{heap_id}
use Rattle.asyncio.specs.Limits.{task_limit}
use Rattle.asyncio.specs.States.{is_live, is_blocked}
use Rattle.machine.specs.Store.{Store, task, object, header, forget}
use Rattle.machine.specs.Scheduler.{live}
use Rattle.machine.specs.Events.{value, raises, Control, runs}
use Rattle.machine.specs.Machine.{shown}
use Rattle.machine.specs.Gather.{Outcome, returned, raised}
use Rattle.machine.specs.History.{Entry, said, tells, running, lives_by, lives, blocked_by, stays_blocked, outcome}
use Rattle.machine.specs.Sessions.{Sent, entry_of, send, session, InRange, AllSentInRange, lent_any}
use Rattle.machine.specs.DemandThree.{shown_by, look}
use Rattle.machine.specs.Honest.{last_await, left_waiting, shows_waiting, waits_at, is_reuse, ToldHonest}
use Rattle.machine_laws.specs.StoreLaws.{header-fits}
use Rattle.machine_laws.specs.DeliveryLaws.{absurd_some}
use Rattle.machine_theorems.specs.Soundness.Stores.{SoundStore}
use Rattle.machine_sessions.specs.Queue.Tracked.{live_low}
use Rattle.machine_sessions.specs.Queue.Following.{Following, send_following, session_follows}
use Rattle.machine_sessions.specs.Places.Agrees.{Agrees}
use Rattle.machine_sessions.specs.Places.AgreesSessions.{send_agrees, session_agrees}
use Rattle.machine_sessions.specs.Places.PlacesHold.{shows-made, row_outcome, outcome-row}
use Rattle.machine_sessions.specs.Honest.Given.{Fate, loose, held, ret, err, holder, fate, Came, not-held, StateIs, Given, NoneBut, NoneYet}
use Rattle.machine_sessions.specs.Honest.GivenSessions.{waits_by, waits_for, waits_last, IsUnmade, unmade-loose, ToldHow, ToldBy, EntryGiven, send-given, session-given}

-- ---- what show gives and what has come of an object, by the fate of its row

not-came : {A : Type 0} (a : Awaiter) → Came (holder a) → A
unfolding holder
not-came Awaiter.Nobody k = absurd k
not-came (Awaiter.Task t) k = absurd k
not-came (Awaiter.GatherSlot g x) k = absurd k

came-shown : (s : Store) (o : ℕ) (x : Object) → Came (fate o x) → shows_waiting (shown s x) ≡ false
unfolding fate shown shows_waiting
came-shown s o Object.Unmade k = absurd k
came-shown s o (Object.Coroutine f x) k = absurd k
came-shown s o (Object.ExternalFuture c (ExternalFutureState.Pending a r)) k = not-came a k
came-shown s o (Object.ExternalFuture c (ExternalFutureState.Resolved v)) k = refl
came-shown s o (Object.ExternalFuture c (ExternalFutureState.Failed e)) k = refl
came-shown s o (Object.GatherFuture f n GatherState.Pending) k = absurd k
came-shown s o (Object.GatherFuture f n (GatherState.Awaited a m)) k = not-came a k
came-shown s o (Object.GatherFuture f n GatherState.Completed) k = refl
came-shown s o (Object.GatherFuture f n (GatherState.Failed e)) k = refl

held-shown : (s : Store) (o : ℕ) (x : Object) (t : ℕ) → fate o x ≡ held t → shows_waiting (shown s x) ≡ true
unfolding fate shown shows_waiting
held-shown s o Object.Unmade t e = not-held t loose tt e
held-shown s o (Object.Coroutine f x) t e = not-held t loose tt e
held-shown s o (Object.ExternalFuture c (ExternalFutureState.Pending a r)) t e = refl
held-shown s o (Object.ExternalFuture c (ExternalFutureState.Resolved v)) t e = not-held t (ret v) tt e
held-shown s o (Object.ExternalFuture c (ExternalFutureState.Failed x)) t e = not-held t (err x) tt e
held-shown s o (Object.GatherFuture f n GatherState.Pending) t e = not-held t loose tt e
held-shown s o (Object.GatherFuture f n (GatherState.Awaited a m)) t e = refl
held-shown s o (Object.GatherFuture f n GatherState.Completed) t e = not-held t (ret (Value.List (heap_id o))) tt e
held-shown s o (Object.GatherFuture f n (GatherState.Failed x)) t e = not-held t (err x) tt e

-- a value or an error
fate-outcome : Fate → Option (Outcome Value Error)
fate-outcome loose = none
fate-outcome (held t) = none
fate-outcome (ret v) = some (returned v)
fate-outcome (err e) = some (raised e)

row-came : (C : ℕ → Option (Outcome Value Error)) (o : ℕ) (x : Object) → Came (fate o x) → row_outcome C o x ≡ fate-outcome (fate o x)
unfolding fate row_outcome fate-outcome
row-came C o Object.Unmade k = absurd k
row-came C o (Object.Coroutine f x) k = absurd k
row-came C o (Object.ExternalFuture c (ExternalFutureState.Pending a r)) k = not-came a k
row-came C o (Object.ExternalFuture c (ExternalFutureState.Resolved v)) k = refl
row-came C o (Object.ExternalFuture c (ExternalFutureState.Failed e)) k = refl
row-came C o (Object.GatherFuture f n GatherState.Pending) k = absurd k
row-came C o (Object.GatherFuture f n (GatherState.Awaited a m)) k = not-came a k
row-came C o (Object.GatherFuture f n GatherState.Completed) k = refl
row-came C o (Object.GatherFuture f n (GatherState.Failed e)) k = refl

-- what has a fate is made
tight : Fate → Bool
tight loose = false
tight (held t) = true
tight (ret v) = true
tight (err e) = true

module _ (h : List Entry) (s : Store) (w : SoundStore s) (k : Agrees h s) where
  fate-made : (o : ℕ) (y : Fate) → tight y ≡ true → fate o (object s o) ≡ y → o < (header s).made
  fate-made o y p e = by (dec_lt o (header s).made)
    where
      by : Dec (o < (header s).made) → o < (header s).made
      by (yes l) = l
      by (no n) =
          absurd (true≢false (sym p ∙ (sym (ap tight e) ∙ (ap tight (unmade-loose o (object s o) (subst IsUnmade (sym (k.behind o (omega (arith, n)))) tt)) ∙ (unfold tight in refl)))))

  look_is : (o : ℕ) → o < (header s).made → look s o ≡ shown s (object s o)
  unfolding look shown_by
  look_is o l = ap shown_by (shows-made s o w l)

  pub value-outcome : (o : ℕ) (v : Value) → fate o (object s o) ≡ ret v → outcome h (look s) o ≡ some (returned v)
  unfolding tight fate-outcome
  value-outcome o v e = outcome-row h s w k o (fate-made o (ret v) refl e) ∙ (row-came _ o (object s o) (subst Came (sym e) tt) ∙ ap fate-outcome e)

  pub error-outcome : (o : ℕ) (x : Error) → fate o (object s o) ≡ err x → outcome h (look s) o ≡ some (raised x)
  unfolding tight fate-outcome
  error-outcome o x e = outcome-row h s w k o (fate-made o (err x) refl e) ∙ (row-came _ o (object s o) (subst Came (sym e) tt) ∙ ap fate-outcome e)

  -- ---- blocked

  module _ (g : Given (waits_for h) NoneBut NoneYet s) (t : ℕ) where
    came-looks : (o : ℕ) → Came (fate o (object s o)) → shows_waiting (look s o) ≡ false
    came-looks o c = ap shows_waiting (look_is o (made_by (fate o (object s o)) refl c)) ∙ came-shown s o (object s o) c
      where
        made_by : (y : Fate) → fate o (object s o) ≡ y → Came y → o < (header s).made
        made_by loose e c = absurd c
        made_by (held u) e c = absurd c
        made_by (ret v) e c = fate-made o (ret v) (unfold tight in refl) e
        made_by (err x) e c = fate-made o (err x) (unfold tight in refl) e

    -- something has come of whatever it awaited: it does not wait any more
    not-waiting : ((o : ℕ) → waits_for h t ≡ some o → Came (fate o (object s o))) → (left_waiting h t && waits_at (look s) (last_await h t)) ≡ false
    unfolding waits_for waits_by waits_at
    not-waiting f = by (left_waiting h t) refl (last_await h t) refl
      where
        by : (b : Bool) → left_waiting h t ≡ b → (y : Option ℕ) → last_await h t ≡ y → (b && waits_at (look s) y) ≡ false
        by false p y q = refl
        by true p none q = refl
        by true p (some o) q = came-looks o (f o (ap₂ waits_by p q))

    waiting : (o : ℕ) → waits_for h t ≡ some o → fate o (object s o) ≡ held t → (left_waiting h t && waits_at (look s) (last_await h t)) ≡ true
    unfolding waits_at tight
    waiting o e q =
        let y = waits_last h t o e in
        ap₂ (λ (b : Bool) (z : Option ℕ). b && waits_at (look s) z) y.0 y.1 ∙ (ap shows_waiting (look_is o (fate-made o (held t) refl q)) ∙ held-shown s o (object s o) t q)

    pub blocked-row : t < task_limit → is_live (task s t).state ≡ true → is_blocked (task s t).state ≡ (left_waiting h t && waits_at (look s) (last_await h t))
    blocked-row l v = by (task s t).state (g.states t l (λ n. n)) v
      where
        by : (x : TaskState) → StateIs (waits_for h t) (λ o. fate o (object s o)) t x → is_live x ≡ true → is_blocked x ≡ (left_waiting h t && waits_at (look s) (last_await h t))
        by TaskState.Absent y e = absurd (true≢false (sym e))
        by TaskState.Unstarted y e = sym (not-waiting (λ o q. absurd_some (sym y ∙ q)))
        by TaskState.Running y e = sym (not-waiting y)
        by (TaskState.Woken a) y e = sym (not-waiting (λ o q. subst (λ (m : ℕ). Came (fate m (object s m))) (some-injective y.0 o (sym y.1 ∙ q)) (subst Came (sym y.2) tt)))
        by (TaskState.Raised a) y e = sym (not-waiting (λ o q. subst (λ (m : ℕ). Came (fate m (object s m))) (some-injective y.0 o (sym y.1 ∙ q)) (subst Came (sym y.2) tt)))
        by (TaskState.Blocked b) y e = sym (waiting b.0 y.0 y.1)

-- ---- (a) Blocked, by events and answers alone.

pub session-blocked : (es : List Sent) → AllSentInRange es → (t : ℕ) → lives (session es).history t ≡ true
    → stays_blocked (session es).history t ≡ (left_waiting (session es).history t && waits_at (look (session es).store) (last_await (session es).history t))
unfolding lives_by blocked_by forget
session-blocked es i t e =
    f.tracked.stuck t (sym (f.tracked.alive t) ∙ e) ∙ (same-task ∙ blocked-row h s f.whole (session_agrees es i) (session-given es i) t (omega (arith, low.0, (header-fits s).next_fits)) low.1)
  where
    f : Following (session es)
    f = session_follows es i

    s : Store
    s = (session es).store

    h : List Entry
    h = (session es).history

    same_live : live (forget s) t ≡ live s t
    same_live = unfold live forget header task in refl

    same-task : is_blocked (task (forget s) t).state ≡ is_blocked (task s t).state
    same-task = unfold task forget in refl

    low : (t < (header s).next) × (is_live (task s t).state ≡ true)
    low = live_low s t (sym same_live ∙ (sym (f.tracked.alive t) ∙ e))

-- ---- (b) who has control by a value or an error

module _ (es : List Sent) (e : Sent) (i : AllSentInRange es) (r : InRange e.event) where
  abbrev h : List Entry
  h = (session es).history

  abbrev s : Store
  s = (session es).store

  abbrev u : Store
  u = (lent_any s e).store

  abbrev x : Entry
  x = entry_of e.event (lent_any s e).answer u

  f : Following (session es)
  f = session_follows es i

  given : EntryGiven h x u
  given = send-given h s e r f.whole (session_agrees es i) (session-given es i)

  whole : SoundStore u
  whole = unfold send in (send_following (session es) e r f).whole

  agrees : Agrees (x ∷ h) u
  agrees = unfold send in (send_agrees (session es) e r f (session_agrees es i))

  told : (c : Control) → (tells x.answer).control ≡ some c → ToldBy h x u (some c)
  told c q = subst (ToldBy h x u) q given.told

  value-told : (t : ℕ) (v : Value) → (tells x.answer).control ≡ some (runs t (value v)) → ToldHonest h x (look u) t (value v)
  unfolding ToldHonest
  value-told t v q = let y : ToldHow h x u t (value v) = told (runs t (value v)) q in (y.0, y.1, value-outcome (x ∷ h) u whole agrees y.0 v y.2)

  raises-told : (t : ℕ) (a : Error) → (tells x.answer).control ≡ some (runs t (raises a)) → ToldHonest h x (look u) t (raises a)
  unfolding ToldHonest
  raises-told t a q = let y : ToldHow h x u t (raises a) = told (runs t (raises a)) q in (y.0, y.1, by y.0 y.2)
    where
      by : (o : ℕ) → (fate o (object u o) ≡ err a) ⊎ (((said x).awaits ≡ some o) × (running h ≡ some t) × (is_reuse a ≡ true))
          → (outcome (x ∷ h) (look u) o ≡ some (raised a)) ⊎ (((said x).awaits ≡ some o) × (running h ≡ some t) × (is_reuse a ≡ true))
      by o (inl z) = inl (error-outcome (x ∷ h) u whole agrees o a z)
      by o (inr z) = inr z

-- A value: what the task awaited last has come to it.
pub told-value : (es : List Sent) (e : Sent) → AllSentInRange es → InRange e.event → (t : ℕ) (v : Value)
    → (tells (lent_any (session es).store e).answer).control ≡ some (runs t (value v))
    → ToldHonest (session es).history (entry_of e.event (lent_any (session es).store e).answer (lent_any (session es).store e).store) (look (send (session es) e).store) t (value v)
unfolding send entry_of
told-value es e i r t v q = unfold entry_of in (value-told es e i r t v q)

-- An error: what it awaited last has come to it, or its own await raised a reuse error.
pub told-raises : (es : List Sent) (e : Sent) → AllSentInRange es → InRange e.event → (t : ℕ) (a : Error)
    → (tells (lent_any (session es).store e).answer).control ≡ some (runs t (raises a))
    → ToldHonest (session es).history (entry_of e.event (lent_any (session es).store e).answer (lent_any (session es).store e).store) (look (send (session es) e).store) t (raises a)
unfolding send entry_of
told-raises es e i r t a q = unfold entry_of in (raises-told es e i r t a q)
