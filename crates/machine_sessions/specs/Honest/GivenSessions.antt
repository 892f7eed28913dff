-- `Given` in every session, by the words of the history: a blocked task waits for what it awaited last; who has control is told what has come of that.
use Rattle.std.specs.Prelude.{◌≡◌, ◌⊎◌, Bool, not, ◌||◌, eqb, get_or, replicate}
use Rattle.std.proofs.Math.Path.{refl, ap, subst}
use Rattle.std.proofs.Common.{sym, ap₂, ◌∙◌, inl, inr, true≢false, arith, eq-eqb, ne_eqb, eqb-true, ltb-false}
use Rattle.std.proofs.Math.Bool.{true, false}
use mathlib.Core.List.{List, [], ◌∷◌}
use Rattle.std.proofs.Math.Option.{Option, none, some}
use Prim.Native.Nat.{ℕ, zero, suc, ◌+◌, ◌<◌}
use Rattle.std.proofs.Math.Nat.{not-suc-le-zero}
use Rattle.std.proofs.Math.Decide.{ℕ_discrete}
use Rattle.std.proofs.Math.Dec.{T, ltb}
use Rattle.std.proofs.Math.ListN.{length}
use Rattle.asyncio.specs.declared.Value.{Value}
use Rattle.asyncio.specs.declared.Error.{Error}
use Rattle.asyncio.specs.declared.TaskState.{TaskState}
use Rattle.asyncio.specs.declared.Task.{Task}
use Rattle.asyncio.specs.declared.ExternalFutureState.{ExternalFutureState}
use Rattle.asyncio.specs.declared.Object.{Object}
use Rattle.asyncio.specs.declared.Moment.{Moment}
use Rattle.asyncio.specs.declared.Awaiter.{Awaiter}
use Rattle.asyncio.specs.declared.Header.{Header}
use Rattle.asyncio.specs.Layout.{to_task}
use Rattle.rows.specs.Rows.{row_from}
use Rattle.rows.specs.Tables.{task_at, task_start}
use Rattle.machine.specs.Computes.{computes}
use Rattle.asyncio.specs.Limits.{object_limit, task_limit, item_limit, place_limit, u32_limit, tasks_length}
use Rattle.asyncio.specs.Numbers.{task_id}
use Rattle.asyncio.specs.States.{pick}
use Rattle.machine.specs.Store.{Store, view, task, object, header, put_header, forget, fresh, empty}
use Rattle.machine.specs.Scheduler.{cleanup, pending_call_ids}
use Rattle.machine.specs.Events.{How, start, value, raises, inline, Control, runs, waits, Switched, Awaited, exec_get_awaitable, handle_task_completion, handle_task_failure, activate, resume_next, wake_in_order}
use Rattle.machine.specs.Machine.{Event, Answer, Step, switched, answer_await, end_main, task_completes, task_fails, runner, repeat_wait, resume_with_resolved_futures, refusals, refusal, full, no_number, accept, step, in_both}
use Rattle.machine.specs.Sound.{value_known, object_in_range, places_below}
use Rattle.machine.specs.History.{Entry, Says, says, nothing_said, said, tells, done_only, is_at, running}
use Rattle.machine.specs.Sessions.{Sent, lent_any, entry_of, Session, begun, send, send_all, session, InRange, AllSentInRange}
use Rattle.machine.specs.Honest.{runs_task, last_await, left_waiting, is_reuse}
use Rattle.machine_laws.specs.StoreLaws.{header-fits, sized-forget, task_put-other}
use Rattle.machine_laws.specs.DeliveryLaws.{absurd_some}
use Rattle.machine_laws.specs.MakingLaws.{value-fits}
use Rattle.machine_laws.specs.MachineLaws.{accepted-step, refused-step}
use Rattle.machine_laws.specs.SoundLaws.{pass, running-rest, refusal-rest, refusal-forget, has_number, not_full}
use Rattle.machine_laws.specs.TestLaws.{or_left, or_right}
use Rattle.machine_theorems.specs.Soundness.Stores.{SoundStore}
use Rattle.machine_theorems.specs.Soundness.Exits.{runner_low, runner-runs}
use Rattle.machine_theorems.specs.Soundness.Preserved.{waiting, await-made, complete-known}
use Rattle.machine_theorems.specs.Soundness.Sessions.{forget_sound_store, fresh_sound_store}
use Rattle.machine_sessions.specs.Waits.{said-accepted, said-refused}
use Rattle.machine_sessions.specs.Queue.Following.{Sends, stepped, short, sends, Following, send_following, session_follows}
use Rattle.machine_sessions.specs.Places.Told.{Frozen, co, pends, gave, broke, many, frozen}
use Rattle.machine_sessions.specs.Places.Agrees.{Agrees}
use Rattle.machine_sessions.specs.Places.AgreesEvents.{forget_agrees}
use Rattle.machine_sessions.specs.Places.AgreesSessions.{send_agrees, session_agrees}
use Rattle.machine_sessions.specs.Honest.Given.{loose, ret, err, fate, not-held, StateIs, NoTask, Given, NoneBut, NoneYet, given_like, queue_given}
use Rattle.machine_sessions.specs.Honest.GivenCycle.{TellsBy, Left, resume-left, fail-left, cancel-given, cleanup-given}
use Rattle.machine_sessions.specs.Honest.GivenAwait.{given-free, StayTells, AwaitGiven, stayed, switches, await-given}
use Rattle.machine_sessions.specs.Honest.GivenEvents.{calls_given, coroutine-given, pending-given, settled-given, gather-given, results-given, complete-left}

-- ---- the words one entry later

unfoldable last_by : Bool → Option ℕ → Option ℕ → Option ℕ
last_by true none r = r
last_by true (some o) r = some o
last_by false y r = r

unfoldable left_by : Bool → Option ℕ → Bool → Bool → Bool
left_by true none b r = r
left_by true (some o) b r = b
left_by false y b r = r

last_then : (x : Entry) (h : List Entry) (t : ℕ) → last_await (x ∷ h) t ≡ last_by (is_at (running h) t) (said x).awaits (last_await h t)
unfolding last_await
last_then x h t = by (is_at (running h) t) (said x).awaits
  where
    by : (b : Bool) (y : Option ℕ) → elim b [ true ↦ elim y [ none ↦ last_await h t | some o ↦ some o ] | false ↦ last_await h t ] ≡ last_by b y (last_await h t)
    by true none = unfold last_by in refl
    by true (some o) = unfold last_by in refl
    by false y = unfold last_by in refl

left-then : (x : Entry) (h : List Entry) (t : ℕ) → left_waiting (x ∷ h) t ≡ left_by (is_at (running h) t) (said x).awaits (not (runs_task (tells x.answer).control t)) (left_waiting h t)
unfolding left_waiting
left-then x h t = by (is_at (running h) t) (said x).awaits
  where
    by : (b : Bool) (y : Option ℕ) → elim b [ true ↦ elim y [ none ↦ left_waiting h t | some o ↦ not (runs_task (tells x.answer).control t) ] | false ↦ left_waiting h t ]
        ≡ left_by b y (not (runs_task (tells x.answer).control t)) (left_waiting h t)
    by true none = unfold left_by in refl
    by true (some o) = unfold left_by in refl
    by false y = unfold left_by in refl

-- what task t waits for: the object of its last await, if that left it waiting
unfoldable pub waits_by : Bool → Option ℕ → Option ℕ
waits_by true o = o
waits_by false o = none

unfoldable pub waits_for : List Entry → ℕ → Option ℕ
waits_for h t = waits_by (left_waiting h t) (last_await h t)

pub waits_last : (h : List Entry) (t o : ℕ) → waits_for h t ≡ some o → (left_waiting h t ≡ true) × (last_await h t ≡ some o)
unfolding waits_for waits_by
waits_last h t o e = by (left_waiting h t) refl e
  where
    by : (b : Bool) → left_waiting h t ≡ b → waits_by b (last_await h t) ≡ some o → (left_waiting h t ≡ true) × (last_await h t ≡ some o)
    by true q d = (q, d)
    by false q d = absurd_some d

-- no await
none_last : (x : Entry) (h : List Entry) (t : ℕ) → (said x).awaits ≡ none → last_await (x ∷ h) t ≡ last_await h t
none_last x h t e = last_then x h t ∙ (ap (λ (y : Option ℕ). last_by (is_at (running h) t) y (last_await h t)) e ∙ by (is_at (running h) t))
  where
    by : (b : Bool) → last_by b none (last_await h t) ≡ last_await h t
    by true = unfold last_by in refl
    by false = unfold last_by in refl

none-waits : (x : Entry) (h : List Entry) (t : ℕ) → (said x).awaits ≡ none → waits_for (x ∷ h) t ≡ waits_for h t
unfolding waits_for
none-waits x h t e = ap₂ waits_by (left-then x h t ∙ (ap (λ (y : Option ℕ). left_by (is_at (running h) t) y (not (runs_task (tells x.answer).control t)) (left_waiting h t)) e ∙ by (is_at (running h) t))) (none_last x h t e)
  where
    by : (b : Bool) → left_by b none (not (runs_task (tells x.answer).control t)) (left_waiting h t) ≡ left_waiting h t
    by true = unfold left_by in refl
    by false = unfold left_by in refl

-- somebody else awaits
other_last : (x : Entry) (h : List Entry) (t v : ℕ) → running h ≡ some t → (v ≡ t → ⊥) → last_await (x ∷ h) v ≡ last_await h v
unfolding is_at last_by
other_last x h t v r ne = last_then x h v ∙ ap (λ (b : Bool). last_by b (said x).awaits (last_await h v)) (ap (λ (y : Option ℕ). is_at y v) r ∙ ne_eqb t v (λ e. ne (sym e)))

other-waits : (x : Entry) (h : List Entry) (t v : ℕ) → running h ≡ some t → (v ≡ t → ⊥) → waits_for (x ∷ h) v ≡ waits_for h v
unfolding waits_for is_at left_by
other-waits x h t v r ne =
    ap₂ waits_by (left-then x h v ∙ ap (λ (b : Bool). left_by b (said x).awaits (not (runs_task (tells x.answer).control v)) (left_waiting h v)) (ap (λ (y : Option ℕ). is_at y v) r ∙ ne_eqb t v (λ e. ne (sym e)))) (other_last x h t v r ne)

-- the running task awaits o
own_last : (x : Entry) (h : List Entry) (t o : ℕ) → running h ≡ some t → (said x).awaits ≡ some o → last_await (x ∷ h) t ≡ some o
unfolding is_at last_by
own_last x h t o r e = last_then x h t ∙ ap₂ (λ (b : Bool) (y : Option ℕ). last_by b y (last_await h t)) (ap (λ (y : Option ℕ). is_at y t) r ∙ eq-eqb t t refl) e

own_waits : (x : Entry) (h : List Entry) (t o : ℕ) → running h ≡ some t → (said x).awaits ≡ some o → waits_for (x ∷ h) t ≡ waits_by (not (runs_task (tells x.answer).control t)) (some o)
unfolding waits_for is_at left_by
own_waits x h t o r e =
    ap₂ waits_by (left-then x h t ∙ ap₂ (λ (b : Bool) (y : Option ℕ). left_by b y (not (runs_task (tells x.answer).control t)) (left_waiting h t)) (ap (λ (y : Option ℕ). is_at y t) r ∙ eq-eqb t t refl) e) (own_last x h t o r e)

-- ---- what an event leaves

pub given_as : (W U : ℕ → Option ℕ) (u : Store) → ((t : ℕ) → U t ≡ W t) → Given W NoneBut NoneYet u → Given U NoneBut NoneYet u
given_as W U u e k =
    record {
      sized = k.sized;
      fates = λ t o q. k.fates t o (sym (e t) ∙ q);
      states = λ t l n. subst (λ (w : Option ℕ). StateIs w (λ o. fate o (object u o)) t (task u t).state) (sym (e t)) (k.states t l n);
      holders = k.holders;
      low = k.low;
      unborn = λ t l. e t ∙ k.unborn t l;
      slots = k.slots;
    }

-- what task t is told: what has come of its last awaited object, or a reuse error by its own await
abbrev pub ToldHow : List Entry → Entry → Store → ℕ → How → Type 0
ToldHow h x u t (start c f) = Unit {0}
ToldHow h x u t (value v) = (o : ℕ) × (last_await (x ∷ h) t ≡ some o) × (fate o (object u o) ≡ ret v)
ToldHow h x u t (raises e) =
    (o : ℕ) × (last_await (x ∷ h) t ≡ some o) × ((fate o (object u o) ≡ err e) ⊎ (((said x).awaits ≡ some o) × (running h ≡ some t) × (is_reuse e ≡ true)))
ToldHow h x u t (inline c) = Unit {0}

abbrev pub ToldBy : List Entry → Entry → Store → Option Control → Type 0
ToldBy h x u none = Unit {0}
ToldBy h x u (some (runs t a)) = ToldHow h x u t a
ToldBy h x u (some (waits cs)) = Unit {0}

pub record EntryGiven (h : List Entry) (x : Entry) (u : Store) : Type 0 where
  pub given : Given (waits_for (x ∷ h)) NoneBut NoneYet u
  pub told : ToldBy h x u (tells x.answer).control

abbrev pub StepGiven : List Entry → Event → Step → Type 0
StepGiven h e x = EntryGiven h (entry_of e x.answer x.store) x.store

-- by what is told of one's object
told-by : (h : List Entry) (x : Entry) (U : ℕ → Option ℕ) (u : Store) (c : Control) → ((t o : ℕ) → U t ≡ some o → last_await (x ∷ h) t ≡ some o) → TellsBy U u c → ToldBy h x u (some c)
told-by h x U u (runs t (start c f)) e k = tt
told-by h x U u (runs t (value v)) e k = (k.0.0, e t k.0.0 k.0.1, k.0.2)
told-by h x U u (runs t (raises y)) e k = (k.0.0, e t k.0.0 k.0.1, inl k.0.2)
told-by h x U u (runs t (inline c)) e k = tt
told-by h x U u (waits cs) e k = tt

said-none : (e : Event) (a : Answer) (u : Store) → (says e).awaits ≡ none → (said (entry_of e a u)).awaits ≡ none
said-none e a u q = by (tells a).accepts refl
  where
    by : (b : Bool) → (tells a).accepts ≡ b → (said (entry_of e a u)).awaits ≡ none
    by true d = ap (λ (y : Says). y.awaits) (said-accepted e a u d) ∙ q
    by false d = ap (λ (y : Says). y.awaits) (said-refused e a u d) ∙ (unfold nothing_said in refl)

-- nobody gets control
pub quiet_given : (h : List Entry) (e : Event) (a : Answer) (u : Store) → (said (entry_of e a u)).awaits ≡ none → ((x : Entry) → ToldBy h x u (tells a).control) → Given (waits_for h) NoneBut NoneYet u → EntryGiven h (entry_of e a u) u
quiet_given h e a u q y k = record { given = given_as (waits_for h) _ u (λ t. none-waits (entry_of e a u) h t q) k; told = unfold entry_of in (y (entry_of e a u)) }

-- a switch that is no await
switch_given : (h : List Entry) (e : Event) (y : Switched) → (says e).awaits ≡ none → Left (waits_for h) y → StepGiven h e (switched y)
unfolding switched
switch_given h e y q k =
    record {
      given = given_as (waits_for h) _ y.store (λ t. none-waits x h t awaits-none) k.given;
      told = subst (ToldBy h x y.store) (control-is y) (told-by h x (waits_for h) y.store y.control (λ t o d. none_last x h t awaits-none ∙ (waits_last h t o d).1) k.tells);
    }
  where
    x : Entry
    x = entry_of e (Answer.control y.control) y.store

    awaits-none : (said x).awaits ≡ none
    awaits-none = said-none e (Answer.control y.control) y.store q

    control-is : (y : Switched) → some y.control ≡ (tells (entry_of e (Answer.control y.control) y.store).answer).control
    control-is y = unfold entry_of tells in refl

-- ---- what is not made

abbrev pub IsUnmade : Frozen → Type 0
IsUnmade Frozen.unmade = Unit {0}
IsUnmade (co b) = ⊥
IsUnmade (pends c r) = ⊥
IsUnmade (gave v) = ⊥
IsUnmade (broke y) = ⊥
IsUnmade (many f n) = ⊥

pub unmade-loose : (o : ℕ) (y : Object) → IsUnmade (frozen y) → fate o y ≡ loose
unfolding frozen fate
unmade-loose o Object.Unmade d = refl
unmade-loose o (Object.Coroutine f y) d = refl
unmade-loose o (Object.ExternalFuture c (ExternalFutureState.Pending a r)) d = absurd d
unmade-loose o (Object.ExternalFuture c (ExternalFutureState.Resolved v)) d = absurd d
unmade-loose o (Object.ExternalFuture c (ExternalFutureState.Failed v)) d = absurd d
unmade-loose o (Object.GatherFuture f n y) d = absurd d

-- ---- an await

runs_own : (t : ℕ) (a : How) → runs_task (some (runs t a)) t ≡ true
unfolding runs_task
runs_own t a = eq-eqb t t refl

-- who has control runs
runner-told : (U : ℕ → Option ℕ) (u : Store) (t : ℕ) (c : Control) → runs_task (some c) t ≡ true → TellsBy U u c → (task u t).state ≡ TaskState.Running
unfolding runs_task
runner-told U u t (runs v a) e k = subst (λ (n : ℕ). (task u n).state ≡ TaskState.Running) (eqb-true v t e) k.1
runner-told U u t (waits cs) e k = absurd (true≢false (sym e))

stay_told : (h : List Entry) (x : Entry) (u : Store) (t o : ℕ) (a : How) → running h ≡ some t → (said x).awaits ≡ some o → StayTells (fate o (object u o)) a → ToldHow h x u t a
stay_told h x u t o (start c f) r e k = tt
stay_told h x u t o (value v) r e k = (o, own_last x h t o r e, k)
stay_told h x u t o (raises y) r e (inl k) = (o, own_last x h t o r e, inl k)
stay_told h x u t o (raises y) r e (inr k) = (o, own_last x h t o r e, inr (e, r, k))
stay_told h x u t o (inline c) r e k = tt

module _ (h : List Entry) (s : Store) (w : SoundStore s) (k : Agrees h s) (g : Given (waits_for h) NoneBut NoneYet s) where
  module _ (t o : ℕ) (m : (header s).moment ≡ Moment.Running (task_id t)) (l : o < (header s).made) where
    runs_it : running h ≡ some t
    runs_it = k.runner (task_id t) m

    -- with this await
    U : ℕ → Option ℕ
    U v = pick (eqb t v) (some o) (waits_for h v)

    U-here : U t ≡ some o
    unfolding U
    U-here = ap (λ (b : Bool). pick b (some o) (waits_for h t)) (eq-eqb t t refl)

    U-other : (v : ℕ) → (v ≡ t → ⊥) → U v ≡ waits_for h v
    unfolding U
    U-other v ne = ap (λ (b : Bool). pick b (some o) (waits_for h v)) (ne_eqb t v (λ e. ne (sym e)))

    unmade-not : object s o ≡ Object.Unmade → ⊥
    unfolding view object_in_range
    unmade-not e = subst (λ (x : Object). T (object_in_range (header s) (places_below (object s) o) x)) e (w.facts.but.objects o l)

    abbrev e : Event
    e = Event.await o

    module _ (y : Awaited) where
      x : Entry
      x = entry_of e (Answer.awaited y.control y.steps) y.store

      said-it : (said x).awaits ≡ some o
      unfolding x
      said-it = ap (λ (z : Says). z.awaits) (said-accepted e (Answer.awaited y.control y.steps) y.store (unfold tells in refl)) ∙ (unfold says in refl)

      control-is : (tells x.answer).control ≡ some y.control
      control-is = unfold x entry_of tells in refl

      -- the same task goes on
      stays-given : (a : How) → Given (waits_for h) NoneBut NoneYet y.store → (task y.store t).state ≡ TaskState.Running → StayTells (fate o (object y.store o)) a → y.control ≡ runs t a → EntryGiven h x y.store
      stays-given a q r st c =
          record {
            given = given-free (waits_for h) (waits_for (x ∷ h)) t y.store (λ v ne. other-waits x h t v runs_it ne) (own_waits x h t o runs_it said-it ∙ goes_on) r q;
            told = subst (ToldBy h x y.store) (sym (control-is ∙ ap (λ (z : Control). some z) c)) (stay_told h x y.store t o a runs_it said-it st);
          }
        where
          goes_on : waits_by (not (runs_task (tells x.answer).control t)) (some o) ≡ none
          goes_on = ap (λ (z : Option Control). waits_by (not (runs_task z t)) (some o)) (control-is ∙ ap (λ (z : Control). some z) c) ∙ (ap (λ (b : Bool). waits_by (not b) (some o)) (runs_own t a) ∙ (unfold waits_by in refl))

      last-is : (v p : ℕ) → U v ≡ some p → last_await (x ∷ h) v ≡ some p
      last-is v p d = by (ℕ_discrete v t)
        where
          by : Dec (v ≡ t) → last_await (x ∷ h) v ≡ some p
          by (yes q) = subst (λ (n : ℕ). last_await (x ∷ h) n ≡ some p) (sym q) (own_last x h t o runs_it said-it ∙ (sym U-here ∙ subst (λ (n : ℕ). U n ≡ some p) q d))
          by (no ne) = other_last x h t v runs_it ne ∙ (waits_last h v p (sym (U-other v ne) ∙ d)).1

      -- it blocks
      blocks-given : Given U NoneBut NoneYet y.store → TellsBy U y.store y.control → EntryGiven h x y.store
      blocks-given q c =
          record {
            given = by (runs_task (tells x.answer).control t) refl;
            told = subst (ToldBy h x y.store) (sym control-is) (told-by h x U y.store y.control last-is c);
          }
        where
          others : (v : ℕ) → (v ≡ t → ⊥) → waits_for (x ∷ h) v ≡ U v
          others v ne = other-waits x h t v runs_it ne ∙ sym (U-other v ne)

          all : runs_task (tells x.answer).control t ≡ false → (v : ℕ) → Dec (v ≡ t) → waits_for (x ∷ h) v ≡ U v
          all d v (yes z) =
              subst (λ (n : ℕ). waits_for (x ∷ h) n ≡ U n) (sym z) (own_waits x h t o runs_it said-it ∙ (ap (λ (b : Bool). waits_by (not b) (some o)) d ∙ (waits-true ∙ sym U-here)))
            where
              waits-true : waits_by (not false) (some o) ≡ some o
              waits-true = unfold waits_by in refl
          all d v (no ne) = others v ne

          by : (b : Bool) → runs_task (tells x.answer).control t ≡ b → Given (waits_for (x ∷ h)) NoneBut NoneYet y.store
          by true d =
              given-free U (waits_for (x ∷ h)) t y.store others (own_waits x h t o runs_it said-it ∙ (ap (λ (b : Bool). waits_by (not b) (some o)) d ∙ (unfold waits_by in refl)))
              (runner-told U y.store t y.control (subst (λ (z : Option Control). runs_task z t ≡ true) control-is d) c) q
          by false d = given_as U (waits_for (x ∷ h)) y.store (λ v. all d v (ℕ_discrete v t)) q

    await-entry : EntryGiven h (x (exec_get_awaitable s t o)) (exec_get_awaitable s t o).store
    await-entry = by (exec_get_awaitable s t o) (await-given (waits_for h) U t o U-here U-other low tlow s next (runner-runs s t w m) g unmade-not)
      where
        next : t < (header s).next
        next = runner_low s t w m

        low : o < object_limit
        low = omega (arith, l, (header-fits s).made_fits)

        tlow : t < task_limit
        tlow = omega (arith, next, (header-fits s).next_fits)

        by : (y : Awaited) → AwaitGiven (waits_for h) U t o U-here U-other low tlow y → EntryGiven h (x y) y.store
        by y (stayed a q r st c) = stays-given y a q r st c
        by y (switches z q es ec) =
            blocks-given y (subst (Given U NoneBut NoneYet) (sym es) q.given) (subst (λ (u : Store). TellsBy U u y.control) (sym es) (subst (TellsBy U z.store) (sym ec) q.tells))

    await-step : StepGiven h (Event.await o) (answer_await (exec_get_awaitable s t o))
    unfolding answer_await x
    await-step = await-entry

  -- ---- the end of a task

  tlow : (t : ℕ) → (header s).moment ≡ Moment.Running (task_id t) → t < task_limit
  tlow t m = omega (arith, runner_low s t w m, (header-fits s).next_fits)

  complete-step : (t : ℕ) (v : Value) → (header s).moment ≡ Moment.Running (task_id t) → T (value_known (header s).made (object s) v) → StepGiven h (Event.complete v) (task_completes s t v)
  unfolding task_completes end_main
  complete-step zero v m kn =
      quiet_given h (Event.complete v) (Answer.finished v) (cleanup s) (said-none (Event.complete v) (Answer.finished v) (cleanup s) (unfold says in refl)) (λ y. unfold tells done_only in tt) (cleanup-given (waits_for h) s g)
  complete-step (suc t) v m kn =
      rw (ne_eqb (suc t) 0 (λ y. not-suc-le-zero {n = 0} (omega arith)))
      (switch_given h (Event.complete v) (handle_task_completion s (suc t) v) (unfold says in refl) (complete-left (waits_for h) s (suc t) v (tlow (suc t) m) (value-fits (header s).made (object s) v (header-fits s).made_fits kn) g))

  fail-step : (t n : ℕ) → (header s).moment ≡ Moment.Running (task_id t) → n < u32_limit → StepGiven h (Event.fail n) (task_fails s t (Error.Script n))
  unfolding task_fails end_main
  fail-step zero n m l =
      quiet_given h (Event.fail n) (Answer.finished_error (Error.Script n)) (cleanup s) (said-none (Event.fail n) (Answer.finished_error (Error.Script n)) (cleanup s) (unfold says in refl)) (λ y. unfold tells done_only in tt) (cleanup-given (waits_for h) s g)
  fail-step (suc t) n m l =
      rw (ne_eqb (suc t) 0 (λ y. not-suc-le-zero {n = 0} (omega arith)))
      (switch_given h (Event.fail n) (handle_task_failure activate s (suc t) (Error.Script n)) (unfold says in refl) (fail-left (waits_for h) s (suc t) (Error.Script n) (tlow (suc t) m) l g))

  -- ---- resume

  repeat-told : (cs : List ℕ) (y : Entry) → ToldBy h y s (tells (repeat_wait cs)).control
  unfolding repeat_wait tells done_only
  repeat-told [] y = tt
  repeat-told (c ∷ cs) y = tt

  resume-step : StepGiven h Event.resume (resume_with_resolved_futures s)
  unfolding resume_with_resolved_futures
  resume-step = by (eqb s.queue.len 0)
    where
      by : (b : Bool) → StepGiven h Event.resume (pick b (record { store = s; answer = repeat_wait (pending_call_ids s) }) (switched (resume_next activate s)))
      by true = quiet_given h Event.resume (repeat_wait (pending_call_ids s)) s (said-none Event.resume (repeat_wait (pending_call_ids s)) s (unfold says nothing_said in refl)) (repeat-told (pending_call_ids s)) g
      by false = switch_given h Event.resume (resume_next activate s) (unfold says nothing_said in refl) (resume-left (waits_for h) s g)

  -- ---- each event

  behind : fate (header s).made (object s (header s).made) ≡ loose
  behind = unmade-loose (header s).made (object s (header s).made) (subst IsUnmade (sym (k.behind (header s).made (omega arith))) tt)

  not-not : (b : Bool) → not b ≡ false → T b
  not-not true e = tt
  not-not false e = absurd (true≢false e)

  -- nobody gets control
  quiet_step : (e : Event) (a : Answer) (u : Store) → (says e).awaits ≡ none → (tells a).control ≡ none → Given (waits_for h) NoneBut NoneYet u → StepGiven h e (record { store = u; answer = a })
  quiet_step e a u q c y = quiet_given h e a u (said-none e a u q) (λ z. subst (ToldBy h z u) (sym c) tt) y

  pub accept-given : (e : Event) → InRange e → refusal s e ≡ 0 → StepGiven h e (accept s e)
  unfolding accept refusals in_both InRange
  accept-given (Event.coroutine f) i r =
      quiet_step (Event.coroutine f) _ _ (unfold says nothing_said in refl) (unfold tells in refl) (coroutine-given (waits_for h) s g (not_full s (pass 6 (full s) [] (running-rest s _ (refusal-rest s (Event.coroutine f) r))).0) behind f)
  accept-given Event.call i r =
      quiet_step Event.call _ _ (unfold says nothing_said in refl) (unfold tells done_only in refl) (calls_given (waits_for h) s g (has_number s (pass 7 (no_number s) [] (running-rest s _ (refusal-rest s Event.call r))).0))
  accept-given (Event.pending c y) i r =
      quiet_step (Event.pending c y) _ _ (unfold says in refl) (unfold tells in refl)
      (pending-given (waits_for h) s g (not_full s (pass 6 (full s) [] (pass 5 _ _ (pass 4 _ _ (running-rest s _ (refusal-rest s (Event.pending c y) r))).1).1).0) behind c y)
  accept-given (Event.settled v) i r =
      let five = pass 4 (not (value_known (header s).made (object s) v)) _ (running-rest s _ (refusal-rest s (Event.settled v) r)) in
      let seven = pass 6 (full s) _ five.1 in
      quiet_step (Event.settled v) _ _ (unfold says nothing_said in refl) (unfold tells in refl)
      (settled-given (waits_for h) s g (not_full s seven.0) behind v (has_number s (pass 7 (no_number s) [] seven.1).0) (value-fits (header s).made (object s) v (header-fits s).made_fits (not-not (value_known (header s).made (object s) v) five.0)))
  accept-given (Event.gather os) i r =
      let q = (pass 6 (full s || ltb item_limit (length os) || ltb place_limit ((header s).used + length os)) [] (pass 4 _ _ (running-rest s _ (refusal-rest s (Event.gather os) r))).1).0 in
      quiet_step (Event.gather os) _ _ (unfold says in refl) (unfold tells in refl)
      (gather-given (waits_for h) s os (not_full s (or_left (full s) (ltb item_limit (length os)) (or_left (full s || ltb item_limit (length os)) (ltb place_limit ((header s).used + length os)) q)))
      (ltb-false place_limit ((header s).used + length os) (or_right (full s || ltb item_limit (length os)) (ltb place_limit ((header s).used + length os)) q)) behind g)
  accept-given (Event.await o) i r =
      let q = refusal-rest s (Event.await o) r in await-step (runner (header s).moment) o (Rattle.machine_theorems.specs.Soundness.Preserved.running s w _ q) (await-made s w o q)
  accept-given (Event.complete v) i r =
      let q = refusal-rest s (Event.complete v) r in complete-step (runner (header s).moment) v (Rattle.machine_theorems.specs.Soundness.Preserved.running s w _ q) (complete-known s w v q)
  accept-given (Event.fail n) i r = fail-step (runner (header s).moment) n (Rattle.machine_theorems.specs.Soundness.Preserved.running s w _ (refusal-rest s (Event.fail n) r)) i
  accept-given (Event.results rs) i r = quiet_step (Event.results rs) _ _ (unfold says in refl) (unfold tells done_only in refl) (unfold wake_in_order in (queue_given (waits_for h) _ _ (results-given (waits_for h) rs s g)))
  accept-given Event.resume i r = resume-step
  accept-given (Event.cancel t) i r = quiet_step (Event.cancel t) _ _ (unfold says in refl) (unfold tells done_only in refl) (cancel-given (waits_for h) s t g)
  accept-given (Event.show o) i r = quiet_step (Event.show o) _ _ (unfold says nothing_said in refl) (unfold tells done_only in refl) g
  accept-given Event.eager i r = quiet_step Event.eager _ _ (unfold says nothing_said in refl) (unfold tells done_only in refl) g

-- ---- sessions

pub forget-given : (W : ℕ → Option ℕ) (s : Store) → Given W NoneBut NoneYet s → Given W NoneBut NoneYet (forget s)
forget-given W s k = given_like W s (forget s) (sized-forget s k.sized) (unfold header forget in refl) (λ o. unfold object forget in refl) (λ t. unfold task forget in refl) k

refused-given : (h : List Entry) (s : Store) (e : Event) (n : ℕ) → Given (waits_for h) NoneBut NoneYet s → EntryGiven h (entry_of e (Answer.refused n) s) s
refused-given h s e n k =
    quiet_given h e (Answer.refused n) s (ap (λ (y : Says). y.awaits) (said-refused e (Answer.refused n) s (unfold tells in refl)) ∙ (unfold nothing_said in refl)) (λ y. unfold tells in tt) k

pub step_given : (h : List Entry) (s : Store) (e : Event) → InRange e → SoundStore s → Agrees h s → Given (waits_for h) NoneBut NoneYet s → StepGiven h e (step s e)
step_given h s e i w k g = by (ℕ_discrete (refusal s e) 0)
  where
    by : Dec (refusal s e ≡ 0) → StepGiven h e (step s e)
    by (yes r) = subst (StepGiven h e) (sym (accepted-step s e r)) (accept-given h (forget s) (forget_sound_store s w) (forget_agrees h s k) (forget-given (waits_for h) s g) e i (refusal-forget s e ∙ r))
    by (no ne) = subst (StepGiven h e) (sym (refused-step s e (refusal s e) refl ne)) (refused-given h (forget s) e (refusal s e) (forget-given (waits_for h) s g))

-- one event more: the entry, and what it leaves
pub send-given : (h : List Entry) (s : Store) (e : Sent) → InRange e.event → SoundStore s → Agrees h s → Given (waits_for h) NoneBut NoneYet s
    → EntryGiven h (entry_of e.event (lent_any s e).answer (lent_any s e).store) (lent_any s e).store
send-given h s e i w k g = by (sends s e w.memory.sized)
  where
    by : Sends s e → EntryGiven h (entry_of e.event (lent_any s e).answer (lent_any s e).store) (lent_any s e).store
    by (stepped p q) =
        subst (λ (a : Answer). EntryGiven h (entry_of e.event a (lent_any s e).store) (lent_any s e).store) (sym q)
        (subst (λ (u : Store). EntryGiven h (entry_of e.event (step s e.event).answer u) u) (sym p) (step_given h s e.event i w k g))
    by (short p q) =
        subst (λ (a : Answer). EntryGiven h (entry_of e.event a (lent_any s e).store) (lent_any s e).store) (sym q)
        (subst (λ (u : Store). EntryGiven h (entry_of e.event (Answer.refused 1) u) u) (sym p) (refused-given h s e.event 1 g))

sessions_given : (es : List Sent) (x : Session) → AllSentInRange es → Following x → Agrees x.history x.store → Given (waits_for x.history) NoneBut NoneYet x.store
    → Given (waits_for (send_all x es).history) NoneBut NoneYet (send_all x es).store
unfolding send_all AllSentInRange
sessions_given [] x i f k g = g
sessions_given (e ∷ es) x i f k g = sessions_given es (send x e) i.1 (send_following x e i.0 f) (send_agrees x e i.0 f k) (unfold send in (send-given x.history x.store e i.0 f.whole k g).given)

-- ---- the beginning

zeros : (n k : ℕ) → ◌≡◌ {A = ℕ} (get_or (replicate {A = ℕ} n 0) k 0) 0
zeros zero k = refl
zeros (suc n) zero = refl
zeros (suc n) (suc k) = zeros n k

row-zeros : (n b j m : ℕ) → row_from (replicate {A = ℕ} n 0) b j m ≡ replicate {A = ℕ} m 0
row-zeros n b j zero = refl
row-zeros n b j (suc m) = rw (zeros n (b + j), row-zeros n b (suc j) m)

fresh-other : (t : ℕ) → task fresh (suc t) ≡ to_task (replicate {A = ℕ} 8 0)
fresh-other t = by-main ∙ zero_row
  where
    by-main : task fresh (suc t) ≡ task empty (suc t)
    by-main = unfold fresh in (task_put-other (put_header empty _) 0 (suc t) _ (λ e. not-suc-le-zero {n = 0} (omega (arith, e))) ∙ head-same _)
      where
        head-same : (i : Header) → task (put_header empty i) (suc t) ≡ task empty (suc t)
        head-same i = unfold task put_header in refl

    zero_row : task empty (suc t) ≡ to_task (replicate {A = ℕ} 8 0)
    zero_row = unfold task empty task_at in (ap to_task (row-zeros tasks_length (task_start (suc t)) 0 8))

fresh_main : ((task fresh 0).state ≡ TaskState.Running) × ((task fresh 0).awaiter ≡ Awaiter.Nobody) × ((header fresh).made ≡ 0)
unfolding computes
fresh_main = (refl, refl, refl)

fresh_agrees : Agrees [] fresh
unfolding session begun AllSentInRange send_all
fresh_agrees = session_agrees [] tt

none_first : (t o : ℕ) {A : Type 0} → waits_for [] t ≡ some o → A
unfolding waits_for waits_by left_waiting
none_first t o e = absurd_some e

fresh-given : Given (waits_for []) NoneBut NoneYet fresh
fresh-given =
    record {
      sized = fresh_sound_store.memory.sized;
      fates = λ t o e. none_first t o e;
      states = λ t l n. states-by t;
      holders = λ o t e l. not-held t loose tt (sym (loose-all o) ∙ e);
      low = λ o t e. not-held t loose tt (sym (loose-all o) ∙ e);
      unborn = λ t l. unfold waits_for waits_by left_waiting in refl;
      slots = λ t l. slots-by t;
    }
  where
    loose-all : (o : ℕ) → fate o (object fresh o) ≡ loose
    loose-all o = unmade-loose o (object fresh o) (subst IsUnmade (sym (fresh_agrees.behind o (omega (arith, fresh_main.2)))) tt)

    states-by : (t : ℕ) → StateIs (waits_for [] t) (λ o. fate o (object fresh o)) t (task fresh t).state
    states-by zero = subst (StateIs (waits_for [] 0) (λ o. fate o (object fresh o)) 0) (sym fresh_main.0) (λ o e. none_first 0 o e)
    states-by (suc t) = subst (λ (r : Task). StateIs (waits_for [] (suc t)) (λ o. fate o (object fresh o)) (suc t) r.state) (sym (fresh-other t)) tt

    slots-by : (t : ℕ) → NoTask (task fresh t).awaiter
    slots-by zero = subst NoTask (sym fresh_main.1) tt
    slots-by (suc t) = subst (λ (r : Task). NoTask r.awaiter) (sym (fresh-other t)) tt

-- Every session from its beginning.
pub session-given : (es : List Sent) → AllSentInRange es → Given (waits_for (session es).history) NoneBut NoneYet (session es).store
unfolding session begun AllSentInRange send_all
session-given es i = sessions_given es begun i (session_follows [] tt) fresh_agrees fresh-given
