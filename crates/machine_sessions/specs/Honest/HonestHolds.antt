-- What happened is what events and answers say, for each accepted event: all of `EntryHonest` but what is handed to a task that runs on.
use Rattle.std.specs.Prelude.{◌≡◌, Bool, ◌||◌, eqb}
use Rattle.std.proofs.Math.Path.{refl, ap, subst}
use Rattle.std.proofs.Common.{sym, ◌∙◌, true≢false, arith}
use Rattle.std.proofs.Math.Bool.{true, false, not}
use mathlib.Core.List.{List, [], ◌∷◌}
use Rattle.std.proofs.Math.Option.{Option, none, some, some-injective}
use Prim.Native.Nat.{ℕ, zero, suc, ◌+◌, ◌≤◌, ◌<◌}
use Rattle.std.proofs.Math.Nat.{not-suc-le-zero}
use Rattle.std.proofs.Math.Dec.{ltb}
use Rattle.std.proofs.Math.ListN.{length}
use borrow.Author.Tests.{ne_eqb, eqb-false, ltb-false}
use Rattle.asyncio.specs.declared.Value.{Value}
use Rattle.asyncio.specs.declared.Error.{Error}
use Rattle.asyncio.specs.declared.Header.{Header}
use Rattle.asyncio.specs.declared.Moment.{Moment}
use Rattle.asyncio.specs.Limits.{object_limit, item_limit, place_limit, call_limit}
use Rattle.asyncio.specs.Numbers.{task_id}
use Rattle.asyncio.specs.States.{pick}
use Rattle.machine.specs.Store.{Store, LogEntry, object, header, forget}
use Rattle.machine.specs.Scheduler.{live, pending_call_ids, cancel_task, cleanup}
use Rattle.machine.specs.Events.{How, start, value, raises, inline, Control, runs, waits, Switched, Awaited, Result, activate, resume_next, handle_task_completion, handle_task_failure, exec_get_awaitable, apply_future_results, make_coroutine, make_pending, make_settled, make_gather, wake_in_order}
use Rattle.machine.specs.Machine.{Event, Answer, Shown, Step, switched, answer_await, end_main, task_completes, task_fails, runner, repeat_wait, resume_with_resolved_futures, refusals, refusal, full, no_number, accept, in_both, answer_cancel}
use Rattle.machine.specs.Sound.{is_ended}
use Rattle.machine.specs.History.{Entry, Says, says, nothing_said, said, tells, done_only, is_none, lives_by, lives, stays_blocked, spawned_for, running, coroutine_of}
use Rattle.machine.specs.Sessions.{InRange, happened_by, entry_of}
use Rattle.machine.specs.Honest.{has_value, ends_task, runs_task, spawns, blocks_in, exits_in, removes_in, LogHonest, ToldHonest, ControlHonest, EntryHonest}
use Rattle.machine_laws.specs.StoreLaws.{header-fits}
use Rattle.machine_laws.specs.SoundLaws.{pass, running-rest, refusal-rest, has_number, not_full}
use Rattle.machine_laws.specs.TestLaws.{or_left, or_right}
use Rattle.machine_theorems.specs.Soundness.Stores.{SoundStore}
use Rattle.machine_theorems.specs.Soundness.Preserved.{waiting, await-made}
use Rattle.machine_sessions.specs.Queue.Tracked.{Tracked, live_low}
use Rattle.machine_sessions.specs.Queue.TrackedEvents.{accept_tracked}
use Rattle.machine_sessions.specs.Waits.{said-accepted}
use Rattle.machine_sessions.specs.Stall.StandingEvents.{MainEnds, StepRight}
use Rattle.machine_sessions.specs.Stall.GoesOn.{Finished, main_finishes}
use Rattle.machine_laws.specs.Facts.{Nothing}
use Rattle.machine_sessions.specs.Stall.Standing.{Stands}
use Rattle.machine_sessions.specs.Stall.StandingAwait.{accept-right, ends}
use Rattle.machine_sessions.specs.Places.Agrees.{Agrees}
use Rattle.machine_sessions.specs.Honest.Spawned.{Shape, shape, is_used, is_co, Spawned}
use Rattle.machine_sessions.specs.Honest.HonestWalk.{Ends, IsSpawned}
use Rattle.machine_sessions.specs.Honest.HonestLog.{BlockRight, LogRight, log_honest, Origins, Logged}
use Rattle.machine_sessions.specs.Honest.HonestIdle.{NoFresh, Idle, empty-begun, Begun, results-begun}
use Rattle.machine_sessions.specs.Honest.HonestEnds.{StartTold, ControlLeft, Left, Leaves, none-plain, waits-plain}
use Rattle.machine_sessions.specs.Honest.HonestEvents.{Held, complete-ends, fail-ends, exit_left, exit_logged, exit_waits, resume-left, resume-waits, same_left, results-left, cancel_left, cancel_logged, cancel-idle, end-log_right, end_dead}
use Rattle.machine_sessions.specs.Honest.HonestAwait.{await-left, await_blocks, await-waits}
use Rattle.machine_sessions.specs.Honest.HonestMakes.{Adds, call_adds, settled_adds, settled-shape, coroutine_adds, coroutine-shape, pending_adds, pending-shape, gather_adds, gather-used, co-used, calls_object, makes_left, adds_left}

-- ---- the last entry, but for what is handed to a task that runs on

pub record EntryLogged (h : List Entry) (x : Entry) : Type 0 where
  pub log : LogHonest h x x.happened
  pub blocks : (t : ℕ) → is_none (said x).awaits ≡ false → running h ≡ some t → runs_task (tells x.answer).control t ≡ false → blocks_in x.happened t ≡ true
  pub exits : (t : ℕ) → running h ≡ some (suc t) → ends_task (said x) ≡ true → exits_in x.happened (suc t) ≡ true
  pub ends : (t : ℕ) → running h ≡ some 0 → ends_task (said x) ≡ true → lives (x ∷ h) t ≡ false
  pub removes : (t : ℕ) → x.event ≡ Event.cancel t → (tells x.answer).accepts ≡ true → removes_in x.happened t ≡ true
  pub control : ControlLeft h x x.happened (tells x.answer).control

-- a value or an error is handed
abbrev pub IsHanded : How → Type 0
IsHanded (start c f) = ⊥
IsHanded (value v) = Unit {0}
IsHanded (raises e) = Unit {0}
IsHanded (inline c) = ⊥

told-by : (h : List Entry) (x : Entry) (look : ℕ → Shown) (t : ℕ) (a : How) → (IsHanded a → ToldHonest h x look t a) → StartTold h x x.happened t a → ToldHonest h x look t a
unfolding ToldHonest StartTold spawned_for
told-by h x look t (start c f) g k = k
told-by h x look t (value v) g k = g tt
told-by h x look t (raises e) g k = g tt
told-by h x look t (inline c) g k = k

control-by : (h : List Entry) (x : Entry) (look : ℕ → Shown) (c : Option Control) → ((t : ℕ) (a : How) → c ≡ some (runs t a) → IsHanded a → ToldHonest h x look t a) → ControlLeft h x x.happened c → ControlHonest h x look c
unfolding ControlHonest ControlLeft lives stays_blocked
control-by h x look none g k = tt
control-by h x look (some (runs t a)) g k = (k.0, k.1, told-by h x look t a (g t a refl) k.2)
control-by h x look (some (waits cs)) g k = tt

-- no resume starts a task
abbrev pub ResumesOn : Entry → Type 0
ResumesOn x = (t c f : ℕ) → x.event ≡ Event.resume → (tells x.answer).control ≡ some (runs t (start c f)) → ⊥

-- With both, all of the last entry is honest.
pub entry_honest : (h : List Entry) (x : Entry) (look : ℕ → Shown) → ((t : ℕ) (a : How) → (tells x.answer).control ≡ some (runs t a) → IsHanded a → ToldHonest h x look t a) → ResumesOn x → EntryLogged h x
    → EntryHonest h x look
entry_honest h x look g r k =
    record {
      log = k.log;
      blocks = k.blocks;
      exits = k.exits;
      ends = k.ends;
      removes = k.removes;
      control = control-by h x look (tells x.answer).control g k.control;
      resumes = r;
    }

-- ---- what a session has until it ends

pub record Kept (h : List Entry) (s : Store) : Type 0 where
  pub spawns_are : Spawned (spawned_for h) (coroutine_of h) (spawns h) (λ o. shape (object s o)) (forget s)
  pub origins : Origins h (λ o. shape (object s o))
  pub idle : Idle s

-- one event
pub record Stepped (h : List Entry) (e : Event) (y : Step) : Type 0 where
  pub entry : EntryLogged h (entry_of e y.answer y.store)
  pub after : is_ended (header y.store).moment ≡ false → Kept (entry_of e y.answer y.store ∷ h) y.store

-- ---- an accepted entry

pub happens_all : (e : Event) (a : Answer) (u : Store) → (tells a).accepts ≡ true → (entry_of e a u).happened ≡ u.log
unfolding entry_of happened_by
happens_all e a u q = ap (λ (b : Bool). happened_by b u.log) q

none_is : (x : Option ℕ) → x ≡ none → is_none x ≡ false → ⊥
unfolding is_none
none_is x e q = true≢false (ap is_none (sym e) ∙ q)

-- what an event says: no await, no end, no cancel
pub record Quiet (y : Says) : Type 0 where
  pub no_await : y.awaits ≡ none
  pub no_end : ends_task y ≡ false
  pub no_cancel : y.cancels ≡ false

not-cancel : (e : Event) (t : ℕ) → (says e).cancels ≡ false → e ≡ Event.cancel t → ⊥
not-cancel e t q d = true≢false (is-cancel t ∙ (ap (λ (z : Event). (says z).cancels) (sym d) ∙ q))
  where
    is-cancel : (t : ℕ) → true ≡ (says (Event.cancel t)).cancels
    is-cancel t = unfold says in refl

module _ (h : List Entry) (e : Event) (y : Step) (ok : (tells y.answer).accepts ≡ true) where
  abbrev x : Entry
  x = entry_of e y.answer y.store

  says-it : said x ≡ says e
  says-it = said-accepted e y.answer y.store ok

  logs-it : x.happened ≡ y.store.log
  logs-it = happens_all e y.answer y.store ok

  pub leaves_it : (tells y.answer).makes ≡ none → Leaves x (tells y.answer).control y.store
  leaves_it m = record { happens = logs-it; controls = unfold entry_of in refl; makes_none = unfold entry_of in m }

  logged-by : ((t : ℕ) → BlockRight h x t → blocks_in y.store.log t ≡ true → runs_task (tells y.answer).control t ≡ false) → LogRight h x y.store.log → LogHonest h x x.happened
  logged-by b k = subst (LogHonest h x) (sym logs-it) (log_honest h x y.store.log (λ t r q. unfold entry_of in (b t r q)) k)

  control-is : ControlLeft h x y.store.log (tells y.answer).control → ControlLeft h x x.happened (tells x.answer).control
  control-is k = subst (λ (l : List LogEntry). ControlLeft h x l (tells x.answer).control) (sym logs-it) (unfold entry_of in k)

  -- an event that says none of these
  pub quiet_logged : Quiet (says e) → LogRight h x y.store.log → ControlLeft h x y.store.log (tells y.answer).control → EntryLogged h x
  quiet_logged q l c =
      record {
        log = logged-by (λ t r d. absurd (no_await r.0)) l;
        blocks = λ t d. absurd (no_await d);
        exits = λ t d f. absurd (no_end f);
        ends = λ t d f. absurd (no_end f);
        removes = λ t d. absurd (not-cancel e t q.no_cancel (unfold entry_of in d));
        control = control-is c;
      }
    where
      no_await : is_none (said x).awaits ≡ false → ⊥
      no_await d = none_is (said x).awaits (ap (λ (z : Says). z.awaits) says-it ∙ q.no_await) d

      no_end : ends_task (said x) ≡ true → ⊥
      no_end d = true≢false (sym d ∙ (ap ends_task says-it ∙ q.no_end))

  left-control : ControlLeft h x y.store.log (tells x.answer).control → ControlLeft h x y.store.log (tells y.answer).control
  unfolding entry_of
  left-control k = k

  pub quiet_left : Quiet (says e) → Left h x y.store → EntryLogged h x
  quiet_left q l = quiet_logged q l.log_right (left-control l.control_left)

-- ---- each event

-- what an event leaves, if the session has not ended there
abbrev StepLeft : Step → Type 0
StepLeft y = StepRight (is_ended (header y.store).moment ≡ true) y

left_by : (s : Store) (e : Event) → SoundStore s → Stands Nothing s → StepRight (MainEnds s e) (accept s e) → StepLeft (accept s e)
left_by s e w st k = record { stood = λ n. k.stood (λ m. n (ended m)); waits_idle = k.waits_idle; stalls_idle = k.stalls_idle }
  where
    ended : MainEnds s e → is_ended (header (accept s e).store).moment ≡ true
    ended m = ap (λ (u : Store). is_ended (header u).moment) (main_finishes s e m).store_is ∙ ends s w st

kept_of : (h : List Entry) (x : Entry) (u : Store) → Left h x u → Idle u → Kept (x ∷ h) u
kept_of h x u l i = record { spawns_are = l.spawns_are; origins = l.origins; idle = i }

idle-by : (y : Step) → StepLeft y → is_ended (header y.store).moment ≡ false → ((header y.store).moment ≡ Moment.Waiting → NoFresh y.store) → Idle y.store
idle-by y k on f = record { stood = k.stood (λ z. true≢false (sym z ∙ on)); begun = f }

-- in waiting, the answer is a wait
idle-waits : (y : Step) → StepLeft y → is_ended (header y.store).moment ≡ false → ((header y.store).moment ≡ Moment.Waiting → (cs : List ℕ) × ((tells y.answer).control ≡ some (waits cs))) → Idle y.store
idle-waits y k on f = idle-by y k on (λ m. let c = f m in empty-begun y.store (k.stood (λ z. true≢false (sym z ∙ on))) (k.waits_idle c.0 c.1).1)

ended-not : (m : Moment) (t : ℕ) → m ≡ Moment.Running (task_id t) → is_ended m ≡ false
unfolding is_ended
ended-not m t e = ap is_ended e

waiting-not : (m : Moment) → m ≡ Moment.Waiting → is_ended m ≡ false
unfolding is_ended
waiting-not m e = ap is_ended e

not-waiting : {A : Type 0} (m : Moment) (t : ℕ) → m ≡ Moment.Running (task_id t) → m ≡ Moment.Waiting → A
not-waiting m t e q = let z : ◌≡◌ {A = ℕ} 0 1 = cc in absurd (omega arith)

same_some : (a b : ℕ) → ◌≡◌ {A = Option ℕ} (some a) (some b) → a ≡ b
same_some a b e = some-injective a b e

-- an event that awaits, ends and cancels nothing
unfoldable IsQuiet : Event → Type 0
IsQuiet (Event.coroutine f) = Unit {0}
IsQuiet Event.call = Unit {0}
IsQuiet (Event.pending c r) = Unit {0}
IsQuiet (Event.settled v) = Unit {0}
IsQuiet (Event.gather os) = Unit {0}
IsQuiet (Event.await o) = ⊥
IsQuiet (Event.complete v) = ⊥
IsQuiet (Event.fail n) = ⊥
IsQuiet (Event.results rs) = Unit {0}
IsQuiet Event.resume = Unit {0}
IsQuiet (Event.cancel t) = ⊥
IsQuiet (Event.show o) = Unit {0}
IsQuiet Event.eager = Unit {0}

quiet_of : (e : Event) → IsQuiet e → Quiet (says e)
unfolding IsQuiet says nothing_said ends_task has_value is_none
quiet_of (Event.coroutine f) k = record { no_await = refl; no_end = refl; no_cancel = refl }
quiet_of Event.call k = record { no_await = refl; no_end = refl; no_cancel = refl }
quiet_of (Event.pending c r) k = record { no_await = refl; no_end = refl; no_cancel = refl }
quiet_of (Event.settled v) k = record { no_await = refl; no_end = refl; no_cancel = refl }
quiet_of (Event.gather os) k = record { no_await = refl; no_end = refl; no_cancel = refl }
quiet_of (Event.await o) k = absurd k
quiet_of (Event.complete v) k = absurd k
quiet_of (Event.fail n) k = absurd k
quiet_of (Event.results rs) k = record { no_await = refl; no_end = refl; no_cancel = refl }
quiet_of Event.resume k = record { no_await = refl; no_end = refl; no_cancel = refl }
quiet_of (Event.cancel t) k = absurd k
quiet_of (Event.show o) k = record { no_await = refl; no_end = refl; no_cancel = refl }
quiet_of Event.eager k = record { no_await = refl; no_end = refl; no_cancel = refl }

new_is : (f g : ℕ) → Shape.new f ≡ Shape.new g → f ≡ g
new_is f g e = cc

not-co : {A : Type 0} (y : Shape) (g : ℕ) → is_co y ≡ false → y ≡ Shape.new g → A
not-co y g e q = absurd (true≢false (ap is_co (sym q) ∙ e))

module _ (h : List Entry) (s : Store) (w : SoundStore s) (tr : Tracked (lives h) (stays_blocked h) s) (ag : Agrees h s) (same : forget s ≡ s) (kept : is_ended (header s).moment ≡ false → Kept h s) where
  empty_log : s.log ≡ []
  empty_log = ap (λ (u : Store). u.log) (sym same) ∙ (unfold forget in refl)

  held : is_ended (header s).moment ≡ false → Held h s
  held on =
      record {
        tracked = tr;
        spawns_are = subst (Spawned (spawned_for h) (coroutine_of h) (spawns h) (λ o. shape (object s o))) same (kept on).spawns_are;
        origins = (kept on).origins;
        empty_log = empty_log;
      }

  -- the store's own log is empty
  none_right : (x : Entry) (u : Store) → u.log ≡ s.log → LogRight h x u.log
  none_right x u e = subst (LogRight h x) (sym (e ∙ empty_log)) (unfold LogRight in tt)

  -- ---- making

  module _ (e : Event) (y : Step) (a : ℕ) (on : (header s).moment ≡ Moment.Running (task_id (runner (header s).moment))) (q : Quiet (says e)) (sr : StepLeft y) (ad : Adds s y.store (header s).made) where
    pub made-stepped : y.answer ≡ Answer.made (header s).made → is_used (shape (object y.store (header s).made)) ≡ false
        → ((f : ℕ) → shape (object y.store (header s).made) ≡ Shape.new f → e ≡ Event.coroutine f) → Stepped h e y
    made-stepped an us nw =
        record {
          entry = quiet_logged h e y ok q (none_right _ y.store ad.same_log) (subst (ControlLeft h _ y.store.log) (sym nobody) (unfold ControlLeft in tt));
          after = λ z. kept_of h _ y.store
              (makes_left h s (held (ended-not _ _ on)) ag y.store ad (entry_of e y.answer y.store) (happens_all e y.answer y.store ok) (unfold entry_of in nobody) (unfold entry_of in makes) us (λ f d. unfold entry_of in (nw f d)))
              (idle-by y sr z (λ m. not-waiting (header y.store).moment _ (ad.same_moment ∙ on) m));
        }
      where
        ok : (tells y.answer).accepts ≡ true
        ok = ap (λ (z : Answer). (tells z).accepts) an ∙ (unfold tells in refl)

        nobody : (tells y.answer).control ≡ none
        nobody = ap (λ (z : Answer). (tells z).control) an ∙ (unfold tells in refl)

        makes : (tells y.answer).makes ≡ some (header s).made
        makes = ap (λ (z : Answer). (tells z).makes) an ∙ (unfold tells in refl)

    pub called-stepped : (n : ℕ) → y.answer ≡ Answer.called n → ((o : ℕ) → object y.store o ≡ object s o) → Stepped h e y
    called-stepped n an os =
        record {
          entry = quiet_logged h e y ok q (none_right _ y.store ad.same_log) (subst (ControlLeft h _ y.store.log) (sym nobody) (unfold ControlLeft in tt));
          after = λ z. kept_of h _ y.store
              (adds_left h s (held (ended-not _ _ on)) ag y.store ad (entry_of e y.answer y.store) (subst (λ (c : Option Control). Leaves (entry_of e y.answer y.store) c y.store) nobody (leaves_it h e y ok makes)) os)
              (idle-by y sr z (λ m. not-waiting (header y.store).moment _ (ad.same_moment ∙ on) m));
        }
      where
        ok : (tells y.answer).accepts ≡ true
        ok = ap (λ (z : Answer). (tells z).accepts) an ∙ (unfold tells done_only in refl)

        nobody : (tells y.answer).control ≡ none
        nobody = ap (λ (z : Answer). (tells z).control) an ∙ (unfold tells done_only in refl)

        makes : (tells y.answer).makes ≡ none
        makes = ap (λ (z : Answer). (tells z).makes) an ∙ (unfold tells done_only in refl)

  -- ---- an event that leaves the store

  pub same-stepped : (e : Event) (a : Answer) → Quiet (says e) → (tells a).accepts ≡ true → (tells a).makes ≡ none → ((x : Entry) → ControlLeft h x s.log (tells a).control) → Rattle.machine_sessions.specs.Honest.HonestEnds.Plain (tells a).control
      → Stepped h e (record { store = s; answer = a })
  same-stepped e a q ok mk ct pl =
      record {
        entry = quiet_logged h e y ok q (none_right _ s refl) (ct _);
        after = λ on. kept_of h _ s (same_left h s w (held on) (entry_of e a s) (tells a).control pl (ct _) (leaves_it h e y ok mk)) (kept on).idle;
      }
    where
      y : Step
      y = record { store = s; answer = a }

  -- ---- the end of a task

  -- a spawned one: e completes or fails it
  module _ (e : Event) (t : ℕ) (m : (header s).moment ≡ Moment.Running (task_id (suc t))) (na : (says e).awaits ≡ none) (nc : (says e).cancels ≡ false) (en : ends_task (says e) ≡ true) (z : Switched) where
    abbrev sw : Step
    sw = switched z

    abbrev xs : Entry
    xs = entry_of e sw.answer sw.store

    sw-ok : (tells sw.answer).accepts ≡ true
    unfolding switched tells
    sw-ok = refl

    sw-makes : (tells sw.answer).makes ≡ none
    unfolding switched tells
    sw-makes = refl

    sw-control : (tells sw.answer).control ≡ some z.control
    unfolding switched tells
    sw-control = refl

    sw-store : sw.store ≡ z.store
    unfolding switched
    sw-store = refl

    runs_it : running h ≡ some (suc t)
    runs_it = ag.runner (task_id (suc t)) m

    ends_it : ends_task (said xs) ≡ true
    ends_it = ap ends_task (said-accepted e sw.answer sw.store sw-ok) ∙ en

    log_is : xs.happened ≡ z.store.log
    log_is = happens_all e sw.answer sw.store sw-ok ∙ ap (λ (u : Store). u.log) sw-store

    control_of : (tells xs.answer).control ≡ some z.control
    unfolding entry_of
    control_of = sw-control

    makes-of : (tells xs.answer).makes ≡ none
    unfolding entry_of
    makes-of = sw-makes

    -- by what it leaves
    exit-stepped : Ends (λ u. Logged h xs (λ o. shape (object s o)) u × (exits_in u.log (suc t) ≡ true)) z → StepLeft sw → Stepped h e sw
    exit-stepped ends_so sr =
        record {
          entry = record {
            log = logged-by h e sw sw-ok (λ u r d. absurd (no_await r.0)) (subst (λ (u : Store). LogRight h xs u.log) (sym sw-store) l.log_right);
            blocks = λ u d. absurd (no_await d);
            exits = λ u d f. ap (λ (k : List LogEntry). exits_in k (suc u)) log_is ∙ subst (λ (v : ℕ). exits_in z.store.log v ≡ true) (same_some (suc t) (suc u) (sym runs_it ∙ d)) (exit_logged h s w hd xs t m runs_it ends_it z ends_so);
            ends = λ u d f. absurd (not-suc-le-zero {n = 0} (omega (arith, same_some (suc t) 0 (sym runs_it ∙ d))));
            removes = λ u d. absurd (not-cancel e u nc (unfold entry_of in d));
            control = subst (λ (k : List LogEntry). ControlLeft h xs k (tells xs.answer).control) (sym log_is) l.control_left;
          };
          after = λ on.
              kept_of h xs sw.store (subst (Left h xs) (sym sw-store) l)
              (idle-waits sw sr on (λ q. let c = exit_waits h s w hd xs t m runs_it ends_it z ends_so (sym (ap (λ (u : Store). (header u).moment) sw-store) ∙ q) in (c.0, sw-control ∙ ap (λ (k : Control). some k) c.1)));
        }
      where
        hd : Held h s
        hd = held (ended-not _ _ m)

        l : Left h xs z.store
        l = exit_left h s w hd xs t m runs_it ends_it z ends_so (record { happens = log_is; controls = control_of; makes_none = makes-of })

        no_await : is_none (said xs).awaits ≡ false → ⊥
        no_await d = none_is (said xs).awaits (ap (λ (k : Says). k.awaits) (said-accepted e sw.answer sw.store sw-ok) ∙ na) d

  pub complete-stepped : (t : ℕ) (v : Value) → (header s).moment ≡ Moment.Running (task_id (suc t)) → StepLeft (switched (handle_task_completion s (suc t) v)) → Stepped h (Event.complete v) (switched (handle_task_completion s (suc t) v))
  unfolding says ends_task has_value
  complete-stepped t v m sr =
      let z : Switched = handle_task_completion s (suc t) v in
      exit-stepped (Event.complete v) t m refl refl refl z
      (complete-ends h s w (held (ended-not _ _ m)) _ t m (runs_it (Event.complete v) t m refl refl refl z) (ends_it (Event.complete v) t m refl refl refl z) v) sr

  pub fail-stepped : (t n : ℕ) → (header s).moment ≡ Moment.Running (task_id (suc t)) → StepLeft (switched (handle_task_failure activate s (suc t) (Error.Script n)))
      → Stepped h (Event.fail n) (switched (handle_task_failure activate s (suc t) (Error.Script n)))
  unfolding says ends_task has_value is_none
  fail-stepped t n m sr =
      let z : Switched = handle_task_failure activate s (suc t) (Error.Script n) in
      exit-stepped (Event.fail n) t m refl refl refl z
      (fail-ends h s w (held (ended-not _ _ m)) _ t m (runs_it (Event.fail n) t m refl refl refl z) (ends_it (Event.fail n) t m refl refl refl z) (Error.Script n)) sr

  -- main
  pub main_stepped : (e : Event) (a : Answer) → (header s).moment ≡ Moment.Running (task_id 0) → (says e).awaits ≡ none → (says e).cancels ≡ false → ends_task (says e) ≡ true → (tells a).accepts ≡ true → (tells a).control ≡ none
      → (lives-by-now : (t : ℕ) → lives (entry_of e a (cleanup s) ∷ h) t ≡ live (cleanup s) t) → Stepped h e (end_main s a)
  unfolding end_main
  main_stepped e a m na nc en ok nobody lv =
      record {
        entry = record {
          log = logged-by h e y ok (λ u r d. absurd (no_await r.0)) (end-log_right h s w hd x rn en');
          blocks = λ u d. absurd (no_await d);
          exits = λ u d f. absurd (not-suc-le-zero {n = 0} (omega (arith, same_some 0 (suc u) (sym rn ∙ d))));
          ends = λ u d f. lv u ∙ end_dead h s w hd x u;
          removes = λ u d. absurd (not-cancel e u nc (unfold entry_of in d));
          control = subst (ControlLeft h x x.happened) (sym nobody-now) (unfold ControlLeft in tt);
        };
        after = λ on. absurd (true≢false (sym (ends s w (kept (ended-not _ _ m)).idle.stood) ∙ on));
      }
    where
      y : Step
      y = record { store = cleanup s; answer = a }

      x : Entry
      x = entry_of e a (cleanup s)

      hd : Held h s
      hd = held (ended-not _ _ m)

      rn : running h ≡ some 0
      rn = ag.runner (task_id 0) m

      en' : ends_task (said x) ≡ true
      en' = ap ends_task (said-accepted e a (cleanup s) ok) ∙ en

      nobody-now : (tells x.answer).control ≡ none
      nobody-now = unfold entry_of in nobody

      no_await : is_none (said x).awaits ≡ false → ⊥
      no_await d = none_is (said x).awaits (ap (λ (k : Says). k.awaits) (said-accepted e a (cleanup s) ok) ∙ na) d

  -- ---- resume

  pub resume-stepped : (header s).moment ≡ Moment.Waiting → StepLeft (switched (resume_next activate s)) → Stepped h Event.resume (switched (resume_next activate s))
  resume-stepped m sr =
      record {
        entry = quiet_left h Event.resume y ok q l;
        after = λ on. kept_of h x y.store l (idle-waits y sr on (λ p. let c = resume-waits h s w hd x (unfold switched in p) in (c.0, controls ∙ ap (λ (k : Control). some k) c.1)));
      }
    where
      y : Step
      y = switched (resume_next activate s)

      hd : Held h s
      hd = held (waiting-not _ m)

      ok : (tells y.answer).accepts ≡ true
      ok = unfold switched tells in refl

      controls : (tells y.answer).control ≡ some (resume_next activate s).control
      controls = unfold switched tells in refl

      x : Entry
      x = entry_of Event.resume y.answer y.store

      q : Quiet (says Event.resume)
      q = unfold says nothing_said in (record { no_await = refl; no_end = unfold ends_task has_value is_none in refl; no_cancel = refl })

      l : Left h x y.store
      l = unfold switched in (resume-left h s w hd x (record { happens = happens_all Event.resume y.answer y.store ok ∙ (unfold switched in refl); controls = unfold entry_of in controls; makes_none = unfold entry_of switched tells in refl }))

  -- ---- results

  pub results-stepped : (rs : List Result) → is_ended (header s).moment ≡ false → StepLeft (accept s (Event.results rs)) → Stepped h (Event.results rs) (record { store = wake_in_order s (apply_future_results s rs); answer = Answer.done })
  unfolding accept
  results-stepped rs on sr =
      record {
        entry = quiet_left h (Event.results rs) y ok q l;
        after = λ z. kept_of h x y.store l (idle-by y sr z (λ m v b. bg.started (moved ∙ m) v (subst (λ (k : Header). v < k.next) bg.head b)));
      }
    where
      y : Step
      y = record { store = wake_in_order s (apply_future_results s rs); answer = Answer.done }

      ok : (tells y.answer).accepts ≡ true
      ok = unfold tells done_only in refl

      x : Entry
      x = entry_of (Event.results rs) y.answer y.store

      q : Quiet (says (Event.results rs))
      q = unfold says in (record { no_await = refl; no_end = unfold ends_task has_value is_none in refl; no_cancel = refl })

      l : Left h x y.store
      l = results-left h s w (held on) x rs (record { happens = happens_all (Event.results rs) y.answer y.store ok; controls = unfold entry_of tells done_only in refl; makes_none = unfold entry_of tells done_only in refl })

      bg : Begun (header s) y.store
      bg = results-begun s rs w.memory.sized (kept on).idle.begun

      moved : (header s).moment ≡ (header y.store).moment
      moved = ap (λ (k : Header). k.moment) (sym bg.head)

  -- ---- cancel

  pub cancel-stepped : (t : ℕ) → (header s).moment ≡ Moment.Waiting → IsSpawned t → Stepped h (Event.cancel t) (answer_cancel s (cancel_task s t))
  cancel-stepped t m sp =
      record {
        entry = record {
          log = logged-by h (Event.cancel t) y ok (λ u r d. absurd (no_await r.0)) l.log_right;
          blocks = λ u d. absurd (no_await d);
          exits = λ u d f. absurd (no_end f);
          ends = λ u d f. absurd (no_end f);
          removes = λ u d f. ap (λ (k : List LogEntry). removes_in k u) (happens_all (Event.cancel t) y.answer y.store ok) ∙ subst (λ (v : ℕ). removes_in y.store.log v ≡ true) (same-cancel t u (unfold entry_of in d)) (cancel_logged h s w hd x idle m t sp cn);
          control = subst (λ (k : List LogEntry). ControlLeft h x k (tells x.answer).control) (sym (happens_all (Event.cancel t) y.answer y.store ok)) l.control_left;
        };
        after = λ on. kept_of h x y.store l (cancel-idle h s w hd x idle m t sp cn);
      }
    where
      y : Step
      y = answer_cancel s (cancel_task s t)

      ok : (tells y.answer).accepts ≡ true
      ok = unfold tells done_only in refl

      x : Entry
      x = entry_of (Event.cancel t) y.answer y.store

      hd : Held h s
      hd = held (waiting-not _ m)

      idle : Idle s
      idle = (kept (waiting-not _ m)).idle

      says_so : said x ≡ says (Event.cancel t)
      says_so = said-accepted (Event.cancel t) y.answer y.store ok

      cn : (said x).cancels ≡ true
      cn = ap (λ (k : Says). k.cancels) says_so ∙ (unfold says in refl)

      no_await : is_none (said x).awaits ≡ false → ⊥
      no_await d = none_is (said x).awaits (ap (λ (k : Says). k.awaits) says_so ∙ (unfold says in refl)) d

      no_end : ends_task (said x) ≡ true → ⊥
      no_end d = true≢false (sym d ∙ (ap ends_task says_so ∙ (unfold says ends_task has_value is_none in refl)))

      same-cancel : (a b : ℕ) → Event.cancel a ≡ Event.cancel b → a ≡ b
      same-cancel a b e = cc

      l : Left h x y.store
      l = cancel_left h s w hd x idle m t sp cn (record { happens = happens_all (Event.cancel t) y.answer y.store ok; controls = unfold entry_of tells done_only in refl; makes_none = unfold entry_of tells done_only in refl })

  -- ---- await

  pub await-stepped : (t o : ℕ) → (header s).moment ≡ Moment.Running (task_id t) → o < (header s).made → StepLeft (answer_await (exec_get_awaitable s t o)) → Stepped h (Event.await o) (answer_await (exec_get_awaitable s t o))
  await-stepped t o m lo sr =
      record {
        entry = record {
          log = logged-by h (Event.await o) y ok (λ u r d. leaves u r.1 d) (subst (λ (v : Store). LogRight h x v.log) (sym store_is) l.log_right);
          blocks = λ u d r f. ap (λ (k : List LogEntry). blocks_in k u) log_is ∙ blocks u r (sym (ap (λ (c : Option Control). runs_task c u) control_of) ∙ f);
          exits = λ u d f. absurd (no_end f);
          ends = λ u d f. absurd (no_end f);
          removes = λ u d. absurd (not-cancel (Event.await o) u (unfold says in refl) (unfold entry_of in d));
          control = subst (λ (k : List LogEntry). ControlLeft h x k (tells x.answer).control) (sym log_is) l.control_left;
        };
        after = λ on. kept_of h x y.store (subst (Left h x) (sym store_is) l)
            (idle-waits y sr on (λ p. let c = await-waits h s w hd ag t m x o rn aw lo (sym (ap (λ (v : Store). (header v).moment) store_is) ∙ p) in (c.0, controls ∙ ap (λ (k : Control). some k) c.1)));
      }
    where
      z : Awaited
      z = exec_get_awaitable s t o

      y : Step
      y = answer_await z

      ok : (tells y.answer).accepts ≡ true
      ok = unfold answer_await tells in refl

      store_is : y.store ≡ z.store
      store_is = unfold answer_await in refl

      controls : (tells y.answer).control ≡ some z.control
      controls = unfold answer_await tells in refl

      x : Entry
      x = entry_of (Event.await o) y.answer y.store

      hd : Held h s
      hd = held (ended-not _ _ m)

      rn : running h ≡ some t
      rn = ag.runner (task_id t) m

      says_so : said x ≡ says (Event.await o)
      says_so = said-accepted (Event.await o) y.answer y.store ok

      aw : (said x).awaits ≡ some o
      aw = ap (λ (k : Says). k.awaits) says_so ∙ (unfold says in refl)

      no_end : ends_task (said x) ≡ true → ⊥
      no_end d = true≢false (sym d ∙ (ap ends_task says_so ∙ (unfold says ends_task has_value is_none in refl)))

      log_is : x.happened ≡ z.store.log
      log_is = happens_all (Event.await o) y.answer y.store ok ∙ ap (λ (v : Store). v.log) store_is

      control_of : (tells x.answer).control ≡ some z.control
      control_of = unfold entry_of in controls

      l : Left h x z.store
      l = await-left h s w hd ag t m x o rn aw lo (record { happens = log_is; controls = control_of; makes_none = unfold entry_of answer_await tells in refl })

      both : blocks_in z.store.log t ≡ not (runs_task (some z.control) t)
      both = await_blocks h s w hd ag t m x o rn aw lo

      not-true : (b : Bool) → true ≡ not b → b ≡ false
      not-true true e = absurd (true≢false e)
      not-true false e = refl

      leaves : (u : ℕ) → running h ≡ some u → blocks_in y.store.log u ≡ true → runs_task (tells y.answer).control u ≡ false
      leaves u r d =
          ap (λ (c : Option Control). runs_task c u) controls
          ∙ subst (λ (v : ℕ). blocks_in y.store.log v ≡ true → runs_task (some z.control) v ≡ false) (same_some t u (sym rn ∙ r)) (λ q. not-true (runs_task (some z.control) t) (sym q ∙ (ap (λ (v : Store). blocks_in v.log t) store_is ∙ both))) d

      blocks : (u : ℕ) → running h ≡ some u → runs_task (some z.control) u ≡ false → blocks_in z.store.log u ≡ true
      blocks u r f = subst (λ (v : ℕ). runs_task (some z.control) v ≡ false → blocks_in z.store.log v ≡ true) (same_some t u (sym rn ∙ r)) (λ q. both ∙ ap not q) f

  -- ---- every event

  running-now : (rs : List (ℕ × Bool)) → Rattle.machine.specs.Machine.first_refusal (Rattle.machine.specs.Machine.in_running s rs) ≡ 0 → (header s).moment ≡ Moment.Running (task_id (runner (header s).moment))
  running-now rs q = Rattle.machine_theorems.specs.Soundness.Preserved.running s w rs q

  abbrev right : (e : Event) → InRange e → (says e).cancels ≡ false → refusal s e ≡ 0 → is_ended (header s).moment ≡ false → StepLeft (accept s e)
  right e i n r on = left_by s e w (kept on).idle.stood (accept-right s w (kept on).idle.stood e i n r)

  lives-then : (e : Event) (a : Answer) (u : Store) → (tells a).accepts ≡ true → Tracked (lives h) (stays_blocked h) u → (t : ℕ) → lives (entry_of e a u ∷ h) t ≡ live u t
  unfolding lives
  lives-then e a u ok k t = ap (λ (l : List LogEntry). lives_by (lives h t) l t) (happens_all e a u ok) ∙ k.alive t

  -- an event's branch
  completes-as : (t : ℕ) (v : Value) → task_completes s (suc t) v ≡ switched (handle_task_completion s (suc t) v)
  unfolding task_completes
  completes-as t v = ap (λ (b : Bool). pick b (end_main s (Answer.finished v)) (switched (handle_task_completion s (suc t) v))) (ne_eqb (suc t) 0 (λ q. not-suc-le-zero {n = 0} (omega arith)))

  fails-as : (t : ℕ) (x : Error) → task_fails s (suc t) x ≡ switched (handle_task_failure activate s (suc t) x)
  unfolding task_fails
  fails-as t x = ap (λ (b : Bool). pick b (end_main s (Answer.finished_error x)) (switched (handle_task_failure activate s (suc t) x))) (ne_eqb (suc t) 0 (λ q. not-suc-le-zero {n = 0} (omega arith)))

  complete-no-cancel : (v : Value) → (says (Event.complete v)).cancels ≡ false
  unfolding says
  complete-no-cancel v = refl

  fail-no-cancel : (n : ℕ) → (says (Event.fail n)).cancels ≡ false
  unfolding says
  fail-no-cancel n = refl

  finished-tells : (v : Value) → ((tells (Answer.finished v)).accepts ≡ true) × ((tells (Answer.finished v)).control ≡ none)
  unfolding tells done_only
  finished-tells v = (refl, refl)

  error-tells : (x : Error) → ((tells (Answer.finished_error x)).accepts ≡ true) × ((tells (Answer.finished_error x)).control ≡ none)
  unfolding tells done_only
  error-tells x = (refl, refl)

  complete-by : (v : Value) (t : ℕ) → (header s).moment ≡ Moment.Running (task_id t) → StepLeft (task_completes s t v) → Tracked (lives h) (stays_blocked h) (task_completes s t v).store → Stepped h (Event.complete v) (task_completes s t v)
  unfolding task_completes end_main says ends_task has_value
  complete-by v zero m sr k =
      main_stepped (Event.complete v) (Answer.finished v) m refl refl refl (finished-tells v).0 (finished-tells v).1 (lives-then (Event.complete v) (Answer.finished v) (cleanup s) (finished-tells v).0 k)
  complete-by v (suc t) m sr k = subst (Stepped h (Event.complete v)) (sym (completes-as t v)) (complete-stepped t v m (subst StepLeft (completes-as t v) sr))

  fail-by : (n t : ℕ) → (header s).moment ≡ Moment.Running (task_id t) → StepLeft (task_fails s t (Error.Script n)) → Tracked (lives h) (stays_blocked h) (task_fails s t (Error.Script n)).store → Stepped h (Event.fail n) (task_fails s t (Error.Script n))
  unfolding task_fails end_main says ends_task has_value is_none
  fail-by n zero m sr k =
      main_stepped (Event.fail n) (Answer.finished_error (Error.Script n)) m refl refl refl (error-tells (Error.Script n)).0 (error-tells (Error.Script n)).1
      (lives-then (Event.fail n) (Answer.finished_error (Error.Script n)) (cleanup s) (error-tells (Error.Script n)).0 k)
  fail-by n (suc t) m sr k = subst (Stepped h (Event.fail n)) (sym (fails-as t (Error.Script n))) (fail-stepped t n m (subst StepLeft (fails-as t (Error.Script n)) sr))

  -- a wait is repeated
  repeat-stepped : (cs : List ℕ) → Stepped h Event.resume (record { store = s; answer = repeat_wait cs })
  unfolding repeat_wait
  repeat-stepped [] = same-stepped Event.resume Answer.stalled (quiet_of Event.resume (unfold IsQuiet in tt)) (unfold tells done_only in refl) (unfold tells done_only in refl) (λ x. unfold tells done_only ControlLeft in tt) (unfold tells done_only in none-plain)
  repeat-stepped (c ∷ cs) =
      same-stepped Event.resume (Answer.control (waits (c ∷ cs))) (quiet_of Event.resume (unfold IsQuiet in tt)) (unfold tells in refl) (unfold tells in refl) (λ x. unfold tells ControlLeft in tt) (unfold tells in (waits-plain (c ∷ cs)))

  resume-by : (header s).moment ≡ Moment.Waiting → StepLeft (resume_with_resolved_futures s) → Stepped h Event.resume (resume_with_resolved_futures s)
  unfolding resume_with_resolved_futures
  resume-by m sr = by (eqb s.queue.len 0) sr
    where
      by : (b : Bool) → StepLeft (pick b (record { store = s; answer = repeat_wait (pending_call_ids s) }) (switched (resume_next activate s)))
          → Stepped h Event.resume (pick b (record { store = s; answer = repeat_wait (pending_call_ids s) }) (switched (resume_next activate s)))
      by true k = repeat-stepped (pending_call_ids s)
      by false k = resume-stepped m k

  read-stepped : (e : Event) (a : Answer) → Quiet (says e) → (tells a).accepts ≡ true → (tells a).makes ≡ none → (tells a).control ≡ none → Stepped h e (record { store = s; answer = a })
  read-stepped e a q ok mk ct =
      same-stepped e a q ok mk (λ x. subst (ControlLeft h x s.log) (sym ct) (unfold ControlLeft in tt)) (subst Rattle.machine_sessions.specs.Honest.HonestEnds.Plain (sym ct) none-plain)

  pub accept-stepped : (e : Event) → InRange e → refusal s e ≡ 0 → Stepped h e (accept s e)
  unfolding refusals accept InRange answer_await in_both IsQuiet
  accept-stepped (Event.coroutine f) i r =
      let q = refusal-rest s (Event.coroutine f) r in
      let on = running-now _ q in
      let m : (header s).made < object_limit = not_full s (pass 6 (full s) [] (running-rest s _ q)).0 in
      let sh : shape (object (make_coroutine s f) (header s).made) ≡ Shape.new f = coroutine-shape s w.memory.sized f i m in
      made-stepped (Event.coroutine f) _ 0 on (quiet_of (Event.coroutine f) tt) (right (Event.coroutine f) i (quiet_of (Event.coroutine f) tt).no_cancel r (ended-not _ _ on)) (coroutine_adds s w.memory.sized f m) refl (ap is_used sh)
      (λ g d. ap Event.coroutine (new_is f g (sym sh ∙ d)))
  accept-stepped Event.call i r =
      let q = refusal-rest s Event.call r in
      let on = running-now _ q in
      let c : (header s).calls < call_limit = has_number s (pass 7 (no_number s) [] (running-rest s _ q)).0 in
      called-stepped Event.call _ 0 on (quiet_of Event.call tt) (right Event.call tt (quiet_of Event.call tt).no_cancel r (ended-not _ _ on)) (call_adds s w.memory.sized c (header s).made) (header s).calls refl (calls_object s w.memory.sized c)
  accept-stepped (Event.pending d v) i r =
      let q = refusal-rest s (Event.pending d v) r in
      let on = running-now _ q in
      let m : (header s).made < object_limit = not_full s (pass 6 (full s) [] (pass 5 _ _ (pass 4 _ _ (running-rest s _ q)).1).1).0 in
      let sh : shape (object (make_pending s d v) (header s).made) ≡ Shape.other = pending-shape s w.memory.sized d v m in
      made-stepped (Event.pending d v) _ 0 on (quiet_of (Event.pending d v) tt) (right (Event.pending d v) tt (quiet_of (Event.pending d v) tt).no_cancel r (ended-not _ _ on)) (pending_adds s w.memory.sized d v m) refl (ap is_used sh)
      (λ g z. not-co _ g (ap is_co sh) z)
  accept-stepped (Event.settled v) i r =
      let q = refusal-rest s (Event.settled v) r in
      let on = running-now _ q in
      let p = pass 6 (full s) _ (pass 4 _ _ (running-rest s _ q)).1 in
      let m : (header s).made < object_limit = not_full s p.0 in
      let c : (header s).calls < call_limit = has_number s (pass 7 (no_number s) [] p.1).0 in
      let sh : shape (object (make_settled s v) (header s).made) ≡ Shape.other = settled-shape s w.memory.sized c v m in
      made-stepped (Event.settled v) _ 0 on (quiet_of (Event.settled v) tt) (right (Event.settled v) tt (quiet_of (Event.settled v) tt).no_cancel r (ended-not _ _ on)) (settled_adds s w.memory.sized c v m) refl (ap is_used sh)
      (λ g z. not-co _ g (ap is_co sh) z)
  accept-stepped (Event.gather os) i r =
      let q = refusal-rest s (Event.gather os) r in
      let on = running-now _ q in
      let p = (pass 6 (full s || ltb item_limit (length os) || ltb place_limit ((header s).used + length os)) [] (pass 4 _ _ (running-rest s _ q)).1).0 in
      let m : (header s).made < object_limit = not_full s (or_left (full s) (ltb item_limit (length os)) (or_left (full s || ltb item_limit (length os)) (ltb place_limit ((header s).used + length os)) p)) in
      let l : (header s).used + length os ≤ place_limit = ltb-false place_limit ((header s).used + length os) (or_right (full s || ltb item_limit (length os)) (ltb place_limit ((header s).used + length os)) p) in
      let us : is_co (shape (object (make_gather s os) (header s).made)) ≡ false = gather-used s w.memory.sized os m l in
      made-stepped (Event.gather os) _ 0 on (quiet_of (Event.gather os) tt) (right (Event.gather os) tt (quiet_of (Event.gather os) tt).no_cancel r (ended-not _ _ on)) (gather_adds s w.memory.sized os m l) refl (co-used (shape (object (make_gather s os) (header s).made)) us)
      (λ g z. not-co _ g us z)
  accept-stepped (Event.await o) i r =
      let q = refusal-rest s (Event.await o) r in
      let on = running-now _ q in
      await-stepped (runner (header s).moment) o on (await-made s w o q) (right (Event.await o) tt await-no-cancel r (ended-not _ _ on))
    where
      await-no-cancel : (says (Event.await o)).cancels ≡ false
      await-no-cancel = unfold says in refl
  accept-stepped (Event.complete v) i r =
      let on = running-now _ (refusal-rest s (Event.complete v) r) in
      complete-by v (runner (header s).moment) on (right (Event.complete v) tt (complete-no-cancel v) r (ended-not _ _ on)) (accept_tracked (lives h) (stays_blocked h) s w (Event.complete v) r tr)
  accept-stepped (Event.fail n) i r =
      let on = running-now _ (refusal-rest s (Event.fail n) r) in
      fail-by n (runner (header s).moment) on (right (Event.fail n) i (fail-no-cancel n) r (ended-not _ _ on)) (accept_tracked (lives h) (stays_blocked h) s w (Event.fail n) r tr)
  accept-stepped (Event.results rs) i r =
      let q = pass 2 (is_ended (header s).moment) _ (refusal-rest s (Event.results rs) r) in
      results-stepped rs q.0 (right (Event.results rs) tt (quiet_of (Event.results rs) tt).no_cancel r q.0)
  accept-stepped Event.resume i r =
      let m = (waiting s w [] (refusal-rest s Event.resume r)).0 in
      resume-by m (right Event.resume tt (quiet_of Event.resume tt).no_cancel r (waiting-not _ m))
  accept-stepped (Event.cancel t) i r =
      let q = waiting s w _ (refusal-rest s (Event.cancel t) r) in
      let l = pass 4 (not (live s t)) _ q.1 in
      cancel-stepped t q.0 (omega (arith, eqb-false t 0 (pass 8 (eqb t 0) [] l.1).0), omega (arith, (live_low s t (is_true (live s t) l.0)).0, (header-fits s).next_fits))
    where
      is_true : (b : Bool) → not b ≡ false → b ≡ true
      is_true true e = refl
      is_true false e = absurd (true≢false e)
  accept-stepped (Event.show o) i r = read-stepped (Event.show o) _ (quiet_of (Event.show o) tt) (unfold tells done_only in refl) (unfold tells done_only in refl) (unfold tells done_only in refl)
  accept-stepped Event.eager i r = read-stepped Event.eager _ (quiet_of Event.eager tt) (unfold tells done_only in refl) (unfold tells done_only in refl) (unfold tells done_only in refl)
