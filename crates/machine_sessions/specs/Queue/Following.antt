-- Sessions: the store is sound after every event, and the words live and blocked of the history are what the tasks' rows say. So the ready queue holds
-- distinct, live, unblocked tasks.
use Rattle.std.specs.Prelude.{◌≡◌, Bool, true, not, ◌&&◌, ◌||◌, List, [], ◌∷◌, ℕ, zero, suc, ◌+◌, ◌≤◌, ◌<◌, T, eqb, leb, length}
use Rattle.std.proofs.Math.Path.{refl}
use Rattle.std.proofs.Common.{sym, ap, subst, ◌∙◌, true≢false, not-suc-le-zero, arith, eq-eqb, ne_eqb, eqb-true}
use Rattle.std.proofs.Math.Bool.{false}
use Rattle.std.proofs.Math.Decide.{ℕ_discrete}
use Rattle.asyncio.specs.Limits.{object_limit, tasks_length, objects_length, places_length}
use Rattle.asyncio.specs.States.{pick, is_live, is_ready, is_blocked}
use Rattle.asyncio.specs.declared.TaskState.{TaskState}
use Rattle.asyncio.specs.declared.Task.{Task}
use Rattle.asyncio.specs.declared.Value.{Value}
use Rattle.asyncio.specs.declared.Error.{Error}
use Rattle.queue.specs.Queue.{entries, occurrences, Distinct}
use Rattle.machine.specs.Tests.{is_in}
use Rattle.machine.specs.Store.{Store, LogEntry, view, task, header, forget, fresh, empty, put_task, put_header}
use Rattle.machine.specs.Scheduler.{live, pending_call_ids}
use Rattle.machine.specs.Events.{Switched, Awaited, activate, handle_task_completion, handle_task_failure, resume_next}
use Rattle.machine.specs.Machine.{Event, Answer, Step, switched, answer_await, end_main, task_completes, task_fails, repeat_wait, resume_with_resolved_futures, refusal, accept, step}
use Rattle.machine.specs.Lent.{Lent, slices_right, lengths_right, lent_by, lent_step, lent_read, lent_as}
use Rattle.machine.specs.History.{Entry, tells, done_only, lives_by, lives, blocked_by, stays_blocked}
use Rattle.machine.specs.Computes.{computes}
use Rattle.asyncio.specs.RangeLaws.{pick_has}
use Rattle.machine_laws.specs.Views.{Sized}
use Rattle.machine_laws.specs.StoreLaws.{sized-forget}
use Rattle.machine_laws.specs.MachineLaws.{accepted-step, refused-step, show-step, eager-step}
use Rattle.machine_laws.specs.SoundLaws.{refusal-forget}
use Rattle.machine_theorems.specs.Soundness.ReadyTasks.{Queued, to_queued}
use Rattle.machine_theorems.specs.Soundness.Stores.{SoundStore}
use Rattle.machine.specs.Sessions.{InRange, AllSentInRange}
use Rattle.machine_theorems.specs.Soundness.Sessions.{forget_sound_store, step_sound_store, fresh_sound_store}
use Rattle.machine.specs.Sessions.{Sent, is_read, read_lent, lent_any, happened_by, entry_of, Session, begun, send, send_all, session}
use Rattle.machine.specs.DemandThree.{QueueRight}
use Rattle.machine_sessions.specs.Queue.Tracked.{Tracked, live-is, live_low}
use Rattle.machine_sessions.specs.Queue.TrackedEvents.{accept_tracked}

-- ---- an accepted event's answer is no refusal

abbrev Accepts : Step → Type 0
Accepts x = (tells x.answer).accepts ≡ true

repeat_accepts : (cs : List ℕ) → (tells (repeat_wait cs)).accepts ≡ true
unfolding repeat_wait tells done_only
repeat_accepts [] = refl
repeat_accepts (c ∷ cs) = refl

pub accept_accepts : (s : Store) (e : Event) → Accepts (accept s e)
unfolding accept tells done_only answer_await task_completes task_fails end_main switched resume_with_resolved_futures
accept_accepts s (Event.coroutine f) = refl
accept_accepts s Event.call = refl
accept_accepts s (Event.pending c r) = refl
accept_accepts s (Event.settled v) = refl
accept_accepts s (Event.gather os) = refl
accept_accepts s (Event.await o) = refl
accept_accepts s (Event.complete v) = pick_has Accepts (eqb (Rattle.machine.specs.Machine.runner (header s).moment) 0) refl refl
accept_accepts s (Event.fail n) = pick_has Accepts (eqb (Rattle.machine.specs.Machine.runner (header s).moment) 0) refl refl
accept_accepts s (Event.results rs) = refl
accept_accepts s Event.resume = pick_has Accepts (eqb s.queue.len 0) (repeat_accepts (pending_call_ids s)) refl
accept_accepts s (Event.cancel t) = refl
accept_accepts s (Event.show o) = refl
accept_accepts s Event.eager = refl

-- ---- one event of a session on lent memory: a step of the machine, or refusal 1 and all unchanged

pub data Sends (s : Store) (e : Sent) : Type 0 where
  stepped : (lent_any s e).store ≡ (step s e.event).store → (lent_any s e).answer ≡ (step s e.event).answer → Sends s e
  short : (lent_any s e).store ≡ s → (lent_any s e).answer ≡ Answer.refused 1 → Sends s e

right_slices : (s : Store) → Sized s → slices_right s ≡ true
unfolding slices_right
right_slices s z = rw (eq-eqb (length s.tasks) tasks_length z.tasks_sized, eq-eqb (length s.objects) objects_length z.objects_sized, eq-eqb (length s.places) places_length z.places_sized)

pub sends : (s : Store) (e : Sent) → Sized s → Sends s e
sends s e z = by (is_read e.event) refl
  where
    list-by : (b : Bool) → lengths_right s e.list ≡ b → is_read e.event ≡ false → Sends s e
    list-by true q r = stepped (unfold lent_any lent_step lent_by in (rw (r, q))) (unfold lent_any lent_step lent_by in (rw (r, q)))
    list-by false q r = short (unfold lent_any lent_step lent_by in (rw (r, q))) (unfold lent_any lent_step lent_by in (rw (r, q)))

    by : (b : Bool) → is_read e.event ≡ b → Sends s e
    by true r = stepped (unfold lent_any read_lent lent_read in (rw (r, right_slices s z))) (unfold lent_any read_lent lent_read in (rw (r, right_slices s z)))
    by false r = list-by (lengths_right s e.list) refl r

-- the entry that is called
pub any_event : (s : Store) (x : Sent) → is_read x.event ≡ false → lent_any s x ≡ lent_step s x.list x.event
unfolding lent_any
any_event s x r = rw r refl

pub any_read : (s : Store) (x : Sent) → is_read x.event ≡ true
    → lent_any s x ≡ lent_as (lent_read s x.event).store x.list (lent_read s x.event).answer
unfolding lent_any read_lent
any_read s x r = rw r refl

-- a read leaves the store
pub read_leaves : (s : Store) (e : Event) → is_read e ≡ true → (step s e).store ≡ forget s
unfolding is_read
read_leaves s (Event.coroutine f) r = absurd (true≢false (sym r))
read_leaves s Event.call r = absurd (true≢false (sym r))
read_leaves s (Event.pending c x) r = absurd (true≢false (sym r))
read_leaves s (Event.settled v) r = absurd (true≢false (sym r))
read_leaves s (Event.gather os) r = absurd (true≢false (sym r))
read_leaves s (Event.await o) r = absurd (true≢false (sym r))
read_leaves s (Event.complete v) r = absurd (true≢false (sym r))
read_leaves s (Event.fail n) r = absurd (true≢false (sym r))
read_leaves s (Event.results rs) r = absurd (true≢false (sym r))
read_leaves s Event.resume r = absurd (true≢false (sym r))
read_leaves s (Event.cancel t) r = absurd (true≢false (sym r))
read_leaves s (Event.show o) r = show-step s o
read_leaves s Event.eager r = eager-step s

-- ---- what every session has

pub record Following (x : Session) : Type 0 where
  pub whole : SoundStore x.store
  pub tracked : Tracked (lives x.history) (stays_blocked x.history) (forget x.store)

-- the words one entry later
tracked_then : (h : List Entry) (e : Event) (a : Answer) (s : Store) → (tells a).accepts ≡ true → Tracked (lives h) (stays_blocked h) s
    → Tracked (lives (entry_of e a s ∷ h)) (stays_blocked (entry_of e a s ∷ h)) (forget s)
unfolding lives stays_blocked lives_by blocked_by entry_of happened_by forget live task header
tracked_then h e a s q k =
    record {
      sized = sized-forget s k.sized;
      alive = λ t. rw q (k.alive t);
      stuck = λ t l. rw q (k.stuck t l);
      unborn = λ t l. rw q (k.unborn t l);
    }

-- nothing has happened
tracked_commits_none : (h : List Entry) (e : Event) (a : Answer) (u : Store) → (tells a).accepts ≡ false → Tracked (lives h) (stays_blocked h) (forget u)
    → Tracked (lives (entry_of e a u ∷ h)) (stays_blocked (entry_of e a u ∷ h)) (forget u)
unfolding lives stays_blocked lives_by blocked_by entry_of happened_by forget
tracked_commits_none h e a u q k =
    record {
      sized = k.sized;
      alive = λ t. rw q (k.alive t);
      stuck = λ t l. rw q (k.stuck t l);
      unborn = λ t l. rw q (k.unborn t l);
    }

-- what one more entry leaves
abbrev pub After : List Entry → Event → Answer → Store → Type 0
After h e a s = Tracked (lives (entry_of e a s ∷ h)) (stays_blocked (entry_of e a s ∷ h)) (forget s)

abbrev StepAfter : List Entry → Event → Step → Type 0
StepAfter h e x = After h e x.answer x.store

refuses : (n : ℕ) → (tells (Answer.refused n)).accepts ≡ false
unfolding tells
refuses n = refl

pub step_tracked : (h : List Entry) (s : Store) (e : Event) → SoundStore s → Tracked (lives h) (stays_blocked h) (forget s) → StepAfter h e (step s e)
step_tracked h s e w k = by (ℕ_discrete (refusal s e) 0)
  where
    by : Dec (refusal s e ≡ 0) → StepAfter h e (step s e)
    by (yes r) =
        subst (StepAfter h e) (sym (accepted-step s e r))
        (tracked_then h e (accept (forget s) e).answer (accept (forget s) e).store (accept_accepts (forget s) e)
        (accept_tracked (lives h) (stays_blocked h) (forget s) (forget_sound_store s w) e (refusal-forget s e ∙ r) k))
    by (no ne) =
        subst (StepAfter h e) (sym (refused-step s e (refusal s e) refl ne))
        (tracked_commits_none h e (Answer.refused (refusal s e)) (forget s) (refuses (refusal s e)) (subst (Tracked (lives h) (stays_blocked h)) (forget_twice s) k))
      where
        forget_twice : (s : Store) → forget s ≡ forget (forget s)
        forget_twice s = unfold forget in refl

pub send_following : (x : Session) (e : Sent) → InRange e.event → Following x → Following (send x e)
unfolding send
send_following x e i f = by (sends s e f.whole.memory.sized)
  where
    s : Store
    s = x.store

    h : List Entry
    h = x.history

    by : Sends s e → Following (record { store = (lent_any s e).store; history = entry_of e.event (lent_any s e).answer (lent_any s e).store ∷ h })
    by (stepped p q) =
        record {
          whole = subst SoundStore (sym p) (step_sound_store s f.whole e.event i);
          tracked = subst (λ (a : Answer). After h e.event a (lent_any s e).store) (sym q)
              (subst (After h e.event (step s e.event).answer) (sym p) (step_tracked h s e.event f.whole f.tracked));
        }
    by (short p q) =
        record {
          whole = subst SoundStore (sym p) f.whole;
          tracked = subst (λ (a : Answer). After h e.event a (lent_any s e).store) (sym q)
              (subst (After h e.event (Answer.refused 1)) (sym p) (tracked_commits_none h e.event (Answer.refused 1) s (refuses 1) f.tracked));
        }

pub sessions_follow : (es : List Sent) (x : Session) → AllSentInRange es → Following x → Following (send_all x es)
unfolding send_all AllSentInRange
sessions_follow [] x i f = f
sessions_follow (e ∷ es) x i f = sessions_follow es (send x e) i.1 (send_following x e i.0 f)

pub forget_live : (s : Store) (t : ℕ) → live (forget s) t ≡ live s t
unfolding live forget header task
forget_live s t = refl

pub forget-task : (s : Store) (t : ℕ) → task (forget s) t ≡ task s t
unfolding forget task
forget-task s t = refl

fresh-next : (header fresh).next ≡ 1
unfolding computes
fresh-next = refl

fresh_main : is_live (task fresh 0).state ≡ true
unfolding computes
fresh_main = refl

fresh-free : is_blocked (task fresh 0).state ≡ false
unfolding computes
fresh-free = refl

fresh_tracked : Tracked (lives []) (stays_blocked []) (forget fresh)
unfolding forget lives_by blocked_by lives stays_blocked
fresh_tracked =
    record {
      sized = sized-forget fresh fresh_sound_store.memory.sized;
      alive = λ t. by t (ℕ_discrete t 0);
      stuck = λ t e. only t e;
      unborn = λ t l. refl;
    }
  where
    low : (t : ℕ) → live fresh t ≡ true → t ≡ 0
    low t e = let l : t < (header fresh).next = (live_low fresh t e).0 in omega (arith, l, fresh-next)

    none : (t : ℕ) → (t ≡ 0 → ⊥) → (b : Bool) → live fresh t ≡ b → b ≡ false
    none t ne true e = absurd (ne (low t e))
    none t ne false e = refl

    main : live fresh 0 ≡ true
    main = live-is fresh 0 (omega (arith, fresh-next)) fresh_main

    by : (t : ℕ) → Dec (t ≡ 0) → eqb t 0 ≡ live (forget fresh) t
    by t (yes q) = subst (λ (u : ℕ). eqb u 0 ≡ live (forget fresh) u) (sym q) (sym (forget_live fresh 0 ∙ main))
    by t (no ne) = ne_eqb t 0 ne ∙ sym (forget_live fresh t ∙ none t ne (live fresh t) refl)

    only : (t : ℕ) → live (forget fresh) t ≡ true → false ≡ is_blocked (task (forget fresh) t).state
    only t e = subst (λ (u : ℕ). false ≡ is_blocked (task (forget fresh) u).state) (sym (low t (sym (forget_live fresh t) ∙ e))) (sym (ap (λ (r : Task). is_blocked r.state) (forget-task fresh 0) ∙ fresh-free))

-- Every session from its beginning.
pub session_follows : (es : List Sent) → AllSentInRange es → Following (session es)
unfolding session begun
session_follows es i = sessions_follow es _ i (record { whole = fresh_sound_store; tracked = fresh_tracked })

-- ---- (i)

pub stands_there : (q : List ℕ) (t : ℕ) → is_in t q ≡ true → 1 ≤ occurrences q t
unfolding is_in occurrences
stands_there [] t e = absurd (true≢false (sym e))
stands_there (x ∷ xs) t e = by (eqb x t) refl (λ q. stands_there xs t q)
  where
    by : (b : Bool) → eqb x t ≡ b → (is_in t xs ≡ true → 1 ≤ occurrences xs t) → 1 ≤ pick (eqb x t) 1 0 + occurrences xs t
    by true q f = rw q (omega arith)
    by false q f = let z : (false || is_in t xs) ≡ true = rw q at e in rw q (omega (arith, f z))

ready-is : (x : TaskState) → T (is_ready x) → (is_live x ≡ true) × (is_blocked x ≡ false)
ready-is TaskState.Absent h = absurd h
ready-is TaskState.Unstarted h = (refl, refl)
ready-is TaskState.Running h = absurd h
ready-is (TaskState.Woken v) h = (refl, refl)
ready-is (TaskState.Raised x) h = (refl, refl)
ready-is (TaskState.Blocked o) h = absurd h

pub queue_right : (x : Session) → Following x → QueueRight x.history (entries x.store.queue)
unfolding view lives_by blocked_by forget
queue_right x f =
    record {
      distinct = q.distinct;
      live = λ t e. f.tracked.alive t ∙ (forget_live s t ∙ is_live_now t e);
      unblocked = λ t e. f.tracked.stuck t (forget_live s t ∙ is_live_now t e) ∙ (ap (λ (r : Task). is_blocked r.state) (forget-task s t) ∙ (ready-is (task s t).state (q.ready t (stands_there _ t e)).1).1);
    }
  where
    s : Store
    s = x.store

    q : Queued (header s).next (task s) (entries s.queue)
    q = to_queued (header s).next (task s) (entries s.queue) f.whole.facts.but.entries

    is_live_now : (t : ℕ) → is_in t (entries s.queue) ≡ true → live s t ≡ true
    is_live_now t e = live-is s t (q.ready t (stands_there _ t e)).0 (ready-is (task s t).state (q.ready t (stands_there _ t e)).1).0
