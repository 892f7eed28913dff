-- What happened is what events and answers say, in every session: all of `Honest` but the word blocked and what is handed to a task that runs on.
use Rattle.std.specs.Prelude.{◌≡◌, Bool, not, ◌&&◌, ◌||◌, ◌⊎◌, ℕ, zero, suc, ◌+◌, ◌≤◌, ◌<◌, T, eqb, get_or, replicate}
use Rattle.std.proofs.Math.Path.{refl, ap, subst}
use Rattle.std.proofs.Common.{sym, ◌∙◌, inl, inr, not-suc-le-zero, arith}
use Rattle.std.proofs.Math.Bool.{true, false, true≢false}
use mathlib.Core.List.{List, [], ◌∷◌}
use Rattle.std.proofs.Math.Option.{Option, none, some}
use Rattle.std.proofs.Math.Decide.{ℕ_discrete}
use Rattle.asyncio.specs.declared.TaskState.{TaskState}
use Rattle.asyncio.specs.declared.Task.{Task}
use Rattle.asyncio.specs.declared.Object.{Object}
use Rattle.asyncio.specs.declared.Moment.{Moment}
use Rattle.asyncio.specs.Limits.{tasks_length, objects_length}
use Rattle.asyncio.specs.Numbers.{task_id}
use Rattle.asyncio.specs.Layout.{to_object, to_task}
use Rattle.rows.specs.Rows.{row_from}
use Rattle.rows.specs.Tables.{object_at, task_at, object_start, task_start}
use Rattle.asyncio.specs.States.{pick, is_live, is_ready, is_unstarted}
use Rattle.machine.specs.Store.{Store, task, object, header, forget, fresh, empty, put_task, put_header}
use Rattle.machine.specs.Scheduler.{live}
use Rattle.machine.specs.Events.{How, Control, runs}
use Rattle.machine.specs.Machine.{Event, Answer, Shown, Step, is_run, first_refusal, in_waiting, refusals, refusal, step}
use Rattle.machine.specs.Sound.{is_ended, sound}
use Rattle.machine.specs.Lent.{Lent}
use Rattle.machine.specs.History.{Entry, Making, Says, nothing_said, said, tells, is_none, making, lives_by, lives, stays_blocked, spawned_by, spawned_for, started_by, coroutine_of}
use Rattle.machine.specs.Sessions.{Sent, happened_by, entry_of, lent_any, Session, begun, send, send_all, session, InRange, AllSentInRange}
use Rattle.machine.specs.Honest.{has_value, ends_task, names_by, named, MakesCoroutine, spawns, spawns_in, left_waiting, waits_at, last_await, ToldHonest, EntryHonest, StateHonest, LogHonest, HonestSessions}
use Rattle.machine.specs.DemandThree.{look}
use Rattle.machine.specs.Computes.{computes}
use Rattle.machine_laws.specs.DeliveryLaws.{absurd_some}
use Rattle.machine_laws.specs.MachineLaws.{accepted-step, refused-step}
use Rattle.machine_laws.specs.SoundLaws.{refusal-forget}
use Rattle.machine_laws.specs.StoreLaws.{sized-forget, object_put-header, task_put-other}
use Rattle.machine_theorems.specs.Soundness.Stores.{SoundStore, sound_store_sound}
use Rattle.machine_theorems.specs.Soundness.Sessions.{forget_sound_store, fresh_sound_store}
use Rattle.machine_sessions.specs.Queue.Tracked.{Tracked}
use Rattle.machine_sessions.specs.Queue.Following.{accept_accepts, Sends, stepped, short, sends, Following, send_following, session_follows}
use Rattle.machine_sessions.specs.Waits.{said-refused}
use Rattle.machine_sessions.specs.Stall.Standing.{stands_like}
use Rattle.machine_sessions.specs.Places.Agrees.{Agrees, none_made}
use Rattle.machine_sessions.specs.Places.AgreesEvents.{forget_agrees}
use Rattle.machine_sessions.specs.Places.AgreesSessions.{send_agrees, session_agrees}
use Rattle.machine_sessions.specs.Honest.Spawned.{Shape, shape, is_used, is_co, spawned_as}
use Rattle.machine_sessions.specs.Honest.HonestIdle.{Idle}
use Rattle.machine_sessions.specs.Honest.HonestEnds.{ControlLeft, none-plain, makes_later, spawns-later}
use Rattle.machine_sessions.specs.Honest.HonestHolds.{EntryLogged, IsHanded, ResumesOn, entry_honest, Kept, Stepped, accept-stepped}

-- ---- a refused event

refused-tells : (n : ℕ) → ((tells (Answer.refused n)).accepts ≡ false) × ((tells (Answer.refused n)).control ≡ none) × ((tells (Answer.refused n)).makes ≡ none)
unfolding tells
refused-tells n = (refl, refl, refl)

module _ (h : List Entry) (e : Event) (n : ℕ) (u : Store) where
  abbrev x : Entry
  x = entry_of e (Answer.refused n) u

  nothing-happens : x.happened ≡ []
  unfolding entry_of happened_by
  nothing-happens = ap (λ (b : Bool). happened_by b u.log) (refused-tells n).0

  says_nothing : said x ≡ nothing_said
  says_nothing = said-refused e (Answer.refused n) u (refused-tells n).0

  nobody : (tells x.answer).control ≡ none
  unfolding entry_of
  nobody = (refused-tells n).1

  not-accepted : (tells x.answer).accepts ≡ false
  unfolding entry_of
  not-accepted = (refused-tells n).0

  makes_none : (tells x.answer).makes ≡ none
  unfolding entry_of
  makes_none = (refused-tells n).2

  pub refused_logged : EntryLogged h x
  refused_logged =
      record {
        log = subst (LogHonest h x) (sym nothing-happens) (unfold LogHonest in tt);
        blocks = λ t d. absurd (no_await d);
        exits = λ t d f. absurd (no_end f);
        ends = λ t d f. absurd (no_end f);
        removes = λ t d f. absurd (true≢false (sym f ∙ not-accepted));
        control = subst (ControlLeft h x x.happened) (sym nobody) (unfold ControlLeft in tt);
      }
    where
      no_await : is_none (said x).awaits ≡ false → ⊥
      no_await d = true≢false (none_said ∙ (sym (ap (λ (y : Says). is_none y.awaits) says_nothing) ∙ d))
        where
          none_said : true ≡ is_none nothing_said.awaits
          none_said = unfold nothing_said is_none in refl

      no_end : ends_task (said x) ≡ true → ⊥
      no_end d = true≢false (sym d ∙ (ap ends_task says_nothing ∙ (unfold nothing_said ends_task has_value is_none in refl)))

  pub refused-kept : Kept h u → Kept (x ∷ h) u
  unfolding forget
  refused-kept k =
      record {
        spawns_are =
            spawns-later h x (forget u) none (λ o. shape (object u o)) nothing-happens nobody
            (spawned_as (spawned_for h) (spawned_for h) (coroutine_of h) (λ t. started_by none t (coroutine_of h t)) (spawns h) (spawns h) _ _ (forget u) (λ t. refl) (λ t. none-plain.begins t (coroutine_of h t)) refl (λ o. refl) k.spawns_are);
        origins = record {
          named_is = λ o. named-then o ∙ k.origins.named_is o;
          made_by = λ o f q. subst (λ (m : Option Making). MakesCoroutine m f) (sym (none_made x h o makes_none)) (makes_later x (making h o) f (k.origins.made_by o f q));
        };
        idle = k.idle;
      }
    where
      named-then : (o : ℕ) → named (x ∷ h) o ≡ named h o
      named-then o = unfold named in (ap (λ (y : Option Control). names_by y o || named h o) nobody ∙ (unfold names_by in refl))

-- ---- one event

forget-idle : (s : Store) → Idle s → Idle (forget s)
forget-idle s k =
    record {
      stood = stands_like s (forget s) (unfold forget in refl) (unfold forget in refl) (unfold header forget in refl) k.stood;
      begun = λ m t l. unfold task forget in (unfold task in (k.begun (unfold header forget in m) t (unfold header forget in l)));
    }

forget-kept : (h : List Entry) (s : Store) → Kept h s → Kept h (forget s)
unfolding forget object
forget-kept h s k = record { spawns_are = k.spawns_are; origins = k.origins; idle = unfold forget in (forget-idle s k.idle) }

forget_twice : (s : Store) → forget (forget s) ≡ forget s
unfolding forget
forget_twice s = refl

forget_moment : (s : Store) → (header (forget s)).moment ≡ (header s).moment
unfolding forget header
forget_moment s = refl

pub step-stepped : (h : List Entry) (s : Store) (e : Event) → SoundStore s → Tracked (lives h) (stays_blocked h) (forget s) → Agrees h s → InRange e → (is_ended (header s).moment ≡ false → Kept h s) → Stepped h e (step s e)
step-stepped h s e w tr ag i k = by (ℕ_discrete (refusal s e) 0)
  where
    by : Dec (refusal s e ≡ 0) → Stepped h e (step s e)
    by (yes r) =
        subst (Stepped h e) (sym (accepted-step s e r))
        (accept-stepped h (forget s) (forget_sound_store s w) tr (forget_agrees h s ag) (forget_twice s) (λ on. forget-kept h s (k (sym (ap is_ended (forget_moment s)) ∙ on))) e i (refusal-forget s e ∙ r))
    by (no ne) =
        subst (Stepped h e) (sym (refused-step s e (refusal s e) refl ne))
        (record { entry = refused_logged h e (refusal s e) (forget s); after = λ on. refused-kept h e (refusal s e) (forget s) (forget-kept h s (k (sym (ap is_ended (forget_moment s)) ∙ on))) })

-- ---- sessions

-- what every session has
pub record Honestly (x : Session) : Type 0 where
  pub follows : Following x
  pub agrees : Agrees x.history x.store
  pub kept : is_ended (header x.store).moment ≡ false → Kept x.history x.store

-- one event of a session
pub record SentOn (h : List Entry) (e : Event) (l : Lent) : Type 0 where
  pub entry : EntryLogged h (entry_of e l.answer l.store)
  pub after : is_ended (header l.store).moment ≡ false → Kept (entry_of e l.answer l.store ∷ h) l.store

abbrev On : List Entry → Event → Answer → Store → Type 0
On h e a u = EntryLogged h (entry_of e a u) × (is_ended (header u).moment ≡ false → Kept (entry_of e a u ∷ h) u)

pub sent_on : (x : Session) (e : Sent) → InRange e.event → Honestly x → SentOn x.history e.event (lent_any x.store e)
sent_on x e i k = by (sends s e k.follows.whole.memory.sized)
  where
    s : Store
    s = x.store

    h : List Entry
    h = x.history

    on : (a : Answer) (u : Store) → (lent_any s e).answer ≡ a → (lent_any s e).store ≡ u → On h e.event a u → SentOn h e.event (lent_any s e)
    on a u p q z = let y : On h e.event (lent_any s e).answer (lent_any s e).store = subst (λ (b : Answer). On h e.event b (lent_any s e).store) (sym p) (subst (On h e.event a) (sym q) z) in record { entry = y.0; after = y.1 }

    by : Sends s e → SentOn h e.event (lent_any s e)
    by (stepped p q) = let y = step-stepped h s e.event k.follows.whole k.follows.tracked k.agrees i k.kept in on _ _ q p (y.entry, y.after)
    by (short p q) = on (Answer.refused 1) s q p (refused_logged h e.event 1 s, λ o. refused-kept h e.event 1 s (k.kept o))

send_honestly : (x : Session) (e : Sent) → InRange e.event → Honestly x → Honestly (send x e)
send_honestly x e i k =
    record {
      follows = send_following x e i k.follows;
      agrees = send_agrees x e i k.follows k.agrees;
      kept = unfold send in (sent_on x e i k).after;
    }

sessions_honest : (es : List Sent) (x : Session) → AllSentInRange es → Honestly x → Honestly (send_all x es)
unfolding send_all AllSentInRange
sessions_honest [] x i k = k
sessions_honest (e ∷ es) x i k = sessions_honest es (send x e) i.1 (send_honestly x e i.0 k)

-- ---- the beginning

zeros : (n k : ℕ) → ◌≡◌ {A = ℕ} (get_or (replicate {A = ℕ} n 0) k 0) 0
zeros zero k = refl
zeros (suc n) zero = refl
zeros (suc n) (suc k) = zeros n k

row-zeros : (n b j m : ℕ) → row_from (replicate {A = ℕ} n 0) b j m ≡ replicate {A = ℕ} m 0
row-zeros n b j zero = refl
row-zeros n b j (suc m) = rw (zeros n (b + j), row-zeros n b (suc j) m)

fresh-object : (o : ℕ) → object fresh o ≡ Object.Unmade
fresh-object o = by-header ∙ zero_row
  where
    by-header : object fresh o ≡ object empty o
    by-header = unfold fresh in (task-same (put_header empty _) _ ∙ object_put-header empty _ o)
      where
        task-same : (s : Store) (r : Task) → object (put_task s 0 r) o ≡ object s o
        task-same s r = unfold object put_task in refl

    zero_row : object empty o ≡ Object.Unmade
    zero_row = unfold object empty object_at in (ap to_object (row-zeros objects_length (object_start o) 0 8))

fresh-task : (t : ℕ) → (t ≡ 0 → ⊥) → (task fresh t).state ≡ TaskState.Absent
fresh-task t ne = ap (λ (r : Task). r.state) others ∙ zero_row
  where
    others : task fresh t ≡ task empty t
    others = unfold fresh in (task_put-other (put_header empty _) 0 t _ ne ∙ (unfold task put_header in refl))

    zero_row : (task empty t).state ≡ TaskState.Absent
    zero_row = unfold task empty task_at in (ap (λ (y : List ℕ). (to_task y).state) (row-zeros tasks_length (task_start t) 0 8))

fresh-head : ((header fresh).next ≡ 1) × ((header fresh).moment ≡ Moment.Running (task_id 0))
unfolding computes
fresh-head = (refl, refl)

fresh_main : (is_live (task fresh 0).state ≡ true) × (is_ready (task fresh 0).state ≡ false) × (is_unstarted (task fresh 0).state ≡ false)
unfolding computes
fresh_main = (refl, refl, refl)

fresh-shape : (o : ℕ) → shape (object fresh o) ≡ Shape.other
unfolding shape
fresh-shape o = ap shape (fresh-object o)

not_new : {A : Type 0} (y : Shape) (f : ℕ) → y ≡ Shape.other → y ≡ Shape.new f → A
not_new y f e q = let z : ◌≡◌ {A = Bool} false true = ap is_co (sym e ∙ q) in absurd (true≢false (sym z))

fresh_kept : Kept [] fresh
unfolding forget spawned_for coroutine_of spawns spawns_in spawned_by named making MakesCoroutine object task header live
fresh_kept =
    record {
      spawns_are = record {
        sized = sized-forget fresh fresh_sound_store.memory.sized;
        rows = λ o. refl;
        next = fresh-head.0;
        unused = λ t l b. ap is_live (fresh-task t (λ q. not-suc-le-zero {n = 0} (omega (arith, b, fresh-head.0))));
        unborn = λ t b. refl;
        main = fresh_main.2;
        not_main = refl;
        tasks = λ t b l. absurd (not-suc-le-zero {n = 0} (omega (arith, b, fresh-head.0)));
        known = λ t c q. absurd_some q;
        first = λ t c f q w. absurd_some q;
      };
      origins = record { named_is = λ c. sym (ap is_used (fresh-shape c)); made_by = λ c f q. not_new _ f (fresh-shape c) q };
      idle = record {
        stood = record { main = fresh_main.0; stands = λ t l r n. absurd (true≢false (sym r ∙ subst (λ (v : ℕ). is_ready (task fresh v).state ≡ false) (sym (only t l)) fresh_main.1)) };
        begun = λ m. not-waiting (header fresh).moment fresh-head.1 m;
      };
    }
  where
    only : (t : ℕ) → t < (header fresh).next → t ≡ 0
    only t l = omega (arith, l, fresh-head.0)

    not-waiting : {A : Type 0} (m : Moment) → m ≡ Moment.Running (task_id 0) → m ≡ Moment.Waiting → A
    not-waiting m e q = let z : ◌≡◌ {A = ℕ} 0 1 = cc in absurd (omega arith)

-- Every session from its beginning.
pub session_honest : (es : List Sent) → AllSentInRange es → Honestly (session es)
unfolding session begun AllSentInRange send_all
session_honest es i = sessions_honest es begun i (record { follows = session_follows [] tt; agrees = session_agrees [] tt; kept = λ on. fresh_kept })

-- ---- who may be cancelled

ended_by : (b c d : Bool) → ℕ → ℕ
ended_by b c d n = pick b 3 (pick c 4 (pick d 5 n))

cancel-refusal : (s : Store) (t : ℕ) → SoundStore s → refusal s (Event.cancel t) ≡ ended_by (is_ended (header s).moment) (is_run (header s).moment) (not (live s t)) (pick (eqb t 0) 9 0)
unfolding refusal refusals in_waiting first_refusal ended_by
cancel-refusal s t w = by (sound s) (sound_store_sound s w)
  where
    by : (b : Bool) → T b
        → ◌≡◌ {A = ℕ} (pick (not b) 2 (pick (is_ended (header s).moment) 3 (pick (is_run (header s).moment) 4 (pick (not (live s t)) 5 (pick (eqb t 0) 9 0)))))
        (pick (is_ended (header s).moment) 3 (pick (is_run (header s).moment) 4 (pick (not (live s t)) 5 (pick (eqb t 0) 9 0))))
    by true h = refl
    by false h = absurd h

refused-answer : (s : Store) (e : Event) (n : ℕ) → refusal s e ≡ n → (n ≡ 0 → ⊥) → (step s e).answer ≡ Answer.refused n
refused-answer s e n q ne = ap (λ (y : Step). y.answer) (refused-step s e n q ne)

refused-same : (m n : ℕ) → Answer.refused m ≡ Answer.refused n → m ≡ n
refused-same m n e = cc

-- not live: refused, by the moment or with 5
pub dead_refused : (s : Store) (t : ℕ) → SoundStore s → live s t ≡ false
    → (step s (Event.cancel t)).answer ≡ Answer.refused 5 ⊎ ((step s (Event.cancel t)).answer ≡ Answer.refused 3) ⊎ ((step s (Event.cancel t)).answer ≡ Answer.refused 4)
unfolding ended_by
dead_refused s t w d = by (is_ended (header s).moment) (is_run (header s).moment) refl refl
  where
    is : (b c : Bool) → is_ended (header s).moment ≡ b → is_run (header s).moment ≡ c → refusal s (Event.cancel t) ≡ ended_by b c true (pick (eqb t 0) 9 0)
    is b c p q =
        cancel-refusal s t w ∙ (ap (λ (x : Bool). ended_by x (is_run (header s).moment) (not (live s t)) (pick (eqb t 0) 9 0)) p
        ∙ (ap (λ (x : Bool). ended_by b x (not (live s t)) (pick (eqb t 0) 9 0)) q ∙ ap (λ (x : Bool). ended_by b c (not x) (pick (eqb t 0) 9 0)) d))

    some_number : (n : ℕ) → 1 ≤ n → n ≡ 0 → ⊥
    some_number n l e = not-suc-le-zero {n = 0} (omega arith)

    by : (b c : Bool) → is_ended (header s).moment ≡ b → is_run (header s).moment ≡ c
        → (step s (Event.cancel t)).answer ≡ Answer.refused 5 ⊎ ((step s (Event.cancel t)).answer ≡ Answer.refused 3) ⊎ ((step s (Event.cancel t)).answer ≡ Answer.refused 4)
    by true c p q = inr (inl (refused-answer s (Event.cancel t) 3 (is true c p q) (some_number 3 (omega arith))))
    by false true p q = inr (inr (refused-answer s (Event.cancel t) 4 (is false true p q) (some_number 4 (omega arith))))
    by false false p q = inl (refused-answer s (Event.cancel t) 5 (is false false p q) (some_number 5 (omega arith)))

-- live: not with 5
pub live-not-refused : (s : Store) (t : ℕ) → SoundStore s → live s t ≡ true → (step s (Event.cancel t)).answer ≡ Answer.refused 5 → ⊥
unfolding ended_by
live-not-refused s t w d five = by (is_ended (header s).moment) (is_run (header s).moment) (eqb t 0) refl refl refl
  where
    is : (b c e : Bool) → is_ended (header s).moment ≡ b → is_run (header s).moment ≡ c → eqb t 0 ≡ e → refusal s (Event.cancel t) ≡ ended_by b c false (pick e 9 0)
    is b c e p q r =
        cancel-refusal s t w ∙ (ap (λ (x : Bool). ended_by x (is_run (header s).moment) (not (live s t)) (pick (eqb t 0) 9 0)) p
        ∙ (ap (λ (x : Bool). ended_by b x (not (live s t)) (pick (eqb t 0) 9 0)) q ∙ (ap (λ (x : Bool). ended_by b c (not x) (pick (eqb t 0) 9 0)) d ∙ ap (λ (x : Bool). ended_by b c false (pick x 9 0)) r)))

    other : (n : ℕ) → refusal s (Event.cancel t) ≡ n → 1 ≤ n → (n ≡ 5 → ⊥) → ⊥
    other n q l ne = ne (refused-same n 5 (sym (refused-answer s (Event.cancel t) n q (λ z. not-suc-le-zero {n = 0} (omega arith))) ∙ five))

    by : (b c e : Bool) → is_ended (header s).moment ≡ b → is_run (header s).moment ≡ c → eqb t 0 ≡ e → ⊥
    by true c e p q r = other 3 (is true c e p q r) (omega arith) (λ z. not-suc-le-zero {n = 0} (omega arith))
    by false true e p q r = other 4 (is false true e p q r) (omega arith) (λ z. not-suc-le-zero {n = 0} (omega arith))
    by false false true p q r = other 9 (is false false true p q r) (omega arith) (λ z. not-suc-le-zero {n = 0} (omega arith))
    by false false false p q r =
        true≢false (sym (accept_accepts (forget s) (Event.cancel t)) ∙ (ap (λ (y : Step). (tells y.answer).accepts) (sym (accepted-step s (Event.cancel t) (is false false false p q r))) ∙ (ap (λ (a : Answer). (tells a).accepts) five ∙ (refused-tells 5).0)))

-- ---- the theorem

-- the entry of one event more
abbrev pub sent_entry : List Sent → Sent → Entry
sent_entry es e = entry_of e.event (lent_any (session es).store e).answer (lent_any (session es).store e).store

-- The log of one event more, what must happen, and who has control: for every list of events, refused ones included, with any call lists.
pub entry_logged : (es : List Sent) (e : Sent) → AllSentInRange es → InRange e.event → EntryLogged (session es).history (sent_entry es e)
entry_logged es e i j = (sent_on (session es) e j (session_honest es i)).entry

-- With what is handed to a task that runs on, and what a resume does, all of it.
pub entry_honest_from : (es : List Sent) (e : Sent) (look : ℕ → Shown) → AllSentInRange es → InRange e.event
    → ((t : ℕ) (a : How) → (tells (sent_entry es e).answer).control ≡ some (runs t a) → IsHanded a → ToldHonest (session es).history (sent_entry es e) look t a)
    → ResumesOn (sent_entry es e) → EntryHonest (session es).history (sent_entry es e) look
entry_honest_from es e look i j g r = entry_honest (session es).history (sent_entry es e) look g r (entry_logged es e i j)

pub live_words : (x : Session) → Following x → (t : ℕ) → lives x.history t ≡ live x.store t
unfolding lives_by forget live header task
live_words x f t = f.tracked.alive t

-- With the word blocked, all of what stands after a session.
pub state_honest_from : (es : List Sent) → AllSentInRange es
    → ((t : ℕ) → lives (session es).history t ≡ true → stays_blocked (session es).history t ≡ (left_waiting (session es).history t && waits_at (look (session es).store) (last_await (session es).history t)))
    → StateHonest (session es).history (session es).store
state_honest_from es i b =
    let f : Following (session es) = session_follows es i in
    record {
      blocked_is = b;
      dead = λ t d. dead_refused (session es).store t f.whole (sym (live_words (session es) f t) ∙ d);
      alive = λ t d. live-not-refused (session es).store t f.whole (sym (live_words (session es) f t) ∙ d);
    }

-- With all three, what is asked of every session.
pub honest_sessions_from :
    ((es : List Sent) (e : Sent) → AllSentInRange es → InRange e.event → (t : ℕ) (a : How) → (tells (sent_entry es e).answer).control ≡ some (runs t a) → IsHanded a
    → ToldHonest (session es).history (sent_entry es e) (look (send (session es) e).store) t a)
    → ((es : List Sent) → AllSentInRange es → (t : ℕ) → lives (session es).history t ≡ true
    → stays_blocked (session es).history t ≡ (left_waiting (session es).history t && waits_at (look (session es).store) (last_await (session es).history t)))
    → ((es : List Sent) (e : Sent) → AllSentInRange es → InRange e.event → ResumesOn (sent_entry es e))
    → HonestSessions
honest_sessions_from told stuck on es e i j = (entry_honest_from es e (look (send (session es) e).store) i j (told es e i j) (on es e i j), state_honest_from es i (stuck es i))
