-- In every session the items of open places have come to nothing; and where no cancel was accepted, nothing stalls.
use Rattle.std.specs.Prelude.{◌⊎◌, ◌≡◌, Bool, true, false, ℕ, suc, ◌+◌, ◌<◌}
use Rattle.std.proofs.Common.{inl, inr, sym, ap, ◌∙◌, not-suc-le-zero, arith}
use Rattle.std.proofs.Math.Path.{refl, subst}
use Rattle.std.proofs.Math.Bool.{true≢false}
use mathlib.Core.List.{List, [], ◌∷◌}
use Rattle.std.proofs.Math.Option.{none, some}
use Rattle.std.proofs.Math.Decide.{ℕ_discrete}
use Rattle.asyncio.specs.declared.Task.{Task}
use Rattle.asyncio.specs.declared.Awaiter.{Awaiter}
use Rattle.asyncio.specs.declared.Moment.{Moment}
use Rattle.asyncio.specs.declared.Header.{Header}
use Rattle.asyncio.specs.Limits.{tasks_length}
use Rattle.asyncio.specs.Numbers.{heap_id, task_id}
use Rattle.asyncio.specs.Layout.{to_task}
use Rattle.asyncio.specs.States.{is_live, is_ready, is_unstarted}
use Rattle.rows.specs.Tables.{task_at, task_start}
use Rattle.machine.specs.Store.{Store, LogEntry, task, object, place, header, forget, fresh, empty, put_header}
use Rattle.machine.specs.Scheduler.{AwaitedGather, as_awaited, bit}
use Rattle.machine.specs.Machine.{Event, Answer, Step, runner, refusal, accept, step}
use Rattle.machine.specs.Sound.{is_ended}
use Rattle.machine.specs.History.{Entry, Says, says, nothing_said, said, tells, spawned_by, spawned_for, coroutine_of, exits_unstarted, completed_value, failed_error, coroutine_outcome, outcome, error_of, cancelled}
use Rattle.machine.specs.Sessions.{InRange, AllSentInRange, Sent, lent_any, entry_of, happened_by, Session, begun, send, send_all, session}
use Rattle.machine.specs.DemandThree.{look, empty_wait, is_stalled, goes_on}
use Rattle.machine.specs.Computes.{computes}
use Rattle.machine_laws.specs.Statements.{AnswerSays}
use Rattle.machine_laws.specs.Facts.{Nothing}
use Rattle.machine_laws.specs.StoreLaws.{sized-forget, task_put-other}
use Rattle.machine_laws.specs.DeliveryLaws.{absurd_some, awaited-object}
use Rattle.machine_laws.specs.MachineLaws.{accepted-step, refused-step}
use Rattle.machine_laws.specs.SizedLaws.{step-says}
use Rattle.machine_laws.specs.SoundLaws.{refusal-forget}
use Rattle.machine_theorems.specs.Soundness.Stores.{SoundStore}
use Rattle.machine_theorems.specs.Soundness.Sessions.{forget_sound_store, step_sound_store, fresh_sound_store}
use Rattle.machine_sessions.specs.Waits.{said-accepted, said-refused}
use Rattle.machine_sessions.specs.Queue.Following.{accept_accepts, Sends, stepped, short, sends, Following, send_following, session_follows}
use Rattle.machine_sessions.specs.Stall.Standing.{stands_like}
use Rattle.machine_sessions.specs.Stall.StandingEvents.{MainEnds}
use Rattle.machine_sessions.specs.Stall.StandingAwait.{accept-right, ends}
use Rattle.machine_sessions.specs.Stall.NoStall.{sourced_like, sourced_more}
use Rattle.machine_sessions.specs.Places.Agrees.{Agrees}
use Rattle.machine_sessions.specs.Places.AgreesEvents.{forget_agrees}
use Rattle.machine_sessions.specs.Places.AgreesSessions.{row-zeros, send_agrees, session_agrees}
use Rattle.machine_sessions.specs.Places.PlacesHold.{row_outcome, outcome-row, item_low, items_no_error}
use Rattle.machine_sessions.specs.Stall.TaskLog.{exits_by, exits, Tasks, tasks-same}
use Rattle.machine_sessions.specs.Stall.Outcomes.{outcome_of, Came, was, completed, failed, unstarted, came}
use Rattle.machine_sessions.specs.Stall.GoesOn.{Reads, ended_reads, accept-goes, Finished, main_finishes, or_none, cancelled-then, goes_then}
use Rattle.machine_sessions.specs.Stall.Waiting.{Lost, Alive, ItemsWait, alive-items}
use Rattle.machine_sessions.specs.Stall.WaitingEvents.{still_nothing, items-later, quiet_items, Ending, completing, failing, accept-alive, end-items, cancel-alive}

pub record Waiting (h : List Entry) (s : Store) : Type 0 where
  pub alive : is_ended (header s).moment ≡ false → Alive h s
  pub items : ItemsWait h s
  pub goes : cancelled h ≡ false → goes_on h ≡ true

abbrev pub StepWaiting : List Entry → Event → Step → Type 0
StepWaiting h e x = Waiting (entry_of e x.answer x.store ∷ h) x.store

-- ---- the log is no row

pub forget-alive : (h : List Entry) (s : Store) → Alive h s → Alive h (forget s)
forget-alive h s k =
    record {
      stands = stands_like s (forget s) (unfold forget in refl) (unfold forget in refl) (unfold header forget in refl) k.stands;
      all_started = λ m t l. unfold task forget in (unfold task in (k.all_started (unfold header forget in m) t (unfold header forget in l)));
      tasks = tasks-same _ _ _ s (forget s) _ _ _ _ (sized-forget s k.tasks.sized) (unfold header forget in refl) (λ t. refl) (λ t. refl) (λ c e. unfold object forget in (unfold object in e)) (λ c e. unfold object forget in (unfold object in e))
          (λ t. unfold task forget in refl) k.tasks;
      sourced = sourced_more (forget s) lost-now (sourced_like _ s (forget s) (λ o. unfold object forget in refl) (λ t. unfold task forget in refl) (λ p. unfold place forget in refl) (unfold header forget in refl) k.sourced);
      came = k.came;
    }
  where
    lost-now : (o : ℕ) → Lost h s o → Lost h (forget s) o
    lost-now o y =
        record {
          after_cancel = y.after_cancel;
          its_task = y.its_task;
          spawned = y.spawned;
          gone = record { low = unfold header forget in (unfold header in y.gone.low); dead = unfold task forget in (unfold task in y.gone.dead); unexited = y.gone.unexited };
        }

forget-items : (h : List Entry) (s : Store) → ItemsWait h s → ItemsWait h (forget s)
unfolding forget object place header
forget-items h s k = k

-- ---- a refused event: nothing has happened

module _ (e : Event) (n : ℕ) (u : Store) (h : List Entry) where
  abbrev x : Entry
  x = entry_of e (Answer.refused n) u

  said-none : said x ≡ nothing_said
  said-none = said-refused e (Answer.refused n) u (unfold tells in refl)

  happened-none : x.happened ≡ []
  happened-none = unfold entry_of happened_by tells in refl

  no-completes : (said x).completes ≡ none
  no-completes = ap (λ (z : Says). z.completes) said-none ∙ (unfold nothing_said in refl)

  no_fails : (said x).fails ≡ none
  no_fails = ap (λ (z : Says). z.fails) said-none ∙ (unfold nothing_said in refl)

  spawned_as : (t : ℕ) → spawned_for (x ∷ h) t ≡ spawned_for h t
  spawned_as t = unfold spawned_for in (ap (λ (l : List LogEntry). spawned_by (spawned_for h t) l t) happened-none ∙ (unfold spawned_by in refl))

  exits-as : (t : ℕ) → exits (x ∷ h) t ≡ exits h t
  exits-as t = unfold exits in (ap (λ (l : List LogEntry). exits_by (exits h t) l t) happened-none ∙ (unfold exits_by in refl))

  cancelled-as : cancelled (x ∷ h) ≡ cancelled h
  cancelled-as = cancelled-then x h nothing_said said-none ∙ (unfold nothing_said in refl)

  refused-alive : Alive h u → Alive (x ∷ h) u
  refused-alive k =
      let j = k.tasks in
      record {
        stands = k.stands;
        all_started = k.all_started;
        tasks = record {
          sized = j.sized;
          main = j.main;
          first = j.first;
          behind = j.behind;
          rows = λ t l a. spawned_as (suc t) ∙ j.rows t l a;
          born = λ t c q. j.born t c (sym (spawned_as t) ∙ q);
          before = λ t c q. q;
          alone = λ t v c q p. j.alone t v c (sym (spawned_as t) ∙ q) (sym (spawned_as v) ∙ p);
          coroutines = λ t c q. j.coroutines t c (sym (spawned_as t) ∙ q);
          used = λ t c q. j.used t c (sym (spawned_as t) ∙ q);
          started = j.started;
          ended = λ t q. j.ended t (sym (exits-as t) ∙ q);
          lost = λ t q. absurd q;
          left = λ t q. absurd q;
        };
        sourced = sourced_more u lost-now k.sourced;
        came = λ c r q. on c (came x h c r q);
      }
    where
      lost-now : (o : ℕ) → Lost h u o → Lost (x ∷ h) u o
      lost-now o y =
          record {
            after_cancel = cancelled-as ∙ y.after_cancel;
            its_task = y.its_task;
            spawned = spawned_as y.its_task ∙ y.spawned;
            gone = record { low = y.gone.low; dead = y.gone.dead; unexited = exits-as y.its_task ∙ y.gone.unexited };
          }

      on : (c : ℕ) → Came x h c → (v : ℕ) × (spawned_for (x ∷ h) v ≡ some c) × (exits (x ∷ h) v ≡ true)
      on c (was r a) = let b = k.came c r a in (b.0, spawned_as b.0 ∙ b.1, exits-as b.0 ∙ b.2)
      on c (completed v a q) = absurd_some (sym no-completes ∙ q)
      on c (failed m a q) = absurd_some (sym no_fails ∙ q)
      on c (unstarted q) = absurd (true≢false (sym q ∙ (ap (λ (l : List LogEntry). exits_unstarted (spawned_for (x ∷ h)) (coroutine_of (x ∷ h)) l c) happened-none ∙ (unfold exits_unstarted in refl))))

  refused-waiting : (is_ended (header u).moment ≡ false → Alive h u) → ItemsWait h u → (cancelled h ≡ false → goes_on h ≡ true) → Waiting (x ∷ h) u
  refused-waiting a i g =
      record {
        alive = λ on. refused-alive (a on);
        items = quiet_items x h u u (λ o. refl) (λ p. refl) refl no-completes no_fails happened-none i;
        goes = λ c. goes_then e (Answer.refused n) u h (unfold tells empty_wait in refl) (unfold is_stalled in refl) (g (sym cancelled-as ∙ c));
      }

-- ---- an accepted event

-- does main end there? is it a cancel?
main_ends : (s : Store) (e : Event) → Dec (MainEnds s e)
unfolding MainEnds
main_ends s (Event.coroutine f) = no (λ z. z)
main_ends s Event.call = no (λ z. z)
main_ends s (Event.pending c r) = no (λ z. z)
main_ends s (Event.settled v) = no (λ z. z)
main_ends s (Event.gather os) = no (λ z. z)
main_ends s (Event.await o) = no (λ z. z)
main_ends s (Event.complete v) = ℕ_discrete (runner (header s).moment) 0
main_ends s (Event.fail n) = ℕ_discrete (runner (header s).moment) 0
main_ends s (Event.results rs) = no (λ z. z)
main_ends s Event.resume = no (λ z. z)
main_ends s (Event.cancel t) = no (λ z. z)
main_ends s (Event.show o) = no (λ z. z)
main_ends s Event.eager = no (λ z. z)

pub a_cancel : (e : Event) → ((t : ℕ) × (e ≡ Event.cancel t)) ⊎ ((says e).cancels ≡ false)
unfolding says nothing_said
a_cancel (Event.coroutine f) = inr refl
a_cancel Event.call = inr refl
a_cancel (Event.pending c r) = inr refl
a_cancel (Event.settled v) = inr refl
a_cancel (Event.gather os) = inr refl
a_cancel (Event.await o) = inr refl
a_cancel (Event.complete v) = inr refl
a_cancel (Event.fail n) = inr refl
a_cancel (Event.results rs) = inr refl
a_cancel Event.resume = inr refl
a_cancel (Event.cancel t) = inl (t, refl)
a_cancel (Event.show o) = inr refl
a_cancel Event.eager = inr refl

module _ (h : List Entry) (s : Store) (w : SoundStore s) (ag : Agrees h s) (clean : s.log ≡ []) (k : Waiting h s) (e : Event) (i : InRange e) (r : refusal s e ≡ 0)
    (wu : SoundStore (accept s e).store) (says-it : AnswerSays (accept s e).store (accept s e).answer) where
  abbrev u : Store
  u = (accept s e).store

  abbrev y : Entry
  y = entry_of e (accept s e).answer u

  said-it : said y ≡ says e
  said-it = said-accepted e (accept s e).answer u (accept_accepts s e)

  -- what is cancelled, and what was
  parts : cancelled (y ∷ h) ≡ false → ((says e).cancels ≡ false) × (cancelled h ≡ false)
  parts c = or_none (says e).cancels (cancelled h) (sym (cancelled-then y h (says e) said-it) ∙ c)

  -- nobody's task was cancelled
  none-lost : cancelled (y ∷ h) ≡ false → (o : ℕ) → Lost (y ∷ h) u o → ⊥
  none-lost c o z = true≢false (sym z.after_cancel ∙ c)

  -- before the end, and main does not end there
  on-waiting : (MainEnds s e → ⊥) → Alive h s → Alive (y ∷ h) u → Waiting (y ∷ h) u
  on-waiting on b a =
      record {
        alive = λ z. a;
        items = alive-items (y ∷ h) u wu a;
        goes = λ c.
            let g = accept-goes s e wu a.stands (sourced_more u (none-lost c) a.sourced) (accept-right s w b.stands e i (parts c).0 r) says-it in
            goes_then e (accept s e).answer u h g.0 g.1 (k.goes (parts c).1);
      }

  alive-waiting : (MainEnds s e → ⊥) → Alive h s → Waiting (y ∷ h) u
  alive-waiting on b = by (a_cancel e)
    where
      by : ((t : ℕ) × (e ≡ Event.cancel t)) ⊎ ((says e).cancels ≡ false) → Waiting (y ∷ h) u
      by (inr n) = on-waiting on b (accept-alive h s w ag clean b e r i n on)
      by (inl z) = on-waiting on b (subst (λ (v : Event). Alive (entry_of v (accept s v).answer (accept s v).store ∷ h) (accept s v).store) (sym z.1) (cancel-alive h s w ag clean b z.0 (subst (λ (v : Event). refusal s v ≡ 0) z.1 r)))

  -- main ends the session
  end-waiting : MainEnds s e → Alive h s → Waiting (y ∷ h) u
  end-waiting m b =
      let f : Finished s (accept s e) = main_finishes s e m in
      record {
        alive = λ on. absurd (true≢false (sym (ap (λ (v : Store). is_ended (header v).moment) f.store_is ∙ ends s w b.stands) ∙ on));
        items = end-items h s w ag clean b e r m f.store_is k.items;
        goes = λ c. goes_then e (accept s e).answer u h (ap empty_wait f.no_control ∙ (unfold empty_wait in refl)) f.no_stall (k.goes (parts c).1);
      }

  -- it has ended: a read
  read-waiting : is_ended (header s).moment ≡ true → Waiting (y ∷ h) u
  read-waiting d =
      let f : Reads s (accept s e) = ended_reads s e r d in
      record {
        alive = λ on. absurd (true≢false (sym (ap (λ (v : Store). is_ended (header v).moment) f.same_store ∙ d) ∙ on));
        items = items-later y h s u (λ o. ap (λ (v : Store). object v o) f.same_store) (λ p. ap (λ (v : Store). place v p) f.same_store) (ap (λ (v : Store). (header v).made) f.same_store)
            (λ c. still_nothing y h c (λ v a q. none_runs (completing s e v w r (ap (λ (z : Says). z.completes) (sym said-it) ∙ q))) (λ n a q. none_runs (failing s e n w r (ap (λ (z : Says). z.fails) (sym said-it) ∙ q)))
            (λ q. true≢false (sym q ∙ (ap (λ (l : List LogEntry). exits_unstarted (spawned_for (y ∷ h)) (coroutine_of (y ∷ h)) l c) (none-happened f.same_store) ∙ (unfold exits_unstarted in refl))))) k.items;
        goes = λ c. goes_then e (accept s e).answer u h (ap empty_wait f.no_control ∙ (unfold empty_wait in refl)) f.no_stall (k.goes (parts c).1);
      }
    where
      none_runs : Ending s e → ⊥
      none_runs n = true≢false (sym d ∙ (ap is_ended n.runs ∙ (unfold is_ended in refl)))

      none-happened : u ≡ s → y.happened ≡ []
      none-happened q = logged ∙ (ap (λ (v : Store). v.log) q ∙ clean)
        where
          logged : y.happened ≡ u.log
          logged = unfold entry_of happened_by in (ap (λ (b : Bool). happened_by b u.log) (accept_accepts s e))

  accepted-waiting : Waiting (y ∷ h) u
  accepted-waiting = by (is_ended (header s).moment) refl
    where
      on : (b : Alive h s) → Dec (MainEnds s e) → Waiting (y ∷ h) u
      on b (yes m) = end-waiting m b
      on b (no n) = alive-waiting n b

      by : (d : Bool) → is_ended (header s).moment ≡ d → Waiting (y ∷ h) u
      by true d = read-waiting d
      by false d = on (k.alive d) (main_ends s e)

-- ---- sessions

pub step-waiting : (h : List Entry) (s : Store) (e : Event) → SoundStore s → InRange e → Agrees h s → Waiting h s → StepWaiting h e (step s e)
step-waiting h s e w i ag k = by (ℕ_discrete (refusal s e) 0)
  where
    same_end : is_ended (header (forget s)).moment ≡ is_ended (header s).moment
    same_end = unfold header forget in refl

    kf : Waiting h (forget s)
    kf = record { alive = λ on. forget-alive h s (k.alive (sym same_end ∙ on)); items = forget-items h s k.items; goes = k.goes }

    by : Dec (refusal s e ≡ 0) → StepWaiting h e (step s e)
    by (yes r) =
        let q : step s e ≡ accept (forget s) e = accepted-step s e r in
        subst (StepWaiting h e) (sym q)
        (accepted-waiting h (forget s) (forget_sound_store s w) (forget_agrees h s ag) (unfold forget in refl) kf e i (refusal-forget s e ∙ r) (subst (λ (x : Step). SoundStore x.store) q (step_sound_store s w e i))
        (subst (λ (x : Step). AnswerSays x.store x.answer) q (step-says s e w.memory.sized)))
    by (no ne) = subst (StepWaiting h e) (sym (refused-step s e (refusal s e) refl ne)) (refused-waiting e (refusal s e) (forget s) h kf.alive kf.items kf.goes)

pub send-waiting : (x : Session) (e : Sent) → InRange e.event → Following x → Agrees x.history x.store → Waiting x.history x.store → Waiting (send x e).history (send x e).store
unfolding send
send-waiting x e i f ag k = by (sends s e f.whole.memory.sized)
  where
    s : Store
    s = x.store

    h : List Entry
    h = x.history

    by : Sends s e → Waiting (entry_of e.event (lent_any s e).answer (lent_any s e).store ∷ h) (lent_any s e).store
    by (stepped p q) =
        subst (λ (a : Answer). Waiting (entry_of e.event a (lent_any s e).store ∷ h) (lent_any s e).store) (sym q)
        (subst (λ (u : Store). Waiting (entry_of e.event (step s e.event).answer u ∷ h) u) (sym p) (step-waiting h s e.event f.whole i ag k))
    by (short p q) =
        subst (λ (a : Answer). Waiting (entry_of e.event a (lent_any s e).store ∷ h) (lent_any s e).store) (sym q)
        (subst (λ (u : Store). Waiting (entry_of e.event (Answer.refused 1) u ∷ h) u) (sym p) (refused-waiting e.event 1 s h k.alive k.items k.goes))

pub sessions_wait : (es : List Sent) (x : Session) → AllSentInRange es → Following x → Agrees x.history x.store → Waiting x.history x.store → Waiting (send_all x es).history (send_all x es).store
unfolding send_all AllSentInRange
sessions_wait [] x i f ag k = k
sessions_wait (e ∷ es) x i f ag k = sessions_wait es (send x e) i.1 (send_following x e i.0 f) (send_agrees x e i.0 f ag) (send-waiting x e i.0 f ag k)

-- ---- the beginning

fresh-head : ((header fresh).made ≡ 0) × ((header fresh).next ≡ 1) × ((header fresh).moment ≡ Moment.Running (task_id 0))
unfolding computes
fresh-head = (refl, refl, refl)

fresh_main : (is_live (task fresh 0).state ≡ true) × (is_ready (task fresh 0).state ≡ false) × (is_unstarted (task fresh 0).state ≡ false) × ((task fresh 0).awaiter ≡ Awaiter.Nobody)
unfolding computes
fresh_main = (refl, refl, refl, refl)

fresh-other : (t : ℕ) → (t ≡ 0 → ⊥) → is_live (task fresh t).state ≡ false
fresh-other t ne = ap (λ (r : Task). is_live r.state) by-main ∙ zero_row
  where
    by-main : task fresh t ≡ task empty t
    by-main = unfold fresh in (task_put-other (put_header empty _) 0 t _ ne ∙ head-same _)
      where
        head-same : (i : Header) → task (put_header empty i) t ≡ task empty t
        head-same i = unfold task put_header in refl

    zero_row : is_live (task empty t).state ≡ false
    zero_row = unfold task empty task_at in (ap (λ (l : List ℕ). is_live (to_task l).state) (row-zeros tasks_length (task_start t) 0 8))

fresh-waiting : Waiting [] fresh
unfolding goes_on
fresh-waiting =
    record {
      alive = λ on. record {
        stands = record { main = fresh_main.0; stands = λ t l r n. absurd (true≢false (sym r ∙ subst (λ (v : ℕ). is_ready (task fresh v).state ≡ false) (sym (only t l)) fresh_main.1)) };
        all_started = λ m t l. subst (λ (v : ℕ). is_unstarted (task fresh v).state ≡ false) (sym (only t l)) fresh_main.2;
        tasks = fresh-tasks;
        sourced = record {
          sources = λ g o v l e op. absurd (none_made g l);
          rising = λ v g x t l lv a q. not-slot g x (sym (subst (λ (v : ℕ). (task fresh v).awaiter ≡ Awaiter.Nobody) (sym (only v l)) fresh_main.3) ∙ a);
        };
        came = λ c r q. absurd_some (sym (nothing_yet c) ∙ q);
      };
      items = λ g v l e a b c. absurd (none_made g l);
      goes = λ c. refl;
    }
  where
    only : (t : ℕ) → t < (header fresh).next → t ≡ 0
    only t l = omega (arith, l, fresh-head.1)

    none_made : (g : ℕ) → g < (header fresh).made → ⊥
    none_made g l = not-suc-le-zero {n = 0} (omega (arith, subst (λ (n : ℕ). g < n) fresh-head.0 l))

    not-slot : {A : Type 0} (g x : ℕ) → Awaiter.Nobody ≡ Awaiter.GatherSlot (heap_id g) (heap_id x) → A
    not-slot g x e = let z : ◌≡◌ {A = ℕ} 0 1 = cc in absurd (omega arith)

    nothing_yet : (c : ℕ) → outcome_of [] c ≡ none
    nothing_yet c = unfold completed_value failed_error coroutine_outcome in refl

    none-spawned : (t : ℕ) → spawned_for [] t ≡ none
    none-spawned t = unfold spawned_for in refl

    none-exited : (t : ℕ) → exits [] t ≡ false
    none-exited t = unfold exits in refl

    fresh-tasks : Tasks (spawned_for []) Nothing Nothing (spawned_for []) (exits []) fresh
    fresh-tasks =
        record {
          sized = fresh_sound_store.memory.sized;
          main = omega (arith, fresh-head.1);
          first = fresh_main.2;
          behind = λ t l. fresh-other t (λ d. not-suc-le-zero {n = 0} (omega (arith, l, d, fresh-head.1)));
          rows = λ t l a. absurd (not-suc-le-zero {n = 0} (omega (arith, l, fresh-head.1)));
          born = λ t c q. absurd_some (sym (none-spawned t) ∙ q);
          before = λ t c q. q;
          alone = λ t v c q p. absurd_some (sym (none-spawned t) ∙ q);
          coroutines = λ t c q. absurd_some (sym (none-spawned t) ∙ q);
          used = λ t c q a. absurd_some (sym (none-spawned t) ∙ q);
          started = λ t l a b. absurd (not-suc-le-zero {n = 0} (omega (arith, l, fresh-head.1)));
          ended = λ t q. absurd (true≢false (sym q ∙ none-exited t));
          lost = λ t q. absurd q;
          left = λ t q. absurd q;
        }

-- Every session from its beginning.
pub session-waits : (es : List Sent) → AllSentInRange es → Waiting (session es).history (session es).store
unfolding session begun AllSentInRange send_all
session-waits es i = sessions_wait es begun i (session_follows [] tt) (session_agrees [] tt) fresh-waiting

-- An item that an open place of an awaited gather names has come to nothing, neither a value nor an error.
pub waiting-items : (es : List Sent) → AllSentInRange es → let x = session es in (g : ℕ) (v : AwaitedGather) → g < (header x.store).made → as_awaited (object x.store g) ≡ some v → (a : ℕ) → a < v.count
    → bit v.open_places a ≡ true → row_outcome (outcome_of x.history) (place x.store (v.first + a)).item.0 (object x.store (place x.store (v.first + a)).item.0) ≡ none
waiting-items es i = (session-waits es i).items

-- The same, in the words of the history: its outcome is none.
pub waiting_outcomes : (es : List Sent) → AllSentInRange es → let x = session es in (g : ℕ) (v : AwaitedGather) → g < (header x.store).made → as_awaited (object x.store g) ≡ some v → (a : ℕ) → a < v.count
    → bit v.open_places a ≡ true → outcome x.history (look x.store) (place x.store (v.first + a)).item.0 ≡ none
waiting_outcomes es i g v l e a b c =
    let w = (session_follows es i).whole in
    let k = session_agrees es i in
    outcome-row (session es).history (session es).store w k _ (item_low (session es).history (session es).store w k g v.first v.count _ l (awaited-object (object (session es).store g) v e) a b) ∙ waiting-items es i g v l e a b c

-- No item of an awaited gather has raised.
pub awaited_items_no_error : (es : List Sent) → AllSentInRange es → let x = session es in (g : ℕ) (v : AwaitedGather) → g < (header x.store).made → as_awaited (object x.store g) ≡ some v → (a : ℕ) → a < v.count
    → error_of (outcome x.history (look x.store) (place x.store (v.first + a)).item.0) ≡ none
awaited_items_no_error es i g v l e a b = items_no_error (session es).history (session es).store (session_follows es i).whole (session_agrees es i) g v l e (waiting-items es i g v l e) a b

-- Where no cancel was accepted, no wait is for no call, and no answer is stalled.
pub session-goes : (es : List Sent) → AllSentInRange es → cancelled (session es).history ≡ false → goes_on (session es).history ≡ true
session-goes es i = (session-waits es i).goes
