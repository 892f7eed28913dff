-- What a session has until it ends, through each event, cancel among them; and what its items have come to, at the end and behind it.
use Rattle.std.specs.Prelude.{◌≡◌, Bool, true, not, ◌||◌}
use Rattle.std.proofs.Math.Path.{refl, ap, subst}
use Rattle.std.proofs.Common.{sym, ◌∙◌, true≢false, not-suc-le-zero, arith}
use Rattle.std.proofs.Math.Bool.{false}
use mathlib.Core.List.{List, [], ◌∷◌}
use Rattle.std.proofs.Math.Option.{Option, none, some}
use Prim.Native.Nat.{ℕ, zero, suc, ◌+◌, ◌<◌}
use Rattle.asyncio.specs.declared.Value.{Value}
use Rattle.asyncio.specs.declared.Error.{Error}
use Rattle.asyncio.specs.declared.TaskState.{TaskState}
use Rattle.asyncio.specs.declared.Awaiter.{Awaiter}
use Rattle.asyncio.specs.declared.CoroutineState.{CoroutineState}
use Rattle.asyncio.specs.declared.ExternalFutureState.{ExternalFutureState}
use Rattle.asyncio.specs.declared.GatherState.{GatherState}
use Rattle.asyncio.specs.declared.Object.{Object}
use Rattle.asyncio.specs.declared.Place.{Place}
use Rattle.asyncio.specs.declared.Moment.{Moment}
use Rattle.asyncio.specs.declared.Header.{Header}
use Rattle.asyncio.specs.Numbers.{heap_id, task_id}
use Rattle.asyncio.specs.Ranges.{HeaderFits}
use Rattle.asyncio.specs.States.{pick, is_live, is_unstarted}
use Rattle.rows.specs.Tables.{object_at, header_at, place_at}
use Rattle.queue.specs.Queue.{empty_queue}
use Rattle.machine.specs.Store.{Store, LogEntry, view, task, object, place, header, put_task, put_header, put_queue, add_log, set_moment, absent, removed}
use Rattle.machine.specs.Scheduler.{as_awaited, cancel_task, remove_from, cleanup}
use Rattle.machine.specs.Machine.{Event, Answer, runner, refusals, refusal, accept}
use Rattle.machine.specs.Gather.{Outcome}
use Rattle.machine.specs.History.{Entry, Says, says, nothing_said, said, tells, running_coroutine, coroutine_of, spawned_by, spawned_for, exits_unstarted}
use Rattle.machine.specs.Sessions.{InRange, entry_of, happened_by}
use Rattle.machine_laws.specs.Views.{Sized}
use Rattle.machine_laws.specs.Facts.{Nothing}
use Rattle.machine_laws.specs.TestLaws.{holds}
use Rattle.machine_laws.specs.StoreLaws.{header-fits, header_put-header, object_put-header, sized-put_task, sized-put_queue, sized-add_log}
use Rattle.machine_laws.specs.DeliveryLaws.{absurd_some}
use Rattle.machine_laws.specs.SoundLaws.{refusal-rest}
use Rattle.machine_theorems.specs.Soundness.Stores.{SoundStore}
use Rattle.machine_theorems.specs.Soundness.Exits.{runner_low, runner-runs}
use Rattle.machine_sessions.specs.Waits.{said-accepted}
use Rattle.machine_sessions.specs.Queue.Following.{accept_accepts}
use Rattle.machine_sessions.specs.Places.Told.{unmade, frozen}
use Rattle.machine_sessions.specs.Places.Agrees.{Agrees}
use Rattle.machine_sessions.specs.Places.PlacesHold.{row_outcome}
use Rattle.machine_sessions.specs.Stall.StandingEvents.{MainEnds}
use Rattle.machine_sessions.specs.Stall.StandingAwait.{accept-right}
use Rattle.machine_sessions.specs.Stall.NoStall.{sourced_more}
use Rattle.machine_sessions.specs.Stall.SourcedKept.{accept_sourced}
use Rattle.machine_sessions.specs.Stall.TaskLog.{exits_by, exits, any_coroutine, Tasks, tasks-same}
use Rattle.machine_sessions.specs.Stall.TaskLogEvents.{Exits, accept-tasks}
use Rattle.machine_sessions.specs.Stall.Outcomes.{outcome_of, unstarted-exits, exits-on, Came, was, completed, failed, unstarted, came}
use Rattle.machine_sessions.specs.Stall.WaitingTasks.{accept-started}
use Rattle.machine_sessions.specs.Stall.Cancelled.{Removes, Cancellable, cancel_passes, cancel_removes, head-same, removed_stands, removed-started, removed-tasks, removed_sourced}
use Rattle.machine_sessions.specs.Stall.GoesOn.{cancelled-then}
use Rattle.machine_sessions.specs.Stall.Waiting.{Gone, Lost, Alive, ItemsWait}

-- ---- one entry later

-- an accepted event's log is what happened
spawned-then : (e : Event) (a : Answer) (u : Store) (h : List Entry) (t : ℕ) → (tells a).accepts ≡ true → spawned_for (entry_of e a u ∷ h) t ≡ spawned_by (spawned_for h t) u.log t
unfolding spawned_for entry_of happened_by
spawned-then e a u h t q = ap (λ (b : Bool). spawned_by (spawned_for h t) (happened_by b u.log) t) q

exits-then : (e : Event) (a : Answer) (u : Store) (h : List Entry) (t : ℕ) → (tells a).accepts ≡ true → exits (entry_of e a u ∷ h) t ≡ exits_by (exits h t) u.log t
unfolding exits entry_of happened_by
exits-then e a u h t q = ap (λ (b : Bool). exits_by (exits h t) (happened_by b u.log) t) q

-- where the entry ends no coroutine's task, a coroutine that has come to nothing has still
pub still_nothing : (x : Entry) (h : List Entry) (c : ℕ) → ((v : Value) → running_coroutine h ≡ some c → (said x).completes ≡ some v → ⊥) → ((n : ℕ) → running_coroutine h ≡ some c → (said x).fails ≡ some n → ⊥)
    → (exits_unstarted (spawned_for (x ∷ h)) (coroutine_of (x ∷ h)) x.happened c ≡ true → ⊥) → outcome_of h c ≡ none → outcome_of (x ∷ h) c ≡ none
still_nothing x h c nv nf nu e = by (outcome_of (x ∷ h) c) refl
  where
    on : Came x h c → ⊥
    on (was r q) = absurd_some (sym e ∙ q)
    on (completed v a q) = nv v a q
    on (failed n a q) = nf n a q
    on (unstarted q) = nu q

    by : (r : Option (Outcome Value Error)) → outcome_of (x ∷ h) c ≡ r → r ≡ none
    by none q = refl
    by (some r) q = absurd (on (came x h c r q))

row-nothing : (C D : ℕ → Option (Outcome Value Error)) (o : ℕ) (x : Object) → (C o ≡ none → D o ≡ none) → row_outcome C o x ≡ none → row_outcome D o x ≡ none
unfolding row_outcome
row-nothing C D o Object.Unmade f e = refl
row-nothing C D o (Object.Coroutine g x) f e = f e
row-nothing C D o (Object.ExternalFuture c (ExternalFutureState.Pending a r)) f e = refl
row-nothing C D o (Object.ExternalFuture c (ExternalFutureState.Resolved v)) f e = absurd_some (sym e)
row-nothing C D o (Object.ExternalFuture c (ExternalFutureState.Failed v)) f e = absurd_some (sym e)
row-nothing C D o (Object.GatherFuture g n GatherState.Pending) f e = refl
row-nothing C D o (Object.GatherFuture g n (GatherState.Awaited a m)) f e = refl
row-nothing C D o (Object.GatherFuture g n GatherState.Completed) f e = absurd_some (sym e)
row-nothing C D o (Object.GatherFuture g n (GatherState.Failed v)) f e = absurd_some (sym e)

-- objects and places as they were
pub items-later : (x : Entry) (h : List Entry) (s u : Store) → ((o : ℕ) → object u o ≡ object s o) → ((p : ℕ) → place u p ≡ place s p) → (header u).made ≡ (header s).made
    → ((c : ℕ) → outcome_of h c ≡ none → outcome_of (x ∷ h) c ≡ none) → ItemsWait h s → ItemsWait (x ∷ h) u
items-later x h s u os ps m f k g v l e a b c =
    let o : ℕ = (place s (v.first + a)).item.0 in
    subst (λ (j : ℕ). row_outcome (outcome_of (x ∷ h)) j (object u j) ≡ none) (sym (ap (λ (p : Place). p.item.0) (ps (v.first + a))))
    (subst (λ (y : Object). row_outcome (outcome_of (x ∷ h)) o y ≡ none) (sym (os o))
    (row-nothing (outcome_of h) (outcome_of (x ∷ h)) o (object s o) (f o) (k g v (subst (λ (n : ℕ). g < n) m l) (sym (ap as_awaited (os g)) ∙ e) a b c)))

-- an entry that says nothing of ends, in which nothing has happened
pub quiet_items : (x : Entry) (h : List Entry) (s u : Store) → ((o : ℕ) → object u o ≡ object s o) → ((p : ℕ) → place u p ≡ place s p) → (header u).made ≡ (header s).made
    → (said x).completes ≡ none → (said x).fails ≡ none → x.happened ≡ [] → ItemsWait h s → ItemsWait (x ∷ h) u
quiet_items x h s u os ps m nc nf nh k =
    items-later x h s u os ps m
    (λ c. still_nothing x h c (λ v a q. absurd_some (sym nc ∙ q)) (λ n a q. absurd_some (sym nf ∙ q)) (λ q. true≢false (sym q ∙ (ap (λ (l : List LogEntry). exits_unstarted (spawned_for (x ∷ h)) (coroutine_of (x ∷ h)) l c) nh ∙ (unfold exits_unstarted in refl))))) k

-- ---- the end: tasks have gone, and nobody has exited

record Cleans (s u : Store) : Type 0 where
  sized : Sized u
  objects : u.objects ≡ s.objects
  places : u.places ≡ s.places
  exited_none : (b : Bool) (t : ℕ) → exits_by b u.log t ≡ exits_by b s.log t

cleans_from : (n : ℕ) (s u : Store) (t : ℕ) → Cleans s u → Cleans s (remove_from u t n)
unfolding remove_from
cleans_from zero s u t k = k
cleans_from (suc n) s u t k = cleans_from n s _ (t + 1) (by (is_live (task u t).state))
  where
    by : (b : Bool) → Cleans s (pick b (add_log (put_task u t absent) (removed t)) u)
    by true =
        record {
          sized = sized-add_log _ (removed t) (sized-put_task u t absent k.sized);
          objects = unfold add_log put_task in k.objects;
          places = unfold add_log put_task in k.places;
          exited_none = λ b v. tells-it b v ∙ k.exited_none b v;
        }
      where
        tells-it : (b : Bool) (v : ℕ) → exits_by b (add_log (put_task u t absent) (removed t)).log v ≡ exits_by b u.log v
        tells-it b v = unfold add_log put_task exits_by in refl
    by false = k

pub record Cleaned (s u : Store) : Type 0 where
  pub rows : (o : ℕ) → object u o ≡ object s o
  pub places : (p : ℕ) → place u p ≡ place s p
  pub made : (header u).made ≡ (header s).made
  pub exited_none : (b : Bool) (t : ℕ) → exits_by b u.log t ≡ exits_by b s.log t

pub cleanup_cleans : (s : Store) → Sized s → Cleaned s (cleanup s)
unfolding cleanup
cleanup_cleans s z =
    record {
      rows = λ o. (moved_row w o ∙ queue-row o) ∙ at_row o;
      places = λ p. moved-place p ∙ at_place p;
      made = moved_made ∙ at-made;
      exited_none = λ b t. moved-log b t ∙ k.exited_none b t;
    }
  where
    v : Store
    v = remove_from s 0 (header s).next

    w : Store
    w = put_queue v empty_queue

    k : Cleans s v
    k = cleans_from (header s).next s s 0 (record { sized = z; objects = refl; places = refl; exited_none = λ b t. refl })

    moved_row : (u : Store) (o : ℕ) → object (set_moment u Moment.Ended) o ≡ object u o
    moved_row u o = unfold set_moment in (object_put-header u _ o)

    queue-row : (o : ℕ) → object w o ≡ object v o
    queue-row o = unfold object put_queue in refl

    at_row : (o : ℕ) → object v o ≡ object s o
    at_row o = unfold object in (ap (λ (l : List ℕ). object_at l o) k.objects)

    moved-place : (p : ℕ) → place (set_moment w Moment.Ended) p ≡ place v p
    moved-place p = unfold place set_moment put_header put_queue in refl

    at_place : (p : ℕ) → place v p ≡ place s p
    at_place p = unfold place in (ap (λ (l : List ℕ). place_at l p) k.places)

    moved_made : (header (set_moment w Moment.Ended)).made ≡ (header v).made
    moved_made =
        let f : HeaderFits (header w) = header-fits w in
        unfold set_moment in (ap (λ (i : Header). i.made) (header_put-header w _ (sized-put_queue v empty_queue k.sized) (record { made_fits = f.made_fits; used_fits = f.used_fits; calls_fit = f.calls_fit; next_fits = f.next_fits; moment_fits = tt }))) ∙ queue-made
      where
        queue-made : (header w).made ≡ (header v).made
        queue-made = unfold header put_queue in refl

    at-made : (header v).made ≡ (header s).made
    at-made = unfold header in (ap (λ (l : List ℕ). (header_at l).made) k.objects)

    moved-log : (b : Bool) (t : ℕ) → exits_by b (set_moment w Moment.Ended).log t ≡ exits_by b v.log t
    moved-log b t = unfold set_moment put_header put_queue in refl

-- ---- which event ends a task

pub record Ending (s : Store) (e : Event) : Type 0 where
  pub runs : (header s).moment ≡ Moment.Running (task_id (runner (header s).moment))
  pub exits_it : Exits s e (runner (header s).moment)

pub completing : (s : Store) (e : Event) (v : Value) → SoundStore s → refusal s e ≡ 0 → (says e).completes ≡ some v → Ending s e
unfolding says nothing_said
completing s (Event.coroutine f) v w r q = absurd_some q
completing s Event.call v w r q = absurd_some q
completing s (Event.pending c x) v w r q = absurd_some q
completing s (Event.settled x) v w r q = absurd_some q
completing s (Event.gather os) v w r q = absurd_some q
completing s (Event.await o) v w r q = absurd_some q
completing s (Event.complete x) v w r q = record { runs = unfold refusals in (Rattle.machine_theorems.specs.Soundness.Preserved.running s w _ (refusal-rest s (Event.complete x) r)); exits_it = unfold Exits in refl }
completing s (Event.fail n) v w r q = absurd_some q
completing s (Event.results rs) v w r q = absurd_some q
completing s Event.resume v w r q = absurd_some q
completing s (Event.cancel t) v w r q = absurd_some q
completing s (Event.show o) v w r q = absurd_some q
completing s Event.eager v w r q = absurd_some q

pub failing : (s : Store) (e : Event) (n : ℕ) → SoundStore s → refusal s e ≡ 0 → (says e).fails ≡ some n → Ending s e
unfolding says nothing_said
failing s (Event.coroutine f) n w r q = absurd_some q
failing s Event.call n w r q = absurd_some q
failing s (Event.pending c x) n w r q = absurd_some q
failing s (Event.settled x) n w r q = absurd_some q
failing s (Event.gather os) n w r q = absurd_some q
failing s (Event.await o) n w r q = absurd_some q
failing s (Event.complete x) n w r q = absurd_some q
failing s (Event.fail m) n w r q = record { runs = unfold refusals in (Rattle.machine_theorems.specs.Soundness.Preserved.running s w _ (refusal-rest s (Event.fail m) r)); exits_it = unfold Exits in refl }
failing s (Event.results rs) n w r q = absurd_some q
failing s Event.resume n w r q = absurd_some q
failing s (Event.cancel t) n w r q = absurd_some q
failing s (Event.show o) n w r q = absurd_some q
failing s Event.eager n w r q = absurd_some q

-- ---- an event of a session that has not ended

frozen_any : (x : Object) → frozen x ≡ unmade → any_coroutine x ≡ false
unfolding frozen any_coroutine
frozen_any Object.Unmade e = refl
frozen_any (Object.Coroutine f CoroutineState.New) e = let z : ◌≡◌ {A = ℕ} 0 1 = cc in absurd (not-suc-le-zero {n = 0} (omega (arith, z)))
frozen_any (Object.Coroutine f CoroutineState.Running) e = let z : ◌≡◌ {A = ℕ} 0 1 = cc in absurd (not-suc-le-zero {n = 0} (omega (arith, z)))
frozen_any (Object.Coroutine f CoroutineState.Completed) e = let z : ◌≡◌ {A = ℕ} 0 1 = cc in absurd (not-suc-le-zero {n = 0} (omega (arith, z)))
frozen_any (Object.ExternalFuture c x) e = refl
frozen_any (Object.GatherFuture f n x) e = refl

module _ (h : List Entry) (s : Store) (w : SoundStore s) (ag : Agrees h s) (clean : s.log ≡ []) (k : Alive h s) where
  spawned-now : (t : ℕ) → spawned_by (spawned_for h t) s.log t ≡ spawned_for h t
  spawned-now t = ap (λ (l : List LogEntry). spawned_by (spawned_for h t) l t) clean ∙ (unfold spawned_by in refl)

  exits_now : (t : ℕ) → exits_by (exits h t) s.log t ≡ exits h t
  exits_now t = ap (λ (l : List LogEntry). exits_by (exits h t) l t) clean ∙ (unfold exits_by in refl)

  -- those that have gone without an exit are known from the start
  from-gone : Tasks (spawned_for h) (Gone h s) Nothing (spawned_for h) (exits h) s
  from-gone =
      let j = k.tasks in
      record {
        sized = j.sized;
        main = j.main;
        first = j.first;
        behind = j.behind;
        rows = j.rows;
        born = j.born;
        before = j.before;
        alone = j.alone;
        coroutines = j.coroutines;
        used = j.used;
        started = j.started;
        ended = j.ended;
        lost = λ t e. (e.low, e.dead, e.unexited);
        left = j.left;
      }

  -- the coroutine of the running task is the one that it was spawned for
  pub ran : (t c : ℕ) → (header s).moment ≡ Moment.Running (task_id t) → running_coroutine h ≡ some c → spawned_for h t ≡ some c
  ran zero c m e = absurd_some (sym (is_running zero m ∙ ag.main) ∙ e)
    where
      is_running : (t : ℕ) → (header s).moment ≡ Moment.Running (task_id t) → running_coroutine h ≡ coroutine_of h t
      is_running t m = unfold running_coroutine in (ap (λ (y : Option ℕ). elim y [ none ↦ none | some u ↦ coroutine_of h u ]) (ag.runner (task_id t) m))
  ran (suc t) c m e =
      let l : suc t < (header s).next = runner_low s (suc t) w m in
      let r : (task s (suc t)).state ≡ TaskState.Running = runner-runs s (suc t) w m in
      k.tasks.rows t l (ap is_live r) ∙ (sym ((ag.told.tasks t l (ap is_live r)).started (ap is_unstarted r)) ∙ (sym (is_running (suc t) m) ∙ e))
    where
      is_running : (t : ℕ) → (header s).moment ≡ Moment.Running (task_id t) → running_coroutine h ≡ coroutine_of h t
      is_running t m = unfold running_coroutine in (ap (λ (y : Option ℕ). elim y [ none ↦ none | some u ↦ coroutine_of h u ]) (ag.runner (task_id t) m))

  module _ (e : Event) (r : refusal s e ≡ 0) where
    abbrev u : Store
    u = (accept s e).store

    abbrev x : Entry
    x = entry_of e (accept s e).answer u

    said-it : said x ≡ says e
    said-it = said-accepted e (accept s e).answer u (accept_accepts s e)

    says-for : (t : ℕ) → spawned_for (x ∷ h) t ≡ spawned_by (spawned_for h t) u.log t
    says-for t = spawned-then e (accept s e).answer u h t (accept_accepts s e)

    says-exits : (t : ℕ) → exits (x ∷ h) t ≡ exits_by (exits h t) u.log t
    says-exits t = exits-then e (accept s e).answer u h t (accept_accepts s e)

    -- the same, said of the history
    later-tasks : (L E : ℕ → Type 0) → Tasks (spawned_for h) L E (λ t. spawned_by (spawned_for h t) u.log t) (λ t. exits_by (exits h t) u.log t) u
        → Tasks (spawned_for (x ∷ h)) Nothing Nothing (spawned_for (x ∷ h)) (exits (x ∷ h)) u
    later-tasks L E j =
        record {
          sized = j.sized;
          main = j.main;
          first = j.first;
          behind = j.behind;
          rows = λ t l a. says-for (suc t) ∙ j.rows t l a;
          born = λ t c q. j.born t c (sym (says-for t) ∙ q);
          before = λ t c q. q;
          alone = λ t v c q p. j.alone t v c (sym (says-for t) ∙ q) (sym (says-for v) ∙ p);
          coroutines = λ t c q. j.coroutines t c (sym (says-for t) ∙ q);
          used = λ t c q. j.used t c (sym (says-for t) ∙ q);
          started = j.started;
          ended = λ t q. j.ended t (sym (says-exits t) ∙ q);
          lost = λ t q. absurd q;
          left = λ t q. absurd q;
        }

    later-lost : (E : ℕ → Type 0) → Tasks (spawned_for h) (Gone h s) E (λ t. spawned_by (spawned_for h t) u.log t) (λ t. exits_by (exits h t) u.log t) u → (o : ℕ) → Lost h s o → Lost (x ∷ h) u o
    later-lost E j o y =
        let b = j.lost y.its_task y.gone in
        record {
          after_cancel = cancelled-then x h (says e) said-it ∙ (ap (λ (a : Bool). (says e).cancels || a) y.after_cancel ∙ or_true (says e).cancels);
          its_task = y.its_task;
          spawned = says-for y.its_task ∙ j.before y.its_task o y.spawned;
          gone = record { low = b.0; dead = b.1; unexited = says-exits y.its_task ∙ b.2 };
        }
      where
        or_true : (a : Bool) → (a || true) ≡ true
        or_true true = refl
        or_true false = refl

    -- what a coroutine has come to
    later-came : (L E : ℕ → Type 0) → Tasks (spawned_for h) L E (λ t. spawned_by (spawned_for h t) u.log t) (λ t. exits_by (exits h t) u.log t) u
        → ((t : ℕ) → Exits s e t → E t) → (c : ℕ) (y : Outcome Value Error) → outcome_of (x ∷ h) c ≡ some y → (v : ℕ) × (spawned_for (x ∷ h) v ≡ some c) × (exits (x ∷ h) v ≡ true)
    later-came L E j own c y q = on (came x h c y q)
      where
        ended : (c : ℕ) → running_coroutine h ≡ some c → Ending s e → (v : ℕ) × (spawned_for (x ∷ h) v ≡ some c) × (exits (x ∷ h) v ≡ true)
        ended c a n =
            let t : ℕ = runner (header s).moment in
            (t, says-for t ∙ j.before t c (ran t c n.runs a), says-exits t ∙ j.left t (own t n.exits_it))

        on : Came x h c → (v : ℕ) × (spawned_for (x ∷ h) v ≡ some c) × (exits (x ∷ h) v ≡ true)
        on (was z a) =
            let b = k.came c z a in
            (b.0, says-for b.0 ∙ j.before b.0 c b.1, says-exits b.0 ∙ (ap (λ (d : Bool). exits_by d u.log b.0) b.2 ∙ exits-on u.log b.0))
        on (completed v a d) = ended c a (completing s e v w r (ap (λ (z : Says). z.completes) (sym said-it) ∙ d))
        on (failed n a d) = ended c a (failing s e n w r (ap (λ (z : Says). z.fails) (sym said-it) ∙ d))
        on (unstarted a) =
            let b = unstarted-exits (spawned_for (x ∷ h)) (coroutine_of (x ∷ h)) (exits h) x.happened c a in
            (b.0, b.1, unfold exits in b.2)

    -- Each event but cancel, where main does not end the session.
    pub accept-alive : InRange e → (says e).cancels ≡ false → (MainEnds s e → ⊥) → Alive (x ∷ h) u
    accept-alive i n on =
        let j = accept-tasks (spawned_for h) (exits h) (Gone h s) s w (frozen_any (object s (header s).made) (ag.behind (header s).made (omega arith)))
        (tasks-same (spawned_for h) (Gone h s) Nothing s s (spawned_for h) (λ t. spawned_by (spawned_for h t) s.log t) (exits h) (λ t. exits_by (exits h t) s.log t) k.tasks.sized refl spawned-now exits_now (λ c q. q) (λ c q. q) (λ t. refl) from-gone) e n r on in
        record {
          stands = (accept-right s w k.stands e i n r).stood on;
          all_started = accept-started s w k.stands k.all_started e i n r;
          tasks = later-tasks (Gone h s) (Exits s e) j;
          sourced = sourced_more u (later-lost (Exits s e) j) (accept_sourced (Lost h s) s w k.sourced e i n r on);
          came = later-came (Gone h s) (Exits s e) j (λ t q. q);
        }

    exits-logged : (v : ℕ) → exits_by false x.happened v ≡ exits_by false u.log v
    unfolding entry_of happened_by
    exits-logged v = ap (λ (b : Bool). exits_by false (happened_by b u.log) v) (accept_accepts s e)

    -- Main ends the session: no coroutine of a task is at its end there.
    pub end-items : MainEnds s e → (accept s e).store ≡ cleanup s → ItemsWait h s → ItemsWait (x ∷ h) u
    end-items m same j =
        let y : Cleaned s u = subst (Cleaned s) (sym same) (cleanup_cleans s w.memory.sized) in
        items-later x h s u y.rows y.places y.made
        (λ c. still_nothing x h c (λ v a q. no-coroutine c (completing s e v w r (ap (λ (z : Says). z.completes) (sym said-it) ∙ q)) a) (λ n a q. no-coroutine c (failing s e n w r (ap (λ (z : Says). z.fails) (sym said-it) ∙ q)) a)
        (λ q. let b = unstarted-exits (spawned_for (x ∷ h)) (coroutine_of (x ∷ h)) (λ t. false) x.happened c q in none-exits b.0 b.2 y)) j
      where
        -- main has none
        no-coroutine : (c : ℕ) → Ending s e → running_coroutine h ≡ some c → ⊥
        no-coroutine c n a = no_main c (subst (λ (t : ℕ). (header s).moment ≡ Moment.Running (task_id t)) (is_main e m) n.runs) a
          where
            is_main : (e : Event) → MainEnds s e → runner (header s).moment ≡ 0
            is_main (Event.coroutine f) z = absurd (unfold MainEnds in z)
            is_main Event.call z = absurd (unfold MainEnds in z)
            is_main (Event.pending d v) z = absurd (unfold MainEnds in z)
            is_main (Event.settled v) z = absurd (unfold MainEnds in z)
            is_main (Event.gather os) z = absurd (unfold MainEnds in z)
            is_main (Event.await o) z = absurd (unfold MainEnds in z)
            is_main (Event.complete v) z = unfold MainEnds in z
            is_main (Event.fail v) z = unfold MainEnds in z
            is_main (Event.results rs) z = absurd (unfold MainEnds in z)
            is_main Event.resume z = absurd (unfold MainEnds in z)
            is_main (Event.cancel t) z = absurd (unfold MainEnds in z)
            is_main (Event.show o) z = absurd (unfold MainEnds in z)
            is_main Event.eager z = absurd (unfold MainEnds in z)

            no_main : (c : ℕ) → (header s).moment ≡ Moment.Running (task_id 0) → running_coroutine h ≡ some c → ⊥
            no_main c m a = not-suc-le-zero {n = 0} (k.tasks.born 0 c (ran 0 c m a)).0

        none-exits : (v : ℕ) → exits_by false x.happened v ≡ true → Cleaned s u → ⊥
        none-exits v q y = true≢false (sym q ∙ (exits-logged v ∙ (y.exited_none false v ∙ (ap (λ (l : List LogEntry). exits_by false l v) clean ∙ (unfold exits_by in refl)))))

  -- A cancel.
  pub cancel-alive : (t : ℕ) (r : refusal s (Event.cancel t) ≡ 0) → Alive (x (Event.cancel t) r ∷ h) (u (Event.cancel t) r)
  unfolding accept refusals
  cancel-alive t r =
      record {
        stands = removed_stands s v rm k.stands;
        all_started = removed-started s v rm k.all_started;
        tasks = later-tasks (Event.cancel t) r (Gone h s) Nothing j;
        sourced = removed_sourced s v rm (Lost h s) (Lost (x (Event.cancel t) r ∷ h) v) (later-lost (Event.cancel t) r Nothing j) lost-now k.sourced;
        came = later-came (Event.cancel t) r (Gone h s) Nothing j (λ a q. absurd (unfold Exits in q));
      }
    where
      v : Store
      v = cancel_task s t

      c : Cancellable s t
      c = cancel_passes s t w r

      rm : Removes s v
      rm = cancel_removes s t w c

      j : Tasks (spawned_for h) (Gone h s) Nothing (λ a. spawned_by (spawned_for h a) v.log a) (λ a. exits_by (exits h a) v.log a) v
      j =
          let y = removed-tasks s v rm (spawned_for h) (Gone h s) Nothing (spawned_for h) (exits h) (k.all_started c.waits) from-gone in
          tasks-same (spawned_for h) (Gone h s) Nothing v v (spawned_for h) _ (exits h) _ y.sized refl (λ a. rm.spawned (spawned_for h a) a ∙ spawned-now a) (λ a. rm.exits (exits h a) a ∙ exits_now a) (λ c e. e) (λ c e. e) (λ a. refl) y

      lost-now : (a g o : ℕ) → a < (header s).next → is_live (task s a).state ≡ true → is_live (task v a).state ≡ false → (task s a).awaiter ≡ Awaiter.GatherSlot (heap_id g) (heap_id o) → Lost (x (Event.cancel t) r ∷ h) v o
      lost-now a g o l lv dead aw = by a l lv dead aw
        where
          own : (a : ℕ) → a < (header s).next → is_live (task s a).state ≡ true → (task s a).awaiter ≡ Awaiter.GatherSlot (heap_id g) (heap_id o) → o ≡ (task s a).coroutine.0
          own a l lv aw = unfold view in (w.facts.but.task_slots a l (holds _ lv) g o aw).own

          unexited : (a : ℕ) → is_live (task s a).state ≡ true → (b : Bool) → exits h a ≡ b → b ≡ false
          unexited a lv true e = absurd (true≢false (sym lv ∙ (k.tasks.ended a e).1))
          unexited a lv false e = refl

          by : (a : ℕ) → a < (header s).next → is_live (task s a).state ≡ true → is_live (task v a).state ≡ false → (task s a).awaiter ≡ Awaiter.GatherSlot (heap_id g) (heap_id o) → Lost (x (Event.cancel t) r ∷ h) v o
          by zero l lv dead aw = absurd (true≢false (sym (removed_stands s v rm k.stands).main ∙ dead))
          by (suc a) l lv dead aw =
              record {
                after_cancel = cancelled-then (x (Event.cancel t) r) h (says (Event.cancel t)) (said-it (Event.cancel t) r) ∙ (unfold says in refl);
                its_task = suc a;
                spawned = says-for (Event.cancel t) r (suc a) ∙ (rm.spawned (spawned_for h (suc a)) (suc a) ∙ (spawned-now (suc a) ∙ (k.tasks.rows a l lv ∙ ap (λ (n : ℕ). some n) (sym (own (suc a) l lv aw)))));
                gone = record {
                  low = subst (λ (y : Header). suc a < y.next) (sym (head-same s v rm)) l;
                  dead = dead;
                  unexited = says-exits (Event.cancel t) r (suc a) ∙ (rm.exits (exits h (suc a)) (suc a) ∙ (exits_now (suc a) ∙ unexited (suc a) lv (exits h (suc a)) refl));
                };
              }
