-- `LogRight`, the log in the midst of an event (`LogHonest` but for the answer to an await that blocks), kept by deliveries, switches, results and cancels.
use Rattle.std.specs.Prelude.{◌≡◌, Bool, false, ◌||◌, List, [], ◌∷◌, ℕ, zero, suc, ◌<◌, eqb, length}
use Rattle.std.proofs.Math.Path.{refl, ap}
use Rattle.std.proofs.Common.{sym, subst, ◌∙◌, true≢false, not-suc-le-zero, arith, eq-eqb, ne_eqb}
use Rattle.std.proofs.Math.Bool.{true}
use Rattle.std.proofs.Math.Option.{Option, none, some}
use Rattle.asyncio.specs.declared.TaskState.{TaskState}
use Rattle.asyncio.specs.declared.GatherState.{GatherState}
use Rattle.asyncio.specs.declared.Object.{Object}
use Rattle.asyncio.specs.Limits.{object_limit, task_limit, places_length}
use Rattle.asyncio.specs.Layout.{object_words, to_object}
use Rattle.asyncio.specs.States.{is_live, is_ready, is_blocked, is_unstarted}
use Rattle.queue.specs.declared.ReadyQueue.{ReadyQueue}
use Rattle.machine.specs.Store.{Store, LogEntry, spawned, blocked, reached, exited, removed, task, object, header, put_task, put_object, put_places, put_queue, add_log, set_state, absent}
use Rattle.machine.specs.Scheduler.{AwaitedGather, PendingExternal, as_awaited, as_pending, live, make_ready, push_ready, remove_from_ready_queue, remove_task}
use Rattle.machine.specs.Events.{new_function}
use Rattle.machine.specs.History.{Entry, said, is_none, making, lives_by, lives, blocked_by, stays_blocked, spawned_by, spawned_for, running, coroutine_of, tells}
use Rattle.machine.specs.Honest.{named, MakesCoroutine, spawns, spawns_in, blocks_in, runs_task, SpawnHonest, ReachHonest, ExitReason, reused, ExitHonest, RemoveHonest, LogHonest}
use Rattle.machine_laws.specs.Views.{Sized}
use Rattle.machine_laws.specs.StoreLaws.{sized-put_places, sized-put_queue}
use Rattle.machine_laws.specs.DeliveryLaws.{awaited-object, awaited-fits, pending-object}
use Rattle.machine_theorems.specs.Soundness.RowFacts.{ready-live}
use Rattle.machine_sessions.specs.Queue.Tracked.{Tracked, live-is, row_tracked, exits_tracked, tracked_closed}
use Rattle.machine_sessions.specs.Honest.Spawned.{Shape, other, new, shape, is_used, is_co, gather-shape, external_shape, old_shape, TaskFrom, Spawned, SameSpawns, same-spawns, live_below, spawned_like, row-spawned, state_spawned, gone-spawned}
use Rattle.machine_sessions.specs.Honest.HonestWalk.{Delivers, Switching, places-task, places-object, wakes-object, wakes-task}

-- the running task blocks at an await
abbrev pub BlockRight : List Entry → Entry → ℕ → Type 0
BlockRight h x t = (is_none (said x).awaits ≡ false) × (running h ≡ some t)

-- each log entry
unfoldable pub LogRight : List Entry → Entry → List LogEntry → Type 0
LogRight h x [] = Unit {0}
LogRight h x (spawned t c ∷ hs) = SpawnHonest h x hs t c × LogRight h x hs
LogRight h x (blocked t ∷ hs) = BlockRight h x t × LogRight h x hs
LogRight h x (reached t ∷ hs) = ReachHonest h hs t × LogRight h x hs
LogRight h x (exited t ∷ hs) = ExitHonest h x hs t × LogRight h x hs
LogRight h x (removed t ∷ hs) = RemoveHonest h x × LogRight h x hs

-- with the answer to an await that blocks
pub log_honest : (h : List Entry) (x : Entry) (hs : List LogEntry) → ((t : ℕ) → BlockRight h x t → blocks_in hs t ≡ true → runs_task (tells x.answer).control t ≡ false) → LogRight h x hs → LogHonest h x hs
unfolding LogRight LogHonest blocks_in
log_honest h x [] b k = tt
log_honest h x (spawned t c ∷ hs) b k = (k.0, log_honest h x hs b k.1)
log_honest h x (blocked t ∷ hs) b k =
    (record { awaits = k.0.0; runner = k.0.1; leaves = b t k.0 (ap (λ (y : Bool). y || blocks_in hs t) (eq-eqb t t refl)) }, log_honest h x hs (λ u y q. b u y (more u q)) k.1)
  where
    or_true : (y : Bool) → (y || true) ≡ true
    or_true true = refl
    or_true false = refl

    more : (u : ℕ) → blocks_in hs u ≡ true → (eqb t u || blocks_in hs u) ≡ true
    more u q = ap (λ (y : Bool). eqb t u || y) q ∙ or_true (eqb t u)
log_honest h x (reached t ∷ hs) b k = (k.0, log_honest h x hs b k.1)
log_honest h x (exited t ∷ hs) b k = (k.0, log_honest h x hs b k.1)
log_honest h x (removed t ∷ hs) b k = (k.0, log_honest h x hs b k.1)

-- which coroutines are new, and how they were made
pub record Origins (h : List Entry) (N : ℕ → Shape) : Type 0 where
  pub named_is : (c : ℕ) → named h c ≡ is_used (N c)
  pub made_by : (c f : ℕ) → N c ≡ new f → MakesCoroutine (making h c) f

-- what a store has in the midst of the event of entry x, after the history h
pub record Logged (h : List Entry) (x : Entry) (N : ℕ → Shape) (u : Store) : Type 0 where
  pub tracked : Tracked (lives h) (stays_blocked h) u
  pub spawns_are : Spawned (spawned_for h) (coroutine_of h) (spawns h) N u
  pub log_right : LogRight h x u.log

-- ---- no task spawned

reached-spawns : (S : ℕ → Option ℕ) (s u : Store) (t : ℕ) → u.log ≡ reached t ∷ s.log → SameSpawns S s u
unfolding spawned_by spawns_in
reached-spawns S s u t e = record { for_it = λ v. ap (λ (l : List LogEntry). spawned_by (S v) l v) e; counted = ap spawns_in e }

exited-spawns : (S : ℕ → Option ℕ) (s u : Store) (t : ℕ) → u.log ≡ exited t ∷ s.log → SameSpawns S s u
unfolding spawned_by spawns_in
exited-spawns S s u t e = record { for_it = λ v. ap (λ (l : List LogEntry). spawned_by (S v) l v) e; counted = ap spawns_in e }

removed-spawns : (S : ℕ → Option ℕ) (s u : Store) (t : ℕ) → u.log ≡ removed t ∷ s.log → SameSpawns S s u
unfolding spawned_by spawns_in
removed-spawns S s u t e = record { for_it = λ v. ap (λ (l : List LogEntry). spawned_by (S v) l v) e; counted = ap spawns_in e }

pub blocked-spawns : (S : ℕ → Option ℕ) (s u : Store) (t : ℕ) → u.log ≡ blocked t ∷ s.log → SameSpawns S s u
unfolding spawned_by spawns_in
blocked-spawns S s u t e = record { for_it = λ v. ap (λ (l : List LogEntry). spawned_by (S v) l v) e; counted = ap spawns_in e }

-- ---- the logs of writes

pub row-log : (s : Store) (o : ℕ) (x : Object) → (put_object s o x).log ≡ s.log
unfolding put_object
row-log s o x = refl

pub wakes-log : (s : Store) (t : ℕ) (x : TaskState) → (add_log (make_ready s t x) (reached t)).log ≡ reached t ∷ s.log
unfolding add_log make_ready push_ready put_queue set_state put_task
wakes-log s t x = refl

pub gone_log : (s : Store) (t : ℕ) (x : LogEntry) → (add_log (remove_task s t) x).log ≡ x ∷ s.log
unfolding add_log remove_task remove_from_ready_queue put_queue put_task
gone_log s t x = refl

pub gone_task : (s : Store) (t : ℕ) (x : LogEntry) (v : ℕ) → task (add_log (remove_task s t) x) v ≡ task (put_task s t absent) v
unfolding add_log remove_task remove_from_ready_queue put_queue task
gone_task s t x v = refl

pub gone_object : (s : Store) (t : ℕ) (x : LogEntry) (o : ℕ) → object (add_log (remove_task s t) x) o ≡ object s o
unfolding add_log remove_task remove_from_ready_queue put_queue put_task object
gone_object s t x o = refl

pub gone_header : (s : Store) (t : ℕ) (x : LogEntry) → header (add_log (remove_task s t) x) ≡ header s
unfolding add_log remove_task remove_from_ready_queue put_queue put_task header
gone_header s t x = refl

pub wakes-header : (s : Store) (t : ℕ) (x : TaskState) → header (add_log (make_ready s t x) (reached t)) ≡ header s
unfolding add_log make_ready push_ready put_queue set_state put_task header
wakes-header s t x = refl

blocked-live : (y : TaskState) → is_blocked y ≡ true → (is_live y ≡ true) × (is_unstarted y ≡ false)
blocked-live TaskState.Absent e = absurd (true≢false (sym e))
blocked-live TaskState.Unstarted e = absurd (true≢false (sym e))
blocked-live TaskState.Running e = absurd (true≢false (sym e))
blocked-live (TaskState.Woken v) e = absurd (true≢false (sym e))
blocked-live (TaskState.Raised x) e = absurd (true≢false (sym e))
blocked-live (TaskState.Blocked o) e = (refl, refl)

module _ (h : List Entry) (x : Entry) (N : ℕ → Shape) where
  abbrev L : Store → Type 0
  L u = Logged h x N u

  abbrev S : ℕ → Option ℕ
  S = spawned_for h

  abbrev C : ℕ → Option ℕ
  C = coroutine_of h

  pub sized_logged : (s : Store) → L s → Sized s
  sized_logged s k = k.tracked.sized

  -- an object's row, in its shape
  pub row_logged : (s : Store) (o : ℕ) (y : Object) → o < object_limit → shape (to_object (object_words y)) ≡ N o → L s → L (put_object s o y)
  row_logged s o y l e k =
      record {
        tracked = row_tracked (lives h) (stays_blocked h) s o y k.tracked;
        spawns_are = row-spawned S C (spawns h) N s o y l e k.spawns_are;
        log_right = subst (LogRight h x) (sym (row-log s o y)) k.log_right;
      }

  -- a gather's
  pub gather_logged : (s : Store) (g : ℕ) (w : AwaitedGather) (y : GatherState) → g < object_limit → as_awaited (object s g) ≡ some w → L s → L (put_object s g (Object.GatherFuture w.first w.count y))
  unfolding shape
  gather_logged s g w y l e k =
      row_logged s g _ l (gather-shape w.first w.count y (awaited-fits s g w e).0 ∙ (sym (ap shape (awaited-object (object s g) w e)) ∙ k.spawns_are.rows g)) k

  pub places_logged : (s : Store) (ps : List ℕ) → length ps ≡ places_length → L s → L (put_places s ps)
  places_logged s ps e k =
      record {
        tracked = (tracked_closed (lives h) (stays_blocked h)).values_put s ps e k.tracked;
        spawns_are =
            spawned_like S C (spawns h) N s (put_places s ps) (sized-put_places s ps e k.spawns_are.sized) (same-spawns S s _ (unfold put_places in refl)) (unfold header put_places in refl)
            (λ o. ap shape (places-object s ps o) ∙ k.spawns_are.rows o) (λ t. places-task s ps t) k.spawns_are;
        log_right = unfold put_places in k.log_right;
      }

  pub queue_logged : (s : Store) (q : ReadyQueue) → L s → L (put_queue s q)
  queue_logged s q k =
      record {
        tracked = (tracked_closed (lives h) (stays_blocked h)).queued s q k.tracked;
        spawns_are =
            spawned_like S C (spawns h) N s (put_queue s q) (sized-put_queue s q k.spawns_are.sized) (same-spawns S s _ (unfold put_queue in refl)) (unfold header put_queue in refl)
            (λ o. rows o) (λ t. unfold task put_queue in refl) k.spawns_are;
        log_right = unfold put_queue in k.log_right;
      }
    where
      same_object : (o : ℕ) → object (put_queue s q) o ≡ object s o
      same_object o = unfold object put_queue in refl

      rows : (o : ℕ) → shape (object (put_queue s q) o) ≡ N o
      rows o = ap shape (same_object o) ∙ k.spawns_are.rows o

  -- a live task, by its row
  pub is_live_now : (s : Store) (t : ℕ) → t < task_limit → is_live (task s t).state ≡ true → L s → live s t ≡ true
  is_live_now s t l e k = live-is s t (live_below S C (spawns h) N s t l e k.spawns_are) e

  -- what the words of the history and the log so far say of it
  pub lives_now : (s : Store) (t : ℕ) → live s t ≡ true → L s → lives_by (lives h t) s.log t ≡ true
  lives_now s t e k = k.tracked.alive t ∙ e

  pub free_now : (s : Store) (t : ℕ) → live s t ≡ true → is_blocked (task s t).state ≡ false → L s → blocked_by (stays_blocked h t) s.log t ≡ false
  free_now s t e b k = k.tracked.stuck t e ∙ b

  pub wakes_logged : (s : Store) (t : ℕ) (y : TaskState) → t < task_limit → is_blocked (task s t).state ≡ true → is_ready y ≡ true → is_unstarted y ≡ false → L s → L (add_log (make_ready s t y) (reached t))
  wakes_logged s t y l b r n k =
      record {
        tracked = (tracked_closed (lives h) (stays_blocked h)).wakes s t y l b r k.tracked;
        spawns_are =
            state_spawned S C (spawns h) N s t y _ l (blocked-live (task s t).state b).0 (blocked-live (task s t).state b).1 (ready-live y r) n
            ((tracked_closed (lives h) (stays_blocked h)).wakes s t y l b r k.tracked).sized (reached-spawns S s _ t (wakes-log s t y)) (ap (λ z. z.next) (wakes-header s t y)) (λ o. wakes-object s t y o) (λ v. wakes-task s t y v) k.spawns_are;
        log_right = subst (LogRight h x) (sym (wakes-log s t y)) (unfold LogRight in (record { live = lives_now s t lv k; blocked = k.tracked.stuck t lv ∙ b }, k.log_right));
      }
    where
      lv : live s t ≡ true
      lv = is_live_now s t l (blocked-live (task s t).state b).0 k

  -- a task exits
  pub exits_logged : (s : Store) (t : ℕ) → live s t ≡ true → eqb t 0 ≡ false → is_blocked (task s t).state ≡ false → is_used (N (task s t).coroutine.0) ≡ true → ExitReason h x s.log t → L s
      → L (add_log (remove_task s t) (exited t))
  exits_logged s t lv z b u r k =
      record {
        tracked = exits_tracked (lives h) (stays_blocked h) s t k.tracked;
        spawns_are =
            gone-spawned S C (spawns h) N s t _ (λ e. u) (exits_tracked (lives h) (stays_blocked h) s t k.tracked).sized (exited-spawns S s _ t (gone_log s t (exited t)))
            (ap (λ y. y.next) (gone_header s t (exited t))) (λ o. gone_object s t (exited t) o) (λ v. gone_task s t (exited t) v) k.spawns_are;
        log_right = subst (LogRight h x) (sym (gone_log s t (exited t)))
            (unfold LogRight in (record { spawned = z; live = lives_now s t lv k; unblocked = free_now s t lv b k; why = r }, k.log_right));
      }

  -- a task is removed; if it was live, its coroutine is not new
  pub goes_logged : (s : Store) (t : ℕ) → (live s t ≡ true → is_used (N (task s t).coroutine.0) ≡ true) → RemoveHonest h x → L s → L (add_log (remove_task s t) (removed t))
  goes_logged s t u r k =
      record {
        tracked = (tracked_closed (lives h) (stays_blocked h)).goes s t k.tracked;
        spawns_are =
            gone-spawned S C (spawns h) N s t _ u ((tracked_closed (lives h) (stays_blocked h)).goes s t k.tracked).sized (removed-spawns S s _ t (gone_log s t (removed t)))
            (ap (λ y. y.next) (gone_header s t (removed t))) (λ o. gone_object s t (removed t) o) (λ v. gone_task s t (removed t) v) k.spawns_are;
        log_right = subst (LogRight h x) (sym (gone_log s t (removed t))) (unfold LogRight in (r, k.log_right));
      }

  pub logged_delivers : Delivers L (λ a. Unit {0})
  logged_delivers =
      record {
        sized = sized_logged;
        row = λ s g w y l e go k. gather_logged s g w y l e k;
        values_put = places_logged;
        wakes = λ s t y l a b r n k. wakes_logged s t.0 y l b r n k;
        onward = λ s g y w e a k. tt;
      }

  -- an external settles
  pub external_logged : (s : Store) (o : ℕ) (y : Rattle.asyncio.specs.declared.ExternalFutureState.ExternalFutureState) (c : Rattle.asyncio.specs.declared.CallId.CallId) → o < object_limit → N o ≡ other → L s → L (put_object s o (Object.ExternalFuture c y))
  external_logged s o y c l e k = row_logged s o _ l (external_shape c y ∙ sym e) k

  pub settles_logged : (s : Store) (o : ℕ) (p : PendingExternal) (y : Rattle.asyncio.specs.declared.ExternalFutureState.ExternalFutureState) → o < object_limit → as_pending (object s o) ≡ some p → L s → L (put_object s o (Object.ExternalFuture p.call y))
  unfolding shape
  settles_logged s o p y l e k = external_logged s o y p.call l (sym (k.spawns_are.rows o) ∙ ap shape (pending-object (object s o) p e)) k

  -- ---- a first run that fails

  module _ (origins : Origins h N) where
    -- a task whose coroutine is not new at its first run
    pub reuse : (s : Store) (t : ℕ) → t < task_limit → (task s t).state ≡ TaskState.Unstarted → new_function (object s (task s t).coroutine.0) ≡ none → L s
        → (eqb t 0 ≡ false) × (is_used (N (task s t).coroutine.0) ≡ true) × ExitReason h x s.log t
    reuse s zero l e n k = absurd (true≢false (sym (ap is_unstarted e) ∙ k.spawns_are.main))
    reuse s (suc t) l e n k = (ne_eqb (suc t) 0 (λ q. not-suc-le-zero {n = 0} (omega arith)), old, reused c y.origin (y.fresh (ap is_unstarted e)) (origins.named_is c ∙ old))
      where
        c : ℕ
        c = (task s (suc t)).coroutine.0

        lv : is_live (task s (suc t)).state ≡ true
        lv = ap is_live e

        y : TaskFrom S C N s.log (suc t) (task s (suc t))
        y = k.spawns_are.tasks t (live_below S C (spawns h) N s (suc t) l lv k.spawns_are) lv

        old : is_used (N c) ≡ true
        old = ap is_used (sym (k.spawns_are.rows c)) ∙ old_shape (object s c) n (ap is_co (k.spawns_are.rows c) ∙ y.coroutine)

    pub reuse_logged : (s : Store) (t : ℕ) → t < task_limit → (task s t).state ≡ TaskState.Unstarted → new_function (object s (task s t).coroutine.0) ≡ none → L s → L (add_log (remove_task s t) (exited t))
    reuse_logged s t l e n k =
        let y = reuse s t l e n k in exits_logged s t (is_live_now s t l (ap is_live e) k) y.0 (ap is_blocked e) y.1 y.2 k

    pub logged_switching : Switching L (λ a. Unit {0})
    logged_switching = record { queued = queue_logged; sent_to = λ s t l e n k. tt; exits = reuse_logged }
