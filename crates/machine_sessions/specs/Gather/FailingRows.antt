-- Why a gather failed, in the midst of an event: what is carried through deliveries and switches, and each write that they make.
use Rattle.std.specs.Prelude.{◌≡◌, Bool, true, not, ◌&&◌, ◌||◌, List, [], ◌∷◌, ◌⊎◌, ℕ, zero, suc, ◌+◌, ◌≤◌, ◌<◌, eqb, length}
use Rattle.std.proofs.Math.Path.{refl, ap, subst}
use Rattle.std.proofs.Common.{sym, ap₂, ◌∙◌, true≢false, inr, not-suc-le-zero, arith, eq-eqb, eqb-true}
use Rattle.std.proofs.Math.Bool.{false}
use Rattle.std.proofs.Math.Option.{Option, none, some, some-injective}
use Rattle.std.proofs.Math.Logic.{inl}
use Rattle.std.proofs.Math.Decide.{ℕ_discrete}
use Rattle.asyncio.specs.declared.CallId.{CallId}
use Rattle.asyncio.specs.declared.Error.{Error}
use Rattle.asyncio.specs.declared.Awaiter.{Awaiter}
use Rattle.asyncio.specs.declared.TaskState.{TaskState}
use Rattle.asyncio.specs.declared.Task.{Task}
use Rattle.asyncio.specs.declared.CoroutineState.{CoroutineState}
use Rattle.asyncio.specs.declared.ExternalFutureState.{ExternalFutureState}
use Rattle.asyncio.specs.declared.GatherState.{GatherState}
use Rattle.asyncio.specs.declared.Object.{Object}
use Rattle.asyncio.specs.declared.Moment.{Moment}
use Rattle.asyncio.specs.declared.Header.{Header}
use Rattle.asyncio.specs.Limits.{object_limit, task_limit, places_length}
use Rattle.asyncio.specs.Ranges.{ObjectFits, MomentFits, StateFits, TaskFits}
use Rattle.asyncio.specs.Parts.{first_of, count_of}
use Rattle.asyncio.specs.States.{is_live, is_ready, is_blocked, is_unstarted}
use Rattle.queue.specs.declared.ReadyQueue.{ReadyQueue}
use Rattle.queue.specs.Queue.{remove}
use Rattle.machine.specs.Store.{Store, LogEntry, spawned, blocked, reached, exited, removed, task, object, place, header, put_task, put_header, put_object, put_places, put_queue, add_log, restate, set_state, set_moment, absent}
use Rattle.machine.specs.Scheduler.{AwaitedGather, as_awaited, make_ready, push_ready, remove_from_ready_queue, remove_task}
use Rattle.machine.specs.Events.{new_function}
use Rattle.machine.specs.History.{spawned_by}
use Rattle.machine.specs.Honest.{exits_in}
use Rattle.machine_laws.specs.Views.{Sized}
use Rattle.machine_laws.specs.StoreLaws.{header-fits, task-fits, task_put-task, task_put-other, object_put-object, object_put-other, object_put-header, header_put-object, live-put_task}
use Rattle.machine_laws.specs.StoreLaws.{sized-put_task, sized-put_object, sized-put_places, sized-put_queue, sized-add_log, sized-set_state, sized-set_moment}
use Rattle.machine_theorems.specs.Soundness.RowFacts.{blocked-live}
use Rattle.machine_sessions.specs.Stall.Standing.{moment_head}
use Rattle.machine_sessions.specs.Gather.Failing.{ClimbMoves, climb-then, climb-same, climb-failed, climb-stays_failed, climb-stays-broken, climb-used, failed-awaited}

-- ---- why

-- a place of gather g names o
pub record ItemAt (m : Store) (g o : ℕ) : Type 0 where
  pub at : ℕ
  pub under : at < count_of (object m g)
  pub names : (place m (first_of (object m g) + at)).item.0 ≡ o

-- Task t, unstarted in s, has failed at its first run: it is gone in u, and its coroutine is not new.
pub record FirstRun (s u : Store) (t : ℕ) : Type 0 where
  pub low : t < (header s).next
  pub was : (task s t).state ≡ TaskState.Unstarted
  pub gone : is_live (task u t).state ≡ false
  pub logged : exits_in u.log t ≡ true
  pub used : new_function (object u (task s t).coroutine.0) ≡ none

-- Object o has raised e in u: its row has failed with it, or it is a coroutine whose task ended with it, as R says or at its first run.
pub data Raised (s : Store) (R : ℕ → Error → Type 0) (u : Store) (o : ℕ) (e : Error) : Type 0 where
  by_external : (c : CallId) → object u o ≡ Object.ExternalFuture c (ExternalFutureState.Failed e) → Raised s R u o e
  by_gather : (f n : ℕ) → object u o ≡ Object.GatherFuture f n (GatherState.Failed e) → Raised s R u o e
  by_task : R o e → Raised s R u o e
  by_first_run : (t : ℕ) → FirstRun s u t → (task s t).coroutine.0 ≡ o → e ≡ Error.CoroutineReuse → Raised s R u o e

-- one store of an event, then another: rows move, no task comes back, and what was logged is
pub record Later (u v : Store) : Type 0 where
  pub rows : (o : ℕ) → ClimbMoves (object u o) (object v o)
  pub gone : (t : ℕ) → t < task_limit → is_live (task u t).state ≡ false → is_live (task v t).state ≡ false
  pub logged : (t : ℕ) → exits_in u.log t ≡ true → exits_in v.log t ≡ true

pub first_later : (s u v : Store) (t : ℕ) → Later u v → FirstRun s u t → FirstRun s v t
first_later s u v t l k = record { low = k.low; was = k.was; gone = l.gone t (omega (arith, k.low, (header-fits s).next_fits)) k.gone; logged = l.logged t k.logged; used = climb-used (object u (task s t).coroutine.0) (object v (task s t).coroutine.0) (l.rows (task s t).coroutine.0) k.used }

pub raised-later : (s : Store) (R : ℕ → Error → Type 0) (u v : Store) (o : ℕ) (e : Error) → Later u v → Raised s R u o e → Raised s R v o e
raised-later s R u v o e l (by_external c q) = by_external c (climb-stays-broken (object v o) c e (subst (λ (x : Object). ClimbMoves x (object v o)) q (l.rows o)))
raised-later s R u v o e l (by_gather f n q) = by_gather f n (climb-stays_failed (object v o) f n e (subst (λ (x : Object). ClimbMoves x (object v o)) q (l.rows o)))
raised-later s R u v o e l (by_task r) = by_task r
raised-later s R u v o e l (by_first_run t k q d) = by_first_run t (first_later s u v t l k) q d

pub raised_as : (s : Store) (R Q : ℕ → Error → Type 0) (u : Store) (o : ℕ) (e : Error) → (R o e → Raised s Q u o e) → Raised s R u o e → Raised s Q u o e
raised_as s R Q u o e f (by_external c q) = by_external c q
raised_as s R Q u o e f (by_gather a n q) = by_gather a n q
raised_as s R Q u o e f (by_task r) = f r
raised_as s R Q u o e f (by_first_run t k q d) = by_first_run t k q d

-- a task that exits in the event: it is its runner (X), or has failed at its first run
pub data ExitAs (s : Store) (X : ℕ → Type 0) (u : Store) (t : ℕ) : Type 0 where
  before : exits_in s.log t ≡ true → ExitAs s X u t
  as_runner : X t → ExitAs s X u t
  at_first : FirstRun s u t → ExitAs s X u t

pub exit_later : (s : Store) (X : ℕ → Type 0) (u v : Store) (t : ℕ) → Later u v → ExitAs s X u t → ExitAs s X v t
exit_later s X u v t l (before e) = before e
exit_later s X u v t l (as_runner x) = as_runner x
exit_later s X u v t l (at_first k) = at_first (first_later s u v t l k)

-- a live task is as it was: it lives, with its awaiter and coroutine, and is unstarted only if it was
pub record TaskAs (m u : Store) (t : ℕ) : Type 0 where
  pub live : is_live (task m t).state ≡ true
  pub awaiter : (task u t).awaiter ≡ (task m t).awaiter
  pub coroutine : (task u t).coroutine ≡ (task m t).coroutine
  pub unstarted : is_unstarted (task u t).state ≡ true → is_unstarted (task m t).state ≡ true

pub task-then : (m u v : Store) (t : ℕ) → TaskAs m u t → TaskAs u v t → TaskAs m v t
task-then m u v t p q = record { live = p.live; awaiter = q.awaiter ∙ p.awaiter; coroutine = q.coroutine ∙ p.coroutine; unstarted = λ e. p.unstarted (q.unstarted e) }

task-same : (u v : Store) (t : ℕ) → task v t ≡ task u t → is_live (task v t).state ≡ true → TaskAs u v t
task-same u v t e l =
    record {
      live = sym (ap (λ (r : Task). is_live r.state) e) ∙ l;
      awaiter = ap (λ (r : Task). r.awaiter) e;
      coroutine = ap (λ (r : Task). r.coroutine) e;
      unstarted = λ d. sym (ap (λ (r : Task). is_unstarted r.state) e) ∙ d;
    }

-- s is the store before the event, m the one where deliveries begin; Young are the gathers that the event has committed, B the errors that it brings, X its
-- runner that ends, R what that one's task ended with; Fr says that no coroutine was started yet
module _ (s m : Store) (Young : ℕ → Type 0) (B : Error → Type 0) (X : ℕ → Type 0) where
  -- Gather g, awaited in m, has failed with e: an item has raised e.
  pub record Because (R : ℕ → Error → Type 0) (u : Store) (g : ℕ) (e : Error) : Type 0 where
    pub error : B e
    pub old : Young g → ⊥
    pub item : ℕ
    pub among : ItemAt m g item
    pub raised : Raised s R u item e

  pub record Failing (R : ℕ → Error → Type 0) (Fr : Type 0) (u : Store) : Type 0 where
    pub sized : Sized u
    pub next : (header u).next ≡ (header m).next
    pub moves : (o : ℕ) → ClimbMoves (object m o) (object u o)
    pub tasks : (t : ℕ) → t < (header m).next → is_live (task u t).state ≡ true → TaskAs m u t
    pub because : (g f n : ℕ) (e : Error) (w : AwaitedGather) → as_awaited (object m g) ≡ some w → object u g ≡ Object.GatherFuture f n (GatherState.Failed e) → Because R u g e
    pub exits : (t : ℕ) → exits_in u.log t ≡ true → ExitAs s X u t
    -- a task that the event has spawned is for a new coroutine
    pub fresh : Fr → (t : ℕ) → (header s).next ≤ t → t < (header m).next → (f : ℕ) × (object u (task m t).coroutine.0 ≡ Object.Coroutine f CoroutineState.New)
    pub spawned : (t : ℕ) (b : Option ℕ) → spawned_by b u.log t ≡ spawned_by b m.log t

  because-later : (R : ℕ → Error → Type 0) (u v : Store) (g : ℕ) (e : Error) → Later u v → Because R u g e → Because R v g e
  because-later R u v g e l k = record { error = k.error; old = k.old; item = k.item; among = k.among; raised = raised-later s R u v k.item e l k.raised }

  -- with other reasons for tasks' errors
  pub failing_as : (R Q : ℕ → Error → Type 0) (Fr : Type 0) (u : Store) → ((o : ℕ) (e : Error) → R o e → Raised s Q u o e) → Failing R Fr u → Failing Q Fr u
  failing_as R Q Fr u f k =
      record {
        sized = k.sized;
        next = k.next;
        moves = k.moves;
        tasks = k.tasks;
        because = λ g a n e w p q.
            let b : Because R u g e = k.because g a n e w p q in
            record { error = b.error; old = b.old; item = b.item; among = b.among; raised = raised_as s R Q u b.item e (f b.item e) b.raised };
        exits = k.exits;
        fresh = k.fresh;
        spawned = k.spawned;
      }

  -- a coroutine may have started
  pub failing_over : (R : ℕ → Error → Type 0) (Fr : Type 0) (u : Store) → Failing R Fr u → Failing R ⊥ u
  failing_over R Fr u k =
      record { sized = k.sized; next = k.next; moves = k.moves; tasks = k.tasks; because = k.because; exits = k.exits; fresh = λ z. absurd z; spawned = k.spawned }

  -- ---- from one store to the next

  pub failing_step : (R : ℕ → Error → Type 0) (Fr : Type 0) (u v : Store) → Later u v → Sized v → (header v).next ≡ (header u).next → ((t : ℕ) → t < (header m).next → is_live (task v t).state ≡ true → TaskAs u v t)
      → ((g f n : ℕ) (e : Error) (w : AwaitedGather) → as_awaited (object u g) ≡ some w → object v g ≡ Object.GatherFuture f n (GatherState.Failed e) → Because R v g e)
      → ((t : ℕ) → exits_in v.log t ≡ true → (exits_in u.log t ≡ true) ⊎ ExitAs s X v t)
      → ((t : ℕ) (b : Option ℕ) → spawned_by b v.log t ≡ spawned_by b u.log t)
      → (Fr → (c f : ℕ) → object u c ≡ Object.Coroutine f CoroutineState.New → object v c ≡ Object.Coroutine f CoroutineState.New)
      → Failing R Fr u → Failing R Fr v
  failing_step R Fr u v l z n ts new ex sp fr k =
      record {
        sized = z;
        next = n ∙ k.next;
        moves = λ o. climb-then (object m o) (object u o) (object v o) (k.moves o) (l.rows o);
        tasks = λ t b e. let y : TaskAs u v t = ts t b e in task-then m u v t (k.tasks t b y.live) y;
        because = λ g f a e w p q. by g f a e w p q (climb-failed (object u g) (object v g) f a e (l.rows g) q);
        exits = λ t e. exit t (ex t e);
        fresh = λ i t a b. let y = k.fresh i t a b in (y.0, fr i _ y.0 y.1);
        spawned = λ t b. sp t b ∙ k.spawned t b;
      }
    where
      by : (g f a : ℕ) (e : Error) (w : AwaitedGather) → as_awaited (object m g) ≡ some w → object v g ≡ Object.GatherFuture f a (GatherState.Failed e)
          → (object u g ≡ Object.GatherFuture f a (GatherState.Failed e)) ⊎ ((x : AwaitedGather) × (as_awaited (object u g) ≡ some x)) → Because R v g e
      by g f a e w p q (inl d) = because-later R u v g e l (k.because g f a e w p d)
      by g f a e w p q (inr x) = new g f a e x.0 x.1 q

      exit : (t : ℕ) → (exits_in u.log t ≡ true) ⊎ ExitAs s X v t → ExitAs s X v t
      exit t (inl e) = exit_later s X u v t l (k.exits t e)
      exit t (inr y) = y

  -- ---- each write

  -- rows and tasks as they were, and the log but for what is no exit and no spawning
  pub failing_like : (R : ℕ → Error → Type 0) (Fr : Type 0) (u v : Store) → Sized v → (header v).next ≡ (header u).next → ((o : ℕ) → object v o ≡ object u o) → ((t : ℕ) → task v t ≡ task u t)
      → ((t : ℕ) → exits_in v.log t ≡ exits_in u.log t) → ((t : ℕ) (b : Option ℕ) → spawned_by b v.log t ≡ spawned_by b u.log t) → Failing R Fr u → Failing R Fr v
  failing_like R Fr u v z n os ts ex sp k =
      failing_step R Fr u v
      (record { rows = λ o. subst (ClimbMoves (object u o)) (sym (os o)) (climb-same (object u o)); gone = λ t b e. ap (λ (r : Task). is_live r.state) (ts t) ∙ e; logged = λ t e. ex t ∙ e })
      z n (λ t b e. task-same u v t (ts t) e)
      (λ g f a e w p q. failed-awaited (object u g) f a e w (sym (os g) ∙ q) p)
      (λ t e. inl (sym (ex t) ∙ e)) sp (λ i c f e. os c ∙ e) k

  pub queue_failing : (R : ℕ → Error → Type 0) (Fr : Type 0) (u : Store) (q : ReadyQueue) → Failing R Fr u → Failing R Fr (put_queue u q)
  queue_failing R Fr u q k =
      failing_like R Fr u (put_queue u q) (sized-put_queue u q k.sized) (unfold header put_queue in refl) (λ o. unfold object put_queue in refl) (λ t. unfold task put_queue in refl)
      (λ t. unfold put_queue in refl) (λ t b. unfold put_queue in refl) k

  pub places_failing : (R : ℕ → Error → Type 0) (Fr : Type 0) (u : Store) (ps : List ℕ) → length ps ≡ places_length → Failing R Fr u → Failing R Fr (put_places u ps)
  places_failing R Fr u ps e k =
      failing_like R Fr u (put_places u ps) (sized-put_places u ps e k.sized) (unfold header put_places in refl) (λ o. unfold object put_places in refl) (λ t. unfold task put_places in refl)
      (λ t. unfold put_places in refl) (λ t b. unfold put_places in refl) k

  pub moment_failing : (R : ℕ → Error → Type 0) (Fr : Type 0) (u : Store) (y : Moment) → MomentFits y → Failing R Fr u → Failing R Fr (set_moment u y)
  moment_failing R Fr u y f k =
      failing_like R Fr u (set_moment u y) (sized-set_moment u y k.sized) (moment_head u y k.sized f).0 (λ o. unfold set_moment in (object_put-header u _ o)) (λ t. unfold task set_moment put_header in refl)
      (λ t. unfold set_moment put_header in refl) (λ t b. unfold set_moment put_header in refl) k

  -- an entry that is no exit and no spawning
  pub neutral_failing : (R : ℕ → Error → Type 0) (Fr : Type 0) (u : Store) (x : LogEntry) → ((t : ℕ) → exits_in (x ∷ u.log) t ≡ exits_in u.log t) → ((t : ℕ) (b : Option ℕ) → spawned_by b (x ∷ u.log) t ≡ spawned_by b u.log t)
      → Failing R Fr u → Failing R Fr (add_log u x)
  neutral_failing R Fr u x ex sp k =
      failing_like R Fr u (add_log u x) (sized-add_log u x k.sized) (unfold header add_log in refl) (λ o. unfold object add_log in refl) (λ t. unfold task add_log in refl)
      (λ t. unfold add_log in (ex t)) (λ t b. unfold add_log in (sp t b)) k

  -- an object's row
  pub row_failing : (R : ℕ → Error → Type 0) (Fr : Type 0) (u : Store) (o : ℕ) (x : Object) → o < object_limit → ObjectFits x → ClimbMoves (object u o) x
      → ((f n : ℕ) (e : Error) (w : AwaitedGather) → as_awaited (object u o) ≡ some w → x ≡ Object.GatherFuture f n (GatherState.Failed e) → Because R u o e)
      → (Fr → (f : ℕ) → object u o ≡ Object.Coroutine f CoroutineState.New → ⊥) → Failing R Fr u → Failing R Fr (put_object u o x)
  row_failing R Fr u o x l fits c new fr k =
      failing_step R Fr u v later
      (sized-put_object u o x k.sized) (ap (λ (h : Header). h.next) (header_put-object u o x)) (λ t b e. task-same u v t (unfold task put_object in refl) e)
      (λ g f n e w p q. by g f n e w p q (ℕ_discrete g o)) (λ t e. inl (unfold put_object in e)) (λ t b. unfold put_object in refl)
      (λ i c f e. object_put-other u o c x (λ d. fr i f (subst (λ (j : ℕ). object u j ≡ Object.Coroutine f CoroutineState.New) d e)) ∙ e) k
    where
      v : Store
      v = put_object u o x

      now : object v o ≡ x
      now = object_put-object u o x k.sized l fits

      rows : (p : ℕ) → Dec (p ≡ o) → ClimbMoves (object u p) (object v p)
      rows p (yes d) = subst (λ (j : ℕ). ClimbMoves (object u j) (object v j)) (sym d) (subst (ClimbMoves (object u o)) (sym now) c)
      rows p (no ne) = subst (ClimbMoves (object u p)) (sym (object_put-other u o p x ne)) (climb-same (object u p))

      later : Later u v
      later = record { rows = λ p. rows p (ℕ_discrete p o); gone = λ t b e. unfold task put_object in (unfold task in e); logged = λ t e. unfold put_object in e }

      by : (g f n : ℕ) (e : Error) (w : AwaitedGather) → as_awaited (object u g) ≡ some w → object v g ≡ Object.GatherFuture f n (GatherState.Failed e) → Dec (g ≡ o) → Because R v g e
      by g f n e w p q (yes d) =
          subst (λ (j : ℕ). Because R v j e) (sym d)
          (because-later R u v o e later (new f n e w (subst (λ (j : ℕ). as_awaited (object u j) ≡ some w) d p) (sym now ∙ subst (λ (j : ℕ). object v j ≡ Object.GatherFuture f n (GatherState.Failed e)) d q)))
      by g f n e w p q (no ne) = failed-awaited (object u g) f n e w (sym (object_put-other u o g x ne) ∙ q) p

  -- ---- tasks

  -- a live task goes into another state, in which it has started
  pub state_failing : (R : ℕ → Error → Type 0) (Fr : Type 0) (u : Store) (t : ℕ) (x : TaskState) → t < task_limit → StateFits x → is_live (task u t).state ≡ true → is_unstarted x ≡ false → Failing R Fr u → Failing R Fr (set_state u t x)
  unfolding set_state
  state_failing R Fr u t x l fits lv on k =
      failing_step R Fr u v
      (record { rows = λ o. subst (ClimbMoves (object u o)) (sym (same o)) (climb-same (object u o)); gone = λ i b e. gone i b e (ℕ_discrete i t); logged = λ i e. unfold put_task in e })
      (sized-put_task u t r k.sized) (unfold header put_task in refl) (λ i b e. tasks i e (ℕ_discrete i t))
      (λ g f n e w p q. failed-awaited (object u g) f n e w (sym (same g) ∙ q) p) (λ i e. inl (unfold put_task in e)) (λ i b. unfold put_task in refl) (λ i c f e. same c ∙ e) k
    where
      r : Task
      r = restate (task u t) x

      v : Store
      v = put_task u t r

      r-fits : TaskFits r
      r-fits = unfold restate in (record { state_fits = fits; awaiter_fits = (task-fits u t).awaiter_fits; coroutine_fits = (task-fits u t).coroutine_fits })

      now : task v t ≡ r
      now = task_put-task u t r k.sized l r-fits

      same : (o : ℕ) → object v o ≡ object u o
      same o = unfold object put_task in refl

      gone : (i : ℕ) → i < task_limit → is_live (task u i).state ≡ false → Dec (i ≡ t) → is_live (task v i).state ≡ false
      gone i b e (yes d) = absurd (true≢false (sym lv ∙ subst (λ (j : ℕ). is_live (task u j).state ≡ false) d e))
      gone i b e (no ne) = ap (λ (y : Task). is_live y.state) (task_put-other u t i r ne) ∙ e

      here : TaskAs u v t
      here =
          record {
            live = lv;
            awaiter = ap (λ (y : Task). y.awaiter) now ∙ (unfold restate in refl);
            coroutine = ap (λ (y : Task). y.coroutine) now ∙ (unfold restate in refl);
            unstarted = λ e. absurd (true≢false (sym e ∙ (ap (λ (y : Task). is_unstarted y.state) now ∙ started)));
          }
        where
          started : is_unstarted r.state ≡ false
          started = unfold restate in on

      tasks : (i : ℕ) → is_live (task v i).state ≡ true → Dec (i ≡ t) → TaskAs u v i
      tasks i e (yes d) = subst (λ (j : ℕ). TaskAs u v j) (sym d) here
      tasks i e (no ne) = task-same u v i (task_put-other u t i r ne) e

  -- a task goes
  removed-failing : (R : ℕ → Error → Type 0) (Fr : Type 0) (u v : Store) (t : ℕ) → Sized v → (header v).next ≡ (header u).next → ((o : ℕ) → object v o ≡ object u o) → ((i : ℕ) → task v i ≡ task (put_task u t absent) i)
      → ((i : ℕ) → exits_in u.log i ≡ true → exits_in v.log i ≡ true) → ((i : ℕ) → exits_in v.log i ≡ true → (exits_in u.log i ≡ true) ⊎ ExitAs s X v i)
      → ((i : ℕ) (b : Option ℕ) → spawned_by b v.log i ≡ spawned_by b u.log i) → Failing R Fr u → Failing R Fr v
  removed-failing R Fr u v t z n os ts lg ex sp k =
      failing_step R Fr u v
      (record { rows = λ o. subst (ClimbMoves (object u o)) (sym (os o)) (climb-same (object u o)); gone = λ i b e. gone i b e (ℕ_discrete i t); logged = lg })
      z n (λ i b e. tasks i (omega (arith, b, (header-fits m).next_fits)) e (ℕ_discrete i t)) (λ g f a e w p q. failed-awaited (object u g) f a e w (sym (os g) ∙ q) p) ex sp (λ i c f e. os c ∙ e) k
    where
      dead : t < task_limit → is_live (task v t).state ≡ false
      dead l = ap (λ (r : Task). is_live r.state) (ts t) ∙ (live-put_task u t absent k.sized l ∙ (unfold absent in refl))

      gone : (i : ℕ) → i < task_limit → is_live (task u i).state ≡ false → Dec (i ≡ t) → is_live (task v i).state ≡ false
      gone i b e (yes d) = subst (λ (j : ℕ). is_live (task v j).state ≡ false) (sym d) (dead (subst (λ (j : ℕ). j < task_limit) d b))
      gone i b e (no ne) = ap (λ (y : Task). is_live y.state) (ts i ∙ task_put-other u t i absent ne) ∙ e

      tasks : (i : ℕ) → i < task_limit → is_live (task v i).state ≡ true → Dec (i ≡ t) → TaskAs u v i
      tasks i b e (yes d) = absurd (true≢false (sym (subst (λ (j : ℕ). is_live (task v j).state ≡ true) d e) ∙ dead (subst (λ (j : ℕ). j < task_limit) d b)))
      tasks i b e (no ne) = task-same u v i (ts i ∙ task_put-other u t i absent ne) e

  spawns-left : (u : Store) (t i : ℕ) (b : Option ℕ) → spawned_by b (add_log (put_queue (put_task u t absent) (remove u.queue t)) (exited t)).log i ≡ spawned_by b u.log i
  unfolding spawned_by add_log put_queue put_task
  spawns-left u t i b = refl

  pub exit_failing : (R : ℕ → Error → Type 0) (Fr : Type 0) (u : Store) (t : ℕ) → ExitAs s X (add_log (remove_task u t) (exited t)) t → Failing R Fr u → Failing R Fr (add_log (remove_task u t) (exited t))
  unfolding remove_task remove_from_ready_queue put_task
  exit_failing R Fr u t why k =
      removed-failing R Fr u v t (sized-add_log _ (exited t) (sized-put_queue _ _ (sized-put_task u t absent k.sized))) (unfold header add_log put_queue put_task in refl) (λ o. unfold object add_log put_queue put_task in refl)
      (λ i. unfold task add_log put_queue in refl) (λ i e. logs i ∙ more (eqb t i) (exits_in u.log i) e) (λ i e. fewer i (eqb t i) refl (sym (logs i) ∙ e)) (λ i b. spawns-left u t i b) k
    where
      v : Store
      v = add_log (put_queue (put_task u t absent) (remove u.queue t)) (exited t)

      logs : (i : ℕ) → exits_in v.log i ≡ (eqb t i || exits_in u.log i)
      logs i = unfold exits_in add_log put_queue put_task in refl

      more : (a b : Bool) → b ≡ true → (a || b) ≡ true
      more true b e = refl
      more false b e = e

      fewer : (i : ℕ) (a : Bool) → eqb t i ≡ a → (a || exits_in u.log i) ≡ true → (exits_in u.log i ≡ true) ⊎ ExitAs s X v i
      fewer i true d e = inr (subst (ExitAs s X v) (eqb-true t i d) (unfold remove_task remove_from_ready_queue in why))
      fewer i false d e = inl e

  pub goes_failing : (R : ℕ → Error → Type 0) (Fr : Type 0) (u : Store) (t : ℕ) → Failing R Fr u → Failing R Fr (add_log (remove_task u t) (removed t))
  unfolding remove_task remove_from_ready_queue put_task
  goes_failing R Fr u t k =
      removed-failing R Fr u (add_log (put_queue (put_task u t absent) (remove u.queue t)) (removed t)) t
      (sized-add_log _ (removed t) (sized-put_queue _ _ (sized-put_task u t absent k.sized))) (unfold header add_log put_queue put_task in refl) (λ o. unfold object add_log put_queue put_task in refl)
      (λ i. unfold task add_log put_queue in refl) (λ i e. unfold exits_in add_log put_queue put_task in e) (λ i e. inl (unfold exits_in add_log put_queue put_task in e))
      (λ i b. unfold spawned_by add_log put_queue put_task in refl) k

  pub ends_failing : (R : ℕ → Error → Type 0) (Fr : Type 0) (u : Store) (t : ℕ) → Failing R Fr u → Failing R Fr (add_log (put_task u t absent) (removed t))
  ends_failing R Fr u t k =
      removed-failing R Fr u (add_log (put_task u t absent) (removed t)) t
      (sized-add_log _ (removed t) (sized-put_task u t absent k.sized)) (unfold header add_log put_task in refl) (λ o. unfold object add_log put_task in refl)
      (λ i. unfold task add_log in refl) (λ i e. unfold exits_in add_log put_task in e) (λ i e. inl (unfold exits_in add_log put_task in e))
      (λ i b. unfold spawned_by add_log put_task in refl) k

  -- a blocked task is woken
  pub wakes_failing : (R : ℕ → Error → Type 0) (Fr : Type 0) (u : Store) (t : ℕ) (x : TaskState) → t < task_limit → StateFits x → is_blocked (task u t).state ≡ true → is_unstarted x ≡ false → Failing R Fr u
      → Failing R Fr (add_log (make_ready u t x) (reached t))
  unfolding make_ready push_ready exits_in spawned_by
  wakes_failing R Fr u t x l f e on k =
      neutral_failing R Fr _ (reached t) (λ i. refl) (λ i b. refl) (queue_failing R Fr _ _ (state_failing R Fr u t x l f (blocked-live (task u t).state e) on k))
