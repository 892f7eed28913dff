-- A task that blocks is not woken by the same event: only gathers that were pending before it lead up to the task, and their tasks have new coroutines.
use Rattle.std.specs.Prelude.{◌≡◌, Bool, false, ◌⊎◌, ℕ, ◌<◌}
use Rattle.std.proofs.Math.Path.{refl, subst}
use Rattle.std.proofs.Common.{sym, ap, ◌∙◌, true≢false, inl, inr, mod-eq_of_lt}
use Rattle.std.proofs.Math.Bool.{true}
use Rattle.std.proofs.Math.Option.{none, some, some-injective}
use Rattle.std.proofs.Math.Decide.{ℕ_discrete}
use Rattle.asyncio.specs.declared.TaskId.{TaskId}
use Rattle.asyncio.specs.declared.HeapId.{HeapId}
use Rattle.asyncio.specs.declared.CallId.{CallId}
use Rattle.asyncio.specs.declared.Awaiter.{Awaiter}
use Rattle.asyncio.specs.declared.TaskState.{TaskState}
use Rattle.asyncio.specs.declared.Task.{Task}
use Rattle.asyncio.specs.declared.ExternalFutureState.{ExternalFutureState}
use Rattle.asyncio.specs.declared.GatherState.{GatherState}
use Rattle.asyncio.specs.declared.Object.{Object}
use Rattle.asyncio.specs.Limits.{object_limit, task_limit}
use Rattle.asyncio.specs.Numbers.{heap_id, task_id}
use Rattle.asyncio.specs.Ranges.{AwaiterFits}
use Rattle.asyncio.specs.Layout.{object_words, to_object, awaiter_words, to_awaiter, task_words, to_task}
use Rattle.asyncio.specs.Kinds.{kind, is_pending_gather}
use Rattle.asyncio.specs.States.{is_live}
use Rattle.machine.specs.Store.{Store, task, object, header, put_task, put_object, restate, absent}
use Rattle.machine.specs.Scheduler.{AwaitedGather, as_awaited, spawn_as}
use Rattle.machine.specs.Commit.{with_state}
use Rattle.machine_laws.specs.Views.{Sized}
use Rattle.machine_laws.specs.StoreLaws.{task-fits, object-fits, kind-put_object, live-put_task, task_put-other, object_put-other, object_put-object}
use Rattle.machine_laws.specs.DeliveryLaws.{absurd_some, awaited-fits}
use Rattle.machine_sessions.specs.Waits.Calls.{read_back}
use Rattle.machine_sessions.specs.Queue.Tracked.{spawn-row}
use Rattle.machine_sessions.specs.Places.Told.{task_back, coroutine_back}
use Rattle.machine_sessions.specs.Honest.Spawned.{Shape, new, is_used, spawn-task}
use Rattle.machine_sessions.specs.Honest.HonestWalk.{Goes, waits_on, completes, fails}
use Rattle.machine_sessions.specs.Honest.HonestCommit.{Closes, as_completed, as_failed}

-- not t, and into no gather of F
abbrev pub Away : ℕ → (ℕ → Bool) → Awaiter → Type 0
Away t F Awaiter.Nobody = Unit {0}
Away t F (Awaiter.Task v) = v.0 ≡ t → ⊥
Away t F (Awaiter.GatherSlot p x) = F p.0 ≡ false

-- a task's awaiter is a slot, or nobody; into a gather of F only if the task's coroutine is new
abbrev pub KidOf : (ℕ → Bool) → Awaiter → Shape → Type 0
KidOf F Awaiter.Nobody y = Unit {0}
KidOf F (Awaiter.Task v) y = ⊥
KidOf F (Awaiter.GatherSlot p x) y = F p.0 ≡ true → is_used y ≡ false

pub record Apart (t : ℕ) (F : ℕ → Bool) (N : ℕ → Shape) (u : Store) : Type 0 where
  pub pends : (g : ℕ) → is_pending_gather (kind (object u g)) ≡ true → F g ≡ true
  pub tops : (g : ℕ) (w : AwaitedGather) → as_awaited (object u g) ≡ some w → w.awaiter ≡ Awaiter.Task (task_id t) → F g ≡ true
  pub ups : (g : ℕ) (w : AwaitedGather) (p x : HeapId) → as_awaited (object u g) ≡ some w → w.awaiter ≡ Awaiter.GatherSlot p x → F p.0 ≡ true → F g ≡ true
  pub kids : (v : ℕ) → v < task_limit → is_live (task u v).state ≡ true → KidOf F (task u v).awaiter (N (task u v).coroutine.0)

awaiter_back : (a : Awaiter) → AwaiterFits a → to_awaiter (awaiter_words a).0 (awaiter_words a).1 (awaiter_words a).2 ≡ a
awaiter_back Awaiter.Nobody f = refl
awaiter_back (Awaiter.Task t) f = rw (mod-eq_of_lt f)
awaiter_back (Awaiter.GatherSlot g x) f = rw (mod-eq_of_lt f.0, mod-eq_of_lt f.1)

row_awaiter : (s : Store) (t : ℕ) (r : Task) → Sized s → t < task_limit → AwaiterFits r.awaiter → (task (put_task s t r) t).awaiter ≡ r.awaiter
row_awaiter s t r z l f = ap (λ (y : Task). y.awaiter) (task_back s t r z l) ∙ awaiter_back r.awaiter f

-- the awaiter of a gather's row as it is read back
back_awaiter : (f n : ℕ) (a : Awaiter) (y : GatherState) (w : AwaitedGather) → AwaiterFits a → Goes a y → as_awaited (to_object (object_words (Object.GatherFuture f n y))) ≡ some w → w.awaiter ≡ a
unfolding as_awaited
back_awaiter f n a _ w k (waits_on m) e = ap (λ (v : AwaitedGather). v.awaiter) (sym (some-injective _ w e)) ∙ awaiter_back a k
back_awaiter f n a _ w k completes e = absurd_some e
back_awaiter f n a _ w k (fails x) e = absurd_some e

goes-pending : (a : Awaiter) (f n : ℕ) (y : GatherState) → Goes a y → is_pending_gather (kind (Object.GatherFuture f n y)) ≡ false
unfolding kind
goes-pending a f n _ (waits_on m) = refl
goes-pending a f n _ completes = refl
goes-pending a f n _ (fails e) = refl

module _ (t : ℕ) (F : ℕ → Bool) (N : ℕ → Shape) where
  abbrev K : Store → Type 0
  K u = Apart t F N u

  -- where a delivery goes on to
  pub onward_away : (s : Store) (g x : HeapId) (w : AwaitedGather) → as_awaited (object s g.0) ≡ some w → Away t F (Awaiter.GatherSlot g x) → K s → Away t F w.awaiter
  onward_away s g x w e a k = by w.awaiter refl
    where
      clash : {B : Type 0} → F g.0 ≡ true → B
      clash q = absurd (true≢false (sym q ∙ a))

      same : (v : TaskId) → v.0 ≡ t → Awaiter.Task v ≡ Awaiter.Task (task_id t)
      same v q = ap (λ (m : ℕ). Awaiter.Task (task_id m)) q

      into : (p y : HeapId) → w.awaiter ≡ Awaiter.GatherSlot p y → (b : Bool) → F p.0 ≡ b → F p.0 ≡ false
      into p y q true d = clash (k.ups g.0 w p y e q d)
      into p y q false d = d

      by : (b : Awaiter) → w.awaiter ≡ b → Away t F b
      by Awaiter.Nobody q = tt
      by (Awaiter.Task v) q = λ d. clash (k.tops g.0 w e (q ∙ same v d))
      by (Awaiter.GatherSlot p y) q = into p y q (F p.0) refl

  -- the error of a task whose coroutine is not new
  pub kid_away : (a : Awaiter) (y : Shape) → is_used y ≡ true → KidOf F a y → Away t F a
  kid_away Awaiter.Nobody y u k = tt
  kid_away (Awaiter.Task v) y u k = absurd k
  kid_away (Awaiter.GatherSlot p x) y u k = by (F p.0) refl
    where
      by : (b : Bool) → F p.0 ≡ b → F p.0 ≡ false
      by true q = absurd (true≢false (sym u ∙ k q))
      by false q = q

  -- ---- each write

  -- tasks and objects as they were
  pub apart_like : (s u : Store) → ((o : ℕ) → object u o ≡ object s o) → ((v : ℕ) → task u v ≡ task s v) → K s → K u
  apart_like s u er et k =
      record {
        pends = λ g e. k.pends g (sym (ap (λ (y : Object). is_pending_gather (kind y)) (er g)) ∙ e);
        tops = λ g w e. k.tops g w (sym (ap as_awaited (er g)) ∙ e);
        ups = λ g w p x e. k.ups g w p x (sym (ap as_awaited (er g)) ∙ e);
        kids = λ v l e. subst (λ (r : Task). KidOf F r.awaiter (N r.coroutine.0)) (sym (et v)) (k.kids v l (sym (ap (λ (r : Task). is_live r.state) (et v)) ∙ e));
      }

  -- an object's row: pending or awaited only if it may be
  abbrev RowOk : Store → ℕ → Object → Type 0
  RowOk s g x = (is_pending_gather (kind x) ≡ true → F g ≡ true) × ((w : AwaitedGather) → as_awaited (to_object (object_words x)) ≡ some w → (F g ≡ true) ⊎ ((v : AwaitedGather) × (as_awaited (object s g) ≡ some v) × (w.awaiter ≡ v.awaiter)))

  pub row_apart : (s : Store) (g : ℕ) (x : Object) → Sized s → g < object_limit → RowOk s g x → K s → K (put_object s g x)
  row_apart s g x z l ok k =
      record {
        pends = λ o e. pends-by o e (ℕ_discrete o g);
        tops = λ o w e q. tops-by o w e q (ℕ_discrete o g);
        ups = λ o w p y e q d. ups-by o w p y e q d (ℕ_discrete o g);
        kids = λ v b e. unfold task put_object in (unfold task in (k.kids v b (unfold task put_object in e)));
      }
    where
      u : Store
      u = put_object s g x

      here : (w : AwaitedGather) → as_awaited (object u g) ≡ some w → (F g ≡ true) ⊎ ((v : AwaitedGather) × (as_awaited (object s g) ≡ some v) × (w.awaiter ≡ v.awaiter))
      here w e = ok.1 w (sym (ap as_awaited (read_back s g x z l)) ∙ e)

      pends-by : (o : ℕ) → is_pending_gather (kind (object u o)) ≡ true → Dec (o ≡ g) → F o ≡ true
      pends-by o e (yes q) = subst (λ (m : ℕ). F m ≡ true) (sym q) (ok.0 (sym (ap is_pending_gather (kind-put_object s g x z l)) ∙ subst (λ (m : ℕ). is_pending_gather (kind (object u m)) ≡ true) q e))
      pends-by o e (no ne) = k.pends o (sym (ap (λ (y : Object). is_pending_gather (kind y)) (object_put-other s g o x ne)) ∙ e)

      tops-by : (o : ℕ) (w : AwaitedGather) → as_awaited (object u o) ≡ some w → w.awaiter ≡ Awaiter.Task (task_id t) → Dec (o ≡ g) → F o ≡ true
      tops-by o w e q (yes d) = subst (λ (m : ℕ). F m ≡ true) (sym d) (by (here w (subst (λ (m : ℕ). as_awaited (object u m) ≡ some w) d e)))
        where
          by : (F g ≡ true) ⊎ ((v : AwaitedGather) × (as_awaited (object s g) ≡ some v) × (w.awaiter ≡ v.awaiter)) → F g ≡ true
          by (inl f) = f
          by (inr (v, a, b)) = k.tops g v a (sym b ∙ q)
      tops-by o w e q (no ne) = k.tops o w (sym (ap as_awaited (object_put-other s g o x ne)) ∙ e) q

      ups-by : (o : ℕ) (w : AwaitedGather) (p y : HeapId) → as_awaited (object u o) ≡ some w → w.awaiter ≡ Awaiter.GatherSlot p y → F p.0 ≡ true → Dec (o ≡ g) → F o ≡ true
      ups-by o w p y e q f (yes d) = subst (λ (m : ℕ). F m ≡ true) (sym d) (by (here w (subst (λ (m : ℕ). as_awaited (object u m) ≡ some w) d e)))
        where
          by : (F g ≡ true) ⊎ ((v : AwaitedGather) × (as_awaited (object s g) ≡ some v) × (w.awaiter ≡ v.awaiter)) → F g ≡ true
          by (inl f) = f
          by (inr (v, a, b)) = k.ups g v p y a (sym b ∙ q) f
      ups-by o w p y e q f (no ne) = k.ups o w p y (sym (ap as_awaited (object_put-other s g o x ne)) ∙ e) q f

  -- an awaited gather goes on
  pub goes-apart : (s : Store) (g : ℕ) (w : AwaitedGather) (y : GatherState) → Sized s → g < object_limit → as_awaited (object s g) ≡ some w → Goes w.awaiter y → K s
      → K (put_object s g (Object.GatherFuture w.first w.count y))
  goes-apart s g w y z l e go k =
      row_apart s g _ z l (
        (λ q. absurd (true≢false (sym q ∙ goes-pending w.awaiter w.first w.count y go))),
        (λ v q. inr (w, e, back_awaiter w.first w.count w.awaiter y v (awaited-fits s g w e).1.0 go q)),
      ) k

  -- a gather of F, in any state
  pub free-apart : (s : Store) (g : ℕ) (x : Object) → Sized s → g < object_limit → F g ≡ true → K s → K (put_object s g x)
  free-apart s g x z l f k = row_apart s g x z l ((λ q. f), (λ w q. inl f)) k

  -- an external
  pub external_apart : (s : Store) (o : ℕ) (c : CallId) (y : ExternalFutureState) → Sized s → o < object_limit → K s → K (put_object s o (Object.ExternalFuture c y))
  external_apart s o c y z l k = row_apart s o _ z l ((λ q. absurd (true≢false (sym q ∙ not-pending y))), (λ w q. absurd_some (sym (not-awaited y) ∙ q))) k
    where
      not-pending : (y : ExternalFutureState) → is_pending_gather (kind (Object.ExternalFuture c y)) ≡ false
      not-pending (ExternalFutureState.Pending a r) = unfold kind in refl
      not-pending (ExternalFutureState.Resolved v) = unfold kind in refl
      not-pending (ExternalFutureState.Failed e) = unfold kind in refl

      not-awaited : (y : ExternalFutureState) → as_awaited (to_object (object_words (Object.ExternalFuture c y))) ≡ none
      not-awaited (ExternalFutureState.Pending a r) = unfold as_awaited in refl
      not-awaited (ExternalFutureState.Resolved v) = unfold as_awaited in refl
      not-awaited (ExternalFutureState.Failed e) = unfold as_awaited in refl

  -- an object as it was
  same-apart : (s : Store) (o : ℕ) (x : Object) → Sized s → o < object_limit → object s o ≡ x → K s → K (put_object s o x)
  same-apart s o x z l e k = subst (λ (y : Object). K (put_object s o y)) e (apart_like s (put_object s o (object s o)) (λ p. by p (ℕ_discrete p o)) (λ v. unfold task put_object in refl) k)
    where
      by : (p : ℕ) → Dec (p ≡ o) → object (put_object s o (object s o)) p ≡ object s p
      by p (yes q) = subst (λ (m : ℕ). object (put_object s o (object s o)) m ≡ object s m) (sym q) (object_put-object s o (object s o) z l (object-fits s o))
      by p (no ne) = object_put-other s o p (object s o) ne

  -- a gather is completed, or fails
  pub closes_apart : (s : Store) (g : ℕ) (y : GatherState) → Sized s → g < object_limit → Closes y → K s → K (put_object s g (with_state (object s g) y))
  closes_apart s g y z l c k = by (object s g) refl
    where
      closed : (f n : ℕ) (y : GatherState) → Closes y → (is_pending_gather (kind (Object.GatherFuture f n y)) ≡ false) × (as_awaited (to_object (object_words (Object.GatherFuture f n y))) ≡ none)
      closed f n _ as_completed = (unfold kind in refl, unfold as_awaited in refl)
      closed f n _ (as_failed e) = (unfold kind in refl, unfold as_awaited in refl)

      by : (x : Object) → object s g ≡ x → K (put_object s g (with_state x y))
      by Object.Unmade e = unfold with_state in (same-apart s g _ z l e k)
      by (Object.Coroutine f x) e = unfold with_state in (same-apart s g _ z l e k)
      by (Object.ExternalFuture d x) e = unfold with_state in (same-apart s g _ z l e k)
      by (Object.GatherFuture f n x) e = unfold with_state in
          (row_apart s g _ z l ((λ q. absurd (true≢false (sym q ∙ (closed f n y c).0))), (λ w q. absurd_some (sym (closed f n y c).1 ∙ q))) k)

  -- a task's row: its awaiter and its coroutine stay
  pub state_apart : (s u : Store) (v : ℕ) (y : TaskState) → Sized s → v < task_limit → is_live (task s v).state ≡ true → ((o : ℕ) → object u o ≡ object s o) → ((m : ℕ) → task u m ≡ task (put_task s v (restate (task s v) y)) m) → K s → K u
  state_apart s u v y z l lv er et k =
      record {
        pends = λ g e. k.pends g (sym (ap (λ (x : Object). is_pending_gather (kind x)) (er g)) ∙ e);
        tops = λ g w e. k.tops g w (sym (ap as_awaited (er g)) ∙ e);
        ups = λ g w p x e. k.ups g w p x (sym (ap as_awaited (er g)) ∙ e);
        kids = λ m b e. by m b e (ℕ_discrete m v);
      }
    where
      r : Task
      r = restate (task s v) y

      its : (task u v).awaiter ≡ (task s v).awaiter
      its = ap (λ (x : Task). x.awaiter) (et v) ∙ (row_awaiter s v r z l (unfold restate in (task-fits s v).awaiter_fits) ∙ (unfold restate in refl))

      of-it : (task u v).coroutine.0 ≡ (task s v).coroutine.0
      of-it = ap (λ (x : Task). x.coroutine.0) (et v) ∙ (coroutine_back s v r z l (unfold restate in (task-fits s v).coroutine_fits) ∙ (unfold restate in refl))

      by : (m : ℕ) → m < task_limit → is_live (task u m).state ≡ true → Dec (m ≡ v) → KidOf F (task u m).awaiter (N (task u m).coroutine.0)
      by m b e (yes q) =
          subst (λ (x : ℕ). KidOf F (task u x).awaiter (N (task u x).coroutine.0)) (sym q)
          (subst (λ (a : Awaiter). KidOf F a (N (task u v).coroutine.0)) (sym its) (subst (λ (c : ℕ). KidOf F (task s v).awaiter (N c)) (sym of-it) (k.kids v l lv)))
      by m b e (no ne) =
          let same : task u m ≡ task s m = et m ∙ task_put-other s v m r ne in
          subst (λ (x : Task). KidOf F x.awaiter (N x.coroutine.0)) (sym same) (k.kids m b (sym (ap (λ (x : Task). is_live x.state) same) ∙ e))

  -- a task has gone
  pub gone-apart : (s u : Store) (v : ℕ) → Sized s → ((o : ℕ) → object u o ≡ object s o) → ((m : ℕ) → task u m ≡ task (put_task s v absent) m) → K s → K u
  unfolding absent
  gone-apart s u v z er et k =
      record {
        pends = λ g e. k.pends g (sym (ap (λ (x : Object). is_pending_gather (kind x)) (er g)) ∙ e);
        tops = λ g w e. k.tops g w (sym (ap as_awaited (er g)) ∙ e);
        ups = λ g w p x e. k.ups g w p x (sym (ap as_awaited (er g)) ∙ e);
        kids = λ m b e. by m b e (ℕ_discrete m v);
      }
    where
      by : (m : ℕ) → m < task_limit → is_live (task u m).state ≡ true → Dec (m ≡ v) → KidOf F (task u m).awaiter (N (task u m).coroutine.0)
      by m b e (yes q) =
          absurd (true≢false (sym e ∙ (ap (λ (x : Task). is_live x.state) (et m) ∙ subst (λ (x : ℕ). x < task_limit → is_live (task (put_task s v absent) x).state ≡ false) (sym q) (λ l. live-put_task s v absent z l) b)))
      by m b e (no ne) =
          let same : task u m ≡ task s m = et m ∙ task_put-other s v m absent ne in
          subst (λ (x : Task). KidOf F x.awaiter (N x.coroutine.0)) (sym same) (k.kids m b (sym (ap (λ (x : Task). is_live x.state) same) ∙ e))

  -- a task is spawned for a coroutine that is new
  pub spawn-apart : (s : Store) (c g f : ℕ) → Sized s → (header s).next < task_limit → c < object_limit → N c ≡ new f → ((o : ℕ) → object (spawn_as s (header s).next c g) o ≡ object s o) → K s
      → K (spawn_as s (header s).next c g)
  spawn-apart s c g f z l lc e er k =
      record {
        pends = λ o q. k.pends o (sym (ap (λ (x : Object). is_pending_gather (kind x)) (er o)) ∙ q);
        tops = λ o w q. k.tops o w (sym (ap as_awaited (er o)) ∙ q);
        ups = λ o w p x q. k.ups o w p x (sym (ap as_awaited (er o)) ∙ q);
        kids = λ v b q. by v b q (ℕ_discrete v n);
      }
    where
      n : ℕ
      n = (header s).next

      u : Store
      u = spawn_as s n c g

      r : Task
      r = record { state = TaskState.Unstarted; awaiter = Awaiter.GatherSlot (heap_id g) (heap_id c); coroutine = heap_id c }

      row : task u n ≡ to_task (task_words r)
      row = spawn-task s n c g n ∙ task_back s n r z l

      fresh : is_used (N (to_task (task_words r)).coroutine.0) ≡ false
      fresh = ap (λ (m : ℕ). is_used (N m)) (mod-eq_of_lt lc) ∙ ap is_used e

      by : (v : ℕ) → v < task_limit → is_live (task u v).state ≡ true → Dec (v ≡ n) → KidOf F (task u v).awaiter (N (task u v).coroutine.0)
      by v b q (yes d) =
          subst (λ (m : ℕ). KidOf F (task u m).awaiter (N (task u m).coroutine.0)) (sym d) (subst (λ (x : Task). KidOf F x.awaiter (N x.coroutine.0)) (sym row) (λ y. fresh))
      by v b q (no ne) =
          let same : task u v ≡ task s v = spawn-row s n c g v ne in
          subst (λ (x : Task). KidOf F x.awaiter (N x.coroutine.0)) (sym same) (k.kids v b (sym (ap (λ (x : Task). is_live x.state) same) ∙ q))
