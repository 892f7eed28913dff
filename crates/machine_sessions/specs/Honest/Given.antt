-- What waiting tasks are given: a blocked task waits for what it awaited last, a woken one has what came of it. The claim, `Given`, and each write (no soundness asked).
use Rattle.std.specs.Prelude.{◌≡◌, ◌⊎◌, true, false, List, ℕ, ◌+◌, ◌≤◌, ◌<◌, length}
use Rattle.std.proofs.Math.Path.{refl, ap, subst}
use Rattle.std.proofs.Common.{sym, ◌∙◌, inl, inr, true≢false, not-suc-le-zero}
use Rattle.std.proofs.Math.Option.{Option, none, some}
use native.Mathlib.Omega.{arith}
use Rattle.std.proofs.Math.Decide.{ℕ_discrete}
use Rattle.asyncio.specs.declared.Value.{Value}
use Rattle.asyncio.specs.declared.Error.{Error}
use Rattle.std.specs.Prelude.{None}
use Rattle.asyncio.specs.declared.Awaiter.{Awaiter}
use Rattle.asyncio.specs.declared.TaskState.{TaskState}
use Rattle.asyncio.specs.declared.Task.{Task}
use Rattle.asyncio.specs.declared.CoroutineState.{CoroutineState}
use Rattle.asyncio.specs.declared.ExternalFutureState.{ExternalFutureState}
use Rattle.asyncio.specs.declared.GatherState.{GatherState}
use Rattle.asyncio.specs.declared.Object.{Object}
use Rattle.asyncio.specs.declared.Place.{Place}
use Rattle.asyncio.specs.declared.Header.{Header}
use Rattle.asyncio.specs.declared.Moment.{Moment}
use Rattle.asyncio.specs.Limits.{object_limit, task_limit, places_length}
use Rattle.asyncio.specs.Numbers.{heap_id, call_id}
use Rattle.asyncio.specs.Ranges.{AwaiterFits, ValueFits, ErrorFits, StateFits, TaskFits, HeaderFits, MomentFits}
use Rattle.asyncio.specs.RangeLaws.{object_back}
use Rattle.asyncio.specs.Layout.{object_words, to_object}
use Rattle.asyncio.specs.States.{is_live}
use Rattle.queue.specs.declared.ReadyQueue.{ReadyQueue}
use Rattle.machine.specs.Store.{Store, LogEntry, task, object, header, put_task, put_header, put_object, put_place, put_places, put_queue, add_log, restate, set_state, set_moment, set_next, absent, spawned}
use Rattle.machine.specs.Scheduler.{blocked_on, push_ready, remove_from_ready_queue, remove_task, spawn_as}
use Rattle.machine_laws.specs.Views.{Sized}
use Rattle.machine_laws.specs.StoreLaws.{task-fits, header-fits, header_put-header, header_put-object, object_put-other, object_put-header, task_put-task, task_put-other}
use Rattle.machine_laws.specs.StoreLaws.{sized-put_task, sized-put_object, sized-put_place, sized-put_header, sized-put_places, sized-put_queue, sized-add_log, sized-set_next}
use Rattle.machine_sessions.specs.Waits.Calls.{read_back}

-- ---- the fate of an object, by its row

pub data Fate : Type 0 where
  -- nothing has come of it, and no task waits for it
  loose : Fate
  -- a task waits for it
  held : ℕ → Fate
  ret : Value → Fate
  err : Error → Fate

unfoldable pub holder : Awaiter → Fate
holder Awaiter.Nobody = loose
holder (Awaiter.Task t) = held t.0
holder (Awaiter.GatherSlot g x) = loose

unfoldable pub fate : ℕ → Object → Fate
fate o Object.Unmade = loose
fate o (Object.Coroutine f x) = loose
fate o (Object.ExternalFuture c (ExternalFutureState.Pending a r)) = holder a
fate o (Object.ExternalFuture c (ExternalFutureState.Resolved v)) = ret v
fate o (Object.ExternalFuture c (ExternalFutureState.Failed e)) = err e
fate o (Object.GatherFuture f n GatherState.Pending) = loose
fate o (Object.GatherFuture f n (GatherState.Awaited a m)) = holder a
fate o (Object.GatherFuture f n GatherState.Completed) = ret (Value.List (heap_id o))
fate o (Object.GatherFuture f n (GatherState.Failed e)) = err e

-- what of a row must fit for its fate to be read back
abbrev pub FateFits : Object → Type 0
FateFits Object.Unmade = Unit {0}
FateFits (Object.Coroutine f x) = Unit {0}
FateFits (Object.ExternalFuture c (ExternalFutureState.Pending a r)) = AwaiterFits a
FateFits (Object.ExternalFuture c (ExternalFutureState.Resolved v)) = ValueFits v
FateFits (Object.ExternalFuture c (ExternalFutureState.Failed e)) = ErrorFits e
FateFits (Object.GatherFuture f n GatherState.Pending) = Unit {0}
FateFits (Object.GatherFuture f n (GatherState.Awaited a m)) = AwaiterFits a
FateFits (Object.GatherFuture f n GatherState.Completed) = Unit {0}
FateFits (Object.GatherFuture f n (GatherState.Failed e)) = ErrorFits e

pub fate_back : (o : ℕ) (x : Object) → FateFits x → fate o (to_object (object_words x)) ≡ fate o x
unfolding fate
fate_back o Object.Unmade f = refl
fate_back o (Object.Coroutine g CoroutineState.New) f = refl
fate_back o (Object.Coroutine g CoroutineState.Running) f = refl
fate_back o (Object.Coroutine g CoroutineState.Completed) f = refl
fate_back o (Object.ExternalFuture c (ExternalFutureState.Pending a r)) f = ap (fate o) (object_back (Object.ExternalFuture (call_id 0) (ExternalFutureState.Pending a None)) (omega arith, (f, tt)))
fate_back o (Object.ExternalFuture c (ExternalFutureState.Resolved v)) f = ap (fate o) (object_back (Object.ExternalFuture (call_id 0) (ExternalFutureState.Resolved v)) (omega arith, f))
fate_back o (Object.ExternalFuture c (ExternalFutureState.Failed e)) f = ap (fate o) (object_back (Object.ExternalFuture (call_id 0) (ExternalFutureState.Failed e)) (omega arith, f))
fate_back o (Object.GatherFuture i n GatherState.Pending) f = refl
fate_back o (Object.GatherFuture i n (GatherState.Awaited a m)) f =
    ap (fate o) (object_back (Object.GatherFuture 0 0 (GatherState.Awaited a 0)) (record { within = omega arith; at_most = omega arith }, (f, omega arith)))
fate_back o (Object.GatherFuture i n GatherState.Completed) f = refl
fate_back o (Object.GatherFuture i n (GatherState.Failed e)) f =
    ap (fate o) (object_back (Object.GatherFuture 0 0 (GatherState.Failed e)) (record { within = omega arith; at_most = omega arith }, f))

-- something has come of it
abbrev pub Came : Fate → Type 0
Came loose = ⊥
Came (held t) = ⊥
Came (ret v) = Unit {0}
Came (err e) = Unit {0}

-- task t waits for it, or something has come of it
abbrev pub Awaits : ℕ → Fate → Type 0
Awaits t loose = ⊥
Awaits t (held u) = u ≡ t
Awaits t (ret v) = Unit {0}
Awaits t (err e) = Unit {0}

-- no task waits for it
abbrev pub Unheld : Fate → Type 0
Unheld loose = Unit {0}
Unheld (held t) = ⊥
Unheld (ret v) = Unit {0}
Unheld (err e) = Unit {0}

pub came_awaits : (t : ℕ) (y : Fate) → Came y → Awaits t y
came_awaits t loose k = k
came_awaits t (held u) k = absurd k
came_awaits t (ret v) k = tt
came_awaits t (err e) k = tt

pub came_unheld : (y : Fate) → Came y → Unheld y
came_unheld loose k = tt
came_unheld (held u) k = k
came_unheld (ret v) k = tt
came_unheld (err e) k = tt

pub held-is : (t u : ℕ) → held t ≡ held u → t ≡ u
held-is t u e = cc

pub not-held : {A : Type 0} (t : ℕ) (y : Fate) → Unheld y → y ≡ held t → A
not-held t y k e = absurd (subst Unheld e k)

-- ---- the claim

-- of one task: w is what it waits for, F has the fates
abbrev pub StateIs : Option ℕ → (ℕ → Fate) → ℕ → TaskState → Type 0
StateIs w F t TaskState.Absent = Unit {0}
StateIs w F t TaskState.Unstarted = w ≡ none
StateIs w F t TaskState.Running = (o : ℕ) → w ≡ some o → Came (F o)
StateIs w F t (TaskState.Woken v) = (o : ℕ) × (w ≡ some o) × (F o ≡ ret v)
StateIs w F t (TaskState.Raised e) = (o : ℕ) × (w ≡ some o) × (F o ≡ err e)
StateIs w F t (TaskState.Blocked b) = (w ≡ some b.0) × (F b.0 ≡ held t)

-- a task's result goes to no task
abbrev pub NoTask : Awaiter → Type 0
NoTask Awaiter.Nobody = Unit {0}
NoTask (Awaiter.Task t) = ⊥
NoTask (Awaiter.GatherSlot g x) = Unit {0}

-- W has what each task awaited last, if that await left it waiting. Tasks of E are excepted (something is on its way to them); where Z holds of an object
-- and a task, the task is its awaiter and has not blocked yet.
pub record Given (W : ℕ → Option ℕ) (E : ℕ → Type 0) (Z : ℕ → ℕ → Type 0) (u : Store) : Type 0 where
  pub sized : Sized u
  pub fates : (t o : ℕ) → W t ≡ some o → Awaits t (fate o (object u o))
  pub states : (t : ℕ) → t < task_limit → (E t → ⊥) → StateIs (W t) (λ o. fate o (object u o)) t (task u t).state
  pub holders : (o t : ℕ) → fate o (object u o) ≡ held t → is_live (task u t).state ≡ true → (blocked_on (task u t).state ≡ some o) ⊎ Z o t
  pub low : (o t : ℕ) → fate o (object u o) ≡ held t → t < (header u).next
  pub unborn : (t : ℕ) → (header u).next ≤ t → W t ≡ none
  pub slots : (t : ℕ) → t < task_limit → NoTask (task u t).awaiter

-- no task is excepted
abbrev pub NoneBut : ℕ → Type 0
NoneBut t = ⊥

abbrev pub NoneYet : ℕ → ℕ → Type 0
NoneYet o t = ⊥

-- nobody waits for object o
abbrev pub Unwaited : (ℕ → Option ℕ) → ℕ → Type 0
Unwaited W o = (t : ℕ) → W t ≡ some o → ⊥

state_map : (w : Option ℕ) (F G : ℕ → Fate) (t : ℕ) (x : TaskState) → ((o : ℕ) → w ≡ some o → G o ≡ F o) → StateIs w F t x → StateIs w G t x
state_map w F G t TaskState.Absent e k = tt
state_map w F G t TaskState.Unstarted e k = k
state_map w F G t TaskState.Running e k = λ o q. subst Came (sym (e o q)) (k o q)
state_map w F G t (TaskState.Woken v) e k = (k.0, k.1, e k.0 k.1 ∙ k.2)
state_map w F G t (TaskState.Raised x) e k = (k.0, k.1, e k.0 k.1 ∙ k.2)
state_map w F G t (TaskState.Blocked b) e k = (k.0, e b.0 k.0 ∙ k.1)

module _ (W : ℕ → Option ℕ) where
  -- fewer are excepted
  pub given_less : {E D : ℕ → Type 0} {Z : ℕ → ℕ → Type 0} (s : Store) → ((t : ℕ) → (D t → ⊥) → E t → ⊥) → Given W E Z s → Given W D Z s
  given_less s f k =
      record {
        sized = k.sized;
        fates = k.fates;
        states = λ t l n. k.states t l (f t n);
        holders = k.holders;
        low = k.low;
        unborn = k.unborn;
        slots = k.slots;
      }

  -- what no task waits for
  pub loose_unwaited : {E : ℕ → Type 0} {Z : ℕ → ℕ → Type 0} (s : Store) (o : ℕ) → fate o (object s o) ≡ loose → Given W E Z s → Unwaited W o
  loose_unwaited s o e k = λ t q. subst (Awaits t) e (k.fates t o q)

  -- rows as they were
  pub given_like : {E : ℕ → Type 0} {Z : ℕ → ℕ → Type 0} (s u : Store) → Sized u → (header u).next ≡ (header s).next → ((o : ℕ) → object u o ≡ object s o) → ((t : ℕ) → task u t ≡ task s t) → Given W E Z s → Given W E Z u
  given_like {E} {Z} s u z nx os ts k =
      record {
        sized = z;
        fates = λ t o e. subst (Awaits t) (sym (same o)) (k.fates t o e);
        states = λ t l n. subst (λ (r : Task). StateIs (W t) (λ o. fate o (object u o)) t r.state) (sym (ts t)) (state_map (W t) _ _ t (task s t).state (λ o e. same o) (k.states t l n));
        holders = λ o t e l. subst (λ (r : Task). (blocked_on r.state ≡ some o) ⊎ Z o t) (sym (ts t)) (k.holders o t (sym (same o) ∙ e) (sym (ap (λ (r : Task). is_live r.state) (ts t)) ∙ l));
        low = λ o t e. subst (λ (n : ℕ). t < n) (sym nx) (k.low o t (sym (same o) ∙ e));
        unborn = λ t l. k.unborn t (subst (λ (n : ℕ). n ≤ t) nx l);
        slots = λ t l. subst (λ (r : Task). NoTask r.awaiter) (sym (ts t)) (k.slots t l);
      }
    where
      same : (o : ℕ) → fate o (object u o) ≡ fate o (object s o)
      same o = ap (fate o) (os o)

  -- ---- an object's row

  -- y is its fate from now on: what has come of it stays, and of tasks that wait for it those of D are excepted
  pub row-given : {E : ℕ → Type 0} {Z : ℕ → ℕ → Type 0} (D : ℕ → Type 0) (s : Store) (o : ℕ) (x : Object) (y : Fate) → o < object_limit → fate o (to_object (object_words x)) ≡ y
      → ((t : ℕ) → W t ≡ some o → Awaits t y) → ((t : ℕ) → (D t → ⊥) → W t ≡ some o → y ≡ fate o (object s o))
      → ((t : ℕ) → y ≡ held t → (fate o (object s o) ≡ held t) ⊎ (Z o t × (t < (header s).next))) → ((t : ℕ) → (D t → ⊥) → E t → ⊥)
      → Given W E Z s → Given W D Z (put_object s o x)
  row-given {E} {Z} D s o x y l b stay keep hold less k =
      record {
        sized = sized-put_object s o x k.sized;
        fates = λ t p e. fates-by t p e (ℕ_discrete p o);
        states = λ t m n. unfold task put_object in (unfold task in (state_map (W t) _ _ t (task s t).state (λ p e. row_by t n p e (ℕ_discrete p o)) (k.states t m (less t n))));
        holders = λ p t e v. unfold task put_object in (unfold task in (holders-by p t e (unfold task put_object in v) (ℕ_discrete p o)));
        low = λ p t e. subst (λ (h : Header). t < h.next) (sym (header_put-object s o x)) (low_by p t e (ℕ_discrete p o));
        unborn = λ t m. k.unborn t (subst (λ (h : Header). h.next ≤ t) (header_put-object s o x) m);
        slots = λ t m. unfold task put_object in (unfold task in (k.slots t m));
      }
    where
      u : Store
      u = put_object s o x

      here : fate o (object u o) ≡ y
      here = ap (fate o) (read_back s o x k.sized l) ∙ b

      other : (p : ℕ) → (p ≡ o → ⊥) → fate p (object u p) ≡ fate p (object s p)
      other p ne = ap (fate p) (object_put-other s o p x ne)

      at : (p : ℕ) → p ≡ o → fate p (object u p) ≡ y
      at p d = subst (λ (m : ℕ). fate m (object u m) ≡ y) (sym d) here

      fates-by : (t p : ℕ) → W t ≡ some p → Dec (p ≡ o) → Awaits t (fate p (object u p))
      fates-by t p e (yes d) = subst (Awaits t) (sym (at p d)) (stay t (e ∙ ap (λ (m : ℕ). some m) d))
      fates-by t p e (no ne) = subst (Awaits t) (sym (other p ne)) (k.fates t p e)

      row_by : (t : ℕ) → (D t → ⊥) → (p : ℕ) → W t ≡ some p → Dec (p ≡ o) → fate p (object u p) ≡ fate p (object s p)
      row_by t n p e (yes d) = at p d ∙ subst (λ (m : ℕ). y ≡ fate m (object s m)) (sym d) (keep t n (e ∙ ap (λ (m : ℕ). some m) d))
      row_by t n p e (no ne) = other p ne

      was : (p t : ℕ) → fate p (object u p) ≡ held t → Dec (p ≡ o) → (fate p (object s p) ≡ held t) ⊎ (Z p t × (t < (header s).next))
      was p t e (yes d) = subst (λ (m : ℕ). (fate m (object s m) ≡ held t) ⊎ (Z m t × (t < (header s).next))) (sym d) (hold t (sym (at p d) ∙ e))
      was p t e (no ne) = inl (sym (other p ne) ∙ e)

      holders-by : (p t : ℕ) → fate p (object u p) ≡ held t → is_live (task s t).state ≡ true → Dec (p ≡ o) → (blocked_on (task s t).state ≡ some p) ⊎ Z p t
      holders-by p t e v d = by (was p t e d)
        where
          by : (fate p (object s p) ≡ held t) ⊎ (Z p t × (t < (header s).next)) → (blocked_on (task s t).state ≡ some p) ⊎ Z p t
          by (inl q) = k.holders p t q v
          by (inr q) = inr q.0

      low_by : (p t : ℕ) → fate p (object u p) ≡ held t → Dec (p ≡ o) → t < (header s).next
      low_by p t e d = by (was p t e d)
        where
          by : (fate p (object s p) ≡ held t) ⊎ (Z p t × (t < (header s).next)) → t < (header s).next
          by (inl q) = k.low p t q
          by (inr q) = q.1

  -- one that nobody waits for
  pub unwaited_given : {E : ℕ → Type 0} {Z : ℕ → ℕ → Type 0} (s : Store) (o : ℕ) (x : Object) → o < object_limit → FateFits x → Unwaited W o
      → ((t : ℕ) → fate o x ≡ held t → (fate o (object s o) ≡ held t) ⊎ (Z o t × (t < (header s).next))) → Given W E Z s → Given W E Z (put_object s o x)
  unwaited_given {E} s o x l f p h k = row-given E s o x (fate o x) l (fate_back o x f) (λ t e. absurd (p t e)) (λ t n e. absurd (p t e)) h (λ t n. n) k

  -- one whose fate stays
  pub same-given : {E : ℕ → Type 0} {Z : ℕ → ℕ → Type 0} (s : Store) (o : ℕ) (x : Object) → o < object_limit → FateFits x → fate o x ≡ fate o (object s o) → Given W E Z s → Given W E Z (put_object s o x)
  same-given {E} s o x l f e k =
      row-given E s o x (fate o x) l (fate_back o x f) (λ t q. subst (Awaits t) (sym e) (k.fates t o q)) (λ t n q. e) (λ t q. inl (sym e ∙ q)) (λ t n. n) k

  -- ---- a task's row

  pub task-given : {E : ℕ → Type 0} {Z : ℕ → ℕ → Type 0} (D : ℕ → Type 0) (s : Store) (t : ℕ) (r : Task) → TaskFits r
      → ((D t → ⊥) → StateIs (W t) (λ o. fate o (object s o)) t r.state)
      → ((o : ℕ) → fate o (object s o) ≡ held t → is_live r.state ≡ true → (blocked_on r.state ≡ some o) ⊎ Z o t)
      → NoTask r.awaiter → ((v : ℕ) → (v ≡ t → ⊥) → (D v → ⊥) → E v → ⊥) → Given W E Z s → Given W D Z (put_task s t r)
  task-given {E} {Z} D s t r f st ho aw less k =
      record {
        sized = sized-put_task s t r k.sized;
        fates = λ v o e. unfold object put_task in (unfold object in (k.fates v o e));
        states = λ v l n. unfold object put_task in (unfold object in (states-by v l n (ℕ_discrete v t)));
        holders = λ o v e l. holders-by o v (unfold object put_task in e) l (ℕ_discrete v t);
        low = λ o v e. unfold header put_task in (unfold header in (k.low o v (unfold object put_task in e)));
        unborn = λ v l. k.unborn v (unfold header put_task in l);
        slots = λ v l. slots-by v l (ℕ_discrete v t);
      }
    where
      u : Store
      u = put_task s t r

      at : (v : ℕ) → v < task_limit → v ≡ t → task u v ≡ r
      at v l d = subst (λ (m : ℕ). task u m ≡ r) (sym d) (task_put-task s t r k.sized (subst (λ (m : ℕ). m < task_limit) d l) f)

      other : (v : ℕ) → (v ≡ t → ⊥) → task u v ≡ task s v
      other v ne = task_put-other s t v r ne

      states-by : (v : ℕ) → v < task_limit → (D v → ⊥) → Dec (v ≡ t) → StateIs (W v) (λ o. fate o (object s o)) v (task u v).state
      states-by v l n (yes d) =
          subst (λ (y : Task). StateIs (W v) (λ o. fate o (object s o)) v y.state) (sym (at v l d))
          (subst (λ (m : ℕ). StateIs (W m) (λ o. fate o (object s o)) m r.state) (sym d) (st (subst (λ (m : ℕ). D m → ⊥) d n)))
      states-by v l n (no ne) = subst (λ (y : Task). StateIs (W v) (λ o. fate o (object s o)) v y.state) (sym (other v ne)) (k.states v l (less v ne n))

      holders-by : (o v : ℕ) → fate o (object s o) ≡ held v → is_live (task u v).state ≡ true → Dec (v ≡ t) → (blocked_on (task u v).state ≡ some o) ⊎ Z o v
      holders-by o v e l (yes d) =
          let b : v < task_limit = omega (arith, k.low o v e, (header-fits s).next_fits) in
          subst (λ (y : Task). (blocked_on y.state ≡ some o) ⊎ Z o v) (sym (at v b d))
          (subst (λ (m : ℕ). (blocked_on r.state ≡ some o) ⊎ Z o m) (sym d) (ho o (subst (λ (m : ℕ). fate o (object s o) ≡ held m) d e) (sym (ap (λ (y : Task). is_live y.state) (at v b d)) ∙ l)))
      holders-by o v e l (no ne) =
          subst (λ (y : Task). (blocked_on y.state ≡ some o) ⊎ Z o v) (sym (other v ne)) (k.holders o v e (sym (ap (λ (y : Task). is_live y.state) (other v ne)) ∙ l))

      slots-by : (v : ℕ) → v < task_limit → Dec (v ≡ t) → NoTask (task u v).awaiter
      slots-by v l (yes d) = subst (λ (y : Task). NoTask y.awaiter) (sym (at v l d)) aw
      slots-by v l (no ne) = subst (λ (y : Task). NoTask y.awaiter) (sym (other v ne)) (k.slots v l)

  -- a task's state
  pub state_given : {E : ℕ → Type 0} {Z : ℕ → ℕ → Type 0} (D : ℕ → Type 0) (s : Store) (t : ℕ) (x : TaskState) → t < task_limit → StateFits x
      → ((D t → ⊥) → StateIs (W t) (λ o. fate o (object s o)) t x)
      → ((o : ℕ) → fate o (object s o) ≡ held t → is_live x ≡ true → (blocked_on x ≡ some o) ⊎ Z o t)
      → ((v : ℕ) → (v ≡ t → ⊥) → (D v → ⊥) → E v → ⊥) → Given W E Z s → Given W D Z (set_state s t x)
  unfolding set_state restate
  state_given D s t x l f st ho less k =
      task-given D s t (record { state = x; awaiter = (task s t).awaiter; coroutine = (task s t).coroutine }) (record { state_fits = f; awaiter_fits = (task-fits s t).awaiter_fits; coroutine_fits = (task-fits s t).coroutine_fits }) st ho (k.slots t l) less k

  pub absent-given : {E : ℕ → Type 0} {Z : ℕ → ℕ → Type 0} (s : Store) (t : ℕ) → Given W E Z s → Given W E Z (put_task s t absent)
  unfolding absent
  absent-given {E} s t k =
      task-given E s t _ (record { state_fits = tt; awaiter_fits = tt; coroutine_fits = omega arith }) (λ n. tt) (λ o e l. absurd (true≢false (sym l))) tt (λ v ne n. n) k

  -- ---- the rest

  pub queue_given : {E : ℕ → Type 0} {Z : ℕ → ℕ → Type 0} (s : Store) (q : ReadyQueue) → Given W E Z s → Given W E Z (put_queue s q)
  queue_given s q k = given_like s (put_queue s q) (sized-put_queue s q k.sized) (unfold header put_queue in refl) (λ o. unfold object put_queue in refl) (λ t. unfold task put_queue in refl) k

  pub log-given : {E : ℕ → Type 0} {Z : ℕ → ℕ → Type 0} (s : Store) (x : LogEntry) → Given W E Z s → Given W E Z (add_log s x)
  log-given s x k = given_like s (add_log s x) (sized-add_log s x k.sized) (unfold header add_log in refl) (λ o. unfold object add_log in refl) (λ t. unfold task add_log in refl) k

  pub places-given : {E : ℕ → Type 0} {Z : ℕ → ℕ → Type 0} (s : Store) (ps : List ℕ) → length ps ≡ places_length → Given W E Z s → Given W E Z (put_places s ps)
  places-given s ps e k = given_like s (put_places s ps) (sized-put_places s ps e k.sized) (unfold header put_places in refl) (λ o. unfold object put_places in refl) (λ t. unfold task put_places in refl) k

  pub place-given : {E : ℕ → Type 0} {Z : ℕ → ℕ → Type 0} (s : Store) (p : ℕ) (x : Place) → Given W E Z s → Given W E Z (put_place s p x)
  place-given s p x k = given_like s (put_place s p x) (sized-put_place s p x k.sized) (unfold header put_place in refl) (λ o. unfold object put_place in refl) (λ t. unfold task put_place in refl) k

  pub header-given : {E : ℕ → Type 0} {Z : ℕ → ℕ → Type 0} (s : Store) (h : Header) → HeaderFits h → h.next ≡ (header s).next → Given W E Z s → Given W E Z (put_header s h)
  header-given s h f e k =
      given_like s (put_header s h) (sized-put_header s h k.sized) (ap (λ (y : Header). y.next) (header_put-header s h k.sized f) ∙ e) (λ o. object_put-header s h o) (λ t. unfold task put_header in refl) k

  pub moved-given : {E : ℕ → Type 0} {Z : ℕ → ℕ → Type 0} (s : Store) (m : Moment) → MomentFits m → Given W E Z s → Given W E Z (set_moment s m)
  unfolding set_moment
  moved-given s m f k = let g : HeaderFits (header s) = header-fits s in header-given s _ (record { made_fits = g.made_fits; used_fits = g.used_fits; calls_fit = g.calls_fit; next_fits = g.next_fits; moment_fits = f }) refl k

  pub gone-given : {E : ℕ → Type 0} {Z : ℕ → ℕ → Type 0} (s : Store) (t : ℕ) (x : LogEntry) → Given W E Z s → Given W E Z (add_log (remove_task s t) x)
  unfolding remove_task remove_from_ready_queue
  gone-given s t x k = log-given _ x (queue_given _ _ (absent-given s t k))

  -- a task more
  next-given : {E : ℕ → Type 0} {Z : ℕ → ℕ → Type 0} (s : Store) → (header s).next + 1 ≤ task_limit → Given W E Z s → Given W E Z (set_next s ((header s).next + 1))
  next-given s f k =
      record {
        sized = sized-set_next s _ k.sized;
        fates = λ t o e. subst (λ (x : Object). Awaits t (fate o x)) (sym (rows o)) (k.fates t o e);
        states = λ t l n. unfold task set_next put_header in (unfold task in (state_map (W t) _ _ t (task s t).state (λ o e. ap (fate o) (rows o)) (k.states t l n)));
        holders = λ o t e l. unfold task set_next put_header in (unfold task in (k.holders o t (sym (ap (fate o) (rows o)) ∙ e) (unfold task set_next put_header in l)));
        low = λ o t e. subst (λ (m : ℕ). t < m) (sym head) (omega (arith, k.low o t (sym (ap (fate o) (rows o)) ∙ e)));
        unborn = λ t l. k.unborn t (omega (arith, subst (λ (m : ℕ). m ≤ t) head l));
        slots = λ t l. unfold task set_next put_header in (unfold task in (k.slots t l));
      }
    where
      rows : (o : ℕ) → object (set_next s ((header s).next + 1)) o ≡ object s o
      rows o = unfold set_next in (object_put-header s _ o)

      head : (header (set_next s ((header s).next + 1))).next ≡ (header s).next + 1
      head =
          let g : HeaderFits (header s) = header-fits s in
          unfold set_next in (ap (λ (h : Header). h.next) (header_put-header s _ k.sized (record { made_fits = g.made_fits; used_fits = g.used_fits; calls_fit = g.calls_fit; next_fits = f; moment_fits = g.moment_fits })))

  pub spawns-given : {E : ℕ → Type 0} {Z : ℕ → ℕ → Type 0} (s : Store) (c g : ℕ) → (header s).next < task_limit → c < object_limit → g < object_limit → Given W E Z s → Given W E Z (spawn_as s (header s).next c g)
  unfolding spawn_as push_ready
  spawns-given {E} {Z} s c g l m n k = log-given _ (spawned (header s).next c) (queue_given _ _ more)
    where
      r : Task
      r = record { state = TaskState.Unstarted; awaiter = Awaiter.GatherSlot (heap_id g) (heap_id c); coroutine = heap_id c }

      u : Store
      u = put_task s (header s).next r

      same_next : (header u).next ≡ (header s).next
      same_next = unfold header put_task in refl

      k1 : Given W E Z u
      k1 =
          task-given E s (header s).next r (record { state_fits = tt; awaiter_fits = (n, m); coroutine_fits = m }) (λ x. k.unborn (header s).next (omega arith))
          (λ o e x. absurd (not-suc-le-zero {n = 0} (omega (arith, k.low o (header s).next e)))) tt (λ v ne x. x) k

      more : Given W E Z (set_next u ((header s).next + 1))
      more = subst (λ (x : ℕ). Given W E Z (set_next u (x + 1))) same_next (next-given u (omega (arith, l, same_next)) k1)
