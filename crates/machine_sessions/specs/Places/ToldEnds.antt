-- What a switch leaves: `Told`, with the coroutine that its answer starts; and who runs is who the answer says.
use Rattle.std.specs.Prelude.{◌≡◌, Bool, false, List, [], ◌∷◌, eqb}
use Rattle.std.proofs.Math.Path.{refl, ap, subst}
use Rattle.std.proofs.Common.{sym, ap₂, ◌∙◌, true≢false, not-suc-le-zero, arith, eq-eqb, ne_eqb}
use Rattle.std.proofs.Math.Bool.{true}
use Rattle.std.proofs.Math.Option.{Option, none, some, some-injective}
use Prim.Native.Nat.{ℕ, zero, suc, ◌+◌, ◌≤◌, ◌<◌}
use Rattle.std.proofs.Math.Decide.{ℕ_discrete}
use Rattle.asyncio.specs.declared.TaskId.{TaskId}
use Rattle.asyncio.specs.declared.Value.{Value}
use Rattle.asyncio.specs.declared.Error.{Error}
use Rattle.asyncio.specs.Options.{OptionValue}
use Rattle.std.specs.Prelude.{None, Some}
use Rattle.asyncio.specs.declared.TaskState.{TaskState}
use Rattle.asyncio.specs.declared.Task.{Task}
use Rattle.asyncio.specs.declared.Awaiter.{Awaiter}
use Rattle.asyncio.specs.declared.CoroutineState.{CoroutineState}
use Rattle.asyncio.specs.declared.Object.{Object}
use Rattle.asyncio.specs.declared.Place.{Place}
use Rattle.asyncio.specs.declared.Moment.{Moment}
use Rattle.asyncio.specs.declared.Header.{Header}
use Rattle.asyncio.specs.Limits.{object_limit, task_limit}
use Rattle.asyncio.specs.Numbers.{heap_id, task_id}
use Rattle.asyncio.specs.Parts.{awaiter_of}
use Rattle.asyncio.specs.States.{is_live, is_unstarted}
use Rattle.machine.specs.Store.{Store, task, object, place, header, put_object, put_task, restate, set_state, set_moment}
use Rattle.machine.specs.Events.{How, start, value, raises, inline, Control, runs, waits, Switched, run, yield, new_function}
use Rattle.machine.specs.History.{started_by, runner_by}
use Rattle.machine_laws.specs.Views.{Sized}
use Rattle.machine_laws.specs.StoreLaws.{task-fits, sized-set_state}
use Rattle.machine_laws.specs.Walk.{Turns, starts}
use Rattle.machine_sessions.specs.Stall.Standing.{moment_head}
use Rattle.machine_sessions.specs.Places.Told.{Frozen, unmade, co, pends, gave, broke, many, frozen, told, EndsTask, TaskTold, Holds, Told, row_told, turns-told, moved_told, state_told, task-told}
use Rattle.machine_sessions.specs.Places.Telling.{new-object, EndsOrReuse, waited, started, woke, raised_it}

-- ---- the same, in other words

pub told_same : (D E : ℕ → Option Value) (o : ℕ) (x : Frozen) → E o ≡ D o → told E o x ≡ told D o x
unfolding told
told_same D E o unmade e = refl
told_same D E o (co b) e = e
told_same D E o (pends c r) e = refl
told_same D E o (gave v) e = refl
told_same D E o (broke x) e = refl
told_same D E o (many f n) e = refl

holds_same : (q p : ℕ → Frozen) (D E : ℕ → Option Value) (o : ℕ) (x : OptionValue) → p o ≡ q o → E o ≡ D o → Holds q D o x → Holds p E o x
holds_same q p D E o None a b h = tt
holds_same q p D E o (Some v) a b h = ap (told E o) a ∙ (told_same D E o (q o) b ∙ h)

pub told_as : (q p : ℕ → Frozen) (n m : ℕ) (i j : ℕ → ℕ) (D E : ℕ → Option Value) (S R : ℕ → Option ℕ) (u : Store)
    → ((o : ℕ) → p o ≡ q o) → m ≡ n → ((x : ℕ) → j x ≡ i x) → ((o : ℕ) → E o ≡ D o) → ((t : ℕ) → R t ≡ S t) → Told q n i D S u → Told p m j E R u
told_as q p n m i j D E S R u a b c d e k =
    record {
      sized = k.sized;
      made = k.made ∙ sym b;
      begun = k.begun;
      rows = λ o. k.rows o ∙ sym (a o);
      items = λ x. k.items x ∙ sym (c x);
      holds = λ x. subst (λ (o : ℕ). Holds p E o (place u x).result) (sym (c x)) (holds_same q p D E (i x) (place u x).result (a (i x)) (d (i x)) (k.holds x));
      own = k.own;
      tasks = λ t l v.
          let y : TaskTold D S (suc t) (task u (suc t)) = k.tasks t l v in
          record { undelivered = d _ ∙ y.undelivered; started = λ z. e (suc t) ∙ y.started z; own = y.own };
      main = k.main;
    }

-- by the rows as they are
pub told_now : (q : ℕ → Frozen) (n : ℕ) (i : ℕ → ℕ) (D E : ℕ → Option Value) (S R : ℕ → Option ℕ) (u : Store)
    → ((o : ℕ) → E o ≡ D o) → ((t : ℕ) → R t ≡ S t) → Told q n i D S u → Told (λ o. frozen (object u o)) (header u).made (λ x. (place u x).item.0) E R u
told_now q n i D E S R u d e k = told_as q _ n _ i _ D E S R u k.rows k.made k.items d e k

-- ---- a switch

-- which coroutine a task has started, after another one starts
start-other : (t v c f : ℕ) (r : Option ℕ) → (v ≡ t → ⊥) → started_by (some (runs t (start c f))) v r ≡ r
unfolding started_by
start-other t v c f r ne = ap (λ (b : Bool). elim b [ true ↦ some c | false ↦ r ]) (ne_eqb t v (λ e. ne (sym e)))

start_here : (t c f : ℕ) (r : Option ℕ) → started_by (some (runs t (start c f))) t r ≡ some c
unfolding started_by
start_here t c f r = ap (λ (b : Bool). elim b [ true ↦ some c | false ↦ r ]) (eq-eqb t t refl)

running-is : (t u : TaskId) → Moment.Running t ≡ Moment.Running u → t.0 ≡ u.0
running-is t u e = cc

not-running : {A : Type 0} (t : TaskId) → Moment.Waiting ≡ Moment.Running t → A
not-running t e = let z : ◌≡◌ {A = ℕ} 0 1 = cc in absurd (omega arith)

module _ (q : ℕ → Frozen) (n : ℕ) (i : ℕ → ℕ) (D : ℕ → Option Value) (S : ℕ → Option ℕ) where
  pub record Left (u : Store) (c : Control) : Type 0 where
    pub told : Told q n i D (λ v. started_by (some c) v (S v)) u
    pub runner : (r : Option ℕ) (t : TaskId) → (header u).moment ≡ Moment.Running t → runner_by (some c) r ≡ some t.0
    pub main : S 0 ≡ none → started_by (some c) 0 (S 0) ≡ none

  yields-left : (u : Store) → Told q n i D S u → Left (yield u).store (yield u).control
  unfolding yield started_by
  yields-left u k =
      record {
        told = moved_told q n i D S u Moment.Waiting tt k;
        runner = λ r t e. not-running t (sym (moment_head u Moment.Waiting k.sized tt).1 ∙ e);
        main = λ e. e;
      }

  run-runner : (u : Store) (t : ℕ) (h : How) → Sized u → t < task_limit → (r : Option ℕ) (v : TaskId) → (header (run u t h).store).moment ≡ Moment.Running v → runner_by (some (run u t h).control) r ≡ some v.0
  unfolding run runner_by
  run-runner u t h z l r v e = ap (λ (x : ℕ). some x) (running-is (task_id t) v (sym (moment_head (set_state u t TaskState.Running) (Moment.Running (task_id t)) (sized-set_state u t TaskState.Running z) l).1 ∙ e))

  -- a task runs on
  runs-told : (u : Store) (t : ℕ) (h : How) → t < task_limit → is_unstarted (task u t).state ≡ false → is_live (task u t).state ≡ true → Told q n i D S u → Told q n i D S (run u t h).store
  unfolding run
  runs-told u t h l e lv k =
      moved_told q n i D S _ (Moment.Running (task_id t)) l (state_told q n i D S u t TaskState.Running refl (λ b m d. now b m d) e k)
    where
      now : t < (header u).next → (m : ℕ) → t ≡ suc m → TaskTold D S t (task u t)
      now b m d = subst (λ (y : ℕ). TaskTold D S y (task u y)) (sym d) (k.tasks m (subst (λ (y : ℕ). y < (header u).next) d b) (subst (λ (y : ℕ). is_live (task u y).state ≡ true) d lv))

  -- a task starts
  module _ (u : Store) (t f : ℕ) (l : t < task_limit) (k : Told q n i D S u) (fresh : (task u t).state ≡ TaskState.Unstarted) (new : new_function (object u (task u t).coroutine.0) ≡ some f) where
    abbrev c : ℕ
    c = (task u t).coroutine.0

    abbrev R : ℕ → Option ℕ
    R v = started_by (some (runs t (start c f))) v (S v)

    R-other : (v : ℕ) → (v ≡ t → ⊥) → R v ≡ S v
    R-other v ne = start-other t v c f (S v) ne

    R-here : R t ≡ some c
    R-here = start_here t c f (S t)

    not_main : t ≡ 0 → ⊥
    not_main e = true≢false (sym (ap is_unstarted fresh) ∙ subst (λ (v : ℕ). is_unstarted (task u v).state ≡ false) (sym e) k.main)

    told-before : Told q n i D R u
    told-before =
        record {
          sized = k.sized;
          made = k.made;
          begun = k.begun;
          rows = k.rows;
          items = k.items;
          holds = k.holds;
          own = k.own;
          tasks = λ v b lv.
              let y : TaskTold D S (suc v) (task u (suc v)) = k.tasks v b lv in
              record { undelivered = y.undelivered; started = λ e. by v e (y.started e) (ℕ_discrete (suc v) t); own = y.own };
          main = k.main;
        }
      where
        by : (v : ℕ) → is_unstarted (task u (suc v)).state ≡ false → S (suc v) ≡ some (task u (suc v)).coroutine.0 → Dec (suc v ≡ t) → R (suc v) ≡ some (task u (suc v)).coroutine.0
        by v e y (yes d) = absurd (true≢false (sym (ap is_unstarted fresh) ∙ subst (λ (m : ℕ). is_unstarted (task u m).state ≡ false) d e))
        by v e y (no ne) = R-other (suc v) ne ∙ y

    abbrev w : Store
    w = put_object u c (Object.Coroutine f CoroutineState.Running)

    k1 : Told q n i D R w
    unfolding awaiter_of
    k1 = turns-told q n i D R u c _ (task-fits u t).coroutine_fits (subst (λ (x : Object). Turns x (Object.Coroutine f CoroutineState.Running)) (sym (new-object (object u c) f new)) (starts f)) tt told-before

    same-task : (v : ℕ) → task w v ≡ task u v
    same-task v = unfold task put_object in refl

    k2 : Told q n i D R (set_state w t TaskState.Running)
    unfolding set_state restate
    k2 = task-told q n i D R w t _ (λ d. refl) (task-fits w t).coroutine_fits (λ b lv m d. row b m d) k1
      where
        live_now : is_live (task w t).state ≡ true
        live_now = ap (λ (y : Task). is_live y.state) (same-task t) ∙ ap is_live fresh

        row : t < (header w).next → (m : ℕ) → t ≡ suc m → TaskTold D R t (record { state = TaskState.Running; awaiter = (task w t).awaiter; coroutine = (task w t).coroutine })
        row b m d =
            let y : TaskTold D R t (task w t) = subst (λ (x : ℕ). TaskTold D R x (task w x)) (sym d) (k1.tasks m (subst (λ (x : ℕ). x < (header w).next) d b) (subst (λ (x : ℕ). is_live (task w x).state ≡ true) d live_now)) in
            record { undelivered = y.undelivered; started = λ e. R-here ∙ ap (λ (x : Task). some x.coroutine.0) (sym (same-task t)); own = y.own }

    starts-left : Left (run w t (start c f)).store (run w t (start c f)).control
    unfolding run
    starts-left =
        record {
          told = moved_told q n i D R _ (Moment.Running (task_id t)) l k2;
          runner = unfold run in (run-runner w t (start c f) k1.sized l);
          main = λ e. R-other 0 (λ d. not_main (sym d)) ∙ e;
        }

  -- What a switch leaves.
  pub ended-left : (x : Switched) → EndsOrReuse q n i D S x → Left x.store x.control
  unfolding started_by run
  ended-left x (waited u k e) = subst (λ (y : Switched). Left y.store y.control) (sym e) (yields-left u k)
  ended-left x (started u t f l k fr new e) = subst (λ (y : Switched). Left y.store y.control) (sym e) (starts-left u t f l k fr new)
  ended-left x (woke u t v l k st e) =
      subst (λ (y : Switched). Left y.store y.control) (sym e)
      (record { told = runs-told u t (value v) l (ap is_unstarted st) (ap is_live st) k; runner = run-runner u t (value v) k.sized l; main = λ z. z })
  ended-left x (raised_it u t v l k st e) =
      subst (λ (y : Switched). Left y.store y.control) (sym e)
      (record { told = runs-told u t (raises v) l (ap is_unstarted st) (ap is_live st) k; runner = run-runner u t (raises v) k.sized l; main = λ z. z })
