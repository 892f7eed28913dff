-- For whom each task was spawned and who has exited: the log agrees with the rows, one task for a coroutine, ever; each write keeps it.
use Rattle.std.specs.Prelude.{◌⊎◌, ◌≡◌, Bool, true, false, ◌||◌, List, [], ◌∷◌, eqb}
use Rattle.std.proofs.Common.{inl, inr, sym, ap₂, ◌∙◌, not-suc-le-zero, arith, eq-eqb, ne_eqb}
use Rattle.std.proofs.Math.Path.{refl, ap, subst}
use Rattle.std.proofs.Math.Bool.{true≢false}
use Rattle.std.proofs.Math.Option.{Option, none, some, some-injective}
use Prim.Native.Nat.{ℕ, zero, suc, ◌+◌, ◌-◌, ◌≤◌, ◌<◌}
use Rattle.std.proofs.Math.Decide.{ℕ_discrete}
use Rattle.asyncio.specs.declared.TaskState.{TaskState}
use Rattle.asyncio.specs.declared.Task.{Task}
use Rattle.asyncio.specs.declared.Awaiter.{Awaiter}
use Rattle.asyncio.specs.declared.CoroutineState.{CoroutineState}
use Rattle.asyncio.specs.declared.Object.{Object}
use Rattle.asyncio.specs.declared.Header.{Header}
use Rattle.asyncio.specs.Limits.{object_limit, task_limit}
use Rattle.asyncio.specs.Numbers.{heap_id}
use Rattle.asyncio.specs.Ranges.{ObjectFits}
use Rattle.asyncio.specs.RangeLaws.{object_back}
use Rattle.asyncio.specs.Layout.{object_words, to_object}
use Rattle.asyncio.specs.States.{pick, is_live, is_unstarted}
use Rattle.rows.specs.Tables.{task_at}
use Rattle.machine.specs.Store.{Store, LogEntry, spawned, blocked, reached, exited, removed, task, object, header, put_task, put_header, put_object, put_queue, add_log, restate, set_state, set_next, absent}
use Rattle.machine.specs.Scheduler.{push_ready, remove_from_ready_queue, remove_task, spawn_as, is_task_of, task_of, task_of_in}
use Rattle.machine.specs.History.{Entry}
use Rattle.machine_laws.specs.Views.{Sized}
use Rattle.machine_laws.specs.StoreLaws.{header-fits, header_put-object, object-fits, object_put-other, object_put-header, live-put_task, task_put-other, task-fits}
use Rattle.machine_laws.specs.StoreLaws.{sized-put_task, sized-put_object, sized-put_queue, sized-add_log}
use Rattle.machine_laws.specs.SizedLaws.{sized-spawn_as}
use Rattle.machine_laws.specs.Walk.{Turns, same, takes, starts, turns}
use Rattle.machine_sessions.specs.Waits.Calls.{read_back}
use Rattle.machine_sessions.specs.Waits.CallEvents.{none_first}
use Rattle.machine_sessions.specs.Queue.Tracked.{spawn-row, spawn-next}
use Rattle.machine_sessions.specs.Places.Told.{unstarted_back, coroutine_back}

-- ---- who has exited

-- has task t exited, b telling whether it had before these log entries?
unfoldable pub exits_by : Bool → List LogEntry → ℕ → Bool
exits_by b [] t = b
exits_by b (spawned u c ∷ hs) t = exits_by b hs t
exits_by b (blocked u ∷ hs) t = exits_by b hs t
exits_by b (reached u ∷ hs) t = exits_by b hs t
exits_by b (exited u ∷ hs) t = eqb u t || exits_by b hs t
exits_by b (removed u ∷ hs) t = exits_by b hs t

-- has task t exited in a history?
unfoldable pub exits : List Entry → ℕ → Bool
exits [] t = false
exits (x ∷ h) t = exits_by (exits h t) x.happened t

-- ---- coroutines

unfoldable pub any_coroutine : Object → Bool
any_coroutine Object.Unmade = false
any_coroutine (Object.Coroutine f x) = true
any_coroutine (Object.ExternalFuture c x) = false
any_coroutine (Object.GatherFuture f n x) = false

-- one that is not new any more
unfoldable pub used_coroutine : Object → Bool
used_coroutine Object.Unmade = false
used_coroutine (Object.Coroutine f CoroutineState.New) = false
used_coroutine (Object.Coroutine f CoroutineState.Running) = true
used_coroutine (Object.Coroutine f CoroutineState.Completed) = true
used_coroutine (Object.ExternalFuture c x) = false
used_coroutine (Object.GatherFuture f n x) = false

-- a row that turns stays a coroutine, as it is read back
any_turns : (x y : Object) → Turns x y → ObjectFits x → any_coroutine x ≡ true → any_coroutine (to_object (object_words y)) ≡ true
unfolding any_coroutine
any_turns x y (same z) f e = ap any_coroutine (object_back z f) ∙ e
any_turns x y (takes c r a) f e = absurd (true≢false (sym e))
any_turns x y (starts g) f e = refl
any_turns x y (turns g n a b) f e = absurd (true≢false (sym e))

used-turns : (x y : Object) → Turns x y → ObjectFits x → used_coroutine x ≡ true → used_coroutine (to_object (object_words y)) ≡ true
unfolding used_coroutine
used-turns x y (same z) f e = ap used_coroutine (object_back z f) ∙ e
used-turns x y (takes c r a) f e = absurd (true≢false (sym e))
used-turns x y (starts g) f e = absurd (true≢false (sym e))
used-turns x y (turns g n a b) f e = absurd (true≢false (sym e))

-- one that is used stays so, whatever row turns
pub used-row : (s : Store) (o : ℕ) (x : Object) (c : ℕ) → Sized s → o < object_limit → Turns (object s o) x → used_coroutine (object s c) ≡ true → used_coroutine (object (put_object s o x) c) ≡ true
used-row s o x c z l t e = by (ℕ_discrete c o)
  where
    by : Dec (c ≡ o) → used_coroutine (object (put_object s o x) c) ≡ true
    by (yes d) =
        subst (λ (m : ℕ). used_coroutine (object (put_object s o x) m) ≡ true) (sym d)
        (ap used_coroutine (read_back s o x z l) ∙ used-turns (object s o) x t (object-fits s o) (subst (λ (m : ℕ). used_coroutine (object s m) ≡ true) d e))
    by (no ne) = ap used_coroutine (object_put-other s o c x ne) ∙ e

-- ---- what the rows say: S tells for whom each task was spawned, Y who has exited. Of those before the event: F for whom each was spawned; the tasks of L have
-- gone without an exit, those of E have exited.

pub record Tasks (F : ℕ → Option ℕ) (L E : ℕ → Type 0) (S : ℕ → Option ℕ) (Y : ℕ → Bool) (s : Store) : Type 0 where
  pub sized : Sized s
  pub main : 1 ≤ (header s).next
  pub first : is_unstarted (task s 0).state ≡ false
  -- no task stands behind those that were spawned
  pub behind : (t : ℕ) → (header s).next ≤ t → is_live (task s t).state ≡ false
  pub rows : (t : ℕ) → suc t < (header s).next → is_live (task s (suc t)).state ≡ true → S (suc t) ≡ some (task s (suc t)).coroutine.0
  pub born : (t c : ℕ) → S t ≡ some c → (1 ≤ t) × (t < (header s).next)
  pub before : (t c : ℕ) → F t ≡ some c → S t ≡ some c
  -- one task for a coroutine
  pub alone : (t u c : ℕ) → S t ≡ some c → S u ≡ some c → t ≡ u
  pub coroutines : (t c : ℕ) → S t ≡ some c → any_coroutine (object s c) ≡ true
  -- a task that has gone, or has started, has a coroutine that is not new
  pub used : (t c : ℕ) → S t ≡ some c → is_live (task s t).state ≡ false → used_coroutine (object s c) ≡ true
  pub started : (t : ℕ) → suc t < (header s).next → is_live (task s (suc t)).state ≡ true → is_unstarted (task s (suc t)).state ≡ false → used_coroutine (object s (task s (suc t)).coroutine.0) ≡ true
  pub ended : (t : ℕ) → Y t ≡ true → (t < (header s).next) × (is_live (task s t).state ≡ false)
  pub lost : (t : ℕ) → L t → (t < (header s).next) × (is_live (task s t).state ≡ false) × (Y t ≡ false)
  pub left : (t : ℕ) → E t → Y t ≡ true

-- a coroutine without a live task
no_task : (s : Store) (c : ℕ) → task_of s c ≡ none → (t : ℕ) → suc t < (header s).next → is_live (task s (suc t)).state ≡ true → (task s (suc t)).coroutine.0 ≡ c → ⊥
unfolding task_of task_of_in is_task_of task
no_task s c e t l lv q =
    true≢false (sym (ap₂ (λ (a b : Bool). pick a b false) lv (eq-eqb (task s (suc t)).coroutine.0 c q))
    ∙ none_first (λ u. is_task_of c (task_at s.tasks u)) ((header s).next - 1) 1 e (suc t) (omega arith) (omega (arith, l)))

module _ (F : ℕ → Option ℕ) (L E : ℕ → Type 0) where
  -- tasks that live and have the coroutines as before, objects that are coroutines and used where they were
  pub tasks_like : (s u : Store) (S R : ℕ → Option ℕ) (Y Z : ℕ → Bool) → Sized u → (header u).next ≡ (header s).next → ((t : ℕ) → R t ≡ S t) → ((t : ℕ) → Z t ≡ Y t)
      → ((c : ℕ) → any_coroutine (object s c) ≡ true → any_coroutine (object u c) ≡ true) → ((c : ℕ) → used_coroutine (object s c) ≡ true → used_coroutine (object u c) ≡ true)
      → ((t : ℕ) → is_live (task u t).state ≡ is_live (task s t).state) → ((t : ℕ) → (task u t).coroutine.0 ≡ (task s t).coroutine.0)
      → is_unstarted (task u 0).state ≡ false → ((t : ℕ) → suc t < (header u).next → is_live (task u (suc t)).state ≡ true → is_unstarted (task u (suc t)).state ≡ false → used_coroutine (object u (task u (suc t)).coroutine.0) ≡ true)
      → Tasks F L E S Y s → Tasks F L E R Z u
  tasks_like s u S R Y Z z n es ey any us lv co fi st k =
      record {
        sized = z;
        main = subst (λ (m : ℕ). 1 ≤ m) (sym n) k.main;
        first = fi;
        behind = λ t l. lv t ∙ k.behind t (subst (λ (m : ℕ). m ≤ t) n l);
        rows = λ t l e. es (suc t) ∙ (k.rows t (subst (λ (m : ℕ). suc t < m) n l) (sym (lv (suc t)) ∙ e) ∙ ap (λ (m : ℕ). some m) (sym (co (suc t))));
        born = λ t c e. let b = k.born t c (sym (es t) ∙ e) in (b.0, subst (λ (m : ℕ). t < m) (sym n) b.1);
        before = λ t c e. es t ∙ k.before t c e;
        alone = λ t v c e f. k.alone t v c (sym (es t) ∙ e) (sym (es v) ∙ f);
        coroutines = λ t c e. any c (k.coroutines t c (sym (es t) ∙ e));
        used = λ t c e d. us c (k.used t c (sym (es t) ∙ e) (sym (lv t) ∙ d));
        started = st;
        ended = λ t e. let b = k.ended t (sym (ey t) ∙ e) in (subst (λ (m : ℕ). t < m) (sym n) b.0, lv t ∙ b.1);
        lost = λ t e. let b = k.lost t e in (subst (λ (m : ℕ). t < m) (sym n) b.0, lv t ∙ b.1, ey t ∙ b.2);
        left = λ t e. ey t ∙ k.left t e;
      }

  -- tasks as they were
  pub tasks-same : (s u : Store) (S R : ℕ → Option ℕ) (Y Z : ℕ → Bool) → Sized u → (header u).next ≡ (header s).next → ((t : ℕ) → R t ≡ S t) → ((t : ℕ) → Z t ≡ Y t)
      → ((c : ℕ) → any_coroutine (object s c) ≡ true → any_coroutine (object u c) ≡ true) → ((c : ℕ) → used_coroutine (object s c) ≡ true → used_coroutine (object u c) ≡ true)
      → ((t : ℕ) → task u t ≡ task s t) → Tasks F L E S Y s → Tasks F L E R Z u
  tasks-same s u S R Y Z z n es ey any us ts k =
      tasks_like s u S R Y Z z n es ey any us (λ t. ap (λ (r : Task). is_live r.state) (ts t)) (λ t. ap (λ (r : Task). r.coroutine.0) (ts t))
      (ap (λ (r : Task). is_unstarted r.state) (ts 0) ∙ k.first) (λ t l e f. subst (λ (r : Task). used_coroutine (object u r.coroutine.0) ≡ true) (sym (ts (suc t)))
      (us _ (k.started t (subst (λ (m : ℕ). suc t < m) n l) (sym (ap (λ (r : Task). is_live r.state) (ts (suc t))) ∙ e) (sym (ap (λ (r : Task). is_unstarted r.state) (ts (suc t))) ∙ f)))) k

  -- an object's row is written
  pub row-tasks : (s : Store) (o : ℕ) (x : Object) (S : ℕ → Option ℕ) (Y : ℕ → Bool) → o < object_limit → (any_coroutine (object s o) ≡ true → any_coroutine (to_object (object_words x)) ≡ true)
      → (used_coroutine (object s o) ≡ true → used_coroutine (to_object (object_words x)) ≡ true) → Tasks F L E S Y s → Tasks F L E S Y (put_object s o x)
  row-tasks s o x S Y l any us k =
      tasks-same s (put_object s o x) S S Y Y (sized-put_object s o x k.sized) (ap (λ (h : Header). h.next) (header_put-object s o x)) (λ t. refl) (λ t. refl)
      (λ c e. any-by c e (ℕ_discrete c o)) (λ c e. use-by c e (ℕ_discrete c o)) (λ t. unfold task put_object in refl) k
    where
      now : object (put_object s o x) o ≡ to_object (object_words x)
      now = read_back s o x k.sized l

      any-by : (c : ℕ) → any_coroutine (object s c) ≡ true → Dec (c ≡ o) → any_coroutine (object (put_object s o x) c) ≡ true
      any-by c e (yes d) = subst (λ (m : ℕ). any_coroutine (object (put_object s o x) m) ≡ true) (sym d) (ap any_coroutine now ∙ any (subst (λ (m : ℕ). any_coroutine (object s m) ≡ true) d e))
      any-by c e (no ne) = ap any_coroutine (object_put-other s o c x ne) ∙ e

      use-by : (c : ℕ) → used_coroutine (object s c) ≡ true → Dec (c ≡ o) → used_coroutine (object (put_object s o x) c) ≡ true
      use-by c e (yes d) = subst (λ (m : ℕ). used_coroutine (object (put_object s o x) m) ≡ true) (sym d) (ap used_coroutine now ∙ us (subst (λ (m : ℕ). used_coroutine (object s m) ≡ true) d e))
      use-by c e (no ne) = ap used_coroutine (object_put-other s o c x ne) ∙ e

  pub turns-tasks : (s : Store) (o : ℕ) (x : Object) (S : ℕ → Option ℕ) (Y : ℕ → Bool) → o < object_limit → Turns (object s o) x → Tasks F L E S Y s → Tasks F L E S Y (put_object s o x)
  turns-tasks s o x S Y l t k = row-tasks s o x S Y l (any_turns (object s o) x t (object-fits s o)) (used-turns (object s o) x t (object-fits s o)) k

  -- a live task goes into another state that lives: it has started, or its coroutine is not new
  pub state_tasks : (s u : Store) (t : ℕ) (x : TaskState) (S R : ℕ → Option ℕ) (Y Z : ℕ → Bool) → t < task_limit → is_live x ≡ true → is_live (task s t).state ≡ true
      → is_unstarted x ≡ false → (is_unstarted (task s t).state ≡ false) ⊎ (used_coroutine (object s (task s t).coroutine.0) ≡ true)
      → Sized u → (header u).next ≡ (header s).next → ((v : ℕ) → R v ≡ S v) → ((v : ℕ) → Z v ≡ Y v) → ((o : ℕ) → object u o ≡ object s o) → ((v : ℕ) → task u v ≡ task (set_state s t x) v)
      → Tasks F L E S Y s → Tasks F L E R Z u
  unfolding set_state restate
  state_tasks s u t x S R Y Z l lx lt ux st z n es ey os ts k =
      tasks_like s u S R Y Z z n es ey (λ c e. ap any_coroutine (os c) ∙ e) (λ c e. ap used_coroutine (os c) ∙ e)
      (λ v. ap (λ (y : Task). is_live y.state) (ts v) ∙ live-by v (ℕ_discrete v t)) (λ v. ap (λ (y : Task). y.coroutine.0) (ts v) ∙ co-by v (ℕ_discrete v t))
      (ap (λ (y : Task). is_unstarted y.state) (ts 0) ∙ first_by (ℕ_discrete 0 t)) (λ v b e f. subst (λ (y : Task). used_coroutine (object u y.coroutine.0) ≡ true) (sym (ts (suc v)))
      (start_by v (subst (λ (m : ℕ). suc v < m) n b) (sym (ap (λ (y : Task). is_live y.state) (ts (suc v))) ∙ e) (sym (ap (λ (y : Task). is_unstarted y.state) (ts (suc v))) ∙ f) (ℕ_discrete (suc v) t))) k
    where
      r : Task
      r = record { state = x; awaiter = (task s t).awaiter; coroutine = (task s t).coroutine }

      w : Store
      w = put_task s t r

      live-by : (v : ℕ) → Dec (v ≡ t) → is_live (task w v).state ≡ is_live (task s v).state
      live-by v (yes d) = subst (λ (m : ℕ). is_live (task w m).state ≡ is_live (task s m).state) (sym d) (live-put_task s t r k.sized l ∙ (lx ∙ sym lt))
      live-by v (no ne) = ap (λ (y : Task). is_live y.state) (task_put-other s t v r ne)

      co-by : (v : ℕ) → Dec (v ≡ t) → (task w v).coroutine.0 ≡ (task s v).coroutine.0
      co-by v (yes d) = subst (λ (m : ℕ). (task w m).coroutine.0 ≡ (task s m).coroutine.0) (sym d) (coroutine_back s t r k.sized l (task-fits s t).coroutine_fits)
      co-by v (no ne) = ap (λ (y : Task). y.coroutine.0) (task_put-other s t v r ne)

      first_by : Dec (0 ≡ t) → is_unstarted (task w 0).state ≡ false
      first_by (yes d) = subst (λ (m : ℕ). is_unstarted (task w m).state ≡ false) (sym d) (unstarted_back s t r k.sized l ∙ ux)
      first_by (no ne) = ap (λ (y : Task). is_unstarted y.state) (task_put-other s t 0 r ne) ∙ k.first

      used-now : (v : ℕ) → used_coroutine (object s (task s v).coroutine.0) ≡ true → Dec (v ≡ t) → used_coroutine (object u (task w v).coroutine.0) ≡ true
      used-now v e d = subst (λ (c : ℕ). used_coroutine (object u c) ≡ true) (sym (co-by v d)) (ap used_coroutine (os (task s v).coroutine.0) ∙ e)

      start_by : (v : ℕ) → suc v < (header s).next → is_live (task w (suc v)).state ≡ true → is_unstarted (task w (suc v)).state ≡ false → Dec (suc v ≡ t) → used_coroutine (object u (task w (suc v)).coroutine.0) ≡ true
      start_by v b e f (yes d) = used-now (suc v) (on st) (yes d)
        where
          on : (is_unstarted (task s t).state ≡ false) ⊎ (used_coroutine (object s (task s t).coroutine.0) ≡ true) → used_coroutine (object s (task s (suc v)).coroutine.0) ≡ true
          on (inl g) = k.started v b (subst (λ (m : ℕ). is_live (task s m).state ≡ true) (sym d) lt) (subst (λ (m : ℕ). is_unstarted (task s m).state ≡ false) (sym d) g)
          on (inr g) = subst (λ (m : ℕ). used_coroutine (object s (task s m).coroutine.0) ≡ true) (sym d) g
      start_by v b e f (no ne) =
          used-now (suc v) (k.started v b (sym (live-by (suc v) (no ne)) ∙ e) (sym (ap (λ (y : Task). is_unstarted y.state) (task_put-other s t (suc v) r ne)) ∙ f)) (no ne)

  -- a task goes, by its exit: it lived, and its coroutine is not new
  pub exit_tasks : (s : Store) (t c : ℕ) (S : ℕ → Option ℕ) (Y : ℕ → Bool) (K : ℕ → Type 0) → S t ≡ some c → used_coroutine (object s c) ≡ true → is_live (task s t).state ≡ true
      → ((v : ℕ) → K v → (v ≡ t) ⊎ E v) → Tasks F L E S Y s → Tasks F L K S (λ v. eqb t v || Y v) (add_log (remove_task s t) (exited t))
  exit_tasks s t c S Y K e us lv more k =
      record {
        sized = unfold remove_task remove_from_ready_queue in (sized-add_log _ (exited t) (sized-put_queue _ _ (sized-put_task s t absent k.sized)));
        main = subst (λ (m : ℕ). 1 ≤ m) (sym head) k.main;
        first = first_by (ℕ_discrete 0 t);
        behind = λ v l. behind-by v (k.behind v (subst (λ (m : ℕ). m ≤ v) head l)) (ℕ_discrete v t);
        rows = λ v l a.
            let ne : suc v ≡ t → ⊥ = λ d. true≢false (sym a ∙ subst (λ (m : ℕ). is_live (task u m).state ≡ false) (sym d) dead) in
            k.rows v (subst (λ (m : ℕ). suc v < m) head l) (sym (ap (λ (r : Task). is_live r.state) (other (suc v) ne)) ∙ a) ∙ ap (λ (r : Task). some r.coroutine.0) (sym (other (suc v) ne));
        born = λ v d q. let b = k.born v d q in (b.0, subst (λ (m : ℕ). v < m) (sym head) b.1);
        before = k.before;
        alone = k.alone;
        coroutines = λ v d q. ap any_coroutine (rows_same d) ∙ k.coroutines v d q;
        used = λ v d q a. ap used_coroutine (rows_same d) ∙ used-by v d q a (ℕ_discrete v t);
        started = λ v l a b.
            let ne : suc v ≡ t → ⊥ = λ d. true≢false (sym a ∙ subst (λ (m : ℕ). is_live (task u m).state ≡ false) (sym d) dead) in
            subst (λ (r : Task). used_coroutine (object u r.coroutine.0) ≡ true) (sym (other (suc v) ne))
            (ap used_coroutine (rows_same (task s (suc v)).coroutine.0) ∙ k.started v (subst (λ (m : ℕ). suc v < m) head l) (sym (ap (λ (r : Task). is_live r.state) (other (suc v) ne)) ∙ a) (sym (ap (λ (r : Task). is_unstarted r.state) (other (suc v) ne)) ∙ b));
        ended = λ v q. ended_by v q (ℕ_discrete v t);
        lost = λ v q. lost-by v (k.lost v q) (ℕ_discrete v t);
        left = λ v q. left_by v (more v q);
      }
    where
      u : Store
      u = add_log (remove_task s t) (exited t)

      low : t < task_limit
      low = omega (arith, (k.born t c e).1, (header-fits s).next_fits)

      head : (header u).next ≡ (header s).next
      head = unfold header add_log remove_task remove_from_ready_queue put_queue put_task in refl

      words : (v : ℕ) → task u v ≡ task (put_task s t absent) v
      words v = unfold add_log remove_task remove_from_ready_queue put_queue task in refl

      other : (v : ℕ) → (v ≡ t → ⊥) → task u v ≡ task s v
      other v ne = words v ∙ task_put-other s t v absent ne

      dead : is_live (task u t).state ≡ false
      dead = ap (λ (r : Task). is_live r.state) (words t) ∙ (live-put_task s t absent k.sized low ∙ (unfold absent in refl))

      rows_same : (o : ℕ) → object u o ≡ object s o
      rows_same o = unfold object add_log remove_task remove_from_ready_queue put_queue put_task in refl

      first_by : Dec (0 ≡ t) → is_unstarted (task u 0).state ≡ false
      first_by (yes d) = absurd (not-suc-le-zero {n = 0} (omega (arith, (k.born t c e).0, d)))
      first_by (no ne) = ap (λ (r : Task). is_unstarted r.state) (other 0 ne) ∙ k.first

      behind-by : (v : ℕ) → is_live (task s v).state ≡ false → Dec (v ≡ t) → is_live (task u v).state ≡ false
      behind-by v a (yes d) = subst (λ (m : ℕ). is_live (task u m).state ≡ false) (sym d) dead
      behind-by v a (no ne) = ap (λ (r : Task). is_live r.state) (other v ne) ∙ a

      used-by : (v d : ℕ) → S v ≡ some d → is_live (task u v).state ≡ false → Dec (v ≡ t) → used_coroutine (object s d) ≡ true
      used-by v d q a (yes x) = subst (λ (m : ℕ). used_coroutine (object s m) ≡ true) (some-injective c d (sym e ∙ subst (λ (m : ℕ). S m ≡ some d) x q)) us
      used-by v d q a (no ne) = k.used v d q (sym (ap (λ (r : Task). is_live r.state) (other v ne)) ∙ a)

      ended_by : (v : ℕ) → (eqb t v || Y v) ≡ true → Dec (v ≡ t) → (v < (header u).next) × (is_live (task u v).state ≡ false)
      ended_by v q (yes d) = (subst (λ (m : ℕ). m < (header u).next) (sym d) (subst (λ (m : ℕ). t < m) (sym head) (k.born t c e).1), subst (λ (m : ℕ). is_live (task u m).state ≡ false) (sym d) dead)
      ended_by v q (no ne) =
          let b = k.ended v (sym (ap (λ (a : Bool). a || Y v) (ne_eqb t v (λ x. ne (sym x)))) ∙ q) in
          (subst (λ (m : ℕ). v < m) (sym head) b.0, ap (λ (r : Task). is_live r.state) (other v ne) ∙ b.1)

      lost-by : (v : ℕ) → (v < (header s).next) × (is_live (task s v).state ≡ false) × (Y v ≡ false) → Dec (v ≡ t) → (v < (header u).next) × (is_live (task u v).state ≡ false) × ((eqb t v || Y v) ≡ false)
      lost-by v b (yes d) = absurd (true≢false (sym lv ∙ subst (λ (m : ℕ). is_live (task s m).state ≡ false) d b.1))
      lost-by v b (no ne) = (
        subst (λ (m : ℕ). v < m) (sym head) b.0,
        ap (λ (r : Task). is_live r.state) (other v ne) ∙ b.1,
        ap (λ (a : Bool). a || Y v) (ne_eqb t v (λ x. ne (sym x))) ∙ b.2,
      )

      left_by : (v : ℕ) → (v ≡ t) ⊎ E v → (eqb t v || Y v) ≡ true
      left_by v (inl d) = ap (λ (a : Bool). a || Y v) (eq-eqb t v (sym d))
      left_by v (inr q) = ap (λ (a : Bool). eqb t v || a) (k.left v q) ∙ or_true (eqb t v)
        where
          or_true : (a : Bool) → (a || true) ≡ true
          or_true true = refl
          or_true false = refl

  -- a task is spawned, with the next number: for a new coroutine without a live task
  pub spawn-tasks : (s : Store) (c g f : ℕ) (S : ℕ → Option ℕ) (Y : ℕ → Bool) → (header s).next < task_limit → c < object_limit → object s c ≡ Object.Coroutine f CoroutineState.New → task_of s c ≡ none
      → Tasks F L E S Y s → Tasks F L E (λ t. elim (eqb (header s).next t) [ true ↦ some c | false ↦ S t ]) Y (spawn_as s (header s).next c g)
  spawn-tasks s c g f S Y room low new free k =
      record {
        sized = sized-spawn_as s n c g k.sized;
        main = subst (λ (m : ℕ). 1 ≤ m) (sym next) (omega arith);
        first = ap (λ (x : Task). is_unstarted x.state) (was 0 k.main) ∙ k.first;
        behind = λ v l. behind-by v (subst (λ (m : ℕ). m ≤ v) next l);
        rows = λ v l a. rows-by v (subst (λ (m : ℕ). suc v < m) next l) a (ℕ_discrete (suc v) n);
        born = λ v d q. born-by v d q (ℕ_discrete v n);
        before = λ v d q. let y : S v ≡ some d = k.before v d q in old v (k.born v d y).1 ∙ y;
        alone = λ v w d q r. alone-by v w d q r (ℕ_discrete v n) (ℕ_discrete w n);
        coroutines = λ v d q. ap any_coroutine (rows_same d) ∙ any-by v d q (ℕ_discrete v n);
        used = λ v d q a. ap used_coroutine (rows_same d) ∙ used-by v d q a (ℕ_discrete v n);
        started = λ v l a b. started_by v (subst (λ (m : ℕ). suc v < m) next l) a b (ℕ_discrete (suc v) n);
        ended = λ v q. let b = k.ended v q in (subst (λ (m : ℕ). v < m) (sym next) (omega (arith, b.0)), ap (λ (x : Task). is_live x.state) (was v b.0) ∙ b.1);
        lost = λ v q. let b = k.lost v q in (subst (λ (m : ℕ). v < m) (sym next) (omega (arith, b.0)), ap (λ (x : Task). is_live x.state) (was v b.0) ∙ b.1, b.2);
        left = k.left;
      }
    where
      n : ℕ
      n = (header s).next

      u : Store
      u = spawn_as s n c g

      r : Task
      r = record { state = TaskState.Unstarted; awaiter = Awaiter.GatherSlot (heap_id g) (heap_id c); coroutine = heap_id c }

      R : ℕ → Option ℕ
      R t = elim (eqb (header s).next t) [ true ↦ some c | false ↦ S t ]

      next : (header u).next ≡ n + 1
      next = spawn-next s n c g k.sized room

      not_low : {A : Type 0} (v : ℕ) → v < n → v ≡ n → A
      not_low v l d = absurd (not-suc-le-zero {n = 0} (omega (arith, l, d)))

      was : (v : ℕ) → v < n → task u v ≡ task s v
      was v l = spawn-row s n c g v (λ d. not_low v l d)

      at_row : (v : ℕ) → task u v ≡ task (put_task s n r) v
      at_row v = unfold spawn_as push_ready add_log put_queue set_next put_header task in refl

      here : R n ≡ some c
      here = ap (λ (b : Bool). elim b [ true ↦ some c | false ↦ S n ]) (eq-eqb n n refl)

      there : (v : ℕ) → (v ≡ n → ⊥) → R v ≡ S v
      there v ne = ap (λ (b : Bool). elim b [ true ↦ some c | false ↦ S v ]) (ne_eqb n v (λ d. ne (sym d)))

      old : (v : ℕ) → v < n → R v ≡ S v
      old v l = there v (λ d. not_low v l d)

      rows_same : (o : ℕ) → object u o ≡ object s o
      rows_same o = unfold spawn_as push_ready add_log put_queue object in (unfold object in (moved (put_task s n _) (n + 1)) ∙ (unfold object put_task in refl))
        where
          moved : (w : Store) (m : ℕ) → object (set_next w m) o ≡ object w o
          moved w m = unfold set_next in (object_put-header w _ o)

      co-here : (task u n).coroutine.0 ≡ c
      co-here = ap (λ (x : Task). x.coroutine.0) (at_row n) ∙ coroutine_back s n r k.sized room low

      live_here : is_live (task u n).state ≡ true
      live_here = ap (λ (x : Task). is_live x.state) (at_row n) ∙ live-put_task s n r k.sized room

      behind-by : (v : ℕ) → n + 1 ≤ v → is_live (task u v).state ≡ false
      behind-by v l = ap (λ (x : Task). is_live x.state) (spawn-row s n c g v (λ d. not-suc-le-zero {n = 0} (omega (arith, l, d)))) ∙ k.behind v (omega (arith, l))

      rows-by : (v : ℕ) → suc v < n + 1 → is_live (task u (suc v)).state ≡ true → Dec (suc v ≡ n) → R (suc v) ≡ some (task u (suc v)).coroutine.0
      rows-by v l a (yes d) = subst (λ (m : ℕ). R m ≡ some (task u m).coroutine.0) (sym d) (here ∙ ap (λ (m : ℕ). some m) (sym co-here))
      rows-by v l a (no ne) =
          let b : suc v < n = omega (arith, l, ne) in
          old (suc v) b ∙ (k.rows v b (sym (ap (λ (x : Task). is_live x.state) (was (suc v) b)) ∙ a) ∙ ap (λ (x : Task). some x.coroutine.0) (sym (was (suc v) b)))

      born-by : (v d : ℕ) → R v ≡ some d → Dec (v ≡ n) → (1 ≤ v) × (v < (header u).next)
      born-by v d q (yes x) = (subst (λ (m : ℕ). 1 ≤ m) (sym x) k.main, subst (λ (m : ℕ). v < m) (sym next) (omega (arith, x)))
      born-by v d q (no ne) = let b = k.born v d (sym (there v ne) ∙ q) in (b.0, subst (λ (m : ℕ). v < m) (sym next) (omega (arith, b.1)))

      is_c : (v d : ℕ) → R v ≡ some d → v ≡ n → c ≡ d
      is_c v d q x = some-injective c d (sym here ∙ subst (λ (m : ℕ). R m ≡ some d) x q)

      -- nobody was spawned for it
      none-for : (v : ℕ) → S v ≡ some c → ⊥
      none-for v q = by v (k.born v c q) q (is_live (task s v).state) refl
        where
          is_new : used_coroutine (object s c) ≡ true → ⊥
          is_new a = true≢false (sym a ∙ (ap used_coroutine new ∙ (unfold used_coroutine in refl)))

          by : (v : ℕ) → (1 ≤ v) × (v < n) → S v ≡ some c → (b : Bool) → is_live (task s v).state ≡ b → ⊥
          by zero x q b a = not-suc-le-zero {n = 0} x.0
          by (suc v) x q true a = no_task s c free v x.1 a (some-injective _ c (sym (k.rows v x.1 a) ∙ q))
          by (suc v) x q false a = is_new (k.used (suc v) c q a)

      alone-by : (v w d : ℕ) → R v ≡ some d → R w ≡ some d → Dec (v ≡ n) → Dec (w ≡ n) → v ≡ w
      alone-by v w d q p (yes x) (yes y) = x ∙ sym y
      alone-by v w d q p (yes x) (no ne) = absurd (none-for w (sym (there w ne) ∙ (p ∙ ap (λ (m : ℕ). some m) (sym (is_c v d q x)))))
      alone-by v w d q p (no ne) (yes y) = absurd (none-for v (sym (there v ne) ∙ (q ∙ ap (λ (m : ℕ). some m) (sym (is_c w d p y)))))
      alone-by v w d q p (no ne) (no nf) = k.alone v w d (sym (there v ne) ∙ q) (sym (there w nf) ∙ p)

      any-by : (v d : ℕ) → R v ≡ some d → Dec (v ≡ n) → any_coroutine (object s d) ≡ true
      any-by v d q (yes x) = subst (λ (m : ℕ). any_coroutine (object s m) ≡ true) (is_c v d q x) (ap any_coroutine new ∙ (unfold any_coroutine in refl))
      any-by v d q (no ne) = k.coroutines v d (sym (there v ne) ∙ q)

      used-by : (v d : ℕ) → R v ≡ some d → is_live (task u v).state ≡ false → Dec (v ≡ n) → used_coroutine (object s d) ≡ true
      used-by v d q a (yes x) = absurd (true≢false (sym live_here ∙ subst (λ (m : ℕ). is_live (task u m).state ≡ false) x a))
      used-by v d q a (no ne) =
          let y : S v ≡ some d = sym (there v ne) ∙ q in
          k.used v d y (sym (ap (λ (x : Task). is_live x.state) (was v (k.born v d y).1)) ∙ a)

      started_by : (v : ℕ) → suc v < n + 1 → is_live (task u (suc v)).state ≡ true → is_unstarted (task u (suc v)).state ≡ false → Dec (suc v ≡ n) → used_coroutine (object u (task u (suc v)).coroutine.0) ≡ true
      started_by v l a b (yes x) =
          absurd (true≢false (sym (ap (λ (y : Task). is_unstarted y.state) (at_row n) ∙ unstarted_back s n r k.sized room) ∙ subst (λ (m : ℕ). is_unstarted (task u m).state ≡ false) x b))
      started_by v l a b (no ne) =
          let w : suc v < n = omega (arith, l, ne) in
          subst (λ (y : Task). used_coroutine (object u y.coroutine.0) ≡ true) (sym (was (suc v) w))
          (ap used_coroutine (rows_same (task s (suc v)).coroutine.0) ∙ k.started v w (sym (ap (λ (y : Task). is_live y.state) (was (suc v) w)) ∙ a) (sym (ap (λ (y : Task). is_unstarted y.state) (was (suc v) w)) ∙ b))
