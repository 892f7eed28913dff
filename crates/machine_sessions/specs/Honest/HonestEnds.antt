-- What an event leaves, by how it ends: a right log, tasks and new coroutines as the history says, and who has control is live, not blocked, and may start.
use Rattle.std.specs.Prelude.{◌≡◌, Bool, ◌||◌, ℕ, zero, suc, ◌+◌, ◌<◌, eqb}
use Rattle.std.proofs.Math.Path.{refl, sym, ap, subst}
use Rattle.std.proofs.Common.{◌∙◌, true≢false, eq-eqb, ne_eqb}
use Rattle.std.proofs.Math.Bool.{true, false}
use mathlib.Core.List.{List, ◌∷◌}
use Rattle.std.proofs.Math.Option.{Option, none, some}
use Rattle.std.proofs.Math.Decide.{ℕ_discrete}
use Rattle.asyncio.specs.declared.Value.{Value}
use Rattle.asyncio.specs.declared.Error.{Error}
use Rattle.asyncio.specs.declared.TaskState.{TaskState}
use Rattle.asyncio.specs.declared.Task.{Task}
use Rattle.asyncio.specs.declared.CoroutineState.{CoroutineState}
use Rattle.asyncio.specs.declared.Object.{Object}
use Rattle.asyncio.specs.declared.Header.{Header}
use Rattle.asyncio.specs.declared.Moment.{Moment}
use Rattle.asyncio.specs.Limits.{object_limit, task_limit, u32_limit}
use Rattle.asyncio.specs.Numbers.{task_id}
use Rattle.asyncio.specs.Ranges.{ObjectFits, MomentFits}
use Rattle.asyncio.specs.States.{is_live, is_ready, is_blocked, is_unstarted}
use Rattle.machine.specs.Store.{Store, LogEntry, task, object, header, put_task, put_header, put_object, restate, set_state, set_moment, forget}
use Rattle.machine.specs.Scheduler.{live}
use Rattle.machine.specs.Events.{How, start, value, raises, inline, Control, runs, waits, Switched, run, yield}
use Rattle.machine.specs.History.{Entry, Making, said, tells, later, making, lives_by, lives, blocked_by, stays_blocked, spawned_by, spawned_for, running, started_by, coroutine_of}
use Rattle.machine.specs.Honest.{names_by, named, MakesCoroutine, spawns, spawns_in}
use Rattle.machine_laws.specs.StoreLaws.{task-fits, object-fits, sized-set_state, sized-set_moment, object_put-object, object_put-other}
use Rattle.machine_sessions.specs.Waits.Calls.{moment_row}
use Rattle.machine_sessions.specs.Queue.Tracked.{tracked_closed}
use Rattle.machine_sessions.specs.Stall.Standing.{moment_head}
use Rattle.machine_sessions.specs.Places.Agrees.{none_made}
use Rattle.machine_sessions.specs.Places.Telling.{new-object}
use Rattle.machine_sessions.specs.Honest.Spawned.{Shape, new, used, shape, is_used, TaskFrom, Spawned, same-spawns, live_below, spawned_like, runs-spawned, state_spawned, use_spawned, spawned_as, spawned-then}
use Rattle.machine_sessions.specs.Honest.HonestWalk.{Ends, waited, started, woke, raised_it, row-task}
use Rattle.machine_sessions.specs.Honest.HonestLog.{LogRight, Origins, Logged, row-log, is_live_now, lives_now, free_now}

-- what is handed to a task that starts a coroutine, or runs one inline; l is the log of the event
unfoldable pub StartTold : List Entry → Entry → List LogEntry → ℕ → How → Type 0
StartTold h x l t (start c f) = (spawned_by (spawned_for h t) l t ≡ some c) × (coroutine_of h t ≡ none) × (named h c ≡ false) × MakesCoroutine (making h c) f
StartTold h x l t (value v) = Unit {0}
StartTold h x l t (raises e) = Unit {0}
StartTold h x l t (inline c) = ((said x).awaits ≡ some c) × (running h ≡ some t) × (named h c ≡ false)

-- who has control
unfoldable pub ControlLeft : List Entry → Entry → List LogEntry → Option Control → Type 0
ControlLeft h x l none = Unit {0}
ControlLeft h x l (some (runs t a)) = (lives_by (lives h t) l t ≡ true) × (blocked_by (stays_blocked h t) l t ≡ false) × StartTold h x l t a
ControlLeft h x l (some (waits cs)) = Unit {0}

-- what an event leaves
pub record Left (h : List Entry) (x : Entry) (u : Store) : Type 0 where
  pub spawns_are : Spawned (spawned_for (x ∷ h)) (coroutine_of (x ∷ h)) (spawns (x ∷ h)) (λ o. shape (object u o)) (forget u)
  pub origins : Origins (x ∷ h) (λ o. shape (object u o))
  pub log_right : LogRight h x u.log
  pub control_left : ControlLeft h x u.log (tells x.answer).control

-- ---- one entry later

-- the entry of an event that makes nothing: its log, and who has control
pub record Leaves (x : Entry) (c : Option Control) (u : Store) : Type 0 where
  pub happens : x.happened ≡ u.log
  pub controls : (tells x.answer).control ≡ c
  pub makes_none : (tells x.answer).makes ≡ none

pub makes_later : (x : Entry) (m : Option Making) (f : ℕ) → MakesCoroutine m f → MakesCoroutine (later x m) f
unfolding MakesCoroutine later
makes_later x none f k = k
makes_later x (some m) f k = k

-- the words of a history one entry longer
for_then : (h : List Entry) (x : Entry) (l : List LogEntry) (t : ℕ) → x.happened ≡ l → spawned_for (x ∷ h) t ≡ spawned_by (spawned_for h t) l t
unfolding spawned_for
for_then h x l t e = ap (λ (m : List LogEntry). spawned_by (spawned_for h t) m t) e

coroutine-then : (h : List Entry) (x : Entry) (c : Option Control) (t : ℕ) → (tells x.answer).control ≡ c → coroutine_of (x ∷ h) t ≡ started_by c t (coroutine_of h t)
unfolding coroutine_of
coroutine-then h x c t e = ap (λ (y : Option Control). started_by y t (coroutine_of h t)) e

count-then : (h : List Entry) (x : Entry) (l : List LogEntry) → x.happened ≡ l → spawns (x ∷ h) ≡ spawns_in l + spawns h
unfolding spawns
count-then h x l e = ap (λ (m : List LogEntry). spawns_in m + spawns h) e

pub spawns-later : (h : List Entry) (x : Entry) (u : Store) (c : Option Control) (N : ℕ → Shape) → x.happened ≡ u.log → (tells x.answer).control ≡ c
    → Spawned (spawned_for h) (λ t. started_by c t (coroutine_of h t)) (spawns h) N u → Spawned (spawned_for (x ∷ h)) (coroutine_of (x ∷ h)) (spawns (x ∷ h)) N (forget u)
spawns-later h x u c N e q k =
    spawned_as _ _ _ _ _ _ N N (forget u) (λ t. for_then h x u.log t e) (λ t. coroutine-then h x c t q) (count-then h x u.log e) (λ o. refl)
    (spawned-then (spawned_for h) (λ t. started_by c t (coroutine_of h t)) (spawns h) N u k)

left_of : (h : List Entry) (x : Entry) (u : Store) (c : Option Control) → Leaves x c u → Spawned (spawned_for h) (λ t. started_by c t (coroutine_of h t)) (spawns h) (λ o. shape (object u o)) u
    → ((o : ℕ) → (names_by c o || named h o) ≡ is_used (shape (object u o))) → ((o f : ℕ) → shape (object u o) ≡ new f → MakesCoroutine (making h o) f) → LogRight h x u.log → ControlLeft h x u.log c
    → Left h x u
left_of h x u c e k nm mk l ct =
    record {
      spawns_are = spawns-later h x u c _ e.happens e.controls k;
      origins = record {
        named_is = λ o. unfold named in (ap (λ (y : Option Control). names_by y o || named h o) e.controls ∙ nm o);
        made_by = λ o f q. subst (λ (m : Option Making). MakesCoroutine m f) (sym (none_made x h o e.makes_none)) (makes_later x (making h o) f (mk o f q));
      };
      log_right = l;
      control_left = subst (ControlLeft h x u.log) (sym e.controls) ct;
    }

-- an answer that starts nothing and runs nothing inline
pub record Plain (c : Option Control) : Type 0 where
  pub names : (o : ℕ) → names_by c o ≡ false
  pub begins : (t : ℕ) (r : Option ℕ) → started_by c t r ≡ r

pub none-plain : Plain none
unfolding names_by started_by
none-plain = record { names = λ o. refl; begins = λ t r. refl }

pub waits-plain : (cs : List ℕ) → Plain (some (waits cs))
unfolding names_by started_by
waits-plain cs = record { names = λ o. refl; begins = λ t r. refl }

pub value-plain : (t : ℕ) (v : Value) → Plain (some (runs t (value v)))
unfolding names_by started_by
value-plain t v = record { names = λ o. refl; begins = λ u r. refl }

pub raises-plain : (t : ℕ) (e : Error) → Plain (some (runs t (raises e)))
unfolding names_by started_by
raises-plain t e = record { names = λ o. refl; begins = λ u r. refl }

moment_task : (s : Store) (m : Moment) (t : ℕ) → task (set_moment s m) t ≡ task s t
unfolding set_moment put_header task
moment_task s m t = refl

moment_log : (s : Store) (m : Moment) → (set_moment s m).log ≡ s.log
unfolding set_moment put_header
moment_log s m = refl

state_log : (s : Store) (t : ℕ) (x : TaskState) → (set_state s t x).log ≡ s.log
unfolding set_state put_task
state_log s t x = refl

state_object : (s : Store) (t : ℕ) (x : TaskState) (o : ℕ) → object (set_state s t x) o ≡ object s o
unfolding set_state put_task object
state_object s t x o = refl

state_header : (s : Store) (t : ℕ) (x : TaskState) → header (set_state s t x) ≡ header s
unfolding set_state put_task header
state_header s t x = refl

state_row : (s : Store) (t : ℕ) (x : TaskState) (v : ℕ) → task (set_state s t x) v ≡ task (put_task s t (restate (task s t) x)) v
unfolding set_state
state_row s t x v = refl

module _ (h : List Entry) (x : Entry) (N : ℕ → Shape) (origins : Origins h N) where
  abbrev L : Store → Type 0
  L u = Logged h x N u

  abbrev S : ℕ → Option ℕ
  S = spawned_for h

  abbrev C : ℕ → Option ℕ
  C = coroutine_of h

  -- another moment
  moved_logged : (s : Store) (m : Moment) → MomentFits m → L s → L (set_moment s m)
  moved_logged s m f k =
      record {
        tracked = (tracked_closed (lives h) (stays_blocked h)).moved s m f k.tracked;
        spawns_are =
            spawned_like S C (spawns h) N s (set_moment s m) (sized-set_moment s m k.tracked.sized) (same-spawns S s _ (moment_log s m)) (moment_head s m k.tracked.sized f).0
            (λ o. ap shape (moment_row s m o) ∙ k.spawns_are.rows o) (λ t. moment_task s m t) k.spawns_are;
        log_right = subst (LogRight h x) (sym (moment_log s m)) k.log_right;
      }

  -- a woken task runs
  runs-logged : (s : Store) (t : ℕ) → t < task_limit → is_ready (task s t).state ≡ true → is_live (task s t).state ≡ true → is_unstarted (task s t).state ≡ false → L s → L (set_state s t TaskState.Running)
  runs-logged s t l r lv n k =
      record {
        tracked = (tracked_closed (lives h) (stays_blocked h)).runs_on s t l r k.tracked;
        spawns_are =
            state_spawned S C (spawns h) N s t TaskState.Running (set_state s t TaskState.Running) l lv n refl refl (sized-set_state s t TaskState.Running k.tracked.sized) (same-spawns S s _ (state_log s t TaskState.Running))
            (ap (λ (y : Header). y.next) (state_header s t TaskState.Running)) (λ o. state_object s t TaskState.Running o) (λ v. state_row s t TaskState.Running v) k.spawns_are;
        log_right = subst (LogRight h x) (sym (state_log s t TaskState.Running)) k.log_right;
      }

  -- nothing starts
  pub logged_left : (u : Store) (c : Option Control) → Leaves x c u → Plain c → ControlLeft h x u.log c → L u → Left h x u
  logged_left u c e p ct k =
      left_of h x u c e (spawned_as S S C (λ t. started_by c t (C t)) (spawns h) (spawns h) N (λ o. shape (object u o)) u (λ t. refl) (λ t. p.begins t (C t)) refl k.spawns_are.rows k.spawns_are)
      (λ o. ap (λ (b : Bool). b || named h o) (p.names o) ∙ (origins.named_is o ∙ ap is_used (sym (k.spawns_are.rows o))))
      (λ o f q. origins.made_by o f (sym (k.spawns_are.rows o) ∙ q)) k.log_right ct

  -- a task that is live and not blocked has control
  pub control-plain : (u : Store) (t : ℕ) (a : How) → live u t ≡ true → is_blocked (task u t).state ≡ false → StartTold h x u.log t a → L u → ControlLeft h x u.log (some (runs t a))
  unfolding ControlLeft
  control-plain u t a lv b st k = (lives_now h x N u t lv k, free_now h x N u t lv b k, st)

  -- ---- a coroutine is used

  module _ (u : Store) (c f : ℕ) (l : c < object_limit) (row : object u c ≡ Object.Coroutine f CoroutineState.New) (k : L u) where
    abbrev w : Store
    w = put_object u c (Object.Coroutine f CoroutineState.Running)

    fits : f < u32_limit
    fits = subst ObjectFits row (object-fits u c)

    pub was-new : N c ≡ new f
    unfolding shape
    was-new = sym (k.spawns_are.rows c) ∙ ap shape row

    used-spawns : Spawned S C (spawns h) (λ o. shape (object w o)) w
    used-spawns = use_spawned S C (spawns h) N u c f l fits was-new k.spawns_are

    here : shape (object w c) ≡ used f
    unfolding shape
    here = ap shape (object_put-object u c (Object.Coroutine f CoroutineState.Running) k.tracked.sized l fits)

    there : (o : ℕ) → (o ≡ c → ⊥) → shape (object w o) ≡ N o
    there o ne = ap shape (object_put-other u c o (Object.Coroutine f CoroutineState.Running) ne) ∙ k.spawns_are.rows o

    -- by an answer that names it
    used-named : (d : Option Control) → ((o : ℕ) → names_by d o ≡ eqb c o) → (o : ℕ) → (names_by d o || named h o) ≡ is_used (shape (object w o))
    used-named d e o = ap (λ (b : Bool). b || named h o) (e o) ∙ by (ℕ_discrete o c)
      where
        by : Dec (o ≡ c) → (eqb c o || named h o) ≡ is_used (shape (object w o))
        by (yes q) = ap (λ (b : Bool). b || named h o) (eq-eqb c o (sym q)) ∙ sym (ap is_used (subst (λ (m : ℕ). shape (object w m) ≡ used f) (sym q) here))
        by (no ne) = ap (λ (b : Bool). b || named h o) (ne_eqb c o (λ q. ne (sym q))) ∙ (origins.named_is o ∙ ap is_used (sym (there o ne)))

    used-made : (o g : ℕ) → shape (object w o) ≡ new g → MakesCoroutine (making h o) g
    used-made o g q = by (ℕ_discrete o c)
      where
        by : Dec (o ≡ c) → MakesCoroutine (making h o) g
        by (yes e) = absurd (true≢false (sym (ap is_used (subst (λ (m : ℕ). shape (object w m) ≡ used f) (sym e) here)) ∙ ap is_used q))
        by (no ne) = origins.made_by o g (sym (there o ne) ∙ q)

    used-log : w.log ≡ u.log
    used-log = row-log u c (Object.Coroutine f CoroutineState.Running)

    pub unnamed : named h c ≡ false
    unnamed = origins.named_is c ∙ ap is_used was-new

    -- it runs inline, by task t
    pub inline-left : (t : ℕ) → Leaves x (some (runs t (inline c))) (put_object u c (Object.Coroutine f CoroutineState.Running)) → live u t ≡ true → is_blocked (task u t).state ≡ false → (said x).awaits ≡ some c → running h ≡ some t
        → Left h x (put_object u c (Object.Coroutine f CoroutineState.Running))
    inline-left t e lv b aw rn =
        left_of h x w (some (runs t (inline c))) e (spawned_as S S C _ (spawns h) (spawns h) _ _ w (λ v. refl) (λ v. unfold started_by in refl) refl (λ o. refl) used-spawns)
        (used-named (some (runs t (inline c))) (λ o. unfold names_by in refl)) used-made (subst (LogRight h x) (sym used-log) k.log_right)
        (subst (λ (m : List LogEntry). ControlLeft h x m (some (runs t (inline c)))) (sym used-log) (control-plain u t (inline c) lv b (unfold StartTold in (aw, rn, unnamed)) k))

    -- it starts, as the coroutine of task t
    module _ (t : ℕ) (low : t < task_limit) (un : (task u t).state ≡ TaskState.Unstarted) (its : (task u t).coroutine.0 ≡ c) where
      abbrev how : Option Control
      how = some (runs t (start c f))

      abbrev v : Store
      v = set_state w t TaskState.Running

      lv : is_live (task u t).state ≡ true
      lv = ap is_live un

      same_row : task w t ≡ task u t
      same_row = row-task u c (Object.Coroutine f CoroutineState.Running) t

      started-spawns : Spawned S (λ y. started_by how y (C y)) (spawns h) (λ o. shape (object w o)) v
      started-spawns =
          runs-spawned S C (spawns h) (λ o. shape (object w o)) (λ y. started_by how y (C y)) w t TaskState.Running v low (ap (λ (r : Task). is_live r.state) same_row ∙ lv)
          (λ m q. ap (λ (r : Task). is_used (shape (object w r.coroutine.0))) same_row ∙ (ap (λ (y : ℕ). is_used (shape (object w y))) its ∙ ap is_used here)) refl refl
          (λ y ne. unfold started_by in (ap (λ (b : Bool). elim b [ true ↦ some c | false ↦ C y ]) (ne_eqb t y (λ q. ne (sym q)))))
          (sized-set_state w t TaskState.Running used-spawns.sized) (same-spawns S w _ (state_log w t TaskState.Running))
          (ap (λ (y : Header). y.next) (state_header w t TaskState.Running)) (λ o. state_object w t TaskState.Running o) (λ y. state_row w t TaskState.Running y) used-spawns

      abbrev z : Store
      z = set_moment v (Moment.Running (task_id t))

      final-object : (o : ℕ) → shape (object z o) ≡ shape (object w o)
      final-object o = ap shape (moment_row v (Moment.Running (task_id t)) o ∙ state_object w t TaskState.Running o)

      final-log : z.log ≡ u.log
      final-log = moment_log v (Moment.Running (task_id t)) ∙ (state_log w t TaskState.Running ∙ used-log)

      moved-spawns : Spawned S (λ y. started_by how y (C y)) (spawns h) (λ o. shape (object z o)) z
      moved-spawns =
          spawned_like S (λ y. started_by how y (C y)) (spawns h) (λ o. shape (object z o)) v z (sized-set_moment v _ started-spawns.sized) (same-spawns S v z (moment_log v (Moment.Running (task_id t)))) (moment_head v (Moment.Running (task_id t)) started-spawns.sized low).0
          (λ o. refl) (λ y. moment_task v (Moment.Running (task_id t)) y)
          (spawned_as S S _ _ (spawns h) (spawns h) _ _ v (λ y. refl) (λ y. refl) refl (λ o. final-object o) started-spawns)

      -- the row of a task that has not run yet
      its-row : TaskFrom S C N u.log t (task u t)
      its-row = by t refl
        where
          by : (y : ℕ) → t ≡ y → TaskFrom S C N u.log t (task u t)
          by zero q = absurd (true≢false (sym (ap is_unstarted un) ∙ subst (λ (m : ℕ). is_unstarted (task u m).state ≡ false) (sym q) k.spawns_are.main))
          by (suc y) q =
              subst (λ (m : ℕ). TaskFrom S C N u.log m (task u m)) (sym q)
              (k.spawns_are.tasks y (subst (λ (m : ℕ). m < (header u).next) q (live_below S C (spawns h) N u t low lv k.spawns_are)) (subst (λ (m : ℕ). is_live (task u m).state ≡ true) q lv))

      told : StartTold h x u.log t (start c f)
      unfolding StartTold
      told = (its-row.origin ∙ ap (λ (y : ℕ). some y) its, its-row.fresh (ap is_unstarted un), unnamed, origins.made_by c f was-new)

      start_left : Leaves x how z → Left h x z
      start_left e =
          left_of h x z how e moved-spawns (λ o. used-named how (λ y. unfold names_by in refl) o ∙ ap is_used (sym (final-object o))) (λ o g q. used-made o g (sym (final-object o) ∙ q))
          (subst (LogRight h x) (sym final-log) k.log_right)
          (subst (λ (m : List LogEntry). ControlLeft h x m how) (sym final-log) (control-plain u t (start c f) (is_live_now h x N u t low lv k) (ap is_blocked un) told k))

  -- ---- a switch

  abbrev EndLeft : Switched → Type 0
  EndLeft y = Leaves x (some y.control) y.store → Left h x y.store

  pub ends-left : (y : Switched) → Ends L y → EndLeft y
  ends-left y (waited u k e) = subst EndLeft (sym e) (by)
    where
      by : EndLeft (yield u)
      by = unfold yield in (λ l. logged_left (set_moment u Moment.Waiting) _ l (waits-plain _) (unfold ControlLeft in tt) (moved_logged u Moment.Waiting tt k))
  ends-left y (started u t f l k un nw e) = subst EndLeft (sym e) by
    where
      by : EndLeft (run (put_object u (task u t).coroutine.0 (Object.Coroutine f CoroutineState.Running)) t (start (task u t).coroutine.0 f))
      by = unfold run in (start_left u (task u t).coroutine.0 f (task-fits u t).coroutine_fits (new-object (object u (task u t).coroutine.0) f nw) k t l un refl)
  ends-left y (woke u t v l k st e) = subst EndLeft (sym e) by
    where
      by : EndLeft (run u t (value v))
      by = unfold run in (λ q. logged_left _ _ q (value-plain t v) (subst (λ (m : List LogEntry). ControlLeft h x m (some (runs t (value v)))) (sym (moment_log _ (Moment.Running (task_id t)) ∙ state_log u t TaskState.Running))
          (control-plain u t (value v) (is_live_now h x N u t l (ap is_live st) k) (ap is_blocked st) (unfold StartTold in tt) k))
          (moved_logged _ (Moment.Running (task_id t)) l (runs-logged u t l (ap is_ready st) (ap is_live st) (ap is_unstarted st) k)))
  ends-left y (raised_it u t v l k st e) = subst EndLeft (sym e) by
    where
      by : EndLeft (run u t (raises v))
      by = unfold run in (λ q. logged_left _ _ q (raises-plain t v) (subst (λ (m : List LogEntry). ControlLeft h x m (some (runs t (raises v)))) (sym (moment_log _ (Moment.Running (task_id t)) ∙ state_log u t TaskState.Running))
          (control-plain u t (raises v) (is_live_now h x N u t l (ap is_live st) k) (ap is_blocked st) (unfold StartTold in tt) k))
          (moved_logged _ (Moment.Running (task_id t)) l (runs-logged u t l (ap is_ready st) (ap is_live st) (ap is_unstarted st) k)))
