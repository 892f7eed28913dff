-- Rows and history agree after a completion: the running task's coroutine delivers its value, which it had not before.
use Rattle.std.specs.Prelude.{◌≡◌, Bool, not, List, [], ◌∷◌, T, eqb, length}
use Rattle.std.proofs.Math.Path.{refl, ap, ap₂, subst}
use Rattle.std.proofs.Common.{sym, ◌∙◌, true≢false, arith}
use Rattle.std.proofs.Math.Bool.{true, false}
use Rattle.std.proofs.Math.Option.{Option, none, some, some-injective}
use Prim.Native.Nat.{ℕ, zero, suc, ◌+◌, ◌≤◌, ◌<◌}
use Rattle.std.proofs.Math.Nat.{not-suc-le-zero}
use Rattle.std.proofs.Math.Decide.{ℕ_discrete}
use borrow.Author.Tests.{eq-eqb, ne_eqb, eqb-true}
use Rattle.asyncio.specs.declared.TaskId.{TaskId}
use Rattle.asyncio.specs.declared.Value.{Value}
use Rattle.asyncio.specs.Options.{OptionValue}
use Rattle.std.specs.Prelude.{None, Some}
use Rattle.asyncio.specs.declared.TaskState.{TaskState}
use Rattle.asyncio.specs.declared.Task.{Task}
use Rattle.asyncio.specs.declared.Awaiter.{Awaiter}
use Rattle.asyncio.specs.declared.CoroutineState.{CoroutineState}
use Rattle.asyncio.specs.declared.Object.{Object}
use Rattle.asyncio.specs.declared.Moment.{Moment}
use Rattle.asyncio.specs.declared.Header.{Header}
use Rattle.asyncio.specs.Limits.{object_limit, task_limit}
use Rattle.asyncio.specs.Numbers.{heap_id, task_id}
use Rattle.asyncio.specs.Ranges.{ValueFits}
use Rattle.asyncio.specs.Layout.{object_words, to_object, to_value}
use Rattle.asyncio.specs.Parts.{awaiter_of}
use Rattle.asyncio.specs.Kinds.{kind, is_completed}
use Rattle.asyncio.specs.States.{pick, is_live, is_unstarted}
use Rattle.machine.specs.Store.{Store, view, task, object, place, header, put_object, put_task, add_log, exited, absent, put_queue}
use Rattle.machine.specs.Scheduler.{remove_task, remove_from_ready_queue, is_task_of, cleanup}
use Rattle.machine.specs.Delivery.{deliver_awaiter_success, value_or}
use Rattle.machine.specs.Events.{Control, Result, Switched, activate, completed, resume_after_task_exit, handle_task_completion}
use Rattle.machine.specs.Machine.{Event, Answer, Step, switched, end_main, task_completes}
use Rattle.machine.specs.Sound.{value_known, is_task_of_at}
use Rattle.machine.specs.Tests.{◌and◌}
use Rattle.machine.specs.History.{Entry, Making, Says, says, said, tells, done_only, is_at, reply_in, first_reply, reply_error, later, making, runner_by, running, started_by, coroutine_of, running_coroutine, completed_value}
use Rattle.machine_laws.specs.Views.{Sized}
use Rattle.machine_laws.specs.Facts.{Nothing}
use Rattle.machine_laws.specs.StoreLaws.{header-fits, header_put-object, object_put-other, task-fits, live-put_task, task_put-other, sized-put_object, sized-put_task, sized-put_queue, sized-add_log}
use Rattle.machine_laws.specs.DeliveryLaws.{absurd_some}
use Rattle.machine_laws.specs.MakingLaws.{value-fits}
use Rattle.machine_theorems.specs.Soundness.Stores.{SoundStore}
use Rattle.machine_theorems.specs.Soundness.Exits.{runner_low, runner-runs, runner-live}
use Rattle.machine_theorems.specs.Soundness.Cycle.{spawned_of, coroutine-is}
use Rattle.machine.specs.Sessions.{entry_of}
use Rattle.machine_sessions.specs.Waits.{said-accepted}
use Rattle.machine_sessions.specs.Waits.Calls.{read_back}
use Rattle.machine_sessions.specs.Places.Told.{Frozen, unmade, co, pends, gave, broke, many, frozen, told, EndsTask, TaskTold, Holds, Told, Gives, gone-told}
use Rattle.machine_sessions.specs.Places.Telling.{EndsOrReuse, completion_ends, gives_own, GivesTo}
use Rattle.machine_sessions.specs.Places.ToldEnds.{told_same, told_as, told_now, Left, ended-left}
use Rattle.machine_sessions.specs.Places.Agrees.{reply_row, Makes, MadeRight, Agrees, Moved, only_changes_agrees, made-later, none_made}
use Rattle.machine_sessions.specs.Places.AgreesEvents.{StepAgrees, end_moved}

-- ---- the value completed while coroutine c's task ran

unfoldable value_by : Bool → Option Value → Option Value → Option Value
value_by true none y = y
value_by true (some v) y = some v
value_by false x y = y

value-then : (x : Entry) (h : List Entry) (o : ℕ) → completed_value (x ∷ h) o ≡ value_by (is_at (running_coroutine h) o) (said x).completes (completed_value h o)
unfolding completed_value
value-then x h o = by (is_at (running_coroutine h) o) (said x).completes
  where
    by : (b : Bool) (y : Option Value) → elim b [ true ↦ elim y [ none ↦ completed_value h o | some v ↦ some v ] | false ↦ completed_value h o ] ≡ value_by b y (completed_value h o)
    by true none = unfold value_by in refl
    by true (some v) = unfold value_by in refl
    by false y = unfold value_by in refl

pub runs-coroutine : (h : List Entry) (t : ℕ) → running h ≡ some t → running_coroutine h ≡ coroutine_of h t
unfolding running_coroutine
runs-coroutine h t e = ap (λ (y : Option ℕ). elim y [ none ↦ none | some u ↦ coroutine_of h u ]) e

-- ---- a coroutine's making

abbrev IsCo : Frozen → Type 0
IsCo unmade = ⊥
IsCo (co b) = Unit {0}
IsCo (pends c r) = ⊥
IsCo (gave v) = ⊥
IsCo (broke e) = ⊥
IsCo (many f n) = ⊥

no_reply : (c : ℕ) (r : OptionValue) (x : Option Result) (b : Bool) → co b ≡ reply_row c r x → ⊥
unfolding reply_row
no_reply c r none b e = subst IsCo e tt
no_reply c r (some x) b e = by (eqb x.kind 0) e
  where
    by : (a : Bool) → co b ≡ pick a (gave (value_or r (to_value x.tag x.number))) (broke (reply_error x)) → ⊥
    by true d = subst IsCo d tt
    by false d = subst IsCo d tt

makes_done : (x : Entry) (e : Event) (since : List Entry) (y z : Frozen) (i j : ℕ → ℕ) (b c : Bool) → y ≡ co b → z ≡ co c → Makes e since y i → Makes e (x ∷ since) z j
unfolding Makes
makes_done x (Event.coroutine f) since y z i j b c p r k = (c, r)
makes_done x Event.call since y z i j b c p r k = k
makes_done x (Event.pending d v) since y z i j b c p r k = absurd (no_reply d v (first_reply since d) b (sym p ∙ k))
makes_done x (Event.settled v) since y z i j b c p r k = absurd (subst IsCo (sym p ∙ k) tt)
makes_done x (Event.gather os) since y z i j b c p r k = absurd (subst IsCo (sym p ∙ k.1) tt)
makes_done x (Event.await o) since y z i j b c p r k = k
makes_done x (Event.complete v) since y z i j b c p r k = k
makes_done x (Event.fail n) since y z i j b c p r k = k
makes_done x (Event.results rs) since y z i j b c p r k = k
makes_done x Event.resume since y z i j b c p r k = k
makes_done x (Event.cancel t) since y z i j b c p r k = k
makes_done x (Event.show o) since y z i j b c p r k = k
makes_done x Event.eager since y z i j b c p r k = k

made-done : (x : Entry) (m : Option Making) (n l o : ℕ) (y z : Frozen) (i j : ℕ → ℕ) (b c : Bool) → l ≡ n → y ≡ co b → z ≡ co c → MadeRight m n o y i → MadeRight (later x m) l o z j
unfolding MadeRight later
made-done x none n l o y z i j b c a p r k = subst (λ (v : ℕ). v ≤ o) (sym a) k
made-done x (some m) n l o y z i j b c a p r k = (subst (λ (v : ℕ). o < v) (sym a) k.0, makes_done x m.event m.since y z i j b c p r k.1)

-- ---- main completes

module _ (h : List Entry) (s : Store) (w : SoundStore s) (k : Agrees h s) where
  main-values : (x : Entry) → (header s).moment ≡ Moment.Running (task_id 0) → (o : ℕ) → completed_value (x ∷ h) o ≡ completed_value h o
  unfolding value_by is_at
  main-values x m o =
      value-then x h o ∙ ap (λ (y : Option ℕ). value_by (is_at y o) (said x).completes (completed_value h o)) (runs-coroutine h 0 (k.runner (task_id 0) m) ∙ k.main)

  main-completes : (v : Value) → (header s).moment ≡ Moment.Running (task_id 0) → StepAgrees h (Event.complete v) (end_main s (Answer.finished v))
  unfolding end_main tells done_only entry_of
  main-completes v m =
      only_changes_agrees _ h s (cleanup s) k (ap (λ (z : Says). z.results) (said-accepted (Event.complete v) (Answer.finished v) (cleanup s) (unfold tells done_only in refl)) ∙ (unfold says in refl))
      (main-values _ m) refl (end_moved h s w k)

  -- ---- a spawned task does

  module _ (t : ℕ) (v : Value) (m : (header s).moment ≡ Moment.Running (task_id (suc t))) (kn : T (value_known (header s).made (object s) v)) where
    abbrev r : Task
    r = task s (suc t)

    abbrev c : ℕ
    c = r.coroutine.0

    abbrev D : ℕ → Option Value
    D = completed_value h

    abbrev S : ℕ → Option ℕ
    S = coroutine_of h

    low : suc t < (header s).next
    low = runner_low s (suc t) w m

    runs_now : r.state ≡ TaskState.Running
    runs_now = runner-runs s (suc t) w m

    mine : TaskTold D S (suc t) r
    mine = k.told.tasks t low (ap is_live runs_now)

    fresh : D c ≡ none
    fresh = mine.undelivered

    its : running_coroutine h ≡ some c
    its = runs-coroutine h (suc t) (k.runner (task_id (suc t)) m) ∙ mine.started (ap is_unstarted runs_now)

    -- the values from now on
    E : ℕ → Option Value
    E o = value_by (eqb c o) (some v) (D o)

    E-here : E c ≡ some v
    unfolding E value_by
    E-here = ap (λ (b : Bool). value_by b (some v) (D c)) (eq-eqb c c refl)

    E-other : (o : ℕ) → (o ≡ c → ⊥) → E o ≡ D o
    unfolding E value_by
    E-other o ne = ap (λ (b : Bool). value_by b (some v) (D o)) (ne_eqb c o (λ e. ne (sym e)))

    E-is : (x : Entry) → (said x).completes ≡ some v → (o : ℕ) → completed_value (x ∷ h) o ≡ E o
    unfolding E is_at
    E-is x e o = value-then x h o ∙ ap₂ (λ (y : Option ℕ) (z : Option Value). value_by (is_at y o) z (D o)) its e

    -- the store as the value sets out
    done : Store
    done = put_object s c (completed (object s c))

    left : Store
    left = add_log (remove_task done (suc t)) (exited (suc t))

    the-coroutine : (f : ℕ) × (y : CoroutineState) × (object s c ≡ Object.Coroutine f y)
    unfolding view
    the-coroutine = coroutine-is (object s c) (spawned_of t w.facts.but low (runner-live s (suc t) w m)).coroutine

    c-made : c < (header s).made
    unfolding view
    c-made = (spawned_of t w.facts.but low (runner-live s (suc t) w m)).made

    was-co : (b : Bool) × (frozen (object s c) ≡ co b)
    was-co = by the-coroutine.1 the-coroutine.2
      where
        by : (y : CoroutineState) → object s c ≡ Object.Coroutine the-coroutine.0 y → (b : Bool) × (frozen (object s c) ≡ co b)
        by CoroutineState.New e = (false, ap frozen e ∙ (unfold frozen in refl))
        by CoroutineState.Running e = (false, ap frozen e ∙ (unfold frozen in refl))
        by CoroutineState.Completed e = (true, ap frozen e ∙ (unfold frozen in refl))

    rows : (o : ℕ) → object left o ≡ object done o
    unfolding left
    rows o = unfold object add_log remove_task remove_from_ready_queue put_queue put_task in refl

    c-low : c < object_limit
    c-low = (task-fits s (suc t)).coroutine_fits

    done-row : object done c ≡ to_object (object_words (Object.Coroutine the-coroutine.0 CoroutineState.Completed))
    unfolding done completed
    done-row = read_back s c (completed (object s c)) w.memory.sized c-low ∙ ap (λ (y : Object). to_object (object_words (completed y))) the-coroutine.2

    now-co : frozen (object left c) ≡ co true
    unfolding frozen
    now-co = ap frozen (rows c ∙ done-row)

    other_row : (o : ℕ) → (o ≡ c → ⊥) → object left o ≡ object s o
    unfolding done
    other_row o ne = rows o ∙ object_put-other s c o _ ne

    abbrev Q : ℕ → Frozen
    Q o = frozen (object left o)

    tasks-left : (u : ℕ) → (u ≡ suc t → ⊥) → task left u ≡ task s u
    tasks-left u ne = at_left u ∙ (task_put-other done (suc t) u absent ne ∙ at_done u)
      where
        at_left : (u : ℕ) → task left u ≡ task (put_task done (suc t) absent) u
        at_left u = unfold left add_log remove_task remove_from_ready_queue put_queue task in refl

        at_done : (u : ℕ) → task done u ≡ task s u
        at_done u = unfold done task put_object in refl

    sized-done : Sized done
    unfolding done
    sized-done = sized-put_object s c _ w.memory.sized

    gone : is_live (task left (suc t)).state ≡ false
    unfolding absent
    gone = ap (λ (y : Task). is_live y.state) at_left ∙ live-put_task done (suc t) absent sized-done (omega (arith, low, (header-fits s).next_fits))
      where
        at_left : task left (suc t) ≡ task (put_task done (suc t) absent) (suc t)
        at_left = unfold left add_log remove_task remove_from_ready_queue put_queue task in refl

    sized-left : Sized left
    unfolding left remove_task remove_from_ready_queue
    sized-left = sized-add_log _ _ (sized-put_queue _ _ (sized-put_task done (suc t) absent sized-done))

    head-left : header left ≡ header s
    head-left = at_left ∙ at_done
      where
        at_left : header left ≡ header done
        at_left = unfold left add_log remove_task remove_from_ready_queue put_queue put_task header in refl

        at_done : header done ≡ header s
        at_done = unfold done in (header_put-object s c _)

    places-left : (p : ℕ) → place left p ≡ place s p
    places-left p = unfold left done place add_log remove_task remove_from_ready_queue put_queue put_task put_object in refl

    -- a place that names the coroutine is not filled
    here-holds : (x : OptionValue) → Holds (λ o. frozen (object s o)) D c x → Holds Q E c x
    unfolding told
    here-holds None y = tt
    here-holds (Some z) y = absurd_some (sym (ap (told D c) was-co.1 ∙ fresh) ∙ y)

    other-holds : (o : ℕ) → (o ≡ c → ⊥) → (x : OptionValue) → Holds (λ o. frozen (object s o)) D o x → Holds Q E o x
    other-holds o ne None y = tt
    other-holds o ne (Some z) y = ap (λ (x : Object). told E o (frozen x)) (other_row o ne) ∙ (told_same D E o (frozen (object s o)) (E-other o ne) ∙ y)

    is_task_of_it : (u : ℕ) → is_live (task s (suc u)).state ≡ true → (task s (suc u)).coroutine.0 ≡ c → T (is_task_of_at (task s) c (suc u))
    unfolding is_task_of_at is_task_of ◌and◌
    is_task_of_it u l e = rw (ne_eqb (suc u) 0 (λ y. not-suc-le-zero {n = 0} (omega arith)), l, eq-eqb (task s (suc u)).coroutine.0 c e) tt

    left-told : Told Q (header s).made (λ p. (place s p).item.0) E S left
    unfolding view
    left-told =
        record {
          sized = sized-left;
          made = ap (λ (y : Header). y.made) head-left;
          begun = subst (λ (y : Header). 1 ≤ y.next) (sym head-left) k.told.begun;
          rows = λ o. refl;
          items = λ p. ap (λ y. y.item.0) (places-left p);
          holds = λ p. subst (λ y. Holds Q E (place s p).item.0 y.result) (sym (places-left p)) (by p (ℕ_discrete (place s p).item.0 c));
          own = λ o. own-by o (ℕ_discrete o c);
          tasks = λ u l lv. task-by u (subst (λ (y : Header). suc u < y.next) head-left l) lv (ℕ_discrete (suc u) (suc t));
          main = ap (λ (y : Task). is_unstarted y.state) (tasks-left 0 (λ e. not-suc-le-zero {n = 0} (omega arith))) ∙ k.told.main;
        }
      where
        by : (p : ℕ) → Dec ((place s p).item.0 ≡ c) → Holds Q E (place s p).item.0 (place s p).result
        by p (yes e) = subst (λ (o : ℕ). Holds Q E o (place s p).result) (sym e) (here-holds (place s p).result (subst (λ (o : ℕ). Holds (λ o. frozen (object s o)) D o (place s p).result) e (k.told.holds p)))
        by p (no ne) = other-holds (place s p).item.0 ne (place s p).result (k.told.holds p)

        own-by : (o : ℕ) → Dec (o ≡ c) → EndsTask o (awaiter_of (object left o))
        own-by o (yes e) = subst (λ (y : ℕ). EndsTask y (awaiter_of (object left y))) (sym e) (subst (λ (y : Object). EndsTask c (awaiter_of y)) (sym (rows c ∙ done-row)) (unfold awaiter_of in tt))
        own-by o (no ne) = subst (λ (y : Object). EndsTask o (awaiter_of y)) (sym (other_row o ne)) (k.told.own o)

        task-by : (u : ℕ) → suc u < (header s).next → is_live (task left (suc u)).state ≡ true → Dec (suc u ≡ suc t) → TaskTold E S (suc u) (task left (suc u))
        task-by u l lv (yes e) = absurd (true≢false (sym lv ∙ subst (λ (y : ℕ). is_live (task left y).state ≡ false) (sym e) gone))
        task-by u l lv (no ne) =
            let same : task left (suc u) ≡ task s (suc u) = tasks-left (suc u) ne in
            let lv1 : is_live (task s (suc u)).state ≡ true = sym (ap (λ (y : Task). is_live y.state) same) ∙ lv in
            let y : TaskTold D S (suc u) (task s (suc u)) = k.told.tasks u l lv1 in
            let apart : (task s (suc u)).coroutine.0 ≡ c → ⊥ = λ e. ne (w.facts.but.task_of c (suc u) (suc t) l low (is_task_of_it u lv1 e) (is_task_of_it t (ap is_live runs_now) refl)) in
            subst (TaskTold E S (suc u)) (sym same) (record { undelivered = E-other _ apart ∙ y.undelivered; started = y.started; own = y.own })

    ended : EndsOrReuse Q (header s).made (λ p. (place s p).item.0) E S (handle_task_completion s (suc t) v)
    unfolding handle_task_completion left done told
    ended =
        completion_ends Q (header s).made (λ p. (place s p).item.0) E S left r.awaiter v (task-fits s (suc t)).awaiter_fits
        (gives_own Q (header s).made (λ p. (place s p).item.0) E S c r.awaiter v mine.own (record { tells = tells-now; fits = value-fits (header s).made (object s) v (header-fits s).made_fits kn }))
        left-told
      where
        tells-now : told E c (Q c) ≡ some v
        tells-now = ap (told E c) now-co ∙ E-here

    completes-agrees : StepAgrees h (Event.complete v) (switched (handle_task_completion s (suc t) v))
    unfolding switched entry_of coroutine_of running tells
    completes-agrees =
        record {
          told = told_now _ _ _ E _ _ _ u (E-is x completes-it) (λ o. refl) y.told;
          done = λ o z e. y.told.rows o ∙ done-by o z (sym (E-is x completes-it o) ∙ e) (ℕ_discrete o c);
          runner = λ o e. y.runner (running h) o e;
          main = y.main k.main;
          behind = λ o l. y.told.rows o ∙ (ap frozen (other_row o (λ d. not-suc-le-zero {n = 0} (omega (arith, subst (λ (a : ℕ). a ≤ o) y.told.made l, d, c-made)))) ∙ k.behind o (subst (λ (a : ℕ). a ≤ o) y.told.made l));
          makes = λ o. subst (λ (z : Option Making). MadeRight z (header u).made o (frozen (object u o)) (λ p. (place u p).item.0)) (sym (none_made x h o refl)) (makes-by o (ℕ_discrete o c));
        }
      where
        u : Store
        u = (handle_task_completion s (suc t) v).store

        x : Entry
        x = entry_of (Event.complete v) (Answer.control (handle_task_completion s (suc t) v).control) u

        said-it : said x ≡ says (Event.complete v)
        said-it = said-accepted (Event.complete v) (Answer.control (handle_task_completion s (suc t) v).control) u (unfold tells in refl)

        completes-it : (said x).completes ≡ some v
        completes-it = ap (λ (z : Says). z.completes) said-it ∙ (unfold says in refl)

        y : Left Q (header s).made (λ p. (place s p).item.0) E S u (handle_task_completion s (suc t) v).control
        y = ended-left Q (header s).made (λ p. (place s p).item.0) E S _ ended

        done-by : (o : ℕ) (z : Value) → E o ≡ some z → Dec (o ≡ c) → Q o ≡ co true
        done-by o z e (yes d) = subst (λ (j : ℕ). Q j ≡ co true) (sym d) now-co
        done-by o z e (no ne) = ap frozen (other_row o ne) ∙ k.done o z (sym (E-other o ne) ∙ e)

        makes-by : (o : ℕ) → Dec (o ≡ c) → MadeRight (later x (making h o)) (header u).made o (frozen (object u o)) (λ p. (place u p).item.0)
        makes-by o (yes d) =
            made-done x (making h o) (header s).made (header u).made o (frozen (object s o)) (frozen (object u o)) (λ p. (place s p).item.0) (λ p. (place u p).item.0) was-co.0 true y.told.made
            (ap (λ (j : ℕ). frozen (object s j)) d ∙ was-co.1) (y.told.rows o ∙ subst (λ (j : ℕ). Q j ≡ co true) (sym d) now-co) (k.makes o)
        makes-by o (no ne) =
            made-later x (making h o) (header s).made (header u).made o (frozen (object s o)) (frozen (object u o)) (λ p. (place s p).item.0) (λ p. (place u p).item.0)
            (ap (λ (z : Says). z.results) said-it ∙ (unfold says in refl)) y.told.made (y.told.rows o ∙ ap frozen (other_row o ne)) y.told.items (k.makes o)

  pub complete_agrees : (t : ℕ) (v : Value) → (header s).moment ≡ Moment.Running (task_id t) → T (value_known (header s).made (object s) v) → StepAgrees h (Event.complete v) (task_completes s t v)
  unfolding task_completes
  complete_agrees zero v m kn = main-completes v m
  complete_agrees (suc t) v m kn = rw (ne_eqb (suc t) 0 (λ y. not-suc-le-zero {n = 0} (omega arith))) (completes-agrees t v m kn)
