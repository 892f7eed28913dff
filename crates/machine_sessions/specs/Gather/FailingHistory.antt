-- What a history says of coroutines' tasks: for which coroutine each was spawned, that an unstarted one has started none, and that a coroutine which was started,
-- or whose task has failed, is not new.
use Rattle.std.specs.Prelude.{◌≡◌, ◌⊎◌, Bool, ◌&&◌, ◌||◌, eqb, ltb}
use Rattle.std.proofs.Math.Path.{refl, ap, subst}
use Rattle.std.proofs.Common.{sym, ◌∙◌, inl, inr, true≢false, arith, eq-eqb, ne_eqb, eqb-true, ltb-true, ltb-false}
use Rattle.std.proofs.Math.Bool.{true, false, not}
use mathlib.Core.List.{List, [], ◌∷◌}
use Rattle.std.proofs.Math.Option.{Option, none, some, some-injective}
use Prim.Native.Nat.{ℕ, zero, suc, ◌+◌, ◌≤◌, ◌<◌}
use Rattle.std.proofs.Math.Nat.{not-suc-le-zero}
use Rattle.std.proofs.Math.Decide.{ℕ_discrete}
use Rattle.std.proofs.Math.Dec.{T}
use Rattle.asyncio.specs.declared.TaskId.{TaskId}
use Rattle.asyncio.specs.declared.HeapId.{HeapId}
use Rattle.asyncio.specs.declared.Value.{Value}
use Rattle.asyncio.specs.declared.Error.{Error}
use Rattle.asyncio.specs.declared.TaskState.{TaskState}
use Rattle.asyncio.specs.declared.Task.{Task}
use Rattle.asyncio.specs.declared.CoroutineState.{CoroutineState}
use Rattle.asyncio.specs.declared.ExternalFutureState.{ExternalFutureState}
use Rattle.asyncio.specs.declared.GatherState.{GatherState}
use Rattle.asyncio.specs.declared.Object.{Object}
use Rattle.asyncio.specs.declared.Moment.{Moment}
use Rattle.asyncio.specs.declared.Header.{Header}
use Rattle.asyncio.specs.Numbers.{task_id}
use Rattle.asyncio.specs.Kinds.{kind, is_coroutine}
use Rattle.asyncio.specs.States.{is_live, is_unstarted}
use Rattle.machine.specs.Store.{Store, LogEntry, spawned, blocked, reached, exited, removed, view, task, object, place, header, forget}
use Rattle.machine.specs.Events.{How, start, value, raises, inline, Control, runs, waits, new_function}
use Rattle.machine.specs.Machine.{Event, Answer, Step, runner, in_running, refusals, refusal}
use Rattle.machine.specs.History.{Entry, Says, says, said, nothing_said, tells, is_at, is_none, started_by, coroutine_of, running, running_coroutine, completed_value, spawned_by, spawned_for, exits_unstarted, failed_error, coroutine_outcome}
use Rattle.machine.specs.Honest.{exits_in}
use Rattle.machine.specs.Gather.{Outcome}
use Rattle.machine.specs.Sound.{is_task_of_at}
use Rattle.machine.specs.Sessions.{entry_of, happened_by}
use Rattle.machine_laws.specs.DeliveryLaws.{absurd_some}
use Rattle.machine_laws.specs.TestLaws.{holds, both}
use Rattle.machine_laws.specs.SoundLaws.{refusal-rest}
use Rattle.machine_theorems.specs.Soundness.PutTask.{is_task_of_give}
use Rattle.machine_theorems.specs.Soundness.Stores.{SoundStore}
use Rattle.machine_theorems.specs.Soundness.Exits.{runner_low, runner-runs}
use Rattle.machine_theorems.specs.Soundness.Cycle.{Spawned, spawned_of}
use Rattle.machine_theorems.specs.Panics.NoPanicLaws.{main_started}
use Rattle.machine_sessions.specs.Places.Told.{Frozen, co, pends, gave, broke, many, frozen}
use Rattle.machine_sessions.specs.Places.Agrees.{Agrees, no_value}
use Rattle.machine_sessions.specs.Places.PlacesHold.{row_outcome}
use Rattle.machine_sessions.specs.Waits.{said-accepted, said-refused}
use Rattle.machine_sessions.specs.Stall.Outcomes.{is_there}
use Rattle.machine_sessions.specs.Gather.Failing.{RowMoves, CoroutineMoves}
use Rattle.machine_sessions.specs.Gather.FailingRows.{FirstRun, Raised, by_external, by_gather, by_task, by_first_run, ExitAs, before, as_runner, at_first}
use Rattle.machine_sessions.specs.Gather.FailingStated.{RunnerFails, RunnerEnds, completes, fails, TaskFrom, lived, is_new, EventFails}

-- ---- a coroutine that is not new

abbrev pub UsedRow : Object → Type 0
UsedRow Object.Unmade = ⊥
UsedRow (Object.Coroutine f CoroutineState.New) = ⊥
UsedRow (Object.Coroutine f CoroutineState.Running) = Unit {0}
UsedRow (Object.Coroutine f CoroutineState.Completed) = Unit {0}
UsedRow (Object.ExternalFuture c x) = ⊥
UsedRow (Object.GatherFuture f n x) = ⊥

used_moves : (x y : Object) → RowMoves x y → UsedRow x → UsedRow y
used_moves Object.Unmade y p k = absurd k
used_moves (Object.Coroutine f CoroutineState.New) y p k = absurd k
used_moves (Object.Coroutine f CoroutineState.Running) Object.Unmade p k = absurd p
used_moves (Object.Coroutine f CoroutineState.Running) (Object.Coroutine g CoroutineState.New) p k = absurd p.1
used_moves (Object.Coroutine f CoroutineState.Running) (Object.Coroutine g CoroutineState.Running) p k = tt
used_moves (Object.Coroutine f CoroutineState.Running) (Object.Coroutine g CoroutineState.Completed) p k = tt
used_moves (Object.Coroutine f CoroutineState.Running) (Object.ExternalFuture c z) p k = absurd p
used_moves (Object.Coroutine f CoroutineState.Running) (Object.GatherFuture g n z) p k = absurd p
used_moves (Object.Coroutine f CoroutineState.Completed) Object.Unmade p k = absurd p
used_moves (Object.Coroutine f CoroutineState.Completed) (Object.Coroutine g z) p k = subst (λ (a : CoroutineState). UsedRow (Object.Coroutine g a)) (sym p.1) tt
used_moves (Object.Coroutine f CoroutineState.Completed) (Object.ExternalFuture c z) p k = absurd p
used_moves (Object.Coroutine f CoroutineState.Completed) (Object.GatherFuture g n z) p k = absurd p
used_moves (Object.ExternalFuture c x) y p k = absurd k
used_moves (Object.GatherFuture f n x) y p k = absurd k

coroutine-used : (x y : Object) → T (is_coroutine (kind x)) → RowMoves x y → new_function y ≡ none → UsedRow y
unfolding kind new_function
coroutine-used Object.Unmade y c p e = absurd c
coroutine-used (Object.Coroutine f z) Object.Unmade c p e = absurd p
coroutine-used (Object.Coroutine f z) (Object.Coroutine g CoroutineState.New) c p e = absurd_some (sym e)
coroutine-used (Object.Coroutine f z) (Object.Coroutine g CoroutineState.Running) c p e = tt
coroutine-used (Object.Coroutine f z) (Object.Coroutine g CoroutineState.Completed) c p e = tt
coroutine-used (Object.Coroutine f z) (Object.ExternalFuture d a) c p e = absurd p
coroutine-used (Object.Coroutine f z) (Object.GatherFuture g n a) c p e = absurd p
coroutine-used (Object.ExternalFuture d (ExternalFutureState.Pending a r)) y c p e = absurd c
coroutine-used (Object.ExternalFuture d (ExternalFutureState.Resolved v)) y c p e = absurd c
coroutine-used (Object.ExternalFuture d (ExternalFutureState.Failed v)) y c p e = absurd c
coroutine-used (Object.GatherFuture f n GatherState.Pending) y c p e = absurd c
coroutine-used (Object.GatherFuture f n (GatherState.Awaited a m)) y c p e = absurd c
coroutine-used (Object.GatherFuture f n GatherState.Completed) y c p e = absurd c
coroutine-used (Object.GatherFuture f n (GatherState.Failed v)) y c p e = absurd c

abbrev IsMade : Frozen → Type 0
IsMade Frozen.unmade = ⊥
IsMade (co b) = Unit {0}
IsMade (pends c r) = Unit {0}
IsMade (gave v) = Unit {0}
IsMade (broke e) = Unit {0}
IsMade (many f n) = Unit {0}

pub used-made : (x : Object) → UsedRow x → frozen x ≡ Frozen.unmade → ⊥
unfolding frozen
used-made Object.Unmade k e = k
used-made (Object.Coroutine f CoroutineState.New) k e = k
used-made (Object.Coroutine f CoroutineState.Running) k e = subst IsMade e tt
used-made (Object.Coroutine f CoroutineState.Completed) k e = subst IsMade e tt
used-made (Object.ExternalFuture c x) k e = k
used-made (Object.GatherFuture f n x) k e = k

-- ---- the words of a history, one entry later

pub started_none : (c : Option Control) (t : ℕ) (r : Option ℕ) → ((d f : ℕ) → c ≡ some (runs t (start d f)) → ⊥) → started_by c t r ≡ r
unfolding started_by
started_none none t r n = refl
started_none (some (runs u (start d f))) t r n = by (eqb u t) refl
  where
    by : (b : Bool) → eqb u t ≡ b → ◌≡◌ {A = Option ℕ} (elim b [ true ↦ some d | false ↦ r ]) r
    by true e = absurd (n d f (ap (λ (j : ℕ). some (runs j (start d f))) (eqb-true u t e)))
    by false e = refl
started_none (some (runs u (value v))) t r n = refl
started_none (some (runs u (raises e))) t r n = refl
started_none (some (runs u (inline d))) t r n = refl
started_none (some (waits cs)) t r n = refl

pub started-some : (c : Option Control) (t : ℕ) (r : Option ℕ) (d : ℕ) → started_by c t r ≡ some d → ((f : ℕ) × (c ≡ some (runs t (start d f)))) ⊎ (r ≡ some d)
unfolding started_by
started-some none t r d e = inr e
started-some (some (runs u (start b f))) t r d e = by (eqb u t) refl e
  where
    by : (a : Bool) → eqb u t ≡ a → elim a [ true ↦ some b | false ↦ r ] ≡ some d → ((f' : ℕ) × (some (runs u (start b f)) ≡ some (runs t (start d f')))) ⊎ (r ≡ some d)
    by true q e = inl (f, let p : u ≡ t = eqb-true u t q in let i : b ≡ d = some-injective b d e in cc)
    by false q e = inr e
started-some (some (runs u (value v))) t r d e = inr e
started-some (some (runs u (raises x))) t r d e = inr e
started-some (some (runs u (inline b))) t r d e = inr e
started-some (some (waits cs)) t r d e = inr e

started_keeps : (c : Option Control) (t : ℕ) (r : Option ℕ) (d : ℕ) → r ≡ some d → started_by c t r ≡ none → ⊥
unfolding started_by
started_keeps none t r d p e = absurd_some (sym e ∙ p)
started_keeps (some (runs u (start b f))) t r d p e = at (eqb u t) e
  where
    at : (i : Bool) → ◌≡◌ {A = Option ℕ} (elim i [ true ↦ some b | false ↦ r ]) none → ⊥
    at true i = absurd_some (sym i)
    at false i = absurd_some (sym i ∙ p)
started_keeps (some (runs u (value v))) t r d p e = absurd_some (sym e ∙ p)
started_keeps (some (runs u (raises v))) t r d p e = absurd_some (sym e ∙ p)
started_keeps (some (runs u (inline v))) t r d p e = absurd_some (sym e ∙ p)
started_keeps (some (waits cs)) t r d p e = absurd_some (sym e ∙ p)

pub some-is_at : (x : Option ℕ) (c : ℕ) → x ≡ some c → is_at x c ≡ true
unfolding is_at
some-is_at x c e = ap (λ (y : Option ℕ). is_at y c) e ∙ eq-eqb c c refl

none_is : (x : Option ℕ) → is_none x ≡ true → x ≡ none
unfolding is_none
none_is none e = refl
none_is (some n) e = absurd (true≢false (sym e))

is_none-is : (x : Option ℕ) → x ≡ none → is_none x ≡ true
unfolding is_none
is_none-is x e = ap is_none e

both_true : (a b : Bool) → (a && b) ≡ true → (a ≡ true) × (b ≡ true)
both_true true b e = (refl, e)
both_true false b e = absurd (true≢false (sym e))

-- an exit of a task that had started none
pub record ExitsOf (f g : ℕ → Option ℕ) (hs : List LogEntry) (c : ℕ) : Type 0 where
  pub who : ℕ
  pub exits : exits_in hs who ≡ true
  pub for_it : f who ≡ some c
  pub none_started : g who ≡ none

exits-later : {f g : ℕ → Option ℕ} {hs : List LogEntry} {c : ℕ} (x : LogEntry) → ((t : ℕ) → exits_in hs t ≡ true → exits_in (x ∷ hs) t ≡ true) → ExitsOf f g hs c → ExitsOf f g (x ∷ hs) c
exits-later x h k = record { who = k.who; exits = h k.who k.exits; for_it = k.for_it; none_started = k.none_started }

pub exits-found : (f g : ℕ → Option ℕ) (hs : List LogEntry) (c : ℕ) → exits_unstarted f g hs c ≡ true → ExitsOf f g hs c
unfolding exits_unstarted exits_in
exits-found f g [] c e = absurd (true≢false (sym e))
exits-found f g (spawned u d ∷ hs) c e = exits-later (spawned u d) (λ t i. i) (exits-found f g hs c e)
exits-found f g (blocked u ∷ hs) c e = exits-later (blocked u) (λ t i. i) (exits-found f g hs c e)
exits-found f g (reached u ∷ hs) c e = exits-later (reached u) (λ t i. i) (exits-found f g hs c e)
exits-found f g (exited u ∷ hs) c e = by (is_at (f u) c && is_none (g u)) refl e (exits-found f g hs c)
  where
    by : (b : Bool) → (is_at (f u) c && is_none (g u)) ≡ b → (b || exits_unstarted f g hs c) ≡ true → (exits_unstarted f g hs c ≡ true → ExitsOf f g hs c) → ExitsOf f g (exited u ∷ hs) c
    by true q e ih =
        let y = both_true (is_at (f u) c) (is_none (g u)) q in
        record { who = u; exits = unfold exits_in in (ap (λ (b : Bool). b || exits_in hs u) (eq-eqb u u refl)); for_it = is_there (f u) c y.0; none_started = none_is (g u) y.1 }
    by false q e ih = exits-later (exited u) (λ t i. more (eqb u t) (exits_in hs t) i) (ih e)
      where
        more : (a b : Bool) → b ≡ true → (a || b) ≡ true
        more true b i = refl
        more false b i = i
exits-found f g (removed u ∷ hs) c e = exits-later (removed u) (λ t i. i) (exits-found f g hs c e)

pub exits_there : (f g : ℕ → Option ℕ) (hs : List LogEntry) (c t : ℕ) → exits_in hs t ≡ true → f t ≡ some c → g t ≡ none → exits_unstarted f g hs c ≡ true
unfolding exits_unstarted exits_in
exits_there f g [] c t e p q = absurd (true≢false (sym e))
exits_there f g (spawned u d ∷ hs) c t e p q = exits_there f g hs c t e p q
exits_there f g (blocked u ∷ hs) c t e p q = exits_there f g hs c t e p q
exits_there f g (reached u ∷ hs) c t e p q = exits_there f g hs c t e p q
exits_there f g (exited u ∷ hs) c t e p q = by (eqb u t) refl e (λ i. exits_there f g hs c t i p q)
  where
    or_true : (a b : Bool) → b ≡ true → (a || b) ≡ true
    or_true true b i = refl
    or_true false b i = i

    by : (b : Bool) → eqb u t ≡ b → (b || exits_in hs t) ≡ true → (exits_in hs t ≡ true → exits_unstarted f g hs c ≡ true) → ((is_at (f u) c && is_none (g u)) || exits_unstarted f g hs c) ≡ true
    by true d e ih =
        let same : u ≡ t = eqb-true u t d in
        rw (some-is_at (f u) c (ap f same ∙ p), is_none-is (g u) (ap g same ∙ q))
    by false d e ih = or_true (is_at (f u) c && is_none (g u)) (exits_unstarted f g hs c) (ih e)
exits_there f g (removed u ∷ hs) c t e p q = exits_there f g hs c t e p q

-- the error of a coroutine's task: of an exit, of a failure, or an earlier one
pub failed-cases : (x : Entry) (h : List Entry) (c : ℕ) (e : Error) → failed_error (x ∷ h) c ≡ some e
    → (exits_unstarted (spawned_for (x ∷ h)) (coroutine_of (x ∷ h)) x.happened c ≡ true) ⊎ ((running_coroutine h ≡ some c) ⊎ (failed_error h c ≡ some e))
unfolding failed_error
failed-cases x h c e q = by (exits_unstarted (spawned_for (x ∷ h)) (coroutine_of (x ∷ h)) x.happened c) refl q
  where
    at : (b : Bool) → is_at (running_coroutine h) c ≡ b → elim b [ true ↦ elim (said x).fails [ none ↦ failed_error h c | some n ↦ some (Error.Script n) ] | false ↦ failed_error h c ] ≡ some e
        → (exits_unstarted (spawned_for (x ∷ h)) (coroutine_of (x ∷ h)) x.happened c ≡ true) ⊎ ((running_coroutine h ≡ some c) ⊎ (failed_error h c ≡ some e))
    at true d r = inr (inl (is_there (running_coroutine h) c d))
    at false d r = inr (inr r)

    by : (b : Bool) → exits_unstarted (spawned_for (x ∷ h)) (coroutine_of (x ∷ h)) x.happened c ≡ b
        → elim b [ true ↦ some Error.CoroutineReuse | false ↦ elim (is_at (running_coroutine h) c) [ true ↦ elim (said x).fails [ none ↦ failed_error h c | some n ↦ some (Error.Script n) ] | false ↦ failed_error h c ] ] ≡ some e
        → (exits_unstarted (spawned_for (x ∷ h)) (coroutine_of (x ∷ h)) x.happened c ≡ true) ⊎ ((running_coroutine h ≡ some c) ⊎ (failed_error h c ≡ some e))
    by true d r = inl d
    by false d r = at (is_at (running_coroutine h) c) refl r

failed-by-runner : (x : Entry) (h : List Entry) (o n : ℕ) → exits_unstarted (spawned_for (x ∷ h)) (coroutine_of (x ∷ h)) x.happened o ≡ false → running_coroutine h ≡ some o → (said x).fails ≡ some n
    → failed_error (x ∷ h) o ≡ some (Error.Script n)
unfolding failed_error
failed-by-runner x h o n p q f =
    ap (λ (b : Bool). elim b [ true ↦ some Error.CoroutineReuse | false ↦ elim (is_at (running_coroutine h) o) [ true ↦ elim (said x).fails [ none ↦ failed_error h o | some i ↦ some (Error.Script i) ] | false ↦ failed_error h o ] ]) p
    ∙ (ap (λ (b : Bool). elim b [ true ↦ elim (said x).fails [ none ↦ failed_error h o | some i ↦ some (Error.Script i) ] | false ↦ failed_error h o ]) (some-is_at (running_coroutine h) o q)
    ∙ ap (λ (b : Option ℕ). elim b [ none ↦ failed_error h o | some i ↦ some (Error.Script i) ]) f)

failed_by_exit : (x : Entry) (h : List Entry) (o : ℕ) → exits_unstarted (spawned_for (x ∷ h)) (coroutine_of (x ∷ h)) x.happened o ≡ true → failed_error (x ∷ h) o ≡ some Error.CoroutineReuse
unfolding failed_error
failed_by_exit x h o p =
    ap (λ (b : Bool). elim b [ true ↦ some Error.CoroutineReuse | false ↦ elim (is_at (running_coroutine h) o) [ true ↦ elim (said x).fails [ none ↦ failed_error h o | some i ↦ some (Error.Script i) ] | false ↦ failed_error h o ] ]) p

running-is : (h : List Entry) (t c : ℕ) → running h ≡ some t → coroutine_of h t ≡ some c → running_coroutine h ≡ some c
unfolding running_coroutine
running-is h t c p q = ap (λ (b : Option ℕ). elim b [ none ↦ none | some i ↦ coroutine_of h i ]) p ∙ q

running-runs : (h : List Entry) (t : ℕ) → running h ≡ some t → running_coroutine h ≡ coroutine_of h t
unfolding running_coroutine
running-runs h t p = ap (λ (b : Option ℕ). elim b [ none ↦ none | some i ↦ coroutine_of h i ]) p

-- no value yet, if none is completed by this coroutine
value_none : (x : Entry) (h : List Entry) (c : ℕ) → completed_value h c ≡ none → ((v : Value) → (said x).completes ≡ some v → running_coroutine h ≡ some c → ⊥) → completed_value (x ∷ h) c ≡ none
unfolding completed_value
value_none x h c p n = by (is_at (running_coroutine h) c) refl
  where
    at : (v : Option Value) → (said x).completes ≡ v → running_coroutine h ≡ some c → ◌≡◌ {A = Option Value} (elim v [ none ↦ completed_value h c | some i ↦ some i ]) none
    at none d r = p
    at (some v) d r = absurd (n v d r)

    by : (b : Bool) → is_at (running_coroutine h) c ≡ b → ◌≡◌ {A = Option Value} (elim b [ true ↦ elim (said x).completes [ none ↦ completed_value h c | some v ↦ some v ] | false ↦ completed_value h c ]) none
    by true d = at (said x).completes refl (is_there (running_coroutine h) c d)
    by false d = p

completes-is : (e : Event) (v : Value) → (says e).completes ≡ some v → e ≡ Event.complete v
unfolding says nothing_said
completes-is (Event.coroutine f) v q = absurd_some q
completes-is Event.call v q = absurd_some q
completes-is (Event.pending c r) v q = absurd_some q
completes-is (Event.settled i) v q = absurd_some q
completes-is (Event.gather os) v q = absurd_some q
completes-is (Event.await o) v q = absurd_some q
completes-is (Event.complete i) v q = ap Event.complete (some-injective i v q)
completes-is (Event.fail n) v q = absurd_some q
completes-is (Event.results rs) v q = absurd_some q
completes-is Event.resume v q = absurd_some q
completes-is (Event.cancel t) v q = absurd_some q
completes-is (Event.show o) v q = absurd_some q
completes-is Event.eager v q = absurd_some q

coroutine_outcomes : (C : ℕ → Option (Outcome Value Error)) (o : ℕ) (x y : Object) → T (is_coroutine (kind x)) → RowMoves x y → row_outcome C o y ≡ C o
unfolding kind row_outcome
coroutine_outcomes C o Object.Unmade y c p = absurd c
coroutine_outcomes C o (Object.Coroutine f z) Object.Unmade c p = absurd p
coroutine_outcomes C o (Object.Coroutine f z) (Object.Coroutine g a) c p = refl
coroutine_outcomes C o (Object.Coroutine f z) (Object.ExternalFuture d a) c p = absurd p
coroutine_outcomes C o (Object.Coroutine f z) (Object.GatherFuture g n a) c p = absurd p
coroutine_outcomes C o (Object.ExternalFuture d (ExternalFutureState.Pending a r)) y c p = absurd c
coroutine_outcomes C o (Object.ExternalFuture d (ExternalFutureState.Resolved v)) y c p = absurd c
coroutine_outcomes C o (Object.ExternalFuture d (ExternalFutureState.Failed v)) y c p = absurd c
coroutine_outcomes C o (Object.GatherFuture f n GatherState.Pending) y c p = absurd c
coroutine_outcomes C o (Object.GatherFuture f n (GatherState.Awaited a m)) y c p = absurd c
coroutine_outcomes C o (Object.GatherFuture f n GatherState.Completed) y c p = absurd c
coroutine_outcomes C o (Object.GatherFuture f n (GatherState.Failed v)) y c p = absurd c

-- a completion that is accepted is of the running task
complete-runs : (s : Store) → SoundStore s → (v : Value) → refusal s (Event.complete v) ≡ 0 → (header s).moment ≡ Moment.Running (task_id (runner (header s).moment))
unfolding refusals in_running
complete-runs s w v r = Rattle.machine_theorems.specs.Soundness.Preserved.running s w _ (refusal-rest s (Event.complete v) r)

-- ---- what is known of tasks

pub record Knows (h : List Entry) (s : Store) : Type 0 where
  pub spawned : (t : ℕ) → suc t < (header s).next → is_live (task s (suc t)).state ≡ true → spawned_for h (suc t) ≡ some (task s (suc t)).coroutine.0
  pub unstarted : (t : ℕ) → t < (header s).next → is_unstarted (task s t).state ≡ true → coroutine_of h t ≡ none
  pub unborn : (t : ℕ) → (header s).next ≤ t → coroutine_of h t ≡ none
  pub used : (t c : ℕ) → coroutine_of h t ≡ some c → UsedRow (object s c)
  pub failed : (c : ℕ) (e : Error) → failed_error h c ≡ some e → UsedRow (object s c)

old_or_new : (n t : ℕ) → (t < n) ⊎ (n ≤ t)
old_or_new n t = by (ltb t n) refl
  where
    by : (b : Bool) → ltb t n ≡ b → (t < n) ⊎ (n ≤ t)
    by true e = inl (ltb-true t n e)
    by false e = inr (ltb-false t n e)

-- an event from s, which has logged nothing
module _ (h : List Entry) (s : Store) (w : SoundStore s) (a : Agrees h s) (k : Knows h s) (fresh : s.log ≡ []) (e : Event) (x : Step) (fl : EventFails e s x) (ok : (tells x.answer).accepts ≡ true) (rf : refusal s e ≡ 0) where
  abbrev u : Store
  u = x.store

  abbrev y : Entry
  y = entry_of e x.answer x.store

  -- what happened is what was logged
  pub happened_is : y.happened ≡ u.log
  unfolding entry_of happened_by
  happened_is = rw ok

  pub said-is : said y ≡ says e
  said-is = said-accepted e x.answer x.store ok

  pub coroutine-is : (t : ℕ) → coroutine_of (y ∷ h) t ≡ started_by (tells x.answer).control t (coroutine_of h t)
  unfolding coroutine_of entry_of
  coroutine-is t = refl

  pub spawned-is : (t : ℕ) → spawned_for (y ∷ h) t ≡ spawned_by (spawned_for h t) u.log t
  unfolding spawned_for
  spawned-is t = ap (λ (l : List LogEntry). spawned_by (spawned_for h t) l t) happened_is

  pub spawned-old : (t : ℕ) → t < (header s).next → spawned_for (y ∷ h) t ≡ spawned_for h t
  spawned-old t l = spawned-is t ∙ (fl.spawned t (spawned_for h t) l ∙ (ap (λ (i : List LogEntry). spawned_by (spawned_for h t) i t) fresh ∙ (unfold spawned_by in refl)))

  -- nothing was logged before
  not-before : (t : ℕ) → exits_in s.log t ≡ true → ⊥
  not-before t q = true≢false (sym q ∙ (ap (λ (i : List LogEntry). exits_in i t) fresh ∙ (unfold exits_in in refl)))

  -- the coroutine of a live task
  pub row_coroutine : (t : ℕ) → suc t < (header s).next → is_live (task s (suc t)).state ≡ true
      → ((task s (suc t)).coroutine.0 < (header s).made) × T (is_coroutine (kind (object s (task s (suc t)).coroutine.0)))
  unfolding view
  row_coroutine t l lv =
      let sp : Spawned (view s) (suc t) = spawned_of t w.facts.but l (holds (is_live (task s (suc t)).state) lv) in
      (sp.made, sp.coroutine)

  -- a runner that is not main has started its coroutine
  pub runner-coroutine : (t : ℕ) → (header s).moment ≡ Moment.Running (task_id (suc t)) → coroutine_of h (suc t) ≡ some (task s (suc t)).coroutine.0
  runner-coroutine t m = (a.told.tasks t (runner_low s (suc t) w m) (ap is_live (runner-runs s (suc t) w m))).started (ap is_unstarted (runner-runs s (suc t) w m))

  -- who has started one has still
  still-started : (t c : ℕ) → coroutine_of h t ≡ some c → coroutine_of (y ∷ h) t ≡ none → ⊥
  still-started t c p q = started_keeps (tells x.answer).control t (coroutine_of h t) c p (sym (coroutine-is t) ∙ q)

  -- a task that exits without having started any was unstarted before
  pub exit_first : (c : ℕ) → exits_unstarted (spawned_for (y ∷ h)) (coroutine_of (y ∷ h)) y.happened c ≡ true → (t : ℕ) × FirstRun s u (suc t) × ((task s (suc t)).coroutine.0 ≡ c)
  exit_first c q = by (exits-found (spawned_for (y ∷ h)) (coroutine_of (y ∷ h)) y.happened c q)
    where
      unstarted-live : (z : TaskState) → z ≡ TaskState.Unstarted → is_live z ≡ true
      unstarted-live z i = ap is_live i

      first : (t : ℕ) → spawned_for (y ∷ h) t ≡ some c → FirstRun s u t → (v : ℕ) × FirstRun s u (suc v) × ((task s (suc v)).coroutine.0 ≡ c)
      first zero p r = absurd (main_started w.facts.but (unfold view in r.was))
      first (suc t) p r =
          (t, r, some-injective (task s (suc t)).coroutine.0 c (sym (k.spawned t r.low (unstarted-live (task s (suc t)).state r.was)) ∙ (sym (spawned-old (suc t) r.low) ∙ p)))

      runner : (t : ℕ) → RunnerEnds e s t → coroutine_of (y ∷ h) t ≡ none → ⊥
      runner t (completes v r i j m) n = started r t j m n
        where
          started : (r t : ℕ) → t ≡ suc r → (header s).moment ≡ Moment.Running (task_id t) → coroutine_of (y ∷ h) t ≡ none → ⊥
          started r t j m n =
              still-started (suc r) (task s (suc r)).coroutine.0 (runner-coroutine r (subst (λ (z : ℕ). (header s).moment ≡ Moment.Running (task_id z)) j m)) (subst (λ (z : ℕ). coroutine_of (y ∷ h) z ≡ none) j n)
      runner t (fails v r i j m) n = started r t j m n
        where
          started : (r t : ℕ) → t ≡ suc r → (header s).moment ≡ Moment.Running (task_id t) → coroutine_of (y ∷ h) t ≡ none → ⊥
          started r t j m n =
              still-started (suc r) (task s (suc r)).coroutine.0 (runner-coroutine r (subst (λ (z : ℕ). (header s).moment ≡ Moment.Running (task_id z)) j m)) (subst (λ (z : ℕ). coroutine_of (y ∷ h) z ≡ none) j n)

      at : (t : ℕ) → spawned_for (y ∷ h) t ≡ some c → coroutine_of (y ∷ h) t ≡ none → ExitAs s (RunnerEnds e s) u t → (v : ℕ) × FirstRun s u (suc v) × ((task s (suc v)).coroutine.0 ≡ c)
      at t p n (before i) = absurd (not-before t i)
      at t p n (as_runner r) = absurd (runner t r n)
      at t p n (at_first r) = first t p r

      by : ExitsOf (spawned_for (y ∷ h)) (coroutine_of (y ∷ h)) y.happened c → (v : ℕ) × FirstRun s u (suc v) × ((task s (suc v)).coroutine.0 ≡ c)
      by r = at r.who r.for_it r.none_started (fl.exits r.who (subst (λ (i : List LogEntry). exits_in i r.who ≡ true) happened_is r.exits))

  -- what was used is
  used-still : (c : ℕ) → UsedRow (object s c) → UsedRow (object u c)
  used-still c q = used_moves (object s c) (object u c) (fl.moves c (low (old_or_new (header s).made c))) q
    where
      low : (c < (header s).made) ⊎ ((header s).made ≤ c) → c < (header s).made
      low (inl l) = l
      low (inr l) = absurd (used-made (object s c) q (a.behind c l))

  -- the control of the event starts nobody who is unstarted, or not born
  not-started : (t : ℕ) → (t < (header u).next → is_unstarted (task u t).state ≡ true) → (d f : ℕ) → (tells x.answer).control ≡ some (runs t (start d f)) → ⊥
  not-started t n d f q = true≢false (sym (n (fl.low t (start d f) q)) ∙ fl.started t (start d f) q)

  pub step-knows : Knows (y ∷ h) u
  step-knows =
      record {
        spawned = λ t l lv. spawned-by-it t l (fl.tasks (suc t) l lv);
        unstarted = λ t l q. coroutine-is t ∙ (started_none (tells x.answer).control t (coroutine_of h t) (not-started t (λ i. q)) ∙ was-none t (fl.unstarted t l q) (old_or_new (header s).next t));
        unborn = λ t l. coroutine-is t
            ∙ (started_none (tells x.answer).control t (coroutine_of h t) (λ d f q. not-suc-le-zero {n = 0} (omega (arith, l, fl.low t (start d f) q))) ∙ k.unborn t (omega (arith, l, fl.grows)));
        used = λ t c q. by-start t c (started-some (tells x.answer).control t (coroutine_of h t) c (sym (coroutine-is t) ∙ q));
        failed = λ c r q. by-error c r (failed-cases y h c r q);
      }
    where
      spawned-by-it : (t : ℕ) → suc t < (header u).next → TaskFrom s u (suc t) → spawned_for (y ∷ h) (suc t) ≡ some (task u (suc t)).coroutine.0
      spawned-by-it t l (lived b lv q z) = spawned-old (suc t) b ∙ (k.spawned t b lv ∙ ap (λ (j : ℕ). some j) (sym q))
      spawned-by-it t l (is_new b q z) = spawned-is (suc t) ∙ q (spawned_for h (suc t))

      was-none : (t : ℕ) → ((header s).next ≤ t) ⊎ (is_unstarted (task s t).state ≡ true) → (t < (header s).next) ⊎ ((header s).next ≤ t) → coroutine_of h t ≡ none
      was-none t (inl l) i = k.unborn t l
      was-none t (inr q) (inl l) = k.unstarted t l q
      was-none t (inr q) (inr l) = k.unborn t l

      by-start : (t c : ℕ) → ((f : ℕ) × ((tells x.answer).control ≡ some (runs t (start c f)))) ⊎ (coroutine_of h t ≡ some c) → UsedRow (object u c)
      by-start t c (inl q) = subst UsedRow (sym (fl.starts t c q.0 q.1)) tt
      by-start t c (inr q) = used-still c (k.used t c q)

      running-started : (c : ℕ) → running_coroutine h ≡ some c → (t : ℕ) × (coroutine_of h t ≡ some c)
      running-started c q = at (running h) (unfold running_coroutine in q)
        where
          at : (z : Option ℕ) → elim z [ none ↦ none | some t ↦ coroutine_of h t ] ≡ some c → (t : ℕ) × (coroutine_of h t ≡ some c)
          at none i = absurd_some i
          at (some t) i = (t, i)

      by-error : (c : ℕ) (r : Error) → (exits_unstarted (spawned_for (y ∷ h)) (coroutine_of (y ∷ h)) y.happened c ≡ true) ⊎ ((running_coroutine h ≡ some c) ⊎ (failed_error h c ≡ some r)) → UsedRow (object u c)
      by-error c r (inl q) =
          let i = exit_first c q in
          let sp = row_coroutine i.0 i.1.low (ap is_live i.1.was) in
          subst (λ (j : ℕ). UsedRow (object u j)) i.2
          (coroutine-used (object s (task s (suc i.0)).coroutine.0) (object u (task s (suc i.0)).coroutine.0) sp.1 (fl.moves (task s (suc i.0)).coroutine.0 sp.0) i.1.used)
      by-error c r (inr (inl q)) = let i = running-started c q in used-still c (k.used i.0 c i.1)
      by-error c r (inr (inr q)) = used-still c (k.failed c r q)

  -- ---- a coroutine whose task has ended with an error has come to it

  -- two live tasks of one coroutine are one
  one_task : (t v : ℕ) → suc t < (header s).next → suc v < (header s).next → is_live (task s (suc t)).state ≡ true → is_live (task s (suc v)).state ≡ true → (task s (suc t)).coroutine.0 ≡ (task s (suc v)).coroutine.0 → suc t ≡ suc v
  unfolding view
  one_task t v l m p q c = w.facts.but.task_of (task s (suc v)).coroutine.0 (suc t) (suc v) l m (it t p c) (it v q refl)
    where
      it : (i : ℕ) → is_live (task s (suc i)).state ≡ true → (task s (suc i)).coroutine.0 ≡ (task s (suc v)).coroutine.0 → T (is_task_of_at (task s) (task s (suc v)).coroutine.0 (suc i))
      it i lv d = unfold is_task_of_at in (both _ _ (holds _ (ap not (ne_eqb (suc i) 0 (λ j. not-suc-le-zero {n = 0} (omega arith))))) (is_task_of_give _ (task s (suc i)) (holds _ lv) d))

  -- one that runs is not unstarted
  not-both : {A : Type 0} (t v : ℕ) → (header s).moment ≡ Moment.Running (task_id (suc t)) → suc v < (header s).next → (task s (suc v)).state ≡ TaskState.Unstarted → (task s (suc v)).coroutine.0 ≡ (task s (suc t)).coroutine.0 → A
  not-both t v m l q c =
      let d : suc v ≡ suc t = one_task v t l (runner_low s (suc t) w m) (ap is_live q) (ap is_live (runner-runs s (suc t) w m)) c in
      absurd (true≢false (sym (ap is_unstarted q) ∙ (ap (λ (j : ℕ). is_unstarted (task s j).state) d ∙ ap is_unstarted (runner-runs s (suc t) w m))))

  abbrev pub Outcomes : ℕ → Option (Outcome Value Error)
  Outcomes o = coroutine_outcome (completed_value (y ∷ h) o) (failed_error (y ∷ h) o)

  -- the coroutine of task t is one
  coroutine-row : (t : ℕ) → suc t < (header s).next → is_live (task s (suc t)).state ≡ true → row_outcome Outcomes (task s (suc t)).coroutine.0 (object u (task s (suc t)).coroutine.0) ≡ Outcomes (task s (suc t)).coroutine.0
  coroutine-row t l lv =
      let r = row_coroutine t l lv in
      coroutine_outcomes Outcomes (task s (suc t)).coroutine.0 (object s (task s (suc t)).coroutine.0) (object u (task s (suc t)).coroutine.0) r.1 (fl.moves (task s (suc t)).coroutine.0 r.0)

  come-to : (o : ℕ) (r : Error) → completed_value (y ∷ h) o ≡ none → failed_error (y ∷ h) o ≡ some r → Outcomes o ≡ some (Outcome.raised r)
  come-to o r p q = ap (λ (v : Option Value). coroutine_outcome v (failed_error (y ∷ h) o)) p ∙ (ap (coroutine_outcome none) q ∙ (unfold coroutine_outcome in refl))

  -- a failure's error, where no unstarted task of the coroutine exits
  failed-runs : (o n : ℕ) → exits_unstarted (spawned_for (y ∷ h)) (coroutine_of (y ∷ h)) y.happened o ≡ false → running_coroutine h ≡ some o → (said y).fails ≡ some n → failed_error (y ∷ h) o ≡ some (Error.Script n)
  failed-runs o n p q f = failed-by-runner y h o n p q f

  -- the runner fails
  runner-error : (o : ℕ) (r : Error) → RunnerFails e s o r → row_outcome Outcomes o (object u o) ≡ some (Outcome.raised r)
  runner-error o r z =
      subst (λ (j : ℕ). row_outcome Outcomes j (object u j) ≡ some (Outcome.raised r)) z.coroutine
      (coroutine-row z.runner low live ∙ come-to c r no-value-now (failed-runs c z.number alone runs_it says-it ∙ ap (λ (i : Error). some i) (sym z.error)))
    where
      t : ℕ
      t = z.runner

      c : ℕ
      c = (task s (suc z.runner)).coroutine.0

      low : suc z.runner < (header s).next
      low = runner_low s (suc z.runner) w z.runs_it

      live : is_live (task s (suc z.runner)).state ≡ true
      live = ap is_live (runner-runs s (suc z.runner) w z.runs_it)

      says-it : (said y).fails ≡ some z.number
      says-it = ap (λ (i : Says). i.fails) said-is ∙ (ap (λ (i : Event). (says i).fails) z.fails ∙ (unfold says in refl))

      no-value-now : completed_value (y ∷ h) c ≡ none
      no-value-now =
          no_value y h c (ap (λ (i : Says). i.completes) said-is ∙ (ap (λ (i : Event). (says i).completes) z.fails ∙ none-completes z.number))
          ∙ (a.told.tasks z.runner low live).undelivered
        where
          none-completes : (n : ℕ) → (says (Event.fail n)).completes ≡ none
          none-completes n = unfold says in refl

      runs_it : running_coroutine h ≡ some c
      runs_it = running-is h (suc z.runner) c (a.runner (task_id (suc z.runner)) z.runs_it) (runner-coroutine z.runner z.runs_it)

      alone : exits_unstarted (spawned_for (y ∷ h)) (coroutine_of (y ∷ h)) y.happened c ≡ false
      alone = by (exits_unstarted (spawned_for (y ∷ h)) (coroutine_of (y ∷ h)) y.happened c) refl
        where
          by : (b : Bool) → exits_unstarted (spawned_for (y ∷ h)) (coroutine_of (y ∷ h)) y.happened c ≡ b → b ≡ false
          by true q = let i = exit_first c q in not-both z.runner i.0 z.runs_it i.1.low i.1.was i.2
          by false q = refl

  -- a task fails at its first run
  first-error : (t : ℕ) → FirstRun s u (suc t) → row_outcome Outcomes (task s (suc t)).coroutine.0 (object u (task s (suc t)).coroutine.0) ≡ some (Outcome.raised Error.CoroutineReuse)
  first-error t r = coroutine-row t r.low live ∙ come-to c Error.CoroutineReuse no-value-now error
    where
      c : ℕ
      c = (task s (suc t)).coroutine.0

      live : is_live (task s (suc t)).state ≡ true
      live = ap is_live r.was

      none_started : coroutine_of (y ∷ h) (suc t) ≡ none
      none_started =
          coroutine-is (suc t) ∙ (started_none (tells x.answer).control (suc t) (coroutine_of h (suc t)) (λ d f q. true≢false (sym (fl.alive (suc t) (start d f) q) ∙ r.gone))
          ∙ k.unstarted (suc t) r.low (ap is_unstarted r.was))

      error : failed_error (y ∷ h) c ≡ some Error.CoroutineReuse
      error = failed_by_exit y h c
          (exits_there (spawned_for (y ∷ h)) (coroutine_of (y ∷ h)) y.happened c (suc t) (subst (λ (i : List LogEntry). exits_in i (suc t) ≡ true) (sym happened_is) r.logged) (spawned-old (suc t) r.low ∙ k.spawned t r.low live) none_started)

      was-none : completed_value h c ≡ none
      was-none = (a.told.tasks t r.low live).undelivered

      -- a completion of the running task is of another coroutine
      apart : (v : Value) → e ≡ Event.complete v → running_coroutine h ≡ some c → ⊥
      apart v q i = by (runner (header s).moment) (complete-runs s w v (subst (λ (j : Event). refusal s j ≡ 0) q rf))
        where
          by : (n : ℕ) → (header s).moment ≡ Moment.Running (task_id n) → ⊥
          by zero m = absurd_some (sym a.main ∙ (sym (running-runs h 0 (a.runner (task_id 0) m)) ∙ i))
          by (suc n) m =
              not-both n t m r.low r.was (some-injective c (task s (suc n)).coroutine.0 (sym i ∙ (running-runs h (suc n) (a.runner (task_id (suc n)) m) ∙ runner-coroutine n m)))

      no-value-now : completed_value (y ∷ h) c ≡ none
      no-value-now = value_none y h c was-none (λ v p q. apart v (completes-is e v (sym (ap (λ (i : Says). i.completes) said-is) ∙ p)) q)

  -- what an item has raised, it has come to
  pub raised-outcome : (o : ℕ) (r : Error) → Raised s (RunnerFails e s) u o r → row_outcome Outcomes o (object u o) ≡ some (Outcome.raised r)
  raised-outcome o r (by_external c q) = ap (row_outcome Outcomes o) q ∙ (unfold row_outcome in refl)
  raised-outcome o r (by_gather f n q) = ap (row_outcome Outcomes o) q ∙ (unfold row_outcome in refl)
  raised-outcome o r (by_task z) = runner-error o r z
  raised-outcome o r (by_first_run zero z q d) = absurd (main_started w.facts.but (unfold view in z.was))
  raised-outcome o r (by_first_run (suc t) z q d) =
      subst (λ (j : ℕ). row_outcome Outcomes j (object u j) ≡ some (Outcome.raised r)) q (first-error t z ∙ ap (λ (i : Error). some (Outcome.raised i)) (sym d))
