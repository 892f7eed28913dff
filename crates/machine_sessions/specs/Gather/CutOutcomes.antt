-- What objects have come to is the same after an accepted batch and after its results one by one (`same-came`): results wake tasks and do nothing else that the
-- outcomes of coroutines are read off, and the other outcomes are those of rows.
use Rattle.std.specs.Prelude.{◌≡◌, ◌⊎◌, Bool, List, [], ◌∷◌}
use Rattle.std.proofs.Math.Path.{refl, ap, sym, fun_ext}
use Rattle.std.proofs.Common.{ap₂, subst, ◌∙◌, inl, inr, not-suc-le-zero, arith}
use Rattle.std.proofs.Math.Bool.{true, false}
use Rattle.std.proofs.Math.Option.{Option, none, some}
use Prim.Native.Nat.{ℕ, ◌≤◌, ◌<◌}
use Rattle.std.proofs.Math.Decide.{ℕ_discrete}
use Rattle.std.proofs.Math.Dec.{ltb}
use borrow.Author.Tests.{ltb-true, ltb-false}
use Rattle.asyncio.specs.declared.Value.{Value}
use Rattle.asyncio.specs.declared.Error.{Error}
use Rattle.asyncio.specs.declared.Object.{Object}
use Rattle.asyncio.specs.declared.TaskState.{TaskState}
use Rattle.machine.specs.Store.{Store, LogEntry, spawned, blocked, reached, exited, removed, object, place, header, forget, put_object, put_places, put_queue, put_task, add_log, set_state}
use Rattle.machine.specs.Scheduler.{make_ready, push_ready}
use Rattle.machine.specs.Events.{Result, apply_future_results}
use Rattle.machine.specs.Machine.{Event, Answer, Step, Shown, shown, refusal, accept, step}
use Rattle.machine.specs.Gather.{Outcome}
use Rattle.machine.specs.History.{Entry, says, nothing_said, said, tells, done_only, is_at, coroutine_of, running_coroutine, spawned_for, exits_unstarted, failed_error, coroutine_outcome, outcome}
use Rattle.machine.specs.Sessions.{Sent, Session, InRange, AllSentInRange, lent_any, happened_by, entry_of, send, send_all, session}
use Rattle.machine.specs.Singles.{each_alone}
use Rattle.machine.specs.DemandThree.{look}
use Rattle.machine.specs.DemandTwo.{came}
use Rattle.machine_laws.specs.Views.{Sized}
use Rattle.machine_laws.specs.StoreLaws.{sized-forget, sized-put_object, sized-put_places, sized-put_queue, sized-add_log, sized-set_state}
use Rattle.machine_laws.specs.MachineLaws.{accepted-step, refused-step}
use Rattle.machine_laws.specs.Walk.{Delivers, batch-kept}
use Rattle.machine_theorems.specs.Soundness.Stores.{SoundStore}
use Rattle.machine_sessions.specs.Queue.Following.{Sends, stepped, short, sends, session_follows}
use Rattle.machine_sessions.specs.Places.Agrees.{no_value}
use Rattle.machine_sessions.specs.Places.AgreesSessions.{session_agrees}
use Rattle.machine_sessions.specs.Places.PlacesHold.{shown_like, row_outcome, outcome-row}
use Rattle.machine_sessions.specs.Stall.Outcomes.{outcome_of}
use Rattle.machine_sessions.specs.Gather.OutcomesStay.{unmade-none}
use Rattle.machine_sessions.specs.Gather.FailingSessions.{look-row}
use Rattle.machine_sessions.specs.Gather.LogApart.{lent_entry}
use Rattle.machine_sessions.specs.Gather.RowsOnly.{rows_of}
use Rattle.machine_sessions.specs.Gather.Batches.{batch, results_step, batch-rows, send-sound}

-- ---- an entry that only wakes tasks

-- all that happened is that tasks were reached
abbrev AllReached : List LogEntry → Type 0
AllReached [] = Unit {0}
AllReached (spawned t c ∷ hs) = ⊥
AllReached (blocked t ∷ hs) = ⊥
AllReached (reached t ∷ hs) = AllReached hs
AllReached (exited t ∷ hs) = ⊥
AllReached (removed t ∷ hs) = ⊥

reached-exits : (f g : ℕ → Option ℕ) (hs : List LogEntry) (c : ℕ) → AllReached hs → exits_unstarted f g hs c ≡ false
unfolding exits_unstarted
reached-exits f g [] c k = refl
reached-exits f g (spawned u d ∷ hs) c k = absurd k
reached-exits f g (blocked u ∷ hs) c k = absurd k
reached-exits f g (reached u ∷ hs) c k = reached-exits f g hs c k
reached-exits f g (exited u ∷ hs) c k = absurd k
reached-exits f g (removed u ∷ hs) c k = absurd k

-- nobody completes, fails, or exits
record OnlyWakes (x : Entry) : Type 0 where
  completes : (said x).completes ≡ none
  fails : (said x).fails ≡ none
  log : AllReached x.happened

-- what coroutines have come to stays
wakes-then : (x : Entry) (h : List Entry) → OnlyWakes x → (c : ℕ) → outcome_of (x ∷ h) c ≡ outcome_of h c
unfolding failed_error
wakes-then x h k c = ap₂ coroutine_outcome (no_value x h c k.completes) error
  where
    by : (b : Bool) (v : Option Error) → ◌≡◌ {A = Option Error} (elim b [ true ↦ v | false ↦ v ]) v
    by true v = refl
    by false v = refl

    error : failed_error (x ∷ h) c ≡ failed_error h c
    error =
        ap₂ (λ (b : Bool) (v : Option ℕ). elim b [ true ↦ some Error.CoroutineReuse | false ↦ elim (is_at (running_coroutine h) c) [ true ↦ elim v [ none ↦ failed_error h c | some n ↦ some (Error.Script n) ] | false ↦ failed_error h c ] ])
        (reached-exits (spawned_for (x ∷ h)) (coroutine_of (x ∷ h)) x.happened c k.log) k.fails ∙ by (is_at (running_coroutine h) c) (failed_error h c)

-- ---- results only wake tasks

-- a store whose log says so
record Woke (u : Store) : Type 0 where
  sized : Sized u
  log : AllReached u.log

woke_delivers : Delivers Woke
woke_delivers =
    record {
      sized = λ u k. k.sized;
      row = λ u o x l y k. record { sized = sized-put_object u o x k.sized; log = unfold put_object in k.log };
      values_put = λ u ps e k. record { sized = sized-put_places u ps e k.sized; log = unfold put_places in k.log };
      wakes = λ u t x l b r n k. record { sized = unfold make_ready push_ready in (sized-add_log _ (reached t) (sized-put_queue _ _ (sized-set_state u t x k.sized))); log = ready-log u t x k.log };
    }
  where
    ready-log : (u : Store) (t : ℕ) (x : TaskState) → AllReached u.log → AllReached (add_log (make_ready u t x) (reached t)).log
    ready-log u t x k = unfold add_log make_ready push_ready put_queue set_state put_task in k

results-woke : (rs : List Result) (s : Store) → Woke s → Woke (apply_future_results s rs)
results-woke rs s k = batch-kept Woke woke_delivers (λ u o p y l e j. record { sized = sized-put_object u o _ j.sized; log = unfold put_object in j.log }) rs s k

refused-wakes : (e : Event) (n : ℕ) (u : Store) → OnlyWakes (entry_of e (Answer.refused n) u)
unfolding tells entry_of happened_by said nothing_said
refused-wakes e n u = record { completes = refl; fails = refl; log = tt }

done-wakes : (rs : List Result) (u : Store) → AllReached u.log → OnlyWakes (entry_of (Event.results rs) Answer.done u)
unfolding tells done_only entry_of happened_by said says
done-wakes rs u k = record { completes = refl; fails = refl; log = k }

-- a batch, accepted or not
batch-wakes : (s : Store) (rs : List Result) (l : List ℕ) → Sized s → OnlyWakes (lent_entry s (batch rs l))
batch-wakes s rs l z = by (sends s (batch rs l) z)
  where
    E : Answer → Store → Type 0
    E a u = OnlyWakes (entry_of (Event.results rs) a u)

    empty : Woke (forget s)
    empty = record { sized = sized-forget s z; log = unfold forget in tt }

    done : refusal s (Event.results rs) ≡ 0 → (step s (Event.results rs)).answer ≡ Answer.done
    done r = ap (λ (y : Step). y.answer) (accepted-step s (Event.results rs) r) ∙ (unfold accept in refl)

    left : (r : refusal s (Event.results rs) ≡ 0) → AllReached (step s (Event.results rs)).store.log
    left r = subst (λ (u : Store). AllReached u.log) (sym (results_step s rs r).1) (unfold put_queue in (results-woke rs (forget s) empty).log)

    at : Dec (refusal s (Event.results rs) ≡ 0) → E (step s (Event.results rs)).answer (step s (Event.results rs)).store
    at (yes r) = subst (λ (a : Answer). E a (step s (Event.results rs)).store) (sym (done r)) (done-wakes rs (step s (Event.results rs)).store (left r))
    at (no ne) = subst (λ (y : Step). E y.answer y.store) (sym (refused-step s (Event.results rs) (refusal s (Event.results rs)) refl ne)) (refused-wakes (Event.results rs) (refusal s (Event.results rs)) (forget s))

    by : Sends s (batch rs l) → E (lent_any s (batch rs l)).answer (lent_any s (batch rs l)).store
    by (stepped p q) = subst (λ (a : Answer). E a (lent_any s (batch rs l)).store) (sym q) (subst (E (step s (Event.results rs)).answer) (sym p) (at (ℕ_discrete (refusal s (Event.results rs)) 0)))
    by (short p q) = subst (λ (a : Answer). E a (lent_any s (batch rs l)).store) (sym q) (refused-wakes (Event.results rs) 1 (lent_any s (batch rs l)).store)

-- ---- a batch, and its results one by one

batch_coroutines : (y : Session) (rs : List Result) (l : List ℕ) → Sized y.store → (c : ℕ) → outcome_of (send y (batch rs l)).history c ≡ outcome_of y.history c
unfolding send
batch_coroutines y rs l z c = wakes-then (lent_entry y.store (batch rs l)) y.history (batch-wakes y.store rs l z) c

alone_coroutines : (rs : List Result) (l : List ℕ) (y : Session) → SoundStore y.store → (c : ℕ) → outcome_of (send_all y (each_alone rs l)).history c ≡ outcome_of y.history c
unfolding each_alone send_all
alone_coroutines [] l y h c = refl
alone_coroutines (r ∷ rs) l y h c =
    alone_coroutines rs l (send y (batch (r ∷ []) l)) (unfold send in (send-sound y.store (batch (r ∷ []) l) h (unfold InRange in tt))) c
    ∙ batch_coroutines y (r ∷ []) l h.memory.sized c

-- sessions with the same tasks, objects and places, in which the same has come of coroutines
pub record Alike (y x : Session) : Type 0 where
  pub rows : rows_of y.store ≡ rows_of x.store
  pub coroutines : (c : ℕ) → outcome_of y.history c ≡ outcome_of x.history c

pub batch-alike : (x : Session) (rs : List Result) (l : List ℕ) → SoundStore x.store → (tells (lent_any x.store (batch rs l)).answer).accepts ≡ true
    → Alike (send_all x (each_alone rs l)) (send x (batch rs l))
batch-alike x rs l h a =
    record { rows = batch-rows x rs l h a; coroutines = λ c. alone_coroutines rs l x h c ∙ sym (batch_coroutines x rs l h.memory.sized c) }

-- ---- what is shown, and what objects have come to

shown-rows : (s : Store) (x : Object) → shown s x ≡ shown (rows_of s) x
shown-rows s x = shown_like (rows_of s) s (λ p. unfold place in refl) x

module _ (fs es : List Sent) (j : AllSentInRange fs) (i : AllSentInRange es) (k : Alike (session fs) (session es)) where
  abbrev s : Store
  s = (session es).store

  abbrev u : Store
  u = (session fs).store

  same_object : (o : ℕ) → object u o ≡ object s o
  unfolding object
  same_object o = ap (λ (z : Store). object z o) k.rows

  same-made : (header u).made ≡ (header s).made
  unfolding header
  same-made = ap (λ (z : Store). (header z).made) k.rows

  same-shown : (o : ℕ) → shown u (object u o) ≡ shown s (object s o)
  same-shown o = shown-rows u (object u o) ∙ (ap₂ (λ (z : Store) (x : Object). shown z x) k.rows (same_object o) ∙ sym (shown-rows s (object s o)))

  -- What is shown.
  pub same-look : (g : ℕ) → look u g ≡ look s g
  same-look g = by (look-row u g (session_follows fs j).whole) (look-row s g (session_follows es i).whole)
    where
      by : ((g < (header u).made) × (look u g ≡ shown u (object u g))) ⊎ (((header u).made ≤ g) × (look u g ≡ Shown.nothing))
          → ((g < (header s).made) × (look s g ≡ shown s (object s g))) ⊎ (((header s).made ≤ g) × (look s g ≡ Shown.nothing)) → look u g ≡ look s g
      by (inl a) (inl b) = a.1 ∙ (same-shown g ∙ sym b.1)
      by (inl a) (inr b) = absurd (not-suc-le-zero {n = 0} (omega (arith, a.0, b.0, same-made)))
      by (inr a) (inl b) = absurd (not-suc-le-zero {n = 0} (omega (arith, a.0, b.0, same-made)))
      by (inr a) (inr b) = a.1 ∙ sym b.1

  -- What has come of an object.
  pub same-came : (o : ℕ) → came (session fs) o ≡ came (session es) o
  unfolding came
  same-came o = by (ltb o (header s).made) refl
    where
      by : (b : Bool) → ltb o (header s).made ≡ b → outcome (session fs).history (look u) o ≡ outcome (session es).history (look s) o
      by true q =
          let l : o < (header s).made = ltb-true o (header s).made q in
          outcome-row (session fs).history u (session_follows fs j).whole (session_agrees fs j) o (subst (λ (n : ℕ). o < n) (sym same-made) l)
          ∙ (ap₂ (λ (f : ℕ → Option (Outcome Value Error)) (x : Object). row_outcome f o x) (fun_ext k.coroutines) (same_object o) ∙ sym (outcome-row (session es).history s (session_follows es i).whole (session_agrees es i) o l))
      by false q =
          let l : (header s).made ≤ o = ltb-false o (header s).made q in
          unmade-none (session fs).history u (session_agrees fs j) (look u) o (subst (λ (n : ℕ). n ≤ o) (sym same-made) l) ∙ sym (unmade-none (session es).history s (session_agrees es i) (look s) o l)
