-- Rows and history agree after an await, a failure, a resume, a cancel, a read, a refusal, and after main's end.
use Rattle.std.specs.Prelude.{◌≡◌, Bool, eqb, ltb, length}
use Rattle.std.proofs.Math.Path.{refl, ap, subst}
use Rattle.std.proofs.Common.{sym, ap₂, ◌∙◌, true≢false, arith, eq-eqb, ne_eqb, eqb-true, leb-false, ltb-true}
use Rattle.std.proofs.Math.Bool.{true, false}
use mathlib.Core.List.{List, [], ◌∷◌}
use Rattle.std.proofs.Math.Option.{Option, none, some, some-injective}
use Prim.Native.Nat.{ℕ, zero, suc, ◌+◌, ◌≤◌, ◌<◌}
use Rattle.std.proofs.Math.Nat.{not-suc-le-zero}
use Rattle.std.proofs.Math.Decide.{ℕ_discrete}
use Rattle.std.proofs.Math.Dec.{T}
use Rattle.asyncio.specs.declared.TaskId.{TaskId}
use Rattle.asyncio.specs.declared.Value.{Value}
use Rattle.asyncio.specs.declared.Error.{Error}
use Rattle.asyncio.specs.declared.TaskState.{TaskState}
use Rattle.asyncio.specs.declared.Task.{Task}
use Rattle.asyncio.specs.declared.Object.{Object}
use Rattle.asyncio.specs.declared.Moment.{Moment}
use Rattle.asyncio.specs.declared.Header.{Header}
use Rattle.asyncio.specs.Limits.{object_limit, task_limit, call_limit}
use Rattle.asyncio.specs.Numbers.{heap_id, task_id}
use Rattle.asyncio.specs.Ranges.{HeaderFits}
use Rattle.asyncio.specs.Kinds.{kind, is_completed}
use Rattle.asyncio.specs.States.{pick, is_live, is_unstarted}
use Rattle.machine.specs.Store.{Store, view, task, object, place, header, forget, set_calls, put_header}
use Rattle.machine.specs.Scheduler.{live, cancel_task, cleanup, pending_call_ids}
use Rattle.machine.specs.Events.{Control, runs, waits, Switched, Awaited, activate, resume_next, exec_get_awaitable, handle_task_failure}
use Rattle.machine.specs.Machine.{Event, Answer, Step, switched, answer_await, end_main, task_completes, task_fails, runner, repeat_wait, resume_with_resolved_futures, refusals, refusal, accept, in_waiting, answer_cancel}
use Rattle.machine.specs.Sound.{object_in_range, places_below}
use Rattle.machine.specs.History.{Entry, Says, says, nothing_said, said, tells, done_only, is_at, started_by, runner_by, running_coroutine, coroutine_of, completed_value}
use Rattle.machine_laws.specs.Views.{Sized}
use Rattle.machine_laws.specs.Facts.{Nothing}
use Rattle.machine_laws.specs.StoreLaws.{header-fits, header_put-header, object_put-header}
use Rattle.machine_laws.specs.SoundLaws.{pass, running-rest, refusal-rest}
use Rattle.machine_theorems.specs.Soundness.Stores.{idle, SoundDuring, SoundStore, during_of}
use Rattle.machine_theorems.specs.Soundness.Exits.{runner_low, runner-runs, only_changes_of, cancel-during}
use Rattle.machine_theorems.specs.Soundness.Preserved.{running, waiting, await-made}
use Rattle.machine.specs.Sessions.{entry_of}
use Rattle.machine_sessions.specs.Waits.{said-accepted, said-refused}
use Rattle.machine_sessions.specs.Queue.Tracked.{live_low}
use Rattle.machine_sessions.specs.Places.Told.{Frozen, co, frozen, Told, told_like, header-told}
use Rattle.machine_sessions.specs.Places.Telling.{resume-ends, fail-ends, cancel-tells, cleanup-tells, cleanup_moment}
use Rattle.machine_sessions.specs.Places.TellingAwait.{AwaitEnds, stayed, switches, await-ends}
use Rattle.machine_sessions.specs.Places.ToldEnds.{told_as, told_now, Left, ended-left}
use Rattle.machine_sessions.specs.Places.Agrees.{Agrees, Moved, only_changes_agrees, commits_none_moved, left-moved, no_value}

abbrev pub StepAgrees : List Entry → Event → Step → Type 0
StepAgrees h e x = Agrees (entry_of e x.answer x.store ∷ h) x.store

-- an accepted event that answers no call, completes nothing and makes nothing
pub only_changes_step : (h : List Entry) (s : Store) (e : Event) (x : Step) → Agrees h s → (tells x.answer).accepts ≡ true → (says e).results ≡ [] → (says e).completes ≡ none → (tells x.answer).makes ≡ none
    → Moved h s (tells x.answer).control x.store → StepAgrees h e x
only_changes_step h s e x k a r c m y =
    let d : said (entry_of e x.answer x.store) ≡ says e = said-accepted e x.answer x.store a in
    only_changes_agrees (entry_of e x.answer x.store) h s x.store k (ap (λ (z : Says). z.results) d ∙ r) (λ o. no_value _ h o (ap (λ (z : Says). z.completes) d ∙ c)) (unfold entry_of in m) (unfold entry_of in y)

-- a refused one
pub refused_agrees : (h : List Entry) (s u : Store) (e : Event) (n : ℕ) → Agrees h s → Told (λ o. frozen (object s o)) (header s).made (λ p. (place s p).item.0) (completed_value h) (coroutine_of h) u → header u ≡ header s
    → Agrees (entry_of e (Answer.refused n) u ∷ h) u
unfolding tells entry_of
refused_agrees h s u e n k y m =
    let d : said (entry_of e (Answer.refused n) u) ≡ nothing_said = said-refused e (Answer.refused n) u (unfold tells in refl) in
    only_changes_agrees _ h s u k (ap (λ (z : Says). z.results) d ∙ (unfold nothing_said in refl)) (λ o. no_value _ h o (ap (λ (z : Says). z.completes) d ∙ (unfold nothing_said in refl))) refl
    (commits_none_moved h s u k y (λ t e. ap (λ (z : Header). z.moment) (sym m) ∙ e))

-- the log is no row
pub forget_agrees : (h : List Entry) (s : Store) → Agrees h s → Agrees h (forget s)
unfolding forget object place header task
forget_agrees h s k =
    record {
      told = told_like _ _ _ _ _ s (forget s) (unfold forget in (record { tasks_sized = k.told.sized.tasks_sized; objects_sized = k.told.sized.objects_sized; places_sized = k.told.sized.places_sized })) refl refl (λ o. refl) (λ p. refl) (λ t. refl) k.told;
      done = k.done;
      runner = k.runner;
      main = k.main;
      behind = k.behind;
      makes = k.makes;
    }

not-run : {A : Type 0} (t : TaskId) (m : Moment) → m ≡ Moment.Waiting → m ≡ Moment.Running t → A
not-run t m e q = let z : ◌≡◌ {A = ℕ} 0 1 = cc in absurd (omega arith)

not-ended : {A : Type 0} (t : TaskId) (m : Moment) → m ≡ Moment.Ended → m ≡ Moment.Running t → A
not-ended t m e q = let z : ◌≡◌ {A = ℕ} 0 1 = cc in absurd (omega arith)

module _ (h : List Entry) (s : Store) (w : SoundStore s) (k : Agrees h s) where
  abbrev q : ℕ → Frozen
  q o = frozen (object s o)

  abbrev i : ℕ → ℕ
  i p = (place s p).item.0

  abbrev D : ℕ → Option Value
  D = completed_value h

  abbrev S : ℕ → Option ℕ
  S = coroutine_of h

  abbrev n : ℕ
  n = (header s).made

  -- a switch
  pub switched-moved : (x : Switched) → Left q n i D S x.store x.control → Moved h s (some x.control) x.store
  switched-moved x y = left-moved h s x.store x.control k y

  -- ---- await

  unmade-not : (o : ℕ) → o < (header s).made → object s o ≡ Object.Unmade → ⊥
  unfolding view object_in_range
  unmade-not o l e = subst (λ (x : Object). T (object_in_range (header s) (places_below (object s) o) x)) e (w.facts.but.objects o l)

  pub await-moved : (t o : ℕ) → (header s).moment ≡ Moment.Running (task_id t) → o < (header s).made → Moved h s (some (exec_get_awaitable s t o).control) (exec_get_awaitable s t o).store
  await-moved t o m l = by (exec_get_awaitable s t o) ends
    where
      low : t < task_limit
      low = omega (arith, runner_low s t w m, (header-fits s).next_fits)

      row : (task s t).state ≡ TaskState.Running
      row = runner-runs s t w m

      ends : AwaitEnds q n i D S k.done t (exec_get_awaitable s t o)
      ends = await-ends q n i D S k.done t s (task s t) (ap is_live row) (ap is_unstarted row) low o (omega (arith, l, (header-fits s).made_fits)) (unmade-not o l)
          (k.told, record { sized = w.memory.sized; low = runner_low s t w m; row = refl; moment = m })

      by : (x : Awaited) → AwaitEnds q n i D S k.done t x → Moved h s (some x.control) x.store
      by x (stayed a keeps y mo c) =
          subst (λ (z : Control). Moved h s (some z) x.store) (sym c)
          (record {
            told = told_as q q n n i i D D S (λ v. started_by (some (runs t a)) v (S v)) x.store (λ z. refl) refl (λ z. refl) (λ z. refl) (λ v. keeps v (S v)) y;
            runner = λ v e. unfold runner_by in (ap (λ (z : ℕ). some z) (same-run v (sym mo ∙ e)));
            main = keeps 0 (S 0) ∙ k.main;
          })
        where
          same-run : (v : TaskId) → Moment.Running (task_id t) ≡ Moment.Running v → t ≡ v.0
          same-run v e = cc
      by x (switches y ed st ct) =
          let z : Moved h s (some y.control) y.store = switched-moved y (ended-left q n i D S y ed) in
          subst (λ (u : Store). Moved h s (some x.control) u) (sym st) (subst (λ (c : Control). Moved h s (some c) y.store) (sym ct) z)

  -- ---- main's end

  pub end_moved : Moved h s none (cleanup s)
  end_moved = commits_none_moved h s (cleanup s) k (cleanup-tells q n i D S s k.told) (λ t e. not-ended t (header (cleanup s)).moment (cleanup_moment q n i D S s k.told) e)

  -- ---- a failure

  pub fail_agrees : (e : Event) (t : ℕ) (x : Error) → (says e).results ≡ [] → (says e).completes ≡ none → StepAgrees h e (task_fails s t x)
  unfolding task_fails end_main switched tells done_only
  fail_agrees e zero x r c = only_changes_step h s e _ k refl r c refl end_moved
  fail_agrees e (suc t) x r c =
      rw (ne_eqb (suc t) 0 (λ y. not-suc-le-zero {n = 0} (omega arith))) (only_changes_step h s e (switched (handle_task_failure activate s (suc t) x)) k refl r c refl (switched-moved _ (ended-left q n i D S _ (fail-ends q n i D S s (suc t) x k.told))))

  -- ---- resume

  repeat-moved : (cs : List ℕ) → (header s).moment ≡ Moment.Waiting → Moved h s (tells (repeat_wait cs)).control s
  unfolding repeat_wait tells done_only started_by
  repeat-moved [] m = commits_none_moved h s s k k.told (λ t e. e)
  repeat-moved (c ∷ cs) m = record { told = k.told; runner = λ t e. not-run t (header s).moment m e; main = k.main }

  repeat-tells : (cs : List ℕ) → ((tells (repeat_wait cs)).accepts ≡ true) × ((tells (repeat_wait cs)).makes ≡ none)
  unfolding repeat_wait tells done_only
  repeat-tells [] = (refl, refl)
  repeat-tells (c ∷ cs) = (refl, refl)

  pub resume_agrees : (header s).moment ≡ Moment.Waiting → StepAgrees h Event.resume (resume_with_resolved_futures s)
  unfolding resume_with_resolved_futures switched tells says nothing_said
  resume_agrees m = by (eqb s.queue.len 0)
    where
      by : (b : Bool) → StepAgrees h Event.resume (pick b (record { store = s; answer = repeat_wait (pending_call_ids s) }) (switched (resume_next activate s)))
      by true = only_changes_step h s Event.resume (record { store = s; answer = repeat_wait (pending_call_ids s) }) k (repeat-tells (pending_call_ids s)).0 refl refl (repeat-tells (pending_call_ids s)).1 (repeat-moved (pending_call_ids s) m)
      by false = only_changes_step h s Event.resume (switched (resume_next activate s)) k refl refl refl refl (switched-moved _ (ended-left q n i D S _ (resume-ends q n i D S s k.told)))

  -- ---- cancel

  pub cancel_agrees : (t : ℕ) → (header s).moment ≡ Moment.Waiting → t < (header s).next → StepAgrees h (Event.cancel t) (accept s (Event.cancel t))
  unfolding accept says tells done_only
  cancel_agrees t m l =
      only_changes_step h s (Event.cancel t) (answer_cancel s (cancel_task s t)) k refl refl refl refl
      (commits_none_moved h s (cancel_task s t) k (cancel-tells q n i D S s t k.told) (λ v e. ap (λ (y : Header). y.moment) (sym (cancel-during _ _ s t l (only_changes_of s w m)).head) ∙ e))

  -- ---- a call number is handed out

  pub call_agrees : (header s).calls < call_limit → StepAgrees h Event.call (accept s Event.call)
  unfolding accept says tells done_only nothing_said
  call_agrees l =
      only_changes_step h s Event.call (record { store = set_calls s ((header s).calls + 1); answer = Answer.called (header s).calls }) k refl refl refl refl
      (commits_none_moved h s (set_calls s ((header s).calls + 1)) k (unfold set_calls in (header-told q n i D S s _ fits refl refl k.told)) (λ v e. ap (λ (y : Header). y.moment) (sym head) ∙ e))
    where
      fits : HeaderFits (record { made = (header s).made; used = (header s).used; calls = (header s).calls + 1; next = (header s).next; moment = (header s).moment })
      fits = let f : HeaderFits (header s) = header-fits s in record { made_fits = f.made_fits; used_fits = f.used_fits; calls_fit = omega arith; next_fits = f.next_fits; moment_fits = f.moment_fits }

      head : header (set_calls s ((header s).calls + 1)) ≡ record { made = (header s).made; used = (header s).used; calls = (header s).calls + 1; next = (header s).next; moment = (header s).moment }
      head = unfold set_calls in (header_put-header s _ w.memory.sized fits)

  -- ---- reads

  pub read_agrees : (e : Event) (a : Answer) → (tells a).accepts ≡ true → (tells a).makes ≡ none → (tells a).control ≡ none → (says e).results ≡ [] → (says e).completes ≡ none → StepAgrees h e (record { store = s; answer = a })
  read_agrees e a p m c r v =
      only_changes_step h s e (record { store = s; answer = a }) k p r v m (subst (λ (z : Option Control). Moved h s z s) (sym c) (commits_none_moved h s s k k.told (λ t e. e)))
