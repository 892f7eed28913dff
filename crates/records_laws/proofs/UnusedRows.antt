-- In a session the tasks' words from the next task's row on are 0: only a spawn writes there, and it takes the next number. An instance of the walk.
use Rattle.std.specs.Prelude.{◌≡◌, Bool, true, false, T, eqb, leb, length, get_or, set, replicate}
use Rattle.std.proofs.Math.Path.{refl, ap}
use Rattle.std.proofs.Common.{sym, subst, ◌∙◌, true≢false, mod-eq_of_lt, arith, ltb→lt, eqb-true, leb-true, leb-false, ltb-true}
use mathlib.Core.List.{List, [], ◌∷◌}
use Rattle.std.proofs.Math.Option.{some}
use Prim.Native.Nat.{ℕ, zero, suc, ◌+◌, ◌*◌, ◌%◌, ◌≤◌, ◌<◌}
use Rattle.asyncio.specs.Limits.{task_limit, object_limit, task_width, places_length, tasks_length}
use Rattle.asyncio.specs.Numbers.{heap_id}
use Rattle.asyncio.specs.States.{pick, is_live, is_ready, is_blocked}
use Rattle.asyncio.specs.RangeLaws.{pick_has}
use Rattle.asyncio.specs.Layout.{task_words, to_task, header_words, to_header}
use Rattle.asyncio.specs.declared.Value.{Value}
use Rattle.asyncio.specs.declared.Error.{Error}
use Rattle.asyncio.specs.declared.Awaiter.{Awaiter}
use Rattle.asyncio.specs.declared.TaskId.{TaskId}
use Rattle.asyncio.specs.declared.TaskState.{TaskState}
use Rattle.asyncio.specs.declared.Task.{Task}
use Rattle.asyncio.specs.declared.ExternalFutureState.{ExternalFutureState}
use Rattle.asyncio.specs.declared.Object.{Object}
use Rattle.asyncio.specs.declared.Header.{Header}
use Rattle.asyncio.specs.declared.Moment.{Moment}
use Rattle.rows.specs.Rows.{row_from, put_from}
use Rattle.rows.specs.RowLaws.{past_put_from, row-put_from}
use Rattle.rows.specs.Tables.{task_at, task_put, header_at, header_put, task_start}
use Rattle.machine.specs.Store.{Store, LogEntry, task, object, place, header, put_task, put_object, put_place, put_places, put_header, put_queue, add_log, forget, fresh, empty}
use Rattle.machine.specs.Store.{restate, set_state, set_moment, set_next, set_calls, add_object, absent, view, spawned, blocked, exited}
use Rattle.machine.specs.Scheduler.{PendingExternal, as_pending, make_ready, push_ready, remove_from_ready_queue, remove_task, spawn_as}
use Rattle.machine.specs.Events.{completed, handle_task_completion, make_coroutine, make_pending, make_settled, put_items, make_gather}
use Rattle.machine.specs.Sound.{runner_in_range}
use Rattle.machine.specs.Machine.{Event, Answer, Step, switched, answer_await, end_main, task_completes, task_fails, runner, resume_with_resolved_futures}
use Rattle.machine.specs.Machine.{first_refusal, refusals, refusal, accept, decide, step}
use Rattle.machine_laws.specs.Views.{Sized}
use Rattle.machine_laws.specs.StoreLaws.{sized-put_task, sized-put_object, sized-put_place, sized-put_header, sized-put_places, sized-put_queue, sized-add_log, sized-forget, sized-set_next}
use Rattle.machine_laws.specs.StoreLaws.{task-fits, header-fits, header_put-object}
use Rattle.machine_laws.specs.SoundLaws.{refusal-rest, refusal-forget}
use Rattle.machine_laws.specs.Walk.{Commits, Closed, await-kept, resume-kept, fail-kept, completion_kept, results-kept, cancel-kept, cleanup-kept}
use Rattle.machine_laws.specs.WalkEvents.{await_low}
use Rattle.machine_laws.specs.SizedLaws.{fresh-sized}
use Rattle.machine_theorems.specs.Soundness.RowFacts.{ready-live, blocked-live}
use Rattle.machine_theorems.specs.Soundness.Stores.{SoundStore}
use Rattle.machine_theorems.specs.Soundness.Sessions.{forget_sound_store}
use Rattle.records_laws.specs.UnusedRows.{Unused}

-- ---- words

set-zero : (w : List ℕ) (k i : ℕ) → get_or w i 0 ≡ 0 → get_or (set w k 0) i 0 ≡ 0
set-zero [] k i e = e
set-zero (x ∷ w) zero zero e = refl
set-zero (x ∷ w) zero (suc i) e = e
set-zero (x ∷ w) (suc k) zero e = e
set-zero (x ∷ w) (suc k) (suc i) e = set-zero w k i e

zeros_put : (n : ℕ) (w : List ℕ) (b j i : ℕ) → get_or w i 0 ≡ 0 → get_or (put_from w b j (replicate n 0)) i 0 ≡ 0
zeros_put zero w b j i e = e
zeros_put (suc n) w b j i e = zeros_put n (set w (b + j) 0) b (suc j) i (set-zero w (b + j) i e)

absent_clear : (w : List ℕ) (t i : ℕ) → get_or w i 0 ≡ 0 → get_or (task_put w t absent) i 0 ≡ 0
unfolding task_put absent
absent_clear w t i e = zeros_put 8 w (task_start t) 0 i e

pub past_clear : (w : List ℕ) (t i : ℕ) (r : Task) → suc t * task_width ≤ i → get_or (task_put w t r) i 0 ≡ get_or w i 0
unfolding task_put
past_clear w t i r h = past_put_from w (task_start t) 0 i (task_words r) (omega (arith, h))

zero_row : (k : ℕ) (w : List ℕ) (b j : ℕ) → ((i : ℕ) → b + j ≤ i → get_or w i 0 ≡ 0) → row_from w b j k ≡ replicate k 0
zero_row zero w b j h = refl
zero_row (suc k) w b j h =
    let here : get_or w (b + j) 0 ≡ 0 = h (b + j) (omega arith) in
    let rest : row_from w b (suc j) k ≡ replicate k 0 = zero_row k w b (suc j) (λ i l. h i (omega (arith, l))) in
    rw (here, rest)

absent-at : (w : List ℕ) (t : ℕ) → ((i : ℕ) → t * task_width ≤ i → get_or w i 0 ≡ 0) → task_at w t ≡ absent
unfolding task_at absent
absent-at w t h = ap to_task (zero_row 8 w (task_start t) 0 (λ i l. h i (omega (arith, l))))

-- ---- the next number

next_put : (s : Store) (h : Header) → Sized s → h.next ≤ task_limit → (header (put_header s h)).next ≡ h.next
unfolding header put_header header_at header_put
next_put s h z l =
    ap (λ (w : List ℕ). (to_header w).next) (row-put_from s.objects 0 0 (header_words h) (omega (arith, z.objects_sized)))
    ∙ mod-eq_of_lt (omega (arith, l))

-- a live task's number is below the next
pub live_below : (m : ℕ) (s : Store) (t : ℕ) → Unused m s → is_live (task s t).state ≡ true → t < (header s).next
live_below m s t u l = by (leb (header s).next t) refl
  where
    by : (b : Bool) → leb (header s).next t ≡ b → t < (header s).next
    by false q = leb-false (header s).next t q
    by true q =
        let low : (header s).next ≤ t = leb-true (header s).next t q in
        let gone : task s t ≡ absent = unfold task in (absent-at s.tasks t (λ i h. u.clear i (omega (arith, low, h)))) in
        absurd (true≢false (sym l ∙ ap (λ (r : Task). is_live r.state) gone ∙ (unfold absent in refl)))

next-set_next : (s : Store) (n : ℕ) → Sized s → n ≤ task_limit → (header (set_next s n)).next ≡ n
unfolding set_next
next-set_next s n z l = next_put s _ z l

tasks-set_next : (s : Store) (n : ℕ) → (set_next s n).tasks ≡ s.tasks
unfolding set_next put_header
tasks-set_next s n = refl

put_past : (s : Store) (t i : ℕ) (r : Task) → suc t * task_width ≤ i → get_or (put_task s t r).tasks i 0 ≡ get_or s.tasks i 0
unfolding put_task
put_past s t i r h = past_clear s.tasks t i r h

-- ---- each write

module _ (m : ℕ) where
  -- one that writes no task and keeps the next number
  keeps : (s s' : Store) → Unused m s → Sized s' → s'.tasks ≡ s.tasks → (header s').next ≡ (header s).next → Unused m s'
  keeps s s' u z e n = record {
    sized = z;
    least = subst (λ (k : ℕ). m ≤ k) (sym n) u.least;
    clear = λ i l. ap (λ (w : List ℕ). get_or w i 0) e ∙ u.clear i (subst (λ (k : ℕ). k * task_width ≤ i) n l);
  }

  task-kept : (s : Store) (t : ℕ) (r : Task) → t < (header s).next → Unused m s → Unused m (put_task s t r)
  task-kept s t r l u = record {
    sized = sized-put_task s t r u.sized;
    least = unfold header put_task in u.least;
    clear = λ i h.
        let low : (header s).next * task_width ≤ i = unfold header put_task in h in
        put_past s t i r (omega (arith, low, l)) ∙ u.clear i low;
  }

  absent-kept : (s : Store) (t : ℕ) → Unused m s → Unused m (put_task s t absent)
  absent-kept s t u = record {
    sized = sized-put_task s t absent u.sized;
    least = unfold header put_task in u.least;
    clear = λ i h.
        let low : (header s).next * task_width ≤ i = unfold header put_task in h in
        unfold put_task in (absent_clear s.tasks t i (u.clear i low));
  }

  object-kept : (s : Store) (o : ℕ) (x : Object) → Unused m s → Unused m (put_object s o x)
  object-kept s o x u = keeps s (put_object s o x) u (sized-put_object s o x u.sized) (unfold put_object in refl) (ap (λ (h : Header). h.next) (header_put-object s o x))

  queue_kept : (s : Store) (q : _) → Unused m s → Unused m (put_queue s q)
  queue_kept s q u = keeps s (put_queue s q) u (sized-put_queue s q u.sized) (unfold put_queue in refl) (unfold header put_queue in refl)

  log-kept : (s : Store) (h : LogEntry) → Unused m s → Unused m (add_log s h)
  log-kept s h u = keeps s (add_log s h) u (sized-add_log s h u.sized) (unfold add_log in refl) (unfold header add_log in refl)

  place_kept : (s : Store) (p : ℕ) (r : _) → Unused m s → Unused m (put_place s p r)
  place_kept s p r u = keeps s (put_place s p r) u (sized-put_place s p r u.sized) (unfold put_place in refl) (unfold header put_place in refl)

  places-kept : (s : Store) (ps : List ℕ) → length ps ≡ places_length → Unused m s → Unused m (put_places s ps)
  places-kept s ps e u = keeps s (put_places s ps) u (sized-put_places s ps e u.sized) (unfold put_places in refl) (unfold header put_places in refl)

  header-kept : (s : Store) (h : Header) → h.next ≡ (header s).next → Unused m s → Unused m (put_header s h)
  header-kept s h e u =
      let fits : h.next ≤ task_limit = rw e (header-fits s).next_fits in
      keeps s (put_header s h) u (sized-put_header s h u.sized) (unfold put_header in refl) (next_put s h u.sized fits ∙ e)

  state_kept : (s : Store) (t : ℕ) (x : TaskState) → t < (header s).next → Unused m s → Unused m (set_state s t x)
  unfolding set_state
  state_kept s t x l u = task-kept s t (restate (task s t) x) l u

  moment-kept : (s : Store) (x : Moment) → Unused m s → Unused m (set_moment s x)
  unfolding set_moment
  moment-kept s x u = header-kept s _ refl u

  calls-kept : (s : Store) (n : ℕ) → Unused m s → Unused m (set_calls s n)
  unfolding set_calls
  calls-kept s n u = header-kept s _ refl u

  added-kept : (s : Store) (x : Object) (n : ℕ) → Unused m s → Unused m (add_object s x n)
  unfolding add_object
  added-kept s x n u = object-kept _ (header s).made x (header-kept s _ refl u)

  removed-kept : (s : Store) (t : ℕ) (h : LogEntry) → Unused m s → Unused m (add_log (remove_task s t) h)
  unfolding remove_task remove_from_ready_queue
  removed-kept s t h u = log-kept _ h (queue_kept _ _ (absent-kept s t u))

  woken-kept : (s : Store) (t : ℕ) (x : TaskState) (h : LogEntry) → is_blocked (task s t).state ≡ true → Unused m s → Unused m (add_log (make_ready s t x) h)
  unfolding make_ready push_ready
  woken-kept s t x h b u = log-kept _ h (queue_kept _ _ (state_kept s t x (live_below m s t u (blocked-live (task s t).state b)) u))

  -- a spawn takes the next number
  next-kept : (s : Store) (r : Task) → (header s).next < task_limit → Unused m s → Unused m (set_next (put_task s (header s).next r) ((header s).next + 1))
  next-kept s r l u = record {
    sized = sized-set_next _ _ z;
    least = subst (λ (k : ℕ). m ≤ k) (sym is) (omega (arith, u.least));
    clear = λ i h.
        let low : ((header s).next + 1) * task_width ≤ i = subst (λ (k : ℕ). k * task_width ≤ i) is h in
        ap (λ (w : List ℕ). get_or w i 0) (tasks-set_next _ _) ∙ put_past s (header s).next i r (omega (arith, low)) ∙ u.clear i (omega (arith, low));
  }
    where
      z : Sized (put_task s (header s).next r)
      z = sized-put_task s (header s).next r u.sized

      is : (header (set_next (put_task s (header s).next r) ((header s).next + 1))).next ≡ (header s).next + 1
      is = next-set_next _ _ z (omega (arith, l))

  spawn-kept : (s : Store) (c g : ℕ) → (header s).next < task_limit → Unused m s → Unused m (spawn_as s (header s).next c g)
  unfolding spawn_as push_ready
  spawn-kept s c g l u = log-kept _ _ (queue_kept _ _ (next-kept s _ l u))

  commits : Commits (Unused m)
  commits = record {
    row = λ s o x l q u. object-kept s o x u;
    value_put = λ s p v u. place_kept s p _ u;
    spawns = λ s c g l u. spawn-kept s c g l u;
  }

  closed : Closed (Unused m)
  closed = record {
    sized = λ s u. u.sized;
    row = λ s o x l q u. object-kept s o x u;
    values_put = λ s ps e u. places-kept s ps e u;
    queued = λ s q u. queue_kept s q u;
    moved = λ s x f u. moment-kept s x u;
    wakes = λ s t x l b r u. woken-kept s t x _ b u;
    runs_on = λ s t l r u. state_kept s t TaskState.Running (live_below m s t u (ready-live (task s t).state r)) u;
    exits = λ s t u. removed-kept s t _ u;
    goes = λ s t u. removed-kept s t _ u;
    ends = λ s t u. log-kept _ _ (absent-kept s t u);
  }

  -- ---- each event

  items_kept : (os : List ℕ) (s : Store) (p : ℕ) → Unused m s → Unused m (put_items s p os)
  unfolding put_items
  items_kept [] s p u = u
  items_kept (o ∷ os) s p u = items_kept os _ (p + 1) (place_kept s p _ u)

  completion : (s : Store) (t : ℕ) (v : Value) → Unused m s → Unused m (switched (handle_task_completion s t v)).store
  unfolding switched handle_task_completion
  completion s t v u =
      let c : ℕ = (task s t).coroutine.0 in
      completion_kept (Unused m) closed (add_log (remove_task (put_object s c (completed (object s c))) t) (exited t)) (task s t).awaiter v (task-fits s t).awaiter_fits
      (removed-kept _ t _ (object-kept s c _ u))

  ends-kept : (s : Store) (a : Answer) → Unused m s → Unused m (end_main s a).store
  unfolding end_main
  ends-kept s a u = cleanup-kept (Unused m) closed s u

  resumes : (s : Store) → Unused m s → Unused m (resume_with_resolved_futures s).store
  unfolding resume_with_resolved_futures switched
  resumes s u = pick_has (λ (x : Step). Unused m x.store) (eqb s.queue.len 0) u (resume-kept (Unused m) closed s u)

-- an event that no refusal meets, where the running task is below m
accept-kept : (m : ℕ) (s : Store) (e : Event) → runner (header s).moment < m → first_refusal (refusals s e) ≡ 0 → Unused m s → Unused m (accept s e).store
unfolding accept make_coroutine make_pending make_settled make_gather answer_await task_completes task_fails switched
accept-kept m s (Event.coroutine f) l r u = added-kept m s _ 0 u
accept-kept m s Event.call l r u = calls-kept m s _ u
accept-kept m s (Event.pending c x) l r u = added-kept m s _ 0 u
accept-kept m s (Event.settled v) l r u = added-kept m _ _ 0 (calls-kept m s _ u)
accept-kept m s (Event.gather os) l r u = added-kept m _ _ _ (items_kept m os s _ u)
accept-kept m s (Event.await o) l r u =
    let low : o < object_limit = await_low s o r in
    await-kept (Unused m) (Unused m) (commits m) (closed m) (λ v x. x) (runner (header s).moment) o low
    (λ v x. log-kept m _ _ (state_kept m v (runner (header s).moment) (TaskState.Blocked (heap_id o)) (omega (arith, l, x.least)) x)) s u
accept-kept m s (Event.complete v) l r u =
    pick_has (λ (x : Step). Unused m x.store) (eqb (runner (header s).moment) 0) (ends-kept m s (Answer.finished v) u) (completion m s (runner (header s).moment) v u)
accept-kept m s (Event.fail n) l r u =
    pick_has (λ (x : Step). Unused m x.store) (eqb (runner (header s).moment) 0) (ends-kept m s (Answer.finished_error (Error.Script n)) u)
    (fail-kept (Unused m) (closed m) s (runner (header s).moment) (Error.Script n) u)
accept-kept m s (Event.results rs) l r u = results-kept (Unused m) (closed m) (λ v o p y q e x. object-kept m v o _ x) rs s u
accept-kept m s Event.resume l r u = resumes m s u
accept-kept m s (Event.cancel t) l r u = cancel-kept (Unused m) (closed m) s t u
accept-kept m s (Event.show o) l r u = u
accept-kept m s Event.eager l r u = u

-- the running task of a sound store is below the next number
runner-below : (s : Store) → SoundStore s → runner (header s).moment < (header s).next
runner-below s h = by (header s).moment runs
  where
    runs : T (runner_in_range (header s).next (header s).moment)
    runs = unfold view in h.facts.runner

    main : 1 ≤ (header s).next
    main = unfold view in h.facts.but.main

    by : (x : Moment) → T (runner_in_range (header s).next x) → runner x < (header s).next
    by (Moment.Running t) k = unfold runner runner_in_range in (ltb→lt t.0 (header s).next k)
    by Moment.Waiting k = unfold runner in main
    by Moment.Ended k = unfold runner in main

-- Every event of a sound store, refused or not, leaves the unused rows 0.
pub step_unused : (s : Store) (e : Event) → SoundStore s → Unused 0 s → Unused 0 (step s e).store
unfolding step decide
step_unused s e h u = by (eqb (refusal s e) 0) refl
  where
    n : ℕ
    n = (header (forget s)).next

    forgotten : Unused n (forget s)
    forgotten = record {
      sized = sized-forget s u.sized;
      least = omega arith;
      clear = λ i l. unfold forget in (u.clear i (unfold header forget in l));
    }

    lower : (s' : Store) → Unused n s' → Unused 0 s'
    lower s' x = record { sized = x.sized; least = omega arith; clear = x.clear }

    by : (b : Bool) → eqb (refusal s e) 0 ≡ b → Unused 0 (pick b (accept (forget s) e) (record { store = forget s; answer = Answer.refused (refusal s e) })).store
    by true q =
        lower _ (accept-kept n (forget s) e (runner-below (forget s) (forget_sound_store s h))
        (refusal-rest (forget s) e (refusal-forget s e ∙ eqb-true (refusal s e) 0 q)) forgotten)
    by false q = lower _ forgotten

pub zeros_clear : (n i : ℕ) → get_or (replicate {A = ℕ} n 0) i 0 ≡ 0
zeros_clear zero i = refl
zeros_clear (suc n) zero = refl
zeros_clear (suc n) (suc i) = zeros_clear n i

-- A fresh session has main's row alone.
pub fresh_unused : Unused 0 fresh
fresh_unused = record { sized = fresh-sized; least = omega arith; clear = λ i l. rest i (subst (λ (k : ℕ). k * task_width ≤ i) next_is l) }
  where
    next_is : (header fresh).next ≡ 1
    next_is = unfold fresh empty put_task put_header header header_at header_put in refl

    rest : (i : ℕ) → 1 * task_width ≤ i → get_or fresh.tasks i 0 ≡ 0
    rest i l = unfold fresh put_task put_header empty in (past_clear (replicate tasks_length 0) 0 i _ l ∙ zeros_clear tasks_length i)
