-- The same for await, for the events that make, and for each event.
use Rattle.std.specs.Prelude.{◌≡◌, Bool, true, false, not, ◌||◌, eqb, leb}
use Rattle.std.proofs.Math.Path.{refl, ap}
use Rattle.std.proofs.Common.{sym, subst, ◌∙◌, true≢false, arith, eq-eqb, ne_eqb, ltb-false}
use mathlib.Core.List.{List, [], ◌∷◌, ◌++◌}
use Rattle.std.proofs.Math.Option.{Option, none, some}
use Prim.Native.Nat.{ℕ, zero, suc, ◌+◌, ◌≤◌, ◌<◌}
use Rattle.std.proofs.Math.Nat.{not-suc-le-zero}
use Rattle.std.proofs.Math.Decide.{ℕ_discrete}
use Rattle.std.proofs.Math.Dec.{T, ltb}
use Rattle.std.proofs.Math.ListN.{length}
use Rattle.asyncio.specs.declared.CallId.{CallId}
use Rattle.asyncio.specs.declared.Value.{Value}
use Rattle.asyncio.specs.declared.Error.{Error}
use Rattle.std.specs.Prelude.{None}
use Rattle.asyncio.specs.declared.TaskState.{TaskState}
use Rattle.asyncio.specs.declared.Task.{Task}
use Rattle.asyncio.specs.declared.Awaiter.{Awaiter}
use Rattle.asyncio.specs.declared.CoroutineState.{CoroutineState}
use Rattle.asyncio.specs.declared.ExternalFutureState.{ExternalFutureState}
use Rattle.asyncio.specs.declared.GatherState.{GatherState}
use Rattle.asyncio.specs.declared.Object.{Object}
use Rattle.asyncio.specs.declared.Moment.{Moment}
use Rattle.asyncio.specs.declared.Header.{Header}
use Rattle.asyncio.specs.Limits.{object_limit, task_limit, item_limit, place_limit, call_limit, u32_limit}
use Rattle.asyncio.specs.Numbers.{heap_id, task_id}
use Rattle.asyncio.specs.Ranges.{HeaderFits}
use Rattle.asyncio.specs.States.{pick, is_live, is_ready}
use Rattle.asyncio.specs.Kinds.{kind, is_completed}
use Rattle.queue.specs.Queue.{entries, occurrences, Distinct, push_back, one_if_same, empty_queue}
use Rattle.queue.proofs.QueueLaws.{entries_push, occurrences_push, distinct_append, push_back-len, push_back-length}
use Rattle.machine.specs.Store.{Store, LogEntry, view, task, object, header, put_task, put_object, put_place, put_queue, put_header, add_log, restate, set_state, set_next, set_calls, set_moment, add_object, spawned, blocked}
use Rattle.machine.specs.Scheduler.{as_pending, push_ready, spawn_as, remove_from, cleanup, pending_call_ids}
use Rattle.machine.specs.Commit.{Poll, ready, raised, pending, await_external, await_pending, commit_gather_tree}
use Rattle.machine.specs.Events.{How, value, raises, inline, Control, runs, waits, Switched, Awaited, activate, resume_next, stays, go_on, await_coroutine, await_external_future, await_gather, await_object, exec_get_awaitable, make_coroutine, make_pending, make_settled, put_items, make_gather, wake_in_order, apply_future_results}
use Rattle.machine.specs.Machine.{Event, Answer, Step, answer_await, end_main, task_completes, task_fails, runner, refusals, refusal, full, no_number, accept, in_running, in_waiting}
use Rattle.machine.specs.Sound.{is_ended, value_known}
use Rattle.machine.specs.History.{Says, says, nothing_said, tells, done_only}
use Rattle.machine_laws.specs.DeliveryLaws.{absurd_some}
use Rattle.machine_laws.specs.Views.{Sized}
use Rattle.machine_laws.specs.Facts.{Nothing}
use Rattle.machine_laws.specs.StoreLaws.{header-fits, header_put-header, header_put-object, live-put_task, task_put-other, sized-put_task, sized-put_object, sized-put_place, sized-put_header, sized-put_queue, sized-add_log, sized-set_next, sized-set_calls}
use Rattle.machine_laws.specs.MakingLaws.{items-sized}
use Rattle.machine_laws.specs.SoundLaws.{pass, running-rest, refusal-rest, has_number, not_full}
use Rattle.machine_laws.specs.TestLaws.{or_left, or_right}
use Rattle.machine_theorems.specs.Soundness.ReadyTasks.{Queued, to_queued, none-queued}
use Rattle.machine_theorems.specs.Soundness.Stores.{idle, SoundDuring, SoundStore, during_of}
use Rattle.machine_theorems.specs.Soundness.Exits.{runner_low}
use Rattle.machine_theorems.specs.Soundness.Await.{wait_external}
use Rattle.machine_theorems.specs.Soundness.AwaitGather.{EndOk, waits_blocks, commit_keeps}
use Rattle.machine_theorems.specs.Soundness.Preserved.{running, waiting, await-made, complete-known, results_apply}
use Rattle.machine.specs.Sessions.{InRange}
use Rattle.machine_theorems.specs.Panics.NoPanicLaws.{made_awaitable}
use Rattle.machine_theorems.specs.Soundness.RowFacts.{remove-sized}
use Rattle.machine_theorems.specs.Soundness.RowFacts.{items-header}
use Rattle.machine_laws.specs.Walk.{Turns, Commits, commit_kept}
use Rattle.machine_sessions.specs.Queue.Tracked.{spawn-next, spawn-row}
use Rattle.machine_sessions.specs.Queue.TrackedEvents.{items-tasks}
use Rattle.machine_sessions.specs.Stall.Room.{room_for}
use Rattle.machine.specs.DemandThree.{is_stalled}
use Rattle.machine_sessions.specs.Stall.Standing.{Stands, stands_like, ready-put_task, Right, moment_head, not-waits, not-waiting, resume-right}
use Rattle.machine_theorems.specs.Soundness.Results.{results-keep}
use Rattle.machine_sessions.specs.Stall.StandingEvents.{MainEnds, OnlyChanges, StepRight, switched-right, awaited-right, row_stands, complete-right, failed-right, resume-step, results_stand, ordered_stand}

-- ---- the running task blocks

blocks_stand : (s : Store) (t o : ℕ) → Sized s → t < task_limit → Stands Nothing s → Stands Nothing (add_log (set_state s t (TaskState.Blocked (heap_id o))) (blocked t))
unfolding put_task
blocks_stand s t o z l k =
    stands_like u (add_log (set_state s t (TaskState.Blocked (heap_id o))) (blocked t)) (unfold add_log set_state in refl) (unfold add_log set_state in refl) (unfold header add_log set_state in refl)
    (record { main = main-by (ℕ_discrete 0 t); stands = λ v m y n. by v m y (ℕ_discrete v t) })
  where
    r : Task
    r = restate (task s t) (TaskState.Blocked (heap_id o))

    u : Store
    u = put_task s t r

    is-r : r.state ≡ TaskState.Blocked (heap_id o)
    is-r = unfold restate in refl

    main-by : Dec (0 ≡ t) → is_live (task u 0).state ≡ true
    main-by (yes q) = subst (λ (m : ℕ). is_live (task u m).state ≡ true) (sym q) (live-put_task s t r z l ∙ ap is_live is-r)
    main-by (no ne) = ap (λ (y : Task). is_live y.state) (task_put-other s t 0 r ne) ∙ k.main

    by : (v : ℕ) → v < (header u).next → is_ready (task u v).state ≡ true → Dec (v ≡ t) → 1 ≤ occurrences (entries u.queue) v
    by v m y (yes q) = absurd (true≢false (sym y ∙ subst (λ (n : ℕ). is_ready (task u n).state ≡ false) (sym q) (ready-put_task s t r z l ∙ ap is_ready is-r)))
    by v m y (no ne) = k.stands v (unfold header in m) (sym (ap (λ (w : Task). is_ready w.state) (task_put-other s t v r ne)) ∙ y) (λ x. x)

-- ---- a commit

pub record Lined (s : Store) : Type 0 where
  pub sized : Sized s
  pub one : 1 ≤ (header s).next
  pub ids : length s.queue.ids ≡ task_limit
  pub len : s.queue.len ≤ task_limit
  pub queued : Queued (header s).next (task s) (entries s.queue)
  pub stood : Stands Nothing s

lined_like : (s u : Store) → Sized u → u.tasks ≡ s.tasks → u.queue ≡ s.queue → (header u).next ≡ (header s).next → Lined s → Lined u
unfolding task
lined_like s u z t q n k =
    record {
      sized = z;
      one = subst (λ m. 1 ≤ m) (sym n) k.one;
      ids = ap (λ x. length x.ids) q ∙ k.ids;
      len = subst (λ x. x.len ≤ task_limit) (sym q) k.len;
      queued = subst (λ m. Queued m (task u) (entries u.queue)) (sym n) (subst (λ w. Queued (header s).next (λ v. Rattle.rows.specs.Tables.task_at w v) (entries u.queue)) (sym t) (subst (λ x. Queued (header s).next (task s) (entries x)) (sym q) k.queued));
      stood = stands_like s u t q n k.stood;
    }

true_T : (b : Bool) → b ≡ true → T b
true_T true e = tt
true_T false e = absurd (true≢false (sym e))

spawns_lined : (s : Store) (c g : ℕ) → (header s).next < task_limit → Lined s → Lined (spawn_as s (header s).next c g)
spawns_lined s c g low k =
    record {
      sized = spawn-sized;
      one = omega (arith, next_is);
      ids = ap (λ x. length x.ids) queue-is ∙ (push_back-length s.queue n ∙ k.ids);
      len = subst (λ x. x.len ≤ task_limit) (sym queue-is) (push_back-len s.queue n k.len);
      queued = record { ready = λ v o. ready_by v (there v o) (ℕ_discrete v n); distinct = subst Distinct (sym entries-are) (distinct_append (entries s.queue) n k.queued.distinct absent-there) };
      stood = record {
        main = ap (λ (y : Task). is_live y.state) (spawn-row s n c g 0 (λ q. main-low q)) ∙ k.stood.main;
        stands = λ v l y x. stands_by v l y (ℕ_discrete v n);
      };
    }
  where
    n : ℕ
    n = (header s).next

    r : Task
    r = record { state = TaskState.Unstarted; awaiter = Awaiter.GatherSlot (heap_id g) (heap_id c); coroutine = heap_id c }

    u : Store
    u = spawn_as s n c g

    spawn-sized : Sized u
    spawn-sized = unfold spawn_as push_ready in (sized-add_log _ (spawned n c) (sized-put_queue (set_next (put_task s n r) (n + 1)) _ (sized-set_next (put_task s n r) (n + 1) (sized-put_task s n r k.sized))))

    queue-is : u.queue ≡ push_back s.queue n
    queue-is = unfold spawn_as push_ready add_log put_queue set_next put_header put_task in refl

    next_is : (header u).next ≡ n + 1
    next_is = spawn-next s n c g k.sized low

    absent-there : occurrences (entries s.queue) n ≡ 0
    absent-there = none-queued n (omega arith) k.queued

    room : s.queue.len < task_limit
    room = room_for s.queue n k.ids k.len (header-fits s).next_fits k.queued low absent-there

    entries-are : entries u.queue ≡ entries s.queue ++ (n ∷ [])
    entries-are = ap entries queue-is ∙ entries_push s.queue n k.ids room

    pushed : (v : ℕ) → occurrences (entries u.queue) v ≡ occurrences (entries s.queue) v + one_if_same n v
    pushed v = ap (λ x. occurrences (entries x) v) queue-is ∙ occurrences_push s.queue n v k.ids room

    main-low : 0 ≡ n → ⊥
    main-low q = not-suc-le-zero {n = 0} (omega (arith, k.one))

    row_n : is_ready (task u n).state ≡ true
    row_n = same ∙ ready-put_task s n r k.sized low
      where
        same : is_ready (task u n).state ≡ is_ready (task (put_task s n r) n).state
        same = unfold spawn_as push_ready add_log put_queue set_next put_header task in refl

    there : (v : ℕ) → 1 ≤ occurrences (entries u.queue) v → (v ≡ n → ⊥) → 1 ≤ occurrences (entries s.queue) v
    there v o ne = let z : one_if_same n v ≡ 0 = rw (ne_eqb n v (λ q. ne (sym q))) in omega (arith, pushed v)

    ready_by : (v : ℕ) → ((v ≡ n → ⊥) → 1 ≤ occurrences (entries s.queue) v) → Dec (v ≡ n) → (v < (header u).next) × T (is_ready (task u v).state)
    ready_by v o (yes q) = (omega (arith, next_is), subst (λ (m : ℕ). T (is_ready (task u m).state)) (sym q) (true_T _ row_n))
    ready_by v o (no ne) =
        let y = k.queued.ready v (o ne) in (omega (arith, y.0, next_is), subst (λ (w : Task). T (is_ready w.state)) (sym (spawn-row s n c g v ne)) y.1)

    stands_by : (v : ℕ) → v < (header u).next → is_ready (task u v).state ≡ true → Dec (v ≡ n) → 1 ≤ occurrences (entries u.queue) v
    stands_by v l y (yes q) = let z : one_if_same n v ≡ 1 = rw (eq-eqb n v (sym q)) in omega (arith, pushed v)
    stands_by v l y (no ne) =
        omega (arith, pushed v, k.stood.stands v (omega (arith, l, next_is)) (sym (ap (λ (w : Task). is_ready w.state) (spawn-row s n c g v ne)) ∙ y) (λ x. x))

lined_commits : Commits Lined
lined_commits =
    record {
      row = λ s o x low y k. lined_like s (put_object s o x) (sized-put_object s o x k.sized) (unfold put_object in refl) (unfold put_object in refl) (ap (λ (h : Header). h.next) (header_put-object s o x)) k;
      value_put = λ s p v k. lined_like s _ (sized-put_place s p _ k.sized) (unfold put_place in refl) (unfold put_place in refl) (unfold header put_place in refl) k;
      spawns = spawns_lined;
    }

-- ---- await

abbrev AwaitRight : Awaited → Type 0
AwaitRight x = Right (record { store = x.store; control = x.control })

stays-right : (s : Store) (t : ℕ) (h : How) (n : ℕ) → (header s).moment ≡ Moment.Running (task_id t) → Stands Nothing s → AwaitRight (stays s t h n)
unfolding stays
stays-right s t h n m k = record { stood = k; waits_idle = λ cs q. not-waits t h cs q; idle = λ q. not-waiting t (sym m ∙ q) }

module _ (s : Store) (h : SoundStore s) (st : Stands Nothing s) (t : ℕ) (m : (header s).moment ≡ Moment.Running (task_id t)) where
  t-low : t < task_limit
  t-low = omega (arith, runner_low s t h m, (header-fits s).next_fits)

  lined-now : Lined s
  unfolding view
  lined-now =
      record {
        sized = h.memory.sized;
        one = h.facts.but.main;
        ids = h.memory.ids;
        len = h.memory.words_right.queue_short;
        queued = to_queued (header s).next (task s) (entries s.queue) h.facts.but.entries;
        stood = st;
      }

  go-on-right : (o n : ℕ) (x : Store) (p : Poll) → EndOk o t x p → Lined x → AwaitRight (go_on t o n x p)
  unfolding go_on view
  go-on-right o n x (ready v) e k = stays-right x t (value v) n e.after.moment k.stood
  go-on-right o n x (raised v) e k = stays-right x t (raises v) n e.after.moment k.stood
  go-on-right o n x pending e k = let r = resume-right Nothing (header x) b (waits_blocks o t x e) (blocks_stand x t o k.sized t-low k.stood) in record { stood = r.stood; waits_idle = r.waits_idle; idle = r.idle }
    where
      b : Store
      b = add_log (set_state x t (TaskState.Blocked (heap_id o))) (blocked t)

  external-right : (o : ℕ) (c : CallId) (x : ExternalFutureState) → o < (header s).made → object s o ≡ Object.ExternalFuture c x → AwaitRight (await_external_future s t o c x)
  unfolding await_external_future await_external await_pending go_on
  external-right o c (ExternalFutureState.Pending Awaiter.Nobody r) l e =
      let y : Object = Object.ExternalFuture c (ExternalFutureState.Pending (Awaiter.Task (task_id t)) r) in
      let u : Store = put_object s o y in
      let w = resume-right (λ p. T (is_completed (kind (object s p)))) (header s) (add_log (set_state u t (TaskState.Blocked (heap_id o))) (blocked t))
      (wait_external s t h m o (record { call = c; awaiter = Awaiter.Nobody; stored = r }) l (ap as_pending e ∙ (unfold as_pending in refl)) refl)
      (blocks_stand u t o (sized-put_object s o y h.memory.sized) t-low (row_stands s o y st)) in
      record { stood = w.stood; waits_idle = w.waits_idle; idle = w.idle }
  external-right o c (ExternalFutureState.Pending (Awaiter.Task u) r) l e = stays-right s t _ 0 m st
  external-right o c (ExternalFutureState.Pending (Awaiter.GatherSlot g y) r) l e = stays-right s t _ 0 m st
  external-right o c (ExternalFutureState.Resolved v) l e = stays-right s t _ 0 m st
  external-right o c (ExternalFutureState.Failed v) l e = stays-right s t _ 0 m st

  gather-right : (o f n : ℕ) (x : GatherState) → o < (header s).made → object s o ≡ Object.GatherFuture f n x → AwaitRight (await_gather s t o x)
  unfolding await_gather
  gather-right o f n GatherState.Pending l e =
      go-on-right o _ (commit_gather_tree s o (Awaiter.Task (task_id t))).store (commit_gather_tree s o (Awaiter.Task (task_id t))).poll (commit_keeps s t h m o f n l e)
      (commit_kept Lined lined_commits s o (Awaiter.Task (task_id t)) (omega (arith, l, (header-fits s).made_fits)) lined-now)
  gather-right o f n (GatherState.Awaited a k) l e = stays-right s t _ 0 m st
  gather-right o f n GatherState.Completed l e = stays-right s t _ 0 m st
  gather-right o f n (GatherState.Failed x) l e = stays-right s t _ 0 m st

  coroutine-right : (o f : ℕ) (x : CoroutineState) → AwaitRight (await_coroutine s t o f x)
  unfolding await_coroutine
  coroutine-right o f CoroutineState.New = stays-right (put_object s o (Object.Coroutine f CoroutineState.Running)) t (inline o) 0 (ap (λ (y : Header). y.moment) (header_put-object s o (Object.Coroutine f CoroutineState.Running)) ∙ m) (row_stands s o (Object.Coroutine f CoroutineState.Running) st)
  coroutine-right o f CoroutineState.Running = stays-right s t _ 0 m st
  coroutine-right o f CoroutineState.Completed = stays-right s t _ 0 m st

  unmade-not : (o : ℕ) → o < (header s).made → object s o ≡ Object.Unmade → ⊥
  unfolding view
  unmade-not o l e = made_awaitable h.facts.but o l e

  pub await-right : (o : ℕ) → o < (header s).made → AwaitRight (exec_get_awaitable s t o)
  unfolding exec_get_awaitable await_object
  await-right o l = by (object s o) refl
    where
      by : (x : Object) → object s o ≡ x → AwaitRight (await_object s t o x)
      by Object.Unmade e = absurd (unmade-not o l e)
      by (Object.Coroutine f x) e = coroutine-right o f x
      by (Object.ExternalFuture c x) e = external-right o c x l e
      by (Object.GatherFuture f n x) e = gather-right o f n x l e

-- ---- the events that make

-- an answer that tells neither who has control nor a stall
only_changes_right : {E : Type 0} (u : Store) (a : Answer) → (tells a).control ≡ none → is_stalled a ≡ false → Stands Nothing u → StepRight E (record { store = u; answer = a })
only_changes_right u a c n k = record { stood = λ e. k; waits_idle = λ cs q. absurd_some (sym c ∙ q); stalls_idle = λ q. absurd (true≢false (sym q ∙ n)) }

-- the session has ended
ended-right : (u : Store) (a : Answer) → (tells a).control ≡ none → is_stalled a ≡ false → StepRight (◌≡◌ {A = ℕ} 0 0) (record { store = u; answer = a })
ended-right u a c n = record { stood = λ q. absurd (q refl); waits_idle = λ cs q. absurd_some (sym c ∙ q); stalls_idle = λ q. absurd (true≢false (sym q ∙ n)) }

add_stands : (s : Store) (r : Object) (n : ℕ) → Sized s → (header s).made < object_limit → (header s).used + n ≤ place_limit → Stands Nothing s → Stands Nothing (add_object s r n)
unfolding add_object
add_stands s r n z m u k =
    stands_like s _ (unfold put_object put_header in refl) (unfold put_object put_header in refl)
    (ap (λ (h : Header). h.next) (header_put-object (put_header s i) (header s).made r ∙ header_put-header s i z fits)) k
  where
    i : Header
    i = record { made = (header s).made + 1; used = (header s).used + n; calls = (header s).calls; next = (header s).next; moment = (header s).moment }

    fits : HeaderFits i
    fits = let f : HeaderFits (header s) = header-fits s in record { made_fits = omega arith; used_fits = u; calls_fit = f.calls_fit; next_fits = f.next_fits; moment_fits = f.moment_fits }

items_words : (os : List ℕ) (s : Store) (p : ℕ) → ((put_items s p os).tasks ≡ s.tasks) × ((put_items s p os).queue ≡ s.queue)
unfolding put_items put_place
items_words [] s p = (refl, refl)
items_words (o ∷ os) s p = items_words os (put_place s p (record { item = heap_id o; result = None })) (p + 1)

module _ (s : Store) (h : SoundStore s) (st : Stands Nothing s) where
  z : Sized s
  z = h.memory.sized

  same_places : (header s).used + 0 ≤ place_limit
  same_places = omega (arith, (header-fits s).used_fits)

  module _ (c : (header s).calls < call_limit) where
    one_more : Header
    one_more = record { made = (header s).made; used = (header s).used; calls = (header s).calls + 1; next = (header s).next; moment = (header s).moment }

    more : header (set_calls s ((header s).calls + 1)) ≡ one_more
    unfolding set_calls one_more
    more =
        let f : HeaderFits (header s) = header-fits s in
        header_put-header s _ z (record { made_fits = f.made_fits; used_fits = f.used_fits; calls_fit = omega arith; next_fits = f.next_fits; moment_fits = f.moment_fits })

    calls-stand : Stands Nothing (set_calls s ((header s).calls + 1))
    unfolding one_more
    calls-stand = stands_like s _ (unfold set_calls put_header in refl) (unfold set_calls put_header in refl) (ap (λ (y : Header). y.next) more) st

    settled-stands : (v : Value) → (header s).made < object_limit → Stands Nothing (make_settled s v)
    unfolding make_settled one_more
    settled-stands v m =
        add_stands (set_calls s ((header s).calls + 1)) _ 0 (sized-set_calls s _ z) (subst (λ (y : Header). y.made < object_limit) (sym more) m)
        (subst (λ (y : Header). y.used + 0 ≤ place_limit) (sym more) same_places) calls-stand

  gather-stands : (os : List ℕ) → (header s).made < object_limit → (header s).used + length os ≤ place_limit → Stands Nothing (make_gather s os)
  unfolding make_gather
  gather-stands os m u =
      let hd : header (put_items s (header s).used os) ≡ header s = items-header os s (header s).used in
      add_stands (put_items s (header s).used os) _ (length os) (items-sized os s (header s).used z) (subst (λ (y : Header). y.made < object_limit) (sym hd) m)
      (subst (λ (y : Header). y.used + length os ≤ place_limit) (sym hd) u)
      (stands_like s _ (items_words os s (header s).used).0 (items_words os s (header s).used).1 (ap (λ (y : Header). y.next) hd) st)

  -- main ends the session
  pub ends : is_ended (header (cleanup s)).moment ≡ true
  unfolding cleanup
  ends = ap is_ended (moment_head (put_queue (remove_from s 0 (header s).next) empty_queue) Moment.Ended (sized-put_queue _ _ (remove-sized (header s).next s 0 z)) tt).1 ∙ (unfold is_ended in refl)

  complete-step : (t : ℕ) (v : Value) → (header s).moment ≡ Moment.Running (task_id t) → T (value_known (header s).made (object s) v) → StepRight (t ≡ 0) (task_completes s t v)
  unfolding task_completes end_main
  complete-step zero v m k = ended-right (cleanup s) (Answer.finished v) (unfold tells done_only in refl) (unfold is_stalled in refl)
  complete-step (suc t) v m k = rw (ne_eqb (suc t) 0 (λ e. not-suc-le-zero {n = 0} (omega arith))) (switched-right _ (complete-right s h st t v m k))

  fail-step : (t n : ℕ) → (header s).moment ≡ Moment.Running (task_id t) → n < u32_limit → StepRight (t ≡ 0) (task_fails s t (Error.Script n))
  unfolding task_fails end_main
  fail-step zero n m k = ended-right (cleanup s) (Answer.finished_error (Error.Script n)) (unfold tells done_only in refl) (unfold is_stalled in refl)
  fail-step (suc t) n m k = rw (ne_eqb (suc t) 0 (λ e. not-suc-le-zero {n = 0} (omega arith))) (switched-right _ (failed-right s h st t (Error.Script n) m k))

  -- Each event but cancel.
  pub accept-right : (e : Event) → InRange e → (says e).cancels ≡ false → refusal s e ≡ 0 → StepRight (MainEnds s e) (accept s e)
  unfolding accept refusals make_coroutine make_pending InRange says tells done_only is_stalled nothing_said MainEnds
  accept-right (Event.coroutine f) i n r = only_changes_right _ _ refl refl (add_stands s _ 0 z (not_full s (pass 6 (full s) [] (running-rest s _ (refusal-rest s (Event.coroutine f) r))).0) same_places st)
  accept-right Event.call i n r = only_changes_right _ _ refl refl (calls-stand (has_number s (pass 7 (no_number s) [] (running-rest s _ (refusal-rest s Event.call r))).0))
  accept-right (Event.pending d x) i n r =
      only_changes_right _ _ refl refl (add_stands s _ 0 z (not_full s (pass 6 (full s) [] (pass 5 _ _ (pass 4 _ _ (running-rest s _ (refusal-rest s (Event.pending d x) r))).1).1).0) same_places st)
  accept-right (Event.settled v) i n r =
      let q = pass 6 (full s) _ (pass 4 _ _ (running-rest s _ (refusal-rest s (Event.settled v) r))).1 in
      only_changes_right _ _ refl refl (settled-stands (has_number s (pass 7 (no_number s) [] q.1).0) v (not_full s q.0))
  accept-right (Event.gather os) i n r =
      let q = (pass 6 (full s || ltb item_limit (length os) || ltb place_limit ((header s).used + length os)) [] (pass 4 _ _ (running-rest s _ (refusal-rest s (Event.gather os) r))).1).0 in
      only_changes_right _ _ refl refl (gather-stands os (not_full s (or_left (full s) (ltb item_limit (length os)) (or_left (full s || ltb item_limit (length os)) (ltb place_limit ((header s).used + length os)) q)))
      (ltb-false place_limit ((header s).used + length os) (or_right (full s || ltb item_limit (length os)) (ltb place_limit ((header s).used + length os)) q)))
  accept-right (Event.await o) i n r =
      let q = refusal-rest s (Event.await o) r in awaited-right _ (await-right s h st (runner (header s).moment) (running s h _ q) o (await-made s h o q))
  accept-right (Event.complete v) i n r = let q = refusal-rest s (Event.complete v) r in complete-step (runner (header s).moment) v (running s h _ q) (complete-known s h v q)
  accept-right (Event.fail m) i n r = fail-step (runner (header s).moment) m (running s h _ (refusal-rest s (Event.fail m) r)) i
  accept-right (Event.results rs) i n r =
      let a = results_apply s h rs (refusal-rest s (Event.results rs) r) in
      only_changes_right _ _ refl refl (ordered_stand s (apply_future_results s rs) (results-keep rs s a (during_of s h)) (results_stand rs s a (during_of s h) st))
  accept-right Event.resume i n r = resume-step s h st (waiting s h [] (refusal-rest s Event.resume r)).0
  accept-right (Event.cancel t) i n r = absurd (true≢false n)
  accept-right (Event.show o) i n r = only_changes_right _ _ refl refl st
  accept-right Event.eager i n r = only_changes_right _ _ refl refl st
