-- A ready task stands in the queue, main lives, and where an answer is a wait the moment is waiting and the queue is empty: through the cycle.
use Rattle.std.specs.Prelude.{◌≡◌, Bool, false, not, List, [], ◌∷◌, T, eqb, length, take}
use Rattle.std.proofs.Math.Path.{refl, ap, subst}
use Rattle.std.proofs.Common.{sym, ◌∙◌, true≢false, le_refl, not-suc-le-zero, eqb-true, eq-eqb, ne_eqb}
use Rattle.std.proofs.Math.Bool.{true}
use Rattle.std.proofs.Math.Option.{Option, none, some, some-injective}
use Prim.Native.Nat.{ℕ, zero, suc, ◌+◌, ◌-◌, ◌≤◌, ◌<◌}
use native.Mathlib.Omega.{arith}
use Rattle.std.proofs.Math.Decide.{ℕ_discrete}
use Rattle.std.proofs.lemmas.Bool.{eqb-false}
use Rattle.asyncio.specs.declared.Value.{Value}
use Rattle.asyncio.specs.declared.Error.{Error}
use Rattle.asyncio.specs.declared.TaskId.{TaskId}
use Rattle.asyncio.specs.declared.TaskState.{TaskState}
use Rattle.asyncio.specs.declared.Task.{Task}
use Rattle.asyncio.specs.declared.Awaiter.{Awaiter}
use Rattle.asyncio.specs.declared.CoroutineState.{CoroutineState}
use Rattle.asyncio.specs.declared.Object.{Object}
use Rattle.asyncio.specs.declared.Moment.{Moment}
use Rattle.asyncio.specs.declared.Header.{Header}
use Rattle.asyncio.specs.Limits.{object_limit, task_limit}
use Rattle.asyncio.specs.Numbers.{heap_id, task_id}
use Rattle.asyncio.specs.Ranges.{AwaiterFits, ErrorFits, HeaderFits, MomentFits}
use Rattle.asyncio.specs.Layout.{to_task, state_words, to_state}
use Rattle.asyncio.specs.States.{pick, is_live, is_ready, is_blocked}
use Rattle.rows.specs.Tables.{task_codec, task_start, task_at, task_put}
use Rattle.rows.specs.RowLaws.{row-put_at}
use Rattle.queue.specs.declared.ReadyQueue.{ReadyQueue}
use Rattle.queue.specs.Queue.{entries, occurrences, without, one_if_same, front_of, pop_front, push_back, remove}
use Rattle.queue.proofs.QueueLaws.{distinct_without, length-entries, front_entry, entries_pop, entries-remove, occurrences_push, occurrences-without, pop_front-len, pop_front-length, remove-len, remove-length}
use Rattle.machine.specs.Store.{LogEntry, Store, view, task, object, header, put_task, put_object, put_queue, add_log, restate, set_state, set_moment, put_header, absent, exited}
use Rattle.machine.specs.Scheduler.{live_count, remove_from_ready_queue, remove_task}
use Rattle.machine.specs.Delivery.{Delivery, deliver_awaiter_success, deliver_awaiter_failure}
use Rattle.machine.specs.Events.{How, start, value, raises, Control, runs, waits, Switched, run, yield, new_function, resume_next, resume_after_task_exit, handle_task_failure, start_by, start_task, activate_state, activate_within, activate}
use Rattle.machine_laws.specs.Views.{Sized}
use Rattle.machine_laws.specs.Statements.{SameLive}
use Rattle.machine_laws.specs.Facts.{Nothing}
use Rattle.machine_laws.specs.StoreLaws.{header-fits, header_put-header, header_put-object, live-put_task, task_put-other, task-fits, sized-put_object, sized-set_state}
use Rattle.machine_laws.specs.DeliveryLaws.{absurd_some, failure_same, same-live_count}
use Rattle.machine_laws.specs.CycleLaws.{live-falls}
use Rattle.machine_theorems.specs.Soundness.ReadyTasks.{Queued, to_queued, not-queued, head_gone, queued_less, gone, was_there}
use Rattle.machine_theorems.specs.Soundness.Stores.{idle, SoundDuring, queue_during}
use Rattle.machine_theorems.specs.Soundness.Deliver.{DeliveryEnds, failure_keeps}
use Rattle.machine_theorems.specs.Soundness.Cycle.{task_delivering, remove_keeps}
use Rattle.machine_theorems.specs.Panics.NoPanicLaws.{Activated, starts, goes_on, raises_it, ready_activated, main_started}
use Rattle.machine_theorems.specs.Panics.NoPanicWoken.{failure_activated}
use Rattle.machine_theorems.specs.Soundness.RowFacts.{ready-live}
use Rattle.machine_sessions.specs.Stall.Effects.{WokenBy, Effect, nobody, wakes, success_effect, failure_effect}
use Rattle.machine_sessions.specs.Stall.Room.{room_for}

-- a ready task stands in the queue, but for those of E; main lives
pub record Stands (E : ℕ → Type 0) (s : Store) : Type 0 where
  pub main : is_live (task s 0).state ≡ true
  pub stands : (t : ℕ) → t < (header s).next → is_ready (task s t).state ≡ true → (E t → ⊥) → 1 ≤ occurrences (entries s.queue) t

-- tasks, queue and the next number as they were
pub stands_like : {E : ℕ → Type 0} (s u : Store) → u.tasks ≡ s.tasks → u.queue ≡ s.queue → (header u).next ≡ (header s).next → Stands E s → Stands E u
unfolding task
stands_like s u t q n k =
    record {
      main = subst (λ (l : List ℕ). is_live (task_at l 0).state ≡ true) (sym t) k.main;
      stands = λ v l r e.
          subst (λ (p : ReadyQueue). 1 ≤ occurrences (entries p) v) (sym q)
          (k.stands v (subst (λ (m : ℕ). v < m) n l) (subst (λ (w : List ℕ). is_ready (task_at w v).state ≡ true) t r) e);
    }

-- another queue
pub stands_queue : {E : ℕ → Type 0} (s : Store) (q : ReadyQueue) → is_live (task s 0).state ≡ true
    → ((t : ℕ) → t < (header s).next → is_ready (task s t).state ≡ true → (E t → ⊥) → 1 ≤ occurrences (entries q) t) → Stands E (put_queue s q)
unfolding put_queue task header
stands_queue s q m f = record { main = m; stands = f }

queue_ready : (s : Store) (q : ReadyQueue) (t : ℕ) → is_ready (task s t).state ≡ true → is_ready (task (put_queue s q) t).state ≡ true
unfolding put_queue task
queue_ready s q t e = e

-- ---- reading back

ready_back : (x : TaskState) → is_ready (to_state (state_words x).0 (state_words x).1 (state_words x).2) ≡ is_ready x
ready_back TaskState.Absent = refl
ready_back TaskState.Unstarted = refl
ready_back TaskState.Running = refl
ready_back (TaskState.Woken v) = refl
ready_back (TaskState.Raised e) = refl
ready_back (TaskState.Blocked o) = refl

pub ready-put_task : (s : Store) (t : ℕ) (r : Task) → Sized s → t < task_limit → is_ready (task (put_task s t r) t).state ≡ is_ready r.state
unfolding task put_task task_at task_put
ready-put_task s t r z l =
    ap (λ (x : List ℕ). is_ready (to_task x).state) (row-put_at task_codec s.tasks (task_start t) r (omega (arith, z.tasks_sized)))
    ∙ ready_back r.state

pub blocked_unready : (x : TaskState) → is_blocked x ≡ true → is_ready x ≡ false
blocked_unready TaskState.Absent e = absurd (true≢false (sym e))
blocked_unready TaskState.Unstarted e = absurd (true≢false (sym e))
blocked_unready TaskState.Running e = refl
blocked_unready (TaskState.Woken v) e = absurd (true≢false (sym e))
blocked_unready (TaskState.Raised x) e = absurd (true≢false (sym e))
blocked_unready (TaskState.Blocked o) e = refl

activated_ready : (x : TaskState) → Activated x → is_ready x ≡ true
activated_ready _ starts = refl
activated_ready _ (goes_on v) = refl
activated_ready _ (raises_it e) = refl

-- ---- a delivery

module _ {P : ℕ → Type 0} {r : ℕ → Bool} {D : ℕ → Type 0} {hd : Header} (s : Store) (h : SoundDuring P r D hd s) where
  the-queue : Queued (header s).next (task s) (entries s.queue)
  unfolding view
  the-queue = to_queued (header s).next (task s) (entries s.queue) h.kept.but.entries

  pub delivered_stands : {E : ℕ → Type 0} (d : Delivery) → Effect s d → Stands E s → Stands E d.store
  delivered_stands d (nobody e w) k = stands_like s d.store e.tasks e.queue (ap (λ (y : Header). y.next) e.head) k
  delivered_stands {E} d (wakes t x e w) k =
      stands_like u d.store (e.tasks ∙ (unfold put_queue put_task task in refl)) (e.queue ∙ (unfold put_queue in refl)) (ap (λ (y : Header). y.next) e.head ∙ (unfold header put_queue put_task in refl))
      (record { main = main-by (ℕ_discrete 0 t); stands = λ v l y n. by v l y n (ℕ_discrete v t) })
    where
      row : Task
      row = restate (task s t) x

      u : Store
      u = put_queue (put_task s t row) (push_back s.queue t)

      z : Sized s
      z = h.kept.memory.sized

      blocked-now : is_blocked (task s t).state ≡ true
      blocked-now = unfold task in e.was_blocked

      room : s.queue.len < task_limit
      room =
          room_for s.queue t h.kept.memory.ids h.kept.memory.words_right.queue_short (header-fits s).next_fits the-queue e.low
          (not-queued t (blocked_unready (task s t).state blocked-now) the-queue)

      pushed : (v : ℕ) → occurrences (entries u.queue) v ≡ occurrences (entries s.queue) v + one_if_same t v
      pushed v = unfold put_queue in (occurrences_push s.queue t v h.kept.memory.ids room)

      rows : (v : ℕ) → task u v ≡ task (put_task s t row) v
      rows v = unfold put_queue task in refl

      row-ready : is_ready row.state ≡ true
      row-ready = unfold restate in e.is_woken

      main-by : Dec (0 ≡ t) → is_live (task u 0).state ≡ true
      main-by (yes q) =
          ap (λ (y : Task). is_live y.state) (rows 0) ∙ subst (λ (m : ℕ). is_live (task (put_task s t row) m).state ≡ true) (sym q) (live-put_task s t row z e.low ∙ ready-live row.state row-ready)
      main-by (no ne) = ap (λ (y : Task). is_live y.state) (rows 0 ∙ task_put-other s t 0 row ne) ∙ k.main

      by : (v : ℕ) → v < (header u).next → is_ready (task u v).state ≡ true → (E v → ⊥) → Dec (v ≡ t) → 1 ≤ occurrences (entries u.queue) v
      by v l y n (yes q) = let one : one_if_same t v ≡ 1 = rw (eq-eqb t v (sym q)) in omega (arith, pushed v)
      by v l y n (no ne) =
          omega (arith, pushed v, k.stands v (unfold header put_queue put_task in l) (sym (ap (λ (w : Task). is_ready w.state) (rows v ∙ task_put-other s t v row ne)) ∙ y) n)

-- ---- who has control

-- what is left by a switch
pub record Right (x : Switched) : Type 0 where
  pub stood : Stands Nothing x.store
  pub waits_idle : (cs : List ℕ) → x.control ≡ waits cs → ((header x.store).moment ≡ Moment.Waiting) × (entries x.store.queue ≡ [])
  pub idle : (header x.store).moment ≡ Moment.Waiting → entries x.store.queue ≡ []

pub moment_head : (s : Store) (m : Moment) → Sized s → MomentFits m → ((header (set_moment s m)).next ≡ (header s).next) × ((header (set_moment s m)).moment ≡ m)
unfolding set_moment
moment_head s m z k =
    let f : HeaderFits (header s) = header-fits s in
    let e = header_put-header s _ z (record { made_fits = f.made_fits; used_fits = f.used_fits; calls_fit = f.calls_fit; next_fits = f.next_fits; moment_fits = k }) in
    (ap (λ (h : Header). h.next) e, ap (λ (h : Header). h.moment) e)

entries_none : (q : ReadyQueue) → q.len ≡ 0 → entries q ≡ []
unfolding entries
entries_none q e = ap (λ (n : ℕ). take n q.ids) e

yield-right : (s : Store) → Sized s → s.queue.len ≡ 0 → Stands Nothing s → Right (yield s)
unfolding yield
yield-right s z e k =
    record {
      stood = stands_like s (set_moment s Moment.Waiting) words.0 words.1 (moment_head s Moment.Waiting z tt).0 k;
      waits_idle = λ cs q. ((moment_head s Moment.Waiting z tt).1, ap entries words.1 ∙ entries_none s.queue e);
      idle = λ q. ap entries words.1 ∙ entries_none s.queue e;
    }
  where
    words : ((set_moment s Moment.Waiting).tasks ≡ s.tasks) × ((set_moment s Moment.Waiting).queue ≡ s.queue)
    words = (unfold set_moment put_header in refl, unfold set_moment put_header in refl)

pub not-waits : {A : Type 0} (t : ℕ) (h : How) (cs : List ℕ) → runs t h ≡ waits cs → A
not-waits t h cs e = let z : ◌≡◌ {A = ℕ} 0 1 = cc in absurd (omega arith)

pub not-waiting : {A : Type 0} (t : ℕ) → Moment.Running (task_id t) ≡ Moment.Waiting → A
not-waiting t e = let z : ◌≡◌ {A = ℕ} 0 1 = cc in absurd (omega arith)

-- the exempt task runs
run-right : (s : Store) (t : ℕ) (h : How) → Sized s → t < task_limit → is_live (task s t).state ≡ true → Stands (λ u. u ≡ t) s → Right (run s t h)
unfolding run
run-right s t h z l lv k =
    record {
      stood = stands_like u (set_moment u (Moment.Running (task_id t))) words.0 words.1 (moment_head u (Moment.Running (task_id t)) (sized-set_state s t TaskState.Running z) l).0
          (record { main = main-by (ℕ_discrete 0 t); stands = λ v m y n. by v m y (ℕ_discrete v t) });
      waits_idle = λ cs q. not-waits t h cs q;
      idle = λ q. not-waiting t (sym (moment_head u (Moment.Running (task_id t)) (sized-set_state s t TaskState.Running z) l).1 ∙ q);
    }
  where
    r : Task
    r = restate (task s t) TaskState.Running

    u : Store
    u = set_state s t TaskState.Running

    rows : (v : ℕ) → task u v ≡ task (put_task s t r) v
    rows v = unfold set_state in refl

    words : ((set_moment u (Moment.Running (task_id t))).tasks ≡ u.tasks) × ((set_moment u (Moment.Running (task_id t))).queue ≡ u.queue)
    words = (unfold set_moment put_header in refl, unfold set_moment put_header in refl)

    running : r.state ≡ TaskState.Running
    running = unfold restate in refl

    main-by : Dec (0 ≡ t) → is_live (task u 0).state ≡ true
    main-by (yes q) = ap (λ (y : Task). is_live y.state) (rows 0) ∙ subst (λ (m : ℕ). is_live (task (put_task s t r) m).state ≡ true) (sym q) (live-put_task s t r z l ∙ ap is_live running)
    main-by (no ne) = ap (λ (y : Task). is_live y.state) (rows 0 ∙ task_put-other s t 0 r ne) ∙ k.main

    by : (v : ℕ) → v < (header u).next → is_ready (task u v).state ≡ true → Dec (v ≡ t) → 1 ≤ occurrences (entries u.queue) v
    by v m y (yes q) =
        absurd (true≢false (sym y ∙ (ap (λ (w : Task). is_ready w.state) (rows v) ∙ subst (λ (n : ℕ). is_ready (task (put_task s t r) n).state ≡ false) (sym q) (ready-put_task s t r z l ∙ ap is_ready running))))
    by v m y (no ne) =
        unfold set_state put_task in (k.stands v (unfold header set_state put_task in m) (sym (ap (λ (w : Task). is_ready w.state) (rows v ∙ task_put-other s t v r ne)) ∙ y) ne)

true-is : (b : Bool) → T b → b ≡ true
true-is true h = refl
true-is false h = absurd h

other : (v : ℕ) {u : ℕ} (us : List ℕ) → (v ≡ u → ⊥) → 1 ≤ occurrences (u ∷ us) v → 1 ≤ occurrences us v
unfolding occurrences
other v {u} us ne o = let q : 1 ≤ pick {A = ℕ} false 1 0 + occurrences us v = rw (ne_eqb u v (λ e. ne (sym e))) at o in omega arith

-- a task goes
pub removed_stands : (s : Store) (t : ℕ) (x : LogEntry) → Sized s → length s.queue.ids ≡ task_limit → s.queue.len ≤ task_limit → t < task_limit → (0 ≡ t → ⊥) → Stands (λ u. u ≡ t) s
    → Stands Nothing (add_log (remove_task s t) x)
unfolding put_task
removed_stands s t x z ids len low nz k =
    stands_like u (add_log (remove_task s t) x) (unfold add_log remove_task remove_from_ready_queue in refl) (unfold add_log remove_task remove_from_ready_queue put_queue put_task in refl) (unfold header add_log remove_task remove_from_ready_queue in refl)
    (record { main = ap (λ (y : Task). is_live y.state) (rows 0 ∙ task_put-other s t 0 absent nz) ∙ k.main; stands = λ v l y n. by v l y (ℕ_discrete v t) })
  where
    u : Store
    u = put_queue (put_task s t absent) (remove s.queue t)

    rows : (v : ℕ) → task u v ≡ task (put_task s t absent) v
    rows v = unfold put_queue task in refl

    not-ready : is_ready absent.state ≡ false
    not-ready = unfold absent in refl

    left : (v : ℕ) → (v ≡ t → ⊥) → 1 ≤ occurrences (entries s.queue) v → 1 ≤ occurrences (entries (remove s.queue t)) v
    left v ne o =
        let e : entries (remove s.queue t) ≡ without (entries s.queue) t = entries-remove s.queue t ids len in
        let y : occurrences (without (entries s.queue) t) v ≡ occurrences (entries s.queue) v - one_if_same t v = occurrences-without (entries s.queue) t v in
        let n : one_if_same t v ≡ 0 = rw (ne_eqb t v (λ q. ne (sym q))) in
        subst (λ (w : List ℕ). 1 ≤ occurrences w v) (sym e) (omega (arith, y))

    by : (v : ℕ) → v < (header u).next → is_ready (task u v).state ≡ true → Dec (v ≡ t) → 1 ≤ occurrences (entries u.queue) v
    by v l y (yes q) =
        absurd (true≢false (sym y ∙ (ap (λ (w : Task). is_ready w.state) (rows v) ∙ subst (λ (n : ℕ). is_ready (task (put_task s t absent) n).state ≡ false) (sym q) (ready-put_task s t absent z low ∙ not-ready))))
    by v l y (no ne) =
        unfold put_queue in (left v ne (k.stands v (unfold header put_queue put_task in l) (sym (ap (λ (w : Task). is_ready w.state) (rows v ∙ task_put-other s t v absent ne)) ∙ y) ne))

low_task : {P : ℕ → Type 0} {r : ℕ → Bool} {D : ℕ → Type 0} {hd : Header} (s : Store) (t : ℕ) → t < hd.next → SoundDuring P r D hd s → t < task_limit
unfolding view
low_task s t l h = omega (arith, subst (λ (y : Header). t < y.next) (sym h.head) l, h.kept.but.fits.next_fits)

module _ (D : ℕ → Type 0) (hd : Header) where
  -- a task is activated: it is exempt, and at most k tasks live
  pub Acts : ℕ → (Store → ℕ → Switched) → Type 0
  Acts k act = (s : Store) (t : ℕ) → t < hd.next → is_ready (task s t).state ≡ true → SoundDuring Nothing idle D hd s → live_count s ≤ k → Stands (λ u. u ≡ t) s → Right (act s t)

  queue-live : (s : Store) (q : ReadyQueue) → live_count (put_queue s q) ≡ live_count s
  unfolding live_count put_queue
  queue-live s q = refl

  module _ (k : ℕ) (act : Store → ℕ → Switched) (go : Acts k act) where
    pub next-right : (s : Store) → SoundDuring Nothing idle D hd s → live_count s ≤ k → Stands Nothing s → Right (resume_next act s)
    unfolding resume_next view Acts
    next-right s h c st = by (eqb s.queue.len 0) refl
      where
        q : ReadyQueue
        q = s.queue

        len : q.len ≤ task_limit
        len = h.kept.memory.words_right.queue_short

        Next : ℕ → Type 0
        Next u = Right (act (put_queue s (pop_front q)) u)

        popped : (u : ℕ) (us : List ℕ) → entries q ≡ u ∷ us → Next (front_of q).0
        popped u us e =
            let first = head_gone (subst (Queued (header s).next (task s)) e (the-queue s h)) in
            let rest : entries (pop_front q) ≡ us = entries_pop q u us h.kept.memory.ids len e in
            let low : u < hd.next = subst (λ (y : Header). u < y.next) h.head first.0.0 in
            let front : front_of q ≡ task_id u = front_entry q u us e (omega (arith, first.0.0, h.kept.but.fits.next_fits)) in
            subst (λ (y : TaskId). Next y.0) (sym front)
            (go (put_queue s (pop_front q)) u low (ready-is first.0.1)
            (queue_during s h (pop_front q) (pop_front-len q len) (pop_front-length q ∙ h.kept.memory.ids) (λ z. subst (Queued (header s).next (task s)) (sym rest) first.2))
            (subst (λ (n : ℕ). n ≤ k) (sym (queue-live s (pop_front q))) c)
            (stands_queue s (pop_front q) st.main (λ v l y ne. left v rest ne (st.stands v l y (λ z. z)))))
          where
            ready-is : T (is_ready (task s u).state) → is_ready (task (put_queue s (pop_front q)) u).state ≡ true
            ready-is x = queue_ready s (pop_front q) u (true-is (is_ready (task s u).state) x)

            left : (v : ℕ) → entries (pop_front q) ≡ us → (v ≡ u → ⊥) → 1 ≤ occurrences (entries q) v → 1 ≤ occurrences (entries (pop_front q)) v
            left v rest ne o =
                subst (λ (w : List ℕ). 1 ≤ occurrences w v) (sym rest) (other v us ne (subst (λ (w : List ℕ). 1 ≤ occurrences w v) e o))

        at_least_one : (us : List ℕ) → entries q ≡ us → (q.len ≡ 0 → ⊥) → Next (front_of q).0
        at_least_one [] e ne = absurd (ne (sym (length-entries q h.kept.memory.ids len) ∙ ap length e))
        at_least_one (u ∷ us) e ne = popped u us e

        by : (b : Bool) → eqb s.queue.len 0 ≡ b → Right (pick b (yield s) (act (put_queue s (pop_front s.queue)) (front_of s.queue).0))
        by true e = yield-right s h.kept.memory.sized (eqb-true s.queue.len 0 e) st
        by false e = at_least_one (entries q) refl (eqb-false s.queue.len 0 e)

    pub exit_right : (d : Delivery) → DeliveryEnds idle D hd d → ((u : ℕ) → d.woken ≡ some u → is_ready (task d.store u).state ≡ true) → live_count d.store ≤ k → Stands Nothing d.store
        → Right (resume_after_task_exit act d)
    unfolding resume_after_task_exit remove_from_ready_queue Acts
    exit_right d h woken c st = by d.woken refl
      where
        s : Store
        s = d.store

        len : s.queue.len ≤ task_limit
        len = h.during.kept.memory.words_right.queue_short

        by : (w : Option ℕ) → d.woken ≡ w → Right (elim w [ none ↦ resume_next act d.store | some t ↦ act (remove_from_ready_queue d.store t) t ])
        by none e = next-right s h.during c st
        by (some t) e =
            let gone-from : entries (remove s.queue t) ≡ without (entries s.queue) t = entries-remove s.queue t h.during.kept.memory.ids len in
            let was : Queued (header s).next (task s) (entries s.queue) = the-queue s h.during in
            go (put_queue s (remove s.queue t)) t (h.woken t e) (queue_ready s (remove s.queue t) t (woken t e))
            (queue_during s h.during (remove s.queue t) (remove-len s.queue t len) (remove-length s.queue t ∙ h.during.kept.memory.ids)
            (λ z. subst (Queued (header s).next (task s)) (sym gone-from)
            (queued_less (was_there (entries s.queue) t) (distinct_without (entries s.queue) t z.distinct) z)))
            (subst (λ (n : ℕ). n ≤ k) (sym (queue-live s (remove s.queue t))) c)
            (stands_queue s (remove s.queue t) st.main (λ v l y ne. left v gone-from ne (st.stands v l y (λ z. z))))
          where
            left : (v : ℕ) → entries (remove s.queue t) ≡ without (entries s.queue) t → (v ≡ t → ⊥) → 1 ≤ occurrences (entries s.queue) v → 1 ≤ occurrences (entries (remove s.queue t)) v
            left v e ne o =
                let z : occurrences (without (entries s.queue) t) v ≡ occurrences (entries s.queue) v - one_if_same t v = occurrences-without (entries s.queue) t v in
                let n : one_if_same t v ≡ 0 = rw (ne_eqb t v (λ x. ne (sym x))) in
                subst (λ (w : List ℕ). 1 ≤ occurrences w v) (sym e) (omega (arith, z))

    -- the exempt task fails
    pub fails-right : (s : Store) (t : ℕ) (e : Error) (r : ℕ → Bool) → ErrorFits e → suc t < hd.next → is_live (task s (suc t)).state ≡ true → is_blocked (task s (suc t)).state ≡ false
        → ((u : ℕ) → (u ≡ suc t → ⊥) → r u ≡ false) → SoundDuring Nothing r D hd s → live_count s ≤ suc k → Stands (λ u. u ≡ suc t) s → Right (handle_task_failure act s (suc t) e)
    unfolding handle_task_failure
    fails-right s t e r f low lv free still h c st =
        exit_right _
        (record {
          during = remove_keeps d (suc t) sent.during (subst (λ (y : Header). suc t < y.next) (sym sent.during.head) low) (exited (suc t)) idle refl still;
          woken = sent.woken;
        })
        (λ u q. activated_ready _ (subst Activated (queue-row u) (failure_activated s (suc t) e z f free u q)))
        count
        (gone-stands (delivered_stands s h (deliver_awaiter_failure s a e) (failure_effect s a e z (task-fits s (suc t)).awaiter_fits) st))
      where
        z : Sized s
        z = h.kept.memory.sized

        a : Awaiter
        a = (task s (suc t)).awaiter

        d : Store
        d = (deliver_awaiter_failure s a e).store

        room : suc t < task_limit
        room = unfold view in (omega (arith, subst (λ (y : Header). suc t < y.next) (sym h.head) low, (header-fits s).next_fits))

        sent : DeliveryEnds r D hd (deliver_awaiter_failure s a e)
        sent = failure_keeps r D hd e f s (task s (suc t)).coroutine.0 a (task_delivering s t h low (subst T (sym lv) tt))

        same : SameLive s d
        same = failure_same s a e z (task-fits s (suc t)).awaiter_fits

        left : Store
        left = add_log (remove_task d (suc t)) (exited (suc t))

        queue-row : (u : ℕ) → (task (remove_from_ready_queue left u) u).state ≡ (task left u).state
        queue-row u = unfold remove_from_ready_queue put_queue task in refl

        count : live_count left ≤ k
        count =
            let fall : live_count d ≡ suc (live_count (put_task d (suc t) absent)) = live-falls d (suc t) same.sized room (same.lives (suc t) ∙ lv) in
            let eq : live_count d ≡ live_count s = same-live_count s d same in
            let tasks : live_count left ≡ live_count (put_task d (suc t) absent) = unfold live_count add_log remove_task remove_from_ready_queue put_queue in refl in
            omega arith

        gone-stands : Stands (λ u. u ≡ suc t) d → Stands Nothing left
        gone-stands k1 = removed_stands d (suc t) (exited (suc t)) same.sized sent.during.kept.memory.ids sent.during.kept.memory.words_right.queue_short room (λ q. not-suc-le-zero {n = 0} (omega arith)) k1

    start_right : (s : Store) (t : ℕ) → suc t < hd.next → (task s (suc t)).state ≡ TaskState.Unstarted → SoundDuring Nothing idle D hd s → live_count s ≤ suc k → Stands (λ u. u ≡ suc t) s
        → Right (start_task act s (suc t))
    unfolding start_task start_by
    start_right s t low e h c st = by (new_function (object s o))
      where
        o : ℕ
        o = (task s (suc t)).coroutine.0

        room : suc t < task_limit
        room = unfold view in (omega (arith, subst (λ (y : Header). suc t < y.next) (sym h.head) low, (header-fits s).next_fits))

        by : (n : Option ℕ) → Right (start_by act s (suc t) o n)
        by none = fails-right s t Error.CoroutineReuse idle tt low (ap is_live e) (ap is_blocked e) (λ u d. refl) h c st
        by (some f) =
            let x : Object = Object.Coroutine f CoroutineState.Running in
            run-right (put_object s o x) (suc t) (start o f) (sized-put_object s o x h.kept.memory.sized) room (row-live o x)
            (stands_like s (put_object s o x) (unfold put_object in refl) (unfold put_object in refl) (ap (λ (y : Header). y.next) (header_put-object s o x)) st)
          where
            row-live : (o : ℕ) (x : Object) → is_live (task (put_object s o x) (suc t)).state ≡ true
            row-live o x = same_row o x ∙ ap is_live e
              where
                same_row : (o : ℕ) (x : Object) → is_live (task (put_object s o x) (suc t)).state ≡ is_live (task s (suc t)).state
                same_row o x = unfold task put_object in refl

    state_right : (s : Store) (t : ℕ) (x : TaskState) → t < hd.next → (task s t).state ≡ x → is_ready x ≡ true → SoundDuring Nothing idle D hd s → live_count s ≤ suc k → Stands (λ u. u ≡ t) s
        → Right (activate_state act s t x)
    unfolding activate_state view
    state_right s t TaskState.Absent l e r h c st = absurd (true≢false (sym r))
    state_right s zero TaskState.Unstarted l e r h c st = absurd (main_started h.kept.but e)
    state_right s (suc t) TaskState.Unstarted l e r h c st = start_right s t l e h c st
    state_right s t TaskState.Running l e r h c st = absurd (true≢false (sym r))
    state_right s t (TaskState.Woken v) l e r h c st = run-right s t (value v) h.kept.memory.sized (low_task s t l h) (ap is_live e) st
    state_right s t (TaskState.Raised v) l e r h c st = run-right s t (raises v) h.kept.memory.sized (low_task s t l h) (ap is_live e) st
    state_right s t (TaskState.Blocked o) l e r h c st = absurd (true≢false (sym r))

  within-right : (k : ℕ) → Acts k (activate_within k)
  unfolding activate_within Acts
  within-right zero s t l r h c st =
      let z : live_count s ≡ suc (live_count (put_task s t absent)) = live-falls s t h.kept.memory.sized (low_task s t l h) (ready-live (task s t).state r) in
      absurd (not-suc-le-zero {n = 0} (omega (arith, c)))
  within-right (suc k) s t l r h c st = state_right k (λ x u. activate_within k x u) (within-right k) s t (task s t).state l refl r h c st

  -- a task is activated
  pub activate-right : (s : Store) (t : ℕ) → t < hd.next → is_ready (task s t).state ≡ true → SoundDuring Nothing idle D hd s → Stands (λ u. u ≡ t) s → Right (activate s t)
  unfolding activate Acts
  activate-right s t l r h st = within-right (live_count s) s t l r h (le_refl _) st

  activates : (k : ℕ) → Acts k activate
  unfolding Acts
  activates k s t l r h c st = activate-right s t l r h st

  -- the next ready task, or the host
  pub resume-right : (s : Store) → SoundDuring Nothing idle D hd s → Stands Nothing s → Right (resume_next activate s)
  resume-right s h st = next-right (live_count s) activate (activates (live_count s)) s h (le_refl _) st

  -- after an exit
  pub leave_right : (d : Delivery) → DeliveryEnds idle D hd d → ((u : ℕ) → d.woken ≡ some u → is_ready (task d.store u).state ≡ true) → Stands Nothing d.store → Right (resume_after_task_exit activate d)
  leave_right d h w st = exit_right (live_count d.store) activate (activates (live_count d.store)) d h w (le_refl _) st

  -- a running task fails
  pub fail-right : (s : Store) (t : ℕ) (e : Error) (r : ℕ → Bool) → ErrorFits e → suc t < hd.next → is_live (task s (suc t)).state ≡ true → is_blocked (task s (suc t)).state ≡ false
      → ((u : ℕ) → (u ≡ suc t → ⊥) → r u ≡ false) → SoundDuring Nothing r D hd s → Stands (λ u. u ≡ suc t) s → Right (handle_task_failure activate s (suc t) e)
  fail-right s t e r f low lv free still h st = fails-right (live_count s) activate (activates (live_count s)) s t e r f low lv free still h (omega arith) st
