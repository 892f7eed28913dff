-- What has happened and the tasks' rows say the same: which tasks are live, and which of them are blocked.
use Rattle.std.specs.Prelude.{◌≡◌, Bool, true, ◌&&◌, ◌||◌, List, [], ◌∷◌, ℕ, zero, suc, ◌+◌, ◌≤◌, ◌<◌, eqb, ltb, length}
use Rattle.std.proofs.Math.Path.{refl, ap}
use Rattle.std.proofs.Common.{sym, ap₂, subst, ◌∙◌, true≢false, arith, ltb-true, ltb-false, lt-ltb, le-ltb, eq-eqb, ne_eqb}
use Rattle.std.proofs.Math.Bool.{false, not}
use Rattle.std.proofs.Math.Option.{Option, none, some}
use Rattle.std.proofs.Math.Nat.{not-suc-le-zero}
use Rattle.std.proofs.Math.Decide.{ℕ_discrete}
use Rattle.asyncio.specs.declared.TaskState.{TaskState}
use Rattle.asyncio.specs.declared.Task.{Task}
use Rattle.asyncio.specs.declared.Awaiter.{Awaiter}
use Rattle.asyncio.specs.declared.Object.{Object}
use Rattle.asyncio.specs.declared.Place.{Place}
use Rattle.asyncio.specs.declared.Header.{Header}
use Rattle.asyncio.specs.declared.Moment.{Moment}
use Rattle.asyncio.specs.Limits.{object_limit, task_limit}
use Rattle.asyncio.specs.Numbers.{heap_id}
use Rattle.asyncio.specs.Ranges.{HeaderFits, MomentFits}
use Rattle.asyncio.specs.Layout.{to_task, state_words, to_state}
use Rattle.asyncio.specs.States.{pick, is_live, is_ready, is_blocked}
use Rattle.rows.specs.Tables.{task_codec, task_start, task_at, task_put}
use Rattle.rows.specs.RowLaws.{row-put_at}
use Rattle.queue.specs.declared.ReadyQueue.{ReadyQueue}
use Rattle.machine.specs.Store.{Store, LogEntry, spawned, blocked, reached, exited, removed, task, object, place, header, put_task, put_header, put_object, put_place, put_places, put_queue, add_log, restate, set_state, set_moment, set_next, absent}
use Rattle.machine.specs.Scheduler.{live, make_ready, push_ready, remove_from_ready_queue, remove_task, spawn_as}
use Rattle.machine.specs.History.{lives_by, blocked_by}
use Rattle.machine_laws.specs.Views.{Sized}
use Rattle.machine_laws.specs.StoreLaws.{header-fits, header_put-header, header_put-object, live-put_task, task_put-other}
use Rattle.machine_laws.specs.StoreLaws.{sized-put_task, sized-put_object, sized-put_place, sized-put_header, sized-put_places, sized-put_queue, sized-add_log, sized-set_state, sized-set_moment, sized-set_next}
use Rattle.machine_laws.specs.Walk.{Commits, Closed}
use Rattle.machine_theorems.specs.Soundness.RowFacts.{blocked-live}

-- l and b tell who was live and who was blocked before; nobody is blocked that was not spawned yet
pub record Tracked (l b : ℕ → Bool) (s : Store) : Type 0 where
  pub sized : Sized s
  pub alive : (t : ℕ) → lives_by (l t) s.log t ≡ live s t
  pub stuck : (t : ℕ) → live s t ≡ true → blocked_by (b t) s.log t ≡ is_blocked (task s t).state
  pub unborn : (t : ℕ) → (header s).next ≤ t → blocked_by (b t) s.log t ≡ false

-- ---- reading back

blocked_back : (x : TaskState) → is_blocked (to_state (state_words x).0 (state_words x).1 (state_words x).2) ≡ is_blocked x
blocked_back TaskState.Absent = refl
blocked_back TaskState.Unstarted = refl
blocked_back TaskState.Running = refl
blocked_back (TaskState.Woken v) = refl
blocked_back (TaskState.Raised e) = refl
blocked_back (TaskState.Blocked o) = refl

pub blocked-put_task : (s : Store) (t : ℕ) (r : Task) → Sized s → t < task_limit → is_blocked (task (put_task s t r) t).state ≡ is_blocked r.state
unfolding task put_task task_at task_put
blocked-put_task s t r z l =
    ap (λ (x : List ℕ). is_blocked (to_task x).state) (row-put_at task_codec s.tasks (task_start t) r (omega (arith, z.tasks_sized)))
    ∙ blocked_back r.state

pub ready-free : (x : TaskState) → is_ready x ≡ true → (is_live x ≡ true) × (is_blocked x ≡ false)
ready-free TaskState.Absent e = absurd (true≢false (sym e))
ready-free TaskState.Unstarted e = (refl, refl)
ready-free TaskState.Running e = absurd (true≢false (sym e))
ready-free (TaskState.Woken v) e = (refl, refl)
ready-free (TaskState.Raised x) e = (refl, refl)
ready-free (TaskState.Blocked o) e = absurd (true≢false (sym e))

pub live_like : (s u : Store) (t : ℕ) → (header u).next ≡ (header s).next → is_live (task u t).state ≡ is_live (task s t).state → live u t ≡ live s t
unfolding live
live_like s u t n e = ap₂ (λ (m : ℕ) (b : Bool). pick (ltb t m) b false) n e

pub live_low : (s : Store) (t : ℕ) → live s t ≡ true → (t < (header s).next) × (is_live (task s t).state ≡ true)
unfolding live
live_low s t e = by (ltb t (header s).next) refl e
  where
    by : (b : Bool) → ltb t (header s).next ≡ b → pick b (is_live (task s t).state) false ≡ true → (t < (header s).next) × (is_live (task s t).state ≡ true)
    by true q z = (ltb-true t (header s).next q, z)
    by false q z = absurd (true≢false (sym z))

pub live-is : (s : Store) (t : ℕ) → t < (header s).next → is_live (task s t).state ≡ true → live s t ≡ true
unfolding live
live-is s t l e = rw (lt-ltb t (header s).next l) e

live-none : (s : Store) (t : ℕ) → ((t < (header s).next) → is_live (task s t).state ≡ false) → live s t ≡ false
unfolding live
live-none s t f = by (ltb t (header s).next) refl
  where
    by : (b : Bool) → ltb t (header s).next ≡ b → pick b (is_live (task s t).state) false ≡ false
    by true q = f (ltb-true t (header s).next q)
    by false q = refl

and_no : (b : Bool) → (b && false) ≡ false
and_no true = refl
and_no false = refl

-- a task's row in another state: others stay
state_other : (s : Store) (t u : ℕ) (x : TaskState) → (u ≡ t → ⊥) → task (set_state s t x) u ≡ task s u
unfolding set_state
state_other s t u x ne = task_put-other s t u _ ne

state_live : (s : Store) (t u : ℕ) (x : TaskState) → Sized s → t < task_limit → is_live x ≡ is_live (task s t).state → is_live (task (set_state s t x) u).state ≡ is_live (task s u).state
unfolding set_state restate
state_live s t u x z l e = by (ℕ_discrete u t)
  where
    by : Dec (u ≡ t) → is_live (task (put_task s t (restate (task s t) x)) u).state ≡ is_live (task s u).state
    by (yes q) = rw (q, live-put_task s t (restate (task s t) x) z l) e
    by (no ne) = rw (task_put-other s t u (restate (task s t) x) ne)

state_blocked : (s : Store) (t : ℕ) (x : TaskState) → Sized s → t < task_limit → is_blocked (task (set_state s t x) t).state ≡ is_blocked x
unfolding set_state restate
state_blocked s t x z l = blocked-put_task s t _ z l

state_next : (s : Store) (t : ℕ) (x : TaskState) → (header (set_state s t x)).next ≡ (header s).next
unfolding set_state put_task header
state_next s t x = refl

pub moment_next : (s : Store) (m : Moment) → Sized s → MomentFits m → (header (set_moment s m)).next ≡ (header s).next
unfolding set_moment
moment_next s m z k =
    let f : HeaderFits (header s) = header-fits s in
    ap (λ (h : Header). h.next) (header_put-header s _ z (record { made_fits = f.made_fits; used_fits = f.used_fits; calls_fit = f.calls_fit; next_fits = f.next_fits; moment_fits = k }))

-- a spawn: the next number rises
spawn-sized : (s : Store) (t c g : ℕ) → Sized s → Sized (spawn_as s t c g)
unfolding spawn_as push_ready
spawn-sized s t c g z = sized-add_log _ (spawned t c) (sized-put_queue _ _ (sized-set_next _ (t + 1) (sized-put_task s t _ z)))

head-add_log : (s : Store) (q : ReadyQueue) (h : LogEntry) → header (add_log (put_queue s q) h) ≡ header s
unfolding add_log put_queue header
head-add_log s q h = refl

next-set : (s : Store) (n : ℕ) → Sized s → n ≤ task_limit → (header (set_next s n)).next ≡ n
unfolding set_next
next-set s n z low =
    let f : HeaderFits (header s) = header-fits s in
    ap (λ (h : Header). h.next) (header_put-header s _ z (record { made_fits = f.made_fits; used_fits = f.used_fits; calls_fit = f.calls_fit; next_fits = low; moment_fits = f.moment_fits }))

pub spawn-next : (s : Store) (t c g : ℕ) → Sized s → t < task_limit → (header (spawn_as s t c g)).next ≡ t + 1
unfolding spawn_as push_ready
spawn-next s t c g z low = ap (λ (h : Header). h.next) (head-add_log _ _ (spawned t c)) ∙ next-set _ (t + 1) (sized-put_task s t _ z) (omega arith)

-- other tasks' rows stay
pub spawn-row : (s : Store) (t c g v : ℕ) → (v ≡ t → ⊥) → task (spawn_as s t c g) v ≡ task s v
spawn-row s t c g v ne = same ∙ task_put-other s t v r ne
  where
    r : Task
    r = record { state = TaskState.Unstarted; awaiter = Awaiter.GatherSlot (heap_id g) (heap_id c); coroutine = heap_id c }

    same : task (spawn_as s t c g) v ≡ task (put_task s t r) v
    same = unfold spawn_as push_ready add_log put_queue set_next put_header task in refl

pub place-live : (s : Store) (p : ℕ) (r : Place) (t : ℕ) → live (put_place s p r) t ≡ live s t
unfolding live header put_place task
place-live s p r t = refl

pub live-other : (s u : Store) (v n : ℕ) → (header u).next ≡ n + 1 → (header s).next ≡ n → (v ≡ n → ⊥) → is_live (task u v).state ≡ is_live (task s v).state → live u v ≡ live s v
unfolding live
live-other s u v n e q ne r = rw (e, q) (ap₂ (λ (c d : Bool). pick c d false) same r)
  where
    same : ltb v (n + 1) ≡ ltb v n
    same = by (ltb v n) refl
      where
        by : (c : Bool) → ltb v n ≡ c → ltb v (n + 1) ≡ c
        by true z = lt-ltb v (n + 1) (omega (arith, ltb-true v n z))
        by false z = le-ltb v (n + 1) (omega (arith, ltb-false v n z))

module _ (l b : ℕ → Bool) where
  -- tasks, the next number and the log as they were
  pub like : (s u : Store) → Sized u → u.log ≡ s.log → (header u).next ≡ (header s).next → ((t : ℕ) → task u t ≡ task s t) → Tracked l b s → Tracked l b u
  like s u z el en et k =
      record {
        sized = z;
        alive = λ t. ap (λ (h : List LogEntry). lives_by (l t) h t) el ∙ (k.alive t ∙ sym (same t));
        stuck = λ t e. ap (λ (h : List LogEntry). blocked_by (b t) h t) el ∙ (k.stuck t (sym (same t) ∙ e) ∙ ap (λ (r : Task). is_blocked r.state) (sym (et t)));
        unborn = λ t e. ap (λ (h : List LogEntry). blocked_by (b t) h t) el ∙ k.unborn t (subst (λ (n : ℕ). n ≤ t) en e);
      }
    where
      same : (t : ℕ) → live u t ≡ live s t
      same t = live_like s u t en (ap (λ (r : Task). is_live r.state) (et t))

  -- a live task's row in another state that lives; x tells what has happened
  changes : (s : Store) (t : ℕ) (y : TaskState) (u : Store) → t < task_limit → is_live (task s t).state ≡ true → is_live y ≡ true → Sized u
      → (header u).next ≡ (header s).next → ((v : ℕ) → task u v ≡ task (set_state s t y) v)
      → ((v : ℕ) → lives_by (l v) u.log v ≡ lives_by (l v) s.log v)
      → (live s t ≡ true → blocked_by (b t) u.log t ≡ is_blocked y)
      → ((v : ℕ) → (v ≡ t → ⊥) → blocked_by (b v) u.log v ≡ blocked_by (b v) s.log v)
      → ((v : ℕ) → (header s).next ≤ v → blocked_by (b v) u.log v ≡ false)
      → Tracked l b s → Tracked l b u
  changes s t y u low lv ly z en rows al here other born k =
      record {
        sized = z;
        alive = λ v. al v ∙ (k.alive v ∙ sym (same v));
        stuck = λ v e. by v e (ℕ_discrete v t);
        unborn = λ v e. born v (subst (λ (n : ℕ). n ≤ v) en e);
      }
    where
      same : (v : ℕ) → live u v ≡ live s v
      same v = live_like s u v en (ap (λ (r : Task). is_live r.state) (rows v) ∙ state_live s t v y k.sized low (ly ∙ sym lv))

      by : (v : ℕ) → live u v ≡ true → Dec (v ≡ t) → blocked_by (b v) u.log v ≡ is_blocked (task u v).state
      by v e (yes q) =
          subst (λ (w : ℕ). blocked_by (b w) u.log w ≡ is_blocked (task u w).state) (sym q)
          (here (sym (same t) ∙ subst (λ (w : ℕ). live u w ≡ true) q e) ∙ sym (ap (λ (r : Task). is_blocked r.state) (rows t) ∙ state_blocked s t y k.sized low))
      by v e (no ne) = other v ne ∙ (k.stuck v (sym (same v) ∙ e) ∙ sym (ap (λ (r : Task). is_blocked r.state) (rows v ∙ state_other s t v y ne)))

  -- a task has gone
  gone : (s : Store) (t : ℕ) (u : Store) → Sized u → (header u).next ≡ (header s).next → ((v : ℕ) → task u v ≡ task (put_task s t absent) v)
      → ((v : ℕ) → lives_by (l v) u.log v ≡ (not (eqb t v) && lives_by (l v) s.log v))
      → ((v : ℕ) → blocked_by (b v) u.log v ≡ blocked_by (b v) s.log v)
      → Tracked l b s → Tracked l b u
  unfolding absent
  gone s t u z en rows al bl k =
      record {
        sized = z;
        alive = λ v. al v ∙ alive-by v (ℕ_discrete v t);
        stuck = λ v e. bl v ∙ stuck-by v e (ℕ_discrete v t);
        unborn = λ v e. bl v ∙ k.unborn v (subst (λ (n : ℕ). n ≤ v) en e);
      }
    where
      dead : live u t ≡ false
      dead = live-none u t (λ low. ap (λ (r : Task). is_live r.state) (rows t) ∙ live-put_task s t absent k.sized (omega (arith, low, en, (header-fits s).next_fits)))

      same : (v : ℕ) → (v ≡ t → ⊥) → live u v ≡ live s v
      same v ne = live_like s u v en (ap (λ (r : Task). is_live r.state) (rows v ∙ task_put-other s t v absent ne))

      alive-by : (v : ℕ) → Dec (v ≡ t) → (not (eqb t v) && lives_by (l v) s.log v) ≡ live u v
      alive-by v (yes q) = subst (λ (w : ℕ). (not (eqb t w) && lives_by (l w) s.log w) ≡ live u w) (sym q) (rw (eq-eqb t t refl) (sym dead))
      alive-by v (no ne) = rw (ne_eqb t v (λ q. ne (sym q))) (k.alive v ∙ sym (same v ne))

      stuck-by : (v : ℕ) → live u v ≡ true → Dec (v ≡ t) → blocked_by (b v) s.log v ≡ is_blocked (task u v).state
      stuck-by v e (yes q) = absurd (true≢false (sym e ∙ subst (λ (w : ℕ). live u w ≡ false) (sym q) dead))
      stuck-by v e (no ne) = k.stuck v (sym (same v ne) ∙ e) ∙ sym (ap (λ (r : Task). is_blocked r.state) (rows v ∙ task_put-other s t v absent ne))

  -- ---- each write

  pub row_tracked : (s : Store) (o : ℕ) (x : Object) → Tracked l b s → Tracked l b (put_object s o x)
  row_tracked s o x k = like s _ (sized-put_object s o x k.sized) (unfold put_object in refl) (ap (λ (h : Header). h.next) (header_put-object s o x)) (λ t. unfold task put_object in refl) k

  moved-tracked : (s : Store) (m : Moment) → MomentFits m → Tracked l b s → Tracked l b (set_moment s m)
  moved-tracked s m f k =
      like s _ (sized-set_moment s m k.sized) (unfold set_moment put_header in refl) (moment_next s m k.sized f) (λ t. unfold task set_moment put_header in refl) k

  wakes-tracked : (s : Store) (t : ℕ) (x : TaskState) → t < task_limit → is_blocked (task s t).state ≡ true → is_ready x ≡ true → Tracked l b s → Tracked l b (add_log (make_ready s t x) (reached t))
  unfolding add_log make_ready push_ready put_queue lives_by blocked_by set_state put_task header
  wakes-tracked s t x low e r k =
      changes s t x _ low (blocked-live (task s t).state e) (ready-free x r).0
      (sized-add_log _ (reached t) (sized-put_queue _ _ (sized-set_state s t x k.sized))) (state_next s t x) (λ v. unfold task in refl)
      (λ v. unfold set_state put_task in refl)
      (λ z. rw (eq-eqb t t refl) (sym (ready-free x r).1))
      (λ v ne. rw (ne_eqb t v (λ q. ne (sym q))) (unfold set_state put_task in refl))
      (λ v le. ap (λ (c : Bool). not (eqb t v) && c) (k.unborn v le) ∙ and_no (not (eqb t v)))
      k

  runs-tracked : (s : Store) (t : ℕ) → t < task_limit → is_ready (task s t).state ≡ true → Tracked l b s → Tracked l b (set_state s t TaskState.Running)
  runs-tracked s t low r k =
      changes s t TaskState.Running _ low (ready-free (task s t).state r).0 refl (sized-set_state s t TaskState.Running k.sized) (state_next s t TaskState.Running) (λ v. refl)
      (λ v. unfold set_state put_task in refl)
      (λ z. same_log t ∙ (k.stuck t z ∙ (ready-free (task s t).state r).1))
      (λ v ne. same_log v)
      (λ v le. same_log v ∙ k.unborn v le)
      k
    where
      same_log : (v : ℕ) → blocked_by (b v) (set_state s t TaskState.Running).log v ≡ blocked_by (b v) s.log v
      same_log v = unfold set_state put_task in refl

  pub exits_tracked : (s : Store) (t : ℕ) → Tracked l b s → Tracked l b (add_log (remove_task s t) (exited t))
  unfolding add_log remove_task remove_from_ready_queue put_queue put_task lives_by blocked_by
  exits_tracked s t k =
      gone s t _ (sized-add_log _ (exited t) (sized-put_queue _ _ (sized-put_task s t absent k.sized))) (unfold header in refl) (λ v. unfold task in refl) (λ v. refl) (λ v. refl) k

  goes-tracked : (s : Store) (t : ℕ) → Tracked l b s → Tracked l b (add_log (remove_task s t) (removed t))
  unfolding add_log remove_task remove_from_ready_queue put_queue put_task lives_by blocked_by
  goes-tracked s t k =
      gone s t _ (sized-add_log _ (removed t) (sized-put_queue _ _ (sized-put_task s t absent k.sized))) (unfold header in refl) (λ v. unfold task in refl) (λ v. refl) (λ v. refl) k

  ends-tracked : (s : Store) (t : ℕ) → Tracked l b s → Tracked l b (add_log (put_task s t absent) (removed t))
  unfolding add_log put_task lives_by blocked_by
  ends-tracked s t k =
      gone s t _ (sized-add_log _ (removed t) (sized-put_task s t absent k.sized)) (unfold header in refl) (λ v. unfold task in refl) (λ v. refl) (λ v. refl) k

  -- a task is spawned: it has the next number
  spawns-tracked : (s : Store) (c g : ℕ) → (header s).next < task_limit → Tracked l b s → Tracked l b (spawn_as s (header s).next c g)
  spawns-tracked s c g low k =
      record {
        sized = spawn-sized s n c g k.sized;
        alive = λ v. spawn-alive v ∙ alive-by v (ℕ_discrete v n);
        stuck = λ v e. spawn-stuck v ∙ stuck-by v e (ℕ_discrete v n);
        unborn = λ v e. spawn-stuck v ∙ k.unborn v (omega (arith, subst (λ (m : ℕ). m ≤ v) next e));
      }
    where
      n : ℕ
      n = (header s).next

      r : Task
      r = record { state = TaskState.Unstarted; awaiter = Awaiter.GatherSlot (heap_id g) (heap_id c); coroutine = heap_id c }

      u : Store
      u = spawn_as s n c g

      next : (header u).next ≡ n + 1
      next = spawn-next s n c g k.sized low

      rows : (v : ℕ) → task u v ≡ task (put_task s n r) v
      rows v = unfold spawn_as push_ready add_log put_queue set_next put_header task in refl

      spawn-alive : (v : ℕ) → lives_by (l v) u.log v ≡ (eqb n v || lives_by (l v) s.log v)
      spawn-alive v = unfold spawn_as push_ready add_log put_queue set_next put_header put_task lives_by in refl

      spawn-stuck : (v : ℕ) → blocked_by (b v) u.log v ≡ blocked_by (b v) s.log v
      spawn-stuck v = unfold spawn_as push_ready add_log put_queue set_next put_header put_task blocked_by in refl

      here : live u n ≡ true
      here = live-is u n (omega (arith, next)) (ap (λ (x : Task). is_live x.state) (rows n) ∙ live-put_task s n r k.sized low)

      there : (v : ℕ) → (v ≡ n → ⊥) → live u v ≡ live s v
      there v ne = live-other s u v n next refl ne (ap (λ (x : Task). is_live x.state) (rows v ∙ task_put-other s n v r ne))

      alive-by : (v : ℕ) → Dec (v ≡ n) → (eqb n v || lives_by (l v) s.log v) ≡ live u v
      alive-by v (yes q) = subst (λ (w : ℕ). (eqb n w || lives_by (l w) s.log w) ≡ live u w) (sym q) (rw (eq-eqb n n refl) (sym here))
      alive-by v (no ne) = rw (ne_eqb n v (λ q. ne (sym q))) (k.alive v ∙ sym (there v ne))

      stuck-by : (v : ℕ) → live u v ≡ true → Dec (v ≡ n) → blocked_by (b v) s.log v ≡ is_blocked (task u v).state
      stuck-by v e (yes q) =
          subst (λ (w : ℕ). blocked_by (b w) s.log w ≡ is_blocked (task u w).state) (sym q)
          (k.unborn n (omega arith) ∙ sym (ap (λ (x : Task). is_blocked x.state) (rows n) ∙ blocked-put_task s n r k.sized low))
      stuck-by v e (no ne) = k.stuck v (sym (there v ne) ∙ e) ∙ sym (ap (λ (x : Task). is_blocked x.state) (rows v ∙ task_put-other s n v r ne))

  -- a live task blocks
  pub blocks_tracked : (s : Store) (t o : ℕ) → live s t ≡ true → Tracked l b s → Tracked l b (add_log (set_state s t (TaskState.Blocked (heap_id o))) (blocked t))
  unfolding add_log lives_by blocked_by
  blocks_tracked s t o e k =
      changes s t (TaskState.Blocked (heap_id o)) _ low (live_low s t e).1 refl (sized-add_log _ (blocked t) (sized-set_state s t _ k.sized))
      (unfold header in (state_next s t (TaskState.Blocked (heap_id o)))) (λ v. unfold task in refl)
      (λ v. unfold set_state put_task in refl)
      (λ z. rw (eq-eqb t t refl))
      (λ v ne. rw (ne_eqb t v (λ q. ne (sym q))) (unfold set_state put_task in refl))
      (λ v le. rw (ne_eqb t v (λ q. not-suc-le-zero {n = 0} (omega (arith, le, (live_low s t e).0)))) (unfold set_state put_task in (k.unborn v le)))
      k
    where
      low : t < task_limit
      low = omega (arith, (live_low s t e).0, (header-fits s).next_fits)

  -- ---- the walk's premises

  pub tracked_commits : Commits (Tracked l b)
  tracked_commits =
      record {
        row = λ s o x low t k. row_tracked s o x k;
        value_put = λ s p v k. like s _ (sized-put_place s p _ k.sized) (unfold put_place in refl) (unfold header put_place in refl) (λ t. unfold task put_place in refl) k;
        spawns = spawns-tracked;
      }

  pub tracked_closed : Closed (Tracked l b)
  tracked_closed =
      record {
        sized = λ s k. k.sized;
        row = λ s o x low t k. row_tracked s o x k;
        values_put = λ s ps e k. like s _ (sized-put_places s ps e k.sized) (unfold put_places in refl) (unfold header put_places in refl) (λ t. unfold task put_places in refl) k;
        queued = λ s q k. like s _ (sized-put_queue s q k.sized) (unfold put_queue in refl) (unfold header put_queue in refl) (λ t. unfold task put_queue in refl) k;
        moved = moved-tracked;
        wakes = wakes-tracked;
        runs_on = runs-tracked;
        exits = exits_tracked;
        goes = goes-tracked;
        ends = ends-tracked;
      }
