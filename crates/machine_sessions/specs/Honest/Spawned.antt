-- The tasks' rows say what the log says of spawned tasks: their number, their coroutines, who has started, and that a new coroutine's task lives still.
use Rattle.std.specs.Prelude.{◌≡◌, refl, Bool, true, List, ◌∷◌, ltb}
use Rattle.std.proofs.Common.{sym, ◌∙◌, true≢false, not-suc-le-zero, arith, eq-eqb, ne_eqb, ltb-true, ltb-false}
use Rattle.std.proofs.Math.Path.{ap, subst}
use Rattle.std.proofs.Math.Bool.{false}
use Rattle.std.proofs.Math.Option.{Option, none, some, some-injective}
use Prim.Native.Nat.{ℕ, zero, suc, ◌+◌, ◌≤◌, ◌<◌}
use Rattle.std.proofs.Math.Decide.{ℕ_discrete}
use Rattle.asyncio.specs.declared.CallId.{CallId}
use Rattle.asyncio.specs.declared.Awaiter.{Awaiter}
use Rattle.asyncio.specs.declared.TaskState.{TaskState}
use Rattle.asyncio.specs.declared.Task.{Task}
use Rattle.asyncio.specs.declared.CoroutineState.{CoroutineState}
use Rattle.asyncio.specs.declared.ExternalFutureState.{ExternalFutureState}
use Rattle.asyncio.specs.declared.GatherState.{GatherState}
use Rattle.asyncio.specs.declared.Object.{Object}
use Rattle.asyncio.specs.declared.Header.{Header}
use Rattle.asyncio.specs.Limits.{object_limit, task_limit, u32_limit}
use Rattle.asyncio.specs.Numbers.{heap_id}
use Rattle.asyncio.specs.Ranges.{PlacesFit}
use Rattle.asyncio.specs.RangeLaws.{object_back}
use Rattle.asyncio.specs.Layout.{object_words, to_object}
use Rattle.asyncio.specs.States.{is_live, is_unstarted}
use Rattle.machine.specs.Store.{Store, LogEntry, spawned, task, object, header, put_task, put_header, put_object, put_queue, add_log, restate, set_next, absent, forget}
use Rattle.machine.specs.Scheduler.{live, push_ready, spawn_as}
use Rattle.machine.specs.Events.{new_function}
use Rattle.machine.specs.History.{spawned_by}
use Rattle.machine.specs.Honest.{spawns_in}
use Rattle.machine_laws.specs.Views.{Sized}
use Rattle.machine_laws.specs.StoreLaws.{task-fits, header-fits, header_put-object, object_put-header, object_put-object, live-put_task, task_put-other, object_put-other, sized-put_object, sized-forget}
use Rattle.machine_laws.specs.SizedLaws.{sized-spawn_as}
use Rattle.machine_laws.specs.DeliveryLaws.{absurd_some}
use Rattle.machine_sessions.specs.Waits.Calls.{read_back}
use Rattle.machine_sessions.specs.Queue.Tracked.{live_like, live_low, live-is, live-other, spawn-row, spawn-next}
use Rattle.machine_sessions.specs.Places.Told.{unstarted_back, coroutine_back}
use Rattle.machine_sessions.specs.Honest.HonestWalk.{row-task}

-- ---- shapes

pub data Shape : Type 0 where
  other : Shape
  new : ℕ → Shape
  used : ℕ → Shape
  many : ℕ → ℕ → Shape

unfoldable pub shape : Object → Shape
shape Object.Unmade = other
shape (Object.Coroutine f CoroutineState.New) = new f
shape (Object.Coroutine f CoroutineState.Running) = used f
shape (Object.Coroutine f CoroutineState.Completed) = used f
shape (Object.ExternalFuture c x) = other
shape (Object.GatherFuture f n x) = many f n

-- a coroutine that has started, or runs inline
abbrev pub is_used : Shape → Bool
is_used other = false
is_used (new f) = false
is_used (used f) = true
is_used (many f n) = false

-- a coroutine
abbrev pub is_co : Shape → Bool
is_co other = false
is_co (new f) = true
is_co (used f) = true
is_co (many f n) = false

pub gather-shape : (f n : ℕ) (y : GatherState) → PlacesFit f n → shape (to_object (object_words (Object.GatherFuture f n y))) ≡ many f n
unfolding shape
gather-shape f n GatherState.Pending k = ap shape (object_back (Object.GatherFuture f n GatherState.Completed) (k, tt))
gather-shape f n (GatherState.Awaited a m) k = ap shape (object_back (Object.GatherFuture f n GatherState.Completed) (k, tt))
gather-shape f n GatherState.Completed k = ap shape (object_back (Object.GatherFuture f n GatherState.Completed) (k, tt))
gather-shape f n (GatherState.Failed e) k = ap shape (object_back (Object.GatherFuture f n GatherState.Completed) (k, tt))

pub external_shape : (c : CallId) (x : ExternalFutureState) → shape (to_object (object_words (Object.ExternalFuture c x))) ≡ other
unfolding shape
external_shape c (ExternalFutureState.Pending a r) = refl
external_shape c (ExternalFutureState.Resolved v) = refl
external_shape c (ExternalFutureState.Failed e) = refl

pub new-shape : (x : Object) (f : ℕ) → new_function x ≡ some f → shape x ≡ new f
unfolding new_function shape
new-shape Object.Unmade f e = absurd_some e
new-shape (Object.Coroutine g CoroutineState.New) f e = ap new (some-injective g f e)
new-shape (Object.Coroutine g CoroutineState.Running) f e = absurd_some e
new-shape (Object.Coroutine g CoroutineState.Completed) f e = absurd_some e
new-shape (Object.ExternalFuture c x) f e = absurd_some e
new-shape (Object.GatherFuture g n x) f e = absurd_some e

-- a coroutine that is not new
pub old_shape : (x : Object) → new_function x ≡ none → is_co (shape x) ≡ true → is_used (shape x) ≡ true
unfolding new_function shape
old_shape Object.Unmade e c = absurd (true≢false (sym c))
old_shape (Object.Coroutine g CoroutineState.New) e c = absurd_some (sym e)
old_shape (Object.Coroutine g CoroutineState.Running) e c = refl
old_shape (Object.Coroutine g CoroutineState.Completed) e c = refl
old_shape (Object.ExternalFuture d x) e c = absurd (true≢false (sym c))
old_shape (Object.GatherFuture g n x) e c = absurd (true≢false (sym c))

pub used_old : (x : Object) → is_used (shape x) ≡ true → new_function x ≡ none
unfolding new_function shape
used_old Object.Unmade e = refl
used_old (Object.Coroutine g CoroutineState.New) e = absurd (true≢false (sym e))
used_old (Object.Coroutine g CoroutineState.Running) e = refl
used_old (Object.Coroutine g CoroutineState.Completed) e = refl
used_old (Object.ExternalFuture d x) e = refl
used_old (Object.GatherFuture g n x) e = refl

-- ---- what every store has in the midst of an event: S, C and n tell what tasks were spawned for, which coroutine they had started and how many were
-- spawned before the event; N the shapes

pub record TaskFrom (S C : ℕ → Option ℕ) (N : ℕ → Shape) (l : List LogEntry) (t : ℕ) (r : Task) : Type 0 where
  pub origin : spawned_by (S t) l t ≡ some r.coroutine.0
  pub fresh : is_unstarted r.state ≡ true → C t ≡ none
  pub begun : is_unstarted r.state ≡ false → is_used (N r.coroutine.0) ≡ true
  pub coroutine : is_co (N r.coroutine.0) ≡ true

pub record Spawned (S C : ℕ → Option ℕ) (n : ℕ) (N : ℕ → Shape) (u : Store) : Type 0 where
  pub sized : Sized u
  pub rows : (o : ℕ) → shape (object u o) ≡ N o
  pub next : (header u).next ≡ suc (spawns_in u.log + n)
  -- rows from the next number on are not in use
  pub unused : (t : ℕ) → t < task_limit → (header u).next ≤ t → is_live (task u t).state ≡ false
  pub unborn : (t : ℕ) → (header u).next ≤ t → C t ≡ none
  pub main : is_unstarted (task u 0).state ≡ false
  pub not_main : spawned_by (S 0) u.log 0 ≡ none
  pub tasks : (t : ℕ) → suc t < (header u).next → is_live (task u (suc t)).state ≡ true → TaskFrom S C N u.log (suc t) (task u (suc t))
  pub known : (t c : ℕ) → spawned_by (S t) u.log t ≡ some c → is_co (N c) ≡ true
  -- a task that was spawned for a coroutine that is new lives still
  pub first : (t c f : ℕ) → spawned_by (S t) u.log t ≡ some c → N c ≡ new f → live u t ≡ true

-- the same tasks spawned
pub record SameSpawns (S : ℕ → Option ℕ) (s u : Store) : Type 0 where
  pub for_it : (t : ℕ) → spawned_by (S t) u.log t ≡ spawned_by (S t) s.log t
  pub counted : spawns_in u.log ≡ spawns_in s.log

pub same-spawns : (S : ℕ → Option ℕ) (s u : Store) → u.log ≡ s.log → SameSpawns S s u
same-spawns S s u e = record { for_it = λ t. ap (λ (l : List LogEntry). spawned_by (S t) l t) e; counted = ap spawns_in e }

spawned_first : (b : Option ℕ) (n c : ℕ) (l : List LogEntry) → spawned_by b (spawned n c ∷ l) n ≡ some c
unfolding spawned_by
spawned_first b n c l = ap (λ (x : Bool). elim x [ true ↦ some c | false ↦ spawned_by b l n ]) (eq-eqb n n refl)

pub spawned-later : (b : Option ℕ) (n c t : ℕ) (l : List LogEntry) → (t ≡ n → ⊥) → spawned_by b (spawned n c ∷ l) t ≡ spawned_by b l t
unfolding spawned_by
spawned-later b n c t l ne = ap (λ (x : Bool). elim x [ true ↦ some c | false ↦ spawned_by b l t ]) (ne_eqb n t (λ e. ne (sym e)))

pub spawn-task : (s : Store) (t c g v : ℕ)
    → task (spawn_as s t c g) v ≡ task (put_task s t (record { state = TaskState.Unstarted; awaiter = Awaiter.GatherSlot (heap_id g) (heap_id c); coroutine = heap_id c })) v
unfolding spawn_as push_ready add_log put_queue set_next put_header task
spawn-task s t c g v = refl

pub spawn-log : (s : Store) (t c g : ℕ) → (spawn_as s t c g).log ≡ spawned t c ∷ s.log
unfolding spawn_as push_ready add_log put_queue set_next put_header put_task
spawn-log s t c g = refl

pub spawn-object : (s : Store) (t c p o : ℕ) → object (spawn_as s t c p) o ≡ object s o
unfolding spawn_as push_ready add_log put_queue object
spawn-object s t c p o = unfold object in (moved_row (put_task s t _) (t + 1)) ∙ (unfold object put_task in refl)
  where
    moved_row : (u : Store) (m : ℕ) → object (set_next u m) o ≡ object u o
    moved_row u m = unfold set_next in (object_put-header u _ o)

not_new : {A : Type 0} (x : Shape) (f : ℕ) → is_used x ≡ true → x ≡ new f → A
not_new x f e q = absurd (true≢false (sym e ∙ ap is_used q))

module _ (S C : ℕ → Option ℕ) (n : ℕ) (N : ℕ → Shape) where
  abbrev K : Store → Type 0
  K u = Spawned S C n N u

  -- a live row is in use
  pub live_below : (s : Store) (t : ℕ) → t < task_limit → is_live (task s t).state ≡ true → K s → t < (header s).next
  live_below s t l e k = by (ltb t (header s).next) refl
    where
      by : (b : Bool) → ltb t (header s).next ≡ b → t < (header s).next
      by true q = ltb-true t (header s).next q
      by false q = absurd (true≢false (sym e ∙ k.unused t l (ltb-false t (header s).next q)))

  from-like : (s u : Store) (t : ℕ) (r : Task) → SameSpawns S s u → TaskFrom S C N s.log t r → TaskFrom S C N u.log t r
  from-like s u t r e y = record { origin = e.for_it t ∙ y.origin; fresh = y.fresh; begun = y.begun; coroutine = y.coroutine }

  -- tasks and the next number as they were, and no task spawned
  pub spawned_like : (s u : Store) → Sized u → SameSpawns S s u → (header u).next ≡ (header s).next → ((o : ℕ) → shape (object u o) ≡ N o) → ((t : ℕ) → task u t ≡ task s t) → K s → K u
  spawned_like s u z e en er et k =
      record {
        sized = z;
        rows = er;
        next = en ∙ (k.next ∙ ap (λ (m : ℕ). suc (m + n)) (sym e.counted));
        unused = λ t l b. ap (λ (r : Task). is_live r.state) (et t) ∙ k.unused t l (subst (λ (m : ℕ). m ≤ t) en b);
        unborn = λ t b. k.unborn t (subst (λ (m : ℕ). m ≤ t) en b);
        main = ap (λ (r : Task). is_unstarted r.state) (et 0) ∙ k.main;
        not_main = e.for_it 0 ∙ k.not_main;
        tasks = λ t b lv.
            subst (TaskFrom S C N u.log (suc t)) (sym (et (suc t)))
            (from-like s u (suc t) (task s (suc t)) e (k.tasks t (subst (λ (m : ℕ). suc t < m) en b) (sym (ap (λ (r : Task). is_live r.state) (et (suc t))) ∙ lv)));
        known = λ t c q. k.known t c (sym (e.for_it t) ∙ q);
        first = λ t c f q w. live_like s u t en (ap (λ (r : Task). is_live r.state) (et t)) ∙ k.first t c f (sym (e.for_it t) ∙ q) w;
      }

  -- an object's row in its shape
  pub row-spawned : (s : Store) (o : ℕ) (x : Object) → o < object_limit → shape (to_object (object_words x)) ≡ N o → K s → K (put_object s o x)
  row-spawned s o x l e k =
      spawned_like s (put_object s o x) (sized-put_object s o x k.sized) (same-spawns S s _ (unfold put_object in refl)) (ap (λ (h : Header). h.next) (header_put-object s o x))
      (λ p. by p (ℕ_discrete p o)) (λ t. row-task s o x t) k
    where
      by : (p : ℕ) → Dec (p ≡ o) → shape (object (put_object s o x) p) ≡ N p
      by p (yes d) = subst (λ (m : ℕ). shape (object (put_object s o x) m) ≡ N m) (sym d) (ap shape (read_back s o x k.sized l) ∙ e)
      by p (no ne) = ap shape (object_put-other s o p x ne) ∙ k.rows p

  -- ---- tasks

  -- task t, live, with a coroutine that is not new, in another state that is live and started; B tells which coroutines the tasks have started then
  pub runs-spawned : (B : ℕ → Option ℕ) (s : Store) (t : ℕ) (y : TaskState) (u : Store) → t < task_limit → is_live (task s t).state ≡ true
      → ((m : ℕ) → t ≡ suc m → is_used (N (task s t).coroutine.0) ≡ true) → is_live y ≡ true → is_unstarted y ≡ false → ((v : ℕ) → (v ≡ t → ⊥) → B v ≡ C v)
      → Sized u → SameSpawns S s u → (header u).next ≡ (header s).next → ((o : ℕ) → object u o ≡ object s o)
      → ((v : ℕ) → task u v ≡ task (put_task s t (restate (task s t) y)) v) → K s → Spawned S B n N u
  runs-spawned B s t y u low lv old ly uy eb z e en er et k =
      record {
        sized = z;
        rows = λ o. ap shape (er o) ∙ k.rows o;
        next = en ∙ (k.next ∙ ap (λ (m : ℕ). suc (m + n)) (sym e.counted));
        unused = λ v l b. unused-by v l (subst (λ (m : ℕ). m ≤ v) en b) (ℕ_discrete v t);
        unborn = λ v b. unborn-by v (subst (λ (m : ℕ). m ≤ v) en b);
        main = main-by (ℕ_discrete 0 t);
        not_main = e.for_it 0 ∙ k.not_main;
        tasks = λ v b l. tasks-by v (subst (λ (m : ℕ). suc v < m) en b) l (ℕ_discrete (suc v) t);
        known = λ v c q. k.known v c (sym (e.for_it v) ∙ q);
        first = λ v c f q w. same v ∙ k.first v c f (sym (e.for_it v) ∙ q) w;
      }
    where
      r : Task
      r = restate (task s t) y

      here : t < (header s).next
      here = live_below s t low lv k

      -- read back
      lives : is_live (task u t).state ≡ true
      lives = ap (λ (x : Task). is_live x.state) (et t) ∙ (live-put_task s t r k.sized low ∙ (unfold restate in ly))

      starts : is_unstarted (task u t).state ≡ false
      starts = ap (λ (x : Task). is_unstarted x.state) (et t) ∙ (unstarted_back s t r k.sized low ∙ (unfold restate in uy))

      its : (task u t).coroutine.0 ≡ (task s t).coroutine.0
      its = ap (λ (x : Task). x.coroutine.0) (et t) ∙ (coroutine_back s t r k.sized low (unfold restate in (task-fits s t).coroutine_fits) ∙ (unfold restate in refl))

      others : (v : ℕ) → (v ≡ t → ⊥) → task u v ≡ task s v
      others v ne = et v ∙ task_put-other s t v r ne

      same_live : (v : ℕ) → Dec (v ≡ t) → is_live (task u v).state ≡ is_live (task s v).state
      same_live v (yes q) = subst (λ (m : ℕ). is_live (task u m).state ≡ is_live (task s m).state) (sym q) (lives ∙ sym lv)
      same_live v (no ne) = ap (λ (x : Task). is_live x.state) (others v ne)

      same : (v : ℕ) → live u v ≡ live s v
      same v = live_like s u v en (same_live v (ℕ_discrete v t))

      unused-by : (v : ℕ) → v < task_limit → (header s).next ≤ v → Dec (v ≡ t) → is_live (task u v).state ≡ false
      unused-by v l b (yes q) = absurd (not-suc-le-zero {n = 0} (omega (arith, here)))
      unused-by v l b (no ne) = ap (λ (x : Task). is_live x.state) (others v ne) ∙ k.unused v l b

      unborn-by : (v : ℕ) → (header s).next ≤ v → B v ≡ none
      unborn-by v b = eb v (λ q. not-suc-le-zero {n = 0} (omega (arith, here))) ∙ k.unborn v b

      main-by : Dec (0 ≡ t) → is_unstarted (task u 0).state ≡ false
      main-by (yes q) = subst (λ (m : ℕ). is_unstarted (task u m).state ≡ false) (sym q) starts
      main-by (no ne) = ap (λ (x : Task). is_unstarted x.state) (others 0 ne) ∙ k.main

      tasks-by : (v : ℕ) → suc v < (header s).next → is_live (task u (suc v)).state ≡ true → Dec (suc v ≡ t) → TaskFrom S B N u.log (suc v) (task u (suc v))
      tasks-by v b l (yes q) =
          let x : TaskFrom S C N s.log (suc v) (task s (suc v)) = k.tasks v b (sym (same_live (suc v) (yes q)) ∙ l) in
          let c : (task u (suc v)).coroutine.0 ≡ (task s (suc v)).coroutine.0 = subst (λ (m : ℕ). (task u m).coroutine.0 ≡ (task s m).coroutine.0) (sym q) its in
          record {
            origin = e.for_it (suc v) ∙ (x.origin ∙ ap (λ (m : ℕ). some m) (sym c));
            fresh = λ w. absurd (true≢false (sym w ∙ subst (λ (m : ℕ). is_unstarted (task u m).state ≡ false) (sym q) starts));
            begun = λ w. ap (λ (m : ℕ). is_used (N m)) c ∙ subst (λ (m : ℕ). is_used (N (task s m).coroutine.0) ≡ true) (sym q) (old v (sym q));
            coroutine = ap (λ (m : ℕ). is_co (N m)) c ∙ x.coroutine;
          }
      tasks-by v b l (no ne) =
          let x : TaskFrom S C N s.log (suc v) (task s (suc v)) = k.tasks v b (sym (same_live (suc v) (no ne)) ∙ l) in
          subst (TaskFrom S B N u.log (suc v)) (sym (others (suc v) ne))
          (record { origin = e.for_it (suc v) ∙ x.origin; fresh = λ w. eb (suc v) ne ∙ x.fresh w; begun = x.begun; coroutine = x.coroutine })

  -- task t, live and started, in another state that is live and started
  pub state_spawned : (s : Store) (t : ℕ) (y : TaskState) (u : Store) → t < task_limit → is_live (task s t).state ≡ true → is_unstarted (task s t).state ≡ false → is_live y ≡ true → is_unstarted y ≡ false
      → Sized u → SameSpawns S s u → (header u).next ≡ (header s).next → ((o : ℕ) → object u o ≡ object s o)
      → ((v : ℕ) → task u v ≡ task (put_task s t (restate (task s t) y)) v) → K s → K u
  state_spawned s t y u low lv un ly uy z e en er et k = runs-spawned C s t y u low lv old ly uy (λ v ne. refl) z e en er et k
    where
      old : (m : ℕ) → t ≡ suc m → is_used (N (task s t).coroutine.0) ≡ true
      old m q =
          subst (λ (v : ℕ). is_used (N (task s v).coroutine.0) ≡ true) (sym q)
          ((k.tasks m (subst (λ (v : ℕ). v < (header s).next) q (live_below s t low lv k)) (subst (λ (v : ℕ). is_live (task s v).state ≡ true) q lv)).begun (subst (λ (v : ℕ). is_unstarted (task s v).state ≡ false) q un))

  -- a task has gone; if it was live, its coroutine is not new
  pub gone-spawned : (s : Store) (t : ℕ) (u : Store) → (live s t ≡ true → is_used (N (task s t).coroutine.0) ≡ true) → Sized u → SameSpawns S s u → (header u).next ≡ (header s).next
      → ((o : ℕ) → object u o ≡ object s o) → ((v : ℕ) → task u v ≡ task (put_task s t absent) v) → K s → K u
  unfolding absent
  gone-spawned s t u old z e en er et k =
      record {
        sized = z;
        rows = λ o. ap shape (er o) ∙ k.rows o;
        next = en ∙ (k.next ∙ ap (λ (m : ℕ). suc (m + n)) (sym e.counted));
        unused = λ v l b. unused-by v l (subst (λ (m : ℕ). m ≤ v) en b) (ℕ_discrete v t);
        unborn = λ v b. k.unborn v (subst (λ (m : ℕ). m ≤ v) en b);
        main = main-by (ℕ_discrete 0 t);
        not_main = e.for_it 0 ∙ k.not_main;
        tasks = λ v b l. tasks-by v (subst (λ (m : ℕ). suc v < m) en b) l (ℕ_discrete (suc v) t);
        known = λ v c q. k.known v c (sym (e.for_it v) ∙ q);
        first = λ v c f q w. first_by v c f (sym (e.for_it v) ∙ q) w (ℕ_discrete v t);
      }
    where
      dead : t < task_limit → is_live (task u t).state ≡ false
      dead low = ap (λ (x : Task). is_live x.state) (et t) ∙ live-put_task s t absent k.sized low

      others : (v : ℕ) → (v ≡ t → ⊥) → task u v ≡ task s v
      others v ne = et v ∙ task_put-other s t v absent ne

      unused-by : (v : ℕ) → v < task_limit → (header s).next ≤ v → Dec (v ≡ t) → is_live (task u v).state ≡ false
      unused-by v l b (yes q) = subst (λ (m : ℕ). m < task_limit → is_live (task u m).state ≡ false) (sym q) dead l
      unused-by v l b (no ne) = ap (λ (x : Task). is_live x.state) (others v ne) ∙ k.unused v l b

      main-by : Dec (0 ≡ t) → is_unstarted (task u 0).state ≡ false
      main-by (yes q) =
          ap (λ (x : Task). is_unstarted x.state) (et 0) ∙ subst (λ (m : ℕ). is_unstarted (task (put_task s t absent) m).state ≡ false) (sym q) (unstarted_back s t absent k.sized (subst (λ (m : ℕ). m < task_limit) q (omega arith)))
      main-by (no ne) = ap (λ (x : Task). is_unstarted x.state) (others 0 ne) ∙ k.main

      tasks-by : (v : ℕ) → suc v < (header s).next → is_live (task u (suc v)).state ≡ true → Dec (suc v ≡ t) → TaskFrom S C N u.log (suc v) (task u (suc v))
      tasks-by v b l (yes q) =
          absurd (true≢false (sym l ∙ subst (λ (m : ℕ). m < task_limit → is_live (task u m).state ≡ false) (sym q) dead (omega (arith, b, (header-fits s).next_fits))))
      tasks-by v b l (no ne) =
          subst (TaskFrom S C N u.log (suc v)) (sym (others (suc v) ne)) (from-like s u (suc v) (task s (suc v)) e (k.tasks v b (sym (ap (λ (x : Task). is_live x.state) (others (suc v) ne)) ∙ l)))

      first_by : (v c f : ℕ) → spawned_by (S v) s.log v ≡ some c → N c ≡ new f → Dec (v ≡ t) → live u v ≡ true
      first_by zero c f q w d = absurd_some (sym k.not_main ∙ q)
      first_by (suc v) c f q w (yes d) =
          let lv : live s (suc v) ≡ true = k.first (suc v) c f q w in
          let x : TaskFrom S C N s.log (suc v) (task s (suc v)) = k.tasks v (live_low s (suc v) lv).0 (live_low s (suc v) lv).1 in
          let same : (task s (suc v)).coroutine.0 ≡ c = some-injective _ c (sym x.origin ∙ q) in
          not_new (N (task s (suc v)).coroutine.0) f (subst (λ (m : ℕ). live s m ≡ true → is_used (N (task s m).coroutine.0) ≡ true) (sym d) old lv) (ap N same ∙ w)
      first_by (suc v) c f q w (no ne) = live_like s u (suc v) en (ap (λ (x : Task). is_live x.state) (others (suc v) ne)) ∙ k.first (suc v) c f q w

  -- a task is spawned for a coroutine that is new
  pub spawn-spawned : (s : Store) (c g f : ℕ) → (header s).next < task_limit → c < object_limit → N c ≡ new f → K s → K (spawn_as s (header s).next c g)
  spawn-spawned s c g f low lc w k =
      record {
        sized = sized-spawn_as s m c g k.sized;
        rows = λ o. ap shape (spawn-object s m c g o) ∙ k.rows o;
        next = next_is ∙ (ap (λ (x : ℕ). x + 1) k.next ∙ (counts ∙ ap (λ (l : List LogEntry). suc (spawns_in l + n)) (sym log_is)));
        unused = λ v l b. ap (λ (x : Task). is_live x.state) (others v (λ q. not-suc-le-zero {n = 0} (omega (arith, b, next_is)))) ∙ k.unused v l (omega (arith, b, next_is));
        unborn = λ v b. k.unborn v (omega (arith, b, next_is));
        main = ap (λ (x : Task). is_unstarted x.state) (others 0 not-zero) ∙ k.main;
        not_main = later 0 not-zero ∙ k.not_main;
        tasks = λ v b l. tasks-by v (omega (arith, b, next_is)) l (ℕ_discrete (suc v) m);
        known = λ v d q. known_by v d q (ℕ_discrete v m);
        first = λ v d x q y. first_by v d x q y (ℕ_discrete v m);
      }
    where
      m : ℕ
      m = (header s).next

      u : Store
      u = spawn_as s m c g

      r : Task
      r = record { state = TaskState.Unstarted; awaiter = Awaiter.GatherSlot (heap_id g) (heap_id c); coroutine = heap_id c }

      next_is : (header u).next ≡ m + 1
      next_is = spawn-next s m c g k.sized low

      log_is : u.log ≡ spawned m c ∷ s.log
      log_is = spawn-log s m c g

      counts : suc (spawns_in s.log + n) + 1 ≡ suc (spawns_in (spawned m c ∷ s.log) + n)
      counts = unfold spawns_in in (omega arith)

      not-zero : 0 ≡ m → ⊥
      not-zero q = not-suc-le-zero {n = 0} (omega (arith, k.next))

      others : (v : ℕ) → (v ≡ m → ⊥) → task u v ≡ task s v
      others v ne = spawn-row s m c g v ne

      later : (v : ℕ) → (v ≡ m → ⊥) → spawned_by (S v) u.log v ≡ spawned_by (S v) s.log v
      later v ne = ap (λ (l : List LogEntry). spawned_by (S v) l v) log_is ∙ spawned-later (S v) m c v s.log ne

      now : spawned_by (S m) u.log m ≡ some c
      now = ap (λ (l : List LogEntry). spawned_by (S m) l m) log_is ∙ spawned_first (S m) m c s.log

      at-m : task u m ≡ task (put_task s m r) m
      at-m = spawn-task s m c g m

      its : (task u m).coroutine.0 ≡ c
      its = ap (λ (x : Task). x.coroutine.0) at-m ∙ coroutine_back s m r k.sized low lc

      is_new : is_co (N c) ≡ true
      is_new = ap is_co w

      tasks-by : (v : ℕ) → suc v < m + 1 → is_live (task u (suc v)).state ≡ true → Dec (suc v ≡ m) → TaskFrom S C N u.log (suc v) (task u (suc v))
      tasks-by v b l (yes q) =
          subst (λ (x : ℕ). TaskFrom S C N u.log x (task u x)) (sym q)
          (record {
            origin = now ∙ ap (λ (x : ℕ). some x) (sym its);
            fresh = λ y. k.unborn m (omega arith);
            begun = λ y. absurd (true≢false (sym (ap (λ (x : Task). is_unstarted x.state) at-m ∙ unstarted_back s m r k.sized low) ∙ y));
            coroutine = ap (λ (x : ℕ). is_co (N x)) its ∙ is_new;
          })
      tasks-by v b l (no ne) =
          let x : TaskFrom S C N s.log (suc v) (task s (suc v)) = k.tasks v (omega (arith, b, ne)) (sym (ap (λ (y : Task). is_live y.state) (others (suc v) ne)) ∙ l) in
          subst (TaskFrom S C N u.log (suc v)) (sym (others (suc v) ne)) (record { origin = later (suc v) ne ∙ x.origin; fresh = x.fresh; begun = x.begun; coroutine = x.coroutine })

      known_by : (v d : ℕ) → spawned_by (S v) u.log v ≡ some d → Dec (v ≡ m) → is_co (N d) ≡ true
      known_by v d q (yes e) = subst (λ (x : ℕ). is_co (N x) ≡ true) (some-injective c d (sym now ∙ subst (λ (x : ℕ). spawned_by (S x) u.log x ≡ some d) e q)) is_new
      known_by v d q (no ne) = k.known v d (sym (later v ne) ∙ q)

      first_by : (v d x : ℕ) → spawned_by (S v) u.log v ≡ some d → N d ≡ new x → Dec (v ≡ m) → live u v ≡ true
      first_by v d x q y (yes e) =
          subst (λ (z : ℕ). live u z ≡ true) (sym e) (live-is u m (omega (arith, next_is)) (ap (λ (z : Task). is_live z.state) at-m ∙ live-put_task s m r k.sized low))
      first_by v d x q y (no ne) = live-other s u v m next_is refl ne (ap (λ (z : Task). is_live z.state) (others v ne)) ∙ k.first v d x (sym (later v ne) ∙ q) y

  -- coroutine c starts, or runs inline: it is new no more
  pub use_spawned : (s : Store) (c f : ℕ) → c < object_limit → f < u32_limit → N c ≡ new f → K s
      → Spawned S C n (λ o. shape (object (put_object s c (Object.Coroutine f CoroutineState.Running)) o)) (put_object s c (Object.Coroutine f CoroutineState.Running))
  unfolding put_object
  use_spawned s c f l fits w k =
      record {
        sized = sized-put_object s c x k.sized;
        rows = λ o. refl;
        next = ap (λ (h : Header). h.next) hd ∙ k.next;
        unused = λ t b q. ap (λ (r : Task). is_live r.state) (row-task s c x t) ∙ k.unused t b (subst (λ (h : Header). h.next ≤ t) hd q);
        unborn = λ t q. k.unborn t (subst (λ (h : Header). h.next ≤ t) hd q);
        main = ap (λ (r : Task). is_unstarted r.state) (row-task s c x 0) ∙ k.main;
        not_main = k.not_main;
        tasks = λ t b lv. subst (TaskFrom S C M u.log (suc t)) (sym (row-task s c x (suc t))) (from t (k.tasks t (subst (λ (h : Header). suc t < h.next) hd b) (sym (ap (λ (r : Task). is_live r.state) (row-task s c x (suc t))) ∙ lv)));
        known = λ t d q. stays-co d (k.known t d q);
        first = λ t d g q y. live_like s u t (ap (λ (h : Header). h.next) hd) (ap (λ (r : Task). is_live r.state) (row-task s c x t)) ∙ k.first t d g q (was-new d g y (ℕ_discrete d c));
      }
    where
      x : Object
      x = Object.Coroutine f CoroutineState.Running

      u : Store
      u = put_object s c x

      M : ℕ → Shape
      M o = shape (object u o)

      hd : header u ≡ header s
      hd = header_put-object s c x

      here : M c ≡ used f
      here = ap shape (object_put-object s c x k.sized l fits) ∙ (unfold shape in refl)

      there : (d : ℕ) → (d ≡ c → ⊥) → M d ≡ N d
      there d ne = ap shape (object_put-other s c d x ne) ∙ k.rows d

      stays-used : (d : ℕ) → is_used (N d) ≡ true → is_used (M d) ≡ true
      stays-used d e = by (ℕ_discrete d c)
        where
          by : Dec (d ≡ c) → is_used (M d) ≡ true
          by (yes q) = subst (λ (m : ℕ). is_used (M m) ≡ true) (sym q) (ap is_used here)
          by (no ne) = ap is_used (there d ne) ∙ e

      stays-co : (d : ℕ) → is_co (N d) ≡ true → is_co (M d) ≡ true
      stays-co d e = by (ℕ_discrete d c)
        where
          by : Dec (d ≡ c) → is_co (M d) ≡ true
          by (yes q) = subst (λ (m : ℕ). is_co (M m) ≡ true) (sym q) (ap is_co here)
          by (no ne) = ap is_co (there d ne) ∙ e

      was-new : (d g : ℕ) → M d ≡ new g → Dec (d ≡ c) → N d ≡ new g
      was-new d g y (yes q) = not_new (M d) g (subst (λ (m : ℕ). is_used (M m) ≡ true) (sym q) (ap is_used here)) y
      was-new d g y (no ne) = sym (there d ne) ∙ y

      from : (t : ℕ) → TaskFrom S C N s.log (suc t) (task s (suc t)) → TaskFrom S C M u.log (suc t) (task s (suc t))
      from t y = record { origin = y.origin; fresh = y.fresh; begun = λ e. stays-used _ (y.begun e); coroutine = stays-co _ y.coroutine }

-- the same, in other words
pub spawned_as : (S B C D : ℕ → Option ℕ) (n m : ℕ) (N M : ℕ → Shape) (u : Store) → ((t : ℕ) → B t ≡ S t) → ((t : ℕ) → D t ≡ C t) → m ≡ n → ((o : ℕ) → M o ≡ N o) → Spawned S C n N u → Spawned B D m M u
spawned_as S B C D n m N M u a b c d k =
    record {
      sized = k.sized;
      rows = λ o. k.rows o ∙ sym (d o);
      next = k.next ∙ ap (λ (x : ℕ). suc (spawns_in u.log + x)) (sym c);
      unused = k.unused;
      unborn = λ t l. b t ∙ k.unborn t l;
      main = k.main;
      not_main = said 0 ∙ k.not_main;
      tasks = λ t l v.
          let y : TaskFrom S C N u.log (suc t) (task u (suc t)) = k.tasks t l v in
          record { origin = said (suc t) ∙ y.origin; fresh = λ e. b (suc t) ∙ y.fresh e; begun = λ e. ap is_used (d _) ∙ y.begun e; coroutine = ap is_co (d _) ∙ y.coroutine };
      known = λ t e q. ap is_co (d e) ∙ k.known t e (sym (said t) ∙ q);
      first = λ t e f q w. k.first t e f (sym (said t) ∙ q) (sym (d e) ∙ w);
    }
  where
    said : (t : ℕ) → spawned_by (B t) u.log t ≡ spawned_by (S t) u.log t
    said t = ap (λ (x : Option ℕ). spawned_by x u.log t) (a t)

-- after the event: what has happened is told by the history
pub spawned-then : (S C : ℕ → Option ℕ) (n : ℕ) (N : ℕ → Shape) (u : Store) → Spawned S C n N u → Spawned (λ t. spawned_by (S t) u.log t) C (spawns_in u.log + n) N (forget u)
unfolding forget spawned_by spawns_in task object header live
spawned-then S C n N u k =
    record {
      sized = sized-forget u k.sized;
      rows = k.rows;
      next = k.next ∙ omega arith;
      unused = k.unused;
      unborn = k.unborn;
      main = k.main;
      not_main = k.not_main;
      tasks = λ t l v. let y : TaskFrom S C N u.log (suc t) (task u (suc t)) = k.tasks t l v in record { origin = y.origin; fresh = y.fresh; begun = y.begun; coroutine = y.coroutine };
      known = k.known;
      first = k.first;
    }
