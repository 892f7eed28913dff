-- Delivery keeps soundness: an object settles, its awaiter is detached from it, the climb through gathers, and the task at the end.
use Rattle.std.specs.Prelude.{◌≡◌, Bool, not, T, eqb}
use Rattle.std.proofs.Math.Path.{refl, subst}
use Rattle.std.proofs.Common.{ap, sym, ◌∙◌, not-suc-le-zero, le_refl, arith, ltb→lt}
use Rattle.std.proofs.Math.Logic.{inl}
use Rattle.std.proofs.Math.Bool.{true, false}
use Rattle.std.proofs.Math.Option.{Option, none, some, some-injective}
use Prim.Native.Nat.{ℕ, zero, suc, ◌+◌, ◌≤◌, ◌<◌}
use Rattle.asyncio.specs.declared.HeapId.{HeapId}
use Rattle.asyncio.specs.declared.TaskId.{TaskId}
use Rattle.asyncio.specs.declared.Error.{Error}
use Rattle.asyncio.specs.declared.Task.{Task}
use Rattle.asyncio.specs.declared.TaskState.{TaskState}
use Rattle.asyncio.specs.declared.Awaiter.{Awaiter}
use Rattle.asyncio.specs.declared.GatherState.{GatherState}
use Rattle.asyncio.specs.declared.Object.{Object}
use Rattle.asyncio.specs.declared.Place.{Place}
use Rattle.asyncio.specs.declared.Header.{Header}
use Rattle.asyncio.specs.Limits.{object_limit}
use Rattle.asyncio.specs.Ranges.{StateFits, TaskFits, ObjectFits, ErrorFits}
use Rattle.asyncio.specs.Numbers.{heap_id, task_id}
use Rattle.asyncio.specs.States.{pick, is_live, is_unstarted, is_ready, is_running, is_blocked}
use Rattle.asyncio.specs.Kinds.{kind, is_coroutine, is_completed, is_committed}
use Rattle.asyncio.specs.Parts.{awaiter_of, count_of}
use Rattle.queue.specs.Queue.{entries, push_back}
use Rattle.queue.proofs.QueueLaws.{push_back-len, push_back-length}
use Rattle.machine.specs.Store.{Store, View, view, task, object, place, header, put_task, put_object, put_queue, set_state, restate, add_log, reached}
use Rattle.machine.specs.Scheduler.{AwaitedGather, as_awaited, as_pending, blocked_on, make_ready, push_ready}
use Rattle.machine.specs.Delivery.{Delivery, nobody_woken, deliver_to_task, Settled, fail_awaited, fail_gather, send_error, climb, deliver_awaiter_failure}
use Rattle.machine.specs.Sound.{awaiter_in_range, open_in_range, object_in_range, task_in_range, committed_places, items_below, object_values, state_values, object_filled, gather_filled}
use Rattle.machine_laws.specs.Views.{with_object}
use Rattle.machine_laws.specs.Facts.{Open, Slotted, SoundBut, Nothing}
use Rattle.machine_laws.specs.TestLaws.{both, both_left, both_right, below, implies_use, implies_give}
use Rattle.machine_laws.specs.StoreLaws.{update_same, update_case, view-put_object, task-fits}
use Rattle.machine_laws.specs.DeliveryLaws.{absurd_some, awaited-object, awaited-fits, failure_climbs}
use Rattle.machine_laws.specs.MakingLaws.{nobody-task, nobody_slot}
use Rattle.machine_theorems.specs.Soundness.ReadyTasks.{not-queued, queued-back}
use Rattle.machine_theorems.specs.Soundness.PutObject.{by_object, Fits, slotted}
use Rattle.machine_theorems.specs.Soundness.PutTask.{with_task_queue, TaskWrite, but_keeps}
use Rattle.machine_theorems.specs.Soundness.Stores.{Runs, SoundDuring, object-during, task-during, add_log-during}
use Rattle.machine_theorems.specs.Soundness.SpawnTask.{awaiter_below}

-- A delivery is at its end: no awaiter is detached, and a task that it woke is below the next number.
pub record DeliveryEnds (r : ℕ → Bool) (D : ℕ → Type 0) (hd : Header) (d : Delivery) : Type 0 where
  pub during : SoundDuring Nothing r D hd d.store
  pub woken : (t : ℕ) → d.woken ≡ some t → t < hd.next

-- ---- awaiters told apart

pub task_slot : {t : TaskId} {g x : HeapId} → Awaiter.Task t ≡ Awaiter.GatherSlot g x → ⊥
task_slot e = let z : ◌≡◌ {A = ℕ} 0 1 = cc in omega arith

pub task-same : {t u : ℕ} → Awaiter.Task (task_id t) ≡ Awaiter.Task (task_id u) → t ≡ u
task-same {t} {u} e = let p : task_id t ≡ task_id u = cc in ap (λ (y : TaskId). y.0) p

-- ---- a detached awaiter

-- the tasks that a delivery to awaiter a will wake
abbrev pub Delivering : Awaiter → ℕ → Type 0
Delivering a u = a ≡ Awaiter.Task (task_id u)

-- awaiter a of object o is detached: o has it no more, and the delivery goes to it next
pub record Detached (v : View) (o : ℕ) (a : Awaiter) : Type 0 where
  pub made : o < v.header.made
  pub free : awaiter_of (v.objects o) ≡ Awaiter.Nobody
  pub range : T (awaiter_in_range v.header a)
  pub slot : (g x : ℕ) → a ≡ Awaiter.GatherSlot (heap_id g) (heap_id x) → Slotted v.header.made v.objects v.places o g x
  pub task : (t : ℕ) → a ≡ Awaiter.Task (task_id t) → T (is_live (v.tasks t).state) → blocked_on (v.tasks t).state ≡ some o

-- another P, where the tasks concerned are not blocked
pub except_during : {P P' : ℕ → Type 0} {r : ℕ → Bool} {D : ℕ → Type 0} {hd : Header} (s : Store)
    → ((t o : ℕ) → t < (header s).next → (P' t → ⊥) → blocked_on (task s t).state ≡ some o → P t → ⊥) → SoundDuring P r D hd s → SoundDuring P' r D hd s
unfolding view
except_during s f h =
    record {
      kept = record { memory = h.kept.memory; but = but_keeps (le_refl 0) f (λ p l n. n) h.kept.but };
      runs = h.runs;
      done = h.done;
      head = h.head;
    }

-- where the detached awaiter is no task, every blocked task is awaited
pub delivery_ends : {a : Awaiter} {r : ℕ → Bool} {D : ℕ → Type 0} {hd : Header} (s : Store) → ((u : ℕ) → Delivering a u → ⊥) → SoundDuring (Delivering a) r D hd s → SoundDuring Nothing r D hd s
delivery_ends s f h = except_during s (λ t o l d e z. f t z) h

pub nobody_delivery_ends : {r : ℕ → Bool} {D : ℕ → Type 0} {hd : Header} (s : Store) → SoundDuring Nothing r D hd s → DeliveryEnds r D hd (nobody_woken s)
unfolding nobody_woken
nobody_delivery_ends s h = record { during = h; woken = λ t e. absurd_some e }

-- nothing is excepted, so nothing in particular
pub take_off : {r : ℕ → Bool} {D : ℕ → Type 0} {hd : Header} (s : Store) (a : Awaiter) → SoundDuring Nothing r D hd s → SoundDuring (Delivering a) r D hd s
take_off s a h = except_during s (λ t o l d e z. z) h

-- ---- an object settles

-- what a settled object has in common with what it was, and what is new: it has no awaiter, does not wait, and its values are known
pub record Settles (v : View) (o : ℕ) (x : Object) : Type 0 where
  pub made : o < v.header.made
  pub count : count_of x ≡ count_of (v.objects o)
  pub committed : is_committed (kind x) ≡ is_committed (kind (v.objects o))
  pub completed : T (is_completed (kind (v.objects o))) → T (is_completed (kind x))
  pub coroutine : is_coroutine (kind x) ≡ is_coroutine (kind (v.objects o))
  pub lower : T (items_below v.places o (v.objects o)) → T (items_below v.places o x)
  pub filled : T (object_filled v.places x)
  pub free : awaiter_of x ≡ Awaiter.Nobody
  pub answered : as_pending x ≡ none
  pub settled : as_awaited x ≡ none
  pub range : (p : ℕ) → T (object_in_range v.header p (v.objects o)) → T (object_in_range v.header p x)
  pub known : T (object_values v.header.made v.objects x)

settle_fits : (v : View) (o : ℕ) (x : Object) → Settles v o x → Fits 0 0 Nothing Nothing (Delivering (awaiter_of (v.objects o))) Nothing v o x
unfolding committed_places
settle_fits v o x st =
    record {
      made = st.made;
      count = st.count;
      room = rw (st.committed, st.count) (omega arith);
      coroutine = λ t. subst T (sym st.coroutine) t;
      completed = st.completed;
      committed = λ t. subst T (sym st.committed) t;
      range = st.range;
      awaiter = λ z. subst (λ (a : Awaiter). T (awaiter_in_range v.header a)) (sym st.free) (unfold awaiter_in_range in tt);
      lower = st.lower;
      known = λ z. st.known;
      call = λ a e. absurd_some (sym st.answered ∙ e);
      awaits = λ t l d b e. absurd (d e);
      awaited = λ n t e. absurd (nobody-task (sym st.free ∙ e));
      filled = λ n. st.filled;
      slot = λ n g y e. absurd (nobody_slot (sym st.free ∙ e));
      opens = λ w e. absurd_some (sym st.settled ∙ e);
      excepted = λ t b l d e. inl (λ z. z);
      in_commit = λ p d n z. z;
    }

settle_detached : (v : View) (o : ℕ) (x : Object) → Settles v o x → SoundBut 0 Nothing Nothing v → Detached (with_object v o x) o (awaiter_of (v.objects o))
unfolding with_object
settle_detached v o x st h =
    record {
      made = st.made;
      free = ap awaiter_of (update_same v.objects o x) ∙ st.free;
      range = h.awaiters o st.made;
      slot = λ g y e.
          slotted 0 0 Nothing Nothing (Delivering (awaiter_of (v.objects o))) Nothing v o x (settle_fits v o x st) o g y
          (λ q. by_object o st.made (λ z. z) (e ∙ ap (λ (i : ℕ). Awaiter.GatherSlot (heap_id g) (heap_id i)) q)) (h.object_slots o st.made (λ z. z) g y e);
      task = λ t e l. h.awaited o st.made (λ z. z) t e l;
    }

module _ {r : ℕ → Bool} {D : ℕ → Type 0} {hd : Header} (s : Store) (o : ℕ) (x : Object) (f : ObjectFits x) (st : Settles (view s) o x) (h : SoundDuring Nothing r D hd s) where
  -- the object of a store is settled
  pub settle_keeps : SoundDuring (Delivering (awaiter_of (object s o))) r D hd (put_object s o x)
  unfolding view
  settle_keeps = object-during s h o x f (settle_fits (view s) o x st)

  -- and its awaiter is detached then
  pub detached_keeps : Detached (view (put_object s o x)) o (awaiter_of (object s o))
  unfolding view
  detached_keeps =
      subst (λ (v : View). Detached v o (awaiter_of (object s o)))
      (sym (view-put_object s o x h.kept.memory.sized (omega (arith, st.made, h.kept.but.fits.made_fits)) f)) (settle_detached (view s) o x st h.kept.but)

-- ---- a task is woken

-- a state in which a task that was blocked goes on
pub record Resumes (x : TaskState) : Type 0 where
  pub lives : T (is_live x)
  pub unblocked : blocked_on x ≡ none
  pub stands : is_running x ≡ false
  pub old : is_unstarted x ≡ false
  pub ready : T (is_ready x)

-- a live task in another state, which is not unstarted
pub restated_in_range : (h : Header) (os : ℕ → Object) (j : ℕ) (y : Task) (x : TaskState) → T (is_live y.state) → is_unstarted x ≡ false
    → T (task_in_range h os j y) → T (task_in_range h os j (restate y x))
unfolding task_in_range restate
restated_in_range h os zero y x e f l = both _ _ (rw f tt) (both_right (not (is_unstarted y.state)) _ l)
restated_in_range h os (suc j) y x e f l = implies_give (is_live x) _ (λ z. implies_use (is_live y.state) _ e l)

pub is_the_block : (x : TaskState) → is_blocked x ≡ true → (b : HeapId) × (x ≡ TaskState.Blocked b)
is_the_block TaskState.Absent e = absurd (subst T (sym e) tt)
is_the_block TaskState.Unstarted e = absurd (subst T (sym e) tt)
is_the_block TaskState.Running e = absurd (subst T (sym e) tt)
is_the_block (TaskState.Woken v) e = absurd (subst T (sym e) tt)
is_the_block (TaskState.Raised v) e = absurd (subst T (sym e) tt)
is_the_block (TaskState.Blocked b) e = (b, refl)

not-blocked : (x : TaskState) → is_blocked x ≡ false → blocked_on x ≡ none
unfolding blocked_on
not-blocked TaskState.Absent e = refl
not-blocked TaskState.Unstarted e = refl
not-blocked TaskState.Running e = refl
not-blocked (TaskState.Woken v) e = refl
not-blocked (TaskState.Raised v) e = refl
not-blocked (TaskState.Blocked b) e = absurd (subst T e tt)

pub restated_fits : (y : Task) (x : TaskState) → TaskFits y → StateFits x → TaskFits (restate y x)
unfolding restate
restated_fits y x f k = record { state_fits = k; awaiter_fits = f.awaiter_fits; coroutine_fits = f.coroutine_fits }

module _ {r : ℕ → Bool} {D : ℕ → Type 0} {hd : Header} (s : Store) (t o : ℕ) (x : TaskState) (rs : Resumes x) (f : StateFits x)
    (k : T (state_values (header s).made (object s) x)) (fl : Detached (view s) o (Awaiter.Task (task_id t)))
    (h : SoundDuring (Delivering (Awaiter.Task (task_id t))) r D hd s) where
  abbrev row : Task
  row = restate (task s t) x

  low : t < (header s).next
  unfolding view
  low = awaiter_below (header s) (Awaiter.Task (task_id t)) t fl.range refl

  module _ (b : HeapId) (e : (task s t).state ≡ TaskState.Blocked b) where
    was-live : T (is_live (task s t).state)
    was-live = rw e tt

    was-still : is_running (task s t).state ≡ false
    was-still = rw e

    wake-fits : TaskWrite (Delivering (Awaiter.Task (task_id t))) Nothing Nothing Nothing (view s) t row (entries (push_back s.queue t))
    unfolding view restate
    wake-fits =
        record {
          alive = λ z. was-live;
          awaiter = λ z. refl;
          coroutine = λ z. refl;
          range = λ z. restated_in_range (header s) (object s) t (task s t) x was-live rs.old z;
          known = k;
          queue = λ z. queued-back s.queue h.kept.memory.ids t row (header s).next (le_refl _) (not-queued t (rw e) z) low rs.ready z;
          awaits = λ d p z. absurd_some (sym rs.unblocked ∙ z);
          awaited = λ l p z n a.
              let here : blocked_on (task s t).state ≡ some p = h.kept.but.awaited p z n t a was-live in
              let there : blocked_on (task s t).state ≡ some o = fl.task t refl was-live in
              let same : o ≡ p = some-injective o p (sym there ∙ here) in
              absurd (nobody-task (sym fl.free ∙ (ap (λ (m : ℕ). awaiter_of (object s m)) same ∙ a)));
          in_commit = λ p n. inl n;
          excepted = λ u d n z. d (sym (task-same z));
        }

    wake-runs : Runs r (with_task_queue (view s) t row (entries (push_back s.queue t)))
    unfolding with_task_queue view restate
    wake-runs u l =
        update_case (task s) t row (λ (y : Task). is_running y.state ≡ r u) u
        (λ q. rs.stands ∙ subst (λ (m : ℕ). false ≡ r m) (sym q) (sym was-still ∙ h.runs t low)) (λ d. h.runs u l)

    woken : SoundDuring Nothing r D hd (put_queue (put_task s t row) (push_back s.queue t))
    woken =
        task-during s h t row (push_back s.queue t) low (restated_fits (task s t) x (task-fits s t) f) (push_back-len s.queue t h.kept.memory.words_right.queue_short)
        (push_back-length s.queue t ∙ h.kept.memory.ids) wake-fits wake-runs

  -- The last step of a delivery, of a value or an error: the task that awaits is woken if it is blocked.
  pub reach_keeps : DeliveryEnds r D hd (deliver_to_task s t x)
  unfolding deliver_to_task make_ready push_ready set_state put_task
  reach_keeps = by (is_blocked (task s t).state) refl
    where
      by : (c : Bool) → is_blocked (task s t).state ≡ c → DeliveryEnds r D hd (pick c (record { store = add_log (make_ready s t x) (reached t); woken = some t }) (nobody_woken s))
      by true e =
          let i = is_the_block (task s t).state e in
          record {
            during = add_log-during (put_queue (put_task s t row) (push_back s.queue t)) (woken i.0 i.1) (reached t);
            woken = λ u q. subst (λ (j : ℕ). j < hd.next) (some-injective t u q) (subst (λ (y : Header). t < y.next) h.head low);
          }
      by false e =
          nobody_delivery_ends s (except_during s (λ u p l d z q. absurd_some (sym (not-blocked (task s t).state e) ∙ (ap (λ (m : ℕ). blocked_on (task s m).state) (task-same q) ∙ z))) h)

-- ---- gathers that settle

pub awaiter_is : (x : Object) (w : AwaitedGather) → as_awaited x ≡ some w → awaiter_of x ≡ w.awaiter
unfolding awaiter_of
awaiter_is x w e = ap awaiter_of (awaited-object x w e)

-- the state of a gather of n places from f on that is settled
pub record Done (ps : ℕ → Place) (f n : ℕ) (y : GatherState) : Type 0 where
  pub committed : is_committed (kind (Object.GatherFuture f n y)) ≡ true
  pub plain : is_coroutine (kind (Object.GatherFuture f n y)) ≡ false
  pub filled : T (gather_filled ps f n y)
  pub free : awaiter_of (Object.GatherFuture f n y) ≡ Awaiter.Nobody
  pub settled : as_awaited (Object.GatherFuture f n y) ≡ none
  pub range : T (open_in_range n y)

pub gather_settles : (v : View) (g : ℕ) (w : AwaitedGather) (y : GatherState) → g < v.header.made → as_awaited (v.objects g) ≡ some w
    → Done v.places w.first w.count y → Settles v g (Object.GatherFuture w.first w.count y)
unfolding count_of kind items_below object_filled as_pending object_in_range object_values
gather_settles v g w y l e d =
    let q = awaited-object (v.objects g) w e in
    record {
      made = l;
      count = sym (ap count_of q);
      committed = d.committed ∙ sym (ap (λ (x : Object). is_committed (kind x)) q);
      completed = λ h. absurd (subst (λ (y : Object). T (is_completed (kind y))) q h);
      coroutine = d.plain ∙ sym (ap (λ (x : Object). is_coroutine (kind x)) q);
      lower = λ h. subst (λ (y : Object). T (items_below v.places g y)) q h;
      filled = d.filled;
      free = d.free;
      answered = refl;
      settled = d.settled;
      range = λ p h. let h1 = subst (λ (y : Object). T (object_in_range v.header p y)) q h in both _ _ (both_left (eqb w.first p) _ h1) d.range;
      known = tt;
    }

pub failed-done : (ps : ℕ → Place) (f n : ℕ) (e : Error) → Done ps f n (GatherState.Failed e)
unfolding kind gather_filled awaiter_of as_awaited open_in_range
failed-done ps f n e = record { committed = refl; plain = refl; filled = tt; free = refl; settled = refl; range = tt }

-- an open place names a lower object
pub open_lower : {k : ℕ} {P Q : ℕ → Type 0} {v : View} (g : ℕ) (w : AwaitedGather) (z : ℕ) → SoundBut k P Q v → g < v.header.made
    → as_awaited (v.objects g) ≡ some w → Open v.places w z → z < g
unfolding items_below
open_lower {v = v} g w z h l e op =
    let low : T (items_below v.places g (Object.GatherFuture w.first w.count (GatherState.Awaited w.awaiter w.open_places))) =
    subst (λ (y : Object). T (items_below v.places g y)) (awaited-object (v.objects g) w e) (h.items g l) in
    subst (λ (m : ℕ). m < g) op.names (ltb→lt _ g (below w.count _ low op.at op.under))

-- ---- a failure climbs: each gather on its way is higher than the one before

raised_resumes : (e : Error) → Resumes (TaskState.Raised e)
unfolding blocked_on
raised_resumes e = record { lives = tt; unblocked = refl; stands = refl; old = refl; ready = tt }

-- What the gather g of a slot of object o does: it sends nothing on, and no awaiter is detached; or it sends to an awaiter, on the way to which R
-- holds, and it is higher than o.
pub record Sends (r : ℕ → Bool) (D : ℕ → Type 0) (hd : Header) (R : Store → Awaiter → Type 0) (o g : ℕ) (y : Settled) : Type 0 where
  pub stays : y.onward ≡ none → SoundDuring Nothing r D hd y.store
  pub delivers_on : (b : Awaiter) → y.onward ≡ some b → R y.store b
  pub up : (b : Awaiter) → y.onward ≡ some b → o < g

module _ (r : ℕ → Bool) (D : ℕ → Type 0) (hd : Header) where
  pub sends-nothing : (R : Store → Awaiter → Type 0) (o g : ℕ) (s : Store) → SoundDuring Nothing r D hd s → Sends r D hd R o g (record { store = s; onward = none })
  sends-nothing R o g s h = record { stays = λ e. h; delivers_on = λ b e. absurd_some e; up = λ b e. absurd_some e }

  pub sends-on : (R : Store → Awaiter → Type 0) (o g : ℕ) (s : Store) (a : Awaiter) → R s a → o < g → Sends r D hd R o g (record { store = s; onward = some a })
  sends-on R o g s a h l = record { stays = λ e. absurd_some (sym e); delivers_on = λ b e. subst (R s) (some-injective a b e) h; up = λ b e. l }

-- an error of object o on its way to awaiter a
pub record DeliveringError (r : ℕ → Bool) (D : ℕ → Type 0) (hd : Header) (o : ℕ) (s : Store) (a : Awaiter) : Type 0 where
  pub detached : Detached (view s) o a
  pub during : SoundDuring (Delivering a) r D hd s

module _ (r : ℕ → Bool) (D : ℕ → Type 0) (hd : Header) (e : Error) (k : ErrorFits e) where
  -- it fails the gather of a slot, if that is still awaited
  pub error-sends : (s : Store) (o g x : ℕ) → DeliveringError r D hd o s (Awaiter.GatherSlot (heap_id g) (heap_id x)) → Sends r D hd (DeliveringError r D hd g) o g (fail_gather s g e)
  unfolding view fail_gather fail_awaited
  error-sends s o g x i = by (as_awaited (object s g)) refl
    where
      h : SoundDuring Nothing r D hd s
      h = delivery_ends s (λ u z. task_slot (sym z)) i.during

      sl : Slotted (header s).made (object s) (place s) o g x
      sl = i.detached.slot g x refl

      by : (w : Option AwaitedGather) → as_awaited (object s g) ≡ w → Sends r D hd (DeliveringError r D hd g) o g (fail_awaited s g e w)
      by none q = sends-nothing r D hd (DeliveringError r D hd g) o g s h
      by (some w) q =
          let y : Object = Object.GatherFuture w.first w.count (GatherState.Failed e) in
          let st : Settles (view s) g y = gather_settles (view s) g w (GatherState.Failed e) sl.made q (failed-done (place s) w.first w.count e) in
          let aw : awaiter_of (object s g) ≡ w.awaiter = awaiter_is (object s g) w q in
          let fit : ObjectFits y = ((awaited-fits s g w q).0, k) in
          sends-on r D hd (DeliveringError r D hd g) o g (put_object s g y) w.awaiter
          (record {
            detached = subst (λ (a : Awaiter). Detached (view (put_object s g y)) g a) aw (detached_keeps s g y fit st h);
            during = subst (λ (a : Awaiter). SoundDuring (Delivering a) r D hd (put_object s g y)) aw (settle_keeps s g y fit st h);
          }) (open_lower g w o h.kept.but sl.made q (sl.opens w q))

  failure-slot : (n : ℕ) (s : Store) (o g x : ℕ) → object_limit ≤ suc n + o → DeliveringError r D hd o s (Awaiter.GatherSlot (heap_id g) (heap_id x))
      → ((s : Store) (o : ℕ) (a : Awaiter) → object_limit ≤ n + o → DeliveringError r D hd o s a → DeliveryEnds r D hd (deliver_awaiter_failure s a e))
      → DeliveryEnds r D hd (deliver_awaiter_failure s (Awaiter.GatherSlot (heap_id g) (heap_id x)) e)
  unfolding view
  failure-slot n s o g x f i go = by (fail_gather s g e).onward refl
    where
      sent : Sends r D hd (DeliveringError r D hd g) o g (fail_gather s g e)
      sent = error-sends s o g x i

      low : g < object_limit
      low = omega (arith, (i.detached.slot g x refl).made, i.during.kept.but.fits.made_fits)

      by : (b : Option Awaiter) → (fail_gather s g e).onward ≡ b → DeliveryEnds r D hd (deliver_awaiter_failure s (Awaiter.GatherSlot (heap_id g) (heap_id x)) e)
      by none q = unfold deliver_awaiter_failure send_error in (rw q (unfold climb in (nobody_delivery_ends _ (sent.stays q))))
      by (some a) q = rw (failure_climbs s (heap_id g) (heap_id x) e a i.during.kept.memory.sized low q) (go _ g a (omega (arith, sent.up a q)) (sent.delivers_on a q))

  -- fuel is no matter: see failure_climbs
  failure-climb : (n : ℕ) (s : Store) (o : ℕ) (a : Awaiter) → object_limit ≤ n + o → DeliveringError r D hd o s a → DeliveryEnds r D hd (deliver_awaiter_failure s a e)
  unfolding view
  failure-climb zero s o a f i = absurd (not-suc-le-zero {n = 0} (omega (arith, f, i.detached.made, i.during.kept.but.fits.made_fits)))
  failure-climb (suc n) s o Awaiter.Nobody f i = unfold deliver_awaiter_failure send_error in (nobody_delivery_ends s (delivery_ends s (λ u z. nobody-task z) i.during))
  failure-climb (suc n) s o (Awaiter.Task t) f i = unfold deliver_awaiter_failure send_error in
      (reach_keeps s t.0 o (TaskState.Raised e) (raised_resumes e) k (unfold state_values in tt) i.detached i.during)
  failure-climb (suc n) s o (Awaiter.GatherSlot g x) f i = failure-slot n s o g.0 x.0 f i (λ y p b j m. failure-climb n y p b j m)

  -- A failure of object o goes to its awaiter.
  pub failure_keeps : (s : Store) (o : ℕ) (a : Awaiter) → DeliveringError r D hd o s a → DeliveryEnds r D hd (deliver_awaiter_failure s a e)
  failure_keeps s o a i = failure-climb object_limit s o a (omega arith) i
