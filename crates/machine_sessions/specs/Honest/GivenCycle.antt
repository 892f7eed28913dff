-- `Given` through deliveries, switches, cancels and the end; and what the task that a switch runs is told.
use Rattle.std.specs.Prelude.{◌≡◌, ◌⊎◌, Bool, ◌&&◌, eqb, get_or}
use Rattle.std.proofs.Math.Path.{refl, sym, ap, subst}
use Rattle.std.proofs.Common.{◌∙◌, inl, inr, true≢false, arith, not-suc-le-zero}
use Rattle.std.proofs.Math.Bool.{true, false, not}
use mathlib.Core.List.{List, [], ◌∷◌}
use Rattle.std.proofs.Math.Option.{Option, none, some, some-injective}
use Prim.Native.Nat.{ℕ, zero, suc, ◌+◌, ◌≤◌, ◌<◌}
use Rattle.std.proofs.Math.Decide.{ℕ_discrete}
use Rattle.asyncio.specs.declared.Value.{Value}
use Rattle.asyncio.specs.declared.Error.{Error}
use Rattle.asyncio.specs.declared.TaskState.{TaskState}
use Rattle.asyncio.specs.declared.Task.{Task}
use Rattle.asyncio.specs.declared.Awaiter.{Awaiter}
use Rattle.asyncio.specs.declared.CoroutineState.{CoroutineState}
use Rattle.asyncio.specs.declared.GatherState.{GatherState}
use Rattle.asyncio.specs.declared.Object.{Object}
use Rattle.asyncio.specs.declared.Moment.{Moment}
use Rattle.asyncio.specs.Limits.{object_limit, task_limit}
use Rattle.asyncio.specs.Numbers.{heap_id, task_id}
use Rattle.asyncio.specs.Ranges.{AwaiterFits, ValueFits, ErrorFits, StateFits, TaskFits}
use Rattle.asyncio.specs.RangeLaws.{pick_has}
use Rattle.asyncio.specs.Layout.{object_words, to_object}
use Rattle.asyncio.specs.States.{pick, is_live, is_blocked}
use Rattle.queue.specs.Queue.{front_of, pop_front, empty_queue}
use Rattle.queue.proofs.QueueLaws.{front_of-fits}
use Rattle.machine.specs.Store.{Store, task, object, header, put_task, put_header, put_object, put_places, put_queue, add_log, restate, set_state, set_moment, reached, exited, removed}
use Rattle.machine.specs.Scheduler.{AwaitedGather, as_awaited, is_some, bit, blocked_on, live_count, remove_from_ready_queue, make_ready, push_ready, cancel_one}
use Rattle.machine.specs.Scheduler.{Walk, reach_if, reach, remove_blocked, visit_by, visit, visit_place, visit_open, walk_gather, walk_next, walk, walk_from, cancel_task, remove_from, cleanup}
use Rattle.machine.specs.Delivery.{Delivery, nobody_woken, deliver_to_task, Filled, fill_from, Settled, resolve_left, resolve_awaited, resolve_child, fail_awaited, fail_gather}
use Rattle.machine.specs.Delivery.{climb, awaited_count, send_value, climb_value, deliver_awaiter_success, send_error, climb_error, deliver_awaiter_failure}
use Rattle.machine.specs.Events.{How, start, value, raises, inline, Control, runs, waits, Switched, run, yield, new_function, resume_next, resume_after_task_exit, handle_task_failure}
use Rattle.machine.specs.Events.{start_by, start_task, activate_state, activate_within, activate}
use Rattle.machine_laws.specs.StoreLaws.{task-fits, header-fits, object_put-other, task_put-task}
use Rattle.machine_laws.specs.DeliveryLaws.{absurd_some, awaited-object, awaited-fits, length-fill_from, resolve_sent, fail_sent}
use Rattle.machine_laws.specs.WokenLaws.{WokenFits, success_woken, failure_woken}
use Rattle.machine_theorems.specs.Soundness.RowFacts.{blocked-live}
use Rattle.machine_sessions.specs.Waits.Calls.{read_back, moment_row}
use Rattle.machine_sessions.specs.Places.Telling.{new-object}
use Rattle.machine_sessions.specs.Honest.Given.{Fate, held, ret, err, holder, fate, FateFits, fate_back, Came, Awaits, came_awaits, came_unheld, not-held, StateIs, NoTask, Given, NoneBut, NoneYet}
use Rattle.machine_sessions.specs.Honest.Given.{given_less, loose_unwaited, row-given, unwaited_given, same-given, state_given, absent-given, queue_given, log-given, places-given, moved-given, gone-given}

-- ---- what is on its way

-- the task that an awaiter is
abbrev pub At : Awaiter → ℕ → Type 0
At Awaiter.Nobody t = ⊥
At (Awaiter.Task u) t = t ≡ u.0
At (Awaiter.GatherSlot g x) t = ⊥

-- of `from` z has come; task t, if it lives, waits for it and for nothing else
pub record Wakes (W : ℕ → Option ℕ) (s : Store) (t : ℕ) (z : Fate) : Type 0 where
  pub from : ℕ
  pub comes : fate from (object s from) ≡ z
  pub its : is_live (task s t).state ≡ true → (blocked_on (task s t).state ≡ some from) × (W t ≡ some from)
  pub alone : (o : ℕ) → fate o (object s o) ≡ held t → is_live (task s t).state ≡ true → ⊥

abbrev pub Sends : (ℕ → Option ℕ) → Store → Awaiter → Fate → Type 0
Sends W s Awaiter.Nobody z = Unit {0}
Sends W s (Awaiter.Task t) z = Wakes W s t.0 z
Sends W s (Awaiter.GatherSlot g x) z = Unit {0}

pub no_task_sends : (W : ℕ → Option ℕ) (s : Store) (a : Awaiter) (z : Fate) → NoTask a → Sends W s a z
no_task_sends W s Awaiter.Nobody z n = tt
no_task_sends W s (Awaiter.Task t) z n = absurd n
no_task_sends W s (Awaiter.GatherSlot g x) z n = tt

waits_at : (a : Awaiter) (t : ℕ) → Awaits t (holder a) → At a t
unfolding holder
waits_at Awaiter.Nobody t k = k
waits_at (Awaiter.Task u) t k = sym k
waits_at (Awaiter.GatherSlot g x) t k = k

pub awaited-fate : (o : ℕ) (x : Object) (w : AwaitedGather) → as_awaited x ≡ some w → fate o x ≡ holder w.awaiter
unfolding fate
awaited-fate o x w e = ap (fate o) (awaited-object x w e)

pub awaits_fate : (o f n : ℕ) (a : Awaiter) (m : ℕ) → fate o (Object.GatherFuture f n (GatherState.Awaited a m)) ≡ holder a
unfolding fate
awaits_fate o f n a m = refl

pub none_yet : {A : Type 0} → A ⊎ ⊥ → A
none_yet (inl b) = b
none_yet (inr b) = absurd b

-- ---- states

blocked-waits : (w : Option ℕ) (F : ℕ → Fate) (t : ℕ) (x : TaskState) (o : ℕ) → blocked_on x ≡ some o → StateIs w F t x → w ≡ some o
unfolding blocked_on
blocked-waits w F t TaskState.Absent o e k = absurd_some e
blocked-waits w F t TaskState.Unstarted o e k = absurd_some e
blocked-waits w F t TaskState.Running o e k = absurd_some e
blocked-waits w F t (TaskState.Woken v) o e k = absurd_some e
blocked-waits w F t (TaskState.Raised x) o e k = absurd_some e
blocked-waits w F t (TaskState.Blocked b) o e k = k.0 ∙ e

dead_is : (w : Option ℕ) (F : ℕ → Fate) (t : ℕ) (x : TaskState) → is_live x ≡ false → StateIs w F t x
dead_is w F t TaskState.Absent e = tt
dead_is w F t TaskState.Unstarted e = absurd (true≢false e)
dead_is w F t TaskState.Running e = absurd (true≢false e)
dead_is w F t (TaskState.Woken v) e = absurd (true≢false e)
dead_is w F t (TaskState.Raised x) e = absurd (true≢false e)
dead_is w F t (TaskState.Blocked b) e = absurd (true≢false e)

on-blocked : (x : TaskState) (o : ℕ) → blocked_on x ≡ some o → is_blocked x ≡ true
unfolding blocked_on
on-blocked TaskState.Absent o e = absurd_some e
on-blocked TaskState.Unstarted o e = absurd_some e
on-blocked TaskState.Running o e = absurd_some e
on-blocked (TaskState.Woken v) o e = absurd_some e
on-blocked (TaskState.Raised x) o e = absurd_some e
on-blocked (TaskState.Blocked b) o e = refl

-- ---- what the task that has control is told

abbrev pub TellsHow : Option ℕ → (ℕ → Fate) → How → Type 0
TellsHow w F (start c f) = Unit {0}
TellsHow w F (value v) = (o : ℕ) × (w ≡ some o) × (F o ≡ ret v)
TellsHow w F (raises e) = (o : ℕ) × (w ≡ some o) × (F o ≡ err e)
TellsHow w F (inline c) = Unit {0}

-- and it runs
abbrev pub TellsBy : (ℕ → Option ℕ) → Store → Control → Type 0
TellsBy W u (runs t h) = TellsHow (W t) (λ o. fate o (object u o)) h × ((task u t).state ≡ TaskState.Running)
TellsBy W u (waits cs) = Unit {0}

pub record Left (W : ℕ → Option ℕ) (x : Switched) : Type 0 where
  pub given : Given W NoneBut NoneYet x.store
  pub tells : TellsBy W x.store x.control

tells-same : (w : Option ℕ) (F G : ℕ → Fate) (h : How) → ((o : ℕ) → G o ≡ F o) → TellsHow w F h → TellsHow w G h
tells-same w F G (start c f) e k = tt
tells-same w F G (value v) e k = (k.0, k.1, e k.0 ∙ k.2)
tells-same w F G (raises x) e k = (k.0, k.1, e k.0 ∙ k.2)
tells-same w F G (inline c) e k = tt

module _ (W : ℕ → Option ℕ) where
  abbrev K : Store → Type 0
  K u = Given W NoneBut NoneYet u

  -- ---- something comes of an object that somebody awaits

  pub settles_given : (s : Store) (o : ℕ) (x : Object) (a : Awaiter) (z : Fate) → o < object_limit → FateFits x → fate o x ≡ z → Came z → fate o (object s o) ≡ holder a → K s
      → Given W (At a) NoneYet (put_object s o x) × Sends W (put_object s o x) a z
  settles_given s o x a z l f e c h k = (
    row-given W (At a) s o x z l back (λ t q. came_awaits t z c) (λ t n q. absurd (n (waits_at a t (subst (Awaits t) h (k.fates t o q))))) (λ t q. not-held t z (came_unheld z c) q) (λ t n b. b) k,
    sends a h,
  )
    where
      u : Store
      u = put_object s o x

      back : fate o (to_object (object_words x)) ≡ z
      back = fate_back o x f ∙ e

      here : fate o (object u o) ≡ z
      here = ap (fate o) (read_back s o x k.sized l) ∙ back

      sends : (b : Awaiter) → fate o (object s o) ≡ holder b → Sends W u b z
      sends Awaiter.Nobody q = tt
      sends (Awaiter.GatherSlot g y) q = tt
      sends (Awaiter.Task t) q =
          record {
            from = o;
            comes = here;
            its = λ v. (unfold task put_object in (unfold task in (blocked-now (unfold task put_object in v))), blocked-waits (W t.0) _ t.0 (task s t.0).state o (blocked-now (unfold task put_object in v)) (k.states t.0 (omega (arith, k.low o t.0 held-now, (header-fits s).next_fits)) (λ n. n)));
            alone = λ p m v. only p m (unfold task put_object in v) (ℕ_discrete p o);
          }
        where
          held-now : fate o (object s o) ≡ held t.0
          held-now = q ∙ (unfold holder in refl)

          blocked-now : is_live (task s t.0).state ≡ true → blocked_on (task s t.0).state ≡ some o
          blocked-now v = none_yet (k.holders o t.0 held-now v)

          only : (p : ℕ) → fate p (object u p) ≡ held t.0 → is_live (task s t.0).state ≡ true → Dec (p ≡ o) → ⊥
          only p m v (yes d) = not-held t.0 z (came_unheld z c) (sym here ∙ subst (λ (n : ℕ). fate n (object u n) ≡ held t.0) d m)
          only p m v (no ne) = ne (some-injective p o (sym (none_yet (k.holders p t.0 (sym (ap (fate p) (object_put-other s o p x ne)) ∙ m) v)) ∙ blocked-now v))

  -- ---- delivery

  ready-given : (s : Store) (t : ℕ) (x : TaskState) → K (set_state s t x) → K (add_log (make_ready s t x) (reached t))
  unfolding make_ready push_ready
  ready-given s t x k = log-given W _ (reached t) (queue_given W _ _ k)

  to_task : (s : Store) (t : ℕ) (x : TaskState) (z : Fate) → t < task_limit → StateFits x → ((o : ℕ) → W t ≡ some o → fate o (object s o) ≡ z → StateIs (W t) (λ p. fate p (object s p)) t x)
      → Given W (λ v. v ≡ t) NoneYet s → Wakes W s t z → K (deliver_to_task s t x).store
  unfolding deliver_to_task nobody_woken
  to_task s t x z l f st k w = by (is_blocked (task s t).state) refl
    where
      none-live : is_blocked (task s t).state ≡ false → (b : Bool) → is_live (task s t).state ≡ b → b ≡ false
      none-live q true e = absurd (true≢false (sym (on-blocked (task s t).state w.from (w.its e).0) ∙ q))
      none-live q false e = refl

      by : (b : Bool) → is_blocked (task s t).state ≡ b → K (pick b (record { store = add_log (make_ready s t x) (reached t); woken = some t }) (nobody_woken s)).store
      by true q =
          let v : is_live (task s t).state ≡ true = blocked-live (task s t).state q in
          ready-given s t x (state_given W NoneBut s t x l f (λ n. st w.from (w.its v).1 w.comes) (λ o e y. absurd (w.alone o e v)) (λ y ne n e. ne e) k)
      by false q =
          record {
            sized = k.sized;
            fates = k.fates;
            states = λ v m n. states-by v m (ℕ_discrete v t);
            holders = k.holders;
            low = k.low;
            unborn = k.unborn;
            slots = k.slots;
          }
        where
          states-by : (v : ℕ) → v < task_limit → Dec (v ≡ t) → StateIs (W v) (λ o. fate o (object s o)) v (task s v).state
          states-by v m (yes d) =
              subst (λ (y : ℕ). StateIs (W y) (λ o. fate o (object s o)) y (task s y).state) (sym d) (dead_is (W t) _ t (task s t).state (none-live q (is_live (task s t).state) refl))
          states-by v m (no ne) = k.states v m ne

  -- what a gather leaves: it sends nothing on, or what has come of it
  record Onward (z : Fate) (r : Settled) : Type 0 where
    stops : r.onward ≡ none → K r.store
    goes : (b : Awaiter) → r.onward ≡ some b → Given W (At b) NoneYet r.store × Sends W r.store b z

  pub given-at : (s : Store) (a : Awaiter) → K s → Given W (At a) NoneYet s
  given-at s a k = given_less W s (λ t n b. b) k

  resolves : (s : Store) (g x : ℕ) (v : Value) → g < object_limit → K s → Onward (ret (Value.List (heap_id g))) (resolve_child s g x v)
  unfolding resolve_child
  resolves s g x v l k = by (as_awaited (object s g)) refl
    where
      by : (w : Option AwaitedGather) → as_awaited (object s g) ≡ w → Onward (ret (Value.List (heap_id g))) (resolve_awaited s g x v w)
      by none e = unfold resolve_awaited in (record { stops = λ q. k; goes = λ b q. absurd_some q })
      by (some w) e = unfold resolve_awaited in (left (eqb f.open_places 0))
        where
          f : Filled
          f = fill_from s.places w.open_places w.first x v 0 w.count

          m : Store
          m = put_places s f.places

          k1 : K m
          k1 = places-given W s f.places (length-fill_from w.count s.places w.open_places w.first x v 0 ∙ k.sized.places_sized) k

          e1 : as_awaited (object m g) ≡ some w
          e1 = unfold object put_places in e

          done : Object
          done = Object.GatherFuture w.first w.count GatherState.Completed

          left : (b : Bool) → Onward (ret (Value.List (heap_id g))) (resolve_left b m g w f.open_places)
          left true = unfold resolve_left in
              (record {
                stops = λ q. absurd_some (sym q);
                goes = λ b q. subst (λ (a : Awaiter). Given W (At a) NoneYet (put_object m g done) × Sends W (put_object m g done) a (ret (Value.List (heap_id g)))) (some-injective w.awaiter b q)
                    (settles_given m g done w.awaiter (ret (Value.List (heap_id g))) l tt (unfold fate in refl) tt (awaited-fate g (object m g) w e1) k1);
              })
          left false = unfold resolve_left in
              (record {
                stops = λ q. same-given W m g (Object.GatherFuture w.first w.count (GatherState.Awaited w.awaiter f.open_places)) l (awaited-fits s g w e).1.0 (awaits_fate g w.first w.count w.awaiter f.open_places ∙ sym (awaited-fate g (object m g) w e1)) k1;
                goes = λ b q. absurd_some q;
              })

  fails : (s : Store) (g : ℕ) (e : Error) → g < object_limit → ErrorFits e → K s → Onward (err e) (fail_gather s g e)
  unfolding fail_gather
  fails s g e l f k = by (as_awaited (object s g)) refl
    where
      by : (w : Option AwaitedGather) → as_awaited (object s g) ≡ w → Onward (err e) (fail_awaited s g e w)
      by none q = unfold fail_awaited in (record { stops = λ p. k; goes = λ b p. absurd_some p })
      by (some w) q = unfold fail_awaited in
          (record {
            stops = λ p. absurd_some (sym p);
            goes = λ b p. subst (λ (a : Awaiter). Given W (At a) NoneYet (put_object s g done) × Sends W (put_object s g done) a (err e)) (some-injective w.awaiter b p)
                (settles_given s g done w.awaiter (err e) l f (unfold fate in refl) tt (awaited-fate g (object s g) w q) k);
          })
        where
          done : Object
          done = Object.GatherFuture w.first w.count (GatherState.Failed e)

  climbs : (go : Store → Awaiter → Delivery) (u : Store) (a : Option Awaiter) → (a ≡ none → K u) → ((b : Awaiter) → a ≡ some b → K (go u b).store) → K (climb go u a).store
  unfolding climb nobody_woken
  climbs go u none k h = k refl
  climbs go u (some b) k h = h b refl

  sends-value : (go : Store → Awaiter → Value → Delivery) (n : ℕ)
      → ((s : Store) (a : Awaiter) (v : Value) → awaited_count s < n → AwaiterFits a → ValueFits v → Given W (At a) NoneYet s → Sends W s a (ret v) → K (go s a v).store)
      → (s : Store) (a : Awaiter) (v : Value) → awaited_count s ≤ n → AwaiterFits a → ValueFits v → Given W (At a) NoneYet s → Sends W s a (ret v) → K (send_value go s a v).store
  unfolding send_value nobody_woken
  sends-value go n h s Awaiter.Nobody v b f vf k y = given_less W s (λ t m e. e) k
  sends-value go n h s (Awaiter.Task t) v b f vf k y = to_task s t.0 (TaskState.Woken v) (ret v) f vf (λ o e q. (o, e, q)) k y
  sends-value go n h s (Awaiter.GatherSlot g x) v b f vf k y =
      let r = resolve_sent s g.0 x.0 v k.sized f.0 in
      let z : Onward (ret (Value.List g)) (resolve_child s g.0 x.0 v) = resolves s g.0 x.0 v f.0 (given_less W s (λ t m e. e) k) in
      climbs (λ u a. go u a (Value.List g)) _ _ z.stops (λ c e. h _ c (Value.List g) (omega (arith, r.falls c e, b)) (r.fits c e) f.0 (z.goes c e).0 (z.goes c e).1)

  climbs-value : (n : ℕ) (s : Store) (a : Awaiter) (v : Value) → awaited_count s < n → AwaiterFits a → ValueFits v → Given W (At a) NoneYet s → Sends W s a (ret v) → K (climb_value n s a v).store
  unfolding climb_value nobody_woken
  climbs-value zero s a v b f vf k y = absurd (not-suc-le-zero {n = 0} (omega (arith, b)))
  climbs-value (suc n) s a v b f vf k y = sends-value (λ u c w. climb_value n u c w) n (λ u c w. climbs-value n u c w) s a v (omega (arith, b)) f vf k y

  -- a value goes up
  pub success_given : (s : Store) (a : Awaiter) (v : Value) → AwaiterFits a → ValueFits v → Given W (At a) NoneYet s → Sends W s a (ret v) → K (deliver_awaiter_success s a v).store
  unfolding deliver_awaiter_success
  success_given s a v f vf k y = sends-value (λ u c w. climb_value (awaited_count s) u c w) (awaited_count s) (λ u c w. climbs-value (awaited_count s) u c w) s a v (omega arith) f vf k y

  sends-error : (go : Store → Awaiter → Error → Delivery) (n : ℕ)
      → ((s : Store) (a : Awaiter) (e : Error) → awaited_count s < n → AwaiterFits a → ErrorFits e → Given W (At a) NoneYet s → Sends W s a (err e) → K (go s a e).store)
      → (s : Store) (a : Awaiter) (e : Error) → awaited_count s ≤ n → AwaiterFits a → ErrorFits e → Given W (At a) NoneYet s → Sends W s a (err e) → K (send_error go s a e).store
  unfolding send_error nobody_woken
  sends-error go n h s Awaiter.Nobody e b f ef k y = given_less W s (λ t m q. q) k
  sends-error go n h s (Awaiter.Task t) e b f ef k y = to_task s t.0 (TaskState.Raised e) (err e) f ef (λ o p q. (o, p, q)) k y
  sends-error go n h s (Awaiter.GatherSlot g x) e b f ef k y =
      let r = fail_sent s g.0 e k.sized f.0 in
      let z : Onward (err e) (fail_gather s g.0 e) = fails s g.0 e f.0 ef (given_less W s (λ t m q. q) k) in
      climbs (λ u a. go u a e) _ _ z.stops (λ c q. h _ c e (omega (arith, r.falls c q, b)) (r.fits c q) ef (z.goes c q).0 (z.goes c q).1)

  climbs-error : (n : ℕ) (s : Store) (a : Awaiter) (e : Error) → awaited_count s < n → AwaiterFits a → ErrorFits e → Given W (At a) NoneYet s → Sends W s a (err e) → K (climb_error n s a e).store
  unfolding climb_error nobody_woken
  climbs-error zero s a e b f ef k y = absurd (not-suc-le-zero {n = 0} (omega (arith, b)))
  climbs-error (suc n) s a e b f ef k y = sends-error (λ u c w. climb_error n u c w) n (λ u c w. climbs-error n u c w) s a e (omega (arith, b)) f ef k y

  -- an error goes up
  pub failure_given : (s : Store) (a : Awaiter) (e : Error) → AwaiterFits a → ErrorFits e → Given W (At a) NoneYet s → Sends W s a (err e) → K (deliver_awaiter_failure s a e).store
  unfolding deliver_awaiter_failure
  failure_given s a e f ef k y = sends-error (λ u c w. climb_error (awaited_count s) u c w) (awaited_count s) (λ u c w. climbs-error (awaited_count s) u c w) s a e (omega arith) f ef k y

  -- ---- switches

  yields-left : (s : Store) → K s → Left W (yield s)
  unfolding yield
  yields-left s k = record { given = moved-given W s Moment.Waiting tt k; tells = tt }

  -- a task that was not blocked runs
  run-left : (s : Store) (t : ℕ) (h : How) → t < task_limit → ((o : ℕ) → W t ≡ some o → Came (fate o (object s o))) → blocked_on (task s t).state ≡ none → is_live (task s t).state ≡ true
      → TellsHow (W t) (λ o. fate o (object s o)) h → K s → Left W (run s t h)
  unfolding run
  run-left s t h l c b lv y k =
      record {
        given = moved-given W u (Moment.Running (task_id t)) l
            (state_given W NoneBut s t TaskState.Running l tt (λ n. c) (λ o e v. absurd (free o (k.holders o t e lv))) (λ v ne n e. e) k);
        tells = (tells-same (W t) _ _ h (λ o. ap (fate o) (rows o)) y, states);
      }
    where
      u : Store
      u = set_state s t TaskState.Running

      free : (o : ℕ) → (blocked_on (task s t).state ≡ some o) ⊎ ⊥ → ⊥
      free o (inl q) = absurd_some (sym b ∙ q)
      free o (inr q) = q

      rows : (o : ℕ) → object (set_moment u (Moment.Running (task_id t))) o ≡ object s o
      rows o = moment_row u (Moment.Running (task_id t)) o ∙ (unfold object set_state put_task in refl)

      r : Task
      r = restate (task s t) TaskState.Running

      fits : TaskFits r
      fits = unfold restate in (record { state_fits = tt; awaiter_fits = (task-fits s t).awaiter_fits; coroutine_fits = (task-fits s t).coroutine_fits })

      states : (task (set_moment u (Moment.Running (task_id t))) t).state ≡ TaskState.Running
      states = same ∙ (ap (λ (y : Task). y.state) (task_put-task s t r k.sized l fits) ∙ (unfold restate in refl))
        where
          same : (task (set_moment u (Moment.Running (task_id t))) t).state ≡ (task (put_task s t r) t).state
          same = unfold set_moment put_header set_state task in refl

  module _ (go : Store → ℕ → Switched) (h : (s : Store) (t : ℕ) → t < task_limit → K s → Left W (go s t)) where
    next-left : (s : Store) → K s → Left W (resume_next go s)
    unfolding resume_next
    next-left s k = pick_has (Left W) (eqb s.queue.len 0) (yields-left s k) (h (put_queue s (pop_front s.queue)) (front_of s.queue).0 (front_of-fits s.queue) (queue_given W s _ k))

    exit_left : (d : Delivery) → WokenFits d → K d.store → Left W (resume_after_task_exit go d)
    unfolding resume_after_task_exit remove_from_ready_queue
    exit_left d m k = by d.woken refl
      where
        by : (w : Option ℕ) → d.woken ≡ w → Left W (elim w [ none ↦ resume_next go d.store | some t ↦ go (remove_from_ready_queue d.store t) t ])
        by none e = next-left d.store k
        by (some t) e = h _ t (m.fits t e) (queue_given W d.store _ k)

    failure_left : (s : Store) (t : ℕ) (e : Error) → t < task_limit → ErrorFits e → K s → Left W (handle_task_failure go s t e)
    unfolding handle_task_failure
    failure_left s t e l ef k =
        let a : Awaiter = (task s t).awaiter in
        let f : AwaiterFits a = (task-fits s t).awaiter_fits in
        let w : WokenFits (deliver_awaiter_failure s a e) = failure_woken s a e k.sized f in
        exit_left _ (record { fits = w.fits })
        (gone-given W (deliver_awaiter_failure s a e).store t (exited t) (failure_given s a e f ef (given-at s a k) (no_task_sends W s a (err e) (k.slots t l))))

    start_left : (s : Store) (t : ℕ) → t < task_limit → (task s t).state ≡ TaskState.Unstarted → K s → Left W (start_task go s t)
    unfolding start_task start_by
    start_left s t l r k = by (new_function (object s o)) refl
      where
        o : ℕ
        o = (task s t).coroutine.0

        none-waits : W t ≡ none
        none-waits = subst (StateIs (W t) (λ p. fate p (object s p)) t) r (k.states t l (λ n. n))

        by : (m : Option ℕ) → new_function (object s o) ≡ m → Left W (start_by go s t o m)
        by none e = failure_left s t Error.CoroutineReuse l tt k
        by (some f) e =
            run-left u t (start o f) l (λ p q. absurd_some (sym none-waits ∙ q)) (ap blocked_on same ∙ (unfold blocked_on in refl)) (ap is_live same) tt
            (unwaited_given W s o x (task-fits s t).coroutine_fits tt (loose_unwaited W s o (ap (fate o) (new-object (object s o) f e) ∙ (unfold fate in refl)) k) (λ v q. not-held v (fate o x) (unfold fate in tt) q) k)
          where
            x : Object
            x = Object.Coroutine f CoroutineState.Running

            u : Store
            u = put_object s o x

            same : (task u t).state ≡ TaskState.Unstarted
            same = row_same ∙ r
              where
                row_same : (task u t).state ≡ (task s t).state
                row_same = unfold task put_object in refl

    state-left : (s : Store) (t : ℕ) (x : TaskState) → t < task_limit → (task s t).state ≡ x → K s → Left W (activate_state go s t x)
    unfolding activate_state
    state-left s t TaskState.Absent l e k = yields-left s k
    state-left s t TaskState.Unstarted l e k = start_left s t l e k
    state-left s t TaskState.Running l e k = yields-left s k
    state-left s t (TaskState.Woken v) l e k =
        let y : StateIs (W t) (λ p. fate p (object s p)) t (TaskState.Woken v) = subst (StateIs (W t) (λ p. fate p (object s p)) t) e (k.states t l (λ n. n)) in
        run-left s t (value v) l (λ p q. subst (λ (m : ℕ). Came (fate m (object s m))) (some-injective y.0 p (sym y.1 ∙ q)) (subst Came (sym y.2) tt)) (ap blocked_on e ∙ (unfold blocked_on in refl)) (ap is_live e) y k
    state-left s t (TaskState.Raised x) l e k =
        let y : StateIs (W t) (λ p. fate p (object s p)) t (TaskState.Raised x) = subst (StateIs (W t) (λ p. fate p (object s p)) t) e (k.states t l (λ n. n)) in
        run-left s t (raises x) l (λ p q. subst (λ (m : ℕ). Came (fate m (object s m))) (some-injective y.0 p (sym y.1 ∙ q)) (subst Came (sym y.2) tt)) (ap blocked_on e ∙ (unfold blocked_on in refl)) (ap is_live e) y k
    state-left s t (TaskState.Blocked o) l e k = yields-left s k

  within_left : (m : ℕ) (s : Store) (t : ℕ) → t < task_limit → K s → Left W (activate_within m s t)
  unfolding activate_within
  within_left zero s t l k = yields-left s k
  within_left (suc m) s t l k = state-left (λ x u. activate_within m x u) (λ x u. within_left m x u) s t (task s t).state l refl k

  pub activate-left : (s : Store) (t : ℕ) → t < task_limit → K s → Left W (activate s t)
  unfolding activate
  activate-left s t l k = within_left (live_count s) s t l k

  pub resume-left : (s : Store) → K s → Left W (resume_next activate s)
  resume-left s k = next-left activate activate-left s k

  pub fail-left : (s : Store) (t : ℕ) (e : Error) → t < task_limit → ErrorFits e → K s → Left W (handle_task_failure activate s t e)
  fail-left s t e l f k = failure_left activate activate-left s t e l f k

  pub completion_left : (left : Store) (a : Awaiter) (v : Value) → AwaiterFits a → ValueFits v → NoTask a → K left → Left W (resume_after_task_exit activate (deliver_awaiter_success left a v))
  completion_left left a v f vf n k =
      exit_left activate activate-left _ (success_woken left a v k.sized f) (success_given left a v f vf (given-at left a k) (no_task_sends W left a (ret v) n))

  -- ---- cancel and the end

  abbrev WalkKept : Walk → Type 0
  WalkKept w = K w.store

  reach-kept : (w : Walk) (g : ℕ) → WalkKept w → WalkKept (reach w g)
  unfolding reach
  reach-kept w g k = by (is_some (as_awaited (object w.store g)) && not (get_or w.marks g false))
    where
      by : (b : Bool) → WalkKept (reach_if w g b)
      by true = unfold reach_if in k
      by false = unfold reach_if in k

  removes : (w : Walk) (t : ℕ) (b : Option ℕ) → WalkKept w → WalkKept (remove_blocked w t b)
  unfolding remove_blocked cancel_one
  removes w t none k = gone-given W w.store t (removed t) k
  removes w t (some b) k = reach-kept _ b (gone-given W w.store t (removed t) k)

  visits : (w : Walk) (o : ℕ) (d : Option ℕ) → WalkKept w → WalkKept (visit_by w o d)
  unfolding visit_by
  visits w o none k = reach-kept w o k
  visits w o (some t) k = removes w t _ k

  visits-open : (m : ℕ) (w : Walk) (a : AwaitedGather) (j : ℕ) → WalkKept w → WalkKept (visit_open w a j m)
  unfolding visit_open visit_place visit
  visits-open zero w a j k = k
  visits-open (suc m) w a j k = visits-open m _ a (j + 1) (pick_has WalkKept (bit a.open_places j) (visits w _ _ k) k)

  walk-gather-kept : (w : Walk) (a : Option AwaitedGather) → WalkKept w → WalkKept (walk_gather w a)
  unfolding walk_gather
  walk-gather-kept w none k = k
  walk-gather-kept w (some a) k = visits-open a.count w a 0 k

  walk-next-kept : (go : Walk → Store) → ((w : Walk) → WalkKept w → K (go w)) → (w : Walk) (gs : List ℕ) → WalkKept w → K (walk_next go w gs)
  unfolding walk_next
  walk-next-kept go h w [] k = k
  walk-next-kept go h w (g ∷ gs) k = h _ (walk-gather-kept _ _ k)

  walk_kept : (m : ℕ) (w : Walk) → WalkKept w → K (walk m w)
  unfolding walk
  walk_kept zero w k = k
  walk_kept (suc m) w k = walk-next-kept (λ x. walk m x) (λ x y. walk_kept m x y) w w.stack k

  pub cancel-given : (s : Store) (t : ℕ) → K s → K (cancel_task s t)
  unfolding cancel_task walk_from
  cancel-given s t k = walk_kept object_limit _ (removes _ t _ k)

  remove-from-kept : (m : ℕ) (s : Store) (t : ℕ) → K s → K (remove_from s t m)
  unfolding remove_from
  remove-from-kept zero s t k = k
  remove-from-kept (suc m) s t k = remove-from-kept m _ (t + 1) (pick_has K (is_live (task s t).state) (log-given W _ (removed t) (absent-given W s t k)) k)

  pub cleanup-given : (s : Store) → K s → K (cleanup s)
  unfolding cleanup
  cleanup-given s k = moved-given W _ Moment.Ended tt (queue_given W _ empty_queue (remove-from-kept (header s).next s 0 k))
