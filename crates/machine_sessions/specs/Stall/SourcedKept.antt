-- Every event but cancel keeps `Sourced` until the end.
use Rattle.std.specs.Prelude.{◌≡◌, Bool, false, ◌||◌, eqb}
use Rattle.std.proofs.Math.Path.{refl, ap, subst}
use Rattle.std.proofs.Common.{sym, ◌∙◌, true≢false, arith, eqb-true, ne_eqb, ltb-false}
use Rattle.std.proofs.Math.Bool.{true}
use mathlib.Core.List.{List, [], ◌∷◌}
use Rattle.std.proofs.Math.Option.{Option, none, some}
use Prim.Native.Nat.{ℕ, zero, suc, ◌+◌, ◌≤◌, ◌<◌}
use Rattle.std.proofs.Math.Nat.{not-suc-le-zero}
use Rattle.std.proofs.Math.Decide.{ℕ_discrete, dec_lt}
use Rattle.std.proofs.Math.Dec.{T, ltb}
use Rattle.std.proofs.Math.ListN.{length}
use Rattle.asyncio.specs.declared.CallId.{CallId}
use Rattle.asyncio.specs.declared.Value.{Value}
use Rattle.asyncio.specs.declared.Error.{Error}
use Rattle.std.specs.Prelude.{None}
use Rattle.asyncio.specs.declared.TaskState.{TaskState}
use Rattle.asyncio.specs.declared.Task.{Task}
use Rattle.asyncio.specs.declared.Place.{Place}
use Rattle.asyncio.specs.declared.Awaiter.{Awaiter}
use Rattle.asyncio.specs.declared.CoroutineState.{CoroutineState}
use Rattle.asyncio.specs.declared.ExternalFutureState.{ExternalFutureState}
use Rattle.asyncio.specs.declared.GatherState.{GatherState}
use Rattle.asyncio.specs.declared.Object.{Object}
use Rattle.asyncio.specs.declared.Moment.{Moment}
use Rattle.asyncio.specs.declared.Header.{Header}
use Rattle.asyncio.specs.Limits.{object_limit, task_limit, item_limit, place_limit, call_limit, u32_limit}
use Rattle.asyncio.specs.Numbers.{heap_id, task_id, call_id}
use Rattle.asyncio.specs.Ranges.{ObjectFits, HeaderFits}
use Rattle.asyncio.specs.RangeLaws.{pick_has}
use Rattle.asyncio.specs.Layout.{object_words, to_object}
use Rattle.asyncio.specs.States.{pick, is_live}
use Rattle.asyncio.specs.Kinds.{kind, is_completed}
use Rattle.machine.specs.Store.{Store, view, task, object, place, header, put_object, put_place, put_header, put_queue, add_log, set_state, set_calls, add_object, blocked}
use Rattle.machine.specs.Scheduler.{AwaitedGather, PendingExternal, as_awaited, as_pending, live, spawn_as}
use Rattle.machine.specs.Commit.{Poll, ready, raised, pending, await_external, await_pending, commit_gather_tree}
use Rattle.machine.specs.Events.{activate, resume_next, stays, go_on, await_coroutine, await_external_future, await_gather, await_object, exec_get_awaitable, make_coroutine, make_pending, make_settled, put_items, make_gather, wake_in_order, apply_future_results}
use Rattle.machine.specs.Machine.{Event, Step, switched, answer_await, end_main, task_completes, task_fails, runner, resume_with_resolved_futures, refusals, refusal, full, no_number, accept}
use Rattle.machine.specs.Sound.{is_ended, value_known}
use Rattle.machine.specs.History.{says, nothing_said}
use Rattle.machine_laws.specs.Views.{Sized}
use Rattle.machine_laws.specs.Facts.{Open, Nothing}
use Rattle.machine_laws.specs.StoreLaws.{header-fits, header_put-header, header_put-object, object_put-object, object_put-other, object_put-header, place_put-other, object-fits, sized-put_object, sized-put_place, sized-put_header, sized-set_calls}
use Rattle.machine_laws.specs.DeliveryLaws.{absurd_some, awaited-object}
use Rattle.machine_laws.specs.SizedLaws.{sized_commit, sized-spawn_as}
use Rattle.machine_laws.specs.MakingLaws.{items-sized}
use Rattle.machine_laws.specs.SoundLaws.{pass, running-rest, refusal-rest, has_number, not_full}
use Rattle.machine_laws.specs.TestLaws.{or_left, or_right}
use Rattle.machine_theorems.specs.Soundness.Stores.{idle, SoundDuring, SoundStore, during_of}
use Rattle.machine_theorems.specs.Soundness.Exits.{runner_low, runner-runs, only_changes_of}
use Rattle.machine_theorems.specs.Soundness.Deliver.{open_lower}
use Rattle.machine_theorems.specs.Soundness.Await.{wait_external}
use Rattle.machine_theorems.specs.Soundness.AwaitGather.{EndOk, waits_blocks, commit_keeps}
use Rattle.machine_theorems.specs.Panics.NoPanicLaws.{place-used}
use Rattle.machine_theorems.specs.Soundness.Preserved.{running, waiting, await-made, complete-known, results_apply}
use Rattle.machine.specs.Sessions.{InRange}
use Rattle.machine_theorems.specs.Soundness.RowFacts.{items-header}
use Rattle.machine_laws.specs.Walk.{Commits, commit_kept}
use Rattle.machine_sessions.specs.Queue.Tracked.{live_like, live-is, live_low, live-other, place-live, spawn-row, spawn-next}
use Rattle.machine_sessions.specs.Waits.Calls.{read_back}
use Rattle.machine_sessions.specs.Stall.StandingEvents.{MainEnds}
use Rattle.machine_sessions.specs.Stall.NoStall.{Source, by_external, by_gather, by_nobody, by_task, Roots, root, above, Sourced, sourced_like}
use Rattle.machine_sessions.specs.Stall.SourcedPlan.{SourcedBut, but_of, all_of, but_same}
use Rattle.machine_sessions.specs.Stall.SourcedCycle.{plain_sourced, next_sourced, activate_sourced, queue_sourced}
use Rattle.machine_sessions.specs.Stall.SourcedCommit.{commit_sourced}
use Rattle.machine_sessions.specs.Stall.SourcedEvents.{results_sourced, failed_sourced, complete_sourced, takes_sourced, blocks_sourced}

-- ---- the running task lives through a commit

abbrev Lives : ℕ → Store → Type 0
Lives t s = Sized s × (live s t ≡ true)

lives_commits : (t : ℕ) → Commits (Lives t)
lives_commits t =
    record {
      row = λ s o x low y k. (sized-put_object s o x k.0, live_like s (put_object s o x) t (ap (λ (h : Header). h.next) (header_put-object s o x)) (unfold task put_object in refl) ∙ k.1);
      value_put = λ s p v k. (sized-put_place s p _ k.0, place-live s p _ t ∙ k.1);
      spawns = λ s c g low k. (sized-spawn_as s (header s).next c g k.0, stays-live s c g low k.0 k.1);
    }
  where
    stays-live : (s : Store) (c g : ℕ) → (header s).next < task_limit → Sized s → live s t ≡ true → live (spawn_as s (header s).next c g) t ≡ true
    stays-live s c g low z e =
        let ne : t ≡ (header s).next → ⊥ = λ q. not-suc-le-zero {n = 0} (omega (arith, (live_low s t e).0)) in
        live-other s (spawn_as s (header s).next c g) t (header s).next (spawn-next s (header s).next c g z low) refl ne (ap (λ (r : Task). is_live r.state) (spawn-row s (header s).next c g t ne)) ∙ e

-- ---- await

module _ (G : ℕ → Type 0) (s : Store) (h : SoundStore s) (k : Sourced G s) (t : ℕ) (m : (header s).moment ≡ Moment.Running (task_id t)) where
  t-low : t < task_limit
  t-low = omega (arith, runner_low s t h m, (header-fits s).next_fits)

  t-live : live s t ≡ true
  t-live = live-is s t (runner_low s t h m) (ap is_live (runner-runs s t h m))

  go-on-sourced : (o n : ℕ) → o < object_limit → (x : Store) (p : Poll) → EndOk o t x p → Sized x → live x t ≡ true → Sourced G x → Sourced G (go_on t o n x p).store
  unfolding go_on stays
  go-on-sourced o n l x (ready v) e z lv c = c
  go-on-sourced o n l x (raised v) e z lv c = c
  go-on-sourced o n l x pending e z lv c =
      next_sourced _ Nothing (header x) activate (activate_sourced _ Nothing (header x)) _ (waits_blocks o t x e) (blocks_sourced x t o z t-low l (live_low x t lv).1 c)

  external-sourced3 : (o : ℕ) (d : CallId) (x : ExternalFutureState) → o < (header s).made → object s o ≡ Object.ExternalFuture d x → Sourced G (await_external_future s t o d x).store
  unfolding await_external_future await_external await_pending go_on stays
  external-sourced3 o d (ExternalFutureState.Pending Awaiter.Nobody r) l e =
      let y : Object = Object.ExternalFuture d (ExternalFutureState.Pending (Awaiter.Task (task_id t)) r) in
      let p : PendingExternal = record { call = d; awaiter = Awaiter.Nobody; stored = r } in
      let q : as_pending (object s o) ≡ some p = ap as_pending e ∙ (unfold as_pending in refl) in
      let low : o < object_limit = omega (arith, l, (header-fits s).made_fits) in
      let f : ObjectFits (Object.ExternalFuture d (ExternalFutureState.Pending Awaiter.Nobody r)) = subst ObjectFits e (object-fits s o) in
      let k1 : Sourced G (put_object s o y) = takes_sourced s o p y h.memory.sized low (f.0, (t-low, f.1.1)) q refl (unfold as_awaited in refl) k in
      next_sourced _ (λ i. T (is_completed (kind (object s i)))) (header s) activate (activate_sourced _ (λ i. T (is_completed (kind (object s i)))) (header s)) _
      (wait_external s t h m o p l q refl) (blocks_sourced (put_object s o y) t o (sized-put_object s o y h.memory.sized) t-low low (row-live o y) k1)
    where
      row-live : (o : ℕ) (y : Object) → is_live (task (put_object s o y) t).state ≡ true
      row-live o y = same o y ∙ ap is_live (runner-runs s t h m)
        where
          same : (o : ℕ) (y : Object) → is_live (task (put_object s o y) t).state ≡ is_live (task s t).state
          same o y = unfold task put_object in refl
  external-sourced3 o d (ExternalFutureState.Pending (Awaiter.Task u) r) l e = k
  external-sourced3 o d (ExternalFutureState.Pending (Awaiter.GatherSlot g y) r) l e = k
  external-sourced3 o d (ExternalFutureState.Resolved v) l e = k
  external-sourced3 o d (ExternalFutureState.Failed v) l e = k

  gather-sourced : (o f n : ℕ) (x : GatherState) → o < (header s).made → object s o ≡ Object.GatherFuture f n x → Sourced G (await_gather s t o x).store
  unfolding await_gather stays
  gather-sourced o f n GatherState.Pending l e =
      let low : o < object_limit = omega (arith, l, (header-fits s).made_fits) in
      let x : Store = (commit_gather_tree s o (Awaiter.Task (task_id t))).store in
      let lv : Lives t x = commit_kept (Lives t) (lives_commits t) s o (Awaiter.Task (task_id t)) low (h.memory.sized, t-live) in
      go-on-sourced o _ low x (commit_gather_tree s o (Awaiter.Task (task_id t))).poll (commit_keeps s t h m o f n l e) lv.0 lv.1 (commit_sourced s t o f n h m l e k)
  gather-sourced o f n (GatherState.Awaited a j) l e = k
  gather-sourced o f n GatherState.Completed l e = k
  gather-sourced o f n (GatherState.Failed x) l e = k

  coroutine-sourced : (o f : ℕ) (x : CoroutineState) → o < (header s).made → object s o ≡ Object.Coroutine f x → Sourced G (await_coroutine s t o f x).store
  unfolding await_coroutine stays
  coroutine-sourced o f CoroutineState.New l e =
      plain_sourced s o (Object.Coroutine f CoroutineState.Running) h.memory.sized (omega (arith, l, (header-fits s).made_fits)) (subst ObjectFits e (object-fits s o))
      (ap as_pending e ∙ (unfold as_pending in refl)) (ap as_awaited e ∙ (unfold as_awaited in refl)) (unfold as_awaited in refl) k
  coroutine-sourced o f CoroutineState.Running l e = k
  coroutine-sourced o f CoroutineState.Completed l e = k

  await-sourced : (o : ℕ) → o < (header s).made → Sourced G (exec_get_awaitable s t o).store
  unfolding exec_get_awaitable await_object
  await-sourced o l = by (object s o) refl
    where
      by : (x : Object) → object s o ≡ x → Sourced G (await_object s t o x).store
      by Object.Unmade e = k
      by (Object.Coroutine f x) e = coroutine-sourced o f x l e
      by (Object.ExternalFuture d x) e = external-sourced3 o d x l e
      by (Object.GatherFuture f n x) e = gather-sourced o f n x l e

-- ---- an object is made

made_sourced : {G : ℕ → Type 0} (s u : Store) → SoundStore s → (header u).made ≡ suc (header s).made → (header u).next ≡ (header s).next → ((o : ℕ) → o < (header s).made → object u o ≡ object s o)
    → as_awaited (object u (header s).made) ≡ none → ((t : ℕ) → task u t ≡ task s t) → ((p : ℕ) → p < (header s).used → place u p ≡ place s p)
    → ((o : ℕ) → (header s).made < o → as_awaited (object u o) ≡ as_awaited (object s o)) → Sourced G s → Sourced G u
unfolding view
made_sourced {G} s u h made next rows new tasks places behind k =
    record {
      sources = λ g o w l e op.
          let gl : g < (header s).made = low g w (subst (λ (n : ℕ). g < n) made l) e in
          let e1 : as_awaited (object s g) ≡ some w = sym (ap as_awaited (rows g gl)) ∙ e in
          let pu : w.first + op.at < (header s).used = place-used h.facts.but g w.first w.count (GatherState.Awaited w.awaiter w.open_places) gl (awaited-object (object s g) w e1) op.at op.under in
          let op1 : Open (place s) w o = record { at = op.at; under = op.under; is_open = op.is_open; names = sym (ap (λ (p : Place). p.item.0) (places (w.first + op.at) pu)) ∙ op.names } in
          still g o (omega (arith, open_lower g w o h.facts.but gl e1 op1, gl)) (k.sources g o w gl e1 op1);
      rising = λ v g x t l lv a r.
          k.rising v g x t (subst (λ (n : ℕ). v < n) next l) (sym (ap (λ (y : Task). is_live y.state) (tasks v)) ∙ lv) (sym (ap (λ (y : Task). y.awaiter) (tasks v)) ∙ a) (roots-was r);
    }
  where
    low : (g : ℕ) (w : AwaitedGather) → g < suc (header s).made → as_awaited (object u g) ≡ some w → g < (header s).made
    low g w l e = by (ℕ_discrete g (header s).made)
      where
        by : Dec (g ≡ (header s).made) → g < (header s).made
        by (yes q) = absurd_some (sym new ∙ subst (λ (m : ℕ). as_awaited (object u m) ≡ some w) q e)
        by (no ne) = omega (arith, l)

    was : (g : ℕ) (w : AwaitedGather) → as_awaited (object u g) ≡ some w → as_awaited (object s g) ≡ some w
    was g w e = by (ℕ_discrete g (header s).made) (dec_lt g (header s).made)
      where
        by : Dec (g ≡ (header s).made) → Dec (g < (header s).made) → as_awaited (object s g) ≡ some w
        by (yes q) d = absurd_some (sym new ∙ subst (λ (m : ℕ). as_awaited (object u m) ≡ some w) q e)
        by (no ne) (yes l) = sym (ap as_awaited (rows g l)) ∙ e
        by (no ne) (no nl) = sym (behind g (omega arith)) ∙ e

    roots-was : {g t : ℕ} → Roots u g t → Roots s g t
    roots-was (root g t w e a) = root g t w (was g w e) a
    roots-was (above g t p x w e a r) = above g t p x w (was g w e) a (roots-was r)

    still : (g o : ℕ) → o < (header s).made → Source G s g o → Source G u g o
    still g o l (by_external p e a) = by_external p (ap as_pending (rows o l) ∙ e) a
    still g o l (by_gather w e a) = by_gather w (ap as_awaited (rows o l) ∙ e) a
    still g o l (by_nobody j) = by_nobody j
    still g o l (by_task t m lv a) = by_task t (subst (λ (n : ℕ). t < n) (sym next) m) (ap (λ (y : Task). is_live y.state) (tasks t) ∙ lv) (ap (λ (y : Task). y.awaiter) (tasks t) ∙ a)

-- what `add_object` leaves
record Added (s u : Store) (r : Object) : Type 0 where
  made : (header u).made ≡ suc (header s).made
  next : (header u).next ≡ (header s).next
  row : object u (header s).made ≡ to_object (object_words r)
  other : (o : ℕ) → (o ≡ (header s).made → ⊥) → object u o ≡ object s o
  tasks : (t : ℕ) → task u t ≡ task s t
  places : (p : ℕ) → place u p ≡ place s p

added : (s : Store) (r : Object) (n : ℕ) → Sized s → (header s).made < object_limit → (header s).used + n ≤ place_limit → Added s (add_object s r n) r
unfolding add_object
added s r n z m u =
    record {
      made = ap (λ (h : Header). h.made) head ∙ omega arith;
      next = ap (λ (h : Header). h.next) head;
      row = read_back (put_header s i) (header s).made r (sized-put_header s i z) m;
      other = λ o ne. object_put-other (put_header s i) (header s).made o r ne ∙ object_put-header s i o;
      tasks = λ t. unfold task put_object put_header in refl;
      places = λ p. unfold place put_object put_header in refl;
    }
  where
    i : Header
    i = record { made = (header s).made + 1; used = (header s).used + n; calls = (header s).calls; next = (header s).next; moment = (header s).moment }

    head : header (put_object (put_header s i) (header s).made r) ≡ i
    head =
        let f : HeaderFits (header s) = header-fits s in
        header_put-object (put_header s i) (header s).made r
        ∙ header_put-header s i z (record { made_fits = omega arith; used_fits = u; calls_fit = f.calls_fit; next_fits = f.next_fits; moment_fits = f.moment_fits })

added_sourced : {G : ℕ → Type 0} (s u : Store) (r : Object) → SoundStore s → Added s u r → as_awaited (to_object (object_words r)) ≡ none → Sourced G s → Sourced G u
added_sourced s u r h a n k =
    made_sourced s u h a.made a.next (λ o l. a.other o (λ q. not-suc-le-zero {n = 0} (omega (arith, l)))) (ap as_awaited a.row ∙ n) a.tasks (λ p l. a.places p)
    (λ o l. ap as_awaited (a.other o (λ q. not-suc-le-zero {n = 0} (omega (arith, l))))) k

items-places : (os : List ℕ) (s : Store) (p q : ℕ) → q < p → place (put_items s p os) q ≡ place s q
unfolding put_items
items-places [] s p q l = refl
items-places (o ∷ os) s p q l = items-places os (put_place s p _) (p + 1) q (omega arith) ∙ place_put-other s p q _ (λ e. not-suc-le-zero {n = 0} (omega (arith, l)))

pub items-objects : (os : List ℕ) (s : Store) (p q : ℕ) → object (put_items s p os) q ≡ object s q
unfolding put_items object put_place
items-objects [] s p q = refl
items-objects (o ∷ os) s p q = items-objects os (put_place s p (record { item = heap_id o; result = None })) (p + 1) q

items_rows3 : (os : List ℕ) (s : Store) (p t : ℕ) → task (put_items s p os) t ≡ task s t
unfolding put_items task put_place
items_rows3 [] s p t = refl
items_rows3 (o ∷ os) s p t = items_rows3 os (put_place s p (record { item = heap_id o; result = None })) (p + 1) t

module _ (G : ℕ → Type 0) (s : Store) (h : SoundStore s) (k : Sourced G s) where
  z : Sized s
  z = h.memory.sized

  same_places : (header s).used + 0 ≤ place_limit
  same_places = omega (arith, (header-fits s).used_fits)

  calls-sourced : (header s).calls < call_limit → (Sourced G (set_calls s ((header s).calls + 1))) × (header (set_calls s ((header s).calls + 1)) ≡ record { made = (header s).made; used = (header s).used; calls = (header s).calls + 1; next = (header s).next; moment = (header s).moment })
  calls-sourced c = (
    all_of _ (but_same _ s (set_calls s ((header s).calls + 1)) (λ o. rows o) (λ t. unfold task set_calls put_header in refl) (λ t. unfold task set_calls put_header in refl)
        (λ p. unfold place set_calls put_header in refl) (ap (λ (y : Header). y.made) head) (ap (λ (y : Header). y.next) head) (but_of s k)),
    head,
  )
    where
      rows : (o : ℕ) → object (set_calls s ((header s).calls + 1)) o ≡ object s o
      rows o = unfold set_calls in (object_put-header s _ o)

      head : header (set_calls s ((header s).calls + 1)) ≡ record { made = (header s).made; used = (header s).used; calls = (header s).calls + 1; next = (header s).next; moment = (header s).moment }
      head =
          let f : HeaderFits (header s) = header-fits s in
          unfold set_calls in (header_put-header s _ z (record { made_fits = f.made_fits; used_fits = f.used_fits; calls_fit = omega arith; next_fits = f.next_fits; moment_fits = f.moment_fits }))

  settled-sourced : (v : Value) → (header s).calls < call_limit → (header s).made < object_limit → Sourced G (make_settled s v)
  unfolding make_settled
  settled-sourced v c m =
      let hd = (calls-sourced c).1 in
      let s1 : Store = set_calls s ((header s).calls + 1) in
      let r : Object = Object.ExternalFuture (call_id (header s).calls) (ExternalFutureState.Resolved v) in
      let a : Added s1 (add_object s1 r 0) r = added s1 r 0 (sized-set_calls s _ z) (subst (λ (y : Header). y.made < object_limit) (sym hd) m) (subst (λ (y : Header). y.used + 0 ≤ place_limit) (sym hd) same_places) in
      added_sourced s (add_object s1 r 0) r h
      (record {
        made = a.made ∙ ap (λ (y : Header). suc y.made) hd;
        next = a.next ∙ ap (λ (y : Header). y.next) hd;
        row = subst (λ (m : ℕ). object (add_object s1 r 0) m ≡ to_object (object_words r)) (ap (λ (y : Header). y.made) hd) a.row;
        other = λ o ne. a.other o (λ q. ne (q ∙ ap (λ (y : Header). y.made) hd)) ∙ rows o;
        tasks = λ t. a.tasks t ∙ (unfold task set_calls put_header in refl);
        places = λ p. a.places p ∙ (unfold place set_calls put_header in refl);
      }) (unfold as_awaited in refl) k
    where
      rows : (o : ℕ) → object (set_calls s ((header s).calls + 1)) o ≡ object s o
      rows o = unfold set_calls in (object_put-header s _ o)

  gather-made : (os : List ℕ) → (header s).made < object_limit → (header s).used + length os ≤ place_limit → Sourced G (make_gather s os)
  unfolding make_gather
  gather-made os m u =
      let s1 : Store = put_items s (header s).used os in
      let hd : header s1 ≡ header s = items-header os s (header s).used in
      let r : Object = Object.GatherFuture (header s).used (length os) GatherState.Pending in
      let a : Added s1 (add_object s1 r (length os)) r =
      added s1 r (length os) (items-sized os s (header s).used z) (subst (λ (y : Header). y.made < object_limit) (sym hd) m) (subst (λ (y : Header). y.used + length os ≤ place_limit) (sym hd) u) in
      made_sourced s (add_object s1 r (length os)) h (a.made ∙ ap (λ (y : Header). suc y.made) hd) (a.next ∙ ap (λ (y : Header). y.next) hd)
      (λ o l. a.other o (λ q. not-suc-le-zero {n = 0} (omega (arith, l, ap (λ (y : Header). y.made) hd))) ∙ items-objects os s (header s).used o)
      (ap as_awaited (subst (λ (i : ℕ). object (add_object s1 r (length os)) i ≡ to_object (object_words r)) (ap (λ (y : Header). y.made) hd) a.row) ∙ (unfold as_awaited in refl))
      (λ t. a.tasks t ∙ items_rows3 os s (header s).used t) (λ p l. a.places p ∙ items-places os s (header s).used p l)
      (λ o l. ap as_awaited (a.other o (λ q. not-suc-le-zero {n = 0} (omega (arith, l, ap (λ (y : Header). y.made) hd))) ∙ items-objects os s (header s).used o)) k

  -- ---- each event

  complete-step : (t : ℕ) (v : Value) → (header s).moment ≡ Moment.Running (task_id t) → T (value_known (header s).made (object s) v) → (t ≡ 0 → ⊥)
      → Sourced G (task_completes s t v).store
  unfolding task_completes end_main switched
  complete-step zero v m kn on = absurd (on refl)
  complete-step (suc t) v m kn on = rw (ne_eqb (suc t) 0 (λ e. not-suc-le-zero {n = 0} (omega arith))) (complete_sourced _ s h k t v m kn)

  fail-step : (t n : ℕ) → (header s).moment ≡ Moment.Running (task_id t) → n < u32_limit → (t ≡ 0 → ⊥)
      → Sourced G (task_fails s t (Error.Script n)).store
  unfolding task_fails end_main switched
  fail-step zero n m f on = absurd (on refl)
  fail-step (suc t) n m f on = rw (ne_eqb (suc t) 0 (λ e. not-suc-le-zero {n = 0} (omega arith))) (failed_sourced _ s h k t (Error.Script n) m f)

  resume-step3 : (header s).moment ≡ Moment.Waiting → Sourced G (resume_with_resolved_futures s).store
  unfolding resume_with_resolved_futures switched
  resume-step3 m =
      pick_has (λ (x : Step). Sourced G x.store) (eqb s.queue.len 0) k
      (next_sourced _ (λ i. T (is_completed (kind (object s i)))) (header s) activate (activate_sourced _ (λ i. T (is_completed (kind (object s i)))) (header s)) s (only_changes_of s h m) k)

  pub accept_sourced : (e : Event) → InRange e → (says e).cancels ≡ false → refusal s e ≡ 0 → (MainEnds s e → ⊥) → Sourced G (accept s e).store
  unfolding accept refusals make_coroutine make_pending InRange says nothing_said answer_await MainEnds
  accept_sourced (Event.coroutine f) i n r on =
      added_sourced s _ (Object.Coroutine f CoroutineState.New) h (added s (Object.Coroutine f CoroutineState.New) 0 z (not_full s (pass 6 (full s) [] (running-rest s _ (refusal-rest s (Event.coroutine f) r))).0) same_places) (unfold as_awaited in refl) k
  accept_sourced Event.call i n r on = (calls-sourced (has_number s (pass 7 (no_number s) [] (running-rest s _ (refusal-rest s Event.call r))).0)).0
  accept_sourced (Event.pending d x) i n r on =
      added_sourced s _ (Object.ExternalFuture (call_id d) (ExternalFutureState.Pending Awaiter.Nobody x)) h
      (added s (Object.ExternalFuture (call_id d) (ExternalFutureState.Pending Awaiter.Nobody x)) 0 z (not_full s (pass 6 (full s) [] (pass 5 _ _ (pass 4 _ _ (running-rest s _ (refusal-rest s (Event.pending d x) r))).1).1).0) same_places)
      (unfold as_awaited in refl) k
  accept_sourced (Event.settled v) i n r on =
      let q = pass 6 (full s) _ (pass 4 _ _ (running-rest s _ (refusal-rest s (Event.settled v) r))).1 in
      settled-sourced v (has_number s (pass 7 (no_number s) [] q.1).0) (not_full s q.0)
  accept_sourced (Event.gather os) i n r on =
      let q = (pass 6 (full s || ltb item_limit (length os) || ltb place_limit ((header s).used + length os)) [] (pass 4 _ _ (running-rest s _ (refusal-rest s (Event.gather os) r))).1).0 in
      gather-made os (not_full s (or_left (full s) (ltb item_limit (length os)) (or_left (full s || ltb item_limit (length os)) (ltb place_limit ((header s).used + length os)) q)))
      (ltb-false place_limit ((header s).used + length os) (or_right (full s || ltb item_limit (length os)) (ltb place_limit ((header s).used + length os)) q))
  accept_sourced (Event.await o) i n r on = let q = refusal-rest s (Event.await o) r in await-sourced _ s h k (runner (header s).moment) (running s h _ q) o (await-made s h o q)
  accept_sourced (Event.complete v) i n r on = let q = refusal-rest s (Event.complete v) r in complete-step (runner (header s).moment) v (running s h _ q) (complete-known s h v q) on
  accept_sourced (Event.fail m) i n r on = fail-step (runner (header s).moment) m (running s h _ (refusal-rest s (Event.fail m) r)) i on
  accept_sourced (Event.results rs) i n r on =
      unfold wake_in_order in (queue_sourced (apply_future_results s rs) _ (results_sourced rs s (results_apply s h rs (refusal-rest s (Event.results rs) r)) (during_of s h) k))
  accept_sourced Event.resume i n r on = resume-step3 (waiting s h [] (refusal-rest s Event.resume r)).0
  accept_sourced (Event.cancel t) i n r on = absurd (true≢false n)
  accept_sourced (Event.show o) i n r on = k
  accept_sourced Event.eager i n r on = k
