-- The ways through each event, in the shape of what the code knows there.
use Rattle.std.specs.Prelude.{◌≡◌, Bool, false, not, ◌||◌, eqb, leb, length, None, Some, Result, Ok, Err, IsErrAnd}
use Rattle.std.proofs.Math.Path.{refl, sym, ap}
use Rattle.std.proofs.Common.{subst, ◌∙◌, true≢false, arith, eq-eqb, ne_eqb, le-leb, leb-false, lt-ltb, le-ltb, ltb-true, ltb-false}
use Rattle.std.proofs.Math.Bool.{true}
use mathlib.Core.List.{List, [], ◌∷◌}
use Rattle.std.proofs.Math.Option.{Option, none, some}
use Prim.Native.Nat.{ℕ, zero, suc, ◌+◌, ◌-◌, ◌/◌, ◌≤◌, ◌<◌}
use Rattle.std.proofs.Math.Dec.{ltb}
use Rattle.std.proofs.lemmas.Bool.{lt-leb}
use Rattle.asyncio.specs.Limits.{object_limit, item_limit, place_limit, call_limit, result_limit, task_limit}
use Rattle.asyncio.specs.Ranges.{HeaderFits, MomentFits}
use Rattle.asyncio.specs.declared.CallId.{CallId}
use Rattle.asyncio.specs.declared.HeapId.{HeapId}
use Rattle.asyncio.specs.declared.TaskId.{TaskId}
use Rattle.asyncio.specs.declared.Value.{Value}
use Rattle.asyncio.specs.declared.Error.{Error}
use Rattle.asyncio.specs.Options.{OptionValue}
use Rattle.asyncio.specs.declared.Moment.{Moment}
use Rattle.asyncio.specs.declared.Header.{Header}
use Rattle.asyncio.specs.declared.TaskState.{TaskState}
use Rattle.asyncio.specs.States.{pick, is_live}
use Rattle.rows.specs.Tables.{task_at, object_at, header_at}
use Rattle.rows.specs.TableLaws.{header_at-fits}
use Rattle.queue.specs.declared.ReadyQueue.{ReadyQueue}
use Rattle.scheduler.specs.Search.{FoundObject}
use Rattle.scheduler.specs.Search.{found_object}
use Rattle.scheduler.specs.SearchLaws.{object-found, no_object}
use Rattle.machine.specs.Store.{Store, LogEntry, store_of, task, object, header, set_calls}
use Rattle.machine.specs.Scheduler.{is_some, pending_external_in, pending_external, live, cancel_task}
use Rattle.machine.specs.Sound.{is_ended, value_known, option_known}
use Rattle.machine.specs.Events as machine-events
use Rattle.machine.specs.Events.{Awaited, make_coroutine, make_pending, make_settled, make_gather, exec_get_awaitable, apply_future_results, wake_in_order}
use Rattle.machine.specs.Machine as machine
use Rattle.machine.specs.Machine.{Event, Step, is_run, any_of, unmade, result_unknown, bad_result, full, no_number, in_running, in_waiting, in_both, first_refusal, refusals, accept, entries_lost, runner, answer_await, task_completes, task_fails, resume_with_resolved_futures}
use Rattle.machine_laws.specs.RemovalCounts.{cancel_shortens, cancel_loses_few}
use Rattle.exec_switch.specs.Control.{awaited_of}
use Rattle.exec_switch.specs.Answer.{answer_or, stepped_of}
use Rattle.exec_switch.specs.LogLaws.{same_step}
use Rattle.exec_futures.specs.Results.{results_from, results_in}
use Rattle.exec_switch.specs.declared.control.Control.{Control}
use Rattle.exec_switch.specs.Refusal.{refusal_number}
use Rattle.exec_switch.specs.declared.answer.Answer.{Answer}
use Rattle.exec_switch.specs.declared.answer.Refusal.{Refusal}
use Rattle.step_checks.specs.Checked.{checked, turn_of, wait_of}
use Rattle.step_checks.specs.CheckedLaws.{met, unmet, none_met, refuses, accepts, turn-refuses, check_refuses, check_accepts, turn_runs, made-answers}

-- the running task's number is a task's
pub runner-fits : (os : List ℕ) {x : Result TaskId Refusal} → x ≡ turn_of (header_at os).moment → (t : TaskId) → x ≡ Ok t → t.0 < task_limit
runner-fits os f t h = let m : MomentFits (Moment.Running t) = rw (turn_runs os f t h) at (header_at-fits os).moment_fits in m

-- what `?` hands on of a refusal
pub handed_on : (n : Refusal) (r : Result Answer Refusal) → IsErrAnd r (λ m. m ≡ n) → answer_or r ≡ Answer.Refused n
handed_on n (Ok a) h = absurd h
handed_on n (Err m) h = ap Answer.Refused h

-- refused: nothing is logged
refused_logs : (s : Store) (e : Event) (a : Answer) → stepped_of s a ≡ checked s e → stepped_of (store_of s.tasks s.objects s.places s.queue (checked s e).store.log) a ≡ checked s e
refused_logs s e a r = ap (λ (x : Step). stepped_of (store_of s.tasks s.objects s.places s.queue x.store.log) a) (sym r) ∙ r

module _ (ts os ps : List ℕ) (q : ReadyQueue) (l : List LogEntry) {x : Result TaskId Refusal} (f : x ≡ turn_of (header_at os).moment) where
  abbrev here : Store
  here = store_of ts os ps q l

  moment-of : x ≡ turn_of (header here).moment
  moment-of = unfold header in f

  -- no task runs
  pub no_turn : (e : Event) (rs : List (ℕ × Bool)) → refusals here e ≡ in_running here rs → (n : Refusal) → x ≡ Err n → stepped_of here (Answer.Refused n) ≡ checked here e
  no_turn e rs g n h = turn-refuses here e rs moment-of g n h

  pub no_turn_logs : (e : Event) (rs : List (ℕ × Bool)) → refusals here e ≡ in_running here rs → (n : Refusal) → x ≡ Err n
      → stepped_of (store_of ts os ps q (checked here e).store.log) (Answer.Refused n) ≡ checked here e
  no_turn_logs e rs g n h = refused_logs here e (Answer.Refused n) (no_turn e rs g n h)

  module _ (t : TaskId) (h : x ≡ Ok t) where
    refused-by : (e : Event) (rs : List (ℕ × Bool)) → refusals here e ≡ in_running here rs → (n : Refusal) → first_refusal rs ≡ refusal_number n → stepped_of here (Answer.Refused n) ≡ checked here e
    refused-by e rs g n k = check_refuses here e rs moment-of g t h n k

    done : (e : Event) (rs : List (ℕ × Bool)) → refusals here e ≡ in_running here rs → first_refusal rs ≡ 0 → checked here e ≡ accept here e
    done e rs g k = check_accepts here e rs moment-of g t h k

    -- ---- coroutine and call

    module _ (k : ℕ) {b : Bool} (e : b ≡ leb object_limit (header_at os).made) where
      pub coroutine-refused : b ≡ true → stepped_of here (Answer.Refused Refusal.NoRoom) ≡ checked here (Event.coroutine k)
      unfolding refusals full header
      coroutine-refused i = refused-by (Event.coroutine k) _ refl Refusal.NoRoom (met 7 _ [] (sym e ∙ i))

      pub coroutine-made : b ≡ false → {os' : List ℕ} {o : HeapId} → o.0 ≡ (header_at os).made → store_of ts os' ps q l ≡ make_coroutine here k
          → stepped_of (store_of ts os' ps q l) (Answer.Made o) ≡ checked here (Event.coroutine k)
      unfolding refusals full header accept
      coroutine-made i j m = made-answers m j ∙ sym (done (Event.coroutine k) _ refl (unmet 7 _ [] (sym e ∙ i) ∙ none_met))

    module _ {b : Bool} (e : b ≡ leb call_limit (header_at os).calls) where
      pub call-refused : b ≡ true → stepped_of here (Answer.Refused Refusal.NoCallNumber) ≡ checked here Event.call
      unfolding refusals no_number header
      call-refused i = refused-by Event.call _ refl Refusal.NoCallNumber (met 8 _ [] (sym e ∙ i))

      pub call-given : b ≡ false → {os' : List ℕ} {n : CallId} → n.0 ≡ (header_at os).calls → store_of ts os' ps q l ≡ set_calls here (n.0 + 1)
          → stepped_of (store_of ts os' ps q l) (Answer.Called n) ≡ checked here Event.call
      call-given i {os'} {n} j m =
          let a : accept here Event.call ≡ record { store = set_calls here (n.0 + 1); answer = machine.Answer.called n.0 } = unfold accept header in (rw (← j)) in
          let d : checked here Event.call ≡ accept here Event.call = done Event.call ((8, no_number here) ∷ []) (unfold refusals in refl) (unmet 8 (no_number here) [] (unfold no_number header in (sym e ∙ i)) ∙ none_met) in
          ap (λ (s : Store). record { store = s; answer = machine.Answer.called n.0 }) m ∙ sym (d ∙ a)

    -- ---- pending

    module _ (c : ℕ) (r : OptionValue) {v : Header} (w : v ≡ header_at os) where
      or_first : (a b : Bool) → a ≡ true → (a || b) ≡ true
      or_first a b e = rw e

      or_second : (a b : Bool) → a ≡ false → b ≡ true → (a || b) ≡ true
      or_second a b e i = rw (e, i)

      or_none : (a b : Bool) → a ≡ false → b ≡ false → (a || b) ≡ false
      or_none a b e i = rw (e, i)

      pub pending_unheard : v.calls ≤ c → stepped_of here (Answer.Refused Refusal.Unknown) ≡ checked here (Event.pending c r)
      unfolding refusals header
      pending_unheard i =
          let k : (header_at os).calls ≤ c = rw w at i in
          refused-by (Event.pending c r) _ refl Refusal.Unknown (met 5 _ _ (or_first _ _ (le-leb (header_at os).calls c k)))

      module _ (i : c < v.calls) {b : Bool} (e : b ≡ option_known v.made (object_at os) r) where
        heard : leb (header_at os).calls c ≡ false
        heard = let k : c < (header_at os).calls = rw w at i in lt-leb (header_at os).calls c k

        known_as : option_known (header_at os).made (object_at os) r ≡ b
        known_as = rw w at (sym e)

        pub pending_unknown : b ≡ false → stepped_of here (Answer.Refused Refusal.Unknown) ≡ checked here (Event.pending c r)
        unfolding refusals header object
        pending_unknown k = refused-by (Event.pending c r) _ refl Refusal.Unknown (met 5 _ _ (or_second _ _ heard (rw (known_as, k))))

        module _ (k : b ≡ true) {d : FoundObject} (m : d ≡ found_object (pending_external_in os c)) where
          words_right : (leb (header_at os).calls c || not (option_known (header_at os).made (object_at os) r)) ≡ false
          words_right = or_none _ _ heard (rw (known_as, k))

          pub pending_again : (n : HeapId) → d ≡ Some n → stepped_of here (Answer.Refused Refusal.PendingAlready) ≡ checked here (Event.pending c r)
          unfolding refusals header object pending_external is_some
          pending_again n j =
              refused-by (Event.pending c r) _ refl Refusal.PendingAlready (unmet 5 _ _ words_right ∙ met 6 _ _ (rw (object-found (pending_external_in os c) n (sym m ∙ j))))

          module _ (j : d ≡ None) {u : Bool} (y : u ≡ leb object_limit (header_at os).made) where
            free : is_some (pending_external_in os c) ≡ false
            unfolding is_some
            free = rw (no_object (pending_external_in os c) (sym m ∙ j))

            pub pending-full : u ≡ true → stepped_of here (Answer.Refused Refusal.NoRoom) ≡ checked here (Event.pending c r)
            unfolding refusals header object pending_external full
            pending-full z = refused-by (Event.pending c r) _ refl Refusal.NoRoom (unmet 5 _ _ words_right ∙ unmet 6 _ _ free ∙ met 7 _ [] (sym y ∙ z))

            pub pending-made : u ≡ false → {os' : List ℕ} {o : HeapId} → o.0 ≡ (header_at os).made → store_of ts os' ps q l ≡ make_pending here c r
                → stepped_of (store_of ts os' ps q l) (Answer.Made o) ≡ checked here (Event.pending c r)
            unfolding refusals header object pending_external full accept
            pending-made z n s = made-answers s n ∙ sym (done (Event.pending c r) _ refl (unmet 5 _ _ words_right ∙ unmet 6 _ _ free ∙ unmet 7 _ [] (sym y ∙ z) ∙ none_met))

    -- ---- settled

    module _ (w : Value) {v : Header} (g : v ≡ header_at os) {b : Bool} (e : b ≡ value_known v.made (object_at os) w) where
      value_as : value_known (header_at os).made (object_at os) w ≡ b
      value_as = rw g at (sym e)

      pub settled_unknown : b ≡ false → stepped_of here (Answer.Refused Refusal.Unknown) ≡ checked here (Event.settled w)
      unfolding refusals header object
      settled_unknown k = refused-by (Event.settled w) _ refl Refusal.Unknown (met 5 _ _ (rw (value_as, k)))

      module _ (k : b ≡ true) {u : Bool} (y : u ≡ leb object_limit (header_at os).made) where
        is_known : not (value_known (header_at os).made (object_at os) w) ≡ false
        is_known = rw (value_as, k)

        pub settled-full : u ≡ true → stepped_of here (Answer.Refused Refusal.NoRoom) ≡ checked here (Event.settled w)
        unfolding refusals header object full
        settled-full z = refused-by (Event.settled w) _ refl Refusal.NoRoom (unmet 5 _ _ is_known ∙ met 7 _ _ (sym y ∙ z))

        module _ (z : u ≡ false) {n : Bool} (i : n ≡ leb call_limit (header_at os).calls) where
          pub settled_over : n ≡ true → stepped_of here (Answer.Refused Refusal.NoCallNumber) ≡ checked here (Event.settled w)
          unfolding refusals header object full no_number
          settled_over j = refused-by (Event.settled w) _ refl Refusal.NoCallNumber (unmet 5 _ _ is_known ∙ unmet 7 _ _ (sym y ∙ z) ∙ met 8 _ [] (sym i ∙ j))

          pub settled-made : n ≡ false → {os' : List ℕ} {o : HeapId} → o.0 ≡ (header_at os).made → store_of ts os' ps q l ≡ make_settled here w
              → stepped_of (store_of ts os' ps q l) (Answer.Made o) ≡ checked here (Event.settled w)
          unfolding refusals header object full no_number accept
          settled-made j m s = made-answers s m ∙ sym (done (Event.settled w) _ refl (unmet 5 _ _ is_known ∙ unmet 7 _ _ (sym y ∙ z) ∙ unmet 8 _ [] (sym i ∙ j) ∙ none_met))

    -- ---- gather

    module _ (is : List ℕ) {v : Header} (g : v ≡ header_at os) {b : Bool} (e : b ≡ any_of (leb v.made) is) where
      items_as : any_of (leb (header_at os).made) is ≡ b
      items_as = rw g at (sym e)

      pub gather-unmade : b ≡ true → stepped_of here (Answer.Refused Refusal.Unknown) ≡ checked here (Event.gather is)
      unfolding refusals header unmade
      gather-unmade k = refused-by (Event.gather is) _ refl Refusal.Unknown (met 5 _ _ (items_as ∙ k))

      module _ (k : b ≡ false) {u : Bool} (y : u ≡ (leb object_limit v.made || ltb item_limit (length is) || ltb place_limit (v.used + length is))) where
        room_as : (leb object_limit (header_at os).made || ltb item_limit (length is) || ltb place_limit ((header_at os).used + length is)) ≡ u
        room_as = rw g at (sym y)

        pub gather-full : u ≡ true → stepped_of here (Answer.Refused Refusal.NoRoom) ≡ checked here (Event.gather is)
        unfolding refusals header unmade full
        gather-full z = refused-by (Event.gather is) _ refl Refusal.NoRoom (unmet 5 _ _ (items_as ∙ k) ∙ met 7 _ [] (room_as ∙ z))

        pub gather-made : u ≡ false → {os' ps' : List ℕ} {o : HeapId} → o.0 ≡ (header_at os).made → store_of ts os' ps' q l ≡ make_gather here is
            → stepped_of (store_of ts os' ps' q l) (Answer.Made o) ≡ checked here (Event.gather is)
        unfolding refusals header unmade full accept
        gather-made z m s = made-answers s m ∙ sym (done (Event.gather is) _ refl (unmet 5 _ _ (items_as ∙ k) ∙ unmet 7 _ [] (room_as ∙ z) ∙ none_met))

    -- ---- await, complete, fail

    runs_here : runner (header_at os).moment ≡ t.0
    unfolding runner
    runs_here = rw (turn_runs os f t h)

    module _ (o : ℕ) {v : Header} (g : v ≡ header_at os) where
      pub await-unmade : v.made ≤ o → stepped_of (store_of ts os ps q (checked here (Event.await o)).store.log) (Answer.Refused Refusal.Unknown) ≡ checked here (Event.await o)
      unfolding refusals header unmade
      await-unmade i =
          let k : (header_at os).made ≤ o = rw g at i in
          refused_logs here (Event.await o) (Answer.Refused Refusal.Unknown) (refused-by (Event.await o) _ refl Refusal.Unknown (met 5 _ [] (le-leb (header_at os).made o k)))

      pub await-goes : o < v.made → {ts' os' ps' : List ℕ} {q' : ReadyQueue} (c : Control) (n : ℕ)
          → awaited_of (store_of ts' os' ps' q' (exec_get_awaitable here t.0 o).store.log) c n ≡ exec_get_awaitable here t.0 o
          → stepped_of (store_of ts' os' ps' q' (checked here (Event.await o)).store.log) (Answer.Awaited c n) ≡ checked here (Event.await o)
      await-goes i c n r =
          let k : o < (header_at os).made = rw g at i in
          let d : checked here (Event.await o) ≡ accept here (Event.await o) = done (Event.await o) ((5, unmade here o) ∷ []) (unfold refusals in refl) (unmet 5 (unmade here o) [] (unfold unmade header in (lt-leb (header_at os).made o k)) ∙ none_met) in
          let a : accept here (Event.await o) ≡ answer_await (exec_get_awaitable here t.0 o) = unfold accept header in (rw runs_here) in
          same_step (d ∙ a) (Answer.Awaited c n) (unfold answer_await in (ap (λ (y : Awaited). record { store = y.store; answer = machine.Answer.awaited y.control y.steps }) r))

    module _ (w : Value) {v : Header} (g : v ≡ header_at os) {b : Bool} (e : b ≡ value_known v.made (object_at os) w) where
      given_as : value_known (header_at os).made (object_at os) w ≡ b
      given_as = rw g at (sym e)

      pub complete_unknown : b ≡ false → stepped_of (store_of ts os ps q (checked here (Event.complete w)).store.log) (Answer.Refused Refusal.Unknown) ≡ checked here (Event.complete w)
      unfolding refusals header object
      complete_unknown k = refused_logs here (Event.complete w) (Answer.Refused Refusal.Unknown) (refused-by (Event.complete w) _ refl Refusal.Unknown (met 5 _ [] (rw (given_as, k))))

      pub complete-goes : b ≡ true → {ts' os' ps' : List ℕ} {q' : ReadyQueue} (a : Answer)
          → stepped_of (store_of ts' os' ps' q' (task_completes here t.0 w).store.log) a ≡ task_completes here t.0 w
          → stepped_of (store_of ts' os' ps' q' (checked here (Event.complete w)).store.log) a ≡ checked here (Event.complete w)
      complete-goes k a r =
          let d : checked here (Event.complete w) ≡ accept here (Event.complete w) = done (Event.complete w) ((5, not (value_known (header here).made (object here) w)) ∷ []) (unfold refusals in refl) (unmet 5 (not (value_known (header here).made (object here) w)) [] (unfold header object in (rw (given_as, k))) ∙ none_met) in
          let y : accept here (Event.complete w) ≡ task_completes here t.0 w = unfold accept header in (rw runs_here) in
          same_step (d ∙ y) a r

    pub fail-goes : (n : ℕ) {ts' os' ps' : List ℕ} {q' : ReadyQueue} (a : Answer)
        → stepped_of (store_of ts' os' ps' q' (task_fails here t.0 (Error.Script n)).store.log) a ≡ task_fails here t.0 (Error.Script n)
        → stepped_of (store_of ts' os' ps' q' (checked here (Event.fail n)).store.log) a ≡ checked here (Event.fail n)
    fail-goes n a r =
        let d : checked here (Event.fail n) ≡ accept here (Event.fail n) = done (Event.fail n) [] (unfold refusals in refl) none_met in
        let y : accept here (Event.fail n) ≡ task_fails here t.0 (Error.Script n) = unfold accept header in (rw runs_here) in
        same_step (d ∙ y) a r

-- ---- results

module _ (ts os ps : List ℕ) (q : ReadyQueue) (l : List LogEntry) (bs : List ℕ) {b : Bool} (e : b ≡ is_ended (header_at os).moment) where
  abbrev waiting : Store
  waiting = store_of ts os ps q l

  abbrev batch : Event
  batch = Event.results (results_in bs)

  length_from : (k at : ℕ) → length (results_from bs at k) ≡ k
  unfolding results_from
  length_from zero at = refl
  length_from (suc k) at = ap suc (length_from k (at + 14))

  length-in : length (results_in bs) ≡ length bs / 14
  unfolding results_in
  length-in = length_from (length bs / 14) 0

  refused-batch : (n : Refusal) → first_refusal (refusals waiting batch) ≡ refusal_number n → stepped_of (store_of ts os ps q (checked waiting batch).store.log) (Answer.Refused n) ≡ checked waiting batch
  refused-batch n k = refused_logs waiting batch (Answer.Refused n) (refuses waiting batch n k)

  pub results-ended : b ≡ true → stepped_of (store_of ts os ps q (checked waiting batch).store.log) (Answer.Refused Refusal.SessionEnded) ≡ checked waiting batch
  unfolding refusals in_both header
  results-ended i = refused-batch Refusal.SessionEnded (met 3 _ _ (sym e ∙ i))

  module _ (i : b ≡ false) {u : Bool} (y : u ≡ any_of (result_unknown (store_of ts os ps q l)) (results_in bs)) where
    pub results_unknown : u ≡ true → stepped_of (store_of ts os ps q (checked waiting batch).store.log) (Answer.Refused Refusal.Unknown) ≡ checked waiting batch
    unfolding refusals in_both header
    results_unknown z = refused-batch Refusal.Unknown (unmet 3 _ _ (sym e ∙ i) ∙ met 5 _ _ (sym y ∙ z))

    module _ (z : u ≡ false) where
      pub results-many : result_limit < length bs / 14 → stepped_of (store_of ts os ps q (checked waiting batch).store.log) (Answer.Refused Refusal.BadResult) ≡ checked waiting batch
      unfolding refusals in_both header
      results-many n =
          let m : ltb result_limit (length (results_in bs)) ≡ true = rw length-in (lt-ltb result_limit (length bs / 14) n) in
          refused-batch Refusal.BadResult (unmet 3 _ _ (sym e ∙ i) ∙ unmet 5 _ _ (sym y ∙ z) ∙ met 10 _ [] (rw m))

      module _ (n : length bs / 14 ≤ result_limit) {w : Bool} (g : w ≡ any_of bad_result (results_in bs)) where
        few : ltb result_limit (length (results_in bs)) ≡ false
        few = rw length-in (le-ltb result_limit (length bs / 14) n)

        pub results_bad : w ≡ true → stepped_of (store_of ts os ps q (checked waiting batch).store.log) (Answer.Refused Refusal.BadResult) ≡ checked waiting batch
        unfolding refusals in_both header
        results_bad k = refused-batch Refusal.BadResult (unmet 3 _ _ (sym e ∙ i) ∙ unmet 5 _ _ (sym y ∙ z) ∙ met 10 _ [] (rw (few, ← g, k)))

        pub results-done : w ≡ false → {ts' os' ps' : List ℕ} {q' : ReadyQueue}
            → store_of ts' os' ps' q' (wake_in_order waiting (apply_future_results waiting (results_in bs))).log ≡ wake_in_order waiting (apply_future_results waiting (results_in bs))
            → stepped_of (store_of ts' os' ps' q' (checked waiting batch).store.log) Answer.Done ≡ checked waiting batch
        results-done k r = same_step (accepts waiting batch passes ∙ gives) Answer.Done (ap (λ (s : Store). record { store = s; answer = machine.Answer.done }) r)
          where
            passes : first_refusal (refusals waiting batch) ≡ 0
            passes = unfold refusals in_both header in (unmet 3 (is_ended (header_at os).moment) _ (sym e ∙ i) ∙ unmet 5 (any_of (result_unknown (store_of ts os ps q l)) (results_in bs)) _ (sym y ∙ z) ∙ unmet 10 (ltb result_limit (length (results_in bs)) || any_of bad_result (results_in bs)) [] (rw (few, ← g, k)) ∙ none_met)

            gives : accept waiting batch ≡ record { store = wake_in_order waiting (apply_future_results waiting (results_in bs)); answer = machine.Answer.done }
            gives = unfold accept in refl

-- ---- events of waiting: resume and cancel

module _ (ts os ps : List ℕ) (q : ReadyQueue) (l : List LogEntry) {v : Header} (g : v ≡ header_at os) where
  abbrev asked : Store
  asked = store_of ts os ps q l

  module _ (e : Event) (rs : List (ℕ × Bool)) (k : refusals asked e ≡ in_waiting asked rs) where
    waiting-ended : v.moment ≡ Moment.Ended → stepped_of (store_of ts os ps q (checked asked e).store.log) (Answer.Refused Refusal.SessionEnded) ≡ checked asked e
    waiting-ended h = refused_logs asked e (Answer.Refused Refusal.SessionEnded) (refuses asked e Refusal.SessionEnded ends)
      where
        ends : first_refusal (refusals asked e) ≡ 3
        ends = unfold in_waiting header first_refusal is_ended is_run in (rw (k, ← g, h))

    waiting-running : (t : TaskId) → v.moment ≡ Moment.Running t → stepped_of (store_of ts os ps q (checked asked e).store.log) (Answer.Refused Refusal.WrongMoment) ≡ checked asked e
    waiting-running t h = refused_logs asked e (Answer.Refused Refusal.WrongMoment) (refuses asked e Refusal.WrongMoment runs)
      where
        runs : first_refusal (refusals asked e) ≡ 4
        runs = unfold in_waiting header first_refusal is_ended is_run in (rw (k, ← g, h))

    -- the host has control: the other checks
    waiting-left : v.moment ≡ Moment.Waiting → first_refusal (refusals asked e) ≡ first_refusal rs
    waiting-left h = unfold in_waiting header first_refusal is_ended is_run in (rw (k, ← g, h))

  resume-checks : refusals asked Event.resume ≡ in_waiting asked []
  unfolding refusals
  resume-checks = refl

  pub resume-ended : v.moment ≡ Moment.Ended → stepped_of (store_of ts os ps q (checked asked Event.resume).store.log) (Answer.Refused Refusal.SessionEnded) ≡ checked asked Event.resume
  resume-ended h = waiting-ended Event.resume [] resume-checks h

  pub resume-running : (t : TaskId) → v.moment ≡ Moment.Running t → stepped_of (store_of ts os ps q (checked asked Event.resume).store.log) (Answer.Refused Refusal.WrongMoment) ≡ checked asked Event.resume
  resume-running t h = waiting-running Event.resume [] resume-checks t h

  pub resume-goes : v.moment ≡ Moment.Waiting → {ts' os' ps' : List ℕ} {q' : ReadyQueue} (a : Answer)
      → stepped_of (store_of ts' os' ps' q' (resume_with_resolved_futures asked).store.log) a ≡ resume_with_resolved_futures asked
      → stepped_of (store_of ts' os' ps' q' (checked asked Event.resume).store.log) a ≡ checked asked Event.resume
  resume-goes h a r = same_step (accepts asked Event.resume (waiting-left Event.resume [] resume-checks h ∙ none_met) ∙ gives) a r
    where
      gives : accept asked Event.resume ≡ resume_with_resolved_futures asked
      gives = unfold accept in refl

  module _ (t : ℕ) where
    abbrev stop : Event
    stop = Event.cancel t

    abbrev stop_checks : List (ℕ × Bool)
    stop_checks = (5, not (live asked t)) ∷ (9, eqb t 0) ∷ []

    cancel-checks : refusals asked stop ≡ in_waiting asked stop_checks
    unfolding refusals
    cancel-checks = refl

    pub cancel-ended : v.moment ≡ Moment.Ended → stepped_of (store_of ts os ps q (checked asked stop).store.log) (Answer.Refused Refusal.SessionEnded) ≡ checked asked stop
    cancel-ended h = waiting-ended stop stop_checks cancel-checks h

    pub cancel-running : (u : TaskId) → v.moment ≡ Moment.Running u → stepped_of (store_of ts os ps q (checked asked stop).store.log) (Answer.Refused Refusal.WrongMoment) ≡ checked asked stop
    cancel-running u h = waiting-running stop stop_checks cancel-checks u h

    module _ (h : v.moment ≡ Moment.Waiting) {b : Bool} (d : b ≡ not (live asked t)) where
      pub cancel_dead : b ≡ true → stepped_of (store_of ts os ps q (checked asked stop).store.log) (Answer.Refused Refusal.Unknown) ≡ checked asked stop
      cancel_dead i = refused_logs asked stop (Answer.Refused Refusal.Unknown) (refuses asked stop Refusal.Unknown (waiting-left stop stop_checks cancel-checks h ∙ met 5 _ _ (sym d ∙ i)))

      module _ (i : b ≡ false) where
        lives : first_refusal (refusals asked stop) ≡ first_refusal ((9, eqb t 0) ∷ [])
        lives = waiting-left stop stop_checks cancel-checks h ∙ unmet 5 _ _ (sym d ∙ i)

        pub cancel_main : t ≡ 0 → stepped_of (store_of ts os ps q (checked asked stop).store.log) (Answer.Refused Refusal.MainCancelled) ≡ checked asked stop
        cancel_main z = refused_logs asked stop (Answer.Refused Refusal.MainCancelled) (refuses asked stop Refusal.MainCancelled (lives ∙ met 9 _ _ (eq-eqb t 0 z)))

        -- the task goes: the answer says how many entries the queue q lost on the way to q'
        pub cancel-goes : (t ≡ 0 → ⊥) → {ts' os' ps' : List ℕ} {q' : ReadyQueue} → store_of ts' os' ps' q' (cancel_task asked t).log ≡ cancel_task asked t → {n : ℕ} → n ≡ q.len - q'.len
            → stepped_of (store_of ts' os' ps' q' (checked asked stop).store.log) (Answer.Cancelled n) ≡ checked asked stop
        cancel-goes z r {n} m = same_step (accepts asked stop (lives ∙ unmet 9 _ _ (ne_eqb t 0 z) ∙ none_met) ∙ gives) (Answer.Cancelled n) (rw m (ap answers r))
          where
            answers : Store → Step
            answers s = record { store = s; answer = machine.Answer.cancelled (q.len - s.queue.len) }

            gives : accept asked stop ≡ answers (cancel_task asked t)
            gives = unfold accept entries_lost in refl

-- ---- events of waiting, by what the code knows of the moment

waits_as : (m : Moment) → wait_of m ≡ Ok tt → m ≡ Moment.Waiting
waits_as (Moment.Running u) h = let z : ◌≡◌ {A = ℕ} 0 1 = cc in absurd (omega arith)
waits_as Moment.Waiting h = refl
waits_as Moment.Ended h = let z : ◌≡◌ {A = ℕ} 0 1 = cc in absurd (omega arith)

module _ (ts os ps : List ℕ) (q : ReadyQueue) (l : List LogEntry) {x : Result (Unit {0}) Refusal} (f : x ≡ wait_of (header_at os).moment) where
  -- the host has control
  pub host_has : x ≡ Ok tt → (header_at os).moment ≡ Moment.Waiting
  host_has h = waits_as (header_at os).moment (sym f ∙ h)

  module _ (e : Event) (rs : List (ℕ × Bool)) (k : refusals (store_of ts os ps q l) e ≡ in_waiting (store_of ts os ps q l) rs) where
    waits-refused : (m : Moment) → (header_at os).moment ≡ m → (n : Refusal) → wait_of m ≡ Err n
        → stepped_of (store_of ts os ps q (checked (store_of ts os ps q l) e).store.log) (Answer.Refused n) ≡ checked (store_of ts os ps q l) e
    waits-refused (Moment.Running t) i n h = let z : n ≡ Refusal.WrongMoment = cc in rw z (waiting-running ts os ps q l refl e rs k t i)
    waits-refused Moment.Waiting i n h = let z : ◌≡◌ {A = ℕ} 0 1 = cc in absurd (omega arith)
    waits-refused Moment.Ended i n h = let z : n ≡ Refusal.SessionEnded = cc in rw z (waiting-ended ts os ps q l refl e rs k i)

    -- it has not
    pub no_wait_logs : (n : Refusal) → x ≡ Err n → stepped_of (store_of ts os ps q (checked (store_of ts os ps q l) e).store.log) (Answer.Refused n) ≡ checked (store_of ts os ps q l) e
    no_wait_logs n h = waits-refused (header_at os).moment refl n (sym f ∙ h)

-- ---- the queue after a cancel, in every store: q and q' are what the code has before and after

module _ (ts os ps : List ℕ) (q : ReadyQueue) (l : List LogEntry) (t : ℕ) {ts' os' ps' : List ℕ} {q' : ReadyQueue}
    (r : store_of ts' os' ps' q' (cancel_task (store_of ts os ps q l) t).log ≡ cancel_task (store_of ts os ps q l) t) where
  -- it is not longer
  pub cancel_not_longer : q'.len ≤ q.len
  cancel_not_longer = subst (λ (s : Store). s.queue.len ≤ q.len) (sym r) (cancel_shortens (store_of ts os ps q l) t)

  -- by no more entries shorter than an array holds
  pub cancel_lost_fits : q.len - q'.len ≤ task_limit
  cancel_lost_fits = subst (λ (s : Store). q.len - s.queue.len ≤ task_limit) (sym r) (cancel_loses_few (store_of ts os ps q l) t)

-- ---- a task's number

-- a number at or past the next one is no live task's
pub past_next : (ts os ps : List ℕ) (q : ReadyQueue) (l : List LogEntry) (t : ℕ) {v : Header} → v ≡ header_at os → v.next ≤ t → true ≡ not (live (store_of ts os ps q l) t)
unfolding live header
past_next ts os ps q l t g i = let n : (header_at os).next ≤ t = rw g at i in rw (le-ltb t (header_at os).next n)

-- one below it is, if its row says so
pub below_next : (ts os ps : List ℕ) (q : ReadyQueue) (l : List LogEntry) (t : ℕ) {v : Header} → v ≡ header_at os → t < v.next
    → {x : TaskState} → x ≡ (task_at ts t).state → {b : Bool} → b ≡ is_live x → not b ≡ not (live (store_of ts os ps q l) t)
unfolding live header task
below_next ts os ps q l t g i e f = let n : t < (header_at os).next = rw g at i in rw (lt-ltb t (header_at os).next n, ← e, ← f)

-- a live task's number is a task's
pub live-fits : (ts os ps : List ℕ) (q : ReadyQueue) (l : List LogEntry) (t : ℕ) {b : Bool} → b ≡ not (live (store_of ts os ps q l) t) → b ≡ false → t < task_limit
unfolding live header task
live-fits ts os ps q l t d i = by (ltb t (header_at os).next) refl
  where
    by : (c : Bool) → ltb t (header_at os).next ≡ c → t < task_limit
    by true e = omega (arith, ltb-true t (header_at os).next e, (header_at-fits os).next_fits)
    by false e = absurd (true≢false (let z : not (pick (ltb t (header_at os).next) (is_live (task_at ts t).state) false) ≡ false = sym d ∙ i in rw e at z))

-- ---- room for a gather

or_split : (a b : Bool) → (a || b) ≡ false → (a ≡ false) × (b ≡ false)
or_split true b e = (e, absurd (true≢false e))
or_split false b e = (refl, e)

pub gather-room : (os is : List ℕ) {v : Header} → v ≡ header_at os → {u : Bool}
    → u ≡ (leb object_limit v.made || ltb item_limit (length is) || ltb place_limit (v.used + length is)) → u ≡ false
    → ((header_at os).made < object_limit) × (length is ≤ item_limit) × ((header_at os).used + length is ≤ place_limit)
gather-room os is {v} g y z =
    let a = or_split (leb object_limit v.made || ltb item_limit (length is)) (ltb place_limit (v.used + length is)) (sym y ∙ z) in
    let b = or_split (leb object_limit v.made) (ltb item_limit (length is)) a.0 in
    (rw g at (leb-false object_limit v.made b.0), ltb-false item_limit (length is) b.1, rw g at (ltb-false place_limit (v.used + length is) a.1))
