-- What a batch of results does to the ready queue of a sound store (document 02, No. 7): those who stood there stay as they stood, and behind them come the tasks
-- that were blocked and are not, lowest first (`wakes_ascend`).
use Rattle.std.specs.Prelude.{◌≡◌, Bool, ◌&&◌, ℕ, zero, suc, ◌+◌, ◌≤◌, ◌<◌, T, take, drop}
use Rattle.std.proofs.Math.Path.{refl, sym, ap, subst}
use Rattle.std.proofs.Common.{◌∙◌, take-append-drop}
use Rattle.std.proofs.Math.Bool.{true, false, not}
use mathlib.Core.List.{List, [], ◌∷◌, ◌++◌, append_assoc, append-nil}
use Rattle.std.proofs.Math.Nat.{not-suc-le-zero}
use native.Mathlib.Omega.{arith}
use Rattle.std.proofs.Math.Decide.{ℕ_discrete, dec_lt}
use Rattle.std.proofs.Math.Dec.{eqb}
use Rattle.std.proofs.Math.ListN.{length, length-append}
use Rattle.std.proofs.Math.Seq.{take_at}
use borrow.Author.Tests.{eq-eqb, ne_eqb, eqb-false}
use Rattle.asyncio.specs.declared.TaskState.{TaskState}
use Rattle.asyncio.specs.declared.Task.{Task}
use Rattle.asyncio.specs.declared.Header.{Header}
use Rattle.asyncio.specs.Limits.{task_limit}
use Rattle.asyncio.specs.States.{pick, is_blocked}
use Rattle.asyncio.specs.Kinds.{kind, is_completed}
use Rattle.rows.specs.Tables.{task_at}
use Rattle.queue.specs.Queue.{entries, occurrences, Ascending}
use Rattle.queue.proofs.QueueLaws.{entries_push, length-entries, occurrences_append, at_most_once}
use Rattle.queue.specs.OrderLaws.{Ordered}
use Rattle.queue.proofs.OrderLaws.{order_entries}
use Rattle.machine.specs.Store.{Store, LogEntry, view, spawned, blocked, reached, exited, removed, task, object, header, put_object, put_task, put_queue, restate, forget}
use Rattle.machine.specs.Delivery.{Delivery}
use Rattle.machine.specs.Events.{Result, apply_future_results, wake_in_order}
use Rattle.machine.specs.Machine.{Event, Step, first_refusal, refusals, refusal, accept, step}
use Rattle.machine.specs.Sound.{runs_now}
use Rattle.machine.specs.History.{blocked_by}
use Rattle.machine.specs.WakeOrder.{those}
use Rattle.machine_laws.specs.Facts.{Nothing}
use Rattle.machine_laws.specs.TestLaws.{and-true}
use Rattle.machine_laws.specs.StoreLaws.{header-fits, task_put-other}
use Rattle.machine_laws.specs.MachineLaws.{accepted-step}
use Rattle.machine_laws.specs.SoundLaws.{refusal-rest, refusal-forget}
use Rattle.machine_laws.specs.OrderedLists.{those_ascend, those-count, those_past, ascending-same}
use Rattle.machine_theorems.specs.Soundness.Stores.{SoundDuring, SoundStore, during_of}
use Rattle.machine_theorems.specs.Soundness.Sessions.{forget_sound_store}
use Rattle.machine_theorems.specs.Soundness.ReadyTasks.{Queued, to_queued, not-queued}
use Rattle.machine_theorems.specs.Soundness.Results.{results-keep}
use Rattle.machine_theorems.specs.Soundness.Preserved.{results_apply}
use Rattle.machine_sessions.specs.Queue.Tracked.{blocked-put_task, ready-free}
use Rattle.machine_sessions.specs.Stall.Effects.{WokenBy, Effect, nobody, wakes}
use Rattle.machine_sessions.specs.Stall.ResultsWalk.{delivered-batch}
use Rattle.machine_sessions.specs.Stall.Room.{room_for}
use Rattle.machine_sessions.specs.Stall.Standing.{blocked_unready}

-- the tasks that a log says were reached, the first first
unfoldable pub reached_in : List LogEntry → List ℕ
reached_in [] = []
reached_in (spawned t c ∷ hs) = reached_in hs
reached_in (blocked t ∷ hs) = reached_in hs
reached_in (reached t ∷ hs) = reached_in hs ++ (t ∷ [])
reached_in (exited t ∷ hs) = reached_in hs
reached_in (removed t ∷ hs) = reached_in hs

-- t does not stand in the list
abbrev pub absent_from : List ℕ → ℕ → Bool
absent_from l t = eqb (occurrences l t) 0

absent-then : (l : List ℕ) (t v : ℕ) → absent_from (l ++ (t ∷ [])) v ≡ (not (eqb t v) && absent_from l v)
absent-then l t v = ap (λ (n : ℕ). eqb n 0) (occurrences_append l (t ∷ []) v) ∙ (unfold occurrences in (by (eqb t v)))
  where
    by : (b : Bool) → eqb (occurrences l v + (pick b 1 0 + 0)) 0 ≡ (not b && eqb (occurrences l v) 0)
    by true = ne_eqb (occurrences l v + (1 + 0)) 0 (λ e. not-suc-le-zero {n = 0} (omega (arith, e)))
    by false = let e : occurrences l v + (0 + 0) ≡ occurrences l v = omega arith in ap (λ (n : ℕ). eqb n 0) e

-- What deliveries have done since the store s, whose log was empty: who was reached stands behind those who stood in the queue of s, in the order of the log; he
-- was blocked in s and is not now; the others are as they were.
pub record Reached (s u : Store) : Type 0 where
  pub behind : entries u.queue ≡ entries s.queue ++ reached_in u.log
  pub were_blocked : (t : ℕ) → 1 ≤ occurrences (reached_in u.log) t → is_blocked (task s t).state ≡ true
  pub still : (t : ℕ) → is_blocked (task u t).state ≡ (is_blocked (task s t).state && absent_from (reached_in u.log) t)
  pub says : (b : Bool) (t : ℕ) → blocked_by b u.log t ≡ (b && absent_from (reached_in u.log) t)

reached_like : (s u w : Store) → w.tasks ≡ u.tasks → w.queue ≡ u.queue → w.log ≡ u.log → Reached s u → Reached s w
unfolding task
reached_like s u w t q l k =
    record {
      behind = ap entries q ∙ (k.behind ∙ ap (λ (h : List LogEntry). entries s.queue ++ reached_in h) (sym l));
      were_blocked = λ v o. k.were_blocked v (subst (λ (h : List LogEntry). 1 ≤ occurrences (reached_in h) v) l o);
      still = λ v. ap (λ (x : List ℕ). is_blocked (task_at x v).state) t ∙ (k.still v ∙ ap (λ (h : List LogEntry). is_blocked (task_at s.tasks v).state && absent_from (reached_in h) v) (sym l));
      says = λ b v. ap (λ (h : List LogEntry). blocked_by b h v) l ∙ (k.says b v ∙ ap (λ (h : List LogEntry). b && absent_from (reached_in h) v) (sym l));
    }

and-false : (a : Bool) → false ≡ (a && false)
and-false true = refl
and-false false = refl

and_swap : (a b c : Bool) → (a && (b && c)) ≡ (b && (a && c))
and_swap true true c = refl
and_swap true false c = refl
and_swap false true c = refl
and_swap false false c = refl

-- ---- one delivery

module _ (s : Store) {P : ℕ → Type 0} {r : ℕ → Bool} {D : ℕ → Type 0} {hd : Header} (u : Store) (h : SoundDuring P r D hd u) (k : Reached s u) where
  module _ (w : Store) (t : ℕ) (x : TaskState) (e : WokenBy u w t x) where
    was_blocked : is_blocked (task u t).state ≡ true
    was_blocked = unfold task in e.was_blocked

    the-queue : Queued (header u).next (task u) (entries u.queue)
    unfolding view
    the-queue = to_queued (header u).next (task u) (entries u.queue) h.kept.but.entries

    room : u.queue.len < task_limit
    room =
        room_for u.queue t h.kept.memory.ids h.kept.memory.words_right.queue_short (header-fits u).next_fits the-queue e.low
        (not-queued t (blocked_unready (task u t).state was_blocked) the-queue)

    abbrev old : List ℕ
    old = reached_in u.log

    now-reached : reached_in w.log ≡ old ++ (t ∷ [])
    now-reached = ap reached_in e.log ∙ (unfold reached_in in refl)

    in-s : is_blocked (task s t).state ≡ true
    in-s = (and-true (is_blocked (task s t).state) (absent_from old t) (sym (k.still t) ∙ was_blocked)).0

    row_now : (v : ℕ) → is_blocked (task w v).state ≡ is_blocked (task (put_task u t (restate (task u t) x)) v).state
    row_now v = unfold task put_task in (ap (λ (l : List ℕ). is_blocked (task_at l v).state) e.tasks)

    still-now : (v : ℕ) → Dec (v ≡ t) → is_blocked (task w v).state ≡ (is_blocked (task s v).state && (not (eqb t v) && absent_from old v))
    still-now v (yes q) =
        row_now v ∙ (subst (λ (m : ℕ). is_blocked (task (put_task u t (restate (task u t) x)) m).state ≡ false) (sym q)
        (blocked-put_task u t _ h.kept.memory.sized e.low ∙ (unfold restate in (ready-free x e.is_woken).1))
        ∙ (and-false (is_blocked (task s v).state) ∙ ap (λ (b : Bool). is_blocked (task s v).state && (not b && absent_from old v)) (sym (eq-eqb t v (sym q)))))
    still-now v (no ne) =
        row_now v ∙ (ap (λ (y : Task). is_blocked y.state) (task_put-other u t v _ ne)
        ∙ (k.still v ∙ ap (λ (b : Bool). is_blocked (task s v).state && (not b && absent_from old v)) (sym (ne_eqb t v (λ q. ne (sym q))))))

    blocked-then : (v : ℕ) → Dec (v ≡ t) → 1 ≤ occurrences (old ++ (t ∷ [])) v → is_blocked (task s v).state ≡ true
    blocked-then v (yes q) o = subst (λ (m : ℕ). is_blocked (task s m).state ≡ true) (sym q) in-s
    blocked-then v (no ne) o =
        let one : occurrences (t ∷ []) v ≡ 0 = unfold occurrences in (rw (ne_eqb t v (λ q. ne (sym q))) (omega arith)) in
        k.were_blocked v (omega (arith, o, occurrences_append old (t ∷ []) v, one))

    says-now : (b : Bool) (v : ℕ) → blocked_by b w.log v ≡ (not (eqb t v) && (b && absent_from old v))
    unfolding blocked_by
    says-now b v = ap (λ (l : List LogEntry). blocked_by b l v) e.log ∙ ap (λ (c : Bool). not (eqb t v) && c) (k.says b v)

    woken-reached : Reached s w
    woken-reached =
        record {
          behind = ap entries e.queue ∙ (entries_push u.queue t h.kept.memory.ids room ∙ (ap (λ (l : List ℕ). l ++ (t ∷ [])) k.behind
              ∙ (append_assoc (entries s.queue) old (t ∷ []) ∙ ap (λ (l : List ℕ). entries s.queue ++ l) (sym now-reached))));
          were_blocked = λ v o. blocked-then v (ℕ_discrete v t) (subst (λ (l : List ℕ). 1 ≤ occurrences l v) now-reached o);
          still = λ v. still-now v (ℕ_discrete v t) ∙ ap (λ (b : Bool). is_blocked (task s v).state && b) (sym (ap (λ (l : List ℕ). absent_from l v) now-reached ∙ absent-then old t v));
          says = λ b v. says-now b v
              ∙ (and_swap (not (eqb t v)) b (absent_from old v) ∙ ap (λ (c : Bool). b && c) (sym (ap (λ (l : List ℕ). absent_from l v) now-reached ∙ absent-then old t v)));
        }

  delivered-reached : (d : Delivery) → Effect u d → Reached s d.store
  delivered-reached d (nobody e n) = reached_like s u d.store e.tasks e.queue e.log k
  delivered-reached d (wakes t x e n) = woken-reached d.store t x e

-- ---- a list of tasks

-- an ascending list in which each task stands once at most, and none past the last: it is those who stand there
those-ascending : (l : List ℕ) (p : ℕ → Bool) → Ascending l → ((t : ℕ) → occurrences l t ≤ 1) → ((t : ℕ) → task_limit ≤ t → occurrences l t ≡ 0) → ((t : ℕ) → p t ≡ not (absent_from l t)) → l ≡ those p
those-ascending l p up once low same = ascending-same l (those p) up (those_ascend p task_limit 0) (λ t. sym (by t (dec_lt t task_limit)))
  where
    one : (t n : ℕ) → occurrences l t ≡ n → n ≤ 1 → pick (not (eqb n 0)) 1 0 ≡ n
    one t zero e h = refl
    one t (suc zero) e h = refl
    one t (suc (suc n)) e h = absurd (not-suc-le-zero {n = 0} (omega (arith, h)))

    by : (t : ℕ) → Dec (t < task_limit) → occurrences (those p) t ≡ occurrences l t
    by t (yes h) = those-count p task_limit 0 t (omega arith) (omega (arith, h)) ∙ (ap (λ (b : Bool). pick b 1 0) (same t) ∙ one t (occurrences l t) refl (once t))
    by t (no ne) = those_past p task_limit 0 t (omega (arith, ne)) ∙ sym (low t (omega (arith, ne)))

-- ---- a batch

-- what a batch that no refusal meets does to the queue of a sound store
module _ (s : Store) (rs : List Result) (h : SoundStore s) (e : refusal s (Event.results rs) ≡ 0) where
  -- the store as the event finds it, and what the results leave
  abbrev pub found : Store
  found = forget s

  abbrev pub left : Store
  left = apply_future_results found rs

  abbrev pub after_batch : Store
  after_batch = (step s (Event.results rs)).store

  pub batch-is : after_batch ≡ wake_in_order found left
  batch-is = ap (λ (x : Step). x.store) (accepted-step s (Event.results rs) e) ∙ (unfold accept in refl)

  found-sound : SoundStore found
  found-sound = forget_sound_store s h

  nothing_yet : Reached found found
  unfolding forget reached_in occurrences blocked_by
  nothing_yet = record {
    behind = sym (append-nil (entries s.queue));
    were_blocked = λ t o. absurd (not-suc-le-zero {n = 0} (omega (arith, o)));
    still = λ t. and_unit _;
    says = λ b t. and_unit b;
  }
    where
      and_unit : (a : Bool) → a ≡ (a && true)
      and_unit true = refl
      and_unit false = refl

  applies : first_refusal (refusals found (Event.results rs)) ≡ 0
  applies = refusal-rest found (Event.results rs) (refusal-forget s (Event.results rs) ∙ e)

  left-during : SoundDuring Nothing (runs_now (header found).moment) (λ o. T (is_completed (kind (object found o)))) (header found) left
  left-during = results-keep rs found (results_apply found found-sound rs applies) (during_of found found-sound)

  pub left-reached : Reached found left
  left-reached =
      delivered-batch (Reached found) (λ u o x k. reached_like found u (put_object u o x) (unfold put_object in refl) (unfold put_object in refl) (unfold put_object in refl) k)
      (λ P r D hd u m d f k. delivered-reached found u m k d f) rs found (results_apply found found-sound rs applies) (during_of found found-sound) nothing_yet

  abbrev pub woken : List ℕ
  woken = reached_in left.log

  left-queued : Queued (header left).next (task left) (entries left.queue)
  unfolding view
  left-queued = to_queued (header left).next (task left) (entries left.queue) left-during.kept.but.entries

  counted : (t : ℕ) → occurrences (entries left.queue) t ≡ occurrences (entries found.queue) t + occurrences woken t
  counted t = ap (λ (l : List ℕ). occurrences l t) left-reached.behind ∙ occurrences_append (entries found.queue) woken t

  pub woken_once : (t : ℕ) → occurrences woken t ≤ 1
  woken_once t = omega (arith, counted t, at_most_once (entries left.queue) left-queued.distinct t)

  pub woken_low : (t : ℕ) → 1 ≤ occurrences woken t → t < (header found).next
  woken_low t o = subst (λ (y : Header). t < y.next) left-during.head (left-queued.ready t (omega (arith, o, counted t))).0

  woken-none : (t : ℕ) → task_limit ≤ t → occurrences woken t ≡ 0
  woken-none t l = by (ℕ_discrete (occurrences woken t) 0)
    where
      by : Dec (occurrences woken t ≡ 0) → occurrences woken t ≡ 0
      by (yes q) = q
      by (no ne) = absurd (not-suc-le-zero {n = 0} (omega (arith, l, woken_low t (omega (arith, ne)), (header-fits found).next_fits)))

  -- who stands behind those who stood there
  abbrev behind_them : List ℕ
  behind_them = drop s.queue.len (entries after_batch.queue)

  queue-ordered : Ordered left.queue after_batch.queue s.queue.len
  unfolding wake_in_order put_queue forget
  queue-ordered =
      let many : length (entries s.queue) ≡ s.queue.len = length-entries s.queue h.memory.ids h.memory.words_right.queue_short in
      let ids : length left.queue.ids ≡ task_limit = left-during.kept.memory.ids in
      let short : left.queue.len ≤ task_limit = left-during.kept.memory.words_right.queue_short in
      let long : s.queue.len ≤ left.queue.len = omega (arith, length-entries left.queue ids short, ap length left-reached.behind, length-append (entries s.queue) woken, many) in
      subst (λ (u : Store). Ordered left.queue u.queue s.queue.len) (sym batch-is) (order_entries left.queue s.queue.len ids short long)

  -- those who stood there, and behind them these
  queue_after : entries after_batch.queue ≡ entries s.queue ++ behind_them
  unfolding forget
  queue_after =
      let many : length (entries s.queue) ≡ s.queue.len = length-entries s.queue h.memory.ids h.memory.words_right.queue_short in
      sym (take-append-drop s.queue.len (entries after_batch.queue))
      ∙ ap (λ (l : List ℕ). l ++ behind_them) (queue-ordered.front ∙ (ap (take s.queue.len) left-reached.behind ∙ take_at (entries s.queue) woken s.queue.len many))

  -- whom the batch reached, each as often
  same-behind : (t : ℕ) → occurrences behind_them t ≡ occurrences woken t
  unfolding forget
  same-behind t =
      let after : occurrences (entries after_batch.queue) t ≡ occurrences (entries s.queue) t + occurrences behind_them t =
      ap (λ (l : List ℕ). occurrences l t) queue_after ∙ occurrences_append (entries s.queue) behind_them t in
      omega (arith, after, queue-ordered.same t, counted t)

  -- by any test that whom the batch reached passes, and nobody else
  pub queue_by : (p : ℕ → Bool) → ((t : ℕ) → p t ≡ not (absent_from woken t)) → entries after_batch.queue ≡ entries s.queue ++ those p
  queue_by p same =
      queue_after ∙ ap (λ (l : List ℕ). entries s.queue ++ l)
      (those-ascending behind_them p queue-ordered.ascends (λ t. subst (λ (n : ℕ). n ≤ 1) (sym (same-behind t)) (woken_once t)) (λ t l. same-behind t ∙ woken-none t l)
      (λ t. same t ∙ ap (λ (n : ℕ). not (eqb n 0)) (sym (same-behind t))))

  -- b before, and after it only where he was not reached: woken is who was reached, if all of these were so
  pub woken-is : (b : Bool) (t : ℕ) → (1 ≤ occurrences woken t → b ≡ true) → (b && not (b && absent_from woken t)) ≡ not (absent_from woken t)
  woken-is b t k = by b (absent_from woken t) refl k
    where
      by : (b a : Bool) → absent_from woken t ≡ a → (1 ≤ occurrences woken t → b ≡ true) → (b && not (b && a)) ≡ not a
      by true a q f = refl
      by false true q f = refl
      by false false q f = f (omega (arith, eqb-false (occurrences woken t) 0 q))

  -- Of every sound store, lent ones too: the queue after an accepted batch is the queue before and the tasks that were blocked and are not, ascending.
  pub wakes_ascend : entries after_batch.queue ≡ entries s.queue ++ those (λ t. is_blocked (task s t).state && not (is_blocked (task after_batch t).state))
  wakes_ascend = queue_by _ (λ t. ap (λ (b : Bool). is_blocked (task s t).state && not b) (now-blocked t) ∙ woken-is (is_blocked (task s t).state) t (λ o. was t ∙ left-reached.were_blocked t o))
    where
      was : (t : ℕ) → is_blocked (task s t).state ≡ is_blocked (task found t).state
      was t = unfold task forget in refl

      now-blocked : (t : ℕ) → is_blocked (task after_batch t).state ≡ (is_blocked (task s t).state && absent_from woken t)
      now-blocked t =
          ap (λ (u : Store). is_blocked (task u t).state) batch-is ∙ (same t ∙ (left-reached.still t ∙ ap (λ (b : Bool). b && absent_from woken t) (sym (was t))))
        where
          same : (t : ℕ) → is_blocked (task (wake_in_order found left) t).state ≡ is_blocked (task left t).state
          same t = unfold wake_in_order put_queue task in refl
