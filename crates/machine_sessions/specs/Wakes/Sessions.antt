-- Every list of events: the queue after an accepted batch is the queue before and the tasks that it woke, lowest first (WakeOrder of the machine).
use Rattle.std.specs.Prelude.{◌≡◌, Bool, ◌&&◌, ℕ, ◌≤◌}
use Rattle.std.proofs.Math.Path.{refl, ap}
use Rattle.std.proofs.Common.{sym, ◌∙◌, true≢false}
use Rattle.std.proofs.Math.Bool.{true, not}
use mathlib.Core.List.{List, ◌++◌}
use Rattle.std.proofs.Math.Decide.{ℕ_discrete}
use Rattle.asyncio.specs.States.{is_blocked}
use Rattle.queue.specs.Queue.{entries, occurrences}
use Rattle.machine.specs.Store.{Store, LogEntry, task, put_queue, forget}
use Rattle.machine.specs.Events.{Result, wake_in_order}
use Rattle.machine.specs.Machine.{Event, Answer, Step, refusal, accept, step}
use Rattle.machine.specs.History.{blocked_by, stays_blocked, tells, done_only}
use Rattle.machine.specs.Sessions.{Sent, Session, lent_any, happened_by, entry_of, send, session}
use Rattle.machine.specs.WakeOrder.{those, was_woken, WakesInOrder, WakeOrder}
use Rattle.machine_laws.specs.MachineLaws.{accepted-step, refused-step}
use Rattle.machine_theorems.specs.Soundness.RowFacts.{blocked-live}
use Rattle.machine_sessions.specs.Queue.Tracked.{live-is}
use Rattle.machine_sessions.specs.Queue.Following.{Following, Sends, sends, stepped, short, session_follows}
use Rattle.machine_sessions.specs.Wakes.Reached.{absent_from, batch-is, left, left-reached, woken, woken_low, woken-is, queue_by}

module _ (x : Session) (f : Following x) (rs : List Result) (l : List ℕ) where
  abbrev sent : Sent
  sent = record { event = Event.results rs; list = l }

  abbrev s : Store
  s = x.store

  module _ (r : refusal s (Event.results rs) ≡ 0) (p : (lent_any s sent).store ≡ (step s (Event.results rs)).store) (q : (lent_any s sent).answer ≡ (step s (Event.results rs)).answer) where
    answers-done : (lent_any s sent).answer ≡ Answer.done
    answers-done = q ∙ (ap (λ (y : Step). y.answer) (accepted-step s (Event.results rs) r) ∙ (unfold accept in refl))

    log_is : (lent_any s sent).store.log ≡ (left s rs f.whole r).log
    log_is = ap (λ (u : Store). u.log) (p ∙ batch-is s rs f.whole r) ∙ (unfold wake_in_order put_queue in refl)

    -- what is in the history after it, of a task that was blocked before or not
    blocked-after : (t : ℕ) → stays_blocked (send x sent).history t ≡ (stays_blocked x.history t && absent_from (woken s rs f.whole r) t)
    unfolding send stays_blocked entry_of happened_by tells done_only
    blocked-after t =
        ap (λ (a : Answer). blocked_by (stays_blocked x.history t) (happened_by (tells a).accepts (lent_any s sent).store.log) t) answers-done
        ∙ (ap (λ (k : List LogEntry). blocked_by (stays_blocked x.history t) k t) log_is ∙ (left-reached s rs f.whole r).says (stays_blocked x.history t) t)

    -- whom it reached was blocked by the history too
    blocked-before : (t : ℕ) → 1 ≤ occurrences (woken s rs f.whole r) t → stays_blocked x.history t ≡ true
    unfolding forget blocked_by
    blocked-before t o =
        let b : is_blocked (task (forget s) t).state ≡ true = (left-reached s rs f.whole r).were_blocked t o in
        f.tracked.stuck t (live-is (forget s) t (woken_low s rs f.whole r t o) (blocked-live (task (forget s) t).state b)) ∙ b

    in-order-after : entries (send x sent).store.queue ≡ entries s.queue ++ those (was_woken x.history (send x sent).history)
    in-order-after =
        ap (λ (u : Store). entries u.queue) (sent-store ∙ p)
        ∙ queue_by s rs f.whole r _ (λ t. passes t)
      where
        sent-store : (send x sent).store ≡ (lent_any s sent).store
        sent-store = unfold send in refl

        passes : (t : ℕ) → was_woken x.history (send x sent).history t ≡ not (absent_from (woken s rs f.whole r) t)
        passes t = unfold was_woken in (ap (λ (b : Bool). stays_blocked x.history t && not b) (blocked-after t) ∙ woken-is s rs f.whole r (stays_blocked x.history t) t (blocked-before t))

  wakes-one : WakesInOrder x rs l
  wakes-one accepts = by (sends s sent f.whole.memory.sized)
    where
      refuses : (n : ℕ) → (lent_any s sent).answer ≡ Answer.refused n → ⊥
      refuses n q = true≢false (sym accepts ∙ (ap (λ (a : Answer). (tells a).accepts) q ∙ (unfold tells in refl)))

      by : Sends s sent → entries (send x sent).store.queue ≡ entries s.queue ++ those (was_woken x.history (send x sent).history)
      by (short p q) = absurd (refuses 1 q)
      by (stepped p q) = on (ℕ_discrete (refusal s (Event.results rs)) 0)
        where
          on : Dec (refusal s (Event.results rs) ≡ 0) → entries (send x sent).store.queue ≡ entries s.queue ++ those (was_woken x.history (send x sent).history)
          on (yes r) = in-order-after r p q
          on (no ne) = absurd (refuses _ (q ∙ ap (λ (z : Step). z.answer) (refused-step s (Event.results rs) _ refl ne)))

-- Every session from its beginning, and every accepted batch after it.
pub sessions_wake_in_order : WakeOrder
sessions_wake_in_order es i rs l = wakes-one (session es) (session_follows es i) rs l
