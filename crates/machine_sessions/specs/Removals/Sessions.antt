-- Every list of events: each accepted cancel is answered with the number of removed tasks that had been ready (CancelCounts of the machine): a task that is
-- live and not blocked stands in the queue while the session waits, and nobody else does.
use Rattle.std.specs.Prelude.{◌⊎◌, ◌≡◌, Bool, ◌&&◌, List, [], ◌∷◌, ℕ, ◌<◌}
use Rattle.std.proofs.Common.{inl, inr, ◌∙◌}
use Rattle.std.proofs.Math.Path.{refl, sym, ap}
use Rattle.std.proofs.Math.Bool.{true, false, not, true≢false}
use Rattle.std.proofs.Math.Decide.{ℕ_discrete}
use Rattle.asyncio.specs.declared.TaskState.{TaskState}
use Rattle.asyncio.specs.declared.Task.{Task}
use Rattle.asyncio.specs.declared.Moment.{Moment}
use Rattle.asyncio.specs.Limits.{task_limit}
use Rattle.asyncio.specs.States.{is_live, is_ready, is_blocked, is_running}
use Rattle.queue.specs.Queue.{entries}
use Rattle.machine.specs.Tests.{is_in}
use Rattle.machine.specs.Store.{Store, view, task, header, forget}
use Rattle.machine.specs.Scheduler.{live}
use Rattle.machine.specs.Sound.{is_ended, runs_now}
use Rattle.machine.specs.Machine.{Event, Answer, refusal, step}
use Rattle.machine.specs.History.{Entry, lives_by, lives, blocked_by, stays_blocked, says, tells}
use Rattle.machine.specs.CancelCounts.{had_been_ready, ready_removed, CountRight, CountsRight, CancelCounts}
use Rattle.machine.specs.Sessions.{Sent, lent_any, entry_of, Session, begun, send, send_all, session, AllSentInRange}
use Rattle.machine_laws.specs.CountLaws.{count_same}
use Rattle.machine_laws.specs.MachineLaws.{refused-step}
use Rattle.machine_sessions.specs.Queue.Tracked.{live_low}
use Rattle.machine_sessions.specs.Queue.Following.{Following, Sends, sends, stepped, short, send_following, session_follows, queue_right, forget_live, forget-task}
use Rattle.machine_sessions.specs.Places.Agrees.{Agrees}
use Rattle.machine_sessions.specs.Places.AgreesSessions.{send_agrees, session_agrees}
use Rattle.machine_sessions.specs.Stall.Cancelled.{cancel_passes}
use Rattle.machine_sessions.specs.Stall.WaitingSessions.{Waiting, send-waiting, session-waits, a_cancel}
use Rattle.machine_sessions.specs.Removals.Keep.{is_there}
use Rattle.machine_sessions.specs.Removals.Cancels.{is_queued, removed_between, cancel-count}

-- ---- one cancel

-- a task that is live, not blocked and does not run is ready
free-ready : (x : TaskState) → is_live x ≡ true → is_blocked x ≡ false → is_running x ≡ false → is_ready x ≡ true
free-ready TaskState.Absent l b r = absurd (true≢false (sym l))
free-ready TaskState.Unstarted l b r = refl
free-ready TaskState.Running l b r = absurd (true≢false r)
free-ready (TaskState.Woken v) l b r = refl
free-ready (TaskState.Raised e) l b r = refl
free-ready (TaskState.Blocked o) l b r = absurd (true≢false b)

module _ (x : Session) (f : Following x) (k : Waiting x.history x.store) (waits : (header x.store).moment ≡ Moment.Waiting) where
  abbrev s : Store
  s = x.store

  abbrev h : List Entry
  h = x.history

  lives_now : (v : ℕ) → lives h v ≡ live s v
  unfolding lives_by forget
  lives_now v = f.tracked.alive v ∙ forget_live s v

  -- who had been ready stands in the queue
  ready-stands : (v : ℕ) → lives h v ≡ true → stays_blocked h v ≡ false → is_queued s v ≡ true
  unfolding is_queued
  ready-stands v l b = is_there (entries s.queue) v ((k.alive going).stands.stands v low.0 (free-ready (task s v).state low.1 unblocked runs-not) (λ z. z))
    where
      alive-now : live s v ≡ true
      alive-now = sym (lives_now v) ∙ l

      low : (v < (header s).next) × (is_live (task s v).state ≡ true)
      low = live_low s v alive-now

      going : is_ended (header s).moment ≡ false
      going = unfold is_ended in (ap is_ended waits)

      unblocked : is_blocked (task s v).state ≡ false
      unblocked = unfold forget blocked_by in (ap (λ (r : Task). is_blocked r.state) (sym (forget-task s v)) ∙ (sym (f.tracked.stuck v (forget_live s v ∙ alive-now)) ∙ b))

      runs-not : is_running (task s v).state ≡ false
      runs-not = unfold view runs_now in (f.whole.facts.runs v low.0 ∙ ap (λ (m : Moment). runs_now m v) waits)

  -- and the other way round
  queued-ready : (v : ℕ) → (is_queued s v && live s v) ≡ had_been_ready h v
  unfolding is_queued had_been_ready
  queued-ready v = by (is_in v (entries s.queue)) refl
    where
      no_way : (a b : Bool) → lives h v ≡ a → stays_blocked h v ≡ b → is_in v (entries s.queue) ≡ false → false ≡ (a && not b)
      no_way true true p q e = refl
      no_way true false p q e = absurd (true≢false (sym (unfold is_queued in (ready-stands v p q)) ∙ e))
      no_way false b p q e = refl

      by : (b : Bool) → is_in v (entries s.queue) ≡ b → (b && live s v) ≡ (lives h v && not (stays_blocked h v))
      by true e = let q = queue_right x f in rw (← lives_now v, q.live v e, q.unblocked v e)
      by false e = no_way (lives h v) (stays_blocked h v) refl refl e

-- an accepted cancel, on lent memory
module _ (x : Session) (f : Following x) (k : Waiting x.history x.store) (e : Sent) (t : ℕ) (c : e.event ≡ Event.cancel t) (y : Following (send x e)) where
  abbrev before : Store
  before = x.store

  abbrev after_it : Store
  after_it = (lent_any before e).store

  abbrev its_entry : Entry
  its_entry = entry_of e.event (lent_any before e).answer after_it

  removed-now : (v : ℕ) → lives (its_entry ∷ x.history) v ≡ live after_it v
  unfolding send
  removed-now v = unfold lives_by forget in (y.tracked.alive v ∙ forget_live after_it v)

  answered : refusal before (Event.cancel t) ≡ 0 → (lent_any before e).store ≡ (step before (Event.cancel t)).store → (lent_any before e).answer ≡ (step before (Event.cancel t)).answer
      → (lent_any before e).answer ≡ Answer.cancelled (ready_removed x.history its_entry)
  unfolding ready_removed removed_between
  answered r p q =
      q
      ∙ (cancel-count before t f.whole.memory.sized f.whole.memory.ids r).answer
      ∙ ap Answer.cancelled (count_same _ _ task_limit (λ v l. same v))
    where
      waits : (header before).moment ≡ Moment.Waiting
      waits = (cancel_passes before t f.whole r).waits

      join : (a b d : Bool) → (a && (b && d)) ≡ ((a && b) && d)
      join true b d = refl
      join false b d = refl

      same : (v : ℕ) → (is_queued before v && removed_between before (step before (Event.cancel t)).store v) ≡ (had_been_ready x.history v && not (lives (its_entry ∷ x.history) v))
      same v = rw (← p, removed-now v, ← queued-ready x f k waits v) (join (is_queued before v) (live before v) (not (live after_it v)))

  one-counts : CountRight x.history its_entry
  unfolding CountRight entry_of
  one-counts says_so accepts = by (sends before e f.whole.memory.sized)
    where
      refuses : (n : ℕ) → (lent_any before e).answer ≡ Answer.refused n → ⊥
      refuses n q = true≢false (sym accepts ∙ (ap (λ (a : Answer). (tells a).accepts) q ∙ (unfold tells in refl)))

      by : Sends before e → (lent_any before e).answer ≡ Answer.cancelled (ready_removed x.history its_entry)
      by (short p q) = absurd (refuses 1 q)
      by (stepped p q) = on (ℕ_discrete (refusal before (Event.cancel t)) 0)
        where
          on : Dec (refusal before (Event.cancel t) ≡ 0) → (lent_any before e).answer ≡ Answer.cancelled (ready_removed x.history its_entry)
          on (yes r) = answered r (p ∙ ap (λ (v : Event). (step before v).store) c) (q ∙ ap (λ (v : Event). (step before v).answer) c)
          on (no ne) = absurd (refuses _ (q ∙ ap (λ (v : Event). (step before v).answer) c ∙ ap (λ z. z.answer) (refused-step before (Event.cancel t) _ refl ne)))

-- ---- sessions

send_counts : (x : Session) (e : Sent) → Following x → Following (send x e) → Waiting x.history x.store → CountsRight x.history → CountsRight (send x e).history
unfolding send CountsRight
send_counts x e f y k d = (by (a_cancel e.event), d)
  where
    by : ((t : ℕ) × (e.event ≡ Event.cancel t)) ⊎ ((says e.event).cancels ≡ false)
        → CountRight x.history (entry_of e.event (lent_any x.store e).answer (lent_any x.store e).store)
    by (inl p) = one-counts x f k e p.0 p.1 y
    by (inr p) = unfold CountRight entry_of in (λ says_so accepts. absurd (true≢false (sym says_so ∙ p)))

sessions_count : (es : List Sent) (x : Session) → AllSentInRange es → Following x → Agrees x.history x.store → Waiting x.history x.store → CountsRight x.history
    → CountsRight (send_all x es).history
unfolding send_all AllSentInRange
sessions_count [] x i f ag k d = d
sessions_count (e ∷ es) x i f ag k d =
    let y = send_following x e i.0 f in
    sessions_count es (send x e) i.1 y (send_agrees x e i.0 f ag) (send-waiting x e i.0 f ag k) (send_counts x e f y k d)

-- Every session from its beginning: each accepted cancel of it is answered with the number of removed tasks that had been ready.
pub sessions_count_cancels : CancelCounts
unfolding session begun send_all AllSentInRange CountsRight
sessions_count_cancels es i = sessions_count es _ i (session_follows [] tt) (session_agrees [] tt) (session-waits [] tt) tt
