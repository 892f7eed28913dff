-- A resume starts no task: it is accepted in waiting, where every live task has started, and it spawns none.
use Rattle.std.specs.Prelude.{◌≡◌, Bool, true, false, not, ℕ, zero, suc, ◌<◌, eqb, ltb}
use Rattle.std.proofs.Math.Path.{refl, ap}
use Rattle.std.proofs.Common.{sym, subst, ◌∙◌, true≢false, ltb-true}
use mathlib.Core.List.{List, [], ◌∷◌}
use Rattle.std.proofs.Math.Option.{Option, none, some}
use Rattle.std.proofs.Math.Decide.{ℕ_discrete}
use Rattle.asyncio.specs.declared.Moment.{Moment}
use Rattle.asyncio.specs.States.{pick, is_live}
use Rattle.machine.specs.Store.{Store, LogEntry, task, header, forget, spawned, blocked, reached, exited, removed}
use Rattle.machine.specs.Scheduler.{live}
use Rattle.machine.specs.Events.{start, runs}
use Rattle.machine.specs.Machine.{Event, Answer, Step, in_waiting, refusals, refusal, step}
use Rattle.machine.specs.Sound.{is_ended}
use Rattle.machine.specs.History.{Entry, Says, says, nothing_said, said, tells, lives_by, lives, spawned_by, spawned_for, coroutine_of}
use Rattle.machine.specs.Sessions.{Sent, session, entry_of, lent_any, InRange, AllSentInRange}
use Rattle.machine.specs.Honest.{SpawnHonest, LogHonest}
use Rattle.machine_laws.specs.TestLaws.{and-true}
use Rattle.machine_laws.specs.DeliveryLaws.{absurd_some}
use Rattle.machine_laws.specs.MachineLaws.{refused-step}
use Rattle.machine_laws.specs.SoundLaws.{refusal-rest}
use Rattle.machine_theorems.specs.Soundness.Preserved.{waiting}
use Rattle.machine_sessions.specs.Queue.Following.{Sends, stepped, short, sends}
use Rattle.machine_sessions.specs.Honest.HonestEnds.{ControlLeft, StartTold}
use Rattle.machine_sessions.specs.Honest.HonestHolds.{Kept}
use Rattle.machine_sessions.specs.Honest.HonestEntries.{session_honest, sent_entry, entry_logged, live_words}

-- ---- an event without an await spawns nobody

module _ (h : List Entry) (x : Entry) (q : (said x).awaits ≡ none) where
  not-spawned : (hs : List LogEntry) (t c : ℕ) → SpawnHonest h x hs t c → ⊥
  not-spawned hs t c k = absurd_some (sym q ∙ k.awaits)

  -- who lives, has lived
  lived : (b : Bool) (hs : List LogEntry) (t : ℕ) → LogHonest h x hs → lives_by b hs t ≡ true → b ≡ true
  unfolding LogHonest lives_by
  lived b [] t k e = e
  lived b (spawned u c ∷ hs) t k e = absurd (not-spawned hs u c k.0)
  lived b (blocked u ∷ hs) t k e = lived b hs t k.1 e
  lived b (reached u ∷ hs) t k e = lived b hs t k.1 e
  lived b (exited u ∷ hs) t k e = lived b hs t k.1 (and-true (not (eqb u t)) (lives_by b hs t) e).1
  lived b (removed u ∷ hs) t k e = lived b hs t k.1 (and-true (not (eqb u t)) (lives_by b hs t) e).1

  -- and was spawned before
  spawned-before : (b : Option ℕ) (hs : List LogEntry) (t : ℕ) → LogHonest h x hs → spawned_by b hs t ≡ b
  unfolding LogHonest spawned_by
  spawned-before b [] t k = refl
  spawned-before b (spawned u c ∷ hs) t k = absurd (not-spawned hs u c k.0)
  spawned-before b (blocked u ∷ hs) t k = spawned-before b hs t k.1
  spawned-before b (reached u ∷ hs) t k = spawned-before b hs t k.1
  spawned-before b (exited u ∷ hs) t k = spawned-before b hs t k.1
  spawned-before b (removed u ∷ hs) t k = spawned-before b hs t k.1

-- a resume awaits nothing
resume_no_await : (x : Entry) → x.event ≡ Event.resume → (said x).awaits ≡ none
unfolding said says nothing_said
resume_no_await x q = by (tells x.answer).accepts
  where
    by : (b : Bool) → (elim b as (λ (c : Bool). Says) [ true ↦ says x.event | false ↦ nothing_said ]).awaits ≡ none
    by true = ap (λ (e : Event). (says e).awaits) q
    by false = refl

-- ---- an accepted resume

live_low : (s : Store) (t : ℕ) → live s t ≡ true → (t < (header s).next) × (is_live (task s t).state ≡ true)
unfolding live
live_low s t e = by (ltb t (header s).next) refl e
  where
    by : (b : Bool) → ltb t (header s).next ≡ b → pick b (is_live (task s t).state) false ≡ true → (t < (header s).next) × (is_live (task s t).state ≡ true)
    by true q d = (ltb-true t (header s).next q, d)
    by false q d = absurd (true≢false (sym d))

module _ (es : List Sent) (e : Sent) (i : AllSentInRange es) (j : InRange e.event) (t c f : ℕ) (is : e.event ≡ Event.resume) (gives : (tells (sent_entry es e).answer).control ≡ some (runs t (start c f))) where
  abbrev s : Store
  s = (session es).store

  abbrev h : List Entry
  h = (session es).history

  abbrev x : Entry
  x = sent_entry es e

  -- an answer that gives control is no refusal
  not-refused : (n : ℕ) → (lent_any s e).answer ≡ Answer.refused n → ⊥
  unfolding entry_of
  not-refused n q = absurd_some (sym (ap (λ (a : Answer). (tells a).control) q ∙ none-controls n) ∙ gives)
    where
      none-controls : (n : ℕ) → (tells (Answer.refused n)).control ≡ none
      none-controls n = unfold tells in refl

  waiting-now : (header s).moment ≡ Moment.Waiting
  unfolding in_waiting refusals
  waiting-now = by (sends s e (session_honest es i).follows.whole.memory.sized)
    where
      at : (lent_any s e).answer ≡ (step s e.event).answer → Dec (refusal s e.event ≡ 0) → (header s).moment ≡ Moment.Waiting
      at q (yes r) = (waiting s (session_honest es i).follows.whole [] (refusal-rest s Event.resume (subst (λ (v : Event). refusal s v ≡ 0) is r))).0
      at q (no ne) = absurd (not-refused (refusal s e.event) (q ∙ ap (λ (y : Step). y.answer) (refused-step s e.event (refusal s e.event) refl ne)))

      by : Sends s e → (header s).moment ≡ Moment.Waiting
      by (stepped p q) = at q (ℕ_discrete (refusal s e.event) 0)
      by (short p q) = absurd (not-refused 1 q)

  kept : Kept h s
  kept = (session_honest es i).kept (ap is_ended waiting-now ∙ (unfold is_ended in refl))

  no_await : (said x).awaits ≡ none
  no_await = resume_no_await x (unfold entry_of in is)

  left : ControlLeft h x x.happened (some (runs t (start c f)))
  left = subst (ControlLeft h x x.happened) gives (entry_logged es e i j).control

  told-it : (lives_by (lives h t) x.happened t ≡ true) × (spawned_by (spawned_for h t) x.happened t ≡ some c) × (coroutine_of h t ≡ none)
  unfolding ControlLeft StartTold
  told-it = (left.0, left.2.0, left.2.1)

  was-live : live s t ≡ true
  was-live = sym (live_words (session es) (session_honest es i).follows t) ∙ lived h x no_await (lives h t) x.happened t (entry_logged es e i j).log told-it.0

  was-spawned : spawned_for h t ≡ some c
  was-spawned = sym (spawned-before h x no_await (spawned_for h t) x.happened t (entry_logged es e i j).log) ∙ told-it.1

  -- A resume starts no task.
  pub resume-starts-none : ⊥
  resume-starts-none = by t refl
    where
      not_main : spawned_for h 0 ≡ none
      not_main = unfold forget spawned_by in kept.spawns_are.not_main

      by : (v : ℕ) → t ≡ v → ⊥
      by zero q = absurd_some (sym not_main ∙ subst (λ (m : ℕ). spawned_for h m ≡ some c) q was-spawned)
      by (suc v) q =
          let b = live_low s (suc v) (subst (λ (m : ℕ). live s m ≡ true) q was-live) in
          absurd_some (sym (subst (λ (m : ℕ). coroutine_of h m ≡ none) q told-it.2) ∙ ((session_honest es i).agrees.told.tasks v b.0 b.1).started (kept.idle.begun waiting-now (suc v) b.0))
