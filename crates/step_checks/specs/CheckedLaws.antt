-- How an event comes to be refused or done: the checks one by one.
use Rattle.std.proofs.Math.Path.{◌≡◌}
use Rattle.std.specs.Prelude.{refl, Bool, true, false, List, [], ◌∷◌, ℕ, zero, eqb, Result, Ok, Err}
use Rattle.std.proofs.Common.{sym, ap, ◌∙◌, arith}
use Rattle.asyncio.specs.States.{pick}
use Rattle.asyncio.specs.declared.HeapId.{HeapId}
use Rattle.asyncio.specs.declared.TaskId.{TaskId}
use Rattle.asyncio.specs.declared.Moment.{Moment}
use Rattle.rows.specs.Tables.{header_at}
use Rattle.queue.specs.declared.ReadyQueue.{ReadyQueue}
use Rattle.machine.specs.Store.{Store, LogEntry, store_of, header}
use Rattle.machine.specs.Sound.{is_ended}
use Rattle.machine.specs.Machine as machine
use Rattle.machine.specs.Machine.{Event, Step, is_run, in_running, in_waiting, in_both, first_refusal, refusals, accept, decide, runner}
use Rattle.exec_switch.specs.Answer.{stepped_of}
use Rattle.exec_switch.specs.Refusal.{refusal_number}
use Rattle.exec_switch.specs.declared.answer.Answer.{Answer}
use Rattle.exec_switch.specs.declared.answer.Refusal.{Refusal}
use Rattle.step_checks.specs.Checked.{checked, turn_of}

-- the first check meets the event
pub met : (n : ℕ) (b : Bool) (rs : List (ℕ × Bool)) → b ≡ true → first_refusal ((n, b) ∷ rs) ≡ n
unfolding first_refusal
met n b rs e = rw e

-- it does not; then the others
pub unmet : (n : ℕ) (b : Bool) (rs : List (ℕ × Bool)) → b ≡ false → first_refusal ((n, b) ∷ rs) ≡ first_refusal rs
unfolding first_refusal
unmet n b rs e = rw e

-- no check is left
pub none_met : first_refusal [] ≡ 0
unfolding first_refusal
none_met = refl

-- no refusal has the number 0
not_zero : (n : Refusal) → eqb (refusal_number n) 0 ≡ false
not_zero Refusal.WrongLength = refl
not_zero Refusal.NotSound = refl
not_zero Refusal.SessionEnded = refl
not_zero Refusal.WrongMoment = refl
not_zero Refusal.Unknown = refl
not_zero Refusal.PendingAlready = refl
not_zero Refusal.NoRoom = refl
not_zero Refusal.NoCallNumber = refl
not_zero Refusal.MainCancelled = refl
not_zero Refusal.BadResult = refl

module _ (s : Store) (e : Event) where
  -- refused: the store as it was
  pub refuses : (n : Refusal) → first_refusal (refusals s e) ≡ refusal_number n → stepped_of s (Answer.Refused n) ≡ checked s e
  unfolding checked decide
  refuses n h = rw (h, not_zero n)

  -- done
  pub accepts : first_refusal (refusals s e) ≡ 0 → checked s e ≡ accept s e
  unfolding checked decide
  accepts h = rw h

-- ---- the moment

module _ (s : Store) (e : Event) (rs : List (ℕ × Bool)) {x : Result TaskId Refusal} (f : x ≡ turn_of (header s).moment) (g : refusals s e ≡ in_running s rs) where
  running-refused : (m : Moment) → (header s).moment ≡ m → (n : Refusal) → turn_of m ≡ Err n → stepped_of s (Answer.Refused n) ≡ checked s e
  unfolding in_running first_refusal is_ended is_run
  running-refused (Moment.Running t) i n h = let z : ◌≡◌ {A = ℕ} 0 1 = cc in absurd (omega arith)
  running-refused Moment.Waiting i n h = let z : n ≡ Refusal.WrongMoment = cc in rw z (refuses s e Refusal.WrongMoment (rw (g, i)))
  running-refused Moment.Ended i n h = let z : n ≡ Refusal.SessionEnded = cc in rw z (refuses s e Refusal.SessionEnded (rw (g, i)))

  -- an event of running, while none runs
  pub turn-refuses : (n : Refusal) → x ≡ Err n → stepped_of s (Answer.Refused n) ≡ checked s e
  turn-refuses n h = running-refused (header s).moment refl n (sym f ∙ h)

  running-left : (m : Moment) → (header s).moment ≡ m → (t : TaskId) → turn_of m ≡ Ok t → first_refusal (refusals s e) ≡ first_refusal rs
  unfolding in_running first_refusal is_ended is_run
  running-left (Moment.Running u) i t h = rw (g, i)
  running-left Moment.Waiting i t h = let z : ◌≡◌ {A = ℕ} 0 1 = cc in absurd (omega arith)
  running-left Moment.Ended i t h = let z : ◌≡◌ {A = ℕ} 0 1 = cc in absurd (omega arith)

  module _ (t : TaskId) (h : x ≡ Ok t) where
    -- a task runs: a later check meets the event
    pub check_refuses : (n : Refusal) → first_refusal rs ≡ refusal_number n → stepped_of s (Answer.Refused n) ≡ checked s e
    check_refuses n k = refuses s e n (running-left (header s).moment refl t (sym f ∙ h) ∙ k)

    -- none does
    pub check_accepts : first_refusal rs ≡ 0 → checked s e ≡ accept s e
    check_accepts k = accepts s e (running-left (header s).moment refl t (sym f ∙ h) ∙ k)

-- ---- the running task

runs_as : (m : Moment) (t : TaskId) → turn_of m ≡ Ok t → m ≡ Moment.Running t
runs_as (Moment.Running u) t h = let z : u ≡ t = cc in ap Moment.Running z
runs_as Moment.Waiting t h = let z : ◌≡◌ {A = ℕ} 0 1 = cc in absurd (omega arith)
runs_as Moment.Ended t h = let z : ◌≡◌ {A = ℕ} 0 1 = cc in absurd (omega arith)

-- who runs is in the moment
pub turn_runs : (os : List ℕ) {x : Result TaskId Refusal} → x ≡ turn_of (header_at os).moment → (t : TaskId) → x ≡ Ok t → (header_at os).moment ≡ Moment.Running t
turn_runs os f t h = runs_as (header_at os).moment t (sym f ∙ h)

-- an object was made
pub made-answers : {u v : Store} {o : HeapId} {n : ℕ} → u ≡ v → o.0 ≡ n → stepped_of u (Answer.Made o) ≡ record { store = v; answer = machine.Answer.made n }
made-answers e i = rw (e, i)
