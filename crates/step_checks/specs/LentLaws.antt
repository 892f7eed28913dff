-- An event on lent memory: refused for a length, refused for a store that is not sound, or a step of the machine.
use Rattle.std.specs.Prelude.{◌≡◌, Bool, true, false, not, ◌&&◌, ℕ, ◌≤◌, eqb, leb, length, Option, Some, MatchOption}
use Rattle.std.specs.Array.{IsWholeChunk}
use Rattle.std.proofs.Math.Path.{refl, sym, ap}
use Rattle.std.proofs.Common.{◌∙◌, true≢false, arith, eqb-true, leb-true}
use mathlib.Core.List.{List, [], ◌∷◌}
use Rattle.asyncio.specs.Limits.{object_limit, tasks_length, objects_length, places_length}
use Rattle.queue.specs.declared.ReadyQueue.{ReadyQueue}
use Rattle.machine.specs.Store.{Store, LogEntry, store_of, forget}
use Rattle.machine.specs.Scheduler.{pending_calls_in}
use Rattle.machine.specs.Sound.{sound}
use Rattle.machine.specs.Events.{waits}
use Rattle.machine.specs.Machine as machine
use Rattle.machine.specs.Machine.{Event, Step, first_refusal, refusals, refusal, decide, step}
use Rattle.machine.specs.Lent.{Lent, slices_right, lengths_right, write_calls, control_calls, answer_calls, written, lent_as, lent_by, lent_step}
use Rattle.machine_laws.specs.TestLaws.{and-true}
use Rattle.machine_laws.specs.SoundLaws.{refusals-forget}
use Rattle.exec_switch.specs.Answer.{answer_of, stepped_of}
use Rattle.exec_switch.specs.LogLaws.{same_step}
use Rattle.exec_switch.specs.declared.control.Control.{Control}
use Rattle.exec_switch.specs.declared.answer.Answer.{Answer}
use Rattle.exec_switch.specs.declared.answer.Refusal.{Refusal}
use Rattle.step_checks.specs.Checked.{checked}
use Rattle.step_checks.specs.CheckedLaws.{met, unmet}
use Rattle.step_checks.specs.Lent.{are_slices, is_wait, lent_of}

-- ---- the list of calls

pub wait_written : (os : List ℕ) (a : Answer) → is_wait a ≡ true → (l : List ℕ)
    → (written (answer_of os a) l ≡ write_calls (pending_calls_in os) l) × (length (answer_calls (answer_of os a)) ≡ length (pending_calls_in os))
unfolding written write_calls answer_calls control_calls
wait_written os (Answer.Made o) e l = absurd (true≢false (sym e))
wait_written os (Answer.Called n) e l = absurd (true≢false (sym e))
wait_written os (Answer.Switched (Control.Runs t h)) e l = absurd (true≢false (sym e))
wait_written os (Answer.Switched Control.Waits) e l = (refl, refl)
wait_written os (Answer.Awaited (Control.Runs t h) n) e l = absurd (true≢false (sym e))
wait_written os (Answer.Awaited Control.Waits n) e l = (refl, refl)
wait_written os Answer.Done e l = absurd (true≢false (sym e))
wait_written os (Answer.Cancelled n) e l = absurd (true≢false (sym e))
wait_written os Answer.Stalled e l = absurd (true≢false (sym e))
wait_written os (Answer.Finished v) e l = absurd (true≢false (sym e))
wait_written os (Answer.FinishedError x) e l = absurd (true≢false (sym e))
wait_written os (Answer.Eager b) e l = absurd (true≢false (sym e))
wait_written os (Answer.Refused n) e l = absurd (true≢false (sym e))

pub none_written : (os : List ℕ) (a : Answer) → is_wait a ≡ false → (l : List ℕ) → (written (answer_of os a) l ≡ l) × (length (answer_calls (answer_of os a)) ≡ 0)
unfolding written write_calls answer_calls control_calls
none_written os (Answer.Made o) e l = (refl, refl)
none_written os (Answer.Called n) e l = (refl, refl)
none_written os (Answer.Switched (Control.Runs t h)) e l = (refl, refl)
none_written os (Answer.Switched Control.Waits) e l = absurd (true≢false e)
none_written os (Answer.Awaited (Control.Runs t h) n) e l = (refl, refl)
none_written os (Answer.Awaited Control.Waits n) e l = absurd (true≢false e)
none_written os Answer.Done e l = (refl, refl)
none_written os (Answer.Cancelled n) e l = (refl, refl)
none_written os Answer.Stalled e l = (refl, refl)
none_written os (Answer.Finished v) e l = (refl, refl)
none_written os (Answer.FinishedError x) e l = (refl, refl)
none_written os (Answer.Eager b) e l = (refl, refl)
none_written os (Answer.Refused n) e l = (refl, refl)

-- ---- lengths

pub slices_have : (ts os ps : ℕ) {b : Bool} → b ≡ are_slices ts os ps → b ≡ true → (ts ≡ tasks_length) × (os ≡ objects_length) × (ps ≡ places_length)
slices_have ts os ps e i =
    let a = and-true (eqb ts tasks_length && eqb os objects_length) (eqb ps places_length) (sym e ∙ i) in
    let b = and-true (eqb ts tasks_length) (eqb os objects_length) a.0 in
    (eqb-true ts tasks_length b.0, eqb-true os objects_length b.1, eqb-true ps places_length a.1)

pub lengths_have : (ts os ps cs : ℕ) {b : Bool} → b ≡ (are_slices ts os ps && leb object_limit cs) → b ≡ true
    → (ts ≡ tasks_length) × (os ≡ objects_length) × (ps ≡ places_length) × (object_limit ≤ cs)
lengths_have ts os ps cs e i =
    let a = and-true (are_slices ts os ps) (leb object_limit cs) (sym e ∙ i) in
    let b = slices_have ts os ps refl a.0 in
    (b.0, b.1, b.2, leb-true object_limit cs a.1)

-- the array that a slice of the right length is lent as has its words
pub array-words : {Y : Type 0} (now : Y → List ℕ) {xs : List ℕ} (P : Type 0) (n : ℕ) {r : Option Y} {y : Y} → r ≡ Some y → MatchOption r P (λ z. IsWholeChunk xs (now z) n) → now y ≡ xs
array-words now {xs} P n {r} {y} e m = let w : IsWholeChunk xs (now y) n = rw e at m in w.same

-- ---- an event

-- of a sound store
pub step-checked : (s : Store) (e : Event) → sound s ≡ true → step s e ≡ checked (forget s) e
unfolding step refusal checked
step-checked s e h =
    let a : first_refusal ((2, not (sound s)) ∷ refusals s e) ≡ first_refusal (refusals s e) = unmet 2 (not (sound s)) (refusals s e) (rw h) in
    rw (a, refusals-forget s e)

-- of one that is not
pub step_unsound : (s : Store) (e : Event) → sound s ≡ false → step s e ≡ record { store = forget s; answer = machine.Answer.refused 2 }
unfolding step refusal decide
step_unsound s e h =
    let a : first_refusal ((2, not (sound s)) ∷ refusals s e) ≡ 2 = met 2 (not (sound s)) (refusals s e) (rw h) in
    rw a

-- where the log of a step stands does not matter
pub logs : {x : Step} {ts os ps : List ℕ} {q : ReadyQueue} (l : List LogEntry) (a : Answer) → stepped_of (store_of ts os ps q l) a ≡ x → stepped_of (store_of ts os ps q x.store.log) a ≡ x
logs l a r = same_step (sym r) a refl

-- a step, and the list of calls after it
abbrev lent_from : Step → List ℕ → Lent
lent_from x cs = lent_as x.store (written x.answer cs) x.answer

-- refusal 2, on lent memory
refused_lent : (s : Store) (cs : List ℕ) → lent_from (record { store = forget s; answer = machine.Answer.refused 2 }) cs
    ≡ lent_of (store_of s.tasks s.objects s.places s.queue []) cs (Answer.Refused Refusal.NotSound) 0
unfolding written write_calls forget answer_calls
refused_lent s cs = refl

module _ (ts os ps : List ℕ) (q : ReadyQueue) (cs : List ℕ) (l : List LogEntry) (e : Event) where
  abbrev given : Store
  given = store_of ts os ps q l

  abbrev clean : Store
  clean = store_of ts os ps q []

  module _ {b : Bool} (g : b ≡ (are_slices (length ts) (length os) (length ps) && leb object_limit (length cs))) where
    pub wrong_length : b ≡ false → lent_of (store_of ts os ps q (lent_step given cs e).store.log) cs (Answer.Refused Refusal.WrongLength) 0 ≡ lent_step given cs e
    unfolding lent_step lengths_right slices_right lent_by answer_calls
    wrong_length i = rw (sym g ∙ i)

    module _ (i : b ≡ true) {u : Bool} (h : u ≡ sound given) where
      right : lent_step given cs e ≡ lent_from (step given e) cs
      unfolding lent_step lengths_right slices_right lent_by
      right = rw (sym g ∙ i)

      pub not_sound : u ≡ false → lent_of (store_of ts os ps q (lent_step given cs e).store.log) cs (Answer.Refused Refusal.NotSound) 0 ≡ lent_step given cs e
      not_sound k =
          let r : lent_step given cs e ≡ lent_of clean cs (Answer.Refused Refusal.NotSound) 0 = right ∙ ap (λ (z : Step). lent_from z cs) (step_unsound given e (sym h ∙ k)) ∙ refused_lent given cs in
          ap (λ (x : Lent). lent_of (store_of ts os ps q x.store.log) cs (Answer.Refused Refusal.NotSound) 0) r ∙ sym r

      pub steps_on : u ≡ true → {ts' os' ps' cs' : List ℕ} {q' : ReadyQueue} {n : ℕ} (a : Answer)
          → stepped_of (store_of ts' os' ps' q' (checked clean e).store.log) a ≡ checked clean e
          → (cs' ≡ written (answer_of os' a) cs) × (n ≡ length (answer_calls (answer_of os' a)))
          → lent_of (store_of ts' os' ps' q' (lent_step given cs e).store.log) cs' a n ≡ lent_step given cs e
      steps_on k {ts'} {os'} {ps'} {cs'} {q'} {n} a r w =
          let f : forget given ≡ clean = unfold forget in refl in
          let s : step given e ≡ checked clean e = step-checked given e (sym h ∙ k) ∙ ap (λ (z : Store). checked z e) f in
          let x : lent_step given cs e ≡ lent_from (checked clean e) cs = right ∙ ap (λ (z : Step). lent_from z cs) s in
          ap (λ (z : Lent). lent_of (store_of ts' os' ps' q' z.store.log) cs' a n) x
          ∙ ap (λ (c : List ℕ). lent_of (store_of ts' os' ps' q' (checked clean e).store.log) c a n) w.0
          ∙ ap (λ (m : ℕ). lent_of (store_of ts' os' ps' q' (checked clean e).store.log) (written (answer_of os' a) cs) a m) w.1
          ∙ ap (λ (z : Step). lent_from z cs) r ∙ sym x
