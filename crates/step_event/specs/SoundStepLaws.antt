-- An event on a sound store of the right lengths: the two tests of `dispatch` pass, and the step is the checked one.
use Rattle.std.specs.Prelude.{◌≡◌, true, List, [], ℕ, ◌≤◌, length}
use Rattle.std.proofs.Math.Path.{refl, sym}
use Rattle.std.proofs.Common.{◌∙◌}
use Rattle.asyncio.specs.Limits.{object_limit, tasks_length, objects_length, places_length}
use Rattle.queue.specs.declared.ReadyQueue.{ReadyQueue}
use Rattle.machine.specs.Store.{Store, LogEntry, store_of, forget}
use Rattle.machine.specs.Sound.{sound}
use Rattle.machine.specs.Machine.{Event}
use Rattle.machine.specs.Lent.{slices_right, lengths_right, answer_calls, written, lent_step}
use Rattle.machine_laws.specs.TestLaws.{and-true}
use Rattle.machine_laws.specs.SoundLaws.{sound-forget}
use Rattle.exec_switch.specs.Answer.{answer_of, stepped_of}
use Rattle.exec_switch.specs.declared.answer.Answer.{Answer}
use Rattle.step_checks.specs.Checked.{checked}
use Rattle.step_checks.specs.Lent.{lent_of}
use Rattle.step_checks.specs.LentLaws.{lengths_have, steps_on}

module _ (ts os ps : List ℕ) (q : ReadyQueue) where
  module _ (cs : List ℕ) (i : lengths_right (store_of ts os ps q []) cs ≡ true) where
    pub right_lengths : (length ts ≡ tasks_length) × (length os ≡ objects_length) × (length ps ≡ places_length) × (object_limit ≤ length cs)
    unfolding lengths_right slices_right
    right_lengths = lengths_have (length ts) (length os) (length ps) (length cs) refl i

    pub right_slices : (l : List LogEntry) → slices_right (store_of ts os ps q l) ≡ true
    unfolding lengths_right slices_right
    right_slices l = (and-true _ _ i).0

  -- soundness does not look at the log
  pub sound_logged : sound (store_of ts os ps q []) ≡ true → (l : List LogEntry) → sound (store_of ts os ps q l) ≡ true
  sound_logged k l =
      let f : forget (store_of ts os ps q l) ≡ store_of ts os ps q [] = unfold forget in refl in
      sym (sound-forget (store_of ts os ps q l)) ∙ rw f k

  pub steps_soundly : (cs : List ℕ) (l : List LogEntry) (e : Event) → lengths_right (store_of ts os ps q []) cs ≡ true → sound (store_of ts os ps q []) ≡ true
      → {ts' os' ps' cs' : List ℕ} {q' : ReadyQueue} {n : ℕ} (a : Answer)
      → stepped_of (store_of ts' os' ps' q' (checked (store_of ts os ps q []) e).store.log) a ≡ checked (store_of ts os ps q []) e
      → (cs' ≡ written (answer_of os' a) cs) × (n ≡ length (answer_calls (answer_of os' a)))
      → lent_of (store_of ts' os' ps' q' (lent_step (store_of ts os ps q l) cs e).store.log) cs' a n ≡ lent_step (store_of ts os ps q l) cs e
  unfolding lengths_right slices_right
  steps_soundly cs l e i k a r w = steps_on ts os ps q cs l e refl i refl (sound_logged k l) a r w
