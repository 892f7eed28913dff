use Rattle.std.specs.Prelude.{◌≡◌, ℕ, List, []}
use Rattle.std.proofs.Common.{sym, ap, ◌∙◌, MutBor}
use Rattle.queue.specs.declared.ReadyQueue.{ReadyQueue}
use Rattle.machine.specs.Store.{store_of}
use Rattle.machine.specs.Machine.{Event}
use Rattle.exec_switch.specs.Answer.{answer_or, stepped_of}
use Rattle.exec_switch.specs.declared.answer.Answer.{Answer}
use Rattle.step_checks.specs.Checked.{checked}
use Rattle.step_checks.specs.LentLaws.{array-words}
use Rattle.step_event.specs.SoundStepLaws.{right_lengths, steps_soundly}
use Rattle.step_event.proofs.step.Goals as goal
use Rattle.step_event.proofs.step.Goals.{in-Ok, in-Err}

pub unwrap-store_tasks-requires : goal.unwrap-store_tasks-requires
unwrap-store_tasks-requires c = let h = right_lengths c.args.tasks.now c.args.objects.now c.args.places.now c.args.queue c.args.calls.now c.requires.0 in c.as_mut_array.ensures.variant.1 h.0

pub unwrap-store_objects-requires : goal.unwrap-store_objects-requires
unwrap-store_objects-requires c = let h = right_lengths c.args.tasks.now c.args.objects.now c.args.places.now c.args.queue c.args.calls.now c.requires.0 in c.as_mut_array-2.ensures.variant.1 h.1

pub unwrap-store_places-requires : goal.unwrap-store_places-requires
unwrap-store_places-requires c = let h = right_lengths c.args.tasks.now c.args.objects.now c.args.places.now c.args.queue c.args.calls.now c.requires.0 in c.as_mut_array-3.ensures.variant.1 h.2

pub write_calls-count-requires : goal.write_calls-count-requires
write_calls-count-requires c = let h = right_lengths c.args.tasks.now c.args.objects.now c.args.places.now c.args.queue c.args.calls.now c.requires.0 in h.3

-- the step of the arrays is the step of the slices
of_slices : {ts os ps us vs ws ts' os' ps' : List ℕ} (q : ReadyQueue) {q' : ReadyQueue} (e : Event) {r a : Answer} → us ≡ ts → vs ≡ os → ws ≡ ps → r ≡ a
    → stepped_of (store_of ts' os' ps' q' (checked (store_of us vs ws q []) e).store.log) r ≡ checked (store_of us vs ws q []) e
    → stepped_of (store_of ts' os' ps' q' (checked (store_of ts os ps q []) e).store.log) a ≡ checked (store_of ts os ps q []) e
of_slices q e i j k h r = rw (← i, ← j, ← k, ← h) r

pub returns : goal.returns
returns c = λ l.
    let answer : answer_or c.checked.result ≡ c.match-checked.answer = elim c.match-checked.branch [
      | in-Ok w ↦ ap answer_or w.in-Ok.is ∙ sym w.answer-is
      | in-Err w ↦ ap answer_or w.in-Err.is ∙ sym w.answer-is
    ] in
    let stepped = of_slices _ _ (array-words (λ (x : MutBor (List ℕ)). x.now) _ _ c.unwrap-store_tasks.ensures c.as_mut_array.ensures.cases) (array-words (λ (x : MutBor (List ℕ)). x.now) _ _ c.unwrap-store_objects.ensures c.as_mut_array-2.ensures.cases) (array-words (λ (x : MutBor (List ℕ)). x.now) _ _ c.unwrap-store_places.ensures c.as_mut_array-3.ensures.cases) answer (c.checked.ensures []) in
    steps_soundly c.args.tasks.now c.args.objects.now c.args.places.now c.args.queue c.args.calls.now l _ c.requires.0 c.requires.1 c.match-checked.answer stepped c.write_calls-count.ensures
