use Rattle.std.specs.Prelude.{◌≡◌, ℕ, List, [], take, replicate}
use Rattle.std.proofs.Common.{ap, ◌∙◌, arith, rules, MutBor}
use Rattle.queue.specs.declared.ReadyQueue.{ReadyQueue}
use Rattle.machine.specs.Store.{store_of}
use Rattle.machine.specs.Machine as machine
use Rattle.exec_switch.specs.Answer.{stepped_of}
use Rattle.exec_switch.specs.declared.answer.Answer.{Answer}
use Rattle.step_checks.specs.Checked.{checked}
use Rattle.step_checks.specs.LentLaws.{array-words}
use Rattle.step_event.specs.SoundStepLaws.{right_lengths}
use Rattle.drive_reader.specs.ItemLaws.{items_taken}
use Rattle.drive_answer.specs.DriveLaws.{same-event, gather_drove}
use Rattle.drive_answer.proofs.answered.gather_line.Goals as goal

pub unwrap-store_objects-requires : goal.unwrap-store_objects-requires
unwrap-store_objects-requires c = let h = right_lengths c.args.tasks.now c.args.objects.now c.args.places.now c.args.queue c.args.calls.now c.requires.0 in c.as_mut_array.ensures.variant.1 h.1

pub unwrap-store_places-requires : goal.unwrap-store_places-requires
unwrap-store_places-requires c = let h = right_lengths c.args.tasks.now c.args.objects.now c.args.places.now c.args.queue c.args.calls.now c.requires.0 in c.as_mut_array-2.ensures.variant.1 h.2

-- the step of the arrays is the step of the slices
of_slices : {ts os ps us ws os' ps' : List ℕ} (q : ReadyQueue) (e : machine.Event) {r a : Answer} → us ≡ os → ws ≡ ps → a ≡ r
    → stepped_of (store_of ts os' ps' q []) r ≡ checked (store_of ts us ws q []) e
    → stepped_of (store_of ts os' ps' q []) a ≡ checked (store_of ts os ps q []) e
of_slices q e i j h r = rw (h, ← i, ← j) r

pub returns : goal.returns
returns c = λ l.
    let stepped =
    of_slices _ _ (array-words (λ (x : MutBor (List ℕ)). x.now) _ _ c.unwrap-store_objects.ensures c.as_mut_array.ensures.cases)
    (array-words (λ (x : MutBor (List ℕ)). x.now) _ _ c.unwrap-store_places.ensures c.as_mut_array-2.ensures.cases) c.answer_or.ensures (c.gather-made.ensures c.args.tasks.now c.args.queue []) in
    same-event _ _ _ _
    (ap (λ (is : List ℕ). machine.Event.gather is)
    (ap (take c.args.count) c.gather_items.ensures ∙ items_taken c.args.src.now c.args.first c.args.count (replicate 255 0) (omega (arith, c.ranges.count))))
    (gather_drove c.args.tasks.now c.args.objects.now c.args.places.now c.args.queue c.args.calls.now l (take c.args.count c.gather_items.new.items) c.args.next c.args.number c.answer_or.result
    c.requires.0 c.requires.1 stepped (search rules))
