-- What a read shows, as the code answers it.
use Rattle.std.specs.Prelude.{◌≡◌, ℕ, zero, suc, ◌+◌, List, [], ◌∷◌, Result, Ok, Err}
use Rattle.std.proofs.Math.Option.{Option}
use Rattle.asyncio.specs.declared.Value.{Value}
use Rattle.rows.specs.Tables.{place_at}
use Rattle.queue.specs.declared.ReadyQueue.{ReadyQueue}
use Rattle.machine.specs.Store.{LogEntry, store_of}
use Rattle.machine.specs.Scheduler.{bit}
use Rattle.machine.specs.Machine as machine
use Rattle.machine.specs.Machine.{slot_value}
use Rattle.contract.specs.Contract.{Words}
use Rattle.exec_switch.specs.Answer.{answer_of}
use Rattle.exec_switch.specs.Refusal.{refusal_number}
use Rattle.exec_switch.specs.declared.answer.Answer.{Answer}
use Rattle.exec_switch.specs.declared.answer.Refusal.{Refusal}
use Rattle.step_checks.specs.Checked.{checked}
use Rattle.step_read.specs.declared.Shown.{Shown}

-- n places from i on of a gather that starts at f, by the places' words
unfoldable pub places_from : List ℕ → ℕ → ℕ → ℕ → ℕ → List (Option Value)
places_from ps f m i zero = []
places_from ps f m i (suc n) = slot_value (bit m i) (place_at ps (f + i)).result ∷ places_from ps f m (i + 1) n

-- what is shown; a gather's places stand in the store
abbrev pub shown_of : List ℕ → Shown → machine.Shown
shown_of ps (Shown.Coroutine x f) = machine.Shown.a_coroutine x f
shown_of ps Shown.ExternalPending = machine.Shown.an_external_pending
shown_of ps (Shown.ExternalResolved v) = machine.Shown.an_external_resolved v
shown_of ps (Shown.ExternalFailed e) = machine.Shown.an_external_failed e
shown_of ps Shown.GatherPending = machine.Shown.a_gather_pending
shown_of ps (Shown.GatherAwaited f n m) = machine.Shown.a_gather_awaited (places_from ps f m 0 n)
shown_of ps (Shown.GatherCompleted f n) = machine.Shown.a_gather_completed (places_from ps f 0 0 n)
shown_of ps (Shown.GatherFailed e) = machine.Shown.a_gather_failed e
shown_of ps Shown.Nothing = machine.Shown.nothing

-- what is shown, or why nothing is
abbrev pub Reading : Type 0
Reading = Result Shown Refusal

-- the answer
abbrev pub show_answer : List ℕ → Reading → machine.Answer
show_answer ps (Ok x) = machine.Answer.shows (shown_of ps x)
show_answer ps (Err r) = machine.Answer.refused (refusal_number r)

-- The call reads object o of a store that has these objects, whatever the rest of it is: its answer is what the checks from 3 on leave.
abbrev pub ShowsChecked : Words → ℕ → Reading → Type 0
ShowsChecked objects o r =
    (ts ps : List ℕ) (q : ReadyQueue) (l : List LogEntry) → show_answer ps r ≡ (checked (store_of ts objects ps q l) (machine.Event.show o)).answer

-- The same of eager, which looks at the queue too.
abbrev pub EagerChecked : Words → ReadyQueue → Answer → Type 0
EagerChecked objects queue r =
    (ts ps : List ℕ) (l : List LogEntry)
    → answer_of objects r ≡ (checked (store_of ts objects ps queue l) machine.Event.eager).answer
