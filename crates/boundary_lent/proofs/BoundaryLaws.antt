-- What the code knows after a call is what the exported functions promise.
use Rattle.std.specs.Prelude.{ℕ, ◌≡◌, Bool, true, eqb}
use Rattle.std.proofs.Math.Path.{refl, sym, ap}
use Rattle.std.proofs.Common.{◌∙◌}
use Rattle.std.proofs.Math.Bool.{false}
use mathlib.Core.List.{List, []}
use Rattle.std.proofs.Math.ListN.{length}
use Rattle.asyncio.specs.Limits.{objects_length}
use Rattle.asyncio.specs.RangeLaws.{pick_has}
use Rattle.queue.specs.declared.ReadyQueue.{ReadyQueue}
use Rattle.machine.specs.Store.{Store, LogEntry, store_of, put_task, put_header, empty, fresh}
use Rattle.machine.specs.Sound.{sound}
use Rattle.machine.specs.Machine as machine
use Rattle.machine.specs.Machine.{Event, Step, refusal, accept, decide, step}
use Rattle.machine.specs.Answers as answers
use Rattle.machine.specs.Lent.{Lent, slices_right, lengths_right, control_calls, answer_calls, lent_as, lent_by, lent_step, lent_read, lent_begin}
use Rattle.exec_switch.specs.Answer.{answer_with, answer_of, stepped_of}
use Rattle.exec_switch.specs.declared.control.Control.{Control}
use Rattle.exec_switch.specs.declared.answer.Answer.{Answer}
use Rattle.step_checks.specs.Checked.{checked}
use Rattle.step_checks.specs.Lent.{lent_of}
use Rattle.step_checks.specs.LentLaws.{slices_have}
use Rattle.step_read.specs.ReadLaws.{read-sound}
use Rattle.session_begin.specs.Begin.{with_numbers}
use Rattle.boundary_numbers.specs.declared.Numbers.{Numbers}
use Rattle.boundary_numbers.specs.Numbers.{numbers_as}
use Rattle.boundary_lent.specs.Boundary.{Memory, memory_of, memory_step}

-- arrays of these lengths are the memory that a read asks for
pub right_slices : (ts os ps : List ℕ) (q : ReadyQueue) → length ts ≡ 4104 → length os ≡ 2056 → length ps ≡ 2048 → slices_right (store_of ts os ps q []) ≡ true
unfolding slices_right
right_slices ts os ps q a b c = rw (a, b, c)

-- and, with a list of 256 words, an event
pub right_lengths : (ts os ps : List ℕ) (q : ReadyQueue) (cs : List ℕ) → length ts ≡ 4104 → length os ≡ 2056 → length ps ≡ 2048 → length cs ≡ 256
    → lengths_right (store_of ts os ps q []) cs ≡ true
unfolding lengths_right slices_right
right_lengths ts os ps q cs a b c d = rw (a, b, c, d)

-- ---- the calls of an answer are those of its wait

answer_back : (cs : List ℕ) (a : Answer) → answer_with (answer_calls (answer_with cs a)) a ≡ answer_with cs a
unfolding answer_calls control_calls
answer_back cs (Answer.Made o) = refl
answer_back cs (Answer.Called n) = refl
answer_back cs (Answer.Switched (Control.Runs t h)) = refl
answer_back cs (Answer.Switched Control.Waits) = refl
answer_back cs (Answer.Awaited (Control.Runs t h) n) = refl
answer_back cs (Answer.Awaited Control.Waits n) = refl
answer_back cs Answer.Done = refl
answer_back cs (Answer.Cancelled n) = refl
answer_back cs Answer.Stalled = refl
answer_back cs (Answer.Finished v) = refl
answer_back cs (Answer.FinishedError e) = refl
answer_back cs (Answer.Eager b) = refl
answer_back cs (Answer.Refused n) = refl

counted : (s : Store) (cs : List ℕ) (e : Event) → (lent_step s cs e).count ≡ length (answer_calls (lent_step s cs e).answer)
unfolding lent_step
counted s cs e = by (lengths_right s cs)
  where
    by : (b : Bool) → (lent_by b s cs e).count ≡ length (answer_calls (lent_by b s cs e).answer)
    by true = unfold lent_by in refl
    by false = unfold lent_by in refl

-- the numbers of an answer, from its wait's count
pub numbered : (os : List ℕ) (a : Answer) {n : ℕ} {r : Numbers} → ((cs : List ℕ) → n ≡ length cs → r ≡ numbers_as (answer_with cs a))
    → n ≡ length (answer_calls (answer_of os a)) → r ≡ numbers_as (answer_of os a)
numbered os a h e = h (answer_calls (answer_of os a)) e ∙ ap numbers_as (answer_back _ a)

-- ---- an event

module _ (ts os ps cs : List ℕ) (q : ReadyQueue) (e : Event) where
  abbrev given : Store
  given = store_of ts os ps q []

  pub leaves : {ts' os' ps' cs' : List ℕ} {q' : ReadyQueue} (a : Answer) {n : ℕ} {r : Numbers}
      → lent_of (store_of ts' os' ps' q' (lent_step given cs e).store.log) cs' a n ≡ lent_step given cs e
      → ((ds : List ℕ) → n ≡ length ds → r ≡ numbers_as (answer_with ds a))
      → record { tasks = ts'; objects = os'; places = ps'; calls = cs'; ids = q'.ids; len = q'.len; numbers = r } ≡ memory_step ts os ps cs q.ids q.len e
  unfolding memory_step
  leaves {ts'} {os'} {ps'} {cs'} {q'} a {n} {r} s h =
      let c : n ≡ length (answer_calls (answer_of os' a)) =
      ap (λ (x : Lent). x.count) s ∙ counted given cs e ∙ ap (λ (x : Lent). length (answer_calls x.answer)) (sym s) in
      ap (λ (x : Numbers). record { tasks = ts'; objects = os'; places = ps'; calls = cs'; ids = q'.ids; len = q'.len; numbers = x }) (numbered os' a h c)
      ∙ ap memory_of s

-- ---- a beginning

fresh-log : fresh.log ≡ []
unfolding fresh empty put_task put_header
fresh-log = refl

pub begins-fresh : (ts os ps : List ℕ) (q : ReadyQueue) → length ts ≡ 4104 → length os ≡ 2056 → length ps ≡ 2048
    → {ts' os' ps' : List ℕ} {q' : ReadyQueue} (a : Answer)
    → with_numbers (stepped_of (store_of ts' os' ps' q' (lent_begin (store_of ts os ps q [])).store.log) a) ≡ with_numbers (lent_begin (store_of ts os ps q []))
    → store_of ts' os' ps' q' [] ≡ fresh
begins-fresh ts os ps q l m n {ts'} {os'} {ps'} {q'} a e =
    let k : lent_begin (store_of ts os ps q []) ≡ record { store = fresh; answer = machine.Answer.done } = unfold lent_begin slices_right in (rw (l, m, n)) in
    sym (ap (λ (x : List LogEntry). store_of ts' os' ps' q' x) (ap (λ (x : Step). x.store.log) k ∙ fresh-log))
    ∙ ap (λ (x : Step × answers.Numbers). x.0.store) e ∙ ap (λ (x : Step). x.store) k

-- ---- reads

-- eager answers no wait
eager_calls : (s : Store) → answer_calls (lent_read s Event.eager).answer ≡ []
unfolding lent_read step decide accept answer_calls
eager_calls s =
    pick_has (λ (x : Step). answer_calls x.answer ≡ []) (slices_right s)
    (pick_has (λ (x : Step). answer_calls x.answer ≡ []) (eqb (refusal s Event.eager) 0) refl refl) refl

pub eager_numbers : (s : Store) (os : List ℕ) (a : Answer) {r : Numbers} → ((cs : List ℕ) → 0 ≡ length cs → r ≡ numbers_as (answer_with cs a))
    → answer_of os a ≡ (lent_read s Event.eager).answer → r ≡ numbers_as (lent_read s Event.eager).answer
eager_numbers s os a h e =
    numbered os a h (sym (ap length (ap answer_calls e ∙ eager_calls s))) ∙ ap numbers_as e

-- a read of a sound store is what the checks from 3 on leave
pub reads_soundly : (ts os ps : List ℕ) (q : ReadyQueue) (e : Event) → slices_right (store_of ts os ps q []) ≡ true → sound (store_of ts os ps q []) ≡ true
    → {a : machine.Answer} → a ≡ (checked (store_of ts os ps q []) e).answer → a ≡ (lent_read (store_of ts os ps q []) e).answer
unfolding slices_right
reads_soundly ts os ps q e i k c = read-sound ts os ps q [] e refl i (sym k) refl c

-- the objects of slices of the right lengths
pub objects_right : (ts os ps : List ℕ) (q : ReadyQueue) → slices_right (store_of ts os ps q []) ≡ true → length os ≡ objects_length
unfolding slices_right
objects_right ts os ps q i = (slices_have (length ts) (length os) (length ps) refl i).1
