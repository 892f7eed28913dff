-- One law for each way through the functions on the words of records.
use Rattle.std.specs.Prelude.{◌≡◌, refl, Bool, List, [], ℕ}
use Rattle.std.proofs.Math.Path.{sym, ap}
use Rattle.std.proofs.Common.{◌∙◌, eq-eqb, ne_eqb}
use Rattle.asyncio.specs.States.{pick}
use Rattle.asyncio.specs.Limits.{task_limit}
use Rattle.queue.specs.declared.ReadyQueue.{ReadyQueue}
use Rattle.machine.specs.Store.{Store, store_of}
use Rattle.machine.specs.Machine as machine
use Rattle.machine.specs.Machine.{Step}
use Rattle.machine.specs.Lent.{Lent, read_as, lent_as, lent_step, lent_begin, lent_read, answer_calls}
use Rattle.exec_switch.specs.Answer.{answer_of, stepped_of}
use Rattle.exec_switch.specs.declared.answer.Answer.{Answer}
use Rattle.exec_switch.specs.declared.answer.Refusal.{Refusal}
use Rattle.step_checks.specs.Lent.{lent_of}
use Rattle.records_words.specs.RowsInUse.{next_in, is_refused, refuses, rows_left, rows_begun}
use Rattle.records_words.specs.OnWords.{with_rows, words_step, begun_rows, words_begin, words_read}

-- the code's answer and the machine's are refusals alike
same-refusal : (os : List ℕ) (a : Answer) → refuses a ≡ is_refused (answer_of os a)
same-refusal os (Answer.Made o) = refl
same-refusal os (Answer.Called n) = refl
same-refusal os (Answer.Switched c) = refl
same-refusal os (Answer.Awaited c n) = refl
same-refusal os Answer.Done = refl
same-refusal os (Answer.Cancelled n) = refl
same-refusal os Answer.Stalled = refl
same-refusal os (Answer.Finished v) = refl
same-refusal os (Answer.FinishedError e) = refl
same-refusal os (Answer.Eager b) = refl
same-refusal os (Answer.Refused n) = refl

-- ---- an event

module _ (n : ℕ) (ws os ps : List ℕ) (q : ReadyQueue) (cs : List ℕ) (e : machine.Event) where
  abbrev given : Store
  given = store_of ws os ps q []

  step_other : (n ≡ task_limit → ⊥) → words_step n given cs e ≡ (lent_as given cs (machine.Answer.refused 1), 0)
  unfolding words_step
  step_other h = rw (ne_eqb n task_limit h)

  step-all : n ≡ task_limit → words_step n given cs e ≡ with_rows (lent_step given cs e)
  unfolding words_step
  step-all h = rw (eq-eqb n task_limit h)

  -- another number of records
  pub step-refused : (n ≡ task_limit → ⊥)
      → (lent_of (store_of ws os ps q (words_step n given cs e).0.store.log) cs (Answer.Refused Refusal.WrongLength) 0, 0) ≡ words_step n given cs e
  unfolding answer_calls
  step-refused h =
      ap (λ (x : Lent × ℕ). (lent_of (store_of ws os ps q x.0.store.log) cs (Answer.Refused Refusal.WrongLength) 0, 0)) (step_other h) ∙ sym (step_other h)

  -- 513 records: those in use are to be saved, or none where it is a refusal
  pub step-done : {ws' os' ps' cs' : List ℕ} {q' : ReadyQueue} {c k : ℕ} (a : Answer) → n ≡ task_limit
      → lent_of (store_of ws' os' ps' q' (lent_step given cs e).store.log) cs' a c ≡ lent_step given cs e
      → k ≡ pick (refuses a) 0 (next_in os')
      → (lent_of (store_of ws' os' ps' q' (words_step n given cs e).0.store.log) cs' a c, k) ≡ words_step n given cs e
  step-done {ws'} {os'} {ps'} {cs'} {q'} {c} {k} a h s m =
      let y : Lent = lent_of (store_of ws' os' ps' q' (lent_step given cs e).store.log) cs' a c in
      let rows : k ≡ rows_left y.answer os' = m ∙ ap (λ (z : Bool). pick z 0 (next_in os')) (same-refusal os' a) in
      ap (λ (x : Lent × ℕ). (lent_of (store_of ws' os' ps' q' x.0.store.log) cs' a c, k)) (step-all h)
      ∙ ap (λ (j : ℕ). (y, j)) rows ∙ ap with_rows s ∙ sym (step-all h)

-- ---- a beginning

module _ (n : ℕ) (ws os ps : List ℕ) (q : ReadyQueue) where
  abbrev lent : Store
  lent = store_of ws os ps q []

  begin-other : (n ≡ task_limit → ⊥) → words_begin n lent ≡ (record { store = lent; answer = machine.Answer.refused 1 }, 0)
  unfolding words_begin
  begin-other h = rw (ne_eqb n task_limit h)

  begin-all : n ≡ task_limit → words_begin n lent ≡ begun_rows (lent_begin lent)
  unfolding words_begin
  begin-all h = rw (eq-eqb n task_limit h)

  -- another number of records
  pub begin_refused : (n ≡ task_limit → ⊥) → (stepped_of (store_of ws os ps q (words_begin n lent).0.store.log) (Answer.Refused Refusal.WrongLength), 0) ≡ words_begin n lent
  begin_refused h =
      ap (λ (x : Step × ℕ). (stepped_of (store_of ws os ps q x.0.store.log) (Answer.Refused Refusal.WrongLength), 0)) (begin-other h) ∙ sym (begin-other h)

  -- 513 records: all are to be saved, or none where it is a refusal
  pub begin_done : {ws' os' ps' : List ℕ} {q' : ReadyQueue} {k : ℕ} (a : Answer) → n ≡ task_limit
      → stepped_of (store_of ws' os' ps' q' (lent_begin lent).store.log) a ≡ lent_begin lent
      → k ≡ pick (refuses a) 0 task_limit
      → (stepped_of (store_of ws' os' ps' q' (words_begin n lent).0.store.log) a, k) ≡ words_begin n lent
  begin_done {ws'} {os'} {ps'} {q'} {k} a h s m =
      let y : Step = stepped_of (store_of ws' os' ps' q' (lent_begin lent).store.log) a in
      let rows : k ≡ rows_begun y.answer = m ∙ ap (λ (z : Bool). pick z 0 task_limit) (same-refusal os' a) in
      ap (λ (x : Step × ℕ). (stepped_of (store_of ws' os' ps' q' x.0.store.log) a, k)) (begin-all h)
      ∙ ap (λ (j : ℕ). (y, j)) rows ∙ ap begun_rows s ∙ sym (begin-all h)

-- ---- a read

-- of another number of records
pub read-refused : (n : ℕ) (s : Store) (e : machine.Event) → (n ≡ task_limit → ⊥) → read_as (machine.Answer.refused 1) ≡ read_as (words_read n s e)
unfolding words_read
read-refused n s e h = rw (ne_eqb n task_limit h)

-- of 513
pub read_done : (n : ℕ) (s : Store) (e : machine.Event) {a : machine.Answer} → n ≡ task_limit
    → read_as a ≡ read_as (lent_read s e).answer → read_as a ≡ read_as (words_read n s e)
unfolding words_read
read_done n s e {a} h r = r ∙ sym (ap (λ (b : Bool). read_as (pick b (lent_read s e).answer (machine.Answer.refused 1))) (eq-eqb n task_limit h))
