-- One law for each entry over records: what its calls ensure, put together. And what a record that does not fit makes of an event.
use Rattle.std.specs.Prelude.{◌≡◌, Bool, ◌&&◌, ℕ, ◌≤◌, ◌<◌, eqb, leb, length, get_or, replicate}
use Rattle.std.proofs.Math.Path.{refl, sym, ap}
use Rattle.std.proofs.Common.{◌∙◌, le→leb, eq-eqb}
use Rattle.std.proofs.Math.Bool.{true, false}
use mathlib.Core.List.{List, []}
use Rattle.std.proofs.lemmas.List.{length-replicate}
use Rattle.asyncio.specs.States.{pick}
use Rattle.asyncio.specs.Limits.{task_limit, object_limit, tasks_length, objects_length, places_length}
use Rattle.rows.specs.Tables.{header_at}
use Rattle.queue.specs.declared.ReadyQueue.{ReadyQueue}
use Rattle.machine.specs.Store.{Store, store_of}
use Rattle.machine.specs.Machine as machine
use Rattle.machine.specs.Machine.{Step, step}
use Rattle.machine.specs.Sound.{sound}
use Rattle.machine.specs.Lent.{Lent, Read, read_as, lent_as, answer_calls, slices_right, lent_step, lent_begin, lent_read}
use Rattle.machine_laws.specs.TestLaws.{is_true}
use Rattle.exec_switch.specs.Answer.{answer_of, stepped_of}
use Rattle.exec_switch.specs.declared.answer.Answer.{Answer}
use Rattle.exec_switch.specs.declared.answer.Refusal.{Refusal}
use Rattle.step_checks.specs.Lent.{are_slices, lent_of}
use Rattle.step_checks.specs.LentLaws.{not_sound, step_unsound}
use Rattle.records_tasks.specs.declared.TaskRecord.{TaskRecord}
use Rattle.records_tasks.specs.TaskRecord.{no_record, fits}
use Rattle.records_tasks.specs.TaskRows.{rows_of, saved}
use Rattle.records_tasks.proofs.TaskRowsLaws.{rows_are, length-loaded}
use Rattle.records_tasks.proofs.UnfitLaws.{unfit_unsound}
use Rattle.records_words.specs.RowsInUse.{next_in, rows_in_use}
use Rattle.records_words.specs.OnWords.{with_rows, words_step, begun_rows, words_begin, words_read}
use Rattle.records_session.specs.Records.{Records, RecordsLent, gone_back, refused_as, records_step, begun_with, records_begin, records_read}
use Rattle.records_session.specs.RecordsContract.{records_of}

is_both : {a b : Bool} → true ≡ a → b ≡ true → true ≡ (a && b)
is_both {a} {b} h k = ap (λ (x : Bool). true && x) (sym k) ∙ ap (λ (x : Bool). x && b) h

module _ (m : Records) where
  -- so many records laid out
  abbrev laid_out : ℕ → Store
  laid_out n = store_of (rows_of m.tasks n) m.objects m.places m.queue []

  -- ---- an event

  -- the words after an event, saved
  abbrev back : Lent × ℕ → RecordsLent
  back x = record {
    memory = record { tasks = saved x.0.store.tasks x.1 m.tasks; objects = x.0.store.objects; places = x.0.store.places; queue = x.0.store.queue };
    list = x.0.list;
    answer = x.0.answer;
    numbers = x.0.numbers;
    count = x.0.count;
  }

  -- by whether there are 513 records
  step_by : (cs : List ℕ) (e : machine.Event) (b : Bool)
      → back (pick b (with_rows (lent_step (laid_out (pick b (next_in m.objects) 0)) cs e)) (lent_as (laid_out (pick b (next_in m.objects) 0)) cs (machine.Answer.refused 1), 0))
      ≡ pick b (gone_back m.tasks (lent_step (laid_out (next_in m.objects)) cs e)) (refused_as m cs 1)
  unfolding saved answer_calls
  step_by cs e true = refl
  step_by cs e false = refl

  step_is : (cs : List ℕ) (e : machine.Event) → back (words_step (length m.tasks) (laid_out (rows_in_use (length m.tasks) m.objects)) cs e) ≡ records_step m cs e
  unfolding words_step records_step
  step_is cs e = step_by cs e (eqb (length m.tasks) task_limit)

  pub stepped : (cs : List ℕ) (e : machine.Event) {n k c : ℕ} {ws ws' os' ps' cs' : List ℕ} {q' : ReadyQueue} {us : List TaskRecord} (a : Answer)
      → n ≡ rows_in_use (length m.tasks) m.objects → ws ≡ rows_of m.tasks n
      → (lent_of (store_of ws' os' ps' q' (words_step (length m.tasks) (store_of ws m.objects m.places m.queue []) cs e).0.store.log) cs' a c, k)
      ≡ words_step (length m.tasks) (store_of ws m.objects m.places m.queue []) cs e
      → us ≡ saved ws' k m.tasks
      → records_of (record { tasks = us; objects = os'; places = ps'; queue = q' }) cs' a c ≡ records_step m cs e
  stepped cs e {n} {k} {c} {ws} {ws'} {os'} {ps'} {cs'} {q'} {us} a i h s u =
      ap (λ (vs : List TaskRecord). records_of (record { tasks = vs; objects = os'; places = ps'; queue = q' }) cs' a c) u
      ∙ ap back s
      ∙ ap (λ (v : List ℕ). back (words_step (length m.tasks) (store_of v m.objects m.places m.queue []) cs e)) (h ∙ ap (rows_of m.tasks) i)
      ∙ step_is cs e

  -- ---- the beginning

  -- the words after a beginning, saved
  abbrev begun : Step × ℕ → Records × Read
  begun x = (
    record { tasks = saved x.0.store.tasks x.1 m.tasks; objects = x.0.store.objects; places = x.0.store.places; queue = x.0.store.queue },
    read_as x.0.answer,
  )

  abbrev cleared : Store
  cleared = store_of (replicate tasks_length 0) m.objects m.places m.queue []

  begin-by : (b : Bool) → begun (pick b (begun_rows (lent_begin cleared)) (record { store = cleared; answer = machine.Answer.refused 1 }, 0))
      ≡ pick b (begun_with m.tasks (lent_begin cleared)) (m, read_as (machine.Answer.refused 1))
  unfolding saved
  begin-by true = refl
  begin-by false = refl

  begin-is : begun (words_begin (length m.tasks) cleared) ≡ records_begin m
  unfolding words_begin records_begin
  begin-is = begin-by (eqb (length m.tasks) task_limit)

  pub begins : {k : ℕ} {ws' os' ps' : List ℕ} {q' : ReadyQueue} {us : List TaskRecord} (a : Answer)
      → (stepped_of (store_of ws' os' ps' q' (words_begin (length m.tasks) cleared).0.store.log) a, k) ≡ words_begin (length m.tasks) cleared
      → us ≡ saved ws' k m.tasks
      → (record { tasks = us; objects = os'; places = ps'; queue = q' }, read_as (answer_of os' a)) ≡ records_begin m
  begins {k} {ws'} {os'} {ps'} {q'} {us} a s u =
      ap (λ (vs : List TaskRecord). (record { tasks = vs; objects = os'; places = ps'; queue = q' }, read_as (answer_of os' a))) u ∙ ap begun s ∙ begin-is

  -- ---- a read

  read_by : (e : machine.Event) (b : Bool)
      → read_as (pick b (lent_read (laid_out (pick b (next_in m.objects) 0)) e).answer (machine.Answer.refused 1))
      ≡ read_as (pick b (lent_read (laid_out (next_in m.objects)) e).answer (machine.Answer.refused 1))
  read_by e true = refl
  read_by e false = refl

  read_is : (e : machine.Event) → read_as (words_read (length m.tasks) (laid_out (rows_in_use (length m.tasks) m.objects)) e) ≡ read_as (records_read m e)
  unfolding words_read records_read
  read_is e = read_by e (eqb (length m.tasks) task_limit)

  pub reads : (e : machine.Event) {n : ℕ} {ws : List ℕ} {a : machine.Answer}
      → n ≡ rows_in_use (length m.tasks) m.objects → ws ≡ rows_of m.tasks n
      → read_as a ≡ read_as (words_read (length m.tasks) (store_of ws m.objects m.places m.queue []) e)
      → read_as a ≡ read_as (records_read m e)
  reads e i h s =
      s ∙ ap (λ (v : List ℕ). read_as (words_read (length m.tasks) (store_of v m.objects m.places m.queue []) e)) (h ∙ ap (rows_of m.tasks) i) ∙ read_is e

  -- ---- a record in use that does not fit: refusal 2, where the lengths are right

  module _ (l : length m.tasks ≡ task_limit) (lo : length m.objects ≡ objects_length) (lp : length m.places ≡ places_length) where
    -- the rows in use are those below the next task's number
    next_is : next_in m.objects ≡ (header_at m.objects).next
    unfolding next_in
    next_is = rw (eq-eqb _ _ lo)

    slices-are : (n : ℕ) → true ≡ are_slices (length (rows_of m.tasks n)) (length m.objects) (length m.places)
    slices-are n =
        let w : length (rows_of m.tasks n) ≡ tasks_length = ap (λ (v : List ℕ). length v) (sym (rows_are m.tasks n)) ∙ length-loaded m.tasks n (replicate tasks_length 0) ∙ length-replicate {A = ℕ} tasks_length 0 in
        rw (eq-eqb (length (rows_of m.tasks n)) tasks_length w, eq-eqb (length m.objects) objects_length lo, eq-eqb (length m.places) places_length lp)

    all_right : (cs : List ℕ) → object_limit ≤ length cs → (n : ℕ)
        → true ≡ (are_slices (length (rows_of m.tasks n)) (length m.objects) (length m.places) && leb object_limit (length cs))
    all_right cs lc n =
        is_both (slices-are n) (is_true (leb object_limit (length cs)) (le→leb object_limit (length cs) lc))

    pub unfit_refused : (cs : List ℕ) (e : machine.Event) (t : ℕ) → object_limit ≤ length cs → t < (header_at m.objects).next → fits (get_or m.tasks t no_record) ≡ false
        → records_step m cs e ≡ refused_as m cs 2
    unfolding records_step saved
    unfit_refused cs e t lc h f =
        let n = (header_at m.objects).next in
        let unsound : sound (laid_out n) ≡ false = unfit_unsound m.tasks t f m.objects m.places m.queue [] h in
        let core : lent_of (store_of (rows_of m.tasks n) m.objects m.places m.queue (lent_step (laid_out n) cs e).store.log) cs (Answer.Refused Refusal.NotSound) 0 ≡ lent_step (laid_out n) cs e
        = not_sound (rows_of m.tasks n) m.objects m.places m.queue cs [] e (all_right cs lc n) refl refl unsound in
        ap (λ (b : Bool). pick b (gone_back m.tasks (lent_step (laid_out (next_in m.objects)) cs e)) (refused_as m cs 1)) (eq-eqb _ _ l)
        ∙ ap (λ (k : ℕ). gone_back m.tasks (lent_step (laid_out k) cs e)) next_is
        ∙ sym (ap (gone_back m.tasks) core)

    -- a read too
    pub unfit_unread : (e : machine.Event) (t : ℕ) → t < (header_at m.objects).next → fits (get_or m.tasks t no_record) ≡ false
        → records_read m e ≡ machine.Answer.refused 2
    unfolding records_read lent_read slices_right
    unfit_unread e t h f =
        let n = (header_at m.objects).next in
        let unsound : sound (laid_out n) ≡ false = unfit_unsound m.tasks t f m.objects m.places m.queue [] h in
        ap (λ (b : Bool). pick b (lent_read (laid_out (next_in m.objects)) e).answer (machine.Answer.refused 1)) (eq-eqb _ _ l)
        ∙ ap (λ (k : ℕ). (lent_read (laid_out k) e).answer) next_is
        ∙ ap (λ (b : Bool). (pick b (step (laid_out n) e) (record { store = laid_out n; answer = machine.Answer.refused 1 })).answer) (sym (slices-are n))
        ∙ ap (λ (x : Step). x.answer) (step_unsound (laid_out n) e unsound)
