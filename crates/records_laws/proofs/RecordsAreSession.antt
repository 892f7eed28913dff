-- A session over task records is the session over words: the same answers, objects, places and queue; each record in use is its task's; laid out, the
-- records are the words. So what is proved of every session (soundness, demands 2 and 3) holds of sessions over records.
use Rattle.std.specs.Prelude.{◌≡◌, Bool, ℕ, ◌≤◌, ◌<◌, T, eqb, length, get_or, replicate}
use Rattle.std.proofs.Math.Path.{refl, ap}
use Rattle.std.proofs.Common.{sym, subst, ◌∙◌, true≢false, arith, eq-eqb}
use Rattle.std.proofs.Math.Bool.{true, false}
use mathlib.Core.List.{List, [], ◌∷◌, map}
use Rattle.std.proofs.Math.Decide.{ℕ_discrete}
use Rattle.std.proofs.lemmas.List.{length-replicate}
use Rattle.asyncio.specs.Limits.{task_limit, tasks_length, objects_length, places_length}
use Rattle.asyncio.specs.States.{pick}
use Rattle.rows.specs.Tables.{header_at, task_at}
use Rattle.queue.specs.declared.ReadyQueue.{ReadyQueue}
use Rattle.machine.specs.Store.{Store, store_of, header, task, forget, fresh}
use Rattle.machine.specs.Sound.{sound}
use Rattle.machine.specs.Machine.{Event, Answer, Step, refusal, accept, step}
use Rattle.machine.specs.Lent.{Lent, slices_right, lent_step, lent_read, lent_begin}
use Rattle.machine.specs.History.{Entry, tells}
use Rattle.machine.specs.Sessions.{Sent, is_read, lent_any, entry_of, Session, begun, send, send_all, session, InRange, AllSentInRange}
use Rattle.machine_laws.specs.StoreLaws.{header-fits, sized-forget}
use Rattle.machine_laws.specs.MachineLaws.{accepted-step, refused-step}
use Rattle.machine_laws.specs.SoundLaws.{sound-forget}
use Rattle.machine_theorems.specs.Soundness.Stores.{SoundStore, sound_store_sound}
use Rattle.machine_theorems.specs.Soundness.Sessions.{forget_sound_store, step_sound_store, fresh_sound_store}
use Rattle.machine_sessions.specs.Queue.Following.{Sends, stepped, short, sends, any_event, any_read, read_leaves, accept_accepts, session_follows}
use Rattle.machine_sessions.specs.Gather.LogApart.{lent_entry, left-alike, entry-alike}
use Rattle.records_tasks.specs.declared.TaskRecord.{TaskRecord}
use Rattle.records_tasks.specs.TaskRecord.{no_record, record_of}
use Rattle.records_tasks.specs.TaskRows.{rows_of, saved}
use Rattle.records_tasks.proofs.TaskRowsLaws.{saved-none, length-saved}
use Rattle.records_words.specs.RowsInUse.{next_in, is_refused, rows_left}
use Rattle.records_session.specs.Records.{Records, gone_back, begun_with, records_step, records_begin, records_read}
use Rattle.records_laws.specs.RecordsSessions.{records_answer, records_left, RecordsSession, records_send, records_send_all, records_session, Lengths}
use Rattle.records_laws.specs.UnusedRows.{Unused}
use Rattle.records_laws.proofs.UnusedRows.{step_unused, fresh_unused}
use Rattle.records_laws.proofs.LaidRows.{saved-at, laid_rows}
use Rattle.records_laws.specs.RecordsAreSession.{SameStore, SameSession}

-- ---- the store of the records laid out

next_of : (s : Store) → SoundStore s → next_in s.objects ≡ (header s).next
unfolding next_in header
next_of s h = rw h.memory.sized.objects_sized refl

-- laid out, the records are the tasks' words
pub rows_laid : (m : Records) (s : Store) → SoundStore s → Unused 0 s → SameStore m s → rows_of m.tasks (header s).next ≡ s.tasks
rows_laid m s h u k =
    laid_rows s.tasks (header s).next m.tasks h.memory.sized.tasks_sized (header-fits s).next_fits
    h.memory.words_right.tasks_right u.clear (λ t l. k.records_same t l ∙ (unfold task in refl))

-- the store that an event on the records meets is the machine's
pub store_laid : (m : Records) (s : Store) → SoundStore s → Unused 0 s → SameStore m s
    → store_of (rows_of m.tasks (next_in m.objects)) m.objects m.places m.queue [] ≡ forget s
unfolding forget
store_laid m s h u k =
    let n : next_in m.objects ≡ (header s).next = ap next_in k.objects_same ∙ next_of s h in
    let r : rows_of m.tasks (next_in m.objects) ≡ s.tasks = ap (rows_of m.tasks) n ∙ rows_laid m s h u k in
    rw (r, k.objects_same, k.places_same, k.queue_same) refl

-- ---- one event

module _ (s u : Store) (e : forget s ≡ forget u) where
  tasks-left : s.tasks ≡ u.tasks
  unfolding forget
  tasks-left = ap (λ (x : Store). x.tasks) e

  objects-left : s.objects ≡ u.objects
  unfolding forget
  objects-left = ap (λ (x : Store). x.objects) e

  places-left : s.places ≡ u.places
  unfolding forget
  places-left = ap (λ (x : Store). x.places) e

  queue-left : s.queue ≡ u.queue
  unfolding forget
  queue-left = ap (λ (x : Store). x.queue) e

  next-left : (header s).next ≡ (header u).next
  unfolding header
  next-left = ap (λ (os : List ℕ). (header_at os).next) objects-left

  -- a store that is the same but for the log
  same_left : (m : Records) → SameStore m s → SameStore m u
  same_left m k = record {
    enough = k.enough;
    objects_same = k.objects_same ∙ objects-left;
    places_same = k.places_same ∙ places-left;
    queue_same = k.queue_same ∙ queue-left;
    records_same = λ t l. k.records_same t (subst (λ (n : ℕ). t < n) (sym next-left) l) ∙ (unfold task in (ap (λ (w : List ℕ). record_of (task_at w t)) tasks-left));
  }

-- is an answer a refusal?
accepts_not_refused : (a : Answer) → (tells a).accepts ≡ true → is_refused a ≡ false
unfolding tells
accepts_not_refused (Answer.made o) e = refl
accepts_not_refused (Answer.called n) e = refl
accepts_not_refused (Answer.control c) e = refl
accepts_not_refused (Answer.awaited c n) e = refl
accepts_not_refused Answer.done e = refl
accepts_not_refused (Answer.cancelled n) e = refl
accepts_not_refused Answer.stalled e = refl
accepts_not_refused (Answer.finished v) e = refl
accepts_not_refused (Answer.finished_error x) e = refl
accepts_not_refused (Answer.shows x) e = refl
accepts_not_refused (Answer.is_eager b) e = refl
accepts_not_refused (Answer.refused n) e = absurd (true≢false (sym e))

-- what an event makes of the store: refused, it is as it was
data Outcome (s : Store) (x : Lent) : Type 0 where
  refused : is_refused x.answer ≡ true → forget x.store ≡ forget s → Outcome s x
  accepted : is_refused x.answer ≡ false → Outcome s x

forget_twice : (s : Store) → forget (forget s) ≡ forget s
unfolding forget
forget_twice s = refl

-- the records after an event are those of the store after it
gone_same : (m : Records) (s : Store) (x : Lent) → SameStore m s → SoundStore x.store → Outcome s x → SameStore (gone_back m.tasks x).memory x.store
gone_same m s x k h (refused r e) = record {
  enough = length-saved _ _ m.tasks ∙ k.enough;
  objects_same = refl;
  places_same = refl;
  queue_same = refl;
  records_same = λ t l.
      ap (λ (n : ℕ). get_or (saved x.store.tasks n m.tasks) t no_record) (rw r refl)
      ∙ ap (λ (ts : List TaskRecord). get_or ts t no_record) (saved-none x.store.tasks m.tasks)
      ∙ (same_left s x.store (sym e) m k).records_same t l;
}
gone_same m s x k h (accepted a) = record {
  enough = length-saved _ _ m.tasks ∙ k.enough;
  objects_same = refl;
  places_same = refl;
  queue_same = refl;
  records_same = λ t l.
      let n : rows_left x.answer x.store.objects ≡ (header x.store).next = rw a (next_of x.store h) in
      ap (λ (j : ℕ). get_or (saved x.store.tasks j m.tasks) t no_record) n
      ∙ saved-at x.store.tasks (header x.store).next m.tasks t (rw k.enough (header-fits x.store).next_fits) l
      ∙ (unfold task in refl);
}

-- what an event leaves is sound, and its unused rows are 0
sent_sound : (s : Store) (x : Sent) → InRange x.event → SoundStore s → SoundStore (lent_any s x).store
sent_sound s x i h = by (sends s x h.memory.sized)
  where
    by : Sends s x → SoundStore (lent_any s x).store
    by (stepped p q) = subst SoundStore (sym p) (step_sound_store s h x.event i)
    by (short p q) = subst SoundStore (sym p) h

sent_unused : (s : Store) (x : Sent) → SoundStore s → Unused 0 s → Unused 0 (lent_any s x).store
sent_unused s x h u = by (sends s x h.memory.sized)
  where
    by : Sends s x → Unused 0 (lent_any s x).store
    by (stepped p q) = subst (Unused 0) (sym p) (step_unused s x.event h u)
    by (short p q) = subst (Unused 0) (sym p) u

sent_outcome : (s : Store) (x : Sent) → SoundStore s → Outcome s (lent_any s x)
sent_outcome s x h = by (sends s x h.memory.sized)
  where
    step_by : Dec (refusal s x.event ≡ 0) → (lent_any s x).store ≡ (step s x.event).store → (lent_any s x).answer ≡ (step s x.event).answer → Outcome s (lent_any s x)
    step_by (yes r) p q =
        accepted (ap is_refused (q ∙ ap (λ (y : Step). y.answer) (accepted-step s x.event r)) ∙ accepts_not_refused _ (accept_accepts (forget s) x.event))
    step_by (no ne) p q =
        let e : step s x.event ≡ record { store = forget s; answer = Answer.refused (refusal s x.event) } = refused-step s x.event (refusal s x.event) refl ne in
        refused (ap is_refused (q ∙ ap (λ (y : Step). y.answer) e)) (ap forget (p ∙ ap (λ (y : Step). y.store) e) ∙ forget_twice s)

    by : Sends s x → Outcome s (lent_any s x)
    by (stepped p q) = step_by (ℕ_discrete (refusal s x.event) 0) p q
    by (short p q) = refused (ap is_refused q) (ap forget p)

module _ (m : Records) (s : Store) (x : Sent) (i : InRange x.event) (h : SoundStore s) (u : Unused 0 s) (k : SameStore m s) where
  forgotten : SoundStore (forget s)
  forgotten = forget_sound_store s h

  same-forgotten : SameStore m (forget s)
  same-forgotten = same_left s (forget s) (sym (forget_twice s)) m k

  enough-eqb : eqb (length m.tasks) task_limit ≡ true
  enough-eqb = eq-eqb (length m.tasks) task_limit k.enough

  -- an event on the records is the event on the words, and the words gone back
  event-is : records_step m x.list x.event ≡ gone_back m.tasks (lent_step (forget s) x.list x.event)
  unfolding records_step
  event-is = rw enough-eqb (ap (λ (y : Store). gone_back m.tasks (lent_step y x.list x.event)) (store_laid m s h u k))

  read_is : records_read m x.event ≡ (lent_read (forget s) x.event).answer
  unfolding records_read
  read_is = rw enough-eqb (ap (λ (y : Store). (lent_read y x.event).answer) (store_laid m s h u k))

  -- the answers do not look at the log
  answer-alike : (lent_any (forget s) x).answer ≡ (lent_any s x).answer
  unfolding entry_of
  answer-alike = ap (λ (y : Entry). y.answer) (entry-alike (forget s) s x (forget_twice s))

  pub answer-same : records_answer m x ≡ (lent_any s x).answer
  unfolding records_answer
  answer-same = by (is_read x.event) refl
    where
      by : (b : Bool) → is_read x.event ≡ b → pick b (records_read m x.event) (records_step m x.list x.event).answer ≡ (lent_any s x).answer
      by true r = read_is ∙ ap (λ (y : Lent). y.answer) (sym (any_read (forget s) x r)) ∙ answer-alike
      by false r = ap (λ y. y.answer) event-is ∙ ap (λ (y : Lent). y.answer) (sym (any_event (forget s) x r)) ∙ answer-alike

  pub left-same : SameStore (records_left m x) (lent_any s x).store
  unfolding records_left
  left-same = same_left (lent_any (forget s) x).store (lent_any s x).store (left-alike (forget s) s x (forget_twice s)) _ (by (is_read x.event) refl)
    where
      z : Lent
      z = lent_any (forget s) x

      gone : SameStore (gone_back m.tasks z).memory z.store
      gone = gone_same m (forget s) z same-forgotten (sent_sound (forget s) x i forgotten) (sent_outcome (forget s) x forgotten)

      read_same : is_read x.event ≡ true → Sends (forget s) x → SameStore m z.store
      read_same r (stepped p q) = subst (SameStore m) (sym (p ∙ read_leaves (forget s) x.event r ∙ forget_twice s)) same-forgotten
      read_same r (short p q) = subst (SameStore m) (sym p) same-forgotten

      by : (b : Bool) → is_read x.event ≡ b → SameStore (pick b m (records_step m x.list x.event).memory) z.store
      by true r = read_same r (sends (forget s) x forgotten.memory.sized)
      by false r = subst (λ (n : Records). SameStore n z.store) (ap (λ (y : Lent). (gone_back m.tasks y).memory) (any_event (forget s) x r) ∙ sym (ap (λ y. y.memory) event-is)) gone

-- ---- every list of events

all_same : (es : List Sent) (x : RecordsSession) (y : Session) → AllSentInRange es → SoundStore y.store → Unused 0 y.store → SameSession x y
    → SameSession (records_send_all x es) (send_all y es)
unfolding records_send_all send_all AllSentInRange
all_same [] x y i h u k = k
all_same (e ∷ es) x y i h u k =
    all_same es (records_send x e) (send y e) i.1 (unfold send in (sent_sound y.store e i.0 h)) (unfold send in (sent_unused y.store e h u))
    (unfold records_send send entry_of in (record {
      memory_same = left-same x.memory y.store e i.0 h u k.memory_same;
      answers_same = rw (answer-same x.memory y.store e i.0 h u k.memory_same, k.answers_same) refl;
    }))

-- the unused rows of every session are 0
unused_all : (es : List Sent) (y : Session) → AllSentInRange es → SoundStore y.store → Unused 0 y.store → Unused 0 (send_all y es).store
unfolding send_all AllSentInRange
unused_all [] y i h u = u
unused_all (e ∷ es) y i h u = unused_all es (send y e) i.1 (unfold send in (sent_sound y.store e i.0 h)) (unfold send in (sent_unused y.store e h u))

pub session_unused : (es : List Sent) → AllSentInRange es → Unused 0 (session es).store
unfolding session begun
session_unused es i = unused_all es _ i fresh_sound_store fresh_unused

-- a beginning
begins : (ts os ps : List ℕ) (q : ReadyQueue) → length ts ≡ tasks_length → length os ≡ objects_length → length ps ≡ places_length
    → lent_begin (store_of ts os ps q []) ≡ record { store = fresh; answer = Answer.done }
unfolding lent_begin slices_right
begins ts os ps q a b c = rw (a, b, c) refl

module _ (m : Records) (l : Lengths m) where
  begin-words : lent_begin (store_of (replicate tasks_length 0) m.objects m.places m.queue []) ≡ record { store = fresh; answer = Answer.done }
  begin-words = begins (replicate tasks_length 0) m.objects m.places m.queue (length-replicate {A = ℕ} tasks_length 0) l.objects_right l.places_right

  begin-is : records_begin m ≡ begun_with m.tasks (record { store = fresh; answer = Answer.done })
  unfolding records_begin
  begin-is = rw (eq-eqb (length m.tasks) task_limit l.tasks_right) (ap (begun_with m.tasks) begin-words)

  begun-same : SameStore (records_begin m).0 fresh
  begun-same = rw begin-is (record {
    enough = length-saved _ _ m.tasks ∙ l.tasks_right;
    objects_same = refl;
    places_same = refl;
    queue_same = refl;
    records_same = λ t h. saved-at fresh.tasks task_limit m.tasks t (omega (arith, l.tasks_right)) (omega (arith, h, (header-fits fresh).next_fits)) ∙ (unfold task in refl);
  })

  -- A session over task records is the session over words.
  pub records_are_session : (es : List Sent) → AllSentInRange es → SameSession (records_session m es) (session es)
  unfolding records_session session begun
  records_are_session es i = all_same es _ _ i fresh_sound_store fresh_unused (record { memory_same = begun-same; answers_same = refl })

  -- After every list of events the records, laid out, are a sound store: no event of a session is refused with 2.
  pub records_sound : (es : List Sent) → AllSentInRange es → let x : Records = (records_session m es).memory in
      T (sound (store_of (rows_of x.tasks (next_in x.objects)) x.objects x.places x.queue []))
  records_sound es i =
      let y : Store = (session es).store in
      let h : SoundStore y = (session_follows es i).whole in
      subst (λ (s : Store). T (sound s)) (sym (store_laid _ y h (session_unused es i) (records_are_session es i).memory_same)) (sound_store_sound (forget y) (forget_sound_store y h))
