-- The driver over a whole input is a session of the machine: the events of the records, sent from the beginning on. Its text is the lines of the answers in
-- the session's history, and of the 11 that ended it, if one did. The stores differ in the log alone: the driver leaves it at a read, a session empties it.
use Rattle.std.specs.Prelude.{None, Some, Ok, Err}
use Rattle.std.specs.Prelude.{◌≡◌, Bool, List, [], ◌∷◌, ◌++◌, ℕ, zero, suc, ◌+◌, ◌-◌, ◌<◌, eqb, length}
use Rattle.std.proofs.Math.Path.{refl, ap, subst}
use Rattle.std.proofs.Common.{sym, ◌∙◌, append_assoc, append-nil, arith, length-append}
use Rattle.std.proofs.Math.Bool.{true, false}
use Rattle.asyncio.specs.States.{pick}
use Rattle.machine.specs.Store.{Store, forget, fresh}
use Rattle.machine.specs.Machine.{Event, Answer, Step, step}
use Rattle.machine.specs.Lent.{Lent, slices_right, lengths_right, lent_by, lent_step, lent_read}
use Rattle.machine.specs.History.{Entry}
use Rattle.machine.specs.Sessions.{Sent, is_read, lent_any, entry_of, Session, begun, send, send_all, session}
use Rattle.machine_laws.specs.MachineLaws.{show-step, eager-step}
use Rattle.machine_laws.specs.SoundLaws.{step-forget}
use Rattle.machine_sessions.specs.Queue.Following.{any_event, any_read}
use Rattle.drive_reader.specs.declared.Record.{Record}
use Rattle.drive_reader.specs.Parsed.{Parsed, at_end, no_record, a_record}
use Rattle.drive_reader.specs.Format.{parse}
use Rattle.drive_reader.specs.ParseLaws.{parse_inside}
use Rattle.drive_reader.specs.RecordNumbers.{parse_refusal}
use Rattle.drive_lines.specs.Lines.{line, output}
use Rattle.drive_answer.specs.Driver.{Asked, asked, Drives, refused_11, answered, drive_by, drive_one}
use Rattle.drive_session.specs.Fold.{DrivesAll, event_in, sent_of, stopped, behind, drive_all_rest, drive_all, sent_by}
use Rattle.drive_session.specs.FoldLaws.{all_goes_on, all_stops}

-- ---- the words

-- the answers in a history, the first first
unfoldable pub answers_in : List Entry → List Answer
answers_in [] = []
answers_in (x ∷ h) = answers_in h ++ (x.answer ∷ [])

-- the line of what ended the records, if it has one: document 01's number of it, and the number of the record
unfoldable pub last_line : ℕ → ℕ → List ℕ
last_line n number = pick (eqb n 0) [] (line number (Answer.refused n))

-- What the driver leaves is a session's.
pub record IsSession (x : DrivesAll) : Type 0 where
  pub store_is : forget x.store ≡ forget (session x.sent).store
  pub text_is : x.text ≡ output 1 (answers_in (session x.sent).history) ++ last_line x.refusal (suc (length x.sent))

-- ---- an event sees nothing of the log (`step-forget` of machine_laws)

forget_twice : (s : Store) → forget (forget s) ≡ forget s
unfolding forget
forget_twice s = refl

-- two steps that leave the same but for the log, and have the same answer
record Alike (s : Store) (a : Answer) (u : Store) (b : Answer) : Type 0 where
  same_store : forget s ≡ forget u
  same_answer : a ≡ b

alike_through : {s u v : Store} {a b c : Answer} → Alike u b s a → Alike u b v c → Alike s a v c
alike_through x y = record { same_store = sym x.same_store ∙ y.same_store; same_answer = sym x.same_answer ∙ y.same_answer }

pub step-alike : (s u : Store) (e : Event) → forget s ≡ forget u → step s e ≡ step u e
step-alike s u e q = sym (step-forget s e) ∙ ap (λ (z : Store). step z e) q ∙ step-forget u e

module _ (l : List ℕ) (e : Event) where
  lent-forget : (s : Store) → Alike (lent_step (forget s) l e).store (lent_step (forget s) l e).answer (lent_step s l e).store (lent_step s l e).answer
  unfolding lent_step lengths_right slices_right forget lent_by
  lent-forget s = by (lengths_right s l)
    where
      by : (b : Bool) → Alike (lent_by b (forget s) l e).store (lent_by b (forget s) l e).answer (lent_by b s l e).store (lent_by b s l e).answer
      by true = record { same_store = ap (λ (x : Step). forget x.store) (step-forget s e); same_answer = ap (λ (x : Step). x.answer) (step-forget s e) }
      by false = record { same_store = refl; same_answer = refl }

  -- an event on lent memory
  lent_alike : (s u : Store) → forget s ≡ forget u → Alike (lent_step s l e).store (lent_step s l e).answer (lent_step u l e).store (lent_step u l e).answer
  lent_alike s u q = alike_through (lent-forget s) (subst (λ (z : Store). Alike (lent_step z l e).store (lent_step z l e).answer (lent_step u l e).store (lent_step u l e).answer) (sym q) (lent-forget u))

-- a read, which leaves the store but for its log
module _ (e : Event) (keeps : (s : Store) → (step s e).store ≡ forget s) where
  read-forget : (s : Store) → Alike (forget s) (lent_read (forget s) e).answer (lent_read s e).store (lent_read s e).answer
  unfolding lent_read slices_right forget
  read-forget s = by (slices_right s)
    where
      refused : Store → Step
      refused u = record { store = u; answer = Answer.refused 1 }

      by : (b : Bool) → Alike (forget s) (pick b (step (forget s) e) (refused (forget s))).answer (pick b (step s e) (refused s)).store (pick b (step s e) (refused s)).answer
      by true = record { same_store = ap forget (sym (keeps s)); same_answer = ap (λ (x : Step). x.answer) (step-forget s e) }
      by false = record { same_store = refl; same_answer = refl }

-- ---- a record is its event, sent

-- what is asked as an event is none of the reads, and what is asked as a read leaves the store
abbrev RightlyAsked : Asked → Type 0
RightlyAsked (Asked.event e) = is_read e ≡ false
RightlyAsked (Asked.read e) = (is_read e ≡ true) × ((s : Store) → (step s e).store ≡ forget s)

rightly_asked : (src : List ℕ) (r : Record) → RightlyAsked (asked src r)
unfolding asked is_read
rightly_asked src (Record.Coroutine f) = refl
rightly_asked src Record.Call = refl
rightly_asked src (Record.Pending c x) = refl
rightly_asked src (Record.Settled v) = refl
rightly_asked src (Record.Gather first count) = refl
rightly_asked src (Record.Await o) = refl
rightly_asked src (Record.Complete v) = refl
rightly_asked src (Record.Fail n) = refl
rightly_asked src (Record.Results first count) = refl
rightly_asked src Record.Resume = refl
rightly_asked src (Record.Cancel t) = refl
rightly_asked src (Record.Show o) = (refl, λ s. show-step s o)
rightly_asked src Record.Eager = (refl, λ s. eager-step s)

-- an event as it is sent
abbrev sends : List ℕ → Asked → Sent
sends l a = record { event = event_in a; list = l }

-- what the driver leaves and writes of a record, and what the session of its event has
record Sends (s : Store) (l : List ℕ) (next number : ℕ) (u : Store) (a : Asked) : Type 0 where
  left : forget (answered s l next number a).store ≡ forget (lent_any u (sends l a)).store
  line_is : (answered s l next number a).text ≡ line number (lent_any u (sends l a)).answer

asked-sends : (s u : Store) (l : List ℕ) (next number : ℕ) (a : Asked) → RightlyAsked a → forget s ≡ forget u → Sends s l next number u a
unfolding answered event_in
asked-sends s u l next number (Asked.event e) h q =
    let x = lent_alike l e s u q in
    record {
      left = x.same_store ∙ ap (λ (z : Lent). forget z.store) (sym (any_event u (record { event = e; list = l }) h));
      line_is = ap (line number) (x.same_answer ∙ ap (λ (z : Lent). z.answer) (sym (any_event u (record { event = e; list = l }) h)));
    }
asked-sends s u l next number (Asked.read e) h q =
    let x = read-forget e h.1 s in
    let y = read-forget e h.1 u in
    record {
      left = q ∙ sym (forget_twice u) ∙ y.same_store ∙ ap (λ (z : Lent). forget z.store) (sym (any_read u (record { event = e; list = l }) h.0));
      line_is = ap (line number)
          (sym x.same_answer ∙ ap (λ (z : Store). (lent_read z e).answer) q ∙ y.same_answer ∙ ap (λ (z : Lent). z.answer) (sym (any_read u (record { event = e; list = l }) h.0)));
    }

-- ---- lines

output_append : (n : ℕ) (xs ys : List Answer) → output n (xs ++ ys) ≡ output n xs ++ output (n + length xs) ys
unfolding output
output_append n [] ys = let e : n ≡ n + 0 = omega arith in ap (λ (m : ℕ). output m ys) e
output_append n (x ∷ xs) ys =
    let e : n + 1 + length xs ≡ n + suc (length xs) = omega arith in
    ap (λ (t : List ℕ). line n x ++ t) (output_append (n + 1) xs ys ∙ ap (λ (m : ℕ). output (n + 1) xs ++ output m ys) e)
    ∙ sym (append_assoc (line n x) (output (n + 1) xs) (output (n + suc (length xs)) ys))

answers-length : (h : List Entry) → length (answers_in h) ≡ length h
unfolding answers_in
answers-length [] = refl
answers-length (x ∷ h) = length-append (answers_in h) (x.answer ∷ []) ∙ (let e : length (answers_in h) ≡ length h = answers-length h in omega (arith, e))

-- one answer more has the next number
output_more : (h : List Entry) (x : Entry) (number : ℕ) → number ≡ suc (length h) → output 1 (answers_in (x ∷ h)) ≡ output 1 (answers_in h) ++ line number x.answer
unfolding answers_in output
output_more h x number e =
    let n : 1 + length (answers_in h) ≡ number = omega (arith, e, answers-length h) in
    output_append 1 (answers_in h) (x.answer ∷ []) ∙ ap (λ (t : List ℕ). output 1 (answers_in h) ++ t) (append-nil (line (1 + length (answers_in h)) x.answer))
    ∙ ap (λ (m : ℕ). output 1 (answers_in h) ++ line m x.answer) n

-- ---- the ways of the driver

module _ (s : Store) (l src : List ℕ) (from number : ℕ) where
  rest_end : parse src from ≡ at_end → drive_all_rest s l src from number ≡ record { refusal = 0; store = s; list = l; text = []; next = from; sent = [] }
  unfolding drive_one drive_by stopped parse_refusal
  rest_end e = all_stops s l src from number (ap (λ (p : Parsed). (drive_by s l src from number p).going) e) ∙ ap (λ (p : Parsed). stopped (parse_refusal p) (drive_by s l src from number p)) e

  rest-refused : parse src from ≡ no_record
      → drive_all_rest s l src from number ≡ record { refusal = 11; store = s; list = l; text = line number (Answer.refused 11); next = from; sent = [] }
  unfolding drive_one drive_by stopped parse_refusal refused_11
  rest-refused e = all_stops s l src from number (ap (λ (p : Parsed). (drive_by s l src from number p).going) e) ∙ ap (λ (p : Parsed). stopped (parse_refusal p) (drive_by s l src from number p)) e

  answered-goes : (next : ℕ) (a : Asked) → (answered s l next number a).going ≡ true
  unfolding answered
  answered-goes next (Asked.event e) = refl
  answered-goes next (Asked.read e) = refl

  rest-record : {r : Record} {next : ℕ} → parse src from ≡ a_record r next
      → (let x : Drives = answered s l next number (asked src r) in
      drive_all_rest s l src from number ≡ behind x.text (sends l (asked src r) ∷ []) (drive_all_rest x.store x.list src x.next (number + 1)))
  unfolding drive_one drive_by sent_of
  rest-record {r} {next} e =
      all_goes_on s l src from number (ap (λ (p : Parsed). (drive_by s l src from number p).going) e ∙ answered-goes next (asked src r))
      ∙ ap (λ (p : Parsed). let x : Drives = drive_by s l src from number p in behind x.text (sent_of l src p) (drive_all_rest x.store x.list src x.next (number + 1))) e

answered-next : (s : Store) (l : List ℕ) (next number : ℕ) (a : Asked) → (answered s l next number a).next ≡ next
unfolding answered
answered-next s l next number (Asked.event e) = refl
answered-next s l next number (Asked.read e) = refl

-- ---- all records

-- what the driver leaves behind a session y is the session's in which its events are sent
record Follows (y : Session) (x : DrivesAll) : Type 0 where
  store_is : forget x.store ≡ forget (send_all y x.sent).store
  text_is : output 1 (answers_in y.history) ++ x.text
      ≡ output 1 (answers_in (send_all y x.sent).history) ++ last_line x.refusal (suc (length (send_all y x.sent).history))

follows_record : (s : Store) (l : List ℕ) (next number : ℕ) (y : Session) (a : Asked) (z : DrivesAll) → number ≡ suc (length y.history) → Sends s l next number y.store a
    → Follows (send y (sends l a)) z → Follows y (behind (answered s l next number a).text (sends l a ∷ []) z)
unfolding behind send_all send entry_of
follows_record s l next number y a z n h f =
    let b : Answer = (lent_any y.store (sends l a)).answer in
    let before : List ℕ = output 1 (answers_in y.history) in
    record {
      store_is = f.store_is;
      text_is = ap (λ (t : List ℕ). before ++ (t ++ z.text)) h.line_is ∙ sym (append_assoc before (line number b) z.text)
          ∙ ap (λ (t : List ℕ). t ++ z.text) (sym (output_more y.history (entry_of (event_in a) b (lent_any y.store (sends l a)).store) number n)) ∙ f.text_is;
    }

-- all records from a place on, in a session whose store is the same but for the log
drive_follows : (k : ℕ) (s : Store) (l src : List ℕ) (from number : ℕ) (y : Session) → length src - from < k → forget s ≡ forget y.store → number ≡ suc (length y.history)
    → Follows y (drive_all_rest s l src from number)
drive_follows zero s l src from number y b q n = absurd (omega arith)
drive_follows (suc k) s l src from number y b q n = by (parse src from) refl (λ s' l' from' y'. drive_follows k s' l' src from' (number + 1) y')
  where
    by : (p : Parsed) → parse src from ≡ p
        → ((s' : Store) (l' : List ℕ) (from' : ℕ) (y' : Session) → length src - from' < k → forget s' ≡ forget y'.store → number + 1 ≡ suc (length y'.history)
        → Follows y' (drive_all_rest s' l' src from' (number + 1)))
        → Follows y (drive_all_rest s l src from number)
    by (Ok None) e go = subst (Follows y) (sym (rest_end s l src from number e)) (record { store_is = unfold send_all in q; text_is = unfold send_all last_line in refl })
    by (Err m) e go = subst (Follows y) (sym (rest-refused s l src from number e)) (record {
      store_is = unfold send_all in q;
      text_is = unfold send_all last_line in (ap (λ (m : ℕ). output 1 (answers_in y.history) ++ line m (Answer.refused 11)) n);
    })
    by (Ok (Some f)) e go =
        let a : Asked = asked src f.what in
        let h : Sends s l f.next number y.store a = asked-sends s y.store l f.next number a (rightly_asked src f.what) q in
        let i = parse_inside src from e in
        let x : Drives = answered s l f.next number a in
        let m : x.next ≡ f.next = answered-next s l f.next number a in
        subst (Follows y) (sym (rest-record s l src from number e))
        (follows_record s l f.next number y a _ n h
        (go x.store x.list x.next (send y (sends l a)) (omega (arith, m, i.behind, i.within)) (unfold send in h.left)
        (unfold send in (omega (arith, n)))))

-- a session has an entry for each event
entries-length : (es : List Sent) (y : Session) → length (send_all y es).history ≡ length es + length y.history
unfolding send_all send
entries-length [] y = omega arith
entries-length (e ∷ es) y = let h : length (send_all (send y e) es).history ≡ length es + suc (length y.history) = entries-length es (send y e) in omega (arith, h)

pub session-length : (es : List Sent) → length (session es).history ≡ length es
unfolding session begun
session-length es = let h : length (send_all begun es).history ≡ length es + 0 = entries-length es begun in omega (arith, h)

-- Of every input, with every call list: the store after its records is that of the session of their events, but for the log, and the text is the lines of that
-- session's answers, and of an 11 where one ended it.
pub driven-is-session : (l src : List ℕ) → IsSession (drive_all l src)
unfolding drive_all session begun answers_in output
driven-is-session l src =
    let f : Follows begun (drive_all_rest fresh l src 0 1) = drive_follows (suc (length src)) fresh l src 0 1 begun (omega arith) refl refl in
    record {
      store_is = f.store_is;
      text_is = f.text_is ∙ ap (λ (n : ℕ). output 1 (answers_in (session (sent_by src l)).history) ++ last_line (drive_all l src).refusal (suc n)) (session-length (sent_by src l));
    }
