-- The records of a session, as the code takes them: what is left to do from a record on gives what the whole does.
use Rattle.std.specs.Prelude.{None, Some, Ok, Err}
use Rattle.std.specs.Prelude.{◌≡◌, refl, Bool, true, not, ◌&&◌, ℕ, suc, ◌+◌, ◌-◌, ◌*◌, ◌≤◌, leb}
use Rattle.std.proofs.Math.Path.{sym, ap, subst}
use Rattle.std.proofs.Common.{◌∙◌, add-one, arith, length-append}
use Rattle.std.proofs.Math.Bool.{false}
use mathlib.Core.List.{List, [], ◌∷◌, ◌++◌, append_assoc, append-nil}
use Rattle.std.proofs.Math.ListN.{length}
use borrow.Author.Tests.{not-true, not-false}
use Rattle.asyncio.specs.Limits.{object_limit}
use Rattle.queue.specs.declared.ReadyQueue.{ReadyQueue}
use Rattle.machine.specs.Store.{Store, LogEntry, store_of, put_task, put_header, empty, fresh}
use Rattle.machine.specs.Sessions.{Sent, InRange, AllSentInRange}
use Rattle.machine.specs.Machine.{Step}
use Rattle.machine.specs.Lent.{slices_right, lengths_right, lent_begin}
use Rattle.machine_laws.specs.TestLaws.{and-true}
use Rattle.machine_theorems.specs.Soundness.Stores.{SoundStore}
use Rattle.machine_theorems.specs.Soundness.Sessions.{fresh_sound_store}
use Rattle.exec_switch.specs.Answer.{stepped_of}
use Rattle.exec_switch.specs.declared.answer.Answer.{Answer}
use Rattle.step_checks.specs.Lent.{are_slices}
use Rattle.drive_text.specs.Out.{Out, out_of, Wrote}
use Rattle.drive_text.specs.OutLaws.{wrote_none, then, at_most}
use Rattle.drive_reader.specs.declared.Record.{Record}
use Rattle.drive_reader.specs.Parsed.{Parsed}
use Rattle.drive_reader.specs.Format.{parse}
use Rattle.drive_reader.specs.RecordNumbers.{parse_refusal}
use Rattle.drive_lines.specs.Lines.{line_limit}
use Rattle.drive_answer.specs.Driver.{asked, Drives, refused_11, drive_by, drive_one}
use Rattle.drive_answer.specs.declared.answered.Driven.{Driven}
use Rattle.drive_answer.specs.Drove.{Drove, RecordFits, ParsedFits}
use Rattle.drive_record.specs.ProgressLaws.{Onward, going_on}
use Rattle.drive_laws.specs.KeptLaws.{record_sound_store}
use Rattle.drive_session.specs.declared.DrivenSession.{DrivenSession}
use Rattle.drive_session.specs.Fold.{DrivesAll, event_in, sent_of, stopped, behind, drive_all_rest, drive_all, lent_session, stop_refusal}
use Rattle.drive_session.specs.FoldLaws.{all_goes_on, all_stops, stops_with}
use Rattle.drive_session.specs.Session.{DroveAll, ended_at}

-- ---- the events of records

-- the event of a record is in range, as its types have it
event_in_range : (src : List ℕ) (r : Record) → RecordFits r → InRange (event_in (asked src r))
unfolding asked event_in InRange
event_in_range src (Record.Coroutine f) i = i
event_in_range src Record.Call i = tt
event_in_range src (Record.Pending c x) i = tt
event_in_range src (Record.Settled v) i = tt
event_in_range src (Record.Gather first count) i = tt
event_in_range src (Record.Await o) i = tt
event_in_range src (Record.Complete v) i = tt
event_in_range src (Record.Fail n) i = i
event_in_range src (Record.Results first count) i = tt
event_in_range src Record.Resume i = tt
event_in_range src (Record.Cancel t) i = tt
event_in_range src (Record.Show o) i = tt
event_in_range src Record.Eager i = tt

pub sent_in_range : (l src : List ℕ) (p : Parsed) → ParsedFits p → AllSentInRange (sent_of l src p)
unfolding sent_of AllSentInRange
sent_in_range l src (Ok None) i = tt
sent_in_range l src (Err n) i = tt
sent_in_range l src (Ok (Some f)) i = (event_in_range src f.what i, tt)

pub append_in_range : (es fs : List Sent) → AllSentInRange es → AllSentInRange fs → AllSentInRange (es ++ fs)
unfolding AllSentInRange
append_in_range [] fs i j = j
append_in_range (e ∷ es) fs i j = (i.0, append_in_range es fs i.1 j)

-- where the driver goes on there is one
one_sent : (s : Store) (l src : List ℕ) (from number : ℕ) → (drive_one s l src from number).going ≡ true → length (sent_of l src (parse src from)) ≡ 1
unfolding drive_one drive_by refused_11 sent_of
one_sent s l src from number g = by (parse src from) g
  where
    by : (p : Parsed) → (drive_by s l src from number p).going ≡ true → length (sent_of l src p) ≡ 1
    by (Ok None) h = cc
    by (Err n) h = cc
    by (Ok (Some f)) h = refl

-- ---- lines and events one after the other

behind-behind : (ls ms : List ℕ) (es fs : List Sent) (y : DrivesAll) → behind ls es (behind ms fs y) ≡ behind (ls ++ ms) (es ++ fs) y
unfolding behind
behind-behind ls ms es fs y =
    ap (λ (t : List ℕ). record { refusal = y.refusal; store = y.store; list = y.list; text = t; next = y.next; sent = es ++ (fs ++ y.sent) }) (sym (append_assoc ls ms y.text))
    ∙ ap (λ (t : List Sent). record { refusal = y.refusal; store = y.store; list = y.list; text = ls ++ ms ++ y.text; next = y.next; sent = t }) (sym (append_assoc es fs y.sent))

behind-none : (y : DrivesAll) → behind [] [] y ≡ y
unfolding behind
behind-none y = refl

-- ---- the loop

-- Before the record `number` at `from`: with some log, what is left to do gives, behind the lines and events so far, what the whole input gives. The lines so
-- far are written. Each record took a byte or more.
pub record Left (l src : List ℕ) (start : Out) (ts os ps cs : List ℕ) (q : ReadyQueue) (from number : ℕ) (here : Out) : Type 0 where
  pub log : List LogEntry
  pub text : List ℕ
  pub sent : List Sent
  pub rest_is : behind text sent (drive_all_rest (store_of ts os ps q log) cs src from number) ≡ drive_all l src
  pub wrote : Wrote (line_limit * length sent) start here text
  pub number_is : number ≡ suc (length sent)
  pub few : length sent ≤ from
  pub inside : from ≤ length src
  pub in_range : AllSentInRange sent
  pub whole : SoundStore (store_of ts os ps q [])

-- at the beginning
pub left-begins : (l src : List ℕ) (start : Out) {ts os ps : List ℕ} {q : ReadyQueue} → store_of ts os ps q [] ≡ fresh → Left l src start ts os ps l q 0 1 start
left-begins l src start {ts} {os} {ps} {q} e = record {
  log = [];
  text = [];
  sent = [];
  rest_is = behind-none _ ∙ ap (λ (s : Store). drive_all_rest s l src 0 1) e ∙ (unfold drive_all in refl);
  wrote = at_most (omega arith) (wrote_none start);
  number_is = refl;
  few = omega arith;
  inside = omega arith;
  in_range = unfold AllSentInRange in tt;
  whole = subst SoundStore (sym e) fresh_sound_store;
}

module _ {l src : List ℕ} {start here : Out} {ts os ps cs : List ℕ} {q : ReadyQueue} {from number : ℕ} (h : Left l src start ts os ps cs q from number here)
    {ts' os' ps' cs' : List ℕ} {q' : ReadyQueue} {next : ℕ} {going : Bool} {there : Out}
    (d : (k : List LogEntry) → Drove ts' os' ps' q' cs' next going here there (drive_one (store_of ts os ps q k) cs src from number)) where
  abbrev one : Drives
  one = drive_one (store_of ts os ps q h.log) cs src from number

  -- one record was read, and the driver goes on
  pub left_onward : not going ≡ false → Onward src from next
  left_onward g = subst (Onward src from) (sym (d h.log).next_is) (going_on _ cs src from number (sym (d h.log).going_is ∙ not-false going g))

  pub left-turn : ParsedFits (parse src from) → not going ≡ false → Left l src start ts' os' ps' cs' q' next (number + 1) there
  left-turn i g =
      let w = d h.log in
      let goes : one.going ≡ true = sym w.going_is ∙ not-false going g in
      let more : List Sent = sent_of cs src (parse src from) in
      let count : length (h.sent ++ more) ≡ suc (length h.sent) =
      length-append h.sent more ∙ ap (λ (n : ℕ). length h.sent + n) (one_sent _ cs src from number goes) ∙ add-one _ in
      let o = left_onward g in
      let rest : drive_all_rest (store_of ts' os' ps' q' one.store.log) cs' src next (number + 1) ≡ drive_all_rest one.store one.list src one.next (number + 1) =
      ap (λ (s : Store). drive_all_rest s cs' src next (number + 1)) w.store_is ∙ ap (λ (c : List ℕ). drive_all_rest one.store c src next (number + 1)) w.list_is
      ∙ ap (λ (n : ℕ). drive_all_rest one.store one.list src n (number + 1)) w.next_is in
      record {
        log = one.store.log;
        text = h.text ++ one.text;
        sent = h.sent ++ more;
        rest_is = ap (behind (h.text ++ one.text) (h.sent ++ more)) rest ∙ sym (behind-behind h.text one.text h.sent more _)
            ∙ ap (behind h.text h.sent) (sym (all_goes_on _ cs src from number goes)) ∙ h.rest_is;
        wrote = at_most (omega (arith, count)) (then h.wrote w.wrote);
        number_is = omega (arith, count, h.number_is);
        few = omega (arith, count, h.few, o.behind);
        inside = o.within;
        in_range = append_in_range h.sent more h.in_range (sent_in_range cs src (parse src from) i);
        whole = record_sound_store _ cs src from number h.whole i (d []);
      }

  -- it stops: all is done
  all_done : not going ≡ true → (at : ℕ)
      → DroveAll ts' os' ps' cs' (record { queue = q'; refusal = stop_refusal (length src) next; records = number - 1; next = next; at = at }) start there (drive_all l src)
  unfolding behind stopped AllSentInRange
  all_done g at =
      let w = d h.log in
      let stops : one.going ≡ false = sym w.going_is ∙ not-true going g in
      let none : length (h.sent ++ []) ≡ length h.sent = ap length (append-nil h.sent) in
      let whole_is : behind h.text h.sent (stopped (parse_refusal (parse src from)) one) ≡ drive_all l src =
      ap (behind h.text h.sent) (sym (all_stops _ cs src from number stops)) ∙ h.rest_is in
      subst (DroveAll ts' os' ps' cs' _ start there) whole_is (record {
        store_is = w.store_is;
        list_is = w.list_is;
        refusal_is = ap (stop_refusal (length src)) w.next_is ∙ stops_with _ cs src from number stops;
        next_is = w.next_is;
        records_is = omega (arith, none, h.number_is);
        wrote = at_most (omega (arith, none)) (then h.wrote w.wrote);
        in_range = append_in_range h.sent [] h.in_range tt;
      })

-- the end, as the code returns it
pub left-ends : {l src : List ℕ} {start here : Out} {ts os ps cs : List ℕ} {q : ReadyQueue} {from number : ℕ} → Left l src start ts os ps cs q from number here
    → (x : Driven) {ts' os' ps' cs' bs : List ℕ}
    → ((k : List LogEntry) → Drove ts' os' ps' x.queue cs' x.next x.going here (out_of bs x.at) (drive_one (store_of ts os ps q k) cs src from number))
    → not x.going ≡ true → {r : DrivenSession} → r ≡ ended_at x (length src) number → DroveAll ts' os' ps' cs' r start (out_of bs r.at) (drive_all l src)
left-ends {l} {src} {start} h x {ts'} {os'} {ps'} {cs'} {bs} d g e =
    subst (λ (z : DrivenSession). DroveAll ts' os' ps' cs' z start (out_of bs z.at) (drive_all l src)) (sym e) (all_done h d g x.at)

-- ---- the beginning

fresh-log : fresh.log ≡ []
unfolding fresh empty put_task put_header
fresh-log = refl

module _ (ts os ps cs src : List ℕ) (q : ReadyQueue) (l : List LogEntry) {b : Bool} (e : b ≡ (are_slices (length ts) (length os) (length ps) && leb object_limit (length cs))) where
  -- where the lengths are right, a session begins fresh ..
  fresh-is : b ≡ true → (lent_begin (store_of ts os ps q [])).store ≡ fresh
  unfolding lent_begin slices_right
  fresh-is i = rw (and-true (are_slices (length ts) (length os) (length ps)) (leb object_limit (length cs)) (sym e ∙ i)).0

  pub session-begins : b ≡ true → {ts' os' ps' : List ℕ} {q' : ReadyQueue} (a : Answer)
      → stepped_of (store_of ts' os' ps' q' (lent_begin (store_of ts os ps q [])).store.log) a ≡ lent_begin (store_of ts os ps q []) → store_of ts' os' ps' q' [] ≡ fresh
  session-begins i {ts'} {os'} {ps'} {q'} a h =
      let k : (lent_begin (store_of ts os ps q [])).store.log ≡ [] = ap (λ (s : Store). s.log) (fresh-is i) ∙ fresh-log in
      ap (λ (m : List LogEntry). store_of ts' os' ps' q' m) (sym k) ∙ ap (λ (x : Step). x.store) h ∙ fresh-is i

  -- .. and takes its records
  pub session-is : b ≡ true → drive_all cs src ≡ lent_session (store_of ts os ps q l) cs src
  unfolding lent_session lengths_right slices_right
  session-is i = rw (sym e ∙ i)

  -- else nothing is done
  pub session-refused : b ≡ false → (r : DrivenSession) (start : Out) → r.queue ≡ q → r.refusal ≡ 1 → r.records ≡ 0 → r.next ≡ 0
      → DroveAll ts os ps cs r start start (lent_session (store_of ts os ps q l) cs src)
  unfolding lent_session lengths_right slices_right AllSentInRange
  session-refused i r start eq er ec en = rw (sym e ∙ i) (record {
    store_is = ap (λ (z : ReadyQueue). store_of ts os ps z l) eq;
    list_is = refl;
    refusal_is = er;
    next_is = en;
    records_is = ec;
    wrote = at_most (omega arith) (wrote_none start);
    in_range = tt;
  })
