-- Laws of the driver, one for each way to a line.
use Rattle.std.specs.Prelude.{◌≡◌, refl, Bool, true, false, List, [], ◌∷◌, ℕ, ◌+◌, ◌-◌, ◌*◌, ◌≤◌, eqb, leb, length, take, drop}
use Rattle.std.proofs.Common.{sym, ap, ◌∙◌, arith, leb-true}
use Rattle.asyncio.specs.Limits.{object_limit}
use Rattle.asyncio.specs.States.{pick}
use Rattle.queue.specs.declared.ReadyQueue.{ReadyQueue}
use Rattle.machine.specs.Store.{Store, LogEntry, store_of, header}
use Rattle.machine.specs.Sound.{sound}
use Rattle.machine.specs.Events.{make_gather}
use Rattle.machine.specs.Machine as machine
use Rattle.machine.specs.Machine.{first_refusal, refusals, accept, decide}
use Rattle.machine.specs.Lent.{Lent, slices_right, lengths_right, write_calls, answer_calls, written, lent_step, lent_read}
use Rattle.machine_laws.specs.TestLaws.{and-true}
use Rattle.machine_laws.specs.MachineLaws.{lent-count, lent_calls, lent_length}
use Rattle.exec_switch.specs.Answer.{answer_with, answer_of, stepped_of}
use Rattle.exec_switch.specs.declared.answer.Answer.{Answer}
use Rattle.step_checks.specs.Checked.{checked}
use Rattle.step_checks.specs.Lent.{lent_of}
use Rattle.step_checks.specs.LentLaws.{logs}
use Rattle.step_read.specs.Reads.{Reading, show_answer}
use Rattle.drive_reader.specs.declared.Record.{Record}
use Rattle.drive_reader.specs.Parsed.{at_end, no_record, a_record}
use Rattle.drive_reader.specs.Format.{parse}
use Rattle.drive_reader.specs.ParseLaws.{results_inside}
use Rattle.drive_text.specs.Out.{Out, Wrote}
use Rattle.drive_text.specs.OutLaws.{wrote_none, at_most}
use Rattle.drive_shows.specs.Shows.{reading_count}
use Rattle.drive_shows.specs.AnswerLaws.{wrote_event, wrote_eager, wrote_show}
use Rattle.drive_lines.specs.Lines.{line}
use Rattle.drive_answer.specs.Driver.{Asked, asked, Drives, refused_11, answered, drive_by, drive_one}
use Rattle.drive_answer.specs.declared.answered.Asks.{Asks}
use Rattle.step_event.specs.EventOf.{event_of}
use Rattle.step_event.specs.SoundStepLaws.{steps_soundly}
use Rattle.drive_answer.specs.Drove.{Drove, InInput, RecordFits}

-- ---- lines

-- An event: what the library ensures, and the line that was written.
pub event_drove : (u : Store) (l : List ℕ) (e : machine.Event) (next number : ℕ) (a : Answer) (k : ℕ) {ts os ps cs : List ℕ} {q : ReadyQueue} {x y : Out}
    → lent_of (store_of ts os ps q (lent_step u l e).store.log) cs a k ≡ lent_step u l e
    → Wrote (123 + 21 * length (take k cs)) x y (line number (answer_with (take k cs) a))
    → Drove ts os ps q cs next true x y (answered u l next number (Asked.event e))
unfolding answered
event_drove u l e next number a k {ts} {os} {ps} {cs} {q} h w = record {
  store_is = ap (λ (z : Lent). z.store) h;
  list_is = ap (λ (z : Lent). z.list) h;
  next_is = refl;
  going_is = refl;
  wrote = wrote_event number (store_of ts os ps q (lent_step u l e).store.log) u cs l a k e h w;
}

-- A wait's calls stand within the list, which has room for every wait.
pub count_within : (u : Store) (l : List ℕ) (e : machine.Event) {x : Lent} → x ≡ lent_step u l e → lengths_right u l ≡ true → x.count ≤ length x.list
count_within u l e {x} r h =
    let k : x.count ≡ length (answer_calls (lent_step u l e).answer) = ap (λ (y : Lent). y.count) r ∙ lent-count u l e in
    let n : length x.list ≡ length l = ap (λ (y : Lent). length y.list) r ∙ lent_length u l e in
    let room : object_limit ≤ length l = leb-true object_limit (length l) (unfold lengths_right in (and-true (slices_right u) (leb object_limit (length l)) h).1) in
    omega (arith, k, (lent_calls u l e).few, n, room)

-- A gather's answer is no wait, done or refused: the list of calls stays.
picked_keeps : (b : Bool) (s s' : Store) (o n : ℕ) (cs : List ℕ)
    → let a : machine.Answer = (pick {A = machine.Step} b (record { store = s; answer = machine.Answer.made o }) (record { store = s'; answer = machine.Answer.refused n })).answer in
    (cs ≡ written a cs) × (0 ≡ length (answer_calls a))
unfolding written write_calls answer_calls
picked_keeps true s s' o n cs = (refl, refl)
picked_keeps false s s' o n cs = (refl, refl)

gather_keeps : (s : Store) (is cs : List ℕ)
    → let a : machine.Answer = (checked s (machine.Event.gather is)).answer in
    (cs ≡ written a cs) × (0 ≡ length (answer_calls a))
unfolding checked decide accept
gather_keeps s is cs =
    let n : ℕ = first_refusal (refusals s (machine.Event.gather is)) in
    picked_keeps (eqb n 0) (make_gather s is) s (header s).made n cs

-- A gather: what it makes, and the line that was written.
pub gather_drove : (ts os ps : List ℕ) (q : ReadyQueue) (cs : List ℕ) (l : List LogEntry) (is : List ℕ) (next number : ℕ) (a : Answer) {os' ps' : List ℕ} {x y : Out}
    → lengths_right (store_of ts os ps q []) cs ≡ true
    → sound (store_of ts os ps q []) ≡ true
    → stepped_of (store_of ts os' ps' q []) a ≡ checked (store_of ts os ps q []) (machine.Event.gather is)
    → Wrote (123 + 21 * 0) x y (line number (answer_with [] a))
    → Drove ts os' ps' q cs next true x y (answered (store_of ts os ps q l) cs next number (Asked.event (machine.Event.gather is)))
gather_drove ts os ps q cs l is next number a {os'} {ps'} i k r w =
    let e : (checked (store_of ts os ps q []) (machine.Event.gather is)).answer ≡ answer_of os' a = sym (ap (λ (z : machine.Step). z.answer) r) in
    let f = gather_keeps (store_of ts os ps q []) is cs in
    let n : (cs ≡ written (answer_of os' a) cs) × (0 ≡ length (answer_calls (answer_of os' a))) =
    (f.0 ∙ ap (λ (z : machine.Answer). written z cs) e, f.1 ∙ ap (λ (z : machine.Answer). length (answer_calls z)) e) in
    event_drove (store_of ts os ps q l) cs (machine.Event.gather is) next number a 0 (steps_soundly ts os ps q cs l (machine.Event.gather is) i k a (logs [] a r) n) w

-- A read of an object.
pub show_drove : (ts os ps : List ℕ) (q : ReadyQueue) (k : List LogEntry) (l : List ℕ) (o next number : ℕ) (r : Reading) {x y : Out}
    → show_answer ps r ≡ (lent_read (store_of ts os ps q k) (machine.Event.show o)).answer
    → Wrote (75 + 27 * reading_count r) x y (line number (show_answer ps r))
    → Drove ts os ps q l next true x y (answered (store_of ts os ps q k) l next number (Asked.read (machine.Event.show o)))
unfolding answered
show_drove ts os ps q k l o next number r h w = record {
  store_is = refl;
  list_is = refl;
  next_is = refl;
  going_is = refl;
  wrote = wrote_show number ps (store_of ts os ps q k) o r h w;
}

-- The read `eager`.
pub eager_drove : (ts os ps : List ℕ) (q : ReadyQueue) (k : List LogEntry) (l : List ℕ) (next number : ℕ) (a : Answer) {x y : Out}
    → answer_of os a ≡ (lent_read (store_of ts os ps q k) machine.Event.eager).answer
    → Wrote (123 + 21 * 0) x y (line number (answer_with [] a))
    → Drove ts os ps q l next true x y (answered (store_of ts os ps q k) l next number (Asked.read machine.Event.eager))
unfolding answered
eager_drove ts os ps q k l next number a h w = record {
  store_is = refl;
  list_is = refl;
  next_is = refl;
  going_is = refl;
  wrote = wrote_eager number os (store_of ts os ps q k) a h w;
}

-- Refusal 11.
pub refused_drove : (ts os ps : List ℕ) (q : ReadyQueue) (k : List LogEntry) (l : List ℕ) (next number : ℕ) {x y : Out}
    → Wrote 50 x y (line number (machine.Answer.refused 11))
    → Drove ts os ps q l next false x y (refused_11 (store_of ts os ps q k) l next number)
unfolding refused_11
refused_drove ts os ps q k l next number w = record { store_is = refl; list_is = refl; next_is = refl; going_is = refl; wrote = at_most (omega arith) w }

-- ---- the same

pub same_drives : {ts os ps cs : List ℕ} {q : ReadyQueue} {next : ℕ} {going : Bool} {x y : Out} {d e : Drives} → d ≡ e
    → Drove ts os ps q cs next going x y d → Drove ts os ps q cs next going x y e
same_drives {d} {e} h w = rw h at w

-- an event that is the same
pub same-event : (u : Store) (l : List ℕ) (next number : ℕ) {d e : machine.Event} {ts os ps cs : List ℕ} {q : ReadyQueue} {after : ℕ} {going : Bool} {x y : Out} → d ≡ e
    → Drove ts os ps q cs after going x y (answered u l next number (Asked.event d)) → Drove ts os ps q cs after going x y (answered u l next number (Asked.event e))
same-event u l next number h w = same_drives (ap (λ (e : machine.Event). answered u l next number (Asked.event e)) h) w

-- the n bytes from a place on: a part's end is written as a sum
pub part_is : (src : List ℕ) (first n : ℕ) → take (first + n - first) (drop first src) ≡ take n (drop first src)
part_is src first n = let e : first + n - first ≡ n = omega arith in rw e

-- ---- what a record asks

-- what a record that was read asks stands in the input
pub asks_inside : (src : List ℕ) (from : ℕ) (r : Record) {next : ℕ} → parse src from ≡ a_record r next → InInput src r
asks_inside src from (Record.Coroutine f) e = tt
asks_inside src from Record.Call e = tt
asks_inside src from (Record.Pending c x) e = tt
asks_inside src from (Record.Settled v) e = tt
asks_inside src from (Record.Gather first count) e = tt
asks_inside src from (Record.Await o) e = tt
asks_inside src from (Record.Complete v) e = tt
asks_inside src from (Record.Fail n) e = tt
asks_inside src from (Record.Results first count) e = results_inside src from e
asks_inside src from Record.Resume e = tt
asks_inside src from (Record.Cancel t) e = tt
asks_inside src from (Record.Show o) e = tt
asks_inside src from Record.Eager e = tt

-- A record that is an event of the code: no items are looked at, and its results stand within the input.
pub record AsksEvent (src : List ℕ) (r : Record) (x : Asks) : Type 0 where
  pub is_event : asked src r ≡ Asked.event (event_of (0 ∷ []) (take (x.count * 14) (drop x.first src)) x.event)
  pub inside : x.first + x.count * 14 ≤ length src
  pub fits : RecordFits r

-- its line is the record's
pub asks_drove : (src : List ℕ) {r : Record} {x : Asks} (u : Store) (l : List ℕ) (next number : ℕ) {ts os ps cs : List ℕ} {q : ReadyQueue} {after : ℕ} {going : Bool} {b e : Out}
    → AsksEvent src r x
    → Drove ts os ps q cs after going b e (answered u l next number (Asked.event (event_of (0 ∷ []) (take (x.first + x.count * 14 - x.first) (drop x.first src)) x.event)))
    → Drove ts os ps q cs after going b e (answered u l next number (asked src r))
asks_drove src {r} {x} u l next number a w =
    same_drives
    (ap (λ (bs : List ℕ). answered u l next number (Asked.event (event_of (0 ∷ []) bs x.event))) (part_is src x.first (x.count * 14))
    ∙ ap (answered u l next number) (sym a.is_event))
    w

-- ---- one record

-- the end of the input
pub end_drove : (ts os ps : List ℕ) (q : ReadyQueue) (k : List LogEntry) (l src : List ℕ) (from number : ℕ) {x : Out}
    → parse src from ≡ at_end
    → Drove ts os ps q l from false x x (drive_one (store_of ts os ps q k) l src from number)
unfolding drive_one drive_by
end_drove ts os ps q k l src from number e = rw e (record { store_is = refl; list_is = refl; next_is = refl; going_is = refl; wrote = at_most (omega arith) (wrote_none _) })

-- no record
pub none_drove : (ts os ps : List ℕ) (q : ReadyQueue) (k : List LogEntry) (l src : List ℕ) (from number : ℕ) {x y : Out}
    → parse src from ≡ no_record
    → Wrote 50 x y (line number (machine.Answer.refused 11))
    → Drove ts os ps q l from false x y (drive_one (store_of ts os ps q k) l src from number)
unfolding drive_one drive_by
none_drove ts os ps q k l src from number e w = rw e (refused_drove ts os ps q k l from number w)

-- a record is what it asks, answered
pub record_drives : (u : Store) (l src : List ℕ) (from number : ℕ) {r : Record} {next : ℕ}
    → parse src from ≡ a_record r next
    → answered u l next number (asked src r) ≡ drive_one u l src from number
unfolding drive_one drive_by
record_drives u l src from number e = rw e
