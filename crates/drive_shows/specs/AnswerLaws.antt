-- The line that a caller of the library writes of what it was answered is the line of the machine's answer, and how long it can be.
use Rattle.std.specs.Prelude.{◌≡◌, refl, List, [], Ok, Err, ℕ, ◌+◌, ◌*◌, ◌≤◌, eqb, length, take}
use Rattle.std.proofs.Common.{sym, ap, ◌∙◌, arith, length-take}
use Rattle.asyncio.specs.Limits.{object_limit, item_limit}
use Rattle.asyncio.specs.Ranges.{ObjectFits}
use Rattle.asyncio.specs.declared.ExternalFutureState.{ExternalFutureState}
use Rattle.asyncio.specs.declared.GatherState.{GatherState}
use Rattle.asyncio.specs.declared.Object.{Object}
use Rattle.rows.specs.TableLaws.{object_at-fits}
use Rattle.machine.specs.Store.{Store, object, forget}
use Rattle.machine.specs.Machine as machine
use Rattle.machine.specs.Machine.{Event, Step, refusal, accept, decide, step, shown, show_places}
use Rattle.machine.specs.Lent.{Lent, slices_right, write_calls, control_calls, answer_calls, lent_step, lent_read}
use Rattle.asyncio.specs.RangeLaws.{pick_has}
use Rattle.machine_laws.specs.MachineLaws.{take-write_calls, lent-list, lent-count, lent_calls}
use Rattle.exec_switch.specs.Answer.{answer_with, answer_of}
use Rattle.exec_switch.specs.declared.control.Control.{Control}
use Rattle.exec_switch.specs.declared.answer.Answer.{Answer}
use Rattle.step_checks.specs.Lent.{lent_of}
use Rattle.step_read.specs.Reads.{Reading, shown_of, show_answer}
use Rattle.step_read.specs.ReadLaws.{shows-places}
use Rattle.step_read.specs.declared.Shown.{Shown}
use Rattle.drive_text.specs.Out.{Out, Wrote}
use Rattle.drive_text.specs.OutLaws.{at_most}
use Rattle.drive_shows.specs.Shows.{shown_count, reading_count}
use Rattle.drive_lines.specs.Lines.{line, line_limit}
use Rattle.step_read.specs.ReadLaws.{shown-length}

-- ---- events

-- with its own calls the answer is the machine's
own_calls : (os : List ℕ) (a : Answer) → answer_with (answer_calls (answer_of os a)) a ≡ answer_of os a
unfolding answer_calls control_calls
own_calls os (Answer.Made o) = refl
own_calls os (Answer.Called n) = refl
own_calls os (Answer.Switched (Control.Runs t h)) = refl
own_calls os (Answer.Switched Control.Waits) = refl
own_calls os (Answer.Awaited (Control.Runs t h) n) = refl
own_calls os (Answer.Awaited Control.Waits n) = refl
own_calls os Answer.Done = refl
own_calls os (Answer.Cancelled n) = refl
own_calls os Answer.Stalled = refl
own_calls os (Answer.Finished v) = refl
own_calls os (Answer.FinishedError e) = refl
own_calls os (Answer.Eager b) = refl
own_calls os (Answer.Refused n) = refl

-- What an entry ensures: its count of words at the list's front are the calls of the answer.
module _ (s u : Store) (cs l : List ℕ) (a : Answer) (k : ℕ) (e : Event) (r : lent_of s cs a k ≡ lent_step u l e) where
  told-answer : answer_of s.objects a ≡ (lent_step u l e).answer
  told-answer = ap (λ (x : Lent). x.answer) r

  told-count : k ≡ length (answer_calls (lent_step u l e).answer)
  told-count = ap (λ (x : Lent). x.count) r ∙ lent-count u l e

  front-calls : take k cs ≡ answer_calls (lent_step u l e).answer
  front-calls =
      let w : cs ≡ write_calls (answer_calls (lent_step u l e).answer) l = ap (λ (x : Lent). x.list) r ∙ lent-list u l e in
      rw (told-count, w) (take-write_calls (answer_calls (lent_step u l e).answer) l)

  pub event-answer : answer_with (take k cs) a ≡ (lent_step u l e).answer
  event-answer =
      let c : take k cs ≡ answer_calls (answer_of s.objects a) = front-calls ∙ ap answer_calls (sym told-answer) in
      ap (λ (x : List ℕ). answer_with x a) c ∙ own_calls s.objects a ∙ told-answer

  pub calls_few : k ≤ object_limit
  calls_few = rw told-count (lent_calls u l e).few

-- ---- reads

eager_calls : (u : Store) → answer_calls (lent_read u Event.eager).answer ≡ []
unfolding lent_read step decide accept answer_calls
eager_calls u =
    pick_has (λ (x : Step). answer_calls x.answer ≡ []) (slices_right u)
    (pick_has (λ (x : Step). answer_calls x.answer ≡ []) (eqb (refusal u Event.eager) 0) refl refl) refl

-- The answer of `eager` has no calls.
pub eager-answer : (os : List ℕ) (u : Store) (a : Answer) → answer_of os a ≡ (lent_read u Event.eager).answer → answer_with [] a ≡ (lent_read u Event.eager).answer
eager-answer os u a r =
    let c : [] ≡ answer_calls (answer_of os a) = sym (ap answer_calls r ∙ eager_calls u) in
    ap (λ (x : List ℕ). answer_with x a) c ∙ own_calls os a ∙ r

-- the places that an answer shows
shown-places : machine.Shown → ℕ
shown-places (machine.Shown.a_coroutine x f) = 0
shown-places machine.Shown.an_external_pending = 0
shown-places (machine.Shown.an_external_resolved v) = 0
shown-places (machine.Shown.an_external_failed e) = 0
shown-places machine.Shown.a_gather_pending = 0
shown-places (machine.Shown.a_gather_awaited ps) = length ps
shown-places (machine.Shown.a_gather_completed ps) = length ps
shown-places (machine.Shown.a_gather_failed e) = 0
shown-places machine.Shown.nothing = 0

answer-places : machine.Answer → ℕ
answer-places (machine.Answer.made o) = 0
answer-places (machine.Answer.called n) = 0
answer-places (machine.Answer.control c) = 0
answer-places (machine.Answer.awaited c n) = 0
answer-places machine.Answer.done = 0
answer-places (machine.Answer.cancelled n) = 0
answer-places machine.Answer.stalled = 0
answer-places (machine.Answer.finished v) = 0
answer-places (machine.Answer.finished_error e) = 0
answer-places (machine.Answer.is_eager b) = 0
answer-places (machine.Answer.refused n) = 0
answer-places (machine.Answer.shows x) = shown-places x

show-length : (s : Store) (f m n : ℕ) → length (show_places s f m 0 n) ≡ n
show-length s f m n = ap length (sym (shows-places s f m n 0)) ∙ shown-length s.places f m n 0

shown-few : (s : Store) (x : Object) → ObjectFits x → shown-places (shown s x) ≤ item_limit
unfolding shown-places shown
shown-few s Object.Unmade h = omega arith
shown-few s (Object.Coroutine f x) h = omega arith
shown-few s (Object.ExternalFuture c (ExternalFutureState.Pending a r)) h = omega arith
shown-few s (Object.ExternalFuture c (ExternalFutureState.Resolved v)) h = omega arith
shown-few s (Object.ExternalFuture c (ExternalFutureState.Failed e)) h = omega arith
shown-few s (Object.GatherFuture f n GatherState.Pending) h = omega arith
shown-few s (Object.GatherFuture f n (GatherState.Awaited a m)) h = rw (show-length s f m n) h.0.at_most
shown-few s (Object.GatherFuture f n GatherState.Completed) h = rw (show-length s f 0 n) h.0.at_most
shown-few s (Object.GatherFuture f n (GatherState.Failed e)) h = omega arith

Few : Step → Type 0
Few x = answer-places x.answer ≤ item_limit

read-few : (u : Store) (o : ℕ) → Few (lent_read u (Event.show o))
unfolding Few answer-places lent_read step decide accept
read-few u o =
    pick_has Few (slices_right u)
    (pick_has Few (eqb (refusal u (Event.show o)) 0) (shown-few (forget u) (object (forget u) o) (unfold object in object_at-fits (forget u).objects o)) (omega arith))
    (omega arith)

shows-count : (ps : List ℕ) (x : Shown) → shown-places (shown_of ps x) ≡ shown_count x
unfolding shown-places shown_count
shows-count ps (Shown.Coroutine x f) = refl
shows-count ps Shown.ExternalPending = refl
shows-count ps (Shown.ExternalResolved v) = refl
shows-count ps (Shown.ExternalFailed e) = refl
shows-count ps Shown.GatherPending = refl
shows-count ps (Shown.GatherAwaited f n m) = shown-length ps f m n 0
shows-count ps (Shown.GatherCompleted f n) = shown-length ps f 0 n 0
shows-count ps (Shown.GatherFailed e) = refl
shows-count ps Shown.Nothing = refl

reads_count : (ps : List ℕ) (r : Reading) → answer-places (show_answer ps r) ≡ reading_count r
unfolding answer-places reading_count
reads_count ps (Ok x) = shows-count ps x
reads_count ps (Err r) = refl

-- a read shows at most 32 places
pub reading_few : (ps : List ℕ) (u : Store) (o : ℕ) (r : Reading) → show_answer ps r ≡ (lent_read u (Event.show o)).answer → reading_count r ≤ item_limit
unfolding Few
reading_few ps u o r h = rw (← reads_count ps r, h) (read-few u o)

-- ---- what a writer of lines wrote, as the line of the machine's answer

module _ (n : ℕ) {x y : Out} where
  -- write_line, of an event: `r` is what the entry ensures
  pub wrote_event : (s u : Store) (cs l : List ℕ) (a : Answer) (k : ℕ) (e : Event) → lent_of s cs a k ≡ lent_step u l e
      → Wrote (123 + 21 * length (take k cs)) x y (line n (answer_with (take k cs) a)) → Wrote line_limit x y (line n (lent_step u l e).answer)
  wrote_event s u cs l a k e r w =
      let f : length (take k cs) ≤ k = omega (arith, length-take k cs) in
      let h : Wrote (123 + 21 * length (take k cs)) x y (line n (lent_step u l e).answer) = rw (event-answer s u cs l a k e r) at w in
      at_most (omega (arith, f, calls_few s u cs l a k e r)) h

  -- write_line, of `eager`
  pub wrote_eager : (os : List ℕ) (u : Store) (a : Answer) → answer_of os a ≡ (lent_read u Event.eager).answer
      → Wrote (123 + 21 * 0) x y (line n (answer_with [] a)) → Wrote line_limit x y (line n (lent_read u Event.eager).answer)
  wrote_eager os u a r w = at_most (omega arith) (rw (eager-answer os u a r) at w)

  -- write_reading, of `show`
  pub wrote_show : (ps : List ℕ) (u : Store) (o : ℕ) (a : Reading) → show_answer ps a ≡ (lent_read u (Event.show o)).answer
      → Wrote (75 + 27 * reading_count a) x y (line n (show_answer ps a)) → Wrote line_limit x y (line n (lent_read u (Event.show o)).answer)
  wrote_show ps u o a r w =
      let f : reading_count a ≤ item_limit = reading_few ps u o a r in
      let h : Wrote (75 + 27 * reading_count a) x y (line n (lent_read u (Event.show o)).answer) = rw r at w in
      at_most (omega arith) h
