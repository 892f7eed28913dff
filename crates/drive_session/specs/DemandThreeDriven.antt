-- Demand 3 of a session that the driver runs: of its history, and of the store that the code leaves.
use Rattle.std.specs.Prelude.{◌≡◌, true, List, [], ◌++◌, map, length}
use Rattle.std.proofs.Math.Path.{refl, sym, ap, subst, fun_ext}
use Rattle.std.proofs.Common.{◌∙◌}
use Rattle.std.proofs.Math.Option.{Option}
use Prim.Native.Nat.{ℕ, suc, ◌*◌}
use Rattle.asyncio.specs.declared.Value.{Value}
use Rattle.queue.specs.declared.ReadyQueue.{ReadyQueue}
use Rattle.queue.specs.Queue.{entries}
use Rattle.machine.specs.Store.{Store, LogEntry, store_of, forget}
use Rattle.machine.specs.Machine.{Event, Shown, Step}
use Rattle.machine.specs.Lent.{lengths_right}
use Rattle.machine.specs.History.{Entry, outcome, value_of, items}
use Rattle.machine.specs.Sessions.{session, AllSentInRange}
use Rattle.machine.specs.DemandThree.{QueueRight, read, shown_by, look, delivered, PlacesRight, Demand3, DemandThree}
use Rattle.drive_text.specs.Out.{Out, Wrote}
use Rattle.drive_lines.specs.Lines.{line_limit, output}
use Rattle.drive_session.specs.declared.DrivenSession.{DrivenSession}
use Rattle.drive_session.specs.Fold.{DrivesAll, drive_all, sent_by, lent_session}
use Rattle.drive_session.specs.Session.{DroveAll}
use Rattle.drive_session.specs.SessionLaws.{answers_in, last_line, IsSession, step-alike, driven-is-session}
use Rattle.machine_sessions.specs.DemandThree.{demand_three}

-- ---- demand 3 sees nothing of the log

module _ (h : List Entry) (s u : Store) (q : forget s ≡ forget u) where
  read_alike : (o : ℕ) → read s o ≡ read u o
  unfolding read
  read_alike o = ap (λ (x : Step). x.answer) (step-alike s u (Event.show o) q)

  look-alike : look s ≡ look u
  unfolding look
  look-alike = fun_ext (λ o. ap shown_by (read_alike o))

  delivered-alike : delivered h s ≡ delivered h u
  unfolding delivered
  delivered-alike = fun_ext (λ o. ap (λ (f : ℕ → Shown). value_of (outcome h f o)) look-alike)

  places-alike : (g : ℕ) → PlacesRight h u g → PlacesRight h s g
  places-alike g p =
      let same : map (delivered h u) (items h g) ≡ map (delivered h s) (items h g) = ap (λ (f : ℕ → Option Value). map f (items h g)) (sym delivered-alike) in
      record {
        completed = λ vs e. let c = p.completed vs (sym (read_alike g) ∙ e) in (c.0 ∙ same, c.1);
        awaited = λ vs e. let c = p.awaited vs (sym (read_alike g) ∙ e) in (c.0 ∙ same, c.1);
      }

  queue-alike : u.queue ≡ s.queue
  unfolding forget
  queue-alike = ap (λ (z : Store). z.queue) (sym q)

  pub demand_alike : Demand3 h u → Demand3 h s
  demand_alike d = record {
    sound = λ e a. d.sound e (ap (λ (x : Step). x.answer) (sym (step-alike s u e q)) ∙ a);
    queue = subst (λ (z : ReadyQueue). QueueRight h (entries z)) queue-alike d.queue;
    places = λ g. places-alike g (d.places g);
    waits_right = d.waits_right;
    no_stall = d.no_stall;
  }

-- Of every input whose events are in range, with every call list: demand 3 of the session of its records, and of the store that they leave.
pub driven_demand_three : DemandThree → (l src : List ℕ) → AllSentInRange (sent_by src l) → Demand3 (session (sent_by src l)).history (drive_all l src).store
driven_demand_three d l src i = demand_alike _ _ (session (sent_by src l)).store (driven-is-session l src).store_is (d (sent_by src l) i)

-- and so it holds
pub driven_holds : (l src : List ℕ) → AllSentInRange (sent_by src l) → Demand3 (session (sent_by src l)).history (drive_all l src).store
driven_holds l src i = driven_demand_three demand_three l src i

-- ---- what a caller of `drive_session` has

-- Where the lengths are right the call was the session of the records' events, whose numbers are in range: the slices and the queue are its store, and the
-- lines of its answers were written, with that of an 11 where one ended it.
pub record RanSession (l src ts os ps : List ℕ) (r : DrivenSession) (start end : Out) : Type 0 where
  pub in_range : AllSentInRange (sent_by src l)
  pub records_are : r.records ≡ length (sent_by src l)
  pub store_is : store_of ts os ps r.queue [] ≡ forget (session (sent_by src l)).store
  pub wrote : Wrote (line_limit * suc r.records) start end (output 1 (answers_in (session (sent_by src l)).history) ++ last_line r.refusal (suc r.records))

module _ (s : Store) (l src : List ℕ) (right : lengths_right s l ≡ true) {ts os ps cs : List ℕ} {r : DrivenSession} {start end : Out}
    (c : DroveAll ts os ps cs r start end (lent_session s l src)) where
  called : DroveAll ts os ps cs r start end (drive_all l src)
  called = subst (DroveAll ts os ps cs r start end) same c
    where
      same : lent_session s l src ≡ drive_all l src
      same = unfold lent_session in (rw right)

  pub call-is-session : RanSession l src ts os ps r start end
  call-is-session =
      let x : DrivesAll = drive_all l src in
      let d = called in
      let i : IsSession x = driven-is-session l src in
      let f : forget (store_of ts os ps r.queue x.store.log) ≡ store_of ts os ps r.queue [] = unfold forget in refl in
      let t : x.text ≡ output 1 (answers_in (session (sent_by src l)).history) ++ last_line r.refusal (suc r.records) =
      i.text_is ∙ ap (λ (n : ℕ). output 1 (answers_in (session (sent_by src l)).history) ++ last_line n (suc (length (sent_by src l)))) (sym d.refusal_is)
      ∙ ap (λ (n : ℕ). output 1 (answers_in (session (sent_by src l)).history) ++ last_line r.refusal (suc n)) (sym d.records_is) in
      record {
        in_range = d.in_range;
        records_are = d.records_is;
        store_is = sym f ∙ ap forget d.store_is ∙ i.store_is;
        wrote = subst (Wrote (line_limit * suc r.records) start end) t (subst (λ (n : ℕ). Wrote (line_limit * suc n) start end x.text) (sym d.records_is) d.wrote);
      }

  -- Demand 3 of that session's history, and of the slices and the queue, with whatever log.
  pub call_demand_three : DemandThree → (k : List LogEntry) → Demand3 (session (sent_by src l)).history (store_of ts os ps r.queue k)
  call_demand_three d k =
      let f : forget (store_of ts os ps r.queue k) ≡ store_of ts os ps r.queue [] = unfold forget in refl in
      demand_alike _ _ (session (sent_by src l)).store (f ∙ call-is-session.store_is) (d (sent_by src l) call-is-session.in_range)

  -- Demand 3 of what a caller has after the call.
  pub call_holds : (k : List LogEntry) → Demand3 (session (sent_by src l)).history (store_of ts os ps r.queue k)
  call_holds k = call_demand_three demand_three k
