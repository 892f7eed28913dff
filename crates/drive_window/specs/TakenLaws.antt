-- The records of a window, as the code takes them: what is left to take from a record on gives, behind the lines so far, what the whole window gives.
use Rattle.std.specs.Prelude.{◌≡◌, refl, Bool, true, false, not, ◌&&◌, ◌||◌, List, [], ◌∷◌, ◌++◌, ℕ, ◌+◌, ◌-◌, ◌≤◌, ◌<◌, ltb, drop}
use Rattle.std.proofs.Math.Path.{sym, ap}
use Rattle.std.proofs.Common.{subst, ◌∙◌, append_assoc, append-nil, zero-add, arith, length-append}
use Rattle.std.proofs.Math.Dec.{leb}
use Rattle.std.proofs.Math.ListN.{length, take}
use borrow.Author.Tests.{le-leb, lt-leb, lt-ltb, le-ltb, leb-true, ltb-true, not-true, not-false}
use Rattle.queue.specs.declared.ReadyQueue.{ReadyQueue}
use Rattle.machine.specs.Store.{Store, LogEntry, store_of}
use Rattle.machine_laws.specs.TestLaws.{and-true}
use Rattle.drive_text.specs.Out.{Out, out_of, emit}
use Rattle.drive_text.specs.OutLaws.{emit_append, emit_exact}
use Rattle.drive_reader.specs.Windows.{record_limit}
use Rattle.drive_lines.specs.Lines.{line_limit}
use Rattle.drive_answer.specs.Driver.{Drives, drive_one}
use Rattle.drive_answer.specs.Drove.{Drove}
use Rattle.drive_record.specs.ProgressLaws.{Onward, going_on}
use Rattle.drive_window.specs.Window.{last_number, takes, DrivesWindow, stays, stops, behind, window_rest, drive_window}
use Rattle.drive_window.specs.WindowLaws.{window_turn}
use Rattle.drive_window.specs.OneWindow.{DroveWindow}
use Rattle.drive_window.specs.declared.Window.{Window}

-- ---- the test

module _ (ended : Bool) (bytes from size at number : ℕ) where
  pub takes_last : line_limit ≤ size - at → number < last_number → ended ≡ true → true ≡ takes ended bytes from size at number
  unfolding takes
  takes_last a b e = rw (le-leb line_limit (size - at) a, lt-ltb number last_number b, e)

  pub takes_whole : line_limit ≤ size - at → number < last_number → ended ≡ false → {r : Bool} → r ≡ leb record_limit (bytes - from) → r ≡ takes ended bytes from size at number
  unfolding takes
  takes_whole a b e h = rw (le-leb line_limit (size - at) a, lt-ltb number last_number b, e) h

  pub takes-no_number : line_limit ≤ size - at → last_number ≤ number → false ≡ takes ended bytes from size at number
  unfolding takes
  takes-no_number a b = rw (le-leb line_limit (size - at) a, le-ltb number last_number b)

  pub takes_no_room : size - at < line_limit → false ≡ takes ended bytes from size at number
  unfolding takes
  takes_no_room a = rw (lt-leb line_limit (size - at) a)

  pub room_for : takes ended bytes from size at number ≡ true → line_limit ≤ size - at
  unfolding takes
  room_for t = leb-true line_limit (size - at) (and-true (leb line_limit (size - at)) (ltb number last_number && (ended || leb record_limit (bytes - from))) t).0

  pub number_for : takes ended bytes from size at number ≡ true → number < last_number
  unfolding takes
  number_for t =
      ltb-true number last_number
      (and-true (ltb number last_number) (ended || leb record_limit (bytes - from))
      (and-true (leb line_limit (size - at)) (ltb number last_number && (ended || leb record_limit (bytes - from))) t).1).0

-- ---- lines one after the other

behind-behind : (a b : List ℕ) (w : DrivesWindow) → behind a (behind b w) ≡ behind (a ++ b) w
unfolding behind
behind-behind a b w =
    ap (λ (t : List ℕ). record { store = w.store; list = w.list; text = t; next = w.next; number = w.number; going = w.going }) (sym (append_assoc a b w.text))

behind-none : (w : DrivesWindow) → behind [] w ≡ w
unfolding behind
behind-none w = refl

take_front : (t z : List ℕ) → take (length t) (t ++ z) ≡ t
take_front [] z = refl
take_front (x ∷ t) z = ap (λ (y : List ℕ). x ∷ y) (take_front t z)

-- ---- the loop

-- Before the record `number` at `next`: with some log, what is left to take gives, behind the lines so far, the window w; and the lines so far stand at the front
-- of the buffer, which was `start`.
pub record Taken (ended : Bool) (start : List ℕ) (w : DrivesWindow) (src ts os ps cs out : List ℕ) (q : ReadyQueue) (next at number : ℕ) : Type 0 where
  pub log : List LogEntry
  pub text : List ℕ
  pub rest_is : behind text (window_rest ended (length start) (store_of ts os ps q log) cs src next at number) ≡ w
  pub wrote : out_of out at ≡ emit (out_of start 0) text
  pub at_is : at ≡ length text
  pub room : at ≤ length start

-- at the beginning
pub taken_begins : (ended : Bool) (start src ts os ps cs : List ℕ) (q : ReadyQueue) (from number : ℕ) (l : List LogEntry)
    → Taken ended start (drive_window ended (length start) (store_of ts os ps q l) cs src from number) src ts os ps cs start q from 0 number
unfolding emit drive_window
taken_begins ended start src ts os ps cs q from number l = record { log = l; text = []; rest_is = behind-none _; wrote = refl; at_is = refl; room = omega arith }

-- the lines stand at the buffer's front
front_is : (start out : List ℕ) (at : ℕ) (text : List ℕ) → out_of out at ≡ emit (out_of start 0) text → at ≡ length text → at ≤ length start → take at out ≡ text
front_is start out at text e n r =
    let x = emit_exact start 0 text (omega (arith, n, r)) in
    ap (λ (o : Out). take o.at o.bytes) (e ∙ x) ∙ (ap (λ (k : ℕ). take k (text ++ drop (0 + length text) start)) (zero-add (length text)) ∙ take_front text (drop (0 + length text) start))

module _ {ended : Bool} {start : List ℕ} {w : DrivesWindow} {src ts os ps cs out : List ℕ} {q : ReadyQueue} {next at number : ℕ}
    (h : Taken ended start w src ts os ps cs out q next at number) where
  -- no more is taken
  pub taken_stays : length out ≡ length start → takes ended (length src) next (length out) at number ≡ false → (r : Window) → r.queue ≡ q → r.next ≡ next → r.at ≡ at → r.number ≡ number
      → r.going ≡ true → DroveWindow ts os ps cs out r w
  taken_stays same t' r eq en ea ec eg =
      let t : takes ended (length src) next (length start) at number ≡ false = ap (λ (n : ℕ). takes ended (length src) next n at number) (sym same) ∙ t' in
      let s : Store = store_of ts os ps q h.log in
      let whole : behind h.text (stays s cs next number) ≡ w =
      ap (behind h.text) (sym (window_turn ended (length start) s cs src next at number ∙ (rw t))) ∙ h.rest_is in
      subst (DroveWindow ts os ps cs out r) whole (unfold behind stays in (record {
        store_is = ap (λ (z : ReadyQueue). store_of ts os ps z h.log) eq;
        list_is = refl;
        next_is = en;
        number_is = ec;
        going_is = eg;
        text_is = ap (λ (n : ℕ). take n out) ea ∙ front_is start out at h.text h.wrote h.at_is h.room ∙ sym (append-nil h.text);
        at_is = ea ∙ (h.at_is ∙ ap length (sym (append-nil h.text)));
      }))

  module _ (same : length out ≡ length start) (t' : takes ended (length src) next (length out) at number ≡ true)
      {ts' os' ps' cs' out' : List ℕ} {q' : ReadyQueue} {next' at' : ℕ} {going : Bool}
      (d : (k : List LogEntry) → Drove ts' os' ps' q' cs' next' going (out_of out at) (out_of out' at') (drive_one (store_of ts os ps q k) cs src next number)) where
    t : takes ended (length src) next (length start) at number ≡ true
    t = ap (λ (n : ℕ). takes ended (length src) next n at number) (sym same) ∙ t'

    abbrev one : Drives
    one = drive_one (store_of ts os ps q h.log) cs src next number

    fits : at + length one.text ≤ length start
    fits = omega (arith, (d h.log).wrote.short, room_for ended (length src) next (length start) at number t, h.room)

    at-behind : at' ≡ at + length one.text
    at-behind = ap (λ (o : Out). o.at) ((d h.log).wrote.emitted ∙ emit_exact out at one.text (omega (arith, fits, same)))

    wrote-behind : out_of out' at' ≡ emit (out_of start 0) (h.text ++ one.text)
    wrote-behind = (d h.log).wrote.emitted ∙ (ap (λ (o : Out). emit o one.text) h.wrote ∙ sym (emit_append (out_of start 0) h.text one.text))

    length-behind : at' ≡ length (h.text ++ one.text)
    length-behind = let n : length (h.text ++ one.text) ≡ length h.text + length one.text = length-append h.text one.text in omega (arith, at-behind, h.at_is, n)

    -- where the driver goes on, the place is behind the record
    pub taken_onward : not going ≡ false → Onward src next next'
    taken_onward g = subst (Onward src next) (sym (d h.log).next_is) (going_on _ cs src next number (sym (d h.log).going_is ∙ not-false going g))

    -- one record was taken
    pub taken_turn : not going ≡ false → Taken ended start w src ts' os' ps' cs' out' q' next' at' (number + 1)
    taken_turn g =
        let x = d h.log in
        let goes : one.going ≡ true = sym x.going_is ∙ not-false going g in
        let rest : window_rest ended (length start) (store_of ts' os' ps' q' one.store.log) cs' src next' at' (number + 1)
        ≡ window_rest ended (length start) one.store one.list src one.next (at + length one.text) (number + 1) =
        ap (λ (s : Store). window_rest ended (length start) s cs' src next' at' (number + 1)) x.store_is
        ∙ (ap (λ (c : List ℕ). window_rest ended (length start) one.store c src next' at' (number + 1)) x.list_is
        ∙ (ap (λ (n : ℕ). window_rest ended (length start) one.store one.list src n at' (number + 1)) x.next_is
        ∙ ap (λ (n : ℕ). window_rest ended (length start) one.store one.list src one.next n (number + 1)) at-behind)) in
        let turn : window_rest ended (length start) (store_of ts os ps q h.log) cs src next at number
        ≡ behind one.text (window_rest ended (length start) one.store one.list src one.next (at + length one.text) (number + 1)) =
        window_turn ended (length start) (store_of ts os ps q h.log) cs src next at number ∙ (rw (t, goes)) in
        record {
          log = one.store.log;
          text = h.text ++ one.text;
          rest_is = ap (behind (h.text ++ one.text)) rest ∙ (sym (behind-behind h.text one.text _) ∙ (ap (behind h.text) (sym turn) ∙ h.rest_is));
          wrote = wrote-behind;
          at_is = length-behind;
          room = omega (arith, at-behind, fits);
        }

    -- the driver stops
    pub taken_stops : not going ≡ true → (r : Window) → r.queue ≡ q' → r.next ≡ next' → r.at ≡ at' → r.number ≡ number → r.going ≡ false
        → DroveWindow ts' os' ps' cs' out' r w
    taken_stops g r eq en ea ec eg =
        let x = d h.log in
        let ends : one.going ≡ false = sym x.going_is ∙ not-true going g in
        let whole : behind h.text (stops one number) ≡ w =
        ap (behind h.text) (sym (window_turn ended (length start) (store_of ts os ps q h.log) cs src next at number ∙ (rw (t, ends)))) ∙ h.rest_is in
        subst (DroveWindow ts' os' ps' cs' out' r) whole (unfold behind stops in (record {
          store_is = ap (λ (z : ReadyQueue). store_of ts' os' ps' z one.store.log) eq ∙ x.store_is;
          list_is = x.list_is;
          next_is = en ∙ x.next_is;
          number_is = ec;
          going_is = eg;
          text_is = ap (λ (n : ℕ). take n out') ea ∙ front_is start out' at' (h.text ++ one.text) wrote-behind length-behind (omega (arith, at-behind, fits));
          at_is = ea ∙ length-behind;
        }))
