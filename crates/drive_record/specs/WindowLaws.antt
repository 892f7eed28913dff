-- A part of the input is enough to drive a record: what follows makes no difference where the record is whole, or where as many bytes are
-- left as a record can have; without the bytes in front the record is driven the same, its next place counted from the new start.
use Rattle.std.specs.Prelude.{None, Some, Ok, Err}
use Rattle.std.specs.Prelude.{◌≡◌, length, take, drop}
use Rattle.std.proofs.Math.Path.{refl, ap}
use Rattle.std.proofs.Common.{sym, ◌∙◌, length-drop, drop-drop}
use mathlib.Core.List.{List, ◌++◌}
use Prim.Native.Nat.{ℕ, zero, suc, ◌+◌, ◌-◌, ◌*◌, ◌≤◌, ◌<◌}
use native.Mathlib.Omega.{arith}
use Rattle.std.proofs.Math.ListN.{get_or-append}
use Rattle.std.proofs.lemmas.List.{take-append-le, drop-append-le}
use Rattle.std.proofs.Math.Seq.{get_or-drop}
use Rattle.machine.specs.Store.{Store}
use Rattle.machine.specs.Machine.{Event}
use Rattle.drive_reader.specs.declared.Record.{Record}
use Rattle.drive_reader.specs.Parsed.{Parsed, a_record}
use Rattle.drive_reader.specs.Format.{parse}
use Rattle.drive_reader.specs.Items.{items_at}
use Rattle.drive_reader.specs.ParseLaws.{EndsAt, parse_inside}
use Rattle.drive_reader.specs.Windows.{record_limit, move_record, move}
use Rattle.drive_reader.specs.WindowLaws.{parse_longer, parse_enough, parse-rest}
use Rattle.endian.specs.Endian.{le1}
use Rattle.exec_futures.specs.Results.{results_in}
use Rattle.drive_answer.specs.Driver.{Asked, asked, refused_11, answered, drive_by, drive_one}
use Rattle.drive_record.specs.Drive.{moved}

-- ---- bytes that follow

module _ (s t : List ℕ) where
  items-longer : (at k : ℕ) → at + k * 2 ≤ length s → items_at (s ++ t) at k ≡ items_at s at k
  unfolding items_at
  items-longer at zero h = refl
  items-longer at (suc k) h = rw (get_or-append s t 0 at (omega arith), get_or-append s t 0 (at + 1) (omega arith), items-longer (at + 2) k (omega arith))

  part-longer : (first n : ℕ) → first + n ≤ length s → take n (drop first (s ++ t)) ≡ take n (drop first s)
  part-longer first n h =
      let d : length (drop first s) ≡ length s - first = length-drop first s in
      rw (drop-append-le first s t (omega arith)) (take-append-le n (drop first s) t (omega (arith, d)))

  asked-longer : (r : Record) (next : ℕ) → EndsAt r next → next ≤ length s → asked (s ++ t) r ≡ asked s r
  unfolding asked
  asked-longer (Record.Coroutine f) next e h = refl
  asked-longer Record.Call next e h = refl
  asked-longer (Record.Pending c x) next e h = refl
  asked-longer (Record.Settled v) next e h = refl
  asked-longer (Record.Gather first count) next e h = ap (λ (is : List ℕ). Asked.event (Event.gather is)) (items-longer first count (omega (arith, e)))
  asked-longer (Record.Await o) next e h = refl
  asked-longer (Record.Complete v) next e h = refl
  asked-longer (Record.Fail n) next e h = refl
  asked-longer (Record.Results first count) next e h = ap (λ (bs : List ℕ). Asked.event (Event.results (results_in bs))) (part-longer first (count * 14) (omega (arith, e)))
  asked-longer Record.Resume next e h = refl
  asked-longer (Record.Cancel o) next e h = refl
  asked-longer (Record.Show o) next e h = refl
  asked-longer Record.Eager next e h = refl

  module _ (u : Store) (l : List ℕ) (at number : ℕ) where
    drive-same : parse (s ++ t) at ≡ parse s at → drive_one u l (s ++ t) at number ≡ drive_one u l s at number
    unfolding drive_one drive_by
    drive-same h = ap (drive_by u l (s ++ t) at number) h ∙ by (parse s at) refl
      where
        by : (p : Parsed) → parse s at ≡ p → drive_by u l (s ++ t) at number p ≡ drive_by u l s at number p
        by (Ok None) e = refl
        by (Err n) e = refl
        by (Ok (Some f)) e = let i = parse_inside s at e in ap (answered u l f.next number) (asked-longer f.what f.next i.ends i.within)

    -- A record that is whole.
    pub drive_longer : {r : Record} {next : ℕ} → parse s at ≡ a_record r next → drive_one u l (s ++ t) at number ≡ drive_one u l s at number
    drive_longer e = drive-same (parse_longer s t at e ∙ sym e)

    -- Whatever stands there, where as many bytes are left as a record can have. (Byte 3 is a byte.)
    pub drive_enough : le1 s (at + 3) < 256 → record_limit ≤ length s - at → drive_one u l (s ++ t) at number ≡ drive_one u l s at number
    drive_enough c h = drive-same (parse_enough s t at c h)

-- ---- without the bytes in front

module _ (s : List ℕ) (k : ℕ) where
  items-rest : (at n : ℕ) → items_at s (k + at) n ≡ items_at (drop k s) at n
  unfolding items_at
  items-rest at zero = refl
  items-rest at (suc n) =
      let e : k + at + 1 ≡ k + (at + 1) = omega arith in
      let f : k + at + 2 ≡ k + (at + 2) = omega arith in
      rw (e, f, get_or-drop k s at 0, get_or-drop k s (at + 1) 0, items-rest (at + 2) n)

  asked-rest : (r : Record) → asked s (move_record k r) ≡ asked (drop k s) r
  unfolding asked move_record
  asked-rest (Record.Coroutine f) = refl
  asked-rest Record.Call = refl
  asked-rest (Record.Pending c x) = refl
  asked-rest (Record.Settled v) = refl
  asked-rest (Record.Gather first count) = ap (λ (is : List ℕ). Asked.event (Event.gather is)) (items-rest first count)
  asked-rest (Record.Await o) = refl
  asked-rest (Record.Complete v) = refl
  asked-rest (Record.Fail n) = refl
  asked-rest (Record.Results first count) = ap (λ (bs : List ℕ). Asked.event (Event.results (results_in (take (count * 14) bs)))) (sym (drop-drop first k s))
  asked-rest Record.Resume = refl
  asked-rest (Record.Cancel o) = refl
  asked-rest (Record.Show o) = refl
  asked-rest Record.Eager = refl

  answered-moved : (u : Store) (l : List ℕ) (next number : ℕ) (a : Asked) → answered u l (k + next) number a ≡ moved k (answered u l next number a)
  unfolding answered moved
  answered-moved u l next number (Asked.event e) = refl
  answered-moved u l next number (Asked.read e) = refl

  -- A record of the whole input is the record of the rest, driven at the place counted from there.
  pub drive-moved : (u : Store) (l : List ℕ) (at number : ℕ) → drive_one u l s (k + at) number ≡ moved k (drive_one u l (drop k s) at number)
  unfolding drive_one drive_by move refused_11 moved
  drive-moved u l at number = ap (drive_by u l s (k + at) number) (parse-rest s k at) ∙ by (parse (drop k s) at)
    where
      by : (p : Parsed) → drive_by u l s (k + at) number (move k p) ≡ moved k (drive_by u l (drop k s) at number p)
      by (Ok None) = refl
      by (Err n) = refl
      by (Ok (Some f)) = ap (answered u l (k + f.next) number) (asked-rest f.what) ∙ answered-moved u l f.next number (asked (drop k s) f.what)
