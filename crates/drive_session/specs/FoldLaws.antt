-- The driver over a whole input: one record and those behind it; its text is `drive`'s; what it stops with.
use Rattle.std.specs.Prelude.{None, Some, Ok, Err}
use Rattle.std.specs.Prelude.{◌≡◌, Bool, List, [], ◌++◌, ℕ, zero, suc, ◌+◌, ◌-◌, ◌<◌, length, replicate}
use Rattle.std.proofs.Math.Path.{refl}
use Rattle.std.proofs.Common.{sym, ap, ◌∙◌, append-nil, arith, le-ltb, ltb-false}
use Rattle.std.proofs.Math.Bool.{true, false, true≢false}
use Rattle.std.proofs.Math.Dec.{ltb}
use Rattle.asyncio.specs.Limits.{object_limit}
use Rattle.asyncio.specs.States.{pick}
use Rattle.machine.specs.Store.{Store, fresh}
use Rattle.machine.specs.Sessions.{Sent}
use Rattle.drive_reader.specs.Parsed.{Parsed, no_record}
use Rattle.drive_reader.specs.Format.{parse}
use Rattle.drive_reader.specs.ParseLaws.{parse_end, end_behind}
use Rattle.drive_reader.specs.RecordNumbers.{parse_refusal}
use Rattle.drive_answer.specs.Driver.{Asked, asked, Drives, refused_11, answered, drive_by, drive_one}
use Rattle.drive_record.specs.Drive.{drive_from, drive_rest, drive}
use Rattle.drive_record.specs.ProgressLaws.{going_on}
use Rattle.drive_session.specs.Fold.{DrivesAll, sent_of, stopped, behind, drive_all_from, drive_all_rest, drive_all, stop_refusal}

-- the end of the input
ends : Parsed → Bool
ends (Ok None) = true
ends (Err n) = false
ends (Ok (Some f)) = false

-- ---- one record, and those behind it

abbrev one_and : Store → List ℕ → List ℕ → ℕ → ℕ → (Drives → DrivesAll) → DrivesAll
one_and s l src from number f =
    let x : Drives = drive_one s l src from number in
    pick x.going (behind x.text (sent_of l src (parse src from)) (f x)) (stopped (parse_refusal (parse src from)) x)

one_more : (k : ℕ) (s : Store) (l src : List ℕ) (from number : ℕ)
    → drive_all_from (suc k) s l src from number ≡ one_and s l src from number (λ x. drive_all_from k x.store x.list src x.next (number + 1))
unfolding drive_all_from
one_more k s l src from number = refl

same_others : (b : Bool) (ls : List ℕ) (es : List Sent) (z : DrivesAll) {x y : DrivesAll} → (b ≡ true → x ≡ y) → pick b (behind ls es x) z ≡ pick b (behind ls es y) z
same_others true ls es z h = ap (behind ls es) (h refl)
same_others false ls es z h = refl

-- where as many are allowed as bytes are left and one more, it does not matter how many
fuel_same : (j k : ℕ) (s : Store) (l src : List ℕ) (from number : ℕ) → length src - from < j → length src - from < k
    → drive_all_from j s l src from number ≡ drive_all_from k s l src from number
fuel_same zero k s l src from number a b = absurd (omega arith)
fuel_same (suc j) zero s l src from number a b = absurd (omega arith)
fuel_same (suc j) (suc k) s l src from number a b =
    let x : Drives = drive_one s l src from number in
    let others : x.going ≡ true → drive_all_from j x.store x.list src x.next (number + 1) ≡ drive_all_from k x.store x.list src x.next (number + 1) =
    λ g. let o = going_on s l src from number g in
    fuel_same j k x.store x.list src x.next (number + 1) (omega (arith, o.behind, o.within)) (omega (arith, o.behind, o.within)) in
    one_more j s l src from number ∙ same_others x.going x.text _ _ others ∙ sym (one_more k s l src from number)

module _ (s : Store) (l src : List ℕ) (from number : ℕ) where
  abbrev one : Drives
  one = drive_one s l src from number

  on : drive_all_rest s l src from number ≡ one_and s l src from number (λ x. drive_all_rest x.store x.list src x.next (number + 1))
  unfolding drive_all_rest
  on =
      let others : one.going ≡ true
      → drive_all_from (length src - from) one.store one.list src one.next (number + 1) ≡ drive_all_from (suc (length src - one.next)) one.store one.list src one.next (number + 1) =
      λ g. let o = going_on s l src from number g in
      fuel_same (length src - from) (suc (length src - one.next)) one.store one.list src one.next (number + 1) (omega (arith, o.behind, o.within)) (omega arith) in
      one_more (length src - from) s l src from number ∙ same_others one.going one.text _ _ others

  -- Where the driver goes on: the record there, and the records from the next place on.
  pub all_goes_on : one.going ≡ true
      → drive_all_rest s l src from number ≡ behind one.text (sent_of l src (parse src from)) (drive_all_rest one.store one.list src one.next (number + 1))
  all_goes_on g = on ∙ (rw g)

  -- Where it stops.
  pub all_stops : one.going ≡ false → drive_all_rest s l src from number ≡ stopped (parse_refusal (parse src from)) one
  all_stops g = on ∙ (rw g)

  -- It stops where no byte is left, or else with 11.
  pub stops_with : one.going ≡ false → stop_refusal (length src) one.next ≡ parse_refusal (parse src from)
  unfolding drive_one drive_by refused_11 answered ends
  stops_with g = by (parse src from) refl g
    where
      by : (p : Parsed) → parse src from ≡ p → (drive_by s l src from number p).going ≡ false → stop_refusal (length src) (drive_by s l src from number p).next ≡ parse_refusal p
      by (Ok None) e h = unfold parse_refusal in (rw (le-ltb from (length src) (end_behind src from e)))
      by (Err n) e h = test (ltb from (length src)) refl
        where
          test : (b : Bool) → ltb from (length src) ≡ b → stop_refusal (length src) from ≡ parse_refusal no_record
          test true t = unfold parse_refusal in (rw t)
          test false t = absurd (true≢false (ap ends (sym (parse_end src from (ltb-false from (length src) t)) ∙ e)))
      by (Ok (Some f)) e h = absurd (goes (asked src f.what) h)
        where
          goes : (a : Asked) → (answered s l f.next number a).going ≡ false → ⊥
          goes (Asked.event x) d = true≢false d
          goes (Asked.read x) d = true≢false d

-- ---- the text

text_others : (b : Bool) (ls : List ℕ) (es : List Sent) (n : ℕ) (x : Drives) (y : DrivesAll) (t : List ℕ) → x.text ≡ ls → t ≡ y.text
    → ls ++ pick b t [] ≡ (pick b (behind ls es y) (stopped n x)).text
unfolding behind stopped
text_others true ls es n x y t e h = ap (λ (z : List ℕ). ls ++ z) h
text_others false ls es n x y t e h = append-nil ls ∙ sym e

pub from_text : (k : ℕ) (s : Store) (l src : List ℕ) (from number : ℕ) → drive_from k s l src from number ≡ (drive_all_from k s l src from number).text
unfolding drive_from drive_all_from
from_text zero s l src from number = refl
from_text (suc k) s l src from number =
    let x : Drives = drive_one s l src from number in
    text_others x.going x.text (sent_of l src (parse src from)) (parse_refusal (parse src from)) x (drive_all_from k x.store x.list src x.next (number + 1))
    (drive_from k x.store x.list src x.next (number + 1)) refl (from_text k x.store x.list src x.next (number + 1))

-- What the program `drive` is to write (`drive`) is the text.
pub drive_is_text : (src : List ℕ) → drive src ≡ (drive_all (replicate object_limit 0) src).text
unfolding drive drive_rest drive_all drive_all_rest
drive_is_text src = from_text _ fresh (replicate object_limit 0) src 0 1
