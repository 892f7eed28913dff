-- The driver goes on: each record's place is behind the last one's and within the input, so that every record is met once and the whole
-- input is read, or an 11 is answered.
use Rattle.std.specs.Prelude.{None, Some, Ok, Err}
use Rattle.std.specs.Prelude.{◌≡◌, refl, Bool, true, false, List, [], ◌++◌, ℕ, zero, suc, ◌+◌, ◌-◌, ◌<◌, ◌≤◌, length}
use Rattle.std.proofs.Common.{sym, ap, ◌∙◌, true≢false, arith}
use Rattle.asyncio.specs.States.{pick}
use Rattle.machine.specs.Store.{Store}
use Rattle.drive_reader.specs.Parsed.{Parsed}
use Rattle.drive_reader.specs.Format.{parse}
use Rattle.drive_reader.specs.ParseLaws.{parse_inside}
use Rattle.drive_answer.specs.Driver.{Asked, asked, Drives, refused_11, answered, drive_by, drive_one}
use Rattle.drive_record.specs.Drive.{drive_from, drive_rest}

-- a place behind another, within the input
pub record Onward (src : List ℕ) (from next : ℕ) : Type 0 where
  pub behind : from < next
  pub within : next ≤ length src

answered-next : (s : Store) (l : List ℕ) (next number : ℕ) (a : Asked) → (answered s l next number a).next ≡ next
unfolding answered
answered-next s l next number (Asked.event e) = refl
answered-next s l next number (Asked.read e) = refl

-- Where the driver goes on, it goes on behind the record that it read.
pub going_on : (s : Store) (l src : List ℕ) (from number : ℕ) → (drive_one s l src from number).going ≡ true → Onward src from (drive_one s l src from number).next
unfolding drive_one drive_by refused_11
going_on s l src from number h = by (parse src from) refl h
  where
    by : (p : Parsed) → parse src from ≡ p → (drive_by s l src from number p).going ≡ true → Onward src from (drive_by s l src from number p).next
    by (Ok None) e g = absurd (true≢false (sym g))
    by (Err n) e g = absurd (true≢false (sym g))
    by (Ok (Some f)) e g =
        let i = parse_inside src from e in
        rw (answered-next s l f.next number (asked src f.what)) (record { behind = i.behind; within = i.within })

-- ---- the whole input

-- one record, and the others
one_more : (k : ℕ) (s : Store) (l src : List ℕ) (from number : ℕ) → drive_from (suc k) s l src from number
    ≡ (let x : Drives = drive_one s l src from number in x.text ++ pick x.going (drive_from k x.store x.list src x.next (number + 1)) [])
unfolding drive_from
one_more k s l src from number = refl

same_others : (b : Bool) (text : List ℕ) {xs ys : List ℕ} → (b ≡ true → xs ≡ ys) → text ++ pick b xs [] ≡ text ++ pick b ys []
same_others true text h = ap (λ (r : List ℕ). text ++ r) (h refl)
same_others false text h = refl

-- where as many are allowed as bytes are left and one more, it does not matter how many
fuel_same : (j k : ℕ) (s : Store) (l src : List ℕ) (from number : ℕ) → length src - from < j → length src - from < k
    → drive_from j s l src from number ≡ drive_from k s l src from number
fuel_same zero k s l src from number a b = absurd (omega arith)
fuel_same (suc j) zero s l src from number a b = absurd (omega arith)
fuel_same (suc j) (suc k) s l src from number a b =
    let x : Drives = drive_one s l src from number in
    let others : x.going ≡ true → drive_from j x.store x.list src x.next (number + 1) ≡ drive_from k x.store x.list src x.next (number + 1) =
    λ g. let o = going_on s l src from number g in
    fuel_same j k x.store x.list src x.next (number + 1) (omega (arith, o.behind, o.within)) (omega (arith, o.behind, o.within)) in
    one_more j s l src from number ∙ same_others x.going x.text others ∙ sym (one_more k s l src from number)

-- The lines from a place on are the line of the record there and, if the driver goes on, those from the next place on.
pub drives_on : (s : Store) (l src : List ℕ) (from number : ℕ) → drive_rest s l src from number
    ≡ (let x : Drives = drive_one s l src from number in x.text ++ pick x.going (drive_rest x.store x.list src x.next (number + 1)) [])
unfolding drive_rest
drives_on s l src from number =
    let x : Drives = drive_one s l src from number in
    let others : x.going ≡ true
    → drive_from (length src - from) x.store x.list src x.next (number + 1) ≡ drive_from (suc (length src - x.next)) x.store x.list src x.next (number + 1) =
    λ g. let o = going_on s l src from number g in
    fuel_same (length src - from) (suc (length src - x.next)) x.store x.list src x.next (number + 1) (omega (arith, o.behind, o.within)) (omega arith) in
    one_more (length src - from) s l src from number ∙ same_others x.going x.text others
