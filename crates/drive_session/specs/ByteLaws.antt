-- The records of bytes: the numbers that a record stores whole are of 32 bits, so that the events of an input are in range. (The code says so of each record
-- that it reads, by its types; here it is said of the definition.)
use Rattle.std.specs.Prelude.{List, eqb, leb, ltb, length}
use Rattle.std.proofs.Common.{arith}
use Prim.Native.Nat.{ℕ, zero, suc, ◌+◌, ◌-◌, ◌<◌}
use Rattle.asyncio.specs.Limits.{u32_limit}
use Rattle.asyncio.specs.RangeLaws.{pick_has}
use Rattle.asyncio.specs.declared.Value.{Value}
use Rattle.asyncio.specs.Options.{OptionValue}
use Rattle.std.specs.Prelude.{Option, None, Some}
use Rattle.machine.specs.Store.{Store, fresh}
use Rattle.machine.specs.Sessions.{AllSentInRange}
use Rattle.endian.specs.Endian.{le1, le2, le4}
use Rattle.drive_reader.specs.declared.Record.{Record}
use Rattle.drive_reader.specs.Format.{mark, value_at, with_value, size, pending_at, contents, found, parse_kind, parse}
use Rattle.drive_answer.specs.Driver.{Drives, drive_one}
use Rattle.drive_answer.specs.Drove.{RecordFits, ParsedFits}
use Rattle.drive_session.specs.Fold.{DrivesAll, sent_of, stopped, behind, drive_all_from, drive_all_rest, drive_all, sent_by}
use Rattle.drive_session.specs.LeftLaws.{sent_in_range, append_in_range}

-- each is a byte
abbrev pub Bytes : List ℕ → Type 0
Bytes src = (i : ℕ) → le1 src i < 256

-- those of the record, if there is one
abbrev FitsIf : Option Record → Type 0
FitsIf None = Unit {0}
FitsIf (Some r) = RecordFits r

value-fits : (f : Value → Record) (x : OptionValue) → ((v : Value) → RecordFits (f v)) → FitsIf (with_value f x)
value-fits f None h = tt
value-fits f (Some v) h = h v

found-fits : (o : Option Record) (next : ℕ) → FitsIf o → ParsedFits (found o next)
found-fits None next h = tt
found-fits (Some r) next h = h

module _ (src : List ℕ) (b : Bytes src) where
  four-fit : (at : ℕ) → le4 src at < u32_limit
  four-fit at = omega (arith, b at, b (at + 1), b (at + 2), b (at + 2 + 1))

  pending-fits : (at : ℕ) → FitsIf (pending_at src at)
  unfolding pending_at
  pending-fits at = pick_has FitsIf (eqb (le1 src (at + 7)) 0) tt (pick_has FitsIf (eqb (le1 src (at + 7)) 1) (value-fits _ (value_at src (at + 8)) (λ v. tt)) tt)

  contents_fit : (at kind : ℕ) → FitsIf (contents src at kind)
  unfolding contents
  contents_fit at kind =
      pick_has FitsIf (eqb kind 1) (four-fit (at + 3))
      (pick_has FitsIf (eqb kind 2) tt
      (pick_has FitsIf (eqb kind 3) (pending-fits at)
      (pick_has FitsIf (eqb kind 4) (value-fits Record.Settled (value_at src (at + 3)) (λ v. tt))
      (pick_has FitsIf (eqb kind 5) tt
      (pick_has FitsIf (eqb kind 6) tt
      (pick_has FitsIf (eqb kind 7) (value-fits Record.Complete (value_at src (at + 3)) (λ v. tt))
      (pick_has FitsIf (eqb kind 8) (four-fit (at + 3))
      (pick_has FitsIf (eqb kind 9) tt
      (pick_has FitsIf (eqb kind 10) tt
      (pick_has FitsIf (eqb kind 11) tt
      (pick_has FitsIf (eqb kind 12) tt
      (pick_has FitsIf (eqb kind 13) tt tt))))))))))))

  -- A record that is read of bytes.
  pub parse-fits : (at : ℕ) → ParsedFits (parse src at)
  unfolding parse parse_kind
  parse-fits at =
      pick_has ParsedFits (eqb (length src - at) 0) tt
      (pick_has ParsedFits (ltb (length src - at) 3) tt
      (pick_has ParsedFits (eqb (le2 src at) mark)
      (pick_has ParsedFits (leb (size (le1 src (at + 2)) (le1 src (at + 3))) (length src - at)) (found-fits (contents src at (le1 src (at + 2))) _ (contents_fit at (le1 src (at + 2)))) tt)
      tt))

  from-in-range : (k : ℕ) (s : Store) (l : List ℕ) (from number : ℕ) → AllSentInRange (drive_all_from k s l src from number).sent
  unfolding drive_all_from behind stopped AllSentInRange
  from-in-range zero s l from number = tt
  from-in-range (suc k) s l from number =
      let x : Drives = drive_one s l src from number in
      pick_has (λ (y : DrivesAll). AllSentInRange y.sent) x.going
      (append_in_range (sent_of l src (parse src from)) _ (sent_in_range l src (parse src from) (parse-fits from)) (from-in-range k x.store x.list x.next (number + 1)))
      tt

  -- The events of an input of bytes.
  pub bytes_in_range : (l : List ℕ) → AllSentInRange (sent_by src l)
  unfolding drive_all drive_all_rest
  bytes_in_range l = from-in-range _ fresh l 0 1
