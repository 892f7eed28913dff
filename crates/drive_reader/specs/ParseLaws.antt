-- Laws of the format: a record ends behind the place where it starts and within the bytes; the items of a gather, and results, are the last
-- bytes of their record; its kind is the kind byte.
use Rattle.std.specs.Prelude.{Option, None, Some, Ok, Err}
use Rattle.std.specs.Prelude.{◌≡◌, refl, Bool, true, false, List, ℕ, ◌+◌, ◌-◌, ◌*◌, ◌≤◌, ◌<◌, eqb, leb, ltb, length}
use Rattle.std.proofs.Common.{sym, arith, eqb-true, leb-true, eq-eqb}
use Rattle.asyncio.specs.States.{pick}
use Rattle.asyncio.specs.declared.Value.{Value}
use Rattle.asyncio.specs.Options.{OptionValue}
use Rattle.endian.specs.Endian.{le1, le2, le4}
use Rattle.drive_reader.specs.declared.Record.{Record}
use Rattle.drive_reader.specs.Parsed.{Parsed, at_end, no_record, a_record}
use Rattle.drive_reader.specs.Format.{mark, value_at, with_value, size, pending_at, contents, found, parse_kind, parse}
use Rattle.drive_reader.specs.RecordNumbers.{record_kind}

-- the items of a gather, and the results, end where their record ends
abbrev pub EndsAt : Record → ℕ → Type 0
EndsAt (Record.Coroutine f) next = Unit {0}
EndsAt Record.Call next = Unit {0}
EndsAt (Record.Pending c x) next = Unit {0}
EndsAt (Record.Settled v) next = Unit {0}
EndsAt (Record.Gather first count) next = first + count * 2 ≡ next
EndsAt (Record.Await o) next = Unit {0}
EndsAt (Record.Complete v) next = Unit {0}
EndsAt (Record.Fail n) next = Unit {0}
EndsAt (Record.Results first count) next = first + count * 14 ≡ next
EndsAt Record.Resume next = Unit {0}
EndsAt (Record.Cancel t) next = Unit {0}
EndsAt (Record.Show o) next = Unit {0}
EndsAt Record.Eager next = Unit {0}

-- a record of kind `kind` at place `at` that is m bytes long
pub record Fits (kind at m : ℕ) (r : Record) : Type 0 where
  pub kind_is : record_kind r ≡ kind
  pub has_head : 3 ≤ m
  pub ends_at : EndsAt r (at + m)

fits : {kind at m : ℕ} {r : Record} → record_kind r ≡ kind → 3 ≤ m → EndsAt r (at + m) → Fits kind at m r
fits k h e = record { kind_is = k; has_head = h; ends_at = e }

-- the same, if there is a record
abbrev pub FitsIf : ℕ → ℕ → ℕ → Option Record → Type 0
FitsIf kind at m None = Unit {0}
FitsIf kind at m (Some r) = Fits kind at m r

-- what holds of two things if the kind is k, and what holds of two others if not, holds of the two that are chosen by that test
pub either_kind : {A B : Type 0} (P : A → B → Type 0) (kind k : ℕ) {x x' : A} {y y' : B} → (kind ≡ k → P x y) → P x' y' → P (pick (eqb kind k) x x') (pick (eqb kind k) y y')
either_kind P kind k {x} {x'} {y} {y'} same other = by (eqb kind k) refl
  where
    by : (b : Bool) → eqb kind k ≡ b → P (pick b x x') (pick b y y')
    by true e = same (eqb-true kind k e)
    by false e = other

with_value-fits : (kind at m : ℕ) (f : Value → Record) (x : OptionValue) → ((v : Value) → Fits kind at m (f v)) → FitsIf kind at m (with_value f x)
with_value-fits kind at m f None h = tt
with_value-fits kind at m f (Some v) h = h v

pending-fits : (s : List ℕ) (kind at m : ℕ) → ((c : ℕ) (x : OptionValue) → Fits kind at m (Record.Pending c x)) → FitsIf kind at m (pending_at s at)
unfolding pending_at
pending-fits s kind at m h = by (eqb (le1 s (at + 7)) 0) (eqb (le1 s (at + 7)) 1)
  where
    by : (a b : Bool) → FitsIf kind at m (pick a (Some (Record.Pending (le4 s (at + 3)) None)) (pick b (with_value (λ (v : Value). Record.Pending (le4 s (at + 3)) (Some v)) (value_at s (at + 8))) None))
    by true b = h (le4 s (at + 3)) None
    by false true = with_value-fits kind at m (λ (v : Value). Record.Pending (le4 s (at + 3)) (Some v)) (value_at s (at + 8)) (λ v. h (le4 s (at + 3)) (Some v))
    by false false = tt

contents_fit : (s : List ℕ) (at kind : ℕ) → FitsIf kind at (size kind (le1 s (at + 3))) (contents s at kind)
unfolding size contents record_kind
contents_fit s at kind =
    let P : ℕ → Option Record → Type 0 = FitsIf kind at in
    either_kind P kind 1 (λ e. fits (sym e) (omega arith) tt)
    (either_kind P kind 2 (λ e. fits (sym e) (omega arith) tt)
    (either_kind P kind 3 (λ e. pending-fits s kind at 17 (λ c x. fits (sym e) (omega arith) tt))
    (either_kind P kind 4 (λ e. with_value-fits kind at 12 Record.Settled (value_at s (at + 3)) (λ v. fits (sym e) (omega arith) tt))
    (either_kind P kind 5 (λ e. fits (sym e) (omega arith) (omega arith))
    (either_kind P kind 6 (λ e. fits (sym e) (omega arith) tt)
    (either_kind P kind 7 (λ e. with_value-fits kind at 12 Record.Complete (value_at s (at + 3)) (λ v. fits (sym e) (omega arith) tt))
    (either_kind P kind 8 (λ e. fits (sym e) (omega arith) tt)
    (either_kind P kind 9 (λ e. fits (sym e) (omega arith) (omega arith))
    (either_kind P kind 10 (λ e. fits (sym e) (omega arith) tt)
    (either_kind P kind 11 (λ e. fits (sym e) (omega arith) tt)
    (either_kind P kind 12 (λ e. fits (sym e) (omega arith) tt)
    (either_kind P kind 13 (λ e. fits (sym e) (omega arith) tt) tt))))))))))))

-- a record that fits between its place and the end of the bytes
pub record Inside (s : List ℕ) (at : ℕ) (r : Record) (next : ℕ) : Type 0 where
  pub kind_byte : record_kind r ≡ le1 s (at + 2)
  pub size_is : next ≡ at + size (le1 s (at + 2)) (le1 s (at + 3))
  pub head : at + 3 ≤ next
  pub behind : at < next
  pub within : next ≤ length s
  pub ends : EndsAt r next

-- what holds of every answer: at the end no byte is left; a record is inside
abbrev InsideIf : List ℕ → ℕ → Parsed → Type 0
InsideIf s at (Ok None) = length s ≤ at
InsideIf s at (Err e) = Unit {0}
InsideIf s at (Ok (Some f)) = Inside s at f.what f.next

found_inside : (s : List ℕ) (at m : ℕ) (o : Option Record) → m ≡ size (le1 s (at + 2)) (le1 s (at + 3)) → m ≤ length s - at → FitsIf (le1 s (at + 2)) at m o → InsideIf s at (found o (at + m))
found_inside s at m None e h f = tt
found_inside s at m (Some r) e h f =
    record { kind_byte = f.kind_is; size_is = rw e; head = omega (arith, f.has_head); behind = omega (arith, f.has_head); within = omega (arith, f.has_head); ends = f.ends_at }

kind_inside : (s : List ℕ) (at : ℕ) → InsideIf s at (parse_kind s at (le1 s (at + 2)))
unfolding parse_kind
kind_inside s at = by (leb (size (le1 s (at + 2)) (le1 s (at + 3))) (length s - at)) refl
  where
    by : (b : Bool) → leb (size (le1 s (at + 2)) (le1 s (at + 3))) (length s - at) ≡ b
        → InsideIf s at (pick b (found (contents s at (le1 s (at + 2))) (at + size (le1 s (at + 2)) (le1 s (at + 3)))) no_record)
    by true e = found_inside s at (size (le1 s (at + 2)) (le1 s (at + 3))) (contents s at (le1 s (at + 2))) refl (leb-true (size (le1 s (at + 2)) (le1 s (at + 3))) (length s - at) e) (contents_fit s at (le1 s (at + 2)))
    by false e = tt

parse_inside_if : (s : List ℕ) (at : ℕ) → InsideIf s at (parse s at)
unfolding parse
parse_inside_if s at = by (eqb (length s - at) 0) (ltb (length s - at) 3) (eqb (le2 s at) mark) refl
  where
    by : (a b c : Bool) → eqb (length s - at) 0 ≡ a → InsideIf s at (pick a at_end (pick b no_record (pick c (parse_kind s at (le1 s (at + 2))) no_record)))
    by true b c e = let h : length s - at ≡ 0 = eqb-true (length s - at) 0 e in omega (arith, h)
    by false true c e = tt
    by false false true e = kind_inside s at
    by false false false e = tt

-- A record that was read: its kind is the kind byte, it ends behind its place and within the bytes, and so do the items of a gather and
-- results.
pub parse_inside : (s : List ℕ) (at : ℕ) {r : Record} {next : ℕ} → parse s at ≡ a_record r next → Inside s at r next
parse_inside s at e = rw e at (parse_inside_if s at)

-- the items of a gather
pub gather_inside : (s : List ℕ) (at : ℕ) {first count next : ℕ} → parse s at ≡ a_record (Record.Gather first count) next → first + count * 2 ≤ length s
gather_inside s at e = let h = parse_inside s at e in omega (arith, h.ends, h.within)

-- results
pub results_inside : (s : List ℕ) (at : ℕ) {first count next : ℕ} → parse s at ≡ a_record (Record.Results first count) next → first + count * 14 ≤ length s
results_inside s at e = let h = parse_inside s at e in omega (arith, h.ends, h.within)

-- the end is met where no byte is left ..
pub parse_end : (s : List ℕ) (at : ℕ) → length s ≤ at → parse s at ≡ at_end
unfolding parse
parse_end s at h = rw (eq-eqb (length s - at) 0 (omega arith))

-- .. and there alone
pub end_behind : (s : List ℕ) (at : ℕ) → parse s at ≡ at_end → length s ≤ at
end_behind s at e = rw e at (parse_inside_if s at)
