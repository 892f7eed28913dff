-- A part of the input is enough to read a record. What was read stays the same when bytes follow, and so does a refusal where as many bytes
-- are left as a record can have; without the bytes in front the same is read, at places counted from the new start.
use Rattle.std.specs.Prelude.{Option, None, Some}
use Rattle.std.specs.Prelude.{◌≡◌, true, false, List, ◌++◌, eqb, leb, ltb, drop}
use Rattle.std.proofs.Math.Path.{refl, ap}
use Rattle.std.proofs.Common.{◌∙◌, length-drop, get_or-drop}
use Rattle.std.proofs.Math.Bool.{Bool}
use Prim.Native.Nat.{ℕ, ◌+◌, ◌-◌, ◌≤◌, ◌<◌}
use native.Mathlib.Omega.{arith}
use Rattle.std.proofs.Math.ListN.{length, length-append, get_or-append}
use borrow.Author.Tests.{ne_eqb, le-leb, le-ltb, ltb-true, ltb-false}
use Rattle.asyncio.specs.RangeLaws.{pick_has}
use Rattle.asyncio.specs.States.{pick}
use Rattle.asyncio.specs.declared.Value.{Value}
use Rattle.asyncio.specs.Options.{OptionValue}
use Rattle.endian.specs.Endian.{le1, le2, le4, le8}
use Rattle.drive_reader.specs.declared.Record.{Record}
use Rattle.drive_reader.specs.Parsed.{Parsed, at_end, no_record, a_record}
use Rattle.drive_reader.specs.Format.{mark, value_at, with_value, size, pending_at, contents, found, parse_kind, parse}
use Rattle.drive_reader.specs.Windows.{record_limit, move_record, move}
use Rattle.drive_reader.specs.FormatLaws.{size_of_kind}
use Rattle.drive_reader.specs.ParseLaws.{either_kind, parse_inside}

module _ (s t : List ℕ) where
  same1 : (at : ℕ) → at + 1 ≤ length s → le1 (s ++ t) at ≡ le1 s at
  same1 at h = get_or-append s t 0 at (omega (arith, h))

  same2 : (at : ℕ) → at + 2 ≤ length s → le2 (s ++ t) at ≡ le2 s at
  same2 at h = rw (same1 at (omega (arith, h)), same1 (at + 1) (omega (arith, h)))

  same4 : (at : ℕ) → at + 4 ≤ length s → le4 (s ++ t) at ≡ le4 s at
  same4 at h = rw (same2 at (omega (arith, h)), same2 (at + 2) (omega (arith, h)))

  same8 : (at : ℕ) → at + 8 ≤ length s → le8 (s ++ t) at ≡ le8 s at
  same8 at h = rw (same4 at (omega (arith, h)), same4 (at + 4) (omega (arith, h)))

  same_value : (at : ℕ) → at + 9 ≤ length s → value_at (s ++ t) at ≡ value_at s at
  unfolding value_at
  same_value at h = rw (same1 at (omega (arith, h)), same8 (at + 1) (omega (arith, h)))

  same-pending : (at : ℕ) → at + 17 ≤ length s → pending_at (s ++ t) at ≡ pending_at s at
  unfolding pending_at
  same-pending at h = rw (same4 (at + 3) (omega (arith, h)), same1 (at + 7) (omega (arith, h)), same_value (at + 8) (omega (arith, h)))

  same-contents : (at kind n : ℕ) → size kind n ≤ length s - at → contents (s ++ t) at kind ≡ contents s at kind
  unfolding size contents
  same-contents at kind n h =
      let P : Option Record → Option Record → Type 0 = λ o q. o ≡ q in
      either_kind P kind 1 (λ e. ap (λ (x : ℕ). Some (Record.Coroutine x)) (same4 (at + 3) (omega (arith, size_of_kind 1 n e h))))
      (either_kind P kind 2 (λ e. refl)
      (either_kind P kind 3 (λ e. same-pending at (omega (arith, size_of_kind 3 n e h)))
      (either_kind P kind 4 (λ e. ap (with_value Record.Settled) (same_value (at + 3) (omega (arith, size_of_kind 4 n e h))))
      (either_kind P kind 5 (λ e. ap (λ (x : ℕ). Some (Record.Gather (at + 4) x)) (same1 (at + 3) (omega (arith, size_of_kind 5 n e h))))
      (either_kind P kind 6 (λ e. ap (λ (x : ℕ). Some (Record.Await x)) (same2 (at + 3) (omega (arith, size_of_kind 6 n e h))))
      (either_kind P kind 7 (λ e. ap (with_value Record.Complete) (same_value (at + 3) (omega (arith, size_of_kind 7 n e h))))
      (either_kind P kind 8 (λ e. ap (λ (x : ℕ). Some (Record.Fail x)) (same4 (at + 3) (omega (arith, size_of_kind 8 n e h))))
      (either_kind P kind 9 (λ e. ap (λ (x : ℕ). Some (Record.Results (at + 4) x)) (same1 (at + 3) (omega (arith, size_of_kind 9 n e h))))
      (either_kind P kind 10 (λ e. refl)
      (either_kind P kind 11 (λ e. ap (λ (x : ℕ). Some (Record.Cancel x)) (same2 (at + 3) (omega (arith, size_of_kind 11 n e h))))
      (either_kind P kind 12 (λ e. ap (λ (x : ℕ). Some (Record.Show x)) (same2 (at + 3) (omega (arith, size_of_kind 12 n e h))))
      (either_kind P kind 13 (λ e. refl) refl))))))))))))

-- ---- sizes

-- a record of 3 bytes has no count
small_size : (kind n n' : ℕ) → size kind n ≤ 3 → size kind n' ≡ size kind n
unfolding size
small_size kind n n' h =
    let P : ℕ → ℕ → Type 0 = λ a b. a ≡ b in
    either_kind P kind 1 (λ e. refl)
    (either_kind P kind 2 (λ e. refl)
    (either_kind P kind 3 (λ e. refl)
    (either_kind P kind 4 (λ e. refl)
    (either_kind P kind 5 (λ e. absurd (omega (arith, size_of_kind 5 n e h)))
    (either_kind P kind 6 (λ e. refl)
    (either_kind P kind 7 (λ e. refl)
    (either_kind P kind 8 (λ e. refl)
    (either_kind P kind 9 (λ e. absurd (omega (arith, size_of_kind 9 n e h)))
    (either_kind P kind 10 (λ e. refl)
    (either_kind P kind 11 (λ e. refl)
    (either_kind P kind 12 (λ e. refl)
    (either_kind P kind 13 (λ e. refl) refl))))))))))))

-- with a count of one byte a record has at most 3,574 bytes
pub size_limit : (kind n : ℕ) → n < 256 → size kind n ≤ record_limit
unfolding size
size_limit kind n c =
    let P : ℕ → Type 0 = λ m. m ≤ record_limit in
    pick_has P (eqb kind 1) (omega arith)
    (pick_has P (eqb kind 2) (omega arith)
    (pick_has P (eqb kind 3) (omega arith)
    (pick_has P (eqb kind 4) (omega arith)
    (pick_has P (eqb kind 5) (omega arith)
    (pick_has P (eqb kind 6) (omega arith)
    (pick_has P (eqb kind 7) (omega arith)
    (pick_has P (eqb kind 8) (omega arith)
    (pick_has P (eqb kind 9) (omega arith)
    (pick_has P (eqb kind 10) (omega arith)
    (pick_has P (eqb kind 11) (omega arith)
    (pick_has P (eqb kind 12) (omega arith)
    (pick_has P (eqb kind 13) (omega arith) (omega arith)))))))))))))

-- ---- records

module _ (s t : List ℕ) (at : ℕ) where
  -- the size is the same: byte 3 is there, or it is no count
  same_size : (kind : ℕ) → 3 ≤ length s - at → size kind (le1 s (at + 3)) ≤ length s - at → size kind (le1 (s ++ t) (at + 3)) ≡ size kind (le1 s (at + 3))
  same_size kind l h = by (ltb (length s - at) 4) refl
    where
      by : (b : Bool) → ltb (length s - at) 4 ≡ b → size kind (le1 (s ++ t) (at + 3)) ≡ size kind (le1 s (at + 3))
      by true e = let m : length s - at < 4 = ltb-true (length s - at) 4 e in small_size kind (le1 s (at + 3)) (le1 (s ++ t) (at + 3)) (omega (arith, m, h))
      by false e = let m : 4 ≤ length s - at = ltb-false (length s - at) 4 e in ap (size kind) (same1 s t (at + 3) (omega (arith, m)))

  same_kind : (kind : ℕ) → 3 ≤ length s - at → size kind (le1 s (at + 3)) ≤ length s - at → parse_kind (s ++ t) at kind ≡ parse_kind s at kind
  unfolding parse_kind
  same_kind kind l h =
      let n : length (s ++ t) ≡ length s + length t = length-append s t in
      rw (same_size kind l h, le-leb (size kind (le1 s (at + 3))) (length s - at) h, le-leb (size kind (le1 s (at + 3))) (length (s ++ t) - at) (omega (arith, n, h)), same-contents s t at kind (le1 s (at + 3)) h)

  -- all bytes of the record are there
  same-parse : 3 ≤ length s - at → size (le1 s (at + 2)) (le1 s (at + 3)) ≤ length s - at → parse (s ++ t) at ≡ parse s at
  unfolding parse
  same-parse l h =
      let n : length (s ++ t) ≡ length s + length t = length-append s t in
      rw (
        ne_eqb (length s - at) 0 (λ z. omega (arith, z, l)),
        le-ltb (length s - at) 3 l,
        ne_eqb (length (s ++ t) - at) 0 (λ z. omega (arith, z, l, n)),
        le-ltb (length (s ++ t) - at) 3 (omega (arith, l, n)),
        same2 s t at (omega (arith, l)),
        same1 s t (at + 2) (omega (arith, l)),
        same_kind (le1 s (at + 2)) l h,
      )

  -- A record that was read is read whatever follows.
  pub parse_longer : {r : Record} {next : ℕ} → parse s at ≡ a_record r next → parse (s ++ t) at ≡ a_record r next
  parse_longer e =
      let i = parse_inside s at e in
      same-parse (omega (arith, i.head, i.within)) (omega (arith, i.size_is, i.head, i.within)) ∙ e

  -- Where as many bytes are left as a record can have, what follows makes no difference. (Byte 3 is a byte.)
  pub parse_enough : le1 s (at + 3) < 256 → record_limit ≤ length s - at → parse (s ++ t) at ≡ parse s at
  parse_enough c l = same-parse (omega (arith, l)) (omega (arith, size_limit (le1 s (at + 2)) (le1 s (at + 3)) c, l))

-- ---- without the bytes in front

-- a record that was moved, if there is one
abbrev move_some : ℕ → Option Record → Option Record
move_some k None = None
move_some k (Some r) = Some (move_record k r)

module _ (s : List ℕ) (k : ℕ) where
  drop1 : (p q : ℕ) → q ≡ k + p → le1 s q ≡ le1 (drop k s) p
  drop1 p q e = rw (e, get_or-drop k s p 0)

  drop2 : (p q : ℕ) → q ≡ k + p → le2 s q ≡ le2 (drop k s) p
  drop2 p q e = rw (drop1 p q e, drop1 (p + 1) (q + 1) (omega (arith, e)))

  drop4 : (p q : ℕ) → q ≡ k + p → le4 s q ≡ le4 (drop k s) p
  drop4 p q e = rw (drop2 p q e, drop2 (p + 2) (q + 2) (omega (arith, e)))

  drop8 : (p q : ℕ) → q ≡ k + p → le8 s q ≡ le8 (drop k s) p
  drop8 p q e = rw (drop4 p q e, drop4 (p + 4) (q + 4) (omega (arith, e)))

  drop-value : (p q : ℕ) → q ≡ k + p → value_at s q ≡ value_at (drop k s) p
  unfolding value_at
  drop-value p q e = rw (drop1 p q e, drop8 (p + 1) (q + 1) (omega (arith, e)))

  -- a value's record has no places
  move-value : (f : Value → Record) (x : OptionValue) → ((v : Value) → f v ≡ move_record k (f v)) → with_value f x ≡ move_some k (with_value f x)
  move-value f None h = refl
  move-value f (Some v) h = ap (λ (r : Record). Some r) (h v)

  drop-pending : (at : ℕ) → pending_at s (k + at) ≡ move_some k (pending_at (drop k s) at)
  unfolding pending_at move_record
  drop-pending at =
      rw (drop4 (at + 3) (k + at + 3) (omega arith), drop1 (at + 7) (k + at + 7) (omega arith), drop-value (at + 8) (k + at + 8) (omega arith))
      (by (eqb (le1 (drop k s) (at + 7)) 0) (eqb (le1 (drop k s) (at + 7)) 1) (value_at (drop k s) (at + 8)))
    where
      answer : Bool → Bool → OptionValue → Option Record
      answer a b x = pick a (Some (Record.Pending (le4 (drop k s) (at + 3)) None)) (pick b (with_value (λ (v : Value). Record.Pending (le4 (drop k s) (at + 3)) (Some v)) x) None)

      by : (a b : Bool) (x : OptionValue) → answer a b x ≡ move_some k (answer a b x)
      by true b x = refl
      by false true x = move-value (λ (v : Value). Record.Pending (le4 (drop k s) (at + 3)) (Some v)) x (λ v. refl)
      by false false x = refl

  drop-contents : (at kind : ℕ) → contents s (k + at) kind ≡ move_some k (contents (drop k s) at kind)
  unfolding contents move_record
  drop-contents at kind =
      let P : Option Record → Option Record → Type 0 = λ o q. o ≡ move_some k q in
      let e3 : k + at + 3 ≡ k + (at + 3) = omega arith in
      let e4 : k + at + 4 ≡ k + (at + 4) = omega arith in
      either_kind P kind 1 (λ e. ap (λ (x : ℕ). Some (Record.Coroutine x)) (drop4 (at + 3) (k + at + 3) e3))
      (either_kind P kind 2 (λ e. refl)
      (either_kind P kind 3 (λ e. drop-pending at)
      (either_kind P kind 4 (λ e. ap (with_value Record.Settled) (drop-value (at + 3) (k + at + 3) e3) ∙ move-value Record.Settled (value_at (drop k s) (at + 3)) (λ v. refl))
      (either_kind P kind 5 (λ e. rw (e4, drop1 (at + 3) (k + at + 3) e3))
      (either_kind P kind 6 (λ e. ap (λ (x : ℕ). Some (Record.Await x)) (drop2 (at + 3) (k + at + 3) e3))
      (either_kind P kind 7 (λ e. ap (with_value Record.Complete) (drop-value (at + 3) (k + at + 3) e3) ∙ move-value Record.Complete (value_at (drop k s) (at + 3)) (λ v. refl))
      (either_kind P kind 8 (λ e. ap (λ (x : ℕ). Some (Record.Fail x)) (drop4 (at + 3) (k + at + 3) e3))
      (either_kind P kind 9 (λ e. rw (e4, drop1 (at + 3) (k + at + 3) e3))
      (either_kind P kind 10 (λ e. refl)
      (either_kind P kind 11 (λ e. ap (λ (x : ℕ). Some (Record.Cancel x)) (drop2 (at + 3) (k + at + 3) e3))
      (either_kind P kind 12 (λ e. ap (λ (x : ℕ). Some (Record.Show x)) (drop2 (at + 3) (k + at + 3) e3))
      (either_kind P kind 13 (λ e. refl) refl))))))))))))

  drop-left : (at : ℕ) → length s - (k + at) ≡ length (drop k s) - at
  drop-left at = let n : length (drop k s) ≡ length s - k = length-drop k s in omega (arith, n)

  move-found : (o : Option Record) (n n' : ℕ) → n' ≡ k + n → found (move_some k o) n' ≡ move k (found o n)
  unfolding move
  move-found None n n' e = refl
  move-found (Some r) n n' e = ap (λ (m : ℕ). a_record (move_record k r) m) e

  -- an answer that is chosen by a test is moved as each of the two
  move-pick : (b : Bool) (p' q' : Parsed) {p q : Parsed} → p ≡ move k p' → q ≡ move k q' → pick b p q ≡ move k (pick b p' q')
  move-pick true p' q' e f = e
  move-pick false p' q' e f = f

  drop-kind : (at kind : ℕ) → parse_kind s (k + at) kind ≡ move k (parse_kind (drop k s) at kind)
  unfolding parse_kind move
  drop-kind at kind =
      let m : ℕ = size kind (le1 (drop k s) (at + 3)) in
      rw (drop1 (at + 3) (k + at + 3) (omega arith), drop-left at, drop-contents at kind)
      (move-pick (leb m (length (drop k s) - at)) (found (contents (drop k s) at kind) (at + m)) no_record (move-found (contents (drop k s) at kind) (at + m) (k + at + m) (omega arith)) refl)

  -- The record at a place is the record of the rest at the place counted from there.
  pub parse-rest : (at : ℕ) → parse s (k + at) ≡ move k (parse (drop k s) at)
  unfolding parse move
  parse-rest at =
      rw (drop-left at, drop2 at (k + at) refl, drop1 (at + 2) (k + at + 2) (omega arith), drop-kind at (le1 (drop k s) (at + 2)))
      (move-pick (eqb (length (drop k s) - at) 0) at_end short refl
      (move-pick (ltb (length (drop k s) - at) 3) no_record marked refl
      (move-pick (eqb (le2 (drop k s) at) mark) (parse_kind (drop k s) at (le1 (drop k s) (at + 2))) no_record refl refl)))
    where
      marked : Parsed
      marked = pick (eqb (le2 (drop k s) at) mark) (parse_kind (drop k s) at (le1 (drop k s) (at + 2))) no_record

      short : Parsed
      short = pick (ltb (length (drop k s) - at) 3) no_record marked
