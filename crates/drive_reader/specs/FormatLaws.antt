-- How code meets the format: one law for each way through a function.
use Rattle.std.specs.Prelude.{None, Some}
use Rattle.std.specs.Prelude.{◌≡◌, List, ℕ, ◌+◌, ◌-◌, ◌≤◌, ◌<◌, length}
use borrow.Author.Tests.{ne_eqb, lt-ltb, le-ltb, le-leb, lt-leb}
use Rattle.asyncio.specs.declared.Value.{Value}
use Rattle.asyncio.specs.Options.{OptionValue}
use Rattle.endian.specs.Endian.{le1, le2, le4, le8}
use Rattle.drive_reader.specs.declared.Record.{Record}
use Rattle.drive_reader.specs.Parsed.{Parsed, at_end, no_record, a_record}
use Rattle.drive_reader.specs.Format.{mark, list_value, value_at, with_value, size, pending_at, contents, found, parse_kind, parse}

-- ---- sizes: the size of a kind that is known

pub size_of_kind : (k n : ℕ) {kind l : ℕ} → kind ≡ k → size kind n ≤ l → size k n ≤ l
size_of_kind k n e h = rw e at h

-- ---- value_at: plain, a list, another tag

module _ (s : List ℕ) (at : ℕ) {tag : ℕ} (t : tag ≡ le1 s at) where
  pub reads_plain : {n : ℕ} → n ≡ le8 s (at + 1) → tag ≡ 0 → Some (Value.Plain n) ≡ value_at s at
  unfolding value_at
  reads_plain e z = rw (← t, z, e)

  pub reads_list : {n : ℕ} {v : Value} → n ≡ le8 s (at + 1) → tag ≡ 1 → v ≡ list_value n → Some v ≡ value_at s at
  unfolding value_at
  reads_list e o v = rw (← t, o, v, e)

  pub reads_none : (tag ≡ 0 → ⊥) → (tag ≡ 1 → ⊥) → None ≡ value_at s at
  unfolding value_at
  reads_none z o = rw (← t, ne_eqb tag 0 z, ne_eqb tag 1 o)

-- ---- pending_at: flag 0, flag 1, another flag

module _ (s : List ℕ) (at next : ℕ) {call flag : ℕ} (c : call ≡ le4 s (at + 3)) (f : flag ≡ le1 s (at + 7)) where
  pub reads_unstored : {r : Parsed} → flag ≡ 0 → r ≡ a_record (Record.Pending call None) next → r ≡ found (pending_at s at) next
  unfolding pending_at
  reads_unstored z r = rw (← f, z, r, c)

  pub reads_stored : {v : OptionValue} {r : Parsed} → flag ≡ 1 → v ≡ value_at s (at + 8)
      → r ≡ found (with_value (λ (x : Value). Record.Pending call (Some x)) v) next → r ≡ found (pending_at s at) next
  unfolding pending_at
  reads_stored o v r = rw (← f, o, r, v, c)

  pub reads_no_flag : (flag ≡ 0 → ⊥) → (flag ≡ 1 → ⊥) → no_record ≡ found (pending_at s at) next
  unfolding pending_at
  reads_no_flag z o = rw (← f, ne_eqb flag 0 z, ne_eqb flag 1 o)

-- ---- kind_at: all bytes are there, or not

module _ (s : List ℕ) (at kind : ℕ) {size_is left_is : ℕ} (n : size_is ≡ size kind (le1 s (at + 3))) (l : left_is ≡ length s - at) where
  pub reads_whole : {r : Parsed} → size_is ≤ left_is → r ≡ found (contents s at kind) (at + size_is) → r ≡ parse_kind s at kind
  unfolding parse_kind
  reads_whole h r = rw (← n, ← l, le-leb size_is left_is h) r

  pub reads_short : left_is < size_is → no_record ≡ parse_kind s at kind
  unfolding parse_kind
  reads_short h = rw (← n, ← l, lt-leb size_is left_is h)

-- ---- record_at: the end, no room for mark and kind, another mark, the mark

module _ (s : List ℕ) (at : ℕ) {left_is : ℕ} (l : left_is ≡ length s - at) where
  pub reads_end : left_is ≡ 0 → at_end ≡ parse s at
  unfolding parse
  reads_end z = rw (← l, z)

  pub reads_no_kind : (left_is ≡ 0 → ⊥) → left_is < 3 → no_record ≡ parse s at
  unfolding parse
  reads_no_kind z h = rw (← l, ne_eqb left_is 0 z, lt-ltb left_is 3 h)

  module _ {m : ℕ} (z : left_is ≡ 0 → ⊥) (h : 3 ≤ left_is) (w : m ≡ le2 s at) where
    pub reads_no_mark : (m ≡ mark → ⊥) → no_record ≡ parse s at
    unfolding parse
    reads_no_mark o = rw (← l, ne_eqb left_is 0 z, le-ltb left_is 3 h, ← w, ne_eqb m mark o)

    pub reads_marked : {kind : ℕ} {r : Parsed} → m ≡ mark → kind ≡ le1 s (at + 2) → r ≡ parse_kind s at kind → r ≡ parse s at
    unfolding parse
    reads_marked e k r = rw (← l, ne_eqb left_is 0 z, le-ltb left_is 3 h, ← w, e, ← k) r
