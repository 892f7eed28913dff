-- A part of an object is what its own words are read as, by the object's kind.
use Rattle.std.specs.Prelude.{◌≡◌, refl, List, [], ◌∷◌, ℕ, ◌+◌, get_or}
use Rattle.std.proofs.Math.Nat.{add-zero}
use Rattle.asyncio.specs.Numbers.{call_id, to_call_id, to_u32, to_first, to_count}
use Rattle.asyncio.specs.States.{pick}
use Rattle.asyncio.specs.Kinds.{kind, each_kind, has_awaiter, is_external, is_gather, is_awaited}
use Rattle.asyncio.specs.Layout.{to_kind, to_awaiter, row_awaiter, row_object}
use Rattle.rows.specs.Tables.{object_at, object_start}
use Rattle.asyncio.specs.Parts.{awaiter_of, call_of, first_of, count_of, open_of}
use Rattle.asyncio.specs.declared.Awaiter.{Awaiter}
use Rattle.asyncio.specs.declared.Kind.{Kind}

-- ---- of a row

row-kind : (k : Kind) (w : List ℕ) → kind (row_object k w) ≡ k
unfolding kind
row-kind k w =
    each_kind (λ k. kind (row_object k w) ≡ k)
    refl refl refl refl refl refl refl refl refl refl refl k

row_awaits : (k : Kind) (w : List ℕ) → awaiter_of (row_object k w) ≡ pick (has_awaiter k) (row_awaiter w) Awaiter.Nobody
unfolding awaiter_of
row_awaits k w =
    each_kind (λ k. awaiter_of (row_object k w) ≡ pick (has_awaiter k) (row_awaiter w) Awaiter.Nobody)
    refl refl refl refl refl refl refl refl refl refl refl k

row-call : (k : Kind) (w : List ℕ) → call_of (row_object k w) ≡ pick (is_external k) (to_call_id (get_or w 4 0)) (call_id 0)
unfolding call_of
row-call k w =
    each_kind (λ k. call_of (row_object k w) ≡ pick (is_external k) (to_call_id (get_or w 4 0)) (call_id 0))
    refl refl refl refl refl refl refl refl refl refl refl k

row_first : (k : Kind) (w : List ℕ) → first_of (row_object k w) ≡ pick (is_gather k) (to_first (get_or w 4 0)) 0
unfolding first_of
row_first k w =
    each_kind (λ k. first_of (row_object k w) ≡ pick (is_gather k) (to_first (get_or w 4 0)) 0)
    refl refl refl refl refl refl refl refl refl refl refl k

row_count : (k : Kind) (w : List ℕ) → count_of (row_object k w) ≡ pick (is_gather k) (to_count (to_first (get_or w 4 0)) (get_or w 5 0)) 0
unfolding count_of
row_count k w =
    each_kind (λ k. count_of (row_object k w) ≡ pick (is_gather k) (to_count (to_first (get_or w 4 0)) (get_or w 5 0)) 0)
    refl refl refl refl refl refl refl refl refl refl refl k

row_open : (k : Kind) (w : List ℕ) → open_of (row_object k w) ≡ pick (is_awaited k) (to_u32 (get_or w 6 0)) 0
unfolding open_of
row_open k w =
    each_kind (λ k. open_of (row_object k w) ≡ pick (is_awaited k) (to_u32 (get_or w 6 0)) 0)
    refl refl refl refl refl refl refl refl refl refl refl k

-- ---- of object o of a slice

module _ (os : List ℕ) (o : ℕ) where
  abbrev word : ℕ → ℕ
  word i = get_or os (object_start o + i) 0

  -- word 0 is the kind's
  abbrev there : Kind
  there = to_kind (get_or os (object_start o) 0)

  abbrev row : List ℕ
  row = get_or os (object_start o) 0 ∷ word 1 ∷ word 2 ∷ word 3 ∷ word 4 ∷ word 5 ∷ word 6 ∷ word 7 ∷ []

  read-row : object_at os o ≡ row_object there row
  unfolding object_at
  read-row = rw add-zero

  pub kind_at : kind (object_at os o) ≡ there
  kind_at = rw read-row (row-kind there row)

  pub awaiter_at : awaiter_of (object_at os o) ≡ pick (has_awaiter there) (to_awaiter (word 1) (word 2) (word 3)) Awaiter.Nobody
  awaiter_at = rw read-row (row_awaits there row)

  pub call_at : call_of (object_at os o) ≡ pick (is_external there) (to_call_id (word 4)) (call_id 0)
  call_at = rw read-row (row-call there row)

  pub first_at : first_of (object_at os o) ≡ pick (is_gather there) (to_first (word 4)) 0
  first_at = rw read-row (row_first there row)

  pub count_at : count_of (object_at os o) ≡ pick (is_gather there) (to_count (to_first (word 4)) (word 5)) 0
  count_at = rw read-row (row_count there row)

  pub open_at : open_of (object_at os o) ≡ pick (is_awaited there) (to_u32 (word 6)) 0
  open_at = rw read-row (row_open there row)
