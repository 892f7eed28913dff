-- Loops over items and results that ask whether one of them passes a test.
use Rattle.std.specs.Prelude.{◌≡◌, refl, Bool, true, false, not, ◌&&◌, ◌||◌, List, [], ◌∷◌, eqb, ltb, leb, length, get_or, drop}
use Rattle.std.proofs.Common.{sym, ap, ◌∙◌, add-one, drop-cons}
use Prim.Native.Nat.{ℕ, zero, suc, ◌+◌, ◌-◌, ◌*◌, ◌/◌, ◌≤◌, ◌<◌}
use native.Mathlib.Omega.{arith}
use Rattle.std.proofs.Math.Seq.{drop-length}
use borrow.Author.Tests.{eq-eqb, ne_eqb, lt-ltb, le-ltb, le-leb, lt-leb}
use Rattle.asyncio.specs.Limits.{u32_limit}
use Rattle.asyncio.specs.Numbers.{heap_id}
use Rattle.asyncio.specs.Kinds.{kind, is_completed}
use Rattle.asyncio.specs.declared.Value.{Value}
use Rattle.asyncio.specs.declared.Kind.{Kind}
use Rattle.asyncio.specs.declared.Header.{Header}
use Rattle.rows.specs.Tables.{object_at, header_at}
use Rattle.queue.specs.declared.ReadyQueue.{ReadyQueue}
use Rattle.machine.specs.Tests.{◌and◌}
use Rattle.machine.specs.Store.{Store, LogEntry, store_of, object, header}
use Rattle.machine.specs.Sound.{value_known}
use Rattle.machine.specs.Events.{Result}
use Rattle.machine.specs.Machine.{any_of, result_unknown, bad_result}
use Rattle.exec_futures.specs.Results.{result_at, results_from, results_in}

or_true : (b : Bool) → (true || b) ≡ true
or_true b = refl

-- ---- over the elements of a list, from i on

module _ (p : ℕ → Bool) (xs : List ℕ) where
  pub any_here : (i : ℕ) → i < length xs → p (get_or xs i 0) ≡ true → any_of p (drop i xs) ≡ true
  unfolding any_of
  any_here i l e = rw (drop-cons xs i 0 l, e)

  pub any_turn : (i : ℕ) → i < length xs → p (get_or xs i 0) ≡ false → any_of p (drop (i + 1) xs) ≡ any_of p (drop i xs)
  unfolding any_of
  any_turn i l e = rw (drop-cons xs i 0 l, e, add-one)

  pub any_end : (i : ℕ) → i ≡ length xs → any_of p (drop i xs) ≡ false
  unfolding any_of
  any_end i e = rw (e, drop-length xs)

-- ---- over results, the first i of them seen

module _ (p : Result → Bool) (bs : List ℕ) where
  pub some-here : (i n : ℕ) → i < n → true ≡ p (result_at bs (i * 14)) → any_of p (results_from bs (i * 14) (n - i)) ≡ true
  unfolding any_of results_from
  some-here i n l e = let k : n - i ≡ suc (n - (i + 1)) = omega arith in rw (k, ← e)

  pub some_turn : (i n : ℕ) → i < n → false ≡ p (result_at bs (i * 14)) → any_of p (results_from bs ((i + 1) * 14) (n - (i + 1))) ≡ any_of p (results_from bs (i * 14) (n - i))
  unfolding any_of results_from
  some_turn i n l e =
      let k : n - i ≡ suc (n - (i + 1)) = omega arith in
      let j : (i + 1) * 14 ≡ i * 14 + 14 = omega arith in
      rw (k, ← e, j)

  pub some_end : (i n : ℕ) → n ≤ i → any_of p (results_from bs (i * 14) (n - i)) ≡ false
  unfolding any_of results_from
  some_end i n l = let k : n - i ≡ 0 = omega arith in rw k

  pub some_begin : (n : ℕ) → n ≡ length bs / 14 → any_of p (results_from bs (0 * 14) (n - 0)) ≡ any_of p (results_in bs)
  unfolding results_in
  some_begin n e = let j : 0 * 14 ≡ 0 = omega arith in let k : n - 0 ≡ n = omega arith in rw (j, k, e)

-- ---- one result

module _ (ts os ps : List ℕ) (q : ReadyQueue) (l : List LogEntry) (r : Result) where
  pub known-kind : (r.kind ≡ 0 → ⊥) → false ≡ result_unknown (store_of ts os ps q l) r
  unfolding result_unknown
  known-kind n = rw (ne_eqb r.kind 0 n)

  module _ (z : r.kind ≡ 0) where
    pub known-plain : (r.tag ≡ 1 → ⊥) → false ≡ result_unknown (store_of ts os ps q l) r
    unfolding result_unknown
    known-plain n = rw (eq-eqb r.kind 0 z, ne_eqb r.tag 1 n)

    module _ (y : r.tag ≡ 1) where
      pub unknown_unmade : (header_at os).made ≤ r.number → true ≡ result_unknown (store_of ts os ps q l) r
      unfolding result_unknown value_known ◌and◌ header
      unknown_unmade n = rw (eq-eqb r.kind 0 z, eq-eqb r.tag 1 y, le-ltb r.number (header_at os).made n)

      pub unknown_by : {g : ℕ} → g ≡ r.number → g < (header_at os).made → {k : Kind} → k ≡ kind (object_at os g) → {b : Bool} → b ≡ is_completed k
          → not b ≡ result_unknown (store_of ts os ps q l) r
      unfolding result_unknown value_known ◌and◌ header object
      unknown_by {g} i n k e = rw (eq-eqb r.kind 0 z, eq-eqb r.tag 1 y, ← i, lt-ltb g (header_at os).made n, ← k, ← e)

module _ (r : Result) where
  pub bad_kind : 4 < r.kind → true ≡ bad_result r
  unfolding bad_result
  bad_kind l = rw (lt-ltb 4 r.kind l)

  module _ (k : r.kind ≤ 4) where
    pub bad_tag : 1 < r.tag → true ≡ bad_result r
    unfolding bad_result
    bad_tag l = rw (le-ltb 4 r.kind k, lt-ltb 1 r.tag l)

    module _ (t : r.tag ≤ 1) where
      pub bad_number : r.kind ≡ 1 → leb u32_limit r.number ≡ bad_result r
      unfolding bad_result
      bad_number e = rw (le-ltb 4 r.kind k, le-ltb 1 r.tag t, eq-eqb r.kind 1 e)

      pub good-kind : (r.kind ≡ 1 → ⊥) → false ≡ bad_result r
      unfolding bad_result
      good-kind e = rw (le-ltb 4 r.kind k, le-ltb 1 r.tag t, ne_eqb r.kind 1 e)
