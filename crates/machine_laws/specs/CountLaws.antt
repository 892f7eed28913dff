-- How a count changes where one number fails a test that it passed; rows that are counted in one walk are as many as their numbers.
use Rattle.std.specs.Prelude.{◌≡◌, refl, List, Bool, true, false, ℕ, zero, suc, ◌+◌, ◌*◌, ◌≤◌, ◌<◌, drop}
use Rattle.std.proofs.Common.{sym, ap, ◌∙◌, ⊎_elim, eq-or-lt_of_le, arith}
use Rattle.asyncio.specs.States.{pick, is_live}
use Rattle.asyncio.specs.Limits.{task_limit, object_limit, object_width}
use Rattle.asyncio.specs.Kinds.{kind, is_awaited, is_pending_gather}
use Rattle.asyncio.specs.declared.Object.{Object}
use Rattle.rows.specs.Rows.{Codec, read_at, count_rows}
use Rattle.rows.specs.RowLaws.{split_row-is, row_drop, drop-drop}
use Rattle.rows.specs.Tables.{task_codec, object_codec, task_at, object_at, count_objects}
use Rattle.machine.specs.Tests.{count_from, count}
use Rattle.machine.specs.Scheduler.{live_in}
use Rattle.machine.specs.Delivery.{awaited_in}
use Rattle.machine.specs.Commit.{pending_in}

pub count_from-same : (f g : ℕ → Bool) (i k : ℕ) → ((j : ℕ) → i ≤ j → j < i + k → f j ≡ g j) → count_from f i k ≡ count_from g i k
count_from-same f g i zero h = refl
count_from-same f g i (suc k) h = rw (h i (omega arith) (omega arith), count_from-same f g (suc i) k (λ j a b. h j (omega arith) (omega arith)))

pub count_same : (f g : ℕ → Bool) (n : ℕ) → ((i : ℕ) → i < n → f i ≡ g i) → count f n ≡ count g n
count_same f g n h = count_from-same f g 0 n (λ j a b. h j (omega arith))

picked : (b : Bool) (k : ℕ) → pick b (suc (suc k)) (suc k) ≡ suc (pick b (suc k) k)
picked true k = refl
picked false k = refl

count_from-drop : (f g : ℕ → Bool) (i k t : ℕ) → i ≤ t → t < i + k → f t ≡ true → g t ≡ false → ((j : ℕ) → (j ≡ t → ⊥) → g j ≡ f j)
    → count_from f i k ≡ suc (count_from g i k)
count_from-drop f g i zero t a b p q h = absurd (omega arith)
count_from-drop f g i (suc k) t a b p q h =
    ⊎_elim
    (λ e.
    let p' : f i ≡ true = rw (← e) at p in
    let q' : g i ≡ false = rw (← e) at q in
    rw (p', q', count_from-same f g (suc i) k (λ j l m. sym (h j (λ e'. omega arith)))))
    (λ l. rw (h i (λ e. omega arith), count_from-drop f g (suc i) k t l (omega arith) p q h) (picked (f i) (count_from g (suc i) k)))
    (eq-or-lt_of_le a)

-- g fails at t, where f passes, and agrees with f elsewhere
pub count-drop : (f g : ℕ → Bool) (n t : ℕ) → t < n → f t ≡ true → g t ≡ false → ((i : ℕ) → (i ≡ t → ⊥) → g i ≡ f i) → count f n ≡ suc (count g n)
count-drop f g n t l p q h = count_from-drop f g 0 n t (omega arith) (omega arith) p q h

picked_most : (b : Bool) (n k : ℕ) → n ≤ k → pick b (suc n) n ≤ suc k
picked_most true n k h = omega arith
picked_most false n k h = omega arith

count_from-most : (f : ℕ → Bool) (i k : ℕ) → count_from f i k ≤ k
count_from-most f i zero = omega arith
count_from-most f i (suc k) = picked_most (f i) (count_from f (suc i) k) k (count_from-most f (suc i) k)

pub count_most : (f : ℕ → Bool) (n : ℕ) → count f n ≤ n
count_most f n = count_from-most f 0 n

-- ---- rows counted in one walk

module _ {R : Type 0} (C : Codec R) (p : R → Bool) (c : ℕ) (w : List ℕ) where
  -- from row i on
  rows-counted : (k i : ℕ) → count_rows C p k (drop (i * C.width + c) w) ≡ count_from (λ j. p (read_at C w (j * C.width + c))) i k
  rows-counted zero i = refl
  rows-counted (suc k) i =
      split_row-is C.width (λ r. r) (drop (i * C.width + c) w) (λ r v. pick (p (C.reads r)) (suc (count_rows C p k v)) (count_rows C p k v))
      ∙ rw (row_drop w (i * C.width + c) C.width, drop-drop C.width (i * C.width + c) w, next, rows-counted k (suc i))
    where
      next : i * C.width + c + C.width ≡ suc i * C.width + c
      next = omega arith

-- as many objects' rows pass as numbers do
objects-counted : (p : Object → Bool) (os : List ℕ) → count_objects p os ≡ count (λ o. p (object_at os o)) object_limit
unfolding object_at
objects-counted p os = rows-counted object_codec p object_width os object_limit 0

-- the live tasks, by their numbers
pub live-counted : (ts : List ℕ) → live_in ts ≡ count (λ t. is_live (task_at ts t).state) task_limit
unfolding live_in task_at
live-counted ts = rows-counted task_codec (λ r. is_live r.state) 0 ts task_limit 0

-- the awaited gathers
pub awaited-counted : (os : List ℕ) → awaited_in os ≡ count (λ o. is_awaited (kind (object_at os o))) object_limit
unfolding awaited_in
awaited-counted os = objects-counted (λ r. is_awaited (kind r)) os

-- the pending gathers
pub pending-counted : (os : List ℕ) → pending_in os ≡ count (λ o. is_pending_gather (kind (object_at os o))) object_limit
unfolding pending_in
pending-counted os = objects-counted (λ r. is_pending_gather (kind r)) os

-- counts a and d that are those of numbers, b and c
pub one_less : (a b c d : ℕ) → a ≡ b → b ≡ suc c → d ≡ c → a ≡ suc d
one_less a b c d e f g = e ∙ (f ∙ ap suc (sym g))
