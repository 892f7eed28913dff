-- The laws of the tables, each the law of rows (RowLaws) at its codec: lengths are kept, what was put and fits is read back, other rows
-- stay, and whatever is read is in range.
use Rattle.std.specs.Prelude.{◌≡◌, refl, Bool, true, false, ◌⊎◌, List, ℕ, ◌+◌, ◌*◌, ◌≤◌, ◌<◌, ltb, length}
use Rattle.std.proofs.Common.{ap, inl, inr, ⊎_elim, eq-or-lt_of_le, arith, ltb-true, ltb-false}
use Rattle.asyncio.specs.Layout.{to_object, to_task, to_place, to_header}
use Rattle.asyncio.specs.Limits.{object_limit}
use Rattle.asyncio.specs.Parts.{first_of, count_of}
use Rattle.asyncio.specs.Ranges.{ObjectFits, TaskFits, PlaceFits, HeaderFits, PlacesFit}
use Rattle.rows.specs.RowLaws.{length-put_at, read-put, row-put-apart, read_fits}
use Rattle.rows.specs.Tables.{task_codec, object_codec, place_codec, header_codec, task_start, object_start, place_start}
use Rattle.rows.specs.Tables.{task_at, task_put, object_at, object_put, place_at, place_put, header_at, header_put}
use Rattle.asyncio.specs.declared.HeapId.{HeapId}
use Rattle.asyncio.specs.declared.Object.{Object}
use Rattle.asyncio.specs.declared.Task.{Task}
use Rattle.asyncio.specs.declared.Place.{Place}
use Rattle.asyncio.specs.declared.Header.{Header}

-- ---- lengths are kept

pub length-task_put : (w : List ℕ) (t : ℕ) (r : Task) → length (task_put w t r) ≡ length w
unfolding task_put
length-task_put w t r = length-put_at task_codec w (task_start t) r

pub length-object_put : (w : List ℕ) (o : ℕ) (r : Object) → length (object_put w o r) ≡ length w
unfolding object_put
length-object_put w o r = length-put_at object_codec w (object_start o) r

pub length-place_put : (w : List ℕ) (p : ℕ) (r : Place) → length (place_put w p r) ≡ length w
unfolding place_put
length-place_put w p r = length-put_at place_codec w (place_start p) r

pub length-header_put : (w : List ℕ) (h : Header) → length (header_put w h) ≡ length w
unfolding header_put
length-header_put w h = length-put_at header_codec w 0 h

-- ---- what was put and fits is read back

pub task_at_put : (w : List ℕ) (t : ℕ) (r : Task) → TaskFits r → t * 8 + 8 ≤ length w → task_at (task_put w t r) t ≡ r
unfolding task_at task_put
task_at_put w t r f h = read-put task_codec w (task_start t) r f h

pub object_at_put : (w : List ℕ) (o : ℕ) (r : Object) → ObjectFits r → o * 8 + 16 ≤ length w → object_at (object_put w o r) o ≡ r
unfolding object_at object_put
object_at_put w o r f h = read-put object_codec w (object_start o) r f (omega arith)

pub place_at_put : (w : List ℕ) (p : ℕ) (r : Place) → PlaceFits r → p * 4 + 4 ≤ length w → place_at (place_put w p r) p ≡ r
unfolding place_at place_put
place_at_put w p r f h = read-put place_codec w (place_start p) r f h

pub header_at_put : (w : List ℕ) (h : Header) → HeaderFits h → 8 ≤ length w → header_at (header_put w h) ≡ h
unfolding header_at header_put
header_at_put w h f l = read-put header_codec w 0 h f l

-- ---- other rows stay

different_by : (t u : ℕ) (b : Bool) → ltb t u ≡ b → (u ≡ t → ⊥) → (t < u) ⊎ (u < t)
different_by t u true e ne = inl (ltb-true t u e)
different_by t u false e ne = ⊎_elim (λ q. absurd (ne q)) (λ l. inr l) (eq-or-lt_of_le (ltb-false t u e))

-- one of two different numbers is the lower
pub different : (t u : ℕ) → (u ≡ t → ⊥) → (t < u) ⊎ (u < t)
different t u ne = different_by t u (ltb t u) refl ne

pub task_at-other : (w : List ℕ) (t u : ℕ) (r : Task) → (u ≡ t → ⊥) → task_at (task_put w t r) u ≡ task_at w u
unfolding task_at task_put
task_at-other w t u r ne =
    ap to_task (row-put-apart task_codec w (task_start t) (task_start u) 8 r (⊎_elim (λ l. inl (omega arith)) (λ l. inr (omega arith)) (different t u ne)))

pub object_at-other : (w : List ℕ) (o p : ℕ) (r : Object) → (p ≡ o → ⊥) → object_at (object_put w o r) p ≡ object_at w p
unfolding object_at object_put
object_at-other w o p r ne =
    ap to_object (row-put-apart object_codec w (object_start o) (object_start p) 8 r (⊎_elim (λ l. inl (omega arith)) (λ l. inr (omega arith)) (different o p ne)))

pub place_at-other : (w : List ℕ) (p q : ℕ) (r : Place) → (q ≡ p → ⊥) → place_at (place_put w p r) q ≡ place_at w q
unfolding place_at place_put
place_at-other w p q r ne =
    ap to_place (row-put-apart place_codec w (place_start p) (place_start q) 4 r (⊎_elim (λ l. inl (omega arith)) (λ l. inr (omega arith)) (different p q ne)))

pub object_at-header_put : (w : List ℕ) (o : ℕ) (h : Header) → object_at (header_put w h) o ≡ object_at w o
unfolding object_at header_put
object_at-header_put w o h = ap to_object (row-put-apart header_codec w 0 (object_start o) 8 h (inl (omega arith)))

pub header_at-object_put : (w : List ℕ) (o : ℕ) (r : Object) → header_at (object_put w o r) ≡ header_at w
unfolding header_at object_put
header_at-object_put w o r = ap to_header (row-put-apart object_codec w (object_start o) 0 8 r (inr (omega arith)))

-- ---- whatever is read is in range

pub task_at-fits : (w : List ℕ) (t : ℕ) → TaskFits (task_at w t)
unfolding task_at
task_at-fits w t = read_fits task_codec w (task_start t)

pub object_at-fits : (w : List ℕ) (o : ℕ) → ObjectFits (object_at w o)
unfolding object_at
object_at-fits w o = read_fits object_codec w (object_start o)

pub place_at-fits : (w : List ℕ) (p : ℕ) → PlaceFits (place_at w p)
unfolding place_at
place_at-fits w p = read_fits place_codec w (place_start p)

pub header_at-fits : (w : List ℕ) → HeaderFits (header_at w)
unfolding header_at
header_at-fits w = read_fits header_codec w 0

-- so is a header that the code has read
pub header_read : (w : List ℕ) {h : Header} → h ≡ header_at w → HeaderFits h
header_read w e = rw e (header_at-fits w)

parts_fit : (x : Object) → ObjectFits x → PlacesFit (first_of x) (count_of x)
unfolding first_of count_of
parts_fit Object.Unmade f = record { within = omega arith; at_most = omega arith }
parts_fit (Object.Coroutine g s) f = record { within = omega arith; at_most = omega arith }
parts_fit (Object.ExternalFuture c s) f = record { within = omega arith; at_most = omega arith }
parts_fit (Object.GatherFuture i n s) f = f.0

-- the places of an object that was read are in range
pub places_fit : (os : List ℕ) (g : ℕ) {i n : ℕ} → i ≡ first_of (object_at os g) → n ≡ count_of (object_at os g) → PlacesFit i n
places_fit os g e f = rw (e, f) (parts_fit (object_at os g) (object_at-fits os g))

-- so is the coroutine of a task that was read
pub coroutine_fits : (ts : List ℕ) (t : ℕ) {c : HeapId} → c ≡ (task_at ts t).coroutine → c.0 < object_limit
coroutine_fits ts t e = rw e (task_at-fits ts t).coroutine_fits
