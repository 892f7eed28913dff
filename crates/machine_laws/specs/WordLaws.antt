-- Each write of a row that fits keeps the rows in use canonical; a row at the end may come into use by it.
use Rattle.std.specs.Prelude.{◌≡◌, ◌⊎◌, List, ℕ, ◌+◌, ◌*◌, ◌≤◌, ◌<◌, length}
use Rattle.std.proofs.Common.{ap, sym, inl, inr, ⊎_elim, arith, leb→le, le→leb}
use Rattle.std.proofs.Math.Path.{subst}
use Rattle.std.proofs.Math.Decide.{ℕ_discrete}
use Rattle.std.proofs.Math.Dec.{T}
use Rattle.asyncio.specs.declared.Task.{Task}
use Rattle.asyncio.specs.declared.Object.{Object}
use Rattle.asyncio.specs.declared.Place.{Place}
use Rattle.asyncio.specs.declared.Header.{Header}
use Rattle.asyncio.specs.Limits.{task_limit, object_limit, place_limit}
use Rattle.asyncio.specs.Layout.{object_words, to_object, header_words, to_header}
use Rattle.asyncio.specs.Ranges.{TaskFits, ObjectFits, PlaceFits, HeaderFits}
use Rattle.rows.specs.Tables.{task_codec, object_codec, place_codec, header_codec, task_start, object_start, place_start, task_put, object_put, place_put, header_put}
use Rattle.rows.specs.TableLaws.{different}
use Rattle.rows.specs.RowLaws.{row-put-apart}
use Rattle.rows.specs.Canonical.{same_words, task_canonical, object_canonical, place_canonical, header_canonical}
use Rattle.rows.specs.CanonicalLaws.{canonical_put, canonical_apart}
use Rattle.queue.specs.declared.ReadyQueue.{ReadyQueue}
use Rattle.machine.specs.Tests.{all_below}
use Rattle.machine.specs.Store.{Store, header, put_task, put_object, put_place, put_header, put_queue, add_log, forget, LogEntry}
use Rattle.machine.specs.Sound.{words_in_range}
use Rattle.machine_laws.specs.Views.{Sized}
use Rattle.machine_laws.specs.Facts.{WordsInRange}
use Rattle.machine_laws.specs.TestLaws.{holds, both, both_left, both_right, below, from-below}

-- ---- the test and the facts

pub words_facts : (s : Store) → T (words_in_range s) → WordsInRange (header s).next (header s).made (header s).used s
unfolding words_in_range
words_facts s h =
    let h2 = both_right (header_canonical s.objects) _ h in
    let h3 = both_right (all_below (header s).next (λ t. task_canonical s.tasks t)) _ h2 in
    let h4 = both_right (all_below (header s).made (λ o. object_canonical s.objects o)) _ h3 in
    record {
      header_right = both_left _ _ h;
      tasks_right = below (header s).next _ (both_left _ _ h2);
      objects_right = below (header s).made _ (both_left _ _ h3);
      places_right = below (header s).used _ (both_left _ _ h4);
      queue_short = leb→le s.queue.len task_limit (both_right (all_below (header s).used (λ p. place_canonical s.places p)) _ h4);
    }

pub words_test : (s : Store) → WordsInRange (header s).next (header s).made (header s).used s → T (words_in_range s)
unfolding words_in_range
words_test s h =
    both _ _ h.header_right (both _ _ (from-below (header s).next _ h.tasks_right) (both _ _ (from-below (header s).made _ h.objects_right)
    (both _ _ (from-below (header s).used _ h.places_right) (le→leb s.queue.len task_limit h.queue_short))))

-- ---- rows

task-row : (w : List ℕ) (t u : ℕ) (r : Task) → t * 8 + 8 ≤ length w → TaskFits r → ((u ≡ t → ⊥) → T (task_canonical w u)) → T (task_canonical (task_put w t r) u)
unfolding task_canonical task_put
task-row w t u r l f h = by (ℕ_discrete u t)
  where
    by : Dec (u ≡ t) → T (task_canonical (task_put w t r) u)
    by (yes e) = subst (λ (j : ℕ). T (task_canonical (task_put w t r) j)) (sym e) (holds _ (canonical_put task_codec w (task_start t) r f l))
    by (no ne) =
        subst T (sym (canonical_apart task_codec w (task_start t) (task_start u) r
        (⊎_elim (λ m. inl (omega arith)) (λ m. inr (omega arith)) (different t u ne)))) (h ne)

object_row : (w : List ℕ) (o p : ℕ) (r : Object) → o * 8 + 16 ≤ length w → ObjectFits r → ((p ≡ o → ⊥) → T (object_canonical w p))
    → T (object_canonical (object_put w o r) p)
unfolding object_canonical object_put
object_row w o p r l f h = by (ℕ_discrete p o)
  where
    by : Dec (p ≡ o) → T (object_canonical (object_put w o r) p)
    by (yes e) = subst (λ (j : ℕ). T (object_canonical (object_put w o r) j)) (sym e) (holds _ (canonical_put object_codec w (object_start o) r f (omega arith)))
    by (no ne) =
        subst T (sym (canonical_apart object_codec w (object_start o) (object_start p) r
        (⊎_elim (λ m. inl (omega arith)) (λ m. inr (omega arith)) (different o p ne)))) (h ne)

place-row : (w : List ℕ) (p q : ℕ) (r : Place) → p * 4 + 4 ≤ length w → PlaceFits r → ((q ≡ p → ⊥) → T (place_canonical w q)) → T (place_canonical (place_put w p r) q)
unfolding place_canonical place_put
place-row w p q r l f h = by (ℕ_discrete q p)
  where
    by : Dec (q ≡ p) → T (place_canonical (place_put w p r) q)
    by (yes e) = subst (λ (j : ℕ). T (place_canonical (place_put w p r) j)) (sym e) (holds _ (canonical_put place_codec w (place_start p) r f l))
    by (no ne) =
        subst T (sym (canonical_apart place_codec w (place_start p) (place_start q) r
        (⊎_elim (λ m. inl (omega arith)) (λ m. inr (omega arith)) (different p q ne)))) (h ne)

-- the header's row and the objects' rows lie apart

header-row_object : (w : List ℕ) (o : ℕ) (r : Object) → header_canonical (object_put w o r) ≡ header_canonical w
unfolding header_canonical object_put
header-row_object w o r =
    ap (λ (x : List ℕ). same_words (header_words (to_header x)) x) (row-put-apart object_codec w (object_start o) 0 8 r (inr (omega arith)))

object_row-header : (w : List ℕ) (o : ℕ) (h : Header) → object_canonical (header_put w h) o ≡ object_canonical w o
unfolding object_canonical header_put
object_row-header w o h =
    ap (λ (x : List ℕ). same_words (object_words (to_object x)) x) (row-put-apart header_codec w 0 (object_start o) 8 h (inl (omega arith)))

header_row : (w : List ℕ) (h : Header) → 8 ≤ length w → HeaderFits h → T (header_canonical (header_put w h))
unfolding header_canonical header_put
header_row w h l f = holds _ (canonical_put header_codec w 0 h f l)

-- ---- the store: the rows in use are then those that were, and the one that was written

module _ (next made used : ℕ) (s : Store) (z : Sized s) (k : WordsInRange next made used s) where
  pub words_put_task : (n t : ℕ) (r : Task) → t < task_limit → TaskFits r → ((u : ℕ) → u < n → (u ≡ t → ⊥) → u < next) → WordsInRange n made used (put_task s t r)
  unfolding put_task
  words_put_task n t r l f h = record {
    header_right = k.header_right;
    tasks_right = λ u m. task-row s.tasks t u r (omega (arith, z.tasks_sized)) f (λ ne. k.tasks_right u (h u m ne));
    objects_right = k.objects_right;
    places_right = k.places_right;
    queue_short = k.queue_short;
  }

  pub words_put_object : (n o : ℕ) (r : Object) → o < object_limit → ObjectFits r → ((p : ℕ) → p < n → (p ≡ o → ⊥) → p < made)
      → WordsInRange next n used (put_object s o r)
  unfolding put_object
  words_put_object n o r l f h = record {
    header_right = subst T (sym (header-row_object s.objects o r)) k.header_right;
    tasks_right = k.tasks_right;
    objects_right = λ p m. object_row s.objects o p r (omega (arith, z.objects_sized)) f (λ ne. k.objects_right p (h p m ne));
    places_right = k.places_right;
    queue_short = k.queue_short;
  }

  pub words_put_place : (n p : ℕ) (r : Place) → p < place_limit → PlaceFits r → ((q : ℕ) → q < n → (q ≡ p → ⊥) → q < used) → WordsInRange next made n (put_place s p r)
  unfolding put_place
  words_put_place n p r l f h = record {
    header_right = k.header_right;
    tasks_right = k.tasks_right;
    objects_right = k.objects_right;
    places_right = λ q m. place-row s.places p q r (omega (arith, z.places_sized)) f (λ ne. k.places_right q (h q m ne));
    queue_short = k.queue_short;
  }

  pub words_put_header : (h : Header) → HeaderFits h → WordsInRange next made used (put_header s h)
  unfolding put_header
  words_put_header h f = record {
    header_right = header_row s.objects h (omega (arith, z.objects_sized)) f;
    tasks_right = k.tasks_right;
    objects_right = λ o m. subst T (sym (object_row-header s.objects o h)) (k.objects_right o m);
    places_right = k.places_right;
    queue_short = k.queue_short;
  }

  pub words_put_queue : (q : ReadyQueue) → q.len ≤ task_limit → WordsInRange next made used (put_queue s q)
  unfolding put_queue
  words_put_queue q l = record {
    header_right = k.header_right;
    tasks_right = k.tasks_right;
    objects_right = k.objects_right;
    places_right = k.places_right;
    queue_short = l;
  }

  pub words_add_log : (x : LogEntry) → WordsInRange next made used (add_log s x)
  unfolding add_log
  words_add_log x = record {
    header_right = k.header_right;
    tasks_right = k.tasks_right;
    objects_right = k.objects_right;
    places_right = k.places_right;
    queue_short = k.queue_short;
  }

  pub words_forget : WordsInRange next made used (forget s)
  unfolding forget
  words_forget = record {
    header_right = k.header_right;
    tasks_right = k.tasks_right;
    objects_right = k.objects_right;
    places_right = k.places_right;
    queue_short = k.queue_short;
  }
