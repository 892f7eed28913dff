-- The laws of the store: each write keeps the lengths, is read back, leaves the other rows, and changes one row of the view.
use Rattle.std.specs.Prelude.{◌≡◌, Bool, List, ℕ, ◌<◌, length}
use Rattle.std.proofs.Math.Path.{refl}
use Rattle.std.proofs.Common.{ap, sym, ◌∙◌, arith}
use Rattle.std.proofs.Math.Bool.{true, false}
use Rattle.std.proofs.Math.Dec.{eqb}
use borrow.Author.Tests.{eqb-true, eqb-false, eq-eqb, ne_eqb}
use Rattle.asyncio.specs.declared.TaskState.{TaskState}
use Rattle.asyncio.specs.declared.Task.{Task}
use Rattle.asyncio.specs.declared.Object.{Object}
use Rattle.asyncio.specs.declared.Place.{Place}
use Rattle.asyncio.specs.declared.Moment.{Moment}
use Rattle.asyncio.specs.declared.Header.{Header}
use Rattle.asyncio.specs.declared.CoroutineState.{CoroutineState}
use Rattle.asyncio.specs.declared.ExternalFutureState.{ExternalFutureState}
use Rattle.asyncio.specs.declared.GatherState.{GatherState}
use Rattle.asyncio.specs.States.{pick, is_live}
use Rattle.asyncio.specs.Kinds.{kind, each_object}
use Rattle.asyncio.specs.Parts.{count_of}
use Rattle.asyncio.specs.Layout.{object_words, to_object, to_task, state_words, to_state}
use Rattle.asyncio.specs.Limits.{task_limit, object_limit, place_limit, objects_length, places_length}
use Rattle.asyncio.specs.Ranges.{TaskFits, ObjectFits, PlacesFit, PlaceFits, HeaderFits}
use Rattle.rows.specs.Tables.{task_codec, object_codec, task_start, object_start, task_at, task_put, object_at, object_put, place_at}
use Rattle.rows.specs.RowLaws.{row-put_at}
use Rattle.rows.specs.TableLaws.{length-task_put, length-object_put, length-place_put, length-header_put}
use Rattle.rows.specs.TableLaws.{task_at_put, task_at-other, task_at-fits, object_at_put, object_at-other, object_at-fits, object_at-header_put}
use Rattle.rows.specs.TableLaws.{place_at_put, place_at-other, place_at-fits, header_at_put, header_at-fits, header_at-object_put}
use Rattle.queue.specs.declared.ReadyQueue.{ReadyQueue}
use Rattle.queue.specs.Queue.{entries}
use Rattle.machine.specs.Store.{Store, LogEntry, view, task, put_task, object, put_object, place, put_place, header, put_header}
use Rattle.machine.specs.Store.{put_places, put_queue, add_log, forget, set_state, set_moment, set_next, set_calls, add_object}
use Rattle.machine_laws.specs.Views.{Sized, update, with_task, with_object, with_place, with_places, with_header, with_queue}

-- ---- each write keeps the lengths

pub sized-put_task : (s : Store) (t : ℕ) (r : Task) → Sized s → Sized (put_task s t r)
unfolding put_task
sized-put_task s t r z = record {
  tasks_sized = length-task_put s.tasks t r ∙ z.tasks_sized;
  objects_sized = z.objects_sized;
  places_sized = z.places_sized;
}

pub sized-put_object : (s : Store) (o : ℕ) (r : Object) → Sized s → Sized (put_object s o r)
unfolding put_object
sized-put_object s o r z = record {
  tasks_sized = z.tasks_sized;
  objects_sized = length-object_put s.objects o r ∙ z.objects_sized;
  places_sized = z.places_sized;
}

pub sized-put_place : (s : Store) (p : ℕ) (r : Place) → Sized s → Sized (put_place s p r)
unfolding put_place
sized-put_place s p r z = record {
  tasks_sized = z.tasks_sized;
  objects_sized = z.objects_sized;
  places_sized = length-place_put s.places p r ∙ z.places_sized;
}

pub sized-put_header : (s : Store) (h : Header) → Sized s → Sized (put_header s h)
unfolding put_header
sized-put_header s h z = record {
  tasks_sized = z.tasks_sized;
  objects_sized = length-header_put s.objects h ∙ z.objects_sized;
  places_sized = z.places_sized;
}

pub sized-put_places : (s : Store) (ps : List ℕ) → length ps ≡ places_length → Sized s → Sized (put_places s ps)
unfolding put_places
sized-put_places s ps e z = record { tasks_sized = z.tasks_sized; objects_sized = z.objects_sized; places_sized = e }

pub sized-put_queue : (s : Store) (q : ReadyQueue) → Sized s → Sized (put_queue s q)
unfolding put_queue
sized-put_queue s q z = record { tasks_sized = z.tasks_sized; objects_sized = z.objects_sized; places_sized = z.places_sized }

pub sized-add_log : (s : Store) (h : LogEntry) → Sized s → Sized (add_log s h)
unfolding add_log
sized-add_log s h z = record { tasks_sized = z.tasks_sized; objects_sized = z.objects_sized; places_sized = z.places_sized }

pub sized-forget : (s : Store) → Sized s → Sized (forget s)
unfolding forget
sized-forget s z = record { tasks_sized = z.tasks_sized; objects_sized = z.objects_sized; places_sized = z.places_sized }

pub sized-set_state : (s : Store) (t : ℕ) (x : TaskState) → Sized s → Sized (set_state s t x)
unfolding set_state
sized-set_state s t x z = sized-put_task s t _ z

pub sized-set_moment : (s : Store) (m : Moment) → Sized s → Sized (set_moment s m)
unfolding set_moment
sized-set_moment s m z = sized-put_header s _ z

pub sized-set_next : (s : Store) (n : ℕ) → Sized s → Sized (set_next s n)
unfolding set_next
sized-set_next s n z = sized-put_header s _ z

pub sized-set_calls : (s : Store) (n : ℕ) → Sized s → Sized (set_calls s n)
unfolding set_calls
sized-set_calls s n z = sized-put_header s _ z

pub sized-add_object : (s : Store) (r : Object) (n : ℕ) → Sized s → Sized (add_object s r n)
unfolding add_object
sized-add_object s r n z = sized-put_object _ (header s).made r (sized-put_header s _ z)

-- ---- what was put and fits is read back

pub task_put-task : (s : Store) (t : ℕ) (r : Task) → Sized s → t < task_limit → TaskFits r → task (put_task s t r) t ≡ r
unfolding task put_task
task_put-task s t r z l f = task_at_put s.tasks t r f (omega (arith, z.tasks_sized))

pub object_put-object : (s : Store) (o : ℕ) (r : Object) → Sized s → o < object_limit → ObjectFits r → object (put_object s o r) o ≡ r
unfolding object put_object
object_put-object s o r z l f = object_at_put s.objects o r f (omega (arith, z.objects_sized))

pub place_put-place : (s : Store) (p : ℕ) (r : Place) → Sized s → p < place_limit → PlaceFits r → place (put_place s p r) p ≡ r
unfolding place put_place
place_put-place s p r z l f = place_at_put s.places p r f (omega (arith, z.places_sized))

pub header_put-header : (s : Store) (h : Header) → Sized s → HeaderFits h → header (put_header s h) ≡ h
unfolding header put_header
header_put-header s h z f = header_at_put s.objects h f (omega (arith, z.objects_sized))

-- ---- of what was put the kind, and whether the task lives, is read back even where it does not fit

kind_back : (r : Object) → kind (to_object (object_words r)) ≡ kind r
unfolding kind
kind_back r =
    each_object (λ (r : Object). kind (to_object (object_words r)) ≡ kind r)
    refl (λ f. refl) (λ f. refl) (λ f. refl) (λ c a x. refl) (λ c v. refl) (λ c e. refl) (λ i n. refl) (λ i n a m. refl) (λ i n. refl)
    (λ i n e. refl) r

pub kind_at_put : (w : List ℕ) (o : ℕ) (r : Object) → length w ≡ objects_length → o < object_limit → kind (object_at (object_put w o r) o) ≡ kind r
unfolding object_at object_put
kind_at_put w o r z l = ap (λ (x : List ℕ). kind (to_object x)) (row-put_at object_codec w (object_start o) r (omega arith)) ∙ kind_back r

pub kind-put_object : (s : Store) (o : ℕ) (r : Object) → Sized s → o < object_limit → kind (object (put_object s o r) o) ≡ kind r
unfolding object put_object
kind-put_object s o r z l = kind_at_put s.objects o r z.objects_sized l

-- a gather's places are in range
abbrev pub PlacesOf : Object → Type 0
PlacesOf Object.Unmade = Unit {0}
PlacesOf (Object.Coroutine f x) = Unit {0}
PlacesOf (Object.ExternalFuture c x) = Unit {0}
PlacesOf (Object.GatherFuture i n x) = PlacesFit i n

count_back : (r : Object) → PlacesOf r → count_of (to_object (object_words r)) ≡ count_of r
unfolding count_of
count_back Object.Unmade f = refl
count_back (Object.Coroutine g CoroutineState.New) f = refl
count_back (Object.Coroutine g CoroutineState.Running) f = refl
count_back (Object.Coroutine g CoroutineState.Completed) f = refl
count_back (Object.ExternalFuture c (ExternalFutureState.Pending w x)) f = refl
count_back (Object.ExternalFuture c (ExternalFutureState.Resolved v)) f = refl
count_back (Object.ExternalFuture c (ExternalFutureState.Failed e)) f = refl
count_back (Object.GatherFuture i n GatherState.Pending) f = omega (arith, f.within, f.at_most)
count_back (Object.GatherFuture i n (GatherState.Awaited w m)) f = omega (arith, f.within, f.at_most)
count_back (Object.GatherFuture i n GatherState.Completed) f = omega (arith, f.within, f.at_most)
count_back (Object.GatherFuture i n (GatherState.Failed e)) f = omega (arith, f.within, f.at_most)

pub count-put_object : (s : Store) (o : ℕ) (r : Object) → Sized s → o < object_limit → PlacesOf r → count_of (object (put_object s o r) o) ≡ count_of r
unfolding object put_object object_at object_put
count-put_object s o r z l f =
    let w : length s.objects ≡ objects_length = z.objects_sized in
    ap (λ (x : List ℕ). count_of (to_object x)) (row-put_at object_codec s.objects (object_start o) r (omega arith)) ∙ count_back r f

live_back : (x : TaskState) → is_live (to_state (state_words x).0 (state_words x).1 (state_words x).2) ≡ is_live x
live_back TaskState.Absent = refl
live_back TaskState.Unstarted = refl
live_back TaskState.Running = refl
live_back (TaskState.Woken v) = refl
live_back (TaskState.Raised e) = refl
live_back (TaskState.Blocked o) = refl

pub live-put_task : (s : Store) (t : ℕ) (r : Task) → Sized s → t < task_limit → is_live (task (put_task s t r) t).state ≡ is_live r.state
unfolding task put_task task_at task_put
live-put_task s t r z l =
    ap (λ (x : List ℕ). is_live (to_task x).state) (row-put_at task_codec s.tasks (task_start t) r (omega (arith, z.tasks_sized)))
    ∙ live_back r.state

-- ---- other rows stay

pub task_put-other : (s : Store) (t u : ℕ) (r : Task) → (u ≡ t → ⊥) → task (put_task s t r) u ≡ task s u
unfolding task put_task
task_put-other s t u r ne = task_at-other s.tasks t u r ne

pub object_put-other : (s : Store) (o p : ℕ) (r : Object) → (p ≡ o → ⊥) → object (put_object s o r) p ≡ object s p
unfolding object put_object
object_put-other s o p r ne = object_at-other s.objects o p r ne

pub place_put-other : (s : Store) (p q : ℕ) (r : Place) → (q ≡ p → ⊥) → place (put_place s p r) q ≡ place s q
unfolding place put_place
place_put-other s p q r ne = place_at-other s.places p q r ne

pub object_put-header : (s : Store) (h : Header) (o : ℕ) → object (put_header s h) o ≡ object s o
unfolding object put_header
object_put-header s h o = object_at-header_put s.objects o h

pub header_put-object : (s : Store) (o : ℕ) (r : Object) → header (put_object s o r) ≡ header s
unfolding header put_object
header_put-object s o r = header_at-object_put s.objects o r

-- ---- whatever is read is in range

pub task-fits : (s : Store) (t : ℕ) → TaskFits (task s t)
unfolding task
task-fits s t = task_at-fits s.tasks t

pub object-fits : (s : Store) (o : ℕ) → ObjectFits (object s o)
unfolding object
object-fits s o = object_at-fits s.objects o

pub place-fits : (s : Store) (p : ℕ) → PlaceFits (place s p)
unfolding place
place-fits s p = place_at-fits s.places p

pub header-fits : (s : Store) → HeaderFits (header s)
unfolding header
header-fits s = header_at-fits s.objects

-- ---- an updated table

module _ {R : Type 0} (f : ℕ → R) (i : ℕ) (r : R) where
  pub update_same : update f i r i ≡ r
  unfolding update
  update_same = rw (eq-eqb i i refl)

  pub update_other : (j : ℕ) → (j ≡ i → ⊥) → update f i r j ≡ f j
  unfolding update
  update_other j ne = rw (ne_eqb i j (λ e. ne (sym e)))

  -- what holds of the new row at i and of the old ones elsewhere holds of every row
  pub update_case : (P : R → Type 0) (j : ℕ) → (j ≡ i → P r) → ((j ≡ i → ⊥) → P (f j)) → P (update f i r j)
  unfolding update
  update_case P j here there = by (eqb i j) refl
    where
      by : (b : Bool) → eqb i j ≡ b → P (pick b r (f j))
      by true e = here (sym (eqb-true i j e))
      by false e = there (λ q. eqb-false i j e (sym q))

-- a table that has the new row at i and the old ones elsewhere is the table updated
updated : {R : Type 0} (f g : ℕ → R) (i : ℕ) (r : R) → g i ≡ r → ((j : ℕ) → (j ≡ i → ⊥) → g j ≡ f j) → (j : ℕ) → g j ≡ update f i r j
updated f g i r e d j = update_case f i r (λ x. g j ≡ x) j (λ q. ap g q ∙ e) (d j)

-- ---- each write changes one row of the view

pub view-put_task : (s : Store) (t : ℕ) (r : Task) → Sized s → t < task_limit → TaskFits r → view (put_task s t r) ≡ with_task (view s) t r
unfolding view with_task object place header put_task
view-put_task s t r z l f = λ i. record {
  tasks = λ u. updated (λ j. task s j) (λ j. task (put_task s t r) j) t r (task_put-task s t r z l f) (λ j ne. task_put-other s t j r ne) u i;
  objects = λ o. object s o;
  places = λ p. place s p;
  header = header s;
  queue = entries s.queue;
}

pub view-put_object : (s : Store) (o : ℕ) (r : Object) → Sized s → o < object_limit → ObjectFits r → view (put_object s o r) ≡ with_object (view s) o r
unfolding view with_object task place put_object
view-put_object s o r z l f = λ i. record {
  tasks = λ t. task s t;
  objects = λ p. updated (λ j. object s j) (λ j. object (put_object s o r) j) o r (object_put-object s o r z l f) (λ j ne. object_put-other s o j r ne) p i;
  places = λ p. place s p;
  header = header_put-object s o r i;
  queue = entries s.queue;
}

pub view-put_place : (s : Store) (p : ℕ) (r : Place) → Sized s → p < place_limit → PlaceFits r → view (put_place s p r) ≡ with_place (view s) p r
unfolding view with_place task object header put_place
view-put_place s p r z l f = λ i. record {
  tasks = λ t. task s t;
  objects = λ o. object s o;
  places = λ q. updated (λ j. place s j) (λ j. place (put_place s p r) j) p r (place_put-place s p r z l f) (λ j ne. place_put-other s p j r ne) q i;
  header = header s;
  queue = entries s.queue;
}

pub view-put_header : (s : Store) (h : Header) → Sized s → HeaderFits h → view (put_header s h) ≡ with_header (view s) h
unfolding view with_header task place put_header
view-put_header s h z f = λ i. record {
  tasks = λ t. task s t;
  objects = λ o. object_put-header s h o i;
  places = λ p. place s p;
  header = header_put-header s h z f i;
  queue = entries s.queue;
}

pub view-put_places : (s : Store) (ps : List ℕ) → view (put_places s ps) ≡ with_places (view s) (λ p. place_at ps p)
unfolding view with_places task object place header put_places
view-put_places s ps = refl

pub view-put_queue : (s : Store) (q : ReadyQueue) → view (put_queue s q) ≡ with_queue (view s) (entries q)
unfolding view with_queue task object place header put_queue
view-put_queue s q = refl

-- what has happened is no part of the view
pub view-add_log : (s : Store) (h : LogEntry) → view (add_log s h) ≡ view s
unfolding view task object place header add_log
view-add_log s h = refl

pub view-forget : (s : Store) → view (forget s) ≡ view s
unfolding view task object place header forget
view-forget s = refl
