-- A store in the midst of an event: its words, its view, and what each write of a row keeps of both.
use Rattle.std.specs.Prelude.{◌≡◌, refl, Bool, false, ℕ, ◌≤◌, ◌<◌, length}
use Rattle.std.proofs.Math.Path.{ap, subst}
use Rattle.std.proofs.Common.{sym, ◌∙◌, le_refl, arith}
use Rattle.std.proofs.Math.Dec.{T}
use Rattle.asyncio.specs.declared.Task.{Task}
use Rattle.asyncio.specs.declared.Object.{Object}
use Rattle.asyncio.specs.declared.Place.{Place}
use Rattle.asyncio.specs.declared.Header.{Header}
use Rattle.asyncio.specs.declared.Moment.{Moment}
use Rattle.asyncio.specs.Limits.{task_limit, object_limit}
use Rattle.asyncio.specs.Ranges.{TaskFits, ObjectFits, PlaceFits, MomentFits}
use Rattle.asyncio.specs.States.{is_running}
use Rattle.asyncio.specs.Kinds.{kind, is_completed}
use Rattle.queue.specs.declared.ReadyQueue.{ReadyQueue}
use Rattle.queue.specs.Queue.{entries}
use Rattle.machine.specs.Store.{Store, View, view, task, object, place, header, put_task, put_object, put_place, put_header, put_queue, add_log, set_moment, LogEntry}
use Rattle.machine.specs.Sound.{is_ended, runs_now, runner_in_range, sound}
use Rattle.machine_laws.specs.Views.{Sized, update, with_task, with_object, with_place, with_places, with_header, with_queue}
use Rattle.machine_laws.specs.Facts.{SoundBut, Nothing, SoundFacts, WordsInRange}
use Rattle.machine_laws.specs.TestLaws.{both, both_left}
use Rattle.machine_laws.specs.StoreLaws.{update_case, sized-put_task, sized-put_header, sized-put_queue, sized-add_log, header_put-header, header_put-object}
use Rattle.machine_laws.specs.StoreLaws.{view-put_task, view-put_object, view-put_place, view-put_header, view-put_queue, view-add_log}
use Rattle.machine_laws.specs.WordLaws.{words_facts, words_test, words_put_task, words_put_header, words_put_queue, words_add_log}
use Rattle.machine_laws.specs.FactLaws.{to_test}
use Rattle.machine_laws.specs.MakingLaws.{called_at, header_keeps}
use Rattle.machine_laws.specs.SoundLaws.{sound_facts}
use Rattle.machine_theorems.specs.Soundness.Memory.{Memory, memory_object, memory_place}
use Rattle.machine_theorems.specs.Soundness.ReadyTasks.{Queued}
use Rattle.machine_theorems.specs.Soundness.PutObject.{Fits, object_keeps}
use Rattle.machine_theorems.specs.Soundness.PutTask.{with_task_queue, TaskWrite, task_keeps, queue_keeps, PlacesWrite, places-keep}

-- the memory is of its lengths, the rows in use are canonical, and the view is sound but for what k, P and Q except
pub record Kept (k : ℕ) (P Q : ℕ → Type 0) (s : Store) : Type 0 where
  pub memory : Memory s
  pub but : SoundBut k P Q (view s)

-- which tasks run
abbrev pub Runs : (ℕ → Bool) → View → Type 0
Runs r v = (t : ℕ) → t < v.header.next → is_running (v.tasks t).state ≡ r t

-- no task does
abbrev pub idle : ℕ → Bool
idle t = false

-- In the midst of a delivery or of a switch: sound but for P, who runs, which gathers (at least) are completed, and the header.
pub record SoundDuring (P : ℕ → Type 0) (r : ℕ → Bool) (D : ℕ → Type 0) (h : Header) (s : Store) : Type 0 where
  pub kept : Kept 0 P Nothing s
  pub runs : Runs r (view s)
  pub done : (o : ℕ) → D o → T (is_completed (kind (object s o)))
  pub head : header s ≡ h

-- A sound store, whose memory is of its lengths.
pub record SoundStore (s : Store) : Type 0 where
  pub memory : Memory s
  pub facts : SoundFacts (view s)

pub sound-store_of : (s : Store) → Sized s → length s.queue.ids ≡ task_limit → T (sound s) → SoundStore s
unfolding sound
sound-store_of s z i h = record { memory = record { sized = z; ids = i; words_right = words_facts s (both_left _ _ h) }; facts = sound_facts s h }

pub sound_store_sound : (s : Store) → SoundStore s → T (sound s)
unfolding sound
sound_store_sound s h = both _ _ (words_test s h.memory.words_right) (to_test (view s) h.facts)

-- ---- each write

module _ {k : ℕ} {P Q : ℕ → Type 0} (s : Store) (h : Kept k P Q s) where
  pub object-kept : {l : ℕ} {P' Q' : ℕ → Type 0} (o : ℕ) (x : Object) → ObjectFits x → Fits k l P Q P' Q' (view s) o x → Kept l P' Q' (put_object s o x)
  unfolding view
  object-kept {l} {P'} {Q'} o x f ft =
      let low : o < object_limit = omega (arith, ft.made, h.but.fits.made_fits) in
      record {
        memory = memory_object s o x ft.made f h.memory;
        but = subst (SoundBut l P' Q') (sym (view-put_object s o x h.memory.sized low f)) (object_keeps k l P Q P' Q' (view s) o x ft h.but);
      }

  pub view_task_queue : (t : ℕ) (r : Task) (q : ReadyQueue) → t < task_limit → TaskFits r
      → view (put_queue (put_task s t r) q) ≡ with_task_queue (view s) t r (entries q)
  unfolding with_task_queue with_task with_queue
  view_task_queue t r q low f = view-put_queue (put_task s t r) q ∙ ap (λ (v : View). with_queue v (entries q)) (view-put_task s t r h.memory.sized low f)

  pub task-kept : {P' Q' : ℕ → Type 0} (t : ℕ) (r : Task) (q : ReadyQueue) → t < (header s).next → TaskFits r → q.len ≤ task_limit → length q.ids ≡ task_limit
      → TaskWrite P Q P' Q' (view s) t r (entries q) → Kept k P' Q' (put_queue (put_task s t r) q)
  task-kept {P'} {Q'} t r q low f len ids ft =
      let room : t < task_limit = unfold view in (omega (arith, low, h.but.fits.next_fits)) in
      record {
        memory = record {
          sized = sized-put_queue (put_task s t r) q (sized-put_task s t r h.memory.sized);
          ids = unfold put_queue in ids;
          words_right = unfold header put_queue put_task in
              (words_put_queue (header s).next (header s).made (header s).used (put_task s t r) (sized-put_task s t r h.memory.sized)
              (words_put_task _ _ _ s h.memory.sized h.memory.words_right (header s).next t r room f (λ u m ne. m)) q len);
        };
        but = subst (SoundBut k P' Q') (sym (view_task_queue t r q room f)) (task_keeps k P Q P' Q' (view s) t r (entries q) ft h.but);
      }

  pub queue_kept : (q : ReadyQueue) → q.len ≤ task_limit → length q.ids ≡ task_limit
      → (Queued (header s).next (task s) (entries s.queue) → Queued (header s).next (task s) (entries q)) → Kept k P Q (put_queue s q)
  queue_kept q len ids f =
      record {
        memory = record {
          sized = sized-put_queue s q h.memory.sized;
          ids = unfold put_queue in ids;
          words_right = unfold header put_queue in (words_put_queue (header s).next (header s).made (header s).used s h.memory.sized h.memory.words_right q len);
        };
        but = subst (SoundBut k P Q) (sym (view-put_queue s q)) (unfold view in (queue_keeps (entries q) f h.but));
      }

  pub place_kept : (p : ℕ) (r : Place) → p < (header s).used → PlaceFits r → PlacesWrite (view s) (update (place s) p r) → Kept k P Q (put_place s p r)
  place_kept p r low f ft =
      let room : p < 512 = unfold view in (omega (arith, low, h.but.fits.used_fits)) in
      record {
        memory = memory_place s p r low f h.memory;
        but = subst (SoundBut k P Q) (sym (view-put_place s p r h.memory.sized room f)) (unfold with_place with_places view in (places-keep (view s) (update (place s) p r) ft h.but));
      }

  pub add_log-kept : (x : LogEntry) → Kept k P Q (add_log s x)
  add_log-kept x =
      record {
        memory = record {
          sized = sized-add_log s x h.memory.sized;
          ids = unfold add_log in h.memory.ids;
          words_right = unfold header add_log in (words_add_log (header s).next (header s).made (header s).used s h.memory.sized h.memory.words_right x);
        };
        but = subst (SoundBut k P Q) (sym (view-add_log s x)) h.but;
      }

-- ---- each write, in the midst of an event

module _ {P : ℕ → Type 0} {r : ℕ → Bool} {D : ℕ → Type 0} {hd : Header} (s : Store) (h : SoundDuring P r D hd s) where
  pub object-during : {P' : ℕ → Type 0} (o : ℕ) (x : Object) → ObjectFits x → Fits 0 0 P Nothing P' Nothing (view s) o x → SoundDuring P' r D hd (put_object s o x)
  unfolding view
  object-during {P'} o x f ft =
      record {
        kept = object-kept s h.kept o x f ft;
        runs = subst (Runs r) (sym same) (unfold with_object in h.runs);
        done = λ p d. subst (λ (v : View). T (is_completed (kind (v.objects p)))) (sym same) (unfold with_object in (more-done p (h.done p d)));
        head = header_put-object s o x ∙ h.head;
      }
    where
      same : view (put_object s o x) ≡ with_object (view s) o x
      same = view-put_object s o x h.kept.memory.sized (omega (arith, ft.made, h.kept.but.fits.made_fits)) f

      more-done : (p : ℕ) → T (is_completed (kind (object s p))) → T (is_completed (kind (update (object s) o x p)))
      more-done p t = update_case (object s) o x (λ (y : Object). T (is_completed (kind y))) p
          (λ q. ft.completed (subst (λ (m : ℕ). T (is_completed (kind (object s m)))) q t)) (λ d. t)

  pub task-during : {P' : ℕ → Type 0} {z : ℕ → Bool} (t : ℕ) (x : Task) (q : ReadyQueue) → t < (header s).next → TaskFits x → q.len ≤ task_limit → length q.ids ≡ task_limit
      → TaskWrite P Nothing P' Nothing (view s) t x (entries q) → Runs z (with_task_queue (view s) t x (entries q)) → SoundDuring P' z D hd (put_queue (put_task s t x) q)
  task-during {P'} {z} t x q low f len ids ft rn =
      record {
        kept = task-kept s h.kept t x q low f len ids ft;
        runs = subst (Runs z) (sym (view_task_queue s h.kept t x q (unfold view in (omega (arith, low, h.kept.but.fits.next_fits))) f)) rn;
        done = λ p d. unfold object put_queue put_task in (h.done p d);
        head = unfold header put_queue put_task in h.head;
      }

  pub queue_during : (q : ReadyQueue) → q.len ≤ task_limit → length q.ids ≡ task_limit
      → (Queued (header s).next (task s) (entries s.queue) → Queued (header s).next (task s) (entries q)) → SoundDuring P r D hd (put_queue s q)
  queue_during q len ids f =
      record {
        kept = queue_kept s h.kept q len ids f;
        runs = unfold view task header put_queue in h.runs;
        done = λ p d. unfold object put_queue in (h.done p d);
        head = unfold header put_queue in h.head;
      }

  pub place-during : (p : ℕ) (x : Place) → p < (header s).used → PlaceFits x → PlacesWrite (view s) (update (place s) p x) → SoundDuring P r D hd (put_place s p x)
  place-during p x low f ft =
      record {
        kept = place_kept s h.kept p x low f ft;
        runs = unfold view task header put_place in h.runs;
        done = λ o d. unfold object put_place in (h.done o d);
        head = unfold header put_place in h.head;
      }

  pub add_log-during : (x : LogEntry) → SoundDuring P r D hd (add_log s x)
  add_log-during x =
      record {
        kept = add_log-kept s h.kept x;
        runs = unfold view task header add_log in h.runs;
        done = λ o d. unfold object add_log in (h.done o d);
        head = unfold header add_log in h.head;
      }

-- ---- from a sound store, and back to one

pub during_of : (s : Store) → SoundStore s → SoundDuring Nothing (runs_now (header s).moment) (λ o. T (is_completed (kind (object s o)))) (header s) s
during_of s h =
    record {
      kept = record { memory = h.memory; but = h.facts.but };
      runs = unfold view in h.facts.runs;
      done = λ o d. d;
      head = refl;
    }

pub sound_store_during : {D : ℕ → Type 0} {hd : Header} (s : Store) → T (runner_in_range hd.next hd.moment) → SoundDuring Nothing (runs_now hd.moment) D hd s → SoundStore s
unfolding view
sound_store_during {D} {hd} s k h =
    record {
      memory = h.kept.memory;
      facts = record {
        but = h.kept.but;
        runner = subst (λ (y : Header). T (runner_in_range y.next y.moment)) (sym h.head) k;
        runs = λ t l. h.runs t l ∙ ap (λ (y : Header). runs_now y.moment t) (sym h.head);
      };
    }

-- the moment is written
pub moment_sound_store : {D : ℕ → Type 0} {hd : Header} (s : Store) (m : Moment) → MomentFits m → T (runner_in_range hd.next m)
    → (is_ended m ≡ false → is_ended hd.moment ≡ false) → SoundDuring Nothing (runs_now m) D hd s → SoundStore (set_moment s m)
unfolding set_moment view with_header
moment_sound_store {D} {hd} s m f k e h =
    record {
      memory = record {
        sized = sized-put_header s i z;
        ids = unfold put_header in h.kept.memory.ids;
        words_right = subst (λ (y : Header). WordsInRange y.next y.made y.used (put_header s i)) (sym (header_put-header s i z but.fits))
            (words_put_header _ _ _ s z h.kept.memory.words_right i but.fits);
      };
      facts = subst SoundFacts (sym (view-put_header s i z but.fits))
          (record { but = but; runner = subst (λ (y : Header). T (runner_in_range y.next m)) (sym h.head) k; runs = h.runs });
    }
  where
    z : Sized s
    z = h.kept.memory.sized

    i : Header
    i = called_at (header s) (header s).calls m

    but : SoundBut 0 Nothing Nothing (with_header (view s) i)
    but =
        header_keeps 0 Nothing Nothing (view s) (header s).calls m (le_refl _) h.kept.but.fits.calls_fit f
        (λ y. ap (λ (x : Header). is_ended x.moment) h.head ∙ e y) h.kept.but
