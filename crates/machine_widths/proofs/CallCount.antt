-- The count of calls handed out: an event that hands out none keeps it (an instance of the walk over the machine), and one that does counts one more.
use Rattle.std.specs.Prelude.{◌≡◌, refl, List, ℕ, ◌+◌, ◌%◌, ◌≤◌, ◌<◌, length}
use Rattle.std.proofs.Common.{ap, ◌∙◌, mod-eq_of_lt, arith}
use Rattle.asyncio.specs.Limits.{call_limit, places_length}
use Rattle.asyncio.specs.declared.Object.{Object}
use Rattle.asyncio.specs.declared.Header.{Header}
use Rattle.asyncio.specs.declared.Moment.{Moment}
use Rattle.asyncio.specs.declared.Place.{Place}
use Rattle.asyncio.specs.declared.Task.{Task}
use Rattle.asyncio.specs.declared.TaskState.{TaskState}
use Rattle.asyncio.specs.Layout.{to_header}
use Rattle.rows.specs.RowLaws.{row-put_at}
use Rattle.rows.specs.Tables.{header_codec, header_at, header_put}
use Rattle.queue.specs.declared.ReadyQueue.{ReadyQueue}
use Rattle.machine.specs.Store.{Store, LogEntry, header, put_header, put_object, put_task, put_place, put_places, put_queue, add_log, set_state, set_moment, set_next, set_calls, add_object, absent, spawned, blocked, reached, exited, removed}
use Rattle.machine.specs.Scheduler.{push_ready, remove_from_ready_queue, make_ready, spawn_as, remove_task}
use Rattle.machine.specs.Events.{make_settled}
use Rattle.machine.specs.Machine.{Event, refusals, first_refusal, accept}
use Rattle.machine_laws.specs.Views.{Sized}
use Rattle.machine_laws.specs.StoreLaws.{sized-put_task, sized-put_object, sized-put_place, sized-put_header, sized-put_places, sized-put_queue, sized-add_log, header-fits, header_put-object}
use Rattle.machine_laws.specs.WalkEvents.{Writes, HandsOut, accept-kept}
use Rattle.machine_widths.specs.CallCount.{Calls}

-- ---- each write

-- a header that is written gives its calls back
header_calls : (s : Store) (h : Header) → Sized s → (header (put_header s h)).calls ≡ h.calls % (call_limit + 1)
unfolding header put_header header_at header_put
header_calls s h z = ap (λ (w : List ℕ). (to_header w).calls) (row-put_at header_codec s.objects 0 h (omega (arith, z.objects_sized)))

pub header_counts : (s : Store) (h : Header) (k : ℕ) → h.calls ≡ k → k ≤ call_limit → Sized s → Calls k (put_header s h)
header_counts s h k e l z = record { sized = sized-put_header s h z; count = header_calls s h z ∙ (rw e (mod-eq_of_lt (omega arith))) }

module _ (k : ℕ) where
  fit : (s : Store) → Calls k s → k ≤ call_limit
  fit s c = omega (arith, c.count, (header-fits s).calls_fit)

  task-counts : (s : Store) (t : ℕ) (r : Task) → Calls k s → Calls k (put_task s t r)
  unfolding put_task
  task-counts s t r c = record { sized = sized-put_task s t r c.sized; count = unfold header in c.count }

  state-counts : (s : Store) (t : ℕ) (x : TaskState) → Calls k s → Calls k (set_state s t x)
  unfolding set_state
  state-counts s t x c = task-counts s t _ c

  object-counts : (s : Store) (o : ℕ) (x : Object) → Calls k s → Calls k (put_object s o x)
  object-counts s o x c = record { sized = sized-put_object s o x c.sized; count = ap (λ (h : Header). h.calls) (header_put-object s o x) ∙ c.count }

  place-counts : (s : Store) (p : ℕ) (x : Place) → Calls k s → Calls k (put_place s p x)
  unfolding put_place
  place-counts s p x c = record { sized = sized-put_place s p x c.sized; count = unfold header in c.count }

  places_count : (s : Store) (ps : List ℕ) → length ps ≡ places_length → Calls k s → Calls k (put_places s ps)
  unfolding put_places
  places_count s ps e c = record { sized = sized-put_places s ps e c.sized; count = unfold header in c.count }

  queue-counts : (s : Store) (q : ReadyQueue) → Calls k s → Calls k (put_queue s q)
  unfolding put_queue
  queue-counts s q c = record { sized = sized-put_queue s q c.sized; count = unfold header in c.count }

  log-counts : (s : Store) (x : LogEntry) → Calls k s → Calls k (add_log s x)
  unfolding add_log
  log-counts s x c = record { sized = sized-add_log s x c.sized; count = unfold header in c.count }

  moment-counts : (s : Store) (m : Moment) → Calls k s → Calls k (set_moment s m)
  unfolding set_moment
  moment-counts s m c = header_counts s _ k c.count (fit s c) c.sized

  next-counts : (s : Store) (n : ℕ) → Calls k s → Calls k (set_next s n)
  unfolding set_next
  next-counts s n c = header_counts s _ k c.count (fit s c) c.sized

  add-counts : (s : Store) (x : Object) (n : ℕ) → Calls k s → Calls k (add_object s x n)
  unfolding add_object
  add-counts s x n c = object-counts _ (header s).made x (header_counts s _ k c.count (fit s c) c.sized)

  ready-counts : (s : Store) (t : ℕ) (x : TaskState) → Calls k s → Calls k (make_ready s t x)
  unfolding make_ready push_ready
  ready-counts s t x c = queue-counts _ _ (state-counts s t x c)

  remove-counts : (s : Store) (t : ℕ) → Calls k s → Calls k (remove_task s t)
  unfolding remove_task remove_from_ready_queue
  remove-counts s t c = queue-counts _ _ (task-counts s t absent c)

  spawn-counts : (s : Store) (t c g : ℕ) → Calls k s → Calls k (spawn_as s t c g)
  unfolding spawn_as push_ready
  spawn-counts s t c g x = log-counts _ (spawned t c) (queue-counts _ _ (next-counts _ (t + 1) (task-counts s t _ x)))

  counts : Writes (Calls k)
  counts = record {
    commits = record {
      row = λ s o x l q c. object-counts s o x c;
      value_put = λ s p v c. place-counts s p _ c;
      spawns = λ s c g l x. spawn-counts s _ c g x;
    };
    closed = record {
      sized = λ s c. c.sized;
      row = λ s o x l q c. object-counts s o x c;
      values_put = λ s ps e c. places_count s ps e c;
      queued = λ s q c. queue-counts s q c;
      moved = λ s m f c. moment-counts s m c;
      wakes = λ s t x l b r c. log-counts _ (reached t) (ready-counts s t x c);
      runs_on = λ s t l r c. state-counts s t TaskState.Running c;
      exits = λ s t c. log-counts _ (exited t) (remove-counts s t c);
      goes = λ s t c. log-counts _ (removed t) (remove-counts s t c);
      ends = λ s t c. log-counts _ (removed t) (task-counts s t absent c);
    };
    blocks = λ s t o l c. log-counts _ (blocked t) (state-counts s t _ c);
    settles = λ s o p y l e c. object-counts s o _ c;
    completes = λ s o l c. object-counts s o _ c;
    adds = λ s x n c. add-counts s x n c;
    names = λ s p o c. place-counts s p _ c;
  }

-- ---- each event

-- An event that hands out no number keeps the count.
pub calls_stay : (s : Store) (e : Event) → (HandsOut e → ⊥) → first_refusal (refusals s e) ≡ 0 → Sized s → (header (accept s e).store).calls ≡ (header s).calls
calls_stay s e n r z = (accept-kept (Calls (header s).calls) (counts (header s).calls) s e (λ x. absurd (n x)) r (record { sized = z; count = refl })).count

-- One that does counts one more.
pub calls_next : (s : Store) (e : Event) → HandsOut e → Sized s → (header s).calls < call_limit → (header (accept s e).store).calls ≡ (header s).calls + 1
unfolding HandsOut accept make_settled set_calls
calls_next s Event.call o z l = (header_counts s _ ((header s).calls + 1) refl (omega (arith, l)) z).count
calls_next s (Event.settled v) o z l = (add-counts ((header s).calls + 1) _ _ 0 (header_counts s _ ((header s).calls + 1) refl (omega (arith, l)) z)).count
calls_next s (Event.coroutine f) o z l = absurd o
calls_next s (Event.pending c x) o z l = absurd o
calls_next s (Event.gather os) o z l = absurd o
calls_next s (Event.await x) o z l = absurd o
calls_next s (Event.complete v) o z l = absurd o
calls_next s (Event.fail n) o z l = absurd o
calls_next s (Event.results rs) o z l = absurd o
calls_next s Event.resume o z l = absurd o
calls_next s (Event.cancel t) o z l = absurd o
calls_next s (Event.show x) o z l = absurd o
calls_next s Event.eager o z l = absurd o
