-- The whole of soundness in four parts, as the code asks them: the rows in use and the queue's count; clauses 1 to 4; 5 to 8; 9 to 11.
use Rattle.std.specs.Prelude.{◌≡◌, refl, Bool, true, false, List, ℕ, ◌<◌, leb}
use Rattle.std.proofs.Common.{sym, ◌∙◌}
use Rattle.std.proofs.Math.Path.{ap}
use Rattle.std.proofs.lemmas.Bool.{lt-leb}
use Rattle.asyncio.specs.Limits.{task_limit}
use Rattle.asyncio.specs.declared.Header.{Header}
use Rattle.asyncio.specs.declared.Object.{Object}
use Rattle.asyncio.specs.declared.Place.{Place}
use Rattle.asyncio.specs.declared.Task.{Task}
use Rattle.rows.specs.Canonical.{task_canonical, object_canonical, place_canonical, header_canonical}
use Rattle.rows.specs.Tables.{task_at, object_at, place_at, header_at}
use Rattle.queue.specs.Queue.{entries}
use Rattle.queue.specs.declared.ReadyQueue.{ReadyQueue}
use Rattle.machine.specs.Tests.{◌and◌, all_below}
use Rattle.machine.specs.Store.{LogEntry, store_of, task, object, place, header, view}
use Rattle.machine.specs.Sound.{words_in_range, numbers_in_range, spawned_in_range, items_lower, lists_completed, queue_ready, calls_distinct, one_task, blocked_match, places_filled, slots_open, one_runs, sound_view, sound}
use Rattle.sound_words.specs.Loops.{stop}

-- every row in use is canonical, for the header h
unfoldable pub rows_canonical : Header → List ℕ → List ℕ → List ℕ → Bool
rows_canonical h ts os ps =
    header_canonical os and
    all_below h.next (λ t. task_canonical ts t) and
    all_below h.made (λ o. object_canonical os o) and
    all_below h.used (λ p. place_canonical ps p)

-- clauses 1 to 4
unfoldable pub tables_sound : Header → (ℕ → Object) → (ℕ → Task) → (ℕ → Place) → Bool
tables_sound h os ts ps = numbers_in_range h os ts and spawned_in_range h os and items_lower h.made os ps and lists_completed h os ts ps

-- clauses 5 to 8
unfoldable pub tasks_sound : Header → (ℕ → Object) → (ℕ → Task) → List ℕ → Bool
tasks_sound h os ts q = queue_ready h.next ts q and calls_distinct h os and one_task h.next ts and blocked_match h os ts

-- clauses 9 to 11
unfoldable pub gathers_sound : Header → (ℕ → Object) → (ℕ → Task) → (ℕ → Place) → Bool
gathers_sound h os ts ps = places_filled h.made os ps and slots_open h os ts ps and one_runs h ts

-- ---- the parts are the whole

four : (a b c d x : Bool) → a and b and c and d and x ≡ (a and b and c and d) and x
unfolding ◌and◌
four false b c d x = refl
four true false c d x = refl
four true true false d x = refl
four true true true d x = refl

front : (a b x : Bool) → (a and b) and x ≡ b and a and x
unfolding ◌and◌
front true b x = refl
front false true x = refl
front false false x = refl

module _ (ts os ps : List ℕ) (q : ReadyQueue) (l : List LogEntry) where
  abbrev h : Header
  h = header_at os

  words-by : words_in_range (store_of ts os ps q l) ≡ rows_canonical h ts os ps and leb q.len task_limit
  unfolding words_in_range rows_canonical header
  words-by =
      four (header_canonical os) (all_below h.next (λ t. task_canonical ts t)) (all_below h.made (λ o. object_canonical os o))
      (all_below h.used (λ p. place_canonical ps p)) (leb q.len task_limit)

  view_by : sound_view (view (store_of ts os ps q l))
      ≡ tables_sound h (object_at os) (task_at ts) (place_at ps) and tasks_sound h (object_at os) (task_at ts) (entries q) and gathers_sound h (object_at os) (task_at ts) (place_at ps)
  unfolding sound_view view header task object place tables_sound tasks_sound gathers_sound
  view_by =
      four (numbers_in_range h (object_at os) (task_at ts)) (spawned_in_range h (object_at os)) (items_lower h.made (object_at os) (place_at ps))
      (lists_completed h (object_at os) (task_at ts) (place_at ps)) _
      ∙ ap (λ (b : Bool). tables_sound h (object_at os) (task_at ts) (place_at ps) and b)
      (four (queue_ready h.next (task_at ts) (entries q)) (calls_distinct h (object_at os)) (one_task h.next (task_at ts))
      (blocked_match h (object_at os) (task_at ts)) (gathers_sound h (object_at os) (task_at ts) (place_at ps)))

  pub sound_by : sound (store_of ts os ps q l)
      ≡ leb q.len task_limit and rows_canonical h ts os ps and tables_sound h (object_at os) (task_at ts) (place_at ps)
      and tasks_sound h (object_at os) (task_at ts) (entries q) and gathers_sound h (object_at os) (task_at ts) (place_at ps)
  unfolding sound
  sound_by = rw (words-by, view_by) (front (rows_canonical h ts os ps) (leb q.len task_limit) _)

-- ---- the code's early exit

pub sound_long : (ts os ps : List ℕ) (q : ReadyQueue) (l : List LogEntry) → task_limit < q.len → false ≡ sound (store_of ts os ps q l)
sound_long ts os ps q l h = rw (sound_by ts os ps q l) (stop _ (sym (lt-leb q.len task_limit h)))
