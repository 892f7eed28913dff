-- What a cancel takes out of the ready queue (document 02, No. 8): of every sound store, lent ones too.
use Rattle.std.specs.Prelude.{◌≡◌, Bool, ◌&&◌, ℕ, ◌+◌, ◌-◌, ◌≤◌, ◌<◌}
use Rattle.std.proofs.Math.Path.{refl, ap}
use Rattle.std.proofs.Common.{sym, subst, ◌∙◌, arith, lt-ltb}
use Rattle.std.proofs.Math.Bool.{true, false, not}
use mathlib.Core.List.{List}
use Rattle.std.proofs.Math.ListN.{length}
use Rattle.asyncio.specs.declared.Header.{Header}
use Rattle.asyncio.specs.Limits.{task_limit}
use Rattle.asyncio.specs.States.{is_live, is_ready}
use Rattle.queue.specs.Queue.{entries, occurrences}
use Rattle.queue.proofs.QueueLaws.{length-entries}
use Rattle.machine.specs.Tests.{count, is_in}
use Rattle.machine.specs.Store.{Store, task, header, forget}
use Rattle.machine.specs.Scheduler.{live, cancel_task}
use Rattle.machine.specs.Machine.{Event, Answer, Step, entries_lost, accept, refusal, step}
use Rattle.machine_laws.specs.Views.{Sized}
use Rattle.machine_laws.specs.TestLaws.{is_true}
use Rattle.machine_laws.specs.CountLaws.{count_same}
use Rattle.machine_laws.specs.StoreLaws.{header-fits}
use Rattle.machine_laws.specs.MachineLaws.{accepted-step}
use Rattle.machine_laws.specs.SoundLaws.{refusal-forget, refusal-sound}
use Rattle.machine_theorems.specs.Soundness.ReadyTasks.{Queued}
use Rattle.machine_theorems.specs.Soundness.RowFacts.{ready-live}
use Rattle.machine_theorems.specs.Soundness.Stores.{SoundStore, sound-store_of}
use Rattle.machine_theorems.specs.Soundness.Sessions.{forget_sound_store}
use Rattle.machine_sessions.specs.Queue.Tracked.{live-is}
use Rattle.machine_sessions.specs.Queue.Following.{stands_there}
use Rattle.machine_sessions.specs.Removals.Left.{sound_queue}
use Rattle.machine_sessions.specs.Removals.Keep.{keep, keep_same, keep_lengths, keep-count}
use Rattle.machine_sessions.specs.Stall.Cancelled.{Removes, cancel_passes, cancel_removes, head-same}

-- ---- the words

-- task v is removed on the way from s to u
unfoldable pub removed_between : Store → Store → ℕ → Bool
removed_between s u v = live s v && not (live u v)

-- task v stands in the ready queue
unfoldable pub is_queued : Store → ℕ → Bool
is_queued s v = is_in v (entries s.queue)

-- What an accepted cancel answers and does to the queue: the answer is how many of the removed tasks stood in the queue before, and those of the queue that
-- still live stand there in their former order, and nobody else.
pub record CancelLeaves (s : Store) (x : Step) : Type 0 where
  pub answer : x.answer ≡ Answer.cancelled (count (λ v. is_queued s v && removed_between s x.store v) task_limit)
  pub order : entries x.store.queue ≡ keep (live x.store) (entries s.queue)

-- ---- the theorem

-- who stands in the queue of a sound store is live
pub queued-live : (s : Store) → SoundStore s → (v : ℕ) → 1 ≤ occurrences (entries s.queue) v → live s v ≡ true
queued-live s w v o = let q = sound_queue s w in live-is s v (q.ready v o).0 (ready-live (task s v).state (is_true (is_ready (task s v).state) (q.ready v o).1))

module _ (s : Store) (t : ℕ) (w : SoundStore s) (r : refusal s (Event.cancel t) ≡ 0) where
  abbrev u : Store
  u = cancel_task s t

  rm : Removes s u
  rm = cancel_removes s t w (cancel_passes s t w r)

  q : Queued (header s).next (task s) (entries s.queue)
  q = sound_queue s w

  row-live : (v : ℕ) → 1 ≤ occurrences (entries s.queue) v → is_live (task u v).state ≡ live u v
  unfolding live
  row-live v o = rw (lt-ltb v (header u).next (subst (λ (h : Header). v < h.next) (sym (head-same s u rm)) (q.ready v o).0))

  left : entries u.queue ≡ keep (live u) (entries s.queue)
  left = rm.left.order ∙ keep_same _ (live u) (entries s.queue) row-live

  abbrev gone : ℕ → Bool
  gone v = not (live u v)

  lost : entries_lost s u ≡ length (keep gone (entries s.queue))
  unfolding entries_lost
  lost =
      let a : length (entries s.queue) ≡ s.queue.len = length-entries s.queue w.memory.ids w.memory.words_right.queue_short in
      let b : length (entries u.queue) ≡ u.queue.len = length-entries u.queue rm.left.ids rm.left.len in
      let c : length (entries s.queue) ≡ length (entries u.queue) + length (keep gone (entries s.queue)) =
      keep_lengths (live u) (entries s.queue) ∙ ap (λ (l : List ℕ). length l + length (keep gone (entries s.queue))) (sym left) in
      omega (arith, a, b, c)

  counted : entries_lost s u ≡ count (λ v. is_queued s v && removed_between s u v) task_limit
  unfolding is_queued removed_between
  counted =
      lost
      ∙ keep-count gone task_limit (entries s.queue) q.distinct (λ v o. omega (arith, (q.ready v o).0, (header-fits s).next_fits))
      ∙ count_same _ _ task_limit (λ v l. by v (is_in v (entries s.queue)) refl)
    where
      by : (v : ℕ) (b : Bool) → is_in v (entries s.queue) ≡ b → (b && gone v) ≡ (b && (live s v && not (live u v)))
      by v true e = rw (queued-live s w v (stands_there (entries s.queue) v e))
      by v false e = refl

  accept-leaves : CancelLeaves s (accept s (Event.cancel t))
  unfolding accept
  accept-leaves = record { answer = ap Answer.cancelled counted; order = left }

-- Whatever is lent: a cancel that no refusal meets.
pub cancel-count : (s : Store) (t : ℕ) → Sized s → length s.queue.ids ≡ task_limit → refusal s (Event.cancel t) ≡ 0 → CancelLeaves s (step s (Event.cancel t))
cancel-count s t z ids r =
    subst (CancelLeaves s) (sym (accepted-step s (Event.cancel t) r)) (as-forgotten (accept-leaves (forget s) t (forget_sound_store s w) (refusal-forget s (Event.cancel t) ∙ r)))
  where
    w : SoundStore s
    w = sound-store_of s z ids (refusal-sound s (Event.cancel t) r)

    as-forgotten : {x : Step} → CancelLeaves (forget s) x → CancelLeaves s x
    as-forgotten c = record { answer = unfold is_queued removed_between live forget header task in c.answer; order = unfold forget in c.order }
