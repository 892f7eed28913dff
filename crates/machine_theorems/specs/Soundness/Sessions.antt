-- Every accepted event leaves a sound store sound. Sessions: whatever the events are, refused or not, the store is sound after each.
use Rattle.std.specs.Prelude.{◌≡◌, refl, Bool, true, List, [], ◌∷◌, ℕ, ◌+◌, get_or}
use Rattle.std.proofs.Common.{ap, sym, subst, ◌∙◌}
use Rattle.std.proofs.Math.Bool.{false}
use Rattle.std.proofs.Math.Decide.{ℕ_discrete}
use Rattle.std.proofs.Math.Dec.{T}
use Rattle.std.proofs.Math.ListN.{length}
use Rattle.asyncio.specs.Limits.{task_limit}
use Rattle.queue.specs.declared.ReadyQueue.{ReadyQueue}
use Rattle.queue.specs.Queue.{empty_queue}
use Rattle.machine.specs.Store.{Store, forget, fresh, empty, put_task, put_header, put_object, put_place, set_calls, add_object}
use Rattle.machine.specs.Events.{make_coroutine, make_pending, make_settled, put_items, make_gather}
use Rattle.machine.specs.Machine.{Event, refusal, accept, step, after}
use Rattle.machine.specs.Sound.{sound}
use Rattle.machine.proofs.SoundCases.{stores, verdicts, sound-cases}
use Rattle.machine_laws.specs.Views.{Sized}
use Rattle.machine_laws.specs.Statements.{Making}
use Rattle.machine_laws.specs.TestLaws.{holds}
use Rattle.machine_laws.specs.StoreLaws.{sized-forget}
use Rattle.machine_laws.specs.MachineLaws.{accepted-step, refused-step}
use Rattle.machine_laws.specs.SizedLaws.{step-sized, fresh-sized}
use Rattle.machine_laws.specs.SoundLaws.{refusal-sound, refusal-rest, refusal-forget, sound-forget, making-sound}
use Rattle.machine_theorems.specs.Soundness.Stores.{SoundStore, sound-store_of, sound_store_sound}
use Rattle.machine_theorems.specs.Soundness.Preserved.{Acting, accept_keeps}
use Rattle.machine.specs.Lent.{lengths_right, lent_by, lent_step}
use Rattle.machine.specs.Sessions.{InRange}

-- ---- an event that makes leaves the queue as it was

items_queue : (os : List ℕ) (s : Store) (p : ℕ) → (put_items s p os).queue ≡ s.queue
unfolding put_items put_place
items_queue [] s p = refl
items_queue (o ∷ os) s p = items_queue os (put_place s p _) (p + 1)

making_queue : (s : Store) (e : Event) → Making e → (accept s e).store.queue ≡ s.queue
unfolding Making accept make_coroutine make_pending make_settled make_gather set_calls add_object put_header put_object
making_queue s (Event.coroutine f) m = refl
making_queue s Event.call m = refl
making_queue s (Event.pending c r) m = refl
making_queue s (Event.settled v) m = refl
making_queue s (Event.gather os) m = items_queue os s _
making_queue s (Event.await o) m = absurd m
making_queue s (Event.complete v) m = absurd m
making_queue s (Event.fail n) m = absurd m
making_queue s (Event.results rs) m = absurd m
making_queue s Event.resume m = absurd m
making_queue s (Event.cancel t) m = absurd m
making_queue s (Event.show o) m = absurd m
making_queue s Event.eager m = absurd m

-- ---- one event

module _ (s : Store) (h : SoundStore s) where
  pub forget_sound_store : SoundStore (forget s)
  forget_sound_store = sound-store_of (forget s) (sized-forget s h.memory.sized) (unfold forget in h.memory.ids) (subst T (sym (sound-forget s)) (sound_store_sound s h))

  makes : (e : Event) → Making e → refusal s e ≡ 0 → SoundStore (step s e).store
  makes e m r =
      let same : (step s e).store.queue ≡ s.queue = rw (accepted-step s e r) (making_queue (forget s) e m ∙ (unfold forget in refl)) in
      sound-store_of (step s e).store (step-sized s e h.memory.sized) (ap (λ (q : ReadyQueue). length q.ids) same ∙ h.memory.ids) (holds _ (making-sound s e h.memory.sized m r))

  acts : (e : Event) → Acting e → refusal s e ≡ 0 → SoundStore (step s e).store
  acts e a r = rw (accepted-step s e r) (accept_keeps (forget s) e forget_sound_store a (refusal-rest (forget s) e (refusal-forget s e ∙ r)))

  accepted : (e : Event) → InRange e → refusal s e ≡ 0 → SoundStore (step s e).store
  unfolding InRange Acting Making
  accepted (Event.coroutine f) i r = makes (Event.coroutine f) i r
  accepted Event.call i r = makes Event.call tt r
  accepted (Event.pending c x) i r = makes (Event.pending c x) tt r
  accepted (Event.settled v) i r = makes (Event.settled v) tt r
  accepted (Event.gather os) i r = makes (Event.gather os) tt r
  accepted (Event.await o) i r = acts (Event.await o) tt r
  accepted (Event.complete v) i r = acts (Event.complete v) tt r
  accepted (Event.fail n) i r = acts (Event.fail n) i r
  accepted (Event.results rs) i r = acts (Event.results rs) tt r
  accepted Event.resume i r = acts Event.resume tt r
  accepted (Event.cancel t) i r = acts (Event.cancel t) tt r
  accepted (Event.show o) i r = acts (Event.show o) tt r
  accepted Event.eager i r = acts Event.eager tt r

  -- An event, refused or not, leaves a sound store sound, and memory of its lengths.
  pub step_sound_store : (e : Event) → InRange e → SoundStore (step s e).store
  step_sound_store e i = by (ℕ_discrete (refusal s e) 0)
    where
      by : Dec (refusal s e ≡ 0) → SoundStore (step s e).store
      by (yes r) = accepted e i r
      by (no ne) = rw (refused-step s e (refusal s e) refl ne) forget_sound_store

-- An event that no refusal meets leaves a sound store sound: that the store is sound before is the table's check 2. The memory is of its
-- lengths, as the slices' lengths (refusal 1) and the queue's type have it.
pub step-sound : (s : Store) (e : Event) → Sized s → length s.queue.ids ≡ task_limit → InRange e → refusal s e ≡ 0 → T (sound (step s e).store)
step-sound s e z ids i r = sound_store_sound (step s e).store (accepted s (sound-store_of s z ids (refusal-sound s e r)) e i r)

-- on lent memory: refusal 1 leaves it as it was
pub lent_sound_store : (s : Store) (l : List ℕ) (e : Event) → SoundStore s → InRange e → SoundStore (lent_step s l e).store
unfolding lent_step
lent_sound_store s l e h i = by (lengths_right s l)
  where
    by : (b : Bool) → SoundStore (lent_by b s l e).store
    by true = unfold lent_by in (step_sound_store s h e i)
    by false = unfold lent_by in h

-- ---- sessions

-- each event's numbers are in range
unfoldable pub AllInRange : List Event → Type 0
AllInRange [] = Unit {0}
AllInRange (e ∷ es) = InRange e × AllInRange es

pub session_sound_store : (es : List Event) (s : Store) → AllInRange es → SoundStore s → SoundStore (after s es)
unfolding after AllInRange
session_sound_store [] s i h = h
session_sound_store (e ∷ es) s i h = session_sound_store es (step s e).store i.1 (step_sound_store s h e i.0)

fresh-sound : sound fresh ≡ true
unfolding stores verdicts
fresh-sound = ap (λ (l : List Bool). get_or l 0 false) sound-cases

pub fresh_sound_store : SoundStore fresh
fresh_sound_store = sound-store_of fresh fresh-sized (unfold fresh empty put_task put_header empty_queue in refl) (holds _ fresh-sound)

-- After any events from a fresh session on, the store is sound.
pub session-sound : (es : List Event) → AllInRange es → T (sound (after fresh es))
session-sound es i = sound_store_sound (after fresh es) (session_sound_store es fresh i fresh_sound_store)
