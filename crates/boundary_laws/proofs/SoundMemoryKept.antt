-- What an exported function without the check asks, a sound store, a host has as long as only exported functions write its memory: from a beginning on, or from
-- memory that the check accepted, every list of events and reads keeps it, refused ones too.
use Rattle.std.specs.Prelude.{◌≡◌, Bool, true, false, List, [], ◌∷◌, length}
use Rattle.std.proofs.Math.Path.{refl, subst}
use Rattle.std.proofs.Common.{sym}
use Rattle.asyncio.specs.Limits.{task_limit}
use Rattle.asyncio.specs.RangeLaws.{pick_has}
use Rattle.machine.specs.Store.{Store, store_of, forget, fresh}
use Rattle.machine.specs.Sound.{sound}
use Rattle.machine.specs.Machine.{Event}
use Rattle.machine.specs.Lent.{Lent, lent_step}
use Rattle.machine.specs.Sessions.{InRange, is_read}
use Rattle.machine_laws.specs.Views.{Sized}
use Rattle.machine_laws.specs.TestLaws.{holds, is_true}
use Rattle.machine_theorems.specs.Soundness.Stores.{SoundStore, sound-store_of, sound_store_sound}
use Rattle.machine_theorems.specs.Soundness.Sessions.{AllInRange, forget_sound_store, lent_sound_store, fresh_sound_store}
use Rattle.boundary_lent.specs.Boundary.{Memory, memory_of, memory_step}
use Rattle.boundary_laws.specs.HostSessions.{store_held, after_event, after_read, after_any, HostSession, host_send, host_send_all, host_session}

-- an event keeps it
event_keeps : (m : Memory) (e : Event) → InRange e → SoundStore (store_held m) → SoundStore (store_held (after_event m e))
unfolding memory_step
event_keeps m e i h =
    let x : Lent = lent_step (store_held m) m.calls e in
    let kept : SoundStore (forget x.store) = forget_sound_store x.store (lent_sound_store (store_held m) m.calls e h i) in
    let same : forget x.store ≡ store_of x.store.tasks x.store.objects x.store.places x.store.queue [] = unfold forget in refl in
    subst SoundStore same kept

-- whatever is called
pub any_keeps : (m : Memory) (e : Event) → InRange e → SoundStore (store_held m) → SoundStore (store_held (after_any m e))
unfolding after_any
any_keeps m e i h = pick_has (λ (x : Memory). SoundStore (store_held x)) (is_read e) h (event_keeps m e i h)

all_keep : (es : List Event) (x : HostSession) → AllInRange es → SoundStore (store_held x.memory) → SoundStore (store_held (host_send_all x es).memory)
unfolding host_send_all AllInRange
all_keep [] x i h = h
all_keep (e ∷ es) x i h = all_keep es (host_send x e) i.1 (unfold host_send in (any_keeps x.memory e i.0 h))

-- From a beginning on, whatever is called: the store is sound, so that the functions without the check may be called.
pub begun-stays-sound : (m : Memory) → store_held m ≡ fresh → (es : List Event) → AllInRange es → sound (store_held (host_session m es).memory) ≡ true
unfolding host_session
begun-stays-sound m b es i = is_true _ (sound_store_sound _ (all_keep es _ i (subst SoundStore (sym b) fresh_sound_store)))

-- The same from arrays of their lengths that the check found sound.
pub found-stays-sound : (m : Memory) → Sized (store_held m) → length m.ids ≡ task_limit → sound (store_held m) ≡ true → (es : List Event) → AllInRange es
    → sound (store_held (host_session m es).memory) ≡ true
unfolding host_session
found-stays-sound m z l h es i = is_true _ (sound_store_sound _ (all_keep es _ i (sound-store_of (store_held m) z l (holds _ h))))
