-- The ways through a read, in the shape of what the code knows there.
use Rattle.std.specs.Prelude.{◌≡◌, Bool, true, false, ℕ, zero, suc, ◌+◌, ◌≤◌, ◌<◌, leb, length}
use Rattle.std.proofs.Math.Path.{refl, ap}
use Rattle.std.proofs.Common.{sym, ◌∙◌, le-leb}
use mathlib.Core.List.{List, [], ◌∷◌}
use Rattle.std.proofs.Math.Option.{Option}
use Rattle.std.proofs.lemmas.Bool.{lt-leb}
use Rattle.asyncio.specs.declared.Value.{Value}
use Rattle.asyncio.specs.declared.Object.{Object}
use Rattle.asyncio.specs.declared.Header.{Header}
use Rattle.rows.specs.Tables.{object_at, header_at, place_at}
use Rattle.queue.specs.declared.ReadyQueue.{ReadyQueue}
use Rattle.machine.specs.Store.{Store, LogEntry, store_of, place, object, header, forget}
use Rattle.machine.specs.Scheduler.{bit}
use Rattle.machine.specs.Sound.{sound}
use Rattle.machine.specs.Machine as machine
use Rattle.machine.specs.Machine.{Event, Step, first_refusal, refusals, unmade, accept, step, slot_value, show_places, shown, can_await_eagerly}
use Rattle.machine.specs.Lent.{slices_right, lent_read}
use Rattle.exec_switch.specs.Refusal.{refusal_number}
use Rattle.exec_switch.specs.declared.answer.Refusal.{Refusal}
use Rattle.step_checks.specs.Checked.{checked}
use Rattle.step_checks.specs.CheckedLaws.{met, unmet, none_met, refuses, accepts}
use Rattle.step_checks.specs.Lent.{are_slices}
use Rattle.step_checks.specs.LentLaws.{step-checked, step_unsound}
use Rattle.step_read.specs.Reads.{places_from}

-- as many as asked for
pub shown-length : (ps : List ℕ) (f m n i : ℕ) → length (places_from ps f m i n) ≡ n
unfolding places_from
shown-length ps f m zero i = refl
shown-length ps f m (suc n) i = ap suc (shown-length ps f m n (i + 1))

-- the places that the machine shows
pub shows-places : (s : Store) (f m : ℕ) (n i : ℕ) → places_from s.places f m i n ≡ show_places s f m i n
unfolding places_from show_places place
shows-places s f m zero i = refl
shows-places s f m (suc n) i = ap (λ (xs : List (Option Value)). slot_value (bit m i) (place_at s.places (f + i)).result ∷ xs) (shows-places s f m n (i + 1))

module _ (ts os ps : List ℕ) (q : ReadyQueue) (l : List LogEntry) (e : Event) {b : Bool} (g : b ≡ are_slices (length ts) (length os) (length ps)) where
  abbrev given : Store
  given = store_of ts os ps q l

  abbrev clean : Store
  clean = store_of ts os ps q []

  pub read_length : b ≡ false → machine.Answer.refused 1 ≡ (lent_read given e).answer
  unfolding lent_read slices_right
  read_length i = rw (sym g ∙ i)

  module _ (i : b ≡ true) {u : Bool} (h : u ≡ sound given) where
    reads : lent_read given e ≡ step given e
    unfolding lent_read slices_right
    reads = rw (sym g ∙ i)

    pub read_unsound : u ≡ false → machine.Answer.refused 2 ≡ (lent_read given e).answer
    read_unsound k = sym (ap (λ (x : Step). x.answer) (reads ∙ step_unsound given e (sym h ∙ k)))

    -- of a sound store it is what the checks from 3 on leave
    read-checked : u ≡ true → lent_read given e ≡ checked clean e
    read-checked k =
        let f : forget given ≡ clean = unfold forget in refl in
        reads ∙ step-checked given e (sym h ∙ k) ∙ ap (λ (z : Store). checked z e) f

    pub read-sound : u ≡ true → {a : machine.Answer} → a ≡ (checked clean e).answer → a ≡ (lent_read given e).answer
    read-sound k r = r ∙ sym (ap (λ (x : Step). x.answer) (read-checked k))

-- ---- the checks from 3 on

read-refused : (s : Store) (e : Event) (n : Refusal) → first_refusal (refusals s e) ≡ refusal_number n → machine.Answer.refused (refusal_number n) ≡ (checked s e).answer
read-refused s e n r = ap (λ (x : Step). x.answer) (refuses s e n r)

pub read_done : (s : Store) (e : Event) → first_refusal (refusals s e) ≡ 0 → (accept s e).answer ≡ (checked s e).answer
read_done s e r = sym (ap (λ (x : Step). x.answer) (accepts s e r))

module _ (ts os ps : List ℕ) (q : ReadyQueue) (l : List LogEntry) (o : ℕ) {v : Header} (g : v ≡ header_at os) where
  pub show-unmade : v.made ≤ o → machine.Answer.refused 5 ≡ (checked (store_of ts os ps q l) (Event.show o)).answer
  unfolding refusals unmade header
  show-unmade i =
      let k : (header_at os).made ≤ o = rw g at i in
      read-refused (store_of ts os ps q l) (Event.show o) Refusal.Unknown (met 5 (leb (header_at os).made o) [] (le-leb (header_at os).made o k))

  pub show-made : o < v.made → first_refusal (refusals (store_of ts os ps q l) (Event.show o)) ≡ 0
  unfolding refusals unmade header
  show-made i = let k : o < (header_at os).made = rw g at i in unmet 5 (leb (header_at os).made o) [] (lt-leb (header_at os).made o k) ∙ none_met

pub show-gives : (ts os ps : List ℕ) (q : ReadyQueue) (l : List LogEntry) (o : ℕ) {x : Object} → x ≡ object_at os o
    → {y : machine.Shown} → y ≡ shown (store_of ts os ps q l) x → machine.Answer.shows y ≡ (accept (store_of ts os ps q l) (Event.show o)).answer
unfolding accept object
show-gives ts os ps q l o e r = rw (← e, ← r)

pub eager_passes : (s : Store) → first_refusal (refusals s Event.eager) ≡ 0
unfolding refusals
eager_passes s = none_met

pub eager-gives : (s : Store) {b : Bool} → b ≡ can_await_eagerly s → machine.Answer.is_eager b ≡ (accept s Event.eager).answer
unfolding accept
eager-gives s e = rw e
