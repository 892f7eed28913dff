-- An event sees nothing of the log: to stores that are the same but for it, it does the same (`left-alike`), and adds the same to the history (`entry-alike`).
use Rattle.std.specs.Prelude.{◌≡◌, Bool, true, ◌&&◌, List, ℕ, length}
use Rattle.std.proofs.Math.Path.{refl}
use Rattle.std.proofs.Common.{sym, ap, ◌∙◌}
use Rattle.std.proofs.Math.Bool.{false}
use Rattle.std.proofs.Math.Dec.{leb}
use Rattle.asyncio.specs.Limits.{object_limit}
use Rattle.asyncio.specs.States.{pick}
use Rattle.machine.specs.Store.{Store, forget}
use Rattle.machine.specs.Machine.{Event, Answer, Step, step}
use Rattle.machine.specs.Lent.{Lent, slices_right, lengths_right, written, lent_as, lent_by, lent_step, lent_read}
use Rattle.machine.specs.History.{Entry, tells}
use Rattle.machine.specs.Sessions.{Sent, is_read, read_lent, lent_any, happened_by, entry_of}
use Rattle.machine_laws.specs.SoundLaws.{step-forget}

-- what an event adds to the history
abbrev pub lent_entry : Store → Sent → Entry
lent_entry s e = entry_of e.event (lent_any s e).answer (lent_any s e).store

-- two events that leave the same but for the log, and add the same entry
record Twin (e : Event) (x y : Lent) : Type 0 where
  left : forget x.store ≡ forget y.store
  entry : entry_of e x.answer x.store ≡ entry_of e y.answer y.store

twin_same : (e : Event) (x y : Lent) → x ≡ y → Twin e x y
twin_same e x y q = record { left = ap (λ (z : Lent). forget z.store) q; entry = ap (λ (z : Lent). entry_of e z.answer z.store) q }

-- refusal 1 leaves all
twin_refused : (e : Event) (s : Store) (l : List ℕ) → Twin e (lent_as (forget s) l (Answer.refused 1)) (lent_as s l (Answer.refused 1))
unfolding forget entry_of happened_by tells
twin_refused e s l = record { left = refl; entry = refl }

lent_twin : (s : Store) (e : Sent) → Twin e.event (lent_any (forget s) e) (lent_any s e)
unfolding lent_any
lent_twin s e = by (is_read e.event)
  where
    slices : slices_right (forget s) ≡ slices_right s
    slices = unfold slices_right forget in refl

    read_by : (b : Bool) → Twin e.event (read_lent e.list (pick b (step (forget s) e.event) (record { store = forget s; answer = Answer.refused 1 })))
        (read_lent e.list (pick b (step s e.event) (record { store = s; answer = Answer.refused 1 })))
    read_by true = twin_same e.event _ _ (ap (read_lent e.list) (step-forget s e.event))
    read_by false = unfold read_lent in (twin_refused e.event s e.list)

    list-by : (b : Bool) → Twin e.event (lent_by b (forget s) e.list e.event) (lent_by b s e.list e.event)
    list-by true = unfold lent_by in (twin_same e.event _ _ (ap (λ (x : Step). lent_as x.store (written x.answer e.list) x.answer) (step-forget s e.event)))
    list-by false = unfold lent_by in (twin_refused e.event s e.list)

    by : (b : Bool) → Twin e.event (pick b (read_lent e.list (lent_read (forget s) e.event)) (lent_step (forget s) e.list e.event))
        (pick b (read_lent e.list (lent_read s e.event)) (lent_step s e.list e.event))
    by true = unfold lent_read in (rw slices (read_by (slices_right s)))
    by false = unfold lent_step lengths_right in (rw slices (list-by (slices_right s && leb object_limit (length e.list))))

-- of stores that are the same but for the log
pub left-alike : (s u : Store) (e : Sent) → forget s ≡ forget u → forget (lent_any s e).store ≡ forget (lent_any u e).store
left-alike s u e q = sym (lent_twin s e).left ∙ (ap (λ (z : Store). forget (lent_any z e).store) q ∙ (lent_twin u e).left)

pub entry-alike : (s u : Store) (e : Sent) → forget s ≡ forget u → lent_entry s e ≡ lent_entry u e
entry-alike s u e q = sym (lent_twin s e).entry ∙ (ap (λ (z : Store). lent_entry z e) q ∙ (lent_twin u e).entry)
