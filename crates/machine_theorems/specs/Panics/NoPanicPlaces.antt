-- No panic of the Rust is reached, of the places of gathers: those that a commit steps and resumes, and those that a value fills.
use Rattle.std.specs.Prelude.{◌≡◌, true, List, ◌∷◌, ℕ, ◌+◌, ◌≤◌, ◌<◌}
use Rattle.std.proofs.Math.Option.{some}
use Rattle.std.proofs.Common.{le_refl, arith, eq-eqb}
use Rattle.asyncio.specs.declared.Value.{Value}
use Rattle.asyncio.specs.declared.Awaiter.{Awaiter}
use Rattle.asyncio.specs.declared.GatherState.{GatherState}
use Rattle.asyncio.specs.declared.Object.{Object}
use Rattle.asyncio.specs.declared.Place.{Place}
use Rattle.asyncio.specs.Ranges.{ValueFits}
use Rattle.machine.specs.Store.{Store, View, view, object, place, header}
use Rattle.machine.specs.Scheduler.{AwaitedGather, as_awaited}
use Rattle.machine.specs.Delivery.{fill_from}
use Rattle.machine.specs.Commit.{Frame}
use Rattle.machine_laws.specs.Views.{update}
use Rattle.machine_laws.specs.Facts.{Open, Slotted}
use Rattle.machine_theorems.specs.Soundness.Stores.{Kept}
use Rattle.machine_theorems.specs.Soundness.Fill.{gather_within}
use Rattle.machine_theorems.specs.Soundness.FillLaws.{hit, Fills, fill_fills}
use Rattle.machine_theorems.specs.Soundness.CommitInv.{Stacked, above, stacked_object, Inv}
use Rattle.machine_theorems.specs.Soundness.CommitItems.{AtNested}
use Rattle.machine_theorems.specs.Panics.NoPanicLaws.{top_gather, item_awaitable, slot_registered}

-- ---- in a commit

-- async_exec.rs:202: a nested gather that is opened is a gather, not committed yet (of the root, await's own match says so)
pub opened_gather : {root t g : ℕ} {fs : List Frame} {s : Store} {i o : ℕ} (h : AtNested root t g fs s i o) → object s o ≡ Object.GatherFuture h.first h.count GatherState.Pending
opened_gather h = h.is_new

-- async_exec.rs:231, 278: the item that is stepped next is made
pub stepped_awaitable : {root t e : ℕ} {Q : ℕ → Type 0} {v : View} {g i : ℕ} {fs : List Frame} (h : Inv root t e Q v g i fs) → i < h.w.count
    → v.objects (v.places (h.w.first + i)).item.0 ≡ Object.Unmade → ⊥
stepped_awaitable {g = g} {i = i} h l = item_awaitable h.but g h.w.first h.w.count _ h.opened.made (top_gather h) i l

-- the frame of a gather that is awaited, and its next place is one of the gather's
pub record Resumable (os : ℕ → Object) (f : Frame) : Type 0 where
  pub gather : AwaitedGather
  pub awaited : as_awaited (os f.gather) ≡ some gather
  pub slot : f.next < gather.count

pub resumable : {n : ℕ} {os : ℕ → Object} {ps : ℕ → Place} {root t g : ℕ} {a : Awaiter} {f : Frame} {fs : List Frame} {k : ℕ} → Stacked n os ps root t g a (f ∷ fs) k → Resumable os f
resumable (above w j op lt nm lo aw rm rest) = record { gather = w; awaited = op.awaited; slot = lt }

-- async_exec.rs:181, 984: when the gather on top was settled, whatever it is then, the frame below it resumes in its next place
pub parent_resumable : {n : ℕ} {os : ℕ → Object} {ps : ℕ → Place} {root t g : ℕ} {a : Awaiter} {f : Frame} {fs : List Frame} {k : ℕ} (r : Object)
    → Stacked n os ps root t g a (f ∷ fs) k → Resumable (update os g r) f
parent_resumable {g = g} r h = resumable (stacked_object g r (le_refl _) h)

-- ---- in a delivery

-- place j of the gather is filled with the value, and closed
pub record Registered (s : Store) (w : AwaitedGather) (x : ℕ) (v : Value) : Type 0 where
  pub at : ℕ
  pub under : at < w.count
  pub fills : Fills s.places w.open_places w.first at v (fill_from s.places w.open_places w.first x v 0 w.count)

-- async_exec.rs:1084: the value of a slot's source fills a place of its gather, if that is still awaited
pub slot_fills : {k : ℕ} {P Q : ℕ → Type 0} (s : Store) (o g x : ℕ) (v : Value) (w : AwaitedGather) → Kept k P Q s → ValueFits v
    → Slotted (header s).made (object s) (place s) o g x → as_awaited (object s g) ≡ some w → Registered s w x v
unfolding view place
slot_fills s o g x v w h f sl e =
    let op : Open (place s) w x = slot_registered sl w e in
    let room : w.first + w.count ≤ (header s).used = gather_within g w h.but sl.made e in
    let named : hit s.places w.open_places w.first x op.at ≡ true = rw (op.is_open, eq-eqb _ x op.names) in
    record {
      at = op.at;
      under = op.under;
      fills = fill_fills w.count s.places w.open_places w.first x v 0 op.at h.memory.sized.places_sized (omega (arith, room, h.but.fits.used_fits)) f (omega arith)
          (omega (arith, op.under)) named;
    }
