-- `Sourced` but for the places on their way.
use Rattle.std.specs.Prelude.{◌≡◌, true, ℕ, ◌+◌, ◌<◌}
use Rattle.std.proofs.Common.{sym, ap, subst, ◌∙◌}
use Rattle.std.proofs.Math.Option.{some}
use Rattle.asyncio.specs.declared.Awaiter.{Awaiter}
use Rattle.asyncio.specs.declared.Place.{Place}
use Rattle.asyncio.specs.Numbers.{heap_id}
use Rattle.asyncio.specs.States.{is_live}
use Rattle.machine.specs.Store.{Store, task, object, place, header}
use Rattle.machine.specs.Scheduler.{AwaitedGather, as_awaited, as_pending}
use Rattle.machine_laws.specs.Facts.{Open}
use Rattle.machine_sessions.specs.Stall.NoStall.{Source, by_external, by_gather, by_nobody, by_task, Roots, root, above, Sourced}

-- In the midst of a delivery: the places of X may lack their source.
pub record SourcedBut (G : ℕ → Type 0) (X : ℕ → ℕ → Type 0) (s : Store) : Type 0 where
  pub sources : (g o : ℕ) (w : AwaitedGather) → g < (header s).made → as_awaited (object s g) ≡ some w → Open (place s) w o → (X g o → ⊥) → Source G s g o
  pub rising : (u g x t : ℕ) → u < (header s).next → is_live (task s u).state ≡ true → (task s u).awaiter ≡ Awaiter.GatherSlot (heap_id g) (heap_id x) → Roots s g t → t < u

-- the place that a value or error from o with awaiter a is on its way to
abbrev pub OnWay : Awaiter → ℕ → ℕ → ℕ → Type 0
OnWay a o g p = (a ≡ Awaiter.GatherSlot (heap_id g) (heap_id o)) × (p ≡ o)

pub but_of : {G : ℕ → Type 0} {X : ℕ → ℕ → Type 0} (s : Store) → Sourced G s → SourcedBut G X s
but_of s k = record { sources = λ g o w l e op n. k.sources g o w l e op; rising = k.rising }

pub all_of : {G : ℕ → Type 0} (s : Store) → SourcedBut G (λ g o. ⊥) s → Sourced G s
all_of s k = record { sources = λ g o w l e op. k.sources g o w l e op (λ z. z); rising = k.rising }

-- ---- rows whose tasks live as before and await as before, with objects and places as they were (run, wake, block, yield, queue)
module _ (G : ℕ → Type 0) (s u : Store) (objects : (o : ℕ) → object u o ≡ object s o) (lives : (t : ℕ) → is_live (task u t).state ≡ is_live (task s t).state)
    (awaiters : (t : ℕ) → (task u t).awaiter ≡ (task s t).awaiter) (places : (p : ℕ) → place u p ≡ place s p) (made : (header u).made ≡ (header s).made) (next : (header u).next ≡ (header s).next) where
  source-same : (g o : ℕ) → Source G s g o → Source G u g o
  source-same g o (by_external p e a) = by_external p (ap as_pending (objects o) ∙ e) a
  source-same g o (by_gather w e a) = by_gather w (ap as_awaited (objects o) ∙ e) a
  source-same g o (by_nobody j) = by_nobody j
  source-same g o (by_task t l lv a) = by_task t (subst (λ (n : ℕ). t < n) (sym next) l) (lives t ∙ lv) (awaiters t ∙ a)

  roots-same : {g t : ℕ} → Roots u g t → Roots s g t
  roots-same (root g t w e a) = root g t w (sym (ap as_awaited (objects g)) ∙ e) a
  roots-same (above g t p x w e a r) = above g t p x w (sym (ap as_awaited (objects g)) ∙ e) a (roots-same r)

  pub but_same : {X : ℕ → ℕ → Type 0} → SourcedBut G X s → SourcedBut G X u
  but_same k =
      record {
        sources = λ g o w l e op n.
            source-same g o (k.sources g o w (subst (λ (m : ℕ). g < m) made l) (sym (ap as_awaited (objects g)) ∙ e)
            (record { at = op.at; under = op.under; is_open = op.is_open; names = sym (ap (λ (p : Place). p.item.0) (places (w.first + op.at))) ∙ op.names }) n);
        rising = λ v g x t l lv a r. k.rising v g x t (subst (λ (m : ℕ). v < m) next l) (sym (lives v) ∙ lv) (sym (awaiters v) ∙ a) (roots-same r);
      }
