-- A batch of results walked once, by what each delivery does (Effects): K is kept where an external settles and by each delivery to a store that is sound in the
-- midst of the batch; then the whole batch keeps it.
use Rattle.std.specs.Prelude.{◌≡◌, Bool, ℕ, ◌<◌}
use Rattle.std.proofs.Math.Path.{refl}
use Rattle.std.proofs.Common.{sym, subst, eqb-true}
use Rattle.std.proofs.Math.Bool.{true, false}
use mathlib.Core.List.{List, [], ◌∷◌}
use Rattle.std.proofs.Math.Option.{Option, none, some}
use Rattle.std.proofs.Math.Dec.{T, eqb}
use Rattle.asyncio.specs.declared.Value.{Value}
use Rattle.asyncio.specs.declared.Error.{Error}
use Rattle.asyncio.specs.declared.Object.{Object}
use Rattle.asyncio.specs.declared.Header.{Header}
use Rattle.asyncio.specs.Ranges.{AwaiterFits, ErrorFits, ObjectFits}
use Rattle.asyncio.specs.Layout.{to_value, to_error}
use Rattle.asyncio.specs.States.{pick}
use Rattle.machine.specs.Store.{Store, object, header, put_object}
use Rattle.machine.specs.Scheduler.{PendingExternal, as_pending, pending_external}
use Rattle.machine.specs.Delivery.{Delivery, value_or, resolve_pending, fail_pending, settle_pending, settle_found, resolve_future, fail_future}
use Rattle.machine.specs.Events.{Result, apply_result, apply_future_results}
use Rattle.machine.specs.Sound.{value_known}
use Rattle.machine_laws.specs.Facts.{Nothing}
use Rattle.machine_laws.specs.StoreLaws.{object-fits}
use Rattle.machine_laws.specs.DeliveryLaws.{pending-object}
use Rattle.machine_theorems.specs.Soundness.Stores.{SoundDuring}
use Rattle.machine_theorems.specs.Soundness.Results.{low, resolve_delivering, fail_delivering, MayApply, AllApply, host_fits, result_keeps}
use Rattle.machine_sessions.specs.Stall.Effects.{Effect, success_effect, failure_effect}

module _ (K : Store → Type 0) (row : (s : Store) (o : ℕ) (x : Object) → K s → K (put_object s o x))
    (delivered : (P : ℕ → Type 0) (r : ℕ → Bool) (D : ℕ → Type 0) (hd : Header) (s : Store) → SoundDuring P r D hd s → (d : Delivery) → Effect s d → K s → K d.store) where
  module _ {r : ℕ → Bool} {D : ℕ → Type 0} {hd : Header} (s : Store) (h : SoundDuring Nothing r D hd s) (st : K s) where
    found-kept : (c : ℕ) (f : ℕ → PendingExternal → Store) → ((o : ℕ) (p : PendingExternal) → o < (header s).made → as_pending (object s o) ≡ some p → K (f o p)) → K (settle_found s (pending_external s c) f)
    found-kept c f k = by (pending_external s c) refl
      where
        at : (o : ℕ) → o < (header s).made → (p : Option PendingExternal) → as_pending (object s o) ≡ p → K (settle_pending s p (f o))
        at o l none e = unfold settle_pending in st
        at o l (some p) e = unfold settle_pending in (k o p l e)

        by : (o : Option ℕ) → pending_external s c ≡ o → K (settle_found s o f)
        by none e = unfold settle_found in st
        by (some o) e = unfold settle_found in (at o (low s h c o e) (as_pending (object s o)) refl)

    awaiter-low : (o : ℕ) (p : PendingExternal) → as_pending (object s o) ≡ some p → AwaiterFits p.awaiter
    awaiter-low o p e = (subst ObjectFits (pending-object (object s o) p e) (object-fits s o)).1.0

    resolve-kept : (c : ℕ) (v : Value) → T (value_known (header s).made (object s) v) → K (resolve_future s c v)
    unfolding resolve_future resolve_pending
    resolve-kept c v k =
        found-kept c _ (λ o p l e.
        let m = (resolve_delivering s h v k o p l e).during in
        delivered _ _ _ _ _ m _ (success_effect _ p.awaiter (value_or p.stored v) m.kept.memory.sized (awaiter-low o p e)) (row s o _ st))

    fail-kept : (c : ℕ) (x : Error) → ErrorFits x → K (fail_future s c x)
    unfolding fail_future fail_pending
    fail-kept c x k =
        found-kept c _ (λ o p l e.
        let m = (fail_delivering s h x k o p l e).during in
        delivered _ _ _ _ _ m _ (failure_effect _ p.awaiter x m.kept.memory.sized (awaiter-low o p e)) (row s o _ st))

    result-kept : (x : Result) → MayApply hd.made D x → K (apply_result s x)
    unfolding apply_result
    result-kept x m = by (eqb x.kind 0) refl (eqb x.kind 1) (eqb x.kind 2) (eqb x.kind 3)
      where
        by : (a : Bool) → eqb x.kind 0 ≡ a → (b c d : Bool) → K (pick a (resolve_future s x.call (to_value x.tag x.number))
            (pick b (fail_future s x.call (to_error 0 x.number)) (pick c s (pick d (fail_future s x.call Error.NotFound) (fail_future s x.call Error.ModuleFile)))))
        by true e b c d =
            resolve-kept x.call (to_value x.tag x.number)
            (subst (λ (y : Header). T (value_known y.made (object s) (to_value x.tag x.number))) (sym h.head) (m (eqb-true x.kind 0 e) (object s) h.done))
        by false e true c d = fail-kept x.call (to_error 0 x.number) (host_fits x.number)
        by false e false true d = st
        by false e false false true = fail-kept x.call Error.NotFound tt
        by false e false false false = fail-kept x.call Error.ModuleFile tt

  pub delivered-batch : {r : ℕ → Bool} {D : ℕ → Type 0} {hd : Header} (xs : List Result) (s : Store) → AllApply hd.made D xs → SoundDuring Nothing r D hd s → K s → K (apply_future_results s xs)
  unfolding apply_future_results AllApply
  delivered-batch [] s a h k = k
  delivered-batch (x ∷ xs) s a h k = delivered-batch xs (apply_result s x) a.1 (result_keeps s x a.0 h) (result-kept s h k x a.0)
