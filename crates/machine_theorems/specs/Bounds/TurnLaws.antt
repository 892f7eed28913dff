-- How many turns are taken at most: a climb passes at most the awaited gathers.
use Rattle.std.specs.Prelude.{◌≡◌, refl, ℕ, ◌+◌, ◌≤◌}
use Rattle.std.proofs.Common.{◌∙◌, arith}
use Rattle.asyncio.specs.declared.Value.{Value}
use Rattle.asyncio.specs.declared.Error.{Error}
use Rattle.asyncio.specs.declared.Awaiter.{Awaiter}
use Rattle.asyncio.specs.Ranges.{AwaiterFits}
use Rattle.machine.specs.Store.{Store}
use Rattle.machine.specs.Delivery.{resolve_child, fail_gather, awaited_count, deliver_awaiter_success, deliver_awaiter_failure}
use Rattle.machine_laws.specs.Views.{Sized}
use Rattle.machine_laws.specs.DeliveryLaws.{resolve_sent, fail_sent, success_climbs, failure_climbs}
use Rattle.machine_theorems.specs.Bounds.Counts.{ValuePasses, value_here, value_on, ErrorPasses, error_here, error_on}

-- ---- a climb

-- Each gather that a value passes is one awaited gather less.
pub value-turns : (s : Store) (a : Awaiter) (v : Value) (n : ℕ) (u : Store) (c : Awaiter) (w : Value) → Sized s → AwaiterFits a → ValuePasses s a v n u c w
    → awaited_count s ≡ awaited_count u + n
value-turns s₀ a₀ v₀ n₀ u₀ c₀ w₀ z f (value_here s a v) = omega arith
value-turns s₀ a₀ v₀ n₀ u₀ c₀ w₀ z f (value_on s g source v b m u c w e p) =
    let r = resolve_sent s g.0 source.0 v z f.0 in
    let rest = value-turns (resolve_child s g.0 source.0 v).store b (Value.List g) m u c w r.same.sized (r.fits b e) p in
    omega (arith, r.falls b e, rest)

-- What a value's delivery does is what is delivered where it has passed n gathers.
pub value_passes : (s : Store) (a : Awaiter) (v : Value) (n : ℕ) (u : Store) (c : Awaiter) (w : Value) → Sized s → AwaiterFits a → ValuePasses s a v n u c w
    → deliver_awaiter_success s a v ≡ deliver_awaiter_success u c w
value_passes s₀ a₀ v₀ n₀ u₀ c₀ w₀ z f (value_here s a v) = refl
value_passes s₀ a₀ v₀ n₀ u₀ c₀ w₀ z f (value_on s g source v b m u c w e p) =
    let r = resolve_sent s g.0 source.0 v z f.0 in
    success_climbs s g source v b z f.0 e ∙ value_passes (resolve_child s g.0 source.0 v).store b (Value.List g) m u c w r.same.sized (r.fits b e) p

-- A value passes at most the awaited gathers.
pub value_bound : (s : Store) (a : Awaiter) (v : Value) (n : ℕ) (u : Store) (c : Awaiter) (w : Value) → Sized s → AwaiterFits a → ValuePasses s a v n u c w → n ≤ awaited_count s
value_bound s a v n u c w z f p = omega (arith, value-turns s a v n u c w z f p)

-- Each gather that an error passes is one awaited gather less.
pub error-turns : (x : Error) (s : Store) (a : Awaiter) (n : ℕ) (u : Store) (c : Awaiter) → Sized s → AwaiterFits a → ErrorPasses x s a n u c
    → awaited_count s ≡ awaited_count u + n
error-turns x s₀ a₀ n₀ u₀ c₀ z f (error_here s a) = omega arith
error-turns x s₀ a₀ n₀ u₀ c₀ z f (error_on s g source b m u c e p) =
    let r = fail_sent s g.0 x z f.0 in
    let rest = error-turns x (fail_gather s g.0 x).store b m u c r.same.sized (r.fits b e) p in
    omega (arith, r.falls b e, rest)

-- What an error's delivery does is what is delivered where it has passed n gathers.
pub error_passes : (x : Error) (s : Store) (a : Awaiter) (n : ℕ) (u : Store) (c : Awaiter) → Sized s → AwaiterFits a → ErrorPasses x s a n u c
    → deliver_awaiter_failure s a x ≡ deliver_awaiter_failure u c x
error_passes x s₀ a₀ n₀ u₀ c₀ z f (error_here s a) = refl
error_passes x s₀ a₀ n₀ u₀ c₀ z f (error_on s g source b m u c e p) =
    let r = fail_sent s g.0 x z f.0 in
    failure_climbs s g source x b z f.0 e ∙ error_passes x (fail_gather s g.0 x).store b m u c r.same.sized (r.fits b e) p

-- An error passes at most the awaited gathers.
pub error_bound : (x : Error) (s : Store) (a : Awaiter) (n : ℕ) (u : Store) (c : Awaiter) → Sized s → AwaiterFits a → ErrorPasses x s a n u c → n ≤ awaited_count s
error_bound x s a n u c z f p = omega (arith, error-turns x s a n u c z f p)
