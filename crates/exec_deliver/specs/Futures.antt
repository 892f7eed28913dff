-- A pending external at a given object is settled.
use Rattle.std.specs.Prelude.{ℕ}
use Rattle.std.proofs.Math.Option.{some}
use Rattle.asyncio.specs.declared.Value.{Value}
use Rattle.asyncio.specs.declared.Error.{Error}
use Rattle.machine.specs.Store.{Store}
use Rattle.machine.specs.Delivery.{settle_found, resolve_pending, fail_pending}

-- object o, if it is a pending external, is resolved
unfoldable pub resolve_at : Store → ℕ → Value → Store
resolve_at s o v = settle_found s (some o) (λ o p. resolve_pending s o p v)

-- object o, if it is a pending external, has failed
unfoldable pub fail_at : Store → ℕ → Error → Store
fail_at s o e = settle_found s (some o) (λ o p. fail_pending s o p e)
