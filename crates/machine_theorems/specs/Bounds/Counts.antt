-- Words for the bounds: turns, what a commit leaves of the gathers that it opens, and its steps read off the stores before and after.
use Rattle.std.specs.Prelude.{◌≡◌, false, not, ◌&&◌, List, [], ◌∷◌, ℕ, suc, ◌+◌, ◌-◌, ◌*◌, ◌<◌, get_or}
use Rattle.std.proofs.Math.Option.{some}
use Rattle.asyncio.specs.declared.HeapId.{HeapId}
use Rattle.asyncio.specs.declared.Value.{Value}
use Rattle.asyncio.specs.declared.Error.{Error}
use Rattle.asyncio.specs.declared.Awaiter.{Awaiter}
use Rattle.asyncio.specs.Kinds.{kind, is_awaited}
use Rattle.asyncio.specs.Limits.{object_limit}
use Rattle.rows.specs.Tables.{object_at}
use Rattle.machine.specs.Tests.{count}
use Rattle.machine.specs.Store.{Store, object, LogEntry, spawned, blocked, reached, exited, removed}
use Rattle.machine.specs.Scheduler.{as_awaited, Walk, walk_gather}
use Rattle.machine.specs.Delivery.{resolve_child, fail_gather}
use Rattle.machine.specs.Commit.{Poll, ready, raised, pending, pending_count}
use Rattle.machine_laws.specs.Statements.{failed_count}

-- of n gathers opened, k are settled: all of them, or on an error not all
unfoldable pub SettledOf : ℕ → ℕ → Poll → Type 0
SettledOf n k (ready v) = k ≡ n
SettledOf n k pending = k ≡ n
SettledOf n k (raised e) = k < n

-- how many gathers were opened from store s to store u: pending in s, and not in u
unfoldable pub opened_between : Store → Store → ℕ
opened_between s u = pending_count s - pending_count u

-- how many gathers failed from store s to store u
unfoldable pub failed_between : Store → Store → ℕ
failed_between s u = failed_count u - failed_count s

-- how many of the gathers opened are settled: those that have not failed
unfoldable pub settled_between : Store → Store → ℕ
settled_between s u = opened_between s u - failed_between s u

-- Document 01, module 4: "2 × n − 1 on success with n gathers opened; n + k on an error with k of them settled", read off the two stores
unfoldable pub StepsBetween : Store → Store → ℕ → Poll → Type 0
StepsBetween s u steps (ready v) = steps ≡ 2 * opened_between s u - 1
StepsBetween s u steps pending = steps ≡ 2 * opened_between s u - 1
StepsBetween s u steps (raised e) = steps ≡ opened_between s u + settled_between s u

-- ---- turns

-- A value on its way up from one store and awaiter to another, through n gathers: each completes, and its list goes on to its own awaiter.
pub data ValuePasses : Store → Awaiter → Value → ℕ → Store → Awaiter → Value → Type 0 where
  value_here : (s : Store) (a : Awaiter) (v : Value) → ValuePasses s a v 0 s a v
  value_on : (s : Store) (g source : HeapId) (v : Value) (b : Awaiter) (n : ℕ) (u : Store) (c : Awaiter) (w : Value) → (resolve_child s g.0 source.0 v).onward ≡ some b
      → ValuePasses (resolve_child s g.0 source.0 v).store b (Value.List g) n u c w → ValuePasses s (Awaiter.GatherSlot g source) v (suc n) u c w

-- The same for an error: each gather fails.
pub data ErrorPasses (x : Error) : Store → Awaiter → ℕ → Store → Awaiter → Type 0 where
  error_here : (s : Store) (a : Awaiter) → ErrorPasses x s a 0 s a
  error_on : (s : Store) (g source : HeapId) (b : Awaiter) (n : ℕ) (u : Store) (c : Awaiter) → (fail_gather s g.0 x).onward ≡ some b
      → ErrorPasses x (fail_gather s g.0 x).store b n u c → ErrorPasses x s (Awaiter.GatherSlot g source) (suc n) u c

-- how many exits of tasks have happened
unfoldable pub exits_in : List LogEntry → ℕ
exits_in [] = 0
exits_in (spawned t c ∷ hs) = exits_in hs
exits_in (blocked t ∷ hs) = exits_in hs
exits_in (reached t ∷ hs) = exits_in hs
exits_in (exited t ∷ hs) = suc (exits_in hs)
exits_in (removed t ∷ hs) = exits_in hs

-- how many removals of tasks have happened
unfoldable pub removals_in : List LogEntry → ℕ
removals_in [] = 0
removals_in (spawned t c ∷ hs) = removals_in hs
removals_in (blocked t ∷ hs) = removals_in hs
removals_in (reached t ∷ hs) = removals_in hs
removals_in (exited t ∷ hs) = removals_in hs
removals_in (removed t ∷ hs) = suc (removals_in hs)

-- Cancel's walk goes on by n turns: each takes a gather off the stack and visits its open items.
pub data Walks : Walk → ℕ → Walk → Type 0 where
  walks_here : (w : Walk) → Walks w 0 w
  walks_on : (w : Walk) (g : ℕ) (gs : List ℕ) (n : ℕ) (x : Walk) → w.stack ≡ g ∷ gs
      → Walks (walk_gather (record { store = w.store; tasks_of = w.tasks_of; marks = w.marks; stack = gs }) (as_awaited (object w.store g))) n x → Walks w (suc n) x

-- how many awaited gathers a walk has not reached yet
unfoldable pub unreached : Walk → ℕ
unreached w = count (λ o. is_awaited (kind (object_at w.store.objects o)) && not (get_or w.marks o false)) object_limit
