-- Bounds: how many steps a commit takes at most, and the steps read off the stores before and after.
use Rattle.std.specs.Prelude.{◌≡◌, refl, List, [], ◌∷◌, ℕ, zero, suc, ◌+◌, ◌*◌, ◌≤◌, ◌<◌, eqb, length}
use Rattle.std.proofs.Math.Option.{Option, none, some}
use Rattle.std.proofs.Common.{arith}
use Rattle.asyncio.specs.declared.Awaiter.{Awaiter}
use Rattle.asyncio.specs.declared.Kind.{Kind}
use Rattle.asyncio.specs.Kinds.{kind}
use Rattle.asyncio.specs.Limits.{object_limit}
use Rattle.asyncio.specs.RangeLaws.{pick_has}
use Rattle.machine.specs.Store.{Store, object}
use Rattle.machine.specs.Scheduler.{AwaitedGather, as_awaited}
use Rattle.machine.specs.Commit.{Poll, ready, raised, pending, Polled, Stop, at_end, at_nested, at_error, Frame, Committed, turn, commit_loop, step_gather_commit}
use Rattle.machine.specs.Commit.{open_gather_commit, settle_as, settle_gather_commit, pending_count, commit_gather_tree}
use Rattle.machine_laws.specs.Views.{Sized}
use Rattle.machine_laws.specs.Statements.{failed_count, StepFormula, StepsRight, FailFormula}
use Rattle.machine_laws.specs.CommitLaws.{commit_steps, commit_opens, commit_fails}
use Rattle.machine_theorems.specs.Bounds.Counts.{SettledOf, opened_between, failed_between, settled_between, StepsBetween}

-- ---- how many of the gathers opened are settled

abbrev SettledRight : Committed → Type 0
SettledRight r = SettledOf r.opened r.settled r.poll

settle_all : (s : Store) (g n : ℕ) → SettledOf n n (settle_gather_commit s g).poll
unfolding SettledOf settle_gather_commit settle_as
settle_all s g n = by (as_awaited (object s g))
  where
    by : (w : Option AwaitedGather) → SettledOf n n (settle_as s g w).poll
    by none = refl
    by (some w) = pick_has (λ (r : Polled). SettledOf n n r.poll) (eqb w.open_places 0) refl refl

-- In a loop with j gathers opened and k settled, each frame is of a gather opened and not settled.
turn_settles : (loop : Store → Frame → List Frame → ℕ → ℕ → ℕ → Committed)
    → ((s : Store) (f : Frame) (fs : List Frame) (n j k : ℕ) → j ≡ k + suc (length fs) → SettledRight (loop s f fs n j k))
    → (f : Frame) (fs : List Frame) (n j k : ℕ) (x : Stop) → j ≡ k + suc (length fs) → SettledRight (turn loop f fs n j k x)
unfolding turn SettledOf
turn_settles loop h f fs n j k (at_nested s i o) d = unfold SettledOf in (h _ _ _ (suc n) (suc j) k (omega arith))
turn_settles loop h f fs n j k (at_error s x) d = omega arith
turn_settles loop h f [] n j k (at_end s) d =
    let e : j ≡ suc k = omega arith in
    unfold SettledOf in (rw e (settle_all s f.gather (suc k)))
turn_settles loop h f (p ∷ ps) n j k (at_end s) d = unfold SettledOf in (h _ _ _ (suc n) j (suc k) (omega arith))

loop_settles : (fuel : ℕ) (s : Store) (f : Frame) (fs : List Frame) (n j k : ℕ) → j ≡ k + suc (length fs) → SettledRight (commit_loop fuel s f fs n j k)
unfolding commit_loop turn SettledOf
loop_settles zero s f fs n j k d = omega arith
loop_settles (suc fuel) s f fs n j k d = unfold SettledOf in
    turn_settles (λ x g gs m i h. commit_loop fuel x g gs m i h) (λ x g gs m i h p. loop_settles fuel x g gs m i h p) f fs n j k (step_gather_commit s f) d

-- Of the gathers that a commit opens, all are settled on success, and not all on an error: one at least has failed then.
pub commit_settles : (s : Store) (g : ℕ) (a : Awaiter) → SettledOf (commit_gather_tree s g a).opened (commit_gather_tree s g a).settled (commit_gather_tree s g a).poll
unfolding commit_gather_tree
commit_settles s g a =
    let x : Store = open_gather_commit s g a in
    loop_settles (2 * pending_count x + 1) x (record { gather = g; next = 0 }) [] 0 1 0 refl

-- ---- the steps of a commit

bound_by : (steps p q n k : ℕ) (x : Poll) → StepFormula steps n k x → SettledOf n k x → p ≡ q + n → suc steps ≤ 2 * p
unfolding StepFormula SettledOf
bound_by steps p q n k (ready v) e f h = omega arith
bound_by steps p q n k pending e f h = omega arith
bound_by steps p q n k (raised x) e f h = omega arith

between_by : (s u : Store) (steps n k : ℕ) (x : Poll) → StepFormula steps n k x → FailFormula (failed_count s) (failed_count u) n k x → SettledOf n k x
    → pending_count s ≡ pending_count u + n → StepsBetween s u steps x
unfolding StepFormula FailFormula SettledOf StepsBetween settled_between opened_between failed_between
between_by s u steps n k (ready v) e f d h = omega arith
between_by s u steps n k pending e f d h = omega arith
between_by s u steps n k (raised x) e f d h = omega arith

module _ (s : Store) (g : ℕ) (a : Awaiter) (z : Sized s) (l : g < object_limit) (e : kind (object s g) ≡ Kind.PendingGather) where
  -- A commit takes at most 2 p - 1 steps, with p gathers pending before, whatever the await sees.
  pub commit_bound : suc (commit_gather_tree s g a).steps ≤ 2 * pending_count s
  unfolding StepsRight
  commit_bound = bound_by _ _ _ _ _ (commit_gather_tree s g a).poll (commit_steps s g a) (commit_settles s g a) (commit_opens s g a z l e)

  -- Document 01, module 4: the steps of a commit, with n and k read off the stores before and after, and no counter.
  pub commit_steps_seen : StepsBetween s (commit_gather_tree s g a).store (commit_gather_tree s g a).steps (commit_gather_tree s g a).poll
  unfolding StepsRight
  commit_steps_seen =
      between_by s (commit_gather_tree s g a).store _ _ _ (commit_gather_tree s g a).poll (commit_steps s g a) (commit_fails s g a z l e) (commit_settles s g a)
      (commit_opens s g a z l e)
