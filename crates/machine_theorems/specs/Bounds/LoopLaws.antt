-- The fuel of the commit and of cancel's walk is a bound and not a cut: with any more of it the result is the same.
use Rattle.std.specs.Prelude.{◌≡◌, Bool, false, List, [], ◌∷◌, ℕ, zero, suc, ◌+◌, ◌*◌, ◌≤◌, ◌<◌, length}
use Rattle.std.proofs.Math.Path.{refl, sym}
use Rattle.std.proofs.Common.{ap, ◌∙◌, arith}
use Rattle.std.proofs.lemmas.List.{length-replicate}
use Rattle.asyncio.specs.declared.Awaiter.{Awaiter}
use Rattle.asyncio.specs.declared.GatherState.{GatherState}
use Rattle.asyncio.specs.declared.Kind.{Kind}
use Rattle.asyncio.specs.Numbers.{heap_id}
use Rattle.asyncio.specs.Kinds.{kind}
use Rattle.asyncio.specs.Parts.{count_of}
use Rattle.asyncio.specs.Limits.{object_limit}
use Rattle.machine.specs.Store.{Store, task, object}
use Rattle.machine.specs.Scheduler.{as_awaited, blocked_on, Walk, remove_blocked, walk_gather, walk_next, walk, walk_from, cancel_task}
use Rattle.machine.specs.Commit.{Polled, Stop, at_end, at_nested, at_error, Frame, turn, commit_loop, step_gather_commit}
use Rattle.machine.specs.Commit.{open_gather_commit, settle_gather_commit, resume_after_child, pending_count, commit_gather_tree}
use Rattle.machine_laws.specs.Views.{Sized}
use Rattle.machine_laws.specs.Statements.{SameKinds, Placed, StopBelow, commit_rest, unmarked, walk_rest}
use Rattle.machine_laws.specs.CommitLaws.{StopKeeps, same_kinds_then, same-pending_count, set_counts, settle_kinds, resume_kinds, step_kinds, step-below, placed_same}
use Rattle.machine_laws.specs.CommitLaws.{open_sized, open_falls, commit_begins, commit_turns}
use Rattle.machine_laws.specs.CycleLaws.{CountsKept, gather_counts_kept, blocked_counts_kept, all_unmarked, walk_once, cancel_walks}

-- ---- the commit

-- the commit from a frame on gets through with some fuel, if that is at least twice the pending gathers and the frames
abbrev LoopPays : ℕ → Type 0
LoopPays fuel =
    (s : Store) (f : Frame) (fs : List Frame) (n j k : ℕ) → Sized s → f.gather < object_limit → Placed s fs → 2 * pending_count s + suc (length fs) ≤ fuel
    → commit_loop fuel s f fs n j k ≡ commit_rest s f fs n j k

open_counts : (u : Store) (g : ℕ) (a : Awaiter) → Sized u → g < object_limit → (o : ℕ) → count_of (object (open_gather_commit u g a) o) ≡ count_of (object u o)
unfolding open_gather_commit
open_counts u g a z l o = set_counts u g z l (GatherState.Awaited a 0) o

turn_agrees : (fuel : ℕ) → LoopPays fuel → (s : Store) (f : Frame) (fs : List Frame) (n j k : ℕ) (x : Stop) → StopKeeps s x → StopBelow (count_of (object s f.gather)) x
    → f.gather < object_limit → Placed s fs → 2 * pending_count s + length fs ≤ fuel
    → turn (λ x g gs m i h. commit_loop fuel x g gs m i h) f fs n j k x ≡ turn commit_rest f fs n j k x
unfolding turn StopKeeps StopBelow Placed
turn_agrees fuel h s f fs n j k (at_nested u i o) q b l e p =
    let a : Awaiter = Awaiter.GatherSlot (heap_id f.gather) (heap_id o) in
    let x : Store = open_gather_commit u o a in
    let same : pending_count u ≡ pending_count s = same-pending_count s u q.0 in
    let fall : pending_count u ≡ suc (pending_count x) = open_falls u o a q.0.sized q.1 q.2 in
    let counts : (y : ℕ) → count_of (object x y) ≡ count_of (object s y) = λ y. open_counts u o a q.0.sized q.1 y ∙ q.0.counts y in
    let below : i < count_of (object x f.gather) = rw (counts f.gather) b in
    h x (record { gather = o; next = 0 }) (record { gather = f.gather; next = i } ∷ fs) (suc n) (suc j) k (open_sized u o a q.0.sized q.1 q.2) q.1
    (l, below, unfold Placed in placed_same s x fs counts e) (omega arith)
turn_agrees fuel h s f fs n j k (at_error u x) q b l e p = refl
turn_agrees fuel h s f [] n j k (at_end u) q b l e p = refl
turn_agrees fuel h s f (g ∷ gs) n j k (at_end u) q b l e p =
    let r : Polled = settle_gather_commit u f.gather in
    let x : Store = resume_after_child g r in
    let w : SameKinds u r.store = settle_kinds u f.gather q.sized l in
    let v : SameKinds s x = same_kinds_then q (same_kinds_then w (resume_kinds g r w.sized e.0)) in
    let same : pending_count x ≡ pending_count s = same-pending_count s x v in
    h x (record { gather = g.gather; next = g.next + 1 }) gs (suc n) j (suc k) v.sized e.0 (unfold Placed in placed_same s x gs v.counts e.2) (omega arith)

-- The commit from a frame on, with any fuel of at least twice the pending gathers and the frames.
pub loop_fuel : (fuel : ℕ) (s : Store) (f : Frame) (fs : List Frame) (n j k : ℕ) → Sized s → f.gather < object_limit → Placed s fs
    → 2 * pending_count s + suc (length fs) ≤ fuel → commit_loop fuel s f fs n j k ≡ commit_rest s f fs n j k
loop_fuel zero s f fs n j k z l e p = absurd (omega arith)
loop_fuel (suc fuel) s f fs n j k z l e p =
    let here : commit_loop (suc fuel) s f fs n j k ≡ turn (λ x g gs m i h. commit_loop fuel x g gs m i h) f fs n j k (step_gather_commit s f) = unfold commit_loop in refl in
    here
    ∙ turn_agrees fuel (λ x g gs m i h y b c d. loop_fuel fuel x g gs m i h y b c d) s f fs n j k (step_gather_commit s f) (step_kinds s f z l) (step-below s f) l e (omega arith)
    ∙ sym (commit_turns s f fs n j k z l e)

-- With p gathers pending before, a commit gets through with any fuel of at least 2 p - 1: as `commit_gather_tree` says.
pub commit_fuel : (fuel : ℕ) (s : Store) (g : ℕ) (a : Awaiter) → Sized s → g < object_limit → kind (object s g) ≡ Kind.PendingGather → 2 * pending_count s ≤ suc fuel
    → commit_loop fuel (open_gather_commit s g a) (record { gather = g; next = 0 }) [] 0 1 0 ≡ commit_gather_tree s g a
commit_fuel fuel s g a z l e p =
    let fall : pending_count s ≡ suc (pending_count (open_gather_commit s g a)) = open_falls s g a z l e in
    loop_fuel fuel (open_gather_commit s g a) (record { gather = g; next = 0 }) [] 0 1 0 (open_sized s g a z l e) l (unfold Placed in tt) (omega arith) ∙ sym (commit_begins s g a)

-- ---- cancel's walk

walk_at : (w : Walk) (k : ℕ) → unmarked w.marks + length w.stack ≡ k → walk k w ≡ walk_rest w
unfolding walk_rest
walk_at w k e = ap (λ (j : ℕ). walk j w) (sym e)

next_agrees : (go come : Walk → Store) (k : ℕ) (w : Walk) (gs : List ℕ) → length w.marks ≡ object_limit → unmarked w.marks + length gs ≤ suc k
    → ((x : Walk) → length x.marks ≡ object_limit → unmarked x.marks + length x.stack ≤ k → go x ≡ come x) → walk_next go w gs ≡ walk_next come w gs
unfolding walk_next
next_agrees go come k w [] m p h = refl
next_agrees go come k w (g ∷ gs) m p h =
    let v : Walk = record { store = w.store; tasks_of = w.tasks_of; marks = w.marks; stack = gs } in
    let r : CountsKept v (walk_gather v (as_awaited (object w.store g))) = gather_counts_kept v m (as_awaited (object w.store g)) in
    h (walk_gather v (as_awaited (object w.store g))) r.marked (omega (arith, r.pays))

-- The walk gets through with any fuel of at least the gathers not marked and those on the stack.
pub walk_fuel : (k : ℕ) (w : Walk) → length w.marks ≡ object_limit → unmarked w.marks + length w.stack ≤ k → walk k w ≡ walk_rest w
walk_fuel zero w m p = walk_at w 0 (omega arith)
walk_fuel (suc k) w m p =
    let here : walk (suc k) w ≡ walk_next (λ x. walk k x) w w.stack = unfold walk in refl in
    here ∙ next_agrees (λ x. walk k x) walk_rest k w w.stack m p (λ x n q. walk_fuel k x n q) ∙ sym (walk_once w m)

-- Cancel gets through with any fuel of at least one for each object: as `cancel_task` says.
pub cancel_fuel : (k : ℕ) (s : Store) (t : ℕ) → object_limit ≤ k → walk k (remove_blocked (walk_from s) t (blocked_on (task s t).state)) ≡ cancel_task s t
unfolding walk_from
cancel_fuel k s t p =
    let w : Walk = remove_blocked (walk_from s) t (blocked_on (task s t).state) in
    let r : CountsKept (walk_from s) w = blocked_counts_kept (walk_from s) (length-replicate {A = Bool} object_limit false) t in
    let all : unmarked (walk_from s).marks + length (walk_from s).stack ≡ object_limit = all_unmarked in
    walk_fuel k w r.marked (omega (arith, r.pays, all, p)) ∙ sym (cancel_walks s t)
