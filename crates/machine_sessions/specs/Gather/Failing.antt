-- How rows change in an event, one way only: `RowMoves` of the whole event, `ClimbMoves` of its deliveries and switches, `CommitMoves` of its commit.
use Rattle.std.specs.Prelude.{◌≡◌, refl, Bool, true, false, ◌⊎◌, ℕ, zero, suc, ◌<◌}
use Rattle.std.proofs.Math.Path.{sym}
use Rattle.std.proofs.Common.{ap, subst, ◌∙◌, true≢false, inr, arith}
use Rattle.std.proofs.Math.Option.{Option, none, some, some-injective}
use Rattle.std.proofs.Math.Logic.{inl}
use Rattle.asyncio.specs.declared.CallId.{CallId}
use Rattle.asyncio.specs.declared.Value.{Value}
use Rattle.asyncio.specs.declared.Error.{Error}
use Rattle.asyncio.specs.Options.{OptionValue}
use Rattle.asyncio.specs.declared.Awaiter.{Awaiter}
use Rattle.asyncio.specs.declared.CoroutineState.{CoroutineState}
use Rattle.asyncio.specs.declared.ExternalFutureState.{ExternalFutureState}
use Rattle.asyncio.specs.declared.GatherState.{GatherState}
use Rattle.asyncio.specs.declared.Object.{Object}
use Rattle.asyncio.specs.Parts.{awaiter_of, first_of, count_of}
use Rattle.machine.specs.Scheduler.{AwaitedGather, PendingExternal, as_awaited, as_pending}
use Rattle.machine.specs.Events.{new_function}
use Rattle.machine_laws.specs.DeliveryLaws.{absurd_some, awaited-object, pending-object}

-- ---- the relation, by what coroutines, externals and gathers may do

abbrev pub Moves : (CoroutineState → CoroutineState → Type 0) → (ExternalFutureState → ExternalFutureState → Type 0) → (GatherState → GatherState → Type 0) → Object → Object → Type 0
Moves C E G Object.Unmade y = y ≡ Object.Unmade
Moves C E G (Object.Coroutine f x) Object.Unmade = ⊥
Moves C E G (Object.Coroutine f x) (Object.Coroutine g y) = (g ≡ f) × C x y
Moves C E G (Object.Coroutine f x) (Object.ExternalFuture d y) = ⊥
Moves C E G (Object.Coroutine f x) (Object.GatherFuture h m y) = ⊥
Moves C E G (Object.ExternalFuture c x) Object.Unmade = ⊥
Moves C E G (Object.ExternalFuture c x) (Object.Coroutine g y) = ⊥
Moves C E G (Object.ExternalFuture c x) (Object.ExternalFuture d y) = (d ≡ c) × E x y
Moves C E G (Object.ExternalFuture c x) (Object.GatherFuture h m y) = ⊥
Moves C E G (Object.GatherFuture f n x) Object.Unmade = ⊥
Moves C E G (Object.GatherFuture f n x) (Object.Coroutine g y) = ⊥
Moves C E G (Object.GatherFuture f n x) (Object.ExternalFuture d y) = ⊥
Moves C E G (Object.GatherFuture f n x) (Object.GatherFuture h m y) = (h ≡ f) × (m ≡ n) × G x y

-- one after the other
pub moves_then : {C C' C'' : CoroutineState → CoroutineState → Type 0} {E E' E'' : ExternalFutureState → ExternalFutureState → Type 0} {G G' G'' : GatherState → GatherState → Type 0}
    → ((x y z : CoroutineState) → C x y → C' y z → C'' x z) → ((x y z : ExternalFutureState) → E x y → E' y z → E'' x z) → ((x y z : GatherState) → G x y → G' y z → G'' x z)
    → (x y z : Object) → Moves C E G x y → Moves C' E' G' y z → Moves C'' E'' G'' x z
moves_then {C} {C'} {C''} {E} {E'} {E''} {G} {G'} {G''} c e g Object.Unmade y z p q = subst (λ (w : Object). Moves C' E' G' w z) p q
moves_then c e g (Object.Coroutine f x) Object.Unmade z p q = absurd p
moves_then c e g (Object.Coroutine f x) (Object.Coroutine h y) Object.Unmade p q = absurd q
moves_then c e g (Object.Coroutine f x) (Object.Coroutine h y) (Object.Coroutine i z) p q = (q.0 ∙ p.0, c x y z p.1 q.1)
moves_then c e g (Object.Coroutine f x) (Object.Coroutine h y) (Object.ExternalFuture d z) p q = absurd q
moves_then c e g (Object.Coroutine f x) (Object.Coroutine h y) (Object.GatherFuture i m z) p q = absurd q
moves_then c e g (Object.Coroutine f x) (Object.ExternalFuture d y) z p q = absurd p
moves_then c e g (Object.Coroutine f x) (Object.GatherFuture h m y) z p q = absurd p
moves_then c e g (Object.ExternalFuture d x) Object.Unmade z p q = absurd p
moves_then c e g (Object.ExternalFuture d x) (Object.Coroutine h y) z p q = absurd p
moves_then c e g (Object.ExternalFuture d x) (Object.ExternalFuture b y) Object.Unmade p q = absurd q
moves_then c e g (Object.ExternalFuture d x) (Object.ExternalFuture b y) (Object.Coroutine i z) p q = absurd q
moves_then c e g (Object.ExternalFuture d x) (Object.ExternalFuture b y) (Object.ExternalFuture a z) p q = (q.0 ∙ p.0, e x y z p.1 q.1)
moves_then c e g (Object.ExternalFuture d x) (Object.ExternalFuture b y) (Object.GatherFuture i m z) p q = absurd q
moves_then c e g (Object.ExternalFuture d x) (Object.GatherFuture h m y) z p q = absurd p
moves_then c e g (Object.GatherFuture f n x) Object.Unmade z p q = absurd p
moves_then c e g (Object.GatherFuture f n x) (Object.Coroutine h y) z p q = absurd p
moves_then c e g (Object.GatherFuture f n x) (Object.ExternalFuture d y) z p q = absurd p
moves_then c e g (Object.GatherFuture f n x) (Object.GatherFuture h m y) Object.Unmade p q = absurd q
moves_then c e g (Object.GatherFuture f n x) (Object.GatherFuture h m y) (Object.Coroutine i z) p q = absurd q
moves_then c e g (Object.GatherFuture f n x) (Object.GatherFuture h m y) (Object.ExternalFuture d z) p q = absurd q
moves_then c e g (Object.GatherFuture f n x) (Object.GatherFuture h m y) (Object.GatherFuture i k z) p q = (q.0 ∙ p.0, q.1 ∙ p.1, g x y z p.2 q.2)

-- none at all
pub moves_same : (C : CoroutineState → CoroutineState → Type 0) (E : ExternalFutureState → ExternalFutureState → Type 0) (G : GatherState → GatherState → Type 0)
    → ((x : CoroutineState) → C x x) → ((x : ExternalFutureState) → E x x) → ((x : GatherState) → G x x) → (x : Object) → Moves C E G x x
moves_same C E G c e g Object.Unmade = refl
moves_same C E G c e g (Object.Coroutine f x) = (refl, c x)
moves_same C E G c e g (Object.ExternalFuture d x) = (refl, e x)
moves_same C E G c e g (Object.GatherFuture f n x) = (refl, refl, g x)

-- ---- an event

-- a coroutine: new, running, completed
abbrev pub CoroutineMoves : CoroutineState → CoroutineState → Type 0
CoroutineMoves CoroutineState.New y = Unit {0}
CoroutineMoves CoroutineState.Running CoroutineState.New = ⊥
CoroutineMoves CoroutineState.Running CoroutineState.Running = Unit {0}
CoroutineMoves CoroutineState.Running CoroutineState.Completed = Unit {0}
CoroutineMoves CoroutineState.Completed y = y ≡ CoroutineState.Completed

-- an awaiter stays, once it is there
abbrev pub AwaiterMoves : Awaiter → Awaiter → Type 0
AwaiterMoves Awaiter.Nobody b = Unit {0}
AwaiterMoves (Awaiter.Task t) b = b ≡ Awaiter.Task t
AwaiterMoves (Awaiter.GatherSlot g x) b = b ≡ Awaiter.GatherSlot g x

-- an external: pending, resolved or failed
abbrev pub ExternalMoves : ExternalFutureState → ExternalFutureState → Type 0
ExternalMoves (ExternalFutureState.Pending a r) (ExternalFutureState.Pending b q) = AwaiterMoves a b × (q ≡ r)
ExternalMoves (ExternalFutureState.Pending a r) (ExternalFutureState.Resolved v) = Unit {0}
ExternalMoves (ExternalFutureState.Pending a r) (ExternalFutureState.Failed e) = Unit {0}
ExternalMoves (ExternalFutureState.Resolved v) y = y ≡ ExternalFutureState.Resolved v
ExternalMoves (ExternalFutureState.Failed e) y = y ≡ ExternalFutureState.Failed e

-- a gather: pending, then awaited with one awaiter, then completed or failed
abbrev pub GatherMoves : GatherState → GatherState → Type 0
GatherMoves GatherState.Pending y = Unit {0}
GatherMoves (GatherState.Awaited a m) GatherState.Pending = ⊥
GatherMoves (GatherState.Awaited a m) (GatherState.Awaited b n) = b ≡ a
GatherMoves (GatherState.Awaited a m) GatherState.Completed = Unit {0}
GatherMoves (GatherState.Awaited a m) (GatherState.Failed e) = Unit {0}
GatherMoves GatherState.Completed y = y ≡ GatherState.Completed
GatherMoves (GatherState.Failed e) y = y ≡ GatherState.Failed e

-- a row in an event: what it is of stays, its state goes one way, and a settled one stays
abbrev pub RowMoves : Object → Object → Type 0
RowMoves = Moves CoroutineMoves ExternalMoves GatherMoves

-- ---- deliveries and switches: no awaiter is taken and no gather is committed

abbrev pub ExternalClimbs : ExternalFutureState → ExternalFutureState → Type 0
ExternalClimbs (ExternalFutureState.Pending a r) (ExternalFutureState.Pending b q) = (b ≡ a) × (q ≡ r)
ExternalClimbs (ExternalFutureState.Pending a r) (ExternalFutureState.Resolved v) = Unit {0}
ExternalClimbs (ExternalFutureState.Pending a r) (ExternalFutureState.Failed e) = Unit {0}
ExternalClimbs (ExternalFutureState.Resolved v) y = y ≡ ExternalFutureState.Resolved v
ExternalClimbs (ExternalFutureState.Failed e) y = y ≡ ExternalFutureState.Failed e

abbrev pub GatherClimbs : GatherState → GatherState → Type 0
GatherClimbs GatherState.Pending y = y ≡ GatherState.Pending
GatherClimbs (GatherState.Awaited a m) GatherState.Pending = ⊥
GatherClimbs (GatherState.Awaited a m) (GatherState.Awaited b n) = b ≡ a
GatherClimbs (GatherState.Awaited a m) GatherState.Completed = Unit {0}
GatherClimbs (GatherState.Awaited a m) (GatherState.Failed e) = Unit {0}
GatherClimbs GatherState.Completed y = y ≡ GatherState.Completed
GatherClimbs (GatherState.Failed e) y = y ≡ GatherState.Failed e

abbrev pub ClimbMoves : Object → Object → Type 0
ClimbMoves = Moves CoroutineMoves ExternalClimbs GatherClimbs

-- ---- a commit: nothing settles but gathers that it opens, and none fails

abbrev pub CoroutineStays : CoroutineState → CoroutineState → Type 0
CoroutineStays x y = y ≡ x

abbrev pub ExternalCommits : ExternalFutureState → ExternalFutureState → Type 0
ExternalCommits (ExternalFutureState.Pending a r) (ExternalFutureState.Pending b q) = AwaiterMoves a b × (q ≡ r)
ExternalCommits (ExternalFutureState.Pending a r) (ExternalFutureState.Resolved v) = ⊥
ExternalCommits (ExternalFutureState.Pending a r) (ExternalFutureState.Failed e) = ⊥
ExternalCommits (ExternalFutureState.Resolved v) y = y ≡ ExternalFutureState.Resolved v
ExternalCommits (ExternalFutureState.Failed e) y = y ≡ ExternalFutureState.Failed e

abbrev pub GatherCommits : GatherState → GatherState → Type 0
GatherCommits GatherState.Pending GatherState.Pending = Unit {0}
GatherCommits GatherState.Pending (GatherState.Awaited a m) = Unit {0}
GatherCommits GatherState.Pending GatherState.Completed = Unit {0}
GatherCommits GatherState.Pending (GatherState.Failed e) = ⊥
GatherCommits (GatherState.Awaited a m) y = y ≡ GatherState.Awaited a m
GatherCommits GatherState.Completed y = y ≡ GatherState.Completed
GatherCommits (GatherState.Failed e) y = y ≡ GatherState.Failed e

abbrev pub CommitMoves : Object → Object → Type 0
CommitMoves = Moves CoroutineStays ExternalCommits GatherCommits

-- ---- each after each

coroutine-then : (x y z : CoroutineState) → CoroutineMoves x y → CoroutineMoves y z → CoroutineMoves x z
coroutine-then CoroutineState.New y z p q = tt
coroutine-then CoroutineState.Running CoroutineState.New z p q = absurd p
coroutine-then CoroutineState.Running CoroutineState.Running z p q = q
coroutine-then CoroutineState.Running CoroutineState.Completed z p q = subst (λ (w : CoroutineState). CoroutineMoves CoroutineState.Running w) (sym q) tt
coroutine-then CoroutineState.Completed y z p q = subst (λ (w : CoroutineState). CoroutineMoves w z) p q

climb_external : (x y z : ExternalFutureState) → ExternalClimbs x y → ExternalClimbs y z → ExternalClimbs x z
climb_external (ExternalFutureState.Pending a r) (ExternalFutureState.Pending b t) (ExternalFutureState.Pending c w) p q = (q.0 ∙ p.0, q.1 ∙ p.1)
climb_external (ExternalFutureState.Pending a r) (ExternalFutureState.Pending b t) (ExternalFutureState.Resolved v) p q = tt
climb_external (ExternalFutureState.Pending a r) (ExternalFutureState.Pending b t) (ExternalFutureState.Failed e) p q = tt
climb_external (ExternalFutureState.Pending a r) (ExternalFutureState.Resolved v) z p q = subst (λ (w : ExternalFutureState). ExternalClimbs (ExternalFutureState.Pending a r) w) (sym q) tt
climb_external (ExternalFutureState.Pending a r) (ExternalFutureState.Failed e) z p q = subst (λ (w : ExternalFutureState). ExternalClimbs (ExternalFutureState.Pending a r) w) (sym q) tt
climb_external (ExternalFutureState.Resolved v) y z p q = subst (λ (w : ExternalFutureState). ExternalClimbs w z) p q
climb_external (ExternalFutureState.Failed e) y z p q = subst (λ (w : ExternalFutureState). ExternalClimbs w z) p q

climb-gather : (x y z : GatherState) → GatherClimbs x y → GatherClimbs y z → GatherClimbs x z
climb-gather GatherState.Pending y z p q = subst (λ (w : GatherState). GatherClimbs w z) p q
climb-gather (GatherState.Awaited a m) GatherState.Pending z p q = absurd p
climb-gather (GatherState.Awaited a m) (GatherState.Awaited b n) GatherState.Pending p q = absurd q
climb-gather (GatherState.Awaited a m) (GatherState.Awaited b n) (GatherState.Awaited c k) p q = q ∙ p
climb-gather (GatherState.Awaited a m) (GatherState.Awaited b n) GatherState.Completed p q = tt
climb-gather (GatherState.Awaited a m) (GatherState.Awaited b n) (GatherState.Failed e) p q = tt
climb-gather (GatherState.Awaited a m) GatherState.Completed z p q = subst (λ (w : GatherState). GatherClimbs (GatherState.Awaited a m) w) (sym q) tt
climb-gather (GatherState.Awaited a m) (GatherState.Failed e) z p q = subst (λ (w : GatherState). GatherClimbs (GatherState.Awaited a m) w) (sym q) tt
climb-gather GatherState.Completed y z p q = subst (λ (w : GatherState). GatherClimbs w z) p q
climb-gather (GatherState.Failed e) y z p q = subst (λ (w : GatherState). GatherClimbs w z) p q

-- deliveries one after the other
pub climb-then : (x y z : Object) → ClimbMoves x y → ClimbMoves y z → ClimbMoves x z
climb-then = moves_then coroutine-then climb_external climb-gather

awaiter_then : (a b c : Awaiter) → AwaiterMoves a b → AwaiterMoves b c → AwaiterMoves a c
awaiter_then Awaiter.Nobody b c p q = tt
awaiter_then (Awaiter.Task t) b c p q = subst (λ (w : Awaiter). AwaiterMoves w c) p q
awaiter_then (Awaiter.GatherSlot g x) b c p q = subst (λ (w : Awaiter). AwaiterMoves w c) p q

commit_external : (x y z : ExternalFutureState) → ExternalCommits x y → ExternalCommits y z → ExternalCommits x z
commit_external (ExternalFutureState.Pending a r) (ExternalFutureState.Pending b t) (ExternalFutureState.Pending c w) p q = (awaiter_then a b c p.0 q.0, q.1 ∙ p.1)
commit_external (ExternalFutureState.Pending a r) (ExternalFutureState.Pending b t) (ExternalFutureState.Resolved v) p q = absurd q
commit_external (ExternalFutureState.Pending a r) (ExternalFutureState.Pending b t) (ExternalFutureState.Failed e) p q = absurd q
commit_external (ExternalFutureState.Pending a r) (ExternalFutureState.Resolved v) z p q = absurd p
commit_external (ExternalFutureState.Pending a r) (ExternalFutureState.Failed e) z p q = absurd p
commit_external (ExternalFutureState.Resolved v) y z p q = subst (λ (w : ExternalFutureState). ExternalCommits w z) p q
commit_external (ExternalFutureState.Failed e) y z p q = subst (λ (w : ExternalFutureState). ExternalCommits w z) p q

-- a commit, then deliveries

then-coroutine : (x y z : CoroutineState) → CoroutineStays x y → CoroutineMoves y z → CoroutineMoves x z
then-coroutine x y z p q = subst (λ (w : CoroutineState). CoroutineMoves w z) p q

same_awaiter : (a b c : Awaiter) → AwaiterMoves a b → c ≡ b → AwaiterMoves a c
same_awaiter a b c p q = subst (AwaiterMoves a) (sym q) p

then_external : (x y z : ExternalFutureState) → ExternalCommits x y → ExternalClimbs y z → ExternalMoves x z
then_external (ExternalFutureState.Pending a r) (ExternalFutureState.Pending b t) (ExternalFutureState.Pending c w) p q = (same_awaiter a b c p.0 q.0, q.1 ∙ p.1)
then_external (ExternalFutureState.Pending a r) (ExternalFutureState.Pending b t) (ExternalFutureState.Resolved v) p q = tt
then_external (ExternalFutureState.Pending a r) (ExternalFutureState.Pending b t) (ExternalFutureState.Failed e) p q = tt
then_external (ExternalFutureState.Pending a r) (ExternalFutureState.Resolved v) z p q = absurd p
then_external (ExternalFutureState.Pending a r) (ExternalFutureState.Failed e) z p q = absurd p
then_external (ExternalFutureState.Resolved v) y z p q = subst (λ (w : ExternalFutureState). ExternalClimbs w z) p q
then_external (ExternalFutureState.Failed e) y z p q = subst (λ (w : ExternalFutureState). ExternalClimbs w z) p q

climbs_move : (x y : GatherState) → GatherClimbs x y → GatherMoves x y
climbs_move GatherState.Pending y p = tt
climbs_move (GatherState.Awaited a m) GatherState.Pending p = p
climbs_move (GatherState.Awaited a m) (GatherState.Awaited b n) p = p
climbs_move (GatherState.Awaited a m) GatherState.Completed p = tt
climbs_move (GatherState.Awaited a m) (GatherState.Failed e) p = tt
climbs_move GatherState.Completed y p = p
climbs_move (GatherState.Failed e) y p = p

then-gather : (x y z : GatherState) → GatherCommits x y → GatherClimbs y z → GatherMoves x z
then-gather GatherState.Pending y z p q = tt
then-gather (GatherState.Awaited a m) y z p q = climbs_move (GatherState.Awaited a m) z (subst (λ (w : GatherState). GatherClimbs w z) p q)
then-gather GatherState.Completed y z p q = subst (λ (w : GatherState). GatherClimbs w z) p q
then-gather (GatherState.Failed e) y z p q = subst (λ (w : GatherState). GatherClimbs w z) p q

pub commit_then : (x y z : Object) → CommitMoves x y → ClimbMoves y z → RowMoves x z
commit_then = moves_then then-coroutine then_external then-gather

-- ---- none at all

coroutine_same : (x : CoroutineState) → CoroutineMoves x x
coroutine_same CoroutineState.New = tt
coroutine_same CoroutineState.Running = tt
coroutine_same CoroutineState.Completed = refl

climb_external_same : (x : ExternalFutureState) → ExternalClimbs x x
climb_external_same (ExternalFutureState.Pending a r) = (refl, refl)
climb_external_same (ExternalFutureState.Resolved v) = refl
climb_external_same (ExternalFutureState.Failed e) = refl

climb-gather-same : (x : GatherState) → GatherClimbs x x
climb-gather-same GatherState.Pending = refl
climb-gather-same (GatherState.Awaited a m) = refl
climb-gather-same GatherState.Completed = refl
climb-gather-same (GatherState.Failed e) = refl

pub climb-same : (x : Object) → ClimbMoves x x
climb-same = moves_same CoroutineMoves ExternalClimbs GatherClimbs coroutine_same climb_external_same climb-gather-same

awaiter_same : (a : Awaiter) → AwaiterMoves a a
awaiter_same Awaiter.Nobody = tt
awaiter_same (Awaiter.Task t) = refl
awaiter_same (Awaiter.GatherSlot g x) = refl

commit_external_same : (x : ExternalFutureState) → ExternalCommits x x
commit_external_same (ExternalFutureState.Pending a r) = (awaiter_same a, refl)
commit_external_same (ExternalFutureState.Resolved v) = refl
commit_external_same (ExternalFutureState.Failed e) = refl

commit_gather_same : (x : GatherState) → GatherCommits x x
commit_gather_same GatherState.Pending = tt
commit_gather_same (GatherState.Awaited a m) = refl
commit_gather_same GatherState.Completed = refl
commit_gather_same (GatherState.Failed e) = refl

coroutine-stays : (x : CoroutineState) → CoroutineStays x x
coroutine-stays x = refl

pub commit_same : (x : Object) → CommitMoves x x
commit_same = moves_same CoroutineStays ExternalCommits GatherCommits coroutine-stays commit_external_same commit_gather_same

-- so deliveries alone, and a commit alone, move rows
pub climb_moves : (x y : Object) → ClimbMoves x y → RowMoves x y
climb_moves x y p = commit_then x x y (commit_same x) p

pub commit_moves : (x y : Object) → CommitMoves x y → RowMoves x y
commit_moves x y p = commit_then x y y p (climb-same y)

pub row_same : (x : Object) → RowMoves x x
row_same x = climb_moves x x (climb-same x)

-- ---- what a row was before deliveries

-- the same places and the same awaiter
pub record AsAwaited (x : Object) (w : AwaitedGather) : Type 0 where
  pub was : AwaitedGather
  pub awaited : as_awaited x ≡ some was
  pub first : was.first ≡ w.first
  pub count : was.count ≡ w.count
  pub awaiter : was.awaiter ≡ w.awaiter

-- ---- tests on rows

abbrev pub IsUnmade : Object → Type 0
IsUnmade Object.Unmade = Unit {0}
IsUnmade (Object.Coroutine f x) = ⊥
IsUnmade (Object.ExternalFuture c x) = ⊥
IsUnmade (Object.GatherFuture f n x) = ⊥

abbrev pub AwaitedState : GatherState → Type 0
AwaitedState GatherState.Pending = ⊥
AwaitedState (GatherState.Awaited a m) = Unit {0}
AwaitedState GatherState.Completed = ⊥
AwaitedState (GatherState.Failed e) = ⊥

abbrev pub FailedState : GatherState → Type 0
FailedState GatherState.Pending = ⊥
FailedState (GatherState.Awaited a m) = ⊥
FailedState GatherState.Completed = ⊥
FailedState (GatherState.Failed e) = Unit {0}

abbrev pub FailedRow : Object → Type 0
FailedRow Object.Unmade = ⊥
FailedRow (Object.Coroutine f x) = ⊥
FailedRow (Object.ExternalFuture c x) = ⊥
FailedRow (Object.GatherFuture f n x) = FailedState x

abbrev pub PendingState : ExternalFutureState → Type 0
PendingState (ExternalFutureState.Pending a r) = Unit {0}
PendingState (ExternalFutureState.Resolved v) = ⊥
PendingState (ExternalFutureState.Failed e) = ⊥

-- an awaited gather was awaited
pub climb-awaited : (x y : Object) (w : AwaitedGather) → ClimbMoves x y → as_awaited y ≡ some w → AsAwaited x w
climb-awaited x y w p e = by x (subst (ClimbMoves x) (awaited-object y w e) p)
  where
    by : (x : Object) → ClimbMoves x (Object.GatherFuture w.first w.count (GatherState.Awaited w.awaiter w.open_places)) → AsAwaited x w
    by Object.Unmade q = absurd (subst IsUnmade (sym q) tt)
    by (Object.Coroutine f z) q = absurd q
    by (Object.ExternalFuture c z) q = absurd q
    by (Object.GatherFuture f n GatherState.Pending) q = absurd (subst AwaitedState q.2 tt)
    by (Object.GatherFuture f n (GatherState.Awaited a m)) q =
        record { was = record { first = f; count = n; awaiter = a; open_places = m }; awaited = unfold as_awaited in refl; first = sym q.0; count = sym q.1; awaiter = sym q.2 }
    by (Object.GatherFuture f n GatherState.Completed) q = absurd (subst AwaitedState q.2 tt)
    by (Object.GatherFuture f n (GatherState.Failed e)) q = absurd (subst AwaitedState q.2 tt)

-- a pending external was pending, with the same awaiter
pub climb-pending : (x y : Object) (r : PendingExternal) → ClimbMoves x y → as_pending y ≡ some r → as_pending x ≡ some r
climb-pending x y r p e = by x (subst (ClimbMoves x) (pending-object y r e) p)
  where
    same : (c : CallId) (a : Awaiter) (o : OptionValue) → r.call ≡ c → r.awaiter ≡ a → r.stored ≡ o → as_pending (Object.ExternalFuture c (ExternalFutureState.Pending a o)) ≡ some r
    same c a o p q s = unfold as_pending in (ap (λ (x : PendingExternal). some x) (λ j. record { call = sym p j; awaiter = sym q j; stored = sym s j }))

    by : (x : Object) → ClimbMoves x (Object.ExternalFuture r.call (ExternalFutureState.Pending r.awaiter r.stored)) → as_pending x ≡ some r
    by Object.Unmade q = absurd (subst IsUnmade (sym q) tt)
    by (Object.Coroutine f z) q = absurd q
    by (Object.ExternalFuture c (ExternalFutureState.Pending a o)) q = same c a o q.0 q.1.0 q.1.1
    by (Object.ExternalFuture c (ExternalFutureState.Resolved v)) q = absurd (subst PendingState q.1 tt)
    by (Object.ExternalFuture c (ExternalFutureState.Failed v)) q = absurd (subst PendingState q.1 tt)
    by (Object.GatherFuture f n z) q = absurd q

-- a failed gather had failed before, with the same error, or was awaited
pub climb-failed : (x y : Object) (f n : ℕ) (e : Error) → ClimbMoves x y → y ≡ Object.GatherFuture f n (GatherState.Failed e)
    → (x ≡ Object.GatherFuture f n (GatherState.Failed e)) ⊎ ((w : AwaitedGather) × (as_awaited x ≡ some w))
climb-failed x y f n e p d = by x (subst (ClimbMoves x) d p)
  where
    failed-is : (a b : Error) → GatherState.Failed a ≡ GatherState.Failed b → a ≡ b
    failed-is a b q = cc

    by : (x : Object) → ClimbMoves x (Object.GatherFuture f n (GatherState.Failed e)) → (x ≡ Object.GatherFuture f n (GatherState.Failed e)) ⊎ ((w : AwaitedGather) × (as_awaited x ≡ some w))
    by Object.Unmade q = absurd (subst IsUnmade (sym q) tt)
    by (Object.Coroutine g z) q = absurd q
    by (Object.ExternalFuture c z) q = absurd q
    by (Object.GatherFuture g m GatherState.Pending) q = absurd (subst FailedState q.2 tt)
    by (Object.GatherFuture g m (GatherState.Awaited a k)) q = inr (record { first = g; count = m; awaiter = a; open_places = k }, unfold as_awaited in refl)
    by (Object.GatherFuture g m GatherState.Completed) q = absurd (subst FailedState q.2 tt)
    by (Object.GatherFuture g m (GatherState.Failed a)) q =
        let s : e ≡ a = failed-is e a q.2 in
        let t : f ≡ g = q.0 in
        let u : n ≡ m = q.1 in
        inl cc

-- ---- what stays

-- a failed gather
pub climb-stays_failed : (y : Object) (f n : ℕ) (e : Error) → ClimbMoves (Object.GatherFuture f n (GatherState.Failed e)) y → y ≡ Object.GatherFuture f n (GatherState.Failed e)
climb-stays_failed Object.Unmade f n e p = absurd p
climb-stays_failed (Object.Coroutine g z) f n e p = absurd p
climb-stays_failed (Object.ExternalFuture c z) f n e p = absurd p
climb-stays_failed (Object.GatherFuture g m z) f n e p = let a : g ≡ f = p.0 in let b : m ≡ n = p.1 in let c : z ≡ GatherState.Failed e = p.2 in cc

-- a failed external
pub climb-stays-broken : (y : Object) (c : CallId) (e : Error) → ClimbMoves (Object.ExternalFuture c (ExternalFutureState.Failed e)) y → y ≡ Object.ExternalFuture c (ExternalFutureState.Failed e)
climb-stays-broken Object.Unmade c e p = absurd p
climb-stays-broken (Object.Coroutine g z) c e p = absurd p
climb-stays-broken (Object.ExternalFuture d z) c e p = let a : d ≡ c = p.0 in let b : z ≡ ExternalFutureState.Failed e = p.1 in cc
climb-stays-broken (Object.GatherFuture g m z) c e p = absurd p

-- what is no new coroutine
pub climb-used : (x y : Object) → ClimbMoves x y → new_function x ≡ none → new_function y ≡ none
unfolding new_function
climb-used Object.Unmade y p e = ap new_function p
climb-used (Object.Coroutine f CoroutineState.New) y p e = absurd_some (sym e)
climb-used (Object.Coroutine f CoroutineState.Running) Object.Unmade p e = refl
climb-used (Object.Coroutine f CoroutineState.Running) (Object.Coroutine g CoroutineState.New) p e = absurd p.1
climb-used (Object.Coroutine f CoroutineState.Running) (Object.Coroutine g CoroutineState.Running) p e = refl
climb-used (Object.Coroutine f CoroutineState.Running) (Object.Coroutine g CoroutineState.Completed) p e = refl
climb-used (Object.Coroutine f CoroutineState.Running) (Object.ExternalFuture c z) p e = refl
climb-used (Object.Coroutine f CoroutineState.Running) (Object.GatherFuture g n z) p e = refl
climb-used (Object.Coroutine f CoroutineState.Completed) Object.Unmade p e = refl
climb-used (Object.Coroutine f CoroutineState.Completed) (Object.Coroutine g z) p e = ap (λ (w : CoroutineState). new_function (Object.Coroutine g w)) p.1
climb-used (Object.Coroutine f CoroutineState.Completed) (Object.ExternalFuture c z) p e = refl
climb-used (Object.Coroutine f CoroutineState.Completed) (Object.GatherFuture g n z) p e = refl
climb-used (Object.ExternalFuture c x) Object.Unmade p e = refl
climb-used (Object.ExternalFuture c x) (Object.Coroutine g z) p e = absurd p
climb-used (Object.ExternalFuture c x) (Object.ExternalFuture d z) p e = refl
climb-used (Object.ExternalFuture c x) (Object.GatherFuture g n z) p e = refl
climb-used (Object.GatherFuture f n x) Object.Unmade p e = refl
climb-used (Object.GatherFuture f n x) (Object.Coroutine g z) p e = absurd p
climb-used (Object.GatherFuture f n x) (Object.ExternalFuture d z) p e = refl
climb-used (Object.GatherFuture f n x) (Object.GatherFuture g m z) p e = refl

-- ---- in a commit

-- a gather that was awaited
pub commit_awaited : (x y : Object) (w : AwaitedGather) → CommitMoves x y → as_awaited x ≡ some w → y ≡ x
unfolding as_awaited
commit_awaited Object.Unmade y w p e = p
commit_awaited (Object.Coroutine f z) y w p e = absurd_some e
commit_awaited (Object.ExternalFuture c z) y w p e = absurd_some e
commit_awaited (Object.GatherFuture f n GatherState.Pending) y w p e = absurd_some e
commit_awaited (Object.GatherFuture f n (GatherState.Awaited a m)) Object.Unmade w p e = absurd p
commit_awaited (Object.GatherFuture f n (GatherState.Awaited a m)) (Object.Coroutine g z) w p e = absurd p
commit_awaited (Object.GatherFuture f n (GatherState.Awaited a m)) (Object.ExternalFuture d z) w p e = absurd p
commit_awaited (Object.GatherFuture f n (GatherState.Awaited a m)) (Object.GatherFuture g k z) w p e = let a1 : g ≡ f = p.0 in let b : k ≡ n = p.1 in let c : z ≡ GatherState.Awaited a m = p.2 in cc
commit_awaited (Object.GatherFuture f n GatherState.Completed) y w p e = absurd_some e
commit_awaited (Object.GatherFuture f n (GatherState.Failed x)) y w p e = absurd_some e

-- a coroutine
pub commit_coroutine : (y : Object) (f : ℕ) (x : CoroutineState) → CommitMoves (Object.Coroutine f x) y → y ≡ Object.Coroutine f x
commit_coroutine Object.Unmade f x p = absurd p
commit_coroutine (Object.Coroutine g z) f x p = let a : g ≡ f = p.0 in let b : z ≡ x = p.1 in cc
commit_coroutine (Object.ExternalFuture c z) f x p = absurd p
commit_coroutine (Object.GatherFuture g n z) f x p = absurd p

-- none fails
pub commit_failed : (x y : Object) (f n : ℕ) (e : Error) → CommitMoves x y → y ≡ Object.GatherFuture f n (GatherState.Failed e) → x ≡ Object.GatherFuture f n (GatherState.Failed e)
commit_failed x y f n e p d = by x (subst (CommitMoves x) d p)
  where
    failed-is : (a b : Error) → GatherState.Failed a ≡ GatherState.Failed b → a ≡ b
    failed-is a b q = cc

    by : (x : Object) → CommitMoves x (Object.GatherFuture f n (GatherState.Failed e)) → x ≡ Object.GatherFuture f n (GatherState.Failed e)
    by Object.Unmade q = absurd (subst IsUnmade (sym q) tt)
    by (Object.Coroutine g z) q = absurd q
    by (Object.ExternalFuture c z) q = absurd q
    by (Object.GatherFuture g m GatherState.Pending) q = absurd q.2
    by (Object.GatherFuture g m (GatherState.Awaited a k)) q = absurd (subst FailedState q.2 tt)
    by (Object.GatherFuture g m GatherState.Completed) q = absurd (subst FailedState q.2 tt)
    by (Object.GatherFuture g m (GatherState.Failed a)) q =
        let s : e ≡ a = failed-is e a q.2 in
        let t : f ≡ g = q.0 in
        let u : n ≡ m = q.1 in
        cc

-- a failed gather is not awaited
pub failed-awaited : {A : Type 0} (x : Object) (f n : ℕ) (e : Error) (w : AwaitedGather) → x ≡ Object.GatherFuture f n (GatherState.Failed e) → as_awaited x ≡ some w → A
unfolding as_awaited
failed-awaited x f n e w q p = absurd_some (sym (ap as_awaited q) ∙ p)

-- ---- what a row was before a commit

abbrev IsPending : GatherState → Type 0
IsPending GatherState.Pending = Unit {0}
IsPending (GatherState.Awaited a m) = ⊥
IsPending GatherState.Completed = ⊥
IsPending (GatherState.Failed e) = ⊥

abbrev IsNobody : Awaiter → Type 0
IsNobody Awaiter.Nobody = Unit {0}
IsNobody (Awaiter.Task t) = ⊥
IsNobody (Awaiter.GatherSlot g x) = ⊥

-- a gather has its places
pub commit_places : (x : Object) (f n : ℕ) (z : GatherState) → CommitMoves x (Object.GatherFuture f n z) → (first_of x ≡ f) × (count_of x ≡ n)
unfolding first_of count_of
commit_places Object.Unmade f n z p = absurd (subst IsUnmade (sym p) tt)
commit_places (Object.Coroutine g y) f n z p = absurd p
commit_places (Object.ExternalFuture c y) f n z p = absurd p
commit_places (Object.GatherFuture g m y) f n z p = (sym p.0, sym p.1)

-- a pending one was pending
pub commit_pending : (x : Object) (f n : ℕ) → CommitMoves x (Object.GatherFuture f n GatherState.Pending) → x ≡ Object.GatherFuture f n GatherState.Pending
commit_pending Object.Unmade f n p = absurd (subst IsUnmade (sym p) tt)
commit_pending (Object.Coroutine g y) f n p = absurd p
commit_pending (Object.ExternalFuture c y) f n p = absurd p
commit_pending (Object.GatherFuture g m GatherState.Pending) f n p = let a : f ≡ g = p.0 in let b : n ≡ m = p.1 in cc
commit_pending (Object.GatherFuture g m (GatherState.Awaited a k)) f n p = absurd (subst IsPending p.2 tt)
commit_pending (Object.GatherFuture g m GatherState.Completed) f n p = absurd (subst IsPending p.2 tt)
commit_pending (Object.GatherFuture g m (GatherState.Failed e)) f n p = absurd (subst IsPending p.2 tt)

-- a pending external without awaiter may take one
pub commit_takes : (x : Object) (c : CallId) (r : OptionValue) (a : Awaiter) → CommitMoves x (Object.ExternalFuture c (ExternalFutureState.Pending Awaiter.Nobody r))
    → CommitMoves x (Object.ExternalFuture c (ExternalFutureState.Pending a r))
commit_takes Object.Unmade c r a p = absurd (subst IsUnmade (sym p) tt)
commit_takes (Object.Coroutine g y) c r a p = absurd p
commit_takes (Object.ExternalFuture d (ExternalFutureState.Pending Awaiter.Nobody q)) c r a p = (p.0, (tt, p.1.1))
commit_takes (Object.ExternalFuture d (ExternalFutureState.Pending (Awaiter.Task t) q)) c r a p = absurd (subst IsNobody p.1.0 tt)
commit_takes (Object.ExternalFuture d (ExternalFutureState.Pending (Awaiter.GatherSlot g y) q)) c r a p = absurd (subst IsNobody p.1.0 tt)
commit_takes (Object.ExternalFuture d (ExternalFutureState.Resolved v)) c r a p = absurd (subst PendingState p.1 tt)
commit_takes (Object.ExternalFuture d (ExternalFutureState.Failed e)) c r a p = absurd (subst PendingState p.1 tt)
commit_takes (Object.GatherFuture g m y) c r a p = absurd p

-- an awaited one was so, or was pending
pub commit_was : (x y : Object) (w : AwaitedGather) → CommitMoves x y → as_awaited y ≡ some w → (as_awaited x ≡ some w) ⊎ ((f : ℕ) × (n : ℕ) × (x ≡ Object.GatherFuture f n GatherState.Pending))
unfolding as_awaited
commit_was x y w p e = by x (subst (CommitMoves x) (awaited-object y w e) p)
  where
    by : (x : Object) → CommitMoves x (Object.GatherFuture w.first w.count (GatherState.Awaited w.awaiter w.open_places)) → (as_awaited x ≡ some w) ⊎ ((f : ℕ) × (n : ℕ) × (x ≡ Object.GatherFuture f n GatherState.Pending))
    by Object.Unmade q = absurd (subst IsUnmade (sym q) tt)
    by (Object.Coroutine f z) q = absurd q
    by (Object.ExternalFuture c z) q = absurd q
    by (Object.GatherFuture f n GatherState.Pending) q = inr (f, n, refl)
    by (Object.GatherFuture f n (GatherState.Awaited a m)) q = inl (same f n a m q.0 q.1 q.2)
      where
        same : (f n : ℕ) (a : Awaiter) (m : ℕ) → w.first ≡ f → w.count ≡ n → GatherState.Awaited w.awaiter w.open_places ≡ GatherState.Awaited a m → as_awaited (Object.GatherFuture f n (GatherState.Awaited a m)) ≡ some w
        same f n a m p q s =
            let b : w.awaiter ≡ a = cc in
            let c : w.open_places ≡ m = cc in
            unfold as_awaited in (ap (λ (x : AwaitedGather). some x) (λ j. record { first = sym p j; count = sym q j; awaiter = sym b j; open_places = sym c j }))
    by (Object.GatherFuture f n GatherState.Completed) q = absurd (subst AwaitedState q.2 tt)
    by (Object.GatherFuture f n (GatherState.Failed z)) q = absurd (subst AwaitedState q.2 tt)
