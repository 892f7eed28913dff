-- The kind of an object: its sort and state, without what they hold; and tests on kinds.
use Rattle.std.specs.Prelude.{Bool, true, false, ℕ}
use Rattle.asyncio.specs.declared.CallId.{CallId}
use Rattle.asyncio.specs.declared.Value.{Value}
use Rattle.asyncio.specs.Options.{OptionValue}
use Rattle.asyncio.specs.declared.Error.{Error}
use Rattle.asyncio.specs.declared.Awaiter.{Awaiter}
use Rattle.asyncio.specs.declared.CoroutineState.{CoroutineState}
use Rattle.asyncio.specs.declared.ExternalFutureState.{ExternalFutureState}
use Rattle.asyncio.specs.declared.GatherState.{GatherState}
use Rattle.asyncio.specs.declared.Object.{Object}
use Rattle.asyncio.specs.declared.Kind.{Kind}

unfoldable pub kind : Object → Kind
kind Object.Unmade = Kind.Unmade
kind (Object.Coroutine f CoroutineState.New) = Kind.NewCoroutine
kind (Object.Coroutine f CoroutineState.Running) = Kind.RunningCoroutine
kind (Object.Coroutine f CoroutineState.Completed) = Kind.CompletedCoroutine
kind (Object.ExternalFuture c (ExternalFutureState.Pending a x)) = Kind.PendingExternal
kind (Object.ExternalFuture c (ExternalFutureState.Resolved v)) = Kind.ResolvedExternal
kind (Object.ExternalFuture c (ExternalFutureState.Failed e)) = Kind.FailedExternal
kind (Object.GatherFuture i n GatherState.Pending) = Kind.PendingGather
kind (Object.GatherFuture i n (GatherState.Awaited a m)) = Kind.AwaitedGather
kind (Object.GatherFuture i n GatherState.Completed) = Kind.CompletedGather
kind (Object.GatherFuture i n (GatherState.Failed e)) = Kind.FailedGather

-- a pending external or an awaited gather: the objects that have an awaiter's words
abbrev pub has_awaiter : Kind → Bool
has_awaiter Kind.Unmade = false
has_awaiter Kind.NewCoroutine = false
has_awaiter Kind.RunningCoroutine = false
has_awaiter Kind.CompletedCoroutine = false
has_awaiter Kind.PendingExternal = true
has_awaiter Kind.ResolvedExternal = false
has_awaiter Kind.FailedExternal = false
has_awaiter Kind.PendingGather = false
has_awaiter Kind.AwaitedGather = true
has_awaiter Kind.CompletedGather = false
has_awaiter Kind.FailedGather = false

abbrev pub is_coroutine : Kind → Bool
is_coroutine Kind.Unmade = false
is_coroutine Kind.NewCoroutine = true
is_coroutine Kind.RunningCoroutine = true
is_coroutine Kind.CompletedCoroutine = true
is_coroutine Kind.PendingExternal = false
is_coroutine Kind.ResolvedExternal = false
is_coroutine Kind.FailedExternal = false
is_coroutine Kind.PendingGather = false
is_coroutine Kind.AwaitedGather = false
is_coroutine Kind.CompletedGather = false
is_coroutine Kind.FailedGather = false

abbrev pub is_external : Kind → Bool
is_external Kind.Unmade = false
is_external Kind.NewCoroutine = false
is_external Kind.RunningCoroutine = false
is_external Kind.CompletedCoroutine = false
is_external Kind.PendingExternal = true
is_external Kind.ResolvedExternal = true
is_external Kind.FailedExternal = true
is_external Kind.PendingGather = false
is_external Kind.AwaitedGather = false
is_external Kind.CompletedGather = false
is_external Kind.FailedGather = false

abbrev pub is_pending_external : Kind → Bool
is_pending_external Kind.Unmade = false
is_pending_external Kind.NewCoroutine = false
is_pending_external Kind.RunningCoroutine = false
is_pending_external Kind.CompletedCoroutine = false
is_pending_external Kind.PendingExternal = true
is_pending_external Kind.ResolvedExternal = false
is_pending_external Kind.FailedExternal = false
is_pending_external Kind.PendingGather = false
is_pending_external Kind.AwaitedGather = false
is_pending_external Kind.CompletedGather = false
is_pending_external Kind.FailedGather = false

abbrev pub is_gather : Kind → Bool
is_gather Kind.Unmade = false
is_gather Kind.NewCoroutine = false
is_gather Kind.RunningCoroutine = false
is_gather Kind.CompletedCoroutine = false
is_gather Kind.PendingExternal = false
is_gather Kind.ResolvedExternal = false
is_gather Kind.FailedExternal = false
is_gather Kind.PendingGather = true
is_gather Kind.AwaitedGather = true
is_gather Kind.CompletedGather = true
is_gather Kind.FailedGather = true

abbrev pub is_pending_gather : Kind → Bool
is_pending_gather Kind.Unmade = false
is_pending_gather Kind.NewCoroutine = false
is_pending_gather Kind.RunningCoroutine = false
is_pending_gather Kind.CompletedCoroutine = false
is_pending_gather Kind.PendingExternal = false
is_pending_gather Kind.ResolvedExternal = false
is_pending_gather Kind.FailedExternal = false
is_pending_gather Kind.PendingGather = true
is_pending_gather Kind.AwaitedGather = false
is_pending_gather Kind.CompletedGather = false
is_pending_gather Kind.FailedGather = false

-- an awaited gather
abbrev pub is_awaited : Kind → Bool
is_awaited Kind.Unmade = false
is_awaited Kind.NewCoroutine = false
is_awaited Kind.RunningCoroutine = false
is_awaited Kind.CompletedCoroutine = false
is_awaited Kind.PendingExternal = false
is_awaited Kind.ResolvedExternal = false
is_awaited Kind.FailedExternal = false
is_awaited Kind.PendingGather = false
is_awaited Kind.AwaitedGather = true
is_awaited Kind.CompletedGather = false
is_awaited Kind.FailedGather = false

-- a completed gather: a list value may name it
abbrev pub is_completed : Kind → Bool
is_completed Kind.Unmade = false
is_completed Kind.NewCoroutine = false
is_completed Kind.RunningCoroutine = false
is_completed Kind.CompletedCoroutine = false
is_completed Kind.PendingExternal = false
is_completed Kind.ResolvedExternal = false
is_completed Kind.FailedExternal = false
is_completed Kind.PendingGather = false
is_completed Kind.AwaitedGather = false
is_completed Kind.CompletedGather = true
is_completed Kind.FailedGather = false

-- a gather that was committed: no longer pending
abbrev pub is_committed : Kind → Bool
is_committed Kind.Unmade = false
is_committed Kind.NewCoroutine = false
is_committed Kind.RunningCoroutine = false
is_committed Kind.CompletedCoroutine = false
is_committed Kind.PendingExternal = false
is_committed Kind.ResolvedExternal = false
is_committed Kind.FailedExternal = false
is_committed Kind.PendingGather = false
is_committed Kind.AwaitedGather = true
is_committed Kind.CompletedGather = true
is_committed Kind.FailedGather = true

-- what holds of each kind holds of every one
pub each_kind : (P : Kind → Type 0) → P Kind.Unmade → P Kind.NewCoroutine → P Kind.RunningCoroutine → P Kind.CompletedCoroutine
    → P Kind.PendingExternal → P Kind.ResolvedExternal → P Kind.FailedExternal
    → P Kind.PendingGather → P Kind.AwaitedGather → P Kind.CompletedGather → P Kind.FailedGather → (k : Kind) → P k
each_kind P a b c d e f g h i j l Kind.Unmade = a
each_kind P a b c d e f g h i j l Kind.NewCoroutine = b
each_kind P a b c d e f g h i j l Kind.RunningCoroutine = c
each_kind P a b c d e f g h i j l Kind.CompletedCoroutine = d
each_kind P a b c d e f g h i j l Kind.PendingExternal = e
each_kind P a b c d e f g h i j l Kind.ResolvedExternal = f
each_kind P a b c d e f g h i j l Kind.FailedExternal = g
each_kind P a b c d e f g h i j l Kind.PendingGather = h
each_kind P a b c d e f g h i j l Kind.AwaitedGather = i
each_kind P a b c d e f g h i j l Kind.CompletedGather = j
each_kind P a b c d e f g h i j l Kind.FailedGather = l

-- what holds of the objects of each kind, whatever they hold, holds of every one
pub each_object : (P : Object → Type 0) → P Object.Unmade
    → ((f : ℕ) → P (Object.Coroutine f CoroutineState.New))
    → ((f : ℕ) → P (Object.Coroutine f CoroutineState.Running))
    → ((f : ℕ) → P (Object.Coroutine f CoroutineState.Completed))
    → ((c : CallId) (w : Awaiter) (x : OptionValue) → P (Object.ExternalFuture c (ExternalFutureState.Pending w x)))
    → ((c : CallId) (v : Value) → P (Object.ExternalFuture c (ExternalFutureState.Resolved v)))
    → ((c : CallId) (e : Error) → P (Object.ExternalFuture c (ExternalFutureState.Failed e)))
    → ((i n : ℕ) → P (Object.GatherFuture i n GatherState.Pending))
    → ((i n : ℕ) (w : Awaiter) (m : ℕ) → P (Object.GatherFuture i n (GatherState.Awaited w m)))
    → ((i n : ℕ) → P (Object.GatherFuture i n GatherState.Completed))
    → ((i n : ℕ) (e : Error) → P (Object.GatherFuture i n (GatherState.Failed e))) → (x : Object) → P x
each_object P a b c d e f g h i j l Object.Unmade = a
each_object P a b c d e f g h i j l (Object.Coroutine k CoroutineState.New) = b k
each_object P a b c d e f g h i j l (Object.Coroutine k CoroutineState.Running) = c k
each_object P a b c d e f g h i j l (Object.Coroutine k CoroutineState.Completed) = d k
each_object P a b c d e f g h i j l (Object.ExternalFuture k (ExternalFutureState.Pending w x)) = e k w x
each_object P a b c d e f g h i j l (Object.ExternalFuture k (ExternalFutureState.Resolved v)) = f k v
each_object P a b c d e f g h i j l (Object.ExternalFuture k (ExternalFutureState.Failed x)) = g k x
each_object P a b c d e f g h i j l (Object.GatherFuture k n GatherState.Pending) = h k n
each_object P a b c d e f g h i j l (Object.GatherFuture k n (GatherState.Awaited w m)) = i k n w m
each_object P a b c d e f g h i j l (Object.GatherFuture k n GatherState.Completed) = j k n
each_object P a b c d e f g h i j l (Object.GatherFuture k n (GatherState.Failed x)) = l k n x
