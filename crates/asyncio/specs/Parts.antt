-- Single parts of objects, for code that wants one or two words of a row and not the whole. A part that an object has not is 0, or
-- nobody.
use Rattle.std.specs.Prelude.{ℕ}
use Rattle.asyncio.specs.Numbers.{call_id}
use Rattle.asyncio.specs.declared.CallId.{CallId}
use Rattle.asyncio.specs.declared.Awaiter.{Awaiter}
use Rattle.asyncio.specs.declared.ExternalFutureState.{ExternalFutureState}
use Rattle.asyncio.specs.declared.GatherState.{GatherState}
use Rattle.asyncio.specs.declared.Object.{Object}

-- the awaiter of a pending external or an awaited gather
unfoldable pub awaiter_of : Object → Awaiter
awaiter_of Object.Unmade = Awaiter.Nobody
awaiter_of (Object.Coroutine f s) = Awaiter.Nobody
awaiter_of (Object.ExternalFuture c (ExternalFutureState.Pending w x)) = w
awaiter_of (Object.ExternalFuture c (ExternalFutureState.Resolved v)) = Awaiter.Nobody
awaiter_of (Object.ExternalFuture c (ExternalFutureState.Failed e)) = Awaiter.Nobody
awaiter_of (Object.GatherFuture i n GatherState.Pending) = Awaiter.Nobody
awaiter_of (Object.GatherFuture i n (GatherState.Awaited w m)) = w
awaiter_of (Object.GatherFuture i n GatherState.Completed) = Awaiter.Nobody
awaiter_of (Object.GatherFuture i n (GatherState.Failed e)) = Awaiter.Nobody

-- the call of an external
unfoldable pub call_of : Object → CallId
call_of Object.Unmade = call_id 0
call_of (Object.Coroutine f s) = call_id 0
call_of (Object.ExternalFuture c s) = c
call_of (Object.GatherFuture i n s) = call_id 0

-- the first place of a gather
unfoldable pub first_of : Object → ℕ
first_of Object.Unmade = 0
first_of (Object.Coroutine f s) = 0
first_of (Object.ExternalFuture c s) = 0
first_of (Object.GatherFuture i n s) = i

-- the number of a gather's places
unfoldable pub count_of : Object → ℕ
count_of Object.Unmade = 0
count_of (Object.Coroutine f s) = 0
count_of (Object.ExternalFuture c s) = 0
count_of (Object.GatherFuture i n s) = n

-- the open places of an awaited gather
unfoldable pub open_of : Object → ℕ
open_of Object.Unmade = 0
open_of (Object.Coroutine f s) = 0
open_of (Object.ExternalFuture c s) = 0
open_of (Object.GatherFuture i n GatherState.Pending) = 0
open_of (Object.GatherFuture i n (GatherState.Awaited w m)) = m
open_of (Object.GatherFuture i n GatherState.Completed) = 0
open_of (Object.GatherFuture i n (GatherState.Failed e)) = 0
