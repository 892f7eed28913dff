-- The ways through an item's poll, in the shape of what the code knows there.
use Rattle.std.specs.Prelude.{◌≡◌, Bool, true, false, List, ℕ, None, Some}
use Rattle.std.proofs.Math.Path.{refl}
use Rattle.std.proofs.Common.{sym, ap, ◌∙◌, true≢false}
use Rattle.asyncio.specs.States.{is_nobody}
use Rattle.asyncio.specs.Numbers.{heap_id}
use Rattle.asyncio.specs.declared.CallId.{CallId}
use Rattle.asyncio.specs.declared.Error.{Error}
use Rattle.asyncio.specs.declared.Awaiter.{Awaiter}
use Rattle.asyncio.specs.Options.{OptionValue}
use Rattle.asyncio.specs.declared.CoroutineState.{CoroutineState}
use Rattle.asyncio.specs.declared.ExternalFutureState.{ExternalFutureState}
use Rattle.asyncio.specs.declared.GatherState.{GatherState}
use Rattle.asyncio.specs.declared.Object.{Object}
use Rattle.rows.specs.Tables.{object_at, object_put, place_at}
use Rattle.queue.specs.declared.ReadyQueue.{ReadyQueue}
use Rattle.scheduler.specs.Spawn.{Spawns, done, not_done}
use Rattle.machine.specs.Store.{Store, LogEntry, store_of, object, put_object, place}
use Rattle.machine.specs.Scheduler as scheduler
use Rattle.machine.specs.Commit.{raised, pending, Polled, gives, await_pending, await_external, polled_spawn, item_coroutine, polled, item_gather, item_object, open_from, item}
use Rattle.exec_poll.specs.Polls.{ItemPoll, poll_of, with_item, itemed, item_here, item_at}
use Rattle.exec_poll.specs.declared.item.Poll.{Poll}

-- ---- an external

module _ (s : Store) (o : ℕ) (c : CallId) (r : OptionValue) (a : Awaiter) where
  awaits : (b : Awaiter) → is_nobody b ≡ true → gives (put_object s o (Object.ExternalFuture c (ExternalFutureState.Pending a r))) pending ≡ await_pending s o c r b a
  unfolding await_pending
  awaits Awaiter.Nobody e = refl
  awaits (Awaiter.Task t) e = absurd (true≢false (sym e))
  awaits (Awaiter.GatherSlot g y) e = absurd (true≢false (sym e))

  awaits-not : (b : Awaiter) → is_nobody b ≡ false → gives s (raised Error.FutureReuse) ≡ await_pending s o c r b a
  unfolding await_pending
  awaits-not Awaiter.Nobody e = absurd (true≢false e)
  awaits-not (Awaiter.Task t) e = refl
  awaits-not (Awaiter.GatherSlot g y) e = refl

module _ (ts os ps : List ℕ) (q : ReadyQueue) (l : List LogEntry) (o : ℕ) (c : CallId) (a : Awaiter) {x : ExternalFutureState} where
  module _ (b : Awaiter) (r : OptionValue) (e : x ≡ ExternalFutureState.Pending b r) {n : Bool} (f : n ≡ is_nobody b) where
    -- it takes the awaiter
    pub external_taken : n ≡ true → {us : List ℕ} → us ≡ object_put os o (Object.ExternalFuture c (ExternalFutureState.Pending a r))
        → gives (store_of ts us ps q l) pending ≡ await_external (store_of ts os ps q l) o c x a
    unfolding await_external put_object
    external_taken t p = rw (e, p) (unfold put_object in awaits (store_of ts os ps q l) o c r a b (sym f ∙ t))

    -- it has one
    pub external_refused : n ≡ false → gives (store_of ts os ps q l) (raised Error.FutureReuse) ≡ await_external (store_of ts os ps q l) o c x a
    unfolding await_external
    external_refused t = rw e (awaits-not (store_of ts os ps q l) o c r a b (sym f ∙ t))

  -- it was settled before
  pub external_settled : {p : Polled} (y : ExternalFutureState) → x ≡ y → p ≡ await_external (store_of ts os ps q l) o c y a
      → p ≡ await_external (store_of ts os ps q l) o c x a
  external_settled y e f = rw e f

-- ---- a coroutine

coroutine-done : (ts os : List ℕ) (q : ReadyQueue) (o g : ℕ) (ts' os' : List ℕ) (q' : ReadyQueue) (b : Bool) → Spawns ts os q o g ts' os' q' b → b ≡ true
    → (ps : List ℕ) (l : List LogEntry)
    → gives (store_of ts' os' ps q' (item_coroutine (store_of ts os ps q l) g o CoroutineState.New).store.log) pending
    ≡ item_coroutine (store_of ts os ps q l) g o CoroutineState.New
unfolding item_coroutine polled_spawn
coroutine-done ts os q o g ts' os' q' b (done h) e ps l = rw (h ps l)
coroutine-done ts os q o g ts' os' q' b (not_done h) e ps l = absurd (true≢false (sym e))

coroutine-not_done : (ts os : List ℕ) (q : ReadyQueue) (o g : ℕ) (ts' os' : List ℕ) (q' : ReadyQueue) (b : Bool) → Spawns ts os q o g ts' os' q' b → b ≡ false
    → (ps : List ℕ) (l : List LogEntry)
    → gives (store_of ts' os' ps q' (item_coroutine (store_of ts os ps q l) g o CoroutineState.New).store.log) (raised Error.CoroutineReuse)
    ≡ item_coroutine (store_of ts os ps q l) g o CoroutineState.New
unfolding item_coroutine polled_spawn
coroutine-not_done ts os q o g ts' os' q' b (done h) e ps l = absurd (true≢false e)
coroutine-not_done ts os q o g ts' os' q' b (not_done h) e ps l = rw (h ps l)

coroutine-old : (s : Store) (g o : ℕ) (x : CoroutineState) → (x ≡ CoroutineState.New → ⊥) → gives s (raised Error.CoroutineReuse) ≡ item_coroutine s g o x
unfolding item_coroutine
coroutine-old s g o CoroutineState.New n = absurd (n refl)
coroutine-old s g o CoroutineState.Running n = refl
coroutine-old s g o CoroutineState.Completed n = refl

module _ (ts os ps : List ℕ) (q : ReadyQueue) (l : List LogEntry) (g o : ℕ) {x : CoroutineState} where
  -- it was awaited before
  pub coroutine_reused : (x ≡ CoroutineState.New → ⊥)
      → gives (store_of ts os ps q (item_coroutine (store_of ts os ps q l) g o x).store.log) (raised Error.CoroutineReuse)
      ≡ item_coroutine (store_of ts os ps q l) g o x
  coroutine_reused n = let f = coroutine-old (store_of ts os ps q l) g o x n in rw (← f)

  module _ (e : x ≡ CoroutineState.New) {us vs : List ℕ} {r : ReadyQueue} {b : Bool} (h : Spawns ts os q o g us vs r b) where
    -- a task was spawned
    pub coroutine-spawned : b ≡ true
        → gives (store_of us vs ps r (item_coroutine (store_of ts os ps q l) g o x).store.log) pending ≡ item_coroutine (store_of ts os ps q l) g o x
    coroutine-spawned t = rw e (coroutine-done ts os q o g us vs r b h t ps l)

    -- a live task drives it
    pub coroutine-driven : b ≡ false
        → gives (store_of us vs ps r (item_coroutine (store_of ts os ps q l) g o x).store.log) (raised Error.CoroutineReuse) ≡ item_coroutine (store_of ts os ps q l) g o x
    coroutine-driven t = rw e (coroutine-not_done ts os q o g us vs r b h t ps l)

-- ---- an item

module _ (ts os ps : List ℕ) (q : ReadyQueue) (l : List LogEntry) (g o : ℕ) {x : Object} (e : x ≡ object_at os o) where
  abbrev here : Store
  here = store_of ts os ps q l

  -- no such object: nothing yet
  pub item-unmade : x ≡ Object.Unmade → with_item (store_of ts os ps q (item_here here g o).store.log) (Some Poll.Pending) ≡ item_here here g o
  unfolding item_object object
  item-unmade f = rw (← e, f)

  pub item-spawns : (n : ℕ) (y : CoroutineState) → x ≡ Object.Coroutine n y → {us vs : List ℕ} {r : ReadyQueue} (p : Poll)
      → gives (store_of us vs ps r (item_coroutine here g o y).store.log) (poll_of p) ≡ item_coroutine here g o y
      → with_item (store_of us vs ps r (item_here here g o).store.log) (Some p) ≡ item_here here g o
  unfolding item_object object
  item-spawns n y f p h = rw (← e, f) (ap (λ (d : Polled). itemed here (polled d)) h)

  pub item_awaits : (c : CallId) (y : ExternalFutureState) → x ≡ Object.ExternalFuture c y → {vs : List ℕ} (p : Poll)
      → gives (store_of ts vs ps q l) (poll_of p) ≡ await_external here o c y (Awaiter.GatherSlot (heap_id g) (heap_id o))
      → with_item (store_of ts vs ps q (item_here here g o).store.log) (Some p) ≡ item_here here g o
  unfolding item_object object
  item_awaits c y f p h = rw (← e, f, ← h)

  pub item_nests : (i n : ℕ) (y : GatherState) → x ≡ Object.GatherFuture i n y → (r : ItemPoll) → with_item here r ≡ itemed here (item_gather here o y)
      → with_item (store_of ts os ps q (item_here here g o).store.log) r ≡ item_here here g o
  unfolding item_object object
  item_nests i n y f (Some p) h = rw (← e, f, ← h)
  item_nests i n y f None h = rw (← e, f, ← h)

module _ (ts os ps : List ℕ) (q : ReadyQueue) (l : List LogEntry) (g : ℕ) (w : scheduler.AwaitedGather) (o : ℕ) {b : Bool}
    (e : b ≡ open_from (λ p. place_at ps p) w o 0 w.count) where
  abbrev from : Store
  from = store_of ts os ps q l

  -- an open place names it
  pub item_open : b ≡ true → with_item (store_of ts os ps q (item_at from g w o).store.log) (Some Poll.Pending) ≡ item_at from g w o
  unfolding item place
  item_open f = rw (← e, f)

  -- none does
  pub item_first : b ≡ false → {us vs : List ℕ} {r : ReadyQueue} (p : ItemPoll)
      → with_item (store_of us vs ps r (item_here from g o).store.log) p ≡ item_here from g o
      → with_item (store_of us vs ps r (item_at from g w o).store.log) p ≡ item_at from g w o
  unfolding item place
  item_first f p h = rw (← e, f) h
