-- The ways through the items of a gather, in the shape of what the code knows there.
use Rattle.std.specs.Prelude.{◌≡◌, refl, Bool, true, false, not, eqb, List, [], length, None, Some}
use Rattle.std.specs.Int.Bits.{bit_or, or_add_and}
use Rattle.std.proofs.Common.{sym, ap, ◌∙◌, true≢false, eqb-true, eq-eqb}
use Rattle.std.proofs.lemmas.Nat.Bits.{and_pow, bit_at-lt}
use Rattle.std.proofs.Math.Option.{none, some, some-injective}
use Prim.Native.Nat.{ℕ, suc, ◌+◌, ◌-◌, ◌*◌, ◌/◌, ◌%◌, ◌^◌, ◌≤◌, ◌<◌}
use native.Mathlib.Omega.{arith}
use Rattle.asyncio.specs.Limits.{object_limit, item_limit, place_limit, tasks_length, objects_length, places_length}
use Rattle.asyncio.specs.States.{pick}
use Rattle.asyncio.specs.Parts.{count_of}
use Rattle.asyncio.specs.Ranges.{PlacesFit}
use Rattle.asyncio.specs.declared.HeapId.{HeapId}
use Rattle.asyncio.specs.declared.Value.{Value}
use Rattle.asyncio.specs.declared.Error.{Error}
use Rattle.asyncio.specs.declared.GatherState.{GatherState}
use Rattle.asyncio.specs.declared.Object.{Object}
use Rattle.rows.specs.Tables.{object_at, object_put, place_at, place_put}
use Rattle.rows.specs.TableLaws.{place_at-fits}
use Rattle.queue.specs.declared.ReadyQueue.{ReadyQueue}
use Rattle.machine.specs.Store.{Store, LogEntry, store_of, object, put_object, place, put_place}
use Rattle.machine.specs.Scheduler.{as_awaited, bit}
use Rattle.machine.specs.Commit.{gives, polled, nested, item, open_place, fill_place, at_end, at_error, put_polled, put_item, step_item, step_items, step_gather_commit}
use Rattle.machine.specs.Commit as machine
use Rattle.machine_laws.specs.BitLaws.{shifted_one}
use Rattle.machine_laws.specs.Views.{Sized}
use Rattle.machine_laws.specs.DeliveryLaws.{absurd_some}
use Rattle.machine_laws.specs.CommitLaws.{same_kinds_refl, awaited_count, StopKeeps, step_item_kinds}
use Rattle.scheduler_states.specs.Awaited.{awaited_gather_of, option_awaited}
use Rattle.scheduler_states.specs.AwaitedLaws.{awaited_range}
use Rattle.exec_poll.specs.Polls.{ItemPoll, poll_of, Itemed, with_item, itemed, item_at}
use Rattle.exec_commit.specs.Steps.{Goes, ItemStop, stepped, step_at, stopped, stop_log, WalksOn, frame}
use Rattle.scheduler_states.specs.declared.awaited.AwaitedGather.{AwaitedGather}
use Rattle.scheduler_states.specs.Awaited.{OptionAwaited}
use Rattle.exec_poll.specs.declared.item.Poll.{Poll}
use Rattle.exec_commit.specs.declared.step.Stop.{Stop}

-- ---- a place is opened or filled

-- a bit set by `|`: added where it is clear
or_bit : (m i : ℕ) → bit_or m (2 ^ i) ≡ pick (bit m i) m (m + 2 ^ i)
or_bit m i = by (eqb (m / 2 ^ i % 2) 0) refl
  where
    total : bit_or m (2 ^ i) + m / 2 ^ i % 2 * 2 ^ i ≡ m + 2 ^ i
    total = rw (← and_pow m i) (or_add_and m (2 ^ i))

    by : (b : Bool) → eqb (m / 2 ^ i % 2) 0 ≡ b → bit_or m (2 ^ i) ≡ pick (not b) m (m + 2 ^ i)
    by true e =
        let z : m / 2 ^ i % 2 ≡ 0 = eqb-true (m / 2 ^ i % 2) 0 e in
        let t = rw z at total in
        omega arith
    by false e =
        let n : (m / 2 ^ i % 2 ≡ 0 → ⊥) = λ z. true≢false (sym (eq-eqb (m / 2 ^ i % 2) 0 z) ∙ e) in
        let k : m / 2 ^ i % 2 < 2 = bit_at-lt m i in
        let z : m / 2 ^ i % 2 ≡ 1 = omega arith in
        let t = rw z at total in
        omega arith

module _ (ts os ps : List ℕ) (q : ReadyQueue) (l : List LogEntry) (w : AwaitedGather) (i : ℕ) where
  pub place_opened : (g : ℕ) → i < item_limit
      → {us : List ℕ} → us ≡ object_put os g (Object.GatherFuture w.first w.count (GatherState.Awaited w.awaiter (bit_or w.open_places (1 * 2 ^ i % 4294967296))))
      → store_of ts us ps q l ≡ open_place (store_of ts os ps q l) g (awaited_gather_of w) i
  unfolding open_place put_object
  place_opened g h p = rw (p, shifted_one i h, or_bit w.open_places i)

  pub place-filled : (v : Value) {h : HeapId} → h ≡ (place_at ps (w.first + i)).item
      → {rs : List ℕ} → rs ≡ place_put ps (w.first + i) (record { item = h; result = Some v })
      → store_of ts os rs q l ≡ fill_place (store_of ts os ps q l) (awaited_gather_of w) i v
  unfolding fill_place put_place place
  place-filled v e p = rw (p, e)

  module _ (g : ℕ) {p : Poll} (go : Goes) where
    pub put-ready : (v : Value) → p ≡ Poll.Ready v → {rs : List ℕ} → store_of ts os rs q l ≡ fill_place (store_of ts os ps q l) (awaited_gather_of w) i v
        → go (store_of ts os rs q l) ≡ put_polled g (awaited_gather_of w) i (store_of ts os ps q l) (poll_of p) go
    unfolding put_polled
    put-ready v e f = rw (e, ← f)

    pub put-raised : (x : Error) → p ≡ Poll.Raised x → at_error (store_of ts os ps q l) x ≡ put_polled g (awaited_gather_of w) i (store_of ts os ps q l) (poll_of p) go
    unfolding put_polled
    put-raised x e = rw e

    pub put_pending : p ≡ Poll.Pending → {us : List ℕ} → store_of ts us ps q l ≡ open_place (store_of ts os ps q l) g (awaited_gather_of w) i
        → go (store_of ts us ps q l) ≡ put_polled g (awaited_gather_of w) i (store_of ts os ps q l) (poll_of p) go
    unfolding put_polled
    put_pending e f = rw (e, ← f)

-- ---- one item

-- a place of a gather, by the count in its row
pub record InPlace (w : AwaitedGather) (i : ℕ) : Type 0 where
  pub in_places : w.first + i < place_limit
  pub in_items : i < item_limit

pub place_range : (os : List ℕ) (g : ℕ) (a : OptionAwaited) (w : AwaitedGather) (i : ℕ) → option_awaited a ≡ as_awaited (object_at os g) → a ≡ Some w
    → i < count_of (object_at os g) → InPlace w i
place_range os g a w i e f h =
    let n : w.count ≡ count_of (object_at os g) = awaited_count (object_at os g) (awaited_gather_of w) (sym (rw f at e)) in
    let r : PlacesFit w.first w.count = awaited_range os g a w e f in
    record { in_places = omega (arith, r.within); in_items = omega (arith, r.at_most) }

-- the object that a place names is in range
pub item_range : (ps : List ℕ) (p : ℕ) {o : HeapId} → o ≡ (place_at ps p).item → o.0 < object_limit
item_range ps p e = rw e (place_at-fits ps p).item_fits

itemed-nested : (s u : Store) (x : machine.Item) → record { store = u; poll = none } ≡ itemed s x → (x ≡ nested) × (s ≡ u)
itemed-nested s u (polled r) e = absurd_some (ap (λ (y : Itemed). y.poll) e)
itemed-nested s u nested e = (refl, sym (ap (λ (y : Itemed). y.store) e))

itemed-polled : (s u : Store) (p : machine.Poll) (x : machine.Item) → record { store = u; poll = some p } ≡ itemed s x → x ≡ polled (gives u p)
itemed-polled s u p (polled r) e = ap polled (by r.store r.poll e)
  where
    by : (v : Store) (y : machine.Poll) → ◌≡◌ {A = Itemed} (record { store = u; poll = some p }) (record { store = v; poll = some y }) → gives v y ≡ gives u p
    by v y e = rw (ap (λ (z : Itemed). z.store) e, some-injective p y (ap (λ (z : Itemed). z.poll) e))
itemed-polled s u p nested e = absurd_some (sym (ap (λ (y : Itemed). y.poll) e))

-- the log where a walk stopped is that of its store
stopped-log : (s : Store) (x : Stop) → stop_log (stopped s x) ≡ s.log
unfolding stopped
stopped-log s Stop.End = refl
stopped-log s (Stop.Nested i o) = refl
stopped-log s (Stop.Raised e) = refl

-- so is that of a step
stepped-log : (s : Store) (x : ItemStop) → stop_log (stepped s x at_end) ≡ s.log
unfolding stepped
stepped-log s None = refl
stepped-log s (Some x) = stopped-log s x

own_step : (us vs rs : List ℕ) (r : ReadyQueue) (k : List LogEntry) (x : ItemStop) (m : Goes → machine.Stop)
    → ((go : Goes) → stepped (store_of us vs rs r k) x go ≡ m go) → (go : Goes) → stepped (store_of us vs rs r (stop_log (m at_end))) x go ≡ m go
own_step us vs rs r k x m h go =
    let e : k ≡ stop_log (m at_end) = sym (stepped-log (store_of us vs rs r k) x) ∙ ap stop_log (h at_end) in
    rw (← e) (h go)

module _ (ts os ps : List ℕ) (q : ReadyQueue) (l : List LogEntry) (g i : ℕ) (a : OptionAwaited) (e : option_awaited a ≡ as_awaited (object_at os g)) where
  abbrev here : Store
  here = store_of ts os ps q l

  -- the gather is not awaited
  pub step-none : a ≡ None → (go : Goes) → stepped (store_of ts os ps q (stop_log (step_at here g i at_end))) (Some Stop.End) go ≡ step_at here g i go
  unfolding step_item object stepped stopped
  step-none f = own_step ts os ps q l (Some Stop.End) (λ go. step_at here g i go) (λ go. rw (← e, f))

  module _ (w : AwaitedGather) (f : a ≡ Some w) {o : HeapId} (n : o ≡ (place_at ps (w.first + i)).item)
      {us vs : List ℕ} {r : ReadyQueue} (x : ItemPoll)
      (h : with_item (store_of us vs ps r (item_at here g (awaited_gather_of w) o.0).store.log) x ≡ item_at here g (awaited_gather_of w) o.0) where
    abbrev there : List LogEntry
    there = (item_at here g (awaited_gather_of w) o.0).store.log

    -- a nested gather
    pub step-nested : x ≡ None → (go : Goes)
        → stepped (store_of us vs ps r (stop_log (step_at here g i at_end))) (Some (Stop.Nested i o)) go ≡ step_at here g i go
    unfolding step_item object place put_item stepped stopped
    step-nested y =
        let k : (item here g (awaited_gather_of w) o.0 ≡ nested) × (here ≡ store_of us vs ps r there) = itemed-nested here (store_of us vs ps r there) (item here g (awaited_gather_of w) o.0) (rw y at h) in
        own_step us vs ps r there (Some (Stop.Nested i o)) (λ go. step_at here g i go) (λ go. rw (← e, f, ← n, k.0, ← k.1))

    -- what was polled is put into its place
    pub step-polled : (p : Poll) → x ≡ Some p → (vs' rs : List ℕ) (y : ItemStop)
        → ((k : List LogEntry) (go : Goes) → stepped (store_of us vs' rs r k) y go ≡ put_polled g (awaited_gather_of w) i (store_of us vs ps r k) (poll_of p) go)
        → (go : Goes) → stepped (store_of us vs' rs r (stop_log (step_at here g i at_end))) y go ≡ step_at here g i go
    unfolding step_item object place put_item
    step-polled p z vs' rs y b =
        let k : item here g (awaited_gather_of w) o.0 ≡ polled (gives (store_of us vs ps r there) (poll_of p)) =
        itemed-polled here (store_of us vs ps r there) (poll_of p) (item here g (awaited_gather_of w) o.0) (rw z at h) in
        own_step us vs' rs r there y (λ go. step_at here g i go) (λ go. rw (← e, f, ← n, k) (b there go))

-- ---- the items of a gather

own_stop : (us vs rs : List ℕ) (r : ReadyQueue) (k : List LogEntry) (x : Stop) (m : machine.Stop) → stopped (store_of us vs rs r k) x ≡ m
    → stopped (store_of us vs rs r (stop_log m)) x ≡ m
own_stop us vs rs r k x m h =
    let e : k ≡ stop_log m = sym (stopped-log (store_of us vs rs r k) x) ∙ ap stop_log h in
    rw (← e) h

pub walk_begins : (ts os ps : List ℕ) (q : ReadyQueue) (g i : ℕ) {n : ℕ} → n ≡ count_of (object_at os g)
    → WalksOn (λ l. step_gather_commit (store_of ts os ps q l) (frame g i)) ts os ps q g i n
unfolding step_gather_commit object
walk_begins ts os ps q g i e = record { log = λ l. l; walks_on = λ l. rw e }

module _ (M : List LogEntry → machine.Stop) (ts os ps : List ℕ) (q : ReadyQueue) (g i n : ℕ) (c : WalksOn M ts os ps q g i n) where
  -- no item is left
  pub walk_ends : n ≤ i → (l : List LogEntry) → stopped (store_of ts os ps q (stop_log (M l))) Stop.End ≡ M l
  unfolding step_items stopped
  walk_ends h l =
      let k : n - i ≡ 0 = omega arith in
      own_stop ts os ps q (c.log l) Stop.End (M l) (rw k at (c.walks_on l))

  module _ (h : i < n) (us vs rs : List ℕ) (r : ReadyQueue) (x : ItemStop)
      (s : (l : List LogEntry) (go : Goes) → stepped (store_of us vs rs r (stop_log (step_at (store_of ts os ps q l) g i at_end))) x go ≡ step_at (store_of ts os ps q l) g i go) where
    abbrev log_now : List LogEntry → List LogEntry
    log_now l = stop_log (step_at (store_of ts os ps q (c.log l)) g i at_end)

    -- one item, then the rest
    turns : (l : List LogEntry) → stepped (store_of us vs rs r (log_now l)) x (λ y. step_items (n - (i + 1)) y g (i + 1)) ≡ M l
    unfolding step_items
    turns l =
        let k : n - i ≡ suc (n - (i + 1)) = omega arith in
        s (c.log l) (λ y. step_items (n - (i + 1)) y g (i + 1)) ∙ (rw k at (c.walks_on l))

    pub walk-turns : x ≡ None → WalksOn M us vs rs r g (i + 1) n
    unfolding stepped
    walk-turns e = record { log = log_now; walks_on = λ l. rw e at (turns l) }

    pub walk-stops : (y : Stop) → x ≡ Some y → (l : List LogEntry) → stopped (store_of us vs rs r (stop_log (M l))) y ≡ M l
    unfolding stepped
    walk-stops y e l = own_stop us vs rs r (log_now l) y (M l) (rw e at (turns l))

-- an item leaves its gather as many places
pub walk_counts : (ts os ps : List ℕ) (q : ReadyQueue) (g i : ℕ) (us vs rs : List ℕ) (r : ReadyQueue) (x : ItemStop)
    → length ts ≡ tasks_length → length os ≡ objects_length → length ps ≡ places_length → g < object_limit
    → ((l : List LogEntry) (go : Goes) → stepped (store_of us vs rs r (stop_log (step_at (store_of ts os ps q l) g i at_end))) x go ≡ step_at (store_of ts os ps q l) g i go)
    → x ≡ None → count_of (object_at vs g) ≡ count_of (object_at os g)
unfolding StopKeeps object stepped
walk_counts ts os ps q g i us vs rs r x a b d h s e =
    let z : Sized (store_of ts os ps q []) = record { tasks_sized = a; objects_sized = b; places_sized = d } in
    let k : StopKeeps (store_of ts os ps q []) (step_at (store_of ts os ps q []) g i at_end) =
    step_item_kinds g i (store_of ts os ps q []) at_end z h (λ u y. same_kinds_refl u y) in
    let m : StopKeeps (store_of ts os ps q []) (at_end (store_of us vs rs r (stop_log (step_at (store_of ts os ps q []) g i at_end)))) =
    rw (← (rw e at (s [] at_end))) at k in
    m.counts g
