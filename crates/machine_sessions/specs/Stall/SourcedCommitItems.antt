-- The walk through the items of a gather on the commit's stack keeps every open place with its source.
use Rattle.std.specs.Prelude.{◌≡◌, Bool, List, ℕ, zero, suc, ◌+◌, ◌<◌, ltb}
use Rattle.std.proofs.Math.Path.{refl, subst}
use Rattle.std.proofs.Common.{ap, sym, ◌∙◌, inl, inr, arith, ltb-true}
use Rattle.std.proofs.Math.Bool.{true, false}
use Rattle.std.proofs.Math.Option.{Option, none, some}
use Rattle.std.proofs.Math.Dec.{T, ltb→lt}
use Rattle.asyncio.specs.declared.Value.{Value}
use Rattle.asyncio.specs.declared.Awaiter.{Awaiter}
use Rattle.asyncio.specs.declared.CoroutineState.{CoroutineState}
use Rattle.asyncio.specs.declared.ExternalFutureState.{ExternalFutureState}
use Rattle.asyncio.specs.declared.GatherState.{GatherState}
use Rattle.asyncio.specs.declared.Object.{Object}
use Rattle.asyncio.specs.declared.Place.{Place}
use Rattle.asyncio.specs.declared.Header.{Header}
use Rattle.asyncio.specs.Limits.{object_limit, place_limit, task_limit}
use Rattle.asyncio.specs.Ranges.{ObjectFits, ValueFits}
use Rattle.asyncio.specs.Numbers.{heap_id}
use Rattle.asyncio.specs.States.{pick}
use Rattle.machine.specs.Store.{Store, view, object, place, header, put_object}
use Rattle.machine.specs.Scheduler.{AwaitedGather, PendingExternal, as_awaited, as_pending, task_of, spawn_as, spawn_unless, spawn}
use Rattle.machine.specs.Commit.{Poll, ready, raised, pending, gives, await_pending, await_external, Item, polled, nested, polled_spawn, item_coroutine, item_gather, item_object, open_from, item}
use Rattle.machine.specs.Commit.{open_place, fill_place, Stop, at_end, at_nested, at_error, put_polled, put_item, step_item, step_items, Frame}
use Rattle.machine.specs.Sound.{places_below, items_below, object_in_range}
use Rattle.machine_laws.specs.Facts.{Open}
use Rattle.machine_laws.specs.FactLaws.{open_found}
use Rattle.machine_laws.specs.TestLaws.{holds, below}
use Rattle.machine_laws.specs.StoreLaws.{sized-put_object, header_put-object, object_put-object, object_put-other, object-fits, place-fits, header-fits}
use Rattle.machine_laws.specs.SizedLaws.{sized-spawn_as}
use Rattle.machine_laws.specs.DeliveryLaws.{absurd_some, awaited-object}
use Rattle.machine_theorems.specs.Soundness.Fill.{gather_within, open_small, awaits_on}
use Rattle.machine_theorems.specs.Soundness.Memory.{Memory}
use Rattle.machine_theorems.specs.Soundness.CommitSteps.{wider, wider_small}
use Rattle.machine_theorems.specs.Soundness.CommitInv.{OnTop, Stacked, bottom, above, Inv}
use Rattle.machine_theorems.specs.Soundness.CommitLoop.{awaits_fits}
use Rattle.machine_theorems.specs.Soundness.CommitItems.{Goes, PollOk, ItemOk, goes-length, one_keeps}
use Rattle.machine_laws.specs.DeliveryLaws.{pending-object}
use Rattle.machine_sessions.specs.Stall.NoStall.{by_external}
use Rattle.machine_sessions.specs.Stall.SourcedCommitSteps.{Lit, fill_sourced, place_sourced, takes-lit, spawn_source, spawn_sourced, spawn-object, spawn-place, spawn-header}

-- a gather on the stack is awaited
pub stack_awaited : {n : ℕ} {os : ℕ → Object} {ps : ℕ → Place} {root t g : ℕ} {a : Awaiter} {fs : List Frame} {k : ℕ} (w : AwaitedGather) → as_awaited (os g) ≡ some w → Stacked n os ps root t g a fs k
    → (q : ℕ) → OnTop g fs q → (v : AwaitedGather) × (as_awaited (os q) ≡ some v)
stack_awaited {os = os} w e (bottom d a) q (inl z) = (w, subst (λ (j : ℕ). as_awaited (os j) ≡ some w) (sym z) e)
stack_awaited w e (bottom d a) q (inr z) = absurd z
stack_awaited {os = os} w e (above v j op lt nm lo aw rm rest) q (inl z) = (w, subst (λ (j : ℕ). as_awaited (os j) ≡ some w) (sym z) e)
stack_awaited w e (above v j op lt nm lo aw rm rest) q (inr z) = stack_awaited v op.awaited rest q z

-- where the walk stops
abbrev pub StopLit : (G : ℕ → Type 0) → ℕ → List Frame → Stop → Type 0
StopLit G g fs (at_end x) = Lit G (OnTop g fs) x
StopLit G g fs (at_nested x i o) = Lit G (OnTop g fs) x
StopLit G g fs (at_error x e) = Lit G (OnTop g fs) x

module _ (G : ℕ → Type 0) (root t g : ℕ) (fs : List Frame) (i : ℕ) (s : Store) (mem : Memory s) (h : Inv root t 0 (OnTop g fs) (view s) g i fs) (less : i < h.w.count) (k : Lit G (OnTop g fs) s) where
  abbrev w : AwaitedGather
  w = h.w

  abbrev o : ℕ
  o = (place s (w.first + i)).item.0

  abbrev Q : ℕ → Type 0
  Q = OnTop g fs

  -- what the item in place i gave, put into it
  abbrev PollLit : Store → Poll → Type 0
  PollLit x (ready v) = Lit G Q (fill_place x w i v)
  PollLit x (raised e) = Lit G Q x
  PollLit x pending = Lit G Q (open_place x g w i)

  abbrev ItemLit : Item → Type 0
  ItemLit nested = Unit {0}
  ItemLit (polled r) = PollLit r.store r.poll

  top : as_awaited (object s g) ≡ some w
  unfolding view
  top = h.opened.awaited

  made : g < (header s).made
  unfolding view
  made = h.opened.made

  low-g : g < object_limit
  low-g = omega (arith, made, (header-fits s).made_fits)

  low-o : o < object_limit
  low-o = (place-fits s (w.first + i)).item_fits

  lower : o < g
  unfolding view items_below
  lower =
      let low : T (items_below (place s) g (Object.GatherFuture w.first w.count (GatherState.Awaited w.awaiter w.open_places))) =
      subst (λ (y : Object). T (items_below (place s) g y)) (awaited-object (object s g) w top) (h.but.items g made) in
      ltb→lt _ g (below w.count _ low i less)

  wide_fits : ObjectFits (awaits_on w (wider w i))
  unfolding view
  wide_fits = awaits_fits s g w top (wider w i) (wider_small w i less (open_small g w h.but made top))

  low-place : w.first + i < place_limit
  unfolding view
  low-place = omega (arith, gather_within g w h.but made top, less, h.but.fits.used_fits)

  -- what is no awaited gather is not on the stack
  not_on : as_awaited (object s o) ≡ none → Q o → ⊥
  unfolding view
  not_on e q = let r = stack_awaited w top h.stack o q in absurd_some (sym e ∙ r.1)

  -- another place of an item that is open
  again : Open (place s) w o → ItemLit (polled (gives s pending))
  again op =
      place_sourced Q s g w i o mem.sized made low-g wide_fits top refl (k.sourced.sources g o w made top op) (λ q. k.unnamed o g w q made top op) k

  fills : (v : Value) → ValueFits v → ItemLit (polled (gives s (ready v)))
  fills v f = fill_sourced Q s w i v mem.sized low-place f k

  -- a pending external without awaiter takes the slot
  takes : (p : PendingExternal) → as_pending (object s o) ≡ some p → p.awaiter ≡ Awaiter.Nobody → as_awaited (object s o) ≡ none
      → ItemLit (polled (gives (put_object s o (Object.ExternalFuture p.call (ExternalFutureState.Pending (Awaiter.GatherSlot (heap_id g) (heap_id o)) p.stored))) pending))
  takes p e free none-w =
      place_sourced Q s2 g w i o (sized-put_object s o x mem.sized) (subst (λ (y : Header). g < y.made) (sym (header_put-object s o x)) made) low-g wide_fits
      (ap as_awaited (object_put-other s o g x (λ q. apart q)) ∙ top) (unfold place put_object in refl)
      (by_external (record { call = p.call; awaiter = Awaiter.GatherSlot (heap_id g) (heap_id o); stored = p.stored })
      (ap as_pending (object_put-object s o x mem.sized low-o fit) ∙ (unfold as_pending in refl)) refl)
      (λ q. absurd (not_on none-w q)) (takes-lit Q s o p x mem.sized low-o fit e free (unfold as_awaited in refl) k)
    where
      x : Object
      x = Object.ExternalFuture p.call (ExternalFutureState.Pending (Awaiter.GatherSlot (heap_id g) (heap_id o)) p.stored)

      s2 : Store
      s2 = put_object s o x

      apart : g ≡ o → ⊥
      apart q = let l : o < g = lower in omega arith

      fit : ObjectFits x
      fit =
          let old : ObjectFits (Object.ExternalFuture p.call (ExternalFutureState.Pending p.awaiter p.stored)) = subst ObjectFits (pending-object (object s o) p e) (object-fits s o) in
          (old.0, ((low-g, low-o), old.1.1))

  -- a task is spawned for a new coroutine
  spawns : as_awaited (object s o) ≡ none → ItemLit (polled (polled_spawn s (spawn s o g)))
  unfolding spawn
  spawns none-w = by (task_of s o)
    where
      spawned-lit : (header s).next < task_limit → ItemLit (polled (polled_spawn s (some (spawn_as s (header s).next o g))))
      spawned-lit room = unfold polled_spawn in
          (place_sourced Q (spawn_as s (header s).next o g) g w i o (sized-spawn_as s (header s).next o g mem.sized)
          (subst (λ (y : Header). g < y.made) (sym (spawn-header G s Q _ o g mem room low-o low-g made h.but)) made) low-g wide_fits
          (ap as_awaited (spawn-object G s Q _ o g mem room low-o low-g made h.but g) ∙ top)
          (ap (λ (y : Place). y.item.0) (spawn-place G s Q _ o g mem room low-o low-g made h.but (w.first + i)))
          (spawn_source G s Q _ o g mem room low-o low-g made h.but) (λ q. absurd (not_on none-w q)) (spawn_sourced G s Q _ o g mem room low-o low-g made h.but k))

      room-or : (b : Bool) → ltb (header s).next task_limit ≡ b → ItemLit (polled (polled_spawn s (pick b (some (spawn_as s (header s).next o g)) none)))
      room-or true z = spawned-lit (ltb-true (header s).next task_limit z)
      room-or false z = unfold polled_spawn in k

      by : (d : Option ℕ) → ItemLit (polled (polled_spawn s (spawn_unless s o g d)))
      by (some v) = unfold spawn_unless polled_spawn in k
      by none = unfold spawn_unless in (room-or (ltb (header s).next task_limit) refl)

  -- every item is made
  no-unmade : object s o ≡ Object.Unmade → ⊥
  unfolding view object_in_range
  no-unmade e = subst (λ (y : Object). T (object_in_range (header s) (places_below (object s) o) y)) e (h.but.objects o (omega (arith, lower, made)))

  -- every item
  item-lit : (x : Object) → object s o ≡ x → ItemLit (item_object s g o x)
  unfolding item_object item_gather await_external await_pending item_coroutine as_awaited
  item-lit Object.Unmade e = absurd (no-unmade e)
  item-lit (Object.Coroutine f CoroutineState.New) e = spawns (ap as_awaited e)
  item-lit (Object.Coroutine f CoroutineState.Running) e = k
  item-lit (Object.Coroutine f CoroutineState.Completed) e = k
  item-lit (Object.ExternalFuture c (ExternalFutureState.Pending Awaiter.Nobody r)) e =
      takes (record { call = c; awaiter = Awaiter.Nobody; stored = r }) (ap as_pending e ∙ (unfold as_pending in refl)) refl (ap as_awaited e)
  item-lit (Object.ExternalFuture c (ExternalFutureState.Pending (Awaiter.Task u) r)) e = k
  item-lit (Object.ExternalFuture c (ExternalFutureState.Pending (Awaiter.GatherSlot f y) r)) e = k
  item-lit (Object.ExternalFuture c (ExternalFutureState.Resolved x)) e = fills x (subst ObjectFits e (object-fits s o)).1
  item-lit (Object.ExternalFuture c (ExternalFutureState.Failed x)) e = k
  item-lit (Object.GatherFuture f m GatherState.Pending) e = tt
  item-lit (Object.GatherFuture f m (GatherState.Awaited a j)) e = k
  item-lit (Object.GatherFuture f m GatherState.Completed) e = fills (Value.List (heap_id o)) low-o
  item-lit (Object.GatherFuture f m (GatherState.Failed x)) e = k

  one-lit : ItemLit (item s g w o)
  unfolding item
  one-lit = by (open_from (place s) w o 0 w.count) refl
    where
      by : (b : Bool) → open_from (place s) w o 0 w.count ≡ b → ItemLit (pick b (polled (gives s pending)) (item_object s g o (object s o)))
      by true e = again (open_found (place s) w o w.count 0 (omega arith) (holds _ e))
      by false e = item-lit (object s o) refl

  -- so the walk stops where it is said to, if it does from the next place on
  put-lit : (go : Store → Stop) → ((y : Store) → Goes root t g fs i w.count y → Lit G Q y → StopLit G g fs (go y)) → (x : Item) → ItemOk root t g fs w i o s x → ItemLit x
      → StopLit G g fs (put_item g w i o s x go)
  unfolding put_item put_polled
  put-lit go f nested ok l = k
  put-lit go f (polled r) ok l = by r.poll ok l
    where
      by : (p : Poll) → PollOk root t g fs w i r.store p → PollLit r.store p → StopLit G g fs (put_polled g w i r.store p go)
      by (ready v) ok l = f _ ok l
      by (raised e) ok l = l
      by pending ok l = f _ ok l

  pub step-lit : (go : Store → Stop) → ((y : Store) → Goes root t g fs i w.count y → Lit G Q y → StopLit G g fs (go y)) → StopLit G g fs (put_item g w i o s (item s g w o) go)
  step-lit go f = put-lit go f (item s g w o) (one_keeps root t g fs i s mem h less) one-lit

-- The walk through the items.
pub items-lit : {G : ℕ → Type 0} (n : ℕ) (root t g i : ℕ) (fs : List Frame) (s : Store) → Memory s → (h : Inv root t 0 (OnTop g fs) (view s) g i fs) → i + n ≡ h.w.count → Lit G (OnTop g fs) s
    → StopLit G g fs (step_items n s g i)
unfolding step_items step_item view
items-lit zero root t g i fs s mem h e k = k
items-lit {G} (suc n) root t g i fs s mem h e k =
    subst (λ (o : Option AwaitedGather). StopLit G g fs (step_item g i s o (λ x. step_items n x g (i + 1)))) (sym h.opened.awaited)
    (step-lit _ root t g fs i s mem h (omega arith) k (λ x. step_items n x g (i + 1))
    (λ y c l. items-lit n root t g (i + 1) fs y c.memory c.inv (goes-length root t g i fs h.w.count n y e c) l))
