-- `Given` through a commit by the running task t: the gathers that it opens are none that a task waits for, and what it answers is what has come of its root.
use Rattle.std.specs.Prelude.{◌≡◌, ◌⊎◌, Bool, eqb}
use Rattle.std.proofs.Math.Path.{refl, sym, ap, subst}
use Rattle.std.proofs.Common.{◌∙◌, inr, ltb-true}
use Rattle.std.proofs.Math.Logic.{inl}
use Rattle.std.proofs.Math.Bool.{true, false}
use mathlib.Core.List.{List, [], ◌∷◌}
use Rattle.std.proofs.Math.Option.{Option, none, some}
use Prim.Native.Nat.{ℕ, zero, suc, ◌+◌, ◌-◌, ◌<◌}
use Rattle.std.proofs.Math.Decide.{ℕ_discrete}
use Rattle.std.proofs.Math.Dec.{ltb}
use Rattle.asyncio.specs.declared.CallId.{CallId}
use Rattle.asyncio.specs.declared.Value.{Value}
use Rattle.asyncio.specs.declared.Error.{Error}
use Rattle.asyncio.specs.declared.Awaiter.{Awaiter}
use Rattle.asyncio.specs.declared.CoroutineState.{CoroutineState}
use Rattle.asyncio.specs.declared.ExternalFutureState.{ExternalFutureState}
use Rattle.asyncio.specs.declared.GatherState.{GatherState}
use Rattle.asyncio.specs.declared.Object.{Object}
use Rattle.asyncio.specs.Limits.{object_limit, task_limit}
use Rattle.asyncio.specs.Numbers.{heap_id, task_id}
use Rattle.asyncio.specs.Ranges.{AwaiterFits, ErrorFits, ObjectFits}
use Rattle.asyncio.specs.RangeLaws.{pick_has}
use Rattle.asyncio.specs.Layout.{object_words, to_object}
use Rattle.asyncio.specs.States.{pick}
use Rattle.machine.specs.Store.{Store, object, place, header, put_task, put_object, put_place, put_queue, add_log, set_next}
use Rattle.machine.specs.Scheduler.{AwaitedGather, as_awaited, task_of, push_ready, spawn_as, spawn, spawn_unless}
use Rattle.machine.specs.Commit.{Poll, ready, raised, pending, Polled, await_pending, await_external, Item, polled, nested, polled_spawn, item_coroutine, item_gather, item_object, open_from, item}
use Rattle.machine.specs.Commit.{open_place, fill_place, Stop, at_end, at_nested, at_error, put_polled, put_item, step_item, step_items, Frame, step_gather_commit}
use Rattle.machine.specs.Commit.{with_state, set_gather, open_gather_commit, settle_as, settle_gather_commit, resume_in, resume_as, resume_after_child, unwind, Committed, turn, commit_loop, commit_gather_tree}
use Rattle.machine_laws.specs.StoreLaws.{object-fits, place-fits, object_put-other, object_put-header}
use Rattle.machine_laws.specs.DeliveryLaws.{awaited-fits}
use Rattle.machine_sessions.specs.Waits.Calls.{read_back}
use Rattle.machine_sessions.specs.Places.Telling.{not_external}
use Rattle.machine_sessions.specs.Honest.Given.{Fate, loose, held, ret, err, holder, fate, FateFits, fate_back, Came, Unheld, came_unheld, held-is, not-held, NoTask, Given, NoneBut, NoneYet, Unwaited}
use Rattle.machine_sessions.specs.Honest.Given.{loose_unwaited, unwaited_given, same-given, place-given, spawns-given}
use Rattle.machine_sessions.specs.Honest.GivenCycle.{awaited-fate, awaits_fate}

-- ---- rows

abbrev pub IsGather : Object → Type 0
IsGather Object.Unmade = ⊥
IsGather (Object.Coroutine f x) = ⊥
IsGather (Object.ExternalFuture c x) = ⊥
IsGather (Object.GatherFuture f n x) = Unit {0}

gather_back : (f n : ℕ) (y : GatherState) → IsGather (to_object (object_words (Object.GatherFuture f n y)))
gather_back f n GatherState.Pending = tt
gather_back f n (GatherState.Awaited a m) = tt
gather_back f n GatherState.Completed = tt
gather_back f n (GatherState.Failed e) = tt

-- what of a gather's state must fit
abbrev StateRead : GatherState → Type 0
StateRead GatherState.Pending = Unit {0}
StateRead (GatherState.Awaited a m) = AwaiterFits a
StateRead GatherState.Completed = Unit {0}
StateRead (GatherState.Failed e) = ErrorFits e

-- no task waits in it
abbrev StateFree : GatherState → Type 0
StateFree GatherState.Pending = Unit {0}
StateFree (GatherState.Awaited a m) = NoTask a
StateFree GatherState.Completed = Unit {0}
StateFree (GatherState.Failed e) = Unit {0}

pub holder-free : (a : Awaiter) → NoTask a → Unheld (holder a)
unfolding holder
holder-free Awaiter.Nobody n = tt
holder-free (Awaiter.Task t) n = n
holder-free (Awaiter.GatherSlot g x) n = tt

pub row_reads : (x : Object) → ObjectFits x → FateFits x
row_reads Object.Unmade f = tt
row_reads (Object.Coroutine g x) f = tt
row_reads (Object.ExternalFuture c (ExternalFutureState.Pending a r)) f = f.1.0
row_reads (Object.ExternalFuture c (ExternalFutureState.Resolved v)) f = f.1
row_reads (Object.ExternalFuture c (ExternalFutureState.Failed e)) f = f.1
row_reads (Object.GatherFuture i n GatherState.Pending) f = tt
row_reads (Object.GatherFuture i n (GatherState.Awaited a m)) f = f.1.0
row_reads (Object.GatherFuture i n GatherState.Completed) f = tt
row_reads (Object.GatherFuture i n (GatherState.Failed e)) f = f.1

state_reads : (f n : ℕ) (y : GatherState) → StateRead y → FateFits (Object.GatherFuture f n y)
state_reads f n GatherState.Pending k = tt
state_reads f n (GatherState.Awaited a m) k = k
state_reads f n GatherState.Completed k = tt
state_reads f n (GatherState.Failed e) k = k

with_reads : (x : Object) (y : GatherState) → ObjectFits x → StateRead y → FateFits (with_state x y)
unfolding with_state
with_reads Object.Unmade y f k = tt
with_reads (Object.Coroutine g x) y f k = tt
with_reads (Object.ExternalFuture c x) y f k = row_reads (Object.ExternalFuture c x) f
with_reads (Object.GatherFuture i n x) y f k = state_reads i n y k

state_unheld : (o f n : ℕ) (y : GatherState) → StateFree y → Unheld (fate o (Object.GatherFuture f n y))
unfolding fate
state_unheld o f n GatherState.Pending k = tt
state_unheld o f n (GatherState.Awaited a m) k = holder-free a k
state_unheld o f n GatherState.Completed k = tt
state_unheld o f n (GatherState.Failed e) k = tt

with_held : (o : ℕ) (x : Object) (y : GatherState) (t : ℕ) → StateFree y → fate o (with_state x y) ≡ held t → fate o x ≡ held t
unfolding with_state
with_held o Object.Unmade y t k e = e
with_held o (Object.Coroutine f x) y t k e = e
with_held o (Object.ExternalFuture c x) y t k e = e
with_held o (Object.GatherFuture f n x) y t k e = not-held t (fate o (Object.GatherFuture f n y)) (state_unheld o f n y k) e

-- the state is what a gather's fate is by
state_fate : (o f n : ℕ) (y : GatherState) → fate o (Object.GatherFuture f n y) ≡ fate o (Object.GatherFuture 0 0 y)
unfolding fate
state_fate o f n GatherState.Pending = refl
state_fate o f n (GatherState.Awaited a m) = refl
state_fate o f n GatherState.Completed = refl
state_fate o f n (GatherState.Failed e) = refl

with_fate : (o : ℕ) (x : Object) (y : GatherState) → IsGather x → fate o (with_state x y) ≡ fate o (Object.GatherFuture 0 0 y)
unfolding with_state
with_fate o Object.Unmade y k = absurd k
with_fate o (Object.Coroutine f x) y k = absurd k
with_fate o (Object.ExternalFuture c x) y k = absurd k
with_fate o (Object.GatherFuture f n x) y k = state_fate o f n y

with_gather : (x : Object) (y : GatherState) → IsGather x → IsGather (to_object (object_words (with_state x y)))
unfolding with_state
with_gather Object.Unmade y k = absurd k
with_gather (Object.Coroutine f x) y k = absurd k
with_gather (Object.ExternalFuture c x) y k = absurd k
with_gather (Object.GatherFuture f n x) y k = gather_back f n y

-- a row that is held is not loose
held-apart : (s : Store) (g o t : ℕ) → fate g (object s g) ≡ held t → fate o (object s o) ≡ loose → o ≡ g → ⊥
held-apart s g o t h e d = not-held t loose tt (sym e ∙ subst (λ (m : ℕ). fate m (object s m) ≡ held t) (sym d) h)

-- an error that is polled fits
abbrev pub PollFits : Poll → Type 0
PollFits (ready v) = Unit {0}
PollFits (raised e) = ErrorFits e
PollFits pending = Unit {0}

-- task t is to be the awaiter of g
abbrev pub Takes : ℕ → ℕ → ℕ → ℕ → Type 0
Takes t g o u = (o ≡ g) × (u ≡ t)

-- what an await of object g by task t ends in: something has come of g, or t is to block
abbrev pub Ended : (ℕ → Option ℕ) → ℕ → ℕ → Store → Poll → Type 0
Ended W t g u (ready v) = Given W NoneBut NoneYet u × (fate g (object u g) ≡ ret v)
Ended W t g u (raised e) = Given W NoneBut NoneYet u × (fate g (object u g) ≡ err e)
Ended W t g u pending = Given W NoneBut (Takes t g) u × (fate g (object u g) ≡ held t)

-- ---- the commit of gather g by task t

module _ (W : ℕ → Option ℕ) (t g : ℕ) (low : g < object_limit) (unwaited : Unwaited W g) where
  abbrev G : Store → Type 0
  G u = Given W NoneBut (Takes t g) u

  record Mid (u : Store) : Type 0 where
    given : G u
    root : fate g (object u g) ≡ held t
    gather : IsGather (object u g)

  -- an object's row is written; if it is the root's, it is still a gather that t awaits
  mid_row : (s : Store) (o : ℕ) (x : Object) → o < object_limit → (o ≡ g → (fate g (to_object (object_words x)) ≡ held t) × IsGather (to_object (object_words x))) → G (put_object s o x) → Mid s → Mid (put_object s o x)
  mid_row s o x l same k m = by (ℕ_discrete g o)
    where
      by : Dec (g ≡ o) → Mid (put_object s o x)
      by (yes d) =
          let e : object (put_object s o x) g ≡ to_object (object_words x) = subst (λ (n : ℕ). object (put_object s o x) n ≡ to_object (object_words x)) (sym d) (read_back s o x m.given.sized l) in
          record { given = k; root = ap (fate g) e ∙ (same (sym d)).0; gather = subst IsGather (sym e) (same (sym d)).1 }
      by (no ne) =
          let e : object (put_object s o x) g ≡ object s g = object_put-other s o g x ne in
          record { given = k; root = ap (fate g) e ∙ m.root; gather = subst IsGather (sym e) m.gather }

  -- rows as they were
  mid-like : (s u : Store) → ((o : ℕ) → object u o ≡ object s o) → G u → Mid s → Mid u
  mid-like s u e k m = record { given = k; root = ap (fate g) (e g) ∙ m.root; gather = subst IsGather (sym (e g)) m.gather }

  fill-mid : (s : Store) (w : AwaitedGather) (i : ℕ) (v : Value) → Mid s → Mid (fill_place s w i v)
  unfolding fill_place
  fill-mid s w i v m = mid-like s _ (λ o. unfold object put_place in refl) (place-given W s _ _ m.given) m

  open-mid : (s : Store) (p : ℕ) (w : AwaitedGather) (i : ℕ) → p < object_limit → as_awaited (object s p) ≡ some w → Mid s → Mid (open_place s p w i)
  unfolding open_place
  open-mid s p w i l e m = opens _ (awaited-fits s p w e).1.0
    where
      opens : (n : ℕ) → AwaiterFits w.awaiter → Mid (put_object s p (Object.GatherFuture w.first w.count (GatherState.Awaited w.awaiter n)))
      opens n f =
          let same : fate p (Object.GatherFuture w.first w.count (GatherState.Awaited w.awaiter n)) ≡ fate p (object s p) = awaits_fate p w.first w.count w.awaiter n ∙ sym (awaited-fate p (object s p) w e) in
          mid_row s p _ l
          (λ d. (
            subst (λ (q : ℕ). fate q (to_object (object_words (Object.GatherFuture w.first w.count (GatherState.Awaited w.awaiter n)))) ≡ held t) d
                (fate_back p (Object.GatherFuture w.first w.count (GatherState.Awaited w.awaiter n)) f ∙ (same ∙ subst (λ (q : ℕ). fate q (object s q) ≡ held t) (sym d) m.root)),
            gather_back w.first w.count (GatherState.Awaited w.awaiter n),
          ))
          (same-given W s p _ l f same m.given) m

  -- a gather that nobody waits for
  set_given : (s : Store) (p : ℕ) (y : GatherState) → p < object_limit → Unwaited W p → StateRead y → StateFree y → G s → G (set_gather s p y)
  unfolding set_gather
  set_given s p y l q r f k = unwaited_given W s p _ l (with_reads (object s p) y (object-fits s p) r) q (λ u e. inl (with_held p (object s p) y u f e)) k

  set-mid : (s : Store) (p : ℕ) (y : GatherState) → p < object_limit → (p ≡ g → ⊥) → Unwaited W p → StateRead y → StateFree y → Mid s → Mid (set_gather s p y)
  set-mid s p y l ne q r f m = unfold set_gather in (mid_row s p (with_state (object s p) y) l (λ d. absurd (ne d)) (unfold set_gather in (set_given s p y l q r f m.given)) m)

  -- ---- one item

  record PolledGiven (s : Store) (p : ℕ) (r : Polled) : Type 0 where
    still : object r.store p ≡ object s p
    keeps : Mid r.store
    fits : PollFits r.poll

  quiet : (s : Store) (p : ℕ) (r : Polled) → r.store ≡ s → PollFits r.poll → Mid s → PolledGiven s p r
  quiet s p r e f m = record { still = ap (λ (u : Store). object u p) e; keeps = subst Mid (sym e) m; fits = f }

  external-given : (s : Store) (p o : ℕ) (c : CallId) (x : ExternalFutureState) (a : Awaiter) → o < object_limit → (p ≡ o → ⊥) → NoTask a → AwaiterFits a → object s o ≡ Object.ExternalFuture c x → Mid s
      → PolledGiven s p (await_external s o c x a)
  unfolding await_external await_pending
  external-given s p o c (ExternalFutureState.Pending Awaiter.Nobody r) a l ne n f e m =
      record {
        still = object_put-other s o p _ ne;
        keeps = mid_row s o _ l (λ d. absurd (held-apart s g o t m.root loose_now d))
            (unwaited_given W s o _ l f (loose_unwaited W s o loose_now m.given) (λ u q. not-held u (fate o (Object.ExternalFuture c (ExternalFutureState.Pending a r))) (unfold fate in (holder-free a n)) q) m.given) m;
        fits = tt;
      }
    where
      loose_now : fate o (object s o) ≡ loose
      loose_now = ap (fate o) e ∙ (unfold fate holder in refl)
  external-given s p o c (ExternalFutureState.Pending (Awaiter.Task u) r) a l ne n f e m = quiet s p _ refl tt m
  external-given s p o c (ExternalFutureState.Pending (Awaiter.GatherSlot h x) r) a l ne n f e m = quiet s p _ refl tt m
  external-given s p o c (ExternalFutureState.Resolved v) a l ne n f e m = quiet s p _ refl tt m
  external-given s p o c (ExternalFutureState.Failed x) a l ne n f e m = quiet s p _ refl (subst ObjectFits e (object-fits s o)).1 m

  spawn-rows : (s : Store) (v c q o : ℕ) → object (spawn_as s v c q) o ≡ object s o
  unfolding spawn_as push_ready add_log put_queue object
  spawn-rows s v c q o = unfold object in (moved_row (put_task s v _) (v + 1)) ∙ (unfold object put_task in refl)
    where
      moved_row : (u : Store) (n : ℕ) → object (set_next u n) o ≡ object u o
      moved_row u n = unfold set_next in (object_put-header u _ o)

  spawn-given : (s : Store) (p o q : ℕ) → o < object_limit → q < object_limit → Mid s → PolledGiven s p (polled_spawn s (spawn s o q))
  unfolding spawn
  spawn-given s p o q l b m = by (task_of s o)
    where
      room : (c : Bool) → ltb (header s).next task_limit ≡ c → PolledGiven s p (polled_spawn s (pick c (some (spawn_as s (header s).next o q)) none))
      room true d = unfold polled_spawn in
          (record { still = spawn-rows s (header s).next o q p; keeps = mid-like s _ (spawn-rows s (header s).next o q) (spawns-given W s o q (ltb-true _ _ d) l b m.given) m; fits = tt })
      room false d = unfold polled_spawn in (quiet s p _ refl tt m)

      by : (d : Option ℕ) → PolledGiven s p (polled_spawn s (spawn_unless s o q d))
      by (some v) = unfold spawn_unless polled_spawn in (quiet s p _ refl tt m)
      by none = unfold spawn_unless in (room (ltb (header s).next task_limit) refl)

  -- a nested gather is pending
  ItemGiven : Store → ℕ → ℕ → Item → Type 0
  ItemGiven s p o nested = fate o (object s o) ≡ loose
  ItemGiven s p o (polled r) = PolledGiven s p r

  object-given : (s : Store) (p o : ℕ) (w : AwaitedGather) (x : Object) → o < object_limit → p < object_limit → as_awaited (object s p) ≡ some w → object s o ≡ x → Mid s → ItemGiven s p o (item_object s p o x)
  unfolding item_object item_gather item_coroutine ItemGiven
  object-given s p o w Object.Unmade l b e d m = quiet s p _ refl tt m
  object-given s p o w (Object.Coroutine f CoroutineState.New) l b e d m = spawn-given s p o p l b m
  object-given s p o w (Object.Coroutine f CoroutineState.Running) l b e d m = quiet s p _ refl tt m
  object-given s p o w (Object.Coroutine f CoroutineState.Completed) l b e d m = quiet s p _ refl tt m
  object-given s p o w (Object.ExternalFuture c x) l b e d m = external-given s p o c x _ l (λ y. not_external (object s p) w c x e (ap (object s) y ∙ d)) tt (b, l) d m
  object-given s p o w (Object.GatherFuture f n GatherState.Pending) l b e d m = ap (fate o) d ∙ (unfold fate in refl)
  object-given s p o w (Object.GatherFuture f n (GatherState.Awaited a j)) l b e d m = quiet s p _ refl tt m
  object-given s p o w (Object.GatherFuture f n GatherState.Completed) l b e d m = quiet s p _ refl tt m
  object-given s p o w (Object.GatherFuture f n (GatherState.Failed x)) l b e d m = quiet s p _ refl (subst ObjectFits d (object-fits s o)).1 m

  item-given : (s : Store) (p : ℕ) (w : AwaitedGather) (o : ℕ) → o < object_limit → p < object_limit → as_awaited (object s p) ≡ some w → Mid s → ItemGiven s p o (item s p w o)
  unfolding item ItemGiven
  item-given s p w o l b e m = pick_has (ItemGiven s p o) (open_from (place s) w o 0 w.count) (quiet s p _ refl tt m) (unfold ItemGiven in (object-given s p o w (object s o) l b e refl m))

  -- ---- the items of one gather

  StopGiven : Stop → Type 0
  StopGiven (at_end u) = Mid u
  StopGiven (at_nested u j o) = Mid u × (o < object_limit) × (fate o (object u o) ≡ loose)
  StopGiven (at_error u e) = Mid u × ErrorFits e

  put-given : (p : ℕ) (w : AwaitedGather) (j o : ℕ) (go : Store → Stop) → ((u : Store) → Mid u → StopGiven (go u)) → p < object_limit → o < object_limit
      → (s : Store) (x : Item) → as_awaited (object s p) ≡ some w → Mid s → ItemGiven s p o x → StopGiven (put_item p w j o s x go)
  unfolding put_item StopGiven ItemGiven
  put-given p w j o go h lp lo s nested e m y = (m, lo, y)
  put-given p w j o go h lp lo s (polled r) e m y = by r.poll y.fits
    where
      row : as_awaited (object r.store p) ≡ some w
      row = ap as_awaited y.still ∙ e

      by : (z : Poll) → PollFits z → StopGiven (put_polled p w j r.store z go)
      by (ready v) f = unfold put_polled in (h _ (fill-mid r.store w j v y.keeps))
      by (raised x) f = unfold put_polled StopGiven in (y.keeps, f)
      by pending f = unfold put_polled in (h _ (open-mid r.store p w j lp row y.keeps))

  items-given : (n : ℕ) (s : Store) (p j : ℕ) → p < object_limit → Mid s → StopGiven (step_items n s p j)
  unfolding step_items step_item StopGiven
  items-given zero s p j l m = m
  items-given (suc n) s p j l m = by (as_awaited (object s p)) refl (λ u y. items-given n u p (j + 1) l y)
    where
      by : (a : Option AwaitedGather) → as_awaited (object s p) ≡ a → ((u : Store) → Mid u → StopGiven (step_items n u p (j + 1))) → StopGiven (step_item p j s a (λ x. step_items n x p (j + 1)))
      by none e h = m
      by (some w) e h =
          let o : ℕ = (place s (w.first + j)).item.0 in
          let b : o < object_limit = (place-fits s (w.first + j)).item_fits in
          put-given p w j o (λ x. step_items n x p (j + 1)) h l b s (item s p w o) e m (item-given s p w o b l e m)

  -- ---- the stack: the root at the bottom, above it gathers that nobody waits for

  Linked : ℕ → List Frame → Type 0
  Linked p [] = p ≡ g
  Linked p (f ∷ fs) = (p < object_limit) × (p ≡ g → ⊥) × Unwaited W p × Linked f.gather fs

  linked-low : (p : ℕ) (fs : List Frame) → Linked p fs → p < object_limit
  unfolding Linked
  linked-low p [] l = subst (λ (n : ℕ). n < object_limit) (sym l) low
  linked-low p (f ∷ fs) l = l.0

  linked-parts : (p : ℕ) (f : Frame) (fs : List Frame) → Linked p (f ∷ fs) → (p < object_limit) × (p ≡ g → ⊥) × Unwaited W p × Linked f.gather fs
  unfolding Linked
  linked-parts p f fs l = l

  linked-more : (p : ℕ) (f : Frame) (fs : List Frame) → p < object_limit → (p ≡ g → ⊥) → Unwaited W p → Linked f.gather fs → Linked p (f ∷ fs)
  unfolding Linked
  linked-more p f fs l ne q y = (l, ne, q, y)

  linked-root : (p : ℕ) → Linked p [] → p ≡ g
  unfolding Linked
  linked-root p l = l

  -- the root has come to something
  abbrev Closed : Fate → Store → Type 0
  Closed z u = Given W NoneBut NoneYet u × (fate g (object u g) ≡ z)

  close-root : (s : Store) (y : GatherState) (z : Fate) → StateRead y → StateFree y → fate g (Object.GatherFuture 0 0 y) ≡ z → Came z → Mid s → Closed z (set_gather s g y)
  unfolding set_gather
  close-root s y z r f e c m = (
    record {
      sized = k.sized;
      fates = k.fates;
      states = k.states;
      holders = λ o u q v. holders-by o u q (k.holders o u q v);
      low = k.low;
      unborn = k.unborn;
      slots = k.slots;
    },
    now,
  )
    where
      x : Object
      x = with_state (object s g) y

      k : G (put_object s g x)
      k = unwaited_given W s g x low (with_reads (object s g) y (object-fits s g) r) unwaited (λ u q. inl (with_held g (object s g) y u f q)) m.given

      now : fate g (object (put_object s g x) g) ≡ z
      now = ap (fate g) (read_back s g x m.given.sized low) ∙ (fate_back g x (with_reads (object s g) y (object-fits s g) r) ∙ (with_fate g (object s g) y m.gather ∙ e))

      holders-by : {A : Type 0} (o u : ℕ) → fate o (object (put_object s g x) o) ≡ held u → A ⊎ Takes t g o u → A ⊎ ⊥
      holders-by o u q (inl a) = inl a
      holders-by o u q (inr b) = not-held u z (came_unheld z c) (sym now ∙ subst (λ (n : ℕ). fate n (object (put_object s g x) n) ≡ held u) b.0 q)

  unwind-given : (fs : List Frame) (f : Frame) (s : Store) (e : Error) → ErrorFits e → Linked f.gather fs → Mid s → Closed (err e) (unwind s (f ∷ fs) e)
  unfolding unwind Linked
  unwind-given [] f s e r l m = subst (λ (p : ℕ). Closed (err e) (set_gather s p (GatherState.Failed e))) (sym l) (close-root s (GatherState.Failed e) (err e) r tt (unfold fate in refl) tt m)
  unwind-given (p ∷ ps) f s e r l m = unwind-given ps p _ e r l.3 (set-mid s f.gather (GatherState.Failed e) l.0 l.1 l.2 r tt m)

  settle-mid : (s : Store) (p : ℕ) → p < object_limit → (p ≡ g → ⊥) → Unwaited W p → Mid s → Mid (settle_gather_commit s p).store
  unfolding settle_gather_commit
  settle-mid s p l ne q m = by (as_awaited (object s p))
    where
      by : (a : Option AwaitedGather) → Mid (settle_as s p a).store
      by none = unfold settle_as in m
      by (some w) = unfold settle_as in (pick_has (λ (r : Polled). Mid r.store) (eqb w.open_places 0) (set-mid s p GatherState.Completed l ne q tt tt m) m)

  abbrev PolledEnded : Polled → Type 0
  PolledEnded r = Ended W t g r.store r.poll

  settle-root : (s : Store) (p : ℕ) → p ≡ g → Mid s → PolledEnded (settle_gather_commit s p)
  unfolding settle_gather_commit
  settle-root s p d m = subst (λ (q : ℕ). PolledEnded (settle_as s q (as_awaited (object s q)))) (sym d) (by (as_awaited (object s g)))
    where
      by : (a : Option AwaitedGather) → PolledEnded (settle_as s g a)
      by none = unfold settle_as in (m.given, m.root)
      by (some w) = unfold settle_as in (pick_has PolledEnded (eqb w.open_places 0) (close-root s GatherState.Completed (ret (Value.List (heap_id g))) tt tt (unfold fate in refl) tt m) (m.given, m.root))

  resume-mid : (f : Frame) (r : Polled) → f.gather < object_limit → Mid r.store → Mid (resume_after_child f r)
  unfolding resume_after_child
  resume-mid f r l m = by (as_awaited (object r.store f.gather)) refl
    where
      poll-by : (w : AwaitedGather) → as_awaited (object r.store f.gather) ≡ some w → (p : Poll) → Mid (resume_in r.store f w p)
      poll-by w e (ready v) = unfold resume_in in (fill-mid r.store w f.next v m)
      poll-by w e (raised x) = unfold resume_in in m
      poll-by w e pending = unfold resume_in in (open-mid r.store f.gather w f.next l e m)

      by : (a : Option AwaitedGather) → as_awaited (object r.store f.gather) ≡ a → Mid (resume_as f r a)
      by none e = unfold resume_as in m
      by (some w) e = unfold resume_as in (poll-by w e r.poll)

  -- ---- the turns

  abbrev CommitEnded : Committed → Type 0
  CommitEnded c = Ended W t g c.store c.poll

  turn-given : (loop : Store → Frame → List Frame → ℕ → ℕ → ℕ → Committed)
      → ((s : Store) (f : Frame) (fs : List Frame) (m j h : ℕ) → Linked f.gather fs → Mid s → CommitEnded (loop s f fs m j h))
      → (f : Frame) (fs : List Frame) (m j h : ℕ) (x : Stop) → Linked f.gather fs → StopGiven x → CommitEnded (turn loop f fs m j h x)
  unfolding turn StopGiven open_gather_commit
  turn-given loop go f fs m j h (at_nested s p o) l k =
      let q : Unwaited W o = loose_unwaited W s o k.2 k.0.given in
      let ne : o ≡ g → ⊥ = held-apart s g o t k.0.root k.2 in
      go _ _ _ (suc m) (suc j) h (linked-more o (record { gather = f.gather; next = p }) fs k.1 ne q l) (set-mid s o (GatherState.Awaited (Awaiter.GatherSlot (heap_id f.gather) (heap_id o)) 0) k.1 ne q (linked-low f.gather fs l, k.1) tt k.0)
  turn-given loop go f fs m j h (at_error s e) l k = unwind-given fs f s e k.1 l k.0
  turn-given loop go f [] m j h (at_end s) l k = settle-root s f.gather (linked-root f.gather l) k
  turn-given loop go f (p ∷ ps) m j h (at_end s) l k =
      let y : (f.gather < object_limit) × (f.gather ≡ g → ⊥) × Unwaited W f.gather × Linked p.gather ps = linked-parts f.gather p ps l in
      go _ _ _ (suc m) j (suc h) y.3 (resume-mid p _ (linked-low p.gather ps y.3) (settle-mid s f.gather y.0 y.1 y.2 k))

  loop-given : (fuel : ℕ) (s : Store) (f : Frame) (fs : List Frame) (m j h : ℕ) → Linked f.gather fs → Mid s → CommitEnded (commit_loop fuel s f fs m j h)
  unfolding commit_loop step_gather_commit
  loop-given zero s f fs m j h l k =
      turn-given (λ x p ps a b c. record { store = x; poll = pending; steps = a; opened = b; settled = c }) (λ x p ps a b c y z. (z.given, z.root)) f fs m j h (at_error s Error.GatherReuse) l (unfold StopGiven in (k, tt))
  loop-given (suc fuel) s f fs m j h l k =
      turn-given (λ x p ps a b c. commit_loop fuel x p ps a b c) (λ x p ps a b c. loop-given fuel x p ps a b c) f fs m j h _ l (items-given _ s f.gather f.next (linked-low f.gather fs l) k)

  begins : (s : Store) (f n : ℕ) → object s g ≡ Object.GatherFuture f n GatherState.Pending → t < (header s).next → t < task_limit → Given W NoneBut NoneYet s → Mid (open_gather_commit s g (Awaiter.Task (task_id t)))
  unfolding open_gather_commit set_gather
  begins s f n e b tl k = record { given = more; root = ap (fate g) row ∙ (fate_back g x reads ∙ here); gather = subst IsGather (sym row) (with_gather (object s g) y is_gather) }
    where
      y : GatherState
      y = GatherState.Awaited (Awaiter.Task (task_id t)) 0

      x : Object
      x = with_state (object s g) y

      is_gather : IsGather (object s g)
      is_gather = subst IsGather (sym e) tt

      reads : FateFits x
      reads = with_reads (object s g) y (object-fits s g) tl

      here : fate g x ≡ held t
      here = with_fate g (object s g) y is_gather ∙ (unfold fate holder in refl)

      row : object (put_object s g x) g ≡ to_object (object_words x)
      row = read_back s g x k.sized low

      wider : Given W NoneBut (Takes t g) s
      wider =
          record {
            sized = k.sized;
            fates = k.fates;
            states = k.states;
            holders = λ o u q v. widen o u (k.holders o u q v);
            low = k.low;
            unborn = k.unborn;
            slots = k.slots;
          }
        where
          widen : {A : Type 0} (o u : ℕ) → A ⊎ ⊥ → A ⊎ Takes t g o u
          widen o u (inl a) = inl a
          widen o u (inr b) = absurd b

      more : G (put_object s g x)
      more = unwaited_given W s g x low reads unwaited (λ u q. let d : u ≡ t = held-is u t (sym q ∙ here) in inr ((refl, d), subst (λ (m : ℕ). m < (header s).next) (sym d) b)) wider

  -- a pending gather is committed
  pub commit_given : (s : Store) (f n : ℕ) → object s g ≡ Object.GatherFuture f n GatherState.Pending → t < (header s).next → t < task_limit → Given W NoneBut NoneYet s
      → CommitEnded (commit_gather_tree s g (Awaiter.Task (task_id t)))
  unfolding commit_gather_tree
  commit_given s f n e b tl k = loop-given _ _ _ [] 0 1 0 (unfold Linked in refl) (begins s f n e b tl k)
