-- Why a gather failed, through deliveries: an error fails only gathers that its source is an item of.
use Rattle.std.specs.Prelude.{◌≡◌, Bool, not, ◌&&◌, ◌||◌, List, [], ◌∷◌, ◌⊎◌, T, eqb, length}
use Rattle.std.proofs.Math.Path.{refl, ap, subst}
use Rattle.std.proofs.Common.{sym, ap₂, ◌∙◌, true≢false, inl, inr, arith}
use Rattle.std.proofs.Math.Bool.{true, false}
use Rattle.std.proofs.Math.Option.{Option, none, some, some-injective}
use Prim.Native.Nat.{ℕ, zero, suc, ◌+◌, ◌≤◌, ◌<◌}
use Rattle.asyncio.specs.declared.HeapId.{HeapId}
use Rattle.asyncio.specs.declared.Value.{Value}
use Rattle.asyncio.specs.declared.Error.{Error}
use Rattle.asyncio.specs.declared.Awaiter.{Awaiter}
use Rattle.asyncio.specs.declared.TaskState.{TaskState}
use Rattle.asyncio.specs.declared.CoroutineState.{CoroutineState}
use Rattle.asyncio.specs.declared.GatherState.{GatherState}
use Rattle.asyncio.specs.declared.Object.{Object}
use Rattle.asyncio.specs.declared.Place.{Place}
use Rattle.asyncio.specs.Limits.{object_limit, task_limit}
use Rattle.asyncio.specs.Numbers.{heap_id, task_id}
use Rattle.asyncio.specs.Ranges.{AwaiterFits, ValueFits, ErrorFits, ObjectFits, StateFits}
use Rattle.asyncio.specs.Parts.{awaiter_of, first_of, count_of}
use Rattle.asyncio.specs.States.{pick, is_blocked, is_unstarted}
use Rattle.machine.specs.Store.{Store, View, view, task, object, place, header, put_object, put_places, add_log, reached}
use Rattle.machine.specs.Scheduler.{AwaitedGather, as_awaited, make_ready}
use Rattle.machine.specs.Delivery.{Delivery, nobody_woken, deliver_to_task, Filled, fill_from, Settled, resolve_left, resolve_awaited, resolve_child, fail_awaited, fail_gather}
use Rattle.machine.specs.Delivery.{climb, awaited_count, send_value, climb_value, deliver_awaiter_success, send_error, climb_error, deliver_awaiter_failure}
use Rattle.machine_laws.specs.Views.{Sized}
use Rattle.machine_laws.specs.Facts.{SoundBut, Nothing, Slotted, Open}
use Rattle.machine_laws.specs.StoreLaws.{header-fits, object_put-object}
use Rattle.machine_laws.specs.DeliveryLaws.{absurd_some, awaited-object, awaited-fits, length-fill_from, resolve_sent, fail_sent}
use Rattle.machine_theorems.specs.Soundness.FillLaws.{fill_less}
use Rattle.machine_theorems.specs.Soundness.Deliver.{awaiter_is}
use Rattle.machine_sessions.specs.Gather.Failing.{ClimbMoves, GatherClimbs, AsAwaited, FailedRow, climb-awaited}
use Rattle.machine_sessions.specs.Gather.FailingRows.{ItemAt, Raised, by_gather, Because, Failing, places_failing, row_failing, wakes_failing}

-- an awaited gather's row may go on as its state may
pub awaited_climbs : (x : Object) (w : AwaitedGather) (y : GatherState) → as_awaited x ≡ some w → GatherClimbs (GatherState.Awaited w.awaiter w.open_places) y → ClimbMoves x (Object.GatherFuture w.first w.count y)
awaited_climbs x w y e k = subst (λ (z : Object). ClimbMoves z (Object.GatherFuture w.first w.count y)) (sym (awaited-object x w e)) (refl, refl, k)

-- and is no coroutine
pub awaited-coroutine : {A : Type 0} (x : Object) (w : AwaitedGather) (f : ℕ) (y : CoroutineState) → as_awaited x ≡ some w → x ≡ Object.Coroutine f y → A
unfolding as_awaited
awaited-coroutine x w f y e q = absurd_some (sym (ap as_awaited q) ∙ e)

-- where an error goes on to
fail_onward : (u : Store) (g : ℕ) (e : Error) (b : Awaiter) → (fail_gather u g e).onward ≡ some b → (w : AwaitedGather) × (as_awaited (object u g) ≡ some w) × (w.awaiter ≡ b)
unfolding fail_gather fail_awaited
fail_onward u g e b q = by (as_awaited (object u g)) refl q
  where
    by : (a : Option AwaitedGather) → as_awaited (object u g) ≡ a → (fail_awaited u g e a).onward ≡ some b → (w : AwaitedGather) × (as_awaited (object u g) ≡ some w) × (w.awaiter ≡ b)
    by none p h = absurd_some h
    by (some w) p h = (w, p, some-injective w.awaiter b h)

-- the row then
fail-row : (u : Store) (g : ℕ) (e : Error) (w : AwaitedGather) → Sized u → g < object_limit → ErrorFits e → as_awaited (object u g) ≡ some w
    → object (fail_gather u g e).store g ≡ Object.GatherFuture w.first w.count (GatherState.Failed e)
unfolding fail_gather
fail-row u g e w z l f q = subst (λ (a : Option AwaitedGather). object (fail_awaited u g e a).store g ≡ Object.GatherFuture w.first w.count (GatherState.Failed e)) (sym q)
    (unfold fail_awaited in (object_put-object u g (Object.GatherFuture w.first w.count (GatherState.Failed e)) z l ((awaited-fits u g w q).0, f)))

module _ (s m : Store) (Young : ℕ → Type 0) (B : Error → Type 0) (X : ℕ → Type 0) where
  -- what comes from o fails only gathers that o is an item of, and none that the event has committed
  abbrev pub Up : ℕ → Awaiter → Type 0
  Up o Awaiter.Nobody = Unit {0}
  Up o (Awaiter.Task t) = Unit {0}
  Up o (Awaiter.GatherSlot p x) = (p.0 < (header m).made) × ((w : AwaitedGather) → as_awaited (object m p.0) ≡ some w → ItemAt m p.0 o × (Young p.0 → ⊥))

  pub slotted_up : (o p x : ℕ) → Slotted (header m).made (object m) (place m) o p x → ((w : AwaitedGather) → as_awaited (object m p) ≡ some w → Young p → ⊥) → Up o (Awaiter.GatherSlot (heap_id p) (heap_id x))
  unfolding first_of count_of
  slotted_up o p x sl old = (
    sl.made,
    λ w e.
        let op : Open (place m) w o = sl.opens w e in
        let row : object m p ≡ Object.GatherFuture w.first w.count (GatherState.Awaited w.awaiter w.open_places) = awaited-object (object m p) w e in (
          record { at = op.at; under = subst (λ (n : ℕ). op.at < n) (sym (ap count_of row)) op.under; names = ap (λ (n : ℕ). (place m (n + op.at)).item.0) (ap first_of row) ∙ op.names },
          old w e,
        ),
  )

  module _ (P : ℕ → Type 0) (sound : SoundBut 0 P Nothing (view m))
      (up : (g p x : ℕ) (w : AwaitedGather) → g < (header m).made → as_awaited (object m g) ≡ some w → w.awaiter ≡ Awaiter.GatherSlot (heap_id p) (heap_id x) → Young p → Young g) where
    -- by the awaiter of a gather of m that the event has not committed
    gather-up : (g : ℕ) (w : AwaitedGather) (a : Awaiter) → g < (header m).made → as_awaited (object m g) ≡ some w → (Young g → ⊥) → w.awaiter ≡ a → Up g a
    unfolding view
    gather-up g w Awaiter.Nobody l e old q = tt
    gather-up g w (Awaiter.Task t) l e old q = tt
    gather-up g w (Awaiter.GatherSlot p x) l e old q =
        slotted_up g p.0 x.0 (sound.object_slots g l (λ z. z) p.0 x.0 (awaiter_is (object m g) w e ∙ q)) (λ v d y. old (up g p.0 x.0 w l e q y))

    module _ (R : ℕ → Error → Type 0) (Fr : Type 0) where
      abbrev K : Store → Type 0
      K u = Failing s m Young B X R Fr u

      -- ---- a task is served

      to_task : (u : Store) (t : ℕ) (x : TaskState) → t < task_limit → StateFits x → is_unstarted x ≡ false → K u → K (deliver_to_task u t x).store
      unfolding deliver_to_task nobody_woken
      to_task u t x l f n k = by (is_blocked (task u t).state) refl
        where
          by : (b : Bool) → is_blocked (task u t).state ≡ b → K (pick b (record { store = add_log (make_ready u t x) (reached t); woken = some t }) (nobody_woken u)).store
          by true q = wakes_failing s m Young B X R Fr u t x l f q n k
          by false q = k

      climbs : (go : Store → Awaiter → Delivery) (u : Store) (a : Option Awaiter) → K u → ((b : Awaiter) → a ≡ some b → K (go u b).store) → K (climb go u a).store
      unfolding climb nobody_woken
      climbs go u none k h = k
      climbs go u (some b) k h = h b refl

      -- ---- a value

      resolves : (u : Store) (g x : ℕ) (v : Value) → g < object_limit → K u → K (resolve_child u g x v).store
      unfolding resolve_child
      resolves u g x v l k = by (as_awaited (object u g)) refl
        where
          by : (w : Option AwaitedGather) → as_awaited (object u g) ≡ w → K (resolve_awaited u g x v w).store
          by none e = unfold resolve_awaited in k
          by (some w) e = unfold resolve_awaited in (left (eqb f.open_places 0))
            where
              f : Filled
              f = fill_from u.places w.open_places w.first x v 0 w.count

              n : Store
              n = put_places u f.places

              k1 : K n
              k1 = places_failing s m Young B X R Fr u f.places (length-fill_from w.count u.places w.open_places w.first x v 0 ∙ k.sized.places_sized) k

              e1 : as_awaited (object n g) ≡ some w
              e1 = unfold object put_places in e

              fits : ObjectFits (Object.GatherFuture w.first w.count (GatherState.Awaited w.awaiter w.open_places))
              fits = awaited-fits u g w e

              less : f.open_places ≤ w.open_places
              less = fill_less w.count u.places w.open_places w.first x v 0

              left : (b : Bool) → K (resolve_left b n g w f.open_places).store
              left true = unfold resolve_left in
                  (row_failing s m Young B X R Fr n g _ l (fits.0, tt) (awaited_climbs (object n g) w GatherState.Completed e1 tt) (λ a c d y p q. absurd (subst FailedRow (sym q) tt))
                  (λ i a q. awaited-coroutine (object n g) w a CoroutineState.New e1 q) k1)
              left false = unfold resolve_left in
                  (row_failing s m Young B X R Fr n g _ l (fits.0, (fits.1.0, omega (arith, less, fits.1.1))) (awaited_climbs (object n g) w (GatherState.Awaited w.awaiter f.open_places) e1 refl)
                  (λ a c d y p q. absurd (subst FailedRow (sym q) tt)) (λ i a q. awaited-coroutine (object n g) w a CoroutineState.New e1 q) k1)

      sends-value : (go : Store → Awaiter → Value → Delivery) → ((u : Store) (a : Awaiter) (v : Value) → AwaiterFits a → ValueFits v → K u → K (go u a v).store)
          → (u : Store) (a : Awaiter) (v : Value) → AwaiterFits a → ValueFits v → K u → K (send_value go u a v).store
      unfolding send_value nobody_woken
      sends-value go h u Awaiter.Nobody v f fv k = k
      sends-value go h u (Awaiter.Task t) v f fv k = to_task u t.0 (TaskState.Woken v) f fv refl k
      sends-value go h u (Awaiter.GatherSlot g x) v f fv k =
          let r = resolve_sent u g.0 x.0 v k.sized f.0 in
          let k1 : K (resolve_child u g.0 x.0 v).store = resolves u g.0 x.0 v f.0 k in
          climbs (λ y a. go y a (Value.List g)) _ _ k1 (λ b e. h _ b (Value.List g) (r.fits b e) f.0 k1)

      climbs-value : (n : ℕ) (u : Store) (a : Awaiter) (v : Value) → AwaiterFits a → ValueFits v → K u → K (climb_value n u a v).store
      unfolding climb_value nobody_woken
      climbs-value zero u a v f fv k = k
      climbs-value (suc n) u a v f fv k = sends-value (λ y b w. climb_value n y b w) (λ y b w. climbs-value n y b w) u a v f fv k

      -- a value goes up: nothing fails
      pub success_failing : (u : Store) (a : Awaiter) (v : Value) → AwaiterFits a → ValueFits v → K u → K (deliver_awaiter_success u a v).store
      unfolding deliver_awaiter_success
      success_failing u a v f fv k = sends-value (λ y b w. climb_value (awaited_count u) y b w) (λ y b w. climbs-value (awaited_count u) y b w) u a v f fv k

      -- ---- an error e, of those that the event brings

      module _ (e : Error) (fits : ErrorFits e) (brings : B e) where
        fails : (u : Store) (o p x : ℕ) → p < object_limit → Up o (Awaiter.GatherSlot (heap_id p) (heap_id x)) → Raised s R u o e → K u → K (fail_gather u p e).store
        unfolding fail_gather
        fails u o p x l h r k = by (as_awaited (object u p)) refl
          where
            by : (w : Option AwaitedGather) → as_awaited (object u p) ≡ w → K (fail_awaited u p e w).store
            by none q = unfold fail_awaited in k
            by (some w) q = unfold fail_awaited in
                (row_failing s m Young B X R Fr u p _ l ((awaited-fits u p w q).0, fits) (awaited_climbs (object u p) w (GatherState.Failed e) q tt) (λ f n d y i j. why d (same d f n j))
                (λ i a j. awaited-coroutine (object u p) w a CoroutineState.New q j) k)
              where
                same : (d : Error) (f n : ℕ) → Object.GatherFuture w.first w.count (GatherState.Failed e) ≡ Object.GatherFuture f n (GatherState.Failed d) → e ≡ d
                same d f n j = cc

                was : AsAwaited (object m p) w
                was = climb-awaited (object m p) (object u p) w (k.moves p) q

                why : (d : Error) → e ≡ d → Because s m Young B X R u p d
                why d j = subst (λ (z : Error). Because s m Young B X R u p z) j
                    (let y = h.1 was.was was.awaited in record { error = brings; old = y.1; item = o; among = y.0; raised = r })

        sends-error : (go : Store → Awaiter → Error → Delivery) → ((u : Store) (o : ℕ) (a : Awaiter) → AwaiterFits a → Up o a → Raised s R u o e → K u → K (go u a e).store)
            → (u : Store) (o : ℕ) (a : Awaiter) → AwaiterFits a → Up o a → Raised s R u o e → K u → K (send_error go u a e).store
        unfolding send_error nobody_woken
        sends-error go h u o Awaiter.Nobody f i r k = k
        sends-error go h u o (Awaiter.Task t) f i r k = to_task u t.0 (TaskState.Raised e) f fits refl k
        sends-error go h u o (Awaiter.GatherSlot g x) f i r k =
            let z = fail_sent u g.0 e k.sized f.0 in
            let k1 : K (fail_gather u g.0 e).store = fails u o g.0 x.0 f.0 i r k in
            climbs (λ y a. go y a e) _ _ k1 (λ b p. let y = on b p in h _ g.0 b (z.fits b p) y.0 y.1 k1)
          where
            on : (b : Awaiter) → (fail_gather u g.0 e).onward ≡ some b → Up g.0 b × Raised s R (fail_gather u g.0 e).store g.0 e
            on b p =
                let y = fail_onward u g.0 e b p in
                let was : AsAwaited (object m g.0) y.0 = climb-awaited (object m g.0) (object u g.0) y.0 (k.moves g.0) y.1 in (
                  gather-up g.0 was.was b i.0 was.awaited (i.1 was.was was.awaited).1 (was.awaiter ∙ y.2),
                  by_gather y.0.first y.0.count (fail-row u g.0 e y.0 k.sized f.0 fits y.1),
                )

        climbs-error : (n : ℕ) (u : Store) (o : ℕ) (a : Awaiter) → AwaiterFits a → Up o a → Raised s R u o e → K u → K (climb_error n u a e).store
        unfolding climb_error nobody_woken
        climbs-error zero u o a f i r k = k
        climbs-error (suc n) u o a f i r k = sends-error (λ y b w. climb_error n y b w) (λ y b c. climbs-error n y b c) u o a f i r k

        -- an error goes up, from o
        pub failure_failing : (u : Store) (o : ℕ) (a : Awaiter) → AwaiterFits a → Up o a → Raised s R u o e → K u → K (deliver_awaiter_failure u a e).store
        unfolding deliver_awaiter_failure
        failure_failing u o a f i r k = sends-error (λ y b w. climb_error (awaited_count u) y b w) (λ y b c. climbs-error (awaited_count u) y b c) u o a f i r k
