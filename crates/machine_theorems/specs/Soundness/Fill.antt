-- A value fills the open places that name its source, and clears their bits; a gather with no open place completes; the climb.
use Rattle.std.specs.Prelude.{◌≡◌, Bool, ◌||◌, List}
use Rattle.std.proofs.Math.Path.{refl, ap, subst}
use Rattle.std.proofs.Common.{sym, ◌∙◌, inl, true≢false, not-suc-le-zero, arith, eqb→eq, ltb→lt, lt→ltb, eqb-true, ne_eqb}
use Rattle.std.proofs.Math.Bool.{true, false, not}
use Rattle.std.proofs.Math.Option.{Option, none, some, some-injective}
use Prim.Native.Nat.{ℕ, zero, suc, ◌+◌, ◌-◌, ◌^◌, ◌≤◌, ◌<◌}
use Rattle.std.proofs.Math.Nat.{le_refl}
use Rattle.std.proofs.Math.Decide.{ℕ_discrete}
use Rattle.std.proofs.Math.Dec.{T, eqb}
use Rattle.std.proofs.lemmas.Bool.{eqb-false}
use Rattle.asyncio.specs.declared.HeapId.{HeapId}
use Rattle.asyncio.specs.declared.Value.{Value}
use Rattle.std.specs.Prelude.{Some}
use Rattle.asyncio.specs.declared.Task.{Task}
use Rattle.asyncio.specs.declared.TaskState.{TaskState}
use Rattle.asyncio.specs.declared.Awaiter.{Awaiter}
use Rattle.asyncio.specs.declared.GatherState.{GatherState}
use Rattle.asyncio.specs.declared.Object.{Object}
use Rattle.asyncio.specs.declared.Place.{Place}
use Rattle.asyncio.specs.declared.Header.{Header}
use Rattle.asyncio.specs.Limits.{object_limit}
use Rattle.asyncio.specs.Ranges.{ObjectFits, PlaceFits}
use Rattle.asyncio.specs.Numbers.{heap_id}
use Rattle.asyncio.specs.States.{pick, is_nobody, is_live}
use Rattle.asyncio.specs.Kinds.{kind, is_coroutine, is_completed, is_committed}
use Rattle.asyncio.specs.Parts.{awaiter_of, count_of}
use Rattle.rows.specs.Tables.{place_at, place_put}
use Rattle.machine.specs.Tests.{sum_below}
use Rattle.machine.specs.Store.{Store, View, view, task, object, place, header, put_object, put_place, put_places}
use Rattle.machine.specs.Scheduler.{AwaitedGather, as_awaited, as_pending, blocked_on, bit}
use Rattle.machine.specs.Delivery.{Filled, filled, fill_one, fill_from, resolve_left, resolve_awaited, resolve_child, climb, send_value, deliver_awaiter_success}
use Rattle.machine.specs.Sound.{places_below, awaiter_in_range, open_in_range, object_in_range, task_in_range, committed_places, items_below}
use Rattle.machine.specs.Sound.{value_known, option_known, object_values, state_values, is_filled, rest_filled, gather_filled, object_filled}
use Rattle.machine_laws.specs.Views.{update, with_object, with_place}
use Rattle.machine_laws.specs.Facts.{Open, Slotted, SoundBut, Nothing}
use Rattle.machine_laws.specs.TestLaws.{holds, is_true, or_second, both, both_left, both_right, below, from-below, implies_use, sum_last, sum_more}
use Rattle.machine_laws.specs.StoreLaws.{update_same, update_other, update_case, view-put_object, view-put_place, place-fits, object_put-object, header_put-object}
use Rattle.machine_laws.specs.MakingLaws.{value-fits, nobody-task, nobody_slot}
use Rattle.machine_laws.specs.DeliveryLaws.{absurd_some, awaited-object, awaited-fits, success_climbs}
use Rattle.machine_theorems.specs.Bounds.Bits.{bit_clear}
use Rattle.machine_theorems.specs.Soundness.PutObject.{Held, by_object, by_task, Fits}
use Rattle.machine_theorems.specs.Soundness.PutTask.{PlacesWrite}
use Rattle.machine_theorems.specs.Soundness.Stores.{SoundDuring, object-during, place-during}
use Rattle.machine_theorems.specs.Soundness.Deliver.{task_slot, DeliveryEnds, Delivering, Detached, delivery_ends, nobody_delivery_ends, Settles, settle_keeps, detached_keeps, Resumes, reach_keeps, awaiter_is, Done, gather_settles, open_lower}
use Rattle.machine_theorems.specs.Soundness.Deliver.{Sends, sends-nothing, sends-on}

-- ---- what an awaited gather's row says

-- its places are among those used
pub gather_within : {k : ℕ} {P Q : ℕ → Type 0} {v : View} (g : ℕ) (w : AwaitedGather) → SoundBut k P Q v → g < v.header.made → as_awaited (v.objects g) ≡ some w
    → w.first + w.count ≤ v.header.used
unfolding object_in_range places_below
gather_within {v = v} g w h l e =
    let q = awaited-object (v.objects g) w e in
    let c : Object → ℕ = count_of in
    let first : w.first ≡ sum_below g (λ o. count_of (v.objects o)) =
    eqb→eq w.first _ (both_left (eqb w.first _) _ (subst (λ (y : Object). T (object_in_range v.header (places_below v.objects g) y)) q (h.objects g l))) in
    let mine : count_of (v.objects g) ≡ w.count = ap count_of q ∙ (unfold count_of in refl) in
    let more : sum_below (g + 1) (λ o. count_of (v.objects o)) ≤ sum_below v.header.made (λ o. count_of (v.objects o)) = sum_more _ (g + 1) v.header.made (omega arith) in
    let all : v.header.used ≡ sum_below v.header.made (λ o. count_of (v.objects o)) = h.all_used in
    omega (arith, sum_last (λ o. count_of (v.objects o)) g)

-- its open word has no bit at or above its count
pub open_small : {k : ℕ} {P Q : ℕ → Type 0} {v : View} (g : ℕ) (w : AwaitedGather) → SoundBut k P Q v → g < v.header.made → as_awaited (v.objects g) ≡ some w
    → w.open_places < 2 ^ w.count
unfolding object_in_range open_in_range
open_small {v = v} g w h l e =
    ltb→lt w.open_places _ (both_right (eqb w.first (places_below v.objects g)) _
    (subst (λ (y : Object). T (object_in_range v.header (places_below v.objects g) y)) (awaited-object (v.objects g) w e) (h.objects g l)))

-- the places not open are filled
rest_of : {k : ℕ} {P : ℕ → Type 0} {v : View} (g : ℕ) (w : AwaitedGather) → SoundBut k P Nothing v → g < v.header.made → as_awaited (v.objects g) ≡ some w
    → T (rest_filled v.places w.first w.count w.open_places)
unfolding object_filled gather_filled
rest_of {v = v} g w h l e =
    both_right (not (eqb w.open_places 0)) _ (subst (λ (y : Object). T (object_filled v.places y)) (awaited-object (v.objects g) w e) (h.filled g l (λ z. z)))

-- a live task whose awaiter is a slot drives a coroutine
pub slot_task : (h : Header) (os : ℕ → Object) (t : ℕ) (y : Task) (g x : HeapId) → y.awaiter ≡ Awaiter.GatherSlot g x → T (is_live y.state)
    → T (task_in_range h os t y) → T (is_coroutine (kind (os y.coroutine.0)))
unfolding task_in_range
slot_task h os zero y g x e l k = absurd (subst (λ (a : Awaiter). T (is_nobody a)) e (both_left _ _ (both_right _ _ k)))
slot_task h os (suc t) y g x e l k = both_right _ _ (both_right _ _ (both_right _ _ (implies_use (is_live y.state) _ l k)))

-- ---- the places are filled, one after the other

-- One step of a value's climb: the open places of an awaited gather that name the source x are filled.
module _ {r : ℕ → Bool} {D : ℕ → Type 0} {hd : Header} (s : Store) (g x : ℕ) (v : Value) (w : AwaitedGather) (h : SoundDuring Nothing r D hd s)
    (l : g < (header s).made) (e : as_awaited (object s g) ≡ some w) (k : T (value_known (header s).made (object s) v)) where
  -- the places' words and the open word while places are filled
  pub record Filling (ps : List ℕ) (m : ℕ) : Type 0 where
    pub during : SoundDuring Nothing r D hd (put_places s ps)
    pub item : (p : ℕ) → (place_at ps p).item ≡ (place s p).item
    pub less : m ≤ w.open_places
    pub rest : T (rest_filled (place_at ps) w.first w.count m)
    pub kept : (j : ℕ) → bit w.open_places j ≡ true → ((place s (w.first + j)).item.0 ≡ x → ⊥) → bit m j ≡ true

  begins : Filling s.places w.open_places
  unfolding put_places place view
  begins =
      record { during = h; item = λ p. refl; less = le_refl _; rest = rest_of g w h.kept.but l e; kept = λ j b ne. b }

  within : w.first + w.count ≤ (header s).used
  unfolding view
  within = gather_within g w h.kept.but l e

  -- place i is written
  module _ (ps : List ℕ) (m i : ℕ) (f : Filling ps m) (low : i < w.count) (open-i : bit m i ≡ true) (named : (place_at ps (w.first + i)).item.0 ≡ x) where
    abbrev at : ℕ
    at = w.first + i

    abbrev row : Place
    row = record { item = (place_at ps at).item; result = Some v }

    abbrev u : Store
    u = put_places s ps

    row_fits : PlaceFits row
    unfolding view place put_places
    row_fits = record { item_fits = (place-fits u at).item_fits; result_fits = value-fits (header s).made (object s) v h.kept.but.fits.made_fits k }

    row_write : PlacesWrite (view u) (update (place u) at row)
    unfolding view place put_places header object
    row_write =
        record {
          item = λ p. update_case (place_at ps) at row (λ (y : Place). y.item ≡ (place_at ps p).item) p (λ q. ap (λ (j : ℕ). (place_at ps j).item) (sym q)) (λ d. refl);
          filled = λ p t. update_case (place_at ps) at row (λ (y : Place). T (is_filled y.result)) p (λ q. unfold is_filled in tt) (λ d. t);
          known = λ p t. update_case (place_at ps) at row (λ (y : Place). T (option_known (header s).made (object s) y.result)) p
              (λ q. unfold option_known in k) (λ d. t);
        }

    low-used : at < (header u).used
    unfolding header put_places
    low-used = omega (arith, within)

    now : (p : ℕ) → place_at (place_put ps at row) p ≡ update (place_at ps) at row p
    unfolding view with_place place put_place put_places
    now p = ap (λ (y : View). y.places p) (view-put_place u at row f.during.kept.memory.sized (omega (arith, low-used, f.during.kept.but.fits.used_fits)) row_fits)

    written : Filling (place_put ps at row) (m - 2 ^ i)
    written =
        record {
          during = unfold put_places put_place in (place-during u f.during at row low-used row_fits row_write);
          item = λ p. ap (λ (y : Place). y.item) (now p)
              ∙ update_case (place_at ps) at row (λ (y : Place). y.item ≡ (place s p).item) p (λ q. ap (λ (j : ℕ). (place_at ps j).item) (sym q) ∙ f.item p) (λ d. f.item p);
          less = omega (arith, f.less);
          rest = unfold rest_filled in (from-below w.count _ (λ j z. each j z (ℕ_discrete j i)));
          kept = λ j b ne. bit_clear i m j open-i (λ q. ne (ap (λ (y : HeapId). y.0) (sym (f.item (w.first + j))) ∙ (ap (λ (n : ℕ). (place_at ps (w.first + n)).item.0) q ∙ named)))
              ∙ f.kept j b ne;
        }
      where
        each : (j : ℕ) → j < w.count → Dec (j ≡ i) → T (bit (m - 2 ^ i) j || is_filled (place_at (place_put ps at row) (w.first + j)).result)
        each j z (yes q) =
            or_second (bit (m - 2 ^ i) j) _ (subst (λ (y : Place). T (is_filled y.result))
            (sym (now (w.first + j) ∙ (ap (λ (n : ℕ). update (place_at ps) at row (w.first + n)) q ∙ update_same (place_at ps) at row))) (unfold is_filled in tt))
        each j z (no d) =
            subst (λ (b : Bool). T (b || is_filled (place_at (place_put ps at row) (w.first + j)).result)) (sym (bit_clear i m j open-i d))
            (subst (λ (y : Place). T (bit m j || is_filled y.result)) (sym (now (w.first + j) ∙ update_other (place_at ps) at row (w.first + j) (λ q. d (omega arith))))
            (unfold rest_filled in (below w.count _ f.rest j z)))

  abbrev put : List ℕ → ℕ → ℕ → Filled
  put ps m i = filled (place_put ps (w.first + i) (record { item = (place_at ps (w.first + i)).item; result = Some v })) (m - 2 ^ i)

  abbrev Fills : Filled → Type 0
  Fills y = Filling y.places y.open_places

  fill_step : (ps : List ℕ) (m i : ℕ) → Filling ps m → i < w.count
      → Filling (fill_one ps m (w.first + i) i x v).places (fill_one ps m (w.first + i) i x v).open_places
  unfolding fill_one
  fill_step ps m i f low = by (bit m i) refl (eqb (place_at ps (w.first + i)).item.0 x) refl
    where
      by : (b : Bool) → bit m i ≡ b → (c : Bool) → eqb (place_at ps (w.first + i)).item.0 x ≡ c
          → Fills (pick b (pick c (put ps m i) (filled ps m)) (filled ps m))
      by true p true q = written ps m i f low p (eqb-true _ x q)
      by true p false q = f
      by false p c q = f

  fill-keeps : (n : ℕ) (ps : List ℕ) (m i : ℕ) → i + n ≤ w.count → Filling ps m
      → Filling (fill_from ps m w.first x v i n).places (fill_from ps m w.first x v i n).open_places
  unfolding fill_from
  fill-keeps zero ps m i z f = f
  fill-keeps (suc n) ps m i z f =
      fill-keeps n (fill_one ps m (w.first + i) i x v).places (fill_one ps m (w.first + i) i x v).open_places (i + 1) (omega arith) (fill_step ps m i f (omega arith))

  abbrev pub after : Filled
  after = fill_from s.places w.open_places w.first x v 0 w.count

  pub all_filled : Filling after.places after.open_places
  all_filled = fill-keeps w.count s.places w.open_places 0 (omega arith) begins

-- ---- holders of slots

-- no other holder has this object for its source
abbrev pub Alone : View → ℕ → Type 0
Alone v o = (g z : ℕ) → Held Nothing v g z → z ≡ o → ⊥

settle_alone : (v : View) (o : ℕ) (x : Object) → Settles v o x → is_coroutine (kind x) ≡ false → SoundBut 0 Nothing Nothing v → Alone (with_object v o x) o
unfolding with_object
settle_alone v o x st c h g z (by_object y l n e) q =
    nobody_slot (sym (ap awaiter_of (ap (update v.objects o x) q ∙ update_same v.objects o x) ∙ st.free) ∙ e)
settle_alone v o x st c h g z (by_task t m l e) q =
    let is_one : T (is_coroutine (kind (v.objects (v.tasks t).coroutine.0))) =
    slot_task v.header v.objects t (v.tasks t) (heap_id g) (heap_id (v.tasks t).coroutine.0) e l (h.tasks t m) in
    true≢false (sym (is_true _ (subst (λ (j : ℕ). T (is_coroutine (kind (v.objects j)))) q is_one)) ∙ (sym st.coroutine ∙ c))

pub alone_keeps : {r : ℕ → Bool} {D : ℕ → Type 0} {hd : Header} (s : Store) (o : ℕ) (x : Object) → ObjectFits x → Settles (view s) o x → is_coroutine (kind x) ≡ false
    → SoundDuring Nothing r D hd s → Alone (view (put_object s o x)) o
alone_keeps s o x f st c h =
    subst (λ (v : View). Alone v o) (sym (view-put_object s o x h.kept.memory.sized (omega (arith, st.made, h.kept.but.fits.made_fits)) f))
    (settle_alone (view s) o x st c h.kept.but)

-- a gather's own slot is of another gather
not_own_slot : {v : View} (g : ℕ) (w : AwaitedGather) → SoundBut 0 Nothing Nothing v → g < v.header.made → as_awaited (v.objects g) ≡ some w
    → (f x : ℕ) → Slotted v.header.made v.objects v.places g f x → f ≡ g → ⊥
not_own_slot {v} g w h l e f x sl q =
    let op : Open v.places w g = sl.opens w (ap (λ (m : ℕ). as_awaited (v.objects m)) q ∙ e) in
    let up : g < g = open_lower g w g h l e op in
    omega arith

-- a holder's slot of another gather, when one object is written
pub elsewhere : (n : ℕ) (os : ℕ → Object) (ps : ℕ → Place) (o : ℕ) (x : Object) (z g y : ℕ) → (g ≡ o → ⊥) → Slotted n os ps z g y → Slotted n (update os o x) ps z g y
elsewhere n os ps o x z g y d h =
    record {
      own = h.own;
      made = h.made;
      committed = subst (λ (r : Object). T (is_committed (kind r))) (sym (update_other os o x g d)) h.committed;
      opens = λ w e. h.opens w (ap as_awaited (sym (update_other os o x g d)) ∙ e);
    }

-- ---- the gather after the source's places are filled

-- the gather with another open word
abbrev pub awaits_on : AwaitedGather → ℕ → Object
awaits_on w m = Object.GatherFuture w.first w.count (GatherState.Awaited w.awaiter m)

-- an awaited gather with another open word: it is not 0, the rest is filled, and the holders' places are open
mask_fits : (v : View) (g m : ℕ) (w : AwaitedGather) → SoundBut 0 Nothing Nothing v → g < v.header.made → as_awaited (v.objects g) ≡ some w
    → m < 2 ^ w.count → T (not (eqb m 0)) → T (rest_filled v.places w.first w.count m)
    → ((z : ℕ) → Held Nothing v g z → (i : ℕ) → bit w.open_places i ≡ true → (v.places (w.first + i)).item.0 ≡ z → bit m i ≡ true)
    → Fits 0 0 Nothing Nothing Nothing Nothing v g (awaits_on w m)
unfolding count_of committed_places kind items_below object_filled gather_filled as_awaited as_pending object_in_range open_in_range object_values awaiter_of
mask_fits v g m w h l e small some_open rest holders =
    let q = awaited-object (v.objects g) w e in
    record {
      made = l;
      count = sym (ap count_of q);
      room = subst (λ (x : Object). committed_places x + 0 ≤ w.count + 0) (sym q) (omega arith);
      coroutine = λ t. subst (λ (y : Object). T (is_coroutine (kind y))) q t;
      completed = λ t. subst (λ (y : Object). T (is_completed (kind y))) q t;
      committed = λ t. tt;
      range = λ p t. both _ _ (both_left (eqb w.first p) _ (subst (λ (y : Object). T (object_in_range v.header p y)) q t)) (lt→ltb m (2 ^ w.count) small);
      awaiter = λ t. subst (λ (a : Awaiter). T (awaiter_in_range v.header a)) (awaiter_is (v.objects g) w e) t;
      lower = λ t. subst (λ (y : Object). T (items_below v.places g y)) q t;
      known = λ t. tt;
      call = λ a f. absurd_some f;
      awaits = λ t z d b f. sym (awaiter_is (v.objects g) w e) ∙ f;
      awaited = λ n t f. h.awaited g l n t (awaiter_is (v.objects g) w e ∙ f);
      filled = λ n. both _ _ some_open rest;
      slot = λ n f y a.
          let sl : Slotted v.header.made v.objects v.places g f y = h.object_slots g l n f y (awaiter_is (v.objects g) w e ∙ a) in
          elsewhere v.header.made v.objects v.places g (awaits_on w m) g f y (not_own_slot g w h l e f y sl) sl;
      opens = λ u f z held sl.
          let op : Open v.places w z = sl.opens w e in
          let same : ◌≡◌ {A = AwaitedGather} (record { first = w.first; count = w.count; awaiter = w.awaiter; open_places = m }) u = some-injective _ u f in
          subst (λ (x : AwaitedGather). Open v.places x z) same
          (record { at = op.at; under = op.under; is_open = holders z held op.at op.is_open op.names; names = op.names });
      excepted = λ t b z d e. inl (λ z. z);
      in_commit = λ p d n z. z;
    }

pub completed-done : (ps : ℕ → Place) (f n : ℕ) → T (rest_filled ps f n 0) → Done ps f n GatherState.Completed
unfolding kind gather_filled awaiter_of as_awaited open_in_range
completed-done ps f n h = record { committed = refl; plain = refl; filled = h; free = refl; settled = refl; range = tt }

woken_resumes : (v : Value) → Resumes (TaskState.Woken v)
unfolding blocked_on
woken_resumes v = record { lives = tt; unblocked = refl; stands = refl; old = refl; ready = tt }

held-places : (s : Store) (ps : List ℕ) (g z : ℕ) → Held Nothing (view (put_places s ps)) g z → Held Nothing (view s) g z
unfolding view put_places task object header
held-places s ps g z (by_object y l n e) = by_object y l n e
held-places s ps g z (by_task t m l e) = by_task t m l e

module _ {r : ℕ → Bool} {D : ℕ → Type 0} {hd : Header} (s : Store) (g x : ℕ) (v : Value) (w : AwaitedGather) (h : SoundDuring Nothing r D hd s)
    (l : g < (header s).made) (e : as_awaited (object s g) ≡ some w) (k : T (value_known (header s).made (object s) v)) where
  mask : ℕ
  mask = (after s g x v w h l e k).open_places

  middle : Store
  middle = put_places s (after s g x v w h l e k).places

  fills : Filling s g x v w h l e k (after s g x v w h l e k).places mask
  unfolding mask
  fills = all_filled s g x v w h l e k

  full : Object
  full = Object.GatherFuture w.first w.count GatherState.Completed

  same_header : header middle ≡ header s
  unfolding middle header put_places
  same_header = refl

  same_object : (o : ℕ) → object middle o ≡ object s o
  unfolding middle object put_places
  same_object o = refl

  during : SoundDuring Nothing r D hd middle
  unfolding middle
  during = fills.during

  made : g < (header middle).made
  made = subst (λ (y : Header). g < y.made) (sym same_header) l

  awaited : as_awaited (object middle g) ≡ some w
  awaited = ap as_awaited (same_object g) ∙ e

  rest : T (rest_filled (place middle) w.first w.count mask)
  unfolding middle place put_places
  rest = fills.rest

  full-fits : ObjectFits full
  unfolding full
  full-fits = ((awaited-fits s g w e).0, tt)

  -- it is completed
  all-settles : mask ≡ 0 → Settles (view middle) g full
  unfolding view full
  all-settles q =
      gather_settles (view middle) g w GatherState.Completed made awaited
      (completed-done (place middle) w.first w.count (subst (λ (m : ℕ). T (rest_filled (place middle) w.first w.count m)) q rest))

  -- and its list may be handed on
  list-known : T (value_known (header (put_object middle g full)).made (object (put_object middle g full)) (Value.List (heap_id g)))
  unfolding value_known view
  list-known =
      both _ _ (lt→ltb g _ (subst (λ (y : Header). g < y.made) (sym (header_put-object middle g full)) made))
      (subst (λ (y : Object). T (is_completed (kind y)))
      (sym (object_put-object middle g full during.kept.memory.sized (omega (arith, made, during.kept.but.fits.made_fits)) full-fits)) (unfold full kind in tt))

  -- it waits on
  waits-keeps : (mask ≡ 0 → ⊥) → ((z : ℕ) → Held Nothing (view s) g z → z ≡ x → ⊥) → SoundDuring Nothing r D hd (put_object middle g (awaits_on w mask))
  unfolding view
  waits-keeps some_open alone =
      object-during middle during g (awaits_on w mask) (old-fits.0, (old-fits.1.0, omega (arith, fills.less, old-fits.1.1)))
      (mask_fits (view middle) g mask w during.kept.but made awaited small (holds _ (ap not (ne_eqb mask 0 some_open))) rest
      (λ z t i b n. fills.kept i b (λ y. alone z (unfold middle in (held-places s (after s g x v w h l e k).places g z t)) (sym n ∙ (item-same (w.first + i) ∙ y)))))
    where
      old-fits : ObjectFits (awaits_on w w.open_places)
      old-fits = awaited-fits s g w e

      small : mask < 2 ^ w.count
      small = omega (arith, fills.less, open_small g w h.kept.but l e)

      item-same : (p : ℕ) → (place middle p).item.0 ≡ (place s p).item.0
      item-same p = unfold middle place put_places in (ap (λ (y : HeapId). y.0) (fills.item p))

  -- what the gather's settling is
  resolved : eqb mask 0 ≡ true → resolve_child s g x v ≡ record { store = put_object middle g full; onward = some w.awaiter }
  unfolding resolve_child mask middle full resolve_awaited resolve_left
  resolved q = rw (e, q)

  resolved-on : eqb mask 0 ≡ false → resolve_child s g x v ≡ record { store = put_object middle g (awaits_on w mask); onward = none }
  unfolding resolve_child mask middle resolve_awaited resolve_left
  resolved-on q = rw (e, q)

-- ---- a value climbs through each gather that it completes

-- a value of object o on its way to awaiter a; no other holder has o for its source
pub record DeliveringValue (r : ℕ → Bool) (D : ℕ → Type 0) (hd : Header) (o : ℕ) (v : Value) (s : Store) (a : Awaiter) : Type 0 where
  pub known : T (value_known (header s).made (object s) v)
  pub detached : Detached (view s) o a
  pub alone : Alone (view s) o
  pub during : SoundDuring (Delivering a) r D hd s

module _ (r : ℕ → Bool) (D : ℕ → Type 0) (hd : Header) where
  -- it fills its places in the gather of a slot, if that is still awaited
  pub value-sends : (s : Store) (o g x : ℕ) (v : Value) → DeliveringValue r D hd o v s (Awaiter.GatherSlot (heap_id g) (heap_id x))
      → Sends r D hd (DeliveringValue r D hd g (Value.List (heap_id g))) o g (resolve_child s g x v)
  unfolding view
  value-sends s o g x v i = by (as_awaited (object s g)) refl
    where
      R : Store → Awaiter → Type 0
      R = DeliveringValue r D hd g (Value.List (heap_id g))

      h : SoundDuring Nothing r D hd s
      h = delivery_ends s (λ u z. task_slot (sym z)) i.during

      sl : Slotted (header s).made (object s) (place s) o g x
      sl = i.detached.slot g x refl

      k : T (value_known (header s).made (object s) v)
      k = i.known

      by : (w : Option AwaitedGather) → as_awaited (object s g) ≡ w → Sends r D hd R o g (resolve_child s g x v)
      by none q = unfold resolve_child in (rw q (unfold resolve_awaited in (sends-nothing r D hd R o g s h)))
      by (some w) q = left (eqb (mask s g x v w h sl.made q k) 0) refl
        where
          mk : ℕ
          mk = mask s g x v w h sl.made q k

          md : Store
          md = middle s g x v w h sl.made q k

          fu : Object
          fu = full s g x v w h sl.made q k

          aw : awaiter_of (object md g) ≡ w.awaiter
          aw = awaiter_is (object md g) w (awaited s g x v w h sl.made q k)

          left : (b : Bool) → eqb mk 0 ≡ b → Sends r D hd R o g (resolve_child s g x v)
          left true z =
              let st : Settles (view md) g fu = all-settles s g x v w h sl.made q k (eqb-true mk 0 z) in
              let fit : ObjectFits fu = full-fits s g x v w h sl.made q k in
              let keep : SoundDuring Nothing r D hd md = during s g x v w h sl.made q k in
              subst (Sends r D hd R o g) (sym (resolved s g x v w h sl.made q k z))
              (sends-on r D hd R o g (put_object md g fu) w.awaiter
              (record {
                known = list-known s g x v w h sl.made q k;
                detached = subst (λ (a : Awaiter). Detached (view (put_object md g fu)) g a) aw (detached_keeps md g fu fit st keep);
                alone = alone_keeps md g fu fit st (unfold full kind in refl) keep;
                during = subst (λ (a : Awaiter). SoundDuring (Delivering a) r D hd (put_object md g fu)) aw (settle_keeps md g fu fit st keep);
              }) (open_lower g w o h.kept.but sl.made q (sl.opens w q)))
          left false z =
              subst (Sends r D hd R o g) (sym (resolved-on s g x v w h sl.made q k z))
              (sends-nothing r D hd R o g _ (waits-keeps s g x v w h sl.made q k (eqb-false mk 0 z) (λ y t p. i.alone g y t (p ∙ sl.own))))

  success-slot : (n : ℕ) (s : Store) (o g x : ℕ) (v : Value) → object_limit ≤ suc n + o → DeliveringValue r D hd o v s (Awaiter.GatherSlot (heap_id g) (heap_id x))
      → ((s : Store) (o : ℕ) (a : Awaiter) (v : Value) → object_limit ≤ n + o → DeliveringValue r D hd o v s a → DeliveryEnds r D hd (deliver_awaiter_success s a v))
      → DeliveryEnds r D hd (deliver_awaiter_success s (Awaiter.GatherSlot (heap_id g) (heap_id x)) v)
  unfolding view
  success-slot n s o g x v f i go = by (resolve_child s g x v).onward refl
    where
      sent : Sends r D hd (DeliveringValue r D hd g (Value.List (heap_id g))) o g (resolve_child s g x v)
      sent = value-sends s o g x v i

      low : g < object_limit
      low = omega (arith, (i.detached.slot g x refl).made, i.during.kept.but.fits.made_fits)

      by : (b : Option Awaiter) → (resolve_child s g x v).onward ≡ b → DeliveryEnds r D hd (deliver_awaiter_success s (Awaiter.GatherSlot (heap_id g) (heap_id x)) v)
      by none q = unfold deliver_awaiter_success send_value in (rw q (unfold climb in (nobody_delivery_ends _ (sent.stays q))))
      by (some a) q =
          rw (success_climbs s (heap_id g) (heap_id x) v a i.during.kept.memory.sized low q) (go _ g a (Value.List (heap_id g)) (omega (arith, sent.up a q)) (sent.delivers_on a q))

  success-climb : (n : ℕ) (s : Store) (o : ℕ) (a : Awaiter) (v : Value) → object_limit ≤ n + o → DeliveringValue r D hd o v s a → DeliveryEnds r D hd (deliver_awaiter_success s a v)
  unfolding view
  success-climb zero s o a v f i = absurd (not-suc-le-zero {n = 0} (omega (arith, f, i.detached.made, i.during.kept.but.fits.made_fits)))
  success-climb (suc n) s o Awaiter.Nobody v f i = unfold deliver_awaiter_success send_value in (nobody_delivery_ends s (delivery_ends s (λ u z. nobody-task z) i.during))
  success-climb (suc n) s o (Awaiter.Task t) v f i = unfold deliver_awaiter_success send_value in
      (reach_keeps s t.0 o (TaskState.Woken v) (woken_resumes v) (value-fits (header s).made (object s) v i.during.kept.but.fits.made_fits i.known)
      (unfold state_values in i.known) i.detached i.during)
  success-climb (suc n) s o (Awaiter.GatherSlot g x) v f i = success-slot n s o g.0 x.0 v f i (λ y p b w j m. success-climb n y p b w j m)

  -- A value of object o goes to its awaiter.
  pub success_keeps : (s : Store) (o : ℕ) (a : Awaiter) (v : Value) → DeliveringValue r D hd o v s a → DeliveryEnds r D hd (deliver_awaiter_success s a v)
  success_keeps s o a v i = success-climb object_limit s o a v (omega arith) i
