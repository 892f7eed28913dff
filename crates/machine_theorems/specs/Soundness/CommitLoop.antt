-- The commit of a gather and of the gathers nested in it keeps soundness.
use Rattle.std.specs.Prelude.{◌≡◌, ◌⊎◌, Bool, not, List, [], ◌∷◌, ltb}
use Rattle.std.proofs.Math.Path.{refl, subst}
use Rattle.std.proofs.Common.{ap, sym, ◌∙◌, inl, inr, le_refl, arith, lt→ltb, pow_mono}
use Rattle.std.proofs.Math.Bool.{true, false}
use Rattle.std.proofs.Math.Option.{Option, some, some-injective}
use Prim.Native.Nat.{ℕ, ◌+◌, ◌-◌, ◌^◌, ◌≤◌, ◌<◌}
use Rattle.std.proofs.Math.Decide.{ℕ_discrete}
use Rattle.std.proofs.Math.Dec.{T, eqb}
use borrow.Author.Tests.{eqb-true}
use Rattle.asyncio.specs.declared.HeapId.{HeapId}
use Rattle.asyncio.specs.declared.Value.{Value}
use Rattle.std.specs.Prelude.{Some}
use Rattle.asyncio.specs.declared.Error.{Error}
use Rattle.asyncio.specs.declared.Awaiter.{Awaiter}
use Rattle.asyncio.specs.declared.GatherState.{GatherState}
use Rattle.asyncio.specs.declared.Object.{Object}
use Rattle.asyncio.specs.declared.Place.{Place}
use Rattle.asyncio.specs.declared.Header.{Header}
use Rattle.asyncio.specs.Ranges.{ObjectFits, PlaceFits, ErrorFits}
use Rattle.asyncio.specs.Numbers.{heap_id}
use Rattle.asyncio.specs.States.{pick}
use Rattle.asyncio.specs.Kinds.{kind, is_completed, is_committed}
use Rattle.asyncio.specs.Parts.{awaiter_of}
use Rattle.machine.specs.Tests.{◌and◌}
use Rattle.machine.specs.Store.{Store, View, view, object, place, header, put_object}
use Rattle.machine.specs.Scheduler.{AwaitedGather, as_awaited}
use Rattle.machine.specs.Commit.{ready, pending, gives, item}
use Rattle.machine.specs.Commit.{open_place, fill_place, Frame, with_state, set_gather}
use Rattle.machine.specs.Commit.{settle_as, settle_gather_commit, resume_in, resume_as, resume_after_child, unwind}
use Rattle.machine.specs.Sound.{value_known, rest_filled, gather_filled, object_filled}
use Rattle.machine_laws.specs.Views.{with_object}
use Rattle.machine_laws.specs.Facts.{Open, Slotted, Nothing}
use Rattle.machine_laws.specs.TestLaws.{both, from-below}
use Rattle.machine_laws.specs.StoreLaws.{update_same, update_other, place-fits, header-fits, header_put-object, object_put-object}
use Rattle.machine_laws.specs.StoreLaws.{view-put_object, view-put_place}
use Rattle.machine_laws.specs.MakingLaws.{value-fits}
use Rattle.machine_laws.specs.DeliveryLaws.{awaited-object, awaited-fits}
use Rattle.machine_theorems.specs.Soundness.Deliver.{task_slot, awaiter_is, Done, failed-done}
use Rattle.machine_theorems.specs.Soundness.Fill.{gather_within, open_small, awaits_on, completed-done}
use Rattle.machine_theorems.specs.Soundness.Memory.{Memory, memory_object, memory_place}
use Rattle.machine_theorems.specs.Soundness.CommitSteps.{wider, wider_small, wider-opens, Parked, park, Opened}
use Rattle.machine_theorems.specs.Soundness.CommitInv.{OnStack, OnTop, Stacked, above, stacked_object, Inv, lessen, relax, open_step, fill_step, After, with_state-is, settle_memory, settle_top}

-- ---- rows that are written fit their words

pub awaits_fits : (s : Store) (g : ℕ) (w : AwaitedGather) → as_awaited (object s g) ≡ some w → (m : ℕ) → m < 2 ^ w.count → ObjectFits (awaits_on w m)
awaits_fits s g w e m l =
    let old : ObjectFits (awaits_on w w.open_places) = awaited-fits s g w e in
    let most : 2 ^ w.count ≤ 2 ^ 32 = pow_mono old.0.at_most in
    (old.0, (old.1.0, omega arith))

-- ---- the stack in a store

stacked_put : (s : Store) (x : ℕ) (r : Object) {root t g : ℕ} {a : Awaiter} {fs : List Frame} {k : ℕ} → Memory s → x < (header s).made → ObjectFits r → x ≤ g
    → Stacked (header s).made (object s) (place s) root t g a fs k
    → Stacked (header (put_object s x r)).made (object (put_object s x r)) (place (put_object s x r)) root t g a fs k
unfolding view with_object
stacked_put s x r {root} {t} {g} {a} {fs} {k} m low f l st =
    subst (λ (v : View). Stacked v.header.made v.objects v.places root t g a fs k)
    (sym (view-put_object s x r m.sized (omega (arith, low, (header-fits s).made_fits)) f)) (stacked_object x r l st)

pub stacked_set : (s : Store) (g : ℕ) (w : AwaitedGather) (y : GatherState) {root t : ℕ} {a : Awaiter} {fs : List Frame} {k : ℕ} → Memory s → g < (header s).made
    → as_awaited (object s g) ≡ some w → ObjectFits (Object.GatherFuture w.first w.count y) → Stacked (header s).made (object s) (place s) root t g a fs k
    → Stacked (header (set_gather s g y)).made (object (set_gather s g y)) (place (set_gather s g y)) root t g a fs k
unfolding set_gather
stacked_set s g w y {root} {t} {a} {fs} {k} m low e f st =
    subst (λ (x : Object). Stacked (header (put_object s g x)).made (object (put_object s g x)) (place (put_object s g x)) root t g a fs k) (sym (with_state-is (object s g) w y e))
    (stacked_put s g (Object.GatherFuture w.first w.count y) m low f (le_refl _) st)

-- a commit's end, or its midst, with the words
pub record Ends (t k : ℕ) (Q : ℕ → Type 0) (s : Store) : Type 0 where
  pub memory : Memory s
  pub after : After t k Q (view s)

-- ---- an error: every gather on the stack fails

pub unwind_keeps : (fs : List Frame) (s : Store) (root t k j g i : ℕ) (w : AwaitedGather) (e : Error) → ErrorFits e → g < (header s).made → as_awaited (object s g) ≡ some w
    → Stacked (header s).made (object s) (place s) root t g w.awaiter fs j → Ends t k (OnTop g fs) s → Ends t k Nothing (unwind s (record { gather = g; next = i } ∷ fs) e)
unfolding unwind
unwind_keeps [] s root t k j g i w e ok l q st h =
    let d = failed-done (place s) w.first w.count e in
    record {
      memory = settle_memory s root t k j g w [] (GatherState.Failed e) d ok h.memory l q;
      after = settle_top s root t k j g w [] (GatherState.Failed e) d ok h.memory l q st h.after;
    }
unwind_keeps (f ∷ fs) s root t k j g i w e ok l q st h =
    by (stacked_set s g w (GatherState.Failed e) h.memory l q ((awaited-fits s g w q).0, ok) st)
    (record {
      memory = settle_memory s root t k j g w (f ∷ fs) (GatherState.Failed e) (failed-done (place s) w.first w.count e) ok h.memory l q;
      after = settle_top s root t k j g w (f ∷ fs) (GatherState.Failed e) (failed-done (place s) w.first w.count e) ok h.memory l q st h.after;
    })
    (λ j' w' l' q' st' h'. unwind_keeps fs (set_gather s g (GatherState.Failed e)) root t k j' f.gather f.next w' e ok l' q' st' h')
  where
    s1 : Store
    s1 = set_gather s g (GatherState.Failed e)

    by : {a : Awaiter} {m : ℕ} → Stacked (header s1).made (object s1) (place s1) root t g a (f ∷ fs) m → Ends t k (OnStack (f ∷ fs)) s1
        → ((j' : ℕ) (w' : AwaitedGather) → f.gather < (header s1).made → as_awaited (object s1 f.gather) ≡ some w'
        → Stacked (header s1).made (object s1) (place s1) root t f.gather w'.awaiter fs j' → Ends t k (OnTop f.gather fs) s1 → Ends t k Nothing (unwind s1 (f ∷ fs) e))
        → Ends t k Nothing (unwind s1 (f ∷ fs) e)
    by (above w' j' op lt nm lo aw rm rest) h1 go = go j' w' op.made op.awaited rest h1

-- ---- a gather whose places are all done

-- the places are filled, or open
pub rest-done : (ps : ℕ → Place) (n : ℕ) (os : ℕ → Object) (g i : ℕ) (w : AwaitedGather) → i ≡ w.count → Opened n os ps g i w → T (rest_filled ps w.first w.count w.open_places)
unfolding rest_filled
rest-done ps n os g i w e op = from-below w.count _ (λ j z. op.before j (omega arith))

-- in the midst of a commit, with the words
pub record Commits (root t g i : ℕ) (fs : List Frame) (s : Store) : Type 0 where
  pub memory : Memory s
  pub inv : Inv root t 0 (OnTop g fs) (view s) g i fs

-- a place of an awaited gather is filled
pub fill_commits : (root t : ℕ) (Q : ℕ → Type 0) (s : Store) (g i : ℕ) (fs : List Frame) → Memory s → (h : Inv root t 0 Q (view s) g i fs) → i < h.w.count → (x : Value)
    → T (value_known (header s).made (object s) x) → Memory (fill_place s h.w i x) × Inv root t 0 Q (view (fill_place s h.w i x)) g (i + 1) fs
unfolding fill_place view
fill_commits root t Q s g i fs m h l x k =
    let at : ℕ = h.w.first + i in
    let low : at < (header s).used = omega (arith, gather_within g h.w h.but h.opened.made h.opened.awaited) in
    let row : Place = record { item = (place s at).item; result = Some x } in
    let fit : PlaceFits row = record { item_fits = (place-fits s at).item_fits; result_fits = value-fits (header s).made (object s) x (header-fits s).made_fits k } in (
      memory_place s at row low fit m,
      subst (λ (v : View). Inv root t 0 Q v g (i + 1) fs) (sym (view-put_place s at row m.sized (omega (arith, low, (header-fits s).used_fits)) fit))
          (fill_step root t Q (view s) g i fs h l x k),
    )

-- the child of the frame p is settled: the frame's place is filled or open
module _ (root t : ℕ) (s : Store) (g i : ℕ) (p : Frame) (ps : List Frame) (mem : Memory s) (h : Inv root t 0 (OnTop g (p ∷ ps)) (view s) g i (p ∷ ps)) (end : i ≡ h.w.count) where
  abbrev Next : Store → Type 0
  Next x = Commits root t p.gather (p.next + 1) ps x

  abbrev w : AwaitedGather
  w = h.w

  made : g < (header s).made
  unfolding view
  made = h.opened.made

  top : as_awaited (object s g) ≡ some w
  unfolding view
  top = h.opened.awaited

  rest_of : T (rest_filled (place s) w.first w.count w.open_places)
  unfolding view
  rest_of = rest-done (place s) (header s).made (object s) g i w end h.opened

  s1 : Store
  s1 = set_gather s g GatherState.Completed

  full-fits : ObjectFits (Object.GatherFuture w.first w.count GatherState.Completed)
  full-fits = ((awaited-fits s g w top).0, tt)

  s1-known : T (value_known (header s1).made (object s1) (Value.List (heap_id g)))
  unfolding value_known set_gather s1
  s1-known =
      let x : Object = Object.GatherFuture w.first w.count GatherState.Completed in
      let same : with_state (object s g) GatherState.Completed ≡ x = with_state-is (object s g) w GatherState.Completed top in
      subst (λ (y : Object). T (ltb g (header (put_object s g y)).made and is_completed (kind (object (put_object s g y) g)))) (sym same)
      (both _ _ (lt→ltb g _ (subst (λ (y : Header). g < y.made) (sym (header_put-object s g x)) made))
      (subst (λ (y : Object). T (is_completed (kind y))) (sym (object_put-object s g x mem.sized (omega (arith, made, (header-fits s).made_fits)) full-fits)) (unfold kind in tt)))

  filled_next : eqb w.open_places 0 ≡ true → Next (resume_after_child p (gives s1 (ready (Value.List (heap_id g)))))
  unfolding view s1 resume_after_child
  filled_next q = by (stacked_set s g w GatherState.Completed mem made top full-fits h.stack)
    where
      none_open : w.open_places ≡ 0
      none_open = eqb-true w.open_places 0 q

      done : Done (place s) w.first w.count GatherState.Completed
      done = completed-done (place s) w.first w.count (subst (λ (m : ℕ). T (rest_filled (place s) w.first w.count m)) none_open rest_of)

      mem1 : Memory s1
      mem1 = settle_memory s root t (0 + ((w.count - i) + h.k)) h.k g w (p ∷ ps) GatherState.Completed done tt mem made top

      aft : After t (0 + ((w.count - i) + h.k)) (OnStack (p ∷ ps)) (view s1)
      aft = settle_top s root t (0 + ((w.count - i) + h.k)) h.k g w (p ∷ ps) GatherState.Completed done tt mem made top h.stack
          (record { but = h.but; runs = h.runs; low = h.low; moment = h.moment })

      by : Stacked (header s1).made (object s1) (place s1) root t g w.awaiter (p ∷ ps) h.k → Next (resume_as p (gives s1 (ready (Value.List (heap_id g)))) (as_awaited (object s1 p.gather)))
      by (above w' j op lt nm lo aw rm rest) =
          subst (λ (o : Option AwaitedGather). Next (resume_as p (gives s1 (ready (Value.List (heap_id g)))) o)) (sym op.awaited) (unfold resume_as resume_in in filled)
        where
          inv : Inv root t 0 (OnTop p.gather ps) (view s1) p.gather p.next ps
          inv =
              record {
                w = w';
                k = j;
                opened = op;
                stack = rest;
                but = lessen {k = 0 + ((w.count - i) + h.k)} (omega arith) aft.but;
                runs = aft.runs;
                low = aft.low;
                moment = aft.moment;
              }

          filled : Next (fill_place s1 w' p.next (Value.List (heap_id g)))
          filled =
              let r = fill_commits root t (OnTop p.gather ps) s1 p.gather p.next ps mem1 inv lt (Value.List (heap_id g)) s1-known in
              record { memory = r.0; inv = r.1 }

  parked-next : eqb w.open_places 0 ≡ false → Next (resume_after_child p (gives s pending))
  unfolding view resume_after_child
  parked-next q = by h.stack refl
    where
      Q : ℕ → Type 0
      Q = OnTop g (p ∷ ps)

      by : {a : Awaiter} → Stacked (header s).made (object s) (place s) root t g a (p ∷ ps) h.k → a ≡ w.awaiter → Next (resume_as p (gives s pending) (as_awaited (object s p.gather)))
      by (above w' j op lt nm lo aw rm rest) same =
          subst (λ (o : Option AwaitedGather). Next (resume_as p (gives s pending) o)) (sym op.awaited) (unfold resume_as resume_in open_place wider in
          (record { memory = memory_object s p.gather x op.made fit mem; inv = subst (λ (v : View). Inv root t 0 (OnTop p.gather ps) v p.gather (p.next + 1) ps) (sym there) closed }))
        where
          inv : Inv root t 0 Q (view s) p.gather p.next ps
          inv =
              record {
                w = w';
                k = j;
                opened = op;
                stack = rest;
                but = lessen {k = 0 + ((w.count - i) + h.k)} (omega arith) h.but;
                runs = h.runs;
                low = h.low;
                moment = h.moment;
              }

          x : Object
          x = awaits_on w' (wider w' p.next)

          fit : ObjectFits x
          fit = awaits_fits s p.gather w' op.awaited (wider w' p.next) (wider_small w' p.next lt (open_small p.gather w' h.but op.made op.awaited))

          there : view (put_object s p.gather x) ≡ with_object (view s) p.gather x
          there = view-put_object s p.gather x mem.sized (omega (arith, op.made, (header-fits s).made_fits)) fit

          v1 : View
          v1 = with_object (view s) p.gather x

          stepped : Inv root t 0 Q v1 p.gather (p.next + 1) ps
          stepped = relax root t Q v1 p.gather (p.next + 1) ps (open_step root t Q (view s) p.gather p.next ps (inr (inl refl)) inv lt)

          row-g : v1.objects g ≡ object s g
          row-g = unfold with_object in (update_other (object s) p.gather x g (λ e. omega arith))

          awaiter-g : awaiter_of (v1.objects g) ≡ Awaiter.GatherSlot (heap_id p.gather) (heap_id g)
          awaiter-g = ap awaiter_of row-g ∙ (awaiter_is (object s g) w top ∙ (sym same ∙ aw))

          u : AwaitedGather
          u = record { first = w'.first; count = w'.count; awaiter = w'.awaiter; open_places = wider w' p.next }

          row-p : as_awaited (v1.objects p.gather) ≡ some u
          row-p = unfold with_object as_awaited in (ap as_awaited (update_same (object s) p.gather x))

          open-now : Open v1.places u g
          open-now = record { at = p.next; under = lt; is_open = wider-opens w' p.next; names = unfold with_object in nm }

          here : Slotted v1.header.made v1.objects v1.places g p.gather g
          here =
              record {
                own = refl;
                made = stepped.opened.made;
                committed = unfold with_object in (subst (λ (z : Object). T (is_committed (kind z))) (sym (update_same (object s) p.gather x)) (unfold kind in tt));
                opens = λ z f. subst (λ (y : AwaitedGather). Open v1.places y g) (some-injective u z (sym row-p ∙ f)) open-now;
              }

          slot_same : (f y : ℕ) → Awaiter.GatherSlot (heap_id p.gather) (heap_id g) ≡ Awaiter.GatherSlot (heap_id f) (heap_id y) → Slotted v1.header.made v1.objects v1.places g f y
          slot_same f y e =
              let a : heap_id p.gather ≡ heap_id f = cc in
              let b : heap_id g ≡ heap_id y = cc in
              subst (λ (z : HeapId). Slotted v1.header.made v1.objects v1.places g f z.0) b
              (subst (λ (z : HeapId). Slotted v1.header.made v1.objects v1.places g z.0 g) a here)

          parked : Parked v1 g
          parked =
              record {
                awaited = λ z e. task_slot (sym e ∙ awaiter-g);
                filled = subst (λ (y : Object). T (object_filled v1.places y)) (sym (row-g ∙ awaited-object (object s g) w top))
                    (unfold object_filled gather_filled with_object in (both _ _ (subst (λ (b : Bool). T (not b)) (sym q) tt) rest_of));
                slot = λ f y e. slot_same f y (sym awaiter-g ∙ e);
              }

          off : (y : ℕ) → (OnTop p.gather ps y → ⊥) → (Q y → ⊥) ⊎ Parked v1 y
          off y n = at (ℕ_discrete y g)
            where
              not_on : (y ≡ g → ⊥) → Q y → ⊥
              not_on d (inl e) = d e
              not_on d (inr e) = n e

              at : Dec (y ≡ g) → (Q y → ⊥) ⊎ Parked v1 y
              at (yes e) = inr (subst (Parked v1) (sym e) parked)
              at (no d) = inl (not_on d)

          closed : Inv root t 0 (OnTop p.gather ps) v1 p.gather (p.next + 1) ps
          closed =
              record {
                w = stepped.w;
                k = stepped.k;
                opened = stepped.opened;
                stack = stepped.stack;
                but = park off stepped.but;
                runs = stepped.runs;
                low = stepped.low;
                moment = stepped.moment;
              }

  pub settle_next : Next (resume_after_child p (settle_gather_commit s g))
  unfolding settle_gather_commit view s1
  settle_next = subst (λ (o : Option AwaitedGather). Next (resume_after_child p (settle_as s g o))) (sym h.opened.awaited) (unfold settle_as in (by (eqb w.open_places 0) refl))
    where
      by : (b : Bool) → eqb w.open_places 0 ≡ b
          → Next (resume_after_child p (pick b (gives (set_gather s g GatherState.Completed) (ready (Value.List (heap_id g)))) (gives s pending)))
      by true q = filled_next q
      by false q = parked-next q
