-- A commit keeps `Sourced`: every open place of an awaited gather names a source that will deliver there.
use Rattle.std.specs.Prelude.{◌≡◌, ◌⊎◌, Bool, List, [], ◌∷◌, ℕ, zero, suc, ◌+◌, ◌-◌, ◌≤◌, ◌<◌, T, eqb}
use Rattle.std.proofs.Math.Path.{refl, subst}
use Rattle.std.proofs.Common.{ap, sym, ◌∙◌, inl, arith}
use Rattle.std.proofs.Math.Logic.{inr}
use Rattle.std.proofs.Math.Bool.{true, false}
use Rattle.std.proofs.Math.Option.{Option, none, some, some-injective}
use Rattle.std.proofs.Math.Nat.{not-suc-le-zero}
use Rattle.std.proofs.Math.Decide.{ℕ_discrete}
use Rattle.asyncio.specs.declared.Value.{Value}
use Rattle.asyncio.specs.declared.Error.{Error}
use Rattle.asyncio.specs.declared.Awaiter.{Awaiter}
use Rattle.asyncio.specs.declared.GatherState.{GatherState}
use Rattle.asyncio.specs.declared.Object.{Object}
use Rattle.asyncio.specs.declared.Place.{Place}
use Rattle.asyncio.specs.declared.Moment.{Moment}
use Rattle.asyncio.specs.Limits.{object_limit}
use Rattle.asyncio.specs.Ranges.{ObjectFits, ErrorFits}
use Rattle.asyncio.specs.Numbers.{heap_id, task_id}
use Rattle.asyncio.specs.States.{pick}
use Rattle.asyncio.specs.Kinds.{kind, is_committed}
use Rattle.asyncio.specs.Parts.{count_of}
use Rattle.machine.specs.Store.{Store, view, object, place, header, put_object}
use Rattle.machine.specs.Scheduler.{AwaitedGather, as_awaited}
use Rattle.machine.specs.Commit.{ready, pending, gives, open_place, Stop, at_end, at_nested, at_error, Frame, with_state, set_gather, open_gather_commit}
use Rattle.machine.specs.Commit.{step_gather_commit, settle_as, settle_gather_commit, resume_in, resume_as, resume_after_child, unwind, Committed, turn, commit_loop, commit_gather_tree}
use Rattle.machine_laws.specs.Views.{Sized}
use Rattle.machine_laws.specs.Facts.{SoundBut, Nothing}
use Rattle.machine_laws.specs.StoreLaws.{object_put-other, object-fits, header-fits}
use Rattle.machine_laws.specs.DeliveryLaws.{absurd_some, awaited-fits}
use Rattle.machine_theorems.specs.Soundness.Deliver.{task_slot, awaiter_is}
use Rattle.machine_theorems.specs.Soundness.Fill.{gather_within, open_small}
use Rattle.machine_theorems.specs.Soundness.Exits.{runner_low}
use Rattle.machine_theorems.specs.Soundness.Stores.{SoundStore}
use Rattle.machine_theorems.specs.Soundness.Memory.{Memory, memory_object}
use Rattle.machine_theorems.specs.Soundness.CommitSteps.{wider, wider_small}
use Rattle.machine_theorems.specs.Soundness.CommitInv.{OnStack, OnTop, Stacked, bottom, above, Inv, with_state-is}
use Rattle.machine_theorems.specs.Soundness.CommitLoop.{awaits_fits, Commits, settle_next, stacked_set}
use Rattle.machine_theorems.specs.Soundness.CommitItems.{AtNested, AtError, StopOk, inv_count}
use Rattle.machine_theorems.specs.Soundness.AwaitGather.{nested_commits, frame-stops, commit_begins}
use Rattle.machine_sessions.specs.Stall.NoStall.{by_gather, Sourced}
use Rattle.machine_sessions.specs.Stall.SourcedCommitSteps.{Lit, lit_fewer, slot_gather_same, open_sourced, fill_sourced, leave_sourced, place_sourced}
use Rattle.machine_sessions.specs.Stall.SourcedCommitItems.{StopLit, items-lit}

-- ---- the stack

-- is a gather on it?
on_stack : (fs : List Frame) (p : ℕ) → Dec (OnStack fs p)
on_stack [] p = no (λ z. z)
on_stack (f ∷ fs) p = by (ℕ_discrete p f.gather) (on_stack fs p)
  where
    neither : (p ≡ f.gather → ⊥) → (OnStack fs p → ⊥) → OnStack (f ∷ fs) p → ⊥
    neither a b (inl q) = a q
    neither a b (inr q) = b q

    by : Dec (p ≡ f.gather) → Dec (OnStack fs p) → Dec (OnStack (f ∷ fs) p)
    by (yes q) d = yes (inl q)
    by (no a) (yes q) = yes (inr q)
    by (no a) (no b) = no (neither a b)

-- the gathers below the top are higher
stack_higher : {n : ℕ} {os : ℕ → Object} {ps : ℕ → Place} {root t g : ℕ} {a : Awaiter} {fs : List Frame} {k : ℕ} → Stacked n os ps root t g a fs k → (q : ℕ) → OnTop g fs q → g ≤ q
stack_higher (bottom d a) q (inl z) = omega arith
stack_higher (bottom d a) q (inr z) = absurd z
stack_higher (above v j op lt nm lo aw rm rest) q (inl z) = omega arith
stack_higher (above v j op lt nm lo aw rm rest) q (inr z) = omega (arith, lo, stack_higher rest q z)

-- the slot of a gather on the stack is in an awaited one
slot_awaited : {n : ℕ} {os : ℕ → Object} {ps : ℕ → Place} {root t g : ℕ} {a : Awaiter} {fs : List Frame} {k : ℕ} (w : AwaitedGather) → as_awaited (os g) ≡ some w → w.awaiter ≡ a → Stacked n os ps root t g a fs k
    → (q : ℕ) → OnTop g fs q → (v : AwaitedGather) → as_awaited (os q) ≡ some v → (p x : ℕ) → v.awaiter ≡ Awaiter.GatherSlot (heap_id p) (heap_id x) → (u : AwaitedGather) × (as_awaited (os p) ≡ some u)
slot_awaited {os = os} w e same (bottom d a) q (inl z) v c p x s =
    let b : w ≡ v = some-injective w v (sym e ∙ subst (λ (j : ℕ). as_awaited (os j) ≡ some v) z c) in
    absurd (task_slot (sym a ∙ (sym same ∙ (ap (λ (y : AwaitedGather). y.awaiter) b ∙ s))))
slot_awaited w e same (bottom d a) q (inr z) v c p x s = absurd z
slot_awaited {os = os} {g = g} w e same (above {f = f} u j op lt nm lo aw rm rest) q (inl z) v c p x s =
    let b : w ≡ v = some-injective w v (sym e ∙ subst (λ (j : ℕ). as_awaited (os j) ≡ some v) z c) in
    let d : f.gather ≡ p = slot_gather_same f.gather g p x (sym aw ∙ (sym same ∙ (ap (λ (y : AwaitedGather). y.awaiter) b ∙ s))) in
    (u, subst (λ (j : ℕ). as_awaited (os j) ≡ some u) d op.awaited)
slot_awaited w e same (above u j op lt nm lo aw rm rest) q (inr z) v c p x s = slot_awaited u op.awaited refl rest q z v c p x s

-- ---- a gather not committed yet is opened

opened_lit : {G : ℕ → Type 0} (s : Store) (Q R : ℕ → Type 0) (n o f c : ℕ) (a : Awaiter) → Sized s → o < (header s).made → ObjectFits (Object.GatherFuture f c (GatherState.Awaited a 0))
    → object s o ≡ Object.GatherFuture f c GatherState.Pending → SoundBut n Nothing Q (view s)
    → ((p : ℕ) (w : AwaitedGather) → p < (header s).made → as_awaited (object s p) ≡ some w → (x : ℕ) → w.awaiter ≡ Awaiter.GatherSlot (heap_id o) (heap_id x) → ⊥)
    → ((q : ℕ) → R q → (q ≡ o) ⊎ Q q) → Lit G Q s → Lit G R (open_gather_commit s o a)
unfolding open_gather_commit set_gather with_state
opened_lit {G} s Q R n o f c a z l fits was b slots stack k =
    subst (λ (y : Object). Lit G R (put_object s o y)) (sym (ap (λ (y : Object). with_state y (GatherState.Awaited a 0)) was))
    (open_sourced _ s Q R n o f c a z (omega (arith, l, (header-fits s).made_fits)) fits was b slots stack k)

-- a slot in a gather is in a committed one
pending_slot : (s : Store) (o f c : ℕ) → object s o ≡ Object.GatherFuture f c GatherState.Pending → T (is_committed (kind (object s o))) → ⊥
unfolding kind
pending_slot s o f c was k = subst (λ (y : Object). T (is_committed (kind y))) was k

nested-lit : {G : ℕ → Type 0} (root t : ℕ) (f : Frame) (fs : List Frame) (x : Store) (i q : ℕ) → AtNested root t f.gather fs x i q → Lit G (OnTop f.gather fs) x
    → Lit G (OnTop q (record { gather = f.gather; next = i } ∷ fs)) (open_gather_commit x q (Awaiter.GatherSlot (heap_id f.gather) (heap_id q)))
unfolding view
nested-lit {G} root t f fs x i q h k =
    opened_lit x (OnTop f.gather fs) (OnTop q (record { gather = f.gather; next = i } ∷ fs)) _ q h.first h.count (Awaiter.GatherSlot (heap_id f.gather) (heap_id q)) h.memory.sized low-q fits
    h.is_new h.inv.but (λ p w l e y a. slots p w l e y a (on_stack (record { gather = f.gather; next = i } ∷ fs) p)) (λ p r. r) k
  where
    g : ℕ
    g = f.gather

    low-q : q < (header x).made
    low-q = omega (arith, h.lower, h.inv.opened.made)

    fits : ObjectFits (Object.GatherFuture h.first h.count (GatherState.Awaited (Awaiter.GatherSlot (heap_id f.gather) (heap_id q)) 0))
    fits =
        let old : ObjectFits (Object.GatherFuture h.first h.count GatherState.Pending) = subst ObjectFits h.is_new (object-fits x q) in
        (old.0, ((omega (arith, h.inv.opened.made, (header-fits x).made_fits), omega (arith, low-q, (header-fits x).made_fits)), omega arith))

    slots : (p : ℕ) (w : AwaitedGather) → p < (header x).made → as_awaited (object x p) ≡ some w → (y : ℕ) → w.awaiter ≡ Awaiter.GatherSlot (heap_id q) (heap_id y) → Dec (OnTop f.gather fs p) → ⊥
    slots p w l e y a (yes on) =
        let r = slot_awaited h.inv.w h.inv.opened.awaited refl h.inv.stack p on w e q y a in
        absurd_some (sym (ap as_awaited h.is_new ∙ (unfold as_awaited in refl)) ∙ r.1)
    slots p w l e y a (no off) = pending_slot x q h.first h.count h.is_new (h.inv.but.object_slots p l off q y (awaiter_is (object x p) w e ∙ a)).committed

-- ---- a gather leaves the stack, settled

left-lit : {G : ℕ → Type 0} (Q R : ℕ → Type 0) (s : Store) (g : ℕ) (w : AwaitedGather) (y : GatherState) → Sized s → g < object_limit → ObjectFits (Object.GatherFuture w.first w.count y)
    → as_awaited (object s g) ≡ some w → as_awaited (Object.GatherFuture w.first w.count y) ≡ none → Q g → ((q : ℕ) → R q → Q q) → Lit G Q s → Lit G R (set_gather s g y)
unfolding set_gather
left-lit {G} Q R s g w y z low fits was settled on fewer k =
    subst (λ (x : Object). Lit G R (put_object s g x)) (sym (with_state-is (object s g) w y was))
    (leave_sourced Q R s g w (Object.GatherFuture w.first w.count y) z low fits was settled on fewer k)

memory_set : (s : Store) (g : ℕ) (w : AwaitedGather) (y : GatherState) → Memory s → g < (header s).made → as_awaited (object s g) ≡ some w → ObjectFits (Object.GatherFuture w.first w.count y) → Memory (set_gather s g y)
unfolding set_gather
memory_set s g w y m l e fits =
    subst (λ (x : Object). Memory (put_object s g x)) (sym (with_state-is (object s g) w y e)) (memory_object s g (Object.GatherFuture w.first w.count y) l fits m)

set_other : (s : Store) (g p : ℕ) (y : GatherState) → (p ≡ g → ⊥) → object (set_gather s g y) p ≡ object s p
unfolding set_gather
set_other s g p y ne = object_put-other s g p _ ne

-- an error: every gather on the stack fails
unwind-lit : {G : ℕ → Type 0} (fs : List Frame) (s : Store) (root t j g i : ℕ) (w : AwaitedGather) (e : Error) → ErrorFits e → Memory s → g < (header s).made → as_awaited (object s g) ≡ some w
    → Stacked (header s).made (object s) (place s) root t g w.awaiter fs j → Lit G (OnTop g fs) s → Lit G Nothing (unwind s (record { gather = g; next = i } ∷ fs) e)
unfolding unwind
unwind-lit [] s root t j g i w e ok m l q st k =
    left-lit (OnTop g []) Nothing s g w (GatherState.Failed e) m.sized (omega (arith, l, (header-fits s).made_fits)) ((awaited-fits s g w q).0, ok) q (unfold as_awaited in refl) (inl refl) (λ p z. absurd z) k
unwind-lit {G} (f ∷ fs) s root t j g i w e ok m l q st k =
    by (stacked_set s g w (GatherState.Failed e) m l q ((awaited-fits s g w q).0, ok) st)
    (λ j' w' l' q' st'. unwind-lit fs (set_gather s g (GatherState.Failed e)) root t j' f.gather f.next w' e ok (memory_set s g w (GatherState.Failed e) m l q ((awaited-fits s g w q).0, ok)) l' q' st'
    (left-lit (OnTop g (f ∷ fs)) (OnTop f.gather fs) s g w (GatherState.Failed e) m.sized (omega (arith, l, (header-fits s).made_fits)) ((awaited-fits s g w q).0, ok) q (unfold as_awaited in refl) (inl refl) (λ p z. inr z) k))
  where
    s1 : Store
    s1 = set_gather s g (GatherState.Failed e)

    by : {a : Awaiter} {n : ℕ} → Stacked (header s1).made (object s1) (place s1) root t g a (f ∷ fs) n
        → ((j' : ℕ) (w' : AwaitedGather) → f.gather < (header s1).made → as_awaited (object s1 f.gather) ≡ some w' → Stacked (header s1).made (object s1) (place s1) root t f.gather w'.awaiter fs j'
        → Lit G Nothing (unwind s1 (f ∷ fs) e))
        → Lit G Nothing (unwind s1 (f ∷ fs) e)
    by (above w' j' op lt nm lo aw rm rest) go = go j' w' op.made op.awaited rest

error-lit : {G : ℕ → Type 0} (root t : ℕ) (f : Frame) (fs : List Frame) (x : Store) (e : Error) → AtError root t f.gather fs x e → Lit G (OnTop f.gather fs) x → Sourced G (unwind x (f ∷ fs) e)
unfolding view
error-lit root t f fs x e h k =
    (unwind-lit fs x root t h.inv.k f.gather f.next h.inv.w e h.fits h.memory h.inv.opened.made h.inv.opened.awaited h.inv.stack k).sourced

-- ---- a gather whose items are all stepped

-- the root: it completes, or stays awaited
root-lit : {G : ℕ → Type 0} (root t : ℕ) (x : Store) (g i : ℕ) → Memory x → Inv root t 0 (OnTop g []) (view x) g i [] → Lit G (OnTop g []) x → Sourced G (settle_gather_commit x g).store
unfolding settle_gather_commit view
root-lit {G} root t x g i mem h k = subst (λ (o : Option AwaitedGather). Sourced G (settle_as x g o).store) (sym h.opened.awaited) (unfold settle_as in (by (eqb h.w.open_places 0)))
  where
    by : (b : Bool) → Sourced G (pick b (gives (set_gather x g GatherState.Completed) (ready (Value.List (heap_id g)))) (gives x pending)).store
    by true =
        (left-lit (OnTop g []) Nothing x g h.w GatherState.Completed mem.sized (omega (arith, h.opened.made, (header-fits x).made_fits)) ((awaited-fits x g h.w h.opened.awaited).0, tt) h.opened.awaited
        (unfold as_awaited in refl) (inl refl) (λ p z. absurd z) k).sourced
    by false = k.sourced

-- a nested one: it completes, and its list is in the place below; or it stays awaited, and is the source of that place, which is open
module _ (G : ℕ → Type 0) (root t : ℕ) (x : Store) (g i : ℕ) (p : Frame) (ps : List Frame) (mem : Memory x) (h : Inv root t 0 (OnTop g (p ∷ ps)) (view x) g i (p ∷ ps)) (k : Lit G (OnTop g (p ∷ ps)) x) where
  abbrev Next : Store → Type 0
  Next y = Lit G (OnTop p.gather ps) y

  made : g < (header x).made
  unfolding view
  made = h.opened.made

  top : as_awaited (object x g) ≡ some h.w
  unfolding view
  top = h.opened.awaited

  low : g < object_limit
  low = omega (arith, made, (header-fits x).made_fits)

  full-fits : ObjectFits (Object.GatherFuture h.w.first h.w.count GatherState.Completed)
  full-fits = ((awaited-fits x g h.w top).0, tt)

  abbrev x1 : Store
  x1 = set_gather x g GatherState.Completed

  mem1 : Memory x1
  mem1 = memory_set x g h.w GatherState.Completed mem made top full-fits

  k1 : Next x1
  k1 = left-lit (OnTop g (p ∷ ps)) (OnTop p.gather ps) x g h.w GatherState.Completed mem.sized low full-fits top (unfold as_awaited in refl) (inl refl) (λ q z. inr z) k

  filled-lit : Next (resume_after_child p (gives x1 (ready (Value.List (heap_id g)))))
  unfolding view resume_after_child
  filled-lit = by h.stack
    where
      by : {a : Awaiter} {n : ℕ} → Stacked (header x).made (object x) (place x) root t g a (p ∷ ps) n → Next (resume_as p (gives x1 (ready (Value.List (heap_id g)))) (as_awaited (object x1 p.gather)))
      by (above w j op lt nm lo aw rm rest) =
          subst (λ (o : Option AwaitedGather). Next (resume_as p (gives x1 (ready (Value.List (heap_id g)))) o)) (sym (ap as_awaited (set_other x g p.gather GatherState.Completed (λ d. omega arith)) ∙ op.awaited))
          (unfold resume_as resume_in in
          (fill_sourced (OnTop p.gather ps) x1 w p.next (Value.List (heap_id g)) mem1.sized
          (omega (arith, gather_within p.gather w h.but op.made op.awaited, lt, h.but.fits.used_fits)) low k1))

  parked-lit : Next (resume_after_child p (gives x pending))
  unfolding view resume_after_child
  parked-lit = by h.stack refl
    where
      by : {a : Awaiter} {n : ℕ} → Stacked (header x).made (object x) (place x) root t g a (p ∷ ps) n → h.w.awaiter ≡ a → Next (resume_as p (gives x pending) (as_awaited (object x p.gather)))
      by (above w j op lt nm lo aw rm rest) same =
          subst (λ (o : Option AwaitedGather). Next (resume_as p (gives x pending) o)) (sym op.awaited) (unfold resume_as resume_in in
          (place_sourced (OnTop p.gather ps) x p.gather w p.next g mem.sized op.made (omega (arith, op.made, (header-fits x).made_fits))
          (awaits_fits x p.gather w op.awaited (wider w p.next) (wider_small w p.next lt (open_small p.gather w h.but op.made op.awaited)))
          op.awaited nm (by_gather h.w top (same ∙ aw)) (λ z. absurd (not-higher (stack_higher rest g z) lo)) (lit_fewer (λ q z. inr z) k)))
        where
          not-higher : {a b : ℕ} → a ≤ b → b < a → ⊥
          not-higher l m = not-suc-le-zero {n = 0} (omega arith)

  pub resumed-lit : Next (resume_after_child p (settle_gather_commit x g))
  unfolding settle_gather_commit
  resumed-lit = subst (λ (o : Option AwaitedGather). Next (resume_after_child p (settle_as x g o))) (sym top) (unfold settle_as in (by (eqb h.w.open_places 0)))
    where
      by : (b : Bool) → Next (resume_after_child p (pick b (gives (set_gather x g GatherState.Completed) (ready (Value.List (heap_id g)))) (gives x pending)))
      by true = filled-lit
      by false = parked-lit

-- ---- the turns

abbrev LoopLit : (G : ℕ → Type 0) → ℕ → ℕ → (Store → Frame → List Frame → ℕ → ℕ → ℕ → Committed) → Type 0
LoopLit G root t loop = (s : Store) (f : Frame) (fs : List Frame) (n j k : ℕ) → Commits root t f.gather f.next fs s → Lit G (OnTop f.gather fs) s → Sourced G (loop s f fs n j k).store

turn_lit : {G : ℕ → Type 0} (root t : ℕ) (loop : Store → Frame → List Frame → ℕ → ℕ → ℕ → Committed) → LoopLit G root t loop → (f : Frame) (fs : List Frame) (n j k : ℕ) (x : Stop) → StopOk root t f.gather fs x
    → StopLit G f.gather fs x → Sourced G (turn loop f fs n j k x).store
unfolding turn
turn_lit root t loop go f fs n j k (at_nested x i q) h l =
    go _ (record { gather = q; next = 0 }) (record { gather = f.gather; next = i } ∷ fs) (suc n) (suc j) k (nested_commits root t f fs x i q h) (nested-lit root t f fs x i q h l)
turn_lit root t loop go f fs n j k (at_error x e) h l = error-lit root t f fs x e h l
turn_lit root t loop go f [] n j k (at_end x) h l = root-lit root t x f.gather h.i h.memory h.inv l
turn_lit root t loop go f (p ∷ ps) n j k (at_end x) h l =
    go _ (record { gather = p.gather; next = p.next + 1 }) ps (suc n) j (suc k) (settle_next root t x f.gather h.i p ps h.memory h.inv h.end)
    (resumed-lit _ root t x f.gather h.i p ps h.memory h.inv l)

loop_lit : {G : ℕ → Type 0} (fuel root t : ℕ) → LoopLit G root t (commit_loop fuel)
unfolding commit_loop step_gather_commit turn view
loop_lit zero root t s f fs n j k h l = error-lit root t f fs s Error.GatherReuse (record { i = f.next; memory = h.memory; inv = h.inv; fits = tt }) l
loop_lit (suc fuel) root t s f fs n j k h l =
    turn_lit root t (λ x g gs m i h. commit_loop fuel x g gs m i h) (loop_lit fuel root t) f fs n j k (step_gather_commit s f) (frame-stops root t s f fs h)
    (items-lit (count_of (object s f.gather) - f.next) root t f.gather f.next fs s h.memory h.inv
    (omega (arith, h.inv.opened.under, inv_count root t f.next f.gather 0 (OnTop f.gather fs) fs s h.inv)) l)

-- A commit keeps it.
pub commit_sourced : {G : ℕ → Type 0} (s : Store) (t g f n : ℕ) → SoundStore s → (header s).moment ≡ Moment.Running (task_id t) → g < (header s).made → object s g ≡ Object.GatherFuture f n GatherState.Pending → Sourced G s
    → Sourced G (commit_gather_tree s g (Awaiter.Task (task_id t))).store
unfolding commit_gather_tree
commit_sourced {G} s t g f n h m l e k =
    loop_lit _ g t (open_gather_commit s g (Awaiter.Task (task_id t))) (record { gather = g; next = 0 }) [] 0 1 0 (commit_begins s t h m g f n l e)
    (opened_lit s Nothing (OnTop g []) 0 g f n (Awaiter.Task (task_id t)) h.memory.sized l fits e h.facts.but slots (λ q r. r) (record { sourced = k; unnamed = λ q p w z. absurd z }))
  where
    fits : ObjectFits (Object.GatherFuture f n (GatherState.Awaited (Awaiter.Task (task_id t)) 0))
    fits =
        let old : ObjectFits (Object.GatherFuture f n GatherState.Pending) = subst ObjectFits e (object-fits s g) in
        (old.0, (omega (arith, runner_low s t h m, (header-fits s).next_fits), omega arith))

    slots : (p : ℕ) (w : AwaitedGather) → p < (header s).made → as_awaited (object s p) ≡ some w → (x : ℕ) → w.awaiter ≡ Awaiter.GatherSlot (heap_id g) (heap_id x) → ⊥
    slots p w lp q x a = pending_slot s g f n e (slot-committed p w lp q x a)
      where
        slot-committed : (p : ℕ) (w : AwaitedGather) → p < (header s).made → as_awaited (object s p) ≡ some w → (x : ℕ) → w.awaiter ≡ Awaiter.GatherSlot (heap_id g) (heap_id x) → T (is_committed (kind (object s g)))
        slot-committed p w lp q x a = unfold view in (h.facts.but.object_slots p lp (λ z. z) g x (awaiter_is (object s p) w q ∙ a)).committed
