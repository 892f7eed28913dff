-- In the midst of a commit: the stack, what holds of it, and what each step keeps.
use Rattle.std.specs.Prelude.{◌≡◌, ◌⊎◌, Bool, true, false, ◌||◌, List, [], ◌∷◌, ℕ, ◌+◌, ◌-◌, ◌^◌, ◌≤◌, ◌<◌, eqb}
use Rattle.std.proofs.Math.Path.{refl, ap, subst}
use Rattle.std.proofs.Common.{sym, ◌∙◌, inl, inr, le_refl, arith, lt→ltb, pow_pos, eq-eqb, ne_eqb}
use Rattle.std.proofs.Math.Option.{none, some, some-injective}
use Rattle.std.proofs.Math.Nat.{not-suc-le-zero}
use Rattle.std.proofs.Math.Decide.{ℕ_discrete}
use Rattle.std.proofs.Math.Dec.{T}
use Rattle.asyncio.specs.declared.HeapId.{HeapId}
use Rattle.asyncio.specs.declared.Value.{Value}
use Rattle.std.specs.Prelude.{Some}
use Rattle.asyncio.specs.declared.Task.{Task}
use Rattle.asyncio.specs.declared.Awaiter.{Awaiter}
use Rattle.asyncio.specs.declared.GatherState.{GatherState}
use Rattle.asyncio.specs.declared.Object.{Object}
use Rattle.asyncio.specs.declared.Place.{Place}
use Rattle.asyncio.specs.declared.Moment.{Moment}
use Rattle.asyncio.specs.Limits.{task_limit}
use Rattle.asyncio.specs.Ranges.{ObjectFits, GatherFits}
use Rattle.asyncio.specs.Numbers.{heap_id, task_id}
use Rattle.asyncio.specs.States.{is_running}
use Rattle.asyncio.specs.Kinds.{kind, is_coroutine, is_completed, is_committed}
use Rattle.asyncio.specs.Parts.{awaiter_of, count_of}
use Rattle.machine.specs.Store.{Store, View, view, task, object, place, header, put_object}
use Rattle.machine.specs.Scheduler.{AwaitedGather, as_awaited, as_pending, blocked_on, bit}
use Rattle.machine.specs.Commit.{Frame, with_state, set_gather}
use Rattle.machine.specs.Sound.{awaiter_in_range, open_in_range, object_in_range, committed_places, items_below, value_known, option_known, object_values, is_filled, object_filled, is_task_of_at, runs_now}
use Rattle.machine_laws.specs.Views.{update, with_object, with_place, with_places}
use Rattle.machine_laws.specs.Facts.{Open, Slotted, SoundBut, Nothing}
use Rattle.machine_laws.specs.TestLaws.{or_second, both, both_left}
use Rattle.machine_laws.specs.StoreLaws.{update_same, update_other, update_case, view-put_object}
use Rattle.machine_laws.specs.DeliveryLaws.{absurd_some, awaited-object, awaited-fits}
use Rattle.machine_laws.specs.MakingLaws.{nobody-task}
use Rattle.machine_theorems.specs.Soundness.ReadyTasks.{Queued}
use Rattle.machine_theorems.specs.Soundness.PutObject.{Fits, object_keeps}
use Rattle.machine_theorems.specs.Soundness.PutTask.{but_keeps, PlacesWrite, places-keep}
use Rattle.machine_theorems.specs.Soundness.Stores.{Runs}
use Rattle.machine_theorems.specs.Soundness.SpawnTask.{spawned_row, spawn_view, spawn_keeps}
use Rattle.machine_theorems.specs.Soundness.Deliver.{task_slot, task-same, awaiter_is, Done}
use Rattle.machine_theorems.specs.Soundness.Fill.{awaits_on, open_small}
use Rattle.machine_theorems.specs.Soundness.Exits.{is_run_state}
use Rattle.machine_theorems.specs.Soundness.Memory.{Memory, memory_object}
use Rattle.machine_theorems.specs.Soundness.CommitSteps.{wider, wider_small, wider-opens, wider_keeps, Opened, stack_fits}

-- ---- the stack

-- the gathers of the frames
abbrev pub OnStack : List Frame → ℕ → Type 0
OnStack [] p = ⊥
OnStack (f ∷ fs) p = (p ≡ f.gather) ⊎ OnStack fs p

-- and g on top of them
abbrev pub OnTop : ℕ → List Frame → ℕ → Type 0
OnTop g fs p = (p ≡ g) ⊎ OnStack fs p

-- Under gather g, whose awaiter is a, stand the frames fs down to the root, which task t awaits; k tasks may be spawned for their
-- places. Each frame's gather is higher than the one above it, which its next place names.
pub data Stacked (n : ℕ) (os : ℕ → Object) (ps : ℕ → Place) (root t : ℕ) : ℕ → Awaiter → List Frame → ℕ → Type 0 where
  bottom : {g : ℕ} {a : Awaiter} {k : ℕ} → g ≡ root → a ≡ Awaiter.Task (task_id t) → Stacked n os ps root t g a [] k
  above : {g : ℕ} {a : Awaiter} {f : Frame} {fs : List Frame} {k : ℕ} (w : AwaitedGather) (j : ℕ) → Opened n os ps f.gather f.next w → f.next < w.count
      → (ps (w.first + f.next)).item.0 ≡ g → g < f.gather → a ≡ Awaiter.GatherSlot (heap_id f.gather) (heap_id g) → (w.count - f.next) + j ≤ k
      → Stacked n os ps root t f.gather w.awaiter fs j → Stacked n os ps root t g a (f ∷ fs) k

-- an object at or below the top is written
pub stacked_object : {n : ℕ} {os : ℕ → Object} {ps : ℕ → Place} {root t g : ℕ} {a : Awaiter} {fs : List Frame} {k : ℕ} (x : ℕ) (r : Object) → x ≤ g
    → Stacked n os ps root t g a fs k → Stacked n (update os x r) ps root t g a fs k
stacked_object x r l (bottom e q) = bottom e q
stacked_object {os = os} x r l (above {f = f} w j op lt nm lo aw rm rest) =
    above w j
    (record { made = op.made; awaited = ap as_awaited (update_other os x r f.gather (λ e. omega arith)) ∙ op.awaited; under = op.under; before = op.before })
    lt nm lo aw rm (stacked_object x r (omega arith) rest)

or_filled : (a b c : Bool) → (T b → T c) → T (a || b) → T (a || c)
or_filled true b c f t = t
or_filled false b c f t = f t

or_first : (a b : Bool) → a ≡ true → T (a || b)
or_first a b e = rw e tt

-- places are filled
stacked_places : {n : ℕ} {os : ℕ → Object} {ps : ℕ → Place} {root t g : ℕ} {a : Awaiter} {fs : List Frame} {k : ℕ} (qs : ℕ → Place) → ((p : ℕ) → (qs p).item ≡ (ps p).item)
    → ((p : ℕ) → T (is_filled (ps p).result) → T (is_filled (qs p).result)) → Stacked n os ps root t g a fs k → Stacked n os qs root t g a fs k
stacked_places qs it fl (bottom e q) = bottom e q
stacked_places qs it fl (above {f = f} w j op lt nm lo aw rm rest) =
    above w j
    (record { made = op.made; awaited = op.awaited; under = op.under; before = λ i z. or_filled (bit w.open_places i) _ _ (fl (w.first + i)) (op.before i z) })
    lt (ap (λ (y : HeapId). y.0) (it (w.first + f.next)) ∙ nm) lo aw rm (stacked_places qs it fl rest)

-- ---- what holds in the midst of a commit

-- Gather g is on top, its places below i are done; e more tasks may be spawned besides; Q names the gathers on the stack, g among them.
pub record Inv (root t e : ℕ) (Q : ℕ → Type 0) (v : View) (g i : ℕ) (fs : List Frame) : Type 0 where
  pub w : AwaitedGather
  pub k : ℕ
  pub opened : Opened v.header.made v.objects v.places g i w
  pub stack : Stacked v.header.made v.objects v.places root t g w.awaiter fs k
  pub but : SoundBut (e + ((w.count - i) + k)) Nothing Q v
  pub runs : Runs (runs_now (Moment.Running (task_id t))) v
  pub low : t < v.header.next
  pub moment : v.header.moment ≡ Moment.Running (task_id t)

pub lessen : {k l : ℕ} {Q : ℕ → Type 0} {v : View} → l ≤ k → SoundBut k Nothing Q v → SoundBut l Nothing Q v
lessen l h = but_keeps l (λ t o z d e p. p) (λ p z n. n) h

module _ (root t : ℕ) (Q : ℕ → Type 0) (v : View) (g i : ℕ) (fs : List Frame) where
  pub relax : Inv root t 1 Q v g i fs → Inv root t 0 Q v g i fs
  relax h = record { w = h.w; k = h.k; opened = h.opened; stack = h.stack; but = lessen (omega arith) h.but; runs = h.runs; low = h.low; moment = h.moment }

  -- place i is open
  pub open_step : Q g → (h : Inv root t 0 Q v g i fs) → i < h.w.count → Inv root t 1 Q (with_object v g (awaits_on h.w (wider h.w i))) g (i + 1) fs
  unfolding with_object
  open_step on h l =
      record {
        w = u;
        k = h.k;
        opened = record {
          made = h.opened.made;
          awaited = ap as_awaited (update_same v.objects g (awaits_on w (wider w i))) ∙ (unfold as_awaited in refl);
          under = omega arith;
          before = λ j z. earlier j z (ℕ_discrete j i);
        };
        stack = stacked_object g (awaits_on w (wider w i)) (le_refl _) h.stack;
        but = object_keeps (0 + ((w.count - i) + h.k)) (1 + ((w.count - (i + 1)) + h.k)) Nothing Q Nothing Q v g (awaits_on w (wider w i)) fits h.but;
        runs = h.runs;
        low = h.low;
        moment = h.moment;
      }
    where
      w : AwaitedGather
      w = h.w

      u : AwaitedGather
      u = record { first = w.first; count = w.count; awaiter = w.awaiter; open_places = wider w i }

      earlier : (j : ℕ) → j < i + 1 → Dec (j ≡ i) → T (bit (wider w i) j || is_filled (v.places (w.first + j)).result)
      earlier j z (yes q) = or_first (bit (wider w i) j) _ (subst (λ (n : ℕ). bit (wider w i) n ≡ true) (sym q) (wider-opens w i))
      earlier j z (no d) = by (bit w.open_places j) refl (h.opened.before j (omega arith))
        where
          by : (b : Bool) → bit w.open_places j ≡ b → T (b || is_filled (v.places (w.first + j)).result) → T (bit (wider w i) j || is_filled (v.places (w.first + j)).result)
          by true e s = or_first (bit (wider w i) j) _ (wider_keeps w i j e)
          by false e s = or_second (bit (wider w i) j) _ s

      same : (x : AwaitedGather) → as_awaited (awaits_on w (wider w i)) ≡ some x → u ≡ x
      same x e = some-injective u x (unfold as_awaited in e)

      fits : Fits (0 + ((w.count - i) + h.k)) (1 + ((w.count - (i + 1)) + h.k)) Nothing Q Nothing Q v g (awaits_on w (wider w i))
      fits =
          stack_fits _ _ Q Q v g w (GatherState.Awaited w.awaiter (wider w i)) h.opened.made h.opened.awaited (omega arith) (unfold kind in refl)
          (unfold open_in_range in (lt→ltb (wider w i) (2 ^ w.count) (wider_small w i l (open_small g w h.but h.opened.made h.opened.awaited))))
          (λ z. unfold awaiter_of in z)
          (λ s m b e. unfold awaiter_of in (sym (awaiter_is (v.objects g) w h.opened.awaited) ∙ e)) (λ n. absurd (n on))
          (λ x e z op. subst (λ (y : AwaitedGather). Open v.places y z) (same x e)
          (record { at = op.at; under = op.under; is_open = wider_keeps w i op.at op.is_open; names = op.names }))
          (λ p d n q. n q)

  -- place i is filled
  module _ (h : Inv root t 0 Q v g i fs) (l : i < h.w.count) (x : Value) (k : T (value_known v.header.made v.objects x)) where
    abbrev at : ℕ
    at = h.w.first + i

    abbrev row : Place
    row = record { item = (v.places at).item; result = Some x }

    pub fill_write : PlacesWrite v (update v.places at row)
    fill_write =
        record {
          item = λ p. update_case v.places at row (λ (y : Place). y.item ≡ (v.places p).item) p (λ q. ap (λ (j : ℕ). (v.places j).item) (sym q)) (λ d. refl);
          filled = λ p s. update_case v.places at row (λ (y : Place). T (is_filled y.result)) p (λ q. unfold is_filled in tt) (λ d. s);
          known = λ p s. update_case v.places at row (λ (y : Place). T (option_known v.header.made v.objects y.result)) p (λ q. unfold option_known in k) (λ d. s);
        }

    pub fill_step : Inv root t 0 Q (with_place v at row) g (i + 1) fs
    unfolding with_place with_places
    fill_step =
        record {
          w = h.w;
          k = h.k;
          opened = record { made = h.opened.made; awaited = h.opened.awaited; under = omega arith; before = λ j z. earlier j z (ℕ_discrete j i) };
          stack = stacked_places (update v.places at row) fill_write.item fill_write.filled h.stack;
          but = lessen {k = 0 + ((h.w.count - i) + h.k)} (omega arith) (places-keep v (update v.places at row) fill_write h.but);
          runs = h.runs;
          low = h.low;
          moment = h.moment;
        }
      where
        earlier : (j : ℕ) → j < i + 1 → Dec (j ≡ i) → T (bit h.w.open_places j || is_filled (update v.places at row (h.w.first + j)).result)
        earlier j z (yes q) =
            or_second (bit h.w.open_places j) _ (subst (λ (m : ℕ). T (is_filled (update v.places at row (h.w.first + m)).result)) (sym q)
            (subst (λ (y : Place). T (is_filled y.result)) (sym (update_same v.places at row)) (unfold is_filled in tt)))
        earlier j z (no d) = or_filled (bit h.w.open_places j) _ _ (fill_write.filled (h.w.first + j)) (h.opened.before j (omega arith))

  -- a lower object is written
  pub lower-step : {e : ℕ} (h : Inv root t e Q v g i fs) (o : ℕ) (x : Object) → o < g → ((k : ℕ) → Fits k k Nothing Q Nothing Q v o x) → Inv root t e Q (with_object v o x) g i fs
  unfolding with_object
  lower-step {e} h o x l ft =
      record {
        w = h.w;
        k = h.k;
        opened = record {
          made = h.opened.made;
          awaited = ap as_awaited (update_other v.objects o x g (λ q. omega arith)) ∙ h.opened.awaited;
          under = h.opened.under;
          before = h.opened.before;
        };
        stack = stacked_object o x (omega arith) h.stack;
        but = object_keeps _ _ Nothing Q Nothing Q v o x (ft (e + ((h.w.count - i) + h.k))) h.but;
        runs = h.runs;
        low = h.low;
        moment = h.moment;
      }

  -- a task is spawned for the coroutine c
  pub spawn-step : Inv root t 1 Q v g i fs → (c : ℕ) → T (is_coroutine (kind (v.objects c))) → c < v.header.made
      → ((u : ℕ) → u < v.header.next → T (is_task_of_at v.tasks c u) → ⊥) → v.header.next < task_limit
      → Slotted v.header.made v.objects v.places c g c
      → (q : List ℕ) → (Queued v.header.next v.tasks v.queue → Queued (v.header.next + 1) (update v.tasks v.header.next (spawned_row c g)) q)
      → Inv root t 0 Q (spawn_view v c g q) g i fs
  unfolding spawn_view
  spawn-step h c co l free room sl q queue =
      record {
        w = h.w;
        k = h.k;
        opened = h.opened;
        stack = h.stack;
        but = spawn_keeps (0 + ((h.w.count - i) + h.k)) Q v c g (subst (λ (m : ℕ). SoundBut m Nothing Q v) (omega arith) h.but) co l free room sl q queue;
        runs = λ u z. update_case v.tasks v.header.next _ (λ (y : Task). is_running y.state ≡ runs_now (Moment.Running (task_id t)) u) u
            (λ q. unfold runs_now in (sym (ne_eqb t u (λ e. not-suc-le-zero {n = 0} (omega (arith, h.low)))))) (λ d. h.runs u (omega arith));
        low = omega (arith, h.low);
        moment = h.moment;
      }

-- ---- a gather not committed yet is opened, and comes on the stack

pub open_fits : (k : ℕ) (Q Q' : ℕ → Type 0) (v : View) (o f n : ℕ) (a : Awaiter) → o < v.header.made → v.objects o ≡ Object.GatherFuture f n GatherState.Pending
    → T (awaiter_in_range v.header a) → Q' o → ((p : ℕ) → (Q' p → ⊥) → Q p → ⊥)
    → Fits k ((n - 0) + k) Nothing Q Nothing Q' v o (Object.GatherFuture f n (GatherState.Awaited a 0))
unfolding count_of committed_places kind items_below object_filled as_awaited as_pending object_in_range open_in_range object_values awaiter_of
open_fits k Q Q' v o f n a l q range on commit =
    record {
      made = l;
      count = sym (ap count_of q);
      room = subst (λ (z : Object). committed_places z + ((n - 0) + k) ≤ n + k) (sym q) (omega arith);
      coroutine = λ s. absurd (subst (λ (y : Object). T (is_coroutine (kind y))) q s);
      completed = λ s. absurd (subst (λ (y : Object). T (is_completed (kind y))) q s);
      committed = λ s. tt;
      range = λ p s. both _ _ (both_left (eqb f p) _ (subst (λ (y : Object). T (object_in_range v.header p y)) q s)) (lt→ltb 0 (2 ^ n) (pow_pos n));
      awaiter = λ s. range;
      lower = λ s. subst (λ (y : Object). T (items_below v.places o y)) q s;
      known = λ s. tt;
      call = λ a e. absurd_some e;
      awaits = λ s z d b e. absurd (nobody-task (sym (ap awaiter_of q) ∙ e));
      awaited = λ m. absurd (m on);
      filled = λ m. absurd (m on);
      slot = λ m. absurd (m on);
      opens = λ y e z held sl. absurd (subst (λ (y : Object). T (is_committed (kind y))) q sl.committed);
      excepted = λ s b z d e. inl (λ z. z);
      in_commit = λ p d m z. commit p m z;
    }

module _ (root t : ℕ) (v : View) (g i : ℕ) (fs : List Frame) where
  abbrev frame : Frame
  frame = record { gather = g; next = i }

  -- the nested gather o, not committed yet, is opened: it is on top
  pub nest_step : (h : Inv root t 0 (OnTop g fs) v g i fs) → i < h.w.count → (o f n : ℕ) → o < g → v.objects o ≡ Object.GatherFuture f n GatherState.Pending
      → (v.places (h.w.first + i)).item.0 ≡ o
      → Inv root t 0 (OnTop o (record { gather = g; next = i } ∷ fs))
      (with_object v o (Object.GatherFuture f n (GatherState.Awaited (Awaiter.GatherSlot (heap_id g) (heap_id o)) 0))) o 0 (record { gather = g; next = i } ∷ fs)
  unfolding with_object
  nest_step h l o f n lo q nm =
      record {
        w = u;
        k = (w.count - i) + h.k;
        opened = record {
          made = omega (arith, h.opened.made);
          awaited = ap as_awaited (update_same v.objects o x) ∙ (unfold as_awaited in refl);
          under = omega arith;
          before = λ j z. absurd (not-suc-le-zero z);
        };
        stack = above {k = (w.count - i) + h.k} w h.k
            (record {
              made = h.opened.made;
              awaited = ap as_awaited (update_other v.objects o x g (λ e. omega arith)) ∙ h.opened.awaited;
              under = h.opened.under;
              before = h.opened.before;
            })
            l nm lo refl (le_refl _) (stacked_object o x (omega arith) h.stack);
        but = lessen {k = (n - 0) + (0 + ((w.count - i) + h.k))} (omega arith)
            (object_keeps (0 + ((w.count - i) + h.k)) ((n - 0) + (0 + ((w.count - i) + h.k))) Nothing (OnTop g fs) Nothing (OnTop o (frame ∷ fs)) v o x fits h.but);
        runs = h.runs;
        low = h.low;
        moment = h.moment;
      }
    where
      w : AwaitedGather
      w = h.w

      u : AwaitedGather
      u = record { first = f; count = n; awaiter = Awaiter.GatherSlot (heap_id g) (heap_id o); open_places = 0 }

      x : Object
      x = Object.GatherFuture f n (GatherState.Awaited (Awaiter.GatherSlot (heap_id g) (heap_id o)) 0)

      fits : Fits (0 + ((w.count - i) + h.k)) ((n - 0) + (0 + ((w.count - i) + h.k))) Nothing (OnTop g fs) Nothing (OnTop o (frame ∷ fs)) v o x
      fits = open_fits _ (OnTop g fs) (OnTop o (frame ∷ fs)) v o f n (Awaiter.GatherSlot (heap_id g) (heap_id o)) (omega (arith, h.opened.made)) q
          (unfold awaiter_in_range in (lt→ltb g v.header.made h.opened.made)) (inl refl) (λ p m z. m (inr z))

-- ---- gathers leave the stack

-- a commit's end, or its midst, as the event sees it
pub record After (t k : ℕ) (Q : ℕ → Type 0) (v : View) : Type 0 where
  pub but : SoundBut k Nothing Q v
  pub runs : Runs (runs_now (Moment.Running (task_id t))) v
  pub low : t < v.header.next
  pub moment : v.header.moment ≡ Moment.Running (task_id t)

bottom_awaits : {n : ℕ} {os : ℕ → Object} {ps : ℕ → Place} {root t g : ℕ} {a : Awaiter} {fs : List Frame} {k : ℕ} → Stacked n os ps root t g a fs k
    → (u : ℕ) → a ≡ Awaiter.Task (task_id u) → t ≡ u
bottom_awaits (bottom e q) u p = task-same (sym q ∙ p)
bottom_awaits (above w j op lt nm lo aw rm rest) u p = absurd (task_slot (sym (sym aw ∙ p)))

pub runs-free : (t : ℕ) (v : View) → t < v.header.next → Runs (runs_now (Moment.Running (task_id t))) v → blocked_on (v.tasks t).state ≡ none
unfolding runs_now blocked_on
runs-free t v l r = ap blocked_on (is_run_state (v.tasks t).state (r t l ∙ eq-eqb t t refl))

pub with_state-is : (x : Object) (w : AwaitedGather) (y : GatherState) → as_awaited x ≡ some w → with_state x y ≡ Object.GatherFuture w.first w.count y
unfolding with_state
with_state-is x w y e = ap (λ (z : Object). with_state z y) (awaited-object x w e)

-- the gather on top is settled, as y, and leaves the stack
module _ (s : Store) (root t k j g : ℕ) (w : AwaitedGather) (fs : List Frame) (y : GatherState) (d : Done (place s) w.first w.count y) (f : GatherFits y) (m : Memory s)
    (l : g < (header s).made) (e : as_awaited (object s g) ≡ some w) where
  x0 : Object
  x0 = Object.GatherFuture w.first w.count y

  fit : ObjectFits x0
  unfolding x0
  fit = ((awaited-fits s g w e).0, f)

  pub settle_memory : Memory (set_gather s g y)
  unfolding set_gather x0
  settle_memory = subst (λ (x : Object). Memory (put_object s g x)) (sym (with_state-is (object s g) w y e)) (memory_object s g x0 l fit m)

  pub settle_top : Stacked (header s).made (object s) (place s) root t g w.awaiter fs j → After t k (OnTop g fs) (view s) → After t k (OnStack fs) (view (set_gather s g y))
  unfolding set_gather view x0
  settle_top st h =
      subst (λ (x : Object). After t k (OnStack fs) (view (put_object s g x))) (sym (with_state-is (object s g) w y e))
      (subst (After t k (OnStack fs)) (sym (view-put_object s g x0 m.sized (omega (arith, l, h.but.fits.made_fits)) fit)) after)
    where
      off : (p : ℕ) → (p ≡ g → ⊥) → (OnStack fs p → ⊥) → OnTop g fs p → ⊥
      off p n m (inl z) = n z
      off p n m (inr z) = m z

      nobody : (z : Awaiter) → z ≡ Awaiter.Nobody → T (awaiter_in_range (header s) z)
      nobody z q = subst (λ (a : Awaiter). T (awaiter_in_range (header s) a)) (sym q) (unfold awaiter_in_range in tt)

      fits : Fits k k Nothing (OnTop g fs) Nothing (OnStack fs) (view s) g x0
      fits =
          stack_fits k k (OnTop g fs) (OnStack fs) (view s) g w y l e (le_refl _) d.committed d.range (λ z. nobody _ d.free)
          (λ u z b q. absurd_some (sym (runs-free t (view s) h.low h.runs)
          ∙ subst (λ (n : ℕ). blocked_on (task s n).state ≡ some g) (sym (bottom_awaits st u (sym (awaiter_is (object s g) w e) ∙ q))) b))
          (λ n. (d.free, d.filled)) (λ u q. absurd_some (sym d.settled ∙ q)) off

      after : After t k (OnStack fs) (with_object (view s) g x0)
      after = unfold with_object in
          (record { but = object_keeps k k Nothing (OnTop g fs) Nothing (OnStack fs) (view s) g x0 fits h.but; runs = h.runs; low = h.low; moment = h.moment })
