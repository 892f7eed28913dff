-- What a commit leaves: either no gather has failed in it, or those on its stack have, each at its first item that raises.
use Rattle.std.specs.Prelude.{◌≡◌, ◌⊎◌, Bool, T, eqb, length}
use Rattle.std.proofs.Math.Path.{refl, ap, sym, subst}
use Rattle.std.proofs.Common.{◌∙◌, inl, inr, true≢false, arith}
use Rattle.std.proofs.Math.Bool.{true, false}
use mathlib.Core.List.{List, [], ◌∷◌}
use Rattle.std.proofs.Math.Option.{Option, none, some, some-injective}
use Prim.Native.Nat.{ℕ, zero, suc, ◌+◌, ◌-◌, ◌*◌, ◌≤◌, ◌<◌}
use Rattle.std.proofs.Math.Nat.{not-suc-le-zero}
use Rattle.std.proofs.Math.Decide.{ℕ_discrete}
use Rattle.asyncio.specs.declared.Value.{Value}
use Rattle.asyncio.specs.declared.Error.{Error}
use Rattle.asyncio.specs.declared.Awaiter.{Awaiter}
use Rattle.asyncio.specs.declared.CoroutineState.{CoroutineState}
use Rattle.asyncio.specs.declared.GatherState.{GatherState}
use Rattle.asyncio.specs.declared.Object.{Object}
use Rattle.asyncio.specs.declared.Place.{Place}
use Rattle.asyncio.specs.declared.Task.{Task}
use Rattle.asyncio.specs.declared.Moment.{Moment}
use Rattle.asyncio.specs.declared.Header.{Header}
use Rattle.asyncio.specs.Limits.{object_limit, place_limit}
use Rattle.asyncio.specs.Numbers.{heap_id, task_id}
use Rattle.asyncio.specs.Ranges.{ObjectFits, ErrorFits, AwaiterFits, PlacesFit}
use Rattle.asyncio.specs.Parts.{first_of, count_of}
use Rattle.asyncio.specs.States.{pick, is_live}
use Rattle.machine.specs.Store.{Store, LogEntry, view, task, object, place, header, put_object}
use Rattle.rows.specs.Tables.{task_at}
use Rattle.machine.specs.Scheduler.{AwaitedGather, PendingExternal, as_awaited, as_pending, bit}
use Rattle.machine.specs.Commit.{Poll, ready, raised, pending, gives, open_place, fill_place, Stop, at_end, at_nested, at_error, Frame, with_state, set_gather, open_gather_commit}
use Rattle.machine.specs.Commit.{step_gather_commit, settle_as, settle_gather_commit, resume_in, resume_as, resume_after_child, unwind, Committed, turn, commit_loop, pending_count, commit_gather_tree}
use Rattle.machine.specs.Sound.{is_ended}
use Rattle.machine.specs.History.{spawned_by}
use Rattle.machine.specs.Honest.{exits_in}
use Rattle.machine_laws.specs.Views.{Sized}
use Rattle.machine_laws.specs.StoreLaws.{object_put-object, object_put-other, object-fits, header-fits, header_put-object, sized-put_object}
use Rattle.machine_laws.specs.DeliveryLaws.{absurd_some, awaited-object, awaited-fits}
use Rattle.machine_laws.specs.CommitLaws.{StopKeeps, step_kinds, nested_fuel, settled_fuel}
use Rattle.machine_theorems.specs.Bounds.Bits.{none-set}
use Rattle.machine_theorems.specs.Soundness.Fill.{gather_within, open_small, awaits_on}
use Rattle.machine_theorems.specs.Soundness.Exits.{runner_low}
use Rattle.machine_theorems.specs.Soundness.Stores.{SoundStore}
use Rattle.machine_theorems.specs.Soundness.Memory.{Memory}
use Rattle.machine_theorems.specs.Soundness.CommitSteps.{wider, wider_small}
use Rattle.machine_theorems.specs.Soundness.CommitInv.{OnStack, OnTop, Stacked, bottom, above, Inv, with_state-is}
use Rattle.machine_theorems.specs.Soundness.CommitLoop.{awaits_fits, Commits, settle_next}
use Rattle.machine_theorems.specs.Soundness.CommitItems.{AtEnd, AtNested, AtError, StopOk, inv_count}
use Rattle.machine_theorems.specs.Soundness.AwaitGather.{nested_commits, frame-stops, commit_begins}
use Rattle.machine_sessions.specs.Gather.Failing.{RowMoves, CommitMoves, FailedRow, commit_moves, commit_failed, commit_pending, commit_places, failed-awaited}
use Rattle.machine_sessions.specs.Gather.FailingStated.{Passed, Settled, Other, Busy, Reuses, coroutine_reused, future_reused, gather_reused, PollRaises, broken, failed, reuses, item_at, ItemSlot, Took, Opens, CommitFailed}
use Rattle.machine_sessions.specs.Gather.FailingCommitSteps.{Committing, committing_begins, committing_row, opened_moves, not-coroutine, Taking, taking_begins, taking_gather, Opening, opening_begins, opening_row, Calm, Level, Levels, Going, Onward, keeps_same, level_onward, levels_onward, going_opens, going_fills}
use Rattle.machine_sessions.specs.Gather.FailingCommitItems.{AtRaise, AtDone, StopFails, items-fails, stack_above}

-- a pending gather is not awaited
pending-awaited : {A : Type 0} (x : Object) (f n : ℕ) (w : AwaitedGather) → x ≡ Object.GatherFuture f n GatherState.Pending → as_awaited x ≡ some w → A
unfolding as_awaited
pending-awaited x f n w q p = absurd_some (sym (ap as_awaited q) ∙ p)

-- ---- an error marks every gather on the stack failed

on_stack : (fs : List Frame) (p : ℕ) → Dec (OnStack fs p)
on_stack [] p = no (λ z. z)
on_stack (f ∷ fs) p = by (ℕ_discrete p f.gather) (on_stack fs p)
  where
    neither : (p ≡ f.gather → ⊥) → (OnStack fs p → ⊥) → OnStack (f ∷ fs) p → ⊥
    neither a b (inl q) = a q
    neither a b (inr q) = b q

    by : Dec (p ≡ f.gather) → Dec (OnStack fs p) → Dec (OnStack (f ∷ fs) p)
    by (yes q) d = yes (inl q)
    by (no a) (yes q) = yes (inr q)
    by (no a) (no b) = no (neither a b)

-- the others stay
unwind-other : (fs : List Frame) (x : Store) (e : Error) (o : ℕ) → (OnStack fs o → ⊥) → object (unwind x fs e) o ≡ object x o
unfolding unwind set_gather
unwind-other [] x e o n = refl
unwind-other (f ∷ fs) x e o n = unwind-other fs _ e o (λ z. n (inr z)) ∙ object_put-other x f.gather o _ (λ d. n (inl d))

-- those on it fail
unwind-failed : (fs : List Frame) (x : Store) (e : Error) (o f n : ℕ) (y : GatherState) → Sized x → o < object_limit → PlacesFit f n → ErrorFits e → object x o ≡ Object.GatherFuture f n y → OnStack fs o
    → object (unwind x fs e) o ≡ Object.GatherFuture f n (GatherState.Failed e)
unfolding unwind set_gather
unwind-failed [] x e o f n y z l pf ef q on = absurd on
unwind-failed (p ∷ fs) x e o f n y z l pf ef q on = by (ℕ_discrete o p.gather) (on_stack fs o) (unwind-failed fs v e o f n)
  where
    v : Store
    v = put_object x p.gather (with_state (object x p.gather) (GatherState.Failed e))

    v-sized : Sized v
    v-sized = sized-put_object x p.gather _ z

    state-is : (a : Object) → a ≡ Object.GatherFuture f n y → with_state a (GatherState.Failed e) ≡ Object.GatherFuture f n (GatherState.Failed e)
    state-is a d = ap (λ (b : Object). with_state b (GatherState.Failed e)) d ∙ (unfold with_state in refl)

    here : o ≡ p.gather → object v o ≡ Object.GatherFuture f n (GatherState.Failed e)
    here d =
        let w : with_state (object x p.gather) (GatherState.Failed e) ≡ Object.GatherFuture f n (GatherState.Failed e) = state-is (object x p.gather) (ap (object x) (sym d) ∙ q) in
        subst (λ (b : Object). object (put_object x p.gather b) o ≡ Object.GatherFuture f n (GatherState.Failed e)) (sym w)
        (subst (λ (j : ℕ). object (put_object x p.gather (Object.GatherFuture f n (GatherState.Failed e))) j ≡ Object.GatherFuture f n (GatherState.Failed e)) (sym d)
        (object_put-object x p.gather (Object.GatherFuture f n (GatherState.Failed e)) z (subst (λ (j : ℕ). j < object_limit) d l) (pf, ef)))

    elsewhere : (o ≡ p.gather → ⊥) → OnStack (p ∷ fs) o → OnStack fs o
    elsewhere ne (inl d) = absurd (ne d)
    elsewhere ne (inr z) = z

    by : Dec (o ≡ p.gather) → Dec (OnStack fs o) → ((a : GatherState) → Sized v → o < object_limit → PlacesFit f n → ErrorFits e → object v o ≡ Object.GatherFuture f n a → OnStack fs o
        → object (unwind v fs e) o ≡ Object.GatherFuture f n (GatherState.Failed e)) → object (unwind v fs e) o ≡ Object.GatherFuture f n (GatherState.Failed e)
    by (yes d) (yes i) ih = ih (GatherState.Failed e) v-sized l pf ef (here d) i
    by (yes d) (no i) ih = unwind-other fs v e o i ∙ here d
    by (no ne) i ih = ih y v-sized l pf ef (object_put-other x p.gather o _ ne ∙ q) (elsewhere ne on)

-- tasks, places, header and log stay
unwind-tasks : (fs : List Frame) (x : Store) (e : Error) → ((unwind x fs e).tasks ≡ x.tasks) × ((unwind x fs e).log ≡ x.log) × (header (unwind x fs e) ≡ header x)
unfolding unwind set_gather
unwind-tasks [] x e = (refl, refl, refl)
unwind-tasks (f ∷ fs) x e =
    let v : Store = put_object x f.gather (with_state (object x f.gather) (GatherState.Failed e)) in
    let r = unwind-tasks fs v e in
    (r.0 ∙ (unfold put_object in refl), r.1 ∙ (unfold put_object in refl), r.2 ∙ header_put-object x f.gather (with_state (object x f.gather) (GatherState.Failed e)))

-- what is in use, and what raises, is so in a store with the same tasks
module _ (x v : Store) (g o : ℕ) (ts : (t : ℕ) → task v t ≡ task x t) (hd : header v ≡ header x) where
  busy-same : (z : CoroutineState) → Busy x g o z → Busy v g o z
  busy-same CoroutineState.New k =
      record {
        who = k.who;
        low = subst (λ (h : Header). suc k.who < h.next) (sym hd) k.low;
        live = ap (λ (r : Task). is_live r.state) (ts (suc k.who)) ∙ k.live;
        coroutine = ap (λ (r : Task). r.coroutine.0) (ts (suc k.who)) ∙ k.coroutine;
        awaiter = subst (λ (r : Task). Other g r.awaiter) (sym (ts (suc k.who))) k.awaiter;
      }
  busy-same CoroutineState.Running k = tt
  busy-same CoroutineState.Completed k = tt

  reuses-same : (y : Object) (e : Error) → Reuses x g o y e → Reuses v g o y e
  reuses-same _ _ (coroutine_reused f z b) = coroutine_reused f z (busy-same z b)
  reuses-same _ _ (future_reused c a r d) = future_reused c a r d
  reuses-same _ _ (gather_reused f n a m d) = gather_reused f n a m d

  polls-same : (y : Object) (e : Error) → PollRaises x g o y e → PollRaises v g o y e
  polls-same _ _ (broken c e) = broken c e
  polls-same _ _ (failed f n e) = failed f n e
  polls-same y e (reuses _ _ k) = reuses y e (reuses-same y e k)

-- a session in which a task runs goes on
running-on : (m : Moment) (t : ℕ) → m ≡ Moment.Running (task_id t) → is_ended m ≡ false
unfolding is_ended
running-on m t e = ap is_ended e

module _ (s : Store) where
  -- what a commit that ends in an error leaves
  pub record Unwound (u : Store) : Type 0 where
    pub moves : (o : ℕ) → RowMoves (object s o) (object u o)
    pub awaited : (g f n : ℕ) (y : Error) (w : AwaitedGather) → as_awaited (object s g) ≡ some w → object u g ≡ Object.GatherFuture f n (GatherState.Failed y) → ⊥
    pub pending : (g f n h k : ℕ) (y : Error) → object s g ≡ Object.GatherFuture f n GatherState.Pending → object u g ≡ Object.GatherFuture h k (GatherState.Failed y) → CommitFailed s u g y
    pub grows : (header s).next ≤ (header u).next
    pub tasks : (t : ℕ) → t < (header s).next → task u t ≡ task s t
    pub exits : (t : ℕ) → exits_in u.log t ≡ exits_in s.log t
    pub spawned : (t : ℕ) (b : Option ℕ) → t < (header s).next → spawned_by b u.log t ≡ spawned_by b s.log t
    pub for_it : (t : ℕ) (b : Option ℕ) → (header s).next ≤ t → t < (header u).next → spawned_by b u.log t ≡ some (task u t).coroutine.0
    pub slot : (t : ℕ) → (header s).next ≤ t → t < (header u).next → ItemSlot s (task u t).coroutine.0 (task u t).awaiter
    pub takes : Taking s u
    pub opens : Opening s (λ p. ⊥) u

  -- a gather of the stack has failed
  record Falls (u : Store) (e : Error) (g : ℕ) : Type 0 where
    first : ℕ
    count : ℕ
    was : object s g ≡ Object.GatherFuture first count GatherState.Pending
    now : object u g ≡ Object.GatherFuture first count (GatherState.Failed e)
    why : CommitFailed s u g e

  module _ (x : Store) (e : Error) (all : List Frame) (z : Sized x) (fits : ErrorFits e) (on-still : is_ended (header x).moment ≡ false) (c : Committing s x) where
    abbrev u : Store
    u = unwind x all e

    -- a gather on the stack whose place i raises
    level-falls : (g i : ℕ) (w : AwaitedGather) → Level s (OnStack all) x g i → as_awaited (object x g) ≡ some w → g < object_limit → OnStack all g → i < w.count → PollRaises u g (item_at s g i) (object u (item_at s g i)) e
        → ((j : ℕ) → j < i → Passed (object u (item_at s g j)) → item_at s g j ≡ item_at s g i → ⊥) → Falls u e g
    level-falls g i w k q l on less r f =
        record {
          first = w.first;
          count = w.count;
          was = same-was;
          now = unwind-failed all x e g w.first w.count (GatherState.Awaited w.awaiter w.open_places) z l (awaited-fits x g w q).0 fits (awaited-object (object x g) w q) on;
          why = record {
            at = i;
            under = subst (λ (n : ℕ). i < n) (sym spot.1) less;
            raises = r;
            left = quiet;
            first = λ j b. f j b (quiet j b);
            on = ap (λ (y : Header). is_ended y.moment) (unwind-tasks all x e).2 ∙ on-still;
          };
        }
      where
        quiet : (j : ℕ) → j < i → Passed (object u (item_at s g j))
        quiet j b = let y = k.left j b in subst Passed (sym (unwind-other all x e (item_at s g j) y.off)) y.passed

        moved : CommitMoves (object s g) (Object.GatherFuture w.first w.count (GatherState.Awaited w.awaiter w.open_places))
        moved = subst (CommitMoves (object s g)) (awaited-object (object x g) w q) (c.moves g)

        spot : (first_of (object s g) ≡ w.first) × (count_of (object s g) ≡ w.count)
        spot = commit_places (object s g) w.first w.count (GatherState.Awaited w.awaiter w.open_places) moved

        same-was : object s g ≡ Object.GatherFuture w.first w.count GatherState.Pending
        same-was =
            let p : CommitMoves (Object.GatherFuture k.first k.count GatherState.Pending) (Object.GatherFuture w.first w.count (GatherState.Awaited w.awaiter w.open_places)) =
            subst (λ (a : Object). CommitMoves a (Object.GatherFuture w.first w.count (GatherState.Awaited w.awaiter w.open_places))) k.was moved in
            k.was ∙ again k.first w.first k.count w.count p.0 p.1
          where
            again : (a b c d : ℕ) → b ≡ a → d ≡ c → Object.GatherFuture a c GatherState.Pending ≡ Object.GatherFuture b d GatherState.Pending
            again a b c d p q = cc

    -- a place of an awaited gather names what it named before
    item-was : (g i : ℕ) (w : AwaitedGather) → as_awaited (object x g) ≡ some w → (place x (w.first + i)).item.0 ≡ item_at s g i
    item-was g i w q =
        c.items (w.first + i)
        ∙ ap (λ (n : ℕ). (place s (n + i)).item.0)
        (sym (commit_places (object s g) w.first w.count (GatherState.Awaited w.awaiter w.open_places) (subst (CommitMoves (object s g)) (awaited-object (object x g) w q) (c.moves g))).0)

    raised_by : (p g f n : ℕ) → object u g ≡ Object.GatherFuture f n (GatherState.Failed e) → PollRaises u p g (object u g) e
    raised_by p g f n q = subst (λ (y : Object). PollRaises u p g y e) (sym q) (failed f n e)

    -- the gathers below one that has failed
    below-falls : {root t g : ℕ} {a : Awaiter} {fs : List Frame} {k : ℕ} → Stacked (header x).made (object x) (place x) root t g a fs k → Levels s (OnStack all) x fs → ((p : ℕ) → OnStack fs p → OnStack all p) → Falls u e g
        → (o : ℕ) → OnStack fs o → Falls u e o
    unfolding Levels
    below-falls (bottom d q) ls on fl o i = absurd i
    below-falls {g = g} (above {f = f} {fs = gs} w j op lt nm lo aw rm rest) ls on fl o i = by i (below-falls rest ls.1 (λ p y. on p (inr y)))
      where
        here : Falls u e f.gather
        here =
            level-falls f.gather f.next w ls.0 op.awaited (omega (arith, op.made, (header-fits x).made_fits)) (on f.gather (inl refl)) lt
            (subst (λ (j : ℕ). PollRaises u f.gather j (object u j) e) named (raised_by f.gather g fl.first fl.count fl.now))
            (λ j b p d. subst Passed (ap (object u) (d ∙ sym named) ∙ fl.now) p)
          where
            named : g ≡ item_at s f.gather f.next
            named = sym nm ∙ item-was f.gather f.next w op.awaited

        by : OnStack (f ∷ gs) o → (Falls u e f.gather → (o : ℕ) → OnStack gs o → Falls u e o) → Falls u e o
        by (inl d) ih = subst (Falls u e) (sym d) here
        by (inr y) ih = ih here o y

  -- at an error: every gather on the stack falls
  error-fails : (root t : ℕ) (f : Frame) (fs : List Frame) (x : Store) (e : Error) → AtError root t f.gather fs x e → AtRaise s x f.gather fs e → Unwound (unwind x (f ∷ fs) e)
  unfolding view
  error-fails root t f fs x e h k =
      record {
        moves = λ o. moved o (on_stack (f ∷ fs) o);
        awaited = λ a b n y w p q. not-awaited a b n y w p q (on_stack (f ∷ fs) a);
        pending = λ a b n c d y p q. why a b n c d y p q (on_stack (f ∷ fs) a);
        grows = subst (λ (y : Header). (header s).next ≤ y.next) (sym same.2) c.grows;
        tasks = λ i l. same-task i ∙ c.tasks i l;
        exits = λ v. ap (λ (y : List LogEntry). exits_in y v) same.1 ∙ c.exits v;
        spawned = λ v b l. ap (λ (y : List LogEntry). spawned_by b y v) same.1 ∙ c.spawned v b l;
        for_it = λ i b a l. ap (λ (y : List LogEntry). spawned_by b y i) same.1 ∙ (c.for_it i b a (subst (λ (y : Header). i < y.next) same.2 l) ∙ ap (λ (y : Task). some y.coroutine.0) (sym (same-task i)));
        slot = λ i a l. subst (λ (y : Task). ItemSlot s y.coroutine.0 y.awaiter) (sym (same-task i)) (c.slot i a (subst (λ (y : Header). i < y.next) same.2 l));
        takes = λ o r q. took o r q (on_stack (f ∷ fs) o);
        opens = λ o a b q. opened o a q (on_stack (f ∷ fs) o);
      }
    where
      g : ℕ
      g = f.gather

      z : Sized x
      z = h.memory.sized

      c : Committing s x
      c = k.going.commits

      v : Store
      v = unwind x (f ∷ fs) e

      same : (v.tasks ≡ x.tasks) × (v.log ≡ x.log) × (header v ≡ header x)
      same = unwind-tasks (f ∷ fs) x e

      same-task : (i : ℕ) → task v i ≡ task x i
      same-task i = unfold task in (ap (λ (y : List ℕ). task_at y i) same.0)

      made : g < (header x).made
      made = h.inv.opened.made

      goes_on : is_ended (header x).moment ≡ false
      goes_on = running-on (header x).moment t h.inv.moment

      other : (o : ℕ) → (OnStack (f ∷ fs) o → ⊥) → object v o ≡ object x o
      other o n = unwind-other (f ∷ fs) x e o n

      top : Falls v e g
      top =
          level-falls x e (f ∷ fs) z h.fits goes_on c g k.i h.inv.w k.going.top h.inv.opened.awaited (omega (arith, made, (header-fits x).made_fits)) (inl refl)
          (subst (λ (n : ℕ). k.i < n) (commit_places (object s g) h.inv.w.first h.inv.w.count (GatherState.Awaited h.inv.w.awaiter h.inv.w.open_places)
          (subst (CommitMoves (object s g)) (awaited-object (object x g) h.inv.w h.inv.opened.awaited) (c.moves g))).1 k.under)
          (subst (λ (y : Object). PollRaises v g (item_at s g k.i) y e) (sym (other (item_at s g k.i) k.off)) (polls-same x v g (item_at s g k.i) same-task same.2 (object x (item_at s g k.i)) e k.raises))
          (λ j b p d. k.first j b d)

      all-fall : (o : ℕ) → OnStack (f ∷ fs) o → Falls v e o
      all-fall o (inl d) = subst (Falls v e) (sym d) top
      all-fall o (inr i) = below-falls x e (f ∷ fs) z h.fits goes_on c h.inv.stack k.going.below (λ p y. inr y) top o i

      took : (o : ℕ) (r : PendingExternal) → as_pending (object v o) ≡ some r → Dec (OnStack (f ∷ fs) o) → Took s o r.awaiter
      took o r q (yes i) = absurd_some (sym (ap as_pending (all-fall o i).now ∙ (unfold as_pending in refl)) ∙ q)
      took o r q (no n) = k.going.taking o r (sym (ap as_pending (other o n)) ∙ q)

      opened : (o : ℕ) (a : AwaitedGather) → as_awaited (object v o) ≡ some a → Dec (OnStack (f ∷ fs) o) → Opens s o a.awaiter
      opened o a q (yes i) = absurd_some (sym (ap as_awaited (all-fall o i).now ∙ (unfold as_awaited in refl)) ∙ q)
      opened o a q (no n) = k.going.opening o a n (sym (ap as_awaited (other o n)) ∙ q)

      moved : (o : ℕ) → Dec (OnStack (f ∷ fs) o) → RowMoves (object s o) (object v o)
      moved o (yes i) =
          let y = all-fall o i in
          subst (λ (a : Object). RowMoves a (object v o)) (sym y.was) (subst (RowMoves (Object.GatherFuture y.first y.count GatherState.Pending)) (sym y.now) (refl, refl, tt))
      moved o (no n) = subst (RowMoves (object s o)) (sym (other o n)) (commit_moves (object s o) (object x o) (c.moves o))

      not-awaited : (a b n : ℕ) (y : Error) (i : AwaitedGather) → as_awaited (object s a) ≡ some i → object v a ≡ Object.GatherFuture b n (GatherState.Failed y) → Dec (OnStack (f ∷ fs) a) → ⊥
      not-awaited a b n y i p q (yes on) = let r = all-fall a on in pending-awaited (object s a) r.first r.count i r.was p
      not-awaited a b n y i p q (no off) = failed-awaited (object s a) b n y i (commit_failed (object s a) (object x a) b n y (c.moves a) (sym (other a off) ∙ q)) p

      same-error : (a b : Error) (i j k l : ℕ) → Object.GatherFuture i j (GatherState.Failed a) ≡ Object.GatherFuture k l (GatherState.Failed b) → a ≡ b
      same-error a b i j k l q = cc

      why : (a b n i d : ℕ) (y : Error) → object s a ≡ Object.GatherFuture b n GatherState.Pending → object v a ≡ Object.GatherFuture i d (GatherState.Failed y) → Dec (OnStack (f ∷ fs) a) → CommitFailed s v a y
      why a b n i d y p q (yes on) = let r = all-fall a on in subst (CommitFailed s v a) (same-error e y r.first r.count i d (sym r.now ∙ q)) r.why
      why a b n i d y p q (no off) = absurd (subst FailedRow (sym (commit_failed (object s a) (object x a) i d y (c.moves a) (sym (other a off) ∙ q)) ∙ p) tt)

  -- ---- a gather not committed yet is opened, and comes on the stack

  opened-going : (x : Store) (o f n : ℕ) (a : Awaiter) (g i : ℕ) (fs : List Frame) (Q : ℕ → Type 0) → Sized x → o < object_limit → AwaiterFits a → object x o ≡ Object.GatherFuture f n GatherState.Pending → Committing s x → Taking s x → Opening s Q x
      → Levels s Q x fs → ((p : ℕ) → OnStack fs p → Q p) → ((p : ℕ) → Q p → OnStack fs p) → ((p : ℕ) → OnStack fs p → p ≡ o → ⊥) → Going s (open_gather_commit x o a) o 0 fs
  unfolding open_gather_commit set_gather with_state
  opened-going x o f n a g i fs Q z l fa q c t op ls sub back apart =
      subst (λ (y : Object). Going s (put_object x o y) o 0 fs) (sym (ap (λ (y : Object). with_state y (GatherState.Awaited a 0)) q))
      (record {
        commits = committing_row s x o y z l fits (subst (λ (b : Object). CommitMoves b y) (sym was) (refl, refl, tt)) (λ d e. no-coroutine f n d (sym q ∙ e)) c;
        taking = taking_gather s x o f n (GatherState.Awaited a 0) z l fits t;
        opening = opening_row s Q (OnTop o fs) x o y z l fits (λ v b e. absurd (b (inl refl))) (λ p d b e. b (inr (back p e))) op;
        top = record {
          first = f;
          count = n;
          was = was;
          left = λ j b. absurd (not-suc-le-zero b);
          marks = λ w e. (λ j b. absurd (true≢false (sym b ∙ none w e j)), λ j b. absurd (not-suc-le-zero b));
        };
        below = levels_onward s Q (OnTop o fs) x v fs on off (λ p b. object_put-other x o p y (apart p b)) ls;
      })
    where
      y : Object
      y = Object.GatherFuture f n (GatherState.Awaited a 0)

      v : Store
      v = put_object x o y

      old : ObjectFits (Object.GatherFuture f n GatherState.Pending)
      old = subst ObjectFits q (object-fits x o)

      fits : ObjectFits y
      fits = (old.0, (fa, omega arith))

      was : object s o ≡ Object.GatherFuture f n GatherState.Pending
      was = commit_pending (object s o) f n (subst (CommitMoves (object s o)) q (c.moves o))

      no-coroutine : (f n d : ℕ) → Object.GatherFuture f n GatherState.Pending ≡ Object.Coroutine d CoroutineState.New → ⊥
      no-coroutine f n d e = let z : ◌≡◌ {A = ℕ} 0 1 = cc in not-suc-le-zero {n = 0} (omega arith)

      none : (w : AwaitedGather) → as_awaited (object v o) ≡ some w → (j : ℕ) → bit w.open_places j ≡ false
      none w e j =
          let same : record { first = f; count = n; awaiter = a; open_places = 0 } ≡ w =
          some-injective (record { first = f; count = n; awaiter = a; open_places = 0 }) w (sym (ap as_awaited (object_put-object x o y z l fits) ∙ (unfold as_awaited in refl)) ∙ e) in
          ap (λ (b : AwaitedGather). bit b.open_places j) (sym same) ∙ none-set j

      new : (p : ℕ) → Passed (object x p) → p ≡ o → ⊥
      new p b d = subst Passed q (subst (λ (j : ℕ). Passed (object x j)) d b)

      on : Onward s Q x v
      on p b d = keeps_same s (object x p) (object v p) (object_put-other x o p y (new p d)) d

      off : (p : ℕ) → Passed (object x p) → (Q p → ⊥) → OnTop o fs p → ⊥
      off p b d (inl e) = new p b e
      off p b d (inr e) = d (sub p e)

  nested-going : (root t : ℕ) (f : Frame) (fs : List Frame) (x : Store) (i o : ℕ) → AtNested root t f.gather fs x i o → Going s x f.gather i fs
      → Going s (open_gather_commit x o (Awaiter.GatherSlot (heap_id f.gather) (heap_id o))) o 0 (record { gather = f.gather; next = i } ∷ fs)
  unfolding view Levels
  nested-going root t f fs x i o h k =
      opened-going x o h.first h.count (Awaiter.GatherSlot (heap_id f.gather) (heap_id o)) f.gather i (record { gather = f.gather; next = i } ∷ fs) (OnTop f.gather fs) h.memory.sized low-o (low-g, low-o) h.is_new
      k.commits k.taking k.opening (unfold Levels in (k.top, k.below)) (λ p z. z) (λ p z. z) apart
    where
      low-g : f.gather < object_limit
      low-g = omega (arith, h.inv.opened.made, (header-fits x).made_fits)

      low-o : o < object_limit
      low-o = omega (arith, h.lower, low-g)

      apart : (p : ℕ) → OnStack (record { gather = f.gather; next = i } ∷ fs) p → p ≡ o → ⊥
      apart p (inl d) e = not-suc-le-zero {n = 0} (omega (arith, h.lower, d, e))
      apart p (inr z) e = not-suc-le-zero {n = 0} (omega (arith, h.lower, e, stack_above h.inv.stack p z))

  -- ---- a gather whose items are all stepped leaves the stack

  -- completed
  completed-commits : (x : Store) (g i : ℕ) (fs : List Frame) (w : AwaitedGather) → Sized x → g < object_limit → as_awaited (object x g) ≡ some w → Going s x g i fs → Committing s (set_gather x g GatherState.Completed)
  unfolding set_gather
  completed-commits x g i fs w z l e k =
      subst (λ (y : Object). Committing s (put_object x g y)) (sym (with_state-is (object x g) w GatherState.Completed e))
      (committing_row s x g (Object.GatherFuture w.first w.count GatherState.Completed) z l ((awaited-fits x g w e).0, tt)
      (opened_moves (object s g) (object x g) k.top.first k.top.count w GatherState.Completed k.top.was e (k.commits.moves g) tt) (λ f q. not-coroutine (object x g) w f CoroutineState.New e q) k.commits)

  completed-takes : (x : Store) (g : ℕ) (w : AwaitedGather) → Sized x → g < object_limit → as_awaited (object x g) ≡ some w → Taking s x → Taking s (set_gather x g GatherState.Completed)
  unfolding set_gather
  completed-takes x g w z l e t =
      subst (λ (y : Object). Taking s (put_object x g y)) (sym (with_state-is (object x g) w GatherState.Completed e))
      (taking_gather s x g w.first w.count GatherState.Completed z l ((awaited-fits x g w e).0, tt) t)

  -- where a commit of gather `root` for task t ends
  abbrev pub EndFails : ℕ → ℕ → Store → Poll → Type 0
  EndFails root t u (ready v) = Committing s u × Taking s u × Opening s (λ p. ⊥) u
  EndFails root t u (raised e) = Unwound u
  EndFails root t u pending = Committing s u × Taking s u × Opening s (λ p. p ≡ root) u × ((v : AwaitedGather) → as_awaited (object u root) ≡ some v → v.awaiter ≡ Awaiter.Task (task_id t))

  -- the gather on top leaves the stack completed
  completed-opens : (x : Store) (g : ℕ) (Q R : ℕ → Type 0) (w : AwaitedGather) → Sized x → g < object_limit → as_awaited (object x g) ≡ some w → ((p : ℕ) → (p ≡ g → ⊥) → (R p → ⊥) → Q p → ⊥) → Opening s Q x → Opening s R (set_gather x g GatherState.Completed)
  unfolding set_gather as_awaited
  completed-opens x g Q R w z l e off k =
      subst (λ (y : Object). Opening s R (put_object x g y)) (sym (with_state-is (object x g) w GatherState.Completed e))
      (opening_row s Q R x g (Object.GatherFuture w.first w.count GatherState.Completed) z l ((awaited-fits x g w e).0, tt) (λ v n q. absurd_some q) off k)

  root-fails : (root t : ℕ) (x : Store) (g i j : ℕ) → Memory x → Inv root t 0 (OnTop g []) (view x) g i [] → Going s x g j [] → EndFails root t (settle_gather_commit x g).store (settle_gather_commit x g).poll
  unfolding settle_gather_commit view
  root-fails root t x g i j mem h k =
      subst (λ (o : Option AwaitedGather). EndFails root t (settle_as x g o).store (settle_as x g o).poll) (sym h.opened.awaited) (unfold settle_as in (by (eqb h.w.open_places 0)))
    where
      alone : (p : ℕ) → (p ≡ g → ⊥) → (⊥ → ⊥) → OnTop g [] p → ⊥
      alone p n z (inl d) = n d
      alone p n z (inr d) = d

      is-root : {a : Awaiter} {n : ℕ} → Stacked (header x).made (object x) (place x) root t g a [] n → (g ≡ root) × (a ≡ Awaiter.Task (task_id t))
      is-root (bottom d q) = (d, q)

      only : (p : ℕ) → OnTop g [] p → p ≡ root
      only p (inl d) = d ∙ (is-root h.stack).0
      only p (inr d) = absurd d

      by : (b : Bool) → EndFails root t (pick b (gives (set_gather x g GatherState.Completed) (ready (Value.List (heap_id g)))) (gives x pending)).store
          (pick b (gives (set_gather x g GatherState.Completed) (ready (Value.List (heap_id g)))) (gives x pending)).poll
      by true =
          let low : g < object_limit = omega (arith, h.opened.made, (header-fits x).made_fits) in
          (completed-commits x g j [] h.w mem.sized low h.opened.awaited k, completed-takes x g h.w mem.sized low h.opened.awaited k.taking, completed-opens x g (OnTop g []) (λ p. ⊥) h.w mem.sized low h.opened.awaited alone k.opening)
      by false = (k.commits, k.taking, λ o v n e. k.opening o v (λ z. n (only o z)) e, λ v e. ap (λ (y : AwaitedGather). y.awaiter) (sym (some-injective h.w v (sym h.opened.awaited ∙ (ap (λ (p : ℕ). as_awaited (object x p)) (is-root h.stack).0 ∙ e)))) ∙ (is-root h.stack).1)

  module _ (root t : ℕ) (x : Store) (g i j : ℕ) (p : Frame) (ps : List Frame) (mem : Memory x) (h : Inv root t 0 (OnTop g (p ∷ ps)) (view x) g i (p ∷ ps)) (k : Going s x g j (p ∷ ps)) where
    abbrev Next : Store → Type 0
    Next y = Going s y p.gather (p.next + 1) ps

    made : g < (header x).made
    unfolding view
    made = h.opened.made

    top : as_awaited (object x g) ≡ some h.w
    unfolding view
    top = h.opened.awaited

    low : g < object_limit
    low = omega (arith, made, (header-fits x).made_fits)

    higher : (q : ℕ) → OnStack (p ∷ ps) q → g < q
    unfolding view
    higher q z = stack_above h.stack q z

    off-g : OnTop p.gather ps g → ⊥
    off-g z = not-suc-le-zero {n = 0} (omega (arith, higher g z))

    abbrev done : Object
    done = Object.GatherFuture h.w.first h.w.count GatherState.Completed

    abbrev x1 : Store
    x1 = put_object x g done

    full-fits : ObjectFits done
    full-fits = ((awaited-fits x g h.w top).0, tt)

    x1-sized : Sized x1
    x1-sized = sized-put_object x g done mem.sized

    x1-other : (q : ℕ) → OnStack (p ∷ ps) q → object x1 q ≡ object x q
    x1-other q z = object_put-other x g q done (λ d. not-suc-le-zero {n = 0} (omega (arith, d, higher q z)))

    completed-same : set_gather x g GatherState.Completed ≡ x1
    unfolding set_gather
    completed-same = ap (put_object x g) (with_state-is (object x g) h.w GatherState.Completed top)

    -- its next place names g
    item-is : (w : AwaitedGather) → as_awaited (object x p.gather) ≡ some w → (place x (w.first + p.next)).item.0 ≡ g → g ≡ item_at s p.gather p.next
    item-is w e nm =
        sym nm ∙ (k.commits.items (w.first + p.next)
        ∙ ap (λ (n : ℕ). (place s (n + p.next)).item.0)
        (sym (commit_places (object s p.gather) w.first w.count (GatherState.Awaited w.awaiter w.open_places) (subst (CommitMoves (object s p.gather)) (awaited-object (object x p.gather) w e) (k.commits.moves p.gather))).0))

    off_rest : (q : ℕ) → (q ≡ g → ⊥) → (OnTop p.gather ps q → ⊥) → OnTop g (p ∷ ps) q → ⊥
    off_rest q n m (inl d) = n d
    off_rest q n m (inr z) = m z

    -- g has left the stack, awaited by the gather below it
    parked-opens : (o : ℕ) (v : AwaitedGather) → (OnTop p.gather ps o → ⊥) → as_awaited (object x o) ≡ some v → Dec (o ≡ g) → Opens s o v.awaiter
    unfolding view
    parked-opens o v n e (no ne) = k.opening o v (off_rest o ne n) e
    parked-opens o v n e (yes d) = by h.stack
      where
        by : {m : ℕ} → Stacked (header x).made (object x) (place x) root t g h.w.awaiter (p ∷ ps) m → Opens s o v.awaiter
        by (above w i op lt nm lo aw rm rest) =
            subst (Opens s o) (sym (ap (λ (y : AwaitedGather). y.awaiter) (sym (some-injective h.w v (sym top ∙ subst (λ (j : ℕ). as_awaited (object x j) ≡ some v) d e))) ∙ aw))
            (inr (record {
              at = p.next;
              under = subst (λ (c : ℕ). p.next < c) (sym (commit_places (object s p.gather) w.first w.count (GatherState.Awaited w.awaiter w.open_places) (subst (CommitMoves (object s p.gather)) (awaited-object (object x p.gather) w op.awaited) (k.commits.moves p.gather))).1) lt;
              names = sym (item-is w op.awaited nm) ∙ sym d;
            }))

    -- the one below is on top again
    parked : Going s x p.gather p.next ps
    unfolding Levels
    parked =
        record {
          commits = k.commits;
          taking = k.taking;
          opening = λ o v n e. parked-opens o v n e (ℕ_discrete o g);
          top = level_onward s (OnTop g (p ∷ ps)) (OnTop p.gather ps) x x p.gather p.next (λ o n y. (y, λ z. z)) (λ q y n z. n (inr z)) refl k.below.0;
          below = levels_onward s (OnTop g (p ∷ ps)) (OnTop p.gather ps) x x ps (λ o n y. (y, λ z. z)) (λ q y n z. n (inr z)) (λ q z. refl) (unfold Levels in k.below.1);
        }

    filled : Going s x1 p.gather p.next ps
    unfolding Levels
    filled =
        record {
          commits = subst (Committing s) completed-same (completed-commits x g j (p ∷ ps) h.w mem.sized low top k);
          taking = subst (Taking s) completed-same (completed-takes x g h.w mem.sized low top k.taking);
          opening = subst (Opening s (OnTop p.gather ps)) completed-same (completed-opens x g (OnTop g (p ∷ ps)) (OnTop p.gather ps) h.w mem.sized low top off_rest k.opening);
          top = level_onward s (OnTop g (p ∷ ps)) (OnTop p.gather ps) x x1 p.gather p.next on (λ q y n z. n (inr z))
              (ap as_awaited (x1-other p.gather (inl refl))) k.below.0;
          below = levels_onward s (OnTop g (p ∷ ps)) (OnTop p.gather ps) x x1 ps on (λ q y n z. n (inr z)) (λ q z. x1-other q (inr z)) (unfold Levels in k.below.1);
        }
      where
        on : Onward s (OnTop g (p ∷ ps)) x x1
        on o n y = keeps_same s (object x o) (object x1 o) (object_put-other x g o done (λ d. n (inl d))) y

    filled_next : Next (resume_after_child p (gives x1 (ready (Value.List (heap_id g)))))
    unfolding view resume_after_child
    filled_next = by h.stack
      where
        by : {a : Awaiter} {n : ℕ} → Stacked (header x).made (object x) (place x) root t g a (p ∷ ps) n → Next (resume_as p (gives x1 (ready (Value.List (heap_id g)))) (as_awaited (object x1 p.gather)))
        by (above w i op lt nm lo aw rm rest) =
            subst (λ (o : Option AwaitedGather). Next (resume_as p (gives x1 (ready (Value.List (heap_id g)))) o)) (sym (ap as_awaited (x1-other p.gather (inl refl)) ∙ op.awaited))
            (unfold resume_as resume_in in
            (going_fills s x1 p.gather p.next ps w (Value.List (heap_id g)) x1-sized (omega (arith, gather_within p.gather w h.but op.made op.awaited, lt, h.but.fits.used_fits)) low
            (subst (Calm s (OnTop p.gather ps) x1) (item-is w op.awaited nm) (record { passed = subst Passed (sym (object_put-object x g done mem.sized low full-fits)) tt; off = off-g }))
            (subst (λ (j : ℕ). Settled (object x1 j)) (item-is w op.awaited nm) (subst Settled (sym (object_put-object x g done mem.sized low full-fits)) tt)) filled))

    parked-next : Next (resume_after_child p (gives x pending))
    unfolding view resume_after_child
    parked-next = by h.stack
      where
        by : {a : Awaiter} {n : ℕ} → Stacked (header x).made (object x) (place x) root t g a (p ∷ ps) n → Next (resume_as p (gives x pending) (as_awaited (object x p.gather)))
        by (above w i op lt nm lo aw rm rest) =
            subst (λ (o : Option AwaitedGather). Next (resume_as p (gives x pending) o)) (sym op.awaited)
            (unfold resume_as resume_in in
            (going_opens s x p.gather p.next ps w mem.sized (omega (arith, op.made, (header-fits x).made_fits))
            (awaits_fits x p.gather w op.awaited (wider w p.next) (wider_small w p.next lt (open_small p.gather w h.but op.made op.awaited))) op.awaited
            (λ q z d. not-suc-le-zero {n = 0} (omega (arith, d, stack_above rest q z)))
            (subst (Calm s (OnTop p.gather ps) x) (item-is w op.awaited nm) (record { passed = subst Passed (sym (awaited-object (object x g) h.w top)) tt; off = off-g })) parked))

    pub resumed_going : Next (resume_after_child p (settle_gather_commit x g))
    unfolding settle_gather_commit
    resumed_going = subst (λ (o : Option AwaitedGather). Next (resume_after_child p (settle_as x g o))) (sym top) (unfold settle_as in (by (eqb h.w.open_places 0)))
      where
        by : (b : Bool) → Next (resume_after_child p (pick b (gives (set_gather x g GatherState.Completed) (ready (Value.List (heap_id g)))) (gives x pending)))
        by true = subst (λ (y : Store). Next (resume_after_child p (gives y (ready (Value.List (heap_id g)))))) (sym completed-same) filled_next
        by false = parked-next

  -- ---- the turns

  abbrev LoopFails : ℕ → ℕ → ℕ → (Store → Frame → List Frame → ℕ → ℕ → ℕ → Committed) → Type 0
  LoopFails root t fuel loop =
      (x : Store) (f : Frame) (fs : List Frame) (n j k : ℕ) → 2 * pending_count x + suc (length fs) ≤ fuel → Commits root t f.gather f.next fs x → Going s x f.gather f.next fs
      → EndFails root t (loop x f fs n j k).store (loop x f fs n j k).poll

  turn-fails : (root t fuel : ℕ) (loop : Store → Frame → List Frame → ℕ → ℕ → ℕ → Committed) → LoopFails root t fuel loop → (y : Store) (f : Frame) (fs : List Frame) (n j k : ℕ) (x : Stop) → 2 * pending_count y + length fs ≤ fuel
      → f.gather < object_limit → StopKeeps y x → StopOk root t f.gather fs x → StopFails s f.gather fs x → EndFails root t (turn loop f fs n j k x).store (turn loop f fs n j k x).poll
  unfolding turn view
  turn-fails root t fuel loop go y f fs n j k (at_nested x i o) b l q h r =
      go _ (record { gather = o; next = 0 }) (record { gather = f.gather; next = i } ∷ fs) (suc n) (suc j) k (omega (arith, b, nested_fuel y x f fs i o q)) (nested_commits root t f fs x i o h) (nested-going root t f fs x i o h r)
  turn-fails root t fuel loop go y f fs n j k (at_error x e) b l q h r = error-fails root t f fs x e h r
  turn-fails root t fuel loop go y f [] n j k (at_end x) b l q h r = root-fails root t x f.gather h.i r.i h.memory h.inv r.going
  turn-fails root t fuel loop go y f (p ∷ ps) n j k (at_end x) b l q h r =
      go _ (record { gather = p.gather; next = p.next + 1 }) ps (suc n) j (suc k) (omega (arith, b, settled_fuel y x f p ps q l (below-low h.inv.stack)))
      (settle_next root t x f.gather h.i p ps h.memory h.inv h.end) (resumed_going root t x f.gather h.i r.i p ps h.memory h.inv r.going)
    where
      below-low : {g : ℕ} {a : Awaiter} {m : ℕ} → Stacked (header x).made (object x) (place x) root t g a (p ∷ ps) m → p.gather < object_limit
      below-low (above w i op lt nm lo aw rm rest) = omega (arith, op.made, (header-fits x).made_fits)

  loop-fails : (fuel root t : ℕ) → LoopFails root t fuel (commit_loop fuel)
  unfolding commit_loop step_gather_commit view
  loop-fails zero root t x f fs n j k b h r = absurd (not-suc-le-zero {n = 0} (omega (arith, b)))
  loop-fails (suc fuel) root t x f fs n j k b h r =
      turn-fails root t fuel (λ y g gs m i h. commit_loop fuel y g gs m i h) (loop-fails fuel root t) x f fs n j k (step_gather_commit x f) (omega (arith, b)) low (step_kinds x f h.memory.sized low)
      (frame-stops root t x f fs h)
      (items-fails s (count_of (object x f.gather) - f.next) root t f.gather f.next fs x h.memory h.inv
      (omega (arith, h.inv.opened.under, inv_count root t f.next f.gather 0 (OnTop f.gather fs) fs x h.inv)) r)
    where
      low : f.gather < object_limit
      low = omega (arith, h.inv.opened.made, (header-fits x).made_fits)

  -- What a commit leaves.
  pub commit_fails : (t g f n : ℕ) → SoundStore s → (header s).moment ≡ Moment.Running (task_id t) → g < (header s).made → object s g ≡ Object.GatherFuture f n GatherState.Pending
      → EndFails g t (commit_gather_tree s g (Awaiter.Task (task_id t))).store (commit_gather_tree s g (Awaiter.Task (task_id t))).poll
  unfolding commit_gather_tree Levels
  commit_fails t g f n w m l q =
      loop-fails _ g t (open_gather_commit s g (Awaiter.Task (task_id t))) (record { gather = g; next = 0 }) [] 0 1 0 (omega arith) (commit_begins s t w m g f n l q)
      (opened-going s g f n (Awaiter.Task (task_id t)) g 0 [] (λ p. ⊥) w.memory.sized (omega (arith, l, (header-fits s).made_fits)) (omega (arith, runner_low s t w m, (header-fits s).next_fits)) q (committing_begins s) (taking_begins s) (opening_begins s (λ p. ⊥))
      (unfold Levels in tt) (λ p z. absurd z) (λ p z. absurd z) (λ p z. absurd z))
