-- What a cancel leaves: live tasks other than main have gone, all else is as it was; so what stands stands, and lost places have nobody.
use Rattle.std.specs.Prelude.{◌⊎◌, ◌≡◌, Bool, true, false, not, ℕ, zero, suc, ◌+◌, ◌≤◌, ◌<◌, eqb}
use Rattle.std.proofs.Common.{inl, inr, sym, subst, ◌∙◌, true≢false, not-suc-le-zero, arith}
use Rattle.std.proofs.Math.Path.{refl, ap}
use mathlib.Core.List.{List, [], ◌∷◌}
use Rattle.std.proofs.Math.Option.{Option, some, some-injective}
use Rattle.std.proofs.Math.Decide.{ℕ_discrete}
use Rattle.std.proofs.lemmas.Bool.{eqb-false}
use Rattle.asyncio.specs.declared.Task.{Task}
use Rattle.asyncio.specs.declared.Awaiter.{Awaiter}
use Rattle.asyncio.specs.declared.Place.{Place}
use Rattle.asyncio.specs.declared.Header.{Header}
use Rattle.asyncio.specs.declared.Moment.{Moment}
use Rattle.asyncio.specs.Numbers.{heap_id}
use Rattle.asyncio.specs.States.{is_live, is_ready, is_unstarted}
use Rattle.rows.specs.Tables.{object_at, header_at, place_at}
use Rattle.queue.specs.Queue.{entries, occurrences}
use Rattle.machine.specs.Store.{Store, task, object, place, header, put_task, put_queue, add_log, removed}
use Rattle.machine.specs.Scheduler.{live, as_awaited, as_pending, remove_from_ready_queue, remove_task, cancel_one, cancel_task}
use Rattle.machine.specs.Machine.{Event, refusals, first_refusal, refusal}
use Rattle.machine.specs.History.{spawned_by}
use Rattle.machine_laws.specs.Facts.{Nothing}
use Rattle.machine_laws.specs.TestLaws.{is_true, not-not}
use Rattle.machine_laws.specs.SoundLaws.{pass, refusal-rest}
use Rattle.machine_laws.specs.Walk.{walked-kept}
use Rattle.machine_theorems.specs.Soundness.RowFacts.{ready-live, unstarted-live}
use Rattle.machine_theorems.specs.Soundness.Stores.{SoundStore}
use Rattle.machine_theorems.specs.Soundness.Preserved.{waiting}
use Rattle.machine_sessions.specs.Queue.Tracked.{live_low}
use Rattle.machine_sessions.specs.Removals.Keep.{keep-occurrences}
use Rattle.machine_sessions.specs.Removals.Left.{QueueLeft, removed-other, removed_dead, same_left, one_left}
use Rattle.machine_sessions.specs.Stall.Standing.{Stands}
use Rattle.machine_sessions.specs.Stall.NoStall.{Source, by_external, by_gather, by_nobody, by_task, Roots, root, above, Sourced}
use Rattle.machine_sessions.specs.Stall.TaskLog.{exits_by, used_coroutine, any_coroutine, Tasks}
use Rattle.machine_sessions.specs.Stall.WaitingTasks.{AllStarted}

-- u is s without some of its tasks
pub record Removes (s u : Store) : Type 0 where
  -- those of the queue that are live stand there in their former order, and no others
  pub left : QueueLeft s u
  pub objects : u.objects ≡ s.objects
  pub places : u.places ≡ s.places
  -- a task is as it was, or has gone, and is not main
  pub rows : (t : ℕ) → (task u t ≡ task s t) ⊎ ((is_live (task u t).state ≡ false) × (1 ≤ t))
  pub spawned : (b : Option ℕ) (t : ℕ) → spawned_by b u.log t ≡ spawned_by b s.log t
  pub exits : (b : Bool) (t : ℕ) → exits_by b u.log t ≡ exits_by b s.log t

module _ (s : Store) (sw : SoundStore s) where
  -- one task goes
  one-goes : (u : Store) (t : ℕ) → is_live (task u t).state ≡ true → 1 ≤ t → Removes s u → Removes s (add_log (remove_task u t) (removed t))
  unfolding cancel_one
  one-goes u t lv pos k =
      record {
        left = one_left s sw u t lv k.left;
        objects = unfold add_log remove_task remove_from_ready_queue put_queue put_task in k.objects;
        places = unfold add_log remove_task remove_from_ready_queue put_queue put_task in k.places;
        rows = λ v. rows-by v (ℕ_discrete v t);
        spawned = λ b v. says b v ∙ k.spawned b v;
        exits = λ b v. tells b v ∙ k.exits b v;
      }
    where
      w : Store
      w = add_log (remove_task u t) (removed t)

      says : (b : Option ℕ) (v : ℕ) → spawned_by b w.log v ≡ spawned_by b u.log v
      says b v = unfold add_log remove_task remove_from_ready_queue put_queue put_task spawned_by in refl

      tells : (b : Bool) (v : ℕ) → exits_by b w.log v ≡ exits_by b u.log v
      tells b v = unfold add_log remove_task remove_from_ready_queue put_queue put_task exits_by in refl

      rows-by : (v : ℕ) → Dec (v ≡ t) → (task w v ≡ task s v) ⊎ ((is_live (task w v).state ≡ false) × (1 ≤ v))
      rows-by v (yes d) = inr (subst (λ (m : ℕ). is_live (task w m).state ≡ false) (sym d) (removed_dead u t k.left.sized lv), subst (λ (m : ℕ). 1 ≤ m) (sym d) pos)
      rows-by v (no ne) = on (k.rows v)
        where
          on : (task u v ≡ task s v) ⊎ ((is_live (task u v).state ≡ false) × (1 ≤ v)) → (task w v ≡ task s v) ⊎ ((is_live (task w v).state ≡ false) × (1 ≤ v))
          on (inl e) = inl (removed-other u t v ne ∙ e)
          on (inr e) = inr (ap (λ (r : Task). is_live r.state) (removed-other u t v ne) ∙ e.0, e.1)

-- what the table lets through: the session waits, and the task is live and not main
pub record Cancellable (s : Store) (t : ℕ) : Type 0 where
  pub waits : (header s).moment ≡ Moment.Waiting
  pub low : t < (header s).next
  pub is_live_now : is_live (task s t).state ≡ true
  pub spawned : 1 ≤ t

pub cancel_passes : (s : Store) (t : ℕ) → SoundStore s → refusal s (Event.cancel t) ≡ 0 → Cancellable s t
unfolding refusals
cancel_passes s t w r = record { waits = q.0; low = there.0; is_live_now = there.1; spawned = omega (arith, eqb-false t 0 (pass 8 (eqb t 0) [] p.1).0) }
  where
    q : ((header s).moment ≡ Moment.Waiting) × (first_refusal ((5, not (live s t)) ∷ (9, eqb t 0) ∷ []) ≡ 0)
    q = waiting s w _ (refusal-rest s (Event.cancel t) r)

    p : (not (live s t) ≡ false) × (first_refusal ((9, eqb t 0) ∷ []) ≡ 0)
    p = pass 4 (not (live s t)) _ q.1

    there : (t < (header s).next) × (is_live (task s t).state ≡ true)
    there = live_low s t (is_true (live s t) (not-not (live s t) p.0))

-- A cancel that the table lets through, in a sound store, a lent one too.
pub cancel_removes : (s : Store) (t : ℕ) → SoundStore s → Cancellable s t → Removes s (cancel_task s t)
cancel_removes s t w c = walked-kept (Removes s) (record { goes = one-goes s w }) s t (one-goes s w s t c.is_live_now c.spawned same-all)
  where
    same-all : Removes s s
    same-all = record { left = same_left s w; objects = refl; places = refl; rows = λ v. inl refl; spawned = λ b v. refl; exits = λ b v. refl }

-- ---- what follows

module _ (s u : Store) (k : Removes s u) where
  pub object-same : (o : ℕ) → object u o ≡ object s o
  unfolding object
  object-same o = ap (λ (l : List ℕ). object_at l o) k.objects

  pub place_same : (p : ℕ) → place u p ≡ place s p
  unfolding place
  place_same p = ap (λ (l : List ℕ). place_at l p) k.places

  pub head-same : header u ≡ header s
  unfolding header
  head-same = ap header_at k.objects

  -- a live task is as it was
  live_same : (t : ℕ) → is_live (task u t).state ≡ true → task u t ≡ task s t
  live_same t a = on (k.rows t)
    where
      on : (task u t ≡ task s t) ⊎ ((is_live (task u t).state ≡ false) × (1 ≤ t)) → task u t ≡ task s t
      on (inl e) = e
      on (inr e) = absurd (true≢false (sym a ∙ e.0))

  -- a task that has gone stays gone
  dead-same : (t : ℕ) → is_live (task s t).state ≡ false → is_live (task u t).state ≡ false
  dead-same t a = on (k.rows t)
    where
      on : (task u t ≡ task s t) ⊎ ((is_live (task u t).state ≡ false) × (1 ≤ t)) → is_live (task u t).state ≡ false
      on (inl e) = ap (λ (r : Task). is_live r.state) e ∙ a
      on (inr e) = e.0

  -- main is as it was
  main-same : task u 0 ≡ task s 0
  main-same = on (k.rows 0)
    where
      on : (task u 0 ≡ task s 0) ⊎ ((is_live (task u 0).state ≡ false) × (1 ≤ 0)) → task u 0 ≡ task s 0
      on (inl e) = e
      on (inr e) = absurd (not-suc-le-zero {n = 0} e.1)

  -- a live task stands in the queue where it stood there before
  still-queued : (t : ℕ) → is_live (task u t).state ≡ true → 1 ≤ occurrences (entries s.queue) t → 1 ≤ occurrences (entries u.queue) t
  still-queued t a o = rw (k.left.order, keep-occurrences (λ v. is_live (task u v).state) (entries s.queue) t, a) o

  pub removed_stands : Stands Nothing s → Stands Nothing u
  removed_stands st =
      record {
        main = ap (λ (r : Task). is_live r.state) main-same ∙ st.main;
        stands = λ t l r n.
            let lv : is_live (task u t).state ≡ true = ready-live (task u t).state r in
            still-queued t lv (st.stands t (subst (λ (y : Header). t < y.next) head-same l) (sym (ap (λ (x : Task). is_ready x.state) (live_same t lv)) ∙ r) n);
      }

  pub removed-started : AllStarted s → AllStarted u
  removed-started b m t l = by (is_unstarted (task u t).state) refl
    where
      by : (x : Bool) → is_unstarted (task u t).state ≡ x → x ≡ false
      by true e =
          absurd (true≢false (sym e ∙ (ap (λ (r : Task). is_unstarted r.state) (live_same t (unstarted-live (task u t).state e))
          ∙ b (ap (λ (y : Header). y.moment) (sym head-same) ∙ m) t (subst (λ (y : Header). t < y.next) head-same l))))
      by false e = refl

  module _ (F : ℕ → Option ℕ) (L E : ℕ → Type 0) (S : ℕ → Option ℕ) (Y : ℕ → Bool) (all_started : (t : ℕ) → t < (header s).next → is_unstarted (task s t).state ≡ false) where
    pub removed-tasks : Tasks F L E S Y s → Tasks F L E S Y u
    removed-tasks j =
        record {
          sized = k.left.sized;
          main = subst (λ (y : Header). 1 ≤ y.next) (sym head-same) j.main;
          first = ap (λ (r : Task). is_unstarted r.state) main-same ∙ j.first;
          behind = λ t l. dead-same t (j.behind t (subst (λ (y : Header). y.next ≤ t) head-same l));
          rows = λ t l a.
              let e : task u (suc t) ≡ task s (suc t) = live_same (suc t) a in
              j.rows t (subst (λ (y : Header). suc t < y.next) head-same l) (sym (ap (λ (r : Task). is_live r.state) e) ∙ a) ∙ ap (λ (r : Task). some r.coroutine.0) (sym e);
          born = λ t c e. let b = j.born t c e in (b.0, subst (λ (y : Header). t < y.next) (sym head-same) b.1);
          before = j.before;
          alone = j.alone;
          coroutines = λ t c e. ap any_coroutine (object-same c) ∙ j.coroutines t c e;
          used = λ t c e a. ap used_coroutine (object-same c) ∙ used-by t c e (is_live (task s t).state) refl;
          started = λ t l a b.
              let e : task u (suc t) ≡ task s (suc t) = live_same (suc t) a in
              subst (λ (r : Task). used_coroutine (object u r.coroutine.0) ≡ true) (sym e)
              (ap used_coroutine (object-same (task s (suc t)).coroutine.0) ∙ j.started t (subst (λ (y : Header). suc t < y.next) head-same l) (sym (ap (λ (r : Task). is_live r.state) e) ∙ a) (sym (ap (λ (r : Task). is_unstarted r.state) e) ∙ b));
          ended = λ t e. let b = j.ended t e in (subst (λ (y : Header). t < y.next) (sym head-same) b.0, dead-same t b.1);
          lost = λ t e. let b = j.lost t e in (subst (λ (y : Header). t < y.next) (sym head-same) b.0, dead-same t b.1, b.2);
          left = j.left;
        }
      where
        used-by : (t c : ℕ) → S t ≡ some c → (b : Bool) → is_live (task s t).state ≡ b → used_coroutine (object s c) ≡ true
        used-by zero c e b a = absurd (not-suc-le-zero {n = 0} (j.born zero c e).0)
        used-by (suc t) c e true a =
            let l : suc t < (header s).next = (j.born (suc t) c e).1 in
            subst (λ (m : ℕ). used_coroutine (object s m) ≡ true) (some-injective (task s (suc t)).coroutine.0 c (sym (j.rows t l a) ∙ e)) (j.started t l a (all_started (suc t) l))
        used-by (suc t) c e false a = j.used (suc t) c e a

  -- G before, H after: the coroutines of the tasks that have gone are of H
  module _ (G H : ℕ → Type 0) (more : (o : ℕ) → G o → H o) (lost : (t g o : ℕ) → t < (header s).next → is_live (task s t).state ≡ true → is_live (task u t).state ≡ false → (task s t).awaiter ≡ Awaiter.GatherSlot (heap_id g) (heap_id o) → H o) where
    still : (g o : ℕ) → Source G s g o → Source H u g o
    still g o (by_external p e a) = by_external p (ap as_pending (object-same o) ∙ e) a
    still g o (by_gather w e a) = by_gather w (ap as_awaited (object-same o) ∙ e) a
    still g o (by_nobody e) = by_nobody (more o e)
    still g o (by_task t l lv a) = by (is_live (task u t).state) refl
      where
        by : (b : Bool) → is_live (task u t).state ≡ b → Source H u g o
        by true e = by_task t (subst (λ (y : Header). t < y.next) (sym head-same) l) e (ap (λ (r : Task). r.awaiter) (live_same t e) ∙ a)
        by false e = by_nobody (lost t g o l lv e a)

    roots-was : {g t : ℕ} → Roots u g t → Roots s g t
    roots-was (root g t w e a) = root g t w (sym (ap as_awaited (object-same g)) ∙ e) a
    roots-was (above g t p x w e a r) = above g t p x w (sym (ap as_awaited (object-same g)) ∙ e) a (roots-was r)

    pub removed_sourced : Sourced G s → Sourced H u
    removed_sourced j =
        record {
          sources = λ g o w l e op.
              still g o (j.sources g o w (subst (λ (y : Header). g < y.made) head-same l) (sym (ap as_awaited (object-same g)) ∙ e)
              (record { at = op.at; under = op.under; is_open = op.is_open; names = sym (ap (λ (p : Place). p.item.0) (place_same (w.first + op.at))) ∙ op.names }));
          rising = λ v g x t l lv a r.
              let e : task u v ≡ task s v = live_same v lv in
              j.rising v g x t (subst (λ (y : Header). v < y.next) head-same l) (sym (ap (λ (y : Task). is_live y.state) e) ∙ lv) (sym (ap (λ (y : Task). y.awaiter) e) ∙ a) (roots-was r);
        }
