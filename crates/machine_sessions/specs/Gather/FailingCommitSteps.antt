-- The writes of a commit, one by one. What is carried: rows move as in a commit, tasks that are spawned have new coroutines, and no item that a gather on the
-- stack has gone past has raised.
use Rattle.std.specs.Prelude.{◌≡◌, Bool, ◌||◌, ◌⊎◌, ℕ, zero, suc, ◌+◌, ◌-◌, ◌^◌, ◌≤◌, ◌<◌, eqb, ltb}
use Rattle.std.proofs.Math.Path.{refl, sym, ap, subst}
use Rattle.std.proofs.Common.{◌∙◌, true≢false, inl, inr, not-suc-le-zero, arith, eq-eqb, ne_eqb}
use Rattle.std.proofs.Math.Bool.{true, false}
use mathlib.Core.List.{List, [], ◌∷◌}
use Rattle.std.proofs.Math.Option.{Option, none, some, some-injective}
use Rattle.std.proofs.Math.Decide.{ℕ_discrete}
use Rattle.asyncio.specs.declared.Value.{Value}
use Rattle.asyncio.specs.declared.Error.{Error}
use Rattle.std.specs.Prelude.{Some}
use Rattle.asyncio.specs.declared.Awaiter.{Awaiter}
use Rattle.asyncio.specs.declared.TaskState.{TaskState}
use Rattle.asyncio.specs.declared.Task.{Task}
use Rattle.asyncio.specs.declared.CoroutineState.{CoroutineState}
use Rattle.asyncio.specs.declared.ExternalFutureState.{ExternalFutureState}
use Rattle.asyncio.specs.declared.GatherState.{GatherState}
use Rattle.asyncio.specs.declared.Object.{Object}
use Rattle.asyncio.specs.declared.Place.{Place}
use Rattle.asyncio.specs.declared.Header.{Header}
use Rattle.asyncio.specs.Limits.{object_limit, task_limit, place_limit}
use Rattle.asyncio.specs.Numbers.{heap_id}
use Rattle.asyncio.specs.Ranges.{ObjectFits, ValueFits, TaskFits, HeaderFits}
use Rattle.asyncio.specs.Parts.{first_of, count_of}
use Rattle.asyncio.specs.States.{pick}
use Rattle.machine.specs.Store.{Store, LogEntry, task, object, place, header, put_task, put_object, put_place, put_queue, put_header, add_log, set_next, spawned}
use Rattle.machine.specs.Scheduler.{AwaitedGather, PendingExternal, as_awaited, as_pending, bit, push_ready, spawn_as}
use Rattle.machine.specs.Commit.{Frame, open_place, fill_place}
use Rattle.machine.specs.History.{spawned_by}
use Rattle.machine.specs.Honest.{exits_in}
use Rattle.machine_laws.specs.Views.{Sized}
use Rattle.machine_laws.specs.StoreLaws.{header-fits, header_put-header, header_put-object, object_put-object, object_put-other, object_put-header, place_put-place, place_put-other, place-fits, task_put-task, sized-put_task}
use Rattle.machine_laws.specs.DeliveryLaws.{absurd_some, awaited-object}
use Rattle.machine_theorems.specs.Bounds.Bits.{bit-set-other}
use Rattle.machine_theorems.specs.Soundness.Fill.{awaits_on}
use Rattle.machine_theorems.specs.Soundness.CommitSteps.{wider, wider-opens, wider_keeps}
use Rattle.machine_theorems.specs.Soundness.CommitInv.{OnStack, OnTop}
use Rattle.machine_sessions.specs.Queue.Tracked.{spawn-row, spawn-next}
use Rattle.machine_sessions.specs.Gather.Failing.{CommitMoves, GatherCommits, commit_same, commit_places, commit_coroutine}
use Rattle.machine_sessions.specs.Gather.FailingRows.{ItemAt}
use Rattle.machine_sessions.specs.Gather.FailingStated.{Passed, Settled, item_at, ItemSlot, Took, Opens}

-- a gather that was pending and is awaited may come to any state that is not failed
pub opened_moves : (x y : Object) (f n : ℕ) (w : AwaitedGather) (z : GatherState) → x ≡ Object.GatherFuture f n GatherState.Pending → as_awaited y ≡ some w → CommitMoves x y → GatherCommits GatherState.Pending z
    → CommitMoves x (Object.GatherFuture w.first w.count z)
opened_moves x y f n w z e d k g =
    let p : CommitMoves (Object.GatherFuture f n GatherState.Pending) (Object.GatherFuture w.first w.count (GatherState.Awaited w.awaiter w.open_places)) =
    subst (λ (a : Object). CommitMoves a (Object.GatherFuture w.first w.count (GatherState.Awaited w.awaiter w.open_places))) e (subst (CommitMoves x) (awaited-object y w d) k) in
    subst (λ (a : Object). CommitMoves a (Object.GatherFuture w.first w.count z)) (sym e) (p.0, p.1, g)

-- an awaited gather is no coroutine
pub not-coroutine : (x : Object) (w : AwaitedGather) (f : ℕ) (y : CoroutineState) → as_awaited x ≡ some w → x ≡ Object.Coroutine f y → ⊥
unfolding as_awaited
not-coroutine x w f y e q = absurd_some (sym (ap as_awaited q) ∙ e)

module _ (s : Store) where
  -- what every store in the midst of a commit has
  pub record Committing (u : Store) : Type 0 where
    pub moves : (o : ℕ) → CommitMoves (object s o) (object u o)
    pub items : (p : ℕ) → (place u p).item.0 ≡ (place s p).item.0
    pub made : (header u).made ≡ (header s).made
    pub grows : (header s).next ≤ (header u).next
    pub tasks : (t : ℕ) → t < (header s).next → task u t ≡ task s t
    pub fresh : (t : ℕ) → (header s).next ≤ t → t < (header u).next → (f : ℕ) × (object u (task u t).coroutine.0 ≡ Object.Coroutine f CoroutineState.New)
    pub exits : (t : ℕ) → exits_in u.log t ≡ exits_in s.log t
    pub spawned : (t : ℕ) (b : Option ℕ) → t < (header s).next → spawned_by b u.log t ≡ spawned_by b s.log t
    pub for_it : (t : ℕ) (b : Option ℕ) → (header s).next ≤ t → t < (header u).next → spawned_by b u.log t ≡ some (task u t).coroutine.0
    pub slot : (t : ℕ) → (header s).next ≤ t → t < (header u).next → ItemSlot s (task u t).coroutine.0 (task u t).awaiter

  pub committing_begins : Committing s
  committing_begins =
      record {
        moves = λ o. commit_same (object s o);
        items = λ p. refl;
        made = refl;
        grows = omega arith;
        tasks = λ t l. refl;
        fresh = λ t a b. absurd (not-suc-le-zero {n = 0} (omega arith));
        exits = λ t. refl;
        spawned = λ t b l. refl;
        for_it = λ t b a l. absurd (not-suc-le-zero {n = 0} (omega arith));
        slot = λ t a l. absurd (not-suc-le-zero {n = 0} (omega arith));
      }

  -- an object's row, of no new coroutine
  pub committing_row : (u : Store) (o : ℕ) (y : Object) → Sized u → o < object_limit → ObjectFits y → CommitMoves (object s o) y → ((f : ℕ) → object u o ≡ Object.Coroutine f CoroutineState.New → ⊥) → Committing u
      → Committing (put_object u o y)
  committing_row u o y z l fits c ne k =
      record {
        moves = λ p. by p (ℕ_discrete p o);
        items = λ p. unfold place put_object in (unfold place in (k.items p));
        made = ap (λ (h : Header). h.made) (header_put-object u o y) ∙ k.made;
        grows = subst (λ (h : Header). (header s).next ≤ h.next) (sym (header_put-object u o y)) k.grows;
        tasks = λ t b. unfold task put_object in (unfold task in (k.tasks t b));
        fresh = λ t a b. new t a (subst (λ (h : Header). t < h.next) (header_put-object u o y) b);
        exits = λ t. unfold put_object in (k.exits t);
        spawned = λ t b i. unfold put_object in (k.spawned t b i);
        for_it = λ t b a l. unfold task put_object in (unfold task in (k.for_it t b a (subst (λ (h : Header). t < h.next) (header_put-object u o y) l)));
        slot = λ t a l. unfold task put_object in (unfold task in (k.slot t a (subst (λ (h : Header). t < h.next) (header_put-object u o y) l)));
      }
    where
      by : (p : ℕ) → Dec (p ≡ o) → CommitMoves (object s p) (object (put_object u o y) p)
      by p (yes d) = subst (λ (j : ℕ). CommitMoves (object s j) (object (put_object u o y) j)) (sym d) (subst (CommitMoves (object s o)) (sym (object_put-object u o y z l fits)) c)
      by p (no d) = subst (CommitMoves (object s p)) (sym (object_put-other u o p y d)) (k.moves p)

      new : (t : ℕ) → (header s).next ≤ t → t < (header u).next → (f : ℕ) × (object (put_object u o y) (task (put_object u o y) t).coroutine.0 ≡ Object.Coroutine f CoroutineState.New)
      new t a b =
          let r = k.fresh t a b in
          (r.0, same ∙ (object_put-other u o (task u t).coroutine.0 y (λ d. ne r.0 (subst (λ (j : ℕ). object u j ≡ Object.Coroutine r.0 CoroutineState.New) d r.1)) ∙ r.1))
        where
          same : object (put_object u o y) (task (put_object u o y) t).coroutine.0 ≡ object (put_object u o y) (task u t).coroutine.0
          same = unfold task put_object in refl

  -- a place is filled
  pub committing_fill : (u : Store) (w : AwaitedGather) (i : ℕ) (v : Value) → Sized u → w.first + i < place_limit → ValueFits v → Committing u → Committing (fill_place u w i v)
  unfolding fill_place
  committing_fill u w i v z l fits k =
      record {
        moves = λ o. unfold object put_place in (unfold object in (k.moves o));
        items = λ p. by p (ℕ_discrete p (w.first + i)) ∙ k.items p;
        made = unfold header put_place in (unfold header in k.made);
        grows = unfold header put_place in (unfold header in k.grows);
        tasks = λ t b. unfold task put_place in (unfold task in (k.tasks t b));
        fresh = λ t a b. unfold task object header put_place in (unfold task object header in (k.fresh t a b));
        exits = λ t. unfold put_place in (k.exits t);
        spawned = λ t b j. unfold put_place in (k.spawned t b j);
        for_it = λ t b a l. unfold task header put_place in (unfold task header in (k.for_it t b a l));
        slot = λ t a l. unfold task header put_place in (unfold task header in (k.slot t a l));
      }
    where
      row : Place
      row = record { item = (place u (w.first + i)).item; result = Some v }

      by : (p : ℕ) → Dec (p ≡ w.first + i) → (place (put_place u (w.first + i) row) p).item.0 ≡ (place u p).item.0
      by p (yes d) =
          subst (λ (j : ℕ). (place (put_place u (w.first + i) row) j).item.0 ≡ (place u j).item.0) (sym d)
          (ap (λ (y : Place). y.item.0) (place_put-place u (w.first + i) row z l (record { item_fits = (place-fits u (w.first + i)).item_fits; result_fits = fits })))
      by p (no ne) = ap (λ (y : Place). y.item.0) (place_put-other u (w.first + i) p row ne)

  -- a task is spawned for a new coroutine
  pub spawn-rows : (u : Store) (t c g o : ℕ) → object (spawn_as u t c g) o ≡ object u o
  unfolding spawn_as push_ready add_log put_queue object
  spawn-rows u t c g o = unfold object in (moved_row (put_task u t _) (t + 1)) ∙ (unfold object put_task in refl)
    where
      moved_row : (v : Store) (n : ℕ) → object (set_next v n) o ≡ object v o
      moved_row v n = unfold set_next in (object_put-header v _ o)

  next-made : (u : Store) (n : ℕ) → Sized u → n ≤ task_limit → (header (set_next u n)).made ≡ (header u).made
  unfolding set_next
  next-made u n z k =
      let f : HeaderFits (header u) = header-fits u in
      ap (λ (h : Header). h.made) (header_put-header u _ z (record { made_fits = f.made_fits; used_fits = f.used_fits; calls_fit = f.calls_fit; next_fits = k; moment_fits = f.moment_fits }))

  spawn-made : (u : Store) (t c g : ℕ) → Sized u → t + 1 ≤ task_limit → (header (spawn_as u t c g)).made ≡ (header u).made
  spawn-made u t c g z b = unfold spawn_as push_ready header add_log put_queue in (unfold header in (next-made (put_task u t _) (t + 1) (sized-put_task u t _ z) b ∙ same_head u t _))
    where
      same_head : (u : Store) (t : ℕ) (r : Task) → (header (put_task u t r)).made ≡ (header u).made
      same_head u t r = unfold header put_task in refl

  pub committing_spawn : (u : Store) (c g f : ℕ) → Sized u → (header u).next < task_limit → c < object_limit → g < object_limit → object u c ≡ Object.Coroutine f CoroutineState.New → ItemAt s g c → Committing u
      → Committing (spawn_as u (header u).next c g)
  committing_spawn u c g f z room lc lg e it k =
      record {
        moves = λ o. subst (CommitMoves (object s o)) (sym (rows o)) (k.moves o);
        items = λ p. same_item p ∙ k.items p;
        made = same-made ∙ k.made;
        grows = omega (arith, next, k.grows);
        tasks = λ t l. spawn-row u n c g t (λ d. not-suc-le-zero {n = 0} (omega (arith, d, l, k.grows))) ∙ k.tasks t l;
        fresh = λ t a b. new t a b (ℕ_discrete t n);
        exits = λ t. same-exits t ∙ k.exits t;
        spawned = λ t b l. logs t b l ∙ k.spawned t b l;
        for_it = λ t b a l. mine t b a l (ℕ_discrete t n);
        slot = λ t a l. item t a l (ℕ_discrete t n);
      }
    where
      n : ℕ
      n = (header u).next

      v : Store
      v = spawn_as u n c g

      next : (header v).next ≡ n + 1
      next = spawn-next u n c g z room

      same-made : (header v).made ≡ (header u).made
      same-made = spawn-made u n c g z (omega (arith, room))

      rows : (o : ℕ) → object v o ≡ object u o
      rows o = spawn-rows u n c g o

      same_item : (p : ℕ) → (place v p).item.0 ≡ (place u p).item.0
      same_item p = unfold place spawn_as push_ready add_log put_queue set_next put_header put_task in refl

      same-exits : (t : ℕ) → exits_in v.log t ≡ exits_in u.log t
      same-exits t = unfold exits_in spawn_as push_ready add_log put_queue set_next put_header put_task in refl

      r : Task
      r = record { state = TaskState.Unstarted; awaiter = Awaiter.GatherSlot (heap_id g) (heap_id c); coroutine = heap_id c }

      here : task v n ≡ r
      here = same ∙ task_put-task u n r z room (record { state_fits = tt; awaiter_fits = (lg, lc); coroutine_fits = lc })
        where
          same : task v n ≡ task (put_task u n r) n
          same = unfold spawn_as push_ready add_log put_queue set_next put_header task in refl

      new : (t : ℕ) → (header s).next ≤ t → t < (header v).next → Dec (t ≡ n) → (f : ℕ) × (object v (task v t).coroutine.0 ≡ Object.Coroutine f CoroutineState.New)
      new t a b (yes d) = (f, ap (λ (j : ℕ). object v (task v j).coroutine.0) d ∙ (ap (λ (y : Task). object v y.coroutine.0) here ∙ (rows c ∙ e)))
      new t a b (no ne) =
          let y = k.fresh t a (omega (arith, b, next, ne)) in
          (y.0, ap (λ (j : Task). object v j.coroutine.0) (spawn-row u n c g t ne) ∙ (rows (task u t).coroutine.0 ∙ y.1))

      first : (t : ℕ) (b : Option ℕ) → spawned_by b v.log t ≡ elim (eqb n t) [ true ↦ some c | false ↦ spawned_by b u.log t ]
      first t b = unfold spawned_by spawn_as push_ready add_log put_queue set_next put_header put_task in refl

      mine : (t : ℕ) (b : Option ℕ) → (header s).next ≤ t → t < (header v).next → Dec (t ≡ n) → spawned_by b v.log t ≡ some (task v t).coroutine.0
      mine t b a l (yes d) =
          first t b ∙ (ap (λ (x : Bool). elim x [ true ↦ some c | false ↦ spawned_by b u.log t ]) (eq-eqb n t (sym d))
          ∙ ap (λ (j : ℕ). some j) (sym (ap (λ (j : ℕ). (task v j).coroutine.0) d ∙ ap (λ (y : Task). y.coroutine.0) here)))
      mine t b a l (no ne) =
          first t b ∙ (ap (λ (x : Bool). elim x [ true ↦ some c | false ↦ spawned_by b u.log t ]) (ne_eqb n t (λ d. ne (sym d)))
          ∙ (k.for_it t b a (omega (arith, l, next, ne)) ∙ ap (λ (y : Task). some y.coroutine.0) (sym (spawn-row u n c g t ne))))

      item : (t : ℕ) → (header s).next ≤ t → t < (header v).next → Dec (t ≡ n) → ItemSlot s (task v t).coroutine.0 (task v t).awaiter
      item t a l (yes d) =
          subst (λ (j : ℕ). ItemSlot s (task v j).coroutine.0 (task v j).awaiter) (sym d) (subst (λ (y : Task). ItemSlot s y.coroutine.0 y.awaiter) (sym here) it)
      item t a l (no ne) = subst (λ (y : Task). ItemSlot s y.coroutine.0 y.awaiter) (sym (spawn-row u n c g t ne)) (k.slot t a (omega (arith, l, next, ne)))

      logs : (t : ℕ) (b : Option ℕ) → t < (header s).next → spawned_by b v.log t ≡ spawned_by b u.log t
      logs t b l = first t b ∙ ap (λ (x : Bool). elim x [ true ↦ some c | false ↦ spawned_by b u.log t ]) (ne_eqb n t (λ d. not-suc-le-zero {n = 0} (omega (arith, d, l, k.grows))))

  -- ---- the awaiters of pending externals

  abbrev pub Taking : Store → Type 0
  Taking u = (o : ℕ) (r : PendingExternal) → as_pending (object u o) ≡ some r → Took s o r.awaiter

  pub taking_begins : Taking s
  taking_begins o r e = inl (r, e, refl)

  -- rows as they were
  pub taking_same : (u v : Store) → ((p : ℕ) → object v p ≡ object u p) → Taking u → Taking v
  taking_same u v same k o r e = k o r (sym (ap as_pending (same o)) ∙ e)

  -- a row is written
  pub taking_row : (u : Store) (o : ℕ) (y : Object) → Sized u → o < object_limit → ObjectFits y → ((r : PendingExternal) → as_pending y ≡ some r → Took s o r.awaiter) → Taking u → Taking (put_object u o y)
  taking_row u o y z l fits t k p r e = by (ℕ_discrete p o)
    where
      by : Dec (p ≡ o) → Took s p r.awaiter
      by (yes d) =
          subst (λ (j : ℕ). Took s j r.awaiter) (sym d)
          (t r (sym (ap as_pending (object_put-object u o y z l fits)) ∙ subst (λ (j : ℕ). as_pending (object (put_object u o y) j) ≡ some r) d e))
      by (no n) = k p r (sym (ap as_pending (object_put-other u o p y n)) ∙ e)

  -- that of a gather
  pub taking_gather : (u : Store) (o f n : ℕ) (y : GatherState) → Sized u → o < object_limit → ObjectFits (Object.GatherFuture f n y) → Taking u → Taking (put_object u o (Object.GatherFuture f n y))
  unfolding as_pending
  taking_gather u o f n y z l fits k = taking_row u o (Object.GatherFuture f n y) z l fits (λ r e. absurd_some e) k

  -- ---- the awaiters of awaited gathers that are not on the stack Q

  abbrev pub Opening : (ℕ → Type 0) → Store → Type 0
  Opening Q u = (o : ℕ) (v : AwaitedGather) → (Q o → ⊥) → as_awaited (object u o) ≡ some v → Opens s o v.awaiter

  pub opening_begins : (Q : ℕ → Type 0) → Opening Q s
  opening_begins Q o v n e = inl (v, e, refl)

  -- rows as they were
  pub opening_same : (Q : ℕ → Type 0) (u v : Store) → ((p : ℕ) → object v p ≡ object u p) → Opening Q u → Opening Q v
  opening_same Q u v same k o w n e = k o w n (sym (ap as_awaited (same o)) ∙ e)

  -- a row is written; the stack may be another
  pub opening_row : (Q R : ℕ → Type 0) (u : Store) (o : ℕ) (y : Object) → Sized u → o < object_limit → ObjectFits y
      → ((v : AwaitedGather) → (R o → ⊥) → as_awaited y ≡ some v → Opens s o v.awaiter) → ((p : ℕ) → (p ≡ o → ⊥) → (R p → ⊥) → Q p → ⊥) → Opening Q u → Opening R (put_object u o y)
  opening_row Q R u o y z l fits t off k p v n e = by (ℕ_discrete p o)
    where
      by : Dec (p ≡ o) → Opens s p v.awaiter
      by (yes d) =
          subst (λ (j : ℕ). Opens s j v.awaiter) (sym d)
          (t v (subst (λ (j : ℕ). R j → ⊥) d n) (sym (ap as_awaited (object_put-object u o y z l fits)) ∙ subst (λ (j : ℕ). as_awaited (object (put_object u o y) j) ≡ some v) d e))
      by (no d) = k p v (off p d n) (sym (ap as_awaited (object_put-other u o p y d)) ∙ e)

  -- ---- what a gather on the stack has gone past; Q is the stack

  -- the object has not raised, and is not on the stack
  pub record Calm (Q : ℕ → Type 0) (u : Store) (o : ℕ) : Type 0 where
    pub passed : Passed (object u o)
    pub off : Q o → ⊥

  -- a bit of gather g is of a place below i, and each of these is open, or its item has given a value
  abbrev pub Marks : Store → ℕ → ℕ → Type 0
  Marks u g i =
      (w : AwaitedGather) → as_awaited (object u g) ≡ some w
      → ((j : ℕ) → bit w.open_places j ≡ true → j < i) × ((j : ℕ) → j < i → (bit w.open_places j ≡ true) ⊎ Settled (object u (item_at s g j)))

  -- gather g, its places below i being done
  pub record Level (Q : ℕ → Type 0) (u : Store) (g i : ℕ) : Type 0 where
    pub first : ℕ
    pub count : ℕ
    pub was : object s g ≡ Object.GatherFuture first count GatherState.Pending
    pub left : (j : ℕ) → j < i → Calm Q u (item_at s g j)
    pub marks : Marks u g i

  -- and those of the frames
  unfoldable pub Levels : (ℕ → Type 0) → Store → List Frame → Type 0
  Levels Q u [] = Unit {0}
  Levels Q u (f ∷ fs) = Level Q u f.gather f.next × Levels Q u fs

  -- what is passed stays so, and what has given a value
  abbrev pub Keeps : Object → Object → Type 0
  Keeps x y = Passed y × (Settled x → Settled y)

  abbrev pub Onward : (ℕ → Type 0) → Store → Store → Type 0
  Onward Q u v = (o : ℕ) → (Q o → ⊥) → Passed (object u o) → Keeps (object u o) (object v o)

  pub keeps_same : (x y : Object) → y ≡ x → Passed x → Keeps x y
  keeps_same x y e p = (subst Passed (sym e) p, λ z. subst Settled (sym e) z)

  pub calm_onward : (Q R : ℕ → Type 0) (u v : Store) (o : ℕ) → Onward Q u v → ((p : ℕ) → Passed (object u p) → (Q p → ⊥) → R p → ⊥) → Calm Q u o → Calm R v o
  calm_onward Q R u v o on off k = record { passed = (on o k.off k.passed).0; off = off o k.passed k.off }

  marks-onward : (Q : ℕ → Type 0) (u v : Store) (g i : ℕ) → Onward Q u v → as_awaited (object v g) ≡ as_awaited (object u g) → Level Q u g i → Marks v g i
  marks-onward Q u v g i on same k w e = let m = k.marks w (sym same ∙ e) in (m.0, λ j l. stays j l (m.1 j l))
    where
      stays : (j : ℕ) → j < i → (bit w.open_places j ≡ true) ⊎ Settled (object u (item_at s g j)) → (bit w.open_places j ≡ true) ⊎ Settled (object v (item_at s g j))
      stays j l (inl b) = inl b
      stays j l (inr z) = inr ((on (item_at s g j) (k.left j l).off (k.left j l).passed).1 z)

  pub level_onward : (Q R : ℕ → Type 0) (u v : Store) (g i : ℕ) → Onward Q u v → ((p : ℕ) → Passed (object u p) → (Q p → ⊥) → R p → ⊥)
      → as_awaited (object v g) ≡ as_awaited (object u g) → Level Q u g i → Level R v g i
  level_onward Q R u v g i on off same k =
      record { first = k.first; count = k.count; was = k.was; left = λ j l. calm_onward Q R u v (item_at s g j) on off (k.left j l); marks = marks-onward Q u v g i on same k }

  pub levels_onward : (Q R : ℕ → Type 0) (u v : Store) (fs : List Frame) → Onward Q u v → ((p : ℕ) → Passed (object u p) → (Q p → ⊥) → R p → ⊥) → ((p : ℕ) → OnStack fs p → object v p ≡ object u p)
      → Levels Q u fs → Levels R v fs
  unfolding Levels
  levels_onward Q R u v [] on off same k = tt
  levels_onward Q R u v (f ∷ fs) on off same k = (
    level_onward Q R u v f.gather f.next on off (ap as_awaited (same f.gather (inl refl))) k.0,
    unfold Levels in (levels_onward Q R u v fs on off (λ p z. same p (inr z)) k.1),
  )

  left-more : (Q : ℕ → Type 0) (u : Store) (g i : ℕ) → Level Q u g i → Calm Q u (item_at s g i) → (j : ℕ) → j < i + 1 → Calm Q u (item_at s g j)
  left-more Q u g i k c j l = by (ℕ_discrete j i)
    where
      by : Dec (j ≡ i) → Calm Q u (item_at s g j)
      by (yes d) = subst (λ (n : ℕ). Calm Q u (item_at s g n)) (sym d) c
      by (no ne) = k.left j (omega (arith, l, ne))

  -- one place more is done, whose item has given a value
  pub level_more : (Q : ℕ → Type 0) (u : Store) (g i : ℕ) → Level Q u g i → Calm Q u (item_at s g i) → Settled (object u (item_at s g i)) → Level Q u g (i + 1)
  level_more Q u g i k c z =
      record {
        first = k.first;
        count = k.count;
        was = k.was;
        left = left-more Q u g i k c;
        marks = λ w e. let m = k.marks w e in (λ j b. omega (arith, m.0 j b), λ j l. by w m.1 j l (ℕ_discrete j i));
      }
    where
      by : (w : AwaitedGather) → ((j : ℕ) → j < i → (bit w.open_places j ≡ true) ⊎ Settled (object u (item_at s g j))) → (j : ℕ) → j < i + 1 → Dec (j ≡ i)
          → (bit w.open_places j ≡ true) ⊎ Settled (object u (item_at s g j))
      by w m j l (yes d) = inr (subst (λ (n : ℕ). Settled (object u (item_at s g n))) (sym d) z)
      by w m j l (no ne) = m j (omega (arith, l, ne))

  -- In the midst of a commit: gather g is on top, its places below i are done.
  pub record Going (u : Store) (g i : ℕ) (fs : List Frame) : Type 0 where
    pub commits : Committing u
    pub taking : Taking u
    pub opening : Opening (OnTop g fs) u
    pub top : Level (OnTop g fs) u g i
    pub below : Levels (OnTop g fs) u fs

  -- a row is written that is not one of the stack
  pub going_onward : (u v : Store) (g i : ℕ) (fs : List Frame) → Committing v → Taking v → Opening (OnTop g fs) v → Onward (OnTop g fs) u v → ((p : ℕ) → OnStack fs p → object v p ≡ object u p)
      → as_awaited (object v g) ≡ as_awaited (object u g) → Going u g i fs → Going v g i fs
  going_onward u v g i fs c t op on same top k =
      record {
        commits = c;
        taking = t;
        opening = op;
        top = level_onward (OnTop g fs) (OnTop g fs) u v g i on (λ p y n. n) top k.top;
        below = levels_onward (OnTop g fs) (OnTop g fs) u v fs on (λ p y n. n) same k.below;
      }

  -- rows as they were
  pub going_same : (u v : Store) (g i : ℕ) (fs : List Frame) → Committing v → ((p : ℕ) → object v p ≡ object u p) → Going u g i fs → Going v g i fs
  going_same u v g i fs c same k =
      going_onward u v g i fs c (taking_same u v same k.taking) (opening_same (OnTop g fs) u v same k.opening) (λ o n y. keeps_same (object u o) (object v o) (same o) y) (λ p z. same p) (ap as_awaited (same g)) k

  -- place i is done
  pub going_more : (u : Store) (g i : ℕ) (fs : List Frame) → Calm (OnTop g fs) u (item_at s g i) → Settled (object u (item_at s g i)) → Going u g i fs → Going u g (i + 1) fs
  going_more u g i fs c z k = record { commits = k.commits; taking = k.taking; opening = k.opening; top = level_more (OnTop g fs) u g i k.top c z; below = k.below }

  -- a bit of the wider word is one that was, or the new one
  wider-was : (w : AwaitedGather) (i j : ℕ) → bit (wider w i) j ≡ true → (j ≡ i → ⊥) → bit w.open_places j ≡ true
  unfolding wider
  wider-was w i j e ne = by (bit w.open_places i) refl e
    where
      by : (b : Bool) → bit w.open_places i ≡ b → bit (pick b w.open_places (w.open_places + 2 ^ i)) j ≡ true → bit w.open_places j ≡ true
      by true q e = e
      by false q e = sym (bit-set-other i w.open_places j q ne) ∙ e

  -- the gather on top opens place i, whose item is calm
  pub going_opens : (u : Store) (g i : ℕ) (fs : List Frame) (w : AwaitedGather) → Sized u → g < object_limit → ObjectFits (awaits_on w (wider w i)) → as_awaited (object u g) ≡ some w → ((p : ℕ) → OnStack fs p → p ≡ g → ⊥)
      → Calm (OnTop g fs) u (item_at s g i) → Going u g i fs → Going (open_place u g w i) g (i + 1) fs
  unfolding open_place wider
  going_opens u g i fs w z l fits e apart c k =
      record {
        commits = committing_row u g y z l fits (opened_moves (object s g) (object u g) k.top.first k.top.count w (GatherState.Awaited w.awaiter (wider w i)) k.top.was e (k.commits.moves g) tt)
            (λ f q. not-coroutine (object u g) w f CoroutineState.New e q) k.commits;
        taking = taking_gather u g w.first w.count (GatherState.Awaited w.awaiter (wider w i)) z l fits k.taking;
        opening = opening_row (OnTop g fs) (OnTop g fs) u g y z l fits (λ v n q. absurd (n (inl refl))) (λ p d n. n) k.opening;
        top = record {
          first = k.top.first;
          count = k.top.count;
          was = k.top.was;
          left = λ j b. calm_onward (OnTop g fs) (OnTop g fs) u v (item_at s g j) on (λ p a n. n) (left-more (OnTop g fs) u g i k.top c j b);
          marks = marked;
        };
        below = levels_onward (OnTop g fs) (OnTop g fs) u v fs on (λ p a n. n) (λ p a. object_put-other u g p y (λ d. apart p a d)) k.below;
      }
    where
      y : Object
      y = awaits_on w (wider w i)

      v : Store
      v = put_object u g y

      on : Onward (OnTop g fs) u v
      on o n p = keeps_same (object u o) (object v o) (object_put-other u g o y (λ d. n (inl d))) p

      marked : Marks v g (i + 1)
      marked x q = (λ j b. bits j b (ℕ_discrete j i), λ j b. done j b (ℕ_discrete j i))
        where
          same : record { first = w.first; count = w.count; awaiter = w.awaiter; open_places = wider w i } ≡ x
          same = some-injective (record { first = w.first; count = w.count; awaiter = w.awaiter; open_places = wider w i }) x (sym (ap as_awaited (object_put-object u g y z l fits) ∙ (unfold as_awaited in refl)) ∙ q)

          bits : (j : ℕ) → bit x.open_places j ≡ true → Dec (j ≡ i) → j < i + 1
          bits j b (yes d) = omega (arith, d)
          bits j b (no ne) = omega (arith, (k.top.marks w e).0 j (wider-was w i j (ap (λ (a : AwaitedGather). bit a.open_places j) same ∙ b) ne))

          still : (j : ℕ) → j < i → (bit w.open_places j ≡ true) ⊎ Settled (object u (item_at s g j)) → (bit x.open_places j ≡ true) ⊎ Settled (object v (item_at s g j))
          still j b (inl a) = inl (ap (λ (r : AwaitedGather). bit r.open_places j) (sym same) ∙ wider_keeps w i j a)
          still j b (inr a) = inr ((on (item_at s g j) (k.top.left j b).off (k.top.left j b).passed).1 a)

          done : (j : ℕ) → j < i + 1 → Dec (j ≡ i) → (bit x.open_places j ≡ true) ⊎ Settled (object v (item_at s g j))
          done j b (yes d) = inl (subst (λ (n : ℕ). bit x.open_places n ≡ true) (sym d) (ap (λ (r : AwaitedGather). bit r.open_places i) (sym same) ∙ wider-opens w i))
          done j b (no ne) = let m : j < i = omega (arith, b, ne) in still j m ((k.top.marks w e).1 j m)

  -- it fills place i
  pub going_fills : (u : Store) (g i : ℕ) (fs : List Frame) (w : AwaitedGather) (x : Value) → Sized u → w.first + i < place_limit → ValueFits x → Calm (OnTop g fs) u (item_at s g i)
      → Settled (object u (item_at s g i)) → Going u g i fs → Going (fill_place u w i x) g (i + 1) fs
  going_fills u g i fs w x z l fits c a k =
      going_same u (fill_place u w i x) g (i + 1) fs (committing_fill u w i x z l fits k.commits) (λ p. unfold object fill_place put_place in refl) (going_more u g i fs c a k)

  -- a lower row that has given no value is written, which is passed then if it was
  pub going_lower : (u : Store) (g i : ℕ) (fs : List Frame) (o : ℕ) (y : Object) → Sized u → o < object_limit → ObjectFits y → CommitMoves (object s o) y → ((f : ℕ) → object u o ≡ Object.Coroutine f CoroutineState.New → ⊥)
      → (OnTop g fs o → ⊥) → Passed y → (Settled (object u o) → ⊥) → ((r : PendingExternal) → as_pending y ≡ some r → Took s o r.awaiter) → as_awaited y ≡ none → Going u g i fs → Going (put_object u o y) g i fs
  going_lower u g i fs o y z l fits c ne off p un t no-gather k =
      going_onward u (put_object u o y) g i fs (committing_row u o y z l fits c ne k.commits) (taking_row u o y z l fits t k.taking)
      (opening_row (OnTop g fs) (OnTop g fs) u o y z l fits (λ v n q. absurd_some (sym no-gather ∙ q)) (λ q d n. n) k.opening) (λ q n a. by q a (ℕ_discrete q o))
      (λ q a. object_put-other u o q y (λ d. off (inr (subst (OnStack fs) d a)))) (ap as_awaited (object_put-other u o g y (λ d. off (inl (sym d))))) k
    where
      by : (q : ℕ) → Passed (object u q) → Dec (q ≡ o) → Keeps (object u q) (object (put_object u o y) q)
      by q a (yes d) = subst (λ (j : ℕ). Keeps (object u j) (object (put_object u o y) j)) (sym d) (subst Passed (sym (object_put-object u o y z l fits)) p, λ b. absurd (un b))
      by q a (no n) = keeps_same (object u q) (object (put_object u o y) q) (object_put-other u o q y n) a
