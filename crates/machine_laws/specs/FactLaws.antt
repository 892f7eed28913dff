-- Soundness as a test and as facts: each gives the other.
use Rattle.std.specs.Prelude.{◌≡◌, Bool, not, ◌&&◌, eqb, ltb, leb, length}
use Rattle.std.proofs.Math.Path.{refl, ap}
use Rattle.std.proofs.Common.{sym, subst, ◌∙◌, true≢false, arith, ltb→lt, lt→ltb, le→leb}
use Rattle.std.proofs.Math.Bool.{true, false}
use Rattle.std.proofs.Math.Option.{Option, none, some}
use Prim.Native.Nat.{ℕ, zero, suc, ◌+◌, ◌-◌, ◌≤◌, ◌<◌}
use Rattle.std.proofs.Math.Nat.{not-suc-le-zero}
use Rattle.std.proofs.Math.Decide.{ℕ_discrete, dec_lt}
use Rattle.std.proofs.Math.Dec.{T, eqb→eq, leb→le, eqb_refl, T_not, not_T}
use borrow.Author.Tests.{eqb-true, eq-eqb}
use Rattle.asyncio.specs.declared.Task.{Task}
use Rattle.asyncio.specs.declared.Awaiter.{Awaiter}
use Rattle.asyncio.specs.declared.Object.{Object}
use Rattle.asyncio.specs.declared.Place.{Place}
use Rattle.asyncio.specs.declared.Header.{Header}
use Rattle.asyncio.specs.Numbers.{heap_id, task_id}
use Rattle.asyncio.specs.States.{pick, is_nobody, is_live, is_unstarted}
use Rattle.asyncio.specs.Kinds.{kind, is_committed}
use Rattle.asyncio.specs.Parts.{awaiter_of}
use Rattle.asyncio.specs.Ranges.{HeaderFits}
use Rattle.machine.specs.Tests.{◌and◌, all_below, sum_below}
use Rattle.machine.specs.Store.{View}
use Rattle.machine.specs.Scheduler.{AwaitedGather, PendingExternal, as_awaited, as_pending, blocked_on, bit, is_task_of}
use Rattle.machine.specs.Commit.{open_from}
use Rattle.machine.specs.Sound.{places_below, counts_in_range, awaiter_in_range, object_in_range, is_slot, task_in_range, numbers_in_range}
use Rattle.machine.specs.Sound.{committed_places, spawned_in_range, items_lower, object_values, state_values, lists_completed}
use Rattle.machine.specs.Sound.{queue_ready, is_ended, same_call, call_new, calls_distinct, is_task_of_at, sole_task, one_task}
use Rattle.machine.specs.Sound.{is_task, blocked_awaits, blocked_at, awaiter_blocked, blocked_match, places_filled}
use Rattle.machine.specs.Sound.{source_open, slot_open, slots_open, runner_in_range, one_runs, sound_view}
use Rattle.machine_laws.specs.TestLaws.{and-true, both, both_left, both_right, implies_use, implies_give, or_use, or_give, same_use, same_give, below, from-below}
use Rattle.machine_laws.specs.Facts.{Open, Slotted, AwaitedBy, SoundBut, Nothing, SoundFacts}

-- ---- an open place that names o

module _ (ps : ℕ → Place) (w : AwaitedGather) (o : ℕ) where
  abbrev here : ℕ → Bool
  here i = bit w.open_places i && eqb (ps (w.first + i)).item.0 o

  pub open_found : (k i : ℕ) → i + k ≤ w.count → T (open_from ps w o i k) → Open ps w o
  unfolding open_from
  open_found zero i l t = absurd t
  open_found (suc k) i l t = by (here i) refl t (λ u. open_found k (i + 1) (omega arith) u)
    where
      by : (b : Bool) → here i ≡ b → T (pick b true (open_from ps w o (i + 1) k)) → (T (open_from ps w o (i + 1) k) → Open ps w o) → Open ps w o
      by true e t f =
          let h = and-true (bit w.open_places i) (eqb (ps (w.first + i)).item.0 o) e in
          record { at = i; under = omega arith; is_open = h.0; names = eqb-true (ps (w.first + i)).item.0 o h.1 }
      by false e t f = f t

  pub open_test : (k i : ℕ) (h : Open ps w o) → i ≤ h.at → h.at < i + k → T (open_from ps w o i k)
  unfolding open_from
  open_test zero i h l m = absurd (not-suc-le-zero {n = 0} (omega arith))
  open_test (suc k) i h l m = by (here i) refl (ℕ_discrete h.at i) (λ n. open_test k (i + 1) h (omega arith) (omega arith))
    where
      at_here : h.at ≡ i → here i ≡ true
      at_here q = rw (← q, h.is_open, eq-eqb (ps (w.first + h.at)).item.0 o h.names)

      by : (b : Bool) → here i ≡ b → Dec (h.at ≡ i) → (i + 1 ≤ h.at → T (open_from ps w o (i + 1) k)) → T (pick b true (open_from ps w o (i + 1) k))
      by true e d f = tt
      by false e (yes q) f = absurd (true≢false (sym (at_here q) ∙ e))
      by false e (no ne) f = f (omega arith)

-- ---- clause 10, of one holder

slotted_of : (h : Header) (os : ℕ → Object) (ps : ℕ → Place) (o : ℕ) (a : Awaiter) (g x : ℕ) → T (awaiter_in_range h a) → T (slot_open os ps o a)
    → a ≡ Awaiter.GatherSlot (heap_id g) (heap_id x) → Slotted h.made os ps o g x
unfolding slot_open awaiter_in_range source_open
slotted_of h os ps o a g x k t e =
    let k1 : T (awaiter_in_range h (Awaiter.GatherSlot (heap_id g) (heap_id x))) = subst (λ (b : Awaiter). T (awaiter_in_range h b)) e k in
    let t1 : T (slot_open os ps o (Awaiter.GatherSlot (heap_id g) (heap_id x))) = subst (λ (b : Awaiter). T (slot_open os ps o b)) e t in
    let t2 = both_right (eqb x o) (is_committed (kind (os g)) and source_open ps (as_awaited (os g)) o) t1 in
    record {
      own = eqb→eq x o (both_left (eqb x o) _ t1);
      made = ltb→lt g h.made k1;
      committed = both_left _ _ t2;
      opens = λ w q. open_found ps w o w.count 0 (omega arith)
          (subst (λ (y : Option AwaitedGather). T (source_open ps y o)) q (both_right (is_committed (kind (os g))) _ t2));
    }

slot_test : (n : ℕ) (os : ℕ → Object) (ps : ℕ → Place) (o : ℕ) (a : Awaiter)
    → ((g x : ℕ) → a ≡ Awaiter.GatherSlot (heap_id g) (heap_id x) → Slotted n os ps o g x) → T (slot_open os ps o a)
unfolding slot_open source_open
slot_test n os ps o Awaiter.Nobody f = tt
slot_test n os ps o (Awaiter.Task t) f = tt
slot_test n os ps o (Awaiter.GatherSlot g x) f =
    let sl : Slotted n os ps o g.0 x.0 = f g.0 x.0 refl in
    both _ _ (subst (λ (m : ℕ). T (eqb x.0 m)) sl.own (eqb_refl x.0)) (both _ _ sl.committed (by (as_awaited (os g.0)) sl.opens))
  where
    by : (w : Option AwaitedGather) → ((u : AwaitedGather) → w ≡ some u → Open ps u o) → T (source_open ps w o)
    by none k = tt
    by (some w) k = let h : Open ps w o = k w refl in open_test ps w o w.count 0 h (omega arith) (omega (arith, h.under))

task_awaiter : (h : Header) (os : ℕ → Object) (t : ℕ) (y : Task) → T (is_live y.state) → T (task_in_range h os t y) → T (awaiter_in_range h y.awaiter)
unfolding task_in_range
task_awaiter h os zero y l k = by y.awaiter (both_left _ _ (both_right (not (is_unstarted y.state)) _ k))
  where
    by : (a : Awaiter) → T (is_nobody a) → T (awaiter_in_range h a)
    by Awaiter.Nobody z = unfold awaiter_in_range in tt
    by (Awaiter.Task u) z = absurd z
    by (Awaiter.GatherSlot g x) z = absurd z
task_awaiter h os (suc t) y l k = both_left _ _ (both_right (is_slot y.awaiter) _ (implies_use (is_live y.state) _ l k))

-- ---- clause 8, of one task and of one object

awaited_by_of : (n : ℕ) (os : ℕ → Object) (t o : ℕ) (b : Option ℕ) → T (blocked_awaits n os t b) → b ≡ some o → AwaitedBy n os t o
unfolding blocked_awaits
awaited_by_of n os t o b h e =
    let h1 : T (blocked_awaits n os t (some o)) = subst (λ (c : Option ℕ). T (blocked_awaits n os t c)) e h in
    record { made = ltb→lt o n (both_left _ _ h1); awaiter = by (awaiter_of (os o)) (both_right (ltb o n) _ h1) }
  where
    by : (a : Awaiter) → T (is_task t a) → a ≡ Awaiter.Task (task_id t)
    by Awaiter.Nobody z = absurd (unfold is_task in z)
    by (Awaiter.Task u) z = ap (λ (m : ℕ). Awaiter.Task (task_id m)) (eqb→eq u.0 t (unfold is_task in z))
    by (Awaiter.GatherSlot g x) z = absurd (unfold is_task in z)

awaits_test : (n : ℕ) (os : ℕ → Object) (t : ℕ) (b : Option ℕ) → ((o : ℕ) → b ≡ some o → AwaitedBy n os t o) → T (blocked_awaits n os t b)
unfolding blocked_awaits is_task
awaits_test n os t none f = tt
awaits_test n os t (some o) f =
    let h : AwaitedBy n os t o = f o refl in
    both _ _ (lt→ltb o n h.made) (subst (λ (a : Awaiter). T (is_task t a)) (sym h.awaiter) (eqb_refl t))

blocked_of : (ts : ℕ → Task) (o t : ℕ) (a : Awaiter) → T (awaiter_blocked ts o a) → a ≡ Awaiter.Task (task_id t) → T (is_live (ts t).state)
    → blocked_on (ts t).state ≡ some o
unfolding awaiter_blocked
blocked_of ts o t a h e l =
    by (blocked_on (ts t).state) (implies_use (is_live (ts t).state) _ l (subst (λ (b : Awaiter). T (awaiter_blocked ts o b)) e h))
  where
    by : (b : Option ℕ) → T (blocked_at b o) → b ≡ some o
    by none z = absurd (unfold blocked_at in z)
    by (some p) z = ap some (eqb→eq p o (unfold blocked_at in z))

blocked_test : (ts : ℕ → Task) (o : ℕ) (a : Awaiter)
    → ((t : ℕ) → a ≡ Awaiter.Task (task_id t) → T (is_live (ts t).state) → blocked_on (ts t).state ≡ some o) → T (awaiter_blocked ts o a)
unfolding awaiter_blocked blocked_at
blocked_test ts o Awaiter.Nobody f = tt
blocked_test ts o (Awaiter.Task t) f =
    implies_give (is_live (ts t.0).state) _ (λ l. subst (λ (b : Option ℕ). T (blocked_at b o)) (sym (f t.0 refl l)) (eqb_refl o))
blocked_test ts o (Awaiter.GatherSlot g x) f = tt

-- ---- clause 6: pending externals of one call

same_call-is : (p q : Option PendingExternal) (a b : PendingExternal) → p ≡ some a → q ≡ some b → a.call.0 ≡ b.call.0 → T (same_call p q)
unfolding same_call
same_call-is p q a b e f c = rw (e, f) (subst (λ (m : ℕ). T (eqb a.call.0 m)) c (eqb_refl a.call.0))

is-same_call : (p q : Option PendingExternal) → T (same_call p q)
    → (a : PendingExternal) × (b : PendingExternal) × (p ≡ some a) × (q ≡ some b) × (a.call.0 ≡ b.call.0)
unfolding same_call
is-same_call none q t = absurd t
is-same_call (some a) none t = absurd t
is-same_call (some a) (some b) t = (a, b, refl, refl, eqb→eq a.call.0 b.call.0 t)

-- two numbers below n with a relation that no number has to a lower one are the same
distinct_of : (n : ℕ) (p : ℕ → ℕ → Bool) → ((a b : ℕ) → a < n → b < a → T (p a b) → ⊥) → (a b : ℕ) → a < n → b < n → T (p a b) → T (p b a) → a ≡ b
distinct_of n p h a b l m x y = by (dec_lt a b) (dec_lt b a)
  where
    by : Dec (a < b) → Dec (b < a) → a ≡ b
    by (yes z) d = absurd (h b a m z y)
    by (no z) (yes d) = absurd (h a b l d x)
    by (no z) (no d) = omega arith

module _ (os : ℕ → Object) (n : ℕ) where
  calls-of : T (all_below n (call_new os)) → (o p : ℕ) → o < n → p < n → (a b : PendingExternal)
      → as_pending (os o) ≡ some a → as_pending (os p) ≡ some b → a.call.0 ≡ b.call.0 → o ≡ p
  unfolding call_new
  calls-of t o p l m a b e f c =
      distinct_of n (λ o p. same_call (as_pending (os o)) (as_pending (os p)))
      (λ x y l m. T_not (same_call (as_pending (os x)) (as_pending (os y))) (below x _ (below n (call_new os) t x l) y m))
      o p l m (same_call-is _ _ a b e f c) (same_call-is _ _ b a f e (sym c))

  calls_test : ((o p : ℕ) → o < n → p < n → (a b : PendingExternal)
      → as_pending (os o) ≡ some a → as_pending (os p) ≡ some b → a.call.0 ≡ b.call.0 → o ≡ p) → T (all_below n (call_new os))
  unfolding call_new
  calls_test h =
      from-below n (call_new os) (λ o l. from-below o _ (λ p m. not_T (same_call (as_pending (os o)) (as_pending (os p)))
      (λ t.
      let i = is-same_call (as_pending (os o)) (as_pending (os p)) t in
      let e : o ≡ p = h o p l (omega arith) i.0 i.1 i.2 i.3 i.4 in
      not-suc-le-zero {n = 0} (omega arith))))

-- ---- clause 7: the task of a coroutine

is_task_of_it : (c : ℕ) (r : Task) → T (is_task_of c r) → r.coroutine.0 ≡ c
unfolding is_task_of
is_task_of_it c r t = by (is_live r.state) t
  where
    by : (b : Bool) → T (pick b (eqb r.coroutine.0 c) false) → r.coroutine.0 ≡ c
    by true t = eqb→eq r.coroutine.0 c t
    by false t = absurd t

module _ (ts : ℕ → Task) (n : ℕ) where
  driven : (c t : ℕ) → T (is_task_of_at ts c t) → (ts t).coroutine.0 ≡ c
  unfolding is_task_of_at
  driven c t d = is_task_of_it c (ts t) (both_right (not (eqb t 0)) _ d)

  task-of-of : T (all_below n (sole_task ts)) → (c t u : ℕ) → t < n → u < n → T (is_task_of_at ts c t) → T (is_task_of_at ts c u) → t ≡ u
  unfolding sole_task
  task-of-of h c t u l m d e =
      distinct_of n (λ x y. is_task_of_at ts c x and is_task_of_at ts c y)
      (λ x y l m z.
      let q : (ts x).coroutine.0 ≡ c = driven c x (both_left _ _ z) in
      T_not (is_task_of_at ts c y) (below x _ (implies_use (is_task_of_at ts c x) _ (both_left _ _ z) (rw q at (below n (sole_task ts) h x l))) y m) (both_right (is_task_of_at ts c x) _ z))
      t u l m (both _ _ d e) (both _ _ e d)

  task-of-test : ((c t u : ℕ) → t < n → u < n → T (is_task_of_at ts c t) → T (is_task_of_at ts c u) → t ≡ u) → T (all_below n (sole_task ts))
  unfolding sole_task
  task-of-test h =
      from-below n (sole_task ts) (λ t l. implies_give (is_task_of_at ts (ts t).coroutine.0 t) _
      (λ d. from-below t _ (λ u m. not_T (is_task_of_at ts (ts t).coroutine.0 u)
      (λ e. let q : t ≡ u = h (ts t).coroutine.0 t u l (omega arith) d e in not-suc-le-zero {n = 0} (omega arith)))))

-- ---- all of it

module _ (v : View) where
  abbrev made : ℕ
  made = v.header.made

  abbrev next : ℕ
  next = v.header.next

  -- the test gives the facts; the header of a store is always in range
  pub to_facts : HeaderFits v.header → T (sound_view v) → SoundFacts v
  unfolding sound_view numbers_in_range counts_in_range spawned_in_range items_lower lists_completed queue_ready calls_distinct one_task blocked_match places_filled slots_open one_runs
  to_facts f h =
      let h2 = both_right (numbers_in_range v.header v.objects v.tasks) _ h in
      let h3 = both_right (spawned_in_range v.header v.objects) _ h2 in
      let h4 = both_right (items_lower made v.objects v.places) _ h3 in
      let h5 = both_right (lists_completed v.header v.objects v.tasks v.places) _ h4 in
      let h6 = both_right (queue_ready next v.tasks v.queue) _ h5 in
      let h7 = both_right (calls_distinct v.header v.objects) _ h6 in
      let h8 = both_right (one_task next v.tasks) _ h7 in
      let h9 = both_right (blocked_match v.header v.objects v.tasks) _ h8 in
      let h10 = both_right (places_filled made v.objects v.places) _ h9 in
      let h11 = both_right (slots_open v.header v.objects v.tasks v.places) _ h10 in
      let range = both_left _ _ h in
      let range2 = both_right (counts_in_range v.header v.objects) _ range in
      let range3 = both_right (all_below made (λ o. object_in_range v.header (places_below v.objects o) (v.objects o))) _ range2 in
      let counts = both_left _ _ range in
      let tasks = below next _ (both_right (all_below made (λ o. awaiter_in_range v.header (awaiter_of (v.objects o)))) _ range3) in
      let awaiters = below made _ (both_left _ _ range3) in
      let lists = both_left _ _ h4 in
      let lists2 = both_right (all_below made (λ o. object_values made v.objects (v.objects o))) _ lists in
      let match = both_left _ _ h8 in
      let slots = both_left _ _ h10 in
      record {
        but =
            record {
              fits = f;
              main = leb→le 1 next (both_left _ _ counts);
              all_used = eqb→eq v.header.used (places_below v.objects made) (both_right (leb 1 next) _ counts);
              objects = below made _ (both_left _ _ range2);
              awaiters = awaiters;
              tasks = tasks;
              spawned = omega (arith, leb→le (next - 1) (sum_below made (λ o. committed_places (v.objects o))) (both_left _ _ h2));
              items = below made _ (both_left _ _ h3);
              object_lists = below made _ (both_left _ _ lists);
              task_lists = below next _ (both_left _ _ lists2);
              place_lists = below v.header.used _ (both_right (all_below next (λ t. state_values made v.objects (v.tasks t).state)) _ lists2);
              entries = below (length v.queue) _ (both_left _ _ h5);
              calls = λ on. calls-of v.objects made (or_use (is_ended v.header.moment) _ on (both_left _ _ h6));
              task_of = task-of-of v.tasks next (both_left _ _ h7);
              awaits = λ t l d o e. awaited_by_of made v.objects t o _ (below next _ (both_left _ _ match) t l) e;
              awaited = λ o l d t e a. blocked_of v.tasks o t _
                  (below made _ (both_right (all_below next (λ t. blocked_awaits made v.objects t (blocked_on (v.tasks t).state))) _ match) o l) e a;
              filled = λ g l d. below made _ (both_left _ _ h9) g l;
              object_slots = λ o l d g x e. slotted_of v.header v.objects v.places o _ g x (awaiters o l) (below made _ (both_left _ _ slots) o l) e;
              task_slots = λ t l a g x e. slotted_of v.header v.objects v.places (v.tasks t).coroutine.0 _ g x
                  (task_awaiter v.header v.objects t (v.tasks t) a (tasks t l))
                  (implies_use (is_live (v.tasks t).state) _ a (below next _ (both_right (all_below made (λ o. slot_open v.objects v.places o (awaiter_of (v.objects o)))) _ slots) t l)) e;
            };
        runner = both_left _ _ h11;
        runs = λ t l. same_use _ _ (below next _ (both_right (runner_in_range next v.header.moment) _ h11) t l);
      }

  -- the facts give the test
  pub to_test : SoundFacts v → T (sound_view v)
  unfolding sound_view numbers_in_range counts_in_range spawned_in_range items_lower lists_completed queue_ready calls_distinct one_task blocked_match places_filled slots_open one_runs
  to_test s =
      let h : SoundBut 0 Nothing Nothing v = s.but in
      both _ _ (both _ _ (both _ _ (le→leb 1 next h.main) (subst (λ (m : ℕ). T (eqb v.header.used m)) h.all_used (eqb_refl v.header.used)))
      (both _ _ (from-below made _ h.objects) (both _ _ (from-below made _ h.awaiters) (from-below next _ h.tasks))))
      (both _ _ (le→leb (next - 1) (sum_below made (λ o. committed_places (v.objects o))) (omega (arith, h.spawned)))
      (both _ _ (from-below made _ h.items)
      (both _ _ (both _ _ (from-below made _ h.object_lists) (both _ _ (from-below next _ h.task_lists) (from-below v.header.used _ h.place_lists)))
      (both _ _ (from-below (length v.queue) _ h.entries)
      (both _ _ (or_give (is_ended v.header.moment) _ (λ on. calls_test v.objects made (h.calls on)))
      (both _ _ (task-of-test v.tasks next h.task_of)
      (both _ _ (both _ _ (from-below next _ (λ t l. awaits_test made v.objects t _ (λ o e. h.awaits t l (λ z. z) o e)))
      (from-below made _ (λ o l. blocked_test v.tasks o _ (λ t e a. h.awaited o l (λ z. z) t e a))))
      (both _ _ (from-below made _ (λ g l. h.filled g l (λ z. z)))
      (both _ _ (both _ _ (from-below made _ (λ o l. slot_test made v.objects v.places o _ (λ g x e. h.object_slots o l (λ z. z) g x e)))
      (from-below next _ (λ t l. implies_give (is_live (v.tasks t).state) _ (λ a. slot_test made v.objects v.places _ _ (λ g x e. h.task_slots t l a g x e)))))
      (both _ _ s.runner (from-below next _ (λ t l. same_give _ _ (s.runs t l)))))))))))))
