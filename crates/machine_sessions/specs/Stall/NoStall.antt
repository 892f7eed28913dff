-- Why a session without a cancel never stalls: from main down, through what is awaited, there is a pending call. What sessions have besides soundness
-- stands in `Driven`; that every event keeps it is to be proved.
use Rattle.std.specs.Prelude.{◌≡◌, refl, Bool, false, T, length}
use Rattle.std.proofs.Common.{sym, subst, ◌∙◌, true≢false, arith}
use Rattle.std.proofs.Math.Path.{ap}
use Rattle.std.proofs.Math.Bool.{true}
use mathlib.Core.List.{List, [], ◌∷◌}
use Rattle.std.proofs.Math.Option.{Option, none, some, some-injective}
use Prim.Native.Nat.{ℕ, zero, suc, ◌+◌, ◌≤◌, ◌<◌}
use Rattle.std.proofs.Math.Nat.{not-suc-le-zero}
use Rattle.std.proofs.Math.Decide.{ℕ_discrete}
use Rattle.asyncio.specs.declared.Awaiter.{Awaiter}
use Rattle.asyncio.specs.declared.TaskState.{TaskState}
use Rattle.asyncio.specs.declared.CoroutineState.{CoroutineState}
use Rattle.asyncio.specs.declared.ExternalFutureState.{ExternalFutureState}
use Rattle.asyncio.specs.declared.GatherState.{GatherState}
use Rattle.asyncio.specs.declared.Object.{Object}
use Rattle.asyncio.specs.declared.Moment.{Moment}
use Rattle.asyncio.specs.declared.Header.{Header}
use Rattle.asyncio.specs.declared.Task.{Task}
use Rattle.asyncio.specs.declared.Place.{Place}
use Rattle.asyncio.specs.Limits.{object_limit, task_limit}
use Rattle.asyncio.specs.Numbers.{heap_id, task_id}
use Rattle.asyncio.specs.States.{is_live, is_ready, is_running, is_blocked}
use Rattle.asyncio.specs.Parts.{awaiter_of}
use Rattle.queue.specs.Queue.{entries, occurrences}
use Rattle.machine.specs.Store.{Store, view, task, object, place, header}
use Rattle.machine.specs.Scheduler.{AwaitedGather, PendingExternal, as_awaited, as_pending, blocked_on}
use Rattle.machine.specs.Sound.{runs_now}
use Rattle.machine_laws.specs.Facts.{Open, AwaitedBy, SoundBut, SoundFacts, Nothing}
use Rattle.machine_laws.specs.StoreLaws.{header-fits}
use Rattle.machine_laws.specs.DeliveryLaws.{absurd_some}
use Rattle.machine_theorems.specs.Bounds.Bits.{SetBelow, has_set}
use Rattle.machine_theorems.specs.Soundness.RowFacts.{sound-some_open, sound_no_other}
use Rattle.machine_theorems.specs.Soundness.Deliver.{open_lower}
use Rattle.machine_theorems.specs.Soundness.Stores.{SoundStore}
use Rattle.machine_laws.specs.DeliveryLaws.{pending-object}

-- What will deliver to the open places of gather g that name o: a pending external or an awaited gather with that slot, a live task with that slot; or
-- nobody, where o is one of G, the coroutines whose task was cancelled.
pub data Source (G : ℕ → Type 0) (s : Store) (g o : ℕ) : Type 0 where
  by_external : (p : PendingExternal) → as_pending (object s o) ≡ some p → p.awaiter ≡ Awaiter.GatherSlot (heap_id g) (heap_id o) → Source G s g o
  by_gather : (w : AwaitedGather) → as_awaited (object s o) ≡ some w → w.awaiter ≡ Awaiter.GatherSlot (heap_id g) (heap_id o) → Source G s g o
  by_task : (t : ℕ) → t < (header s).next → is_live (task s t).state ≡ true → (task s t).awaiter ≡ Awaiter.GatherSlot (heap_id g) (heap_id o) → Source G s g o
  by_nobody : G o → Source G s g o

-- task t is at the top of the gathers above g
pub data Roots (s : Store) : ℕ → ℕ → Type 0 where
  root : (g t : ℕ) (w : AwaitedGather) → as_awaited (object s g) ≡ some w → w.awaiter ≡ Awaiter.Task (task_id t) → Roots s g t
  above : (g t p x : ℕ) (w : AwaitedGather) → as_awaited (object s g) ≡ some w → w.awaiter ≡ Awaiter.GatherSlot (heap_id p) (heap_id x) → Roots s p t → Roots s g t

-- What a session has until it ends, if no cancel was accepted.
pub record Driven (s : Store) : Type 0 where
  -- main lives
  pub main : is_live (task s 0).state ≡ true
  -- a ready task stands in the queue
  pub queued : (t : ℕ) → t < (header s).next → is_ready (task s t).state ≡ true → 1 ≤ occurrences (entries s.queue) t
  -- an open place names a source that will deliver there
  pub sources : (g o : ℕ) (w : AwaitedGather) → g < (header s).made → as_awaited (object s g) ≡ some w → Open (place s) w o → Source Nothing s g o
  -- a task is above the task that waits for its gather
  pub rising : (u g x t : ℕ) → u < (header s).next → is_live (task s u).state ≡ true → (task s u).awaiter ≡ Awaiter.GatherSlot (heap_id g) (heap_id x) → Roots s g t → t < u

-- its two halves: what the queue and main say, and what the open places say
pub record Sourced (G : ℕ → Type 0) (s : Store) : Type 0 where
  pub sources : (g o : ℕ) (w : AwaitedGather) → g < (header s).made → as_awaited (object s g) ≡ some w → Open (place s) w o → Source G s g o
  pub rising : (u g x t : ℕ) → u < (header s).next → is_live (task s u).state ≡ true → (task s u).awaiter ≡ Awaiter.GatherSlot (heap_id g) (heap_id x) → Roots s g t → t < u

-- G may grow
pub sourced_more : {G H : ℕ → Type 0} (s : Store) → ((o : ℕ) → G o → H o) → Sourced G s → Sourced H s
sourced_more {G} {H} s f k = record { sources = λ g o w l e op. more g o (k.sources g o w l e op); rising = k.rising }
  where
    more : (g o : ℕ) → Source G s g o → Source H s g o
    more g o (by_external p e a) = by_external p e a
    more g o (by_gather w e a) = by_gather w e a
    more g o (by_nobody j) = by_nobody (f o j)
    more g o (by_task t l lv a) = by_task t l lv a

-- tasks, objects, places and counts as they were
module _ (G : ℕ → Type 0) (s u : Store) (objects : (o : ℕ) → object u o ≡ object s o) (tasks : (t : ℕ) → task u t ≡ task s t) (places : (p : ℕ) → place u p ≡ place s p) (head : header u ≡ header s) where
  source-like : (g o : ℕ) → Source G s g o → Source G u g o
  source-like g o (by_external p e a) = by_external p (ap as_pending (objects o) ∙ e) a
  source-like g o (by_gather w e a) = by_gather w (ap as_awaited (objects o) ∙ e) a
  source-like g o (by_nobody j) = by_nobody j
  source-like g o (by_task t l lv a) =
      by_task t (subst (λ (h : Header). t < h.next) (sym head) l) (ap (λ (r : Task). is_live r.state) (tasks t) ∙ lv) (ap (λ (r : Task). r.awaiter) (tasks t) ∙ a)

  roots-back : {g t : ℕ} → Roots u g t → Roots s g t
  roots-back (root g t w e a) = root g t w (sym (ap as_awaited (objects g)) ∙ e) a
  roots-back (above g t p x w e a r) = above g t p x w (sym (ap as_awaited (objects g)) ∙ e) a (roots-back r)

  pub sourced_like : Sourced G s → Sourced G u
  sourced_like k =
      record {
        sources = λ g o w l e op.
            source-like g o (k.sources g o w (subst (λ (h : Header). g < h.made) head l) (sym (ap as_awaited (objects g)) ∙ e)
            (record { at = op.at; under = op.under; is_open = op.is_open; names = sym (ap (λ (p : Place). p.item.0) (places (w.first + op.at))) ∙ op.names }));
        rising = λ v g x t l lv a r.
            k.rising v g x t (subst (λ (h : Header). v < h.next) head l) (sym (ap (λ (y : Task). is_live y.state) (tasks v)) ∙ lv) (sym (ap (λ (y : Task). y.awaiter) (tasks v)) ∙ a) (roots-back r);
      }

-- a pending call
pub record Call (s : Store) : Type 0 where
  pub object_is : ℕ
  pub made : object_is < (header s).made
  pub external : PendingExternal
  pub pending : as_pending (object s object_is) ≡ some external

-- what a live task that is neither ready nor running waits for
waits_on : (x : TaskState) → is_live x ≡ true → is_ready x ≡ false → is_running x ≡ false → (o : ℕ) × (blocked_on x ≡ some o)
unfolding blocked_on
waits_on TaskState.Absent l r n = absurd (true≢false (sym l))
waits_on TaskState.Unstarted l r n = absurd (true≢false r)
waits_on TaskState.Running l r n = absurd (true≢false n)
waits_on (TaskState.Woken v) l r n = absurd (true≢false r)
waits_on (TaskState.Raised e) l r n = absurd (true≢false r)
waits_on (TaskState.Blocked o) l r n = (o.0, refl)

-- an object with an awaiter is a pending external or an awaited gather
data Held (x : Object) (a : Awaiter) : Type 0 where
  held_external : (p : PendingExternal) → as_pending x ≡ some p → Held x a
  held_gather : (w : AwaitedGather) → as_awaited x ≡ some w → w.awaiter ≡ a → Held x a

not-task : {A : Type 0} (t : ℕ) → Awaiter.Nobody ≡ Awaiter.Task (task_id t) → A
not-task t e = let z : ◌≡◌ {A = ℕ} 0 1 = cc in absurd (omega arith)

held : (x : Object) (t : ℕ) → awaiter_of x ≡ Awaiter.Task (task_id t) → Held x (Awaiter.Task (task_id t))
unfolding awaiter_of as_pending as_awaited
held Object.Unmade t e = not-task t e
held (Object.Coroutine f x) t e = not-task t e
held (Object.ExternalFuture c (ExternalFutureState.Pending a r)) t e = held_external (record { call = c; awaiter = a; stored = r }) refl
held (Object.ExternalFuture c (ExternalFutureState.Resolved v)) t e = not-task t e
held (Object.ExternalFuture c (ExternalFutureState.Failed x)) t e = not-task t e
held (Object.GatherFuture f n GatherState.Pending) t e = not-task t e
held (Object.GatherFuture f n (GatherState.Awaited a m)) t e = held_gather (record { first = f; count = n; awaiter = a; open_places = m }) refl e
held (Object.GatherFuture f n GatherState.Completed) t e = not-task t e
held (Object.GatherFuture f n (GatherState.Failed x)) t e = not-task t e

is_false : (b : Bool) → (b ≡ true → ⊥) → b ≡ false
is_false true h = absurd (h refl)
is_false false h = refl

module _ (s : Store) (h : SoundStore s) (d : Driven s) (waiting : (header s).moment ≡ Moment.Waiting) (empty : entries s.queue ≡ []) where
  b : SoundBut 0 Nothing Nothing (view s)
  b = h.facts.but

  -- every live task is blocked
  none-ready : (t : ℕ) → t < (header s).next → is_ready (task s t).state ≡ false
  unfolding occurrences
  none-ready t l =
      is_false (is_ready (task s t).state) (λ r. not-suc-le-zero {n = 0} (subst (λ (q : List ℕ). 1 ≤ occurrences q t) empty (d.queued t l r)))

  none_runs : (t : ℕ) → t < (header s).next → is_running (task s t).state ≡ false
  unfolding view runs_now
  none_runs t l = h.facts.runs t l ∙ ap (λ (m : Moment). runs_now m t) waiting

  -- a gather has an open place
  opens : (g : ℕ) (w : AwaitedGather) → g < (header s).made → as_awaited (object s g) ≡ some w → (o : ℕ) × Open (place s) w o
  opens g w l e =
      let k : SetBelow w.count w.open_places = has_set w.count w.open_places (sound_no_other s g w b l e) (sound-some_open s g w b l e) in
      ((place s (w.first + k.at)).item.0, record { at = k.at; under = k.under; is_open = k.is_set; names = refl })

  -- down the gathers: `more` goes on from a task above t
  from-gather : (n t g : ℕ) (w : AwaitedGather) → ((u : ℕ) → t < u → u < (header s).next → is_live (task s u).state ≡ true → Call s) → g < n → g < (header s).made
      → as_awaited (object s g) ≡ some w → Roots s g t → Call s
  unfolding view
  from-gather zero t g w more l m e r = absurd (not-suc-le-zero {n = 0} (omega (arith, l)))
  from-gather (suc n) t g w more l m e r = by (opens g w m e) (λ o v. from-gather n t o v more)
    where
      by : (o : ℕ) × Open (place s) w o → ((o : ℕ) (v : AwaitedGather) → o < n → o < (header s).made → as_awaited (object s o) ≡ some v → Roots s o t → Call s) → Call s
      by x down = on (d.sources g x.0 w m e x.1)
        where
          low : x.0 < g
          low = open_lower g w x.0 b m e x.1

          on : Source Nothing s g x.0 → Call s
          on (by_external p q a) = record { object_is = x.0; made = omega (arith, low, m); external = p; pending = q }
          on (by_gather v q a) = down x.0 v (omega (arith, low, l)) (omega (arith, low, m)) q (above x.0 t g x.0 v q a r)
          on (by_nobody j) = absurd j
          on (by_task u lu live a) = more u (d.rising u g x.0 t lu live a r) lu live

  -- from a live task down
  from-task : (k t : ℕ) → task_limit ≤ t + k → t < (header s).next → is_live (task s t).state ≡ true → Call s
  unfolding view
  from-task zero t q l live = absurd (not-suc-le-zero {n = 0} (omega (arith, q, l, (header-fits s).next_fits)))
  from-task (suc k) t q l live = by (waits_on (task s t).state live (none-ready t l) (none_runs t l)) (λ u m lu lv. from-task k u (omega (arith, q, m)) lu lv)
    where
      by : (o : ℕ) × (blocked_on (task s t).state ≡ some o) → ((u : ℕ) → t < u → u < (header s).next → is_live (task s u).state ≡ true → Call s) → Call s
      by x more = on (held (object s x.0) t a.awaiter)
        where
          a : AwaitedBy (header s).made (object s) t x.0
          a = b.awaits t l (λ z. z) x.0 x.1

          on : Held (object s x.0) (Awaiter.Task (task_id t)) → Call s
          on (held_external p e) = record { object_is = x.0; made = a.made; external = p; pending = e }
          on (held_gather w e c) = from-gather (suc x.0) t x.0 w more (omega arith) a.made e (root x.0 t w e c)

  -- There is a pending call.
  pub some-call : Call s
  unfolding view
  some-call = from-task task_limit 0 (omega arith) b.main d.main
