-- The calls of pending externals: what each write of a delivery, a switch, a commit, a cancel or the end leaves of them, and the calls of a wait.
use Rattle.std.specs.Prelude.{◌≡◌, Bool, true, false, not, ◌&&◌, ◌||◌, ℕ, zero, suc, ◌+◌, ◌%◌, ◌≤◌, ◌<◌, eqb, leb, ltb, length}
use Rattle.std.proofs.Math.Path.{refl, ap}
use Rattle.std.proofs.Common.{sym, ap₂, subst, ◌∙◌, true≢false, mod-eq_of_lt, arith}
use mathlib.Core.List.{List, [], ◌∷◌}
use Rattle.std.proofs.Math.Option.{Option, none, some}
use Rattle.std.proofs.Math.Decide.{ℕ_discrete}
use Rattle.asyncio.specs.declared.CallId.{CallId}
use Rattle.asyncio.specs.declared.Value.{Value}
use Rattle.asyncio.specs.declared.Awaiter.{Awaiter}
use Rattle.asyncio.specs.declared.TaskState.{TaskState}
use Rattle.asyncio.specs.declared.Task.{Task}
use Rattle.asyncio.specs.declared.CoroutineState.{CoroutineState}
use Rattle.asyncio.specs.declared.ExternalFutureState.{ExternalFutureState}
use Rattle.asyncio.specs.declared.GatherState.{GatherState}
use Rattle.asyncio.specs.declared.Object.{Object}
use Rattle.asyncio.specs.declared.Header.{Header}
use Rattle.asyncio.specs.declared.Moment.{Moment}
use Rattle.asyncio.specs.Limits.{object_limit, task_limit, call_limit, objects_length}
use Rattle.asyncio.specs.Numbers.{heap_id}
use Rattle.asyncio.specs.Ranges.{ObjectFits, HeaderFits, MomentFits}
use Rattle.asyncio.specs.RangeLaws.{object_back}
use Rattle.asyncio.specs.Layout.{object_words, to_object}
use Rattle.asyncio.specs.States.{pick}
use Rattle.asyncio.specs.Kinds.{kind, is_pending_external}
use Rattle.asyncio.specs.Parts.{call_of}
use Rattle.rows.specs.Tables.{object_codec, object_start, object_at, object_put, header_at}
use Rattle.rows.specs.RowLaws.{row-put_at}
use Rattle.queue.specs.declared.ReadyQueue.{ReadyQueue}
use Rattle.machine.specs.Tests.{is_in}
use Rattle.machine.specs.Store.{Store, LogEntry, spawned, blocked, reached, exited, removed, task, object, place, header, put_task, put_header, put_object, put_place, put_places, put_queue, add_log, restate, set_state, set_moment, set_next, absent}
use Rattle.machine.specs.Scheduler.{make_ready, push_ready, remove_from_ready_queue, remove_task, spawn_as, insert, calls_below, pending_calls_in, pending_call_ids}
use Rattle.machine.specs.History.{is_at}
use Rattle.machine_laws.specs.Views.{Sized}
use Rattle.machine_laws.specs.StoreLaws.{object-fits, header-fits, header_put-header, header_put-object, object_put-other, object_put-header}
use Rattle.machine_laws.specs.StoreLaws.{sized-put_task, sized-put_object, sized-put_place, sized-put_header, sized-put_places, sized-put_queue, sized-add_log, sized-set_state, sized-set_moment, sized-set_next}
use Rattle.machine_laws.specs.Walk.{Turns, same, takes, starts, turns, Commits, Closed}

-- the call of a pending external
unfoldable pub pending_call : Object → Option ℕ
pending_call Object.Unmade = none
pending_call (Object.Coroutine f x) = none
pending_call (Object.ExternalFuture c (ExternalFutureState.Pending a r)) = some c.0
pending_call (Object.ExternalFuture c (ExternalFutureState.Resolved v)) = none
pending_call (Object.ExternalFuture c (ExternalFutureState.Failed e)) = none
pending_call (Object.GatherFuture f n x) = none

-- one of the objects below n has call c, by p
unfoldable pub called : (ℕ → Option ℕ) → ℕ → ℕ → Bool
called p zero c = false
called p (suc n) c = is_at (p n) c || called p n c

-- call c is pending
unfoldable pub pends : Store → ℕ → Bool
pends s c = called (λ o. pending_call (object s o)) (header s).made c

-- ---- the list of a wait

or_swap : (a b c : Bool) → (a || (b || c)) ≡ (b || (a || c))
or_swap true true c = refl
or_swap true false c = refl
or_swap false b c = refl

pub in_insert : (c d : ℕ) (l : List ℕ) → is_in c (insert d l) ≡ (eqb d c || is_in c l)
unfolding is_in insert
in_insert c d [] = refl
in_insert c d (e ∷ es) = by (leb d e) (in_insert c e es) (in_insert c d es)
  where
    by : (b : Bool) → is_in c (insert e es) ≡ (eqb e c || is_in c es) → is_in c (insert d es) ≡ (eqb d c || is_in c es)
        → is_in c (pick b (d ∷ insert e es) (e ∷ insert d es)) ≡ (eqb d c || (eqb e c || is_in c es))
    by true x y = ap (λ (z : Bool). eqb d c || z) x
    by false x y = ap (λ (z : Bool). eqb e c || z) y ∙ or_swap (eqb e c) (eqb d c) (is_in c es)

in_with : (c : ℕ) (x : Object) (l : List ℕ) → is_in c (pick (is_pending_external (kind x)) (insert (call_of x).0 l) l) ≡ (is_at (pending_call x) c || is_in c l)
unfolding kind call_of pending_call is_at
in_with c Object.Unmade l = refl
in_with c (Object.Coroutine f CoroutineState.New) l = refl
in_with c (Object.Coroutine f CoroutineState.Running) l = refl
in_with c (Object.Coroutine f CoroutineState.Completed) l = refl
in_with c (Object.ExternalFuture d (ExternalFutureState.Pending a r)) l = in_insert c d.0 l
in_with c (Object.ExternalFuture d (ExternalFutureState.Resolved v)) l = refl
in_with c (Object.ExternalFuture d (ExternalFutureState.Failed e)) l = refl
in_with c (Object.GatherFuture f n GatherState.Pending) l = refl
in_with c (Object.GatherFuture f n (GatherState.Awaited a m)) l = refl
in_with c (Object.GatherFuture f n GatherState.Completed) l = refl
in_with c (Object.GatherFuture f n (GatherState.Failed e)) l = refl

pub in_calls : (os : List ℕ) (c n : ℕ) → is_in c (calls_below os n) ≡ called (λ o. pending_call (object_at os o)) n c
unfolding calls_below called is_in
in_calls os c zero = refl
in_calls os c (suc n) = in_with c (object_at os n) (calls_below os n) ∙ ap (λ (z : Bool). is_at (pending_call (object_at os n)) c || z) (in_calls os c n)

-- The pending calls of a store are those that its rows have.
pub pending_calls_are : (s : Store) (c : ℕ) → is_in c (pending_call_ids s) ≡ pends s c
unfolding pending_call_ids pending_calls_in pends object header
pending_calls_are s c = in_calls s.objects c (header_at s.objects).made

-- ---- the rows

pub called_same : (p q : ℕ → Option ℕ) (n c : ℕ) → ((o : ℕ) → o < n → p o ≡ q o) → called p n c ≡ called q n c
unfolding called
called_same p q zero c h = refl
called_same p q (suc n) c h = ap₂ (λ (x : Option ℕ) (z : Bool). is_at x c || z) (h n (omega arith)) (called_same p q n c (λ o l. h o (omega arith)))

-- which object has which call
pub record Pended (p : ℕ → Option ℕ) (n : ℕ) (s : Store) : Type 0 where
  pub sized : Sized s
  pub made : (header s).made ≡ n
  pub rows : (o : ℕ) → pending_call (object s o) ≡ p o

-- as they are now
pub pended_now : (s : Store) → Sized s → Pended (λ o. pending_call (object s o)) (header s).made s
pended_now s z = record { sized = z; made = refl; rows = λ o. refl }

pub pended_pends : (s u : Store) (c : ℕ) → Pended (λ o. pending_call (object s o)) (header s).made u → pends u c ≡ pends s c
unfolding pends
pended_pends s u c k = ap (λ (n : ℕ). called (λ o. pending_call (object u o)) n c) k.made ∙ called_same _ _ (header s).made c (λ o l. k.rows o)

gather_none : (f n : ℕ) (y : GatherState) → pending_call (to_object (object_words (Object.GatherFuture f n y))) ≡ none
unfolding pending_call
gather_none f n GatherState.Pending = refl
gather_none f n (GatherState.Awaited a m) = refl
gather_none f n GatherState.Completed = refl
gather_none f n (GatherState.Failed e) = refl

-- a row as it is read back has the call that it had
turn_calls : (x y : Object) → Turns x y → ObjectFits x → pending_call (to_object (object_words y)) ≡ pending_call x
turn_calls x y (same z) f = ap pending_call (object_back z f)
turn_calls x y (takes c r a) f = unfold pending_call in (ap (λ (n : ℕ). some n) (mod-eq_of_lt f.0))
turn_calls x y (starts f) g = unfold pending_call in refl
turn_calls x y (turns f n a b) g = gather_none f n b ∙ (unfold pending_call in refl)

pub read_back : (s : Store) (o : ℕ) (x : Object) → Sized s → o < object_limit → object (put_object s o x) o ≡ to_object (object_words x)
unfolding object put_object object_at object_put
read_back s o x z l = let w : length s.objects ≡ objects_length = z.objects_sized in ap to_object (row-put_at object_codec s.objects (object_start o) x (omega arith))

made_moment : (s : Store) (m : Moment) → Sized s → MomentFits m → (header (set_moment s m)).made ≡ (header s).made
unfolding set_moment
made_moment s m z k =
    let f : HeaderFits (header s) = header-fits s in
    ap (λ (h : Header). h.made) (header_put-header s _ z (record { made_fits = f.made_fits; used_fits = f.used_fits; calls_fit = f.calls_fit; next_fits = f.next_fits; moment_fits = k }))

made-next : (s : Store) (n : ℕ) → Sized s → n ≤ task_limit → (header (set_next s n)).made ≡ (header s).made
unfolding set_next
made-next s n z k =
    let f : HeaderFits (header s) = header-fits s in
    ap (λ (h : Header). h.made) (header_put-header s _ z (record { made_fits = f.made_fits; used_fits = f.used_fits; calls_fit = f.calls_fit; next_fits = k; moment_fits = f.moment_fits }))

pub moment_row : (s : Store) (m : Moment) (o : ℕ) → object (set_moment s m) o ≡ object s o
unfolding set_moment
moment_row s m o = object_put-header s _ o

next_row : (s : Store) (n o : ℕ) → object (set_next s n) o ≡ object s o
unfolding set_next
next_row s n o = object_put-header s _ o

add_log-row : (s : Store) (q : ReadyQueue) (h : LogEntry) (o : ℕ) → object (add_log (put_queue s q) h) o ≡ object s o
unfolding add_log put_queue object
add_log-row s q h o = refl

add_log-head : (s : Store) (q : ReadyQueue) (h : LogEntry) → header (add_log (put_queue s q) h) ≡ header s
unfolding add_log put_queue header
add_log-head s q h = refl

task-row : (s : Store) (t : ℕ) (r : Task) (o : ℕ) → object (put_task s t r) o ≡ object s o
unfolding put_task object
task-row s t r o = refl

task-head : (s : Store) (t : ℕ) (r : Task) → header (put_task s t r) ≡ header s
unfolding put_task header
task-head s t r = refl

module _ (p : ℕ → Option ℕ) (n : ℕ) where
  -- the objects' words as they were
  words : (s u : Store) → Sized u → u.objects ≡ s.objects → Pended p n s → Pended p n u
  unfolding header object
  words s u z e k =
      record { sized = z; made = ap (λ (w : List ℕ). (header_at w).made) e ∙ k.made; rows = λ o. ap (λ (w : List ℕ). pending_call (object_at w o)) e ∙ k.rows o }

  -- a row is written that has the call as it is read back
  pub row_pended : (s : Store) (o : ℕ) (x : Object) → o < object_limit → pending_call (to_object (object_words x)) ≡ p o → Pended p n s → Pended p n (put_object s o x)
  row_pended s o x l e k =
      record {
        sized = sized-put_object s o x k.sized;
        made = ap (λ (h : Header). h.made) (header_put-object s o x) ∙ k.made;
        rows = λ q. by q (ℕ_discrete q o);
      }
    where
      by : (q : ℕ) → Dec (q ≡ o) → pending_call (object (put_object s o x) q) ≡ p q
      by q (yes d) = subst (λ (m : ℕ). pending_call (object (put_object s o x) m) ≡ p m) (sym d) (ap pending_call (read_back s o x k.sized l) ∙ e)
      by q (no ne) = ap pending_call (object_put-other s o q x ne) ∙ k.rows q

  turned : (s : Store) (o : ℕ) (x : Object) → o < object_limit → Turns (object s o) x → Pended p n s → Pended p n (put_object s o x)
  turned s o x l t k = row_pended s o x l (turn_calls (object s o) x t (object-fits s o) ∙ k.rows o) k

  spawns-pended : (s : Store) (c g : ℕ) → (header s).next < task_limit → Pended p n s → Pended p n (spawn_as s (header s).next c g)
  unfolding spawn_as push_ready
  spawns-pended s c g l k =
      record {
        sized = sized-add_log _ (spawned (header s).next c) (sized-put_queue _ _ (sized-set_next _ ((header s).next + 1) (sized-put_task s (header s).next _ k.sized)));
        made = ap (λ (h : Header). h.made) (add_log-head _ _ (spawned (header s).next c))
            ∙ (made-next _ ((header s).next + 1) (sized-put_task s (header s).next _ k.sized) (omega arith) ∙ (ap (λ (h : Header). h.made) (task-head s (header s).next _) ∙ k.made));
        rows = λ o. ap pending_call (add_log-row _ _ (spawned (header s).next c) o ∙ (next_row _ ((header s).next + 1) o ∙ task-row s (header s).next _ o)) ∙ k.rows o;
      }

  pub pended_commits : Commits (Pended p n)
  pended_commits =
      record {
        row = turned;
        value_put = λ s q v k. words s _ (sized-put_place s q _ k.sized) (unfold put_place in refl) k;
        spawns = spawns-pended;
      }

  moved-pended : (s : Store) (m : Moment) → MomentFits m → Pended p n s → Pended p n (set_moment s m)
  moved-pended s m f k =
      record { sized = sized-set_moment s m k.sized; made = made_moment s m k.sized f ∙ k.made; rows = λ o. ap pending_call (moment_row s m o) ∙ k.rows o }

  -- a task's row, the queue and the log
  pub tasks_pended : (s u : Store) → Sized u → u.objects ≡ s.objects → Pended p n s → Pended p n u
  tasks_pended = words

  pub pended_closed : Closed (Pended p n)
  pended_closed =
      record {
        sized = λ s k. k.sized;
        row = turned;
        values_put = λ s ps e k. words s _ (sized-put_places s ps e k.sized) (unfold put_places in refl) k;
        queued = λ s q k. words s _ (sized-put_queue s q k.sized) (unfold put_queue in refl) k;
        moved = moved-pended;
        wakes = λ s t x l e r k. words s (add_log (make_ready s t x) (reached t)) (woken-sized s t x k.sized) (unfold add_log make_ready push_ready put_queue set_state put_task in refl) k;
        runs_on = λ s t l r k. words s _ (sized-set_state s t TaskState.Running k.sized) (unfold set_state put_task in refl) k;
        exits = λ s t k. words s (add_log (remove_task s t) (exited t)) (gone_sized s t (exited t) k.sized) (unfold add_log remove_task remove_from_ready_queue put_queue put_task in refl) k;
        goes = λ s t k. words s (add_log (remove_task s t) (removed t)) (gone_sized s t (removed t) k.sized) (unfold add_log remove_task remove_from_ready_queue put_queue put_task in refl) k;
        ends = λ s t k. words s _ (sized-add_log _ (removed t) (sized-put_task s t absent k.sized)) (unfold add_log put_task in refl) k;
      }
    where
      woken-sized : (s : Store) (t : ℕ) (x : TaskState) → Sized s → Sized (add_log (make_ready s t x) (reached t))
      woken-sized s t x z = unfold make_ready push_ready in (sized-add_log _ (reached t) (sized-put_queue (set_state s t x) _ (sized-set_state s t x z)))

      gone_sized : (s : Store) (t : ℕ) (h : LogEntry) → Sized s → Sized (add_log (remove_task s t) h)
      gone_sized s t h z = unfold remove_task remove_from_ready_queue in (sized-add_log _ h (sized-put_queue (put_task s t absent) _ (sized-put_task s t absent z)))
