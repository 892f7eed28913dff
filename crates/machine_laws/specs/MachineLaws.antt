-- Laws of the machine: a refused event and a read leave the store as it was; a wait's calls are ascending, at most 256, and written at the
-- list's front.
use Rattle.std.specs.Prelude.{◌≡◌, Bool, ◌&&◌, List, [], ◌∷◌, ℕ, zero, suc, ◌≤◌, eqb, leb, take, drop}
use Rattle.std.proofs.Math.Path.{refl}
use Rattle.std.proofs.Common.{ap, arith, eqb-true, ne_eqb, leb-true, leb-false, length-append, length-drop}
use Rattle.std.proofs.Math.Bool.{true, false}
use Rattle.std.proofs.Math.Option.{Option, none, some}
use Rattle.std.proofs.Math.ListN.{length}
use Rattle.std.proofs.Math.Seq.{take-append_seam, drop-append_seam}
use Rattle.asyncio.specs.declared.CoroutineState.{CoroutineState}
use Rattle.asyncio.specs.declared.GatherState.{GatherState}
use Rattle.asyncio.specs.declared.TaskState.{TaskState}
use Rattle.asyncio.specs.declared.Value.{Value}
use Rattle.asyncio.specs.declared.Error.{Error}
use Rattle.asyncio.specs.declared.Object.{Object}
use Rattle.asyncio.specs.States.{pick}
use Rattle.asyncio.specs.Limits.{tasks_length, objects_length, places_length}
use Rattle.asyncio.specs.RangeLaws.{pick_has}
use Rattle.machine.specs.Store.{Store, task, object, header, forget}
use Rattle.asyncio.specs.Kinds.{kind, is_pending_external}
use Rattle.asyncio.specs.Parts.{call_of}
use Rattle.rows.specs.Tables.{object_at, header_at}
use Rattle.machine.specs.Scheduler.{insert, calls_below, pending_calls_in, pending_call_ids, remove_from_ready_queue, live_count}
use Rattle.machine.specs.Delivery.{Delivery}
use Rattle.machine.specs.Commit.{Poll, ready, raised, pending}
use Rattle.machine.specs.Events.{How, start, value, raises, Control, runs, waits, Switched, Awaited, run, yield, resume_next, resume_after_task_exit, handle_task_failure}
use Rattle.machine.specs.Events.{start_by, start_task, activate_state, activate_within, activate, stays, go_on}
use Rattle.machine.specs.Events.{await_coroutine, await_external_future, await_gather, await_object, exec_get_awaitable, handle_task_completion}
use Rattle.machine.specs.Machine.{Event, Answer, Step, switched, answer_await, end_main, task_completes, task_fails, repeat_wait, resume_with_resolved_futures}
use Rattle.machine.specs.Machine.{accept, refusal, decide, step}
use Rattle.machine.specs.Lent.{slices_right, lengths_right, write_calls, control_calls, answer_calls, written, lent_as, lent_by, lent_step}
use Rattle.machine_laws.specs.Views.{Sized}
use Rattle.queue.specs.Queue.{NoneBelow, Ascending}
use Rattle.machine_laws.specs.Statements.{SameWords, CallList}
use Rattle.machine_laws.specs.TestLaws.{and-true}
use Rattle.machine_laws.specs.StoreLaws.{header-fits}

-- ---- what leaves the store as it was

pub forget-same : (s : Store) → SameWords s (forget s)
unfolding forget
forget-same s = record { same_tasks = refl; same_objects = refl; same_places = refl; same_queue = refl }

-- Document 01's table: "all unchanged".
pub refused-step : (s : Store) (e : Event) (n : ℕ) → refusal s e ≡ n → (n ≡ 0 → ⊥) → step s e ≡ record { store = forget s; answer = Answer.refused n }
unfolding step decide
refused-step s e n h ne = rw (h, ne_eqb n 0 ne)

pub accepted-step : (s : Store) (e : Event) → refusal s e ≡ 0 → step s e ≡ accept (forget s) e
unfolding step decide
accepted-step s e h = rw h

pub show-step : (s : Store) (o : ℕ) → (step s (Event.show o)).store ≡ forget s
unfolding step decide accept
show-step s o = pick_has (λ (x : Step). x.store ≡ forget s) (eqb (refusal s (Event.show o)) 0) refl refl

pub eager-step : (s : Store) → (step s Event.eager).store ≡ forget s
unfolding step decide accept
eager-step s = pick_has (λ (x : Step). x.store ≡ forget s) (eqb (refusal s Event.eager) 0) refl refl

-- ---- pending calls ascend, and are at most as many as the objects made

none_below_less : (c d : ℕ) (l : List ℕ) → c ≤ d → NoneBelow d l → NoneBelow c l
unfolding NoneBelow
none_below_less c d [] h k = tt
none_below_less c d (x ∷ l) h k = (omega (arith, k.0), none_below_less c d l h k.1)

insert-none-below : (c d : ℕ) (l : List ℕ) → d ≤ c → NoneBelow d l → NoneBelow d (insert c l)
unfolding insert NoneBelow
insert-none-below c d [] h k = (h, tt)
insert-none-below c d (x ∷ l) h k =
    pick_has (NoneBelow d) (leb c x) (h, insert-none-below x d l k.0 k.1) (k.0, insert-none-below c d l h k.1)

pub insert-ascending : (c : ℕ) (l : List ℕ) → Ascending l → Ascending (insert c l)
unfolding insert Ascending NoneBelow
insert-ascending c [] a = (tt, tt)
insert-ascending c (d ∷ ds) a = by (leb c d) refl (insert-ascending d ds a.1) (insert-ascending c ds a.1)
  where
    by : (b : Bool) → leb c d ≡ b → Ascending (insert d ds) → Ascending (insert c ds) → Ascending (pick b (c ∷ insert d ds) (d ∷ insert c ds))
    by true e h k = let l : c ≤ d = leb-true c d e in (insert-none-below d c ds l (none_below_less c d ds l a.0), h)
    by false e h k = let l : d ≤ c = omega (arith, leb-false c d e) in (insert-none-below c d ds l a.0, k)

pub length-insert : (c : ℕ) (l : List ℕ) → length (insert c l) ≡ suc (length l)
unfolding insert
length-insert c [] = refl
length-insert c (d ∷ ds) =
    pick_has (λ (l : List ℕ). length l ≡ suc (suc (length ds))) (leb c d) (ap suc (length-insert d ds)) (ap suc (length-insert c ds))

-- one object more, and its call if it is a pending external
pub calls_ascend : (os : List ℕ) (n : ℕ) → Ascending (calls_below os n)
unfolding calls_below Ascending
calls_ascend os zero = tt
calls_ascend os (suc o) =
    pick_has Ascending (is_pending_external (kind (object_at os o))) (insert-ascending (call_of (object_at os o)).0 (calls_below os o) (calls_ascend os o)) (calls_ascend os o)

pub calls_few : (os : List ℕ) (n : ℕ) → length (calls_below os n) ≤ n
unfolding calls_below
calls_few os zero = omega arith
calls_few os (suc o) =
    pick_has (λ (l : List ℕ). length l ≤ suc o) (is_pending_external (kind (object_at os o)))
    (omega (arith, length-insert (call_of (object_at os o)).0 (calls_below os o), calls_few os o)) (omega (arith, calls_few os o))

pub pending_calls_ascend : (s : Store) → Ascending (pending_call_ids s)
unfolding pending_call_ids pending_calls_in
pending_calls_ascend s = calls_ascend s.objects (header_at s.objects).made

pub pending_calls_made : (s : Store) → length (pending_call_ids s) ≤ (header s).made
unfolding pending_call_ids pending_calls_in header
pending_calls_made s = calls_few s.objects (header s).made

pub pending_calls_list : (s : Store) → CallList (pending_call_ids s)
pending_calls_list s = record { few = omega (arith, pending_calls_made s, (header-fits s).made_fits); ascending = pending_calls_ascend s }

-- ---- the calls of every answer are such a list

abbrev ControlFits : Control → Type 0
ControlFits c = CallList (control_calls c)

abbrev SwitchFits : Switched → Type 0
SwitchFits x = ControlFits x.control

abbrev AwaitFits : Awaited → Type 0
AwaitFits x = ControlFits x.control

abbrev StepFits : Step → Type 0
StepFits x = CallList (answer_calls x.answer)

no_calls : CallList []
no_calls = record { few = omega arith; ascending = unfold Ascending in tt }

run_fits : (s : Store) (t : ℕ) (h : How) → SwitchFits (run s t h)
unfolding run control_calls
run_fits s t h = no_calls

yield-fits : (s : Store) → SwitchFits (yield s)
unfolding yield control_calls
yield-fits s = pending_calls_list s

module _ (go : Store → ℕ → Switched) (h : (s : Store) (t : ℕ) → SwitchFits (go s t)) where
  next_fits : (s : Store) → SwitchFits (resume_next go s)
  unfolding resume_next
  next_fits s = pick_has SwitchFits (eqb s.queue.len 0) (yield-fits s) (h _ _)

  exit-fits : (d : Delivery) → SwitchFits (resume_after_task_exit go d)
  unfolding resume_after_task_exit
  exit-fits d = by d.woken
    where
      by : (w : Option ℕ) → SwitchFits (elim w [ none ↦ resume_next go d.store | some t ↦ go (remove_from_ready_queue d.store t) t ])
      by none = next_fits d.store
      by (some t) = h _ t

  failure-fits : (s : Store) (t : ℕ) (e : Error) → SwitchFits (handle_task_failure go s t e)
  unfolding handle_task_failure
  failure-fits s t e = exit-fits _

  start_fits : (s : Store) (t c : ℕ) (f : Option ℕ) → SwitchFits (start_by go s t c f)
  unfolding start_by
  start_fits s t c none = failure-fits s t Error.CoroutineReuse
  start_fits s t c (some f) = run_fits _ t (start c f)

  state_fits : (s : Store) (t : ℕ) (x : TaskState) → SwitchFits (activate_state go s t x)
  unfolding activate_state start_task
  state_fits s t TaskState.Absent = yield-fits s
  state_fits s t TaskState.Unstarted = start_fits s t _ _
  state_fits s t TaskState.Running = yield-fits s
  state_fits s t (TaskState.Woken v) = run_fits s t (value v)
  state_fits s t (TaskState.Raised e) = run_fits s t (raises e)
  state_fits s t (TaskState.Blocked o) = yield-fits s

within_fits : (k : ℕ) (s : Store) (t : ℕ) → SwitchFits (activate_within k s t)
unfolding activate_within
within_fits zero s t = yield-fits s
within_fits (suc k) s t = state_fits (λ x u. activate_within k x u) (λ x u. within_fits k x u) s t (task s t).state

activate-fits : (s : Store) (t : ℕ) → SwitchFits (activate s t)
unfolding activate
activate-fits s t = within_fits (live_count s) s t

stays-fits : (s : Store) (t : ℕ) (h : How) (n : ℕ) → AwaitFits (stays s t h n)
unfolding stays control_calls
stays-fits s t h n = no_calls

go_on-fits : (t o n : ℕ) (s : Store) (p : Poll) → AwaitFits (go_on t o n s p)
unfolding go_on
go_on-fits t o n s (ready v) = stays-fits s t (value v) n
go_on-fits t o n s (raised e) = stays-fits s t (raises e) n
go_on-fits t o n s pending = next_fits activate activate-fits _

await-fits : (s : Store) (t o : ℕ) (x : Object) → AwaitFits (await_object s t o x)
unfolding await_object await_coroutine await_external_future await_gather control_calls
await-fits s t o Object.Unmade = pending_calls_list s
await-fits s t o (Object.Coroutine f CoroutineState.New) = stays-fits _ t _ 0
await-fits s t o (Object.Coroutine f CoroutineState.Running) = stays-fits s t _ 0
await-fits s t o (Object.Coroutine f CoroutineState.Completed) = stays-fits s t _ 0
await-fits s t o (Object.ExternalFuture c x) = go_on-fits t o 0 _ _
await-fits s t o (Object.GatherFuture f n GatherState.Pending) = go_on-fits t o _ _ _
await-fits s t o (Object.GatherFuture f n (GatherState.Awaited a m)) = stays-fits s t _ 0
await-fits s t o (Object.GatherFuture f n GatherState.Completed) = stays-fits s t _ 0
await-fits s t o (Object.GatherFuture f n (GatherState.Failed e)) = stays-fits s t _ 0

completes-fits : (s : Store) (t : ℕ) (v : Value) → StepFits (task_completes s t v)
unfolding task_completes end_main switched handle_task_completion answer_calls
completes-fits s t v = pick_has StepFits (eqb t 0) no_calls (exit-fits activate activate-fits _)

fails-fits : (s : Store) (t : ℕ) (e : Error) → StepFits (task_fails s t e)
unfolding task_fails end_main switched answer_calls
fails-fits s t e = pick_has StepFits (eqb t 0) no_calls (failure-fits activate activate-fits s t e)

repeat_fits : (cs : List ℕ) → CallList cs → CallList (answer_calls (repeat_wait cs))
unfolding repeat_wait answer_calls control_calls
repeat_fits [] h = no_calls
repeat_fits (c ∷ cs) h = h

resume-fits : (s : Store) → StepFits (resume_with_resolved_futures s)
unfolding resume_with_resolved_futures switched answer_calls
resume-fits s =
    pick_has StepFits (eqb s.queue.len 0) (repeat_fits (pending_call_ids s) (pending_calls_list s)) (next_fits activate activate-fits s)

accept-fits : (s : Store) (e : Event) → StepFits (accept s e)
unfolding accept answer_await exec_get_awaitable answer_calls
accept-fits s (Event.coroutine f) = no_calls
accept-fits s Event.call = no_calls
accept-fits s (Event.pending c r) = no_calls
accept-fits s (Event.settled v) = no_calls
accept-fits s (Event.gather os) = no_calls
accept-fits s (Event.await o) = await-fits s _ o (object s o)
accept-fits s (Event.complete v) = completes-fits s _ v
accept-fits s (Event.fail n) = fails-fits s _ (Error.Script n)
accept-fits s (Event.results rs) = no_calls
accept-fits s Event.resume = resume-fits s
accept-fits s (Event.cancel t) = no_calls
accept-fits s (Event.show o) = no_calls
accept-fits s Event.eager = no_calls

pub step_calls : (s : Store) (e : Event) → CallList (answer_calls (step s e).answer)
unfolding step decide answer_calls
step_calls s e = pick_has StepFits (eqb (refusal s e) 0) (accept-fits (forget s) e) no_calls

-- ---- the call list

pub length-write_calls : (cs l : List ℕ) → length cs ≤ length l → length (write_calls cs l) ≡ length l
unfolding write_calls
length-write_calls cs l h = simp (length-append, length-drop) (omega arith)

pub take-write_calls : (cs l : List ℕ) → take (length cs) (write_calls cs l) ≡ cs
unfolding write_calls
take-write_calls cs l = take-append_seam cs (drop (length cs) l)

pub drop-write_calls : (cs l : List ℕ) → drop (length cs) (write_calls cs l) ≡ drop (length cs) l
unfolding write_calls
drop-write_calls cs l = drop-append_seam cs (drop (length cs) l)

-- an answer writes its calls
pub written_calls : (a : Answer) (l : List ℕ) → written a l ≡ write_calls (answer_calls a) l
unfolding written
written_calls a l = refl

-- refusal 1 asks for the lengths
pub slices_sized : (s : Store) → slices_right s ≡ true → Sized s
unfolding slices_right
slices_sized s e =
    let tasks_right : Bool = eqb (length s.tasks) tasks_length in
    let objects_right : Bool = eqb (length s.objects) objects_length in
    let h = and-true (tasks_right && objects_right) (eqb (length s.places) places_length) e in
    let k = and-true tasks_right objects_right h.0 in
    record {
      tasks_sized = eqb-true (length s.tasks) tasks_length k.0;
      objects_sized = eqb-true (length s.objects) objects_length k.1;
      places_sized = eqb-true (length s.places) places_length h.1;
    }

pub lengths_sized : (s : Store) (l : List ℕ) → lengths_right s l ≡ true → Sized s
unfolding lengths_right
lengths_sized s l e = slices_sized s (and-true (slices_right s) (leb 256 (length l)) e).0

module _ (s : Store) (l : List ℕ) (e : Event) where
  pub lent-refused : lengths_right s l ≡ false → lent_step s l e ≡ lent_as s l (Answer.refused 1)
  unfolding lent_step lent_by
  lent-refused h = rw h

  pub lent-accepted : lengths_right s l ≡ true
      → lent_step s l e ≡ lent_as (step s e).store (written (step s e).answer l) (step s e).answer
  unfolding lent_step lent_by
  lent-accepted h = rw h

  -- the calls at the front, and the words behind them as they were (take-write_calls, drop-write_calls)
  pub lent-list : (lent_step s l e).list ≡ write_calls (answer_calls (lent_step s l e).answer) l
  unfolding lent_step
  lent-list = by (lengths_right s l)
    where
      by : (b : Bool) → (lent_by b s l e).list ≡ write_calls (answer_calls (lent_by b s l e).answer) l
      by true = unfold lent_by in written_calls (step s e).answer l
      by false = unfold lent_by write_calls answer_calls in refl

  pub lent-count : (lent_step s l e).count ≡ length (answer_calls (lent_step s l e).answer)
  unfolding lent_step
  lent-count = by (lengths_right s l)
    where
      by : (b : Bool) → (lent_by b s l e).count ≡ length (answer_calls (lent_by b s l e).answer)
      by true = unfold lent_by in refl
      by false = unfold lent_by in refl

  pub lent_calls : CallList (answer_calls (lent_step s l e).answer)
  unfolding lent_step
  lent_calls = by (lengths_right s l)
    where
      by : (b : Bool) → CallList (answer_calls (lent_by b s l e).answer)
      by true = unfold lent_by in step_calls s e
      by false = unfold lent_by answer_calls in no_calls

  pub lent_length : length (lent_step s l e).list ≡ length l
  lent_length = by (lengths_right s l) refl
    where
      by : (b : Bool) → lengths_right s l ≡ b → length (lent_step s l e).list ≡ length l
      by true h =
          let room : 256 ≤ length l = leb-true 256 (length l) (unfold lengths_right in (and-true (slices_right s) (leb 256 (length l)) h).1) in
          rw lent-list (length-write_calls _ l (omega (arith, lent_calls.few)))
      by false h = rw (lent-refused h)
