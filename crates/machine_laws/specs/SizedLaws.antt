-- Every event keeps the lengths of the lent slices (an instance of the walk), and a wait tells the calls that are pending in the store that it
-- leaves: function by function, through all that may give up control.
use Rattle.std.specs.Prelude.{◌≡◌, refl, Bool, true, false, List, [], ◌∷◌, ℕ, zero, suc, ◌+◌, ◌<◌, eqb}
use Rattle.std.proofs.Common.{sym, ap, ap₂, ◌∙◌, eqb-true}
use Rattle.std.proofs.Math.Option.{Option, none, some}
use Rattle.std.proofs.lemmas.List.{length-replicate}
use Rattle.asyncio.specs.declared.Value.{Value}
use Rattle.asyncio.specs.declared.Error.{Error}
use Rattle.asyncio.specs.declared.TaskState.{TaskState}
use Rattle.asyncio.specs.declared.Awaiter.{Awaiter}
use Rattle.asyncio.specs.declared.CoroutineState.{CoroutineState}
use Rattle.asyncio.specs.declared.GatherState.{GatherState}
use Rattle.asyncio.specs.declared.Object.{Object}
use Rattle.asyncio.specs.declared.Moment.{Moment}
use Rattle.asyncio.specs.declared.Header.{Header}
use Rattle.asyncio.specs.States.{pick}
use Rattle.asyncio.specs.Kinds.{kind, is_pending_external}
use Rattle.asyncio.specs.Parts.{call_of}
use Rattle.rows.specs.Tables.{object_at, header_at}
use Rattle.asyncio.specs.Limits.{object_limit, tasks_length, objects_length, places_length}
use Rattle.asyncio.specs.Ranges.{HeaderFits}
use Rattle.asyncio.specs.RangeLaws.{pick_has}
use Rattle.machine.specs.Store.{Store, task, object, header, removed, reached, spawned, exited, blocked, set_moment, forget, absent, fresh, empty}
use Rattle.machine.specs.Scheduler.{live_count, insert, calls_below, pending_calls_in, pending_call_ids}
use Rattle.machine.specs.Scheduler.{push_ready, remove_from_ready_queue, make_ready, spawn_as, remove_task}
use Rattle.machine.specs.Scheduler.{walk, cancel_task, cleanup}
use Rattle.machine.specs.Delivery.{Delivery}
use Rattle.machine.specs.Commit.{Poll, ready, raised, pending}
use Rattle.machine.specs.Commit.{commit_gather_tree}
use Rattle.machine.specs.Events.{How, start, value, raises, Switched, Awaited, run, yield, resume_next, resume_after_task_exit, handle_task_failure}
use Rattle.machine.specs.Events.{start_by, start_task, activate_state, activate_within, activate, stays, go_on}
use Rattle.machine.specs.Events.{await_coroutine, await_external_future, await_gather, await_object, exec_get_awaitable, handle_task_completion}
use Rattle.machine.specs.Events.{make_coroutine, make_pending, make_settled, make_gather}
use Rattle.machine.specs.Machine.{Event, Answer, Step, switched, answer_await, end_main, task_completes, task_fails, runner, repeat_wait, resume_with_resolved_futures}
use Rattle.machine.specs.Machine.{first_refusal, refusals, refusal, accept, decide, step}
use Rattle.machine_laws.specs.Views.{Sized}
use Rattle.machine_laws.specs.Statements.{SaysCalls, Left, AnswerSays}
use Rattle.machine_laws.specs.StoreLaws.{task-fits, sized-put_task, sized-put_object, sized-put_place, sized-put_header, sized-put_places, sized-put_queue, sized-add_log, sized-forget, sized-set_state, sized-set_moment, sized-set_next, sized-set_calls, sized-add_object, header-fits, header_put-header, object_put-header}
use Rattle.machine_laws.specs.MakingLaws.{items-sized}
use Rattle.machine_laws.specs.SoundLaws.{refusal-rest, refusal-forget}
use Rattle.machine_laws.specs.Walk.{Commits, Closed, success_kept, failure_kept, await_external-kept, commit_kept, results-kept, cancel-kept, cleanup-kept}
use Rattle.machine_laws.specs.WalkEvents.{Writes, await_low, step_kept}

-- ---- the lengths: each write keeps them

sized-make_ready : (s : Store) (t : ℕ) (x : TaskState) → Sized s → Sized (make_ready s t x)
unfolding make_ready push_ready
sized-make_ready s t x z = sized-put_queue _ _ (sized-set_state s t x z)

pub sized-spawn_as : (s : Store) (t c g : ℕ) → Sized s → Sized (spawn_as s t c g)
unfolding spawn_as push_ready
sized-spawn_as s t c g z = sized-add_log _ (spawned t c) (sized-put_queue _ _ (sized-set_next _ (t + 1) (sized-put_task s t _ z)))

sized-remove_task : (s : Store) (t : ℕ) → Sized s → Sized (remove_task s t)
unfolding remove_task remove_from_ready_queue
sized-remove_task s t z = sized-put_queue _ _ (sized-put_task s t absent z)

sized_commits : Commits Sized
sized_commits = record {
  row = λ s o x l q z. sized-put_object s o x z;
  value_put = λ s p v z. sized-put_place s p _ z;
  spawns = λ s c g l z. sized-spawn_as s _ c g z;
}

pub sized_closed : Closed Sized
sized_closed = record {
  sized = λ s z. z;
  row = λ s o x l q z. sized-put_object s o x z;
  values_put = λ s ps e z. sized-put_places s ps e z;
  queued = λ s q z. sized-put_queue s q z;
  moved = λ s m f z. sized-set_moment s m z;
  wakes = λ s t x l b r z. sized-add_log _ (reached t) (sized-make_ready s t x z);
  runs_on = λ s t l r z. sized-set_state s t TaskState.Running z;
  exits = λ s t z. sized-add_log _ (exited t) (sized-remove_task s t z);
  goes = λ s t z. sized-add_log _ (removed t) (sized-remove_task s t z);
  ends = λ s t z. sized-add_log _ (removed t) (sized-put_task s t absent z);
}

sized_writes : Writes Sized
sized_writes = record {
  commits = sized_commits;
  closed = sized_closed;
  blocks = λ s t o l z. sized-add_log _ (blocked t) (sized-set_state s t _ z);
  settles = λ s o p y l e z. sized-put_object s o _ z;
  completes = λ s o l z. sized-put_object s o _ z;
  adds = λ s x n z. sized-add_object s x n z;
  names = λ s p o z. sized-put_place s p _ z;
}

pub sized-cancel_task : (s : Store) (t : ℕ) → Sized s → Sized (cancel_task s t)
sized-cancel_task s t z = cancel-kept Sized sized_closed s t z

pub sized_commit : (s : Store) (g : ℕ) (a : Awaiter) → g < object_limit → Sized s → Sized (commit_gather_tree s g a).store
sized_commit s g a l z = commit_kept Sized sized_commits s g a l z

-- Every event keeps the lengths.
pub step-sized : (s : Store) (e : Event) → Sized s → Sized (step s e).store
step-sized s e z = step_kept Sized sized_writes (λ u n y. sized-set_calls u n y) (λ u y. sized-forget u y) s e z

-- ---- who has control: with the lengths, that a wait's calls are those pending in the store that is left

abbrev with_call : Object → List ℕ → List ℕ
with_call x l = pick (is_pending_external (kind x)) (insert (call_of x).0 l) l

calls_same : (os us : List ℕ) (n : ℕ) → ((o : ℕ) → object_at us o ≡ object_at os o) → calls_below us n ≡ calls_below os n
unfolding calls_below
calls_same os us zero h = refl
calls_same os us (suc o) h = ap₂ (λ (x : Object) (l : List ℕ). with_call x l) (h o) (calls_same os us o h)

waiting-header : (s : Store) → Sized s → (header (set_moment s Moment.Waiting)).made ≡ (header s).made
unfolding set_moment
waiting-header s z =
    let f : HeaderFits (header s) = header-fits s in
    ap (λ (h : Header). h.made) (header_put-header s _ z (record { made_fits = f.made_fits; used_fits = f.used_fits; calls_fit = f.calls_fit; next_fits = f.next_fits; moment_fits = tt }))

pub waiting_calls : (s : Store) → Sized s → pending_call_ids (set_moment s Moment.Waiting) ≡ pending_call_ids s
unfolding pending_call_ids pending_calls_in
waiting_calls s z =
    let e : (header_at (set_moment s Moment.Waiting).objects).made ≡ (header_at s.objects).made = unfold header in (waiting-header s z) in
    rw e (calls_same s.objects (set_moment s Moment.Waiting).objects (header_at s.objects).made (λ o. unfold object set_moment in (object_put-header s _ o)))

abbrev SwitchLeft : Switched → Type 0
SwitchLeft x = Left x.store x.control

abbrev AwaitLeft : Awaited → Type 0
AwaitLeft x = Left x.store x.control

run-left : (s : Store) (t : ℕ) (h : How) → Sized s → SwitchLeft (run s t h)
unfolding run
run-left s t h z = record { sized = sized-set_moment _ _ (sized-set_state s t TaskState.Running z); says = unfold SaysCalls in tt }

yield-left : (s : Store) → Sized s → SwitchLeft (yield s)
unfolding yield SaysCalls
yield-left s z = record { sized = sized-set_moment s Moment.Waiting z; says = sym (waiting_calls s z) }

module _ (go : Store → ℕ → Switched) (h : (s : Store) (t : ℕ) → Sized s → SwitchLeft (go s t)) where
  next-left : (s : Store) → Sized s → SwitchLeft (resume_next go s)
  unfolding resume_next
  next-left s z = pick_has SwitchLeft (eqb s.queue.len 0) (yield-left s z) (h _ _ (sized-put_queue s _ z))

  exit_left : (d : Delivery) → Sized d.store → SwitchLeft (resume_after_task_exit go d)
  unfolding resume_after_task_exit
  exit_left d z = by d.woken
    where
      by : (w : Option ℕ) → SwitchLeft (elim w [ none ↦ resume_next go d.store | some t ↦ go (remove_from_ready_queue d.store t) t ])
      by none = next-left d.store z
      by (some t) = h _ t (unfold remove_from_ready_queue in (sized-put_queue d.store _ z))

  failure_left : (s : Store) (t : ℕ) (e : Error) → Sized s → SwitchLeft (handle_task_failure go s t e)
  unfolding handle_task_failure
  failure_left s t e z =
      exit_left _ (sized-add_log _ (exited t) (sized-remove_task _ t (failure_kept Sized sized_closed s _ e (task-fits s t).awaiter_fits z)))

  start_left : (s : Store) (t c : ℕ) (f : Option ℕ) → Sized s → SwitchLeft (start_by go s t c f)
  unfolding start_by
  start_left s t c none z = failure_left s t Error.CoroutineReuse z
  start_left s t c (some f) z = run-left _ t (start c f) (sized-put_object s c _ z)

  state-left : (s : Store) (t : ℕ) (x : TaskState) → Sized s → SwitchLeft (activate_state go s t x)
  unfolding activate_state start_task
  state-left s t TaskState.Absent z = yield-left s z
  state-left s t TaskState.Unstarted z = start_left s t _ _ z
  state-left s t TaskState.Running z = yield-left s z
  state-left s t (TaskState.Woken v) z = run-left s t (value v) z
  state-left s t (TaskState.Raised e) z = run-left s t (raises e) z
  state-left s t (TaskState.Blocked o) z = yield-left s z

within_left : (k : ℕ) (s : Store) (t : ℕ) → Sized s → SwitchLeft (activate_within k s t)
unfolding activate_within
within_left zero s t z = yield-left s z
within_left (suc k) s t z = state-left (λ x u. activate_within k x u) (λ x u y. within_left k x u y) s t (task s t).state z

activate-left : (s : Store) (t : ℕ) → Sized s → SwitchLeft (activate s t)
unfolding activate
activate-left s t z = within_left (live_count s) s t z

stays-left : (s : Store) (t : ℕ) (h : How) (n : ℕ) → Sized s → AwaitLeft (stays s t h n)
unfolding stays
stays-left s t h n z = record { sized = z; says = unfold SaysCalls in tt }

go_on-left : (t o n : ℕ) (s : Store) (p : Poll) → Sized s → AwaitLeft (go_on t o n s p)
unfolding go_on
go_on-left t o n s (ready v) z = stays-left s t (value v) n z
go_on-left t o n s (raised e) z = stays-left s t (raises e) n z
go_on-left t o n s pending z = next-left activate activate-left _ (sized-add_log _ (blocked t) (sized-set_state s t _ z))

await-left : (s : Store) (t o : ℕ) (x : Object) → o < object_limit → object s o ≡ x → Sized s → AwaitLeft (await_object s t o x)
unfolding await_object await_coroutine await_external_future await_gather SaysCalls
await-left s t o Object.Unmade l e z = record { sized = z; says = refl }
await-left s t o (Object.Coroutine f CoroutineState.New) l e z = stays-left _ t _ 0 (sized-put_object s o _ z)
await-left s t o (Object.Coroutine f CoroutineState.Running) l e z = stays-left s t _ 0 z
await-left s t o (Object.Coroutine f CoroutineState.Completed) l e z = stays-left s t _ 0 z
await-left s t o (Object.ExternalFuture c x) l e z = go_on-left t o 0 _ _ (await_external-kept Sized sized_commits s o c x _ l e z)
await-left s t o (Object.GatherFuture f n GatherState.Pending) l e z = go_on-left t o _ _ _ (sized_commit s o _ l z)
await-left s t o (Object.GatherFuture f n (GatherState.Awaited a k)) l e z = stays-left s t _ 0 z
await-left s t o (Object.GatherFuture f n GatherState.Completed) l e z = stays-left s t _ 0 z
await-left s t o (Object.GatherFuture f n (GatherState.Failed f')) l e z = stays-left s t _ 0 z

-- ---- each event

record StepLeft (x : Step) : Type 0 where
  sized : Sized x.store
  says : AnswerSays x.store x.answer

-- an answer that tells no calls
left_with : (s : Store) (a : Answer) → Sized s → AnswerSays s a → StepLeft (record { store = s; answer = a })
left_with s a z q = record { sized = z; says = q }

switched-left : (x : Switched) → SwitchLeft x → StepLeft (switched x)
unfolding switched AnswerSays
switched-left x k = record { sized = k.sized; says = k.says }

end_left : (s : Store) (a : Answer) → AnswerSays (cleanup s) a → Sized s → StepLeft (end_main s a)
unfolding end_main
end_left s a q z = left_with (cleanup s) a (cleanup-kept Sized sized_closed s z) q

completion_left : (s : Store) (t : ℕ) (v : Value) → Sized s → SwitchLeft (handle_task_completion s t v)
unfolding handle_task_completion
completion_left s t v z =
    exit_left activate activate-left _
    (success_kept Sized sized_closed _ _ v (task-fits s t).awaiter_fits (sized-add_log _ (exited t) (sized-remove_task _ t (sized-put_object s _ _ z))))

repeat_left : (s : Store) (cs : List ℕ) → cs ≡ pending_call_ids s → AnswerSays s (repeat_wait cs)
unfolding repeat_wait AnswerSays SaysCalls
repeat_left s [] e = tt
repeat_left s (c ∷ cs) e = e

resume-left : (s : Store) → Sized s → StepLeft (resume_with_resolved_futures s)
unfolding resume_with_resolved_futures
resume-left s z =
    pick_has StepLeft (eqb s.queue.len 0) (left_with s _ z (repeat_left s (pending_call_ids s) refl)) (switched-left _ (next-left activate activate-left s z))

accept-left : (s : Store) (e : Event) → first_refusal (refusals s e) ≡ 0 → Sized s → StepLeft (accept s e)
unfolding accept make_coroutine make_pending make_settled make_gather answer_await exec_get_awaitable task_completes task_fails AnswerSays
accept-left s (Event.coroutine f) r z = left_with _ _ (sized-add_object s _ 0 z) tt
accept-left s Event.call r z = left_with _ _ (sized-set_calls s _ z) tt
accept-left s (Event.pending c x) r z = left_with _ _ (sized-add_object s _ 0 z) tt
accept-left s (Event.settled v) r z = left_with _ _ (sized-add_object _ _ 0 (sized-set_calls s _ z)) tt
accept-left s (Event.gather os) r z = left_with _ _ (sized-add_object _ _ _ (items-sized os s _ z)) tt
accept-left s (Event.await o) r z = let k = await-left s _ o (object s o) (await_low s o r) refl z in record { sized = k.sized; says = k.says }
accept-left s (Event.complete v) r z =
    pick_has StepLeft (eqb (runner (header s).moment) 0) (end_left s (Answer.finished v) (unfold AnswerSays in tt) z) (switched-left _ (completion_left s _ v z))
accept-left s (Event.fail n) r z =
    pick_has StepLeft (eqb (runner (header s).moment) 0) (end_left s (Answer.finished_error (Error.Script n)) (unfold AnswerSays in tt) z)
    (switched-left _ (failure_left activate activate-left s _ (Error.Script n) z))
accept-left s (Event.results rs) r z = left_with _ _ (results-kept Sized sized_closed sized_writes.settles rs s z) tt
accept-left s Event.resume r z = resume-left s z
accept-left s (Event.cancel t) r z = left_with _ _ (sized-cancel_task s t z) tt
accept-left s (Event.show o) r z = left_with _ _ z tt
accept-left s Event.eager r z = left_with _ _ z tt

step_left : (s : Store) (e : Event) → Sized s → StepLeft (step s e)
unfolding step decide
step_left s e z = by (eqb (refusal s e) 0) refl
  where
    by : (b : Bool) → eqb (refusal s e) 0 ≡ b → StepLeft (pick b (accept (forget s) e) (record { store = forget s; answer = Answer.refused (refusal s e) }))
    by true q = accept-left (forget s) e (refusal-rest (forget s) e (refusal-forget s e ∙ eqb-true (refusal s e) 0 q)) (sized-forget s z)
    by false q = left_with (forget s) (Answer.refused (refusal s e)) (sized-forget s z) (unfold AnswerSays in tt)

-- Document 01: "A wait writes the pending calls".
pub step-says : (s : Store) (e : Event) → Sized s → AnswerSays (step s e).store (step s e).answer
step-says s e z = (step_left s e z).says

empty-sized : Sized empty
unfolding empty
empty-sized = record {
  tasks_sized = length-replicate {A = ℕ} tasks_length 0;
  objects_sized = length-replicate {A = ℕ} objects_length 0;
  places_sized = length-replicate {A = ℕ} places_length 0;
}

pub fresh-sized : Sized fresh
unfolding fresh
fresh-sized = sized-put_task _ 0 _ (sized-put_header empty _ empty-sized)
