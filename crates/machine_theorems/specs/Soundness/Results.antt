-- Results: the external of a call is settled, and its awaiter is served.
use Rattle.std.specs.Prelude.{◌≡◌, Bool, true, false, List, [], ◌∷◌, ℕ, ◌≤◌, ◌<◌, eqb, length}
use Rattle.std.proofs.Math.Path.{refl, subst}
use Rattle.std.proofs.Common.{ap, sym, ◌∙◌, le_refl, arith, eqb-true}
use Rattle.std.proofs.Math.Option.{Option, none, some}
use Rattle.std.proofs.Math.Dec.{T}
use Rattle.asyncio.specs.declared.CallId.{CallId}
use Rattle.asyncio.specs.declared.Value.{Value}
use Rattle.asyncio.specs.Options.{OptionValue}
use Rattle.std.specs.Prelude.{None, Some}
use Rattle.asyncio.specs.declared.Error.{Error}
use Rattle.asyncio.specs.declared.Awaiter.{Awaiter}
use Rattle.asyncio.specs.declared.ExternalFutureState.{ExternalFutureState}
use Rattle.asyncio.specs.declared.Object.{Object}
use Rattle.asyncio.specs.declared.Header.{Header}
use Rattle.asyncio.specs.Limits.{task_limit}
use Rattle.asyncio.specs.Ranges.{ObjectFits, ErrorFits}
use Rattle.asyncio.specs.Layout.{to_value, to_error}
use Rattle.asyncio.specs.States.{pick}
use Rattle.asyncio.specs.Kinds.{kind, is_coroutine, is_completed, is_committed}
use Rattle.asyncio.specs.Parts.{awaiter_of, count_of}
use Rattle.machine.specs.Store.{Store, View, view, object, header, put_object}
use Rattle.machine.specs.Scheduler.{PendingExternal, as_awaited, as_pending, pending_external_in, pending_external}
use Rattle.machine.specs.Delivery.{value_or, resolve_pending, fail_pending, settle_pending, settle_found, resolve_future, fail_future}
use Rattle.queue.specs.declared.ReadyQueue.{ReadyQueue}
use Rattle.queue.specs.Queue.{entries, order_from}
use Rattle.queue.proofs.OrderLaws.{order_from-len, order_from-length, order_occurrences}
use Rattle.machine.specs.Events.{Result, apply_result, apply_future_results, wake_in_order}
use Rattle.machine.specs.Sound.{object_in_range, items_below, value_known, option_known, object_values, object_filled}
use Rattle.machine_laws.specs.ValueLaws.{value_stays}
use Rattle.machine_laws.specs.Facts.{SoundBut, Nothing}
use Rattle.machine_laws.specs.StoreLaws.{object-fits, object_put-object, header_put-object}
use Rattle.machine_laws.specs.MakingLaws.{value-fits}
use Rattle.machine_laws.specs.DeliveryLaws.{pending-object, first_below}
use Rattle.machine_theorems.specs.Soundness.ReadyTasks.{queued-ordered}
use Rattle.machine_theorems.specs.Soundness.Stores.{SoundDuring, queue_during}
use Rattle.machine_theorems.specs.Soundness.Deliver.{Delivering, Detached, Settles, settle_keeps, detached_keeps, DeliveringError, failure_keeps}
use Rattle.machine_theorems.specs.Soundness.Fill.{alone_keeps, DeliveringValue, success_keeps}

-- ---- a pending external settles

pending-fits : (s : Store) (o : ℕ) (p : PendingExternal) → as_pending (object s o) ≡ some p
    → ObjectFits (Object.ExternalFuture p.call (ExternalFutureState.Pending p.awaiter p.stored))
pending-fits s o p e = subst ObjectFits (pending-object (object s o) p e) (object-fits s o)

pending_awaiter : (x : Object) (p : PendingExternal) → as_pending x ≡ some p → awaiter_of x ≡ p.awaiter
unfolding awaiter_of
pending_awaiter x p e = ap awaiter_of (pending-object x p e)

-- the state of an external that is settled
record Answered (v : View) (c : CallId) (y : ExternalFutureState) : Type 0 where
  plain : is_coroutine (kind (Object.ExternalFuture c y)) ≡ false
  loose : is_committed (kind (Object.ExternalFuture c y)) ≡ false
  free : awaiter_of (Object.ExternalFuture c y) ≡ Awaiter.Nobody
  answered : as_pending (Object.ExternalFuture c y) ≡ none
  known : T (object_values v.header.made v.objects (Object.ExternalFuture c y))

external_settles : (v : View) (o : ℕ) (p : PendingExternal) (y : ExternalFutureState) → o < v.header.made → as_pending (v.objects o) ≡ some p
    → Answered v p.call y → Settles v o (Object.ExternalFuture p.call y)
unfolding count_of kind items_below object_filled as_awaited object_in_range
external_settles v o p y l e d =
    let q = pending-object (v.objects o) p e in
    record {
      made = l;
      count = sym (ap count_of q);
      committed = d.loose ∙ sym (ap (λ (x : Object). is_committed (kind x)) q);
      completed = λ h. absurd (subst (λ (y : Object). T (is_completed (kind y))) q h);
      coroutine = d.plain ∙ sym (ap (λ (x : Object). is_coroutine (kind x)) q);
      lower = λ h. tt;
      filled = tt;
      free = d.free;
      answered = d.answered;
      settled = refl;
      range = λ n h. subst (λ (y : Object). T (object_in_range v.header n y)) q h;
      known = d.known;
    }

resolved_answered : (v : View) (c : CallId) (x : Value) → T (value_known v.header.made v.objects x) → Answered v c (ExternalFutureState.Resolved x)
unfolding kind awaiter_of as_pending object_values
resolved_answered v c x k = record { plain = refl; loose = refl; free = refl; answered = refl; known = k }

failed-answered : (v : View) (c : CallId) (e : Error) → Answered v c (ExternalFutureState.Failed e)
unfolding kind awaiter_of as_pending object_values
failed-answered v c e = record { plain = refl; loose = refl; free = refl; answered = refl; known = tt }

-- the stored result may be handed on, and so may the host's value
known_or : (v : View) (o : ℕ) (p : PendingExternal) (x : Value) → SoundBut 0 Nothing Nothing v → o < v.header.made → as_pending (v.objects o) ≡ some p
    → T (value_known v.header.made v.objects x) → T (value_known v.header.made v.objects (value_or p.stored x))
unfolding object_values
known_or v o p x h l e k =
    by p.stored (subst (λ (y : Object). T (object_values v.header.made v.objects y)) (pending-object (v.objects o) p e) (h.object_lists o l))
  where
    by : (r : OptionValue) → T (option_known v.header.made v.objects r) → T (value_known v.header.made v.objects (value_or r x))
    by None t = unfold value_or in k
    by (Some y) t = unfold value_or option_known in t

-- ---- one result of the host

module _ {r : ℕ → Bool} {D : ℕ → Type 0} {hd : Header} (s : Store) (h : SoundDuring Nothing r D hd s) where
  found-keeps : (c : Option ℕ) (f : ℕ → PendingExternal → Store) → ((o : ℕ) → c ≡ some o → o < (header s).made)
      → ((o : ℕ) (p : PendingExternal) → o < (header s).made → as_pending (object s o) ≡ some p → SoundDuring Nothing r D hd (f o p)) → SoundDuring Nothing r D hd (settle_found s c f)
  unfolding settle_found settle_pending
  found-keeps none f l k = h
  found-keeps (some o) f l k = by (as_pending (object s o)) refl
    where
      by : (p : Option PendingExternal) → as_pending (object s o) ≡ p → SoundDuring Nothing r D hd (settle_pending s p (f o))
      by none e = h
      by (some p) e = k o p (l o refl) e

  -- what is found is made
  pub low : (call o : ℕ) → pending_external s call ≡ some o → o < (header s).made
  unfolding pending_external pending_external_in header
  low call o e = omega (arith, first_below _ (header s).made 0 o e)

  -- what was settled is a value still
  known-settled : (o : ℕ) (y : Object) (x : Value) → ObjectFits y → Settles (view s) o y → T (value_known (header s).made (object s) x)
      → T (value_known (header (put_object s o y)).made (object (put_object s o y)) x)
  unfolding view
  known-settled o y x f st k =
      let m : SoundDuring (Delivering (awaiter_of (object s o))) r (λ p. T (is_completed (kind (object s p)))) hd (put_object s o y) =
      settle_keeps s o y f st (record { kept = h.kept; runs = h.runs; done = λ p d. d; head = h.head }) in
      subst (λ (z : Header). T (value_known z.made (object (put_object s o y)) x)) (sym (header_put-object s o y))
      (value_stays (header s).made (header s).made (le_refl _) (object s) (object (put_object s o y)) (λ p l. m.done p) x k)

  -- the pending external o is settled with the host's value, or what is stored, which is on its way then
  pub resolve_delivering : (v : Value) → T (value_known (header s).made (object s) v) → (o : ℕ) (p : PendingExternal) → o < (header s).made → as_pending (object s o) ≡ some p
      → DeliveringValue r D hd o (value_or p.stored v) (put_object s o (Object.ExternalFuture p.call (ExternalFutureState.Resolved (value_or p.stored v)))) p.awaiter
  unfolding view
  resolve_delivering v k o p l e =
      let x : Value = value_or p.stored v in
      let y : Object = Object.ExternalFuture p.call (ExternalFutureState.Resolved x) in
      let known : T (value_known (header s).made (object s) x) = known_or (view s) o p v h.kept.but l e k in
      let st : Settles (view s) o y = external_settles (view s) o p (ExternalFutureState.Resolved x) l e (resolved_answered (view s) p.call x known) in
      let fit : ObjectFits y = ((pending-fits s o p e).0, value-fits (header s).made (object s) x h.kept.but.fits.made_fits known) in
      let aw : awaiter_of (object s o) ≡ p.awaiter = pending_awaiter (object s o) p e in
      record {
        known = known-settled o y x fit st known;
        detached = subst (λ (a : Awaiter). Detached (view (put_object s o y)) o a) aw (detached_keeps s o y fit st h);
        alone = alone_keeps s o y fit st (unfold kind in refl) h;
        during = subst (λ (a : Awaiter). SoundDuring (Delivering a) r D hd (put_object s o y)) aw (settle_keeps s o y fit st h);
      }

  -- the row is written
  pub resolve_row : (v : Value) → T (value_known (header s).made (object s) v) → (o : ℕ) (p : PendingExternal) → o < (header s).made → as_pending (object s o) ≡ some p
      → object (put_object s o (Object.ExternalFuture p.call (ExternalFutureState.Resolved (value_or p.stored v)))) o
      ≡ Object.ExternalFuture p.call (ExternalFutureState.Resolved (value_or p.stored v))
  unfolding view
  resolve_row v k o p l e =
      object_put-object s o _ h.kept.memory.sized (omega (arith, l, h.kept.but.fits.made_fits))
      ((pending-fits s o p e).0, value-fits (header s).made (object s) (value_or p.stored v) h.kept.but.fits.made_fits (known_or (view s) o p v h.kept.but l e k))

  pub resolve_keeps : (call : ℕ) (v : Value) → T (value_known (header s).made (object s) v) → SoundDuring Nothing r D hd (resolve_future s call v)
  unfolding resolve_future resolve_pending
  resolve_keeps call v k =
      found-keeps (pending_external s call) _ (low call)
      (λ o p l e. (success_keeps r D hd _ o p.awaiter (value_or p.stored v) (resolve_delivering v k o p l e)).during)

  -- with an error
  pub fail_delivering : (x : Error) → ErrorFits x → (o : ℕ) (p : PendingExternal) → o < (header s).made → as_pending (object s o) ≡ some p
      → DeliveringError r D hd o (put_object s o (Object.ExternalFuture p.call (ExternalFutureState.Failed x))) p.awaiter
  unfolding view
  fail_delivering x k o p l e =
      let y : Object = Object.ExternalFuture p.call (ExternalFutureState.Failed x) in
      let st : Settles (view s) o y = external_settles (view s) o p (ExternalFutureState.Failed x) l e (failed-answered (view s) p.call x) in
      let fit : ObjectFits y = ((pending-fits s o p e).0, k) in
      let aw : awaiter_of (object s o) ≡ p.awaiter = pending_awaiter (object s o) p e in
      record {
        detached = subst (λ (a : Awaiter). Detached (view (put_object s o y)) o a) aw (detached_keeps s o y fit st h);
        during = subst (λ (a : Awaiter). SoundDuring (Delivering a) r D hd (put_object s o y)) aw (settle_keeps s o y fit st h);
      }

  pub fail-row : (x : Error) → ErrorFits x → (o : ℕ) (p : PendingExternal) → o < (header s).made → as_pending (object s o) ≡ some p
      → object (put_object s o (Object.ExternalFuture p.call (ExternalFutureState.Failed x))) o ≡ Object.ExternalFuture p.call (ExternalFutureState.Failed x)
  unfolding view
  fail-row x k o p l e = object_put-object s o _ h.kept.memory.sized (omega (arith, l, h.kept.but.fits.made_fits)) ((pending-fits s o p e).0, k)

  pub fail_future_keeps : (call : ℕ) (x : Error) → ErrorFits x → SoundDuring Nothing r D hd (fail_future s call x)
  unfolding fail_future fail_pending
  fail_future_keeps call x k =
      found-keeps (pending_external s call) _ (low call) (λ o p l e. (failure_keeps r D hd x k _ o p.awaiter (fail_delivering x k o p l e)).during)

-- ---- the event `results`

-- a value returned is known while the gathers of D are completed, made objects being below n
abbrev pub MayApply : ℕ → (ℕ → Type 0) → Result → Type 0
MayApply n D x = x.kind ≡ 0 → (os : ℕ → Object) → ((o : ℕ) → D o → T (is_completed (kind (os o)))) → T (value_known n os (to_value x.tag x.number))

-- each one
unfoldable pub AllApply : ℕ → (ℕ → Type 0) → List Result → Type 0
AllApply n D [] = Unit {0}
AllApply n D (x ∷ xs) = MayApply n D x × AllApply n D xs

pub host_fits : (n : ℕ) → ErrorFits (to_error 0 n)
host_fits n = omega arith

pub result_keeps : {r : ℕ → Bool} {D : ℕ → Type 0} {hd : Header} (s : Store) (x : Result) → MayApply hd.made D x → SoundDuring Nothing r D hd s → SoundDuring Nothing r D hd (apply_result s x)
unfolding apply_result
result_keeps {r} {D} {hd} s x m h = by (eqb x.kind 0) refl (eqb x.kind 1) (eqb x.kind 2) (eqb x.kind 3)
  where
    by : (a : Bool) → eqb x.kind 0 ≡ a → (b c d : Bool) → SoundDuring Nothing r D hd (pick a (resolve_future s x.call (to_value x.tag x.number))
        (pick b (fail_future s x.call (to_error 0 x.number)) (pick c s (pick d (fail_future s x.call Error.NotFound) (fail_future s x.call Error.ModuleFile)))))
    by true e b c d =
        resolve_keeps s h x.call (to_value x.tag x.number)
        (subst (λ (y : Header). T (value_known y.made (object s) (to_value x.tag x.number))) (sym h.head) (m (eqb-true x.kind 0 e) (object s) h.done))
    by false e true c d = fail_future_keeps s h x.call (to_error 0 x.number) (host_fits x.number)
    by false e false true d = h
    by false e false false true = fail_future_keeps s h x.call Error.NotFound tt
    by false e false false false = fail_future_keeps s h x.call Error.ModuleFile tt

pub results-keep : {r : ℕ → Bool} {D : ℕ → Type 0} {hd : Header} (xs : List Result) (s : Store) → AllApply hd.made D xs → SoundDuring Nothing r D hd s
    → SoundDuring Nothing r D hd (apply_future_results s xs)
unfolding apply_future_results AllApply
results-keep [] s a h = h
results-keep (x ∷ xs) s a h = results-keep xs (apply_result s x) a.1 (result_keeps s x a.0 h)

-- the wakes in task order
pub ordered-keep : {r : ℕ → Bool} {D : ℕ → Type 0} {hd : Header} (s u : Store) → SoundDuring Nothing r D hd u → SoundDuring Nothing r D hd (wake_in_order s u)
unfolding wake_in_order
ordered-keep s u h =
    let q : ReadyQueue = u.queue in
    let n : ℕ = s.queue.len in
    let ids : length q.ids ≡ task_limit = h.kept.memory.ids in
    let short : q.len ≤ task_limit = h.kept.memory.words_right.queue_short in
    queue_during u h (order_from q n) (subst (λ (k : ℕ). k ≤ task_limit) (sym (order_from-len q n)) short) (order_from-length q n ∙ ids)
    (queued-ordered (entries q) (entries (order_from q n)) (order_occurrences q n ids short))
