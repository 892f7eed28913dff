-- An event that makes an object, hands out a number or reads does nothing to the gathers that are there.
use Rattle.std.specs.Prelude.{◌≡◌, Bool, true, false, List, [], ◌∷◌, ◌⊎◌, ℕ, zero, suc, ◌+◌, ◌≤◌, ◌<◌, length}
use Rattle.std.proofs.Math.Path.{refl}
use Rattle.std.proofs.Common.{sym, ap, subst, ◌∙◌, inl, inr, not-suc-le-zero, arith}
use Rattle.std.proofs.Math.Option.{Option, none, some}
use Rattle.std.proofs.Math.Decide.{ℕ_discrete}
use Rattle.asyncio.specs.declared.Value.{Value}
use Rattle.asyncio.specs.Options.{OptionValue}
use Rattle.std.specs.Prelude.{None}
use Rattle.asyncio.specs.declared.Awaiter.{Awaiter}
use Rattle.asyncio.specs.declared.Object.{Object}
use Rattle.asyncio.specs.declared.Task.{Task}
use Rattle.asyncio.specs.declared.Header.{Header}
use Rattle.asyncio.specs.Limits.{object_limit, place_limit, call_limit}
use Rattle.asyncio.specs.Numbers.{heap_id}
use Rattle.asyncio.specs.Ranges.{HeaderFits}
use Rattle.asyncio.specs.Layout.{object_words, to_object}
use Rattle.asyncio.specs.Parts.{awaiter_of}
use Rattle.machine.specs.Store.{Store, LogEntry, task, object, header, put_object, put_header, put_place, add_object, set_calls}
use Rattle.machine.specs.Scheduler.{AwaitedGather, PendingExternal, as_awaited, as_pending}
use Rattle.machine.specs.Events.{put_items, make_coroutine, make_pending, make_settled, make_gather}
use Rattle.machine.specs.Machine.{Event, Answer, Step, accept}
use Rattle.machine.specs.History.{tells, done_only}
use Rattle.machine_laws.specs.Views.{Sized}
use Rattle.machine_laws.specs.StoreLaws.{header-fits, header_put-header, header_put-object, object_put-header, object_put-other, sized-put_header, sized-set_calls}
use Rattle.machine_laws.specs.DeliveryLaws.{absurd_some}
use Rattle.machine_laws.specs.MakingLaws.{items-sized}
use Rattle.machine_theorems.specs.Soundness.RowFacts.{items-header}
use Rattle.machine_sessions.specs.Queue.TrackedEvents.{items-tasks, items-log}
use Rattle.machine_sessions.specs.Waits.Calls.{read_back}
use Rattle.machine_sessions.specs.Gather.FailingStated.{Took, Opens, EventFails}
use Rattle.machine_sessions.specs.Gather.FailingEvents.{same_ends, pending_awaiter}

items-objects : (os : List ℕ) (s : Store) (p o : ℕ) → object (put_items s p os) o ≡ object s o
unfolding put_items object put_place
items-objects [] s p o = refl
items-objects (x ∷ os) s p o = items-objects os (put_place s p (record { item = heap_id x; result = None })) (p + 1) o

-- rows as they were: awaiters too
same_takes : (s u : Store) → ((o : ℕ) → object u o ≡ object s o) → (o : ℕ) (r : PendingExternal) → as_pending (object u o) ≡ some r → Took s o r.awaiter
same_takes s u os o r e = inl (r, sym (ap as_pending (os o)) ∙ e, refl)

same-opens : (s u : Store) → ((o : ℕ) → object u o ≡ object s o) → (o : ℕ) (v : AwaitedGather) → as_awaited (object u o) ≡ some v → Opens s o v.awaiter
same-opens s u os o v e = inl (v, sym (ap as_awaited (os o)) ∙ e, refl)

-- an object, which nobody awaits, is added to a store that differs from s in calls and places
added : (e : Event) (s v : Store) (r : Object) (n : ℕ) (a : Answer) → (tells a).control ≡ none → Sized v → (header s).made < object_limit → (header v).used + n ≤ place_limit → (header v).made ≡ (header s).made
    → (header v).next ≡ (header s).next → ((o : ℕ) → object v o ≡ object s o) → ((t : ℕ) → task v t ≡ task s t) → v.log ≡ s.log → awaiter_of (to_object (object_words r)) ≡ Awaiter.Nobody → as_awaited (to_object (object_words r)) ≡ none
    → EventFails e s (record { store = add_object v r n; answer = a })
unfolding add_object
added e s v r n a c z low room em en os ts lg free shut =
    same_ends e s (record { store = u; answer = a }) c (λ o l. object_put-other (put_header v i) (header v).made o r (λ d. not-suc-le-zero {n = 0} (omega (arith, l, d, em))) ∙ (object_put-header v i o ∙ os o)) (λ t. same-task t ∙ ts t)
    (ap (λ (h : Header). h.next) (header_put-object (put_header v i) (header v).made r ∙ header_put-header v i z fits) ∙ en) (same_log ∙ lg) (λ o p q. took o p q (ℕ_discrete o (header v).made)) (λ o b q. opened o b q (ℕ_discrete o (header v).made))
  where
    i : Header
    i = record { made = (header v).made + 1; used = (header v).used + n; calls = (header v).calls; next = (header v).next; moment = (header v).moment }

    u : Store
    u = put_object (put_header v i) (header v).made r

    fits : HeaderFits i
    fits = let f : HeaderFits (header v) = header-fits v in record { made_fits = omega (arith, em, low); used_fits = room; calls_fit = f.calls_fit; next_fits = f.next_fits; moment_fits = f.moment_fits }

    now : object u (header v).made ≡ to_object (object_words r)
    now = read_back (put_header v i) (header v).made r (sized-put_header v i z) (omega (arith, em, low))

    opened : (o : ℕ) (b : AwaitedGather) → as_awaited (object u o) ≡ some b → Dec (o ≡ (header v).made) → Opens s o b.awaiter
    opened o b q (yes d) = absurd_some (sym (ap as_awaited now ∙ shut) ∙ subst (λ (j : ℕ). as_awaited (object u j) ≡ some b) d q)
    opened o b q (no ne) = inl (b, sym (ap as_awaited (object_put-other (put_header v i) (header v).made o r ne ∙ (object_put-header v i o ∙ os o))) ∙ q, refl)

    took : (o : ℕ) (p : PendingExternal) → as_pending (object u o) ≡ some p → Dec (o ≡ (header v).made) → Took s o p.awaiter
    took o p q (yes d) =
        subst (Took s o) (sym (ap awaiter_of now ∙ free) ∙ (ap (λ (j : ℕ). awaiter_of (object u j)) (sym d) ∙ pending_awaiter (object u o) p q)) (inr tt)
    took o p q (no ne) = inl (p, sym (ap as_pending (object_put-other (put_header v i) (header v).made o r ne ∙ (object_put-header v i o ∙ os o))) ∙ q, refl)

    same-task : (t : ℕ) → task u t ≡ task v t
    same-task t = unfold task put_object put_header in refl

    same_log : u.log ≡ v.log
    same_log = unfold put_object put_header in refl

pub coroutine-fails : (s : Store) (f : ℕ) → Sized s → (header s).made < object_limit → EventFails (Event.coroutine f) s (accept s (Event.coroutine f))
unfolding accept make_coroutine tells
coroutine-fails s f z low = added (Event.coroutine f) s s _ 0 (Answer.made (header s).made) refl z low (omega (arith, (header-fits s).used_fits)) refl refl (λ o. refl) (λ t. refl) refl (unfold awaiter_of in refl) (unfold as_awaited in refl)

pub pending-fails : (s : Store) (c : ℕ) (r : OptionValue) → Sized s → (header s).made < object_limit → EventFails (Event.pending c r) s (accept s (Event.pending c r))
unfolding accept make_pending tells
pending-fails s c r z low = added (Event.pending c r) s s _ 0 (Answer.made (header s).made) refl z low (omega (arith, (header-fits s).used_fits)) refl refl (λ o. refl) (λ t. refl) refl (unfold awaiter_of in refl) (unfold as_awaited in refl)

module _ (s : Store) (z : Sized s) (c : (header s).calls < call_limit) where
  more : header (set_calls s ((header s).calls + 1)) ≡ record { made = (header s).made; used = (header s).used; calls = (header s).calls + 1; next = (header s).next; moment = (header s).moment }
  unfolding set_calls
  more =
      let f : HeaderFits (header s) = header-fits s in
      header_put-header s _ z (record { made_fits = f.made_fits; used_fits = f.used_fits; calls_fit = omega arith; next_fits = f.next_fits; moment_fits = f.moment_fits })

  rows : (o : ℕ) → object (set_calls s ((header s).calls + 1)) o ≡ object s o
  rows o = unfold set_calls in (object_put-header s _ o)

  tasks : (t : ℕ) → task (set_calls s ((header s).calls + 1)) t ≡ task s t
  tasks t = unfold task set_calls put_header in refl

  logs : (set_calls s ((header s).calls + 1)).log ≡ s.log
  logs = unfold set_calls put_header in refl

  pub call-fails : EventFails Event.call s (accept s Event.call)
  unfolding accept tells done_only
  call-fails = same_ends Event.call s (record { store = set_calls s ((header s).calls + 1); answer = Answer.called (header s).calls }) refl (λ o l. rows o) tasks (ap (λ (h : Header). h.next) more) logs (same_takes s (set_calls s ((header s).calls + 1)) rows) (same-opens s (set_calls s ((header s).calls + 1)) rows)

  pub settled-fails : (v : Value) → (header s).made < object_limit → EventFails (Event.settled v) s (accept s (Event.settled v))
  unfolding accept make_settled tells
  settled-fails v low =
      added (Event.settled v) s (set_calls s ((header s).calls + 1)) _ 0 (Answer.made (header s).made) refl (sized-set_calls s _ z) low
      (subst (λ (h : Header). h.used + 0 ≤ place_limit) (sym more) (omega (arith, (header-fits s).used_fits))) (ap (λ (h : Header). h.made) more) (ap (λ (h : Header). h.next) more) rows tasks logs (unfold awaiter_of in refl) (unfold as_awaited in refl)

pub gather-fails : (s : Store) (os : List ℕ) → Sized s → (header s).made < object_limit → (header s).used + length os ≤ place_limit → EventFails (Event.gather os) s (accept s (Event.gather os))
unfolding accept make_gather tells
gather-fails s os z low room =
    let head : header (put_items s (header s).used os) ≡ header s = items-header os s (header s).used in
    added (Event.gather os) s (put_items s (header s).used os) _ (length os) (Answer.made (header s).made) refl (items-sized os s (header s).used z) low
    (subst (λ (h : Header). h.used + length os ≤ place_limit) (sym head) room) (ap (λ (h : Header). h.made) head) (ap (λ (h : Header). h.next) head) (items-objects os s (header s).used) (items-tasks os s (header s).used) (items-log os s (header s).used) (unfold awaiter_of in refl) (unfold as_awaited in refl)

-- a read
pub read-fails : (e : Event) (s : Store) (a : Answer) → (tells a).control ≡ none → EventFails e s (record { store = s; answer = a })
read-fails e s a c = same_ends e s (record { store = s; answer = a }) c (λ o l. refl) (λ t. refl) refl refl (same_takes s s (λ o. refl)) (same-opens s s (λ o. refl))
