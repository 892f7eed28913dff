-- Which numbers are call numbers, of any store and any sound one: what a call is answered, what `pending` takes, and which numbers no result settles.
use Rattle.std.specs.Prelude.{◌≡◌, refl, ℕ, ◌≤◌, ◌<◌, T}
use Rattle.std.proofs.Common.{ap, subst, ◌∙◌, arith, ltb→lt, leb-false}
use mathlib.Core.List.{List, [], ◌∷◌}
use Rattle.std.proofs.Math.Option.{Option, none, some}
use Rattle.asyncio.specs.Limits.{call_limit}
use Rattle.asyncio.specs.declared.CallId.{CallId}
use Rattle.asyncio.specs.Options.{OptionValue}
use Rattle.asyncio.specs.declared.ExternalFutureState.{ExternalFutureState}
use Rattle.asyncio.specs.declared.Object.{Object}
use Rattle.machine.specs.Store.{Store, view, object, header, forget}
use Rattle.machine.specs.Scheduler.{PendingExternal, as_pending, pending_external}
use Rattle.machine.specs.Sound.{object_in_range, sound}
use Rattle.machine.specs.Machine.{Event, Answer, Step, in_running, refusals, refusal, accept, step}
use Rattle.machine_laws.specs.TestLaws.{or_left}
use Rattle.machine_laws.specs.StoreLaws.{header-fits}
use Rattle.machine_laws.specs.DeliveryLaws.{pending-object}
use Rattle.machine_laws.specs.MachineLaws.{accepted-step}
use Rattle.machine_laws.specs.SoundLaws.{sound_facts, pass, refusal-rest, has_number}
use Rattle.machine_theorems.specs.Panics.NoPanicLaws.{PendingOf, found-pending}

-- A call that is accepted is answered with the count of those before it, which is below the limit.
pub call-answered : (s : Store) → refusal s Event.call ≡ 0 → ((step s Event.call).answer ≡ Answer.called (header s).calls) × ((header s).calls < call_limit)
unfolding refusals in_running
call-answered s r = (
  ap (λ (x : Step). x.answer) (accepted-step s Event.call r) ∙ (unfold accept header forget in refl),
  has_number s (pass 7 _ [] (pass 3 _ _ (pass 2 _ _ (refusal-rest s Event.call r)).1).1).0,
)

-- `pending` takes only a number that was handed out: one at or above the limit is none.
pub pending_handed_out : (s : Store) (c : ℕ) (r : OptionValue) → refusal s (Event.pending c r) ≡ 0 → (c < (header s).calls) × (c < call_limit)
unfolding refusals in_running
pending_handed_out s c r e =
    let k : c < (header s).calls = leb-false (header s).calls c (or_left _ _ (pass 4 _ _ (pass 3 _ _ (pass 2 _ _ (refusal-rest s (Event.pending c r) e)).1).1).0) in
    (k, omega (arith, k, (header-fits s).calls_fit))

-- the call of a pending external of a sound store was handed out
in_range_call : (s : Store) (p : ℕ) (x : Object) (b : PendingExternal) → as_pending x ≡ some b → T (object_in_range (header s) p x) → b.call.0 < (header s).calls
unfolding object_in_range
in_range_call s p x b e t =
    ltb→lt b.call.0 (header s).calls (subst (λ (y : Object). T (object_in_range (header s) p y)) (pending-object x b e) t)

-- In a sound store no external is pending for a number at or above the limit: in results it is an unknown call.
pub top_unknown : (s : Store) (c : ℕ) → T (sound s) → call_limit ≤ c → pending_external s c ≡ none
unfolding view
top_unknown s c h l = by (pending_external s c) refl
  where
    by : (x : Option ℕ) → pending_external s c ≡ x → x ≡ none
    by none e = refl
    by (some o) e =
        let f : PendingOf s c o = found-pending s c o e in
        let k : f.external.call.0 < (header s).calls = in_range_call s _ (object s o) f.external f.is ((sound_facts s h).but.objects o f.made) in
        absurd (omega (arith, k, f.of_call, l, (header-fits s).calls_fit))
