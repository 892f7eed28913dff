-- Soundness looks only at the objects made: of two views whose objects agree there, both are sound or neither is.
use Rattle.std.specs.Prelude.{◌≡◌, ℕ, ◌≤◌, ◌<◌}
use Rattle.std.proofs.Math.Path.{sym, ap, subst}
use Rattle.std.proofs.Common.{◌∙◌, le_refl, arith}
use Rattle.std.proofs.Math.Dec.{T}
use Rattle.asyncio.specs.declared.Object.{Object}
use Rattle.asyncio.specs.Kinds.{kind, is_coroutine, is_completed, is_committed}
use Rattle.asyncio.specs.Parts.{awaiter_of, count_of}
use Rattle.machine.specs.Store.{View}
use Rattle.machine.specs.Scheduler.{as_awaited, as_pending}
use Rattle.machine.specs.Sound.{places_below, committed_places}
use Rattle.machine_laws.specs.TestLaws.{sum_same}
use Rattle.machine_laws.specs.Facts.{Slotted, AwaitedBy, SoundBut, Nothing, SoundFacts}
use Rattle.machine_laws.specs.ValueLaws.{option_stays, object-stays, state_stays}
use Rattle.machine_laws.specs.MakingLaws.{task_more}

-- other objects
unfoldable pub with_objects : View → (ℕ → Object) → View
with_objects v os = record { tasks = v.tasks; objects = os; places = v.places; header = v.header; queue = v.queue }

module _ (v : View) (os : ℕ → Object) (same : (o : ℕ) → o < v.header.made → os o ≡ v.objects o) where
  abbrev made : ℕ
  made = v.header.made

  places_same : (n : ℕ) → n ≤ made → places_below os n ≡ places_below v.objects n
  unfolding places_below
  places_same n l = sum_same n _ _ (λ o z. ap count_of (same o (omega (arith, z, l))))

  completed-same : (o : ℕ) → o < made → T (is_completed (kind (v.objects o))) → T (is_completed (kind (os o)))
  completed-same o l t = subst (λ (x : Object). T (is_completed (kind x))) (sym (same o l)) t

  slotted-same : (o g x : ℕ) → Slotted made v.objects v.places o g x → Slotted made os v.places o g x
  slotted-same o g x h =
      record {
        own = h.own;
        made = h.made;
        committed = subst (λ (y : Object). T (is_committed (kind y))) (sym (same g h.made)) h.committed;
        opens = λ w e. h.opens w (ap as_awaited (sym (same g h.made)) ∙ e);
      }

  awaited_same : (t o : ℕ) → AwaitedBy made v.objects t o → AwaitedBy made os t o
  awaited_same t o h = record { made = h.made; awaiter = ap awaiter_of (same o h.made) ∙ h.awaiter }

  back : (o : ℕ) → o < made → v.objects o ≡ os o
  back o l = sym (same o l)

  but_same : SoundBut 0 Nothing Nothing v → SoundBut 0 Nothing Nothing (with_objects v os)
  unfolding with_objects
  but_same h =
      record {
        fits = h.fits;
        main = h.main;
        all_used = h.all_used ∙ sym (places_same made (le_refl made));
        objects = λ o l. rw (places_same o (omega (arith, l)), same o l) (h.objects o l);
        awaiters = λ o l. rw (same o l) (h.awaiters o l);
        tasks = λ t l. task_more v.header v.header (le_refl _) (le_refl _) v.objects os
            (λ o z d. subst (λ (x : Object). T (is_coroutine (kind x))) (back o z) d) t (v.tasks t) (h.tasks t l);
        spawned = rw (sum_same made (λ o. committed_places (os o)) (λ o. committed_places (v.objects o)) (λ o z. ap committed_places (same o z))) h.spawned;
        items = λ g l. rw (same g l) (h.items g l);
        object_lists = λ o l. rw (same o l) (object-stays made made (le_refl made) v.objects os completed-same (v.objects o) (h.object_lists o l));
        task_lists = λ t l. state_stays made made (le_refl made) v.objects os completed-same (v.tasks t).state (h.task_lists t l);
        place_lists = λ p l. option_stays made made (le_refl made) v.objects os completed-same (v.places p).result (h.place_lists p l);
        entries = h.entries;
        calls = λ on o p l m a b e f. h.calls on o p l m a b (ap as_pending (back o l) ∙ e) (ap as_pending (back p m) ∙ f);
        task_of = h.task_of;
        awaits = λ t l d o e. awaited_same t o (h.awaits t l d o e);
        awaited = λ o l d t e a. h.awaited o l d t (ap awaiter_of (back o l) ∙ e) a;
        filled = λ g l d. rw (same g l) (h.filled g l d);
        object_slots = λ o l d g x e. slotted-same o g x (h.object_slots o l d g x (ap awaiter_of (back o l) ∙ e));
        task_slots = λ t l a g x e. slotted-same _ g x (h.task_slots t l a g x e);
      }

  pub facts_same : SoundFacts v → SoundFacts (with_objects v os)
  unfolding with_objects
  facts_same h = record { but = but_same h.but; runner = h.runner; runs = h.runs }
