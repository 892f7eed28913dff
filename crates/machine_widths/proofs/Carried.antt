-- Document 02, No. 1: "Every sound state of the old width is carried over and then gives the same answers to the same events up to the first refusal 8; this is
-- proved once for both widths." The theorems to read. (Sized and the queue's length: the memory has its lengths, as refusal 1 and the queue's type have it.
-- AllInRange: a function's or an error's number has 32 bits, as the code's types have it.)
use Rattle.std.specs.Prelude.{◌≡◌, List, ℕ, ◌≤◌, T, length}
use Rattle.std.proofs.Common.{sym, subst, ◌∙◌, arith}
use Rattle.asyncio.specs.Limits.{task_limit, call_limit}
use Rattle.machine.specs.Store.{Store, header}
use Rattle.machine.specs.Sound.{sound}
use Rattle.machine.specs.Machine.{Event, refusal, after, answers}
use Rattle.machine_laws.specs.Views.{Sized}
use Rattle.machine_theorems.specs.Soundness.Stores.{sound-store_of}
use Rattle.machine_theorems.specs.Soundness.Sessions.{AllInRange}
use Rattle.machine_widths.specs.Widths.{old_limit, sound_at, refusal_at, after_at, answers_at, before_8, Without8}
use Rattle.machine_widths.specs.Readings.{old_sound}
use Rattle.machine_widths.specs.WidthLaws.{SoundAt}
use Rattle.machine_widths.proofs.WidthLaws.{sound-here, sound_of_at, sound-wider, refusal_limit, let_through}
use Rattle.machine_widths.proofs.Sessions.{same-before_8, all_before_8, session-sound_at, after_limit, answers_limit}
use Rattle.machine_widths.specs.ReadingLaws.{ReadAlike}
use Rattle.machine_widths.proofs.ReadingLaws.{read_alike, sound_by-is}

-- Soundness as the old width read a store is that of the machine with 65,536 call numbers.
pub old_sound-is : (s : Store) → old_sound s ≡ sound_at old_limit s
old_sound-is s = sound_by-is old_limit old_limit (omega arith) (omega arith) (omega arith) (omega arith) s

module _ (es : List Event) (s : Store) (i : AllInRange es) (z : Sized s) (q : length s.queue.ids ≡ task_limit) where
  stored : (n : ℕ) → T (sound_at n s) → SoundAt n s
  stored n h = let k = sound_of_at n s h in record { store = sound-store_of s z q k.0; within = k.1 }

  -- ---- for any two limits

  -- A sound state of n call numbers is, word for word, one of any m above, up to `call_limit`, and gives the same answers and leaves the same stores up to the
  -- first refusal 8.
  pub carried : (n m : ℕ) → n ≤ m → m ≤ call_limit → T (sound_at n s)
      → T (sound_at m s) × (answers_at m s (before_8 n s es) ≡ answers_at n s (before_8 n s es)) × (after_at m s (before_8 n s es) ≡ after_at n s (before_8 n s es))
  carried n m l u h = let k = same-before_8 n m l (omega (arith, l, u)) es s i (stored n h) in (sound-wider n m l s h, k.0, k.1)

  -- ---- the old width and today's

  -- A store that is sound as the old width read it is sound, and the machine answers as that of the old width did up to its first refusal 8, and leaves the
  -- same stores.
  pub old_state_carried : T (old_sound s)
      → T (sound s) × (answers s (before_8 old_limit s es) ≡ answers_at old_limit s (before_8 old_limit s es)) × (after s (before_8 old_limit s es) ≡ after_at old_limit s (before_8 old_limit s es))
  old_state_carried h =
      let o : T (sound_at old_limit s) = subst T (old_sound-is s) h in
      let k = carried old_limit call_limit (omega arith) (omega arith) o in (
        (sound_of_at old_limit s o).0,
        sym (answers_limit (before_8 old_limit s es) s) ∙ k.1,
        sym (after_limit (before_8 old_limit s es) s) ∙ k.2,
      )

  -- So a session that met no refusal 8 is answered as it was, and leaves the same store.
  pub old_session_carried : T (old_sound s) → Without8 (answers_at old_limit s es) → (answers s es ≡ answers_at old_limit s es) × (after s es ≡ after_at old_limit s es)
  old_session_carried h w =
      let k = old_state_carried h in
      let e : before_8 old_limit s es ≡ es = all_before_8 old_limit es s w in (
        subst (λ (xs : List Event). answers s xs ≡ answers_at old_limit s xs) e k.1,
        subst (λ (xs : List Event). after s xs ≡ after_at old_limit s xs) e k.2,
      )

  -- Each state on the way, also behind a refusal 8, is sound as the old width read it, and its rows in use are read alike by both: what the machine of the
  -- old width read there, this one reads.
  pub old_states_read_alike : T (old_sound s) → T (old_sound (after_at old_limit s es)) × ReadAlike old_limit old_limit (after_at old_limit s es)
  old_states_read_alike h =
      let u : Store = after_at old_limit s es in
      let k : SoundAt old_limit u = session-sound_at old_limit (omega arith) es s i (stored old_limit (subst T (old_sound-is s) h)) in
      let t : T (old_sound u) = subst T (sym (old_sound-is u)) (sound-here old_limit (omega arith) u k) in
      (t, read_alike old_limit old_limit (omega arith) (omega arith) (omega arith) (omega arith) u t)

-- Where the old width refused an event with 8, all its numbers were handed out, and now nothing meets the event.
pub old_limit_passed : (s : Store) (e : Event) → T (old_sound s) → refusal_at old_limit s e ≡ 8 → ((header s).calls ≡ old_limit) × (refusal s e ≡ 0)
old_limit_passed s e h r =
    let k = let_through old_limit call_limit (omega arith) s e (subst T (old_sound-is s) h) r in
    (k.0, sym (refusal_limit s e) ∙ k.1)
