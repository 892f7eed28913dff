-- The code's numbers are those of the machine's answer.
use Rattle.std.specs.Prelude.{ℕ, zero, suc, ◌+◌, ◌<◌, ◌≤◌, ◌/◌, ◌^◌, ◌≡◌, refl, true, false, List, [], ◌∷◌, length}
use Rattle.std.proofs.Common.{sym, ap, ◌∙◌, arith, pow_mono}
use Rattle.std.proofs.Math.Option.{none, some}
use Rattle.std.proofs.Math.Nat.{div-eq_of_lt}
use Rattle.asyncio.specs.declared.Value.{Value}
use Rattle.asyncio.specs.Layout.{value_words, value_numbers}
use Rattle.rows.specs.Tables.{place_at}
use Rattle.machine.specs.Scheduler.{bit}
use Rattle.machine.specs.Machine as machine
use Rattle.machine.specs.Machine.{slot_value}
use Rattle.machine.specs.Answers.{error_numbers, how_numbers, control_numbers, place_numbers, shown_numbers, yes_no, answer_numbers}
use Rattle.exec_switch.specs.Control.{control_with}
use Rattle.exec_switch.specs.Answer.{answer_with}
use Rattle.exec_switch.specs.declared.control.How.{How}
use Rattle.exec_switch.specs.declared.control.Control.{Control}
use Rattle.exec_switch.specs.declared.answer.Answer.{Answer}
use Rattle.exec_switch.specs.declared.answer.Refusal.{Refusal}
use Rattle.exec_switch.specs.Refusal.{refusal_number}
use Rattle.step_read.specs.Reads.{places_from, shown_of}
use Rattle.step_read.specs.ReadLaws.{shown-length}
use Rattle.step_read.specs.declared.Shown.{Shown}
use Rattle.boundary_numbers.specs.Numbers.{control_values, shown_values, own_values, numbers_with, numbers_as, places_shown, slot_said, place_said}
use Rattle.boundary_numbers.specs.Code.{said, and_value, refused_as, control_said, answer_said, shown_said}

-- ---- answers

switched_numbers : (cs : List ℕ) (c : Control) → control_said c (length cs) ≡ numbers_as (machine.Answer.control (control_with cs c))
unfolding numbers_as numbers_with own_values control_values answer_numbers control_numbers how_numbers value_numbers error_numbers
switched_numbers cs (Control.Runs t (How.Start c f)) = refl
switched_numbers cs (Control.Runs t (How.Value v)) = refl
switched_numbers cs (Control.Runs t (How.Raised e)) = refl
switched_numbers cs (Control.Runs t (How.Inline c)) = refl
switched_numbers cs Control.Waits = refl

awaited_numbers : (cs : List ℕ) (c : Control) (n : ℕ) → and_value (control_said c (length cs)) n ≡ numbers_as (machine.Answer.awaited (control_with cs c) n)
unfolding numbers_as numbers_with own_values control_values answer_numbers control_numbers how_numbers value_numbers error_numbers
awaited_numbers cs (Control.Runs t (How.Start c f)) n = refl
awaited_numbers cs (Control.Runs t (How.Value v)) n = refl
awaited_numbers cs (Control.Runs t (How.Raised e)) n = refl
awaited_numbers cs (Control.Runs t (How.Inline c)) n = refl
awaited_numbers cs Control.Waits n = refl

pub same_numbers : (cs : List ℕ) (a : Answer) → answer_said a (length cs) ≡ numbers_as (answer_with cs a)
unfolding numbers_as numbers_with own_values answer_numbers value_numbers error_numbers yes_no
same_numbers cs (Answer.Made o) = refl
same_numbers cs (Answer.Called n) = refl
same_numbers cs (Answer.Switched c) = switched_numbers cs c
same_numbers cs (Answer.Awaited c n) = awaited_numbers cs c n
same_numbers cs Answer.Done = refl
same_numbers cs (Answer.Cancelled n) = refl
same_numbers cs Answer.Stalled = refl
same_numbers cs (Answer.Finished v) = refl
same_numbers cs (Answer.FinishedError e) = refl
same_numbers cs (Answer.Eager true) = refl
same_numbers cs (Answer.Eager false) = refl
same_numbers cs (Answer.Refused n) = refl

-- ---- reads

pub same_refused : (r : Refusal) → refused_as r ≡ numbers_as (machine.Answer.refused (refusal_number r))
unfolding numbers_as numbers_with own_values answer_numbers
same_refused r = refl

pub same_shown : (ps : List ℕ) (x : Shown) → shown_said x ≡ numbers_as (machine.Answer.shows (shown_of ps x))
unfolding numbers_as numbers_with own_values shown_values answer_numbers shown_numbers value_numbers error_numbers
same_shown ps (Shown.Coroutine x f) = refl
same_shown ps Shown.ExternalPending = refl
same_shown ps (Shown.ExternalResolved v) = refl
same_shown ps (Shown.ExternalFailed e) = refl
same_shown ps Shown.GatherPending = refl
same_shown ps (Shown.GatherAwaited i n m) = ap (λ (k : ℕ). said 10 (2 ∷ 1 ∷ k ∷ [])) (sym (shown-length ps i m n 0))
same_shown ps (Shown.GatherCompleted i n) = ap (λ (k : ℕ). said 10 (2 ∷ 2 ∷ k ∷ [])) (sym (shown-length ps i 0 n 0))
same_shown ps (Shown.GatherFailed e) = refl
same_shown ps Shown.Nothing = refl

-- ---- places

pub slot_none : said 10 (0 ∷ []) ≡ slot_said none
unfolding slot_said numbers_with place_numbers
slot_none = refl

pub slot_some : (v : Value) → said 10 (1 ∷ (value_words v).0 ∷ (value_words v).1 ∷ []) ≡ slot_said (some v)
unfolding slot_said numbers_with place_numbers value_numbers
slot_some v = refl

-- a mask of 32 bits has no bit from 32 on
pub bit_high : (m i : ℕ) → m < 4294967296 → 32 ≤ i → false ≡ bit m i
bit_high m i l h =
    let most : 2 ^ 32 ≤ 2 ^ i = pow_mono h in
    let none_left : m / 2 ^ i ≡ 0 = div-eq_of_lt (omega (arith, l, most)) in
    rw none_left refl

-- past the last place
pub place_none : (ps : List ℕ) (f m n j i : ℕ) → n ≤ i → refused_as Refusal.Unknown ≡ place_said (places_from ps f m j n) i
unfolding places_from place_said
place_none ps f m zero j i l = same_refused Refusal.Unknown
place_none ps f m (suc n) j zero l = absurd (omega (arith, l))
place_none ps f m (suc n) j (suc i) l = place_none ps f m n (j + 1) i (omega (arith, l))

place_from : (ps : List ℕ) (f m n j i : ℕ) → i < n → slot_said (slot_value (bit m (j + i)) (place_at ps (f + (j + i))).result) ≡ place_said (places_from ps f m j n) i
unfolding places_from place_said
place_from ps f m zero j i l = absurd (omega (arith, l))
place_from ps f m (suc n) j zero l = let e : j + 0 ≡ j = omega arith in ap (λ (k : ℕ). slot_said (slot_value (bit m k) (place_at ps (f + k)).result)) e
place_from ps f m (suc n) j (suc i) l =
    let e : j + suc i ≡ j + 1 + i = omega arith in
    ap (λ (k : ℕ). slot_said (slot_value (bit m k) (place_at ps (f + k)).result)) e ∙ place_from ps f m n (j + 1) i (omega (arith, l))

-- a place
pub place_some : (ps : List ℕ) (f m n i : ℕ) → i < n → slot_said (slot_value (bit m i) (place_at ps (f + i)).result) ≡ place_said (places_from ps f m 0 n) i
place_some ps f m n i l =
    let e : i ≡ 0 + i = omega arith in
    ap (λ (k : ℕ). slot_said (slot_value (bit m k) (place_at ps (f + k)).result)) e ∙ place_from ps f m n 0 i l

-- what shows no places
pub no_place : (ps : List ℕ) (x : Shown) (i : ℕ) → ((f n m : ℕ) → x ≡ Shown.GatherAwaited f n m → ⊥) → ((f n : ℕ) → x ≡ Shown.GatherCompleted f n → ⊥)
    → refused_as Refusal.Unknown ≡ place_said (places_shown (shown_of ps x)) i
unfolding places_shown place_said
no_place ps (Shown.Coroutine x f) i h k = same_refused Refusal.Unknown
no_place ps Shown.ExternalPending i h k = same_refused Refusal.Unknown
no_place ps (Shown.ExternalResolved v) i h k = same_refused Refusal.Unknown
no_place ps (Shown.ExternalFailed e) i h k = same_refused Refusal.Unknown
no_place ps Shown.GatherPending i h k = same_refused Refusal.Unknown
no_place ps (Shown.GatherAwaited f n m) i h k = absurd (h f n m refl)
no_place ps (Shown.GatherCompleted f n) i h k = absurd (k f n refl)
no_place ps (Shown.GatherFailed e) i h k = same_refused Refusal.Unknown
no_place ps Shown.Nothing i h k = same_refused Refusal.Unknown
