-- Where a window leaves the place and the number: the place within it, and the number behind the one that it began with.
use Rattle.std.specs.Prelude.{◌≡◌, Bool, List, take}
use Rattle.std.proofs.Math.Path.{refl}
use Rattle.std.proofs.Common.{sym, ap, subst, ◌∙◌, true≢false, length-take, length-take-le, le-leb}
use Rattle.std.proofs.Math.Bool.{true, false}
use Prim.Native.Nat.{ℕ, zero, suc, ◌+◌, ◌-◌, ◌≤◌, ◌<◌, min}
use Rattle.std.proofs.Math.Nat.{min-le_right}
use native.Mathlib.Omega.{arith}
use Rattle.std.proofs.Math.ListN.{length}
use Rattle.asyncio.specs.States.{pick}
use Rattle.machine.specs.Store.{Store}
use Rattle.drive_reader.specs.Windows.{record_limit}
use Rattle.drive_lines.specs.Lines.{line_limit}
use Rattle.drive_answer.specs.Driver.{Drives, drive_one}
use Rattle.drive_record.specs.ProgressLaws.{going_on}
use Rattle.drive_window.specs.Window.{last_number, takes, DrivesWindow, stays, stops, behind, window_from, window_rest, drive_window}
use Rattle.drive_window.specs.OneWindow.{DroveWindow}
use Rattle.drive_window.specs.declared.Window.{Window}
use Rattle.drive_window.specs.TakenLaws.{takes_last, takes_whole}

module _ (ended : Bool) (size : ℕ) (src : List ℕ) where
  turn_up : (a g : Bool) (t : List ℕ) (v : DrivesWindow) (x : Drives) (s : Store) (l : List ℕ) (from number : ℕ) → number + 1 ≤ v.number
      → number ≤ (pick a (pick g (behind t v) (stops x number)) (stays s l from number)).number
  unfolding behind stops stays
  turn_up true true t v x s l from number h = omega (arith, h)
  turn_up true false t v x s l from number h = omega arith
  turn_up false g t v x s l from number h = omega arith

  number_up : (k : ℕ) (s : Store) (l : List ℕ) (from at number : ℕ) → number ≤ (window_from k ended size s l src from at number).number
  unfolding window_from stays
  number_up zero s l from at number = omega arith
  number_up (suc k) s l from at number =
      let x : Drives = drive_one s l src from number in
      let v : DrivesWindow = window_from k ended size x.store x.list src x.next (at + length x.text) (number + 1) in
      turn_up (takes ended (length src) from size at number) x.going x.text v x s l from number
      (number_up k x.store x.list x.next (at + length x.text) (number + 1))

  turn-within : (a g : Bool) (t : List ℕ) (v : DrivesWindow) (x : Drives) (s : Store) (l : List ℕ) (from number : ℕ) → from ≤ length src
      → (g ≡ true → v.going ≡ true → v.next ≤ length src)
      → (pick a (pick g (behind t v) (stops x number)) (stays s l from number)).going ≡ true
      → (pick a (pick g (behind t v) (stops x number)) (stays s l from number)).next ≤ length src
  unfolding behind stops stays
  turn-within true true t v x s l from number i h e = h refl e
  turn-within true false t v x s l from number i h e = absurd (true≢false (sym e))
  turn-within false g t v x s l from number i h e = i

  within-from : (k : ℕ) (s : Store) (l : List ℕ) (from at number : ℕ) → from ≤ length src → (window_from k ended size s l src from at number).going ≡ true
      → (window_from k ended size s l src from at number).next ≤ length src
  unfolding window_from stays
  within-from zero s l from at number i e = i
  within-from (suc k) s l from at number i e =
      let x : Drives = drive_one s l src from number in
      let v : DrivesWindow = window_from k ended size x.store x.list src x.next (at + length x.text) (number + 1) in
      turn-within (takes ended (length src) from size at number) x.going x.text v x s l from number i
      (λ g. within-from k x.store x.list x.next (at + length x.text) (number + 1) (going_on s l src from number g).within) e

  -- Where the driver goes on, the place is in the window or at its end.
  pub window_within : (s : Store) (l : List ℕ) (from number : ℕ) → from ≤ length src → (drive_window ended size s l src from number).going ≡ true
      → (drive_window ended size s l src from number).next ≤ length src
  unfolding drive_window window_rest
  window_within s l from number = within-from (suc (length src - from)) s l from 0 number

  turn-goes-up : (a g : Bool) (t : List ℕ) (v : DrivesWindow) (x : Drives) (s : Store) (l : List ℕ) (from number : ℕ) → a ≡ true → number + 1 ≤ v.number
      → (pick a (pick g (behind t v) (stops x number)) (stays s l from number)).going ≡ true
      → number < (pick a (pick g (behind t v) (stops x number)) (stays s l from number)).number
  unfolding behind stops stays
  turn-goes-up true true t v x s l from number y h e = omega (arith, h)
  turn-goes-up true false t v x s l from number y h e = absurd (true≢false (sym e))
  turn-goes-up false g t v x s l from number y h e = absurd (true≢false (sym y))

  first_taken : (from number : ℕ) → line_limit ≤ size → number < last_number → (ended ≡ false → record_limit ≤ length src - from)
      → takes ended (length src) from size 0 number ≡ true
  first_taken from number r n w = by ended refl
    where
      room : line_limit ≤ size - 0
      room = omega (arith, r)

      by : (e : Bool) → ended ≡ e → takes ended (length src) from size 0 number ≡ true
      by true d = sym (takes_last ended (length src) from size 0 number room n d)
      by false d = sym (takes_whole ended (length src) from size 0 number room n d (sym (le-leb record_limit (length src - from) (w d))))

  -- A window that has a whole record, or is the input's last, and room for a line, takes a record: it stops, or the number goes up.
  pub window_goes_up : (s : Store) (l : List ℕ) (from number : ℕ) → line_limit ≤ size → number < last_number → (ended ≡ false → record_limit ≤ length src - from)
      → (drive_window ended size s l src from number).going ≡ true → number < (drive_window ended size s l src from number).number
  unfolding drive_window window_rest window_from
  window_goes_up s l from number r n w =
      let x : Drives = drive_one s l src from number in
      turn-goes-up (takes ended (length src) from size 0 number) x.going x.text _ x s l from number (first_taken from number r n w)
      (number_up (length src - from) x.store x.list x.next (0 + length x.text) (number + 1))

-- ---- the same of what the code has

-- the lines are whole in the buffer
pub drove_fits : {ts os ps cs out : List ℕ} {r : Window} {w : DrivesWindow} → DroveWindow ts os ps cs out r w → r.at ≤ length out
drove_fits {out = out} {r = r} d =
    let n : min r.at (length out) ≡ r.at = sym (length-take r.at out) ∙ (ap length d.text_is ∙ sym d.at_is) in
    subst (λ (k : ℕ). k ≤ length out) n (min-le_right r.at (length out))

-- where the window is what is filled of a buffer
module _ (ended : Bool) (size : ℕ) (s : Store) (l src : List ℕ) (from filled number : ℕ) {ts os ps cs out : List ℕ} {r : Window} (h : filled ≤ length src)
    (d : DroveWindow ts os ps cs out r (drive_window ended size s l (take filled src) from number)) (g : r.going ≡ true) where
  pub drove_goes_up : line_limit ≤ size → number < last_number → (ended ≡ false → record_limit ≤ filled - from) → number < r.number
  drove_goes_up a b w =
      let n : length (take filled src) ≡ filled = length-take-le filled src h in
      subst (λ (k : ℕ). number < k) (sym d.number_is)
      (window_goes_up ended size (take filled src) s l from number a b (λ e. subst (λ (k : ℕ). record_limit ≤ k - from) (sym n) (w e)) (sym d.going_is ∙ g))

  pub drove_within : from ≤ filled → r.next ≤ filled
  drove_within i =
      let n : length (take filled src) ≡ filled = length-take-le filled src h in
      let w = window_within ended size (take filled src) s l from number (subst (λ (k : ℕ). from ≤ k) (sym n) i) (sym d.going_is ∙ g) in
      omega (arith, n, w, d.next_is)
