-- Windows one after the other are the whole input: what a window writes, and then what is written from where it stopped, is what the driver writes.
use Rattle.std.specs.Prelude.{◌≡◌, Bool, ◌&&◌, ◌||◌, ltb, drop}
use Rattle.std.proofs.Math.Path.{refl, sym, ap}
use Rattle.std.proofs.Common.{◌∙◌, arith, length-drop, leb-true}
use Rattle.std.proofs.Math.Bool.{true, false}
use mathlib.Core.List.{List, [], ◌++◌, append_assoc, append-nil}
use Prim.Native.Nat.{ℕ, zero, suc, ◌+◌, ◌-◌, ◌≤◌, ◌<◌}
use Rattle.std.proofs.Math.Dec.{leb}
use Rattle.std.proofs.Math.ListN.{length}
use Rattle.std.proofs.lemmas.List.{drop-append-le}
use Rattle.asyncio.specs.States.{pick}
use Rattle.endian.specs.Endian.{le1}
use Rattle.machine.specs.Store.{Store}
use Rattle.machine_laws.specs.TestLaws.{and-true}
use Rattle.drive_reader.specs.Windows.{record_limit}
use Rattle.drive_lines.specs.Lines.{line_limit}
use Rattle.drive_answer.specs.Driver.{Drives, drive_one}
use Rattle.drive_record.specs.Drive.{drive_from, drive_rest, moved}
use Rattle.drive_record.specs.ProgressLaws.{going_on, drives_on}
use Rattle.drive_record.specs.WindowLaws.{drive_enough, drive-moved}
use Rattle.drive_window.specs.Window.{last_number, takes, DrivesWindow, stays, stops, behind, window_from, window_rest, drive_window}

-- ---- one record, and those behind it

abbrev one_and : Bool → ℕ → Store → List ℕ → List ℕ → ℕ → ℕ → ℕ → (Drives → DrivesWindow) → DrivesWindow
one_and ended size s l src from at number f =
    let x : Drives = drive_one s l src from number in
    pick (takes ended (length src) from size at number) (pick x.going (behind x.text (f x)) (stops x number)) (stays s l from number)

one_more : (k : ℕ) (ended : Bool) (size : ℕ) (s : Store) (l src : List ℕ) (from at number : ℕ)
    → window_from (suc k) ended size s l src from at number
    ≡ one_and ended size s l src from at number (λ x. window_from k ended size x.store x.list src x.next (at + length x.text) (number + 1))
unfolding window_from
one_more k ended size s l src from at number = refl

same_others : (a b : Bool) (t : List ℕ) (y z : DrivesWindow) {v w : DrivesWindow} → (b ≡ true → v ≡ w) → pick a (pick b (behind t v) y) z ≡ pick a (pick b (behind t w) y) z
same_others true true t y z h = ap (behind t) (h refl)
same_others true false t y z h = refl
same_others false b t y z h = refl

-- where as many are allowed as bytes are left and one more, it does not matter how many
fuel_same : (j k : ℕ) (ended : Bool) (size : ℕ) (s : Store) (l src : List ℕ) (from at number : ℕ) → length src - from < j → length src - from < k
    → window_from j ended size s l src from at number ≡ window_from k ended size s l src from at number
fuel_same zero k ended size s l src from at number a b = absurd (omega arith)
fuel_same (suc j) zero ended size s l src from at number a b = absurd (omega arith)
fuel_same (suc j) (suc k) ended size s l src from at number a b =
    let x : Drives = drive_one s l src from number in
    one_more j ended size s l src from at number
    ∙ (same_others (takes ended (length src) from size at number) x.going x.text _ _
    (λ g. let o = going_on s l src from number g in
    fuel_same j k ended size x.store x.list src x.next (at + length x.text) (number + 1) (omega (arith, o.behind, o.within)) (omega (arith, o.behind, o.within)))
    ∙ sym (one_more k ended size s l src from at number))

-- The window from a place on: the record there, if it is taken, and the window from the next place on.
pub window_turn : (ended : Bool) (size : ℕ) (s : Store) (l src : List ℕ) (from at number : ℕ)
    → window_rest ended size s l src from at number
    ≡ one_and ended size s l src from at number (λ x. window_rest ended size x.store x.list src x.next (at + length x.text) (number + 1))
unfolding window_rest
window_turn ended size s l src from at number =
    let x : Drives = drive_one s l src from number in
    one_more (length src - from) ended size s l src from at number
    ∙ same_others (takes ended (length src) from size at number) x.going x.text _ _
    (λ g. let o = going_on s l src from number g in
    fuel_same (length src - from) (suc (length src - x.next)) ended size x.store x.list src x.next (at + length x.text) (number + 1) (omega (arith, o.behind, o.within)) (omega arith))

-- ---- a window is a part of the whole

-- each is a byte
abbrev pub Bytes : List ℕ → Type 0
Bytes src = (i : ℕ) → le1 src i < 256

-- what is written from the place on where a window stopped, if the driver goes on there
abbrev pub rest_of : DrivesWindow → List ℕ → List ℕ
rest_of w src = pick w.going (drive_rest w.store w.list src w.next w.number) []

module _ (ended : Bool) (size : ℕ) (src more : List ℕ) (b : Bytes src) (none : ended ≡ true → more ≡ []) where
  -- a record that is taken is driven as in the whole
  taken-same : (s : Store) (l : List ℕ) (from at number : ℕ) → takes ended (length src) from size at number ≡ true
      → drive_one s l (src ++ more) from number ≡ drive_one s l src from number
  unfolding takes
  taken-same s l from at number t =
      by ended refl (and-true (ltb number last_number) (ended || leb record_limit (length src - from))
      (and-true (leb line_limit (size - at)) (ltb number last_number && (ended || leb record_limit (length src - from))) t).1).1
    where
      by : (e : Bool) → ended ≡ e → (e || leb record_limit (length src - from)) ≡ true → drive_one s l (src ++ more) from number ≡ drive_one s l src from number
      by true d h = ap (λ (z : List ℕ). drive_one s l z from number) (ap (λ (z : List ℕ). src ++ z) (none d) ∙ append-nil src)
      by false d h = drive_enough src more s l from number (b (from + 3)) (leb-true record_limit (length src - from) h)

  turn-part : (a g : Bool) (t : List ℕ) (v : DrivesWindow) (x : Drives) (s : Store) (l : List ℕ) (from number : ℕ) (whole : List ℕ) → t ≡ x.text
      → (a ≡ true → whole ≡ t ++ pick g (v.text ++ rest_of v (src ++ more)) [])
      → (a ≡ false → whole ≡ drive_rest s l (src ++ more) from number)
      → whole ≡ (pick a (pick g (behind t v) (stops x number)) (stays s l from number)).text
      ++ rest_of (pick a (pick g (behind t v) (stops x number)) (stays s l from number)) (src ++ more)
  unfolding behind stops stays
  turn-part true true t v x s l from number whole e h k = h refl ∙ sym (append_assoc t v.text (rest_of v (src ++ more)))
  turn-part true false t v x s l from number whole e h k = h refl ∙ ap (λ (z : List ℕ). z ++ []) e
  turn-part false g t v x s l from number whole e h k = k refl

  part-from : (k : ℕ) (s : Store) (l : List ℕ) (from at number : ℕ)
      → drive_rest s l (src ++ more) from number
      ≡ (window_from k ended size s l src from at number).text ++ rest_of (window_from k ended size s l src from at number) (src ++ more)
  unfolding window_from stays
  part-from zero s l from at number = refl
  part-from (suc k) s l from at number =
      let x : Drives = drive_one s l src from number in
      let v : DrivesWindow = window_from k ended size x.store x.list src x.next (at + length x.text) (number + 1) in
      turn-part (takes ended (length src) from size at number) x.going x.text v x s l from number (drive_rest s l (src ++ more) from number) refl
      (λ t. drives_on s l (src ++ more) from number
      ∙ (ap (λ (z : Drives). z.text ++ pick z.going (drive_rest z.store z.list (src ++ more) z.next (number + 1)) []) (taken-same s l from at number t)
      ∙ ap (λ (z : List ℕ). x.text ++ pick x.going z []) (part-from k x.store x.list x.next (at + length x.text) (number + 1))))
      (λ t. refl)

  -- What a window writes, and then what is written from where it stopped, is what the driver writes of the whole.
  pub window-is-drive : (s : Store) (l : List ℕ) (from number : ℕ)
      → drive_rest s l (src ++ more) from number
      ≡ (drive_window ended size s l src from number).text ++ rest_of (drive_window ended size s l src from number) (src ++ more)
  unfolding drive_window window_rest
  window-is-drive s l from number = part-from (suc (length src - from)) s l from 0 number

-- ---- the bytes in front are dropped

moved-from : (j k : ℕ) (s : Store) (l src : List ℕ) (at number : ℕ) → drive_from j s l src (k + at) number ≡ drive_from j s l (drop k src) at number
unfolding drive_from moved
moved-from zero k s l src at number = refl
moved-from (suc j) k s l src at number =
    let x : Drives = drive_one s l (drop k src) at number in
    ap (λ (z : Drives). z.text ++ pick z.going (drive_from j z.store z.list src z.next (number + 1)) []) (drive-moved src k s l at number)
    ∙ ap (λ (z : List ℕ). x.text ++ pick x.going z []) (moved-from j k x.store x.list src x.next (number + 1))

-- the rest of the input, counted from its own start
pub rest-moved : (k : ℕ) (s : Store) (l src : List ℕ) (at number : ℕ) → drive_rest s l src (k + at) number ≡ drive_rest s l (drop k src) at number
unfolding drive_rest
rest-moved k s l src at number =
    let n : length src - (k + at) ≡ length (drop k src) - at = let d : length (drop k src) ≡ length src - k = length-drop k src in omega (arith, d) in
    ap (λ (j : ℕ). drive_from (suc j) s l src (k + at) number) n ∙ moved-from (suc (length (drop k src) - at)) k s l src at number

-- Windows one after the other: where the driver goes on, what is left is written of the bytes behind the window's place, with what follows them.
pub windows_go_on : (ended : Bool) (size : ℕ) (s : Store) (l src more : List ℕ) (from number : ℕ) → Bytes src → (ended ≡ true → more ≡ [])
    → (let w : DrivesWindow = drive_window ended size s l src from number in w.going ≡ true → w.next ≤ length src
    → drive_rest s l (src ++ more) from number ≡ w.text ++ drive_rest w.store w.list (drop w.next src ++ more) 0 w.number)
windows_go_on ended size s l src more from number b none g i =
    let w : DrivesWindow = drive_window ended size s l src from number in
    let z : w.next ≡ w.next + 0 = omega arith in
    window-is-drive ended size src more b none s l from number
    ∙ (ap (λ (c : Bool). w.text ++ pick c (drive_rest w.store w.list (src ++ more) w.next w.number) []) g
    ∙ (ap (λ (p : ℕ). w.text ++ drive_rest w.store w.list (src ++ more) p w.number) z
    ∙ ap (λ (y : List ℕ). w.text ++ y)
    (rest-moved w.next w.store w.list (src ++ more) 0 w.number
    ∙ ap (λ (y : List ℕ). drive_rest w.store w.list y 0 w.number) (drop-append-le w.next src more i))))

-- and where it stops, all is written
pub windows_stop : (ended : Bool) (size : ℕ) (s : Store) (l src more : List ℕ) (from number : ℕ) → Bytes src → (ended ≡ true → more ≡ [])
    → (let w : DrivesWindow = drive_window ended size s l src from number in w.going ≡ false → drive_rest s l (src ++ more) from number ≡ w.text)
windows_stop ended size s l src more from number b none g =
    let w : DrivesWindow = drive_window ended size s l src from number in
    window-is-drive ended size src more b none s l from number
    ∙ (ap (λ (c : Bool). w.text ++ pick c (drive_rest w.store w.list (src ++ more) w.next w.number) []) g ∙ append-nil w.text)
