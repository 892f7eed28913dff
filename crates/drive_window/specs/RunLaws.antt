-- What the turns of the program's loop write, one after the other, is what the driver writes of the whole input.
use Rattle.std.specs.Prelude.{◌≡◌, Bool, true, false, ℕ, zero, suc, ◌+◌, ◌≤◌, ◌<◌, ltb, length, take, replicate}
use Rattle.std.proofs.Math.Path.{sym}
use Rattle.std.proofs.Common.{ap, subst, ◌∙◌, arith, length-take-le, ltb-true}
use mathlib.Core.List.{List, [], ◌∷◌, ◌++◌, append_assoc}
use Rattle.std.proofs.Math.Seq.{slice}
use Rattle.std.proofs.lemmas.List.{drop-append-le}
use Rattle.asyncio.specs.Limits.{object_limit}
use Rattle.queue.specs.declared.ReadyQueue.{ReadyQueue}
use Rattle.machine.specs.Store.{Store, LogEntry, store_of, fresh}
use Rattle.drive_record.specs.Drive.{drive_rest, drive}
use Rattle.drive_window.specs.Window.{DrivesWindow, drive_window}
use Rattle.drive_window.specs.WindowLaws.{Bytes, rest-moved, windows_go_on, windows_stop}
use Rattle.drive_window.specs.OnwardLaws.{window_within}
use Rattle.drive_window.specs.Input.{Refilled, Readied}
use Rattle.drive_window.specs.Run.{Turn, window_of, turn_of, Reached, Stands}
use Rattle.drive_window.specs.OneWindow.{DroveWindow}
use Rattle.drive_window.specs.declared.Window.{Window}

-- ---- one turn

-- what is to be written of the unread bytes and of those behind them
abbrev left_of : Turn → List ℕ → List ℕ
left_of t later = drive_rest t.store t.list (slice t.from t.filled t.buffer ++ later) 0 t.number

bytes_taken : (n : ℕ) (l : List ℕ) → Bytes l → Bytes (take n l)
bytes_taken zero l b i = omega arith
bytes_taken (suc n) [] b i = omega arith
bytes_taken (suc n) (x ∷ l) b zero = b zero
bytes_taken (suc n) (x ∷ l) b (suc i) = bytes_taken n l (λ j. b (suc j)) i

module _ (size : ℕ) (t : Turn) where
  abbrev window : List ℕ
  window = take t.filled t.buffer

  inside : t.from ≤ length window
  inside = subst (λ (n : ℕ). t.from ≤ n) (sym (length-take-le t.filled t.buffer t.within)) t.in_order

  in_window : Bytes window
  in_window = bytes_taken t.filled t.buffer t.bytes

  from-its-place : (later : List ℕ) → left_of t later ≡ drive_rest t.store t.list (window ++ later) t.from t.number
  from-its-place later =
      let z : t.from + 0 ≡ t.from = omega arith in
      sym (ap (λ (p : ℕ). drive_rest t.store t.list (window ++ later) p t.number) (sym z)
      ∙ (rest-moved t.from t.store t.list (window ++ later) 0 t.number
      ∙ ap (λ (y : List ℕ). drive_rest t.store t.list y 0 t.number) (drop-append-le t.from window later inside)))

  turn-stops : (later : List ℕ) → (window_of size t).going ≡ false → (t.filled < length t.buffer → later ≡ []) → left_of t later ≡ (window_of size t).text
  turn-stops later g none =
      from-its-place later
      ∙ windows_stop (ltb t.filled (length t.buffer)) size t.store t.list window later t.from t.number in_window (λ e. none (ltb-true _ _ e)) g

  turn-goes-on : {after : List ℕ} {from' filled' : ℕ} (later : List ℕ) → (window_of size t).going ≡ true
      → (r : Readied t.buffer after (window_of size t).next t.filled from' filled') (b : Bytes after)
      → (t.filled < length t.buffer → r.refilled.more ++ later ≡ [])
      → left_of t (r.refilled.more ++ later)
      ≡ (window_of size t).text ++ left_of (turn_of (window_of size t).store (window_of size t).list (window_of size t).number r.refilled b) later
  turn-goes-on later g r b none =
      let w : DrivesWindow = window_of size t in
      let more : List ℕ = r.refilled.more in
      let ended : Bool = ltb t.filled (length t.buffer) in
      from-its-place (more ++ later)
      ∙ (windows_go_on ended size t.store t.list window (more ++ later) t.from t.number in_window (λ e. none (ltb-true _ _ e)) g
      (window_within ended size window t.store t.list t.from t.number inside g)
      ∙ ap (λ (y : List ℕ). w.text ++ drive_rest w.store w.list y 0 w.number)
      (sym (append_assoc (slice w.next t.filled t.buffer) more later) ∙ ap (λ (y : List ℕ). y ++ later) (sym r.refilled.unread_is)))

-- ---- all of them

-- What was handed out, and what is to be written of the bytes that are unread and of those behind them, is what the driver writes of the whole input.
pub reached-is-drive : {size : ℕ} {t : Turn} {read wrote : List ℕ} → Reached size t read wrote → (later : List ℕ) → (t.filled < length t.buffer → later ≡ [])
    → drive (read ++ later) ≡ wrote ++ left_of t later
unfolding drive
reached-is-drive (Reached.begins empty buffer from filled r b) later none =
    ap (λ (y : List ℕ). drive_rest fresh (replicate object_limit 0) (y ++ later) 0 1) (sym r.unread_is)
reached-is-drive {size = size} (Reached.goes t read wrote after from' filled' x g r b) later none =
    let more : List ℕ = r.refilled.more in
    let w : DrivesWindow = window_of size t in
    let ends : t.filled < length t.buffer → more ++ later ≡ [] = λ h. ap (λ (y : List ℕ). y ++ later) (r.ended h).0 ∙ none (r.ended h).1 in
    ap (λ (y : List ℕ). drive_rest fresh (replicate object_limit 0) y 0 1) (append_assoc read more later)
    ∙ (unfold drive in (reached-is-drive x (more ++ later) ends)
    ∙ (ap (λ (y : List ℕ). wrote ++ y) (turn-goes-on size t later g r b ends) ∙ sym (append_assoc wrote w.text _)))

-- Where the driver stops, all that was handed out is what it writes of the whole input: what was read, and what is left unread.
pub program_is_drive : {size : ℕ} {t : Turn} {read wrote : List ℕ} → Reached size t read wrote → (window_of size t).going ≡ false
    → (later : List ℕ) → (t.filled < length t.buffer → later ≡ []) → wrote ++ (window_of size t).text ≡ drive (read ++ later)
program_is_drive {size = size} {t = t} {wrote = wrote} x g later none =
    sym (reached-is-drive x later none ∙ ap (λ (y : List ℕ). wrote ++ y) (turn-stops size t later g none))

-- ---- the code's loop

-- at the beginning
pub stands_begins : (size : ℕ) {ts os ps empty src : List ℕ} {q : ReadyQueue} {from filled : ℕ} (log : List LogEntry) → store_of ts os ps q log ≡ fresh
    → Refilled empty src 0 0 from filled → Bytes src → Stands size ts os ps (replicate object_limit 0) src q from filled 1
stands_begins size {src = src} {from = from} {filled = filled} log e r b = record {
  log = log;
  read = r.more;
  wrote = [];
  in_order = r.in_order;
  within = r.within;
  bytes = b;
  reached = subst (λ (s : Store). Reached size (turn_of s (replicate object_limit 0) 1 r b) r.more []) (sym e) (Reached.begins _ src from filled r b);
}

-- a window was taken, and then more was read
pub stands_goes_on : {size : ℕ} {ts os ps cs src : List ℕ} {q : ReadyQueue} {from filled number : ℕ} → Stands size ts os ps cs src q from filled number
    → {ts' os' ps' cs' out after : List ℕ} {w : Window} {from' filled' : ℕ} (size' : ℕ) → size' ≡ size
    → ((l : List LogEntry)
    → DroveWindow ts' os' ps' cs' out w (drive_window (ltb filled (length src)) size' (store_of ts os ps q l) cs (take filled src) from number))
    → w.going ≡ true → Readied src after w.next filled from' filled' → Bytes after
    → Stands size ts' os' ps' cs' after w.queue from' filled' w.number
stands_goes_on {size} {ts} {os} {ps} {cs} {src} {q} {from} {filled} {number} h {ts'} {os'} {ps'} {cs'} {out} {after} {w} {from'} {filled'} size' same d' g r' b =
    let x : DrivesWindow = drive_window (ltb filled (length src)) size (store_of ts os ps q h.log) cs (take filled src) from number in
    let d : DroveWindow ts' os' ps' cs' out w x =
    subst (λ (n : ℕ). DroveWindow ts' os' ps' cs' out w (drive_window (ltb filled (length src)) n (store_of ts os ps q h.log) cs (take filled src) from number)) same (d' h.log) in
    let r : Readied src after x.next filled from' filled' = subst (λ (n : ℕ). Readied src after n filled from' filled') d.next_is r' in
    let read : List ℕ = h.read ++ r.refilled.more in
    let wrote : List ℕ = h.wrote ++ x.text in
    record {
      log = x.store.log;
      read = read;
      wrote = wrote;
      in_order = r.refilled.in_order;
      within = r.refilled.within;
      bytes = b;
      reached =
          subst (λ (s : Store). Reached size (turn_of s cs' w.number r.refilled b) read wrote) (sym d.store_is)
          (subst (λ (l : List ℕ). Reached size (turn_of x.store l w.number r.refilled b) read wrote) (sym d.list_is)
          (subst (λ (n : ℕ). Reached size (turn_of x.store x.list n r.refilled b) read wrote) (sym d.number_is)
          (Reached.goes _ h.read h.wrote after from' filled' h.reached (sym d.going_is ∙ g) r b)));
    }
