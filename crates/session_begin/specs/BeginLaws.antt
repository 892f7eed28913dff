-- The beginning of a session.
use Rattle.std.specs.Prelude.{◌≡◌, refl, Bool, true, false, ℕ, zero, suc, ◌+◌, ◌<◌, length, replicate, take, set}
use Rattle.std.proofs.Math.Path.{sym, ap}
use Rattle.std.proofs.Common.{◌∙◌, add-one, take-suc-set}
use mathlib.Core.List.{List, [], ◌∷◌, ◌++◌}
use Rattle.std.proofs.Math.Seq.{take-length}
use Rattle.asyncio.specs.Limits.{tasks_length, objects_length, places_length}
use Rattle.rows.specs.Tables.{task_put, header_put}
use Rattle.queue.specs.declared.ReadyQueue.{ReadyQueue}
use Rattle.queue.specs.Queue.{empty_queue}
use Rattle.machine.specs.Store.{Store, LogEntry, store_of, put_task, put_header, empty, fresh}
use Rattle.machine.specs.Machine as machine
use Rattle.machine.specs.Machine.{Step}
use Rattle.machine.specs.Lent.{slices_right, lent_begin}
use Rattle.exec_switch.specs.Answer.{stepped_of}
use Rattle.exec_switch.specs.declared.answer.Answer.{Answer}
use Rattle.exec_switch.specs.declared.answer.Refusal.{Refusal}
use Rattle.step_checks.specs.Lent.{are_slices}
use Rattle.session_begin.specs.Begin.{main_header, main_task}

-- ---- words cleared one by one

one_zero_more : (i : ℕ) → ◌++◌ {A = ℕ} (replicate {A = ℕ} i 0) (0 ∷ []) ≡ replicate {A = ℕ} (suc i) 0
one_zero_more zero = refl
one_zero_more (suc i) = ap (λ (xs : List ℕ). 0 ∷ xs) (one_zero_more i)

pub clear_turn : (ws : List ℕ) (i : ℕ) → i < length ws → take i ws ≡ replicate i 0 → take (i + 1) (set ws i 0) ≡ replicate (i + 1) 0
clear_turn ws i l e = rw (add-one i) (take-suc-set ws i 0 l ∙ ap (λ (xs : List ℕ). xs ++ (0 ∷ [])) e ∙ one_zero_more i)

pub clear_end : (ws : List ℕ) (i n : ℕ) → i ≡ length ws → length ws ≡ n → take i ws ≡ replicate i 0 → ws ≡ replicate n 0
clear_end ws i n e h r =
    let a : take (length ws) ws ≡ replicate {A = ℕ} (length ws) 0 = rw e at r in
    let b : replicate {A = ℕ} (length ws) 0 ≡ replicate {A = ℕ} n 0 = ap (λ (k : ℕ). replicate {A = ℕ} k 0) h in
    sym (take-length ws) ∙ a ∙ b

-- ---- a fresh session

module _ (ts os ps : List ℕ) (q : ReadyQueue) (l : List LogEntry) {b : Bool} (g : b ≡ are_slices (length ts) (length os) (length ps)) where
  pub begin_refused : b ≡ false → stepped_of (store_of ts os ps q (lent_begin (store_of ts os ps q l)).store.log) (Answer.Refused Refusal.WrongLength) ≡ lent_begin (store_of ts os ps q l)
  unfolding lent_begin slices_right
  begin_refused i = rw (sym g ∙ i)

  module _ (i : b ≡ true) (z : length ts ≡ tasks_length) (y : length os ≡ objects_length) (w : length ps ≡ places_length) where
    begins-fresh : lent_begin (store_of ts os ps q l) ≡ record { store = fresh; answer = machine.Answer.done }
    unfolding lent_begin slices_right
    begins-fresh = rw (sym g ∙ i)

    pub begins : {ts₁ os₁ ps₁ : List ℕ} → ts₁ ≡ replicate (length ts) 0 → os₁ ≡ replicate (length os) 0 → ps₁ ≡ replicate (length ps) 0
        → {ts₂ os₂ : List ℕ} {q₂ : ReadyQueue} → ts₂ ≡ task_put ts₁ 0 main_task → os₂ ≡ header_put os₁ main_header → q₂ ≡ empty_queue
        → stepped_of (store_of ts₂ os₂ ps₁ q₂ (lent_begin (store_of ts os ps q l)).store.log) Answer.Done ≡ lent_begin (store_of ts os ps q l)
    begins {ts₁} {os₁} {ps₁} a c d {ts₂} {os₂} {q₂} e f h =
        let s : store_of ts₂ os₂ ps₁ q₂ [] ≡ fresh = unfold fresh empty put_task put_header in (rw (e, f, h, a, c, d, z, y, w)) in
        let k : (lent_begin (store_of ts os ps q l)).store.log ≡ [] = ap (λ (x : Step). x.store.log) begins-fresh ∙ sym (ap (λ (x : Store). x.log) s) in
        ap (λ (m : List LogEntry). stepped_of (store_of ts₂ os₂ ps₁ q₂ m) Answer.Done) k ∙ ap (λ (x : Store). record { store = x; answer = machine.Answer.done }) s ∙ sym begins-fresh
