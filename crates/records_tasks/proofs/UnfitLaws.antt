-- A store with a row in use of a record that does not fit is not sound, so that its events and reads are refused with 2.
use Rattle.std.specs.Prelude.{◌≡◌, refl, Bool, List, length, get_or, replicate}
use Rattle.std.proofs.Common.{sym, ap, ◌∙◌, inr, not-suc-le-zero}
use Rattle.std.proofs.Math.Path.{subst}
use Rattle.std.proofs.Math.Bool.{true, false}
use Prim.Native.Nat.{ℕ, zero, suc, ◌≤◌, ◌<◌}
use Rattle.std.proofs.Math.Decide.{dec_lt}
use native.Mathlib.Omega.{arith}
use Rattle.std.proofs.Math.Dec.{T}
use Rattle.std.proofs.lemmas.List.{length-replicate}
use Rattle.asyncio.specs.Limits.{task_limit, tasks_length}
use Rattle.rows.specs.Tables.{task_codec, task_start, task_put, header_at}
use Rattle.rows.specs.TableLaws.{header_at-fits}
use Rattle.rows.specs.Canonical.{task_canonical}
use Rattle.rows.specs.CanonicalLaws.{canonical_apart}
use Rattle.queue.specs.declared.ReadyQueue.{ReadyQueue}
use Rattle.machine.specs.Store.{Store, LogEntry, store_of, header, view}
use Rattle.machine.specs.Sound.{sound, words_in_range, sound_view}
use Rattle.machine_laws.specs.TestLaws.{holds, both_left}
use Rattle.machine_laws.specs.WordLaws.{words_facts}
use Rattle.records_tasks.specs.declared.TaskRecord.{TaskRecord}
use Rattle.records_tasks.specs.TaskRecord.{no_record, fits, task_of}
use Rattle.records_tasks.proofs.TaskRecordLaws.{unfit_not_canonical}
use Rattle.records_tasks.specs.TaskRows.{loaded, rows_of}
use Rattle.records_tasks.proofs.TaskRowsLaws.{length-loaded, rows_are}

module _ (ts : List TaskRecord) (t : ℕ) (f : fits (get_or ts t no_record) ≡ false) where
  -- the record laid out as row n: that of record t, or a row behind it
  put-unfit : (n : ℕ) (w : List ℕ) → t < suc n → n < task_limit → length w ≡ tasks_length → (t < n → task_canonical w t ≡ false)
      → task_canonical (task_put w n (task_of (get_or ts n no_record))) t ≡ false
  unfolding task_canonical task_put
  put-unfit n w h m l before = by (dec_lt t n)
    where
      by : Dec (t < n) → task_canonical (task_put w n (task_of (get_or ts n no_record))) t ≡ false
      by (yes k) = canonical_apart task_codec w (task_start n) (task_start t) (task_of (get_or ts n no_record)) (inr (omega arith)) ∙ before k
      by (no k) =
          let e : t ≡ n = omega arith in
          subst (λ (j : ℕ). task_canonical (task_put w j (task_of (get_or ts j no_record))) t ≡ false) e (unfit_not_canonical w t (get_or ts t no_record) f (omega arith))

  -- the first n records laid out
  row-unfit : (n : ℕ) (w : List ℕ) → t < n → n ≤ task_limit → length w ≡ tasks_length → task_canonical (loaded ts n w) t ≡ false
  unfolding loaded
  row-unfit zero w h m l = absurd (not-suc-le-zero h)
  row-unfit (suc n) w h m l = put-unfit n (loaded ts n w) h (omega arith) (length-loaded ts n w ∙ l) (λ k. row-unfit n w k (omega arith) l)

  module _ (os ps : List ℕ) (q : ReadyQueue) (l : List LogEntry) (h : t < (header_at os).next) where
    -- the store with the words of the records in use
    abbrev laid_out : Store
    laid_out = store_of (rows_of ts (header_at os).next) os ps q l

    row_laid_out : task_canonical (rows_of ts (header_at os).next) t ≡ false
    row_laid_out =
        ap (λ (w : List ℕ). task_canonical w t) (sym (rows_are ts (header_at os).next))
        ∙ row-unfit (header_at os).next (replicate tasks_length 0) h (header_at-fits os).next_fits (length-replicate {A = ℕ} tasks_length 0)

    unsound-by : (b : Bool) → sound laid_out ≡ b → sound laid_out ≡ false
    unfolding sound header
    unsound-by false e = e
    unsound-by true e =
        let right : T (task_canonical (rows_of ts (header_at os).next) t) = (words_facts laid_out (both_left (words_in_range laid_out) (sound_view (view laid_out)) (holds _ e))).tasks_right t h in
        absurd (subst T row_laid_out right)

    pub unfit_unsound : sound laid_out ≡ false
    unfit_unsound = unsound-by (sound laid_out) refl
