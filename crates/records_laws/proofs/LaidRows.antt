-- Records that were saved from words, laid out again, are these words: where the rows in use are canonical and the other words are 0.
use Rattle.std.specs.Prelude.{◌≡◌, refl, ◌⊎◌, Bool, true, false, List, [], ◌∷◌, ℕ, zero, suc, ◌+◌, ◌*◌, ◌≤◌, ◌<◌, T, leb, length, get_or, set, replicate}
use Rattle.std.proofs.Common.{sym, ap, subst, ◌∙◌, inl, inr, arith, get_or-set_same, get_or-set_other, ext_get_or, leb-true, leb-false}
use Rattle.std.proofs.Math.Decide.{ℕ_discrete}
use Rattle.std.proofs.lemmas.List.{length-replicate}
use Rattle.asyncio.specs.Limits.{task_limit, task_width, tasks_length}
use Rattle.asyncio.specs.Layout.{task_words}
use Rattle.asyncio.specs.declared.Task.{Task}
use Rattle.rows.specs.Rows.{row_from, put_from}
use Rattle.rows.specs.RowLaws.{row-put_from, row_apart}
use Rattle.rows.specs.Canonical.{task_canonical}
use Rattle.rows.specs.CanonicalLaws.{words_same}
use Rattle.rows.specs.Tables.{task_at, task_put, task_start}
use Rattle.rows.specs.TableLaws.{length-task_put}
use Rattle.records_tasks.specs.declared.TaskRecord.{TaskRecord}
use Rattle.records_tasks.specs.TaskRecord.{no_record, record_of, task_of}
use Rattle.records_tasks.proofs.TaskRecordLaws.{task_back}
use Rattle.records_tasks.specs.TaskRows.{loaded, rows_of, saved}
use Rattle.records_tasks.proofs.TaskRowsLaws.{length-loaded, length-saved}
use Rattle.records_laws.proofs.UnusedRows.{zeros_clear, past_clear}

-- ---- what was saved

pub saved-at : (w : List ℕ) (n : ℕ) (ts : List TaskRecord) (t : ℕ) → n ≤ length ts → t < n → get_or (saved w n ts) t no_record ≡ record_of (task_at w t)
unfolding saved
saved-at w zero ts t l h = absurd (omega (arith, h))
saved-at w (suc n) ts t l h = by (ℕ_discrete t n) (λ k. saved-at w n ts t (omega (arith, l)) k)
  where
    by : Dec (t ≡ n) → (t < n → get_or (saved w n ts) t no_record ≡ record_of (task_at w t)) → get_or (set (saved w n ts) n (record_of (task_at w n))) t no_record ≡ record_of (task_at w t)
    by (yes e) more =
        subst (λ (k : ℕ). get_or (set (saved w n ts) n (record_of (task_at w n))) k no_record ≡ record_of (task_at w k)) (sym e)
        (get_or-set_same (saved w n ts) n (record_of (task_at w n)) no_record (rw (length-saved w n ts) (omega (arith, l))))
    by (no ne) more = get_or-set_other (saved w n ts) n t (record_of (task_at w n)) no_record ne ∙ more (omega (arith, h, ne))

-- ---- what was laid out

loaded_past : (n : ℕ) (ts : List TaskRecord) (z : List ℕ) (i : ℕ) → n * task_width ≤ i → get_or (loaded ts n z) i 0 ≡ get_or z i 0
unfolding loaded
loaded_past zero ts z i l = refl
loaded_past (suc n) ts z i l = past_clear (loaded ts n z) n i _ l ∙ loaded_past n ts z i (omega (arith, l))

put_row : (w : List ℕ) (t : ℕ) (r : Task) → t * task_width + task_width ≤ length w → row_from (task_put w t r) (task_start t) 0 8 ≡ task_words r
unfolding task_put
put_row w t r l = row-put_from w (task_start t) 0 (task_words r) (omega (arith, l))

put_other : (w : List ℕ) (t u : ℕ) (r : Task) → u < t → row_from (task_put w t r) (task_start u) 0 8 ≡ row_from w (task_start u) 0 8
unfolding task_put
put_other w t u r l = row_apart w (task_start t) (task_start u) 8 (task_words r) (inr (omega (arith, l)))

loaded-row : (n : ℕ) (ts : List TaskRecord) (z : List ℕ) (t : ℕ) → n * task_width ≤ length z → t < n
    → row_from (loaded ts n z) (task_start t) 0 8 ≡ task_words (task_of (get_or ts t no_record))
unfolding loaded
loaded-row zero ts z t l h = absurd (omega (arith, h))
loaded-row (suc n) ts z t l h = by (ℕ_discrete t n) (λ k. loaded-row n ts z t (omega (arith, l)) k)
  where
    r : Task
    r = task_of (get_or ts n no_record)

    by : Dec (t ≡ n) → (t < n → row_from (loaded ts n z) (task_start t) 0 8 ≡ task_words (task_of (get_or ts t no_record)))
        → row_from (task_put (loaded ts n z) n r) (task_start t) 0 8 ≡ task_words (task_of (get_or ts t no_record))
    by (yes e) more =
        subst (λ (k : ℕ). row_from (task_put (loaded ts n z) n r) (task_start k) 0 8 ≡ task_words (task_of (get_or ts k no_record))) (sym e)
        (put_row (loaded ts n z) n r (rw (length-loaded ts n z) (omega (arith, l))))
    by (no ne) more = put_other (loaded ts n z) n t r (omega (arith, h, ne)) ∙ more (omega (arith, h, ne))

-- ---- words that have the same rows

canonical_row : (w : List ℕ) (t : ℕ) → T (task_canonical w t) → task_words (task_at w t) ≡ row_from w (task_start t) 0 8
unfolding task_canonical task_at
canonical_row w t h = words_same _ _ h

head_of : ℕ → List ℕ → ℕ
head_of d [] = d
head_of d (x ∷ xs) = x

tail_of : List ℕ → List ℕ
tail_of [] = []
tail_of (x ∷ xs) = xs

row_word : (k : ℕ) (v w : List ℕ) (b j : ℕ) → row_from v b j k ≡ row_from w b j k → (i : ℕ) → b + j ≤ i → i < b + j + k → get_or v i 0 ≡ get_or w i 0
unfolding head_of tail_of
row_word zero v w b j e i l h = absurd (omega (arith, l, h))
row_word (suc k) v w b j e i l h = by (ℕ_discrete i (b + j)) (λ m. row_word k v w b (suc j) (ap tail_of e) i m (omega (arith, h)))
  where
    by : Dec (i ≡ b + j) → (b + suc j ≤ i → get_or v i 0 ≡ get_or w i 0) → get_or v i 0 ≡ get_or w i 0
    by (yes q) more = subst (λ (n : ℕ). get_or v n 0 ≡ get_or w n 0) (sym q) (ap (head_of 0) e)
    by (no ne) more = more (omega (arith, l, ne))

rows_words : (n : ℕ) (v w : List ℕ) → ((t : ℕ) → t < n → row_from v (task_start t) 0 8 ≡ row_from w (task_start t) 0 8) → (i : ℕ) → i < n * task_width → get_or v i 0 ≡ get_or w i 0
rows_words zero v w h i l = absurd (omega (arith, l))
rows_words (suc n) v w h i l = by (leb (n * task_width) i) refl (λ m. rows_words n v w (λ t k. h t (omega (arith, k))) i m)
  where
    by : (b : Bool) → leb (n * task_width) i ≡ b → (i < n * task_width → get_or v i 0 ≡ get_or w i 0) → get_or v i 0 ≡ get_or w i 0
    by true q more = row_word 8 v w (task_start n) 0 (h n (omega arith)) i (omega (arith, leb-true (n * task_width) i q)) (omega (arith, l))
    by false q more = more (leb-false (n * task_width) i q)

-- Records of the tasks below n of the words w are laid out as w.
pub laid_rows : (w : List ℕ) (n : ℕ) (ts : List TaskRecord) → length w ≡ tasks_length → n ≤ task_limit
    → ((t : ℕ) → t < n → T (task_canonical w t)) → ((i : ℕ) → n * task_width ≤ i → get_or w i 0 ≡ 0)
    → ((t : ℕ) → t < n → get_or ts t no_record ≡ record_of (task_at w t)) → rows_of ts n ≡ w
unfolding rows_of
laid_rows w n ts z l canonical clear are = ext_get_or 0 (loaded ts n zeros) w long (λ i h. by i (leb (n * task_width) i) refl)
  where
    zeros : List ℕ
    zeros = replicate tasks_length 0

    wide : length zeros ≡ tasks_length
    wide = length-replicate {A = ℕ} tasks_length 0

    long : length (loaded ts n zeros) ≡ length w
    long = length-loaded ts n zeros ∙ wide ∙ sym z

    row : (t : ℕ) → t < n → row_from (loaded ts n zeros) (task_start t) 0 8 ≡ row_from w (task_start t) 0 8
    row t h =
        loaded-row n ts zeros t (rw wide (omega (arith, l))) h
        ∙ ap task_words (ap task_of (are t h) ∙ task_back (task_at w t))
        ∙ canonical_row w t (canonical t h)

    by : (i : ℕ) (b : Bool) → leb (n * task_width) i ≡ b → get_or (loaded ts n zeros) i 0 ≡ get_or w i 0
    by i true q =
        let low : n * task_width ≤ i = leb-true (n * task_width) i q in
        loaded_past n ts zeros i low ∙ zeros_clear tasks_length i ∙ sym (clear i low)
    by i false q = rows_words n (loaded ts n zeros) w row i (leb-false (n * task_width) i q)
