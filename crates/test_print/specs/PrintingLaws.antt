-- The ways through the functions that write rows, in the shape of what the code knows there.
use Rattle.std.specs.Prelude.{◌≡◌, refl, List, [], ◌∷◌, ◌++◌, ℕ, zero, suc, ◌+◌, ◌*◌, ◌≤◌, ◌<◌, length, get_or, take}
use Rattle.std.proofs.Common.{sym, ap, ◌∙◌, append-nil, add-one, arith, take-suc, lt-ltb, le-ltb}
use Rattle.asyncio.specs.Limits.{task_limit}
use Rattle.asyncio.specs.Ranges.{HeaderFits}
use Rattle.asyncio.specs.declared.Header.{Header}
use Rattle.rows.specs.Tables.{header_at}
use Rattle.rows.specs.TableLaws.{header_read}
use Rattle.queue.specs.Queue.{entries}
use Rattle.queue.specs.declared.ReadyQueue.{ReadyQueue}
use Rattle.drive_text.specs.Out.{Out, Wrote}
use Rattle.drive_text.specs.OutLaws.{wrote_none, then, at_most}
use Rattle.drive_text.specs.Text.{bytes_of, newline, field, fields}
use Rattle.drive_text.specs.WriteLaws.{fields_append}
use Rattle.test_print.specs.Printing.{row_text, task_text, object_text, rows_text, entry_text, queue_text, store_text, store_limit}

-- the line of k words that are known by another name
pub row_wrote : (k : ℕ) (name : List ℕ) {x y : Out} {ws words : List ℕ} → words ≡ ws → length ws ≡ k
    → Wrote (length name + (21 * length words + 1)) x y (name ++ (fields words ++ newline)) → Wrote (length name + (21 * k + 1)) x y (name ++ (fields ws ++ newline))
row_wrote k name e l w = at_most (omega (arith, l)) (rw e at w)

-- ---- rows one after the other

pub rows_none : (text : ℕ → List ℕ) (k : ℕ) (x : Out) → Wrote (k * 0) x x (rows_text text 0)
unfolding rows_text
rows_none text k x = at_most (omega arith) (wrote_none x)

pub rows_turn : (text : ℕ → List ℕ) (k n : ℕ) {x y z : Out} → Wrote (k * n) x y (rows_text text n) → Wrote k y z (text n) → Wrote (k * (n + 1)) x z (rows_text text (n + 1))
unfolding rows_text
rows_turn text k n v w = rw (add-one n) (at_most (omega arith) (then v w))

pub rows_end : (text : ℕ → List ℕ) (k : ℕ) {n i : ℕ} {x y : Out} → i ≤ n → n ≤ i → Wrote (k * i) x y (rows_text text i) → Wrote (k * n) x y (rows_text text n)
rows_end text k {n} {i} h g w = let e : i ≡ n = omega arith in rw e at w

-- ---- the queue

pub queue_none : (q : ReadyQueue) (x : Out) → task_limit < q.len → Wrote 10779 x x (queue_text q)
unfolding queue_text
queue_none q x h = rw (lt-ltb task_limit q.len h) (at_most (omega arith) (wrote_none x))

pub queue_wrote : (q : ReadyQueue) {x y z u : Out} → q.len ≤ task_limit → Wrote 5 x y (bytes_of "ready") → Wrote (21 * q.len) y z (rows_text (entry_text q) q.len) → Wrote 1 z u newline
    → Wrote 10779 x u (queue_text q)
unfolding queue_text
queue_wrote q h v w e = rw (le-ltb task_limit q.len h) (at_most (omega arith) (then v (then w e)))

entries_text : (q : ReadyQueue) (n : ℕ) → n ≤ length q.ids → rows_text (entry_text q) n ≡ fields (take n q.ids)
unfolding rows_text fields
entries_text q zero h = refl
entries_text q (suc n) h =
    ap (λ (t : List ℕ). t ++ field (get_or q.ids n 0)) (entries_text q n (omega arith))
    ∙ ap (λ (t : List ℕ). fields (take n q.ids) ++ t) (sym (append-nil (field (get_or q.ids n 0))))
    ∙ sym (ap fields (take-suc q.ids n 0 h) ∙ fields_append (take n q.ids) (get_or q.ids n 0 ∷ []))

-- the text of a queue is that of its entries
pub queue_entries : (q : ReadyQueue) → q.len ≤ task_limit → length q.ids ≡ task_limit → queue_text q ≡ row_text "ready" (entries q)
unfolding queue_text entries
queue_entries q h l = rw (le-ltb task_limit q.len h, entries_text q q.len (omega arith))

-- ---- a store

pub store_wrote : (ts os : List ℕ) (q : ReadyQueue) {x y z u : Out} {h : Header} → h ≡ header_at os → Wrote (173 * h.next) x y (rows_text (task_text ts) h.next)
    → Wrote (175 * h.made) y z (rows_text (object_text os) h.made) → Wrote 10779 z u (queue_text q) → Wrote store_limit x u (store_text ts os q)
unfolding store_text
store_wrote ts os q {x} {y} {z} {u} {h} e v w t =
    let f : HeaderFits h = header_read os e in
    rw (← e) (at_most (omega (arith, f.next_fits, f.made_fits)) (then v (then w t)))
