-- The ways through apply_result and the loop of apply_future_results, in the shape of what the code knows there.
use Rattle.std.specs.Prelude.{◌≡◌, List, ℕ, zero, suc, ◌+◌, ◌*◌, ◌/◌, ◌≤◌, eqb, length, Bool, true, false, Option, None, Some, unwrap_or}
use Rattle.std.proofs.Math.Path.{refl}
use Rattle.std.proofs.Common.{sym, subst, ap, ◌∙◌, add-one, arith}
use Rattle.asyncio.specs.States.{pick}
use Rattle.asyncio.specs.Layout.{to_value, to_error}
use Rattle.asyncio.specs.declared.Value.{Value}
use Rattle.asyncio.specs.declared.Error.{Error}
use Rattle.queue.specs.declared.ReadyQueue.{ReadyQueue}
use Rattle.queue.specs.Queue.{order_from, push_in_order}
use Rattle.queue.proofs.QueueLaws.{push_back_either}
use Rattle.queue.proofs.OrderLaws.{order_none, push_ordered}
use Rattle.scheduler.specs.Search.{FoundTask}
use Rattle.exec_deliver.specs.Delivers.{queued}
use Rattle.machine.specs.Store.{Store, LogEntry, store_of, put_queue}
use Rattle.machine.specs.Delivery.{resolve_future, fail_future}
use Rattle.machine.specs.Events.{Result, apply_result, apply_future_results, wake_in_order}
use Rattle.contract.specs.Contract.{same_store}
use Rattle.exec_futures.specs.Results.{kind_of, result_at, results_from, results_in}
use Rattle.exec_futures.specs.declared.results.ResultKind.{ResultKind}

-- what a result of a kind does
unfoldable pub applied_as : Store → Result → ResultKind → Store
applied_as s r ResultKind.Return = resolve_future s r.call (to_value r.tag r.number)
applied_as s r ResultKind.Error = fail_future s r.call (to_error 0 r.number)
applied_as s r ResultKind.StillFuture = s
applied_as s r ResultKind.NotFound = fail_future s r.call Error.NotFound
applied_as s r ResultKind.ModuleFile = fail_future s r.call Error.ModuleFile

applies : (s : Store) (r : Result) → apply_result s r ≡ applied_as s r (unwrap_or (kind_of r.kind) ResultKind.ModuleFile)
unfolding apply_result applied_as
applies s r = by (eqb r.kind 0) (eqb r.kind 1) (eqb r.kind 2) (eqb r.kind 3) (eqb r.kind 4)
  where
    by : (a b c d e : Bool)
        → pick a (resolve_future s r.call (to_value r.tag r.number))
        (pick b (fail_future s r.call (to_error 0 r.number))
        (pick c s
        (pick d (fail_future s r.call Error.NotFound)
        (fail_future s r.call Error.ModuleFile))))
        ≡ applied_as s r (unwrap_or
        (pick a (Some ResultKind.Return)
        (pick b (Some ResultKind.Error)
        (pick c (Some ResultKind.StillFuture)
        (pick d (Some ResultKind.NotFound)
        (pick e (Some ResultKind.ModuleFile) None)))))
        ResultKind.ModuleFile)
    by true b c d e = refl
    by false true c d e = refl
    by false false true d e = refl
    by false false false true e = refl
    by false false false false true = refl
    by false false false false false = refl

-- so a result leaves what its kind does
module _ (ts os ps : List ℕ) (q : ReadyQueue) (l : List LogEntry) (r : Result) {d : Option ResultKind} (a : d ≡ kind_of r.kind) {k : ResultKind} (b : k ≡ unwrap_or d ResultKind.ModuleFile) where
  abbrev here : Store
  here = store_of ts os ps q l

  goes : {x : ResultKind} → k ≡ x → apply_result here r ≡ applied_as here r x
  goes e = applies here r ∙ ap (λ (y : Option ResultKind). applied_as here r (unwrap_or y ResultKind.ModuleFile)) (sym a) ∙ ap (applied_as here r) (sym b ∙ e)

  pub applies_value : k ≡ ResultKind.Return → {v : Value} → v ≡ to_value r.tag r.number → {ts' os' ps' : List ℕ} {q' : ReadyQueue}
      → store_of ts' os' ps' q' (resolve_future here r.call v).log ≡ resolve_future here r.call v → store_of ts' os' ps' q' (apply_result here r).log ≡ apply_result here r
  applies_value e u x =
      let g : apply_result here r ≡ resolve_future here r.call (to_value r.tag r.number) = unfold applied_as in (goes e) in
      same_store (g ∙ ap (λ (v : Value). resolve_future here r.call v) (sym u)) x

  pub applies_nothing : k ≡ ResultKind.StillFuture → store_of ts os ps q (apply_result here r).log ≡ apply_result here r
  applies_nothing e = let g : apply_result here r ≡ here = unfold applied_as in (goes e) in same_store g refl

  -- a kind with an error
  pub applies_error : (x : Error) → applied_as here r k ≡ fail_future here r.call x → {ts' os' ps' : List ℕ} {q' : ReadyQueue}
      → store_of ts' os' ps' q' (fail_future here r.call x).log ≡ fail_future here r.call x → store_of ts' os' ps' q' (apply_result here r).log ≡ apply_result here r
  applies_error x f d = same_store (goes refl ∙ f) d

-- ---- one after the other

-- one more result
one_more : (bs : List ℕ) (i at : ℕ) (s : Store)
    → apply_future_results s (results_from bs at (suc i)) ≡ apply_result (apply_future_results s (results_from bs at i)) (result_at bs (at + i * 14))
unfolding apply_future_results results_from
one_more bs zero at s = let e : at + 0 * 14 ≡ at = omega arith in rw e
one_more bs (suc i) at s =
    let e : at + 14 + i * 14 ≡ at + suc i * 14 = omega arith in
    rw (← e) (one_more bs i (at + 14) (apply_result s (result_at bs at)))

module _ (bs : List ℕ) (s : Store) where
  pub results_begin : store_of s.tasks s.objects s.places s.queue (apply_future_results s (results_from bs 0 0)).log ≡ apply_future_results s (results_from bs 0 0)
  unfolding apply_future_results results_from
  results_begin = refl

  pub results-turn : (i : ℕ) {ts os ps : List ℕ} {q : ReadyQueue} → store_of ts os ps q (apply_future_results s (results_from bs 0 i)).log ≡ apply_future_results s (results_from bs 0 i)
      → {ts' os' ps' : List ℕ} {q' : ReadyQueue}
      → ((l : List LogEntry) → store_of ts' os' ps' q' (apply_result (store_of ts os ps q l) (result_at bs (i * 14))).log ≡ apply_result (store_of ts os ps q l) (result_at bs (i * 14)))
      → store_of ts' os' ps' q' (apply_future_results s (results_from bs 0 (i + 1))).log ≡ apply_future_results s (results_from bs 0 (i + 1))
  results-turn i d r =
      let n : i + 1 ≡ suc i = add-one i in
      let z : 0 + i * 14 ≡ i * 14 = omega arith in
      rw n (same_store ((rw z at (one_more bs i 0 s)) ∙ ap (λ (x : Store). apply_result x (result_at bs (i * 14))) (sym d)) (r (apply_future_results s (results_from bs 0 i)).log))

  pub results_end : (i : ℕ) → i ≡ length bs / 14 → {ts os ps : List ℕ} {q : ReadyQueue} → store_of ts os ps q (apply_future_results s (results_from bs 0 i)).log ≡ apply_future_results s (results_from bs 0 i)
      → store_of ts os ps q (apply_future_results s (results_in bs)).log ≡ apply_future_results s (results_in bs)
  unfolding results_in
  results_end i e d = rw (← e) d

-- ---- the queue of the code, in which each task that is woken is put in its place, beside the machine's, which is put in order at the end

-- a queue with the task that was woken in its place behind the first n
abbrev pub queued_in_order : ReadyQueue → FoundTask → ℕ → ReadyQueue
queued_in_order q (Some t) n = push_in_order q t.0 n
queued_in_order q None n = q

queued_order : (q : ReadyQueue) (w : FoundTask) (n : ℕ) → n ≤ q.len → queued_in_order (order_from q n) w n ≡ order_from (queued q w) n
queued_order q (Some t) n h = sym (push_ordered q t.0 n h)
queued_order q None n h = refl

queued_long : (q : ReadyQueue) (w : FoundTask) (n : ℕ) → n ≤ q.len → n ≤ (queued q w).len
queued_long q (Some t) n h = push_back_either (λ r. n ≤ r.len) q t.0 (λ room. omega arith) (λ full. h)
queued_long q None n h = h

-- What i results have left of the slices and the queue q₀: the code's queue is the machine's, the entries behind the former ones in order.
pub record Applied (bs ts₀ os₀ ps₀ : List ℕ) (q₀ : ReadyQueue) (i : ℕ) (ts os ps : List ℕ) (left : ReadyQueue) : Type 0 where
  pub queue : ReadyQueue
  pub long : q₀.len ≤ queue.len
  pub in_order : left ≡ order_from queue q₀.len
  pub does : (l : List LogEntry)
      → store_of ts os ps queue (apply_future_results (store_of ts₀ os₀ ps₀ q₀ l) (results_from bs 0 i)).log ≡ apply_future_results (store_of ts₀ os₀ ps₀ q₀ l) (results_from bs 0 i)

module _ (bs ts₀ os₀ ps₀ : List ℕ) (q₀ : ReadyQueue) where
  pub applied_begin : Applied bs ts₀ os₀ ps₀ q₀ 0 ts₀ os₀ ps₀ q₀
  applied_begin = record { queue = q₀; long = omega arith; in_order = sym (order_none q₀ q₀.len (omega arith)); does = λ l. results_begin bs (store_of ts₀ os₀ ps₀ q₀ l) }

  pub applied_turn : (i : ℕ) {ts os ps : List ℕ} {left : ReadyQueue} → Applied bs ts₀ os₀ ps₀ q₀ i ts os ps left → {ts' os' ps' : List ℕ} (w : FoundTask)
      → {x : Result} → x ≡ result_at bs (i * 14)
      → ((q : ReadyQueue) (l : List LogEntry) → store_of ts' os' ps' (queued q w) (apply_result (store_of ts os ps q l) x).log ≡ apply_result (store_of ts os ps q l) x)
      → {left' : ReadyQueue} → left' ≡ queued_in_order left w q₀.len → Applied bs ts₀ os₀ ps₀ q₀ (i + 1) ts' os' ps' left'
  applied_turn i {ts} {os} {ps} k {ts'} {os'} {ps'} w j r e =
      record {
        queue = queued k.queue w;
        long = queued_long k.queue w q₀.len k.long;
        in_order = e ∙ (ap (λ (q : ReadyQueue). queued_in_order q w q₀.len) k.in_order ∙ queued_order k.queue w q₀.len k.long);
        does = λ l. results-turn bs (store_of ts₀ os₀ ps₀ q₀ l) i (k.does l)
            (λ m. subst (λ (y : Result). store_of ts' os' ps' (queued k.queue w) (apply_result (store_of ts os ps k.queue m) y).log ≡ apply_result (store_of ts os ps k.queue m) y) j (r k.queue m));
      }

  pub applied_end : (i : ℕ) → i ≡ length bs / 14 → {ts os ps : List ℕ} {left : ReadyQueue} → Applied bs ts₀ os₀ ps₀ q₀ i ts os ps left → (l : List LogEntry)
      → store_of ts os ps left (wake_in_order (store_of ts₀ os₀ ps₀ q₀ l) (apply_future_results (store_of ts₀ os₀ ps₀ q₀ l) (results_in bs))).log
      ≡ wake_in_order (store_of ts₀ os₀ ps₀ q₀ l) (apply_future_results (store_of ts₀ os₀ ps₀ q₀ l) (results_in bs))
  unfolding wake_in_order put_queue
  applied_end i e k l = rw k.in_order (ap (λ (u : Store). put_queue u (order_from u.queue q₀.len)) (results_end bs (store_of ts₀ os₀ ps₀ q₀ l) i e (k.does l)))
