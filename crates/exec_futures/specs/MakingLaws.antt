-- Making, in the shape of what the code knows there.
use Rattle.std.specs.Prelude.{◌≡◌, ℕ, ◌+◌, ◌<◌, length}
use Rattle.std.proofs.Common.{sym, ◌∙◌, add-one}
use Rattle.std.proofs.Math.Path.{ap}
use mathlib.Core.List.{List, [], ◌∷◌}
use native.Mathlib.Omega.{arith}
use Rattle.std.proofs.Math.ListN.{get_or, drop}
use Rattle.std.proofs.Math.Seq.{drop-cons, drop-length}
use Rattle.asyncio.specs.Limits.{call_limit, objects_length}
use Rattle.asyncio.specs.Numbers.{heap_id, call_id}
use Rattle.asyncio.specs.Ranges.{HeaderFits}
use Rattle.asyncio.specs.declared.CallId.{CallId}
use Rattle.asyncio.specs.declared.HeapId.{HeapId}
use Rattle.asyncio.specs.declared.Value.{Value}
use Rattle.std.specs.Prelude.{None}
use Rattle.asyncio.specs.declared.ExternalFutureState.{ExternalFutureState}
use Rattle.asyncio.specs.declared.GatherState.{GatherState}
use Rattle.asyncio.specs.declared.Object.{Object}
use Rattle.asyncio.specs.declared.Header.{Header}
use Rattle.rows.specs.Tables.{object_put, header_at, header_put, place_put}
use Rattle.rows.specs.TableLaws.{header_at-fits, header_at_put}
use Rattle.queue.specs.declared.ReadyQueue.{ReadyQueue}
use Rattle.queue.specs.Queue.{empty_queue}
use Rattle.machine.specs.Store.{Store, LogEntry, store_of, header, put_header, put_object, put_place, set_calls, add_object}
use Rattle.machine.specs.Events.{make_settled, put_items, make_gather}

module _ (ts os ps : List ℕ) (q : ReadyQueue) (l : List LogEntry) {h : Header} (e : h ≡ header_at os) {us : List ℕ} where
  pub added : (x : Object) (n : ℕ) {o : HeapId} → o.0 ≡ h.made
      → us ≡ header_put os (record { made = h.made + 1; used = h.used + n; calls = h.calls; next = h.next; moment = h.moment })
      → {vs : List ℕ} → vs ≡ object_put us o.0 x → store_of ts vs ps q l ≡ add_object (store_of ts os ps q l) x n
  unfolding add_object put_object put_header header
  added x n i u v = rw (v, i, u, e)

  pub allocated : us ≡ header_put os (record { made = h.made; used = h.used; calls = h.calls + 1; next = h.next; moment = h.moment })
      → {c : CallId} → c ≡ call_id h.calls → store_of ts us ps q l ≡ set_calls (store_of ts os ps q l) (c.0 + 1)
  unfolding set_calls put_header header
  allocated u j = rw (u, j, e)

-- ---- a settled external

module _ (os : List ℕ) (z : length os ≡ objects_length) (c : CallId) (k : c.0 < call_limit) {us : List ℕ}
    (g : (ts ps : List ℕ) (q : ReadyQueue) (l : List LogEntry) → store_of ts us ps q l ≡ set_calls (store_of ts os ps q l) (c.0 + 1)) where
  pub allocated_made : (header_at us).made ≡ (header_at os).made
  unfolding set_calls put_header header
  allocated_made =
      let f : HeaderFits (header_at os) = header_at-fits os in
      rw (ap (λ (s : Store). s.objects) (g [] [] empty_queue []))
      (ap (λ (x : Header). x.made)
      (header_at_put os _ (record { made_fits = f.made_fits; used_fits = f.used_fits; calls_fit = omega arith; next_fits = f.next_fits; moment_fits = f.moment_fits }) (omega arith)))

  pub settles : c.0 ≡ (header_at os).calls → (v : Value) (ts ps : List ℕ) (q : ReadyQueue) (l : List LogEntry)
      → {vs : List ℕ} → store_of ts vs ps q l ≡ add_object (store_of ts us ps q l) (Object.ExternalFuture c (ExternalFutureState.Resolved v)) 0
      → store_of ts vs ps q l ≡ make_settled (store_of ts os ps q l) v
  unfolding make_settled header
  settles i v ts ps q l a =
      a ∙ ap (λ (s : Store). add_object s (Object.ExternalFuture c (ExternalFutureState.Resolved v)) 0) (g ts ps q l)
      ∙ ap (λ (n : ℕ). add_object (set_calls (store_of ts os ps q l) (n + 1)) (Object.ExternalFuture (call_id n) (ExternalFutureState.Resolved v)) 0) i

-- ---- a gather

module _ (items : List ℕ) (first : ℕ) (ts os : List ℕ) (q : ReadyQueue) (l : List LogEntry) where
  pub items-turn : (ps : List ℕ) (i : ℕ) → i < length items → {o : HeapId} → o ≡ heap_id (get_or items i 0) → {rs : List ℕ}
      → rs ≡ place_put ps (first + i) (record { item = o; result = None })
      → put_items (store_of ts os rs q l) (first + (i + 1)) (drop (i + 1) items) ≡ put_items (store_of ts os ps q l) (first + i) (drop i items)
  unfolding put_items put_place
  items-turn ps i h {o} j {rs} p =
      let a : drop i items ≡ get_or items i 0 ∷ drop (i + 1) items = drop-cons items i 0 h ∙ ap (λ (m : ℕ). get_or items i 0 ∷ drop m items) (sym (add-one i)) in
      let b : first + (i + 1) ≡ first + i + 1 = omega arith in
      rw (a, p, j, b)

  pub items-end : (ps : List ℕ) (i : ℕ) → i ≡ length items → store_of ts os ps q l ≡ put_items (store_of ts os ps q l) (first + i) (drop i items)
  unfolding put_items
  items-end ps i e = rw (e, drop-length items)

pub gathers : (ts os ps : List ℕ) (q : ReadyQueue) (l : List LogEntry) {h : Header} → h ≡ header_at os → (items : List ℕ) {n : ℕ} → n ≡ length items → {os' ps' : List ℕ}
    → store_of ts os ps' q l ≡ put_items (store_of ts os ps q l) h.used items
    → store_of ts os' ps' q l ≡ add_object (store_of ts os ps' q l) (Object.GatherFuture h.used n GatherState.Pending) n
    → store_of ts os' ps' q l ≡ make_gather (store_of ts os ps q l) items
unfolding make_gather header
gathers ts os ps q l e items i p a = a ∙ rw (p, i, e)
