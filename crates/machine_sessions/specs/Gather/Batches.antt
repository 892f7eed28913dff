-- An accepted batch of results, and its results one by one: each of them would be accepted, they leave the same tasks, objects and places, and the same happens, in
-- the same order (`batch_splits`, `batch_happens`). The queue they leave may be another: what one batch wakes stands in task order (document 02, No. 7).
use Rattle.std.specs.Prelude.{◌≡◌, Bool, true, false, not, ◌||◌, ◌&&◌, ℕ, ◌≤◌, eqb, ltb, leb, length}
use Rattle.std.proofs.Math.Path.{refl, ap, subst}
use Rattle.std.proofs.Common.{sym, ◌∙◌, true≢false, le_refl, arith}
use mathlib.Core.List.{List, [], ◌∷◌, ◌++◌}
use Rattle.std.proofs.Math.Option.{Option, none, some, some-injective}
use Rattle.std.proofs.Math.Decide.{ℕ_discrete}
use Rattle.std.proofs.Math.Dec.{T}
use borrow.Author.Tests.{ltb-false, le-ltb, eq-eqb}
use Rattle.asyncio.specs.declared.Value.{Value}
use Rattle.asyncio.specs.declared.Object.{Object}
use Rattle.asyncio.specs.declared.Header.{Header}
use Rattle.asyncio.specs.Limits.{result_limit, object_limit, tasks_length, objects_length, places_length}
use Rattle.asyncio.specs.Numbers.{heap_id}
use Rattle.asyncio.specs.States.{pick}
use Rattle.asyncio.specs.Kinds.{kind, is_completed}
use Rattle.queue.specs.declared.ReadyQueue.{ReadyQueue}
use Rattle.machine.specs.Store.{Store, object, header, put_queue, forget}
use Rattle.machine.specs.Events.{Result, apply_result, apply_future_results, wake_in_order}
use Rattle.machine.specs.Machine.{Event, Answer, Step, in_both, any_of, result_unknown, bad_result, refusals, first_refusal, refusal, accept, step}
use Rattle.machine.specs.Sound.{sound, is_ended, value_known, runs_now}
use Rattle.machine_laws.specs.Views.{Sized}
use Rattle.machine_laws.specs.ValueLaws.{value_stays}
use Rattle.machine_laws.specs.Facts.{Nothing}
use Rattle.machine_laws.specs.TestLaws.{is_true, not-not, and-true, or_left, or_right}
use Rattle.machine_laws.specs.DeliveryLaws.{absurd_some}
use Rattle.machine_laws.specs.MachineLaws.{accepted-step, refused-step}
use Rattle.machine_laws.specs.SoundLaws.{pass, refusal-sound, refusal-rest, refusal-forget}
use Rattle.machine_theorems.specs.Soundness.Stores.{SoundStore, SoundDuring, during_of, sound_store_sound}
use Rattle.machine_theorems.specs.Soundness.Results.{AllApply, result_keeps}
use Rattle.machine_theorems.specs.Soundness.Preserved.{results_apply}
use Rattle.machine_theorems.specs.Soundness.Sessions.{forget_sound_store, step_sound_store}
use Rattle.machine.specs.Lent.{slices_right, lengths_right, lent_by, lent_step}
use Rattle.machine.specs.History.{Entry, Says, says, nothing_said, said, tells}
use Rattle.machine.specs.Sessions.{InRange, AllSentInRange, Sent, is_read, lent_any, entry_of, Session, send, send_all}
use Rattle.machine.specs.Singles.{batch_of, accepted_batch, each_alone, cut_by, cut}
use Rattle.machine_sessions.specs.Queue.Following.{Sends, stepped, short, sends}
use Rattle.machine_sessions.specs.Gather.LogApart.{lent_entry}
use Rattle.machine_sessions.specs.Gather.RowsOnly.{rows_of, onto, results-onto}

-- ---- when a batch is accepted

-- the checks of the table, none of which a batch meets
record Accepted (s : Store) (rs : List Result) : Type 0 where
  whole : T (sound s)
  on : is_ended (header s).moment ≡ false
  known : any_of (result_unknown s) rs ≡ false
  few : length rs ≤ result_limit
  good : any_of bad_result rs ≡ false

accepted_parts : (s : Store) (rs : List Result) → refusal s (Event.results rs) ≡ 0 → Accepted s rs
unfolding refusals in_both
accepted_parts s rs e =
    let a = pass 2 (is_ended (header s).moment) _ (refusal-rest s (Event.results rs) e) in
    let b = pass 4 (any_of (result_unknown s) rs) _ a.1 in
    let c = (pass 9 (ltb result_limit (length rs) || any_of bad_result rs) [] b.1).0 in
    record {
      whole = refusal-sound s (Event.results rs) e;
      on = a.0;
      known = b.0;
      few = ltb-false result_limit (length rs) (or_left (ltb result_limit (length rs)) (any_of bad_result rs) c);
      good = or_right (ltb result_limit (length rs)) (any_of bad_result rs) c;
    }

accepted-by : (s : Store) (rs : List Result) → Accepted s rs → refusal s (Event.results rs) ≡ 0
unfolding refusal refusals in_both first_refusal
accepted-by s rs a = rw (is_true (sound s) a.whole, a.on, a.known, le-ltb result_limit (length rs) a.few, a.good)

-- ---- what is known stays known

unknown_less : (a b c d : Bool) → (T c → T d) → (a && b && not c) ≡ false → (a && b && not d) ≡ false
unknown_less true true c d f e = by d (f (not-not c e))
  where
    by : (b : Bool) → T b → not b ≡ false
    by true t = refl
    by false t = absurd t
unknown_less true false c d f e = refl
unknown_less false b c d f e = refl

module _ (s u : Store) (head : header u ≡ header s) (done : (o : ℕ) → T (is_completed (kind (object s o))) → T (is_completed (kind (object u o)))) where
  still-known : (r : Result) → result_unknown s r ≡ false → result_unknown u r ≡ false
  unfolding result_unknown
  still-known r e =
      let v : Value = Value.List (heap_id r.number) in
      unknown_less (eqb r.kind 0) (eqb r.tag 1) (value_known (header s).made (object s) v) (value_known (header u).made (object u) v)
      (λ k. subst (λ (h : Header). T (value_known h.made (object u) v)) (sym head) (value_stays (header s).made (header s).made (le_refl _) (object s) (object u) (λ o l. done o) v k)) e

  all_known : (rs : List Result) → any_of (result_unknown s) rs ≡ false → any_of (result_unknown u) rs ≡ false
  unfolding any_of
  all_known [] e = refl
  all_known (r ∷ rs) e = rw (still-known r (or_left (result_unknown s r) _ e), all_known rs (or_right (result_unknown s r) (any_of (result_unknown s) rs) e))

-- ---- the first of a batch, and the rest

-- what an accepted batch leaves: what its results leave, with some queue
pub results_step : (s : Store) (rs : List Result) → refusal s (Event.results rs) ≡ 0 → (q : ReadyQueue) × ((step s (Event.results rs)).store ≡ put_queue (apply_future_results (forget s) rs) q)
unfolding accept wake_in_order put_queue
results_step s rs e = ((accept (forget s) (Event.results rs)).store.queue, ap (λ (x : Step). x.store) (accepted-step s (Event.results rs) e))

-- one result
abbrev single : Result → Event
single r = Event.results (r ∷ [])

module _ (s : Store) (r : Result) (rs : List Result) (h : SoundStore s) (e : refusal s (Event.results (r ∷ rs)) ≡ 0) where
  parts : Accepted s (r ∷ rs)
  parts = accepted_parts s (r ∷ rs) e

  first-accepted : refusal s (single r) ≡ 0
  unfolding any_of
  first-accepted = accepted-by s (r ∷ []) (record {
    whole = parts.whole;
    on = parts.on;
    known = rw (or_left (result_unknown s r) _ parts.known);
    few = omega arith;
    good = rw (or_left (bad_result r) _ parts.good);
  })

  -- the store after the first
  abbrev then : Store
  then = (step s (single r)).store

  -- what the first leaves, but for the queue
  abbrev one : Store
  one = apply_result (forget s) r

  then_is : (q : ReadyQueue) × (then ≡ put_queue one q)
  unfolding apply_future_results
  then_is = results_step s (r ∷ []) first-accepted

  then-sound : SoundStore then
  then-sound = step_sound_store s h (single r) (unfold InRange in tt)

  one-during : SoundDuring Nothing (runs_now (header s).moment) (λ o. T (is_completed (kind (object s o)))) (header s) one
  unfolding AllApply header object forget
  one-during =
      let a = results_apply (forget s) (forget_sound_store s h) (r ∷ rs) (refusal-rest (forget s) (Event.results (r ∷ rs)) (refusal-forget s (Event.results (r ∷ rs)) ∙ e)) in
      result_keeps (forget s) r a.0 (during_of (forget s) (forget_sound_store s h))

  then-header : header then ≡ header s
  unfolding header put_queue
  then-header = ap header then_is.1 ∙ one-during.head

  then-object : (o : ℕ) → object then o ≡ object one o
  unfolding object put_queue
  then-object o = ap (λ (u : Store). object u o) then_is.1

  rest-accepted : refusal then (Event.results rs) ≡ 0
  unfolding any_of
  rest-accepted = accepted-by then rs (record {
    whole = sound_store_sound then then-sound;
    on = ap (λ (y : Header). is_ended y.moment) then-header ∙ parts.on;
    known = all_known s then then-header (λ o k. subst (λ (x : Object). T (is_completed (kind x))) (sym (then-object o)) (one-during.done o k)) rs (or_right (result_unknown s r) (any_of (result_unknown s) rs) parts.known);
    few = omega (arith, parts.few);
    good = or_right (bad_result r) (any_of bad_result rs) parts.good;
  })

  -- A batch leaves what the rest leaves after the first, but for the queue, and what has happened is what happened in both.
  batch-is : (q : ReadyQueue) × ((step s (Event.results (r ∷ rs))).store ≡ onto q then.log (step then (Event.results rs)).store)
  unfolding apply_future_results put_queue forget
  batch-is =
      let whole = results_step s (r ∷ rs) e in
      let rest = results_step then rs rest-accepted in
      let k = results-onto then.log rs one.queue (forget then) in
      let first : one ≡ onto one.queue then.log (forget then) = ap (λ (u : Store). onto one.queue u.log (forget u)) (sym then_is.1) in (
        whole.0,
        whole.1 ∙ (ap (λ (u : Store). put_queue (apply_future_results u rs) whole.0) first
            ∙ (ap (λ (u : Store). put_queue u whole.0) k.1 ∙ ap (onto whole.0 then.log) (sym rest.1))),
      )

-- A batch that is accepted: its first result would be accepted alone, then the rest would be, and they leave the tasks, the objects and the places that the batch
-- leaves.
pub batch_splits : (s : Store) (r : Result) (rs : List Result) → SoundStore s → refusal s (Event.results (r ∷ rs)) ≡ 0
    → (refusal s (Event.results (r ∷ [])) ≡ 0) × (refusal (step s (Event.results (r ∷ []))).store (Event.results rs) ≡ 0)
    × (rows_of (step (step s (Event.results (r ∷ []))).store (Event.results rs)).store ≡ rows_of (step s (Event.results (r ∷ rs))).store)
batch_splits s r rs h e = (first-accepted s r rs h e, rest-accepted s r rs h e, ap (λ (u : Store). rows_of u) (sym (batch-is s r rs h e).1))

-- What happened at the batch is what happened at the rest, and before that at the first.
pub batch_happens : (s : Store) (r : Result) (rs : List Result) → SoundStore s → refusal s (Event.results (r ∷ rs)) ≡ 0
    → (step s (Event.results (r ∷ rs))).store.log ≡ (step (step s (Event.results (r ∷ []))).store (Event.results rs)).store.log ++ (step s (Event.results (r ∷ []))).store.log
batch_happens s r rs h e = ap (λ (u : Store). u.log) (batch-is s r rs h e).1

-- ---- a batch as it is sent, and its results one by one

-- a batch as it is sent
abbrev pub batch : List Result → List ℕ → Sent
batch rs l = record { event = Event.results rs; list = l }

-- on memory of its lengths, with a list of its length
lent_batch : (s : Store) (rs : List Result) (l : List ℕ) → lengths_right s l ≡ true → (lent_any s (batch rs l)).store ≡ (step s (Event.results rs)).store
unfolding lent_any is_read lent_step lent_by
lent_batch s rs l q = rw q

-- the lengths stay right
lengths_stay : (s u : Store) (l : List ℕ) → Sized u → lengths_right s l ≡ true → lengths_right u l ≡ true
unfolding lengths_right slices_right
lengths_stay s u l z q =
    let room = (and-true (slices_right s) (leb object_limit (length l)) (unfold slices_right in q)).1 in
    rw (eq-eqb (length u.tasks) tasks_length z.tasks_sized, eq-eqb (length u.objects) objects_length z.objects_sized, eq-eqb (length u.places) places_length z.places_sized) room

-- one by one they leave the tasks, the objects and the places that the batch leaves
alone-rows : (rs : List Result) (l : List ℕ) (y : Session) → SoundStore y.store → lengths_right y.store l ≡ true → refusal y.store (Event.results rs) ≡ 0
    → rows_of (send_all y (each_alone rs l)).store ≡ rows_of (step y.store (Event.results rs)).store
unfolding each_alone send_all send apply_future_results put_queue forget
alone-rows [] l y h q e = ap (λ (u : Store). rows_of u) (sym (results_step y.store [] e).1)
alone-rows (r ∷ rs) l y h q e =
    let s : Store = y.store in
    let k = batch_splits s r rs h e in
    let u : Store = (step s (Event.results (r ∷ []))).store in
    let now : (send y (batch (r ∷ []) l)).store ≡ u = lent_batch s (r ∷ []) l q in
    let w : SoundStore u = step_sound_store s h (Event.results (r ∷ [])) (unfold InRange in tt) in
    alone-rows rs l (send y (batch (r ∷ []) l)) (subst SoundStore (sym now) w) (subst (λ (v : Store). lengths_right v l ≡ true) (sym now) (lengths_stay s u l w.memory.sized q))
    (subst (λ (v : Store). refusal v (Event.results rs) ≡ 0) (sym now) k.1) ∙ (ap (λ (v : Store). rows_of (step v (Event.results rs)).store) now ∙ k.2)

batch-is-results : (e : Event) (rs : List Result) → batch_of e ≡ some rs → e ≡ Event.results rs
unfolding batch_of
batch-is-results (Event.coroutine f) rs q = absurd_some q
batch-is-results Event.call rs q = absurd_some q
batch-is-results (Event.pending c r) rs q = absurd_some q
batch-is-results (Event.settled v) rs q = absurd_some q
batch-is-results (Event.gather os) rs q = absurd_some q
batch-is-results (Event.await o) rs q = absurd_some q
batch-is-results (Event.complete v) rs q = absurd_some q
batch-is-results (Event.fail n) rs q = absurd_some q
batch-is-results (Event.results ks) rs q = ap (λ (k : List Result). Event.results k) (some-injective ks rs q)
batch-is-results Event.resume rs q = absurd_some q
batch-is-results (Event.cancel t) rs q = absurd_some q
batch-is-results (Event.show o) rs q = absurd_some q
batch-is-results Event.eager rs q = absurd_some q

-- an accepted batch is one, and accepted
pub accepted_batch-is : (a : Answer) (e : Event) (rs : List Result) → accepted_batch a e ≡ some rs → ((tells a).accepts ≡ true) × (e ≡ Event.results rs)
unfolding accepted_batch
accepted_batch-is a e rs q = by (tells a).accepts refl q
  where
    by : (b : Bool) → (tells a).accepts ≡ b → pick b (batch_of e) none ≡ some rs → ((tells a).accepts ≡ true) × (e ≡ Event.results rs)
    by true p z = (p, batch-is-results e rs z)
    by false p z = absurd_some z

refuses : (n : ℕ) → (tells (Answer.refused n)).accepts ≡ false
unfolding tells
refuses n = refl

-- then the lengths are right, and no refusal meets it
batch-accepted : (s : Store) (rs : List Result) (l : List ℕ) → (tells (lent_any s (batch rs l)).answer).accepts ≡ true → (lengths_right s l ≡ true) × (refusal s (Event.results rs) ≡ 0)
batch-accepted s rs l a = by (lengths_right s l) refl
  where
    short : lengths_right s l ≡ false → (lent_any s (batch rs l)).answer ≡ Answer.refused 1
    short q = unfold lent_any is_read lent_step lent_by in (rw q)

    long : lengths_right s l ≡ true → (lent_any s (batch rs l)).answer ≡ (step s (Event.results rs)).answer
    long q = unfold lent_any is_read lent_step lent_by in (rw q)

    by-step : lengths_right s l ≡ true → Dec (refusal s (Event.results rs) ≡ 0) → (lengths_right s l ≡ true) × (refusal s (Event.results rs) ≡ 0)
    by-step q (yes e) = (q, e)
    by-step q (no ne) =
        let answer : (lent_any s (batch rs l)).answer ≡ Answer.refused (refusal s (Event.results rs)) =
        long q ∙ ap (λ (x : Step). x.answer) (refused-step s (Event.results rs) (refusal s (Event.results rs)) refl ne) in
        absurd (true≢false (sym a ∙ (ap (λ (y : Answer). (tells y).accepts) answer ∙ refuses (refusal s (Event.results rs)))))

    by : (b : Bool) → lengths_right s l ≡ b → (lengths_right s l ≡ true) × (refusal s (Event.results rs) ≡ 0)
    by true q = by-step q (ℕ_discrete (refusal s (Event.results rs)) 0)
    by false q = absurd (true≢false (sym a ∙ (ap (λ (y : Answer). (tells y).accepts) (short q) ∙ refuses 1)))

-- An accepted batch sent to session y, and its results sent one by one.
pub batch-rows : (y : Session) (rs : List Result) (l : List ℕ) → SoundStore y.store → (tells (lent_any y.store (batch rs l)).answer).accepts ≡ true
    → rows_of (send_all y (each_alone rs l)).store ≡ rows_of (send y (batch rs l)).store
unfolding send
batch-rows y rs l h a =
    let q = batch-accepted y.store rs l a in
    alone-rows rs l y h q.0 q.1 ∙ ap (λ (u : Store). rows_of u) (sym (lent_batch y.store rs l q.0))

-- the store of a session stays sound
pub send-sound : (s : Store) (e : Sent) → SoundStore s → InRange e.event → SoundStore (lent_any s e).store
send-sound s e h i = by (sends s e h.memory.sized)
  where
    by : Sends s e → SoundStore (lent_any s e).store
    by (stepped p q) = subst SoundStore (sym p) (step_sound_store s h e.event i)
    by (short p q) = subst SoundStore (sym p) h

-- numbers that are in range stay so
pub alone_in_range : (rs : List Result) (l : List ℕ) → AllSentInRange (each_alone rs l)
unfolding AllSentInRange InRange each_alone
alone_in_range [] l = tt
alone_in_range (r ∷ rs) l = (tt, alone_in_range rs l)

cut_in_range : (e : Sent) (b : Option (List Result)) → InRange e.event → AllSentInRange (cut_by e b)
unfolding AllSentInRange cut_by
cut_in_range e none i = (i, tt)
cut_in_range e (some rs) i = alone_in_range rs e.list

-- The pieces of an event are in range.
pub cut_range : (s : Store) (e : Sent) → InRange e.event → AllSentInRange (cut s e)
unfolding cut
cut_range s e i = cut_in_range e (accepted_batch (lent_any s e).answer e.event) i

-- ---- single results

-- every event says one result at most, the first sent to session x; what a refused one names is not said
unfoldable pub SingleFrom : Session → List Sent → Type 0
SingleFrom x [] = Unit {0}
SingleFrom x (e ∷ es) = (length (said (lent_entry x.store e)).results ≤ 1) × SingleFrom (send x e) es

-- an event that is no batch
no_results : (e : Event) → batch_of e ≡ none → length (says e).results ≤ 1
unfolding batch_of says nothing_said
no_results (Event.coroutine f) q = omega arith
no_results Event.call q = omega arith
no_results (Event.pending c r) q = omega arith
no_results (Event.settled v) q = omega arith
no_results (Event.gather os) q = omega arith
no_results (Event.await o) q = omega arith
no_results (Event.complete v) q = omega arith
no_results (Event.fail n) q = omega arith
no_results (Event.results rs) q = absurd_some (sym q)
no_results Event.resume q = omega arith
no_results (Event.cancel t) q = omega arith
no_results (Event.show o) q = omega arith
no_results Event.eager q = omega arith

-- what is said: what the event says, or nothing
pub few-said : (x : Entry) → ((tells x.answer).accepts ≡ true → length (says x.event).results ≤ 1) → length (said x).results ≤ 1
unfolding said nothing_said
few-said x k = by (tells x.answer).accepts refl
  where
    by : (b : Bool) → (tells x.answer).accepts ≡ b → length (elim b as (λ (c : Bool). Says) [ true ↦ says x.event | false ↦ nothing_said ]).results ≤ 1
    by true q = k q
    by false q = omega arith

-- an entry of no accepted batch
uncut_said : (x : Entry) → accepted_batch x.answer x.event ≡ none → length (said x).results ≤ 1
unfolding accepted_batch
uncut_said x q = few-said x (λ a. no_results x.event (ap (λ (b : Bool). pick b (batch_of x.event) none) (sym a) ∙ q))

alone-single : (rs : List Result) (l : List ℕ) (y : Session) → SingleFrom y (each_alone rs l)
unfolding SingleFrom each_alone entry_of says
alone-single [] l y = tt
alone-single (r ∷ rs) l y = (few-said (lent_entry y.store (batch (r ∷ []) l)) (λ a. omega arith), alone-single rs l (send y (batch (r ∷ []) l)))

-- The pieces of an event say one result at a time.
pub cut-single : (x : Session) (e : Sent) → SingleFrom x (cut x.store e)
unfolding SingleFrom cut cut_by
cut-single x e = by (accepted_batch (lent_any x.store e).answer e.event) refl
  where
    by : (b : Option (List Result)) → accepted_batch (lent_any x.store e).answer e.event ≡ b → SingleFrom x (cut_by e b)
    by none q = (uncut_said (lent_entry x.store e) (unfold entry_of in q), tt)
    by (some rs) q = alone-single rs e.list x
