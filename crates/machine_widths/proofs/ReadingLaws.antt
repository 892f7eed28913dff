-- A store is sound as it is read with n call numbers of k values exactly where it is sound and at most n are handed out; it is then read alike.
use Rattle.std.specs.Prelude.{◌≡◌, Bool, true, false, leb}
use Rattle.std.proofs.Math.Path.{refl, sym, ap, subst}
use Rattle.std.proofs.Common.{◌∙◌, true≢false, arith, le→leb}
use mathlib.Core.List.{List}
use Prim.Native.Nat.{ℕ, ◌+◌, ◌%◌, ◌≤◌, ◌<◌}
use Rattle.std.proofs.Math.Nat.{mod-lt, mod-eq_of_lt}
use Rattle.std.proofs.Math.Dec.{T, leb→le, ltb→lt}
use Rattle.std.proofs.Math.ListN.{get_or}
use Rattle.asyncio.specs.Limits.{task_limit, call_limit, u32_limit}
use Rattle.asyncio.specs.declared.CallId.{CallId}
use Rattle.asyncio.specs.declared.ExternalFutureState.{ExternalFutureState}
use Rattle.asyncio.specs.declared.Kind.{Kind}
use Rattle.asyncio.specs.declared.Object.{Object}
use Rattle.asyncio.specs.declared.Header.{Header}
use Rattle.asyncio.specs.Numbers.{call_id, to_call_id}
use Rattle.asyncio.specs.Kinds.{is_external}
use Rattle.asyncio.specs.Layout.{object_words, to_kind, row_object, to_object, header_words, to_header}
use Rattle.rows.specs.Tables.{object_at, header_at}
use Rattle.rows.specs.Canonical.{same_words, task_canonical, object_canonical, place_canonical, header_canonical}
use Rattle.rows.specs.CanonicalLaws.{words_same}
use Rattle.queue.specs.Queue.{entries}
use Rattle.machine.specs.Tests.{◌and◌, all_below}
use Rattle.machine.specs.Store.{Store, View, view, task, object, place, header}
use Rattle.machine.specs.Sound.{words_in_range, object_in_range, sound_view, sound}
use Rattle.machine_laws.specs.TestLaws.{both, both_left, both_right, below, from-below}
use Rattle.machine_laws.specs.StoreLaws.{header-fits}
use Rattle.machine_laws.specs.Facts.{WordsInRange, SoundFacts}
use Rattle.machine_laws.specs.FactLaws.{to_facts, to_test}
use Rattle.machine_laws.specs.WordLaws.{words_facts, words_test}
use Rattle.machine_laws.specs.SoundLaws.{sound_facts}
use Rattle.machine_widths.specs.Widths.{sound_at}
use Rattle.machine_widths.specs.Readings.{words_of_header, words_of_object, with_call, to_object_by, to_header_by, header_by, object_by, words_in_range_by, view_by, sound_by}
use Rattle.machine_widths.proofs.WidthLaws.{same_test, sound_at_of, sound_of_at}
use Rattle.machine_widths.proofs.RowsInUse.{with_objects, facts_same}
use Rattle.machine_widths.specs.ReadingLaws.{ReadAlike}

-- ---- rows

-- a number below both limits is read alike
same_mod : (x n m : ℕ) → x < n → n ≤ m → x % n ≡ x % m
same_mod x n m l k = mod-eq_of_lt l ∙ sym (mod-eq_of_lt (omega (arith, l, k)))

-- the header
header-alike : (n : ℕ) (w : List ℕ) → n ≤ call_limit → get_or w 2 0 ≤ n → to_header_by n w ≡ to_header w
unfolding to_header_by
header-alike n w u l =
    ap (λ (c : ℕ). record { made = (to_header w).made; used = (to_header w).used; calls = c; next = (to_header w).next; moment = (to_header w).moment })
    (same_mod (get_or w 2 0) (n + 1) (call_limit + 1) (omega (arith, l)) (omega (arith, u)))

-- canonical words have their own count
header-count : (n : ℕ) (w : List ℕ) → T (same_words (header_words (to_header_by n w)) w) → get_or w 2 0 ≤ n
unfolding to_header_by
header-count n w h =
    let e : get_or w 2 0 % (n + 1) ≡ get_or w 2 0 = ap (λ (v : List ℕ). get_or v 2 0) (words_same _ _ h) in
    omega (arith, e, mod-lt (get_or w 2 0) {m = n + 1} (omega arith))

-- word 4 of an external's row
word_4 : (c : CallId) (x : ExternalFutureState) → get_or (object_words (Object.ExternalFuture c x)) 4 0 ≡ c.0
word_4 c (ExternalFutureState.Pending a r) = refl
word_4 c (ExternalFutureState.Resolved v) = refl
word_4 c (ExternalFutureState.Failed e) = refl

-- an external's call read from its word
module _ (w : List ℕ) where
  abbrev call : ℕ
  call = get_or w 4 0

  -- another call makes another external, and no other object
  call_kept : (k : Kind) (c : CallId) → (is_external k ≡ true → c ≡ to_call_id call) → with_call (row_object k w) c ≡ row_object k w
  unfolding with_call
  call_kept Kind.Unmade c e = refl
  call_kept Kind.NewCoroutine c e = refl
  call_kept Kind.RunningCoroutine c e = refl
  call_kept Kind.CompletedCoroutine c e = refl
  call_kept Kind.PendingExternal c e = rw (e refl)
  call_kept Kind.ResolvedExternal c e = rw (e refl)
  call_kept Kind.FailedExternal c e = rw (e refl)
  call_kept Kind.PendingGather c e = refl
  call_kept Kind.AwaitedGather c e = refl
  call_kept Kind.CompletedGather c e = refl
  call_kept Kind.FailedGather c e = refl

  external-row : (k : Kind) → is_external k ≡ true → (x : ExternalFutureState) × (row_object k w ≡ Object.ExternalFuture (to_call_id call) x)
  external-row Kind.Unmade e = absurd (true≢false (sym e))
  external-row Kind.NewCoroutine e = absurd (true≢false (sym e))
  external-row Kind.RunningCoroutine e = absurd (true≢false (sym e))
  external-row Kind.CompletedCoroutine e = absurd (true≢false (sym e))
  external-row Kind.PendingExternal e = (_, refl)
  external-row Kind.ResolvedExternal e = (_, refl)
  external-row Kind.FailedExternal e = (_, refl)
  external-row Kind.PendingGather e = absurd (true≢false (sym e))
  external-row Kind.AwaitedGather e = absurd (true≢false (sym e))
  external-row Kind.CompletedGather e = absurd (true≢false (sym e))
  external-row Kind.FailedGather e = absurd (true≢false (sym e))

  abbrev its_kind : Kind
  its_kind = to_kind (get_or w 0 0)

  object-alike : (k : ℕ) → k ≤ u32_limit → (is_external its_kind ≡ true → call < k) → to_object_by k w ≡ to_object w
  unfolding to_object_by
  object-alike k u l = call_kept its_kind (call_id (call % k)) (λ e. ap call_id (same_mod call k u32_limit (l e) u))

  -- canonical words have their own call
  object-call : (n : ℕ) → 1 ≤ n → T (same_words (object_words (to_object_by n w)) w) → is_external its_kind ≡ true → call < n
  unfolding to_object_by with_call
  object-call n p h e =
      let x = external-row its_kind e in
      let q : object_words (Object.ExternalFuture (call_id (call % n)) x.0) ≡ w =
      subst (λ (y : Object). object_words (with_call y (call_id (call % n))) ≡ w) x.1 (words_same _ _ h) in
      let k : call % n ≡ call = sym (word_4 (call_id (call % n)) x.0) ∙ ap (λ (v : List ℕ). get_or v 4 0) q in
      omega (arith, k, mod-lt call {m = n} (omega (arith, p)))

  -- a call that was handed out
  call-range : (h : Header) (p : ℕ) → is_external its_kind ≡ true → T (object_in_range h p (to_object w)) → call % u32_limit < h.calls
  unfolding object_in_range
  call-range h p e t =
      let x = external-row its_kind e in
      ltb→lt (call % u32_limit) h.calls (subst (λ (y : Object). T (object_in_range h p y)) x.1 t)

-- with 32 bits it is today's reading
to_object_now : (w : List ℕ) → to_object_by u32_limit w ≡ to_object w
unfolding to_object_by
to_object_now w = call_kept w (to_kind (get_or w 0 0)) (to_call_id (get_or w 4 0)) (λ e. refl)

-- ---- stores

pub object_now : (s : Store) (o : ℕ) → object_by u32_limit s o ≡ object s o
unfolding object_by object object_at
object_now s o = to_object_now (words_of_object s o)

pub header_now : (s : Store) → header_by call_limit s ≡ header s
unfolding header_by to_header_by header header_at
header_now s = refl

-- a view of the store with this header and these objects
abbrev view_of : Store → Header → (ℕ → Object) → View
view_of s h os = record { tasks = λ t. task s t; objects = os; places = λ p. place s p; header = h; queue = entries s.queue }

module _ (k n : ℕ) (p : 1 ≤ k) (wide : n ≤ k) (u : k ≤ u32_limit) (v : n ≤ call_limit) (s : Store) where
  -- ---- from the reading with n numbers

  module _ (h : T (sound_by k n s)) where
    abbrev tasks_part : Bool
    tasks_part = all_below (header_by n s).next (λ t. task_canonical s.tasks t)

    abbrev objects_part : Bool
    objects_part = all_below (header_by n s).made (λ o. same_words (object_words (object_by k s o)) (words_of_object s o))

    abbrev places_part : Bool
    places_part = all_below (header_by n s).used (λ p. place_canonical s.places p)

    row-part : T (same_words (header_words (header_by n s)) (words_of_header s))
    unfolding sound_by words_in_range_by
    row-part = both_left _ _ (both_left _ _ h)

    rest_part : T (tasks_part and objects_part and places_part and leb s.queue.len task_limit)
    unfolding sound_by words_in_range_by
    rest_part = both_right (same_words (header_words (header_by n s)) (words_of_header s)) _ (both_left _ _ h)

    objects_right : (o : ℕ) → o < (header_by n s).made → T (same_words (object_words (object_by k s o)) (words_of_object s o))
    objects_right = below (header_by n s).made _ (both_left _ _ (both_right tasks_part _ rest_part))

    count_low : get_or (words_of_header s) 2 0 ≤ n
    unfolding header_by
    count_low = header-count n (words_of_header s) row-part

    head : header_by n s ≡ header s
    unfolding header_by header header_at
    head = header-alike n (words_of_header s) v count_low

    made-same : (header_by n s).made ≡ (header s).made
    made-same = ap (λ (y : Header). y.made) head

    alike : (o : ℕ) → o < (header s).made → object_by k s o ≡ object s o
    unfolding object_by object object_at
    alike o l = object-alike (words_of_object s o) k u (object-call (words_of_object s o) k p (objects_right o (omega (arith, l, made-same))))

    -- the store is read alike
    pub read_alike : ReadAlike k n s
    read_alike = record { header_same = head; objects_same = alike }

    words-now : T (words_in_range s)
    unfolding header_canonical object_canonical
    words-now = words_test s (record {
      header_right = unfold header header_at in (subst (λ (y : Header). T (same_words (header_words y) (words_of_header s))) head row-part);
      tasks_right = λ t l. below (header_by n s).next _ (both_left _ _ rest_part) t (omega (arith, l, ap (λ (y : Header). y.next) head));
      objects_right = λ o l. unfold object object_at in
          (subst (λ (x : Object). T (same_words (object_words x) (words_of_object s o))) (alike o l) (objects_right o (omega (arith, l, made-same))));
      places_right = λ q l. below (header_by n s).used _ (both_left _ _ (both_right objects_part _ (both_right tasks_part _ rest_part))) q
          (omega (arith, l, ap (λ (y : Header). y.used) head));
      queue_short = leb→le s.queue.len task_limit (both_right places_part _ (both_right objects_part _ (both_right tasks_part _ rest_part)));
    })

    view-now : T (sound_view (view s))
    unfolding sound_by view_by view with_objects
    view-now =
        let v : View = view_of s (header s) (λ o. object_by k s o) in
        let t : T (sound_view v) = subst (λ (y : Header). T (sound_view (view_of s y (λ o. object_by k s o)))) head (both_right (words_in_range_by k n s) _ h) in
        to_test (view s) (facts_same v (λ o. object s o) (λ o l. sym (alike o l)) (to_facts v (header-fits s) t))

    within-now : (header s).calls ≤ n
    within-now = omega (arith, sym (ap (λ (y : Header). y.calls) head), low)
      where
        low : (header_by n s).calls ≤ n
        low = unfold header_by to_header_by in (omega (arith, mod-lt (get_or (words_of_header s) 2 0) {m = n + 1} (omega arith)))

    now-sound : T (sound_at n s)
    unfolding sound
    now-sound = sound_at_of n s (both _ _ words-now view-now) within-now

  -- ---- and back

  module _ (h : T (sound s)) (l : (header s).calls ≤ n) where
    words : WordsInRange (header s).next (header s).made (header s).used s
    unfolding sound
    words = words_facts s (both_left _ _ h)

    facts : SoundFacts (view s)
    facts = sound_facts s h

    row_now : T (same_words (header_words (to_header (words_of_header s))) (words_of_header s))
    unfolding header_canonical
    row_now = words.header_right

    same_head : header_by n s ≡ header s
    unfolding header_by header header_at
    same_head =
        let e : (header s).calls ≡ get_or (words_of_header s) 2 0 = ap (λ (w : List ℕ). get_or w 2 0) (words_same _ _ row_now) in
        header-alike n (words_of_header s) v (omega (arith, e, l))

    handed_out : (o : ℕ) → o < (header s).made → is_external (to_kind (get_or (words_of_object s o) 0 0)) ≡ true → get_or (words_of_object s o) 4 0 < k
    unfolding object_canonical view object object_at
    handed_out o m e =
        let w : List ℕ = words_of_object s o in
        let c : get_or w 4 0 < u32_limit = object-call w u32_limit (omega arith)
        (subst (λ (x : Object). T (same_words (object_words x) w)) (sym (to_object_now w)) (words.objects_right o m)) e in
        let r : get_or w 4 0 % u32_limit < (header s).calls = call-range w (header s) _ e (facts.but.objects o m) in
        omega (arith, mod-eq_of_lt {n = get_or w 4 0} {m = u32_limit} c, r, l, wide)

    same_object : (o : ℕ) → o < (header s).made → object_by k s o ≡ object s o
    unfolding object_by object object_at
    same_object o m = object-alike (words_of_object s o) k u (handed_out o m)

    words-then : T (words_in_range_by k n s)
    unfolding words_in_range_by header_canonical object_canonical
    words-then =
        rw same_head (both _ _ (unfold header header_at in row_now)
        (both _ _ (from-below (header s).next _ words.tasks_right)
        (both _ _ (from-below (header s).made _ (λ o m. rw (same_object o m) (unfold object object_at in (words.objects_right o m))))
        (both _ _ (from-below (header s).used _ words.places_right) (le→leb s.queue.len task_limit words.queue_short)))))

    then-sound : T (sound_by k n s)
    unfolding sound_by view_by view with_objects
    then-sound =
        both _ _ words-then (subst (λ (y : Header). T (sound_view (view_of s y (λ o. object_by k s o)))) (sym same_head)
        (to_test (view_of s (header s) (λ o. object_by k s o)) (facts_same (view s) (λ o. object_by k s o) same_object facts)))

-- Soundness as the store is read with n call numbers of k values is that of the machine with n call numbers.
pub sound_by-is : (k n : ℕ) → 1 ≤ k → n ≤ k → k ≤ u32_limit → n ≤ call_limit → (s : Store) → sound_by k n s ≡ sound_at n s
sound_by-is k n p w u v s =
    same_test _ _ (λ h. now-sound k n p w u v s h) (λ h. let x = sound_of_at n s h in then-sound k n p w u v s x.0 x.1)
