-- Canonical groups of words, as the code tests them: the words of a value, an error, an awaiter or a stretch of places are those of what
-- they are read as; and the row of an object is canonical when its groups are, kind by kind.
use Rattle.std.specs.Prelude.{◌≡◌, refl, Bool, true, false, ℕ, zero, suc, ◌+◌, ◌-◌, ◌≤◌, ◌<◌, ◌%◌, eqb, ltb, leb, length, get_or}
use Rattle.std.proofs.Math.Path.{sym}
use Rattle.std.proofs.Common.{ap, ◌∙◌, mod-eq_of_lt, mod-lt, arith}
use mathlib.Core.List.{List, [], ◌∷◌}
use Rattle.std.proofs.Math.Logic.{◌⊎◌, ⊎_elim}
use borrow.Author.Tests.{eq-eqb, ne_eqb, eqb-true, eqb-false, ltb-true, ltb-false, leb-true, leb-false}
use Rattle.asyncio.specs.States.{pick}
use Rattle.asyncio.specs.Limits.{task_limit, object_limit, place_limit, item_limit, u32_limit}
use Rattle.asyncio.specs.Numbers.{to_u32, to_first, to_count}
use Rattle.asyncio.specs.Layout.{value_words, to_value, option_words, to_option, error_words, to_error, awaiter_words, to_awaiter, object_words, to_object, row_object, to_kind}
use Rattle.asyncio.specs.Layout.{state_words, to_state, task_words, to_task, place_words, to_place}
use Rattle.asyncio.specs.declared.Kind.{Kind}
use Rattle.rows.specs.Canonical.{same_words}
use Rattle.machine.specs.Tests.{◌and◌}

-- ---- groups of words

-- three words that mean nothing
unfoldable pub zeros : ℕ → ℕ → ℕ → Bool
zeros a b c = eqb 0 a and eqb 0 b and eqb 0 c

-- the two words of a value
unfoldable pub value_same : ℕ → ℕ → Bool
value_same tag n = eqb (value_words (to_value tag n)).0 tag and eqb (value_words (to_value tag n)).1 n

-- the two words of a value or none
unfoldable pub option_same : ℕ → ℕ → Bool
option_same tag n = eqb (option_words (to_option tag n)).0 tag and eqb (option_words (to_option tag n)).1 n

-- the two words of an error
unfoldable pub error_same : ℕ → ℕ → Bool
error_same tag n = eqb (error_words (to_error tag n)).0 tag and eqb (error_words (to_error tag n)).1 n

-- the three words of an awaiter
unfoldable pub awaiter_same : ℕ → ℕ → ℕ → Bool
awaiter_same tag a b =
    let w = awaiter_words (to_awaiter tag a b) in
    eqb w.0 tag and eqb w.1 a and eqb w.2 b

-- the first place of a gather, and how many it has
unfoldable pub stretch_same : ℕ → ℕ → Bool
stretch_same i n = eqb (to_first i) i and eqb (to_count (to_first i) n) n

-- the three words of a task's state
unfoldable pub state_same : ℕ → ℕ → ℕ → Bool
state_same tag a b =
    let s = state_words (to_state tag a b) in
    eqb s.0 tag and eqb s.1 a and eqb s.2 b

-- ---- the groups of an object's row behind its kind

-- an object that is not made
unfoldable pub unmade_same : List ℕ → Bool
unmade_same w = zeros (get_or w 1 0) (get_or w 2 0) (get_or w 3 0) and eqb 0 (get_or w 4 0) and zeros (get_or w 5 0) (get_or w 6 0) (get_or w 7 0)

-- a coroutine
unfoldable pub coroutine_same : List ℕ → Bool
coroutine_same w = zeros (get_or w 1 0) (get_or w 2 0) (get_or w 3 0) and eqb (to_u32 (get_or w 4 0)) (get_or w 4 0) and zeros (get_or w 5 0) (get_or w 6 0) (get_or w 7 0)

-- a pending external
unfoldable pub pending_same : List ℕ → Bool
pending_same w = awaiter_same (get_or w 1 0) (get_or w 2 0) (get_or w 3 0) and ltb (get_or w 4 0) u32_limit and option_same (get_or w 5 0) (get_or w 6 0) and eqb 0 (get_or w 7 0)

-- a resolved external
unfoldable pub resolved_same : List ℕ → Bool
resolved_same w = zeros (get_or w 1 0) (get_or w 2 0) (get_or w 3 0) and ltb (get_or w 4 0) u32_limit and value_same (get_or w 5 0) (get_or w 6 0) and eqb 0 (get_or w 7 0)

-- a failed external
unfoldable pub failed_same : List ℕ → Bool
failed_same w = zeros (get_or w 1 0) (get_or w 2 0) (get_or w 3 0) and ltb (get_or w 4 0) u32_limit and error_same (get_or w 5 0) (get_or w 6 0) and eqb 0 (get_or w 7 0)

-- a gather that is pending or completed
unfoldable pub resting_same : List ℕ → Bool
resting_same w = zeros (get_or w 1 0) (get_or w 2 0) (get_or w 3 0) and stretch_same (get_or w 4 0) (get_or w 5 0) and eqb 0 (get_or w 6 0) and eqb 0 (get_or w 7 0)

-- an awaited gather
unfoldable pub awaited_same : List ℕ → Bool
awaited_same w = awaiter_same (get_or w 1 0) (get_or w 2 0) (get_or w 3 0) and stretch_same (get_or w 4 0) (get_or w 5 0) and eqb (to_u32 (get_or w 6 0)) (get_or w 6 0) and eqb 0 (get_or w 7 0)

-- a failed gather
unfoldable pub broken_same : List ℕ → Bool
broken_same w = zeros (get_or w 1 0) (get_or w 2 0) (get_or w 3 0) and stretch_same (get_or w 4 0) (get_or w 5 0) and error_same (get_or w 6 0) (get_or w 7 0)

-- ---- tests

-- two tests that agree
same_test : (x y : Bool) → (x ≡ true → y ≡ true) → (x ≡ false → y ≡ false) → x ≡ y
same_test true y f g = sym (f refl)
same_test false y f g = sym (g refl)

-- a number is read as itself below its limit only
below : (n k : ℕ) → 0 < k → ltb n k ≡ eqb (n % k) n
below n k p =
    same_test (ltb n k) (eqb (n % k) n) (λ e. eq-eqb _ _ (mod-eq_of_lt (ltb-true n k e)))
    (λ e. ne_eqb (n % k) n (λ q. omega (arith, q, mod-lt n p, ltb-false n k e)))

pub turned : (m n : ℕ) → eqb m n ≡ eqb n m
turned m n = same_test (eqb m n) (eqb n m) (λ e. eq-eqb n m (sym (eqb-true m n e))) (λ e. ne_eqb n m (λ q. eqb-false m n e (sym q)))

call_below : (n : ℕ) → ltb n u32_limit ≡ eqb (n % u32_limit) n
call_below n = below n u32_limit (omega arith)

task-below : (n : ℕ) → ltb n task_limit ≡ eqb (n % task_limit) n
task-below n = below n task_limit (omega arith)

object-below : (n : ℕ) → ltb n object_limit ≡ eqb (n % object_limit) n
object-below n = below n object_limit (omega arith)

-- ---- values

pub value-plain : {tag : ℕ} (n : ℕ) → tag ≡ 0 → true ≡ value_same tag n
unfolding value_same ◌and◌
value-plain n e = rw e (sym (eq-eqb n n refl))

pub value-list : {tag : ℕ} (n : ℕ) → tag ≡ 1 → ltb n object_limit ≡ value_same tag n
unfolding value_same ◌and◌
value-list n e = rw e (object-below n)

pub value_else : {tag : ℕ} (n : ℕ) → (tag ≡ 0 → ⊥) → (tag ≡ 1 → ⊥) → false ≡ value_same tag n
unfolding value_same ◌and◌
value_else {tag} n p q = rw (ne_eqb tag 0 p, ne_eqb 1 tag (λ e. q (sym e)))

pub option_none : {tag : ℕ} (n : ℕ) → tag ≡ 0 → eqb n 0 ≡ option_same tag n
unfolding option_same ◌and◌
option_none n e = rw e (turned n 0)

pub option_plain : {tag : ℕ} (n : ℕ) → tag ≡ 1 → true ≡ option_same tag n
unfolding option_same ◌and◌
option_plain n e = rw e (sym (eq-eqb n n refl))

pub option_list : {tag : ℕ} (n : ℕ) → tag ≡ 2 → ltb n object_limit ≡ option_same tag n
unfolding option_same ◌and◌
option_list n e = rw e (object-below n)

pub option_else : {tag : ℕ} (n : ℕ) → (tag ≡ 0 → ⊥) → (tag ≡ 1 → ⊥) → (tag ≡ 2 → ⊥) → false ≡ option_same tag n
unfolding option_same ◌and◌
option_else {tag} n p q r = rw (ne_eqb tag 0 p, ne_eqb (tag - 1) 0 (λ e. omega (arith, p, q)), ne_eqb 2 tag (λ e. r (sym e)))

-- ---- errors

error_host : {tag : ℕ} (n : ℕ) → tag ≡ 0 → eqb (to_u32 n) n ≡ error_same tag n
unfolding error_same ◌and◌
error_host n e = rw e

error-script : {tag : ℕ} (n : ℕ) → tag ≡ 1 → eqb (to_u32 n) n ≡ error_same tag n
unfolding error_same ◌and◌
error-script n e = rw e

-- errors without a number
error-coroutine : {tag : ℕ} (n : ℕ) → tag ≡ 2 → eqb n 0 ≡ error_same tag n
unfolding error_same ◌and◌
error-coroutine n e = rw e (turned n 0)

error_future : {tag : ℕ} (n : ℕ) → tag ≡ 3 → eqb n 0 ≡ error_same tag n
unfolding error_same ◌and◌
error_future n e = rw e (turned n 0)

error-gather : {tag : ℕ} (n : ℕ) → tag ≡ 4 → eqb n 0 ≡ error_same tag n
unfolding error_same ◌and◌
error-gather n e = rw e (turned n 0)

error_missing : {tag : ℕ} (n : ℕ) → tag ≡ 5 → eqb n 0 ≡ error_same tag n
unfolding error_same ◌and◌
error_missing n e = rw e (turned n 0)

error_module : {tag : ℕ} (n : ℕ) → tag ≡ 6 → eqb n 0 ≡ error_same tag n
unfolding error_same ◌and◌
error_module n e = rw e (turned n 0)

pub error_else : {tag : ℕ} (n : ℕ) → 7 ≤ tag → false ≡ error_same tag n
unfolding error_same ◌and◌
error_else {tag} n p =
    rw (ne_eqb tag 0 (λ e. omega arith), ne_eqb tag 1 (λ e. omega arith), ne_eqb tag 2 (λ e. omega arith), ne_eqb tag 3 (λ e. omega arith), ne_eqb tag 4 (λ e. omega arith), ne_eqb tag 5 (λ e. omega arith), ne_eqb 6 tag (λ e. omega arith))

-- by the tag's range
pub error-number : (tag n : ℕ) → tag < 2 → eqb (to_u32 n) n ≡ error_same tag n
error-number zero n p = error_host n refl
error-number (suc zero) n p = error-script n refl
error-number (suc (suc k)) n p = absurd (omega arith)

pub error_bare : (tag n : ℕ) → 2 ≤ tag → tag < 7 → eqb n 0 ≡ error_same tag n
error_bare zero n p q = absurd (omega arith)
error_bare (suc zero) n p q = absurd (omega arith)
error_bare (suc (suc zero)) n p q = error-coroutine n refl
error_bare (suc (suc (suc zero))) n p q = error_future n refl
error_bare (suc (suc (suc (suc zero)))) n p q = error-gather n refl
error_bare (suc (suc (suc (suc (suc zero))))) n p q = error_missing n refl
error_bare (suc (suc (suc (suc (suc (suc zero)))))) n p q = error_module n refl
error_bare (suc (suc (suc (suc (suc (suc (suc k))))))) n p q = absurd (omega arith)

-- ---- awaiters

pub awaiter_nobody : {tag : ℕ} (a b : ℕ) → tag ≡ 0 → eqb 0 a and eqb 0 b ≡ awaiter_same tag a b
unfolding awaiter_same ◌and◌
awaiter_nobody a b e = rw e

pub awaiter_task : {tag : ℕ} (a b : ℕ) → tag ≡ 1 → ltb a task_limit and eqb 0 b ≡ awaiter_same tag a b
unfolding awaiter_same ◌and◌
awaiter_task a b e = rw (e, task-below a)

pub awaiter_slot : {tag : ℕ} (a b : ℕ) → tag ≡ 2 → ltb a object_limit and ltb b object_limit ≡ awaiter_same tag a b
unfolding awaiter_same ◌and◌
awaiter_slot a b e = rw (e, object-below a, object-below b)

pub awaiter_else : {tag : ℕ} (a b : ℕ) → (tag ≡ 0 → ⊥) → (tag ≡ 1 → ⊥) → (tag ≡ 2 → ⊥) → false ≡ awaiter_same tag a b
unfolding awaiter_same ◌and◌
awaiter_else {tag} a b p q r = rw (ne_eqb tag 0 p, ne_eqb tag 1 q, ne_eqb 2 tag (λ e. r (sym e)))

-- ---- stretches

pub stretch_in : (i n : ℕ) → i ≤ place_limit → n ≤ item_limit → leb (i + n) place_limit ≡ stretch_same i n
unfolding stretch_same ◌and◌
stretch_in i n p q =
    let e : to_first i ≡ i = omega arith in
    rw (e, eq-eqb i i refl)
    (same_test (leb (i + n) place_limit) (eqb (to_count i n) n) (λ h. eq-eqb (to_count i n) n (omega (arith, leb-true (i + n) place_limit h)))
    (λ h. ne_eqb (to_count i n) n (λ x. omega (arith, x, leb-false (i + n) place_limit h))))

pub stretch_far : (i n : ℕ) → place_limit < i → false ≡ stretch_same i n
unfolding stretch_same ◌and◌
stretch_far i n p = rw (ne_eqb (to_first i) i (λ x. omega arith))

pub stretch_long : (i n : ℕ) → i ≤ place_limit → item_limit < n → false ≡ stretch_same i n
unfolding stretch_same ◌and◌
stretch_long i n p q =
    let e : to_first i ≡ i = omega arith in
    rw (e, eq-eqb i i refl, ne_eqb (to_count i n) n (λ x. omega arith))

-- ---- states

-- absent, unstarted, running
pub state_bare : (tag a b : ℕ) → tag < 3 → zeros 0 a b ≡ state_same tag a b
unfolding state_same zeros ◌and◌
state_bare zero a b p = refl
state_bare (suc zero) a b p = refl
state_bare (suc (suc zero)) a b p = refl
state_bare (suc (suc (suc k))) a b p = absurd (omega arith)

pub state_woken : {tag : ℕ} (a b : ℕ) → tag ≡ 3 → value_same a b ≡ state_same tag a b
unfolding state_same value_same ◌and◌
state_woken a b e = rw e

pub state_raised : {tag : ℕ} (a b : ℕ) → tag ≡ 4 → error_same a b ≡ state_same tag a b
unfolding state_same error_same ◌and◌
state_raised a b e = rw e

pub state_blocked : {tag : ℕ} (a b : ℕ) → tag ≡ 5 → ltb a object_limit and eqb 0 b ≡ state_same tag a b
unfolding state_same ◌and◌
state_blocked a b e = rw (e, object-below a)

pub state_else : {tag : ℕ} (a b : ℕ) → 6 ≤ tag → false ≡ state_same tag a b
unfolding state_same ◌and◌
state_else {tag} a b p =
    rw (ne_eqb tag 0 (λ e. omega arith), ne_eqb tag 1 (λ e. omega arith), ne_eqb tag 2 (λ e. omega arith), ne_eqb tag 3 (λ e. omega arith), ne_eqb tag 4 (λ e. omega arith), ne_eqb 5 tag (λ e. omega arith))

-- ---- rows

-- a row of eight words, word by word
listed : (w : List ℕ) → length w ≡ 8
    → w ≡ get_or w 0 0 ∷ get_or w 1 0 ∷ get_or w 2 0 ∷ get_or w 3 0 ∷ get_or w 4 0 ∷ get_or w 5 0 ∷ get_or w 6 0 ∷ get_or w 7 0 ∷ []
listed [] l = absurd (omega arith)
listed (a ∷ []) l = absurd (omega arith)
listed (a ∷ b ∷ []) l = absurd (omega arith)
listed (a ∷ b ∷ c ∷ []) l = absurd (omega arith)
listed (a ∷ b ∷ c ∷ d ∷ []) l = absurd (omega arith)
listed (a ∷ b ∷ c ∷ d ∷ e ∷ []) l = absurd (omega arith)
listed (a ∷ b ∷ c ∷ d ∷ e ∷ f ∷ []) l = absurd (omega arith)
listed (a ∷ b ∷ c ∷ d ∷ e ∷ f ∷ g ∷ []) l = absurd (omega arith)
listed (a ∷ b ∷ c ∷ d ∷ e ∷ f ∷ g ∷ h ∷ []) l = refl
listed (a ∷ b ∷ c ∷ d ∷ e ∷ f ∷ g ∷ h ∷ x ∷ xs) l = absurd (omega arith)

-- three words, one, three
threes : (a b c d e f g : Bool) → (a and b and c) and d and (e and f and g) ≡ pick a (pick b (pick c (pick d (pick e (pick f (pick g true false) false) false) false) false) false) false
unfolding ◌and◌
threes false b c d e f g = refl
threes true false c d e f g = refl
threes true true false d e f g = refl
threes true true true false e f g = refl
threes true true true true false f g = refl
threes true true true true true false g = refl
threes true true true true true true false = refl
threes true true true true true true true = refl

-- three words, one, two, one
twos : (a b c d e f g : Bool) → (a and b and c) and d and (e and f) and g ≡ pick a (pick b (pick c (pick d (pick e (pick f (pick g true false) false) false) false) false) false) false
unfolding ◌and◌
twos false b c d e f g = refl
twos true false c d e f g = refl
twos true true false d e f g = refl
twos true true true false e f g = refl
twos true true true true false f g = refl
twos true true true true true false g = refl
twos true true true true true true false = refl
twos true true true true true true true = refl

-- three words, two, one, one
ones : (a b c d e f g : Bool) → (a and b and c) and (d and e) and f and g ≡ pick a (pick b (pick c (pick d (pick e (pick f (pick g true false) false) false) false) false) false) false
unfolding ◌and◌
ones false b c d e f g = refl
ones true false c d e f g = refl
ones true true false d e f g = refl
ones true true true false e f g = refl
ones true true true true false f g = refl
ones true true true true true false g = refl
ones true true true true true true false = refl
ones true true true true true true true = refl

-- three words, two, two
pairs : (a b c d e f g : Bool) → (a and b and c) and (d and e) and (f and g) ≡ pick a (pick b (pick c (pick d (pick e (pick f (pick g true false) false) false) false) false) false) false
unfolding ◌and◌
pairs false b c d e f g = refl
pairs true false c d e f g = refl
pairs true true false d e f g = refl
pairs true true true false e f g = refl
pairs true true true true false f g = refl
pairs true true true true true false g = refl
pairs true true true true true true false = refl
pairs true true true true true true true = refl

-- a task's row: its awaiter, its coroutine, its state in three words that stand apart, one word
parts_apart : (a b c d e f g h : Bool) → (b and c and d) and e and (a and f and g) and h ≡ pick a (pick b (pick c (pick d (pick e (pick f (pick g (pick h true false) false) false) false) false) false) false) false
unfolding ◌and◌
parts_apart true false c d e f g h = refl
parts_apart false false c d e f g h = refl
parts_apart true true false d e f g h = refl
parts_apart false true false d e f g h = refl
parts_apart true true true false e f g h = refl
parts_apart false true true false e f g h = refl
parts_apart true true true true false f g h = refl
parts_apart false true true true false f g h = refl
parts_apart false true true true true f g h = refl
parts_apart true true true true true false g h = refl
parts_apart true true true true true true false h = refl
parts_apart true true true true true true true false = refl
parts_apart true true true true true true true true = refl

-- a place's row: one word, two, one
fours : (a b c d : Bool) → a and (b and c) and d ≡ pick a (pick b (pick c (pick d true false) false) false) false
unfolding ◌and◌
fours false b c d = refl
fours true false c d = refl
fours true true false d = refl
fours true true true false = refl
fours true true true true = refl

-- a row of four words, word by word
listed4 : (w : List ℕ) → length w ≡ 4 → w ≡ get_or w 0 0 ∷ get_or w 1 0 ∷ get_or w 2 0 ∷ get_or w 3 0 ∷ []
listed4 [] l = absurd (omega arith)
listed4 (a ∷ []) l = absurd (omega arith)
listed4 (a ∷ b ∷ []) l = absurd (omega arith)
listed4 (a ∷ b ∷ c ∷ []) l = absurd (omega arith)
listed4 (a ∷ b ∷ c ∷ d ∷ []) l = refl
listed4 (a ∷ b ∷ c ∷ d ∷ x ∷ xs) l = absurd (omega arith)

-- the words of a task's row, and of a place's, are those of what it is read as
abbrev pub task_row_same : List ℕ → Bool
task_row_same w = same_words (task_words (to_task w)) w

abbrev pub place_row_same : List ℕ → Bool
place_row_same w = same_words (place_words (to_place w)) w

pub row-task : (w : List ℕ) → length w ≡ 8
    → awaiter_same (get_or w 1 0) (get_or w 2 0) (get_or w 3 0) and ltb (get_or w 4 0) object_limit and state_same (get_or w 0 0) (get_or w 5 0) (get_or w 6 0) and eqb 0 (get_or w 7 0)
    ≡ task_row_same w
unfolding same_words awaiter_same state_same
row-task w l =
    rw (object-below (get_or w 4 0))
    (parts_apart _ _ _ _ _ _ _ _ ∙ sym (ap (λ (x : List ℕ). same_words (task_words (to_task w)) x) (listed w l)))

pub row-place : (w : List ℕ) → length w ≡ 4
    → ltb (get_or w 0 0) object_limit and option_same (get_or w 1 0) (get_or w 2 0) and eqb 0 (get_or w 3 0) ≡ place_row_same w
unfolding same_words option_same
row-place w l =
    rw (object-below (get_or w 0 0))
    (fours _ _ _ _ ∙ sym (ap (λ (x : List ℕ). same_words (place_words (to_place w)) x) (listed4 w l)))

-- the words of an object's row are those of what it is read as
abbrev pub object_row_same : List ℕ → Bool
object_row_same w = same_words (object_words (to_object w)) w

-- a kind's word above all
unknown : (n : ℕ) → 11 ≤ n → to_kind n ≡ Kind.FailedGather
unknown n h =
    rw (ne_eqb n 0 (λ e. omega arith), ne_eqb n 1 (λ e. omega arith), ne_eqb n 2 (λ e. omega arith), ne_eqb n 3 (λ e. omega arith), ne_eqb n 4 (λ e. omega arith), ne_eqb n 5 (λ e. omega arith), ne_eqb n 6 (λ e. omega arith), ne_eqb n 7 (λ e. omega arith), ne_eqb n 8 (λ e. omega arith), ne_eqb n 9 (λ e. omega arith))

-- a number from 1 to 3, case by case
one_to_three : {A : Type 0} (n : ℕ) → (n ≡ 1 → A) → (n ≡ 2 → A) → (n ≡ 3 → A) → 1 ≤ n → n ≤ 3 → A
one_to_three zero f g h p q = absurd (omega arith)
one_to_three (suc zero) f g h p q = f refl
one_to_three (suc (suc zero)) f g h p q = g refl
one_to_three (suc (suc (suc zero))) f g h p q = h refl
one_to_three (suc (suc (suc (suc k)))) f g h p q = absurd (omega arith)

module _ (w : List ℕ) (l : length w ≡ 8) where
  -- with its kind's word
  by_kind : (n : ℕ) → get_or w 0 0 ≡ n → object_row_same w ≡ same_words (object_words (row_object (to_kind n) w)) (n ∷ get_or w 1 0 ∷ get_or w 2 0 ∷ get_or w 3 0 ∷ get_or w 4 0 ∷ get_or w 5 0 ∷ get_or w 6 0 ∷ get_or w 7 0 ∷ [])
  by_kind n e = ap (λ (x : List ℕ). same_words (object_words (to_object w)) x) (listed w l) ∙ rw e

  pub row-unmade : get_or w 0 0 ≡ 0 → unmade_same w ≡ object_row_same w
  unfolding unmade_same same_words zeros awaiter_same option_same value_same error_same stretch_same
  row-unmade e = threes _ _ _ _ _ _ _ ∙ sym (by_kind 0 e)

  pub row-coroutine : 1 ≤ get_or w 0 0 → get_or w 0 0 ≤ 3 → coroutine_same w ≡ object_row_same w
  unfolding coroutine_same same_words zeros awaiter_same option_same value_same error_same stretch_same
  row-coroutine p q =
      let one : get_or w 0 0 ≡ 1 → coroutine_same w ≡ object_row_same w = λ e. threes _ _ _ _ _ _ _ ∙ sym (by_kind 1 e) in
      let two : get_or w 0 0 ≡ 2 → coroutine_same w ≡ object_row_same w = λ e. threes _ _ _ _ _ _ _ ∙ sym (by_kind 2 e) in
      let three : get_or w 0 0 ≡ 3 → coroutine_same w ≡ object_row_same w = λ e. threes _ _ _ _ _ _ _ ∙ sym (by_kind 3 e) in
      one_to_three (get_or w 0 0) one two three p q

  pub row-pending : get_or w 0 0 ≡ 4 → pending_same w ≡ object_row_same w
  unfolding pending_same same_words zeros awaiter_same option_same value_same error_same stretch_same
  row-pending e = rw (call_below (get_or w 4 0)) (twos _ _ _ _ _ _ _ ∙ sym (by_kind 4 e))

  pub row_resolved : get_or w 0 0 ≡ 5 → resolved_same w ≡ object_row_same w
  unfolding resolved_same same_words zeros awaiter_same option_same value_same error_same stretch_same
  row_resolved e = rw (call_below (get_or w 4 0)) (twos _ _ _ _ _ _ _ ∙ sym (by_kind 5 e))

  pub row-failed : get_or w 0 0 ≡ 6 → failed_same w ≡ object_row_same w
  unfolding failed_same same_words zeros awaiter_same option_same value_same error_same stretch_same
  row-failed e = rw (call_below (get_or w 4 0)) (twos _ _ _ _ _ _ _ ∙ sym (by_kind 6 e))

  pub row_waiting_resting : get_or w 0 0 ≡ 7 → resting_same w ≡ object_row_same w
  unfolding resting_same same_words zeros awaiter_same option_same value_same error_same stretch_same
  row_waiting_resting e = ones _ _ _ _ _ _ _ ∙ sym (by_kind 7 e)

  pub row-awaited : get_or w 0 0 ≡ 8 → awaited_same w ≡ object_row_same w
  unfolding awaited_same same_words zeros awaiter_same option_same value_same error_same stretch_same
  row-awaited e = ones _ _ _ _ _ _ _ ∙ sym (by_kind 8 e)

  pub row_done_resting : get_or w 0 0 ≡ 9 → resting_same w ≡ object_row_same w
  unfolding resting_same same_words zeros awaiter_same option_same value_same error_same stretch_same
  row_done_resting e = ones _ _ _ _ _ _ _ ∙ sym (by_kind 9 e)

  pub row-resting : (get_or w 0 0 ≡ 7) ⊎ (get_or w 0 0 ≡ 9) → resting_same w ≡ object_row_same w
  row-resting = ⊎_elim row_waiting_resting row_done_resting

  pub row-broken : get_or w 0 0 ≡ 10 → broken_same w ≡ object_row_same w
  unfolding broken_same same_words zeros awaiter_same option_same value_same error_same stretch_same
  row-broken e = pairs _ _ _ _ _ _ _ ∙ sym (by_kind 10 e)

  pub row_unknown : 11 ≤ get_or w 0 0 → false ≡ object_row_same w
  unfolding same_words
  row_unknown h =
      let k : to_kind (get_or w 0 0) ≡ Kind.FailedGather = unknown (get_or w 0 0) h in
      sym (ap (λ (x : List ℕ). same_words (object_words (to_object w)) x) (listed w l) ∙ rw (k, ne_eqb 10 (get_or w 0 0) (λ e. omega arith)))
