-- The limits by computation, on sessions whose count of calls was written: what each machine answers, and where the events before the first refusal 8 end.
use Rattle.std.specs.Prelude.{◌≡◌, refl, true, false, List, [], ◌∷◌, ◌++◌, map, ℕ, set}
use Rattle.machine.specs.Store.{Store, fresh, set_calls}
use Rattle.machine.specs.Sound.{sound}
use Rattle.machine.specs.Events.{waits}
use Rattle.machine.specs.Machine.{Event, Answer, after, answers}
use Rattle.machine.specs.Cases.{Turn, ◌⇒◌, turn_event, turn_answer, plain, list, return, pending}
use Rattle.machine.specs.Computes.{computes}
use Rattle.machine_widths.specs.Widths.{old_limit, sound_at, check_at, checks_at, refusal_at, step_at, after_at, answers_at, before_8}
use Rattle.machine_widths.specs.Readings.{with_call, to_object_by, to_header_by, header_by, object_by, words_in_range_by, view_by, sound_by, old_sound}

-- main runs, and n calls are handed out
abbrev pub counted : ℕ → Store
counted n = set_calls fresh n

-- ---- the last numbers, and refusal 8

-- the last number handed out is 4,294,967,294; 4,294,967,295 is none, in pending and in results
abbrev pub last_numbers : List Turn
last_numbers =
    Event.call ⇒ Answer.called 4294967294 ∷
    Event.call ⇒ Answer.refused 8 ∷
    Event.settled (plain 1) ⇒ Answer.refused 8 ∷
    Event.settled (list 0) ⇒ Answer.refused 5 ∷
    pending 4294967295 ⇒ Answer.refused 5 ∷
    pending 4294967294 ⇒ Answer.made 0 ∷
    pending 4294967294 ⇒ Answer.refused 6 ∷
    pending 65534 ⇒ Answer.made 1 ∷
    Event.await 0 ⇒ Answer.awaited (waits (65534 ∷ 4294967294 ∷ [])) 0 ∷
    Event.results (return 4294967295 1 ∷ return 65534 2 ∷ []) ⇒ Answer.done ∷
    Event.resume ⇒ Answer.control (waits (4294967294 ∷ [])) ∷
    []

pub last_numbers-answered : answers (counted 4294967294) (map turn_event last_numbers) ≡ map turn_answer last_numbers
unfolding computes turn_event turn_answer
last_numbers-answered = refl

-- at the end of the old width: refusals before it count, and 8 is where it ends
abbrev pub old_numbers : List Turn
old_numbers =
    pending 65535 ⇒ Answer.refused 5 ∷
    Event.call ⇒ Answer.called 65535 ∷
    pending 65535 ⇒ Answer.made 0 ∷
    pending 65536 ⇒ Answer.refused 5 ∷
    []

pub old_numbers-answered : answers_at old_limit (counted 65535) (map turn_event old_numbers) ≡ map turn_answer old_numbers
unfolding computes sound_at check_at checks_at refusal_at step_at answers_at turn_event turn_answer
old_numbers-answered = refl

-- behind them the old width refuses a call and a settled external with 8, and the events before that are those above
pub old_numbers-refused : answers_at old_limit (after_at old_limit (counted 65535) (map turn_event old_numbers)) (Event.call ∷ Event.settled (plain 1) ∷ Event.coroutine 1 ∷ []) ≡
    Answer.refused 8 ∷ Answer.refused 8 ∷ Answer.made 1 ∷ []
unfolding computes sound_at check_at checks_at refusal_at step_at answers_at after_at turn_event
old_numbers-refused = refl

pub old_numbers-before_8 : before_8 old_limit (counted 65535) (map turn_event old_numbers ++ Event.settled (plain 1) ∷ Event.coroutine 1 ∷ []) ≡ map turn_event old_numbers
unfolding computes sound_at check_at checks_at refusal_at step_at before_8 turn_event
old_numbers-before_8 = refl

-- today the next number follows, and is no other call's
abbrev pub next_numbers : List Turn
next_numbers =
    Event.call ⇒ Answer.called 65536 ∷
    pending 0 ⇒ Answer.made 1 ∷
    pending 65536 ⇒ Answer.made 2 ∷
    Event.await 2 ⇒ Answer.awaited (waits (0 ∷ 65535 ∷ 65536 ∷ [])) 0 ∷
    Event.results (return 0 1 ∷ return 131072 1 ∷ []) ⇒ Answer.done ∷
    Event.resume ⇒ Answer.control (waits (65535 ∷ 65536 ∷ [])) ∷
    []

pub next_numbers-answered : answers (after (counted 65535) (map turn_event old_numbers)) (map turn_event next_numbers) ≡ map turn_answer next_numbers
unfolding computes turn_event turn_answer
next_numbers-answered = refl

-- ---- the count's word

-- main runs, and the count's word is n
abbrev pub with_count : ℕ → Store
with_count n = record { tasks = fresh.tasks; objects = set fresh.objects 2 n; places = fresh.places; queue = fresh.queue; log = fresh.log }

pub counts_sound : map (λ (n : ℕ). sound (with_count n)) (65536 ∷ 65537 ∷ 4294967294 ∷ 4294967295 ∷ 4294967296 ∷ 8589934592 ∷ []) ≡
    true ∷ true ∷ true ∷ true ∷ false ∷ false ∷ []
unfolding computes
counts_sound = refl

pub old_counts_sound : map (λ (n : ℕ). old_sound (with_count n)) (0 ∷ 65535 ∷ 65536 ∷ 65537 ∷ 131073 ∷ 4294967295 ∷ []) ≡
    true ∷ true ∷ true ∷ false ∷ false ∷ false ∷ []
unfolding computes with_call to_object_by to_header_by header_by object_by words_in_range_by view_by sound_by
old_counts_sound = refl

-- ---- a call's word

-- one external is pending, and the words of its call and of the count are c and n
abbrev pub with_call_word : ℕ → ℕ → Store
with_call_word c n =
    let s : Store = after fresh (Event.call ∷ pending 0 ∷ []) in
    record { tasks = s.tasks; objects = set (set s.objects 12 c) 2 n; places = s.places; queue = s.queue; log = s.log }

pub calls_sound : map (λ (c : ℕ × ℕ). sound (with_call_word c.0 c.1)) ((0, 1) ∷ (65536, 65536) ∷ (65536, 65537) ∷ (4294967294, 4294967295) ∷ (4294967295, 4294967295) ∷ (4294967296, 4294967295) ∷ []) ≡
    true ∷ false ∷ true ∷ true ∷ false ∷ false ∷ []
unfolding computes
calls_sound = refl

pub old_calls_sound : map (λ (c : ℕ × ℕ). old_sound (with_call_word c.0 c.1)) ((0, 1) ∷ (65535, 65536) ∷ (65536, 65536) ∷ (65536, 65537) ∷ (65536, 1) ∷ []) ≡
    true ∷ true ∷ false ∷ false ∷ false ∷ []
unfolding computes with_call to_object_by to_header_by header_by object_by words_in_range_by view_by sound_by
old_calls_sound = refl
