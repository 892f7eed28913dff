-- The words of a session (docs/LAYOUT.md), computed: document 01's worked example after its record 6, a wait with one call. A newcomer can hold each
-- row against LAYOUT.md.
use Rattle.std.specs.Prelude.{◌≡◌, refl, ℕ, List, [], ◌∷◌, take, drop}
use Rattle.asyncio.specs.declared.Value.{Value}
use Rattle.std.specs.Prelude.{None}
use Rattle.machine.specs.Store.{Store, fresh}
use Rattle.machine.specs.Machine.{Event, after}
use Rattle.machine.specs.Computes.{computes}

-- coroutine 7; call; pending 0; gather 0, 1, 0; await 2; complete plain 40
unfoldable pub waiting : Store
waiting =
    after fresh
    (Event.coroutine 7 ∷ Event.call ∷ Event.pending 0 None ∷ Event.gather (0 ∷ 1 ∷ 0 ∷ []) ∷ Event.await 2 ∷ Event.complete (Value.Plain 40) ∷ [])

-- the header: 3 objects made, 3 places used, 1 call handed out, 2 tasks, waiting
pub header_words : take 8 waiting.objects ≡ 3 ∷ 3 ∷ 1 ∷ 2 ∷ 1 ∷ 0 ∷ 0 ∷ 0 ∷ []
unfolding computes waiting
header_words = refl

-- coroutine 0 of function 7, completed; external 1, pending, awaited by place 1 of gather 2; gather 2, awaited by main, places 0 to 2, place 1 open
pub object_words : take 24 (drop 8 waiting.objects)
    ≡ 3 ∷ 0 ∷ 0 ∷ 0 ∷ 7 ∷ 0 ∷ 0 ∷ 0 ∷ 4 ∷ 2 ∷ 2 ∷ 1 ∷ 0 ∷ 0 ∷ 0 ∷ 0 ∷ 8 ∷ 1 ∷ 0 ∷ 0 ∷ 0 ∷ 3 ∷ 2 ∷ 0 ∷ []
unfolding computes waiting
object_words = refl

-- items 0, 1, 0; what item 0 delivered stands in both of its places
pub place_words : take 12 waiting.places ≡ 0 ∷ 1 ∷ 40 ∷ 0 ∷ 1 ∷ 0 ∷ 0 ∷ 0 ∷ 0 ∷ 1 ∷ 40 ∷ 0 ∷ []
unfolding computes waiting
place_words = refl

-- main is blocked on gather 2; task 1 has ended
pub task_words : take 16 waiting.tasks ≡ 5 ∷ 0 ∷ 0 ∷ 0 ∷ 0 ∷ 2 ∷ 0 ∷ 0 ∷ 0 ∷ 0 ∷ 0 ∷ 0 ∷ 0 ∷ 0 ∷ 0 ∷ 0 ∷ []
unfolding computes waiting
task_words = refl
