-- What stood at each row of the lent words before the call. All of it is `abbrev`: the same statement as the one written out.
use Rattle.std.specs.Prelude.{List, ℕ}
use denote.Triple.Both.{Both}
use Rattle.std.specs.Borrow.{Bor}
use Rattle.rows.specs.Tables.{task_at, object_at, place_at}
use Rattle.asyncio.specs.declared.Object.{Object}
use Rattle.asyncio.specs.declared.Task.{Task}
use Rattle.asyncio.specs.declared.Place.{Place}

abbrev pub task_in : Both (Bor (List ℕ)) (Bor (List ℕ)) → ℕ → Task
task_in tasks = task_at tasks.entry.now

abbrev pub object_in : Both (Bor (List ℕ)) (Bor (List ℕ)) → ℕ → Object
object_in objects = object_at objects.entry.now

abbrev pub place_in : Both (Bor (List ℕ)) (Bor (List ℕ)) → ℕ → Place
place_in places = place_at places.entry.now
