-- Clause 1 as the code asks it: objects, awaiters and the sum of places in one pass.
use Rattle.std.specs.Prelude.{Bool, ℕ, eqb}
use Rattle.asyncio.specs.Parts.{awaiter_of}
use Rattle.asyncio.specs.declared.Header.{Header}
use Rattle.asyncio.specs.declared.Object.{Object}
use Rattle.machine.specs.Tests.{◌and◌, all_below}
use Rattle.machine.specs.Sound.{object_in_range, awaiter_in_range, places_below}

-- object o and its awaiter
unfoldable pub object_ranged : Header → (ℕ → Object) → ℕ → Bool
object_ranged h os o = object_in_range h (places_below os o) (os o) and awaiter_in_range h (awaiter_of (os o))

-- every object, and the places used are those of the gathers
unfoldable pub objects_ranged : Header → (ℕ → Object) → Bool
objects_ranged h os = all_below h.made (object_ranged h os) and eqb h.used (places_below os h.made)
