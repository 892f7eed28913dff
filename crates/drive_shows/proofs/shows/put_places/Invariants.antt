use Rattle.std.specs.Prelude.{◌≡◌, ◌*◌, ◌/◌, ◌^◌}
use Rattle.step_read.specs.Reads.{places_from}
use Rattle.drive_text.specs.Writing.{PutsBetween}
use Rattle.drive_lines.specs.Lines.{places_text}
use Rattle.drive_shows.proofs.shows.put_places.Given as goal

abbrev pub invariant-loop-i : goal.invariant-loop-i
invariant-loop-i l = PutsBetween (27 * l.i) l.initial.out l.out (places_text (places_from l.places l.first l.mask 0 l.i)) × (l.rest ≡ l.mask / 2 ^ l.i)
