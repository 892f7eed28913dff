use Rattle.drive_text.specs.WritingLaws.{puts, puts_by_two}
use Rattle.drive_shows.specs.PlaceLaws.{places-none, places_turn, halved, whole}
use Rattle.drive_shows.proofs.shows.put_places.Goals as goal

pub loop-i-init : goal.loop-i-init
loop-i-init c = (puts (places-none c.args.places.now c.args.first c.args.mask _), whole _)

pub loop-i-preserved : goal.loop-i-preserved
loop-i-preserved c =
    let l = c.loop-i in
    (puts_by_two (places_turn c.args.places.now c.args.first c.args.mask l.i l.invariant.1) l.invariant.0 c.put_place.ensures, halved c.args.mask l.i l.invariant.1)
