use Rattle.sound_rows.specs.NumberLaws.{spawned_fit}
use Rattle.sound_rows.proofs.numbers.spawned_in_range.Goals as goal

pub returns : goal.returns
returns c = spawned_fit _ _ c.committed_places.ensures.0
