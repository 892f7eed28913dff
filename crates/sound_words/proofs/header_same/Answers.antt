use Rattle.std.proofs.Common.{◌∙◌}
use Rattle.sound_words.specs.Words.{same_header, same_pointwise}
use Rattle.sound_words.proofs.header_same.Goals as goal

pub returns : goal.returns
returns c = same_header (c.eq.ensures ∙ same_pointwise _ _) _ c.header_row-row.ensures c.to_header.ensures c.header_words.ensures
