-- `image::station::stage_from`: a stage's place is read back. Assumes nothing.
use mathlib.Core.Path.{◌∙◌}
use Rattle.image.proofs.Entries.{stage_read}
use Rattle.image.proofs.station.stage_from.Goals as goal

pub returns : goal.returns
returns c = c.unwrap_or.ensures ∙ stage_read c.args.x c.try_from.result c.try_from.ensures
