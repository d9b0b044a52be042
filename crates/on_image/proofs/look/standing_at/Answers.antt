-- `on_image::look::standing_at`: a LOOK that is not refused is of a station inside the array, whose votes fit a byte. Assumes nothing.
use Rattle.settlement.proofs.Votes.{few_votes}
use Rattle.image.specs.Image.{record_in}
use Rattle.on_image.proofs.Looks.{passed, shown_so}
use Rattle.on_image.proofs.look.standing_at.Goals as goal

pub station_in-t-requires : goal.station_in-t-requires
station_in-t-requires c = (passed (record_in c.args.image.now) c.args.s c.requires).1

pub overflow_cast-result : goal.overflow_cast-result
unfolding record_in
overflow_cast-result c = record { fits = rw (c.votes.ensures, c.station_in-t.ensures) (few_votes (record_in c.args.image.now) c.args.s c.requires) }

pub returns : goal.returns
unfolding record_in
returns c = rw (c.votes.ensures, c.decided.ensures, c.station_in-t.ensures) (shown_so (record_in c.args.image.now) c.args.s c.requires)
