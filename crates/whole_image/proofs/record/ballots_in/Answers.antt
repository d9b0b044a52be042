-- `whole_image::record::ballots_in`: entry by entry. Assumes nothing.
use mathlib.Core.Path.{◌≡◌, sym, ap₂, ◌∙◌}
use native.Mathlib.Omega.{arith}
use lib.ListN.{length-set}
use Rattle.std.proofs.lemmas.List.Edits.{fill_by_more}
use Rattle.entry.specs.Entries.{blank_ballot}
use Rattle.image.specs.Entries.{ballot_from}
use Rattle.image.specs.Image.{voters_at, marks_at, ballot_read}
use Rattle.image.proofs.Lists.{each_again, part_from}
use Rattle.whole_image.proofs.record.ballots_in.Goals as goal

pub loop-k-preserved : goal.loop-k-preserved
loop-k-preserved c =
    let image = c.args.image.now in
    let k = c.loop-k.k in
    let read : c.ballot_from.result ≡ ballot_read image k = c.ballot_from.ensures ∙ ap₂ ballot_from (part_from image 1283 c.told-image (voters_at k)) (part_from image 1283 c.told-image (marks_at k)) in
    (simp length-set c.loop-k.invariant.0, rw read (fill_by_more (ballot_read image) c.loop-k.t-items k blank_ballot (omega arith) c.loop-k.invariant.1))

pub returns : goal.returns
returns c =
    let image = c.args.image.now in
    sym (each_again 64 (ballot_read image) c.loop-k.t-items blank_ballot c.loop-k-test.array_long (λ j h. sym (c.loop-k.invariant.1 j (omega arith))))
