-- `whole_image::record::stations_in`: entry by entry. Assumes nothing.
use mathlib.Core.Path.{◌≡◌, sym, ap, ◌∙◌}
use native.Mathlib.Omega.{arith}
use lib.ListN.{length-set}
use Rattle.std.proofs.lemmas.List.Edits.{fill_by_more}
use Rattle.entry.specs.Entries.{blank_station}
use Rattle.image.specs.Entries.{station_from}
use Rattle.image.specs.Image.{station_at, station_read}
use Rattle.image.proofs.Lists.{each_again, part_from}
use Rattle.whole_image.proofs.record.stations_in.Goals as goal

pub loop-s-preserved : goal.loop-s-preserved
loop-s-preserved c =
    let image = c.args.image.now in
    let s = c.loop-s.s in
    let read : c.station_from.result ≡ station_read image s = c.station_from.ensures ∙ ap station_from (part_from image 1283 c.told-image (station_at s)) in
    (simp length-set c.loop-s.invariant.0, rw read (fill_by_more (station_read image) c.loop-s.t-items s blank_station (omega arith) c.loop-s.invariant.1))

pub returns : goal.returns
returns c =
    let image = c.args.image.now in
    sym (each_again 32 (station_read image) c.loop-s.t-items blank_station c.loop-s-test.array_long (λ j h. sym (c.loop-s.invariant.1 j (omega arith))))
