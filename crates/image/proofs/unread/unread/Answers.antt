-- `image::unread::unread`: the marks are the part from their place on. Assumes nothing.
use mathlib.Core.Path.{◌≡◌}
use native.Mathlib.Omega.{arith}
use lib.ListN.{length, take, drop, length-drop}
use lib.Seq.{take_all}
use Rattle.image.specs.Image.{unread}
use Rattle.image.proofs.unread.unread.Goals as goal

pub returns : goal.returns
unfolding unread
returns c =
    let image = c.args.image.now in
    let rest : length (drop 1155 image) ≡ 128 = rw length-drop (omega arith) in
    let whole : take 128 (drop 1155 image) ≡ drop 1155 image = take_all 128 (drop 1155 image) (omega arith) in
    let marks = rw (whole, rest) at c.some_no_mark.ensures in
    rw (c.some_station_unread.ensures, marks)
