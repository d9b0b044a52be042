-- `whole_image::record::store`: entry by entry, each part from where the last one ends. Assumes nothing.
use mathlib.Core.Path.{◌≡◌}
use lib.ListN.{length}
use Rattle.image.specs.Image.{station_at, voters_at, marks_at, image_bytes, image_of}
use Rattle.whole_image.proofs.Partly.{Stored}
use Rattle.whole_image.proofs.record.store.Given as goal

abbrev pub invariant-loop-s : goal.invariant-loop-s
invariant-loop-s l = (length l.initial.image ≡ image_bytes) × Stored (image_of l.r) l.initial.image image_bytes (station_at l.s) l.image

abbrev pub invariant-voters : goal.invariant-voters
invariant-voters l = (length l.initial.image ≡ image_bytes) × Stored (image_of l.r) l.initial.image image_bytes (voters_at l.k) l.image

abbrev pub invariant-marks : goal.invariant-marks
invariant-marks l = (length l.initial.image ≡ image_bytes) × Stored (image_of l.r) l.initial.image image_bytes (marks_at l.k) l.image
