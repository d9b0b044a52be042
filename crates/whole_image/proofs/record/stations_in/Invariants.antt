-- `whole_image::record::stations_in`: entry by entry. Assumes nothing.
use Prim.Native.Nat.{ℕ, ◌<◌}
use mathlib.Core.Path.{◌≡◌}
use lib.ListN.{length, get_or}
use Rattle.entry.specs.Entries.{blank_station}
use Rattle.image.specs.Image.{station_read}
use Rattle.whole_image.proofs.record.stations_in.Given as goal

abbrev pub invariant-loop-s : goal.invariant-loop-s
invariant-loop-s l = (length l.t-items ≡ 32) × ((j : ℕ) → j < l.s → get_or l.t-items j blank_station ≡ station_read l.image j)
