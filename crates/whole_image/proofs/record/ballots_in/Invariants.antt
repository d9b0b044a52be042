-- `whole_image::record::ballots_in`: entry by entry. Assumes nothing.
use Prim.Native.Nat.{ℕ, ◌<◌}
use mathlib.Core.Path.{◌≡◌}
use lib.ListN.{length, get_or}
use Rattle.entry.specs.Entries.{blank_ballot}
use Rattle.image.specs.Image.{ballot_read}
use Rattle.whole_image.proofs.record.ballots_in.Given as goal

abbrev pub invariant-loop-k : goal.invariant-loop-k
invariant-loop-k l = (length l.t-items ≡ 64) × ((j : ℕ) → j < l.k → get_or l.t-items j blank_ballot ≡ ballot_read l.image j)
