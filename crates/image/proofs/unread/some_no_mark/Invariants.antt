-- `image::unread::some_no_mark`: `found` is the definition at the bytes passed. Assumes nothing.
use mathlib.Core.Path.{◌≡◌}
use Rattle.basics.specs.Below.{any_below}
use Rattle.basics.specs.Bytes.{byte}
use Rattle.image.specs.Entries.{no_mark}
use Rattle.image.proofs.unread.some_no_mark.Given as goal

abbrev pub invariant-loop-b : goal.invariant-loop-b
invariant-loop-b l = l.found ≡ any_below l.b-index (λ k. no_mark (byte l.part k))
