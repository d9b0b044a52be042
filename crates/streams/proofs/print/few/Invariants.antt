-- The digits of the bytes so far stand at the start. Assumes nothing.
use Rattle.std.proofs.Common.{◌≡◌, ◌*◌, length, take}
use Rattle.streams.specs.Hex.{hex}
use Rattle.streams.proofs.print.few.Given as goal

abbrev pub invariant-loop-i : goal.invariant-loop-i
invariant-loop-i g l = (length l.digits ≡ 16) × (take (2 * l.i) l.digits ≡ hex (take l.i l.part))
