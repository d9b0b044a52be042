-- What came stands after what was read before.
use Rattle.std.proofs.Common.{rules, length, ◌-◌, subst}
use Rattle.std.specs.Io.KnownBytes.{Consumes}
use Rattle.std.proofs.KnownBytes.{Consumes-trans}
use Rattle.streams.proofs.Filled.{joined}
use Rattle.streams.proofs.input.read_full.Goals as goal

pub loop-length-preserved : goal.loop-length-preserved
loop-length-preserved g c =
    let at = c.loop-length.length in
    let room = length c.loop-length.buffer - at in
    let whole = joined at room c.in_ok-n.n c.loop-length.buffer c.read.new.buf c.loop-length.invariant.1 c.in_ok-n.ensures.bound.0 in
    (search rules, search rules, subst (Consumes _ _) whole (Consumes-trans _ _ _ _ _ c.loop-length.invariant.2 c.in_ok-n.ensures.bytes.0))
