-- The digits of a part stand behind those of the parts before it. Assumes nothing.
use Rattle.std.proofs.Common.{rules, ◌++◌, append_assoc, sym, ap, ◌∙◌, subst}
use Rattle.std.proofs.lemmas.Grind.{flat_map-append}
use Rattle.std.specs.Io.KnownBytes.{Appends}
use Rattle.std.proofs.KnownBytes.{Appends-trans}
use Rattle.streams.specs.Hex.{hex_byte}
use Rattle.streams.proofs.print.hex.Goals as goal

pub loop-part-preserved : goal.loop-part-preserved
loop-part-preserved g c =
    let done = c.loop-part.invariant.1 in
    let part = c.in-Some.part.now in
    let behind = append_assoc done.0 part c.next.new.self.rest.now ∙ ap (λ l. done.0 ++ l) (sym c.in-Some.ensures.steps.1.0) ∙ done.1 in (
      search rules,
      (
        done.0 ++ part,
        behind,
        subst (Appends _ _) (sym (flat_map-append hex_byte done.0 part)) (Appends-trans _ _ _ _ _ done.2 c.in_ok-few.ensures),
      ),
    )
