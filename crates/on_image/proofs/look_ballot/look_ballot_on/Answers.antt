-- `on_image::look_ballot::look_ballot_on`: a ballot that there is lies inside the array, and then there may be no room. Assumes nothing.
use mathlib.Core.Path.{◌≡◌, sym, ap, ◌∙◌}
use mathlib.Core.Bool.{false}
use borrow.Author.Rules.{rules}
use Rattle.std.specs.Prelude.{Result}
use Rattle.basics.specs.declared.refusal.Refusal.{Refusal}
use Rattle.basics.specs.declared.refusal.Refusal.TheVariants.{NoRoom}
use Rattle.basics.specs.Bytes.{byte}
use Rattle.basics.specs.Refusals.{told, number_of}
use Rattle.entry.specs.Entries.{no_ballot}
use Rattle.on_image.proofs.Laws.{number_if}
use Rattle.on_image.proofs.Tallies.{ballot_inside, tally_left}
use Rattle.on_image.proofs.look_ballot.look_ballot_on.Goals as goal

pub returns-in_err-refuse_if-2-clause-refused : goal.returns-in_err-refuse_if-2-clause-refused
returns-in_err-refuse_if-2-clause-refused c =
    let b = c.args.bytes.now in
    let there : c.no_ballot.result ≡ false = search rules in
    let some : no_ballot (byte b 1) (byte b 2) c.args.b ≡ false = sym (rw c.in_ok-image.ensures.same at c.no_ballot.ensures) ∙ there in
    let why = c.in_err-refuse_if-2.field-0.0 in
    let says : told c.from_residual-in_err-refuse_if-2.result ≡ number_of why = search rules in
    let its = ap (λ (x : Result (Unit {0}) Refusal). told x) c.in_err-refuse_if-2.ensures ∙ number_if _ NoRoom in
    says ∙ its ∙ sym (tally_left b c.args.b c.args.out.now (sym c.in_ok-image.ensures.refused) some)

pub ballot_in-requires : goal.ballot_in-requires
ballot_in-requires c =
    let b = c.args.bytes.now in
    let there : c.no_ballot.result ≡ false = search rules in
    let some : no_ballot (byte b 1) (byte b 2) c.args.b ≡ false = sym (rw c.in_ok-image.ensures.same at c.no_ballot.ensures) ∙ there in
    ballot_inside b c.args.b (sym c.in_ok-image.ensures.refused) some
