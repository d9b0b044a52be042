-- `on_image::look::look_on`: the bytes and the record first, and then LOOK's own test. Assumes nothing.
use mathlib.Core.Path.{◌≡◌, sym, ap, ◌∙◌}
use borrow.Author.Rules.{rules}
use Rattle.std.specs.Prelude.{Result}
use Rattle.basics.specs.declared.refusal.Refusal.{Refusal}
use Rattle.basics.specs.declared.refusal.Refusal.TheVariants.{NoStation}
use Rattle.basics.specs.Bytes.{byte}
use Rattle.basics.specs.Tests.{refuse}
use Rattle.basics.specs.Refusals.{told, number_of}
use Rattle.basics.proofs.Refusals.{some_number}
use Rattle.entry.specs.Entries.{no_station}
use Rattle.settlement.specs.Look.{turned_away, standing_told}
use Rattle.image.specs.Image.{record_in, tested_first}
use Rattle.on_image.proofs.Laws.{number_if}
use Rattle.on_image.proofs.Looks.{look_turned, look_left, turned}
use Rattle.on_image.proofs.look.look_on.Goals as goal

pub returns-in_err-image : goal.returns-in_err-image
returns-in_err-image c =
    let b = c.args.bytes.now in
    let why = c.in_err-image.field-0.0 in
    let says : standing_told c.from_residual.result ≡ turned_away (number_of why) = search rules in
    let its = c.in_err-image.ensures.refused in
    says ∙ ap turned_away its ∙ sym (look_turned b c.args.s (rw its at (some_number why)))

pub returns-in_err-refuse_if : goal.returns-in_err-refuse_if
returns-in_err-refuse_if c =
    let b = c.args.bytes.now in
    let s = c.args.s in
    let zero : tested_first b 0 ≡ 0 = sym c.in_ok-image.ensures.refused in
    let left = look_left b s zero in
    let why = c.in_err-refuse_if.field-0.0 in
    let says : standing_told c.from_residual-in_err-refuse_if.result ≡ turned_away (number_of why) = search rules in
    let its : number_of why ≡ refuse (no_station (byte b 1) s) 1 0 =
    rw (c.no_station.ensures, c.in_ok-image.ensures.same) at (ap (λ (x : Result (Unit {0}) Refusal). told x) c.in_err-refuse_if.ensures ∙ number_if c.no_station.result NoStation) in
    let met = its ∙ sym left.1 in
    says ∙ ap turned_away met ∙ sym (turned (record_in b) s (rw met at (some_number why))) ∙ sym left.0

pub standing_at-requires : goal.standing_at-requires
standing_at-requires c =
    let b = c.args.bytes.now in
    let s = c.args.s in
    let zero : tested_first b 0 ≡ 0 = sym c.in_ok-image.ensures.refused in
    let its : 0 ≡ refuse (no_station (byte b 1) s) 1 0 =
    rw (c.no_station.ensures, c.in_ok-image.ensures.same) at (ap (λ (x : Result (Unit {0}) Refusal). told x) c.in_ok-refuse_if.ensures ∙ number_if c.no_station.result NoStation) in
    rw c.in_ok-image.ensures.same ((look_left b s zero).1 ∙ sym its)

pub returns : goal.returns
returns c =
    let b = c.args.bytes.now in
    let zero : tested_first b 0 ≡ 0 = sym c.in_ok-image.ensures.refused in
    rw c.in_ok-image.ensures.same at c.standing_at.ensures ∙ sym (look_left b c.args.s zero).0
