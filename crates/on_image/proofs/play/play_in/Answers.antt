-- `on_image::play::play_in`: a record that passes the record test is played on the entries at the event's places, and two are stored. Assumes nothing.
use mathlib.Core.Path.{◌≡◌, sym, ap, ◌∙◌}
use mathlib.Core.Bool.{false, true}
use native.Mathlib.Omega.{arith}
use borrow.Author.Rules.{rules}
use Rattle.basics.specs.Refusals.{told, number_of}
use Rattle.basics.proofs.Refusals.{some_number}
use Rattle.event.specs.Meant.{meant}
use Rattle.event.specs.Change.{number_on, change_of, Tells}
use Rattle.settlement.specs.Outcome.{Outcome}
use Rattle.settlement.specs.InPlace.{seen}
use Rattle.settlement.proofs.Places.{played_refused, played_accepted, played_faulty}
use Rattle.image.specs.Image.{record_in}
use Rattle.on_image.proofs.Laws.{two_stored}
use Rattle.on_image.proofs.play.play_in.Goals as goal
use Rattle.on_image.proofs.play.play_in.Goals.{After-change_of}

-- the change is that of the entries seen at the event's places
changed : (c : After-change_of) → Tells c.change_of.result (change_of (seen (record_in c.args.image.now) (meant c.args.e)) (meant c.args.e))
unfolding record_in
changed c =
    rw (
      c.ballot_in-ballot.ensures,
      c.ballot_place-k.ensures.place,
      c.ballot_of.ensures,
      c.station_in-beside.ensures,
      c.station_place.ensures.place,
      c.beside_of.ensures,
      c.station_in-own.ensures,
      c.station_place-i.ensures.place,
      c.own_of.ensures,
    ) at c.change_of.ensures

pub returns-in_err-refuse_if-clause-refused : goal.returns-in_err-refuse_if-clause-refused
returns-in_err-refuse_if-clause-refused c =
    let faulty : c.faulty_in.result ≡ true = search rules in
    let says : told c.from_residual.result ≡ 42 = search rules in
    says ∙ sym (ap (λ (o : Outcome). o.number) (played_faulty (record_in c.args.image.now) (meant c.args.e) (sym c.faulty_in.ensures ∙ faulty)))

pub returns-in_err-change-clause-refused : goal.returns-in_err-change-clause-refused
returns-in_err-change-clause-refused c =
    let r = record_in c.args.image.now in
    let e = meant c.args.e in
    let sound : c.faulty_in.result ≡ false = search rules in
    let x = (changed (goal.at.returns-in_err-change-clause-refused c).After-change_of).number in
    let why = c.in_err-change.field-0.0 in
    let its : number_of why ≡ number_on (seen r e) e = rw c.in_err-change.was at x in
    let says : told c.from_residual-in_err-change.result ≡ number_of why = search rules in
    let some = some_number why in
    says ∙ its ∙ sym (ap (λ (o : Outcome). o.number) (played_refused r (sym c.faulty_in.ensures ∙ sound) e (λ z. omega (arith, some, its, z))))

pub returns-clause-refused : goal.returns-clause-refused
returns-clause-refused c =
    let r = record_in c.args.image.now in
    let e = meant c.args.e in
    let sound : c.faulty_in.result ≡ false = search rules in
    let x = (changed (goal.at.returns-clause-refused c).After-change_of).number in
    let zero : number_on (seen r e) e ≡ 0 = sym (rw c.in_ok-change.was at x) in
    sym (ap (λ (o : Outcome). o.number) (played_accepted r (sym c.faulty_in.ensures ∙ sound) e zero) ∙ zero)

pub returns-clause-image_after : goal.returns-clause-image_after
unfolding record_in
returns-clause-image_after c =
    let r = record_in c.args.image.now in
    let e = meant c.args.e in
    let sound : c.faulty_in.result ≡ false = search rules in
    let x = changed (goal.at.returns-clause-image_after c).After-change_of in
    let zero : number_on (seen r e) e ≡ 0 = sym (rw c.in_ok-change.was at x.number) in
    let entries = rw c.in_ok-change.was at x.entries in
    rw (
      c.store_ballot.ensures,
      c.store_station.ensures,
      two_stored c.args.image.now c.requires c.fits-image _ _ _ _ c.station_place-i.ensures.inside c.ballot_place-k.ensures.inside,
      played_accepted r (sym c.faulty_in.ensures ∙ sound) e zero,
      entries.0,
      entries.1,
      c.ballot_place-k.ensures.place,
      c.ballot_of.ensures,
      c.station_in-own.ensures,
      c.station_place-i.ensures.place,
      c.own_of.ensures,
    )
