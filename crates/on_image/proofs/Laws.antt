-- Two entries stored in an image are the image of the record with both; bytes that are no image are turned away first. Assumes nothing.
use Prim.Native.Nat.{ℕ, ◌+◌, ◌<◌}
use mathlib.Core.Path.{◌≡◌, refl, sym, ap, ◌∙◌}
use mathlib.Core.Bool.{Bool, true, false, cond}
use mathlib.Core.List.{List}
use borrow.Author.Tests.{ne_eqb}
use lib.Dec.{eqb}
use native.Mathlib.Nat.{add-zero}
use native.Mathlib.Omega.{arith}
use lib.ListN.{length-set}
use lib.Seq.{get_or-drop}
use Rattle.basics.specs.declared.refusal.Refusal.{Refusal}
use Rattle.basics.specs.Refusals.{number_of, told, refused_if}
use Rattle.basics.specs.Tests.{refuse}
use Rattle.basics.specs.Bytes.{byte, InBytes, over}
use Rattle.entry.specs.declared.entry.Station.{Station}
use Rattle.entry.specs.declared.entry.Ballot.{Ballot}
use Rattle.consensus.specs.Events.{Event}
use Rattle.settlement.specs.Record.{with_station, with_ballot}
use Rattle.settlement.specs.Events.{played}
use Rattle.settlement.specs.Fault.{station_fault, fault_at}
use Rattle.image.specs.Entries.{stage_from, station_from, station_bytes, voters_bytes, marks_bytes}
use Rattle.image.specs.Image.{station_at, voters_at, marks_at, image_of, record_in, no_image}
use Rattle.image.proofs.Image.{is_image, entry_in, stations_long, ballots_long, image_again, station_stored, ballot_stored}
use Rattle.on_image.specs.Events.{image_number, image_after}

-- the number of a refusal where its test is met
pub number_if : (t : Bool) (e : Refusal) → told (refused_if t e) ≡ refuse t (number_of e) 0
number_if true e = refl
number_if false e = refl

pub two_stored : (b : List ℕ) → no_image b ≡ 0 → InBytes b → (i : ℕ) (t : Station) (k : ℕ) (u : Ballot) → i < 32 → k < 64
    → over (marks_at k) (marks_bytes u) (over (voters_at k) (voters_bytes u) (over (station_at i) (station_bytes t) b)) ≡ image_of (with_ballot k u (with_station i t (record_in b)))
two_stored b an in_bytes i t k u hi hk =
    let r = record_in b in
    let whole : image_of r ≡ b = image_again b (is_image b an) in_bytes in
    let first : image_of (with_station i t r) ≡ over (station_at i) (station_bytes t) b =
    station_stored r (stations_long b) i t hi ∙ ap (λ (l : List ℕ). over (station_at i) (station_bytes t) l) whole in
    sym (ballot_stored (with_station i t r) (length-set r.stations i t ∙ stations_long b) (ballots_long b) k u hk
    ∙ ap (λ (l : List ℕ). over (marks_at k) (marks_bytes u) (over (voters_at k) (voters_bytes u) l)) first)

-- what the record test asks of a station stands in three of its bytes
abbrev pub asked : List ℕ → ℕ → Station
asked b at =
    record {
      stage = stage_from (byte b at);
      lost = false;
      held = 0;
      claim = 0;
      cursor = byte b (at + 2);
      round = byte b (at + 3);
      word = 0;
      decision = 0;
    }

pub fault_asked : (b : List ℕ) (s : ℕ) → s < 32
    → station_fault (byte b 1) (byte b 2) (asked b (station_at s)) ≡ fault_at (record_in b) s
unfolding station_fault station_from record_in
fault_asked b s h =
    rw (entry_in b s h, get_or-drop (station_at s) b 0 0, get_or-drop (station_at s) b 2 0, get_or-drop (station_at s) b 3 0, add-zero)

module _ (b : List ℕ) (e : Event) where
  pub number_none : 0 < no_image b → image_number b e ≡ no_image b
  unfolding image_number
  number_none n = rw (ne_eqb (no_image b) 0 (λ z. omega (arith, n, z)))

  pub after_none : 0 < no_image b → image_after b e ≡ b
  unfolding image_after
  after_none n = rw (number_none n, ne_eqb (no_image b) 0 (λ z. omega (arith, n, z)))

  pub number_there : no_image b ≡ 0 → image_number b e ≡ (played (record_in b) e).number
  unfolding image_number
  number_there z = rw z

  pub after_there : no_image b ≡ 0 → image_after b e ≡ cond (eqb (played (record_in b) e).number 0) (image_of (played (record_in b) e).settlement) b
  unfolding image_after
  after_there z = rw (number_there z)
