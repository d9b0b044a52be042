-- What LOOK at a ballot of an image answers, by its tests, and what it leaves of the buffer. Assumes nothing.
use Prim.Native.Nat.{ℕ, ◌+◌, ◌≤◌, ◌<◌}
use mathlib.Core.Path.{◌≡◌, refl, sym, ap, ◌∙◌}
use mathlib.Core.Bool.{Bool, true, false, cond}
use mathlib.Core.List.{List}
use native.Mathlib.Nat.{lt_of_lt_of_le, zero-add, add-zero}
use borrow.Author.Tests.{ne_eqb, lt-ltb, le-ltb, ltb-true, ltb-false}
use native.Mathlib.Omega.{arith}
use Rattle.std.specs.Int.{from_bool}
use lib.Dec.{eqb, ltb}
use lib.ListN.{length, take, drop}
use lib.Seq.{sets, sets-eq, take_at, drop_at}
use Rattle.basics.specs.Bytes.{byte}
use Rattle.basics.specs.Tests.{refuse, first_met}
use Rattle.basics.proofs.Bools.{by_bool, not_false→true}
use Rattle.basics.proofs.Bytes.{four_again}
use Rattle.basics.proofs.Refusals.{refused_not}
use Rattle.entry.specs.Entries.{ballot_entries, no_ballot, ballots}
use Rattle.settlement.specs.declared.record.Settlement.{Settlement}
use Rattle.settlement.specs.Record.{ballot}
use Rattle.settlement.specs.Fault.{fault}
use Rattle.settlement.specs.Tally.{Tally, tally, no_tally, tallied}
use Rattle.settlement.proofs.Range.{few_stations}
use Rattle.settlement.proofs.Places.{ballots_few}
use Rattle.settlement.proofs.Voters.{shown_whole}
use Rattle.image.specs.Image.{record_in, no_image, tested_first}
use Rattle.image.proofs.Image.{count_in, rule_in}
use Rattle.image.specs.Entries.{mark_byte}
use Rattle.on_image.specs.Tally.{tally_bytes, tally_number, tally_after, tally_answer, by_value, Tallies, TallyAgain}
use Rattle.on_image.proofs.Looks.{tested_0, tested_then, tested_refused}

pub twelve : (t : Tally) → length (tally_bytes t) ≡ 12
unfolding tally_bytes
twelve t = refl

-- the number of the look by value is that of its tests
value_number : (r : Settlement) (k : ℕ) → (tallied r k).number ≡ refuse (fault r) 42 (refuse (no_ballot r.count r.rule k) 9 0)
unfolding tallied tally first_met
value_number r k = by_test (fault r) (no_ballot r.count r.rule k)
  where
    by_test : (f g : Bool) → (cond (eqb (refuse f 42 (refuse g 9 0)) 0) (tally (ballot r k)) (no_tally (refuse f 42 (refuse g 9 0)))).number ≡ refuse f 42 (refuse g 9 0)
    by_test true g = refl
    by_test false true = refl
    by_test false false = refl

-- 30 after the tests by value
in_order : (f g h : Bool) → refuse f 42 (refuse g 9 (refuse h 30 0)) ≡ cond (eqb (refuse f 42 (refuse g 9 0)) 0) (refuse h 30 0) (refuse f 42 (refuse g 9 0))
in_order true g h = refl
in_order false true h = refl
in_order false false h = refl

-- a ballot that there is lies inside the array
pub ballot_inside : (b : List ℕ) (k : ℕ) → tested_first b 0 ≡ 0 → no_ballot (byte b 1) (byte b 2) k ≡ false → k < ballot_entries
ballot_inside b k z n =
    let below = rw (← count_in b, ← rule_in b) at (ltb-true k _ (not_false→true _ n)) in
    lt_of_lt_of_le below (ballots_few (record_in b).count (record_in b).rule (few_stations (record_in b) (tested_0 b 0 z).1))

-- a mark as a byte
pub mark_told : (m : Bool) → from_bool m ≡ mark_byte m
mark_told true = refl
mark_told false = refl

module _ (b : List ℕ) (k : ℕ) (out : List ℕ) where
  abbrev none_there : Bool
  none_there = no_ballot (record_in b).count (record_in b).rule k

  -- not refused: of an image whose record passes, of one of its ballots, with room
  pub record Room : Type 0 where
    pub an_image : no_image b ≡ 0
    pub passes : fault (record_in b) ≡ false
    pub below : k < ballots (record_in b).count (record_in b).rule
    pub inside : k < ballot_entries
    pub fits : 12 ≤ length out

  pub room : tally_number b k out ≡ 0 → Room
  unfolding tally_number
  room z =
      let passed = tested_0 b (refuse none_there 9 (refuse (ltb (length out) 12) 30 0)) z in
      let there = refused_not none_there 9 (refuse (ltb (length out) 12) 30 0) refl passed.2 in
      let fits = refused_not (ltb (length out) 12) 30 0 refl there.1 in
      let below = ltb-true k _ (not_false→true _ there.0) in
      record {
        an_image = passed.0;
        passes = passed.1;
        below = below;
        inside = lt_of_lt_of_le below (ballots_few (record_in b).count (record_in b).rule (few_stations (record_in b) passed.1));
        fits = ltb-false _ _ fits.0;
      }

  pub tally_turned : 0 < tested_first b 0 → tally_number b k out ≡ tested_first b 0
  unfolding tally_number
  tally_turned n = tested_refused b _ (λ z. omega (arith, n, z))

  pub tally_none : tested_first b 0 ≡ 0 → no_ballot (byte b 1) (byte b 2) k ≡ true → tally_number b k out ≡ 9
  unfolding tally_number
  tally_none z n = tested_then b _ z ∙ rw (count_in, rule_in, n)

  pub tally_left : tested_first b 0 ≡ 0 → no_ballot (byte b 1) (byte b 2) k ≡ false → tally_number b k out ≡ refuse (ltb (length out) 12) 30 0
  unfolding tally_number
  tally_left z n = tested_then b _ z ∙ rw (count_in, rule_in, n)

  pub tally_stays : 0 < tally_number b k out → tally_after b k out ≡ out
  unfolding tally_after
  tally_stays n = rw (ne_eqb (tally_number b k out) 0 (λ z. omega (arith, n, z)))

  -- what the code writes of a ballot that may be shown
  pub tally_there : tally_number b k out ≡ 0 → tally_after b k out ≡ sets out 0 (tally_bytes (tally (ballot (record_in b) k)))
  unfolding tally_after
  tally_there z =
      let there = room z in
      let t = tally_bytes (tally (ballot (record_in b) k)) in
      rw (z, shown_whole (record_in b) k there.passes there.below) (sym (sets-eq t out 0 (rw (twelve, zero-add) there.fits)))

  -- the number by value, and then the room
  abbrev small : Bool
  small = ltb (length out) 12

  abbrev then_room : ℕ → ℕ
  then_room n = cond (eqb n 0) (refuse small 30 0) n

  room_last : tally_number b k out ≡ then_room (by_value b k)
  unfolding tally_number
  room_last =
      by_bool (eqb (no_image b) 0)
      (λ e. rw (e, value_number (record_in b) k) (in_order (fault (record_in b)) none_there small))
      (λ e. rw (e, e))

  refused_first : (by_value b k ≡ 0 → ⊥) → tally_number b k out ≡ by_value b k
  refused_first n = room_last ∙ ap (λ (c : Bool). cond c (refuse small 30 0) (by_value b k)) (ne_eqb (by_value b k) 0 n)

  no_room : by_value b k ≡ 0 → length out < 12 → tally_number b k out ≡ 30
  no_room z l = room_last ∙ ap then_room z ∙ ap (λ (c : Bool). refuse c 30 0) (lt-ltb (length out) 12 l)

  accepted : by_value b k ≡ 0 → 12 ≤ length out → tally_number b k out ≡ 0
  accepted z l = room_last ∙ ap then_room z ∙ ap (λ (c : Bool). refuse c 30 0) (le-ltb (length out) 12 l)

  shown : tally_number b k out ≡ 0 → take 12 (tally_after b k out) ≡ tally_bytes (tallied (record_in b) k)
  unfolding tally_after
  shown z = rw z (take_at (tally_bytes (tallied (record_in b) k)) _ 12 (twelve (tallied (record_in b) k)))

  stays : tally_number b k out ≡ 0 → drop 12 (tally_after b k out) ≡ drop 12 out
  unfolding tally_after
  stays z =
      let t = tallied (record_in b) k in
      rw z (drop_at (tally_bytes t) _ 12 (twelve t) ∙ ap (λ (n : ℕ). drop (0 + n) out) (twelve t))

pub tallies : Tallies
unfolding tally_after tally_answer
tallies b k out = record {
  refused_first = refused_first b k out;
  no_room = no_room b k out;
  accepted = accepted b k out;
  count = λ z. rw z;
  shown = shown b k out;
  stays = stays b k out;
  refused = λ n. rw (ne_eqb (tally_number b k out) 0 n, add-zero);
  refused_stays = λ n. rw (ne_eqb (tally_number b k out) 0 n);
}

pub tally_again : (t : Tally) → TallyAgain t
unfolding tally_bytes
tally_again t = record {
  cast0 = four_again t.cast0;
  cast1 = four_again t.cast1;
  count0 = refl;
  count1 = refl;
  answered = refl;
  answer = refl;
}
