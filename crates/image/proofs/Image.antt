-- An image and its record, both ways: entries are found and replaced at their places. Assumes nothing.
use Prim.Native.Nat.{ℕ, suc, ◌+◌, ◌*◌, ◌<◌}
use mathlib.Core.Path.{◌≡◌, refl, sym, subst, ap, ◌∙◌}
use mathlib.Core.Bool.{Bool, true, false, not}
use mathlib.Core.List.{List, [], ◌∷◌, ◌++◌, append-nil, append_assoc}
use native.Mathlib.Omega.{arith}
use native.Mathlib.Numerals.{add-one}
use borrow.Author.Tests.{eqb-true, ne_eqb}
use lib.Dec.{eqb}
use lib.ListN.{length, take, drop, set, length-append, length-drop, length-set, take-append-drop}
use lib.Seq.{get_or-drop, drop-drop, drop_at, take_all, take-add}
use Rattle.basics.specs.Bytes.{byte, four_from, InBytes, over}
use Rattle.basics.specs.Below.{any_below}
use Rattle.basics.specs.Tests.{refuse, first_met}
use Rattle.basics.proofs.Below.{any_none, none_below}
use Rattle.basics.proofs.Bools.{or_false, not_false→true}
use Rattle.basics.proofs.Bytes.{bytes_after}
use Rattle.basics.proofs.Refusals.{refused_not}
use Rattle.entry.specs.declared.entry.Station.{Station}
use Rattle.entry.specs.declared.entry.Ballot.{Ballot}
use Rattle.entry.specs.Entries.{blank_station, blank_ballot}
use Rattle.settlement.specs.declared.record.Settlement.{Settlement}
use Rattle.settlement.specs.Record.{entry, ballot, with_station, with_ballot}
use Rattle.image.specs.Lists.{flat, each}
use Rattle.image.specs.Entries.{station_bytes, station_from, voters_bytes, marks_bytes, ballot_from, no_mark, station_unread}
use Rattle.image.specs.Image.{station_at, voters_at, marks_at, image_of, station_read, ballot_read, record_in, unread, no_image, StationFits, BallotFits, RecordFits, RoundTrip, PlacesTold, NumbersTold}
use Rattle.image.proofs.Lists.{Between, first_bytes, length_each, getD_each, each_again, length_flat, laid_set, laid_at, flat_each}
use Rattle.image.proofs.Entries.{station_wide, station_again, station_there, station_reads, voters_wide, marks_wide, marks_read, ballot_again, voters_there, marks_there}

-- ---- bytes that are an image

pub record Image (b : List ℕ) : Type 0 where
  pub size : length b ≡ 1283
  pub first : byte b 0 ≡ 3
  pub read : unread b ≡ false

pub is_image : (b : List ℕ) → no_image b ≡ 0 → Image b
unfolding no_image first_met
is_image b e =
    let later = refuse (not (eqb (byte b 0) 3)) 81 (refuse (unread b) 42 0) in
    let one = refused_not (not (eqb (length b) 1283)) 80 later refl e in
    let two = refused_not (not (eqb (byte b 0) 3)) 81 (refuse (unread b) 42 0) refl one.1 in
    let three = refused_not (unread b) 42 0 refl two.1 in
    record {
      size = eqb-true _ _ (not_false→true _ one.0);
      first = eqb-true _ _ (not_false→true _ two.0);
      read = three.0;
    }

module _ (b : List ℕ) where
  pub count_in : (record_in b).count ≡ byte b 1
  unfolding record_in
  count_in = refl

  pub rule_in : (record_in b).rule ≡ byte b 2
  unfolding record_in
  rule_in = refl

  -- the entries as the record has them
  pub entry_in : (s : ℕ) → s < 32 → entry (record_in b) s ≡ station_read b s
  unfolding record_in
  entry_in s h = getD_each 32 (station_read b) s blank_station h

  pub ballot_in : (k : ℕ) → k < 64 → ballot (record_in b) k ≡ ballot_read b k
  unfolding record_in
  ballot_in k h = getD_each 64 (ballot_read b) k blank_ballot h

  pub stations_long : length (record_in b).stations ≡ 32
  unfolding record_in
  stations_long = length_each 32 (station_read b)

  pub ballots_long : length (record_in b).ballots ≡ 64
  unfolding record_in
  ballots_long = length_each 64 (ballot_read b)

  -- two parts that meet
  meeting : (m n p : ℕ) → take m (drop p b) ++ take n (drop (p + m) b) ≡ take (m + n) (drop p b)
  meeting m n p = ap (λ (l : List ℕ). take m (drop p b) ++ take n l) (sym (drop-drop m p b)) ∙ sym (take-add m n (drop p b))

  module _ (image : Image b) (in_bytes : InBytes b) where
    tests : (any_below 32 (λ s. station_unread (drop (station_at s) b)) ≡ false) × (any_below 128 (λ i. no_mark (byte (drop 1155 b) i)) ≡ false)
    unfolding unread
    tests = or_false _ _ image.read

    station_same : (s : ℕ) → s < 32 → station_bytes (station_read b s) ≡ take 20 (drop (20 * s) (drop 3 b))
    station_same s h =
        rw (drop-drop (20 * s) 3 b)
        (station_there (drop (station_at s) b) (rw (length-drop, image.size) (omega arith)) (bytes_after (station_at s) b in_bytes) (any_none 32 _ tests.0 s h))

    voters_same : (k : ℕ) → k < 64 → voters_bytes (ballot_read b k) ≡ take 8 (drop (8 * k) (drop 643 b))
    voters_same k h =
        rw (drop-drop (8 * k) 643 b)
        (voters_there (drop (voters_at k) b) (drop (marks_at k) b) (rw (length-drop, image.size) (omega arith)) (bytes_after (voters_at k) b in_bytes))

    marks_same : (k : ℕ) → k < 64 → marks_bytes (ballot_read b k) ≡ take 2 (drop (2 * k) (drop 1155 b))
    marks_same k h =
        let here : drop (2 * k) (drop 1155 b) ≡ drop (marks_at k) b = drop-drop (2 * k) 1155 b in
        let marks : (i : ℕ) → i < 2 → no_mark (byte (drop (2 * k) (drop 1155 b)) i) ≡ false =
        (λ i l. rw (get_or-drop (2 * k) (drop 1155 b) i 0) (any_none 128 _ tests.1 (2 * k + i) (omega arith))) in
        rw here (marks_there (drop (voters_at k) b) (drop (marks_at k) b) (rw (length-drop, image.size) (omega arith)) (rw here at marks))

    -- bytes that are an image are that of their record
    pub image_again : image_of (record_in b) ≡ b
    unfolding image_of record_in
    image_again =
        let head : take 3 b ≡ byte b 0 ∷ byte b 1 ∷ byte b 2 ∷ [] = first_bytes 3 b (rw image.size (omega arith)) in
        let stations = flat_each station_bytes 20 32 (station_read b) (drop 3 b) station_same in
        let voters = flat_each voters_bytes 8 64 (ballot_read b) (drop 643 b) voters_same in
        let marks = flat_each marks_bytes 2 64 (ballot_read b) (drop 1155 b) marks_same in
        let rest : take 640 (drop 3 b) ++ (take 512 (drop 643 b) ++ take 128 (drop 1155 b)) ≡ drop 3 b =
        ap (λ (l : List ℕ). take 640 (drop 3 b) ++ l) (meeting 512 128 643) ∙ meeting 640 640 3
        ∙ take_all 1280 (drop 3 b) (rw (length-drop, image.size) (omega arith)) in
        rw (stations, voters, marks, rest) (subst (λ (v : ℕ). v ∷ byte b 1 ∷ byte b 2 ∷ drop 3 b ≡ b) image.first
        (ap (λ (l : List ℕ). l ++ drop 3 b) (sym head) ∙ take-append-drop 3 b))

-- ---- an entry replaced is its bytes replaced

module _ (r : Settlement) (stations : length r.stations ≡ 32) where
  abbrev head : List ℕ
  head = 3 ∷ r.count ∷ r.rule ∷ []

  abbrev front : List ℕ
  front = flat station_bytes r.stations

  front_long : length (head ++ front) ≡ 643
  front_long = let long = length_flat station_bytes 20 station_wide r.stations in omega (arith, long, stations)

  -- the image with who voted and the marks of any ballots
  abbrev laid : List Ballot → List Ballot → List ℕ
  laid v m = head ++ (front ++ (flat voters_bytes v ++ flat marks_bytes m))

  pub station_stored : (s : ℕ) (t : Station) → s < 32 → image_of (with_station s t r) ≡ over (station_at s) (station_bytes t) (image_of r)
  unfolding image_of
  station_stored s t h =
      laid_set station_bytes 20 station_wide head 3 refl r.stations (flat voters_bytes r.ballots ++ flat marks_bytes r.ballots) s t (rw stations h)

  voters_stored : (v m : List Ballot) → length v ≡ 64 → (k : ℕ) (t : Ballot) → k < 64 → laid (set v k t) m ≡ over (voters_at k) (voters_bytes t) (laid v m)
  voters_stored v m long k t h = laid_set voters_bytes 8 voters_wide (head ++ front) 643 front_long v (flat marks_bytes m) k t (rw long h)

  module _ (v : List Ballot) (voters : length v ≡ 64) where
    -- what stands before the marks
    abbrev before : List ℕ
    before = head ++ (front ++ flat voters_bytes v)

    before_long : length before ≡ 1155
    before_long =
        let long = length_flat voters_bytes 8 voters_wide v in
        let both = length-append (head ++ front) (flat voters_bytes v) in
        omega (arith, long, both, voters, front_long)

    marks_last : (m : List Ballot) → before ++ (flat marks_bytes m ++ []) ≡ laid v m
    marks_last m =
        ap (λ (l : List ℕ). before ++ l) (append-nil (flat marks_bytes m))
        ∙ ap (λ (l : List ℕ). head ++ l) (append_assoc front (flat voters_bytes v) (flat marks_bytes m))

    marks_stored : (m : List Ballot) → length m ≡ 64 → (k : ℕ) (t : Ballot) → k < 64 → laid v (set m k t) ≡ over (marks_at k) (marks_bytes t) (laid v m)
    marks_stored m long k t h =
        sym (marks_last (set m k t)) ∙ laid_set marks_bytes 2 marks_wide before 1155 before_long m [] k t (rw long h)
        ∙ ap (over (marks_at k) (marks_bytes t)) (marks_last m)

  pub ballot_stored : length r.ballots ≡ 64 → (k : ℕ) (t : Ballot) → k < 64
      → image_of (with_ballot k t r) ≡ over (marks_at k) (marks_bytes t) (over (voters_at k) (voters_bytes t) (image_of r))
  unfolding image_of
  ballot_stored ballots k t h =
      marks_stored (set r.ballots k t) (length-set r.ballots k t ∙ ballots) r.ballots ballots k t h
      ∙ ap (over (marks_at k) (marks_bytes t)) (voters_stored r.ballots r.ballots ballots k t h)

-- ---- every record comes back from its image

module _ (r : Settlement) (stations : length r.stations ≡ 32) (ballots : length r.ballots ≡ 64) where
  pub image_long : length (image_of r) ≡ 1283
  unfolding image_of
  image_long =
      let voters = flat voters_bytes r.ballots in
      let marks = flat marks_bytes r.ballots in
      omega (
        arith,
        stations,
        ballots,
        length-append (front r stations) (voters ++ marks),
        length-append voters marks,
        length_flat station_bytes 20 station_wide r.stations,
        length_flat voters_bytes 8 voters_wide r.ballots,
        length_flat marks_bytes 2 marks_wide r.ballots,
      )

  -- the bytes at an entry's place are the entry's
  pub station_bytes_at : (s : ℕ) → s < 32 → Between (image_of r) (station_at s) (station_at (s + 1)) (station_bytes (entry r s))
  unfolding image_of
  station_bytes_at s h =
      rw add-one
      (laid_at station_bytes 20 station_wide (head r stations) 3 refl r.stations (flat voters_bytes r.ballots ++ flat marks_bytes r.ballots) s blank_station (rw stations h))

  pub voters_bytes_at : (k : ℕ) → k < 64 → Between (image_of r) (voters_at k) (voters_at (k + 1)) (voters_bytes (ballot r k))
  unfolding image_of
  voters_bytes_at k h =
      rw add-one
      (laid_at voters_bytes 8 voters_wide (head r stations ++ front r stations) 643 (front_long r stations) r.ballots (flat marks_bytes r.ballots) k blank_ballot (rw ballots h))

  pub marks_bytes_at : (k : ℕ) → k < 64 → Between (image_of r) (marks_at k) (marks_at (k + 1)) (marks_bytes (ballot r k))
  unfolding image_of
  marks_bytes_at k h =
      rw add-one
      (subst (λ (l : List ℕ). Between l (marks_at k) (marks_at (suc k)) (marks_bytes (ballot r k))) (marks_last r stations r.ballots ballots r.ballots)
      (laid_at marks_bytes 2 marks_wide (before r stations r.ballots ballots) 1155 (before_long r stations r.ballots ballots) r.ballots [] k blank_ballot (rw ballots h)))

  marks_part : drop 1155 (image_of r) ≡ flat marks_bytes r.ballots
  unfolding image_of
  marks_part =
      ap (drop 1155) (sym (marks_last r stations r.ballots ballots r.ballots))
      ∙ drop_at (before r stations r.ballots ballots) (flat marks_bytes r.ballots ++ []) 1155 (before_long r stations r.ballots ballots)
      ∙ append-nil (flat marks_bytes r.ballots)

  pub image_reads : unread (image_of r) ≡ false
  unfolding unread
  image_reads =
      let first : any_below 32 (λ s. station_unread (drop (station_at s) (image_of r))) ≡ false =
      none_below 32 _ (λ s h. rw (station_bytes_at s h).there (station_reads (entry r s) (drop (station_at (s + 1)) (image_of r)))) in
      let second : any_below 128 (λ i. no_mark (byte (drop 1155 (image_of r)) i)) ≡ false =
      none_below 128 _ (λ i h. rw marks_part (marks_read r.ballots i)) in
      rw (first, second)

  begins : byte (image_of r) 0 ≡ 3
  unfolding image_of
  begins = refl

  pub an_image : no_image (image_of r) ≡ 0
  unfolding no_image first_met
  an_image = rw (image_long, begins, image_reads)

module _ (r : Settlement) (fits : RecordFits r) where
  stations_again : each 32 (station_read (image_of r)) ≡ r.stations
  stations_again =
      each_again 32 _ r.stations blank_station fits.station_entries
      (λ s h. rw (station_bytes_at r fits.station_entries fits.ballot_entries s h).there (station_again (entry r s) _ (fits.stations s h)))

  ballots_again : each 64 (ballot_read (image_of r)) ≡ r.ballots
  ballots_again =
      each_again 64 _ r.ballots blank_ballot fits.ballot_entries
      (λ k h.
      rw ((voters_bytes_at r fits.station_entries fits.ballot_entries k h).there, (marks_bytes_at r fits.station_entries fits.ballot_entries k h).there)
      (ballot_again (ballot r k) _ _ (fits.ballots k h)))

  head_again : (byte (image_of r) 1 ≡ r.count) × (byte (image_of r) 2 ≡ r.rule)
  unfolding image_of
  head_again = (refl, refl)

  pub record_again : record_in (image_of r) ≡ r
  unfolding record_in
  record_again = rw (head_again.0, head_again.1, stations_again, ballots_again)

-- the numbers that bytes make fit
four_fits : (b : List ℕ) (i : ℕ) → InBytes b → four_from b i < 4294967296
four_fits b i h = omega (arith, h i, h (i + 1), h (i + 2), h (i + 3))

station_fits : (b : List ℕ) → InBytes b → StationFits (station_from b)
unfolding station_from
station_fits b h =
    record { cursor = h 2; round = h 3; held = four_fits b 4 h; claim = four_fits b 8 h; word = four_fits b 12 h; decision = four_fits b 16 h }

ballot_fits : (b m : List ℕ) → InBytes b → BallotFits (ballot_from b m)
unfolding ballot_from
ballot_fits b m h = record { cast0 = four_fits b 0 h; cast1 = four_fits b 4 h }

head_fits : (b : List ℕ) → InBytes b → ((record_in b).count < 256) × ((record_in b).rule < 256)
unfolding record_in
head_fits b h = (h 1, h 2)

record_fits : (b : List ℕ) → InBytes b → RecordFits (record_in b)
record_fits b h =
    record {
      count = (head_fits b h).0;
      rule = (head_fits b h).1;
      station_entries = stations_long b;
      ballot_entries = ballots_long b;
      stations = λ s l. subst StationFits (sym (entry_in b s l)) (station_fits (drop (station_at s) b) (bytes_after (station_at s) b h));
      ballots = λ k l. subst BallotFits (sym (ballot_in b k l)) (ballot_fits (drop (voters_at k) b) (drop (marks_at k) b) (bytes_after (voters_at k) b h));
    }

pub round_trip : RoundTrip
round_trip = record {
  an_image = λ r fits. an_image r fits.station_entries fits.ballot_entries;
  one_length = λ r fits. image_long r fits.station_entries fits.ballot_entries;
  of_record = record_again;
  of_bytes = λ b in_bytes e. image_again b (is_image b e) in_bytes;
  fits = record_fits;
}

pub places_told : (b : List ℕ) → PlacesTold b
unfolding record_in
places_told b = record { count = refl; rule = refl; station = entry_in b; ballot = ballot_in b }

-- ---- which number

marked : (u : Bool) → (refuse u 42 0 ≡ 0 → ⊥) → refuse u 42 0 ≡ 42
marked true n = refl
marked false n = absurd (n refl)

pub other_length_80 : (b : List ℕ) → (length b ≡ 1283 → ⊥) → no_image b ≡ 80
unfolding no_image first_met
other_length_80 b n = rw (ne_eqb (length b) 1283 n)

pub numbers_told : NumbersTold
unfolding no_image first_met
numbers_told = record {
  another_length = other_length_80;
  another_version = λ b e n. rw (e, ne_eqb (byte b 0) 3 n);
  nothing_else = λ b e v n. rw (e, v) (marked (unread b) (rw (e, v) at n));
}
