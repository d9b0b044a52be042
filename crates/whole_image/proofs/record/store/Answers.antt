-- `whole_image::record::store`: the first three bytes, then entry by entry, each part from where the last one ends. Assumes nothing.
use mathlib.Core.Path.{◌≡◌}
use native.Mathlib.Omega.{arith}
use lib.ListN.{length, set, length-set}
use borrow.Author.Rules.{rules}
use Rattle.basics.proofs.Lists.{unmapped_length}
use Rattle.entry.specs.Entries.{station_entries, ballot_entries}
use Rattle.image.specs.Image.{version, image_bytes, image_of}
use Rattle.image.proofs.Image.{image_long, station_bytes_at, voters_bytes_at, marks_bytes_at}
use Rattle.whole_image.proofs.Partly.{stored_from, stored_front, stored_more, stored_whole, three_set}
use Rattle.whole_image.proofs.record.store.Goals as goal

pub loop-s-init : goal.loop-s-init
unfolding image_of
loop-s-init c =
    let image = c.args.image.now in
    let r = c.args.r.now in
    let same : length (set (set (set image 0 version) 1 r.count) 2 r.rule) ≡ image_bytes = simp length-set c.told-image in
    (same, record { long = same; so_far = rw (three_set image version r.count r.rule (omega arith)) })

pub loop-s-preserved : goal.loop-s-preserved
loop-s-preserved c =
    let r = c.args.r.now in
    let stations : length r.stations ≡ station_entries = search (unmapped_length, rules) in
    let ballots : length r.ballots ≡ ballot_entries = search (unmapped_length, rules) in
    let there = station_bytes_at r stations ballots c.loop-s.s (omega arith) in
    (c.loop-s.invariant.0, stored_more (image_of r) _ image_bytes (image_long r stations ballots) c.loop-s.invariant.0 there c.loop-s.invariant.1 c.write_station.ensures)

pub voters-init : goal.voters-init
voters-init c =
    let r = c.args.r.now in
    let stations : length r.stations ≡ station_entries = search (unmapped_length, rules) in
    let ballots : length r.ballots ≡ ballot_entries = search (unmapped_length, rules) in
    let so = c.loop-s.invariant.1 in
    let e : c.loop-s.s ≡ station_entries = omega arith in
    (so.long, stored_from so.long (stored_front (rw (image_long r stations ballots) (omega arith)) (rw e at so)))

pub voters-preserved : goal.voters-preserved
voters-preserved c =
    let r = c.args.r.now in
    let stations : length r.stations ≡ station_entries = search (unmapped_length, rules) in
    let ballots : length r.ballots ≡ ballot_entries = search (unmapped_length, rules) in
    let there = voters_bytes_at r stations ballots c.voters.k (omega arith) in
    (c.voters.invariant.0, stored_more (image_of r) _ image_bytes (image_long r stations ballots) c.voters.invariant.0 there c.voters.invariant.1 c.write_voters.ensures)

pub marks-init : goal.marks-init
marks-init c =
    let r = c.args.r.now in
    let stations : length r.stations ≡ station_entries = search (unmapped_length, rules) in
    let ballots : length r.ballots ≡ ballot_entries = search (unmapped_length, rules) in
    let so = c.voters.invariant.1 in
    let e : c.voters.k ≡ ballot_entries = omega arith in
    (so.long, stored_from so.long (stored_front (rw (image_long r stations ballots) (omega arith)) (rw e at so)))

pub marks-preserved : goal.marks-preserved
marks-preserved c =
    let r = c.args.r.now in
    let stations : length r.stations ≡ station_entries = search (unmapped_length, rules) in
    let ballots : length r.ballots ≡ ballot_entries = search (unmapped_length, rules) in
    let there = marks_bytes_at r stations ballots c.marks.k (omega arith) in
    (c.marks.invariant.0, stored_more (image_of r) _ image_bytes (image_long r stations ballots) c.marks.invariant.0 there c.marks.invariant.1 c.write_marks.ensures)

pub returns : goal.returns
returns c =
    let r = c.args.r.now in
    let stations : length r.stations ≡ station_entries = search (unmapped_length, rules) in
    let ballots : length r.ballots ≡ ballot_entries = search (unmapped_length, rules) in
    let e : c.marks.k ≡ ballot_entries = omega arith in
    stored_whole (image_long r stations ballots) c.marks.invariant.0 (rw e at c.marks.invariant.1)
