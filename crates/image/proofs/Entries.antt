-- An entry and its bytes, both ways. Assumes nothing.
use Prim.Native.Nat.{ℕ, zero, suc, ◌≤◌, ◌<◌}
use mathlib.Core.Path.{◌≡◌, refl, sym, ap, ◌∙◌}
use mathlib.Core.Bool.{Bool, true, false}
use Rattle.std.specs.Prelude.{Result, Ok, Err}
use Rattle.std.specs.Result.{result_unwrap_or}
use mathlib.Core.List.{List, [], ◌∷◌, ◌++◌}
use native.Mathlib.Omega.{arith}
use borrow.Author.Tests.{ltb-false, ne_eqb}
use lib.Dec.{eqb, ltb}
use lib.ListN.{length, take}
use Rattle.basics.specs.Bytes.{byte, InBytes}
use Rattle.basics.proofs.Bytes.{four_again, bytes_again}
use Rattle.basics.proofs.Bools.{or_false}
use Rattle.entry.specs.declared.entry.Stage.{Stage}
use Rattle.entry.specs.declared.entry.Stage.TheVariants.{Idle, Waiting, Voting, Awaiting, Seeking, FinishVoting, FinishAwaiting, Decided}
use Rattle.entry.specs.declared.entry.Station.{Station}
use Rattle.entry.specs.declared.entry.Ballot.{Ballot}
use Rattle.entry.specs.declared.stage.NoStage.{NoStage}
use Rattle.entry.specs.Stages.{rank, Placed}
use Rattle.image.specs.Lists.{flat}
use Rattle.image.specs.Entries.{stage_from, mark_byte, mark_from, station_bytes, station_from, voters_bytes, marks_bytes, ballot_from, no_mark, station_unread}
use Rattle.image.specs.Image.{StationFits, BallotFits}
use Rattle.image.proofs.Lists.{first_bytes}

-- ---- a stage, a mark

stage_again : (g : Stage) → stage_from (rank g) ≡ g
unfolding stage_from
stage_again Idle = refl
stage_again Waiting = refl
stage_again Voting = refl
stage_again Awaiting = refl
stage_again Seeking = refl
stage_again FinishVoting = refl
stage_again FinishAwaiting = refl
stage_again Decided = refl

rank_again : (x : ℕ) → x ≤ 7 → rank (stage_from x) ≡ x
unfolding stage_from
rank_again zero h = refl
rank_again (suc zero) h = refl
rank_again (suc (suc zero)) h = refl
rank_again (suc (suc (suc zero))) h = refl
rank_again (suc (suc (suc (suc zero)))) h = refl
rank_again (suc (suc (suc (suc (suc zero))))) h = refl
rank_again (suc (suc (suc (suc (suc (suc zero)))))) h = refl
rank_again (suc (suc (suc (suc (suc (suc (suc zero))))))) h = refl
rank_again (suc (suc (suc (suc (suc (suc (suc (suc x)))))))) h = absurd (omega arith)

no_stage_idle : (x : ℕ) → 7 < x → Idle ≡ stage_from x
unfolding stage_from
no_stage_idle x h =
    let other : (k : ℕ) → k ≤ 7 → eqb x k ≡ false = (λ k l. ne_eqb x k (λ e. omega arith)) in
    rw (
      other 1 (omega arith),
      other 2 (omega arith),
      other 3 (omega arith),
      other 4 (omega arith),
      other 5 (omega arith),
      other 6 (omega arith),
      other 7 (omega arith),
    )

-- the stage that was read back, and idle where there was none
pub stage_read : (x : ℕ) (r : Result Stage NoStage) → Placed x r → result_unwrap_or r Idle ≡ stage_from x
stage_read x (Ok g) h = sym (stage_again g) ∙ ap stage_from h
stage_read x (Err e) h = no_stage_idle x h.1

mark_again : (m : Bool) → mark_from (mark_byte m) ≡ m
mark_again true = refl
mark_again false = refl

byte_again : (x : ℕ) → x ≤ 1 → mark_byte (mark_from x) ≡ x
byte_again zero h = refl
byte_again (suc zero) h = refl
byte_again (suc (suc x)) h = absurd (omega arith)

-- a byte that is no other than 0 and 1
small : (x : ℕ) → no_mark x ≡ false → x ≤ 1
small x e = ltb-false 1 x e

stage_exists : (g : Stage) → ltb 7 (rank g) ≡ false
stage_exists Idle = refl
stage_exists Waiting = refl
stage_exists Voting = refl
stage_exists Awaiting = refl
stage_exists Seeking = refl
stage_exists FinishVoting = refl
stage_exists FinishAwaiting = refl
stage_exists Decided = refl

mark_exists : (m : Bool) → no_mark (mark_byte m) ≡ false
mark_exists true = refl
mark_exists false = refl

-- ---- a station

pub station_wide : (t : Station) → length (station_bytes t) ≡ 20
unfolding station_bytes
station_wide t = refl

pub station_again : (t : Station) (rest : List ℕ) → StationFits t → station_from (station_bytes t ++ rest) ≡ t
unfolding station_bytes station_from
station_again t rest fits =
    rw (
      stage_again t.stage,
      mark_again t.lost,
      four_again t.held fits.held,
      four_again t.claim fits.claim,
      four_again t.word fits.word,
      four_again t.decision fits.decision,
    )

pub station_there : (b : List ℕ) → 20 ≤ length b → InBytes b → station_unread b ≡ false → station_bytes (station_from b) ≡ take 20 b
unfolding station_bytes station_from
station_there b long in_bytes read =
    let tests = or_false _ _ read in
    let held = bytes_again (byte b 4) (byte b 5) (byte b 6) (byte b 7) (in_bytes 4) (in_bytes 5) (in_bytes 6) (in_bytes 7) in
    let claim = bytes_again (byte b 8) (byte b 9) (byte b 10) (byte b 11) (in_bytes 8) (in_bytes 9) (in_bytes 10) (in_bytes 11) in
    let word = bytes_again (byte b 12) (byte b 13) (byte b 14) (byte b 15) (in_bytes 12) (in_bytes 13) (in_bytes 14) (in_bytes 15) in
    let decision = bytes_again (byte b 16) (byte b 17) (byte b 18) (byte b 19) (in_bytes 16) (in_bytes 17) (in_bytes 18) (in_bytes 19) in
    rw (first_bytes 20 b long, rank_again (byte b 0) (ltb-false 7 (byte b 0) tests.0), byte_again (byte b 1) (small (byte b 1) tests.1), held.0, held.1, held.2, held.3, claim.0, claim.1, claim.2, claim.3, word.0, word.1, word.2, word.3, decision.0, decision.1, decision.2, decision.3)

pub station_reads : (t : Station) (rest : List ℕ) → station_unread (station_bytes t ++ rest) ≡ false
unfolding station_bytes
station_reads t rest = rw (stage_exists t.stage, mark_exists t.lost)

-- ---- a ballot

pub voters_wide : (t : Ballot) → length (voters_bytes t) ≡ 8
unfolding voters_bytes
voters_wide t = refl

pub marks_wide : (t : Ballot) → length (marks_bytes t) ≡ 2
unfolding marks_bytes
marks_wide t = refl

-- each byte of the marks of any ballots is one
pub marks_read : (l : List Ballot) (i : ℕ) → no_mark (byte (flat marks_bytes l) i) ≡ false
unfolding flat marks_bytes
marks_read [] i = refl
marks_read (t ∷ l) zero = mark_exists t.answered
marks_read (t ∷ l) (suc zero) = mark_exists t.answer
marks_read (t ∷ l) (suc (suc i)) = marks_read l i

pub ballot_again : (t : Ballot) (voters marks : List ℕ) → BallotFits t → ballot_from (voters_bytes t ++ voters) (marks_bytes t ++ marks) ≡ t
unfolding voters_bytes marks_bytes ballot_from
ballot_again t voters marks fits =
    rw (four_again t.cast0 fits.cast0, four_again t.cast1 fits.cast1, mark_again t.answered, mark_again t.answer)

pub voters_there : (b m : List ℕ) → 8 ≤ length b → InBytes b → voters_bytes (ballot_from b m) ≡ take 8 b
unfolding voters_bytes ballot_from
voters_there b m long in_bytes =
    let zeros = bytes_again (byte b 0) (byte b 1) (byte b 2) (byte b 3) (in_bytes 0) (in_bytes 1) (in_bytes 2) (in_bytes 3) in
    let ones = bytes_again (byte b 4) (byte b 5) (byte b 6) (byte b 7) (in_bytes 4) (in_bytes 5) (in_bytes 6) (in_bytes 7) in
    rw (first_bytes 8 b long, zeros.0, zeros.1, zeros.2, zeros.3, ones.0, ones.1, ones.2, ones.3)

pub marks_there : (b m : List ℕ) → 2 ≤ length m → ((i : ℕ) → i < 2 → no_mark (byte m i) ≡ false) → marks_bytes (ballot_from b m) ≡ take 2 m
unfolding marks_bytes ballot_from
marks_there b m long marks =
    rw (first_bytes 2 m long, byte_again (byte m 0) (small (byte m 0) (marks 0 (omega arith))), byte_again (byte m 1) (small (byte m 1) (marks 1 (omega arith))))
