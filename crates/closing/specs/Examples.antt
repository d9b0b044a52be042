-- Closing logs byte by byte, and each refusal, on records with literal numbers (document 02, A.3). Beside a row stands what a wrong program would do
-- there. The records are small: some are reached from an opening, the others are made up. Assumes nothing.
use Rattle.std.specs.Prelude.{ℕ, ◌+◌, ◌≡◌, Bool, true, false, not, ◌&&◌, List, [], ◌∷◌, ◌++◌, eqb, length, replicate}
use Rattle.bits.specs.Examples.{every}
use Rattle.entry.specs.declared.entry.Stage.TheVariants.{Idle, Waiting, Awaiting, Seeking, FinishVoting, FinishAwaiting, Decided}
use Rattle.entry.specs.declared.entry.Station.{Station}
use Rattle.entry.specs.declared.entry.Ballot.{Ballot}
use Rattle.entry.specs.Entries.{blank_station}
use Rattle.event.specs.Examples.{same_station, same_ballot, live, lost, voted_by}
use Rattle.field.specs.Examples.{same}
use Rattle.settlement.specs.declared.record.Settlement.{Settlement}
use Rattle.settlement.specs.Record.{entry, ballot, with_station, with_ballot}
use Rattle.settlement.specs.Events.{fresh}
use Rattle.closing.specs.Close.{close_number, close_settlement, close_count, close_buffer}

-- CLOSE with a preferred bit. Accepted, into nines with so many behind the log: the log's bytes, their count, and the nines behind it.
-- Refused, into so many nines: the number, count 0, and every nine. The whole entry of station s, or of ballot b, in the settlement answered.
pub data Row : Type 0 where
  closes : Settlement → (preferred behind : ℕ) → (log : List ℕ) → Row
  refuses : Settlement → (preferred room number : ℕ) → Row
  leaves : Settlement → (preferred room s : ℕ) → Station → Row
  leaves_ballot : Settlement → (preferred room b : ℕ) → Ballot → Row

abbrev nines : ℕ → List ℕ
nines n = replicate n 9

abbrev right_so : Settlement → (preferred : ℕ) → (before : List ℕ) → (number count : ℕ) → (after : List ℕ) → Bool
right_so r p before k c after =
    eqb (close_number r p (length before)) k && eqb (close_count r p (length before)) c && same (close_buffer r p before) after

abbrev pub close_row_right : Row → Bool
close_row_right (closes r p behind log) = right_so r p (nines (length log + behind)) 0 (length log) (log ++ nines behind)
close_row_right (refuses r p room k) = right_so r p (nines room) k 0 (nines room)
close_row_right (leaves r p room s t) = same_station (entry (close_settlement r p room) s) t
close_row_right (leaves_ballot r p room b t) = same_ballot (ballot (close_settlement r p room) b) t

-- ---- the fields: DELIVER t, s; STEP s; ANSWER b, a

abbrev hand : (t s : ℕ) → List ℕ
hand t s = 0x11 ∷ 0 ∷ 2 ∷ t ∷ s ∷ []

abbrev go : ℕ → List ℕ
go s = 0x12 ∷ 0 ∷ 1 ∷ s ∷ []

abbrev say : (b a : ℕ) → List ℕ
say b a = 0x14 ∷ 0 ∷ 2 ∷ b ∷ a ∷ []

-- ---- the records

-- of one, two and three stations
abbrev one : (rule : ℕ) → Station → Settlement
one rule t = with_station 0 t (fresh 1 rule)

abbrev two : (rule : ℕ) → Station → Station → Settlement
two rule t u = with_station 1 u (with_station 0 t (fresh 2 rule))

abbrev three : Station → Station → Station → Settlement
three t u w = with_station 2 w (with_station 1 u (with_station 0 t (fresh 3 1)))

-- put in, and nothing delivered yet
abbrev claimed : ℕ → Station
claimed v = live Waiting 0 v 0 0 0 0

abbrev idle : Station
idle = blank_station

-- both claimed, under either rule; only one of them
abbrev both : Settlement
both = two 1 (claimed 5) (claimed 6)

abbrev by_claim : Settlement
by_claim = two 2 (claimed 0) (claimed 1)

abbrev only_0 : Settlement
only_0 = two 1 (claimed 5) idle

abbrev only_1 : Settlement
only_1 = two 1 idle (claimed 6)

-- station 2 of three seeks, with the word 0; stations 0 and 1 have decided, and each holds its own claim
abbrev third : Settlement
third = three (live Decided 1 5 0 1 0 5) (live Decided 2 6 0 1 0 5) (live Seeking 4 7 2 1 0 0)

-- the claim of 0 is held by 0 alone, which is lost; by station 1 alone, which is idle
abbrev lost_holds : Settlement
lost_holds = two 1 (lost Waiting 1 5 0 0 0 0) (live Seeking 2 6 1 0 0 0)

abbrev idle_holds : Settlement
idle_holds = three (lost Waiting 0 5 0 0 0 0) (live Idle 1 0 0 0 0 0) (live Seeking 4 7 2 1 0 0)

-- made up: the claim of 0, which is lost, is held by entry 2 of two alone; station 1 seeks from 0 on, with the word 1
abbrev past_holds : Settlement
past_holds = with_station 2 (live Waiting 1 7 0 0 0 0) (two 1 (lost Waiting 0 5 0 0 0 0) (live Seeking 2 6 0 0 1 0))

-- made up: the claim of entry 2 of two is held by 0, which is lost
abbrev past_claimed : Settlement
past_claimed = with_station 2 (claimed 7) (two 1 (lost Waiting 4 5 0 0 0 0) (live Seeking 2 6 0 0 1 0))

-- made up: the claim of 1 is held by 1, which is idle
abbrev not_put_in : Settlement
not_put_in = two 1 (live Seeking 1 5 1 0 0 0) (live Idle 2 0 0 0 0 0)

-- station 1 awaits ballot 0, where only 1 was cast, and lacks the claim of 0
abbrev awaits_1 : Settlement
awaits_1 = with_ballot 0 (voted_by 0 2 false false) (two 1 (live Decided 1 5 0 0 0 5) (live Awaiting 2 6 1 0 0 0))

-- station 1 cast 1 in ballot 0 and is lost, and station 0 holds both claims
abbrev lost_voter : Settlement
lost_voter = with_ballot 0 (voted_by 0 2 false false) (two 1 (live Waiting 3 5 0 0 0 0) (lost Awaiting 2 6 1 0 0 0))

-- made up: station 0 of two awaits ballot 0, where it cast 0 and entry 2 cast 1
abbrev past_voter : Settlement
past_voter = with_ballot 0 (voted_by 1 4 false false) (two 1 (live Awaiting 3 5 0 0 0 0) (live Decided 3 6 1 0 1 6))

-- station 0 awaits ballot 0, which has its answer
abbrev has_answer : Settlement
has_answer = with_ballot 0 (voted_by 1 0 true false) (two 1 (live Awaiting 1 5 0 0 0 0) idle)

-- by claim: station 1 put in 3 and is lost; ballot 0 has its answer 1
abbrev lost_longest : Settlement
lost_longest = with_ballot 0 (voted_by 0 2 true true) (two 2 (live Waiting 3 0 0 0 0 0) (lost Awaiting 3 3 1 0 0 0))

-- made up: a lone station by claim whose word 2 is not its claim 0; it decides in 6 steps, and in 7
abbrev in_six : Settlement
in_six = with_ballot 1 (voted_by 1 0 true false) (one 2 (live FinishAwaiting 1 0 0 0 2 0))

abbrev in_seven : Settlement
in_seven = one 2 (live FinishVoting 1 0 0 0 2 0)

-- made up: the latter beside an idle station with a long claim, where it takes 8 steps and its bound is 7; and with a long claim put in by entry 1 of one
abbrev stale_longest : Settlement
stale_longest = two 2 (live FinishVoting 1 0 0 0 2 0) (live Idle 0 2147483648 0 0 0 0)

abbrev past_longest : Settlement
past_longest = with_station 1 (claimed 2147483648) in_seven

-- made up: awaiting in a ballot where nobody cast, by claim and beside a station that can go; taking answer 0 from ballot 63; seeking station 1 for ever
abbrev nobody_cast : Settlement
nobody_cast = one 2 (live Awaiting 1 4 0 0 0 0)

abbrev stuck_later : Settlement
stuck_later = two 1 (claimed 5) (live Awaiting 2 6 1 0 0 0)

abbrev last_no : Settlement
last_no = with_ballot 63 (voted_by 1 0 true false) (one 2 (live FinishAwaiting 1 5 0 31 5 0))

abbrev for_ever : Settlement
for_ever = two 1 (live Seeking 1 5 0 0 1 0) idle

-- outside its ranges: a cursor of n; and stuck besides, were it played
abbrev outside : Settlement
outside = one 2 (live Awaiting 1 4 1 0 0 0)

-- ---- accepted

abbrev log_0 : List ℕ
log_0 =
    hand 0 0 ++ go 0 ++ hand 1 1 ++ hand 0 1 ++ go 1
    ++ hand 1 0 ++ go 0 ++ go 1
    ++ say 0 0 ++ go 0 ++ go 1
    ++ go 0 ++ go 1
    ++ go 0

abbrev logs : List Row
logs =
    -- no stations: 0 bytes, in any buffer; and where all have decided or are idle
    closes (fresh 0 1) 0 0 [] ∷ closes (fresh 0 1) 1 3 [] ∷ closes (fresh 0 2) 1 3 []
    ∷ closes (two 1 (live Decided 1 5 0 0 0 5) idle) 0 2 []
    -- a lone station by station decides with its first step, which is its bound
    ∷ closes (one 1 (claimed 9)) 0 1 (0x11 ∷ 0 ∷ 2 ∷ 0 ∷ 0 ∷ 0x12 ∷ 0 ∷ 1 ∷ 0 ∷ [])
    -- both: pass after pass, and not one station to its end before the next; at the first turn of 0 nobody holds the claim of 1, and it is not delivered;
    -- at the first turn of 1 its own claim comes first, though a lower one is lacked; that one was delivered in this very pass; 5 steps are the bound
    ∷ closes both 0 1 log_0
    -- the whole buffer
    ∷ closes both 0 0 log_0
    -- the other bit preferred, which was cast too
    ∷ closes both 1 1
    (hand 0 0 ++ go 0 ++ hand 1 1 ++ hand 0 1 ++ go 1
    ++ hand 1 0 ++ go 0 ++ go 1
    ++ say 0 1 ++ go 0 ++ go 1
    ++ go 0 ++ go 1
    ++ go 1)
    -- by claim: ballot 1 is a finish ballot
    ∷ closes by_claim 0 1
    (hand 0 0 ++ go 0 ++ hand 1 1 ++ hand 0 1 ++ go 1
    ++ hand 1 0 ++ go 0 ++ go 1
    ++ say 0 0 ++ go 0 ++ go 1
    ++ go 0 ++ go 1
    ++ go 0 ++ go 1
    ++ go 0 ++ say 1 1 ++ go 1
    ++ go 0)
    -- the bit preferred though nobody cast it; a STEP for an idle station
    ∷ closes only_0 1 1 (hand 0 0 ++ go 0 ++ go 0 ++ say 0 0 ++ go 0 ++ go 0 ++ go 0)
    ∷ closes only_1 0 1 (hand 1 1 ++ go 1 ++ go 1 ++ say 0 1 ++ go 1 ++ go 1 ++ go 1)
    -- claims in falling order; claims for a station that has decided
    ∷ closes third 0 1 (hand 0 2 ++ hand 1 2 ++ go 2)
    -- a claim that only a lost station holds, or an idle one, left out; a claim or a STEP for a lost station
    ∷ closes lost_holds 0 1 (hand 0 1 ++ go 1)
    ∷ closes idle_holds 0 1 (hand 0 2 ++ go 2)
    -- a claim that only an entry from n on holds, or put in, delivered
    ∷ closes past_holds 0 1 (go 1) ∷ closes past_claimed 0 1 (go 1)
    -- a claim that is held and was not put in: its DELIVER would be refused
    ∷ closes not_put_in 0 1 (go 0)
    -- the answer before the claims, or none because the preferred bit was not cast
    ∷ closes awaits_1 0 1 (hand 0 1 ++ say 0 1 ++ go 1 ++ go 1 ++ go 1)
    -- a bit that only a lost station cast, not counted as cast; nor one that only an entry from n on cast
    ∷ closes lost_voter 1 1 (go 0 ++ go 0 ++ say 0 1 ++ go 0 ++ go 0) ∷ closes lost_voter 0 1 (go 0 ++ go 0 ++ say 0 0 ++ go 0 ++ go 0 ++ go 0)
    ∷ closes past_voter 1 1 (say 0 1 ++ go 0 ++ go 0) ∷ closes past_voter 0 1 (say 0 0 ++ go 0 ++ go 0 ++ go 0)
    -- an answer once more, which would be accepted
    ∷ closes has_answer 0 1 (go 0 ++ go 0 ++ go 0)
    -- K without the claims of lost stations: 12 steps are more than 1 + 1(2 + 4)
    ∷ closes lost_longest 0 1
    (go 0 ++ go 0 ++ go 0 ++ go 0 ++ go 0 ++ say 1 0 ++ go 0
    ++ go 0 ++ say 2 1 ++ go 0 ++ go 0 ++ go 0 ++ go 0 ++ say 3 1 ++ go 0)
    -- a bound of one step less than 1 + 1(1 + 4)
    ∷ closes in_six 0 1 (go 0 ++ go 0 ++ say 2 0 ++ go 0 ++ go 0 ++ go 0 ++ say 3 1 ++ go 0)
    ∷ []

-- ---- refused

abbrev refusals : List Row
refusals =
    -- "Record test first, then 10 for a preferred bit above 1, then 43, then 30": 42 before each of them
    refuses outside 0 0 42 ∷ refuses outside 1 99 42 ∷ refuses outside 2 0 42 ∷ refuses (fresh 33 1) 2 0 42 ∷ refuses (fresh 0 3) 2 0 42
    -- 10 before 43 and 30, and where there is nothing to write
    ∷ refuses nobody_cast 2 0 10 ∷ refuses nobody_cast 255 99 10 ∷ refuses both 2 0 10 ∷ refuses both 2 99 10 ∷ refuses (fresh 0 1) 2 3 10
    -- 43 before 30: an event would be refused, with 12; a later event; an event refused with 42
    ∷ refuses nobody_cast 0 0 43 ∷ refuses nobody_cast 1 99 43
    ∷ refuses stuck_later 0 0 43 ∷ refuses stuck_later 1 99 43
    ∷ refuses last_no 0 0 43 ∷ refuses last_no 1 99 43
    -- a station uses up its bound: for ever, and by one step
    ∷ refuses for_ever 0 0 43 ∷ refuses for_ever 1 99 43
    ∷ refuses in_seven 0 0 43 ∷ refuses in_seven 1 99 43
    -- K with a claim that was not put in, or with one of an entry from n on: both would close
    ∷ refuses stale_longest 0 99 43 ∷ refuses past_longest 0 99 43
    -- 30: one byte too few for 61, and none
    ∷ refuses both 0 60 30 ∷ refuses both 1 60 30 ∷ refuses both 0 0 30 ∷ refuses lost_holds 0 8 30
    ∷ []

-- ---- the settlement answered

abbrev after_them : List Row
after_them =
    -- "answer the settlement after it", and not the one given
    leaves both 0 61 0 (live Decided 3 5 0 0 0 5) ∷ leaves both 0 61 1 (live Decided 3 6 0 0 0 5)
    ∷ leaves both 1 61 0 (live Decided 3 5 1 0 1 6) ∷ leaves both 1 61 1 (live Decided 3 6 1 0 1 6)
    ∷ leaves_ballot both 0 61 0 (voted_by 1 2 true false) ∷ leaves_ballot both 1 61 0 (voted_by 1 2 true true)
    ∷ leaves lost_longest 0 99 0 (live Decided 3 0 1 1 3 3)
    -- a lost, an idle and a decided station stay as they are
    ∷ leaves lost_longest 0 99 1 (lost Awaiting 3 3 1 0 0 0) ∷ leaves lost_holds 0 99 0 (lost Waiting 1 5 0 0 0 0)
    ∷ leaves idle_holds 0 99 1 (live Idle 1 0 0 0 0 0) ∷ leaves third 0 99 0 (live Decided 1 5 0 1 0 5)
    -- "A refusal .. returns the settlement given": 30, 10, and 43 after events that were accepted
    ∷ leaves both 0 60 0 (claimed 5) ∷ leaves both 2 61 0 (claimed 5) ∷ leaves stuck_later 0 99 0 (claimed 5)
    ∷ leaves_ballot both 0 60 0 (voted_by 0 0 false false)
    ∷ []

abbrev pub close_rows : List Row
close_rows = logs ++ refusals ++ after_them

-- ---- rows that are wrong in one number: each is told

abbrev pub wrong_rows : List Row
wrong_rows =
    closes lost_holds 0 1 (hand 0 1 ++ go 0) ∷ closes lost_holds 0 1 (hand 0 1) ∷ closes lost_holds 0 1 (hand 0 1 ++ go 1 ++ go 1)
    ∷ closes lost_holds 2 1 (hand 0 1 ++ go 1) ∷ refuses both 0 60 43 ∷ refuses both 0 61 30 ∷ refuses nobody_cast 0 0 30
    ∷ leaves both 0 61 0 (live Decided 3 5 0 0 0 6) ∷ leaves_ballot both 0 61 0 (voted_by 1 2 true true)
    ∷ []

abbrev not_right : Row → Bool
not_right row = not (close_row_right row)

pub record CloseShown : Type 0 where
  pub rows : every close_row_right close_rows ≡ true
  pub told : every not_right wrong_rows ≡ true
