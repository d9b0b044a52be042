-- The starred cases of document 01 ("The program settle", "Edges"), as one list: a row is an operation, a whole list of events from OPEN, or a log,
-- and what it answers. Logs and numbers are literal: no definition of a tag, a length or a number is behind them. A new case is one more row.
-- Assumes nothing.
use Rattle.std.specs.Prelude.{ℕ, ◌+◌, ◌*◌, ◌-◌, ◌≡◌, Bool, true, cond, ◌&&◌, List, [], ◌∷◌, ◌++◌, eqb, ltb}
use Prim.Native.Char.{code}
use Prim.Native.String.{String}
use Prim.Native.String as text
use Rattle.std.specs.Bool.{beq}
use Rattle.bits.specs.Examples.{every}
use Rattle.consensus.specs.Events.{Event, claim, deliver, step, answer, History, start, ◌▷◌, Rule, rule_1, rule_2, Opening}
use Rattle.settlement.specs.Events.{opened, played}
use Rattle.settlement.specs.Look.{Standing, looked}
use Rattle.settlement.specs.Link.{record_after, all_accepted}
use Rattle.field.specs.Examples.{same}
use Rattle.logs.specs.Run.{Replay, ran}
use Rattle.report.specs.Quoted.{bytes_of}
use Rattle.report.specs.Report.{report}

-- OPEN's number; the number of an event after a list; what LOOK shows of a station after a list, all of whose events are accepted;
-- RUN's events played, bytes taken and status; what the program prints; bytes
pub data Case : Type 0 where
  open_gives : (n rule number : ℕ) → Case
  event_gives : Opening → History → Event → (number : ℕ) → Case
  look_shows : Opening → History → (s : ℕ) → (decided : Bool) → (claim votes : ℕ) → Case
  run_gives : (log : List ℕ) → (limit events taken status : ℕ) → Case
  prints : (log : List ℕ) → String → Case
  bytes_are : (log bytes : List ℕ) → Case

abbrev pub shows : Standing → Bool → ℕ → ℕ → Bool
shows x decided claimed votes = eqb x.number 0 && beq x.decided decided && eqb x.claim claimed && eqb x.votes votes

abbrev pub counts : Replay → (events taken status : ℕ) → Bool
counts x events taken status = eqb x.events events && eqb x.taken taken && eqb x.status status

abbrev pub case_right : Case → Bool
case_right (open_gives n rule k) = eqb (opened n rule).number k
case_right (event_gives o h e k) = all_accepted o h && eqb (played (record_after o h) e).number k
case_right (look_shows o h s d v k) = all_accepted o h && shows (looked (record_after o h) s) d v k
case_right (run_gives log limit e t k) = counts (ran log limit) e t k
case_right (prints log text) = same (report log) (bytes_of text)
case_right (bytes_are log bytes) = same log bytes

abbrev stations : ℕ → Rule → Opening
stations n r = record { count = n; rule = r }

-- C and D: claims 1 and 3 held by both; both vote for bit 0, it is answered 1, and both seek
abbrev one_and_three : History
one_and_three =
    start ▷ claim 0 1 ▷ claim 1 3 ▷ deliver 0 0 ▷ deliver 1 0 ▷ deliver 0 1 ▷ deliver 1 1
    ▷ step 0 ▷ step 0 ▷ step 1 ▷ step 1 ▷ answer 0 1 ▷ step 0 ▷ step 0 ▷ step 1 ▷ step 1

-- D: the finish answer is 0, both vote for bit 1, it is answered 1, both seek and cast their finish votes
abbrev second_round : History
second_round =
    one_and_three ▷ step 0 ▷ step 1 ▷ answer 1 0 ▷ step 0 ▷ step 1
    ▷ step 0 ▷ step 1 ▷ answer 2 1 ▷ step 0 ▷ step 0 ▷ step 0 ▷ step 0 ▷ step 1 ▷ step 1 ▷ step 1

-- G: one station votes 0 in ballot 0
abbrev only_zero : History
only_zero = start ▷ claim 0 4 ▷ deliver 0 0 ▷ step 0 ▷ step 0

-- bytes written as a log is dumped: two digits a byte (0 to 9 have the codes 48 to 57, a to f 97 to 102), with spaces (32) between fields
abbrev digit : ℕ → ℕ
digit c = cond (ltb c 58) (c - 48) (c - 87)

abbrev pub hex : String → List ℕ
hex text.[] = []
hex (text.◌∷◌ c text.[]) = []
hex (text.◌∷◌ c (text.◌∷◌ d s)) = cond (eqb (code c) 32) (hex (text.◌∷◌ d s)) ((16 * digit (code c) + digit (code d)) ∷ hex s)

-- S as a log: two stations by station; station 1's second-last step tries station 0, whose claim it lacks
abbrev two_stations : List ℕ
two_stations =
    hex "0100020201 1000050000000007 1000050100000009 1100020000 1100020101 1100020100 12000100 12000100 12000101 12000101 1400020001"
    ++ hex "12000100 12000100 12000101 12000101 12000101"

-- C as a log: opening 2, 2; CLAIM 0 1, 1 3; all delivered; two STEPs each; ANSWER 0 1; three each, the last in turn; ANSWER 1 1; one each
abbrev both_decide_1 : List ℕ
both_decide_1 =
    hex "0100020202 1000050000000001 1000050100000003 1100020000 1100020100 1100020001 1100020101 12000100 12000100 12000101 12000101"
    ++ hex "1400020001 12000100 12000100 12000101 12000101 12000100 12000101 1400020101 12000100 12000101"

-- D as a log: the same, ANSWER 1 0; STEP 0, 1, 0, 1; ANSWER 2 1; STEP 0 four times, STEP 1 three times; ANSWER 3 1; one each
abbrev both_decide_3 : List ℕ
both_decide_3 =
    hex "0100020202 1000050000000001 1000050100000003 1100020000 1100020100 1100020001 1100020101 12000100 12000100 12000101 12000101"
    ++ hex "1400020001 12000100 12000100 12000101 12000101 12000100 12000101 1400020100 12000100 12000101 12000100 12000101 1400020201"
    ++ hex "12000100 12000100 12000100 12000100 12000101 12000101 12000101 1400020301 12000100 12000101"

-- station 0 idle, 1 waiting, 2 voting, 3 awaiting and then lost, 4 seeking, with a note of two bytes
abbrev each_stage : List ℕ
each_stage =
    hex "0100020501 1000050100000007 1000050200000008 1100020202 12000102 1000050400000009 1100020404 12000104 12000104 1400020000"
    ++ hex "12000104 3000024869 100005030000000a 1100020303 12000103 12000103 13000103"

-- by claim: opening 8, 2; CLAIM s 1 for s = 1..7; DELIVER s s for s = 2..7; LOSE 1; STEP 2..7; STEP 3..7; ANSWER 0 1; STEP 4..7;
-- DELIVER 6 5, 7 6, 1 7; STEP 5, 6, 7, 7, 6, 7; ANSWER 1 1; STEP 7
abbrev each_stage_by_claim : List ℕ
each_stage_by_claim =
    hex "0100020802 1000050100000001 1000050200000001 1000050300000001 1000050400000001 1000050500000001 1000050600000001 1000050700000001"
    ++ hex "1100020202 1100020303 1100020404 1100020505 1100020606 1100020707 13000101 12000102 12000103 12000104 12000105 12000106 12000107"
    ++ hex "12000103 12000104 12000105 12000106 12000107 1400020001 12000104 12000105 12000106 12000107 1100020605 1100020706 1100020107"
    ++ hex "12000105 12000106 12000107 12000107 12000106 12000107 1400020101 12000107"

abbrev pub starred : List Case
starred =
    -- A: one station by station decides its claim with its first step
    look_shows (stations 1 rule_1) (start ▷ claim 0 5 ▷ deliver 0 0 ▷ step 0) 0 true 5 0
    -- B: one station by claim, claim 0, answers 0 then 1: six steps, two votes
    ∷ look_shows (stations 1 rule_2) (start ▷ claim 0 0 ▷ deliver 0 0 ▷ step 0 ▷ step 0 ▷ answer 0 0 ▷ step 0 ▷ step 0 ▷ step 0 ▷ answer 1 1 ▷ step 0) 0 true 0 2
    -- C: the finish votes are 0 from station 0 and 1 from station 1; finish 1, and both decide 1
    ∷ event_gives (stations 2 rule_2) (one_and_three ▷ step 0) (answer 1 1) 12
    ∷ event_gives (stations 2 rule_2) (one_and_three ▷ step 0) (answer 1 0) 0
    ∷ event_gives (stations 2 rule_2) (one_and_three ▷ step 1) (answer 1 0) 12
    ∷ event_gives (stations 2 rule_2) (one_and_three ▷ step 1) (answer 1 1) 0
    ∷ look_shows (stations 2 rule_2) (one_and_three ▷ step 0 ▷ step 1 ▷ answer 1 1 ▷ step 0 ▷ step 1) 0 true 1 2
    ∷ look_shows (stations 2 rule_2) (one_and_three ▷ step 0 ▷ step 1 ▷ answer 1 1 ▷ step 0 ▷ step 1) 1 true 1 2
    -- D: finish 0, then bit 1 is settled as 1; only finish 1 can follow, and both decide 3
    ∷ event_gives (stations 2 rule_2) second_round (answer 3 0) 12
    ∷ look_shows (stations 2 rule_2) (second_round ▷ answer 3 1 ▷ step 0 ▷ step 1) 0 true 3 4
    ∷ look_shows (stations 2 rule_2) (second_round ▷ answer 3 1 ▷ step 0 ▷ step 1) 1 true 3 4
    -- E
    ∷ open_gives 33 3 40
    ∷ open_gives 32 3 41
    ∷ open_gives 32 1 0
    -- F
    ∷ event_gives (stations 32 rule_1) start (answer 5 0) 9
    ∷ event_gives (stations 32 rule_1) start (answer 4 0) 12
    ∷ event_gives (stations 32 rule_2) start (answer 63 0) 12
    ∷ event_gives (stations 32 rule_2) start (answer 64 0) 9
    -- G, its last part as document 02, A.1, has it; then the other bit
    ∷ event_gives (stations 1 rule_2) only_zero (answer 0 1) 12
    ∷ event_gives (stations 1 rule_2) only_zero (answer 0 2) 10
    ∷ event_gives (stations 1 rule_2) (only_zero ▷ answer 0 0) (answer 0 0) 0
    ∷ event_gives (stations 1 rule_2) (only_zero ▷ answer 0 0) (answer 0 1) 11
    -- bytes as they are written below
    ∷ bytes_are (hex "00010a 10ff") (0 ∷ 1 ∷ 10 ∷ 16 ∷ 255 ∷ [])
    -- H
    ∷ run_gives [] 65536 0 0 20
    ∷ run_gives (hex "12000100") 65536 0 0 24
    ∷ run_gives (hex "0100020201") 0 0 5 0
    ∷ run_gives (hex "0100020201 12000100") 0 0 5 26
    -- S
    ∷ prints two_stations
    "stations 2 rule 1 ballots 1 events 15 taken 77 status 0\n0 decided 9 votes 1 live\n1 decided 9 votes 1 live\n"
    -- A to D as logs, and what is printed for them
    ∷ prints (hex "0100020101 1000050000000005 1100020000 12000100")
    "stations 1 rule 1 ballots 0 events 3 taken 22 status 0\n0 decided 5 votes 0 live\n"
    ∷ prints (hex "0100020102 1000050000000000 1100020000 12000100 12000100 1400020000 12000100 12000100 12000100 1400020101 12000100")
    "stations 1 rule 2 ballots 64 events 10 taken 52 status 0\n0 decided 0 votes 2 live\n"
    ∷ prints both_decide_1
    "stations 2 rule 2 ballots 64 events 20 taken 99 status 0\n0 decided 1 votes 2 live\n1 decided 1 votes 2 live\n"
    ∷ prints both_decide_3
    "stations 2 rule 2 ballots 64 events 33 taken 153 status 0\n0 decided 3 votes 4 live\n1 decided 3 votes 4 live\n"
    -- each stage in words, and a lost station
    ∷ prints each_stage
    "stations 5 rule 1 ballots 3 events 15 taken 90 status 0\n0 idle - votes 0 live\n1 waiting - votes 0 live\n2 voting - votes 0 live\n3 awaiting - votes 1 lost\n4 seeking - votes 1 live\n"
    ∷ prints each_stage_by_claim
    "stations 8 rule 2 ballots 64 events 41 taken 208 status 0\n0 idle - votes 0 live\n1 waiting - votes 0 lost\n2 voting - votes 0 live\n3 awaiting - votes 1 live\n4 seeking - votes 1 live\n5 voting - votes 1 live\n6 awaiting - votes 2 live\n7 decided 1 votes 2 live\n"
    -- a log that stops in the middle, and one that does not open
    ∷ prints (hex "0100020201 1000050000000007 12000100 13000100")
    "stations 2 rule 1 ballots 1 events 1 taken 13 status 8\n0 waiting - votes 0 live\n1 idle - votes 0 live\n"
    ∷ prints (hex "0100022103")
    "stations 0 rule 1 ballots 0 events 0 taken 0 status 40\n"
    -- claims have their high byte first
    ∷ prints (hex "0100020101 1000050000000102 1100020000 12000100")
    "stations 1 rule 1 ballots 0 events 3 taken 22 status 0\n0 decided 258 votes 0 live\n"
    -- OPEN's numbers, from a log: blank, 0, 0
    ∷ run_gives (hex "0100022103") 65536 0 0 40
    ∷ run_gives (hex "0100020001") 65536 0 0 40
    ∷ run_gives (hex "0100022003") 65536 0 0 41
    ∷ run_gives (hex "0100022000") 65536 0 0 41
    -- READ's numbers, of the first field and of a later one; bytes taken end before the field
    ∷ run_gives (hex "0100") 65536 0 0 20
    ∷ run_gives (hex "310000") 65536 0 0 21
    ∷ run_gives (hex "01000102") 65536 0 0 22
    ∷ run_gives (hex "01000202") 65536 0 0 23
    ∷ run_gives (hex "0100020201 1200") 65536 0 5 20
    ∷ run_gives (hex "0100020201 13000100 15000100") 65536 1 9 21
    ∷ run_gives (hex "0100020201 1200020000") 65536 0 5 22
    ∷ run_gives (hex "0100020201 10000500000000") 65536 0 5 23
    -- the first field is a note: 24; a second opening: 25
    ∷ run_gives (hex "30000109 0100020201") 65536 0 0 24
    ∷ run_gives (hex "0100020201 13000100 0100020201") 65536 1 9 25
    -- a note is taken and not counted; the limit is tested before the note that follows, and after the end
    ∷ run_gives (hex "0100020201 30000109 300000 13000100 3000020707") 1 1 16 26
    ∷ run_gives (hex "0100020201 30000109 300000 13000100") 1 1 16 0
    -- 26 before READ's numbers and before 25
    ∷ run_gives (hex "0100020201 0100020201") 0 0 5 26
    ∷ run_gives (hex "0100020201 09") 0 0 5 26
    -- the events' numbers: 1 by each event, then 2 to 12
    ∷ run_gives (hex "0100020201 1000050200000007") 65536 0 5 1
    ∷ run_gives (hex "0100020201 1100020200") 65536 0 5 1
    ∷ run_gives (hex "0100020201 1100020002") 65536 0 5 1
    ∷ run_gives (hex "0100020201 12000102") 65536 0 5 1
    ∷ run_gives (hex "0100020201 13000102") 65536 0 5 1
    ∷ run_gives (hex "0100020201 120001c8") 65536 0 5 1
    ∷ run_gives (hex "0100020201 13000100 1000050000000007") 65536 1 9 2
    ∷ run_gives (hex "0100020201 1000050000000007 1000050000000007") 65536 1 13 3
    ∷ run_gives (hex "0100020201 1100020001") 65536 0 5 4
    ∷ run_gives (hex "0100020201 1000050000000007 1100020001 1100020001") 65536 2 18 5
    ∷ run_gives (hex "0100020201 12000100") 65536 0 5 6
    ∷ run_gives (hex "0100020101 1000050000000005 1100020000 12000100 12000100") 65536 3 22 7
    ∷ run_gives (hex "0100020201 1000050000000007 12000100") 65536 1 13 8
    ∷ run_gives (hex "0100022001 1400020500") 65536 0 5 9
    ∷ run_gives (hex "0100020201 1400020002") 65536 0 5 10
    ∷ run_gives (hex "0100020202 1000050000000004 1100020000 12000100 12000100 1400020000 1400020001") 65536 5 31 11
    ∷ run_gives (hex "0100020201 1400020000") 65536 0 5 12
    -- a repeat "counts as a played event" (document 02, A.1), twice and within a limit, though its only voter is lost
    ∷ run_gives (hex "0100020202 1000050000000004 1100020000 12000100 12000100 1400020000 1400020000 13000100 1400020000") 65536 8 45 0
    ∷ run_gives (hex "0100020202 1000050000000004 1100020000 12000100 12000100 1400020000 1400020000") 6 6 36 0
    ∷ run_gives (hex "0100020202 1000050000000004 1100020000 12000100 12000100 1400020000 1400020000") 5 5 31 26
    ∷ prints (hex "0100020202 1000050000000004 1100020000 12000100 12000100 1400020000 1400020000")
    "stations 2 rule 2 ballots 64 events 6 taken 36 status 0\n0 awaiting - votes 1 live\n1 idle - votes 0 live\n"
    ∷ []

abbrev pub StarredRight : Type 0
StarredRight = every case_right starred ≡ true
