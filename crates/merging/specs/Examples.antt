-- Two short lists made one, as literals (document 02, A.5): whose event goes next, where it is blocked, whose events are in a list; and why no station may have
-- events in both. And MERGE byte by byte: each number, the bytes written and their count, and the whole buffer. Assumes nothing.
use Rattle.std.specs.Prelude.{ℕ, ◌+◌, ◌≡◌, Bool, true, false, not, ◌&&◌, List, [], ◌∷◌, ◌++◌, eqb, length, replicate}
use Rattle.bits.specs.Examples.{every}
use Rattle.consensus.specs.Events.{Event, claim, deliver, step, lose, answer, rule_1, rule_2, Opening}
use Rattle.consensus.specs.State.{fresh}
use Rattle.consensus.specs.Owners.{AcceptedWhole}
use Rattle.field.specs.Examples.{same}
use Rattle.merging.specs.Merged.{Merged, has_events, OrderOf, made}
use Rattle.merging.specs.Merge.{merge_number, merge_count, merge_buffer}

-- two stations, by station and by claim
abbrev two : Opening
two = record { count = 2; rule = rule_1 }

abbrev two_by_claim : Opening
two_by_claim = record { count = 2; rule = rule_2 }

-- every event of both; or these, and then neither's next event is accepted
abbrev whole : List Event → Merged
whole es = record { blocked = false; events = es }

abbrev stuck : List Event → Merged
stuck es = record { blocked = true; events = es }

-- station 0 votes 0 in ballot 0 and takes the answer, which the second list has too
abbrev voter : List Event
voter = claim 0 5 ∷ deliver 0 0 ∷ step 0 ∷ step 0 ∷ answer 0 0 ∷ step 0 ∷ []

abbrev hearer : List Event
hearer = claim 1 6 ∷ answer 0 0 ∷ deliver 0 1 ∷ []

pub record MergedShown : Type 0 where
  pub nothing : made two [] [] ≡ whole []
  pub first_alone : made two (claim 0 5 ∷ lose 0 ∷ []) [] ≡ whole (claim 0 5 ∷ lose 0 ∷ [])
  pub second_alone : made two [] (claim 1 6 ∷ lose 1 ∷ []) ≡ whole (claim 1 6 ∷ lose 1 ∷ [])
  -- both next events are accepted: the first list's goes, each time
  pub first_goes : made two (claim 0 5 ∷ lose 0 ∷ []) (claim 1 6 ∷ lose 1 ∷ []) ≡ whole (claim 0 5 ∷ lose 0 ∷ claim 1 6 ∷ lose 1 ∷ [])
  pub first_goes_by_claim : made two_by_claim (claim 1 6 ∷ []) (claim 0 5 ∷ []) ≡ whole (claim 1 6 ∷ claim 0 5 ∷ [])
  -- the claim of 1 has to be put in before it is handed to 0; then the first list goes on at once
  pub second_goes : made two (claim 0 5 ∷ deliver 1 0 ∷ lose 0 ∷ []) (claim 1 6 ∷ lose 1 ∷ []) ≡ whole (claim 0 5 ∷ claim 1 6 ∷ deliver 1 0 ∷ lose 0 ∷ lose 1 ∷ [])
  -- an ANSWER that both have stays in twice
  pub answered_twice : made two voter hearer ≡ whole (claim 0 5 ∷ deliver 0 0 ∷ step 0 ∷ step 0 ∷ answer 0 0 ∷ step 0 ∷ claim 1 6 ∷ answer 0 0 ∷ deliver 0 1 ∷ [])
  pub answer_waits : made two hearer voter ≡ whole (claim 1 6 ∷ claim 0 5 ∷ deliver 0 0 ∷ step 0 ∷ step 0 ∷ answer 0 0 ∷ deliver 0 1 ∷ answer 0 0 ∷ step 0 ∷ [])
  -- each waits for the other's claim; a station that is not there; one list is left, and refused
  pub both_wait : made two (deliver 1 0 ∷ claim 0 5 ∷ []) (deliver 0 1 ∷ claim 1 6 ∷ []) ≡ stuck []
  pub not_there : made two (claim 0 5 ∷ []) (step 200 ∷ []) ≡ stuck (claim 0 5 ∷ [])
  pub first_left : made two (claim 0 5 ∷ claim 0 5 ∷ []) [] ≡ stuck (claim 0 5 ∷ [])
  pub other_bits : made two voter (answer 0 1 ∷ []) ≡ stuck voter
  -- whose events there are: of a DELIVER the receiver's, of an ANSWER nobody's, the last ones too, and of stations that are not there
  pub of_receiver : (has_events 1 (deliver 0 1 ∷ []) ≡ true) × (has_events 0 (deliver 0 1 ∷ []) ≡ false)
  pub of_nobody : (has_events 0 (answer 0 0 ∷ []) ≡ false) × (has_events 0 [] ≡ false)
  pub of_last : (has_events 1 (claim 0 5 ∷ answer 1 1 ∷ lose 1 ∷ []) ≡ true) × (has_events 2 (claim 0 5 ∷ answer 1 1 ∷ lose 1 ∷ []) ≡ false)
  pub of_200 : has_events 200 (step 200 ∷ []) ≡ true
  -- where a station has events in both, an order may be accepted whole though this one is blocked
  pub station_in_both : (made two (lose 0 ∷ []) (claim 0 5 ∷ []) ≡ stuck (lose 0 ∷ [])) × OrderOf (lose 0 ∷ []) (claim 0 5 ∷ []) (claim 0 5 ∷ lose 0 ∷ [])
      × AcceptedWhole two fresh (claim 0 5 ∷ lose 0 ∷ [])

-- ---- MERGE byte by byte

-- Accepted, into nines with so many behind the log: the log's bytes, their count, and the nines behind it. Refused, into so many nines: the number, count 0,
-- and every nine.
pub data Row : Type 0 where
  merges : (first second : List ℕ) → (behind : ℕ) → (log : List ℕ) → Row
  refuses : (first second : List ℕ) → (room number : ℕ) → Row

abbrev nines : ℕ → List ℕ
nines n = replicate n 9

abbrev right_so : (first second before : List ℕ) → (number count : ℕ) → (after : List ℕ) → Bool
right_so first second before k c after =
    eqb (merge_number first second (length before)) k && eqb (merge_count first second (length before)) c && same (merge_buffer first second before) after

abbrev pub merge_row_right : Row → Bool
merge_row_right (merges first second behind log) = right_so first second (nines (length log + behind)) 0 (length log) (log ++ nines behind)
merge_row_right (refuses first second room k) = right_so first second (nines room) k 0 (nines room)

-- the fields: an opening; CLAIM s with a claim of one byte; DELIVER t, s; STEP s; LOSE s; ANSWER b, a; a note of two bytes
abbrev opened : (n rule : ℕ) → List ℕ
opened n rule = 0x01 ∷ 0 ∷ 2 ∷ n ∷ rule ∷ []

abbrev put_in : (s v : ℕ) → List ℕ
put_in s v = 0x10 ∷ 0 ∷ 5 ∷ s ∷ 0 ∷ 0 ∷ 0 ∷ v ∷ []

abbrev hand : (t s : ℕ) → List ℕ
hand t s = 0x11 ∷ 0 ∷ 2 ∷ t ∷ s ∷ []

abbrev go : ℕ → List ℕ
go s = 0x12 ∷ 0 ∷ 1 ∷ s ∷ []

abbrev gone : ℕ → List ℕ
gone s = 0x13 ∷ 0 ∷ 1 ∷ s ∷ []

abbrev say : (b a : ℕ) → List ℕ
say b a = 0x14 ∷ 0 ∷ 2 ∷ b ∷ a ∷ []

abbrev remark : List ℕ
remark = 0x30 ∷ 0 ∷ 2 ∷ 0x12 ∷ 0 ∷ []

-- of two stations by station; and an opening alone
abbrev log : List ℕ → List ℕ
log rest = opened 2 1 ++ rest

abbrev bare : List ℕ
bare = opened 2 1

-- each floor records its own station: the first claims and is lost, and so does the second
abbrev floor_0 : List ℕ
floor_0 = log (put_in 0 5 ++ gone 0)

abbrev floor_1 : List ℕ
floor_1 = log (put_in 1 6 ++ gone 1)

-- the claim of 1 is handed to 0; the other floor records that claim
abbrev waiting_0 : List ℕ
waiting_0 = log (put_in 0 5 ++ hand 1 0 ++ gone 0)

-- 0 votes and takes the answer; 1 claims, has the same answer, and is handed the claim of 0
abbrev votes : List ℕ
votes = put_in 0 5 ++ hand 0 0 ++ go 0 ++ go 0 ++ say 0 0 ++ go 0

-- by claim: 2 spells its claim 2 up to its second bit; another log has that answer once more, and is handed that claim
abbrev spells : List ℕ
spells =
    put_in 2 2 ++ hand 2 2 ++ go 2 ++ go 2 ++ say 0 0 ++ go 2 ++ go 2 ++ go 2 ++ go 2 ++ go 2 ++ say 1 0 ++ go 2 ++ go 2 ++ say 2 1

abbrev repeats : List ℕ
repeats = say 2 1 ++ put_in 1 6 ++ hand 2 1

abbrev hears : List ℕ
hears = put_in 1 6 ++ say 0 0 ++ hand 0 1

-- ---- accepted

abbrev merged_rows : List Row
merged_rows =
    -- both openings alone: one of them
    merges bare bare 0 (0x01 ∷ 0 ∷ 2 ∷ 2 ∷ 1 ∷ []) ∷ merges bare bare 3 bare
    ∷ merges (opened 1 2) (opened 1 2) 1 (opened 1 2) ∷ merges (opened 32 1) (opened 32 1) 1 (opened 32 1)
    -- one of them has no events
    ∷ merges floor_0 bare 0 floor_0 ∷ merges bare floor_0 0 floor_0
    -- the first log's event first, each time
    ∷ merges floor_0 floor_1 2 (0x01 ∷ 0 ∷ 2 ∷ 2 ∷ 1 ∷ 0x10 ∷ 0 ∷ 5 ∷ 0 ∷ 0 ∷ 0 ∷ 0 ∷ 5 ∷ 0x13 ∷ 0 ∷ 1 ∷ 0 ∷ 0x10 ∷ 0 ∷ 5 ∷ 1 ∷ 0 ∷ 0 ∷ 0 ∷ 6 ∷ 0x13 ∷ 0 ∷ 1 ∷ 1 ∷ [])
    ∷ merges floor_1 floor_0 2 (log (put_in 1 6 ++ gone 1 ++ put_in 0 5 ++ gone 0))
    -- a claim's four bytes, the bytes of each log its own
    ∷ merges (log (0x10 ∷ 0 ∷ 5 ∷ 1 ∷ 1 ∷ 2 ∷ 3 ∷ 4 ∷ [])) (log (0x10 ∷ 0 ∷ 5 ∷ 0 ∷ 255 ∷ 255 ∷ 255 ∷ 254 ∷ [])) 0
    (log (0x10 ∷ 0 ∷ 5 ∷ 1 ∷ 1 ∷ 2 ∷ 3 ∷ 4 ∷ 0x10 ∷ 0 ∷ 5 ∷ 0 ∷ 255 ∷ 255 ∷ 255 ∷ 254 ∷ []))
    -- the second log's goes where the first log's is refused, and then the first log's at once; the sender of a DELIVER has events in the other log
    ∷ merges waiting_0 floor_1 1 (log (put_in 0 5 ++ put_in 1 6 ++ hand 1 0 ++ gone 0 ++ gone 1))
    ∷ merges floor_1 waiting_0 1 (log (put_in 1 6 ++ gone 1 ++ put_in 0 5 ++ hand 1 0 ++ gone 0))
    -- notes are dropped, at either end too
    ∷ merges (log (remark ++ put_in 0 5 ++ remark ++ remark ++ gone 0 ++ remark)) (log (0x30 ∷ 0 ∷ 0 ∷ [])) 1 floor_0
    ∷ merges (log remark) (log (remark ++ put_in 0 5 ++ gone 0)) 1 floor_0
    -- an answer in both is written twice
    ∷ merges (log votes) (log hears) 1 (log (votes ++ hears))
    -- three stations by claim, with a ballot above 1 and a sender above 1
    ∷ merges (opened 3 2 ++ spells) (opened 3 2 ++ repeats) 1 (opened 3 2 ++ spells ++ repeats)
    ∷ merges (log hears) (log votes) 1 (log (put_in 1 6 ++ put_in 0 5 ++ hand 0 0 ++ go 0 ++ go 0 ++ say 0 0 ++ hand 0 1 ++ say 0 0 ++ go 0))
    ∷ []

-- ---- reading faults

abbrev unknown : List ℕ
unknown = 0x15 ∷ 0 ∷ 2 ∷ 0 ∷ 2 ∷ []

abbrev too_long : List ℕ
too_long = 0x12 ∷ 0 ∷ 2 ∷ 0 ∷ 0 ∷ []

abbrev cut : List ℕ
cut = 0x12 ∷ 0 ∷ 1 ∷ []

abbrev fault_rows : List Row
fault_rows =
    -- READ's numbers: of the opening, and of a later field
    refuses [] bare 9 20 ∷ refuses [] [] 9 20 ∷ refuses (0x01 ∷ 0 ∷ []) bare 9 20 ∷ refuses (log (0x12 ∷ 0 ∷ [])) bare 9 20
    ∷ refuses unknown bare 9 21 ∷ refuses (log (put_in 0 5 ++ unknown)) bare 30 21
    ∷ refuses (0x01 ∷ 0 ∷ 3 ∷ 2 ∷ 1 ∷ 0 ∷ []) bare 9 22 ∷ refuses (log too_long) bare 9 22
    ∷ refuses (0x01 ∷ 0 ∷ 2 ∷ 2 ∷ []) bare 9 23 ∷ refuses (log cut) bare 9 23
    -- the first field is no opening: an event, a note
    ∷ refuses (put_in 0 5) bare 9 24 ∷ refuses (remark ++ bare) bare 9 24
    -- OPEN's numbers, 40 first, and before a later field's
    ∷ refuses (opened 0 1) (opened 0 1) 9 40 ∷ refuses (opened 33 1) bare 9 40 ∷ refuses (opened 33 0) bare 9 40
    ∷ refuses (opened 2 0) (opened 2 0) 9 41 ∷ refuses (opened 2 3) bare 9 41 ∷ refuses (opened 2 3 ++ unknown) bare 9 41
    -- a second opening; the earliest field decides
    ∷ refuses (log bare) bare 9 25 ∷ refuses (log (put_in 0 5 ++ bare ++ unknown)) bare 30 25 ∷ refuses (log (unknown ++ bare)) bare 9 21
    -- a log is read to its end whatever its events do
    ∷ refuses (log (go 0 ++ go 200 ++ cut)) bare 30 23
    -- the first log's before the second's
    ∷ refuses (log unknown) (log too_long) 9 21 ∷ refuses (log too_long) (log unknown) 9 22 ∷ refuses (log cut) [] 9 23
    ∷ refuses (log (put_in 0 5 ++ bare)) unknown 9 25 ∷ refuses (opened 2 3) (put_in 0 5) 9 41
    -- the second's, where the first has none
    ∷ refuses bare [] 9 20 ∷ refuses bare (log unknown) 9 21 ∷ refuses bare (log too_long) 9 22 ∷ refuses bare (log cut) 9 23
    ∷ refuses bare (go 0) 9 24 ∷ refuses bare (log bare) 9 25 ∷ refuses bare (opened 33 1) 9 40 ∷ refuses bare (opened 2 3) 9 41
    -- and before 60, 61, 62 and 30
    ∷ refuses bare (opened 3 1 ++ unknown) 9 21 ∷ refuses bare (opened 3 1 ++ opened 3 1) 9 25
    ∷ refuses floor_0 (log (put_in 0 5 ++ cut)) 0 23 ∷ refuses (log (go 0)) (log (go 1 ++ cut)) 0 23 ∷ refuses bare (log unknown) 0 21
    ∷ []

-- ---- the new numbers, and 30

abbrev new_rows : List Row
new_rows =
    -- 60: n, the rule; before 61, 62 and 30
    refuses bare (opened 3 1) 9 60 ∷ refuses (opened 3 1) bare 9 60 ∷ refuses bare (opened 2 2) 9 60 ∷ refuses (opened 1 2) (opened 2 1) 9 60
    ∷ refuses (log (go 0)) (opened 3 1 ++ go 0) 0 60 ∷ refuses bare (opened 3 1) 0 60
    -- 61: a station that is there, the last one too; one that is not; by whichever of its events; before 62 and 30
    ∷ refuses floor_0 (log (gone 0)) 40 61 ∷ refuses floor_1 floor_1 40 61
    ∷ refuses (log (go 200)) (log (gone 200)) 40 61 ∷ refuses (log (go 255)) (log (put_in 255 1)) 40 61 ∷ refuses (log (go 2)) (log (go 2)) 40 61
    ∷ refuses (log (put_in 0 5 ++ gone 0)) (log (put_in 1 6 ++ hand 1 0)) 40 61 ∷ refuses floor_0 (log (gone 0)) 0 61
    -- not 61: the sender of a DELIVER, an ANSWER
    ∷ refuses (log (hand 1 0)) (log (go 1)) 40 62 ∷ refuses (log (say 0 0)) (log (say 0 0)) 40 62
    -- 62: each waits for the other; other bits; a station that is not there; one log alone that is refused; before 30
    ∷ refuses (log (hand 1 0 ++ put_in 0 5)) (log (hand 0 1 ++ put_in 1 6)) 40 62
    ∷ refuses (log votes) (log (say 0 1)) 80 62
    ∷ refuses floor_0 (log (go 200)) 40 62 ∷ refuses (log (put_in 2 5)) floor_1 40 62
    ∷ refuses (log (put_in 0 5 ++ put_in 0 5)) bare 40 62 ∷ refuses bare (log (go 0)) 40 62 ∷ refuses bare (log (go 0)) 0 62
    -- 30: one byte too few, and none at all
    ∷ refuses bare bare 4 30 ∷ refuses bare bare 0 30 ∷ refuses floor_0 floor_1 28 30 ∷ refuses (log (remark ++ put_in 0 5)) (log remark) 12 30
    -- exactly enough, and more: the bytes behind stay
    ∷ merges floor_0 floor_1 0 (log (put_in 0 5 ++ gone 0 ++ put_in 1 6 ++ gone 1)) ∷ merges (log (remark ++ put_in 0 5)) (log remark) 0 (log (put_in 0 5))
    ∷ merges floor_0 floor_1 5 (log (put_in 0 5 ++ gone 0 ++ put_in 1 6 ++ gone 1))
    ∷ []

-- rows that are wrong in one number: each is told
abbrev wrong_rows : List Row
wrong_rows =
    merges floor_0 floor_1 0 (log (put_in 0 5 ++ put_in 1 6 ++ gone 0 ++ gone 1)) ∷ merges bare bare 0 (opened 2 2) ∷ merges bare bare 0 []
    ∷ merges (log remark) bare 0 (log remark) ∷ refuses bare bare 4 0 ∷ refuses bare bare 5 30 ∷ refuses [] bare 9 24 ∷ refuses bare (opened 3 1) 9 61
    ∷ []

abbrev not_right : Row → Bool
not_right row = not (merge_row_right row)

pub record MergeShown : Type 0 where
  pub accepted : every merge_row_right merged_rows ≡ true
  pub faults : every merge_row_right fault_rows ≡ true
  pub new_numbers : every merge_row_right new_rows ≡ true
  pub told : every not_right wrong_rows ≡ true
