-- Laws of MERGE on every two logs of bytes, in the words and numbers of document 02, A.5. They stand beside the definitions, so that a definition that changes together
-- with its code is noticed here. Assumes nothing.
use Rattle.std.specs.Prelude.{ℕ, ◌+◌, ◌≤◌, ◌<◌, ◌≡◌, ◌↔◌, ◌⊎◌, true, List, [], ◌∷◌, ◌++◌, length, take, drop}
use Rattle.basics.specs.Bytes.{four_bytes}
use Rattle.consensus.specs.Events.{Event, claim, deliver, step, lose, answer}
use Rattle.consensus.specs.State.{fresh}
use Rattle.consensus.specs.Owners.{AcceptedWhole}
use Rattle.event.specs.declared.event.Event as declared_event
use Rattle.event.specs.Meant.{meant}
use Rattle.field.specs.declared.field.Field.TheVariants.{Open, Play, Note}
use Rattle.field.specs.Read.{Found, Refused, found}
use Rattle.settlement.specs.Link.{rule_number}
use Rattle.logs.specs.Demand.{NotOpened}
use Rattle.merging.specs.Merged.{has_events, OrderOf, InTurn, NoOrder}
use Rattle.merging.specs.Logs.{Log, log_read}
use Rattle.merging.specs.Merge.{opening_of, merged_of, merge_number, merge_bytes, merge_count, merge_buffer}

-- "READ's numbers, 24, OPEN's numbers, 25": 20 to 23, 24 and 25, 40 and 41
pub data ReadingFault (k : ℕ) : Type 0 where
  of_field : 20 ≤ k → k ≤ 25 → ReadingFault k
  of_count : k ≡ 40 → ReadingFault k
  of_rule : k ≡ 41 → ReadingFault k

-- Read field by field from the place on, to the end or to the first field that is a fault: the fault, 0 where there is none, and the events up to there.
-- "READ's numbers"; "25", a second opening; "Notes are dropped".
pub data Reads (log : List ℕ) : (place fault : ℕ) → List Event → Type 0 where
  over : {place : ℕ} → length log ≤ place → Reads log place 0 []
  unread : {place k : ℕ} → place < length log → found (drop place log) ≡ Refused k → Reads log place k []
  reopened : {place n rule taken : ℕ} → place < length log → found (drop place log) ≡ Found (Open n rule) taken → Reads log place 25 []
  event : {place taken k : ℕ} {e : declared_event.Event} {es : List Event} → found (drop place log) ≡ Found (Play e) taken → Reads log (place + taken) k es
      → Reads log place k (meant e ∷ es)
  note : {place taken k : ℕ} {es : List Event} → found (drop place log) ≡ Found Note taken → Reads log (place + taken) k es → Reads log place k es

-- "READ's numbers, 24, OPEN's numbers": the log does not open, with the number that RUN has for it; or it opens, and is read from there on
pub data LogTold (log : List ℕ) (l : Log) : Type 0 where
  not_opened : NotOpened (found log) l.fault → LogTold log l
  opens_with : {taken : ℕ} → found log ≡ Found (Open l.count l.rule) taken → 1 ≤ l.count → l.count ≤ 32 → (l.rule ≡ 1) ⊎ (l.rule ≡ 2)
      → Reads log taken l.fault l.events → LogTold log l

-- the field of each event, byte by byte, as document 01's table has it
abbrev pub literal : Event → List ℕ
literal (claim s v) = 0x10 ∷ 0 ∷ 5 ∷ s ∷ four_bytes v
literal (deliver t s) = 0x11 ∷ 0 ∷ 2 ∷ t ∷ s ∷ []
literal (step s) = 0x12 ∷ 0 ∷ 1 ∷ s ∷ []
literal (lose s) = 0x13 ∷ 0 ∷ 1 ∷ s ∷ []
literal (answer b a) = 0x14 ∷ 0 ∷ 2 ∷ b ∷ a ∷ []

abbrev pub literal_list : List Event → List ℕ
literal_list [] = []
literal_list (e ∷ es) = literal e ++ literal_list es

module _ (first second : List ℕ) where
  -- neither has a reading fault
  abbrev pub BothRead : Type 0
  BothRead = ((log_read first).fault ≡ 0) × ((log_read second).fault ≡ 0)

  -- "with the same opening"
  abbrev pub SameOpening : Type 0
  SameOpening = ((log_read first).count ≡ (log_read second).count) × ((log_read first).rule ≡ (log_read second).rule)

  -- "a station number, existing or not, has events in both"; whose events are whose, in words: `EventsTold`
  abbrev pub InBoth : Type 0
  InBoth = (s : ℕ) × (has_events s (log_read first).events ≡ true) × (has_events s (log_read second).events ≡ true)

  -- "no order that keeps both logs' own orders is accepted whole"
  abbrev pub NeverWhole : Type 0
  NeverWhole = NoOrder (opening_of (log_read first)) (log_read first).events (log_read second).events

  -- the events of the log written
  abbrev pub events : List Event
  events = (merged_of (log_read first) (log_read second)).events

  module _ (before : List ℕ) where
    -- MERGE's number, the bytes written, the buffer afterwards
    abbrev pub number : ℕ
    number = merge_number first second (length before)

    abbrev pub count : ℕ
    count = merge_count first second (length before)

    abbrev pub after : List ℕ
    after = merge_buffer first second before

    pub record MergeLaws : Type 0 where
      -- a log read to its end, "the earliest field deciding"
      pub first_told : LogTold first (log_read first)
      pub second_told : LogTold second (log_read second)
      pub first_fault : ((log_read first).fault ≡ 0) ⊎ ReadingFault (log_read first).fault
      pub second_fault : ((log_read second).fault ≡ 0) ⊎ ReadingFault (log_read second).fault
      -- the opening that both are played from is the one that they name
      pub opening_told : (log_read first).fault ≡ 0
          → ((opening_of (log_read first)).count ≡ (log_read first).count) × (rule_number (opening_of (log_read first)).rule ≡ (log_read first).rule)
      -- "Reading faults of the first log .. come first, then of the second"
      pub number_first : ((log_read first).fault ≡ 0 → ⊥) → number ≡ (log_read first).fault
      pub number_second : (log_read first).fault ≡ 0 → ((log_read second).fault ≡ 0 → ⊥) → number ≡ (log_read second).fault
      -- "then the new numbers in order, then 30"
      pub number_60 : (number ≡ 60) ↔ (BothRead × (SameOpening → ⊥))
      pub number_61 : (number ≡ 61) ↔ (BothRead × SameOpening × InBoth)
      pub number_62 : (number ≡ 62) ↔ (BothRead × SameOpening × (InBoth → ⊥) × NeverWhole)
      pub number_30 : (number ≡ 30)
          ↔ (BothRead × SameOpening × (InBoth → ⊥) × (NeverWhole → ⊥) × (length before < length (merge_bytes first second)))
      pub accepts : (number ≡ 0)
          ↔ (BothRead × SameOpening × (InBoth → ⊥) × (NeverWhole → ⊥) × (length (merge_bytes first second) ≤ length before))
      -- "A refusal leaves the lent output untouched and counts 0."
      pub refused : (number ≡ 0 → ⊥) → (count ≡ 0) × (after ≡ before)
      -- "It answers the bytes written."; every other byte stays
      pub written : number ≡ 0 → (count ≡ length (merge_bytes first second)) × (take count after ≡ merge_bytes first second)
      pub others : number ≡ 0 → (length after ≡ length before) × (drop count after ≡ drop count before)
      -- "Make one log from two": the opening and then the events, "Notes are dropped", byte by byte
      pub fields : merge_bytes first second ≡ 0x01 ∷ 0 ∷ 2 ∷ (log_read first).count ∷ (log_read first).rule ∷ literal_list events
      -- "Keep each log's own order", and the one order is accepted whole
      pub order : number ≡ 0 → OrderOf (log_read first).events (log_read second).events events
      pub in_turn : number ≡ 0 → InTurn (opening_of (log_read first)) fresh (log_read first).events (log_read second).events events
      pub whole : number ≡ 0 → AcceptedWhole (opening_of (log_read first)) fresh events
      -- one opening, of five bytes, is left out, and no event is longer than it was: a buffer as long as both logs is always enough
      pub short : number ≡ 0 → count + 5 ≤ length first + length second
      pub enough : length first + length second ≤ length before + 5 → number ≡ 30 → ⊥
