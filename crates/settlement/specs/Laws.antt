-- Laws of OPEN, the events and LOOK, each a sentence of document 01 or 02 that speaks of every record, made-up ones included. They are said in the
-- document's words and literal numbers, so that a definition that changes together with its code is noticed here. Assumes nothing.
use Rattle.std.specs.Prelude.{ℕ, ◌≤◌, ◌<◌, ◌+◌, ◌*◌, ◌≡◌, ◌⊎◌, ◌↔◌, Bool, true, false, cond, length, get_or, replicate}
use Rattle.bits.specs.Log.{ceil_log2}
use Rattle.consensus.specs.Events.{Event, claim, deliver, step, lose, answer}
use Rattle.entry.specs.declared.entry.Stage.TheVariants.{Idle, Waiting, Voting, Awaiting, Seeking, FinishVoting, FinishAwaiting}
use Rattle.entry.specs.declared.entry.Station.{Station}
use Rattle.entry.specs.declared.entry.Ballot.{Ballot}
use Rattle.entry.specs.Entries.{ballots, was_cast, answering}
use Rattle.settlement.specs.declared.record.Settlement.{Settlement}
use Rattle.settlement.specs.Record.{entry, ballot, with_ballot}
use Rattle.settlement.specs.Fault.{fault}
use Rattle.settlement.specs.Events.{opened, played}
use Rattle.settlement.specs.Look.{Standing, looked}

-- ---- the record test, in words

-- what may be wrong with the entry of one of n stations
pub data StationOutside (n rule : ℕ) (t : Station) : Type 0 where
  -- "a station below n whose cursor is n or more", under either rule
  cursor : n ≤ t.cursor → StationOutside n rule t
  -- "a voting, awaiting or seeking station whose round is R or more under rule 1"
  voting : rule ≡ 1 → t.stage ≡ Voting → ceil_log2 n ≤ t.round → StationOutside n rule t
  awaiting : rule ≡ 1 → t.stage ≡ Awaiting → ceil_log2 n ≤ t.round → StationOutside n rule t
  seeking : rule ≡ 1 → t.stage ≡ Seeking → ceil_log2 n ≤ t.round → StationOutside n rule t
  -- "a station voting or awaiting on a finish ballot under rule 1"
  finish_voting : rule ≡ 1 → t.stage ≡ FinishVoting → StationOutside n rule t
  finish_awaiting : rule ≡ 1 → t.stage ≡ FinishAwaiting → StationOutside n rule t
  -- "or a station past waiting whose round is 32 or more under rule 2"
  late : rule ≡ 2 → (t.stage ≡ Idle → ⊥) → (t.stage ≡ Waiting → ⊥) → 32 ≤ t.round → StationOutside n rule t

-- "more than 32 stations; a rule other than 1 or 2;" or something wrong with a station below n
pub data Outside (r : Settlement) : Type 0 where
  many_stations : 32 < r.count → Outside r
  no_rule : (r.rule ≡ 1 → ⊥) → (r.rule ≡ 2 → ⊥) → Outside r
  some_station : (s : ℕ) → s < r.count → StationOutside r.count r.rule (entry r s) → Outside r

-- "Taking answer 0 from ballot 63"
abbrev pub TakesLastNo : Settlement → Event → Type 0
TakesLastNo r (claim s v) = ⊥
TakesLastNo r (deliver t s) = ⊥
TakesLastNo r (step s) =
    ((entry r s).stage ≡ FinishAwaiting) × ((entry r s).round ≡ 31) × ((ballot r 63).answered ≡ true) × ((ballot r 63).answer ≡ false)
TakesLastNo r (lose s) = ⊥
TakesLastNo r (answer b a) = ⊥

-- ---- what an event may change

-- the station whose entry it may change: the one named, of a DELIVER the receiver; an ANSWER none
abbrev pub MayChange : Event → ℕ → Type 0
MayChange (claim s v) i = i ≡ s
MayChange (deliver t s) i = i ≡ s
MayChange (step s) i = i ≡ s
MayChange (lose s) i = i ≡ s
MayChange (answer b a) i = ⊥

-- the ballot that a station with this entry casts a bit in: "in ballot k", "in ballot 2k", "in ballot 2k+1"
pub data VotesIn (rule : ℕ) (t : Station) (b : ℕ) : Type 0 where
  bit_by_station : rule ≡ 1 → t.stage ≡ Voting → b ≡ t.round → VotesIn rule t b
  bit_by_claim : rule ≡ 2 → t.stage ≡ Voting → b ≡ 2 * t.round → VotesIn rule t b
  whether_to_finish : t.stage ≡ FinishVoting → b ≡ 2 * t.round + 1 → VotesIn rule t b

abbrev pub MayChangeBallot : Settlement → Event → ℕ → Type 0
MayChangeBallot r (claim s v) i = ⊥
MayChangeBallot r (deliver t s) i = ⊥
MayChangeBallot r (step s) i = VotesIn r.rule (entry r s) i
MayChangeBallot r (lose s) i = ⊥
MayChangeBallot r (answer b a) i = i ≡ b

-- "What a step does not name stays": r' is what the event e leaves of r; past an array's end any d is read in both
pub record Stays (r : Settlement) (e : Event) (r' : Settlement) : Type 0 where
  pub count : r'.count ≡ r.count
  pub rule : r'.rule ≡ r.rule
  pub station_entries : length r'.stations ≡ length r.stations
  pub ballot_entries : length r'.ballots ≡ length r.ballots
  pub stations : (i : ℕ) → (MayChange e i → ⊥) → (d : Station) → get_or r'.stations i d ≡ get_or r.stations i d
  pub ballots : (i : ℕ) → (MayChangeBallot r e i → ⊥) → (d : Ballot) → get_or r'.ballots i d ≡ get_or r.ballots i d

-- ---- ANSWER

-- the record is not outside its ranges, and has a ballot b
abbrev pub HasBallot : Settlement → ℕ → Type 0
HasBallot r b = (Outside r → ⊥) × (b < ballots r.count r.rule)

-- the ballot b has the answer x
abbrev pub HasAnswer : Settlement → ℕ → Bool → Type 0
HasAnswer r b x = ((ballot r b).answered ≡ true) × ((ballot r b).answer ≡ x)

-- ---- how a settlement starts, and how LOOK turns away

-- "each of the 32 entries starts idle, live, holding nothing, with claim, cursor and decision 0, and each ballot entry without a cast bit or an answer";
-- round and word start at 0 too
abbrev pub starting : ℕ → ℕ → Settlement
starting n rule =
    record {
      count = n;
      rule = rule;
      stations = replicate 32 (record { stage = Idle; lost = false; held = 0; claim = 0; cursor = 0; round = 0; word = 0; decision = 0 });
      ballots = replicate 64 (record { cast0 = 0; cast1 = 0; answered = false; answer = false });
    }

-- "A refusal gives undecided, 0, 0."
abbrev pub nothing_shown : ℕ → Standing
nothing_shown k = record { number = k; decided = false; claim = 0; votes = 0 }

pub record Laws : Type 0 where
  -- "Every event and LOOK first test the record": whatever else there is to refuse, a record outside its ranges gives 42, and no other record does,
  -- but for the step from ballot 63
  pub tested : (r : Settlement) → fault r ≡ true ↔ Outside r
  pub event_42 : (r : Settlement) → Outside r → (e : Event) → played r e ≡ record { number = 42; settlement = r }
  pub look_42 : (r : Settlement) → Outside r → (s : ℕ) → looked r s ≡ nothing_shown 42
  pub only_42 : (r : Settlement) (e : Event) → (played r e).number ≡ 42 → Outside r ⊎ TakesLastNo r e
  -- "LOOK s. No station s: 1."
  pub look_1 : (r : Settlement) → (Outside r → ⊥) → (s : ℕ) → r.count ≤ s → looked r s ≡ nothing_shown 1
  pub look_0 : (r : Settlement) → (Outside r → ⊥) → (s : ℕ) → s < r.count → (looked r s).number ≡ 0
  -- "Answers whether s has decided ..": nothing of another station's entry, nor of a ballot's, shows
  pub look_own : (r r' : Settlement) → (Outside r → ⊥) → (Outside r' → ⊥) → (s : ℕ) → r.count ≡ r'.count → r.rule ≡ r'.rule
      → entry r s ≡ entry r' s → looked r s ≡ looked r' s
  -- "OPEN n, rule. n is 0 or above 32: 40. Rule neither 1 nor 2: 41. Refused, it returns the blank settlement: no stations, rule 1"
  pub open_40 : (n rule : ℕ) → (n ≡ 0) ⊎ (32 < n) → opened n rule ≡ record { number = 40; settlement = starting 0 1 }
  pub open_41 : (n rule : ℕ) → 1 ≤ n → n ≤ 32 → (rule ≡ 1 → ⊥) → (rule ≡ 2 → ⊥) → opened n rule ≡ record { number = 41; settlement = starting 0 1 }
  pub open_0 : (n rule : ℕ) → 1 ≤ n → n ≤ 32 → (rule ≡ 1) ⊎ (rule ≡ 2) → opened n rule ≡ record { number = 0; settlement = starting n rule }
  -- an event changes no entry but its own station's and its ballot's
  pub stays : (r : Settlement) (e : Event) → Stays r e (played r e).settlement
  -- "ANSWER b, a. No ballot b: 9. a above 1: 10. .. No station has cast a in b: 12", the bit being x; otherwise x is the answer, and nothing else changes
  pub none_9 : (r : Settlement) → (Outside r → ⊥) → (b a : ℕ) → ballots r.count r.rule ≤ b → played r (answer b a) ≡ record { number = 9; settlement = r }
  pub above_10 : (r : Settlement) (b a : ℕ) → HasBallot r b → 1 < a → played r (answer b a) ≡ record { number = 10; settlement = r }
  pub nobody_12 : (r : Settlement) (b : ℕ) (x : Bool) → HasBallot r b → (ballot r b).answered ≡ false → was_cast (ballot r b) x ≡ false
      → played r (answer b (cond x 1 0)) ≡ record { number = 12; settlement = r }
  pub first_0 : (r : Settlement) (b : ℕ) (x : Bool) → HasBallot r b → (ballot r b).answered ≡ false → was_cast (ballot r b) x ≡ true
      → played r (answer b (cond x 1 0)) ≡ record { number = 0; settlement = with_ballot b (answering x (ballot r b)) r }
  -- "the answer a ballot already has is accepted again and changes nothing. Number 11 is for the other bit only. .. 12 is met only where no answer
  -- stands" (document 02, A.1): whoever cast what
  pub again : (r : Settlement) (b : ℕ) (x : Bool) → HasBallot r b → HasAnswer r b x → played r (answer b (cond x 1 0)) ≡ record { number = 0; settlement = r }
  pub other_11 : (r : Settlement) (b : ℕ) (x : Bool) → HasBallot r b → HasAnswer r b x → played r (answer b (cond x 0 1)) ≡ record { number = 11; settlement = r }
  pub only_12 : (r : Settlement) (b a : ℕ) → (played r (answer b a)).number ≡ 12 → (ballot r b).answered ≡ false
