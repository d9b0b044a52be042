-- Events, lists of events and openings (document 01, "Operations and what they turn away", "Lists of events").
-- The field's terms: a station is a process, a claim a proposed value, a ballot a binary consensus instance,
-- lost is crashed, and a settlement is one multivalued consensus. Assumes nothing.
use Rattle.std.specs.Prelude.{ℕ, ◌*◌, ◌≤◌}
use Rattle.bits.specs.Words.{claim_bits}
use Rattle.bits.specs.Log.{ceil_log2}

-- CLAIM s, v; DELIVER t, s (the claim of t reaches s); STEP s; LOSE s; ANSWER b, a. The arguments are any numbers.
pub data Event : Type 0 where
  claim : ℕ → ℕ → Event
  deliver : ℕ → ℕ → Event
  step : ℕ → Event
  lose : ℕ → Event
  answer : ℕ → ℕ → Event

-- A list of events in the order played: `start` is the empty list, and `h ▷ e` is h with e after it.
-- So the beginnings of `h ▷ e` are itself and the beginnings of h.
infixl 20 ◌▷◌
pub data History : Type 0 where
  start : History
  ◌▷◌ : History → Event → History

-- figure 1 is by station (rule 1), figure 2 by claim (rule 2)
pub data Rule : Type 0 where
  rule_1 rule_2 : Rule

-- what an accepted OPEN fixes: the number n of stations, and the rule
pub record Opening : Type 0 where
  pub count : ℕ
  pub rule : Rule

abbrev pub most_stations : ℕ
most_stations = 32

-- OPEN accepts n from 1 to 32
pub record Openable (o : Opening) : Type 0 where
  pub some_station : 1 ≤ o.count
  pub not_too_many : o.count ≤ most_stations

-- R = ceil(log2 n)
abbrev pub rounds : Opening → ℕ
rounds o = ceil_log2 o.count

-- the ballots are numbered from 0: R of them by station, two for each bit of a claim by claim
abbrev pub ballots_by : Rule → ℕ → ℕ
ballots_by rule_1 r = r
ballots_by rule_2 r = 2 * claim_bits

abbrev pub ballots : Opening → ℕ
ballots o = ballots_by o.rule (rounds o)
