-- The entries of a record: what they say, and how an event changes one (document 01, "The settlement"). Assumes nothing.
use Rattle.std.specs.Prelude.{ℕ, ◌*◌, Bool, true, false, cond, not, eqb, ltb}
use Rattle.bits.specs.Log.{ceil_log2}
use Rattle.bits.specs.Words.{claim_bits, insert}
use Rattle.entry.specs.declared.entry.Stage.{Stage}
use Rattle.entry.specs.declared.entry.Stage.TheVariants.{Idle, Waiting}
use Rattle.entry.specs.declared.entry.Station.{Station}
use Rattle.entry.specs.declared.entry.Ballot.{Ballot}

-- how many entries a record has
abbrev pub station_entries : ℕ
station_entries = 32

abbrev pub ballot_entries : ℕ
ballot_entries = 2 * claim_bits

-- "each of the 32 entries starts idle, live, holding nothing, with claim, cursor and decision 0"; the round and the word start at 0 too
abbrev pub blank_station : Station
blank_station = record { stage = Idle; lost = false; held = 0; claim = 0; cursor = 0; round = 0; word = 0; decision = 0 }

-- "each ballot entry without a cast bit or an answer": both sets of voters are empty (document 02, A.2)
abbrev pub blank_ballot : Ballot
blank_ballot = record { cast0 = 0; cast1 = 0; answered = false; answer = false }

-- ---- n stations under a rule

abbrev pub no_station : ℕ → ℕ → Bool
no_station n s = not (ltb s n)

-- rule 1 is by station, rule 2 by claim
abbrev pub by_station : ℕ → Bool
by_station rule = eqb rule 1

-- "rule 1 has ballots 0 to R−1. Rule 2 has ballots 0 to 63"; "a record without stations has no ballots under either rule"
abbrev pub ballots : ℕ → ℕ → ℕ
ballots n rule = cond (eqb n 0) 0 (cond (by_station rule) (ceil_log2 n) ballot_entries)

abbrev pub no_ballot : (n rule b : ℕ) → Bool
no_ballot n rule b = not (ltb b (ballots n rule))

-- the ballot that settles bit k: k by station, 2k by claim
abbrev pub bit_ballot : ℕ → ℕ → ℕ
bit_ballot rule k = cond (by_station rule) k (2 * k)

-- what the bits of station j are read of: its number by station, its claim v by claim
abbrev pub spelled : (rule j v : ℕ) → ℕ
spelled rule j v = cond (by_station rule) j v

-- "the set of stations that cast 0 and the set that cast 1" (document 02, A.2): the one of bit a, as a mask
abbrev pub voters : Ballot → Bool → ℕ
voters t a = cond a t.cast1 t.cast0

-- bit a was cast in the ballot: "a bit counts as cast exactly when its set is not empty"; a member from n on counts too
abbrev pub was_cast : Ballot → Bool → Bool
was_cast t a = not (eqb (voters t a) 0)

-- ---- changed entries: what an event does not name stays

-- CLAIM: the claim put in, the stage waiting
abbrev pub claiming : ℕ → Station → Station
claiming v t =
    record {
      stage = Waiting;
      lost = t.lost;
      held = t.held;
      claim = v;
      cursor = t.cursor;
      round = t.round;
      word = t.word;
      decision = t.decision;
    }

-- DELIVER: one more claim held
abbrev pub holding : ℕ → Station → Station
holding i t =
    record {
      stage = t.stage;
      lost = t.lost;
      held = insert i t.held;
      claim = t.claim;
      cursor = t.cursor;
      round = t.round;
      word = t.word;
      decision = t.decision;
    }

-- LOSE: the mark beside the stage
abbrev pub losing : Station → Station
losing t =
    record {
      stage = t.stage;
      lost = true;
      held = t.held;
      claim = t.claim;
      cursor = t.cursor;
      round = t.round;
      word = t.word;
      decision = t.decision;
    }

-- STEP: another stage g, cursor j, round k, word d and decision v
abbrev pub moved : Stage → (j k d v : ℕ) → Station → Station
moved g j k d v t = record { stage = g; lost = t.lost; held = t.held; claim = t.claim; cursor = j; round = k; word = d; decision = v }

-- a vote: station s casts bit a, and is in its set
abbrev pub casting : ℕ → Bool → Ballot → Ballot
casting s a t =
    record {
      cast0 = cond a t.cast0 (insert s t.cast0);
      cast1 = cond a (insert s t.cast1) t.cast1;
      answered = t.answered;
      answer = t.answer;
    }

-- ANSWER: the bit a
abbrev pub answering : Bool → Ballot → Ballot
answering a t = record { cast0 = t.cast0; cast1 = t.cast1; answered = true; answer = a }
