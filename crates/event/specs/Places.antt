-- Where an event looks: its own station, whose entry it may replace; the station beside it; and its ballot, whose entry it may replace.
-- An event that names no station or no ballot looks at the first one and leaves it as it was; one with no station beside it looks at its own there.
-- Assumes nothing.
use Rattle.std.specs.Prelude.{ℕ, ◌+◌, ◌%◌, ◌<◌, ◌≡◌, cond, ◌||◌, eqb, ltb}
use Rattle.consensus.specs.Events.{Event, claim, deliver, step, lose, answer}
use Rattle.consensus.specs.Rules.{finish_ballot}
use Rattle.entry.specs.declared.entry.Stage.{Stage}
use Rattle.entry.specs.declared.entry.Stage.TheVariants.{Voting, Awaiting, Seeking}
use Rattle.entry.specs.declared.entry.Station.{Station}
use Rattle.entry.specs.Stages.{at, on_finish}
use Rattle.entry.specs.Entries.{bit_ballot}

-- the station named; of a DELIVER the receiver
abbrev pub own_of : Event → ℕ
own_of (claim s v) = s
own_of (deliver t s) = s
own_of (step s) = s
own_of (lose s) = s
own_of (answer b a) = 0

-- "j becomes (j + 1) mod n"; where there are no stations, 0
abbrev pub next_cursor : ℕ → ℕ → ℕ
next_cursor n j = cond (eqb n 0) 0 ((j + 1) % n)

-- the station at whose claim a STEP looks: a seeking one moves its cursor first
abbrev pub step_beside : (n cursor : ℕ) → Stage → ℕ
step_beside n cursor g = cond (at Seeking g) (next_cursor n cursor) cursor

-- the sender of a DELIVER, the cursor of a STEP, which is read off the own station's entry t
abbrev pub beside_of : ℕ → Station → Event → ℕ
beside_of n t (claim s v) = s
beside_of n t (deliver from s) = from
beside_of n t (step s) = step_beside n t.cursor t.stage
beside_of n t (lose s) = s
beside_of n t (answer b a) = 0

-- the ballot that a station votes in or awaits in round k
abbrev pub step_ballot : (rule k : ℕ) → Stage → ℕ
step_ballot rule k g = cond (on_finish g) (finish_ballot k) (cond (at Voting g || at Awaiting g) (bit_ballot rule k) 0)

abbrev pub ballot_of : ℕ → Station → Event → ℕ
ballot_of rule t (claim s v) = 0
ballot_of rule t (deliver from s) = 0
ballot_of rule t (step s) = step_ballot rule t.round t.stage
ballot_of rule t (lose s) = 0
ballot_of rule t (answer b a) = b

-- the place x in an array of `most` entries that is looked at for the number i: past the array the first
abbrev pub within : ℕ → ℕ → ℕ
within most i = cond (ltb i most) i 0

pub record Place (most i x : ℕ) : Type 0 where
  pub place : x ≡ within most i
  pub inside : x < most
