-- What one accepted STEP does (document 01, "What one STEP does"): the station's entry after it, and the ballot's. "What a step does not name stays."
-- Assumes nothing.
use Rattle.std.specs.Prelude.{ℕ, ◌+◌, ◌%◌, Bool, cond, ◌&&◌, eqb}
use Rattle.bits.specs.Digits.{bit}
use Rattle.bits.specs.Log.{ceil_log2}
use Rattle.bits.specs.Words.{claim_bits, word_with_bit, low_agree, member}
use Rattle.entry.specs.declared.entry.Stage.{Stage}
use Rattle.entry.specs.declared.entry.Stage.TheVariants.{Idle, Waiting, Voting, Awaiting, Seeking, FinishVoting, FinishAwaiting, Decided}
use Rattle.entry.specs.declared.entry.Station.{Station}
use Rattle.entry.specs.declared.entry.Ballot.{Ballot}
use Rattle.event.specs.declared.view.View.{View}
use Rattle.entry.specs.Stages.{at}
use Rattle.entry.specs.Entries.{by_station, spelled, moved, casting}
use Rattle.event.specs.Places.{next_cursor}

-- "adds 1 to k". A round is a byte; one that passes the record test and is added to is below 32
abbrev pub next_round : ℕ → ℕ
next_round k = (k + 1) % 256

-- "Waiting, own claim held: j becomes the station's own number, the stage voting. With rule 1 and n = 1 it decides its own claim at once."
abbrev pub at_once : View → Bool
at_once v = by_station v.rule && eqb v.count 1

unfoldable pub started : View → ℕ → Station
started v s =
    cond (at_once v)
    (moved Decided s v.own.round v.own.word v.own.claim v.own)
    (moved Voting s v.own.round v.own.word v.own.decision v.own)

-- another stage, and nothing else
abbrev pub staged : Stage → Station → Station
staged g t = moved g t.cursor t.round t.word t.decision t

-- "a bit answer becomes bit k of d, then seeking"
unfoldable pub bit_taken : View → Station
bit_taken v =
    moved Seeking v.own.cursor v.own.round (word_with_bit claim_bits v.own.round v.ballot.answer v.own.word) v.own.decision v.own

-- "finish answer 1 decides d. Finish answer 0 adds 1 to k, then voting"
unfoldable pub finish_taken : View → Station
finish_taken v =
    cond v.ballot.answer
    (moved Decided v.own.cursor v.own.round v.own.word v.own.word v.own)
    (moved Voting v.own.cursor (next_round v.own.round) v.own.word v.own.decision v.own)

-- "seeking ends: rule 1 decides the claim of j if k + 1 = R, otherwise adds 1 to k and is voting; rule 2 is voting on ballot 2k+1"
abbrev pub last_round : View → Bool
last_round v = eqb (v.own.round + 1) (ceil_log2 v.count)

unfoldable pub entry_after_seek : View → ℕ → Station
entry_after_seek v j =
    cond (by_station v.rule)
    (cond (last_round v)
    (moved Decided j v.own.round v.own.word v.beside.claim v.own)
    (moved Voting j (next_round v.own.round) v.own.word v.own.decision v.own))
    (moved FinishVoting j v.own.round v.own.word v.own.decision v.own)

-- "If the claim of j is held, and the low k+1 bits of d equal those of j (rule 1) or of its claim (rule 2), seeking ends. If not, it stays seeking"
abbrev pub seeking_ends : View → ℕ → Bool
seeking_ends v j = member j v.own.held && low_agree v.own.round v.own.word (spelled v.rule j v.beside.claim)

unfoldable pub sought : View → ℕ → Station
sought v j =
    cond (seeking_ends v j)
    (entry_after_seek v j)
    (moved Seeking j v.own.round v.own.word v.own.decision v.own)

-- the entry of station s after it, at each stage
unfoldable pub stepped : View → ℕ → Stage → Station
stepped v s Idle = v.own
stepped v s Waiting = started v s
stepped v s Voting = staged Awaiting v.own
stepped v s Awaiting = bit_taken v
-- "j becomes (j + 1) mod n", and then its claim is looked at
stepped v s Seeking = sought v (next_cursor v.count v.own.cursor)
stepped v s FinishVoting = staged FinishAwaiting v.own
stepped v s FinishAwaiting = finish_taken v
stepped v s Decided = v.own

-- "Rule 1 casts bit k of j in ballot k. Rule 2 casts bit k of the claim of j in ballot 2k"
abbrev pub bit_voted : View → Bool
bit_voted v = bit v.own.round (spelled v.rule v.own.cursor v.beside.claim)

-- "in ballot 2k+1 it casts 1 if d equals the whole claim of j, otherwise 0"
abbrev pub finish_voted : View → Bool
finish_voted v = eqb v.own.word v.beside.claim

-- the ballot's entry after a STEP of station s: the voter is in the set of its bit
unfoldable pub voted : View → ℕ → Stage → Ballot
voted v s g =
    cond (at Voting g)
    (casting s (bit_voted v) v.ballot)
    (cond (at FinishVoting g) (casting s (finish_voted v) v.ballot) v.ballot)
