-- The text that the program `settle` prints (document 01, "The program settle"), as a list of bytes. Assumes nothing.
use Rattle.std.specs.Prelude.{ℕ, zero, suc, Bool, cond, not, ◌&&◌, List, [], ◌++◌, get_or}
use Prim.Native.String.{String}
use Rattle.entry.specs.declared.entry.Stage.{Stage}
use Rattle.entry.specs.declared.entry.Stage.TheVariants.{Idle, Waiting, Voting, Awaiting, Seeking, FinishVoting, FinishAwaiting, Decided}
use Rattle.settlement.specs.declared.record.Settlement.{Settlement}
use Rattle.entry.specs.declared.entry.Station.{Station}
use Rattle.entry.specs.Stages.{is_decided}
use Rattle.entry.specs.Entries.{ballots, blank_station}
use Rattle.settlement.specs.Record.{entry}
use Rattle.settlement.specs.Look.{votes, shown_claim, looked}
use Rattle.report.specs.Quoted.{bytes_of}
use Rattle.report.specs.Decimal.{decimal}

-- a number after its name
abbrev pub named : String → ℕ → List ℕ
named name x = bytes_of name ++ decimal x

-- "Line one: stations, rule, ballots (R or 64; 0 if blank), events, bytes taken, status."
unfoldable pub first_line : (n rule events taken status : ℕ) → List ℕ
first_line n rule events taken status =
    named "stations " n ++ named " rule " rule ++ named " ballots " (ballots n rule)
    ++ named " events " events ++ named " taken " taken ++ named " status " status ++ bytes_of "\n"

-- "Rule 2's two voting stages both print `voting`, its two awaiting stages `awaiting`."
abbrev pub stage_word : Stage → List ℕ
stage_word Idle = bytes_of "idle"
stage_word Waiting = bytes_of "waiting"
stage_word Voting = bytes_of "voting"
stage_word Awaiting = bytes_of "awaiting"
stage_word Seeking = bytes_of "seeking"
stage_word FinishVoting = bytes_of "voting"
stage_word FinishAwaiting = bytes_of "awaiting"
stage_word Decided = bytes_of "decided"

-- "decided claim or `-`"
unfoldable pub decision_shown : Bool → ℕ → List ℕ
decision_shown decided claim = cond decided (decimal claim) (bytes_of "-")

-- "live or lost"
unfoldable pub presence : Bool → List ℕ
presence lost = cond lost (bytes_of " lost") (bytes_of " live")

-- "Then for each station: number, stage, decided claim or `-`, votes, live or lost."
unfoldable pub shown_line : (s : ℕ) → Stage → (decided : Bool) → (claim votes : ℕ) → (lost : Bool) → List ℕ
shown_line s stage decided claim k lost =
    decimal s ++ bytes_of " " ++ stage_word stage ++ bytes_of " "
    ++ decision_shown decided claim ++ named " votes " k ++ presence lost ++ bytes_of "\n"

-- decision and votes are LOOK's
unfoldable pub station_line : Settlement → ℕ → List ℕ
station_line r s = shown_line s (entry r s).stage (looked r s).decided (looked r s).claim (looked r s).votes (entry r s).lost

-- the lines of the stations below n, in order
unfoldable pub station_lines : (ℕ → List ℕ) → ℕ → List ℕ
station_lines line zero = []
station_lines line (suc s) = station_lines line s ++ line s

unfoldable pub text : Settlement → (events taken status : ℕ) → List ℕ
text r events taken status = first_line r.count r.rule events taken status ++ station_lines (station_line r) r.count

-- "A longer input prints `too long` alone."
unfoldable pub too_long_text : List ℕ
too_long_text = bytes_of "too long\n"

-- ---- the same by entries (a reader may skip it)

-- the line of station s, whose entry is t; on a faulty record LOOK refuses, which gives undecided and no votes
unfoldable pub entry_line : (n rule : ℕ) → (faulty : Bool) → (s : ℕ) → Station → List ℕ
entry_line n rule faulty s t =
    shown_line s t.stage (not faulty && is_decided t.stage) (shown_claim t) (cond faulty 0 (votes n rule t t.stage)) t.lost

-- of an array of entries: past it a blank one is read
abbrev pub line_in : (n rule : ℕ) → (faulty : Bool) → List Station → ℕ → List ℕ
line_in n rule faulty stations s = entry_line n rule faulty s (get_or stations s blank_station)
