-- What document 01 says of the text ("The program settle"), apart from the definitions: laws, and lines letter by letter. Assumes nothing.
use Rattle.std.specs.Prelude.{ℕ, suc, ◌+◌, ◌≤◌, ◌<◌, ◌≡◌, true, false, cond, List, [], ◌∷◌, ◌++◌, eqb, length}
use Rattle.entry.specs.declared.entry.Stage.TheVariants.{Idle, Waiting, Voting, Awaiting, Seeking, FinishVoting, FinishAwaiting, Decided}
use Rattle.settlement.specs.declared.record.Settlement.{Settlement}
use Rattle.logs.specs.Run.{ran}
use Rattle.report.specs.Quoted.{bytes_of}
use Rattle.report.specs.Decimal.{decimal, DecimalOf}
use Rattle.report.specs.Text.{first_line, shown_line, text}
use Rattle.report.specs.Report.{text_of, report}

-- how many bytes are line feeds, byte 10
abbrev pub line_feeds : List ℕ → ℕ
line_feeds [] = 0
line_feeds (b ∷ bs) = cond (eqb b 10) 1 0 + line_feeds bs

pub record ReportLaws : Type 0 where
  -- "a log of at most 65,536 bytes", "plays it with limit 65,536"; "A longer input prints `too long` alone."
  pub played : (log : List ℕ) → length log ≤ 65536 → report log ≡ text_of (ran log 65536)
  pub longer : (log : List ℕ) → 65536 < length log → report log ≡ bytes_of "too long\n"
  -- "Every line ends with one line feed": line one and a line for each station, and nothing stands behind the last
  pub lines : (r : Settlement) (events taken status : ℕ) → line_feeds (text r events taken status) ≡ suc r.count
  pub ends : (r : Settlement) (events taken status : ℕ) → (before : List ℕ) × (text r events taken status ≡ before ++ bytes_of "\n")
  -- numbers are in decimal
  pub decimals : (x : ℕ) → DecimalOf x (decimal x)

pub record LinesShown : Type 0 where
  -- stations, rule, events, taken, status
  pub blank : first_line 0 1 0 0 20 ≡ bytes_of "stations 0 rule 1 ballots 0 events 0 taken 0 status 20\n"
  pub by_station : first_line 17 1 15 77 26 ≡ bytes_of "stations 17 rule 1 ballots 5 events 15 taken 77 status 26\n"
  pub by_claim : first_line 32 2 103 640 8 ≡ bytes_of "stations 32 rule 2 ballots 64 events 103 taken 640 status 8\n"
  -- station, stage, whether it decided, claim, votes, whether it is lost
  pub idle : shown_line 0 Idle false 0 0 false ≡ bytes_of "0 idle - votes 0 live\n"
  pub waiting : shown_line 1 Waiting false 0 0 true ≡ bytes_of "1 waiting - votes 0 lost\n"
  pub voting : shown_line 2 Voting false 0 4 false ≡ bytes_of "2 voting - votes 4 live\n"
  pub awaiting : shown_line 9 Awaiting false 0 5 false ≡ bytes_of "9 awaiting - votes 5 live\n"
  pub seeking : shown_line 10 Seeking false 0 5 true ≡ bytes_of "10 seeking - votes 5 lost\n"
  pub finish_voting : shown_line 11 FinishVoting false 0 63 false ≡ bytes_of "11 voting - votes 63 live\n"
  pub finish_awaiting : shown_line 30 FinishAwaiting false 0 64 false ≡ bytes_of "30 awaiting - votes 64 live\n"
  pub decided : shown_line 31 Decided true 907 64 false ≡ bytes_of "31 decided 907 votes 64 live\n"
  pub decided_lost : shown_line 3 Decided true 0 0 true ≡ bytes_of "3 decided 0 votes 0 lost\n"
  pub largest : decimal 4294967295 ≡ bytes_of "4294967295"
