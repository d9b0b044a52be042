-- What a reader of the text may rely on, as one statement about the text itself: two station lines that say `decided` show the same claim and the same
-- votes, and a CLAIM field of the log put that claim in. Assumes nothing.
use Rattle.std.specs.Prelude.{ℕ, ◌+◌, ◌≤◌, ◌≡◌, Bool, cond, List, [], ◌∷◌, ◌++◌, eqb, drop}
use Rattle.consensus.specs.Events.{History}
use Rattle.consensus.specs.Told.{Listed}
use Rattle.event.specs.declared.event.Event.TheVariants.{Claim}
use Rattle.field.specs.declared.field.Field.TheVariants.{Open, Play}
use Rattle.field.specs.Read.{Found, found}
use Rattle.logs.specs.Run.{ran}
use Rattle.basics.specs.Bytes.{InBytes}
use Rattle.logs.specs.Demand.{Spells}
use Rattle.report.specs.Quoted.{bytes_of}
use Rattle.report.specs.Decimal.{decimal}
use Rattle.report.specs.Text.{named, presence}
use Rattle.report.specs.Report.{limit, report}

-- The lines of a text, each without the line feed (byte 10) that ends it: `line` is what was read of a line so far, and what no line feed ends is no line.
unfoldable pub lines_from : (line text : List ℕ) → List (List ℕ)
lines_from line [] = []
lines_from line (b ∷ text) = cond (eqb b 10) (line ∷ lines_from [] text) (lines_from (line ++ (b ∷ [])) text)

abbrev pub lines : List ℕ → List (List ℕ)
lines text = lines_from [] text

-- a CLAIM field of the log, which RUN reached field by field from the opening on, and took: so the claim v was put in
pub record PutInByLog (log : List ℕ) (v : ℕ) : Type 0 where
  pub n : ℕ
  pub rule : ℕ
  pub first : ℕ
  pub opens : found log ≡ Found (Open n rule) first
  pub before : History
  pub place : ℕ
  pub spells : Spells log limit first before place
  pub station : ℕ
  pub taken : ℕ
  pub field : found (drop place log) ≡ Found (Play (Claim station v)) taken
  pub within : place + taken ≤ (ran log limit).taken

-- what stands behind the word `decided`: the claim v, k votes, live or lost
abbrev pub Says : (v k : ℕ) → List ℕ → Type 0
Says v k x = (lost : Bool) × (x ≡ decimal v ++ named " votes " k ++ presence lost)

pub record DecidedLines : Type 0 where
  -- two lines that begin with a number and `decided`
  pub agree : (log : List ℕ) → InBytes log → (p q : ℕ) (x y : List ℕ)
      → Listed (decimal p ++ bytes_of " decided " ++ x) (lines (report log))
      → Listed (decimal q ++ bytes_of " decided " ++ y) (lines (report log))
      → (v : ℕ) × (k : ℕ) × Says v k x × Says v k y × PutInByLog log v
  -- the lines of case S's text
  pub case_S : lines (bytes_of "stations 2 rule 1 ballots 1 events 15 taken 77 status 0\n0 decided 9 votes 1 live\n1 decided 9 votes 1 live\n")
      ≡ bytes_of "stations 2 rule 1 ballots 1 events 15 taken 77 status 0" ∷ bytes_of "0 decided 9 votes 1 live" ∷ bytes_of "1 decided 9 votes 1 live" ∷ []
