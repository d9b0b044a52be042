-- What is printed for a log (document 01, "The program settle"). Assumes nothing.
use Rattle.std.specs.Prelude.{ℕ, ◌<◌, cond, List, ltb, length}
use Rattle.settlement.specs.declared.record.Settlement.{Settlement}
use Rattle.logs.specs.Run.{Replay, ran}
use Rattle.report.specs.Text.{text, too_long_text}

-- "a log of at most 65,536 bytes", "plays it with limit 65,536"
abbrev pub limit : ℕ
limit = 65536

abbrev pub text_of : Replay → List ℕ
text_of r = text r.settlement r.events r.taken r.status

-- "A longer input prints `too long` alone."
unfoldable pub report : List ℕ → List ℕ
report log = cond (ltb limit (length log)) too_long_text (text_of (ran log limit))

-- so a count of 0 says that the text did not fit
pub record NeverEmpty : Type 0 where
  pub of_log : (log : List ℕ) → 0 < length (report log)
  pub of_settlement : (r : Settlement) (events taken status : ℕ) → 0 < length (text r events taken status)
