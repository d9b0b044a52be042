-- CLOSE as it is called from other languages: the closing log of the settlement that a log plays to, and an answer in one number. Assumes nothing.
use Rattle.std.specs.Prelude.{ℕ, ◌+◌, ◌*◌, cond, List, eqb}
use Rattle.logs.specs.Run.{ran}
use Rattle.closing.specs.Close.{close_number, close_count, close_buffer}

-- 4,294,967,296 times the number, and the count: RUN's status for a log that stops early, else CLOSE's
unfoldable pub close_answer : (log : List ℕ) → (limit preferred room : ℕ) → ℕ
close_answer log limit preferred room =
    cond (eqb (ran log limit).status 0)
    (close_number (ran log limit).settlement preferred room * 4294967296 + close_count (ran log limit).settlement preferred room)
    ((ran log limit).status * 4294967296)

-- a log that stops early leaves every byte as it was
unfoldable pub close_after : (log : List ℕ) → (limit preferred : ℕ) → (before : List ℕ) → List ℕ
close_after log limit preferred before =
    cond (eqb (ran log limit).status 0) (close_buffer (ran log limit).settlement preferred before) before
