-- A text printed into a lent buffer. Assumes nothing.
use Rattle.std.specs.Prelude.{ℕ, ◌≤◌, List, length}
use Rattle.basics.specs.Written.{Filled}

-- so many bytes are enough for any text
abbrev pub enough : ℕ
enough = 24576

-- what the text t leaves of the buffer, and the count that is answered
pub record Printed (t before after : List ℕ) (count : ℕ) : Type 0 where
  pub filled : Filled t before after count
  pub short : length t ≤ enough
