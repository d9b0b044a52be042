-- Bytes as hexadecimal digits. Assumes nothing.
use Rattle.std.specs.Prelude.{ℕ, ◌+◌, ◌/◌, ◌%◌, cond, nat_lt, List, [], ◌∷◌}
use Rattle.std.specs.List.{flat_map}

-- the code of a digit below 16: 0 to 9, then a to f
abbrev pub digit : ℕ → ℕ
digit d = cond (nat_lt d 10) (48 + d) (87 + d)

abbrev pub hex_byte : ℕ → List ℕ
hex_byte x = digit (x / 16) ∷ digit (x % 16) ∷ []

-- each byte as two digits
abbrev pub hex : List ℕ → List ℕ
hex s = flat_map hex_byte s
