-- Numbers in bytes, high byte first (document 01, "The log"), and bytes replaced in a list. Assumes nothing.
use Rattle.std.specs.Prelude.{ℕ, ◌+◌, ◌*◌, ◌/◌, ◌%◌, ◌<◌, List, [], ◌∷◌, ◌++◌, length, take, drop, get_or, set}

-- the byte at a place, 0 past the end
abbrev pub byte : List ℕ → ℕ → ℕ
byte b i = get_or b i 0

-- a number's four bytes, high byte first
abbrev pub four_bytes : ℕ → List ℕ
four_bytes v = v / 16777216 % 256 ∷ v / 65536 % 256 ∷ v / 256 % 256 ∷ v % 256 ∷ []

-- the number in four bytes, and in those from a place on
abbrev pub four_of : (x y z w : ℕ) → ℕ
four_of x y z w = 256 * (256 * (256 * x + y) + z) + w

abbrev pub four_from : List ℕ → ℕ → ℕ
four_from b i = four_of (byte b i) (byte b (i + 1)) (byte b (i + 2)) (byte b (i + 3))

-- four bytes of a number stored from a place on, each as far as the list reaches
abbrev pub four_set : List ℕ → ℕ → ℕ → List ℕ
four_set b i v = set (set (set (set b i (v / 16777216 % 256)) (i + 1) (v / 65536 % 256)) (i + 2) (v / 256 % 256)) (i + 3) (v % 256)

-- the bytes from a place on replaced: every other byte stays
abbrev pub over : ℕ → List ℕ → List ℕ → List ℕ
over place fill b = take place b ++ (fill ++ drop (place + length fill) b)

-- each is a byte
abbrev pub InBytes : List ℕ → Type 0
InBytes b = (i : ℕ) → byte b i < 256
