-- Bytes written into a lent buffer: count, then write. Assumes nothing.
use Rattle.std.specs.Prelude.{ℕ, ◌+◌, ◌-◌, ◌≤◌, ◌≡◌, cond, List, [], ◌∷◌, ◌++◌, leb, length, drop}
use Rattle.std.proofs.lemmas.List.Edits.{sets}

-- the last place that a number names, 2^64 - 1, and a place or, past the last, the last
abbrev pub last_place : ℕ
last_place = 18446744073709551615

abbrev pub place_up_to : ℕ → ℕ
place_up_to n = n - (n - last_place)

-- From `place` on the buffer has the bytes of t, as far as it reaches, and every other byte is as it was; t takes at most `most`
-- places, and `next` is the place after them.
pub record Wrote (most : ℕ) (before : List ℕ) (place : ℕ) (t : List ℕ) (after : List ℕ) (next : ℕ) : Type 0 where
  pub bytes : after ≡ sets before place t
  pub ends : next ≡ place_up_to (place + length t)
  pub short : next ≤ place + most
  pub fits : length before ≤ last_place

-- What a text leaves of a lent buffer, and the count that is answered. Where it fits, the text stands at the start, every other
-- byte is as it was, and the count is the text's length; where it does not, nothing is written and the count is 0.
pub record Filled (t before after : List ℕ) (count : ℕ) : Type 0 where
  pub written : after ≡ cond (leb (length t) (length before)) (t ++ drop (length t) before) before
  pub counted : count ≡ cond (leb (length t) (length before)) (length t) 0

-- Both leave nothing open: two buffers and two counts of which they hold are the same. And they hold of what the documents mean, in a few bytes:
-- inside the buffer, up to its last byte, and with one byte too many.
pub record Writing : Type 0 where
  pub one_writing : (m : ℕ) (before : List ℕ) (place : ℕ) (t after after' : List ℕ) (next next' : ℕ)
      → Wrote m before place t after next → Wrote m before place t after' next' → (after ≡ after') × (next ≡ next')
  pub one_filling : (t before after after' : List ℕ) (count count' : ℕ)
      → Filled t before after count → Filled t before after' count' → (after ≡ after') × (count ≡ count')
  pub inside : Wrote 2 (9 ∷ 9 ∷ 9 ∷ 9 ∷ []) 1 (5 ∷ 6 ∷ []) (9 ∷ 5 ∷ 6 ∷ 9 ∷ []) 3
  pub cut : Wrote 2 (9 ∷ 9 ∷ []) 1 (5 ∷ 6 ∷ []) (9 ∷ 5 ∷ []) 3
  pub past : Wrote 1 (9 ∷ []) 18446744073709551615 (5 ∷ []) (9 ∷ []) 18446744073709551615
  pub room : Filled (5 ∷ 6 ∷ []) (9 ∷ 9 ∷ 9 ∷ []) (5 ∷ 6 ∷ 9 ∷ []) 2
  pub just : Filled (5 ∷ 6 ∷ []) (9 ∷ 9 ∷ []) (5 ∷ 6 ∷ []) 2
  pub does_not_fit : Filled (5 ∷ 6 ∷ []) (9 ∷ []) (9 ∷ []) 0
