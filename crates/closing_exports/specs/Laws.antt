-- What a caller reads off the answer (`include/dagmuize.h`) for a log of bytes: its number, its count, and the bytes of the buffer. Assumes nothing.
use Rattle.std.specs.Prelude.{ℕ, ◌/◌, ◌%◌, ◌≤◌, ◌<◌, ◌≡◌, List, length, take, drop}
use Rattle.consensus.specs.Rules.{as_bit}
use Rattle.logs.specs.Run.{ran}
use Rattle.closing.specs.Close.{closing_bytes}
use Rattle.closing_exports.specs.Exports.{close_answer, close_after}

module _ (log : List ℕ) (limit preferred : ℕ) (before : List ℕ) where
  abbrev pub number : ℕ
  number = close_answer log limit preferred (length before) / 4294967296

  abbrev pub count : ℕ
  count = close_answer log limit preferred (length before) % 4294967296

  abbrev pub after : List ℕ
  after = close_after log limit preferred before

  -- the closing log of what the log plays to
  abbrev pub closing_log : List ℕ
  closing_log = closing_bytes (ran log limit).settlement (as_bit preferred)

  -- refused with that number: "no byte is written and the count is 0"
  abbrev pub Refused : ℕ → Type 0
  Refused k = (number ≡ k) × (count ≡ 0) × (after ≡ before)

  pub record CloseTold : Type 0 where
    -- "RUN's status where the log stops early; then 10 for a preferred bit above 1, then 30", and no other number
    pub stops_early : ((ran log limit).status ≡ 0 → ⊥) → Refused (ran log limit).status
    pub no_bit : (ran log limit).status ≡ 0 → 1 < preferred → Refused 10
    pub no_room : (ran log limit).status ≡ 0 → preferred ≤ 1 → length before < length closing_log → Refused 30
    -- the closing log stands at the buffer's start, the count says how long it is, and every other byte is as it was
    pub closed : (ran log limit).status ≡ 0 → preferred ≤ 1 → length closing_log ≤ length before
        → (number ≡ 0) × (count ≡ length closing_log) × (take count after ≡ closing_log) × (drop count after ≡ drop count before)
    -- "DAGMUIZE_CLOSING_BYTES are always enough"
    pub enough : (ran log limit).status ≡ 0 → length closing_log ≤ 153024
