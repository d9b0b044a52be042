-- The fields of a closing log, byte by byte. Assumes nothing.
use Prim.Native.Nat.{ℕ}
use mathlib.Core.Path.{◌≡◌, refl, ap₂}
use mathlib.Core.List.{◌++◌}
use Rattle.consensus.specs.Events.{Event, claim, deliver, step, lose, answer, History, start, ◌▷◌}
use Rattle.put.specs.Bytes.{bytes}
use Rattle.written.specs.Bytes.{field_bytes, log_bytes}
use Rattle.closing.specs.Laws.{ClosingEvent, ClosingEvents, literal, literal_log}

same_field : (n : ℕ) (e : Event) → ClosingEvent n e → field_bytes e ≡ literal e
unfolding bytes
same_field n (claim s v) o = absurd o
same_field n (deliver t s) o = refl
same_field n (step s) o = refl
same_field n (lose s) o = absurd o
same_field n (answer b a) o = refl

pub same_fields : (n : ℕ) (h : History) → ClosingEvents n h → log_bytes h ≡ literal_log h
unfolding log_bytes
same_fields n start o = refl
same_fields n (h ▷ e) o = ap₂ ◌++◌ (same_fields n h o.0) (same_field n e o.1)
