-- Demand 1: one law over every event, with any arguments, on every record, made-up ones included. Assumes nothing.
use Rattle.std.specs.Prelude.{ℕ, ◌≡◌, ◌⊎◌, ◌↔◌, true, false, List, [], ◌∷◌}
use Rattle.consensus.specs.Events.{Event}
use Rattle.settlement.specs.declared.record.Settlement.{Settlement}
use Rattle.settlement.specs.Events.{tests, effect, played}
use Rattle.basics.specs.Tests.{Test, when, NoneMet}

-- a test of the list is met, and the first that is gives the number k
abbrev pub MetFirst : ℕ → List Test → Type 0
MetFirst k [] = ⊥
MetFirst k (when met number ∷ ts) = ((met ≡ true) × (number ≡ k)) ⊎ ((met ≡ false) × MetFirst k ts)

-- `tests r e` lists the document's tests in its order: "an event on a record outside its ranges (42), for no such station or ballot or a bit above 1
-- (1, 9, 10), by or to a lost station (2), too early (4, 6, 8), a second time (3, 5; of ANSWER the other bit alone, 11), a step once decided (7), or an
-- answer nobody cast (12)". A second ANSWER of the same bit is among the events accepted (document 02, A.1)
pub record Demand1 : Type 0 where
  -- "Refused, each with its number ..."
  pub refused : (r : Settlement) (e : Event) (k : ℕ) → (k ≡ 0 → ⊥) → (played r e).number ≡ k ↔ MetFirst k (tests r e)
  -- "... and the settlement exactly as it was"
  pub unchanged : (r : Settlement) (e : Event) → ((played r e).number ≡ 0 → ⊥) → (played r e).settlement ≡ r
  -- "Accepted: every other event, whoever calls and with what bytes"
  pub accepted : (r : Settlement) (e : Event) → (played r e).number ≡ 0 ↔ NoneMet (tests r e)
  pub advanced : (r : Settlement) (e : Event) → (played r e).number ≡ 0 → (played r e).settlement ≡ effect r e
