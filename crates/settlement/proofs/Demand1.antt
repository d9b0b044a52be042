-- Demand 1: a list of tests, each with a number other than 0, says by its first met test what an event is refused for. Assumes nothing.
use Prim.Native.Nat.{ℕ}
use mathlib.Core.Path.{◌≡◌, refl, sym, ap}
use mathlib.Core.Logic.{inl, inr}
use mathlib.Core.Bool.{true, false}
use mathlib.Core.List.{List, [], ◌∷◌}
use lib.Dec.{eqb}
use Rattle.consensus.specs.Events.{Event, claim, deliver, step, lose, answer}
use Rattle.basics.proofs.Bools.{no_clash}
use Rattle.basics.proofs.Refusals.{refused_not, tests_in_order}
use Rattle.settlement.specs.declared.record.Settlement.{Settlement}
use Rattle.settlement.specs.Outcome.{Outcome}
use Rattle.settlement.specs.Events.{tests, number, outcome, effect, played}
use Rattle.basics.specs.Tests.{Test, when, first_met, NoneMet}
use Rattle.settlement.specs.Demand1.{MetFirst, Demand1}
use Rattle.settlement.proofs.Refusals.{refused_outcome, accepted_outcome}

abbrev Numbered : List Test → Type 0
Numbered [] = Unit {0}
Numbered (when met number ∷ ts) = (eqb number 0 ≡ false) × Numbered ts

none_met : (ts : List Test) → Numbered ts → first_met ts ≡ 0 → NoneMet ts
unfolding first_met
none_met [] h e = tt
none_met (when met k ∷ ts) h e = let rest = refused_not met k (first_met ts) h.0 e in (rest.0, none_met ts h.1 rest.1)

met_first : (ts : List Test) (k : ℕ) → (k ≡ 0 → ⊥) → first_met ts ≡ k → MetFirst k ts
unfolding first_met
met_first [] k h e = h (sym e)
met_first (when true m ∷ ts) k h e = inl (refl, e)
met_first (when false m ∷ ts) k h e = inr (refl, met_first ts k h e)

first_gives : (ts : List Test) (k : ℕ) → MetFirst k ts → first_met ts ≡ k
unfolding first_met
first_gives [] k h = absurd h
first_gives (when true m ∷ ts) k (inl h) = h.1
first_gives (when true m ∷ ts) k (inr h) = no_clash true refl h.0
first_gives (when false m ∷ ts) k (inl h) = no_clash false h.0 refl
first_gives (when false m ∷ ts) k (inr h) = first_gives ts k h.1

numbered : (r : Settlement) (e : Event) → Numbered (tests r e)
numbered r (claim s v) = (refl, (refl, (refl, (refl, tt))))
numbered r (deliver t s) = (refl, (refl, (refl, (refl, (refl, tt)))))
numbered r (step s) = (refl, (refl, (refl, (refl, (refl, (refl, (refl, tt)))))))
numbered r (lose s) = (refl, (refl, (refl, tt)))
numbered r (answer b a) = (refl, (refl, (refl, (refl, (refl, tt)))))

pub demand1 : Demand1
unfolding played outcome number
demand1 =
    record {
      refused = λ r e k h. (met_first (tests r e) k h, first_gives (tests r e) k);
      unchanged = λ r e h. ap (λ (o : Outcome). o.settlement) (refused_outcome (number r e) (effect r e) r h);
      accepted = λ r e. (none_met (tests r e) (numbered r e), tests_in_order.accepted (tests r e));
      advanced = λ r e h. ap (λ (o : Outcome). o.settlement) (accepted_outcome (number r e) (effect r e) r h);
    }
