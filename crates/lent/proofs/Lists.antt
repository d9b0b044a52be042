-- Lists of events on one lent settlement: each entry's contract gives the outcome of the event's meaning, so by recursion on the list what is left is
-- `record_after`, of which the demands are proved. Assumes nothing.
use Prim.Native.Nat.{ℕ}
use mathlib.Core.Path.{◌≡◌, refl, sym, ◌∙◌, ap, subst}
use Rattle.consensus.specs.Events.{Event, History, start, ◌▷◌, Opening, Openable}
use Rattle.consensus.specs.Terms.{Beginning, ClaimsFit}
use Rattle.settlement.specs.declared.record.Settlement.{Settlement}
use Rattle.settlement.specs.Outcome.{Outcome, leaving}
use Rattle.settlement.specs.Events.{opened, effect, played}
use Rattle.settlement.specs.Link.{rule_number, record_after}
use Rattle.settlement.specs.Demands.{AnswersTold, Demand3OfRecords}
use Rattle.settlement.proofs.Demand1.{demand1}
use Rattle.settlement.proofs.Link.Demands.{demands}
use Rattle.lent.specs.Lists.{Leaves, Stands, Demand3Lent, LentLists}

-- an outcome written out gives its number and its settlement
same_number : (k : ℕ) (r : Settlement) (x : Outcome) → leaving k r ≡ x → k ≡ x.number
same_number k r x e = ap (λ (y : Outcome). y.number) e

same_settlement : (k : ℕ) (r : Settlement) (x : Outcome) → leaving k r ≡ x → r ≡ x.settlement
same_settlement k r x e = ap (λ (y : Outcome). y.settlement) e

refused : (r r' : Settlement) (e : Event) (k : ℕ) → Leaves r e k r' → (k ≡ 0 → ⊥) → r' ≡ r
refused r r' e k l n = same_settlement k r' (played r e) l ∙ demand1.unchanged r e (λ z. n (same_number k r' (played r e) l ∙ z))

accepted : (r r' : Settlement) (e : Event) (k : ℕ) → Leaves r e k r' → k ≡ 0 → r' ≡ effect r e
accepted r r' e k l z = same_settlement k r' (played r e) l ∙ demand1.advanced r e (sym (same_number k r' (played r e) l) ∙ z)

left : (o : Opening) (h : History) (r : Settlement) → Stands o h r → r ≡ record_after o h
unfolding record_after
left o start r s = same_settlement s.0 r (opened o.count (rule_number o.rule)) s.1
left o (h ▷ e) r s =
    same_settlement s.1 r (played s.0 e) s.3 ∙ ap (λ (z : Settlement). (played z e).settlement) (left o h s.0 s.2)

stands : (o : Opening) (h : History) → Stands o h (record_after o h)
unfolding record_after
stands o start = ((opened o.count (rule_number o.rule)).number, refl)
stands o (h ▷ e) = (record_after o h, (played (record_after o h) e).number, stands o h, refl)

demand3 : (o : Opening) → Openable o → (h : History) → ClaimsFit h → Demand3Lent o h
demand3 o a h f = record {
  demand = d;
  told = told;
  numbers = λ g b r s e k r' l. same_number k r' (played r e) l ∙ (told g b r s).numbers e;
}
  where
    d : Demand3OfRecords o h
    d = demands.demand3 o a h f

    told : (g : History) → Beginning g h → (r : Settlement) → Stands o g r → AnswersTold o g r
    told g b r s = subst (AnswersTold o g) (sym (left o g r s)) (d.told g b)

pub lent_lists : LentLists
lent_lists = record { refused = refused; accepted = accepted; left = left; stands = stands; demand3 = demand3 }
