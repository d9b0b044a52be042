-- Lists of events on one lent settlement. "Each event gets the settlement that the last one returned or left, and nobody else writes it in between"
-- (document 01, "Lists of events"). What an entry does is read off its contract. Assumes nothing.
use Rattle.std.specs.Prelude.{ℕ, ◌≡◌}
use Rattle.consensus.specs.Events.{Event, History, start, ◌▷◌, Opening, Openable}
use Rattle.consensus.specs.Rules.{number, after}
use Rattle.consensus.specs.Terms.{Beginning, ClaimsFit}
use Rattle.settlement.specs.declared.record.Settlement.{Settlement}
use Rattle.settlement.specs.Events.{opened, effect, played}
use Rattle.settlement.specs.Link.{rule_number, record_after}
use Rattle.settlement.specs.Demands.{AnswersTold, Demand3OfRecords}
use Rattle.settlement.specs.Outcome.{leaving}

-- the contracts of the entries: OPEN n, rule answers k and leaves r; the event e on r answers k and leaves r'
abbrev pub Opens : (n rule k : ℕ) → Settlement → Type 0
Opens n rule k r = leaving k r ≡ opened n rule

abbrev pub Leaves : Settlement → Event → ℕ → Settlement → Type 0
Leaves r e k r' = leaving k r' ≡ played r e

-- one settlement is lent to OPEN and then to the entry of each event of the list, and r stands there at the end
abbrev pub Stands : Opening → History → Settlement → Type 0
Stands o start r = (k : ℕ) × Opens o.count (rule_number o.rule) k r
Stands o (h ▷ e) r = (r₀ : Settlement) × (k : ℕ) × Stands o h r₀ × Leaves r₀ e k r

-- Demand 3 of one settlement that is lent to OPEN and then to the entry of each event of the list h: its words hold, and after every beginning g of
-- the list, the settlement r that stands there answers as the play does; so does the entry of any event that r is lent to next
pub record Demand3Lent (o : Opening) (h : History) : Type 0 where
  pub demand : Demand3OfRecords o h
  pub told : (g : History) → Beginning g h → (r : Settlement) → Stands o g r → AnswersTold o g r
  pub numbers : (g : History) → Beginning g h → (r : Settlement) → Stands o g r
      → (e : Event) (k : ℕ) (r' : Settlement) → Leaves r e k r' → k ≡ number o (after o g) e

pub record LentLists : Type 0 where
  -- refusal leaves the settlement equal, on every record; acceptance leaves what the event makes of it
  pub refused : (r r' : Settlement) (e : Event) (k : ℕ) → Leaves r e k r' → (k ≡ 0 → ⊥) → r' ≡ r
  pub accepted : (r r' : Settlement) (e : Event) (k : ℕ) → Leaves r e k r' → k ≡ 0 → r' ≡ effect r e
  -- a list leaves what the meanings by value leave, and some settlement stands there after every list
  pub left : (o : Opening) (h : History) (r : Settlement) → Stands o h r → r ≡ record_after o h
  pub stands : (o : Opening) (h : History) → Stands o h (record_after o h)
  pub demand3 : (o : Opening) → Openable o → (h : History) → ClaimsFit h → Demand3Lent o h
