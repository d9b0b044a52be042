-- Lists of events on one image: "each event gets the settlement that the last one returned or left, and nobody else writes it in between"
-- (document 01, "Lists of events"). Assumes nothing.
use Rattle.std.specs.Prelude.{ℕ, ◌≡◌, true, List}
use Rattle.consensus.specs.Events.{Event, History, start, ◌▷◌, Opening, Openable}
use Rattle.consensus.specs.Rules.{number, after}
use Rattle.consensus.specs.Terms.{Beginning, ClaimsFit}
use Rattle.settlement.specs.declared.record.Settlement.{Settlement}
use Rattle.settlement.specs.Events.{opened, played}
use Rattle.settlement.specs.Look.{looked, turned_away}
use Rattle.settlement.specs.Tally.{tallied}
use Rattle.settlement.specs.Link.{rule_number, record_after}
use Rattle.settlement.specs.Demands.{Demand3OfRecords}
use Rattle.image.specs.Image.{image_of, record_in, no_image, RecordFits}
use Rattle.on_image.specs.Events.{image_number, image_after}
use Rattle.on_image.specs.Look.{looked_on, all_number}
use Rattle.on_image.specs.Tally.{tally_number, by_value}

-- OPEN left its image in the caller's bytes, which were then lent to each event of the list in turn: b stands there at the end
abbrev pub Stands : Opening → History → List ℕ → Type 0
Stands o start b = b ≡ image_of (opened o.count (rule_number o.rule)).settlement
Stands o (h ▷ e) b = (b₀ : List ℕ) × Stands o h b₀ × (b ≡ image_after b₀ e)

-- Demand 3 of such a list: its words hold, and after every beginning g of the list the bytes are the image of the record that g leads to, and the next
-- event's number and LOOK at each station are the play's, as `Demand3OfRecords` has them of that record
pub record Demand3OnImage (o : Opening) (h : History) : Type 0 where
  pub demand : Demand3OfRecords o h
  pub left : (g : History) → Beginning g h → (b : List ℕ) → Stands o g b → b ≡ image_of (record_after o g)
  pub numbers : (g : History) → Beginning g h → (b : List ℕ) → Stands o g b → (e : Event) → image_number b e ≡ number o (after o g) e
  pub looks : (g : History) → Beginning g h → (b : List ℕ) → Stands o g b → (s : ℕ) → looked_on b s ≡ looked (record_after o g) s
  -- and LOOK at each ballot is that of the record by value, which tells who voted (`WhoVoted`)
  pub ballots : (g : History) → Beginning g h → (b : List ℕ) → Stands o g b → (k : ℕ)
      → (by_value b k ≡ (tallied (record_after o g) k).number) × (tallied (record_in b) k ≡ tallied (record_after o g) k)
  -- so two stations that LOOK says have decided show one claim and the same number of votes
  pub looks_agree : (b : List ℕ) → Stands o h b → (p q : ℕ) → (looked_on b p).decided ≡ true → (looked_on b q).decided ≡ true → looked_on b p ≡ looked_on b q

-- bytes that are no image: every operation answers their number (`NumbersTold` in `image` says which), shows nothing and leaves them
pub record NoImage (b : List ℕ) : Type 0 where
  pub events : (e : Event) → (image_number b e ≡ no_image b) × (image_after b e ≡ b)
  pub look : (s : ℕ) → looked_on b s ≡ turned_away (no_image b)
  pub look_all : (out : List ℕ) → all_number b out ≡ no_image b
  pub look_ballot : (k : ℕ) (out : List ℕ) → tally_number b k out ≡ no_image b

pub record ImageLists : Type 0 where
  pub none : (b : List ℕ) → (no_image b ≡ 0 → ⊥) → NoImage b
  pub holds : (o : Opening) → Openable o → (h : History) → ClaimsFit h → Demand3OnImage o h
  -- on the image of any record whose numbers fit, made-up ones included: an event has the record's number, and leaves the image of the record after it;
  -- LOOK answers what it answers of the record
  pub numbers : (r : Settlement) → RecordFits r → (e : Event) → image_number (image_of r) e ≡ (played r e).number
  pub leaves : (r : Settlement) → RecordFits r → (e : Event) → image_after (image_of r) e ≡ image_of (played r e).settlement
  pub looks : (r : Settlement) → RecordFits r → (s : ℕ) → looked_on (image_of r) s ≡ looked r s
  -- some bytes stand there after every list
  pub stands : (o : Opening) → Openable o → (h : History) → ClaimsFit h → Stands o h (image_of (record_after o h))
