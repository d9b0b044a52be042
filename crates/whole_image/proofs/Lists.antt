-- OPEN into an image and the image that a log plays to are images of records that lists lead to, whose numbers fit; so they come back. Assumes nothing.
use Prim.Native.Nat.{ℕ}
use mathlib.Core.Path.{◌≡◌, refl, sym, subst, ap, ◌∙◌}
use mathlib.Core.Logic.{⊎_elim}
use mathlib.Core.Bool.{false}
use mathlib.Core.List.{List}
use native.Mathlib.Omega.{arith}
use lib.ListN.{length}
use Rattle.basics.specs.Below.{any_below}
use Rattle.basics.specs.Bytes.{InBytes}
use Rattle.consensus.specs.Events.{History, start, Opening, Openable}
use Rattle.settlement.specs.Fault.{fault}
use Rattle.settlement.specs.Events.{blank, opened}
use Rattle.settlement.specs.Link.{rule_number}
use Rattle.settlement.proofs.Link.Demands.{demands}
use Rattle.logs.specs.Run.{ran}
use Rattle.logs.specs.Demand.{Unopened, Played}
use Rattle.logs.proofs.Played.{log_demand}
use Rattle.report.specs.Report.{text_of}
use Rattle.image.specs.Image.{image_of, RecordFits}
use Rattle.image.proofs.Fits.{fresh_fits, after_fits}
use Rattle.on_image.specs.Lists.{Stands}
use Rattle.on_image.proofs.Lists.{image_lists}
use Rattle.whole_image.specs.Whole.{stored_number, stored, image_text}
use Rattle.whole_image.specs.Lists.{WholeLists}
use Rattle.whole_image.proofs.Laws.{stored_there, reported}

module _ (b : List ℕ) (size : length b ≡ 1283) where
  opens : (o : Opening) → Openable o
      → (stored_number b (opened o.count (rule_number o.rule)).number ≡ 0)
      × Stands o start (stored b (opened o.count (rule_number o.rule)).settlement)
  opens o a = let there = stored_there b _ _ size in (there.1 ∙ demands.opens o a, there.0)

  plays : (log : List ℕ) (limit : ℕ) (o : Opening) (h : History) → Played log limit (ran log limit) o h → Stands o h (stored b (ran log limit).settlement)
  plays log limit o h p =
      subst (Stands o h) (sym ((stored_there b (ran log limit).settlement 0 size).0 ∙ ap image_of p.settlement)) (image_lists.stands o p.openable h p.fits)

-- ---- the report

blank_passes : fault blank ≡ false
unfolding fault any_below
blank_passes = refl

abbrev Same : List ℕ → ℕ → Type 0
Same log limit =
    image_text (image_of (ran log limit).settlement) (ran log limit).events (ran log limit).taken (ran log limit).status ≡ text_of (ran log limit)

reports : (log : List ℕ) (limit : ℕ) → InBytes log → Same log limit
reports log limit bytes = ⊎_elim unopened opened_so (log_demand.holds log limit bytes)
  where
    of : RecordFits (ran log limit).settlement → fault (ran log limit).settlement ≡ false → Same log limit
    of fits passes = reported (ran log limit).settlement fits passes _ _ _

    unopened : Unopened log limit (ran log limit) → Same log limit
    unopened u =
        of (subst RecordFits (sym u.settlement) (fresh_fits 0 1 (omega arith) (omega arith)))
        (ap fault u.settlement ∙ blank_passes)

    opened_so : (o : Opening) × (h : History) × Played log limit (ran log limit) o h → Same log limit
    opened_so x =
        let p = x.2 in
        of (subst RecordFits (sym p.settlement) (after_fits x.0 p.openable x.1 p.fits))
        (ap fault p.settlement ∙ p.in_ranges.no_fault)

pub whole_lists : WholeLists
whole_lists = record { opens = opens; plays = plays; reports = reports }
