-- Lists of events on one image: the record that a list leads to has numbers that fit, so it comes back from its image, and each event on the image is
-- the event on the record. Assumes nothing.
use Prim.Native.Nat.{ℕ}
use mathlib.Core.Path.{◌≡◌, refl, sym, subst, ap, ◌∙◌}
use mathlib.Core.Bool.{true, cond}
use mathlib.Core.Logic.{⊎_elim}
use mathlib.Core.List.{List}
use lib.Dec.{eqb}
use borrow.Author.Tests.{eqb-false, ne_eqb}
use Rattle.basics.proofs.Bools.{by_bool}
use Rattle.consensus.specs.Events.{Event, History, start, ◌▷◌, Opening, Openable}
use Rattle.consensus.specs.Terms.{Beginning, ClaimsFit}
use Rattle.settlement.specs.declared.record.Settlement.{Settlement}
use Rattle.settlement.specs.Events.{played}
use Rattle.settlement.specs.Look.{Standing, looked}
use Rattle.settlement.specs.Tally.{Tally, tallied}
use Rattle.settlement.specs.Link.{record_after}
use Rattle.settlement.specs.Demands.{Demand3OfRecords}
use Rattle.settlement.proofs.Demand1.{demand1}
use Rattle.settlement.proofs.Link.Demands.{demands}
use Rattle.image.specs.Image.{image_of, record_in, no_image, tested_first, RecordFits}
use Rattle.image.proofs.Image.{an_image, record_again}
use Rattle.on_image.specs.Events.{image_number, image_after}
use Rattle.on_image.specs.Look.{looked_on, all_number}
use Rattle.on_image.specs.Tally.{tally_number, by_value}
use Rattle.on_image.specs.Lists.{Stands, Demand3OnImage, NoImage, ImageLists}
use Rattle.on_image.proofs.Laws.{number_there, after_there}
use Rattle.on_image.proofs.Looks.{image_shown, no_image_shown}
use Rattle.image.proofs.Fits.{after_fits}

-- ---- one event on the image of a record whose numbers fit

module _ (r : Settlement) (fits : RecordFits r) where
  there : no_image (image_of r) ≡ 0
  there = an_image r fits.station_entries fits.ballot_entries

  pub same_number : (e : Event) → image_number (image_of r) e ≡ (played r e).number
  same_number e = number_there (image_of r) e there ∙ ap (λ (x : Settlement). (played x e).number) (record_again r fits)

  -- accepted or refused, the image of what the event answers
  pub same_image : (e : Event) → image_after (image_of r) e ≡ image_of (played r e).settlement
  same_image e =
      after_there (image_of r) e there
      ∙ ap (λ (x : Settlement). cond (eqb (played x e).number 0) (image_of (played x e).settlement) (image_of r)) (record_again r fits)
      ∙ by_bool (eqb (played r e).number 0) (λ p. rw p)
      (λ p. rw p (sym (ap image_of (demand1.unchanged r e (eqb-false _ 0 p)))))

  pub same_look : (s : ℕ) → looked_on (image_of r) s ≡ looked r s
  same_look s = image_shown (image_of r) s there ∙ ap (λ (x : Settlement). looked x s) (record_again r fits)

  same_tally : (k : ℕ) → (by_value (image_of r) k ≡ (tallied r k).number) × (tallied (record_in (image_of r)) k ≡ tallied r k)
  same_tally k =
      let shown = ap (λ (x : Settlement). tallied x k) (record_again r fits) in
      (ap (λ (n : ℕ). cond (eqb n 0) (tallied (record_in (image_of r)) k).number n) there ∙ ap (λ (t : Tally). t.number) shown, shown)

-- ---- lists

left : (o : Opening) → Openable o → (h : History) → ClaimsFit h → (b : List ℕ) → Stands o h b → b ≡ image_of (record_after o h)
unfolding record_after
left o a start f b s = s
left o a (h ▷ e) f b s =
    s.2 ∙ ap (λ (x : List ℕ). image_after x e) (left o a h f.0 s.0 s.1) ∙ same_image (record_after o h) (after_fits o a h f.0) e

stands : (o : Opening) → Openable o → (h : History) → ClaimsFit h → Stands o h (image_of (record_after o h))
unfolding record_after
stands o a start f = refl
stands o a (h ▷ e) f = (image_of (record_after o h), stands o a h f.0, sym (same_image (record_after o h) (after_fits o a h f.0) e))

-- a beginning's claims fit
beginning_fits : (g h : History) → Beginning g h → ClaimsFit h → ClaimsFit g
beginning_fits g start b f = subst ClaimsFit (sym b) f
beginning_fits g (h ▷ e) b f = ⊎_elim (λ q. subst ClaimsFit (sym q) f) (λ c. beginning_fits g h c f.0) b

module _ (o : Opening) (a : Openable o) (h : History) (f : ClaimsFit h) where
  d : Demand3OfRecords o h
  d = demands.demand3 o a h f

  shows : (b : List ℕ) → Stands o h b → (s : ℕ) → looked_on b s ≡ looked (record_after o h) s
  shows b s i = ap (λ (x : List ℕ). looked_on x i) (left o a h f b s) ∙ same_look (record_after o h) (after_fits o a h f) i

  agree : (b : List ℕ) → Stands o h b → (p q : ℕ) → (looked_on b p).decided ≡ true → (looked_on b q).decided ≡ true → looked_on b p ≡ looked_on b q
  agree b s p q dp dq =
      let decided : (i : ℕ) → (looked_on b i).decided ≡ true → (looked (record_after o h) i).decided ≡ true =
      (λ i e. sym (ap (λ (t : Standing). t.decided) (shows b s i)) ∙ e) in
      shows b s p ∙ d.looks_agree p q (decided p dp) (decided q dq) ∙ sym (shows b s q)

  holds : Demand3OnImage o h
  holds = record {
    demand = d;
    left = λ g c b s. left o a g (beginning_fits g h c f) b s;
    numbers = λ g c b s e.
        let fit = beginning_fits g h c f in
        ap (λ (x : List ℕ). image_number x e) (left o a g fit b s) ∙ same_number (record_after o g) (after_fits o a g fit) e ∙ (d.told g c).numbers e;
    looks = λ g c b s i.
        let fit = beginning_fits g h c f in
        ap (λ (x : List ℕ). looked_on x i) (left o a g fit b s) ∙ same_look (record_after o g) (after_fits o a g fit) i;
    ballots = λ g c b s k.
        let fit = beginning_fits g h c f in
        subst (λ (x : List ℕ). (by_value x k ≡ (tallied (record_after o g) k).number) × (tallied (record_in x) k ≡ tallied (record_after o g) k))
        (sym (left o a g fit b s)) (same_tally (record_after o g) (after_fits o a g fit) k);
    looks_agree = agree;
  }

-- bytes that are no image
tested_none : (b : List ℕ) (x : ℕ) → (no_image b ≡ 0 → ⊥) → tested_first b x ≡ no_image b
tested_none b x n = rw (ne_eqb (no_image b) 0 n)

none : (b : List ℕ) → (no_image b ≡ 0 → ⊥) → NoImage b
unfolding image_number image_after all_number tally_number
none b n = record {
  events = λ e. (rw (ne_eqb (no_image b) 0 n), rw (ne_eqb (no_image b) 0 n, ne_eqb (no_image b) 0 n));
  look = λ s. no_image_shown b s n;
  look_all = λ out. tested_none b _ n;
  look_ballot = λ k out. tested_none b _ n;
}

pub image_lists : ImageLists
image_lists = record { none = none; holds = holds; numbers = same_number; leaves = same_image; looks = same_look; stands = stands }
