-- Where MERGE answers 0, RUN plays the log written to its end: its bytes spell the list made of both, and that list is accepted whole. Assumes nothing.
use Prim.Native.Nat.{ℕ, ◌+◌, ◌≤◌}
use mathlib.Core.Path.{◌≡◌, refl, sym, subst}
use mathlib.Core.Logic.{inl, inr}
use mathlib.Core.Bool.{false}
use mathlib.Core.List.{List, [], ◌∷◌, ◌++◌, append-nil}
use native.Mathlib.Nat.{le_refl}
use native.Mathlib.Omega.{arith}
use lib.Dec.{eqb, ltb}
use lib.ListN.{length, length-append, length-drop}
use borrow.Author.Tests.{eqb-true}
use Rattle.basics.specs.Bytes.{InBytes}
use Rattle.basics.specs.Tests.{refuse, first_met}
use Rattle.basics.proofs.Bools.{by_bool, no_clash}
use Rattle.basics.proofs.Refusals.{refused_not}
use Rattle.consensus.specs.Events.{Event, History, start, ◌▷◌, Rule, rule_1, rule_2, Opening, Openable}
use Rattle.consensus.specs.Rules.{number, after}
use Rattle.consensus.specs.Terms.{Beginning, Fitting, ClaimsFit}
use Rattle.consensus.specs.Owners.{AcceptedWhole}
use Rattle.consensus.proofs.Beginnings.{not_empty}
use Rattle.settlement.specs.Events.{opened}
use Rattle.settlement.specs.Link.{rule_number}
use Rattle.settlement.proofs.Link.Demands.{demands}
use Rattle.event.specs.declared.event.Event as declared_event
use Rattle.event.specs.Meant.{meant}
use Rattle.field.specs.declared.field.Field.TheVariants.{Open, Play}
use Rattle.field.specs.Read.{Found, found}
use Rattle.put.proofs.Again.{read_again}
use Rattle.logs.specs.Demand.{size, Spells, all_taken, Played}
use Rattle.logs.proofs.Claims.{found_fits}
use Rattle.logs.proofs.Played.{log_demand}
use Rattle.written.specs.Bytes.{log_bytes, onto}
use Rattle.written.proofs.Spelled.{spelled}
use Rattle.merging.specs.Merged.{OrderOf}
use Rattle.merging.specs.Logs.{Log, log_read}
use Rattle.merging.specs.Merge.{openings_differ, some_in_both, has_fault, rule_of, merged_of, opening_bytes, merge_number, merge_bytes}
use Rattle.merging.specs.Demand.{opening, list, answer, MergePlays, MergeDemand}
use Rattle.merging.proofs.Merged.{merging_laws}
use Rattle.merging.proofs.Read.{Every, order_every, read_every, opens}

-- ---- a list, and then more events

module _ (o : Opening) where
  -- each event of it is accepted where it stands
  abbrev EachAccepted : History → Type 0
  EachAccepted h = (g : History) (e : Event) → Beginning (g ▷ e) h → number o (after o g) e ≡ 0

  one_more : (h : History) (x : Event) → EachAccepted h → number o (after o h) x ≡ 0 → EachAccepted (h ▷ x)
  one_more h x before n g e (inl b) =
      let list_same : g ≡ h = cc in
      let event_same : e ≡ x = cc in
      rw (list_same, event_same) n
  one_more h x before n g e (inr b) = before g e b

  pub onto_accepted : (h : History) (es : List Event) → EachAccepted h → AcceptedWhole o (after o h) es → EachAccepted (onto h es)
  unfolding after
  onto_accepted h [] before w = before
  onto_accepted h (x ∷ es) before w = onto_accepted (h ▷ x) es (one_more h x before w.0) w.1

pub onto_fits : (h : History) (es : List Event) → ClaimsFit h → Every Fitting es → ClaimsFit (onto h es)
onto_fits h [] fit all = fit
onto_fits h (x ∷ es) fit all = onto_fits (h ▷ x) es (fit, all.0) all.1

-- ---- what is read off bytes

fitting : (s : List ℕ) → InBytes s → (e : declared_event.Event) (t : ℕ) → found s ≡ Found (Play e) t → Fitting (meant e)
fitting s b e t q = found_fits s 0 b (Play e) t q

pub rule_again : (n rule : ℕ) → (opened n rule).number ≡ 0 → rule_number (rule_of rule) ≡ rule
rule_again n rule z = let x = demands.opens_only n rule z in subst (λ (k : ℕ). rule_number (rule_of k) ≡ k) x.3 (go x.0.rule)
  where
    go : (q : Rule) → rule_number (rule_of (rule_number q)) ≡ rule_number q
    go rule_1 = refl
    go rule_2 = refl

-- ---- no test was met

pub no_fault : (l : Log) (rest : ℕ) → refuse (has_fault l) l.fault rest ≡ 0 → (l.fault ≡ 0) × (rest ≡ 0)
no_fault l rest e = by_bool (eqb l.fault 0) (λ p. (eqb-true _ 0 p, rw p at e)) (λ p. absurd (go p (rw p at e)))
  where
    go : eqb l.fault 0 ≡ false → l.fault ≡ 0 → ⊥
    go p z = no_clash (eqb l.fault 0) (rw z) p

module _ (first second : List ℕ) (first_bytes : InBytes first) (second_bytes : InBytes second) (room : ℕ) (zero : merge_number first second room ≡ 0) where
  abbrev o : Opening
  o = opening first second

  abbrev h : History
  h = list first second

  pub record Passed : Type 0 where
    pub first_read : (log_read first).fault ≡ 0
    pub goes : (merged_of (log_read first) (log_read second)).blocked ≡ false

  passed : Passed
  unfolding merge_number first_met
  passed =
      let a = no_fault (log_read first) _ zero in
      let b = no_fault (log_read second) _ a.1 in
      let c = refused_not (openings_differ (log_read first) (log_read second)) 60 _ refl b.1 in
      let d = refused_not (some_in_both (log_read first) (log_read second)) 61 _ refl c.1 in
      let e = refused_not (merged_of (log_read first) (log_read second)).blocked 62
      (refuse (ltb room (length (merge_bytes first second))) 30 0) refl d.1 in
      record { first_read = a.0; goes = e.0 }

  keeps : OrderOf (log_read first).events (log_read second).events (merged_of (log_read first) (log_read second)).events
  keeps = (merging_laws o (log_read first).events (log_read second).events).order passed.goes

  fits : ClaimsFit h
  fits =
      onto_fits start (merged_of (log_read first) (log_read second)).events tt
      (order_every Fitting keeps (read_every Fitting fitting first first_bytes) (read_every Fitting fitting second second_bytes))

  each_accepted : EachAccepted o h
  unfolding after
  each_accepted =
      onto_accepted o start (merged_of (log_read first) (log_read second)).events (λ g e b. absurd (not_empty g e b))
      (merging_laws o (log_read first).events (log_read second).events).accepted

  opened_so : (opened (log_read first).count (log_read first).rule).number ≡ 0
  opened_so = opens first passed.first_read

  openable : Openable o
  openable =
      let x = demands.opens_only _ _ opened_so in
      let n = x.2 in
      record { some_station = omega (arith, x.1.some_station); not_too_many = omega (arith, x.1.not_too_many) }

  reads_opening : found (merge_bytes first second) ≡ Found (Open o.count (rule_number o.rule)) (length (opening_bytes (log_read first)))
  reads_opening = rw (rule_again _ _ opened_so) (read_again (Open (log_read first).count (log_read first).rule) [] (log_bytes h) tt refl)

  module _ (limit : ℕ) (within : size h ≤ limit) where
    spells : Spells (merge_bytes first second) limit (length (opening_bytes (log_read first))) h (length (merge_bytes first second))
    spells =
        let bytes : log_bytes h ++ [] ≡ log_bytes h = append-nil _ in
        let to : length (opening_bytes (log_read first)) + length (log_bytes h) ≡ length (merge_bytes first second) =
        sym (length-append (opening_bytes (log_read first)) (log_bytes h)) in
        rw (bytes, to) at (spelled (opening_bytes (log_read first)) [] limit h fits within)

    played : Played (merge_bytes first second) limit (answer first second) o h
    played =
        record {
          openable = openable;
          first = length (opening_bytes (log_read first));
          opens = reads_opening;
          spells = spells;
          accepted = each_accepted;
          fits = fits;
          settlement = refl;
          count = refl;
          within_limit = within;
          stopped = all_taken (rw length-drop (omega arith));
          nothing_left = (λ z. le_refl _, λ l. refl);
          limit_reached = (λ z. absurd (omega arith), λ l. let never = l.0 in absurd (omega arith));
          in_ranges = demands.in_ranges o openable h fits;
          demand2 = demands.demand2 o openable h fits;
          demand3 = demands.demand3 o openable h fits;
        }

    merge_plays : MergePlays first second limit
    merge_plays =
        record {
          plays = sym (log_demand.only (merge_bytes first second) limit (answer first second) (inr (o, h, played)));
          played = played;
          order = keeps;
          openable = openable;
          fits = fits;
          demand3 = demands.demand3 o openable h fits;
        }

pub merge_demand : MergeDemand
merge_demand = merge_plays
