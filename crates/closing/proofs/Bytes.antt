-- A log that RUN plays to its end, and the bytes of the closing log behind it: RUN plays both, as a list of events that is accepted whole. Assumes nothing.
use Prim.Native.Nat.{ℕ, ◌+◌, ◌≤◌}
use mathlib.Core.Path.{◌≡◌, refl, sym, subst, ap, ◌∙◌}
use mathlib.Core.Logic.{inl, inr}
use mathlib.Core.Bool.{Bool}
use mathlib.Core.List.{List, [], ◌++◌, append-nil}
use native.Mathlib.Nat.{le_refl}
use native.Mathlib.Omega.{arith}
use lib.ListN.{length, length-append, length-drop}
use Rattle.basics.specs.Bytes.{InBytes}
use Rattle.consensus.specs.Events.{Event, History, start, ◌▷◌, Opening, Openable}
use Rattle.consensus.specs.Rules.{number, after}
use Rattle.consensus.specs.Terms.{Beginning, ClaimsFit}
use Rattle.consensus.specs.Told.{followed_by}
use Rattle.consensus.proofs.Beginnings.{itself, not_empty}
use Rattle.settlement.specs.Link.{record_after}
use Rattle.settlement.proofs.Link.Demands.{demands}
use Rattle.field.proofs.Found.{within}
use Rattle.logs.specs.Run.{Replay, ran}
use Rattle.logs.specs.Demand.{size, Spells, all_taken, Played, RunTold}
use Rattle.logs.proofs.Played.{log_demand}
use Rattle.closing.specs.Closing.{closing}
use Rattle.written.specs.Bytes.{log_bytes}
use Rattle.closing.specs.Demand.{made, whole, Closes, PlaysOn}
use Rattle.written.proofs.Longer.{found_longer, spells_inside, spells_longer, size_followed, spells_joined}
use Rattle.written.proofs.Spelled.{spelled}

-- ---- a list and what follows it

later_fits : (h l : History) → ClaimsFit (followed_by h l) → ClaimsFit l
later_fits h start fit = tt
later_fits h (l ▷ e) fit = (later_fits h l fit.0, fit.1)

begins_on : (h g l : History) (e : Event) → Beginning (g ▷ e) l → Beginning (followed_by h g) (followed_by h l)
begins_on h g start e b = absurd (not_empty g e b)
begins_on h g (l ▷ x) e (inl b) =
    let same : g ≡ l = cc in
    inr (subst (λ (k : History). Beginning (followed_by h g) (followed_by h k)) same (itself (followed_by h g)))
begins_on h g (l ▷ x) e (inr b) = inr (begins_on h g l e b)

-- what holds of each event of the two lists, where it stands
each : (C : History → Event → Type 0) (h l : History) → ((g : History) (e : Event) → Beginning (g ▷ e) h → C g e)
    → ((g : History) (e : Event) → Beginning (g ▷ e) l → C (followed_by h g) e) → (g : History) (e : Event) → Beginning (g ▷ e) (followed_by h l) → C g e
each C h start first later g e b = first g e b
each C h (l ▷ x) first later g e (inl b) =
    let list_same : g ≡ followed_by h l = cc in
    let event_same : e ≡ x = cc in
    rw (list_same, event_same) (later l x (inl refl))
each C h (l ▷ x) first later g e (inr b) = each C h l first (λ k f c. later k f (inr c)) g e b

-- ---- the log, and the closing log behind it

module _ (log : List ℕ) (limit : ℕ) (preferred : Bool) (o : Opening) (h : History) (p : Played log limit (ran log limit) o h)
    (zero : (ran log limit).status ≡ 0) (c : Closes o h preferred) where
  abbrev events : History
  events = (made o h preferred).events

  abbrev both : List ℕ
  both = log ++ log_bytes events

  -- what RUN answers
  abbrev answer : Replay
  answer = record { settlement = (made o h preferred).settlement; events = (ran log limit).events + size events; taken = length both; status = 0 }

  -- RUN stopped where nothing is left
  all_read : (ran log limit).taken ≡ length log
  all_read =
      let reached = p.nothing_left.0 zero in
      let inside = spells_inside log limit p.first p.spells (within log _ p.first p.opens).inside in
      omega arith

  -- the bytes behind the log spell the closing log's events, to the end
  tail_spells : (room : ℕ) → size events ≤ room → Spells both room (length log) events (length both)
  tail_spells room l =
      let bytes : log_bytes events ++ [] ≡ log_bytes events = append-nil _ in
      let to : length log + length (log_bytes events) ≡ length (log ++ log_bytes events) = sym (length-append log (log_bytes events)) in
      rw (bytes, to) at (spelled log [] room events (later_fits h events c.fits) l)

  -- an event's number on what the lists left is the play's
  all_accepted : (g : History) (e : Event) → Beginning (g ▷ e) (whole o h preferred) → number o (after o g) e ≡ 0
  all_accepted =
      each (λ g e. number o (after o g) e ≡ 0) h events p.accepted
      (λ g e b. sym ((c.demand3.told (followed_by h g) (begins_on h g events e b)).numbers e) ∙ c.accepted g e b)

  module _ (more : ℕ) (limits : limit ≤ more) (enough : (ran log limit).events + size events ≤ more) where
    room : size h + size events ≤ more
    room = let counted = p.count in omega arith

    both_spell : Spells both more p.first (whole o h preferred) (length both)
    both_spell =
        spells_joined both (size events) more p.first (length log) h room
        (subst (λ (to : ℕ). Spells both more p.first h to) all_read
        (spells_longer log (log_bytes events) limit more p.first limits p.spells))
        (tail_spells (size events) (le_refl _))

    both_played : Played both more answer o (whole o h preferred)
    both_played =
        record {
          openable = p.openable;
          first = p.first;
          opens = found_longer log (log_bytes events) _ p.first p.opens;
          spells = both_spell;
          accepted = all_accepted;
          fits = c.fits;
          settlement = c.ends;
          count = ap (λ (n : ℕ). n + size events) p.count ∙ sym (size_followed h events);
          within_limit = rw (size_followed h events) room;
          stopped = all_taken (rw length-drop (omega arith));
          nothing_left = (λ z. le_refl _, λ l. refl);
          limit_reached = (λ z. absurd (omega arith), λ l. let never = l.0 in absurd (omega arith));
          in_ranges = demands.in_ranges o p.openable (whole o h preferred) c.fits;
          demand2 = demands.demand2 o p.openable (whole o h preferred) c.fits;
          demand3 = c.demand3;
        }

-- ---- the whole

module _ (closes : (o : Opening) → Openable o → (h : History) → ClaimsFit h → (preferred : Bool) → Closes o h preferred) where
  -- The limit does not fall: RUN passes over a note only below its limit, and where the log ends in one, with no event behind it, room for the events
  -- alone would not do.
  pub on_logs : (log : List ℕ) (limit : ℕ) → InBytes log → (ran log limit).status ≡ 0 → (preferred : Bool) (more : ℕ) → limit ≤ more
      → (ran log limit).events + size (closing (ran log limit).settlement preferred).events ≤ more → PlaysOn log limit preferred more
  on_logs log limit bytes zero preferred more limits enough = go (log_demand.holds log limit bytes)
    where
      behind : (o : Opening) (h : History) → Played log limit (ran log limit) o h → Closes o h preferred → PlaysOn log limit preferred more
      behind o h p c =
          let same : (ran log limit).settlement ≡ record_after o h = p.settlement in
          let room = rw same at enough in
          record {
            spells = rw same (tail_spells log limit preferred o h p zero c more (omega arith));
            plays = rw same (sym (log_demand.only _ more _
                (inr (o, whole o h preferred, both_played log limit preferred o h p zero c more limits room))));
            numbers = rw same c.numbers;
            short = rw same c.short;
          }

      go : RunTold log limit (ran log limit) → PlaysOn log limit preferred more
      go (inl u) = absurd (u.refused zero)
      go (inr x) = behind x.0 x.1 x.2 (closes x.0 x.2.openable x.1 x.2.fits preferred)
