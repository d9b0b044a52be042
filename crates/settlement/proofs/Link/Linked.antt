-- What ties a record to a play's state: it shows the state, its arrays are whole, cursors are stations, and before the first vote round and
-- word are 0. An event that replaces one entry keeps the tie where the new entry shows the station's new part. Assumes nothing.
use Prim.Native.Nat.{ℕ, ◌≤◌, ◌<◌}
use mathlib.Core.Path.{◌≡◌, refl, sym, subst, ◌∙◌, ap}
use mathlib.Core.Bool.{Bool, true, false, not, beq}
use mathlib.Core.Option.{Option, none, some}
use mathlib.Core.List.{List}
use native.Mathlib.Nat.{lt_of_lt_of_le, ne_of_gt}
use lib.Dec.{eqb, ltb}
use lib.ListN.{length, get_or, set, length-set}
use lib.Seq.{get_or-set_same, get_or-set_other}
use Rattle.bits.specs.Words.{mask_bits, member}
use Rattle.bits.proofs.Masks.{member_same, member_other, empty_only, some_member}
use Rattle.consensus.specs.Events.{Opening, Openable}
use Rattle.consensus.specs.State as play
use Rattle.consensus.specs.Rules as rules
use Rattle.consensus.specs.Rules.{is_bit}
use Rattle.basics.specs.Below.{any_below}
use borrow.Author.Tests.{eqb-true, eqb-false, ltb-true, ltb-false}
use Rattle.consensus.proofs.Basics.{update_ind, update_same, update_other}
use Rattle.basics.proofs.Bools.{by_bool, no_clash, beq_true}
use Rattle.basics.proofs.Below.{any_found, any_none}
use Rattle.entry.specs.declared.entry.Stage.{Stage}
use Rattle.entry.specs.declared.entry.Stage.TheVariants.{Idle, Waiting, Voting, Awaiting, Seeking, FinishVoting, FinishAwaiting, Decided}
use Rattle.entry.specs.declared.entry.Station.{Station}
use Rattle.entry.specs.declared.entry.Ballot.{Ballot}
use Rattle.settlement.specs.declared.record.Settlement.{Settlement}
use Rattle.entry.specs.Entries.{station_entries, ballot_entries, blank_station, blank_ballot, voters, was_cast, casting, answering}
use Rattle.settlement.specs.Record.{entry, ballot, with_station, with_ballot}
use Rattle.settlement.specs.Link.{rule_number, stands_at, answer_in, ShowsPlay}

-- round and word before the first vote
abbrev pub Early : Stage → (k d : ℕ) → Type 0
Early Idle k d = (k ≡ 0) × (d ≡ 0)
Early Waiting k d = (k ≡ 0) × (d ≡ 0)
Early Voting k d = Unit {0}
Early Awaiting k d = Unit {0}
Early Seeking k d = Unit {0}
Early FinishVoting k d = Unit {0}
Early FinishAwaiting k d = Unit {0}
Early Decided k d = Unit {0}

-- an entry beside the station's part that it shows
pub record EntryShows (n : ℕ) (t : Station) (p : play.Station) : Type 0 where
  pub stage : stands_at t ≡ p.stage
  pub claim : t.claim ≡ p.own_claim
  pub holds : (i : ℕ) → member i t.held ≡ p.holds i
  pub lost : t.lost ≡ p.lost
  pub cursor : t.cursor < n
  pub early : Early t.stage t.round t.word

pub record Linked (o : Opening) (r : Settlement) (st : play.State) : Type 0 where
  pub count : r.count ≡ o.count
  pub rule : r.rule ≡ rule_number o.rule
  pub stations : length r.stations ≡ station_entries
  pub ballots : length r.ballots ≡ ballot_entries
  pub entries : (s : ℕ) → s < o.count → EntryShows o.count (entry r s) (st.station s)
  pub answer : (b : ℕ) → answer_in (ballot r b) ≡ st.answer_of b
  pub cast : (b s : ℕ) (a : Bool) → s < o.count → member s (voters (ballot r b) a) ≡ is_bit a ((st.station s).cast b)
  pub cast_only : (b s : ℕ) (a : Bool) → o.count ≤ s → member s (voters (ballot r b) a) ≡ false

pub linked_shows : (o : Opening) (r : Settlement) (st : play.State) → Linked o r st → ShowsPlay o r st
linked_shows o r st l = record {
  count = l.count;
  rule = l.rule;
  stage = λ s b. (l.entries s b).stage;
  claim = λ s b. (l.entries s b).claim;
  holds = λ s t b. (l.entries s b).holds t;
  lost = λ s b. (l.entries s b).lost;
  answer = l.answer;
  cast = l.cast;
  cast_only = l.cast_only;
}

-- a bit counts as cast where some station cast it
pub cast_some : (o : Opening) (r : Settlement) (st : play.State) → Linked o r st → (b : ℕ) (a : Bool) → was_cast (ballot r b) a ≡ rules.was_cast o st b a
cast_some o r st l b a = by_bool (any_below o.count f) some_voter nobody
  where
    f : ℕ → Bool
    f s = is_bit a ((st.station s).cast b)

    some_voter : any_below o.count f ≡ true → was_cast (ballot r b) a ≡ any_below o.count f
    some_voter e =
        let t = any_found o.count f e in
        ap not (some_member t.0 (voters (ballot r b) a) (l.cast b t.0 a t.1 ∙ t.2)) ∙ sym e

    nobody : any_below o.count f ≡ false → was_cast (ballot r b) a ≡ any_below o.count f
    nobody e =
        ap (λ (m : ℕ). not (eqb m 0))
        (empty_only (voters (ballot r b) a) (λ s.
        by_bool (ltb s o.count)
        (λ q. let below = ltb-true s o.count q in l.cast b s a below ∙ any_none o.count f e s below)
        (λ q. l.cast_only b s a (ltb-false s o.count q))))
        ∙ sym e

-- ---- one entry replaced

-- what stands at j once x stands at i
set_ind : {A : Type 0} (C : A → Type 0) (l : List A) (i : ℕ) (x d : A) (j : ℕ) → i < length l → (j ≡ i → C x)
    → ((j ≡ i → ⊥) → C (get_or l j d)) → C (get_or (set l i x) j d)
set_ind C l i x d j b new old =
    by_bool (eqb j i)
    (λ e.
    let q = eqb-true j i e in
    subst (λ (k : ℕ). C (get_or (set l i x) k d)) (sym q) (subst C (sym (get_or-set_same l i x d b)) (new q)))
    (λ e. let ne = eqb-false j i e in subst C (sym (get_or-set_other l i j x d ne)) (old ne))

pub entry_ind : (C : Station → Type 0) (r : Settlement) (s : ℕ) (t : Station) (q : ℕ) → s < length r.stations → (q ≡ s → C t)
    → ((q ≡ s → ⊥) → C (entry r q)) → C (entry (with_station s t r) q)
entry_ind C r s t q = set_ind C r.stations s t blank_station q

pub ballot_ind : (C : Ballot → Type 0) (r : Settlement) (b : ℕ) (t : Ballot) (c : ℕ) → b < length r.ballots → (c ≡ b → C t)
    → ((c ≡ b → ⊥) → C (ballot r c)) → C (ballot (with_ballot b t r) c)
ballot_ind C r b t c = set_ind C r.ballots b t blank_ballot c

-- ---- a bit cast

voter_in : (s : ℕ) (v : Bool) (t : Ballot) → s < mask_bits → member s (voters (casting s v t) v) ≡ true
voter_in s true t l = member_same s t.cast1 l
voter_in s false t l = member_same s t.cast0 l

-- nobody is in the other set for it, and nobody else in either
other_set : (s q : ℕ) (v y : Bool) (t : Ballot) → beq v y ≡ false → member q (voters (casting s v t) y) ≡ member q (voters t y)
other_set s q true true t e = no_clash true refl e
other_set s q true false t e = refl
other_set s q false true t e = refl
other_set s q false false t e = no_clash true refl e

nobody_else : (s q : ℕ) (v y : Bool) (t : Ballot) → (q ≡ s → ⊥) → member q (voters (casting s v t) y) ≡ member q (voters t y)
nobody_else s q true true t ne = member_other q s t.cast1 ne
nobody_else s q true false t ne = refl
nobody_else s q false true t ne = refl
nobody_else s q false false t ne = member_other q s t.cast0 ne

module _ (o : Opening) (a : Openable o) (r : Settlement) (st : play.State) (l : Linked o r st) where
  station_inside : (s : ℕ) → s < o.count → s < length r.stations
  station_inside s b = subst (λ (x : ℕ). s < x) (sym l.stations) (lt_of_lt_of_le b a.not_too_many)

  ballot_inside : (b : ℕ) → b < ballot_entries → b < length r.ballots
  ballot_inside b i = subst (λ (x : ℕ). b < x) (sym l.ballots) i

  -- an entry replaced, with the casts as they were
  pub own_linked : (s : ℕ) → s < o.count → (t : Station) (p : play.Station) → EntryShows o.count t p → p.cast ≡ (st.station s).cast
      → Linked o (with_station s t r) (play.set_station st s p)
  own_linked s b t p x same = record {
    count = l.count;
    rule = l.rule;
    stations = length-set r.stations s t ∙ l.stations;
    ballots = l.ballots;
    entries = λ q c.
        update_ind (EntryShows o.count (entry (with_station s t r) q)) st.station s p q
        (λ i. entry_ind (λ (y : Station). EntryShows o.count y p) r s t q (station_inside s b) (λ j. x) (λ ne. absurd (ne i)))
        (λ ne. entry_ind (λ (y : Station). EntryShows o.count y (st.station q)) r s t q (station_inside s b) (λ i. absurd (ne i)) (λ j. l.entries q c));
    answer = l.answer;
    cast = λ c q y below.
        l.cast c q y below
        ∙ update_ind (λ (z : play.Station). is_bit y ((st.station q).cast c) ≡ is_bit y (z.cast c)) st.station s p q
        (λ i. ap (λ (f : ℕ → Option Bool). is_bit y (f c)) (ap (λ (j : ℕ). (st.station j).cast) i ∙ sym same))
        (λ ne. refl);
    cast_only = l.cast_only;
  }

  -- an entry replaced and a bit cast, in a ballot that the station has not voted in
  pub vote_linked : (s : ℕ) → s < o.count → (t : Station) (p : play.Station) → EntryShows o.count t p → (b : ℕ) → b < ballot_entries → (v : Bool)
      → (st.station s).cast b ≡ none → p.cast ≡ play.update (st.station s).cast b (some v)
      → Linked o (with_ballot b (casting s v (ballot r b)) (with_station s t r)) (play.set_station st s p)
  vote_linked s below t p x b inside v unvoted now = record {
    count = l.count;
    rule = l.rule;
    stations = length-set r.stations s t ∙ l.stations;
    ballots = length-set r.ballots b _ ∙ l.ballots;
    entries = λ q c.
        update_ind (EntryShows o.count (entry (with_station s t r) q)) st.station s p q
        (λ i. entry_ind (λ (y : Station). EntryShows o.count y p) r s t q (station_inside s below) (λ j. x) (λ ne. absurd (ne i)))
        (λ ne. entry_ind (λ (y : Station). EntryShows o.count y (st.station q)) r s t q (station_inside s below) (λ i. absurd (ne i)) (λ j. l.entries q c));
    answer = λ c.
        ballot_ind (λ (y : Ballot). answer_in y ≡ st.answer_of c) r b (casting s v (ballot r b)) c (ballot_inside b inside)
        (λ i. l.answer b ∙ ap st.answer_of (sym i))
        (λ ne. l.answer c);
    cast = λ c q y below.
        ballot_ind (λ (z : Ballot). member q (voters z y) ≡ is_bit y ((play.update st.station s p q).cast c)) r b (casting s v (ballot r b)) c
        (ballot_inside b inside)
        (λ i. subst (λ (m : ℕ). member q (voters (casting s v (ballot r b)) y) ≡ is_bit y ((play.update st.station s p q).cast m)) (sym i) (here q y below))
        (λ ne. l.cast c q y below ∙ there c ne y q);
    cast_only = λ c q y past.
        ballot_ind (λ (z : Ballot). member q (voters z y) ≡ false) r b (casting s v (ballot r b)) c (ballot_inside b inside)
        (λ i. nobody_else s q v y (ballot r b) (ne_of_gt (lt_of_lt_of_le below past)) ∙ l.cast_only b q y past)
        (λ ne. l.cast_only c q y past);
  }
    where
      -- in another ballot nothing is cast
      there : (c : ℕ) → (c ≡ b → ⊥) → (y : Bool) (q : ℕ) → is_bit y ((st.station q).cast c) ≡ is_bit y ((play.update st.station s p q).cast c)
      there c ne y q =
          update_ind (λ (z : play.Station). is_bit y ((st.station q).cast c) ≡ is_bit y (z.cast c)) st.station s p q
          (λ i.
          ap (λ (j : ℕ). is_bit y ((st.station j).cast c)) i
          ∙ ap (is_bit y) (sym (ap (λ (f : ℕ → Option Bool). f c) now ∙ update_other (st.station s).cast b (some v) c ne)))
          (λ ne. refl)

      -- the voter cast v here, and nothing else
      its_bit : (y : Bool) → is_bit y ((play.update st.station s p s).cast b) ≡ beq v y
      its_bit y =
          ap (is_bit y)
          (ap (λ (z : play.Station). z.cast b) (update_same st.station s p) ∙ ap (λ (f : ℕ → Option Bool). f b) now ∙ update_same (st.station s).cast b (some v))

      voter : (y : Bool) → member s (voters (casting s v (ballot r b)) y) ≡ beq v y
      voter y =
          by_bool (beq v y)
          (λ e. subst (λ (z : Bool). member s (voters (casting s v (ballot r b)) z) ≡ true) (beq_true v y e) (voter_in s v (ballot r b) (lt_of_lt_of_le below a.not_too_many)) ∙ sym e)
          (λ e. other_set s s v y (ballot r b) e ∙ l.cast b s y below ∙ ap (is_bit y) unvoted ∙ sym e)

      here : (q : ℕ) (y : Bool) → q < o.count → member q (voters (casting s v (ballot r b)) y) ≡ is_bit y ((play.update st.station s p q).cast b)
      here q y in_range =
          by_bool (eqb q s)
          (λ e.
          subst (λ (j : ℕ). member j (voters (casting s v (ballot r b)) y) ≡ is_bit y ((play.update st.station s p j).cast b)) (sym (eqb-true q s e))
          (voter y ∙ sym (its_bit y)))
          (λ e.
          let ne = eqb-false q s e in
          nobody_else s q v y (ballot r b) ne ∙ l.cast b q y in_range
          ∙ sym (ap (λ (z : play.Station). is_bit y (z.cast b)) (update_other st.station s p q ne)))

  -- a ballot answered
  pub answer_linked : (b : ℕ) → b < ballot_entries → (v : Bool)
      → Linked o (with_ballot b (answering v (ballot r b)) r) (record { station = st.station; answer_of = play.update st.answer_of b (some v) })
  answer_linked b inside v = record {
    count = l.count;
    rule = l.rule;
    stations = l.stations;
    ballots = length-set r.ballots b _ ∙ l.ballots;
    entries = l.entries;
    answer = λ c.
        ballot_ind (λ (y : Ballot). answer_in y ≡ play.update st.answer_of b (some v) c) r b (answering v (ballot r b)) c (ballot_inside b inside)
        (λ i. sym (ap (play.update st.answer_of b (some v)) i ∙ update_same st.answer_of b (some v)))
        (λ ne. l.answer c ∙ sym (update_other st.answer_of b (some v) c ne));
    cast = λ c q y below.
        ballot_ind (λ (z : Ballot). member q (voters z y) ≡ is_bit y ((st.station q).cast c)) r b (answering v (ballot r b)) c (ballot_inside b inside)
        (λ i. l.cast b q y below ∙ ap (λ (m : ℕ). is_bit y ((st.station q).cast m)) (sym i))
        (λ ne. l.cast c q y below);
    cast_only = λ c q y past.
        ballot_ind (λ (z : Ballot). member q (voters z y) ≡ false) r b (answering v (ballot r b)) c (ballot_inside b inside)
        (λ i. l.cast_only b q y past)
        (λ ne. l.cast_only c q y past);
  }
