-- ANSWER on a record, test by test. The bit that stands is accepted, and both entries are stored again as they were. Assumes nothing.
use Prim.Native.Nat.{ℕ, ◌≤◌, ◌<◌}
use mathlib.Core.Path.{◌≡◌, refl, ◌∙◌, ap}
use mathlib.Core.Bool.{Bool, true, false, cond}
use lib.Dec.{eqb}
use borrow.Author.Tests.{eqb-false, lt-ltb, le-ltb}
use Rattle.basics.specs.Tests.{first_met}
use Rattle.basics.proofs.Refusals.{refused_not}
use Rattle.consensus.specs.Events.{Event, answer}
use Rattle.consensus.specs.Rules.{as_bit}
use Rattle.entry.specs.declared.entry.Ballot.{Ballot}
use Rattle.entry.specs.Entries.{ballots, was_cast, answering}
use Rattle.event.specs.Change.{own_after, ballot_after}
use Rattle.event.proofs.Kept.{repeat_stays}
use Rattle.settlement.specs.declared.record.Settlement.{Settlement}
use Rattle.settlement.specs.Record.{ballot, with_ballot, view}
use Rattle.settlement.specs.Fault.{fault}
use Rattle.settlement.specs.Events.{number, outcome, effect, played}
use Rattle.settlement.specs.Laws.{HasAnswer}
use Rattle.settlement.proofs.Refusals.{refused_outcome, accepted_outcome}
use Rattle.settlement.proofs.Stays.{ballot_again, station_again}

-- ---- its number

module _ (r : Settlement) (passes : fault r ≡ false) where
  numbered_9 : (b a : ℕ) → ballots r.count r.rule ≤ b → number r (answer b a) ≡ 9
  unfolding number first_met
  numbered_9 b a l = rw (passes, le-ltb b _ l)

  module _ (b : ℕ) (below : b < ballots r.count r.rule) where
    numbered_10 : (a : ℕ) → 1 < a → number r (answer b a) ≡ 10
    unfolding number first_met
    numbered_10 a l = rw (passes, lt-ltb b _ below, lt-ltb 1 a l)

    numbered_11 : (x : Bool) → HasAnswer r b x → number r (answer b (cond x 0 1)) ≡ 11
    unfolding number first_met
    numbered_11 true h = rw (passes, lt-ltb b _ below, h.0, h.1)
    numbered_11 false h = rw (passes, lt-ltb b _ below, h.0, h.1)

    numbered_12 : (x : Bool) → (ballot r b).answered ≡ false → was_cast (ballot r b) x ≡ false → number r (answer b (cond x 1 0)) ≡ 12
    unfolding number first_met
    numbered_12 true h c = rw (passes, lt-ltb b _ below, h, c)
    numbered_12 false h c = rw (passes, lt-ltb b _ below, h, c)

    accepted : (x : Bool) → HasAnswer r b x → number r (answer b (cond x 1 0)) ≡ 0
    unfolding number first_met
    accepted true h = rw (passes, lt-ltb b _ below, h.0, h.1)
    accepted false h = rw (passes, lt-ltb b _ below, h.0, h.1)

    accepted_first : (x : Bool) → (ballot r b).answered ≡ false → was_cast (ballot r b) x ≡ true → number r (answer b (cond x 1 0)) ≡ 0
    unfolding number first_met
    accepted_first true h c = rw (passes, lt-ltb b _ below, h, c)
    accepted_first false h c = rw (passes, lt-ltb b _ below, h, c)

-- ---- the record after it

refused : (r : Settlement) (e : Event) (k : ℕ) → eqb k 0 ≡ false → number r e ≡ k → played r e ≡ record { number = k; settlement = r }
unfolding played
refused r e k n q = ap (λ (j : ℕ). outcome j (effect r e) r) q ∙ refused_outcome k (effect r e) r (eqb-false k 0 n)

advanced : (r r' : Settlement) (e : Event) → number r e ≡ 0 → effect r e ≡ r' → played r e ≡ record { number = 0; settlement = r' }
unfolding played
advanced r r' e q next =
    ap (λ (j : ℕ). outcome j (effect r e) r) q ∙ accepted_outcome 0 (effect r e) r refl ∙ ap (λ (x : Settlement). record { number = 0; settlement = x }) next

-- the first station's entry is stored again, whatever the bit
answer_stored : (r : Settlement) (b a : ℕ) → effect r (answer b a) ≡ with_ballot b (answering (as_bit a) (ballot r b)) r
unfolding effect own_after ballot_after
answer_stored r b a = ap (with_ballot b (answering (as_bit a) (ballot r b))) (station_again 0 r)

-- and where an answer stands, so is the ballot's
same_record : (r : Settlement) (b a : ℕ) → (ballot r b).answered ≡ true → number r (answer b a) ≡ 0 → effect r (answer b a) ≡ r
unfolding number first_met ballot_after
same_record r b a h e =
    answer_stored r b a
    ∙ ap (λ (t : Ballot). with_ballot b t r) (repeat_stays (view r (answer b a)) b a h (refused_not (fault r) 42 _ refl e).1).1
    ∙ ballot_again b r

pub again : (r : Settlement) (b a : ℕ) → (ballot r b).answered ≡ true → number r (answer b a) ≡ 0 → played r (answer b a) ≡ record { number = 0; settlement = r }
again r b a h e = advanced r r (answer b a) e (same_record r b a h e)

one_bit : (x : Bool) → as_bit (cond x 1 0) ≡ x
one_bit true = refl
one_bit false = refl

-- ---- ANSWER, whole

module _ (r : Settlement) (passes : fault r ≡ false) where
  pub none_9 : (b a : ℕ) → ballots r.count r.rule ≤ b → played r (answer b a) ≡ record { number = 9; settlement = r }
  none_9 b a l = refused r (answer b a) 9 refl (numbered_9 r passes b a l)

  module _ (b : ℕ) (below : b < ballots r.count r.rule) where
    pub above_10 : (a : ℕ) → 1 < a → played r (answer b a) ≡ record { number = 10; settlement = r }
    above_10 a l = refused r (answer b a) 10 refl (numbered_10 r passes b below a l)

    pub other_11 : (x : Bool) → HasAnswer r b x → played r (answer b (cond x 0 1)) ≡ record { number = 11; settlement = r }
    other_11 x h = refused r (answer b (cond x 0 1)) 11 refl (numbered_11 r passes b below x h)

    pub nobody_12 : (x : Bool) → (ballot r b).answered ≡ false → was_cast (ballot r b) x ≡ false
        → played r (answer b (cond x 1 0)) ≡ record { number = 12; settlement = r }
    nobody_12 x h c = refused r (answer b (cond x 1 0)) 12 refl (numbered_12 r passes b below x h c)

    pub first_0 : (x : Bool) → (ballot r b).answered ≡ false → was_cast (ballot r b) x ≡ true
        → played r (answer b (cond x 1 0)) ≡ record { number = 0; settlement = with_ballot b (answering x (ballot r b)) r }
    first_0 x h c =
        advanced r _ (answer b (cond x 1 0)) (accepted_first r passes b below x h c)
        (answer_stored r b (cond x 1 0) ∙ ap (λ (y : Bool). with_ballot b (answering y (ballot r b)) r) (one_bit x))

    pub stands_again : (x : Bool) → HasAnswer r b x → played r (answer b (cond x 1 0)) ≡ record { number = 0; settlement = r }
    stands_again x h = again r b (cond x 1 0) h.0 (accepted r passes b below x h)
