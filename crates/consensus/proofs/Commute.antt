-- Two events of different owners, both accepted: each stays accepted after the other, and both orders end in the same state. Each changes one station's part
-- or one ballot's answer; what it reads of others is there already, and what all can see only grows. Assumes nothing.
use Prim.Native.Nat.{ℕ, suc, ◌+◌, ◌%◌, ◌<◌, ◌≤◌}
use mathlib.Core.Path.{◌≡◌, refl, sym, subst, ◌∙◌, ap, ap₂, fun_ext}
use mathlib.Core.Logic.{◌⊎◌, inl, inr}
use mathlib.Core.Bool.{Bool, true, false, cond, not, ◌||◌}
use mathlib.Core.Option.{Option, none, some}
use lib.Dec.{eqb}
use borrow.Author.Tests.{eqb-true, lt-ltb, le-ltb}
use Rattle.bits.specs.Digits.{bit}
use Rattle.bits.specs.Words.{with_bit}
use Rattle.basics.specs.Tests.{refuse}
use Rattle.basics.proofs.Bools.{by_bool, no_clash, not_false→true, beq_same}
use Rattle.basics.proofs.Refusals.{refused_not}
use Rattle.basics.proofs.Below.{any_true}
use Rattle.consensus.specs.Events.{Event, claim, deliver, step, lose, answer, Rule, rule_1, rule_2, Opening, rounds, ballots}
use Rattle.consensus.specs.State.{Stage, idle, waiting, voting, awaiting, seeking, finish_voting, finish_awaiting, decided, Station, State, not_idle, claimed, held, answered, bit_of, update, set_station, with_stage}
use Rattle.consensus.specs.Rules.{bit_ballot, finish_ballot, is_bit, was_cast, as_bit, no_station, last_refusal, stage_number, number, stage_after_seek, sought, finished, casting, step_from, claiming, holding, losing, effect, next}
use Rattle.consensus.specs.Owners.{owner, Apart}
use Rattle.consensus.proofs.Basics.{update_ind, update_other}
use Rattle.consensus.proofs.Invariant.{Inv, StageOk}
use Rattle.consensus.proofs.Grows.{Grows, spelled_grows}
use Rattle.consensus.proofs.Reached.{deliver_accepted, step_accepted, Stands, AnswerFirst, answer_accepted, again_accepted, next_kept}
use Rattle.consensus.proofs.Station.{next_accepted}

-- ---- what an accepted event changes: one station's part, or one ballot's answer

data Change : Type 0 where
  part : ℕ → Station → Change
  told : ℕ → Bool → Change

abbrev changed : State → Change → State
changed st (part s p) = set_station st s p
changed st (told b x) = record { station = st.station; answer_of = update st.answer_of b (some x) }

abbrev change : Opening → State → Event → Change
change o st (claim s v) = part s (claiming v (st.station s))
change o st (deliver t s) = part s (holding t (st.station s))
change o st (step s) = part s (step_from o st s (st.station s).stage (st.station s))
change o st (lose s) = part s (losing (st.station s))
change o st (answer b a) = told b (as_bit a)

effect_is : (o : Opening) (st : State) (e : Event) → effect o st e ≡ changed st (change o st e)
unfolding effect
effect_is o st (claim s v) = refl
effect_is o st (deliver t s) = refl
effect_is o st (step s) = refl
effect_is o st (lose s) = refl
effect_is o st (answer b a) = refl

-- ---- two changes of different things, or of one answer to the same bit, in either order

abbrev Separate : Change → Change → Type 0
Separate (part s p) (part t q) = s ≡ t → ⊥
Separate (part s p) (told b x) = Unit {0}
Separate (told b x) (part s p) = Unit {0}
Separate (told b x) (told c y) = b ≡ c → x ≡ y

update_twice : {A : Type 0} (f : ℕ → A) (i : ℕ) (x : A) (j : ℕ) (y : A) → (i ≡ j → x ≡ y) → (k : ℕ)
    → update (update f i x) j y k ≡ update (update f j y) i x k
unfolding update
update_twice f i x j y same k = go (eqb k j) (eqb k i) (λ a b. same (sym (eqb-true k i b) ∙ eqb-true k j a))
  where
    go : (a b : Bool) → (a ≡ true → b ≡ true → x ≡ y) → cond a y (cond b x (f k)) ≡ cond b x (cond a y (f k))
    go true true h = sym (h refl refl)
    go true false h = refl
    go false true h = refl
    go false false h = refl

commute : (st : State) (c d : Change) → Separate c d → changed (changed st c) d ≡ changed (changed st d) c
commute st (part s p) (part t q) ne = λ i. record {
  station = fun_ext (update_twice st.station s p t q (λ e. absurd (ne e))) i;
  answer_of = st.answer_of;
}
commute st (part s p) (told b x) u = refl
commute st (told b x) (part s p) u = refl
commute st (told b x) (told c y) same = λ i. record {
  station = st.station;
  answer_of = fun_ext (update_twice st.answer_of b (some x) c (some y) (λ e. ap (λ (z : Bool). some z) (same e))) i;
}

module _ (o : Opening) (st : State) where
  part_separate : (s : ℕ) (p : Station) (f : Event) → (owner f ≡ some s → ⊥) → Separate (part s p) (change o st f)
  part_separate s p (claim t v) ne = λ q. ne (ap (λ (i : ℕ). some i) (sym q))
  part_separate s p (deliver u t) ne = λ q. ne (ap (λ (i : ℕ). some i) (sym q))
  part_separate s p (step t) ne = λ q. ne (ap (λ (i : ℕ). some i) (sym q))
  part_separate s p (lose t) ne = λ q. ne (ap (λ (i : ℕ). some i) (sym q))
  part_separate s p (answer b a) ne = tt

  told_separate : (b a : ℕ) (f : Event) → ((c : ℕ) → f ≡ answer b c → a ≡ c) → Separate (told b (as_bit a)) (change o st f)
  told_separate b a (claim t v) same = tt
  told_separate b a (deliver u t) same = tt
  told_separate b a (step t) same = tt
  told_separate b a (lose t) same = tt
  told_separate b a (answer d c) same = λ q. ap as_bit (same c (ap (λ (i : ℕ). answer i c) (sym q)))

  separate : (e f : Event) → Apart e f → Separate (change o st e) (change o st f)
  separate (claim s v) f a = part_separate s (claiming v (st.station s)) f (a.owners s refl)
  separate (deliver t s) f a = part_separate s (holding t (st.station s)) f (a.owners s refl)
  separate (step s) f a = part_separate s (step_from o st s (st.station s).stage (st.station s)) f (a.owners s refl)
  separate (lose s) f a = part_separate s (losing (st.station s)) f (a.owners s refl)
  separate (answer b x) f a = told_separate b x f (λ c q. a.bits b x c refl q)

-- ---- what an event reads

-- between the two states the event's station did not change; its ballot's answer did not either, or has become the event's own bit
abbrev Undisturbed : Event → State → State → Type 0
Undisturbed (claim s v) st st' = st'.station s ≡ st.station s
Undisturbed (deliver t s) st st' = st'.station s ≡ st.station s
Undisturbed (step s) st st' = st'.station s ≡ st.station s
Undisturbed (lose s) st st' = st'.station s ≡ st.station s
Undisturbed (answer b a) st st' = (st'.answer_of b ≡ st.answer_of b) ⊎ (st'.answer_of b ≡ some (as_bit a))

undisturbed : (o : Opening) (st : State) (c : Change) (f : Event) → Separate c (change o st f) → Undisturbed f st (changed st c)
undisturbed o st (part s p) (claim t v) ne = update_other st.station s p t (λ q. ne (sym q))
undisturbed o st (part s p) (deliver u t) ne = update_other st.station s p t (λ q. ne (sym q))
undisturbed o st (part s p) (step t) ne = update_other st.station s p t (λ q. ne (sym q))
undisturbed o st (part s p) (lose t) ne = update_other st.station s p t (λ q. ne (sym q))
undisturbed o st (part s p) (answer b a) u = inl refl
undisturbed o st (told b x) (claim t v) u = refl
undisturbed o st (told b x) (deliver s t) u = refl
undisturbed o st (told b x) (step t) u = refl
undisturbed o st (told b x) (lose t) u = refl
undisturbed o st (told b x) (answer c a) same =
    update_ind (λ (y : Option Bool). (y ≡ st.answer_of c) ⊎ (y ≡ some (as_bit a))) st.answer_of b (some x) c
    (λ q. inr (ap (λ (z : Bool). some z) (same (sym q))))
    (λ ne. inl refl)

module _ (o : Opening) (st st' : State) (grows : Grows st st') where
  -- an answer that was there is there
  answer_same : (b : ℕ) → answered (st.answer_of b) ≡ true → st'.answer_of b ≡ st.answer_of b
  answer_same b e = go (st.answer_of b) refl e
    where
      go : (y : Option Bool) → st.answer_of b ≡ y → answered y ≡ true → st'.answer_of b ≡ st.answer_of b
      go none q e = no_clash true refl (sym e)
      go (some a) q e = grows.answers b a q ∙ sym q

  -- a STEP of s, whose own part did not change: what it reads of other stations are claims that s holds, and of ballots an answer that is there
  module _ (s : ℕ) (same : st'.station s ≡ st.station s) (put_in : (t : ℕ) → held st s t ≡ true → claimed st t ≡ true) where
    held_same : (t : ℕ) → held st' s t ≡ held st s t
    held_same t = ap (λ (p : Station). p.holds t) same

    number_same : (g : Stage) → stage_number o st s g ≡ 0 → stage_number o st' s g ≡ stage_number o st s g
    unfolding stage_number
    number_same idle n = refl
    number_same waiting n = ap (λ (b : Bool). refuse (not b) 8 0) (held_same s)
    number_same (voting j k d) n = refl
    number_same (awaiting j k d) n =
        ap (λ (y : Option Bool). refuse (not (answered y)) 8 0) (answer_same _ (not_false→true _ (refused_not _ _ _ refl n).0))
    number_same (seeking j k d) n = refl
    number_same (finish_voting j k d) n = refl
    number_same (finish_awaiting j k d) n =
        ap (λ (y : Option Bool). refuse (not (answered y)) 8 (last_refusal o y (finish_ballot k)))
        (answer_same _ (not_false→true _ (refused_not _ _ _ refl n).0))
    number_same (decided v k) n = refl

    found_same : (r : Rule) (j k d : ℕ) → held st s j ≡ true → stage_after_seek o st' r j k d ≡ stage_after_seek o st r j k d
    found_same rule_1 j k d e =
        ap (λ (v : ℕ). cond (eqb (suc k) (rounds o)) (decided v k) (voting j (suc k) d)) (grows.claims j (put_in j e)).1
    found_same rule_2 j k d e = refl

    sought_same : (j k d : ℕ) → sought o st' s j k d ≡ sought o st s j k d
    sought_same j k d =
        by_bool (held st s j)
        (λ e. rw (held_same j, e, spelled_grows o st st' grows j (put_in j e), found_same o.rule j k d e))
        (λ e. rw (held_same j, e))

    step_same : (g : Stage) (p : Station) → StageOk o st g (st.station s).holds (st.station s).cast → stage_number o st s g ≡ 0
        → step_from o st' s g p ≡ step_from o st s g p
    unfolding stage_number step_from
    step_same idle p ok n = refl
    step_same waiting p ok n = refl
    step_same (voting j k d) p ok n =
        ap (λ (x : ℕ). casting (bit_ballot o k) (bit k x) (awaiting j k d) p) (spelled_grows o st st' grows j (put_in j ok.mine))
    step_same (awaiting j k d) p ok n =
        ap (λ (y : Option Bool). with_stage (seeking j k (with_bit k (bit_of y) d)) p) (answer_same _ (not_false→true _ (refused_not _ _ _ refl n).0))
    step_same (seeking j k d) p ok n = ap (λ (g : Stage). with_stage g p) (sought_same ((j + 1) % o.count) k d)
    step_same (finish_voting j k d) p ok n =
        ap (λ (v : ℕ). casting (finish_ballot k) (eqb d v) (finish_awaiting j k d) p) (grows.claims j (put_in j ok.1.mine)).1
    step_same (finish_awaiting j k d) p ok n =
        ap (λ (y : Option Bool). with_stage (finished (bit_of y) j k d) p) (answer_same _ (not_false→true _ (refused_not _ _ _ refl n).0))
    step_same (decided v k) p ok n = refl

-- the first ANSWER of a ballot is accepted where some station cast its bit
pub first_accepted : (o : Opening) (st : State) (b a : ℕ) → b < ballots o → a ≤ 1 → AnswerFirst o st b a → number o st (answer b a) ≡ 0
unfolding number
first_accepted o st b a l m x =
    let cast : was_cast o st b (as_bit a) ≡ true =
    any_true o.count (λ s. is_bit (as_bit a) ((st.station s).cast b)) x.voter x.below
    (ap (is_bit (as_bit a)) x.was_cast ∙ beq_same (as_bit a)) in
    rw (lt-ltb b (ballots o) l, le-ltb 1 a m, x.unanswered, cast)

module _ (o : Opening) (st st' : State) (inv : Inv o st) (grows : Grows st st') where
  put_in : (s t : ℕ) → held st s t ≡ true → claimed st t ≡ true
  put_in s t e = ((inv.parts s).holdings t e).2

  answer_still : (b a : ℕ) → b < ballots o → a ≤ 1 → Undisturbed (answer b a) st st' → Stands o st b a ⊎ AnswerFirst o st b a
      → number o st' (answer b a) ≡ 0
  answer_still b a l m u (inl x) = again_accepted o st' b a l m (grows.answers b _ x)
  answer_still b a l m (inl q) (inr x) = first_accepted o st' b a l m (record {
    unanswered = q ∙ x.unanswered;
    voter = x.voter;
    below = x.below;
    was_cast = grows.casts _ b _ x.was_cast;
  })
  answer_still b a l m (inr q) (inr x) = again_accepted o st' b a l m q

  -- an accepted event that is not disturbed stays accepted
  still_accepted : (f : Event) → Undisturbed f st st' → number o st f ≡ 0 → number o st' f ≡ 0
  unfolding number
  still_accepted (claim s v) u n =
      ap (λ (p : Station). refuse (no_station o s) 1 (refuse p.lost 2 (refuse (not_idle p.stage) 3 0))) u ∙ n
  still_accepted (deliver t s) u n =
      let c = (deliver_accepted o st t s n).put_in in
      ap₂ (λ (p : Station) (b : Bool). refuse (no_station o t || no_station o s) 1 (refuse p.lost 2 (refuse (not b) 4 (refuse (p.holds t) 5 0)))) u
      ((grows.claims t c).0 ∙ sym c)
      ∙ n
  still_accepted (step s) u n =
      ap (λ (p : Station). refuse (no_station o s) 1 (refuse p.lost 2 (stage_number o st' s p.stage))) u
      ∙ ap (λ (m : ℕ). refuse (no_station o s) 1 (refuse (st.station s).lost 2 m))
      (number_same o st st' grows s u (put_in s) (st.station s).stage (step_accepted o st s n).stage)
      ∙ n
  still_accepted (lose s) u n = ap (λ (p : Station). refuse (no_station o s) 1 (refuse p.lost 2 0)) u ∙ n
  still_accepted (answer b a) u n = let x = answer_accepted o st b a n in answer_still b a x.ballot x.bit u x.how

  -- and makes the same change
  same_change : (f : Event) → Undisturbed f st st' → number o st f ≡ 0 → change o st' f ≡ change o st f
  same_change (claim s v) u n = ap (λ (p : Station). part s (claiming v p)) u
  same_change (deliver t s) u n = ap (λ (p : Station). part s (holding t p)) u
  same_change (step s) u n =
      ap (λ (p : Station). part s (step_from o st' s p.stage p)) u
      ∙ ap (part s)
      (step_same o st st' grows s u (put_in s) (st.station s).stage (st.station s) (inv.parts s).stage (step_accepted o st s n).stage)
  same_change (lose s) u n = ap (λ (p : Station). part s (losing p)) u
  same_change (answer b a) u n = refl

-- ---- two events

pub apart_sym : (e f : Event) → Apart e f → Apart f e
apart_sym e f a = record { owners = λ s p q. a.owners s q p; bits = λ b x y p q. sym (a.bits b y x q p) }

module _ (o : Opening) (st : State) (inv : Inv o st) where
  left_by : (e : Event) → number o st e ≡ 0 → next o st e ≡ changed st (change o st e)
  left_by e m = next_accepted o st e m ∙ effect_is o st e

  spared : (e f : Event) → Apart e f → number o st e ≡ 0 → Undisturbed f st (next o st e)
  spared e f a m = subst (Undisturbed f st) (sym (left_by e m)) (undisturbed o st (change o st e) f (separate o st e f a))

  -- f is still accepted after e
  pub stays_accepted : (e f : Event) → Apart e f → number o st e ≡ 0 → number o st f ≡ 0 → number o (next o st e) f ≡ 0
  stays_accepted e f a m n = still_accepted o st (next o st e) inv (next_kept o st inv e).grows f (spared e f a m) n

  both : (e f : Event) → Apart e f → number o st e ≡ 0 → number o st f ≡ 0
      → next o (next o st e) f ≡ changed (changed st (change o st e)) (change o st f)
  both e f a m n =
      next_accepted o (next o st e) f (stays_accepted e f a m n)
      ∙ effect_is o (next o st e) f
      ∙ ap₂ changed (left_by e m) (same_change o st (next o st e) inv (next_kept o st inv e).grows f (spared e f a m) n)

  -- and the order does not matter
  pub either_way : (e f : Event) → Apart e f → number o st e ≡ 0 → number o st f ≡ 0 → next o (next o st e) f ≡ next o (next o st f) e
  either_way e f a m n =
      both e f a m n ∙ commute st (change o st e) (change o st f) (separate o st e f a) ∙ sym (both f e (apart_sym e f a) n m)
