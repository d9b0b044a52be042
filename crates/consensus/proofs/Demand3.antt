-- Demand 3 about the play: each clause follows from the file that is about it. The supplied steps can be counted, since a finite list tells of each
-- whether it was supplied. Assumes nothing.
use Prim.Native.Nat.{ℕ, suc}
use mathlib.Core.Path.{◌≡◌, refl, sym, subst, ◌∙◌, ap}
use mathlib.Core.Logic.{inl, inr, ⊎_elim, ◌↔◌}
use mathlib.Core.Bool.{Bool, true, false, not, ◌&&◌}
use mathlib.Core.Option.{Option, none, some, none-ne-some, some-injective}
use native.Mathlib.Omega.{arith}
use Rattle.bits.specs.Digits.{bit, bit_length, binary_digits, digits_in}
use Rattle.bits.specs.Words.{with_bit, low_agree}
use Rattle.bits.specs.Log.{ceil_log2, least_from}
use Rattle.consensus.specs.Events.{Event, History, start, ◌▷◌, Rule, rule_1, rule_2, Opening, rounds}
use Rattle.consensus.specs.State.{State, held, answered, update}
use Rattle.consensus.specs.Rules.{is_bit, as_bit, stage_number, number, step_from, effect, next, after}
use Rattle.basics.specs.Below.{any_below}
use Rattle.consensus.specs.Terms.{takes, waits_on, longest, Supplied, TakesSupplied, SuppliedSteps}
use Rattle.consensus.specs.Told.{SuppliedIn, Told}
use Rattle.consensus.specs.Demand3.{most_steps, Demand3, No42}
use Rattle.consensus.specs.Examples.{opening, lone_by_station, lone_of_three, lone_by_claim, lone_two_bits, with_repeats, beside_a_lost_claim, lacking_a_held_claim, MeetsBound, BoundsMet}
use Rattle.basics.proofs.Bools.{by_bool, no_clash, and_true, not_false→true, beq_same}
use Rattle.basics.proofs.Below.{any_found, any_none, any_true}
use Rattle.consensus.proofs.Reached.{reached}
use Rattle.consensus.proofs.Beginnings.{beginning_followed, followed_beginning, fit_claims, claims_fit}
use Rattle.consensus.proofs.Listed.{voted_told, took_told}
use Rattle.consensus.proofs.Accepted.{put_in_shown, holds_shown, lost_shown, answered_shown, repeats_shown}
use Rattle.consensus.proofs.Told.{first_answer_shown, waits_shown, decided_shown, shown_decided}
use Rattle.consensus.proofs.Longest.{fit_beginning, put_longest, longest_put}
use Rattle.consensus.proofs.Agree.{agreement, validity, answered as all_answered, cost_by}
use Rattle.consensus.proofs.Supplied.{bound}
use Rattle.consensus.proofs.Never.{never_refused, no_42}

-- ---- whether a station is supplied can be told, so its supplied steps can be counted

module _ (o : Opening) (p : ℕ) (h : History) where
  abbrev st : State
  st = after o h

  -- s holds a claim of t that p lacks
  lacks : ℕ → ℕ → Bool
  lacks s t = held st s t && not (held st p t)

  own_told : Dec (held st p p ≡ true)
  own_told = by_bool (held st p p) (λ e. yes e) (λ e. no (λ f. no_clash _ f e))

  all_told : Dec ((s t : ℕ) → held st s t ≡ true → held st p t ≡ true)
  unfolding lacks
  all_told = by_bool (any_below o.count (λ s. any_below o.count (lacks s))) (λ e. no (missing e)) (λ e. yes (λ s t x. none_missing e s t x))
    where
      missing : any_below o.count (λ s. any_below o.count (lacks s)) ≡ true → ((s t : ℕ) → held st s t ≡ true → held st p t ≡ true) → ⊥
      missing e f =
          let s = any_found o.count _ e in
          let t = any_found o.count _ s.2 in
          let both = and_true (held st s.0 t.0) (not (held st p t.0)) t.2 in
          no_clash (held st p t.0) (f s.0 t.0 both.0) (not_of (held st p t.0) both.1)
        where
          not_of : (b : Bool) → not b ≡ true → b ≡ false
          not_of true e = sym e
          not_of false e = refl

      none_missing : any_below o.count (λ s. any_below o.count (lacks s)) ≡ false → (s t : ℕ) → held st s t ≡ true → held st p t ≡ true
      none_missing e s t x =
          let b = ((reached o h).parts s).holdings t x in
          not_false→true _
          (subst (λ (y : Bool). (y && not (held st p t)) ≡ false) x (any_none o.count (lacks s) (any_none o.count _ e s b.0) t b.1))

  abbrev AnsweredIf : Option ℕ → Type 0
  AnsweredIf w = (b : ℕ) → w ≡ some b → answered (st.answer_of b) ≡ true

  answers_told : (w : Option ℕ) → Dec (AnsweredIf w)
  answers_told none = yes (λ b e. absurd (none-ne-some b e))
  answers_told (some c) =
      by_bool (answered (st.answer_of c))
      (λ e. yes (λ b q. subst (λ (i : ℕ). answered (st.answer_of i) ≡ true) (some-injective c b q) e))
      (λ e. no (λ f. no_clash _ (f c refl) e))

  supplied_of : held st p p ≡ true → ((s t : ℕ) → held st s t ≡ true → held st p t ≡ true) → AnsweredIf (waits_on o p h) → Supplied o p h
  supplied_of a b c = record {
    own = (holds_shown o p p h).1 a;
    all = λ s t x. (holds_shown o p t h).1 (b s t ((holds_shown o s t h).0 x));
    answers = λ i e. (answered_shown o i h).1 (c i e);
  }

  supplied_told : Dec (Supplied o p h)
  supplied_told = go own_told all_told (answers_told (waits_on o p h))
    where
      go : Dec (held st p p ≡ true) → Dec ((s t : ℕ) → held st s t ≡ true → held st p t ≡ true) → Dec (AnsweredIf (waits_on o p h))
          → Dec (Supplied o p h)
      go (yes a) (yes b) (yes c) = yes (supplied_of a b c)
      go (no f) b c = no (λ s. f ((holds_shown o p p h).0 s.own))
      go (yes a) (no f) c = no (λ s. f (λ i t x. (holds_shown o p t h).0 (s.all i t ((holds_shown o i t h).1 x))))
      go (yes a) (yes b) (no f) = no (λ s. f (λ i e. (answered_shown o i h).0 (s.answers i e)))

  -- what the state shows, both ways
  pub supplied_shown : Supplied o p h ↔ SuppliedIn o st p
  supplied_shown = (
    λ s. (
      (holds_shown o p p h).0 s.own,
      λ i t x. (holds_shown o p t h).0 (s.all i t ((holds_shown o i t h).1 x)),
      λ b w. (answered_shown o b h).0 (s.answers b (waits_shown o p h ∙ w)),
    ),
    λ x. supplied_of x.0 x.1 (λ b w. x.2 b (sym (waits_shown o p h) ∙ w)),
  )

  takes_told : (e : Event) → Dec (TakesSupplied o p h e)
  takes_told e = by_bool (takes o p h e) (λ t. go t supplied_told) (λ t. no (λ x. no_clash _ x.0 t))
    where
      go : takes o p h e ≡ true → Dec (Supplied o p h) → Dec (TakesSupplied o p h e)
      go t (yes s) = yes (t, s)
      go t (no f) = no (λ x. f x.1)

  one_more : (e : Event) → Dec (TakesSupplied o p h e) → (m : ℕ) × SuppliedSteps o p m h → (m : ℕ) × SuppliedSteps o p m (h ▷ e)
  one_more e (yes t) x = (suc x.0, inl (t, (x.0, refl, x.1)))
  one_more e (no f) x = (x.0, inr (f, x.1))

pub counted : (o : Opening) (h : History) (p : ℕ) → (m : ℕ) × SuppliedSteps o p m h
counted o start p = (0, refl)
counted o (h ▷ e) p = one_more o p h e (takes_told o p h e) (counted o h p)

-- and a list has one such count
pub counted_once : (o : Opening) (h : History) (p m m' : ℕ) → SuppliedSteps o p m h → SuppliedSteps o p m' h → m ≡ m'
counted_once o start p m m' a b = a ∙ sym b
counted_once o (h ▷ e) p m m' (inl a) (inl b) =
    a.1.1 ∙ ap suc (counted_once o h p a.1.0 b.1.0 a.1.2 b.1.2) ∙ sym b.1.1
counted_once o (h ▷ e) p m m' (inl a) (inr b) = absurd (b.0 a.0)
counted_once o (h ▷ e) p m m' (inr a) (inl b) = absurd (a.0 b.0)
counted_once o (h ▷ e) p m m' (inr a) (inr b) = counted_once o h p m m' a.1 b.1

-- ---- the words

pub told : Told
told = record {
  words = λ o h. record {
    put_in = λ s v. put_in_shown o s v h;
    holds = λ s t. holds_shown o s t h;
    lost = λ s. lost_shown o s h;
    is_answered = λ b. answered_shown o b h;
    first = first_answer_shown o h;
    repeats = λ b a. repeats_shown o b a h;
    sent = λ b a x.
        let v = (reached o h).answers b _ ((repeats_shown o b a h).0 x).1 in
        any_true o.count (λ s. is_bit (as_bit a) (((after o h).station s).cast b)) v.0 v.1 (ap (is_bit (as_bit a)) v.2 ∙ beq_same (as_bit a));
    waits = λ p. waits_shown o p h;
    voted = λ p. voted_told o p h;
    took = λ p. took_told o p h;
    has_decided = λ p v. (decided_shown o p v h, shown_decided o p v h);
    none_longer = λ s v a. put_longest o s v h a;
    as_long = longest_put o h;
    is_supplied = λ p. supplied_shown o p h;
    counts_steps = λ p m e t.
        (⊎_elim (λ x. no_clash (takes o p h e) x.0.0 t) (λ x. x.1), λ x. inr (λ s. no_clash (takes o p h e) s.0 t, x));
  };
  beginnings = λ g h. (beginning_followed g h, λ x. followed_beginning g h x.0 x.1);
  claims = λ h. (fit_claims h, claims_fit h);
}

-- ---- the demand

pub demand3 : Demand3
demand3 = record {
  holds = λ o a h f. record {
    agreement = agreement o h;
    validity = validity o h;
    answered = all_answered o h;
    cost = λ p v d. cost_by o.count o.rule h p v d;
    counted = counted o h;
    counted_once = counted_once o h;
    bound = bound o h;
    never_refused = λ g b. never_refused o g (fit_beginning g h b f);
  };
}

pub no_event_42 : No42
no_event_42 = record { holds = λ o h f e. no_42 o h f e }

-- ---- the bounds are met: the supplied steps of a lone claimant, counted

module _ (n : ℕ) (r : Rule) (h : History) where
  abbrev o : Opening
  o = opening n r

  -- as many supplied steps as the bound of that list allows, and so many
  abbrev Counts : ℕ → Type 0
  Counts m = ((counted o h 0).0 ≡ m) × (most_steps r n (rounds o) (longest o h) ≡ m)

  counted_as : (m : ℕ) → (counted o h 0).0 ≡ m → SuppliedSteps o 0 m h
  counted_as m e = subst (λ (k : ℕ). SuppliedSteps o 0 k h) e (counted o h 0).1

  meets : (m : ℕ) → Counts m → MeetsBound n r h m
  meets m e = record {
    taken = counted_as _ (e.0 ∙ sym e.1);
    most = e.1;
    no_fewer = λ i l s. let same = counted_once o h 0 i m s (counted_as m e.0) in omega arith;
  }

counts : Counts 2 rule_1 lone_by_station 5 × Counts 3 rule_1 lone_of_three 11 × Counts 1 rule_2 lone_by_claim 6 × Counts 3 rule_2 lone_two_bits 15
    × Counts 2 rule_1 with_repeats 5
unfolding counted one_more takes_told supplied_told own_told all_told answers_told lacks by_bool waits_on longest bit_length bit binary_digits digits_in with_bit low_agree ceil_log2 least_from update any_below stage_number number step_from effect next after
counts = ((refl, refl), (refl, refl), (refl, refl), (refl, refl), (refl, refl))

held_or_not : ((counted (opening 2 rule_1) beside_a_lost_claim 0).0 ≡ 5) × ((counted (opening 2 rule_1) lacking_a_held_claim 0).0 ≡ 0)
unfolding counted one_more takes_told supplied_told own_told all_told answers_told lacks by_bool waits_on bit binary_digits digits_in with_bit low_agree ceil_log2 least_from update any_below stage_number number step_from effect next after
held_or_not = (refl, refl)

pub bounds_met : BoundsMet
bounds_met = record {
  by_station = meets 2 rule_1 lone_by_station 5 counts.0;
  by_station_3 = meets 3 rule_1 lone_of_three 11 counts.1;
  by_claim = meets 1 rule_2 lone_by_claim 6 counts.2;
  by_claim_3 = meets 3 rule_2 lone_two_bits 15 counts.3;
  repeats_between = meets 2 rule_1 with_repeats 5 counts.4;
  nobody_holds = counted_as 2 rule_1 beside_a_lost_claim 5 held_or_not.0;
  somebody_holds = counted_as 2 rule_1 lacking_a_held_claim 0 held_or_not.1;
}
