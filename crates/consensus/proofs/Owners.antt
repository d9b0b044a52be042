-- The laws of owners. An event that is accepted now goes past each event of another owner that stands before it, one by one: so it may come first. The other
-- bit of one ballot cannot stand before it, since an answer stays and the event is accepted where it stands. Assumes nothing.
use Prim.Native.Nat.{ℕ, ◌≤◌}
use mathlib.Core.Path.{◌≡◌, refl, sym, subst, ◌∙◌, ap}
use mathlib.Core.Logic.{◌⊎◌, inl, inr}
use mathlib.Core.Bool.{false, beq}
use mathlib.Core.Option.{none-ne-some, some-injective}
use mathlib.Core.List.{List, [], ◌∷◌, ◌++◌}
use borrow.Author.Tests.{lt-ltb, le-ltb}
use Rattle.basics.proofs.Bools.{by_bool, beq_true}
use Rattle.consensus.specs.Events.{Event, answer, Opening, ballots}
use Rattle.consensus.specs.State.{State}
use Rattle.consensus.specs.Rules.{as_bit, number, effect, next, after}
use Rattle.consensus.specs.Told.{Listed}
use Rattle.consensus.specs.Owners.{OtherOwners, played_from, AcceptedWhole, Apart, OwnerLaws, OwnerRows}
use Rattle.consensus.proofs.Basics.{update_same}
use Rattle.consensus.proofs.Invariant.{Inv}
use Rattle.consensus.proofs.Reached.{Stands, AnswerFirst, answer_accepted, next_kept, reached}
use Rattle.consensus.proofs.Station.{next_accepted}
use Rattle.consensus.proofs.Accepted.{one_bit}
use Rattle.consensus.proofs.Commute.{apart_sym, stays_accepted, either_way}

-- ---- answers stay

-- an accepted ANSWER's bit stands
pub now_stands : (o : Opening) (st : State) (b a : ℕ) → number o st (answer b a) ≡ 0 → Stands o (next o st (answer b a)) b a
unfolding effect
now_stands o st b a n = ap (λ (x : State). x.answer_of b) (next_accepted o st (answer b a) n) ∙ update_same st.answer_of b _

-- where a bit stands, an ANSWER that is accepted later is of that bit
pub later_bit : (o : Opening) (l : List Event) (st : State) (b a c : ℕ) (behind : List Event) → Inv o st → c ≤ 1 → Stands o st b c
    → AcceptedWhole o st (l ++ (answer b a ∷ behind)) → a ≡ c
later_bit o [] st b a c behind inv l x w = let y = answer_accepted o st b a w.0 in one_bit a c y.bit l (same y.how)
  where
    same : Stands o st b a ⊎ AnswerFirst o st b a → as_bit a ≡ as_bit c
    same (inl z) = some-injective _ _ (sym z ∙ x)
    same (inr z) = absurd (none-ne-some _ (sym z.unanswered ∙ x))
later_bit o (f ∷ l) st b a c behind inv m x w =
    let k = next_kept o st inv f in later_bit o l (next o st f) b a c behind k.inv m (k.grows.answers b _ x) w.1

pub other_bit : (o : Opening) (st : State) (b a c : ℕ) → number o st (answer b a) ≡ 0 → c ≤ 1 → (a ≡ c → ⊥)
    → number o (next o st (answer b a)) (answer b c) ≡ 11
unfolding number
other_bit o st b a c n l ne =
    let x = answer_accepted o st b a n in
    let differ : beq (as_bit a) (as_bit c) ≡ false =
    by_bool (beq (as_bit a) (as_bit c)) (λ e. absurd (ne (one_bit a c x.bit l (beq_true (as_bit a) (as_bit c) e)))) (λ e. e) in
    rw (lt-ltb b (ballots o) x.ballot, le-ltb 1 c l, now_stands o st b a n, differ)

-- ---- an event accepted now comes first, from any state with the invariant

module _ (o : Opening) where
  pub record First (st : State) (before : List Event) (e : Event) (behind : List Event) : Type 0 where
    pub accepted : AcceptedWhole o st (e ∷ (before ++ behind))
    pub same_state : played_from o st (e ∷ (before ++ behind)) ≡ played_from o st (before ++ (e ∷ behind))

  -- e, which is accepted behind f, is apart from it
  pub apart : (st : State) → Inv o st → (f : Event) (before : List Event) (e : Event) (behind : List Event) → OtherOwners e f
      → AcceptedWhole o st (f ∷ (before ++ (e ∷ behind))) → Apart e f
  apart st inv f before e behind others w = record { owners = others; bits = same }
    where
      same : (b a c : ℕ) → e ≡ answer b a → f ≡ answer b c → a ≡ c
      same b a c p q =
          let n : number o st (answer b c) ≡ 0 = subst (λ (x : Event). number o st x ≡ 0) q w.0 in
          let r = subst (λ (x : Event). AcceptedWhole o (next o st x) (before ++ (e ∷ behind))) q w.1 in
          later_bit o before (next o st (answer b c)) b a c behind (next_kept o st inv (answer b c)).inv (answer_accepted o st b c n).bit (now_stands o st b c n)
          (subst (λ (x : Event). AcceptedWhole o (next o st (answer b c)) (before ++ (x ∷ behind))) p r)

  pub first : (before : List Event) (st : State) (e : Event) (behind : List Event) → Inv o st → ((f : Event) → Listed f before → OtherOwners e f)
      → number o st e ≡ 0 → AcceptedWhole o st (before ++ (e ∷ behind)) → First st before e behind
  first [] st e behind inv others n w = record { accepted = w; same_state = refl }
  first (f ∷ before) st e behind inv others n w =
      let a = apart st inv f before e behind (others f (inl refl)) w in
      let ahead = stays_accepted o st inv f e (apart_sym e f a) w.0 n in
      let rest = first before (next o st f) e behind (next_kept o st inv f).inv (λ g x. others g (inr x)) ahead w.1 in
      let turned : next o (next o st e) f ≡ next o (next o st f) e = either_way o st inv e f a n w.0 in
      record {
        accepted = (
          n,
          (stays_accepted o st inv e f a n w.0, subst (λ (x : State). AcceptedWhole o x (before ++ behind)) (sym turned) rest.accepted.1),
        );
        same_state = ap (λ (x : State). played_from o x (before ++ behind)) turned ∙ rest.same_state;
      }

-- ---- the laws

pub owner_laws : OwnerLaws
unfolding after
owner_laws = record {
  either_order = λ o h e f a m n. record {
    stays_accepted = stays_accepted o (after o h) (reached o h) e f a m n;
    same_state = either_way o (after o h) (reached o h) e f a m n;
  };
  other_bit = λ o h b a c n l ne. other_bit o (after o h) b a c n l ne;
  comes_first = λ o h before e behind others n w.
      let x = first o before (after o h) e behind (reached o h) others n w in record { accepted = x.accepted; same_state = x.same_state };
}

pub owner_rows : OwnerRows
owner_rows = record {
  of_claim = λ s v. refl;
  of_deliver = λ t s. refl;
  of_step = λ s. refl;
  of_lose = λ s. refl;
  of_answer = λ b a. refl;
  owned = (refl, refl, refl, refl);
}
