-- What one event does to one station: its accepted STEP moves it as `step_from` says; a CLAIM takes it from idle to waiting; nothing else
-- touches its stage. Assumes nothing.
use Prim.Native.Nat.{ℕ}
use mathlib.Core.Path.{◌≡◌, refl, sym, subst, ◌∙◌, ap}
use mathlib.Core.Logic.{◌⊎◌, inl, inr}
use mathlib.Core.Bool.{Bool, true, false, cond, ◌&&◌}
use lib.Dec.{eqb}
use borrow.Author.Tests.{eqb-true, eq-eqb}
use Rattle.consensus.specs.Events.{Event, claim, deliver, step, lose, answer, Opening}
use Rattle.consensus.specs.State.{Stage, idle, waiting, Station, State, update}
use Rattle.consensus.specs.Rules.{number, step_from, effect, next}
use Rattle.consensus.specs.Terms.{is_step}
use Rattle.consensus.proofs.Basics.{update_ind, update_same}
use Rattle.basics.proofs.Bools.{no_clash, and_true}
use Rattle.consensus.proofs.Reached.{next_ind, claim_accepted, idle_of}

pub next_accepted : (o : Opening) (st : State) (e : Event) → number o st e ≡ 0 → next o st e ≡ effect o st e
unfolding next
next_accepted o st e n = ap (λ (b : Bool). cond b (effect o st e) st) (eq-eqb _ 0 n)

pub is_step_of : (p : ℕ) (e : Event) → is_step p e ≡ true → e ≡ step p
is_step_of p (claim s v) e = no_clash true refl (sym e)
is_step_of p (deliver t s) e = no_clash true refl (sym e)
is_step_of p (step s) e = ap step (eqb-true s p e)
is_step_of p (lose s) e = no_clash true refl (sym e)
is_step_of p (answer b a) e = no_clash true refl (sym e)

module _ (o : Opening) (st : State) (p : ℕ) where
  -- an accepted STEP of p
  pub record Taken (e : Event) : Type 0 where
    pub is : e ≡ step p
    pub accepted : number o st (step p) ≡ 0

  pub taken : (e : Event) → (is_step p e && eqb (number o st e) 0) ≡ true → Taken e
  taken e t =
      let both = and_true (is_step p e) (eqb (number o st e) 0) t in
      let i = is_step_of p e both.0 in
      record { is = i; accepted = subst (λ (x : Event). number o st x ≡ 0) i (eqb-true _ 0 both.1) }

  pub taken_station : (e : Event) → Taken e → (next o st e).station p ≡ step_from o st p (st.station p).stage (st.station p)
  unfolding effect
  taken_station e t =
      ap (λ (x : Event). (next o st x).station p) t.is
      ∙ ap (λ (x : State). x.station p) (next_accepted o st (step p) t.accepted)
      ∙ update_same st.station p _

  pub taken_answers : (e : Event) → Taken e → (next o st e).answer_of ≡ st.answer_of
  unfolding effect
  taken_answers e t =
      ap (λ (x : Event). (next o st x).answer_of) t.is ∙ ap (λ (x : State). x.answer_of) (next_accepted o st (step p) t.accepted)

  abbrev Untaken : Stage → Type 0
  Untaken g = (g ≡ (st.station p).stage) ⊎ (((st.station p).stage ≡ idle) × (g ≡ waiting))

  -- any other event leaves its stage, or is its CLAIM
  pub untaken : (e : Event) → (is_step p e && eqb (number o st e) 0) ≡ false → Untaken ((next o st e).station p).stage
  unfolding effect
  untaken e t = next_ind (λ (x : State). Untaken (x.station p).stage) o st e (inl refl) (λ n. go e n (λ i. no_clash _ (took i n) t))
    where
      took : e ≡ step p → number o st e ≡ 0 → (is_step p e && eqb (number o st e) 0) ≡ true
      took i n =
          subst (λ (x : Event). (is_step p x && eqb (number o st e) 0) ≡ true) (sym i)
          (subst (λ (b : Bool). (b && eqb (number o st e) 0) ≡ true) (sym (eq-eqb p p refl)) (eq-eqb _ 0 n))

      keep : (s : ℕ) (x : Station) → x.stage ≡ (st.station s).stage → Untaken (update st.station s x p).stage
      keep s x e =
          update_ind (λ (y : Station). Untaken y.stage) st.station s x p (λ q. inl (e ∙ ap (λ (i : ℕ). (st.station i).stage) (sym q))) (λ ne. inl refl)

      go : (e : Event) → number o st e ≡ 0 → (e ≡ step p → ⊥) → Untaken ((effect o st e).station p).stage
      go (claim s v) n f =
          update_ind (λ (y : Station). Untaken y.stage) st.station s _ p
          (λ q. inr (ap (λ (i : ℕ). (st.station i).stage) q ∙ idle_of _ (claim_accepted o st s v n).unclaimed, refl))
          (λ ne. inl refl)
      go (deliver t s) n f = keep s _ refl
      go (step s) n f = update_ind (λ (y : Station). Untaken y.stage) st.station s _ p (λ q. absurd (f (ap step (sym q)))) (λ ne. inl refl)
      go (lose s) n f = keep s _ refl
      go (answer b a) n f = inl refl
