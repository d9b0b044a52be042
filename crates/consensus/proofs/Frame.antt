-- What an event does not name stays: an event changes one station's part, or one ballot's answer, and of a part only what is its own. Assumes nothing.
use Prim.Native.Nat.{ℕ}
use mathlib.Core.Path.{◌≡◌, refl, sym, ◌∙◌, ap}
use mathlib.Core.Logic.{◌⊎◌, inl, inr, ⊎_elim}
use mathlib.Core.Bool.{Bool, true}
use mathlib.Core.Option.{Option, some}
use Rattle.consensus.specs.Events.{Event, claim, deliver, step, lose, answer, Opening}
use Rattle.consensus.specs.State.{Stage, idle, waiting, voting, awaiting, seeking, finish_voting, finish_awaiting, decided, Station, State, claim_of, held}
use Rattle.consensus.specs.Rules.{step_from, claiming, holding, losing, effect, next}
use Rattle.consensus.specs.Terms.{ballot_at}
use Rattle.consensus.specs.Frame.{Stays, PlayFrame}
use Rattle.consensus.proofs.Basics.{update_ind}
use Rattle.consensus.proofs.Reached.{next_ind}
use Rattle.consensus.proofs.Accepted.{step_rest, part_ind}

-- a STEP casts where its stage votes, and nowhere else
casts_only : (o : Opening) (st : State) (s : ℕ) (g : Stage) (p : Station) (b : ℕ)
    → ((step_from o st s g p).cast b ≡ p.cast b) ⊎ (ballot_at o g ≡ some b)
unfolding step_from
casts_only o st s idle p b = inl refl
casts_only o st s waiting p b = inl refl
casts_only o st s (voting j k d) p b =
    update_ind (λ (x : Option Bool). (x ≡ p.cast b) ⊎ (ballot_at o (voting j k d) ≡ some b)) p.cast _ _ b
    (λ q. inr (ap (λ (i : ℕ). some i) (sym q)))
    (λ ne. inl refl)
casts_only o st s (awaiting j k d) p b = inl refl
casts_only o st s (seeking j k d) p b = inl refl
casts_only o st s (finish_voting j k d) p b =
    update_ind (λ (x : Option Bool). (x ≡ p.cast b) ⊎ (ballot_at o (finish_voting j k d) ≡ some b)) p.cast _ _ b
    (λ q. inr (ap (λ (i : ℕ). some i) (sym q)))
    (λ ne. inl refl)
casts_only o st s (finish_awaiting j k d) p b = inl refl
casts_only o st s (decided v k) p b = inl refl

-- an ANSWER changes its ballot's answer, and nothing else does
effect_answers : (o : Opening) (st : State) (b : ℕ) (e : Event) → ((effect o st e).answer_of b ≡ st.answer_of b) ⊎ ((a : ℕ) × (e ≡ answer b a))
unfolding effect
effect_answers o st b (claim s v) = inl refl
effect_answers o st b (deliver t s) = inl refl
effect_answers o st b (step s) = inl refl
effect_answers o st b (lose s) = inl refl
effect_answers o st b (answer c a) =
    update_ind (λ (x : Option Bool). (x ≡ st.answer_of b) ⊎ ((i : ℕ) × (answer c a ≡ answer b i))) st.answer_of c _ b
    (λ q. inr (a, ap (λ (i : ℕ). answer i a) (sym q)))
    (λ ne. inl refl)

module _ (o : Opening) (st : State) (e : Event) where
  -- what holds of the station's old part, and of each part that an event for it makes, holds of its new part
  part_next : (C : Station → Type 0) (s : ℕ) → C (st.station s)
      → ((v : ℕ) → e ≡ claim s v → C (claiming v (st.station s)))
      → ((t : ℕ) → e ≡ deliver t s → C (holding t (st.station s)))
      → (e ≡ step s → C (step_from o st s (st.station s).stage (st.station s)))
      → (e ≡ lose s → C (losing (st.station s)))
      → C ((next o st e).station s)
  part_next C s old c d p l = next_ind (λ (x : State). C (x.station s)) o st e old (λ n. part_ind C o st s e old c d p l)

  stays : Stays o st e
  stays = record {
    stage = λ s.
        part_next (λ (p : Station). (p.stage ≡ (st.station s).stage) ⊎ (((v : ℕ) × (e ≡ claim s v)) ⊎ (e ≡ step s))) s (inl refl)
        (λ v k. inr (inl (v, k))) (λ t k. inl refl) (λ k. inr (inr k)) (λ k. inl refl);
    claimed_value = λ s.
        part_next (λ (p : Station). (p.own_claim ≡ claim_of st s) ⊎ ((v : ℕ) × (e ≡ claim s v))) s (inl refl)
        (λ v k. inr (v, k)) (λ t k. inl refl) (λ k. inl (step_rest o st s (st.station s).stage (st.station s)).1) (λ k. inl refl);
    holds = λ s t.
        part_next (λ (p : Station). (p.holds t ≡ held st s t) ⊎ (e ≡ deliver t s)) s (inl refl) (λ v k. inl refl)
        (λ u k.
        update_ind (λ (b : Bool). (b ≡ held st s t) ⊎ (e ≡ deliver t s)) (st.station s).holds u true t
        (λ q. inr (k ∙ ap (λ (i : ℕ). deliver i s) (sym q)))
        (λ ne. inl refl))
        (λ k. inl (ap (λ (f : ℕ → Bool). f t) (step_rest o st s (st.station s).stage (st.station s)).0))
        (λ k. inl refl);
    lost = λ s.
        part_next (λ (p : Station). (p.lost ≡ (st.station s).lost) ⊎ (e ≡ lose s)) s (inl refl) (λ v k. inl refl) (λ t k. inl refl)
        (λ k. inl (step_rest o st s (st.station s).stage (st.station s)).2)
        (λ k. inr k);
    cast = λ s b.
        part_next (λ (p : Station). (p.cast b ≡ (st.station s).cast b) ⊎ ((e ≡ step s) × (ballot_at o (st.station s).stage ≡ some b))) s (inl refl)
        (λ v k. inl refl) (λ t k. inl refl)
        (λ k. ⊎_elim (λ x. inl x) (λ x. inr (k, x)) (casts_only o st s (st.station s).stage (st.station s) b))
        (λ k. inl refl);
    answers = λ b.
        next_ind (λ (x : State). (x.answer_of b ≡ st.answer_of b) ⊎ ((a : ℕ) × (e ≡ answer b a))) o st e (inl refl) (λ n. effect_answers o st b e);
  }

pub frame : PlayFrame
frame = record { stays = stays }
