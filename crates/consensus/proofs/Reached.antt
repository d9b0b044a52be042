-- Every event keeps the invariant, and a fresh state has it: so it holds of every state reached from an opening.
-- Assumes nothing.
use Prim.Native.Nat.{ℕ, suc, ◌<◌, ◌≤◌}
use mathlib.Core.Path.{◌≡◌, refl, sym, subst, ◌∙◌, ap, fun_ext}
use mathlib.Core.Logic.{◌⊎◌, inl, inr}
use mathlib.Core.Bool.{Bool, true, false, beq}
use mathlib.Core.Option.{Option, none, some, none-ne-some}
use lib.Dec.{eqb, ltb}
use borrow.Author.Tests.{eqb-true, ltb-true, ltb-false, lt-ltb, le-ltb}
use Rattle.consensus.specs.Events.{Event, claim, deliver, step, lose, answer, History, start, ◌▷◌, Opening, ballots}
use Rattle.consensus.specs.State.{Stage, idle, waiting, voting, awaiting, seeking, finish_voting, finish_awaiting, decided, State, fresh, not_idle, claimed, held, update, set_station}
use Rattle.consensus.specs.Rules.{no_station, was_cast, is_bit, as_bit, answer_number, stage_number, number, claiming, holding, losing, step_from, effect, next, after}
use Rattle.consensus.proofs.Basics.{update_ind, is_bit_some}
use Rattle.basics.proofs.Bools.{cond_ind, no_clash, not_false→true, or_false, beq_same}
use Rattle.basics.proofs.Refusals.{refused_not}
use Rattle.basics.proofs.Below.{any_found}
use Rattle.consensus.proofs.Invariant.{PartOk, Inv, StageOk, Spelling}
use Rattle.consensus.proofs.Grows.{Grows, grows_refl, part_grows}
use Rattle.consensus.proofs.Own.{Kept, OwnGrows, own_kept}
use Rattle.consensus.proofs.Steps.{step_keeps}

-- what an event leaves: the state as it was, or its effect where it is accepted
pub next_ind {ℓ} : (C : State → Type ℓ) (o : Opening) (st : State) (e : Event) → C st → (number o st e ≡ 0 → C (effect o st e)) → C (next o st e)
unfolding next
next_ind C o st e old new = cond_ind C (eqb (number o st e) 0) (effect o st e) st (λ p. new (eqb-true _ 0 p)) (λ p. old)

-- ---- what an accepted event tells

pub station_below : (o : Opening) (s : ℕ) → no_station o s ≡ false → s < o.count
station_below o s e = ltb-true s o.count (not_false→true (ltb s o.count) e)

module _ (o : Opening) (st : State) where
  pub record ClaimAccepted (s v : ℕ) : Type 0 where
    pub station : s < o.count
    pub live : (st.station s).lost ≡ false
    pub unclaimed : claimed st s ≡ false

  pub claim_accepted : (s v : ℕ) → number o st (claim s v) ≡ 0 → ClaimAccepted s v
  unfolding number
  claim_accepted s v e =
      let a = refused_not _ _ _ refl e in
      let b = refused_not _ _ _ refl a.1 in
      let c = refused_not _ _ _ refl b.1 in
      record { station = station_below o s a.0; live = b.0; unclaimed = c.0 }

  pub record DeliverAccepted (t s : ℕ) : Type 0 where
    pub sender : t < o.count
    pub station : s < o.count
    pub live : (st.station s).lost ≡ false
    pub put_in : claimed st t ≡ true
    pub not_held : held st s t ≡ false

  pub deliver_accepted : (t s : ℕ) → number o st (deliver t s) ≡ 0 → DeliverAccepted t s
  unfolding number
  deliver_accepted t s e =
      let a = refused_not _ _ _ refl e in
      let b = refused_not _ _ _ refl a.1 in
      let c = refused_not _ _ _ refl b.1 in
      let d = refused_not _ _ _ refl c.1 in
      let both = or_false (no_station o t) (no_station o s) a.0 in
      record {
        sender = station_below o t both.0;
        station = station_below o s both.1;
        live = b.0;
        put_in = not_false→true _ c.0;
        not_held = d.0;
      }

  pub record StepAccepted (s : ℕ) : Type 0 where
    pub station : s < o.count
    pub live : (st.station s).lost ≡ false
    pub stage : stage_number o st s (st.station s).stage ≡ 0

  pub step_accepted : (s : ℕ) → number o st (step s) ≡ 0 → StepAccepted s
  unfolding number
  step_accepted s e =
      let a = refused_not _ _ _ refl e in
      let b = refused_not _ _ _ refl a.1 in
      record { station = station_below o s a.0; live = b.0; stage = b.1 }

  pub record LoseAccepted (s : ℕ) : Type 0 where
    pub station : s < o.count
    pub live : (st.station s).lost ≡ false

  pub lose_accepted : (s : ℕ) → number o st (lose s) ≡ 0 → LoseAccepted s
  unfolding number
  lose_accepted s e =
      let a = refused_not _ _ _ refl e in
      let b = refused_not _ _ _ refl a.1 in
      record { station = station_below o s a.0; live = b.0 }

  -- an ANSWER of the bit that stands, and the first one: nothing stands, and a voter cast the bit
  abbrev pub Stands : (b a : ℕ) → Type 0
  Stands b a = st.answer_of b ≡ some (as_bit a)

  pub record AnswerFirst (b a : ℕ) : Type 0 where
    pub unanswered : st.answer_of b ≡ none
    pub voter : ℕ
    pub below : voter < o.count
    pub was_cast : (st.station voter).cast b ≡ some (as_bit a)

  pub record AnswerAccepted (b a : ℕ) : Type 0 where
    pub ballot : b < ballots o
    pub bit : a ≤ 1
    pub how : Stands b a ⊎ AnswerFirst b a

  answer_how : (b a : ℕ) (y : Option Bool) → st.answer_of b ≡ y → answer_number y (as_bit a) (was_cast o st b (as_bit a)) ≡ 0 → Stands b a ⊎ AnswerFirst b a
  answer_how b a none q e =
      let f = any_found o.count (λ s. is_bit (as_bit a) ((st.station s).cast b)) (not_false→true _ (refused_not _ _ _ refl e).0) in
      inr (record { unanswered = q; voter = f.0; below = f.1; was_cast = is_bit_some (as_bit a) _ f.2 })
  answer_how b a (some x) q e = inl (q ∙ is_bit_some (as_bit a) (some x) (not_false→true (beq x (as_bit a)) (refused_not _ _ _ refl e).0))

  pub answer_accepted : (b a : ℕ) → number o st (answer b a) ≡ 0 → AnswerAccepted b a
  unfolding number
  answer_accepted b a e =
      let p = refused_not _ _ _ refl e in
      let q = refused_not _ _ _ refl p.1 in
      record {
        ballot = ltb-true b _ (not_false→true _ p.0);
        bit = ltb-false 1 a q.0;
        how = answer_how b a (st.answer_of b) refl q.1;
      }

  -- the bit that stands is accepted again
  pub again_accepted : (b a : ℕ) → b < ballots o → a ≤ 1 → Stands b a → number o st (answer b a) ≡ 0
  unfolding number
  again_accepted b a l m e = rw (lt-ltb b (ballots o) l, le-ltb 1 a m, e, beq_same (as_bit a))

  -- and changes nothing
  pub answer_again : (b a : ℕ) → Stands b a → effect o st (answer b a) ≡ st
  unfolding effect
  answer_again b a e = λ i. record {
    station = st.station;
    answer_of = fun_ext (λ c. update_ind (λ (y : Option Bool). y ≡ st.answer_of c) st.answer_of b _ c (λ q. sym e ∙ ap st.answer_of (sym q)) (λ ne. refl)) i;
  }

-- ---- each event keeps the invariant

pub idle_of : (g : Stage) → not_idle g ≡ false → g ≡ idle
idle_of idle e = refl
idle_of waiting e = no_clash true refl e
idle_of (voting j k d) e = no_clash true refl e
idle_of (awaiting j k d) e = no_clash true refl e
idle_of (seeking j k d) e = no_clash true refl e
idle_of (finish_voting j k d) e = no_clash true refl e
idle_of (finish_awaiting j k d) e = no_clash true refl e
idle_of (decided v k) e = no_clash true refl e

-- who holds more claims is still right at its stage
spelling_more : (o : Opening) (st : State) (holds more : ℕ → Bool) (j k m d : ℕ) → ((i : ℕ) → holds i ≡ true → more i ≡ true)
    → Spelling o st holds j k m d → Spelling o st more j k m d
spelling_more o st holds more j k m d f x = record { round = x.round; word = x.word; mine = f j x.mine; fits = x.fits }

hold_more : (o : Opening) (st : State) (g : Stage) (holds more : ℕ → Bool) (cast : ℕ → Option Bool) → ((i : ℕ) → holds i ≡ true → more i ≡ true)
    → StageOk o st g holds cast → StageOk o st g more cast
hold_more o st idle holds more cast f x = x
hold_more o st waiting holds more cast f x = x
hold_more o st (voting j k d) holds more cast f x = spelling_more o st holds more j k k d f x
hold_more o st (awaiting j k d) holds more cast f x = (spelling_more o st holds more j k k d f x.0, x.1)
hold_more o st (seeking j k d) holds more cast f x = x
hold_more o st (finish_voting j k d) holds more cast f x = (x.0, spelling_more o st holds more j k (suc k) d f x.1)
hold_more o st (finish_awaiting j k d) holds more cast f x = (x.0, spelling_more o st holds more j k (suc k) d f x.1, x.2)
hold_more o st (decided v k) holds more cast f x = x

module _ (o : Opening) (st : State) (inv : Inv o st) where
  claim_keeps : (s v : ℕ) → ClaimAccepted o st s v → Kept o st (set_station st s (claiming v (st.station s)))
  claim_keeps s v a = own_kept st s (claiming v (st.station s)) o inv grows part
    where
      grows : OwnGrows st s (claiming v (st.station s))
      grows = record { claims = λ c. no_clash _ c a.unclaimed; helds = λ t e. e; casts = λ b x e. e }

      part : PartOk o st s waiting (st.station s).holds (st.station s).cast
      part =
          let x = subst (λ (g : Stage). PartOk o st s g (st.station s).holds (st.station s).cast) (idle_of _ a.unclaimed) (inv.parts s) in
          record { holdings = x.holdings; casts = x.casts; uncast = x.uncast; stage = tt }

  -- the part of a station that now holds the claim of t
  deliver_keeps : (t s : ℕ) → DeliverAccepted o st t s → Kept o st (set_station st s (holding t (st.station s)))
  deliver_keeps t s a = own_kept st s (holding t (st.station s)) o inv grows part
    where
      more : (i : ℕ) → (st.station s).holds i ≡ true → update (st.station s).holds t true i ≡ true
      more i e = update_ind (λ (x : Bool). x ≡ true) (st.station s).holds t true i (λ q. refl) (λ ne. e)

      grows : OwnGrows st s (holding t (st.station s))
      grows = record { claims = λ c. (c, refl); helds = more; casts = λ b x e. e }

      part : PartOk o st s (st.station s).stage (update (st.station s).holds t true) (st.station s).cast
      part =
          let x = inv.parts s in record {
            holdings = λ i.
                update_ind (λ (y : Bool). y ≡ true → (s < o.count) × (i < o.count) × (claimed st i ≡ true)) (st.station s).holds t true i
                (λ q e.
                (a.station, subst (λ (z : ℕ). z < o.count) (sym q) a.sender, subst (λ (z : ℕ). claimed st z ≡ true) (sym q) a.put_in))
                (λ ne e. x.holdings i e);
            casts = x.casts;
            uncast = x.uncast;
            stage = hold_more o st (st.station s).stage (st.station s).holds _ (st.station s).cast more x.stage;
          }

  step_event_keeps : (s : ℕ) → StepAccepted o st s → Kept o st (set_station st s (step_from o st s (st.station s).stage (st.station s)))
  step_event_keeps s a = step_keeps o st s inv a.station (st.station s).stage refl a.stage

  lose_keeps : (s : ℕ) → Kept o st (set_station st s (losing (st.station s)))
  lose_keeps s = own_kept st s (losing (st.station s)) o inv grows (inv.parts s)
    where
      grows : OwnGrows st s (losing (st.station s))
      grows = record { claims = λ c. (c, refl); helds = λ t e. e; casts = λ b x e. e }

  answer_grows : (b a : ℕ) → AnswerFirst o st b a → Grows st (effect o st (answer b a))
  unfolding effect
  answer_grows b a x = record {
    claims = λ s e. (e, refl);
    helds = λ s t e. e;
    answers = λ c y e.
        update_ind (λ (z : Option Bool). z ≡ some y) st.answer_of b (some (as_bit a)) c
        (λ q. absurd (none-ne-some y (sym x.unanswered ∙ ap st.answer_of (sym q) ∙ e)))
        (λ ne. e);
    casts = λ s c y e. e;
  }

  answer_keeps : (b a : ℕ) → Stands o st b a ⊎ AnswerFirst o st b a → Kept o st (effect o st (answer b a))
  unfolding effect
  answer_keeps b a (inl e) = subst (Kept o st) (sym (answer_again o st b a e)) (record { inv = inv; grows = grows_refl st })
  answer_keeps b a (inr x) = record {
    inv = record {
      parts = λ s. part_grows o st _ (answer_grows b a x) s _ _ _ (inv.parts s);
      answers = λ c y.
          update_ind (λ (z : Option Bool). z ≡ some y → (s : ℕ) × (s < o.count) × ((st.station s).cast c ≡ some y)) st.answer_of b (some (as_bit a)) c
          (λ q e. (x.voter, x.below, ap (st.station x.voter).cast q ∙ x.was_cast ∙ e))
          (λ ne e. inv.answers c y e);
    };
    grows = answer_grows b a x;
  }

  event_keeps : (e : Event) → number o st e ≡ 0 → Kept o st (effect o st e)
  unfolding effect
  event_keeps (claim s v) n = claim_keeps s v (claim_accepted o st s v n)
  event_keeps (deliver t s) n = deliver_keeps t s (deliver_accepted o st t s n)
  event_keeps (step s) n = step_event_keeps s (step_accepted o st s n)
  event_keeps (lose s) n = lose_keeps s
  event_keeps (answer b a) n = answer_keeps b a (answer_accepted o st b a n).how

  -- any event, accepted or refused
  pub next_kept : (e : Event) → Kept o st (next o st e)
  next_kept e = next_ind (Kept o st) o st e (record { inv = inv; grows = grows_refl st }) (event_keeps e)

pub fresh_inv : (o : Opening) → Inv o fresh
fresh_inv o = record {
  parts = λ s. record {
    holdings = λ t e. no_clash true refl (sym e);
    casts = λ b a e. absurd (none-ne-some a e);
    uncast = λ b l. refl;
    stage = tt;
  };
  answers = λ b a e. absurd (none-ne-some a e);
}

-- the invariant holds after every list of events
pub reached : (o : Opening) (h : History) → Inv o (after o h)
unfolding after
reached o start = fresh_inv o
reached o (h ▷ e) = (next_kept o (after o h) (reached o h) e).inv
