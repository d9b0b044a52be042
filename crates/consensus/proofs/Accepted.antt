-- "An event was accepted" is what the play's state shows: held, put in, lost, answered. Each is made by one kind of event and stays,
-- so one law serves all four. Assumes nothing.
use Prim.Native.Nat.{ℕ, suc, ◌+◌, ◌%◌, ◌≤◌}
use mathlib.Core.Path.{◌≡◌, refl, sym, subst, ◌∙◌, ap}
use mathlib.Core.Logic.{◌⊎◌, inl, inr, ◌↔◌}
use mathlib.Core.Bool.{Bool, true, false, ◌&&◌}
use mathlib.Core.Option.{Option, none, some, none-ne-some, some-injective}
use native.Mathlib.Omega.{arith}
use lib.Dec.{eqb}
use borrow.Author.Tests.{eqb-true, eqb-false}
use Rattle.bits.specs.Words.{low_agree}
use Rattle.consensus.specs.Events.{Event, claim, deliver, step, lose, answer, History, start, ◌▷◌, Rule, rule_1, rule_2, Opening, rounds}
use Rattle.consensus.specs.State.{Stage, idle, waiting, voting, awaiting, seeking, finish_voting, finish_awaiting, decided, Station, State, fresh, not_idle, claimed, claim_of, held, answered, bit_of}
use Rattle.consensus.specs.Rules.{as_bit, number, finish_ballot, spelled, first_stage, stage_after_seek, sought, finished, claiming, holding, losing, step_from, effect, next, after}
use Rattle.consensus.specs.Terms.{Happened, PutIn, Holds, Lost, Answered, Repeat}
use Rattle.consensus.proofs.Basics.{update_ind, update_same}
use Rattle.basics.proofs.Bools.{by_bool, cond_ind, no_clash}
use Rattle.consensus.proofs.Reached.{Stands, AnswerFirst, next_ind, claim_accepted, answer_accepted}
use Rattle.consensus.proofs.Station.{next_accepted}

-- A mark of the state that events of the kind E make, that nothing takes away, and that nothing else makes.
pub record Mark (o : Opening) (E : Event → Type 0) (φ : State → Type 0) : Type 0 where
  pub made : (st : State) (e : Event) → E e → number o st e ≡ 0 → φ (effect o st e)
  pub kept : (st : State) (e : Event) → number o st e ≡ 0 → φ st → φ (effect o st e)
  pub only : (st : State) (e : Event) → number o st e ≡ 0 → φ (effect o st e) → φ st ⊎ E e
  pub unmarked : φ fresh → ⊥

module _ (o : Opening) (E : Event → Type 0) (φ : State → Type 0) (m : Mark o E φ) where
  pub marked : (h : History) (e : Event) → E e → Happened o e h → φ (after o h)
  unfolding after
  marked start e k a = absurd a
  marked (h ▷ f) e k (inl a) =
      let before = marked h e k a in next_ind φ o (after o h) f before (λ n. m.kept (after o h) f n before)
  marked (h ▷ f) e k (inr a) =
      subst φ (sym (next_accepted o (after o h) f a.1)) (m.made (after o h) f (subst E (sym a.0) k) a.1)

  marker_step : (h : History) (f : Event) → (φ (after o h) → (e : Event) × E e × Happened o e h) → φ (next o (after o h) f)
      → (e : Event) × E e × Happened o e (h ▷ f)
  marker_step h f before = next_ind (λ (s : State). φ s → (e : Event) × E e × Happened o e (h ▷ f)) o (after o h) f old (λ n y. new n (m.only (after o h) f n y))
    where
      old : φ (after o h) → (e : Event) × E e × Happened o e (h ▷ f)
      old y = let t = before y in (t.0, t.1, inl t.2)

      new : number o (after o h) f ≡ 0 → φ (after o h) ⊎ E f → (e : Event) × E e × Happened o e (h ▷ f)
      new n (inl y) = old y
      new n (inr k) = (f, k, inr (refl, n))

  pub marker : (h : History) → φ (after o h) → (e : Event) × E e × Happened o e h
  unfolding after
  marker start x = absurd (m.unmarked x)
  marker (h ▷ f) x = marker_step h f (marker h) x

-- ---- what a STEP leaves of a station's part: all but stage and casts; and it was and stays past idle

pub step_rest : (o : Opening) (st : State) (s : ℕ) (g : Stage) (p : Station)
    → ((step_from o st s g p).holds ≡ p.holds) × ((step_from o st s g p).own_claim ≡ p.own_claim) × ((step_from o st s g p).lost ≡ p.lost)
unfolding step_from
step_rest o st s idle p = (refl, refl, refl)
step_rest o st s waiting p = (refl, refl, refl)
step_rest o st s (voting j k d) p = (refl, refl, refl)
step_rest o st s (awaiting j k d) p = (refl, refl, refl)
step_rest o st s (seeking j k d) p = (refl, refl, refl)
step_rest o st s (finish_voting j k d) p = (refl, refl, refl)
step_rest o st s (finish_awaiting j k d) p = (refl, refl, refl)
step_rest o st s (decided v k) p = (refl, refl, refl)

abbrev Active : Stage → Type 0
Active g = not_idle g ≡ true

first_active : (r : Rule) (n s v : ℕ) → Active (first_stage r n s v)
first_active rule_1 n s v = cond_ind Active (eqb n 1) (decided v 0) (voting s 0 0) (λ e. refl) (λ e. refl)
first_active rule_2 n s v = refl

found_active : (o : Opening) (st : State) (r : Rule) (j k d : ℕ) → Active (stage_after_seek o st r j k d)
found_active o st rule_1 j k d = cond_ind Active (eqb (suc k) (rounds o)) (decided (claim_of st j) k) (voting j (suc k) d) (λ e. refl) (λ e. refl)
found_active o st rule_2 j k d = refl

finished_active : (a : Bool) (j k d : ℕ) → Active (finished a j k d)
finished_active true j k d = refl
finished_active false j k d = refl

sought_active : (o : Opening) (st : State) (s j k d : ℕ) → Active (sought o st s j k d)
sought_active o st s j k d =
    cond_ind Active (held st s j && low_agree k d (spelled o st j)) (stage_after_seek o st o.rule j k d) (seeking j k d)
    (λ x. found_active o st o.rule j k d)
    (λ x. refl)

pub step_active : (o : Opening) (st : State) (s : ℕ) (g : Stage) (p : Station) → p.stage ≡ g → not_idle (step_from o st s g p).stage ≡ not_idle g
unfolding step_from
step_active o st s idle p e = ap not_idle e
step_active o st s waiting p e = first_active o.rule o.count s p.own_claim
step_active o st s (voting j k d) p e = refl
step_active o st s (awaiting j k d) p e = refl
step_active o st s (seeking j k d) p e = sought_active o st s ((j + 1) % o.count) k d
step_active o st s (finish_voting j k d) p e = refl
step_active o st s (finish_awaiting j k d) p e = finished_active (bit_of (st.answer_of (finish_ballot k))) j k d
step_active o st s (decided v k) p e = ap not_idle e

-- ---- what an event makes of one station's part

pub part_ind : (C : Station → Type 0) (o : Opening) (st : State) (s : ℕ) (e : Event) → C (st.station s)
    → ((v : ℕ) → e ≡ claim s v → C (claiming v (st.station s)))
    → ((t : ℕ) → e ≡ deliver t s → C (holding t (st.station s)))
    → (e ≡ step s → C (step_from o st s (st.station s).stage (st.station s)))
    → (e ≡ lose s → C (losing (st.station s)))
    → C ((effect o st e).station s)
unfolding effect
part_ind C o st s (claim i v) old c d p l =
    update_ind C st.station i _ s (λ q. subst (λ (x : ℕ). C (claiming v (st.station x))) q (c v (ap (λ (x : ℕ). claim x v) (sym q)))) (λ ne. old)
part_ind C o st s (deliver t i) old c d p l =
    update_ind C st.station i _ s (λ q. subst (λ (x : ℕ). C (holding t (st.station x))) q (d t (ap (λ (x : ℕ). deliver t x) (sym q)))) (λ ne. old)
part_ind C o st s (step i) old c d p l =
    update_ind C st.station i _ s
    (λ q. subst (λ (x : ℕ). C (step_from o st x (st.station x).stage (st.station x))) q (p (ap step (sym q))))
    (λ ne. old)
part_ind C o st s (lose i) old c d p l =
    update_ind C st.station i _ s (λ q. subst (λ (x : ℕ). C (losing (st.station x))) q (l (ap lose (sym q)))) (λ ne. old)
part_ind C o st s (answer b a) old c d p l = old

-- a number that is 0 or 1 is told by its bit
pub one_bit : (c a : ℕ) → c ≤ 1 → a ≤ 1 → as_bit c ≡ as_bit a → c ≡ a
one_bit c a l m e = by_bool (eqb c 1) (λ p. eqb-true c 1 p ∙ sym (eqb-true a 1 (sym e ∙ p)))
    (λ p. let x = eqb-false c 1 p in let y = eqb-false a 1 (sym e ∙ p) in zero c l x ∙ sym (zero a m y))
  where
    zero : (n : ℕ) → n ≤ 1 → (n ≡ 1 → ⊥) → n ≡ 0
    zero n l x = omega arith

-- ---- the four marks

module _ (o : Opening) where
  held_mark : (s t : ℕ) → Mark o (λ e. e ≡ deliver t s) (λ st. held st s t ≡ true)
  unfolding effect
  held_mark s t = record {
    made = λ st e k n.
        subst (λ (x : Event). held (effect o st x) s t ≡ true) (sym k)
        (ap (λ (x : Station). x.holds t) (update_same st.station s _) ∙ update_same (st.station s).holds t true);
    kept = λ st e n x.
        part_ind (λ (p : Station). p.holds t ≡ true) o st s e x (λ v k. x)
        (λ u k. update_ind (λ (b : Bool). b ≡ true) (st.station s).holds u true t (λ q. refl) (λ ne. x))
        (λ k. ap (λ (f : ℕ → Bool). f t) (step_rest o st s (st.station s).stage (st.station s)).0 ∙ x)
        (λ k. x);
    only = λ st e n.
        part_ind (λ (p : Station). p.holds t ≡ true → (held st s t ≡ true) ⊎ (e ≡ deliver t s)) o st s e (λ x. inl x) (λ v k x. inl x)
        (λ u k.
        update_ind (λ (b : Bool). b ≡ true → (held st s t ≡ true) ⊎ (e ≡ deliver t s)) (st.station s).holds u true t
        (λ q x. inr (k ∙ ap (λ (i : ℕ). deliver i s) (sym q)))
        (λ ne x. inl x))
        (λ k x. inl (sym (ap (λ (f : ℕ → Bool). f t) (step_rest o st s (st.station s).stage (st.station s)).0) ∙ x))
        (λ k x. inl x);
    unmarked = λ x. no_clash true refl (sym x);
  }

  pub holds_shown : (s t : ℕ) (h : History) → Holds o s t h ↔ (held (after o h) s t ≡ true)
  holds_shown s t h = (
    λ a. marked o _ _ (held_mark s t) h _ refl a,
    λ x. let r = marker o _ _ (held_mark s t) h x in subst (λ (e : Event). Happened o e h) r.1 r.2,
  )

  lost_mark : (s : ℕ) → Mark o (λ e. e ≡ lose s) (λ st. (st.station s).lost ≡ true)
  unfolding effect
  lost_mark s = record {
    made = λ st e k n.
        subst (λ (x : Event). ((effect o st x).station s).lost ≡ true) (sym k) (ap (λ (x : Station). x.lost) (update_same st.station s _));
    kept = λ st e n x.
        part_ind (λ (p : Station). p.lost ≡ true) o st s e x (λ v k. x) (λ u k. x)
        (λ k. (step_rest o st s (st.station s).stage (st.station s)).2 ∙ x)
        (λ k. refl);
    only = λ st e n.
        part_ind (λ (p : Station). p.lost ≡ true → ((st.station s).lost ≡ true) ⊎ (e ≡ lose s)) o st s e (λ x. inl x) (λ v k x. inl x) (λ u k x. inl x)
        (λ k x. inl (sym (step_rest o st s (st.station s).stage (st.station s)).2 ∙ x))
        (λ k x. inr k);
    unmarked = λ x. no_clash true refl (sym x);
  }

  pub lost_shown : (s : ℕ) (h : History) → Lost o s h ↔ (((after o h).station s).lost ≡ true)
  lost_shown s h = (
    λ a. marked o _ _ (lost_mark s) h _ refl a,
    λ x. let r = marker o _ _ (lost_mark s) h x in subst (λ (e : Event). Happened o e h) r.1 r.2,
  )

  abbrev Claims : ℕ → Station → Type 0
  Claims v p = (not_idle p.stage ≡ true) × (p.own_claim ≡ v)

  claim_mark : (s v : ℕ) → Mark o (λ e. e ≡ claim s v) (λ st. Claims v (st.station s))
  unfolding effect
  claim_mark s v = record {
    made = λ st e k n.
        subst (λ (x : Event). Claims v ((effect o st x).station s)) (sym k) (subst (Claims v) (sym (update_same st.station s _)) (refl, refl));
    kept = λ st e n x.
        part_ind (Claims v) o st s e x
        (λ w k. no_clash _ x.0 (claim_accepted o st s w (subst (λ (y : Event). number o st y ≡ 0) k n)).unclaimed)
        (λ u k. x)
        (λ k.
        (step_active o st s (st.station s).stage (st.station s) refl ∙ x.0, (step_rest o st s (st.station s).stage (st.station s)).1 ∙ x.1))
        (λ k. x);
    only = λ st e n.
        part_ind (λ (p : Station). Claims v p → Claims v (st.station s) ⊎ (e ≡ claim s v)) o st s e (λ x. inl x)
        (λ w k x. inr (k ∙ ap (λ (y : ℕ). claim s y) x.1))
        (λ u k x. inl x)
        (λ k x.
        inl
        (sym (step_active o st s (st.station s).stage (st.station s) refl) ∙ x.0, sym (step_rest o st s (st.station s).stage (st.station s)).1 ∙ x.1))
        (λ k x. inl x);
    unmarked = λ x. no_clash true refl (sym x.0);
  }

  pub put_in_shown : (s v : ℕ) (h : History) → PutIn o s v h ↔ ((claimed (after o h) s ≡ true) × (claim_of (after o h) s ≡ v))
  put_in_shown s v h = (
    λ a. marked o _ _ (claim_mark s v) h _ refl a,
    λ x. let r = marker o _ _ (claim_mark s v) h x in subst (λ (e : Event). Happened o e h) r.1 r.2,
  )

  -- an ANSWER of the bit that stands was accepted before, and its number is 0 or 1
  abbrev Gives : (b a : ℕ) → Event → Type 0
  Gives b a e = (c : ℕ) × (e ≡ answer b c) × (as_bit c ≡ as_bit a)

  stands_mark : (b a : ℕ) → Mark o (Gives b a) (λ st. Stands o st b a)
  unfolding effect
  stands_mark b a = record {
    made = λ st e k n.
        subst (λ (x : Event). Stands o (effect o st x) b a) (sym k.1) (update_same st.answer_of b _ ∙ ap (λ (y : Bool). some y) k.2);
    kept = λ st e n x. kept st x e n;
    only = λ st e n x. only st e x;
    unmarked = λ x. none-ne-some _ x;
  }
    where
      same : (st : State) (c : ℕ) → Stands o st b a → Stands o st b c ⊎ AnswerFirst o st b c → ◌≡◌ {A = Option Bool} (some (as_bit c)) (some (as_bit a))
      same st c x (inl y) = sym y ∙ x
      same st c x (inr y) = absurd (none-ne-some _ (sym y.unanswered ∙ x))

      kept : (st : State) → Stands o st b a → (e : Event) → number o st e ≡ 0 → Stands o (effect o st e) b a
      kept st x (claim s v) n = x
      kept st x (deliver t s) n = x
      kept st x (step s) n = x
      kept st x (lose s) n = x
      kept st x (answer d c) n =
          update_ind (λ (y : Option Bool). y ≡ some (as_bit a)) st.answer_of d _ b
          (λ q. same st c x (answer_accepted o st b c (subst (λ (i : ℕ). number o st (answer i c) ≡ 0) (sym q) n)).how)
          (λ ne. x)

      only : (st : State) (e : Event) → Stands o (effect o st e) b a → Stands o st b a ⊎ Gives b a e
      only st (claim s v) x = inl x
      only st (deliver t s) x = inl x
      only st (step s) x = inl x
      only st (lose s) x = inl x
      only st (answer d c) x =
          update_ind (λ (y : Option Bool). y ≡ some (as_bit a) → Stands o st b a ⊎ Gives b a (answer d c)) st.answer_of d _ b
          (λ q y. inr (c, ap (λ (i : ℕ). answer i c) (sym q), some-injective _ _ y))
          (λ ne y. inl y) x

  small_bit : (b a : ℕ) (h : History) → Happened o (answer b a) h → a ≤ 1
  small_bit b a start x = absurd x
  small_bit b a (h ▷ e) (inl x) = small_bit b a h x
  small_bit b a (h ▷ e) (inr x) = (answer_accepted o (after o h) b a (subst (λ (f : Event). number o (after o h) f ≡ 0) x.0 x.1)).bit

  pub repeats_shown : (b a : ℕ) (h : History) → Repeat o (answer b a) h ↔ ((a ≤ 1) × Stands o (after o h) b a)
  repeats_shown b a h = (
    λ x. (small_bit b a h x, marked o _ _ (stands_mark b a) h _ (a, refl, refl) x),
    λ x.
        let r = marker o _ _ (stands_mark b a) h x.1 in
        let y = subst (λ (e : Event). Happened o e h) r.1.1 r.2 in
        subst (λ (c : ℕ). Happened o (answer b c) h) (one_bit r.1.0 a (small_bit b _ h y) x.0 r.1.2) y,
  )

  pub answered_shown : (b : ℕ) (h : History) → Answered o b h ↔ (answered ((after o h).answer_of b) ≡ true)
  answered_shown b h = (λ x. ap answered ((repeats_shown b x.0 h).0 x.1).1, go ((after o h).answer_of b) refl)
    where
      go : (y : Option Bool) → (after o h).answer_of b ≡ y → answered y ≡ true → Answered o b h
      go none q e = no_clash true refl (sym e)
      go (some true) q e = (1, (repeats_shown b 1 h).1 (omega arith, q))
      go (some false) q e = (0, (repeats_shown b 0 h).1 (omega arith, q))
