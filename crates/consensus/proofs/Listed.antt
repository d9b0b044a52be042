-- What stands in the lists of votes and answers. A station has voted in the ballots below a count that its stage gives (`voted_shown`), and cast its
-- bit in just these; it has taken the answers below another (`answers_shown`), which is behind the first by the ballot that it waits on.
-- Assumes nothing.
use Prim.Native.Nat.{ℕ, zero, suc, ◌<◌}
use mathlib.Core.Path.{◌≡◌, refl, sym, subst, ◌∙◌, ap}
use mathlib.Core.Logic.{◌⊎◌, inl, inr, ◌↔◌, ⊎_elim}
use mathlib.Core.Bool.{Bool, true}
use mathlib.Core.Option.{Option, none, some, none-ne-some, some-injective}
use mathlib.Core.List.{List, [], ◌∷◌, ◌++◌}
use native.Mathlib.Omega.{arith}
use native.Mathlib.Nat.{le_refl, le_step, not-suc-le-zero}
use lib.Dec.{ltb}
use borrow.Author.Tests.{ltb-true, ltb-false}
use Rattle.consensus.specs.Events.{Event, History, start, ◌▷◌, Opening}
use Rattle.consensus.specs.State.{Stage, idle, waiting, voting, awaiting, seeking, finish_voting, finish_awaiting, decided, Station, State, answered, bit_of, update}
use Rattle.consensus.specs.Rules.{step_from, after}
use Rattle.consensus.specs.Terms.{ballot_at, takes, first_answer, voted_in, waits_on, answers_taken}
use Rattle.consensus.specs.Demand3.{first_ballots}
use Rattle.consensus.specs.Told.{awaited, Listed}
use Rattle.consensus.proofs.Basics.{update_same}
use Rattle.basics.proofs.Bools.{by_bool, no_clash}
use Rattle.consensus.proofs.Invariant.{votes}
use Rattle.consensus.proofs.Spelling.{below_suc}
use Rattle.consensus.proofs.Reached.{next_kept, reached}
use Rattle.consensus.proofs.Station.{taken_station}
use Rattle.consensus.proofs.Told.{answers_count, answers_up_to, some_of, first_answer_shown, stage_after, taken_after, moves_after, adds_below, stays, waits_shown, voted_shown, taken_answered, answers_shown}

-- ---- a list that grows by g m at its end

module _ {A : Type 0} where
  listed_left : (l m : List A) (x : A) → Listed x l → Listed x (l ++ m)
  listed_left [] m x i = absurd i
  listed_left (y ∷ l) m x (inl e) = inl e
  listed_left (y ∷ l) m x (inr i) = inr (listed_left l m x i)

  listed_last : (l : List A) (x y : A) → y ≡ x → Listed x (l ++ (y ∷ []))
  listed_last [] x y e = inl e
  listed_last (z ∷ l) x y e = inr (listed_last l x y e)

  listed_either : (l : List A) (x y : A) → Listed x (l ++ (y ∷ [])) → Listed x l ⊎ (y ≡ x)
  listed_either [] x y (inl e) = inr e
  listed_either [] x y (inr i) = absurd i
  listed_either (z ∷ l) x y (inl e) = inl (inl e)
  listed_either (z ∷ l) x y (inr i) = ⊎_elim (λ j. inl (inr j)) (λ e. inr e) (listed_either l x y i)

  module _ (l : ℕ → List A) (g : ℕ → A) (none_yet : l 0 ≡ []) (one_more : (m : ℕ) → l (suc m) ≡ l m ++ (g m ∷ [])) where
    pub below_listed : (m i : ℕ) → i < m → Listed (g i) (l m)
    below_listed zero i h = absurd (not-suc-le-zero h)
    below_listed (suc m) i h =
        subst (Listed (g i)) (sym (one_more m))
        (below_suc i m h (λ b. listed_left (l m) (g m ∷ []) (g i) (below_listed m i b)) (λ e. listed_last (l m) (g i) (g m) (ap g (sym e))))

    pub listed_below : (m : ℕ) (x : A) → Listed x (l m) → (i : ℕ) × (i < m) × (g i ≡ x)
    listed_below zero x h = absurd (subst (Listed x) none_yet h)
    listed_below (suc m) x h =
        ⊎_elim (λ j. let r = listed_below m x j in (r.0, le_step r.1, r.2)) (λ e. (m, le_refl (suc m), e))
        (listed_either (l m) x (g m) (subst (Listed x) (one_more m) h))

ballots_begin : first_ballots 0 ≡ []
unfolding first_ballots
ballots_begin = refl

ballots_grow : (m : ℕ) → first_ballots (suc m) ≡ first_ballots m ++ (m ∷ [])
unfolding first_ballots
ballots_grow m = refl

answers_begin : (f : ℕ → Option Bool) → answers_up_to f 0 ≡ []
unfolding answers_up_to
answers_begin f = refl

answers_grow : (f : ℕ → Option Bool) (m : ℕ) → answers_up_to f (suc m) ≡ answers_up_to f m ++ ((m, bit_of (f m)) ∷ [])
unfolding answers_up_to
answers_grow f m = refl

-- ---- votes

put_there : (f : ℕ → Option Bool) (i : ℕ) (a : Bool) (b : ℕ) → some i ≡ some b → answered (update f i (some a) b) ≡ true
put_there f i a b e = subst (λ (j : ℕ). answered (update f i (some a) j) ≡ true) (some-injective i b e) (ap answered (update_same f i (some a)))

-- a STEP that votes in b leaves a bit there
casts_there : (o : Opening) (st : State) (s : ℕ) (g : Stage) (p : Station) (b : ℕ) → ballot_at o g ≡ some b
    → answered ((step_from o st s g p).cast b) ≡ true
unfolding step_from
casts_there o st s idle p b e = absurd (none-ne-some b e)
casts_there o st s waiting p b e = absurd (none-ne-some b e)
casts_there o st s (voting j k d) p b e = put_there p.cast _ _ b e
casts_there o st s (awaiting j k d) p b e = absurd (none-ne-some b e)
casts_there o st s (seeking j k d) p b e = absurd (none-ne-some b e)
casts_there o st s (finish_voting j k d) p b e = put_there p.cast _ _ b e
casts_there o st s (finish_awaiting j k d) p b e = absurd (none-ne-some b e)
casts_there o st s (decided v k) p b e = absurd (none-ne-some b e)

-- the answers taken are the votes, but for the one waited on
behind : (o : Opening) (g : Stage)
    → ((awaited o g ≡ none) × (votes o g ≡ answers_count o g)) ⊎ ((awaited o g ≡ some (answers_count o g)) × (votes o g ≡ suc (answers_count o g)))
behind o idle = inl (refl, refl)
behind o waiting = inl (refl, refl)
behind o (voting j k d) = inl (refl, refl)
behind o (awaiting j k d) = inr (refl, refl)
behind o (seeking j k d) = inl (refl, refl)
behind o (finish_voting j k d) = inl (refl, refl)
behind o (finish_awaiting j k d) = inr (refl, refl)
behind o (decided v k) = inl (refl, refl)

known_bit : (x : Option Bool) (a : Bool) → answered x ≡ true → bit_of x ≡ a → x ≡ some a
known_bit none a e q = no_clash true refl (sym e)
known_bit (some b) a e q = ap (λ (y : Bool). some y) q

module _ (o : Opening) (p : ℕ) where
  cast_kept : (h : History) (e : Event) (b : ℕ) → answered (((after o h).station p).cast b) ≡ true → answered (((after o (h ▷ e)).station p).cast b) ≡ true
  unfolding after
  cast_kept h e b c = let a = some_of _ c in ap answered ((next_kept o (after o h) (reached o h) e).grows.casts p b a.0 a.1)

  cast_below : (h : History) (b : ℕ) → b < votes o (stage_after o p h) → answered (((after o h).station p).cast b) ≡ true
  unfolding after
  cast_below start b l = absurd (not-suc-le-zero l)
  cast_below (h ▷ e) b l =
      by_bool (takes o p h e)
      (λ t.
      adds_below o p (ballot_at o (stage_after o p h)) ((after o (h ▷ e)).station p).cast _ _ (moves_after o p h e t).voted
      (λ i q.
      subst (λ (x : Station). answered (x.cast i) ≡ true) (sym (taken_station o (after o h) p e (taken_after o p h e t)))
      (casts_there o (after o h) p (stage_after o p h) ((after o h).station p) i q))
      (λ i k. cast_kept h e i (cast_below h i k)) b l)
      (λ t. cast_kept h e b (cast_below h b (subst (λ (y : ℕ). b < y) (sym (stays o p (votes o) refl h e t)) l)))

  cast_only_below : (h : History) (b : ℕ) → answered (((after o h).station p).cast b) ≡ true → b < votes o (stage_after o p h)
  cast_only_below h b c =
      by_bool (ltb b (votes o (stage_after o p h))) (λ t. ltb-true _ _ t)
      (λ t. no_clash true refl (sym (sym (ap answered (((reached o h).parts p).uncast b (ltb-false _ _ t))) ∙ c)))

  voted_below : (h : History) (b : ℕ) → Listed b (voted_in o p h) → b < votes o (stage_after o p h)
  voted_below h b i =
      let r = listed_below first_ballots (λ i. i) ballots_begin ballots_grow _ b (subst (Listed b) (voted_shown o p h) i) in
      subst (λ (x : ℕ). x < votes o (stage_after o p h)) r.2 r.1

  below_voted : (h : History) (b : ℕ) → b < votes o (stage_after o p h) → Listed b (voted_in o p h)
  below_voted h b l = subst (Listed b) (sym (voted_shown o p h)) (below_listed first_ballots (λ i. i) ballots_begin ballots_grow _ b l)

  pub voted_told : (h : History) (b : ℕ) → Listed b (voted_in o p h) ↔ (answered (((after o h).station p).cast b) ≡ true)
  voted_told h b = (λ i. cast_below h b (voted_below h b i), λ c. below_voted h b (cast_only_below h b c))

  -- ---- answers

  abbrev answers_of : History → ℕ → Option Bool
  answers_of h = (after o h).answer_of

  answer_listed : (h : History) (b : ℕ) (a : Bool) → b < answers_count o (stage_after o p h) → bit_of (answers_of h b) ≡ a
      → Listed (b, a) (answers_taken o p h)
  answer_listed h b a l e =
      subst (λ (x : Bool). Listed (b, x) (answers_taken o p h)) e
      (subst (Listed (b, bit_of (answers_of h b))) (sym (answers_shown o p h))
      (below_listed (answers_up_to (answers_of h)) (λ i. (i, bit_of (answers_of h i))) (answers_begin (answers_of h)) (answers_grow (answers_of h)) _ b l))

  listed_answer : (h : History) (b : ℕ) (a : Bool) → Listed (b, a) (answers_taken o p h)
      → (b < answers_count o (stage_after o p h)) × (bit_of (answers_of h b) ≡ a)
  listed_answer h b a i =
      let r = listed_below (answers_up_to (answers_of h)) (λ i. (i, bit_of (answers_of h i))) (answers_begin (answers_of h)) (answers_grow (answers_of h)) _
      (b, a) (subst (Listed (b, a)) (answers_shown o p h) i) in
      let same : r.0 ≡ b = ap (λ (x : ℕ × Bool). x.0) r.2 in (
        subst (λ (x : ℕ). x < answers_count o (stage_after o p h)) same r.1,
        sym (ap (λ (x : ℕ). bit_of (answers_of h x)) same) ∙ ap (λ (x : ℕ × Bool). x.1) r.2,
      )

  -- the stage g, at which so many answers are taken, says what is waited on
  took_by : (h : History) (b : ℕ) → waits_on o p h ≡ some b → b < answers_count o (stage_after o p h) → ⊥
  took_by h b w l =
      ⊎_elim (λ x. none-ne-some b (sym x.0 ∙ sym (waits_shown o p h) ∙ w))
      (λ x. let same = some-injective _ b (sym x.0 ∙ sym (waits_shown o p h) ∙ w) in omega arith) (behind o (stage_after o p h))

  not_waited : (h : History) (b : ℕ) → (waits_on o p h ≡ some b → ⊥) → b < votes o (stage_after o p h) → b < answers_count o (stage_after o p h)
  not_waited h b n l =
      ⊎_elim (λ x. subst (λ (m : ℕ). b < m) x.1 l)
      (λ x. below_suc b _ (subst (λ (m : ℕ). b < m) x.1 l) (λ k. k) (λ e. absurd (n (waits_shown o p h ∙ x.0 ∙ ap (λ (i : ℕ). some i) (sym e)))))
      (behind o (stage_after o p h))

  fewer : (h : History) (b : ℕ) → b < answers_count o (stage_after o p h) → b < votes o (stage_after o p h)
  fewer h b l = ⊎_elim (λ x. subst (λ (m : ℕ). b < m) (sym x.1) l) (λ x. subst (λ (m : ℕ). b < m) (sym x.1) (le_step l)) (behind o (stage_after o p h))

  pub took_told : (h : History) (b : ℕ) (a : Bool)
      → Listed (b, a) (answers_taken o p h) ↔ (Listed b (voted_in o p h) × (waits_on o p h ≡ some b → ⊥) × (first_answer o h b ≡ some a))
  took_told h b a = (
    λ i. let r = listed_answer h b a i in
        (below_voted h b (fewer h b r.0), λ w. took_by h b w r.0, first_answer_shown o h b ∙ known_bit _ a (taken_answered o p h b r.0) r.1),
    λ x. answer_listed h b a (not_waited h b x.1 (voted_below h b x.0)) (ap bit_of (sym (first_answer_shown o h b) ∙ x.2)),
  )
