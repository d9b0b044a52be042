-- What the list tells of a station is what its stage says: the ballot it waits on, the ballots it voted in (0, 1, 2, .. in this order),
-- the answers it took, and whether it has decided. An accepted STEP moves both alike, and nothing else moves either. Assumes nothing.
use Prim.Native.Nat.{ℕ, zero, suc, ◌+◌, ◌%◌, ◌<◌}
use mathlib.Core.Path.{◌≡◌, refl, sym, subst, ◌∙◌, ap, ap₂, fun_ext}
use mathlib.Core.Logic.{◌⊎◌, inl, inr, ⊎_elim}
use mathlib.Core.Bool.{Bool, true, false, cond, ◌&&◌}
use mathlib.Core.Option.{Option, none, some, none-ne-some, some-injective}
use mathlib.Core.List.{List, [], ◌∷◌, ◌++◌, map, append-nil, map-append}
use native.Mathlib.Omega.{arith}
use native.Mathlib.Nat.{le_refl, le_step, not-suc-le-zero}
use lib.Dec.{eqb}
use borrow.Author.Tests.{eqb-true, eq-eqb, ne_eqb}
use Rattle.bits.specs.Words.{low_agree}
use Rattle.bits.specs.Log.{ceil_log2}
use Rattle.consensus.specs.Events.{Event, claim, deliver, step, lose, answer, History, start, ◌▷◌, Rule, rule_1, rule_2, Opening}
use Rattle.consensus.specs.State.{Stage, idle, waiting, voting, awaiting, seeking, finish_voting, finish_awaiting, decided, Station, State, claim_of, held, answered, bit_of}
use Rattle.consensus.specs.Rules.{bit_ballot, finish_ballot, spelled, as_bit, number, first_stage, stage_after_seek, sought, finished, step_from, stage_number, effect, next, after}
use Rattle.consensus.specs.Terms.{ballot_at, decision, given, or_else, listed, paired, with_answer, accepts, takes, first_answer, voted_in, waits_on, answers_taken, Decided}
use Rattle.consensus.specs.Told.{awaited}
use Rattle.consensus.specs.Demand3.{first_ballots}
use Rattle.consensus.proofs.Basics.{update_ind}
use Rattle.basics.proofs.Bools.{by_bool, cond_ind, no_clash, not_false→true}
use Rattle.basics.proofs.Refusals.{refused_not}
use Rattle.consensus.proofs.Invariant.{PartOk, votes, votes_by}
use Rattle.consensus.proofs.Spelling.{below_suc}
use Rattle.consensus.proofs.Steps.{one_station, opening, idle_refused, decided_refused}
use Rattle.consensus.proofs.Reached.{Stands, AnswerFirst, answer_accepted, step_accepted, next_kept, reached}
use Rattle.consensus.proofs.Station.{Taken, taken, taken_station, taken_answers, untaken}

-- ---- the first accepted ANSWER is the answer that the play keeps

or_else_none : (x : Option Bool) → or_else x none ≡ x
or_else_none none = refl
or_else_none (some a) = refl

given_refused : (b : ℕ) (e : Event) → given b false e ≡ none
given_refused b (claim s v) = refl
given_refused b (deliver t s) = refl
given_refused b (step s) = refl
given_refused b (lose s) = refl
given_refused b (answer c a) = refl

given_accepted : (o : Opening) (st : State) (e : Event) (b : ℕ) → number o st e ≡ 0
    → or_else (st.answer_of b) (given b true e) ≡ (effect o st e).answer_of b
unfolding effect
given_accepted o st (claim s v) b n = or_else_none (st.answer_of b)
given_accepted o st (deliver t s) b n = or_else_none (st.answer_of b)
given_accepted o st (step s) b n = or_else_none (st.answer_of b)
given_accepted o st (lose s) b n = or_else_none (st.answer_of b)
given_accepted o st (answer c a) b n =
    update_ind (λ (x : Option Bool). or_else (st.answer_of b) (cond (eqb c b) (some (as_bit a)) none) ≡ x) st.answer_of c (some (as_bit a)) b
    (λ q.
    ap (λ (t : Bool). or_else (st.answer_of b) (cond t (some (as_bit a)) none)) (eq-eqb c b (sym q))
    ∙ ap (λ (x : Option Bool). or_else x (some (as_bit a))) (ap st.answer_of q) ∙ first (answer_accepted o st c a n).how)
    (λ ne. ap (λ (t : Bool). or_else (st.answer_of b) (cond t (some (as_bit a)) none)) (ne_eqb c b (λ q. ne (sym q))) ∙ or_else_none (st.answer_of b))
  where
    first : Stands o st c a ⊎ AnswerFirst o st c a → or_else (st.answer_of c) (some (as_bit a)) ≡ some (as_bit a)
    first (inl e) = ap (λ (x : Option Bool). or_else x (some (as_bit a))) e
    first (inr x) = ap (λ (y : Option Bool). or_else y (some (as_bit a))) x.unanswered

given_next : (o : Opening) (st : State) (e : Event) (b : ℕ) → or_else (st.answer_of b) (given b (eqb (number o st e) 0) e) ≡ (next o st e).answer_of b
unfolding next
given_next o st e b =
    by_bool (eqb (number o st e) 0)
    (λ t.
    ap (λ (x : Bool). or_else (st.answer_of b) (given b x e)) t
    ∙ given_accepted o st e b (eqb-true _ 0 t)
    ∙ ap (λ (x : Bool). (cond x (effect o st e) st).answer_of b) (sym t))
    (λ t.
    ap (λ (x : Bool). or_else (st.answer_of b) (given b x e)) t
    ∙ ap (or_else (st.answer_of b)) (given_refused b e)
    ∙ or_else_none (st.answer_of b)
    ∙ ap (λ (x : Bool). (cond x (effect o st e) st).answer_of b) (sym t))

pub first_answer_shown : (o : Opening) (h : History) (b : ℕ) → first_answer o h b ≡ (after o h).answer_of b
unfolding first_answer after
first_answer_shown o start b = refl
first_answer_shown o (h ▷ e) b =
    ap (λ (x : Option Bool). or_else x (given b (accepts o h e) e)) (first_answer_shown o h b) ∙ given_next o (after o h) e b

-- ---- what the stage says

-- how many answers it has taken
abbrev pub answers_by : Rule → Opening → Stage → ℕ
answers_by r o idle = 0
answers_by r o waiting = 0
answers_by r o (voting j k d) = bit_ballot o k
answers_by r o (awaiting j k d) = bit_ballot o k
answers_by r o (seeking j k d) = suc (bit_ballot o k)
answers_by r o (finish_voting j k d) = finish_ballot k
answers_by r o (finish_awaiting j k d) = finish_ballot k
answers_by r o (decided v k) = votes_by r o (decided v k)

abbrev pub answers_count : Opening → Stage → ℕ
answers_count o g = answers_by o.rule o g

-- one more than m, where something comes; and that is number m
abbrev pub Adds : Option ℕ → ℕ → ℕ → Type 0
Adds none m m' = m' ≡ m
Adds (some b) m m' = (b ≡ m) × (m' ≡ suc m)

-- a STEP from the stage g to the stage g'
pub record Moves (o : Opening) (g g' : Stage) : Type 0 where
  pub waits : ballot_at o g ≡ awaited o g'
  pub voted : Adds (ballot_at o g) (votes o g) (votes o g')
  pub answers : Adds (awaited o g) (answers_count o g) (answers_count o g')

first_moves : (n : ℕ) (r : Rule) (s v : ℕ) → Moves (opening n r) waiting (first_stage r n s v)
first_moves n rule_1 s v =
    cond_ind (Moves (opening n rule_1) waiting) (eqb n 1) (decided v 0) (voting s 0 0)
    (λ e. let none_left : ceil_log2 n ≡ 0 = ap ceil_log2 (eqb-true n 1 e) ∙ one_station in record { waits = refl; voted = none_left; answers = none_left })
    (λ e. record { waits = refl; voted = refl; answers = refl })
first_moves n rule_2 s v = record { waits = refl; voted = refl; answers = refl }

found_moves : (n : ℕ) (r : Rule) (st : State) (i j k d : ℕ) → Moves (opening n r) (seeking i k d) (stage_after_seek (opening n r) st r j k d)
found_moves n rule_1 st i j k d =
    cond_ind (Moves (opening n rule_1) (seeking i k d)) (eqb (suc k) (ceil_log2 n)) (decided (claim_of st j) k) (voting j (suc k) d)
    (λ e. record { waits = refl; voted = sym (eqb-true _ _ e); answers = sym (eqb-true _ _ e) })
    (λ e. record { waits = refl; voted = refl; answers = refl })
found_moves n rule_2 st i j k d = record { waits = refl; voted = omega arith; answers = omega arith }

sought_moves : (o : Opening) (st : State) (s i j k d : ℕ) → Moves o (seeking i k d) (sought o st s j k d)
sought_moves o st s i j k d =
    cond_ind (Moves o (seeking i k d)) (held st s j && low_agree k d (spelled o st j)) (stage_after_seek o st o.rule j k d) (seeking j k d)
    (λ e. found_moves o.count o.rule st i j k d)
    (λ e. record { waits = refl; voted = refl; answers = refl })

finished_moves_by : (n : ℕ) (a : Bool) (j k d : ℕ) → Moves (opening n rule_2) (finish_awaiting j k d) (finished a j k d)
finished_moves_by n true j k d = record { waits = refl; voted = refl; answers = (refl, refl) }
finished_moves_by n false j k d = record { waits = refl; voted = omega arith; answers = (refl, omega arith) }

pub by_claim : (o : Opening) → o.rule ≡ rule_2 → opening o.count rule_2 ≡ o
by_claim o r = λ i. record { count = o.count; rule = sym r i }

step_moves : (o : Opening) (st : State) (s : ℕ) (g : Stage) (p : Station) (holds : ℕ → Bool) (cast : ℕ → Option Bool)
    → PartOk o st s g holds cast → stage_number o st s g ≡ 0 → Moves o g (step_from o st s g p).stage
unfolding step_from
step_moves o st s idle p holds cast x n = absurd (idle_refused o st s n)
step_moves o st s waiting p holds cast x n = first_moves o.count o.rule s p.own_claim
step_moves o st s (voting j k d) p holds cast x n = record { waits = refl; voted = (refl, refl); answers = refl }
step_moves o st s (awaiting j k d) p holds cast x n = record { waits = refl; voted = refl; answers = (refl, refl) }
step_moves o st s (seeking j k d) p holds cast x n = sought_moves o st s j ((j + 1) % o.count) k d
step_moves o st s (finish_voting j k d) p holds cast x n = record { waits = refl; voted = (refl, refl); answers = refl }
step_moves o st s (finish_awaiting j k d) p holds cast x n =
    let a = bit_of (st.answer_of (finish_ballot k)) in
    subst (λ (y : Opening). Moves y (finish_awaiting j k d) (finished a j k d)) (by_claim o x.stage.0) (finished_moves_by o.count a j k d)
step_moves o st s (decided v k) p holds cast x n = absurd (decided_refused o st s v k n)

-- the ballot that an accepted STEP had waited on is answered
waited_answered : (o : Opening) (st : State) (s : ℕ) (g : Stage) (b : ℕ) → awaited o g ≡ some b → stage_number o st s g ≡ 0
    → answered (st.answer_of b) ≡ true
unfolding stage_number
waited_answered o st s idle b w n = absurd (none-ne-some b w)
waited_answered o st s waiting b w n = absurd (none-ne-some b w)
waited_answered o st s (voting j k d) b w n = absurd (none-ne-some b w)
waited_answered o st s (awaiting j k d) b w n =
    subst (λ (x : ℕ). answered (st.answer_of x) ≡ true) (some-injective _ b w) (not_false→true _ (refused_not _ _ _ refl n).0)
waited_answered o st s (seeking j k d) b w n = absurd (none-ne-some b w)
waited_answered o st s (finish_voting j k d) b w n = absurd (none-ne-some b w)
waited_answered o st s (finish_awaiting j k d) b w n =
    subst (λ (x : ℕ). answered (st.answer_of x) ≡ true) (some-injective _ b w) (not_false→true _ (refused_not _ _ _ refl n).0)
waited_answered o st s (decided v k) b w n = absurd (none-ne-some b w)

-- the ballots 0, 1, .., m - 1 with their answers
unfoldable pub answers_up_to : (ℕ → Option Bool) → ℕ → List (ℕ × Bool)
answers_up_to f zero = []
answers_up_to f (suc m) = answers_up_to f m ++ ((m, bit_of (f m)) ∷ [])

adds_ballot : (x : Option ℕ) (m m' : ℕ) → Adds x m m' → first_ballots m ++ listed true x ≡ first_ballots m'
unfolding first_ballots
adds_ballot none m m' e = append-nil (first_ballots m) ∙ ap first_ballots (sym e)
adds_ballot (some b) m m' e = ap (λ (i : ℕ). first_ballots m ++ (i ∷ [])) e.0 ∙ ap first_ballots (sym e.1)

paired_answered : (b : ℕ) (x : Option Bool) → answered x ≡ true → paired b x ≡ some (b, bit_of x)
paired_answered b none e = no_clash true refl (sym e)
paired_answered b (some a) e = refl

adds_answer : (x : Option ℕ) (f : ℕ → Option Bool) (m m' : ℕ) → ((b : ℕ) → x ≡ some b → answered (f b) ≡ true) → Adds x m m'
    → answers_up_to f m ++ listed true (with_answer x f) ≡ answers_up_to f m'
unfolding answers_up_to
adds_answer none f m m' a e = append-nil (answers_up_to f m) ∙ ap (answers_up_to f) (sym e)
adds_answer (some b) f m m' a e =
    ap (λ (y : Option (ℕ × Bool)). answers_up_to f m ++ listed true y) (paired_answered b (f b) (a b refl))
    ∙ ap (λ (i : ℕ). answers_up_to f m ++ ((i, bit_of (f i)) ∷ [])) e.0
    ∙ ap (answers_up_to f) (sym e.1)

-- without the answers they are the first ballots
pub answers_ballots : (f : ℕ → Option Bool) (m : ℕ) → map (λ x. x.0) (answers_up_to f m) ≡ first_ballots m
unfolding answers_up_to first_ballots
answers_ballots f zero = refl
answers_ballots f (suc m) =
    map-append (λ x. x.0) (answers_up_to f m) ((m, bit_of (f m)) ∷ []) ∙ ap (λ (l : List ℕ). l ++ (m ∷ [])) (answers_ballots f m)

answers_same : (f g : ℕ → Option Bool) (m : ℕ) → ((i : ℕ) → i < m → f i ≡ g i) → answers_up_to f m ≡ answers_up_to g m
unfolding answers_up_to
answers_same f g zero e = refl
answers_same f g (suc m) e =
    ap₂ (λ (l : List (ℕ × Bool)) (x : Option Bool). l ++ ((m, bit_of x) ∷ [])) (answers_same f g m (λ i l. e i (le_step l))) (e m (le_refl (suc m)))

pub some_of : (x : Option Bool) → answered x ≡ true → (a : Bool) × (x ≡ some a)
some_of none e = no_clash true refl (sym e)
some_of (some a) e = (a, refl)

module _ (o : Opening) (p : ℕ) where
  abbrev pub stage_after : History → Stage
  stage_after h = ((after o h).station p).stage

  pub taken_after : (h : History) (e : Event) → takes o p h e ≡ true → Taken o (after o h) p e
  taken_after h e t = taken o (after o h) p e t

  pub moves_after : (h : History) (e : Event) → takes o p h e ≡ true → Moves o (stage_after h) (stage_after (h ▷ e))
  unfolding after
  moves_after h e t =
      let k = taken_after h e t in
      subst (λ (x : Station). Moves o (stage_after h) x.stage) (sym (taken_station o (after o h) p e k))
      (step_moves o (after o h) p (stage_after h) ((after o h).station p) _ _ ((reached o h).parts p) (step_accepted o (after o h) p k.accepted).stage)

  -- where the STEP is not p's, or is refused: what a function of the stage says of idle and of waiting is the same, so it stays
  pub stays : {A : Type 0} (f : Stage → A) → f idle ≡ f waiting → (h : History) (e : Event) → takes o p h e ≡ false
      → f (stage_after h) ≡ f (stage_after (h ▷ e))
  unfolding after
  stays f i h e t = ⊎_elim (λ s. ap f (sym s)) (λ s. ap f s.0 ∙ i ∙ ap f (sym s.1)) (untaken o (after o h) p e t)

  pub waits_shown : (h : History) → waits_on o p h ≡ awaited o (stage_after h)
  unfolding waits_on after
  waits_shown start = refl
  waits_shown (h ▷ e) =
      by_bool (takes o p h e)
      (λ t. ap (λ (b : Bool). cond b (ballot_at o (stage_after h)) (waits_on o p h)) t ∙ (moves_after h e t).waits)
      (λ t.
      ap (λ (b : Bool). cond b (ballot_at o (stage_after h)) (waits_on o p h)) t
      ∙ waits_shown h
      ∙ stays (awaited o) refl h e t)

  pub voted_shown : (h : History) → voted_in o p h ≡ first_ballots (votes o (stage_after h))
  unfolding voted_in after first_ballots
  voted_shown start = refl
  voted_shown (h ▷ e) =
      by_bool (takes o p h e)
      (λ t.
      ap₂ (λ (l : List ℕ) (b : Bool). l ++ listed b (ballot_at o (stage_after h))) (voted_shown h) t
      ∙ adds_ballot (ballot_at o (stage_after h)) _ _ (moves_after h e t).voted)
      (λ t.
      ap (λ (b : Bool). voted_in o p h ++ listed b (ballot_at o (stage_after h))) t
      ∙ append-nil (voted_in o p h)
      ∙ voted_shown h
      ∙ ap first_ballots (stays (votes o) refl h e t))

  -- the ballot that an accepted STEP of p had waited on is answered
  waited_after : (h : History) (e : Event) → takes o p h e ≡ true → (b : ℕ) → awaited o (stage_after h) ≡ some b
      → answered ((after o h).answer_of b) ≡ true
  waited_after h e t b w =
      waited_answered o (after o h) p (stage_after h) b w (step_accepted o (after o h) p (taken_after h e t).accepted).stage

  pub adds_below : (x : Option ℕ) (f : ℕ → Option Bool) (m m' : ℕ) → Adds x m m' → ((b : ℕ) → x ≡ some b → answered (f b) ≡ true)
      → ((i : ℕ) → i < m → answered (f i) ≡ true) → (i : ℕ) → i < m' → answered (f i) ≡ true
  adds_below none f m m' e a old i l = old i (subst (λ (y : ℕ). i < y) e l)
  adds_below (some b) f m m' e a old i l =
      below_suc i m (subst (λ (y : ℕ). i < y) e.1 l) (old i) (λ q. subst (λ (y : ℕ). answered (f y) ≡ true) (e.0 ∙ sym q) (a b refl))

  -- every ballot below the count of answers taken is answered
  pub taken_answered : (h : History) (i : ℕ) → i < answers_count o (stage_after h) → answered ((after o h).answer_of i) ≡ true
  unfolding after
  taken_answered start i l = absurd (not-suc-le-zero l)
  taken_answered (h ▷ e) i l =
      by_bool (takes o p h e)
      (λ t.
      subst (λ (f : ℕ → Option Bool). answered (f i) ≡ true) (sym (taken_answers o (after o h) p e (taken_after h e t)))
      (adds_below (awaited o (stage_after h)) (after o h).answer_of _ _ (moves_after h e t).answers (waited_after h e t) (taken_answered h) i l))
      (λ t.
      let a = some_of _ (taken_answered h i (subst (λ (y : ℕ). i < y) (sym (stays (answers_count o) refl h e t)) l)) in
      ap answered ((next_kept o (after o h) (reached o h) e).grows.answers i a.0 a.1))

  pub answers_shown : (h : History) → answers_taken o p h ≡ answers_up_to (after o h).answer_of (answers_count o (stage_after h))
  unfolding answers_taken after answers_up_to
  answers_shown start = refl
  answers_shown (h ▷ e) = by_bool (takes o p h e) (λ t. yes_case t (answers_shown h)) (λ t. no_case t (answers_shown h))
    where
      f : ℕ → Option Bool
      f = (after o h).answer_of

      g : Stage
      g = stage_after h

      yes_case : takes o p h e ≡ true → answers_taken o p h ≡ answers_up_to f (answers_count o g)
          → answers_taken o p h ++ listed (takes o p h e) (with_answer (waits_on o p h) (first_answer o h))
          ≡ answers_up_to (next o (after o h) e).answer_of (answers_count o (stage_after (h ▷ e)))
      yes_case t ih =
          ap₂ (λ (l : List (ℕ × Bool)) (b : Bool). l ++ listed b (with_answer (waits_on o p h) (first_answer o h))) ih t
          ∙ ap₂ (λ (w : Option ℕ) (a : ℕ → Option Bool). answers_up_to f (answers_count o g) ++ listed true (with_answer w a)) (waits_shown h)
          (fun_ext (first_answer_shown o h))
          ∙ adds_answer (awaited o g) f _ _ (waited_after h e t) (moves_after h e t).answers
          ∙ ap (λ (a : ℕ → Option Bool). answers_up_to a (answers_count o (stage_after (h ▷ e)))) (sym (taken_answers o (after o h) p e (taken_after h e t)))

      no_case : takes o p h e ≡ false → answers_taken o p h ≡ answers_up_to f (answers_count o g)
          → answers_taken o p h ++ listed (takes o p h e) (with_answer (waits_on o p h) (first_answer o h))
          ≡ answers_up_to (next o (after o h) e).answer_of (answers_count o (stage_after (h ▷ e)))
      no_case t ih =
          ap (λ (b : Bool). answers_taken o p h ++ listed b (with_answer (waits_on o p h) (first_answer o h))) t
          ∙ append-nil (answers_taken o p h)
          ∙ ih
          ∙ answers_same f (next o (after o h) e).answer_of (answers_count o g)
          (λ i l. let a = some_of _ (taken_answered h i l) in a.1 ∙ sym ((next_kept o (after o h) (reached o h) e).grows.answers i a.0 a.1))
          ∙ ap (answers_up_to (next o (after o h) e).answer_of) (stays (answers_count o) refl h e t)

  -- a decided station takes no step
  no_step : (h : History) (e : Event) (v : ℕ) → takes o p h e ≡ true → decision (stage_after h) ≡ some v → ⊥
  no_step h e v t d = go (stage_after h) d (step_accepted o (after o h) p (taken_after h e t).accepted).stage
    where
      go : (g : Stage) → decision g ≡ some v → stage_number o (after o h) p g ≡ 0 → ⊥
      go idle d n = none-ne-some v d
      go waiting d n = none-ne-some v d
      go (voting j k w) d n = none-ne-some v d
      go (awaiting j k w) d n = none-ne-some v d
      go (seeking j k w) d n = none-ne-some v d
      go (finish_voting j k w) d n = none-ne-some v d
      go (finish_awaiting j k w) d n = none-ne-some v d
      go (decided w k) d n = decided_refused o (after o h) p w k n

  pub decided_shown : (v : ℕ) (h : History) → Decided o p v h → decision (stage_after h) ≡ some v
  unfolding after
  decided_shown v start d = absurd d
  decided_shown v (h ▷ e) (inl d) =
      by_bool (takes o p h e) (λ t. absurd (no_step h e v t (decided_shown v h d))) (λ t. sym (stays decision refl h e t) ∙ decided_shown v h d)
  decided_shown v (h ▷ e) (inr x) = x.1

  pub shown_decided : (v : ℕ) (h : History) → decision (stage_after h) ≡ some v → Decided o p v h
  unfolding after
  shown_decided v start d = absurd (none-ne-some v d)
  shown_decided v (h ▷ e) d =
      by_bool (takes o p h e) (λ t. inr (t, d)) (λ t. inl (shown_decided v h (stays decision refl h e t ∙ d)))
