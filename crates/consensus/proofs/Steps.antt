-- Each accepted STEP keeps the invariant: a vote is cast for a claim that is held and fits the answers so far, an answer was cast for such a claim,
-- and a seek ends only at one. A case for each stage. Assumes nothing.
use Prim.Native.Nat.{ℕ, zero, suc, ◌+◌, ◌*◌, ◌%◌, ◌^◌, ◌<◌, ◌≤◌, zero-le}
use mathlib.Core.Path.{◌≡◌, refl, sym, subst, ◌∙◌, ap}
use mathlib.Core.Logic.{◌⊎◌, inl, inr}
use mathlib.Core.Bool.{Bool, true, false, ◌&&◌}
use mathlib.Core.Option.{Option, none, some, none-ne-some, some-injective}
use native.Mathlib.Omega.{arith}
use native.Mathlib.Nat.{lt_of_lt_of_le, mod-lt, lt_irrefl}
use lib.Dec.{eqb}
use borrow.Author.Tests.{eqb-true, eqb-false}
use Rattle.bits.specs.Digits.{bit}
use Rattle.bits.specs.Words.{with_bit, low_agree}
use Rattle.bits.specs.Log.{ceil_log2}
use Rattle.bits.proofs.Digits.{bit_above}
use Rattle.bits.proofs.Log.{log_enough}
use Rattle.consensus.specs.Events.{Rule, rule_1, rule_2, Opening}
use Rattle.consensus.specs.State.{Stage, idle, waiting, voting, awaiting, seeking, finish_voting, finish_awaiting, decided, State, not_idle, claimed, claim_of, held, answered, bit_of, update, set_station}
use Rattle.consensus.specs.Rules.{bit_ballot, bit_ballot_by, finish_ballot, spelled, stage_number, first_stage, stage_after_seek, finished, step_from}
use Rattle.consensus.proofs.Basics.{update_ind, update_same}
use Rattle.basics.proofs.Bools.{cond_ind, no_clash, not_false→true, and_true}
use Rattle.basics.proofs.Refusals.{refused_not}
use Rattle.consensus.proofs.Invariant.{Fits, Word, Candidate, Unfinished, RoundBy, FinishCast, CastOk, Spelling, Seeking, DecidedBy, StageOk, PartOk, Inv, votes, votes_by}
use Rattle.consensus.proofs.Own.{Kept, moved, move_kept}
use Rattle.consensus.proofs.Spelling

abbrev pub opening : ℕ → Rule → Opening
opening n r = record { count = n; rule = r }

-- an answered ballot has a bit
pub some_answer : (x : Option Bool) → answered x ≡ true → x ≡ some (bit_of x)
some_answer none e = no_clash true refl (sym e)
some_answer (some a) e = refl

-- idle and decided stations take no step
pub idle_refused : (o : Opening) (st : State) (s : ℕ) → stage_number o st s idle ≡ 0 → ⊥
unfolding stage_number
idle_refused o st s e = omega arith

pub decided_refused : (o : Opening) (st : State) (s v k : ℕ) → stage_number o st s (decided v k) ≡ 0 → ⊥
unfolding stage_number
decided_refused o st s v k e = omega arith

-- with two stations or more there is a round
pub some_round : (n : ℕ) → 0 < n → (n ≡ 1 → ⊥) → 0 < ceil_log2 n
some_round n p ne = go (ceil_log2 n) (log_enough n)
  where
    go : (r : ℕ) → n ≤ 2 ^ r → 0 < r
    go zero l = absurd (ne (omega arith))
    go (suc r) l = omega arith

pub one_station : ceil_log2 1 ≡ 0
unfolding ceil_log2 Rattle.bits.specs.Log.least_from
one_station = refl

-- from the stage g the station may go to the stage g' with its casts as they are
pub record Restaged (o : Opening) (st : State) (s : ℕ) (g g' : Stage) : Type 0 where
  pub active : not_idle g' ≡ true
  pub more : (b : ℕ) → votes o g' ≤ b → votes o g ≤ b
  pub ok : StageOk o st g' (st.station s).holds (st.station s).cast

first_ok : (n : ℕ) (r : Rule) (st : State) (s : ℕ) → s < n → held st s s ≡ true → claimed st s ≡ true
    → Restaged (opening n r) st s waiting (first_stage r n s (claim_of st s))
first_ok n rule_1 st s l h c =
    cond_ind (λ (g : Stage). Restaged (opening n rule_1) st s waiting g) (eqb n 1) (decided (claim_of st s) 0) (voting s 0 0)
    (λ e. record { active = refl; more = λ b m. zero-le; ok = (s, alone (eqb-true n 1 e), c, refl) })
    (λ e. record {
      active = refl;
      more = λ b m. zero-le;
      ok = record {
        round = some_round n (omega arith) (eqb-false n 1 e);
        word = Spelling.word_empty _ st;
        mine = h;
        fits = Spelling.fits_none (opening n rule_1) st s;
      };
    })
  where
    alone : n ≡ 1 → Word (opening n rule_1) st (ceil_log2 n) s
    alone e =
        let none_left : ceil_log2 n ≡ 0 = ap ceil_log2 e ∙ one_station in
        let first : s ≡ 0 = omega arith in
        subst (λ (k : ℕ). Word (opening n rule_1) st k s) (sym none_left)
        (subst (λ (d : ℕ). Word (opening n rule_1) st 0 d) (sym first) (Spelling.word_empty _ st))
first_ok n rule_2 st s l h c = record {
  active = refl;
  more = λ b m. zero-le;
  ok = record { round = λ i m. absurd (native.Mathlib.Nat.not-suc-le-zero m); word = Spelling.word_empty _ st; mine = h; fits = Spelling.fits_none (opening n rule_2) st s };
}

-- seeking ends at j
found_ok : (n : ℕ) (r : Rule) (st : State) (s i j k d : ℕ) → j < n → (st.station s).holds j ≡ true → claimed st j ≡ true
    → Seeking (opening n r) st i k d → Fits (opening n r) st (suc k) j
    → Restaged (opening n r) st s (seeking i k d) (stage_after_seek (opening n r) st r j k d)
found_ok n rule_1 st s i j k d l h c x f =
    cond_ind (λ (g : Stage). Restaged (opening n rule_1) st s (seeking i k d) g) (eqb (suc k) (ceil_log2 n)) (decided (claim_of st j) k) (voting j (suc k) d)
    (λ e.
    let last : suc k ≡ ceil_log2 n = eqb-true _ _ e in record {
      active = refl;
      more = λ b m. let z = last in omega arith;
      ok = (
        j,
        record {
          answers = subst (λ (y : ℕ). Fits (opening n rule_1) st y j) last f;
          above = bit_above (ceil_log2 n) j (lt_of_lt_of_le l (log_enough n));
        },
        c,
        refl,
      );
    })
    (λ e. record {
      active = refl;
      more = λ b m. m;
      ok = record { round = lib.Arith.lt_of_le-ne x.round (eqb-false _ _ e); word = x.word; mine = h; fits = f };
    })
found_ok n rule_2 st s i j k d l h c x f = record {
  active = refl;
  more = λ b m. omega arith;
  ok = (refl, record { round = x.round; word = x.word; mine = h; fits = f });
}

module _ (o : Opening) (st : State) (s : ℕ) (inv : Inv o st) (below : s < o.count) where
  abbrev holds : ℕ → Bool
  holds = (st.station s).holds

  abbrev cast : ℕ → Option Bool
  cast = (st.station s).cast

  abbrev Part : Stage → Type 0
  Part g = PartOk o st s g holds cast

  -- another stage, and the same casts
  restage : (g g' : Stage) → Part g → not_idle g' ≡ true → ((b : ℕ) → votes o g' ≤ b → votes o g ≤ b) → StageOk o st g' holds cast
      → Kept o st (set_station st s (moved st s g' cast))
  restage g g' x active more ok = move_kept o st s g' cast inv (record {
    station = below;
    active = active;
    kept = λ b a e. e;
    new = λ b a e. inl e;
    uncast = λ b l. x.uncast b (more b l);
    stage = ok;
  })

  -- another stage, and a vote a in the ballot b, the first that the station has not voted in
  recast : (g g' : Stage) (b : ℕ) (a : Bool) → Part g → not_idle g' ≡ true → votes o g ≡ b → votes o g' ≡ suc b → CastOk o st b a
      → (((c : ℕ → Option Bool) → c b ≡ some a → StageOk o st g' holds c))
      → Kept o st (set_station st s (moved st s g' (update cast b (some a))))
  recast g g' b a x active was is reason ok = move_kept o st s g' (update cast b (some a)) inv (record {
    station = below;
    active = active;
    kept = λ i y e.
        update_ind (λ (z : Option Bool). z ≡ some y) cast b (some a) i
        (λ q. absurd (none-ne-some y (sym (x.uncast i (let f = was in omega arith)) ∙ e)))
        (λ ne. e);
    new = λ i y.
        update_ind (λ (z : Option Bool). z ≡ some y → (cast i ≡ some y) ⊎ CastOk o st i y) cast b (some a) i
        (λ q e. inr (subst (λ (z : Bool). CastOk o st i z) (some-injective a y e) (subst (λ (z : ℕ). CastOk o st z a) (sym q) reason)))
        (λ ne e. inl e);
    uncast = λ i l.
        update_ind (λ (z : Option Bool). z ≡ none) cast b (some a) i
        (λ q. absurd (lt_irrefl i (let f = is in let m = l in omega arith)))
        (λ ne. x.uncast i (let f = was in let h = is in let m = l in omega arith));
    stage = ok (update cast b (some a)) (update_same cast b (some a));
  })

  claimed_of : (g : Stage) → Part g → (t : ℕ) → holds t ≡ true → claimed st t ≡ true
  claimed_of g x t e = (x.holdings t e).2

  own_candidate : (k j : ℕ) (g : Stage) → Part g → holds j ≡ true → Fits o st k j → Candidate o st k j
  own_candidate k j g x e f = record { holder = s; is_held = e; is_claimed = claimed_of g x j e; fits = f }

  from_voting : (j k d : ℕ) → Part (voting j k d) → Kept o st (set_station st s (step_from o st s (voting j k d) (st.station s)))
  unfolding step_from
  from_voting j k d x =
      recast (voting j k d) (awaiting j k d) (bit_ballot o k) (bit k (spelled o st j)) x refl refl refl
      (inl (
        k,
        refl,
        record {
          source = j;
          candidate = own_candidate k j _ x x.stage.mine x.stage.fits;
          is_bit = refl;
          round = x.stage.round;
        },
      ))
      (λ c e. (x.stage, e))

  from_awaiting : (j k d : ℕ) → Part (awaiting j k d) → stage_number o st s (awaiting j k d) ≡ 0
      → Kept o st (set_station st s (step_from o st s (awaiting j k d) (st.station s)))
  unfolding step_from stage_number
  from_awaiting j k d x e =
      let a = bit_of (st.answer_of (bit_ballot o k)) in
      let ans : st.answer_of (bit_ballot o k) ≡ some a = some_answer _ (not_false→true _ (refused_not _ 8 0 refl e).0) in
      restage (awaiting j k d) (seeking j k (with_bit k a d)) x refl (λ b l. l) (record {
        round = x.stage.0.round;
        word = Spelling.word_more o st k d a x.stage.0.word ans;
        cursor = (x.holdings j x.stage.0.mine).1;
        source = (Spelling.bit_answer o st inv k a ans).source;
        candidate = Spelling.answer_candidate o st inv k a ans;
      })

  restaged : (g g' : Stage) → Part g → Restaged o st s g g' → Kept o st (set_station st s (moved st s g' cast))
  restaged g g' x r = restage g g' x r.active r.more r.ok

  from_waiting : Part waiting → claimed st s ≡ true → stage_number o st s waiting ≡ 0
      → Kept o st (set_station st s (step_from o st s waiting (st.station s)))
  unfolding step_from stage_number
  from_waiting x c e =
      restaged waiting _ x (first_ok o.count o.rule st s below (not_false→true _ (refused_not _ 8 0 refl e).0) c)

  seek_on : (i j k d : ℕ) → j < o.count → Seeking o st i k d → Restaged o st s (seeking i k d) (seeking j k d)
  seek_on i j k d l x = record {
    active = refl;
    more = λ b m. m;
    ok = record { round = x.round; word = x.word; cursor = l; source = x.source; candidate = x.candidate };
  }

  from_seeking : (j k d : ℕ) → Part (seeking j k d) → Kept o st (set_station st s (step_from o st s (seeking j k d) (st.station s)))
  unfolding step_from
  from_seeking j k d x =
      let i = (j + 1) % o.count in
      let l : i < o.count = mod-lt (j + 1) (omega arith) in
      let test = held st s i && low_agree k d (spelled o st i) in
      restaged (seeking j k d) _ x
      (cond_ind (λ (g : Stage). Restaged o st s (seeking j k d) g) test (stage_after_seek o st o.rule i k d) (seeking i k d)
      (λ e.
      let both = and_true (held st s i) (low_agree k d (spelled o st i)) e in
      found_ok o.count o.rule st s j i k d l both.0 (claimed_of _ x i both.0) x.stage (Spelling.agree_fits o st k d i x.stage.word both.1))
      (λ e. seek_on j i k d l x.stage))

  -- the finish vote: 1 where the word is the cursor's whole claim; else that claim has a higher bit
  finish_reason : (j k d : ℕ) → o.rule ≡ rule_2 → Part (finish_voting j k d) → FinishCast o st k (eqb d (claim_of st j))
  finish_reason j k d r x =
      let y = x.stage.1 in
      let same = Spelling.spelled_claim o st r j in record {
        source = j;
        candidate = own_candidate (suc k) j _ x y.mine y.fits;
        whole = λ e i l. ap (bit i) (sym (eqb-true d (claim_of st j) e)) ∙ y.word.above i l;
        longer = λ e.
            Spelling.higher_bit (suc k) d (claim_of st j)
            (λ i l. some-injective _ _ (sym (y.word.answers i l) ∙ y.fits i l) ∙ ap (bit i) same)
            y.word.above
            (eqb-false d (claim_of st j) e);
        unfinished = Spelling.unfinished_of o st r k y.round;
      }

  from_finish_voting : (j k d : ℕ) → Part (finish_voting j k d)
      → Kept o st (set_station st s (step_from o st s (finish_voting j k d) (st.station s)))
  unfolding step_from
  from_finish_voting j k d x =
      recast (finish_voting j k d) (finish_awaiting j k d) (finish_ballot k) (eqb d (claim_of st j)) x refl refl refl
      (inr (x.stage.0, (k, refl, finish_reason j k d x.stage.0 x)))
      (λ c e. (x.stage.0, x.stage.1, e))

  -- the finish answer 1: the claim that was spelled whole is the word
  finish_decides : (j k d : ℕ) → o.rule ≡ rule_2 → Spelling o st holds j k (suc k) d → st.answer_of (finish_ballot k) ≡ some true
      → Restaged o st s (finish_awaiting j k d) (decided d k)
  finish_decides j k d r y e =
      let c = Spelling.finish_answer o st inv r k true e in
      let t = c.source in
      let same = Spelling.spelled_claim o st r t in
      let word : Word o st (suc k) (spelled o st t) =
      record { answers = c.candidate.fits; above = λ i l. ap (bit i) same ∙ c.whole refl i l }
      in
      let by : DecidedBy o rule_2 st d k =
      (t, y.word, c.candidate.is_claimed, sym same ∙ Spelling.word_unique o st (suc k) _ d word y.word, c.unfinished, e)
      in
      record {
        active = refl;
        more = λ b l. subst (λ (q : Rule). votes_by q o (decided d k) ≤ b) r l;
        ok = subst (λ (q : Rule). DecidedBy o q st d k) (sym r) by;
      }

  -- the finish answer 0: the next round
  finish_goes_on : (j k d : ℕ) → o.rule ≡ rule_2 → Spelling o st holds j k (suc k) d → st.answer_of (finish_ballot k) ≡ some false
      → Restaged o st s (finish_awaiting j k d) (voting j (suc k) d)
  finish_goes_on j k d r y e =
      let u = Spelling.unfinished_of o st r k y.round in
      let more : Unfinished o st (suc k) = λ i l.
      Spelling.below_suc i k l (u i) (λ q. subst (λ (m : ℕ). st.answer_of (finish_ballot m) ≡ some false) (sym q) e)
      in
      record {
        active = refl;
        more = λ b l. let m : 2 * suc k ≤ b = subst (λ (q : Rule). bit_ballot_by q (suc k) ≤ b) r l in omega arith;
        ok = record { round = subst (λ (q : Rule). RoundBy o q st (suc k)) (sym r) more; word = y.word; mine = y.mine; fits = y.fits };
      }

  from_finish_awaiting : (j k d : ℕ) → Part (finish_awaiting j k d) → stage_number o st s (finish_awaiting j k d) ≡ 0
      → Kept o st (set_station st s (step_from o st s (finish_awaiting j k d) (st.station s)))
  unfolding step_from stage_number
  from_finish_awaiting j k d x e = restaged (finish_awaiting j k d) _ x (go _ (some_answer _ (not_false→true _ (refused_not _ _ _ refl e).0)))
    where
      go : (a : Bool) → st.answer_of (finish_ballot k) ≡ some a → Restaged o st s (finish_awaiting j k d) (finished a j k d)
      go true f = finish_decides j k d x.stage.0 x.stage.1 f
      go false f = finish_goes_on j k d x.stage.0 x.stage.1 f

  -- every accepted STEP, by the stage g that the station is at
  pub step_keeps : (g : Stage) → (st.station s).stage ≡ g → stage_number o st s g ≡ 0
      → Kept o st (set_station st s (step_from o st s g (st.station s)))
  step_keeps g e n = go g (subst Part e (inv.parts s)) (λ a. ap not_idle e ∙ a) n
    where
      go : (g : Stage) → Part g → (not_idle g ≡ true → claimed st s ≡ true) → stage_number o st s g ≡ 0
          → Kept o st (set_station st s (step_from o st s g (st.station s)))
      go idle x c n = absurd (idle_refused o st s n)
      go waiting x c n = from_waiting x (c refl) n
      go (voting j k d) x c n = from_voting j k d x
      go (awaiting j k d) x c n = from_awaiting j k d x n
      go (seeking j k d) x c n = from_seeking j k d x
      go (finish_voting j k d) x c n = from_finish_voting j k d x
      go (finish_awaiting j k d) x c n = from_finish_awaiting j k d x n
      go (decided v k) x c n = absurd (decided_refused o st s v k n)
