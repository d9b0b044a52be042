-- What all can see only grows: claims put in, claims held, bits cast, answers. Each part of the invariant speaks of what is there
-- and so outlives any event. Assumes nothing.
use Prim.Native.Nat.{ℕ, suc}
use mathlib.Core.Path.{◌≡◌, refl, sym, ◌∙◌, ap}
use mathlib.Core.Logic.{inl, inr}
use mathlib.Core.Bool.{Bool, true}
use mathlib.Core.Option.{Option, some}
use Rattle.bits.specs.Digits.{bit}
use Rattle.consensus.specs.Events.{Rule, rule_1, rule_2, Opening}
use Rattle.consensus.specs.State.{Stage, idle, waiting, voting, awaiting, seeking, finish_voting, finish_awaiting, decided, State, claimed, claim_of, held}
use Rattle.consensus.specs.Rules.{spelled, spelled_by}
use Rattle.consensus.proofs.Invariant.{Fits, Word, Candidate, Unfinished, Round, RoundBy, BitCast, FinishCast, CastOk, Spelling, DecidedBy, StageOk, PartOk}

pub record Grows (st st' : State) : Type 0 where
  pub claims : (s : ℕ) → claimed st s ≡ true → (claimed st' s ≡ true) × (claim_of st' s ≡ claim_of st s)
  pub helds : (s t : ℕ) → held st s t ≡ true → held st' s t ≡ true
  pub answers : (b : ℕ) (a : Bool) → st.answer_of b ≡ some a → st'.answer_of b ≡ some a
  pub casts : (s b : ℕ) (a : Bool) → (st.station s).cast b ≡ some a → (st'.station s).cast b ≡ some a

pub grows_refl : (st : State) → Grows st st
grows_refl st = record { claims = λ s e. (e, refl); helds = λ s t e. e; answers = λ b a e. e; casts = λ s b a e. e }

module _ (o : Opening) (st st' : State) (g : Grows st st') where
  spelled_grows_by : (r : Rule) (t : ℕ) → claimed st t ≡ true → spelled_by r st' t ≡ spelled_by r st t
  spelled_grows_by rule_1 t e = refl
  spelled_grows_by rule_2 t e = (g.claims t e).1

  pub spelled_grows : (t : ℕ) → claimed st t ≡ true → spelled o st' t ≡ spelled o st t
  spelled_grows t e = spelled_grows_by o.rule t e

  pub fits_grows : (k t : ℕ) → claimed st t ≡ true → Fits o st k t → Fits o st' k t
  fits_grows k t e f i l = g.answers _ _ (f i l) ∙ ap (λ (x : ℕ). some (bit i x)) (sym (spelled_grows t e))

  pub word_grows : (k d : ℕ) → Word o st k d → Word o st' k d
  word_grows k d w = record { answers = λ i l. g.answers _ _ (w.answers i l); above = w.above }

  pub candidate_grows : (k t : ℕ) → Candidate o st k t → Candidate o st' k t
  candidate_grows k t c = record {
    holder = c.holder;
    is_held = g.helds _ _ c.is_held;
    is_claimed = (g.claims _ c.is_claimed).0;
    fits = fits_grows k t c.is_claimed c.fits;
  }

  pub unfinished_grows : (k : ℕ) → Unfinished o st k → Unfinished o st' k
  unfinished_grows k u i l = g.answers _ _ (u i l)

  round_grows_by : (r : Rule) (k : ℕ) → RoundBy o r st k → RoundBy o r st' k
  round_grows_by rule_1 k x = x
  round_grows_by rule_2 k x = unfinished_grows k x

  pub round_grows : (k : ℕ) → Round o st k → Round o st' k
  round_grows k x = round_grows_by o.rule k x

  bit_cast_grows : (k : ℕ) (a : Bool) → BitCast o st k a → BitCast o st' k a
  bit_cast_grows k a c = record {
    source = c.source;
    candidate = candidate_grows k _ c.candidate;
    is_bit = ap (bit k) (spelled_grows _ c.candidate.is_claimed) ∙ c.is_bit;
    round = round_grows k c.round;
  }

  finish_cast_grows : (k : ℕ) (a : Bool) → FinishCast o st k a → FinishCast o st' k a
  finish_cast_grows k a c =
      let same : claim_of st' c.source ≡ claim_of st c.source = (g.claims _ c.candidate.is_claimed).1 in record {
        source = c.source;
        candidate = candidate_grows (suc k) _ c.candidate;
        whole = λ e i l. ap (bit i) same ∙ c.whole e i l;
        longer = λ e. ((c.longer e).0, (c.longer e).1, ap (bit (c.longer e).0) same ∙ (c.longer e).2);
        unfinished = unfinished_grows k c.unfinished;
      }

  pub cast_grows : (b : ℕ) (a : Bool) → CastOk o st b a → CastOk o st' b a
  cast_grows b a (inl c) = inl (c.0, c.1, bit_cast_grows _ a c.2)
  cast_grows b a (inr c) = inr (c.0, (c.1.0, c.1.1, finish_cast_grows _ a c.1.2))

  -- what a station holds was put in
  abbrev HeldClaimed : (ℕ → Bool) → Type 0
  HeldClaimed holds = (t : ℕ) → holds t ≡ true → claimed st t ≡ true

  spelling_grows : (holds : ℕ → Bool) (j k m d : ℕ) → HeldClaimed holds → Spelling o st holds j k m d → Spelling o st' holds j k m d
  spelling_grows holds j k m d hc x = record {
    round = round_grows k x.round;
    word = word_grows m d x.word;
    mine = x.mine;
    fits = fits_grows m j (hc j x.mine) x.fits;
  }

  decided_grows_by : (r : Rule) (v k : ℕ) → DecidedBy o r st v k → DecidedBy o r st' v k
  decided_grows_by rule_1 v k x = (x.0, word_grows _ _ x.1, (g.claims _ x.2).0, (g.claims _ x.2).1 ∙ x.3)
  decided_grows_by rule_2 v k x =
      (x.0, word_grows _ _ x.1, (g.claims _ x.2).0, (g.claims _ x.2).1 ∙ x.3, unfinished_grows k x.4, g.answers _ _ x.5)

  stage_grows : (s : Stage) (holds : ℕ → Bool) (cast : ℕ → Option Bool) → HeldClaimed holds → StageOk o st s holds cast
      → StageOk o st' s holds cast
  stage_grows idle holds cast hc x = x
  stage_grows waiting holds cast hc x = x
  stage_grows (voting j k d) holds cast hc x = spelling_grows holds j k k d hc x
  stage_grows (awaiting j k d) holds cast hc x =
      (spelling_grows holds j k k d hc x.0, x.1 ∙ ap (λ (y : ℕ). some (bit k y)) (sym (spelled_grows j (hc j x.0.mine))))
  stage_grows (seeking j k d) holds cast hc x = record {
    round = round_grows k x.round;
    word = word_grows _ d x.word;
    cursor = x.cursor;
    source = x.source;
    candidate = candidate_grows _ _ x.candidate;
  }
  stage_grows (finish_voting j k d) holds cast hc x = (x.0, spelling_grows holds j k _ d hc x.1)
  stage_grows (finish_awaiting j k d) holds cast hc x = (
    x.0,
    spelling_grows holds j k _ d hc x.1,
    x.2 ∙ ap (λ (y : ℕ). some (lib.Dec.eqb d y)) (sym (g.claims j (hc j x.1.mine)).1),
  )
  stage_grows (decided v k) holds cast hc x = decided_grows_by o.rule v k x

  pub part_grows : (s : ℕ) (p : Stage) (holds : ℕ → Bool) (cast : ℕ → Option Bool) → PartOk o st s p holds cast → PartOk o st' s p holds cast
  part_grows s p holds cast x = record {
    holdings = λ t e. ((x.holdings t e).0, (x.holdings t e).1, (g.claims t (x.holdings t e).2).0);
    casts = λ b a e. ((x.casts b a e).0, cast_grows b a (x.casts b a e).1);
    uncast = x.uncast;
    stage = stage_grows p holds cast (λ t e. (x.holdings t e).2) x.stage;
  }
