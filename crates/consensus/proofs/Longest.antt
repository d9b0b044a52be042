-- Claims put in are no longer than K and fit their width, and a finish answer 0 tells of a claim with a higher bit. So by claim a round that
-- a station may be in is below K. Assumes nothing.
use Prim.Native.Nat.{ℕ, zero, suc, ◌^◌, ◌<◌, ◌≤◌, zero-le, max}
use mathlib.Core.Path.{◌≡◌, refl, sym, subst, ◌∙◌, ap}
use mathlib.Core.Logic.{◌⊎◌, inl, inr, ⊎_elim}
use mathlib.Core.Bool.{Bool, true, false, cond}
use mathlib.Core.Option.{some}
use native.Mathlib.Omega.{arith}
use native.Mathlib.Nat.{le_trans, le_of_lt, le-max_left, le-max_right, max-eq_left, max-eq_right, le_of_eq}
use lib.Dec.{leb}
use borrow.Author.Tests.{eqb-true, eq-eqb, leb-true, leb-false}
use Rattle.bits.specs.Digits.{bit_length}
use Rattle.bits.specs.Words.{claim_bits}
use Rattle.bits.proofs.Digits.{length_pos, length_least, bit_below_length}
use Rattle.consensus.specs.Events.{Event, claim, deliver, step, lose, answer, History, start, ◌▷◌, rule_2, Opening}
use Rattle.consensus.specs.State.{claimed, claim_of}
use Rattle.consensus.specs.Rules.{finish_ballot, after}
use Rattle.consensus.specs.Terms.{Beginning, Fitting, ClaimsFit, put_length, accepts, Happened, longest}
use Rattle.basics.proofs.Bools.{by_bool}
use Rattle.consensus.proofs.Invariant.{Unfinished}
use Rattle.consensus.proofs.Spelling.{finish_answer}
use Rattle.consensus.proofs.Reached.{reached}
use Rattle.consensus.proofs.Accepted.{put_in_shown}

pub fit_beginning : (g h : History) → Beginning g h → ClaimsFit h → ClaimsFit g
fit_beginning g start b f = subst ClaimsFit (sym b) f
fit_beginning g (h ▷ e) (inl b) f = subst ClaimsFit (sym b) f
fit_beginning g (h ▷ e) (inr b) f = fit_beginning g h b f.0

max_is : (a b : ℕ) → (max a b ≡ a) ⊎ (max a b ≡ b)
max_is a b = by_bool (leb b a) (λ e. inl (max-eq_left (leb-true b a e))) (λ e. inr (max-eq_right (le_of_lt (leb-false b a e))))

no_more : (x : ℕ) → max x 0 ≡ x
no_more x = max-eq_left zero-le

module _ (o : Opening) where
  abbrev LongestPut : History → ℕ → Type 0
  LongestPut h k = (k ≡ 0) ⊎ ((s : ℕ) × (v : ℕ) × Happened o (claim s v) h × (bit_length v ≡ k))

  later : (h : History) (e : Event) (k : ℕ) → LongestPut h k → LongestPut (h ▷ e) k
  later h e k (inl q) = inl q
  later h e k (inr x) = inr (x.0, x.1, inl x.2, x.3)

  -- the claim that was longest stays so, or the new one is
  longest_more : (h : History) (e : Event) → LongestPut h (longest o h) → LongestPut (h ▷ e) (max (longest o h) (put_length (accepts o h e) e))
  longest_more h (claim s v) x =
      by_bool (accepts o h (claim s v))
      (λ t.
      subst (λ (b : Bool). LongestPut (h ▷ claim s v) (max (longest o h) (cond b (bit_length v) 0))) (sym t)
      (⊎_elim (λ q. subst (LongestPut (h ▷ claim s v)) (sym q) (later h (claim s v) (longest o h) x))
      (λ q. inr (s, v, inr (refl, eqb-true _ 0 t), sym q))
      (max_is (longest o h) (bit_length v))))
      (λ t.
      subst (λ (b : Bool). LongestPut (h ▷ claim s v) (max (longest o h) (cond b (bit_length v) 0))) (sym t)
      (subst (LongestPut (h ▷ claim s v)) (sym (no_more (longest o h))) (later h (claim s v) (longest o h) x)))
  longest_more h (deliver t s) x = subst (LongestPut (h ▷ deliver t s)) (sym (no_more (longest o h))) (later h (deliver t s) (longest o h) x)
  longest_more h (step s) x = subst (LongestPut (h ▷ step s)) (sym (no_more (longest o h))) (later h (step s) (longest o h) x)
  longest_more h (lose s) x = subst (LongestPut (h ▷ lose s)) (sym (no_more (longest o h))) (later h (lose s) (longest o h) x)
  longest_more h (answer b a) x = subst (LongestPut (h ▷ answer b a)) (sym (no_more (longest o h))) (later h (answer b a) (longest o h) x)

  pub put_longest : (s v : ℕ) (h : History) → Happened o (claim s v) h → bit_length v ≤ longest o h
  unfolding longest
  put_longest s v start a = absurd a
  put_longest s v (h ▷ e) (inl a) = le_trans (put_longest s v h a) (le-max_left (longest o h) _)
  put_longest s v (h ▷ e) (inr a) =
      le_trans
      (le_of_eq
      (ap (λ (b : Bool). cond b (bit_length v) 0) (sym (eq-eqb _ 0 a.1)) ∙ ap (put_length (accepts o h e)) (sym a.0)))
      (le-max_right (longest o h) (put_length (accepts o h e) e))

  -- the larger of two lengths is one of them
  pub longest_put : (h : History) → (longest o h ≡ 0) ⊎ ((s : ℕ) × (v : ℕ) × Happened o (claim s v) h × (bit_length v ≡ longest o h))
  unfolding longest
  longest_put start = inl refl
  longest_put (h ▷ e) = longest_more h e (longest_put h)

  put_fits : (s v : ℕ) (h : History) → ClaimsFit h → Happened o (claim s v) h → v < 2 ^ claim_bits
  put_fits s v start f a = absurd a
  put_fits s v (h ▷ e) f (inl a) = put_fits s v h f.0 a
  put_fits s v (h ▷ e) f (inr a) = subst Fitting a.0 f.1

  -- a claim put in is no longer than K, and no longer than a claim may be
  pub claim_longest : (h : History) (t : ℕ) → claimed (after o h) t ≡ true → bit_length (claim_of (after o h) t) ≤ longest o h
  claim_longest h t c = put_longest t _ h ((put_in_shown o t (claim_of (after o h) t) h).1 (c, refl))

  pub claim_fits : (h : History) → ClaimsFit h → (t : ℕ) → claimed (after o h) t ≡ true → bit_length (claim_of (after o h) t) ≤ claim_bits
  claim_fits h f t c = length_least claim_bits _ (omega arith) (put_fits t _ h f ((put_in_shown o t (claim_of (after o h) t) h).1 (c, refl)))

  -- the finish answer 0 after round k: some claim put in has a bit above k
  pub higher_claim : o.rule ≡ rule_2 → (h : History) (k : ℕ) → (after o h).answer_of (finish_ballot k) ≡ some false
      → (t : ℕ) × (claimed (after o h) t ≡ true) × (suc k < bit_length (claim_of (after o h) t))
  higher_claim r h k e =
      let c = finish_answer o (after o h) (reached o h) r k false e in
      let l = c.longer refl in
      let m = bit_below_length l.0 _ l.2 in
      (c.source, c.candidate.is_claimed, native.Mathlib.Nat.lt_of_le_of_lt l.1 m)

  -- once a claim is put in, a round that may be reached is below K
  pub round_short : o.rule ≡ rule_2 → (h : History) (k t : ℕ) → claimed (after o h) t ≡ true → Unfinished o (after o h) k → suc k ≤ longest o h
  round_short r h zero t c u = le_trans (length_pos _) (claim_longest h t c)
  round_short r h (suc i) t c u =
      let x = higher_claim r h i (u i (native.Mathlib.Nat.le_refl (suc i))) in le_trans x.2 (claim_longest h x.0 x.1)
