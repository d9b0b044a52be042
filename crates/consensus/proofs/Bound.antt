-- The bound on supplied steps. A round costs one vote, one answer taken and at most n seeks, by claim one finish vote and one finish answer
-- more. Seeks: at the first supplied one the station holds a claim that fits the answers; from then on every seek brings the cursor one
-- nearer to it, and there seeking ends. Assumes nothing.
use Prim.Native.Nat.{ℕ, suc, ◌+◌, ◌*◌, ◌-◌, ◌%◌, ◌<◌, ◌≤◌, suc-le-suc}
use mathlib.Core.Path.{◌≡◌, sym, subst, ◌∙◌, ap}
use mathlib.Core.Logic.{◌⊎◌, inl, inr, ⊎_elim}
use mathlib.Core.Bool.{Bool, true, false, cond, ◌&&◌}
use mathlib.Core.Option.{some-injective}
use native.Mathlib.Omega.{arith}
use native.Mathlib.Nat.{le_trans, mod-lt, mod-eq_of_lt, mod_self}
use lib.Dec.{eqb, leb}
use borrow.Author.Tests.{eqb-true, eqb-false, leb-true, leb-false}
use Rattle.bits.specs.Words.{low_agree}
use Rattle.bits.specs.Log.{ceil_log2}
use Rattle.bits.proofs.Words.{bits_agree}
use Rattle.consensus.specs.Events.{Rule, rule_1, rule_2, Opening, rounds}
use Rattle.consensus.specs.State.{Stage, idle, waiting, voting, awaiting, seeking, finish_voting, finish_awaiting, decided, State, claim_of, held}
use Rattle.consensus.specs.Rules.{spelled, first_stage, stage_after_seek, sought, finished}
use Rattle.basics.proofs.Bools.{by_bool, cond_ind, no_clash}
use Rattle.consensus.proofs.Invariant.{Fits, Word, Seeking}
use Rattle.consensus.proofs.Steps.{opening}

-- ---- the way around the stations

-- how many seeks bring the cursor from j to t
pub ahead : ℕ → ℕ → ℕ → ℕ
ahead n j t = cond (leb j t) (t - j) (t + n - j)

-- the cursor's next place, with and without the turn to 0
next_cursor : (n j : ℕ) → j < n → ((suc j ≡ n) × ((j + 1) % n ≡ 0)) ⊎ ((suc j < n) × ((j + 1) % n ≡ suc j))
next_cursor n j l =
    by_bool (eqb (suc j) n)
    (λ e. let last : suc j ≡ n = eqb-true (suc j) n e in inl (last, ap (λ (x : ℕ). x % n) (native.Mathlib.Numerals.add-one j ∙ last) ∙ mod_self n))
    (λ e.
    let more : suc j < n = lib.Arith.lt_of_le-ne l (eqb-false (suc j) n e) in
    inr (more, ap (λ (x : ℕ). x % n) (native.Mathlib.Numerals.add-one j) ∙ mod-eq_of_lt more))

ahead_is : (n j t : ℕ) → j < n → ((j ≤ t) × (ahead n j t ≡ t - j)) ⊎ ((t < j) × (ahead n j t ≡ t + n - j))
unfolding ahead
ahead_is n j t l =
    by_bool (leb j t) (λ e. inl (leb-true j t e, ap (λ (b : Bool). cond b (t - j) (t + n - j)) e))
    (λ e. inr (leb-false j t e, ap (λ (b : Bool). cond b (t - j) (t + n - j)) e))

ahead_below : (n j t : ℕ) → j < n → t < n → ahead n j t < n
ahead_below n j t l m = ⊎_elim (λ x. omega (arith, x.0, x.1)) (λ x. omega (arith, x.0, x.1)) (ahead_is n j t l)

-- each seek brings the cursor one nearer
ahead_step : (n j t : ℕ) → j < n → t < n → (j ≡ t → ⊥) → suc (ahead n ((j + 1) % n) t) ≡ ahead n j t
ahead_step n j t l m ne =
    let i = (j + 1) % n in
    let below : i < n = mod-lt (j + 1) (omega arith) in
    ⊎_elim
    (λ c.
    ⊎_elim (λ x. ⊎_elim (λ y. omega (arith, c.0, c.1, x.0, x.1, y.0, y.1)) (λ y. omega (arith, c.0, c.1, x.0, x.1, y.0, y.1)) (ahead_is n i t below))
    (λ x. ⊎_elim (λ y. omega (arith, c.0, c.1, x.0, x.1, y.0, y.1)) (λ y. omega (arith, c.0, c.1, x.0, x.1, y.0, y.1)) (ahead_is n i t below))
    (ahead_is n j t l))
    (λ c.
    ⊎_elim (λ x. ⊎_elim (λ y. omega (arith, c.0, c.1, x.0, x.1, y.0, y.1)) (λ y. omega (arith, c.0, c.1, x.0, x.1, y.0, y.1)) (ahead_is n i t below))
    (λ x. ⊎_elim (λ y. omega (arith, c.0, c.1, x.0, x.1, y.0, y.1)) (λ y. omega (arith, c.0, c.1, x.0, x.1, y.0, y.1)) (ahead_is n i t below))
    (ahead_is n j t l))
    (next_cursor n j l)

-- ---- how many supplied steps a station may have taken at each stage

abbrev pub cost_of : Rule → ℕ → ℕ
cost_of rule_1 n = n + 2
cost_of rule_2 n = n + 4

-- when round k begins
abbrev pub begun : Rule → ℕ → ℕ → ℕ
begun r n k = 1 + k * cost_of r n

module _ (o : Opening) where
  -- a supplied seek was taken in this round: the station p holds a claim that fits, and comes nearer to it with each seek
  pub record Nearing (st : State) (p j k m : ℕ) : Type 0 where
    pub target : ℕ
    pub mine : held st p target ≡ true
    pub fits : Fits o st (suc k) target
    pub below : target < o.count
    pub apart : j ≡ target → ⊥
    pub left : m + ahead o.count j target ≤ begun o.rule o.count k + 2 + o.count

  abbrev pub SpentBy : Rule → State → ℕ → ℕ → Stage → Type 0
  SpentBy r st p m idle = m ≤ 0
  SpentBy r st p m waiting = m ≤ 0
  SpentBy r st p m (voting j k d) = m ≤ begun o.rule o.count k
  SpentBy r st p m (awaiting j k d) = m ≤ begun o.rule o.count k + 1
  SpentBy r st p m (seeking j k d) = (m ≤ begun o.rule o.count k + 2) ⊎ Nearing st p j k m
  SpentBy r st p m (finish_voting j k d) = m ≤ begun o.rule o.count k + 2 + o.count
  SpentBy r st p m (finish_awaiting j k d) = m ≤ begun o.rule o.count k + 3 + o.count
  SpentBy rule_1 st p m (decided v k) = m ≤ begun rule_1 o.count (rounds o)
  SpentBy rule_2 st p m (decided v k) = m ≤ begun rule_2 o.count (suc k)

  abbrev pub Spent : State → ℕ → ℕ → Stage → Type 0
  Spent st p m g = SpentBy o.rule st p m g

-- one step more or none; where it is one more, the station holds all that any station holds
abbrev pub AllHeld : State → ℕ → Type 0
AllHeld st p = (s t : ℕ) → held st s t ≡ true → held st p t ≡ true

abbrev pub Advance : State → ℕ → ℕ → ℕ → Type 0
Advance st p m m' = (m' ≤ m) ⊎ ((m' ≤ suc m) × AllHeld st p)

pub advance_le : (st : State) (p m m' : ℕ) → Advance st p m m' → m' ≤ suc m
advance_le st p m m' (inl l) = omega arith
advance_le st p m m' (inr l) = l.0

pub first_spent : (n : ℕ) (r : Rule) (st : State) (p s v m : ℕ) → m ≤ 1 → Spent (opening n r) st p m (first_stage r n s v)
first_spent n rule_1 st p s v m l =
    cond_ind (λ (g : Stage). Spent (opening n rule_1) st p m g) (eqb n 1) (decided v 0) (voting s 0 0) (λ e. omega arith) (λ e. omega arith)
first_spent n rule_2 st p s v m l = omega arith

found_spent : (n : ℕ) (r : Rule) (st : State) (p j k d m : ℕ) → m ≤ begun r n k + 2 + n → Spent (opening n r) st p m (stage_after_seek (opening n r) st r j k d)
found_spent n rule_1 st p j k d m l =
    cond_ind (λ (g : Stage). Spent (opening n rule_1) st p m g) (eqb (suc k) (ceil_log2 n)) (decided (claim_of st j) k) (voting j (suc k) d)
    (λ e.
    let next : m ≤ begun rule_1 n (suc k) = omega arith in
    subst (λ (x : ℕ). m ≤ begun rule_1 n x) (eqb-true (suc k) (ceil_log2 n) e) next)
    (λ e. omega arith)
found_spent n rule_2 st p j k d m l = l

pub finished_spent : (n : ℕ) (a : Bool) (st : State) (p j k d m : ℕ) → m ≤ begun rule_2 n k + 4 + n
    → Spent (opening n rule_2) st p m (finished a j k d)
finished_spent n true st p j k d m l = omega arith
finished_spent n false st p j k d m l = omega arith

module _ (o : Opening) (st : State) (p : ℕ) (below : p < o.count) where
  -- the cursor is not at a claim that is held and fits, where the test there failed
  not_there : (j k d t : ℕ) → Word o st (suc k) d → held st p t ≡ true → Fits o st (suc k) t → (held st p j && low_agree k d (spelled o st j)) ≡ false
      → j ≡ t → ⊥
  not_there j k d t w h f e q = no_clash (held st p j && low_agree k d (spelled o st j)) passed e
    where
      agree : low_agree k d (spelled o st t) ≡ true
      agree = bits_agree k d (spelled o st t) (λ i l. some-injective _ _ (sym (w.answers i (suc-le-suc l)) ∙ f i (suc-le-suc l)))

      passed : (held st p j && low_agree k d (spelled o st j)) ≡ true
      passed = subst (λ (x : ℕ). (held st p x && low_agree k d (spelled o st x)) ≡ true) (sym q) (subst (λ (b : Bool). (b && low_agree k d (spelled o st t)) ≡ true) (sym h) agree)

  module _ (holds : (t : ℕ) → held st p t ≡ true → t < o.count) (j k d m m' : ℕ) (x : Seeking o st j k d) (a : Advance st p m m') where
    abbrev cursor : ℕ
    cursor = (j + 1) % o.count

    cursor_below : cursor < o.count
    cursor_below = mod-lt (j + 1) (omega arith)

    seek_found : Spent o st p m (seeking j k d) → m' ≤ begun o.rule o.count k + 2 + o.count
    seek_found (inl l) = let b = advance_le st p m m' a in omega arith
    seek_found (inr y) =
        let b = advance_le st p m m' a in
        let s = ahead_step o.count j y.target x.cursor y.below y.apart in
        let l = y.left in
        omega arith

    seek_on : (held st p cursor && low_agree k d (spelled o st cursor)) ≡ false → Spent o st p m (seeking j k d) → Spent o st p m' (seeking cursor k d)
    seek_on e (inl l) = go a
      where
        go : Advance st p m m' → Spent o st p m' (seeking cursor k d)
        go (inl b) = inl (le_trans b l)
        go (inr b) =
            let t = x.source in
            let mine : held st p t ≡ true = b.1 x.candidate.holder t x.candidate.is_held in
            let s = ahead_below o.count cursor t cursor_below (holds t mine) in
            let c = b.0 in
            inr (record {
              target = t;
              mine = mine;
              fits = x.candidate.fits;
              below = holds t mine;
              apart = not_there cursor k d t x.word mine x.candidate.fits e;
              left = omega arith;
            })
    seek_on e (inr y) =
        let b = advance_le st p m m' a in
        let s = ahead_step o.count j y.target x.cursor y.below y.apart in
        let l = y.left in
        inr (record {
          target = y.target;
          mine = y.mine;
          fits = y.fits;
          below = y.below;
          apart = not_there cursor k d y.target x.word y.mine y.fits e;
          left = omega arith;
        })

    pub sought_spent : Spent o st p m (seeking j k d) → Spent o st p m' (sought o st p cursor k d)
    sought_spent z =
        cond_ind (λ (g : Stage). Spent o st p m' g) (held st p cursor && low_agree k d (spelled o st cursor)) (stage_after_seek o st o.rule cursor k d) (seeking cursor k d)
        (λ e. found_spent o.count o.rule st p cursor k d m' (seek_found z))
        (λ e. seek_on e z)
