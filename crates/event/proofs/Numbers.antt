-- The numbers in the document's words: each test is true exactly where its sentence holds (`Decides`), and the first one met gives the number (`met`).
-- Assumes nothing.
use Prim.Native.Nat.{ℕ, ◌≤◌}
use mathlib.Core.Path.{◌≡◌, refl, sym, ap, ◌∙◌}
use mathlib.Core.Logic.{◌⊎◌, inl, inr, ⊎_elim}
use mathlib.Core.Bool.{Bool, true, false, not, beq, true≢false}
use native.Mathlib.Omega.{arith}
use lib.Dec.{eqb, ltb}
use borrow.Author.Tests.{eqb-true, eqb-false, ltb-false, le-ltb, not-true}
use Rattle.std.specs.Bool.{Decides}
use Rattle.std.proofs.lemmas.Bool.Decides.{Decides-not, Decides-and, Decides-or, Decides-eqb, Decides-ltb}
use Rattle.basics.specs.Tests.{refuse, first_met}
use Rattle.bits.specs.Words.{member}
use Rattle.consensus.specs.Events.{claim, deliver, step, lose, answer}
use Rattle.consensus.specs.Rules.{finish_ballot, as_bit}
use Rattle.entry.specs.declared.entry.Stage.{Stage}
use Rattle.entry.specs.declared.entry.Stage.TheVariants.{Idle, Waiting, Awaiting, FinishAwaiting, Decided}
use Rattle.entry.specs.Stages.{at, not_idle}
use Rattle.entry.specs.Entries.{ballots, was_cast}
use Rattle.entry.proofs.Stages.{told_apart}
use Rattle.event.specs.declared.view.View.{View}
use Rattle.event.specs.Tests.{must_wait, last_ballot, takes_last_no}
use Rattle.event.specs.Numbers.{Met, MustWait, TakesLastNo, NobodyCast, NumberIs, EntryNumbers}

-- ---- tests and sentences

is : (b : Bool) → Decides b (b ≡ true)
is b = (λ e. e, λ e. e)

is_not : (b : Bool) → Decides (not b) (b ≡ false)
is_not true = (λ e. sym e, λ e. sym e)
is_not false = (λ e. refl, λ e. refl)

-- "no station s"
past : (n s : ℕ) → Decides (not (ltb s n)) (n ≤ s)
past n s = (λ e. ltb-false s n (not-true (ltb s n) e), λ l. ap not (le-ltb s n l))

-- the test is met, or the later ones decide
met : {P L : Type 0} (b : Bool) (k rest x : ℕ) → Decides b P → x ≡ refuse b k rest → (b ≡ false → x ≡ rest → L) → Met P k x L
met true k rest x t e f = inl (t.0 refl, e)
met false k rest x t e f = inr (λ p. true≢false (sym (t.1 p)), f refl e)

waits : (v : View) (s : ℕ) → Decides (must_wait v s) (MustWait v s)
waits v s =
    Decides-or _ _ (Decides-and _ _ (told_apart Waiting v.own.stage) (is_not (member s v.own.held)))
    (Decides-and _ _ (Decides-or _ _ (told_apart Awaiting v.own.stage) (told_apart FinishAwaiting v.own.stage)) (is_not v.ballot.answered))

takes : (v : View) → Decides (takes_last_no v) (TakesLastNo v)
takes v =
    Decides-and _ _ (Decides-and _ _ (told_apart FinishAwaiting v.own.stage) (is_not v.ballot.answer))
    (Decides-eqb (finish_ballot v.own.round) last_ballot)

bit_0 : (a : ℕ) → a ≤ 1 → (a ≡ 1 → ⊥) → a ≡ 0
bit_0 a l n = omega arith

twice : {P : Type 0} (b : Bool) → Decides b P → Decides (not (not b)) P
twice true t = t
twice false t = t

-- idle: not "not idle"
idle : (g : Stage) → Decides (not (not_idle g)) (g ≡ Idle)
idle g = twice (at Idle g) (told_apart Idle g)

-- a bit, told by its number
told_bit : {P Q : Type 0} (a : ℕ) → ltb 1 a ≡ false → (t : Bool → Bool) → Decides (t true) P → Decides (t false) Q
    → Decides (t (as_bit a)) (((a ≡ 1) × P) ⊎ ((a ≡ 0) × Q))
told_bit {P} {Q} a small t one zero = go (eqb a 1) refl
  where
    no_bit : (eqb a 1 ≡ false) → a ≡ 0
    no_bit q = let l = ltb-false 1 a small in let n = eqb-false a 1 q in bit_0 a l n

    go : (b : Bool) → eqb a 1 ≡ b → Decides (t b) (((a ≡ 1) × P) ⊎ ((a ≡ 0) × Q))
    go true q = (
      λ e. inl (eqb-true a 1 q, one.0 e),
      λ p. ⊎_elim (λ r. one.1 r.1) (λ r. absurd (true≢false (sym q ∙ ap (λ (x : ℕ). eqb x 1) r.0))) p,
    )
    go false q = (
      λ e. inr (no_bit q, zero.0 e),
      λ p. ⊎_elim (λ r. absurd (eqb-false a 1 q r.0)) (λ r. zero.1 r.1) p,
    )

nobody : (v : View) (a : ℕ) → ltb 1 a ≡ false → Decides (not (was_cast v.ballot (as_bit a))) (NobodyCast v a)
nobody v a small = told_bit a small (λ x. not (was_cast v.ballot x)) (empty v.ballot.cast1) (empty v.ballot.cast0)
  where
    empty : (m : ℕ) → Decides (not (not (eqb m 0))) (m ≡ 0)
    empty m = twice (eqb m 0) (Decides-eqb m 0)

-- the bit that stands is not a
not_beq : (x : Bool) → Decides (not (beq x true)) (x ≡ false) × Decides (not (beq x false)) (x ≡ true)
not_beq true = ((λ e. sym e, λ e. sym e), (λ e. refl, λ e. refl))
not_beq false = ((λ e. refl, λ e. refl), (λ e. e, λ e. e))

other : (v : View) (a : ℕ) → ltb 1 a ≡ false
    → Decides (not (beq v.ballot.answer (as_bit a))) (((a ≡ 1) × (v.ballot.answer ≡ false)) ⊎ ((a ≡ 0) × (v.ballot.answer ≡ true)))
other v a small = told_bit a small (λ x. not (beq v.ballot.answer x)) (not_beq v.ballot.answer).0 (not_beq v.ballot.answer).1

-- ---- the five events

pub numbers : EntryNumbers
unfolding first_met NumberIs
numbers v (claim s c) =
    met _ _ _ _ (past v.count s) refl (λ p1 e1. met _ _ _ _ (is v.own.lost) e1 (λ p2 e2. met _ _ 0 _ (Decides-not (at Idle v.own.stage) (told_apart Idle v.own.stage)) e2 (λ p3 e3. e3)))
numbers v (deliver t s) =
    met _ _ _ _ (Decides-or _ _ (past v.count t) (past v.count s)) refl
    (λ p1 e1. met _ _ _ _ (is v.own.lost) e1
    (λ p2 e2. met _ _ _ _ (idle v.beside.stage) e2 (λ p3 e3. met _ _ 0 _ (is (member t v.own.held)) e3 (λ p4 e4. e4))))
numbers v (step s) =
    met _ _ _ _ (past v.count s) refl
    (λ p1 e1. met _ _ _ _ (is v.own.lost) e1
    (λ p2 e2. met _ _ _ _ (idle v.own.stage) e2
    (λ p3 e3. met _ _ _ _ (told_apart Decided v.own.stage) e3
    (λ p4 e4. met _ _ _ _ (waits v s) e4 (λ p5 e5. met _ _ 0 _ (takes v) e5 (λ p6 e6. e6))))))
numbers v (lose s) = met _ _ _ _ (past v.count s) refl (λ p1 e1. met _ _ 0 _ (is v.own.lost) e1 (λ p2 e2. e2))
numbers v (answer b a) =
    met _ _ _ _ (past (ballots v.count v.rule) b) refl
    (λ p1 e1. met _ _ _ _ (Decides-ltb 1 a) e1
    (λ p2 e2. met _ _ _ _ (Decides-and _ _ (is v.ballot.answered) (other v a p2)) e2
    (λ p3 e3. met _ _ 0 _ (Decides-and _ _ (is_not v.ballot.answered) (nobody v a p2)) e3 (λ p4 e4. e4))))
