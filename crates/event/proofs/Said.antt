-- What an event makes of the parts that it names: each sentence is read off the definition's clause for the stage, and each choice there is a test
-- that is true exactly where its sentence holds. Assumes nothing.
use Prim.Native.Nat.{ℕ, ◌+◌, ◌%◌, ◌≤◌, ◌<◌}
use mathlib.Core.Path.{◌≡◌, refl, sym, ap, ◌∙◌, subst}
use mathlib.Core.Bool.{Bool, true, false, cond, ◌&&◌, true≢false}
use native.Mathlib.Nat.{mod-eq_of_lt}
use native.Mathlib.Omega.{arith}
use lib.Dec.{eqb}
use borrow.Author.Tests.{eqb-true, eqb-false, eq-eqb, ne_eqb}
use Rattle.std.specs.Bool.{Decides}
use Rattle.std.proofs.lemmas.Bool.Decides.{Decides-and, Decides-eqb}
use Rattle.basics.proofs.Bools.{by_bool, cond_ind, no_clash, and_true}
use Rattle.bits.specs.Digits.{bit}
use Rattle.bits.specs.Words.{claim_bits, low_agree, member, insert}
use Rattle.bits.proofs.Masks.{member_same, member_other}
use Rattle.bits.proofs.Words.{word_same, word_other, agree_bits, bits_agree}
use Rattle.consensus.specs.Events.{step}
use Rattle.entry.specs.declared.entry.Stage.{Stage}
use Rattle.entry.specs.declared.entry.Stage.TheVariants.{Waiting, Voting, Awaiting, Seeking, FinishVoting, FinishAwaiting, Decided}
use Rattle.entry.specs.declared.entry.Ballot.{Ballot}
use Rattle.entry.specs.Stages.{at}
use Rattle.entry.specs.Entries.{by_station, spelled, casting}
use Rattle.event.specs.declared.view.View.{View}
use Rattle.event.specs.Places.{next_cursor}
use Rattle.event.specs.Step.{next_round, at_once, started, bit_taken, finish_taken, last_round, entry_after_seek, seeking_ends, sought, stepped, bit_voted, finish_voted, voted}
use Rattle.event.specs.Change.{own_after, ballot_after}
use Rattle.event.specs.Said.{Fits, WaitingSaid, PutsIn, VotingSaid, AwaitingSaid, SeekingSaid, FinishVotingSaid, FinishAwaitingSaid, StepSaid, AllSaid}

-- a test that is false tells that its sentence does not hold
fails : {P C : Type 0} (b : Bool) → Decides b P → b ≡ false → P → C
fails b t q p = no_clash b (t.1 p) q

-- ---- waiting

waiting_said : (v : View) (s : ℕ) → WaitingSaid v s (stepped v s Waiting)
unfolding stepped started
waiting_said v s =
    let once = Decides-and (by_station v.rule) (eqb v.count 1) (Decides-eqb v.rule 1) (Decides-eqb v.count 1) in
    cond_ind (WaitingSaid v s) (at_once v) _ _
    (λ p. record { cursor = refl; votes = λ n. absurd (n (once.0 p)); decides = λ q. (refl, refl) })
    (λ p. record { cursor = refl; votes = λ n. refl; decides = λ q. fails (at_once v) once p q })

-- ---- voting

by_number_bit : (v : View) (x : Bool) → v.rule ≡ 1 → bit v.own.round v.own.cursor ≡ x → bit_voted v ≡ x
by_number_bit v x r e = ap (λ (b : Bool). bit v.own.round (cond b v.own.cursor v.beside.claim)) (eq-eqb v.rule 1 r) ∙ e

by_claim_bit : (v : View) (x : Bool) → (v.rule ≡ 1 → ⊥) → bit v.own.round v.beside.claim ≡ x → bit_voted v ≡ x
by_claim_bit v x r e = ap (λ (b : Bool). bit v.own.round (cond b v.own.cursor v.beside.claim)) (ne_eqb v.rule 1 r) ∙ e

pub puts_in : (s set : ℕ) → PutsIn s set (insert s set)
puts_in s set = record { voter = λ l. member_same s set l; nobody_else = λ i d. member_other i s set d }

-- the bit cast is x: the voter is in the set of x
cast_no : (s : ℕ) (x : Bool) (b : Ballot) → x ≡ false → PutsIn s b.cast0 (casting s x b).cast0
cast_no s x b e = rw e (puts_in s b.cast0)

cast_yes : (s : ℕ) (x : Bool) (b : Ballot) → x ≡ true → PutsIn s b.cast1 (casting s x b).cast1
cast_yes s x b e = rw e (puts_in s b.cast1)

voting_said : (v : View) (s : ℕ) → VotingSaid v s (stepped v s Voting) (voted v s Voting)
unfolding stepped voted
voting_said v s =
    record {
      no_by_station = λ r e. cast_no s (bit_voted v) v.ballot (by_number_bit v false r e);
      yes_by_station = λ r e. cast_yes s (bit_voted v) v.ballot (by_number_bit v true r e);
      no_by_claim = λ r e. cast_no s (bit_voted v) v.ballot (by_claim_bit v false r e);
      yes_by_claim = λ r e. cast_yes s (bit_voted v) v.ballot (by_claim_bit v true r e);
      awaits = refl;
    }

-- ---- awaiting

awaiting_said : (v : View) (s : ℕ) → AwaitingSaid v (stepped v s Awaiting)
unfolding stepped bit_taken
awaiting_said v s =
    record {
      taken = λ h. word_same claim_bits v.own.round v.ballot.answer v.own.word h;
      others = λ i d. word_other claim_bits v.own.round i v.ballot.answer v.own.word d;
      seeks = refl;
    }

-- ---- the finish ballot

finish_voting_said : (v : View) (s : ℕ) → FinishVotingSaid v s (stepped v s FinishVoting) (voted v s FinishVoting)
unfolding stepped voted
finish_voting_said v s =
    record {
      yes = λ e. cast_yes s (finish_voted v) v.ballot (eq-eqb v.own.word v.beside.claim e);
      no = λ d. cast_no s (finish_voted v) v.ballot (ne_eqb v.own.word v.beside.claim d);
      awaits = refl;
    }

rounds_on : (k : ℕ) → k < 255 → next_round k ≡ k + 1
rounds_on k l = mod-eq_of_lt (omega arith)

finish_awaiting_said : (v : View) (s : ℕ) → FinishAwaitingSaid v (stepped v s FinishAwaiting)
unfolding stepped finish_taken
finish_awaiting_said v s =
    cond_ind (FinishAwaitingSaid v) v.ballot.answer _ _
    (λ p. record { decides = λ e. (refl, refl); goes_on = λ e l. no_clash v.ballot.answer p e })
    (λ p. record { decides = λ e. no_clash v.ballot.answer e p; goes_on = λ e l. (refl, rounds_on v.own.round l) })

-- ---- seeking

spelled_number : (v : View) (j : ℕ) → v.rule ≡ 1 → spelled v.rule j v.beside.claim ≡ j
spelled_number v j r = ap (λ (b : Bool). cond b j v.beside.claim) (eq-eqb v.rule 1 r)

spelled_claim : (v : View) (j : ℕ) → (v.rule ≡ 1 → ⊥) → spelled v.rule j v.beside.claim ≡ v.beside.claim
spelled_claim v j r = ap (λ (b : Bool). cond b j v.beside.claim) (ne_eqb v.rule 1 r)

fits : (v : View) (j : ℕ) → Decides (seeking_ends v j) (Fits v j)
fits v j = (there, back)
  where
    there : seeking_ends v j ≡ true → Fits v j
    there e =
        let both = and_true (member j v.own.held) (low_agree v.own.round v.own.word (spelled v.rule j v.beside.claim)) e in
        let agree = agree_bits v.own.round v.own.word (spelled v.rule j v.beside.claim) both.1 in
        record {
          is_held = both.0;
          by_number = λ r i l. agree i l ∙ ap (bit i) (spelled_number v j r);
          by_claim = λ r i l. agree i l ∙ ap (bit i) (spelled_claim v j r);
        }

    same : Fits v j → (i : ℕ) → i ≤ v.own.round → bit i v.own.word ≡ bit i (spelled v.rule j v.beside.claim)
    same f i l =
        by_bool (eqb v.rule 1)
        (λ p. let r = eqb-true v.rule 1 p in f.by_number r i l ∙ ap (bit i) (sym (spelled_number v j r)))
        (λ p. let r = eqb-false v.rule 1 p in f.by_claim r i l ∙ ap (bit i) (sym (spelled_claim v j r)))

    back : Fits v j → seeking_ends v j ≡ true
    back f = ap (λ (b : Bool). b && low_agree v.own.round v.own.word (spelled v.rule j v.beside.claim)) f.is_held ∙ bits_agree v.own.round v.own.word (spelled v.rule j v.beside.claim) (same f)

next_is : (n j : ℕ) → 0 < n → next_cursor n j ≡ (j + 1) % n
next_is n j l = ap (λ (b : Bool). cond b 0 ((j + 1) % n)) (ne_eqb n 0 (λ e. omega arith))

-- seeking ended at j with the stage g, which is not seeking
not_seeking : (g : Stage) → at Seeking g ≡ false → g ≡ Seeking → ⊥
not_seeking g p e = true≢false (sym (ap (at Seeking) e) ∙ p)

seeking_said : (v : View) (s : ℕ) → SeekingSaid v (stepped v s Seeking)
unfolding stepped sought entry_after_seek
seeking_said v s =
    let j = next_cursor v.count v.own.cursor in
    let fit = fits v j in
    cond_ind (SeekingSaid v) (seeking_ends v j) _ _
    (λ p. let f = fit.0 p in
    cond_ind (SeekingSaid v) (by_station v.rule) _ _
    (λ q. let r = eqb-true v.rule 1 q in
    cond_ind (SeekingSaid v) (last_round v) _ _
    (λ w. record {
      moves = next_is v.count v.own.cursor;
      ends = (λ n. f, λ g. not_seeking Decided refl);
      last = λ g r' l. (refl, refl);
      next = λ g r' n. absurd (n (eqb-true _ _ w));
      adds = λ g r' n l. absurd (n (eqb-true _ _ w));
      finish = λ g n. absurd (n r);
    })
    (λ w. record {
      moves = next_is v.count v.own.cursor;
      ends = (λ n. f, λ g. not_seeking Voting refl);
      last = λ g r' l. absurd (eqb-false _ _ w l);
      next = λ g r' n. refl;
      adds = λ g r' n l. rounds_on v.own.round l;
      finish = λ g n. absurd (n r);
    }))
    (λ q. let r = eqb-false v.rule 1 q in
    record {
      moves = next_is v.count v.own.cursor;
      ends = (λ n. f, λ g. not_seeking FinishVoting refl);
      last = λ g r' l. absurd (r r');
      next = λ g r' n. absurd (r r');
      adds = λ g r' n l. absurd (r r');
      finish = λ g n. refl;
    }))
    (λ p. record {
      moves = next_is v.count v.own.cursor;
      ends = (λ n. absurd (n refl), λ g. fails (seeking_ends v j) fit p g);
      last = λ g r' l. fails (seeking_ends v j) fit p g;
      next = λ g r' n. fails (seeking_ends v j) fit p g;
      adds = λ g r' n l. fails (seeking_ends v j) fit p g;
      finish = λ g n. fails (seeking_ends v j) fit p g;
    })

-- ---- at each stage

steps_said : (v : View) (s : ℕ) → StepSaid v s (own_after v (step s)) (ballot_after v (step s))
unfolding own_after ballot_after
steps_said v s =
    record {
      waiting = λ e. subst (λ (g : Stage). WaitingSaid v s (stepped v s g)) (sym e) (waiting_said v s);
      voting = λ e. subst (λ (g : Stage). VotingSaid v s (stepped v s g) (voted v s g)) (sym e) (voting_said v s);
      awaiting = λ e. subst (λ (g : Stage). AwaitingSaid v (stepped v s g)) (sym e) (awaiting_said v s);
      seeking = λ e. subst (λ (g : Stage). SeekingSaid v (stepped v s g)) (sym e) (seeking_said v s);
      finish_voting = λ e. subst (λ (g : Stage). FinishVotingSaid v s (stepped v s g) (voted v s g)) (sym e) (finish_voting_said v s);
      finish_awaiting = λ e. subst (λ (g : Stage). FinishAwaitingSaid v (stepped v s g)) (sym e) (finish_awaiting_said v s);
    }

-- ---- the five events

pub all_said : AllSaid
unfolding own_after ballot_after
all_said v =
    record {
      claim_waits = λ s c. refl;
      claim_put_in = λ s c. refl;
      deliver_marks = λ t s h. member_same t v.own.held h;
      deliver_no_other = λ t s i d. member_other i t v.own.held d;
      lose_marks = λ s. refl;
      answer_answers = λ b a. refl;
      answer_no = λ b. refl;
      answer_yes = λ b. refl;
      step_does = steps_said v;
    }
