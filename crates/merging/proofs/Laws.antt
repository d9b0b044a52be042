-- What the document says of MERGE, test by test: each of the seven ways that its tests go, and the number there. Assumes nothing.
use Prim.Native.Nat.{ℕ, ◌+◌, ◌≤◌, ◌<◌}
use mathlib.Core.Path.{◌≡◌, refl, sym, ap, ◌∙◌}
use mathlib.Core.Logic.{◌↔◌, ◌⊎◌, inl, inr, ⊎_elim}
use mathlib.Core.Bool.{Bool, true, false, ◌&&◌}
use mathlib.Core.List.{List, ◌∷◌, ◌++◌}
use native.Mathlib.Omega.{arith}
use lib.Dec.{eqb, ltb}
use lib.ListN.{length, drop, length-append, length-drop}
use lib.Seq.{take_at, drop_at}
use borrow.Author.Tests.{eqb-true, eqb-false, eq-eqb, ne_eqb, ltb-true, ltb-false}
use Rattle.basics.specs.Bytes.{InBytes}
use Rattle.basics.specs.Tests.{refuse, first_met}
use Rattle.basics.proofs.Bools.{no_clash, not_false→true, not_true→false, and_true}
use Rattle.basics.proofs.Below.{any_found, any_none}
use Rattle.consensus.specs.State.{fresh}
use Rattle.put.specs.Bytes.{bytes}
use Rattle.written.specs.Bytes.{log_bytes}
use Rattle.merging.specs.Merged.{has_events, MergedLaws}
use Rattle.merging.specs.Logs.{Log, log_read}
use Rattle.merging.specs.Merge.{openings_differ, some_in_both, opening_of, merged_of, merged_list, opening_bytes, has_fault, merge_number, merge_bytes}
use Rattle.merging.specs.Laws.{literal_list, BothRead, SameOpening, InBoth, NeverWhole, events, count, MergeLaws}
use Rattle.merging.proofs.Demand.{rule_again}
use Rattle.merging.proofs.Merged.{merging_laws}
use Rattle.merging.proofs.InTurn.{turns_from}
use Rattle.merging.proofs.Told.{log_told}
use Rattle.merging.proofs.Read.{read_every, opens}
use Rattle.merging.proofs.Numbers.{read_fault, old_number, Small, small, has_small, log_long, order_long, same_list}

-- a product of tests
and_of : (a b : Bool) → a ≡ true → b ≡ true → (a && b) ≡ true
and_of a b p q = rw (p, q)

always : {k m : ℕ} {Q : Type 0} → k ≡ m → Q → (k ≡ m) ↔ Q
always e q = (λ _. q, λ _. e)

never : {k m : ℕ} {Q : Type 0} → (k ≡ m → ⊥) → (Q → ⊥) → (k ≡ m) ↔ Q
never n m = (λ e. absurd (n e), λ q. absurd (m q))

-- a test on a log's fault
faulty_said : (l : Log) → has_fault l ≡ true → l.fault ≡ 0 → ⊥
faulty_said l e = eqb-false l.fault 0 (not_true→false _ e)

sound_said : (l : Log) → has_fault l ≡ false → l.fault ≡ 0
sound_said l e = eqb-true l.fault 0 (not_false→true _ e)

module _ (first second : List ℕ) where
  abbrev a : Log
  a = log_read first

  abbrev b : Log
  b = log_read second

  differ_said : openings_differ a b ≡ true → SameOpening first second → ⊥
  differ_said e s =
      no_clash _ (and_of (eqb a.count b.count) (eqb a.rule b.rule) (eq-eqb _ _ s.0) (eq-eqb _ _ s.1)) (not_true→false _ e)

  same_said : openings_differ a b ≡ false → SameOpening first second
  same_said e =
      let x = and_true (eqb a.count b.count) (eqb a.rule b.rule) (not_false→true _ e) in
      (eqb-true _ _ x.0, eqb-true _ _ x.1)

  -- "existing or not": below 256, as every station number of a log is
  abbrev shares : ℕ → Bool
  shares s = has_events s a.events && has_events s b.events

  both_said : some_in_both a b ≡ true → InBoth first second
  both_said e =
      let x = any_found 256 shares e in
      let y = and_true (has_events x.0 a.events) (has_events x.0 b.events) x.2 in
      (x.0, y.0, y.1)

  apart_said : InBytes first → some_in_both a b ≡ false → InBoth first second → ⊥
  apart_said in_bytes e x =
      let below = has_small a.events (read_every Small small first in_bytes) x.0 x.1 in
      no_clash (shares x.0) (and_of _ _ x.1 x.2) (any_none 256 shares e x.0 below)

  -- what holds of the two lists of events made one
  the_list : MergedLaws (opening_of a) a.events b.events
  the_list = merging_laws (opening_of a) a.events b.events

  never_said : (InBoth first second → ⊥) → (merged_of a b).blocked ≡ true → NeverWhole first second
  never_said apart = (the_list.exactly (λ s p q. apart (s, p, q))).0

  goes_said : (InBoth first second → ⊥) → (merged_of a b).blocked ≡ false → NeverWhole first second → ⊥
  goes_said apart e x = no_clash _ ((the_list.exactly (λ s p q. apart (s, p, q))).1 x) e

  its_fields : merge_bytes first second ≡ 0x01 ∷ 0 ∷ 2 ∷ a.count ∷ a.rule ∷ literal_list (events first second)
  unfolding bytes
  its_fields = ap (λ (l : List ℕ). opening_bytes a ++ l) (same_list (events first second))

  -- not blocked, the log written is no longer than both without one opening
  not_long : BothRead first second → (merged_of a b).blocked ≡ false → length (merge_bytes first second) + 5 ≤ length first + length second
  unfolding bytes
  not_long read e =
      let all = length-append (opening_bytes a) (log_bytes (merged_list a b)) in
      omega (arith, log_long first read.0, log_long second read.1, order_long (the_list.order e), all)

  module _ (first_bytes : InBytes first) (before : List ℕ) where
    abbrev its_number : ℕ
    its_number = merge_number first second (length before)

    abbrev size : ℕ
    size = length (merge_bytes first second)

    record Numbers : Type 0 where
      is_first : (a.fault ≡ 0 → ⊥) → its_number ≡ a.fault
      is_second : a.fault ≡ 0 → (b.fault ≡ 0 → ⊥) → its_number ≡ b.fault
      is_60 : (its_number ≡ 60) ↔ (BothRead first second × (SameOpening first second → ⊥))
      is_61 : (its_number ≡ 61) ↔ (BothRead first second × SameOpening first second × InBoth first second)
      is_62 : (its_number ≡ 62) ↔ (BothRead first second × SameOpening first second × (InBoth first second → ⊥) × NeverWhole first second)
      is_30 : (its_number ≡ 30)
          ↔ (BothRead first second × SameOpening first second × (InBoth first second → ⊥) × (NeverWhole first second → ⊥) × (length before < size))
      is_0 : (its_number ≡ 0)
          ↔ (BothRead first second × SameOpening first second × (InBoth first second → ⊥) × (NeverWhole first second → ⊥) × (size ≤ length before))
      -- where the log fits or not, it was made
      goes : (its_number ≡ 0) ⊎ (its_number ≡ 30) → (merged_of a b).blocked ≡ false

    number_by : {f g d s k o : Bool} → has_fault a ≡ f → has_fault b ≡ g → openings_differ a b ≡ d → some_in_both a b ≡ s → (merged_of a b).blocked ≡ k
        → ltb (length before) size ≡ o
        → its_number ≡ refuse f a.fault (refuse g b.fault (refuse d 60 (refuse s 61 (refuse k 62 (refuse o 30 0)))))
    unfolding merge_number first_met
    number_by p q x y z w = rw (p, q, x, y, z, w)

    no_number : {Q : Type 0} (k : ℕ) → its_number ≡ k → (k ≡ 0 → ⊥) → (k ≡ 30 → ⊥) → (its_number ≡ 0) ⊎ (its_number ≡ 30) → Q
    no_number k e n m w = absurd (⊎_elim (λ z. n (sym e ∙ z)) (λ z. m (sym e ∙ z)) w)

    by_tests : (f g d s k o : Bool) → has_fault a ≡ f → has_fault b ≡ g → openings_differ a b ≡ d → some_in_both a b ≡ s → (merged_of a b).blocked ≡ k
        → ltb (length before) size ≡ o → Numbers
    by_tests true g d s k o p q x y z w =
        let e : its_number ≡ a.fault = number_by p q x y z w in
        let n = faulty_said a p in
        let old = old_number a.fault (read_fault first) in
        record {
          is_first = λ _. e;
          is_second = λ r. absurd (n r);
          is_60 = never (λ v. old 60 (inr (omega arith)) (sym e ∙ v)) (λ u. n u.0.0);
          is_61 = never (λ v. old 61 (inr (omega arith)) (sym e ∙ v)) (λ u. n u.0.0);
          is_62 = never (λ v. old 62 (inr (omega arith)) (sym e ∙ v)) (λ u. n u.0.0);
          is_30 = never (λ v. old 30 (inl refl) (sym e ∙ v)) (λ u. n u.0.0);
          is_0 = never (λ v. n (sym e ∙ v)) (λ u. n u.0.0);
          goes = no_number a.fault e n (old 30 (inl refl));
        }
    by_tests false true d s k o p q x y z w =
        let e : its_number ≡ b.fault = number_by p q x y z w in
        let n = faulty_said b q in
        let old = old_number b.fault (read_fault second) in
        record {
          is_first = λ m. absurd (m (sound_said a p));
          is_second = λ r m. e;
          is_60 = never (λ v. old 60 (inr (omega arith)) (sym e ∙ v)) (λ u. n u.0.1);
          is_61 = never (λ v. old 61 (inr (omega arith)) (sym e ∙ v)) (λ u. n u.0.1);
          is_62 = never (λ v. old 62 (inr (omega arith)) (sym e ∙ v)) (λ u. n u.0.1);
          is_30 = never (λ v. old 30 (inl refl) (sym e ∙ v)) (λ u. n u.0.1);
          is_0 = never (λ v. n (sym e ∙ v)) (λ u. n u.0.1);
          goes = no_number b.fault e n (old 30 (inl refl));
        }
    by_tests false false true s k o p q x y z w =
        let e : its_number ≡ 60 = number_by p q x y z w in
        let differ = differ_said x in
        record {
          is_first = λ m. absurd (m (sound_said a p));
          is_second = λ r m. absurd (m (sound_said b q));
          is_60 = always e ((sound_said a p, sound_said b q), differ);
          is_61 = never (λ v. omega arith) (λ u. differ u.1);
          is_62 = never (λ v. omega arith) (λ u. differ u.1);
          is_30 = never (λ v. omega arith) (λ u. differ u.1);
          is_0 = never (λ v. omega arith) (λ u. differ u.1);
          goes = no_number 60 e (λ v. omega arith) (λ v. omega arith);
        }
    by_tests false false false true k o p q x y z w =
        let e : its_number ≡ 61 = number_by p q x y z w in
        let same = same_said x in
        let shared = both_said y in
        record {
          is_first = λ m. absurd (m (sound_said a p));
          is_second = λ r m. absurd (m (sound_said b q));
          is_60 = never (λ v. omega arith) (λ u. u.1 same);
          is_61 = always e ((sound_said a p, sound_said b q), same, shared);
          is_62 = never (λ v. omega arith) (λ u. u.2 shared);
          is_30 = never (λ v. omega arith) (λ u. u.2 shared);
          is_0 = never (λ v. omega arith) (λ u. u.2 shared);
          goes = no_number 61 e (λ v. omega arith) (λ v. omega arith);
        }
    by_tests false false false false true o p q x y z w =
        let e : its_number ≡ 62 = number_by p q x y z w in
        let same = same_said x in
        let apart = apart_said first_bytes y in
        let none = never_said apart z in
        record {
          is_first = λ m. absurd (m (sound_said a p));
          is_second = λ r m. absurd (m (sound_said b q));
          is_60 = never (λ v. omega arith) (λ u. u.1 same);
          is_61 = never (λ v. omega arith) (λ u. apart u.2);
          is_62 = always e ((sound_said a p, sound_said b q), same, apart, none);
          is_30 = never (λ v. omega arith) (λ u. u.3 none);
          is_0 = never (λ v. omega arith) (λ u. u.3 none);
          goes = no_number 62 e (λ v. omega arith) (λ v. omega arith);
        }
    by_tests false false false false false true p q x y z w =
        let e : its_number ≡ 30 = number_by p q x y z w in
        let same = same_said x in
        let apart = apart_said first_bytes y in
        let some = goes_said apart z in
        let less = ltb-true (length before) size w in
        record {
          is_first = λ m. absurd (m (sound_said a p));
          is_second = λ r m. absurd (m (sound_said b q));
          is_60 = never (λ v. omega arith) (λ u. u.1 same);
          is_61 = never (λ v. omega arith) (λ u. apart u.2);
          is_62 = never (λ v. omega arith) (λ u. some u.3);
          is_30 = always e ((sound_said a p, sound_said b q), same, apart, some, less);
          is_0 = never (λ v. omega arith) (λ u. let l = u.4 in omega arith);
          goes = λ _. z;
        }
    by_tests false false false false false false p q x y z w =
        let e : its_number ≡ 0 = number_by p q x y z w in
        let same = same_said x in
        let apart = apart_said first_bytes y in
        let some = goes_said apart z in
        let room = ltb-false (length before) size w in
        record {
          is_first = λ m. absurd (m (sound_said a p));
          is_second = λ r m. absurd (m (sound_said b q));
          is_60 = never (λ v. omega arith) (λ u. u.1 same);
          is_61 = never (λ v. omega arith) (λ u. apart u.2);
          is_62 = never (λ v. omega arith) (λ u. some u.3);
          is_30 = never (λ v. omega arith) (λ u. let l = u.4 in omega arith);
          is_0 = always e ((sound_said a p, sound_said b q), same, apart, some, room);
          goes = λ _. z;
        }

    numbers : Numbers
    numbers =
        by_tests (has_fault a) (has_fault b) (openings_differ a b) (some_in_both a b) (merged_of a b).blocked (ltb (length before) size)
        refl refl refl refl refl refl

    -- ---- the buffer

    module _ (z : its_number ≡ 0) where
      same_length : length (merge_bytes first second ++ drop size before) ≡ length before
      same_length = rw (length-append (merge_bytes first second) (drop size before), length-drop) (let l = (numbers.is_0.0 z).4 in omega arith)

      its_short : count first second before + 5 ≤ length first + length second
      its_short = rw z (not_long (numbers.is_0.0 z).0 (numbers.goes (inl z)))

    laws : MergeLaws first second before
    laws =
        record {
          first_told = log_told first;
          second_told = log_told second;
          first_fault = read_fault first;
          second_fault = read_fault second;
          opening_told = λ z. (refl, rule_again _ _ (opens first z));
          number_first = numbers.is_first;
          number_second = numbers.is_second;
          number_60 = numbers.is_60;
          number_61 = numbers.is_61;
          number_62 = numbers.is_62;
          number_30 = numbers.is_30;
          accepts = numbers.is_0;
          refused = λ n. rw (ne_eqb its_number 0 n) (refl, refl);
          written = λ z. rw z (refl, take_at (merge_bytes first second) _ size refl);
          others = λ z. rw z (same_length z, drop_at (merge_bytes first second) _ size refl);
          fields = its_fields;
          order = λ z. the_list.order (numbers.goes (inl z));
          in_turn = λ z. turns_from (opening_of a) fresh a.events b.events (numbers.goes (inl z));
          whole = λ z. the_list.accepted;
          short = its_short;
          enough = λ l z. let s = not_long (numbers.is_30.0 z).0 (numbers.goes (inr z)) in let u = (numbers.is_30.0 z).4 in omega arith;
        }

pub merge_laws : (first second before : List ℕ) → InBytes first → InBytes second → MergeLaws first second before
merge_laws first second before x y = laws first second x before
