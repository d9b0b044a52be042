-- A text taken apart at its line feeds, and a line at its spaces: neither stands in a number or in a word of the text. Assumes nothing.
use Prim.Native.Nat.{ℕ, zero, suc, ◌/◌, ◌%◌, ◌<◌}
use mathlib.Core.Path.{◌≡◌, refl, sym, subst, ◌∙◌, ap}
use mathlib.Core.Logic.{◌⊎◌, inl, inr}
use mathlib.Core.Bool.{Bool, true, false, cond, not, ◌&&◌}
use mathlib.Core.List.{List, [], ◌∷◌, ◌++◌, append_assoc, append-nil}
use native.Mathlib.Omega.{arith}
use native.Mathlib.Nat.{le_refl, le_step}
use lib.Dec.{eqb, ltb}
use lib.ListN.{drop, get_or}
use borrow.Author.Tests.{eq-eqb, ne_eqb, not-true, lt-ltb, ltb-true}
use Rattle.basics.proofs.Bools.{no_clash, and_true}
use Rattle.consensus.specs.Told.{Listed}
use Rattle.entry.specs.declared.entry.Stage.{Stage}
use Rattle.entry.specs.declared.entry.Stage.TheVariants.{Idle, Waiting, Voting, Awaiting, Seeking, FinishVoting, FinishAwaiting, Decided}
use Rattle.report.specs.Quoted.{bytes_of}
use Rattle.report.specs.Decimal.{digit, digits, decimal}
use Rattle.report.specs.Text.{named, stage_word, decision_shown, presence, station_lines}
use Rattle.report.specs.Agreed.{lines_from, lines}

-- ---- every byte of a list passes a test

unfoldable pub each : (ℕ → Bool) → List ℕ → Bool
each f [] = true
each f (b ∷ l) = f b && each f l

abbrev pub other : ℕ → ℕ → Bool
other c b = not (eqb b c)

module _ (f : ℕ → Bool) where
  each_both : (l m : List ℕ) → each f l ≡ true → each f m ≡ true → each f (l ++ m) ≡ true
  unfolding each
  each_both [] m e g = g
  each_both (b ∷ l) m e g = let x = and_true (f b) (each f l) e in rw x.0 (each_both l m x.1 g)

  each_digit : ((d : ℕ) → d < 10 → f (digit d) ≡ true) → (most x : ℕ) → each f (digits most x) ≡ true
  unfolding each digits
  each_digit h zero x = refl
  each_digit h (suc most) x = go (ltb x 10) refl (each_digit h most (x / 10))
    where
      go : (b : Bool) → ltb x 10 ≡ b → each f (digits most (x / 10)) ≡ true
          → each f (cond b (digit x ∷ []) (digits most (x / 10) ++ (digit (x % 10) ∷ []))) ≡ true
      go true e rest = rw (h x (ltb-true x 10 e))
      go false e rest = each_both (digits most (x / 10)) (digit (x % 10) ∷ []) rest (rw (h (x % 10) (omega arith)))

no_feed : (x : ℕ) → each (other 10) (decimal x) ≡ true
unfolding decimal
no_feed x = each_digit (other 10) (λ d l. rw (ne_eqb (digit d) 10 (λ e. omega arith))) (suc x) x

pub no_space : (x : ℕ) → each (other 32) (decimal x) ≡ true
unfolding decimal
no_space x = each_digit (other 32) (λ d l. rw (ne_eqb (digit d) 32 (λ e. omega arith))) (suc x) x

pub no_letter : (x : ℕ) → each (λ b. ltb b 58) (decimal x) ≡ true
unfolding decimal
no_letter x = each_digit (λ b. ltb b 58) (λ d l. lt-ltb (digit d) 58 (omega arith)) (suc x) x

not_first : (c y : ℕ) → y ≡ c → other c y ≡ true → ⊥
not_first c y z w = no_clash (other c y) w (rw (eq-eqb y c z))

-- two lists are taken apart at the first byte c
pub apart : (c : ℕ) (l m a b : List ℕ) → each (other c) l ≡ true → each (other c) m ≡ true → l ++ (c ∷ a) ≡ m ++ (c ∷ b) → (l ≡ m) × (a ≡ b)
unfolding each
apart c [] [] a b e g q = (refl, ap (drop 1) q)
apart c [] (y ∷ m) a b e g q = absurd (not_first c y (sym (ap (λ (z : List ℕ). get_or z 0 0) q)) (and_true (other c y) (each (other c) m) g).0)
apart c (x ∷ l) [] a b e g q = absurd (not_first c x (ap (λ (z : List ℕ). get_or z 0 0) q) (and_true (other c x) (each (other c) l) e).0)
apart c (x ∷ l) (y ∷ m) a b e g q =
    let t = apart c l m a b (and_true (other c x) (each (other c) l) e).1 (and_true (other c y) (each (other c) m) g).1 (ap (drop 1) q) in
    let h : x ≡ y = ap (λ (z : List ℕ). get_or z 0 0) q in
    (rw (h, t.0), t.1)

-- ---- the lines of a text

pub line_first : (l m t : List ℕ) → each (other 10) m ≡ true → lines_from l (m ++ (10 ∷ t)) ≡ (l ++ m) ∷ lines_from [] t
unfolding lines_from each
line_first l [] t e = ap (λ (z : List ℕ). z ∷ lines_from [] t) (sym (append-nil l))
line_first l (b ∷ m) t e =
    let x = and_true (other 10 b) (each (other 10) m) e in
    rw (not_so b x.0) (line_first (l ++ (b ∷ [])) m t x.1 ∙ ap (λ (z : List ℕ). z ∷ lines_from [] t) (append_assoc l (b ∷ []) m))
  where
    not_so : (b : ℕ) → other 10 b ≡ true → eqb b 10 ≡ false
    not_so b e = not-true (eqb b 10) e

-- a line with its line feed
abbrev Line : List ℕ → List ℕ → Type 0
Line l whole_line = whole_line ≡ l ++ (10 ∷ [])

-- what a text whose first lines are those of the stations below n lists
pub stations_listed : (f g : ℕ → List ℕ) (n : ℕ) (t l : List ℕ) → ((s : ℕ) → Line (g s) (f s)) → ((s : ℕ) → each (other 10) (g s) ≡ true)
    → Listed l (lines (station_lines f n ++ t)) → ((s : ℕ) × (s < n) × (g s ≡ l)) ⊎ Listed l (lines t)
unfolding station_lines
stations_listed f g zero t l ends plain h = inr h
stations_listed f g (suc n) t l ends plain h =
    go (stations_listed f g n (f n ++ t) l ends plain (subst (λ (z : List ℕ). Listed l (lines z)) (append_assoc (station_lines f n) (f n) t) h))
  where
    next : lines (f n ++ t) ≡ g n ∷ lines t
    next = ap (λ (z : List ℕ). lines (z ++ t)) (ends n) ∙ ap lines (append_assoc (g n) (10 ∷ []) t) ∙ line_first [] (g n) t (plain n)

    last : Listed l (g n ∷ lines t) → ((s : ℕ) × (s < suc n) × (g s ≡ l)) ⊎ Listed l (lines t)
    last (inl e) = inl (n, le_refl (suc n), e)
    last (inr k) = inr k

    go : ((s : ℕ) × (s < n) × (g s ≡ l)) ⊎ Listed l (lines (f n ++ t)) → ((s : ℕ) × (s < suc n) × (g s ≡ l)) ⊎ Listed l (lines t)
    go (inl x) = inl (x.0, le_step x.1, x.2)
    go (inr k) = last (subst (Listed l) next k)

-- ---- the first line, and the line of a station, before the line feed

module _ (n rule ballot_count events taken status : ℕ) where
  unfoldable pub first_words : List ℕ
  first_words =
      named "stations " n ++ named " rule " rule ++ named " ballots " ballot_count ++ named " events " events ++ named " taken " taken
      ++ named " status " status

  pub first_plain : each (other 10) first_words ≡ true
  unfolding each first_words
  first_plain =
      let upto_rule = named "stations " n ++ named " rule " rule in
      let upto_ballots = upto_rule ++ named " ballots " ballot_count in
      let upto_events = upto_ballots ++ named " events " events in
      let upto_taken = upto_events ++ named " taken " taken in
      each_both (other 10) upto_taken (named " status " status)
      (each_both (other 10) upto_events (named " taken " taken)
      (each_both (other 10) upto_ballots (named " events " events)
      (each_both (other 10) upto_rule (named " ballots " ballot_count)
      (each_both (other 10) (named "stations " n) (named " rule " rule) (no_feed n) (no_feed rule)) (no_feed ballot_count)) (no_feed events)) (no_feed taken))
      (no_feed status)

module _ (s : ℕ) (g : Stage) (decided : Bool) (v k : ℕ) (lost : Bool) where
  -- behind the stage
  abbrev pub behind : List ℕ
  behind = decision_shown decided v ++ named " votes " k ++ presence lost

  unfoldable pub station_words : List ℕ
  station_words = decimal s ++ bytes_of " " ++ stage_word g ++ bytes_of " " ++ decision_shown decided v ++ named " votes " k ++ presence lost

  -- its parts, from the left
  pub in_parts : station_words ≡ decimal s ++ (32 ∷ (stage_word g ++ (32 ∷ behind)))
  unfolding station_words
  in_parts =
      let front = decimal s ++ bytes_of " " ++ stage_word g ++ bytes_of " " in
      let rest = decision_shown decided v ++ named " votes " k ++ presence lost in
      ap (λ (z : List ℕ). z ++ presence lost) (append_assoc front (decision_shown decided v) (named " votes " k))
      ∙ append_assoc front (decision_shown decided v ++ named " votes " k) (presence lost)
      ∙ append_assoc (decimal s ++ bytes_of " " ++ stage_word g) (bytes_of " ") rest
      ∙ append_assoc (decimal s ++ bytes_of " ") (stage_word g) (bytes_of " " ++ rest)
      ∙ append_assoc (decimal s) (bytes_of " ") (stage_word g ++ (bytes_of " " ++ rest))

  pub station_plain : each (other 10) station_words ≡ true
  unfolding each decision_shown presence
  station_plain =
      rw in_parts
      (each_both (other 10) (decimal s) _ (no_feed s)
      (each_both (other 10) (stage_word g) _ (word_plain g)
      (each_both (other 10) (decision_shown decided v ++ named " votes " k) _ (each_both (other 10) (decision_shown decided v) _ (decision_plain decided) (no_feed k)) (presence_plain lost))))
    where
      word_plain : (g : Stage) → each (other 10) (stage_word g) ≡ true
      word_plain Idle = refl
      word_plain Waiting = refl
      word_plain Voting = refl
      word_plain Awaiting = refl
      word_plain Seeking = refl
      word_plain FinishVoting = refl
      word_plain FinishAwaiting = refl
      word_plain Decided = refl

      decision_plain : (b : Bool) → each (other 10) (cond b (decimal v) (bytes_of "-")) ≡ true
      decision_plain true = no_feed v
      decision_plain false = refl

      presence_plain : (b : Bool) → each (other 10) (cond b (bytes_of " lost") (bytes_of " live")) ≡ true
      presence_plain true = refl
      presence_plain false = refl
