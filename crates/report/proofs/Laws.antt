-- The laws of the text: digits are no line feeds, and a line has one, at its end. Assumes nothing.
use Prim.Native.Nat.{ℕ, zero, suc, ◌+◌, ◌/◌, ◌%◌, ◌≤◌, ◌<◌}
use mathlib.Core.Path.{◌≡◌, refl, sym}
use mathlib.Core.Bool.{Bool, true, false}
use mathlib.Core.List.{List, [], ◌∷◌, ◌++◌, append_assoc, append-nil}
use native.Mathlib.Omega.{arith}
use lib.Dec.{ltb, lit≤}
use lib.ListN.{length}
use borrow.Author.Tests.{lt-ltb, le-ltb, ltb-true, ltb-false, ne_eqb}
use Rattle.bits.specs.Log.{ceil_log2, least_from}
use Rattle.entry.specs.declared.entry.Stage.{Stage}
use Rattle.entry.specs.declared.entry.Stage.TheVariants.{Idle, Waiting, Voting, Awaiting, Seeking, FinishVoting, FinishAwaiting, Decided}
use Rattle.entry.specs.Entries.{ballots}
use Rattle.settlement.specs.declared.record.Settlement.{Settlement}
use Rattle.settlement.specs.Record.{entry}
use Rattle.settlement.specs.Look.{looked}
use Rattle.logs.specs.Run.{ran}
use Rattle.report.specs.Quoted.{bytes_of}
use Rattle.report.specs.Decimal.{digit, digits, decimal}
use Rattle.report.specs.Text.{named, first_line, stage_word, decision_shown, presence, shown_line, station_line, station_lines, text, too_long_text}
use Rattle.report.specs.Report.{text_of, report}
use Rattle.report.specs.Laws.{line_feeds, ReportLaws, LinesShown}
use Rattle.report.proofs.Decimal.{decimal_small, decimal_more, decimal_of}

pub feeds_append : (a b : List ℕ) → line_feeds (a ++ b) ≡ line_feeds a + line_feeds b
feeds_append [] b = omega arith
feeds_append (x ∷ a) b = omega (arith, feeds_append a b)

no_feed : (d : ℕ) → line_feeds (digit d ∷ []) ≡ 0
no_feed d = rw (ne_eqb (48 + d) 10 (λ e. omega (arith, e)))

below : (n x : ℕ) → x < n → line_feeds (decimal x) ≡ 0
below zero x h = absurd (omega arith)
below (suc n) x h = go (ltb x 10) refl (λ p. below n (x / 10) (omega arith))
  where
    go : (b : Bool) → ltb x 10 ≡ b → (10 ≤ x → line_feeds (decimal (x / 10)) ≡ 0) → line_feeds (decimal x) ≡ 0
    go true e rest = rw (decimal_small x (ltb-true x 10 e)) (no_feed x)
    go false e rest =
        rw (decimal_more x (ltb-false x 10 e)) (omega (arith, feeds_append (decimal (x / 10)) (digit (x % 10) ∷ []), rest (ltb-false x 10 e), no_feed (x % 10)))

in_decimal : (x : ℕ) → line_feeds (decimal x) ≡ 0
in_decimal x = below (suc x) x (omega arith)

in_stage : (g : Stage) → line_feeds (stage_word g) ≡ 0
in_stage Idle = refl
in_stage Waiting = refl
in_stage Voting = refl
in_stage Awaiting = refl
in_stage Seeking = refl
in_stage FinishVoting = refl
in_stage FinishAwaiting = refl
in_stage Decided = refl

in_decision : (d : Bool) (v : ℕ) → line_feeds (decision_shown d v) ≡ 0
unfolding decision_shown
in_decision true v = in_decimal v
in_decision false v = refl

in_presence : (l : Bool) → line_feeds (presence l) ≡ 0
unfolding presence
in_presence true = refl
in_presence false = refl

in_first : (n rule events taken status : ℕ) → line_feeds (first_line n rule events taken status) ≡ 1
unfolding first_line
in_first n rule events taken status = simp (feeds_append, in_decimal) refl

in_line : (s : ℕ) (g : Stage) (d : Bool) (v k : ℕ) (l : Bool) → line_feeds (shown_line s g d v k l) ≡ 1
unfolding shown_line
in_line s g d v k l = simp (feeds_append, in_decimal, in_stage, in_decision, in_presence) refl

in_lines : (r : Settlement) (n : ℕ) → line_feeds (station_lines (station_line r) n) ≡ n
unfolding station_lines station_line
in_lines r zero = refl
in_lines r (suc n) =
    omega (arith, feeds_append (station_lines (station_line r) n) (station_line r n), in_lines r n, in_line n (entry r n).stage (looked r n).decided (looked r n).claim (looked r n).votes (entry r n).lost)

in_text : (r : Settlement) (events taken status : ℕ) → line_feeds (text r events taken status) ≡ suc r.count
unfolding text
in_text r events taken status =
    let first = first_line r.count r.rule events taken status in
    omega (arith, feeds_append first (station_lines (station_line r) r.count), in_first r.count r.rule events taken status, in_lines r r.count)

-- ---- nothing stands behind the last line feed

abbrev Ends : List ℕ → Type 0
Ends l = (before : List ℕ) × (l ≡ before ++ bytes_of "\n")

after : (a : List ℕ) {b : List ℕ} → Ends b → Ends (a ++ b)
after a x = (a ++ x.0, rw x.1 (sym (append_assoc a x.0 (bytes_of "\n"))))

first_ends : (n rule events taken status : ℕ) → Ends (first_line n rule events taken status)
unfolding first_line
first_ends n rule events taken status =
    (named "stations " n ++ named " rule " rule ++ named " ballots " (ballots n rule) ++ named " events " events ++ named " taken " taken ++ named " status " status, refl)

line_ends : (s : ℕ) (g : Stage) (d : Bool) (v k : ℕ) (l : Bool) → Ends (shown_line s g d v k l)
unfolding shown_line
line_ends s g d v k l =
    (decimal s ++ bytes_of " " ++ stage_word g ++ bytes_of " " ++ decision_shown d v ++ named " votes " k ++ presence l, refl)

lines_end : (first : List ℕ) → Ends first → (r : Settlement) (n : ℕ) → Ends (first ++ station_lines (station_line r) n)
unfolding station_lines station_line
lines_end first e r zero = rw (append-nil first) e
lines_end first e r (suc n) =
    after first (after (station_lines (station_line r) n) (line_ends n (entry r n).stage (looked r n).decided (looked r n).claim (looked r n).votes (entry r n).lost))

text_ends : (r : Settlement) (events taken status : ℕ) → Ends (text r events taken status)
unfolding text
text_ends r events taken status = lines_end _ (first_ends r.count r.rule events taken status) r r.count

is_played : (log : List ℕ) → length log ≤ 65536 → report log ≡ text_of (ran log 65536)
unfolding report
is_played log h = rw (le-ltb 65536 (length log) h)

is_longer : (log : List ℕ) → 65536 < length log → report log ≡ bytes_of "too long\n"
unfolding report too_long_text
is_longer log h = rw (lt-ltb 65536 (length log) h)

pub report_laws : ReportLaws
report_laws = record { played = is_played; longer = is_longer; lines = in_text; ends = text_ends; decimals = decimal_of }

more : (x : ℕ) (t : List ℕ) → 10 ≤ x → decimal (x / 10) ≡ t → decimal x ≡ t ++ (digit (x % 10) ∷ [])
more x t h e = rw (decimal_more x h, e)

-- digit by digit: computed whole it is too deep
largest_shown : decimal 4294967295 ≡ bytes_of "4294967295"
largest_shown =
    let a = more 42 _ (lit≤ tt) (decimal_small 4 (lit≤ tt)) in
    let b = more 4294 _ (lit≤ tt) (more 429 _ (lit≤ tt) a) in
    let c = more 429496 _ (lit≤ tt) (more 42949 _ (lit≤ tt) b) in
    let d = more 42949672 _ (lit≤ tt) (more 4294967 _ (lit≤ tt) c) in
    more 4294967295 _ (lit≤ tt) (more 429496729 _ (lit≤ tt) d)

pub lines_shown : LinesShown
unfolding first_line shown_line decision_shown presence decimal digits ceil_log2 least_from
lines_shown =
    record {
      blank = refl;
      by_station = refl;
      by_claim = refl;
      idle = refl;
      waiting = refl;
      voting = refl;
      awaiting = refl;
      seeking = refl;
      finish_voting = refl;
      finish_awaiting = refl;
      decided = refl;
      decided_lost = refl;
      largest = largest_shown;
    }
