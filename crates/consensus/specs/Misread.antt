-- Figure 2 with line 10 or line 11 read otherwise, run over a list to its end: what the paper's readers may get wrong, computed. Assumes nothing.
use Rattle.std.specs.Prelude.{ℕ, ◌≡◌, Bool, true, cond, eqb}
use Rattle.std.proofs.Math.Option.{Option, none, some}
use Rattle.bits.specs.Words.{low_agree}
use Rattle.consensus.specs.Events.{claim, deliver, step, lose, answer, History, start, ◌▷◌, rule_2}
use Rattle.consensus.specs.State.{decided}
use Rattle.consensus.specs.Rules.{after}
use Rattle.consensus.specs.Figure.{View, Does, goes, Figure, event}
use Rattle.consensus.specs.Figure2 as two
use Rattle.consensus.specs.Figure2.{line4, line5, line6, line7, line8, in8, line9, line10, line11, line12, in12, line13, line14, line15, returned}
use Rattle.consensus.specs.System.{System}
use Rattle.consensus.specs.Runs.{run}
use Rattle.consensus.specs.Told.{followed_by}
use Rattle.consensus.specs.Examples.{opening, three_and_five}

-- a test of d, in round k, against prop[j]
abbrev pub TestOf : Type 0
TestOf = (k d : ℕ) → Option ℕ → Bool

-- figure 2, line by line, with other tests in line 10 ("until") and in line 11 ("if d = prop[j]")
unfoldable pub line_with : (until finish : TestOf) → View → two.Place → Does two.Place
line_with until finish x line4 = two.line x line4
line_with until finish x line5 = two.line x line5
line_with until finish x line6 = two.line x line6
line_with until finish x (line7 j k d) = two.line x (line7 j k d)
line_with until finish x (line8 j k d) = two.line x (line8 j k d)
line_with until finish x (in8 j k d) = two.line x (in8 j k d)
line_with until finish x (line9 j k d) = two.line x (line9 j k d)
line_with until finish x (line10 j k d) = goes (cond (until k d (x.prop j)) (line11 j k d) (line9 j k d))
line_with until finish x (line11 j k d) = goes (line12 (finish k d (x.prop j)) j k d)
line_with until finish x (line12 f j k d) = two.line x (line12 f j k d)
line_with until finish x (in12 j k d) = two.line x (in12 j k d)
line_with until finish x (line13 r j k d) = two.line x (line13 r j k d)
line_with until finish x (line14 r j k d) = two.line x (line14 r j k d)
line_with until finish x (line15 d) = two.line x (line15 d)
line_with until finish x (returned v) = two.line x (returned v)

abbrev pub figure_with : (until finish : TestOf) → Figure
figure_with until finish = record { Place = two.Place; first = line4; line = line_with until finish; stop = two.stop }

-- the tests as figure 2 has them here: line 10 with "prop[j] ≠ ⊥", line 11 with the whole claim
abbrev pub whole : TestOf
whole k d p = two.equals d p

-- Line 10 as printed is "until [d[k..0] = prop[j][k..0]]" alone, and the paper does not say what the bits of ⊥ are.
-- One reading: memory starts at 0, and ⊥ is read as 0, in line 11 too.
abbrev pub zero_for_none : Option ℕ → ℕ
zero_for_none none = 0
zero_for_none (some v) = v

abbrev pub until_zero : TestOf
until_zero k d p = low_agree k d (zero_for_none p)

abbrev pub finish_zero : TestOf
finish_zero k d p = eqb d (zero_for_none p)

-- Another: ⊥ has no bits, so none of them differs, and no number equals ⊥.
abbrev pub until_passed : TestOf
until_passed k d none = true
until_passed k d (some v) = low_agree k d v

-- Line 11 by the low bits alone.
abbrev pub finish_low : TestOf
finish_low k d p = two.fits k d p

-- the run of such a figure with two processes; events that it does not allow are passed over
abbrev pub run_with : (until finish : TestOf) → History → System two.Place
run_with until finish h = run 2 (event (figure_with until finish)) line4 h

-- Station 1 is lost before it claims; station 0 claims 2, the one claim there is, holds it and goes on alone. Both finish answers are
-- tried after the first finish vote, and the one that was cast is taken.
abbrev pub alone_with_2 : History
alone_with_2 =
    start ▷ lose 1 ▷ claim 0 2 ▷ deliver 0 0 ▷ step 0 ▷ step 0 ▷ answer 0 0 ▷ step 0 ▷ step 0 ▷ step 0 ▷ step 0
    ▷ answer 1 1 ▷ answer 1 0 ▷ step 0 ▷ step 0 ▷ answer 2 1 ▷ step 0 ▷ step 0 ▷ step 0 ▷ step 0 ▷ answer 3 1 ▷ step 0

-- claims 3 and 5, the finish votes cast (Examples), and whichever finish answer was cast
abbrev pub three_and_five_on : History
three_and_five_on = three_and_five ▷ answer 1 1 ▷ answer 1 0 ▷ step 0 ▷ step 1

pub record Misread : Type 0 where
  -- with the test at line 10, station 0 decides the one claim there is, in the figure and in the play
  pub tested : ((run_with two.fits whole alone_with_2).process 0).place ≡ returned 2
  pub played : ((after (opening 2 rule_2) alone_with_2).station 0).stage ≡ decided 2 1
  -- ⊥ read as 0: it stops at station 1, which claimed nothing, finds d = 0 there and decides 0, which nobody claimed
  pub as_zero : ((run_with until_zero finish_zero alone_with_2).process 0).place ≡ returned 0
  -- ⊥ passed by line 10: it goes into round 1 with j = 1, and stands at line 8, where prop[1] has no bit to propose
  pub passed : ((run_with until_passed whole alone_with_2).process 0).place ≡ line8 1 1 0
  -- and there it stands for ever, whatever else happens: station 1 crashed before it broadcast. "prop[j] ≠ ⊥ by line 10" was needed
  pub for_ever : (h : History) → ((run_with until_passed whole (followed_by alone_with_2 h)).process 0).place ≡ line8 1 1 0
  -- claims 3 and 5, line 11 by the low bits: both decide 1, which nobody claimed. With whole claims both go on to round 1
  pub low_bits_0 : ((run_with two.fits finish_low three_and_five_on).process 0).place ≡ returned 1
  pub low_bits_1 : ((run_with two.fits finish_low three_and_five_on).process 1).place ≡ returned 1
  pub whole_claims_0 : ((run_with two.fits whole three_and_five_on).process 0).place ≡ line8 1 1 1
  pub whole_claims_1 : ((run_with two.fits whole three_and_five_on).process 1).place ≡ line8 0 1 1
  -- with the right tests it is figure 2 itself, line by line
  pub the_figure : (x : View) (p : two.Place) → line_with two.fits whole x p ≡ two.line x p
