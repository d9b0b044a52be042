-- Figure 2 of paper 000: the algorithm linear to the length of the proposed values ("by claim"). Assumes nothing.
use Rattle.std.specs.Prelude.{ℕ, suc, ◌+◌, ◌*◌, ◌%◌, Bool, true, false, cond, eqb}
use Rattle.std.proofs.Math.Option.{Option, none, some}
use Rattle.bits.specs.Digits.{bit}
use Rattle.bits.specs.Words.{with_bit, low_agree}
use Rattle.consensus.specs.Figure.{View, Does, blocked, goes, broadcasts, proposes, await, Figure}

-- The line that a process is about to do, with the variables j, k, d that it or a later line may read, in this order; before them
-- finish (line 12) and r (lines 13 and 14). `in8` and `in12` are inside the calls of lines 8 and 12.
pub data Place : Type 0 where
  line4 line5 line6 : Place
  line7 line8 in8 line9 line10 line11 in12 : ℕ → ℕ → ℕ → Place
  line12 line13 line14 : Bool → ℕ → ℕ → ℕ → Place
  line15 returned : ℕ → Place

-- The test of line 10 on prop[j]. Line 10 as printed is d[k..0] = prop[j][k..0] alone; "prop[j] ≠ ⊥" is added (document 01, "The two published
-- figures"): the proof of termination has "prop[j] ≠ ⊥ by line 10", and the text finds "a non-empty proposal".
abbrev pub fits : ℕ → ℕ → Option ℕ → Bool
fits k d none = false
fits k d (some v) = low_agree k d v

-- d = prop[j], in line 11: no number equals ⊥
abbrev pub equals : ℕ → Option ℕ → Bool
equals d none = false
equals d (some v) = eqb d v

-- the binary instances are numbered: B-Consensus[0][k] is 2k, B-Consensus[1][k] is 2k + 1
unfoldable pub line : View → Place → Does Place
-- 4 UR-Broadcast(v_i)
line x line4 = broadcasts line5
-- 5 wait until prop[i] ≠ ⊥
line x line5 = await (x.prop x.self) (λ v. goes line6)
-- 6 k ← 0; j ← i; d is 0 (line 3)
line x line6 = goes (line7 x.self 0 0)
-- 7 repeat
line x (line7 j k d) = goes (line8 j k d)
-- 8 d[k] ← B-Consensus[0][k](prop[j][k]): the call, and its return. ⊥ has no bits, so a process that met it here could do nothing;
-- that none ever does is part of demand 2
line x (line8 j k d) = await (x.prop j) (λ v. proposes (2 * k) (bit k v) (in8 j k d))
line x (in8 j k d) = await (x.decided (2 * k)) (λ a. goes (line9 j k (with_bit k a d)))
-- 9 repeat j ← (j + 1) mod n
line x (line9 j k d) = goes (line10 ((j + 1) % x.count) k d)
-- 10 until [prop[j] ≠ ⊥ and d[k..0] = prop[j][k..0]]
line x (line10 j k d) = goes (cond (fits k d (x.prop j)) (line11 j k d) (line9 j k d))
-- 11 if d = prop[j] then finish = 1 else finish = 0
line x (line11 j k d) = goes (line12 (equals d (x.prop j)) j k d)
-- 12 r ← B-Consensus[1][k](finish): the call, and its return
line x (line12 finish j k d) = proposes (2 * k + 1) finish (in12 j k d)
line x (in12 j k d) = await (x.decided (2 * k + 1)) (λ r. goes (line13 r j k d))
-- 13 k ← k + 1
line x (line13 r j k d) = goes (line14 r j (suc k) d)
-- 14 until r = 1
line x (line14 r j k d) = goes (cond r (line15 d) (line7 j k d))
-- 15 return d
line x (line15 d) = goes (returned d)
line x (returned v) = blocked

-- Where one event ends. A STEP covers 5-6-7, the call of 8, its return, 9-10, 11 with the call of 12, or the return of 12 with 13-14(-15) or 13-14-7.
-- It stops at 11, since document 01 finds the finish bit in the step that casts it.
abbrev pub stop : Place → Bool
stop line4 = true
stop line5 = true
stop line6 = false
stop (line7 j k d) = false
stop (line8 j k d) = true
stop (in8 j k d) = true
stop (line9 j k d) = true
stop (line10 j k d) = false
stop (line11 j k d) = true
stop (line12 finish j k d) = false
stop (in12 j k d) = true
stop (line13 r j k d) = false
stop (line14 r j k d) = false
stop (line15 d) = false
stop (returned v) = true

abbrev pub figure2 : Figure
figure2 = record { Place = Place; first = line4; line = line; stop = stop }
