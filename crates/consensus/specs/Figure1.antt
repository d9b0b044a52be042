-- Figure 1 of paper 000: the algorithm linear to the length of process identifiers ("by station"). Assumes nothing.
use Rattle.std.specs.Prelude.{ℕ, suc, ◌+◌, ◌%◌, Bool, true, false, cond, ◌&&◌, ltb}
use Rattle.std.proofs.Math.Option.{Option}
use Rattle.bits.specs.Digits.{bit}
use Rattle.bits.specs.Words.{with_bit, low_agree}
use Rattle.bits.specs.Log.{ceil_log2}
use Rattle.consensus.specs.Figure.{View, Does, blocked, goes, broadcasts, proposes, await, known, Figure}

-- The line that a process is about to do, with the variables j, k, l that it or a later line may read, in this order.
-- `in8` is inside the call of line 8.
pub data Place : Type 0 where
  line4 line5 line6 : Place
  line7 line8 in8 line9 line10 line11 : ℕ → ℕ → ℕ → Place
  line12 : ℕ → Place
  returned : Option ℕ → Place

unfoldable pub line : View → Place → Does Place
-- 4 UR-Broadcast(v_i)
line x line4 = broadcasts line5
-- 5 wait until [prop[i] ≠ ⊥]
line x line5 = await (x.prop x.self) (λ v. goes line6)
-- 6 j ← i; and k = 0 on entering line 7; l is 0 (line 3)
line x line6 = goes (line7 x.self 0 0)
-- 7 for k = 0 to ⌈log2 n⌉ − 1
line x (line7 j k l) = goes (cond (ltb k (ceil_log2 x.count)) (line8 j k l) (line12 l))
-- 8 l[k] ← B-Consensus[k](j[k]): the call, and its return
line x (line8 j k l) = proposes k (bit k j) (in8 j k l)
line x (in8 j k l) = await (x.decided k) (λ a. goes (line9 j k (with_bit k a l)))
-- 9 repeat j ← (j + 1) mod n
line x (line9 j k l) = goes (line10 ((j + 1) % x.count) k l)
-- 10 until [prop[j] ≠ ⊥ and l[k..0] = j[k..0]]
line x (line10 j k l) = goes (cond (known (x.prop j) && low_agree k l j) (line11 j k l) (line9 j k l))
-- 11 endfor
line x (line11 j k l) = goes (line7 j (suc k) l)
-- 12 return prop[l]
line x (line12 l) = goes (returned (x.prop l))
line x (returned v) = blocked

-- Where one event ends. A STEP covers 5-6-7(-12), the call of 8, its return, or 9-10(-11-7(-12)).
abbrev pub stop : Place → Bool
stop line4 = true
stop line5 = true
stop line6 = false
stop (line7 j k l) = false
stop (line8 j k l) = true
stop (in8 j k l) = true
stop (line9 j k l) = true
stop (line10 j k l) = false
stop (line11 j k l) = false
stop (line12 l) = false
stop (returned v) = true

abbrev pub figure1 : Figure
figure1 = record { Place = Place; first = line4; line = line; stop = stop }
