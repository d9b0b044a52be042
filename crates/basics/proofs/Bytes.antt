-- Four bytes and the number that they make, both ways; a part of a list that was lent and comes back. Assumes nothing.
use Prim.Native.Nat.{ℕ, ◌+◌, ◌*◌, ◌-◌, ◌/◌, ◌%◌, ◌≤◌, ◌<◌}
use mathlib.Core.Path.{◌≡◌, sym, ap, ◌∙◌}
use mathlib.Core.List.{List, [], ◌++◌, append-nil}
use native.Mathlib.Nat.{div-div-eq-div-mul, div-add-mod, mod-eq_of_lt, zero-add}
use native.Mathlib.Omega.{arith}
use lib.ListN.{length, take, drop, length-drop, drop_of_length-le}
use lib.Seq.{sets, sets-eq, take_all, drop-drop, get_or-drop}
use borrow.Rule.Slice.PartMut.{put_mid}
use Rattle.basics.specs.Bytes.{four_of, over, InBytes}

-- a number is made of its bytes
pub four_again : (v : ℕ) → v < 4294967296 → four_of (v / 16777216 % 256) (v / 65536 % 256) (v / 256 % 256) (v % 256) ≡ v
four_again v h =
    let low : 256 * (v / 65536) + v / 256 % 256 ≡ v / 256 = rw (← div-div-eq-div-mul v 256 256) (div-add-mod (v / 256) 256) in
    let high : 256 * (v / 16777216) + v / 65536 % 256 ≡ v / 65536 = rw (← div-div-eq-div-mul v 65536 256) (div-add-mod (v / 65536) 256) in
    let top : v / 16777216 % 256 ≡ v / 16777216 = mod-eq_of_lt (omega arith) in
    rw (top, high, low, div-add-mod v 256)

-- the last byte of a number, and what is left without it
last_byte : (q w : ℕ) → w < 256 → (256 * q + w) % 256 ≡ w
last_byte q w h = omega arith

without_last : (q w : ℕ) → w < 256 → (256 * q + w) / 256 ≡ q
without_last q w h = omega arith

-- four bytes are those of the number that they make
abbrev ItsBytes : (v x y z w : ℕ) → Type 0
ItsBytes v x y z w = (v / 16777216 % 256 ≡ x) × (v / 65536 % 256 ≡ y) × (v / 256 % 256 ≡ z) × (v % 256 ≡ w)

pub bytes_again : (x y z w : ℕ) → x < 256 → y < 256 → z < 256 → w < 256 → ItsBytes (four_of x y z w) x y z w
bytes_again x y z w hx hy hz hw =
    let v = four_of x y z w in
    let one : v / 256 ≡ 256 * (256 * x + y) + z = without_last (256 * (256 * x + y) + z) w hw in
    let two : v / 65536 ≡ 256 * x + y = sym (div-div-eq-div-mul v 256 256) ∙ rw one (without_last (256 * x + y) z hz) in
    let three : v / 16777216 ≡ x = sym (div-div-eq-div-mul v 65536 256) ∙ rw two (without_last x y hy) in
    (rw three (mod-eq_of_lt hx), rw two (last_byte x y hy), rw one (last_byte (256 * x + y) z hz), last_byte (256 * (256 * x + y) + z) w hw)

-- what follows a place in bytes is bytes
pub bytes_after : (n : ℕ) (b : List ℕ) → InBytes b → InBytes (drop n b)
bytes_after n b h i = rw get_or-drop (h (n + i))

-- the part from a place on, to the end
pub to_end : (place : ℕ) (l : List ℕ) → take (length l - place) (drop place l) ≡ drop place l
to_end place l = take_all (length l - place) (drop place l) (rw length-drop (omega arith))

-- a part that begins at the place comes back with its start filled: the bytes from the place on are those, and every other byte is as it was
pub filled : (place : ℕ) (buffer fill : List ℕ) → place + length fill ≤ length buffer
    → put_mid place (length buffer - place) buffer (sets (take (length buffer - place) (drop place buffer)) 0 fill) ≡ over place fill buffer
filled place buffer fill h = ap (λ (l : List ℕ). take place buffer ++ l) tail
  where
    none_after : drop (length buffer - place) (drop place buffer) ≡ []
    none_after = drop_of_length-le (drop place buffer) {i = length buffer - place} (rw length-drop (omega arith))

    fits : 0 + length fill ≤ length (drop place buffer)
    fits = rw length-drop (omega arith)

    tail : sets (take (length buffer - place) (drop place buffer)) 0 fill ++ drop (length buffer - place) (drop place buffer)
        ≡ fill ++ drop (place + length fill) buffer
    tail = rw (none_after, append-nil, to_end, sets-eq fill (drop place buffer) 0 fits, drop-drop, zero-add)
