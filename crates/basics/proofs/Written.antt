-- Bytes after bytes in a lent buffer: what is written where another piece ended makes one longer piece with it. Assumes nothing.
use Prim.Native.Nat.{ℕ, suc, ◌+◌, ◌≤◌, ◌<◌}
use mathlib.Core.Path.{◌≡◌, refl, sym, ap, ◌∙◌}
use mathlib.Core.List.{List, [], ◌∷◌, ◌++◌}
use native.Mathlib.Nat.{zero-add, add-zero, add-suc, suc-add}
use native.Mathlib.Omega.{arith}
use borrow.Author.Tests.{le-leb, lt-leb, leb-true, leb-false}
use lib.Dec.{leb}
use lib.ListN.{length, set, length-append}
use lib.Seq.{sets, sets-eq, length-sets, set_out}
use Rattle.basics.specs.Written.{last_place, place_up_to, Wrote, Filled, Writing}
use Rattle.basics.proofs.Bools.{by_bool}

sets_append : (l : List ℕ) (i : ℕ) (s t : List ℕ) → sets (sets l i s) (i + length s) t ≡ sets l i (s ++ t)
sets_append l i [] t = rw add-zero
sets_append l i (a ∷ s) t =
    ap (λ (k : ℕ). sets (sets (set l i a) (suc i) s) k t) (add-suc i (length s) ∙ sym (suc-add i (length s)))
    ∙ sets_append (set l i a) (suc i) s t

pub sets_past : (l : List ℕ) (i : ℕ) (t : List ℕ) → length l ≤ i → sets l i t ≡ l
sets_past l i [] h = refl
sets_past l i (a ∷ t) h = rw (set_out l i a h) (sets_past l (suc i) t (omega arith))

-- past the last place nothing is written, so it may stand for any place past it
sets_up_to : (l : List ℕ) (i : ℕ) (t : List ℕ) → length l ≤ last_place → sets l (place_up_to i) t ≡ sets l i t
sets_up_to l i t h =
    by_bool (leb i last_place) (λ p. let e : place_up_to i ≡ i = omega (arith, leb-true i last_place p) in rw e)
    (λ p. let past = leb-false i last_place p in sets_past l (place_up_to i) t (omega arith) ∙ sym (sets_past l i t (omega arith)))

-- t after s
pub and_then : {m n : ℕ} {b b' b'' s t : List ℕ} {i j k : ℕ}
    → Wrote m b i s b' j → Wrote n b' j t b'' k → Wrote (m + n) b i (s ++ t) b'' k
and_then {b = b} {s = s} {t = t} {i = i} v w =
    record {
      bytes = w.bytes ∙ rw (v.bytes, v.ends) (sets_up_to (sets b i s) (i + length s) t (rw length-sets v.fits) ∙ sets_append b i s t);
      ends = rw length-append (omega (arith, v.ends, w.ends));
      short = omega (arith, v.short, w.short);
      fits = v.fits;
    }

-- room to spare
pub at_most : {m n : ℕ} {b b' s : List ℕ} {i j : ℕ} → m ≤ n → Wrote m b i s b' j → Wrote n b i s b' j
at_most h w = record { bytes = w.bytes; ends = w.ends; short = omega (arith, w.short); fits = w.fits }

-- nothing
pub nothing : (b : List ℕ) (i : ℕ) → length b ≤ last_place → i ≤ last_place → Wrote 0 b i [] b i
nothing b i h l = record { bytes = refl; ends = omega arith; short = omega arith; fits = h }

-- the buffer is as long as it was
pub kept : {m : ℕ} {b b' s : List ℕ} {i j : ℕ} → Wrote m b i s b' j → length b' ≡ length b
kept {b = b} {s = s} {i = i} w = ap length w.bytes ∙ length-sets b i s

-- ---- a text at the start of a buffer

pub whole : {n k : ℕ} {t b b' : List ℕ} → length t ≤ length b → Wrote n b 0 t b' k → Filled t b b' k
whole {t = t} {b = b} h w =
    record {
      written = rw (le-leb _ _ h) (w.bytes ∙ sets-eq t b 0 (omega arith) ∙ rw zero-add);
      counted = rw (le-leb _ _ h) (omega (arith, w.ends, w.fits));
    }

pub left_alone : {t b : List ℕ} → length b < length t → Filled t b b 0
left_alone h = record { written = rw (lt-leb _ _ h); counted = rw (lt-leb _ _ h) }

-- A text was measured on the buffer's empty start: `need` is its length, and the buffer with that start put back is as it was.
module _ {m need : ℕ} {e t : List ℕ} (b : List ℕ) (measured : Wrote m [] 0 t e need) (most : m < last_place) where
  pub length_of : need ≡ length t
  length_of = omega (arith, measured.ends, measured.short)

  put_back : e ++ b ≡ b
  put_back = ap (λ (l : List ℕ). l ++ b) (measured.bytes ∙ sets_past [] 0 t (omega arith))

  -- it fits, and is written
  pub fits : {n k : ℕ} {b' : List ℕ} → need ≤ length (e ++ b) → Wrote n (e ++ b) 0 t b' k → Filled t b b' k
  fits room w = whole (rw (length_of, put_back) at room) (rw put_back at w)

  -- it does not fit
  pub unfit : length (e ++ b) < need → Filled t b (e ++ b) 0
  unfit less = rw put_back (left_alone (rw (length_of, put_back) at less))

-- ---- both determine what they speak of, and hold of a few bytes

pub writing : Writing
writing = record {
  one_writing = λ m b i t a a' n n' v w. (v.bytes ∙ sym w.bytes, v.ends ∙ sym w.ends);
  one_filling = λ t b a a' k k' v w. (v.written ∙ sym w.written, v.counted ∙ sym w.counted);
  inside = record { bytes = refl; ends = refl; short = omega arith; fits = omega arith };
  cut = record { bytes = refl; ends = refl; short = omega arith; fits = omega arith };
  past = record { bytes = refl; ends = refl; short = omega arith; fits = omega arith };
  room = record { written = refl; counted = refl };
  just = record { written = refl; counted = refl };
  does_not_fit = record { written = refl; counted = refl };
}
