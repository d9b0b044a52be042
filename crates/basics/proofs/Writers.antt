-- What one writer wrote after another thing is both, in this order. Assumes nothing.
use Prim.Native.Nat.{ℕ, ◌+◌, ◌≤◌}
use mathlib.Core.Path.{◌∙◌}
use mathlib.Core.List.{List, ◌++◌}
use native.Mathlib.Omega.{arith}
use lib.ListN.{length}
use Rattle.basics.specs.declared.writer.Writer.{Writer}
use Rattle.basics.specs.Writers.{Writes}
use Rattle.basics.proofs.Written.{and_then, at_most}

pub writes_then : {m n : ℕ} {s t : List ℕ} {a b c : Writer} → Writes m s a b → Writes n t b c → Writes (m + n) (s ++ t) a c
writes_then x y = record { wrote = and_then x.wrote y.wrote; same = y.same ∙ x.same }

pub writes_at_most : {m n : ℕ} {s : List ℕ} {a b : Writer} → m ≤ n → Writes m s a b → Writes n s a b
writes_at_most h x = record { wrote = at_most h x.wrote; same = x.same }

-- no more places than bytes
pub writes_its_length : {m n : ℕ} {s : List ℕ} {a b : Writer} → length s ≤ n → Writes m s a b → Writes n s a b
writes_its_length h x =
    let w = x.wrote in
    record { wrote = record { bytes = w.bytes; ends = w.ends; short = omega (arith, w.ends); fits = w.fits }; same = x.same }
