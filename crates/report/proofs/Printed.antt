-- A text measured, then printed. Assumes nothing.
use Prim.Native.Nat.{ℕ, ◌≤◌}
use mathlib.Core.List.{List, []}
use native.Mathlib.Omega.{arith}
use lib.ListN.{length}
use Rattle.basics.specs.Written.{Wrote}
use Rattle.basics.proofs.Written.{whole}
use Rattle.report.specs.Written.{enough, Printed}

-- measured on no bytes, it fits
pub printed : {m n need k : ℕ} {e t b b' : List ℕ} → Wrote m [] 0 t e need → m ≤ enough → need ≤ length b → Wrote n b 0 t b' k → Printed t b b' k
printed measured most room w =
    record {
      filled = whole (omega (arith, measured.ends, measured.short)) w;
      short = omega (arith, measured.ends, measured.short);
    }
