-- `closing_exports::dagmuize_close`: RUN's promise gives the settlement, and CLOSE's the rest; its count fits in four bytes. Assumes nothing.
use Prim.Native.Nat.{◌<◌}
use native.Mathlib.Omega.{arith}
use borrow.Author.Tests.{ne_eqb}
use Rattle.basics.specs.Refusals.{number_of}
use Rattle.basics.proofs.Refusals.{some_number}
use Rattle.closing_exports.specs.Exports.{close_answer, close_after}
use Rattle.closing_exports.proofs.dagmuize_close.Goals as goal

pub returns-in-Ok-close : goal.returns-in-Ok-close
unfolding close_answer close_after
returns-in-Ok-close c =
    let ran = c.run-played.ensures in
    let closed = c.in-Ok-close.ensures in
    let count = rw (← closed.number) at closed.count in
    record {
      value = rw (← ran, c.in-Ok.is, ← closed.number) (omega (arith, count));
      out_after = rw (← ran, c.in-Ok.is) closed.written;
    }

pub returns-in-Err-close : goal.returns-in-Err-close
unfolding close_answer close_after
returns-in-Err-close c =
    let ran = c.run-played.ensures in
    let closed = c.in-Err-close.ensures in
    let count = rw (← closed.number) at closed.count in
    record {
      value = rw (← ran, c.in-Ok.is, ← closed.number) (omega (arith, count, c.turned_away.ensures));
      out_after = rw (← ran, c.in-Ok.is) closed.written;
    }

pub returns-in-Err : goal.returns-in-Err
unfolding close_answer close_after
returns-in-Err c =
    let ran = c.run-played.ensures in
    let some = some_number c.in-Err.why in
    let not_zero = ne_eqb (number_of c.in-Err.why) 0 (λ z. omega (arith, z, some)) in
    record { value = rw (← ran, c.in-Err.is, not_zero) c.turned_away-in-Err.ensures; out_after = rw (← ran, c.in-Err.is, not_zero) }
