-- `report::writer::put_number`: all digits but the last, then the last. Assumes nothing.
use Rattle.std.proofs.Common.{◌≡◌, ◌%◌, arith}
use Rattle.basics.proofs.Writers.{writes_then, writes_at_most, writes_its_length}
use Rattle.report.proofs.Decimal.{decimal_small, decimal_more, few_digits}
use Rattle.report.proofs.writer.+put_number.Goals as goal
use Rattle.report.proofs.writer.+put_number.Goals.{then-x-ge10, else-x-ge10}

pub returns : goal.returns
returns t c =
    let x = c.args.x in
    elim c.if-x-ge10.branch [
      | then-x-ge10 w ↦
          writes_its_length {m = 21} (few_digits 19 x (omega (arith, c.ranges.x)))
          (rw (decimal_more x w.if-x-ge10.true) (writes_then w.put_number.ensures (rw w.w-is at c.byte.ensures)))
      | else-x-ge10 w ↦
          let h : x % 10 ≡ x = omega (arith, w.if-x-ge10.false) in
          rw (decimal_small x w.if-x-ge10.false) (writes_at_most {m = 1} (omega arith) (rw (w.w-is, h) at c.byte.ensures))
    ]
