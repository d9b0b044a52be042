-- `report::writer::put_number`: the measure is the number. Assumes nothing.
use Rattle.report.proofs.writer.+put_number.Given as goal

abbrev pub decreases-put_number : goal.decreases-put_number
decreases-put_number l = l.x
