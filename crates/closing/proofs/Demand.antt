-- What holds of the closing log of a settlement reached from an opening, whole. Assumes nothing.
use Rattle.closing.specs.Demand.{ClosingDemand}
use Rattle.closing.proofs.Closes.{closes}
use Rattle.closing.proofs.Bytes.{on_logs}

pub closing_demand : ClosingDemand
closing_demand = record { holds = closes; on_logs = on_logs closes }
