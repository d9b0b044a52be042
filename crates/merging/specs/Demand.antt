-- What holds of MERGE where it answers 0 (document 02, A.5): the log written is one that RUN accepts whole, and its events are those of both logs. So demands
-- 2 and 3 hold of them too. Assumes nothing.
use Rattle.std.specs.Prelude.{ℕ, ◌≤◌, ◌≡◌, List, length}
use Rattle.basics.specs.Bytes.{InBytes}
use Rattle.consensus.specs.Events.{History, Opening, Openable}
use Rattle.consensus.specs.Terms.{ClaimsFit}
use Rattle.settlement.specs.Link.{record_after}
use Rattle.settlement.specs.Demands.{Demand3OfRecords}
use Rattle.logs.specs.Run.{Replay, ran}
use Rattle.logs.specs.Demand.{size, Played}
use Rattle.merging.specs.Merged.{OrderOf}
use Rattle.merging.specs.Logs.{log_read}
use Rattle.merging.specs.Merge.{opening_of, merged_of, merged_list, merge_number, merge_bytes}

module _ (first second : List ℕ) where
  -- the opening of both logs, and the events of the log written
  abbrev pub opening : Opening
  opening = opening_of (log_read first)

  abbrev pub list : History
  list = merged_list (log_read first) (log_read second)

  -- what RUN answers to the log written: every event is played, every byte is taken, and nothing stops it
  abbrev pub answer : Replay
  answer = record { settlement = record_after opening list; events = size list; taken = length (merge_bytes first second); status = 0 }

  pub record MergePlays (limit : ℕ) : Type 0 where
    -- the log written is accepted whole by RUN, under every limit that its events are within
    pub plays : ran (merge_bytes first second) limit ≡ answer
    pub played : Played (merge_bytes first second) limit answer opening list
    -- its events are those of both logs, and each log's own order is kept
    pub order : OrderOf (log_read first).events (log_read second).events (merged_of (log_read first) (log_read second)).events
    pub openable : Openable opening
    pub fits : ClaimsFit list
    pub demand3 : Demand3OfRecords opening list

abbrev pub MergeDemand : Type 0
MergeDemand =
    (first second : List ℕ) → InBytes first → InBytes second → (room : ℕ) → merge_number first second room ≡ 0
    → (limit : ℕ) → size (list first second) ≤ limit → MergePlays first second limit
