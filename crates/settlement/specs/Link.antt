-- The record beside the play: what a record says of stations and ballots, and the records that a list of events leads to from OPEN.
-- Assumes nothing.
use Rattle.std.specs.Prelude.{ℕ, ◌≤◌, ◌<◌, ◌≡◌, Bool, true, false, cond, ◌&&◌, eqb}
use Rattle.std.proofs.Math.Option.{Option, none, some}
use Rattle.bits.specs.Words.{member}
use Rattle.consensus.specs.Events.{History, start, ◌▷◌, Rule, rule_1, rule_2, Opening}
use Rattle.consensus.specs.State as play
use Rattle.consensus.specs.Rules.{is_bit}
use Rattle.entry.specs.declared.entry.Stage.{Stage}
use Rattle.entry.specs.declared.entry.Stage.TheVariants.{Idle, Waiting, Voting, Awaiting, Seeking, FinishVoting, FinishAwaiting, Decided}
use Rattle.entry.specs.declared.entry.Station.{Station}
use Rattle.entry.specs.declared.entry.Ballot.{Ballot}
use Rattle.settlement.specs.declared.record.Settlement.{Settlement}
use Rattle.settlement.specs.Record.{entry, ballot}
use Rattle.entry.specs.Entries.{voters}
use Rattle.settlement.specs.Events.{opened, played}

-- rule 1 is by station, rule 2 by claim
abbrev pub rule_number : Rule → ℕ
rule_number rule_1 = 1
rule_number rule_2 = 2

-- the record that OPEN and then a list of events lead to, each event on what the last one answered
unfoldable pub record_after : Opening → History → Settlement
record_after o start = (opened o.count (rule_number o.rule)).settlement
record_after o (h ▷ e) = (played (record_after o h) e).settlement

-- each event of the list is accepted where it stands
abbrev pub all_accepted : Opening → History → Bool
all_accepted o start = true
all_accepted o (h ▷ e) = all_accepted o h && eqb (played (record_after o h) e).number 0

-- the play's stage that an entry stands for: past waiting with cursor, round and word, decided with claim and round
abbrev pub stage_of : Stage → (j k d v : ℕ) → play.Stage
stage_of Idle j k d v = play.idle
stage_of Waiting j k d v = play.waiting
stage_of Voting j k d v = play.voting j k d
stage_of Awaiting j k d v = play.awaiting j k d
stage_of Seeking j k d v = play.seeking j k d
stage_of FinishVoting j k d v = play.finish_voting j k d
stage_of FinishAwaiting j k d v = play.finish_awaiting j k d
stage_of Decided j k d v = play.decided v k

abbrev pub stands_at : Station → play.Stage
stands_at t = stage_of t.stage t.cursor t.round t.word t.decision

-- the answer that a ballot entry stands for
abbrev pub answer_in : Ballot → Option Bool
answer_in t = cond t.answered (some t.answer) none

-- The record r shows the play's state st: each of the n stations, and each ballot with its voters (document 02, A.2).
pub record ShowsPlay (o : Opening) (r : Settlement) (st : play.State) : Type 0 where
  pub count : r.count ≡ o.count
  pub rule : r.rule ≡ rule_number o.rule
  pub stage : (s : ℕ) → s < o.count → stands_at (entry r s) ≡ (st.station s).stage
  pub claim : (s : ℕ) → s < o.count → (entry r s).claim ≡ (st.station s).own_claim
  pub holds : (s t : ℕ) → s < o.count → member t (entry r s).held ≡ (st.station s).holds t
  pub lost : (s : ℕ) → s < o.count → (entry r s).lost ≡ (st.station s).lost
  pub answer : (b : ℕ) → answer_in (ballot r b) ≡ st.answer_of b
  pub cast : (b s : ℕ) (a : Bool) → s < o.count → member s (voters (ballot r b) a) ≡ is_bit a ((st.station s).cast b)
  pub cast_only : (b s : ℕ) (a : Bool) → o.count ≤ s → member s (voters (ballot r b) a) ≡ false
