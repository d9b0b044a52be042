-- A record that is tied to a reached state does not meet the record test: cursors are stations, by station rounds are below R and nobody is on
-- a finish ballot, by claim rounds are below 32, since a finish answer 0 tells of a claim with a higher bit. Assumes nothing.
use Prim.Native.Nat.{ℕ, ◌<◌}
use mathlib.Core.Path.{◌≡◌, refl, sym, subst, ◌∙◌, ap, ap₂}
use mathlib.Core.Bool.{Bool, false, not, ◌&&◌, ◌||◌}
use mathlib.Core.Option.{Option}
use lib.Dec.{eqb, ltb, leb}
use borrow.Author.Tests.{lt-leb, le-ltb}
use Rattle.bits.specs.Log.{ceil_log2}
use Rattle.bits.specs.Words.{claim_bits}
use Rattle.consensus.specs.Events.{Rule, rule_1, rule_2, Opening, Openable}
use Rattle.consensus.specs.State as play
use Rattle.basics.specs.Below.{any_below}
use Rattle.basics.proofs.Below.{none_below}
use Rattle.consensus.proofs.Invariant.{StageOk, Inv}
use Rattle.consensus.proofs.Ballots.{Short}
use Rattle.consensus.proofs.Supplied.{no_such_rule}
use Rattle.consensus.proofs.Steps.{opening}
use Rattle.entry.specs.declared.entry.Stage.{Stage}
use Rattle.entry.specs.declared.entry.Stage.TheVariants.{Idle, Waiting, Voting, Awaiting, Seeking, FinishVoting, FinishAwaiting, Decided}
use Rattle.entry.specs.declared.entry.Station.{Station}
use Rattle.settlement.specs.declared.record.Settlement.{Settlement}
use Rattle.entry.specs.Entries.{station_entries}
use Rattle.settlement.specs.Record.{entry}
use Rattle.entry.specs.Stages.{in_round, on_finish, past_waiting}
use Rattle.settlement.specs.Fault.{station_fault, fault}
use Rattle.settlement.specs.Link.{rule_number, stage_of}
use Rattle.settlement.proofs.Link.Linked.{Linked}

-- the rounds of each stage, by rule
abbrev Rounds : Rule → ℕ → Stage → ℕ → Type 0
Rounds rule_1 n g k = ((in_round g && leb (ceil_log2 n) k) ≡ false) × (on_finish g ≡ false)
Rounds rule_2 n g k = (past_waiting g && leb claim_bits k) ≡ false

rounds_ok : (n : ℕ) (r : Rule) (st : play.State) → Inv (opening n r) st → Short (opening n r) st
    → (g : Stage) (j k d v : ℕ) (holds : ℕ → Bool) (cast : ℕ → Option Bool)
    → StageOk (opening n r) st (stage_of g j k d v) holds cast → Rounds r n g k
rounds_ok n rule_1 st inv short Idle j k d v holds cast x = (refl, refl)
rounds_ok n rule_1 st inv short Waiting j k d v holds cast x = (refl, refl)
rounds_ok n rule_1 st inv short Voting j k d v holds cast x = (lt-leb _ k x.round, refl)
rounds_ok n rule_1 st inv short Awaiting j k d v holds cast x = (lt-leb _ k x.0.round, refl)
rounds_ok n rule_1 st inv short Seeking j k d v holds cast x = (lt-leb _ k x.round, refl)
rounds_ok n rule_1 st inv short FinishVoting j k d v holds cast x = absurd (no_such_rule x.0)
rounds_ok n rule_1 st inv short FinishAwaiting j k d v holds cast x = absurd (no_such_rule x.0)
rounds_ok n rule_1 st inv short Decided j k d v holds cast x = (refl, refl)
rounds_ok n rule_2 st inv short Idle j k d v holds cast x = refl
rounds_ok n rule_2 st inv short Waiting j k d v holds cast x = refl
rounds_ok n rule_2 st inv short Voting j k d v holds cast x = lt-leb _ k (short refl k x.round)
rounds_ok n rule_2 st inv short Awaiting j k d v holds cast x = lt-leb _ k (short refl k x.0.round)
rounds_ok n rule_2 st inv short Seeking j k d v holds cast x = lt-leb _ k (short refl k x.round)
rounds_ok n rule_2 st inv short FinishVoting j k d v holds cast x = lt-leb _ k (short refl k x.1.round)
rounds_ok n rule_2 st inv short FinishAwaiting j k d v holds cast x = lt-leb _ k (short refl k x.1.round)
rounds_ok n rule_2 st inv short Decided j k d v holds cast x = lt-leb _ k (short refl k x.4)

station_clear : (r : Rule) (n : ℕ) (t : Station) → t.cursor < n → Rounds r n t.stage t.round → station_fault n (rule_number r) t ≡ false
unfolding station_fault
station_clear rule_1 n t c x =
    ap (λ (p : Bool). ((p || (in_round t.stage && leb (ceil_log2 n) t.round)) || on_finish t.stage) || false) (lt-leb n t.cursor c)
    ∙ ap₂ (λ (p q : Bool). (p || q) || false) x.0 x.1
station_clear rule_2 n t c x =
    ap (λ (p : Bool). ((p || false) || false) || (past_waiting t.stage && leb claim_bits t.round)) (lt-leb n t.cursor c) ∙ x

pub rule_known : (r : Rule) → not (eqb (rule_number r) 1 || eqb (rule_number r) 2) ≡ false
rule_known rule_1 = refl
rule_known rule_2 = refl

module _ (o : Opening) (a : Openable o) (r : Settlement) (st : play.State) (l : Linked o r st) (inv : Inv o st) (short : Short o st) where
  entry_clear : (s : ℕ) → s < o.count → station_fault o.count (rule_number o.rule) (entry r s) ≡ false
  entry_clear s b =
      let t = entry r s in
      let x = l.entries s b in
      station_clear o.rule o.count t x.cursor
      (rounds_ok o.count o.rule st inv short t.stage t.cursor t.round t.word t.decision (st.station s).holds (st.station s).cast
      (subst (λ (g : play.Stage). StageOk o st g (st.station s).holds (st.station s).cast) (sym x.stage) (inv.parts s).stage))

  pub faultless : fault r ≡ false
  unfolding fault
  faultless =
      ap₂ (λ (n k : ℕ). (ltb station_entries n || not (eqb k 1 || eqb k 2)) || any_below n (λ s. station_fault n k (entry r s))) l.count l.rule
      ∙ ap₂ (λ (p q : Bool). (p || q) || any_below o.count (λ s. station_fault o.count (rule_number o.rule) (entry r s)))
      (le-ltb station_entries o.count a.not_too_many)
      (rule_known o.rule)
      ∙ none_below o.count (λ s. station_fault o.count (rule_number o.rule) (entry r s)) entry_clear
