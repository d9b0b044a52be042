-- LOOK at a ballot, whole (document 02, A.2). On any record: the sets are shown as they stand, and a member from n on counts too.
-- Assumes nothing.
use Rattle.std.specs.Prelude.{ℕ, Bool, false, cond, ◌&&◌, List, [], ◌∷◌, eqb, Result, Ok, Err}
use Rattle.std.specs.Option.{is_some, unwrap_or}
use Rattle.basics.specs.declared.refusal.Refusal.{Refusal}
use Rattle.basics.specs.Refusals.{number_of}
use Rattle.basics.specs.Tests.{Test, when, first_met}
use Rattle.bits.specs.Words.{size}
use Rattle.entry.specs.declared.entry.Ballot.{Ballot}
use Rattle.entry.specs.Entries.{no_ballot}
use Rattle.settlement.specs.declared.record.Settlement.{Settlement}
use Rattle.settlement.specs.declared.record.Tally as declared_tally
use Rattle.settlement.specs.Record.{ballot}
use Rattle.settlement.specs.Fault.{fault}

-- "It refuses with 42, then 9"
abbrev pub tally_tests : Settlement → ℕ → List Test
tally_tests r b =
    when (fault r) 42
    ∷ when (no_ballot r.count r.rule b) 9
    ∷ []

-- 0 or the number of the refusal; the masks of the stations that cast 0 and 1, how many are in each, whether there is an answer, and the answer
pub record Tally : Type 0 where
  pub number : ℕ
  pub cast0 : ℕ
  pub cast1 : ℕ
  pub count0 : ℕ
  pub count1 : ℕ
  pub answered : Bool
  pub answer : Bool

-- "A look at a ballot answers both sets, how many stations are in each, and the answer if there is one": 0 beside no answer
unfoldable pub tally : Ballot → Tally
tally t =
    record {
      number = 0;
      cast0 = t.cast0;
      cast1 = t.cast1;
      count0 = size t.cast0;
      count1 = size t.cast1;
      answered = t.answered;
      answer = t.answered && t.answer;
    }

-- "and then gives empty sets, counts 0 and no answer"
abbrev pub no_tally : ℕ → Tally
no_tally k = record { number = k; cast0 = 0; cast1 = 0; count0 = 0; count1 = 0; answered = false; answer = false }

unfoldable pub tallied : Settlement → ℕ → Tally
tallied r b = cond (eqb (first_met (tally_tests r b)) 0) (tally (ballot r b)) (no_tally (first_met (tally_tests r b)))

-- what a tally of the code says, and what an answer tells
abbrev pub tally_said : declared_tally.Tally → Tally
tally_said x =
    record {
      number = 0;
      cast0 = x.cast0;
      cast1 = x.cast1;
      count0 = x.count0;
      count1 = x.count1;
      answered = is_some x.answer;
      answer = unwrap_or x.answer false;
    }

abbrev pub tally_told : Result declared_tally.Tally Refusal → Tally
tally_told (Ok t) = tally_said t
tally_told (Err why) = no_tally (number_of why)
