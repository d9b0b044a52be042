-- What an event makes of the parts that it names (document 01, "What one STEP does", "Operations and what they turn away"), sentence by sentence, with
-- nothing computed: on any entries, made-up ones included. What it does not name stays: `Frame`. Assumes nothing.
use Rattle.std.specs.Prelude.{ℕ, ◌+◌, ◌%◌, ◌≤◌, ◌<◌, ◌≡◌, ◌↔◌, true, false}
use Rattle.bits.specs.Digits.{bit}
use Rattle.bits.specs.Log.{ceil_log2}
use Rattle.bits.specs.Words.{member}
use Rattle.consensus.specs.Events.{claim, deliver, step, lose, answer}
use Rattle.entry.specs.declared.entry.Stage.TheVariants.{Waiting, Voting, Awaiting, Seeking, FinishVoting, FinishAwaiting, Decided}
use Rattle.entry.specs.declared.entry.Station.{Station}
use Rattle.entry.specs.declared.entry.Ballot.{Ballot}
use Rattle.event.specs.declared.view.View.{View}
use Rattle.event.specs.Change.{own_after, ballot_after}

-- "the claim of j is held, and the low k+1 bits of d equal those of j (rule 1) or of its claim (rule 2)"
pub record Fits (v : View) (j : ℕ) : Type 0 where
  pub is_held : member j v.own.held ≡ true
  pub by_number : v.rule ≡ 1 → (i : ℕ) → i ≤ v.own.round → bit i v.own.word ≡ bit i j
  pub by_claim : (v.rule ≡ 1 → ⊥) → (i : ℕ) → i ≤ v.own.round → bit i v.own.word ≡ bit i v.beside.claim

-- u and c are the entries of station s and of its ballot afterwards
pub record WaitingSaid (v : View) (s : ℕ) (u : Station) : Type 0 where
  -- "j becomes the station's own number, the stage voting. With rule 1 and n = 1 it decides its own claim at once."
  pub cursor : u.cursor ≡ s
  pub votes : ((v.rule ≡ 1) × (v.count ≡ 1) → ⊥) → u.stage ≡ Voting
  pub decides : (v.rule ≡ 1) × (v.count ≡ 1) → (u.stage ≡ Decided) × (u.decision ≡ v.own.claim)

-- "the set of stations that cast" a bit (document 02, A.2), before and after station s casts it: s is in it, and nobody else came or went.
-- A set has room for 32 stations
pub record PutsIn (s before after : ℕ) : Type 0 where
  pub voter : s < 32 → member s after ≡ true
  pub nobody_else : (i : ℕ) → (i ≡ s → ⊥) → member i after ≡ member i before

pub record VotingSaid (v : View) (s : ℕ) (u : Station) (c : Ballot) : Type 0 where
  -- "Rule 1 casts bit k of j .. Rule 2 casts bit k of the claim of j .. Then awaiting."
  pub no_by_station : v.rule ≡ 1 → bit v.own.round v.own.cursor ≡ false → PutsIn s v.ballot.cast0 c.cast0
  pub yes_by_station : v.rule ≡ 1 → bit v.own.round v.own.cursor ≡ true → PutsIn s v.ballot.cast1 c.cast1
  pub no_by_claim : (v.rule ≡ 1 → ⊥) → bit v.own.round v.beside.claim ≡ false → PutsIn s v.ballot.cast0 c.cast0
  pub yes_by_claim : (v.rule ≡ 1 → ⊥) → bit v.own.round v.beside.claim ≡ true → PutsIn s v.ballot.cast1 c.cast1
  pub awaits : u.stage ≡ Awaiting

pub record AwaitingSaid (v : View) (u : Station) : Type 0 where
  -- "a bit answer becomes bit k of d, then seeking"
  pub taken : v.own.round < 32 → bit v.own.round u.word ≡ v.ballot.answer
  pub others : (i : ℕ) → (i ≡ v.own.round → ⊥) → bit i u.word ≡ bit i v.own.word
  pub seeks : u.stage ≡ Seeking

pub record SeekingSaid (v : View) (u : Station) : Type 0 where
  -- "j becomes (j + 1) mod n"
  pub moves : 0 < v.count → u.cursor ≡ (v.own.cursor + 1) % v.count
  -- "If the claim of j is held, and .., seeking ends .. If not, it stays seeking"
  pub ends : (u.stage ≡ Seeking → ⊥) ↔ Fits v u.cursor
  -- "rule 1 decides the claim of j if k + 1 = R, otherwise adds 1 to k and is voting; rule 2 is voting on ballot 2k+1"
  pub last : Fits v u.cursor → v.rule ≡ 1 → v.own.round + 1 ≡ ceil_log2 v.count → (u.stage ≡ Decided) × (u.decision ≡ v.beside.claim)
  pub next : Fits v u.cursor → v.rule ≡ 1 → (v.own.round + 1 ≡ ceil_log2 v.count → ⊥) → u.stage ≡ Voting
  pub adds : Fits v u.cursor → v.rule ≡ 1 → (v.own.round + 1 ≡ ceil_log2 v.count → ⊥) → v.own.round < 255 → u.round ≡ v.own.round + 1
  pub finish : Fits v u.cursor → (v.rule ≡ 1 → ⊥) → u.stage ≡ FinishVoting

pub record FinishVotingSaid (v : View) (s : ℕ) (u : Station) (c : Ballot) : Type 0 where
  -- "it casts 1 if d equals the whole claim of j, otherwise 0. Then awaiting"
  pub yes : v.own.word ≡ v.beside.claim → PutsIn s v.ballot.cast1 c.cast1
  pub no : (v.own.word ≡ v.beside.claim → ⊥) → PutsIn s v.ballot.cast0 c.cast0
  pub awaits : u.stage ≡ FinishAwaiting

pub record FinishAwaitingSaid (v : View) (u : Station) : Type 0 where
  -- "Finish answer 1 decides d. Finish answer 0 adds 1 to k, then voting"
  pub decides : v.ballot.answer ≡ true → (u.stage ≡ Decided) × (u.decision ≡ v.own.word)
  pub goes_on : v.ballot.answer ≡ false → v.own.round < 255 → (u.stage ≡ Voting) × (u.round ≡ v.own.round + 1)

pub record StepSaid (v : View) (s : ℕ) (u : Station) (c : Ballot) : Type 0 where
  pub waiting : v.own.stage ≡ Waiting → WaitingSaid v s u
  pub voting : v.own.stage ≡ Voting → VotingSaid v s u c
  pub awaiting : v.own.stage ≡ Awaiting → AwaitingSaid v u
  pub seeking : v.own.stage ≡ Seeking → SeekingSaid v u
  pub finish_voting : v.own.stage ≡ FinishVoting → FinishVotingSaid v s u c
  pub finish_awaiting : v.own.stage ≡ FinishAwaiting → FinishAwaitingSaid v u

pub record Said (v : View) : Type 0 where
  -- CLAIM s, c: "s is waiting"
  pub claim_waits : (s c : ℕ) → (own_after v (claim s c)).stage ≡ Waiting
  pub claim_put_in : (s c : ℕ) → (own_after v (claim s c)).claim ≡ c
  -- DELIVER t, s: "a mark", for t alone; a mask has room for 32 stations
  pub deliver_marks : (t s : ℕ) → t < 32 → member t (own_after v (deliver t s)).held ≡ true
  pub deliver_no_other : (t s i : ℕ) → (i ≡ t → ⊥) → member i (own_after v (deliver t s)).held ≡ member i v.own.held
  -- LOSE s: "a mark beside the stage"
  pub lose_marks : (s : ℕ) → (own_after v (lose s)).lost ≡ true
  -- ANSWER b, a
  pub answer_answers : (b a : ℕ) → (ballot_after v (answer b a)).answered ≡ true
  pub answer_no : (b : ℕ) → (ballot_after v (answer b 0)).answer ≡ false
  pub answer_yes : (b : ℕ) → (ballot_after v (answer b 1)).answer ≡ true
  pub step_does : (s : ℕ) → StepSaid v s (own_after v (step s)) (ballot_after v (step s))

abbrev pub AllSaid : Type 0
AllSaid = (v : View) → Said v
