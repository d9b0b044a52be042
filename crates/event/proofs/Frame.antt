-- What an event does not name stays: each event, and STEP at each stage, part by part (`on` where the part stays, `off` where it is named).
-- Assumes nothing.
use Prim.Native.Nat.{ℕ}
use mathlib.Core.Path.{◌≡◌, refl}
use mathlib.Core.Bool.{Bool, true, false, cond, true≢false}
use mathlib.Core.List.{List, [], ◌∷◌}
use Rattle.consensus.specs.Events.{claim, deliver, step, lose, answer}
use Rattle.entry.specs.declared.entry.Stage.{Stage}
use Rattle.entry.specs.declared.entry.Stage.TheVariants.{Idle, Waiting, Voting, Awaiting, Seeking, FinishVoting, FinishAwaiting, Decided}
use Rattle.entry.specs.declared.entry.Station.{Station}
use Rattle.entry.specs.declared.entry.Ballot.{Ballot}
use Rattle.event.specs.declared.view.View.{View}
use Rattle.entry.specs.Entries.{by_station, claiming, holding, losing, moved, casting, answering}
use Rattle.event.specs.Places.{next_cursor}
use Rattle.event.specs.Step.{next_round, at_once, started, staged, bit_taken, finish_taken, last_round, entry_after_seek, seeking_ends, sought, stepped, bit_voted, finish_voted, voted}
use Rattle.event.specs.Change.{own_after, ballot_after}
use Rattle.event.specs.Frame.{Part, its_stage, its_lost, its_held, its_claim, its_cursor, its_round, its_word, its_decision, its_cast0, its_cast1, its_answered, its_answer, named, AllBut, step_names, names, EntryFrame}

on : {A : Type 0} {x : A} {named : Bool} → named ≡ false → x ≡ x
on e = refl

off : {C : Type 0} → true ≡ false → C
off e = absurd (true≢false e)

-- the parts in the order of the table
parts :
    {l : List Part} {t u : Station} {b c : Ballot}
    → (named its_stage l ≡ false → u.stage ≡ t.stage)
    → (named its_lost l ≡ false → u.lost ≡ t.lost)
    → (named its_held l ≡ false → u.held ≡ t.held)
    → (named its_claim l ≡ false → u.claim ≡ t.claim)
    → (named its_cursor l ≡ false → u.cursor ≡ t.cursor)
    → (named its_round l ≡ false → u.round ≡ t.round)
    → (named its_word l ≡ false → u.word ≡ t.word)
    → (named its_decision l ≡ false → u.decision ≡ t.decision)
    → (named its_cast0 l ≡ false → c.cast0 ≡ b.cast0)
    → (named its_cast1 l ≡ false → c.cast1 ≡ b.cast1)
    → (named its_answered l ≡ false → c.answered ≡ b.answered)
    → (named its_answer l ≡ false → c.answer ≡ b.answer)
    → AllBut l t u b c
parts p0 p1 p2 p3 p4 p5 p6 p7 p8 p9 p10 p11 =
    record { stage = p0; lost = p1; held = p2; claim = p3; cursor = p4; round = p5; word = p6; decision = p7; cast0 = p8; cast1 = p9; answered = p10; answer = p11 }

-- the events but STEP

claim_frame : (t : Station) (b : Ballot) (c : ℕ) → AllBut (its_stage ∷ its_claim ∷ []) t (claiming c t) b b
claim_frame t b c = parts off on on off on on on on on on on on

deliver_frame : (t : Station) (b : Ballot) (i : ℕ) → AllBut (its_held ∷ []) t (holding i t) b b
deliver_frame t b i = parts on on off on on on on on on on on on

lose_frame : (t : Station) (b : Ballot) → AllBut (its_lost ∷ []) t (losing t) b b
lose_frame t b = parts on off on on on on on on on on on on

answer_frame : (t : Station) (b : Ballot) (a : Bool) → AllBut (its_answered ∷ its_answer ∷ []) t t b (answering a b)
answer_frame t b a = parts on on on on on on on on on on off off

-- STEP at each stage, by its conditions

nothing : (t : Station) (b : Ballot) → AllBut [] t t b b
nothing t b = parts on on on on on on on on on on on on

first_frame : (v : View) (s : ℕ) (once : Bool) →
    AllBut (its_cursor ∷ its_stage ∷ cond once (its_decision ∷ []) []) v.own
    (cond once
    (moved Decided s v.own.round v.own.word v.own.claim v.own)
    (moved Voting s v.own.round v.own.word v.own.decision v.own))
    v.ballot v.ballot
first_frame v s true = parts off on on on off on on off on on on on
first_frame v s false = parts off on on on off on on on on on on on

vote_frame : (s : ℕ) (a : Bool) (g : Stage) (t : Station) (b : Ballot) → AllBut (its_stage ∷ cond a its_cast1 its_cast0 ∷ []) t (staged g t) b (casting s a b)
vote_frame s true g t b = parts off on on on on on on on on off on on
vote_frame s false g t b = parts off on on on on on on on off on on on

bit_frame : (v : View) (g : Stage) (d : ℕ) →
    AllBut (its_word ∷ its_stage ∷ []) v.own (moved g v.own.cursor v.own.round d v.own.decision v.own) v.ballot v.ballot
bit_frame v g d = parts off on on on on on off on on on on on

finish_frame : (v : View) (yes : Bool) →
    AllBut (its_stage ∷ cond yes its_decision its_round ∷ []) v.own
    (cond yes
    (moved Decided v.own.cursor v.own.round v.own.word v.own.word v.own)
    (moved Voting v.own.cursor (next_round v.own.round) v.own.word v.own.decision v.own))
    v.ballot v.ballot
finish_frame v true = parts off on on on on on on off on on on on
finish_frame v false = parts off on on on on off on on on on on on

-- seeking: whether it ends at j, whether by station, and whether in the last round
seek_frame : (v : View) (j : ℕ) (ends station last : Bool) → Seeking ≡ v.own.stage →
    AllBut
    (its_cursor ∷ cond ends (cond station (cond last (its_stage ∷ its_decision ∷ []) (its_stage ∷ its_round ∷ [])) (its_stage ∷ [])) [])
    v.own
    (cond ends
    (cond station
    (cond last
    (moved Decided j v.own.round v.own.word v.beside.claim v.own)
    (moved Voting j (next_round v.own.round) v.own.word v.own.decision v.own))
    (moved FinishVoting j v.own.round v.own.word v.own.decision v.own))
    (moved Seeking j v.own.round v.own.word v.own.decision v.own))
    v.ballot v.ballot
seek_frame v j true true true e = parts off on on on off on on off on on on on
seek_frame v j true true false e = parts off on on on off off on on on on on on
seek_frame v j true false last e = parts off on on on off on on on on on on on
seek_frame v j false station last e = parts (λ n. e) on on on off on on on on on on on

step_frame : (v : View) (s : ℕ) (g : Stage) → g ≡ v.own.stage → AllBut (step_names v g) v.own (stepped v s g) v.ballot (voted v s g)
unfolding step_names stepped started bit_taken finish_taken entry_after_seek sought voted
step_frame v s Idle e = nothing v.own v.ballot
step_frame v s Waiting e = first_frame v s (at_once v)
step_frame v s Voting e = vote_frame s (bit_voted v) Awaiting v.own v.ballot
step_frame v s Awaiting e = bit_frame v Seeking _
step_frame v s Seeking e =
    let j = next_cursor v.count v.own.cursor in
    seek_frame v j (seeking_ends v j) (by_station v.rule) (last_round v) e
step_frame v s FinishVoting e = vote_frame s (finish_voted v) FinishAwaiting v.own v.ballot
step_frame v s FinishAwaiting e = finish_frame v v.ballot.answer
step_frame v s Decided e = nothing v.own v.ballot

pub frame : EntryFrame
unfolding names own_after ballot_after
frame v (claim s c) = claim_frame v.own v.ballot c
frame v (deliver t s) = deliver_frame v.own v.ballot t
frame v (step s) = step_frame v s v.own.stage refl
frame v (lose s) = lose_frame v.own v.ballot
frame v (answer b a) = answer_frame v.own v.ballot _
