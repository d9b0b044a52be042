-- Each event's number in the document's words (document 01, "Operations and what they turn away": "Tests run in the order written, and the first met
-- gives the number"), with nothing computed: on any entries, made-up ones included. Assumes nothing.
use Rattle.std.specs.Prelude.{ℕ, ◌≤◌, ◌<◌, ◌*◌, ◌+◌, ◌≡◌, ◌⊎◌, true, false}
use Rattle.bits.specs.Words.{member}
use Rattle.consensus.specs.Events.{Event, claim, deliver, step, lose, answer}
use Rattle.entry.specs.declared.entry.Stage.TheVariants.{Idle, Waiting, Awaiting, FinishAwaiting, Decided}
use Rattle.event.specs.declared.view.View.{View}
use Rattle.entry.specs.Entries.{ballots}
use Rattle.event.specs.Change.{number_on}

-- the number x is k where P holds; where it does not, the later tests say what x is
abbrev pub Met : Type 0 → (k x : ℕ) → Type 0 → Type 0
Met P k x later = (P × (x ≡ k)) ⊎ ((P → ⊥) × later)

-- "waiting without its own claim, or awaiting an unanswered ballot"
abbrev pub MustWait : View → ℕ → Type 0
MustWait v s =
    ((v.own.stage ≡ Waiting) × (member s v.own.held ≡ false))
    ⊎ (((v.own.stage ≡ Awaiting) ⊎ (v.own.stage ≡ FinishAwaiting)) × (v.ballot.answered ≡ false))

-- "taking answer 0 from ballot 63"
abbrev pub TakesLastNo : View → Type 0
TakesLastNo v = ((v.own.stage ≡ FinishAwaiting) × (v.ballot.answer ≡ false)) × (2 * v.own.round + 1 ≡ 63)

-- "no station has cast a in b": its set is empty (document 02, A.2)
abbrev pub NobodyCast : View → ℕ → Type 0
NobodyCast v a = ((a ≡ 1) × (v.ballot.cast1 ≡ 0)) ⊎ ((a ≡ 0) × (v.ballot.cast0 ≡ 0))

-- "the other bit only": the ballot has an answer, and not this one (document 02, A.1)
abbrev pub OtherStands : View → ℕ → Type 0
OtherStands v a = (v.ballot.answered ≡ true) × (((a ≡ 1) × (v.ballot.answer ≡ false)) ⊎ ((a ≡ 0) × (v.ballot.answer ≡ true)))

unfoldable pub NumberIs : View → Event → ℕ → Type 0
NumberIs v (claim s c) x =
    Met (v.count ≤ s) 1 x (Met (v.own.lost ≡ true) 2 x (Met (v.own.stage ≡ Idle → ⊥) 3 x (x ≡ 0)))
NumberIs v (deliver t s) x =
    Met ((v.count ≤ t) ⊎ (v.count ≤ s)) 1 x
    (Met (v.own.lost ≡ true) 2 x (Met (v.beside.stage ≡ Idle) 4 x (Met (member t v.own.held ≡ true) 5 x (x ≡ 0))))
NumberIs v (step s) x =
    Met (v.count ≤ s) 1 x
    (Met (v.own.lost ≡ true) 2 x
    (Met (v.own.stage ≡ Idle) 6 x
    (Met (v.own.stage ≡ Decided) 7 x (Met (MustWait v s) 8 x (Met (TakesLastNo v) 42 x (x ≡ 0))))))
NumberIs v (lose s) x = Met (v.count ≤ s) 1 x (Met (v.own.lost ≡ true) 2 x (x ≡ 0))
NumberIs v (answer b a) x =
    Met (ballots v.count v.rule ≤ b) 9 x
    (Met (1 < a) 10 x (Met (OtherStands v a) 11 x (Met ((v.ballot.answered ≡ false) × NobodyCast v a) 12 x (x ≡ 0))))

abbrev pub EntryNumbers : Type 0
EntryNumbers = (v : View) (e : Event) → NumberIs v e (number_on v e)
