-- In the one list made of two, the first list's next event goes wherever it is accepted, else the second list's. Assumes nothing.
use mathlib.Core.Path.{◌≡◌, refl}
use mathlib.Core.Bool.{true, false}
use mathlib.Core.List.{List, [], ◌∷◌}
use Rattle.basics.proofs.Bools.{no_clash}
use Rattle.consensus.specs.Events.{Event, Opening}
use Rattle.consensus.specs.State.{State}
use Rattle.consensus.specs.Rules.{next}
use Rattle.merging.specs.Merged.{Merged, merged, InTurn, ended, first_goes, second_goes}
use Rattle.merging.proofs.Merged.{tried}

abbrev Turns : Opening → State → List Event → List Event → Merged → Type 0
Turns o st xs ys m = m.blocked ≡ false → InTurn o st xs ys m.events

pub turns_from : (o : Opening) (st : State) (xs ys : List Event) → Turns o st xs ys (merged o st xs ys)
unfolding merged
turns_from o st [] [] = λ f. ended
turns_from o st (e ∷ es) [] =
    tried (Turns o st (e ∷ es) []) o st e _ _ (λ n f. first_goes n (turns_from o (next o st e) es [] f)) (λ ne f. no_clash true refl f)
turns_from o st [] (e ∷ es) =
    tried (Turns o st [] (e ∷ es)) o st e _ _ (λ n f. second_goes tt n (turns_from o (next o st e) [] es f)) (λ ne f. no_clash true refl f)
turns_from o st (x ∷ xs) (y ∷ ys) =
    tried (Turns o st (x ∷ xs) (y ∷ ys)) o st x _ _
    (λ n f. first_goes n (turns_from o (next o st x) xs (y ∷ ys) f))
    (λ ne.
    tried (Turns o st (x ∷ xs) (y ∷ ys)) o st y _ _
    (λ n f. second_goes ne n (turns_from o (next o st y) (x ∷ xs) ys f))
    (λ nf f. no_clash true refl f))
