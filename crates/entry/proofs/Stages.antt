-- The table of the stages is one to one: a stage is read back off its place. Assumes nothing.
use Prim.Native.Nat.{ℕ, zero, suc}
use mathlib.Core.Path.{◌≡◌, refl, sym, ap, ◌∙◌}
use borrow.Author.Tests.{eqb-true, eq-eqb}
use Rattle.entry.specs.declared.entry.Stage.{Stage}
use Rattle.entry.specs.declared.entry.Stage.TheVariants.{Idle, Waiting, Voting, Awaiting, Seeking, FinishVoting, FinishAwaiting, Decided}
use Rattle.entry.specs.Stages.{rank, ToldApart}

stage_at : ℕ → Stage
stage_at zero = Idle
stage_at (suc zero) = Waiting
stage_at (suc (suc zero)) = Voting
stage_at (suc (suc (suc zero))) = Awaiting
stage_at (suc (suc (suc (suc zero)))) = Seeking
stage_at (suc (suc (suc (suc (suc zero))))) = FinishVoting
stage_at (suc (suc (suc (suc (suc (suc zero)))))) = FinishAwaiting
stage_at (suc (suc (suc (suc (suc (suc (suc n))))))) = Decided

read_back : (g : Stage) → stage_at (rank g) ≡ g
unfolding stage_at
read_back Idle = refl
read_back Waiting = refl
read_back Voting = refl
read_back Awaiting = refl
read_back Seeking = refl
read_back FinishVoting = refl
read_back FinishAwaiting = refl
read_back Decided = refl

pub told_apart : ToldApart
told_apart x g = (λ e. sym (read_back g) ∙ ap stage_at (eqb-true (rank g) (rank x) e) ∙ read_back x, λ e. eq-eqb (rank g) (rank x) (ap rank e))
