-- What a writer does: bytes into the buffer that was lent to it, from its place on. Assumes nothing.
use Rattle.std.specs.Prelude.{ℕ, ◌≡◌, List}
use Rattle.basics.specs.declared.writer.Writer.{Writer}
use Rattle.basics.specs.Written.{Wrote}

-- It wrote t, which takes at most `most` places, and holds the same buffer as before.
pub record Writes (most : ℕ) (t : List ℕ) (before after : Writer) : Type 0 where
  pub wrote : Wrote most before.out.now before.at t after.out.now after.at
  pub same : after.out.ghost_name ≡ before.out.ghost_name
