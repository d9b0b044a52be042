-- `event::place::next_cursor`: up to n nothing is divided, and without stations there is none. Assumes nothing.
use mathlib.Core.Logic.{⊎_elim}
use native.Mathlib.Omega.{arith}
use native.Mathlib.Nat.{mod-eq_of_lt, mod_self}
use borrow.Author.Tests.{ne_eqb, eq-eqb}
use Rattle.event.proofs.place.next_cursor.Goals as goal

pub returns-then-next-count : goal.returns-then-next-count
returns-then-next-count c = rw (ne_eqb c.args.n 0 (λ e. omega arith), mod-eq_of_lt c.if-next-count.true)

pub returns-then-n-eq0 : goal.returns-then-n-eq0
returns-then-n-eq0 c = ⊎_elim (λ e. rw (ne_eqb c.args.n 0 (λ z. omega arith), e, mod_self)) (λ e. rw (eq-eqb c.args.n 0 e.1)) c.if-n-eq0.either
