-- One process of a figure (paper 000, section 3): what it reads, what a line of its code does, and the lines that one event covers.
-- Nothing of the play is used. Assumes nothing.
use Rattle.std.specs.Prelude.{ℕ, suc, Bool, true, false, cond}
use Rattle.std.proofs.Math.Option.{Option, none, some}

-- what a process reads: its number i, the number n, its array prop[] (none is ⊥), and the decisions of the binary instances
pub record View : Type 0 where
  pub self : ℕ
  pub count : ℕ
  pub prop : ℕ → Option ℕ
  pub decided : ℕ → Option Bool

-- what a process does at a place: nothing (it waits, is inside a call, or has returned); it goes on to another place;
-- it broadcasts its proposal and goes on; it calls a binary instance with a proposal, and is inside the call
pub data Does (P : Type 0) : Type 0 where
  blocked : Does P
  goes : P → Does P
  broadcasts : P → Does P
  proposes : ℕ → Bool → P → Does P

-- a line that needs something goes on once it is there: "wait until", the return of a call, a bit of prop[j]
abbrev pub await : {A P : Type 0} → Option A → (A → Does P) → Does P
await none f = blocked
await (some a) f = f a

-- prop[j] ≠ ⊥
abbrev pub known : {A : Type 0} → Option A → Bool
known none = false
known (some a) = true

-- a figure: the places a process may stand at, the first of them, what each printed line does, and the places at which an event ends
pub record Figure : Type 1 where
  pub Place : Type 0
  pub first : Place
  pub line : View → Place → Does Place
  pub stop : Place → Bool

-- An event is a line and the lines after it up to the next stop; a broadcast or a call ends it. At most four lines follow the first.
unfoldable pub onward : (F : Figure) → ℕ → View → Does F.Place → Does F.Place
onward F ℕ.zero x d = d
onward F (suc m) x blocked = blocked
onward F (suc m) x (goes p) = cond (F.stop p) (goes p) (onward F m x (F.line x p))
onward F (suc m) x (broadcasts p) = broadcasts p
onward F (suc m) x (proposes b a p) = proposes b a p

unfoldable pub event : (F : Figure) → View → F.Place → Does F.Place
event F x p = onward F 4 x (F.line x p)
