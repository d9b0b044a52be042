-- The system that a figure runs in (paper 000, section 2): n processes that may crash, what each has broadcast, what was delivered to it and
-- what it proposed, and the decisions of the binary consensus instances. Nothing is read off the play. Assumes nothing.
use Rattle.std.specs.Prelude.{ℕ, Bool, true, false}
use Rattle.std.proofs.Math.Option.{Option, none, some}
use Rattle.consensus.specs.State.{update}
use Rattle.consensus.specs.Figure.{View}

-- A process: its place, its array prop[], the value it has broadcast, whose broadcasts were delivered to it,
-- what it proposed in which binary instance, and whether it has crashed.
pub record Process (P : Type 0) : Type 0 where
  pub place : P
  pub prop : ℕ → Option ℕ
  pub sent : Option ℕ
  pub delivered : ℕ → Bool
  pub proposed : ℕ → Option Bool
  pub crashed : Bool

-- the processes, and the decision of each binary instance
pub record System (P : Type 0) : Type 0 where
  pub process : ℕ → Process P
  pub decision : ℕ → Option Bool

-- what process i of n sees
abbrev pub view : {P : Type 0} → ℕ → System P → ℕ → View
view n x i = record { self = i; count = n; prop = (x.process i).prop; decided = x.decision }

module _ {P : Type 0} where
  abbrev pub initial : P → System P
  initial p = record {
    process = λ i. record { place = p; prop = λ j. none; sent = none; delivered = λ j. false; proposed = λ b. none; crashed = false };
    decision = λ b. none;
  }

  -- ---- a process changed
  abbrev pub moved : P → Process P → Process P
  moved p x = record { place = p; prop = x.prop; sent = x.sent; delivered = x.delivered; proposed = x.proposed; crashed = x.crashed }

  abbrev pub sending : ℕ → P → Process P → Process P
  sending v p x = record { place = p; prop = x.prop; sent = some v; delivered = x.delivered; proposed = x.proposed; crashed = x.crashed }

  abbrev pub proposing : ℕ → Bool → P → Process P → Process P
  proposing b a p x = record {
    place = p;
    prop = x.prop;
    sent = x.sent;
    delivered = x.delivered;
    proposed = update x.proposed b (some a);
    crashed = x.crashed;
  }

  -- "Upon UR-Deliver(v) with sender(v) = p_j: prop[j] ← v" (figure 1, lines 13 and 14; figure 2, lines 16 and 17)
  abbrev pub storing : ℕ → ℕ → Process P → Process P
  storing j v x = record {
    place = x.place;
    prop = update x.prop j (some v);
    sent = x.sent;
    delivered = update x.delivered j true;
    proposed = x.proposed;
    crashed = x.crashed;
  }

  abbrev pub crashing : Process P → Process P
  crashing x = record { place = x.place; prop = x.prop; sent = x.sent; delivered = x.delivered; proposed = x.proposed; crashed = true }
