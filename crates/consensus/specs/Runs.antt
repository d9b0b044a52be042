-- What may happen in the system (paper 000, section 2), and the runs of a figure over a list of events.
-- Kept: uniform integrity of the broadcast; validity and uniform agreement of the binary instances. Left out: validity and uniform agreement
-- of the broadcast and termination of the instances, which promise that something happens eventually; demand 3's word "supplied" stands
-- in their place. Assumes nothing.
use Rattle.std.specs.Prelude.{ℕ, Bool, true, false, not, ◌&&◌, ltb, eqb}
use Rattle.std.proofs.Math.Option.{Option, none, some}
use Rattle.consensus.specs.Events.{Event, claim, deliver, step, lose, answer, History, start, ◌▷◌}
use Rattle.consensus.specs.State.{update}
use Rattle.consensus.specs.Rules.{is_bit}
use Rattle.basics.specs.Below.{any_below}
use Rattle.consensus.specs.Figure.{View, Does, blocked, goes, broadcasts, proposes, known}
use Rattle.consensus.specs.System.{Process, System, view, initial, moved, sending, proposing, storing, crashing}

-- What may happen: process i broadcasts v; the broadcast of j is delivered to i; i goes on in its code; i crashes;
-- the binary instance b decides the bit a.
pub data Label : Type 0 where
  broadcast : ℕ → ℕ → Label
  delivery : ℕ → ℕ → Label
  advance : ℕ → Label
  crash : ℕ → Label
  decide : ℕ → Bool → Label

abbrev pub provided : {A : Type 0} → Bool → Option A → Option A
provided true x = x
provided false x = none

-- the label of an event; an ANSWER of a bit above 1 is nothing that may happen
abbrev pub label_of : Event → Option Label
label_of (claim s v) = some (broadcast s v)
label_of (deliver t s) = some (delivery t s)
label_of (step s) = some (advance s)
label_of (lose s) = some (crash s)
label_of (answer b a) = provided (not (ltb 1 a)) (some (decide b (eqb a 1)))

abbrev pub then : {A B : Type 0} → Option A → (A → Option B) → Option B
then none f = none
then (some a) f = f a

module _ {P : Type 0} where
  -- what a process that does this becomes: as it broadcasts v, and as it goes on in its code
  abbrev pub broadcast_by : ℕ → Process P → Does P → Option (Process P)
  broadcast_by v x blocked = none
  broadcast_by v x (goes p) = none
  broadcast_by v x (broadcasts p) = some (sending v p x)
  broadcast_by v x (proposes b a p) = none

  abbrev pub advance_by : Process P → Does P → Option (Process P)
  advance_by x blocked = none
  advance_by x (goes p) = some (moved p x)
  advance_by x (broadcasts p) = none
  advance_by x (proposes b a p) = some (proposing b a p x)

  -- a broadcast is delivered with its value, if there is one
  abbrev pub deliver_by : ℕ → Option ℕ → Process P → Option (Process P)
  deliver_by j none x = none
  deliver_by j (some v) x = some (storing j v x)

  -- ---- the system changed

  -- process i becomes another, if it may
  abbrev pub with_process : System P → ℕ → Option (Process P) → Option (System P)
  with_process x i none = none
  with_process x i (some q) = some (record { process = update x.process i q; decision = x.decision })

  abbrev pub stay : System P → Option (System P) → System P
  stay x none = x
  stay x (some y) = y

-- n processes, and what each does at its place: one line, or one event
module _ {P : Type 0} (n : ℕ) (does : View → P → Does P) where
  -- i is one of the n processes and has not crashed
  abbrev pub live : System P → ℕ → Bool
  live x i = ltb i n && not (x.process i).crashed

  abbrev pub done : System P → ℕ → Does P
  done x i = does (view n x i) (x.process i).place

  -- The labelled step: it computes the state after, so a label has one outcome. A crashed process does nothing, but its broadcast may
  -- still be delivered and its proposals count. A broadcast is delivered at most once to each process, and only after it was made.
  -- A binary instance decides once, one of the bits proposed in it.
  unfoldable pub happens : System P → Label → Option (System P)
  happens x (broadcast i v) = provided (live x i) (with_process x i (broadcast_by v (x.process i) (done x i)))
  happens x (delivery j i) =
      provided (ltb j n && (live x i && not ((x.process i).delivered j))) (with_process x i (deliver_by j (x.process j).sent (x.process i)))
  happens x (advance i) = provided (live x i) (with_process x i (advance_by (x.process i) (done x i)))
  happens x (crash i) = provided (live x i) (with_process x i (some (crashing (x.process i))))
  happens x (decide b a) =
      provided (not (known (x.decision b)) && any_below n (λ i. is_bit a ((x.process i).proposed b)))
      (some (record { process = x.process; decision = update x.decision b (some a) }))

  -- the state after an event's step, where it is allowed
  abbrev pub happening : System P → Event → Option (System P)
  happening x e = then (label_of e) (happens x)

  -- a run over a list's labels from the initial state, passing over those that are not allowed
  unfoldable pub run : P → History → System P
  run p start = initial p
  run p (h ▷ e) = stay (run p h) (happening (run p h) e)
