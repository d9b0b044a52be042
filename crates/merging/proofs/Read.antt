-- What holds of each event that is read off bytes holds of each event of the log; and a log without fault begins with an opening that OPEN accepts.
-- Assumes nothing.
use Prim.Native.Nat.{ℕ, zero, suc}
use mathlib.Core.Path.{◌≡◌, refl}
use mathlib.Core.List.{List, [], ◌∷◌}
use native.Mathlib.Omega.{arith}
use lib.Dec.{eqb}
use lib.ListN.{length, drop}
use borrow.Author.Tests.{eqb-true}
use Rattle.basics.specs.Bytes.{InBytes}
use Rattle.basics.proofs.Bools.{by_bool, cond_ind}
use Rattle.basics.proofs.Bytes.{bytes_after}
use Rattle.consensus.specs.Events.{Event}
use Rattle.event.specs.declared.event.Event as declared_event
use Rattle.event.specs.Meant.{meant}
use Rattle.settlement.specs.Events.{opened}
use Rattle.field.specs.declared.field.Field.TheVariants.{Open, Play, Note}
use Rattle.field.specs.Read.{Reading, Found, Refused, taken_of, found}
use Rattle.field.proofs.Found.{refused_range}
use Rattle.merging.specs.Merged.{OrderOf, nothing, from_first, from_second}
use Rattle.merging.specs.Logs.{Rest, with_field, fields, by_first, log_read}

-- ---- each event of a list

abbrev pub Every : (Event → Type 0) → List Event → Type 0
Every P [] = Unit {0}
Every P (e ∷ es) = P e × Every P es

-- and so of each event of an order of two lists
pub order_every : (P : Event → Type 0) {xs ys zs : List Event} → OrderOf xs ys zs → Every P xs → Every P ys → Every P zs
order_every P nothing a b = tt
order_every P (from_first r) a b = (a.0, order_every P r a.1 b)
order_every P (from_second r) a b = (b.0, order_every P r a b.1)

module _ (P : Event → Type 0) (each : (s : List ℕ) → InBytes s → (e : declared_event.Event) (t : ℕ) → found s ≡ Found (Play e) t → P (meant e)) where
  fields_every : (most : ℕ) (s : List ℕ) → InBytes s → Every P (fields most s).events
  unfolding fields
  fields_every zero s b = tt
  fields_every (suc most) s b =
      cond_ind (λ (r : Rest). Every P r.events) (eqb (length s) 0) _ _ (λ e. tt)
      (λ e. go _ (found s) refl (fields_every most (drop (taken_of (found s)) s) (bytes_after (taken_of (found s)) s b)))
    where
      go : (rest : Rest) (x : Reading) → found s ≡ x → Every P rest.events → Every P (with_field x rest).events
      go rest (Refused k) q r = tt
      go rest (Found (Open n rule) t) q r = tt
      go rest (Found (Play e) t) q r = (each s b e t q, r)
      go rest (Found Note t) q r = r

  pub read_every : (log : List ℕ) → InBytes log → Every P (log_read log).events
  unfolding log_read
  read_every log b = go (found log)
    where
      go : (x : Reading) → Every P (by_first log x).events
      go (Refused k) = tt
      go (Found (Open n rule) t) = fields_every (length log) (drop t log) (bytes_after t log b)
      go (Found (Play e) t) = tt
      go (Found Note t) = tt

-- ---- a log without fault

pub opens : (log : List ℕ) → (log_read log).fault ≡ 0 → (opened (log_read log).count (log_read log).rule).number ≡ 0
unfolding log_read
opens log = go (found log) refl
  where
    go : (x : Reading) → found log ≡ x → (by_first log x).fault ≡ 0 → (opened (by_first log x).count (by_first log x).rule).number ≡ 0
    go (Refused k) q z = let r = refused_range log k q in absurd (omega arith)
    go (Found (Open n rule) t) q z =
        by_bool (eqb (opened n rule).number 0) (λ e. eqb-true _ 0 e) (λ e. rw e at z)
    go (Found (Play e) t) q z = absurd (omega arith)
    go (Found Note t) q z = absurd (omega arith)
