-- A log read to its end is what its fields say, one after the other: as many fields as there are bytes are never too few. Assumes nothing.
use Prim.Native.Nat.{ℕ, zero, suc, ◌+◌, ◌-◌, ◌≤◌, ◌<◌}
use mathlib.Core.Path.{◌≡◌, refl, sym}
use mathlib.Core.Logic.{◌⊎◌, inl, inr}
use mathlib.Core.List.{List}
use native.Mathlib.Nat.{pos_of_ne-zero}
use native.Mathlib.Omega.{arith}
use lib.Dec.{eqb}
use lib.ListN.{length, drop, length-drop}
use lib.Seq.{drop-drop}
use borrow.Author.Tests.{eqb-true, eqb-false}
use Rattle.basics.proofs.Bools.{by_bool, cond_ind}
use Rattle.consensus.specs.Events.{Rule, rule_1, rule_2}
use Rattle.settlement.specs.Events.{opened}
use Rattle.settlement.specs.Link.{rule_number}
use Rattle.settlement.proofs.Link.Demands.{demands}
use Rattle.field.specs.declared.field.Field.TheVariants.{Open, Play, Note}
use Rattle.field.specs.Read.{Reading, Found, Refused, taken_of, found}
use Rattle.field.proofs.Found.{within}
use Rattle.logs.specs.Demand.{first_unread, no_opening}
use Rattle.logs.proofs.Statuses.{open_refused}
use Rattle.merging.specs.Logs.{Rest, with_field, fields, by_first, log_read}
use Rattle.merging.specs.Laws.{Reads, over, unread, reopened, event, note, LogTold, not_opened, opens_with}

known : (q : Rule) (rule : ℕ) → rule_number q ≡ rule → (rule ≡ 1) ⊎ (rule ≡ 2)
known rule_1 rule e = inl (sym e)
known rule_2 rule e = inr (sym e)

module _ (log : List ℕ) where
  abbrev ReadSo : ℕ → Rest → Type 0
  ReadSo place r = Reads log place r.fault r.events

  -- the rest from each place on, read with at most so many fields
  abbrev Later : ℕ → Type 0
  Later most = (p : ℕ) → length log - p ≤ most → ReadSo p (fields most (drop p log))

  rest_read : (most place : ℕ) → length log - place ≤ most → ReadSo place (fields most (drop place log))
  unfolding fields
  rest_read zero place h = over {place = place} (omega arith)
  rest_read (suc most) place h =
      cond_ind (ReadSo place) (eqb (length (drop place log)) 0) _ _
      (λ e. let none : length (drop place log) ≡ 0 = eqb-true _ 0 e in let left = rw length-drop at none in over {place = place} (omega arith))
      (λ e.
      let some : length (drop place log) ≡ 0 → ⊥ = eqb-false _ 0 e in
      go (λ p l. rest_read most p l) (found (drop place log)) refl (by_length some))
    where
      by_length : (length (drop place log) ≡ 0 → ⊥) → place < length log
      by_length some = let more : 0 < length (drop place log) = pos_of_ne-zero some in let left = rw length-drop at more in omega arith

      -- what is read behind the field there
      behind : Later most → (t : ℕ) → 3 ≤ t → place < length log → ReadSo (place + t) (fields most (drop t (drop place log)))
      behind later t l i = rw (drop-drop t place log) (later (place + t) (omega arith))

      go : Later most → (x : Reading) → found (drop place log) ≡ x → place < length log → ReadSo place (with_field x (fields most (drop (taken_of x) (drop place log))))
      go later (Refused k) q i = unread i q
      go later (Found (Open n rule) t) q i = reopened i q
      go later (Found (Play e) t) q i = event q (behind later t (within (drop place log) (Play e) t q).whole_head i)
      go later (Found Note t) q i = note q (behind later t (within (drop place log) Note t q).whole_head i)

  pub log_told : LogTold log (log_read log)
  unfolding log_read
  log_told = go (found log) refl
    where
      with_rule : (n rule t : ℕ) → found log ≡ Found (Open n rule) t → LogTold log (by_first log (Found (Open n rule) t))
      with_rule n rule t q =
          by_bool (eqb (opened n rule).number 0)
          (λ e.
          let x = demands.opens_only n rule (eqb-true _ 0 e) in
          let same = x.2 in
          opens_with q (omega (arith, x.1.some_station)) (omega (arith, x.1.not_too_many)) (known x.0.rule rule x.3)
          (rw e (rest_read (length log) t (omega arith))))
          (λ e. not_opened (rw e (open_refused n rule q (eqb-false _ 0 e))))

      go : (x : Reading) → found log ≡ x → LogTold log (by_first log x)
      go (Refused k) q = not_opened (first_unread q)
      go (Found (Open n rule) t) q = with_rule n rule t q
      go (Found (Play e) t) q = not_opened (no_opening q (λ n rule r. let z : ◌≡◌ {A = ℕ} 0 1 = cc in absurd (omega arith)))
      go (Found Note t) q = not_opened (no_opening q (λ n rule r. let z : ◌≡◌ {A = ℕ} 0 1 = cc in absurd (omega arith)))
