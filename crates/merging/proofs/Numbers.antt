-- Reading faults and their numbers; the station numbers of events read off bytes; how many bytes the events of a log have there. Assumes nothing.
use Prim.Native.Nat.{ℕ, zero, suc, ◌+◌, ◌≤◌, ◌<◌}
use mathlib.Core.Path.{◌≡◌, refl, sym, ap, ap₂, ◌∙◌}
use mathlib.Core.Logic.{◌⊎◌, inl, inr, ⊎_elim}
use mathlib.Core.Bool.{Bool, true, false, not, ◌||◌}
use mathlib.Core.List.{List, [], ◌∷◌, ◌++◌}
use native.Mathlib.Omega.{arith}
use lib.Dec.{eqb, ltb}
use lib.ListN.{length, drop, length-drop}
use borrow.Author.Tests.{eqb-true}
use Rattle.basics.specs.Bytes.{byte, InBytes}
use Rattle.basics.specs.Tests.{refuse, first_met}
use Rattle.basics.proofs.Bools.{by_bool, cond_ind, no_clash}
use Rattle.consensus.specs.Events.{Event, claim, deliver, step, lose, answer, start}
use Rattle.consensus.specs.Owners.{owns}
use Rattle.entry.specs.Entries.{station_entries}
use Rattle.event.specs.declared.event.Event as declared_event
use Rattle.event.specs.declared.event.Event.TheVariants.{Claim, Deliver, Step, Lose, Answer}
use Rattle.event.specs.Meant.{meant}
use Rattle.settlement.specs.Events.{outcome, opened}
use Rattle.field.specs.declared.field.Field.TheVariants.{Open, Play, Note}
use Rattle.field.specs.declared.table.Row as declared_row
use Rattle.field.specs.Table.{row_of}
use Rattle.field.specs.Field.{head, kind_of, length_said, field_said}
use Rattle.field.specs.Read.{Reading, Found, Refused, taken_of, found}
use Rattle.field.proofs.Found.{row_known, as_said, in_range, Way, met_20, met_21, met_22, met_23, met_none, way, within, refused_range}
use Rattle.put.specs.Bytes.{bytes}
use Rattle.written.specs.Bytes.{field_bytes, log_bytes, onto}
use Rattle.written.proofs.Placed.{named_again}
use Rattle.written.proofs.Onto.{onto_first, onto_length, taken_is}
use Rattle.merging.specs.Merged.{has_events, OrderOf, nothing, from_first, from_second}
use Rattle.merging.specs.Logs.{Rest, with_field, fields, by_first, log_read}
use Rattle.merging.specs.Laws.{ReadingFault, of_field, of_count, of_rule, literal, literal_list}
use Rattle.merging.proofs.Read.{Every}

-- ---- reading faults

abbrev FaultOrNone : ℕ → Type 0
FaultOrNone k = (k ≡ 0) ⊎ ReadingFault k

open_fault : (n rule : ℕ) → FaultOrNone (opened n rule).number
unfolding opened outcome first_met
open_fault n rule = go (eqb n 0 || ltb station_entries n) (not (eqb rule 1 || eqb rule 2))
  where
    go : (a b : Bool) → FaultOrNone (refuse a 40 (refuse b 41 0))
    go true b = inr (of_count refl)
    go false true = inr (of_rule refl)
    go false false = inl refl

fields_fault : (most : ℕ) (s : List ℕ) → FaultOrNone (fields most s).fault
unfolding fields
fields_fault zero s = inl refl
fields_fault (suc most) s =
    cond_ind (λ (r : Rest). FaultOrNone r.fault) (eqb (length s) 0) _ _ (λ e. inl refl)
    (λ e. go _ (found s) refl (fields_fault most (drop (taken_of (found s)) s)))
  where
    go : (rest : Rest) (x : Reading) → found s ≡ x → FaultOrNone rest.fault → FaultOrNone (with_field x rest).fault
    go rest (Refused k) q r = let l = refused_range s k q in inr (of_field l.0 (omega arith))
    go rest (Found (Open n rule) t) q r = inr (of_field (omega arith) (omega arith))
    go rest (Found (Play e) t) q r = r
    go rest (Found Note t) q r = r

pub read_fault : (log : List ℕ) → FaultOrNone (log_read log).fault
unfolding log_read
read_fault log = go (found log) refl
  where
    both : (n : ℕ) (k rest : ℕ) → FaultOrNone k → FaultOrNone rest → FaultOrNone (refuse (not (eqb k 0)) k rest)
    both n k rest x y = by_bool (eqb k 0) (λ e. rw e y) (λ e. rw e x)

    go : (x : Reading) → found log ≡ x → FaultOrNone (by_first log x).fault
    go (Refused k) q = let l = refused_range log k q in inr (of_field l.0 (omega arith))
    go (Found (Open n rule) t) q = both n (opened n rule).number _ (open_fault n rule) (fields_fault (length log) (drop t log))
    go (Found (Play e) t) q = inr (of_field (omega arith) (omega arith))
    go (Found Note t) q = inr (of_field (omega arith) (omega arith))

-- none of the new numbers, and not 30
pub old_number : (k : ℕ) → FaultOrNone k → (m : ℕ) → (m ≡ 30) ⊎ (60 ≤ m) → k ≡ m → ⊥
old_number k f m w e = ⊎_elim (λ z. ⊎_elim (λ x. omega arith) (λ x. omega arith) w) go f
  where
    go : ReadingFault k → ⊥
    go (of_field l h) = ⊎_elim (λ x. omega arith) (λ x. omega arith) w
    go (of_count q) = ⊎_elim (λ x. omega arith) (λ x. omega arith) w
    go (of_rule q) = ⊎_elim (λ x. omega arith) (λ x. omega arith) w

-- ---- a station number is one byte

abbrev pub Small : Event → Type 0
Small e = (x : ℕ) → owns x e ≡ true → x < 256

pub small : (s : List ℕ) → InBytes s → (e : declared_event.Event) (t : ℕ) → found s ≡ Found (Play e) t → Small (meant e)
unfolding field_said
small s b (Claim u v) t q x p =
    let w = (within s (Play (Claim u v)) t q).finds in let same : u ≡ byte s 3 = cc in omega (arith, eqb-true u x p, b 3)
small s b (Deliver f u) t q x p =
    let w = (within s (Play (Deliver f u)) t q).finds in let same : u ≡ byte s 4 = cc in omega (arith, eqb-true u x p, b 4)
small s b (Step u) t q x p =
    let w = (within s (Play (Step u)) t q).finds in let same : u ≡ byte s 3 = cc in omega (arith, eqb-true u x p, b 3)
small s b (Lose u) t q x p =
    let w = (within s (Play (Lose u)) t q).finds in let same : u ≡ byte s 3 = cc in omega (arith, eqb-true u x p, b 3)
small s b (Answer c a) t q x p = no_clash false p refl

pub has_small : (es : List Event) → Every Small es → (x : ℕ) → has_events x es ≡ true → x < 256
unfolding has_events
has_small [] all x p = no_clash false p refl
has_small (e ∷ es) all x p = by_bool (owns x e) (all.0 x) (λ q. has_small es all.1 x (rw q at p))

-- ---- bytes

abbrev pub long : List Event → ℕ
long es = length (log_bytes (onto start es))

opening_takes : (s : List ℕ) (n rule t : ℕ) → found s ≡ Found (Open n rule) t → 5 ≤ t
opening_takes s n rule t q = go (way s)
  where
    none : ◌≡◌ {A = ℕ} 0 1 → 5 ≤ t
    none z = absurd (omega arith)

    go : Way s → 5 ≤ t
    go (met_20 l f) = none cc
    go (met_21 l w f) = none cc
    go (met_22 l row w p f) = none cc
    go (met_23 l row w p b f) = none cc
    go (met_none row w p b f) =
        let same : head + length_said s ≡ t = cc in
        let said : field_said row.kind s ≡ Open n rule = cc in
        let kinds : kind_of (Open n rule) ≡ row.kind = ap kind_of (sym said) ∙ (as_said row.kind s).0 in
        let its : row_of (kind_of (Open n rule)) ≡ row = ap row_of kinds ∙ (row_known _ row w).0 in
        let range = in_range row (length_said s) p in
        let least = ap (λ (r : declared_row.Row). r.least) its in
        omega (arith, range.0, least, same)

fields_long : (most : ℕ) (s : List ℕ) → long (fields most s).events ≤ length s
unfolding fields log_bytes
fields_long zero s = omega arith
fields_long (suc most) s =
    cond_ind (λ (r : Rest). long r.events ≤ length s) (eqb (length s) 0) _ _ (λ e. omega arith)
    (λ e. go _ (found s) refl (fields_long most (drop (taken_of (found s)) s)))
  where
    go : (rest : Rest) (x : Reading) → found s ≡ x → long rest.events ≤ length (drop (taken_of x) s) → long (with_field x rest).events ≤ length s
    go rest (Refused k) q r = omega arith
    go rest (Found (Open n rule) t) q r = omega arith
    go rest (Found (Play e) t) q r =
        let its : length (field_bytes (meant e)) ≡ t = ap (λ (x : declared_event.Event). length (bytes (Play x) [])) (named_again e) ∙ taken_is s e t q in
        let inside = (within s (Play e) t q).inside in
        let left = rw length-drop at r in
        omega (arith, onto_length (meant e) rest.events, its, inside, left)
    go rest (Found Note t) q r = let left = rw length-drop at r in omega arith

-- a log without fault begins with an opening
pub log_long : (log : List ℕ) → (log_read log).fault ≡ 0 → long (log_read log).events + 5 ≤ length log
unfolding log_read
log_long log = go (found log) refl
  where
    go : (x : Reading) → found log ≡ x → (by_first log x).fault ≡ 0 → long (by_first log x).events + 5 ≤ length log
    go (Refused k) q z = let r = refused_range log k q in absurd (omega arith)
    go (Found (Open n rule) t) q z =
        let rest = rw length-drop at (fields_long (length log) (drop t log)) in
        let inside = (within log (Open n rule) t q).inside in
        omega (arith, opening_takes log n rule t q, rest, inside)
    go (Found (Play e) t) q z = absurd (omega arith)
    go (Found Note t) q z = absurd (omega arith)

pub order_long : {xs ys zs : List Event} → OrderOf xs ys zs → long zs ≡ long xs + long ys
unfolding log_bytes
order_long nothing = refl
order_long (from_first {x = x} {xs = xs} {zs = zs} r) = omega (arith, order_long r, onto_length x xs, onto_length x zs)
order_long (from_second {y = y} {ys = ys} {zs = zs} r) = omega (arith, order_long r, onto_length y ys, onto_length y zs)

same_field : (e : Event) → field_bytes e ≡ literal e
unfolding bytes
same_field (claim s v) = refl
same_field (deliver t s) = refl
same_field (step s) = refl
same_field (lose s) = refl
same_field (answer b a) = refl

pub same_list : (es : List Event) → log_bytes (onto start es) ≡ literal_list es
unfolding log_bytes
same_list [] = refl
same_list (e ∷ es) = onto_first e es ∙ ap₂ (λ (x y : List ℕ). x ++ y) (same_field e) (same_list es)
