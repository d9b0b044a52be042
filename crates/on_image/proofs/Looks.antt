-- What LOOK on an image answers, by its tests: bytes that are no image, a refusal, and a station inside the array. Assumes nothing.
use Prim.Native.Nat.{ℕ, zero, suc, ◌+◌, ◌*◌, ◌/◌, ◌%◌, ◌≤◌, ◌<◌}
use mathlib.Core.Path.{◌≡◌, refl, sym, ap, ◌∙◌}
use mathlib.Core.Bool.{Bool, true, false, cond, not}
use mathlib.Core.Logic.{⊎_elim}
use mathlib.Core.List.{List, ◌++◌, append_assoc}
use native.Mathlib.Nat.{lt_of_lt_of_le, zero-add, add-zero, mul-suc, eq-or-lt_of_le, le_of_suc-le-suc, not-suc-le-zero}
use native.Mathlib.Omega.{arith}
use borrow.Author.Tests.{eqb-true, eqb-false, ne_eqb, lt-ltb, le-ltb, ltb-true, ltb-false}
use lib.Dec.{eqb, ltb}
use lib.ListN.{length, take, drop, length-append}
use lib.Seq.{sets, sets-eq, take_at, drop_at}
use Rattle.basics.specs.Bytes.{byte}
use Rattle.basics.specs.Tests.{refuse, first_met}
use Rattle.basics.proofs.Bools.{by_bool, not_false→true}
use Rattle.basics.proofs.Refusals.{refused_not}
use Rattle.std.specs.Prelude.{Option, Some, None, if◌then◌else◌}
use Rattle.std.specs.Option.{is_some, unwrap_or}
use Rattle.entry.specs.declared.entry.Station.{Station}
use Rattle.entry.specs.Stages.{is_decided}
use Rattle.entry.specs.Entries.{station_entries, no_station}
use Rattle.settlement.specs.declared.record.Settlement.{Settlement}
use Rattle.settlement.specs.Record.{entry}
use Rattle.settlement.specs.Fault.{fault}
use Rattle.settlement.specs.Look.{Standing, look_tests, standing, turned_away, votes, looked}
use Rattle.settlement.proofs.Range.{few_stations}
use Rattle.image.proofs.Image.{count_in}
use Rattle.image.specs.Image.{other_length, version, record_in, unread, no_image, tested_first}
use Rattle.basics.proofs.Bytes.{four_again}
use Rattle.image.specs.Entries.{mark_byte}
use Rattle.on_image.specs.Look.{looked_on, standing_bytes, standings, all_number, all_after, all_answer, Looks, standing_word, WordAgain}

-- the claim that a station decided
abbrev pub decided_claim : Station → Option ℕ
decided_claim t = if is_decided t.stage then Some t.decision else None

module _ (r : Settlement) (s : ℕ) where
  abbrev tested : ℕ
  tested = first_met (look_tests r s)

  -- not refused: of a record that passes, and of a station inside the array
  pub passed : tested ≡ 0 → (fault r ≡ false) × (s < station_entries)
  unfolding first_met
  passed z =
      let one = refused_not (fault r) 42 (refuse (no_station r.count s) 1 0) refl z in
      let two = refused_not (no_station r.count s) 1 0 refl one.1 in
      (one.0, lt_of_lt_of_le (ltb-true s r.count (not_false→true _ two.0)) (few_stations r one.0))

  pub not_refused : fault r ≡ false → s < r.count → tested ≡ 0
  unfolding first_met
  not_refused passes below = rw (passes, lt-ltb s r.count below)

  pub shown : tested ≡ 0 → looked r s ≡ standing r.count r.rule (entry r s)
  unfolding looked
  shown z = rw z

  -- what the code shows of a station that may be shown
  abbrev pub shown_with : Option ℕ → Standing
  shown_with claim = record { number = 0; decided = is_some claim; claim = unwrap_or claim 0; votes = votes r.count r.rule (entry r s) (entry r s).stage }

  abbrev standing_with : Bool → Standing
  standing_with d = record { number = 0; decided = d; claim = cond d (entry r s).decision 0; votes = votes r.count r.rule (entry r s) (entry r s).stage }

  pub shown_so : tested ≡ 0 → shown_with (decided_claim (entry r s)) ≡ looked r s
  shown_so z = by_stage (is_decided (entry r s).stage) ∙ sym (shown z)
    where
      by_stage : (d : Bool) → shown_with (if d then Some (entry r s).decision else None) ≡ standing_with d
      by_stage true = refl
      by_stage false = refl

  pub turned : 0 < tested → looked r s ≡ turned_away tested
  unfolding looked
  turned n = rw (ne_eqb tested 0 (λ z. omega (arith, n, z)))

module _ (b : List ℕ) (s : ℕ) where
  pub no_image_shown : (no_image b ≡ 0 → ⊥) → looked_on b s ≡ turned_away (no_image b)
  unfolding looked_on
  no_image_shown n = rw (ne_eqb (no_image b) 0 n)

  pub image_shown : no_image b ≡ 0 → looked_on b s ≡ looked (record_in b) s
  unfolding looked_on
  image_shown z = rw z

-- ---- the bytes and the record first

cond_0 : (k x : ℕ) → cond (eqb k 0) x k ≡ 0 → (k ≡ 0) × (x ≡ 0)
cond_0 k x e = by_bool (eqb k 0) (λ p. (eqb-true k 0 p, rw p at e)) (λ p. absurd (eqb-false k 0 p (rw p at e)))

pub tested_0 : (b : List ℕ) (x : ℕ) → tested_first b x ≡ 0 → (no_image b ≡ 0) × (fault (record_in b) ≡ false) × (x ≡ 0)
tested_0 b x e =
    let both = cond_0 (no_image b) (refuse (fault (record_in b)) 42 x) e in
    let later = refused_not (fault (record_in b)) 42 x refl both.1 in
    (both.0, later.0, later.1)

-- where both pass, LOOK's own test is left
pub look_left : (b : List ℕ) (s : ℕ) → tested_first b 0 ≡ 0
    → (looked_on b s ≡ looked (record_in b) s) × (first_met (look_tests (record_in b) s) ≡ refuse (no_station (byte b 1) s) 1 0)
unfolding first_met
look_left b s z =
    let passed = tested_0 b 0 z in
    (image_shown b s passed.0, rw (passed.1, count_in b))

-- and where one does not, its number is LOOK's
pub look_turned : (b : List ℕ) (s : ℕ) → 0 < tested_first b 0 → looked_on b s ≡ turned_away (tested_first b 0)
unfolding first_met
look_turned b s n =
    by_bool (eqb (no_image b) 0)
    (λ p.
    let an = eqb-true (no_image b) 0 p in
    by_bool (fault (record_in b))
    (λ f.
    let met : first_met (look_tests (record_in b) s) ≡ 42 = rw f in
    image_shown b s an ∙ turned (record_in b) s (rw met (omega arith)) ∙ rw (an, f))
    (λ f. absurd (omega (arith, rw (an, f) at n))))
    (λ p. no_image_shown b s (eqb-false (no_image b) 0 p) ∙ rw p)

-- what comes after them is asked only where both pass
pub tested_then : (b : List ℕ) (x : ℕ) → tested_first b 0 ≡ 0 → tested_first b x ≡ x
tested_then b x z = let passed = tested_0 b 0 z in rw (passed.0, passed.1)

pub tested_refused : (b : List ℕ) (x : ℕ) → (tested_first b 0 ≡ 0 → ⊥) → tested_first b x ≡ tested_first b 0
tested_refused b x n =
    by_bool (eqb (no_image b) 0)
    (λ p. by_bool (fault (record_in b)) (λ f. rw (p, f)) (λ f. absurd (n (rw (p, f)))))
    (λ p. rw p)

not_30 : (b : List ℕ) → no_image b ≡ 30 → ⊥
unfolding no_image first_met
not_30 b e = three (other_length b) (not (eqb (byte b 0) version)) (unread b) e
  where
    three : (x y z : Bool) → refuse x 80 (refuse y 81 (refuse z 42 0)) ≡ 30 → ⊥
    three true y z e = omega (arith, e)
    three false true z e = omega (arith, e)
    three false false true e = omega (arith, e)
    three false false false e = omega (arith, e)

-- 30 is neither the bytes' nor the record's
tested_30 : (b : List ℕ) (x : ℕ) → tested_first b x ≡ 30 → (fault (record_in b) ≡ false) × (x ≡ 30)
tested_30 b x e =
    by_bool (eqb (no_image b) 0)
    (λ p. by_bool (fault (record_in b)) (λ f. let clash : 42 + 0 ≡ 30 = rw (p, f) at e in absurd (omega (arith, clash))) (λ f. (f, rw (p, f) at e)))
    (λ p. absurd (not_30 b (rw p at e)))

-- the test that gives 30 is met
met_30 : (p : Bool) → refuse p 30 0 ≡ 30 → p ≡ true
met_30 true e = refl
met_30 false e = absurd (omega (arith, e))

-- ---- all stations at once

pub standings_long : (f : ℕ → Standing) (n : ℕ) → length (standings f n) ≡ 8 * n
unfolding standings standing_bytes
standings_long f zero = refl
standings_long f (suc n) = length-append (standings f n) (standing_bytes (f n)) ∙ ap (λ (k : ℕ). k + 8) (standings_long f n) ∙ sym (mul-suc 8 n)

module _ (b out : List ℕ) where
  pub record Room : Type 0 where
    pub an_image : no_image b ≡ 0
    pub passes : fault (record_in b) ≡ false
    pub fits : 8 * (record_in b).count ≤ length out

  pub room : all_number b out ≡ 0 → Room
  unfolding all_number
  room z =
      let passed = tested_0 b (refuse (ltb (length out) (8 * (record_in b).count)) 30 0) z in
      let fits = refused_not (ltb (length out) (8 * (record_in b).count)) 30 0 refl passed.2 in
      record { an_image = passed.0; passes = passed.1; fits = ltb-false _ _ fits.0 }

  pub all_turned : 0 < tested_first b 0 → all_number b out ≡ tested_first b 0
  unfolding all_number
  all_turned n = tested_refused b _ (λ z. omega (arith, n, z))

  pub all_left : tested_first b 0 ≡ 0 → all_number b out ≡ refuse (ltb (length out) (8 * byte b 1)) 30 0
  unfolding all_number
  all_left z = tested_then b _ z ∙ rw count_in

  pub all_stays : 0 < all_number b out → all_after b out ≡ out
  unfolding all_after
  all_stays n = rw (ne_eqb (all_number b out) 0 (λ z. omega (arith, n, z)))

  pub all_there : all_number b out ≡ 0 → all_after b out ≡ sets out 0 (standings (looked (record_in b)) (byte b 1))
  unfolding all_after
  all_there z =
      let t = standings (looked (record_in b)) (record_in b).count in
      rw z (sym (sets-eq t out 0 (rw (standings_long, zero-add) (room z).fits)) ∙ rw count_in)

pub eight : (t : Standing) → length (standing_bytes t) ≡ 8
unfolding standing_bytes
eight t = refl

-- the bytes of each station stand at its place
piece : (f : ℕ → Standing) (n s : ℕ) → s < n → (rest : List ℕ) → take 8 (drop (8 * s) (standings f n ++ rest)) ≡ standing_bytes (f s)
unfolding standings
piece f zero s h rest = absurd (not-suc-le-zero h)
piece f (suc n) s h rest =
    ap (λ (l : List ℕ). take 8 (drop (8 * s) l)) (append_assoc (standings f n) (standing_bytes (f n)) rest)
    ∙ ⊎_elim last (λ l. piece f n s l (standing_bytes (f n) ++ rest)) (eq-or-lt_of_le (le_of_suc-le-suc h))
  where
    last : s ≡ n → take 8 (drop (8 * s) (standings f n ++ (standing_bytes (f n) ++ rest))) ≡ standing_bytes (f s)
    last e = rw (e, drop_at (standings f n) (standing_bytes (f n) ++ rest) (8 * n) (standings_long f n), take_at (standing_bytes (f n)) rest 8 (eight (f n)))

enough : (b out : List ℕ) → 256 ≤ length out → all_number b out ≡ 30 → ⊥
unfolding all_number
enough b out h e =
    let late = tested_30 b (refuse (ltb (length out) (8 * (record_in b).count)) 30 0) e in
    let few = few_stations (record_in b) late.0 in
    let short = ltb-true (length out) (8 * (record_in b).count) (met_30 _ late.1) in
    omega (arith, few, short)

each : (b out : List ℕ) → all_number b out ≡ 0 → (s : ℕ) → s < (record_in b).count → take 8 (drop (8 * s) (all_after b out)) ≡ standing_bytes (looked_on b s)
unfolding all_after
each b out z s h =
    rw (z, image_shown b s (room b out z).an_image) (piece (looked (record_in b)) (record_in b).count s h _)

stays : (b out : List ℕ) → all_number b out ≡ 0 → drop (8 * (record_in b).count) (all_after b out) ≡ drop (8 * (record_in b).count) out
unfolding all_after
stays b out z =
    let all = standings (looked (record_in b)) (record_in b).count in
    let long = standings_long (looked (record_in b)) (record_in b).count in
    rw z (drop_at all _ (8 * (record_in b).count) long ∙ ap (λ (n : ℕ). drop n out) (zero-add (length all) ∙ long))

pub looks : Looks
unfolding all_number all_after all_answer
looks b out = record {
  refused_first = λ n. tested_refused b _ n;
  no_room = λ z l. tested_then b _ z ∙ ap (λ (c : Bool). refuse c 30 0) (lt-ltb (length out) (8 * (record_in b).count) l);
  accepted = λ z l. tested_then b _ z ∙ ap (λ (c : Bool). refuse c 30 0) (le-ltb (length out) (8 * (record_in b).count) l);
  enough = enough b out;
  count = λ z. rw (z, zero-add);
  each = each b out;
  stays = stays b out;
  refused = λ n. (rw (ne_eqb (all_number b out) 0 n, add-zero), rw (ne_eqb (all_number b out) 0 n));
}

-- ---- the word read again

small : (m : Bool) → mark_byte m < 256
small true = omega arith
small false = omega arith

parts : (n d v c : ℕ) → n < 256 → d < 256 → v < 256 → c < 4294967296
    → ((4294967296 * (256 * (256 * (256 * n + d) + v) + 0) + c) / 72057594037927936 ≡ n)
    × ((4294967296 * (256 * (256 * (256 * n + d) + v) + 0) + c) / 281474976710656 % 256 ≡ d)
    × ((4294967296 * (256 * (256 * (256 * n + d) + v) + 0) + c) / 1099511627776 % 256 ≡ v)
    × ((4294967296 * (256 * (256 * (256 * n + d) + v) + 0) + c) % 4294967296 ≡ c)
parts n d v c hn hd hv hc = (omega arith, omega arith, omega arith, omega arith)

spelled : (t : Standing) → t.claim < 4294967296
    → standing_word t ≡ 4294967296 * (256 * (256 * (256 * t.number + mark_byte t.decided) + t.votes) + 0) + t.claim
unfolding standing_word standing_bytes
spelled t h = rw (four_again t.claim h)

pub word_again : WordAgain
word_again = record {
  number = λ t hn hv hc. rw (spelled t hc) (parts t.number (mark_byte t.decided) t.votes t.claim hn (small t.decided) hv hc).0;
  decided = λ t hn hv hc. rw (spelled t hc) (parts t.number (mark_byte t.decided) t.votes t.claim hn (small t.decided) hv hc).1;
  votes = λ t hn hv hc. rw (spelled t hc) (parts t.number (mark_byte t.decided) t.votes t.claim hn (small t.decided) hv hc).2;
  claim = λ t hn hv hc. rw (spelled t hc) (parts t.number (mark_byte t.decided) t.votes t.claim hn (small t.decided) hv hc).3;
}
