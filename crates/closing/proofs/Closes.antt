-- The closing log of a settlement reached from an opening is accepted whole and leaves nobody undecided: one that were left after all passes would have
-- taken as many supplied steps as demand 3 allows, and its next turn would be one more. Assumes nothing.
use Prim.Native.Nat.{ℕ, ◌<◌, ◌≤◌}
use mathlib.Core.Path.{◌≡◌, refl, sym, subst, ◌∙◌, ap}
use mathlib.Core.Bool.{Bool, true, false, cond, ◌||◌}
use native.Mathlib.Omega.{arith}
use lib.Dec.{ltb}
use lib.ListN.{length}
use borrow.Author.Tests.{le-ltb}
use Rattle.basics.specs.Tests.{refuse, first_met}
use Rattle.basics.proofs.Bools.{by_bool}
use Rattle.basics.proofs.Below.{none_below}
use Rattle.consensus.specs.Events.{Event, claim, step, History, start, ◌▷◌, Opening, Openable}
use Rattle.consensus.specs.Rules.{as_bit}
use Rattle.consensus.specs.Terms.{Beginning, ClaimsFit, PutIn, Lost, Decided, longest}
use Rattle.consensus.specs.Told.{followed_by}
use Rattle.settlement.specs.Link.{record_after}
use Rattle.settlement.proofs.Link.Demands.{demands}
use Rattle.closing.specs.Turn.{left, some_left}
use Rattle.closing.specs.Closing.{Closing, step_bound, closing, stuck}
use Rattle.closing.specs.Close.{closing_bytes, close_number}
use Rattle.closing.specs.Demand.{steps_of, made, whole, bound, Closes}
use Rattle.closing.proofs.Short.{closing_short}
use Rattle.closing.proofs.Supply.{Fair, sound, count_same, left_told, unless_left}
use Rattle.closing.proofs.Steps.{AllFair, fair_beginning, fair_fits, fair_longest, fair_lost, happened_later, fair_bound}
use Rattle.closing.proofs.Turns.{Led, turned, all_passes}
use Rattle.closing.proofs.SameBound.{put_in_station, same_bound, bound_small}

module _ (o : Opening) (op : Openable o) (h : History) (fit : ClaimsFit h) (preferred : Bool) where
  led : Led o h (λ p. Unit {0}) (step_bound (record_after o h)) start (made o h preferred)
  unfolding closing
  led = all_passes o op h fit preferred (step_bound (record_after o h)) start tt

  -- the events of the closing log
  abbrev log : History
  log = led.events

  fair : AllFair o h log
  fair = led.goes.fair

  fits : ClaimsFit (followed_by h log)
  fits = fair_fits o h fit log fair

  few : (g : History) → AllFair o h g → (s : ℕ) → steps_of s g ≤ bound o h preferred
  few g f s = fair_bound o op h fit s g f

  -- one that were left would take a STEP too many
  nobody_left : (s : ℕ) → s < o.count → left (record_after o (followed_by h log)) s ≡ false
  nobody_left s below = by_bool (left (record_after o (followed_by h log)) s) (λ e. absurd (too_many e)) (λ e. e)
    where
      too_many : left (record_after o (followed_by h log)) s ≡ true → ⊥
      too_many e =
          let t = turned o op h fit preferred s below log fair e in
          let b = led.steps s tt (left_told o op (followed_by h log) fits s below e) in
          let q = same_bound o op h fit preferred in
          let m = few t.0 t.2.fair s in
          let l = t.3 in
          omega arith

  none_left : some_left (record_after o (followed_by h log)) ≡ false
  none_left =
      none_below (record_after o (followed_by h log)).count (left (record_after o (followed_by h log)))
      (λ s l. nobody_left s (subst (λ (n : ℕ). s < n) (count_same o op (followed_by h log) fits) l))

  everyone_decided : (s v : ℕ) → PutIn o s v h → (Lost o s h → ⊥) → (w : ℕ) × Decided o s w (followed_by h log)
  everyone_decided s v p live =
      let below = put_in_station o s v h p in
      unless_left o op (followed_by h log) fits s below v (happened_later o h (claim s v) log p) (λ l. live (fair_lost o h s log fair l)) (nobody_left s below)

  -- ---- so much of the log that was made

  same_events : (made o h preferred).events ≡ log
  same_events = ap (λ (c : Closing). c.events) led.comes

  same_whole : whole o h preferred ≡ followed_by h log
  same_whole = ap (followed_by h) same_events

  whole_fits : ClaimsFit (whole o h preferred)
  whole_fits = subst ClaimsFit (sym same_whole) fits

  at_beginning : (g : History) (e : Event) → Beginning (g ▷ e) (made o h preferred).events → Fair o (followed_by h g) e
  at_beginning g e b = (fair_beginning o h (g ▷ e) log (subst (Beginning (g ▷ e)) same_events b) fair).1

  never_stuck : stuck (record_after o h) preferred ≡ false
  unfolding stuck
  never_stuck = ap (λ (c : Closing). c.refused || some_left c.settlement) led.comes ∙ none_left

  same_choice : (b : Bool) → refuse b 30 0 ≡ cond b 30 0
  same_choice true = refl
  same_choice false = refl

  close_numbers : (p room : ℕ) → p ≤ 1 → as_bit p ≡ preferred
      → close_number (record_after o h) p room ≡ cond (ltb room (length (closing_bytes (record_after o h) preferred))) 30 0
  unfolding close_number first_met
  close_numbers p room bit e = rw ((demands.in_ranges o op h fit).no_fault, le-ltb 1 p bit, e, never_stuck)
      (same_choice (ltb room (length (closing_bytes (record_after o h) preferred))))

  few_bytes : length (closing_bytes (record_after o h) preferred) ≤ 153024
  few_bytes =
      let whole = sound o op h fit in
      let most = bound_small o op h fit in
      omega (arith, closing_short (record_after o h) preferred whole.stations whole.ballots)

  holds : Closes o h preferred
  holds = record {
    never_43 = never_stuck;
    numbers = close_numbers;
    short = few_bytes;
    enough = λ p room bit e l. close_numbers p room bit e ∙ rw (le-ltb room (length (closing_bytes (record_after o h) preferred)) (let b = few_bytes in omega arith));
    accepted = λ g e b. (at_beginning g e b).accepted;
    ends = ap (λ (c : Closing). c.settlement) led.comes ∙ ap (record_after o) (sym same_whole);
    decided = λ s v p live. subst (λ (g : History). (w : ℕ) × Decided o s w g) (sym same_whole) (everyone_decided s v p live);
    same_bound = same_bound o op h fit preferred;
    steps = λ s. subst (λ (g : History). steps_of s g ≤ bound o h preferred) (sym same_events) (few log fair s);
    supplied = λ g s b. (at_beginning g (step s) b).supplied;
    same_longest = ap (longest o) same_whole ∙ fair_longest o h log fair;
    fits = whole_fits;
    demand3 = demands.demand3 o op (whole o h preferred) whole_fits;
  }

pub closes : (o : Opening) → Openable o → (h : History) → ClaimsFit h → (preferred : Bool) → Closes o h preferred
closes = holds
