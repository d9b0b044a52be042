-- Turns, passes and the passes of a closing log after a list: each leads to more events of a closing log, and a station that is left takes a STEP at its
-- turn. So one that is left after so many passes has taken as many STEPs. Assumes nothing.
use Prim.Native.Nat.{ℕ, zero, suc, ◌+◌, ◌<◌, ◌≤◌, zero-le}
use mathlib.Core.Path.{◌≡◌, refl, sym, subst, ◌∙◌, ap}
use mathlib.Core.Logic.{⊎_elim}
use mathlib.Core.Bool.{Bool, true, false}
use mathlib.Core.List.{List, [], ◌∷◌}
use native.Mathlib.Nat.{le_refl, le_trans, eq-or-lt_of_le}
use native.Mathlib.Omega.{arith}
use Rattle.basics.proofs.Bools.{by_bool, no_clash}
use Rattle.basics.proofs.Below.{any_none}
use Rattle.consensus.specs.Events.{Event, step, History, ◌▷◌, Opening, Openable}
use Rattle.consensus.specs.Terms.{ClaimsFit, is_step}
use Rattle.consensus.specs.Told.{followed_by}
use Rattle.settlement.specs.declared.record.Settlement.{Settlement}
use Rattle.settlement.specs.Events.{played}
use Rattle.settlement.specs.Link.{record_after}
use Rattle.closing.specs.Turn.{left, some_left, turn_events}
use Rattle.closing.specs.Closing.{Closing, by_outcome, and_then, turn, turns, pass, passes}
use Rattle.closing.specs.Demand.{steps_of}
use Rattle.closing.proofs.Due.{Due, some_due, step_or_not, Sound, first_due, still_left, played_effect, turn_none, turn_steps, turn_goes_on}
use Rattle.closing.proofs.Supply.{Fair, LeftAfter, sound, count_same, left_told, told_left, due_fair}
use Rattle.closing.proofs.Steps.{AllFair, fair_fits, left_back, steps_grow, one_step, not_step}

module _ (o : Opening) (h : History) where
  -- the closing log g after the list h
  abbrev pub standing : History → Closing
  standing g = record { refused = false; settlement = record_after o (followed_by h g); events = g }

  and_then_standing : (g : History) (e : Event) → (played (record_after o (followed_by h g)) e).number ≡ 0 → and_then (standing g) e ≡ standing (g ▷ e)
  unfolding and_then by_outcome record_after
  and_then_standing g e z = rw z

  -- from the closing log g to the closing log g'
  pub record Goes (g g' : History) : Type 0 where
    pub fair : AllFair o h g'
    pub more : (p : ℕ) → steps_of p g ≤ steps_of p g'
    pub back : (p : ℕ) → LeftAfter o p (followed_by h g') → LeftAfter o p (followed_by h g)

  stays : (g : History) → AllFair o h g → Goes g g
  stays g f = record { fair = f; more = λ p. le_refl (steps_of p g); back = λ p x. x }

  goes_one : (g : History) (e : Event) → AllFair o h g → Fair o (followed_by h g) e → Goes g (g ▷ e)
  goes_one g e f x = record { fair = (f, x); more = λ p. steps_grow p g e; back = left_back o (followed_by h g) e x.quiet }

  goes_on : (g k l : History) → Goes g k → Goes k l → Goes g l
  goes_on g k l x y = record { fair = y.fair; more = λ p. le_trans (x.more p) (y.more p); back = λ p z. x.back p (y.back p z) }

  -- the closing log g leads to c: a station that is left there, if C holds of it, has taken so many STEPs more
  pub record Led (C : ℕ → Type 0) (steps_more : ℕ) (g : History) (c : Closing) : Type 0 where
    pub events : History
    pub comes : c ≡ standing events
    pub goes : Goes g events
    pub steps : (p : ℕ) → C p → LeftAfter o p (followed_by h events) → steps_more + steps_of p g ≤ steps_of p events

module _ (o : Opening) (op : Openable o) (h : History) (fit : ClaimsFit h) (a : Bool) where
  -- the record after the closing log g
  abbrev record_of : History → Settlement
  record_of g = record_after o (followed_by h g)

  abbrev fits_of : (g : History) → AllFair o h g → ClaimsFit (followed_by h g)
  fits_of g f = fair_fits o h fit g f

  -- ---- one turn

  module _ (s : ℕ) (below : s < o.count) where
    abbrev pub Turned : History → Type 0
    Turned g = (k : History) × (turn a s (standing o h g) ≡ standing o h k) × Goes o h g k × (suc (steps_of s g) ≤ steps_of s k)

    module _ (g : History) (f : AllFair o h g) (x : left (record_of g) s ≡ true) where
      abbrev inside : s < (record_of g).count
      inside = subst (λ (n : ℕ). s < n) (sym (count_same o op (followed_by h g) (fits_of g f))) below

      abbrev whole : Sound (record_of g)
      whole = sound o op (followed_by h g) (fits_of g f)

      fair_of : (e : Event) → Due (record_of g) a s e → Fair o (followed_by h g) e
      fair_of e d = due_fair o op (followed_by h g) (fits_of g f) s below a (left_told o op (followed_by h g) (fits_of g f) s below x) d

      by_step : Due (record_of g) a s (step s) → Turned g
      by_step d =
          let y = fair_of (step s) d in (
            g ▷ step s,
            turn_steps a s (standing o h g) refl whole inside x d y.accepted ∙ and_then_standing o h g (step s) y.accepted,
            goes_one o h g (step s) f y,
            one_step s g,
          )

      -- after any other event the turn goes on, with the events after it
      by_other : (e : Event) → is_step s e ≡ false → Due (record_of g) a s e
          → (AllFair o h (g ▷ e) → left (record_of (g ▷ e)) s ≡ true → turn_events (record_of g) a s ≡ e ∷ turn_events (record_of (g ▷ e)) a s
          → Turned (g ▷ e))
          → Turned g
      unfolding record_after
      by_other e n d rest =
          let y = fair_of e d in
          let ne = not_step s e n in
          let now = sym (played_effect (record_of g) e y.accepted) in
          let t =
          rest (f, y) (subst (λ (z : Settlement). left z s ≡ true) now (still_left (record_of g) a s whole inside e d ne ∙ x))
          (subst (λ (z : Settlement). turn_events (record_of g) a s ≡ e ∷ turn_events z a s) now (first_due (record_of g) a s whole inside e d ne)) in (
            t.0,
            turn_goes_on a s (standing o h g) refl whole inside x e d ne y.accepted
                ∙ ap (turn a s) (and_then_standing o h g e y.accepted)
                ∙ t.1,
            goes_on o h g (g ▷ e) t.0 (goes_one o h g e f y) t.2,
            le_trans (let l = steps_grow s g e in omega arith) t.3,
          )

      by_due : ((e : Event) → is_step s e ≡ false → Due (record_of g) a s e → Turned g) → Turned g
      by_due other =
          let e = some_due (record_of g) a s in
          ⊎_elim (λ q. by_step (subst (Due (record_of g) a s) q e.1)) (λ n. other e.0 (n s) e.1) (step_or_not (record_of g) a s e.1)

    turned_by : (l : List Event) (g : History) → AllFair o h g → left (record_of g) s ≡ true → turn_events (record_of g) a s ≡ l → Turned g
    turned_by [] g f x q =
        by_due g f x (λ e n d. by_other g f x e n d (λ f' x' q'. let z : ◌≡◌ {A = ℕ} 0 1 = cc (q, q') in absurd (omega arith)))
    turned_by (y ∷ l) g f x q =
        by_due g f x (λ e n d. by_other g f x e n d (λ f' x' q'. turned_by l (g ▷ e) f' x' (cc (q, q'))))

    pub turned : (g : History) → AllFair o h g → left (record_of g) s ≡ true → Turned g
    turned g f x = turned_by (turn_events (record_of g) a s) g f x refl

    -- its turn, whether it is left or not
    one_turn : (g : History) → AllFair o h g → Led o h (λ p. p ≡ s) 1 g (turn a s (standing o h g))
    one_turn g f =
        by_bool (left (record_of g) s)
        (λ x.
        let t = turned g f x in
        record { events = t.0; comes = t.1; goes = t.2; steps = λ p q y. rw q (let l = t.3 in omega arith) })
        (λ x.
        record {
          events = g;
          comes = turn_none a s (standing o h g) x;
          goes = stays o h g f;
          steps = λ p q y.
              let here = subst (λ (i : ℕ). LeftAfter o i (followed_by h g)) q y in
              no_clash (left (record_of g) s) (told_left o op (followed_by h g) (fits_of g f) s below here) x;
        })

  -- ---- a pass

  all_turns : (k s : ℕ) (g : History) → s + k ≤ o.count → AllFair o h g → Led o h (λ p. (s ≤ p) × (p < s + k)) 1 g (turns a k s (standing o h g))
  unfolding turns
  all_turns zero s g m f = record { events = g; comes = refl; goes = stays o h g f; steps = λ p q y. absurd (omega arith) }
  all_turns (suc k) s g m f =
      let t = one_turn s (omega arith) g f in
      let u = all_turns k (suc s) t.events (omega arith) t.goes.fair in
      record {
        events = u.events;
        comes = ap (turns a k (suc s)) t.comes ∙ u.comes;
        goes = goes_on o h g t.events u.events t.goes u.goes;
        steps = λ p q y.
            ⊎_elim (λ e. le_trans (t.steps p (sym e) (u.goes.back p y)) (u.goes.more p))
            (λ l. le_trans (let z = t.goes.more p in omega arith) (u.steps p (l, omega arith) y))
            (eq-or-lt_of_le q.0);
      }

  one_pass : (g : History) → AllFair o h g → Led o h (λ p. Unit {0}) 1 g (pass a (standing o h g))
  one_pass g f =
      let t = all_turns o.count 0 g (omega arith) f in
      record {
        events = t.events;
        comes = ap (λ (n : ℕ). turns a n 0 (standing o h g)) (count_same o op (followed_by h g) (fits_of g f)) ∙ t.comes;
        goes = t.goes;
        steps = λ p q y. t.steps p (zero-le, let b = y.station in omega arith) y;
      }

  -- ---- pass after pass

  none_left : (g : History) → AllFair o h g → some_left (record_of g) ≡ false → (p : ℕ) → LeftAfter o p (followed_by h g) → ⊥
  none_left g f e p y =
      let b = subst (λ (n : ℕ). p < n) (sym (count_same o op (followed_by h g) (fits_of g f))) y.station in
      no_clash (left (record_of g) p) (told_left o op (followed_by h g) (fits_of g f) p y.station y)
      (any_none (record_of g).count (left (record_of g)) e p b)

  pub all_passes : (m : ℕ) (g : History) → AllFair o h g → Led o h (λ p. Unit {0}) m g (passes a m (standing o h g))
  unfolding passes
  all_passes zero g f = record { events = g; comes = refl; goes = stays o h g f; steps = λ p q y. omega arith }
  all_passes (suc m) g f =
      by_bool (some_left (record_of g))
      (λ e.
      let t = one_pass g f in
      let u = all_passes m t.events t.goes.fair in
      record {
        events = u.events;
        comes = rw e (ap (passes a m) t.comes ∙ u.comes);
        goes = goes_on o h g t.events u.events t.goes u.goes;
        steps = λ p q y. let b = t.steps p tt (u.goes.back p y) in le_trans (omega arith) (u.steps p tt y);
      })
      (λ e. record { events = g; comes = rw e; goes = stays o h g f; steps = λ p q y. absurd (none_left g f e p y) })
