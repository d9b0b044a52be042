-- An event spread over its lines, for any lawful figure: a process that does the lines of an event one by one, with nothing between them,
-- ends where the event ends, since between stops it neither waits nor broadcasts. Assumes nothing.
use Prim.Native.Nat.{ℕ, zero, suc, ◌≤◌}
use mathlib.Core.Path.{◌≡◌, refl, sym, subst, ap, ◌∙◌, fun_ext}
use mathlib.Core.Logic.{inl, inr}
use mathlib.Core.Bool.{Bool, true, false, cond, not, ◌&&◌}
use mathlib.Core.Option.{Option, some}
use native.Mathlib.Omega.{arith}
use lib.Dec.{eqb, ltb}
use Rattle.consensus.specs.Events.{claim, deliver, step, lose, answer}
use Rattle.consensus.specs.State.{update}
use Rattle.consensus.specs.Figure.{View, Does, blocked, goes, broadcasts, proposes, Figure, onward, event}
use Rattle.consensus.specs.System.{Process, System, view, moved, proposing}
use Rattle.consensus.specs.Runs.{decide, then, provided, broadcast_by, advance_by, with_process, stay, live, happens, happening}
use Rattle.consensus.proofs.Basics.{update_same}
use Rattle.basics.proofs.Bools.{by_bool}
use Rattle.consensus.proofs.Lawful.{seen, Moving, Lawful}
use Rattle.consensus.proofs.Gather.{Ended, unsaid, SaysAlike, says_first, onward_ended, onward_on, fall}

update_twice : {A : Type 0} (f : ℕ → A) (i : ℕ) (a b : A) → update (update f i a) i b ≡ update f i b
unfolding update
update_twice {A} f i a b = fun_ext (λ j. go j (eqb j i))
  where
    go : (j : ℕ) (t : Bool) → cond t b (cond t a (f j)) ≡ cond t b (f j)
    go j true = refl
    go j false = refl

module _ (F : Figure) (Ready : (ℕ → Option ℕ) → F.Place → Type 0) (law : Lawful F Ready) (n : ℕ) where
  -- one line of the process i, and m more
  abbrev turn : ℕ → System F.Place → System F.Place
  turn i x = stay x (happening n F.line x (step i))

  unfoldable pub turns : ℕ → ℕ → System F.Place → System F.Place
  turns zero i x = turn i x
  turns (suc m) i x = turns m i (turn i x)

  module _ (x : System F.Place) (i : ℕ) where
    abbrev me : Process F.Place
    me = x.process i

    abbrev v : View
    v = view n x i

    abbrev put : Process F.Place → System F.Place
    put q = record { process = update x.process i q; decision = x.decision }

    -- the process i further on, and the rest as it was
    abbrev on : F.Place → System F.Place
    on p = put (moved p me)

    -- what the process i becomes by d, all else as in x
    abbrev by : Does F.Place → System F.Place
    by d = stay x (with_process x i (advance_by me d))

    put_again : (q r : Process F.Place) → record { process = update (put q).process i r; decision = x.decision } ≡ put r
    put_again q r = λ k. record { process = update_twice x.process i q r k; decision = x.decision }

    -- a line that goes on or proposes, done by the process further on
    turn_on : (p : F.Place) (d : Does F.Place) → live n F.line x i ≡ true → F.line v p ≡ d → Moving F d → turn i (on p) ≡ by d
    unfolding happens
    turn_on p d l e m = subst (λ (q : Process F.Place). Turned q ≡ by d) (sym (update_same x.process i (moved p me))) (
        ap (λ (c : Bool). stay (on p) (provided c (with_process (on p) i (advance_by (moved p me) (F.line v p))))) l
        ∙ (ap (λ (c : Does F.Place). stay (on p) (with_process (on p) i (advance_by (moved p me) c))) e ∙ go d m)
        )
      where
        Turned : Process F.Place → System F.Place
        Turned q =
            stay (on p)
            (provided (ltb i n && not q.crashed) (with_process (on p) i (advance_by q (F.line (seen i n q.prop x.decision) q.place))))

        go : (d : Does F.Place) → Moving F d → stay (on p) (with_process (on p) i (advance_by (moved p me) d)) ≡ by d
        go blocked m = absurd m
        go (goes q) m = put_again (moved p me) (moved q me)
        go (broadcasts q) m = absurd m
        go (proposes b a q) m = put_again (moved p me) (proposing b a q me)

    ends_by : (f : ℕ) (d : Does F.Place) → Ended F d → by d ≡ by (onward F f v d)
    ends_by f d e = ap by (sym (onward_ended F f v d e))

    -- one line more before the others
    further : (f : ℕ) (p q : F.Place) → live n F.line x i ≡ true → F.line v p ≡ goes q → F.stop q ≡ false
        → (k : ℕ) × (turns k i (on q) ≡ by (onward F f v (F.line v q))) → (k : ℕ) × (turns k i (on p) ≡ by (onward F (suc f) v (goes q)))
    unfolding turns
    further f p q l e t w = (suc w.0, ap (turns w.0 i) (turn_on p (goes q) l e tt) ∙ (w.1 ∙ ap by (sym (onward_on F f v q t))))

    -- the lines that are left, from between two stops on
    walk : (f : ℕ) (p : F.Place) (d : Does F.Place) → F.line v p ≡ d → Moving F d → live n F.line x i ≡ true → law.rank p ≤ f
        → (m : ℕ) × (turns m i (on p) ≡ by (onward F f v d))
    unfolding turns
    walk zero p blocked e m l r = absurd m
    walk zero p (goes q) e m l r = by_bool (F.stop q)
        (λ t. (0, turn_on p (goes q) l e m ∙ ends_by zero (goes q) t))
        (λ t. absurd (let c = fall F Ready law v e t in omega arith))
    walk zero p (broadcasts q) e m l r = absurd m
    walk zero p (proposes b a q) e m l r = (0, turn_on p (proposes b a q) l e m ∙ ends_by zero (proposes b a q) tt)
    walk (suc f) p blocked e m l r = absurd m
    walk (suc f) p (goes q) e m l r = by_bool (F.stop q)
        (λ t. (0, turn_on p (goes q) l e m ∙ ends_by (suc f) (goes q) t))
        (λ t. further f p q l e t (walk f q (F.line v q) refl (law.moving v q t) l (let c = fall F Ready law v e t in omega arith)))
    walk (suc f) p (broadcasts q) e m l r = absurd m
    walk (suc f) p (proposes b a q) e m l r = (0, turn_on p (proposes b a q) l e m ∙ ends_by (suc f) (proposes b a q) tt)

    -- the first line
    turn_first : (d : Does F.Place) → live n F.line x i ≡ true → F.line v me.place ≡ d → turn i x ≡ by d
    unfolding happens
    turn_first d l e =
        ap (λ (c : Bool). stay x (provided c (with_process x i (advance_by me (F.line v me.place))))) l ∙ ap by e

    begin : (d : Does F.Place) → F.line v me.place ≡ d → live n F.line x i ≡ true → (m : ℕ) × (turns m i x ≡ by (onward F 4 v d))
    unfolding turns
    begin blocked e l = (0, turn_first blocked l e ∙ ends_by 4 blocked tt)
    begin (goes q) e l = by_bool (F.stop q)
        (λ t. (0, turn_first (goes q) l e ∙ ends_by 4 (goes q) t))
        (λ t. let w = walk 3 q (F.line v q) refl (law.moving v q t) l (let c = fall F Ready law v e t in let most = law.most me.place in omega arith) in
        (suc w.0, ap (turns w.0 i) (turn_first (goes q) l e) ∙ (w.1 ∙ ap by (sym (onward_on F 3 v q t)))))
    begin (broadcasts q) e l = (0, turn_first (broadcasts q) l e ∙ ends_by 4 (broadcasts q) tt)
    begin (proposes b a q) e l = (0, turn_first (proposes b a q) l e ∙ ends_by 4 (proposes b a q) tt)

    -- an event is some number of lines
    pub spread : (m : ℕ) × (turns m i x ≡ stay x (happening n (event F) x (step i)))
    unfolding happens event turns
    spread = by_bool (live n F.line x i)
        (λ l. let w = begin (F.line v me.place) refl l in
        (w.0, w.1 ∙ ap (λ (c : Bool). stay x (provided c (with_process x i (advance_by me (event F v me.place))))) (sym l)))
        (λ l. (
          0,
          ap (λ (c : Bool). stay x (provided c (with_process x i (advance_by me (F.line v me.place))))) l
              ∙ ap (λ (c : Bool). stay x (provided c (with_process x i (advance_by me (event F v me.place))))) (sym l),
        ))

    -- only the first line broadcasts
    said : (w : ℕ) (d e : Does F.Place) → SaysAlike F Ready law d e → broadcast_by w me d ≡ broadcast_by w me e
    said w d e (inl t) = ap (broadcast_by w me) (t.1 ∙ sym t.2)
    said w d e (inr t) = unsaid F w me d t.0 ∙ sym (unsaid F w me e t.1)

    pub claimed_alike : (w : ℕ) → stay x (happening n F.line x (claim i w)) ≡ stay x (happening n (event F) x (claim i w))
    unfolding happens
    claimed_alike w =
        ap (λ (q : Option (Process F.Place)). stay x (provided (live n F.line x i) (with_process x i q)))
        (sym (said w (event F v me.place) (F.line v me.place) (says_first F Ready law v me.place (F.line v me.place) refl)))

  -- every other event does the same in both runs, whatever the processes do at their places
  pub delivered_alike : (x : System F.Place) (t s : ℕ) → stay x (happening n F.line x (deliver t s)) ≡ stay x (happening n (event F) x (deliver t s))
  unfolding happens
  delivered_alike x t s = refl

  pub lost_alike : (x : System F.Place) (s : ℕ) → stay x (happening n F.line x (lose s)) ≡ stay x (happening n (event F) x (lose s))
  unfolding happens
  lost_alike x s = refl

  pub answered_alike : (x : System F.Place) (b a : ℕ) → stay x (happening n F.line x (answer b a)) ≡ stay x (happening n (event F) x (answer b a))
  unfolding happens
  answered_alike x b a = go (not (ltb 1 a))
    where
      go : (c : Bool)
          → stay x (then (provided c (some (decide b (eqb a 1)))) (happens n F.line x))
          ≡ stay x (then (provided c (some (decide b (eqb a 1)))) (happens n (event F) x))
      go true = refl
      go false = refl
