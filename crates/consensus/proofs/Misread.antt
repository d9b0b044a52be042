-- Figure 2 misread, computed. Assumes nothing.
use Prim.Native.Nat.{ℕ, zero, suc}
use mathlib.Core.Path.{◌≡◌, refl, sym, subst, ◌∙◌}
use mathlib.Core.Bool.{Bool, true, false, not, ◌&&◌}
use mathlib.Core.Option.{Option, none, some}
use native.Mathlib.Omega.{arith}
use lib.Dec.{eqb, ltb}
use borrow.Author.Tests.{le-ltb}
use Rattle.bits.specs.Digits.{bit, binary_digits, digits_in}
use Rattle.bits.specs.Words.{with_bit, low_agree}
use Rattle.bits.specs.Log.{ceil_log2, least_from}
use Rattle.basics.specs.Below.{any_below}
use Rattle.consensus.specs.Events.{Event, claim, deliver, step, lose, answer, History, start, ◌▷◌}
use Rattle.consensus.specs.State.{update}
use Rattle.consensus.specs.Rules.{is_bit, stage_number, number, step_from, effect, next, after}
use Rattle.consensus.specs.Figure.{View, Does, blocked, known, onward, event}
use Rattle.consensus.specs.Figure2 as two
use Rattle.consensus.specs.Figure2.{line4, line5, line6, line7, line8, in8, line9, line10, line11, line12, in12, line13, line14, line15, returned}
use Rattle.consensus.specs.System.{Process, System, storing, crashing}
use Rattle.consensus.specs.Runs.{decide, provided, then, deliver_by, with_process, stay, live, done, happens, happening, run}
use Rattle.consensus.specs.Told.{followed_by}
use Rattle.consensus.specs.Misread.{line_with, whole, until_passed, figure_with, run_with, alone_with_2, Misread}

the_figure : (x : View) (p : two.Place) → line_with two.fits whole x p ≡ two.line x p
unfolding line_with two.line
the_figure x line4 = refl
the_figure x line5 = refl
the_figure x line6 = refl
the_figure x (line7 j k d) = refl
the_figure x (line8 j k d) = refl
the_figure x (in8 j k d) = refl
the_figure x (line9 j k d) = refl
the_figure x (line10 j k d) = refl
the_figure x (line11 j k d) = refl
the_figure x (line12 f j k d) = refl
the_figure x (in12 j k d) = refl
the_figure x (line13 r j k d) = refl
the_figure x (line14 r j k d) = refl
the_figure x (line15 d) = refl
the_figure x (returned v) = refl

-- ---- a station that stands at line 8 with ⊥ at its cursor, beside one that crashed before it broadcast

abbrev does : View → two.Place → Does two.Place
does = event (figure_with until_passed whole)

record Stuck (x : System two.Place) : Type 0 where
  place : (x.process 0).place ≡ line8 1 1 0
  missing : (x.process 0).prop 1 ≡ none
  unsent : (x.process 1).sent ≡ none
  gone : (x.process 1).crashed ≡ true

provided_none : {A : Type 0} (b : Bool) → provided {A = A} b none ≡ none
provided_none true = refl
provided_none false = refl

-- it can do nothing
nothing_done : (x : System two.Place) → Stuck x → done 2 does x 0 ≡ blocked
unfolding event onward line_with two.line
nothing_done x s = rw (s.place, s.missing)

-- two processes are below 2
no_third : (i : ℕ) → ltb (suc (suc i)) 2 ≡ false
no_third i = le-ltb (suc (suc i)) 2 (omega arith)

not_live_1 : (x : System two.Place) → Stuck x → live 2 does x 1 ≡ false
not_live_1 x s = rw s.gone

-- what is not allowed changes nothing
not_allowed : (x : System two.Place) (e : Event) → Stuck x → happening 2 does x e ≡ none → Stuck (stay x (happening 2 does x e))
not_allowed x e s z = subst (λ (y : Option (System two.Place)). Stuck (stay x y)) (sym z) s

refused_delivery : (a b : Bool) (o : Option (System two.Place)) → provided (a && (false && b)) o ≡ none
refused_delivery true b o = refl
refused_delivery false b o = refl

-- process 0 changed, in another place than its own and prop[1]
changed : (x : System two.Place) (q : Process two.Place) → Stuck x → q.place ≡ (x.process 0).place → q.prop 1 ≡ (x.process 0).prop 1
    → Stuck (record { process = update x.process 0 q; decision = x.decision })
unfolding update
changed x q s a b = record { place = a ∙ s.place; missing = b ∙ s.missing; unsent = s.unsent; gone = s.gone }

own_delivery : (x : System two.Place) → Stuck x → (b : Bool) (v : Option ℕ) → Stuck (stay x (provided b (with_process x 0 (deliver_by 0 v (x.process 0)))))
unfolding update
own_delivery x s false v = s
own_delivery x s true none = s
own_delivery x s true (some v) = changed x (storing 0 v (x.process 0)) s refl refl

decided_kept : (x : System two.Place) → Stuck x → (b : ℕ) (a d : Bool)
    → Stuck (stay x (provided d (some (record { process = x.process; decision = update x.decision b (some a) }))))
decided_kept x s b a false = s
decided_kept x s b a true = record { place = s.place; missing = s.missing; unsent = s.unsent; gone = s.gone }

answer_kept : (x : System two.Place) → Stuck x → (b : ℕ) (a c : Bool) → Stuck (stay x (then (provided c (some (decide b a))) (happens 2 does x)))
unfolding happens
answer_kept x s b a false = s
answer_kept x s b a true = decided_kept x s b a (not (known (x.decision b)) && any_below 2 (λ i. is_bit a ((x.process i).proposed b)))

kept : (x : System two.Place) → Stuck x → (e : Event) → Stuck (stay x (happening 2 does x e))
unfolding happens
kept x s (claim zero v) = not_allowed x (claim zero v) s (rw (nothing_done x s) (provided_none (live 2 does x 0)))
kept x s (claim (suc zero) v) = not_allowed x (claim (suc zero) v) s (rw (not_live_1 x s))
kept x s (claim (suc (suc i)) v) = not_allowed x (claim (suc (suc i)) v) s (rw (no_third i))
kept x s (deliver zero zero) = own_delivery x s (live 2 does x 0 && not ((x.process 0).delivered 0)) (x.process 0).sent
kept x s (deliver (suc zero) zero) = not_allowed x (deliver (suc zero) zero) s (rw s.unsent (provided_none (live 2 does x 0 && not ((x.process 0).delivered 1))))
kept x s (deliver (suc (suc j)) zero) = not_allowed x (deliver (suc (suc j)) zero) s (rw (no_third j))
kept x s (deliver j (suc zero)) = not_allowed x (deliver j (suc zero)) s (rw (not_live_1 x s) (refused_delivery (ltb j 2) (not ((x.process 1).delivered j)) (with_process x 1 (deliver_by j (x.process j).sent (x.process 1)))))
kept x s (deliver j (suc (suc i))) = not_allowed x (deliver j (suc (suc i))) s (rw (no_third i) (refused_delivery (ltb j 2) (not ((x.process (suc (suc i))).delivered j)) (with_process x (suc (suc i)) (deliver_by j (x.process j).sent (x.process (suc (suc i)))))))
kept x s (step zero) = not_allowed x (step zero) s (rw (nothing_done x s) (provided_none (live 2 does x 0)))
kept x s (step (suc zero)) = not_allowed x (step (suc zero)) s (rw (not_live_1 x s))
kept x s (step (suc (suc i))) = not_allowed x (step (suc (suc i))) s (rw (no_third i))
kept x s (lose zero) = by_crash (live 2 does x 0)
  where
    by_crash : (b : Bool) → Stuck (stay x (provided b (with_process x 0 (some (crashing (x.process 0))))))
    by_crash false = s
    by_crash true = changed x (crashing (x.process 0)) s refl refl
kept x s (lose (suc zero)) = not_allowed x (lose (suc zero)) s (rw (not_live_1 x s))
kept x s (lose (suc (suc i))) = not_allowed x (lose (suc (suc i))) s (rw (no_third i))
kept x s (answer b a) = answer_kept x s b (eqb a 1) (not (ltb 1 a))

all_along : (h : History) → Stuck (run_with until_passed whole (followed_by alone_with_2 h))
unfolding bit binary_digits digits_in with_bit low_agree ceil_log2 least_from update any_below onward event two.line line_with happens run
all_along start = record { place = refl; missing = refl; unsent = refl; gone = refl }
all_along (h ▷ e) = kept (run_with until_passed whole (followed_by alone_with_2 h)) (all_along h) e

for_ever : (h : History) → ((run_with until_passed whole (followed_by alone_with_2 h)).process 0).place ≡ line8 1 1 0
for_ever h = (all_along h).place

pub misread : Misread
unfolding bit binary_digits digits_in with_bit low_agree ceil_log2 least_from update any_below stage_number number step_from effect next after onward event two.line line_with happens run
misread = record {
  tested = refl;
  played = refl;
  as_zero = refl;
  passed = refl;
  for_ever = for_ever;
  low_bits_0 = refl;
  low_bits_1 = refl;
  whole_claims_0 = refl;
  whole_claims_1 = refl;
  the_figure = the_figure;
}
