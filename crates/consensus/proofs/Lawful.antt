-- What the two figures have in common that lets single lines be gathered into events: between two stops there are at most four lines, which
-- neither wait nor broadcast; and a line that leads to no stop still leads there when more was delivered and decided. Assumes nothing.
use Prim.Native.Nat.{ℕ, suc, ◌≤◌}
use mathlib.Core.Path.{◌≡◌, refl, sym, subst, ap, ◌∙◌}
use mathlib.Core.Bool.{Bool, true, false, cond, ◌&&◌, true≢false}
use mathlib.Core.Option.{Option, none, some}
use lib.Dec.{ltb, lit≤}
use Rattle.bits.specs.Words.{low_agree}
use Rattle.bits.specs.Log.{ceil_log2}
use Rattle.consensus.specs.Events.{Rule, rule_1, rule_2}
use Rattle.consensus.specs.Figure.{View, Does, blocked, goes, broadcasts, proposes, await, known, Figure}
use Rattle.consensus.specs.Figure1 as one
use Rattle.consensus.specs.Figure2 as two
use Rattle.consensus.specs.Demand2.{figure_by}

-- g has what f has
abbrev pub More : {A : Type 0} → (ℕ → Option A) → (ℕ → Option A) → Type 0
More {A} f g = (j : ℕ) (v : A) → f j ≡ some v → g j ≡ some v

abbrev pub seen : ℕ → ℕ → (ℕ → Option ℕ) → (ℕ → Option Bool) → View
seen i n f d = record { self = i; count = n; prop = f; decided = d }

module _ (F : Figure) where
  -- a line that leads to no stop leads to a place of lower rank
  abbrev pub Falls : (F.Place → ℕ) → F.Place → Does F.Place → Type 0
  Falls rank p blocked = Unit {0}
  Falls rank p (goes q) = F.stop q ≡ false → suc (rank q) ≤ rank p
  Falls rank p (broadcasts q) = Unit {0}
  Falls rank p (proposes b a q) = Unit {0}

  -- what leads to no stop is still done
  abbrev pub Keeps : Does F.Place → Does F.Place → Type 0
  Keeps blocked e = Unit {0}
  Keeps (goes q) e = F.stop q ≡ false → e ≡ goes q
  Keeps (broadcasts q) e = Unit {0}
  Keeps (proposes b a q) e = Unit {0}

  abbrev pub Silent : Does F.Place → Type 0
  Silent blocked = Unit {0}
  Silent (goes q) = Unit {0}
  Silent (broadcasts q) = ⊥
  Silent (proposes b a q) = Unit {0}

  abbrev pub Moving : Does F.Place → Type 0
  Moving blocked = ⊥
  Moving (goes q) = Unit {0}
  Moving (broadcasts q) = ⊥
  Moving (proposes b a q) = Unit {0}

  -- `Ready f p` says of the array f what a process that comes to p knows of it
  pub record Lawful (Ready : (ℕ → Option ℕ) → F.Place → Type 0) : Type 0 where
    pub rank : F.Place → ℕ
    pub most : (p : F.Place) → rank p ≤ 4
    pub falls : (x : View) (p : F.Place) → Falls rank p (F.line x p)
    pub steady : (i n : ℕ) (f g : ℕ → Option ℕ) (d e : ℕ → Option Bool) → More f g → More d e → (p : F.Place) → Ready f p
        → Keeps (F.line (seen i n f d) p) (F.line (seen i n g e) p)
    pub moving : (x : View) (p : F.Place) → F.stop p ≡ false → Moving (F.line x p)
    pub ready : (f : ℕ → Option ℕ) (p : F.Place) → F.stop p ≡ false → Ready f p

  keeps_same : (d : Does F.Place) → Keeps d d
  keeps_same blocked = tt
  keeps_same (goes q) = λ e. refl
  keeps_same (broadcasts q) = tt
  keeps_same (proposes b a q) = tt

  await_keeps : {A : Type 0} (a b : Option A) (f : A → Does F.Place) → ((v : A) → a ≡ some v → b ≡ some v) → Keeps (await a f) (await b f)
  await_keeps none b f m = tt
  await_keeps (some v) b f m = subst (λ y. Keeps (f v) (await y f)) (sym (m v refl)) (keeps_same (f v))

  await_falls : {A : Type 0} (rank : F.Place → ℕ) (p : F.Place) (a : Option A) (f : A → Does F.Place) → ((v : A) → Falls rank p (f v))
      → Falls rank p (await a f)
  await_falls rank p none f m = tt
  await_falls rank p (some v) f m = m v

  -- a test that leads to a stop where it fails is kept where it passes
  test_keeps : (a b : Bool) (q r : F.Place) → (a ≡ true → b ≡ true) → F.stop r ≡ true → Keeps (goes (cond a q r)) (goes (cond b q r))
  test_keeps true b q r m s = λ e. ap (λ (c : Bool). goes (cond c q r)) (m refl)
  test_keeps false b q r m s = λ e. absurd (true≢false (sym s ∙ e))
      -- a test whose outcomes are stops or of lower rank

  test_falls : (rank : F.Place → ℕ) (p : F.Place) (a : Bool) (q r : F.Place) → Falls rank p (goes q) → Falls rank p (goes r)
      → Falls rank p (goes (cond a q r))
  test_falls rank p true q r x y = x
  test_falls rank p false q r x y = y

-- ---- what a process knows of prop[] where it stands: at line 11 of figure 2, prop[j] ≠ ⊥ (by line 10)

abbrev pub Ready2 : (ℕ → Option ℕ) → two.Place → Type 0
Ready2 f two.line4 = Unit {0}
Ready2 f two.line5 = Unit {0}
Ready2 f two.line6 = Unit {0}
Ready2 f (two.line7 j k d) = Unit {0}
Ready2 f (two.line8 j k d) = Unit {0}
Ready2 f (two.in8 j k d) = Unit {0}
Ready2 f (two.line9 j k d) = Unit {0}
Ready2 f (two.line10 j k d) = Unit {0}
Ready2 f (two.line11 j k d) = known (f j) ≡ true
Ready2 f (two.line12 b j k d) = Unit {0}
Ready2 f (two.in12 j k d) = Unit {0}
Ready2 f (two.line13 r j k d) = Unit {0}
Ready2 f (two.line14 r j k d) = Unit {0}
Ready2 f (two.line15 d) = Unit {0}
Ready2 f (two.returned v) = Unit {0}

abbrev pub ReadyBy : (r : Rule) → (ℕ → Option ℕ) → (figure_by r).Place → Type 0
ReadyBy rule_1 f p = Unit {0}
ReadyBy rule_2 f p = Ready2 f p

no_stop : {C : Type 0} → true ≡ false → C
no_stop e = absurd (true≢false e)

-- ---- figure 1

rank_1 : one.Place → ℕ
rank_1 one.line4 = 4
rank_1 one.line5 = 4
rank_1 one.line6 = 2
rank_1 (one.line7 j k l) = 1
rank_1 (one.line8 j k l) = 4
rank_1 (one.in8 j k l) = 4
rank_1 (one.line9 j k l) = 4
rank_1 (one.line10 j k l) = 3
rank_1 (one.line11 j k l) = 2
rank_1 (one.line12 l) = 0
rank_1 (one.returned v) = 4

most_1 : (p : one.Place) → rank_1 p ≤ 4
unfolding rank_1
most_1 one.line4 = lit≤ tt
most_1 one.line5 = lit≤ tt
most_1 one.line6 = lit≤ tt
most_1 (one.line7 j k l) = lit≤ tt
most_1 (one.line8 j k l) = lit≤ tt
most_1 (one.in8 j k l) = lit≤ tt
most_1 (one.line9 j k l) = lit≤ tt
most_1 (one.line10 j k l) = lit≤ tt
most_1 (one.line11 j k l) = lit≤ tt
most_1 (one.line12 l) = lit≤ tt
most_1 (one.returned v) = lit≤ tt

falls_1 : (x : View) (p : one.Place) → Falls one.figure1 rank_1 p (one.line x p)
unfolding rank_1 one.line
falls_1 x one.line4 = tt
falls_1 x one.line5 = await_falls one.figure1 rank_1 one.line5 (x.prop x.self) (λ v. goes one.line6) (λ v e. lit≤ tt)
falls_1 x one.line6 = λ e. lit≤ tt
falls_1 x (one.line7 j k l) =
    test_falls one.figure1 rank_1 (one.line7 j k l) (ltb k (ceil_log2 x.count)) (one.line8 j k l) (one.line12 l) no_stop (λ e. lit≤ tt)
falls_1 x (one.line8 j k l) = tt
falls_1 x (one.in8 j k l) = await_falls one.figure1 rank_1 (one.in8 j k l) (x.decided k) _ (λ a. no_stop)
falls_1 x (one.line9 j k l) = λ e. lit≤ tt
falls_1 x (one.line10 j k l) =
    test_falls one.figure1 rank_1 (one.line10 j k l) (known (x.prop j) && low_agree k l j) (one.line11 j k l) (one.line9 j k l) (λ e. lit≤ tt)
    no_stop
falls_1 x (one.line11 j k l) = λ e. lit≤ tt
falls_1 x (one.line12 l) = no_stop
falls_1 x (one.returned v) = tt

known_more : {A : Type 0} (a b : Option A) (t : Bool) → ((v : A) → a ≡ some v → b ≡ some v) → (known a && t) ≡ true → (known b && t) ≡ true
known_more none b t m e = absurd (true≢false (sym e))
known_more (some v) b t m e = subst (λ y. (known y && t) ≡ true) (sym (m v refl)) e

steady_1 : (i n : ℕ) (f g : ℕ → Option ℕ) (d e : ℕ → Option Bool) → More f g → More d e → (p : one.Place) → ReadyBy rule_1 f p
    → Keeps one.figure1 (one.line (seen i n f d) p) (one.line (seen i n g e) p)
unfolding one.line
steady_1 i n f g d e m w one.line4 t = tt
steady_1 i n f g d e m w one.line5 t = await_keeps one.figure1 (f i) (g i) _ (m i)
steady_1 i n f g d e m w one.line6 t = λ q. refl
steady_1 i n f g d e m w (one.line7 j k l) t = λ q. refl
steady_1 i n f g d e m w (one.line8 j k l) t = tt
steady_1 i n f g d e m w (one.in8 j k l) t = await_keeps one.figure1 (d k) (e k) _ (w k)
steady_1 i n f g d e m w (one.line9 j k l) t = λ q. refl
steady_1 i n f g d e m w (one.line10 j k l) t =
    test_keeps one.figure1 (known (f j) && low_agree k l j) (known (g j) && low_agree k l j) (one.line11 j k l) (one.line9 j k l)
    (known_more (f j) (g j) (low_agree k l j) (m j))
    refl
steady_1 i n f g d e m w (one.line11 j k l) t = λ q. refl
steady_1 i n f g d e m w (one.line12 l) t = no_stop
steady_1 i n f g d e m w (one.returned v) t = tt

moving_1 : (x : View) (p : one.Place) → one.stop p ≡ false → Moving one.figure1 (one.line x p)
unfolding one.line
moving_1 x one.line4 e = no_stop e
moving_1 x one.line5 e = no_stop e
moving_1 x one.line6 e = tt
moving_1 x (one.line7 j k l) e = tt
moving_1 x (one.line8 j k l) e = no_stop e
moving_1 x (one.in8 j k l) e = no_stop e
moving_1 x (one.line9 j k l) e = no_stop e
moving_1 x (one.line10 j k l) e = tt
moving_1 x (one.line11 j k l) e = tt
moving_1 x (one.line12 l) e = tt
moving_1 x (one.returned v) e = no_stop e

-- ---- figure 2

rank_2 : two.Place → ℕ
rank_2 two.line4 = 4
rank_2 two.line5 = 4
rank_2 two.line6 = 1
rank_2 (two.line7 j k d) = 0
rank_2 (two.line8 j k d) = 4
rank_2 (two.in8 j k d) = 4
rank_2 (two.line9 j k d) = 4
rank_2 (two.line10 j k d) = 0
rank_2 (two.line11 j k d) = 4
rank_2 (two.line12 f j k d) = 0
rank_2 (two.in12 j k d) = 4
rank_2 (two.line13 r j k d) = 2
rank_2 (two.line14 r j k d) = 1
rank_2 (two.line15 d) = 0
rank_2 (two.returned v) = 4

most_2 : (p : two.Place) → rank_2 p ≤ 4
unfolding rank_2
most_2 two.line4 = lit≤ tt
most_2 two.line5 = lit≤ tt
most_2 two.line6 = lit≤ tt
most_2 (two.line7 j k d) = lit≤ tt
most_2 (two.line8 j k d) = lit≤ tt
most_2 (two.in8 j k d) = lit≤ tt
most_2 (two.line9 j k d) = lit≤ tt
most_2 (two.line10 j k d) = lit≤ tt
most_2 (two.line11 j k d) = lit≤ tt
most_2 (two.line12 f j k d) = lit≤ tt
most_2 (two.in12 j k d) = lit≤ tt
most_2 (two.line13 r j k d) = lit≤ tt
most_2 (two.line14 r j k d) = lit≤ tt
most_2 (two.line15 d) = lit≤ tt
most_2 (two.returned v) = lit≤ tt

falls_2 : (x : View) (p : two.Place) → Falls two.figure2 rank_2 p (two.line x p)
unfolding rank_2 two.line
falls_2 x two.line4 = tt
falls_2 x two.line5 = await_falls two.figure2 rank_2 two.line5 (x.prop x.self) _ (λ v e. lit≤ tt)
falls_2 x two.line6 = λ e. lit≤ tt
falls_2 x (two.line7 j k d) = no_stop
falls_2 x (two.line8 j k d) = await_falls two.figure2 rank_2 (two.line8 j k d) (x.prop j) _ (λ v. tt)
falls_2 x (two.in8 j k d) = await_falls two.figure2 rank_2 (two.in8 j k d) (x.decided _) _ (λ a. no_stop)
falls_2 x (two.line9 j k d) = λ e. lit≤ tt
falls_2 x (two.line10 j k d) = test_falls two.figure2 rank_2 (two.line10 j k d) (two.fits k d (x.prop j)) (two.line11 j k d) (two.line9 j k d) no_stop no_stop
falls_2 x (two.line11 j k d) = λ e. lit≤ tt
falls_2 x (two.line12 f j k d) = tt
falls_2 x (two.in12 j k d) = await_falls two.figure2 rank_2 (two.in12 j k d) (x.decided _) _ (λ r e. lit≤ tt)
falls_2 x (two.line13 r j k d) = λ e. lit≤ tt
falls_2 x (two.line14 r j k d) = test_falls two.figure2 rank_2 (two.line14 r j k d) r (two.line15 d) (two.line7 j k d) (λ e. lit≤ tt) (λ e. lit≤ tt)
falls_2 x (two.line15 d) = no_stop
falls_2 x (two.returned v) = tt

equals_more : (d : ℕ) (a b : Option ℕ) → known a ≡ true → ((v : ℕ) → a ≡ some v → b ≡ some v) → two.equals d a ≡ two.equals d b
equals_more d none b e m = no_stop (sym e)
equals_more d (some v) b e m = ap (two.equals d) (sym (m v refl))

-- line 10 leads to a stop either way
until_keeps : (a b : Bool) (j k d : ℕ)
    → Keeps two.figure2 (goes (cond a (two.line11 j k d) (two.line9 j k d))) (goes (cond b (two.line11 j k d) (two.line9 j k d)))
until_keeps true b j k d = no_stop
until_keeps false b j k d = no_stop

steady_2 : (i n : ℕ) (f g : ℕ → Option ℕ) (c e : ℕ → Option Bool) → More f g → More c e → (p : two.Place) → ReadyBy rule_2 f p
    → Keeps two.figure2 (two.line (seen i n f c) p) (two.line (seen i n g e) p)
unfolding two.line
steady_2 i n f g c e m w two.line4 t = tt
steady_2 i n f g c e m w two.line5 t = await_keeps two.figure2 (f i) (g i) _ (m i)
steady_2 i n f g c e m w two.line6 t = λ q. refl
steady_2 i n f g c e m w (two.line7 j k d) t = λ q. refl
steady_2 i n f g c e m w (two.line8 j k d) t = await_keeps two.figure2 (f j) (g j) _ (m j)
steady_2 i n f g c e m w (two.in8 j k d) t = await_keeps two.figure2 (c _) (e _) _ (w _)
steady_2 i n f g c e m w (two.line9 j k d) t = λ q. refl
steady_2 i n f g c e m w (two.line10 j k d) t = until_keeps (two.fits k d (f j)) (two.fits k d (g j)) j k d
steady_2 i n f g c e m w (two.line11 j k d) t = λ q. ap (λ (b : Bool). goes (two.line12 b j k d)) (sym (equals_more d (f j) (g j) t (m j)))
steady_2 i n f g c e m w (two.line12 b j k d) t = tt
steady_2 i n f g c e m w (two.in12 j k d) t = await_keeps two.figure2 (c _) (e _) _ (w _)
steady_2 i n f g c e m w (two.line13 r j k d) t = λ q. refl
steady_2 i n f g c e m w (two.line14 r j k d) t = λ q. refl
steady_2 i n f g c e m w (two.line15 d) t = λ q. refl
steady_2 i n f g c e m w (two.returned v) t = tt

moving_2 : (x : View) (p : two.Place) → two.stop p ≡ false → Moving two.figure2 (two.line x p)
unfolding two.line
moving_2 x two.line4 e = no_stop e
moving_2 x two.line5 e = no_stop e
moving_2 x two.line6 e = tt
moving_2 x (two.line7 j k d) e = tt
moving_2 x (two.line8 j k d) e = no_stop e
moving_2 x (two.in8 j k d) e = no_stop e
moving_2 x (two.line9 j k d) e = no_stop e
moving_2 x (two.line10 j k d) e = tt
moving_2 x (two.line11 j k d) e = no_stop e
moving_2 x (two.line12 f j k d) e = tt
moving_2 x (two.in12 j k d) e = no_stop e
moving_2 x (two.line13 r j k d) e = tt
moving_2 x (two.line14 r j k d) e = tt
moving_2 x (two.line15 d) e = tt
moving_2 x (two.returned v) e = no_stop e

ready_2 : (f : ℕ → Option ℕ) (p : two.Place) → two.stop p ≡ false → Ready2 f p
ready_2 f two.line4 e = tt
ready_2 f two.line5 e = tt
ready_2 f two.line6 e = tt
ready_2 f (two.line7 j k d) e = tt
ready_2 f (two.line8 j k d) e = tt
ready_2 f (two.in8 j k d) e = tt
ready_2 f (two.line9 j k d) e = tt
ready_2 f (two.line10 j k d) e = tt
ready_2 f (two.line11 j k d) e = no_stop e
ready_2 f (two.line12 b j k d) e = tt
ready_2 f (two.in12 j k d) e = tt
ready_2 f (two.line13 r j k d) e = tt
ready_2 f (two.line14 r j k d) e = tt
ready_2 f (two.line15 d) e = tt
ready_2 f (two.returned v) e = tt

pub lawful : (r : Rule) → Lawful (figure_by r) (ReadyBy r)
lawful rule_1 = record { rank = rank_1; most = most_1; falls = falls_1; steady = steady_1; moving = moving_1; ready = λ f p e. tt }
lawful rule_2 = record { rank = rank_2; most = most_2; falls = falls_2; steady = steady_2; moving = moving_2; ready = ready_2 }
