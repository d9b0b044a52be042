-- Beginnings of a list, and the claims in it. Assumes nothing.
use Prim.Native.Nat.{ℕ, ◌<◌}
use mathlib.Core.Path.{◌≡◌, refl, sym, subst, ap}
use mathlib.Core.Logic.{inl, inr}
use Rattle.consensus.specs.Events.{Event, claim, deliver, step, lose, answer, History, start, ◌▷◌}
use Rattle.consensus.specs.Terms.{Beginning, Fitting, ClaimsFit}
use Rattle.consensus.specs.Told.{followed_by}

pub beginning_followed : (g h : History) → Beginning g h → (l : History) × (h ≡ followed_by g l)
beginning_followed g start b = (start, sym b)
beginning_followed g (h ▷ e) (inl b) = (start, sym b)
beginning_followed g (h ▷ e) (inr b) =
    let x = beginning_followed g h b in (x.0 ▷ e, ap (λ (k : History). k ▷ e) x.1)

pub itself : (h : History) → Beginning h h
itself start = refl
itself (h ▷ e) = inl refl

begun_by : (g l : History) → Beginning g (followed_by g l)
begun_by g start = itself g
begun_by g (l ▷ e) = inr (begun_by g l)

pub followed_beginning : (g h l : History) → h ≡ followed_by g l → Beginning g h
followed_beginning g h l e = subst (Beginning g) (sym e) (begun_by g l)

-- ---- claims

-- the last event of a list, or e of the empty one
last_or : Event → History → Event
last_or e start = e
last_or e (h ▷ f) = f

pub not_empty : (h : History) (e : Event) → (h ▷ e) ≡ start → ⊥
not_empty h e q = subst kind q tt
  where
    kind : History → Type 0
    kind start = ⊥
    kind (h ▷ e) = Unit {0}

pub fit_claims : (h : History) → ClaimsFit h → (g : History) (s v : ℕ) → Beginning (g ▷ claim s v) h → v < 4294967296
unfolding last_or
fit_claims start f g s v b = absurd (not_empty g (claim s v) b)
fit_claims (h ▷ e) f g s v (inl b) = subst Fitting (sym (ap (last_or e) b)) f.1
fit_claims (h ▷ e) f g s v (inr b) = fit_claims h f.0 g s v b

pub claims_fit : (h : History) → ((g : History) (s v : ℕ) → Beginning (g ▷ claim s v) h → v < 4294967296) → ClaimsFit h
claims_fit start f = tt
claims_fit (h ▷ e) f = (claims_fit h (λ g s v b. f g s v (inr b)), fits e (λ s v q. f h s v (inl (ap (λ (x : Event). h ▷ x) q))))
  where
    fits : (x : Event) → ((s v : ℕ) → claim s v ≡ x → v < 4294967296) → Fitting x
    fits (claim s v) f = f s v refl
    fits (deliver t s) f = tt
    fits (step s) f = tt
    fits (lose s) f = tt
    fits (answer b a) f = tt
