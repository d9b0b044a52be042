-- An event that is owned by one station changes that station's part only. Where the new part is right and what all can see has
-- grown, the invariant holds on, since all other parts grow with what they see. Assumes nothing.
use Prim.Native.Nat.{ℕ, ◌<◌, ◌≤◌}
use mathlib.Core.Path.{◌≡◌, refl, sym, subst, ◌∙◌, ap}
use mathlib.Core.Logic.{◌⊎◌, inl, inr}
use mathlib.Core.Bool.{Bool, true}
use mathlib.Core.Option.{Option, none, some}
use Rattle.consensus.specs.Events.{Opening}
use Rattle.consensus.specs.State.{Stage, Station, State, not_idle, claimed, claim_of, set_station}
use Rattle.consensus.proofs.Basics.{update_ind}
use Rattle.consensus.proofs.Invariant.{CastOk, StageOk, PartOk, Inv, votes}
use Rattle.consensus.proofs.Grows.{Grows, part_grows}

-- the state st' that an event leaves of st: the invariant holds on, and what all can see has grown
pub record Kept (o : Opening) (st st' : State) : Type 0 where
  pub inv : Inv o st'
  pub grows : Grows st st'

module _ (st : State) (s : ℕ) (p : Station) where
  -- the new part has all that the old one showed
  pub record OwnGrows : Type 0 where
    pub claims : claimed st s ≡ true → (not_idle p.stage ≡ true) × (p.own_claim ≡ claim_of st s)
    pub helds : (t : ℕ) → (st.station s).holds t ≡ true → p.holds t ≡ true
    pub casts : (b : ℕ) (a : Bool) → (st.station s).cast b ≡ some a → p.cast b ≡ some a

  pub own_grows : OwnGrows → Grows st (set_station st s p)
  own_grows g = record {
    claims = λ q e.
        update_ind (λ (x : Station). (not_idle x.stage ≡ true) × (x.own_claim ≡ claim_of st q)) st.station s p q
        (λ i. let c = g.claims (subst (λ (y : ℕ). claimed st y ≡ true) i e) in (c.0, c.1 ∙ ap (claim_of st) (sym i)))
        (λ ne. (e, refl));
    helds = λ q t e.
        update_ind (λ (x : Station). x.holds t ≡ true) st.station s p q
        (λ i. g.helds t (subst (λ (y : ℕ). (st.station y).holds t ≡ true) i e))
        (λ ne. e);
    answers = λ b a e. e;
    casts = λ q b a e.
        update_ind (λ (x : Station). x.cast b ≡ some a) st.station s p q
        (λ i. g.casts b a (subst (λ (y : ℕ). (st.station y).cast b ≡ some a) i e))
        (λ ne. e);
  }

  own_inv : (o : Opening) → Inv o st → OwnGrows → PartOk o (set_station st s p) s p.stage p.holds p.cast → Inv o (set_station st s p)
  own_inv o inv g new = record {
    parts = λ q.
        update_ind (λ (x : Station). PartOk o (set_station st s p) q x.stage x.holds x.cast) st.station s p q
        (λ i. subst (λ (y : ℕ). PartOk o (set_station st s p) y p.stage p.holds p.cast) (sym i) new)
        (λ ne. part_grows o st (set_station st s p) (own_grows g) q _ _ _ (inv.parts q));
    answers = λ b a e. let t = inv.answers b a e in (t.0, t.1, (own_grows g).casts _ _ _ t.2);
  }

  -- it is enough that the new part is right in the state as it was
  pub own_kept : (o : Opening) → Inv o st → OwnGrows → PartOk o st s p.stage p.holds p.cast → Kept o st (set_station st s p)
  own_kept o inv g part = record {
    inv = own_inv o inv g (part_grows o st (set_station st s p) (own_grows g) s p.stage p.holds p.cast part);
    grows = own_grows g;
  }

-- a STEP: another stage g and other casts c for the station s, the rest as it was
abbrev pub moved : State → ℕ → Stage → (ℕ → Option Bool) → Station
moved st s g c = record {
  stage = g;
  own_claim = (st.station s).own_claim;
  holds = (st.station s).holds;
  lost = (st.station s).lost;
  cast = c;
}

module _ (o : Opening) (st : State) (s : ℕ) (g : Stage) (c : ℕ → Option Bool) where
  pub record Move : Type 0 where
    pub station : s < o.count
    pub active : not_idle g ≡ true
    pub kept : (b : ℕ) (a : Bool) → (st.station s).cast b ≡ some a → c b ≡ some a
    pub new : (b : ℕ) (a : Bool) → c b ≡ some a → ((st.station s).cast b ≡ some a) ⊎ CastOk o st b a
    pub uncast : (b : ℕ) → votes o g ≤ b → c b ≡ none
    pub stage : StageOk o st g (st.station s).holds c

  move_grows : Move → OwnGrows st s (moved st s g c)
  move_grows m = record { claims = λ e. (m.active, refl); helds = λ t e. e; casts = m.kept }

  pub move_kept : Inv o st → Move → Kept o st (set_station st s (moved st s g c))
  move_kept inv m = own_kept st s (moved st s g c) o inv (move_grows m) here
    where
      casts : (b : ℕ) (a : Bool) → ((st.station s).cast b ≡ some a) ⊎ CastOk o st b a → (s < o.count) × CastOk o st b a
      casts b a (inl e) = (inv.parts s).casts b a e
      casts b a (inr k) = (m.station, k)

      here : PartOk o st s g (st.station s).holds c
      here = record { holdings = (inv.parts s).holdings; casts = λ b a e. casts b a (m.new b a e); uncast = m.uncast; stage = m.stage }
