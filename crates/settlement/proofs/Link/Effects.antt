-- Each accepted event keeps the tie between record and play: the entry it replaces shows the station's new part, and a vote is marked in its
-- ballot. Assumes nothing.
use Prim.Native.Nat.{ℕ, suc, ◌+◌, ◌%◌, ◌<◌, ◌≤◌}
use mathlib.Core.Path.{◌≡◌, refl, sym, subst, ◌∙◌, ap, ap₂}
use mathlib.Core.Bool.{Bool, true, false, cond, ◌&&◌, ◌||◌}
use mathlib.Core.Option.{Option, none, some}
use native.Mathlib.Omega.{arith}
use native.Mathlib.Nat.{le_refl, lt_of_lt_of_le, mod-lt, mod-eq_of_lt}
use native.Mathlib.Numerals.{add-one}
use lib.Dec.{eqb}
use borrow.Author.Tests.{ne_eqb}
use Rattle.bits.specs.Digits.{bit}
use Rattle.bits.specs.Words.{claim_bits, with_bit, low_agree, member, insert}
use Rattle.bits.specs.Log.{ceil_log2}
use Rattle.bits.proofs.Masks.{member_same, member_other}
use Rattle.bits.proofs.Log.{log_le}
use Rattle.bits.proofs.Words.{word_inside}
use Rattle.consensus.specs.Events.{Event, claim, deliver, step, lose, answer, Rule, rule_1, rule_2, Opening, Openable, ballots_by}
use Rattle.consensus.specs.Events as events
use Rattle.consensus.specs.State as play
use Rattle.consensus.specs.Rules as rules
use Rattle.consensus.specs.Rules.{finish_ballot, as_bit, spelled_by, stage_number}
use Rattle.consensus.proofs.Basics.{update_ind}
use Rattle.basics.proofs.Bools.{no_clash, not_false→true}
use Rattle.basics.proofs.Refusals.{refused_not}
use Rattle.consensus.proofs.Invariant.{PartOk, Inv}
use Rattle.consensus.proofs.Own.{moved as PartMoved}
use Rattle.consensus.proofs.Ballots.{Short, bit_below, finish_ballot_below}
use Rattle.consensus.proofs.Spelling.{unfinished_of}
use Rattle.consensus.proofs.Steps.{idle_refused, decided_refused}
use Rattle.consensus.proofs.Reached.{claim_accepted, deliver_accepted, step_accepted, lose_accepted, answer_accepted}
use Rattle.entry.specs.declared.entry.Stage.{Stage}
use Rattle.entry.specs.declared.entry.Stage.TheVariants.{Idle, Waiting, Voting, Awaiting, Seeking, FinishVoting, FinishAwaiting, Decided}
use Rattle.entry.specs.declared.entry.Station.{Station}
use Rattle.settlement.specs.declared.record.Settlement.{Settlement}
use Rattle.entry.specs.Entries.{ballot_entries, bit_ballot, spelled, claiming, holding, losing, moved, casting, answering}
use Rattle.settlement.specs.Record.{entry, ballot, with_station, with_ballot}
use Rattle.event.specs.declared.view.View.{View}
use Rattle.entry.specs.Stages.{not_idle, in_round, on_finish}
use Rattle.event.specs.Places.{next_cursor, step_beside, step_ballot}
use Rattle.event.specs.Step.{next_round, started, staged, bit_taken, finish_taken, entry_after_seek, sought, stepped, voted}
use Rattle.event.specs.Change.{own_after, ballot_after}
use Rattle.settlement.specs.Events.{effect}
use Rattle.settlement.specs.Link.{rule_number, stage_of}
use Rattle.settlement.proofs.Range.{round_below}
use Rattle.settlement.proofs.Stays.{ballot_again, station_again}
use Rattle.settlement.proofs.Link.Faultless.{faultless}
use Rattle.settlement.proofs.Link.Linked.{Early, EntryShows, Linked, own_linked, vote_linked, answer_linked}
use Rattle.settlement.proofs.Link.Numbers.{idle_same, ballot_of_round, ballot_answered, answer_same}

-- numbers that a byte would bend, where the record test holds
next_round_is : (k : ℕ) → k < claim_bits → next_round k ≡ suc k
next_round_is k h = mod-eq_of_lt (omega arith) ∙ add-one k

next_cursor_is : (n j : ℕ) → 0 < n → next_cursor n j ≡ (j + 1) % n
next_cursor_is n j positive = rw (ne_eqb n 0 (λ e. omega arith))

early_of : (g : Stage) (k d : ℕ) → not_idle g ≡ false → Early g k d → (k ≡ 0) × (d ≡ 0)
early_of Idle k d e x = x
early_of Waiting k d e x = x
early_of Voting k d e x = no_clash true refl e
early_of Awaiting k d e x = no_clash true refl e
early_of Seeking k d e x = no_clash true refl e
early_of FinishVoting k d e x = no_clash true refl e
early_of FinishAwaiting k d e x = no_clash true refl e
early_of Decided k d e x = no_clash true refl e

-- a station moved by a STEP: stage, cursor, round, word and decision are new
moved_shows : (n : ℕ) (t : Station) (st : play.State) (s : ℕ) (c : ℕ → Option Bool) → EntryShows n t (st.station s)
    → (g : Stage) (j k d v : ℕ) (g' : play.Stage)
    → stage_of g j k d v ≡ g' → j < n → Early g k d → EntryShows n (moved g j k d v t) (PartMoved st s g' c)
moved_shows n t st s c x g j k d v g' e b early = record { stage = e; claim = x.claim; holds = x.holds; lost = x.lost; cursor = b; early = early }

-- the ballots that there are have entries
ballots_inside : (r : Rule) (n : ℕ) → n ≤ 32 → ballots_by r (ceil_log2 n) ≤ ballot_entries
ballots_inside rule_1 n l = let m = log_le n 5 l in omega arith
ballots_inside rule_2 n l = le_refl ballot_entries

spelled_same_by : (r : Rule) (st : play.State) (j v : ℕ) → v ≡ play.claim_of st j → cond (eqb (rule_number r) 1) j v ≡ spelled_by r st j
spelled_same_by rule_1 st j v e = refl
spelled_same_by rule_2 st j v e = e

module _ (o : Opening) (a : Openable o) (r : Settlement) (st : play.State) (l : Linked o r st) (inv : Inv o st) (short : Short o st) where
  abbrev n : ℕ
  n = o.count

  inside : (b : ℕ) → b < events.ballots o → b < ballot_entries
  inside b i = lt_of_lt_of_le i (ballots_inside o.rule o.count a.not_too_many)

  spelled_same : (j : ℕ) → j < n → spelled r.rule j (entry r j).claim ≡ rules.spelled o st j
  spelled_same j b = ap (λ (x : ℕ). cond (eqb x 1) j (entry r j).claim) l.rule ∙ spelled_same_by o.rule st j _ (l.entries j b).claim

  -- a ballot's entry stored again
  kept : (b : ℕ) (x : Settlement) (st' : play.State) → Linked o x st' → Linked o (with_ballot b (ballot x b) x) st'
  kept b x st' y = subst (λ (z : Settlement). Linked o z st') (sym (ballot_again b x)) y

  claim_effect : (s v : ℕ) → rules.number o st (claim s v) ≡ 0
      → Linked o (with_station s (claiming v (entry r s)) r) (play.set_station st s (rules.claiming v (st.station s)))
  claim_effect s v e =
      let c = claim_accepted o st s v e in
      let x = l.entries s c.station in
      own_linked o a r st l s c.station (claiming v (entry r s)) (rules.claiming v (st.station s))
      (record {
        stage = refl;
        claim = refl;
        holds = x.holds;
        lost = x.lost;
        cursor = x.cursor;
        early = early_of (entry r s).stage _ _ (idle_same o a r st l inv s c.station ∙ c.unclaimed) x.early;
      })
      refl

  deliver_effect : (t s : ℕ) → rules.number o st (deliver t s) ≡ 0
      → Linked o (with_station s (holding t (entry r s)) r) (play.set_station st s (rules.holding t (st.station s)))
  deliver_effect t s e =
      let c = deliver_accepted o st t s e in
      let x = l.entries s c.station in
      own_linked o a r st l s c.station (holding t (entry r s)) (rules.holding t (st.station s))
      (record {
        stage = x.stage;
        claim = x.claim;
        holds = λ i.
            update_ind (λ (y : Bool). member i (insert t (entry r s).held) ≡ y) (st.station s).holds t true i
            (λ q. ap (λ (z : ℕ). member z (insert t (entry r s).held)) q ∙ member_same t _ (lt_of_lt_of_le c.sender a.not_too_many))
            (λ ne. member_other i t _ ne ∙ x.holds i);
        lost = x.lost;
        cursor = x.cursor;
        early = x.early;
      })
      refl

  lose_effect : (s : ℕ) → rules.number o st (lose s) ≡ 0
      → Linked o (with_station s (losing (entry r s)) r) (play.set_station st s (rules.losing (st.station s)))
  lose_effect s e =
      let c = lose_accepted o st s e in
      let x = l.entries s c.station in
      own_linked o a r st l s c.station (losing (entry r s)) (rules.losing (st.station s))
      (record { stage = x.stage; claim = x.claim; holds = x.holds; lost = refl; cursor = x.cursor; early = x.early })
      refl

  -- ---- STEP, at each stage

  module _ (s : ℕ) (below : s < n) where
    abbrev t : Station
    t = entry r s

    abbrev p : play.Station
    p = st.station s

    abbrev x : EntryShows n t p
    x = l.entries s below

    abbrev Part : play.Stage → Type 0
    Part g = PartOk o st s g p.holds p.cast

    -- the entry becomes u where the play's station goes to the stage g
    abbrev Follows : Station → play.Stage → Type 0
    Follows u g = Linked o (with_station s u r) (play.set_station st s (play.with_stage g p))

    -- the station moves, and nothing is cast
    moves : (g : Stage) (j k d v : ℕ) (g' : play.Stage) → stage_of g j k d v ≡ g' → j < n → Early g k d → Follows (moved g j k d v t) g'
    moves g j k d v g' e b early = own_linked o a r st l s below (moved g j k d v t) (play.with_stage g' p) (moved_shows n t st s p.cast x g j k d v g' e b early) refl

    -- the station goes to the stage g, and casts y in ballot b
    abbrev cast_at : Stage → ℕ → Bool → Settlement
    cast_at g b y = with_ballot b (casting s y (ballot r b)) (with_station s (staged g t) r)

    -- the station votes
    votes : (g : Stage) (g' : play.Stage) (b c : ℕ) (y z : Bool) → b ≡ c → y ≡ z → stage_of g t.cursor t.round t.word t.decision ≡ g'
        → Early g t.round t.word
        → c < events.ballots o → p.cast c ≡ none → Linked o (cast_at g b y) (play.set_station st s (rules.casting c z g' p))
    votes g g' b c y z q w e early i unvoted =
        subst (λ (m : ℕ). Linked o (with_ballot m (casting s y (ballot r m)) (with_station s (staged g t) r)) (play.set_station st s (rules.casting c z g' p))) (sym q)
        (subst (λ (u : Bool). Linked o (with_ballot c (casting s u (ballot r c)) (with_station s (staged g t) r)) (play.set_station st s (rules.casting c z g' p))) (sym w)
        (vote_linked o a r st l s below (staged g t) (rules.casting c z g' p)
        (moved_shows n t st s (rules.casting c z g' p).cast x g t.cursor t.round t.word t.decision g' e x.cursor early)
        c (inside c i) z unvoted refl))

    -- the answer that the record keeps is the play's
    taken_bit : (b : ℕ) → play.answered (st.answer_of b) ≡ true → (ballot r b).answer ≡ play.bit_of (st.answer_of b)
    taken_bit b e = sym (ap play.bit_of (answer_same (ballot r b) (st.answer_of b) (l.answer b) (ballot_answered o a r st l inv b ∙ e)))

    -- what a STEP looks at and makes of the record, at the stage g
    abbrev view_at : Stage → View
    view_at g =
        record {
          count = r.count;
          rule = r.rule;
          own = t;
          beside = entry r (step_beside r.count t.cursor g);
          ballot = ballot r (step_ballot r.rule t.round g);
        }

    abbrev effect_at : Stage → Settlement
    effect_at g = with_ballot (step_ballot r.rule t.round g) (voted (view_at g) s g) (with_station s (stepped (view_at g) s g) r)

    -- a station in a round has one that a claim has a bit for
    low : {g : Stage} → t.stage ≡ g → (in_round g || on_finish g) ≡ true → t.round < claim_bits
    low e h = round_below r (faultless o a r st l inv short) s (subst (λ (m : ℕ). s < m) (sym l.count) below) (rw e h)

    abbrev StepLinked : Stage → Type 0
    StepLinked g = t.stage ≡ g → Part (stage_of g t.cursor t.round t.word t.decision) → stage_number o st s (stage_of g t.cursor t.round t.word t.decision) ≡ 0
        → Linked o (effect_at g) (play.set_station st s (rules.step_from o st s (stage_of g t.cursor t.round t.word t.decision) p))

    from_voting : StepLinked Voting
    unfolding stepped voted rules.step_from
    from_voting e y z =
        votes Awaiting _ (bit_ballot r.rule t.round) (rules.bit_ballot o t.round) _ _ (ballot_of_round o a r st l inv t.round) (ap (bit t.round) (spelled_same t.cursor x.cursor)) refl tt
        (bit_below o st short t.round y.stage.round)
        (y.uncast _ (le_refl _))

    from_awaiting : StepLinked Awaiting
    unfolding stepped voted rules.step_from bit_taken stage_number
    from_awaiting e y z =
        let k = t.round in
        let answered : play.answered (st.answer_of (rules.bit_ballot o k)) ≡ true = not_false→true _ (refused_not _ 8 0 refl z).0 in
        kept (bit_ballot r.rule k) _ _
        (moves Seeking t.cursor k _ t.decision _
        (ap (play.seeking t.cursor k) (word_inside claim_bits k _ t.word (low e refl))
        ∙ ap (λ (v : Bool). play.seeking t.cursor k (with_bit k v t.word))
        (ap (λ (b : ℕ). (ballot r b).answer) (ballot_of_round o a r st l inv k) ∙ taken_bit (rules.bit_ballot o k) answered))
        x.cursor
        tt)

    from_finish_voting : StepLinked FinishVoting
    unfolding stepped voted rules.step_from
    from_finish_voting e y z =
        votes FinishAwaiting _ (finish_ballot t.round) (finish_ballot t.round) _ _ refl (ap (eqb t.word) (l.entries t.cursor x.cursor).claim) refl tt
        (finish_ballot_below o st short y.stage.0 t.round (unfinished_of o st y.stage.0 t.round y.stage.1.round))
        (y.uncast _ (le_refl _))

    -- a choice between two moves is made alike on both sides
    choice : (b : Bool) (u w : Station) (g h : play.Stage) → (b ≡ true → Follows u g)
        → (b ≡ false → Follows w h)
        → Follows (cond b u w) (cond b g h)
    choice true u w g h f k = f refl
    choice false u w g h f k = k refl

    -- the entry that the first STEP leads to, under rule m and with c stations
    abbrev first_entry : ℕ → ℕ → Station
    first_entry m c =
        cond (eqb m 1 && eqb c 1) (moved Decided s t.round t.word t.claim t) (moved Voting s t.round t.word t.decision t)

    abbrev first_of : Rule → play.Stage
    first_of q = rules.first_stage q n s p.own_claim

    first_same : (q : Rule) → t.stage ≡ Waiting
        → Follows (first_entry (rule_number q) n) (first_of q)
    first_same q e = go q
      where
        early : (t.round ≡ 0) × (t.word ≡ 0)
        early = subst (λ (g : Stage). Early g t.round t.word) e x.early

        decides : Follows (moved Decided s t.round t.word t.claim t) (play.decided p.own_claim 0)
        decides = moves Decided s t.round t.word t.claim (play.decided p.own_claim 0) (ap₂ play.decided x.claim early.0) below tt

        begins : Follows (moved Voting s t.round t.word t.decision t) (play.voting s 0 0)
        begins = moves Voting s t.round t.word t.decision (play.voting s 0 0) (ap₂ (play.voting s) early.0 early.1) below tt

        go : (q : Rule)
            → Follows (first_entry (rule_number q) n) (first_of q)
        go rule_1 = choice (eqb n 1) _ _ _ _ (λ w. decides) (λ w. begins)
        go rule_2 = begins

    from_waiting : StepLinked Waiting
    unfolding stepped voted started rules.step_from
    from_waiting e y z =
        kept 0 _ _ (subst (λ (m : ℕ). Follows (first_entry r.rule m) (first_of o.rule)) (sym l.count)
        (subst (λ (m : ℕ). Follows (first_entry m n) (first_of o.rule)) (sym l.rule) (first_same o.rule e)))

    -- the entry that seeking ends with at i, under rule m and with c stations
    abbrev found_of : Rule → ℕ → play.Stage
    found_of q i = rules.stage_after_seek o st q i t.round t.word

    abbrev found_entry : ℕ → ℕ → ℕ → Station
    found_entry m c i =
        cond (eqb m 1)
        (cond (eqb (t.round + 1) (ceil_log2 c)) (moved Decided i t.round t.word (entry r i).claim t) (moved Voting i (next_round t.round) t.word t.decision t))
        (moved FinishVoting i t.round t.word t.decision t)

    found_same : t.round < claim_bits → (q : Rule) (i : ℕ) → i < n → Follows (found_entry (rule_number q) n i) (found_of q i)
    found_same f rule_1 i b =
        subst (λ (m : ℕ). Follows (cond (eqb m (ceil_log2 n)) (moved Decided i t.round t.word (entry r i).claim t) (moved Voting i (next_round t.round) t.word t.decision t)) (found_of rule_1 i)) (sym (add-one t.round))
        (choice (eqb (suc t.round) (ceil_log2 n)) _ _ _ _
        (λ w. moves Decided i t.round t.word (entry r i).claim _ (ap (λ (v : ℕ). play.decided v t.round) (l.entries i b).claim) b tt)
        (λ w.
        moves Voting i (next_round t.round) t.word t.decision _
        (ap (λ (k : ℕ). play.voting i k t.word) (next_round_is t.round f)) b tt))
    found_same f rule_2 i b = moves FinishVoting i t.round t.word t.decision _ refl b tt

    -- what a seeking station looks at, with its cursor on i
    abbrev view_beside : ℕ → View
    view_beside i = record { count = r.count; rule = r.rule; own = t; beside = entry r i; ballot = ballot r 0 }

    found_linked : t.round < claim_bits → (i : ℕ) → i < n → Follows (entry_after_seek (view_beside i) i) (found_of o.rule i)
    unfolding entry_after_seek
    found_linked f i b =
        subst (λ (m : ℕ). Follows (found_entry m r.count i) (found_of o.rule i)) (sym l.rule)
        (subst (λ (c : ℕ). Follows (found_entry (rule_number o.rule) c i) (found_of o.rule i)) (sym l.count)
        (found_same f o.rule i b))

    sought_linked : t.round < claim_bits → (i : ℕ) → i < n → Follows (sought (view_beside i) i) (rules.sought o st s i t.round t.word)
    unfolding sought
    sought_linked f i b =
        subst (λ (u : Bool). Follows (cond u (entry_after_seek (view_beside i) i) (moved Seeking i t.round t.word t.decision t)) (rules.sought o st s i t.round t.word))
        (sym (ap₂ (λ (u : Bool) (v : ℕ). u && low_agree t.round t.word v) (x.holds i) (spelled_same i b)))
        (choice (play.held st s i && low_agree t.round t.word (rules.spelled o st i)) _ _ _ _
        (λ w. found_linked f i b)
        (λ w. moves Seeking i t.round t.word t.decision _ refl b tt))

    from_seeking : StepLinked Seeking
    unfolding stepped voted rules.step_from
    from_seeking e y z =
        kept 0 _ _
        (subst (λ (j : ℕ). Follows (sought (view_beside j) j) (rules.sought o st s ((t.cursor + 1) % n) t.round t.word))
        (sym (ap (λ (m : ℕ). next_cursor m t.cursor) l.count ∙ next_cursor_is n t.cursor a.some_station))
        (sought_linked (low e refl) ((t.cursor + 1) % n) (mod-lt (t.cursor + 1) (omega arith))))

    -- the entry that the finish answer v leads to
    abbrev finish_entry : Bool → Station
    finish_entry v = cond v (moved Decided t.cursor t.round t.word t.word t) (moved Voting t.cursor (next_round t.round) t.word t.decision t)

    finish_same : t.round < claim_bits → (v : Bool) → Follows (finish_entry v) (rules.finished v t.cursor t.round t.word)
    finish_same f true = moves Decided t.cursor t.round t.word t.word _ refl x.cursor tt
    finish_same f false =
        moves Voting t.cursor (next_round t.round) t.word t.decision _
        (ap (λ (k : ℕ). play.voting t.cursor k t.word) (next_round_is t.round f)) x.cursor tt

    from_finish_awaiting : StepLinked FinishAwaiting
    unfolding stepped voted rules.step_from finish_taken stage_number
    from_finish_awaiting e y z =
        let b = finish_ballot t.round in
        let answered : play.answered (st.answer_of b) ≡ true = not_false→true _ (refused_not _ 8 _ refl z).0 in
        kept b _ _
        (subst (λ (v : Bool). Follows (finish_entry (ballot r b).answer) (rules.finished v t.cursor t.round t.word)) (taken_bit b answered) (finish_same (low e refl) (ballot r b).answer))

    from_stage : (g : Stage) → StepLinked g
    from_stage Idle e y z = absurd (idle_refused o st s z)
    from_stage Waiting e y z = from_waiting e y z
    from_stage Voting e y z = from_voting e y z
    from_stage Awaiting e y z = from_awaiting e y z
    from_stage Seeking e y z = from_seeking e y z
    from_stage FinishVoting e y z = from_finish_voting e y z
    from_stage FinishAwaiting e y z = from_finish_awaiting e y z
    from_stage Decided e y z = absurd (decided_refused o st s t.decision t.round z)

    step_effect : stage_number o st s p.stage ≡ 0
        → Linked o (effect_at t.stage) (play.set_station st s (rules.step_from o st s p.stage p))
    step_effect z =
        subst (λ (g : play.Stage). Linked o (effect_at t.stage) (play.set_station st s (rules.step_from o st s g p))) x.stage
        (from_stage t.stage refl (subst Part (sym x.stage) (inv.parts s)) (ap (stage_number o st s) x.stage ∙ z))

  answer_effect : (b v : ℕ) → rules.number o st (answer b v) ≡ 0
      → Linked o (with_ballot b (answering (as_bit v) (ballot r b)) (with_station 0 (entry r 0) r)) (record { station = st.station; answer_of = play.update st.answer_of b (some (as_bit v)) })
  unfolding rules.effect
  answer_effect b v e =
      subst (λ (z : Settlement). Linked o (with_ballot b (answering (as_bit v) (ballot r b)) z) (rules.effect o st (answer b v))) (sym (station_again 0 r))
      (answer_linked o a r st l b (inside b (answer_accepted o st b v e).ballot) (as_bit v))

  pub effect_linked : (e : Event) → rules.number o st e ≡ 0 → Linked o (effect r e) (rules.effect o st e)
  unfolding effect own_after ballot_after rules.effect
  effect_linked (claim s v) z = kept 0 _ _ (claim_effect s v z)
  effect_linked (deliver t s) z = kept 0 _ _ (deliver_effect t s z)
  effect_linked (step s) z = let c = step_accepted o st s z in step_effect s c.station c.stage
  effect_linked (lose s) z = kept 0 _ _ (lose_effect s z)
  effect_linked (answer b v) z = answer_effect b v z
