-- Two lines that say `decided`: the line of such a station is its `station_line`, taken apart; what LOOK shows of two deciders is the same, by the log's
-- demand, and what they decided was put in by a field that the list is spelled by. Assumes nothing.
use Prim.Native.Nat.{ℕ, ◌+◌, ◌≤◌, ◌<◌}
use mathlib.Core.Path.{◌≡◌, refl, sym, subst, ◌∙◌, ap}
use mathlib.Core.Logic.{◌⊎◌, inl, inr}
use mathlib.Core.Bool.{Bool, true, false, cond}
use mathlib.Core.List.{List, [], ◌∷◌, ◌++◌, append_assoc, append-nil}
use native.Mathlib.Omega.{arith}
use native.Mathlib.Nat.{le_refl}
use lib.Dec.{ltb}
use lib.ListN.{length, drop, get_or}
use borrow.Author.Tests.{lt-ltb}
use Rattle.basics.specs.Tests.{first_met}
use Rattle.basics.proofs.Bools.{no_clash}
use Rattle.consensus.specs.Events.{History, claim, Opening}
use Rattle.consensus.specs.Terms.{PutIn}
use Rattle.consensus.specs.Told.{Listed}
use Rattle.consensus.proofs.Beginnings.{itself}
use Rattle.entry.specs.declared.entry.Stage.{Stage}
use Rattle.entry.specs.declared.entry.Stage.TheVariants.{Idle, Waiting, Voting, Awaiting, Seeking, FinishVoting, FinishAwaiting, Decided}
use Rattle.entry.specs.Entries.{ballots}
use Rattle.entry.specs.Stages.{is_decided}
use Rattle.event.specs.declared.event.Event as declared_event
use Rattle.event.specs.declared.event.Event.TheVariants.{Claim, Deliver, Step, Lose, Answer}
use Rattle.event.specs.Meant.{meant}
use Rattle.settlement.specs.declared.record.Settlement.{Settlement}
use Rattle.settlement.specs.Events.{blank}
use Rattle.settlement.specs.Fault.{fault}
use Rattle.settlement.specs.Record.{entry}
use Rattle.settlement.specs.Look.{Standing, standing, looked}
use Rattle.settlement.specs.Link.{rule_number, record_after}
use Rattle.field.specs.declared.field.Field.TheVariants.{Play}
use Rattle.field.specs.Read.{Found, found}
use Rattle.logs.specs.Run.{ran}
use Rattle.basics.specs.Bytes.{InBytes}
use Rattle.logs.specs.Demand.{Spells, nothing, event, note, Unopened, Played}
use Rattle.logs.proofs.Played.{log_demand}
use Rattle.report.specs.Quoted.{bytes_of}
use Rattle.report.specs.Decimal.{decimal}
use Rattle.report.specs.Text.{named, first_line, stage_word, decision_shown, presence, shown_line, station_line, station_lines, text, too_long_text}
use Rattle.report.specs.Report.{limit, text_of, report}
use Rattle.report.specs.Agreed.{lines_from, lines, PutInByLog, Says, DecidedLines}
use Rattle.report.proofs.Apart.{each, other, no_space, no_letter, apart, line_first, stations_listed, first_words, first_plain, behind, station_words, in_parts, station_plain}

-- ---- a line that says `decided`

abbrev says_decided : ℕ → List ℕ → List ℕ
says_decided p x = decimal p ++ bytes_of " decided " ++ x

-- it begins with no word
no_word : (p : ℕ) (x w a : List ℕ) → each (other 32) w ≡ true → each (λ b. ltb b 58) w ≡ false → w ++ (32 ∷ a) ≡ says_decided p x → ⊥
no_word p x w a plain letters e =
    let t = apart 32 w (decimal p) a (bytes_of "decided " ++ x) plain (no_space p) (e ∙ append_assoc (decimal p) (bytes_of " decided ") x) in
    no_clash (each (λ b. ltb b 58) w) (rw t.0 (no_letter p)) letters

word_no_space : (g : Stage) → each (other 32) (stage_word g) ≡ true
unfolding each
word_no_space Idle = refl
word_no_space Waiting = refl
word_no_space Voting = refl
word_no_space Awaiting = refl
word_no_space Seeking = refl
word_no_space FinishVoting = refl
word_no_space FinishAwaiting = refl
word_no_space Decided = refl

-- no other stage is printed so: the words begin with other letters
decided_word : (g : Stage) → stage_word g ≡ bytes_of "decided" → is_decided g ≡ true
decided_word g e = by_letter g (ap (λ (z : List ℕ). get_or z 0 0) e)
  where
    by_letter : (g : Stage) → get_or (stage_word g) 0 0 ≡ 100 → is_decided g ≡ true
    by_letter Idle e = absurd (omega arith)
    by_letter Waiting e = absurd (omega arith)
    by_letter Voting e = absurd (omega arith)
    by_letter Awaiting e = absurd (omega arith)
    by_letter Seeking e = absurd (omega arith)
    by_letter FinishVoting e = absurd (omega arith)
    by_letter FinishAwaiting e = absurd (omega arith)
    by_letter Decided e = refl

-- the station whose line it is, and what stands behind the word
record StationDecided (r : Settlement) (x : List ℕ) : Type 0 where
  pub station : ℕ
  pub known : station < r.count
  pub stage : is_decided (entry r station).stage ≡ true
  pub shown : x ≡ decision_shown (looked r station).decided (looked r station).claim ++ named " votes " (looked r station).votes
      ++ presence (entry r station).lost

module _ (r : Settlement) (events taken status p : ℕ) (x : List ℕ) where
  line_of : ℕ → List ℕ
  line_of s = station_words s (entry r s).stage (looked r s).decided (looked r s).claim (looked r s).votes (entry r s).lost

  of_station : (s : ℕ) → s < r.count → line_of s ≡ says_decided p x → StationDecided r x
  unfolding line_of each
  of_station s l e =
      let rest = behind s (entry r s).stage (looked r s).decided (looked r s).claim (looked r s).votes (entry r s).lost in
      let parts = in_parts s (entry r s).stage (looked r s).decided (looked r s).claim (looked r s).votes (entry r s).lost in
      let t = apart 32 (decimal s) (decimal p) (stage_word (entry r s).stage ++ (32 ∷ rest)) (bytes_of "decided " ++ x) (no_space s) (no_space p)
      (sym parts ∙ e ∙ append_assoc (decimal p) (bytes_of " decided ") x) in
      let u = apart 32 (stage_word (entry r s).stage) (bytes_of "decided") rest x (word_no_space (entry r s).stage) refl t.1 in
      record { station = s; known = l; stage = decided_word (entry r s).stage u.0; shown = sym u.1 }

  in_text : Listed (says_decided p x) (lines (text r events taken status)) → StationDecided r x
  unfolding text first_line first_words station_line shown_line station_words lines_from line_of each
  in_text h = first (subst (Listed (says_decided p x)) lines_are h)
    where
      start_of : List ℕ
      start_of = first_words r.count r.rule (ballots r.count r.rule) events taken status

      rest : List ℕ
      rest = station_lines (station_line r) r.count

      lines_are : lines (text r events taken status) ≡ start_of ∷ lines rest
      lines_are =
          ap lines (append_assoc start_of (10 ∷ []) rest)
          ∙ line_first [] start_of rest (first_plain r.count r.rule (ballots r.count r.rule) events taken status)

      stations : ((s : ℕ) × (s < r.count) × (line_of s ≡ says_decided p x)) ⊎ Listed (says_decided p x) (lines []) → StationDecided r x
      stations (inl f) = of_station f.0 f.1 f.2
      stations (inr k) = absurd k

      first : Listed (says_decided p x) (start_of ∷ lines rest) → StationDecided r x
      first (inl e) = absurd (no_word p x (bytes_of "stations") _ refl refl e)
      first (inr k) =
          stations
          (stations_listed (station_line r) line_of r.count [] (says_decided p x)
          (λ s. refl)
          (λ s. station_plain s (entry r s).stage (looked r s).decided (looked r s).claim (looked r s).votes (entry r s).lost)
          (subst (λ (z : List ℕ). Listed (says_decided p x) (lines z)) (sym (append-nil rest)) k))

-- `too long` says nothing of the kind
not_too_long : (p : ℕ) (x : List ℕ) → Listed (says_decided p x) (lines too_long_text) → ⊥
unfolding too_long_text lines_from each
not_too_long p x (inl e) = no_word p x (bytes_of "too") (bytes_of "long") refl refl e
not_too_long p x (inr k) = k

-- ---- LOOK, and the log

looks : (r : Settlement) (s : ℕ) → fault r ≡ false → s < r.count → looked r s ≡ standing r.count r.rule (entry r s)
unfolding looked first_met
looks r s clear l = rw (clear, lt-ltb s r.count l)

claim_meant : (s v : ℕ) (e : declared_event.Event) → meant e ≡ claim s v → e ≡ Claim s v
claim_meant s v (Claim t w) q = let a : t ≡ s = cc in let b : w ≡ v = cc in rw (a, b)
claim_meant s v (Deliver t u) q = let z : ◌≡◌ {A = ℕ} 0 1 = cc in absurd (omega arith)
claim_meant s v (Step t) q = let z : ◌≡◌ {A = ℕ} 0 1 = cc in absurd (omega arith)
claim_meant s v (Lose t) q = let z : ◌≡◌ {A = ℕ} 0 1 = cc in absurd (omega arith)
claim_meant s v (Answer b a) q = let z : ◌≡◌ {A = ℕ} 0 1 = cc in absurd (omega arith)

-- the CLAIM that put a claim in is a field of the log
record Claimed (log : List ℕ) (first s v to : ℕ) : Type 0 where
  pub before : History
  pub place : ℕ
  pub spells : Spells log limit first before place
  pub taken : ℕ
  pub field : found (drop place log) ≡ Found (Play (Claim s v)) taken
  pub within : place + taken ≤ to

later : {log : List ℕ} {first s v to : ℕ} (more : ℕ) → Claimed log first s v to → Claimed log first s v (to + more)
later more c =
    let w = c.within in
    record { before = c.before; place = c.place; spells = c.spells; taken = c.taken; field = c.field; within = omega arith }

claimed : (o : Opening) (log : List ℕ) (first s v : ℕ) (h : History) (to : ℕ) → Spells log limit first h to → PutIn o s v h
    → Claimed log first s v to
claimed o log first s v h to nothing x = absurd x
claimed o log first s v h to (event {taken = t} sp b q) (inl x) = later t (claimed o log first s v _ _ sp x)
claimed o log first s v h to (event {e = e} sp b q) (inr x) =
    record { before = _; place = _; spells = sp; taken = _; field = rw (claim_meant s v e x.0) at q; within = le_refl _ }
claimed o log first s v h to (note {taken = t} sp b q) x = later t (claimed o log first s v _ _ sp x)

-- ---- the whole

module _ (log : List ℕ) (x y : List ℕ) where
  abbrev Agrees : Type 0
  Agrees = (v : ℕ) × (k : ℕ) × Says v k x × Says v k y × PutInByLog log v

  module _ (o : Opening) (h : History) (P : Played log limit (ran log limit) o h) where
    abbrev r : Settlement
    r = record_after o h

    decided_there : {z : List ℕ} (d : StationDecided r z) → (looked r d.station).decided ≡ true
    decided_there d = ap (λ (w : Standing). w.decided) (looks r d.station P.in_ranges.no_fault d.known) ∙ d.stage

    says : {z : List ℕ} (d : StationDecided r z) → Says (looked r d.station).claim (looked r d.station).votes z
    unfolding decision_shown
    says d = (
      (entry r d.station).lost,
      d.shown ∙ ap (λ (b : Bool). decision_shown b (looked r d.station).claim ++ named " votes " (looked r d.station).votes ++ presence (entry r d.station).lost) (decided_there d),
    )

    put_in : {z : List ℕ} (d : StationDecided r z) → PutInByLog log (looked r d.station).claim
    put_in d =
        let answers = P.demand3.told h (itself h) in
        let t = (answers.look_exactly d.station).0 (decided_there d) in
        let inside = subst (λ (n : ℕ). d.station < n) P.demand2.shown.1.count d.known in
        let same : (looked r d.station).claim ≡ t.0 = ap (λ (w : Standing). w.claim) (answers.look_decided d.station t.0 inside t.1) in
        let put = P.demand3.demand.validity d.station t.0 t.1 in
        let c = claimed o log P.first put.0 t.0 h (ran log limit).taken P.spells put.1 in
        subst (PutInByLog log) (sym same)
        (record {
          n = o.count;
          rule = rule_number o.rule;
          first = P.first;
          opens = P.opens;
          before = c.before;
          place = c.place;
          spells = c.spells;
          station = put.0;
          taken = c.taken;
          field = c.field;
          within = c.within;
        })

    agreed : StationDecided r x → StationDecided r y → Agrees
    agreed d e =
        let same = P.demand3.looks_agree d.station e.station (decided_there d) (decided_there e) in (
          (looked r d.station).claim,
          (looked r d.station).votes,
          says d,
          subst (λ (w : Standing). Says w.claim w.votes y) (sym same) (says e),
          put_in d,
        )

-- the text of a settlement, with the rest of RUN's answer
abbrev run_text : List ℕ → Settlement → List ℕ
run_text log r = text r (ran log limit).events (ran log limit).taken (ran log limit).status

agree : (log : List ℕ) → InBytes log → (p q : ℕ) (x y : List ℕ) → Listed (says_decided p x) (lines (report log)) → Listed (says_decided q y) (lines (report log))
    → Agrees log x y
unfolding report
agree log bytes p q x y = go (ltb limit (length log))
  where
    by_demand : Listed (says_decided p x) (lines (run_text log (ran log limit).settlement)) → Listed (says_decided q y) (lines (run_text log (ran log limit).settlement))
        → Unopened log limit (ran log limit) ⊎ ((o : Opening) × (h : History) × Played log limit (ran log limit) o h) → Agrees log x y
    by_demand a b (inl u) =
        let d = in_text blank _ _ _ p x (subst (λ (r : Settlement). Listed (says_decided p x) (lines (run_text log r))) u.settlement a) in
        let l = d.known in
        absurd (omega arith)
    by_demand a b (inr (o, h, P)) =
        agreed log x y o h P
        (in_text (record_after o h) _ _ _ p x (subst (λ (r : Settlement). Listed (says_decided p x) (lines (run_text log r))) P.settlement a))
        (in_text (record_after o h) _ _ _ q y (subst (λ (r : Settlement). Listed (says_decided q y) (lines (run_text log r))) P.settlement b))

    go : (b : Bool) → Listed (says_decided p x) (lines (cond b too_long_text (text_of (ran log limit))))
        → Listed (says_decided q y) (lines (cond b too_long_text (text_of (ran log limit)))) → Agrees log x y
    go true a b = absurd (not_too_long p x a)
    go false a b = by_demand a b (log_demand.holds log limit bytes)

pub decided_lines : DecidedLines
unfolding lines_from
decided_lines = record { agree = agree; case_S = refl }
