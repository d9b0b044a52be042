-- The lines by entries are those of the record: LOOK of a station below n is refused just where the record is faulty. Assumes nothing.
use Prim.Native.Nat.{ℕ, zero, suc, ◌<◌}
use mathlib.Core.Path.{◌≡◌, refl, ap}
use mathlib.Core.Bool.{Bool, true, false, cond, not, ◌&&◌}
use mathlib.Core.List.{List, ◌++◌}
use native.Mathlib.Nat.{le_refl, le_step}
use lib.Dec.{eqb}
use lib.ListN.{get_or}
use borrow.Author.Tests.{lt-ltb}
use Rattle.basics.specs.Tests.{refuse, first_met}
use Rattle.entry.specs.declared.entry.Station.{Station}
use Rattle.entry.specs.Entries.{blank_station}
use Rattle.entry.specs.Stages.{is_decided}
use Rattle.settlement.specs.declared.record.Settlement.{Settlement}
use Rattle.settlement.specs.Fault.{fault}
use Rattle.settlement.specs.Look.{Standing, votes, shown_claim, standing, turned_away, looked}
use Rattle.report.specs.Text.{first_line, stage_word, decision_shown, shown_line, station_line, station_lines, text, entry_line, line_in}

-- what LOOK shows of a station below n, whose entry is t
abbrev shown : (n rule : ℕ) → (faulty : Bool) → Station → Standing
shown n rule faulty t = cond (eqb (refuse faulty 42 0) 0) (standing n rule t) (turned_away (refuse faulty 42 0))

as_looked : (n rule : ℕ) (faulty : Bool) (s : ℕ) (t : Station)
    → shown_line s t.stage (not faulty && is_decided t.stage) (shown_claim t) (cond faulty 0 (votes n rule t t.stage)) t.lost
    ≡ shown_line s t.stage (shown n rule faulty t).decided (shown n rule faulty t).claim (shown n rule faulty t).votes t.lost
unfolding shown_line decision_shown
as_looked n rule true s t = refl
as_looked n rule false s t = refl

pub line_by_entry : (r : Settlement) (s : ℕ) → s < r.count → line_in r.count r.rule (fault r) r.stations s ≡ station_line r s
unfolding entry_line station_line looked first_met
line_by_entry r s h = rw (lt-ltb s r.count h, as_looked r.count r.rule (fault r) s (get_or r.stations s blank_station))

same_lines : (f g : ℕ → List ℕ) (n : ℕ) → ((s : ℕ) → s < n → f s ≡ g s) → station_lines f n ≡ station_lines g n
unfolding station_lines
same_lines f g zero h = refl
same_lines f g (suc n) h = rw (same_lines f g n (λ s l. h s (le_step l)), h n (le_refl (suc n)))

pub text_by_entries : (r : Settlement) (events taken status : ℕ)
    → first_line r.count r.rule events taken status ++ station_lines (line_in r.count r.rule (fault r) r.stations) r.count
    ≡ text r events taken status
unfolding text
text_by_entries r events taken status =
    ap (λ (l : List ℕ). first_line r.count r.rule events taken status ++ l) (same_lines _ _ r.count (line_by_entry r))
