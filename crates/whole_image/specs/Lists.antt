-- OPEN into an image, and the image that a log plays to, beside the lists of events on one image. Assumes nothing.
use Rattle.std.specs.Prelude.{ℕ, ◌≡◌, List, length}
use Rattle.basics.specs.Bytes.{InBytes}
use Rattle.consensus.specs.Events.{History, start, Opening, Openable}
use Rattle.settlement.specs.Events.{opened}
use Rattle.settlement.specs.Link.{rule_number}
use Rattle.logs.specs.Run.{ran}
use Rattle.logs.specs.Demand.{Played}
use Rattle.report.specs.Report.{text_of}
use Rattle.image.specs.Image.{image_of}
use Rattle.on_image.specs.Lists.{Stands}
use Rattle.whole_image.specs.Whole.{stored_number, stored, image_text}

pub record WholeLists : Type 0 where
  -- OPEN into any 1,283 bytes is accepted, and what stands there then is where a list of events on an image begins
  pub opens : (b : List ℕ) → length b ≡ 1283 → (o : Opening) → Openable o
      → (stored_number b (opened o.count (rule_number o.rule)).number ≡ 0)
      × Stands o start (stored b (opened o.count (rule_number o.rule)).settlement)
  -- the image that a log plays to is what stands there after the events that RUN played, one by one on an image
  pub plays : (b : List ℕ) → length b ≡ 1283 → (log : List ℕ) (limit : ℕ) (o : Opening) (h : History) → Played log limit (ran log limit) o h
      → Stands o h (stored b (ran log limit).settlement)
  -- and its report, with RUN's events, bytes and status, is the text of what RUN answered
  pub reports : (log : List ℕ) (limit : ℕ) → InBytes log
      → image_text (image_of (ran log limit).settlement) (ran log limit).events (ran log limit).taken (ran log limit).status ≡ text_of (ran log limit)
